use Rattle.std.proofs.Common.{◌≡◌, ◌<◌, Some, List, length, get_or, ap, subst, ◌∙◌, arith}
use Rattle.std.specs.Prelude.{slice_get}
use Rattle.std.specs.Option.{option_map}
use Rattle.std.proofs.lemmas.List.{length-map}
use Rattle.std.proofs.lemmas.Option.{slice_get-map, slice_get-get_or}
use Rattle.sabr_index.specs.declared.senders.Incoming.{Incoming}
use Rattle.sabr_index.specs.Links.{SentLink}
use Rattle.sabr_index.specs.Incoming.{passes_named}
use Rattle.sabr_index.proofs.SenderLemmas.{passes_are}
use Rattle.sabr_index.proofs.senders.Senders.head.Goals as goal

pub returns : goal.returns
returns g c =
    let linked = c.self.inside.linked.now in
    let incoming = c.self.inside.incoming.now in
    let place = c.args.place in
    let sent : Incoming → SentLink = λ e. record { sender = e.sender; passes = passes_named linked e } in
    let lt : place < length incoming = omega (arith, c.requires, ap (λ (ss : List SentLink). length ss) c.self.view_is, length-map incoming sent) in
    let none : Incoming = record { sender = 0; place = 0; least_light = 0; soonest = 0; latest_end = 0 } in
    let e = get_or incoming place none in
    let at : slice_get incoming place ≡ Some e = slice_get-get_or incoming place none lt in
    let w = c.self.invariant place e at in
    let passes = passes_are linked e w.0 w.1 w.2 w.3 in (
      passes_named linked e,
      subst (λ (ss : List SentLink). slice_get ss place ≡ Some (sent e)) c.self.view_is (slice_get-map sent incoming place ∙ ap (option_map sent) at),
      rw (passes, ← w.4) w.5.within,
    )
