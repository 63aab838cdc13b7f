use Rattle.std.proofs.Common.{◌≡◌, ◌∷◌, ℕ, List, Some, None, length, slice_get, take, sym, ap, subst, ◌+◌, drop, ◌∙◌, rules}
use Rattle.std.proofs.lemmas.Bool.{ltb-true}
use Rattle.std.proofs.lemmas.Option.{slice_get-get_or}
use Rattle.sabr_model.specs.declared.contact.Contact.{Contact}
use Rattle.sabr_session.specs.Hops.{Followed, hops_left, placed_after, told_of}
use Rattle.sabr_session.proofs.Following.{followed_on, next_told, none_of, spelled_times, stopped}
use Rattle.sabr_session.proofs.hops.Hops.next.Goals as goal

pub invariant_of-self : goal.invariant_of-self
invariant_of-self g c =
    let t = c.self.inside in
    let s : List ℕ = t.contacts.now in
    let n : ℕ = c.in_ok-number.field-0.now in
    let lookup = (c.in_ok-number.ensures {u = tt}).lookup in
    let at : slice_get s t.count ≡ Some n = slice_get-get_or s t.count _ (ltb-true t.count (length s) (sym lookup.0)) ∙ ap Some (sym lookup.1) in
    let none : t.fault ≡ None = none_of t.fault (search rules) in
    followed_on t.plan.now t.request.now s t.count n t.path _ t.summary _ t.fault c.self.invariant none at c.in-Ok.ensures.path c.extended-self-inside.ensures

pub invariant_of-self-in-Err : goal.invariant_of-self-in-Err
invariant_of-self-in-Err g c =
    let t = c.self.inside in
    let s : List ℕ = t.contacts.now in
    let n : ℕ = c.in_ok-number.field-0.now in
    let lookup = (c.in_ok-number.ensures {u = tt}).lookup in
    let at : slice_get s t.count ≡ Some n = slice_get-get_or s t.count _ (ltb-true t.count (length s) (sym lookup.0)) ∙ ap Some (sym lookup.1) in
    stopped t.plan.now t.request.now s t.count n t.path _ t.summary t.fault c.in-Err.fault c.self.invariant c.in-Err.ensures.same at c.in-Err.ensures.err

pub returns-in-Ok-clause-hop : goal.returns-in-Ok-clause-hop
returns-in-Ok-clause-hop g c =
    let t = c.self.inside in
    let s : List ℕ = t.contacts.now in
    let n : ℕ = c.in_ok-number.field-0.now in
    let lookup = (c.in_ok-number.ensures {u = tt}).lookup in
    let at : slice_get s t.count ≡ Some n = slice_get-get_or s t.count _ (ltb-true t.count (length s) (sym lookup.0)) ∙ ap Some (sym lookup.1) in
    let hop = c.in-Ok.ensures {u = tt} in
    let contact : Contact = c.in-Ok.hop.contact.now in
    let u : ℕ = c.in-Ok.hop.arrived in
    let rest = told_of placed_after t.plan.now.plan t.request.now (take (t.count + 1) s) (drop (t.count + 1) s) in
    subst (λ (f : Followed). hops_left f ≡ record { place = t.count + 1; hop = record { contact = contact; sent = c.max.result; arrival = u } } ∷ rest) c.self.view_is
    (next_told t.plan.now.plan t.request.now s t.count n u contact t.path.here at hop.good hop.contact c.self.invariant.path.reached hop.arrives
    ∙ ap (λ sent. record { place = t.count + 1; hop = record { contact = contact; sent = sent; arrival = u } } ∷ rest) (sym c.max.ensures))

pub returns-in-Ok-clause-times : goal.returns-in-Ok-clause-times
returns-in-Ok-clause-times g c =
    let t = c.self.inside in
    let hop = c.in-Ok.ensures {u = tt} in
    let times = spelled_times t.plan.now.plan t.request.now t.path.here.at c.in-Ok.hop.arrived c.in_ok-number.field-0.now c.in-Ok.hop.contact.now c.self.invariant.path.rules c.limits_hold.ensures hop.contact hop.arrives in
    (rw c.max.ensures times.0, times.1)
