use Rattle.std.proofs.Common.{◌≡◌, ◌<◌, ◌++◌, ◌∷◌, [], ◌∙◌, ℕ, List, length, map, get_or, sym, ap, arith, append_assoc}
use Rattle.std.proofs.lemmas.List.{get_or-map, length-map}
use Rattle.std.proofs.lemmas.List.Elements.{All-push}
use Rattle.sabr_model.specs.declared.contact.Contact.{Contact}
use Rattle.sabr_index.specs.declared.link.Pass.{Pass}
use Rattle.sabr_index.specs.Linking.{numbers_at, IsBounded}
use Rattle.sabr_index.proofs.LinkLemmas.{passes_more, passes_skip}
use Rattle.sabr_index.proofs.building.push_passes.Goals as goal
use Rattle.sabr_index.proofs.building.push_passes.Goals.{in-Some+in_ok-push, in_default}

pub loop-place-preserved : goal.loop-place-preserved
loop-place-preserved g c =
    let p = c.args.plan.now in
    let places = c.args.places.now in
    let numbers = numbers_at p.plan.contacts places in
    let i = c.loop-place.place-index in
    let number_of : ℕ → ℕ = λ k. get_or (map (λ (d : Contact). d.number) p.plan.contacts) k 0 in
    let n = number_of (get_or places i 0) in
    let lt : i < length numbers = omega (arith, c.loop-place-test.true, length-map places number_of) in
    let here : n ≡ get_or numbers i n = sym (get_or-map number_of places i 0 n c.loop-place-test.true) in
    let h = c.loop-place.invariant in
    elim c.match-pass_of.branch [
      | in-Some+in_ok-push w ↦
          let x = w.in-Some.pass in
          rw w.passes-is (
            h.0 ++ x ∷ [],
            w.in_ok-push.ensures.items ∙ ap (λ (xs : List Pass). xs ++ x ∷ []) h.1 ∙ append_assoc _ h.0 (x ∷ []),
            passes_more p numbers i n x h.0 lt here h.2 w.in-Some.ensures,
            All-push IsBounded h.0 x h.3 w.in-Some.ensures.2,
          )
      | in_default w ↦ rw w.passes-is (h.0, h.1, passes_skip p numbers i n h.0 lt here h.2 w.in_default.ensures, h.3)
    ]
