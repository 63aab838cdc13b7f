use Rattle.std.proofs.Common.{◌≡◌, suc, ◌∷◌, ◌∙◌, ap, slice_get, arith}
use Rattle.sabr_search.proofs.links.leave_link.begun.Goals as goal

pub started-requires : goal.started-requires
started-requires c = λ i k x y le at_i at_k.
    let whole : c.args.passes.now ≡ c.in-Some.field-0-0.now ∷ c.in-Some.rest.now = c.in-Some.ensures.cases.0 in
    c.requires (suc i) (suc k) x y (omega (arith, le)) (ap (λ ps. slice_get ps (suc i)) whole ∙ at_i) (ap (λ ps. slice_get ps (suc k)) whole ∙ at_k)
