use Rattle.std.proofs.Common.{◌≡◌, ◌+◌, ◌-◌, length, map, sym, ap, ◌∙◌, arith}
use Rattle.libcgrlist.specs.PlanTexts.{free_from, free_start}
use Rattle.libcgrlist.proofs.PlanTextPieces.{any_start, free_here, free_last, free_next}
use Rattle.libcgrlist.proofs.plan_text.free_start.Goals as goal

pub loop-place-init : goal.loop-place-init
loop-place-init c = ap (λ n. free_from n 0 (map (λ d. d.start) c.args.contacts.now)) (omega arith)

pub returns-then-not-has_start : goal.returns-then-not-has_start
unfolding free_start
returns-then-not-has_start c =
    let starts = map (λ d. d.start) c.args.contacts.now in
    sym (free_here (length c.args.contacts.now - c.loop-place.place) c.loop-place.place starts (sym (any_start c.loop-place.place c.args.contacts.now) ∙ sym c.has_start.ensures ∙ c.if-not-has_start.true)) ∙ c.loop-place.invariant

pub loop-place-preserved : goal.loop-place-preserved
loop-place-preserved c =
    let starts = map (λ d. d.start) c.args.contacts.now in
    let n = length c.args.contacts.now in
    let place = c.loop-place.place in
    sym (free_next (n - place) (n - (place + 1)) place starts (sym (any_start c.loop-place.place c.args.contacts.now) ∙ sym c.has_start.ensures ∙ c.if-not-has_start.false) (omega (arith, c.loop-place-test.true))) ∙ c.loop-place.invariant

pub returns : goal.returns
unfolding free_start
returns c =
    let starts = map (λ d. d.start) c.args.contacts.now in
    let n = length c.args.contacts.now in
    let place = c.loop-place.place in
    let all : n ≡ place = omega (arith, c.loop-place-test.false, c.loop-place.auto.place-end) in
    all ∙ sym (free_last (n - place) place starts (omega (arith, all))) ∙ c.loop-place.invariant
