use Rattle.sabr_frontier.proofs.Names.{sym, ap, ◌∙◌, list_any, is_lt, by_record, LeavesComeFirst, shape_of, shown}
use Rattle.sabr_frontier.proofs.SessionLemmas.Verdicts.{first_none, above_end, above_some, passed, reached, refused, decided}
use Rattle.sabr_frontier.proofs.tree.Tree.is_placed.Goals as goal
use Rattle.sabr_frontier.proofs.tree.Tree.is_placed.Goals.{in-Some+else-is_passed+in-Some-next_carried+else-not-is_below, in-Some+else-is_passed+in_default-next_carried, in_default}

pub returns-then-is_passed-clause-placed : goal.returns-then-is_passed-clause-placed
returns-then-is_passed-clause-placed g c =
    let p = c.args.searcher.now.asked.plan.plan in
    let r = c.args.searcher.now.asked.request in
    let t = shape_of c.args.self.now in
    let x = c.in-Some.last.now in
    let found = sym (ap (list_any (λ y. is_lt (by_record x y))) c.as_slice.ensures.value) ∙ sym c.is_passed.ensures ∙ c.if-is_passed.true in
    refused p r c.requires.plan t c.requires.tree (passed p r c.requires.plan t c.requires.tree x (sym c.in-Some.ensures) found)

pub returns-then-not-is_below-clause-placed : goal.returns-then-not-is_below-clause-placed
returns-then-not-is_below-clause-placed g c =
    let p = c.args.searcher.now.asked.plan.plan in
    let r = c.args.searcher.now.asked.request in
    let t = shape_of c.args.self.now in
    refused p r c.requires.plan t c.requires.tree (reached p r c.requires.plan t c.requires.tree c.in-Some.last.now c.in-Some-next_carried.next.now (sym c.in-Some.ensures) c.in-Some-next_carried.ensures.some (sym c.is_below.ensures ∙ c.if-not-is_below.true))

pub returns-clause-placed : goal.returns-clause-placed
returns-clause-placed g c =
    let p = c.args.searcher.now.asked.plan.plan in
    let r = c.args.searcher.now.asked.request in
    let t = shape_of c.args.self.now in
    let first : LeavesComeFirst p r (shown t) = elim c.match-last_given.branch [
      | in-Some+else-is_passed+in-Some-next_carried+else-not-is_below w ↦
          above_some p r c.requires.plan t c.requires.tree w.in-Some.last.now w.in-Some-next_carried.next.now (sym w.in-Some.ensures)
          (sym (ap (list_any (λ y. is_lt (by_record w.in-Some.last.now y))) w.as_slice.ensures.value) ∙ sym w.is_passed.ensures ∙ w.if-is_passed.false)
          w.in-Some-next_carried.ensures.some (sym w.is_below.ensures ∙ w.if-not-is_below.false)
      | in-Some+else-is_passed+in_default-next_carried w ↦
          above_end p r c.requires.plan t c.requires.tree w.in-Some.last.now (sym w.in-Some.ensures)
          (sym (ap (list_any (λ y. is_lt (by_record w.in-Some.last.now y))) w.as_slice.ensures.value) ∙ sym w.is_passed.ensures ∙ w.if-is_passed.false)
          w.in_default-next_carried.ensures.none
      | in_default w ↦ first_none p r c.requires.plan t c.requires.tree (sym w.in_default.ensures)
    ] in
    decided p r c.requires.plan t c.requires.tree c.carries_least.result first c.carries_least.ensures.least
