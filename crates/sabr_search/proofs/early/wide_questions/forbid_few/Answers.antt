use Rattle.std.proofs.Common.{◌≢◌, Bool, true, false, List, [], length, slice_index_or, slice_set, inl, inr, ap, sym, ◌∙◌, arith}
use Rattle.std.proofs.lemmas.List.{get_or_past, get_or-set_other, get_or-set_same, length-set}
use Rattle.std.proofs.lemmas.Bool.{cases_lt, both_ways}
use Rattle.std.proofs.lemmas.Option.{slice_get-get_or}
use Rattle.sabr_search.specs.questions.Task.{SearchTask, IsTask, IsOfRequest, is_forbidden}
use Rattle.sabr_search.specs.questions.PrefixPath.{AreForbidden}
use Rattle.sabr_search.specs.answers.Answers.{narrowed, ForbidsFewer}
use Rattle.sabr_search.proofs.early.wide_questions.forbid_few.Goals as goal

module _ (task : SearchTask) (is : IsTask task) (request : IsOfRequest task) (forbidden : List Bool) (are : AreForbidden task.table forbidden (is_forbidden task.plan task.request [])) where
  abbrev here : List Bool
  here = slice_set forbidden task.start true

  fewer_forbidden : ForbidsFewer task here
  fewer_forbidden = record {
    many = length-set forbidden task.start true ∙ are.many ∙ sym is.as_many;
    start = get_or-set_same forbidden task.start true false (omega (arith, are.many, is.start_in));
    opens = λ k open'.
        let other : k ≢ task.start = λ same. both_ways (slice_index_or task.forbidden task.start false) (sym (ap (λ j. slice_index_or task.forbidden j false) same) ∙ open') is.start_forbidden in
        get_or-set_other forbidden task.start k true false other ∙ elim (cases_lt k (length task.table)) [
          | inl within ↦
              (let at = slice_get-get_or task.table k 0 within in
              are.flag k _ at ∙ request.closes k _ at open')
          | inr past ↦ get_or_past forbidden k false (omega (arith, past, are.many))
        ];
  }

  of_request_still : IsOfRequest (narrowed task here task.at)
  of_request_still = record {
    goal_is = request.goal_is;
    since = request.since;
    closes = λ k x at open'.
        let other : k ≢ task.start = λ same. both_ways (slice_index_or here task.start false) (sym (ap (λ j. slice_index_or here j false) same) ∙ open') (get_or-set_same forbidden task.start true false (omega (arith, are.many, is.start_in))) in
        sym (are.flag k x at) ∙ sym (get_or-set_other forbidden task.start k true false other) ∙ open';
  }

pub reset-requires : goal.reset-requires
reset-requires g c = omega (arith, c.node_count.ensures, c.requires.task.as_many, c.requires.task.few)

pub returns-clause-fewer : goal.returns-clause-fewer
returns-clause-fewer g c = rw (c.in_ok-put.ensures, c.start.ensures) (fewer_forbidden c.args.task.now c.requires.task c.requires.request _ (rw (c.plan.ensures, c.request.ensures) at c.in_ok-forbid_source_and_avoided.ensures))

pub returns-clause-request : goal.returns-clause-request
returns-clause-request g c = rw (c.in_ok-put.ensures, c.start.ensures) (of_request_still c.args.task.now c.requires.task c.requires.request _ (rw (c.plan.ensures, c.request.ensures) at c.in_ok-forbid_source_and_avoided.ensures))
