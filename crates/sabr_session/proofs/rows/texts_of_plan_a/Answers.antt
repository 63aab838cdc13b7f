use Rattle.sabr_session.proofs.SessionRowProofs.{start, one, two, three, old}
use Rattle.sabr_session.proofs.rows.texts_of_plan_a.Goals as goal

pub returns-clause-start : goal.returns-clause-start
returns-clause-start c = start

pub returns-clause-one : goal.returns-clause-one
returns-clause-one c = one

pub returns-clause-two : goal.returns-clause-two
returns-clause-two c = two

pub returns-clause-three : goal.returns-clause-three
returns-clause-three c = three

pub returns-clause-old : goal.returns-clause-old
returns-clause-old c = old
