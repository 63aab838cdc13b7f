use Rattle.sabr_session.proofs.TextLemmas.TextsRead.{is_read_back, are_apart}
use Rattle.sabr_session.proofs.laws.law7.Goals as goal

pub returns : goal.returns
returns c = λ p good. record { read_back = is_read_back p good; apart = are_apart p good }
