use Rattle.libcgrlist.proofs.StandingLemmas.{back_acts, loaded_begin, next_acts, opened_begin}
use Rattle.libcgrlist.proofs.listing.listings_stand.Goals as goal

pub returns : goal.returns
returns c = record { opened = opened_begin; loaded = loaded_begin; next = next_acts; back = back_acts }
