use Rattle.sabr_frontier.proofs.Names.{◌∙◌, sym, ap, length, take, not, same_text, other_text}
use Rattle.sabr_frontier.proofs.ListingLemmas.NumbersAfter.{begins_otherwise, ends_there, goes_there}
use Rattle.sabr_frontier.proofs.loader.carrying.goes_on.Goals as goal

pub returns-in_default : goal.returns-in_default
returns-in_default c =
    let p = c.args.prefix.now in
    let s = c.args.numbers.now in
    sym (begins_otherwise p c.args.excluded.now s (other_text (take (length p) s) p (sym c.in_default.ensures.cases)))

pub returns-in_default-first : goal.returns-in_default-first
returns-in_default-first c =
    let p = c.args.prefix.now in
    let s = c.args.numbers.now in
    sym (ends_there p c.args.excluded.now s c.in-Some.rest.now (same_text (take (length p) s) p (sym c.in-Some.ensures.cases.0)) c.in-Some.ensures.cases.1 (sym c.in_default-first.ensures.value))

pub returns : goal.returns
returns c =
    let p = c.args.prefix.now in
    let s = c.args.numbers.now in
    ap not c.holds.ensures ∙ goes_there p c.args.excluded.now s c.in-Some.rest.now c.in-Some-first.next.now (same_text (take (length p) s) p (sym c.in-Some.ensures.cases.0)) c.in-Some.ensures.cases.1 c.in-Some-first.ensures.value
