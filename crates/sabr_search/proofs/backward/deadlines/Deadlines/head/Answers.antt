use Rattle.std.proofs.Common.{◌<◌, slice_index, sym, arith}
use Rattle.sabr_search.proofs.ForwardLemmas.LayerEntries.{read_at}
use Rattle.sabr_search.proofs.WholeLemmas.Chained.{head_none, head_some}
use Rattle.sabr_search.proofs.backward.deadlines.Deadlines.head.Goals as goal

pub overflow_add-result : goal.overflow_add-result
overflow_add-result g c =
    let own = c.args.self.now in
    let some : 0 < slice_index own.deadline.items c.args.node = omega (arith, read_at own.deadline.items c.args.node c.index-deadline.result.now c.requires.deadline c.index-deadline.ensures, c.if-deadline-eq0.false) in
    omega (arith, read_at own.place.items c.args.node c.index-last.result.now c.requires.place c.index-last.ensures, head_some own.deadline.items own.place.items c.args.node some, c.requires.within, own.entries.ok.0, own.entries.ok.1, own.entries.small)

pub returns-then-deadline-eq0 : goal.returns-then-deadline-eq0
returns-then-deadline-eq0 g c =
    let own = c.args.self.now in
    sym (head_none own.deadline.items own.place.items c.args.node (omega (arith, read_at own.deadline.items c.args.node c.index-deadline.result.now c.requires.deadline c.index-deadline.ensures, c.if-deadline-eq0.true)))

pub returns : goal.returns
returns g c =
    let own = c.args.self.now in
    let some : 0 < slice_index own.deadline.items c.args.node = omega (arith, read_at own.deadline.items c.args.node c.index-deadline.result.now c.requires.deadline c.index-deadline.ensures, c.if-deadline-eq0.false) in
    omega (arith, read_at own.place.items c.args.node c.index-last.result.now c.requires.place c.index-last.ensures, head_some own.deadline.items own.place.items c.args.node some)
