use Rattle.std.proofs.Common.{add-one, ◌≡◌, ℕ, suc, List, [], ◌∷◌, ◌++◌, drop, length, slice_set, take, sym, ap, subst, ◌∙◌}
use Rattle.sabr_model.specs.routes.Record.{RouteRecord}
use Rattle.libcgrlist.specs.Buffers.{row_of}
use Rattle.libcgrlist.proofs.PageLemmas.{row_set}
use Rattle.libcgrlist.proofs.buffers.write_route.Goals as goal

pub returns-clause-row : goal.returns-clause-row
returns-clause-row c =
    let rows = c.args.rows.now in
    let row = row_of c.args.first c.args.route.now in
    let hops : length c.as_slice-numbers.result.now ≡ length c.args.route.now.contacts = ap (λ (z : List ℕ). length z) (c.as_slice-numbers.ensures ∙ ap (λ (a : RouteRecord). a.contacts) c.route.view_is) in
    rw (hops, add-one)
    (subst (λ (a : RouteRecord). slice_set rows c.args.at (record row { delivery = a.delivery; until = a.until; entry = a.entry }) ≡ take c.args.at rows ++ row ∷ [] ++ drop (suc c.args.at) rows)
    (sym c.route.view_is) (row_set rows c.args.at row c.requires.row))
