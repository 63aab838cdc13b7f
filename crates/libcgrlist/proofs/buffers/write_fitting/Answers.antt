use Rattle.std.proofs.Common.{◌≡◌, ℕ, List, length, ap, ◌∙◌, arith}
use Rattle.sabr_model.specs.routes.Record.{RouteRecord}
use Rattle.libcgrlist.specs.Buffers.{buffers}
use Rattle.libcgrlist.proofs.PageLemmas.{none_so_far, one_so_far, no_row_left, no_numbers_left, all_written, contacts_len}
use Rattle.libcgrlist.proofs.buffers.write_fitting.Goals as goal

pub loop-at-init : goal.loop-at-init
loop-at-init c = none_so_far c.args.routes.now (buffers c.args.rows.now c.args.contacts.now)

pub overflow_sub-contacts : goal.overflow_sub-contacts
overflow_sub-contacts c =
    let len = contacts_len c.args.routes.now (buffers c.args.rows.now c.args.contacts.now) (buffers c.loop-at.rows c.loop-at.contacts) c.loop-at.at c.loop-at.first c.loop-at.invariant in
    omega (arith, c.loop-at.invariant.fits, len)

pub returns-then-rows-at : goal.returns-then-rows-at
returns-then-rows-at c = no_row_left c.args.routes.now c.loop-at.at c.index-routes-at.result c.loop-at-test.true c.index-routes-at.is (buffers c.args.rows.now c.args.contacts.now) (buffers c.loop-at.rows c.loop-at.contacts) c.loop-at.first c.loop-at.invariant c.if-rows-at.true

pub returns-then-contacts-first : goal.returns-then-contacts-first
returns-then-contacts-first c =
    let a = c.index-routes-at.result in
    let hops : length c.as_slice-hops.result.now ≡ length a.contacts = ap (λ (z : List ℕ). length z) (c.as_slice-hops.ensures ∙ ap (λ (b : RouteRecord). b.contacts) c.route.view_is) in
    let len = contacts_len c.args.routes.now (buffers c.args.rows.now c.args.contacts.now) (buffers c.loop-at.rows c.loop-at.contacts) c.loop-at.at c.loop-at.first c.loop-at.invariant in
    no_numbers_left c.args.routes.now c.loop-at.at a c.loop-at-test.true c.index-routes-at.is (buffers c.args.rows.now c.args.contacts.now) (buffers c.loop-at.rows c.loop-at.contacts) c.loop-at.first c.loop-at.invariant (omega (arith, hops, c.if-contacts-first.true, c.loop-at.invariant.fits, len))

pub write_route-requires-clause-room : goal.write_route-requires-clause-room
write_route-requires-clause-room c =
    let hops : length c.as_slice-hops.result.now ≡ length c.index-routes-at.result.contacts = ap (λ (z : List ℕ). length z) (c.as_slice-hops.ensures ∙ ap (λ (b : RouteRecord). b.contacts) c.route.view_is) in
    let len = contacts_len c.args.routes.now (buffers c.args.rows.now c.args.contacts.now) (buffers c.loop-at.rows c.loop-at.contacts) c.loop-at.at c.loop-at.first c.loop-at.invariant in
    omega (arith, hops, c.if-contacts-first.false, c.loop-at.invariant.fits, len)

pub loop-at-preserved : goal.loop-at-preserved
loop-at-preserved c =
    let a = c.index-routes-at.result in
    let hops : length c.as_slice-hops.result.now ≡ length a.contacts = ap (λ (z : List ℕ). length z) (c.as_slice-hops.ensures ∙ ap (λ (b : RouteRecord). b.contacts) c.route.view_is) in
    let len = contacts_len c.args.routes.now (buffers c.args.rows.now c.args.contacts.now) (buffers c.loop-at.rows c.loop-at.contacts) c.loop-at.at c.loop-at.first c.loop-at.invariant in
    let one = one_so_far c.args.routes.now c.loop-at.at a c.loop-at-test.true c.index-routes-at.is (buffers c.args.rows.now c.args.contacts.now) (buffers c.loop-at.rows c.loop-at.contacts) (buffers c.write_route.new.rows c.write_route.new.contacts) c.loop-at.first c.loop-at.invariant
    c.if-rows-at.false (omega (arith, hops, c.if-contacts-first.false, c.loop-at.invariant.fits, len)) c.write_route.ensures.row c.write_route.ensures.contacts in
    rw hops one

pub returns : goal.returns
returns c = all_written c.args.routes.now (buffers c.args.rows.now c.args.contacts.now) (buffers c.loop-at.rows c.loop-at.contacts) c.loop-at.at c.loop-at.first c.loop-at.invariant (omega (arith, c.loop-at-test.false))
