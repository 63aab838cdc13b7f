use Rattle.std.proofs.Common.{◌≡◌, ℕ, ◌≤◌, ◌+◌, List, length, refl, sym, ap, ◌∙◌, subst, arith}
use Rattle.std.proofs.lemmas.List.{take_all}
use Rattle.sabr_model.specs.routes.Record.{RouteRecord}
use Rattle.libcgrlist.specs.Buffers.{contacts_of}
use Rattle.libcgrlist.proofs.PageLemmas.{counted_so_far}
use Rattle.libcgrlist.proofs.buffers.count_contacts.Goals as goal

pub loop-route-init : goal.loop-route-init
loop-route-init c = record { counted = refl; few = omega arith }

pub overflow_add-count : goal.overflow_add-count
overflow_add-count c =
    let hops : length c.as_slice.result.now ≡ length c.route-item.result.contacts = ap (λ (z : List ℕ). length z) (c.as_slice.ensures ∙ ap (λ (b : RouteRecord). b.contacts) c.route.view_is) in
    let small : length c.route-item.result.contacts ≤ 20000 = subst (λ (a : RouteRecord). length a.contacts ≤ 20000) (sym c.route-item.is) (c.requires.short c.loop-route.route-index c.route-item.result c.loop-route-test.true) in
    omega (arith, hops, small, c.loop-route.invariant.few, c.requires.few, c.loop-route-test.true)

pub loop-route-preserved : goal.loop-route-preserved
loop-route-preserved c =
    let hops : length c.as_slice.result.now ≡ length c.route-item.result.contacts = ap (λ (z : List ℕ). length z) (c.as_slice.ensures ∙ ap (λ (b : RouteRecord). b.contacts) c.route.view_is) in
    let small : length c.route-item.result.contacts ≤ 20000 = subst (λ (a : RouteRecord). length a.contacts ≤ 20000) (sym c.route-item.is) (c.requires.short c.loop-route.route-index c.route-item.result c.loop-route-test.true) in
    record {
      counted = ap (λ (n : ℕ). c.loop-route.count + n) hops ∙ counted_so_far c.args.routes.now c.loop-route.route-index c.route-item.result c.loop-route.count c.loop-route-test.true c.route-item.is c.loop-route.invariant.counted;
      few = omega (arith, hops, small, c.loop-route.invariant.few);
    }

pub returns : goal.returns
returns c = c.loop-route.invariant.counted ∙ ap (λ (xs : List RouteRecord). length (contacts_of xs)) (take_all c.loop-route.route-index c.args.routes.now (omega (arith, c.loop-route-test.false)))
