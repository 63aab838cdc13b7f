use Rattle.sabr_frontier.proofs.Names.{◌≡◌, ◌+◌, ◌++◌, ◌∷◌, [], take, arith, sym, ap, ◌∙◌, take_all, take_more, RouteRecord}
use Rattle.sabr_frontier.proofs.giving.give_page.copies.Goals as goal

pub loop-place-preserved : goal.loop-place-preserved
loop-place-preserved g c =
    let s = c.args.routes.now in
    let i = c.loop-place.place in
    let x = c.index-routes-place.result in
    let inside = c.route.inside in
    let numbers = c.new.ensures ∙ c.in_ok-contacts.ensures.items ∙ c.as_slice.ensures in
    let more : take (i + 1) s ≡ take i s ++ x ∷ [] = take_more s i x c.loop-place-test.true ∙ ap (λ (z : RouteRecord). take i s ++ z ∷ []) (sym c.index-routes-place.is) in
    record {
      items = c.push_reserved.ensures.items
          ∙ (λ j. c.loop-place.invariant.items j ++ record { contacts = numbers j; delivery = inside.delivery; until = inside.until; entry = inside.entry } ∷ [])
          ∙ ap (λ (z : RouteRecord). take i s ++ z ∷ []) c.route.view_is ∙ sym more;
      count = omega (arith, c.push_reserved.ensures.len, c.loop-place.invariant.count);
      room = omega (arith, c.push_reserved.ensures.capacity, c.loop-place.invariant.room);
    }

pub returns : goal.returns
returns g c = c.loop-place.invariant.items ∙ take_all c.loop-place.place c.args.routes.now c.loop-place-test.false
