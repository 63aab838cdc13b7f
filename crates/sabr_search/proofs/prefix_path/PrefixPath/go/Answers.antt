use Rattle.std.proofs.Common.{◌≡◌, ℕ, ◌+◌, ◌-◌, ◌<◌, ◌++◌, Some, None, length, vec_len, take, slice_index, slice_get, refl, ap, sym, subst, ◌∙◌, arith}
use Rattle.std.proofs.lemmas.List.{take_all}
use Rattle.std.proofs.lemmas.Option.{slice_get-get_or, slice_get_within}
use Rattle.sabr_model.specs.declared.contact.Contact.{Contact}
use Rattle.sabr_model.proofs.ListLemmas.Different.{part_at}
use Rattle.sabr_model.proofs.RouteLemmas.Paths.{IsHop}
use Rattle.sabr_search.specs.declared.prefix_path.Stop.{Stop}
use Rattle.sabr_search.specs.questions.Task.{is_forbidden}
use Rattle.sabr_search.specs.questions.PrefixPath.{AreForbidden, IsStop, AreStops}
use Rattle.sabr_search.proofs.LinkLemmas.PlanFacts.{has_nodes, hop_small}
use Rattle.sabr_search.proofs.WayLemmas.Prefixes.{prefix_facts}
use Rattle.sabr_search.proofs.WayLemmas.PrefixPaths.{forbidden_more, closed_more, hop_at, stop_after, arrival_at, taken_back, same_stops, stops_more, behind_passed, task_passed}
use Rattle.sabr_search.proofs.WayLemmas.Shortness.{nodes_few}
use Rattle.sabr_search.proofs.prefix_path.PrefixPath.go.Goals as goal

pub allow-requires : goal.allow-requires
allow-requires g c =
    let stops = c.loop-self.self.stops.items in
    let k = vec_len c.loop-self.self.stops - 1 in
    let at : slice_get stops k ≡ Some c.in-Some.stop = slice_get-get_or stops k c.in-Some.stop (omega (arith, c.loop-self.invariant.front)) ∙ sym (c.pop.ensures.value c.in-Some.stop (omega (arith, c.loop-self.invariant.front))) ∙ c.in-Some.is in
    let here = c.loop-self.invariant.stops k c.in-Some.stop at in
    omega (arith, c.loop-self.invariant.forbids.many, slice_get_within c.args.plan.now.table c.in-Some.stop.node here.last_node here.stands)

pub loop-self-preserved : goal.loop-self-preserved
loop-self-preserved g c =
    let p = c.args.plan.now in
    let r = c.args.request.now in
    let numbers = c.args.self.now.numbers.items in
    let so_far = c.loop-self.invariant in
    let stops = c.loop-self.self.stops.items in
    let forbidden = c.loop-self.self.forbidden in
    let stop = c.in-Some.stop in
    let fewer : length c.pop.new.self.items + 1 ≡ length stops = omega (arith, c.in-Some.ensures.cases) in
    let long : c.common_front-front.result + 1 < length stops = omega (arith, c.loop-self-test.true, c.len.ensures) in
    let k = vec_len c.loop-self.self.stops - 1 in
    let at : slice_get stops k ≡ Some stop = slice_get-get_or stops k stop (omega (arith, long)) ∙ sym (c.pop.ensures.value stop (omega (arith, long))) ∙ c.in-Some.is in
    let i = length c.pop.new.self.items - 1 in
    let k_is : k ≡ i + 1 = omega (arith, fewer, long) in
    let last : length stops - 1 ≡ i + 1 = omega (arith, fewer, long) in
    let start : (j : ℕ) → j ≡ 0 + j = λ j. omega arith in
    record {
      front = omega (arith, fewer, long);
      many = omega (arith, fewer, so_far.many);
      stops = λ j s old. so_far.stops j s (ap (slice_get stops) (start j) ∙ (part_at stops 0 _ j s (ap (λ xs. slice_get xs j) (sym c.pop.ensures.rest) ∙ old)).1);
      forbids = rw c.allow.ensures
          (taken_back p r (has_nodes p c.requires.prefix_path.tabled) numbers c.requires.prefix_path.fits forbidden i stop (omega (arith, fewer, long, so_far.many))
          (subst (λ m. IsStop p r (take m numbers) stop) k_is (so_far.stops k stop at)) (subst (λ m. AreForbidden p.table forbidden (is_forbidden p.plan r (take m numbers))) last so_far.forbids));
      numbers = so_far.numbers;
      goal_is = so_far.goal_is;
    }

pub loop-place-init : goal.loop-place-init
loop-place-init g c =
    let p = c.args.plan.now in
    let r = c.args.request.now in
    let numbers = c.args.self.now.numbers.items in
    let prefix = c.args.prefix.now in
    let so_far = c.loop-self.invariant in
    let front = c.common_front-front.result in
    let stops = c.loop-self.self.stops.items in
    let same : take front numbers ≡ take front prefix = ap (take front) (sym c.deref.ensures.value) ∙ c.common_front-front.ensures.same in
    let many : length stops ≡ front + 1 = omega (arith, c.loop-self-test.false, c.len.ensures, so_far.front) in
    let all : AreStops p r prefix stops = same_stops p r numbers prefix front stops same many so_far.stops in
    let last : length stops - 1 ≡ front = omega (arith, many) in
    let at : slice_get stops front ≡ Some c.index-here.result.now = slice_get-get_or stops front c.index-here.result.now (omega (arith, many)) ∙ ap Some (sym c.index-here.ensures) in
    record {
      counted = refl;
      many = many;
      stops = all;
      here = all front c.index-here.result.now at;
      forbids = subst (λ q. AreForbidden p.table c.loop-self.self.forbidden (is_forbidden p.plan r q)) (ap (λ k. take k numbers) last ∙ same) so_far.forbids;
      goal_is = so_far.goal_is;
    }

pub unreachable-requires-in_default-hop : goal.unreachable-requires-in_default-hop
unreachable-requires-in_default-hop g c =
    let prefix = c.args.prefix.now in
    let i = c.loop-place.place in
    let step = hop_at c.args.plan.now.plan c.args.request.now prefix c.requires.fits i (slice_index prefix i) (slice_get-get_or prefix i 0 c.loop-place-test.true) in
    let e : None ≡ Some step.contact = sym (rw c.in_default-hop.is at c.follow-followed.ensures.hop) ∙ step.named in cc

pub unreachable-requires-in_default-arrive : goal.unreachable-requires-in_default-arrive
unreachable-requires-in_default-arrive g c =
    let prefix = c.args.prefix.now in
    let i = c.loop-place.place in
    let n = slice_index prefix i in
    let step = hop_at c.args.plan.now.plan c.args.request.now prefix c.requires.fits i n (slice_get-get_or prefix i 0 c.loop-place-test.true) in
    let a = arrival_at c.args.plan.now c.args.request.now (take i prefix) n step c.loop-place.here c.loop-place.invariant.here c.in-Some-hop.hop (rw c.in-Some-hop.is at c.follow-followed.ensures.hop) in
    let e : None ≡ Some step.arrived = sym c.in_default-arrive.is ∙ c.arrive.ensures ∙ a.2 in cc

pub arrive-requires : goal.arrive-requires
arrive-requires g c = hop_small c.args.plan.now c.requires.prefix_path.plan _ c.in-Some-hop.hop (rw c.in-Some-hop.is at c.follow-followed.ensures.hop)

pub put-requires : goal.put-requires
put-requires g c =
    let hop = rw c.in-Some-hop.is at c.follow-followed.ensures.hop in
    omega (arith, c.loop-place.invariant.forbids.many, slice_get_within c.args.plan.now.table c.in-Some-hop.hop.receiver hop.contact.to hop.is.receiver)

pub loop-place-preserved : goal.loop-place-preserved
loop-place-preserved g c =
    let p = c.args.plan.now in
    let r = c.args.request.now in
    let prefix = c.args.prefix.now in
    let i = c.loop-place.place in
    let n = slice_index prefix i in
    let so_far = c.loop-place.invariant in
    let at : slice_get prefix i ≡ Some n = slice_get-get_or prefix i 0 c.loop-place-test.true in
    let step : IsHop p.plan r (take i prefix) n = hop_at p.plan r prefix c.requires.fits i n at in
    let hop = rw c.in-Some-hop.is at c.follow-followed.ensures.hop in
    let a = arrival_at p r (take i prefix) n step c.loop-place.here so_far.here c.in-Some-hop.hop hop in
    let there : c.in-Some-arrive.at ≡ step.arrived = (let q : Some c.in-Some-arrive.at ≡ Some step.arrived = sym c.in-Some-arrive.is ∙ c.arrive.ensures ∙ a.2 in cc (q)) in
    let to : slice_get p.table c.in-Some-hop.hop.receiver ≡ Some step.contact.to = hop.is.receiver ∙ ap (λ (d : Contact). Some d.to) a.0 in
    let next : Stop = record { node = c.in-Some-hop.hop.receiver; at = c.in-Some-arrive.at; summary = c.follow-followed.result.summary } in
    let here : IsStop p r (take (i + 1) prefix) next = stop_after p r prefix i n at step c.loop-place.here next so_far.here to (a.1 ∙ ap Some (sym there)) c.follow-followed.ensures.summary in
    record {
      counted = omega (arith, so_far.counted, c.follow-followed.ensures.counted);
      many = ap length c.in_ok-push.ensures.items ∙ (stops_more p r prefix i c.loop-place.self.stops.items next so_far.many so_far.stops here).0;
      stops = subst (AreStops p r prefix) (sym c.in_ok-push.ensures.items) (stops_more p r prefix i c.loop-place.self.stops.items next so_far.many so_far.stops here).1;
      here = here;
      forbids = rw c.in_ok-put.ensures (forbidden_more p.plan p.table (has_nodes p c.requires.prefix_path.tabled) c.loop-place.self.forbidden (is_forbidden p.plan r (take i prefix)) (is_forbidden p.plan r (take (i + 1) prefix)) c.in-Some-hop.hop.receiver step.contact.to so_far.forbids to (closed_more p.plan r prefix i n step.contact at step.named));
      goal_is = so_far.goal_is;
    }

pub returns-clause-prefix_path : goal.returns-clause-prefix_path
returns-clause-prefix_path g c =
    let p = c.args.plan.now in
    let r = c.args.request.now in
    let prefix = c.args.prefix.now in
    let so_far = c.loop-place.invariant in
    let prefix_path = c.requires.prefix_path in
    let all : c.loop-place.place ≡ length prefix = omega (arith, c.loop-place-test.false, c.loop-place.auto.place-end, c.common_front-front.ensures.within_other) in
    let numbers : c.extend_from_slice.new.self.items ≡ prefix = c.in_ok-extend_from_slice.ensures.items ∙ ap (λ xs. xs ++ prefix) c.clear.ensures.items in
    let whole : take c.loop-place.place prefix ≡ c.extend_from_slice.new.self.items = take_all c.loop-place.place prefix (omega (arith, all)) ∙ sym numbers in
    record {
      plan = prefix_path.plan;
      tabled = prefix_path.tabled;
      nodes = prefix_path.nodes;
      asked = prefix_path.asked;
      fits = rw numbers c.requires.fits;
      many = so_far.many ∙ ap (λ k. k + 1) (all ∙ ap length (sym numbers));
      stops = subst (λ q. AreStops p r q c.loop-place.self.stops.items) (sym numbers) so_far.stops;
      forbids = subst (λ q. AreForbidden p.table c.loop-place.self.forbidden (is_forbidden p.plan r q)) whole so_far.forbids;
      goal_is = ap (slice_get p.table) so_far.goal_is ∙ prefix_path.goal_is;
    }

pub returns-clause-entered : goal.returns-clause-entered
returns-clause-entered g c = λ excluded.
    let p = c.args.plan.now in
    let r = c.args.request.now in
    let prefix = c.args.prefix.now in
    let so_far = c.loop-place.invariant in
    let prefix_path = c.requires.prefix_path in
    let nodes = has_nodes p prefix_path.tabled in
    let whole : take c.loop-place.place prefix ≡ prefix = take_all c.loop-place.place prefix (omega (arith, c.loop-place-test.false)) in
    let here : IsStop p r prefix c.loop-place.here = rw whole at so_far.here in
    let forbids : AreForbidden p.table c.loop-place.self.forbidden (is_forbidden p.plan r prefix) = rw whole at so_far.forbids in
    let goal_is = ap (slice_get p.table) so_far.goal_is ∙ prefix_path.goal_is in (
      task_passed p r prefix c.loop-place.self.forbidden c.loop-place.here here forbids nodes c.loop-place.self.goal goal_is excluded prefix_path.plan (nodes_few p prefix_path.plan prefix_path.tabled) prefix_path.asked (prefix_facts p.plan r prefix c.requires.fits),
      behind_passed p r prefix c.loop-place.self.forbidden c.loop-place.here here forbids nodes c.loop-place.self.goal goal_is excluded,
    )
