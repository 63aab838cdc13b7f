-- Following a list of contacts hop by hop.
use Rattle.std.proofs.Common.{◌≡◌, ℕ, zero, suc, ◌+◌, ◌<◌, ◌≤◌, max, Bool, true, false, cond, ◌||◌, eqb, List, [], ◌∷◌, ◌++◌, length, get_or, take, drop, slice_get, refl, sym, ap, ◌∙◌, arith, add-one, drop-cons, length-take-le}
use Rattle.std.specs.Prelude.{IsTrue, is_none, is_some, nat_lt, unwrap_or}
use Rattle.std.specs.Option.{option_map, option_map_or}
use Rattle.std.specs.declared.option.Option.{Option}
use Rattle.std.specs.declared.option.Option.TheVariants.{Some, None}
use Rattle.std.proofs.lemmas.Bool.{eqb-true, ltb-true}
use Rattle.std.proofs.lemmas.List.{take_more, take_all}
use Rattle.std.proofs.lemmas.Option.{get_or_from_slice_get, slice_get_within}
use Rattle.sabr_model.specs.declared.contact.Contact.{Contact}
use Rattle.sabr_model.specs.declared.fault.HopFault.{HopFault}
use Rattle.sabr_model.specs.declared.fault.HopFault.TheVariants.{WrongEnd}
use Rattle.sabr_model.specs.declared.following.FollowedPath.{FollowedPath}
use Rattle.sabr_model.specs.declared.route_summary.RouteSummary.{RouteSummary}
use Rattle.sabr_model.specs.plan.Plan.{ContactPlan, TabledPlan, IsPlan, contact_named}
use Rattle.sabr_model.specs.plan.Light.{light_of}
use Rattle.sabr_model.specs.routes.Arrival.{RouteRequest, arrival, cost}
use Rattle.sabr_model.specs.routes.Route.{delivery_of, ends_at, is_route}
use Rattle.sabr_model.specs.declared.following.Reached.{Reached}
use Rattle.sabr_model.specs.routes.Following.{IsFollowedPath, IsReachedBy}
use Rattle.sabr_model.specs.routes.Telling.{summary_of}
use Rattle.sabr_model.specs.routes.Fault.{fault_at, fault_of, fault_or, first_fault}
use Rattle.sabr_model.specs.routes.Asking.{IsRequest}
use Rattle.sabr_plan.specs.Times.{last_spelled}
use Rattle.sabr_frontier.proofs.GivingLemmas.KeptKeys.{arrival_bound}
use Rattle.sabr_model.proofs.RouteLemmas.Follows.{ends_elsewhere, ends_in_time, ends_there, front_is_good}
use Rattle.sabr_model.proofs.RouteLemmas.Paths.{arrival_after_push}
use Rattle.sabr_session.specs.Hops.{IsFollowed, hop_after, placed_after, told_after, told_of}

-- the times of a hop can be spelled
pub spelled_times : (p : ContactPlan) (r : RouteRequest) (t u n : ℕ) (c : Contact) → IsPlan p → IsRequest r → contact_named p n ≡ Some c → arrival p r t c ≡ Some u
    → (max t c.start ≤ last_spelled) × (u ≤ last_spelled)
spelled_times p r t u n c rules limits named arrives =
    let window = ends_in_time p n c rules named in
    let early = sent_before_end (nat_lt (max t c.start) c.end) refl arrives in
    let most = arrival_bound p r t u c rules limits.margin window arrives in
    (omega (arith, early, window), omega (arith, most))
  where
    sent_before_end : (b : Bool) → nat_lt (max t c.start) c.end ≡ b → cond b (option_map (λ l. max t c.start + cost r.margin l) (light_of p c)) None ≡ Some u → max t c.start < c.end
    sent_before_end true is e = ltb-true (max t c.start) c.end is
    sent_before_end false is e = absurd cc

-- the number at a place of a list, and the two parts of the list
record At (s : List ℕ) (i n : ℕ) : Type 0 where
  pub less : i < length s
  pub behind : drop i s ≡ n ∷ drop (i + 1) s
  pub more : take (i + 1) s ≡ take i s ++ n ∷ []

at_place : (s : List ℕ) (i n : ℕ) → slice_get s i ≡ Some n → At s i n
at_place s i n e =
    let less = slice_get_within s i n e in
    let is : get_or s i 0 ≡ n = get_or_from_slice_get s i n 0 e in
    record {
      less = less;
      behind = drop-cons s i 0 less ∙ ap (λ m. m ∷ drop (suc i) s) is ∙ ap (λ k. n ∷ drop k s) (sym (add-one i));
      more = take_more s i 0 less ∙ ap (λ m. take i s ++ m ∷ []) is;
    }

-- what is told after some numbers begins with the hop over the next one, if it has no fault
pub next_told : (p : ContactPlan) (r : RouteRequest) (s : List ℕ) (i n u : ℕ) (c : Contact) (here : Reached) → slice_get s i ≡ Some n → fault_at p r (take i s) n ≡ None → contact_named p n ≡ Some c → IsReachedBy p r (take i s) here → arrival p r here.at c ≡ Some u
    → told_of placed_after p r (take i s) (drop i s) ≡ record { place = i + 1; hop = record { contact = c; sent = max here.at c.start; arrival = u } } ∷ told_of placed_after p r (take (i + 1) s) (drop (i + 1) s)
next_told p r s i n u c here e good named reached arrives =
    let at = at_place s i n e in
    let front = take i s in
    let left = told_of placed_after p r (front ++ n ∷ []) (drop (i + 1) s) in
    let long : length front ≡ i = length-take-le i s (let l = at.less in omega arith) in
    let on = arrival_after_push p r r.at front n c here.at u named reached.at arrives in
    ap (told_of placed_after p r front) at.behind
    ∙ ap (λ o. cond (is_none o) (told_after placed_after p r front n ++ left) []) good
    ∙ ap (λ o. option_map_or (λ d. placed_after front (hop_after p r front n d)) o [] ++ left) named
    ∙ ap (λ k. record { place = k + 1; hop = hop_after p r front n c } ∷ left) long
    ∙ ap (λ o. record { place = i + 1; hop = record { contact = c; sent = max (unwrap_or o 0) c.start; arrival = delivery_of p r (front ++ n ∷ []) } } ∷ left) reached.at
    ∙ ap (λ o. record { place = i + 1; hop = record { contact = c; sent = max here.at c.start; arrival = unwrap_or o 0 } } ∷ left) on
    ∙ ap (λ q. record { place = i + 1; hop = record { contact = c; sent = max here.at c.start; arrival = u } } ∷ told_of placed_after p r q (drop (i + 1) s)) (sym at.more)

-- the first fault of the numbers of a list is the list's
on_the_way : (p : ContactPlan) (r : RouteRequest) (s : List ℕ) (f : HopFault) → 0 < length s → first_fault p r [] s ≡ Some f → fault_of p r s ≡ Some f
on_the_way p r [] f some e = absurd (omega arith)
on_the_way p r (n ∷ s) f some e = ap (λ o. fault_or o (cond (ends_at p r (n ∷ s)) None (Some WrongEnd))) e

-- none is left before a fault, which is that of the whole list
pub stopped : (p : TabledPlan) (r : RouteRequest) (s : List ℕ) (i n : ℕ) (path path' : FollowedPath) (summary : RouteSummary) (fault : Option HopFault) (f : HopFault)
    → IsFollowed p r s i path summary fault → path' ≡ path → slice_get s i ≡ Some n → fault_at p.plan r (take i s) n ≡ Some f → IsFollowed p r s i path' summary (Some f)
stopped p r s i n path path' summary fault f so_far same e bad =
    let at = at_place s i n e in
    record {
      within = so_far.within;
      path = rw same so_far.path;
      summed = so_far.summed;
      stops = rw (at.behind) (ap (λ o. cond (is_none o) (told_after placed_after p.plan r (take i s) n ++ told_of placed_after p.plan r (take i s ++ n ∷ []) (drop (i + 1) s)) []) bad);
      faulty = on_the_way p.plan r s f (let l = at.less in omega arith)
          (front_is_good p.plan r s i so_far.path.path ∙ ap (first_fault p.plan r (take i s)) at.behind ∙ ap (λ o. fault_or o (first_fault p.plan r (take i s ++ n ∷ []) (drop (i + 1) s))) bad);
    }

-- one more hop was followed
pub followed_on : (p : TabledPlan) (r : RouteRequest) (s : List ℕ) (i n : ℕ) (path more : FollowedPath) (summary longer : RouteSummary) (fault : Option HopFault)
    → IsFollowed p r s i path summary fault → fault ≡ None → slice_get s i ≡ Some n → IsFollowedPath p r (take i s ++ n ∷ []) more → longer ≡ summary_of p.plan (take i s ++ n ∷ []) → IsFollowed p r s (i + 1) more longer fault
followed_on p r s i n path more summary longer fault so_far none e on summed =
    let at = at_place s i n e in
    record {
      within = let l = at.less in omega arith;
      path = rw (at.more) on;
      summed = rw (at.more) summed;
      stops = rw none tt;
      faulty = rw none tt;
    }

pub none_of : {X : Type 0} (o : Option X) → is_some o ≡ false → o ≡ None
none_of None e = refl
none_of (Some x) e = absurd cc

pub none_left : {X : Type 0} (o : Option X) → ((x : X) → o ≡ Some x → ⊥) → o ≡ None
none_left None h = refl
none_left (Some x) h = absurd (h x refl)

pub some_left : (n : ℕ) → eqb n 0 ≡ false → 0 < n
some_left zero e = absurd cc
some_left (suc n) e = omega arith

-- all were followed, so the list ends at the destination or elsewhere
over_at_end : (o : Option HopFault) (n m : ℕ) → o ≡ None → IsTrue (is_some o || eqb n m) → n ≡ m
over_at_end o n m none over = eqb-true n m (rw none at over)

pub is_a_route : (p : TabledPlan) (r : RouteRequest) (s : List ℕ) (i : ℕ) (path : FollowedPath) (summary : RouteSummary) (fault : Option HopFault)
    → IsFollowed p r s i path summary fault → fault ≡ None → IsTrue (is_some fault || eqb i (length s)) → 0 < length s → path.here.node ≡ r.destination → IsTrue (is_route p.plan r s)
is_a_route p r s i path summary fault so_far none over some same =
    let whole : take i s ≡ s = take_all i s (let e = over_at_end fault i (length s) none over in omega arith) in
    ends_there p.plan r s path.here some (rw whole at so_far.path.path) (rw whole at so_far.path.reached) same

pub has_wrong_end : (p : TabledPlan) (r : RouteRequest) (s : List ℕ) (i : ℕ) (path : FollowedPath) (summary : RouteSummary) (fault : Option HopFault)
    → IsFollowed p r s i path summary fault → fault ≡ None → IsTrue (is_some fault || eqb i (length s)) → 0 < length s → (path.here.node ≡ r.destination → ⊥) → fault_of p.plan r s ≡ Some WrongEnd
has_wrong_end p r s i path summary fault so_far none over some other =
    let whole : take i s ≡ s = take_all i s (let e = over_at_end fault i (length s) none over in omega arith) in
    ends_elsewhere p.plan r s path.here some (rw whole at so_far.path.path) (rw whole at so_far.path.reached) other
