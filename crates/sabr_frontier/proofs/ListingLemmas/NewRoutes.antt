-- Steps from any well-formed state give new routes, and so do pages with steps back between them.
use Rattle.sabr_frontier.proofs.Names.{◌≡◌, ℕ, zero, suc, true, List, [], ◌∷◌, length, refl, sym, ap, subst, ◌∙◌, ◌⊎◌, inl, inr, arith, true≢false, Some, None, flat_map, Option, put_in, by_numbers, ContactPlan, IsPlan, RouteRequest, is_route, is_path, is_prefix, by_key, least_in, empty_is_prefix, State, Member, InPairs, given, IsState, leaves_in, next_route, one_step, steps, Within, option_map}
use Rattle.sabr_frontier.specs.listing.Fresh.{GivesNewRoutes, PageGiven, Standing, standing_at, page_then, paged, gone_back, after_calls, StandsForNewRoutes, PagesGiveNewRoutes}
use Rattle.sabr_frontier.proofs.ListingLemmas.ClosedTrees.{put_in-In, In_Member, Member_In}
use Rattle.sabr_frontier.proofs.ListingLemmas.FormedSteps.{given_new, leaves_after, formed_after}
use Rattle.sabr_frontier.proofs.ListingLemmas.AllRoutes.{route_filled, routes_apart, route_chains, route_fits, least_some}
use Rattle.sabr_frontier.proofs.SessionLemmas.Pages.{steps_stop, steps_go, steps_none}
use Rattle.sabr_frontier.proofs.ListingLemmas.NextPlace.{carrier}
use Rattle.sabr_frontier.proofs.ListingLemmas.ListMembers.{pairs_two, Member-append_cases}

module _ (p : ContactPlan) (r : RouteRequest) (good : IsPlan p) where
  -- one step from a well-formed state whose least route is x
  record IsNewStep (s : State) (x : List ℕ) : Type 0 where
    stepped : one_step p r s ≡ Some (x, (given (is_route p r) (least_in p r) s x).1)
    formed : IsState p r (given (is_route p r) (least_in p r) s x).1
    route : is_route p r x ≡ true
    new : Member x (leaves_in p r s) → ⊥
    then_has : (y : List ℕ) → (y ≡ x) ⊎ Member y (leaves_in p r s) → Member y (leaves_in p r (given (is_route p r) (least_in p r) s x).1)

  new_step : (s : State) (x : List ℕ) → IsState p r s → next_route p r s ≡ Some x → IsNewStep s x
  new_step s x h e =
      let c = carrier (by_key p r) s.parts x e in
      let least : (q X u : List ℕ) → least_in p r q X ≡ Some u → (is_route p r u ≡ true) × Within q X u = λ q X u g. let w = least_some p r good q X u g in (w.0, w.1) in
      let after = leaves_after (is_route p r) (is_path p r) (is_prefix p r) (routes_apart p r) (route_filled p r) (route_chains p r) (route_fits p r) (empty_is_prefix p r) (least_in p r) least s h c.0 x c.1 c.2 in
      let unseen = given_new (is_route p r) (is_path p r) (is_prefix p r) (routes_apart p r) (route_filled p r) (route_chains p r) (route_fits p r) (empty_is_prefix p r) (least_in p r) least s h c.0 x c.1 c.2 in
      record {
        stepped = ap (option_map (given (is_route p r) (least_in p r) s)) e;
        formed = formed_after (is_route p r) (is_path p r) (is_prefix p r) (routes_apart p r) (route_filled p r) (route_chains p r) (route_fits p r) (empty_is_prefix p r) (least_in p r) least s h c.0 x c.1 c.2;
        route = (h.carried c.0 x c.1 c.2).0;
        new = λ m. true≢false (sym (In_Member x (leaves_in p r s) m) ∙ unseen);
        then_has = λ y m. subst (Member y) (sym after) (Member_In y (put_in by_numbers x (leaves_in p r s)) (put_in-In y x (leaves_in p r s) (elim m [ inl k ↦ inl k | inr k ↦ inr (In_Member y (leaves_in p r s) k) ])));
      }

  stop : (k : ℕ) (s : State) → IsState p r s → steps p r k s ≡ ([], s) → (k ≡ 0) ⊎ (next_route p r s ≡ None) → GivesNewRoutes p r k s
  stop k s h e none = record {
    formed = subst (λ (z : List (List ℕ) × State). IsState p r z.1) (sym e) h;
    routes = λ x m. absurd (nothing x m);
    unseen = λ x m _. nothing x m;
    once = subst (λ (z : List (List ℕ) × State). InPairs (λ x y. x ≡ y → ⊥) z.0) (sym e) tt;
    seen_then = λ x m. elim m [ inl n ↦ absurd (nothing x n) | inr n ↦ subst (λ (z : List (List ℕ) × State). Member x (leaves_in p r z.1)) (sym e) n ];
    first = λ x l n. absurd (elim none [ inl z ↦ omega arith | inr z ↦ (let a = z in let b = n in cc) ]);
    all = elim none [
      | inl z ↦ inl (ap (λ (w : List (List ℕ) × State). length w.0) e ∙ sym z)
      | inr z ↦ inr (ap (λ (w : List (List ℕ) × State). next_route p r w.1) e ∙ z)
    ];
  }
    where
      nothing : (x : List ℕ) → Member x (steps p r k s).0 → ⊥
      nothing x m = subst (λ (z : List (List ℕ) × State). Member x z.0) e m

  pub new_routes : (k : ℕ) (s : State) → IsState p r s → GivesNewRoutes p r k s
  new_routes zero s h = stop 0 s h (steps_none p r s) (inl refl)
  new_routes (suc k) s h = elim (next_route p r s) as (λ o. next_route p r s ≡ o → GivesNewRoutes p r (suc k) s) [
    | None ↦ λ e. stop (suc k) s h (steps_stop p r s (suc k) (ap (option_map (given (is_route p r) (least_in p r) s)) e)) (inr e)
    | Some x ↦ λ e.
        let n = new_step s x h e in
        let t : State = (given (is_route p r) (least_in p r) s x).1 in
        let rest = new_routes k t n.formed in
        let go = steps_go p r s t x k n.stepped in
        let given_is : (steps p r (suc k) s).0 ≡ x ∷ (steps p r k t).0 = ap (λ (z : List (List ℕ) × State). z.0) go in
        let then_is : (steps p r (suc k) s).1 ≡ (steps p r k t).1 = ap (λ (z : List (List ℕ) × State). z.1) go in
        let among : (y : List ℕ) → Member y (steps p r (suc k) s).0 → (y ≡ x) ⊎ Member y (steps p r k t).0 = λ y m. subst (Member y) given_is m in
        record {
          formed = subst (IsState p r) (sym then_is) rest.formed;
          routes = λ y m. elim (among y m) [ inl a ↦ ap (is_route p r) a ∙ n.route | inr a ↦ rest.routes y a ];
          unseen = λ y m l. elim (among y m) [ inl a ↦ n.new (subst (λ z. Member z (leaves_in p r s)) a l) | inr a ↦ rest.unseen y a (n.then_has y (inr l)) ];
          once = subst (InPairs (λ x y. x ≡ y → ⊥)) (sym given_is) ((λ y m a. rest.unseen y m (n.then_has y (inl (sym a)))), rest.once);
          seen_then = λ y m. subst (λ z. Member y (leaves_in p r z)) (sym then_is) (elim m [
            | inl a ↦ elim (among y a) [ inl b ↦ rest.seen_then y (inr (n.then_has y (inl b))) | inr b ↦ rest.seen_then y (inl b) ]
            | inr a ↦ rest.seen_then y (inr (n.then_has y (inr a)))
          ]);
          first = λ z l f. let same : x ≡ z = let a = e in let b = f in cc in ((steps p r k t).0, given_is ∙ ap (λ w. w ∷ (steps p r k t).0) same);
          all = elim rest.all [
            | inl a ↦ inl (ap (length {A = List ℕ}) given_is ∙ ap suc a)
            | inr a ↦ inr (ap (next_route p r) then_is ∙ a)
          ];
        }
  ] refl

-- ---- the pages that weren't taken back since a well-formed state gave new routes

module _ (p : ContactPlan) (r : RouteRequest) (good : IsPlan p) (s : State) (start : IsState p r s) where
  -- each page that wasn't taken back gave what steps from the state before it give, and led to the state after it; the
  -- first of them began with s
  abbrev Stands : State → List PageGiven → Type 0
  Stands t [] = t ≡ s
  Stands t (page ∷ pages) = ((k : ℕ) × (steps p r k page.start ≡ (page.routes, t))) × Stands page.start pages

  -- steps that give no route lead nowhere
  nowhere : (k : ℕ) (t : State) → (steps p r k t).0 ≡ [] → (steps p r k t).1 ≡ t
  nowhere zero t e = ap (λ (z : List (List ℕ) × State). z.1) (steps_none p r t)
  nowhere (suc k) t e = by_step (one_step p r t) refl
    where
      by_step : (o : Option (List ℕ × State)) → one_step p r t ≡ o → (steps p r (suc k) t).1 ≡ t
      by_step None is = ap (λ (z : List (List ℕ) × State). z.1) (steps_stop p r t (suc k) is)
      by_step (Some w) is =
          let some : w.0 ∷ (steps p r k w.1).0 ≡ [] = sym (ap (λ (z : List (List ℕ) × State). z.0) (steps_go p r t w.1 w.0 k is)) ∙ e in
          absurd cc

  stands_paged : (k : ℕ) (t : Standing) → Stands t.state t.pages → Stands (paged p r k t).state (paged p r k t).pages
  stands_paged k t h = by_routes (steps p r k t.state).0 (steps p r k t.state).1 refl
    where
      by_routes : (xs : List (List ℕ)) (u : State) → steps p r k t.state ≡ (xs, u) → Stands u (page_then xs t.state t.pages)
      by_routes [] u is =
          let same : u ≡ t.state = sym (ap (λ (z : List (List ℕ) × State). z.1) is) ∙ nowhere k t.state (ap (λ (z : List (List ℕ) × State). z.0) is) in
          subst (λ (v : State). Stands v t.pages) (sym same) h
      by_routes (x ∷ xs) u is = ((k, is), h)

  stands_back : (t : Standing) → Stands t.state t.pages → Stands (gone_back t).state (gone_back t).pages
  stands_back t h = by_pages t.pages h
    where
      by_pages : (pages : List PageGiven) → Stands t.state pages → (λ (u : Standing). Stands u.state u.pages) (gone_back (record { state = t.state; pages = pages }))
      by_pages [] h = h
      by_pages (page ∷ pages) h = h.1

  stands_then : (calls : List (Option ℕ)) (t : Standing) → Stands t.state t.pages → (λ (u : Standing). Stands u.state u.pages) (after_calls p r calls t)
  stands_then [] t h = h
  stands_then (Some k ∷ calls) t h = stands_then calls (paged p r k t) (stands_paged k t h)
  stands_then (None ∷ calls) t h = stands_then calls (gone_back t) (stands_back t h)

  -- what the pages gave is new, and is counted as given then
  record AreNew (t : State) (given : List (List ℕ)) : Type 0 where
    pub formed : IsState p r t
    pub routes : (x : List ℕ) → Member x given → is_route p r x ≡ true
    pub unseen : (x : List ℕ) → Member x given → Member x (leaves_in p r s) → ⊥
    pub once : InPairs (λ x y. x ≡ y → ⊥) given
    pub seen_then : (x : List ℕ) → Member x given ⊎ Member x (leaves_in p r s) → Member x (leaves_in p r t)

  are_new : (t : State) (pages : List PageGiven) → Stands t pages → AreNew t (flat_map (λ (page : PageGiven). page.routes) pages)
  are_new t [] h = record {
    formed = subst (IsState p r) (sym h) start;
    routes = λ x m. absurd m;
    unseen = λ x m _. m;
    once = tt;
    seen_then = λ x m. elim m [ inl n ↦ absurd n | inr n ↦ subst (λ (u : State). Member x (leaves_in p r u)) (sym h) n ];
  }
  are_new t (page ∷ pages) h =
      let before = are_new page.start pages h.1 in
      let k = h.0.0 in
      let new = new_routes p r good k page.start before.formed in
      let given : (steps p r k page.start).0 ≡ page.routes = ap (λ (z : List (List ℕ) × State). z.0) h.0.1 in
      let then_is : (steps p r k page.start).1 ≡ t = ap (λ (z : List (List ℕ) × State). z.1) h.0.1 in
      let back : (x : List ℕ) → Member x page.routes → Member x (steps p r k page.start).0 = λ x m. subst (Member x) (sym given) m in
      let rest = flat_map (λ (page : PageGiven). page.routes) pages in
      record {
        formed = subst (IsState p r) then_is new.formed;
        routes = λ x m. elim (Member-append_cases x page.routes rest m) [ inl n ↦ new.routes x (back x n) | inr n ↦ before.routes x n ];
        unseen = λ x m l. elim (Member-append_cases x page.routes rest m) [
          | inl n ↦ new.unseen x (back x n) (before.seen_then x (inr l))
          | inr n ↦ before.unseen x n l
        ];
        once = pairs_two (λ (x y : List ℕ). x ≡ y → ⊥) page.routes rest (subst (InPairs (λ (x y : List ℕ). x ≡ y → ⊥)) given new.once) before.once
            (λ x y m n e. new.unseen x (back x m) (before.seen_then x (inl (subst (λ (z : List ℕ). Member z rest) (sym e) n))));
        seen_then = λ x m. subst (λ (u : State). Member x (leaves_in p r u)) then_is (elim m [
          | inl n ↦ elim (Member-append_cases x page.routes rest n) [
            | inl a ↦ new.seen_then x (inl (back x a))
            | inr b ↦ new.seen_then x (inr (before.seen_then x (inl b)))
          ]
          | inr l ↦ new.seen_then x (inr (before.seen_then x (inr l)))
        ]);
      }

  stand_for_new : (calls : List (Option ℕ)) → StandsForNewRoutes p r s (after_calls p r calls (standing_at s))
  stand_for_new calls =
      let t = after_calls p r calls (standing_at s) in
      let new = are_new t.state t.pages (stands_then calls (standing_at s) refl) in
      record { formed = new.formed; routes = new.routes; unseen = new.unseen; once = new.once; next = λ k. new_routes p r good k t.state new.formed }

pub pages_give_new_routes : PagesGiveNewRoutes
pages_give_new_routes p r s calls good start = stand_for_new p r good s start calls
