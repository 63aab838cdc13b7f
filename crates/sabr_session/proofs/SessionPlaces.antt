-- Pages of a list, one after the other, and where a session stands after pages, refusals and steps back, or once its text
-- is verified.
use Rattle.std.proofs.Common.{◌≡◌, ℕ, zero, suc, ◌+◌, ◌≤◌, List, ◌∷◌, [], ◌++◌, length, take, drop, sym, ap, ◌∙◌, arith, length-drop, refl, subst, length-append, Option, Some, None, true, inl, inr, Ok}
use Rattle.std.proofs.Math.Seq.{take-nil}
use Rattle.std.proofs.lemmas.List.{drop-drop, length-take}
use Rattle.sabr_model.specs.plan.Plan.{ContactPlan, IsPlan, TabledPlan}
use Rattle.sabr_model.specs.routes.Arrival.{RouteRequest}
use Rattle.sabr_model.specs.routes.Asking.{IsRequest}
use Rattle.sabr_model.specs.routes.Listing.{routes, page_of}
use Rattle.std.specs.Prelude.{is_some}
use Rattle.sabr_frontier.specs.listing.State.{State}
use Rattle.sabr_frontier.specs.listing.Listing.{next_route, state_at, steps, one_step}
use Rattle.sabr_frontier.specs.session.Session.{Seen, former_then}
use Rattle.sabr_frontier.proofs.ListingLemmas.Lawful.{steps_follow, state_at_formed}
use Rattle.sabr_frontier.proofs.SessionLemmas.Pages.{steps_stop, steps_go, steps_none}
use Rattle.sabr_session.specs.SessionPlaces.{Act, paged, refused, back, no_back, Leaves, LeaveInTurn, without_latest, pages_left, after_pages, all_asked, IsPlaced, IsNextPage, place_then, PagesStand, TextsArePlaced}
use Rattle.sabr_plan.specs.Canonical.{digest_of}
use Rattle.sabr_session.specs.SessionRead.{IsSessionOf}
use Rattle.sabr_session.specs.Verifying.{IsSessionText}
use Rattle.sabr_session.proofs.TextLemmas.TextsRead.{answers_once, is_read_back}

take_then : {X : Type 0} (k n : ℕ) (xs : List X) → take k xs ++ take n (drop (length (take k xs)) xs) ≡ take (k + n) xs
take_then zero n xs = ap (λ m. take m xs) (none n)
  where
    none : (n : ℕ) → n ≡ 0 + n
    none n = omega arith
take_then (suc k) n [] = take-nil n ∙ sym (take-nil (suc k + n))
take_then (suc k) n (x ∷ xs) =
    let one : suc (k + n) ≡ suc k + n = omega arith in
    ap (λ ys. x ∷ ys) (take_then k n xs) ∙ ap (λ m. take m (x ∷ xs)) one

module _ (p : ContactPlan) (r : RouteRequest) (good : IsPlan p) (accepted : IsRequest r) where
  -- the place after a page
  pub next_within : (i k : ℕ) → i ≤ length (routes p r) → i + length (page_of p r i k) ≤ length (routes p r)
  next_within i k h = omega (arith, length-take k (drop i (routes p r)), length-drop i (routes p r))

  -- two pages, one after the other
  pub pages_joined : (i k n : ℕ) → page_of p r i k ++ page_of p r (i + length (page_of p r i k)) n ≡ page_of p r i (k + n)
  pages_joined i k n =
      ap (λ xs. page_of p r i k ++ take n xs) (sym (drop-drop (length (page_of p r i k)) i (routes p r))) ∙ take_then k n (drop i (routes p r))

-- ---- after any pages, refusals and steps back a session is that of the pages not taken back

-- steps that give no route lead nowhere
no_step : (p : ContactPlan) (r : RouteRequest) (k : ℕ) (s : State) (o : Option (List ℕ × State)) → one_step p r s ≡ o → (steps p r (suc k) s).0 ≡ [] → (steps p r (suc k) s).1 ≡ s
no_step p r k s None is none = ap (λ (w : List (List ℕ) × State). w.1) (steps_stop p r s (suc k) is)
no_step p r k s (Some w) is none =
    let some : w.0 ∷ (steps p r k w.1).0 ≡ [] = sym (ap (λ (v : List (List ℕ) × State). v.0) (steps_go p r s w.1 w.0 k is)) ∙ none in
    absurd cc

nowhere : (p : ContactPlan) (r : RouteRequest) (k : ℕ) (s : State) → (steps p r k s).0 ≡ [] → (steps p r k s).1 ≡ s
nowhere p r zero s none = ap (λ (w : List (List ℕ) × State). w.1) (steps_none p r s)
nowhere p r (suc k) s none = no_step p r k s (one_step p r s) refl none

module _ (x : Seen) where
  abbrev at : List ℕ → State × List State
  at sizes = after_pages x.plan.plan x.request x.state sizes

  abbrev page_at : ℕ → List ℕ → List (List ℕ) × State
  page_at k sizes = steps x.plan.plan x.request k (at sizes).0

  -- each of the pages gave a route
  abbrev AllGave : List ℕ → Type 0
  AllGave [] = Unit {0}
  AllGave (k ∷ sizes) = ((first : List ℕ) × (rest : List (List ℕ)) × ((page_at k sizes).0 ≡ first ∷ rest)) × AllGave sizes

  record Stands (sizes : List ℕ) (z : Seen) : Type 0 where
    pub plan : z.plan ≡ x.plan
    pub request : z.request ≡ x.request
    pub state : z.state ≡ (at sizes).0
    pub former : z.former ≡ (at sizes).1
    pub gave : AllGave sizes

  module _ (sizes : List ℕ) (z w : Seen) (h : Stands sizes z) where
    same_page : (k : ℕ) → steps z.plan.plan z.request k z.state ≡ page_at k sizes
    same_page k = λ j. steps (h.plan j).plan (h.request j) k (h.state j)

    same_former : (k : ℕ) → former_then (steps z.plan.plan z.request k z.state).0 z.state z.former ≡ (at (k ∷ sizes)).1
    same_former k = λ j. former_then (same_page k j).0 (h.state j) (h.former j)

    -- a page
    stands_paged : (k : ℕ) (first : List ℕ) (rest : List (List ℕ)) → Leaves (paged k (first ∷ rest)) z w → Stands (k ∷ sizes) w
    stands_paged k first rest led = record {
      plan = led.3 ∙ h.plan;
      request = led.4 ∙ h.request;
      state = led.1 ∙ ap (λ (t : List (List ℕ) × State). t.1) (same_page k);
      former = led.2 ∙ same_former k;
      gave = ((first, rest, sym (led.0 ∙ ap (λ (t : List (List ℕ) × State). t.0) (same_page k))), h.gave);
    }

    -- a page without routes
    stands_empty : (k : ℕ) → Leaves (paged k []) z w → Stands sizes w
    stands_empty k led = record {
      plan = led.3 ∙ h.plan;
      request = led.4 ∙ h.request;
      state = led.1 ∙ nowhere z.plan.plan z.request k z.state (sym led.0) ∙ h.state;
      former = led.2 ∙ ap (λ (given : List (List ℕ)). former_then given z.state z.former) (sym led.0) ∙ h.former;
      gave = h.gave;
    }

    stands_refused : Leaves refused z w → Stands sizes w
    stands_refused led = subst (Stands sizes) (sym led) (record { plan = h.plan; request = h.request; state = h.state; former = h.former; gave = h.gave })

    stands_no_back : Leaves no_back z w → Stands sizes w
    stands_no_back led = subst (Stands sizes) (sym led.1) h

  -- a step back
  stands_back : (sizes : List ℕ) (z w : Seen) → Stands sizes z → Leaves back z w → Stands (without_latest sizes) w
  stands_back [] z w h led =
      let none : w.state ∷ w.former ≡ [] = led.0 ∙ h.former in
      absurd cc
  stands_back (k ∷ sizes) z w h led =
      let gave = h.gave.0 in
      let before : w.state ∷ w.former ≡ (at sizes).0 ∷ (at sizes).1 = led.0 ∙ h.former ∙ ap (λ (given : List (List ℕ)). former_then given (at sizes).0 (at sizes).1) gave.2 in
      record { plan = led.1 ∙ h.plan; request = led.2 ∙ h.request; state = cc; former = cc; gave = h.gave.1 }

  stands_then : (acts : List Act) (sizes : List ℕ) (z y : Seen) → Stands sizes z → LeaveInTurn acts z y → Stands (pages_left acts sizes) y
  stands_then [] sizes z y h led = subst (Stands sizes) (sym led) h
  stands_then (paged k [] ∷ acts) sizes z y h (w, led, on) = stands_then acts sizes w y (stands_empty sizes z w h k led) on
  stands_then (paged k (first ∷ rest) ∷ acts) sizes z y h (w, led, on) = stands_then acts (k ∷ sizes) w y (stands_paged sizes z w h k first rest led) on
  stands_then (refused ∷ acts) sizes z y h (w, led, on) = stands_then acts sizes w y (stands_refused sizes z w h led) on
  stands_then (back ∷ acts) sizes z y h (w, led, on) = stands_then acts (without_latest sizes) w y (stands_back sizes z w h led) on
  stands_then (no_back ∷ acts) sizes z y h (w, led, on) = stands_then acts sizes w y (stands_no_back sizes z w h led) on

-- from a place of the listing, pages lead to the place after their routes
module _ (p : ContactPlan) (r : RouteRequest) (good : IsPlan p) (accepted : IsRequest r) (i : ℕ) (within : i ≤ length (routes p r)) (s : State) (is : s ≡ state_at p r i) where
  abbrev place_after : List ℕ → ℕ
  place_after sizes = i + length (page_of p r i (all_asked sizes))

  placed : (sizes : List ℕ) → (after_pages p r s sizes).0 ≡ state_at p r (place_after sizes)
  placed [] =
      let none : i ≡ i + 0 = omega arith in
      is ∙ ap (state_at p r) none
  placed (k ∷ sizes) =
      let before = place_after sizes in
      let page = page_of p r before k in
      let led : (steps p r k (after_pages p r s sizes).0).1 ≡ state_at p r (before + length page) =
      ap (λ (t : State). (steps p r k t).1) (placed sizes)
      ∙ ap (λ (t : List (List ℕ) × State). t.1) ((steps_follow p r good).pages before k (next_within p r good accepted i (all_asked sizes) within)) in
      let count : before + length page ≡ place_after (k ∷ sizes) =
      omega (arith, length-append (page_of p r i (all_asked sizes)) page, ap length (pages_joined p r good accepted i (all_asked sizes) k)) in
      led ∙ ap (state_at p r) count

-- a session over the same plan, for the same request
placed_too : (x y : Seen) (j : ℕ) → y.plan ≡ x.plan → y.request ≡ x.request → j ≤ length (routes x.plan.plan x.request) → y.state ≡ state_at x.plan.plan x.request j → IsPlaced y j
placed_too x y j plan request within state = record {
  within = subst (λ (n : ℕ). j ≤ n) (sym (λ t. length (routes (plan t).plan (request t)))) within;
  state = state ∙ sym (λ t. state_at (plan t).plan (request t) j);
}

-- what a session at a place gives next
goes_on : (s : Seen) (i k : ℕ) → IsPlan s.plan.plan → IsRequest s.request → IsPlaced s i → IsNextPage s i k
goes_on s i k good accepted here =
    let p = s.plan.plan in
    let r = s.request in
    let way = steps_follow p r good in
    let after = place_then s i k in
    let page : steps p r k s.state ≡ (page_of p r i k, state_at p r after) = ap (λ (z : State). steps p r k z) here.state ∙ way.pages i k here.within in
    record {
      page = ap (λ (z : List (List ℕ) × State). z.0) page;
      leads = ap (λ (z : List (List ℕ) × State). z.1) page;
      more = ap (λ (z : List (List ℕ) × State). is_some (next_route p r z.1)) page ∙ way.carries after (next_within p r good accepted i k here.within);
    }

pub pages_stand : PagesStand
pages_stand x y acts none led =
    let h = stands_then x acts [] x y (record { plan = refl; request = refl; state = refl; former = none; gave = tt }) led in
    record {
      plan = h.plan;
      request = h.request;
      state = h.state;
      former = h.former;
      place = λ i good accepted here. stands_at h i good accepted here;
      next = λ i k good accepted here.
          goes_on y (place_then x i (all_asked sizes)) k (subst (λ (q : TabledPlan). IsPlan q.plan) (sym h.plan) good) (subst IsRequest (sym h.request) accepted) (stands_at h i good accepted here);
    }
  where
    sizes : List ℕ
    sizes = pages_left acts []

    stands_at : Stands x sizes y → (i : ℕ) → IsPlan x.plan.plan → IsRequest x.request → IsPlaced x i → IsPlaced y (place_then x i (all_asked sizes))
    stands_at h i good accepted here =
        placed_too x y (place_then x i (all_asked sizes)) h.plan h.request (next_within x.plan.plan x.request good accepted i (all_asked sizes) here.within)
        (h.state ∙ placed x.plan.plan x.request good accepted i here.within x.state here.state sizes)

-- ---- the session of a text that verifying accepts

-- it is read to the state of the text's place
pub read_at_place : (p : ContactPlan) (bytes : List ℕ) → IsPlan p → (text : IsSessionText p bytes) → IsSessionOf p (digest_of p) bytes true (Ok (text.request, state_at p text.request text.place))
read_at_place p bytes good text =
    let s = state_at p text.request text.place in
    let back = is_read_back p good text.request s (record { accepted = text.accepted; formed = state_at_formed p text.request good text.place text.within; there = text.there }) in
    let reads : List ℕ → Type 0 = λ u. IsSessionOf p (digest_of p) u true (Ok (text.request, s)) in
    elim text.spelled [ inl e ↦ subst reads (sym e) back.text | inr e ↦ subst reads (sym e.1) (back.old e.0) ]

pub texts_are_placed : TextsArePlaced
texts_are_placed p bytes x good text is =
    let one = answers_once p (digest_of p) bytes true (Ok x) (Ok (text.request, state_at p text.request text.place)) is (read_at_place p bytes good text) in
    cc
