-- Every run of a session follows the listing, and every list of events has a run.
use Rattle.std.proofs.Common.{◌≡◌, ℕ, ◌+◌, ◌≤◌, true, List, [], ◌∷◌, ◌++◌, length, refl, sym, ap, subst, ◌∙◌, ◌⊎◌, inl, inr, arith, length-append, Ok}
use Rattle.std.specs.Prelude.{is_some}
use Rattle.sabr_model.specs.plan.Plan.{ContactPlan, IsPlan}
use Rattle.sabr_model.specs.routes.Arrival.{RouteRequest}
use Rattle.sabr_model.specs.routes.Asking.{IsRequest}
use Rattle.sabr_model.specs.routes.Listing.{routes, page_of}
use Rattle.sabr_plan.specs.Canonical.{digest_of}
use Rattle.sabr_frontier.specs.listing.State.{State}
use Rattle.sabr_frontier.specs.listing.Listing.{state_at, steps, next_route}
use Rattle.sabr_frontier.proofs.ListingLemmas.Lawful.{steps_follow, state_at_formed}
use Rattle.sabr_session.specs.SessionText.{text_of, HasText, IsUnlimited, session_text, old_session_text}
use Rattle.sabr_session.specs.SessionRead.{IsSessionOf}
use Rattle.sabr_session.specs.TextLaws.{IsReadBack}
use Rattle.sabr_session.proofs.SessionPlaces.{next_within, pages_joined}
use Rattle.sabr_session.proofs.TextLemmas.TextsRead.{answers_once, is_read_back}
use Rattle.commands.specs.runs.EveryRun.{Event, answered, reread, Beginning, started, from_text, EventsLeadTo, IsAt, BeginsWith, IsRun, asked_for, HaveTexts, FollowsListing, RunsFollow}

module _ (p : ContactPlan) (r : RouteRequest) (good : IsPlan p) (accepted : IsRequest r) where
  -- what is read of a text of a place
  read_back : (i : ℕ) → i ≤ length (routes p r) → HasText (state_at p r i) → IsReadBack p r (state_at p r i)
  read_back i h there = is_read_back p good r (state_at p r i) (record { accepted = accepted; formed = state_at_formed p r good i h; there = there })

  same_place : (bytes : List ℕ) (x y : RouteRequest × State) → IsSessionOf p (digest_of p) bytes true (Ok x) → IsSessionOf p (digest_of p) bytes true (Ok y) → x ≡ y
  same_place bytes x y a b = let one = answers_once p (digest_of p) bytes true (Ok x) (Ok y) a b in cc

  -- where a run stands after its events
  abbrev Stands : ℕ → List Event → List (List ℕ) → RouteRequest × State → Type 0
  Stands i events given y = (given ≡ page_of p r i (asked_for events)) × (y ≡ (r, state_at p r (i + length given)))

  -- the session after a page
  page_led : (i k : ℕ) (x : RouteRequest × State) → i ≤ length (routes p r) → x ≡ (r, state_at p r i) → steps p x.0 k x.1 ≡ (page_of p r i k, state_at p r (i + length (page_of p r i k)))
  page_led i k x h at = ap (λ (w : RouteRequest × State). steps p w.0 k w.1) at ∙ (steps_follow p r good).pages i k h

  place_led : (i k : ℕ) (x : RouteRequest × State) → i ≤ length (routes p r) → x ≡ (r, state_at p r i) → ◌≡◌ {A = RouteRequest × State} (x.0, (steps p x.0 k x.1).1) (r, state_at p r (i + length (page_of p r i k)))
  place_led i k x h at = λ j. ((at j).0, (page_led i k x h at j).1)

  -- the session that is read again
  read_place : (i : ℕ) (z x : RouteRequest × State) → i ≤ length (routes p r) → x ≡ (r, state_at p r i) → HasText x.1
      → IsSessionOf p (digest_of p) (text_of (digest_of p) x.0 x.1) true (Ok z) → z ≡ (r, state_at p r i)
  read_place i z x h at there is =
      let back = read_back i h (subst (λ (w : RouteRequest × State). HasText w.1) at there) in
      same_place (text_of (digest_of p) r (state_at p r i)) z (r, state_at p r i)
      (subst (λ (w : RouteRequest × State). IsSessionOf p (digest_of p) (text_of (digest_of p) w.0 w.1) true (Ok z)) at is) back.text

  stays : (i : ℕ) (events : List Event) (first rest given : List (List ℕ)) (y : RouteRequest × State) → first ≡ [] → given ≡ first ++ rest
      → Stands i events rest y → Stands i events given y
  stays i events first rest given y none joined h =
      let same : given ≡ rest = joined ∙ ap (λ (l : List (List ℕ)). l ++ rest) none in
      subst (λ (l : List (List ℕ)). Stands i events l y) (sym same) h

  stands : (i : ℕ) → i ≤ length (routes p r) → (events : List Event) (given : List (List ℕ)) (y x : RouteRequest × State) → x ≡ (r, state_at p r i)
      → EventsLeadTo p events x given y → Stands i events given y
  stands i h [] given y x at run =
      let none : length given ≡ 0 = ap length run.0 in
      let count : i ≡ i + length given = omega (arith, none) in
      (run.0, run.1 ∙ at ∙ ap (λ n. (r, state_at p r n)) count)
  stands i h (answered k ∷ es) given y x at (first, z, rest, led, on, joined) =
      let page : List (List ℕ) = page_of p r i k in
      let after : ℕ = i + length page in
      let same : first ≡ page = led.0 ∙ ap (λ (w : List (List ℕ) × State). w.0) (page_led i k x h at) in
      let stood = stands after (next_within p r good accepted i k h) es rest y z (led.1 ∙ place_led i k x h at) on in
      let whole : length given ≡ length page + length rest = ap length joined ∙ length-append first rest ∙ ap (λ (l : List (List ℕ)). length l + length rest) same in
      let count : after + length rest ≡ i + length given = omega (arith, whole) in
      (joined ∙ ap (λ l. l ++ rest) same ∙ ap (λ l. page ++ l) stood.0 ∙ pages_joined p r good accepted i k (asked_for es), stood.1 ∙ ap (λ n. (r, state_at p r n)) count)
  stands i h (reread ∷ es) given y x at (first, z, rest, led, on, joined) =
      stays i es first rest given y led.0 joined (stands i h es rest y z (read_place i z x h at led.1 led.2) on)
  stands i h (_ ∷ es) given y x at (first, z, rest, led, on, joined) =
      stays i es first rest given y led.0 joined (stands i h es rest y z (led.1 ∙ at) on)

  -- a run of these events
  runs_on : (i : ℕ) → i ≤ length (routes p r) → (events : List Event) (x : RouteRequest × State) → x ≡ (r, state_at p r i) → HaveTexts p r i events
      → (given : List (List ℕ)) × (y : RouteRequest × State) × EventsLeadTo p events x given y
  runs_on i h [] x at texts = ([], x, (refl, refl))
  runs_on i h (answered k ∷ es) x at texts =
      let page = steps p x.0 k x.1 in
      let run = runs_on (i + length (page_of p r i k)) (next_within p r good accepted i k h) es (x.0, page.1) (place_led i k x h at) texts in
      (page.0 ++ run.0, run.1, (page.0, (x.0, page.1), run.0, (refl, refl), run.2, refl))
  runs_on i h (reread ∷ es) x at texts =
      let run = runs_on i h es x at texts.1 in
      let led = subst (λ (w : RouteRequest × State). HasText w.1 × IsSessionOf p (digest_of p) (text_of (digest_of p) w.0 w.1) true (Ok w)) (sym at) (texts.0, (read_back i h texts.0).text) in
      (run.0, run.1, ([], x, run.0, (refl, led.0, led.1), run.2, refl))
  runs_on i h (_ ∷ es) x at texts =
      let run = runs_on i h es x at texts in
      (run.0, run.1, ([], x, run.0, (refl, refl), run.2, refl))

  -- ---- beginnings

  -- the text of place i, or that in version 1
  abbrev IsTextAt : RouteRequest × ℕ → List ℕ → Type 0
  IsTextAt w bytes = (w.1 ≤ length (routes p w.0)) × HasText (state_at p w.0 w.1) × ((bytes ≡ session_text p w.0 w.1) ⊎ (IsUnlimited w.0 × (bytes ≡ old_session_text p w.0 w.1)))

  text_at : (i : ℕ) (bytes : List ℕ) → IsAt p r i (from_text bytes) → IsTextAt (r, i) bytes
  text_at i bytes (text, of_request, of_place) =
      let same : ◌≡◌ {A = RouteRequest × ℕ} (text.request, text.place) (r, i) = λ j. (of_request j, of_place j) in
      subst (λ (w : RouteRequest × ℕ). IsTextAt w bytes) same (text.within, text.there, text.spelled)

  -- a place of the listing
  at_place : (i : ℕ) (beginning : Beginning) → IsAt p r i beginning → i ≤ length (routes p r)
  at_place i started is = omega (arith, is)
  at_place i (from_text bytes) is = (text_at i bytes is).0

  -- a text of a place is read to its state
  pub text_begins : (i : ℕ) (bytes : List ℕ) → IsAt p r i (from_text bytes) → IsSessionOf p (digest_of p) bytes true (Ok (r, state_at p r i))
  text_begins i bytes is =
      let text = text_at i bytes is in
      let back = read_back i text.0 text.1 in
      let reads : List ℕ → Type 0 = λ u. IsSessionOf p (digest_of p) u true (Ok (r, state_at p r i)) in
      elim text.2 [ inl e ↦ subst reads (sym e) back.text | inr e ↦ subst reads (sym e.1) (back.old e.0) ]

  begins : (i : ℕ) (beginning : Beginning) → IsAt p r i beginning → BeginsWith p r beginning (r, state_at p r i)
  begins i started is = ap (λ n. (r, state_at p r n)) is
  begins i (from_text bytes) is = text_begins i bytes is

  begins_so : (i : ℕ) (beginning : Beginning) (x : RouteRequest × State) → IsAt p r i beginning → BeginsWith p r beginning x → x ≡ (r, state_at p r i)
  begins_so i started x is b = b ∙ sym (ap (λ n. (r, state_at p r n)) is)
  begins_so i (from_text bytes) x is b = same_place bytes x (r, state_at p r i) b (text_begins i bytes is)

  run_follows : (i : ℕ) (beginning : Beginning) (events : List Event) (given : List (List ℕ)) (y : RouteRequest × State)
      → IsAt p r i beginning → IsRun p r beginning events given y → FollowsListing p r i events given y
  run_follows i beginning events given y is (x, b, run) =
      let within = at_place i beginning is in
      let stood = stands i within events given y x (begins_so i beginning x is b) run in
      let count = ap length stood.0 in
      let most = next_within p r good accepted i (asked_for events) within in
      record {
        pages = stood.0;
        place = stood.1;
        text = ap (λ (w : RouteRequest × State). text_of (digest_of p) w.0 w.1) stood.1;
        more = ap (λ (w : RouteRequest × State). is_some (next_route p w.0 w.1)) stood.1 ∙ (steps_follow p r good).carries (i + length given) (omega (arith, count, most));
      }

  -- every list of events has a run, and every run follows the listing
  pub runs_follow : RunsFollow p r
  runs_follow = record {
    has_run = λ i beginning events is texts.
        let run = runs_on i (at_place i beginning is) events (r, state_at p r i) refl texts in
        (run.0, run.1, ((r, state_at p r i), begins i beginning is, run.2));
    follows = run_follows;
  }
