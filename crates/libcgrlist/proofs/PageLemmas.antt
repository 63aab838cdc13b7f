-- Pages of routes, and how they are written, a route after another.
use Rattle.std.proofs.Common.{◌≡◌, ℕ, zero, suc, ◌+◌, ◌<◌, ◌≤◌, List, [], ◌∷◌, ◌++◌, drop, length, take, refl, sym, ap, ◌∙◌, subst, append-nil, length-append, length-drop, length-take-le, slice_set, zero-add, arith, Option, None, Some, inl, inr}
use Rattle.std.proofs.Math.ListN.{get_or}
use Rattle.std.proofs.Math.Seq.{take-append_seam}
use Rattle.std.proofs.lemmas.Grind.{flat_map-append, take_at_read}
use Rattle.std.proofs.lemmas.Slice.{drop-append-drop}
use Rattle.sabr_model.specs.routes.Record.{RouteRecord, record_of}
use Rattle.libcgrlist.specs.Buffers.{HasRoom, IsWritten, RouteBuffers, contacts_of, row_of, rows_from}
use Rattle.libcgrlist.specs.declared.buffers.RouteRow.{RouteRow}
use Rattle.std.specs.Prelude.{IsTrue, IsFalse, Bool, true, false}
use Rattle.std.specs.List.{All}
use Rattle.std.proofs.lemmas.List.{length-map}
use Rattle.std.proofs.lemmas.List.Elements.{All-map}
use Rattle.sabr_model.specs.plan.Plan.{ContactPlan}
use Rattle.sabr_model.specs.routes.Arrival.{RouteRequest}
use Rattle.sabr_model.specs.routes.Asking.{IsRequest}
use Rattle.sabr_model.proofs.RouteLemmas.Routes.{route_facts}
use Rattle.sabr_frontier.specs.listing.Fresh.{GivesNewRoutes}
use Rattle.sabr_frontier.specs.listing.Listing.{given_first, one_step, steps}
use Rattle.sabr_frontier.specs.listing.State.{Member, State}
use Rattle.sabr_frontier.specs.session.Session.{Seen, former_then, next_page}
use Rattle.libcgrlist.specs.Listings.{next_records}
use Rattle.libcgrlist.specs.Opened.{listing_of}

-- the contact numbers of one more route
pub contacts_more : (xs : List RouteRecord) (a : RouteRecord) → contacts_of (xs ++ a ∷ []) ≡ contacts_of xs ++ a.contacts
contacts_more xs a = flat_map-append (λ (b : RouteRecord). b.contacts) xs (a ∷ []) ∙ ap (λ (z : List ℕ). contacts_of xs ++ z) (append-nil a.contacts)

-- the rows with one more
pub rows_more : (first : ℕ) (xs : List RouteRecord) (a : RouteRecord) → rows_from first (xs ++ a ∷ []) ≡ rows_from first xs ++ row_of (first + length (contacts_of xs)) a ∷ []
rows_more first [] a = ap (λ (n : ℕ). row_of n a ∷ []) (omega arith)
rows_more first (x ∷ xs) a =
    let place : (first + length x.contacts) + length (contacts_of xs) ≡ first + length (contacts_of (x ∷ xs)) = omega (arith, length-append x.contacts (contacts_of xs)) in
    ap (λ (z : List RouteRow). row_of first x ∷ z) (rows_more (first + length x.contacts) xs a ∙ ap (λ (n : ℕ). rows_from (first + length x.contacts) xs ++ row_of n a ∷ []) place)

length-rows_from : (first : ℕ) (xs : List RouteRecord) → length (rows_from first xs) ≡ length xs
length-rows_from first [] = refl
length-rows_from first (x ∷ xs) = ap suc (length-rows_from (first + length x.contacts) xs)

-- a row is set
pub row_set : (rows : List RouteRow) (i : ℕ) (row : RouteRow) → i < length rows → slice_set rows i row ≡ take i rows ++ row ∷ [] ++ drop (suc i) rows
row_set [] i row there = absurd (omega (arith, there))
row_set (r ∷ rows) zero row there = refl
row_set (r ∷ rows) (suc i) row there = ap (λ (z : List RouteRow). r ∷ z) (row_set rows i row (omega (arith, there)))

-- a buffer to whose front n elements were written keeps its length
same_length : {X : Type 0} (now xs old : List X) (n : ℕ) → now ≡ xs ++ drop n old → length xs ≡ n → n ≤ length old → length now ≡ length old
same_length {X = X} now xs old n is count fits = omega (arith, ap (λ (z : List X). length z) is, length-append xs (drop n old), length-drop n old, count, fits)

-- and more, written behind them, is at its front, too
behind : {X : Type 0} (now xs ys old : List X) (n k : ℕ) → now ≡ xs ++ drop n old → length xs ≡ n → take n now ++ ys ++ drop (n + k) now ≡ (xs ++ ys) ++ drop (n + k) old
behind {X = X} now xs ys old n k is count =
    let front : take n now ≡ xs = ap (λ (z : List X). take n z) is ∙ ap (λ (j : ℕ). take j (xs ++ drop n old)) (sym count) ∙ take-append_seam xs (drop n old) in
    let rest : drop (n + k) now ≡ drop (n + k) old = ap (λ (z : List X). drop (n + k) z) is ∙ drop-append-drop n old xs (n + k) (omega arith) count in
    rw front (rw rest)

-- the first n routes were written, and their numbers end at a place; behind them the buffers are as they were
pub record IsSoFar (given : List RouteRecord) (old new : RouteBuffers) (n first : ℕ) : Type 0 where
  pub place : first ≡ length (contacts_of (take n given))
  pub within : n ≤ length given
  pub few : n ≤ length old.rows
  pub fits : first ≤ length old.contacts
  pub row : new.rows ≡ rows_from 0 (take n given) ++ drop n old.rows
  pub contacts : new.contacts ≡ contacts_of (take n given) ++ drop first old.contacts

-- no route was written yet
pub none_so_far : (given : List RouteRecord) (b : RouteBuffers) → IsSoFar given b b 0 0
none_so_far given b = record { place = refl; within = omega arith; few = omega arith; fits = omega arith; row = refl; contacts = refl }

module _ (given : List RouteRecord) (old new : RouteBuffers) (n first : ℕ) (w : IsSoFar given old new n first) where
  count_rows : length (rows_from 0 (take n given)) ≡ n
  count_rows = length-rows_from 0 (take n given) ∙ length-take-le n given w.within

  pub rows_len : length new.rows ≡ length old.rows
  rows_len = same_length new.rows (rows_from 0 (take n given)) old.rows n w.row count_rows w.few

  pub contacts_len : length new.contacts ≡ length old.contacts
  contacts_len = same_length new.contacts (contacts_of (take n given)) old.contacts first w.contacts (sym w.place) w.fits

  -- no more of them are
  pub written_so_far : (n < length given → HasRoom given old (n + 1) → ⊥) → IsWritten given old new n
  written_so_far longest = record {
    within = w.within;
    room = (w.few, subst (λ (k : ℕ). k ≤ length old.contacts) w.place w.fits);
    longest = longest;
    row = w.row;
    contacts = subst (λ (k : ℕ). new.contacts ≡ contacts_of (take n given) ++ drop k old.contacts) w.place w.contacts;
  }

-- all were written
pub all_written : (given : List RouteRecord) (old new : RouteBuffers) (n first : ℕ) → IsSoFar given old new n first → length given ≤ n → IsWritten given old new (length given)
all_written given old new n first w all =
    let same : n ≡ length given = omega (arith, w.within) in
    subst (λ (k : ℕ). IsWritten given old new k) same (written_so_far given old new n first w (λ more room. absurd (omega (arith, more, all))))

module _ (given : List RouteRecord) (n : ℕ) (a : RouteRecord) (there : n < length given) (is : a ≡ get_or given n a) where
  longer : take (n + 1) given ≡ take n given ++ a ∷ []
  longer = (take_at_read given n a there).1 ∙ ap (λ (b : RouteRecord). take n given ++ b ∷ []) (sym is)

  numbers_on : contacts_of (take (n + 1) given) ≡ contacts_of (take n given) ++ a.contacts
  numbers_on = ap (λ (xs : List RouteRecord). contacts_of xs) longer ∙ contacts_more (take n given) a

  length_on : length (contacts_of (take (n + 1) given)) ≡ length (contacts_of (take n given)) + length a.contacts
  length_on = ap (λ (z : List ℕ). length z) numbers_on ∙ length-append (contacts_of (take n given)) a.contacts

  rows_on : (first : ℕ) → first ≡ length (contacts_of (take n given)) → rows_from 0 (take n given) ++ row_of first a ∷ [] ≡ rows_from 0 (take (n + 1) given)
  rows_on first place =
      ap (λ (k : ℕ). rows_from 0 (take n given) ++ row_of k a ∷ []) (place ∙ sym (zero-add (length (contacts_of (take n given)))))
      ∙ sym (ap (λ (xs : List RouteRecord). rows_from 0 xs) longer ∙ rows_more 0 (take n given) a)

  -- one more was written
  pub one_so_far : (old new more : RouteBuffers) (first : ℕ) → IsSoFar given old new n first → n < length new.rows → first + length a.contacts ≤ length new.contacts
      → more.rows ≡ take n new.rows ++ row_of first a ∷ [] ++ drop (n + 1) new.rows
      → more.contacts ≡ take first new.contacts ++ a.contacts ++ drop (first + length a.contacts) new.contacts
      → IsSoFar given old more (n + 1) (first + length a.contacts)
  one_so_far old new more first w space room row contacts = record {
    place = omega (arith, length_on, w.place);
    within = omega arith;
    few = omega (arith, space, rows_len given old new n first w);
    fits = omega (arith, room, contacts_len given old new n first w);
    row = row ∙ behind new.rows (rows_from 0 (take n given)) (row_of first a ∷ []) old.rows n 1 w.row (count_rows given old new n first w)
        ∙ ap (λ (z : List RouteRow). z ++ drop (n + 1) old.rows) (rows_on first w.place);
    contacts = contacts ∙ behind new.contacts (contacts_of (take n given)) a.contacts old.contacts first (length a.contacts) w.contacts (sym w.place)
        ∙ ap (λ (z : List ℕ). z ++ drop (first + length a.contacts) old.contacts) (sym numbers_on);
  }

  -- the next has no row, or its numbers have no room
  pub no_row_left : (old new : RouteBuffers) (first : ℕ) → IsSoFar given old new n first → length new.rows ≤ n → IsWritten given old new n
  no_row_left old new first w full = written_so_far given old new n first w (λ more room. absurd (omega (arith, room.0, full, rows_len given old new n first w)))

  pub no_numbers_left : (old new : RouteBuffers) (first : ℕ) → IsSoFar given old new n first → length new.contacts < first + length a.contacts → IsWritten given old new n
  no_numbers_left old new first w full =
      written_so_far given old new n first w (λ more room. absurd (omega (arith, room.1, full, length_on, w.place, contacts_len given old new n first w)))

-- a sum of contact numbers stays small
pub counted_so_far : (given : List RouteRecord) (n : ℕ) (a : RouteRecord) (count : ℕ) → n < length given → a ≡ get_or given n a → count ≡ length (contacts_of (take n given))
    → count + length a.contacts ≡ length (contacts_of (take (n + 1) given))
counted_so_far given n a count there is counted = omega (arith, length_on given n a there is, counted)

-- ---- pages of a listing

-- what one step and k after it give
abbrev one_and : (p : ContactPlan) (r : RouteRequest) (k : ℕ) (s : State) → Option (List ℕ × State) → List (List ℕ) × State
one_and p r k s o = elim o [ None ↦ ([], s) | Some w ↦ given_first w.0 (steps p r k w.1) ]

one_more : (p : ContactPlan) (r : RouteRequest) (k : ℕ) (s : State) (o : Option (List ℕ × State)) → ((t : State) → length (steps p r k t).0 ≤ k) → length (one_and p r k s o).0 ≤ suc k
one_more p r k s None few = omega arith
one_more p r k s (Some w) few = omega (arith, few w.1)

-- k steps give at most k routes
few_steps : (p : ContactPlan) (r : RouteRequest) (k : ℕ) (s : State) → length (steps p r k s).0 ≤ k
unfolding steps
few_steps p r zero s = omega arith
few_steps p r (suc k) s = one_more p r k s (one_step p r s) (λ t. few_steps p r k t)

-- an element by its place
member_at : {X : Type 0} (xs : List X) (k : ℕ) (d : X) → k < length xs → Member (get_or xs k d) xs
member_at [] k d there = absurd (omega (arith, there))
member_at (x ∷ xs) zero d there = inl refl
member_at (x ∷ xs) (suc k) d there = inr (member_at xs k d (omega (arith, there)))

-- the records of a page are few, and none has more contacts than a route may have
pub few_records : (s : Seen) (count : ℕ) (xs : List RouteRecord) → xs ≡ next_records s count → count ≤ 10000 → length xs ≤ 10000
few_records s count xs is small =
    let routes = (next_page s count).0 in
    omega (arith, ap (λ (ys : List RouteRecord). length ys) is, length-map routes (record_of s.plan.plan s.request), few_steps s.plan.plan s.request count s.state, small)

pub short_records : (s : Seen) (count : ℕ) (xs : List RouteRecord) → xs ≡ next_records s count → IsRequest s.request → GivesNewRoutes s.plan.plan s.request count s.state → All (λ (a : RouteRecord). length a.contacts ≤ 20000) xs
short_records s count xs is limits new =
    let routes = (next_page s count).0 in
    subst (λ (ys : List RouteRecord). All (λ (a : RouteRecord). length a.contacts ≤ 20000) ys) (sym is)
    (All-map (λ (a : RouteRecord). length a.contacts ≤ 20000) (record_of s.plan.plan s.request) routes
    (λ k d there. omega (arith, (route_facts s.plan.plan s.request (get_or routes k d) (new.routes (get_or routes k d) (member_at routes k d there))).within, limits.hops.1)))

-- a page that gave routes can be taken back
former_some : (xs : List (List ℕ)) (s : State) (former : List State) → 0 < length xs → former_then xs s former ≡ s ∷ former
former_some [] s former some = absurd (omega (arith, some))
former_some (x ∷ xs) s former some = refl

-- what is shown is the same if plan, request, state and former states are
pub same_listing : (s t : Seen) → t.plan ≡ s.plan → t.request ≡ s.request → t.state ≡ s.state → t.former ≡ s.former → listing_of t ≡ listing_of s
same_listing s t plan request state former = cc

-- a page that is taken back leaves the listing where it was
pub taken_back : (s t u : Seen) (count : ℕ) (yes : Bool) → t.plan ≡ s.plan → t.request ≡ s.request → t.former ≡ former_then (next_page s count).0 s.state s.former → 0 < length (next_page s count).0
    → (IsTrue yes → u.state ∷ u.former ≡ t.former) → (IsFalse yes → t.former ≡ []) → u.plan ≡ t.plan → u.request ≡ t.request → listing_of u ≡ listing_of s
taken_back s t u count true plan request former some back none plan₁ request₁ =
    let e : u.state ∷ u.former ≡ s.state ∷ s.former = back refl ∙ former ∙ former_some (next_page s count).0 s.state s.former some in
    let state : u.state ≡ s.state = cc in
    let rest : u.former ≡ s.former = cc in
    same_listing s u (plan₁ ∙ plan) (request₁ ∙ request) state rest
taken_back s t u count false plan request former some back none plan₁ request₁ =
    let e : [] ≡ s.state ∷ s.former = sym (none refl) ∙ former ∙ former_some (next_page s count).0 s.state s.former some in
    cc
