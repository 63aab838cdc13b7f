-- What a plan's rules say of a contact of a number, of its hop and its arrival, and of the table of nodes; and how many
-- contacts are looked at.
use Rattle.std.proofs.Common.{◌≡◌, ℕ, ◌+◌, ◌<◌, ◌≤◌, max, true, false, cond, ltb, refl, arith, inl, inr, ◌==◌, List, [], ◌∷◌, length, Bool, slice_index_or, slice_set, eq-eqb, ne_eqb, zero, suc, eqb, take, slice_get, sym, ap, ◌∙◌, ⊎_elim, add-one, ◌*◌}
use Rattle.std.proofs.lemmas.List.{length-map}
use Rattle.std.proofs.lemmas.Bool.{ltb-true, both_ways, eqb-true, or_cases, cases_Bool, cases_eq, false_from_ne_true, cond-true, lt-ltb}
use Rattle.std.specs.Option.{option_map}
use Rattle.std.specs.declared.option.Option.TheVariants.{Some, None}
use Rattle.sabr_model.specs.declared.contact.Contact.{Contact}
use Rattle.sabr_model.specs.plan.Plan.{ContactPlan, has, are_different, TabledPlan, IsPlan, IsWindow, contact_named}
use Rattle.sabr_model.specs.plan.Light.{light_of}
use Rattle.sabr_model.specs.routes.Arrival.{RouteRequest, cost, arrival}
use Rattle.std.specs.List.{count_by, sum_by}
use Rattle.std.proofs.lemmas.List.Sums.{sum_by-cons}
use Rattle.std.proofs.lemmas.Grind.{common_steps}
use Rattle.std.specs.Cmp.{nat_eq_equiv}
use Rattle.std.proofs.lemmas.Map.Made.{length-le_from_is_member}
use Rattle.sabr_search.specs.questions.Task.{SearchTask, HasNodes, IsTask, Takes, latest_arrival}
use Rattle.sabr_search.specs.questions.Linked.{place_in, senders, IsHopAt}
use Rattle.sabr_model.proofs.RouteLemmas.Listed.{distinct_from_different, in_from_has, has_from_in, named_is}
use Rattle.sabr_model.proofs.PlanLemmas.Tabled.{has_place, place_one}
use Rattle.sabr_model.proofs.PlanLemmas.RangeOrder.{light_of_limit}
use Rattle.std.specs.Prelude.{Contains, ◌↔◌}
use Rattle.std.specs.declared.option.Option.{Option}
use Rattle.sabr_model.specs.declared.hop.Hop.{Hop}
use Rattle.sabr_model.specs.plan.Table.{ends_of}
use Rattle.sabr_model.specs.plan.Tabled.{IsTabled, IsHopOf, IsHopNamed}
use Rattle.sabr_model.proofs.ListLemmas.Members.{IsIn, all_in, in_flat_map, in_from_Contains, Contains-from_in}
use Rattle.sabr_model.specs.routes.Hops.{hop_arrival, IsSmall}
use Rattle.std.proofs.Math.Nat.{mul-le-mul}

-- The arrival over one contact.

-- what an arrival is made of, over a contact with this window and light time
pub record IsArrival (margin t start end : ℕ) (known : Option ℕ) (b : ℕ) : Type 0 where
  pub light : ℕ
  pub in_force : known ≡ Some light
  pub before_end : max t start < end
  pub sum : b ≡ max t start + cost margin light

arrival_of : (margin t start end : ℕ) (known : Option ℕ) (b : ℕ) → cond (ltb (max t start) end) (option_map (λ l. max t start + cost margin l) known) None ≡ Some b → IsArrival margin t start end known b
arrival_of margin t start end known b e =
    elim (ltb (max t start) end) as (λ w. ltb (max t start) end ≡ w → cond w (option_map (λ l. max t start + cost margin l) known) None ≡ Some b → IsArrival margin t start end known b) [
      | false ↦ λ q h. absurd cc
      | true ↦ λ q h. elim known as (λ o. known ≡ o → option_map (λ l. max t start + cost margin l) o ≡ Some b → IsArrival margin t start end known b) [
        | None ↦ λ f g. absurd cc
        | Some l ↦ λ f g. (let same : max t start + cost margin l ≡ b = cc (g) in record { light = l; in_force = f; before_end = ltb-true (max t start) end q; sum = omega (arith, same) })
      ] refl h
    ] refl e

pub arrival_parts : (p : ContactPlan) (r : RouteRequest) (t : ℕ) (c : Contact) (b : ℕ) → arrival p r t c ≡ Some b → IsArrival r.margin t c.start c.end (light_of p c) b
arrival_parts p r t c b e = arrival_of r.margin t c.start c.end (light_of p c) b e

pub hop_arrives : (margin t b : ℕ) (h : Hop) → hop_arrival margin t h ≡ Some b → IsArrival margin t h.start h.end h.light b
hop_arrives margin t b h e = arrival_of margin t h.start h.end h.light b e

pub arrives_later : (p : ContactPlan) (r : RouteRequest) (t : ℕ) (c : Contact) (b : ℕ) → arrival p r t c ≡ Some b → t ≤ b
arrives_later p r t c b e = let a = arrival_parts p r t c b e in omega (arith, a.sum)

-- How many contacts are looked at: each node of a list of different nodes looks at the contacts that it sends.

count_by-cons : {X : Type 0} (p : X → Bool) (x : X) (xs : List X) → count_by p (x ∷ xs) ≡ cond (p x) 1 0 + count_by p xs
count_by-cons p x xs = sum_by-cons (λ y. cond (p y) 1 0) x xs

flag_at : (flags : List Bool) (k f : ℕ) → k < length flags → slice_index_or flags k false ≡ false →
    cond (slice_index_or (slice_set flags k true) f false) 1 0 ≡ cond (slice_index_or flags f false) 1 0 + cond (f == k) 1 0
flag_at flags k f in' off =
    elim (cases_eq f k) [
      | inl same ↦
          let on : slice_index_or (slice_set flags k true) f false ≡ true = grind (arith, common_steps) in
          let was : slice_index_or flags f false ≡ false = grind (arith, common_steps) in
          rw (on, was, eq-eqb f k same) refl
      | inr other ↦
          let kept : slice_index_or (slice_set flags k true) f false ≡ slice_index_or flags f false = grind (arith, common_steps) in
          rw (kept, ne_eqb f k other) (omega arith)
    ]

-- a node more is settled: its contacts come to those of the settled nodes
pub settled_more : (flags : List Bool) (k : ℕ) (fs : List ℕ) → k < length flags → slice_index_or flags k false ≡ false →
    count_by (λ f. slice_index_or (slice_set flags k true) f false) fs ≡ count_by (λ f. slice_index_or flags f false) fs + count_by (λ f. f == k) fs
settled_more flags k [] in' off = refl
settled_more flags k (f ∷ fs) in' off =
    let one : cond (slice_index_or (slice_set flags k true) f false) 1 0 ≡ cond (slice_index_or flags f false) 1 0 + cond (f == k) 1 0 = flag_at flags k f in' off in
    omega (arith, count_by-cons (λ g. slice_index_or (slice_set flags k true) g false) f fs, count_by-cons (λ g. slice_index_or flags g false) f fs, count_by-cons (λ g. g == k) f fs, one, settled_more flags k fs in' off)

-- The place of a sender in the table of nodes, and how many different numbers a list can have.

-- the place of an element of a list in which no element comes twice
place_found : (xs : List ℕ) (x : ℕ) → has x xs ≡ true → slice_get xs (place_in xs x) ≡ Some x
place_found [] x h = absurd cc
place_found (y ∷ ys) x h =
    ⊎_elim
    (λ here. ap (λ b. slice_get (y ∷ ys) (cond b 0 (place_in ys x + 1))) here ∙ ap Some (sym (eqb-true x y here)))
    (λ other. ap (λ b. slice_get (y ∷ ys) (cond b 0 (place_in ys x + 1))) other ∙ rw add-one
    (place_found ys x (⊎_elim (λ e. absurd (both_ways (eqb x y) other e)) (λ k. k) (or_cases (eqb x y) (has x ys) h))))
    (cases_Bool (eqb x y))

pub place_is : (p : ContactPlan) (table : List ℕ) → HasNodes p table → (u x : ℕ) → slice_get table u ≡ Some x → place_in table x ≡ u
place_is p table nodes u x e = nodes.apart (place_in table x) u x (place_found table x (has_place table u x e)) e

-- different numbers of a list are no more than the list has
pub few_different : (xs ys : List ℕ) → are_different xs ≡ true → ((q : ℕ) → has q xs ≡ true → has q ys ≡ true) → length xs ≤ length ys
few_different xs ys d inside = length-le_from_is_member nat_eq_equiv xs ys (distinct_from_different xs d) inside

-- all nodes together send as many contacts as the plan has
pub senders_length : (task : SearchTask) → length (senders task) ≡ length task.plan.contacts
senders_length task = length-map task.plan.contacts (λ (c : Contact). place_in task.table c.from)

-- a sum over the first of a list, with one more, and over all
sum_next : {X : Type 0} (f : X → ℕ) (xs : List X) (k : ℕ) (x : X) → slice_get xs k ≡ Some x → sum_by f (take (suc k) xs) ≡ sum_by f (take k xs) + f x
sum_next f [] k x at = absurd cc
sum_next f (y ∷ ys) zero x at = let same : y ≡ x = cc (at) in omega (arith, sum_by-cons f y [], ap f same)
sum_next f (y ∷ ys) (suc k) x at = omega (arith, sum_by-cons f y (take (suc k) ys), sum_by-cons f y (take k ys), sum_next f ys k x at)

pub sum_taken : {X : Type 0} (f : X → ℕ) (xs : List X) (k : ℕ) (x : X) → slice_get xs k ≡ Some x → sum_by f (take (k + 1) xs) ≡ sum_by f (take k xs) + f x
sum_taken f xs k x at = rw (add-one k) (sum_next f xs k x at)

pub sum_taken_le : {X : Type 0} (f : X → ℕ) (xs : List X) (k : ℕ) → sum_by f (take k xs) ≤ sum_by f xs
sum_taken_le f xs zero = omega arith
sum_taken_le f [] (suc k) = omega arith
sum_taken_le f (y ∷ ys) (suc k) = omega (arith, sum_by-cons f y (take k ys), sum_by-cons f y ys, sum_taken_le f ys k)

pub contact_in : (p : ContactPlan) (n : ℕ) (c : Contact) → contact_named p n ≡ Some c → IsIn c p.contacts
contact_in p n c h = (named_is p.contacts n c h).0

pub contact_window : (p : ContactPlan) → IsPlan p → (n : ℕ) (c : Contact) → contact_named p n ≡ Some c → IsWindow c.start c.end
contact_window p good n c h = all_in (λ (d : Contact). IsWindow d.start d.end) p.contacts good.contact_windows c (contact_in p n c h)

pub light_small : (p : ContactPlan) → IsPlan p → (c : Contact) (l : ℕ) → light_of p c ≡ Some l → l ≤ 1000000
light_small p good c l h = rw h at (light_of_limit p c good)

-- the hop of a standing contact is small
pub hop_small : (p : TabledPlan) → IsPlan p.plan → (n : ℕ) (h : Hop) → IsHopNamed p n h → IsSmall h
hop_small p good n h named =
    record {
      ends = (let w = contact_window p.plan good n named.contact named.named in omega (arith, w.1, named.is.end));
      near = rw named.is.light (light_of_limit p.plan named.contact good);
    }

-- the arrival over a contact is that over its hop
pub hop_arrival_is : (p : TabledPlan) (r : RouteRequest) (t : ℕ) (c : Contact) (h : Hop) → IsHopOf p c h → arrival p.plan r t c ≡ hop_arrival r.margin t h
hop_arrival_is p r t c h is = rw (is.start, is.end, is.light) refl

pub place_of : (xs : List ℕ) (x : ℕ) → IsIn x xs → (k : ℕ) × (slice_get xs k ≡ Some x)
place_of [] x h = absurd h
place_of (y ∷ ys) x h = ⊎_elim (λ e. (0, ap Some (sym e))) (λ k. let p = place_of ys x k in (suc p.0, p.1)) h

end_in : (p : ContactPlan) (n : ℕ) (c : Contact) → contact_named p n ≡ Some c → (x : ℕ) → IsIn x (c.from ∷ c.to ∷ []) → has x (ends_of p.contacts) ≡ true
end_in p n c h x e = has_from_in x (ends_of p.contacts) (in_flat_map (λ (d : Contact). d.from ∷ d.to ∷ []) x c p.contacts (contact_in p n c h) e)

-- the table of a plan has the ends of each standing contact
pub has_nodes : (p : TabledPlan) → IsTabled p → HasNodes p.plan p.table
has_nodes p tabled = record {
  apart = λ i j x. place_one p.table i j x tabled.once;
  senders = λ n c h. place_of p.table c.from (in_from_has c.from p.table (tabled.nodes c.from ∙ end_in p.plan n c h c.from (inl refl)));
  receivers = λ n c h. place_of p.table c.to (in_from_has c.to p.table (tabled.nodes c.to ∙ end_in p.plan n c h c.to (inr (inl refl))));
}

-- a test that is true if and only if a number is in a list is that of the list
pub has_from_iff : (b : Bool) (xs : List ℕ) (n : ℕ) → (b ≡ true) ↔ Contains xs n → b ≡ has n xs
has_from_iff true xs n h = sym (has_from_in n xs (in_from_Contains xs n (h.0 refl)))
has_from_iff false xs n h = sym (false_from_ne_true (has n xs) (λ e. let no : false ≡ true = h.1 (Contains-from_in xs n (in_from_has n xs e)) in cc))

-- when a hop arrives
pub hop_arrival_there : (margin t l : ℕ) (h : Hop) → h.light ≡ Some l → max t h.start < h.end → hop_arrival margin t h ≡ Some (max t h.start + cost margin l)
hop_arrival_there margin t l h light less =
    cond-true (ltb (max t h.start) h.end) (option_map (λ k. max t h.start + cost margin k) h.light) None (lt-ltb (max t h.start) h.end less)
    ∙ ap (option_map (λ k. max t h.start + cost margin k)) light

pub cost_small : (margin l : ℕ) → l ≤ 1000000 → margin ≤ 1000000 → cost margin l ≤ 2000000
cost_small margin l a b =
    let product : l * margin ≤ 1000000 * 1000000 = mul-le-mul a b in
    omega (arith, product)

-- no step arrives after the latest arrival
pub takes_early : (task : SearchTask) → IsTask task → (n u t w x : ℕ) → Takes task n u t w x → x ≤ latest_arrival
takes_early task is n u t w x s =
    let a = arrival_parts task.plan task.request t s.contact x s.arrives in
    let window = contact_window task.plan is.plan n s.contact s.named in
    omega (arith, a.sum, a.before_end, window.1, cost_small task.request.margin a.light (light_small task.plan is.plan s.contact a.light a.in_force) is.margin)

pub hop_at_window : (task : SearchTask) → IsTask task → (n : ℕ) (h : Hop) → IsHopAt task n h → h.start < h.end
hop_at_window task is n h hop = let w = contact_window task.plan is.plan n hop.contact hop.named in omega (arith, w.0, hop.is.start, hop.is.end)
