-- Copies of plans whose contacts are numbered from 1 on, and the nodes of plans.
use Rattle.std.proofs.Common.{◌≡◌, ℕ, zero, suc, ◌+◌, ◌<◌, ◌≤◌, ◌^◌, true, ◌&&◌, ◌||◌, not, ltb, List, [], ◌∷◌, ◌++◌, drop, length, get_or, map, take, set, refl, sym, ap, ◌∙◌, arith, eqb, subst}
use Rattle.std.specs.List.{filter, list_any, AllByRecursion, Contains, dedup}
use Rattle.std.proofs.lemmas.Bool.{and_from, lt-ltb}
use Rattle.std.proofs.Math.Seq.{take-append_seam}
use Rattle.std.proofs.lemmas.List.{length-map, length-take, map-append, take_more}
use Rattle.host.specs.Buffers.{put_over}
use Rattle.host.proofs.BufferLemmas.{put_over-same, put_over-set}
use Rattle.sabr_model.specs.declared.contact.Contact.{Contact}
use Rattle.sabr_model.specs.declared.contact.Range.{Range}
use Rattle.sabr_model.specs.plan.Plan.{ContactPlan, IsPlan, IsWindow, IsPair, most_records, none_twice, rises_above, same_opening}
use Rattle.sabr_model.proofs.PlanLemmas.Deletions.{IsPlan-fewer_contacts, IsPlan-fewer_ranges, length-filter_le}
use Rattle.sabr_model.proofs.PlanLemmas.Limits.{few_contacts}
use Rattle.libcgrlist.specs.Plans.{contacts_after, numbered_from, ranges_after, renumbered}
use Rattle.std.specs.List.Sorted.{IsPermutation, IsSorted, IsStrictlyIncreasing}
use Rattle.std.specs.Ordering.{nat_cmp}
use Rattle.std.proofs.lemmas.List.Kept.{Contains-dedup_nat, Contains-from_dedup}
use Rattle.std.proofs.lemmas.List.Sorted.{Contains-permutation, IsPermutation-sym}
use Rattle.std.proofs.lemmas.Map.Keys.{IsStrictlyIncreasing-dedup}
use Rattle.sabr_model.specs.plan.Table.{ends_of}
use Rattle.libcgrlist.specs.Views.{AreNodesOf}

-- ---- numbers from 1 on

-- they are as many
pub length-numbered_from : (n : ℕ) (cs : List Contact) → length (numbered_from n cs) ≡ length cs
length-numbered_from n [] = refl
length-numbered_from n (c ∷ cs) = ap suc (length-numbered_from (n + 1) cs)

-- one contact after another is numbered
number_step : (n : ℕ) (cs now : List Contact) (i : ℕ) (d : Contact) → i < length cs → now ≡ numbered_from n (take i cs) ++ drop i cs → set now i (record (get_or now i d) { number = n + i }) ≡ numbered_from n (take (suc i) cs) ++ drop (suc i) cs
number_step n cs now i d h is = ap (λ xs. set xs i (record (get_or xs i d) { number = n + i })) is ∙ step n cs i h
  where
    step : (n : ℕ) (cs : List Contact) (i : ℕ) → i < length cs → set (numbered_from n (take i cs) ++ drop i cs) i (record (get_or (numbered_from n (take i cs) ++ drop i cs) i d) { number = n + i }) ≡ numbered_from n (take (suc i) cs) ++ drop (suc i) cs
    step n [] i h = absurd (omega (arith, h))
    step n (c ∷ cs) zero h = let at : n + 0 ≡ n = omega arith in ap (λ k. record c { number = k } ∷ cs) at
    step n (c ∷ cs) (suc i) h =
        let at : n + suc i ≡ (n + 1) + i = omega arith in
        let xs = numbered_from (n + 1) (take i cs) ++ drop i cs in
        ap (λ ys. record c { number = n } ∷ ys) (ap (λ k. set xs i (record (get_or xs i d) { number = k })) at ∙ step (n + 1) cs i (omega (arith, h)))

-- a step of a loop that does it
pub number_more : (cs now : List Contact) (i : ℕ) (d : Contact) → i < length cs → now ≡ numbered_from 1 (take i cs) ++ drop i cs → set now i (record (get_or now i d) { number = i + 1 }) ≡ numbered_from 1 (take (i + 1) cs) ++ drop (i + 1) cs
number_more cs now i d h is =
    let number : i + 1 ≡ 1 + i = omega arith in
    let place : suc i ≡ i + 1 = omega arith in
    ap (λ k. set now i (record (get_or now i d) { number = k })) number ∙ number_step 1 cs now i d h is ∙ ap (λ k. numbered_from 1 (take k cs) ++ drop k cs) place

-- what the numbers don't change
pub all_numbered : (P : Contact → Type 0) → ((c : Contact) (n : ℕ) → P c → P (record c { number = n })) → (n : ℕ) (cs : List Contact) → AllByRecursion P cs → AllByRecursion P (numbered_from n cs)
all_numbered P keeps n [] all = tt
all_numbered P keeps n (c ∷ cs) all = (keeps c n all.0, all_numbered P keeps (n + 1) cs all.1)

any_numbered : (c : Contact) (k n : ℕ) (cs : List Contact) → list_any (same_opening (record c { number = k })) (numbered_from n cs) ≡ list_any (same_opening c) cs
any_numbered c k n [] = refl
any_numbered c k n (d ∷ cs) = ap (λ b. same_opening c d || b) (any_numbered c k (n + 1) cs)

openings_numbered : (n : ℕ) (cs : List Contact) → none_twice same_opening (numbered_from n cs) ≡ none_twice same_opening cs
openings_numbered n [] = refl
openings_numbered n (c ∷ cs) =
    ap (λ b. not b && none_twice same_opening (numbered_from (n + 1) cs)) (any_numbered c n (n + 1) cs)
    ∙ ap (λ b. not (list_any (same_opening c) cs) && b) (openings_numbered (n + 1) cs)

-- the numbers rise
rises_numbered : (low : ℕ) (cs : List Contact) → rises_above low (map (λ c. c.number) (numbered_from (low + 1) cs)) ≡ true
rises_numbered low [] = refl
rises_numbered low (c ∷ cs) =
    and_from (ltb low (low + 1)) (rises_above (low + 1) (map (λ d. d.number) (numbered_from (low + 1 + 1) cs))) (lt-ltb low (low + 1) (omega arith)) (rises_numbered (low + 1) cs)

-- up to how many there are
within_numbered : (low top : ℕ) (cs : List Contact) → low + length cs ≤ top → AllByRecursion (λ c. c.number ≤ top) (numbered_from (low + 1) cs)
within_numbered low top [] h = tt
within_numbered low top (c ∷ cs) h = (omega (arith, h), within_numbered (low + 1) top cs (omega (arith, h)))

-- a plan whose contacts are numbered from 1 on is a plan
IsPlan-numbered : (p : ContactPlan) → IsPlan p → IsPlan (record { contacts = numbered_from 1 p.contacts; ranges = p.ranges; largest = length p.contacts })
IsPlan-numbered p h = record {
  contact_windows = all_numbered (λ c. IsWindow c.start c.end) (λ c n w. w) 1 p.contacts h.contact_windows;
  contact_nodes = all_numbered (λ c. IsPair c.from c.to) (λ c n w. w) 1 p.contacts h.contact_nodes;
  rates = all_numbered (λ c. c.rate < 2 ^ 64) (λ c n w. w) 1 p.contacts h.rates;
  ranges_rise = h.ranges_rise;
  numbers_rise = rises_numbered 0 p.contacts;
  numbers_given = within_numbered 0 (length p.contacts) p.contacts (omega arith);
  openings_differ = openings_numbered 1 p.contacts ∙ h.openings_differ;
  range_windows = h.range_windows;
  range_nodes = h.range_nodes;
  lights = h.lights;
  ranges_apart = h.ranges_apart;
  count = few_contacts p h;
  range_count = h.range_count;
}

-- what ends after a second is no more
pub few_after : (p : ContactPlan) (second : ℕ) → IsPlan p → length (contacts_after second p.contacts) ≤ most_records
few_after p second h =
    let fewer = length-filter_le (λ (c : Contact). ltb second c.end) p.contacts in
    let few = few_contacts p h in
    omega (arith, fewer, few)

-- a renumbered plan is a plan
pub IsPlan-renumbered : (p : ContactPlan) (second : ℕ) → IsPlan p → IsPlan (renumbered p second)
IsPlan-renumbered p second h =
    IsPlan-numbered (record { contacts = contacts_after second p.contacts; ranges = filter (λ r. ltb second r.end) p.ranges; largest = p.largest })
    (IsPlan-fewer_ranges (record { contacts = contacts_after second p.contacts; ranges = p.ranges; largest = p.largest }) (λ r. ltb second r.end)
    (IsPlan-fewer_contacts p (λ c. ltb second c.end) h))

-- so is one whose contacts were numbered in place
pub renumbered_in_place : (p : ContactPlan) (second n m : ℕ) (kept new rest : List Contact) (ranges : List Range) → IsPlan p
    → kept ≡ contacts_after second p.contacts → new ≡ numbered_from 1 kept → ranges ≡ ranges_after second p.ranges → n ≡ length kept → m ≡ length kept
    → record { contacts = take n (new ++ rest); ranges = ranges; largest = m } ≡ renumbered p second
renumbered_in_place p second n m kept new rest ranges h left numbered ended count last =
    let long : n ≡ length new = count ∙ sym (ap length numbered ∙ length-numbered_from 1 kept) in
    let front : take n (new ++ rest) ≡ new = ap (λ k. take k (new ++ rest)) long ∙ take-append_seam new rest in
    let contacts : take n (new ++ rest) ≡ numbered_from 1 (contacts_after second p.contacts) = front ∙ numbered ∙ ap (numbered_from 1) left in
    let largest : m ≡ length (contacts_after second p.contacts) = last ∙ ap length left in
    cc

one_number : (cs : List Contact) (i : ℕ) (d : Contact) → i < length cs → map (λ c. c.number) (take (i + 1) cs) ≡ map (λ c. c.number) (take i cs) ++ (get_or cs i d).number ∷ []
one_number cs i d h = ap (map (λ (c : Contact). c.number)) (take_more cs i d h) ∙ map-append (λ (c : Contact). c.number) (take i cs) (get_or cs i d ∷ [])

number_count : (cs : List Contact) (i : ℕ) → i < length cs → length (map (λ (c : Contact). c.number) (take i cs)) ≡ i
number_count cs i h = omega (arith, length-map (take i cs) (λ (c : Contact). c.number), length-take i cs)

-- a step of a loop that writes the numbers of contacts to a buffer, where there is room
pub number_put : (cs : List Contact) (bs now : List ℕ) (i : ℕ) (d : Contact) → i < length cs → now ≡ put_over bs (map (λ c. c.number) (take i cs)) → i < length now
    → set now i (get_or cs i d).number ≡ put_over bs (map (λ c. c.number) (take (i + 1) cs))
number_put cs bs now i d h is room =
    put_over-set bs (map (λ c. c.number) (take i cs)) now (get_or cs i d).number i is (number_count cs i h) room ∙ sym (ap (put_over bs) (one_number cs i d h))

-- and where there is none
pub number_not_put : (cs : List Contact) (bs now : List ℕ) (i : ℕ) (d : Contact) → i < length cs → now ≡ put_over bs (map (λ c. c.number) (take i cs)) → length now ≤ i
    → now ≡ put_over bs (map (λ c. c.number) (take (i + 1) cs))
number_not_put cs bs now i d h is full =
    put_over-same bs (map (λ c. c.number) (take i cs)) now (get_or cs i d).number i is (number_count cs i h) full ∙ sym (ap (put_over bs) (one_number cs i d h))

-- ---- nodes, by sorting

-- the senders and receivers, sorted, without repetitions
pub nodes_sorted : (cs : List Contact) (made sorted nodes : List ℕ) → made ≡ ends_of cs → IsPermutation made sorted → IsSorted nat_cmp sorted → nodes ≡ dedup eqb sorted → AreNodesOf cs nodes
nodes_sorted cs made sorted nodes is moved rises once = record {
  rise = subst IsStrictlyIncreasing (sym once) (IsStrictlyIncreasing-dedup sorted rises);
  ends = λ node. (
    (λ h. subst (λ xs. Contains xs node) is (Contains-permutation sorted made node (IsPermutation-sym made sorted moved) (Contains-from_dedup eqb sorted node (subst (λ xs. Contains xs node) once h)))),
    (λ h. subst (λ xs. Contains xs node) (sym once) (Contains-dedup_nat sorted node (Contains-permutation made sorted node moved (subst (λ xs. Contains xs node) (sym is) h)))),
  );
}
