-- A plan with one more contact that is not refused is a plan.
use Rattle.std.proofs.Common.{◌≡◌, ℕ, ◌<◌, ◌≤◌, ◌^◌, Bool, true, false, ◌||◌, not, eqb, ltb, leb, List, [], ◌∷◌, ◌++◌, map, refl, ◌∙◌, arith, rules}
use Rattle.sabr_model.proofs.ListLemmas.Answered.{unfailed}
use Rattle.sabr_model.proofs.ListLemmas.Ordered.{all_weaker}
use Rattle.std.specs.List.{AllByRecursion, list_any}
use Rattle.std.specs.List.Sorted.{IsStrictlySortedBy}
use Rattle.std.proofs.lemmas.Bool.{and_parts, and_from, or_parts, or_from, not-true, not_from_false, lt-ltb, leb-false, eqb-false}
use Rattle.std.proofs.lemmas.Bool.Decides.{nat_tests}
use Rattle.std.proofs.lemmas.List.Elements.{All-from_recursion, All-push, recursion_from_All}
use Rattle.std.proofs.lemmas.List.Folds.{list_any-append}
use Rattle.std.specs.declared.option.Option.TheVariants.{None}
use Rattle.sabr_model.specs.declared.contact.Contact.{Contact}
use Rattle.sabr_model.specs.declared.fault.AddFault.TheVariants.{EmptyWindow, SelfPair, DuplicateContact, TooMany}
use Rattle.sabr_model.specs.plan.Plan.{ContactPlan, IsPlan, IsWindow, IsNode, IsPair, rises_above, opens, same_opening, none_twice, last_time}
use Rattle.sabr_model.specs.plan.Adding.{next_contact, contact_refusal, with_contact}

-- what holds for all elements and for one more
pub all_push : {X : Type 0} (P : X → Type 0) (xs : List X) (x : X) → AllByRecursion P xs → P x → AllByRecursion P (xs ++ x ∷ [])
all_push P xs x all one = recursion_from_All P (xs ++ x ∷ []) (All-push P xs x (All-from_recursion P xs all) one)

-- rising numbers with a greater one after them rise
rises_push : (low : ℕ) (cs : List Contact) (c : Contact) → rises_above low (map (λ d. d.number) cs) ≡ true → AllByRecursion (λ d. d.number < c.number) cs → low < c.number
    → rises_above low (map (λ d. d.number) (cs ++ c ∷ [])) ≡ true
rises_push low [] c rises all lt = and_from (ltb low c.number) true (lt-ltb low c.number lt) refl
rises_push low (d ∷ cs) c rises all lt =
    let parts = and_parts (ltb low d.number) (rises_above d.number (map (λ e. e.number) cs)) rises in
    and_from (ltb low d.number) (rises_above d.number (map (λ e. e.number) (cs ++ c ∷ []))) parts.0 (rises_push d.number cs c parts.1 all.1 all.0)

-- having the same opening is symmetric
opening_flip : (c d : Contact) → same_opening c d ≡ same_opening d c
opening_flip c d = grind (arith, nat_tests)

-- if no two elements pass a test, no two do after adding one that passes with none
none_twice-push : {X : Type 0} (same : X → X → Bool) → ((x y : X) → same x y ≡ same y x) → (xs : List X) (x : X) → none_twice same xs ≡ true → list_any (same x) xs ≡ false → none_twice same (xs ++ x ∷ []) ≡ true
none_twice-push same flips [] x none new = refl
none_twice-push same flips (y ∷ ys) x none new =
    let parts = and_parts (not (list_any (same y) ys)) (none_twice same ys) none in
    let other = or_parts (same x y) (list_any (same x) ys) new in
    let one : list_any (same y) (ys ++ x ∷ []) ≡ false = list_any-append (same y) ys (x ∷ []) ∙ or_from (list_any (same y) ys) (same y x || false) (not-true (list_any (same y) ys) parts.0) (or_from (same y x) false (flips y x ∙ other.0) refl) in
    and_from (not (list_any (same y) (ys ++ x ∷ []))) (none_twice same (ys ++ x ∷ [])) (not_from_false (list_any (same y) (ys ++ x ∷ [])) one) (none_twice-push same flips ys x parts.1 other.1)

-- the facts of an accepted contact
pub record IsAccepted (p : ContactPlan) (from to start end : ℕ) : Type 0 where
  pub window : start < end
  pub apart : eqb from to ≡ false
  pub new : list_any (opens from to start) p.contacts ≡ false
  pub room : p.largest < 20000

-- a contact that is not refused has these facts
pub accepted : (p : ContactPlan) (from to start end : ℕ) → contact_refusal p from to start end ≡ None → IsAccepted p from to start end
accepted p from to start end e =
    let a = unfailed (leb end start) EmptyWindow _ e in
    let b = unfailed (eqb from to) SelfPair _ a.1 in
    let c = unfailed (list_any (opens from to start) p.contacts) DuplicateContact _ b.1 in
    let d = unfailed (leb 20000 p.largest) TooMany None c.1 in
    record { window = leb-false end start a.0; apart = b.0; new = c.0; room = leb-false 20000 p.largest d.0 }

-- a plan with one more contact that is not refused is a plan
pub IsPlan-push : (p : ContactPlan) (from to start end rate : ℕ) → IsPlan p → IsNode from → IsNode to → rate < 2 ^ 64 → end ≤ last_time → contact_refusal p from to start end ≡ None
    → IsPlan (with_contact p (next_contact p from to start end rate))
IsPlan-push p from to start end rate h hf ht hr he accept =
    let a = accepted p from to start end accept in
    let c = next_contact p from to start end rate in
    record {
      contact_windows = all_push (λ d. IsWindow d.start d.end) p.contacts c h.contact_windows (a.window, he);
      contact_nodes = all_push (λ d. IsPair d.from d.to) p.contacts c h.contact_nodes (hf, ht, eqb-false from to a.apart);
      rates = all_push (λ d. d.rate < 2 ^ 64) p.contacts c h.rates hr;
      ranges_rise = h.ranges_rise;
      numbers_rise = rises_push 0 p.contacts c h.numbers_rise (all_weaker (λ d. d.number ≤ p.largest) (λ d. d.number < c.number) (λ d le. omega arith) p.contacts h.numbers_given) (omega arith);
      numbers_given = all_push (λ d. d.number ≤ c.number) p.contacts c (all_weaker (λ d. d.number ≤ p.largest) (λ d. d.number ≤ c.number) (λ d le. omega arith) p.contacts h.numbers_given) (omega arith);
      openings_differ = none_twice-push same_opening opening_flip p.contacts c h.openings_differ a.new;
      range_windows = h.range_windows;
      range_nodes = h.range_nodes;
      lights = h.lights;
      ranges_apart = h.ranges_apart;
      count = let room = a.room in omega arith;
      range_count = h.range_count;
    }

-- the empty plan is a plan
pub IsPlan-empty : IsPlan (record { contacts = []; ranges = []; largest = 0 })
unfolding IsStrictlySortedBy
IsPlan-empty = search rules
