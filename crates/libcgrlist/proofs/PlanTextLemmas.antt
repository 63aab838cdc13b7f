-- Reading the text of a plan makes the plan again.
use Rattle.std.proofs.Common.{◌≡◌, ◌≢◌, ℕ, zero, suc, ◌+◌, ◌-◌, ◌*◌, ◌^◌, ◌<◌, ◌≤◌, Bool, true, false, not, ◌&&◌, eqb, ltb, List, [], ◌∷◌, ◌++◌, map, length, refl, sym, ap, subst, ◌∙◌, arith, append_assoc, append-nil, length-append, codes, Option, Some, None, Ok, is_some}
use Rattle.std.specs.List.{AllByRecursion, filter, find, flat_map, list_any}
use Rattle.std.specs.List.Sorted.{IsStrictlySortedBy}
use Rattle.std.specs.Option.{option_map, option_or}
use Rattle.std.specs.Cmp.{IsTotalOrder, on_total}
use Rattle.std.specs.Ordering.{ordering_reverse}
use Rattle.sabr_model.proofs.PlanLemmas.KeyOrder.{by_key_total}
use Rattle.std.specs.declared.cmp.Ordering.TheVariants.{Less, Equal, Greater}
use Rattle.std.proofs.lemmas.Bool.{and_parts, or_parts, or_from, not-true, false≢true, false_from_ne_true, ltb-true, eq-eqb}
use Rattle.std.proofs.lemmas.Bool.Decides.{nat_tests}
use Rattle.std.proofs.lemmas.List.Elements.{filter-append}
use Rattle.std.proofs.lemmas.List.Folds.{find-append, list_any-append}
use Rattle.std.proofs.lemmas.Map.Steps.{le-length_from_below}
use Rattle.std.proofs.lemmas.List.{length-map}
use Rattle.std.proofs.Math.Bool.{and-false}
use Rattle.std.specs.Prelude.{if◌then◌else◌}
use Rattle.sabr_model.specs.Order.{by_key, put_in}
use Rattle.sabr_model.proofs.ListLemmas.Has.{eqb_flip}
use Rattle.sabr_model.proofs.PlanLemmas.ContactLemmas.{all_push}
use Rattle.sabr_model.specs.declared.contact.Contact.{Contact}
use Rattle.sabr_model.specs.declared.contact.Range.{Range}
use Rattle.sabr_model.specs.plan.Plan.{ContactPlan, IsPlan, IsWindow, IsPair, has, last_time, most_light, none_twice, opens, overlap, range_key, rises_above, same_opening}
use Rattle.sabr_model.specs.plan.Adding.{by_range_key, first_refusal}
use Rattle.sabr_model.specs.declared.fault.AddFault.TheVariants as add
use Rattle.sabr_model.proofs.PlanLemmas.RangeLemmas.{overlap_flip}
use Rattle.sabr_plan.specs.Feeding.{Fed, nothing_fed, outcome}
use Rattle.sabr_plan.specs.Reading.{Reading, line_executed, limited, most_lines, executed}
use Rattle.sabr_plan.specs.declared.command.Command.{Command}
use Rattle.sabr_plan.specs.declared.command.Command.TheVariants.{Add, Delete}
use Rattle.sabr_plan.specs.declared.command.Addition.{Addition}
use Rattle.sabr_plan.specs.declared.command.Deletion.{Deletion}
use Rattle.sabr_plan.specs.declared.command.Target.TheVariants as target
use Rattle.sabr_plan.proofs.Outcomes.{outcome-end, outcome-line, plan_of-outcome}
use Rattle.libcgrlist.specs.PlanTexts.{PlanTextsReadBack, addition_line, contact_line, contacts_text, deletion_line, free_from, free_start, gap_text, plan_text, range_line}
use Rattle.libcgrlist.proofs.PlanTextLines.{IsLineOf, HasLimits, addition_line_is, deletion_line_is}

-- ---- bytes that lead from one reading to another

-- after n lines
abbrev fed : ℕ → Reading → Fed
fed n r = record { lines = n; reading = r; held = [] }

-- after bytes the state is that of a reading, and at most `bound` lines more were read
record Arrives (bound n : ℕ) (r : Reading) (bytes : List ℕ) (r₁ : Reading) : Type 0 where
  pub at : ℕ
  pub few : at ≤ n + bound
  pub same : (more : List ℕ) → outcome (fed n r) (bytes ++ more) true ≡ outcome (fed at r₁) more true

-- bytes of at most `bound` lines lead from one reading to another
abbrev Leads : ℕ → Reading → List ℕ → Reading → Type 0
Leads bound r bytes r₁ = (n : ℕ) → n + bound ≤ most_lines → Arrives bound n r bytes r₁

leads_none : (r : Reading) → Leads 0 r [] r
leads_none r = λ n h. record { at = n; few = omega arith; same = λ more. refl }

leads_more : (k j : ℕ) (r r₁ r₂ : Reading) (one two : List ℕ) → Leads k r one r₁ → Leads j r₁ two r₂ → Leads (k + j) r (one ++ two) r₂
leads_more k j r r₁ r₂ one two p q = λ n h.
    let a = p n (omega (arith, h)) in
    let few = a.few in
    let b = q a.at (omega (arith, h, few)) in
    let last = b.few in
    record { at = b.at; few = omega (arith, few, last); same = λ more. ap (λ bytes. outcome (fed n r) bytes true) (append_assoc one two more) ∙ a.same (two ++ more) ∙ b.same more }

leads_wider : (k j : ℕ) (r r₁ : Reading) (bytes : List ℕ) → k ≤ j → Leads k r bytes r₁ → Leads j r bytes r₁
leads_wider k j r r₁ bytes le p = λ n h.
    let a = p n (omega (arith, h, le)) in
    let few = a.few in
    record { at = a.at; few = omega (arith, few, le); same = a.same }

limited_is : (n : ℕ) (r : Reading) (line : List ℕ) → n ≤ 1000000 → length line ≤ 255 → limited n r line ≡ line_executed r line
unfolding limited
limited_is n r line few short = grind (arith, nat_tests, few, short)

line_executed_is : (r r₁ : Reading) (line : List ℕ) (bytes : List ℕ) (command : Command) (is : IsLineOf bytes command) → executed r command ≡ Ok r₁ → line_executed r is.line ≡ Ok r₁
unfolding line_executed
line_executed_is r r₁ line bytes command is e = rw (is.has r.reference) e

leads_line : (r r₁ : Reading) (bytes : List ℕ) (command : Command) → IsLineOf bytes command → executed r command ≡ Ok r₁ → Leads 1 r bytes r₁
leads_line r r₁ bytes command is e = λ n h.
    let read : limited (n + 1) r is.line ≡ Ok r₁ = limited_is (n + 1) r is.line (omega (arith, h)) is.short ∙ line_executed_is r r₁ is.line bytes command is e in
    record {
      at = n + 1;
      few = omega arith;
      same = λ more. ap (λ b. outcome (fed n r) (b ++ more) true) is.parts ∙ outcome-line (fed n r) is.line [] more true refl is.one ∙ rw read refl;
    }

-- ---- additions that aren't refused

-- a reading of contacts and ranges
abbrev reading : List Contact → List Range → ℕ → Reading
reading contacts ranges largest = record { plan = record { contacts = contacts; ranges = ranges; largest = largest }; reference = None }

no_refusal : (one other start end : ℕ) (clashes : Bool) (count : ℕ) → start < end → one ≢ other → clashes ≡ false → count < 20000 → first_refusal one other start end clashes add.DuplicateContact count ≡ None
no_refusal one other start end clashes count window apart free room = grind (arith, nat_tests, window, apart, free, room)

no_range_refusal : (one other start end : ℕ) (clashes : Bool) (count : ℕ) → start < end → one ≢ other → clashes ≡ false → count < 20000 → first_refusal one other start end clashes add.RangeOverlap count ≡ None
no_range_refusal one other start end clashes count window apart free room = grind (arith, nat_tests, window, apart, free, room)

-- ---- what passes no test

module _ {X : Type 0} (p : X → Bool) where
  none_front : (xs ys : List X) → list_any p (xs ++ ys) ≡ false → list_any p xs ≡ false
  none_front xs ys none = (or_parts (list_any p xs) (list_any p ys) (sym (list_any-append p xs ys) ∙ none)).0

  filter_all : (xs : List X) → list_any p xs ≡ false → filter (λ x. not (p x)) xs ≡ xs
  filter_all [] none = refl
  filter_all (x ∷ xs) none = let parts = or_parts (p x) (list_any p xs) none in rw (parts.0, filter_all xs parts.1) refl

  filter_last : (xs : List X) (x : X) → list_any p xs ≡ false → p x ≡ true → filter (λ y. not (p y)) (xs ++ x ∷ []) ≡ xs
  filter_last xs x none passes = filter-append (λ y. not (p y)) xs (x ∷ []) ∙ rw (filter_all xs none, passes) (append-nil xs)

  finds_last : (xs : List X) (x : X) → p x ≡ true → is_some (find p (xs ++ x ∷ [])) ≡ true
  finds_last xs x passes = ap is_some (find-append p xs (x ∷ [])) ∙ rw passes (either (find p xs))
    where
      either : (o : Option X) → is_some (option_or o (Some x)) ≡ true
      either None = refl
      either (Some y) = refl

-- no element of the front is as one after it
none_twice_front : {X : Type 0} (same : X → X → Bool) → ((x y : X) → same x y ≡ same y x) → (xs : List X) (x : X) (ys : List X) → none_twice same (xs ++ x ∷ ys) ≡ true → list_any (same x) xs ≡ false
none_twice_front same flips [] x ys none = refl
none_twice_front same flips (z ∷ xs) x ys none =
    let parts = and_parts (not (list_any (same z) (xs ++ x ∷ ys))) (none_twice same (xs ++ x ∷ ys)) none in
    let new : list_any (same z) (xs ++ x ∷ ys) ≡ false = not-true (list_any (same z) (xs ++ x ∷ ys)) parts.0 in
    let back = or_parts (list_any (same z) xs) (list_any (same z) (x ∷ ys)) (sym (list_any-append (same z) xs (x ∷ ys)) ∙ new) in
    let one = or_parts (same z x) (list_any (same z) ys) back.1 in
    or_from (same x z) (list_any (same x) xs) (flips x z ∙ one.0) (none_twice_front same flips xs x ys parts.1)

-- ---- numbers that are given and taken back

module _ (s : ℕ) where
  -- the contact that is added and deleted
  abbrev filler : ℕ → Contact
  filler n = record { number = n; from = 1; to = 2; start = s; end = s + 1; rate = 0 }

  abbrev filling : Addition
  filling = record { start = s; end = s + 1; first = 1; second = 2; value = 0 }

  abbrev emptying : Deletion
  emptying = record { start = s; first = 1; second = 2 }

  fills : (n : ℕ) → opens 1 2 s (filler n) ≡ true
  fills n = eq-eqb s s refl

  module _ (front : List Contact) (low : ℕ) (free : list_any (opens 1 2 s) front ≡ false) where
    fill_executed : low < 20000 → executed (reading front [] low) (Add target.Contact filling) ≡ Ok (reading (front ++ filler (low + 1) ∷ []) [] (low + 1))
    unfolding executed
    fill_executed room = rw (no_refusal 1 2 s (s + 1) (list_any (opens 1 2 s) front) low (omega arith) (omega arith) free room) refl

    empty_executed : executed (reading (front ++ filler (low + 1) ∷ []) [] (low + 1)) (Delete target.Contact emptying) ≡ Ok (reading front [] (low + 1))
    unfolding executed
    empty_executed = rw (named (find (opens 1 2 s) (front ++ filler (low + 1) ∷ [])) (finds_last (opens 1 2 s) front (filler (low + 1)) (fills (low + 1))), filter_last (opens 1 2 s) front (filler (low + 1)) free (fills (low + 1))) refl
      where
        named : (o : Option Contact) → is_some o ≡ true → is_some (option_map (λ c. c.number) o) ≡ true
        named (Some c) e = refl
        named None e = e

  module _ (late : s + 1 ≤ last_time) where
    filling_limits : HasLimits target.Contact filling
    filling_limits = record { start = omega (arith, late); end = late; first = (omega arith, omega arith); second = (omega arith, omega arith); value = omega arith }

    gap_one : (front : List Contact) (low : ℕ) → list_any (opens 1 2 s) front ≡ false → low < 20000
        → Leads 2 (reading front [] low) (addition_line (codes "contact") s (s + 1) 1 2 0 ++ deletion_line s 1 2) (reading front [] (low + 1))
    gap_one front low free room =
        let r = reading front [] low in
        let r₁ = reading (front ++ filler (low + 1) ∷ []) [] (low + 1) in
        let r₂ = reading front [] (low + 1) in
        let one = leads_line r r₁ (addition_line (codes "contact") s (s + 1) 1 2 0) (Add target.Contact filling) (addition_line_is target.Contact filling filling_limits) (fill_executed front low free room) in
        let two = leads_line r₁ r₂ (deletion_line s 1 2) (Delete target.Contact emptying) (deletion_line_is emptying (omega (arith, late)) (omega arith, omega arith) (omega arith, omega arith)) (empty_executed front low free) in
        leads_more 1 1 r r₁ r₂ (addition_line (codes "contact") s (s + 1) 1 2 0) (deletion_line s 1 2) one two

    gap_lead : (front : List Contact) (low n : ℕ) → list_any (opens 1 2 s) front ≡ false → low + n ≤ 20000 → Leads (2 * n) (reading front [] low) (gap_text s n) (reading front [] (low + n))
    unfolding gap_text
    gap_lead front low zero free room =
        let same : low ≡ low + 0 = omega arith in
        subst (λ k. Leads (2 * 0) (reading front [] low) [] (reading front [] k)) same (leads_wider 0 (2 * 0) (reading front [] low) (reading front [] low) [] (omega arith) (leads_none (reading front [] low)))
    gap_lead front low (suc n) free room =
        let first = addition_line (codes "contact") s (s + 1) 1 2 0 in
        let second = deletion_line s 1 2 in
        let rest = gap_lead front (low + 1) n free (omega (arith, room)) in
        let end : low + 1 + n ≡ low + suc n = omega arith in
        let whole = leads_more 2 (2 * n) (reading front [] low) (reading front [] (low + 1)) (reading front [] (low + 1 + n)) (first ++ second) (gap_text s n) (gap_one front low free (omega (arith, room))) rest in
        let wide = leads_wider (2 + 2 * n) (2 * suc n) (reading front [] low) (reading front [] (low + 1 + n)) ((first ++ second) ++ gap_text s n) (omega arith) whole in
        subst (λ k. Leads (2 * suc n) (reading front [] low) (first ++ (second ++ gap_text s n)) (reading front [] k)) end
        (subst (λ b. Leads (2 * suc n) (reading front [] low) b (reading front [] (low + 1 + n))) (append_assoc first second (gap_text s n)) wide)

-- ---- contacts

opening_flip : (c d : Contact) → same_opening c d ≡ same_opening d c
opening_flip c d =
    ap (λ b. b && eqb c.to d.to && eqb c.start d.start) (eqb_flip c.from d.from)
    ∙ ap (λ b. eqb d.from c.from && b && eqb c.start d.start) (eqb_flip c.to d.to)
    ∙ ap (λ b. eqb d.from c.from && eqb d.to c.to && b) (eqb_flip c.start d.start)

-- contacts that are to be added after others
record AreNext (s largest low : ℕ) (front cs : List Contact) : Type 0 where
  pub free : list_any (opens 1 2 s) (front ++ cs) ≡ false
  pub rise : rises_above low (map (λ c. c.number) cs) ≡ true
  pub given : AllByRecursion (λ c. c.number ≤ largest) cs
  pub differ : none_twice same_opening (front ++ cs) ≡ true
  pub windows : AllByRecursion (λ c. IsWindow c.start c.end) cs
  pub nodes : AllByRecursion (λ c. IsPair c.from c.to) cs
  pub rates : AllByRecursion (λ c. c.rate < 2 ^ 64) cs

next_after : (s largest low : ℕ) (front cs : List Contact) (c : Contact) → AreNext s largest low front (c ∷ cs) → AreNext s largest c.number (front ++ c ∷ []) cs
next_after s largest low front cs c next =
    let same : front ++ c ∷ cs ≡ (front ++ c ∷ []) ++ cs = sym (append_assoc front (c ∷ []) cs) in
    record {
      free = subst (λ xs. list_any (opens 1 2 s) xs ≡ false) same next.free;
      rise = (and_parts (ltb low c.number) (rises_above c.number (map (λ d. d.number) cs)) next.rise).1;
      given = next.given.1;
      differ = subst (λ xs. none_twice same_opening xs ≡ true) same next.differ;
      windows = next.windows.1;
      nodes = next.nodes.1;
      rates = next.rates.1;
    }

abbrev adding : Contact → Addition
adding c = record { start = c.start; end = c.end; first = c.from; second = c.to; value = c.rate }

module _ (c : Contact) (window : IsWindow c.start c.end) (pair : IsPair c.from c.to) (rate : c.rate < 2 ^ 64) where
  contact_line_is : IsLineOf (contact_line c) (Add target.Contact (adding c))
  contact_line_is =
      addition_line_is target.Contact (adding c)
      (let before = window.0 in let end = window.1 in record { start = omega (arith, before, end); end = end; first = pair.0; second = pair.1; value = omega (arith, rate) })

  contact_executed : (front : List Contact) (low : ℕ) → list_any (same_opening c) front ≡ false → low < 20000 → low + 1 ≡ c.number → executed (reading front [] low) (Add target.Contact (adding c)) ≡ Ok (reading (front ++ c ∷ []) [] c.number)
  unfolding executed
  contact_executed front low new room number =
      rw (no_refusal c.from c.to c.start c.end (list_any (same_opening c) front) low window.0 pair.2 new room, number) refl

module _ (s largest : ℕ) (late : s + 1 ≤ last_time) (room : largest ≤ 20000) where
  contacts_lead : (cs front : List Contact) (low : ℕ) → low ≤ largest → AreNext s largest low front cs → Leads (2 * (largest - low)) (reading front [] low) (contacts_text s largest low cs) (reading (front ++ cs) [] largest)
  unfolding contacts_text
  contacts_lead [] front low below next =
      let end : low + (largest - low) ≡ largest = omega (arith, below) in
      let gap = gap_lead s late front low (largest - low) (none_front (opens 1 2 s) front [] next.free) (omega (arith, below, room)) in
      subst (λ xs. Leads (2 * (largest - low)) (reading front [] low) (gap_text s (largest - low)) (reading xs [] largest)) (sym (append-nil front))
      (subst (λ k. Leads (2 * (largest - low)) (reading front [] low) (gap_text s (largest - low)) (reading front [] k)) end gap)
  contacts_lead (c ∷ cs) front low below next =
      let above : low < c.number = ltb-true low c.number (and_parts (ltb low c.number) (rises_above c.number (map (λ d. d.number) cs)) next.rise).0 in
      let most : c.number ≤ largest = next.given.0 in
      let n = c.number - 1 - low in
      let before : low + n ≡ c.number - 1 = omega (arith, above) in
      let number : c.number - 1 + 1 ≡ c.number = omega (arith, above) in
      let gap = subst (λ k. Leads (2 * n) (reading front [] low) (gap_text s n) (reading front [] k)) before (gap_lead s late front low n (none_front (opens 1 2 s) front (c ∷ cs) next.free) (omega (arith, above, most, room))) in
      let new = none_twice_front same_opening opening_flip front c cs next.differ in
      let r = reading front [] low in
      let r₁ = reading front [] (c.number - 1) in
      let r₂ = reading (front ++ c ∷ []) [] c.number in
      let r₃ = reading ((front ++ c ∷ []) ++ cs) [] largest in
      let line = leads_line r₁ r₂ (contact_line c) (Add target.Contact (adding c)) (contact_line_is c next.windows.0 next.nodes.0 next.rates.0) (contact_executed c next.windows.0 next.nodes.0 next.rates.0 front (c.number - 1) new (omega (arith, above, most, room)) number) in
      let rest = contacts_lead cs (front ++ c ∷ []) c.number most (next_after s largest low front cs c next) in
      let back = leads_more 1 (2 * (largest - c.number)) r₁ r₂ r₃ (contact_line c) (contacts_text s largest c.number cs) line rest in
      let whole = leads_more (2 * n) (1 + 2 * (largest - c.number)) r r₁ r₃ (gap_text s n) (contact_line c ++ contacts_text s largest c.number cs) gap back in
      let wide = leads_wider (2 * n + (1 + 2 * (largest - c.number))) (2 * (largest - low)) r r₃ (gap_text s n ++ (contact_line c ++ contacts_text s largest c.number cs)) (omega (arith, above, most)) whole in
      subst (λ xs. Leads (2 * (largest - low)) (reading front [] low) (gap_text s n ++ (contact_line c ++ contacts_text s largest c.number cs)) (reading xs [] largest)) (append_assoc front (c ∷ []) cs) wide

-- ---- ranges

order_total : IsTotalOrder by_range_key
order_total = on_total range_key by_key_total

-- a range that comes after all goes behind them
put_behind : (r : Range) (rs : List Range) → AllByRecursion (λ s. by_range_key s r ≡ Less) rs → put_in by_range_key r rs ≡ rs ++ r ∷ []
put_behind r [] all = refl
put_behind r (s ∷ rs) all =
    ap (λ o. elim o as (λ _. List Range) [ Less ↦ r ∷ s ∷ rs | Equal ↦ s ∷ rs | Greater ↦ s ∷ put_in by_range_key r rs ]) (order_total.antisymm r s ∙ ap ordering_reverse all.0)
    ∙ ap (λ xs. s ∷ xs) (put_behind r rs all.1)

-- of ranges in order all come before those after them
abbrev AllBefore : List Range → List Range → Type 0
AllBefore ys xs = AllByRecursion (λ x. AllByRecursion (λ s. by_range_key s x ≡ Less) ys) xs

before_more : (ys xs : List Range) (y : Range) → AllBefore ys xs → AllByRecursion (λ k. by_key (range_key y) k ≡ Less) (map range_key xs) → AllBefore (ys ++ y ∷ []) xs
before_more ys [] y all above = tt
before_more ys (x ∷ xs) y all above = (all_push (λ s. by_range_key s x ≡ Less) ys y all.0 above.0, before_more ys xs y all.1 above.1)

-- ranges that are to be added after others
record AreNextRanges (front rs : List Range) : Type 0 where
  pub apart : none_twice overlap (front ++ rs) ≡ true
  pub behind : AllBefore front rs
  pub rise : IsStrictlySortedBy by_key (map range_key rs)
  pub windows : AllByRecursion (λ r. IsWindow r.start r.end) rs
  pub nodes : AllByRecursion (λ r. IsPair r.one r.other) rs
  pub lights : AllByRecursion (λ r. r.light ≤ most_light) rs
  pub few : length front + length rs ≤ 20000

next_range : (front rs : List Range) (r : Range) → AreNextRanges front (r ∷ rs) → AreNextRanges (front ++ r ∷ []) rs
unfolding IsStrictlySortedBy
next_range front rs r next =
    let few = next.few in
    record {
      apart = subst (λ xs. none_twice overlap xs ≡ true) (sym (append_assoc front (r ∷ []) rs)) next.apart;
      behind = before_more front rs r next.behind.1 next.rise.0;
      rise = next.rise.1;
      windows = next.windows.1;
      nodes = next.nodes.1;
      lights = next.lights.1;
      few = omega (arith, few, length-append front (r ∷ []));
    }

abbrev adding_range : Range → Addition
adding_range r = record { start = r.start; end = r.end; first = r.one; second = r.other; value = r.light }

module _ (r : Range) (window : IsWindow r.start r.end) (pair : IsPair r.one r.other) (light : r.light ≤ most_light) where
  range_line_is : IsLineOf (range_line r) (Add target.Range (adding_range r))
  range_line_is =
      addition_line_is target.Range (adding_range r)
      (let before = window.0 in let end = window.1 in record { start = omega (arith, before, end); end = end; first = pair.0; second = pair.1; value = light })

  range_executed : (contacts : List Contact) (largest : ℕ) (front : List Range) → list_any (overlap r) front ≡ false → length front < 20000 → AllByRecursion (λ s. by_range_key s r ≡ Less) front
      → executed (reading contacts front largest) (Add target.Range (adding_range r)) ≡ Ok (reading contacts (front ++ r ∷ []) largest)
  unfolding executed
  range_executed contacts largest front new room behind =
      rw (no_range_refusal r.one r.other r.start r.end (list_any (overlap r) front) (length front) window.0 pair.2 new room, put_behind r front behind) refl

module _ (contacts : List Contact) (largest : ℕ) where
  ranges_lead : (rs front : List Range) → AreNextRanges front rs → Leads (length rs) (reading contacts front largest) (flat_map range_line rs) (reading contacts (front ++ rs) largest)
  ranges_lead [] front next = subst (λ xs. Leads 0 (reading contacts front largest) [] (reading contacts xs largest)) (sym (append-nil front)) (leads_none (reading contacts front largest))
  ranges_lead (r ∷ rs) front next =
      let new = none_twice_front overlap overlap_flip front r rs next.apart in
      let few = next.few in
      let r₀ = reading contacts front largest in
      let r₁ = reading contacts (front ++ r ∷ []) largest in
      let r₂ = reading contacts ((front ++ r ∷ []) ++ rs) largest in
      let line = leads_line r₀ r₁ (range_line r) (Add target.Range (adding_range r)) (range_line_is r next.windows.0 next.nodes.0 next.lights.0) (range_executed r next.windows.0 next.nodes.0 next.lights.0 contacts largest front new (omega (arith, few)) next.behind.0) in
      let whole = leads_more 1 (length rs) r₀ r₁ r₂ (range_line r) (flat_map range_line rs) line (ranges_lead rs (front ++ r ∷ []) (next_range front rs r next)) in
      let wide = leads_wider (1 + length rs) (suc (length rs)) r₀ r₂ (range_line r ++ flat_map range_line rs) (omega arith) whole in
      subst (λ xs. Leads (suc (length rs)) r₀ (range_line r ++ flat_map range_line rs) (reading contacts xs largest)) (append_assoc front (r ∷ []) rs) wide

-- ---- a second in which no contact starts

-- if the number that is found is in the list, all numbers that were tried are
all_taken : (n q : ℕ) (xs : List ℕ) → has (free_from n q xs) xs ≡ true → (k : ℕ) → k ≤ n → has (q + k) xs ≡ true
unfolding free_from
all_taken zero q xs taken k below = let same : q ≡ q + k = omega (arith, below) in subst (λ x. has x xs ≡ true) same taken
all_taken (suc n) q xs taken k below =
    (elim (has q xs) as (λ b. has q xs ≡ b → has (if b then free_from n (q + 1) xs else q) xs ≡ true → has (q + k) xs ≡ true) [
      | true ↦ λ first later. each k below first (λ j within. all_taken n (q + 1) xs later j within)
      | false ↦ λ absent first. absurd (false≢true (sym absent ∙ first))
    ]) refl taken
  where
    each : (k : ℕ) → k ≤ suc n → has q xs ≡ true → ((j : ℕ) → j ≤ n → has (q + 1 + j) xs ≡ true) → has (q + k) xs ≡ true
    each zero below first later = let same : q ≡ q + 0 = omega arith in subst (λ x. has x xs ≡ true) same first
    each (suc j) below first later = let same : q + 1 + j ≡ q + suc j = omega arith in subst (λ x. has x xs ≡ true) same (later j (omega (arith, below)))

free_is_free : (xs : List ℕ) → has (free_from (length xs) 0 xs) xs ≡ false
free_is_free xs =
    false_from_ne_true (has (free_from (length xs) 0 xs) xs)
    (λ taken. let long = le-length_from_below xs (length xs + 1) (λ q below. let same : 0 + q ≡ q = omega arith in subst (λ x. has x xs ≡ true) same (all_taken (length xs) 0 xs taken q (omega (arith, below)))) in absurd (omega (arith, long)))

free_is_early : (n q : ℕ) (xs : List ℕ) → free_from n q xs ≤ q + n
unfolding free_from
free_is_early zero q xs = omega arith
free_is_early (suc n) q xs =
    elim (has q xs) as (λ b. (if b then free_from n (q + 1) xs else q) ≤ q + suc n) [
      | true ↦ let rest = free_is_early n (q + 1) xs in omega (arith, rest)
      | false ↦ omega arith
    ]

no_start_no_opening : (s : ℕ) (cs : List Contact) → has s (map (λ c. c.start) cs) ≡ false → list_any (opens 1 2 s) cs ≡ false
no_start_no_opening s [] free = refl
no_start_no_opening s (c ∷ cs) free =
    let parts = or_parts (eqb s c.start) (has s (map (λ d. d.start) cs)) free in
    or_from (opens 1 2 s c) (list_any (opens 1 2 s) cs) (rw parts.0 (and-false (eqb 1 c.from && eqb 2 c.to))) (no_start_no_opening s cs parts.1)

-- rising numbers are at most as many as the largest
few_contacts : (cs : List Contact) (low largest : ℕ) → rises_above low (map (λ c. c.number) cs) ≡ true → AllByRecursion (λ c. c.number ≤ largest) cs → low ≤ largest → length cs + low ≤ largest
few_contacts [] low largest rise given below = omega (arith, below)
few_contacts (c ∷ cs) low largest rise given below =
    let parts = and_parts (ltb low c.number) (rises_above c.number (map (λ d. d.number) cs)) rise in
    let above = ltb-true low c.number parts.0 in
    let rest = few_contacts cs c.number largest parts.1 given.1 given.0 in
    omega (arith, above, rest)

-- ---- the whole text

none_behind : (rs : List Range) → AllBefore [] rs
none_behind [] = tt
none_behind (r ∷ rs) = (tt, none_behind rs)

module _ (p : ContactPlan) (h : IsPlan p) where
  pub start_is_early : free_start p.contacts + 1 ≤ last_time
  unfolding free_start
  start_is_early =
      let early = free_is_early (length p.contacts) 0 (map (λ c. c.start) p.contacts) in
      let few = few_contacts p.contacts 0 p.largest h.numbers_rise h.numbers_given (omega arith) in
      let most = h.count in
      omega (arith, early, few, most)

  start_is_free : list_any (opens 1 2 (free_start p.contacts)) p.contacts ≡ false
  unfolding free_start
  start_is_free =
      let s = free_from (length p.contacts) 0 (map (λ c. c.start) p.contacts) in
      let as_many : length (map (λ (c : Contact). c.start) p.contacts) ≡ length p.contacts = length-map p.contacts (λ c. c.start) in
      no_start_no_opening s p.contacts (subst (λ n. has (free_from n 0 (map (λ c. c.start) p.contacts)) (map (λ c. c.start) p.contacts) ≡ false) as_many (free_is_free (map (λ c. c.start) p.contacts)))

  plan_leads : Leads (2 * (p.largest - 0) + length p.ranges) (reading [] [] 0) (plan_text p) (reading p.contacts p.ranges p.largest)
  unfolding plan_text
  plan_leads =
      let s = free_start p.contacts in
      let next : AreNext s p.largest 0 [] p.contacts = record { free = start_is_free; rise = h.numbers_rise; given = h.numbers_given; differ = h.openings_differ; windows = h.contact_windows; nodes = h.contact_nodes; rates = h.rates } in
      let most = h.range_count in
      let ranges : AreNextRanges [] p.ranges = record { apart = h.ranges_apart; behind = none_behind p.ranges; rise = h.ranges_rise; windows = h.range_windows; nodes = h.range_nodes; lights = h.lights; few = omega (arith, most) } in
      leads_more (2 * (p.largest - 0)) (length p.ranges) (reading [] [] 0) (reading p.contacts [] p.largest) (reading p.contacts p.ranges p.largest) (contacts_text s p.largest 0 p.contacts) (flat_map range_line p.ranges)
      (contacts_lead s p.largest start_is_early h.count p.contacts [] 0 (omega arith) next) (ranges_lead p.contacts p.largest p.ranges [] ranges)

pub reads_back : PlanTextsReadBack
reads_back p h =
    let most = h.count in
    let few = h.range_count in
    let text = plan_text p in
    let a = plan_leads p h 0 (omega (arith, most, few)) in
    plan_of-outcome text true ∙ ap (λ b. outcome nothing_fed b true) (sym (append-nil text)) ∙ a.same [] ∙ outcome-end (fed a.at (reading p.contacts p.ranges p.largest)) true refl
