-- The sum of the looks that a searcher's finder takes.
use Rattle.sabr_frontier.proofs.Names.{◌≡◌, ℕ, ◌+◌, ◌-◌, ◌*◌, ◌≤◌, min, arith, ap, sym, subst, ◌∙◌, ContactPlan, many_looks, Calls, no_calls, with_call, Asked, GoOn, IsAtRest, IsSumOf, Searching, call_looks, looks_since, without}

-- ---- the calls that are summed

-- none of them
pub none_summed : (p : ContactPlan) (calls summed : Calls) → summed ≡ no_calls → IsSumOf p calls summed 0
none_summed p calls summed none =
    let count = ap (λ (c : Calls). c.count) none in
    let looks = ap (λ (c : Calls). c.looks) none in
    record { count = omega (arith, count); looks = omega (arith, looks); most = omega (arith, looks); sum = omega (arith, looks) }

pub without_none : (calls summed : Calls) → summed ≡ no_calls → without calls summed ≡ calls
without_none calls summed none =
    let count : calls.count - summed.count ≡ calls.count = let zero = ap (λ (c : Calls). c.count) none in omega (arith, zero) in
    let looks : calls.looks - summed.looks ≡ calls.looks = let zero = ap (λ (c : Calls). c.looks) none in omega (arith, zero) in
    λ i. record { count = count i; looks = looks i }

-- the looks that so many calls take at most, and one more
most_on : (n m b looks last all : ℕ) → m ≡ n + 1 → looks ≤ n * b → last ≤ b → all ≡ looks + last → all ≤ m * b
most_on n m b looks last all next few one is =
    let more : all ≤ (n + 1) * b = omega (arith, few, one, is) in
    subst (λ k. all ≤ k * b) (sym next) more

-- one more call
module _ (calls next summed more : Calls) (last : ℕ) (called : next ≡ with_call calls last) (added : more ≡ with_call summed last) where
  next_count : next.count ≡ calls.count + 1
  next_count = ap (λ (c : Calls). c.count) called

  next_looks : next.looks ≡ calls.looks + last
  next_looks = ap (λ (c : Calls). c.looks) called

  more_count : more.count ≡ summed.count + 1
  more_count = ap (λ (c : Calls). c.count) added

  more_looks : more.looks ≡ summed.looks + last
  more_looks = ap (λ (c : Calls). c.looks) added

  pub sum_on : (p : ContactPlan) (sum new : ℕ) → IsSumOf p calls summed sum → last ≤ call_looks p → new ≡ min (sum + last) many_looks → IsSumOf p next more new
  sum_on p sum new is few total = record {
    count = omega (arith, is.count, next_count, more_count);
    looks = omega (arith, is.looks, next_looks, more_looks);
    most = most_on summed.count more.count (call_looks p) summed.looks last more.looks more_count is.most few more_looks;
    sum = omega (arith, is.sum, total, more_looks);
  }

  pub same_before : without next more ≡ without calls summed
  same_before =
      let count : next.count - more.count ≡ calls.count - summed.count = omega (arith, next_count, more_count) in
      let looks : next.looks - more.looks ≡ calls.looks - summed.looks = omega (arith, next_looks, more_looks) in
      λ i. record { count = count i; looks = looks i }

-- ---- the calls since those before the sum

module _ {p : ContactPlan} {calls summed : Calls} {sum : ℕ} (is : IsSumOf p calls summed sum) where
  pub sum_goes_on : GoOn p (without calls summed) calls
  sum_goes_on =
      let same : calls.count - (calls.count - summed.count) ≡ summed.count = omega (arith, is.count) in
      let most = subst (λ n. summed.looks ≤ n * call_looks p) (sym same) is.most in
      record { count = omega arith; looks = omega arith; most = omega (arith, most) }

  pub sum_since : sum ≡ looks_since (without calls summed) calls
  sum_since = omega (arith, is.looks, is.sum)

-- no call since
pub still : (p : ContactPlan) (calls : Calls) → GoOn p calls calls
still p calls = record { count = omega arith; looks = omega arith; most = omega arith }

-- those of a searcher that was at rest, up to its next rest
module _ (s t : Searching) (rest : IsAtRest s) (same : t.asked ≡ s.asked) where
  before : t.asked.before ≡ s.calls
  before = ap (λ (a : Asked). a.before) same ∙ rest

  pub calls_go_on : (calls : Calls) → calls ≡ t.calls → GoOn t.asked.plan.plan t.asked.before t.calls → GoOn s.asked.plan.plan s.calls calls
  calls_go_on calls last since =
      let of_plan = subst (λ (a : Asked). GoOn a.plan.plan t.asked.before t.calls) same since in
      subst (GoOn s.asked.plan.plan s.calls) (sym last) (subst (λ (c : Calls). GoOn s.asked.plan.plan c t.calls) before of_plan)

  pub looks_go_on : (calls : Calls) → calls ≡ t.calls → (looks : ℕ) → looks ≡ looks_since t.asked.before t.calls → looks ≡ looks_since s.calls calls
  looks_go_on calls last looks since = since ∙ (λ i. looks_since (before i) (sym last i))
