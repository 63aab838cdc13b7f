-- The least keys of what is found, how many of them are up to a key, and that they tell routes apart.
use Rattle.sabr_frontier.proofs.Names.{◌≡◌, ℕ, zero, suc, ◌+◌, ◌<◌, ◌≤◌, true, false, cond, List, [], ◌∷◌, ◌++◌, length, length-append, append_assoc, append-nil, refl, sym, ap, subst, ◌∙◌, arith, Option, Some, None, true≢false, inl, inr, get_or, take, All, IfSome, IsSome, nat_le, slice_index_or, unwrap_or, sum_by, leb-true, leb-false, le-leb, All-head, All-tail, All-nil, All-cons, All-append, IsPermutation-append_comm, IsPermutation-append_left, IsPermutation-append_right, IsPermutation-refl, IsPermutation-to_front, IsPermutation-trans, length_permutation, sum_by-IsPermutation, take_more, Node, Member, AreLeast, AreNoted, SeenKeys, carried_keys, keys_of, CarryKeys, option_and_then, ContactPlan, IsPlan, contact_named, last_time, RouteRequest, arrival, arrival_after, RouteRecord, delivery_of, route_facts, NodeId, Shape, IsTree}
use Rattle.std.specs.List.Sorted.{IsPermutation}
use Rattle.std.proofs.lemmas.List.Sums.{count_by-le-length, sum_by-append, sum_by-cons}
use Rattle.sabr_model.specs.declared.contact.Contact.{Contact}
use Rattle.sabr_model.specs.routes.Asking.{IsRequest}
use Rattle.sabr_model.proofs.RouteLemmas.Follows.{ends_in_time}
use Rattle.sabr_search.proofs.LinkLemmas.PlanFacts.{arrival_parts, cost_small, light_small}
use Rattle.sabr_search.proofs.WayLemmas.Chains.{first_arrival}
use Rattle.sabr_frontier.proofs.TreeLemmas.CarryingNodes.{inside}
use Rattle.sabr_frontier.proofs.TreeLemmas.ModifiedPlaces.{Member_get}

-- ---- how many keys are up to one

-- 1 for a key up to b, and else 0
abbrev pub one_up_to : ℕ → ℕ → ℕ
one_up_to b k = cond (nat_le k b) 1 0

-- how many of these are
abbrev pub up_to : ℕ → List ℕ → ℕ
up_to b keys = sum_by (one_up_to b) keys

pub all_up_to : (b : ℕ) (keys : List ℕ) → All (λ k. k ≤ b) keys → up_to b keys ≡ length keys
all_up_to b [] h = refl
all_up_to b (k ∷ keys) h =
    let here : one_up_to b k ≡ 1 = ap (λ t. cond t 1 0) (le-leb k b (All-head (λ k. k ≤ b) k keys h)) in
    let rest = all_up_to b keys (All-tail (λ k. k ≤ b) k keys h) in
    let cons = sum_by-cons (one_up_to b) k keys in
    omega (arith, here, rest, cons)

pub none_here : (b k : ℕ) → b < k → one_up_to b k ≡ 0
none_here b k l = elim (nat_le k b) as (λ t. nat_le k b ≡ t → one_up_to b k ≡ 0) [
  | true ↦ λ e. absurd (let h = leb-true k b e in omega arith)
  | false ↦ λ e. ap (λ t. cond t 1 0) e
] refl

pub one_at_most : (b k : ℕ) → one_up_to b k ≤ 1
one_at_most b k = elim (nat_le k b) as (λ t. cond t 1 0 ≤ 1) [ true ↦ omega arith | false ↦ omega arith ]

pub none_up_to : (b : ℕ) (keys : List ℕ) → All (λ k. b < k) keys → up_to b keys ≡ 0
none_up_to b [] h = refl
none_up_to b (k ∷ keys) h =
    let here = none_here b k (All-head (λ k. b < k) k keys h) in
    let rest = none_up_to b keys (All-tail (λ k. b < k) k keys h) in
    let cons = sum_by-cons (one_up_to b) k keys in
    omega (arith, here, rest, cons)

pub up_to_length : (b : ℕ) (keys : List ℕ) → up_to b keys ≤ length keys
up_to_length b keys = count_by-le-length (λ k. nat_le k b) keys

-- one that is above isn't among them
pub fewer_up_to : (b : ℕ) (keys : List ℕ) (i d : ℕ) → i < length keys → b < slice_index_or keys i d → up_to b keys < length keys
fewer_up_to b [] i d l a = absurd (omega arith)
fewer_up_to b (k ∷ keys) zero d l a = omega (arith, none_here b k a, sum_by-cons (one_up_to b) k keys, up_to_length b keys)
fewer_up_to b (k ∷ keys) (suc i) d l a = omega (arith, one_at_most b k, sum_by-cons (one_up_to b) k keys, fewer_up_to b keys i d (omega arith) a)

pub up_to-append : (b : ℕ) (xs ys : List ℕ) → up_to b (xs ++ ys) ≡ up_to b xs + up_to b ys
up_to-append b xs ys = sum_by-append (one_up_to b) xs ys

-- ---- the least of several

-- no more of what is kept is up to a key than of all
pub kept_up_to : (b most : ℕ) (all keys : List ℕ) → AreLeast most all keys → up_to b keys ≤ up_to b all
kept_up_to b most all keys h = omega (arith, sum_by-IsPermutation (one_up_to b) all (keys ++ h.gone) h.each, up_to-append b keys h.gone)

-- nothing is noted
pub kept_all : (most : ℕ) (keys : List ℕ) → length keys ≤ most → AreLeast most (keys ++ []) keys
kept_all most keys l = record {
  gone = [];
  each = IsPermutation-refl (keys ++ []);
  many = (let e = ap length (append-nil keys) in omega (arith, e));
  greater = All-nil (λ g. All (λ k. k ≤ g) keys);
}

module _ (most key : ℕ) (old keys : List ℕ) (moved : IsPermutation (key ∷ old) keys) where
  joined : IsPermutation (old ++ key ∷ []) keys
  joined = IsPermutation-trans (old ++ key ∷ []) (key ∷ old) keys (IsPermutation-to_front old key) moved

  -- a key is noted, and there aren't too many
  pub kept_more : length keys ≤ most → AreLeast most (old ++ key ∷ []) keys
  kept_more l = record {
    gone = [];
    each = subst (IsPermutation (old ++ key ∷ [])) (sym (append-nil keys)) joined;
    many = (let e = length_permutation (old ++ key ∷ []) keys joined in omega (arith, e));
    greater = All-nil (λ g. All (λ k. k ≤ g) keys);
  }

  -- there is one too many: the largest goes
  pub kept_least : (new : List ℕ) (o : Option ℕ) → length old ≤ most → most < length keys → IsSome o → IfSome o (λ x. IsPermutation keys (x ∷ new)) → IfSome o (λ x. All (λ k. k ≤ x) new) → AreLeast most (old ++ key ∷ []) new
  kept_least new None few many some left largest = absurd (true≢false (sym some))
  kept_least new (Some x) few many some left largest =
      let all = IsPermutation-trans (old ++ key ∷ []) keys (x ∷ new) joined left in
      let back = IsPermutation-append_comm (x ∷ []) new in
      let each = IsPermutation-trans (old ++ key ∷ []) (x ∷ new) (new ++ x ∷ []) all back in
      record {
        gone = x ∷ [];
        each = each;
        many = (let e = length_permutation (old ++ key ∷ []) keys joined in let f = length_permutation keys (x ∷ new) left in let h = length-append old (key ∷ []) in omega (arith, e, f, h));
        greater = All-cons (λ g. All (λ k. k ≤ g) new) x [] largest (All-nil (λ g. All (λ k. k ≤ g) new));
      }

module _ (most : ℕ) (all more once twice : List ℕ) (h : AreLeast most all once) (g : AreLeast most (once ++ more) twice) where
  all_then : IsPermutation (all ++ more) (twice ++ (g.gone ++ h.gone))
  all_then =
      let first = IsPermutation-append_left more all (once ++ h.gone) h.each in
      let around = IsPermutation-append_right once (h.gone ++ more) (more ++ h.gone) (IsPermutation-append_comm h.gone more) in
      let turned = subst (λ z. IsPermutation z ((once ++ more) ++ h.gone)) (sym (append_assoc once h.gone more)) (subst (IsPermutation (once ++ (h.gone ++ more))) (sym (append_assoc once more h.gone)) around) in
      let second = subst (IsPermutation ((once ++ more) ++ h.gone)) (append_assoc twice g.gone h.gone) (IsPermutation-append_left h.gone (once ++ more) (twice ++ g.gone) g.each) in
      IsPermutation-trans (all ++ more) ((once ++ h.gone) ++ more) (twice ++ (g.gone ++ h.gone)) first
      (IsPermutation-trans ((once ++ h.gone) ++ more) ((once ++ more) ++ h.gone) (twice ++ (g.gone ++ h.gone)) turned second)

  -- none that is kept is greater than one that went before
  still_greater : (i d : ℕ) → i < length h.gone → (j e : ℕ) → j < length twice → slice_index_or twice j e ≤ slice_index_or h.gone i d
  still_greater i d l j e m =
      let x = slice_index_or h.gone i d in
      let k = slice_index_or twice j e in
      elim (nat_le k x) as (λ t. nat_le k x ≡ t → k ≤ x) [
        | true ↦ λ t. leb-true k x t
        | false ↦ λ f. absurd (
            let above = leb-false k x f in
            let few = fewer_up_to x twice j e m above in
            let none = none_up_to x g.gone (λ n c o. (let less = g.greater n c o j e m in omega arith)) in
            let those = all_up_to x once (h.greater i d l) in
            let same = sum_by-IsPermutation (one_up_to x) (once ++ more) (twice ++ g.gone) g.each in
            let long = length_permutation all (once ++ h.gone) h.each in
            omega (arith, few, none, those, same, long, up_to-append x once more, up_to-append x twice g.gone, length-append once h.gone, h.many, g.many))
      ] refl

  -- the least of the least and more are the least of all
  pub kept_twice : AreLeast most (all ++ more) twice
  kept_twice = record {
    gone = g.gone ++ h.gone;
    each = all_then;
    many = omega (arith, h.many, g.many, length-append all more, length-append once more);
    greater = All-append (λ x. All (λ k. k ≤ x) twice) g.gone h.gone g.greater (λ i d l. still_greater i d l);
  }

-- ---- keys of nodes

-- keys are noted, and then others
pub noted_twice : (old once twice : SeenKeys) (keys more all : List ℕ) → all ≡ keys ++ more → AreNoted old keys once → AreNoted once more twice → AreNoted old all twice
noted_twice old once twice keys more all e h g =
    let again = subst (λ m. AreLeast m (once.keys ++ more) twice.keys) h.most g.least in
    let assoc = append_assoc old.keys keys more ∙ ap (λ z. old.keys ++ z) (sym e) in
    record {
      most = g.most ∙ h.most;
      least = subst (λ z. AreLeast old.most z twice.keys) assoc (kept_twice old.most (old.keys ++ keys) more once.keys twice.keys h.least again);
    }

pub noted_up_to : (b : ℕ) (old new : SeenKeys) (keys : List ℕ) → AreNoted old keys new → up_to b new.keys ≤ up_to b old.keys + up_to b keys
noted_up_to b old new keys h = omega (arith, kept_up_to b old.most (old.keys ++ keys) new.keys h.least, up_to-append b old.keys keys)

module _ {A : Type 0} where
  pub carried-append : (ns ms : List (Node A)) → carried_keys (ns ++ ms) ≡ carried_keys ns ++ carried_keys ms
  carried-append [] ms = refl
  carried-append (n ∷ ns) ms = ap (λ z. keys_of n.route ++ z) (carried-append ns ms) ∙ sym (append_assoc (keys_of n.route) (carried_keys ns) (carried_keys ms))

  -- those of one node more
  pub carried_more : (ns : List (Node A)) (i : ℕ) (n : Node A) → i < length ns → n ≡ get_or ns i n → carried_keys (take (i + 1) ns) ≡ carried_keys (take i ns) ++ keys_of n.route
  carried_more ns i n l e =
      ap carried_keys (take_more ns i n l) ∙ carried-append (take i ns) (get_or ns i n ∷ [])
      ∙ ap (λ (m : Node A). carried_keys (take i ns) ++ carried_keys (m ∷ [])) (sym e) ∙ ap (λ z. carried_keys (take i ns) ++ z) (append-nil (keys_of n.route))

  pub carries_at : (ns : List (Node A)) (i : ℕ) (n : Node A) → i < length ns → n ≡ get_or ns i n → Member n ns
  carries_at [] i n l e = absurd (omega arith)
  carries_at (m ∷ ns) zero n l e = inl e
  carries_at (m ∷ ns) (suc i) n l e = inr (carries_at ns i n (omega arith) e)

-- ---- routes of an accepted plan and request are delivered early and have few hops, so that keys tell them apart

-- an arrival comes at most 2000000 seconds after the largest time
pub arrival_bound : (p : ContactPlan) (r : RouteRequest) (t u : ℕ) (c : Contact) → IsPlan p → r.margin ≤ 1000000 → c.end ≤ last_time → arrival p r t c ≡ Some u → u ≤ last_time + 2000000
arrival_bound p r t u c h hm he e = let a = arrival_parts p r t c u e in omega (arith, a.sum, a.before_end, cost_small r.margin a.light (light_small p h c a.light a.in_force) hm)

-- so does an arrival over several contacts, from a time that doesn't
pub after_bound : (p : ContactPlan) (r : RouteRequest) (t d : ℕ) (s : List ℕ) → IsPlan p → r.margin ≤ 1000000 → t ≤ last_time + 2000000 → arrival_after p r t s ≡ Some d → d ≤ last_time + 2000000
after_bound p r t d [] h hm ht e = let same : t ≡ d = cc in omega arith
after_bound p r t d (n ∷ s) h hm ht e = elim (contact_named p n) as (λ o. contact_named p n ≡ o → d ≤ last_time + 2000000) [
  | None ↦ λ none. absurd (let no_way : None ≡ Some d = sym (ap (option_and_then (λ c. option_and_then (λ u. arrival_after p r u s) (arrival p r t c))) none) ∙ e in cc)
  | Some c ↦ λ named.
      let next = first_arrival p r t n s d c named e in
      after_bound p r next.0 d s h hm (arrival_bound p r t next.0 c h hm (ends_in_time p n c h named) next.1) next.2
] refl

some_or_zero : (o : Option ℕ) (most : ℕ) → ((d : ℕ) → o ≡ Some d → d ≤ most) → unwrap_or o 0 ≤ most
some_or_zero None most f = omega arith
some_or_zero (Some d) most f = f d refl

-- so does the delivery of any list
pub delivered_early : (p : ContactPlan) (r : RouteRequest) (s : List ℕ) → IsPlan p → IsRequest r → delivery_of p r s ≤ last_time + 2000000
delivered_early p r s h q =
    let start : r.at ≤ last_time = q.time in
    some_or_zero (arrival_after p r r.at s) (last_time + 2000000) (λ d is. after_bound p r r.at d s h q.margin (omega arith) is)

-- what a sound tree carries has keys
pub carry_keys : {A : Type 0} (p : ContactPlan) (r : RouteRequest) (t : Shape A) → IsPlan p → IsRequest r → IsTree p r t → CarryKeys t.nodes
carry_keys p r t good q is n x m e =
    let early = delivered_early p r x.contacts good q in
    let told = ap (λ (y : RouteRecord). y.delivery) (is.records n x m e) in
    let at = Member_get n t.nodes m in
    let node : NodeId = record { 0 = at.0 } in
    let within = (route_facts p r x.contacts (inside p r t is node n x at.1 e).0).within in
    let most = q.hops.1 in
    record { early = omega (arith, early, told); few = omega (arith, within, most) }
