-- Places of a list: what stands there, what is changed there, and the last one.
use Rattle.sabr_frontier.proofs.Names.{◌≡◌, ℕ, ◌-◌, ◌<◌, zero, suc, List, [], ◌∷◌, ◌++◌, length, take, set, get_or, Some, refl, sym, ap, ◌∙◌, arith, length-append, ◌+◌, ◌≤◌, drop, subst, ◌⊎◌, inl, inr, None, append_assoc, slice_get, modify, last_item, front, cases_eq, slice_get_within, slice_get-get_or, take-append-drop, NodeId, Member, InPairs, ids_from}
use Rattle.std.proofs.Common.{take_at}
use Rattle.sabr_model.proofs.ListLemmas.Members.{push_new}
use Rattle.sabr_frontier.proofs.ListingLemmas.ListMembers.{Member-append_left, Member-append_right, Member-append_cases}

-- ---- what stands at a place of a list of nodes, and what is changed there

-- ---- blocks of numbers

pub length-ids : (f n : ℕ) → length (ids_from f n) ≡ n
length-ids f zero = refl
length-ids f (suc n) = ap suc (length-ids (suc f) n)

pub ids_push : (f n : ℕ) → ids_from f (suc n) ≡ ids_from f n ++ record { 0 = f + n } ∷ []
ids_push f zero = let e : f ≡ f + 0 = omega arith in ap (λ z. record { 0 = z } ∷ []) e
ids_push f (suc n) = let e : suc f + n ≡ f + suc n = omega arith in ap (λ t. record { 0 = f } ∷ t) (ids_push (suc f) n ∙ ap (λ z. ids_from (suc f) n ++ record { 0 = z } ∷ []) e)

pub block_more : (xs old : List NodeId) (f i : ℕ) → xs ≡ old ++ ids_from f i → xs ++ record { 0 = f + i } ∷ [] ≡ old ++ ids_from f (i + 1)
block_more xs old f i e =
    let one : suc i ≡ i + 1 = omega arith in
    ap (λ z. z ++ record { 0 = f + i } ∷ []) e ∙ append_assoc old (ids_from f i) (record { 0 = f + i } ∷ []) ∙ ap (λ z. old ++ z) (sym (ids_push f i)) ∙ ap (λ m. old ++ ids_from f m) one

module _ {X : Type 0} where
  pub within_get : (xs : List X) (i : ℕ) → i < length xs → (x : X) × (slice_get xs i ≡ Some x)
  within_get [] i l = absurd (omega arith)
  within_get (y ∷ xs) zero l = (y, refl)
  within_get (y ∷ xs) (suc i) l = within_get xs i (omega arith)

  pub get_Member : (xs : List X) (i : ℕ) (x : X) → slice_get xs i ≡ Some x → Member x xs
  get_Member [] i x e = absurd cc
  get_Member (y ∷ xs) zero x e = inl (let same : y ≡ x = cc in sym same)
  get_Member (y ∷ xs) (suc i) x e = inr (get_Member xs i x e)

  pub member_at : (xs : List X) (i : ℕ) (d : X) → i < length xs → Member (get_or xs i d) xs
  member_at xs i d l = get_Member xs i (get_or xs i d) (slice_get-get_or xs i d l)

  pub Member_get : (x : X) (xs : List X) → Member x xs → (i : ℕ) × (slice_get xs i ≡ Some x)
  Member_get x [] m = absurd m
  Member_get x (y ∷ xs) (inl e) = (0, ap Some (sym e))
  Member_get x (y ∷ xs) (inr m) = let w = Member_get x xs m in (suc w.0, w.1)

  pub get_front : (xs ys : List X) (i : ℕ) → i < length xs → slice_get (xs ++ ys) i ≡ slice_get xs i
  get_front [] ys i l = absurd (omega arith)
  get_front (x ∷ xs) ys zero l = refl
  get_front (x ∷ xs) ys (suc i) l = get_front xs ys i (omega arith)

  pub get_at_end : (xs ys : List X) (x : X) → slice_get (xs ++ x ∷ ys) (length xs) ≡ Some x
  get_at_end [] ys x = refl
  get_at_end (y ∷ xs) ys x = get_at_end xs ys x

  pub get_other : (f : X → X) (xs : List X) (i j : ℕ) → (j ≡ i → ⊥) → slice_get (modify f xs i) j ≡ slice_get xs j
  get_other f [] i j ne = refl
  get_other f (x ∷ xs) zero zero ne = absurd (ne refl)
  get_other f (x ∷ xs) zero (suc j) ne = refl
  get_other f (x ∷ xs) (suc i) zero ne = refl
  get_other f (x ∷ xs) (suc i) (suc j) ne = get_other f xs i j (λ e. ne (ap suc e))

  pub get_same : (f : X → X) (xs : List X) (i : ℕ) (x : X) → slice_get xs i ≡ Some x → slice_get (modify f xs i) i ≡ Some (f x)
  get_same f [] i x e = absurd cc
  get_same f (y ∷ xs) zero x e = let same : y ≡ x = cc in ap (λ z. Some (f z)) same
  get_same f (y ∷ xs) (suc i) x e = get_same f xs i x e

  pub modify_cases : (f : X → X) (xs : List X) (i : ℕ) (e : X) → Member e (modify f xs i) → Member e xs ⊎ ((x : X) × (slice_get xs i ≡ Some x) × (e ≡ f x))
  modify_cases f [] i e m = absurd m
  modify_cases f (x ∷ xs) zero e (inl h) = inr (x, refl, h)
  modify_cases f (x ∷ xs) zero e (inr m) = inl (inr m)
  modify_cases f (x ∷ xs) (suc i) e (inl h) = inl (inl h)
  modify_cases f (x ∷ xs) (suc i) e (inr m) = elim (modify_cases f xs i e m) [ inl k ↦ inl (inr k) | inr w ↦ inr w ]

  pub Member_split : (e : X) (xs : List X) → Member e xs → (F : List X) × (M : List X) × (xs ≡ F ++ e ∷ M)
  Member_split e [] m = absurd m
  Member_split e (x ∷ xs) (inl h) = ([], xs, ap (λ z. z ∷ xs) (sym h))
  Member_split e (x ∷ xs) (inr m) = let w = Member_split e xs m in (x ∷ w.0, w.1, ap (λ z. x ∷ z) w.2)

  pub member_cut : (k : ℕ) (e : X) (xs : List X) → Member e xs → Member e (take k xs) ⊎ Member e (drop k xs)
  member_cut k e xs m = Member-append_cases e (take k xs) (drop k xs) (subst (Member e) (sym (take-append-drop k xs)) m)

  pub member_taken : (k : ℕ) (e : X) (xs : List X) → Member e (take k xs) → Member e xs
  member_taken k e xs m = subst (Member e) (take-append-drop k xs) (Member-append_left e (take k xs) (drop k xs) m)

  pub member_dropped : (k : ℕ) (e : X) (xs : List X) → Member e (drop k xs) → Member e xs
  member_dropped k e xs m = subst (Member e) (take-append-drop k xs) (Member-append_right e (take k xs) (drop k xs) m)

  -- pairs of what stands before a place and what stands after it
  pub pair_across : (Q : X → X → Type 0) (F M : List X) (a b : X) → InPairs Q (F ++ M) → Member a F → Member b M → Q a b
  pair_across Q [] M a b h m k = absurd m
  pair_across Q (x ∷ F) M a b h (inl e) k = subst (λ z. Q z b) (sym e) (h.0 b (Member-append_right b F M k))
  pair_across Q (x ∷ F) M a b h (inr m) k = pair_across Q F M a b h.1 m k

  pub pairs_front : (Q : X → X → Type 0) (F M : List X) → InPairs Q (F ++ M) → InPairs Q F
  pairs_front Q [] M h = tt
  pairs_front Q (x ∷ F) M h = ((λ y m. h.0 y (Member-append_left y F M m)), pairs_front Q F M h.1)

  pub pairs_back : (Q : X → X → Type 0) (F M : List X) → InPairs Q (F ++ M) → InPairs Q M
  pairs_back Q [] M h = h
  pairs_back Q (x ∷ F) M h = pairs_back Q F M h.1

-- ---- nodes by their numbers

pub same_node : (a b : NodeId) → a.0 ≡ b.0 → a ≡ b
same_node a b e = ap (λ n. record { 0 = n }) e

pub ids_cases : (id : NodeId) (f n : ℕ) → Member id (ids_from f n) → (f ≤ id.0) × (id.0 < f + n)
ids_cases id f zero m = absurd m
ids_cases id f (suc n) (inl e) = let same : id.0 ≡ f = ap (λ (z : NodeId). z.0) e in (omega arith, omega arith)
ids_cases id f (suc n) (inr m) = let w = ids_cases id (suc f) n m in let a = w.0 in let b = w.1 in (omega arith, omega arith)

pub ids_has : (id : NodeId) (f n : ℕ) → f ≤ id.0 → id.0 < f + n → Member id (ids_from f n)
ids_has id f zero l h = absurd (omega arith)
ids_has id f (suc n) l h = elim (cases_eq id.0 f) [
  | inl e ↦ inl (same_node id (record { 0 = f }) e)
  | inr ne ↦ inr (ids_has id (suc f) n (omega arith) (omega arith))
]

-- ---- the last of a list

get_last : {X : Type 0} (xs : List X) (i : ℕ) (z : X) → slice_get xs i ≡ Some z → suc i ≡ length xs → xs ≡ take i xs ++ z ∷ []
get_last [] i z e l = absurd cc
get_last (y ∷ []) zero z e l = let same : y ≡ z = cc in ap (λ w. w ∷ []) same
get_last (y ∷ w ∷ ys) zero z e l = absurd (omega arith)
get_last (y ∷ xs) (suc i) z e l = ap (λ w. y ∷ w) (get_last xs i z e (omega arith))

pub last_split : {X : Type 0} (xs : List X) (z : X) → last_item xs ≡ Some z → xs ≡ front xs ++ z ∷ []
last_split xs z e = get_last xs (length xs - 1) z e (omega (arith, slice_get_within xs (length xs - 1) z e))

pub some_last : {X : Type 0} (xs : List X) → 0 < length xs → (z : X) × (last_item xs ≡ Some z)
some_last xs l = within_get xs (length xs - 1) (omega arith)

pub no_last : {X : Type 0} (xs : List X) → last_item xs ≡ None → xs ≡ []
no_last [] e = refl
no_last (x ∷ xs) e = let w = some_last (x ∷ xs) (omega arith) in let f = w.1 in absurd cc

less_one : {X : Type 0} (xs : List X) (x : X) → length (xs ++ x ∷ []) - 1 ≡ length xs
less_one xs x = omega (arith, length-append xs (x ∷ []))

pub last_item_push : {X : Type 0} (ys xs : List X) (x : X) → ys ≡ xs ++ x ∷ [] → last_item ys ≡ Some x
last_item_push ys xs x e = ap last_item e ∙ (ap (slice_get (xs ++ x ∷ [])) (less_one xs x) ∙ push_new xs x)

pub front_push : {X : Type 0} (ys xs : List X) (x : X) → ys ≡ xs ++ x ∷ [] → front ys ≡ xs
front_push ys xs x e = ap front e ∙ (ap (λ n. take n (xs ++ x ∷ [])) (less_one xs x) ∙ take_at xs (x ∷ []) (length xs) refl)

-- a write of f of what stood there
pub set-modify : {X : Type 0} (f : X → X) (xs : List X) (i : ℕ) (x : X) → i < length xs → x ≡ get_or xs i x → set xs i (f x) ≡ modify f xs i
set-modify f [] i x l e = absurd (omega arith)
set-modify f (y ∷ xs) zero x l e = ap (λ z. f z ∷ xs) e
set-modify f (y ∷ xs) (suc i) x l e = ap (λ t. y ∷ t) (set-modify f xs i x (omega arith) e)

pub length-modify : {X : Type 0} (f : X → X) (xs : List X) (i : ℕ) → length (modify f xs i) ≡ length xs
length-modify f [] i = refl
length-modify f (x ∷ xs) zero = refl
length-modify f (x ∷ xs) (suc i) = ap suc (length-modify f xs i)

pub modify_front : {X : Type 0} (f : X → X) (xs ys : List X) (i : ℕ) → i < length xs → modify f (xs ++ ys) i ≡ modify f xs i ++ ys
modify_front f [] ys i l = absurd (omega arith)
modify_front f (x ∷ xs) ys zero l = refl
modify_front f (x ∷ xs) ys (suc i) l = ap (λ t. x ∷ t) (modify_front f xs ys i (omega arith))

pub modify_behind : {X : Type 0} (f : X → X) (xs ys : List X) (i : ℕ) → modify f (xs ++ ys) (length xs + i) ≡ xs ++ modify f ys i
modify_behind f [] ys i = let same : 0 + i ≡ i = omega arith in ap (modify f ys) same
modify_behind f (x ∷ xs) ys i = let same : suc (length xs) + i ≡ suc (length xs + i) = omega arith in ap (modify f (x ∷ (xs ++ ys))) same ∙ ap (λ t. x ∷ t) (modify_behind f xs ys i)

-- what stands in a front
pub get_taken : {X : Type 0} (n : ℕ) (xs : List X) (i : ℕ) → i < n → slice_get (take n xs) i ≡ slice_get xs i
get_taken zero xs i l = absurd (omega arith)
get_taken (suc n) [] i l = refl
get_taken (suc n) (x ∷ xs) zero l = refl
get_taken (suc n) (x ∷ xs) (suc i) l = get_taken n xs i (omega arith)

-- what an index reads
pub get_there : {X : Type 0} (xs : List X) (i : ℕ) (x : X) → i < length xs → x ≡ get_or xs i x → slice_get xs i ≡ Some x
get_there [] i x l e = absurd (omega arith)
get_there (y ∷ xs) zero x l e = ap Some (sym e)
get_there (y ∷ xs) (suc i) x l e = get_there xs i x (omega arith) e

-- one write after another at one place
pub modify_twice : {X : Type 0} (f g : X → X) (xs : List X) (i : ℕ) → modify g (modify f xs i) i ≡ modify (λ x. g (f x)) xs i
modify_twice f g [] i = refl
modify_twice f g (x ∷ xs) zero = refl
modify_twice f g (x ∷ xs) (suc i) = ap (λ t. x ∷ t) (modify_twice f g xs i)

-- a write that changes nothing there
pub modify_back : {X : Type 0} (f : X → X) (xs : List X) (i : ℕ) (x : X) → slice_get xs i ≡ Some x → f x ≡ x → modify f xs i ≡ xs
modify_back f [] i x e h = refl
modify_back f (y ∷ xs) zero x e h = let same : y ≡ x = cc in ap (λ z. z ∷ xs) (ap f same ∙ h ∙ sym same)
modify_back f (y ∷ xs) (suc i) x e h = ap (λ t. y ∷ t) (modify_back f xs i x e h)

-- two writes of the same there
pub modify_same : {X : Type 0} (f h : X → X) (xs : List X) (i : ℕ) (x : X) → slice_get xs i ≡ Some x → f x ≡ h x → modify f xs i ≡ modify h xs i
modify_same f h [] i x e same = refl
modify_same f h (y ∷ xs) zero x e same = let there : y ≡ x = cc in ap (λ z. z ∷ xs) (ap f there ∙ same ∙ ap h (sym there))
modify_same f h (y ∷ xs) (suc i) x e same = ap (λ t. y ∷ t) (modify_same f h xs i x e same)
