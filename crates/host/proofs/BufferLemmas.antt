-- Lists written to the front of buffers.
use Rattle.std.proofs.Common.{◌≡◌, ℕ, zero, suc, min, ◌-◌, ◌<◌, ◌≤◌, List, [], ◌∷◌, ◌++◌, append-nil, length, take, drop, refl, sym, ap, ◌∙◌, arith}
use Rattle.std.proofs.lemmas.List.{drop_all, length-drop, take_all}
use Rattle.std.specs.Prelude.{set}
use Rattle.host.specs.Buffers.{put_over}

-- a buffer keeps its length
pub length-put_over : {X : Type 0} (bs xs : List X) → length (put_over bs xs) ≡ length bs
length-put_over [] xs = refl
length-put_over (b ∷ bs) [] = refl
length-put_over (b ∷ bs) (x ∷ xs) = ap suc (length-put_over bs xs)

-- one more element where there is room for it
pub put_over-one : {X : Type 0} (bs xs : List X) (x : X) → length xs < length bs → set (put_over bs xs) (length xs) x ≡ put_over bs (xs ++ x ∷ [])
put_over-one [] xs x h = absurd (omega (arith, h))
put_over-one (b ∷ []) [] x h = refl
put_over-one (b ∷ b' ∷ bs) [] x h = refl
put_over-one (b ∷ bs) (y ∷ xs) x h = ap (λ zs. y ∷ zs) (put_over-one bs xs x (omega (arith, h)))

-- and where there is none
pub put_over-full : {X : Type 0} (bs xs : List X) (x : X) → length bs ≤ length xs → put_over bs (xs ++ x ∷ []) ≡ put_over bs xs
put_over-full [] xs x h = refl
put_over-full (b ∷ bs) [] x h = absurd (omega (arith, h))
put_over-full (b ∷ bs) (y ∷ xs) x h = ap (λ zs. y ∷ zs) (put_over-full bs xs x (omega (arith, h)))

-- what fits of it, and the rest of the buffer
pub put_over-at : {X : Type 0} (bs xs : List X) (k : ℕ) → k ≡ min (length xs) (length bs) → put_over bs xs ≡ take k xs ++ drop k bs
put_over-at [] xs k e = let none : k ≡ 0 = omega (arith, e) in rw none refl
put_over-at (b ∷ bs) [] k e = let none : k ≡ 0 = omega (arith, e) in rw none refl
put_over-at (b ∷ bs) (x ∷ xs) zero e = absurd (omega (arith, e))
put_over-at (b ∷ bs) (x ∷ xs) (suc k) e = ap (λ zs. x ∷ zs) (put_over-at bs xs k (omega (arith, e)))

-- nothing written
pub put_over-nothing : {X : Type 0} (bs : List X) → put_over bs [] ≡ bs
put_over-nothing [] = refl
put_over-nothing (b ∷ bs) = refl

-- a step of a loop that has written `xs`, where there is room
pub put_over-set : {X : Type 0} (bs xs now : List X) (x : X) (i : ℕ) → now ≡ put_over bs xs → length xs ≡ i → i < length now → set now i x ≡ put_over bs (xs ++ x ∷ [])
put_over-set bs xs now x i is count room =
    let fits : length xs < length bs = (let e = ap length is ∙ length-put_over bs xs in omega (arith, count, room, e)) in
    ap (λ zs. set zs i x) is ∙ ap (λ j. set (put_over bs xs) j x) (sym count) ∙ put_over-one bs xs x fits

-- and where there is none
pub put_over-same : {X : Type 0} (bs xs now : List X) (x : X) (i : ℕ) → now ≡ put_over bs xs → length xs ≡ i → length now ≤ i → now ≡ put_over bs (xs ++ x ∷ [])
put_over-same bs xs now x i is count full =
    let past : length bs ≤ length xs = (let e = ap length is ∙ length-put_over bs xs in omega (arith, count, full, e)) in
    is ∙ sym (put_over-full bs xs x past)

-- more behind what was written: in the room that is left, where some is
pub put_over-behind : {X : Type 0} (bs xs ys : List X) (k : ℕ) → k ≡ min (length xs) (length bs) → put_over bs (xs ++ ys) ≡ take k (put_over bs xs) ++ put_over (drop k (put_over bs xs)) ys
put_over-behind [] xs ys k e = let none : k ≡ 0 = omega (arith, e) in rw none refl
put_over-behind (b ∷ bs) [] ys k e = let none : k ≡ 0 = omega (arith, e) in rw none refl
put_over-behind (b ∷ bs) (x ∷ xs) ys zero e = absurd (omega (arith, e))
put_over-behind (b ∷ bs) (x ∷ xs) ys (suc k) e = ap (λ zs. x ∷ zs) (put_over-behind bs xs ys k (omega (arith, e)))

-- a write to the room behind what was written
pub put_over-write : {X : Type 0} (bs xs ys now : List X) (k : ℕ) → now ≡ put_over bs xs → k ≡ min (length xs) (length now)
    → take k now ++ (put_over (take (length now - k) (drop k now)) ys ++ drop (length now - k) (drop k now)) ≡ put_over bs (xs ++ ys)
put_over-write bs xs ys now k is e =
    let left : length (drop k now) ≡ length now - k = length-drop k now in
    let all : take (length now - k) (drop k now) ≡ drop k now = take_all (length now - k) (drop k now) (omega (arith, left)) in
    let none : drop (length now - k) (drop k now) ≡ [] = drop_all (length now - k) (drop k now) (omega (arith, left)) in
    let count : k ≡ min (length xs) (length bs) = (let same = ap length is ∙ length-put_over bs xs in e ∙ ap (min (length xs)) same) in
    rw all (rw none (ap (λ zs. take k now ++ zs) (append-nil (put_over (drop k now) ys))
    ∙ ap (λ zs. take k zs ++ put_over (drop k zs) ys) is ∙ sym (put_over-behind bs xs ys k count)))
