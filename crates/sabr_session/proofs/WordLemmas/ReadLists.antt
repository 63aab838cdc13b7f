-- Lists of numbers: as far as they are read, up to a `/`, and as text, number by number.
use Rattle.std.proofs.Common.{◌≡◌, ℕ, ◌<◌, ◌≤◌, leb, ltb, cond, ◌&&◌, List, [], ◌∷◌, ◌++◌, length, map, option_map, refl, sym, ap, ◌∙◌, arith, append-nil, append_assoc, length-append, suc, get_or, take, drop, drop-cons, Bool, true, false}
use Rattle.std.proofs.lemmas.Bool.{le-leb, lt-leb, lt-ltb}
use Rattle.std.proofs.Math.Bool.{and-false}
use Rattle.std.specs.declared.option.Option.{Option}
use Rattle.std.specs.declared.option.Option.TheVariants.{Some, None}
use Rattle.sabr_session.specs.SessionWords.{all_of, counted, is_dash, list_within, contacts_of, is_slash, before_slash, after_slash, most_number}
use Rattle.std.proofs.Math.Seq.{take-suc}
use Rattle.std.proofs.lemmas.List.{take-append-drop}
use Rattle.sabr_session.specs.SessionText.{spaced_by}
use Rattle.std.specs.List.{list_any}
use Rattle.std.specs.Prelude.{codes, not, if◌then◌else◌}
use Rattle.std.specs.Str.{bytes_eq}
use Rattle.std.proofs.lemmas.Slice.Eq.{bytes_eq-Decides}
use Rattle.sabr_plan.proofs.SpelledNumbers.{within_none}
use Rattle.sabr_plan.specs.Numbers.{number_within}

-- what the rest gives, after what was read
abbrev pub with_front : List ℕ → Option (List ℕ) → Option (List ℕ)
with_front so_far rest = option_map (λ tail. so_far ++ tail) rest

-- nothing read yet
pub with_front-nil : (rest : Option (List ℕ)) → rest ≡ with_front [] rest
with_front-nil None = refl
with_front-nil (Some ns) = refl

next : (so_far : List ℕ) (n : ℕ) (rest : Option (List ℕ)) → with_front so_far (option_map (λ ns. n ∷ ns) rest) ≡ with_front (so_far ++ n ∷ []) rest
next so_far n None = refl
next so_far n (Some ns) = ap Some (sym (append_assoc so_far (n ∷ []) ns))

-- a word with a value goes to what was read
pub with_front-on : (f : List ℕ → Option ℕ) (so_far : List ℕ) (whole : Option (List ℕ)) (ps qs : List (List ℕ)) (p : List ℕ) (n : ℕ)
    → whole ≡ with_front so_far (all_of (map f ps)) → ps ≡ p ∷ qs → f p ≡ Some n → whole ≡ with_front (so_far ++ n ∷ []) (all_of (map f qs))
with_front-on f so_far whole ps qs p n w e is =
    w ∙ ap (λ xs. with_front so_far (all_of (map f xs))) e ∙ ap (λ v. with_front so_far (all_of (v ∷ map f qs))) is ∙ next so_far n (all_of (map f qs))

-- a word without a value
pub with_front-bad : (f : List ℕ → Option ℕ) (so_far : List ℕ) (whole : Option (List ℕ)) (ps qs : List (List ℕ)) (p : List ℕ)
    → whole ≡ with_front so_far (all_of (map f ps)) → ps ≡ p ∷ qs → f p ≡ None → whole ≡ None
with_front-bad f so_far whole ps qs p w e is =
    w ∙ ap (λ xs. with_front so_far (all_of (map f xs))) e ∙ ap (λ v. with_front so_far (all_of (v ∷ map f qs))) is

-- no word is left
pub with_front-end : (f : List ℕ → Option ℕ) (so_far : List ℕ) (whole : Option (List ℕ)) (ps : List (List ℕ))
    → whole ≡ with_front so_far (all_of (map f ps)) → ps ≡ [] → whole ≡ Some so_far
with_front-end f so_far whole ps w e = w ∙ ap (λ xs. with_front so_far (all_of (map f xs))) e ∙ ap Some (append-nil so_far)

full : (most : ℕ) (so_far : List ℕ) (n : ℕ) (rest : Option (List ℕ)) → length so_far ≡ most → counted most (with_front (so_far ++ n ∷ []) rest) ≡ None
full most so_far n None h = refl
full most so_far n (Some ns) h =
    let all : List ℕ = (so_far ++ n ∷ []) ++ ns in
    let more : most < length all = omega (arith, length-append (so_far ++ n ∷ []) ns, length-append so_far (n ∷ []), h) in
    ap (λ t. cond (ltb 0 (length all) && t) (Some all) None) (lt-leb (length all) most more)
    ∙ ap (λ t. cond t (Some all) None) (and-false (ltb 0 (length all)))

-- one more after the most
pub with_front-full : (f : List ℕ → Option ℕ) (most : ℕ) (so_far : List ℕ) (whole : Option (List ℕ)) (ps qs : List (List ℕ)) (p : List ℕ) (n : ℕ)
    → whole ≡ with_front so_far (all_of (map f ps)) → ps ≡ p ∷ qs → f p ≡ Some n → length so_far ≡ most → counted most whole ≡ None
with_front-full f most so_far whole ps qs p n w e is h = ap (counted most) (with_front-on f so_far whole ps qs p n w e is) ∙ full most so_far n (all_of (map f qs)) h

-- one or more, and not too many
pub counted-some : (most : ℕ) (found : Option (List ℕ)) (ns : List ℕ) → found ≡ Some ns → 0 < length ns → length ns ≤ most → counted most found ≡ Some ns
counted-some most found ns e a b =
    ap (counted most) e ∙ ap (λ t. cond (t && leb (length ns) most) (Some ns) None) (lt-ltb 0 (length ns) a)
    ∙ ap (λ t. cond t (Some ns) None) (le-leb (length ns) most b)

-- none
pub counted-none : (most : ℕ) (found : Option (List ℕ)) (ns : List ℕ) → found ≡ Some ns → length ns ≡ 0 → counted most found ≡ None
counted-none most found [] e h = ap (counted most) e
counted-none most found (n ∷ ns) e h = absurd (omega arith)

-- ---- lists of numbers as text, number by number

module _ {N : Type 0} (spelled : N → List ℕ) where
  -- two lists in turn
  spaced_by-append : (xs ys : List N) → spaced_by spelled (xs ++ ys) ≡ spaced_by spelled xs ++ spaced_by spelled ys
  spaced_by-append [] ys = refl
  spaced_by-append (x ∷ xs) ys = simp (spaced_by-append xs ys, append_assoc)

  -- the number at a place, with those before it and those after it
  pub spaced_by-at : (xs : List N) (i : ℕ) (d : N) → i < length xs
      → spaced_by spelled xs ≡ spaced_by spelled (take i xs) ++ ((32 ∷ spelled (get_or xs i d)) ++ spaced_by spelled (drop (suc i) xs))
  spaced_by-at xs i d h =
      ap (spaced_by spelled) (sym (take-append-drop i xs)) ∙ spaced_by-append (take i xs) (drop i xs)
      ∙ ap (λ ys. spaced_by spelled (take i xs) ++ spaced_by spelled ys) (drop-cons xs i d h)

  -- one more number
  pub spaced_by-take : (xs : List N) (i : ℕ) (d : N) → i < length xs
      → spaced_by spelled (take (suc i) xs) ≡ spaced_by spelled (take i xs) ++ (32 ∷ spelled (get_or xs i d))
  spaced_by-take xs i d h =
      ap (spaced_by spelled) (take-suc xs i d h) ∙ spaced_by-append (take i xs) (get_or xs i d ∷ [])
      ∙ ap (λ ys. spaced_by spelled (take i xs) ++ ys) (append-nil (32 ∷ spelled (get_or xs i d)))

-- ---- the words up to a `/`, and those after it

-- another word comes first
pub before-on : (w : List ℕ) (ws : List (List ℕ)) → is_slash w ≡ false → before_slash (w ∷ ws) ≡ w ∷ before_slash ws
before-on w ws e = rw e refl

pub after-on : (w : List ℕ) (ws : List (List ℕ)) → is_slash w ≡ false → after_slash (w ∷ ws) ≡ after_slash ws
after-on w ws e = rw e refl

pub has-on : (w : List ℕ) (ws : List (List ℕ)) → is_slash w ≡ false → list_any is_slash (w ∷ ws) ≡ list_any is_slash ws
has-on w ws e = rw e refl

pub has-stop : (w : List ℕ) (ws : List (List ℕ)) → is_slash w ≡ true → list_any is_slash (w ∷ ws) ≡ true
has-stop w ws e = rw e refl

-- without `/` all words stand before it
pub before-all : (ws : List (List ℕ)) → list_any is_slash ws ≡ false → before_slash ws ≡ ws
before-all [] e = refl
before-all (w ∷ ws) e = by_first (is_slash w) refl (before-all ws)
  where
    by_first : (b : Bool) → is_slash w ≡ b → (list_any is_slash ws ≡ false → before_slash ws ≡ ws) → before_slash (w ∷ ws) ≡ w ∷ ws
    by_first true is rest =
        let no : true ≡ false = sym (has-stop w ws is) ∙ e in
        absurd cc
    by_first false is rest = before-on w ws is ∙ ap (λ vs. w ∷ vs) (rest (sym (has-on w ws is) ∙ e))

-- `/` is no number, and neither is `-`
no_number : (low high : ℕ) → high < 18446744073709551616 → number_within low high (codes "/") ≡ None
no_number low high h = within_none low high (codes "/") h refl

no_dash : (low high : ℕ) → high < 18446744073709551616 → number_within low high (codes "-") ≡ None
no_dash low high h = within_none low high (codes "-") h refl

-- so a number is not `/`
pub number_no_slash : (low high n : ℕ) (w : List ℕ) → high < 18446744073709551616 → number_within low high w ≡ Some n → is_slash w ≡ false
number_no_slash low high n w h e = by_first (is_slash w) refl
  where
    by_first : (b : Bool) → is_slash w ≡ b → b ≡ false
    by_first false is = refl
    by_first true is =
        let none : number_within low high w ≡ None = ap (number_within low high) ((bytes_eq-Decides w (codes "/")).0 is) ∙ no_number low high h in
        let no : None ≡ Some n = sym none ∙ e in
        absurd cc

unnumbered : (low high : ℕ) (ws : List (List ℕ)) → high < 18446744073709551616 → list_any is_slash ws ≡ true → all_of (map (number_within low high) ws) ≡ None
unnumbered low high [] h e = absurd cc
unnumbered low high (w ∷ ws) h e = by_first (is_slash w) refl (unnumbered low high ws h)
  where
    after_one : (o : Option ℕ) (os : List (Option ℕ)) → all_of os ≡ None → all_of (o ∷ os) ≡ None
    after_one None os none = refl
    after_one (Some n) os none = ap (λ f. option_map (λ ns. n ∷ ns) f) none

    by_first : (b : Bool) → is_slash w ≡ b → (list_any is_slash ws ≡ true → all_of (map (number_within low high) ws) ≡ None) → all_of (map (number_within low high) (w ∷ ws)) ≡ None
    by_first true is rest =
        let same : w ≡ codes "/" = (bytes_eq-Decides w (codes "/")).0 is in
        ap (λ v. all_of (number_within low high v ∷ map (number_within low high) ws)) same
        ∙ ap (λ o. all_of (o ∷ map (number_within low high) ws)) (no_number low high h)
    by_first false is rest = after_one (number_within low high w) (map (number_within low high) ws) (rest (sym (has-on w ws is) ∙ e))

-- a list with `/` in it is not `-`
undashed : (ws : List (List ℕ)) → list_any is_slash ws ≡ true → is_dash ws ≡ false
undashed [] e = refl
undashed (w ∷ v ∷ ws) e = refl
undashed (w ∷ []) e = by_first (is_slash w) refl
  where
    by_first : (b : Bool) → is_slash w ≡ b → is_dash (w ∷ []) ≡ false
    by_first true is =
        let same : w ≡ codes "/" = (bytes_eq-Decides w (codes "/")).0 is in
        ap (λ u. bytes_eq u (codes "-")) same
    by_first false is =
        let no : false ≡ true = sym (has-on w [] is) ∙ e in
        absurd cc

-- neither are numbers
pub numbers-undashed : (ws : List (List ℕ)) (ns : List ℕ) → all_of (map (number_within 1 most_number) ws) ≡ Some ns → is_dash ws ≡ false
numbers-undashed [] ns e = refl
numbers-undashed (w ∷ v ∷ ws) ns e = refl
numbers-undashed (w ∷ []) ns e = by_word (bytes_eq w (codes "-")) refl
  where
    by_word : (b : Bool) → bytes_eq w (codes "-") ≡ b → b ≡ false
    by_word false is = refl
    by_word true is =
        let same : w ≡ codes "-" = (bytes_eq-Decides w (codes "-")).0 is in
        let none : number_within 1 most_number w ≡ None = ap (number_within 1 most_number) same ∙ no_dash 1 most_number (omega arith) in
        let no : None ≡ Some ns = sym (ap (λ o. all_of (o ∷ [])) none) ∙ e in
        absurd cc

-- a list with `/` in it is refused
pub slash_refused : (ws : List (List ℕ)) → list_any is_slash ws ≡ true → contacts_of ws ≡ None
unfolding list_within
slash_refused ws e = rw (undashed ws e) (ap (counted 20000) (unnumbered 1 most_number ws (omega arith) e))

-- numbers or `-` up to the end, and nothing after them
pub list-ended : (ws : List (List ℕ)) (ns : List ℕ) (stopped : Bool) → contacts_of (before_slash ws) ≡ Some ns → stopped ≡ list_any is_slash ws
    → contacts_of ws ≡ (if not stopped then Some ns else None)
list-ended ws ns true found is = slash_refused ws (sym is)
list-ended ws ns false found is = sym (ap contacts_of (before-all ws (sym is))) ∙ found

-- no list up to `/` or to the end
pub list-missing : (ws : List (List ℕ)) → contacts_of (before_slash ws) ≡ None → contacts_of ws ≡ None
list-missing ws none = by_slash (list_any is_slash ws) refl
  where
    by_slash : (b : Bool) → list_any is_slash ws ≡ b → contacts_of ws ≡ None
    by_slash true has = slash_refused ws has
    by_slash false has = sym (ap contacts_of (before-all ws has)) ∙ none

-- `-` alone
pub dashed : (ws : List (List ℕ)) → is_dash ws ≡ true → contacts_of ws ≡ Some []
unfolding list_within
dashed ws e = rw e refl

-- or numbers
pub numbered : (ws : List (List ℕ)) (r : Option (List ℕ)) → is_dash ws ≡ false → counted 20000 (all_of (map (number_within 1 most_number) ws)) ≡ r → contacts_of ws ≡ r
unfolding list_within
numbered ws r e c = rw e c
