-- What stands after a label, and the three lists of a part.
use Rattle.std.proofs.Common.{◌≡◌, ℕ, ◌<◌, Bool, List, [], length, take, drop, arith, true, false, cond, refl, ap, length-take}
use Rattle.std.specs.declared.option.Option.TheVariants.{Some, None}
use Rattle.sabr_session.specs.SessionWords.{list_within, contacts_of, before_slash, after_slash}
use Rattle.std.specs.Str.{bytes_eq}
use Rattle.std.proofs.lemmas.Slice.Eq.{bytes_eq-Decides}
use Rattle.sabr_session.specs.SessionLines.{after_label, carried_of, lists_of}
use Rattle.std.specs.Prelude.{if◌then◌else◌}

-- ---- what stands after a label

short : (label text : List ℕ) → length text < length label → bytes_eq (take (length label) text) label ≡ false
short label text h = by_test (bytes_eq (take (length label) text) label) refl
  where
    by_test : (b : Bool) → bytes_eq (take (length label) text) label ≡ b → b ≡ false
    by_test false e = refl
    by_test true e =
        let same : take (length label) text ≡ label = (bytes_eq-Decides (take (length label) text) label).0 e in
        absurd (omega (arith, ap length same, length-take (length label) text, h))

-- a short text doesn't begin with the label
pub label-short : (label text : List ℕ) → length text < length label → after_label label text ≡ None
unfolding after_label
label-short label text h = rw (short label text h) refl

-- what the text begins with
pub label-front : (label text front back : List ℕ) (b : Bool) → front ≡ take (length label) text → back ≡ drop (length label) text → bytes_eq front label ≡ b → after_label label text ≡ cond b (Some back) None
unfolding after_label
label-front label text front back b f d e = rw (← f, e, ← d) refl

-- ---- the three lists of a part, one after the other

-- no words are no list
pub no_words : contacts_of [] ≡ None
unfolding list_within
no_words = refl

pub bad_prefix : (ws : List (List ℕ)) → contacts_of (before_slash ws) ≡ None → lists_of ws ≡ None
unfolding lists_of
bad_prefix ws e = rw e refl

pub bad_excluded : (ws us : List (List ℕ)) (p : List ℕ) → contacts_of (before_slash ws) ≡ Some p → us ≡ after_slash ws
    → contacts_of (before_slash us) ≡ None → lists_of ws ≡ None
unfolding lists_of
bad_excluded ws us p e after x = rw (e, ← after, x) refl

bad_route : (ws us vs : List (List ℕ)) (p x : List ℕ) → contacts_of (before_slash ws) ≡ Some p → us ≡ after_slash ws
    → contacts_of (before_slash us) ≡ Some x → vs ≡ after_slash us → contacts_of vs ≡ None → lists_of ws ≡ None
unfolding lists_of
bad_route ws us vs p x e after f beyond r = rw (e, ← after, f, ← beyond, r) refl

pub three_lists : (ws us vs : List (List ℕ)) (p x r : List ℕ) → contacts_of (before_slash ws) ≡ Some p → us ≡ after_slash ws
    → contacts_of (before_slash us) ≡ Some x → vs ≡ after_slash us → contacts_of vs ≡ Some r
    → lists_of ws ≡ Some (record { prefix = p; excluded = x; carried = carried_of r })
unfolding lists_of
three_lists ws us vs p x r e after f beyond l = rw (e, ← after, f, ← beyond, l) refl

-- the third list, if it is one
pub third_list : (ws us vs : List (List ℕ)) (p x r : List ℕ) → contacts_of (before_slash ws) ≡ Some p → us ≡ after_slash ws
    → contacts_of (before_slash us) ≡ Some x → vs ≡ after_slash us → (found : Bool) → contacts_of vs ≡ (if found then Some r else None)
    → lists_of ws ≡ (if found then Some (record { prefix = p; excluded = x; carried = carried_of r }) else None)
third_list ws us vs p x r e after f beyond true l = three_lists ws us vs p x r e after f beyond l
third_list ws us vs p x r e after f beyond false l = bad_route ws us vs p x e after f beyond l
