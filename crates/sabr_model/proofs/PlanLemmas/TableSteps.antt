-- One step on the table of nodes: a node found, one more node, and a list written at an index.
use Rattle.std.proofs.Common.{◌≡◌, ℕ, zero, suc, true, false, cond, eqb, List, [], ◌∷◌, ◌++◌, position, refl, sym, ap, subst, ◌∙◌}
use Rattle.std.specs.Prelude.{nat_eq, slice_get, is_some, IfSome, MatchOption, Vec}
use Rattle.std.specs.List.{IsDistinct}
use Rattle.std.specs.Cmp.{nat_eq_equiv}
use Rattle.std.specs.Map.{keys_of, values_of}
use Rattle.std.specs.Option.{option_map}
use Rattle.std.proofs.lemmas.Bool.{eqb-true, cond_both}
use Rattle.std.proofs.lemmas.List.{map-append}
use Rattle.std.proofs.lemmas.Map.Entries.{length-keys_of, hash_map_get_place}
use Rattle.std.specs.declared.option.Option.{Option}
use Rattle.std.specs.declared.option.Option.TheVariants.{Some, None}
use Rattle.indexmap.specs.IndexMap.{IndexMap, keys, values, get, index_map_len, insert_entry, with_value_at, IsUnique}
use Rattle.indexmap.proofs.CallerLemmas.{insert_entry-new, keys-with_value_at, updates-with_value_at}
use Rattle.sabr_model.specs.plan.Plan.{has}
use Rattle.sabr_model.specs.plan.Table.{list_at, with_number, KeepsPlaces}
use Rattle.sabr_model.proofs.ListLemmas.Has.{eqb_flip}
use Rattle.sabr_model.proofs.ListLemmas.Members.{push_old, push_new}
use Rattle.sabr_model.proofs.PlanLemmas.Tabled.{index_tells}

-- the place that is found is the node's
pub found_at : (xs : List ℕ) (n : ℕ) (o : Option ℕ) → o ≡ position (nat_eq n) xs → IfSome o (λ k. slice_get xs k ≡ Some n)
found_at xs n None e = tt
found_at xs n (Some k) e = subst (λ (o : Option ℕ). MatchOption o (has n xs ≡ false) (λ i. slice_get xs i ≡ Some n)) (sym e) (index_tells xs n)

-- ---- one more node

-- if an option has no value, it is None
pub none_there : {X : Type 0} (o : Option X) → false ≡ is_some o → o ≡ None
none_there None e = refl
none_there (Some x) e = absurd cc

module _ {V S : Type 0} (table new : IndexMap ℕ V S) (n : ℕ) (v : V) (missing : false ≡ is_some (get nat_eq table n)) (entries : new.entries ≡ insert_entry nat_eq table.entries n v) where
  new_keys : keys new ≡ keys table ++ n ∷ []
  new_keys = ap keys_of (entries ∙ insert_entry-new nat_eq table n v (none_there (get nat_eq table n) missing)) ∙ map-append (λ (e : ℕ × V). e.0) table.entries ((n, v) ∷ [])

  -- the nodes that were there keep their places
  pub new_places : KeepsPlaces (keys table) (keys new)
  new_places = subst (KeepsPlaces (keys table)) (sym new_keys) (push_old (keys table) n)

  -- and the new node is added after them
  pub new_at : (k : ℕ) → k ≡ index_map_len table → slice_get (keys new) k ≡ Some n
  new_at k e =
      ap (λ xs. slice_get xs k) new_keys
      ∙ ap (slice_get (keys table ++ n ∷ [])) (e ∙ sym (length-keys_of table.entries))
      ∙ push_new (keys table) n

-- ---- a list written at an index

-- a key and a value at one index are an entry
entry_at : {V : Type 0} (es : List (ℕ × V)) (i n : ℕ) (v : V) → slice_get (keys_of es) i ≡ Some n → Some v ≡ slice_get (values_of es) i → slice_get es i ≡ Some (n, v)
entry_at [] i n v key value = absurd cc
entry_at (e ∷ es) zero n v key value = let a : e.0 ≡ n = cc in let b : e.1 ≡ v = cc in (λ j. Some (a j, b j))
entry_at (e ∷ es) (suc i) n v key value = entry_at es i n v key value

-- if there is a key there is a value
pub value_there : {V : Type 0} (es : List (ℕ × V)) (i n : ℕ) → slice_get (keys_of es) i ≡ Some n → None ≡ slice_get (values_of es) i → ⊥
value_there [] i n key value = absurd cc
value_there (e ∷ es) zero n key value = absurd cc
value_there (e ∷ es) (suc i) n key value = value_there es i n key value

-- no two nodes are the same after a write
pub unique_kept : {V S : Type 0} (table : IndexMap ℕ V S) (i : ℕ) (w : V) → IsUnique nat_eq table → IsUnique nat_eq (with_value_at table i w)
unique_kept table i w unique = subst (IsDistinct nat_eq) (sym (keys-with_value_at table i w)) unique

module _ {A S : Type 0} (table : IndexMap ℕ (Vec ℕ A) S) (i node : ℕ) (v w : Vec ℕ A) (unique : IsUnique nat_eq table) (key : slice_get (keys table) i ≡ Some node) (value : Some v ≡ slice_get (values table) i) where
  written : (q : ℕ) → get nat_eq (with_value_at table i w) q ≡ cond (eqb node q) (Some w) (get nat_eq table q)
  written = (updates-with_value_at table i w nat_eq_equiv unique node v (entry_at table.entries i node v key value)).0

  -- what the list of each node is, where it was the node's and where not
  list_written : (q : ℕ) → (eqb q node ≡ true → list_at table q ≡ Some v.items) × (list_at (with_value_at table i w) q ≡ cond (eqb q node) (Some w.items) (list_at table q))
  list_written q = (
    λ e. ap (option_map (λ (x : Vec ℕ A). x.items)) (ap (get nat_eq table) (eqb-true q node e) ∙ hash_map_get_place nat_eq_equiv table i node v unique (entry_at table.entries i node v key value)),
    ap (option_map (λ (x : Vec ℕ A). x.items)) (written q ∙ ap (λ b. cond b (Some w) (get nat_eq table q)) (eqb_flip node q))
        ∙ elim (eqb q node) as (λ b. option_map (λ (x : Vec ℕ A). x.items) (cond b (Some w) (get nat_eq table q)) ≡ cond b (Some w.items) (list_at table q)) [ true ↦ refl | false ↦ refl ],
  )

  -- a number added after the node's others
  pub list_pushed : (number : ℕ) → w.items ≡ v.items ++ number ∷ [] → (q : ℕ) → list_at (with_value_at table i w) q ≡ with_number (list_at table q) (eqb q node) number
  list_pushed number more q =
      (list_written q).1
      ∙ cond_both (eqb q node) (Some w.items) (list_at table q) (λ o. o ≡ with_number (list_at table q) (eqb q node) number)
      (λ e. rw (e, (list_written q).0 e) (ap Some more)) (λ e. rw e refl)

  -- and the same numbers as before
  pub list_kept : w.items ≡ v.items → (q : ℕ) → list_at (with_value_at table i w) q ≡ list_at table q
  list_kept same q =
      (list_written q).1
      ∙ cond_both (eqb q node) (Some w.items) (list_at table q) (λ o. o ≡ list_at table q) (λ e. ap Some same ∙ sym ((list_written q).0 e)) (λ _. refl)
