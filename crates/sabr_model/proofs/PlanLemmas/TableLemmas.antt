-- The table of nodes compared with the contacts.
use Rattle.std.proofs.Common.{◌≡◌, ℕ, Bool, true, false, cond, ◌||◌, eqb, List, [], ◌∷◌, ◌++◌, map, refl, sym, ap, ◌∙◌}
use Rattle.std.specs.Prelude.{nat_eq, is_some, Vec}
use Rattle.std.specs.List.{filter}
use Rattle.std.specs.Bool.{then_some}
use Rattle.std.specs.Option.{option_map}
use Rattle.std.specs.Map.{keys_of, lookup}
use Rattle.std.specs.Cmp.{nat_eq_equiv}
use Rattle.std.proofs.lemmas.Bool.{or_parts}
use Rattle.std.proofs.lemmas.List.{map-append, append-nil}
use Rattle.std.proofs.lemmas.List.Elements.{filter-append}
use Rattle.std.proofs.lemmas.List.Folds.{list_any-append}
use Rattle.std.proofs.lemmas.Grind.{flat_map-append}
use Rattle.std.proofs.lemmas.Map.Entries.{length-keys_of}
use Rattle.std.proofs.lemmas.Map.Made.{length-from_keys, is_some-lookup}
use Rattle.std.specs.declared.option.Option.TheVariants.{Some, None}
use Rattle.indexmap.specs.IndexMap.{IndexMap, get, index_map_len, IsUnique}
use Rattle.sabr_model.specs.declared.contact.Contact.{Contact}
use Rattle.sabr_model.specs.plan.Plan.{has}
use Rattle.sabr_model.specs.plan.Table.{sent_by, ends_of, node_count, list_at, with_number, with_node, with_ends, IsTableOf}

-- a node without a contact sends none
pub sends_nothing : (cs : List Contact) (q : ℕ) → has q (ends_of cs) ≡ false → sent_by cs q ≡ []
sends_nothing [] q h = refl
sends_nothing (c ∷ cs) q h =
    let one = or_parts (eqb q c.from) (eqb q c.to || has q (ends_of cs)) h in
    let two = or_parts (eqb q c.to) (has q (ends_of cs)) one.1 in
    ap (λ b. map (λ (d : Contact). d.number) (cond b (c ∷ filter (λ d. eqb q d.from) cs) (filter (λ d. eqb q d.from) cs))) one.0 ∙ sends_nothing cs q two.1

-- what a node sends after one more contact
pub sent_by-push : (cs : List Contact) (c : Contact) (q : ℕ) → sent_by (cs ++ c ∷ []) q ≡ sent_by cs q ++ cond (eqb q c.from) (c.number ∷ []) []
sent_by-push cs c q =
    ap (map (λ (d : Contact). d.number)) (filter-append (λ d. eqb q d.from) cs (c ∷ []))
    ∙ map-append (λ (d : Contact). d.number) (filter (λ d. eqb q d.from) cs) (filter (λ d. eqb q d.from) (c ∷ []))
    ∙ ap (λ xs. sent_by cs q ++ xs) (elim (eqb q c.from) as (λ b. map (λ (d : Contact). d.number) (cond b (c ∷ []) []) ≡ cond b (c.number ∷ []) []) [ true ↦ refl | false ↦ refl ])

-- a node that is not in the table sends nothing
pub none_sent : {S A : Type 0} (cs : List Contact) (table : IndexMap ℕ (Vec ℕ A) S) (q : ℕ) → IsTableOf cs table → None ≡ get nat_eq table q → [] ≡ sent_by cs q
none_sent {A = A} cs table q h e =
    let none : None ≡ then_some (has q (ends_of cs)) (sent_by cs q) = ap (option_map (λ (v : Vec ℕ A). v.items)) e ∙ h.lists q in
    sym (sends_nothing cs q (elim (has q (ends_of cs)) as (λ b. None ≡ then_some b (sent_by cs q) → b ≡ false) [ true ↦ λ e. absurd cc | false ↦ λ _. refl ] none))

-- the table has exactly the nodes of the contacts
pub has_node : {S A : Type 0} (cs : List Contact) (table : IndexMap ℕ (Vec ℕ A) S) (q : ℕ) → IsTableOf cs table → has q (keys_of table.entries) ≡ has q (ends_of cs)
has_node {A = A} cs table q h =
    sym (is_some-lookup (nat_eq q) table.entries)
    ∙ elim (get nat_eq table q) as (λ o. is_some o ≡ is_some (option_map (λ (v : Vec ℕ A). v.items) o)) [ None ↦ refl | Some v ↦ refl ]
    ∙ ap is_some (h.lists q)
    ∙ elim (has q (ends_of cs)) as (λ b. is_some (then_some b (sent_by cs q)) ≡ b) [ true ↦ refl | false ↦ refl ]

-- the table has as many entries as there are nodes
pub counts_nodes : {S A : Type 0} (cs : List Contact) (table : IndexMap ℕ (Vec ℕ A) S) → IsTableOf cs table → index_map_len table ≡ node_count cs
counts_nodes cs table h =
    sym (length-keys_of table.entries)
    ∙ length-from_keys nat_eq_equiv (keys_of table.entries) (ends_of cs) h.unique (λ q. has_node cs table q h)

-- the nodes after one more contact
has-ends_of-push : (cs : List Contact) (c : Contact) (q : ℕ) → has q (ends_of (cs ++ c ∷ [])) ≡ (has q (ends_of cs) || (eqb q c.from || (eqb q c.to || false)))
has-ends_of-push cs c q = ap (has q) (flat_map-append (λ (d : Contact). d.from ∷ d.to ∷ []) cs (c ∷ [])) ∙ list_any-append (eqb q) (ends_of cs) (c.from ∷ c.to ∷ [])

-- a node's rising list after a contact, by cases
noted : (b from to : Bool) (xs : List ℕ) (number : ℕ) → (b ≡ false → xs ≡ []) → with_node (with_number (then_some b xs) from number) to ≡ then_some (b || (from || (to || false))) (xs ++ cond from (number ∷ []) [])
noted true true true xs number none = refl
noted true true false xs number none = refl
noted true false true xs number none = ap Some (sym (append-nil xs))
noted true false false xs number none = ap Some (sym (append-nil xs))
noted false true true xs number none = ap (λ ys. Some (ys ++ number ∷ [])) (sym (none refl))
noted false true false xs number none = ap (λ ys. Some (ys ++ number ∷ [])) (sym (none refl))
noted false false true xs number none = ap (λ ys. Some (ys ++ [])) (sym (none refl))
noted false false false xs number none = refl

-- a node's rising list after one more contact
pub lists_push : (cs : List Contact) (c : Contact) (q : ℕ) → with_node (with_number (then_some (has q (ends_of cs)) (sent_by cs q)) (eqb q c.from) c.number) (eqb q c.to) ≡ then_some (has q (ends_of (cs ++ c ∷ []))) (sent_by (cs ++ c ∷ []) q)
lists_push cs c q =
    noted (has q (ends_of cs)) (eqb q c.from) (eqb q c.to) (sent_by cs q) c.number (sends_nothing cs q)
    ∙ ap (λ b. then_some b (sent_by cs q ++ cond (eqb q c.from) (c.number ∷ []) [])) (sym (has-ends_of-push cs c q))
    ∙ ap (then_some (has q (ends_of (cs ++ c ∷ [])))) (sym (sent_by-push cs c q))

-- the table after one more contact
pub IsTableOf-push : {S A : Type 0} (cs : List Contact) (c : Contact) (table new : IndexMap ℕ (Vec ℕ A) S) → IsTableOf cs table → IsUnique nat_eq new
    → ((q : ℕ) → list_at new q ≡ with_ends (list_at table q) (eqb q c.from) (eqb q c.to) c.number) → IsTableOf (cs ++ c ∷ []) new
IsTableOf-push cs c table new h unique is =
    record {
      unique = unique;
      lists = λ q. is q ∙ ap (λ o. with_ends o (eqb q c.from) (eqb q c.to) c.number) (h.lists q) ∙ lists_push cs c q;
    }

-- the empty table is that of no contacts
pub IsTableOf-empty : {S A : Type 0} (table : IndexMap ℕ (Vec ℕ A) S) → table.entries ≡ [] → IsUnique nat_eq table → IsTableOf [] table
IsTableOf-empty {A = A} table empty unique = record { unique = unique; lists = λ q. ap (λ es. option_map (λ (v : Vec ℕ A). v.items) (lookup (nat_eq q) es)) empty }
