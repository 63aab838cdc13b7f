-- How many contacts and nodes a plan has at most.
use Rattle.std.proofs.Common.{◌≡◌, ℕ, ◌+◌, ◌<◌, ◌≤◌, true, ltb, List, [], ◌∷◌, length, map, refl, arith}
use Rattle.std.specs.Prelude.{nat_eq, slice_get, Some, Vec}
use Rattle.std.specs.List.{AllByRecursion}
use Rattle.std.proofs.lemmas.Bool.{and_parts, ltb-true}
use Rattle.std.proofs.lemmas.Map.Entries.{length-keys_of}
use Rattle.std.proofs.lemmas.Map.Made.{distinct_count-le}
use Rattle.std.proofs.lemmas.Option.{slice_get_within}
use Rattle.indexmap.specs.IndexMap.{IndexMap, keys}
use Rattle.sabr_model.specs.declared.contact.Contact.{Contact}
use Rattle.sabr_model.specs.plan.Plan.{ContactPlan, IsPlan, most_records, rises_above}
use Rattle.sabr_model.specs.plan.Table.{ends_of, node_count, IsTableOf}
use Rattle.sabr_model.proofs.PlanLemmas.TableLemmas.{counts_nodes}

-- no more numbers that rise than lie between two bounds
rise_within : (low top : ℕ) (cs : List Contact) → low ≤ top → rises_above low (map (λ c. c.number) cs) ≡ true → AllByRecursion (λ c. c.number ≤ top) cs → low + length cs ≤ top
rise_within low top [] le rises all = omega (arith, le)
rise_within low top (c ∷ cs) le rises all =
    let parts = and_parts (ltb low c.number) (rises_above c.number (map (λ d. d.number) cs)) rises in
    omega (arith, ltb-true low c.number parts.0, rise_within c.number top cs all.0 parts.1 all.1)

-- the contacts
pub few_contacts : (p : ContactPlan) → IsPlan p → length p.contacts ≤ most_records
few_contacts p plan = omega (arith, rise_within 0 p.largest p.contacts (omega arith) plan.numbers_rise plan.numbers_given, plan.count)

two_ends : (cs : List Contact) → length (ends_of cs) ≡ length cs + length cs
two_ends [] = refl
two_ends (c ∷ cs) = omega (arith, two_ends cs)

-- their nodes
pub few_nodes : (cs : List Contact) → length cs ≤ most_records → node_count cs ≤ 40000
few_nodes cs few = omega (arith, distinct_count-le nat_eq (ends_of cs), two_ends cs)

-- so the index of each of them takes 16 bits
pub short_index : {S A : Type 0} (cs : List Contact) (table : IndexMap ℕ (Vec ℕ A) S) (place node : ℕ) → IsTableOf cs table → length cs ≤ most_records → slice_get (keys table) place ≡ Some node → place < 65536
short_index cs table place node h few at =
    omega (arith, slice_get_within (keys table) place node at, length-keys_of table.entries, counts_nodes cs table h, few_nodes cs few)
