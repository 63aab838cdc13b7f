use Rattle.std.proofs.Common.{◌≡◌, ◌++◌, ◌-◌, ◌≤◌, List, length, All, map}
use Rattle.std.specs.Prelude.{IsPermutation}
use Rattle.sabr_index.specs.declared.link.Link.{Link}
use Rattle.sabr_index.specs.Linking.{IsBounded, contact_of, AreRows}
use Rattle.sabr_index.proofs.building.link_rows.Given as goal

abbrev pub invariant-loop-first : goal.invariant-loop-first
invariant-loop-first g l = record {
  within : l.first ≤ length l.passes;
  bounded : All IsBounded l.passes;
  moved : IsPermutation (map contact_of l.fn.passes) (map contact_of l.passes);
  rows : (made : List Link) × (l.links.items ≡ l.fn.links.items ++ made) × AreRows l.passes made l.first × (length made ≤ l.first);
}

abbrev pub decreases-loop-first : goal.decreases-loop-first
decreases-loop-first g l = length l.passes - l.first
