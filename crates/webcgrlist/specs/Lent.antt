-- Memory on loan, after a call.
use Rattle.std.specs.Prelude.{◌≡◌, ◌⊎◌}
use Rattle.host.specs.declared.region.Region.{Region}

-- as much came back, or it was lost
abbrev pub ComesBack : Region → Region → Type 0
ComesBack old new = (new.size ≡ old.size) ⊎ (new.size ≡ 0)
