-- Memory that a host lends.
use Rattle.std.specs.Prelude.{◌≡◌, ℕ, ◌%◌, ◌^◌, ◌<◌, zero, suc}
use mir.Syntax.{Ty}
use base.Fml.{Fml, ftrue, fwand}
use denote.RawPtr.{Ptr, room_for}
use Rattle.linked_list_allocator.specs.Ownership.{bytes_at}

-- a size of lent memory: whole units of 16 bytes, or none
abbrev pub IsSize : ℕ → Type 0
IsSize n = (n % 16 ≡ 0) × (n < 2 ^ 63)

-- room for n bytes at p, in units of 16 that are aligned to 16; nothing for none
abbrev pub lent_at : Ptr → ℕ → Fml
lent_at p zero = ftrue
lent_at p (suc n) = bytes_at p (suc n)

-- the right to give back the room for a τ at p, which is then room for n bytes
abbrev pub gives_back : ℕ → Ty → Ptr → Fml
gives_back n τ p = fwand (room_for τ p) (lent_at p n)
