-- The one-way light time of a contact (CCSDS 734.3-B-1, ranges). Which range holds is this project's own choice.
use Rattle.std.specs.Prelude.{ℕ, ◌&&◌, nat_lt, nat_le, ◌==◌, Bool, List, if◌then◌else◌}
use Rattle.std.specs.List.{find}
use Rattle.std.specs.Option.{option_map}
use Rattle.std.specs.declared.option.Option.{Option}
use Rattle.std.specs.declared.option.Option.TheVariants.{Some, None}
use Rattle.sabr_model.specs.declared.contact.Contact.{Contact}
use Rattle.sabr_model.specs.declared.contact.Range.{Range}
use Rattle.sabr_model.specs.plan.Plan.{ContactPlan}

-- whether a second is in a window; the window is half open
abbrev pub is_within : ℕ → ℕ → ℕ → Bool
is_within start end t = nat_le start t && nat_lt t end

-- whether a range is written from the smaller node, so that it holds both ways
abbrev pub holds_both_ways : Range → Bool
holds_both_ways r = nat_lt r.one r.other

-- the light time of the range of this ordered pair that is in force at t
abbrev pub light_of_pair : List Range → ℕ → ℕ → ℕ → Option ℕ
light_of_pair ranges one other t =
    option_map (λ r. r.light) (find (λ r. (r.one == one) && (r.other == other) && is_within r.start r.end t) ranges)

abbrev pub or_else : Option ℕ → Option ℕ → Option ℕ
or_else (Some x) other = Some x
or_else None other = other

-- The light time in force at the contact's start: that of the range from its sender to its receiver. If there is none
-- and the sender is the larger node, that of the range from its receiver to its sender, which holds both ways.
abbrev pub light_of : ContactPlan → Contact → Option ℕ
light_of p c =
    or_else (light_of_pair p.ranges c.from c.to c.start)
    (if nat_lt c.to c.from then light_of_pair p.ranges c.to c.from c.start else None)
