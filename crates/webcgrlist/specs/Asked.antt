-- The texts of the values that a call is asked.
use Rattle.std.specs.Prelude.{ℕ, List, [], ◌∷◌}
use Rattle.std.specs.declared.option.Option.{Option}
use Rattle.std.specs.declared.option.Option.TheVariants.{Some, None}
use Rattle.commands.specs.words.Values.{ValuesGiven}
use Rattle.webcgrlist.specs.declared.asked.Asked.{Asked}

-- a text, unless it is empty
abbrev pub text_given : List ℕ → Option (List ℕ)
text_given [] = None
text_given (b ∷ bs) = Some (b ∷ bs)

-- the texts of the values
abbrev pub values_asked : Asked → ValuesGiven
values_asked a = record {
  request = record { from = text_given a.from.now; to = text_given a.to.now; at = text_given a.at.now; margin = text_given a.margin_ppm.now; hops = text_given a.max_hops.now; avoid = text_given a.avoid.now };
  count = text_given a.count.now;
  contacts = text_given a.contacts.now;
}
