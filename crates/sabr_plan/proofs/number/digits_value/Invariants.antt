use Rattle.sabr_plan.proofs.Names.{◌≡◌, ◌<◌, take, true, list_all, digits_value}
use Rattle.sabr_plan.specs.Digits.{is_digit}
use Rattle.sabr_plan.proofs.number.digits_value.Given as goal

abbrev pub invariant-loop-byte : goal.invariant-loop-byte
invariant-loop-byte l = record {
  value : l.value ≡ digits_value 10 (take l.byte-index l.word);
  small : l.value < 18446744073709551616;
  digits : list_all is_digit (take l.byte-index l.word) ≡ true;
}
