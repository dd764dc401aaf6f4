use Rattle.std.proofs.Common.{◌≡◌, ◌≤◌, take}
use Rattle.std.specs.Str.Parse.{AllDigits, digits_value}
use Rattle.nr_page.specs.declared.selection.TheConstants.{LARGEST_NUMBER}
use Rattle.nr_page.proofs.selection.read_number.Given as goal

abbrev pub invariant-loop-byte : goal.invariant-loop-byte
invariant-loop-byte l = record {
  length_is : l.len ≡ l.byte-index;
  digits : AllDigits 10 (take l.byte-index l.text);
  value_is : l.value ≡ digits_value 10 (take l.byte-index l.text);
  small : l.value ≤ LARGEST_NUMBER;
}
