use Rattle.std.proofs.Common.{◌≡◌, true, take}
use Rattle.std.specs.Str.Parse.{digits_value}
use Rattle.texts.specs.Numbers.{capped}
use Rattle.texts.proofs.NumberLaws.{all_digits}
use Rattle.texts.proofs.numbers.number_in.Given as goal

abbrev pub invariant-loop-byte : goal.invariant-loop-byte
invariant-loop-byte l = record {
  digits : all_digits l.radix (take l.byte-index l.bytes) ≡ true;
  value : l.value ≡ capped (digits_value l.radix (take l.byte-index l.bytes));
}
