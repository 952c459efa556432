use Rattle.std.proofs.Common.{◌≡◌, ◌<◌, ◌^◌, drop}
use Rattle.sp_words.specs.Decimal.{digits_number}
use Rattle.sp_setup.specs.Number.{digits_of}
use Rattle.sp_setup.proofs.NumberLemmas.{number_with}
use Rattle.sp_setup.proofs.number.whole_number.Given as goal

abbrev pub invariant-loop-byte : goal.invariant-loop-byte
invariant-loop-byte l = record {
  value : number_with l.number (drop l.byte-index l.bytes) ≡ digits_number (digits_of l.bytes);
  small : l.number < 2 ^ 128;
}
