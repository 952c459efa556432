use Rattle.std.proofs.Common.{◌≡◌, ◌++◌, drop}
use Rattle.std.specs.Prelude.{string_bytes}
use Rattle.sp_report.specs.Memories.{numbers_text}
use Rattle.sp_report.proofs.memories.push_numbers.Given as goal

abbrev pub invariant-loop-number : goal.invariant-loop-number
invariant-loop-number l = string_bytes l.text ++ numbers_text (drop l.number-index l.numbers) ≡ string_bytes l.fn.text ++ numbers_text l.numbers
