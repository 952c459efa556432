use Rattle.std.proofs.Common.{◌≡◌, ◌++◌, length, string_bytes}
use Rattle.std.specs.Prelude.{encode_utf8_all}
use Rattle.sp_reader.proofs.grammar.name.text.Given as goal

abbrev pub invariant-loop-bytes : goal.invariant-loop-bytes
invariant-loop-bytes l = string_bytes l.text ++ encode_utf8_all l.bytes ≡ encode_utf8_all l.initial.bytes

abbrev pub decreases-loop-bytes : goal.decreases-loop-bytes
decreases-loop-bytes l = length l.bytes
