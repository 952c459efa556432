use Rattle.std.proofs.Common.{◌≡◌, ◌+◌, ◌-◌, ◌++◌, length}
use Rattle.sp_reader.specs.Tokens.{scan_from, scanned}
use Rattle.sp_reader.proofs.scan.scan.Given as goal

abbrev pub invariant-loop-turn : goal.invariant-loop-turn
invariant-loop-turn l = (scanned l.text ≡ l.found.items ++ scan_from (l._turn-end - l._turn) l.at l.breaks l.rest) × (l.at + length l.rest ≡ length l.text)
