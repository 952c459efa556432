use Rattle.std.proofs.Common.{◌≡◌, length, map}
use Rattle.sp_reader.specs.Tokens.{first_sign}
use Rattle.sp_reader.proofs.scan.first_sign.Given as goal

abbrev pub invariant-loop-table : goal.invariant-loop-table
invariant-loop-table l = first_sign (map (λ k. (k.0.now, k.1)) l.table) l.text ≡ first_sign (map (λ k. (k.0.now, k.1)) l.initial.table) l.text

abbrev pub decreases-loop-table : goal.decreases-loop-table
decreases-loop-table l = length l.table
