use Rattle.std.proofs.Common.{◌≡◌, ◌+◌, ◌++◌, drop, map, string_bytes}
use Rattle.sp_waves.specs.Signals.{plain_signal}
use Rattle.sp_waves.specs.Text.{values}
use Rattle.sp_waves.proofs.change.push_values.Given as goal

abbrev pub invariant-loop-i : goal.invariant-loop-i
invariant-loop-i l =
    string_bytes l.text ++ values (l.i + 1) (map plain_signal (drop l.i l.signals)) (drop l.i l.words)
    ≡ string_bytes l.initial.text ++ values 1 (map plain_signal l.signals) l.words
