use Rattle.std.proofs.Common.{◌≡◌, ◌+◌, ◌++◌, drop, map, string_bytes}
use Rattle.sp_waves.specs.Signals.{plain_signal}
use Rattle.sp_waves.specs.Text.{changes}
use Rattle.sp_waves.proofs.change.push_changes.Given as goal

abbrev pub invariant-loop-i : goal.invariant-loop-i
invariant-loop-i l =
    string_bytes l.text ++ changes (l.i + 1) (map plain_signal (drop l.i l.signals)) (drop l.i l.before) (drop l.i l.now)
    ≡ string_bytes l.initial.text ++ changes 1 (map plain_signal l.signals) l.before l.now
