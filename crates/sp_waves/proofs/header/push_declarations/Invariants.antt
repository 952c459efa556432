use Rattle.std.proofs.Common.{◌≡◌, ◌+◌, ◌++◌, drop, map, string_bytes}
use Rattle.sp_waves.specs.Signals.{plain_signal}
use Rattle.sp_waves.specs.Text.{declarations}
use Rattle.sp_waves.proofs.header.push_declarations.Given as goal

abbrev pub invariant-loop-i : goal.invariant-loop-i
invariant-loop-i l =
    string_bytes l.text ++ declarations (l.i + 1) (map plain_signal (drop l.i l.signals))
    ≡ string_bytes l.initial.text ++ declarations 1 (map plain_signal l.signals)
