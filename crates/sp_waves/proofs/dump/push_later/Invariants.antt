use Rattle.std.proofs.Common.{◌≡◌, None, map, string_bytes}
use Rattle.sp_waves.specs.Dump.{Shows, WentOn}
use Rattle.sp_waves.specs.Signals.{plain_signal}
use Rattle.sp_waves.proofs.dump.push_later.Given as goal

-- the cycles up to this one are shown, and the simulation stands in it
abbrev pub invariant-loop-cycle : goal.invariant-loop-cycle
invariant-loop-cycle l =
    (l.sim ≡ record { setting = l.initial.sim.setting; cycle = l.cycle; ended = None })
    × WentOn l.initial.sim.setting l.cycle
    × Shows l.initial.sim.setting (map plain_signal l.shown.signals.items) l.cycle (string_bytes l.text) l.words.items
