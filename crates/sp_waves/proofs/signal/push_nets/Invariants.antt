use Rattle.std.proofs.Common.{◌≡◌, ◌++◌, take, map}
use Rattle.sp_waves.specs.Signals.{plain_signal, net_signal}
use Rattle.sp_waves.proofs.signal.push_nets.Given as goal

abbrev pub invariant-loop-line : goal.invariant-loop-line
invariant-loop-line l = map plain_signal l.signals.items ≡ map plain_signal l.initial.signals.items ++ map net_signal (take l.line-index l.nets)
