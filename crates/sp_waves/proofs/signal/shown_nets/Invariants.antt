use Rattle.std.proofs.Common.{◌≡◌, take, map}
use Rattle.sp_waves.specs.Signals.{plain_signal, nets_of}
use Rattle.sp_waves.proofs.signal.shown_nets.Given as goal

abbrev pub invariant-loop-signal : goal.invariant-loop-signal
invariant-loop-signal l = l.nets.items ≡ nets_of (map plain_signal (take l.signal-index l.signals))
