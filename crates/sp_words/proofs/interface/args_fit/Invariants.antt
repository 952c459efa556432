use Rattle.std.proofs.Common.{length, take}
use Rattle.std.specs.List.{AllZip}
use Rattle.sp_words.specs.Interface.{ArgFits}
use Rattle.sp_words.proofs.interface.args_fit.Given as goal

abbrev pub invariant-loop-port : goal.invariant-loop-port
invariant-loop-port l = AllZip ArgFits (take (length l.yielded) l.ports) (take (length l.yielded) l.words)
