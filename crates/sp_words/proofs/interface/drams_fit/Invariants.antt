use Rattle.std.proofs.Common.{length, take}
use Rattle.std.specs.List.{AllZip}
use Rattle.sp_words.specs.Interface.{DramFits}
use Rattle.sp_words.proofs.interface.drams_fit.Given as goal

abbrev pub invariant-loop-port : goal.invariant-loop-port
invariant-loop-port l = AllZip (λ port words. DramFits port words.items) (take (length l.yielded) l.ports) (take (length l.yielded) l.contents)
