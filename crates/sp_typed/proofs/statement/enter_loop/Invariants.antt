use Rattle.std.proofs.Common.{◌≡◌, drop}
use Rattle.sp_reader.specs.PlainProgram.{plain_idents}
use Rattle.sp_typed.specs.Plain.{here_of}
use Rattle.sp_typed.proofs.GrowthLemmas.{entered, here_with}
use Rattle.sp_typed.proofs.statement.enter_loop.Given as goal

abbrev pub invariant-loop-name : goal.invariant-loop-name
invariant-loop-name l = entered (here_with (here_of l.scope).names (here_of l.scope).mems (here_of l.scope).vals l.number) (plain_idents (drop l.name-index l.binds)) ≡ entered (here_of l.fn.scope) (plain_idents l.binds)
