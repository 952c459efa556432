use Rattle.std.proofs.Common.{◌≡◌, drop}
use Rattle.sp_reader.specs.PlainProgram.{plain_decls}
use Rattle.sp_typed.specs.Plain.{here_of}
use Rattle.sp_typed.proofs.GrowthLemmas.{with_each_port}
use Rattle.sp_typed.proofs.program.enter_ports.Given as goal

abbrev pub invariant-loop-decl : goal.invariant-loop-decl
invariant-loop-decl l = with_each_port (here_of l.scope) (plain_decls (drop l.decl-index l.decls)) ≡ with_each_port (here_of l.fn.scope) (plain_decls l.decls)
