use Rattle.std.proofs.Common.{◌≡◌, drop}
use Rattle.sp_reader.specs.PlainProgram.{plain_decls}
use Rattle.sp_types.specs.First.{notes}
use Rattle.sp_types.specs.Plain.{visible_of}
use Rattle.sp_types.specs.Statements.{decls_refusals, with_ports}
use Rattle.sp_types.proofs.program.check_decls.Given as goal

abbrev pub invariant-loop-decl : goal.invariant-loop-decl
invariant-loop-decl l = (with_ports (visible_of l.scope) (plain_decls (drop l.decl-index l.decls)) ≡ with_ports (visible_of l.fn.scope) (plain_decls l.decls))
    × (notes l.finding.first (decls_refusals (visible_of l.scope) (plain_decls (drop l.decl-index l.decls))) ≡ notes l.fn.finding.first (decls_refusals (visible_of l.fn.scope) (plain_decls l.decls)))
