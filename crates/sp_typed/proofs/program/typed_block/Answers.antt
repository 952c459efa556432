use Rattle.std.proofs.Common.{◌+◌, length, sym, ap, ◌∙◌, zero-add}
use Rattle.std.proofs.lemmas.List.{length-map}
use Rattle.sp_reader.specs.PlainProgram.{plain_decls, plain_decl, plain_stmts}
use Rattle.sp_reader.specs.PlainStatement.{body}
use Rattle.sp_typed.specs.Declarations.{port_names, at_block}
use Rattle.sp_typed.specs.Named.{at_start}
use Rattle.sp_typed.specs.Statements.{body_typed}
use Rattle.sp_typed.proofs.GrowthLemmas.{here_with}
use Rattle.sp_typed.proofs.StatementLemmas.{body_same}
use Rattle.sp_typed.proofs.program.typed_block.Goals as goal

pub returns : goal.returns
returns c =
    let syntax = c.args.syntax.now in
    let decls = plain_decls syntax.decls.items in
    let entered = c.in_ok-enter_ports.ensures
    ∙ ap (λ h. here_with (port_names h.names h.mems (plain_decls c.deref.result.now)) (h.mems + length c.deref.result.now) h.vals h.counters) c.new-scope.ensures
    ∙ ap (λ ds. here_with (port_names at_start.names at_start.mems (plain_decls ds)) (at_start.mems + length ds) at_start.vals at_start.counters) c.deref.ensures.value
    ∙ ap (λ n. here_with (port_names at_start.names 0 decls) n 0 0) (zero-add _ ∙ sym (length-map syntax.decls.items plain_decl)) in
    body_same c.body_typed.result _ _
    (ap (λ h. body_typed h (body (plain_stmts c.deref-2.result.now))) entered ∙ ap (λ ss. body_typed (at_block decls) (body (plain_stmts ss))) c.deref-2.ensures.value)
    c.body_typed.ensures.typed
