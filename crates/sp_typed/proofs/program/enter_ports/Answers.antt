use Rattle.std.proofs.Common.{◌+◌, ◌∷◌, drop, sym, ap, ◌∙◌, arith}
use Rattle.std.proofs.lemmas.List.{drop_more, at_drop_all, length-map}
use Rattle.sp_reader.specs.Plain.{plain_ident}
use Rattle.sp_reader.specs.PlainProgram.{plain_decl, plain_decls}
use Rattle.sp_typed.specs.Declarations.{port_names}
use Rattle.sp_typed.specs.Named.{given}
use Rattle.sp_typed.specs.Plain.{here_of}
use Rattle.sp_typed.proofs.GrowthLemmas.{here_with, with_each_port, with_each_port_is}
use Rattle.sp_typed.proofs.program.enter_ports.Goals as goal

pub loop-decl-preserved : goal.loop-decl-preserved
loop-decl-preserved c =
    let xs = c.args.decls.now in
    let rest = drop (c.loop-decl.decl-index + 1) xs in
    let item = c.decl-item.result in
    let name = plain_ident item.name in
    let s = drop_more xs c.loop-decl.decl-index item c.loop-decl-test.true ∙ ap (λ x. x ∷ rest) (sym c.decl-item.is) in
    let here = here_of c.loop-decl.scope in
    ap (λ h. with_each_port h (plain_decls rest)) c.in_ok-declare_mem.ensures.seen
    ∙ ap (λ p. with_each_port (here_with (given here.names name.text p here.mems) (here.mems + 1) here.vals here.counters) (plain_decls rest)) c.in_ok-symbol.ensures
    ∙ ap (λ ys. with_each_port here (plain_decls ys)) (sym s)
    ∙ c.loop-decl.invariant

pub returns : goal.returns
returns c =
    let here = here_of c.loop-decl.scope in
    let start = here_of c.args.scope.now in
    sym (at_drop_all (λ ys. with_each_port here (plain_decls ys)) c.args.decls.now c.loop-decl.decl-index (omega arith))
    ∙ c.loop-decl.invariant
    ∙ with_each_port_is start (plain_decls c.args.decls.now)
    ∙ ap (λ n. here_with (port_names start.names start.mems (plain_decls c.args.decls.now)) (start.mems + n) start.vals start.counters) (length-map c.args.decls.now plain_decl)
