use Rattle.std.proofs.Common.{List, map, sym, ap, subst}
use Rattle.sp_tree.specs.Plain.{plain_mem}
use Rattle.sp_tree.specs.PlainProgram.{PlainMem, PlainProgram}
use Rattle.sp_tree.specs.PlainStatement.{PlainStmts}
use Rattle.sp_tree.specs.PlainTree.{plain_stmts}
use Rattle.sp_tree.specs.ProgramParts.{plain_program}
use Rattle.sp_words.specs.Ports.{plain_input}
use Rattle.sp_seq.specs.Controlling.{RunsAll}
use Rattle.sp_seq.specs.Running.{CanRunAll}
use Rattle.sp_seq.proofs.StartLemmas.{can_begin, ran_whole, never_began, whole_stop}
use Rattle.sp_seq.proofs.start.enter.Goals as goal

pub body-requires : goal.body-requires
body-requires c =
    let p : PlainProgram = plain_program c.args.program.now in
    let t = c.turn.new.self in
    let can = can_begin p (plain_input c.args.input.now) c.args.state.now t c.requires c.in_ok-turn.ensures.keeps in
    subst (λ (b : PlainStmts). CanRunAll (map plain_mem c.mems-decls.result.now) b t) (sym (ap plain_stmts c.body-body.ensures.body))
    (subst (λ (ms : List PlainMem). CanRunAll ms p.body t) (sym c.mems-decls.ensures.mems) can)

pub returns-in_err-turn : goal.returns-in_err-turn
returns-in_err-turn c =
    let p : PlainProgram = plain_program c.args.program.now in
    whole_stop p (plain_input c.args.input.now) c.args.state.now.left _ c.from_residual.result c.in_err-turn.field-0.0 _ c.from_residual.ensures.1 (λ y e. e)
    (never_began p (plain_input c.args.input.now) c.args.state.now c.turn.new.self c.in_err-turn.field-0.0 c.requires c.in_err-turn.ensures.ran)

pub returns : goal.returns
returns c =
    let p : PlainProgram = plain_program c.args.program.now in
    let input = plain_input c.args.input.now in
    let s = c.args.state.now in
    let t = c.turn.new.self in
    let u = c.body.new.self in
    let can = can_begin p input s t c.requires c.in_ok-turn.ensures.keeps in
    let ran : RunsAll p.mems p.body t c.body.result u =
    subst (λ (ms : List PlainMem). RunsAll ms p.body t c.body.result u) c.mems-decls.ensures.mems
    (subst (λ (b : PlainStmts). RunsAll (map plain_mem c.mems-decls.result.now) b t c.body.result u) (ap plain_stmts c.body-body.ensures.body) c.body.ensures) in
    ran_whole p input s t u c.body.result c.requires c.in_ok-turn.ensures.keeps c.in_ok-turn.ensures.ran (ran can)
