use Rattle.std.proofs.Common.{map, sym, ◌∙◌, ap}
use Rattle.sp_tree.specs.Plain.{plain_expr, plain_mem}
use Rattle.sp_tree.specs.Step.{went}
use Rattle.sp_seq.specs.States.{store_of}
use Rattle.sp_seq.proofs.TransferLemmas.{ran_stop_shown, single_went, single_halted}
use Rattle.sp_seq.proofs.state.State.single.Goals as goal

pub returns-in_err-at-clause-ran : goal.returns-in_err-at-clause-ran
returns-in_err-at-clause-ran c =
    let a = c.args in
    let mems = map plain_mem a.decls.now in
    let s = a.self.now in
    ran_stop_shown _ _ _ c.in_err-at.field-0.0 c.from_residual.ensures.1 (single_halted mems s.left (store_of s) (plain_expr a.e.now) c.in_err-at.field-0.0 c.in_err-at.ensures.ran)

pub returns-clause-ran : goal.returns-clause-ran
returns-clause-ran c =
    let a = c.args in
    let mems = map plain_mem a.decls.now in
    let s = a.self.now in
    let t = c.word.new.self in
    single_went mems s.left (store_of s) (plain_expr a.e.now) c.in_ok-at.at t.left (store_of t) c.in_ok-at.ensures.ran ∙ ap (λ p. went p t.left (store_of t)) (sym c.index_part.ensures)
