use Rattle.std.proofs.Common.{◌<◌, map, length, sym, ◌∙◌, ap, arith}
use Rattle.std.proofs.lemmas.List.{length-map}
use Rattle.sp_tree.specs.Accesses.{write_cell}
use Rattle.sp_tree.specs.Plain.{plain_mem}
use Rattle.sp_tree.specs.Operators as operators
use Rattle.sp_tree.specs.PlainProgram.{PlainMem}
use Rattle.sp_seq.specs.States.{store_of}
use Rattle.sp_seq.proofs.CountLemmas.{assign_halted, assign_went}
use Rattle.sp_seq.proofs.SeesLemmas.{decl_get}
use Rattle.sp_seq.proofs.StepLemmas.{ran_stop}
use Rattle.sp_seq.proofs.state.State.assign.Goals as goal

pub returns-in_err-before-clause-ran : goal.returns-in_err-before-clause-ran
returns-in_err-before-clause-ran c =
    let a = c.args in
    let s = a.self.now in
    let is = c.if-not-combines.false in
    ran_stop _ _ _ c.in_err-before.field-0.0 c.from_residual.ensures.1
    (assign_halted (map plain_mem a.decls.now) a.into.comb a.into.acc s.left (store_of s) a.into.at a.cell a.word a.combines is c.in_err-before.field-0.0 c.in_err-before.ensures.ran)

pub returns-clause-ran : goal.returns-clause-ran
returns-clause-ran c =
    let a = c.args in
    let s = a.self.now in
    let t = c.write_cell-2.new.self in
    let mems = map plain_mem a.decls.now in
    let is = c.if-not-combines.false in
    let inside : a.into.acc < length a.decls.now = omega (arith, c.requires.inside, length-map a.decls.now plain_mem) in
    let ty = ap (λ (m : PlainMem). m.ty) (decl_get a.decls.now a.into.acc c.index-decls-into.result inside) in
    assign_went mems a.into.comb a.into.acc s.left (store_of s) a.into.at a.cell a.word a.combines is c.in_ok-before.before s.left (store_of s) t.left (store_of t) c.in_ok-before.ensures.ran
    (ap (λ w. write_cell a.into.acc a.cell w s.left (store_of s)) (ap (λ y. operators.combined a.into.comb y c.in_ok-before.before a.word) ty ∙ sym c.combined.ensures.value) ∙ c.write_cell-2.ensures.ran)
