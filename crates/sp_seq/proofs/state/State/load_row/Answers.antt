use Rattle.std.proofs.Common.{map, sym, ◌∙◌, ap, arith}
use Rattle.sp_tree.specs.Plain.{plain_mem}
use Rattle.sp_tree.specs.Expressions.{dims}
use Rattle.sp_seq.specs.Slices.{plain_parts}
use Rattle.sp_seq.specs.States.{store_of, halted}
use Rattle.sp_seq.proofs.LineLemmas.{facts, column_inside, fill_later, load_row_spent, fills_none, fills_more, fills_all}
use Rattle.sp_seq.proofs.SeesLemmas.{keeps_on}
use Rattle.sp_seq.proofs.TransferLemmas.{ran_stop_some}
use Rattle.sp_seq.proofs.state.State.load_row.Goals as goal

pub returns-in_err-turns-clause-ran : goal.returns-in_err-turns-clause-ran
returns-in_err-turns-clause-ran c =
    let a = c.args in
    let s = a.self.now in
    let took = c.in_err-turns.ensures.took in
    ran_stop_some _ _ _ c.in_err-turns.field-0.0 c.from_residual.ensures.1 (load_row_spent (map plain_mem a.decls.now) a.line _ a.dram (plain_parts a.parts.now) s.left (store_of s) (omega (arith, c.requires.count, took.1)) ∙ ap halted (sym took.0))

pub shift_line-requires : goal.shift_line-requires
shift_line-requires c =
    let a = c.args in
    let h = fill_later c.requires.can c.in_ok-turns.ensures.keeps in
    let f = facts h.setting a.line a.dram h.ty h.on_chip h.outside in
    (f.buffer, f.buffer_live, f.some)

pub loop-k-init : goal.loop-k-init
loop-k-init c =
    let a = c.args in
    let s = a.self.now in
    let t = c.turns.new.self in
    let u = c.shift_line.new.self in
    let h = fill_later c.requires.can c.in_ok-turns.ensures.keeps in
    let f = facts h.setting a.line a.dram h.ty h.on_chip h.outside in
    let took = c.in_ok-turns.ensures.took in
    fills_none (map plain_mem a.decls.now) a.line a.dram (plain_parts a.parts.now) s t u f.buffer f.buffer_live f.oldest_columns took.2 (omega (arith, took.1, c.requires.count)) (keeps_on s t u c.in_ok-turns.ensures.keeps c.shift_line.ensures.keeps)
    (c.shift_line.ensures.store f.buffer f.buffer_live) c.shift_line.ensures.same_left

pub load_column-requires-clause-can : goal.load_column-requires-clause-can
load_column-requires-clause-can c = fill_later c.requires.can c.loop-k.invariant.keeps

pub loop-k-preserved : goal.loop-k-preserved
loop-k-preserved c =
    let a = c.args in
    let mems = map plain_mem a.decls.now in
    let h = c.requires.can in
    let f = facts h.setting a.line a.dram h.ty h.on_chip h.outside in
    let column = column_inside (dims mems a.line) _ c.loop-k.k f.rank h.limited.same h.limited.fit (omega (arith, c.requires.count)) in
    fills_more mems a.line a.dram (plain_parts a.parts.now) a.self.now c.loop-k.self c.load_column.new.self c.loop-k.k c.loop-k.invariant f.apart (omega (arith, c.requires.count)) column c.load_column.ensures.wrote c.load_column.ensures.same_left c.load_column.ensures.keeps

pub returns-clause-ran : goal.returns-clause-ran
returns-clause-ran c =
    let a = c.args in
    let took = c.in_ok-turns.ensures.took in
    (tt, fills_all (map plain_mem a.decls.now) a.line a.dram (plain_parts a.parts.now) a.self.now c.loop-k.self c.loop-k.self c.loop-k.k c.loop-k.invariant (omega (arith, c.requires.count)) (omega (arith, took.0, c.requires.count)))

pub returns-clause-keeps : goal.returns-clause-keeps
returns-clause-keeps c = c.loop-k.invariant.keeps
