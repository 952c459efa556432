use Rattle.std.proofs.Common.{◌<◌, map, length, sym, ◌∙◌, ap, arith}
use Rattle.sp_tree.specs.Elements.{numbers_below}
use Rattle.sp_tree.specs.Plain.{plain_mem}
use Rattle.sp_tree.specs.Step.{in_order}
use Rattle.sp_seq.specs.Looping.{one_combined}
use Rattle.sp_seq.specs.States.{store_of}
use Rattle.sp_seq.proofs.CountLemmas.{ran_some_stop}
use Rattle.sp_seq.proofs.LoopLemmas.{going_start, going_on, going_halted, going_over, length-numbers, number_at}
use Rattle.sp_seq.proofs.SeesLemmas.{setting_later, keeps_same, keeps_on}
use Rattle.sp_seq.proofs.state.State.combine_all.Goals as goal

pub loop-cell-init : goal.loop-cell-init
loop-cell-init c =
    let a = c.args in
    let step = one_combined (map plain_mem a.decls.now) a.into.comb a.into.acc a.part a.combines a.into.at in
    record { going = going_start step (numbers_below c.size-words.result) a.self.now; keeps = keeps_same a.self.now }

pub combine_one-requires-clause-can : goal.combine_one-requires-clause-can
combine_one-requires-clause-can c =
    let h = c.requires in
    record { setting = setting_later h.setting c.loop-cell.invariant.keeps; ty = h.ty; into = h.into; from = h.from; same_dims = h.same_dims }

pub returns-in_err-combine_one-clause-ran : goal.returns-in_err-combine_one-clause-ran
returns-in_err-combine_one-clause-ran c =
    let a = c.args in
    let s = a.self.now in
    let step = one_combined (map plain_mem a.decls.now) a.into.comb a.into.acc a.part a.combines a.into.at in
    let now = c.loop-cell.self in
    let inv = c.loop-cell.invariant in
    let xs = numbers_below c.size-words.result in
    let inside : c.loop-cell.cell < length xs = omega (arith, length-numbers c.size-words.result) in
    let at = number_at c.size-words.result c.loop-cell.cell 0 (omega arith) in
    let stopped = going_halted step xs _ now c.loop-cell.cell inv.going 0 inside c.in_err-combine_one.field-0.0 (ap (λ j. step j now.left (store_of now)) at ∙ c.in_err-combine_one.ensures.ran) in
    let same = ap (λ n. in_order step (numbers_below n) s.left (store_of s)) (sym c.size-words.ensures) in
    ran_some_stop _ _ _ c.in_err-combine_one.field-0.0 c.from_residual.ensures.1 (same ∙ stopped)

pub loop-cell-preserved : goal.loop-cell-preserved
loop-cell-preserved c =
    let a = c.args in
    let step = one_combined (map plain_mem a.decls.now) a.into.comb a.into.acc a.part a.combines a.into.at in
    let now = c.loop-cell.self in
    let inv = c.loop-cell.invariant in
    let xs = numbers_below c.size-words.result in
    let inside : c.loop-cell.cell < length xs = omega (arith, length-numbers c.size-words.result) in
    let at = number_at c.size-words.result c.loop-cell.cell 0 (omega arith) in
    let next = c.combine_one.new.self in
    record { going = going_on step xs _ now c.loop-cell.cell inv.going 0 inside next tt (ap (λ j. step j now.left (store_of now)) at ∙ c.in_ok-combine_one.ensures.ran); keeps = keeps_on _ _ _ inv.keeps c.in_ok-combine_one.ensures.keeps }

pub returns-clause-ran : goal.returns-clause-ran
returns-clause-ran c =
    let a = c.args in
    let s = a.self.now in
    let step = one_combined (map plain_mem a.decls.now) a.into.comb a.into.acc a.part a.combines a.into.at in
    let now = c.loop-cell.self in
    let inv = c.loop-cell.invariant in
    let xs = numbers_below c.size-words.result in
    let over = going_over step xs _ now c.loop-cell.cell inv.going (omega (arith, length-numbers c.size-words.result)) in
    let same = ap (λ n. in_order step (numbers_below n) s.left (store_of s)) (sym c.size-words.ensures) in
    (inv.going.done, same ∙ over)
