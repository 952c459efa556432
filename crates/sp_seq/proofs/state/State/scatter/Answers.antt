use Rattle.std.proofs.Common.{◌<◌, [], ◌∷◌, map, length, sym, ◌∙◌, ap, arith}
use Rattle.sp_tree.specs.Elements.{index_value, natural, numbers_below}
use Rattle.sp_tree.specs.Plain.{plain_expr, plain_mem}
use Rattle.sp_tree.specs.Shape.{moved}
use Rattle.sp_tree.specs.Step.{in_order}
use Rattle.sp_tree.specs.Typing.{mem_at}
use Rattle.sp_seq.specs.Moving.{scattered}
use Rattle.sp_seq.specs.States.{store_of}
use Rattle.sp_seq.proofs.LoopLemmas.{going_start, going_on, going_halted, going_over, length-numbers, number_at}
use Rattle.sp_seq.proofs.RunningLemmas.{finished_stop, stands_kept}
use Rattle.sp_seq.proofs.SeesLemmas.{setting_later, keeps_same, keeps_on}
use Rattle.sp_seq.proofs.SparseLemmas.{scatter_halted, scatter_stopped, scatter_went}
use Rattle.sp_seq.proofs.state.State.scatter.Goals as goal

pub returns-in_err-word : goal.returns-in_err-word
returns-in_err-word c =
    let a = c.args in
    let mems = map plain_mem a.decls.now in
    let s = a.self.now in
    let step = scattered mems a.at a.sram a.dram a.places in
    λ can. finished_stop mems can.setting.roomy _ s _ _ _ c.in_err-word.field-0.0 c.from_residual.ensures.1 (scatter_halted mems can.setting.roomy a.at s.left (store_of s) a.sram a.dram a.places (plain_expr a.count.now) c.in_err-word.field-0.0 c.in_err-word.ensures.ran)

pub loop-k-init : goal.loop-k-init
loop-k-init c =
    let a = c.args in
    let mems = map plain_mem a.decls.now in
    let s = a.self.now in
    let step = scattered mems a.at a.sram a.dram a.places in
    record { going = going_start step (numbers_below c.natural-words.result) c.word.new.self; keeps = keeps_same c.word.new.self }

pub scatter_one-requires : goal.scatter_one-requires
scatter_one-requires c =
    let a = c.args in
    let mems = map plain_mem a.decls.now in
    let s = a.self.now in
    let step = scattered mems a.at a.sram a.dram a.places in
    let now = c.loop-k.self in
    let start = c.word.new.self in
    let inv = c.loop-k.invariant in
    let w = c.in_ok-word.field-0 in
    let xs = numbers_below c.natural-words.result in
    let inside : c.loop-k.k < length xs = omega (arith, length-numbers c.natural-words.result) in
    let at = number_at c.natural-words.result c.loop-k.k 0 (omega arith) in
    let t = c.requires.typed in
    let later = setting_later (setting_later c.requires.setting c.in_ok-word.ensures.keeps) inv.keeps in
    record { setting = later; ty = (mem_at c.requires.setting.program a.sram).ty; on_chip = t.0; outside = t.1.in_dram; held = t.1.from_sram }

pub returns-in_err-scatter_one : goal.returns-in_err-scatter_one
returns-in_err-scatter_one c =
    let a = c.args in
    let mems = map plain_mem a.decls.now in
    let s = a.self.now in
    let step = scattered mems a.at a.sram a.dram a.places in
    let now = c.loop-k.self in
    let start = c.word.new.self in
    let inv = c.loop-k.invariant in
    let w = c.in_ok-word.field-0 in
    let xs = numbers_below c.natural-words.result in
    let inside : c.loop-k.k < length xs = omega (arith, length-numbers c.natural-words.result) in
    let at = number_at c.natural-words.result c.loop-k.k 0 (omega arith) in
    let stopped = going_halted step xs _ now c.loop-k.k inv.going 0 inside c.in_err-scatter_one.field-0.0 (ap (λ j. step j now.left (store_of now)) at ∙ c.in_err-scatter_one.ensures.ran) in
    let same = ap (λ n. in_order step (numbers_below n) start.left (store_of start)) (sym c.natural-words.ensures) in
    λ can. finished_stop mems can.setting.roomy _ s _ _ _ c.in_err-scatter_one.field-0.0 c.from_residual-in_err-scatter_one.ensures.1 (scatter_stopped mems can.setting.roomy a.at s.left (store_of s) a.sram a.dram a.places (plain_expr a.count.now) w start.left (store_of start) c.in_ok-word.ensures.ran c.in_err-scatter_one.field-0.0 (same ∙ stopped))

pub loop-k-preserved : goal.loop-k-preserved
loop-k-preserved c =
    let a = c.args in
    let mems = map plain_mem a.decls.now in
    let s = a.self.now in
    let step = scattered mems a.at a.sram a.dram a.places in
    let now = c.loop-k.self in
    let start = c.word.new.self in
    let inv = c.loop-k.invariant in
    let w = c.in_ok-word.field-0 in
    let xs = numbers_below c.natural-words.result in
    let inside : c.loop-k.k < length xs = omega (arith, length-numbers c.natural-words.result) in
    let at = number_at c.natural-words.result c.loop-k.k 0 (omega arith) in
    let next = c.scatter_one.new.self in
    record { going = going_on step xs _ now c.loop-k.k inv.going 0 inside next tt (ap (λ j. step j now.left (store_of now)) at ∙ c.in_ok-scatter_one.ensures.ran); keeps = keeps_on _ _ _ inv.keeps c.in_ok-scatter_one.ensures.keeps }

pub returns : goal.returns
returns c =
    let a = c.args in
    let mems = map plain_mem a.decls.now in
    let s = a.self.now in
    let step = scattered mems a.at a.sram a.dram a.places in
    λ can.
    let now = c.loop-k.self in
    let start = c.word.new.self in
    let inv = c.loop-k.invariant in
    let xs = numbers_below c.natural-words.result in
    let over = going_over step xs _ now c.loop-k.k inv.going (omega (arith, length-numbers c.natural-words.result)) in
    let same = ap (λ n. in_order step (numbers_below n) start.left (store_of start)) (sym c.natural-words.ensures) in
    (moved (natural (index_value c.in_ok-word.field-0) ∷ []) ∷ [], scatter_went mems can.setting.roomy a.at s.left (store_of s) a.sram a.dram a.places (plain_expr a.count.now) c.in_ok-word.field-0 start.left (store_of start) c.in_ok-word.ensures.ran inv.going.done now.left (store_of now) (same ∙ over), stands_kept can.setting.sees (keeps_on _ _ _ c.in_ok-word.ensures.keeps inv.keeps))
