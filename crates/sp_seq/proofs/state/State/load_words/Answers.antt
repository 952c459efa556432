use Rattle.std.proofs.Common.{[], map, ◌∙◌, ap, arith}
use Rattle.sp_tree.specs.Plain.{plain_mem}
use Rattle.sp_tree.specs.Transfers as transfers
use Rattle.sp_seq.specs.Slices.{plain_parts, loaded}
use Rattle.sp_seq.specs.States.{store_of}
use Rattle.sp_seq.proofs.LoopLemmas.{going_start, going_on, going_halted, going_over}
use Rattle.sp_seq.proofs.SeesLemmas.{keeps_same, keeps_on}
use Rattle.sp_seq.proofs.SliceLemmas.{length-offsets}
use Rattle.sp_seq.proofs.TransferLemmas.{ran_stop_some, slice_later, offset_get}
use Rattle.sp_seq.proofs.state.State.load_words.Goals as goal

pub loop-k-init : goal.loop-k-init
loop-k-init c =
    let a = c.args in
    let mems = map plain_mem a.decls.now in
    let s = a.self.now in
    let ps = plain_parts a.parts.now in
    let step = loaded mems 0 a.sram a.dram ps in
    let xs = transfers.all_offsets ps in
    record { going = going_start step xs s; keeps = keeps_same s }

pub load_one-requires-clause-can : goal.load_one-requires-clause-can
load_one-requires-clause-can c =
    let a = c.args in
    let mems = map plain_mem a.decls.now in
    let s = a.self.now in
    let ps = plain_parts a.parts.now in
    let step = loaded mems 0 a.sram a.dram ps in
    let xs = transfers.all_offsets ps in
    let now = c.loop-k.self in
    let inv = c.loop-k.invariant in
    let k = c.loop-k.k in
    let count = length-offsets (transfers.lengths ps) in
    slice_later c.requires.can inv.keeps

pub returns-in_err-load_one-clause-ran : goal.returns-in_err-load_one-clause-ran
returns-in_err-load_one-clause-ran c =
    let a = c.args in
    let mems = map plain_mem a.decls.now in
    let s = a.self.now in
    let ps = plain_parts a.parts.now in
    let step = loaded mems 0 a.sram a.dram ps in
    let xs = transfers.all_offsets ps in
    let now = c.loop-k.self in
    let inv = c.loop-k.invariant in
    let k = c.loop-k.k in
    let count = length-offsets (transfers.lengths ps) in
    ran_stop_some _ _ _ c.in_err-load_one.field-0.0 c.from_residual.ensures.1 (going_halted step xs _ now k inv.going [] (omega (arith, count, c.requires.count)) c.in_err-load_one.field-0.0 (ap (λ os. step os now.left (store_of now)) (offset_get ps k) ∙ c.in_err-load_one.ensures.ran 0))

pub loop-k-preserved : goal.loop-k-preserved
loop-k-preserved c =
    let a = c.args in
    let mems = map plain_mem a.decls.now in
    let s = a.self.now in
    let ps = plain_parts a.parts.now in
    let step = loaded mems 0 a.sram a.dram ps in
    let xs = transfers.all_offsets ps in
    let now = c.loop-k.self in
    let inv = c.loop-k.invariant in
    let k = c.loop-k.k in
    let count = length-offsets (transfers.lengths ps) in
    let next = c.load_one.new.self in
    record { going = going_on step xs _ now k inv.going [] (omega (arith, count, c.requires.count)) next tt (ap (λ os. step os now.left (store_of now)) (offset_get ps k) ∙ c.in_ok-load_one.ensures.ran 0); keeps = keeps_on _ _ _ inv.keeps c.in_ok-load_one.ensures.keeps }

pub returns-clause-ran : goal.returns-clause-ran
returns-clause-ran c =
    let a = c.args in
    let mems = map plain_mem a.decls.now in
    let s = a.self.now in
    let ps = plain_parts a.parts.now in
    let step = loaded mems 0 a.sram a.dram ps in
    let xs = transfers.all_offsets ps in
    let now = c.loop-k.self in
    let inv = c.loop-k.invariant in
    let k = c.loop-k.k in
    let count = length-offsets (transfers.lengths ps) in
    (inv.going.done, going_over step xs _ now k inv.going (omega (arith, count, c.requires.count)))

pub returns-clause-keeps : goal.returns-clause-keeps
returns-clause-keeps c =
    c.loop-k.invariant.keeps
