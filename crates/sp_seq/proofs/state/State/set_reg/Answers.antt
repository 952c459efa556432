use Rattle.std.proofs.Common.{◌<◌, ◌^◌, [], map, sym, subst, arith}
use Rattle.sp_tree.specs.Plain.{plain_expr, plain_mem}
use Rattle.sp_seq.specs.States.{store_of}
use Rattle.sp_seq.proofs.RunningLemmas.{finished_stop, stands_kept, set_reg_went, set_reg_halted}
use Rattle.sp_seq.proofs.SeesLemmas.{setting_later, seen_mem, live_reg, keeps_on}
use Rattle.sp_seq.proofs.state.State.set_reg.Goals as goal

pub returns-in_err-word : goal.returns-in_err-word
returns-in_err-word c =
    let a = c.args in
    let mems = map plain_mem a.decls.now in
    let s = a.self.now in
    λ at can. finished_stop mems can.setting.roomy _ s _ _ _ c.in_err-word.field-0.0 c.from_residual.ensures.1 (set_reg_halted mems can.setting.roomy at s.left (store_of s) a.memory (plain_expr a.e.now) c.in_err-word.field-0.0 c.in_err-word.ensures.ran)

pub write_cell-requires : goal.write_cell-requires
write_cell-requires c =
    let a = c.args in
    let mems = map plain_mem a.decls.now in
    let s = a.self.now in
    let live = live_reg (seen_mem (setting_later c.requires.setting c.in_ok-word.ensures.keeps) a.memory _ a.e.now.ty c.requires.typed.0) in
    (live.0, live.1, omega (arith, live.3), subst (λ n. c.in_ok-word.word < 2 ^ n) (sym live.2) c.in_ok-word.ensures.fits)

pub returns : goal.returns
returns c =
    let a = c.args in
    let mems = map plain_mem a.decls.now in
    let s = a.self.now in
    λ at can.
    let u = c.word.new.self in
    let t = c.write_cell.new.self in
    ([], set_reg_went mems can.setting.roomy at s.left (store_of s) a.memory (plain_expr a.e.now) c.in_ok-word.word u.left (store_of u) c.in_ok-word.ensures.ran t.left (store_of t) c.write_cell.ensures.ran, stands_kept can.setting.sees (keeps_on _ _ _ c.in_ok-word.ensures.keeps c.write_cell.ensures.keeps))
