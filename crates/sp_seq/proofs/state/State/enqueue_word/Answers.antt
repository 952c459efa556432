use Rattle.std.proofs.Common.{◌<◌, ◌^◌, map, sym, subst}
use Rattle.sp_tree.specs.Accesses.{enqueue}
use Rattle.sp_tree.specs.Plain.{plain_expr, plain_mem}
use Rattle.sp_tree.specs.Streams.{room}
use Rattle.sp_seq.specs.States.{store_of, Ran}
use Rattle.sp_seq.proofs.RunningLemmas.{finished_stop, finished_last, enq_is, enq_halted}
use Rattle.sp_seq.proofs.SeesLemmas.{setting_later, seen_mem, live_fifo, keeps_on}
use Rattle.sp_seq.proofs.state.State.enqueue_word.Goals as goal

pub returns-in_err-word : goal.returns-in_err-word
returns-in_err-word c =
    let a = c.args in
    let mems = map plain_mem a.decls.now in
    let s = a.self.now in
    λ can. finished_stop mems can.setting.roomy _ s _ _ _ c.in_err-word.field-0.0 c.from_residual.ensures.1 (enq_halted mems can.setting.roomy a.at s.left (store_of s) a.memory (plain_expr a.e.now) c.in_err-word.field-0.0 c.in_err-word.ensures.ran)

pub enqueue-requires : goal.enqueue-requires
enqueue-requires c =
    let a = c.args in
    let mems = map plain_mem a.decls.now in
    let s = a.self.now in
    let live = live_fifo (seen_mem (setting_later c.requires.setting c.in_ok-word.ensures.keeps) a.memory _ a.e.now.ty c.requires.typed.0) in
    (live.0, live.1, subst (λ n. c.in_ok-word.word < 2 ^ n) (sym live.2) c.in_ok-word.ensures.fits)

pub returns : goal.returns
returns c =
    let a = c.args in
    let mems = map plain_mem a.decls.now in
    let s = a.self.now in
    λ can.
    let u = c.word.new.self in
    let live = live_fifo (seen_mem (setting_later can.setting c.in_ok-word.ensures.keeps) a.memory _ a.e.now.ty can.typed.0) in
    finished_last mems can.setting.roomy can.setting.scope s u c.enqueue.new.self _ (enqueue a.memory (room mems can.setting.roomy a.memory) c.in_ok-word.word a.at) c.enqueue.result can.setting.sees c.in_ok-word.ensures.keeps
    (enq_is mems can.setting.roomy a.at s.left (store_of s) a.memory (plain_expr a.e.now) c.in_ok-word.word u.left (store_of u) c.in_ok-word.ensures.ran)
    (subst (λ n. Ran (enqueue a.memory n c.in_ok-word.word a.at u.left (store_of u)) c.enqueue.result c.enqueue.new.self) live.3 (c.enqueue.ensures.ran live.0 live.1))
    c.enqueue.ensures.keeps (λ x y h k. keeps_on s x y h k)
