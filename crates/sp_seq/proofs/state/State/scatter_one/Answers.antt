use Rattle.std.proofs.Common.{◌≡◌, ◌<◌, ◌^◌, true, map, sym, ◌∙◌, subst, arith}
use Rattle.std.specs.Prelude.{nat_lt}
use Rattle.std.proofs.lemmas.Bool.{lt-ltb, le-ltb}
use Rattle.sp_words.specs.Interface.{word_count}
use Rattle.sp_tree.specs.Expressions.{dims}
use Rattle.sp_tree.specs.Plain.{plain_mem}
use Rattle.sp_seq.specs.States.{store_of}
use Rattle.sp_seq.proofs.SeesLemmas.{setting_later, seen_mem, live_sram, live_dram, counts_of}
use Rattle.sp_seq.proofs.SparseLemmas.{scattered_halted, scattered_outside, scattered_unread, scattered_spent, scattered_went}
use Rattle.sp_seq.proofs.StepLemmas.{ran_stop}
use Rattle.sp_seq.proofs.state.State.scatter_one.Goals as goal

pub returns-in_err-place-clause-ran : goal.returns-in_err-place-clause-ran
returns-in_err-place-clause-ran c =
    let a = c.args in
    let mems = map plain_mem a.decls.now in
    let s = a.self.now in
    let h = c.requires in
    let chip = seen_mem h.setting a.sram _ h.ty h.on_chip in
    let dram = live_dram (seen_mem h.setting a.dram _ h.ty h.outside) in
    ran_stop _ _ _ c.in_err-place.field-0.0 c.from_residual.ensures.1 (scattered_halted mems a.at a.sram a.dram a.places a.k s.left (store_of s) c.in_err-place.field-0.0 (c.in_err-place.ensures.ran a.sram))

pub size-requires-clause-dims : goal.size-requires-clause-dims
size-requires-clause-dims c =
    let a = c.args in
    let mems = map plain_mem a.decls.now in
    let s = a.self.now in
    let h = c.requires in
    let chip = seen_mem h.setting a.sram _ h.ty h.on_chip in
    let dram = live_dram (seen_mem h.setting a.dram _ h.ty h.outside) in
    counts_of h.setting a.sram chip.inside

pub returns-then-k-size-clause-ran : goal.returns-then-k-size-clause-ran
returns-then-k-size-clause-ran c =
    let a = c.args in
    let mems = map plain_mem a.decls.now in
    let s = a.self.now in
    let h = c.requires in
    let chip = seen_mem h.setting a.sram _ h.ty h.on_chip in
    let dram = live_dram (seen_mem h.setting a.dram _ h.ty h.outside) in
    let at = c.in_ok-place.place in
    let placed = c.in_ok-place.ensures.ran a.sram in
    scattered_outside mems a.at a.sram a.dram a.places a.k s.left (store_of s) at placed (le-ltb a.k _ (omega (arith, c.size.ensures)))

pub read_cell-requires : goal.read_cell-requires
read_cell-requires c =
    let a = c.args in
    let mems = map plain_mem a.decls.now in
    let s = a.self.now in
    let h = c.requires in
    let chip = seen_mem h.setting a.sram _ h.ty h.on_chip in
    let dram = live_dram (seen_mem h.setting a.dram _ h.ty h.outside) in
    let at = c.in_ok-place.place in
    let placed = c.in_ok-place.ensures.ran a.sram in
    let live = live_sram chip in
    (live.0, live.1, omega (arith, live.3, c.size.ensures))

pub returns-in_err-word-clause-ran : goal.returns-in_err-word-clause-ran
returns-in_err-word-clause-ran c =
    let a = c.args in
    let mems = map plain_mem a.decls.now in
    let s = a.self.now in
    let h = c.requires in
    let chip = seen_mem h.setting a.sram _ h.ty h.on_chip in
    let dram = live_dram (seen_mem h.setting a.dram _ h.ty h.outside) in
    let at = c.in_ok-place.place in
    let placed = c.in_ok-place.ensures.ran a.sram in
    let inside : nat_lt a.k (word_count (dims mems a.sram)) ≡ true = lt-ltb a.k _ (omega (arith, c.size.ensures)) in
    ran_stop _ _ _ c.in_err-word.field-0.0 c.from_residual-in_err-word.ensures.1 (scattered_unread mems a.at a.sram a.dram a.places a.k s.left (store_of s) at placed inside c.in_err-word.field-0.0 c.in_err-word.ensures.ran)

pub write_word-requires : goal.write_word-requires
write_word-requires c =
    let a = c.args in
    let mems = map plain_mem a.decls.now in
    let s = a.self.now in
    let h = c.requires in
    let chip = seen_mem h.setting a.sram _ h.ty h.on_chip in
    let dram = live_dram (seen_mem h.setting a.dram _ h.ty h.outside) in
    let at = c.in_ok-place.place in
    let placed = c.in_ok-place.ensures.ran a.sram in
    let t = c.turn.new.self in
    let chip_live = live_sram chip in
    let live = live_dram (seen_mem (setting_later h.setting c.in_ok-turn.ensures.keeps) a.dram _ h.ty h.outside) in
    (live.0, live.1, omega (arith, live.3, c.in_ok-place.ensures.inside), subst (λ n. c.in_ok-word.word < 2 ^ n) (chip_live.2 ∙ sym live.2) (c.in_ok-word.ensures.fits chip_live.0 chip_live.1))

pub returns-in_err-turn-clause-ran : goal.returns-in_err-turn-clause-ran
returns-in_err-turn-clause-ran c =
    let a = c.args in
    let mems = map plain_mem a.decls.now in
    let s = a.self.now in
    let h = c.requires in
    let chip = seen_mem h.setting a.sram _ h.ty h.on_chip in
    let dram = live_dram (seen_mem h.setting a.dram _ h.ty h.outside) in
    let at = c.in_ok-place.place in
    let placed = c.in_ok-place.ensures.ran a.sram in
    let inside : nat_lt a.k (word_count (dims mems a.sram)) ≡ true = lt-ltb a.k _ (omega (arith, c.size.ensures)) in
    ran_stop _ _ _ c.in_err-turn.field-0.0 c.from_residual-in_err-turn.ensures.1 (scattered_spent mems a.at a.sram a.dram a.places a.k s.left (store_of s) at placed inside c.in_ok-word.word c.in_err-turn.field-0.0 c.in_ok-word.ensures.ran c.in_err-turn.ensures.ran)

pub returns-clause-ran : goal.returns-clause-ran
returns-clause-ran c =
    let a = c.args in
    let mems = map plain_mem a.decls.now in
    let s = a.self.now in
    let h = c.requires in
    let chip = seen_mem h.setting a.sram _ h.ty h.on_chip in
    let dram = live_dram (seen_mem h.setting a.dram _ h.ty h.outside) in
    let at = c.in_ok-place.place in
    let placed = c.in_ok-place.ensures.ran a.sram in
    let inside : nat_lt a.k (word_count (dims mems a.sram)) ≡ true = lt-ltb a.k _ (omega (arith, c.size.ensures)) in
    let t = c.turn.new.self in
    let u = c.write_word.new.self in
    scattered_went mems a.at a.sram a.dram a.places a.k s.left (store_of s) at placed inside c.in_ok-word.word t.left (store_of t) u.left (store_of u) c.in_ok-word.ensures.ran c.in_ok-turn.ensures.ran c.write_word.ensures.ran
