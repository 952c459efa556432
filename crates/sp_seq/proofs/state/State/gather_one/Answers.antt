use Rattle.std.proofs.Common.{◌≡◌, ◌<◌, ◌^◌, true, map, sym, ◌∙◌, subst, arith}
use Rattle.std.specs.Prelude.{nat_lt}
use Rattle.std.proofs.lemmas.Bool.{lt-ltb, le-ltb}
use Rattle.sp_words.specs.Interface.{word_count}
use Rattle.sp_tree.specs.Expressions.{dims}
use Rattle.sp_tree.specs.Plain.{plain_mem}
use Rattle.sp_seq.specs.States.{store_of}
use Rattle.sp_seq.proofs.SeesLemmas.{setting_later, seen_mem, live_sram, live_dram, counts_of}
use Rattle.sp_seq.proofs.SparseLemmas.{gathered_halted, gathered_outside, gathered_spent, gathered_went}
use Rattle.sp_seq.proofs.StepLemmas.{ran_stop}
use Rattle.sp_seq.proofs.state.State.gather_one.Goals as goal

pub returns-in_err-place-clause-ran : goal.returns-in_err-place-clause-ran
returns-in_err-place-clause-ran c =
    let a = c.args in
    let mems = map plain_mem a.decls.now in
    let s = a.self.now in
    let h = c.requires in
    let chip = seen_mem h.setting a.sram _ h.ty h.on_chip in
    let dram = live_dram (seen_mem h.setting a.dram _ h.ty h.outside) in
    ran_stop _ _ _ c.in_err-place.field-0.0 c.from_residual.ensures.1 (gathered_halted mems a.at a.sram a.dram a.places a.k s.left (store_of s) c.in_err-place.field-0.0 (c.in_err-place.ensures.ran a.sram))

pub size-requires-clause-dims : goal.size-requires-clause-dims
size-requires-clause-dims c =
    let a = c.args in
    let mems = map plain_mem a.decls.now in
    let s = a.self.now in
    let h = c.requires in
    let chip = seen_mem h.setting a.sram _ h.ty h.on_chip in
    let dram = live_dram (seen_mem h.setting a.dram _ h.ty h.outside) in
    counts_of h.setting a.sram chip.inside

pub returns-then-k-size-clause-ran : goal.returns-then-k-size-clause-ran
returns-then-k-size-clause-ran c =
    let a = c.args in
    let mems = map plain_mem a.decls.now in
    let s = a.self.now in
    let h = c.requires in
    let chip = seen_mem h.setting a.sram _ h.ty h.on_chip in
    let dram = live_dram (seen_mem h.setting a.dram _ h.ty h.outside) in
    let at = c.in_ok-place.place in
    let placed = c.in_ok-place.ensures.ran a.sram in
    gathered_outside mems a.at a.sram a.dram a.places a.k s.left (store_of s) at placed (le-ltb a.k _ (omega (arith, c.size.ensures)))

pub read_word-word-requires : goal.read_word-word-requires
read_word-word-requires c =
    let a = c.args in
    let mems = map plain_mem a.decls.now in
    let s = a.self.now in
    let h = c.requires in
    let chip = seen_mem h.setting a.sram _ h.ty h.on_chip in
    let dram = live_dram (seen_mem h.setting a.dram _ h.ty h.outside) in
    let at = c.in_ok-place.place in
    let placed = c.in_ok-place.ensures.ran a.sram in
    (dram.0, dram.1, omega (arith, dram.3, c.in_ok-place.ensures.inside))

pub write_cell-requires : goal.write_cell-requires
write_cell-requires c =
    let a = c.args in
    let mems = map plain_mem a.decls.now in
    let s = a.self.now in
    let h = c.requires in
    let chip = seen_mem h.setting a.sram _ h.ty h.on_chip in
    let dram = live_dram (seen_mem h.setting a.dram _ h.ty h.outside) in
    let at = c.in_ok-place.place in
    let placed = c.in_ok-place.ensures.ran a.sram in
    let t = c.turn.new.self in
    let live = live_sram (seen_mem (setting_later h.setting c.in_ok-turn.ensures.keeps) a.sram _ h.ty h.on_chip) in
    (live.0, live.1, omega (arith, live.3, c.size.ensures), subst (λ n. c.read_word-word.result < 2 ^ n) (dram.2 ∙ sym live.2) (c.read_word-word.ensures.fits dram.0 dram.1))

pub returns-in_err-turn-clause-ran : goal.returns-in_err-turn-clause-ran
returns-in_err-turn-clause-ran c =
    let a = c.args in
    let mems = map plain_mem a.decls.now in
    let s = a.self.now in
    let h = c.requires in
    let chip = seen_mem h.setting a.sram _ h.ty h.on_chip in
    let dram = live_dram (seen_mem h.setting a.dram _ h.ty h.outside) in
    let at = c.in_ok-place.place in
    let placed = c.in_ok-place.ensures.ran a.sram in
    let inside : nat_lt a.k (word_count (dims mems a.sram)) ≡ true = lt-ltb a.k _ (omega (arith, c.size.ensures)) in
    ran_stop _ _ _ c.in_err-turn.field-0.0 c.from_residual-in_err-turn.ensures.1 (gathered_spent mems a.at a.sram a.dram a.places a.k s.left (store_of s) at placed inside c.read_word-word.result c.in_err-turn.field-0.0 c.read_word-word.ensures.ran c.in_err-turn.ensures.ran)

pub returns-clause-ran : goal.returns-clause-ran
returns-clause-ran c =
    let a = c.args in
    let mems = map plain_mem a.decls.now in
    let s = a.self.now in
    let h = c.requires in
    let chip = seen_mem h.setting a.sram _ h.ty h.on_chip in
    let dram = live_dram (seen_mem h.setting a.dram _ h.ty h.outside) in
    let at = c.in_ok-place.place in
    let placed = c.in_ok-place.ensures.ran a.sram in
    let inside : nat_lt a.k (word_count (dims mems a.sram)) ≡ true = lt-ltb a.k _ (omega (arith, c.size.ensures)) in
    let t = c.turn.new.self in
    let u = c.write_cell.new.self in
    gathered_went mems a.at a.sram a.dram a.places a.k s.left (store_of s) at placed inside c.read_word-word.result t.left (store_of t) u.left (store_of u) c.read_word-word.ensures.ran c.in_ok-turn.ensures.ran c.write_cell.ensures.ran
