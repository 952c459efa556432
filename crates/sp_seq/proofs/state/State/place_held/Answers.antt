use Rattle.std.proofs.Common.{◌≡◌, ◌<◌, ◌^◌, true, map, sym, ◌∙◌, ap, subst, arith}
use Rattle.std.specs.Prelude.{nat_lt}
use Rattle.std.proofs.lemmas.Bool.{lt-ltb, le-ltb}
use Rattle.sp_words.specs.Interface.{word_count}
use Rattle.sp_words.specs.Types.{int_type}
use Rattle.sp_tree.specs.Elements.{index_value, is_below}
use Rattle.sp_tree.specs.Expressions.{dims}
use Rattle.sp_tree.specs.Plain.{plain_mem}
use Rattle.sp_tree.specs.Step.{went}
use Rattle.sp_seq.specs.States.{store_of}
use Rattle.sp_seq.proofs.SeesLemmas.{seen_mem, live_sram}
use Rattle.sp_seq.proofs.SparseLemmas.{place_halted, place_outside, place_went, place_missing}
use Rattle.sp_seq.proofs.StepLemmas.{ran_stop}
use Rattle.sp_seq.proofs.state.State.place_held.Goals as goal

pub returns-then-k-size-clause-ran : goal.returns-then-k-size-clause-ran
returns-then-k-size-clause-ran c =
    let a = c.args in
    let mems = map plain_mem a.decls.now in
    let s = a.self.now in
    let h = c.requires.1 in
    let live = live_sram (seen_mem h.setting a.places _ int_type h.held) in
    λ sram. place_missing mems a.at sram a.dram a.places a.k s.left (store_of s) (le-ltb a.k _ (omega (arith, c.size.ensures)))

pub read_cell-requires : goal.read_cell-requires
read_cell-requires c =
    let a = c.args in
    let mems = map plain_mem a.decls.now in
    let s = a.self.now in
    let h = c.requires.1 in
    let live = live_sram (seen_mem h.setting a.places _ int_type h.held) in
    (live.0, live.1, omega (arith, live.3, c.size.ensures))

pub returns-in_err-word-clause-ran : goal.returns-in_err-word-clause-ran
returns-in_err-word-clause-ran c =
    let a = c.args in
    let mems = map plain_mem a.decls.now in
    let s = a.self.now in
    let h = c.requires.1 in
    let live = live_sram (seen_mem h.setting a.places _ int_type h.held) in
    let held : nat_lt a.k (word_count (dims mems a.places)) ≡ true = lt-ltb a.k _ (omega (arith, c.size.ensures)) in
    λ sram. ran_stop _ _ _ c.in_err-word.field-0.0 c.from_residual.ensures.1 (place_halted mems a.at sram a.dram a.places a.k s.left (store_of s) held c.in_err-word.field-0.0 c.in_err-word.ensures.ran)

pub is_below-requires : goal.is_below-requires
is_below-requires c =
    let a = c.args in
    let mems = map plain_mem a.decls.now in
    let s = a.self.now in
    let h = c.requires.1 in
    let live = live_sram (seen_mem h.setting a.places _ int_type h.held) in
    let w = c.in_ok-word.word in
    let is_word = subst (λ n. w < 2 ^ n) live.2 (c.in_ok-word.ensures.fits live.0 live.1) in
    is_word

pub returns-then-not-is_below-clause-ran : goal.returns-then-not-is_below-clause-ran
returns-then-not-is_below-clause-ran c =
    let a = c.args in
    let mems = map plain_mem a.decls.now in
    let s = a.self.now in
    let h = c.requires.1 in
    let live = live_sram (seen_mem h.setting a.places _ int_type h.held) in
    let held : nat_lt a.k (word_count (dims mems a.places)) ≡ true = lt-ltb a.k _ (omega (arith, c.size.ensures)) in
    let w = c.in_ok-word.word in
    let is_word = subst (λ n. w < 2 ^ n) live.2 (c.in_ok-word.ensures.fits live.0 live.1) in
    let told = ap (is_below (index_value w)) (sym c.size-2.ensures) ∙ sym c.is_below.ensures in
    λ sram. place_outside mems a.at sram a.dram a.places a.k s.left (store_of s) held w c.in_ok-word.ensures.ran (told ∙ c.if-not-is_below.true)

pub natural-requires : goal.natural-requires
natural-requires c =
    let a = c.args in
    let mems = map plain_mem a.decls.now in
    let s = a.self.now in
    let h = c.requires.1 in
    let live = live_sram (seen_mem h.setting a.places _ int_type h.held) in
    let w = c.in_ok-word.word in
    let is_word = subst (λ n. w < 2 ^ n) live.2 (c.in_ok-word.ensures.fits live.0 live.1) in
    is_word

pub returns-clause-ran : goal.returns-clause-ran
returns-clause-ran c =
    let a = c.args in
    let mems = map plain_mem a.decls.now in
    let s = a.self.now in
    let h = c.requires.1 in
    let live = live_sram (seen_mem h.setting a.places _ int_type h.held) in
    let held : nat_lt a.k (word_count (dims mems a.places)) ≡ true = lt-ltb a.k _ (omega (arith, c.size.ensures)) in
    let w = c.in_ok-word.word in
    let is_word = subst (λ n. w < 2 ^ n) live.2 (c.in_ok-word.ensures.fits live.0 live.1) in
    let told = ap (is_below (index_value w)) (sym c.size-2.ensures) ∙ sym c.is_below.ensures in
    λ sram. place_went mems a.at sram a.dram a.places a.k s.left (store_of s) held w c.in_ok-word.ensures.ran (told ∙ c.if-not-is_below.false) ∙ ap (λ x. went x s.left (store_of s)) (sym c.natural.ensures)
