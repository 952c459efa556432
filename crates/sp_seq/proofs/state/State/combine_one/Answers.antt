use Rattle.std.proofs.Common.{◌<◌, ◌^◌, map, sym, ◌∙◌, ap, subst, arith}
use Rattle.sp_words.specs.Interface.{word_count}
use Rattle.sp_words.specs.Types.{width_of}
use Rattle.sp_words.specs.Words.{IsWord}
use Rattle.sp_tree.specs.Plain.{plain_mem}
use Rattle.sp_seq.specs.States.{store_of, Ran}
use Rattle.sp_seq.proofs.CountLemmas.{one_combined_halted, one_combined_spent, one_combined_is}
use Rattle.sp_seq.proofs.SeesLemmas.{setting_later, seen_mem, live_sram}
use Rattle.sp_seq.proofs.StepLemmas.{ran_stop}
use Rattle.sp_seq.proofs.state.State.combine_one.Goals as goal

pub read_cell-requires : goal.read_cell-requires
read_cell-requires c =
    let h = c.requires.can in
    let live = live_sram (seen_mem h.setting c.args.part _ h.ty h.from) in
    (live.0, live.1, omega (arith, live.3, ap word_count h.same_dims, c.requires.below))

pub returns-in_err-word-clause-ran : goal.returns-in_err-word-clause-ran
returns-in_err-word-clause-ran c =
    let a = c.args in
    let s = a.self.now in
    ran_stop _ _ _ c.in_err-word.field-0.0 c.from_residual.ensures.1
    (one_combined_halted (map plain_mem a.decls.now) a.into.comb a.into.acc a.into.at s.left (store_of s) a.combines a.part a.cell c.in_err-word.field-0.0 c.in_err-word.ensures.ran)

pub returns-in_err-turn-clause-ran : goal.returns-in_err-turn-clause-ran
returns-in_err-turn-clause-ran c =
    let a = c.args in
    let s = a.self.now in
    ran_stop _ _ _ c.in_err-turn.field-0.0 c.from_residual-in_err-turn.ensures.1
    (one_combined_spent (map plain_mem a.decls.now) a.into.comb a.into.acc a.into.at s.left (store_of s) a.combines a.part a.cell c.in_ok-word.word s.left (store_of s) c.in_err-turn.field-0.0 c.in_ok-word.ensures.ran c.in_err-turn.ensures.ran)

pub assign-requires : goal.assign-requires
assign-requires c =
    let a = c.args in
    let h = c.requires.can in
    let from = live_sram (seen_mem h.setting a.part _ h.ty h.from) in
    let seen = seen_mem (setting_later h.setting c.in_ok-turn.ensures.keeps) a.into.acc _ h.ty h.into in
    let live = live_sram seen in
    let fits = subst (λ n. c.in_ok-word.word < 2 ^ n) from.2 (c.in_ok-word.ensures.fits from.0 from.1) in
    record { inside = seen.inside; cells = live.0; live = live.1; width = live.2 ∙ ap width_of (sym seen.is_type); below = omega (arith, live.3, c.requires.below); is_word = subst (λ ty. IsWord ty c.in_ok-word.word) (sym seen.is_type) fits }

pub returns-clause-ran : goal.returns-clause-ran
returns-clause-ran c =
    let a = c.args in
    let s = a.self.now in
    let u = c.turn.new.self in
    subst (λ w. Ran w c.assign.result c.assign.new.self)
    (sym (one_combined_is (map plain_mem a.decls.now) a.into.comb a.into.acc a.into.at s.left (store_of s) a.combines a.part a.cell c.in_ok-word.word s.left (store_of s) u.left (store_of u) c.in_ok-word.ensures.ran c.in_ok-turn.ensures.ran))
    c.assign.ensures.ran
