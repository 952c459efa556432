use Rattle.std.proofs.Common.{map, sym, ◌∙◌, ap, subst, arith}
use Rattle.sp_words.specs.Types.{width_of}
use Rattle.sp_words.specs.Words.{IsWord}
use Rattle.sp_tree.specs.Plain.{plain_expr, plain_mem}
use Rattle.sp_seq.specs.States.{store_of, Ran}
use Rattle.sp_seq.proofs.CountLemmas.{word_combined_halted, word_combined_is}
use Rattle.sp_seq.proofs.SeesLemmas.{setting_later, seen_mem, live_reg}
use Rattle.sp_seq.proofs.StepLemmas.{ran_stop}
use Rattle.sp_seq.proofs.state.State.combine_word.Goals as goal

pub returns-in_err-word-clause-ran : goal.returns-in_err-word-clause-ran
returns-in_err-word-clause-ran c =
    let a = c.args in
    let s = a.self.now in
    ran_stop _ _ _ c.in_err-word.field-0.0 c.from_residual.ensures.1
    (word_combined_halted (map plain_mem a.decls.now) a.into.comb a.into.acc a.into.at s.left (store_of s) a.combines (plain_expr a.value.now) c.in_err-word.field-0.0 c.in_err-word.ensures.ran)

pub assign-requires : goal.assign-requires
assign-requires c =
    let a = c.args in
    let seen = seen_mem (setting_later c.requires.setting c.in_ok-word.ensures.keeps) a.into.acc _ a.value.now.ty c.requires.into in
    let live = live_reg seen in
    record { inside = seen.inside; cells = live.0; live = live.1; width = live.2 ∙ ap width_of (sym seen.is_type); below = omega (arith, live.3); is_word = subst (λ ty. IsWord ty c.in_ok-word.word) (sym seen.is_type) c.in_ok-word.ensures.fits }

pub returns-clause-ran : goal.returns-clause-ran
returns-clause-ran c =
    let a = c.args in
    let s = a.self.now in
    let u = c.word.new.self in
    subst (λ w. Ran w c.assign.result c.assign.new.self)
    (sym (word_combined_is (map plain_mem a.decls.now) a.into.comb a.into.acc a.into.at s.left (store_of s) a.combines (plain_expr a.value.now) c.in_ok-word.word u.left (store_of u) c.in_ok-word.ensures.ran))
    c.assign.ensures.ran
