use Rattle.std.proofs.Common.{map, sym, ◌∙◌, ap}
use Rattle.sp_tree.specs.Plain.{plain_mem}
use Rattle.sp_tree.specs.PlainTree.{plain_counter}
use Rattle.sp_tree.specs.Step.{went}
use Rattle.sp_seq.specs.States.{store_of}
use Rattle.sp_seq.proofs.CountLemmas.{ran_stop_words, range_unbegun, range_unended, range_found}
use Rattle.sp_seq.proofs.SeesLemmas.{setting_later}
use Rattle.sp_seq.proofs.state.State.range_of.Goals as goal

pub returns-in_err-from-clause-ran : goal.returns-in_err-from-clause-ran
returns-in_err-from-clause-ran c =
    let a = c.args in
    let s = a.self.now in
    ran_stop_words _ _ _ c.in_err-from.field-0.0 c.from_residual.ensures.1 (range_unbegun (map plain_mem a.decls.now) (plain_counter a.counter.now) s.left (store_of s) c.in_err-from.field-0.0 c.in_err-from.ensures.ran)

pub word-requires-2 : goal.word-requires-2
word-requires-2 c = record { setting = setting_later c.requires.setting c.in_ok-from.ensures.keeps; typed = c.requires.typed.1.0.0 }

pub returns-in_err-until-clause-ran : goal.returns-in_err-until-clause-ran
returns-in_err-until-clause-ran c =
    let a = c.args in
    let s = a.self.now in
    let t = c.word.new.self in
    ran_stop_words _ _ _ c.in_err-until.field-0.0 c.from_residual-in_err-until.ensures.1
    (range_unended (map plain_mem a.decls.now) (plain_counter a.counter.now) s.left (store_of s) c.in_ok-from.from t.left (store_of t) c.in_ok-from.ensures.ran c.in_err-until.field-0.0 c.in_err-until.ensures.ran)

pub returns-clause-ran : goal.returns-clause-ran
returns-clause-ran c =
    let a = c.args in
    let s = a.self.now in
    let t = c.word.new.self in
    let u = c.word-2.new.self in
    range_found (map plain_mem a.decls.now) (plain_counter a.counter.now) s.left (store_of s) c.in_ok-from.from t.left (store_of t) c.in_ok-from.ensures.ran c.in_ok-until.until u.left (store_of u) c.in_ok-until.ensures.ran
    ∙ ap (λ ws. went ws u.left (store_of u)) (sym c.first_digit.ensures.words)
