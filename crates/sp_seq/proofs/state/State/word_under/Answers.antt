use Rattle.std.proofs.Common.{map, sym, ◌∙◌, ap, subst}
use Rattle.sp_tree.specs.Expressions.{word}
use Rattle.sp_tree.specs.Plain.{plain_expr, plain_mem}
use Rattle.sp_tree.specs.Typing.{with_val}
use Rattle.sp_seq.specs.States.{store_of, Ran}
use Rattle.sp_seq.proofs.CountLemmas.{word_named_is, stands_under}
use Rattle.sp_seq.proofs.RunningLemmas.{sees_named}
use Rattle.sp_seq.proofs.state.State.word_under.Goals as goal

pub word-requires : goal.word-requires
word-requires c =
    let a = c.args in
    let can = c.requires in
    record {
      setting = record {
        program = can.setting.program;
        same = can.setting.same;
        scope = with_val can.setting.scope a.value can.ty;
        roomy = can.setting.roomy;
        sees = sees_named can.setting.program a.value can.ty a.named can.setting.sees can.fresh can.inside can.is_word c.name.ensures.values c.name.ensures.others.0 c.name.ensures.others.1;
      };
      typed = can.typed;
    }

pub returns-clause-ran : goal.returns-clause-ran
returns-clause-ran c =
    let a = c.args in
    let s = a.self.now in
    let u = c.name.new.self in
    let mems = map plain_mem a.decls.now in
    let e = plain_expr a.e.now in
    subst (λ w. Ran w c.word.result c.word.new.self)
    (sym (word_named_is mems a.value a.named e s.left (store_of s) (store_of u) (sym c.name.ensures.store) ∙ ap (λ n. word mems e n (store_of u)) (sym c.name.ensures.others.2)))
    c.word.ensures.ran

pub returns-clause-stands : goal.returns-clause-stands
returns-clause-stands c = λ can.
    let a = c.args in
    let sees = sees_named {mems = map plain_mem a.decls.now} {roomy = can.setting.roomy} {scope = can.setting.scope} {s = a.self.now} {t = c.name.new.self} can.setting.program a.value can.ty a.named can.setting.sees can.fresh can.inside can.is_word c.name.ensures.values c.name.ensures.others.0 c.name.ensures.others.1 in
    stands_under {mems = map plain_mem a.decls.now} {roomy = can.setting.roomy} {scope = can.setting.scope} a.self.now c.name.new.self c.word.new.self a.value can.ty a.named sees c.name.ensures.values c.name.ensures.others.0 c.name.ensures.others.2 c.word.result c.word.ensures.keeps
