use Rattle.std.proofs.Common.{[], map, length, sym, ◌∙◌, ap, ap₂, arith}
use Rattle.std.proofs.lemmas.List.{length-set}
use Rattle.sp_tree.specs.Plain.{plain_expr, plain_mem}
use Rattle.sp_tree.specs.Step.{went}
use Rattle.sp_seq.specs.States.{store_of}
use Rattle.sp_seq.proofs.RunningLemmas.{finished_stop, name_went, name_halted, sees_named, contained_first}
use Rattle.sp_seq.proofs.SeesLemmas.{sees_later}
use Rattle.sp_seq.proofs.state.State.name_word.Goals as goal

pub returns-in_err-word : goal.returns-in_err-word
returns-in_err-word c =
    let a = c.args in
    let mems = map plain_mem a.decls.now in
    let s = a.self.now in
    λ at can. finished_stop mems can.setting.roomy _ s _ _ _ c.in_err-word.field-0.0 c.from_residual.ensures.1 (name_halted mems can.setting.roomy at s.left (store_of s) a.value (plain_expr a.e.now) c.in_err-word.field-0.0 c.in_err-word.ensures.ran)

pub name-requires : goal.name-requires
name-requires c =
    let a = c.args in
    let mems = map plain_mem a.decls.now in
    let s = a.self.now in
    let below = c.requires.numbered.vals a.value (contained_first a.value []) in
    omega (arith, below, ap length c.in_ok-word.ensures.keeps.values)

pub returns : goal.returns
returns c =
    let a = c.args in
    let mems = map plain_mem a.decls.now in
    let s = a.self.now in
    λ at can.
    let u = c.word.new.self in
    let t = c.name.new.self in
    let w = c.in_ok-word.word in
    let below = c.requires.numbered.vals a.value (contained_first a.value []) in
    let same = ap length c.in_ok-word.ensures.keeps.values in
    let more = ap length c.name.ensures.values in (
      [],
      name_went mems can.setting.roomy at s.left (store_of s) a.value (plain_expr a.e.now) w u.left (store_of u) c.in_ok-word.ensures.ran ∙ ap₂ (λ l x. went [] l x) (sym c.name.ensures.others.2) (sym c.name.ensures.store),
      record {
        sees = sees_named can.setting.program a.value a.e.now.ty w (sees_later can.setting.sees c.in_ok-word.ensures.keeps) can.typed.0 (omega arith) c.in_ok-word.ensures.fits c.name.ensures.values c.name.ensures.others.0 c.name.ensures.others.1;
        values = more ∙ length-set u.values.items a.value w ∙ same;
        counts = ap length c.name.ensures.others.0 ∙ ap length c.in_ok-word.ensures.keeps.counts;
        left = omega (arith, c.name.ensures.others.2, c.in_ok-word.ensures.keeps.left);
      },
    )
