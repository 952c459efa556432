use Rattle.std.proofs.Common.{◌<◌, [], map, length, sym, ◌∙◌, ap, ap₂, subst, arith}
use Rattle.std.proofs.lemmas.List.{length-map}
use Rattle.sp_tree.specs.Expressions.{mem}
use Rattle.sp_tree.specs.Plain.{plain_mem}
use Rattle.sp_tree.specs.PlainProgram.{PlainMem, no_mem}
use Rattle.sp_tree.specs.Step.{went}
use Rattle.sp_tree.specs.Store.{hold}
use Rattle.sp_seq.specs.States.{store_of, memory_of, cleared, CanBegin}
use Rattle.sp_seq.proofs.BeginLemmas.{can_begin, begins_fresh}
use Rattle.sp_seq.proofs.RunningLemmas.{declare_went, sees_mem, contained_first}
use Rattle.sp_seq.proofs.SeesLemmas.{sees_later, decl_get}
use Rattle.sp_seq.proofs.state.State.declare.Goals as goal

pub bounds-decls-memory : goal.bounds-decls-memory
bounds-decls-memory c =
    let a = c.args in
    let mems = map plain_mem a.decls.now in
    let s = a.self.now in
    let chip = c.requires.numbered.chip a.memory (contained_first a.memory []) in
    let sees = c.requires.setting.sees in
    let inside : a.memory < length a.decls.now = omega (arith, chip.0, length-map a.decls.now plain_mem) in
    inside

pub bounds-decls-memory-2 : goal.bounds-decls-memory-2
bounds-decls-memory-2 c =
    let a = c.args in
    let mems = map plain_mem a.decls.now in
    let s = a.self.now in
    let chip = c.requires.numbered.chip a.memory (contained_first a.memory []) in
    let sees = c.requires.setting.sees in
    let inside : a.memory < length a.decls.now = omega (arith, chip.0, length-map a.decls.now plain_mem) in
    inside

pub begin-requires : goal.begin-requires
begin-requires c =
    let a = c.args in
    let mems = map plain_mem a.decls.now in
    let s = a.self.now in
    let chip = c.requires.numbered.chip a.memory (contained_first a.memory []) in
    let sees = c.requires.setting.sees in
    let inside : a.memory < length a.decls.now = omega (arith, chip.0, length-map a.decls.now plain_mem) in
    let here : a.memory < length s.memories.items = omega (arith, chip.0, sees.memories) in
    let stored = sees.stored a.memory chip.0 in
    let start = (sees.declared a.memory no_mem chip.0).start in
    let same = ap (λ (d : PlainMem). d.start) (decl_get a.decls.now a.memory c.index-decls-memory.result inside) in
    (here, subst (λ o. CanBegin o (memory_of s a.memory).storage) same (can_begin (mem mems a.memory) _ _ (mem mems a.memory).start _ stored chip.1 start))

pub returns : goal.returns
returns c =
    let a = c.args in
    let mems = map plain_mem a.decls.now in
    let s = a.self.now in
    let chip = c.requires.numbered.chip a.memory (contained_first a.memory []) in
    let sees = c.requires.setting.sees in
    let inside : a.memory < length a.decls.now = omega (arith, chip.0, length-map a.decls.now plain_mem) in
    let here : a.memory < length s.memories.items = omega (arith, chip.0, sees.memories) in
    let stored = sees.stored a.memory chip.0 in
    let start = (sees.declared a.memory no_mem chip.0).start in
    let same = ap (λ (d : PlainMem). d.start) (decl_get a.decls.now a.memory c.index-decls-memory.result inside) in
    λ at can.
    let fresh = begins_fresh (mem mems a.memory) _ _ (mem mems a.memory).start _ stored chip.1 start in
    let was = ap (λ o. cleared o (memory_of s a.memory).storage) (sym same) ∙ fresh in
    let t = c.begin.new.self in (
      [],
      declare_went mems can.setting.roomy at s.left (store_of s) a.memory ∙ ap (λ x. went [] s.left (hold (store_of s) a.memory x)) (sym was) ∙ ap₂ (λ l x. went [] l x) (sym c.begin.ensures.same_left) (sym c.begin.ensures.store),
      record {
        sees = sees_mem a.memory (sees_later can.setting.sees c.begin.ensures.keeps) chip.0 c.begin.ensures.live;
        values = ap length c.begin.ensures.keeps.values;
        counts = ap length c.begin.ensures.keeps.counts;
        left = c.begin.ensures.keeps.left;
      },
    )
