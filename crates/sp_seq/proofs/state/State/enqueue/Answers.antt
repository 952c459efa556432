use Rattle.std.proofs.Common.{refl, sym, ◌∙◌, ap}
use Rattle.sp_words.specs.Memory.{queue}
use Rattle.sp_tree.specs.Step.{went}
use Rattle.sp_tree.specs.Accesses.{enqueue}
use Rattle.sp_seq.specs.declared.memory.Storage.TheVariants.{Queue}
use Rattle.sp_seq.specs.States.{store_of}
use Rattle.sp_seq.proofs.StoreLemmas.{live_as, stored, same_room}
use Rattle.sp_seq.proofs.AccessLemmas.{enqueue-went, enqueue-full, not_full}
use Rattle.sp_seq.proofs.state.State.enqueue.Goals as goal

pub returns-then-is_full-clause-ran : goal.returns-then-is_full-clause-ran
returns-then-is_full-clause-ran c = λ q h.
    let a = c.args in
    let live = live_as a.self.now a.memory c.index_mut.result.now _ (Queue c.in-Queue.queue) c.requires.1 c.index_mut.ensures.value c.in-Queue.is in
    ap (λ n. enqueue a.memory n a.word a.place a.self.now.left (store_of a.self.now)) (same_room _ _ _ _ h live)
    ∙ enqueue-full a.self.now a.memory a.word a.place c.in-Queue.queue live (not_full _ _ (sym c.is_full.ensures ∙ c.if-is_full.true))

pub returns-clause-ran : goal.returns-clause-ran
returns-clause-ran c = λ q h.
    let a = c.args in
    let x = c.index_mut.result.now in
    let live = live_as a.self.now a.memory x _ (Queue c.in-Queue.queue) c.requires.1 c.index_mut.ensures.value c.in-Queue.is in
    ap (λ n. enqueue a.memory n a.word a.place a.self.now.left (store_of a.self.now)) (same_room _ _ _ _ h live)
    ∙ enqueue-went a.self.now a.memory a.word a.place c.in-Queue.queue live (not_full _ _ (sym c.is_full.ensures ∙ c.if-is_full.false))
    ∙ ap (went tt a.self.now.left) (stored a.self.now _ a.memory x _ (Queue c.push.new.self) _ live c.index_mut.ensures.value refl refl refl (ap queue c.push.ensures.words))
