use Rattle.std.proofs.Common.{refl, ◌∙◌, ap}
use Rattle.sp_words.specs.Memory.{queue}
use Rattle.sp_tree.specs.Step.{went}
use Rattle.sp_seq.specs.declared.memory.Storage.TheVariants.{Queue}
use Rattle.sp_seq.specs.States.{store_of}
use Rattle.sp_seq.proofs.StoreLemmas.{live_as, stored}
use Rattle.sp_seq.proofs.AccessLemmas.{dequeue-went, oldest-went, oldest-none}
use Rattle.sp_seq.proofs.state.State.dequeue.Goals as goal

pub returns-in-Some-clause-ran : goal.returns-in-Some-clause-ran
returns-in-Some-clause-ran c =
    let a = c.args in
    let x = c.index_mut.result.now in
    let live = live_as a.self.now a.memory x _ (Queue c.in-Queue.queue) c.requires.1 c.index_mut.ensures.value c.in-Queue.is in
    dequeue-went a.self.now a.memory a.place c.in-Queue.queue live
    ∙ oldest-went a.self.now.left (store_of a.self.now) a.memory a.place c.in-Some.word c.in-Queue.queue.words c.in-Some.ensures.oldest
    ∙ ap (went c.in-Some.word a.self.now.left) (stored a.self.now _ a.memory x _ (Queue c.pop.new.self) _ live c.index_mut.ensures.value refl refl refl (ap queue c.pop.ensures.rest))

pub returns-in-None-clause-ran : goal.returns-in-None-clause-ran
returns-in-None-clause-ran c =
    let a = c.args in
    let live = live_as a.self.now a.memory c.index_mut.result.now _ (Queue c.in-Queue.queue) c.requires.1 c.index_mut.ensures.value c.in-Queue.is in
    dequeue-went a.self.now a.memory a.place c.in-Queue.queue live
    ∙ oldest-none a.self.now.left (store_of a.self.now) a.memory a.place c.in-Queue.queue.words c.in-None.ensures.oldest
