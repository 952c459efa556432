use Rattle.std.proofs.Common.{refl, ◌∙◌, ap}
use Rattle.sp_words.specs.Memory.{words}
use Rattle.sp_tree.specs.Step.{went}
use Rattle.sp_seq.specs.declared.memory.Storage.TheVariants.{Words}
use Rattle.sp_seq.proofs.StoreLemmas.{live_as, stored}
use Rattle.sp_seq.proofs.AccessLemmas.{write_word-went}
use Rattle.sp_seq.proofs.state.State.write_word.Goals as goal

pub returns-clause-ran : goal.returns-clause-ran
returns-clause-ran c =
    let a = c.args in
    let x = c.index_mut.result.now in
    let live = live_as a.self.now a.memory x _ (Words c.in-Words.words) c.requires.1 c.index_mut.ensures.value c.in-Words.is in
    write_word-went a.self.now a.memory a.at a.word c.in-Words.words live
    ∙ ap (went tt a.self.now.left) (stored a.self.now _ a.memory x _ (Words c.set.new.self) _ live c.index_mut.ensures.value refl refl refl (ap words c.set.ensures.words))
