use Rattle.std.proofs.Common.{sym, ◌∙◌, ap}
use Rattle.sp_tree.specs.Step.{went}
use Rattle.sp_seq.specs.declared.memory.Storage.TheVariants.{Words}
use Rattle.sp_seq.specs.States.{store_of}
use Rattle.sp_seq.proofs.StoreLemmas.{live_as}
use Rattle.sp_seq.proofs.AccessLemmas.{read_word-went}
use Rattle.sp_seq.proofs.state.State.read_word.Goals as goal

pub returns-clause-ran : goal.returns-clause-ran
returns-clause-ran c =
    let a = c.args in
    let live = live_as a.self.now a.memory c.index.result.now _ (Words c.in-Words.words) c.requires.1 c.index.ensures c.in-Words.is in
    read_word-went a.self.now a.memory a.at c.in-Words.words live ∙ ap (λ w. went w a.self.now.left (store_of a.self.now)) (sym c.get.ensures.word)
