use Rattle.sp_tree.proofs.Closure.{word_Q, run_all_Q}
use Rattle.sp_tree.proofs.Footprints.{Changes, Looks, changes_closed, changes_loops, looks_closed, looks_loops}
use Rattle.sp_tree.proofs.laws.runs_are_footprints.Goals as goal

pub returns-clause-statements : goal.returns-clause-statements
returns-clause-statements c = λ is mems roomy body named. record {
  changes = run_all_Q (Changes is) is (changes_closed is) mems roomy (changes_loops is) body named;
  looks = run_all_Q (Looks is) is (looks_closed is) mems roomy (looks_loops is) body named;
}

pub returns-clause-expressions : goal.returns-clause-expressions
returns-clause-expressions c = λ is mems e named. record {
  changes = word_Q (Changes is) is (changes_closed is) mems e named;
  looks = word_Q (Looks is) is (looks_closed is) mems e named;
}
