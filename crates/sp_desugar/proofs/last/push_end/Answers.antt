use Rattle.std.proofs.Common.{map, sym, ap, ◌∙◌}
use Rattle.sp_tree.specs.Plain.{plain_mem}
use Rattle.sp_desugar.specs.Crossings.{onto}
use Rattle.sp_desugar.specs.Names.{plain_ending}
use Rattle.sp_operations.specs.Running.{run_of}
use Rattle.sp_desugar.specs.Tree.{plain_combines, end_stages}
use Rattle.sp_desugar.proofs.last.push_end.Goals as goal

pub returns-in_ok-push_apart-in-InCombination : goal.returns-in_ok-push_apart-in-InCombination
returns-in_ok-push_apart-in-InCombination c = λ counters.
    c.in_ok-push_apart-in-InCombination.ensures counters c.args.n
    ∙ ap (λ k. onto c.args.out.now.items (end_stages (map plain_mem c.args.mems.now) counters (run_of c.args.run) c.args.n (plain_ending k) (plain_combines c.args.combines))) (sym c.in-InCombination.is)

pub returns-in_ok-push_with_word-in-InLastRun : goal.returns-in_ok-push_with_word-in-InLastRun
returns-in_ok-push_with_word-in-InLastRun c = λ counters.
    c.in_ok-push_with_word-in-InLastRun.ensures counters
    ∙ ap (λ k. onto c.args.out.now.items (end_stages (map plain_mem c.args.mems.now) counters (run_of c.args.run) c.args.n (plain_ending k) (plain_combines c.args.combines))) (sym c.in-InLastRun.is)
