use Rattle.std.proofs.Common.{length, drop, ◌++◌, ◌∙◌, sym, ap, subst, All}
use Rattle.std.proofs.lemmas.List.Elements.{All-drop}
use Rattle.sp_sim.specs.Runs.{runs_cells, IsRunWithin, StepStands}
use Rattle.sp_sim.specs.Steps.{cells_of}
use Rattle.sp_sim.proofs.RunLemmas.{all_push, more_runs}
use Rattle.sp_sim.proofs.run.runs_of.Goals as goal

pub loop-rest-preserved : goal.loop-rest-preserved
loop-rest-preserved c =
    let ns = c.args.nets.now in
    let runs = c.loop-rest.runs.items in
    let new = c.push.new.self.items in
    let rest = c.loop-rest.rest.now in
    let run = c.in_ok-run_of.field-0 in
    let count = c.count_same-count.result in
    let back = c.split_at.ensures.back in
    let items = c.in_ok-push.ensures.items in (
      ap (λ xs. runs_cells ns new ++ cells_of xs) back ∙ ap (λ rs. runs_cells ns rs ++ cells_of (drop count rest)) items
          ∙ more_runs ns runs c.args.steps.now rest count run c.loop-rest.invariant.0 (c.in_ok-run_of.ensures.same ∙ ap cells_of c.split_at.ensures.front),
      all_push (IsRunWithin (length ns)) runs new run items c.loop-rest.invariant.1 c.in_ok-run_of.ensures.within,
      subst (All (StepStands ns)) (sym back) (All-drop (StepStands ns) count rest c.loop-rest.invariant.2),
    )
