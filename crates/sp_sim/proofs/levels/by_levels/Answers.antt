use Rattle.std.proofs.Common.{subst, All, rules}
use Rattle.std.proofs.lemmas.List.Sorted.{All-permutation, IsPermutation-trans, IsNonDecreasingBy-from_sort_by_key}
use Rattle.sp_sim.specs.declared.step.Step.{Step}
use Rattle.sp_sim.specs.Levels.{Rises}
use Rattle.sp_sim.specs.Rows.{word_of}
use Rattle.sp_sim.proofs.Levelled.{sorted_steps}
use Rattle.sp_sim.proofs.levels.by_levels.Goals as goal

pub returns : goal.returns
returns c =
    let cells = c.args.netlist.now in
    let level = word_of c.in_ok-levels.levels in
    let old = c.args.steps.now.items in
    let middle = c.sort_by_key.new.self.items in
    let new = c.sort_by_key-2.new.self.items in
    let moved = IsPermutation-trans old middle new c.sort_by_key.ensures.permutation c.sort_by_key-2.ensures.permutation in
    let rises = subst (All (Rises cells level)) c.deref.ensures.value c.in_ok-levels.ensures in
    let up = IsNonDecreasingBy-from_sort_by_key (λ (s : Step). level s.net) new c.in_ok-sort_by_key-2.ensures.sorted (λ a r q k. search rules) in
    sorted_steps cells old c.requires level new (All-permutation (Rises cells level) old new moved rises) moved up
