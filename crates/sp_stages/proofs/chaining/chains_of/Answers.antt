use Rattle.std.proofs.Common.{ℕ, Bool, ◌<◌, ◌++◌, [], ◌∷◌, map, length, ap, ◌∙◌, arith}
use Rattle.sp_core.specs.CoreParts.{plain_core}
use Rattle.sp_core.specs.Plain.{plain_counter}
use Rattle.sp_plan.specs.Slots.{is_parallel_block}
use Rattle.sp_stages.specs.Chains.{is_link, leaders, chain_number}
use Rattle.sp_plan.specs.Runs.{plain_run}
use Rattle.sp_stages.proofs.Listed.{leader_least, listed_like}
use Rattle.sp_stages.proofs.Numbered.{pushed_number}
use Rattle.sp_stages.proofs.chaining.chains_of.Goals as goal

pub chain_number-requires-clause-least : goal.chain_number-requires-clause-least
chain_number-requires-clause-least c =
    let lt : c.loop-p.p < length c.in_ok-leaders.leaders.items = omega (arith, c.in_ok-leaders.ensures.0, c.loop-p-test.true) in
    leader_least (is_link (plain_core c.args.core.now) c.args.meets.now c.is_parallel_block-parallel.result (map plain_run c.args.runs.now) c.args.slots.now)
    (length (map plain_run c.args.runs.now)) (length (map plain_run c.args.runs.now)) c.loop-p.p c.in_ok-leaders.leaders.items c.deref.result.now c.deref.ensures.value c.in_ok-leaders.ensures.1 lt

pub loop-p-preserved : goal.loop-p-preserved
loop-p-preserved c =
    let by : Bool → ℕ → ℕ = λ parallel. leaders (plain_core c.args.core.now) c.args.meets.now parallel (map plain_run c.args.runs.now) c.args.slots.now in
    let block = is_parallel_block (map plain_counter c.args.counters.now) c.args.style in
    let listed = listed_like by c.is_parallel_block-parallel.result block c.in_ok-leaders.leaders.items c.deref.result.now c.is_parallel_block-parallel.ensures c.deref.ensures.value c.in_ok-leaders.ensures.1 in
    pushed_number (chain_number c.args.slots.now (by block)) c.loop-p.p c.loop-p.chains.items _ c.loop-p.invariant
    (c.in_ok-push.ensures.items ∙ ap (λ x. c.loop-p.chains.items ++ x ∷ []) (c.chain_number.ensures (by block) listed))
