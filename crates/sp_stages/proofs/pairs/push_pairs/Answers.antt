use Rattle.std.proofs.Common.{◌≡◌, map, length, arith}
use Rattle.std.proofs.lemmas.List.{length-map}
use Rattle.sp_core.specs.CoreParts.{plain_core}
use Rattle.sp_stages.specs.Divided.{is_over_any}
use Rattle.sp_plan.specs.Runs.{plain_run}
use Rattle.sp_stages.proofs.Covering.{found_more, found_all}
use Rattle.sp_stages.proofs.pairs.push_pairs.Goals as goal

pub loop-p-preserved : goal.loop-p-preserved
loop-p-preserved c = λ k. found_more (is_over_any (plain_core c.args.core.now) c.args.owned.now (map plain_run c.args.runs.now) k c.args.meet) c.loop-p.p _ _ _ (c.loop-p.invariant k) (c.in_ok-push_pairs_of.ensures k)

pub returns : goal.returns
returns c = λ k.
    let end : c.loop-p.p ≡ length (map plain_run c.args.runs.now) = omega (arith, length-map c.args.runs.now plain_run) in
    found_all (is_over_any (plain_core c.args.core.now) c.args.owned.now (map plain_run c.args.runs.now) k c.args.meet) c.loop-p.p _ _ _ end (c.loop-p.invariant k)
