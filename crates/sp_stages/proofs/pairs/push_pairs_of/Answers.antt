use Rattle.std.proofs.Common.{◌≡◌, false, map, length, ap, sym, ◌∙◌, arith}
use Rattle.std.proofs.lemmas.List.{length-map}
use Rattle.sp_core.specs.CoreParts.{plain_core}
use Rattle.sp_plan.specs.Slots.{is_within, run_at}
use Rattle.sp_stages.specs.Divided.{is_over}
use Rattle.sp_plan.specs.Runs.{plain_run}
use Rattle.sp_stages.proofs.Covering.{found_more, found_all, not_within}
use Rattle.sp_stages.proofs.pairs.push_pairs_of.Goals as goal

pub loop-q-preserved : goal.loop-q-preserved
loop-q-preserved c = λ k. found_more (is_over (plain_core c.args.core.now) c.args.owned.now (map plain_run c.args.runs.now) k c.args.meet c.args.p) c.loop-q.q _ _ _ (c.loop-q.invariant k) (c.in_ok-push_pair.ensures k)

pub returns : goal.returns
returns c = λ k.
    let end : c.loop-q.q ≡ length (map plain_run c.args.runs.now) = omega (arith, length-map c.args.runs.now plain_run) in
    found_all (is_over (plain_core c.args.core.now) c.args.owned.now (map plain_run c.args.runs.now) k c.args.meet c.args.p) c.loop-q.q _ _ _ end (c.loop-q.invariant k)

pub returns-then-not-is_within : goal.returns-then-not-is_within
returns-then-not-is_within c =
    let e : is_within (run_at (map plain_run c.args.runs.now) c.args.p) c.args.meet.first ≡ false =
    ap (λ r. is_within r c.args.meet.first) (sym c.run_at.ensures) ∙ sym c.is_within.ensures ∙ c.if-not-is_within.true in
    λ k. not_within (plain_core c.args.core.now) c.args.owned.now (map plain_run c.args.runs.now) k c.args.meet c.args.p _ e
