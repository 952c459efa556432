use Rattle.std.proofs.Common.{◌∷◌, ◌++◌, [], take, length, sym, ◌∙◌, ap, slice_index}
use Rattle.std.proofs.lemmas.List.{length-map, take_all}
use Rattle.sp_core.specs.CoreParts.{plain_core}
use Rattle.sp_core.specs.Latency.{latency}
use Rattle.sp_core.specs.Plain.{plain_op}
use Rattle.sp_list_circuits.proofs.Summing.{latencies_of, one_latency, latency_at}
use Rattle.sp_list_circuits.proofs.times.latencies.Goals as goal

pub loop-index-preserved : goal.loop-index-preserved
loop-index-preserved c =
    record {
      each =
          c.in_ok-push.ensures.items ∙ ap (λ xs. xs ++ c.latency.result ∷ []) c.loop-index.invariant.each
          ∙ ap (λ n. latencies_of (plain_core c.args.core.now) (take c.loop-index.index c.args.ops.now) ++ n ∷ []) c.latency.ensures.cycles
          ∙ sym (one_latency (plain_core c.args.core.now) c.args.ops.now c.loop-index.index c.index-ops-index.result c.loop-index-test.true c.index-ops-index.is);
    }

pub returns-clause-many : goal.returns-clause-many
returns-clause-many c =
    let whole = take_all c.loop-index.index c.args.ops.now c.loop-index-test.false in
    ap length (c.loop-index.invariant.each ∙ ap (latencies_of (plain_core c.args.core.now)) whole) ∙ length-map c.args.ops.now (λ op. latency (plain_core c.args.core.now) (plain_op op))

pub returns-clause-each : goal.returns-clause-each
returns-clause-each c = λ k op at.
    let whole = take_all c.loop-index.index c.args.ops.now c.loop-index-test.false in
    ap (λ xs. slice_index xs k) (c.loop-index.invariant.each ∙ ap (latencies_of (plain_core c.args.core.now)) whole) ∙ latency_at (plain_core c.args.core.now) c.args.ops.now k op at
