use Rattle.std.proofs.Common.{◌+◌, ◌∷◌, length, sym, ◌∙◌, ap, arith, length-append, [], slice_index}
use Rattle.sp_core.specs.CoreParts.{plain_core}
use Rattle.sp_core.specs.Plain.{plain_ops}
use Rattle.sp_node_runs.specs.BodiesLists.{turn_time}
use Rattle.sp_list_circuits.proofs.Summing.{times_behind, next_time}
use Rattle.sp_list_circuits.proofs.times.turn_times.Goals as goal

pub loop-index-preserved : goal.loop-index-preserved
loop-index-preserved c =
    let i = c.loop-index.invariant in
    let core = plain_core c.args.core.now in
    let ops = plain_ops c.args.ops.now in
    let items = c.in_ok-push.ensures.items in
    let more = length-append c.loop-index.times.items (c.loop-index.all ∷ []) in
    let many = i.many in
    record {
      small = c.in_ok-all.ensures.small;
      all = c.in_ok-all.ensures.sum ∙ ap (λ n. n + c.latency.result) i.all ∙ ap (λ n. turn_time core ops c.loop-index.index + n) c.latency.ensures.cycles ∙ sym (next_time core c.args.ops.now c.loop-index.index c.index-ops-index.result c.loop-index-test.true c.index-ops-index.is);
      many = ap length items ∙ omega (arith, many, more);
      times = λ k lt.
          ap (λ xs. slice_index xs k) items
          ∙ times_behind (turn_time core ops) c.loop-index.times.items c.loop-index.all (λ j l. i.times j (omega (arith, many, l))) (i.all ∙ ap (turn_time core ops) (sym many)) k (omega (arith, lt, many));
    }
