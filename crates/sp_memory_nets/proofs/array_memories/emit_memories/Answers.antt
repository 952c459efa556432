use Rattle.std.proofs.Common.{◌≡◌, ◌≢◌, ℕ, suc, ◌+◌, ◌<◌, List, [], ◌∷◌, length, slice_index, All, ap, subst, ◌∙◌, arith}
use Rattle.std.proofs.lemmas.List.{length-map, length-append, get_or_default}
use Rattle.sp_words.specs.declared.kind.Kind.TheVariants.{Sram, Fifo}
use Rattle.sp_words.specs.Types.{width_of}
use Rattle.sp_gates.specs.Grows.{Fills}
use Rattle.sp_gates.specs.Nets.{HasNet}
use Rattle.sp_gates.proofs.Growing.{Fills-none, HasNet-stays, same_nets}
use Rattle.sp_gates.proofs.Running.{runs_earlier}
use Rattle.sp_core.specs.CoreParts.{plain_core}
use Rattle.sp_core.specs.Declarations.{mem, kind_of}
use Rattle.sp_core.specs.Plain.{plain_mem}
use Rattle.sp_core.specs.PlainCore.{PlainMem}
use Rattle.sp_plan.specs.Plain.{plain_plan}
use Rattle.sp_access_nets.specs.declared.access.AccessNets.{AccessNets}
use Rattle.sp_memory_nets.specs.ArrayRuns.{RunsMemory}
use Rattle.sp_memory_nets.proofs.ArrayCollecting.{driven_up_to, all_are, entry_fits, more_driven, one_more}
use Rattle.sp_memory_nets.proofs.array_memories.emit_memories.Goals as goal

pub loop-m-init : goal.loop-m-init
loop-m-init c = record {
  fills = Fills-none _;
  each = ap length c.new-words.ensures.items;
  nets = λ k l. absurd (omega (arith, l));
  runs = λ s run k l. absurd (omega (arith, l));
}

pub emit_memory-requires : goal.emit_memory-requires
emit_memory-requires c =
    let l = c.loop-m-test.true in
    let e = length-map c.mems-m-end.result.now plain_mem in
    let same = ap (λ (ms : List PlainMem). length ms) c.mems-m-end.ensures.mems in
    record { fits = entry_fits _ _ (plain_core c.args.core.now) (plain_plan c.args.plan.now) c.args.accesses.now c.args.owners.now c.args.arguments.now c.args.arrays.now c.args.start c.loop-m.m c.requires c.loop-m.invariant.fills (omega (arith, l, e, same)) c.index-arrays-m.result c.index-arrays-m.is c.index-arguments-m.result c.index-arguments-m.is }

pub loop-m-preserved : goal.loop-m-preserved
loop-m-preserved c =
    let i = c.loop-m.invariant in
    let e = c.in_ok-net.ensures in
    let m = c.loop-m.m in
    let core = plain_core c.args.core.now in
    let plan = plain_plan c.args.plan.now in
    let l = c.loop-m-test.true in
    let q = length-map c.mems-m-end.result.now plain_mem in
    let same = ap (λ (ms : List PlainMem). length ms) c.mems-m-end.ensures.mems in
    let each = c.requires.each in
    let within : m < length c.args.arguments.now = omega (arith, l, q, same, each) in
    let inside : m < length core.mems = omega (arith, l, q, same) in
    let port : c.index-arguments-m.result ≡ slice_index c.args.arguments.now m = c.index-arguments-m.is ∙ get_or_default c.args.arguments.now m c.index-arguments-m.result 0 within in
    let next : suc m ≡ m + 1 = omega arith in
    record {
      fills = subst (λ n. Fills c.args.builder.now c.emit_memory.new.builder (driven_up_to n c.args.accesses.now c.args.arrays.now)) next
          (more_driven _ _ core plan c.args.accesses.now c.args.owners.now c.args.arguments.now c.args.arrays.now c.args.start m c.requires i.fills inside c.index-arrays-m.result c.index-arrays-m.is _ e.fills);
      each = (let a = ap (λ (ns : List ℕ). length ns) c.in_ok-push.ensures.items in let b = i.each in let d = length-append c.loop-m.words.items (c.in_ok-net.net ∷ []) in omega (arith, a, b, d));
      nets = rw c.in_ok-push.ensures.items
          (one_more (λ k n. kind_of core k ≢ Sram → kind_of core k ≢ Fifo → HasNet c.emit_memory.new.builder n (width_of (mem core k).ty)) c.loop-m.words.items m c.in_ok-net.net i.each (λ k below other fifo. HasNet-stays _ _ _ _ e.fills.grows (i.nets k below other fifo)) e.net);
      runs = λ s run. rw c.in_ok-push.ensures.items
          (one_more (λ k n. RunsMemory core plan s c.args.accesses.now c.args.owners.now (slice_index c.args.arguments.now k) k n) c.loop-m.words.items m c.in_ok-net.net i.each (i.runs s (runs_earlier _ _ s e.fills.grows run))
          (subst (λ n. RunsMemory core plan s c.args.accesses.now c.args.owners.now n m c.in_ok-net.net) port (e.runs s run)));
    }

pub returns-clause-each : goal.returns-clause-each
returns-clause-each c =
    let a = c.loop-m.invariant.each in
    let ended = c.loop-m.auto.m-end in
    let past = c.loop-m-test.false in
    let q = length-map c.mems-m-end.result.now plain_mem in
    let same = ap (λ (ms : List PlainMem). length ms) c.mems-m-end.ensures.mems in
    omega (arith, a, ended, past, q, same)

pub returns-clause-fills : goal.returns-clause-fills
returns-clause-fills c =
    let ended = c.loop-m.auto.m-end in
    let past = c.loop-m-test.false in
    let q = length-map c.mems-m-end.result.now plain_mem in
    let same = ap (λ (ms : List PlainMem). length ms) c.mems-m-end.ensures.mems in
    let e : length c.args.core.now.mems ≡ c.loop-m.m = omega (arith, ended, past, q, same) in
    same_nets _ _ (driven_up_to c.loop-m.m c.args.accesses.now c.args.arrays.now) _
    (all_are c.args.accesses.now c.args.arrays.now c.loop-m.m (c.requires.arrays_stand.each ∙ e) (subst (λ n. All (λ (a : AccessNets). a.mem < n) c.args.accesses.now) e c.requires.within)) c.loop-m.invariant.fills

pub returns-clause-nets : goal.returns-clause-nets
returns-clause-nets c = λ m l.
    let past = c.loop-m-test.false in
    let q = length-map c.mems-m-end.result.now plain_mem in
    let same = ap (λ (ms : List PlainMem). length ms) c.mems-m-end.ensures.mems in
    c.loop-m.invariant.nets m (omega (arith, l, past, q, same))

pub returns-clause-runs : goal.returns-clause-runs
returns-clause-runs c = λ s run m l.
    let past = c.loop-m-test.false in
    let q = length-map c.mems-m-end.result.now plain_mem in
    let same = ap (λ (ms : List PlainMem). length ms) c.mems-m-end.ensures.mems in
    c.loop-m.invariant.runs s run m (omega (arith, l, past, q, same))
