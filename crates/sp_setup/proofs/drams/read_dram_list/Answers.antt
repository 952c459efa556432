use Rattle.std.proofs.Common.{◌∙◌, ℕ, ◌+◌, List, map, take, drop, refl, arith}
use Rattle.sp_edges.specs.Counts.{Rose}
use Rattle.sp_edges.specs.Laws.{Rose-within}
use Rattle.sp_edges.specs.Calls.{Call}
use Rattle.sp_words.specs.Ports.{plain_port}
use Rattle.sp_setup.specs.declared.error.SetupEnd.TheVariants.{Memory}
use Rattle.sp_setup.specs.Table.{option_table}
use Rattle.sp_setup.specs.Drams.{DramsEnd, file_of}
use Rattle.sp_setup.proofs.Turns.{passed_on}
use Rattle.sp_setup.proofs.DramLemmas.{AllGive-none, AllGive-more, DramGives-told, DramsEnd-first, ports-at, ports-more, files_of-push, DramsEnd-memory}
use Rattle.sp_setup.proofs.drams.read_dram_list.Goals as goal

pub loop-port-init : goal.loop-port-init
loop-port-init g c = record {
  gives = rw c.new-drams.ensures.items (AllGive-none _ _);
  counts = omega arith;
  tells = λ n. refl;
  stays_sure = λ n sure. sure;
  asked = g.met.I.Inputs.no_call c.args.inputs.now;
}

pub loop-port-preserved : goal.loop-port-preserved
loop-port-preserved g c =
    let inv = c.loop-port.invariant in
    let more = ports-more c.args.ports.now c.loop-port.port-index c.port-item.result c.loop-port-test.true c.port-item.is in
    let up = c.read_dram.ensures.counts in
    record {
      gives = AllGive-more _ _ _ _ _ _ _ c.in_ok-words.words more c.in_ok-push.ensures.items inv.gives
          (DramGives-told _ _ (file_of (option_table c.args.files) (plain_port c.port-item.result)) _ _ inv.tells c.in_ok-words.ensures.given);
      counts = omega (arith, up, inv.counts);
      tells = λ n. c.read_dram.ensures.tells n ∙ inv.tells n;
      stays_sure = λ n sure. c.read_dram.ensures.stays_sure n (inv.stays_sure n sure);
      asked = rw (more, files_of-push (option_table c.args.files)) (g.met.I.Inputs.more_calls _ _ _ _ _ inv.asked c.in_ok-words.ensures.asks);
    }

pub returns-in_err-words-clause-refused : goal.returns-in_err-words-clause-refused
returns-in_err-words-clause-refused g c =
    let inv = c.loop-port.invariant in
    let failed_now : List ℕ → Type 0 =
    λ name. Rose (g.I.Inputs.faults c.loop-port.inputs) (g.I.Inputs.faults c.read_dram.new.inputs) × (g.I.Inputs.sure c.loop-port.inputs name → ⊥) in
    let failed : List ℕ → Type 0 =
    λ name. Rose (g.I.Inputs.faults c.args.inputs.now) (g.I.Inputs.faults c.read_dram.new.inputs) × (g.I.Inputs.sure c.args.inputs.now name → ⊥) in
    let wide : (n : List ℕ) → failed_now n → failed n =
    λ n fails. (Rose-within _ _ _ _ inv.counts fails.0 (omega arith), λ sure. fails.1 (inv.stays_sure n sure)) in
    let asked_now : List Call → Type 0 = λ calls. g.I.Inputs.asked c.loop-port.inputs calls c.read_dram.new.inputs in
    let asked : List Call → Type 0 = λ calls. g.I.Inputs.asked c.args.inputs.now calls c.read_dram.new.inputs in
    let at = ports-at c.args.ports.now c.loop-port.port-index c.port-item.result c.loop-port-test.true c.port-item.is in
    let end = DramsEnd-first (g.I.Inputs.told c.loop-port.inputs) (g.I.Inputs.told c.args.inputs.now) failed_now failed asked_now asked (option_table c.args.files)
    (map plain_port (take c.loop-port.port-index c.args.ports.now)) (map plain_port (drop (c.loop-port.port-index + 1) c.args.ports.now)) (plain_port c.port-item.result) _
    c.in_err-words.field-0.0 inv.tells wide (λ calls made. g.met.I.Inputs.more_calls _ _ _ _ _ inv.asked made) inv.gives (file_of (option_table c.args.files) (plain_port c.port-item.result)) refl c.in_err-words.ensures.refused in
    let h : DramsEnd (g.I.Inputs.told c.args.inputs.now) failed asked (option_table c.args.files) (map plain_port c.args.ports.now) c.in_err-words.field-0.0 = rw at end in
    passed_on c.from_residual.result c.in_err-words.field-0.0 _ _ c.from_residual.ensures.1 (λ y p. p) h

-- there was no memory for one more list of words
pub returns-in_err-push-clause-refused : goal.returns-in_err-push-clause-refused
returns-in_err-push-clause-refused g c =
    let inv = c.loop-port.invariant in
    let at = ports-at c.args.ports.now c.loop-port.port-index c.port-item.result c.loop-port-test.true c.port-item.is in
    let failed : List ℕ → Type 0 =
    λ name. Rose (g.I.Inputs.faults c.args.inputs.now) (g.I.Inputs.faults c.read_dram.new.inputs) × (g.I.Inputs.sure c.args.inputs.now name → ⊥) in
    let asked : List Call → Type 0 = λ calls. g.I.Inputs.asked c.args.inputs.now calls c.read_dram.new.inputs in
    let end = DramsEnd-memory (g.I.Inputs.told c.args.inputs.now) failed asked (option_table c.args.files)
    (map plain_port (take c.loop-port.port-index c.args.ports.now)) (map plain_port (drop (c.loop-port.port-index + 1) c.args.ports.now)) (plain_port c.port-item.result)
    (g.met.I.Inputs.more_calls _ _ _ _ _ inv.asked c.in_ok-words.ensures.asks) in
    let h : DramsEnd (g.I.Inputs.told c.args.inputs.now) failed asked (option_table c.args.files) (map plain_port c.args.ports.now) Memory = rw at end in
    passed_on c.from_residual-in_err-push.result Memory _ _ c.from_residual-in_err-push.ensures.1 (λ y p. p) h
