use Rattle.std.proofs.Common.{arith, ℕ, List, ◌∷◌, []}
use Rattle.sp_edges.specs.Calls.{Call, given}
use Rattle.sp_edges.specs.Counts.{Rose}
use Rattle.sp_edges.specs.Laws.{Rose-within}
use Rattle.sp_words.specs.Ports.{plain_ports}
use Rattle.sp_setup.specs.Setup.{plain_setup}
use Rattle.sp_setup.specs.Laws.{IsSetup-told}
use Rattle.sp_top.proofs.SimulateLemmas.{stops}
use Rattle.sp_top.proofs.simulate.setup_for.Goals as goal

pub returns-in-Ok-clause-given : goal.returns-in-Ok-clause-given
returns-in-Ok-clause-given g c =
    let text = c.in_ok-bytes.ensures in
    let is = rw c.deref.ensures.value at c.in-Ok.ensures.setup in
    let asks = rw c.deref.ensures.value at c.in-Ok.ensures.asks in record {
      bytes = c.in_ok-bytes.bytes.items;
      gives = text.given;
      is = IsSetup-told (g.I.Inputs.told c.read_text.new.inputs) (g.I.Inputs.told c.args.inputs.now) text.tells (plain_ports c.args.ports.now) c.in_ok-bytes.bytes.items (plain_setup c.in-Ok.setup) is;
      asks = g.met.I.Inputs.more_calls _ _ _ (given c.args.name.now ∷ []) _ text.asks asks;
    }

pub returns-clause-refused : goal.returns-clause-refused
returns-clause-refused g c =
    let text = c.in_ok-bytes.ensures in
    let failed_now : List ℕ → Type 0 =
    λ name. Rose (g.I.Inputs.faults c.read_text.new.inputs) (g.I.Inputs.faults c.read.new.inputs) × (g.I.Inputs.sure c.read_text.new.inputs name → ⊥) in
    let failed : List ℕ → Type 0 =
    λ name. Rose (g.I.Inputs.faults c.args.inputs.now) (g.I.Inputs.faults c.read.new.inputs) × (g.I.Inputs.sure c.args.inputs.now name → ⊥) in
    let wide : (n : List ℕ) → failed_now n → failed n =
    λ n fails. (Rose-within _ _ _ _ text.counts fails.0 (omega arith), λ sure. fails.1 (text.stays_sure n sure)) in
    let asked_now : List Call → Type 0 = λ calls. g.I.Inputs.asked c.read_text.new.inputs calls c.read.new.inputs in
    let asked : List Call → Type 0 = λ calls. g.I.Inputs.asked c.args.inputs.now calls c.read.new.inputs in
    let ends = rw c.deref.ensures.value at c.in-Err.ensures.refused in
    stops (g.I.Inputs.told c.read_text.new.inputs) (g.I.Inputs.told c.args.inputs.now) text.tells failed_now failed asked_now asked
    (plain_ports c.args.ports.now) c.args.name.now c.in_ok-bytes.bytes.items _ c.in-Err.end text.given wide
    (λ calls made. g.met.I.Inputs.more_calls _ _ _ (given c.args.name.now ∷ []) calls text.asks made) c.status_of_end.ensures ends
