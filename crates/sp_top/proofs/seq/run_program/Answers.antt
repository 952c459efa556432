use Rattle.std.proofs.Common.{arith, ℕ, List, ◌∷◌, [], inl, inr}
use Rattle.sp_edges.specs.Calls.{Call, given}
use Rattle.sp_edges.specs.Counts.{Rose}
use Rattle.sp_edges.specs.Laws.{Rose-within}
use Rattle.sp_edges.specs.Standing.{Standing}
use Rattle.sp_tree.specs.ProgramParts.{plain_program}
use Rattle.sp_setup.specs.Setup.{plain_setup}
use Rattle.sp_top.specs.Status.{plain_status}
use Rattle.sp_top.specs.declared.status.Status.{Status}
use Rattle.sp_top.specs.Seq.{StopsBy, RunRefuses}
use Rattle.sp_top.proofs.SimulateLemmas.{passed_on, SetupRefuses-wide, GivesSetup-wide}
use Rattle.sp_top.proofs.seq.run_program.Goals as goal

-- the setup is refused
pub returns-in_err-plan-clause-refused : goal.returns-in_err-plan-clause-refused
returns-in_err-plan-clause-refused g c =
    let first = c.in_ok-tree.ensures in
    let told_now : List ℕ → Standing = g.I.Inputs.told c.read_program.new.inputs in
    let told : List ℕ → Standing = g.I.Inputs.told c.args.inputs.now in
    let failed_now : List ℕ → Type 0 =
    λ name. Rose (g.I.Inputs.faults c.read_program.new.inputs) (g.I.Inputs.faults c.read_setup.new.inputs) × (g.I.Inputs.sure c.read_program.new.inputs name → ⊥) in
    let failed : List ℕ → Type 0 =
    λ name. Rose (g.I.Inputs.faults c.args.inputs.now) (g.I.Inputs.faults c.read_setup.new.inputs) × (g.I.Inputs.sure c.args.inputs.now name → ⊥) in
    let wide : (n : List ℕ) → failed_now n → failed n =
    λ n fails. (Rose-within _ _ _ _ first.counts fails.0 (omega arith), λ sure. fails.1 (first.stays_sure n sure)) in
    let asked_now : List Call → Type 0 = λ calls. g.I.Inputs.asked c.read_program.new.inputs calls c.read_setup.new.inputs in
    let asked : List Call → Type 0 = λ calls. g.I.Inputs.asked c.args.inputs.now calls c.read_setup.new.inputs in
    let P : Status → Type 0 = λ status. RunRefuses (StopsBy c.args.run) told failed asked c.args.program.now c.args.setup.now (plain_status status) in
    let h : P c.in_err-plan.field-0.0 =
    inr (inl (record {
      program = plain_program c.in_ok-tree.tree;
      gives_program = first.given;
      refuses = SetupRefuses-wide told_now told first.tells failed_now failed asked_now (λ calls. asked (given c.args.program.now ∷ calls)) c.in_ok-tree.tree.ports c.args.setup.now
          (plain_status c.in_err-plan.field-0.0) wide (λ calls made. g.met.I.Inputs.more_calls _ _ _ (given c.args.program.now ∷ []) calls first.asks made) c.in_err-plan.ensures.refused;
    })) in
    passed_on c.from_residual-in_err-plan.result c.in_err-plan.field-0.0 _ P c.from_residual-in_err-plan.ensures.1 (λ y p. p) h

-- the run isn't done
pub returns-in_err-texts-clause-refused : goal.returns-in_err-texts-clause-refused
returns-in_err-texts-clause-refused g c =
    let first = c.in_ok-tree.ensures in
    let told_now : List ℕ → Standing = g.I.Inputs.told c.read_program.new.inputs in
    let told : List ℕ → Standing = g.I.Inputs.told c.args.inputs.now in
    let failed : List ℕ → Type 0 =
    λ name. Rose (g.I.Inputs.faults c.args.inputs.now) (g.I.Inputs.faults c.read_setup.new.inputs) × (g.I.Inputs.sure c.args.inputs.now name → ⊥) in
    let asked_now : List Call → Type 0 = λ calls. g.I.Inputs.asked c.read_program.new.inputs calls c.read_setup.new.inputs in
    let asked : List Call → Type 0 = λ calls. g.I.Inputs.asked c.args.inputs.now calls c.read_setup.new.inputs in
    let P : Status → Type 0 = λ status. RunRefuses (StopsBy c.args.run) told failed asked c.args.program.now c.args.setup.now (plain_status status) in
    let h : P c.in_err-texts.field-0.0 =
    inr (inr (record {
      program = plain_program c.in_ok-tree.tree;
      plain = plain_setup c.in_ok-plan.plan;
      is_given = record {
        gives_program = first.given;
        gives_setup = GivesSetup-wide told_now told first.tells asked_now (λ calls. asked (given c.args.program.now ∷ calls)) c.in_ok-tree.tree.ports c.args.setup.now _
            (λ calls made. g.met.I.Inputs.more_calls _ _ _ (given c.args.program.now ∷ []) calls first.asks made) c.in_ok-plan.ensures.given;
      };
      stops = c.in_err-texts.ensures.refused;
    })) in
    passed_on c.from_residual-in_err-texts.result c.in_err-texts.field-0.0 _ P c.from_residual-in_err-texts.ensures.1 (λ y p. p) h

pub returns-clause-done : goal.returns-clause-done
returns-clause-done g c =
    let first = c.in_ok-tree.ensures in
    let told_now : List ℕ → Standing = g.I.Inputs.told c.read_program.new.inputs in
    let told : List ℕ → Standing = g.I.Inputs.told c.args.inputs.now in
    let asked_now : List Call → Type 0 = λ calls. g.I.Inputs.asked c.read_program.new.inputs calls c.read_setup.new.inputs in
    let asked : List Call → Type 0 = λ calls. g.I.Inputs.asked c.args.inputs.now calls c.read_setup.new.inputs in record {
      program = plain_program c.in_ok-tree.tree;
      plain = plain_setup c.in_ok-plan.plan;
      is_given = record {
        gives_program = first.given;
        gives_setup = GivesSetup-wide told_now told first.tells asked_now (λ calls. asked (given c.args.program.now ∷ calls)) c.in_ok-tree.tree.ports c.args.setup.now _
            (λ calls made. g.met.I.Inputs.more_calls _ _ _ (given c.args.program.now ∷ []) calls first.asks made) c.in_ok-plan.ensures.given;
      };
      are_texts = c.in_ok-texts.ensures.texts;
    }
