use Rattle.std.proofs.Common.{ℕ, List}
use Rattle.sp_edges.specs.Calls.{Call}
use Rattle.sp_edges.specs.Counts.{Rose}
use Rattle.sp_top.proofs.CheckLemmas.{check_complete}
use Rattle.sp_top.proofs.BuildLemmas.{compile_complete}
use Rattle.sp_top.proofs.CompleteRuns.{HasLaws, simulation_complete, dump_complete}
use Rattle.sp_top.proofs.CompleteSeq.{HasSeqLaws, seq_complete, run_complete}
use Rattle.sp_top.proofs.top.spatialc.Goals as goal

-- what isn't refused follows from how the call may end
pub returns-clause-complete : goal.returns-clause-complete
returns-clause-complete g c = λ program bytes plain is sure holds small spells can.
    let failed : List ℕ → Type 0 =
    λ name. Rose (g.I.Inputs.faults c.args.inputs.now) (g.I.Inputs.faults c.answer.new.inputs) × (g.I.Inputs.sure c.args.inputs.now name → ⊥) in
    let read : failed program → ⊥ = λ f. f.1 sure in
    let asked : List Call → Type 0 = λ calls. g.I.Inputs.asked c.args.inputs.now calls c.answer.new.inputs in
    compile_complete c.spelled_texts_are_not_refused.ensures c.texts_spell_one_program.ensures _ failed asked program bytes plain _ _ _ _ c.answer.ensures is read holds small spells can

pub returns-clause-checks : goal.returns-clause-checks
returns-clause-checks g c = λ program bytes plain is sure holds small spells.
    let failed : List ℕ → Type 0 =
    λ name. Rose (g.I.Inputs.faults c.args.inputs.now) (g.I.Inputs.faults c.answer.new.inputs) × (g.I.Inputs.sure c.args.inputs.now name → ⊥) in
    let read : failed program → ⊥ = λ f. f.1 sure in
    let asked : List Call → Type 0 = λ calls. g.I.Inputs.asked c.args.inputs.now calls c.answer.new.inputs in
    check_complete c.spelled_texts_are_not_refused.ensures _ failed asked program bytes plain _ _ _ _ c.answer.ensures is read holds small spells

pub returns-clause-runs : goal.returns-clause-runs
returns-clause-runs g c = λ program setup plain plan is runnable.
    let failed : List ℕ → Type 0 =
    λ name. Rose (g.I.Inputs.faults c.args.inputs.now) (g.I.Inputs.faults c.answer.new.inputs) × (g.I.Inputs.sure c.args.inputs.now name → ⊥) in
    let asked : List Call → Type 0 = λ calls. g.I.Inputs.asked c.args.inputs.now calls c.answer.new.inputs in
    let laws : HasSeqLaws =
    record {
      texts = c.spelled_texts_are_not_refused.ensures;
      one_program = c.texts_spell_one_program.ensures;
      not_refused = c.setups_are_not_refused.ensures.refused;
      not_long = c.setups_are_not_refused.ensures.too_long;
      one_setup = c.setups_are_one.ensures;
    } in
    seq_complete laws (g.I.Inputs.told c.args.inputs.now) (g.I.Inputs.sure c.args.inputs.now) failed asked (λ name sure f. f.1 sure) program setup plain plan runnable _ _ _ _ c.answer.ensures is

pub returns-clause-runs_netlists : goal.returns-clause-runs_netlists
returns-clause-runs_netlists g c = λ program setup plain plan is runnable can.
    let failed : List ℕ → Type 0 =
    λ name. Rose (g.I.Inputs.faults c.args.inputs.now) (g.I.Inputs.faults c.answer.new.inputs) × (g.I.Inputs.sure c.args.inputs.now name → ⊥) in
    let asked : List Call → Type 0 = λ calls. g.I.Inputs.asked c.args.inputs.now calls c.answer.new.inputs in
    let laws : HasSeqLaws =
    record {
      texts = c.spelled_texts_are_not_refused.ensures;
      one_program = c.texts_spell_one_program.ensures;
      not_refused = c.setups_are_not_refused.ensures.refused;
      not_long = c.setups_are_not_refused.ensures.too_long;
      one_setup = c.setups_are_one.ensures;
    } in
    run_complete laws (g.I.Inputs.told c.args.inputs.now) (g.I.Inputs.sure c.args.inputs.now) failed asked (λ name sure f. f.1 sure) program setup plain plan runnable can _ _ _ _ c.answer.ensures is

pub returns-clause-simulates : goal.returns-clause-simulates
returns-clause-simulates g c = λ listing setup cells plain is runnable in_time.
    let failed : List ℕ → Type 0 =
    λ name. Rose (g.I.Inputs.faults c.args.inputs.now) (g.I.Inputs.faults c.answer.new.inputs) × (g.I.Inputs.sure c.args.inputs.now name → ⊥) in
    let asked : List Call → Type 0 = λ calls. g.I.Inputs.asked c.args.inputs.now calls c.answer.new.inputs in
    let laws : HasLaws =
    record {
      one_reading = c.listing_has_one_reading.ensures;
      breaks_nowhere = c.listing_breaks_nowhere.ensures;
      refusals_exact = c.refusals_exact.ensures;
      one_ending = c.one_ending.ensures;
      not_refused = c.setups_are_not_refused.ensures.refused;
      not_long = c.setups_are_not_refused.ensures.too_long;
      one_setup = c.setups_are_one.ensures;
    } in
    simulation_complete laws (g.I.Inputs.told c.args.inputs.now) (g.I.Inputs.sure c.args.inputs.now) failed asked (λ name sure f. f.1 sure) listing setup cells plain runnable _ _ _ _ c.answer.ensures is in_time

pub returns-clause-dumps : goal.returns-clause-dumps
returns-clause-dumps g c = λ listing setup cells plain is runnable.
    let failed : List ℕ → Type 0 =
    λ name. Rose (g.I.Inputs.faults c.args.inputs.now) (g.I.Inputs.faults c.answer.new.inputs) × (g.I.Inputs.sure c.args.inputs.now name → ⊥) in
    let asked : List Call → Type 0 = λ calls. g.I.Inputs.asked c.args.inputs.now calls c.answer.new.inputs in
    let laws : HasLaws =
    record {
      one_reading = c.listing_has_one_reading.ensures;
      breaks_nowhere = c.listing_breaks_nowhere.ensures;
      refusals_exact = c.refusals_exact.ensures;
      one_ending = c.one_ending.ensures;
      not_refused = c.setups_are_not_refused.ensures.refused;
      not_long = c.setups_are_not_refused.ensures.too_long;
      one_setup = c.setups_are_one.ensures;
    } in
    dump_complete laws (g.I.Inputs.told c.args.inputs.now) (g.I.Inputs.sure c.args.inputs.now) failed asked (λ name sure f. f.1 sure) listing setup cells plain runnable _ _ _ _ c.answer.ensures is
