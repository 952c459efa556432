-- A netlist that carries the core that is built of a program carries the program, and keeps to its cost.
use Rattle.std.proofs.Common.{◌≡◌, ℕ, zero, suc, ◌<◌, ◌≤◌, ◌+◌, max, true, List, [], ◌∷◌, map, length, slice_index_or, refl, sym, ap, subst, ◌∙◌, arith}
use Rattle.sp_words.specs.Ports.{PlainPorts, PlainInput}
use Rattle.std.specs.Prelude.{fold}
use Rattle.sp_netlist.specs.Cells.{PlainCell}
use Rattle.sp_netlist.specs.Cycle.{Ends, done_in}
use Rattle.sp_netlist.specs.Ports.{ports_of}
use Rattle.sp_tree.specs.Laws.{IsDecidedByTurns}
use Rattle.sp_tree.specs.Meaning as program
use Rattle.sp_tree.specs.Meaning.{seq}
use Rattle.sp_tree.specs.PlainProgram.{PlainProgram}
use Rattle.sp_tree.specs.Shape.{Shape}
use Rattle.sp_core.specs.Declarations.{dram_number}
use Rattle.sp_core.specs.Elements.{numbers_below}
use Rattle.std.specs.List.{All}
use Rattle.sp_core.specs.Events.{At}
use Rattle.sp_core.specs.History.{History}
use Rattle.sp_core.specs.Inputs.{InputFits}
use Rattle.sp_core.specs.Invariant.{IsCore}
use Rattle.sp_core.specs.Latency.{limit}
use Rattle.sp_core.specs.Cost.{core_cost}
use Rattle.sp_core.specs.Meaning.{Outcome, ended, outcome, out_words, dram_words, first_store, run_core}
use Rattle.sp_core.specs.Scope.{in_lanes, no_scope}
use Rattle.sp_core.specs.Shape.{shape_of}
use Rattle.sp_core.specs.PlainCore.{PlainCore}
use Rattle.sp_core.specs.Step.{went}
use Rattle.sp_core.specs.Store.{Store, words_of}
use Rattle.sp_sugar.specs.Core.{core_of}
use Rattle.sp_lanes.specs.Unrolled.{unrolled}
use Rattle.sp_patterns.specs.Patterns.{patterns_of}
use Rattle.sp_plan.specs.PlainPlan.{PlainPlan}
use Rattle.sp_plan.specs.Validity.{IsValid}
use Rattle.sp_plans.specs.Laws.{ChosenAreValid}
use Rattle.sp_overlap.specs.Whole.{IsTimed, IsByLane}
use Rattle.sp_overlap.proofs.Planned.{node_planned}
use Rattle.sp_machine.specs.Laws.{EndsInCost}
use Rattle.sp_machine.specs.Timeline.{core_timed}
use Rattle.sp_machine.specs.Told.{plan_timings}
use Rattle.sp_machine.specs.Transfers.{Delays}
use Rattle.sp_program_runs.specs.RunsLaws.{HasNarrowPlan, NarrowProgramRuns, NarrowRuns}
use Rattle.sp_stored_cores.specs.Closing.{RunsByPlan}
use Rattle.sp_lower.specs.Carries.{EndsInTime, CarriesCore}
use Rattle.sp_compile.specs.Choices.{lanes_of, built_core, IsPlanFor}
use Rattle.sp_build.specs.Buildable.{is_buildable}
use Rattle.sp_build.specs.Carries.{greatest_delay, FitsPorts, Carries}
use Rattle.sp_build.specs.Laws.{CoresCarryPrograms, CoresKeepCosts}
use Rattle.sp_build.proofs.Lowering.{Buildable, buildable, is_timed}

-- the ports of that core are the program's
ports_stay : (p : PlainProgram) → (built_core p).ports ≡ p.ports
unfolding unrolled core_of
ports_stay p = refl

fits_core : (p : PlainProgram) (input : PlainInput) → FitsPorts p.ports input → InputFits (core_of p) input
unfolding core_of
fits_core p input fits = record { args = fits.args; drams = fits.drams }

fits_lanes : (p : PlainProgram) (input : PlainInput) → FitsPorts p.ports input → InputFits (built_core p) input
unfolding unrolled core_of
fits_lanes p input fits = record { args = fits.args; drams = fits.drams }

-- what an ended run leaves
outs_left : (core : PlainCore) (h : History) (left : Store) (outs : List ℕ) (drams : List (List ℕ)) → outcome core (went h left) ≡ ended outs drams h → out_words core left ≡ outs
outs_left core h left outs drams e = ap outs_in e
  where
    outs_in : Outcome → List ℕ
    outs_in (ended a b c) = a
    outs_in _ = []

drams_left : (core : PlainCore) (h : History) (left : Store) (outs : List ℕ) (drams : List (List ℕ)) → outcome core (went h left) ≡ ended outs drams h → dram_words core left ≡ drams
drams_left core h left outs drams e = ap drams_in e
  where
    drams_in : Outcome → List (List ℕ)
    drams_in (ended a b c) = b
    drams_in _ = []

-- no transfer waits
abbrev pub none_waits : Delays
none_waits k path ask = 0

-- each delay of a list is no greater than the greatest
over_first : (acc : ℕ) (ns : List ℕ) → acc ≤ fold max acc ns
over_first acc [] = omega arith
over_first acc (n ∷ ns) = let a : max acc n ≤ fold max (max acc n) ns = over_first (max acc n) ns in omega arith

over_each : (acc : ℕ) (ns : List ℕ) (k x : ℕ) → k < length ns → slice_index_or ns k x ≤ fold max acc ns
over_each acc [] k x l = absurd (omega (arith, l))
over_each acc (n ∷ ns) zero x l = let a : max acc n ≤ fold max (max acc n) ns = over_first (max acc n) ns in omega arith
over_each acc (n ∷ ns) (suc k) x l = over_each (max acc n) ns k x (omega (arith, l))

below_greatest : (xs : List ℕ) → All (λ e. e ≤ greatest_delay xs) xs
below_greatest xs k x l = over_each 0 xs k x l

-- a run of it, from an input that fits
found_run : (p : PlainProgram) (plan : PlainPlan) → ChosenAreValid → IsCore (built_core p) → IsByLane (built_core p) (built_core p).root → (planned : IsPlanFor (built_core p) plan) → is_buildable (built_core p) ≡ true
    → (n : ℕ) (input : PlainInput) (h : History) (left : Store) → FitsPorts p.ports input → run_core in_lanes n (built_core p) input ≡ went h left → RunsByPlan (built_core p) plan input h left
found_run p plan valid is by planned built n input h left fits ran =
    record {
      meets = planned.meets;
      meets_are = planned.are_meets;
      planned = record { is_core = is; is_timed = is_timed p built; by_lane = by; valid = valid (built_core p) (patterns_of (built_core p)) planned.meets plan is planned.is_planned };
      fits = fits_lanes p input fits;
      turns = n;
      ran = ran;
    }

less : (took most : ℕ) → took + 2 ≤ most → took ≤ most
less took most h = omega (arith, h)

-- a run has one history
one_history : (h k : History) (s t : Store) → went h s ≡ went k t → h ≡ k
one_history h k s t e = cc e

ends_as : (cells : List PlainCell) (input : PlainInput) (delays : List ℕ) (most cycle : ℕ) (outs given : List ℕ) (drams found : List (List ℕ)) → given ≡ outs → found ≡ drams
    → Ends (record { cells = cells; args = input.args; drams = input.drams; delays = delays }) most (done_in cycle given found) → Ends (record { cells = cells; args = input.args; drams = input.drams; delays = delays }) most (done_in cycle outs drams)
ends_as cells input delays most cycle outs given drams found e f ends =
    subst (λ ds. Ends (record { cells = cells; args = input.args; drams = input.drams; delays = delays }) most (done_in cycle outs ds)) f
    (subst (λ ws. Ends (record { cells = cells; args = input.args; drams = input.drams; delays = delays }) most (done_in cycle ws found)) e ends)

pub carried : (p : PlainProgram) (plan : PlainPlan) → ChosenAreValid → IsCore (built_core p) → IsByLane (built_core p) (built_core p).root → ((input : PlainInput) → IsDecidedByTurns p input) → ((delays : Delays) (delay : ℕ) → NarrowProgramRuns p plan delays delay) → CoresCarryPrograms p plan
carried p plan valid is by decided runs planned h cells carries = record {
  ports = carries.ports ∙ ports_stay p;
  carries = λ input delays n outs drams turns shape fits e. (
      let core = built_core p in
      let delay = greatest_delay delays in
      let has : HasNarrowPlan p planned.meets plan = record { is_timed = is_timed p h; meets_are = planned.are_meets; is_chosen = planned.is_planned } in
      let r : NarrowRuns p plan none_waits delay input n turns outs drams = runs none_waits delay planned.meets has (λ k path ask. omega arith) n input (fits_core p input fits) outs drams turns shape e in
      let c : EndsInTime core plan cells input r.history r.left delays (limit n delay (lanes_of p)) = carries.carries input r.history r.left (found_run p plan valid is by planned h n input r.history r.left fits r.ran) delays (limit n delay (lanes_of p)) in
      let again : NarrowRuns p plan c.timing delay input n turns outs drams = runs c.timing delay planned.meets has (c.small delay (below_greatest delays)) n input (fits_core p input fits) outs drams turns shape e in
      let within = subst (λ (x : History). (core_timed core plan c.timing x).took + 2 ≤ limit n delay (lanes_of p)) (one_history again.history r.history again.left r.left (sym again.ran ∙ r.ran)) (again.ends n ((decided input).ends n outs drams turns shape e).0) in
      let took = (core_timed core plan c.timing r.history).took in
      let ends = c.ends (limit n delay (lanes_of p)) (less took (limit n delay (lanes_of p)) within) (less took (limit n delay (lanes_of p)) within) in
      (took, ends_as cells input delays (limit n delay (lanes_of p)) took outs (out_words core r.left) drams (dram_words core r.left) (outs_left core r.history r.left outs drams r.words) (drams_left core r.history r.left outs drams r.words) ends));
}

cost_of_run : (p : PlainProgram) (plan : PlainPlan) (timing : Delays) (d : ℕ) → ((k : ℕ) (path : List At) (ask : ℕ) → timing k path ask ≤ d) → EndsInCost (built_core p) plan timing d → IsTimed (built_core p).root → (forms : _) (meets : _) → IsValid (built_core p) forms meets plan
    → (n : ℕ) (input : PlainInput) (h : History) (left : Store) → run_core in_lanes n (built_core p) input ≡ went h left
    → (core_timed (built_core p) plan timing h).took + 2 ≤ core_cost (built_core p) (plan_timings plan) d (shape_of (built_core p).root h)
unfolding run_core
cost_of_run p plan timing d small ends timed forms meets valid n input h left ran =
    ends small (node_planned (built_core p) forms meets plan (built_core p).root 0 0 timed valid.kinds) n no_scope (first_store (built_core p) input) left h ran

pub cost_kept : (p : PlainProgram) (plan : PlainPlan) → ChosenAreValid → IsCore (built_core p) → IsByLane (built_core p) (built_core p).root → ((delays : Delays) (d : ℕ) → EndsInCost (built_core p) plan delays d) → CoresKeepCosts p plan
cost_kept p plan valid is by costs planned built cells carries = record {
  within = λ input delays n h left fits ran. (
      let core = built_core p in
      let delay = greatest_delay delays in
      let most = core_cost core (plan_timings plan) delay (shape_of core.root h) in
      let c : EndsInTime core plan cells input h left delays most = carries.carries input h left (found_run p plan valid is by planned built n input h left fits ran) delays most in
      let took = (core_timed core plan c.timing h).took in
      let cost = cost_of_run p plan c.timing delay (c.small delay (below_greatest delays)) (costs c.timing delay) (is_timed p built) (patterns_of (built_core p)) planned.meets (valid core (patterns_of (built_core p)) planned.meets plan is planned.is_planned) n input h left ran in
      (took, cost, c.ends took (less took most cost) (omega arith)));
}
