-- A simulation tells how the netlist's run ends.
use Rattle.std.proofs.Common.{◌≡◌, ℕ, ◌+◌, ◌<◌, ◌≤◌, refl, sym, ap, ◌∙◌, subst, arith, ⊎_elim, Option, Some, None, IfNone, IfSome, unwrap_or}
use Rattle.std.proofs.lemmas.Bool.{cases_lt}
use Rattle.sp_netlist.specs.declared.cell.Port.{Port}
use Rattle.sp_netlist.specs.Rules.{IsNetlist}
use Rattle.sp_netlist.specs.Signals.{Setting, Signals}
use Rattle.sp_netlist.specs.Cycle.{GoesOn, EndsAs, Ends, done_in, conflict_in, not_yet, out_words, dram_lists}
use Rattle.sp_netlist.specs.Laws.{HasOneEnding, EndingKept}
use Rattle.sp_netlist.specs.Quiet.{IsQuiet, HasQuietRun}
use Rattle.sp_sim.specs.declared.state.State.{State}
use Rattle.sp_sim.specs.declared.program.Program.{Program}
use Rattle.sp_sim.specs.declared.state.Found.{Found}
use Rattle.sp_sim.specs.declared.state.Found.TheVariants.{Nothing, Over, Shared}
use Rattle.sp_sim.specs.declared.end.SimEnd.{SimEnd}
use Rattle.sp_sim.specs.declared.end.SimEnd.TheVariants.{Done, Conflict, CyclesSpent}
use Rattle.sp_sim.specs.States.{IsState, StandsIn, FoundIn, LookedIn, TurnedIn}
use Rattle.sp_sim.specs.Sims.{IsSim, EndedIn, end_of}
use Rattle.sp_sim.specs.Progress.{Progress, Tells, IsEndIn, StepsTo, PeeksAt, RunsTo}

-- how the run ends, by what is found in a cycle up to which it went on
found_ends : (g : Setting) (s : Signals) (cycle : ℕ) → ((t : ℕ) → t < cycle → GoesOn g s t) → FoundIn g s cycle Nothing → EndsAs g s cycle not_yet
found_ends g s cycle before found = λ t l. ⊎_elim (λ k. before t k) (λ k. subst (GoesOn g s) (omega arith) found) (cases_lt t cycle)

module _ (laws : HasOneEnding) (quiet : HasQuietRun) where
  -- nothing was found: the run goes on
  pub goes_tells : (g : Setting) → IsNetlist g.cells → (cycle : ℕ) → ((s : Signals) → IsQuiet g s → (t : ℕ) → t < cycle → GoesOn g s t) → ((s : Signals) → IsQuiet g s → GoesOn g s cycle) → Ends g cycle not_yet
  goes_tells g h cycle before found =
      let run = quiet g h in
      (laws g h cycle).of_run run.0 not_yet run.1.run (found_ends g run.0 cycle (before run.0 run.1) (found run.0 run.1))

  pub over_tells : (g : Setting) → IsNetlist g.cells → (cycle : ℕ) → ((s : Signals) → IsQuiet g s → (t : ℕ) → t < cycle → GoesOn g s t) → ((s : Signals) → IsQuiet g s → FoundIn g s cycle Over)
      → (s : Signals) × IsQuiet g s × Ends g cycle (done_in cycle (out_words g.cells (s.net cycle)) (dram_lists g.cells (s.dram cycle)))
  over_tells g h cycle before found =
      let run = quiet g h in
      let f = found run.0 run.1 in (
        run.0,
        run.1,
        (laws g h cycle).of_run run.0 (done_in cycle (out_words g.cells (run.0.net cycle)) (dram_lists g.cells (run.0.dram cycle))) run.1.run
            (omega arith, before run.0 run.1, f.0, f.1, refl, refl),
      )

  pub shared_tells : (g : Setting) → IsNetlist g.cells → (cycle bank : ℕ) (port : Port) → ((s : Signals) → IsQuiet g s → (t : ℕ) → t < cycle → GoesOn g s t) → ((s : Signals) → IsQuiet g s → FoundIn g s cycle (Shared bank port))
      → Ends g cycle (conflict_in cycle bank port)
  shared_tells g h cycle bank port before found =
      let run = quiet g h in
      (laws g h cycle).of_run run.0 (conflict_in cycle bank port) run.1.run (omega arith, before run.0 run.1, found run.0 run.1)

-- the next cycle
pub next_sim : (g : Setting) (program : Program) (cycle : ℕ) (old new : State) → IsSim g program cycle old None → IsState g.cells new → ((s : Signals) → IsQuiet g s → TurnedIn g s cycle new Nothing) → IsSim g program (cycle + 1) new None
next_sim g program cycle old new sim state turned = record {
  netlist = sim.netlist;
  given = sim.given;
  is_program = sim.is_program;
  is_state = state;
  went_on = λ s q t l. ⊎_elim (λ k. sim.went_on s q t k) (λ k. subst (GoesOn g s) (omega arith) (turned s q).0) (cases_lt t cycle);
  stands = λ s q. subst (λ n. StandsIn g s n new) (omega arith) (turned s q).1;
  ended = λ s q. tt;
}

-- the same cycle, with its end
pub ended_sim : (g : Setting) (program : Program) (cycle : ℕ) (old new : State) → IsSim g program cycle old None → IsState g.cells new → (found : Found) → ((s : Signals) → IsQuiet g s → LookedIn g s cycle new found) → IsSim g program cycle new (end_of cycle found)
ended_sim g program cycle old new sim state found looked = record {
  netlist = sim.netlist;
  given = sim.given;
  is_program = sim.is_program;
  is_state = state;
  went_on = sim.went_on;
  stands = λ s q. (looked s q).stands;
  ended = λ s q. ended found s q (looked s q);
}
  where
    ended : (f : Found) (s : Signals) → IsQuiet g s → LookedIn g s cycle new f → EndedIn g s cycle new (end_of cycle f)
    ended Nothing s q k = tt
    ended Over s q k = (refl, k)
    ended (Shared bank port) s q k = (refl, k)

-- what a step tells
pub step_tells : HasOneEnding → HasQuietRun → (g : Setting) (program : Program) (cycle : ℕ) (old new : State) → IsSim g program cycle old None → (found : Found) → ((s : Signals) → IsQuiet g s → TurnedIn g s cycle new found)
    → (end : SimEnd) → end_of cycle found ≡ Some end → Tells g cycle end × IsEndIn cycle end
step_tells laws quiet g program cycle old new sim Nothing turned end e = absurd (cc)
step_tells laws quiet g program cycle old new sim Over turned end e =
    let o = over_tells laws quiet g sim.netlist cycle sim.went_on (λ s q. (turned s q).found) in
    let same : Done cycle ≡ end = cc in
    subst (λ x. Tells g cycle x × IsEndIn cycle x) same ((_, _, o.2), refl)
step_tells laws quiet g program cycle old new sim (Shared bank port) turned end e =
    let same : Conflict cycle bank port ≡ end = cc in
    subst (λ x. Tells g cycle x × IsEndIn cycle x) same (shared_tells laws quiet g sim.netlist cycle bank port sim.went_on (λ s q. (turned s q).found), refl)

-- an end is found where something is
pub nothing_found : (cycle : ℕ) (found : Found) → end_of cycle found ≡ None → found ≡ Nothing
nothing_found cycle Nothing e = refl
nothing_found cycle Over e = absurd (cc)
nothing_found cycle (Shared bank port) e = absurd (cc)

pub turned_looked : (g : Setting) (s : Signals) (t cycle : ℕ) (state : State) (found : Found) (end : SimEnd) → end_of cycle found ≡ Some end → TurnedIn g s t state found → LookedIn g s t state found
turned_looked g s t cycle state Nothing end e k = absurd (cc)
turned_looked g s t cycle state Over end e k = k
turned_looked g s t cycle state (Shared bank port) end e k = k

pub looked_turned : (g : Setting) (s : Signals) (t : ℕ) (state : State) (found : Found) → (found ≡ Nothing → ⊥) → LookedIn g s t state found → TurnedIn g s t state found
looked_turned g s t state Nothing d k = absurd (d refl)
looked_turned g s t state Over d k = k
looked_turned g s t state (Shared bank port) d k = k

pub if_none : {X : Type 0} (o : Option X) (P : Type 0) → P → IfNone o P
if_none None P p = p
if_none (Some x) P p = tt

abbrev pub progress : Setting → ℕ → Option SimEnd → Progress
progress g cycle ended = record { setting = g; cycle = cycle; ended = ended }

-- a step that goes on
pub steps_on : HasOneEnding → HasQuietRun → (g : Setting) (program : Program) (cycle : ℕ) (old new : State) → IsSim g program cycle old None → ((s : Signals) → IsQuiet g s → TurnedIn g s cycle new Nothing)
    → (was now : Option SimEnd) → was ≡ None → now ≡ None → (result : Option SimEnd) → result ≡ None
    → StepsTo (record { setting = g; cycle = cycle; ended = was }) result (record { setting = g; cycle = cycle + 1; ended = now })
steps_on laws quiet g program cycle old new sim turned was now ew en result er =
    subst (λ r. StepsTo (record { setting = g; cycle = cycle; ended = was }) r (record { setting = g; cycle = cycle + 1; ended = now })) (sym er)
    (goes_tells laws quiet g sim.netlist cycle sim.went_on (λ s q. (turned s q).0), ap (progress g (cycle + 1)) en)

-- a step that ends
pub steps_end : HasOneEnding → HasQuietRun → (g : Setting) (program : Program) (cycle : ℕ) (old new : State) → IsSim g program cycle old None → (found : Found) → ((s : Signals) → IsQuiet g s → TurnedIn g s cycle new found)
    → (was : Option SimEnd) (result : Option SimEnd) (end : SimEnd) → result ≡ Some end → result ≡ end_of cycle found
    → StepsTo (record { setting = g; cycle = cycle; ended = was }) result (record { setting = g; cycle = cycle; ended = result })
steps_end laws quiet g program cycle old new sim found turned was result end er ef =
    let t = step_tells laws quiet g program cycle old new sim found turned end (sym ef ∙ er) in
    subst (λ r. StepsTo (record { setting = g; cycle = cycle; ended = was }) r (record { setting = g; cycle = cycle; ended = r })) (sym er) (t.0, t.1, refl)

-- what the parts tell of an end
pub ended_tells : HasOneEnding → HasQuietRun → (g : Setting) (program : Program) (cycle : ℕ) (state : State) (end : SimEnd) → IsSim g program cycle state (Some end) → Tells g cycle end × IsEndIn cycle end
ended_tells laws quiet g program cycle state (Done cycles) sim =
    let run = quiet g sim.netlist in
    let e = sim.ended run.0 run.1 in
    let o = over_tells laws quiet g sim.netlist cycle sim.went_on (λ s q. (sim.ended s q).1.found) in
    ((_, _, subst (λ n. Ends g cycle (done_in n (out_words g.cells (o.0.net cycle)) (dram_lists g.cells (o.0.dram cycle)))) (sym e.0) o.2), e.0)
ended_tells laws quiet g program cycle state (Conflict at bank port) sim =
    let run = quiet g sim.netlist in
    let e = sim.ended run.0 run.1 in
    (subst (λ n. Ends g cycle (conflict_in n bank port)) (sym e.0) (shared_tells laws quiet g sim.netlist cycle bank port sim.went_on (λ s q. (sim.ended s q).1.found)), e.0)
ended_tells laws quiet g program cycle state CyclesSpent sim = let run = quiet g sim.netlist in absurd (sim.ended run.0 run.1)

pub if_ended : HasOneEnding → HasQuietRun → (g : Setting) (program : Program) (cycle : ℕ) (state : State) (end : Option SimEnd) → IsSim g program cycle state end → IfSome end (λ e. Tells g cycle e × IsEndIn cycle e)
if_ended laws quiet g program cycle state None sim = tt
if_ended laws quiet g program cycle state (Some end) sim = ended_tells laws quiet g program cycle state end sim

-- what is looked at and not left
pub peeks : HasOneEnding → HasQuietRun → (g : Setting) (program : Program) (cycle : ℕ) (old new : State) → IsSim g program cycle old None → (found : Found) → ((s : Signals) → IsQuiet g s → LookedIn g s cycle new found)
    → PeeksAt (progress g cycle None) (end_of cycle found) (progress g cycle (end_of cycle found))
peeks laws quiet g program cycle old new sim Nothing looked = (goes_tells laws quiet g sim.netlist cycle sim.went_on (λ s q. (looked s q).found), refl)
peeks laws quiet g program cycle old new sim Over looked = let o = over_tells laws quiet g sim.netlist cycle sim.went_on (λ s q. (looked s q).found) in ((_, _, o.2), refl, refl)
peeks laws quiet g program cycle old new sim (Shared bank port) looked = (shared_tells laws quiet g sim.netlist cycle bank port sim.went_on (λ s q. (looked s q).found), refl, refl)

-- an end stays one for every later last cycle
pub tells_later : EndingKept → (g : Setting) (a b : ℕ) (end : SimEnd) → a ≤ b → IsEndIn a end → Tells g a end → Tells g b end
tells_later kept g a b (Done cycles) l e t = (t.0, t.1, kept.done g a b cycles t.0 t.1 (omega (arith, e, l)) t.2)
tells_later kept g a b (Conflict cycle bank port) l e t = kept.conflict g a b cycle bank port (omega (arith, e, l)) t
tells_later kept g a b CyclesSpent l e t = absurd e

pub runs_to_end : (g : Setting) (from cycle last : ℕ) (was : Option SimEnd) (end : SimEnd) (new : Progress) → IsEndIn cycle end → new ≡ progress g cycle (Some end) → RunsTo (progress g from was) last end new
runs_to_end g from cycle last was (Done cycles) new e same = same ∙ ap (λ n. progress g n (Some (Done cycles))) (sym e)
runs_to_end g from cycle last was (Conflict at bank port) new e same = same ∙ ap (λ n. progress g n (Some (Conflict at bank port))) (sym e)
runs_to_end g from cycle last was CyclesSpent new e same = absurd e

pub peek_tells : (g : Setting) (cycle : ℕ) (result : Option SimEnd) (new : Progress) → PeeksAt (progress g cycle None) result new → Tells g cycle (unwrap_or result CyclesSpent)
peek_tells g cycle None new p = p.0
peek_tells g cycle (Some end) new p = p.0
