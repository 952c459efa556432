-- Counters are stepped once in each beat, so they are right in each step if they were in those before.
use Rattle.std.proofs.Common.{◌≡◌, ℕ, zero, suc, ◌+◌, ◌<◌, ◌≤◌, nat_lt, Bool, true, false, if◌then◌else◌, refl, sym, ap, subst, ◌∙◌, arith, List, map}
use Rattle.std.specs.List.{Contains}
use Rattle.sp_netlist.specs.Signals.{Signals}
use Rattle.sp_gates.specs.Tested.{is_on}
use Rattle.sp_core.specs.Scope.{Loop}
use Rattle.sp_counters.specs.declared.part.Counters.{Counters}
use Rattle.sp_counters.specs.declared.part.Counted.{Counted}
use Rattle.sp_counters.specs.Counting.{CountsGroups}
use Rattle.sp_counters.specs.Laws.{AreLoopsAt, AreAtGroup, steps_after}
use Rattle.sp_counters.proofs.Through.{run_through_groups}
use Rattle.sp_part_runs.specs.BodiesRuns.{IsOnAt}
use Rattle.sp_part_runs.specs.ControlParts.{Ran, Begins}
use Rattle.sp_part_runs.specs.SequencesChains.{At}
use Rattle.sp_part_runs.specs.SequencesRuns.{shape_of}
use Rattle.sp_part_runs.proofs.SequencesCycles.{mapped, unmapped, on_same}
use Rattle.sp_part_runs.specs.BeatsLaws.{BeatsWork, TellsMore}
use Rattle.sp_part_runs.specs.BeatsRuns.{BeatsRan, beats_of, beat_cycle, beat_lasts, beats_took, whole_run, AreInTurn, steps_in, step_cycle}
use Rattle.sp_part_runs.proofs.BeatsBeating.{no_later, no_start, no_step, step_at}
use Rattle.sp_part_runs.proofs.BeatsWhole.{loops_work}
use Rattle.sp_part_runs.specs.StepsLaws.{AreInSteps, CountedLoopsWork, CountersStep}

on_less : (wire : ℕ → Bool) (Holds : ℕ → Type 0) (n last : ℕ) → n ≤ last → IsOnAt wire Holds last → IsOnAt wire Holds n
on_less wire Holds n last l h = record { on = λ t m. h.on t (omega (arith, l, m)); only = λ t m. h.only t (omega (arith, l, m)) }

-- one step, and then none for some cycles
one_step : (step : ℕ → Bool) (begun m d : ℕ) → step (begun + suc m) ≡ true → ((w : ℕ) → begun + suc m < w → w ≤ begun + suc m + d → step w ≡ false) → steps_after step begun (m + suc d) ≡ suc (steps_after step begun m)
one_step step begun m zero t q = ap (steps_after step begun) {x = m + 1} {y = suc m} (omega arith) ∙ ap (λ b. if b then suc (steps_after step begun m) else steps_after step begun m) t
one_step step begun m (suc d) t q =
    let off : step (begun + suc (m + suc d)) ≡ false = q (begun + suc (m + suc d)) (omega arith) (omega arith) in
    ap (steps_after step begun) {x = m + suc (suc d)} {y = suc (m + suc d)} (omega arith)
    ∙ ap (λ b. if b then suc (steps_after step begun (m + suc d)) else steps_after step begun (m + suc d)) off ∙ one_step step begun m d t (λ w a l. q w a (omega (arith, l)))

module _ (s : Signals) (part : Counters) (nets : Counted) (shape : List (List ℕ)) (runs : List BeatsRan) (loops : BeatsRan → List Loop) (counts : CountsGroups s part nets) (turns : AreInTurn shape runs) (n : ℕ)
    (starts : IsOnAt (is_on s part.start) (At (λ (r : BeatsRan). r.cycle) runs) n) (steps : IsOnAt (is_on s part.step) (At (step_cycle shape) (steps_in shape runs)) n) (r : BeatsRan) (there : Contains runs r)
    (are : AreLoopsAt s r.cycle part.counters.items (loops r)) where
  -- as many steps as beats
  steps_are : (b : ℕ) → b ≤ beats_of shape r → beat_cycle shape b r ≤ suc n → steps_after (is_on s part.step) r.cycle (beats_took shape b r) ≡ b
  steps_are zero l m = refl
  steps_are (suc b) l m =
      let on : is_on s part.step (r.cycle + suc (beats_took shape b r)) ≡ true =
      ap (is_on s part.step) (let e : r.cycle + suc (beats_took shape b r) ≡ beat_cycle shape b r = omega arith in e) ∙ step_at shape runs turns (is_on s part.start) (is_on s part.step) n starts steps r b there (omega (arith, l)) (omega (arith, m)) in
      one_step (is_on s part.step) r.cycle (beats_took shape b r) (beat_lasts shape b r) on
      (λ w a z. no_step shape runs turns (is_on s part.start) (is_on s part.step) n starts steps r b w there (omega (arith, l)) (omega (arith, a)) (omega (arith, z)) (omega (arith, z, m)))
      ∙ ap suc (steps_are b (omega (arith, l)) (omega (arith, m)))

  at_group : (b : ℕ) → b ≤ beats_of shape r → beat_cycle shape b r ≤ suc n → AreAtGroup s part nets (loops r) b (beat_cycle shape b r)
  at_group b l m =
      let later = no_later shape runs turns r b l in
      subst (AreAtGroup s part nets (loops r) b) {x = r.cycle + 1 + beats_took shape b r} (omega arith)
      (subst (λ k. AreAtGroup s part nets (loops r) k (r.cycle + 1 + beats_took shape b r)) (steps_are b l m)
      (run_through_groups s part nets (loops r) r.cycle (beats_took shape b r) counts are (starts.on r.cycle (omega (arith, m)) (r, there, refl))
      (λ t a z. no_start shape runs turns (is_on s part.start) (is_on s part.step) n starts steps r t there a (omega (arith, z, later)) (omega (arith, z, m)))))

pub counters_step : CountersStep
counters_step s part nets shape runs loops last counts turns starts steps are r b there l m = at_group s part nets shape runs loops counts turns last starts steps r there (are r there (omega (arith, m))) b l m

pub counted_loops_work : CountedLoopsWork
counted_loops_work s part nets slots firsts done last runs loops counts goes turns starts are does = (all last (omega arith), works last (omega arith) (all last (omega arith)))
  where
    begins : (n : ℕ) → n ≤ last → IsOnAt (is_on s part.start) (Begins (map (whole_run (shape_of slots)) runs)) n
    begins n l = on_less (is_on s part.start) (Begins (map (whole_run (shape_of slots)) runs)) n last l starts

    cycles : (n : ℕ) → n ≤ last → IsOnAt (is_on s part.start) (At (λ (r : BeatsRan). r.cycle) runs) n
    cycles n l =
        on_same (is_on s part.start) (Begins (map (whole_run (shape_of slots)) runs)) (At (λ (r : BeatsRan). r.cycle) runs) n
        (λ t (x, i, e). let q = unmapped (whole_run (shape_of slots)) runs x i in let f = ap (λ (r : Ran). r.cycle) q.2 in (q.0, q.1, omega (arith, e, f)))
        (λ t (r, i, e). (whole_run (shape_of slots) r, mapped (whole_run (shape_of slots)) runs r i, e)) (begins n l)

    tells : (n : ℕ) → n ≤ last → AreInSteps s part nets loops (shape_of slots) runs n → TellsMore s nets.more slots n runs
    tells n l h r b i m o = (h r b i m o).more ∙ ap (nat_lt b) (sym (are r i (omega (arith, o, l))).1)

    works : (n : ℕ) → n ≤ last → AreInSteps s part nets loops (shape_of slots) runs n → BeatsWork s part.step slots firsts done n runs
    works n l h = loops_work s part.start nets.more part.step slots firsts done n runs goes turns (begins n l) (tells n l h) (does n l h)

    all : (n : ℕ) → n ≤ last → AreInSteps s part nets loops (shape_of slots) runs n
    all zero l = λ r b i m o. absurd (omega (arith, o))
    all (suc n) l =
        let m : n ≤ last = omega (arith, l) in
        let w = works n m (all n m) in
        λ r b i k o. at_group s part nets (shape_of slots) runs loops counts turns n (cycles n m) w.steps r i (are r i (omega (arith, o, l))).0 b k o
