-- The loops of the runs of an outer body, and what its counters are in its steps.
use Rattle.std.proofs.Common.{◌≡◌, ℕ, zero, suc, ◌≤◌, ◌==◌, true, false, List, [], ◌∷◌, map, length, refl, sym, ap, subst, ◌∙◌, arith}
use Rattle.std.specs.List.{Contains, AllZip}
use Rattle.std.proofs.lemmas.Bool.{eq-eqb, ne_eqb}
use Rattle.sp_words.specs.declared.kind.Style.{Style}
use Rattle.sp_netlist.specs.declared.parts.Child.{Child}
use Rattle.sp_netlist.specs.Signals.{Signals}
use Rattle.sp_core.specs.Around.{Around, Near}
use Rattle.sp_core.specs.Events.{inside_at, before, bounds_moments}
use Rattle.sp_core.specs.History.{History, outer_ran}
use Rattle.sp_core.specs.Invariant.{IsRight}
use Rattle.sp_core.specs.Numbering.{number_count}
use Rattle.sp_core.specs.PlainCore.{PlainCounter, PlainNode, PlainStages, outer, PlainCore}
use Rattle.sp_core.specs.Scope.{Loop, in_lanes, group_values}
use Rattle.sp_fitting.specs.Fitting.{HistoryFits}
use Rattle.sp_counters.specs.declared.part.Count.{Count}
use Rattle.sp_counters.specs.Laws.{AreLoopsAt}
use Rattle.sp_part_runs.specs.BeatsLaws.{TellsMore}
use Rattle.sp_part_runs.specs.BeatsRuns.{BeatsRan}
use Rattle.sp_part_runs.specs.SequencesRuns.{shape_of}
use Rattle.sp_part_runs.specs.StepsLaws.{AreInSteps}
use Rattle.sp_plan.specs.PlainPlan.{PlainPlan}
use Rattle.sp_machine.specs.Stamps.{Stamped}
use Rattle.sp_machine.specs.Timeline.{timed}
use Rattle.sp_machine.specs.Transfers.{Delays}
use Rattle.sp_overlap.specs.Whole.{IsTimed}
use Rattle.sp_node_runs.specs.Runs.{Placed, AreWithin, over_at, events_of}
use Rattle.sp_node_runs.specs.RunsTold.{all_events}
use Rattle.sp_node_runs.specs.ControlBeating.{AreOuters, rows_of, beats_ran, TakeTime, LoopGoes}
use Rattle.sp_node_runs.specs.ControlLaws.{IsStarted}
use Rattle.sp_node_runs.specs.ControlRuns.{rans}
use Rattle.sp_node_runs.specs.FitsLaws.{AllFit}
use Rattle.sp_node_runs.proofs.FitsTakes.{took_some}
use Rattle.sp_node_runs.specs.BodiesBounds.{AreBoundNets}
use Rattle.sp_node_runs.specs.BodiesGiven.{Nets, AreStanding}
use Rattle.sp_node_runs.specs.BodiesRows.{TookBounds}
use Rattle.sp_node_runs.specs.BodiesTold.{AreAnsweredInTime}
use Rattle.sp_node_runs.proofs.BodiesListed.{none_there, mapped_to, mapped_from}
use Rattle.sp_tree_runs.specs.BodiesDone.{BoundsDone, AllDone}
use Rattle.sp_tree_runs.specs.BodiesLanes.{loops_ran}
use Rattle.sp_tree_runs.specs.BodiesScoped.{Scoped, placed}
use Rattle.sp_tree_circuits.specs.Circuits.{Circuit}
use Rattle.sp_tree_circuits.specs.Answers.{EachBound}
use Rattle.sp_tree_circuits.proofs.Bodies.{taken_first, bound_nets, stands_first, happens_in}
use Rattle.sp_tree_circuits.specs.Given.{Laws}
use Rattle.sp_tree_circuits.proofs.Inside.{inside}
use Rattle.sp_tree_circuits.proofs.Ready.{Ready}
use Rattle.sp_tree_circuits.proofs.Sides.{done_of, fit_of}

-- by the cycle in which a run begins
abbrev pub loops_at : List PlainCounter → List Scoped → BeatsRan → List Loop
loops_at counters [] b = []
loops_at counters (q ∷ qs) b = elim (q.run.cycle == b.cycle) [ true ↦ loops_ran counters q.run.history | false ↦ loops_at counters qs b ]

zip_length : {A B : Type 0} (P : A → B → Type 0) (xs : List A) (ys : List B) → AllZip P xs ys → length ys ≡ length xs
zip_length P [] [] h = refl
zip_length P [] (y ∷ ys) h = elim h [ ]
zip_length P (x ∷ xs) [] h = elim h [ ]
zip_length P (x ∷ xs) (y ∷ ys) h = ap suc (zip_length P xs ys h.1)

module _ (core : PlainCore) (plan : PlainPlan) (delays : Delays) (counters : List PlainCounter) (style : Style) (owned : List ℕ) (stages : PlainStages) (k n : ℕ) (is : IsTimed (outer counters style owned stages)) where
  loops_found : (from until : ℕ) (qs : List Scoped) → AreWithin core plan delays (outer counters style owned stages) k n from until (placed qs) → AllFit core plan delays (outer counters style owned stages) (placed qs) → (q : Scoped) → Contains qs q
      → (b : BeatsRan) → b.cycle ≡ q.run.cycle → loops_at counters qs b ≡ loops_ran counters q.run.history
  loops_found from until [] w f q c b same = absurd (none_there q c)
  loops_found from until (x ∷ qs) w f q (zero, l, e) b same =
      ap (λ t. elim t as (λ _. List Loop) [ true ↦ loops_ran counters x.run.history | false ↦ loops_at counters qs b ]) (eq-eqb x.run.cycle b.cycle (ap (λ (y : Scoped). y.run.cycle) e ∙ sym same)) ∙ ap (λ (y : Scoped). loops_ran counters y.run.history) e
  loops_found from until (x ∷ qs) w f q (suc i, l, e) b same =
      ap (λ t. elim t as (λ _. List Loop) [ true ↦ loops_ran counters x.run.history | false ↦ loops_at counters qs b ])
      (ne_eqb x.run.cycle b.cycle (λ z.
      let r = inside core plan delays (outer counters style owned stages) k n (over_at core plan delays (outer counters style owned stages) k n x.run) until (placed qs) w.1 q.run (mapped_to (λ (y : Scoped). y.run) qs q (i, omega (arith, l), e)) in
      let a = r.0 in
      let t = took_some core plan delays (outer counters style owned stages) k n x.run.standing x.run.copies x.run.history is f.0 in
      absurd (omega (arith, a, t, z, same))))
      ∙ loops_found (over_at core plan delays (outer counters style owned stages) k n x.run) until qs w.1 f.1 q (i, omega (arith, l), e) b same

module _ (core : PlainCore) (plan : PlainPlan) (delays : Delays) (laws : Laws core plan delays) (s : Signals) (events : List Stamped) (last : ℕ) (near : List Near) (env : Nets) (around : Around) (earlier : List ℕ) (k n : ℕ) (counters : List PlainCounter) (style : Style) (owned : List ℕ) (stages : PlainStages)
    (right : IsRight core around earlier (outer counters style owned stages)) (is : IsTimed (outer counters style owned stages)) (c : Child) (w : Circuit core plan s (outer counters style owned stages) near env k c)
    (answered : EachBound core plan s (AreAnsweredInTime s events last) near env w.draft n counters w.part.counters.items w.bounds) (qs : List Scoped) (t : ℕ) (le : t ≤ last) (ready : Ready core plan delays s events (outer counters style owned stages) near env k n qs t) where
  abbrev pub whole : PlainNode
  whole = outer counters style owned stages

  abbrev pub ran : Placed → BeatsRan
  ran r = beats_ran core plan delays k n counters owned stages w.places r

  pub outers : AreOuters (placed qs)
  outers = (laws.fits.outers k n counters style owned stages (placed qs) ready.did.fits).0

  pub takes : TakeTime core plan delays k n counters owned stages w.places (placed qs)
  takes = laws.takes k n counters style owned stages w.places (placed qs) ready.did.fits is.1 w.arranged w.size

  pub found : (q : Scoped) → Contains qs q → loops_at counters qs (ran q.run) ≡ loops_ran counters q.run.history
  found q there = loops_found core plan delays counters style owned stages k n is ready.from ready.until qs ready.did.in_turn ready.did.fits q there (ran q.run) refl

  took_one : (q : Scoped) (h : History) (loops : List Loop) → loops ≡ loops_ran counters h → q.run.history ≡ h → AllDone in_lanes whole q.scope h → TookBounds counters q.run loops
  took_one q (outer_ran bs counts groups) loops same eq done = record { bounds = bs; counts = counts; groups = groups; is = eq; each = zip_length (BoundsDone q.scope) counters bs done.0; loops_are = same }
  took_one q h loops same eq done = elim done [ ]

  pub took : (r : Placed) → Contains (placed qs) r → TookBounds counters r (loops_at counters qs (ran r))
  took r there =
      let x = mapped_from (λ (q : Scoped). q.run) qs r there in
      subst (λ (r : Placed). TookBounds counters r (loops_at counters qs (ran r))) x.2 (took_one x.0 x.0.run.history (loops_at counters qs (ran x.0.run)) (found x.0 x.1) refl (done_of whole qs ready.did.done x.0 x.1))

  pub lengths : (r : Placed) → Contains (placed qs) r → length (rows_of core plan delays k n counters owned stages w.places r) ≡ length (group_values (loops_at counters qs (ran r)))
  lengths r there =
      let x = mapped_from (λ (q : Scoped). q.run) qs r there in
      subst (λ (r : Placed). length (rows_of core plan delays k n counters owned stages w.places r) ≡ length (group_values (loops_at counters qs (ran r)))) x.2
      ((laws.groups k n counters style owned stages w.places x.0 (done_of whole qs ready.did.done x.0 x.1)).groups ∙ ap (λ ls. length (group_values ls)) (sym (found x.0 x.1)))

  abbrev own : List Stamped
  own = all_events core plan delays whole k n (placed qs)

  one_loops : (counts : List Count) → AreBoundNets s w.draft own t near env n counters counts → (q : Scoped) (h : History) → AllDone in_lanes whole q.scope h → HistoryFits core whole h
      → ((x : Stamped) → Contains (events_of core plan delays whole k n (record q.run { history = h })) x → Contains own x) → AreStanding s q.run.cycle near env q.scope → q.run.cycle ≤ t → AreLoopsAt s q.run.cycle counts (loops_ran counters h)
  unfolding timed
  one_loops counts nets q (outer_ran bs counts_had groups) done fits sub stand l =
      laws.bounds s w.draft own t near env n counters counts q.scope (inside_at q.run.standing k before []) q.run.copies bs q.run.cycle w.runs_on l nets (laws.done.loops around earlier counters style owned stages q.scope bs counts_had groups right fits done) stand
      (λ x h. sub x (taken_first q.run.cycle q.run.copies (bounds_moments n (inside_at q.run.standing k before []) counters bs) _ x h))
  one_loops counts nets q h done fits sub stand l = elim done [ ]

  pub are_loops : (r : Placed) → Contains (placed qs) r → r.cycle ≤ t → AreLoopsAt s r.cycle w.part.counters.items (loops_at counters qs (ran r))
  are_loops r there l =
      let x = mapped_from (λ (q : Scoped). q.run) qs r there in
      let nets = bound_nets core plan delays laws s events last t le near env own n (number_count whole) ready.told w.draft n counters w.part.counters.items w.bounds answered in
      subst (λ (r : Placed). r.cycle ≤ t → AreLoopsAt s r.cycle w.part.counters.items (loops_at counters qs (ran r))) x.2
      (λ l. subst (AreLoopsAt s x.0.run.cycle w.part.counters.items) (sym (found x.0 x.1))
      (one_loops w.part.counters.items nets x.0 x.0.run.history (done_of whole qs ready.did.done x.0 x.1) (fit_of core plan delays whole qs ready.did.fits x.0 x.1)
      (λ y h. happens_in core plan delays laws s events last t le near env whole k n qs x.0 x.1 y h) (stands_first core plan delays laws s events last t le near env whole k n qs is ready x.0 x.1 l) l)) l

  -- what the counters are in the steps up to a cycle, and what they tell
  abbrev pub Stepping : (m : ℕ) → Type 0
  Stepping m = AreInSteps s w.part w.nets (loops_at counters qs) (shape_of w.slots) (map ran (placed qs)) m × TellsMore s w.nets.more w.slots m (map ran (placed qs))

  abbrev pub Looping : (m : ℕ) → Type 0
  Looping m = LoopGoes core plan delays k n counters owned stages w.places s w.part.step w.slots w.firsts c.done m style (placed qs)

  pub none_stepped : Stepping 0
  none_stepped = (λ r b there few l. absurd (omega (arith, l)), λ r b there few l. absurd (omega (arith, l)))

  pub next_stepped : (m : ℕ) → m ≤ t → IsStarted s c.start (rans core plan delays whole k n (placed qs)) m → Looping m → Stepping (suc m)
  next_stepped m l started g =
      laws.tell s w.part w.nets w.slots m k n counters style owned stages w.places ready.from ready.until (placed qs) (loops_at counters qs) w.counts outers ready.did.in_turn w.arranged w.shaped takes
      (subst (λ net. IsStarted s net (rans core plan delays whole k n (placed qs)) m) (sym w.start) started) g.steps (λ r there a. are_loops r there (omega (arith, a, l))) lengths
