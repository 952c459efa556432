-- What stands around the stages of a loop in beats, up to the cycle after those in which its steps are right.
use Rattle.std.proofs.Common.{◌≡◌, ℕ, suc, ◌+◌, ◌<◌, ◌≤◌, ℤ, List, [], ◌∷◌, map, length, take, drop, slice_index_or, refl, sym, ap, subst, ◌∙◌, arith}
use Rattle.std.specs.List.{Contains}
use Rattle.sp_words.specs.declared.kind.Style.{Style}
use Rattle.sp_netlist.specs.declared.parts.Child.{Child}
use Rattle.sp_netlist.specs.Signals.{Signals}
use Rattle.sp_gates.specs.Tested.{is_on}
use Rattle.sp_core.specs.Around.{Around, Near}
use Rattle.sp_core.specs.History.{History, outer_ran}
use Rattle.sp_core.specs.Invariant.{IsRight}
use Rattle.sp_core.specs.Numbering.{counters_size}
use Rattle.sp_core.specs.PlainCore.{PlainCounter, PlainStages, outer, PlainCore}
use Rattle.sp_core.specs.Scope.{Scope, group_values, in_group}
use Rattle.sp_part_runs.specs.BodiesRuns.{IsOnAt}
use Rattle.sp_part_runs.specs.BeatsRuns.{steps_in, step_cycle}
use Rattle.sp_part_runs.specs.StepsLaws.{AreInSteps}
use Rattle.sp_part_runs.specs.SequencesChains.{At}
use Rattle.sp_part_runs.specs.SequencesPlaces.{stage_at as stage_in, IsPlace}
use Rattle.sp_plan.specs.PlainPlan.{PlainPlan, node_plan}
use Rattle.sp_plan.specs.Validity.{stage_count}
use Rattle.sp_time.specs.Beats.{Slot, slot_at, took_at}
use Rattle.sp_machine.specs.Stamps.{Stamped}
use Rattle.sp_machine.specs.Timeline.{slots_of}
use Rattle.sp_machine.specs.Transfers.{Delays}
use Rattle.sp_overlap.specs.Whole.{IsTimed}
use Rattle.sp_node_runs.specs.Runs.{Placed, over_at, stage_at, node_at, number_at, stage_runs}
use Rattle.sp_node_runs.specs.ControlBeating.{rows_of}
use Rattle.sp_node_runs.specs.Bodies.{group_scope}
use Rattle.sp_node_runs.specs.BodiesGiven.{Nets, with_nets, AreStanding}
use Rattle.sp_node_runs.specs.BodiesLaws.{own_near}
use Rattle.sp_node_runs.specs.BodiesTold.{AreAnsweredInTime}
use Rattle.sp_node_runs.specs.BodiesRows.{with_row, IsInStage}
use Rattle.sp_node_runs.proofs.BodiesListed.{mapped_to, mapped_from}
use Rattle.sp_tree_runs.specs.BodiesLanes.{loops_ran}
use Rattle.sp_tree_runs.specs.BodiesScoped.{Scoped, placed, scoped_stages}
use Rattle.sp_tree_runs.specs.BodiesScopes.{scopes_of}
use Rattle.sp_tree_circuits.specs.Circuits.{slot_nets, TakesWords, TakeWords, Circuit}
use Rattle.sp_tree_circuits.specs.Answers.{EachBound}
use Rattle.sp_tree_circuits.specs.Laws.{StandAround}
use Rattle.sp_tree_circuits.specs.Given.{Laws}
use Rattle.sp_tree_circuits.proofs.Inside.{inside, alone}
use Rattle.sp_tree_circuits.proofs.Looping.{ran, outers, takes, found, took, Stepping, Looping, loops_at}
use Rattle.sp_tree_circuits.proofs.Ready.{Ready}
use Rattle.sp_tree_circuits.proofs.StageRuns.{OfRun, of_run}
use Rattle.sp_tree_circuits.proofs.Stages.{has_place}
use Rattle.sp_tree_circuits.proofs.Words.{row_at}

-- without counters nothing else stands inside of a loop than around it
no_scope : (scope : Scope) (h : History) (v : List ℤ) → in_group scope (loops_ran [] h) v ≡ scope
no_scope scope (outer_ran bs counts groups) v = refl
no_scope scope h v = refl

module _ (core : PlainCore) (plan : PlainPlan) (delays : Delays) (laws : Laws core plan delays) (s : Signals) (events : List Stamped) (last : ℕ) (near : List Near) (env : Nets) (around : Around) (earlier : List ℕ) (k n : ℕ) (counters : List PlainCounter) (style : Style) (owned : List ℕ) (stages : PlainStages)
    (right : IsRight core around earlier (outer counters style owned stages)) (is : IsTimed (outer counters style owned stages)) (c : Child) (w : Circuit core plan s (outer counters style owned stages) near env k c)
    (answered : EachBound core plan s (AreAnsweredInTime s events last) near env w.draft n counters w.part.counters.items w.bounds) (qs : List Scoped) (t : ℕ) (le : t ≤ last) (ready : Ready core plan delays s events (outer counters style owned stages) near env k n qs t) where
  abbrev slots : List Slot
  slots = slots_of (node_plan plan k)

  abbrev pub stage_slot : (stage : ℕ) → ℕ
  stage_slot i = (slot_at slots i).slot

  abbrev pub stage_nets : (stage : ℕ) → Nets
  stage_nets i = slot_nets w.nets w.rows env counters (stage_slot i)

  abbrev pub stage_scoped : (stage : ℕ) → List Scoped
  stage_scoped i = scoped_stages core plan delays counters owned stages k n i qs

  abbrev pub StageStands : (stage m : ℕ) → Type 0
  StageStands i m = StandAround core plan delays s (stage_at stages i) (own_near counters near) (stage_nets i) (node_at stages (suc k) i) (number_at stages (n + counters_size counters) i) (stage_scoped i) m

  -- a run of a stage in a cycle is at work in its group
  module _ (i : ℕ) (few : i < stage_count stages) (x : Scoped) (there : Contains (stage_scoped i) x) (u : ℕ) (low : x.run.cycle ≤ u)
      (high : u < over_at core plan delays (stage_at stages i) (node_at stages (suc k) i) (number_at stages (n + counters_size counters) i) x.run) where
    abbrev whose : OfRun core plan delays k n counters owned stages i qs x
    whose = of_run core plan delays k n counters owned stages i qs x there

    at_work : (stage : ℕ) → stage ≡ i → IsInStage core plan delays k n counters owned stages w.places whose.run.run whose.group_run.group stage u
    at_work stage same =
        let a = whose.group_run.cycle in
        let b = whose.group_run.took in
        subst (λ m. IsInStage core plan delays k n counters owned stages w.places whose.run.run whose.group_run.group m u) (sym same) (omega (arith, a, low), omega (arith, a, b, high))

    not_first : 1 ≤ u
    not_first =
        let a = whose.group_run.cycle in
        let b = (laws.order slots (took_at (rows_of core plan delays k n counters owned stages w.places whose.run.run))).in_beat whose.group_run.group i 0 (omega arith) in
        omega (arith, a, b, low)

    -- and lies within the run of the loop
    in_whole : (whose.run.run.cycle < u) × (u < over_at core plan delays (outer counters style owned stages) k n whose.run.run)
    in_whole =
        let a = whose.group_run.cycle in
        let b = whose.group_run.took in
        let d = (laws.order slots (took_at (rows_of core plan delays k n counters owned stages w.places whose.run.run))).in_beat whose.group_run.group i 0 (omega arith) in
        let turns = laws.stages_turn k n counters style owned stages i (let z = w.size in omega (arith, z, few)) whose.run.run.cycle (over_at core plan delays (outer counters style owned stages) k n whose.run.run) (whose.run.run ∷ []) (alone core plan delays (outer counters style owned stages) k n whose.run.run) in
        let e = inside core plan delays (stage_at stages i) (node_at stages (suc k) i) (number_at stages (n + counters_size counters) i) whose.run.run.cycle (over_at core plan delays (outer counters style owned stages) k n whose.run.run) (stage_runs core plan delays counters owned stages k n i (whose.run.run ∷ [])) turns x.run whose.in_it in
        let f = e.1 in
        (omega (arith, a, d, low), omega (arith, f, high))

    -- without counters
    stands_bare : counters ≡ [] → u ≤ t → AreStanding s u (own_near counters near) (stage_nets i) x.scope
    stands_bare none l =
        let h = ready.stand whose.run u whose.there (let a = in_whole.0 in omega (arith, a)) in_whole.1 l in
        subst (λ sc. AreStanding s u (own_near counters near) (stage_nets i) sc) (sym (whose.group_run.scope ∙ ap (λ z. in_group whose.run.scope (loops_ran z whose.run.run.history) (slice_index_or (group_values (loops_ran counters whose.run.run.history)) whose.group_run.group [])) none
        ∙ no_scope whose.run.scope whose.run.run.history (slice_index_or (group_values (loops_ran counters whose.run.run.history)) whose.group_run.group [])))
        (subst (λ z. AreStanding s u (own_near z near) (slot_nets w.nets w.rows env z (stage_slot i)) whose.run.scope) (sym none) h)

    -- with the words that go along with the groups
    stands_with : TakesWords s counters w.part w.nets w.before w.rows (length w.places) → (m : ℕ) → suc m ≤ t → u ≤ suc m → Stepping core plan delays laws s events last near env around earlier k n counters style owned stages right is c w answered qs t le ready m → Looping core plan delays laws s events last near env around earlier k n counters style owned stages right is c w answered qs t le ready m → AreStanding s u (own_near counters near) (stage_nets i) x.scope
    stands_with words m l late stepping g =
        let place = has_place w.places slots w.arranged i (let z = w.size in omega (arith, z, few)) in
        let each = words.each in
        let all = laws.rows s w.part w.nets w.part.step w.before w.rows m k n counters style owned stages w.places near env (scopes_of qs) ready.from ready.until (placed qs) (loops_at counters qs) (outers core plan delays laws s events last near env around earlier k n counters style owned stages right is c w answered qs t le ready) ready.did.in_turn w.arranged (takes core plan delays laws s events last near env around earlier k n counters style owned stages right is c w answered qs t le ready) words.lanes words.masks words.first words.moves words.long
        (omega (arith, each))
        (subst (λ shape. IsOnAt (is_on s w.part.step) (At (step_cycle shape) (steps_in shape (map (ran core plan delays laws s events last near env around earlier k n counters style owned stages right is c w answered qs t le ready) (placed qs)))) m) w.shaped g.steps)
        (subst (λ shape. AreInSteps s w.part w.nets (loops_at counters qs) shape (map (ran core plan delays laws s events last near env around earlier k n counters style owned stages right is c w answered qs t le ready) (placed qs)) m) w.shaped stepping.0)
        (took core plan delays laws s events last near env around earlier k n counters style owned stages right is c w answered qs t le ready) around_stands in
        let p = place.place in
        let p0 = p.0 in
        let row = row_at (λ y row. (r : Placed) (g j i v : ℕ) → Contains (placed qs) r → g < length (rows_of core plan delays k n counters owned stages w.places r) → IsPlace w.places y j i
        → IsInStage core plan delays k n counters owned stages w.places r g (stage_in w.places y j i) v → v ≤ suc m
        → AreStanding s v (own_near counters near) (with_row env counters (length w.nets.counters.items) row) (group_scope (scopes_of qs r) (loops_at counters qs (ran core plan delays laws s events last near env around earlier k n counters style owned stages right is c w answered qs t le ready r)) g)) (length w.before) 0 w.rows (stage_slot i) all words.long (omega (arith, p0, each)) in
        let h = subst (λ y. (r : Placed) (g j i v : ℕ) → Contains (placed qs) r → g < length (rows_of core plan delays k n counters owned stages w.places r) → IsPlace w.places y j i
        → IsInStage core plan delays k n counters owned stages w.places r g (stage_in w.places y j i) v → v ≤ suc m
        → AreStanding s v (own_near counters near) (with_row env counters (length w.nets.counters.items) row.row) (group_scope (scopes_of qs r) (loops_at counters qs (ran core plan delays laws s events last near env around earlier k n counters style owned stages right is c w answered qs t le ready r)) g)) {x = 0 + stage_slot i} {y = stage_slot i} (omega arith) row.holds
        whose.run.run whose.group_run.group place.chain place.member u (mapped_to (λ (q : Scoped). q.run) qs whose.run whose.there) whose.group_run.below place.place (at_work (stage_in w.places (stage_slot i) place.chain place.member) place.is) late in
        subst (λ sc. AreStanding s u (own_near counters near) (stage_nets i) sc) (sym (whose.group_run.scope))
        (subst (λ ls. AreStanding s u (own_near counters near) (stage_nets i) (in_group whose.run.scope ls (slice_index_or (group_values ls) whose.group_run.group []))) (found core plan delays laws s events last near env around earlier k n counters style owned stages right is c w answered qs t le ready whose.run whose.there)
        (subst (λ sc. AreStanding s u (own_near counters near) (stage_nets i) (in_group sc (loops_at counters qs (ran core plan delays laws s events last near env around earlier k n counters style owned stages right is c w answered qs t le ready whose.run.run)) (slice_index_or (group_values (loops_at counters qs (ran core plan delays laws s events last near env around earlier k n counters style owned stages right is c w answered qs t le ready whose.run.run))) whose.group_run.group [])))
        (laws.found (outer counters style owned stages) k n ready.from ready.until qs is ready.did.fits ready.did.in_turn whose.run whose.there)
        (subst (λ ns. AreStanding s u (own_near counters near) (with_nets env counters (take (length w.nets.counters.items) ns) (drop (length w.nets.counters.items) ns)) (group_scope (scopes_of qs whose.run.run) (loops_at counters qs (ran core plan delays laws s events last near env around earlier k n counters style owned stages right is c w answered qs t le ready whose.run.run)) whose.group_run.group)) (sym row.same) h)))
      where
        around_stands : (r : Placed) (v : ℕ) → Contains (placed qs) r → r.cycle < v → v < over_at core plan delays (outer counters style owned stages) k n r → v ≤ suc m → AreStanding s v near env (scopes_of qs r)
        around_stands r v there a b c =
            let y = mapped_from (λ (q : Scoped). q.run) qs r there in
            subst (λ (r : Placed). r.cycle < v → v < over_at core plan delays (outer counters style owned stages) k n r → AreStanding s v near env (scopes_of qs r)) y.2
            (λ a b. subst (AreStanding s v near env) (sym (laws.found (outer counters style owned stages) k n ready.from ready.until qs is ready.did.fits ready.did.in_turn y.0 y.1)) (ready.stand y.0 v y.1 (omega (arith, a)) b (omega (arith, c, l)))) a b

  -- in the first cycle no stage is at work
  pub none_stand : (i : ℕ) → i < stage_count stages → StageStands i 0
  none_stand i few x u there low high l = let a = not_first i few x there u low high in absurd (omega (arith, a, l))

  pub next_stand : (m : ℕ) → suc m ≤ t → Stepping core plan delays laws s events last near env around earlier k n counters style owned stages right is c w answered qs t le ready m → Looping core plan delays laws s events last near env around earlier k n counters style owned stages right is c w answered qs t le ready m → (i : ℕ) → i < stage_count stages → StageStands i (suc m)
  next_stand m l stepping g i few x u there low high late = by counters refl w.words
    where
      by : (cs : List PlainCounter) → counters ≡ cs → TakeWords s cs w.part w.nets w.before w.rows (length w.places) → AreStanding s u (own_near counters near) (stage_nets i) x.scope
      by [] same words = stands_bare i few x there u low high same (omega (arith, late, l))
      by (y ∷ cs) same words = stands_with i few x there u low high (subst (λ z. TakesWords s z w.part w.nets w.before w.rows (length w.places)) (sym same) words) m l late stepping g
