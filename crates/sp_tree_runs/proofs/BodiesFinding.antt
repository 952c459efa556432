-- The counters around a run are found by the cycle in which it begins; tests tell what they gave.
use Rattle.std.proofs.Common.{◌≡◌, ℕ, zero, suc, ◌+◌, ◌<◌, ◌≤◌, ◌==◌, true, false, List, [], ◌∷◌, map, refl, sym, ap, subst, ◌∙◌, arith}
use Rattle.std.specs.List.{Contains}
use Rattle.std.proofs.lemmas.Bool.{eq-eqb, ne_eqb}
use Rattle.sp_netlist.specs.declared.parts.Child.{Child}
use Rattle.sp_netlist.specs.Signals.{Signals}
use Rattle.sp_gates.specs.Tested.{is_on}
use Rattle.sp_words.specs.declared.types.Ty.TheVariants.{Bit}
use Rattle.sp_core.specs.Around.{Around, Near}
use Rattle.sp_core.specs.History.{last_word, History, branch_ran}
use Rattle.sp_core.specs.Invariant.{IsRight}
use Rattle.sp_core.specs.Latency.{latency_of_all}
use Rattle.sp_core.specs.PlainCore.{PlainOp, PlainNode, inner, branch, PlainCore}
use Rattle.sp_core.specs.Scope.{Scope, in_lanes}
use Rattle.sp_fitting.specs.Fitting.{HistoryFits}
use Rattle.sp_fitting.proofs.Lists.{masks_are_bits}
use Rattle.sp_fitting.proofs.Rules.{here_right, word_list_right}
use Rattle.sp_part_runs.proofs.ActsIndices.{indices_are_words}
use Rattle.sp_part_runs.specs.BodiesRuns.{IsOnAt}
use Rattle.sp_part_runs.specs.ControlBranches.{test_run}
use Rattle.sp_part_runs.specs.ControlParts.{Tested, Begins, Ends, Tells, runs_of}
use Rattle.sp_plan.specs.PlainPlan.{PlainPlan}
use Rattle.sp_machine.specs.Transfers.{Delays}
use Rattle.sp_overlap.specs.Whole.{IsTimed}
use Rattle.sp_node_runs.specs.Runs.{Placed, AreWithin, over_at}
use Rattle.sp_node_runs.specs.ControlLaws.{Does}
use Rattle.sp_node_runs.specs.ControlRuns.{branch_of, side_taken}
use Rattle.sp_node_runs.specs.FitsLaws.{AllFit}
use Rattle.sp_node_runs.proofs.FitsTakes.{took_some}
use Rattle.sp_node_runs.specs.Bodies.{DidGroups}
use Rattle.sp_node_runs.specs.BodiesGiven.{Nets, AreStanding}
use Rattle.sp_node_runs.specs.BodiesLists.{DidList, ListRun, list_ran, ListGoes, ListsWork}
use Rattle.sp_node_runs.proofs.BodiesBounds.{last_is, pipe_at}
use Rattle.sp_node_runs.proofs.BodiesListed.{there, none_there, mapped_to, mapped_from}
use Rattle.sp_tree_runs.specs.BodiesDone.{AllDone}
use Rattle.sp_tree_runs.specs.BodiesScoped.{Scoped, placed, AllAreDone}
use Rattle.sp_tree_runs.specs.BodiesScopes.{scopes_of, tested_in, test_list, ScopesAreFound, InnersRunSo, TestPart, TestsTell}
use Rattle.sp_tree_runs.proofs.BodiesScoping.{done_so}

pub done_of : (node : PlainNode) (qs : List Scoped) → AllAreDone node qs → (q : Scoped) → Contains qs q → AllDone in_lanes node q.scope q.run.history
done_of node [] h q c = absurd (none_there q c)
done_of node (x ∷ qs) h q (zero, l, e) = subst (λ (y : Scoped). AllDone in_lanes node y.scope y.run.history) e h.0
done_of node (x ∷ qs) h q (suc i, l, e) = done_of node qs h.1 q (i, omega (arith, l), e)

module _ (core : PlainCore) (plan : PlainPlan) (delays : Delays) where
  pub fit_of : (node : PlainNode) (qs : List Scoped) → AllFit core plan delays node (placed qs) → (q : Scoped) → Contains qs q → HistoryFits core node q.run.history
  fit_of node [] h q c = absurd (none_there q c)
  fit_of node (x ∷ qs) h q (zero, l, e) = subst (λ (y : Scoped). HistoryFits core node y.run.history) e h.0
  fit_of node (x ∷ qs) h q (suc i, l, e) = fit_of node qs h.1 q (i, omega (arith, l), e)

  after : (node : PlainNode) (k n from until : ℕ) (qs : List Scoped) → AreWithin core plan delays node k n from until (placed qs) → AllFit core plan delays node (placed qs) → IsTimed node → (q : Scoped) → Contains qs q → from ≤ q.run.cycle
  after node k n from until [] w f is q c = absurd (none_there q c)
  after node k n from until (x ∷ qs) w f is q (zero, l, e) = let g = ap (λ (y : Scoped). y.run.cycle) e in let h = w.0 in omega (arith, g, h)
  after node k n from until (x ∷ qs) w f is q (suc i, l, e) = let r = after node k n (over_at core plan delays node k n x.run) until qs w.1 f.1 is q (i, omega (arith, l), e) in let h = w.0 in omega (arith, r, h)

  pub scopes_are_found : ScopesAreFound core plan delays
  scopes_are_found node k n from until [] is f w q c = absurd (none_there q c)
  scopes_are_found node k n from until (x ∷ qs) is f w q (zero, l, e) =
      ap (λ b. elim b as (λ _. Scope) [ true ↦ x.scope | false ↦ scopes_of qs q.run ]) (eq-eqb x.run.cycle q.run.cycle (ap (λ (y : Scoped). y.run.cycle) e)) ∙ ap (λ (y : Scoped). y.scope) e
  scopes_are_found node k n from until (x ∷ qs) is f w q (suc i, l, e) =
      ap (λ b. elim b as (λ _. Scope) [ true ↦ x.scope | false ↦ scopes_of qs q.run ])
      (ne_eqb x.run.cycle q.run.cycle (λ z. let r = after node k n (over_at core plan delays node k n x.run) until qs w.1 f.1 is q (i, omega (arith, l), e) in let t = took_some core plan delays node k n x.run.standing x.run.copies x.run.history is f.0 in absurd (omega (arith, r, t, z))))
      ∙ scopes_are_found node k n (over_at core plan delays node k n x.run) until qs is f.1 w.1 q (i, omega (arith, l), e)

  pub inners_run_so : InnersRunSo core plan delays
  inners_run_so s last k n counters owned ops comb near env around earlier from until qs right done fits within stand = record {
    from = from;
    until = until;
    in_turn = within;
    did = λ r c. let x = mapped_from (λ (q : Scoped). q.run) qs r c in
        subst (λ (r : Placed). DidGroups (scopes_of qs r) counters ops r.history) x.2
        (subst (λ scope. DidGroups scope counters ops x.0.run.history) (sym (scopes_are_found (inner counters owned ops comb) k n from until qs tt fits within x.0 x.1))
        ((done_so core plan delays).groups around earlier counters owned ops comb x.0.scope x.0.run.history right (fit_of (inner counters owned ops comb) qs fits x.0 x.1) (done_of (inner counters owned ops comb) qs done x.0 x.1)));
    stand = λ r t c a b l. let x = mapped_from (λ (q : Scoped). q.run) qs r c in
        subst (λ (r : Placed). r.cycle < t → t < over_at core plan delays (inner counters owned ops comb) k n r → AreStanding s t near env (scopes_of qs r)) x.2
        (λ a b. subst (AreStanding s t near env) (sym (scopes_are_found (inner counters owned ops comb) k n from until qs tt fits within x.0 x.1)) (stand x.0 t x.1 a b l)) a b;
  }

  -- the test of a branch
  module _ (k n : ℕ) (ops : List PlainOp) (first second : PlainNode) where
    abbrev ran : Placed → Tested
    ran r = test_run (branch_of core plan delays k n ops first second r)

    same_rans : (qs : List Scoped) → map (list_ran core ops) (map (test_list k) qs) ≡ runs_of (map ran (placed qs))
    same_rans [] = refl
    same_rans (q ∷ qs) = ap (λ rest. list_ran core ops (test_list k q) ∷ rest) (same_rans qs)

    test_did : (around : Around) (earlier : List ℕ) (scope : Scope) (h : History) → IsRight core around earlier (branch ops first second) → AllDone in_lanes (branch ops first second) scope h → HistoryFits core (branch ops first second) h → DidList scope ops (tested_in h)
    test_did around earlier scope (branch_ran es true h) right done fits = record { entries = done.0; bits = masks_are_bits core around ops es (word_list_right core around ops Bit (here_right core around earlier (branch ops first second) right.0).0).0 fits.0; indices = indices_are_words core around ops es (word_list_right core around ops Bit (here_right core around earlier (branch ops first second) right.0).0).0 fits.0 }
    test_did around earlier scope (branch_ran es false h) right done fits = record { entries = done.0; bits = masks_are_bits core around ops es (word_list_right core around ops Bit (here_right core around earlier (branch ops first second) right.0).0).0 fits.0; indices = indices_are_words core around ops es (word_list_right core around ops Bit (here_right core around earlier (branch ops first second) right.0).0).0 fits.0 }
    test_did around earlier scope h right done fits = elim done [ ]

    side_is : (scope : Scope) (h : History) → AllDone in_lanes (branch ops first second) scope h → (last_word (tested_in h) == 1) ≡ side_taken core plan delays h
    side_is scope (branch_ran es true h) done = done.1
    side_is scope (branch_ran es false h) done = done.1
    side_is scope h done = elim done [ ]

    module _ (work : ListsWork core) (s : Signals) (last : ℕ) (near : List Near) (env : Nets) (around : Around) (earlier : List ℕ) (qs : List Scoped) (c : Child) (tested : ℕ) (right : IsRight core around earlier (branch ops first second)) (done : AllAreDone (branch ops first second) qs)
        (fits : AllFit core plan delays (branch ops first second) (placed qs)) (p : TestPart core plan delays s last n ops near env (map (test_list k) qs) c tested) where
      did : (r : ListRun) → Contains (map (test_list k) qs) r → DidList r.scope ops r.entries
      did r c =
          let x = mapped_from (test_list k) qs r c in
          subst (λ (r : ListRun). DidList r.scope ops r.entries) x.2 (test_did around earlier x.0.scope x.0.run.history right (done_of (branch ops first second) qs done x.0 x.1) (fit_of (branch ops first second) qs fits x.0 x.1))

      goes : (t : ℕ) → t ≤ last → IsOnAt (is_on s c.start) (Begins (runs_of (map ran (placed qs)))) t → ListGoes core s p.draft p.ps p.issue c.done t n ops (map (test_list k) qs)
      goes t le started =
          work s p.draft c.start p.ps p.issue c.done last n ops near env (map (test_list k) qs) p.runs_on p.issues p.timed p.given did p.stand p.answered t le (subst (λ xs. IsOnAt (is_on s c.start) (Begins xs) t) (sym (same_rans qs)) started)

      does : Does s c (runs_of (map ran (placed qs))) last
      does t le started = subst (λ xs. IsOnAt (is_on s c.done) (Ends xs) t) (same_rans qs) (goes t le started).ends

      tells : Tells (is_on s c.start) (is_on s tested) (map ran (placed qs)) last
      tells t le started e u there ends late =
          let x = mapped_from ran (placed qs) e there in
          let y = mapped_from (λ (q : Scoped). q.run) qs x.0 x.1 in
          let same : ran y.0.run ≡ e = ap ran y.2 ∙ x.2 in
          let cycle : suc y.0.run.cycle ≡ e.run.cycle = ap (λ (z : Tested). z.run.cycle) same in
          let took : 2 + latency_of_all core ops ≡ e.run.took = ap (λ (z : Tested). z.run.took) same in
          let now : suc (suc y.0.run.cycle) + latency_of_all core ops ≡ u = omega (arith, ends, cycle, took) in
          let done_here = done_of (branch ops first second) qs done y.0 y.1 in
          let list = did (test_list k y.0) (mapped_to (test_list k) qs y.0 y.1) in
          let many = p.timed.ops_of.each in
          let final = p.is_last in
          let q = pipe_at p.ps p.place (omega (arith, many, final)) in
          let each = list.entries.each in
          let word = (goes t le started).words (test_list k y.0) p.place q.0 tested (latency_of_all core ops) (mapped_to (test_list k) qs y.0 y.1) q.1 (p.gives q.0 q.1) (p.in_time q.0 q.1) p.word (omega (arith, now, late)) in
          ap (λ v. s.net v tested == 1) (sym now) ∙ ap (λ w. w == 1) (word ∙ last_is (tested_in y.0.run.history) p.place (omega (arith, final, each)))
          ∙ side_is y.0.scope y.0.run.history done_here ∙ ap (λ (z : Tested). z.goes) same

  pub tests_tell : ListsWork core → TestsTell core plan delays
  tests_tell work s last k n ops first second near env around earlier qs c tested right done fits p =
      (does k n ops first second work s last near env around earlier qs c tested right done fits p, tells k n ops first second work s last near env around earlier qs c tested right done fits p)
