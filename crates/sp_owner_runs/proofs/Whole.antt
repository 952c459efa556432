-- By their nets the owners in the circuit of a tree act: one induction over the tree.
use Rattle.std.proofs.Common.{◌≡◌, ℕ, suc, ◌+◌, ◌⊎◌, inl, inr, true, false, List, [], ◌∷◌, ◌++◌, length, Option, refl, sym, subst, arith}
use Rattle.std.specs.List.{Contains}
use Rattle.sp_netlist.specs.declared.parts.Child.{Child}
use Rattle.sp_netlist.specs.Signals.{Signals}
use Rattle.sp_core.specs.Around.{Around, Near, nothing}
use Rattle.sp_core.specs.History.{History}
use Rattle.sp_core.specs.Invariant.{owned_in, owned_in_stages, IsRight, AreRight}
use Rattle.sp_core.specs.Numbering.{counters_size, node_count, number_count}
use Rattle.sp_core.specs.PlainCore.{PlainOp, PlainCounter, PlainSpan, PlainNode, PlainStages, inner, outer, fsm, branch, load, store, sparse, no_stage, more_stage, PlainCore}
use Rattle.sp_plan.specs.PlainPlan.{PlainPlan, node_plan}
use Rattle.sp_time.specs.Beats.{slot_at}
use Rattle.sp_machine.specs.Stamps.{Stamped}
use Rattle.sp_machine.specs.Timeline.{slots_of}
use Rattle.sp_machine.specs.Transfers.{Delays}
use Rattle.sp_overlap.specs.Whole.{IsTimed, AreTimed}
use Rattle.sp_node_runs.specs.Runs.{over_at}
use Rattle.sp_node_runs.specs.RunsTold.{all_events}
use Rattle.sp_node_runs.specs.BodiesGiven.{Nets}
use Rattle.sp_node_runs.specs.BodiesLaws.{own_near}
use Rattle.sp_node_runs.proofs.BodiesListed.{none_there, first_or_later}
use Rattle.sp_tree_runs.specs.BodiesScoped.{Scoped, placed, scoped_sides, scoped_bodies, scoped_stages}
use Rattle.sp_tree_circuits.specs.Circuits.{Circuit, StageCircuits}
use Rattle.sp_tree_circuits.specs.Acts.{Acts, StagesAct}
use Rattle.sp_tree_circuits.specs.Laws.{DidRuns, core_run, core_events}
use Rattle.sp_tree_events.specs.CopiesStanding.{CopyNets, no_numbers, with_numbers}
use Rattle.sp_tree_events.specs.OwnersOwning.{renewed, kept, OwnAgree}
use Rattle.sp_tree_handed.specs.declared.owners.Keeping.{Keeping}
use Rattle.sp_tree_handed.specs.declared.owners.Renewal.{Renewal}
use Rattle.sp_tree_handed.specs.Owners.{first_use, keeping}
use Rattle.sp_tree_copies.specs.Naming.{HaveCopies, renewed_by, AreNamed, StagesNamed}
use Rattle.sp_owner_runs.specs.Acting.{TreesOwn, CoresOwn}
use Rattle.sp_owner_runs.specs.Given.{Laws}
use Rattle.sp_owner_runs.specs.Standing.{StandCopies}
use Rattle.sp_owner_runs.proofs.Among.{among_nothing}
use Rattle.sp_owner_runs.proofs.Apart.{not_first, not_second, not_state}
use Rattle.sp_owner_runs.proofs.Joining.{ActOn, on_none, of_part, are_those, both}
use Rattle.sp_owner_runs.proofs.Loops.{loop_acts}
use Rattle.sp_owner_runs.proofs.Machines.{machine_acts}
use Rattle.sp_owner_runs.proofs.Parts.{sides_did, bodies_did, IsStage, each_stage}
use Rattle.sp_owner_runs.proofs.Sides.{sides_stand, bodies_stand}
use Rattle.sp_owner_runs.proofs.Stages.{EachStage}
use Rattle.sp_owner_runs.proofs.Telling.{deed_is, deed_owned}

module _ (core : PlainCore) (plan : PlainPlan) (delays : Delays) (laws : Laws core plan delays) (have : HaveCopies core plan) (s : Signals) (events : List Stamped) (t : ℕ) where
  -- an inner body makes nothing fresh that counts, and keeps nothing
  inner_acts : (counters : List PlainCounter) (owned : List ℕ) (ops : List PlainOp) (comb : Option ℕ) (k n : ℕ) (qs : List Scoped) → ActOn core s t (all_events core plan delays (inner counters owned ops comb) k n (placed qs)) owned [] []
  inner_acts counters owned ops comb k n qs = record {
    renews = λ r u there le on. absurd (none_there r there);
    keeps = λ x u there le on. absurd (none_there x there);
    all_renewals = λ u copy m le own counts shown. absurd (among_nothing m (deed_is core plan delays laws (inner counters owned ops comb) k n (placed qs) u copy (renewed m) shown tt counts));
    all_keepings = λ u copy m v le own shown. absurd (among_nothing m (deed_is core plan delays laws (inner counters owned ops comb) k n (placed qs) u copy (kept m v) shown tt));
  }

  -- nor does a load or a store
  load_acts : (r m : ℕ) (spans : List PlainSpan) (k n : ℕ) (qs : List Scoped) → ActOn core s t (all_events core plan delays (load r m spans) k n (placed qs)) [] [] []
  load_acts r m spans k n qs = record {
    renews = λ r u there le on. absurd (none_there r there);
    keeps = λ x u there le on. absurd (none_there x there);
    all_renewals = λ u copy m le own counts shown. absurd (among_nothing m own);
    all_keepings = λ u copy m v le own shown. absurd (among_nothing m own);
  }

  store_acts : (r m : ℕ) (spans : List PlainSpan) (k n : ℕ) (qs : List Scoped) → ActOn core s t (all_events core plan delays (store r m spans) k n (placed qs)) [] [] []
  store_acts r m spans k n qs = record {
    renews = λ r u there le on. absurd (none_there r there);
    keeps = λ x u there le on. absurd (none_there x there);
    all_renewals = λ u copy m le own counts shown. absurd (among_nothing m own);
    all_keepings = λ u copy m v le own shown. absurd (among_nothing m own);
  }

  mutual
    acts : (node : PlainNode) (near : List Near) (env : Nets) (around : Around) (earlier : List ℕ) (k n from until : ℕ) (qs : List Scoped) (c : Child) → IsTimed node → IsRight core around earlier node → DidRuns core plan delays node k n from until qs
        → (w : Circuit core plan s node near env k c) → Acts core plan delays s events t node near env k n qs c w → (copies : CopyNets) (names : List (Option ℕ)) (renewals : List Renewal) (keepings : List Keeping) → AreNamed core plan s node near env k c w copies names renewals keepings
        → StandCopies core plan delays s node k n qs copies (suc t)
        → ActOn core s t (all_events core plan delays node k n (placed qs)) (owned_in node) renewals keepings
    acts (branch ops first second) near env around earlier k n from until qs c is right did w goes copies names renewals keepings owners stand =
        let part = sides_did core plan delays laws k n from until ops first second qs did in
        let stands = sides_stand core plan delays laws s k n ops first second qs copies (suc t) stand in
        let one = acts first near env around earlier (suc k) (n + length ops) from until (scoped_sides core plan delays ops k true qs) w.chosen is.0 right.1 part.0 w.one goes.2 copies owners.one_names owners.one_renewed owners.one_kept owners.first stands.0 in
        let other = acts second near env around _ (suc k + node_count first) (n + (length ops + number_count first)) from until (scoped_sides core plan delays ops k false qs) w.left is.1 right.2 part.1 w.other goes.3 copies owners.other_names owners.other_renewed owners.other_kept owners.second stands.1 in
        let whole : List Stamped = all_events core plan delays (branch ops first second) k n (placed qs) in
        are_those core s t whole (owned_in first ++ owned_in second) renewals (owners.one_renewed ++ owners.other_renewed) keepings (owners.one_kept ++ owners.other_kept) owners.renewed_are owners.kept_are
        (both core s t whole (owned_in first) (owned_in second) owners.one_renewed owners.other_renewed owners.one_kept owners.other_kept
        (of_part core s t whole _ (owned_in first) owners.one_renewed owners.one_kept
        (λ m own. subst (λ rs. OwnAgree whole (all_events core plan delays first (suc k) (n + length ops) rs) m) (sym (laws.parts.sides k ops true qs)) ((laws.sides_own k n ops first second (placed qs) m is.0 is.1).0 (not_second core around earlier ops first second right m own))) one)
        (of_part core s t whole _ (owned_in second) owners.other_renewed owners.other_kept
        (λ m own. subst (λ rs. OwnAgree whole (all_events core plan delays second (suc k + node_count first) (n + (length ops + number_count first)) rs) m) (sym (laws.parts.sides k ops false qs)) ((laws.sides_own k n ops first second (placed qs) m is.0 is.1).1 (not_first core around earlier ops first second right m own))) other))
    acts (fsm start state ops node after) near env around earlier k n from until qs c is right did w goes copies names renewals keepings owners stand =
        let part = bodies_did core plan delays laws k n from until start state ops node after qs did in
        let inside = acts node near env _ _ (suc k) (n + (length start + length ops)) from until (scoped_bodies core plan delays start ops after node k n qs) w.body is right.1 part w.goes goes.4 copies owners.inside renewals owners.rest owners.body (bodies_stand core plan delays laws s k n start state ops node after qs copies (suc t) stand) in
        let own = machine_acts core plan delays k n start state ops node after laws s events t near env around earlier from until qs c is right did copies stand w goes.1 goes.3 in
        let whole : List Stamped = all_events core plan delays (fsm start state ops node after) k n (placed qs) in
        let nets : List Keeping = keeping state w.first.done w.begun (copies state) ∷ keeping state w.next.done w.stepped (copies state) ∷ [] in
        are_those core s t whole (state ∷ owned_in node) renewals renewals keepings (nets ++ owners.rest) refl owners.kept_are
        (both core s t whole (state ∷ []) (owned_in node) [] renewals nets owners.rest own
        (of_part core s t whole _ (owned_in node) renewals owners.rest
        (λ m among. subst (λ rs. OwnAgree whole (all_events core plan delays node (suc k) (n + (length start + length ops)) rs) m) (sym (laws.parts.bodies k n start ops node after qs)) (laws.bodies_own k n start state ops node after (placed qs) m is (not_state core around earlier start state ops node after right m among))) inside))
    acts (outer counters style owned stages) near env around earlier k n from until qs c is right did w goes copies names renewals keepings owners stand =
        let whole : List Stamped = all_events core plan delays (outer counters style owned stages) k n (placed qs) in
        let own = loop_acts core plan delays laws have s t near env around earlier k n counters style owned stages from until qs c is right did w copies stand owners.loop goes.0.starts goes.1 in
        let inside = stages_act stages (own_near counters near) _ _ (suc k) (n + counters_size counters) 0 from until whole _ (λ i. scoped_stages core plan delays counters owned stages k n i qs) (λ i. with_numbers copies owned (owners.loop.numbers (slot_at (slots_of (node_plan plan k)) i).slot)) w.child is.1 right.1
        (each_stage core plan delays laws s t have near env around earlier k n counters style owned stages from until qs c is right did w copies stand owners.loop goes.0.starts goes.1) w.parts goes.2 owners.inside owners.rest keepings owners.stages in
        let nets : List Renewal = renewed_by (first_use core (node_plan plan k) stages) w.firsts owners.loop.coming owned in
        are_those core s t whole (owned ++ owned_in_stages stages) renewals (nets ++ owners.rest) keepings keepings owners.renewed_are refl (both core s t whole owned (owned_in_stages stages) nets owners.rest [] keepings own inside)
    acts (inner counters owned ops comb) near env around earlier k n from until qs c is right did w goes copies names renewals keepings owners stand =
        are_those core s t (all_events core plan delays (inner counters owned ops comb) k n (placed qs)) owned renewals [] keepings [] owners.1 owners.2 (inner_acts counters owned ops comb k n qs)
    acts (load r m spans) near env around earlier k n from until qs c is right did w goes copies names renewals keepings owners stand =
        are_those core s t (all_events core plan delays (load r m spans) k n (placed qs)) [] renewals [] keepings [] owners.1 owners.2 (load_acts r m spans k n qs)
    acts (store r m spans) near env around earlier k n from until qs c is right did w goes copies names renewals keepings owners stand =
        are_those core s t (all_events core plan delays (store r m spans) k n (placed qs)) [] renewals [] keepings [] owners.1 owners.2 (store_acts r m spans k n qs)
    acts (sparse kind r m places spans count par) near env around earlier k n from until qs c is right did w goes copies names renewals keepings owners stand = elim is [ ]

    stages_act : (stages : PlainStages) (near : List Near) (around : Around) (earlier : List ℕ) (j n i from until : ℕ) (whole : List Stamped) (nets : (stage : ℕ) → Nets) (qs : (stage : ℕ) → List Scoped) (copies : (stage : ℕ) → CopyNets) (child : (stage : ℕ) → Child) → AreTimed stages → AreRight core around earlier stages
        → EachStage (IsStage core plan delays laws s t whole from until qs copies) stages j n i → (w : StageCircuits core plan s stages near j i nets child) → StagesAct core plan delays s events t stages near j n i nets qs child w → (names : List (Option ℕ)) (renewals : List Renewal) (keepings : List Keeping)
        → StagesNamed core plan s stages near j i nets child w copies names renewals keepings → ActOn core s t whole (owned_in_stages stages) renewals keepings
    stages_act no_stage near around earlier j n i from until whole nets qs copies child is right each w goes names renewals keepings owners =
        are_those core s t whole [] renewals [] keepings [] owners.1 owners.2 (on_none core s t whole among_nothing)
    stages_act (more_stage first final comb node rest) near around earlier j n i from until whole nets qs copies child is right each w goes names renewals keepings owners =
        let one = acts node near (nets i) around earlier j n from until (qs i) (child i) is.0 right.0 each.0.did w.0 goes.0 (copies i) owners.one_names owners.one_renewed owners.one_kept owners.first each.0.stand in
        let other = stages_act rest near around _ (j + node_count node) (n + number_count node) (suc i) from until whole nets qs copies child is.1 right.1 each.1 w.1 goes.1 owners.other_names owners.other_renewed owners.other_kept owners.second in
        are_those core s t whole (owned_in node ++ owned_in_stages rest) renewals (owners.one_renewed ++ owners.other_renewed) keepings (owners.one_kept ++ owners.other_kept) owners.renewed_are owners.kept_are
        (both core s t whole (owned_in node) (owned_in_stages rest) owners.one_renewed owners.other_renewed owners.one_kept owners.other_kept (of_part core s t whole _ (owned_in node) owners.one_renewed owners.one_kept each.0.agree one) other)

pub trees_own : (core : PlainCore) (plan : PlainPlan) (delays : Delays) → Laws core plan delays → TreesOwn core plan delays
trees_own core plan delays laws s events node near env around earlier k n from until qs c is right did have w copies names renewals keepings named t stand goes =
    let a = acts core plan delays laws have s events t node near env around earlier k n from until qs c is right did w goes copies names renewals keepings named stand in
    record {
      renews = λ r u there le on. (a.renews r u there le on).1;
      keeps = λ x u there le on. (a.keeps x u there le on).1;
      all_renewals = λ u copy m le counts shown. a.all_renewals u copy m le (deed_owned core plan delays laws node k n (placed qs) u copy (renewed m) shown is) counts shown;
      all_keepings = λ u copy m v le shown. a.all_keepings u copy m v le (deed_owned core plan delays laws node k n (placed qs) u copy (kept m v) shown is) shown;
    }

-- around the whole core each memory is at hand in its first copy
pub core_stands : (core : PlainCore) (plan : PlainPlan) (delays : Delays) (s : Signals) (h : History) (last : ℕ) → StandCopies core plan delays s core.root 0 0 (core_run core plan delays h ∷ []) no_numbers last
core_stands core plan delays s h last q u there low high late m = by (first_or_later (core_run core plan delays h) q [] there)
  where
    by : (core_run core plan delays h ≡ q) ⊎ Contains [] q → 0 ≡ q.run.copies m
    by (inl e) = subst (λ (q : Scoped). 0 ≡ q.run.copies m) e refl
    by (inr d) = absurd (none_there q d)

pub cores_own : (core : PlainCore) (plan : PlainPlan) (delays : Delays) → TreesOwn core plan delays → CoresOwn core plan delays
cores_own core plan delays own s env h c is_core is done fits have w names renewals keepings named t goes =
    own s (core_events core plan delays h) core.root [] env nothing [] 0 0 0 (over_at core plan delays core.root 0 0 (core_run core plan delays h).run) (core_run core plan delays h ∷ []) c is is_core.nodes
    (record { done = (done, tt); fits = (fits, tt); in_turn = (omega arith, omega arith) }) have w no_numbers names renewals keepings named t (core_stands core plan delays s h (suc t)) goes
