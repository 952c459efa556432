-- What the nets of an FSM's start and next state do to its state.
use Rattle.std.proofs.Common.{◌≡◌, ℕ, zero, suc, ◌+◌, ◌<◌, ◌≤◌, ◌⊎◌, inl, inr, true, List, [], ◌∷◌, length, map, refl, sym, ap, subst, ◌∙◌, arith}
use Rattle.std.specs.List.{Contains}
use Rattle.sp_netlist.specs.declared.parts.Child.{Child}
use Rattle.sp_netlist.specs.Signals.{Signals}
use Rattle.sp_gates.specs.Tested.{is_on}
use Rattle.sp_core.specs.Around.{Around, Near}
use Rattle.sp_core.specs.Declarations.{is_among}
use Rattle.sp_core.specs.History.{History, Turns, fsm_ran, no_turn, more_turn}
use Rattle.sp_core.specs.Invariant.{owned_in, IsRight}
use Rattle.sp_core.specs.Latency.{latency_of_all}
use Rattle.sp_core.specs.Numbering.{number_count}
use Rattle.sp_core.specs.PlainCore.{PlainOp, PlainNode, fsm, PlainCore}
use Rattle.sp_core.specs.Scope.{Scope, in_lanes}
use Rattle.sp_plan.specs.PlainPlan.{PlainPlan}
use Rattle.sp_machine.specs.Stamps.{Stamped}
use Rattle.sp_machine.specs.Transfers.{Delays}
use Rattle.sp_overlap.specs.Whole.{IsTimed}
use Rattle.sp_mem.specs.Copies.{copy_at}
use Rattle.sp_node_runs.specs.Runs.{Placed, list_took}
use Rattle.sp_node_runs.specs.RunsTold.{all_events}
use Rattle.sp_node_runs.specs.BodiesGiven.{Nets}
use Rattle.sp_node_runs.specs.BodiesLists.{ListRun, list_ran}
use Rattle.sp_node_runs.proofs.BodiesBounds.{last_is, pipe_at}
use Rattle.sp_node_runs.proofs.BodiesListed.{here, there, none_there, first_or_later, mapped_from, joined_from}
use Rattle.sp_tree_runs.specs.BodiesDone.{AllDone, TurnsDone}
use Rattle.sp_tree_runs.specs.BodiesScoped.{Scoped, placed, AllAreDone}
use Rattle.sp_tree_runs.specs.BodiesTurns.{started_in, start_list, body_took, list_in_turn, nexts_in, next_lists_in, next_lists}
use Rattle.sp_tree_circuits.specs.Parts.{ListCircuit}
use Rattle.sp_tree_circuits.specs.Circuits.{Circuit}
use Rattle.sp_tree_circuits.specs.Acts.{ListActs}
use Rattle.sp_tree_circuits.specs.Laws.{DidRuns}
use Rattle.sp_tree_events.specs.CopiesStanding.{CopyNets, AreNumbered}
use Rattle.sp_tree_events.specs.ActsKeeping.{GivesState, Keeps}
use Rattle.sp_tree_events.specs.OwnersOwning.{renewed, kept, Shows}
use Rattle.sp_tree_handed.specs.declared.owners.Keeping.{Keeping}
use Rattle.sp_tree_handed.specs.Owners.{keeping}
use Rattle.sp_owner_runs.specs.Acting.{IsKept}
use Rattle.sp_owner_runs.specs.Deeds.{CountsFresh}
use Rattle.sp_owner_runs.specs.Given.{Laws}
use Rattle.sp_owner_runs.specs.Standing.{StandCopies}
use Rattle.sp_owner_runs.proofs.Among.{never_both, among_first, among_only}
use Rattle.sp_owner_runs.proofs.Apart.{state_apart}
use Rattle.sp_owner_runs.proofs.Joining.{ActOn}
use Rattle.sp_owner_runs.proofs.Owned.{fresh_owned}
use Rattle.sp_owner_runs.proofs.Telling.{deed_is}
use Rattle.sp_owner_runs.proofs.Turning.{starts_in, nexts_there, list_stands}

-- a run of a list that did all of its operations
abbrev pub IsWhole : List PlainOp → ListRun → Type 0
IsWhole ops r = length r.entries ≡ length ops

-- a list whose circuit goes gives its word where it is over
gives_state : (core : PlainCore) (plan : PlainPlan) (delays : Delays) (s : Signals) (events : List Stamped) (t n state : ℕ) (ops : List PlainOp) (near : List Near) (env : Nets) (lists : List ListRun) (c : Child) (word : ℕ) (w : ListCircuit core plan s near env ops c word) (around : CopyNets)
    → ListActs core plan delays s events t n ops near env lists c word w → ((r : ListRun) → Contains lists r → IsWhole ops r)
    → ((r : ListRun) (u : ℕ) → Contains lists r → r.cycle ≤ u → u < r.cycle + (list_ran core ops r).took → u ≤ t → AreNumbered s u around r.copies) → GivesState core s t state ops lists c.done word (around state)
gives_state core plan delays s events t n state ops near env lists c word w around acts are stand = record {
  ends = acts.goes.ends;
  gives = λ r u there ends le. (
    (
        let now : suc r.cycle + latency_of_all core ops ≡ u = omega (arith, ends) in
        let many = w.timed.ops_of.each in
        let final = w.is_last in
        let p = pipe_at w.ps w.place (omega (arith, many, final)) in
        let each = are r there in
        ap (λ v. s.net v word) (sym now) ∙ acts.goes.words r w.place p.0 word (latency_of_all core ops) there p.1 (w.gives p.0 p.1) (w.in_time p.0 p.1) w.has_word (omega (arith, now, le)) ∙ last_is r.entries w.place (omega (arith, final, each))
        ),
    stand r u there (omega (arith, ends)) (omega (arith, ends)) le state,
  );
}

module _ (core : PlainCore) (plan : PlainPlan) (delays : Delays) (k n : ℕ) (start : List PlainOp) (state : ℕ) (ops : List PlainOp) (node : PlainNode) (after : List PlainOp) where
  abbrev whole : PlainNode
  whole = fsm start state ops node after

  start_one : (q : Scoped) (h : History) → AllDone in_lanes whole q.scope h → length (started_in core plan delays k n start ops node after h) ≡ length start
  start_one q (fsm_ran es ts last) done = done.0.each
  start_one q h done = elim done [ ]

  turns_one : (r : Placed) (scope : Scope) (u p : ℕ) (ts : Turns) → TurnsDone in_lanes ops node after scope ts → (l : ListRun) → Contains (nexts_in core plan delays k n start ops node after r scope u p ts) l → IsWhole after l
  turns_one r scope u p no_turn done l c = absurd (none_there l c)
  turns_one r scope u p (more_turn es h ns rest) done l c =
      by (first_or_later (list_in_turn core plan delays k n start ops node after r scope u (p + list_took core plan delays ops + body_took core plan delays k n start ops node after r u h) ns) l (nexts_in core plan delays k n start ops node after r scope (suc u) (p + list_took core plan delays ops + body_took core plan delays k n start ops node after r u h + list_took core plan delays after) rest) c)
      (turns_one r scope (suc u) (p + list_took core plan delays ops + body_took core plan delays k n start ops node after r u h + list_took core plan delays after) rest done.1 l)
    where
      by : (list_in_turn core plan delays k n start ops node after r scope u (p + list_took core plan delays ops + body_took core plan delays k n start ops node after r u h) ns ≡ l) ⊎ Contains (nexts_in core plan delays k n start ops node after r scope (suc u) (p + list_took core plan delays ops + body_took core plan delays k n start ops node after r u h + list_took core plan delays after) rest) l
          → (Contains (nexts_in core plan delays k n start ops node after r scope (suc u) (p + list_took core plan delays ops + body_took core plan delays k n start ops node after r u h + list_took core plan delays after) rest) l → IsWhole after l) → IsWhole after l
      by (inl e) more = subst (IsWhole after) e done.0.3.each
      by (inr d) more = more d

  nexts_one : (q : Scoped) (h : History) → AllDone in_lanes whole q.scope h → (l : ListRun) → Contains (next_lists_in core plan delays k n start ops node after q h) l → IsWhole after l
  nexts_one q (fsm_ran es ts last) done l c = turns_one q.run q.scope 0 _ ts done.1 l c
  nexts_one q h done l c = elim done [ ]

  done_of : (qs : List Scoped) → AllAreDone whole qs → (q : Scoped) → Contains qs q → AllDone in_lanes whole q.scope q.run.history
  done_of [] h q c = absurd (none_there q c)
  done_of (x ∷ qs) h q (zero, l, e) = subst (λ (y : Scoped). AllDone in_lanes whole y.scope y.run.history) e h.0
  done_of (x ∷ qs) h q (suc i, l, e) = done_of qs h.1 q (i, omega (arith, l), e)

  module _ (qs : List Scoped) (done : AllAreDone whole qs) where
    starts_whole : (l : ListRun) → Contains (map (start_list core plan delays k n start ops node after) qs) l → IsWhole start l
    starts_whole l c =
        let x = mapped_from (start_list core plan delays k n start ops node after) qs l c in
        subst (IsWhole start) x.2 (start_one x.0 x.0.run.history (done_of qs done x.0 x.1))

    nexts_whole : (l : ListRun) → Contains (next_lists core plan delays k n start ops node after qs) l → IsWhole after l
    nexts_whole l c =
        let x = joined_from (λ (q : Scoped). next_lists_in core plan delays k n start ops node after q q.run.history) qs l c in
        nexts_one x.0 x.0.run.history (done_of qs done x.0 x.1) l x.2

  module _ (laws : Laws core plan delays) (s : Signals) (events : List Stamped) (t : ℕ) (near : List Near) (env : Nets) (around : Around) (earlier : List ℕ) (from until : ℕ) (qs : List Scoped) (c : Child)
      (is : IsTimed whole) (right : IsRight core around earlier whole) (did : DidRuns core plan delays whole k n from until qs) (copies : CopyNets) (stand : StandCopies core plan delays s whole k n qs copies (suc t)) (w : Circuit core plan s whole near env k c)
      (starts : ListActs core plan delays s events t n start near env (map (start_list core plan delays k n start ops node after) qs) w.first w.begun w.begins)
      (steps : ListActs core plan delays s events t (n + (length start + (length ops + number_count node))) after near env (next_lists core plan delays k n start ops node after qs) w.next w.stepped w.steps) where
    abbrev own : List Stamped
    own = all_events core plan delays whole k n (placed qs)

    abbrev one : Keeping
    one = keeping state w.first.done w.begun (copies state)

    abbrev other : Keeping
    other = keeping state w.next.done w.stepped (copies state)

    abbrev nets : List Keeping
    nets = one ∷ other ∷ []

    keeps_so : Keeps s own state w.first.done w.begun (copies state) w.next.done w.stepped (copies state) t
    keeps_so =
        laws.machines s t k n start state ops node after qs w.first.done w.begun (copies state) w.next.done w.stepped (copies state) is (state_apart core around earlier start state ops node after right) (laws.fits.machines k n start state ops node after (placed qs) did.fits).0
        (gives_state core plan delays s events t n state start near env _ w.first w.begun w.begins copies starts (starts_whole qs did.done) (λ r u c low high le. list_stands core plan delays k n start state ops node after qs did.done s copies (suc t) stand start r (starts_in core plan delays k n start state ops node after qs did.done r c) u low high (omega (arith, le))))
        (gives_state core plan delays s events t _ state after near env _ w.next w.stepped w.steps copies steps (nexts_whole qs did.done) (λ r u c low high le. list_stands core plan delays k n start state ops node after qs did.done s copies (suc t) stand after r (nexts_there core plan delays k n start state ops node after qs did.done r c) u low high (omega (arith, le))))

    -- where the wire of one of the two is on, its word is kept
    abbrev DoesKeep : (cycle : ℕ) → Keeping → Type 0
    DoesKeep u x = is_on s x.done u ≡ true → (is_among x.mem (state ∷ []) ≡ true) × Shows own u (copy_at s u x.copy) (kept x.mem (s.net u x.word))

    keeping_acts : (x : Keeping) (u : ℕ) → Contains nets x → u ≤ t → DoesKeep u x
    keeping_acts x u c le = by (first_or_later one x (other ∷ []) c)
      where
        last : (other ≡ x) ⊎ Contains [] x → DoesKeep u x
        last (inl e) = subst (DoesKeep u) e (λ on. (among_first state [], keeps_so.next u le on))
        last (inr d) = absurd (none_there x d)

        by : (one ≡ x) ⊎ Contains (other ∷ []) x → DoesKeep u x
        by (inl e) = subst (DoesKeep u) e (λ on. (among_first state [], keeps_so.first u le on))
        by (inr d) = last (first_or_later other x [] d)

    told : (u copy v : ℕ) → u ≤ t → Shows own u copy (kept state v) → IsKept s u state copy nets v
    told u copy v le h = by (keeps_so.made u copy v le h)
      where
        by : ((is_on s w.first.done u ≡ true) × (copy_at s u (copies state) ≡ copy) × (s.net u w.begun ≡ v)) ⊎ ((is_on s w.next.done u ≡ true) × (copy_at s u (copies state) ≡ copy) × (s.net u w.stepped ≡ v)) → IsKept s u state copy nets v
        by (inl x) = (one, here one (other ∷ []), refl, x.0, x.2, x.1)
        by (inr x) = (other, there one other (other ∷ []) (here other []), refl, x.0, x.2, x.1)

    none_renewed : (u copy : ℕ) → CountsFresh core state → Shows own u copy (renewed state) → ⊥
    none_renewed u copy counts h = never_both (is_among state (owned_in node)) (fresh_owned node state (deed_is core plan delays laws whole k n (placed qs) u copy (renewed state) h is counts)) (state_apart core around earlier start state ops node after right)

    pub machine_acts : ActOn core s t own (state ∷ []) [] nets
    machine_acts = record {
      renews = λ r u c le on. absurd (none_there r c);
      keeps = λ x u c le on. keeping_acts x u c le on;
      all_renewals = λ u copy m le among counts h. absurd (none_renewed u copy (subst (CountsFresh core) (among_only m state among) counts) (subst (λ m. Shows own u copy (renewed m)) (among_only m state among) h));
      all_keepings = λ u copy m v le among h. (let e = among_only m state among in subst (λ m. IsKept s u m copy nets v) (sym e) (told u copy v le (subst (λ m. Shows own u copy (kept m v)) e h)));
    }
