-- The circuit of a list of operations in its runs.
use Rattle.std.proofs.Common.{◌≡◌, ℕ, suc, ◌+◌, ◌<◌, ◌≤◌, true, List, map, length, ap, subst, arith}
use Rattle.std.specs.List.{Contains}
use Rattle.sp_netlist.specs.declared.parts.Child.{Child}
use Rattle.sp_netlist.specs.Signals.{Signals}
use Rattle.sp_core.specs.Around.{Around, Near}
use Rattle.sp_core.specs.Events.{Event, touches}
use Rattle.sp_core.specs.History.{Entry}
use Rattle.sp_core.specs.OperationRules.{is_word_list}
use Rattle.sp_core.specs.PlainCore.{PlainOp, PlainCore}
use Rattle.sp_core.specs.Scope.{Scope}
use Rattle.sp_words.specs.declared.types.Ty.{Ty}
use Rattle.sp_fitting.specs.Fitting.{EntriesFit}
use Rattle.sp_fitting.proofs.Lists.{masks_are_bits}
use Rattle.sp_fitting.proofs.Rules.{word_list_right}
use Rattle.sp_part_runs.specs.ActsEntries.{AreEntries}
use Rattle.sp_part_runs.proofs.ActsIndices.{indices_are_words}
use Rattle.sp_plan.specs.PlainPlan.{PlainPlan}
use Rattle.sp_machine.specs.Laws.{told}
use Rattle.sp_machine.specs.Stamps.{Stamped, moved, list_stamped, in_a_row}
use Rattle.sp_machine.specs.Transfers.{Delays}
use Rattle.sp_machine.proofs.Told.{told_list}
use Rattle.sp_node_runs.specs.ControlLaws.{IsStarted}
use Rattle.sp_node_runs.specs.BodiesGiven.{Nets, AreStanding}
use Rattle.sp_node_runs.specs.BodiesLists.{DidList, ListRun, list_ran, list_events, all_listed, ListGoes, ListsWork}
use Rattle.sp_node_runs.specs.BodiesTold.{Happens, AreAnsweredInTime}
use Rattle.sp_node_runs.proofs.BodiesListed.{mapped_to, mapped_from, joined_from}
use Rattle.sp_tree_runs.specs.BodiesScopes.{TestPart}
use Rattle.sp_tree_circuits.specs.Parts.{ListCircuit}
use Rattle.sp_tree_circuits.specs.Acts.{AreEventsOf, ListActs}
use Rattle.sp_tree_circuits.proofs.Numbers.{within_list}
use Rattle.sp_tree_circuits.proofs.Ready.{acts_in, answered_in}

-- the events of lists have the numbers of their operations
pub listed_within : (core : PlainCore) (n : ℕ) (ops : List PlainOp) (lists : List ListRun) (number t : ℕ) (e : Event) → Happens (all_listed core n ops lists) number t e → (n ≤ number) × (number < n + length ops)
listed_within core n ops lists number t e h =
    let x = joined_from (list_events core n ops) lists (record { cycle = t; copy = h.copy; moment = touches e }) h.there in
    let r : ListRun = x.0 in
    let es : List Stamped = list_stamped r.copies (in_a_row core ops) 0 n r.standing ops r.entries in
    let y = mapped_from (moved r.cycle) es (record { cycle = t; copy = h.copy; moment = touches e }) x.2 in
    let same : y.0.moment ≡ touches e = ap (λ (z : Stamped). z.moment) y.2 in
    let there = mapped_to (λ (z : Stamped). z.moment) es y.0 y.1 in
    let w = within_list n r.standing ops r.entries e (subst (λ ms. Contains ms (touches e)) (told_list r.copies (in_a_row core ops) 0 n r.standing ops r.entries) (subst (λ m. Contains (told es) m) same there)) in
    let z = h.numbered in
    (let a = w.0 in omega (arith, a, z), let a = w.1 in omega (arith, a, z))

-- what a list did, where it keeps its rules and its words fit
pub one_did : (core : PlainCore) (around : Around) (list : List PlainOp) (ty : Ty) (scope : Scope) (es : List Entry) → is_word_list core around list ty ≡ true → AreEntries scope list es → EntriesFit list es → DidList scope list es
one_did core around list ty scope es right done fits = record { entries = done; bits = masks_are_bits core around list es (word_list_right core around list ty right).0 fits; indices = indices_are_words core around list es (word_list_right core around list ty right).0 fits }

module _ (core : PlainCore) (plan : PlainPlan) (delays : Delays) (s : Signals) (events : List Stamped) (last t n : ℕ) (le : t ≤ last) (ops : List PlainOp) (near : List Near) (env : Nets) (lists : List ListRun) (c : Child) (word : ℕ) (w : ListCircuit core plan s near env ops c word)
    (stand : (r : ListRun) → Contains lists r → suc r.cycle ≤ t → AreStanding s (suc r.cycle) near env r.scope) (answered : AreAnsweredInTime s events last n ops w.ps) (told : AreEventsOf events (all_listed core n ops lists) n (length ops)) where
  answered_there : AreAnsweredInTime s (all_listed core n ops lists) t n ops w.ps
  answered_there = answered_in core plan delays s events (all_listed core n ops lists) n (length ops) told last t n ops w.ps le answered

  -- as the laws of tests ask for it
  pub test_part : TestPart core plan delays s t n ops near env lists c word
  test_part = record {
    draft = w.draft;
    ps = w.ps;
    issue = w.issue;
    runs_on = w.runs_on;
    issues = w.issues;
    timed = w.timed;
    given = w.given;
    stand = stand;
    answered = answered_there;
    place = w.place;
    is_last = w.is_last;
    gives = w.gives;
    in_time = w.in_time;
    word = w.has_word;
  }

  pub list_acts : ListsWork core → ((r : ListRun) → Contains lists r → DidList r.scope ops r.entries) → IsStarted s c.start (map (list_ran core ops) lists) t → ListActs core plan delays s events t n ops near env lists c word w
  list_acts work did started =
      let g : ListGoes core s w.draft w.ps w.issue c.done t n ops lists = work s w.draft c.start w.ps w.issue c.done t n ops near env lists w.runs_on w.issues w.timed w.given did stand answered_there t (omega arith) started in
      record {
        goes = g;
        acts = λ i op p enable operands at touches is acts.
            acts_in core plan delays s events (all_listed core n ops lists) n (length ops) told t (n + i) op.kind enable operands (omega arith) (let b = at.within in omega (arith, b)) (g.acts i op p enable operands at touches is acts);
      }
