-- In a run of a core by a valid plan each run of an inner body shares no port of a bank.
use Rattle.std.proofs.Common.{◌≡◌, ℕ, suc, ◌+◌, Bool, true, false, ℤ, List, [], ◌∷◌, ◌++◌, All, length, arith, sym, subst, ap}
use Rattle.std.proofs.lemmas.Bool.{and_parts}
use Rattle.std.proofs.lemmas.List.Elements.{All-head, All-tail}
use Rattle.sp_core.specs.declared.access.Meet.{Meet}
use Rattle.sp_core.specs.Around.{Around, nothing, within}
use Rattle.sp_core.specs.Events.{At, Standing, inside_at, before, in_group_of, in_turn, Moment, touches, slices, renews, keeps, bounds_moments, moments}
use Rattle.sp_core.specs.Forms.{PlainForms}
use Rattle.sp_core.specs.History.{History, Groups, Runs, Turns, inner_ran, outer_ran, fsm_ran, branch_ran, no_group, more_group, no_run, masked_run, more_run, no_turn, more_turn}
use Rattle.sp_core.specs.Invariant.{owned_in, IsRight, AreRight}
use Rattle.sp_core.specs.NodeRules.{with_state}
use Rattle.sp_core.specs.Numbered.{list_numbers, counters_numbers, numbers, stages_numbers, numbered}
use Rattle.sp_core.specs.Numbering.{counters_size, node_count, number_count}
use Rattle.sp_core.specs.PlainCore.{PlainOp, PlainCounter, PlainNode, PlainStages, inner, outer, fsm, branch, no_stage, more_stage, PlainCore}
use Rattle.sp_core.specs.Scope.{in_lanes, loops_of, group_values}
use Rattle.sp_plan.specs.Groups.{Separated, StagesSeparated}
use Rattle.sp_plan.specs.Nodes.{NodeRule}
use Rattle.sp_plan.specs.PlainPlan.{PlainPlan, node_plan}
use Rattle.sp_plan.specs.Validity.{schemes_of, kind_rule, time_rule, group_rule}
use Rattle.sp_time.specs.Lists.{Each}
use Rattle.sp_words.specs.declared.kind.Style.{Style}
use Rattle.sp_machine.specs.Laws.{told}
use Rattle.sp_machine.specs.Sound.{IsSound, AreSound, RunsSound, TurnsSound}
use Rattle.sp_machine.specs.Stamps.{Stamped, Copies, stamped}
use Rattle.sp_machine.specs.Timeline.{timed, issued_by, body_events, in_copies}
use Rattle.sp_machine.specs.Transfers.{Delays}
use Rattle.sp_machine.proofs.Told.{told_node}
use Rattle.sp_overlap.specs.Whole.{IsTimed, AreTimed}
use Rattle.sp_overlap.proofs.Planned.{Holds, AllHold, outer_holds, fsm_holds, branch_holds, stage_holds}
use Rattle.sp_overlap.proofs.Whole.{plans_are_sound}
use Rattle.sp_ports.specs.Banks.{IsAtOwnForms}
use Rattle.sp_ports.specs.Whole.{InnersShareNone, GroupsShareNone, StagesShareNone, TurnsShareNone}
use Rattle.sp_ports.proofs.Inners.{inner_shares_none, issued_forms}
use Rattle.sp_ports.proofs.Numbers.{AreNumbered, numbered_left, numbered_right, list_many, two_many, counters_many, node_many}
use Rattle.sp_forms_hold.specs.GroupsAtForms as at_forms
use Rattle.sp_forms_hold.specs.GroupsAtForms.{InnersAtForms, GroupsAtForms, StagesAtForms, TurnsAtForms}
use Rattle.sp_chosen_runs.specs.PortsLaws.{HistoriesShareNoPort}

each_split : {A : Type 0} (Q : A → Type 0) (a b : List A) → Each Q (a ++ b) → Each Q a × Each Q b
each_split Q [] b h = (tt, h)
each_split Q (x ∷ a) b h = let r = each_split Q a b h.1 in ((h.0, r.0), r.1)

module _ (core : PlainCore) (forms : PlainForms) (meets : List Meet) (plan : PlainPlan) (delays : Delays) where
  -- what a node keeps, by its numbers and what stands around it
  record Keeps (node : PlainNode) (k n : ℕ) (around : Around) (earlier : List ℕ) : Type 0 where
    pub right : IsRight core around earlier node
    pub timed : IsTimed node
    pub kinds : Holds (kind_rule core forms meets plan) k n node
    pub times : Holds (time_rule core forms meets plan) k n node
    pub groups : Holds (group_rule core forms meets plan) k n node
    pub separated : Separated core forms (schemes_of plan) n node
    pub numbered : AreNumbered core n (numbers node)

  record AllKeep (stages : PlainStages) (k n : ℕ) (around : Around) (earlier : List ℕ) : Type 0 where
    pub right : AreRight core around earlier stages
    pub timed : AreTimed stages
    pub kinds : AllHold (kind_rule core forms meets plan) k n stages
    pub times : AllHold (time_rule core forms meets plan) k n stages
    pub groups : AllHold (group_rule core forms meets plan) k n stages
    pub separated : StagesSeparated core forms (schemes_of plan) n stages
    pub numbered : AreNumbered core n (stages_numbers stages)

  outer_keeps : (counters : List PlainCounter) (style : Style) (owned : List ℕ) (stages : PlainStages) (k n : ℕ) (around : Around) (earlier : List ℕ) → Keeps (outer counters style owned stages) k n around earlier
      → AllKeep stages (suc k) (n + counters_size counters) (within around counters owned) (earlier ++ owned)
  outer_keeps counters style owned stages k n around earlier w = record {
    right = w.right.1;
    timed = w.timed.1;
    kinds = (outer_holds (kind_rule core forms meets plan) k n counters style owned stages w.timed.0 w.kinds).1;
    times = (outer_holds (time_rule core forms meets plan) k n counters style owned stages w.timed.0 w.times).1;
    groups = (outer_holds (group_rule core forms meets plan) k n counters style owned stages w.timed.0 w.groups).1;
    separated = w.separated;
    numbered = numbered_right core n (n + counters_size counters) (counters_numbers counters) (stages_numbers stages) (ap (λ x. n + x) (counters_many counters)) w.numbered;
  }

  first_keeps : (first last : ℕ) (comb : Bool) (node : PlainNode) (rest : PlainStages) (k n : ℕ) (around : Around) (earlier : List ℕ) → AllKeep (more_stage first last comb node rest) k n around earlier → Keeps node k n around earlier
  first_keeps first last comb node rest k n around earlier w = record {
    right = w.right.0;
    timed = w.timed.0;
    kinds = (stage_holds (kind_rule core forms meets plan) k n first last comb node rest w.kinds).0;
    times = (stage_holds (time_rule core forms meets plan) k n first last comb node rest w.times).0;
    groups = (stage_holds (group_rule core forms meets plan) k n first last comb node rest w.groups).0;
    separated = w.separated.0;
    numbered = numbered_left core n (numbers node) (stages_numbers rest) w.numbered;
  }

  rest_keeps : (first last : ℕ) (comb : Bool) (node : PlainNode) (rest : PlainStages) (k n : ℕ) (around : Around) (earlier : List ℕ) → AllKeep (more_stage first last comb node rest) k n around earlier
      → AllKeep rest (k + node_count node) (n + number_count node) around (earlier ++ owned_in node)
  rest_keeps first last comb node rest k n around earlier w = record {
    right = w.right.1;
    timed = w.timed.1;
    kinds = (stage_holds (kind_rule core forms meets plan) k n first last comb node rest w.kinds).1;
    times = (stage_holds (time_rule core forms meets plan) k n first last comb node rest w.times).1;
    groups = (stage_holds (group_rule core forms meets plan) k n first last comb node rest w.groups).1;
    separated = w.separated.1;
    numbered = numbered_right core n (n + number_count node) (numbers node) (stages_numbers rest) (ap (λ x. n + x) (node_many node)) w.numbered;
  }

  body_keeps : (start : List PlainOp) (state : ℕ) (test : List PlainOp) (body : PlainNode) (next : List PlainOp) (k n : ℕ) (around : Around) (earlier : List ℕ) → Keeps (fsm start state test body next) k n around earlier
      → Keeps body (suc k) (n + (length start + length test)) (with_state core around state) (earlier ++ state ∷ [])
  body_keeps start state test body next k n around earlier w = record {
    right = w.right.1;
    timed = w.timed;
    kinds = fsm_holds (kind_rule core forms meets plan) k n start state test body next w.kinds;
    times = fsm_holds (time_rule core forms meets plan) k n start state test body next w.times;
    groups = fsm_holds (group_rule core forms meets plan) k n start state test body next w.groups;
    separated = w.separated;
    numbered = numbered_left core (n + (length start + length test)) (numbers body) (list_numbers next)
        (numbered_right core n (n + (length start + length test)) (list_numbers start ++ list_numbers test) (numbers body ++ list_numbers next) (ap (λ x. n + x) (two_many start test)) w.numbered);
  }

  left_keeps : (test : List PlainOp) (first second : PlainNode) (k n : ℕ) (around : Around) (earlier : List ℕ) → Keeps (branch test first second) k n around earlier → Keeps first (suc k) (n + length test) around earlier
  left_keeps test first second k n around earlier w = record {
    right = w.right.1;
    timed = w.timed.0;
    kinds = (branch_holds (kind_rule core forms meets plan) k n test first second w.kinds).0;
    times = (branch_holds (time_rule core forms meets plan) k n test first second w.times).0;
    groups = (branch_holds (group_rule core forms meets plan) k n test first second w.groups).0;
    separated = w.separated.0;
    numbered = numbered_left core (n + length test) (numbers first) (numbers second)
        (numbered_right core n (n + length test) (list_numbers test) (numbers first ++ numbers second) (ap (λ x. n + x) (list_many test)) w.numbered);
  }

  right_keeps : (test : List PlainOp) (first second : PlainNode) (k n : ℕ) (around : Around) (earlier : List ℕ) → Keeps (branch test first second) k n around earlier
      → Keeps second (suc k + node_count first) (n + (length test + number_count first)) around (earlier ++ owned_in first)
  right_keeps test first second k n around earlier w = record {
    right = w.right.2;
    timed = w.timed.1;
    kinds = here (kind_rule core forms meets plan) (branch_holds (kind_rule core forms meets plan) k n test first second w.kinds).1;
    times = here (time_rule core forms meets plan) (branch_holds (time_rule core forms meets plan) k n test first second w.times).1;
    groups = here (group_rule core forms meets plan) (branch_holds (group_rule core forms meets plan) k n test first second w.groups).1;
    separated = subst (λ x. Separated core forms (schemes_of plan) x second) same w.separated.1;
    numbered = numbered_right core (n + length test) (n + (length test + number_count first)) (numbers first) (numbers second) (let e : length (numbers first) ≡ number_count first = node_many first in omega arith)
        (numbered_right core n (n + length test) (list_numbers test) (numbers first ++ numbers second) (ap (λ x. n + x) (list_many test)) w.numbered);
  }
    where
      same : (n + length test) + number_count first ≡ n + (length test + number_count first)
      same = omega arith

      here : (rule : NodeRule) → Holds rule (suc k + node_count first) ((n + length test) + number_count first) second → Holds rule (suc k + node_count first) (n + (length test + number_count first)) second
      here rule h = subst (λ x. Holds rule (suc k + node_count first) x second) same h

  -- what is told of a run of a node is at its forms
  abbrev AtForms : (List At → ℕ → ℤ) → Stamped → Type 0
  AtForms symbols s = IsAtOwnForms core forms symbols s.moment

  same_moment : (symbols : List At → ℕ → ℤ) (m : Moment) → at_forms.IsAtOwnForms core forms symbols m → IsAtOwnForms core forms symbols m
  same_moment symbols (touches e) h = h
  same_moment symbols (slices s) h = tt
  same_moment symbols (renews m) h = tt
  same_moment symbols (keeps m w) h = tt

  each_of : (symbols : List At → ℕ → ℤ) (ms : List Moment) → All (at_forms.IsAtOwnForms core forms symbols) ms → Each (IsAtOwnForms core forms symbols) ms
  each_of symbols [] h = tt
  each_of symbols (m ∷ ms) h = (same_moment symbols m (All-head (at_forms.IsAtOwnForms core forms symbols) m ms h), each_of symbols ms (All-tail (at_forms.IsAtOwnForms core forms symbols) m ms h))

  from_told : (symbols : List At → ℕ → ℤ) (xs : List Stamped) → Each (IsAtOwnForms core forms symbols) (told xs) → Each (AtForms symbols) xs
  from_told symbols [] h = tt
  from_told symbols (x ∷ xs) h = (h.0, from_told symbols xs h.1)

  node_told : (symbols : List At → ℕ → ℤ) (node : PlainNode) (k n : ℕ) (st : Standing) (copies : Copies) (h : History) → All (at_forms.IsAtOwnForms core forms symbols) (moments core in_lanes node k n st h) → Each (AtForms symbols) (timed core plan delays node k n st copies h).events
  node_told symbols node k n st copies h all =
      from_told symbols (timed core plan delays node k n st copies h).events (subst (Each (IsAtOwnForms core forms symbols)) (sym (told_node core plan delays node k n st copies h)) (each_of symbols (moments core in_lanes node k n st h) all))

  mutual
    unfolding timed

    node_shares_none : (node : PlainNode) (k n : ℕ) (st : Standing) (copies : Copies) (h : History) (around : Around) (earlier : List ℕ) → Keeps node k n around earlier → IsSound core plan delays (schemes_of plan) meets node k n st copies h
        → InnersAtForms core forms in_lanes node k n st h → InnersShareNone core plan delays forms node k n st copies h
    node_shares_none (inner counters owned ops comb) k n st copies (inner_ran bs counts groups) around earlier w sound at =
        let values = group_values (loops_of in_lanes counters bs) in
        inner_shares_none core plan delays forms meets at.0 around k n st copies counters owned ops comb bs groups sound.1
        (record { bounds = (and_parts _ _ (and_parts _ _ (and_parts _ _ w.right).0).0).1; kind = w.kinds; timed = w.times; grouped = w.groups; separated = w.separated })
        (issued_forms core plan delays forms meets at.0 around k n st copies counters owned ops comb values groups (node_plan plan k) w.kinds
        (numbered_right core n (n + counters_size counters) (counters_numbers counters) (list_numbers ops) (ap (λ x. n + x) (counters_many counters)) w.numbered)
        (each_split (AtForms at.0) (stamped copies 0 (bounds_moments n (inside_at st k before []) counters bs)) (body_events core plan delays (issued_by core ops (node_plan plan k)) copies k (n + counters_size counters) 0 st owned ops values groups)
        (node_told at.0 (inner counters owned ops comb) k n st copies (inner_ran bs counts groups) at.1)).1) sound.3
    node_shares_none (outer counters style owned stages) k n st copies (outer_ran bs counts groups) around earlier w sound at =
        groups_share_none stages k (n + counters_size counters) 0 st owned copies (group_values (loops_of in_lanes counters bs)) groups (within around counters owned) (earlier ++ owned) (outer_keeps counters style owned stages k n around earlier w) sound.2 at
    node_shares_none (fsm start state test body next) k n st copies (fsm_ran first ts last) around earlier w sound at =
        turns_share_none start test body next k n 0 st copies ts (with_state core around state) (earlier ++ state ∷ []) (body_keeps start state test body next k n around earlier w) sound at
    node_shares_none (branch test first second) k n st copies (branch_ran es true h) around earlier w sound at =
        node_shares_none first (suc k) (n + length test) (inside_at st k (in_turn 0) []) copies h around earlier (left_keeps test first second k n around earlier w) sound at
    node_shares_none (branch test first second) k n st copies (branch_ran es false h) around earlier w sound at =
        node_shares_none second (suc k + node_count first) (n + (length test + number_count first)) (inside_at st k (in_turn 0) []) copies h around (earlier ++ owned_in first) (right_keeps test first second k n around earlier w) sound at
    node_shares_none node k n st copies h around earlier w sound at = tt

    groups_share_none : (stages : PlainStages) (k n g : ℕ) (st : Standing) (owned : List ℕ) (copies : Copies) (values : List (List ℤ)) (groups : Groups) (around : Around) (earlier : List ℕ) → AllKeep stages (suc k) n around earlier
        → AreSound core plan delays (schemes_of plan) meets stages k n g st owned copies values groups → GroupsAtForms core forms in_lanes stages k n g st values groups → GroupsShareNone core plan delays forms stages k n g st owned copies values groups
    groups_share_none stages k n g st owned copies (v ∷ values) (more_group rs rest) around earlier w sound at = (
      stages_share_none stages k n 0 g (suc k) v st (in_copies core plan delays owned g copies) rs around earlier w sound.0 at.0,
      groups_share_none stages k n (suc g) st owned copies values rest around earlier w sound.1 at.1,
    )
    groups_share_none stages k n g st owned copies [] groups around earlier w sound at = tt
    groups_share_none stages k n g st owned copies (v ∷ values) no_group around earlier w sound at = tt

    stages_share_none : (stages : PlainStages) (k n s g j : ℕ) (v : List ℤ) (st : Standing) (copies : Copies) (rs : Runs) (around : Around) (earlier : List ℕ) → AllKeep stages j n around earlier
        → RunsSound core plan delays (schemes_of plan) meets stages k n s g j v st copies rs → StagesAtForms core forms in_lanes stages k n s g j v st rs → StagesShareNone core plan delays forms stages k n s g j v st copies rs
    stages_share_none (more_stage first last comb node rest) k n s g j v st copies (more_run h rs) around earlier w sound at = (
      node_shares_none node j n (inside_at st k (in_group_of g s) v) copies h around earlier (first_keeps first last comb node rest j n around earlier w) sound.0 at.0,
      stages_share_none rest k (n + number_count node) (suc s) g (j + node_count node) v st copies rs around (earlier ++ owned_in node) (rest_keeps first last comb node rest j n around earlier w) sound.1 at.1,
    )
    stages_share_none (more_stage first last comb node rest) k n s g j v st copies (masked_run rs) around earlier w sound at =
        stages_share_none rest k (n + number_count node) (suc s) g (j + node_count node) v st copies rs around (earlier ++ owned_in node) (rest_keeps first last comb node rest j n around earlier w) sound at
    stages_share_none (more_stage first last comb node rest) k n s g j v st copies no_run around earlier w sound at = tt
    stages_share_none no_stage k n s g j v st copies rs around earlier w sound at = tt

    turns_share_none : (start test : List PlainOp) (body : PlainNode) (next : List PlainOp) (k n t : ℕ) (st : Standing) (copies : Copies) (ts : Turns) (around : Around) (earlier : List ℕ) → Keeps body (suc k) (n + (length start + length test)) around earlier
        → TurnsSound core plan delays (schemes_of plan) meets start test body next k n t st copies ts → TurnsAtForms core forms in_lanes body k (n + (length start + length test)) t st ts → TurnsShareNone core plan delays forms start test body next k n t st copies ts
    turns_share_none start test body next k n t st copies no_turn around earlier w sound at = tt
    turns_share_none start test body next k n t st copies (more_turn es h ns rest) around earlier w sound at = (
      node_shares_none body (suc k) (n + (length start + length test)) (inside_at st k (in_turn t) []) copies h around earlier w sound.0 at.0,
      turns_share_none start test body next k n (suc t) st copies rest around earlier w sound.1 at.1,
    )

pub share_no_port : (core : PlainCore) (plan : PlainPlan) (delays : Delays) → HistoriesShareNoPort core plan delays
share_no_port core plan delays forms meets w h met at =
    node_shares_none core forms meets plan delays core.root 0 0 (record { path = []; counters = [] }) (λ m. 0) h nothing [] kept (plans_are_sound core plan delays forms meets w h met) at
  where
    kept : Keeps core forms meets plan delays core.root 0 0 nothing []
    kept = record { right = w.is_core.nodes; timed = w.is_timed; kinds = w.valid.kinds; times = w.valid.times; groups = w.valid.groups; separated = w.valid.separated; numbered = λ i l. ap (numbered core) (let e : 0 + i ≡ i = omega arith in e) }
