-- Where the events of a run stand: in groups of the controllers around them, whose counters have the groups' values.
use Rattle.std.specs.Prelude.{◌≡◌, ℕ, zero, suc, ◌<◌, ◌==◌, Bool, true, false, ℤ, List, [], ◌∷◌, ◌++◌, length, slice_index_or}
use Rattle.std.specs.List.{All}
use Rattle.sp_core.specs.Events.{At, When, in_group_of, in_turn, Standing, Moment, touches, slices, renews, keeps, core_moments}
use Rattle.sp_core.specs.History.{History, Groups, Runs, Turns, inner_ran, outer_ran, fsm_ran, branch_ran, no_group, more_group, masked_run, more_run, no_turn, more_turn}
use Rattle.sp_core.specs.Meeting.{in_loop, in_one_turn, together}
use Rattle.sp_core.specs.PlainCore.{PlainNode, PlainStages, inner, outer, fsm, branch, more_stage, PlainCore}
use Rattle.sp_core.specs.Scope.{Reading, Loop, loops_of, group_values}

-- the group and the stage in a loop, and the turn of an FSM
abbrev pub group_in : When → ℕ
group_in (in_group_of g s) = g
group_in when = 0

abbrev pub stage_in : When → ℕ
stage_in (in_group_of g s) = s
stage_in when = 0

abbrev pub turn_in : When → ℕ
turn_in (in_turn t) = t
turn_in when = 0

module _ (reading : Reading) where
  -- in a run of a node, the loops of the controller to which a path leads; of one without counters there are none
  abbrev mutual
    pub loops_in : PlainNode → History → List At → List Loop
    loops_in (inner counters owned ops comb) (inner_ran bs counts groups) p = loops_of reading counters bs
    loops_in (outer counters style owned stages) (outer_ran bs counts groups) [] = loops_of reading counters bs
    loops_in (outer counters style owned stages) (outer_ran bs counts groups) (a ∷ p) = group_loops stages groups (group_in a.when) (stage_in a.when) p
    loops_in (fsm start state test body next) (fsm_ran first ts last) (a ∷ p) = turn_loops body ts (turn_in a.when) p
    loops_in (branch test first second) (branch_ran es true h) (a ∷ p) = loops_in first h p
    loops_in (branch test first second) (branch_ran es false h) (a ∷ p) = loops_in second h p
    loops_in node h p = []

    pub group_loops : PlainStages → Groups → (group stage : ℕ) → List At → List Loop
    group_loops stages no_group g s p = []
    group_loops stages (more_group runs rest) zero s p = stage_loops stages runs s p
    group_loops stages (more_group runs rest) (suc g) s p = group_loops stages rest g s p

    pub stage_loops : PlainStages → Runs → (stage : ℕ) → List At → List Loop
    stage_loops (more_stage first last comb node rest) (more_run h hs) zero p = loops_in node h p
    stage_loops (more_stage first last comb node rest) (more_run h hs) (suc s) p = stage_loops rest hs s p
    stage_loops (more_stage first last comb node rest) (masked_run hs) (suc s) p = stage_loops rest hs s p
    stage_loops stages runs s p = []

    pub turn_loops : PlainNode → Turns → (turn : ℕ) → List At → List Loop
    turn_loops body no_turn t p = []
    turn_loops body (more_turn es h ns rest) zero p = loops_in body h p
    turn_loops body (more_turn es h ns rest) (suc t) p = turn_loops body rest t p

-- in a group the counters have its values; before the groups, and in a turn, there are none
abbrev pub HasGroup : List Loop → When → (values : List ℤ) → Type 0
HasGroup loops (in_group_of g s) values = (g < length (group_values loops)) × (slice_index_or (group_values loops) g [] ≡ values)
HasGroup loops when values = values ≡ []

-- the counters along a path have the values of the groups in which it stands
abbrev pub IsTraced : (loops : List At → List Loop) → (path : List At) → (counters : List ℤ) → Type 0
IsTraced loops [] counters = counters ≡ []
IsTraced loops (a ∷ path) counters =
    (values : List ℤ) × (rest : List ℤ) × HasGroup (loops []) a.when values × (counters ≡ values ++ rest) × IsTraced (λ p. loops (a ∷ p)) path rest

abbrev pub Stands : (Standing → Type 0) → Moment → Type 0
Stands P (touches e) = P e.standing
Stands P (slices s) = P s.standing
Stands P (renews m) = Unit {0}
Stands P (keeps m w) = Unit {0}

-- what happens in a run of a core stands in groups of the loops around it
abbrev pub RunsAreTraced : PlainCore → Type 0
RunsAreTraced core =
    (reading : Reading) (h : History) → All (Stands (λ s. IsTraced (loops_in reading core.root h) s.path s.counters)) (core_moments core reading h)

-- two places in a run at one loop, in two of its groups, with one path around it: the counters outside have one value each,
-- and those of the loop have the values of the groups
pub record AreAtLoop (loops : List At → List Loop) (p q : List At) (cs ds : List ℤ) (node g i : ℕ) (one_stage : Bool) : Type 0 where
  pub around : List At
  pub first_inside : List At
  pub second_inside : List At
  pub first_stage : ℕ
  pub second_stage : ℕ
  pub first_path : p ≡ around ++ (record { node = node; when = in_group_of g first_stage } ∷ first_inside)
  pub second_path : q ≡ around ++ (record { node = node; when = in_group_of i second_stage } ∷ second_inside)
  pub stages : one_stage ≡ (first_stage == second_stage)
  pub outer : List ℤ
  pub first_own : List ℤ
  pub second_own : List ℤ
  pub outside : IsTraced loops around outer
  pub first_group : g < length (group_values (loops around))
  pub second_group : i < length (group_values (loops around))
  pub first : cs ≡ outer ++ (slice_index_or (group_values (loops around)) g [] ++ first_own)
  pub second : ds ≡ outer ++ (slice_index_or (group_values (loops around)) i [] ++ second_own)

abbrev pub TogetherAtLoop : PlainCore → Type 0
TogetherAtLoop core =
    (loops : List At → List Loop) (p q : List At) (cs ds : List ℤ) (node g i : ℕ) (one_stage : Bool) → IsTraced loops p cs → IsTraced loops q ds →
    together core p q ≡ in_loop node g i one_stage → AreAtLoop loops p q cs ds node g i one_stage

-- two places in one turn of an FSM, or in one branch, with one path up to it: the counters outside have one value each
pub record AreInOneTurn (loops : List At → List Loop) (p q : List At) (cs ds : List ℤ) : Type 0 where
  pub around : List At
  pub here : At
  pub first_inside : List At
  pub second_inside : List At
  pub first_path : p ≡ around ++ (here ∷ first_inside)
  pub second_path : q ≡ around ++ (here ∷ second_inside)
  pub outer : List ℤ
  pub first_own : List ℤ
  pub second_own : List ℤ
  pub outside : IsTraced loops around outer
  pub first : cs ≡ outer ++ first_own
  pub second : ds ≡ outer ++ second_own

abbrev pub TogetherInOneTurn : PlainCore → Type 0
TogetherInOneTurn core =
    (loops : List At → List Loop) (p q : List At) (cs ds : List ℤ) → IsTraced loops p cs → IsTraced loops q ds → together core p q ≡ in_one_turn → AreInOneTurn loops p q cs ds
