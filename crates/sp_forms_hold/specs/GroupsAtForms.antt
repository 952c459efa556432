-- When the accesses of each run of an inner body are at their forms, with one word for each symbol in each group of
-- iterations.
use Rattle.std.specs.Prelude.{◌≡◌, ℕ, suc, ◌+◌, true, false, ℤ, pos, List, [], ◌∷◌, length, map, All}
use Rattle.sp_core.specs.Events.{At, Standing, inside_at, in_group_of, in_turn, Moment, touches, moments}
use Rattle.sp_core.specs.Forms.{PlainForms, are_known_indices, form_at}
use Rattle.sp_core.specs.History.{History, Groups, Runs, Turns, outer_ran, fsm_ran, branch_ran, more_group, masked_run, more_run, no_turn, more_turn}
use Rattle.sp_core.specs.Numbered.{accesses, numbered}
use Rattle.sp_core.specs.Numbering.{counters_size, node_count, number_count}
use Rattle.sp_core.specs.PlainCore.{PlainNode, PlainStages, inner, outer, fsm, branch, more_stage, PlainCore}
use Rattle.sp_core.specs.Scope.{Reading, loops_of, group_values}

module _ (core : PlainCore) (forms : PlainForms) where
  -- the indices of an operation's access are its forms, where these are known; a symbol has one word wherever the same
  -- controllers are around, in the same groups and turns
  abbrev pub IsAtOwnForms : (symbols : List At → ℕ → ℤ) → Moment → Type 0
  IsAtOwnForms symbols (touches e) =
      numbered core e.number ≡ accesses → are_known_indices core forms (form_at core forms e.number) (map pos e.indices) e.standing.counters (symbols e.standing.path) ≡ true
  IsAtOwnForms symbols _ = Unit {0}

  module _ (reading : Reading) where
    -- each run of an inner body in a run of a node: what symbols are is said for each of them, since between the test of an
    -- FSM and its next, which have one path, a register may change
    abbrev mutual
      pub InnersAtForms : PlainNode → (node n : ℕ) → Standing → History → Type 0
      InnersAtForms (inner counters owned ops comb) k n st h =
          (symbols : List At → ℕ → ℤ) × All (IsAtOwnForms symbols) (moments core reading (inner counters owned ops comb) k n st h)
      InnersAtForms (outer counters style owned stages) k n st (outer_ran bs counts groups) =
          GroupsAtForms stages k (n + counters_size counters) 0 st (group_values (loops_of reading counters bs)) groups
      InnersAtForms (fsm start state test body next) k n st (fsm_ran first ts last) = TurnsAtForms body k (n + (length start + length test)) 0 st ts
      InnersAtForms (branch test first second) k n st (branch_ran es true h) = InnersAtForms first (suc k) (n + length test) (inside_at st k (in_turn 0) []) h
      InnersAtForms (branch test first second) k n st (branch_ran es false h) =
          InnersAtForms second (suc k + node_count first) (n + (length test + number_count first)) (inside_at st k (in_turn 0) []) h
      InnersAtForms _ k n st h = Unit {0}

      pub GroupsAtForms : PlainStages → (node n g : ℕ) → Standing → List (List ℤ) → Groups → Type 0
      GroupsAtForms stages k n g st (v ∷ values) (more_group runs rest) = StagesAtForms stages k n 0 g (suc k) v st runs × GroupsAtForms stages k n (suc g) st values rest
      GroupsAtForms stages k n g st _ _ = Unit {0}

      pub StagesAtForms : PlainStages → (node n s g j : ℕ) → List ℤ → Standing → Runs → Type 0
      StagesAtForms (more_stage first last comb node rest) k n s g j v st (more_run h hs) =
          InnersAtForms node j n (inside_at st k (in_group_of g s) v) h × StagesAtForms rest k (n + number_count node) (suc s) g (j + node_count node) v st hs
      StagesAtForms (more_stage first last comb node rest) k n s g j v st (masked_run hs) = StagesAtForms rest k (n + number_count node) (suc s) g (j + node_count node) v st hs
      StagesAtForms _ k n s g j v st _ = Unit {0}

      -- the turns from turn t on, where the body's first operation has number n
      pub TurnsAtForms : PlainNode → (node n t : ℕ) → Standing → Turns → Type 0
      TurnsAtForms body k n t st no_turn = Unit {0}
      TurnsAtForms body k n t st (more_turn es h ns rest) = InnersAtForms body (suc k) n (inside_at st k (in_turn t) []) h × TurnsAtForms body k n (suc t) st rest
