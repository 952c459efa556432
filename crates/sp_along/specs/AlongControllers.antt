-- The controllers along a path of a run, each with what was done in its run.
use Rattle.std.specs.Prelude.{ℕ, zero, suc, true, false, List, [], ◌∷◌, None}
use Rattle.sp_core.specs.Events.{At}
use Rattle.sp_core.specs.History.{History, Groups, Runs, Turns, inner_ran, outer_ran, fsm_ran, branch_ran, no_group, more_group, masked_run, more_run, no_turn, more_turn}
use Rattle.sp_core.specs.PlainCore.{PlainNode, PlainStages, inner, outer, fsm, branch, more_stage}
use Rattle.sp_along.specs.MetTraces.{group_in, stage_in, turn_in}

pub record Ran : Type 0 where
  pub node : PlainNode
  pub history : History

abbrev pub nothing_ran : Ran
nothing_ran = record { node = inner [] [] [] None; history = inner_ran [] [] [] }

-- in a run of a node, the controller to which a path leads: through groups and stages of loops, turns of FSMs, and the side
-- of a branch that was taken
abbrev mutual
  pub ran_in : PlainNode → History → List At → Ran
  ran_in node h [] = record { node = node; history = h }
  ran_in (outer counters style owned stages) (outer_ran bs counts groups) (a ∷ p) = ran_in_groups stages groups (group_in a.when) (stage_in a.when) p
  ran_in (fsm start state test body next) (fsm_ran first ts last) (a ∷ p) = ran_in_turns body ts (turn_in a.when) p
  ran_in (branch test first second) (branch_ran es true h) (a ∷ p) = ran_in first h p
  ran_in (branch test first second) (branch_ran es false h) (a ∷ p) = ran_in second h p
  ran_in node h (a ∷ p) = nothing_ran

  pub ran_in_groups : PlainStages → Groups → (group stage : ℕ) → List At → Ran
  ran_in_groups stages no_group g s p = nothing_ran
  ran_in_groups stages (more_group runs rest) zero s p = ran_in_stages stages runs s p
  ran_in_groups stages (more_group runs rest) (suc g) s p = ran_in_groups stages rest g s p

  pub ran_in_stages : PlainStages → Runs → (stage : ℕ) → List At → Ran
  ran_in_stages (more_stage first last comb node rest) (more_run h hs) zero p = ran_in node h p
  ran_in_stages (more_stage first last comb node rest) (more_run h hs) (suc s) p = ran_in_stages rest hs s p
  ran_in_stages (more_stage first last comb node rest) (masked_run hs) (suc s) p = ran_in_stages rest hs s p
  ran_in_stages stages runs s p = nothing_ran

  pub ran_in_turns : PlainNode → Turns → (turn : ℕ) → List At → Ran
  ran_in_turns body no_turn t p = nothing_ran
  ran_in_turns body (more_turn es h ns rest) zero p = ran_in body h p
  ran_in_turns body (more_turn es h ns rest) (suc t) p = ran_in_turns body rest t p
