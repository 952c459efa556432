-- What the circuit of a tree hands on of its owners: of a loop its start, the memories that it owns and the nets that are 1 where its slots
-- get groups, and of an FSM those of its state, which it keeps where its start or its next state is over. A loop makes a memory that it
-- owns fresh where the first slot that uses it gets a group.
use Rattle.std.specs.Prelude.{◌≡◌, ℕ, suc, ◌+◌, List, [], ◌∷◌, ◌++◌, Option, Some, None}
use Rattle.sp_netlist.specs.declared.parts.Child.{Child}
use Rattle.sp_netlist.specs.Signals.{Signals}
use Rattle.sp_core.specs.Around.{Near}
use Rattle.sp_core.specs.Numbering.{node_count}
use Rattle.sp_core.specs.PlainCore.{PlainNode, PlainStages, inner, outer, fsm, branch, load, store, sparse, no_stage, more_stage, PlainCore}
use Rattle.sp_plan.specs.Copies.{used_slots}
use Rattle.sp_plan.specs.PlainPlan.{PlainNodePlan, PlainPlan, node_plan}
use Rattle.sp_time.specs.Beats.{slot_at}
use Rattle.sp_machine.specs.Timeline.{slots_of, slot_numbers, least}
use Rattle.sp_node_runs.specs.BodiesGiven.{Nets}
use Rattle.sp_node_runs.specs.BodiesLaws.{own_near}
use Rattle.sp_tree_circuits.specs.Circuits.{slot_nets, Circuit, StageCircuits}
use Rattle.sp_tree_handed.specs.declared.owners.Keeping.{Keeping}
use Rattle.sp_tree_handed.specs.declared.owners.LoopTurns.{LoopTurns}
use Rattle.sp_tree_handed.specs.declared.owners.Renewal.{Renewal}

-- the first slot of the stages that use a memory, as the timeline has it
abbrev pub first_use : PlainCore → PlainNodePlan → PlainStages → (mem : ℕ) → ℕ
first_use core p stages m = least (used_slots core m stages (slot_numbers p))

-- the least slot, with those that were met before
abbrev pub least_with : Option ℕ → List ℕ → ℕ
least_with None slots = least slots
least_with (Some met) slots = least (met ∷ slots)

-- what is done in one copy, or in that whose number a net has
abbrev pub renewal : (mem first : ℕ) → (copy : Option ℕ) → Renewal
renewal m first copy = record { mem = m; first = first; copy = copy }

abbrev pub keeping : (mem done word : ℕ) → (copy : Option ℕ) → Keeping
keeping m done word copy = record { mem = m; done = done; word = word; copy = copy }

-- of two parts those of the first one, and then those of the other
pub record OfBoth (One Other : List LoopTurns → List Keeping → Type 0) (turns : List LoopTurns) (kept : List Keeping) : Type 0 where
  pub one : List LoopTurns
  pub other : List LoopTurns
  pub one_kept : List Keeping
  pub other_kept : List Keeping
  pub turns_are : turns ≡ one ++ other
  pub kept_are : kept ≡ one_kept ++ other_kept
  pub first : One one one_kept
  pub second : Other other other_kept

-- a loop's own, and then those of its stages
pub record OfLoop (start : ℕ) (owned firsts : List ℕ) (Stages : List LoopTurns → List Keeping → Type 0) (turns : List LoopTurns) (kept : List Keeping) : Type 0 where
  pub own : LoopTurns
  pub rest : List LoopTurns
  pub turns_are : turns ≡ own ∷ rest
  pub start_is : own.start ≡ start
  pub owned_are : own.owned.items ≡ owned
  pub firsts_are : own.firsts.items ≡ firsts
  pub stages : Stages rest kept

-- an FSM's own, and then those of its body
pub record OfMachine (own : List Keeping) (Body : List LoopTurns → List Keeping → Type 0) (turns : List LoopTurns) (kept : List Keeping) : Type 0 where
  pub rest : List Keeping
  pub kept_are : kept ≡ own ++ rest
  pub body : Body turns rest

module _ (core : PlainCore) (plan : PlainPlan) (s : Signals) where
  abbrev mutual
    pub AreTurns : (node : PlainNode) (near : List Near) (env : Nets) (k : ℕ) (c : Child) → Circuit core plan s node near env k c → List LoopTurns → List Keeping → Type 0
    AreTurns (branch ops first second) near env k c w turns kept =
        OfBoth (AreTurns first near env (suc k) w.chosen w.one) (AreTurns second near env (suc k + node_count first) w.left w.other) turns kept
    AreTurns (fsm start state ops node after) near env k c w turns kept =
        OfMachine (keeping state w.first.done w.begun None ∷ keeping state w.next.done w.stepped None ∷ []) (AreTurns node near env (suc k) w.body w.goes) turns kept
    AreTurns (outer counters style owned stages) near env k c w turns kept =
        OfLoop c.start owned w.firsts
        (StagesTurn stages (own_near counters near) (suc k) 0 (λ i. slot_nets w.nets w.rows env counters (slot_at (slots_of (node_plan plan k)) i).slot) w.child w.parts) turns kept
    AreTurns (inner counters owned ops comb) near env k c w turns kept = (turns ≡ []) × (kept ≡ [])
    AreTurns (load r m spans) near env k c w turns kept = (turns ≡ []) × (kept ≡ [])
    AreTurns (store r m spans) near env k c w turns kept = (turns ≡ []) × (kept ≡ [])
    AreTurns (sparse kind r m places spans count par) near env k c w turns kept = ⊥

    pub StagesTurn : (stages : PlainStages) (near : List Near) (j i : ℕ) (nets : (stage : ℕ) → Nets) (child : (stage : ℕ) → Child) → StageCircuits core plan s stages near j i nets child → List LoopTurns → List Keeping → Type 0
    StagesTurn no_stage near j i nets child w turns kept = (turns ≡ []) × (kept ≡ [])
    StagesTurn (more_stage first last comb node rest) near j i nets child w turns kept =
        OfBoth (AreTurns node near (nets i) j (child i) w.0) (StagesTurn rest near (j + node_count node) (suc i) nets child w.1) turns kept
