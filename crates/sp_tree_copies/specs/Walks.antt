-- What a walk over a tree adds to the nets of copies, and that these stand in a draft.
use Rattle.std.specs.Prelude.{◌≡◌, ℕ, zero, suc, ◌+◌, ◌<◌, ◌≤◌, ◌==◌, true, if◌then◌else◌, List, [], ◌∷◌, ◌++◌, length, slice_index, All, Option}
use Rattle.std.specs.List.{AllZip}
use Rattle.sp_netlist.specs.declared.parts.Child.{Child}
use Rattle.sp_netlist.specs.Draft.{Draft}
use Rattle.sp_netlist.specs.Signals.{Signals}
use Rattle.sp_core.specs.Around.{Near}
use Rattle.sp_core.specs.Declarations.{is_among}
use Rattle.sp_core.specs.Invariant.{owned_in, owned_in_stages}
use Rattle.sp_core.specs.Numbering.{node_count, node_count_in}
use Rattle.sp_core.specs.PlainCore.{PlainNode, PlainStages, PlainCore}
use Rattle.sp_plan.specs.PlainPlan.{PlainNodePlan, PlainPlan, mem_plan}
use Rattle.sp_machine.specs.Timeline.{slot_numbers as slots_by}
use Rattle.sp_node_runs.specs.BodiesGiven.{Nets}
use Rattle.sp_mem.specs.Fits.{CopyFits}
use Rattle.sp_tree_circuits.specs.Circuits.{Circuit, StageCircuits}
use Rattle.sp_tree_events.specs.CopiesStanding.{CopyNets, with_numbers}
use Rattle.sp_copy_nets.specs.Numbers.{StandNumbers}
use Rattle.sp_copy_nets.specs.Table.{own_numbers, slot_numbers}
use Rattle.sp_tree_handed.specs.declared.owners.Keeping.{Keeping}
use Rattle.sp_tree_handed.specs.declared.owners.LoopTurns.{LoopTurns}
use Rattle.sp_tree_handed.specs.declared.owners.Renewal.{Renewal}
use Rattle.sp_tree_handed.specs.Owners.{first_use, keeping, AreTurns, StagesTurn}
use Rattle.sp_tree_handed.specs.Standing.{AreTurnsStanding, AreOwnersStanding}
use Rattle.sp_tree_copies.specs.declared.numbers.LoopCopies.{LoopCopies}
use Rattle.sp_tree_copies.specs.declared.walk.Walk.{Walk}
use Rattle.sp_tree_copies.specs.Loops.{HasCopies, CopiesStand}
use Rattle.sp_tree_copies.specs.Naming.{Said, renewed_by, AreNamed, StagesNamed}

-- these come behind those before, and the walk goes on behind so many loops and nets of states
pub record Adds (names : List (Option ℕ)) (renewed : List Renewal) (kept : List Keeping) (loops states : ℕ) (before after : Walk) : Type 0 where
  pub names_are : after.names.items ≡ before.names.items ++ names
  pub renewed_are : after.renewed.items ≡ before.renewed.items ++ renewed
  pub kept_are : after.kept.items ≡ before.kept.items ++ kept
  pub loops_are : after.loops ≡ before.loops + loops
  pub states_are : after.states ≡ before.states + states

-- the next net of a state, in a copy
abbrev pub KeepsNext : List Keeping → (copy : Option ℕ) → (before after : Walk) → Type 0
KeepsNext kept copy before after =
    (passed rest : List Keeping) (x : Keeping) → kept ≡ passed ++ (x ∷ rest) → before.states ≡ length passed → Adds [] [] (keeping x.mem x.done x.word copy ∷ []) 0 1 before after

-- the next loop makes its memories fresh, each by the first slot that uses it
abbrev pub RenewsNext : PlainCore → PlainNodePlan → PlainStages → (owned : List ℕ) → List LoopTurns → List LoopCopies → (before after : Walk) → Type 0
RenewsNext core p stages owned turns loops before after =
    (passed rest : List LoopTurns) (own : LoopTurns) (gone more : List LoopCopies) (copies : LoopCopies) → turns ≡ passed ++ (own ∷ rest) → loops ≡ gone ++ (copies ∷ more) → length gone ≡ length passed → before.loops ≡ length passed
    → length copies.numbers.items ≡ length own.firsts.items → ((m : ℕ) → first_use core p stages m < length own.firsts.items)
    → Adds [] (renewed_by (first_use core p stages) own.firsts.items (λ x. own_numbers owned (slot_numbers copies.coming.items x)) owned) [] 1 0 before after

-- the nets of a slot of a loop
abbrev pub nets_in : List LoopCopies → (loop slot : ℕ) → List (Option ℕ)
nets_in [] at x = []
nets_in (copies ∷ loops) zero x = slot_numbers copies.numbers.items x
nets_in (copies ∷ loops) (suc at) x = nets_in loops at x

-- those inside of it, where there is one for each of its memories
abbrev pub inside : CopyNets → (owned : List ℕ) → List (Option ℕ) → CopyNets
inside around owned nets m = if length nets == length owned then with_numbers around owned (own_numbers owned nets) m else around m

-- and those inside of a stage, by the slot that the plan gives it
abbrev pub inside_stage : PlainNodePlan → CopyNets → (owned : List ℕ) → List LoopCopies → (loop stage : ℕ) → CopyNets
inside_stage p around owned loops at i = inside around owned (nets_in loops at (slice_index (slots_by p) i))

-- what was walked over is said of a circuit that has the next loops and nets of states
pub record Walked (Named : Said) (now : List LoopTurns) (now_kept : List Keeping) (before after : Walk) : Type 0 where
  pub names : List (Option ℕ)
  pub renewed : List Renewal
  pub kept : List Keeping
  pub adds : Adds names renewed kept (length now) (length now_kept) before after
  pub named : Named names renewed kept

-- a circuit has these loops and nets of states, among all of them, where the walk is
pub record IsNext (turns : List LoopTurns) (kept : List Keeping) (now : List LoopTurns) (now_kept : List Keeping) (before : Walk) : Type 0 where
  pub passed : List LoopTurns
  pub rest : List LoopTurns
  pub passed_kept : List Keeping
  pub rest_kept : List Keeping
  pub turns_are : turns ≡ passed ++ (now ++ rest)
  pub kept_are : kept ≡ passed_kept ++ (now_kept ++ rest_kept)
  pub loop : before.loops ≡ length passed
  pub state : before.states ≡ length passed_kept

-- each memory that is owned in a part has a copy
abbrev pub AreCopied : PlainPlan → (owned : List ℕ) → Type 0
AreCopied plan owned = (m : ℕ) → is_among m owned ≡ true → 1 ≤ (mem_plan plan m).depth

module _ (core : PlainCore) (plan : PlainPlan) (turns : List LoopTurns) (kept : List Keeping) (loops : List LoopCopies) where
  -- so it is with each circuit of a part
  abbrev pub WalksNode : PlainNode → (k : ℕ) → CopyNets → (before after : Walk) → Type 0
  WalksNode node k around before after =
      k + node_count node ≤ length plan.nodes → AreCopied plan (owned_in node) → (s : Signals) → AllZip (HasCopies plan s) turns loops
      → (near : List Near) (env : Nets) (c : Child) (w : Circuit core plan s node near env k c) (now : List LoopTurns) (now_kept : List Keeping) → IsNext turns kept now now_kept before → AreTurns core plan s node near env k c w now now_kept
      → Walked (AreNamed core plan s node near env k c w around) now now_kept before after

  -- and of stages, from one on
  abbrev pub WalksStages : PlainStages → (k i : ℕ) → (around : (stage : ℕ) → CopyNets) → (before after : Walk) → Type 0
  WalksStages stages k i around before after =
      k + node_count_in stages ≤ length plan.nodes → AreCopied plan (owned_in_stages stages) → (s : Signals) → AllZip (HasCopies plan s) turns loops
      → (near : List Near) (nets : (stage : ℕ) → Nets) (child : (stage : ℕ) → Child) (w : StageCircuits core plan s stages near k i nets child) (now : List LoopTurns) (now_kept : List Keeping) → IsNext turns kept now now_kept before → StagesTurn core plan s stages near k i nets child w now now_kept
      → Walked (StagesNamed core plan s stages near k i nets child w around) now now_kept before after

-- what a walk goes over stands in a draft
pub record AllStand (core : PlainCore) (turns : List LoopTurns) (kept : List Keeping) (loops : List LoopCopies) (d : Draft) : Type 0 where
  pub handed : AreTurnsStanding d core turns kept
  pub copies : All (CopiesStand d) loops

-- what a walk has found stands in a draft: nets of copies have 32 bits
pub record WalkStands (d : Draft) (core : PlainCore) (walk : Walk) : Type 0 where
  pub names : StandNumbers d walk.names.items
  pub owners : AreOwnersStanding d core walk.renewed.items walk.kept.items
  pub renewed : All (λ (r : Renewal). CopyFits d r.copy) walk.renewed.items
  pub kept : All (λ (k : Keeping). CopyFits d k.copy) walk.kept.items

abbrev pub KeepsStanding : PlainCore → List LoopTurns → List Keeping → List LoopCopies → (around : List (Option ℕ)) → (before after : Walk) → Type 0
KeepsStanding core turns kept loops around before after = (d : Draft) → AllStand core turns kept loops d → StandNumbers d around → WalkStands d core before → WalkStands d core after
