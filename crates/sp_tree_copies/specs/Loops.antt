-- The numbers of copies of the memories that a loop owns.
use Rattle.std.specs.Prelude.{◌≡◌, ℕ, ◌<◌, ◌≤◌, max, true, length, slice_index}
use Rattle.sp_netlist.specs.Draft.{Draft}
use Rattle.sp_netlist.specs.Signals.{Signals}
use Rattle.sp_core.specs.Declarations.{is_among}
use Rattle.sp_plan.specs.PlainPlan.{PlainPlan, mem_plan}
use Rattle.sp_tree_events.specs.CopiesStanding.{HaveNumbers}
use Rattle.sp_copy_nets.specs.Numbers.{HaveComing, StandNumbers}
use Rattle.sp_copy_nets.specs.Table.{own_numbers, slot_numbers}
use Rattle.sp_tree_handed.specs.declared.owners.LoopTurns.{LoopTurns}
use Rattle.sp_tree_copies.specs.declared.numbers.LoopCopies.{LoopCopies}

-- as many copies as a memory has by the plan, or one where it has none
abbrev pub some_copies : PlainPlan → (mem : ℕ) → ℕ
some_copies plan m = max (mem_plan plan m).depth 1

-- where each memory that the loop owns has a copy, its slots have numbers, and others where they get groups; each slot has an entry for
-- each of these memories
pub record HasNumbers (plan : PlainPlan) (s : Signals) (turns : LoopTurns) (copies : LoopCopies) : Type 0 where
  pub stand : (x : ℕ) → x < length turns.firsts.items → HaveNumbers plan s turns.start (slice_index turns.firsts.items x) turns.owned.items (own_numbers turns.owned.items (slot_numbers copies.numbers.items x))
  pub come : (x : ℕ) → x < length turns.firsts.items → HaveComing plan s turns.start (slice_index turns.firsts.items x) turns.owned.items (own_numbers turns.owned.items (slot_numbers copies.coming.items x))
  pub each : length copies.numbers.items ≡ length turns.firsts.items
  pub long : (x : ℕ) → x < length turns.firsts.items → length (slot_numbers copies.numbers.items x) ≡ length turns.owned.items

abbrev pub HasCopies : PlainPlan → Signals → LoopTurns → LoopCopies → Type 0
HasCopies plan s turns copies = ((m : ℕ) → is_among m turns.owned.items ≡ true → 1 ≤ (mem_plan plan m).depth) → HasNumbers plan s turns copies

-- the nets that there are have 32 bits
pub record CopiesStand (d : Draft) (copies : LoopCopies) : Type 0 where
  pub numbers : (x : ℕ) → StandNumbers d (slot_numbers copies.numbers.items x)
  pub coming : (x : ℕ) → x < length copies.numbers.items → StandNumbers d (slot_numbers copies.coming.items x)
