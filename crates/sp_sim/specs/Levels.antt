-- Steps in an order in which they can be carried out, and levels by which they can be sorted.
use Rattle.std.specs.Prelude.{◌≡◌, ℕ, ◌+◌, ◌<◌, max, List, map, Contains}
use Rattle.sp_netlist.specs.Cells.{PlainCell}
use Rattle.sp_netlist.specs.Rules.{reads}
use Rattle.sp_netlist.specs.Order.{IsOrder}
use Rattle.sp_sim.specs.declared.step.Step.{Step}
use Rattle.sp_sim.specs.Rows.{word_of, with_word}
use Rattle.sp_sim.specs.Settling.{cell_at}
use Rattle.sp_sim.specs.Steps.{cell_of, cells_of}

-- the steps are those of the cells that compute, in an order in which operands come first
pub record AreOrdered (cells : List PlainCell) (steps : List Step) : Type 0 where
  pub order : List ℕ
  pub is_order : IsOrder cells order
  pub computed : cells_of steps ≡ map (cell_at cells) order

-- the net that a step computes has a higher level than each that its cell reads
abbrev pub Rises : List PlainCell → (ℕ → ℕ) → Step → Type 0
Rises cells level step = (net : ℕ) → Contains (map (λ p. p.0) (reads cells (cell_of step))) net → level net < level step.net

-- the levels once a step's net has one more than the greatest of its operands
unfoldable pub raised : List (ℕ × ℕ) → Step → List (ℕ × ℕ)
raised levels step = with_word levels step.net (max (max (word_of levels step.first) (word_of levels step.second)) (word_of levels step.third) + 1)
