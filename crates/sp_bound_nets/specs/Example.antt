-- A worked bound: twice the counter around, and one more.
use Rattle.std.specs.Prelude.{◌≡◌, ℕ, ℤ, pos, ◌+ℤ◌, ◌*ℤ◌, List, [], ◌∷◌}
use Rattle.sp_words.specs.declared.kind.BinOp.TheVariants.{Add, Mul}
use Rattle.sp_words.specs.Types.{int_type}
use Rattle.sp_words.specs.Words.{wrap}
use Rattle.sp_netlist.specs.Draft.{Draft}
use Rattle.sp_netlist.specs.Signals.{Signals}
use Rattle.sp_gates.specs.Runs.{RunsOn}
use Rattle.sp_core.specs.Around.{Near}
use Rattle.sp_core.specs.ExampleForms.{count, lit, two}
use Rattle.sp_core.specs.PlainCore.{PlainOp}
use Rattle.sp_op_nets.specs.declared.table.AroundNets.{AroundNets}
use Rattle.sp_op_nets.specs.Table.{nets_at, StandAround}

abbrev pub odd_ops : List PlainOp
odd_ops = count 0 0 ∷ lit 2 ∷ two Mul 1 0 ∷ lit 1 ∷ two Add 2 3 ∷ []

-- one counter is around, with one lane
abbrev pub one_near : List Near
one_near = record { number = 0; lanes = 1 } ∷ []

-- it stands in a table, with its value on this net
pub record HasCounter (d : Draft) (table : List AroundNets) (value : ℕ) : Type 0 where
  pub stands : StandAround d table one_near
  pub is_value : (nets_at table 0).value ≡ value

-- where the net of the counter has the word of a number, the other net has in the same cycle that of twice the number and one more
abbrev pub GivesOdd : Draft → (value net : ℕ) → Type 0
GivesOdd d value net = (s : Signals) → RunsOn s d.cells → (t : ℕ) (i : ℤ) → s.net t value ≡ wrap int_type i → s.net t net ≡ wrap int_type (pos 2 *ℤ i +ℤ pos 1)
