-- A worked body: it writes the word 1 to an output, on the side of the branch that is taken of the core `chosen` of the timeline's
-- examples.
use Rattle.std.specs.Prelude.{◌≡◌, List, [], ◌∷◌, None}
use Rattle.sp_words.specs.Types.{int_type}
use Rattle.sp_netlist.specs.declared.parts.Child.{Child}
use Rattle.sp_netlist.specs.Draft.{Draft}
use Rattle.sp_netlist.specs.Signals.{Signals}
use Rattle.sp_gates.specs.Runs.{RunsOn}
use Rattle.sp_core.specs.ExampleForms.{lit, write}
use Rattle.sp_core.specs.PlainCore.{PlainOp, PlainNode, inner}
use Rattle.sp_machine.specs.Examples.{chosen, chosen_plan}
use Rattle.sp_pipe.specs.declared.part.Act.TheVariants.{Word, Write}
use Rattle.sp_pipe.specs.declared.part.PipeOp.{PipeOp}
use Rattle.sp_node_runs.specs.BodiesGiven.{Nets}
use Rattle.sp_tree_circuits.specs.Circuits.{Circuit}

abbrev pub ops : List PlainOp
ops = lit 1 ∷ write 1 (0 ∷ []) ∷ []

abbrev pub body : PlainNode
body = inner [] [] ops None

-- the word 1, and a write of it, both where the group is issued
pub record IsWord (op : PipeOp) : Type 0 where
  pub act : op.act ≡ Word 1
  pub ty : op.ty ≡ int_type
  pub args : op.args.items ≡ []
  pub mask : op.mask ≡ None
  pub time : op.time ≡ 0

pub record IsWrite (op : PipeOp) : Type 0 where
  pub act : op.act ≡ Write
  pub ty : op.ty ≡ int_type
  pub args : op.args.items ≡ 0 ∷ []
  pub mask : op.mask ≡ None
  pub time : op.time ≡ 0

-- the draft has its circuit, whatever stands around it
abbrev pub HasBody : Draft → Child → Type 0
HasBody d c = (env : Nets) (s : Signals) → RunsOn s d.cells → Circuit chosen chosen_plan s body [] env 2 c
