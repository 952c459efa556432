-- The accesses of a list of operations to one memory: by which port, and with which forms.
use Rattle.std.specs.Prelude.{ℕ, suc, ◌==◌, Bool, true, false, ◌&&◌, ◌||◌, not, List, [], ◌∷◌, ◌++◌, Option, Some, None, if◌then◌else◌}
use Rattle.std.specs.List.{list_all}
use Rattle.sp_affine.specs.Affine.{Affine}
use Rattle.sp_core.specs.declared.operation.OpKind.{OpKind}
use Rattle.sp_core.specs.declared.operation.OpKind.TheVariants.{Read, Write}
use Rattle.sp_core.specs.Forms.{PlainForms}
use Rattle.sp_core.specs.PlainCore.{PlainOp, PlainCore}
use Rattle.sp_plan.specs.Groups.{is_one_group, known_forms}
use Rattle.sp_plan.specs.Ports.{is_one_mem}

-- by the port to be read, or by that to be written; forms are known or aren't
pub record PlainUse : Type 0 where
  pub reads : Bool
  pub forms : Option (List Affine)

-- by which port an operation of a kind uses its memory
abbrev pub port_of : OpKind → Option Bool
port_of Read = Some true
port_of Write = Some false
port_of _ = None

abbrev pub port_to : (mem : ℕ) → PlainOp → Option Bool
port_to m op = if is_one_mem op.mem (Some m) then port_of op.kind else None

abbrev pub use_by : Option Bool → Option (List Affine) → List PlainUse
use_by None forms = []
use_by (Some reads) forms = record { reads = reads; forms = forms } ∷ []

module _ (core : PlainCore) (forms : PlainForms) (mem : ℕ) where
  -- of operations whose first one has a number
  abbrev pub uses_in : (number : ℕ) → List PlainOp → List PlainUse
  uses_in n [] = []
  uses_in n (op ∷ ops) = use_by (port_to mem op) (known_forms core forms n op) ++ uses_in (suc n) ops

-- whether two are by one port
abbrev pub share : PlainUse → PlainUse → Bool
share a b = if a.reads then b.reads else not b.reads

-- whether two that are by one port are of one group
abbrev pub is_grouped_with : PlainUse → PlainUse → Bool
is_grouped_with a b = not (share a b) || is_one_group a.forms b.forms

-- each two of a list
abbrev pub are_one_group : List PlainUse → Bool
are_one_group [] = true
are_one_group (a ∷ rest) = list_all (is_grouped_with a) rest && are_one_group rest
