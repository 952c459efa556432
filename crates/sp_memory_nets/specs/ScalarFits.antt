-- When the circuit of a memory of one word can be emitted.
use Rattle.std.specs.Prelude.{◌≡◌, ℕ, ◌<◌, ◌≤◌, List, length, All}
use Rattle.std.specs.List.{Contains}
use Rattle.sp_words.specs.declared.kind.Kind.TheVariants.{ArgIn}
use Rattle.sp_words.specs.Types.{width_of}
use Rattle.sp_netlist.specs.Draft.{Draft}
use Rattle.sp_gates.specs.Nets.{HasNet, IsOpen}
use Rattle.sp_core.specs.Declarations.{mem, kind_of}
use Rattle.sp_core.specs.PlainCore.{PlainCore}
use Rattle.sp_plan.specs.PlainPlan.{PlainPlan, mem_plan}
use Rattle.sp_mem.specs.Fits.{CopyFits}
use Rattle.sp_op_nets.specs.Reserved.{Rise}
use Rattle.sp_access_nets.specs.declared.access.AccessNets.{AccessNets}
use Rattle.sp_tree_handed.specs.declared.owners.Keeping.{Keeping}
use Rattle.sp_tree_handed.specs.declared.owners.OwnerNets.{OwnerNets}
use Rattle.sp_tree_handed.specs.declared.owners.Renewal.{Renewal}
use Rattle.sp_tree_handed.specs.Scalars.{IsScalar}
use Rattle.sp_tree_handed.specs.Standing.{AccessStands, OwnersStand}
use Rattle.sp_memory_nets.specs.ScalarLists.{answers_to}

-- owners have nets of copies that are 32 bits wide
pub record OwnersNameCopies (d : Draft) (owners : OwnerNets) : Type 0 where
  pub renewed : All (λ (r : Renewal). CopyFits d r.copy) owners.renewed.items
  pub kept : All (λ (k : Keeping). CopyFits d k.copy) owners.kept.items

-- the memory has some copies by the plan, and an argument has the net of its port
pub record ScalarFits (d : Draft) (core : PlainCore) (plan : PlainPlan) (accesses : List AccessNets) (owners : OwnerNets) (port start m : ℕ) : Type 0 where
  pub within : m < length core.mems
  pub planned : length plan.mems ≡ length core.mems
  pub copies : 1 ≤ (mem_plan plan m).depth
  pub scalar : IsScalar (kind_of core m)
  pub starts : HasNet d start 1
  pub ported : kind_of core m ≡ ArgIn → HasNet d port (width_of (mem core m).ty)
  pub accesses_stand : All (AccessStands d core) accesses
  pub accesses_copied : All (λ (a : AccessNets). CopyFits d a.copy) accesses
  pub owners_stand : OwnersStand d core owners
  pub owners_copied : OwnersNameCopies d owners
  -- its readers wait for their words, each on a net of its own
  pub awaiting : (net : ℕ) → Contains (answers_to m accesses) net → IsOpen d net
  pub rise : Rise 0 (answers_to m accesses)
