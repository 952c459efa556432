-- Laws of the banks of a core's SRAMs, as statements.
use Rattle.std.specs.Prelude.{◌<◌, length, count_by, ◌≡◌, ℕ, List, Contains, Some}
use Rattle.sp_bank.specs.Banking.{Banking, InSpace}
use Rattle.sp_netlist.specs.Draft.{Draft}
use Rattle.sp_netlist.specs.Rules.{is_bank}
use Rattle.sp_gates.specs.Grows.{Grows}
use Rattle.sp_gates.specs.Nets.{IsOpen}
use Rattle.sp_core.specs.declared.access.Meet.{Meet}
use Rattle.sp_core.specs.Forms.{PlainForms}
use Rattle.sp_core.specs.PlainCore.{PlainCore}
use Rattle.sp_plan.specs.PlainPlan.{PlainPlan}
use Rattle.sp_plan.specs.Ports.{scheme_at}
use Rattle.sp_plan.specs.Validity.{schemes_of}
use Rattle.sp_overlap.specs.Whole.{HasPlan}
use Rattle.sp_taps.specs.Stores.{HasNoConflict}
use Rattle.sp_memory_nets.specs.declared.array_array.Array.{Array}
use Rattle.sp_memory_nets.specs.ArrayBanks.{HasArrayPlan, ArraysStand, AreNumbered, banks_before, wires_in}

-- the nets of ports that are to be driven are open
abbrev pub ArraysAreOpen : Type 0
ArraysAreOpen = (d : Draft) (core : PlainCore) (plan : PlainPlan) (arrays : List Array) → ArraysStand d core plan arrays → (net : ℕ) → Contains (wires_in arrays) net → IsOpen d net

-- where these are all banks that stand, no two enabled taps stand on a port of any bank
abbrev pub ArraysShareNone : Type 0
ArraysShareNone =
    (d : Draft) (core : PlainCore) (plan : PlainPlan) (arrays : List Array) → ArraysStand d core plan arrays → AreNumbered core plan 0 arrays → count_by is_bank d.cells ≡ banks_before core plan (length core.mems)
    → (bank : ℕ) → bank < count_by is_bank d.cells → HasNoConflict d bank

-- banks that stand still do in a later draft in which the nets of their ports are open
abbrev pub ArraysStay : Type 0
ArraysStay =
    (old new : Draft) (core : PlainCore) (plan : PlainPlan) (arrays : List Array) → Grows old new → ((net : ℕ) → Contains (wires_in arrays) net → IsOpen new net)
    → ArraysStand old core plan arrays → ArraysStand new core plan arrays

-- by a valid plan, whose schemes are of those that are searched, the banks of SRAMs can be added
abbrev pub ValidPlansHaveArrays : PlainCore → PlainPlan → Type 0
ValidPlansHaveArrays core plan =
    (forms : PlainForms) (meets : List Meet) → HasPlan core forms meets plan
    → ((m : ℕ) (b : Banking) → scheme_at (schemes_of plan) (Some m) ≡ Some b → InSpace b) → HasArrayPlan core plan
