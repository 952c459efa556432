-- How a memory lies in banks by a plan.
use Rattle.std.specs.Prelude.{◌≡◌, ℕ, List, ◌∷◌, length, drop, replicate, Option, Some, None}
use Rattle.sp_bank.specs.Banking.{Banking, InSpace}
use Rattle.sp_bank.specs.Places.{IsInside, bank as bank_number, offset}
use Rattle.sp_core.specs.declared.access.Meet.{Meet}
use Rattle.sp_core.specs.Declarations.{dims, kind_of}
use Rattle.sp_core.specs.Forms.{PlainForms}
use Rattle.sp_core.specs.PlainCore.{PlainCore}
use Rattle.sp_netlist.specs.Rules.{IsLength}
use Rattle.sp_overlap.specs.Whole.{HasPlan}
use Rattle.sp_places.specs.declared.layout.Layout.{Layout}
use Rattle.sp_places.specs.Layouts.{IsLayout, banking_of}
use Rattle.sp_plan.specs.PlainPlan.{PlainPlan}
use Rattle.sp_plan.specs.Ports.{scheme_at}
use Rattle.sp_plan.specs.Validity.{schemes_of}
use Rattle.sp_core_ports.specs.UsedPorts.{bank_at}
use Rattle.sp_words.specs.declared.kind.Kind.TheVariants.{Sram, LineBuf}

-- a memory without a scheme is one bank
abbrev pub one_bank : (rank : ℕ) → Banking
one_bank rank = record { banks = 1; block = 1; alpha = replicate rank 0; hinge = 0 }

abbrev pub banking_for : Option Banking → (rank : ℕ) → Banking
banking_for None rank = one_bank rank
banking_for (Some b) rank = b

-- the layout has the memory's dimensions and the scheme that the plan has for it
pub record IsLayoutOf (core : PlainCore) (plan : PlainPlan) (m : ℕ) (l : Layout) : Type 0 where
  pub sizes : l.dims.items ≡ dims core m
  pub banking : banking_of l ≡ banking_for (scheme_at (schemes_of plan) (Some m)) (length (dims core m))

-- By a valid plan, where the memory's scheme is of those that are searched, the layout of an SRAM can be emitted; its banks are those of the
-- ports that a run uses; and no two elements stand at one place of one bank.
pub record LayoutsStand (core : PlainCore) (plan : PlainPlan) (m : ℕ) (l : Layout) : Type 0 where
  pub layout : IsLayout l
  pub bank : (x : List ℕ) → bank_at Sram (scheme_at (schemes_of plan) (Some m)) x ≡ bank_number (banking_of l) x
  pub apart : (x y : List ℕ) → IsInside (dims core m) x → IsInside (dims core m) y → bank_number (banking_of l) x ≡ bank_number (banking_of l) y → offset (banking_of l) l.dims.items x ≡ offset (banking_of l) l.dims.items y → x ≡ y

-- the layout of the columns of a line buffer has what the plan has for it
pub record IsColumnsOf (core : PlainCore) (plan : PlainPlan) (m : ℕ) (l : Layout) : Type 0 where
  pub sizes : l.dims.items ≡ drop 1 (dims core m)
  pub banking : banking_of l ≡ banking_for (scheme_at (schemes_of plan) (Some m)) 1

-- and can be emitted, as can as many rows as the line buffer has
pub record ColumnsStand (core : PlainCore) (m : ℕ) (l : Layout) : Type 0 where
  pub layout : IsLayout l
  pub columns : length l.dims.items ≡ 1
  pub rows : ℕ
  pub length_of : IsLength rows
  pub sizes : rows ∷ l.dims.items ≡ dims core m

abbrev pub PlansHaveLayouts : PlainCore → PlainPlan → Type 0
PlansHaveLayouts core plan =
    (forms : PlainForms) (meets : List Meet) → HasPlan core forms meets plan
    → (m : ℕ) → ((b : Banking) → scheme_at (schemes_of plan) (Some m) ≡ Some b → InSpace b)
    → (l : Layout) → (kind_of core m ≡ Sram → IsLayoutOf core plan m l → LayoutsStand core plan m l) × (kind_of core m ≡ LineBuf → IsColumnsOf core plan m l → ColumnsStand core m l)
