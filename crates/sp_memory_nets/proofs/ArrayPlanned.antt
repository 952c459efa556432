-- A valid plan gives what memories need.
use Rattle.std.proofs.Common.{◌≡◌, ℕ, ◌<◌, true, if◌then◌else◌, length, sym, ap, ◌∙◌, arith, lt-ltb}
use Rattle.sp_words.specs.declared.kind.Kind.TheVariants.{Sram, Dram}
use Rattle.sp_core.specs.Declarations.{mem, kind_of}
use Rattle.sp_core.specs.PlainCore.{PlainCore}
use Rattle.sp_plan.specs.PlainPlan.{PlainPlan}
use Rattle.sp_plan.specs.Ports.{has_banks}
use Rattle.sp_core_ports.specs.CopiesLaws.{PlansHaveCopies}
use Rattle.sp_bank_words.specs.Layouts.{PlansHaveLayouts}
use Rattle.sp_memory_nets.specs.ArrayLaws.{ValidPlansHaveArrays}

has_own_banks : (core : PlainCore) (m : ℕ) → m < length core.mems → kind_of core m ≡ Sram → has_banks (mem core m).kind ≡ true
has_own_banks core m l sram = ap has_banks (sym (ap (λ b. if b then (mem core m).kind else Dram) (lt-ltb m (length core.mems) l)) ∙ sram)

pub valid_plans_have_arrays : (core : PlainCore) (plan : PlainPlan) → PlansHaveLayouts core plan → PlansHaveCopies core plan → ValidPlansHaveArrays core plan
valid_plans_have_arrays core plan lie have forms meets w space = record {
  memories = w.valid.memories;
  layouts = λ m l sram layout of. ((lie forms meets w m (space m) layout).0 sram of).layout;
  copies = λ m l. (let some = (have forms meets w m l).copy in omega (arith, some));
  duplicates = λ m l sram. (let some = (have forms meets w m l).duplicate (has_own_banks core m l sram) in omega (arith, some));
}
