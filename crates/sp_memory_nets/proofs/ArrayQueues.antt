-- The banks of a FIFO: one for each copy, as long as it is deep.
use Rattle.std.proofs.Common.{◌≡◌, ℕ, ◌+◌, ◌*◌, ◌<◌, ◌^◌, List, length, All, sym, ap, subst, ◌∙◌}
use Rattle.sp_words.specs.declared.kind.Kind.TheVariants.{Fifo}
use Rattle.sp_words.specs.Types.{width_of}
use Rattle.sp_bank.specs.Places.{bank_length}
use Rattle.sp_netlist.specs.Draft.{Draft}
use Rattle.sp_core.specs.Declarations.{mem, kind_of, dims, depth}
use Rattle.sp_core.specs.PlainCore.{PlainCore}
use Rattle.sp_plan.specs.PlainPlan.{PlainPlan, mem_plan}
use Rattle.sp_taps.specs.declared.store.Store.{Store}
use Rattle.sp_taps.specs.Wires.{AreInRows, AreWires}
use Rattle.sp_taps.specs.Stores.{AreStores, bank_cells}
use Rattle.sp_memory_nets.specs.ArrayBanks.{ArrayStands, array_banking, banks_of_kind, size_of_kind, array_banks, array_size}

module _ (core : PlainCore) (plan : PlainPlan) (m : ℕ) (fifo : kind_of core m ≡ Fifo) where
  banks_are : array_banks core plan m ≡ (mem_plan plan m).depth
  banks_are = ap (λ k. banks_of_kind k ((mem_plan plan m).duplicates * ((mem_plan plan m).depth * (array_banking core plan m).banks)) (mem_plan plan m).depth) fifo

  size_is : array_size core plan m ≡ depth core m
  size_is = ap (λ k. size_of_kind k (bank_length (array_banking core plan m) (dims core m)) (depth core m)) fifo

  pub fifo_stands : (d : Draft) (bank : ℕ) (stores : List Store) → (mem_plan plan m).depth < 2 ^ 32 → bank + (mem_plan plan m).depth < 2 ^ 64 → length stores ≡ (mem_plan plan m).depth
      → (first : ℕ) × AreInRows first stores → All (AreWires d (width_of (mem core m).ty)) stores → AreStores d bank (width_of (mem core m).ty) (depth core m) stores → ArrayStands d core plan m bank stores
  fifo_stands d bank stores few numbers each rows wires banks = record {
    few = subst (λ n. n < 2 ^ 32) (sym banks_are) few;
    numbers = subst (λ n. bank + n < 2 ^ 64) (sym banks_are) numbers;
    each = each ∙ sym banks_are;
    rows = rows;
    wires = wires;
    banks = subst (λ n. AreStores d bank (width_of (mem core m).ty) n stores) (sym size_is) banks;
  }
