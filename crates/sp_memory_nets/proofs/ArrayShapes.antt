-- A memory in banks of the shape of an SRAM has its banks.
use Rattle.std.proofs.Common.{◌≡◌, ℕ, ◌+◌, ◌*◌, ◌<◌, ◌≤◌, ◌^◌, List, length, All, sym, ap, subst, ◌∙◌}
use Rattle.sp_words.specs.declared.kind.Kind.TheVariants.{Sram}
use Rattle.sp_words.specs.declared.types.Ty.{Ty}
use Rattle.sp_words.specs.Types.{width_of}
use Rattle.sp_bank.specs.Banking.{Banking}
use Rattle.sp_bank.specs.Places.{bank_length}
use Rattle.sp_netlist.specs.Draft.{Draft}
use Rattle.sp_core.specs.Declarations.{mem, kind_of, dims, depth}
use Rattle.sp_core.specs.PlainCore.{PlainCore}
use Rattle.sp_plan.specs.PlainPlan.{PlainPlan, mem_plan}
use Rattle.sp_taps.specs.declared.store.Store.{Store}
use Rattle.sp_taps.specs.Wires.{AreWires}
use Rattle.sp_taps.specs.Stores.{AreStores, bank_cells}
use Rattle.sp_banked.specs.declared.part.Banked.{Banked}
use Rattle.sp_banked.specs.Fits.{bank_count, bank_size, IsShape, StoresFit}
use Rattle.sp_memory_nets.specs.ArrayArrays.{HasShapeOf}
use Rattle.sp_memory_nets.specs.ArrayBanks.{HasArrayPlan, ArrayStands, array_banking, banks_of_kind, size_of_kind, array_banks, array_size}

module _ (core : PlainCore) (plan : PlainPlan) (m : ℕ) (part : Banked) (sram : kind_of core m ≡ Sram) (h : HasShapeOf core plan m part) where
  pub count_is : bank_count part ≡ array_banks core plan m
  count_is =
      let p = mem_plan plan m in
      ap (λ n. n * (part.copies * part.layout.banks)) h.duplicates ∙ ap (λ n. p.duplicates * (n * part.layout.banks)) h.copies ∙ ap (λ (b : Banking). p.duplicates * (p.depth * b.banks)) h.layout.banking
      ∙ sym (ap (λ k. banks_of_kind k (p.duplicates * (p.depth * (array_banking core plan m).banks)) p.depth) sram)

  pub size_is : bank_size part ≡ array_size core plan m
  size_is =
      ap (λ (b : Banking). bank_length b part.layout.dims.items) h.layout.banking ∙ ap (bank_length (array_banking core plan m)) h.layout.sizes
      ∙ sym (ap (λ k. size_of_kind k (bank_length (array_banking core plan m) (dims core m)) (depth core m)) sram)

  pub shape_is : HasArrayPlan core plan → m < length core.mems → bank_count part < 2 ^ 32 → part.bank + bank_count part < 2 ^ 64 → IsShape part
  shape_is planned within few numbers = record {
    layout = planned.layouts m within sram part.layout h.layout;
    copies = subst (λ n. 1 ≤ n) (sym h.copies) (planned.copies m within);
    duplicates = subst (λ n. 1 ≤ n) (sym h.duplicates) (planned.duplicates m within sram);
    few = few;
    numbers = numbers;
  }

  pub stores_fit : (d : Draft) (stores : List Store) → ArrayStands d core plan m part.bank stores → StoresFit d part stores
  stores_fit d stores s = record {
    each = s.each ∙ sym count_is;
    rows = s.rows;
    wires = subst (λ (ty : Ty). All (AreWires d (width_of ty)) stores) (sym h.ty) s.wires;
    banks = subst (λ n. AreStores d part.bank (width_of part.ty) n stores) (sym size_is) (subst (λ (ty : Ty). AreStores d part.bank (width_of ty) (array_size core plan m) stores) (sym h.ty) s.banks);
  }

  pub stands : (d : Draft) (stores : List Store) → bank_count part < 2 ^ 32 → part.bank + bank_count part < 2 ^ 64 → StoresFit d part stores → ArrayStands d core plan m part.bank stores
  stands d stores few numbers s = record {
    few = subst (λ n. n < 2 ^ 32) count_is few;
    numbers = subst (λ n. part.bank + n < 2 ^ 64) count_is numbers;
    each = s.each ∙ count_is;
    rows = s.rows;
    wires = subst (λ (ty : Ty). All (AreWires d (width_of ty)) stores) h.ty s.wires;
    banks = subst (λ n. AreStores d part.bank (width_of (mem core m).ty) n stores) size_is (subst (λ (ty : Ty). AreStores d part.bank (width_of ty) (bank_size part) stores) h.ty s.banks);
  }

  pub cells_are : (bank : ℕ) → part.bank ≡ bank → bank_cells part.bank (width_of part.ty) (bank_size part) (bank_count part) ≡ bank_cells bank (width_of (mem core m).ty) (array_size core plan m) (array_banks core plan m)
  cells_are bank e =
      ap (λ n. bank_cells n (width_of part.ty) (bank_size part) (bank_count part)) e ∙ ap (λ (ty : Ty). bank_cells bank (width_of ty) (bank_size part) (bank_count part)) h.ty
      ∙ ap (λ n. bank_cells bank (width_of (mem core m).ty) n (bank_count part)) size_is ∙ ap (bank_cells bank (width_of (mem core m).ty) (array_size core plan m)) count_is
