-- No two enabled taps stand on a port of any bank.
use Rattle.std.proofs.Common.{◌≡◌, ℕ, zero, suc, ◌+◌, ◌-◌, ◌<◌, ◌≤◌, ◌⊎◌, inl, inr, List, length, count_by, sym, ap, subst, ◌∙◌, arith}
use Rattle.sp_words.specs.Types.{width_of}
use Rattle.sp_netlist.specs.Draft.{Draft}
use Rattle.sp_netlist.specs.Rules.{is_bank}
use Rattle.sp_core.specs.Declarations.{mem}
use Rattle.sp_core.specs.PlainCore.{PlainCore}
use Rattle.sp_plan.specs.PlainPlan.{PlainPlan}
use Rattle.sp_taps.specs.declared.store.Store.{Store}
use Rattle.sp_taps.specs.Stores.{HasNoConflict}
use Rattle.sp_memory_nets.specs.declared.array_array.Array.{Array}
use Rattle.sp_memory_nets.specs.ArrayBanks.{ArraysStand, AreNumbered, array_banks, banks_before, bank_at, stores_at}

lt_or : (a b : ℕ) → (a < b) ⊎ (b ≤ a)
lt_or a b = grind arith

no_store : Store
no_store = record { write = 0; write_at = 0; word = 0; read = 0; read_at = 0; found = 0 }

module _ (core : PlainCore) (plan : PlainPlan) where
  -- the memory and the place of a bank among its banks
  pub record IsBankOf (m bank : ℕ) : Type 0 where
    pub mem : ℕ
    pub within : mem < m
    pub place : ℕ
    pub below : place < array_banks core plan mem
    pub is : bank ≡ banks_before core plan mem + place

  pub bank_of : (m bank : ℕ) → bank < banks_before core plan m → IsBankOf m bank
  bank_of zero bank l = absurd (omega (arith, l))
  bank_of (suc m) bank l = elim (lt_or bank (banks_before core plan m)) [
    | inl less ↦ let r = bank_of m bank less in record { mem = r.mem; within = (let b = r.within in omega (arith, b)); place = r.place; below = r.below; is = r.is }
    | inr more ↦ record { mem = m; within = omega arith; place = bank - banks_before core plan m; below = omega (arith, l, more); is = omega (arith, more) }
  ]

pub arrays_share_none : (d : Draft) (core : PlainCore) (plan : PlainPlan) (arrays : List Array) → ArraysStand d core plan arrays → AreNumbered core plan 0 arrays → count_by is_bank d.cells ≡ banks_before core plan (length core.mems)
    → (bank : ℕ) → bank < count_by is_bank d.cells → HasNoConflict d bank
arrays_share_none d core plan arrays h numbered count bank l =
    let r = bank_of core plan (length core.mems) bank (omega (arith, l, count)) in
    let stand = h.stand r.mem r.within in
    let within : r.place < length (stores_at arrays r.mem) = (let e = stand.each in let b = r.below in omega (arith, e, b)) in
    let same : bank_at arrays r.mem + r.place ≡ bank = (let n = numbered r.mem r.within in let e = r.is in omega (arith, n, e)) in
    subst (HasNoConflict d) same (stand.banks r.place no_store within).no_conflict
