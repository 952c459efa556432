-- The widths of banks and DRAMs stand in the order of their numbers.
use Rattle.std.proofs.Common.{◌≡◌, ℕ, suc, ◌+◌, ◌-◌, ◌<◌, ◌≤◌, cond, List, [], ◌∷◌, ◌++◌, length, get_or, take, flat_map, Contains, Option, filter_map, count_by, slice_index, refl, sym, ap, ◌∙◌, subst, append_assoc, append-nil, inl, inr, arith, ne_eqb, eq-eqb}
use Rattle.std.proofs.lemmas.Bool.{cases_eq}
use Rattle.std.proofs.lemmas.List.Sums.{sum_by-append}
use Rattle.std.proofs.lemmas.List.{length-map, get_or-map}
use Rattle.std.proofs.lemmas.List.Elements.{filter_map-append}
use Rattle.std.proofs.lemmas.List.Concat.{flat_map-append}
use Rattle.sp_netlist.specs.declared.cell.Cell.{Cell}
use Rattle.sp_netlist.specs.Cells.{PlainCell, bank_cell, dram_cell, plain_cell, plain_cells}
use Rattle.sp_netlist.specs.Rules.{is_bank, is_dram, bank_width, dram_width}
use Rattle.sp_netlist.specs.Refusals.{AreLines}
use Rattle.sp_netlist.specs.Tables.{AreWidths, NamesStanding, bank_width_in, dram_width_in}
use Rattle.sp_netlist.proofs.LookUps.{Names-all}
use Rattle.sp_netlist.proofs.CheckLemmas.{plain_more}

-- what a table of the rest of the list has at the number of a bank that stands there
pub record BankAt (cells before rest : List PlainCell) (n : ℕ) : Type 0 where
  pub within : n - count_by is_bank before < length (filter_map bank_width_in rest)
  pub at : slice_index (filter_map bank_width_in rest) (n - count_by is_bank before) ≡ bank_width rest n

bank_at : (cells before rest : List PlainCell) (n : ℕ) → AreLines cells → cells ≡ before ++ rest → count_by is_bank before ≤ n → n < count_by is_bank cells → BankAt cells before rest n
bank_at cells before [] n lines split from below =
    let all = ap (count_by is_bank) (split ∙ append-nil before) in
    absurd (omega (arith, all, from, below))
bank_at cells before (bank_cell bank width len ∷ rest) n lines split from below =
    let number = (lines.right before (bank_cell bank width len) rest split).0 in
    let grown = sum_by-append (λ x. cond (is_bank x) 1 0) before (bank_cell bank width len ∷ []) in
    elim (cases_eq bank n) [
      | inl here ↦
          let none : n - count_by is_bank before ≡ 0 = omega (arith, number, here) in
          let test = eq-eqb bank n here in
          record { within = omega (arith, none); at = rw (none, test) refl }
      | inr other ↦
          let next = bank_at cells (before ++ bank_cell bank width len ∷ []) rest n lines (split ∙ sym (append_assoc before (bank_cell bank width len ∷ []) rest)) (omega (arith, grown, number, from, other)) below in
          let step : n - count_by is_bank before ≡ suc (n - count_by is_bank (before ++ bank_cell bank width len ∷ [])) = omega (arith, grown, number, from, other) in
          let test = ne_eqb bank n other in
          let w = next.within in
          record { within = omega (arith, w, step); at = rw (step, test) next.at }
    ]
bank_at cells before (x ∷ rest) n lines split from below =
    let grown = sum_by-append (λ y. cond (is_bank y) 1 0) before (x ∷ []) in
    let same : count_by is_bank (before ++ x ∷ []) ≡ count_by is_bank before = omega (arith, grown) in
    let next = bank_at cells (before ++ x ∷ []) rest n lines (split ∙ sym (append_assoc before (x ∷ []) rest)) (omega (arith, same, from)) below in
    record { within = rw same at next.within; at = rw same at next.at }

pub record DramAt (cells before rest : List PlainCell) (n : ℕ) : Type 0 where
  pub within : n - count_by is_dram before < length (filter_map dram_width_in rest)
  pub at : slice_index (filter_map dram_width_in rest) (n - count_by is_dram before) ≡ dram_width rest n

dram_at : (cells before rest : List PlainCell) (n : ℕ) → AreLines cells → cells ≡ before ++ rest → count_by is_dram before ≤ n → n < count_by is_dram cells → DramAt cells before rest n
dram_at cells before [] n lines split from below =
    let all = ap (count_by is_dram) (split ∙ append-nil before) in
    absurd (omega (arith, all, from, below))
dram_at cells before (dram_cell dram name ty dims ∷ rest) n lines split from below =
    let number = (lines.right before (dram_cell dram name ty dims) rest split).0 in
    let grown = sum_by-append (λ x. cond (is_dram x) 1 0) before (dram_cell dram name ty dims ∷ []) in
    elim (cases_eq dram n) [
      | inl here ↦
          let none : n - count_by is_dram before ≡ 0 = omega (arith, number, here) in
          let test = eq-eqb dram n here in
          record { within = omega (arith, none); at = rw (none, test) refl }
      | inr other ↦
          let next = dram_at cells (before ++ dram_cell dram name ty dims ∷ []) rest n lines (split ∙ sym (append_assoc before (dram_cell dram name ty dims ∷ []) rest)) (omega (arith, grown, number, from, other)) below in
          let step : n - count_by is_dram before ≡ suc (n - count_by is_dram (before ++ dram_cell dram name ty dims ∷ [])) = omega (arith, grown, number, from, other) in
          let test = ne_eqb dram n other in
          let w = next.within in
          record { within = omega (arith, w, step); at = rw (step, test) next.at }
    ]
dram_at cells before (x ∷ rest) n lines split from below =
    let grown = sum_by-append (λ y. cond (is_dram y) 1 0) before (x ∷ []) in
    let same : count_by is_dram (before ++ x ∷ []) ≡ count_by is_dram before = omega (arith, grown) in
    let next = dram_at cells (before ++ x ∷ []) rest n lines (split ∙ sym (append_assoc before (x ∷ []) rest)) (omega (arith, same, from)) below in
    record { within = rw same at next.within; at = rw same at next.at }

pub AreWidths-tables : (cells : List PlainCell) → AreLines cells → AreWidths cells (filter_map bank_width_in cells) (filter_map dram_width_in cells)
AreWidths-tables cells lines = record {
  bank_within = λ n below. let h = (bank_at cells [] cells n lines refl (omega arith) below).within in omega (arith, h);
  bank_at = λ n below. let e : n - 0 ≡ n = omega arith in subst (λ k. slice_index (filter_map bank_width_in cells) k ≡ bank_width cells n) e (bank_at cells [] cells n lines refl (omega arith) below).at;
  dram_within = λ n below. let h = (dram_at cells [] cells n lines refl (omega arith) below).within in omega (arith, h);
  dram_at = λ n below. let e : n - 0 ≡ n = omega arith in subst (λ k. slice_index (filter_map dram_width_in cells) k ≡ dram_width cells n) e (dram_at cells [] cells n lines refl (omega arith) below).at;
}

-- what comes with one more cell
pub filter_more : (f : PlainCell → Option ℕ) (cells : List Cell) (i : ℕ) (cell : Cell) → i < length cells → cell ≡ get_or cells i cell
    → filter_map f (plain_cells (take (i + 1) cells)) ≡ filter_map f (plain_cells (take i cells)) ++ filter_map f (plain_cell cell ∷ [])
filter_more f cells i cell within is = ap (filter_map f) (plain_more cells i cell within is) ∙ filter_map-append f (plain_cells (take i cells)) (plain_cell cell ∷ [])

pub nets_more : (f : PlainCell → List (ℕ × ℕ)) (cells : List Cell) (i : ℕ) (cell : Cell) → i < length cells → cell ≡ get_or cells i cell
    → flat_map f (plain_cells (take (i + 1) cells)) ≡ flat_map f (plain_cells (take i cells)) ++ f (plain_cell cell)
nets_more f cells i cell within is =
    ap (flat_map f) (plain_more cells i cell within is) ∙ flat_map-append f (plain_cells (take i cells)) (plain_cell cell ∷ [])
    ∙ ap (λ r. flat_map f (plain_cells (take i cells)) ++ r) (append-nil (f (plain_cell cell)))

-- the cell at a place names what stands
pub names_at : (cells : List Cell) (i : ℕ) (cell : Cell) → AreLines (plain_cells cells) → i < length cells → cell ≡ get_or cells i cell → NamesStanding (plain_cells cells) (plain_cell cell)
names_at cells i cell lines within is =
    let at : Contains (plain_cells cells) (plain_cell cell) = (i, omega (arith, within, length-map cells plain_cell), get_or-map plain_cell cells i cell (plain_cell cell) within ∙ ap plain_cell (sym is)) in
    Names-all (plain_cells cells) (record { each = lines.right }) (plain_cell cell) at
