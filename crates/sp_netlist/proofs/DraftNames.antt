-- The cells of a draft name no bank, DRAM or channel past those that it has.
use Rattle.std.proofs.Common.{◌≡◌, ℕ, ◌<◌, ◌≤◌, Bool, true, false, List, [], ◌∷◌, ◌++◌, count_by, refl, sym, ap, ◌∙◌, arith, ⊎_elim, ◌↔◌, eqb-true}
use Rattle.std.specs.List.{list_any}
use Rattle.std.proofs.lemmas.Bool.{cases_Bool, false≢true, or_parts}
use Rattle.sp_netlist.specs.Cells.{PlainCell, bank_cell, read_tap, write_tap, dram_cell, load_unit, store_unit}
use Rattle.sp_netlist.specs.Rules.{IsRight, is_bank, is_dram, is_unit}
use Rattle.sp_netlist.specs.Draft.{Draft, IsDraft}
use Rattle.sp_netlist.specs.DraftLaws.{DraftLaws}
use Rattle.sp_netlist.specs.Parts.{NoCell, names_bank, names_dram, stands_for_channel}
use Rattle.sp_netlist.proofs.Splits.{count-split}
use Rattle.sp_netlist.proofs.Determined.{passing, Passing}
use Rattle.sp_netlist.proofs.Drivers.{channel_placed}
use Rattle.sp_netlist.proofs.DraftLemmas.{driver_count-beyond, Keeps-refl, Keeps-trans}

none_of : (test : PlainCell → Bool) (cells : List PlainCell) → ((before : List PlainCell) (x : PlainCell) (after : List PlainCell) → cells ≡ before ++ x ∷ after → test x ≡ true → ⊥) → NoCell test cells
none_of test cells never = ⊎_elim (λ some. absurd (found (passing test cells some))) (λ none. none) (cases_Bool (list_any test cells))
  where
    found : Passing test cells → ⊥
    found p = never p.split.before p.item p.split.after p.split.is p.passes

-- the bank, DRAM or channel that a cell names is one of those of its list
bank_below : (cells before : List PlainCell) (x : PlainCell) (after : List PlainCell) (bank : ℕ) → IsRight cells before x → cells ≡ before ++ x ∷ after → names_bank bank x ≡ true → bank < count_by is_bank cells
bank_below cells before (bank_cell n width len) after bank h split e =
    let same = eqb-true n bank e in
    let number = h.0 in
    let all = count-split is_bank cells before (bank_cell n width len) after split refl in
    omega (arith, same, number, all)
bank_below cells before (read_tap net n enable addr) after bank h split e = let same = eqb-true n bank e in omega (arith, same, h)
bank_below cells before (write_tap n enable addr word) after bank h split e = let same = eqb-true n bank e in omega (arith, same, h)
bank_below cells before _ after bank h split e = absurd (false≢true e)

dram_below : (cells before : List PlainCell) (x : PlainCell) (after : List PlainCell) (dram : ℕ) → IsRight cells before x → cells ≡ before ++ x ∷ after → names_dram dram x ≡ true → dram < count_by is_dram cells
dram_below cells before (dram_cell n name ty dims) after dram h split e =
    let same = eqb-true n dram e in
    let number = h.0 in
    let all = count-split is_dram cells before (dram_cell n name ty dims) after split refl in
    omega (arith, same, number, all)
dram_below cells before (load_unit channel n ready net request last addr) after dram h split e = let same = eqb-true n dram e in let below = h.1 in omega (arith, same, below)
dram_below cells before (store_unit channel n ready request last addr word) after dram h split e = let same = eqb-true n dram e in let below = h.1 in omega (arith, same, below)
dram_below cells before _ after dram h split e = absurd (false≢true e)

no_bank : (d : Draft) (bank : ℕ) → IsDraft d → count_by is_bank d.cells ≤ bank → NoCell (names_bank bank) d.cells
no_bank d bank h past = none_of (names_bank bank) d.cells
    (λ before x after split e. let below = bank_below d.cells before x after bank (h.right before x after split) split e in omega (arith, below, past))

no_dram : (d : Draft) (dram : ℕ) → IsDraft d → count_by is_dram d.cells ≤ dram → NoCell (names_dram dram) d.cells
no_dram d dram h past = none_of (names_dram dram) d.cells
    (λ before x after split e. let below = dram_below d.cells before x after dram (h.right before x after split) split e in omega (arith, below, past))

no_channel : (d : Draft) (channel : ℕ) → IsDraft d → count_by is_unit d.cells ≤ channel → NoCell (stands_for_channel channel) d.cells
no_channel d channel h past = none_of (stands_for_channel channel) d.cells
    (λ before x after split e.
    let placed = channel_placed d.cells before channel x (h.right before x after split) e in
    let all = count-split is_unit d.cells before x after split placed.0 in
    let number = placed.1 in
    omega (arith, number, all, past))

apart : (test : PlainCell → Bool) (front back : List PlainCell) → NoCell test (front ++ back) → NoCell test front × NoCell test back
apart test [] back none = (refl, none)
apart test (x ∷ front) back none =
    let parts = or_parts (test x) (list_any test (front ++ back)) none in
    let rest = apart test front back parts.1 in
    let here = parts.0 in
    let later = rest.0 in
    (rw (here, later) refl, rest.1)

together : (test : PlainCell → Bool) (front back : List PlainCell) → NoCell test front → NoCell test back → NoCell test (front ++ back)
together test [] back a b = b
together test (x ∷ front) back a b =
    let parts = or_parts (test x) (list_any test front) a in
    let here = parts.0 in
    let later = together test front back parts.1 b in
    rw (here, later) refl

pub draft_laws : DraftLaws
draft_laws = record {
  bank = no_bank;
  dram = no_dram;
  channel = no_channel;
  net = λ d net h past. driver_count-beyond d net h past;
  joined = λ test front back. (apart test front back, λ none. together test front back none.0 none.1);
  keeps_all = Keeps-refl;
  keeps_on = Keeps-trans;
}
