-- Cells that don't name a bank or a DRAM leave it as it is.
use Rattle.std.proofs.Common.{◌≡◌, ℕ, List, [], ◌∷◌, ◌++◌, Bool, false, cond, ◌==◌, ◌&&◌, if◌then◌else◌, refl, ap, ◌∙◌, count_by, arith}
use Rattle.std.specs.List.{list_any}
use Rattle.std.proofs.lemmas.Bool.{or_parts, and_left}
use Rattle.sp_netlist.specs.declared.cell.Port.{Port}
use Rattle.sp_netlist.specs.declared.cell.Port.TheVariants.{Read, Write}
use Rattle.sp_netlist.specs.Cells.{PlainCell, read_tap, write_tap, store_unit}
use Rattle.sp_netlist.specs.Signals.{bank_after, dram_after}
use Rattle.sp_netlist.specs.Cycle.{is_enabled_tap}
use Rattle.sp_netlist.specs.Parts.{names_bank, names_dram, NoCell}
use Rattle.sp_netlist.proofs.Splits.{count-append, count-cons_no}

-- what cells do to a bank and a DRAM one after the other
bank-append : (xs ys : List PlainCell) (w : ℕ → ℕ) (bank addr old : ℕ) → bank_after (xs ++ ys) w bank addr old ≡ bank_after ys w bank addr (bank_after xs w bank addr old)
bank-append [] ys w bank addr old = refl
bank-append (write_tap into enable at word ∷ xs) ys w bank addr old = bank-append xs ys w bank addr (if (into == bank) && ((w enable == 1) && (w at == addr)) then w word else old)
bank-append (_ ∷ xs) ys w bank addr old = bank-append xs ys w bank addr old

dram-append : (xs ys : List PlainCell) (w : ℕ → ℕ) (dram addr old : ℕ) → dram_after (xs ++ ys) w dram addr old ≡ dram_after ys w dram addr (dram_after xs w dram addr old)
dram-append [] ys w dram addr old = refl
dram-append (store_unit channel into ready request last at word ∷ xs) ys w dram addr old = dram-append xs ys w dram addr (if (into == dram) && ((w ready == 1) && (w at == addr)) then w word else old)
dram-append (_ ∷ xs) ys w dram addr old = dram-append xs ys w dram addr old

no_head : (test : PlainCell → Bool) (x : PlainCell) (xs : List PlainCell) → NoCell test (x ∷ xs) → test x ≡ false
no_head test x xs e = (or_parts (test x) (list_any test xs) e).0

no_tail : (test : PlainCell → Bool) (x : PlainCell) (xs : List PlainCell) → NoCell test (x ∷ xs) → NoCell test xs
no_tail test x xs e = (or_parts (test x) (list_any test xs) e).1

apart_bank : (xs : List PlainCell) (w : ℕ → ℕ) (bank addr old : ℕ) → NoCell (names_bank bank) xs → bank_after xs w bank addr old ≡ old
apart_bank [] w bank addr old e = refl
apart_bank (write_tap into enable at word ∷ xs) w bank addr old e =
    ap (λ v. bank_after xs w bank addr v) (ap (λ b. cond b (w word) old) (and_left (into == bank) ((w enable == 1) && (w at == addr)) (no_head (names_bank bank) (write_tap into enable at word) xs e)))
    ∙ apart_bank xs w bank addr old (no_tail (names_bank bank) (write_tap into enable at word) xs e)
apart_bank (x ∷ xs) w bank addr old e = apart_bank xs w bank addr old (no_tail (names_bank bank) x xs e)

apart_dram : (xs : List PlainCell) (w : ℕ → ℕ) (dram addr old : ℕ) → NoCell (names_dram dram) xs → dram_after xs w dram addr old ≡ old
apart_dram [] w dram addr old e = refl
apart_dram (store_unit channel into ready request last at word ∷ xs) w dram addr old e =
    ap (λ v. dram_after xs w dram addr v) (ap (λ b. cond b (w word) old) (and_left (into == dram) ((w ready == 1) && (w at == addr)) (no_head (names_dram dram) (store_unit channel into ready request last at word) xs e)))
    ∙ apart_dram xs w dram addr old (no_tail (names_dram dram) (store_unit channel into ready request last at word) xs e)
apart_dram (x ∷ xs) w dram addr old e = apart_dram xs w dram addr old (no_tail (names_dram dram) x xs e)

apart_tap : (w : ℕ → ℕ) (port : Port) (bank : ℕ) (x : PlainCell) → names_bank bank x ≡ false → is_enabled_tap w port bank x ≡ false
apart_tap w Read bank (read_tap net of enable addr) e = and_left (of == bank) (w enable == 1) e
apart_tap w Write bank (write_tap of enable addr word) e = and_left (of == bank) (w enable == 1) e
apart_tap w _ bank _ e = refl

apart_taps : (xs : List PlainCell) (w : ℕ → ℕ) (port : Port) (bank : ℕ) → NoCell (names_bank bank) xs → count_by (is_enabled_tap w port bank) xs ≡ 0
apart_taps [] w port bank e = refl
apart_taps (x ∷ xs) w port bank e = count-cons_no (is_enabled_tap w port bank) x xs (apart_tap w port bank x (no_head (names_bank bank) x xs e)) ∙ apart_taps xs w port bank (no_tail (names_bank bank) x xs e)

pub part_bank : (front part rest : List PlainCell) (w : ℕ → ℕ) (bank addr old : ℕ) → NoCell (names_bank bank) front → NoCell (names_bank bank) rest
    → bank_after (front ++ part ++ rest) w bank addr old ≡ bank_after part w bank addr old
part_bank front part rest w bank addr old e f =
    bank-append (front ++ part) rest w bank addr old ∙ apart_bank rest w bank addr (bank_after (front ++ part) w bank addr old) f
    ∙ bank-append front part w bank addr old ∙ ap (bank_after part w bank addr) (apart_bank front w bank addr old e)

pub part_dram : (front part rest : List PlainCell) (w : ℕ → ℕ) (dram addr old : ℕ) → NoCell (names_dram dram) front → NoCell (names_dram dram) rest
    → dram_after (front ++ part ++ rest) w dram addr old ≡ dram_after part w dram addr old
part_dram front part rest w dram addr old e f =
    dram-append (front ++ part) rest w dram addr old ∙ apart_dram rest w dram addr (dram_after (front ++ part) w dram addr old) f
    ∙ dram-append front part w dram addr old ∙ ap (dram_after part w dram addr) (apart_dram front w dram addr old e)

pub part_taps : (front part rest : List PlainCell) (w : ℕ → ℕ) (port : Port) (bank : ℕ) → NoCell (names_bank bank) front → NoCell (names_bank bank) rest
    → count_by (is_enabled_tap w port bank) (front ++ part ++ rest) ≡ count_by (is_enabled_tap w port bank) part
part_taps front part rest w port bank e f =
    let a = count-append (is_enabled_tap w port bank) (front ++ part) rest in
    let b = count-append (is_enabled_tap w port bank) front part in
    omega (arith, a, b, apart_taps front w port bank e, apart_taps rest w port bank f)
