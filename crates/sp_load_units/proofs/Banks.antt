-- Units are no banks.
use Rattle.std.proofs.Common.{◌≡◌, false, cond, List, [], ◌∷◌, ◌++◌, count_by, filter, refl, sym, ap, ◌∙◌, arith}
use Rattle.std.specs.List.{list_any}
use Rattle.std.proofs.lemmas.Bool.{or_parts, false≢true}
use Rattle.std.proofs.lemmas.List.{append-nil}
use Rattle.std.proofs.lemmas.List.Elements.{filter-append}
use Rattle.std.proofs.lemmas.List.Sums.{sum_by-append}
use Rattle.sp_netlist.specs.Cells.{PlainCell, bank_cell}
use Rattle.sp_netlist.specs.Draft.{Draft}
use Rattle.sp_netlist.specs.Parts.{NoCell}
use Rattle.sp_netlist.specs.Rules.{is_bank}
use Rattle.sp_frames.specs.Framed.{AddsUnits, is_no_unit}

no_bank : (cell : PlainCell) → is_no_unit cell ≡ false → is_bank cell ≡ false
no_bank (bank_cell bank width len) e = absurd (false≢true (sym e))
no_bank cell e = refl

none_left : (cells : List PlainCell) → NoCell is_no_unit cells → filter is_bank cells ≡ []
none_left [] none = refl
none_left (x ∷ cells) none = let parts = or_parts (is_no_unit x) (list_any is_no_unit cells) none in rw (no_bank x parts.0) (none_left cells parts.1)

none_counted : (cells : List PlainCell) → NoCell is_no_unit cells → count_by is_bank cells ≡ 0
none_counted [] none = refl
none_counted (x ∷ cells) none = let parts = or_parts (is_no_unit x) (list_any is_no_unit cells) none in rw (no_bank x parts.0) (none_counted cells parts.1)

pub same_banks : (old new : Draft) → AddsUnits old new → filter is_bank new.cells ≡ filter is_bank old.cells
same_banks old new a = ap (filter is_bank) a.stands ∙ filter-append is_bank old.cells a.added ∙ ap (λ cs. filter is_bank old.cells ++ cs) (none_left a.added a.all) ∙ append-nil (filter is_bank old.cells)

pub as_many_banks : (old new : Draft) → AddsUnits old new → count_by is_bank new.cells ≡ count_by is_bank old.cells
as_many_banks old new a =
    let e = ap (count_by is_bank) a.stands ∙ sum_by-append (λ c. cond (is_bank c) 1 0) old.cells a.added in
    let none = none_counted a.added a.all in
    omega (arith, e, none)
