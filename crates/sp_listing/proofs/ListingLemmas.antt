-- The lines of a listing, and what lines that may stand say of their cells.
use Rattle.std.proofs.Common.{◌≡◌, ℕ, ◌+◌, ◌<◌, ◌≤◌, Bool, true, cond, List, [], ◌∷◌, ◌++◌, length, map, flat_map, count_by, All, Contains, inl, inr, ◌==◌, refl, sym, ◌∙◌, ap, subst, arith, Result, Ok, Err, MatchResult, Vec}
use Rattle.std.specs.List.{join_with_byte}
use Rattle.std.proofs.lemmas.List.{append-nil, append_assoc}
use Rattle.std.proofs.lemmas.List.Elements.{All-nil, All-cons, All-head, All-tail, Contains-append_cases}
use Rattle.std.proofs.lemmas.List.Splits.{slice_split_at, join_with_byte-slice_split}
use Rattle.std.proofs.lemmas.List.Sums.{sum_by-append, sum_by-cons}
use Rattle.sp_netlist.specs.Cells.{PlainCell, plain_cells, in_cell, out_cell, done_cell, const_cell, op_cell, not_cell, shift_cell, cast_cell, mux_cell, reg_cell, bank_cell, read_tap, write_tap, dram_cell, load_unit, store_unit}
use Rattle.sp_netlist.specs.Rules.{is_done, is_bank, is_dram, IsRight}
use Rattle.sp_listing.specs.Text.{cell_text, cell_line, listing_text}
use Rattle.sp_listing.specs.Reading.{IsFormed, Follows, NamesLines, HasBank, HasDram, BreaksAt, at_line, IsListing, pieces, heading}
use Rattle.sp_netlist.specs.declared.cell.Cell.{Cell}
use Rattle.sp_listing.specs.declared.error.ListError.{ListError}
use Rattle.sp_listing.specs.declared.error.ListError.TheVariants.{NoListing, Net, Memory}
use Rattle.sp_listing.specs.declared.declared_lines.DeclaredLines.{DeclaredLines}
use Rattle.sp_listing.specs.Refusal.{AreLinesOf, RefusesLines}
use Rattle.sp_listing.specs.Standing.{one_if, AreDeclared}
use Rattle.sp_listing.specs.Lines.{ReadsBody, RefusesBody}
use Rattle.sp_listing.proofs.LineLemmas.{same_text, text_lacks, lacks_tested}
use Rattle.sp_listing.proofs.ReadingLemmas.{count_push, stand_none}
use Rattle.sp_listing.proofs.DeclaredLemmas.{only}

-- the pieces of a listing are its lines, and an empty rest
lines_of_cells : (cells : List PlainCell) → All IsFormed cells → pieces (flat_map cell_line cells) ≡ map cell_text cells ++ [] ∷ []
lines_of_cells [] f = refl
lines_of_cells (cell ∷ cells) f =
    let clear = lacks_tested 10 (cell_text cell) (text_lacks cell (All-head IsFormed cell cells f)) in
    ap pieces (append_assoc (cell_text cell) (10 ∷ []) (flat_map cell_line cells))
    ∙ slice_split_at (λ b. b == 10) (cell_text cell) 10 (flat_map cell_line cells) clear refl
    ∙ ap (λ ls. cell_text cell ∷ ls) (lines_of_cells cells (All-tail IsFormed cell cells f))

pub lines_of_listing : (cells : List PlainCell) → All IsFormed cells → pieces (listing_text cells) ≡ heading ∷ (map cell_text cells ++ [] ∷ [])
lines_of_listing cells f = ap (λ ls. heading ∷ ls) (lines_of_cells cells f)

-- lines that are joined give the listing
joined_lines : (cells : List PlainCell) (line : List ℕ) → join_with_byte 10 (line ∷ (map cell_text cells ++ [] ∷ [])) ≡ line ++ (10 ∷ flat_map cell_line cells)
joined_lines [] line = refl
joined_lines (cell ∷ cells) line = ap (λ t. line ++ (10 ∷ t)) (joined_lines cells (cell_text cell) ∙ sym (append_assoc (cell_text cell) (10 ∷ []) (flat_map cell_line cells)))

pub text_of_lines : (text : List ℕ) (cells : List PlainCell) → pieces text ≡ heading ∷ (map cell_text cells ++ [] ∷ []) → text ≡ listing_text cells
text_of_lines text cells e = sym (join_with_byte-slice_split 10 text) ∙ ap (join_with_byte 10) e ∙ joined_lines cells heading

-- a cell's line among the lines of cells is that of one of them
stands_among : (cells : List PlainCell) (line : List ℕ) → Contains (map cell_text cells) line → (before : List PlainCell) × (cell : PlainCell) × (after : List PlainCell) × (cells ≡ before ++ cell ∷ after) × (cell_text cell ≡ line)
stands_among [] line (k, within, at) = absurd (omega arith)
stands_among (x ∷ cells) line within = elim (Contains-append_cases (cell_text x ∷ []) (map cell_text cells) line within) [
  | inl first ↦ ([], x, cells, refl, sym (only (cell_text x) line first))
  | inr later ↦ let r = stands_among cells line later in (x ∷ r.0, r.1, r.2, ap (λ cs. x ∷ cs) r.3, r.4)
]

count_here : {X : Type 0} (p : X → Bool) (before : List X) (x : X) (after : List X) → p x ≡ true → count_by p before < count_by p (before ++ x ∷ after)
count_here p before x after e =
    let a : count_by p (before ++ x ∷ after) ≡ count_by p before + count_by p (x ∷ after) = sum_by-append (λ y. cond (p y) 1 0) before (x ∷ after) in
    let b : count_by p (x ∷ after) ≡ cond {A = ℕ} (p x) 1 0 + count_by p after = sum_by-cons (λ y. cond (p y) 1 0) x after in
    let c : cond {A = ℕ} (p x) 1 0 ≡ 1 = ap (λ v. cond {A = ℕ} v 1 0) e in
    omega (arith, a, b, c)

-- a cell that has a line among those of cells is one of them
among_cells : (lines : List (List ℕ)) (cells : List PlainCell) → AreLinesOf lines cells → (cell : PlainCell) → IsFormed cell → (cell_text cell ≡ heading → ⊥) → (cell_text cell ≡ [] → ⊥)
    → Contains lines (cell_text cell) → (before : List PlainCell) × (after : List PlainCell) × (cells ≡ before ++ cell ∷ after)
among_cells lines cells k cell formed no_heading no_rest within =
    let here : Contains (heading ∷ (map cell_text cells ++ [] ∷ [])) (cell_text cell) = subst (λ ls. Contains ls (cell_text cell)) k.same within in
    elim (Contains-append_cases (heading ∷ []) (map cell_text cells ++ [] ∷ []) (cell_text cell) here) [
      | inl first ↦ absurd (no_heading (only heading (cell_text cell) first))
      | inr later ↦ elim (Contains-append_cases (map cell_text cells) ([] ∷ []) (cell_text cell) later) [
        | inl among ↦
            let r = stands_among cells (cell_text cell) among in
            let same : r.1 ≡ cell = same_text r.1 cell (k.stand.each r.0 r.1 r.2 r.3).formed formed r.4 in
            (r.0, r.2, subst (λ c. cells ≡ r.0 ++ c ∷ r.2) same r.3)
        | inr rest ↦ absurd (no_rest (only [] (cell_text cell) rest))
      ]
    ]

-- a bank that has a line among those of cells that may stand has a number below their count
bank_counted : (lines : List (List ℕ)) (cells : List PlainCell) → AreLinesOf lines cells → (bank : ℕ) → HasBank lines bank → bank < count_by is_bank cells
bank_counted lines cells k bank (width, len, formed, within) =
    let r = among_cells lines cells k (bank_cell bank width len) formed (λ e. let h : ◌≡◌ {A = ℕ} 98 110 = cc in absurd (omega arith)) (λ e. absurd cc) within in
    let at : bank ≡ count_by is_bank r.0 = (k.stand.each r.0 (bank_cell bank width len) r.1 r.2).follows in
    let less : count_by is_bank r.0 < count_by is_bank (r.0 ++ bank_cell bank width len ∷ r.1) = count_here is_bank r.0 (bank_cell bank width len) r.1 refl in
    let whole : count_by is_bank cells ≡ count_by is_bank (r.0 ++ bank_cell bank width len ∷ r.1) = ap (count_by is_bank) r.2 in
    omega arith

dram_counted : (lines : List (List ℕ)) (cells : List PlainCell) → AreLinesOf lines cells → (dram : ℕ) → HasDram lines dram → dram < count_by is_dram cells
dram_counted lines cells k dram (name, ty, dims, formed, within) =
    let r = among_cells lines cells k (dram_cell dram name ty dims) formed (λ e. let h : ◌≡◌ {A = ℕ} 100 110 = cc in absurd (omega arith)) (λ e. absurd cc) within in
    let at : dram ≡ count_by is_dram r.0 = (k.stand.each r.0 (dram_cell dram name ty dims) r.1 r.2).follows.0 in
    let less : count_by is_dram r.0 < count_by is_dram (r.0 ++ dram_cell dram name ty dims ∷ r.1) = count_here is_dram r.0 (dram_cell dram name ty dims) r.1 refl in
    let whole : count_by is_dram cells ≡ count_by is_dram (r.0 ++ dram_cell dram name ty dims ∷ r.1) = ap (count_by is_dram) r.2 in
    omega arith

-- a cell that may stand obeys the rules on a cell of a netlist
right_cell : (lines : List (List ℕ)) (cells : List PlainCell) → AreLinesOf lines cells → (before : List PlainCell) (cell : PlainCell) → IsFormed cell → Follows before cell → NamesLines lines cell → IsRight cells before cell
right_cell lines cells k before (in_cell name net ty) f h n = (f.0, h)
right_cell lines cells k before (out_cell name net ty) f h n = (f.0, h)
right_cell lines cells k before (done_cell net) f h n = h
right_cell lines cells k before (const_cell net width word) f h n = (f.1, f.2)
right_cell lines cells k before (op_cell net ty op a b) f h n = tt
right_cell lines cells k before (not_cell net ty a) f h n = tt
right_cell lines cells k before (shift_cell net ty side a places) f h n = f.2
right_cell lines cells k before (cast_cell net from to a) f h n = tt
right_cell lines cells k before (mux_cell net width choice a b) f h n = f.1
right_cell lines cells k before (reg_cell net width first next enable) f h n = (f.1, f.2)
right_cell lines cells k before (bank_cell bank width len) f h n = (h, f.1, f.2)
right_cell lines cells k before (read_tap net bank enable addr) f h n = bank_counted lines cells k bank n
right_cell lines cells k before (write_tap bank enable addr word) f h n = bank_counted lines cells k bank n
right_cell lines cells k before (dram_cell dram name ty dims) f h n = (h.0, f.1, h.1, f.2, f.3, f.4)
right_cell lines cells k before (load_unit channel dram ready net request last addr) f h n = (h, dram_counted lines cells k dram n)
right_cell lines cells k before (store_unit channel dram ready request last addr word) f h n = (h, dram_counted lines cells k dram n)

-- no second done stands
one_done_more : (count : ℕ) (cell : PlainCell) (before : List PlainCell) → Follows before cell → count ≡ count_by is_done before → count ≤ 1 → count + one_if (is_done cell) ≤ 1
one_done_more count (done_cell net) before h e few = omega arith
one_done_more count cell before h e few = omega arith

dones_from : (before after : List PlainCell) → ((b : List PlainCell) (c : PlainCell) (a : List PlainCell) → before ++ after ≡ b ++ c ∷ a → Follows b c) → count_by is_done before ≤ 1 → count_by is_done (before ++ after) ≤ 1
dones_from before [] each few = subst (λ cs. count_by is_done cs ≤ 1) (sym (append-nil before)) few
dones_from before (cell ∷ after) each few =
    let shift : (before ++ cell ∷ []) ++ after ≡ before ++ cell ∷ after = append_assoc before (cell ∷ []) after in
    let next : count_by is_done (before ++ cell ∷ []) ≤ 1 =
    subst (λ n. n ≤ 1) (sym (count_push is_done before cell)) (one_done_more (count_by is_done before) cell before (each before cell after refl) refl few) in
    subst (λ cs. count_by is_done cs ≤ 1) shift (dones_from (before ++ cell ∷ []) after (λ b c a e. each b c a (sym shift ∙ e)) next)

pub formed_from : (cells : List PlainCell) → ((before : List PlainCell) (cell : PlainCell) (after : List PlainCell) → cells ≡ before ++ cell ∷ after → IsFormed cell) → All IsFormed cells
formed_from [] each = All-nil IsFormed
formed_from (cell ∷ cells) each =
    All-cons IsFormed cell cells (each [] cell cells refl) (formed_from cells (λ b c a e. each (cell ∷ b) c a (ap (λ cs. cell ∷ cs) e)))

-- a text whose lines are those of cells that may stand is their listing
pub listing_of_lines : (text : List ℕ) (cells : List PlainCell) → AreLinesOf (pieces text) cells → IsListing text cells
listing_of_lines text cells k = record {
  formed = formed_from cells (λ b c a e. (k.stand.each b c a e).formed);
  right = record {
    right = λ b c a e. let s = k.stand.each b c a e in right_cell (pieces text) cells k b c s.formed s.follows s.named;
    one_done = let most = dones_from [] cells (λ b c a e. (k.stand.each b c a e).follows) (omega arith) in let least = k.done in omega arith;
  };
  same = text_of_lines text cells k.same;
}

-- what is read of the text after the heading is what is read of the whole
pub text_read : {Z : Type 0} (text body first : List ℕ) (declared : DeclaredLines) (r : Result (Vec Cell Z) ListError) → pieces text ≡ first ∷ pieces body → first ≡ heading → AreDeclared (pieces text) declared
    → MatchResult r (λ cells. ReadsBody declared (pieces body) (plain_cells cells.items)) (RefusesBody declared (pieces body)) → MatchResult r (λ cells. IsListing text (plain_cells cells.items)) (RefusesLines (pieces text))
text_read text body first declared (Ok cells) cut headed k (same, done, stand) =
    listing_of_lines text (plain_cells cells.items) (record {
      same = cut ∙ ap (λ l. l ∷ pieces body) headed ∙ ap (λ ls. heading ∷ ls) same;
      stand = stand (pieces text) k;
      done = done;
    })
text_read text body first declared (Err (NoListing number)) cut headed k (cells, rest, same, at, stops) =
    let s = stops (pieces text) k in
    subst (λ n. BreaksAt (pieces text) n) (sym at) (at_line cells rest (cut ∙ ap (λ l. l ∷ pieces body) headed ∙ ap (λ ls. heading ∷ ls) same) s.0 s.1)
text_read text body first declared (Err (Net fault)) cut headed k h = h
text_read text body first declared (Err Memory) cut headed k h = tt

-- a text that is only the heading breaks after it
pub heading_alone : (lines : List (List ℕ)) → lines ≡ heading ∷ [] → BreaksAt lines 2
heading_alone lines e = at_line [] [] e (stand_none lines [] refl) tt
