-- The cells so far and the next one.
use Rattle.std.proofs.Common.{◌≡◌, ◌≢◌, ℕ, ◌+◌, ◌<◌, ◌≤◌, Bool, true, false, cond, List, [], ◌∷◌, ◌++◌, length, map, IsTrue, ◌↔◌, ◌⊎◌, inl, inr, count_by, ◌^◌, length-append, ◌==◌, refl, sym, ◌∙◌, ap, subst, arith}
use Rattle.std.proofs.lemmas.Bool.{false≢true}
use Rattle.std.proofs.lemmas.List.{map-append, length-map, append-nil, append_assoc}
use Rattle.std.proofs.lemmas.List.Sums.{sum_by_push}
use Rattle.sp_netlist.specs.declared.cell.Cell.{Cell}
use Rattle.sp_netlist.specs.Cells.{PlainCell, plain_cell, plain_cells, in_cell, out_cell, done_cell, bank_cell, dram_cell, load_unit, store_unit}
use Rattle.sp_netlist.specs.Rules.{is_done, is_bank, is_dram, is_unit}
use Rattle.sp_listing.specs.declared.counts.Counts.{Counts}
use Rattle.sp_listing.specs.declared.reading.Reading.{Reading}
use Rattle.sp_listing.specs.declared.declared_lines.DeclaredLines.{DeclaredLines}
use Rattle.sp_listing.specs.declared.error.ListError.TheVariants.{NoListing}
use Rattle.sp_listing.specs.Text.{cell_text}
use Rattle.sp_listing.specs.Reading.{IsFormed, Follows, NamesLines, MayStand, AllStand, StopsAt, pieces}
use Rattle.sp_listing.specs.Standing.{InOrder, IsNew, AreCounts, AreNames, AreDeclared, Counted, one_if}
use Rattle.sp_listing.specs.Lines.{cells_of, IsSound, Gained, Takes, TakesAll, Stops, MayAllStand, EndsAt, RefusesBody}
use Rattle.sp_listing.proofs.LineLemmas.{same_text}
use Rattle.sp_listing.proofs.FirstLine.{pieces_few, pieces_some}

-- what a cell obeys after others is the part on numbers and the part on names
pub both_parts : (before : List PlainCell) (cell : PlainCell) → InOrder before cell → IsNew before cell → Follows before cell
both_parts before (in_cell name net ty) order new = new
both_parts before (out_cell name net ty) order new = new
both_parts before (done_cell net) order new = order
both_parts before (bank_cell bank width len) order new = order
both_parts before (dram_cell dram name ty dims) order new = (order, new)
both_parts before (load_unit channel dram ready net request last addr) order new = order
both_parts before (store_unit channel dram ready request last addr word) order new = order
both_parts before cell order new = tt

pub order_part : (before : List PlainCell) (cell : PlainCell) → Follows before cell → InOrder before cell
order_part before (done_cell net) h = h
order_part before (bank_cell bank width len) h = h
order_part before (dram_cell dram name ty dims) h = h.0
order_part before (load_unit channel dram ready net request last addr) h = h
order_part before (store_unit channel dram ready request last addr word) h = h
order_part before cell h = tt

pub names_part : (before : List PlainCell) (cell : PlainCell) → Follows before cell → IsNew before cell
names_part before (in_cell name net ty) h = h
names_part before (out_cell name net ty) h = h
names_part before (dram_cell dram name ty dims) h = h.1
names_part before cell h = tt

-- a test that fails refuses all that needs it
pub refused : {A B : Type 0} (b : Bool) → (IsTrue b ↔ A) → b ≡ false → (B → A) → IsTrue false ↔ B
refused b test fails needs = ((λ t. absurd (false≢true t)), λ h. absurd (false≢true (sym fails ∙ test.1 (needs h))))

one_of : (b : Bool) → cond b 1 0 ≡ one_if b
one_of true = refl
one_of false = refl

pub count_push : {X : Type 0} (p : X → Bool) (xs : List X) (x : X) → count_by p (xs ++ x ∷ []) ≡ count_by p xs + one_if (p x)
count_push p xs x = sum_by_push (λ y. cond (p y) 1 0) xs x ∙ ap (λ n. count_by p xs + n) (one_of (p x))

counts_push : (before : List PlainCell) (cell : PlainCell) (old new : Counts) → AreCounts before old → Counted old cell new → AreCounts (before ++ cell ∷ []) new
counts_push before cell old new k h = record {
  banks = h.banks ∙ ap (λ n. n + one_if (is_bank cell)) k.banks ∙ sym (count_push is_bank before cell);
  drams = h.drams ∙ ap (λ n. n + one_if (is_dram cell)) k.drams ∙ sym (count_push is_dram before cell);
  units = h.units ∙ ap (λ n. n + one_if (is_unit cell)) k.units ∙ sym (count_push is_unit before cell);
  dones = h.dones ∙ ap (λ n. n + one_if (is_done cell)) k.dones ∙ sym (count_push is_done before cell);
}

-- a reading after one more cell
pub gained : (old new : Reading) (cell : Cell) → new.cells.items ≡ old.cells.items ++ cell ∷ [] → IsSound old → Counted old.counts (plain_cell cell) new.counts
    → AreNames (cells_of old ++ plain_cell cell ∷ []) new.names → Gained old (plain_cell cell) new
gained old new cell items sound counted names =
    let cells : cells_of new ≡ cells_of old ++ plain_cell cell ∷ [] = ap plain_cells items ∙ map-append plain_cell old.cells.items (cell ∷ []) in
    record {
      cells = cells;
      sound = record {
        counts = subst (λ cs. AreCounts cs new.counts) (sym cells) (counts_push (cells_of old) (plain_cell cell) old.counts new.counts sound.counts counted);
        names = subst (λ cs. AreNames cs new.names) (sym cells) names;
      };
    }

-- no cell that may stand has the line of a cell that may not
pub not_admitted : (lines : List (List ℕ)) (before : List PlainCell) (line : List ℕ) (cell : PlainCell) (b : Bool) → IsFormed cell → line ≡ cell_text cell
    → (IsTrue b ↔ (Follows before cell × NamesLines lines cell)) → b ≡ false → (other : PlainCell) → MayStand lines before other → line ≢ cell_text other
not_admitted lines before line cell b formed same test fails other stands is =
    let one : other ≡ cell = same_text other cell stands.formed formed (sym is ∙ same) in
    let follows : Follows before cell = subst (λ c. Follows before c) one stands.follows in
    let named : NamesLines lines cell = subst (λ c. NamesLines lines c) one stands.named in
    false≢true (sym fails ∙ test.1 (follows, named))

-- a list that has an element isn't empty
pub long : (before : List PlainCell) (c : PlainCell) (after : List PlainCell) → [] ≡ before ++ c ∷ after → ⊥
long [] c after e = absurd cc
long (b ∷ before) c after e = absurd cc

-- where one cell more is cut: before it, or at it
push_cut : (cells : List PlainCell) (cell : PlainCell) (before : List PlainCell) (c : PlainCell) (after : List PlainCell) → cells ++ cell ∷ [] ≡ before ++ c ∷ after
    → ((more : List PlainCell) × (cells ≡ before ++ c ∷ more)) ⊎ ((cells ≡ before) × (cell ≡ c))
push_cut [] cell [] c after e = inr (refl, cc)
push_cut [] cell (b ∷ before) c after e = absurd (long before c after cc)
push_cut (x ∷ cells) cell [] c after e = let first : x ≡ c = cc in inl (cells, cc)
push_cut (x ∷ cells) cell (b ∷ before) c after e =
    let first : x ≡ b = cc in
    let others : cells ++ cell ∷ [] ≡ before ++ c ∷ after = cc in
    elim (push_cut cells cell before c after others) [
      | inl within ↦ let same : cells ≡ before ++ c ∷ within.0 = within.1 in inl (within.0, cc)
      | inr last ↦ let same : cells ≡ before = last.0 in inr (cc, last.1)
    ]

-- one more cell that may stand
pub stand_push : (lines : List (List ℕ)) (cells : List PlainCell) (cell : PlainCell) → AllStand lines cells → MayStand lines cells cell → AllStand lines (cells ++ cell ∷ [])
stand_push lines cells cell all stands = record {
  each = λ before c after e. elim (push_cut cells cell before c after e) [
    | inl within ↦ all.each before c within.0 within.1
    | inr last ↦ subst (λ bs. MayStand lines bs c) last.0 (subst (λ x. MayStand lines cells x) last.1 stands)
  ];
}

pub stand_none : (lines : List (List ℕ)) (cells : List PlainCell) → cells ≡ [] → AllStand lines cells
stand_none lines cells e = record { each = λ before c after f. absurd (long before c after (sym e ∙ f)) }

-- few cells were read of a text
pub read_few : (text : List ℕ) (more : List (List ℕ)) (reading : Reading) → length text < 2 ^ 30 → pieces text ≡ map cell_text (cells_of reading) ++ more → length reading.cells.items ≤ 2 ^ 30
read_few text more reading few same =
    let a : length (pieces text) ≤ 2 ^ 30 = pieces_few text few in
    let b : length (pieces text) ≡ length (map cell_text (cells_of reading)) + length more = ap length same ∙ length-append (map cell_text (cells_of reading)) more in
    let c : length (map cell_text (cells_of reading)) ≡ length reading.cells.items = length-map (cells_of reading) cell_text ∙ length-map reading.cells.items plain_cell in
    omega (arith, a, b, c)

pub stopped_few : (text : List ℕ) (declared : DeclaredLines) (reading : Reading) → length text < 2 ^ 30 → Stops declared (pieces text) reading → length reading.cells.items ≤ 2 ^ 30
stopped_few text declared reading few (line, rest, same, some, stand, none) = read_few text (line ∷ rest) reading few same

pub taken_few : (text left : List ℕ) (declared : DeclaredLines) (reading : Reading) → length text < 2 ^ 30 → TakesAll declared (pieces text) left reading → length reading.cells.items ≤ 2 ^ 30
taken_few text left declared reading few (same, stand) = read_few text (left ∷ []) reading few same

-- the lines so far, with that of one more cell
pub read_more : (lines : List (List ℕ)) (left rest line : List ℕ) (old new : Reading) (cell : PlainCell) → lines ≡ map cell_text (cells_of old) ++ pieces left → pieces left ≡ line ∷ pieces rest
    → line ≡ cell_text cell → cells_of new ≡ cells_of old ++ cell ∷ [] → lines ≡ map cell_text (cells_of new) ++ pieces rest
read_more lines left rest line old new cell before cut same cells =
    before ∙ ap (λ t. map cell_text (cells_of old) ++ t) cut ∙ ap (λ l. map cell_text (cells_of old) ++ l ∷ pieces rest) same
    ∙ sym (append_assoc (map cell_text (cells_of old)) (cell_text cell ∷ []) (pieces rest)) ∙ ap (λ t. t ++ pieces rest) (sym (map-append cell_text (cells_of old) (cell ∷ [])))
    ∙ ap (λ cs. map cell_text cs ++ pieces rest) (sym cells)

-- a reading that stops before a line
pub stopped : (declared : DeclaredLines) (lines : List (List ℕ)) (left rest line : List ℕ) (old new : Reading) → lines ≡ map cell_text (cells_of old) ++ pieces left → pieces left ≡ line ∷ pieces rest → MayAllStand declared old
    → Takes old declared line false new → Stops declared lines new
stopped declared lines left rest line old new before cut stand (same, none) =
    let here : Stops declared lines old = (line, pieces rest, before ∙ ap (λ t. map cell_text (cells_of old) ++ t) cut, pieces_some rest, stand, none) in
    subst (λ r. Stops declared lines r) (sym same) here

-- the next line is that of no cell that may stand, and isn't the empty rest of a text
pub stops_line : (lines : List (List ℕ)) (cells : List PlainCell) (line : List ℕ) (rest : List (List ℕ)) → 1 ≤ length line + length rest → ((cell : PlainCell) → MayStand lines cells cell → line ≢ cell_text cell)
    → StopsAt lines cells (line ∷ rest)
stops_line lines cells [] [] some none = absurd (omega arith)
stops_line lines cells [] (next ∷ rest) some none = none
stops_line lines cells (b ∷ line) rest some none = none

-- where a text ends: with an empty rest and no done, with a last line that is no cell's, or with one that has no line end
pub end_empty : (declared : DeclaredLines) (cells : List PlainCell) (last : List ℕ) (number : ℕ) → last ≡ [] → count_by is_done cells ≡ 0 → number ≡ length cells + 2 → EndsAt declared cells last number
end_empty declared cells last number empty done at =
    let same : cells ++ [] ≡ cells = append-nil cells in
    ([], last ∷ [], refl, at ∙ ap (λ cs. length cs + 2) (sym same), λ lines k stand. (subst (λ cs. AllStand lines cs) (sym same) stand, subst (λ l. StopsAt lines (cells ++ []) (l ∷ [])) (sym empty) (ap (count_by is_done) same ∙ done)))

pub end_taken : (declared : DeclaredLines) (old new : Reading) (last : List ℕ) (number : ℕ) → Takes old declared last true new → number ≡ length (cells_of new) + 2 → EndsAt declared (cells_of old) last number
end_taken declared old new last number (cell, same, gained, may) at =
    (cell ∷ [], [], ap (λ l. l ∷ []) same, at ∙ ap (λ cs. length cs + 2) gained.cells, λ lines k stand. (stand_push lines (cells_of old) cell stand (may lines k), tt))

pub end_refused : (declared : DeclaredLines) (old new : Reading) (last : List ℕ) (number : ℕ) → 1 ≤ length last → Takes old declared last false new → number ≡ length (cells_of new) + 2 → EndsAt declared (cells_of old) last number
end_refused declared old new last number some (unchanged, none) at =
    let same : cells_of old ++ [] ≡ cells_of old = append-nil (cells_of old) in
    let stops : (lines : List (List ℕ)) → AreDeclared lines declared → StopsAt lines (cells_of old) (last ∷ []) = λ lines k. stops_line lines (cells_of old) last [] (omega arith) (none lines k) in (
      [],
      last ∷ [],
      refl,
      at ∙ ap (λ r. length (cells_of r) + 2) unchanged ∙ ap (λ cs. length cs + 2) (sym same),
      λ lines k stand. (subst (λ cs. AllStand lines cs) (sym same) stand, subst (λ cs. StopsAt lines cs (last ∷ [])) (sym same) (stops lines k)),
    )

not_empty : (last : List ℕ) → (length last == 0) ≡ false → 1 ≤ length last
not_empty [] e = absurd (false≢true (sym e))
not_empty (b ∷ last) e = omega arith

pub end_line : (declared : DeclaredLines) (old new : Reading) (last : List ℕ) (number : ℕ) (taken : Bool) → (length last == 0) ≡ false → Takes old declared last taken new → number ≡ length (cells_of new) + 2
    → EndsAt declared (cells_of old) last number
end_line declared old new last number true some takes at = end_taken declared old new last number takes at
end_line declared old new last number false some takes at = end_refused declared old new last number (not_empty last some) takes at

-- what is refused of a text whose lines weren't all taken
pub body_stopped : (declared : DeclaredLines) (lines : List (List ℕ)) (new : Reading) (number : ℕ) → Stops declared lines new → number ≡ length (cells_of new) + 2 → RefusesBody declared lines (NoListing number)
body_stopped declared lines new number (line, rest, same, some, stand, none) at =
    (cells_of new, line ∷ rest, same, at, λ all k. (stand all k, stops_line all (cells_of new) line rest (omega (arith, some)) (none all k)))

-- and of one that ends where it may not
pub body_ended : (declared : DeclaredLines) (lines : List (List ℕ)) (last : List ℕ) (old : Reading) (number : ℕ) → TakesAll declared lines last old → EndsAt declared (cells_of old) last number → RefusesBody declared lines (NoListing number)
body_ended declared lines last old number (same, stand) (more, rest, last_same, at, stops) =
    let whole : lines ≡ map cell_text (cells_of old ++ more) ++ rest =
    same ∙ ap (λ t. map cell_text (cells_of old) ++ t) last_same ∙ sym (append_assoc (map cell_text (cells_of old)) (map cell_text more) rest) ∙ ap (λ t. t ++ rest) (sym (map-append cell_text (cells_of old) more)) in
    (cells_of old ++ more, rest, whole, at, λ all k. stops all k (stand all k))
