-- A text breaks the rules at one line at most, and a listing at none.
use Rattle.std.proofs.Common.{◌≡◌, ℕ, ◌+◌, ◌<◌, ◌≤◌, List, [], ◌∷◌, ◌++◌, length, map, count_by, All, ◌⊎◌, inl, inr, refl, sym, ◌∙◌, ap, subst, arith, Contains}
use Rattle.std.proofs.lemmas.Bool.{cases_lt}
use Rattle.std.proofs.lemmas.List.{append-nil, append_assoc, map-append}
use Rattle.std.proofs.lemmas.List.Elements.{All-head, All-tail, Contains-append_left, Contains-append_right}
use Rattle.sp_netlist.specs.Cells.{PlainCell, in_cell, out_cell, done_cell, bank_cell, read_tap, write_tap, dram_cell, load_unit, store_unit}
use Rattle.sp_netlist.specs.Rules.{is_done, is_bank, is_dram, IsRight}
use Rattle.sp_netlist.specs.Refusals.{AreLines}
use Rattle.sp_words.specs.declared.types.Ty.{Ty}
use Rattle.sp_listing.specs.Text.{cell_text}
use Rattle.sp_listing.specs.Reading.{IsFormed, Follows, NamesLines, HasBank, HasDram, MayStand, AllStand, StopsAt, BreaksAt, at_heading, at_line, IsListing, pieces, heading}
use Rattle.sp_listing.proofs.LineLemmas.{same_text}
use Rattle.sp_listing.proofs.ListingLemmas.{lines_of_listing, formed_from}
use Rattle.sp_listing.proofs.ReadingLemmas.{count_push}
use Rattle.sp_listing.proofs.LawLemmas.{text_some}

-- lines that begin with those of one list of cells and go on, as those of a longer one
pub record GoesOn (cells : List PlainCell) (rest : List (List ℕ)) (others : List PlainCell) : Type 0 where
  pub next : PlainCell
  pub more : List PlainCell
  pub left : List (List ℕ)
  pub longer : others ≡ cells ++ next ∷ more
  pub same : rest ≡ cell_text next ∷ left

-- two beginnings of the same lines: the same cells, or one goes on as the other
abbrev pub Compared : List PlainCell → List (List ℕ) → List PlainCell → List (List ℕ) → Type 0
Compared cells rest others left = ((cells ≡ others) × (rest ≡ left)) ⊎ (GoesOn cells rest others ⊎ GoesOn others left cells)

longer_by : (c o : PlainCell) (cells others : List PlainCell) (rest : List (List ℕ)) → c ≡ o → GoesOn cells rest others → GoesOn (c ∷ cells) rest (o ∷ others)
longer_by c o cells others rest e g = record {
  next = g.next;
  more = g.more;
  left = g.left;
  longer = ap (λ cs. o ∷ cs) g.longer ∙ ap (λ x. x ∷ (cells ++ g.next ∷ g.more)) (sym e);
  same = g.same;
}

pub compare : (cells others : List PlainCell) (rest left : List (List ℕ)) → All IsFormed cells → All IsFormed others → map cell_text cells ++ rest ≡ map cell_text others ++ left → Compared cells rest others left
compare [] [] rest left f g e = inl (refl, e)
compare [] (o ∷ others) rest left f g e = inr (inl (record { next = o; more = others; left = map cell_text others ++ left; longer = refl; same = e }))
compare (c ∷ cells) [] rest left f g e = inr (inr (record { next = c; more = cells; left = map cell_text cells ++ rest; longer = refl; same = sym e }))
compare (c ∷ cells) (o ∷ others) rest left f g e =
    let first : cell_text c ≡ cell_text o = cc in
    let later : map cell_text cells ++ rest ≡ map cell_text others ++ left = cc in
    let head : c ≡ o = same_text c o (All-head IsFormed c cells f) (All-head IsFormed o others g) first in
    elim (compare cells others rest left (All-tail IsFormed c cells f) (All-tail IsFormed o others g) later) [
      | inl equal ↦ let tail : cells ≡ others = equal.0 in inl (cc, equal.1)
      | inr apart ↦ elim apart [
        | inl goes ↦ inr (inl (longer_by c o cells others rest head goes))
        | inr goes ↦ inr (inr (longer_by o c others cells left (sym head) goes))
      ]
    ]

-- lines that go on as those of a cell that may stand don't stop there
not_stopped : (lines : List (List ℕ)) (cells : List PlainCell) (line : List ℕ) (rest : List (List ℕ)) (cell : PlainCell) → MayStand lines cells cell → line ≡ cell_text cell → StopsAt lines cells (line ∷ rest) → ⊥
not_stopped lines cells [] [] cell stands e h = text_some cell (sym e)
not_stopped lines cells [] (next ∷ rest) cell stands e h = h cell stands e
not_stopped lines cells (b ∷ line) rest cell stands e h = h cell stands e

goes_not : (lines : List (List ℕ)) (cells : List PlainCell) (rest : List (List ℕ)) (others : List PlainCell) → GoesOn cells rest others → AllStand lines others → StopsAt lines cells rest → ⊥
goes_not lines cells rest others g stand stops =
    not_stopped lines cells (cell_text g.next) g.left g.next (stand.each cells g.next g.more g.longer) refl (subst (λ r. StopsAt lines cells r) g.same stops)

all_formed : (lines : List (List ℕ)) (cells : List PlainCell) → AllStand lines cells → All IsFormed cells
all_formed lines cells stand = formed_from cells (λ b c a e. (stand.each b c a e).formed)

pub one_line : (lines : List (List ℕ)) (line other : ℕ) → BreaksAt lines line → BreaksAt lines other → line ≡ other
one_line lines line other (at_heading l r e ne) (at_heading l2 r2 e2 ne2) = refl
one_line lines line other (at_heading l r e ne) (at_line cells rest e2 stand stops) =
    let both : l ∷ r ≡ heading ∷ (map cell_text cells ++ rest) = sym e ∙ e2 in let first : l ≡ heading = cc in absurd (ne first)
one_line lines line other (at_line cells rest e stand stops) (at_heading l r e2 ne) =
    let both : l ∷ r ≡ heading ∷ (map cell_text cells ++ rest) = sym e2 ∙ e in let first : l ≡ heading = cc in absurd (ne first)
one_line lines line other (at_line cells rest e stand stops) (at_line others left e2 stand2 stops2) =
    let both : heading ∷ (map cell_text cells ++ rest) ≡ heading ∷ (map cell_text others ++ left) = sym e ∙ e2 in
    let later : map cell_text cells ++ rest ≡ map cell_text others ++ left = cc in
    elim (compare cells others rest left (all_formed lines cells stand) (all_formed lines others stand2) later) [
      | inl equal ↦ ap (λ cs. length cs + 2) equal.0
      | inr apart ↦ elim apart [ inl goes ↦ absurd (goes_not lines cells rest others goes stand2 stops) | inr goes ↦ absurd (goes_not lines others left cells goes stand stops2) ]
    ]

follows_of_right : (cells before : List PlainCell) (cell : PlainCell) → IsRight cells before cell → Follows before cell
follows_of_right cells before (in_cell name net ty) h = h.1
follows_of_right cells before (out_cell name net ty) h = h.1
follows_of_right cells before (done_cell net) h = h
follows_of_right cells before (bank_cell bank width len) h = h.0
follows_of_right cells before (dram_cell dram name ty dims) h = (h.0, h.2)
follows_of_right cells before (load_unit channel dram ready net request last addr) h = h.0
follows_of_right cells before (store_unit channel dram ready request last addr word) h = h.0
follows_of_right cells before cell h = tt

-- one of the cells
pub record Standing (cells : List PlainCell) (cell : PlainCell) : Type 0 where
  pub before : List PlainCell
  pub after : List PlainCell
  pub split : cells ≡ before ++ cell ∷ after

-- cells that are numbered in order have each number below their count
find_bank : (cells before after : List PlainCell) → cells ≡ before ++ after → ((b : List PlainCell) (c : PlainCell) (a : List PlainCell) → cells ≡ b ++ c ∷ a → IsRight cells b c)
    → (n : ℕ) → count_by is_bank before ≤ n → n < count_by is_bank cells → (width : ℕ) × (len : ℕ) × Standing cells (bank_cell n width len)
find_bank cells before [] e right n low high =
    let same : count_by is_bank cells ≡ count_by is_bank before = ap (count_by is_bank) (e ∙ append-nil before) in absurd (omega arith)
find_bank cells before (bank_cell bank width len ∷ after) e right n low high =
    let at : bank ≡ count_by is_bank before = (right before (bank_cell bank width len) after e).0 in
    let shift : cells ≡ (before ++ bank_cell bank width len ∷ []) ++ after = e ∙ sym (append_assoc before (bank_cell bank width len ∷ []) after) in
    let count : count_by is_bank (before ++ bank_cell bank width len ∷ []) ≡ count_by is_bank before + 1 = count_push is_bank before (bank_cell bank width len) in
    elim (cases_lt (count_by is_bank before) n) [
      | inl above ↦ find_bank cells (before ++ bank_cell bank width len ∷ []) after shift right n (omega arith) high
      | inr here ↦
          let is : bank ≡ n = omega arith in
          (width, len, record { before = before; after = after; split = e ∙ ap (λ b. before ++ bank_cell b width len ∷ after) is })
    ]
find_bank cells before (c ∷ after) e right n low high =
    let shift : cells ≡ (before ++ c ∷ []) ++ after = e ∙ sym (append_assoc before (c ∷ []) after) in
    let count : count_by is_bank (before ++ c ∷ []) ≡ count_by is_bank before + 0 = count_push is_bank before c in
    find_bank cells (before ++ c ∷ []) after shift right n (omega arith) high

find_dram : (cells before after : List PlainCell) → cells ≡ before ++ after → ((b : List PlainCell) (c : PlainCell) (a : List PlainCell) → cells ≡ b ++ c ∷ a → IsRight cells b c)
    → (n : ℕ) → count_by is_dram before ≤ n → n < count_by is_dram cells → (name : List ℕ) × (ty : Ty) × (dims : List ℕ) × Standing cells (dram_cell n name ty dims)
find_dram cells before [] e right n low high =
    let same : count_by is_dram cells ≡ count_by is_dram before = ap (count_by is_dram) (e ∙ append-nil before) in absurd (omega arith)
find_dram cells before (dram_cell dram name ty dims ∷ after) e right n low high =
    let at : dram ≡ count_by is_dram before = (right before (dram_cell dram name ty dims) after e).0 in
    let shift : cells ≡ (before ++ dram_cell dram name ty dims ∷ []) ++ after = e ∙ sym (append_assoc before (dram_cell dram name ty dims ∷ []) after) in
    let count : count_by is_dram (before ++ dram_cell dram name ty dims ∷ []) ≡ count_by is_dram before + 1 = count_push is_dram before (dram_cell dram name ty dims) in
    elim (cases_lt (count_by is_dram before) n) [
      | inl above ↦ find_dram cells (before ++ dram_cell dram name ty dims ∷ []) after shift right n (omega arith) high
      | inr here ↦
          let is : dram ≡ n = omega arith in
          (name, ty, dims, record { before = before; after = after; split = e ∙ ap (λ d. before ++ dram_cell d name ty dims ∷ after) is })
    ]
find_dram cells before (c ∷ after) e right n low high =
    let shift : cells ≡ (before ++ c ∷ []) ++ after = e ∙ sym (append_assoc before (c ∷ []) after) in
    let count : count_by is_dram (before ++ c ∷ []) ≡ count_by is_dram before + 0 = count_push is_dram before c in
    find_dram cells (before ++ c ∷ []) after shift right n (omega arith) high

formed_in : (before : List PlainCell) (cell : PlainCell) (after : List PlainCell) → All IsFormed (before ++ cell ∷ after) → IsFormed cell
formed_in [] cell after f = All-head IsFormed cell after f
formed_in (b ∷ before) cell after f = formed_in before cell after (All-tail IsFormed b (before ++ cell ∷ after) f)

-- a cell among formed ones is formed, and its line is among theirs
formed_at : (cells : List PlainCell) (cell : PlainCell) → All IsFormed cells → Standing cells cell → IsFormed cell
formed_at cells cell f s = formed_in s.before cell s.after (subst (λ cs. All IsFormed cs) s.split f)

line_at : (lines : List (List ℕ)) (cells : List PlainCell) (rest : List (List ℕ)) (cell : PlainCell) → lines ≡ heading ∷ (map cell_text cells ++ rest) → Standing cells cell → Contains lines (cell_text cell)
line_at lines cells rest cell e s =
    let here : Contains (cell_text cell ∷ map cell_text s.after) (cell_text cell) = (0, omega arith, refl) in
    let split : Contains (map cell_text (s.before ++ cell ∷ s.after)) (cell_text cell) =
    subst (λ ls. Contains ls (cell_text cell)) (sym (map-append cell_text s.before (cell ∷ s.after))) (Contains-append_right (map cell_text s.before) (cell_text cell ∷ map cell_text s.after) (cell_text cell) here) in
    let among : Contains (map cell_text cells) (cell_text cell) = subst (λ cs. Contains (map cell_text cs) (cell_text cell)) (sym s.split) split in
    let whole : Contains (heading ∷ (map cell_text cells ++ rest)) (cell_text cell) =
    Contains-append_right (heading ∷ []) (map cell_text cells ++ rest) (cell_text cell) (Contains-append_left (map cell_text cells) rest (cell_text cell) among) in
    subst (λ ls. Contains ls (cell_text cell)) (sym e) whole

bank_stands : (lines : List (List ℕ)) (cells : List PlainCell) (rest : List (List ℕ)) → All IsFormed cells → AreLines cells → lines ≡ heading ∷ (map cell_text cells ++ rest) → (n : ℕ) → n < count_by is_bank cells → HasBank lines n
bank_stands lines cells rest f k e n high =
    let r = find_bank cells [] cells refl k.right n (omega arith) high in
    (r.0, r.1, formed_at cells (bank_cell n r.0 r.1) f r.2, line_at lines cells rest (bank_cell n r.0 r.1) e r.2)

dram_stands : (lines : List (List ℕ)) (cells : List PlainCell) (rest : List (List ℕ)) → All IsFormed cells → AreLines cells → lines ≡ heading ∷ (map cell_text cells ++ rest) → (n : ℕ) → n < count_by is_dram cells → HasDram lines n
dram_stands lines cells rest f k e n high =
    let r = find_dram cells [] cells refl k.right n (omega arith) high in
    (r.0, r.1, r.2, formed_at cells (dram_cell n r.0 r.1 r.2) f r.3, line_at lines cells rest (dram_cell n r.0 r.1 r.2) e r.3)

names_of_right : (lines : List (List ℕ)) (cells : List PlainCell) (rest : List (List ℕ)) → All IsFormed cells → AreLines cells → lines ≡ heading ∷ (map cell_text cells ++ rest)
    → (before : List PlainCell) (cell : PlainCell) → IsRight cells before cell → NamesLines lines cell
names_of_right lines cells rest f k e before (read_tap net bank enable addr) h = bank_stands lines cells rest f k e bank h
names_of_right lines cells rest f k e before (write_tap bank enable addr word) h = bank_stands lines cells rest f k e bank h
names_of_right lines cells rest f k e before (load_unit channel dram ready net request last addr) h = dram_stands lines cells rest f k e dram h.1
names_of_right lines cells rest f k e before (store_unit channel dram ready request last addr word) h = dram_stands lines cells rest f k e dram h.1
names_of_right lines cells rest f k e before cell h = tt

-- the cells of a listing may stand one after the other
listing_stands : (lines : List (List ℕ)) (cells : List PlainCell) (rest : List (List ℕ)) → All IsFormed cells → AreLines cells → lines ≡ heading ∷ (map cell_text cells ++ rest) → AllStand lines cells
listing_stands lines cells rest f k e = record {
  each = λ b c a split. let right = k.right b c a split in record {
    formed = formed_at cells c f (record { before = b; after = a; split = split });
    follows = follows_of_right cells b c right;
    named = names_of_right lines cells rest f k e b c right;
  };
}

pub breaks_nowhere : (text : List ℕ) (line : ℕ) (cells : List PlainCell) → IsListing text cells → BreaksAt (pieces text) line → ⊥
breaks_nowhere text line cells k (at_heading l r e ne) =
    let both : l ∷ r ≡ heading ∷ (map cell_text cells ++ [] ∷ []) = sym e ∙ ap pieces k.same ∙ lines_of_listing cells k.formed in let first : l ≡ heading = cc in ne first
breaks_nowhere text line cells k (at_line before rest e stand stops) =
    let lines : pieces text ≡ heading ∷ (map cell_text cells ++ [] ∷ []) = ap pieces k.same ∙ lines_of_listing cells k.formed in
    let both : heading ∷ (map cell_text cells ++ [] ∷ []) ≡ heading ∷ (map cell_text before ++ rest) = sym lines ∙ e in
    let later : map cell_text cells ++ [] ∷ [] ≡ map cell_text before ++ rest = cc in
    elim (compare cells before ([] ∷ []) rest k.formed (all_formed (pieces text) before stand) later) [
      | inl equal ↦
          let none : count_by is_done before ≡ 0 = subst (λ r. StopsAt (pieces text) before r) (sym equal.1) stops in
          let one : count_by is_done cells ≡ 1 = k.right.one_done in
          let same : count_by is_done cells ≡ count_by is_done before = ap (count_by is_done) equal.0 in
          omega arith
      | inr apart ↦ elim apart [
        | inl goes ↦ let same : [] ∷ [] ≡ cell_text goes.next ∷ goes.left = goes.same in let empty : cell_text goes.next ≡ [] = cc in text_some goes.next empty
        | inr goes ↦ goes_not (pieces text) before rest cells goes (listing_stands (pieces text) cells ([] ∷ []) k.formed k.right lines) stops
      ]
    ]
