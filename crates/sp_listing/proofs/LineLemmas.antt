-- A line and its words: a line is cut at its blanks in one way.
use Rattle.std.proofs.Common.{◌≡◌, ◌≢◌, ℕ, ◌<◌, ◌≤◌, Bool, true, false, List, [], ◌∷◌, ◌++◌, length, All, count_by, decimal, ◌+◌, refl, sym, ◌∙◌, ap, arith, ◌==◌, lit<, lit≤, Option, Some, None, Result, Ok, Err, IfOk}
use Rattle.std.specs.List.{slice_split, onto_first}
use Rattle.std.specs.Str.{IsUtf8}
use Rattle.std.proofs.lemmas.Bool.{ne_eqb, eqb-true}
use Rattle.std.proofs.lemmas.List.{append-nil, length-map}
use Rattle.std.proofs.lemmas.List.Elements.{All-nil, All-cons, All-head, All-tail, All-append, All-weaker}
use Rattle.std.proofs.lemmas.List.Splits.{slice_split_at, slice_split_none, slice_split-cons_yes, slice_split-cons_no, length-slice_split}
use Rattle.std.proofs.lemmas.Str.{IsUtf8-from_ascii}
use Rattle.std.proofs.lemmas.Str.Ascii.{IsAscii-from_all}
use Rattle.sp_netlist.specs.declared.cell.Cell.{Cell}
use Rattle.sp_netlist.specs.Cells.{PlainCell, in_cell, out_cell, done_cell, const_cell, op_cell, not_cell, shift_cell, cast_cell, mux_cell, reg_cell, bank_cell, read_tap, write_tap, dram_cell, load_unit, store_unit}
use Rattle.sp_listing.specs.Text.{cell_words, cell_text, joined, spaced}
use Rattle.sp_listing.specs.Reading.{IsFormed}
use Rattle.sp_listing.specs.Readers.{Lacks, kind_text, kind_in, parts_of, ReadsWords, ReadsLine}
use Rattle.sp_listing.proofs.KindLemmas.{words_begin}
use Rattle.sp_listing.proofs.SameCell.{same_cell}
use Rattle.sp_listing.proofs.TextLemmas.{IsGraphic, graphic_lacks}
use Rattle.sp_listing.proofs.GraphicWords.{AreGraphic, graphic_words}

-- no byte of a text is one that it lacks
pub lacks_tested : (c : ℕ) (xs : List ℕ) → Lacks c xs → All (λ x. (x == c) ≡ false) xs
lacks_tested c xs h = All-weaker (λ x. x ≢ c) (λ x. (x == c) ≡ false) (λ x ne. ne_eqb x c ne) xs h

-- what is joined of words without blanks is cut into them
pub split_joined : (word : List ℕ) (words : List (List ℕ)) → All (Lacks 32) (word ∷ words) → slice_split (λ b. b == 32) (joined (word ∷ words)) ≡ word ∷ words
split_joined word [] h =
    let clear = lacks_tested 32 word (All-head (Lacks 32) word [] h) in
    ap (slice_split (λ b. b == 32)) (append-nil word) ∙ slice_split_none (λ b. b == 32) word clear
split_joined word (next ∷ words) h =
    let clear = lacks_tested 32 word (All-head (Lacks 32) word (next ∷ words) h) in
    slice_split_at (λ b. b == 32) word 32 (joined (next ∷ words)) clear refl
    ∙ ap (λ ws. word ∷ ws) (split_joined next words (All-tail (Lacks 32) word (next ∷ words) h))

joined-onto_first : (x : ℕ) (parts : List (List ℕ)) → joined (onto_first x parts) ≡ x ∷ joined parts
joined-onto_first x [] = refl
joined-onto_first x (part ∷ parts) = refl

spaced-joined : (parts : List (List ℕ)) → 1 ≤ length parts → spaced parts ≡ 32 ∷ joined parts
spaced-joined [] some = absurd (omega arith)
spaced-joined (part ∷ parts) some = refl

-- the words of a line, joined, give it back
pub joined-split : (line : List ℕ) → joined (slice_split (λ b. b == 32) line) ≡ line
joined-split [] = refl
joined-split (x ∷ xs) =
    let by_test : (b : Bool) → (x == 32) ≡ b → joined (slice_split (λ b. b == 32) (x ∷ xs)) ≡ x ∷ xs = λ b. elim b as (λ v. (x == 32) ≡ v → joined (slice_split (λ b. b == 32) (x ∷ xs)) ≡ x ∷ xs) [
      | true ↦ λ yes.
          let is : x ≡ 32 = eqb-true x 32 yes in
          let some : 1 ≤ length (slice_split (λ b. b == 32) xs) = omega (arith, length-slice_split (λ b. b == 32) xs) in
          ap joined (slice_split-cons_yes (λ b. b == 32) x xs yes) ∙ spaced-joined (slice_split (λ b. b == 32) xs) some
          ∙ ap (λ t. 32 ∷ t) (joined-split xs) ∙ ap (λ c. c ∷ xs) (sym is)
      | false ↦ λ no.
          ap joined (slice_split-cons_no (λ b. b == 32) x xs no) ∙ joined-onto_first x (slice_split (λ b. b == 32) xs) ∙ ap (λ t. x ∷ t) (joined-split xs)
    ] in
    by_test (x == 32) refl

-- the words of the line of a formed cell
pub words_of_text : (cell : PlainCell) → IsFormed cell → slice_split (λ b. b == 32) (cell_text cell) ≡ cell_words cell
words_of_text cell f =
    let begins = words_begin cell in
    let graphic : All (Lacks 32) (cell_words cell) = All-weaker (All IsGraphic) (Lacks 32) (λ word h. graphic_lacks 32 word (lit< tt) h) (cell_words cell) (graphic_words cell f) in
    let clear : All (Lacks 32) (kind_text (kind_in cell) ∷ parts_of cell) = rw begins at graphic in
    ap (λ ws. slice_split (λ b. b == 32) (joined ws)) begins ∙ split_joined (kind_text (kind_in cell)) (parts_of cell) clear ∙ sym begins

-- a byte that a line may have
abbrev pub IsInLine : ℕ → Type 0
IsInLine b = (32 ≤ b) × (b ≤ 127)

spaced_all : (words : List (List ℕ)) → AreGraphic words → All IsInLine (spaced words)
spaced_all [] h = All-nil IsInLine
spaced_all (word ∷ words) h =
    All-cons IsInLine 32 (word ++ spaced words) (lit≤ tt, lit≤ tt)
    (All-append IsInLine word (spaced words) (All-weaker IsGraphic IsInLine (λ b (low, high). (omega arith, high)) word (All-head (All IsGraphic) word words h))
    (spaced_all words (All-tail (All IsGraphic) word words h)))

joined_all : (words : List (List ℕ)) → AreGraphic words → All IsInLine (joined words)
joined_all [] h = All-nil IsInLine
joined_all (word ∷ words) h =
    All-append IsInLine word (spaced words) (All-weaker IsGraphic IsInLine (λ b (low, high). (omega arith, high)) word (All-head (All IsGraphic) word words h))
    (spaced_all words (All-tail (All IsGraphic) word words h))

pub text_all : (cell : PlainCell) → IsFormed cell → All IsInLine (cell_text cell)
text_all cell f = joined_all (cell_words cell) (graphic_words cell f)

-- the line of a formed cell has no line end
pub text_lacks : (cell : PlainCell) → IsFormed cell → Lacks 10 (cell_text cell)
text_lacks cell f = All-weaker IsInLine (λ b. b ≢ 10) (λ b (low, high) e. absurd (omega arith)) (cell_text cell) (text_all cell f)

-- and it is text
pub text_is_text : (cell : PlainCell) → IsFormed cell → IsUtf8 (cell_text cell)
text_is_text cell f =
    IsUtf8-from_ascii (cell_text cell) (IsAscii-from_all (cell_text cell) (All-weaker IsInLine (λ b. b < 128) (λ b (low, high). omega arith) (cell_text cell) (text_all cell f)))

-- a line that is no text is that of no cell
pub no_text : (line : List ℕ) → (IsUtf8 line → ⊥) → (cell : PlainCell) → IsFormed cell → line ≢ cell_text cell
no_text line faulty cell f same = faulty (rw same (text_is_text cell f))

-- what the words of a line are read as is what the line is read as
pub line_read : (line : List ℕ) (words : List (List ℕ)) (r : Option Cell) → words ≡ slice_split (λ b. b == 32) line → ReadsWords words r → ReadsLine line r
line_read line words None cut h = λ cell f same. h cell f (cut ∙ ap (slice_split (λ b. b == 32)) same ∙ words_of_text cell f)
line_read line words (Some cell) cut (f, h) = (f, sym (joined-split line) ∙ ap joined (sym cut) ∙ ap joined h)

pub words_read : {E : Type 0} (line text : List ℕ) (words : List (List ℕ)) (r : Result (Option Cell) E) → text ≡ line → words ≡ slice_split (λ b. b == 32) text → IfOk r (ReadsWords words) → IfOk r (ReadsLine line)
words_read line text words (Ok r) same cut h = line_read line words r (cut ∙ ap (slice_split (λ b. b == 32)) same) h
words_read line text words (Err e) same cut h = tt

-- the line of a formed cell has few words
few_words : (cell : PlainCell) → IsFormed cell → length (cell_words cell) ≤ 8
few_words (in_cell name net ty) f = lit≤ tt
few_words (out_cell name net ty) f = lit≤ tt
few_words (done_cell net) f = lit≤ tt
few_words (const_cell net width word) f = lit≤ tt
few_words (op_cell net ty op a b) f = lit≤ tt
few_words (not_cell net ty a) f = lit≤ tt
few_words (shift_cell net ty side a places) f = lit≤ tt
few_words (cast_cell net from to a) f = lit≤ tt
few_words (mux_cell net width choice a b) f = lit≤ tt
few_words (reg_cell net width first next enable) f = lit≤ tt
few_words (bank_cell bank width len) f = lit≤ tt
few_words (read_tap net bank enable addr) f = lit≤ tt
few_words (write_tap bank enable addr word) f = lit≤ tt
few_words (dram_cell dram name ty dims) f = let n = length-map dims decimal in let most = f.3 in omega (arith, n, most)
few_words (load_unit channel dram ready net request last addr) f = lit≤ tt
few_words (store_unit channel dram ready request last addr word) f = lit≤ tt

-- so a line with many blanks is that of none
pub many_blanks : (line : List ℕ) → 7 < count_by (λ b. b == 32) line → (cell : PlainCell) → IsFormed cell → line ≢ cell_text cell
many_blanks line many cell f same =
    let words : length (slice_split (λ b. b == 32) line) ≡ length (cell_words cell) = ap (λ l. length (slice_split (λ b. b == 32) l)) same ∙ ap length (words_of_text cell f) in
    let pieces : length (slice_split (λ b. b == 32) line) ≡ count_by (λ b. b == 32) line + 1 = length-slice_split (λ b. b == 32) line in
    let few : length (cell_words cell) ≤ 8 = few_words cell f in
    absurd (omega (arith, words, pieces, few, many))

-- a line has at most one formed cell
pub same_text : (a b : PlainCell) → IsFormed a → IsFormed b → cell_text a ≡ cell_text b → a ≡ b
same_text a b f g e = same_cell a b f g (sym (words_of_text a f) ∙ ap (slice_split (λ b. b == 32)) e ∙ words_of_text b g)
