-- Counts that are capped, cell by cell.
use Rattle.std.proofs.Common.{◌≡◌, ℕ, zero, suc, ◌+◌, ◌*◌, ◌<◌, ◌≤◌, min, List, [], ◌∷◌, ◌++◌, length, get_or, take, sym, ap, ◌∙◌, ◌⊎◌, inl, inr, arith, mul_assoc}
use Rattle.std.proofs.lemmas.List.{take_more, map_push}
use Rattle.std.proofs.lemmas.Bool.{cases_lt}
use Rattle.std.proofs.Math.Nat.{min-eq_left, mul-le-mul_right, le_of_lt}
use Rattle.sp_netlist.specs.declared.cell.Cell.{Cell}
use Rattle.sp_netlist.specs.Cells.{PlainCell, bank_cell, dram_cell, plain_cell, plain_cells}
use Rattle.sp_words.specs.Interface.{word_count}
use Rattle.sp_netlist.specs.Refusals.{bank_words, dram_words}

capped_product : (m c d : ℕ) → (m < c) ⊎ (c ≤ m) → min (min c m * suc d) m ≡ min (c * suc d) m
capped_product m c d (inl above) =
    let e : min c m ≡ m = omega arith in
    rw e (omega (arith, mul-le-mul_right (suc d) (le_of_lt above)))
capped_product m c d (inr within) = ap (λ n. min (n * suc d) m) (min-eq_left within)

pub capped_times : (m b c d : ℕ) → b ≡ min c m → min (b * d) m ≡ min (c * d) m
capped_times m b c zero e = omega arith
capped_times m b c (suc d) e = ap (λ n. min (n * suc d) m) e ∙ capped_product m c d (cases_lt m c)

word_count-push : (dims : List ℕ) (d : ℕ) → word_count (dims ++ d ∷ []) ≡ word_count dims * d
word_count-push [] d = omega arith
word_count-push (x ∷ dims) d = ap (λ n. x * n) (word_count-push dims d) ∙ sym (mul_assoc x (word_count dims) d)

pub word_count-more : (dims : List ℕ) (i : ℕ) (d : ℕ) → i < length dims → d ≡ get_or dims i 0 → word_count (take (i + 1) dims) ≡ word_count (take i dims) * d
word_count-more dims i d within is =
    ap word_count (take_more dims i 0 within ∙ ap (λ x. take i dims ++ x ∷ []) (sym is)) ∙ word_count-push (take i dims) d

pub bank_words-push : (cells : List PlainCell) (c : PlainCell) → bank_words (cells ++ c ∷ []) ≡ bank_words cells + bank_words (c ∷ [])
bank_words-push [] c = omega arith
bank_words-push (bank_cell bank width len ∷ cells) c = let rest = bank_words-push cells c in omega (arith, rest)
bank_words-push (x ∷ cells) c = bank_words-push cells c

pub dram_words-push : (cells : List PlainCell) (c : PlainCell) → dram_words (cells ++ c ∷ []) ≡ dram_words cells + dram_words (c ∷ [])
dram_words-push [] c = omega arith
dram_words-push (dram_cell dram name ty dims ∷ cells) c = let rest = dram_words-push cells c in omega (arith, rest)
dram_words-push (x ∷ cells) c = dram_words-push cells c

-- the cells up to the next one
pub plain_more : (cells : List Cell) (i : ℕ) (cell : Cell) → i < length cells → cell ≡ get_or cells i cell → plain_cells (take (i + 1) cells) ≡ plain_cells (take i cells) ++ plain_cell cell ∷ []
plain_more cells i cell within is =
    ap plain_cells (take_more cells i cell within ∙ ap (λ c. take i cells ++ c ∷ []) (sym is)) ∙ map_push plain_cell (take i cells) cell

pub bank_words-more : (cells : List Cell) (i : ℕ) (cell : Cell) → i < length cells → cell ≡ get_or cells i cell
    → bank_words (plain_cells (take (i + 1) cells)) ≡ bank_words (plain_cells (take i cells)) + bank_words (plain_cell cell ∷ [])
bank_words-more cells i cell within is = ap bank_words (plain_more cells i cell within is) ∙ bank_words-push (plain_cells (take i cells)) (plain_cell cell)

pub dram_words-more : (cells : List Cell) (i : ℕ) (cell : Cell) → i < length cells → cell ≡ get_or cells i cell
    → dram_words (plain_cells (take (i + 1) cells)) ≡ dram_words (plain_cells (take i cells)) + dram_words (plain_cell cell ∷ [])
dram_words-more cells i cell within is = ap dram_words (plain_more cells i cell within is) ∙ dram_words-push (plain_cells (take i cells)) (plain_cell cell)
