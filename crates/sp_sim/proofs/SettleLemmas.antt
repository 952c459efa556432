-- The nets that are computed have their words.
use Rattle.std.proofs.Common.{◌≡◌, ℕ, ◌<◌, ◌^◌, List, [], ◌∷◌, length, map, take, Contains, refl, sym, ap, subst, arith, Some}
use Rattle.std.specs.List.{fold}
use Rattle.sp_netlist.specs.Cells.{PlainCell, op_cell, not_cell, shift_cell, cast_cell, mux_cell}
use Rattle.sp_netlist.specs.Rules.{drives, reads, IsNetlist, IsRight}
use Rattle.sp_sim.specs.Rows.{word_of, with_word}
use Rattle.sp_sim.specs.Settling.{cell_at, computed_word, computed_width, OperandsFit, IsRow, settle_cell, settle_one, settled}
use Rattle.sp_sim.proofs.CellLemmas.{right_at, drives_driven, reads_driven, IsRow-put}

operands : (cells before : List PlainCell) (row : List (ℕ × ℕ)) (x : PlainCell) → IsRight cells before x
    → ((net width : ℕ) → Contains (reads cells x) (net, width) → word_of row net < 2 ^ width) → OperandsFit (word_of row) x
operands cells before row (op_cell net ty op a b) r k = (k a _ (0, omega arith, refl), k b _ (1, omega arith, refl))
operands cells before row (not_cell net ty a) r k = k a _ (0, omega arith, refl)
operands cells before row (shift_cell net ty side a places) r k = (k a _ (0, omega arith, refl), r)
operands cells before row (cast_cell net from to a) r k = k a _ (0, omega arith, refl)
operands cells before row (mux_cell net width choice a b) r k = (k a _ (1, omega arith, refl), k b _ (2, omega arith, refl))
operands cells before row _ r k = tt

-- the operands of a cell have their widths
pub operands_fit : (cells : List PlainCell) → IsNetlist cells → (row : List (ℕ × ℕ)) → IsRow cells row → (at : ℕ) → at < length cells → OperandsFit (word_of row) (cell_at cells at)
operands_fit cells h row r at l = operands cells (take at cells) row (cell_at cells at) (right_at cells h at l) (λ net width c. r.fits net width (reads_driven cells h at net width l c))

-- what is computed is driven
pub computed_driven : (cells : List PlainCell) (w : ℕ → ℕ) (x : PlainCell) (p : ℕ × ℕ) → computed_word w x ≡ Some p → Contains (drives cells x) (p.0, computed_width x)
computed_driven cells w (op_cell net ty op a b) p e = let same : net ≡ p.0 = cc in (0, omega arith, ap (λ n. (n, computed_width (op_cell net ty op a b))) same)
computed_driven cells w (not_cell net ty a) p e = let same : net ≡ p.0 = cc in (0, omega arith, ap (λ n. (n, computed_width (not_cell net ty a))) same)
computed_driven cells w (shift_cell net ty side a places) p e = let same : net ≡ p.0 = cc in (0, omega arith, ap (λ n. (n, computed_width (shift_cell net ty side a places))) same)
computed_driven cells w (cast_cell net from to a) p e = let same : net ≡ p.0 = cc in (0, omega arith, ap (λ n. (n, computed_width (cast_cell net from to a))) same)
computed_driven cells w (mux_cell net width choice a b) p e = let same : net ≡ p.0 = cc in (0, omega arith, ap (λ n. (n, width)) same)
computed_driven cells w _ p e = absurd (cc)

-- cell by cell, in the order of their places
pub settled_as_cells : (cells : List PlainCell) (order : List ℕ) (row : List (ℕ × ℕ)) → fold settle_cell row (map (cell_at cells) order) ≡ settled cells row order
unfolding settle_cell settle_one
settled_as_cells cells [] row = refl
settled_as_cells cells (at ∷ order) row = settled_as_cells cells order (settle_one cells row at)

pub settled_row : (cells : List PlainCell) → IsNetlist cells → (row : List (ℕ × ℕ)) → IsRow cells row → (at : ℕ) → at < length cells → (x : PlainCell) (p : ℕ × ℕ) → x ≡ cell_at cells at
    → Some p ≡ computed_word (word_of row) x → p.1 < 2 ^ computed_width x → IsRow cells (with_word row p.0 p.1)
settled_row cells h row r at l x p e f fits =
    IsRow-put cells h row r p.0 (computed_width x) p.1 (drives_driven cells at p.0 (computed_width x) l (subst (λ y. Contains (drives cells y) (p.0, computed_width x)) e (computed_driven cells (word_of row) x p (sym f)))) fits
