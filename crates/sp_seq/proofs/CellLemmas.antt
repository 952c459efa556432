-- Cells by their marks and words.
use Rattle.std.proofs.Common.{◌≡◌, ℕ, zero, suc, ◌<◌, List, [], ◌∷◌, Option, Some, None, length, get_or, set, replicate, refl, sym, ap, ◌∙◌, arith, cond, eqb}
use Rattle.std.proofs.lemmas.Bool.Decides.{nat_tests}
use Rattle.sp_seq.specs.Rows.{cells_from}

abbrev pub cell_of : ℕ → ℕ → Option ℕ
cell_of mark word = cond (eqb mark 1) (Some word) None

pub length-cells : (ms ws : List ℕ) → length ms ≡ length ws → length (cells_from ms ws) ≡ length ws
length-cells [] [] e = refl
length-cells [] (w ∷ ws) e = absurd (omega arith)
length-cells (m ∷ ms) [] e = absurd (omega arith)
length-cells (m ∷ ms) (w ∷ ws) e = let h : length ms ≡ length ws = omega arith in ap suc (length-cells ms ws h)

pub cell_at : (ms ws : List ℕ) (i : ℕ) → length ms ≡ length ws → i < length ws → get_or (cells_from ms ws) i None ≡ cell_of (get_or ms i 0) (get_or ws i 0)
cell_at [] ws i e l = absurd (omega arith)
cell_at (m ∷ ms) [] i e l = absurd (omega arith)
cell_at (m ∷ ms) (w ∷ ws) zero e l = refl
cell_at (m ∷ ms) (w ∷ ws) (suc i) e l = cell_at ms ws i (omega arith) (omega arith)

pub cells_from-set : (ms ws : List ℕ) (i w : ℕ) → length ms ≡ length ws → cells_from (set ms i 1) (set ws i w) ≡ set (cells_from ms ws) i (Some w)
cells_from-set [] [] i w e = refl
cells_from-set [] (v ∷ ws) i w e = absurd (omega arith)
cells_from-set (m ∷ ms) [] i w e = absurd (omega arith)
cells_from-set (m ∷ ms) (v ∷ ws) zero w e = refl
cells_from-set (m ∷ ms) (v ∷ ws) (suc i) w e = ap (λ cs. cell_of m v ∷ cs) (cells_from-set ms ws i w (omega arith))

pub cells_from-clear : (ws : List ℕ) → cells_from (replicate (length ws) 0) ws ≡ replicate (length ws) None
cells_from-clear [] = refl
cells_from-clear (w ∷ ws) = ap (λ cs. None ∷ cs) (cells_from-clear ws)

pub cells_from-fresh : (n : ℕ) (ms ws : List ℕ) → ms ≡ replicate n 0 → length ws ≡ n → cells_from ms ws ≡ replicate n None
cells_from-fresh n ms ws e l = ap (λ xs. cells_from xs ws) (e ∙ ap (λ k. replicate k 0) (sym l)) ∙ cells_from-clear ws ∙ ap (λ k. replicate k None) l

pub cell_of-marked : (mark word : ℕ) → mark ≡ 1 → cell_of mark word ≡ Some word
cell_of-marked mark word e = grind (arith, nat_tests)

pub cell_of-unmarked : (mark word : ℕ) → (mark ≡ 1 → ⊥) → cell_of mark word ≡ None
cell_of-unmarked mark word e = grind (arith, nat_tests)
