-- The words of outs along a list of cells.
use Rattle.std.proofs.Common.{◌≡◌, ℕ, List, [], ◌∷◌, ◌++◌, refl, ap}
use Rattle.sp_netlist.specs.Cells.{PlainCell, out_cell}
use Rattle.sp_netlist.specs.Cycle.{out_words}

pub out_words_push : (xs : List PlainCell) (x : PlainCell) (w : ℕ → ℕ) → out_words (xs ++ x ∷ []) w ≡ out_words xs w ++ out_words (x ∷ []) w
out_words_push [] x w = refl
out_words_push (out_cell name net ty ∷ xs) x w = ap (λ ws. w net ∷ ws) (out_words_push xs x w)
out_words_push (_ ∷ xs) x w = out_words_push xs x w
