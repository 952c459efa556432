-- What a program and a core say of memories in words of their own is the same.
use Rattle.std.proofs.Common.{◌≡◌, ℕ, ◌+◌, ◌*◌, Bool, true, false, List, [], ◌∷◌, Option, Some, None, refl, ap, ◌∙◌}
use Rattle.std.specs.Prelude.{ℤ, pos, negsuc, map, ◌&&◌, not}
use Rattle.sp_words.specs.declared.kind.BinOp.{BinOp}
use Rattle.sp_words.specs.declared.kind.BinOp.TheVariants as binary
use Rattle.sp_words.specs.declared.kind.UnOp.{UnOp}
use Rattle.sp_words.specs.declared.kind.UnOp.TheVariants as unary
use Rattle.sp_words.specs.declared.types.Ty.{Ty}
use Rattle.sp_words.specs.Interface.{word_count}
use Rattle.sp_words.specs.Words.{word_lt, word_eq}
use Rattle.sp_words.specs.Memory.{Contents, cells, queue, rows, words}
use Rattle.sp_tree.specs.Elements as program
use Rattle.sp_tree.specs.Operators as program_operators
use Rattle.sp_tree.specs.Store as program_store
use Rattle.sp_core.specs.Elements as core
use Rattle.sp_core.specs.Operators as core_operators
use Rattle.sp_core.specs.Store as core_store

pub same_cells : (c : Option Contents) → core_store.cells_of c ≡ program_store.cells_of c
same_cells None = refl
same_cells (Some (cells cs)) = refl
same_cells (Some (queue ws)) = refl
same_cells (Some (rows rs)) = refl
same_cells (Some (words ws)) = refl

pub same_queue : (c : Option Contents) → core_store.queue_of c ≡ program_store.queue_of c
same_queue None = refl
same_queue (Some (cells cs)) = refl
same_queue (Some (queue ws)) = refl
same_queue (Some (rows rs)) = refl
same_queue (Some (words ws)) = refl

pub same_rows : (c : Option Contents) → core_store.rows_of c ≡ program_store.rows_of c
same_rows None = refl
same_rows (Some (cells cs)) = refl
same_rows (Some (queue ws)) = refl
same_rows (Some (rows rs)) = refl
same_rows (Some (words ws)) = refl

pub same_words : (c : Option Contents) → core_store.words_of c ≡ program_store.words_of c
same_words None = refl
same_words (Some (cells cs)) = refl
same_words (Some (queue ws)) = refl
same_words (Some (rows rs)) = refl
same_words (Some (words ws)) = refl

pub same_natural : (z : ℤ) → core.natural z ≡ program.natural z
same_natural (pos n) = refl
same_natural (negsuc n) = refl

same_below : (z : ℤ) (n : ℕ) → core.is_below z n ≡ program.is_below z n
same_below (pos k) n = refl
same_below (negsuc k) n = refl

pub same_inside : (dims : List ℕ) (is : List ℤ) → core.are_inside dims is ≡ program.are_inside dims is
same_inside [] [] = refl
same_inside [] (i ∷ is) = refl
same_inside (d ∷ dims) [] = refl
same_inside (d ∷ dims) (i ∷ is) = ap (λ b. b && core.are_inside dims is) (same_below i d) ∙ ap (λ b. program.is_below i d && b) (same_inside dims is)

pub same_place : (dims is : List ℕ) → core.row_major dims is ≡ program.row_major dims is
same_place [] [] = refl
same_place [] (i ∷ is) = refl
same_place (d ∷ dims) [] = refl
same_place (d ∷ dims) (i ∷ is) = ap (λ n. i * word_count dims + n) (same_place dims is)

-- indices, as places
pub same_places : (is : List ℕ) → map (λ i. core.natural (core.index_value i)) is ≡ map (λ i. program.natural (program.index_value i)) is
same_places [] = refl
same_places (i ∷ is) = ap (λ n. n ∷ map (λ i. core.natural (core.index_value i)) is) (same_natural (core.index_value i)) ∙ ap (λ ns. program.natural (program.index_value i) ∷ ns) (same_places is)

same_bit : (b : Bool) → core_operators.bit b ≡ program_operators.bit b
same_bit true = refl
same_bit false = refl

pub same_one : (op : UnOp) (ty : Ty) (a : ℕ) → core_operators.one_word op ty a ≡ program_operators.one_word op ty a
same_one unary.Neg ty a = refl
same_one unary.Not ty a = refl

pub same_two : (op : BinOp) (ty : Ty) (a b : ℕ) → core_operators.two_word op ty a b ≡ program_operators.two_word op ty a b
same_two binary.Add ty a b = refl
same_two binary.Sub ty a b = refl
same_two binary.Mul ty a b = refl
same_two binary.Div ty a b = refl
same_two binary.Rem ty a b = refl
same_two binary.And ty a b = refl
same_two binary.Or ty a b = refl
same_two binary.Xor ty a b = refl
same_two binary.Lt ty a b = same_bit (word_lt ty a b)
same_two binary.Le ty a b = same_bit (not (word_lt ty b a))
same_two binary.Gt ty a b = same_bit (word_lt ty b a)
same_two binary.Ge ty a b = same_bit (not (word_lt ty a b))
same_two binary.Eq ty a b = same_bit (word_eq ty a b)
same_two binary.Ne ty a b = same_bit (not (word_eq ty a b))
same_two binary.Min ty a b = refl
same_two binary.Max ty a b = refl

pub same_shift : (left : Bool) (ty : Ty) (a by : ℕ) → core_operators.shifted left ty a by ≡ program_operators.shifted left ty a by
same_shift true ty a by = refl
same_shift false ty a by = refl
