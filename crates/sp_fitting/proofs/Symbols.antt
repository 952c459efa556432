-- Words that stand in memories, as numbers.
use Rattle.std.proofs.Common.{◌≡◌, ℕ, Bool, true, false, pos, [], length, Option, Some, None, refl, sym, ap, ◌∙◌, subst}
use Rattle.std.proofs.lemmas.Bool.{false≢true, ltb-false}
use Rattle.std.specs.Prelude.{nat_lt}
use Rattle.sp_words.specs.declared.types.Ty.{Ty}
use Rattle.sp_words.specs.Laws.{IsInRange}
use Rattle.sp_words.specs.Types.{int_type}
use Rattle.sp_words.specs.Words.{IsWord, has_sign, value_of}
use Rattle.sp_core.specs.Accesses.{word_in}
use Rattle.sp_core.specs.Declarations.{mem, kind_of, dims}
use Rattle.sp_core.specs.Forms.{PlainForms, held_word}
use Rattle.sp_core.specs.PlainCore.{PlainMem, PlainCore}
use Rattle.sp_core.specs.Typed.{is_type}
use Rattle.sp_fitting.specs.Fitting.{type_at, IsCell}
use Rattle.sp_fitting.specs.Laws.{WordsFit, SymbolsFit}
use Rattle.sp_fitting.proofs.Contents.{zero_fits, no_mem_there, type_of_mem, word_found, same_word_back}

pub words_fit : (core : PlainCore) → WordsFit core
words_fit core s m is w fits e = subst (IsCell (type_at core m)) e (word_found (type_at core m) (kind_of core m) (dims core m) is (s m) (fits m))

-- a memory of `Int` is one of the core's memories
int_there : (core : PlainCore) (m : ℕ) → is_type int_type (mem core m).ty ≡ true → nat_lt m (length core.mems) ≡ true
int_there core m e = go (nat_lt m (length core.mems)) refl
  where
    go : (b : Bool) → nat_lt m (length core.mems) ≡ b → nat_lt m (length core.mems) ≡ true
    go true is = is
    go false is = absurd (false≢true (sym (ap (λ (x : PlainMem). is_type int_type x.ty) (no_mem_there core.mems m (ltb-false m (length core.mems) is))) ∙ e))

zero_is : value_of int_type 0 ≡ pos 0
unfolding value_of has_sign
zero_is = refl

module _ (in_range : (w : ℕ) → IsWord int_type w → IsInRange int_type (value_of int_type w)) where
  held_fits : (core : PlainCore) (forms : PlainForms) (o : Option ℕ) → IsCell int_type o → IsInRange int_type (held_word core forms o)
  held_fits core forms None p = subst (IsInRange int_type) zero_is (in_range 0 (zero_fits int_type))
  held_fits core forms (Some w) p = in_range w p

  int_cell : (ty : Ty) → is_type int_type ty ≡ true → (o : Option ℕ) → IsCell ty o → IsCell int_type o
  int_cell ty e None p = tt
  int_cell ty e (Some w) p = same_word_back int_type ty w e p

  pub symbols_fit : (core : PlainCore) → SymbolsFit core
  symbols_fit core forms s fits m e =
      held_fits core forms (word_in (kind_of core m) (dims core m) [] (s m))
      (int_cell (mem core m).ty e _ (subst (λ ty. IsCell ty (word_in (kind_of core m) (dims core m) [] (s m))) (type_of_mem core m (int_there core m e)) (word_found (type_at core m) (kind_of core m) (dims core m) [] (s m) (fits m))))
