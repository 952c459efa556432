-- Operators that are balanced: grouping is free for them.
use Rattle.std.proofs.Common.{◌≡◌, ℕ, true, sym}
use Rattle.std.proofs.lemmas.Bool.{true≢false, eqb-true}
use Rattle.sp_words.specs.declared.kind.BinOp.{BinOp}
use Rattle.sp_words.specs.declared.kind.BinOp.TheVariants as binary
use Rattle.sp_words.specs.declared.types.Ty.{Ty}
use Rattle.sp_words.specs.Laws.{GivesWords, IsAssociativeAt, IsAssociative}
use Rattle.sp_words.specs.Types.{frac_of}
use Rattle.sp_words.specs.Words.{IsWord, word_add, word_mul, word_and, word_or, word_xor, word_min, word_max}
use Rattle.sp_core.specs.Operators.{two_word}
use Rattle.sp_lanes.specs.Joined.{is_balanced}

pub record Laws : Type 0 where
  pub sum : IsAssociative word_add
  pub product : (ty : Ty) → frac_of ty ≡ 0 → IsAssociativeAt ty word_mul
  pub both : IsAssociative word_and
  pub either : IsAssociative word_or
  pub unlike : IsAssociative word_xor
  pub least : IsAssociative word_min
  pub greatest : IsAssociative word_max
  pub gives_sum : GivesWords word_add
  pub gives_product : GivesWords word_mul
  pub gives_both : GivesWords word_and
  pub gives_either : GivesWords word_or
  pub gives_unlike : GivesWords word_xor
  pub gives_least : GivesWords word_min
  pub gives_greatest : GivesWords word_max

module _ (laws : Laws) where
  pub is_grouped : (op : BinOp) (ty : Ty) → is_balanced op ty ≡ true → IsAssociativeAt ty (λ ty. two_word op ty)
  is_grouped binary.Add ty e = laws.sum ty
  is_grouped binary.Mul ty e = laws.product ty (eqb-true (frac_of ty) 0 e)
  is_grouped binary.And ty e = laws.both ty
  is_grouped binary.Or ty e = laws.either ty
  is_grouped binary.Xor ty e = laws.unlike ty
  is_grouped binary.Min ty e = laws.least ty
  is_grouped binary.Max ty e = laws.greatest ty
  is_grouped _ ty e = absurd (true≢false (sym e))

  pub is_closed : (op : BinOp) (ty : Ty) → is_balanced op ty ≡ true → (a b : ℕ) → IsWord ty a → IsWord ty b → IsWord ty (two_word op ty a b)
  is_closed binary.Add ty e = laws.gives_sum ty
  is_closed binary.Mul ty e = laws.gives_product ty
  is_closed binary.And ty e = laws.gives_both ty
  is_closed binary.Or ty e = laws.gives_either ty
  is_closed binary.Xor ty e = laws.gives_unlike ty
  is_closed binary.Min ty e = laws.gives_least ty
  is_closed binary.Max ty e = laws.gives_greatest ty
  is_closed _ ty e = absurd (true≢false (sym e))
