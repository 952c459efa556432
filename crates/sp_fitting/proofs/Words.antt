-- Operators give words of their types, from words of the types that they take.
use Rattle.std.proofs.Common.{◌≡◌, ℕ, zero, suc, ◌-◌, Bool, true, false, not, ℤ, List, [], ◌∷◌, ◌++◌, length, map, Option, Some, None, IfSome, arith, slice_index, if◌then◌else◌}
use Rattle.std.proofs.lemmas.Bool.{and_parts, false≢true}
use Rattle.std.specs.List.{AllZip}
use Rattle.std.specs.Option.{unwrap_or}
use Rattle.std.specs.Prelude.{◌==◌}
use Rattle.sp_words.specs.declared.kind.BinOp.{BinOp}
use Rattle.sp_words.specs.declared.kind.BinOp.TheVariants as binary
use Rattle.sp_words.specs.declared.kind.UnOp.{UnOp}
use Rattle.sp_words.specs.declared.kind.UnOp.TheVariants as unary
use Rattle.sp_words.specs.declared.types.Ty.{Ty}
use Rattle.sp_words.specs.declared.types.Ty.TheVariants.{Bit}
use Rattle.sp_words.specs.Laws.{GivesWords}
use Rattle.sp_words.specs.Words.{IsWord, wrap, word_add, word_sub, word_mul, word_div, word_rem, word_and, word_or, word_xor, word_min, word_max, word_shl, word_shr, word_not, word_cast, word_lt, word_eq}
use Rattle.sp_core.specs.History.{Entry, word_of, word_at}
use Rattle.sp_core.specs.Operators.{bit, one_word, two_word, shifted, chosen}
use Rattle.sp_core.specs.Typed.{Given, is_comparison, gives, give_all}
use Rattle.sp_fitting.proofs.Contents.{zero_fits, same_word}

-- what is known of operators on words
pub record Operators : Type 0 where
  pub sum : GivesWords word_add
  pub difference : GivesWords word_sub
  pub product : GivesWords word_mul
  pub quotient : GivesWords word_div
  pub remainder : GivesWords word_rem
  pub both : GivesWords word_and
  pub either : GivesWords word_or
  pub unlike : GivesWords word_xor
  pub least : GivesWords word_min
  pub greatest : GivesWords word_max
  pub turned : (ty : Ty) (a : ℕ) → IsWord ty (word_not ty a)
  pub shifted_left : (ty : Ty) (a by : ℕ) → IsWord ty (word_shl ty a by)
  pub shifted_right : (ty : Ty) (a by : ℕ) → IsWord ty (word_shr ty a by)
  pub cast : (from to : Ty) (a : ℕ) → IsWord to (word_cast from to a)
  pub wrapped : (ty : Ty) (z : ℤ) → IsWord ty (wrap ty z)

pub bit_fits : (b : Bool) → IsWord Bit (bit b)
bit_fits true = omega arith
bit_fits false = omega arith

module _ (known : Operators) where
  pub one_fits : (op : UnOp) (ty : Ty) (a : ℕ) → IsWord ty a → IsWord ty (one_word op ty a)
  one_fits unary.Neg ty a p = known.difference ty 0 a (zero_fits ty) p
  one_fits unary.Not ty a p = known.turned ty a

  pub two_fits : (op : BinOp) (ty : Ty) (a b : ℕ) → IsWord ty a → IsWord ty b → IsWord (if is_comparison op then Bit else ty) (two_word op ty a b)
  two_fits binary.Add ty a b p q = known.sum ty a b p q
  two_fits binary.Sub ty a b p q = known.difference ty a b p q
  two_fits binary.Mul ty a b p q = known.product ty a b p q
  two_fits binary.Div ty a b p q = known.quotient ty a b p q
  two_fits binary.Rem ty a b p q = known.remainder ty a b p q
  two_fits binary.And ty a b p q = known.both ty a b p q
  two_fits binary.Or ty a b p q = known.either ty a b p q
  two_fits binary.Xor ty a b p q = known.unlike ty a b p q
  two_fits binary.Lt ty a b p q = bit_fits (word_lt ty a b)
  two_fits binary.Le ty a b p q = bit_fits (not (word_lt ty b a))
  two_fits binary.Gt ty a b p q = bit_fits (word_lt ty b a)
  two_fits binary.Ge ty a b p q = bit_fits (not (word_lt ty a b))
  two_fits binary.Eq ty a b p q = bit_fits (word_eq ty a b)
  two_fits binary.Ne ty a b p q = bit_fits (not (word_eq ty a b))
  two_fits binary.Min ty a b p q = known.least ty a b p q
  two_fits binary.Max ty a b p q = known.greatest ty a b p q

  pub shift_fits : (left : Bool) (ty : Ty) (a by : ℕ) → IsWord ty (shifted left ty a by)
  shift_fits true ty a by = known.shifted_left ty a by
  shift_fits false ty a by = known.shifted_right ty a by

pub chosen_fits : (ty : Ty) (c a b : ℕ) → IsWord ty a → IsWord ty b → IsWord ty (chosen c a b)
chosen_fits ty c a b p q = go (c == 1)
  where
    go : (x : Bool) → IsWord ty (if x then a else b)
    go true = p
    go false = q

-- earlier operations of a list gave words of the types that they give
abbrev pub GivenFit : Given → List Entry → Type 0
GivenFit given es = AllZip (λ (t : Option Ty) e. IfSome t (λ ty. IsWord ty (word_of e))) given es

pub given_more : (given : Given) (es : List Entry) (t : Option Ty) (e : Entry) → GivenFit given es → IfSome t (λ ty. IsWord ty (word_of e)) → GivenFit (given ++ t ∷ []) (es ++ e ∷ [])
given_more [] [] t e h p = (p, tt)
given_more [] (x ∷ es) t e h p = absurd h
given_more (g ∷ given) [] t e h p = absurd h
given_more (g ∷ given) (x ∷ es) t e h p = (h.0, given_more given es t e h.1 p)

-- the word at a place is one of the type that was asked of it
pub given_word : (given : Given) (es : List Entry) (k : ℕ) (ty : Ty) → GivenFit given es → gives given k ty ≡ true → IsWord ty (word_at es k)
given_word [] es k ty h e = absurd (false≢true e)
given_word (g ∷ given) [] k ty h e = absurd h
given_word (None ∷ given) (x ∷ es) zero ty h e = absurd (false≢true e)
given_word (Some t ∷ given) (x ∷ es) zero ty h e = same_word t ty (word_of x) e h.0
given_word (g ∷ given) (x ∷ es) (suc k) ty h e = given_word given es k ty h.1 e

abbrev pub AreWordsOf : List Ty → List ℕ → Type 0
AreWordsOf types ws = AllZip IsWord types ws

pub given_words : (given : Given) (es : List Entry) (places : List ℕ) (types : List Ty) → GivenFit given es → give_all given places types ≡ true → AreWordsOf types (map (word_at es) places)
given_words given es [] [] h e = tt
given_words given es [] (ty ∷ types) h e = absurd (false≢true e)
given_words given es (p ∷ places) [] h e = absurd (false≢true e)
given_words given es (p ∷ places) (ty ∷ types) h e =
    let a = and_parts (gives given p ty) (give_all given places types) e in
    (given_word given es p ty h a.0, given_words given es places types h a.1)

-- the first word, and the last one
pub first_word : (ty : Ty) (types : List Ty) (ws : List ℕ) → AreWordsOf (ty ∷ types) ws → IsWord ty (slice_index ws 0)
first_word ty types [] h = absurd h
first_word ty types (w ∷ ws) h = h.0

pub second_word : (a b : Ty) (types : List Ty) (ws : List ℕ) → AreWordsOf (a ∷ b ∷ types) ws → IsWord b (slice_index ws 1)
second_word a b types [] h = absurd h
second_word a b types (w ∷ ws) h = first_word b types ws h.1

pub third_word : (a b c : Ty) (types : List Ty) (ws : List ℕ) → AreWordsOf (a ∷ b ∷ c ∷ types) ws → IsWord c (slice_index ws 2)
third_word a b c types [] h = absurd h
third_word a b c types (w ∷ ws) h = second_word b c types ws h.1

not_empty : (types : List Ty) (ty : Ty) → AreWordsOf (types ++ ty ∷ []) [] → ⊥
not_empty [] ty h = h
not_empty (t ∷ types) ty h = h

last_at : (types : List Ty) (ty : Ty) (ws : List ℕ) (k : ℕ) → suc k ≡ length ws → AreWordsOf (types ++ ty ∷ []) ws → IsWord ty (slice_index ws k)
last_at [] ty [] k e h = absurd h
last_at [] ty (w ∷ []) zero e h = h.0
last_at [] ty (w ∷ []) (suc k) e h = absurd (omega (arith, e))
last_at [] ty (w ∷ x ∷ ws) k e h = absurd h.1
last_at (t ∷ types) ty [] k e h = absurd h
last_at (t ∷ types) ty (w ∷ []) k e h = absurd (not_empty types ty h.1)
last_at (t ∷ types) ty (w ∷ x ∷ ws) zero e h = absurd (omega (arith, e))
last_at (t ∷ types) ty (w ∷ x ∷ ws) (suc k) e h = last_at types ty (x ∷ ws) k (omega (arith, e)) h.1

pub last_of_words : (types : List Ty) (ty : Ty) (ws : List ℕ) → AreWordsOf (types ++ ty ∷ []) ws → IsWord ty (slice_index ws (length ws - 1))
last_of_words types ty [] h = absurd (not_empty types ty h)
last_of_words types ty (w ∷ ws) h = last_at types ty (w ∷ ws) (suc (length ws) - 1) (omega arith) h

-- what an operation stands for is of the type that it gives
pub given_of : (t : Option Ty) (ty : Ty) (w : ℕ) → IsWord (unwrap_or t ty) w → IfSome t (λ u. IsWord u w)
given_of None ty w h = tt
given_of (Some u) ty w h = h
