-- The operators of a core, as words of a type: that of their operands.
use Rattle.std.specs.Prelude.{ℕ, ◌==◌, Bool, true, false, not, if◌then◌else◌}
use Rattle.sp_words.specs.declared.kind.BinOp.{BinOp}
use Rattle.sp_words.specs.declared.kind.BinOp.TheVariants as binary
use Rattle.sp_words.specs.declared.kind.UnOp.{UnOp}
use Rattle.sp_words.specs.declared.kind.UnOp.TheVariants as unary
use Rattle.sp_words.specs.declared.types.Ty.{Ty}
use Rattle.sp_words.specs.Words.{word_add, word_sub, word_mul, word_div, word_rem, word_and, word_or, word_xor, word_not, word_lt, word_eq, word_min, word_max, word_shl, word_shr}

-- the word of a `Bit`
abbrev pub bit : Bool → ℕ
bit true = 1
bit false = 0

-- `-a`, and every bit turned
abbrev pub one_word : UnOp → Ty → ℕ → ℕ
one_word unary.Neg ty a = word_sub ty 0 a
one_word unary.Not ty a = word_not ty a

abbrev pub two_word : BinOp → Ty → ℕ → ℕ → ℕ
two_word binary.Add ty a b = word_add ty a b
two_word binary.Sub ty a b = word_sub ty a b
two_word binary.Mul ty a b = word_mul ty a b
two_word binary.Div ty a b = word_div ty a b
two_word binary.Rem ty a b = word_rem ty a b
two_word binary.And ty a b = word_and ty a b
two_word binary.Or ty a b = word_or ty a b
two_word binary.Xor ty a b = word_xor ty a b
two_word binary.Lt ty a b = bit (word_lt ty a b)
two_word binary.Le ty a b = bit (not (word_lt ty b a))
two_word binary.Gt ty a b = bit (word_lt ty b a)
two_word binary.Ge ty a b = bit (not (word_lt ty a b))
two_word binary.Eq ty a b = bit (word_eq ty a b)
two_word binary.Ne ty a b = bit (not (word_eq ty a b))
two_word binary.Min ty a b = word_min ty a b
two_word binary.Max ty a b = word_max ty a b

-- to the left where the flag is set
abbrev pub shifted : Bool → Ty → ℕ → ℕ → ℕ
shifted true ty a by = word_shl ty a by
shifted false ty a by = word_shr ty a by

-- the second word where the first is 1
abbrev pub chosen : ℕ → ℕ → ℕ → ℕ
chosen c a b = if c == 1 then a else b
