-- The plain reader: types, initial values and dimensions.
use Rattle.std.specs.Prelude.{ℕ, Bool, true, false, if◌then◌else◌, List, [], ◌∷◌, length, Option, Some, None, Result, Ok, Err}
use Rattle.sp_reader.specs.declared.token.TokenKind.{TokenKind}
use Rattle.sp_reader.specs.declared.token.TokenKind.TheVariants as k
use Rattle.sp_reader.specs.declared.token.Token.{Token}
use Rattle.sp_reader.specs.declared.syntax.expression.SynTy.{SynTy}
use Rattle.sp_reader.specs.declared.syntax.expression.SynTy.TheVariants.{Int, Bit, FixPt}
use Rattle.sp_reader.specs.PlainTree.{PlainLit, number_lit, truth_lit}
use Rattle.sp_reader.specs.Steps.{Text, Rule, ◌>>=◌, pure, refuse, next, kind_of, tail_of, place_of, sees, skip, spelling}
use Rattle.sp_reader.specs.Names.{number, count}
use Rattle.sp_reader.specs.Numbers.{width as width_of}

unfoldable pub width : Text → Rule ℕ
width source = λ ts. if sees k.Width ts then Ok (width_of (spelling source ts), tail_of ts) else Err (length ts)

-- whether the numbers of a type have a sign
unfoldable pub has_sign : Rule Bool
has_sign = λ ts. if sees k.Signed ts then Ok (true, tail_of ts) else (if sees k.Unsigned ts then Ok (false, tail_of ts) else Err (length ts))

unfoldable pub fixed : Text → ℕ → Rule SynTy
fixed source at = do
  _ ← skip k.OpenSquare
  signed ← has_sign
  _ ← skip k.Comma
  whole ← width source
  _ ← skip k.Comma
  frac ← width source
  _ ← skip k.CloseSquare
  pure (FixPt at signed whole frac)

unfoldable pub ty : Text → Rule SynTy
ty source = λ ts.
    if sees k.Int ts then Ok (Int (place_of ts), tail_of ts)
    else (if sees k.Bit ts then Ok (Bit (place_of ts), tail_of ts) else (if sees k.FixPt ts then fixed source (place_of ts) (tail_of ts) else Err (length ts)))

-- a type in square brackets
unfoldable pub bracketed : Text → Rule SynTy
bracketed source = do
  _ ← skip k.OpenSquare
  t ← ty source
  _ ← skip k.CloseSquare
  pure t

-- what stands after the `.` of a cast
unfoldable pub target : Text → Rule SynTy
target source = do
  _ ← skip k.To
  bracketed source

unfoldable pub number_literal : Text → ℕ → Bool → Rule PlainLit
number_literal source at negative = do
  digits ← number source at negative
  λ ts. if sees k.Dot ts then (target source >>= λ t. pure (number_lit digits (Some t))) (tail_of ts) else Ok (number_lit digits None, ts)

unfoldable pub literal : Text → Rule PlainLit
literal source = λ ts.
    if sees k.True ts then Ok (truth_lit (place_of ts) true, tail_of ts)
    else (if sees k.False ts then Ok (truth_lit (place_of ts) false, tail_of ts)
    else (if sees k.Minus ts then number_literal source (place_of ts) true (tail_of ts) else number_literal source (place_of ts) false ts))

-- a list of numbers, and its closing parenthesis
abbrev pub ends : List ℕ → Rule (List ℕ)
ends found = do
  _ ← skip k.CloseRound
  pure found

-- one to three dimensions in parentheses
unfoldable pub dims : Text → Rule (List ℕ)
dims source = do
  _ ← skip k.OpenRound
  first ← count source
  λ ts. if sees k.Comma ts then (count source >>= λ second. λ us.
      if sees k.Comma us then (count source >>= λ third. ends (first ∷ second ∷ third ∷ [])) (tail_of us) else ends (first ∷ second ∷ []) us) (tail_of ts)
      else ends (first ∷ []) ts
