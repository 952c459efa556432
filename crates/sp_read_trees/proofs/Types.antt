-- Types, initial values and dimensions.
use Rattle.std.proofs.Common.{ℕ, suc, Bool, true, false, List, [], ◌∷◌, length, Some, None, Ok, Err, arith, if◌then◌else◌}
use Rattle.std.proofs.lemmas.List.Elements.{All-cons, All-nil}
use Rattle.sp_words.specs.Interface.{IsCount}
use Rattle.sp_reader.specs.declared.token.TokenKind.TheVariants as k
use Rattle.sp_reader.specs.declared.syntax.expression.SynTy.TheVariants.{Int, Bit}
use Rattle.sp_reader.specs.Names.{count}
use Rattle.sp_reader.specs.Numbers.{width as width_of}
use Rattle.sp_reader.specs.PlainTree.{PlainLit, PlainDigits, number_lit, truth_lit}
use Rattle.sp_reader.specs.Steps.{Text, Rule, ◌>>=◌, pure, refuse, place_of, tail_of, sees, spelling}
use Rattle.sp_reader.specs.TypeRules.{width, has_sign, fixed, ty, bracketed, target, number_literal, literal, ends, dims}
use Rattle.sp_typed.specs.ReadTree.{AreDims}
use Rattle.sp_read_trees.proofs.Rules.{Any, Goes, given, refused, bound, chosen, skips}
use Rattle.sp_read_trees.proofs.Words.{numbers, counts}

one_dim : (a : ℕ) → IsCount a → AreDims (a ∷ [])
one_dim a p = (omega arith, omega arith, All-cons IsCount a [] p (All-nil IsCount))

two_dims : (a b : ℕ) → IsCount a → IsCount b → AreDims (a ∷ b ∷ [])
two_dims a b p q = (omega arith, omega arith, All-cons IsCount a (b ∷ []) p (All-cons IsCount b [] q (All-nil IsCount)))

three_dims : (a b c : ℕ) → IsCount a → IsCount b → IsCount c → AreDims (a ∷ b ∷ c ∷ [])
three_dims a b c p q r = (omega arith, omega arith, All-cons IsCount a (b ∷ c ∷ []) p (All-cons IsCount b (c ∷ []) q (All-cons IsCount c [] r (All-nil IsCount))))

with_type : Text → PlainDigits → Rule PlainLit
with_type source digits = target source >>= λ t. pure (number_lit digits (Some t))

module _ (source : Text) {d : ℕ} where
  widths : Goes source d d Any (width source)
  unfolding width
  widths = chosen source k.Width (λ all. pure (width_of (spelling source all))) (λ _. refuse) (λ all. given source _ tt) (λ all. refused source)

  signs : Goes source d d Any has_sign
  unfolding has_sign
  signs = chosen source k.Signed (λ _. pure true) (λ _ ts. if sees k.Unsigned ts then Ok (false, tail_of ts) else Err (length ts)) (λ _. given source true tt)
      (λ _. chosen source k.Unsigned (λ _. pure false) (λ _. refuse) (λ _. given source false tt) (λ _. refused source))

module _ (source : Text) {d : ℕ} where
  fixeds : (at : ℕ) → Goes source d d Any (fixed source at)
  unfolding fixed
  fixeds at = bound source (skips source k.OpenSquare) (λ _ _. bound source (signs source) (λ _ _. bound source (skips source k.Comma) (λ _ _.
      bound source (widths source) (λ _ _. bound source (skips source k.Comma) (λ _ _. bound source (widths source) (λ _ _.
      bound source (skips source k.CloseSquare) (λ _ _. given source _ tt)))))))

  tys : Goes source d d Any (ty source)
  unfolding ty
  tys = chosen source k.Int (λ all. pure (Int (place_of all)))
      (λ _ ts. if sees k.Bit ts then Ok (Bit (place_of ts), tail_of ts) else (if sees k.FixPt ts then fixed source (place_of ts) (tail_of ts) else Err (length ts)))
      (λ _. given source _ tt)
      (λ _. chosen source k.Bit (λ all. pure (Bit (place_of all))) (λ _ ts. if sees k.FixPt ts then fixed source (place_of ts) (tail_of ts) else Err (length ts))
      (λ _. given source _ tt)
      (λ _. chosen source k.FixPt (λ all. fixed source (place_of all)) (λ _. refuse) (λ all. fixeds (place_of all)) (λ _. refused source)))

module _ (source : Text) {d : ℕ} where
  pub bracketeds : Goes source d d Any (bracketed source)
  unfolding bracketed
  bracketeds = bound source (skips source k.OpenSquare) (λ _ _. bound source (tys source) (λ _ _. bound source (skips source k.CloseSquare) (λ _ _. given source _ tt)))

  pub targets : Goes source d d Any (target source)
  unfolding target
  targets = bound source (skips source k.To) (λ _ _. bracketeds)

  number_literals : (at : ℕ) (negative : Bool) → Goes source d d Any (number_literal source at negative)
  unfolding number_literal with_type
  number_literals at negative = bound source (numbers source at negative) (λ digits _.
      chosen source k.Dot (λ _. with_type source digits) (λ _. pure (number_lit digits None)) (λ _. bound source targets (λ _ _. given source _ tt)) (λ _. given source _ tt))

module _ (source : Text) {d : ℕ} where
  pub literals : Goes source d d Any (literal source)
  unfolding literal
  literals = chosen source k.True (λ all. pure (truth_lit (place_of all) true))
      (λ _ ts. if sees k.False ts then Ok (truth_lit (place_of ts) false, tail_of ts)
      else (if sees k.Minus ts then number_literal source (place_of ts) true (tail_of ts) else number_literal source (place_of ts) false ts))
      (λ _. given source _ tt)
      (λ _. chosen source k.False (λ all. pure (truth_lit (place_of all) false))
      (λ _ ts. if sees k.Minus ts then number_literal source (place_of ts) true (tail_of ts) else number_literal source (place_of ts) false ts)
      (λ _. given source _ tt)
      (λ _. chosen source k.Minus (λ all. number_literal source (place_of all) true) (λ all. number_literal source (place_of all) false)
      (λ all. number_literals source (place_of all) true) (λ all. number_literals source (place_of all) false)))

  -- of dimensions inside their parentheses
  ended : (found : List ℕ) → AreDims found → Goes source (suc d) d AreDims (ends found)
  ended found p = bound source (skips source k.CloseRound) (λ _ _. given source found p)

  pub dimensions : Goes source d d AreDims (dims source)
  unfolding dims
  dimensions = bound source (skips source k.OpenRound) (λ _ _. bound source (counts source) (λ a p.
      chosen source k.Comma
      (λ _. count source >>= λ second. λ us. if sees k.Comma us then (count source >>= λ third. ends (a ∷ second ∷ third ∷ [])) (tail_of us) else ends (a ∷ second ∷ []) us)
      (λ _. ends (a ∷ []))
      (λ _. bound source (counts source) (λ b q. chosen source k.Comma (λ _. count source >>= λ third. ends (a ∷ b ∷ third ∷ [])) (λ _. ends (a ∷ b ∷ []))
      (λ _. bound source (counts source) (λ c r. ended (a ∷ b ∷ c ∷ []) (three_dims a b c p q r)))
      (λ _. ended (a ∷ b ∷ []) (two_dims a b p q))))
      (λ _. ended (a ∷ []) (one_dim a p))))
