-- Names, numbers, types, dimensions and initial values.
use Rattle.std.proofs.Common.{ℕ, Bool, true, false, not, ◌&&◌, ◌||◌, nat_le, List, [], ◌∷◌, length, Some, None, Ok, Err, refl, ap, arith, if◌then◌else◌}
use Rattle.std.specs.Option.{option_map_or}
use Rattle.std.specs.Prelude.{encode_utf8_all}
use Rattle.sp_reader.specs.declared.token.TokenKind.TheVariants as k
use Rattle.sp_reader.specs.declared.syntax.expression.SynTy.{SynTy}
use Rattle.sp_reader.specs.declared.syntax.expression.SynTy.TheVariants.{Int, Bit, FixPt}
use Rattle.sp_reader.specs.Names.{ident, name, digits, number, between, whole, count}
use Rattle.sp_reader.specs.Numbers.{has_point, whole as whole_part, width as width_of}
use Rattle.sp_reader.specs.PlainTree.{PlainIdent, PlainDigits, PlainLit, number_lit, truth_lit}
use Rattle.sp_reader.specs.Steps.{Text, Rule, pure, is_name, kind_of, tail_of, place_of, same_kind, sees, spelling}
use Rattle.sp_reader.specs.TypeRules.{width, has_sign, fixed, ty, bracketed, target, number_literal, literal, ends, dims}
use Rattle.sp_refusals.proofs.Steady.{Texts, Steady, bound, given, refused, looked, looked_text, either, perhaps, eaten, chosen, skips}

-- a value for the next token, where it has one
abbrev maybe : {A : Type 0} → Bool → A → Rule A
maybe b a = λ ts. if b then Ok (a, tail_of ts) else Err (length ts)

steady_maybe : {A : Type 0} {texts : Texts} {m : ℕ} (b : Bool) (a : A) → Steady texts m m (maybe b a) (maybe b a)
steady_maybe {m = m} b a = either b (eaten m m (omega arith) a) refused

number_by : ℕ → Bool → Bool × Text → Rule PlainDigits
number_by at negative x = λ ts. if x.0 then option_map_or (λ n. Ok (digits at negative x.1 n, tail_of ts)) (whole_part x.1) (Err (length ts)) else Err (length ts)

whole_by : ℕ → ℕ → Bool × Text → Rule ℕ
whole_by least most x = λ ts. if not x.0 || has_point x.1 then Err (length ts) else option_map_or (between least most ts) (whole_part x.1) (Err (length ts))

module _ (source : Text) where
  type_at : ℕ → Rule SynTy
  type_at at = λ ts. if sees k.Int ts then pure (Int at) (tail_of ts) else (if sees k.Bit ts then pure (Bit at) (tail_of ts) else (if sees k.FixPt ts then fixed source at (tail_of ts) else Err (length ts)))

  literal_at : ℕ → Rule PlainLit
  literal_at at = λ ts.
      if sees k.True ts then pure (truth_lit at true) (tail_of ts)
      else (if sees k.False ts then pure (truth_lit at false) (tail_of ts)
      else (if sees k.Minus ts then number_literal source at true (tail_of ts) else number_literal source at false ts))

module _ (texts : Texts) where
  pub names : {m : ℕ} → Steady texts m m (name texts.0) (name texts.1)
  unfolding name kind_of place_of spelling
  names = looked_text {X = Bool × PlainIdent} (λ ts. (is_name (kind_of ts), ident texts.0 ts)) (λ ts. (is_name (kind_of ts), ident texts.1 ts)) (λ x. maybe x.0 x.1) (λ x. maybe x.0 x.1)
      (λ t q z w e. ap (λ (s : Text). (is_name t.kind, record { place = t.at; text = encode_utf8_all s })) e) (λ x. steady_maybe x.0 x.1)

  pub numbers : {m : ℕ} (at : ℕ) (negative : Bool) → Steady texts m m (number texts.0 at negative) (number texts.1 at negative)
  unfolding number kind_of spelling sees number_by
  numbers {m} at negative = looked_text {X = Bool × Text} (λ ts. (sees k.Number ts, spelling texts.0 ts)) (λ ts. (sees k.Number ts, spelling texts.1 ts)) (number_by at negative) (number_by at negative) (λ t q z w e. ap (λ (s : Text). (same_kind t.kind k.Number, s)) e)
      (λ x. either x.0 (perhaps (whole_part x.1) (λ n. eaten m m (omega arith) (digits at negative x.1 n)) refused) refused)

  pub wholes : {m : ℕ} (least most : ℕ) → Steady texts m m (whole texts.0 least most) (whole texts.1 least most)
  unfolding whole kind_of spelling sees whole_by
  wholes {m} least most = looked_text {X = Bool × Text} (λ ts. (sees k.Number ts, spelling texts.0 ts)) (λ ts. (sees k.Number ts, spelling texts.1 ts)) (whole_by least most) (whole_by least most) (λ t q z w e. ap (λ (s : Text). (same_kind t.kind k.Number, s)) e)
      (λ x. either (not x.0 || has_point x.1) refused (perhaps {R = λ n. maybe (nat_le least n && nat_le n most) n} {S = λ n. maybe (nat_le least n && nat_le n most) n} (whole_part x.1) (λ n. steady_maybe (nat_le least n && nat_le n most) n) refused))

  pub counts : {m : ℕ} → Steady texts m m (count texts.0) (count texts.1)
  unfolding count
  counts = wholes 1 2147483647

  pub widths : {m : ℕ} → Steady texts m m (width texts.0) (width texts.1)
  unfolding width kind_of spelling sees
  widths = looked_text {X = Bool × ℕ} (λ ts. (sees k.Width ts, width_of (spelling texts.0 ts))) (λ ts. (sees k.Width ts, width_of (spelling texts.1 ts))) (λ x. maybe x.0 x.1) (λ x. maybe x.0 x.1)
      (λ t q z w e. ap (λ (s : Text). (same_kind t.kind k.Width, width_of s)) e) (λ x. steady_maybe x.0 x.1)

  -- ---- types

  signs : {m : ℕ} → Steady texts m m has_sign has_sign
  unfolding has_sign
  signs = chosen k.Signed (given true) (chosen k.Unsigned (given false) refused)

  fixeds : {m : ℕ} (at : ℕ) → Steady texts m m (fixed texts.0 at) (fixed texts.1 at)
  unfolding fixed
  fixeds at = bound (skips k.OpenSquare) (λ _. bound signs (λ negative. bound (skips k.Comma) (λ _. bound widths (λ whole. bound (skips k.Comma) (λ _. bound widths (λ frac. bound (skips k.CloseSquare) (λ _. given (FixPt at negative whole frac))))))))

  tys : {m : ℕ} → Steady texts m m (ty texts.0) (ty texts.1)
  unfolding ty place_of type_at
  tys = looked place_of (type_at texts.0) (type_at texts.1) (λ t q z w. refl) (λ at. chosen k.Int (given (Int at)) (chosen k.Bit (given (Bit at)) (chosen k.FixPt (fixeds at) refused)))

  pub bracketeds : {m : ℕ} → Steady texts m m (bracketed texts.0) (bracketed texts.1)
  unfolding bracketed
  bracketeds = bound (skips k.OpenSquare) (λ _. bound tys (λ t. bound (skips k.CloseSquare) (λ _. given t)))

  pub targets : {m : ℕ} → Steady texts m m (target texts.0) (target texts.1)
  unfolding target
  targets = bound (skips k.To) (λ _. bracketeds)

  -- ---- initial values

  number_literals : {m : ℕ} (at : ℕ) (negative : Bool) → Steady texts m m (number_literal texts.0 at negative) (number_literal texts.1 at negative)
  unfolding number_literal
  number_literals at negative = bound (numbers at negative) (λ d. chosen k.Dot (bound targets (λ t. given (number_lit d (Some t)))) (given (number_lit d None)))

  pub literals : {m : ℕ} → Steady texts m m (literal texts.0) (literal texts.1)
  unfolding literal place_of literal_at
  literals = looked place_of (literal_at texts.0) (literal_at texts.1) (λ t q z w. refl)
      (λ at. chosen k.True (given (truth_lit at true)) (chosen k.False (given (truth_lit at false)) (chosen k.Minus (number_literals at true) (number_literals at false))))

  -- ---- dimensions

  ended : {m : ℕ} (found : List ℕ) → Steady texts m m (ends found) (ends found)
  ended found = bound (skips k.CloseRound) (λ _. given found)

  pub dimensions : {m : ℕ} → Steady texts m m (dims texts.0) (dims texts.1)
  unfolding dims
  dimensions = bound (skips k.OpenRound) (λ _. bound counts (λ a. chosen k.Comma
      (bound counts (λ b. chosen k.Comma (bound counts (λ c. ended (a ∷ b ∷ c ∷ []))) (ended (a ∷ b ∷ []))))
      (ended (a ∷ []))))
