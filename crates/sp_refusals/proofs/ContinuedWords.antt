-- Names, numbers, types, dimensions and initial values go on.
use Rattle.std.proofs.Common.{◌≡◌, ℕ, ◌≤◌, Bool, true, false, not, ◌&&◌, ◌||◌, nat_le, List, [], ◌∷◌, length, Option, Some, None, Ok, Err, refl, arith, if◌then◌else◌}
use Rattle.std.specs.Option.{option_map_or}
use Rattle.sp_reader.specs.declared.token.Token.{Token}
use Rattle.sp_reader.specs.declared.token.TokenKind.{TokenKind}
use Rattle.sp_reader.specs.declared.token.TokenKind.TheVariants as k
use Rattle.sp_reader.specs.declared.syntax.expression.SynTy.TheVariants.{Int, FixPt}
use Rattle.sp_reader.specs.Names.{ident, name, digits, number, between, whole, count}
use Rattle.sp_reader.specs.Numbers.{has_point, whole as whole_part}
use Rattle.sp_reader.specs.PlainTree.{PlainIdent, PlainDigits, number_lit}
use Rattle.sp_reader.specs.Steps.{Text, Outcome, is_name, kind_of, tail_of, place_of, same_kind, sees, spelling, spelling_of}
use Rattle.sp_reader.specs.TypeRules.{width, has_sign, fixed, ty, bracketed, target, number_literal, literal, dims}
use Rattle.sp_grammar.specs.Tokens.{Takes, IsName, IsNumber, IsWhole, IsCount, IsWidth}
use Rattle.sp_grammar.specs.Expressions.{IsSigned, IsType, IsBracketed, IsTarget, IsDims, IsSignedNumber, IsLiteral}
use Rattle.sp_grammar.proofs.Rules.{kind_is}
use Rattle.sp_refusals.proofs.Continued.{Put, Continued, given, refused, bound, weaker, behind, made, IsToken, token_is, no_end, chosen, skips}

-- tokens that spell something, whatever stands behind
abbrev pub Spelled : {X : Type 0} → (List Token → List Token → X → Type 0) → Put → Type 0
Spelled {X} G d = (x : List Token) → (a : X) × G (d x) x a

-- a token that spells a number from 1 to 63
pub record SmallNumber (source : Text) : Type 0 where
  pub token : Token
  pub number : ℕ
  pub of_kind : token.kind ≡ k.Number
  pub no_point : has_point (spelling_of source token) ≡ false
  pub spells : whole_part (spelling_of source token) ≡ Some number
  pub low : 1 ≤ number
  pub high : number ≤ 63

module _ (source : Text) (one : SmallNumber source) where
  -- ---- names and numbers

  pub a_name : Spelled (IsName source) (λ x. made k.Name ∷ x)
  a_name x = (ident source (made k.Name ∷ x), record { token = made k.Name; is = refl; named = refl; spells = refl })

  pub names : {ts : List Token} → Continued (name source ts) ts (Spelled (IsName source))
  unfolding name kind_of tail_of
  names {ts} = go ts
    where
      none : PlainIdent
      none = record { place = 0; text = [] }

      by_kind : (t : Token) (us : List Token) (b : Bool) → is_name t.kind ≡ b → Continued (if b then Ok (ident source (t ∷ us), us) else Err (length (t ∷ us))) (t ∷ us) (Spelled (IsName source))
      by_kind t us true is = behind t (given _ (λ x. (ident source (t ∷ x), record { token = t; is = refl; named = is; spells = refl })))
      by_kind t us false is = refused none _ a_name

      go : (ts : List Token) → Continued (if is_name (kind_of ts) then Ok (ident source ts, tail_of ts) else Err (length ts)) ts (Spelled (IsName source))
      go [] = refused none _ a_name
      go (t ∷ us) = by_kind t us (is_name t.kind) refl

  -- a number, wherever its sign stands
  abbrev pub NumberPut : Bool → Put → Type 0
  NumberPut negative d = (at : ℕ) → Spelled (IsNumber source at negative) d

  pub a_number : (negative : Bool) → NumberPut negative (λ x. one.token ∷ x)
  a_number negative at x = (_, record { takes = token_is k.Number one.token one.of_kind x; whole = one.number; part = one.spells; spells = refl })

  pub numbers : {ts : List Token} (at : ℕ) (negative : Bool) → Continued (number source at negative ts) ts (NumberPut negative)
  unfolding number kind_of tail_of sees spelling
  numbers {ts} at negative = go ts
    where
      none : PlainDigits
      none = record { place = 0; negative = false; whole = 0; digits = [] }

      by_part : (t : Token) (us : List Token) → same_kind t.kind k.Number ≡ true → (o : Option ℕ) → whole_part (spelling_of source t) ≡ o
          → Continued (option_map_or {U = Outcome PlainDigits} (λ n. Ok (digits at negative (spelling_of source t) n, us)) o (Err (length (t ∷ us)))) (t ∷ us) (NumberPut negative)
      by_part t us kind (Some n) is = behind t (given _ (λ place x. (_, record { takes = token_is k.Number t (kind_is t.kind k.Number kind) x; whole = n; part = is; spells = refl })))
      by_part t us kind None is = refused none _ (a_number negative)

      by_kind : (t : Token) (us : List Token) (b : Bool) → same_kind t.kind k.Number ≡ b
          → Continued (if b then option_map_or {U = Outcome PlainDigits} (λ n. Ok (digits at negative (spelling_of source t) n, us)) (whole_part (spelling_of source t)) (Err (length (t ∷ us))) else Err (length (t ∷ us))) (t ∷ us) (NumberPut negative)
      by_kind t us true is = by_part t us is (whole_part (spelling_of source t)) refl
      by_kind t us false is = refused none _ (a_number negative)

      go : (ts : List Token) → Continued (if sees k.Number ts then option_map_or {U = Outcome PlainDigits} (λ n. Ok (digits at negative (spelling source ts) n, tail_of ts)) (whole_part (spelling source ts)) (Err (length ts)) else Err (length ts)) ts (NumberPut negative)
      go [] = rw (no_end k.Number refl) (refused none _ (a_number negative))
      go (t ∷ us) = by_kind t us (same_kind t.kind k.Number) refl

  -- a number without a point, within bounds that leave the small one in
  pub wholes : {ts : List Token} (least most : ℕ) → least ≤ one.number → one.number ≤ most → Continued (whole source least most ts) ts (Spelled (IsWhole source least most))
  unfolding whole kind_of tail_of sees spelling
  wholes {ts} least most low high = go ts
    where
      small : Spelled (IsWhole source least most) (λ x. one.token ∷ x)
      small x = (one.number, record { takes = token_is k.Number one.token one.of_kind x; no_point = one.no_point; spells = one.spells; low = low; high = high })

      by_bounds : (t : Token) (us : List Token) (n : ℕ) → t.kind ≡ k.Number → has_point (spelling_of source t) ≡ false → whole_part (spelling_of source t) ≡ Some n → (b c : Bool) → nat_le least n ≡ b → nat_le n most ≡ c
          → Continued (if b && c then Ok (n, us) else Err (length (t ∷ us))) (t ∷ us) (Spelled (IsWhole source least most))
      by_bounds t us n kind point is true true a b = behind t (given n (λ x. (n, record { takes = token_is k.Number t kind x; no_point = point; spells = is; low = grind arith; high = grind arith })))
      by_bounds t us n kind point is true false a b = refused 0 _ small
      by_bounds t us n kind point is false c a b = refused 0 _ small

      by_part : (t : Token) (us : List Token) → t.kind ≡ k.Number → has_point (spelling_of source t) ≡ false → (o : Option ℕ) → whole_part (spelling_of source t) ≡ o
          → Continued (option_map_or {U = Outcome ℕ} (λ n. if nat_le least n && nat_le n most then Ok (n, us) else Err (length (t ∷ us))) o (Err (length (t ∷ us)))) (t ∷ us) (Spelled (IsWhole source least most))
      by_part t us kind point (Some n) is = by_bounds t us n kind point is (nat_le least n) (nat_le n most) refl refl
      by_part t us kind point None is = refused 0 _ small

      by_kind : (t : Token) (us : List Token) (b : Bool) → same_kind t.kind k.Number ≡ b → (c : Bool) → has_point (spelling_of source t) ≡ c
          → Continued (if not b || c then Err (length (t ∷ us)) else option_map_or {U = Outcome ℕ} (λ n. if nat_le least n && nat_le n most then Ok (n, us) else Err (length (t ∷ us))) (whole_part (spelling_of source t)) (Err (length (t ∷ us)))) (t ∷ us)
          (Spelled (IsWhole source least most))
      by_kind t us true is false point = by_part t us (kind_is t.kind k.Number is) point (whole_part (spelling_of source t)) refl
      by_kind t us true is true point = refused 0 _ small
      by_kind t us false is c point = refused 0 _ small

      go : (ts : List Token) → Continued (if not (sees k.Number ts) || has_point (spelling source ts) then Err (length ts) else option_map_or {U = Outcome ℕ} (between least most ts) (whole_part (spelling source ts)) (Err (length ts))) ts
          (Spelled (IsWhole source least most))
      go [] = rw (no_end k.Number refl) (refused 0 _ small)
      go (t ∷ us) = by_kind t us (same_kind t.kind k.Number) refl (has_point (spelling_of source t)) refl

  pub counts : {ts : List Token} → Continued (count source ts) ts (Spelled (IsCount source))
  unfolding count
  counts = wholes 1 2147483647 one.low (let h = one.high in omega (arith, h))

  widths : {ts : List Token} → Continued (width source ts) ts (Spelled (IsWidth source))
  unfolding width
  widths {ts} = chosen ts k.Width refl (λ t is. given _ (λ x. (_, record { takes = is x; spells = refl }))) (refused 0 (λ x. made k.Width ∷ x) (λ x. (_, record { takes = token_is k.Width (made k.Width) refl x; spells = refl })))

  -- ---- types

  abbrev SignPut : Put → Type 0
  SignPut d = (x : List Token) → (kind : TokenKind) × (negative : Bool) × IsSigned kind negative × Takes kind (d x) x

  a_sign : SignPut (λ x. made k.Signed ∷ x)
  a_sign x = (k.Signed, true, IsSigned.signed, token_is k.Signed (made k.Signed) refl x)

  signs : {ts : List Token} → Continued (has_sign ts) ts SignPut
  unfolding has_sign
  signs {ts} = chosen ts k.Signed refl (λ t is. given true (λ x. (k.Signed, true, IsSigned.signed, is x))) (chosen ts k.Unsigned refl (λ t is. given false (λ x. (k.Unsigned, false, IsSigned.unsigned, is x))) (refused true _ a_sign))

  fixeds : {us : List Token} (at : ℕ) (t : Token) → IsToken k.FixPt t → Continued (fixed source at us) us (λ d. Spelled (IsType source) (λ x. t ∷ d x))
  unfolding fixed
  fixeds at t fix = bound (skips k.OpenSquare refl) (λ _ _ _ opened. bound signs (λ negative _ _ sign. bound (skips k.Comma refl) (λ _ _ _ first.
      bound widths (λ whole _ _ w. bound (skips k.Comma refl) (λ _ _ _ second. bound widths (λ frac _ _ f. bound (skips k.CloseSquare refl) (λ _ _ _ close.
      given (FixPt at negative whole frac) (λ x. (_, IsType.a_fixed (fix _) (opened _) (sign _).2 (sign _).3 (first _) (w _).1 (second _) (f _).1 (close _))))))))))

  an_int : Spelled (IsType source) (λ x. made k.Int ∷ x)
  an_int x = (_, IsType.an_int (token_is k.Int (made k.Int) refl x))

  tys : {ts : List Token} → Continued (ty source ts) ts (Spelled (IsType source))
  unfolding ty
  tys {ts} = chosen ts k.Int refl (λ t is. given _ (λ x. (_, IsType.an_int (is x)))) (chosen ts k.Bit refl (λ t is. given _ (λ x. (_, IsType.a_bit (is x))))
      (chosen ts k.FixPt refl (λ t is. fixeds (place_of ts) t is) (refused (Int 0) _ an_int)))

  pub bracketeds : {ts : List Token} → Continued (bracketed source ts) ts (Spelled (IsBracketed source))
  unfolding bracketed
  bracketeds = bound (skips k.OpenSquare refl) (λ _ _ _ opened. bound tys (λ t _ _ is. bound (skips k.CloseSquare refl) (λ _ _ _ close. given t (λ x. (_, IsBracketed.in_brackets (opened _) (is _).1 (close _))))))

  -- behind its dot
  pub targets : {us : List Token} (t : Token) → IsToken k.Dot t → Continued (target source us) us (λ d. Spelled (IsTarget source) (λ x. t ∷ d x))
  unfolding target
  targets t dot = bound (skips k.To refl) (λ _ _ _ to. weaker (λ d is x. (_, IsTarget.to (dot _) (to _) (is x).1)) bracketeds)

  -- ---- initial values

  number_literals : {us : List Token} (at : ℕ) (negative : Bool) (b : Put) → ((d : Put) → NumberPut negative d → Spelled (IsSignedNumber source) (λ x. b (d x))) → Continued (number_literal source at negative us) us (λ d. Spelled (IsLiteral source) (λ x. b (d x)))
  unfolding number_literal
  number_literals at negative b signed = bound (numbers at negative) (λ digits us d is.
      chosen us k.Dot refl (λ t dot. bound (targets t dot) (λ ty _ _ right. given _ (λ x. (_, IsLiteral.typed (signed d is _).1 (right x).1))))
      (given (number_lit digits None) (λ x. (_, IsLiteral.untyped (signed d is x).1))))

  pub literals : {ts : List Token} → Continued (literal source ts) ts (Spelled (IsLiteral source))
  unfolding literal
  literals {ts} = chosen ts k.True refl (λ t is. given _ (λ x. (_, IsLiteral.yes (is x)))) (chosen ts k.False refl (λ t is. given _ (λ x. (_, IsLiteral.no (is x))))
      (chosen ts k.Minus refl (λ t is. number_literals (place_of ts) true (λ x. t ∷ x) (λ d n x. (_, IsSignedNumber.negative (is _) (n _ x).1)))
      (number_literals (place_of ts) false (λ x. x) (λ d n x. (_, IsSignedNumber.plain (n _ x).1)))))

  -- ---- dimensions

  pub dimensions : {ts : List Token} → Continued (dims source ts) ts (Spelled (IsDims source))
  unfolding dims
  dimensions {ts} = bound (skips k.OpenRound refl) (λ _ _ _ opened. bound counts (λ a us _ p.
      chosen us k.Comma refl
      (λ t comma. bound counts (λ b vs _ q. chosen vs k.Comma refl
      (λ s again. bound counts (λ c _ _ r. bound (skips k.CloseRound refl) (λ _ _ _ close. given (a ∷ b ∷ c ∷ []) (λ x. (_, IsDims.block (opened _) (p _).1 (comma _) (q _).1 (again _) (r _).1 (close _))))))
      (bound (skips k.CloseRound refl) (λ _ _ _ close. given (a ∷ b ∷ []) (λ x. (_, IsDims.plane (opened _) (p _).1 (comma _) (q _).1 (close _)))))))
      (bound (skips k.CloseRound refl) (λ _ _ _ close. given (a ∷ []) (λ x. (_, IsDims.line (opened _) (p _).1 (close _)))))))
