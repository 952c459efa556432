-- Types, initial values and dimensions.
use Rattle.std.proofs.Common.{ℕ, Bool, true, false, List, [], ◌∷◌, length, Some, None, Ok, Err, refl, if◌then◌else◌}
use Rattle.sp_reader.specs.declared.token.Token.{Token}
use Rattle.sp_reader.specs.declared.token.TokenKind.{TokenKind}
use Rattle.sp_reader.specs.declared.token.TokenKind.TheVariants as k
use Rattle.sp_reader.specs.declared.syntax.expression.SynTy.TheVariants.{Int, Bit}
use Rattle.sp_reader.specs.Names.{count}
use Rattle.sp_reader.specs.PlainTree.{PlainLit, PlainDigits, number_lit, truth_lit}
use Rattle.sp_reader.specs.Steps.{Text, Rule, ◌>>=◌, pure, refuse, place_of, tail_of, sees}
use Rattle.sp_reader.specs.TypeRules.{has_sign, fixed, ty, bracketed, target, number_literal, literal, ends, dims}
use Rattle.sp_grammar.specs.Tokens.{Takes, IsNumber}
use Rattle.sp_grammar.specs.Expressions.{IsSigned, IsType, IsBracketed, IsTarget, IsDims, IsSignedNumber, IsLiteral}
use Rattle.sp_grammar.proofs.Rules.{Reads, given, refused, bound, chosen, seen, skips, weaker}
use Rattle.sp_grammar.proofs.Words.{numbers, counts, widths}

abbrev SignAt : List Token → Bool → List Token → Type 0
SignAt ts negative us = (kind : TokenKind) × IsSigned kind negative × Takes kind ts us

with_type : Text → PlainDigits → Rule PlainLit
with_type source digits = target source >>= λ t. pure (number_lit digits (Some t))

module _ (source : Text) where
  signs : {ts : List Token} → Reads has_sign ts (SignAt ts)
  unfolding has_sign
  signs {ts} = chosen k.Signed (pure true) (λ all. if sees k.Unsigned all then Ok (false, tail_of all) else Err (length all)) refl (λ takes. given true (k.Signed, IsSigned.signed, takes))
      (λ _. chosen k.Unsigned (pure false) refuse refl (λ takes. given false (k.Unsigned, IsSigned.unsigned, takes)) (λ _. refused))

  fixeds : {ts us : List Token} → Takes k.FixPt ts us → Reads (fixed source (place_of ts)) us (λ t vs. IsType source ts vs t)
  unfolding fixed
  fixeds fix = bound (skips k.OpenSquare refl) (λ _ _ opened. bound signs (λ negative _ sign. bound (skips k.Comma refl) (λ _ _ first.
      bound (widths source) (λ whole _ w. bound (skips k.Comma refl) (λ _ _ second. bound (widths source) (λ frac _ f.
      bound (skips k.CloseSquare refl) (λ _ _ close. given _ (IsType.a_fixed fix opened sign.1 sign.2 first w second f close))))))))

  tys : {ts : List Token} → Reads (ty source) ts (λ t us. IsType source ts us t)
  unfolding ty
  tys {ts} = record {
    run = seen ts k.Int refl
        (λ takes. (given {P = λ t us. IsType source ts us t} (Int (place_of ts)) (IsType.an_int takes)).run)
        (λ _. seen ts k.Bit refl (λ takes. (given {P = λ t us. IsType source ts us t} (Bit (place_of ts)) (IsType.a_bit takes)).run)
        (λ _. seen ts k.FixPt refl (λ takes. (fixeds takes).run) (λ _. (refused {P = λ t us. IsType source ts us t} {ts = ts}).run)));
  }

  pub bracketeds : {ts : List Token} → Reads (bracketed source) ts (λ t us. IsBracketed source ts us t)
  unfolding bracketed
  bracketeds = bound (skips k.OpenSquare refl) (λ _ _ opened. bound tys (λ t _ is. bound (skips k.CloseSquare refl) (λ _ _ close. given t (IsBracketed.in_brackets opened is close))))

  pub targets : {ts us : List Token} → Takes k.Dot ts us → Reads (target source) us (λ t vs. IsTarget source ts vs t)
  unfolding target
  targets dot = bound (skips k.To refl) (λ _ _ to. weaker (λ t us is. IsTarget.to dot to is) bracketeds)

  number_literals : {ts us : List Token} (at : ℕ) (negative : Bool) → ((d : PlainDigits) (vs : List Token) → IsNumber source at negative us vs d → IsSignedNumber source ts vs d)
      → Reads (number_literal source at negative) us (λ l vs. IsLiteral source ts vs l)
  unfolding number_literal with_type
  number_literals at negative whole = bound (numbers source at negative) (λ digits us is.
      chosen k.Dot (with_type source digits) (pure (number_lit digits None)) refl
      (λ dot. bound (targets dot) (λ t _ right. given _ (IsLiteral.typed (whole digits us is) right))) (λ _. given _ (IsLiteral.untyped (whole digits us is))))

  pub literals : {ts : List Token} → Reads (literal source) ts (λ l us. IsLiteral source ts us l)
  unfolding literal
  literals {ts} = record {
    run = seen ts k.True refl
        (λ takes. (given {P = λ l us. IsLiteral source ts us l} (truth_lit (place_of ts) true) (IsLiteral.yes takes)).run)
        (λ _. seen ts k.False refl (λ takes. (given {P = λ l us. IsLiteral source ts us l} (truth_lit (place_of ts) false) (IsLiteral.no takes)).run)
        (λ _. seen ts k.Minus refl
        (λ takes. (number_literals (place_of ts) true (λ d vs is. IsSignedNumber.negative takes is)).run)
        (λ _. (number_literals {ts = ts} (place_of ts) false (λ d vs is. IsSignedNumber.plain is)).run)));
  }

  ended : {ts us : List Token} (found : List ℕ) → ((vs : List Token) → Takes k.CloseRound us vs → IsDims source ts vs found) → Reads (ends found) us (λ ds vs. IsDims source ts vs ds)
  ended found whole = bound (skips k.CloseRound refl) (λ _ vs close. given found (whole vs close))

  pub dimensions : {ts : List Token} → Reads (dims source) ts (λ ds us. IsDims source ts us ds)
  unfolding dims
  dimensions {ts} = bound (skips k.OpenRound refl) (λ _ _ opened. bound (counts source) (λ a _ p.
      chosen k.Comma
      (count source >>= λ second. λ us. if sees k.Comma us then (count source >>= λ third. ends (a ∷ second ∷ third ∷ [])) (tail_of us) else ends (a ∷ second ∷ []) us)
      (ends (a ∷ [])) refl
      (λ comma. bound (counts source) (λ b _ q. chosen k.Comma (count source >>= λ third. ends (a ∷ b ∷ third ∷ [])) (ends (a ∷ b ∷ [])) refl
      (λ again. bound (counts source) (λ c _ r. ended (a ∷ b ∷ c ∷ []) (λ _ close. IsDims.block opened p comma q again r close)))
      (λ _. ended (a ∷ b ∷ []) (λ _ close. IsDims.plane opened p comma q close))))
      (λ _. ended (a ∷ []) (λ _ close. IsDims.line opened p close))))
