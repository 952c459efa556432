-- The grammar of types, literals and expressions: a relation by cases, one case an alternative, between the tokens from a
-- place on, those that are left behind what is spelled, and what that is.
use Rattle.std.specs.Prelude.{◌≡◌, ℕ, suc, Bool, true, false, List, [], ◌∷◌, Some, None}
use Rattle.sp_words.specs.declared.kind.BinOp.{BinOp}
use Rattle.sp_reader.specs.declared.token.TokenKind.{TokenKind}
use Rattle.sp_reader.specs.declared.token.TokenKind.TheVariants as k
use Rattle.sp_reader.specs.declared.token.Token.{Token}
use Rattle.sp_reader.specs.declared.syntax.expression.SynTy.{SynTy}
use Rattle.sp_reader.specs.declared.syntax.expression.SynTy.TheVariants.{Int, Bit, FixPt}
use Rattle.sp_reader.specs.declared.syntax.expression.SynUn.{SynUn}
use Rattle.sp_reader.specs.PlainTree.{PlainIdent, PlainDigits, PlainLit, number_lit, truth_lit, PlainExpr, expr, number, truth, name, deq, access, mux, min, max, one, two, shift, cast, place_of_expr, row}
use Rattle.sp_reader.specs.Steps.{Text, kind_of, place_of}
use Rattle.sp_grammar.specs.Tokens.{Takes, IsName, IsNumber, IsWhole, IsCount, IsWidth, IsOperator, IsSign, IsShift}

-- whether a type has negative words
pub data IsSigned : TokenKind → Bool → Type 0 where
  signed : IsSigned k.Signed true
  unsigned : IsSigned k.Unsigned false

module _ (source : Text) where
  pub data IsType : List Token → List Token → SynTy → Type 0 where
    an_int : {ts us : List Token} → Takes k.Int ts us → IsType ts us (Int (place_of ts))
    a_bit : {ts us : List Token} → Takes k.Bit ts us → IsType ts us (Bit (place_of ts))
    a_fixed : {ts a b c d e f g h : List Token} {kind : TokenKind} {negative : Bool} {whole frac : ℕ}
        → Takes k.FixPt ts a → Takes k.OpenSquare a b → IsSigned kind negative → Takes kind b c → Takes k.Comma c d → IsWidth source d e whole
        → Takes k.Comma e f → IsWidth source f g frac → Takes k.CloseSquare g h → IsType ts h (FixPt (place_of ts) negative whole frac)

  -- a type in square brackets
  pub data IsBracketed : List Token → List Token → SynTy → Type 0 where
    in_brackets : {ts us vs ws : List Token} {t : SynTy} → Takes k.OpenSquare ts us → IsType us vs t → Takes k.CloseSquare vs ws → IsBracketed ts ws t

  -- the type behind the `.` of a cast
  pub data IsTarget : List Token → List Token → SynTy → Type 0 where
    to : {ts us vs ws : List Token} {t : SynTy} → Takes k.Dot ts us → Takes k.To us vs → IsBracketed vs ws t → IsTarget ts ws t

  -- one to three dimensions in parentheses
  pub data IsDims : List Token → List Token → List ℕ → Type 0 where
    line : {ts a b c : List Token} {x : ℕ} → Takes k.OpenRound ts a → IsCount source a b x → Takes k.CloseRound b c → IsDims ts c (x ∷ [])
    plane : {ts a b c d e : List Token} {x y : ℕ} → Takes k.OpenRound ts a → IsCount source a b x → Takes k.Comma b c → IsCount source c d y → Takes k.CloseRound d e → IsDims ts e (x ∷ y ∷ [])
    block : {ts a b c d e f g : List Token} {x y z : ℕ} → Takes k.OpenRound ts a → IsCount source a b x → Takes k.Comma b c → IsCount source c d y
        → Takes k.Comma d e → IsCount source e f z → Takes k.CloseRound f g → IsDims ts g (x ∷ y ∷ z ∷ [])

  -- a number with or without its sign, which begins at `at`
  pub data IsSignedNumber : List Token → List Token → PlainDigits → Type 0 where
    plain : {ts us : List Token} {d : PlainDigits} → IsNumber source (place_of ts) false ts us d → IsSignedNumber ts us d
    negative : {ts us vs : List Token} {d : PlainDigits} → Takes k.Minus ts us → IsNumber source (place_of ts) true us vs d → IsSignedNumber ts vs d

  -- an initial value
  pub data IsLiteral : List Token → List Token → PlainLit → Type 0 where
    yes : {ts us : List Token} → Takes k.True ts us → IsLiteral ts us (truth_lit (place_of ts) true)
    no : {ts us : List Token} → Takes k.False ts us → IsLiteral ts us (truth_lit (place_of ts) false)
    untyped : {ts us : List Token} {d : PlainDigits} → IsSignedNumber ts us d → IsLiteral ts us (number_lit d None)
    typed : {ts us vs : List Token} {d : PlainDigits} {t : SynTy} → IsSignedNumber ts us d → IsTarget us vs t → IsLiteral ts vs (number_lit d (Some t))

  mutual
    -- an expression whose operators, outside of brackets, are of this level or bind tighter. All group to the left.
    pub data IsExpr : (level : ℕ) → List Token → List Token → PlainExpr → Type 0 where
      operand : {ts us : List Token} {e : PlainExpr} → IsPrefixed ts us e → IsExpr 0 ts us e
      tighter : {level : ℕ} {ts us : List Token} {e : PlainExpr} → IsExpr level ts us e → IsExpr (suc level) ts us e
      operation : {level : ℕ} {kind : TokenKind} {op : BinOp} {ts us vs ws : List Token} {a b : PlainExpr}
          → IsOperator (suc level) kind op → IsExpr (suc level) ts us a → Takes kind us vs → IsExpr level vs ws b → IsExpr (suc level) ts ws (expr (place_of_expr a) (two op a b))
      shifted : {kind : TokenKind} {left : Bool} {ts us vs ws : List Token} {a : PlainExpr} {n : ℕ}
          → IsShift kind left → IsExpr 3 ts us a → Takes kind us vs → IsWhole source 0 63 vs ws n → IsExpr 3 ts ws (expr (place_of_expr a) (shift left a n))

    -- with the operators before it; a `-` right before a number belongs to the number
    pub data IsPrefixed : List Token → List Token → PlainExpr → Type 0 where
      bare : {ts us : List Token} {e : PlainExpr} → IsPostfix ts us e → IsPrefixed ts us e
      signed : {kind : TokenKind} {op : SynUn} {ts us vs : List Token} {e : PlainExpr}
          → IsSign kind op → Takes kind ts us → (kind ≡ k.Minus → kind_of us ≡ k.Number → ⊥) → IsPrefixed us vs e → IsPrefixed ts vs (expr (place_of ts) (one op e))

    -- with the casts behind it
    pub data IsPostfix : List Token → List Token → PlainExpr → Type 0 where
      negative : {ts us vs : List Token} {d : PlainDigits} → Takes k.Minus ts us → IsNumber source (place_of ts) true us vs d → IsPostfix ts vs (expr (place_of ts) (number d))
      primary : {ts us : List Token} {e : PlainExpr} → IsPrimary ts us e → IsPostfix ts us e
      casted : {ts us vs : List Token} {e : PlainExpr} {t : SynTy} → IsPostfix ts us e → IsTarget us vs t → IsPostfix ts vs (expr (place_of ts) (cast e t))

    pub data IsPrimary : List Token → List Token → PlainExpr → Type 0 where
      a_number : {ts us : List Token} {d : PlainDigits} → IsNumber source (place_of ts) false ts us d → IsPrimary ts us (expr (place_of ts) (number d))
      yes : {ts us : List Token} → Takes k.True ts us → IsPrimary ts us (expr (place_of ts) (truth true))
      no : {ts us : List Token} → Takes k.False ts us → IsPrimary ts us (expr (place_of ts) (truth false))
      a_name : {ts us : List Token} {i : PlainIdent} → IsName source ts us i → IsPrimary ts us (expr i.place (name i false))
      a_value : {ts us vs ws : List Token} {i : PlainIdent} → IsName source ts us i → Takes k.Dot us vs → Takes k.Value vs ws → IsPrimary ts ws (expr i.place (name i true))
      a_deq : {ts a b c d e : List Token} {i : PlainIdent} → IsName source ts a i → Takes k.Dot a b → Takes k.Deq b c → Takes k.OpenRound c d → Takes k.CloseRound d e → IsPrimary ts e (expr i.place (deq i))
      an_access : {ts a b c d : List Token} {i : PlainIdent} {all : List PlainExpr} → IsName source ts a i → Takes k.OpenRound a b → AreExprs b c all → Takes k.CloseRound c d → IsPrimary ts d (expr i.place (access i (row all)))
      a_choice : {ts a b c d e f g h : List Token} {x y z : PlainExpr}
          → Takes k.Mux ts a → Takes k.OpenRound a b → IsExpr 7 b c x → Takes k.Comma c d → IsExpr 7 d e y → Takes k.Comma e f → IsExpr 7 f g z → Takes k.CloseRound g h
          → IsPrimary ts h (expr (place_of ts) (mux x y z))
      a_least : {ts a b c d e f : List Token} {x y : PlainExpr}
          → Takes k.Min ts a → Takes k.OpenRound a b → IsExpr 7 b c x → Takes k.Comma c d → IsExpr 7 d e y → Takes k.CloseRound e f → IsPrimary ts f (expr (place_of ts) (min x y))
      a_greatest : {ts a b c d e f : List Token} {x y : PlainExpr}
          → Takes k.Max ts a → Takes k.OpenRound a b → IsExpr 7 b c x → Takes k.Comma c d → IsExpr 7 d e y → Takes k.CloseRound e f → IsPrimary ts f (expr (place_of ts) (max x y))
      in_parentheses : {ts us vs ws : List Token} {e : PlainExpr} → Takes k.OpenRound ts us → IsExpr 7 us vs e → Takes k.CloseRound vs ws → IsPrimary ts ws e

    -- expressions with commas between
    pub data AreExprs : List Token → List Token → List PlainExpr → Type 0 where
      last : {ts us : List Token} {e : PlainExpr} → IsExpr 7 ts us e → AreExprs ts us (e ∷ [])
      next : {ts us vs ws : List Token} {e : PlainExpr} {rest : List PlainExpr} → IsExpr 7 ts us e → Takes k.Comma us vs → AreExprs vs ws rest → AreExprs ts ws (e ∷ rest)
