-- Operators of a printed text.
use Rattle.std.proofs.Common.{◌≡◌, ℕ, suc, ◌+◌, ◌≤◌, ◌==◌, Bool, true, false, List, [], ◌∷◌, ◌++◌, codes, refl, sym, ap, subst, ◌∙◌, eqb-true, arith}
use Rattle.sp_words.specs.declared.kind.BinOp.{BinOp}
use Rattle.sp_words.specs.declared.kind.BinOp.TheVariants as op
use Rattle.sp_reader.specs.declared.scan.Piece.{Piece}
use Rattle.sp_reader.specs.declared.scan.Piece.TheVariants as piece
use Rattle.sp_reader.specs.declared.token.Token.{Token}
use Rattle.sp_reader.specs.declared.token.TokenKind.{TokenKind}
use Rattle.sp_reader.specs.declared.token.TokenKind.TheVariants as k
use Rattle.sp_reader.specs.Steps.{Text}
use Rattle.sp_reader.specs.Tokens.{front, a_sign, sign_of, first_sign, signs, may_begin, opened}
use Rattle.sp_grammar.specs.Tokens.{Takes, IsOperator, IsShift}
use Rattle.sp_printer.specs.Expressions.{op_level, op_sign, is_call, shift_sign}
use Rattle.sp_scanned.specs.From.{From, Fronts, Begins, stops}
use Rattle.sp_scanned.proofs.Steps.{token_step, blank_step}
use Rattle.sp_scanned.proofs.Words.{sign, slash}
use Rattle.sp_printed.proofs.Takings.{takes}

-- an operator with a blank on each side
pub record OperatorTaken (source : Text) (o : BinOp) (brackets : List TokenKind) (rest : Text) (ts : List Token) : Type 0 where
  pub left : List Token
  pub kind : TokenKind
  pub level : ℕ
  pub count : level + op_level o ≡ 7
  pub few : level ≤ 6
  pub is : IsOperator (suc level) kind o
  pub takes : Takes kind ts left
  pub next : From source false kind brackets rest left

pub operator_stops : (o : BinOp) (rest : Text) → is_call o ≡ false → stops (op_sign o ++ rest) ≡ true
operator_stops op.Or rest e = refl
operator_stops op.Xor rest e = refl
operator_stops op.And rest e = refl
operator_stops op.Eq rest e = refl
operator_stops op.Ne rest e = refl
operator_stops op.Lt rest e = refl
operator_stops op.Le rest e = refl
operator_stops op.Gt rest e = refl
operator_stops op.Ge rest e = refl
operator_stops op.Add rest e = refl
operator_stops op.Sub rest e = refl
operator_stops op.Mul rest e = refl
operator_stops op.Div rest e = refl
operator_stops op.Rem rest e = refl
operator_stops op.Min rest e = absurd (cc)
operator_stops op.Max rest e = absurd (cc)

taken : {source : Text} {before : TokenKind} {brackets : List TokenKind} {ts : List Token} (o : BinOp) (b : ℕ) (z rest : Text) (kind : TokenKind) (level : ℕ)
    → level + op_level o ≡ 7 → level ≤ 6 → IsOperator (suc level) kind o → Fronts kind (b ∷ z) (32 ∷ rest) → ((x : List TokenKind) → opened x kind ≡ x)
    → From source false before brackets (32 ∷ ((b ∷ z) ++ (32 ∷ rest))) ts → OperatorTaken source o brackets rest ts
taken {source} {before} {brackets} {ts} o b z rest kind level count few is f plain h =
    let t = token_step (b ∷ z) (32 ∷ rest) (blank_step ((b ∷ z) ++ (32 ∷ rest)) h) f in
    record { left = t.left; kind = kind; level = level; count = count; few = few; is = is; takes = takes t; next = blank_step rest (subst (λ x. From source false kind x (32 ∷ rest) t.left) (plain brackets) t.next) }

pub operator_step : {source : Text} {before : TokenKind} {brackets : List TokenKind} {ts : List Token} (o : BinOp) (rest : Text) → is_call o ≡ false
    → From source false before brackets (op_sign o ++ rest) ts → OperatorTaken source o brackets rest ts
operator_step op.Or rest e h = taken op.Or 124 [] rest k.Or 6 refl (omega arith) IsOperator.either (sign 124 [] (32 ∷ rest) k.Or refl refl) (λ x. refl) h
operator_step op.Xor rest e h = taken op.Xor 94 [] rest k.Caret 5 refl (omega arith) IsOperator.either_one (sign 94 [] (32 ∷ rest) k.Caret refl refl) (λ x. refl) h
operator_step op.And rest e h = taken op.And 38 [] rest k.And 4 refl (omega arith) IsOperator.both (sign 38 [] (32 ∷ rest) k.And refl refl) (λ x. refl) h
operator_step op.Eq rest e h = taken op.Eq 61 (61 ∷ []) rest k.EqualEqual 3 refl (omega arith) IsOperator.equal (sign 61 (61 ∷ []) (32 ∷ rest) k.EqualEqual refl refl) (λ x. refl) h
operator_step op.Ne rest e h = taken op.Ne 33 (61 ∷ []) rest k.BangEqual 3 refl (omega arith) IsOperator.unequal (sign 33 (61 ∷ []) (32 ∷ rest) k.BangEqual refl refl) (λ x. refl) h
operator_step op.Lt rest e h = taken op.Lt 60 [] rest k.Less 2 refl (omega arith) IsOperator.less_than (sign 60 [] (32 ∷ rest) k.Less refl refl) (λ x. refl) h
operator_step op.Le rest e h = taken op.Le 60 (61 ∷ []) rest k.LessEqual 2 refl (omega arith) IsOperator.at_most (sign 60 (61 ∷ []) (32 ∷ rest) k.LessEqual refl refl) (λ x. refl) h
operator_step op.Gt rest e h = taken op.Gt 62 [] rest k.Greater 2 refl (omega arith) IsOperator.above (sign 62 [] (32 ∷ rest) k.Greater refl refl) (λ x. refl) h
operator_step op.Ge rest e h = taken op.Ge 62 (61 ∷ []) rest k.GreaterEqual 2 refl (omega arith) IsOperator.at_least (sign 62 (61 ∷ []) (32 ∷ rest) k.GreaterEqual refl refl) (λ x. refl) h
operator_step op.Add rest e h = taken op.Add 43 [] rest k.Plus 1 refl (omega arith) IsOperator.plus (sign 43 [] (32 ∷ rest) k.Plus refl refl) (λ x. refl) h
operator_step op.Sub rest e h = taken op.Sub 45 [] rest k.Minus 1 refl (omega arith) IsOperator.less (sign 45 [] (32 ∷ rest) k.Minus refl refl) (λ x. refl) h
operator_step op.Mul rest e h = taken op.Mul 42 [] rest k.Star 0 refl (omega arith) IsOperator.times (sign 42 [] (32 ∷ rest) k.Star refl refl) (λ x. refl) h
operator_step op.Div rest e h = taken op.Div 47 [] rest k.Slash 0 refl (omega arith) IsOperator.divided (slash rest) (λ x. refl) h
operator_step op.Rem rest e h = taken op.Rem 37 [] rest k.Percent 0 refl (omega arith) IsOperator.remainder (sign 37 [] (32 ∷ rest) k.Percent refl refl) (λ x. refl) h
operator_step op.Min rest e h = absurd (cc)
operator_step op.Max rest e h = absurd (cc)

-- the sign of a shift
pub record ShiftTaken (source : Text) (to_left : Bool) (brackets : List TokenKind) (rest : Text) (ts : List Token) : Type 0 where
  pub left : List Token
  pub kind : TokenKind
  pub is : IsShift kind to_left
  pub takes : Takes kind ts left
  pub next : From source false kind brackets rest left

pub shift_stops : (to_left : Bool) (rest : Text) → stops (shift_sign to_left ++ rest) ≡ true
shift_stops true rest = refl
shift_stops false rest = refl

pub shift_step : {source : Text} {before : TokenKind} {brackets : List TokenKind} {ts : List Token} (to_left : Bool) (rest : Text)
    → From source false before brackets (shift_sign to_left ++ rest) ts → ShiftTaken source to_left brackets rest ts
shift_step true rest h =
    let t = token_step (codes "<<") (32 ∷ rest) (blank_step (codes "<<" ++ (32 ∷ rest)) h) (sign 60 (60 ∷ []) (32 ∷ rest) k.ShiftLeft refl refl) in
    record { left = t.left; kind = k.ShiftLeft; is = IsShift.to_left; takes = takes t; next = blank_step rest t.next }
shift_step false rest h =
    let t = token_step (codes ">>") (32 ∷ rest) (blank_step (codes ">>" ++ (32 ∷ rest)) h) (sign 62 (62 ∷ []) (32 ∷ rest) k.ShiftRight refl refl) in
    record { left = t.left; kind = k.ShiftRight; is = IsShift.to_right; takes = takes t; next = blank_step rest t.next }

-- ---- `!` before an operand

-- nothing begins with `=`
by_next : (z : Text) → may_begin (first_sign signs (61 ∷ z)).0 ≡ false
by_next [] = refl
by_next (c ∷ z) = go (62 == c) (61 == c) refl refl
  where
    go : (a b : Bool) → (62 == c) ≡ a → (61 == c) ≡ b → may_begin (first_sign signs (61 ∷ c ∷ z)).0 ≡ false
    go true b x y = rw x refl
    go false true x y = rw (x, y) refl
    go false false x y = rw (x, y) refl

front_equal : (z : Text) → front (61 ∷ z) ≡ a_sign (first_sign signs (61 ∷ z))
unfolding front sign_of
front_equal z = refl

kind_in : Piece → TokenKind
kind_in (piece.Token kind len) = kind
kind_in (piece.Gap len) = k.End
kind_in piece.Open = k.End

no_equal : (z : Text) → Begins (61 ∷ z) → ⊥
unfolding kind_in
no_equal z h =
    let same : (first_sign signs (61 ∷ z)).0 ≡ h.kind = ap kind_in (sym (front_equal z) ∙ h.is) in
    let bad : false ≡ true = sym (by_next z) ∙ ap may_begin same ∙ h.begins in
    absurd (cc)

pub bang : (rest : Text) → Begins rest → Fronts k.Bang (codes "!") rest
bang [] h = absurd (omega (arith, h.some))
bang (c ∷ z) h = go (61 == c) refl
  where
    go : (b : Bool) → (61 == c) ≡ b → Fronts k.Bang (codes "!") (c ∷ z)
    go true is = let same : 61 ≡ c = eqb-true 61 c is in absurd (no_equal z (subst (λ x. Begins (x ∷ z)) (sym same) h))
    go false is = sign 33 [] (c ∷ z) k.Bang refl (rw is refl)
