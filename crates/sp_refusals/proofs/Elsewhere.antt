-- Tokens of another text that are of the same kinds, and of which numbers spell the same, or 1, are in the grammar too.
use Rattle.std.proofs.Common.{◌≡◌, ◌∙◌, ◌⊎◌, inl, inr, ◌≤◌, ℕ, Bool, false, List, [], ◌∷◌, Option, Some, refl, sym, ap, subst, arith}
use Rattle.sp_words.specs.declared.kind.BinOp.{BinOp}
use Rattle.sp_words.specs.declared.kind.Style.{Style}
use Rattle.sp_reader.specs.declared.syntax.expression.SynTy.{SynTy}
use Rattle.sp_reader.specs.declared.syntax.statement.SynPar.{SynPar}
use Rattle.sp_reader.specs.declared.token.Token.{Token}
use Rattle.sp_reader.specs.declared.token.TokenKind.{TokenKind}
use Rattle.sp_reader.specs.declared.token.TokenKind.TheVariants as k
use Rattle.sp_reader.specs.Numbers.{has_point, whole as whole_part, fraction, with_digit, digit}
use Rattle.sp_reader.specs.PlainTree.{PlainIdent, PlainDigits, PlainLit, PlainExpr}
use Rattle.sp_reader.specs.PlainStatement.{PlainSpan, PlainCounter, PlainComb, PlainStmt, PlainStmtKind, PlainDeclKind, PlainDecl, PlainSyntax}
use Rattle.sp_reader.specs.Steps.{Text, is_name, kind_of, spelling_of}
use Rattle.sp_grammar.specs.Tokens.{Takes, IsBreak, MayBreak, IsName, IsNumber, IsWhole, IsWidth}
use Rattle.sp_grammar.specs.Expressions.{IsType, IsBracketed, IsTarget, IsDims, IsSignedNumber, IsLiteral, IsExpr, IsPrefixed, IsPostfix, IsPrimary, AreExprs}
use Rattle.sp_grammar.specs.Loops.{IsPar, IsStep, IsSpan, AreSpans, AreBounds, IsCounter, AreCounters, IsCounterList, AreNames, AreBinds, ArePair, IsCombined, IsCombiner}
use Rattle.sp_grammar.specs.Statements.{MayHaveStyle, MayStart, IsBound, IsArrow, IsStmt, AreMore, AreStmts, AreValued, IsValued, IsBraced, MayElse, IsKind, IsPort, AreDecls, IsProgram}
use Rattle.sp_refusals.specs.Laws.{AreLike}

-- tokens of a text and tokens of another that are of the same kinds, one by one; a number spells the same in both, or 1 in the
-- other
abbrev pub AreNear : (source other : Text) → List Token → List Token → Type 0
AreNear source other [] [] = Unit {0}
AreNear source other [] (u ∷ us) = ⊥
AreNear source other (t ∷ ts) [] = ⊥
AreNear source other (t ∷ ts) (u ∷ us) = ((t.kind ≡ u.kind) × (t.kind ≡ k.Number → (spelling_of source t ≡ spelling_of other u) ⊎ (spelling_of other u ≡ 49 ∷ []))) × AreNear source other ts us

pub near : (source other : Text) (ts us : List Token) → AreLike source other ts us → AreNear source other ts us
near source other [] [] like = tt
near source other [] (u ∷ us) like = elim like [ ]
near source other (t ∷ ts) [] like = elim like [ ]
near source other (t ∷ ts) (u ∷ us) like = ((like.0.0, λ e. inl (like.0.1 e)), near source other ts us like.1)

-- a number without a point, where it is 1 in the other text
one_spelled : (text : Text) → text ≡ 49 ∷ [] → (has_point text ≡ false) × (whole_part text ≡ Some 1)
unfolding has_point whole_part fraction with_digit digit
one_spelled text e = rw e (refl, refl)

module _ (source other : Text) where
  abbrev Like : List Token → List Token → Type 0
  Like ts vs = AreNear source other ts vs

  -- something is spelled by these others, which leave others that are like those that were left
  abbrev Again : {A : Type 0} → (List Token → List Token → A → Type 0) → List Token → List Token → Type 0
  Again {A} G us vs = (ws : List Token) × (a : A) × G vs ws a × Like us ws

  first_like : (t : Token) (us vs : List Token) → Like (t ∷ us) vs → (u : Token) × (ws : List Token) × (vs ≡ u ∷ ws) × (t.kind ≡ u.kind) × (t.kind ≡ k.Number → (spelling_of source t ≡ spelling_of other u) ⊎ (spelling_of other u ≡ 49 ∷ [])) × Like us ws
  first_like t us [] h = elim h [ ]
  first_like t us (u ∷ ws) h = (u, ws, refl, h.0.0, h.0.1, h.1)

  -- ---- single tokens

  takes_like : {kind : TokenKind} {ts us : List Token} → Takes kind ts us → {vs : List Token} → Like ts vs → (ws : List Token) × Takes kind vs ws × Like us ws
  takes_like {kind} {ts} {us} h {vs} like =
      let f = first_like h.token us vs (subst (λ xs. Like xs vs) h.is like) in (f.1, record { token = f.0; is = f.2; of_kind = sym f.3 ∙ h.of_kind }, f.5)

  break_like : {ts us : List Token} → IsBreak ts us → {vs : List Token} → Like ts vs → (ws : List Token) × IsBreak vs ws × Like us ws
  break_like (IsBreak.one t) like = let a = takes_like t like in (a.0, IsBreak.one a.1, a.2)
  break_like (IsBreak.another t b) like = let a = takes_like t like in let c = break_like b a.2 in (c.0, IsBreak.another a.1 c.1, c.2)

  may_like : {ts us : List Token} → MayBreak ts us → {vs : List Token} → Like ts vs → (ws : List Token) × MayBreak vs ws × Like us ws
  may_like MayBreak.none {vs} like = (vs, MayBreak.none, like)
  may_like (MayBreak.some b) like = let a = break_like b like in (a.0, MayBreak.some a.1, a.2)

  name_like : {ts us : List Token} {i : PlainIdent} → IsName source ts us i → {vs : List Token} → Like ts vs → Again (IsName other) us vs
  name_like {us = us} h {vs} like =
      let f = first_like h.token us vs (subst (λ xs. Like xs vs) h.is like) in (f.1, _, record { token = f.0; is = f.2; named = sym (ap is_name f.3) ∙ h.named; spells = refl }, f.5)

  number_like : (at place : ℕ) {negative : Bool} {ts us : List Token} {d : PlainDigits} → IsNumber source at negative ts us d → {vs : List Token} → Like ts vs → Again (IsNumber other place negative) us vs
  number_like at place {us = us} h {vs} like =
      let f = first_like h.takes.token us vs (subst (λ xs. Like xs vs) h.takes.is like) in
      let n = part f.0 (f.4 h.takes.of_kind) in
      (f.1, _, record { takes = record { token = f.0; is = f.2; of_kind = sym f.3 ∙ h.takes.of_kind }; whole = n.0; part = n.1; spells = refl }, f.5)
    where
      part : (u : Token) → (spelling_of source h.takes.token ≡ spelling_of other u) ⊎ (spelling_of other u ≡ 49 ∷ []) → (n : ℕ) × (whole_part (spelling_of other u) ≡ Some n)
      part u (inl same) = (h.whole, sym (ap whole_part same) ∙ h.part)
      part u (inr one) = (1, (one_spelled (spelling_of other u) one).1)

  whole_like : {least most : ℕ} {ts us : List Token} {n : ℕ} → least ≤ 1 → 1 ≤ most → IsWhole source least most ts us n → {vs : List Token} → Like ts vs → Again (IsWhole other least most) us vs
  whole_like {least} {most} {us = us} {n = n} low high h {vs} like =
      let f = first_like h.takes.token us vs (subst (λ xs. Like xs vs) h.takes.is like) in by f.0 f.1 f.2 f.3 (f.4 h.takes.of_kind) f.5
    where
      by : (u : Token) (ws : List Token) → vs ≡ u ∷ ws → h.takes.token.kind ≡ u.kind → (spelling_of source h.takes.token ≡ spelling_of other u) ⊎ (spelling_of other u ≡ 49 ∷ []) → Like us ws → Again (IsWhole other least most) us vs
      by u ws is kind (inl same) rest =
          (ws, n, record { takes = record { token = u; is = is; of_kind = sym kind ∙ h.takes.of_kind }; no_point = sym (ap has_point same) ∙ h.no_point; spells = sym (ap whole_part same) ∙ h.spells; low = h.low; high = h.high }, rest)
      by u ws is kind (inr one) rest =
          let p = one_spelled (spelling_of other u) one in
          (ws, 1, record { takes = record { token = u; is = is; of_kind = sym kind ∙ h.takes.of_kind }; no_point = p.0; spells = p.1; low = low; high = high }, rest)

  width_like : {ts us : List Token} {n : ℕ} → IsWidth source ts us n → {vs : List Token} → Like ts vs → Again (IsWidth other) us vs
  width_like h like = let a = takes_like h.takes like in (a.0, _, record { takes = a.1; spells = refl }, a.2)

  -- ---- types, dimensions and initial values

  type_like : {ts us : List Token} {t : SynTy} → IsType source ts us t → {vs : List Token} → Like ts vs → Again (IsType other) us vs
  type_like (IsType.an_int t) l = let a = takes_like t l in (a.0, _, IsType.an_int a.1, a.2)
  type_like (IsType.a_bit t) l = let a = takes_like t l in (a.0, _, IsType.a_bit a.1, a.2)
  type_like (IsType.a_fixed t o s r f w g x c) l =
      let a = takes_like t l in let b = takes_like o a.2 in let d = takes_like r b.2 in let e = takes_like f d.2 in let h = width_like w e.2 in let i = takes_like g h.3 in let j = width_like x i.2 in let m = takes_like c j.3 in
      (m.0, _, IsType.a_fixed a.1 b.1 s d.1 e.1 h.2 i.1 j.2 m.1, m.2)

  bracketed_like : {ts us : List Token} {t : SynTy} → IsBracketed source ts us t → {vs : List Token} → Like ts vs → Again (IsBracketed other) us vs
  bracketed_like (IsBracketed.in_brackets o t c) l = let a = takes_like o l in let b = type_like t a.2 in let d = takes_like c b.3 in (d.0, _, IsBracketed.in_brackets a.1 b.2 d.1, d.2)

  target_like : {ts us : List Token} {t : SynTy} → IsTarget source ts us t → {vs : List Token} → Like ts vs → Again (IsTarget other) us vs
  target_like (IsTarget.to d t b) l = let a = takes_like d l in let c = takes_like t a.2 in let e = bracketed_like b c.2 in (e.0, _, IsTarget.to a.1 c.1 e.2, e.3)

  dims_like : {ts us : List Token} {ds : List ℕ} → IsDims source ts us ds → {vs : List Token} → Like ts vs → Again (IsDims other) us vs
  dims_like (IsDims.line o x c) l = let a = takes_like o l in let b = whole_like (omega arith) (omega arith) x a.2 in let d = takes_like c b.3 in (d.0, _, IsDims.line a.1 b.2 d.1, d.2)
  dims_like (IsDims.plane o x m y c) l =
      let a = takes_like o l in let b = whole_like (omega arith) (omega arith) x a.2 in let d = takes_like m b.3 in let e = whole_like (omega arith) (omega arith) y d.2 in let f = takes_like c e.3 in (f.0, _, IsDims.plane a.1 b.2 d.1 e.2 f.1, f.2)
  dims_like (IsDims.block o x m y n z c) l =
      let a = takes_like o l in let b = whole_like (omega arith) (omega arith) x a.2 in let d = takes_like m b.3 in let e = whole_like (omega arith) (omega arith) y d.2 in let f = takes_like n e.3 in let g = whole_like (omega arith) (omega arith) z f.2 in let h = takes_like c g.3 in
      (h.0, _, IsDims.block a.1 b.2 d.1 e.2 f.1 g.2 h.1, h.2)

  signed_like : {ts us : List Token} {d : PlainDigits} → IsSignedNumber source ts us d → {vs : List Token} → Like ts vs → Again (IsSignedNumber other) us vs
  signed_like (IsSignedNumber.plain n) l = let a = number_like _ _ n l in (a.0, _, IsSignedNumber.plain a.2, a.3)
  signed_like (IsSignedNumber.negative m n) l = let a = takes_like m l in let b = number_like _ _ n a.2 in (b.0, _, IsSignedNumber.negative a.1 b.2, b.3)

  literal_like : {ts us : List Token} {d : PlainLit} → IsLiteral source ts us d → {vs : List Token} → Like ts vs → Again (IsLiteral other) us vs
  literal_like (IsLiteral.yes t) l = let a = takes_like t l in (a.0, _, IsLiteral.yes a.1, a.2)
  literal_like (IsLiteral.no t) l = let a = takes_like t l in (a.0, _, IsLiteral.no a.1, a.2)
  literal_like (IsLiteral.untyped n) l = let a = signed_like n l in (a.0, _, IsLiteral.untyped a.2, a.3)
  literal_like (IsLiteral.typed n t) l = let a = signed_like n l in let b = target_like t a.3 in (b.0, _, IsLiteral.typed a.2 b.2, b.3)

  -- ---- expressions

  -- others begin with a number where these do
  kind_like : (ts vs : List Token) → Like ts vs → kind_of ts ≡ kind_of vs
  unfolding kind_of
  kind_like [] [] l = refl
  kind_like [] (u ∷ vs) l = elim l [ ]
  kind_like (t ∷ ts) [] l = elim l [ ]
  kind_like (t ∷ ts) (u ∷ vs) l = l.0.0

  mutual
    expr_like : {level : ℕ} {ts us : List Token} {e : PlainExpr} → IsExpr source level ts us e → {vs : List Token} → Like ts vs → Again (IsExpr other level) us vs
    expr_like (IsExpr.operand p) l = let a = prefixed_like p l in (a.0, _, IsExpr.operand a.2, a.3)
    expr_like (IsExpr.tighter p) l = let a = expr_like p l in (a.0, _, IsExpr.tighter a.2, a.3)
    expr_like (IsExpr.operation is p t q) l = let a = expr_like p l in let b = takes_like t a.3 in let c = expr_like q b.2 in (c.0, _, IsExpr.operation is a.2 b.1 c.2, c.3)
    expr_like (IsExpr.shifted is p t n) l = let a = expr_like p l in let b = takes_like t a.3 in let c = whole_like (omega arith) (omega arith) n b.2 in (c.0, _, IsExpr.shifted is a.2 b.1 c.2, c.3)

    prefixed_like : {ts us : List Token} {e : PlainExpr} → IsPrefixed source ts us e → {vs : List Token} → Like ts vs → Again (IsPrefixed other) us vs
    prefixed_like (IsPrefixed.bare p) l = let a = postfix_like p l in (a.0, _, IsPrefixed.bare a.2, a.3)
    prefixed_like (IsPrefixed.signed {us = us} is t alone p) l =
        let a = takes_like t l in let b = prefixed_like p a.2 in (b.0, _, IsPrefixed.signed is a.1 (λ minus number. alone minus (kind_like us a.0 a.2 ∙ number)) b.2, b.3)

    postfix_like : {ts us : List Token} {e : PlainExpr} → IsPostfix source ts us e → {vs : List Token} → Like ts vs → Again (IsPostfix other) us vs
    postfix_like (IsPostfix.negative m n) l = let a = takes_like m l in let b = number_like _ _ n a.2 in (b.0, _, IsPostfix.negative a.1 b.2, b.3)
    postfix_like (IsPostfix.primary p) l = let a = primary_like p l in (a.0, _, IsPostfix.primary a.2, a.3)
    postfix_like (IsPostfix.casted p t) l = let a = postfix_like p l in let b = target_like t a.3 in (b.0, _, IsPostfix.casted a.2 b.2, b.3)

    primary_like : {ts us : List Token} {e : PlainExpr} → IsPrimary source ts us e → {vs : List Token} → Like ts vs → Again (IsPrimary other) us vs
    primary_like (IsPrimary.a_number n) l = let a = number_like _ _ n l in (a.0, _, IsPrimary.a_number a.2, a.3)
    primary_like (IsPrimary.yes t) l = let a = takes_like t l in (a.0, _, IsPrimary.yes a.1, a.2)
    primary_like (IsPrimary.no t) l = let a = takes_like t l in (a.0, _, IsPrimary.no a.1, a.2)
    primary_like (IsPrimary.a_name i) l = let a = name_like i l in (a.0, _, IsPrimary.a_name a.2, a.3)
    primary_like (IsPrimary.a_value i d v) l = let a = name_like i l in let b = takes_like d a.3 in let c = takes_like v b.2 in (c.0, _, IsPrimary.a_value a.2 b.1 c.1, c.2)
    primary_like (IsPrimary.a_deq i d v o c) l =
        let a = name_like i l in let b = takes_like d a.3 in let e = takes_like v b.2 in let f = takes_like o e.2 in let g = takes_like c f.2 in (g.0, _, IsPrimary.a_deq a.2 b.1 e.1 f.1 g.1, g.2)
    primary_like (IsPrimary.an_access i o all c) l =
        let a = name_like i l in let b = takes_like o a.3 in let d = exprs_like all b.2 in let e = takes_like c d.3 in (e.0, _, IsPrimary.an_access a.2 b.1 d.2 e.1, e.2)
    primary_like (IsPrimary.a_choice w o x m y n z c) l =
        let a = takes_like w l in let b = takes_like o a.2 in let d = expr_like x b.2 in let e = takes_like m d.3 in let f = expr_like y e.2 in let g = takes_like n f.3 in let h = expr_like z g.2 in let i = takes_like c h.3 in
        (i.0, _, IsPrimary.a_choice a.1 b.1 d.2 e.1 f.2 g.1 h.2 i.1, i.2)
    primary_like (IsPrimary.a_least w o x m y c) l =
        let a = takes_like w l in let b = takes_like o a.2 in let d = expr_like x b.2 in let e = takes_like m d.3 in let f = expr_like y e.2 in let g = takes_like c f.3 in (g.0, _, IsPrimary.a_least a.1 b.1 d.2 e.1 f.2 g.1, g.2)
    primary_like (IsPrimary.a_greatest w o x m y c) l =
        let a = takes_like w l in let b = takes_like o a.2 in let d = expr_like x b.2 in let e = takes_like m d.3 in let f = expr_like y e.2 in let g = takes_like c f.3 in (g.0, _, IsPrimary.a_greatest a.1 b.1 d.2 e.1 f.2 g.1, g.2)
    primary_like (IsPrimary.in_parentheses o x c) l = let a = takes_like o l in let b = expr_like x a.2 in let d = takes_like c b.3 in (d.0, _, IsPrimary.in_parentheses a.1 b.2 d.1, d.2)

    exprs_like : {ts us : List Token} {all : List PlainExpr} → AreExprs source ts us all → {vs : List Token} → Like ts vs → Again (AreExprs other) us vs
    exprs_like (AreExprs.last p) l = let a = expr_like p l in (a.0, _, AreExprs.last a.2, a.3)
    exprs_like (AreExprs.next p m rest) l = let a = expr_like p l in let b = takes_like m a.3 in let c = exprs_like rest b.2 in (c.0, _, AreExprs.next a.2 b.1 c.2, c.3)

  -- ---- spans, counters, names and combiners

  par_like : {ts us : List Token} {p : Option SynPar} → IsPar source ts us p → {vs : List Token} → Like ts vs → Again (IsPar other) us vs
  par_like IsPar.none {vs} l = (vs, _, IsPar.none, l)
  par_like (IsPar.lanes w n) l = let a = takes_like w l in let b = whole_like (omega arith) (omega arith) n a.2 in (b.0, _, IsPar.lanes a.1 b.2, b.3)

  step_like : {ts us : List Token} {n : ℕ} → IsStep source ts us n → {vs : List Token} → Like ts vs → Again (IsStep other) us vs
  step_like IsStep.one {vs} l = (vs, _, IsStep.one, l)
  step_like (IsStep.by w n) l = let a = takes_like w l in let b = whole_like (omega arith) (omega arith) n a.2 in (b.0, _, IsStep.by a.1 b.2, b.3)

  span_like : {ts us : List Token} {s : PlainSpan} → IsSpan source ts us s → {vs : List Token} → Like ts vs → Again (IsSpan other) us vs
  span_like (IsSpan.an_index p) l = let a = expr_like p l in (a.0, _, IsSpan.an_index a.2, a.3)
  span_like (IsSpan.a_range p c q w) l = let a = expr_like p l in let b = takes_like c a.3 in let d = expr_like q b.2 in let e = par_like w d.3 in (e.0, _, IsSpan.a_range a.2 b.1 d.2 e.2, e.3)

  spans_like : {ts us : List Token} {all : List PlainSpan} → AreSpans source ts us all → {vs : List Token} → Like ts vs → Again (AreSpans other) us vs
  spans_like (AreSpans.last p) l = let a = span_like p l in (a.0, _, AreSpans.last a.2, a.3)
  spans_like (AreSpans.next p m rest) l = let a = span_like p l in let b = takes_like m a.3 in let c = spans_like rest b.2 in (c.0, _, AreSpans.next a.2 b.1 c.2, c.3)

  bounds_like : {ts us : List Token} {x : Option PlainExpr} {y : PlainExpr} → AreBounds source ts us x y → {vs : List Token} → Like ts vs → (ws : List Token) × (x : Option PlainExpr) × (y : PlainExpr) × AreBounds other vs ws x y × Like us ws
  bounds_like (AreBounds.upper p) l = let a = expr_like p l in (a.0, _, _, AreBounds.upper a.2, a.3)
  bounds_like (AreBounds.both p w q) l = let a = expr_like p l in let b = takes_like w a.3 in let c = expr_like q b.2 in (c.0, _, _, AreBounds.both a.2 b.1 c.2, c.3)

  counter_like : {ts us : List Token} {c : PlainCounter} → IsCounter source ts us c → {vs : List Token} → Like ts vs → Again (IsCounter other) us vs
  counter_like (IsCounter.counter p s w) l = let a = bounds_like p l in let b = step_like s a.4 in let c = par_like w b.3 in (c.0, _, IsCounter.counter a.3 b.2 c.2, c.3)

  counters_like : {most : ℕ} {ts us : List Token} {all : List PlainCounter} → AreCounters source most ts us all → {vs : List Token} → Like ts vs → Again (AreCounters other most) us vs
  counters_like (AreCounters.last p) l = let a = counter_like p l in (a.0, _, AreCounters.last a.2, a.3)
  counters_like (AreCounters.next p m rest) l = let a = counter_like p l in let b = takes_like m a.3 in let c = counters_like rest b.2 in (c.0, _, AreCounters.next a.2 b.1 c.2, c.3)

  counter_list_like : {ts us : List Token} {all : List PlainCounter} → IsCounterList source ts us all → {vs : List Token} → Like ts vs → Again (IsCounterList other) us vs
  counter_list_like (IsCounterList.enclosed o p c) l = let a = takes_like o l in let b = counters_like p a.2 in let d = takes_like c b.3 in (d.0, _, IsCounterList.enclosed a.1 b.2 d.1, d.2)

  names_like : {ts us : List Token} {all : List PlainIdent} → AreNames source ts us all → {vs : List Token} → Like ts vs → Again (AreNames other) us vs
  names_like (AreNames.last p) l = let a = name_like p l in (a.0, _, AreNames.last a.2, a.3)
  names_like (AreNames.next p m rest) l = let a = name_like p l in let b = takes_like m a.3 in let c = names_like rest b.2 in (c.0, _, AreNames.next a.2 b.1 c.2, c.3)

  binds_like : {ts us : List Token} {all : List PlainIdent} → AreBinds source ts us all → {vs : List Token} → Like ts vs → Again (AreBinds other) us vs
  binds_like (AreBinds.alone p) l = let a = name_like p l in (a.0, _, AreBinds.alone a.2, a.3)
  binds_like (AreBinds.enclosed o p c) l = let a = takes_like o l in let b = names_like p a.2 in let d = takes_like c b.3 in (d.0, _, AreBinds.enclosed a.1 b.2 d.1, d.2)

  pair_like : {ts us : List Token} {i j : PlainIdent} → ArePair source ts us i j → {vs : List Token} → Like ts vs → (ws : List Token) × (i j : PlainIdent) × ArePair other vs ws i j × Like us ws
  pair_like (ArePair.pair o p m q c) l =
      let a = takes_like o l in let b = name_like p a.2 in let d = takes_like m b.3 in let e = name_like q d.2 in let f = takes_like c e.3 in (f.0, _, _, ArePair.pair a.1 b.2 d.1 e.2 f.1, f.2)

  combined_like : {ts us : List Token} {o : BinOp} {i j : PlainIdent} → IsCombined source ts us o i j → {vs : List Token} → Like ts vs → (ws : List Token) × (o : BinOp) × (i j : PlainIdent) × IsCombined other vs ws o i j × Like us ws
  combined_like (IsCombined.by_operator is p t q) l = let a = name_like p l in let b = takes_like t a.3 in let c = name_like q b.2 in (c.0, _, _, _, IsCombined.by_operator is a.2 b.1 c.2, c.3)
  combined_like (IsCombined.least w p) l = let a = takes_like w l in let b = pair_like p a.2 in (b.0, _, _, _, IsCombined.least a.1 b.3, b.4)
  combined_like (IsCombined.greatest w p) l = let a = takes_like w l in let b = pair_like p a.2 in (b.0, _, _, _, IsCombined.greatest a.1 b.3, b.4)

  combiner_like : {ts us : List Token} {c : PlainComb} → IsCombiner source ts us c → {vs : List Token} → Like ts vs → Again (IsCombiner other) us vs
  combiner_like (IsCombiner.unnamed is o w t u c) l =
      let a = takes_like o l in let b = takes_like w a.2 in let d = takes_like t b.2 in let e = takes_like u d.2 in let f = takes_like c e.2 in (f.0, _, IsCombiner.unnamed is a.1 b.1 d.1 e.1 f.1, f.2)
  combiner_like (IsCombiner.named o p w q c) l =
      let a = takes_like o l in let b = pair_like p a.2 in let d = takes_like w b.4 in let e = combined_like q d.2 in let f = takes_like c e.5 in (f.0, _, IsCombiner.named a.1 b.3 d.1 e.4 f.1, f.2)

  -- ---- statements

  start_like : {ts us : List Token} {d : Option PlainLit} → MayStart source ts us d → {vs : List Token} → Like ts vs → Again (MayStart other) us vs
  start_like MayStart.none {vs} l = (vs, _, MayStart.none, l)
  start_like (MayStart.some o d c) l = let a = takes_like o l in let b = literal_like d a.2 in let e = takes_like c b.3 in (e.0, _, MayStart.some a.1 b.2 e.1, e.2)

  bound_like : {i : PlainIdent} (j : PlainIdent) {ts us : List Token} {s : PlainStmtKind} → IsBound source i ts us s → {vs : List Token} → Like ts vs → Again (IsBound other j) us vs
  bound_like j (IsBound.a_reg w t s) l = let a = takes_like w l in let b = bracketed_like t a.2 in let c = start_like s b.3 in (c.0, _, IsBound.a_reg a.1 b.2 c.2, c.3)
  bound_like j (IsBound.a_sram w t d) l = let a = takes_like w l in let b = bracketed_like t a.2 in let c = dims_like d b.3 in (c.0, _, IsBound.a_sram a.1 b.2 c.2, c.3)
  bound_like j (IsBound.a_fifo w t o n c) l =
      let a = takes_like w l in let b = bracketed_like t a.2 in let d = takes_like o b.3 in let e = whole_like (omega arith) (omega arith) n d.2 in let f = takes_like c e.3 in (f.0, _, IsBound.a_fifo a.1 b.2 d.1 e.2 f.1, f.2)
  bound_like j (IsBound.a_line_buffer w t o n m p c) l =
      let a = takes_like w l in let b = bracketed_like t a.2 in let d = takes_like o b.3 in let e = whole_like (omega arith) (omega arith) n d.2 in let f = takes_like m e.3 in let g = whole_like (omega arith) (omega arith) p f.2 in let h = takes_like c g.3 in
      (h.0, _, IsBound.a_line_buffer a.1 b.2 d.1 e.2 f.1 g.2 h.1, h.2)
  bound_like j (IsBound.a_word e) l = let a = expr_like e l in (a.0, _, IsBound.a_word a.2, a.3)

  arrow_like : {ts us : List Token} {i : PlainIdent} {e : PlainExpr} → IsArrow source ts us i e → {vs : List Token} → Like ts vs → (ws : List Token) × (i : PlainIdent) × (e : PlainExpr) × IsArrow other vs ws i e × Like us ws
  arrow_like (IsArrow.arrow i w e) l = let a = name_like i l in let b = takes_like w a.3 in let c = expr_like e b.2 in (c.0, _, _, IsArrow.arrow a.2 b.1 c.2, c.3)

  style_like : {ts us : List Token} {s : Option Style} → MayHaveStyle ts us s → {vs : List Token} → Like ts vs → (ws : List Token) × MayHaveStyle vs ws s × Like us ws
  style_like MayHaveStyle.none {vs} l = (vs, MayHaveStyle.none, l)
  style_like (MayHaveStyle.some is w d) l = let a = takes_like w l in let b = takes_like d a.2 in (b.0, MayHaveStyle.some is a.1 b.1, b.2)

  abbrev AgainValued : (List Token → List Token → List PlainStmt → PlainExpr → Type 0) → List Token → List Token → Type 0
  AgainValued G us vs = (ws : List Token) × (all : List PlainStmt) × (e : PlainExpr) × G vs ws all e × Like us ws

  mutual
    stmt_like : {ts us : List Token} {s : PlainStmt} → IsStmt source ts us s → {vs : List Token} → Like ts vs → Again (IsStmt other) us vs
    stmt_like (IsStmt.stands p) l = let a = kind_again p l in (a.0, _, IsStmt.stands a.2, a.3)

    more_like : {ts us : List Token} {all : List PlainStmt} → AreMore source ts us all → {vs : List Token} → Like ts vs → Again (AreMore other) us vs
    more_like (AreMore.last_stmt p) l = let a = stmt_like p l in (a.0, _, AreMore.last_stmt a.2, a.3)
    more_like (AreMore.next_stmt p brk rest) l = let a = stmt_like p l in let b = break_like brk a.3 in let c = more_like rest b.2 in (c.0, _, AreMore.next_stmt a.2 b.1 c.2, c.3)

    stmts_like : {ts us : List Token} {all : List PlainStmt} → AreStmts source ts us all → {vs : List Token} → Like ts vs → Again (AreStmts other) us vs
    stmts_like (AreStmts.no_stmts brk) l = let a = may_like brk l in (a.0, _, AreStmts.no_stmts a.1, a.2)
    stmts_like (AreStmts.some_stmts brk p end) l = let a = may_like brk l in let b = more_like p a.2 in let c = may_like end b.3 in (c.0, _, AreStmts.some_stmts a.1 b.2 c.1, c.2)

    valued_from_like : {ts us : List Token} {all : List PlainStmt} {e : PlainExpr} → AreValued source ts us all e → {vs : List Token} → Like ts vs → AgainValued (AreValued other) us vs
    valued_from_like (AreValued.value_alone p) l = let a = expr_like p l in (a.0, _, _, AreValued.value_alone a.2, a.3)
    valued_from_like (AreValued.before_value p brk rest) l = let a = stmt_like p l in let b = break_like brk a.3 in let c = valued_from_like rest b.2 in (c.0, _, _, AreValued.before_value a.2 b.1 c.3, c.4)

    valued_like : {ts us : List Token} {all : List PlainStmt} {e : PlainExpr} → IsValued source ts us all e → {vs : List Token} → Like ts vs → AgainValued (IsValued other) us vs
    valued_like (IsValued.valued brk p end) l = let a = may_like brk l in let b = valued_from_like p a.2 in let c = may_like end b.4 in (c.0, _, _, IsValued.valued a.1 b.3 c.1, c.2)

    braced_like : {ts us : List Token} {all : List PlainStmt} → IsBraced source ts us all → {vs : List Token} → Like ts vs → Again (IsBraced other) us vs
    braced_like (IsBraced.braced o p c) l = let a = takes_like o l in let b = stmts_like p a.2 in let d = takes_like c b.3 in (d.0, _, IsBraced.braced a.1 b.2 d.1, d.2)

    else_like : {ts us : List Token} {all : List PlainStmt} → MayElse source ts us all → {vs : List Token} → Like ts vs → Again (MayElse other) us vs
    else_like MayElse.no_else {vs} l = (vs, _, MayElse.no_else, l)
    else_like (MayElse.an_else w p) l = let a = takes_like w l in let b = braced_like p a.2 in (b.0, _, MayElse.an_else a.1 b.2, b.3)

    kind_again : {ts us : List Token} {s : PlainStmtKind} → IsKind source ts us s → {vs : List Token} → Like ts vs → Again (IsKind other) us vs
    kind_again (IsKind.a_val w i q p) l = let a = takes_like w l in let b = name_like i a.2 in let c = takes_like q b.3 in let d = bound_like b.1 p c.2 in (d.0, _, IsKind.a_val a.1 b.2 c.1 d.2, d.3)
    kind_again (IsKind.a_set i w e) l = let a = name_like i l in let b = takes_like w a.3 in let c = expr_like e b.2 in (c.0, _, IsKind.a_set a.2 b.1 c.2, c.3)
    kind_again (IsKind.a_set_at i o all c w e) l =
        let a = name_like i l in let b = takes_like o a.3 in let d = exprs_like all b.2 in let f = takes_like c d.3 in let g = takes_like w f.2 in let h = expr_like e g.2 in (h.0, _, IsKind.a_set_at a.2 b.1 d.2 f.1 g.1 h.2, h.3)
    kind_again (IsKind.an_enq i d w o x c) l =
        let a = name_like i l in let b = takes_like d a.3 in let e = takes_like w b.2 in let f = takes_like o e.2 in let g = expr_like x f.2 in let h = takes_like c g.3 in (h.0, _, IsKind.an_enq a.2 b.1 e.1 f.1 g.2 h.1, h.2)
    kind_again (IsKind.a_load i w j o all c) l =
        let a = name_like i l in let b = takes_like w a.3 in let d = name_like j b.2 in let e = takes_like o d.3 in let f = spans_like all e.2 in let g = takes_like c f.3 in (g.0, _, IsKind.a_load a.2 b.1 d.2 e.1 f.2 g.1, g.2)
    kind_again (IsKind.a_store i o all c w j) l =
        let a = name_like i l in let b = takes_like o a.3 in let d = spans_like all b.2 in let e = takes_like c d.3 in let f = takes_like w e.2 in let g = name_like j f.2 in (g.0, _, IsKind.a_store a.2 b.1 d.2 e.1 f.1 g.2, g.3)
    kind_again (IsKind.a_gather i w j o p m x c) l =
        let a = name_like i l in let b = takes_like w a.3 in let d = name_like j b.2 in let e = takes_like o d.3 in let f = name_like p e.2 in let g = takes_like m f.3 in let h = expr_like x g.2 in let n = takes_like c h.3 in
        (n.0, _, IsKind.a_gather a.2 b.1 d.2 e.1 f.2 g.1 h.2 n.1, n.2)
    kind_again (IsKind.a_scatter i o p m x c w j) l =
        let a = name_like i l in let b = takes_like o a.3 in let d = name_like p b.2 in let e = takes_like m d.3 in let f = expr_like x e.2 in let g = takes_like c f.3 in let h = takes_like w g.2 in let n = name_like j h.2 in
        (n.0, _, IsKind.a_scatter a.2 b.1 d.2 e.1 f.2 g.1 h.1 n.2, n.3)
    kind_again (IsKind.a_block is t p) l = let a = takes_like t l in let b = braced_like p a.2 in (b.0, _, IsKind.a_block is a.1 b.2, b.3)
    kind_again (IsKind.a_foreach s w p o q m r c) l =
        let a = style_like s l in let b = takes_like w a.2 in let d = counter_list_like p b.2 in let e = takes_like o d.3 in let f = binds_like q e.2 in let g = takes_like m f.3 in let h = stmts_like r g.2 in let n = takes_like c h.3 in
        (n.0, _, IsKind.a_foreach a.1 b.1 d.2 e.1 f.2 g.1 h.2 n.1, n.2)
    kind_again (IsKind.a_combining is s w o i c p u q m r v comb) l =
        let a = style_like s l in let b = takes_like w a.2 in let d = takes_like o b.2 in let e = name_like i d.2 in let f = takes_like c e.3 in let g = counter_list_like p f.2 in let h = takes_like u g.3 in let j = binds_like q h.2 in
        let n = takes_like m j.3 in let x = valued_like r n.2 in let y = takes_like v x.4 in let z = combiner_like comb y.2 in
        (z.0, _, IsKind.a_combining is a.1 b.1 d.1 e.2 f.1 g.2 h.1 j.2 n.1 x.3 y.1 z.2, z.3)
    kind_again (IsKind.an_fsm w o1 start c1 o2 test c2 o3 i m all c3 o4 next c4) l =
        let a = takes_like w l in let b = takes_like o1 a.2 in let c = expr_like start b.2 in let d = takes_like c1 c.3 in let e = takes_like o2 d.2 in let f = arrow_like test e.2 in let g = takes_like c2 f.4 in let h = takes_like o3 g.2 in
        let j = name_like i h.2 in let n = takes_like m j.3 in let p = stmts_like all n.2 in let q = takes_like c3 p.3 in let r = takes_like o4 q.2 in let s = arrow_like next r.2 in let t = takes_like c4 s.4 in
        (t.0, _, IsKind.an_fsm a.1 b.1 c.2 d.1 e.1 f.3 g.1 h.1 j.2 n.1 p.2 q.1 r.1 s.3 t.1, t.2)
    kind_again (IsKind.a_branch w o e c p q) l =
        let a = takes_like w l in let b = takes_like o a.2 in let d = expr_like e b.2 in let f = takes_like c d.3 in let g = braced_like p f.2 in let h = else_like q g.3 in (h.0, _, IsKind.a_branch a.1 b.1 d.2 f.1 g.2 h.2, h.3)

  -- ---- programs

  port_like : {ts us : List Token} {p : PlainDeclKind} → IsPort source ts us p → {vs : List Token} → Like ts vs → Again (IsPort other) us vs
  port_like (IsPort.an_arg_in w t) l = let a = takes_like w l in let b = bracketed_like t a.2 in (b.0, _, IsPort.an_arg_in a.1 b.2, b.3)
  port_like (IsPort.an_arg_out w t) l = let a = takes_like w l in let b = bracketed_like t a.2 in (b.0, _, IsPort.an_arg_out a.1 b.2, b.3)
  port_like (IsPort.a_dram w t d) l = let a = takes_like w l in let b = bracketed_like t a.2 in let c = dims_like d b.3 in (c.0, _, IsPort.a_dram a.1 b.2 c.2, c.3)

  decls_like : {ts us : List Token} {all : List PlainDecl} → AreDecls source ts us all → {vs : List Token} → Like ts vs → Again (AreDecls other) us vs
  decls_like AreDecls.none {vs} l = (vs, _, AreDecls.none, l)
  decls_like (AreDecls.next w i q p brk rest) l =
      let a = takes_like w l in let b = name_like i a.2 in let c = takes_like q b.3 in let d = port_like p c.2 in let e = break_like brk d.3 in let f = decls_like rest e.2 in
      (f.0, _, AreDecls.next a.1 b.2 c.1 d.2 e.1 f.2, f.3)

  none_like : (vs : List Token) → Like [] vs → vs ≡ []
  none_like [] l = refl
  none_like (u ∷ vs) l = elim l [ ]

  pub program_like : {ts : List Token} {tree : PlainSyntax} → IsProgram source ts tree → {vs : List Token} → Like ts vs → (tree : PlainSyntax) × IsProgram other vs tree
  program_like (IsProgram.program brk ds w p end) l =
      let a = may_like brk l in let b = decls_like ds a.2 in let c = takes_like w b.3 in let d = braced_like p c.2 in let e = may_like end d.3 in
      (_, IsProgram.program a.1 b.2 c.1 d.2 (subst (MayBreak d.0) (none_like e.0 e.2) e.1))
