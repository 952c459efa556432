-- What is spelled is read again: expressions, where nothing follows that would belong to them.
use Rattle.std.specs.Option.{option_map_or}
use Rattle.std.proofs.Common.{◌≡◌, ◌∙◌, ℕ, zero, suc, ◌+◌, ◌-◌, ◌<◌, ◌≤◌, Bool, true, false, ◌&&◌, nat_le, List, [], ◌∷◌, ◌++◌, length, Option, Some, None, Ok, refl, sym, ap, subst, arith, if◌then◌else◌}
use Rattle.std.proofs.lemmas.List.{append-nil, append_assoc}
use Rattle.sp_words.specs.declared.kind.BinOp.{BinOp}
use Rattle.sp_reader.specs.declared.token.Token.{Token}
use Rattle.sp_reader.specs.declared.token.TokenKind.{TokenKind}
use Rattle.sp_reader.specs.declared.token.TokenKind.TheVariants as k
use Rattle.sp_reader.specs.declared.grammar.expression.Infix.{Infix}
use Rattle.sp_reader.specs.declared.grammar.expression.Infix.TheVariants.{Operation, Shift}
use Rattle.sp_reader.specs.declared.grammar.expression.Sign.{Sign}
use Rattle.sp_reader.specs.declared.syntax.expression.SynUn.{SynUn}
use Rattle.sp_reader.specs.ExpressionRules.{infix_of, level_of, level_of_op, prefix, is_minus, make_name, binds_tighter, sign_at, signs_from, signs, apply, operation, chain_from, casts_from, exprs_from, exprs, pair, choice, no_operand, member, indexed, named, enclosed, primary_by, primary, unsigned, prefixed, chain, expr}
use Rattle.sp_reader.specs.PlainTree.{PlainIdent, PlainExpr, expr as node, name as a_name, truth, deq, access, mux, cast, one, row}
use Rattle.sp_reader.specs.SpanRules.{whole_expr}
use Rattle.sp_reader.specs.Steps.{Text, Rule, Outcome, and_then, kind_of, tail_of, place_of, same_kind, sees, is_name}
use Rattle.sp_reader.specs.TypeRules.{target}
use Rattle.sp_grammar.specs.Tokens.{Takes, IsName, IsOperator, IsSign, IsShift, times, divided, remainder, plus, less, less_than, at_most, above, at_least, equal, unequal, both, both_twice, either_one, either, either_twice, minus, bang, tilde, to_left, to_right}
use Rattle.sp_grammar.specs.Expressions.{IsExpr, IsPrefixed, IsPostfix, IsPrimary, AreExprs, IsTarget}
use Rattle.sp_grammar.proofs.Again.{kind_at, tail_at, shorter, sees_it, sees_other, skip_it, name_kind, name_shorter, name_again, number_again, whole_again, target_again, target_shorter, target_word}
use Rattle.sp_grammar.proofs.Operators.{Stops, stops_at, stops_at_none}
use Rattle.sp_grammar.proofs.Rules.{kind_is}

-- ---- operators

operator_level : {level : ℕ} {kind : TokenKind} {o : BinOp} → IsOperator level kind o → (infix_of kind ≡ Some (Operation o)) × (level_of_op o ≡ level)
operator_level times = (refl, refl)
operator_level divided = (refl, refl)
operator_level remainder = (refl, refl)
operator_level plus = (refl, refl)
operator_level less = (refl, refl)
operator_level less_than = (refl, refl)
operator_level at_most = (refl, refl)
operator_level above = (refl, refl)
operator_level at_least = (refl, refl)
operator_level equal = (refl, refl)
operator_level unequal = (refl, refl)
operator_level both = (refl, refl)
operator_level both_twice = (refl, refl)
operator_level either_one = (refl, refl)
operator_level either = (refl, refl)
operator_level either_twice = (refl, refl)

shift_level : {kind : TokenKind} {left : Bool} → IsShift kind left → infix_of kind ≡ Some (Shift left)
shift_level to_left = refl
shift_level to_right = refl

-- an operator is neither a dot nor a bracket
abbrev pub opens : TokenKind → Bool
opens k.Dot = true
opens k.OpenRound = true
opens _ = false

infix_closed : (kind : TokenKind) (o : Infix) → infix_of kind ≡ Some o → opens kind ≡ false
infix_closed k.Dot o e = absurd (cc)
infix_closed k.OpenRound o e = absurd (cc)
infix_closed _ o e = refl

-- neither a cast nor an index follows
abbrev pub IsClosed : List Token → Type 0
IsClosed us = (sees k.Dot us ≡ false) × (sees k.OpenRound us ≡ false)

closed_at : (kind : TokenKind) (ts : List Token) → kind_of ts ≡ kind → opens kind ≡ false → IsClosed ts
unfolding same_kind
closed_at k.Dot ts e h = absurd (cc)
closed_at k.OpenRound ts e h = absurd (cc)
closed_at kind ts e h = (sees_other kind k.Dot ts e refl, sees_other kind k.OpenRound ts e refl)

pub closed_by : (kind : TokenKind) (ts : List Token) → kind_of ts ≡ kind → opens kind ≡ false → IsClosed ts
closed_by = closed_at

weaker_stop : (l m : ℕ) (ts : List Token) → l ≤ m → Stops m ts → Stops l ts
weaker_stop l m ts le h o e = let far = h o e in omega (arith, le, far)

-- nothing that binds tighter than a shift
loose : (kind : TokenKind) → ((o : Infix) → infix_of kind ≡ Some o → 3 ≤ level_of o) → binds_tighter kind ≡ false
loose k.Star h = absurd (omega (arith, h _ refl))
loose k.Slash h = absurd (omega (arith, h _ refl))
loose k.Percent h = absurd (omega (arith, h _ refl))
loose k.Plus h = absurd (omega (arith, h _ refl))
loose k.Minus h = absurd (omega (arith, h _ refl))
loose _ h = refl

-- ---- operators before an operand

sign_prefix : {kind : TokenKind} {o : SynUn} → IsSign kind o → (prefix kind ≡ Some o) × (is_minus o ≡ true → kind ≡ k.Minus)
sign_prefix minus = (refl, λ _. refl)
sign_prefix bang = (refl, λ e. absurd (cc))
sign_prefix tilde = (refl, λ e. absurd (cc))

sees_number : (ts : List Token) → sees k.Number ts ≡ true → kind_of ts ≡ k.Number
unfolding sees
sees_number ts e = kind_is (kind_of ts) k.Number e

sign_again : {kind : TokenKind} {o : SynUn} {ts us : List Token} → IsSign kind o → Takes kind ts us → (kind ≡ k.Minus → kind_of us ≡ k.Number → ⊥)
    → sign_at ts ≡ Some (record { at = place_of ts; op = o })
unfolding sign_at
sign_again {kind} {o} {ts} {us} is takes alone =
    let p = sign_prefix is in
    let found : prefix (kind_of ts) ≡ Some o = ap prefix (kind_at ts takes) ∙ p.0 in
    rw (found, tail_at ts takes) (go (is_minus o) (sees k.Number us) refl refl)
  where
    go : (b c : Bool) → is_minus o ≡ b → sees k.Number us ≡ c → if◌then◌else◌ {A = Option Sign} (b && c) None (Some (record { at = place_of ts; op = o })) ≡ Some (record { at = place_of ts; op = o })
    go true true m n = absurd (alone ((sign_prefix is).1 m) (sees_number us n))
    go true false m n = refl
    go false c m n = refl

module _ (source : Text) where
  -- ---- what an operand begins with

  primary_first : {ts us : List Token} {e : PlainExpr} → IsPrimary source ts us e → (sees k.Minus ts ≡ false) × (prefix (kind_of ts) ≡ None)
  unfolding same_kind
  primary_first h = go h
    where
      name_first : (kind : TokenKind) (ts : List Token) → kind_of ts ≡ kind → is_name kind ≡ true → (sees k.Minus ts ≡ false) × (prefix (kind_of ts) ≡ None)
      name_first k.Minus ts e n = absurd (cc)
      name_first k.Bang ts e n = absurd (cc)
      name_first k.Tilde ts e n = absurd (cc)
      name_first kind ts e n = (sees_other kind k.Minus ts e refl, ap prefix e)

      at : (kind : TokenKind) (ts : List Token) → kind_of ts ≡ kind → same_kind kind k.Minus ≡ false → prefix kind ≡ None → (sees k.Minus ts ≡ false) × (prefix (kind_of ts) ≡ None)
      at kind ts e off none = (sees_other kind k.Minus ts e off, ap prefix e ∙ none)

      go : {ts us : List Token} {e : PlainExpr} → IsPrimary source ts us e → (sees k.Minus ts ≡ false) × (prefix (kind_of ts) ≡ None)
      go {ts} (IsPrimary.a_number p) = at k.Number ts (kind_at ts p.takes) refl refl
      go {ts} (IsPrimary.yes p) = at k.True ts (kind_at ts p) refl refl
      go {ts} (IsPrimary.no p) = at k.False ts (kind_at ts p) refl refl
      go {ts} (IsPrimary.a_name p) = name_first (kind_of ts) ts refl (name_kind source ts p)
      go {ts} (IsPrimary.a_value p dot by) = name_first (kind_of ts) ts refl (name_kind source ts p)
      go {ts} (IsPrimary.a_deq p dot by opened close) = name_first (kind_of ts) ts refl (name_kind source ts p)
      go {ts} (IsPrimary.an_access p opened all close) = name_first (kind_of ts) ts refl (name_kind source ts p)
      go {ts} (IsPrimary.a_choice p opened x first y second z close) = at k.Mux ts (kind_at ts p) refl refl
      go {ts} (IsPrimary.a_least p opened x comma y close) = at k.Min ts (kind_at ts p) refl refl
      go {ts} (IsPrimary.a_greatest p opened x comma y close) = at k.Max ts (kind_at ts p) refl refl
      go {ts} (IsPrimary.in_parentheses p x close) = at k.OpenRound ts (kind_at ts p) refl refl

  -- no sign stands before an operand
  unsigned_first : {ts us : List Token} {e : PlainExpr} → IsPostfix source ts us e → sign_at ts ≡ None
  unfolding sign_at
  unsigned_first {ts} (IsPostfix.negative {us = us} word digits) = rw (kind_at ts word, tail_at ts word, sees_it us digits.takes) refl
  unsigned_first {ts} (IsPostfix.primary p) = rw (primary_first p).1 refl
  unsigned_first (IsPostfix.casted p is) = unsigned_first p

  -- ---- how long they are

  mutual
    pub expr_shorter : {level : ℕ} {ts us : List Token} {e : PlainExpr} → IsExpr source level ts us e → length us < length ts
    expr_shorter (IsExpr.operand p) = prefixed_shorter p
    expr_shorter (IsExpr.tighter p) = expr_shorter p
    expr_shorter (IsExpr.operation {us = us} is p takes q) = let a = expr_shorter p in let b = shorter us takes in let c = expr_shorter q in omega (arith, a, b, c)
    expr_shorter (IsExpr.shifted {us = us} {vs = vs} is p takes q) = let a = expr_shorter p in let b = shorter us takes in let c = shorter vs q.takes in omega (arith, a, b, c)

    pub prefixed_shorter : {ts us : List Token} {e : PlainExpr} → IsPrefixed source ts us e → length us < length ts
    prefixed_shorter (IsPrefixed.bare p) = postfix_shorter p
    prefixed_shorter {ts} (IsPrefixed.signed is takes alone p) = let a = shorter ts takes in let b = prefixed_shorter p in omega (arith, a, b)

    postfix_shorter : {ts us : List Token} {e : PlainExpr} → IsPostfix source ts us e → length us < length ts
    postfix_shorter {ts} (IsPostfix.negative {us = us} word digits) = let a = shorter ts word in let b = shorter us digits.takes in omega (arith, a, b)
    postfix_shorter (IsPostfix.primary p) = primary_shorter p
    postfix_shorter (IsPostfix.casted p is) = let a = postfix_shorter p in let b = target_shorter source is in omega (arith, a, b)

    primary_shorter : {ts us : List Token} {e : PlainExpr} → IsPrimary source ts us e → length us < length ts
    primary_shorter {ts} (IsPrimary.a_number p) = shorter ts p.takes
    primary_shorter {ts} (IsPrimary.yes p) = shorter ts p
    primary_shorter {ts} (IsPrimary.no p) = shorter ts p
    primary_shorter {ts} (IsPrimary.a_name p) = name_shorter source ts p
    primary_shorter {ts} (IsPrimary.a_value {us = us} {vs = vs} p dot by) = let a = name_shorter source ts p in let b = shorter us dot in let c = shorter vs by in omega (arith, a, b, c)
    primary_shorter {ts} (IsPrimary.a_deq {a = u} {b = v} {c = w} {d = x} p dot by opened close) =
        let a = name_shorter source ts p in let b = shorter u dot in let c = shorter v by in let d = shorter w opened in let e = shorter x close in omega (arith, a, b, c, d, e)
    primary_shorter {ts} (IsPrimary.an_access {a = u} {c = w} p opened all close) = let a = name_shorter source ts p in let b = shorter u opened in let c = exprs_shorter all in let d = shorter w close in omega (arith, a, b, c, d)
    primary_shorter {ts} (IsPrimary.a_choice {a = a} {c = c} {e = e} {g = g} p opened x first y second z close) =
        let h = shorter ts p in let i = shorter a opened in let j = expr_shorter x in let l = shorter c first in let m = expr_shorter y in let n = shorter e second in let o = expr_shorter z in let q = shorter g close in
        omega (arith, h, i, j, l, m, n, o, q)
    primary_shorter {ts} (IsPrimary.a_least {a = a} {c = c} {e = e} p opened x comma y close) =
        let h = shorter ts p in let i = shorter a opened in let j = expr_shorter x in let l = shorter c comma in let m = expr_shorter y in let n = shorter e close in omega (arith, h, i, j, l, m, n)
    primary_shorter {ts} (IsPrimary.a_greatest {a = a} {c = c} {e = e} p opened x comma y close) =
        let h = shorter ts p in let i = shorter a opened in let j = expr_shorter x in let l = shorter c comma in let m = expr_shorter y in let n = shorter e close in omega (arith, h, i, j, l, m, n)
    primary_shorter {ts} (IsPrimary.in_parentheses {vs = vs} p x close) = let a = shorter ts p in let b = expr_shorter x in let c = shorter vs close in omega (arith, a, b, c)

    pub exprs_shorter : {ts us : List Token} {all : List PlainExpr} → AreExprs source ts us all → length us < length ts
    exprs_shorter (AreExprs.last p) = expr_shorter p
    exprs_shorter (AreExprs.next {us = us} p comma rest) = let a = expr_shorter p in let b = shorter us comma in let c = exprs_shorter rest in omega (arith, a, b, c)

  -- ---- casts and signs

  -- what may follow a name: no bracket, and behind a dot no word that belongs to it
  abbrev FollowsName : List Token → Type 0
  FollowsName us = (sees k.OpenRound us ≡ false) × (sees k.Dot us ≡ true → (sees k.Value (tail_of us) ≡ false) × (sees k.Deq (tail_of us) ≡ false))

  closed_follows : (us : List Token) → IsClosed us → FollowsName us
  closed_follows us closed = (closed.1, λ dot. let bad = sym dot ∙ closed.0 in absurd (cc))

  target_follows : {us vs : List Token} {t : _} → IsTarget source us vs t → FollowsName us
  target_follows is = let w = target_word source is in (w.0, λ _. (w.1, w.2))

  casts_end : (n at : ℕ) (e : PlainExpr) (us : List Token) → sees k.Dot us ≡ false → casts_from source at n e us ≡ Ok (e, us)
  unfolding casts_from
  casts_end zero at e us off = refl
  casts_end (suc n) at e us off = rw off refl

  pub signs_end : (n : ℕ) (found : List Sign) (us : List Token) → sign_at us ≡ None → signs_from n found us ≡ Ok (found, us)
  unfolding signs_from
  signs_end zero found us off = refl
  signs_end (suc n) found us off = rw off refl

  -- ---- what is left to do at a place is as at another one

  -- an operand that is read up to its casts
  record CastsLeft (depth : ℕ) (all us : List Token) (e : PlainExpr) : Type 0 where
    count : ℕ
    enough : length us ≤ count
    read : unsigned source (expr source depth) all ≡ casts_from source (place_of all) count e us

  -- an operand whose signs are read
  record SignsRead (depth : ℕ) (ts us : List Token) (e : PlainExpr) : Type 0 where
    count : ℕ
    signs : List Sign
    left : List Token
    operand : PlainExpr
    is : e ≡ apply signs operand
    few : count + length left ≤ length ts
    taken : (more : ℕ) (found : List Sign) → signs_from (count + more) found ts ≡ signs_from more (found ++ signs) left
    none : sign_at left ≡ None
    read : unsigned source (expr source depth) left ≡ Ok (operand, us)

  -- an expression that is read up to the operators behind it
  record ChainLeft (depth level : ℕ) (ts us : List Token) (e : PlainExpr) : Type 0 where
    count : ℕ
    enough : length us < count
    read : chain source (expr source depth) level ts ≡ chain_from source (expr source depth) level count e us

  prefixed_of : {depth : ℕ} {ts us : List Token} {e : PlainExpr} → SignsRead depth ts us e → prefixed source (expr source depth) ts ≡ Ok (e, us)
  unfolding prefixed
  prefixed_of {depth} {ts} {us} {e} h =
      let more : ℕ = length ts - h.count in
      let whole : length ts ≡ h.count + more = (let few = h.few in omega (arith, few)) in
      let signed : signs ts ≡ Ok (h.signs, h.left) = ap (λ n. signs_from n [] ts) whole ∙ h.taken more [] ∙ signs_end more h.signs h.left h.none in
      rw (signed, h.read) (ap (λ x. Ok (x, us)) (sym h.is))

  chain_end : {depth level : ℕ} {ts us : List Token} {e : PlainExpr} → ChainLeft depth level ts us e → Stops (suc level) us → chain source (expr source depth) level ts ≡ Ok (e, us)
  unfolding chain_from
  chain_end {depth} {level} {ts} {us} {e} h stops = h.read ∙ ends h.count h.enough
    where
      by_level : (n : ℕ) (o : Infix) → infix_of (kind_of us) ≡ Some o
          → (if nat_le (level_of o) level then and_then (operation source (expr source depth) (level_of o - 1) o e (tail_of us)) (chain_from source (expr source depth) level n) else Ok (e, us)) ≡ Ok (e, us)
      by_level n o is = let far = stops o is in let off : nat_le (level_of o) level ≡ false = grind arith in rw off refl

      by_infix : (n : ℕ) (o : Option Infix) → infix_of (kind_of us) ≡ o
          → option_map_or {U = Outcome PlainExpr} (λ op. if nat_le (level_of op) level then and_then (operation source (expr source depth) (level_of op - 1) op e (tail_of us)) (chain_from source (expr source depth) level n) else Ok (e, us)) o (Ok (e, us)) ≡ Ok (e, us)
      by_infix n None is = refl
      by_infix n (Some o) is = by_level n o is

      ends : (n : ℕ) → length us < n → chain_from source (expr source depth) level n e us ≡ Ok (e, us)
      ends zero le = absurd (omega (arith, le))
      ends (suc n) le = by_infix n (infix_of (kind_of us)) refl

  -- by a depth that is enough for all tokens
  expr_of : (depth level : ℕ) {ts us : List Token} {e : PlainExpr} → length us < length ts → length ts ≤ depth → ((d : ℕ) → length ts ≤ suc d → ChainLeft d level ts us e) → Stops (suc level) us
      → expr source depth level ts ≡ Ok (e, us)
  unfolding expr
  expr_of zero level short le f stops = absurd (omega (arith, short, le))
  expr_of (suc depth) level short le f stops = chain_end (f depth le) stops

  -- one more operator, by what stands behind it
  step : {depth l : ℕ} {ts us ws : List Token} {a e : PlainExpr} (o : Infix) → ChainLeft depth l ts us a → infix_of (kind_of us) ≡ Some o → level_of o ≤ l → length ws < length (tail_of us) → length (tail_of us) < length us
      → operation source (expr source depth) (level_of o - 1) o a (tail_of us) ≡ Ok (e, ws) → ChainLeft depth l ts ws e
  unfolding chain_from
  step {depth} {l} {ts} {us} {ws} {a} {e} o h is le short tail read = by_count h.count h.enough h.read
    where
      by_count : (n : ℕ) → length us < n → chain source (expr source depth) l ts ≡ chain_from source (expr source depth) l n a us → ChainLeft depth l ts ws e
      by_count zero enough got = absurd (omega (arith, enough))
      by_count (suc n) enough got =
          let low : nat_le (level_of o) l ≡ true = grind arith in
          record { count = n; enough = omega (arith, enough, short, tail); read = got ∙ rw (is, low, read) refl }

  module _ (inner : ℕ → Rule PlainExpr) where
    named_kind : (kind : TokenKind) → is_name kind ≡ true → primary_by source inner kind ≡ named source inner
    named_kind k.Number e = absurd (cc)
    named_kind k.True e = absurd (cc)
    named_kind k.False e = absurd (cc)
    named_kind k.OpenRound e = absurd (cc)
    named_kind k.Mux e = absurd (cc)
    named_kind k.Min e = absurd (cc)
    named_kind k.Max e = absurd (cc)
    named_kind _ e = refl

    -- by the kind of the first token
    by_kind : (kind : TokenKind) (ts : List Token) {o : Outcome PlainExpr} → kind_of ts ≡ kind → primary_by source inner kind ts ≡ o → primary source inner ts ≡ o
    unfolding primary
    by_kind kind ts {o} is h = subst (λ x. primary_by source inner x ts ≡ o) (sym is) h

    pub by_name : (ts : List Token) {us : List Token} {i : PlainIdent} {o : Outcome PlainExpr} → IsName source ts us i → named source inner ts ≡ o → primary source inner ts ≡ o
    unfolding primary
    by_name ts is h = ap (λ (r : Rule PlainExpr). r ts) (named_kind (kind_of ts) (name_kind source ts is)) ∙ h

    -- a name alone
    name_alone : {ts us : List Token} {i : PlainIdent} → IsName source ts us i → FollowsName us → named source inner ts ≡ Ok (node i.place (a_name i false), us)
    unfolding named member
    name_alone {ts} {us} {i} is follows = rw (name_again source ts is) (rw follows.0 (by_dot (sees k.Dot us) refl))
      where
        by_dot : (b : Bool) → sees k.Dot us ≡ b → (if b then member i us else Ok (make_name i false, us)) ≡ Ok (make_name i false, us)
        by_dot true dot = rw (follows.1 dot).0 (rw (follows.1 dot).1 refl)
        by_dot false dot = refl

    name_value : {ts us vs ws : List Token} {i : PlainIdent} → IsName source ts us i → Takes k.Dot us vs → Takes k.Value vs ws → named source inner ts ≡ Ok (make_name i true, ws)
    unfolding named member same_kind
    name_value {ts = ts} {us = us} {vs = vs} is dot by =
        rw (name_again source ts is, sees_other k.Dot k.OpenRound us (kind_at us dot) refl, sees_it us dot, tail_at us dot, sees_it vs by, tail_at vs by) refl

    name_deq : {ts a b c d e : List Token} {i : PlainIdent} → IsName source ts a i → Takes k.Dot a b → Takes k.Deq b c → Takes k.OpenRound c d → Takes k.CloseRound d e
        → named source inner ts ≡ Ok (node i.place (deq i), e)
    unfolding named member no_operand same_kind
    name_deq {ts = ts} {a = a} {b = b} is dot by opened close =
        rw (
          name_again source ts is,
          sees_other k.Dot k.OpenRound a (kind_at a dot) refl,
          sees_it a dot,
          tail_at a dot,
          sees_other k.Deq k.Value b (kind_at b by) refl,
          sees_it b by,
          tail_at b by,
          skip_it opened,
          skip_it close,
        ) refl

    pub name_access : {ts a b c d : List Token} {i : PlainIdent} {all : List PlainExpr} → IsName source ts a i → Takes k.OpenRound a b → exprs inner b ≡ Ok (all, c) → Takes k.CloseRound c d
        → named source inner ts ≡ Ok (node i.place (access i (row all)), d)
    unfolding named indexed
    name_access {ts = ts} {a = a} is opened read close = rw (name_again source ts is, sees_it a opened, tail_at a opened, read, skip_it close) refl

    choice_again : {at : ℕ} {a b c d e f g h : List Token} {x y z : PlainExpr} → Takes k.OpenRound a b → inner 7 b ≡ Ok (x, c) → Takes k.Comma c d → inner 7 d ≡ Ok (y, e) → Takes k.Comma e f → inner 7 f ≡ Ok (z, g) → Takes k.CloseRound g h
        → choice inner at a ≡ Ok (node at (mux x y z), h)
    unfolding choice
    choice_again opened x first y second z close = rw (skip_it opened, x, skip_it first, y, skip_it second, z, skip_it close) refl

    pair_again : {a b c d e f : List Token} {x y : PlainExpr} → Takes k.OpenRound a b → inner 7 b ≡ Ok (x, c) → Takes k.Comma c d → inner 7 d ≡ Ok (y, e) → Takes k.CloseRound e f → pair inner a ≡ Ok ((x, y), f)
    unfolding pair
    pair_again opened x comma y close = rw (skip_it opened, x, skip_it comma, y, skip_it close) refl

    enclosed_again : {a b c : List Token} {x : PlainExpr} → inner 7 a ≡ Ok (x, b) → Takes k.CloseRound b c → enclosed inner a ≡ Ok (x, c)
    unfolding enclosed
    enclosed_again x close = rw (x, skip_it close) refl

    -- lists
    one_more : (n : ℕ) (found more : List PlainExpr) {ts us vs ws : List Token} {e : PlainExpr} → inner 7 ts ≡ Ok (e, us) → Takes k.Comma us vs → exprs_from inner n (found ++ e ∷ []) vs ≡ Ok ((found ++ e ∷ []) ++ more, ws)
        → exprs_from inner (suc n) found ts ≡ Ok (found ++ e ∷ more, ws)
    unfolding exprs_from
    one_more n found more {us = us} {ws = ws} {e = e} first comma rest = rw (first, sees_it us comma, tail_at us comma) (rest ∙ ap (λ xs. Ok (xs, ws)) (append_assoc found (e ∷ []) more))

    last_one : (n : ℕ) (found : List PlainExpr) {ts us : List Token} {e : PlainExpr} → inner 7 ts ≡ Ok (e, us) → sees k.Comma us ≡ false → exprs_from inner (suc n) found ts ≡ Ok (found ++ e ∷ [], us)
    unfolding exprs_from
    last_one n found first off = rw (first, off) refl

  ends_at : (kind : TokenKind) (level : ℕ) (us : List Token) → kind_of us ≡ kind → infix_of kind ≡ None → Stops level us
  ends_at kind level us is none = stops_at_none level us (ap infix_of is ∙ none)

  after_comma : {us vs : List Token} → Takes k.Comma us vs → Stops 8 us × IsClosed us
  after_comma {us} takes = (ends_at k.Comma 8 us (kind_at us takes) refl, closed_at k.Comma us (kind_at us takes) refl)

  pub after_close : {us vs : List Token} → Takes k.CloseRound us vs → Stops 8 us × IsClosed us
  after_close {us} takes = (ends_at k.CloseRound 8 us (kind_at us takes) refl, closed_at k.CloseRound us (kind_at us takes) refl)

  mutual
    unfolding chain operation signs_from unsigned casts_from same_kind

    chain_again : {level : ℕ} {ts us : List Token} {e : PlainExpr} → IsExpr source level ts us e → (depth l : ℕ) → level ≤ l → length ts ≤ suc depth → Stops level us → IsClosed us → ChainLeft depth l ts us e
    chain_again {ts = ts} {us = us} (IsExpr.operand p) depth l le few stops closed =
        record { count = length ts; enough = prefixed_shorter p; read = ap (λ o. and_then o (chain_from source (expr source depth) l (length ts))) (prefixed_of (prefixed_again p depth few closed)) }
    chain_again {us = us} (IsExpr.tighter {level = level} p) depth l le few stops closed = chain_again p depth l (omega (arith, le)) few (weaker_stop level (suc level) us (omega arith) stops) closed
    chain_again {ts = ts} (IsExpr.operation {level = level} {kind = kind} {op = op} {us = us} {vs = vs} {ws = ws} {a = a} {b = b} is p takes q) depth l le few stops closed =
        let level_is = operator_level is in
        let found : infix_of (kind_of us) ≡ Some (Operation op) = ap infix_of (kind_at us takes) ∙ level_is.0 in
        let left = chain_again p depth l le few (stops_at (suc level) us (Operation op) found (omega (arith, level_is.1))) (closed_at (kind_of us) us refl (infix_closed (kind_of us) (Operation op) found)) in
        let shrinks = expr_shorter p in
        let past = shorter us takes in
        let tail = tail_at us takes in
        let lower : level_of_op op - 1 ≡ level = omega (arith, level_is.1) in
        let right : expr source depth level vs ≡ Ok (b, ws) = expr_of depth level (expr_shorter q) (omega (arith, shrinks, past, few)) (λ d enough. chain_again q d level (omega arith) enough (weaker_stop level (suc level) ws (omega arith) stops) closed) stops in
        step (Operation op) left found (omega (arith, le, level_is.1)) (subst (λ xs. length ws < length xs) (sym tail) (expr_shorter q)) (subst (λ xs. length xs < length us) (sym tail) past)
        (rw (tail, lower) (rw (right) refl))
    chain_again {ts = ts} (IsExpr.shifted {kind = kind} {left = towards} {us = us} {vs = vs} {ws = ws} {a = a} {n = n} is p takes q) depth l le few stops closed =
        let found : infix_of (kind_of us) ≡ Some (Shift towards) = ap infix_of (kind_at us takes) ∙ shift_level is in
        let left = chain_again p depth l le few (stops_at 3 us (Shift towards) found (omega arith)) (closed_at (kind_of us) us refl (infix_closed (kind_of us) (Shift towards) found)) in
        let tail = tail_at us takes in
        step (Shift towards) left found le (subst (λ xs. length ws < length xs) (sym tail) (shorter vs q.takes)) (subst (λ xs. length xs < length us) (sym tail) (shorter us takes))
        (rw tail (rw (whole_again source vs q, loose (kind_of ws) stops) refl))

    prefixed_again : {ts us : List Token} {e : PlainExpr} → IsPrefixed source ts us e → (depth : ℕ) → length ts ≤ suc depth → IsClosed us → SignsRead depth ts us e
    prefixed_again {ts} {us} {e} (IsPrefixed.bare p) depth few closed =
        let casts = postfix_again p depth few (closed_follows us closed) in
        record {
          count = 0;
          signs = [];
          left = ts;
          operand = e;
          is = refl;
          few = omega arith;
          taken = λ more found. let none : 0 + more ≡ more = omega arith in ap (λ n. signs_from n found ts) none ∙ ap (λ ss. signs_from more ss ts) (sym (append-nil found));
          none = unsigned_first p;
          read = casts.read ∙ casts_end casts.count (place_of ts) e us closed.0;
        }
    prefixed_again {ts} {us} (IsPrefixed.signed {kind = kind} {op = op} {us = vs} {e = x} is takes alone p) depth few closed =
        let less = shorter ts takes in
        let h = prefixed_again p depth (omega (arith, less, few)) closed in
        let s : Sign = record { at = place_of ts; op = op } in
        let short = h.few in
        record {
          count = suc h.count;
          signs = s ∷ h.signs;
          left = h.left;
          operand = h.operand;
          is = ap (λ y. node (place_of ts) (one op y)) h.is;
          few = omega (arith, less, short);
          taken = λ more found.
              let on : suc h.count + more ≡ suc (h.count + more) = omega arith in
              let first : signs_from (suc (h.count + more)) found ts ≡ signs_from (h.count + more) (found ++ s ∷ []) vs = rw (sign_again is takes alone, tail_at ts takes) refl in
              ap (λ n. signs_from n found ts) on ∙ first ∙ h.taken more (found ++ s ∷ []) ∙ ap (λ ss. signs_from more ss h.left) (append_assoc found (s ∷ []) h.signs);
          none = h.none;
          read = h.read;
        }

    postfix_again : {ts us : List Token} {e : PlainExpr} → IsPostfix source ts us e → (depth : ℕ) → length ts ≤ suc depth → FollowsName us → CastsLeft depth ts us e
    postfix_again {ts} {us} (IsPostfix.negative {us = vs} word digits) depth few follows =
        record { count = length us; enough = omega arith; read = rw (sees_it ts word, tail_at ts word) (rw (number_again source vs digits) refl) }
    postfix_again {ts} {us} (IsPostfix.primary p) depth few follows =
        record { count = length us; enough = omega arith; read = rw (primary_first p).0 (rw (primary_again p depth few follows) refl) }
    postfix_again {ts} (IsPostfix.casted {us = us} {vs = vs} {e = e} {t = t} p is) depth few follows =
        let h = postfix_again p depth few (target_follows is) in
        let target = target_again source is in
        by_count h.count h.enough h.read target.0 target.1 target.2
      where
        by_count : (n : ℕ) → length us ≤ n → unsigned source (expr source depth) ts ≡ casts_from source (place_of ts) n e us → (ws : List Token) → Takes k.Dot us ws → target source ws ≡ Ok (t, vs) → CastsLeft depth ts vs (node (place_of ts) (cast e t))
        by_count zero enough got ws dot read = let less = shorter us dot in absurd (omega (arith, less, enough))
        by_count (suc n) enough got ws dot read =
            let less = target_shorter source is in
            record { count = n; enough = omega (arith, less, enough); read = got ∙ rw (sees_it us dot, tail_at us dot) (rw (read) refl) }

    primary_again : {ts us : List Token} {e : PlainExpr} → IsPrimary source ts us e → (depth : ℕ) → length ts ≤ suc depth → FollowsName us → primary source (expr source depth) ts ≡ Ok (e, us)
    primary_again {ts} (IsPrimary.a_number p) depth few follows = by_kind (expr source depth) k.Number ts (kind_at ts p.takes) (rw (number_again source ts p) refl)
    primary_again {ts} {us} (IsPrimary.yes p) depth few follows = by_kind (expr source depth) k.True ts (kind_at ts p) (ap (λ xs. Ok (node (place_of ts) (truth true), xs)) (tail_at ts p))
    primary_again {ts} {us} (IsPrimary.no p) depth few follows = by_kind (expr source depth) k.False ts (kind_at ts p) (ap (λ xs. Ok (node (place_of ts) (truth false), xs)) (tail_at ts p))
    primary_again {ts} (IsPrimary.a_name p) depth few follows = by_name (expr source depth) ts p (name_alone (expr source depth) p follows)
    primary_again {ts} (IsPrimary.a_value p dot by) depth few follows = by_name (expr source depth) ts p (name_value (expr source depth) p dot by)
    primary_again {ts} (IsPrimary.a_deq p dot by opened close) depth few follows = by_name (expr source depth) ts p (name_deq (expr source depth) p dot by opened close)
    primary_again {ts} (IsPrimary.an_access {a = a} {b = b} {c = c} p opened all close) depth few follows =
        let less = name_shorter source ts p in let past = shorter a opened in
        by_name (expr source depth) ts p (name_access (expr source depth) p opened (exprs_again all depth (length b) [] (omega (arith, less, past, few)) (omega arith) (sees_other k.CloseRound k.Comma c (kind_at c close) refl) (after_close close).0 (after_close close).1) close)
    primary_again {ts} (IsPrimary.a_choice {a = a} {b = b} {c = c} {d = d} {e = e} {f = f} p opened x first y second z close) depth few follows =
        let h = shorter ts p in let i = shorter a opened in let j = expr_shorter x in let l = shorter c first in let m = expr_shorter y in let n = shorter e second in
        by_kind (expr source depth) k.Mux ts (kind_at ts p) (rw (tail_at ts p) (choice_again (expr source depth) opened
        (expr_of depth 7 (expr_shorter x) (omega (arith, h, i, few)) (λ dd enough. chain_again x dd 7 (omega arith) enough (weaker_stop 7 8 c (omega arith) (after_comma first).0) (after_comma first).1) (after_comma first).0) first
        (expr_of depth 7 (expr_shorter y) (omega (arith, h, i, j, l, few)) (λ dd enough. chain_again y dd 7 (omega arith) enough (weaker_stop 7 8 e (omega arith) (after_comma second).0) (after_comma second).1) (after_comma second).0) second
        (expr_of depth 7 (expr_shorter z) (omega (arith, h, i, j, l, m, n, few)) (λ dd enough. chain_again z dd 7 (omega arith) enough (weaker_stop 7 8 _ (omega arith) (after_close close).0) (after_close close).1) (after_close close).0) close))
    primary_again {ts} (IsPrimary.a_least {a = a} {b = b} {c = c} {d = d} {e = e} p opened x comma y close) depth few follows =
        let h = shorter ts p in let i = shorter a opened in let j = expr_shorter x in let l = shorter c comma in
        by_kind (expr source depth) k.Min ts (kind_at ts p) (rw (
          tail_at ts p,
          pair_again (expr source depth) opened
              (expr_of depth 7 (expr_shorter x) (omega (arith, h, i, few)) (λ dd enough. chain_again x dd 7 (omega arith) enough (weaker_stop 7 8 c (omega arith) (after_comma comma).0) (after_comma comma).1) (after_comma comma).0) comma
              (expr_of depth 7 (expr_shorter y) (omega (arith, h, i, j, l, few)) (λ dd enough. chain_again y dd 7 (omega arith) enough (weaker_stop 7 8 e (omega arith) (after_close close).0) (after_close close).1) (after_close close).0) close,
        ) refl)
    primary_again {ts} (IsPrimary.a_greatest {a = a} {b = b} {c = c} {d = d} {e = e} p opened x comma y close) depth few follows =
        let h = shorter ts p in let i = shorter a opened in let j = expr_shorter x in let l = shorter c comma in
        by_kind (expr source depth) k.Max ts (kind_at ts p) (rw (
          tail_at ts p,
          pair_again (expr source depth) opened
              (expr_of depth 7 (expr_shorter x) (omega (arith, h, i, few)) (λ dd enough. chain_again x dd 7 (omega arith) enough (weaker_stop 7 8 c (omega arith) (after_comma comma).0) (after_comma comma).1) (after_comma comma).0) comma
              (expr_of depth 7 (expr_shorter y) (omega (arith, h, i, j, l, few)) (λ dd enough. chain_again y dd 7 (omega arith) enough (weaker_stop 7 8 e (omega arith) (after_close close).0) (after_close close).1) (after_close close).0) close,
        ) refl)
    primary_again {ts} (IsPrimary.in_parentheses {us = us} {vs = vs} p x close) depth few follows =
        let h = shorter ts p in
        by_kind (expr source depth) k.OpenRound ts (kind_at ts p) (rw (tail_at ts p) (enclosed_again (expr source depth)
        (expr_of depth 7 (expr_shorter x) (omega (arith, h, few)) (λ dd enough. chain_again x dd 7 (omega arith) enough (weaker_stop 7 8 vs (omega arith) (after_close close).0) (after_close close).1) (after_close close).0) close))

    pub exprs_again : {ts us : List Token} {all : List PlainExpr} → AreExprs source ts us all → (depth n : ℕ) (found : List PlainExpr) → length ts ≤ depth → length ts ≤ n → sees k.Comma us ≡ false → Stops 8 us → IsClosed us
        → exprs_from (expr source depth) n found ts ≡ Ok (found ++ all, us)
    exprs_again {us = us} (AreExprs.last p) depth zero found few enough off stops closed = let less = expr_shorter p in absurd (omega (arith, less, enough))
    exprs_again {us = us} (AreExprs.last p) depth (suc n) found few enough off stops closed =
        last_one (expr source depth) n found (expr_of depth 7 (expr_shorter p) few (λ dd deep. chain_again p dd 7 (omega arith) deep (weaker_stop 7 8 us (omega arith) stops) closed) stops) off
    exprs_again (AreExprs.next p comma rest) depth zero found few enough off stops closed = let less = expr_shorter p in absurd (omega (arith, less, enough))
    exprs_again (AreExprs.next {us = vs} {e = e} {rest = after} p comma rest) depth (suc n) found few enough off stops closed =
        let less = expr_shorter p in let past = shorter vs comma in
        one_more (expr source depth) n found after (expr_of depth 7 less few (λ dd deep. chain_again p dd 7 (omega arith) deep (weaker_stop 7 8 vs (omega arith) (after_comma comma).0) (after_comma comma).1) (after_comma comma).0) comma
        (exprs_again rest depth n (found ++ e ∷ []) (omega (arith, less, past, few)) (omega (arith, less, past, enough)) off stops closed)

  -- a whole expression is read where nothing follows that would belong to it
  pub whole_expr_again : {ts us : List Token} {e : PlainExpr} → IsExpr source 7 ts us e → Stops 8 us → IsClosed us → whole_expr source ts ≡ Ok (e, us)
  unfolding whole_expr
  whole_expr_again {ts} {us} p stops closed = expr_of (length ts) 7 (expr_shorter p) (omega arith) (λ d enough. chain_again p d 7 (omega arith) enough (weaker_stop 7 8 us (omega arith) stops) closed) stops
