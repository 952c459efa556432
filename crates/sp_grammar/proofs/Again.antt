-- What is spelled is read again: single tokens, names, numbers and types.
use Rattle.std.proofs.Common.{◌≡◌, ◌∙◌, ℕ, ◌<◌, Bool, true, false, nat_le, List, [], ◌∷◌, length, Some, None, Ok, refl, sym, ap, subst, arith}
use denote.Enum.Bare.{true_same}
use Rattle.sp_reader.specs.contracts.token.TokenKind.{the_type}
use Rattle.sp_reader.specs.declared.token.Token.{Token}
use Rattle.sp_reader.specs.declared.token.TokenKind.{TokenKind}
use Rattle.sp_reader.specs.declared.token.TokenKind.TheVariants as k
use Rattle.sp_reader.specs.declared.syntax.expression.SynTy.{SynTy}
use Rattle.sp_reader.specs.Names.{name, number, whole, count}
use Rattle.sp_reader.specs.PlainTree.{PlainIdent, PlainDigits, PlainLit, number_lit}
use Rattle.sp_reader.specs.Steps.{Text, kind_of, tail_of, same_kind, sees, skip, semicolons, is_name, spelling}
use Rattle.sp_reader.specs.TypeRules.{width, has_sign, fixed, ty, bracketed, target, number_literal, literal, dims}
use Rattle.sp_grammar.specs.Tokens.{Takes, IsBreak, MayBreak, IsName, IsNumber, IsWhole, IsCount, IsWidth}
use Rattle.sp_grammar.specs.Expressions.{IsSigned, IsType, IsBracketed, IsTarget, IsDims, IsSignedNumber, IsLiteral}

-- ---- the next token

pub kind_at : {kind : TokenKind} (ts : List Token) {us : List Token} → Takes kind ts us → kind_of ts ≡ kind
unfolding kind_of
kind_at ts takes = ap kind_of takes.is ∙ takes.of_kind

pub tail_at : {kind : TokenKind} (ts : List Token) {us : List Token} → Takes kind ts us → tail_of ts ≡ us
unfolding tail_of
tail_at ts takes = ap tail_of takes.is

pub shorter : {kind : TokenKind} (ts : List Token) {us : List Token} → Takes kind ts us → length us < length ts
shorter ts takes = let same = ap (λ (xs : List Token). length xs) takes.is in omega (arith, same)

pub kind_same : (a b : TokenKind) → a ≡ b → same_kind a b ≡ true
unfolding same_kind
kind_same a b e = true_same the_type a b e

pub sees_it : {kind : TokenKind} (ts : List Token) {us : List Token} → Takes kind ts us → sees kind ts ≡ true
unfolding sees
sees_it {kind} ts takes = kind_same (kind_of ts) kind (kind_at ts takes)

-- another kind comes next
pub sees_other : (kind wanted : TokenKind) (ts : List Token) → kind_of ts ≡ kind → same_kind kind wanted ≡ false → sees wanted ts ≡ false
unfolding sees
sees_other kind wanted ts e off = subst (λ x. same_kind x wanted ≡ false) (sym e) off

-- ---- steps

pub skip_it : {kind : TokenKind} {ts us : List Token} → Takes kind ts us → skip kind ts ≡ Ok (tt, us)
unfolding skip
skip_it {kind} {ts} {us} takes = rw (sees_it ts takes, tail_at ts takes) refl

-- ---- any number of `;`

pub semicolon : {ts us : List Token} → Takes k.Semicolon ts us → semicolons ts ≡ semicolons us
unfolding semicolons
semicolon takes = rw (takes.is, kind_same takes.token.kind k.Semicolon takes.of_kind) refl

pub past_break : {ts us : List Token} → IsBreak ts us → semicolons ts ≡ semicolons us
past_break (IsBreak.one takes) = semicolon takes
past_break (IsBreak.another takes more) = semicolon takes ∙ past_break more

pub past_breaks : {ts us : List Token} → MayBreak ts us → semicolons ts ≡ semicolons us
past_breaks MayBreak.none = refl
past_breaks (MayBreak.some some) = past_break some

pub no_semicolon : (ts : List Token) → sees k.Semicolon ts ≡ false → semicolons ts ≡ ts
unfolding semicolons sees kind_of
no_semicolon [] off = refl
no_semicolon (t ∷ ts) off = rw off refl

pub break_seen : {ts us : List Token} → IsBreak ts us → sees k.Semicolon ts ≡ true
break_seen {ts} (IsBreak.one takes) = sees_it ts takes
break_seen {ts} (IsBreak.another takes more) = sees_it ts takes

-- ---- names and numbers

module _ (source : Text) where
  pub name_kind : (ts : List Token) {us : List Token} {i : PlainIdent} → IsName source ts us i → is_name (kind_of ts) ≡ true
  unfolding kind_of
  name_kind ts h = ap (λ xs. is_name (kind_of xs)) h.is ∙ h.named

  pub name_tail : (ts : List Token) {us : List Token} {i : PlainIdent} → IsName source ts us i → tail_of ts ≡ us
  unfolding tail_of
  name_tail ts h = ap tail_of h.is

  pub name_shorter : (ts : List Token) {us : List Token} {i : PlainIdent} → IsName source ts us i → length us < length ts
  name_shorter ts h = let same = ap (λ (xs : List Token). length xs) h.is in omega (arith, same)

  pub name_again : (ts : List Token) {us : List Token} {i : PlainIdent} → IsName source ts us i → name source ts ≡ Ok (i, us)
  unfolding name kind_of tail_of
  name_again ts h = rw (h.is, h.named, h.spells) refl

  pub number_again : {at : ℕ} {negative : Bool} (ts : List Token) {us : List Token} {d : PlainDigits} → IsNumber source at negative ts us d → number source at negative ts ≡ Ok (d, us)
  unfolding number spelling kind_of tail_of sees
  number_again ts h = rw (h.takes.is, kind_same h.takes.token.kind k.Number h.takes.of_kind, h.part, h.spells) refl

  pub whole_again : {least most : ℕ} (ts : List Token) {us : List Token} {n : ℕ} → IsWhole source least most ts us n → whole source least most ts ≡ Ok (n, us)
  unfolding whole spelling kind_of tail_of sees
  whole_again {least} {most} ts {us} {n} h =
      let low : nat_le least n ≡ true = (let le = h.low in grind arith) in
      let high : nat_le n most ≡ true = (let le = h.high in grind arith) in
      rw (h.takes.is, kind_same h.takes.token.kind k.Number h.takes.of_kind, h.no_point, h.spells, low, high) refl

  pub count_again : (ts : List Token) {us : List Token} {n : ℕ} → IsCount source ts us n → count source ts ≡ Ok (n, us)
  unfolding count
  count_again ts h = whole_again ts h

  width_again : (ts : List Token) {us : List Token} {n : ℕ} → IsWidth source ts us n → width source ts ≡ Ok (n, us)
  unfolding width spelling kind_of tail_of sees
  width_again ts h = rw (h.takes.is, kind_same h.takes.token.kind k.Width h.takes.of_kind, h.spells) refl

  -- ---- types

  sign_again : {kind : TokenKind} {negative : Bool} {ts us : List Token} → IsSigned kind negative → Takes kind ts us → has_sign ts ≡ Ok (negative, us)
  unfolding has_sign same_kind
  sign_again {ts = ts} IsSigned.signed takes = rw (sees_it ts takes, tail_at ts takes) refl
  sign_again {ts = ts} IsSigned.unsigned takes = rw (sees_other k.Unsigned k.Signed ts (kind_at ts takes) refl, sees_it ts takes, tail_at ts takes) refl

  type_again : {ts us : List Token} {t : SynTy} → IsType source ts us t → ty source ts ≡ Ok (t, us)
  unfolding ty fixed same_kind
  type_again {ts} (IsType.an_int takes) = rw (sees_it ts takes, tail_at ts takes) refl
  type_again {ts} (IsType.a_bit takes) = rw (sees_other k.Bit k.Int ts (kind_at ts takes) refl, sees_it ts takes, tail_at ts takes) refl
  type_again {ts} (IsType.a_fixed {b = b} {d = d} {f = f} takes opened sign right first w second frac close) =
      rw (
        sees_other k.FixPt k.Int ts (kind_at ts takes) refl,
        sees_other k.FixPt k.Bit ts (kind_at ts takes) refl,
        sees_it ts takes,
        tail_at ts takes,
        skip_it opened,
        sign_again sign right,
        skip_it first,
        width_again d w,
        skip_it second,
        width_again f frac,
        skip_it close,
      ) refl

  pub bracketed_again : {ts us : List Token} {t : SynTy} → IsBracketed source ts us t → bracketed source ts ≡ Ok (t, us)
  unfolding bracketed
  bracketed_again (IsBracketed.in_brackets opened is close) = rw (skip_it opened, type_again is, skip_it close) refl

  -- a target begins with a dot, behind which it is read
  pub target_again : {ts us : List Token} {t : SynTy} → IsTarget source ts us t → (vs : List Token) × Takes k.Dot ts vs × (target source vs ≡ Ok (t, us))
  unfolding target
  target_again (IsTarget.to {us = us} dot to is) = (us, dot, rw (skip_it to, bracketed_again is) refl)

  -- ---- how long they are

  width_shorter : (ts : List Token) {us : List Token} {n : ℕ} → IsWidth source ts us n → length us < length ts
  width_shorter ts h = shorter ts h.takes

  pub type_shorter : {ts us : List Token} {t : SynTy} → IsType source ts us t → length us < length ts
  type_shorter {ts} (IsType.an_int takes) = shorter ts takes
  type_shorter {ts} (IsType.a_bit takes) = shorter ts takes
  type_shorter {ts} (IsType.a_fixed {a = a} {b = b} {c = c} {d = d} {e = e} {f = f} {g = g} takes opened sign right first w second frac close) =
      let i = shorter ts takes in let j = shorter a opened in let l = shorter b right in let m = shorter c first in let n = width_shorter d w in let o = shorter e second in let p = width_shorter f frac in let q = shorter g close in
      omega (arith, i, j, l, m, n, o, p, q)

  pub target_shorter : {ts us : List Token} {t : SynTy} → IsTarget source ts us t → length us < length ts
  target_shorter {ts} (IsTarget.to {us = us} {vs = vs} dot to (IsBracketed.in_brackets {us = xs} {vs = ys} opened is close)) =
      let i = shorter ts dot in let j = shorter us to in let l = shorter vs opened in let m = type_shorter is in let n = shorter ys close in omega (arith, i, j, l, m, n)

  -- what stands behind the dot of a target
  pub target_word : {ts us : List Token} {t : SynTy} → IsTarget source ts us t → (sees k.OpenRound ts ≡ false) × (sees k.Value (tail_of ts) ≡ false) × (sees k.Deq (tail_of ts) ≡ false)
  unfolding same_kind
  target_word {ts} (IsTarget.to {us = us} dot to is) =
      let word = kind_at us to in
      let tail = tail_at ts dot in
      (sees_other k.Dot k.OpenRound ts (kind_at ts dot) refl, subst (λ xs. sees k.Value xs ≡ false) (sym tail) (sees_other k.To k.Value us word refl), subst (λ xs. sees k.Deq xs ≡ false) (sym tail) (sees_other k.To k.Deq us word refl))

  -- ---- dimensions and literals

  pub dims_again : {ts us : List Token} {ds : List ℕ} → IsDims source ts us ds → dims source ts ≡ Ok (ds, us)
  unfolding dims same_kind
  dims_again (IsDims.line {a = a} {b = b} opened x close) = rw (skip_it opened, count_again a x, sees_other k.CloseRound k.Comma b (kind_at b close) refl, skip_it close) refl
  dims_again (IsDims.plane {a = a} {b = b} {c = c} {d = d} opened x comma y close) =
      rw (skip_it opened, count_again a x, sees_it b comma, tail_at b comma, count_again c y, sees_other k.CloseRound k.Comma d (kind_at d close) refl, skip_it close) refl
  dims_again (IsDims.block {a = a} {b = b} {c = c} {d = d} {e = e} opened x first y second z close) =
      rw (skip_it opened, count_again a x, sees_it b first, tail_at b first, count_again c y, sees_it d second, tail_at d second, count_again e z, skip_it close) refl

  signed_again : {at : ℕ} {negative : Bool} (ts : List Token) {us : List Token} {d : PlainDigits} → IsNumber source at negative ts us d → sees k.Dot us ≡ false → number_literal source at negative ts ≡ Ok (number_lit d None, us)
  unfolding number_literal
  signed_again ts p off = rw (number_again ts p, off) refl

  typed_again : {at : ℕ} {negative : Bool} (ts : List Token) {us vs : List Token} {d : PlainDigits} {t : SynTy} → IsNumber source at negative ts us d → IsTarget source us vs t → number_literal source at negative ts ≡ Ok (number_lit d (Some t), vs)
  unfolding number_literal
  typed_again ts {us = us} p is = let target = target_again is in rw (number_again ts p, sees_it us target.1, tail_at us target.1, target.2) refl

  pub literal_again : {ts us : List Token} {l : PlainLit} → IsLiteral source ts us l → sees k.Dot us ≡ false → literal source ts ≡ Ok (l, us)
  unfolding literal same_kind
  literal_again {ts} (IsLiteral.yes p) off = rw (sees_it ts p, tail_at ts p) refl
  literal_again {ts} (IsLiteral.no p) off = rw (sees_other k.False k.True ts (kind_at ts p) refl, sees_it ts p, tail_at ts p) refl
  literal_again {ts} {us} (IsLiteral.untyped (IsSignedNumber.plain p)) off =
      let at = kind_at ts p.takes in
      rw (sees_other k.Number k.True ts at refl, sees_other k.Number k.False ts at refl, sees_other k.Number k.Minus ts at refl) (signed_again ts p off)
  literal_again {ts} {us} (IsLiteral.untyped (IsSignedNumber.negative {us = vs} word p)) off =
      let at = kind_at ts word in
      rw (sees_other k.Minus k.True ts at refl, sees_other k.Minus k.False ts at refl, sees_it ts word, tail_at ts word) (signed_again vs p off)
  literal_again {ts} (IsLiteral.typed (IsSignedNumber.plain p) is) off =
      let at = kind_at ts p.takes in
      rw (sees_other k.Number k.True ts at refl, sees_other k.Number k.False ts at refl, sees_other k.Number k.Minus ts at refl) (typed_again ts p is)
  literal_again {ts} (IsLiteral.typed (IsSignedNumber.negative {us = vs} word p) is) off =
      let at = kind_at ts word in
      rw (sees_other k.Minus k.True ts at refl, sees_other k.Minus k.False ts at refl, sees_it ts word, tail_at ts word) (typed_again vs p is)
