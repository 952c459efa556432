-- What expressions and statements begin with, and how long they are.
use Rattle.std.proofs.Common.{◌≡◌, ◌∙◌, ◌⊎◌, inl, inr, ℕ, Bool, true, false, ◌||◌, List, Option, refl, sym, ap, subst}
use Rattle.sp_words.specs.declared.kind.BinOp.{BinOp}
use Rattle.sp_words.specs.declared.kind.Style.{Style}
use Rattle.sp_reader.specs.declared.syntax.expression.SynTy.{SynTy}
use Rattle.sp_reader.specs.declared.syntax.expression.SynUn.{SynUn}
use Rattle.sp_reader.specs.declared.token.Token.{Token}
use Rattle.sp_reader.specs.declared.token.TokenKind.{TokenKind}
use Rattle.sp_reader.specs.declared.token.TokenKind.TheVariants as k
use Rattle.sp_reader.specs.PlainTree.{PlainIdent, PlainExpr}
use Rattle.sp_reader.specs.PlainStatement.{PlainComb, PlainHead, PlainStmt, PlainStmts, PlainStmtKind}
use Rattle.sp_reader.specs.SimpleRules.{begins_statement}
use Rattle.sp_reader.specs.Steps.{Text, kind_of, tail_of, same_kind, sees, is_name}
use Rattle.sp_grammar.specs.Tokens.{Takes, IsName, IsOperator, IsSign, IsShift, times, divided, remainder, plus, less, less_than, at_most, above, at_least, equal, unequal, both, both_twice, either_one, either, either_twice, to_left, to_right}
use Rattle.sp_grammar.specs.Expressions.{IsExpr, IsPrefixed, IsPostfix, IsPrimary, IsTarget}
use Rattle.sp_grammar.specs.Statements.{IsStmt, IsKind, MayHaveStyle, IsBlock, IsCombining, IsStyle}
use Rattle.sp_grammar.proofs.Again.{kind_at, tail_at, sees_other, name_kind}
use Rattle.sp_grammar.proofs.Rules.{kind_is}

-- ---- by a test of kinds

-- a token of which a test holds is none of which it doesn't
pub other_by : (test : TokenKind → Bool) (wanted : TokenKind) (ts : List Token) → test (kind_of ts) ≡ true → test wanted ≡ false → sees wanted ts ≡ false
unfolding sees
other_by test wanted ts h off = go (same_kind (kind_of ts) wanted) refl
  where
    go : (b : Bool) → same_kind (kind_of ts) wanted ≡ b → b ≡ false
    go true e = let bad = sym h ∙ ap test (kind_is (kind_of ts) wanted e) ∙ off in absurd (cc)
    go false e = refl

abbrev pub begins_expr : TokenKind → Bool
begins_expr k.Minus = true
begins_expr k.Bang = true
begins_expr k.Tilde = true
begins_expr k.Number = true
begins_expr k.True = true
begins_expr k.False = true
begins_expr k.Mux = true
begins_expr k.Min = true
begins_expr k.Max = true
begins_expr k.OpenRound = true
begins_expr kind = is_name kind

name_begins : (kind : TokenKind) → is_name kind ≡ true → begins_expr kind ≡ true
name_begins k.Minus e = refl
name_begins k.Bang e = refl
name_begins k.Tilde e = refl
name_begins k.Number e = refl
name_begins k.True e = refl
name_begins k.False e = refl
name_begins k.Mux e = refl
name_begins k.Min e = refl
name_begins k.Max e = refl
name_begins k.OpenRound e = refl
name_begins kind e = e

-- no statement begins as an expression does, but for names
pub plain_begin : (kind : TokenKind) → begins_expr kind ≡ true → begins_statement kind ≡ false
plain_begin k.Val e = absurd (cc)
plain_begin k.Foreach e = absurd (cc)
plain_begin k.Reduce e = absurd (cc)
plain_begin k.Fold e = absurd (cc)
plain_begin k.MemReduce e = absurd (cc)
plain_begin k.Fsm e = absurd (cc)
plain_begin k.Sequential e = absurd (cc)
plain_begin k.Pipe e = absurd (cc)
plain_begin k.Parallel e = absurd (cc)
plain_begin k.Stream e = absurd (cc)
plain_begin k.If e = absurd (cc)
plain_begin _ e = refl

sign_begins : {kind : TokenKind} {op : SynUn} → IsSign kind op → (begins_expr kind ≡ true) × (is_name kind ≡ false)
sign_begins IsSign.minus = (refl, refl)
sign_begins IsSign.bang = (refl, refl)
sign_begins IsSign.tilde = (refl, refl)

-- what may not follow a name in an expression
abbrev pub follows_statement : TokenKind → Bool
follows_statement k.Assign = true
follows_statement k.Load = true
follows_statement k.Gather = true
follows_statement k.Equal = true
follows_statement k.Store = true
follows_statement k.Scatter = true
follows_statement k.OpenRound = true
follows_statement _ = false

-- neither does this follow, nor a dot with `enq`
abbrev pub IsClear : List Token → Type 0
IsClear us = (follows_statement (kind_of us) ≡ false) × (sees k.Dot us ≡ true → sees k.Enq (tail_of us) ≡ false)

clear_operator : {level : ℕ} {kind : TokenKind} {op : BinOp} → IsOperator level kind op → (follows_statement kind ≡ false) × (same_kind kind k.Dot ≡ false)
unfolding same_kind
clear_operator times = (refl, refl)
clear_operator divided = (refl, refl)
clear_operator remainder = (refl, refl)
clear_operator plus = (refl, refl)
clear_operator less = (refl, refl)
clear_operator less_than = (refl, refl)
clear_operator at_most = (refl, refl)
clear_operator above = (refl, refl)
clear_operator at_least = (refl, refl)
clear_operator equal = (refl, refl)
clear_operator unequal = (refl, refl)
clear_operator both = (refl, refl)
clear_operator both_twice = (refl, refl)
clear_operator either_one = (refl, refl)
clear_operator either = (refl, refl)
clear_operator either_twice = (refl, refl)

clear_shift : {kind : TokenKind} {left : Bool} → IsShift kind left → (follows_statement kind ≡ false) × (same_kind kind k.Dot ≡ false)
unfolding same_kind
clear_shift to_left = (refl, refl)
clear_shift to_right = (refl, refl)

clear_at : (kind : TokenKind) (us : List Token) → kind_of us ≡ kind → (follows_statement kind ≡ false) × (same_kind kind k.Dot ≡ false) → IsClear us
clear_at kind us e h = (ap follows_statement e ∙ h.0, λ dot. let bad = sym (sees_other kind k.Dot us e h.1) ∙ dot in absurd (cc))

-- the end of a statement
abbrev pub is_stmt_end : TokenKind → Bool
is_stmt_end k.Semicolon = true
is_stmt_end k.CloseCurly = true
is_stmt_end _ = false

clear_end_kind : (kind : TokenKind) (us : List Token) → kind_of us ≡ kind → is_stmt_end kind ≡ true → IsClear us
unfolding same_kind
clear_end_kind k.Semicolon us e h = clear_at k.Semicolon us e (refl, refl)
clear_end_kind k.CloseCurly us e h = clear_at k.CloseCurly us e (refl, refl)
clear_end_kind _ us e h = absurd (cc)

pub clear_end : (us : List Token) → is_stmt_end (kind_of us) ≡ true → IsClear us
clear_end us h = clear_end_kind (kind_of us) us refl h

abbrev pub begins_stmt : TokenKind → Bool
begins_stmt kind = begins_statement kind || is_name kind

module _ (source : Text) where
  -- the first operand of an expression is a name with what belongs to it, or begins with no name
  abbrev pub Leads : List Token → Type 0
  Leads ts = ((begins_expr (kind_of ts) ≡ true) × (is_name (kind_of ts) ≡ false)) ⊎ ((us : List Token) × (e : PlainExpr) × IsPrimary source ts us e × (is_name (kind_of ts) ≡ true) × IsClear us)

  starts_at : (kind : TokenKind) (ts : List Token) → kind_of ts ≡ kind → (begins_expr kind ≡ true) × (is_name kind ≡ false) → Leads ts
  starts_at kind ts e h = inl (ap begins_expr e ∙ h.0, ap is_name e ∙ h.1)

  leads_primary : {ts us : List Token} {e : PlainExpr} → IsPrimary source ts us e → IsClear us → Leads ts
  leads_primary {ts} (IsPrimary.a_number p) clear = starts_at k.Number ts (kind_at ts p.takes) (refl, refl)
  leads_primary {ts} (IsPrimary.yes p) clear = starts_at k.True ts (kind_at ts p) (refl, refl)
  leads_primary {ts} (IsPrimary.no p) clear = starts_at k.False ts (kind_at ts p) (refl, refl)
  leads_primary {ts} {us} {e} (IsPrimary.a_name p) clear = inr (us, e, IsPrimary.a_name p, name_kind source ts p, clear)
  leads_primary {ts} {us} {e} (IsPrimary.a_value p dot by) clear = inr (us, e, IsPrimary.a_value p dot by, name_kind source ts p, clear)
  leads_primary {ts} {us} {e} (IsPrimary.a_deq p dot by opened close) clear = inr (us, e, IsPrimary.a_deq p dot by opened close, name_kind source ts p, clear)
  leads_primary {ts} {us} {e} (IsPrimary.an_access p opened all close) clear = inr (us, e, IsPrimary.an_access p opened all close, name_kind source ts p, clear)
  leads_primary {ts} (IsPrimary.a_choice p opened x first y second z close) clear = starts_at k.Mux ts (kind_at ts p) (refl, refl)
  leads_primary {ts} (IsPrimary.a_least p opened x comma y close) clear = starts_at k.Min ts (kind_at ts p) (refl, refl)
  leads_primary {ts} (IsPrimary.a_greatest p opened x comma y close) clear = starts_at k.Max ts (kind_at ts p) (refl, refl)
  leads_primary {ts} (IsPrimary.in_parentheses p x close) clear = starts_at k.OpenRound ts (kind_at ts p) (refl, refl)

  clear_target : {us vs : List Token} {t : SynTy} → IsTarget source us vs t → IsClear us
  unfolding same_kind
  clear_target {us} (IsTarget.to {us = vs} dot to is) =
      (ap follows_statement (kind_at us dot), λ _. subst (λ xs. sees k.Enq xs ≡ false) (sym (tail_at us dot)) (sees_other k.To k.Enq vs (kind_at vs to) refl))

  leads_postfix : {ts us : List Token} {e : PlainExpr} → IsPostfix source ts us e → IsClear us → Leads ts
  leads_postfix {ts} (IsPostfix.negative word digits) clear = starts_at k.Minus ts (kind_at ts word) (refl, refl)
  leads_postfix (IsPostfix.primary p) clear = leads_primary p clear
  leads_postfix (IsPostfix.casted p is) clear = leads_postfix p (clear_target is)

  leads_prefixed : {ts us : List Token} {e : PlainExpr} → IsPrefixed source ts us e → IsClear us → Leads ts
  leads_prefixed (IsPrefixed.bare p) clear = leads_postfix p clear
  leads_prefixed {ts} (IsPrefixed.signed {kind = kind} is takes alone p) clear = starts_at kind ts (kind_at ts takes) (sign_begins is)

  pub leads : {level : ℕ} {ts us : List Token} {e : PlainExpr} → IsExpr source level ts us e → IsClear us → Leads ts
  leads (IsExpr.operand p) clear = leads_prefixed p clear
  leads (IsExpr.tighter p) clear = leads p clear
  leads (IsExpr.operation {kind = kind} {us = us} is p takes q) clear = leads p (clear_at kind us (kind_at us takes) (clear_operator is))
  leads (IsExpr.shifted {kind = kind} {us = us} is p takes q) clear = leads p (clear_at kind us (kind_at us takes) (clear_shift is))

  -- ---- what an expression begins with

  begins_primary : {ts us : List Token} {e : PlainExpr} → IsPrimary source ts us e → begins_expr (kind_of ts) ≡ true
  begins_primary {ts} (IsPrimary.a_number p) = ap begins_expr (kind_at ts p.takes)
  begins_primary {ts} (IsPrimary.yes p) = ap begins_expr (kind_at ts p)
  begins_primary {ts} (IsPrimary.no p) = ap begins_expr (kind_at ts p)
  begins_primary {ts} (IsPrimary.a_name p) = name_begins (kind_of ts) (name_kind source ts p)
  begins_primary {ts} (IsPrimary.a_value p dot by) = name_begins (kind_of ts) (name_kind source ts p)
  begins_primary {ts} (IsPrimary.a_deq p dot by opened close) = name_begins (kind_of ts) (name_kind source ts p)
  begins_primary {ts} (IsPrimary.an_access p opened all close) = name_begins (kind_of ts) (name_kind source ts p)
  begins_primary {ts} (IsPrimary.a_choice p opened x first y second z close) = ap begins_expr (kind_at ts p)
  begins_primary {ts} (IsPrimary.a_least p opened x comma y close) = ap begins_expr (kind_at ts p)
  begins_primary {ts} (IsPrimary.a_greatest p opened x comma y close) = ap begins_expr (kind_at ts p)
  begins_primary {ts} (IsPrimary.in_parentheses p x close) = ap begins_expr (kind_at ts p)

  begins_postfix : {ts us : List Token} {e : PlainExpr} → IsPostfix source ts us e → begins_expr (kind_of ts) ≡ true
  begins_postfix {ts} (IsPostfix.negative word digits) = ap begins_expr (kind_at ts word)
  begins_postfix (IsPostfix.primary p) = begins_primary p
  begins_postfix (IsPostfix.casted p is) = begins_postfix p

  pub begins : {level : ℕ} {ts us : List Token} {e : PlainExpr} → IsExpr source level ts us e → begins_expr (kind_of ts) ≡ true
  begins (IsExpr.operand (IsPrefixed.bare p)) = begins_postfix p
  begins {ts = ts} (IsExpr.operand (IsPrefixed.signed is takes alone p)) = ap begins_expr (kind_at ts takes) ∙ (sign_begins is).0
  begins (IsExpr.tighter p) = begins p
  begins (IsExpr.operation is p takes q) = begins p
  begins (IsExpr.shifted is p takes q) = begins p

  -- ---- what a statement begins with

  style_begins : {ts us : List Token} {s : Option Style} {word : TokenKind} {vs : List Token} → MayHaveStyle ts us s → begins_stmt word ≡ true → Takes word us vs → begins_stmt (kind_of ts) ≡ true
  style_begins {ts} MayHaveStyle.none h takes = ap begins_stmt (kind_at ts takes) ∙ h
  style_begins {ts} (MayHaveStyle.some IsStyle.pipe word dot) h takes = ap begins_stmt (kind_at ts word)
  style_begins {ts} (MayHaveStyle.some IsStyle.sequential word dot) h takes = ap begins_stmt (kind_at ts word)

  or_true : (a b : Bool) → b ≡ true → (a || b) ≡ true
  or_true true b e = refl
  or_true false b e = e

  combining_begins : {word : TokenKind} {make : PlainHead → PlainStmts → PlainIdent → PlainExpr → PlainComb → PlainStmtKind} → IsCombining word make → begins_stmt word ≡ true
  combining_begins IsCombining.reduces = refl
  combining_begins IsCombining.folds = refl
  combining_begins IsCombining.reduces_memories = refl

  by_name : (ts : List Token) {us : List Token} {i : PlainIdent} → IsName source ts us i → begins_stmt (kind_of ts) ≡ true
  by_name ts p = or_true (begins_statement (kind_of ts)) (is_name (kind_of ts)) (name_kind source ts p)

  kind_begins : {ts us : List Token} {s : PlainStmtKind} → IsKind source ts us s → begins_stmt (kind_of ts) ≡ true
  kind_begins {ts} (IsKind.a_val word i sign is) = ap begins_stmt (kind_at ts word)
  kind_begins {ts} (IsKind.a_set p word q) = by_name ts p
  kind_begins {ts} (IsKind.a_set_at p opened q close word r) = by_name ts p
  kind_begins {ts} (IsKind.an_enq p dot word opened q close) = by_name ts p
  kind_begins {ts} (IsKind.a_load p word q opened r close) = by_name ts p
  kind_begins {ts} (IsKind.a_store p opened q close word r) = by_name ts p
  kind_begins {ts} (IsKind.a_gather p word q opened r comma x close) = by_name ts p
  kind_begins {ts} (IsKind.a_scatter p opened q comma x close word r) = by_name ts p
  kind_begins {ts} (IsKind.a_block IsBlock.pipe takes p) = ap begins_stmt (kind_at ts takes)
  kind_begins {ts} (IsKind.a_block IsBlock.sequential takes p) = ap begins_stmt (kind_at ts takes)
  kind_begins {ts} (IsKind.a_block IsBlock.parallel takes p) = ap begins_stmt (kind_at ts takes)
  kind_begins {ts} (IsKind.a_block IsBlock.stream takes p) = ap begins_stmt (kind_at ts takes)
  kind_begins (IsKind.a_foreach has word p opened q arrow r close) = style_begins has refl word
  kind_begins (IsKind.a_combining is has word a acc b p opened q arrow r close comb) = style_begins has (combining_begins is) word
  kind_begins {ts} (IsKind.an_fsm word a start b c tested d opened i arrow all close e next f) = ap begins_stmt (kind_at ts word)
  kind_begins {ts} (IsKind.a_branch word a test b first second) = ap begins_stmt (kind_at ts word)

  pub stmt_begins : {ts us : List Token} {s : PlainStmt} → IsStmt source ts us s → begins_stmt (kind_of ts) ≡ true
  stmt_begins (IsStmt.stands p) = kind_begins p
