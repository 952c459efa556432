-- Signs before an operand of a printed text, and casts behind one.
use Rattle.std.proofs.Common.{◌≡◌, ℕ, ◌≤◌, nat_lt, Bool, true, false, if◌then◌else◌, List, [], ◌++◌, codes, refl, sym, ap, ◌∙◌, arith}
use Rattle.sp_words.specs.declared.kind.BinOp.{BinOp}
use Rattle.sp_words.specs.declared.kind.BinOp.TheVariants as op
use Rattle.sp_words.specs.declared.kind.UnOp.{UnOp}
use Rattle.sp_words.specs.declared.kind.UnOp.TheVariants.{Neg, Not}
use Rattle.sp_words.specs.declared.types.FixTy.{FixTy}
use Rattle.sp_words.specs.declared.types.Ty.{Ty}
use Rattle.sp_reader.specs.declared.syntax.expression.SynTy.{SynTy}
use Rattle.sp_words.specs.declared.types.Ty.TheVariants.{Fix, Bit}
use Rattle.sp_tree.specs.PlainExpression as program
use Rattle.sp_tree.specs.PlainExpression.{PlainExpr, PlainExprKind, PlainExprs}
use Rattle.sp_reader.specs.declared.syntax.expression.SynUn.TheVariants.{Minus, Bang, Tilde}
use Rattle.sp_reader.specs.declared.token.Token.{Token}
use Rattle.sp_reader.specs.declared.token.TokenKind.{TokenKind}
use Rattle.sp_reader.specs.declared.token.TokenKind.TheVariants as k
use Rattle.sp_reader.specs.PlainTree as tree
use Rattle.sp_reader.specs.Steps.{Text, kind_of, place_of}
use Rattle.sp_grammar.specs.Tokens.{Takes, IsSign}
use Rattle.sp_grammar.specs.Expressions.{IsExpr, IsPrefixed, IsPostfix}
use Rattle.sp_printer.specs.Expressions.{op_level, level, starts_with_digit, type_before_cast, enclosed, expr_text, kind_text}
use Rattle.sp_printer.specs.Names.{Names}
use Rattle.sp_printer.specs.Types.{is_int_fix}
use Rattle.sp_printer.specs.Words.{cast_text}
use Rattle.sp_scanned.specs.From.{From}
use Rattle.sp_scanned.proofs.Steps.{token_step}
use Rattle.sp_scanned.proofs.Words.{sign}
use Rattle.sp_printed.specs.Trees.{IsTree, IsTypeTree}
use Rattle.sp_printed.proofs.Takings.{parted, takes, begins_with, begins_left, open_round, Printed, Binds, at_level}
use Rattle.sp_printed.proofs.Values.{target_step}
use Rattle.sp_printed.proofs.Operators.{bang}
use Rattle.sp_printed.proofs.Leads.{prefixed_leads, leads_digit}
use Rattle.sp_printed.proofs.Calls.{IsRead, ExprReads, KindReads}

operator_most : (o : BinOp) → op_level o ≤ 9
operator_most op.Or = omega arith
operator_most op.Xor = omega arith
operator_most op.And = omega arith
operator_most op.Eq = omega arith
operator_most op.Ne = omega arith
operator_most op.Lt = omega arith
operator_most op.Le = omega arith
operator_most op.Gt = omega arith
operator_most op.Ge = omega arith
operator_most op.Add = omega arith
operator_most op.Sub = omega arith
operator_most op.Mul = omega arith
operator_most op.Div = omega arith
operator_most op.Rem = omega arith
operator_most op.Min = omega arith
operator_most op.Max = omega arith

most_level : (kind : PlainExprKind) → level kind ≤ 9
most_level (program.literal w) = omega arith
most_level (program.counter c) = omega arith
most_level (program.value v) = omega arith
most_level (program.get_reg m) = omega arith
most_level (program.get_arg m) = omega arith
most_level (program.get_sram m indices) = omega arith
most_level (program.get_line m row column) = omega arith
most_level (program.deq m) = omega arith
most_level (program.one o a) = omega arith
most_level (program.two o a b) = operator_most o
most_level (program.shift left a by) = omega arith
most_level (program.mux c a b) = omega arith
most_level (program.cast a) = omega arith

kind_at : {kind : TokenKind} {ts us : List Token} → Takes kind ts us → kind_of ts ≡ kind
unfolding kind_of
kind_at t = ap kind_of t.is ∙ t.of_kind

module _ (source : Text) (names : Names) where
  as_prefixed : {ts us : List Token} {x : tree.PlainExpr} → IsExpr source 0 ts us x → IsPrefixed source ts us x
  as_prefixed (IsExpr.operand p) = p

  -- an operand in parentheses begins with one
  opens : {before : TokenKind} {brackets : List TokenKind} {ts : List Token} (a : PlainExpr) (rest : Text) → From source false before brackets (expr_text names 10 a ++ rest) ts → kind_of ts ≡ k.OpenRound
  opens {before} {brackets} {ts} (program.expr place ty kind) rest h = go (nat_lt (level kind) 10) few h
    where
      few : nat_lt (level kind) 10 ≡ true
      few = let most = most_level kind in grind arith

      go : (b : Bool) → b ≡ true → From source false before brackets (enclosed b (kind_text names ty kind) ++ rest) ts → kind_of ts ≡ k.OpenRound
      go true e h = kind_at (takes (open_round brackets ((kind_text names ty kind ++ codes ")") ++ rest) h))
      go false e h = absurd (cc)

  signed_reads : (place : ℕ) (ty : Ty) (least : ℕ) (a : PlainExpr) → 8 ≤ least → ExprReads source names least a
      → ((before : TokenKind) (brackets : List TokenKind) (ts us : List Token) (rest : Text) (x : tree.PlainExpr) → From source false before brackets (expr_text names least a ++ rest) ts → IsPrefixed source ts us x → IsTree names a x → kind_of ts ≡ k.Number → ⊥)
      → Printed source (codes "-" ++ expr_text names least a) (IsRead source names 8 (program.expr place ty (program.one Neg a)))
  signed_reads place ty least a high first never = record {
    begins = λ rest stop. begins_with (sign 45 [] (expr_text names least a ++ rest) k.Minus refl refl) refl;
    reads = λ before brackets ts rest stop h.
        let t = token_step (codes "-") (expr_text names least a ++ rest) h (sign 45 [] (expr_text names least a ++ rest) k.Minus refl refl) in
        let r = first.reads k.Minus brackets t.left rest stop t.next in
        let p = as_prefixed (at_level source 0 (omega (arith, high)) r.is.0) in
        record {
          left = r.left;
          what = tree.expr (place_of ts) (tree.one Minus r.what);
          is = (Binds.loose 0 (omega arith) (omega arith) (IsExpr.operand (IsPrefixed.signed IsSign.minus (takes t) (λ same number. never k.Minus brackets t.left r.left rest r.what t.next p r.is.1 number) p)), IsTree.negated r.is.1);
          last = r.last;
          ends = r.ends;
          next = r.next;
        };
  }

  minus_reads : (place : ℕ) (ty : Ty) (a : PlainExpr) → ((least : ℕ) → ExprReads source names least a) → KindReads source names place ty (program.one Neg a)
  minus_reads place ty a f = go (starts_with_digit a) refl
    where
      go : (b : Bool) → starts_with_digit a ≡ b → Printed source (codes "-" ++ expr_text names (if b then 10 else 8) a) (IsRead source names 8 (program.expr place ty (program.one Neg a)))
      go true is = signed_reads place ty 10 a (omega arith) (f 10) (λ before brackets ts us rest x h p t number. let bad : k.OpenRound ≡ k.Number = sym (opens a rest h) ∙ number in absurd (cc))
      go false is = signed_reads place ty 8 a (omega arith) (f 8) (λ before brackets ts us rest x h p t number. leads_digit names t is (prefixed_leads source p number))

  tilde_reads : (place : ℕ) (t : FixTy) (a : PlainExpr) → ExprReads source names 8 a → KindReads source names place (Fix t) (program.one Not a)
  tilde_reads place t a first = record {
    begins = λ rest stop. begins_with (sign 126 [] (expr_text names 8 a ++ rest) k.Tilde refl refl) refl;
    reads = λ before brackets ts rest stop h.
        let t = token_step (codes "~") (expr_text names 8 a ++ rest) h (sign 126 [] (expr_text names 8 a ++ rest) k.Tilde refl refl) in
        let r = first.reads k.Tilde brackets t.left rest stop t.next in
        record {
          left = r.left;
          what = tree.expr (place_of ts) (tree.one Tilde r.what);
          is = (Binds.loose 0 (omega arith) (omega arith) (IsExpr.operand (IsPrefixed.signed IsSign.tilde (takes t) (λ same number. absurd (cc)) (as_prefixed (at_level source 0 (omega arith) r.is.0)))), IsTree.turned r.is.1);
          last = r.last;
          ends = r.ends;
          next = r.next;
        };
  }

  bang_reads : (place : ℕ) (a : PlainExpr) → ExprReads source names 8 a → KindReads source names place Bit (program.one Not a)
  bang_reads place a first = record {
    begins = λ rest stop. begins_with (bang (expr_text names 8 a ++ rest) (first.begins rest stop)) refl;
    reads = λ before brackets ts rest stop h.
        let t = token_step (codes "!") (expr_text names 8 a ++ rest) h (bang (expr_text names 8 a ++ rest) (first.begins rest stop)) in
        let r = first.reads k.Bang brackets t.left rest stop t.next in
        record {
          left = r.left;
          what = tree.expr (place_of ts) (tree.one Bang r.what);
          is = (Binds.loose 0 (omega arith) (omega arith) (IsExpr.operand (IsPrefixed.signed IsSign.bang (takes t) (λ same number. absurd (cc)) (as_prefixed (at_level source 0 (omega arith) r.is.0)))), IsTree.denied r.is.1);
          last = r.last;
          ends = r.ends;
          next = r.next;
        };
  }

  pub one_reads : (place : ℕ) (ty : Ty) (o : UnOp) (a : PlainExpr) → ((least : ℕ) → ExprReads source names least a) → KindReads source names place ty (program.one o a)
  one_reads place ty Neg a f = minus_reads place ty a f
  one_reads place (Fix t) Not a f = tilde_reads place t a (f 8)
  one_reads place Bit Not a f = bang_reads place a (f 8)

  -- ---- casts

  as_postfix : {ts us : List Token} {x : tree.PlainExpr} → Binds source 9 ts us x → IsPostfix source ts us x
  as_postfix (Binds.tight x) = x
  as_postfix (Binds.loose n top low x) = absurd (omega (arith, low))

  plain_cast : (place : ℕ) (ty : Ty) (a : PlainExpr) → type_before_cast a ≡ [] → ExprReads source names 9 a
      → Printed source (expr_text names 9 a ++ ([] ++ cast_text ty)) (IsRead source names 9 (program.expr place ty (program.cast a)))
  plain_cast place ty a alone first = record {
    begins = λ rest stop. begins_left (expr_text names 9 a) (cast_text ty) rest (first.begins (cast_text ty ++ rest) refl);
    reads = λ before brackets ts rest stop h.
        let r = first.reads before brackets ts (cast_text ty ++ rest) refl (parted (expr_text names 9 a) (cast_text ty) rest h) in
        let c = target_step ty rest r.next in
        record {
          left = c.left;
          what = tree.expr (place_of ts) (tree.cast r.what c.tree);
          is = (Binds.tight (IsPostfix.casted (as_postfix r.is.0) c.is), IsTree.a_cast alone r.is.1 c.spells);
          last = k.CloseSquare;
          ends = refl;
          next = c.next;
        };
  }

  number_cast : {place place2 at at2 w : ℕ} {ty : Ty} {t : FixTy} {x : tree.PlainExpr} {inner target : SynTy} → is_int_fix t ≡ true → IsTree names (program.expr place2 (Fix t) (program.literal w)) x → IsTypeTree (Fix t) inner → IsTypeTree ty target
      → IsTree names (program.expr place ty (program.cast (program.expr place2 (Fix t) (program.literal w)))) (tree.expr at (tree.cast (tree.expr at2 (tree.cast x inner)) target))
  number_cast is (IsTree.a_number e l) (IsTypeTree.int e2) target = IsTree.a_cast_number is l target
  number_cast is (IsTree.a_number e l) (IsTypeTree.fixed e2) target = absurd (cc)
  number_cast is (IsTree.a_typed_number e l ty) inner target = absurd (cc)

  int_cast : (place place2 w : ℕ) (ty : Ty) (t : FixTy) → is_int_fix t ≡ true → ExprReads source names 9 (program.expr place2 (Fix t) (program.literal w))
      → Printed source (expr_text names 9 (program.expr place2 (Fix t) (program.literal w)) ++ (cast_text (Fix t) ++ cast_text ty)) (IsRead source names 9 (program.expr place ty (program.cast (program.expr place2 (Fix t) (program.literal w)))))
  int_cast place place2 w ty t is first = record {
    begins = λ rest stop. begins_left (expr_text names 9 (program.expr place2 (Fix t) (program.literal w))) (cast_text (Fix t) ++ cast_text ty) rest (first.begins ((cast_text (Fix t) ++ cast_text ty) ++ rest) refl);
    reads = λ before brackets ts rest stop h.
        let r = first.reads before brackets ts ((cast_text (Fix t) ++ cast_text ty) ++ rest) refl (parted (expr_text names 9 (program.expr place2 (Fix t) (program.literal w))) (cast_text (Fix t) ++ cast_text ty) rest h) in
        let b = target_step (Fix t) (cast_text ty ++ rest) (parted (cast_text (Fix t)) (cast_text ty) rest r.next) in
        let c = target_step ty rest b.next in
        record {
          left = c.left;
          what = tree.expr (place_of ts) (tree.cast (tree.expr (place_of ts) (tree.cast r.what b.tree)) c.tree);
          is = (Binds.tight (IsPostfix.casted (IsPostfix.casted (as_postfix r.is.0) b.is) c.is), number_cast is r.is.1 b.spells c.spells);
          last = k.CloseSquare;
          ends = refl;
          next = c.next;
        };
  }

  literal_cast : (place place2 w : ℕ) (ty from : Ty) → ExprReads source names 9 (program.expr place2 from (program.literal w)) → KindReads source names place ty (program.cast (program.expr place2 from (program.literal w)))
  literal_cast place place2 w ty (Fix t) first = go (is_int_fix t) refl
    where
      go : (b : Bool) → is_int_fix t ≡ b
          → Printed source (expr_text names 9 (program.expr place2 (Fix t) (program.literal w)) ++ ((if b then cast_text (Fix t) else []) ++ cast_text ty)) (IsRead source names 9 (program.expr place ty (program.cast (program.expr place2 (Fix t) (program.literal w)))))
      go true is = int_cast place place2 w ty t is first
      go false is = plain_cast place ty (program.expr place2 (Fix t) (program.literal w)) (rw is refl) first
  literal_cast place place2 w ty Bit first = plain_cast place ty (program.expr place2 Bit (program.literal w)) refl first

  pub cast_reads : (place : ℕ) (ty : Ty) (a : PlainExpr) → ExprReads source names 9 a → KindReads source names place ty (program.cast a)
  cast_reads place ty (program.expr place2 from (program.counter c)) first = plain_cast place ty (program.expr place2 from (program.counter c)) refl first
  cast_reads place ty (program.expr place2 from (program.value v)) first = plain_cast place ty (program.expr place2 from (program.value v)) refl first
  cast_reads place ty (program.expr place2 from (program.get_reg m)) first = plain_cast place ty (program.expr place2 from (program.get_reg m)) refl first
  cast_reads place ty (program.expr place2 from (program.get_arg m)) first = plain_cast place ty (program.expr place2 from (program.get_arg m)) refl first
  cast_reads place ty (program.expr place2 from (program.get_sram m indices)) first = plain_cast place ty (program.expr place2 from (program.get_sram m indices)) refl first
  cast_reads place ty (program.expr place2 from (program.get_line m row column)) first = plain_cast place ty (program.expr place2 from (program.get_line m row column)) refl first
  cast_reads place ty (program.expr place2 from (program.deq m)) first = plain_cast place ty (program.expr place2 from (program.deq m)) refl first
  cast_reads place ty (program.expr place2 from (program.one o b)) first = plain_cast place ty (program.expr place2 from (program.one o b)) refl first
  cast_reads place ty (program.expr place2 from (program.two o b d)) first = plain_cast place ty (program.expr place2 from (program.two o b d)) refl first
  cast_reads place ty (program.expr place2 from (program.shift left b by)) first = plain_cast place ty (program.expr place2 from (program.shift left b by)) refl first
  cast_reads place ty (program.expr place2 from (program.mux c b d)) first = plain_cast place ty (program.expr place2 from (program.mux c b d)) refl first
  cast_reads place ty (program.expr place2 from (program.cast b)) first = plain_cast place ty (program.expr place2 from (program.cast b)) refl first
  cast_reads place ty (program.expr place2 from (program.literal w)) first = literal_cast place place2 w ty from first
