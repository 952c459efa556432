-- Expressions of a printed text, each by what its parts are read as.
use Rattle.std.proofs.Common.{◌≡◌, ℕ, suc, ◌+◌, ◌≤◌, ◌<◌, nat_lt, Bool, true, false, List, [], ◌∷◌, ◌++◌, codes, decimal, refl, ap, ◌∙◌, append_assoc, arith}
use Rattle.sp_words.specs.declared.kind.BinOp.{BinOp}
use Rattle.sp_words.specs.declared.kind.BinOp.TheVariants as op
use Rattle.sp_words.specs.declared.types.Ty.{Ty}
use Rattle.sp_words.specs.Names.{IsName as IsGoodName}
use Rattle.sp_tree.specs.PlainExpression as program
use Rattle.sp_tree.specs.PlainExpression.{PlainExpr, PlainExprKind, PlainExprs}
use Rattle.sp_reader.specs.declared.token.Token.{Token}
use Rattle.sp_reader.specs.declared.token.TokenKind.{TokenKind}
use Rattle.sp_reader.specs.declared.token.TokenKind.TheVariants as k
use Rattle.sp_reader.specs.PlainTree as tree
use Rattle.sp_reader.specs.Steps.{Text, place_of}
use Rattle.sp_grammar.specs.Tokens.{Takes}
use Rattle.sp_grammar.specs.Expressions.{IsExpr, IsPostfix, IsPrimary, AreExprs}
use Rattle.sp_printer.specs.Expressions.{op_level, op_sign, is_call, level, shift_sign, enclosed, expr_text, kind_text, list_text}
use Rattle.sp_printer.specs.Names.{Names, mem_name}
use Rattle.sp_scanned.specs.From.{From, Begins, stops}
use Rattle.sp_scanned.proofs.Steps.{token_step, blank_step}
use Rattle.sp_scanned.proofs.Words.{keyword, sign, name_front}
use Rattle.sp_printed.specs.Trees.{IsTree, AreTrees}
use Rattle.sp_printed.proofs.Takings.{parted, takes, begins_with, begins_left, name_step, close_round, open_round, Reads, Printed, Binds, at_level, at_top}
use Rattle.sp_printed.proofs.Values.{count_step}
use Rattle.sp_printed.proofs.Operators.{operator_stops, operator_step, shift_stops, shift_step}

module _ (source : Text) (names : Names) where
  -- an expression as it is read, where only those of this level or a greater one stand without parentheses
  abbrev pub IsRead : (least : ℕ) → PlainExpr → List Token → List Token → tree.PlainExpr → Type 0
  IsRead least e ts us x = Binds source least ts us x × IsTree names e x

  abbrev pub ExprReads : ℕ → PlainExpr → Type 0
  ExprReads least e = Printed source (expr_text names least e) (IsRead least e)

  abbrev pub KindReads : ℕ → Ty → PlainExprKind → Type 0
  KindReads place ty kind = Printed source (kind_text names ty kind) (IsRead (level kind) (program.expr place ty kind))

  -- ---- parentheses

  relaxed : {least most : ℕ} {ts us : List Token} {x : tree.PlainExpr} → least ≤ most → Binds source most ts us x → Binds source least ts us x
  relaxed low (Binds.tight x) = Binds.tight x
  relaxed low (Binds.loose n top few x) = Binds.loose n top (omega (arith, low, few)) x

  pub enclosed_reads : (least place : ℕ) (ty : Ty) (kind : PlainExprKind) → KindReads place ty kind → ExprReads least (program.expr place ty kind)
  enclosed_reads least place ty kind inner = go (nat_lt (level kind) least) refl
    where
      text : Text
      text = kind_text names ty kind

      go : (b : Bool) → nat_lt (level kind) least ≡ b → Printed source (enclosed b (kind_text names ty kind)) (IsRead least (program.expr place ty kind))
      go false is = record {
        begins = inner.begins;
        reads = λ before brackets ts rest stop h.
            let r = inner.reads before brackets ts rest stop h in
            let low : least ≤ level kind = grind arith in
            record { left = r.left; what = r.what; is = (relaxed low r.is.0, r.is.1); last = r.last; ends = r.ends; next = r.next };
      }
      go true is = record {
        begins = λ rest stop. begins_with (sign 40 [] ((kind_text names ty kind ++ codes ")") ++ rest) k.OpenRound refl refl) refl;
        reads = λ before brackets ts rest stop h.
            let a = open_round brackets ((kind_text names ty kind ++ codes ")") ++ rest) h in
            let r = inner.reads k.OpenRound (brackets ++ k.OpenRound ∷ []) a.left (codes ")" ++ rest) refl (parted (kind_text names ty kind) (codes ")") rest a.next) in
            let c = close_round brackets rest r.next in
            record {
              left = c.left;
              what = r.what;
              is = (Binds.tight (IsPostfix.primary (IsPrimary.in_parentheses (takes a) (at_top source r.is.0) c.takes)), r.is.1);
              last = k.CloseRound;
              ends = refl;
              next = c.next;
            };
      }

  -- ---- names

  -- a name alone
  pub name_reads : (e : PlainExpr) (w : Text) → IsGoodName w → ((at : ℕ) (i : tree.PlainIdent) → i.text ≡ w → IsTree names e (tree.expr at (tree.name i false))) → Printed source w (IsRead 9 e)
  name_reads e w good make = record {
    begins = λ rest stop. let f = name_front w rest good stop in begins_with f.fronts f.token.begins;
    reads = λ before brackets ts rest stop h.
        let n = name_step w rest good stop h in
        record { left = n.left; what = tree.expr n.name.place (tree.name n.name false); is = (Binds.tight (IsPostfix.primary (IsPrimary.a_name n.is)), make n.name.place n.name n.text); last = n.last; ends = n.ends; next = n.next };
  }

  name_begins : (w after rest : Text) → IsGoodName w → stops (after ++ rest) ≡ true → Begins ((w ++ after) ++ rest)
  name_begins w after rest good stop = let f = name_front w (after ++ rest) good stop in begins_left w after rest (begins_with f.fronts f.token.begins)

  pub deq_reads : (place m : ℕ) (ty : Ty) → IsGoodName (mem_name names m) → KindReads place ty (program.deq m)
  deq_reads place m ty good = record {
    begins = λ rest stop. name_begins (mem_name names m) (codes ".deq()") rest good refl;
    reads = λ before brackets ts rest stop h.
        let n = name_step (mem_name names m) (codes ".deq()" ++ rest) good refl (parted (mem_name names m) (codes ".deq()") rest h) in
        let a = token_step (codes ".") (codes "deq()" ++ rest) n.next (sign 46 [] (codes "deq()" ++ rest) k.Dot refl refl) in
        let b = token_step (codes "deq") (codes "()" ++ rest) a.next (keyword (codes "deq") (codes "()" ++ rest) k.Deq refl refl refl) in
        let c = open_round brackets (codes ")" ++ rest) b.next in
        let d = close_round brackets rest c.next in
        record {
          left = d.left;
          what = tree.expr n.name.place (tree.deq n.name);
          is = (Binds.tight (IsPostfix.primary (IsPrimary.a_deq n.is (takes a) (takes b) (takes c) d.takes)), IsTree.a_deq n.text);
          last = k.CloseRound;
          ends = refl;
          next = d.next;
        };
  }

  -- ---- accesses

  abbrev pub RowReads : PlainExprs → Type 0
  RowReads program.no_expr = Unit {0}
  RowReads (program.more_expr e rest) = ExprReads 0 e × RowReads rest

  abbrev pub IsRow : PlainExprs → List Token → List Token → List tree.PlainExpr → Type 0
  IsRow all ts us xs = AreExprs source ts us xs × AreTrees names all (tree.row xs)

  -- indices with commas between, before a bracket that closes
  pub row_reads : (e : PlainExpr) (all : PlainExprs) → ExprReads 0 e → RowReads all → (before : TokenKind) (brackets : List TokenKind) (ts : List Token) (rest : Text)
      → From source false before brackets ((expr_text names 0 e ++ list_text names false all) ++ (codes ")" ++ rest)) ts → Reads source brackets (codes ")" ++ rest) (IsRow (program.more_expr e all) ts)
  row_reads e program.no_expr first others before brackets ts rest h =
      let r = first.reads before brackets ts (codes ")" ++ rest) refl (parted (expr_text names 0 e) [] (codes ")" ++ rest) h) in
      record { left = r.left; what = r.what ∷ []; is = (AreExprs.last (at_top source r.is.0), AreTrees.more_trees r.is.1 AreTrees.no_trees); last = r.last; ends = r.ends; next = r.next }
  row_reads e (program.more_expr f all) first others before brackets ts rest h =
      let more = expr_text names 0 f ++ list_text names false all in
      let r = first.reads before brackets ts (codes ", " ++ (more ++ (codes ")" ++ rest))) refl (parted (expr_text names 0 e) (codes ", " ++ more) (codes ")" ++ rest) h) in
      let c = token_step (codes ",") (codes " " ++ (more ++ (codes ")" ++ rest))) r.next (sign 44 [] (codes " " ++ (more ++ (codes ")" ++ rest))) k.Comma refl refl) in
      let s = row_reads f all others.0 others.1 k.Comma brackets c.left rest (blank_step (more ++ (codes ")" ++ rest)) c.next) in
      record { left = s.left; what = r.what ∷ s.what; is = (AreExprs.next (at_top source r.is.0) (takes c) s.is.0, AreTrees.more_trees {all = tree.row s.what} r.is.1 s.is.1); last = s.last; ends = s.ends; next = s.next }

  pub element_reads : (place m : ℕ) (ty : Ty) (e : PlainExpr) (all : PlainExprs) → IsGoodName (mem_name names m) → ExprReads 0 e → RowReads all → KindReads place ty (program.get_sram m (program.more_expr e all))
  element_reads place m ty e all good first others = record {
    begins = λ rest stop. name_begins (mem_name names m) (codes "(" ++ ((expr_text names 0 e ++ list_text names false all) ++ codes ")")) rest good refl;
    reads = λ before brackets ts rest stop h.
        let inner = expr_text names 0 e ++ list_text names false all in
        let n = name_step (mem_name names m) (codes "(" ++ ((inner ++ codes ")") ++ rest)) good refl (parted (mem_name names m) (codes "(" ++ (inner ++ codes ")")) rest h) in
        let a = open_round brackets ((inner ++ codes ")") ++ rest) n.next in
        let r = row_reads e all first others k.OpenRound (brackets ++ k.OpenRound ∷ []) a.left rest (parted inner (codes ")") rest a.next) in
        let c = close_round brackets rest r.next in
        record {
          left = c.left;
          what = tree.expr n.name.place (tree.access n.name (tree.row r.what));
          is = (Binds.tight (IsPostfix.primary (IsPrimary.an_access n.is (takes a) r.is.0 c.takes)), IsTree.an_element n.text r.is.1);
          last = k.CloseRound;
          ends = refl;
          next = c.next;
        };
  }

  -- two expressions with a comma between, before a bracket that closes
  pub pair_reads : (a b : PlainExpr) → ExprReads 0 a → ExprReads 0 b → (before : TokenKind) (brackets : List TokenKind) (ts : List Token) (rest : Text)
      → From source false before brackets ((expr_text names 0 a ++ (codes ", " ++ (expr_text names 0 b ++ codes ")"))) ++ rest) ts
      → Reads source brackets (codes ")" ++ rest) {X = tree.PlainExpr × tree.PlainExpr} (λ us x. (vs ws : List Token) × IsExpr source 7 ts vs x.0 × Takes k.Comma vs ws × IsExpr source 7 ws us x.1 × IsTree names a x.0 × IsTree names b x.1)
  pair_reads a b first second before brackets ts rest h =
      let behind = expr_text names 0 b ++ codes ")" in
      let r = first.reads before brackets ts (codes ", " ++ (behind ++ rest)) refl (parted (expr_text names 0 a) (codes ", " ++ behind) rest h) in
      let c = token_step (codes ",") (codes " " ++ (behind ++ rest)) r.next (sign 44 [] (codes " " ++ (behind ++ rest)) k.Comma refl refl) in
      let s = second.reads k.Comma brackets c.left (codes ")" ++ rest) refl (parted (expr_text names 0 b) (codes ")") rest (blank_step (behind ++ rest) c.next)) in
      record { left = s.left; what = (r.what, s.what); is = (r.left, c.left, at_top source r.is.0, takes c, at_top source s.is.0, r.is.1, s.is.1); last = s.last; ends = s.ends; next = s.next }

  pub line_reads : (place m : ℕ) (ty : Ty) (row column : PlainExpr) → IsGoodName (mem_name names m) → ExprReads 0 row → ExprReads 0 column → KindReads place ty (program.get_line m row column)
  line_reads place m ty row column good first second = record {
    begins = λ rest stop. name_begins (mem_name names m) (codes "(" ++ (expr_text names 0 row ++ (codes ", " ++ (expr_text names 0 column ++ codes ")")))) rest good refl;
    reads = λ before brackets ts rest stop h.
        let inner = expr_text names 0 row ++ (codes ", " ++ (expr_text names 0 column ++ codes ")")) in
        let n = name_step (mem_name names m) (codes "(" ++ (inner ++ rest)) good refl (parted (mem_name names m) (codes "(" ++ inner) rest h) in
        let a = open_round brackets (inner ++ rest) n.next in
        let r = pair_reads row column first second k.OpenRound (brackets ++ k.OpenRound ∷ []) a.left rest a.next in
        let c = close_round brackets rest r.next in
        record {
          left = c.left;
          what = tree.expr n.name.place (tree.access n.name (tree.row (r.what.0 ∷ r.what.1 ∷ [])));
          is = (Binds.tight (IsPostfix.primary (IsPrimary.an_access n.is (takes a) (AreExprs.next r.is.2 r.is.3 (AreExprs.last r.is.4)) c.takes)), IsTree.a_row_element n.text r.is.5 r.is.6);
          last = k.CloseRound;
          ends = refl;
          next = c.next;
        };
  }

  -- ---- operators

  pub operation_reads : (place : ℕ) (ty : Ty) (o : BinOp) (a b : PlainExpr) → is_call o ≡ false → ExprReads (op_level o) a → ExprReads (op_level o + 1) b
      → Printed source (expr_text names (op_level o) a ++ (op_sign o ++ expr_text names (op_level o + 1) b)) (IsRead (op_level o) (program.expr place ty (program.two o a b)))
  operation_reads place ty o a b no_call first second = record {
    begins = λ rest stop. begins_left (expr_text names (op_level o) a) (op_sign o ++ expr_text names (op_level o + 1) b) rest
        (first.begins ((op_sign o ++ expr_text names (op_level o + 1) b) ++ rest) (behind_stops rest));
    reads = λ before brackets ts rest stop h.
        let right = expr_text names (op_level o + 1) b in
        let r = first.reads before brackets ts ((op_sign o ++ right) ++ rest) (behind_stops rest) (parted (expr_text names (op_level o) a) (op_sign o ++ right) rest h) in
        let t = operator_step o (right ++ rest) no_call (parted (op_sign o) right rest r.next) in
        let s = second.reads t.kind brackets t.left rest stop t.next in
        record {
          left = s.left;
          what = tree.expr (tree.place_of_expr r.what) (tree.two o r.what s.what);
          is = (Binds.loose (suc t.level) (omega (arith, t.few)) (omega (arith, t.count)) (IsExpr.operation t.is (at_level source (suc t.level) (omega (arith, t.count)) r.is.0) t.takes (at_level source t.level (omega (arith, t.count)) s.is.0)), IsTree.operation no_call r.is.1 s.is.1);
          last = s.last;
          ends = s.ends;
          next = s.next;
        };
  }
    where
      behind_stops : (rest : Text) → stops ((op_sign o ++ expr_text names (op_level o + 1) b) ++ rest) ≡ true
      behind_stops rest = ap stops (append_assoc (op_sign o) (expr_text names (op_level o + 1) b) rest) ∙ operator_stops o (expr_text names (op_level o + 1) b ++ rest) no_call

  pub least_reads : (place : ℕ) (ty : Ty) (a b : PlainExpr) → ExprReads 0 a → ExprReads 0 b → KindReads place ty (program.two op.Min a b)
  least_reads place ty a b first second = record {
    begins = λ rest stop. begins_with (keyword (codes "min") (codes "(" ++ ((expr_text names 0 a ++ (codes ", " ++ (expr_text names 0 b ++ codes ")"))) ++ rest)) k.Min refl refl refl) refl;
    reads = λ before brackets ts rest stop h.
        let inner = expr_text names 0 a ++ (codes ", " ++ (expr_text names 0 b ++ codes ")")) in
        let n = token_step (codes "min") (codes "(" ++ (inner ++ rest)) h (keyword (codes "min") (codes "(" ++ (inner ++ rest)) k.Min refl refl refl) in
        let o = open_round brackets (inner ++ rest) n.next in
        let r = pair_reads a b first second k.OpenRound (brackets ++ k.OpenRound ∷ []) o.left rest o.next in
        let c = close_round brackets rest r.next in
        record {
          left = c.left;
          what = tree.expr (place_of ts) (tree.min r.what.0 r.what.1);
          is = (Binds.tight (IsPostfix.primary (IsPrimary.a_least (takes n) (takes o) r.is.2 r.is.3 r.is.4 c.takes)), IsTree.least r.is.5 r.is.6);
          last = k.CloseRound;
          ends = refl;
          next = c.next;
        };
  }

  pub greatest_reads : (place : ℕ) (ty : Ty) (a b : PlainExpr) → ExprReads 0 a → ExprReads 0 b → KindReads place ty (program.two op.Max a b)
  greatest_reads place ty a b first second = record {
    begins = λ rest stop. begins_with (keyword (codes "max") (codes "(" ++ ((expr_text names 0 a ++ (codes ", " ++ (expr_text names 0 b ++ codes ")"))) ++ rest)) k.Max refl refl refl) refl;
    reads = λ before brackets ts rest stop h.
        let inner = expr_text names 0 a ++ (codes ", " ++ (expr_text names 0 b ++ codes ")")) in
        let n = token_step (codes "max") (codes "(" ++ (inner ++ rest)) h (keyword (codes "max") (codes "(" ++ (inner ++ rest)) k.Max refl refl refl) in
        let o = open_round brackets (inner ++ rest) n.next in
        let r = pair_reads a b first second k.OpenRound (brackets ++ k.OpenRound ∷ []) o.left rest o.next in
        let c = close_round brackets rest r.next in
        record {
          left = c.left;
          what = tree.expr (place_of ts) (tree.max r.what.0 r.what.1);
          is = (Binds.tight (IsPostfix.primary (IsPrimary.a_greatest (takes n) (takes o) r.is.2 r.is.3 r.is.4 c.takes)), IsTree.greatest r.is.5 r.is.6);
          last = k.CloseRound;
          ends = refl;
          next = c.next;
        };
  }

  pub two_reads : (place : ℕ) (ty : Ty) (o : BinOp) (a b : PlainExpr) → ((least : ℕ) → ExprReads least a) → ((least : ℕ) → ExprReads least b) → KindReads place ty (program.two o a b)
  two_reads place ty op.Min a b f g = least_reads place ty a b (f 0) (g 0)
  two_reads place ty op.Max a b f g = greatest_reads place ty a b (f 0) (g 0)
  two_reads place ty op.Or a b f g = operation_reads place ty op.Or a b refl (f 1) (g 2)
  two_reads place ty op.Xor a b f g = operation_reads place ty op.Xor a b refl (f 2) (g 3)
  two_reads place ty op.And a b f g = operation_reads place ty op.And a b refl (f 3) (g 4)
  two_reads place ty op.Eq a b f g = operation_reads place ty op.Eq a b refl (f 4) (g 5)
  two_reads place ty op.Ne a b f g = operation_reads place ty op.Ne a b refl (f 4) (g 5)
  two_reads place ty op.Lt a b f g = operation_reads place ty op.Lt a b refl (f 5) (g 6)
  two_reads place ty op.Le a b f g = operation_reads place ty op.Le a b refl (f 5) (g 6)
  two_reads place ty op.Gt a b f g = operation_reads place ty op.Gt a b refl (f 5) (g 6)
  two_reads place ty op.Ge a b f g = operation_reads place ty op.Ge a b refl (f 5) (g 6)
  two_reads place ty op.Add a b f g = operation_reads place ty op.Add a b refl (f 6) (g 7)
  two_reads place ty op.Sub a b f g = operation_reads place ty op.Sub a b refl (f 6) (g 7)
  two_reads place ty op.Mul a b f g = operation_reads place ty op.Mul a b refl (f 7) (g 8)
  two_reads place ty op.Div a b f g = operation_reads place ty op.Div a b refl (f 7) (g 8)
  two_reads place ty op.Rem a b f g = operation_reads place ty op.Rem a b refl (f 7) (g 8)

  pub shift_reads : (place : ℕ) (ty : Ty) (to_left : Bool) (a : PlainExpr) (by : ℕ) → by < 64 → ExprReads 5 a → KindReads place ty (program.shift to_left a by)
  shift_reads place ty to_left a by few first = record {
    begins = λ rest stop. begins_left (expr_text names 5 a) (shift_sign to_left ++ decimal by) rest (first.begins ((shift_sign to_left ++ decimal by) ++ rest) (behind_stops rest));
    reads = λ before brackets ts rest stop h.
        let r = first.reads before brackets ts ((shift_sign to_left ++ decimal by) ++ rest) (behind_stops rest) (parted (expr_text names 5 a) (shift_sign to_left ++ decimal by) rest h) in
        let t = shift_step to_left (decimal by ++ rest) (parted (shift_sign to_left) (decimal by) rest r.next) in
        let n = count_step by rest (omega (arith, few)) stop t.next in
        record {
          left = n.left;
          what = tree.expr (tree.place_of_expr r.what) (tree.shift to_left r.what by);
          is = (Binds.loose 3 (omega arith) (omega arith) (IsExpr.shifted t.is (at_level source 3 (omega arith) r.is.0) t.takes (n.is 0 63 (omega arith) (omega (arith, few)))), IsTree.shifted r.is.1);
          last = k.Number;
          ends = refl;
          next = n.next;
        };
  }
    where
      behind_stops : (rest : Text) → stops ((shift_sign to_left ++ decimal by) ++ rest) ≡ true
      behind_stops rest = ap stops (append_assoc (shift_sign to_left) (decimal by) rest) ∙ shift_stops to_left (decimal by ++ rest)

  pub mux_reads : (place : ℕ) (ty : Ty) (c a b : PlainExpr) → ExprReads 0 c → ExprReads 0 a → ExprReads 0 b → KindReads place ty (program.mux c a b)
  mux_reads place ty c a b test first second = record {
    begins = λ rest stop. begins_with (keyword (codes "mux") (codes "(" ++ ((expr_text names 0 c ++ (codes ", " ++ (expr_text names 0 a ++ (codes ", " ++ (expr_text names 0 b ++ codes ")"))))) ++ rest)) k.Mux refl refl refl) refl;
    reads = λ before brackets ts rest stop h.
        let inner = expr_text names 0 a ++ (codes ", " ++ (expr_text names 0 b ++ codes ")")) in
        let whole = expr_text names 0 c ++ (codes ", " ++ inner) in
        let n = token_step (codes "mux") (codes "(" ++ (whole ++ rest)) h (keyword (codes "mux") (codes "(" ++ (whole ++ rest)) k.Mux refl refl refl) in
        let o = open_round brackets (whole ++ rest) n.next in
        let q = test.reads k.OpenRound (brackets ++ k.OpenRound ∷ []) o.left (codes ", " ++ (inner ++ rest)) refl (parted (expr_text names 0 c) (codes ", " ++ inner) rest o.next) in
        let m = token_step (codes ",") (codes " " ++ (inner ++ rest)) q.next (sign 44 [] (codes " " ++ (inner ++ rest)) k.Comma refl refl) in
        let r = pair_reads a b first second k.Comma (brackets ++ k.OpenRound ∷ []) m.left rest (blank_step (inner ++ rest) m.next) in
        let d = close_round brackets rest r.next in
        record {
          left = d.left;
          what = tree.expr (place_of ts) (tree.mux q.what r.what.0 r.what.1);
          is = (Binds.tight (IsPostfix.primary (IsPrimary.a_choice (takes n) (takes o) (at_top source q.is.0) (takes m) r.is.2 r.is.3 r.is.4 d.takes)), IsTree.a_choice q.is.1 r.is.5 r.is.6);
          last = k.CloseRound;
          ends = refl;
          next = d.next;
        };
  }
