-- Declarations, writes and transfers of a printed text.
use Rattle.std.proofs.Common.{◌≡◌, ℕ, ◌<◌, nat_lt, true, false, List, [], ◌∷◌, ◌++◌, length, codes, refl, ap, subst, append_assoc, arith}
use Rattle.sp_words.specs.Names.{IsName as IsGoodName}
use Rattle.sp_tree.specs.Counts.{is_port}
use Rattle.sp_tree.specs.Declarations.{IsDeclaration}
use Rattle.sp_tree.specs.PlainExpression as expression
use Rattle.sp_tree.specs.PlainExpression.{PlainExpr, PlainExprs}
use Rattle.sp_tree.specs.PlainStatement as program
use Rattle.sp_reader.specs.declared.token.Token.{Token}
use Rattle.sp_reader.specs.declared.token.TokenKind.{TokenKind}
use Rattle.sp_reader.specs.declared.token.TokenKind.TheVariants as k
use Rattle.sp_reader.specs.PlainTree as tree
use Rattle.sp_reader.specs.PlainStatement as tree_of
use Rattle.sp_reader.specs.Steps.{Text}
use Rattle.sp_grammar.specs.Tokens.{Takes, IsName}
use Rattle.sp_grammar.specs.Expressions.{IsExpr}
use Rattle.sp_grammar.specs.Loops.{AreSpans}
use Rattle.sp_grammar.specs.Statements.{IsKind, IsBound}
use Rattle.sp_printer.specs.Body.{slice_text, places_text}
use Rattle.sp_printer.specs.Expressions.{whole_text, list_text}
use Rattle.sp_printer.specs.Names.{Names, mem_of, mem_name, val_name}
use Rattle.sp_printer.specs.Pieces.{mem_text, mem_type, mem_shape, spans_text}
use Rattle.sp_scanned.specs.From.{From, Begins, stops}
use Rattle.sp_scanned.proofs.Steps.{token_step, blank_step}
use Rattle.sp_scanned.proofs.Words.{keyword, sign, name_front}
use Rattle.sp_printed.specs.Trees.{IsTree}
use Rattle.sp_printed.specs.LoopTrees.{AreSpanTrees}
use Rattle.sp_printed.specs.StatementTrees.{IsStmtTree}
use Rattle.sp_printed.proofs.Takings.{moved, parted, takes, begins_with, begins_left, name_step, close_round, open_round, Printed, at_top}
use Rattle.sp_printed.proofs.Calls.{ExprReads, RowReads, row_reads}
use Rattle.sp_printed.proofs.Loops.{SpanHas, SpansHave, spans_read}
use Rattle.sp_printed.proofs.Declarations.{val_step, val_begins}
use Rattle.sp_printed.proofs.Memories.{bound_step}
use Rattle.sp_printed.proofs.Bodies.{StmtReads}

module _ (source : Text) (names : Names) (margin : Text) where
  name_begins : (w after rest : Text) → IsGoodName w → stops (after ++ rest) ≡ true → Begins ((w ++ after) ++ rest)
  name_begins w after rest good stop = let f = name_front w (after ++ rest) good stop in begins_left w after rest (begins_with f.fronts f.token.begins)

  -- ---- declarations

  mem_reads : (m : ℕ) → IsDeclaration (mem_of names m) → is_port (mem_of names m).kind ≡ false → Printed source (mem_text (mem_of names m)) (λ ts us s. IsKind source ts us s × IsStmtTree names (program.declare m) s)
  unfolding mem_text
  mem_reads m d port = record {
    begins = λ rest stop. val_begins (((mem_of names m).name ++ (codes " = " ++ (mem_type (mem_of names m).kind (mem_of names m).ty ++ mem_shape (mem_of names m).ty (mem_of names m).dims (mem_of names m).start))) ++ rest);
    reads = λ before brackets ts rest stop h.
        let mem = mem_of names m in
        let shape = mem_type mem.kind mem.ty ++ mem_shape mem.ty mem.dims mem.start in
        let v = val_step mem.name (shape ++ rest) d.name (moved (ap (λ (x : Text). codes "val " ++ x) (append_assoc mem.name (codes " = " ++ shape) rest)) h) in
        let b = bound_step mem v.name rest d port v.next in
        record { left = b.left; what = b.what; is = (IsKind.a_val v.val v.is v.equal b.is, IsStmtTree.declared (b.spells v.text)); last = b.last; ends = b.ends; next = b.next };
  }

  pub declare_reads : (m : ℕ) → m < length names.mems → IsDeclaration (mem_of names m) → is_port (mem_of names m).kind ≡ false → StmtReads source names margin (program.declare m)
  declare_reads m low d port =
      let there : nat_lt m (length names.mems) ≡ true = grind arith in
      subst (λ (x : Text). Printed source x (λ ts us s. IsKind source ts us s × IsStmtTree names (program.declare m) s)) (rw there refl) (mem_reads m d port)

  pub let_reads : (v : ℕ) (e : PlainExpr) → IsGoodName (val_name names v) → ExprReads source names 0 e → StmtReads source names margin (program.name v e)
  let_reads v e good f = record {
    begins = λ rest stop. val_begins ((val_name names v ++ (codes " = " ++ whole_text names e)) ++ rest);
    reads = λ before brackets ts rest stop h.
        let v = val_step (val_name names v) (whole_text names e ++ rest) good (moved (ap (λ (x : Text). codes "val " ++ x) (append_assoc (val_name names v) (codes " = " ++ whole_text names e) rest)) h) in
        let r = f.reads k.Equal brackets v.left rest stop v.next in
        record { left = r.left; what = tree_of.bind v.name r.what; is = (IsKind.a_val v.val v.is v.equal (IsBound.a_word (at_top source r.is.0)), IsStmtTree.bound v.text r.is.1); last = r.last; ends = r.ends; next = r.next };
  }

  -- ---- writes

  set_reads : (m : ℕ) (e : PlainExpr) (kind : program.PlainStmtKind) → IsGoodName (mem_name names m) → ExprReads source names 0 e
      → ((i : tree.PlainIdent) (x : tree.PlainExpr) → i.text ≡ mem_name names m → IsTree names e x → IsStmtTree names kind (tree_of.set i x))
      → Printed source (mem_name names m ++ (codes " := " ++ whole_text names e)) (λ ts us s. IsKind source ts us s × IsStmtTree names kind s)
  set_reads m e kind good f make = record {
    begins = λ rest stop. name_begins (mem_name names m) (codes " := " ++ whole_text names e) rest good refl;
    reads = λ before brackets ts rest stop h.
        let n = name_step (mem_name names m) (codes " := " ++ (whole_text names e ++ rest)) good refl (parted (mem_name names m) (codes " := " ++ whole_text names e) rest h) in
        let a = token_step (codes ":=") (codes " " ++ (whole_text names e ++ rest)) (blank_step (codes ":= " ++ (whole_text names e ++ rest)) n.next) (sign 58 (61 ∷ []) (codes " " ++ (whole_text names e ++ rest)) k.Assign refl refl) in
        let r = f.reads k.Assign brackets a.left rest stop (blank_step (whole_text names e ++ rest) a.next) in
        record { left = r.left; what = tree_of.set n.name r.what; is = (IsKind.a_set n.is (takes a) (at_top source r.is.0), make n.name r.what n.text r.is.1); last = r.last; ends = r.ends; next = r.next };
  }

  pub set_reg_reads : (m : ℕ) (e : PlainExpr) → IsGoodName (mem_name names m) → ExprReads source names 0 e → StmtReads source names margin (program.set_reg m e)
  set_reg_reads m e good f = set_reads m e (program.set_reg m e) good f (λ i x same t. IsStmtTree.reg_set same t)

  pub set_out_reads : (m : ℕ) (e : PlainExpr) → IsGoodName (mem_name names m) → ExprReads source names 0 e → StmtReads source names margin (program.set_out m e)
  set_out_reads m e good f = set_reads m e (program.set_out m e) good f (λ i x same t. IsStmtTree.out_set same t)

  pub set_sram_reads : (m : ℕ) (first : PlainExpr) (all : PlainExprs) (e : PlainExpr) → IsGoodName (mem_name names m) → ExprReads source names 0 first → RowReads source names all → ExprReads source names 0 e
      → StmtReads source names margin (program.set_sram m (expression.more_expr first all) e)
  set_sram_reads m first all e good g others f = record {
    begins = λ rest stop. name_begins (mem_name names m) (codes "(" ++ (list_text names true (expression.more_expr first all) ++ (codes ") = " ++ whole_text names e))) rest good refl;
    reads = λ before brackets ts rest stop h.
        let row = list_text names true (expression.more_expr first all) in
        let value = whole_text names e in
        let n = name_step (mem_name names m) (codes "(" ++ ((row ++ (codes ") = " ++ value)) ++ rest)) good refl (parted (mem_name names m) (codes "(" ++ (row ++ (codes ") = " ++ value))) rest h) in
        let a = open_round brackets ((row ++ (codes ") = " ++ value)) ++ rest) n.next in
        let r = row_reads source names first all g others k.OpenRound (brackets ++ k.OpenRound ∷ []) a.left (codes " = " ++ (value ++ rest)) (parted row (codes ") = " ++ value) rest a.next) in
        let c = close_round brackets (codes " = " ++ (value ++ rest)) r.next in
        let q = token_step (codes "=") (codes " " ++ (value ++ rest)) (blank_step (codes "= " ++ (value ++ rest)) c.next) (sign 61 [] (codes " " ++ (value ++ rest)) k.Equal refl refl) in
        let s = f.reads k.Equal brackets q.left rest stop (blank_step (value ++ rest) q.next) in
        record { left = s.left; what = tree_of.set_at n.name r.what s.what; is = (IsKind.a_set_at n.is (takes a) r.is.0 c.takes (takes q) (at_top source s.is.0), IsStmtTree.sram_set n.text r.is.1 s.is.1); last = s.last; ends = s.ends; next = s.next };
  }

  pub enq_reads : (m : ℕ) (e : PlainExpr) → IsGoodName (mem_name names m) → ExprReads source names 0 e → StmtReads source names margin (program.enq m e)
  enq_reads m e good f = record {
    begins = λ rest stop. name_begins (mem_name names m) (codes ".enq(" ++ (whole_text names e ++ codes ")")) rest good refl;
    reads = λ before brackets ts rest stop h.
        let inner = (whole_text names e ++ codes ")") ++ rest in
        let n = name_step (mem_name names m) (codes ".enq(" ++ inner) good refl (parted (mem_name names m) (codes ".enq(" ++ (whole_text names e ++ codes ")")) rest h) in
        let d = token_step (codes ".") (codes "enq(" ++ inner) n.next (sign 46 [] (codes "enq(" ++ inner) k.Dot refl refl) in
        let q = token_step (codes "enq") (codes "(" ++ inner) d.next (keyword (codes "enq") (codes "(" ++ inner) k.Enq refl refl refl) in
        let a = open_round brackets inner q.next in
        let r = f.reads k.OpenRound (brackets ++ k.OpenRound ∷ []) a.left (codes ")" ++ rest) refl (parted (whole_text names e) (codes ")") rest a.next) in
        let c = close_round brackets rest r.next in
        record { left = c.left; what = tree_of.enq n.name r.what; is = (IsKind.an_enq n.is (takes d) (takes q) (takes a) (at_top source r.is.0) c.takes, IsStmtTree.put n.text r.is.1); last = k.CloseRound; ends = refl; next = c.next };
  }

  -- ---- transfers

  record SliceTaken (m : ℕ) (spans : List program.PlainSpan) (brackets : List TokenKind) (rest : Text) (ts : List Token) : Type 0 where
    first : List Token
    second : List Token
    third : List Token
    left : List Token
    name : tree.PlainIdent
    all : List tree_of.PlainSpan
    is : IsName source ts first name
    text : name.text ≡ mem_name names m
    open_is : Takes k.OpenRound first second
    are : AreSpans source second third all
    spells : AreSpanTrees names spans all
    close_is : Takes k.CloseRound third left
    next : From source false k.CloseRound brackets rest left

  slice_step : {before : TokenKind} {brackets : List TokenKind} {ts : List Token} (m : ℕ) (s : program.PlainSpan) (all : List program.PlainSpan) (rest : Text) → IsGoodName (mem_name names m) → SpanHas source names s → SpansHave source names all
      → From source false before brackets (slice_text names m (s ∷ all) ++ rest) ts → SliceTaken m (s ∷ all) brackets rest ts
  slice_step {before} {brackets} {ts} m s all rest good f others h =
      let spans = spans_text names true (s ∷ all) in
      let n = name_step (mem_name names m) (codes "(" ++ ((spans ++ codes ")") ++ rest)) good refl (parted (mem_name names m) (codes "(" ++ (spans ++ codes ")")) rest h) in
      let a = open_round brackets ((spans ++ codes ")") ++ rest) n.next in
      let r = spans_read source names s all f others k.OpenRound (brackets ++ k.OpenRound ∷ []) a.left rest (parted spans (codes ")") rest a.next) in
      let c = close_round brackets rest r.next in
      record { first = n.left; second = a.left; third = r.left; left = c.left; name = n.name; all = r.what; is = n.is; text = n.text; open_is = takes a; are = r.is.0; spells = r.is.1; close_is = c.takes; next = c.next }

  load_reads : (chip dram : ℕ) (s : program.PlainSpan) (all : List program.PlainSpan) (kind : program.PlainStmtKind) → IsGoodName (mem_name names chip) → IsGoodName (mem_name names dram) → SpanHas source names s → SpansHave source names all
      → ((i j : tree.PlainIdent) (xs : List tree_of.PlainSpan) → i.text ≡ mem_name names chip → j.text ≡ mem_name names dram → AreSpanTrees names (s ∷ all) xs → IsStmtTree names kind (tree_of.load i j xs))
      → Printed source (mem_name names chip ++ (codes " load " ++ slice_text names dram (s ∷ all))) (λ ts us x. IsKind source ts us x × IsStmtTree names kind x)
  load_reads chip dram s all kind good outer f others make = record {
    begins = λ rest stop. name_begins (mem_name names chip) (codes " load " ++ slice_text names dram (s ∷ all)) rest good refl;
    reads = λ before brackets ts rest stop h.
        let slice = slice_text names dram (s ∷ all) ++ rest in
        let n = name_step (mem_name names chip) (codes " load " ++ slice) good refl (parted (mem_name names chip) (codes " load " ++ slice_text names dram (s ∷ all)) rest h) in
        let l = token_step (codes "load") (codes " " ++ slice) (blank_step (codes "load " ++ slice) n.next) (keyword (codes "load") (codes " " ++ slice) k.Load refl refl refl) in
        let r = slice_step dram s all rest outer f others (blank_step slice l.next) in
        record { left = r.left; what = tree_of.load n.name r.name r.all; is = (IsKind.a_load n.is (takes l) r.is r.open_is r.are r.close_is, make n.name r.name r.all n.text r.text r.spells); last = k.CloseRound; ends = refl; next = r.next };
  }

  pub load_sram_reads : (chip dram : ℕ) (s : program.PlainSpan) (all : List program.PlainSpan) → IsGoodName (mem_name names chip) → IsGoodName (mem_name names dram) → SpanHas source names s → SpansHave source names all
      → StmtReads source names margin (program.load_sram chip dram (s ∷ all))
  load_sram_reads chip dram s all good outer f others = load_reads chip dram s all (program.load_sram chip dram (s ∷ all)) good outer f others (λ i j xs a b c. IsStmtTree.sram_loaded a b c)

  pub load_line_reads : (chip dram : ℕ) (s : program.PlainSpan) (all : List program.PlainSpan) → IsGoodName (mem_name names chip) → IsGoodName (mem_name names dram) → SpanHas source names s → SpansHave source names all
      → StmtReads source names margin (program.load_line chip dram (s ∷ all))
  load_line_reads chip dram s all good outer f others = load_reads chip dram s all (program.load_line chip dram (s ∷ all)) good outer f others (λ i j xs a b c. IsStmtTree.line_loaded a b c)

  pub store_reads : (dram : ℕ) (s : program.PlainSpan) (all : List program.PlainSpan) (chip : ℕ) → IsGoodName (mem_name names dram) → IsGoodName (mem_name names chip) → SpanHas source names s → SpansHave source names all
      → StmtReads source names margin (program.store dram (s ∷ all) chip)
  store_reads dram s all chip outer good f others = record {
    begins = λ rest stop. begins_left (slice_text names dram (s ∷ all)) (codes " store " ++ mem_name names chip) rest
        (name_begins (mem_name names dram) (codes "(" ++ (spans_text names true (s ∷ all) ++ codes ")")) (codes " store " ++ (mem_name names chip ++ rest)) outer refl);
    reads = λ before brackets ts rest stop h.
        let name = mem_name names chip ++ rest in
        let r = slice_step dram s all (codes " store " ++ name) outer f others (parted (slice_text names dram (s ∷ all)) (codes " store " ++ mem_name names chip) rest h) in
        let l = token_step (codes "store") (codes " " ++ name) (blank_step (codes "store " ++ name) r.next) (keyword (codes "store") (codes " " ++ name) k.Store refl refl refl) in
        let n = name_step (mem_name names chip) rest good stop (blank_step name l.next) in
        record { left = n.left; what = tree_of.store r.name r.all n.name; is = (IsKind.a_store r.is r.open_is r.are r.close_is (takes l) n.is, IsStmtTree.stored r.text n.text r.spells); last = n.last; ends = n.ends; next = n.next };
  }

  record PlacesTaken (dram places : ℕ) (count : PlainExpr) (brackets : List TokenKind) (rest : Text) (ts : List Token) : Type 0 where
    first : List Token
    second : List Token
    third : List Token
    fourth : List Token
    fifth : List Token
    left : List Token
    outer : tree.PlainIdent
    inner : tree.PlainIdent
    value : tree.PlainExpr
    is : IsName source ts first outer
    outer_text : outer.text ≡ mem_name names dram
    open_is : Takes k.OpenRound first second
    is_too : IsName source second third inner
    inner_text : inner.text ≡ mem_name names places
    comma_is : Takes k.Comma third fourth
    value_is : IsExpr source 7 fourth fifth value
    spells : IsTree names count value
    close_is : Takes k.CloseRound fifth left
    next : From source false k.CloseRound brackets rest left

  places_step : {before : TokenKind} {brackets : List TokenKind} {ts : List Token} (dram places : ℕ) (count : PlainExpr) (rest : Text) → IsGoodName (mem_name names dram) → IsGoodName (mem_name names places) → ExprReads source names 0 count
      → From source false before brackets (places_text names dram places count ++ rest) ts → PlacesTaken dram places count brackets rest ts
  places_step {before} {brackets} {ts} dram places count rest outer good f h =
      let value = whole_text names count ++ codes ")" in
      let more = codes ", " ++ value in
      let n = name_step (mem_name names dram) (codes "(" ++ ((mem_name names places ++ more) ++ rest)) outer refl (parted (mem_name names dram) (codes "(" ++ (mem_name names places ++ more)) rest h) in
      let a = open_round brackets ((mem_name names places ++ more) ++ rest) n.next in
      let i = name_step (mem_name names places) (codes ", " ++ (value ++ rest)) good refl (parted (mem_name names places) more rest a.next) in
      let c = token_step (codes ",") (codes " " ++ (value ++ rest)) i.next (sign 44 [] (codes " " ++ (value ++ rest)) k.Comma refl refl) in
      let r = f.reads k.Comma (brackets ++ k.OpenRound ∷ []) c.left (codes ")" ++ rest) refl (parted (whole_text names count) (codes ")") rest (blank_step (value ++ rest) c.next)) in
      let z = close_round brackets rest r.next in
      record { first = n.left; second = a.left; third = i.left; fourth = c.left; fifth = r.left; left = z.left; outer = n.name; inner = i.name; value = r.what; is = n.is; outer_text = n.text; open_is = takes a; is_too = i.is; inner_text = i.text; comma_is = takes c; value_is = at_top source r.is.0; spells = r.is.1; close_is = z.takes; next = z.next }

  pub gather_reads : (chip dram places : ℕ) (count : PlainExpr) → IsGoodName (mem_name names chip) → IsGoodName (mem_name names dram) → IsGoodName (mem_name names places) → ExprReads source names 0 count
      → StmtReads source names margin (program.gather chip dram places count)
  gather_reads chip dram places count good outer index f = record {
    begins = λ rest stop. name_begins (mem_name names chip) (codes " gather " ++ places_text names dram places count) rest good refl;
    reads = λ before brackets ts rest stop h.
        let slice = places_text names dram places count ++ rest in
        let n = name_step (mem_name names chip) (codes " gather " ++ slice) good refl (parted (mem_name names chip) (codes " gather " ++ places_text names dram places count) rest h) in
        let l = token_step (codes "gather") (codes " " ++ slice) (blank_step (codes "gather " ++ slice) n.next) (keyword (codes "gather") (codes " " ++ slice) k.Gather refl refl refl) in
        let r = places_step dram places count rest outer index f (blank_step slice l.next) in
        record { left = r.left; what = tree_of.gather n.name r.outer r.inner r.value; is = (IsKind.a_gather n.is (takes l) r.is r.open_is r.is_too r.comma_is r.value_is r.close_is, IsStmtTree.gathered n.text r.outer_text r.inner_text r.spells); last = k.CloseRound; ends = refl; next = r.next };
  }

  pub scatter_reads : (dram places : ℕ) (count : PlainExpr) (chip : ℕ) → IsGoodName (mem_name names dram) → IsGoodName (mem_name names places) → IsGoodName (mem_name names chip) → ExprReads source names 0 count
      → StmtReads source names margin (program.scatter dram places count chip)
  scatter_reads dram places count chip outer index good f = record {
    begins = λ rest stop. begins_left (places_text names dram places count) (codes " scatter " ++ mem_name names chip) rest
        (name_begins (mem_name names dram) (codes "(" ++ (mem_name names places ++ (codes ", " ++ (whole_text names count ++ codes ")")))) (codes " scatter " ++ (mem_name names chip ++ rest)) outer refl);
    reads = λ before brackets ts rest stop h.
        let name = mem_name names chip ++ rest in
        let r = places_step dram places count (codes " scatter " ++ name) outer index f (parted (places_text names dram places count) (codes " scatter " ++ mem_name names chip) rest h) in
        let l = token_step (codes "scatter") (codes " " ++ name) (blank_step (codes "scatter " ++ name) r.next) (keyword (codes "scatter") (codes " " ++ name) k.Scatter refl refl refl) in
        let n = name_step (mem_name names chip) rest good stop (blank_step name l.next) in
        record { left = n.left; what = tree_of.scatter r.outer r.inner r.value n.name; is = (IsKind.a_scatter r.is r.open_is r.is_too r.comma_is r.value_is r.close_is (takes l) n.is, IsStmtTree.scattered r.outer_text r.inner_text n.text r.spells); last = n.last; ends = n.ends; next = n.next };
  }
