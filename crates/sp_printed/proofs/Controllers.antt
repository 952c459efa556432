-- Controllers of a printed text.
use Rattle.std.proofs.Common.{◌≡◌, ℕ, ◌≤◌, Bool, true, false, List, [], ◌∷◌, ◌++◌, length, codes, refl, sym, ap, subst, ◌∙◌, append_assoc}
use Rattle.sp_words.specs.declared.kind.Style.{Style}
use Rattle.sp_words.specs.declared.kind.Style.TheVariants as style
use Rattle.sp_words.specs.Names.{IsName as IsGoodName}
use Rattle.sp_tree.specs.declared.statement.Comb.{Comb}
use Rattle.sp_tree.specs.PlainExpression.{PlainExpr}
use Rattle.sp_tree.specs.PlainStatement as program
use Rattle.sp_tree.specs.Typing.{IsLoopStyle}
use Rattle.sp_reader.specs.declared.token.Token.{Token}
use Rattle.sp_reader.specs.declared.token.TokenKind.{TokenKind}
use Rattle.sp_reader.specs.declared.token.TokenKind.TheVariants as k
use Rattle.sp_reader.specs.PlainTree as tree
use Rattle.sp_reader.specs.PlainStatement as tree_of
use Rattle.sp_reader.specs.Steps.{Text}
use Rattle.sp_reader.specs.Tokens.{opened}
use Rattle.sp_grammar.specs.Tokens.{Takes, IsName}
use Rattle.sp_grammar.specs.Expressions.{IsExpr, IsPostfix, IsPrimary}
use Rattle.sp_grammar.specs.Statements.{IsKind, IsBlock, IsCombining, IsBraced, MayElse, IsArrow, head}
use Rattle.sp_printer.specs.Body.{body_text, deeper, block_head, foreach_head, reduce_head, mem_reduce_head, acc_head, end_text, comb_tail, reduce_tail, mem_reduce_tail, fsm_test, fsm_head, fsm_tail, if_head, else_text}
use Rattle.sp_printer.specs.Expressions.{whole_text}
use Rattle.sp_printer.specs.Names.{Names, mem_name, val_name}
use Rattle.sp_printer.specs.Pieces.{style_prefix, comb_text, loop_head}
use Rattle.sp_scanned.specs.From.{From, Fronts, Begins, stops}
use Rattle.sp_scanned.proofs.Steps.{token_step, blank_step, line_step}
use Rattle.sp_scanned.proofs.Words.{keyword, keyword_before, sign, name_front}
use Rattle.sp_printed.specs.Trees.{IsTree}
use Rattle.sp_printed.specs.LoopTrees.{IsHeadTree, IsCombTree}
use Rattle.sp_printed.specs.StatementTrees.{IsStmtTree, IsBodyTree}
use Rattle.sp_printed.proofs.Takings.{moved, parted, takes, begins_with, begins_left, name_step, close_round, close_curly, open_round, open_curly, Printed, Binds, at_top}
use Rattle.sp_printed.proofs.Calls.{ExprReads}
use Rattle.sp_printed.proofs.Loops.{CountersHave}
use Rattle.sp_printed.proofs.Heads.{loop_step, style_step, comb_step}
use Rattle.sp_printed.proofs.Bodies.{AreBlanks, BodyHas, StmtReads, closed_reads, valued_reads}

-- ---- blocks

record BlockTaken (source : Text) (s : Style) (brackets : List TokenKind) (rest : Text) (ts : List Token) : Type 0 where
  first : List Token
  left : List Token
  kind : TokenKind
  is : IsBlock kind s
  word_is : Takes kind ts first
  open_is : Takes k.OpenCurly first left
  next : From source true k.OpenCurly (brackets ++ k.OpenCurly ∷ []) rest left

block_begins : (s : Style) (rest : Text) → Begins (block_head s ++ rest)
unfolding block_head
block_begins style.Pipe rest = begins_with (keyword (codes "Pipe") (codes " {\n" ++ rest) k.Pipe refl refl refl) refl
block_begins style.Sequential rest = begins_with (keyword (codes "Sequential") (codes " {\n" ++ rest) k.Sequential refl refl refl) refl
block_begins style.Parallel rest = begins_with (keyword (codes "Parallel") (codes " {\n" ++ rest) k.Parallel refl refl refl) refl
block_begins style.Stream rest = begins_with (keyword (codes "Stream") (codes " {\n" ++ rest) k.Stream refl refl refl) refl

block_by : {source : Text} {before : TokenKind} {brackets : List TokenKind} {ts : List Token} (s : Style) (w : Text) (kind : TokenKind) (rest : Text) → IsBlock kind s → Fronts kind w (codes " {\n" ++ rest) → opened brackets kind ≡ brackets
    → From source false before brackets (w ++ (codes " {\n" ++ rest)) ts → BlockTaken source s brackets rest ts
block_by {source} {before} {brackets} {ts} s w kind rest is f plain h =
    let a = token_step w (codes " {\n" ++ rest) h f in
    let o = open_curly brackets (codes "\n" ++ rest) (blank_step (codes "{\n" ++ rest) (subst (λ x. From source false kind x (codes " {\n" ++ rest) a.left) plain a.next)) in
    record { first = a.left; left = o.left; kind = kind; is = is; word_is = takes a; open_is = takes o; next = line_step rest o.next }

block_step : {source : Text} {before : TokenKind} {brackets : List TokenKind} {ts : List Token} (s : Style) (rest : Text)
    → From source false before brackets (block_head s ++ rest) ts → BlockTaken source s brackets rest ts
unfolding block_head
block_step style.Pipe rest h = block_by style.Pipe (codes "Pipe") k.Pipe rest IsBlock.pipe (keyword (codes "Pipe") (codes " {\n" ++ rest) k.Pipe refl refl refl) refl h
block_step style.Sequential rest h = block_by style.Sequential (codes "Sequential") k.Sequential rest IsBlock.sequential (keyword (codes "Sequential") (codes " {\n" ++ rest) k.Sequential refl refl refl) refl h
block_step style.Parallel rest h = block_by style.Parallel (codes "Parallel") k.Parallel rest IsBlock.parallel (keyword (codes "Parallel") (codes " {\n" ++ rest) k.Parallel refl refl refl) refl h
block_step style.Stream rest h = block_by style.Stream (codes "Stream") k.Stream rest IsBlock.stream (keyword (codes "Stream") (codes " {\n" ++ rest) k.Stream refl refl refl) refl h

-- the style of a loop before its word
style_begins : (s : Style) (rest : Text) → IsLoopStyle s → Begins rest → Begins (style_prefix s ++ rest)
style_begins style.Pipe rest is b = b
style_begins style.Sequential rest is b = begins_with (keyword_before (codes "Sequential") (codes "." ++ rest) k.Sequential refl refl refl) refl
style_begins style.Parallel rest is b = absurd is
style_begins style.Stream rest is b = absurd is

module _ (source : Text) (names : Names) (margin : Text) (blank : AreBlanks margin) where
  -- a body behind its head, up to the end of it
  ended : (before_text body_part rest : Text) → (before_text ++ (body_part ++ (margin ++ codes "}"))) ++ rest ≡ before_text ++ (body_part ++ (margin ++ (codes "}" ++ rest)))
  ended head_text body_part rest =
      append_assoc head_text (body_part ++ (margin ++ codes "}")) rest
      ∙ ap (λ (x : Text). head_text ++ x) (append_assoc body_part (margin ++ codes "}") rest ∙ ap (λ (x : Text). body_part ++ x) (append_assoc margin (codes "}") rest))

  pub block_reads : (s : Style) (body : program.PlainStmts) → BodyHas source names (deeper margin) body → StmtReads source names margin (program.block s body)
  unfolding end_text
  block_reads s body has = record {
    begins = λ rest stop. begins_left (block_head s) (body_text names (deeper margin) body ++ (margin ++ codes "}")) rest (block_begins s ((body_text names (deeper margin) body ++ (margin ++ codes "}")) ++ rest));
    reads = λ before brackets ts rest stop h.
        let inner = body_text names (deeper margin) body in
        let a = block_step s (inner ++ (margin ++ (codes "}" ++ rest))) (moved (ended (block_head s) inner rest) h) in
        let b = closed_reads source names margin body rest blank has refl a.next in
        record { left = b.left; what = tree_of.block s (tree_of.body b.all); is = (IsKind.a_block a.is a.word_is (IsBraced.braced a.open_is b.is b.close_is), IsStmtTree.blocked b.spells); last = k.CloseCurly; ends = refl; next = b.next };
  }

  -- ---- loops

  pub foreach_reads : (s : Style) (counters : List program.PlainCounter) (body : program.PlainStmts) → IsLoopStyle s → (1 ≤ length counters) × (length counters ≤ 4) → CountersHave source names counters → BodyHas source names (deeper margin) body
      → StmtReads source names margin (program.foreach s counters body)
  unfolding end_text foreach_head loop_head
  foreach_reads s counters body is few has within = record {
    begins = λ rest stop.
        let tail = body_text names (deeper margin) body ++ (margin ++ codes "}") in
        begins_left (style_prefix s ++ (codes "Foreach" ++ loop_head names counters)) tail rest
        (begins_left (style_prefix s) (codes "Foreach" ++ loop_head names counters) (tail ++ rest)
        (style_begins s ((codes "Foreach" ++ loop_head names counters) ++ (tail ++ rest)) is (begins_with (keyword (codes "Foreach") (loop_head names counters ++ (tail ++ rest)) k.Foreach refl refl refl) refl)));
    reads = λ before brackets ts rest stop h.
        let inner = body_text names (deeper margin) body in
        let line = codes "Foreach" ++ loop_head names counters in
        let after = inner ++ (margin ++ (codes "}" ++ rest)) in
        let a = style_step s (line ++ after) is (parted (style_prefix s) line after (moved (ended (style_prefix s ++ line) inner rest) h)) in
        let w = token_step (codes "Foreach") (loop_head names counters ++ after) a.next (keyword (codes "Foreach") (loop_head names counters ++ after) k.Foreach refl refl refl) in
        let l = loop_step source names counters after few.0 few.1 has w.next in
        let b = closed_reads source names margin body rest blank within refl l.next in
        record {
          left = b.left;
          what = tree_of.foreach (head a.what l.counters_read l.binds_read) (tree_of.body b.all);
          is = (IsKind.a_foreach a.is (takes w) l.is_list l.curly l.are_binds l.arrow b.is b.close_is, IsStmtTree.looped (record { style_is = a.spells; counters_are = l.counters_are; binds_are = l.binds_are }) b.spells);
          last = k.CloseCurly;
          ends = refl;
          next = b.next;
        };
  }

  -- a loop that combines the values with which its body ends
  record Combining (kind : program.PlainStmtKind) (s : Style) (acc : ℕ) (counters : List program.PlainCounter) (body : program.PlainStmts) (c : Comb) (word : TokenKind) (Q : tree.PlainExpr → Type 0) : Type 0 where
    make : tree_of.PlainHead → tree_of.PlainStmts → tree.PlainIdent → tree.PlainExpr → tree_of.PlainComb → tree_of.PlainStmtKind
    is : IsCombining word make
    spells : (h : tree_of.PlainHead) (ss : tree_of.PlainStmts) (i : tree.PlainIdent) (x : tree.PlainExpr) (y : tree_of.PlainComb)
        → IsHeadTree names s counters h → i.text ≡ mem_name names acc → IsBodyTree names body ss → Q x → IsCombTree c y → IsStmtTree names kind (make h ss i x y)

  -- the value and what stands behind it
  valued : (head_text body_part value : Text) (c : Comb) (rest : Text)
      → (head_text ++ (body_part ++ (deeper margin ++ (value ++ (codes "\n" ++ ((margin ++ codes "}") ++ comb_text c)))))) ++ rest
      ≡ head_text ++ (body_part ++ (deeper margin ++ (value ++ (codes "\n" ++ (margin ++ (codes "}" ++ (comb_text c ++ rest)))))))
  valued head_text body_part value c rest =
      append_assoc head_text (body_part ++ (deeper margin ++ (value ++ (codes "\n" ++ ((margin ++ codes "}") ++ comb_text c))))) rest
      ∙ ap (λ (x : Text). head_text ++ x) (append_assoc body_part (deeper margin ++ (value ++ (codes "\n" ++ ((margin ++ codes "}") ++ comb_text c)))) rest
      ∙ ap (λ (x : Text). body_part ++ x) (append_assoc (deeper margin) (value ++ (codes "\n" ++ ((margin ++ codes "}") ++ comb_text c))) rest
      ∙ ap (λ (x : Text). deeper margin ++ x) (append_assoc value (codes "\n" ++ ((margin ++ codes "}") ++ comb_text c)) rest
      ∙ ap (λ (x : Text). value ++ (codes "\n" ++ x)) (append_assoc (margin ++ codes "}") (comb_text c) rest ∙ append_assoc margin (codes "}") (comb_text c ++ rest)))))

  combining_reads : (kind : program.PlainStmtKind) (s : Style) (acc : ℕ) (counters : List program.PlainCounter) (body : program.PlainStmts) (value : Text) (c : Comb) (w : Text) (word : TokenKind) (Q : tree.PlainExpr → Type 0)
      → Combining kind s acc counters body c word Q → ((x : Text) → Fronts word w (codes "(" ++ x)) → ((x : Text) → Begins (w ++ (codes "(" ++ x))) → ((b : List TokenKind) → opened b word ≡ b)
      → IsLoopStyle s → IsGoodName (mem_name names acc) → (1 ≤ length counters) × (length counters ≤ 4) → CountersHave source names counters → BodyHas source names (deeper margin) body → Printed source value (λ ts us x. IsExpr source 7 ts us x × Q x)
      → Printed source ((style_prefix s ++ (w ++ ((codes "(" ++ (mem_name names acc ++ codes ")")) ++ loop_head names counters))) ++ (body_text names (deeper margin) body ++ (deeper margin ++ (value ++ (codes "\n" ++ ((margin ++ codes "}") ++ comb_text c))))))
      (λ ts us x. IsKind source ts us x × IsStmtTree names kind x)
  unfolding loop_head
  combining_reads kind s acc counters body value c w word Q m front_is begin_is plain is good few has within f = record {
    begins = λ rest stop.
        let tail = body_text names (deeper margin) body ++ (deeper margin ++ (value ++ (codes "\n" ++ ((margin ++ codes "}") ++ comb_text c)))) in
        let line = (codes "(" ++ (mem_name names acc ++ codes ")")) ++ loop_head names counters in
        begins_left (style_prefix s ++ (w ++ line)) tail rest
        (begins_left (style_prefix s) (w ++ line) (tail ++ rest)
        (style_begins s ((w ++ line) ++ (tail ++ rest)) is (begins_left w line (tail ++ rest) (begin_is ((((mem_name names acc ++ codes ")") ++ loop_head names counters) ++ (tail ++ rest)))))));
    reads = λ before brackets ts rest stop h.
        let inner = body_text names (deeper margin) body in
        let acc_part = mem_name names acc ++ codes ")" in
        let line = w ++ ((codes "(" ++ acc_part) ++ loop_head names counters) in
        let after = inner ++ (deeper margin ++ (value ++ (codes "\n" ++ (margin ++ (codes "}" ++ (comb_text c ++ rest)))))) in
        let a = style_step s (line ++ after) is (parted (style_prefix s) line after (moved (valued (style_prefix s ++ line) inner value c rest) h)) in
        let loop = loop_head names counters ++ after in
        let t = token_step w (codes "(" ++ ((acc_part ++ loop_head names counters) ++ after)) (parted w ((codes "(" ++ acc_part) ++ loop_head names counters) after a.next) (front_is ((acc_part ++ loop_head names counters) ++ after)) in
        let o = open_round brackets ((acc_part ++ loop_head names counters) ++ after) (subst (λ x. From source false word x (codes "(" ++ ((acc_part ++ loop_head names counters) ++ after)) t.left) (plain brackets) t.next) in
        let i = name_step (mem_name names acc) (codes ")" ++ loop) good refl (parted (mem_name names acc) (codes ")") loop (parted acc_part (loop_head names counters) after o.next)) in
        let z = close_round brackets loop i.next in
        let l = loop_step source names counters after few.0 few.1 has z.next in
        let b = valued_reads source names margin body value (comb_text c ++ rest) Q blank within f refl l.next in
        let y = comb_step c rest b.next in
        record {
          left = y.left;
          what = m.make (head a.what l.counters_read l.binds_read) (tree_of.body b.all) i.name b.value y.what;
          is = (
            IsKind.a_combining m.is a.is (takes t) (takes o) i.is z.takes l.is_list l.curly l.are_binds l.arrow b.is b.close_is y.is,
            m.spells (head a.what l.counters_read l.binds_read) (tree_of.body b.all) i.name b.value y.what (record { style_is = a.spells; counters_are = l.counters_are; binds_are = l.binds_are }) i.text b.spells b.value_spells y.spells,
          );
          last = k.CloseCurly;
          ends = refl;
          next = y.next;
        };
  }

  pub reduce_reads : (s : Style) (fold : Bool) (acc : ℕ) (counters : List program.PlainCounter) (body : program.PlainStmts) (word : PlainExpr) (c : Comb)
      → IsLoopStyle s → IsGoodName (mem_name names acc) → (1 ≤ length counters) × (length counters ≤ 4) → CountersHave source names counters → BodyHas source names (deeper margin) body → ExprReads source names 0 word
      → StmtReads source names margin (program.reduce s fold acc counters body word c)
  unfolding reduce_head acc_head reduce_tail comb_tail end_text
  reduce_reads s true acc counters body word c is good few has within f =
      combining_reads (program.reduce s true acc counters body word c) s acc counters body (whole_text names word) c (codes "Fold") k.Fold (λ x. IsTree names word x)
      (record { make = tree_of.fold; is = IsCombining.folds; spells = λ h ss i x y a b d e g. IsStmtTree.folded a b d e g })
      (λ x. keyword (codes "Fold") (codes "(" ++ x) k.Fold refl refl refl) (λ x. begins_with (keyword (codes "Fold") (codes "(" ++ x) k.Fold refl refl refl) refl) (λ b. refl) is good few has within
      (record { begins = f.begins; reads = λ before brackets ts rest stop h. let r = f.reads before brackets ts rest stop h in record { left = r.left; what = r.what; is = (at_top source r.is.0, r.is.1); last = r.last; ends = r.ends; next = r.next } })
  reduce_reads s false acc counters body word c is good few has within f =
      combining_reads (program.reduce s false acc counters body word c) s acc counters body (whole_text names word) c (codes "Reduce") k.Reduce (λ x. IsTree names word x)
      (record { make = tree_of.reduce; is = IsCombining.reduces; spells = λ h ss i x y a b d e g. IsStmtTree.reduced a b d e g })
      (λ x. keyword (codes "Reduce") (codes "(" ++ x) k.Reduce refl refl refl) (λ x. begins_with (keyword (codes "Reduce") (codes "(" ++ x) k.Reduce refl refl refl) refl) (λ b. refl) is good few has within
      (record { begins = f.begins; reads = λ before brackets ts rest stop h. let r = f.reads before brackets ts rest stop h in record { left = r.left; what = r.what; is = (at_top source r.is.0, r.is.1); last = r.last; ends = r.ends; next = r.next } })

  -- the memory that the value of a MemReduce names
  record IsPart (part : ℕ) (x : tree.PlainExpr) : Type 0 where
    at : ℕ
    name : tree.PlainIdent
    is : x ≡ tree.expr at (tree.name name false)
    text : name.text ≡ mem_name names part

  part_reads : (part : ℕ) → IsGoodName (mem_name names part) → Printed source (mem_name names part) (λ ts us x. IsExpr source 7 ts us x × IsPart part x)
  part_reads part good = record {
    begins = λ rest stop. let f = name_front (mem_name names part) rest good stop in begins_with f.fronts f.token.begins;
    reads = λ before brackets ts rest stop h.
        let n = name_step (mem_name names part) rest good stop h in
        let binds : Binds source 9 ts n.left (tree.expr n.name.place (tree.name n.name false)) = Binds.tight (IsPostfix.primary (IsPrimary.a_name n.is)) in
        record { left = n.left; what = tree.expr n.name.place (tree.name n.name false); is = (at_top source binds, record { at = n.name.place; name = n.name; is = refl; text = n.text }); last = n.last; ends = n.ends; next = n.next };
  }

  pub mem_reduce_reads : (s : Style) (acc : ℕ) (counters : List program.PlainCounter) (body : program.PlainStmts) (part : ℕ) (c : Comb)
      → IsLoopStyle s → IsGoodName (mem_name names acc) → (1 ≤ length counters) × (length counters ≤ 4) → CountersHave source names counters → BodyHas source names (deeper margin) body → IsGoodName (mem_name names part)
      → StmtReads source names margin (program.mem_reduce s acc counters body part c)
  unfolding mem_reduce_head acc_head mem_reduce_tail comb_tail end_text
  mem_reduce_reads s acc counters body part c is good few has within inner =
      combining_reads (program.mem_reduce s acc counters body part c) s acc counters body (mem_name names part) c (codes "MemReduce") k.MemReduce (IsPart part)
      (record {
        make = tree_of.mem_reduce;
        is = IsCombining.reduces_memories;
        spells = λ h ss i x y a b d e g. subst (λ v. IsStmtTree names (program.mem_reduce s acc counters body part c) (tree_of.mem_reduce h ss i v y)) (sym e.is) (IsStmtTree.mem_reduced a b d e.text g);
      })
      (λ x. keyword (codes "MemReduce") (codes "(" ++ x) k.MemReduce refl refl refl) (λ x. begins_with (keyword (codes "MemReduce") (codes "(" ++ x) k.MemReduce refl refl refl) refl) (λ b. refl) is good few has within
      (part_reads part inner)

  -- ---- state machines

  record ArrowTaken (v : ℕ) (e : PlainExpr) (brackets : List TokenKind) (rest : Text) (ts : List Token) : Type 0 where
    left : List Token
    name : tree.PlainIdent
    value : tree.PlainExpr
    is : IsArrow source ts left name value
    text : name.text ≡ val_name names v
    spells : IsTree names e value
    last : TokenKind
    next : From source false last brackets rest left

  arrow_step : {before : TokenKind} {brackets : List TokenKind} {ts : List Token} (v : ℕ) (e : PlainExpr) (rest : Text) → IsGoodName (val_name names v) → ExprReads source names 0 e → stops rest ≡ true
      → From source false before brackets (val_name names v ++ (codes " => " ++ (whole_text names e ++ rest))) ts → ArrowTaken v e brackets rest ts
  arrow_step {before} {brackets} {ts} v e rest good f stop h =
      let text = whole_text names e ++ rest in
      let n = name_step (val_name names v) (codes " => " ++ text) good refl h in
      let a = token_step (codes "=>") (codes " " ++ text) (blank_step (codes "=> " ++ text) n.next) (sign 61 (62 ∷ []) (codes " " ++ text) k.Arrow refl refl) in
      let r = f.reads k.Arrow brackets a.left rest stop (blank_step text a.next) in
      record { left = r.left; name = n.name; value = r.what; is = IsArrow.arrow n.is (takes a) (at_top source r.is.0); text = n.text; spells = r.is.1; last = r.last; next = r.next }

  record MachineTaken (start : PlainExpr) (tested : ℕ) (test : PlainExpr) (state : ℕ) (brackets : List TokenKind) (rest : Text) (ts : List Token) : Type 0 where
    a : List Token
    b : List Token
    c : List Token
    d : List Token
    e : List Token
    f : List Token
    g : List Token
    l : List Token
    m : List Token
    left : List Token
    begin : tree.PlainExpr
    first : tree.PlainIdent
    until : tree.PlainExpr
    second : tree.PlainIdent
    word_is : Takes k.Fsm ts a
    open_is : Takes k.OpenRound a b
    begin_is : IsExpr source 7 b c begin
    close_is : Takes k.CloseRound c d
    open_too : Takes k.OpenRound d e
    arrow_is : IsArrow source e f first until
    close_too : Takes k.CloseRound f g
    curly_is : Takes k.OpenCurly g l
    name_is : IsName source l m second
    behind_is : Takes k.Arrow m left
    begin_spells : IsTree names start begin
    first_text : first.text ≡ val_name names tested
    until_spells : IsTree names test until
    second_text : second.text ≡ val_name names state
    next : From source true k.Arrow (brackets ++ k.OpenCurly ∷ []) rest left

  machine_step : {before : TokenKind} {brackets : List TokenKind} {ts : List Token} (start : PlainExpr) (tested : ℕ) (test : PlainExpr) (state : ℕ) (rest : Text)
      → ExprReads source names 0 start → IsGoodName (val_name names tested) → ExprReads source names 0 test → IsGoodName (val_name names state)
      → From source false before brackets (fsm_head names start tested test state ++ rest) ts → MachineTaken start tested test state brackets rest ts
  unfolding fsm_head fsm_test
  machine_step {before} {brackets} {ts} start tested test state rest s good t other h =
      let line = val_name names state ++ (codes " =>" ++ codes "\n") in
      let condition = whole_text names test ++ codes "){ " in
      let arrow_part = val_name names tested ++ (codes " => " ++ condition) in
      let behind = (codes "(" ++ arrow_part) ++ line in
      let begin_part = whole_text names start ++ (codes ")" ++ behind) in
      let w = token_step (codes "FSM") (codes "(" ++ (begin_part ++ rest)) h (keyword (codes "FSM") (codes "(" ++ (begin_part ++ rest)) k.Fsm refl refl refl) in
      let o = open_round brackets (begin_part ++ rest) w.next in
      let r = s.reads k.OpenRound (brackets ++ k.OpenRound ∷ []) o.left (codes ")" ++ (behind ++ rest)) refl (parted (whole_text names start) (codes ")" ++ behind) rest o.next) in
      let z = close_round brackets (behind ++ rest) r.next in
      let p = open_round brackets ((arrow_part ++ line) ++ rest) z.next in
      let same : (arrow_part ++ line) ++ rest ≡ val_name names tested ++ (codes " => " ++ (whole_text names test ++ (codes "){ " ++ (line ++ rest)))) =
      append_assoc arrow_part line rest ∙ append_assoc (val_name names tested) (codes " => " ++ condition) (line ++ rest)
      ∙ ap (λ (x : Text). val_name names tested ++ (codes " => " ++ x)) (append_assoc (whole_text names test) (codes "){ ") (line ++ rest)) in
      let q = arrow_step tested test (codes "){ " ++ (line ++ rest)) good t refl (moved same p.next) in
      let y = close_round brackets (codes "{ " ++ (line ++ rest)) q.next in
      let u = open_curly brackets (codes " " ++ (line ++ rest)) y.next in
      let n = name_step (val_name names state) (codes " =>\n" ++ rest) other refl (parted (val_name names state) (codes " =>" ++ codes "\n") rest (blank_step (line ++ rest) u.next)) in
      let v = token_step (codes "=>") (codes "\n" ++ rest) (blank_step (codes "=>\n" ++ rest) n.next) (sign 61 (62 ∷ []) (codes "\n" ++ rest) k.Arrow refl refl) in
      record {
        a = w.left;
        b = o.left;
        c = r.left;
        d = z.left;
        e = p.left;
        f = q.left;
        g = y.left;
        l = u.left;
        m = n.left;
        left = v.left;
        begin = r.what;
        first = q.name;
        until = q.value;
        second = n.name;
        word_is = takes w;
        open_is = takes o;
        begin_is = at_top source r.is.0;
        close_is = z.takes;
        open_too = takes p;
        arrow_is = q.is;
        close_too = y.takes;
        curly_is = takes u;
        name_is = n.is;
        behind_is = takes v;
        begin_spells = r.is.1;
        first_text = q.text;
        until_spells = q.spells;
        second_text = n.text;
        next = line_step rest v.next;
      }

  fsm_begins : (start : PlainExpr) (tested : ℕ) (test : PlainExpr) (state : ℕ) (rest : Text) → Begins (fsm_head names start tested test state ++ rest)
  unfolding fsm_head
  fsm_begins start tested test state rest =
      let inner = (whole_text names start ++ (codes ")" ++ (fsm_test names tested test ++ (val_name names state ++ (codes " =>" ++ codes "\n"))))) ++ rest in
      begins_with (keyword (codes "FSM") (codes "(" ++ inner) k.Fsm refl refl refl) refl

  pub fsm_reads : (start : PlainExpr) (tested : ℕ) (test : PlainExpr) (state : ℕ) (body : program.PlainStmts) (last : ℕ) (next : PlainExpr)
      → ExprReads source names 0 start → IsGoodName (val_name names tested) → ExprReads source names 0 test → IsGoodName (val_name names state) → BodyHas source names (deeper margin) body → IsGoodName (val_name names last) → ExprReads source names 0 next
      → StmtReads source names margin (program.fsm start tested test state body last next)
  unfolding fsm_tail
  fsm_reads start tested test state body last next s good t other within third f = record {
    begins = λ rest stop. begins_left (fsm_head names start tested test state) (body_text names (deeper margin) body ++ (margin ++ fsm_tail names last next)) rest
        (fsm_begins start tested test state ((body_text names (deeper margin) body ++ (margin ++ fsm_tail names last next)) ++ rest));
    reads = λ before brackets ts rest stop h.
        let inner = body_text names (deeper margin) body in
        let value = whole_text names next ++ codes " }" in
        let name = val_name names last ++ (codes " => " ++ value) in
        let same : (fsm_head names start tested test state ++ (inner ++ (margin ++ (codes "}{ " ++ name)))) ++ rest ≡ fsm_head names start tested test state ++ (inner ++ (margin ++ (codes "}" ++ (codes "{ " ++ (name ++ rest))))) =
        append_assoc (fsm_head names start tested test state) (inner ++ (margin ++ (codes "}{ " ++ name))) rest
        ∙ ap (λ (x : Text). fsm_head names start tested test state ++ x) (append_assoc inner (margin ++ (codes "}{ " ++ name)) rest ∙ ap (λ (x : Text). inner ++ x) (append_assoc margin (codes "}{ " ++ name) rest)) in
        let m = machine_step start tested test state (inner ++ (margin ++ (codes "}" ++ (codes "{ " ++ (name ++ rest))))) s good t other (moved same h) in
        let b = closed_reads source names margin body (codes "{ " ++ (name ++ rest)) blank within refl m.next in
        let o = open_curly brackets (codes " " ++ (name ++ rest)) b.next in
        let arranged : name ++ rest ≡ val_name names last ++ (codes " => " ++ (whole_text names next ++ (codes " }" ++ rest))) =
        append_assoc (val_name names last) (codes " => " ++ value) rest ∙ ap (λ (x : Text). val_name names last ++ (codes " => " ++ x)) (append_assoc (whole_text names next) (codes " }") rest) in
        let q = arrow_step last next (codes " }" ++ rest) third f refl (moved arranged (blank_step (name ++ rest) o.next)) in
        let z = close_curly brackets rest (blank_step (codes "}" ++ rest) q.next) in
        record {
          left = z.left;
          what = tree_of.fsm m.begin m.first m.until m.second (tree_of.body b.all) q.name q.value;
          is = (
            IsKind.an_fsm m.word_is m.open_is m.begin_is m.close_is m.open_too m.arrow_is m.close_too m.curly_is m.name_is m.behind_is b.is b.close_is (takes o) q.is z.takes,
            IsStmtTree.machine m.begin_spells m.first_text m.until_spells m.second_text b.spells q.text q.spells,
          );
          last = k.CloseCurly;
          ends = refl;
          next = z.next;
        };
  }

  -- ---- branches

  record IfTaken (test : PlainExpr) (brackets : List TokenKind) (rest : Text) (ts : List Token) : Type 0 where
    a : List Token
    b : List Token
    c : List Token
    d : List Token
    left : List Token
    value : tree.PlainExpr
    word_is : Takes k.If ts a
    open_is : Takes k.OpenRound a b
    value_is : IsExpr source 7 b c value
    close_is : Takes k.CloseRound c d
    curly_is : Takes k.OpenCurly d left
    spells : IsTree names test value
    next : From source true k.OpenCurly (brackets ++ k.OpenCurly ∷ []) rest left

  if_begins : (test : PlainExpr) (rest : Text) → Begins (if_head names test ++ rest)
  unfolding if_head
  if_begins test rest = begins_with (keyword (codes "if") (codes " (" ++ ((whole_text names test ++ (codes ") {" ++ codes "\n")) ++ rest)) k.If refl refl refl) refl

  if_step : {before : TokenKind} {brackets : List TokenKind} {ts : List Token} (test : PlainExpr) (rest : Text) → ExprReads source names 0 test → From source false before brackets (if_head names test ++ rest) ts → IfTaken test brackets rest ts
  unfolding if_head
  if_step {before} {brackets} {ts} test rest f h =
      let condition = whole_text names test ++ (codes ") {" ++ codes "\n") in
      let w = token_step (codes "if") (codes " (" ++ (condition ++ rest)) h (keyword (codes "if") (codes " (" ++ (condition ++ rest)) k.If refl refl refl) in
      let o = open_round brackets (condition ++ rest) (blank_step (codes "(" ++ (condition ++ rest)) w.next) in
      let r = f.reads k.OpenRound (brackets ++ k.OpenRound ∷ []) o.left (codes ") {\n" ++ rest) refl (parted (whole_text names test) (codes ") {" ++ codes "\n") rest o.next) in
      let z = close_round brackets (codes " {\n" ++ rest) r.next in
      let u = open_curly brackets (codes "\n" ++ rest) (blank_step (codes "{\n" ++ rest) z.next) in
      record { a = w.left; b = o.left; c = r.left; d = z.left; left = u.left; value = r.what; word_is = takes w; open_is = takes o; value_is = at_top source r.is.0; close_is = z.takes; curly_is = takes u; spells = r.is.1; next = line_step rest u.next }

  short : (test : PlainExpr) (first : program.PlainStmts) → ExprReads source names 0 test → BodyHas source names (deeper margin) first
      → Printed source (if_head names test ++ (body_text names (deeper margin) first ++ (margin ++ codes "}"))) (λ ts us x. IsKind source ts us x × IsStmtTree names (program.branch test first program.no_stmt) x)
  short test first f within = record {
    begins = λ rest stop. begins_left (if_head names test) (body_text names (deeper margin) first ++ (margin ++ codes "}")) rest (if_begins test ((body_text names (deeper margin) first ++ (margin ++ codes "}")) ++ rest));
    reads = λ before brackets ts rest stop h.
        let inner = body_text names (deeper margin) first in
        let a = if_step test (inner ++ (margin ++ (codes "}" ++ rest))) f (moved (ended (if_head names test) inner rest) h) in
        let b = closed_reads source names margin first rest blank within refl a.next in
        record {
          left = b.left;
          what = tree_of.branch a.value (tree_of.body b.all) (tree_of.body []);
          is = (IsKind.a_branch a.word_is a.open_is a.value_is a.close_is (IsBraced.braced a.curly_is b.is b.close_is) MayElse.no_else, IsStmtTree.branched a.spells b.spells IsBodyTree.empty);
          last = k.CloseCurly;
          ends = refl;
          next = b.next;
        };
  }

  long : (test : PlainExpr) (first second : program.PlainStmts) → ExprReads source names 0 test → BodyHas source names (deeper margin) first → BodyHas source names (deeper margin) second
      → Printed source (if_head names test ++ (body_text names (deeper margin) first ++ ((margin ++ (codes "} else {" ++ codes "\n")) ++ (body_text names (deeper margin) second ++ (margin ++ codes "}")))))
      (λ ts us x. IsKind source ts us x × IsStmtTree names (program.branch test first second) x)
  long test first second f within within_too = record {
    begins = λ rest stop.
        let tail = body_text names (deeper margin) first ++ ((margin ++ (codes "} else {" ++ codes "\n")) ++ (body_text names (deeper margin) second ++ (margin ++ codes "}"))) in
        begins_left (if_head names test) tail rest (if_begins test (tail ++ rest));
    reads = λ before brackets ts rest stop h.
        let inner = body_text names (deeper margin) first in
        let other = body_text names (deeper margin) second in
        let middle = codes "} else {" ++ codes "\n" in
        let tail = (margin ++ middle) ++ (other ++ (margin ++ codes "}")) in
        let same : (if_head names test ++ (inner ++ tail)) ++ rest ≡ if_head names test ++ (inner ++ (margin ++ (codes "}" ++ (codes " else {\n" ++ (other ++ (margin ++ (codes "}" ++ rest))))))) =
        append_assoc (if_head names test) (inner ++ tail) rest
        ∙ ap (λ (x : Text). if_head names test ++ x) (append_assoc inner tail rest
        ∙ ap (λ (x : Text). inner ++ x) (append_assoc (margin ++ middle) (other ++ (margin ++ codes "}")) rest ∙ append_assoc margin middle ((other ++ (margin ++ codes "}")) ++ rest)
        ∙ ap (λ (x : Text). margin ++ (middle ++ x)) (append_assoc other (margin ++ codes "}") rest ∙ ap (λ (x : Text). other ++ x) (append_assoc margin (codes "}") rest)))) in
        let behind = other ++ (margin ++ (codes "}" ++ rest)) in
        let a = if_step test (inner ++ (margin ++ (codes "}" ++ (codes " else {\n" ++ behind)))) f (moved same h) in
        let b = closed_reads source names margin first (codes " else {\n" ++ behind) blank within refl a.next in
        let e = token_step (codes "else") (codes " {\n" ++ behind) (blank_step (codes "else {\n" ++ behind) b.next) (keyword (codes "else") (codes " {\n" ++ behind) k.Else refl refl refl) in
        let o = open_curly brackets (codes "\n" ++ behind) (blank_step (codes "{\n" ++ behind) e.next) in
        let d = closed_reads source names margin second rest blank within_too refl (line_step behind o.next) in
        record {
          left = d.left;
          what = tree_of.branch a.value (tree_of.body b.all) (tree_of.body d.all);
          is = (IsKind.a_branch a.word_is a.open_is a.value_is a.close_is (IsBraced.braced a.curly_is b.is b.close_is) (MayElse.an_else (takes e) (IsBraced.braced (takes o) d.is d.close_is)), IsStmtTree.branched a.spells b.spells d.spells);
          last = k.CloseCurly;
          ends = refl;
          next = d.next;
        };
  }

  pub branch_reads : (test : PlainExpr) (first second : program.PlainStmts) → ExprReads source names 0 test → BodyHas source names (deeper margin) first → BodyHas source names (deeper margin) second → StmtReads source names margin (program.branch test first second)
  unfolding else_text end_text
  branch_reads test first program.no_stmt f within within_too = short test first f within
  branch_reads test first (program.more_stmt s rest) f within within_too = long test first (program.more_stmt s rest) f within within_too
