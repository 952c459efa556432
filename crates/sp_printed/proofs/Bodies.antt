-- Lines of a printed text: its margins, the `;` that line ends insert, and the statements of a body.
use Rattle.std.proofs.Common.{◌≡◌, ℕ, ◌&&◌, Bool, true, false, if◌then◌else◌, List, [], ◌∷◌, ◌++◌, length, slice_get, length-append, Some, codes, refl, sym, ap, subst, ◌∙◌, append_assoc, arith}
use Rattle.sp_tree.specs.PlainStatement as program
use Rattle.sp_reader.specs.declared.token.Token.{Token}
use Rattle.sp_reader.specs.declared.token.TokenKind.{TokenKind}
use Rattle.sp_reader.specs.declared.token.TokenKind.TheVariants as k
use Rattle.sp_reader.specs.PlainTree as tree
use Rattle.sp_reader.specs.PlainStatement as tree_of
use Rattle.sp_reader.specs.Steps.{Text, place_of}
use Rattle.sp_reader.specs.Tokens.{may_end, may_split}
use Rattle.sp_grammar.specs.Tokens.{Takes, IsBreak, MayBreak}
use Rattle.sp_grammar.specs.Expressions.{IsExpr}
use Rattle.sp_grammar.specs.Statements.{IsStmt, IsKind, AreMore, AreStmts, AreValued, IsValued}
use Rattle.sp_printer.specs.Body.{deeper, stmt_text, body_text}
use Rattle.sp_printer.specs.Names.{Names}
use Rattle.sp_scanned.specs.From.{From, Begins, splits}
use Rattle.sp_scanned.proofs.Steps.{blank_step, line_step, unbroken, as_unbroken, broken}
use Rattle.sp_scanned.proofs.Words.{sign}
use Rattle.sp_printed.specs.StatementTrees.{IsStmtTree, IsBodyTree}
use Rattle.sp_printed.proofs.Takings.{moved, Closed, close_curly, Printed}

-- ---- margins

abbrev pub AreBlanks : Text → Type 0
AreBlanks [] = Unit {0}
AreBlanks (b ∷ rest) = (b ≡ 32) × AreBlanks rest

pub deeper_blanks : (margin : Text) → AreBlanks margin → AreBlanks (deeper margin)
deeper_blanks [] h = (refl, (refl, tt))
deeper_blanks (b ∷ margin) h = (h.0, deeper_blanks margin h.1)

pub margin_step : {source : Text} {breaks : Bool} {before : TokenKind} {brackets : List TokenKind} {ts : List Token} (margin rest : Text) → AreBlanks margin
    → From source breaks before brackets (margin ++ rest) ts → From source breaks before brackets rest ts
margin_step [] rest blank h = h
margin_step {source} {breaks} {before} {brackets} {ts} (b ∷ margin) rest blank h =
    margin_step margin rest blank.1 (blank_step (margin ++ rest) (subst (λ x. From source breaks before brackets (x ∷ (margin ++ rest)) ts) blank.0 h))

-- ---- line ends

-- between two statements a `;` is inserted
pub record Inserted (source : Text) (before : TokenKind) (brackets : List TokenKind) (rest : Text) (ts : List Token) : Type 0 where
  pub left : List Token
  pub is : IsBreak ts left
  pub next : From source false before brackets rest left

pub inserted : {source : Text} {before : TokenKind} {brackets : List TokenKind} {ts : List Token} (rest : Text) → Begins rest → may_end before ≡ true → splits brackets ≡ true
    → From source true before brackets rest ts → Inserted source before brackets rest ts
inserted {source} {before} {brackets} {ts} rest b ends may h =
    let is = broken h b.kind b.len b.some b.is in
    let semicolon : Token = record { kind = k.Semicolon; at = h.at; end = h.at } in
    let same : ts ≡ semicolon ∷ unbroken h = is ∙ rw (ends, b.begins, may) refl in
    record { left = unbroken h; is = IsBreak.one (record { token = semicolon; is = same; of_kind = refl }); next = as_unbroken h }

-- behind a bracket that opens and an arrow none is
pub not_behind : {source : Text} {before : TokenKind} {brackets : List TokenKind} {ts : List Token} (rest : Text) → Begins rest → may_end before ≡ false
    → From source true before brackets rest ts → From source false before brackets rest ts
not_behind {source} {before} {brackets} {ts} rest b never h =
    let is = broken h b.kind b.len b.some b.is in
    let same : ts ≡ unbroken h = is ∙ rw never refl in
    subst (λ x. From source false before brackets rest x) (sym same) (as_unbroken h)

-- nor before a bracket that closes
pub not_before : {source : Text} {before : TokenKind} {brackets : List TokenKind} {ts : List Token} (rest : Text)
    → From source true before brackets (codes "}" ++ rest) ts → From source false before brackets (codes "}" ++ rest) ts
not_before {source} {before} {brackets} {ts} rest h =
    let f = sign 125 [] rest k.CloseCurly refl refl in
    let is = broken h k.CloseCurly 1 (omega arith) f.is in
    let same : ts ≡ unbroken h = is ∙ no_insertion (may_end before) (splits brackets) in
    subst (λ x. From source false before brackets (codes "}" ++ rest) x) (sym same) (as_unbroken h)
  where
    no_insertion : (a b : Bool) → (if a && false && b then record { kind = k.Semicolon; at = h.at; end = h.at } ∷ unbroken h else unbroken h) ≡ unbroken h
    no_insertion true b = refl
    no_insertion false b = refl

-- ---- the statements of a body

module _ (source : Text) (names : Names) where
  abbrev pub StmtReads : Text → program.PlainStmtKind → Type 0
  StmtReads margin kind = Printed source (stmt_text names margin kind) (λ ts us s. IsKind source ts us s × IsStmtTree names kind s)

  abbrev pub BodyHas : Text → program.PlainStmts → Type 0
  BodyHas margin program.no_stmt = Unit {0}
  BodyHas margin (program.more_stmt (program.stmt place kind) rest) = StmtReads margin kind × BodyHas margin rest

  pub record MoreTaken (body : program.PlainStmts) (brackets : List TokenKind) (after : Text) (ts : List Token) : Type 0 where
    pub left : List Token
    pub all : List tree_of.PlainStmt
    pub is : AreMore source ts left all
    pub spells : IsBodyTree names body (tree_of.body all)
    pub last : TokenKind
    pub ends : may_end last ≡ true
    pub next : From source true last brackets after left

  -- a line and what follows it
  lined : (margin text rest after : Text) → (margin ++ (text ++ (codes "\n" ++ rest))) ++ after ≡ margin ++ (text ++ (codes "\n" ++ (rest ++ after)))
  lined margin text rest after = append_assoc margin (text ++ (codes "\n" ++ rest)) after ∙ ap (λ (x : Text). margin ++ x) (append_assoc text (codes "\n" ++ rest) after)

  more_reads : (margin : Text) → AreBlanks margin → (place : ℕ) (kind : program.PlainStmtKind) (rest : program.PlainStmts) → StmtReads margin kind → BodyHas margin rest
      → (before : TokenKind) (brackets : List TokenKind) (ts : List Token) (after : Text) → splits brackets ≡ true
      → From source false before brackets (stmt_text names margin kind ++ (codes "\n" ++ (body_text names margin rest ++ after))) ts → MoreTaken (program.more_stmt (program.stmt place kind) rest) brackets after ts
  more_reads margin blank place kind program.no_stmt first others before brackets ts after may h =
      let r = first.reads before brackets ts (codes "\n" ++ after) refl h in
      record { left = r.left; all = tree_of.stmt (place_of ts) r.what ∷ []; is = AreMore.last_stmt (IsStmt.stands r.is.0); spells = IsBodyTree.more r.is.1 IsBodyTree.empty; last = r.last; ends = r.ends; next = line_step after r.next }
  more_reads margin blank place kind (program.more_stmt (program.stmt place2 kind2) rest) first others before brackets ts after may h =
      let behind = codes "\n" ++ (body_text names margin rest ++ after) in
      let text = stmt_text names margin kind2 in
      let r = first.reads before brackets ts (codes "\n" ++ ((margin ++ (text ++ (codes "\n" ++ body_text names margin rest))) ++ after)) refl h in
      let line = line_step ((margin ++ (text ++ (codes "\n" ++ body_text names margin rest))) ++ after) r.next in
      let here = margin_step margin (text ++ behind) blank (moved (lined margin text (body_text names margin rest) after) line) in
      let s = inserted (text ++ behind) (others.0.begins behind refl) r.ends may here in
      let q = more_reads margin blank place2 kind2 rest others.0 others.1 r.last brackets s.left after may s.next in
      record { left = q.left; all = tree_of.stmt (place_of ts) r.what ∷ q.all; is = AreMore.next_stmt (IsStmt.stands r.is.0) s.is q.is; spells = IsBodyTree.more r.is.1 q.spells; last = q.last; ends = q.ends; next = q.next }

  -- a body, if it has a statement
  data BodyTaken (body : program.PlainStmts) (before : TokenKind) (brackets : List TokenKind) (after : Text) (ts : List Token) : Type 0 where
    nothing : IsBodyTree names body tree_of.no_stmt → From source true before brackets after ts → BodyTaken body before brackets after ts
    something : MoreTaken body brackets after ts → BodyTaken body before brackets after ts

  body_reads : (margin : Text) → AreBlanks margin → (body : program.PlainStmts) → BodyHas margin body → (before : TokenKind) (brackets : List TokenKind) (ts : List Token) (after : Text) → splits brackets ≡ true → may_end before ≡ false
      → From source true before brackets (body_text names margin body ++ after) ts → BodyTaken body before brackets after ts
  body_reads margin blank program.no_stmt has before brackets ts after may never h = BodyTaken.nothing IsBodyTree.empty h
  body_reads margin blank (program.more_stmt (program.stmt place kind) rest) has before brackets ts after may never h =
      let behind = codes "\n" ++ (body_text names margin rest ++ after) in
      let text = stmt_text names margin kind in
      let here = margin_step margin (text ++ behind) blank (moved (lined margin text (body_text names margin rest) after) h) in
      BodyTaken.something (more_reads margin blank place kind rest has.0 has.1 before brackets ts after may (not_behind (text ++ behind) (has.0.begins behind refl) never here))

  -- up to the bracket that closes
  pub record ClosedTaken (body : program.PlainStmts) (brackets : List TokenKind) (rest : Text) (ts : List Token) : Type 0 where
    pub inner : List Token
    pub left : List Token
    pub all : List tree_of.PlainStmt
    pub is : AreStmts source ts inner all
    pub spells : IsBodyTree names body (tree_of.body all)
    pub close_is : Takes k.CloseCurly inner left
    pub next : From source false k.CloseCurly brackets rest left

  closing : {before : TokenKind} {brackets : List TokenKind} {ts : List Token} (margin rest : Text) → AreBlanks margin
      → From source true before (brackets ++ k.OpenCurly ∷ []) (margin ++ (codes "}" ++ rest)) ts → Closed source k.CloseCurly brackets rest ts
  closing {before} {brackets} {ts} margin rest blank h = close_curly brackets rest (not_before rest (margin_step margin (codes "}" ++ rest) blank h))

  inside_splits : (brackets : List TokenKind) → splits (brackets ++ k.OpenCurly ∷ []) ≡ true
  inside_splits brackets = ap (λ n. may_split (slice_get (brackets ++ k.OpenCurly ∷ []) n)) (omega (arith, length-append brackets (k.OpenCurly ∷ []))) ∙ ap may_split (last brackets)
    where
      last : (b : List TokenKind) → slice_get (b ++ k.OpenCurly ∷ []) (length b) ≡ Some k.OpenCurly
      last [] = refl
      last (x ∷ b) = last b

  closed_by : {before : TokenKind} {brackets : List TokenKind} {ts : List Token} (margin : Text) (body : program.PlainStmts) (rest : Text) → AreBlanks margin
      → BodyTaken body before (brackets ++ k.OpenCurly ∷ []) (margin ++ (codes "}" ++ rest)) ts → ClosedTaken body brackets rest ts
  closed_by {before} {brackets} {ts} margin body rest blank (BodyTaken.nothing spells h) =
      let z = closing margin rest blank h in
      record { inner = ts; left = z.left; all = []; is = AreStmts.no_stmts MayBreak.none; spells = spells; close_is = z.takes; next = z.next }
  closed_by {before} {brackets} {ts} margin body rest blank (BodyTaken.something m) =
      let z = closing margin rest blank m.next in
      record { inner = m.left; left = z.left; all = m.all; is = AreStmts.some_stmts MayBreak.none m.is MayBreak.none; spells = m.spells; close_is = z.takes; next = z.next }

  -- the statements of a body, and the bracket that closes it
  pub closed_reads : {before : TokenKind} {brackets : List TokenKind} {ts : List Token} (margin : Text) (body : program.PlainStmts) (rest : Text) → AreBlanks margin → BodyHas (deeper margin) body → may_end before ≡ false
      → From source true before (brackets ++ k.OpenCurly ∷ []) (body_text names (deeper margin) body ++ (margin ++ (codes "}" ++ rest))) ts → ClosedTaken body brackets rest ts
  closed_reads {before} {brackets} {ts} margin body rest blank has never h =
      closed_by margin body rest blank (body_reads (deeper margin) (deeper_blanks margin blank) body has before (brackets ++ k.OpenCurly ∷ []) ts (margin ++ (codes "}" ++ rest)) (inside_splits brackets) never h)

  -- ---- bodies that end in a value

  with_value : {ts us vs ws : List Token} {all : List tree_of.PlainStmt} {x : tree.PlainExpr} → AreMore source ts us all → IsBreak us vs → IsExpr source 7 vs ws x → AreValued source ts ws all x
  with_value (AreMore.last_stmt s) b x = AreValued.before_value s b (AreValued.value_alone x)
  with_value (AreMore.next_stmt s first rest) b x = AreValued.before_value s first (with_value rest b x)

  pub record ValuedTaken (body : program.PlainStmts) (Q : tree.PlainExpr → Type 0) (brackets : List TokenKind) (rest : Text) (ts : List Token) : Type 0 where
    pub inner : List Token
    pub left : List Token
    pub all : List tree_of.PlainStmt
    pub value : tree.PlainExpr
    pub is : IsValued source ts inner all value
    pub spells : IsBodyTree names body (tree_of.body all)
    pub value_spells : Q value
    pub close_is : Takes k.CloseCurly inner left
    pub next : From source false k.CloseCurly brackets rest left

  valued_by : {before : TokenKind} {brackets : List TokenKind} {ts : List Token} (margin : Text) (body : program.PlainStmts) (text rest : Text) (Q : tree.PlainExpr → Type 0) → AreBlanks margin
      → Printed source text (λ ts us x. IsExpr source 7 ts us x × Q x) → may_end before ≡ false
      → BodyTaken body before (brackets ++ k.OpenCurly ∷ []) (deeper margin ++ (text ++ (codes "\n" ++ (margin ++ (codes "}" ++ rest))))) ts → ValuedTaken body Q brackets rest ts
  valued_by {before} {brackets} {ts} margin body text rest Q blank value never (BodyTaken.nothing spells h) =
      let end = codes "\n" ++ (margin ++ (codes "}" ++ rest)) in
      let here = margin_step (deeper margin) (text ++ end) (deeper_blanks margin blank) h in
      let r = value.reads before (brackets ++ k.OpenCurly ∷ []) ts end refl (not_behind (text ++ end) (value.begins end refl) never here) in
      let z = closing margin rest blank (line_step (margin ++ (codes "}" ++ rest)) r.next) in
      record { inner = r.left; left = z.left; all = []; value = r.what; is = IsValued.valued MayBreak.none (AreValued.value_alone r.is.0) MayBreak.none; spells = spells; value_spells = r.is.1; close_is = z.takes; next = z.next }
  valued_by {before} {brackets} {ts} margin body text rest Q blank value never (BodyTaken.something m) =
      let end = codes "\n" ++ (margin ++ (codes "}" ++ rest)) in
      let here = margin_step (deeper margin) (text ++ end) (deeper_blanks margin blank) m.next in
      let s = inserted (text ++ end) (value.begins end refl) m.ends (inside_splits brackets) here in
      let r = value.reads m.last (brackets ++ k.OpenCurly ∷ []) s.left end refl s.next in
      let z = closing margin rest blank (line_step (margin ++ (codes "}" ++ rest)) r.next) in
      record { inner = r.left; left = z.left; all = m.all; value = r.what; is = IsValued.valued MayBreak.none (with_value m.is s.is r.is.0) MayBreak.none; spells = m.spells; value_spells = r.is.1; close_is = z.takes; next = z.next }

  pub valued_reads : {before : TokenKind} {brackets : List TokenKind} {ts : List Token} (margin : Text) (body : program.PlainStmts) (text rest : Text) (Q : tree.PlainExpr → Type 0) → AreBlanks margin → BodyHas (deeper margin) body
      → Printed source text (λ ts us x. IsExpr source 7 ts us x × Q x) → may_end before ≡ false
      → From source true before (brackets ++ k.OpenCurly ∷ []) (body_text names (deeper margin) body ++ (deeper margin ++ (text ++ (codes "\n" ++ (margin ++ (codes "}" ++ rest)))))) ts → ValuedTaken body Q brackets rest ts
  valued_reads {before} {brackets} {ts} margin body text rest Q blank has value never h =
      valued_by margin body text rest Q blank value never (body_reads (deeper margin) (deeper_blanks margin blank) body has before (brackets ++ k.OpenCurly ∷ []) ts (deeper margin ++ (text ++ (codes "\n" ++ (margin ++ (codes "}" ++ rest))))) (inside_splits brackets) never h)
