-- Memories of a printed text, behind the name that is declared.
use Rattle.std.proofs.Common.{◌≡◌, ℕ, ◌≤◌, true, false, List, [], ◌∷◌, ◌++◌, length, All, codes, Option, Some, None, refl, ap, subst, ◌∙◌, append_assoc, append-nil, arith}
use Rattle.std.proofs.lemmas.List.Elements.{All-head, All-tail}
use Rattle.sp_words.specs.declared.kind.Kind.{Kind}
use Rattle.sp_words.specs.declared.kind.Kind.TheVariants as kind
use Rattle.sp_words.specs.declared.types.Ty.{Ty}
use Rattle.sp_words.specs.Interface.{IsCount}
use Rattle.sp_tree.specs.Counts.{is_port}
use Rattle.sp_tree.specs.Declarations.{HasRank, HasStart, IsDeclaration}
use Rattle.sp_tree.specs.PlainProgram.{PlainMem}
use Rattle.sp_reader.specs.declared.syntax.expression.SynTy.{SynTy}
use Rattle.sp_reader.specs.declared.token.Token.{Token}
use Rattle.sp_reader.specs.declared.token.TokenKind.{TokenKind}
use Rattle.sp_reader.specs.declared.token.TokenKind.TheVariants as k
use Rattle.sp_reader.specs.PlainTree as tree
use Rattle.sp_reader.specs.PlainStatement as tree_of
use Rattle.sp_reader.specs.Steps.{Text}
use Rattle.sp_reader.specs.Tokens.{may_end}
use Rattle.sp_grammar.specs.Tokens.{Takes}
use Rattle.sp_grammar.specs.Expressions.{IsBracketed}
use Rattle.sp_grammar.specs.Statements.{IsBound, IsPort}
use Rattle.sp_printer.specs.Pieces.{kind_word, dims_text, start_text, mem_type, mem_shape}
use Rattle.sp_printer.specs.Types.{type_text}
use Rattle.sp_scanned.specs.From.{From, Fronts}
use Rattle.sp_scanned.proofs.Steps.{token_step}
use Rattle.sp_scanned.proofs.Words.{keyword}
use Rattle.sp_printed.specs.Trees.{IsTypeTree}
use Rattle.sp_printed.specs.StatementTrees.{IsDeclareTree, IsPortTree}
use Rattle.sp_printed.proofs.Takings.{moved, takes}
use Rattle.sp_printed.proofs.Values.{bracket_step}
use Rattle.sp_printed.proofs.Declarations.{one_dim, two_dims, dims_step, start_step}

-- the word of a kind and the type of the words
record KindTaken (source : Text) (word : TokenKind) (ty : Ty) (brackets : List TokenKind) (rest : Text) (ts : List Token) : Type 0 where
  first : List Token
  left : List Token
  tree : SynTy
  takes_word : Takes word ts first
  is : IsBracketed source first left tree
  spells : IsTypeTree ty tree
  next : From source false k.CloseSquare brackets rest left

kind_step : {source : Text} {before : TokenKind} {brackets : List TokenKind} {ts : List Token} (w : Text) (word : TokenKind) (ty : Ty) (rest : Text)
    → Fronts word w (codes "[" ++ ((type_text ty ++ codes "]") ++ rest)) → Rattle.sp_reader.specs.Tokens.opened brackets word ≡ brackets
    → From source false before brackets (w ++ (codes "[" ++ ((type_text ty ++ codes "]") ++ rest))) ts → KindTaken source word ty brackets rest ts
kind_step {source} {before} {brackets} {ts} w word ty rest f plain h =
    let inner = codes "[" ++ ((type_text ty ++ codes "]") ++ rest) in
    let a = token_step w inner h f in
    let b = bracket_step ty rest (moved (ap (λ (x : Text). codes "[" ++ x) (append_assoc (type_text ty) (codes "]") rest)) (subst (λ x. From source false word x inner a.left) plain a.next)) in
    record { first = a.left; left = b.left; tree = b.tree; takes_word = takes a; is = b.is; spells = b.spells; next = b.next }

abbrev mem_with : Text → Kind → Ty → List ℕ → Option ℕ → ℕ → PlainMem
mem_with name kind ty dims start place = record { name = name; kind = kind; ty = ty; dims = dims; start = start; place = place }

-- what a declaration in a body binds its name to
pub record BoundTaken (source : Text) (m : PlainMem) (i : tree.PlainIdent) (brackets : List TokenKind) (rest : Text) (ts : List Token) : Type 0 where
  pub left : List Token
  pub what : tree_of.PlainStmtKind
  pub is : IsBound source i ts left what
  pub spells : i.text ≡ m.name → IsDeclareTree m what
  pub last : TokenKind
  pub ends : may_end last ≡ true
  pub next : From source false last brackets rest left

-- and one before the block
pub record PortTaken (source : Text) (m : PlainMem) (brackets : List TokenKind) (rest : Text) (ts : List Token) : Type 0 where
  pub left : List Token
  pub what : tree_of.PlainDeclKind
  pub is : IsPort source ts left what
  pub spells : (i : tree.PlainIdent) (at : ℕ) → i.text ≡ m.name → IsPortTree m (record { place = at; name = i; kind = what })
  pub last : TokenKind
  pub ends : may_end last ≡ true
  pub next : From source false last brackets rest left

abbrev memory_text : Kind → Ty → List ℕ → Option ℕ → Text
memory_text kind ty dims start = (kind_word kind ++ (codes "[" ++ (type_text ty ++ codes "]"))) ++ (dims_text dims ++ start_text ty start)

flat : (ty : Ty) (dims : List ℕ) (rest : Text) → ((type_text ty ++ codes "]") ++ (dims_text dims ++ [])) ++ rest ≡ (type_text ty ++ codes "]") ++ (dims_text dims ++ rest)
flat ty dims rest = append_assoc (type_text ty ++ codes "]") (dims_text dims ++ []) rest ∙ ap (λ (x : Text). (type_text ty ++ codes "]") ++ (x ++ rest)) (append-nil (dims_text dims))

module _ {source : Text} {before : TokenKind} {brackets : List TokenKind} {ts : List Token} (name : Text) (place : ℕ) (ty : Ty) (rest : Text) (i : tree.PlainIdent) where
  reg_step : (dims : List ℕ) (start : Option ℕ) → length dims ≡ 0 → From source false before brackets (memory_text kind.Reg ty dims start ++ rest) ts → BoundTaken source (mem_with name kind.Reg ty dims start place) i brackets rest ts
  reg_step [] start none h =
      let inner = start_text ty start ++ rest in
      let a = kind_step (codes "Reg") k.Reg ty inner (keyword (codes "Reg") (codes "[" ++ ((type_text ty ++ codes "]") ++ inner)) k.Reg refl refl refl) refl (moved (ap (λ (x : Text). codes "Reg[" ++ x) (append_assoc (type_text ty ++ codes "]") (start_text ty start) rest)) h) in
      let s = start_step ty start rest refl a.next in
      record { left = s.left; what = tree_of.reg i a.tree s.what; is = IsBound.a_reg a.takes_word a.is s.is; spells = λ same. IsDeclareTree.a_reg refl same a.spells s.spells; last = s.last; ends = s.ends; next = s.next }
  reg_step (n ∷ dims) start none h = absurd (omega (arith, none))

  sram_step : (dims : List ℕ) → (1 ≤ length dims) × (length dims ≤ 3) → All IsCount dims → From source false before brackets (memory_text kind.Sram ty dims None ++ rest) ts → BoundTaken source (mem_with name kind.Sram ty dims None place) i brackets rest ts
  sram_step dims rank counts h =
      let inner = dims_text dims ++ rest in
      let a = kind_step (codes "SRAM") k.Sram ty inner (keyword (codes "SRAM") (codes "[" ++ ((type_text ty ++ codes "]") ++ inner)) k.Sram refl refl refl) refl (moved (ap (λ (x : Text). codes "SRAM[" ++ x) (flat ty dims rest)) h) in
      let d = dims_step dims rest rank.0 rank.1 counts a.next in
      record { left = d.left; what = tree_of.sram i a.tree dims; is = IsBound.a_sram a.takes_word a.is d.is; spells = λ same. IsDeclareTree.an_sram refl same a.spells; last = k.CloseRound; ends = refl; next = d.next }

  fifo_step : (dims : List ℕ) → length dims ≡ 1 → All IsCount dims → From source false before brackets (memory_text kind.Fifo ty dims None ++ rest) ts → BoundTaken source (mem_with name kind.Fifo ty dims None place) i brackets rest ts
  fifo_step [] rank counts h = absurd (omega (arith, rank))
  fifo_step (n ∷ []) rank counts h =
      let inner = dims_text (n ∷ []) ++ rest in
      let a = kind_step (codes "FIFO") k.Fifo ty inner (keyword (codes "FIFO") (codes "[" ++ ((type_text ty ++ codes "]") ++ inner)) k.Fifo refl refl refl) refl (moved (ap (λ (x : Text). codes "FIFO[" ++ x) (flat ty (n ∷ []) rest)) h) in
      let d = one_dim n rest (All-head IsCount n [] counts) a.next in
      record { left = d.left; what = tree_of.fifo i a.tree n; is = IsBound.a_fifo a.takes_word a.is d.open_is d.is d.close_is; spells = λ same. IsDeclareTree.a_fifo refl same a.spells refl; last = k.CloseRound; ends = refl; next = d.next }
  fifo_step (n ∷ m ∷ dims) rank counts h = absurd (omega (arith, rank))

  line_step : (dims : List ℕ) → length dims ≡ 2 → All IsCount dims → From source false before brackets (memory_text kind.LineBuf ty dims None ++ rest) ts → BoundTaken source (mem_with name kind.LineBuf ty dims None place) i brackets rest ts
  line_step [] rank counts h = absurd (omega (arith, rank))
  line_step (n ∷ []) rank counts h = absurd (omega (arith, rank))
  line_step (n ∷ m ∷ []) rank counts h =
      let inner = dims_text (n ∷ m ∷ []) ++ rest in
      let a = kind_step (codes "LineBuffer") k.LineBuffer ty inner (keyword (codes "LineBuffer") (codes "[" ++ ((type_text ty ++ codes "]") ++ inner)) k.LineBuffer refl refl refl) refl (moved (ap (λ (x : Text). codes "LineBuffer[" ++ x) (flat ty (n ∷ m ∷ []) rest)) h) in
      let d = two_dims n m rest (All-head IsCount n (m ∷ []) counts) (All-head IsCount m [] (All-tail IsCount n (m ∷ []) counts)) a.next in
      record { left = d.left; what = tree_of.line_buffer i a.tree n m; is = IsBound.a_line_buffer a.takes_word a.is d.open_is d.is d.comma_is d.is_too d.close_is; spells = λ same. IsDeclareTree.a_line refl same a.spells refl; last = k.CloseRound; ends = refl; next = d.next }
  line_step (n ∷ m ∷ l ∷ dims) rank counts h = absurd (omega (arith, rank))

  dram_step : (dims : List ℕ) → (1 ≤ length dims) × (length dims ≤ 3) → All IsCount dims → From source false before brackets (memory_text kind.Dram ty dims None ++ rest) ts → PortTaken source (mem_with name kind.Dram ty dims None place) brackets rest ts
  dram_step dims rank counts h =
      let inner = dims_text dims ++ rest in
      let a = kind_step (codes "DRAM") k.Dram ty inner (keyword (codes "DRAM") (codes "[" ++ ((type_text ty ++ codes "]") ++ inner)) k.Dram refl refl refl) refl (moved (ap (λ (x : Text). codes "DRAM[" ++ x) (flat ty dims rest)) h) in
      let d = dims_step dims rest rank.0 rank.1 counts a.next in
      record { left = d.left; what = tree_of.dram a.tree dims; is = IsPort.a_dram a.takes_word a.is d.is; spells = λ i at same. IsPortTree.a_dram refl same a.spells; last = k.CloseRound; ends = refl; next = d.next }

  arg_step : (dims : List ℕ) → length dims ≡ 0 → From source false before brackets (memory_text kind.ArgIn ty dims None ++ rest) ts → PortTaken source (mem_with name kind.ArgIn ty dims None place) brackets rest ts
  arg_step [] none h =
      let a = kind_step (codes "ArgIn") k.ArgIn ty rest (keyword (codes "ArgIn") (codes "[" ++ ((type_text ty ++ codes "]") ++ rest)) k.ArgIn refl refl refl) refl (moved (ap (λ (x : Text). codes "ArgIn[" ++ x) (flat ty [] rest)) h) in
      record { left = a.left; what = tree_of.arg_in a.tree; is = IsPort.an_arg_in a.takes_word a.is; spells = λ i at same. IsPortTree.an_arg refl same a.spells; last = k.CloseSquare; ends = refl; next = a.next }
  arg_step (n ∷ dims) none h = absurd (omega (arith, none))

  out_step : (dims : List ℕ) → length dims ≡ 0 → From source false before brackets (memory_text kind.ArgOut ty dims None ++ rest) ts → PortTaken source (mem_with name kind.ArgOut ty dims None place) brackets rest ts
  out_step [] none h =
      let a = kind_step (codes "ArgOut") k.ArgOut ty rest (keyword (codes "ArgOut") (codes "[" ++ ((type_text ty ++ codes "]") ++ rest)) k.ArgOut refl refl refl) refl (moved (ap (λ (x : Text). codes "ArgOut[" ++ x) (flat ty [] rest)) h) in
      record { left = a.left; what = tree_of.arg_out a.tree; is = IsPort.an_arg_out a.takes_word a.is; spells = λ i at same. IsPortTree.an_out refl same a.spells; last = k.CloseSquare; ends = refl; next = a.next }
  out_step (n ∷ dims) none h = absurd (omega (arith, none))

  -- ---- by the kind

  bound_by : (kd : Kind) (dims : List ℕ) (start : Option ℕ) (m : PlainMem) → is_port kd ≡ false → HasRank kd (length dims) → All IsCount dims → HasStart m kd start
      → From source false before brackets (memory_text kd ty dims start ++ rest) ts → BoundTaken source (mem_with name kd ty dims start place) i brackets rest ts
  bound_by kind.Reg dims start m port rank counts st h = reg_step dims start rank h
  bound_by kind.Sram dims (Some w) m port rank counts st h = absurd (cc)
  bound_by kind.Sram dims None m port rank counts st h = sram_step dims rank counts h
  bound_by kind.Fifo dims (Some w) m port rank counts st h = absurd (cc)
  bound_by kind.Fifo dims None m port rank counts st h = fifo_step dims rank counts h
  bound_by kind.LineBuf dims (Some w) m port rank counts st h = absurd (cc)
  bound_by kind.LineBuf dims None m port rank counts st h = line_step dims rank counts h
  bound_by kind.Dram dims start m port rank counts st h = absurd (cc)
  bound_by kind.ArgIn dims start m port rank counts st h = absurd (cc)
  bound_by kind.ArgOut dims start m port rank counts st h = absurd (cc)

  port_by : (kd : Kind) (dims : List ℕ) (start : Option ℕ) (m : PlainMem) → is_port kd ≡ true → HasRank kd (length dims) → All IsCount dims → HasStart m kd start
      → From source false before brackets (memory_text kd ty dims start ++ rest) ts → PortTaken source (mem_with name kd ty dims start place) brackets rest ts
  port_by kind.Dram dims (Some w) m port rank counts st h = absurd (cc)
  port_by kind.Dram dims None m port rank counts st h = dram_step dims rank counts h
  port_by kind.ArgIn dims (Some w) m port rank counts st h = absurd (cc)
  port_by kind.ArgIn dims None m port rank counts st h = arg_step dims rank h
  port_by kind.ArgOut dims (Some w) m port rank counts st h = absurd (cc)
  port_by kind.ArgOut dims None m port rank counts st h = out_step dims rank h
  port_by kind.Reg dims start m port rank counts st h = absurd (cc)
  port_by kind.Sram dims start m port rank counts st h = absurd (cc)
  port_by kind.Fifo dims start m port rank counts st h = absurd (cc)
  port_by kind.LineBuf dims start m port rank counts st h = absurd (cc)

pub bound_step : {source : Text} {before : TokenKind} {brackets : List TokenKind} {ts : List Token} (m : PlainMem) (i : tree.PlainIdent) (rest : Text) → IsDeclaration m → is_port m.kind ≡ false
    → From source false before brackets ((mem_type m.kind m.ty ++ mem_shape m.ty m.dims m.start) ++ rest) ts → BoundTaken source m i brackets rest ts
unfolding mem_type mem_shape
bound_step m i rest d port h = bound_by m.name m.place m.ty rest i m.kind m.dims m.start m port d.rank d.dims d.start h

pub port_step : {source : Text} {before : TokenKind} {brackets : List TokenKind} {ts : List Token} (m : PlainMem) (rest : Text) → IsDeclaration m → is_port m.kind ≡ true
    → From source false before brackets ((mem_type m.kind m.ty ++ mem_shape m.ty m.dims m.start) ++ rest) ts → PortTaken source m brackets rest ts
unfolding mem_type mem_shape
port_step m rest d port h = port_by m.name m.place m.ty rest (record { place = 0; text = [] }) m.kind m.dims m.start m port d.rank d.dims d.start h
