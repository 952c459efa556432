-- The canonical text of a program is read as a tree that spells it.
use Rattle.std.proofs.Common.{◌≡◌, ℕ, zero, suc, ◌+◌, ◌<◌, Bool, true, false, if◌then◌else◌, List, [], ◌∷◌, ◌++◌, length, codes, slice_index_or, Contains, All, refl, sym, ap, subst, ◌∙◌, inl, inr, append_assoc, arith}
use Rattle.std.specs.Prelude.{◌⊎◌}
use Rattle.std.proofs.lemmas.List.Elements.{Contains-append_left, Contains-append_right, Contains-append_cases, All-head, All-tail, All-get_or}
use Rattle.sp_words.specs.Names.{IsName}
use Rattle.sp_tree.specs.Counts.{is_port}
use Rattle.sp_tree.specs.Declarations.{IsDeclaration}
use Rattle.sp_tree.specs.Elements.{numbers_below}
use Rattle.sp_tree.specs.Invariant.{IsProgram, port_numbers, outer_scope}
use Rattle.sp_tree.specs.Meaning.{numbers_of}
use Rattle.sp_tree.specs.PlainProgram.{PlainMem, PlainProgram, no_mem}
use Rattle.sp_tree.specs.Structure.{mems_declared, vals_declared, counters_declared}
use Rattle.sp_tree.specs.Typing.{mem_at}
use Rattle.sp_reader.specs.declared.token.Token.{Token}
use Rattle.sp_reader.specs.declared.token.TokenKind.{TokenKind}
use Rattle.sp_reader.specs.declared.token.TokenKind.TheVariants as k
use Rattle.sp_reader.specs.PlainStatement as tree_of
use Rattle.sp_reader.specs.Steps.{Text, place_of}
use Rattle.sp_reader.specs.Tokens.{tokens_of}
use Rattle.sp_grammar.specs.Tokens.{MayBreak}
use Rattle.sp_grammar.specs.Statements.{AreDecls, IsBraced}
use Rattle.sp_grammar.specs.Statements.{IsProgram as IsProgramText}
use Rattle.sp_printer.specs.Body.{body_text}
use Rattle.sp_printer.specs.Names.{names_in}
use Rattle.sp_printer.specs.Pieces.{mem_text, mem_type, mem_shape}
use Rattle.sp_printer.specs.Program.{ports_text, canonical_text}
use Rattle.sp_scanned.specs.From.{From, Begins}
use Rattle.sp_scanned.proofs.Steps.{token_step, blank_step, line_step, at_start, at_end}
use Rattle.sp_scanned.proofs.Words.{keyword}
use Rattle.sp_printed.specs.StatementTrees.{ArePortTrees}
use Rattle.sp_printed.specs.Laws.{SpellsItsTree}
use Rattle.sp_printed.proofs.Takings.{moved, takes, begins_with, open_curly}
use Rattle.sp_printed.proofs.Bodies.{BodyHas, closed_reads, inserted}
use Rattle.sp_printed.proofs.Declarations.{val_step, val_begins}
use Rattle.sp_printed.proofs.Exprs.{Named}
use Rattle.sp_printed.proofs.Memories.{port_step}
use Rattle.sp_printed.proofs.Statements.{Declared, body_reads}

-- ---- numbers

below : (n x : ℕ) → Contains (numbers_below n) x → x < n
below zero x (i, lt, e) = absurd (omega (arith, lt))
below (suc n) x at = by (Contains-append_cases (numbers_below n) (n ∷ []) x at) (λ h. below n x h)
  where
    by : Contains (numbers_below n) x ⊎ Contains (n ∷ []) x → (Contains (numbers_below n) x → x < n) → x < suc n
    by (inl h) f = let low = f h in omega (arith, low)
    by (inr (zero, lt, e)) f = omega (arith, e)
    by (inr (suc i, lt, e)) f = absurd (omega (arith, lt))

-- each port is among their numbers
among : (ms : List PlainMem) (first i : ℕ) → i < length ms → is_port (slice_index_or ms i no_mem).kind ≡ true → Contains (numbers_of is_port first ms) (first + i)
among [] first i low port = absurd (omega (arith, low))
among (m ∷ ms) first zero low port =
    let here : first + 0 ≡ first = omega arith in
    subst (Contains (numbers_of is_port first (m ∷ ms))) (sym here) (first_of (is_port m.kind) port)
  where
    first_of : (b : Bool) → b ≡ true → Contains ((if b then first ∷ [] else []) ++ numbers_of is_port (suc first) ms) first
    first_of true e = (0, omega arith, refl)
    first_of false e = absurd (cc)
among (m ∷ ms) first (suc i) low port =
    let here : suc first + i ≡ first + suc i = omega arith in
    let rest = among ms (suc first) i (omega (arith, low)) port in
    subst (Contains (numbers_of is_port first (m ∷ ms))) here (Contains-append_right (if is_port m.kind then first ∷ [] else []) (numbers_of is_port (suc first) ms) (suc first + i) rest)

module _ (p : PlainProgram) (h : IsProgram p) where
  mem_low : (m : ℕ) → Contains (port_numbers p ++ mems_declared p.body) m → m < length p.mems
  mem_low m at = below (length p.mems) m (subst (λ ns. Contains ns m) h.mem_numbers at)

  declared_at : (m : ℕ) → m < length p.mems → IsDeclaration (mem_at p m)
  declared_at m low = All-get_or IsDeclaration p.mems m no_mem low h.declarations

  all_declared : Declared p (mems_declared p.body) (vals_declared p.body) (counters_declared p.body)
  all_declared = record {
    mem = λ m at. let low = mem_low m (Contains-append_right (port_numbers p) (mems_declared p.body) m at) in (low, declared_at m low);
    val = λ v at. All-get_or IsName p.vals v [] (below (length p.vals) v (subst (λ ns. Contains ns v) h.val_numbers at)) h.val_names;
    counter = λ c at. All-get_or IsName p.counters c [] (below (length p.counters) c (subst (λ ns. Contains ns c) h.counter_numbers at)) h.counter_names;
  }

  outer_named : Named p (outer_scope p)
  outer_named = record {
    mems = λ m at. declared_at m (mem_low m (Contains-append_left (port_numbers p) (mems_declared p.body) m at));
    ports = λ m low port. let is : 0 + m ≡ m = omega arith in subst (Contains (port_numbers p)) is (among p.mems 0 m low port);
    vals = λ v ty at. absurd (omega (arith, at.1));
    counters = λ c at. absurd (omega (arith, at.1));
  }

  pub block_reads : (source : Text) → BodyHas source (names_in p) (codes "  ") p.body
  block_reads source = body_reads p source p.body (outer_scope p) outer_named h.typed all_declared (codes "  ") (refl, (refl, tt))

-- ---- ports

module _ (source : Text) where
  ports_begin : (ms : List PlainMem) (rest : Text) → Begins rest → Begins (ports_text ms ++ rest)
  unfolding mem_text
  ports_begin [] rest b = b
  ports_begin (m ∷ ms) rest b = go (is_port m.kind) (ports_begin ms rest b)
    where
      go : (x : Bool) → Begins (ports_text ms ++ rest) → Begins ((if x then mem_text m ++ (codes "\n" ++ ports_text ms) else ports_text ms) ++ rest)
      go true more = val_begins (((m.name ++ (codes " = " ++ (mem_type m.kind m.ty ++ mem_shape m.ty m.dims m.start))) ++ (codes "\n" ++ ports_text ms)) ++ rest)
      go false more = more

  record PortsTaken (ms : List PlainMem) (rest : Text) (ts : List Token) : Type 0 where
    left : List Token
    decls : List tree_of.PlainDecl
    is : AreDecls source ts left decls
    spells : ArePortTrees ms decls
    last : TokenKind
    next : From source false last [] rest left

  ports_read : (ms : List PlainMem) (rest : Text) → All IsDeclaration ms → Begins rest → (before : TokenKind) (ts : List Token) → From source false before [] (ports_text ms ++ rest) ts → PortsTaken ms rest ts
  unfolding mem_text
  ports_read [] rest all b before ts h = record { left = ts; decls = []; is = AreDecls.none; spells = ArePortTrees.no_ports; last = before; next = h }
  ports_read (m ∷ ms) rest all b before ts h = go (is_port m.kind) refl h (λ before ts from. ports_read ms rest (All-tail IsDeclaration m ms all) b before ts from)
    where
      go : (x : Bool) → is_port m.kind ≡ x → From source false before [] ((if x then mem_text m ++ (codes "\n" ++ ports_text ms) else ports_text ms) ++ rest) ts
          → ((before : TokenKind) (ts : List Token) → From source false before [] (ports_text ms ++ rest) ts → PortsTaken ms rest ts) → PortsTaken (m ∷ ms) rest ts
      go false is h more = let r = more before ts h in record { left = r.left; decls = r.decls; is = r.is; spells = ArePortTrees.passed is r.spells; last = r.last; next = r.next }
      go true is h more =
          let d = All-head IsDeclaration m ms all in
          let shape = mem_type m.kind m.ty ++ mem_shape m.ty m.dims m.start in
          let after = codes "\n" ++ (ports_text ms ++ rest) in
          let text = m.name ++ (codes " = " ++ shape) in
          let same : (text ++ (codes "\n" ++ ports_text ms)) ++ rest ≡ m.name ++ (codes " = " ++ (shape ++ after)) =
          append_assoc text (codes "\n" ++ ports_text ms) rest ∙ append_assoc m.name (codes " = " ++ shape) after in
          let v = val_step m.name (shape ++ after) d.name (moved (ap (λ (x : Text). codes "val " ++ x) same) h) in
          let q = port_step m after d is v.next in
          let s = inserted (ports_text ms ++ rest) (ports_begin ms rest b) q.ends refl (line_step (ports_text ms ++ rest) q.next) in
          let r = more q.last s.left s.next in
          record {
            left = r.left;
            decls = record { place = place_of ts; name = v.name; kind = q.what } ∷ r.decls;
            is = AreDecls.next v.val v.is v.equal q.is s.is r.is;
            spells = ArePortTrees.more_ports is (q.spells v.name (place_of ts) v.text) r.spells;
            last = r.last;
            next = r.next;
          }

pub spells : (p : PlainProgram) → IsProgram p → SpellsItsTree p
spells p h =
    let source = canonical_text p in
    let inner = body_text (names_in p) (codes "  ") p.body in
    let tail = inner ++ (codes "}" ++ codes "\n") in
    let block = codes "Accel {" ++ (codes "\n" ++ tail) in
    let accel = keyword (codes "Accel") (codes " {\n" ++ tail) k.Accel refl refl refl in
    let ports = ports_read source p.mems block h.declarations (begins_with accel refl) k.End (tokens_of source) (at_start source) in
    let a = token_step (codes "Accel") (codes " {\n" ++ tail) ports.next accel in
    let o = open_curly [] (codes "\n" ++ tail) (blank_step (codes "{\n" ++ tail) a.next) in
    let b = closed_reads source (names_in p) {brackets = []} [] p.body (codes "\n") tt (block_reads p h source) refl (line_step tail o.next) in
    let none = at_end (line_step [] b.next) in
    record {
      tree = record { decls = ports.decls; body = b.all };
      spelled = IsProgramText.program MayBreak.none ports.is (takes a) (IsBraced.braced (takes o) b.is b.close_is) (subst (MayBreak b.left) none MayBreak.none);
      is_tree = record { ports = ports.spells; block = b.spells };
    }
