-- The plain reader: statements that hold others, and programs.
use Rattle.std.specs.Prelude.{ℕ, zero, suc, ◌==◌, Bool, true, false, if◌then◌else◌, List, [], ◌∷◌, ◌++◌, length, Option, Some, None, Result, Ok, Err}
use Rattle.sp_words.specs.declared.kind.Style.{Style}
use Rattle.sp_words.specs.declared.kind.Style.TheVariants.{Pipe, Sequential, Parallel, Stream}
use Rattle.sp_reader.specs.declared.token.TokenKind.{TokenKind}
use Rattle.sp_reader.specs.declared.token.TokenKind.TheVariants as k
use Rattle.sp_reader.specs.declared.token.Token.{Token}
use Rattle.sp_reader.specs.declared.grammar.statement.Combining.{Combining}
use Rattle.sp_reader.specs.declared.grammar.statement.Combining.TheVariants as c
use Rattle.sp_reader.specs.PlainTree.{PlainIdent, PlainExpr}
use Rattle.sp_reader.specs.PlainStatement.{PlainCounter, PlainComb, PlainHead, PlainStmt, PlainStmtKind, PlainStmts, stmt as node, block, foreach, reduce, fold, mem_reduce, fsm, branch, body, PlainDeclKind, arg_in, arg_out, dram, PlainDecl, PlainSyntax}
use Rattle.sp_reader.specs.Steps.{Text, Outcome, Rule, and_then, ◌>>=◌, pure, refuse, kind_of, tail_of, place_of, sees, skip, semicolons}
use Rattle.sp_reader.specs.Names.{name}
use Rattle.sp_reader.specs.TypeRules.{bracketed, dims}
use Rattle.sp_reader.specs.SpanRules.{whole_expr, binds, enclosed_name, counters, combiner}
use Rattle.sp_reader.specs.SimpleRules.{val, on_name, is_value}

abbrev pub head : Option Style → List PlainCounter → List PlainIdent → PlainHead
head style cs is = record { style = style; counters = cs; binds = is }

abbrev pub combined_by : Combining → PlainHead → PlainStmts → PlainIdent → PlainExpr → PlainComb → PlainStmtKind
combined_by c.Reduce = reduce
combined_by c.Fold = fold
combined_by c.MemReduce = mem_reduce

-- ---- bodies, by the rule of a statement inside

unfoldable pub stmts_from : Rule PlainStmt → ℕ → List PlainStmt → Rule (List PlainStmt)
stmts_from inner zero found = refuse
stmts_from inner (suc n) found = λ ts.
    if sees k.CloseCurly ts then Ok (found, ts)
    else (inner >>= λ s. λ us. if sees k.Semicolon us then stmts_from inner n (found ++ s ∷ []) (semicolons us) else Ok (found ++ s ∷ [], us)) ts

-- statements up to `}`, with `;` between
abbrev pub stmts : Rule PlainStmt → Rule (List PlainStmt)
stmts inner = λ ts. stmts_from inner (length ts) [] (semicolons ts)

unfoldable pub braced : Rule PlainStmt → Rule (List PlainStmt)
braced inner = do
  _ ← skip k.OpenCurly
  ss ← stmts inner
  _ ← skip k.CloseCurly
  pure ss

unfoldable pub last_value : Text → List PlainStmt → Rule (List PlainStmt × PlainExpr)
last_value source found = whole_expr source >>= λ e. λ ts. Ok ((found, e), semicolons ts)

-- by whether a value comes next: it, or the statement and what the rule reads after it
abbrev pub value_or : {A : Type 0} → Result Bool ℕ → Rule A → Rule A → Rule A
value_or (Err e) value more ts = Err e
value_or (Ok true) value more ts = value ts
value_or (Ok false) value more ts = more ts

unfoldable pub valued_from : Text → Rule PlainStmt → ℕ → List PlainStmt → Rule (List PlainStmt × PlainExpr)
valued_from source inner zero found = refuse
valued_from source inner (suc n) found = λ ts.
    value_or (is_value source ts) (last_value source found) (inner >>= λ s. skip k.Semicolon >>= λ _. λ us. valued_from source inner n (found ++ s ∷ []) (semicolons us)) ts

-- statements and a value up to `}`, with `;` between
abbrev pub valued : Text → Rule PlainStmt → Rule (List PlainStmt × PlainExpr)
valued source inner = λ ts. valued_from source inner (length ts) [] (semicolons ts)

-- ---- controllers

unfoldable pub styled_block : Rule PlainStmt → Style → Rule PlainStmtKind
styled_block inner style = braced inner >>= λ ss. pure (block style (body ss))

-- after its word
unfoldable pub a_foreach : Text → Rule PlainStmt → Option Style → Rule PlainStmtKind
a_foreach source inner style = do
  cs ← counters source
  _ ← skip k.OpenCurly
  is ← binds source
  _ ← skip k.Arrow
  ss ← stmts inner
  _ ← skip k.CloseCurly
  pure (foreach (head style cs is) (body ss))

unfoldable pub a_combining : Text → Rule PlainStmt → Combining → Option Style → Rule PlainStmtKind
a_combining source inner which style = do
  i ← enclosed_name source
  cs ← counters source
  _ ← skip k.OpenCurly
  is ← binds source
  _ ← skip k.Arrow
  v ← valued source inner
  _ ← skip k.CloseCurly
  comb ← combiner source
  pure (combined_by which (head style cs is) (body v.0) i v.1 comb)

unfoldable pub controller : Text → Rule PlainStmt → Option Style → Rule PlainStmtKind
controller source inner style = λ ts.
    if sees k.Foreach ts then a_foreach source inner style (tail_of ts)
    else (if sees k.Reduce ts then a_combining source inner c.Reduce style (tail_of ts)
    else (if sees k.Fold ts then a_combining source inner c.Fold style (tail_of ts)
    else (if sees k.MemReduce ts then a_combining source inner c.MemReduce style (tail_of ts) else Err (length ts))))

-- a block, or a controller after its style
unfoldable pub styled : Text → Rule PlainStmt → Style → Rule PlainStmtKind
styled source inner style = λ ts. if sees k.Dot ts then controller source inner (Some style) (tail_of ts) else styled_block inner style ts

-- a name, `=>` and an expression
unfoldable pub arrow : Text → Rule (PlainIdent × PlainExpr)
arrow source = do
  i ← name source
  _ ← skip k.Arrow
  e ← whole_expr source
  pure (i, e)

unfoldable pub enclosed_arrow : Text → Rule (PlainIdent × PlainExpr)
enclosed_arrow source = do
  _ ← skip k.OpenRound
  p ← arrow source
  _ ← skip k.CloseRound
  pure p

unfoldable pub enclosed_expr : Text → Rule PlainExpr
enclosed_expr source = do
  _ ← skip k.OpenRound
  e ← whole_expr source
  _ ← skip k.CloseRound
  pure e

unfoldable pub bound_body : Text → Rule PlainStmt → Rule (PlainIdent × List PlainStmt)
bound_body source inner = do
  _ ← skip k.OpenCurly
  i ← name source
  _ ← skip k.Arrow
  ss ← stmts inner
  _ ← skip k.CloseCurly
  pure (i, ss)

unfoldable pub a_fsm : Text → Rule PlainStmt → Rule PlainStmtKind
a_fsm source inner = do
  start ← enclosed_expr source
  test ← enclosed_arrow source
  state ← bound_body source inner
  _ ← skip k.OpenCurly
  next ← arrow source
  _ ← skip k.CloseCurly
  pure (fsm start test.0 test.1 state.0 (body state.1) next.0 next.1)

abbrev pub otherwise : Rule PlainStmt → Rule (List PlainStmt)
otherwise inner = λ ts. if sees k.Else ts then braced inner (tail_of ts) else Ok ([], ts)

unfoldable pub a_branch : Text → Rule PlainStmt → Rule PlainStmtKind
a_branch source inner = do
  test ← enclosed_expr source
  first ← braced inner
  second ← otherwise inner
  pure (branch test (body first) (body second))

abbrev pub kind_by : Text → Rule PlainStmt → TokenKind → Rule PlainStmtKind
kind_by source inner k.Val = λ ts. val source (tail_of ts)
kind_by source inner k.Pipe = λ ts. styled source inner Pipe (tail_of ts)
kind_by source inner k.Sequential = λ ts. styled source inner Sequential (tail_of ts)
kind_by source inner k.Parallel = λ ts. styled_block inner Parallel (tail_of ts)
kind_by source inner k.Stream = λ ts. styled_block inner Stream (tail_of ts)
kind_by source inner k.Fsm = λ ts. a_fsm source inner (tail_of ts)
kind_by source inner k.If = λ ts. a_branch source inner (tail_of ts)
kind_by source inner k.Foreach = controller source inner None
kind_by source inner k.Reduce = controller source inner None
kind_by source inner k.Fold = controller source inner None
kind_by source inner k.MemReduce = controller source inner None
kind_by source inner _ = on_name source

unfoldable pub kind : Text → Rule PlainStmt → Rule PlainStmtKind
kind source inner = λ ts. kind_by source inner (kind_of ts) ts

-- a statement; the number bounds how many stand one inside another
unfoldable pub stmt : Text → ℕ → Rule PlainStmt
stmt source zero = refuse
stmt source (suc depth) = λ ts. (kind source (stmt source depth) >>= λ s. pure (node (place_of ts) s)) ts
