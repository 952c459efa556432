-- What a tree declares, in the order of the text: memories, values and counters. The number of each is how many of its
-- sort are declared before it.
use Rattle.std.specs.Prelude.{ℕ, ◌+◌, List, [], ◌∷◌, ◌++◌, map, length, Option, Some, None}
use Rattle.sp_words.specs.declared.kind.Kind.{Kind}
use Rattle.sp_words.specs.declared.kind.Kind.TheVariants.{Reg, Sram, Fifo, LineBuf, Dram, ArgIn, ArgOut}
use Rattle.sp_words.specs.declared.types.Ty.{Ty}
use Rattle.sp_reader.specs.declared.syntax.expression.SynTy.{SynTy}
use Rattle.sp_reader.specs.PlainTree.{PlainIdent, PlainLit, number_lit, truth_lit}
use Rattle.sp_reader.specs.PlainStatement.{PlainStmtKind, PlainStmts, stmt, reg, sram, fifo, line_buffer, bind, block, foreach, reduce, fold, mem_reduce, fsm, branch, no_stmt, more_stmt, PlainDecl, PlainDeclKind, arg_in, arg_out, dram}
use Rattle.sp_tree.specs.PlainProgram.{PlainMem}
use Rattle.sp_types.specs.Types.{type_of}
use Rattle.sp_types.specs.Statements.{port}
use Rattle.sp_types.specs.Visible.{memory, value, counter}
use Rattle.sp_typed.specs.Expressions.{known, number_word, truth_word, type_by_itself}
use Rattle.sp_typed.specs.Named.{Meant, Here, given, past}

-- ---- memories

-- the word that a register begins with
abbrev pub start_word : Ty → Option PlainLit → Option ℕ
start_word ty None = None
start_word ty (Some (number_lit d target)) = Some (number_word ty d)
start_word ty (Some (truth_lit place b)) = Some (truth_word b)

abbrev pub mem_of : ℕ → PlainIdent → Kind → SynTy → List ℕ → Option ℕ → PlainMem
mem_of place i kind ty dims start = record { name = i.text; kind = kind; ty = known (type_of ty); dims = dims; start = start; place = place }

abbrev pub port_mem : PlainDecl → PlainDeclKind → PlainMem
port_mem d (arg_in ty) = mem_of d.place d.name ArgIn ty [] None
port_mem d (arg_out ty) = mem_of d.place d.name ArgOut ty [] None
port_mem d (dram ty dims) = mem_of d.place d.name Dram ty dims None

-- those before the block
abbrev pub ports_declared : List PlainDecl → List PlainMem
ports_declared decls = map (λ d. port_mem d d.kind) decls

-- and those of its statements
abbrev mutual
  pub mems_declared : PlainStmts → List PlainMem
  mems_declared no_stmt = []
  mems_declared (more_stmt (stmt place kind) rest) = mems_in place kind ++ mems_declared rest

  pub mems_in : ℕ → PlainStmtKind → List PlainMem
  mems_in place (reg i ty start) = mem_of place i Reg ty [] (start_word (known (type_of ty)) start) ∷ []
  mems_in place (sram i ty dims) = mem_of place i Sram ty dims None ∷ []
  mems_in place (fifo i ty depth) = mem_of place i Fifo ty (depth ∷ []) None ∷ []
  mems_in place (line_buffer i ty rows columns) = mem_of place i LineBuf ty (rows ∷ columns ∷ []) None ∷ []
  mems_in place (block style ss) = mems_declared ss
  mems_in place (foreach h ss) = mems_declared ss
  mems_in place (reduce h ss acc v c) = mems_declared ss
  mems_in place (fold h ss acc v c) = mems_declared ss
  mems_in place (mem_reduce h ss acc v c) = mems_declared ss
  mems_in place (fsm start tested test now ss last next) = mems_declared ss
  mems_in place (branch test first second) = mems_declared first ++ mems_declared second
  mems_in place _ = []

-- ---- values: of `val`, and the three binders of an FSM

abbrev mutual
  pub vals_declared : PlainStmts → List (List ℕ)
  vals_declared no_stmt = []
  vals_declared (more_stmt (stmt place kind) rest) = vals_in kind ++ vals_declared rest

  pub vals_in : PlainStmtKind → List (List ℕ)
  vals_in (bind i e) = i.text ∷ []
  vals_in (block style ss) = vals_declared ss
  vals_in (foreach h ss) = vals_declared ss
  vals_in (reduce h ss acc v c) = vals_declared ss
  vals_in (fold h ss acc v c) = vals_declared ss
  vals_in (mem_reduce h ss acc v c) = vals_declared ss
  vals_in (fsm start tested test now ss last next) = tested.text ∷ now.text ∷ vals_declared ss ++ last.text ∷ []
  vals_in (branch test first second) = vals_declared first ++ vals_declared second
  vals_in _ = []

-- ---- counters: the binders of a loop

abbrev pub texts : List PlainIdent → List (List ℕ)
texts = map (λ i. i.text)

abbrev mutual
  pub counters_declared : PlainStmts → List (List ℕ)
  counters_declared no_stmt = []
  counters_declared (more_stmt (stmt place kind) rest) = counters_in kind ++ counters_declared rest

  pub counters_in : PlainStmtKind → List (List ℕ)
  counters_in (block style ss) = counters_declared ss
  counters_in (foreach h ss) = texts h.binds ++ counters_declared ss
  counters_in (reduce h ss acc v c) = texts h.binds ++ counters_declared ss
  counters_in (fold h ss acc v c) = texts h.binds ++ counters_declared ss
  counters_in (mem_reduce h ss acc v c) = texts h.binds ++ counters_declared ss
  counters_in (fsm start tested test now ss last next) = counters_declared ss
  counters_in (branch test first second) = counters_declared first ++ counters_declared second
  counters_in _ = []

-- ---- places

-- the names after a statement: a declaration and a `val` give one
abbrev pub names_after : Here → PlainStmtKind → List (List ℕ × Meant)
names_after here (reg i ty start) = given here.names i.text (memory Reg (type_of ty) []) here.mems
names_after here (sram i ty dims) = given here.names i.text (memory Sram (type_of ty) dims) here.mems
names_after here (fifo i ty depth) = given here.names i.text (memory Fifo (type_of ty) (depth ∷ [])) here.mems
names_after here (line_buffer i ty rows columns) = given here.names i.text (memory LineBuf (type_of ty) (rows ∷ columns ∷ [])) here.mems
names_after here (bind i e) = given here.names i.text (value (Some (type_by_itself here e))) here.vals
names_after here _ = here.names

-- the place after a statement, and after all statements of a body
abbrev pub after : Here → PlainStmtKind → Here
after here kind = record {
  names = names_after here kind;
  mems = here.mems + length (mems_in 0 kind);
  vals = here.vals + length (vals_in kind);
  counters = here.counters + length (counters_in kind);
}

abbrev pub after_all : Here → PlainStmts → Here
after_all here no_stmt = here
after_all here (more_stmt (stmt place kind) rest) = after_all (after here kind) rest

-- the same names where all that a body declares was declared
abbrev pub past_body : Here → PlainStmts → Here
past_body here ss = past here (length (mems_declared ss)) (length (vals_declared ss)) (length (counters_declared ss))

-- the names with those of counters, which are numbered one after the other
abbrev pub with_counters : List (List ℕ × Meant) → ℕ → List PlainIdent → List (List ℕ × Meant)
with_counters names n [] = names
with_counters names n (i ∷ rest) = with_counters (given names i.text counter n) (n + 1) rest

-- inside of a loop with these binders
abbrev pub in_loop : Here → List PlainIdent → Here
in_loop here binds = record {
  names = with_counters here.names here.counters binds;
  mems = here.mems;
  vals = here.vals;
  counters = here.counters + length binds;
}

-- the same names after a loop with these binders
abbrev pub past_loop : Here → List PlainIdent → PlainStmts → Here
past_loop here binds ss = past here (length (mems_declared ss)) (length (vals_declared ss)) (length (texts binds ++ counters_declared ss))

-- the same names after the body of an FSM, before which two of its binders are given
abbrev pub past_turn : Here → PlainStmts → Here
past_turn here ss = past here (length (mems_declared ss)) (2 + length (vals_declared ss)) (length (counters_declared ss))

-- the names of the declarations before the block, which are numbered from n on
abbrev pub port_names : List (List ℕ × Meant) → ℕ → List PlainDecl → List (List ℕ × Meant)
port_names names n [] = names
port_names names n (d ∷ rest) = port_names (given names d.name.text (port d.kind) n) (n + 1) rest

-- the beginning of the block
abbrev pub at_block : List PlainDecl → Here
at_block decls = record { names = port_names [] 0 decls; mems = length decls; vals = 0; counters = 0 }
