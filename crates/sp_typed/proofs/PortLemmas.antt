-- The numbers of the declarations before the block.
use Rattle.std.proofs.Common.{◌≡◌, ℕ, suc, ◌+◌, Bool, true, false, cond, List, [], ◌∷◌, ◌++◌, length, refl, ap, ◌∙◌, arith}
use Rattle.std.proofs.lemmas.List.{append-nil}
use Rattle.sp_reader.specs.PlainStatement.{PlainDecl, PlainDeclKind, arg_in, arg_out, dram, PlainStmtKind, PlainStmts, stmt, reg, sram, fifo, line_buffer, block, foreach, reduce, fold, mem_reduce, fsm, branch, no_stmt, more_stmt}
use Rattle.sp_tree.specs.Counts.{is_port}
use Rattle.sp_tree.specs.Meaning.{numbers_of}
use Rattle.sp_tree.specs.PlainProgram.{PlainMem}
use Rattle.sp_typed.specs.Declarations.{port_mem, ports_declared, mems_declared, mems_in}
use Rattle.sp_typed.proofs.NumberLemmas.{places}

-- every declaration before the block is a port
kept : (b : Bool) (n : ℕ) (l : List ℕ) → b ≡ true → cond b (n ∷ []) [] ++ l ≡ n ∷ l
kept true n l e = refl
kept false n l e = absurd (cc)

is_port_mem : (d : PlainDecl) (k : PlainDeclKind) → is_port (port_mem d k).kind ≡ true
is_port_mem d (arg_in ty) = refl
is_port_mem d (arg_out ty) = refl
is_port_mem d (dram ty dims) = refl

all_ports : (n : ℕ) (decls : List PlainDecl) (rest : List PlainMem) → numbers_of is_port n (ports_declared decls ++ rest) ≡ places n decls ++ numbers_of is_port (n + length decls) rest
all_ports n [] rest = ap (λ m. numbers_of is_port m rest) (omega arith)
all_ports n (d ∷ decls) rest =
    kept (is_port (port_mem d d.kind).kind) n _ (is_port_mem d d.kind)
    ∙ ap (λ l. n ∷ l) (ap (λ m. numbers_of is_port m (ports_declared decls ++ rest)) (omega arith) ∙ all_ports (n + 1) decls rest ∙ ap (λ m. places (n + 1) decls ++ numbers_of is_port m rest) (omega arith))

-- and none of the block
abbrev NoPort : List PlainMem → Type 0
NoPort [] = Unit {0}
NoPort (m ∷ mems) = (is_port m.kind ≡ false) × NoPort mems

no_more : (xs ys : List PlainMem) → NoPort xs → NoPort ys → NoPort (xs ++ ys)
no_more [] ys p q = q
no_more (x ∷ xs) ys p q = (p.0, no_more xs ys p.1 q)

dropped : (b : Bool) (n : ℕ) (l : List ℕ) → b ≡ false → cond b (n ∷ []) [] ++ l ≡ l
dropped true n l e = absurd (cc)
dropped false n l e = refl

not_numbered : (n : ℕ) (mems : List PlainMem) → NoPort mems → numbers_of is_port n mems ≡ []
not_numbered n [] p = refl
not_numbered n (m ∷ mems) p = dropped (is_port m.kind) n _ p.0 ∙ not_numbered (suc n) mems p.1

mutual
  no_port : (ss : PlainStmts) → NoPort (mems_declared ss)
  no_port no_stmt = tt
  no_port (more_stmt (stmt place kind) rest) = no_more (mems_in place kind) (mems_declared rest) (no_port_in place kind) (no_port rest)

  no_port_in : (place : ℕ) (kind : PlainStmtKind) → NoPort (mems_in place kind)
  no_port_in place (reg i ty start) = (refl, tt)
  no_port_in place (sram i ty dims) = (refl, tt)
  no_port_in place (fifo i ty depth) = (refl, tt)
  no_port_in place (line_buffer i ty rows columns) = (refl, tt)
  no_port_in place (block style ss) = no_port ss
  no_port_in place (foreach h ss) = no_port ss
  no_port_in place (reduce h ss acc v c) = no_port ss
  no_port_in place (fold h ss acc v c) = no_port ss
  no_port_in place (mem_reduce h ss acc v c) = no_port ss
  no_port_in place (fsm start tested test now ss last next) = no_port ss
  no_port_in place (branch test first second) = no_more (mems_declared first) (mems_declared second) (no_port first) (no_port second)
  no_port_in place _ = tt

-- so the ports are numbered from 0
pub ports_numbered : (decls : List PlainDecl) (ss : PlainStmts) → numbers_of is_port 0 (ports_declared decls ++ mems_declared ss) ≡ places 0 decls
ports_numbered decls ss = all_ports 0 decls (mems_declared ss) ∙ ap (λ l. places 0 decls ++ l) (not_numbered (0 + length decls) (mems_declared ss) (no_port ss)) ∙ append-nil _
