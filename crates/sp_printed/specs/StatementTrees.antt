-- The trees that spell the statements and declarations of a program.
use Rattle.std.specs.Prelude.{◌≡◌, ℕ, ◌==◌, not, true, false, List, [], ◌∷◌, Option, Some, None}
use Rattle.sp_words.specs.declared.kind.Kind.TheVariants.{Reg, Sram, Fifo, LineBuf, Dram, ArgIn, ArgOut}
use Rattle.sp_words.specs.declared.kind.Style.{Style}
use Rattle.sp_words.specs.declared.types.FixTy.{FixTy}
use Rattle.sp_words.specs.declared.types.Ty.{Ty}
use Rattle.sp_words.specs.declared.types.Ty.TheVariants.{Fix, Bit}
use Rattle.sp_tree.specs.Counts.{is_port}
use Rattle.sp_tree.specs.declared.statement.Comb.{Comb}
use Rattle.sp_tree.specs.PlainExpression.{PlainExpr, PlainExprs}
use Rattle.sp_tree.specs.PlainProgram.{PlainMem, PlainProgram}
use Rattle.sp_tree.specs.PlainStatement as program
use Rattle.sp_reader.specs.declared.syntax.expression.SynTy.{SynTy}
use Rattle.sp_reader.specs.PlainTree as tree
use Rattle.sp_reader.specs.PlainStatement as tree_of
use Rattle.sp_printer.specs.Names.{Names, names_in, mem_of, mem_name, val_name}
use Rattle.sp_printer.specs.Types.{is_int_fix}
use Rattle.sp_printed.specs.Trees.{IsLiteral, IsTypeTree, IsTree, AreTrees}
use Rattle.sp_printed.specs.LoopTrees.{AreSpanTrees, IsHeadTree, IsCombTree}

-- the word that a register begins with
pub data IsStartTree : Ty → Option ℕ → Option tree.PlainLit → Type 0 where
  none : {ty : Ty} → IsStartTree ty None None
  number : {t : FixTy} {w : ℕ} {d : tree.PlainDigits} → is_int_fix t ≡ true → IsLiteral (Fix t) w d → IsStartTree (Fix t) (Some w) (Some (tree.number_lit d None))
  typed_number : {t : FixTy} {w : ℕ} {d : tree.PlainDigits} {target : SynTy} → is_int_fix t ≡ false → IsLiteral (Fix t) w d → IsTypeTree (Fix t) target → IsStartTree (Fix t) (Some w) (Some (tree.number_lit d (Some target)))
  truth : {w at : ℕ} → IsStartTree Bit (Some w) (Some (tree.truth_lit at (not (w == 0))))

-- a declaration in a body
pub data IsDeclareTree (m : PlainMem) : tree_of.PlainStmtKind → Type 0 where
  a_reg : {i : tree.PlainIdent} {t : SynTy} {start : Option tree.PlainLit} → m.kind ≡ Reg → i.text ≡ m.name → IsTypeTree m.ty t → IsStartTree m.ty m.start start → IsDeclareTree m (tree_of.reg i t start)
  an_sram : {i : tree.PlainIdent} {t : SynTy} → m.kind ≡ Sram → i.text ≡ m.name → IsTypeTree m.ty t → IsDeclareTree m (tree_of.sram i t m.dims)
  a_fifo : {i : tree.PlainIdent} {t : SynTy} {depth : ℕ} → m.kind ≡ Fifo → i.text ≡ m.name → IsTypeTree m.ty t → m.dims ≡ depth ∷ [] → IsDeclareTree m (tree_of.fifo i t depth)
  a_line : {i : tree.PlainIdent} {t : SynTy} {rows columns : ℕ} → m.kind ≡ LineBuf → i.text ≡ m.name → IsTypeTree m.ty t → m.dims ≡ rows ∷ columns ∷ [] → IsDeclareTree m (tree_of.line_buffer i t rows columns)

module _ (names : Names) where
  mutual
    pub data IsStmtTree : program.PlainStmtKind → tree_of.PlainStmtKind → Type 0 where
      declared : {m : ℕ} {x : tree_of.PlainStmtKind} → IsDeclareTree (mem_of names m) x → IsStmtTree (program.declare m) x
      bound : {v : ℕ} {e : PlainExpr} {i : tree.PlainIdent} {x : tree.PlainExpr} → i.text ≡ val_name names v → IsTree names e x → IsStmtTree (program.name v e) (tree_of.bind i x)
      reg_set : {m : ℕ} {e : PlainExpr} {i : tree.PlainIdent} {x : tree.PlainExpr} → i.text ≡ mem_name names m → IsTree names e x → IsStmtTree (program.set_reg m e) (tree_of.set i x)
      out_set : {m : ℕ} {e : PlainExpr} {i : tree.PlainIdent} {x : tree.PlainExpr} → i.text ≡ mem_name names m → IsTree names e x → IsStmtTree (program.set_out m e) (tree_of.set i x)
      sram_set : {m : ℕ} {indices : PlainExprs} {e : PlainExpr} {i : tree.PlainIdent} {all : List tree.PlainExpr} {x : tree.PlainExpr} → i.text ≡ mem_name names m → AreTrees names indices (tree.row all) → IsTree names e x
          → IsStmtTree (program.set_sram m indices e) (tree_of.set_at i all x)
      put : {m : ℕ} {e : PlainExpr} {i : tree.PlainIdent} {x : tree.PlainExpr} → i.text ≡ mem_name names m → IsTree names e x → IsStmtTree (program.enq m e) (tree_of.enq i x)
      sram_loaded : {sram dram : ℕ} {spans : List program.PlainSpan} {i j : tree.PlainIdent} {all : List tree_of.PlainSpan} → i.text ≡ mem_name names sram → j.text ≡ mem_name names dram → AreSpanTrees names spans all
          → IsStmtTree (program.load_sram sram dram spans) (tree_of.load i j all)
      line_loaded : {line dram : ℕ} {spans : List program.PlainSpan} {i j : tree.PlainIdent} {all : List tree_of.PlainSpan} → i.text ≡ mem_name names line → j.text ≡ mem_name names dram → AreSpanTrees names spans all
          → IsStmtTree (program.load_line line dram spans) (tree_of.load i j all)
      stored : {dram sram : ℕ} {spans : List program.PlainSpan} {i j : tree.PlainIdent} {all : List tree_of.PlainSpan} → i.text ≡ mem_name names dram → j.text ≡ mem_name names sram → AreSpanTrees names spans all
          → IsStmtTree (program.store dram spans sram) (tree_of.store i all j)
      gathered : {sram dram places : ℕ} {e : PlainExpr} {i j l : tree.PlainIdent} {x : tree.PlainExpr} → i.text ≡ mem_name names sram → j.text ≡ mem_name names dram → l.text ≡ mem_name names places → IsTree names e x
          → IsStmtTree (program.gather sram dram places e) (tree_of.gather i j l x)
      scattered : {dram places sram : ℕ} {e : PlainExpr} {i j l : tree.PlainIdent} {x : tree.PlainExpr} → i.text ≡ mem_name names dram → l.text ≡ mem_name names places → j.text ≡ mem_name names sram → IsTree names e x
          → IsStmtTree (program.scatter dram places e sram) (tree_of.scatter i l x j)
      blocked : {s : Style} {body : program.PlainStmts} {ss : tree_of.PlainStmts} → IsBodyTree body ss → IsStmtTree (program.block s body) (tree_of.block s ss)
      looped : {s : Style} {counters : List program.PlainCounter} {body : program.PlainStmts} {h : tree_of.PlainHead} {ss : tree_of.PlainStmts} → IsHeadTree names s counters h → IsBodyTree body ss
          → IsStmtTree (program.foreach s counters body) (tree_of.foreach h ss)
      reduced : {s : Style} {acc : ℕ} {counters : List program.PlainCounter} {body : program.PlainStmts} {word : PlainExpr} {c : Comb} {h : tree_of.PlainHead} {ss : tree_of.PlainStmts} {i : tree.PlainIdent} {x : tree.PlainExpr} {y : tree_of.PlainComb}
          → IsHeadTree names s counters h → i.text ≡ mem_name names acc → IsBodyTree body ss → IsTree names word x → IsCombTree c y → IsStmtTree (program.reduce s false acc counters body word c) (tree_of.reduce h ss i x y)
      folded : {s : Style} {acc : ℕ} {counters : List program.PlainCounter} {body : program.PlainStmts} {word : PlainExpr} {c : Comb} {h : tree_of.PlainHead} {ss : tree_of.PlainStmts} {i : tree.PlainIdent} {x : tree.PlainExpr} {y : tree_of.PlainComb}
          → IsHeadTree names s counters h → i.text ≡ mem_name names acc → IsBodyTree body ss → IsTree names word x → IsCombTree c y → IsStmtTree (program.reduce s true acc counters body word c) (tree_of.fold h ss i x y)
      mem_reduced : {s : Style} {acc part at : ℕ} {counters : List program.PlainCounter} {body : program.PlainStmts} {c : Comb} {h : tree_of.PlainHead} {ss : tree_of.PlainStmts} {i j : tree.PlainIdent} {y : tree_of.PlainComb}
          → IsHeadTree names s counters h → i.text ≡ mem_name names acc → IsBodyTree body ss → j.text ≡ mem_name names part → IsCombTree c y
          → IsStmtTree (program.mem_reduce s acc counters body part c) (tree_of.mem_reduce h ss i (tree.expr at (tree.name j false)) y)
      machine : {start test next : PlainExpr} {tested state last : ℕ} {body : program.PlainStmts} {x y z : tree.PlainExpr} {i j l : tree.PlainIdent} {ss : tree_of.PlainStmts}
          → IsTree names start x → i.text ≡ val_name names tested → IsTree names test y → j.text ≡ val_name names state → IsBodyTree body ss → l.text ≡ val_name names last → IsTree names next z
          → IsStmtTree (program.fsm start tested test state body last next) (tree_of.fsm x i y j ss l z)
      branched : {test : PlainExpr} {first second : program.PlainStmts} {x : tree.PlainExpr} {ss us : tree_of.PlainStmts} → IsTree names test x → IsBodyTree first ss → IsBodyTree second us
          → IsStmtTree (program.branch test first second) (tree_of.branch x ss us)

    pub data IsBodyTree : program.PlainStmts → tree_of.PlainStmts → Type 0 where
      empty : IsBodyTree program.no_stmt tree_of.no_stmt
      more : {place at : ℕ} {s : program.PlainStmtKind} {x : tree_of.PlainStmtKind} {rest : program.PlainStmts} {all : tree_of.PlainStmts} → IsStmtTree s x → IsBodyTree rest all
          → IsBodyTree (program.more_stmt (program.stmt place s) rest) (tree_of.more_stmt (tree_of.stmt at x) all)

-- an argument, an output or a DRAM
pub data IsPortTree (m : PlainMem) : tree_of.PlainDecl → Type 0 where
  an_arg : {at : ℕ} {i : tree.PlainIdent} {t : SynTy} → m.kind ≡ ArgIn → i.text ≡ m.name → IsTypeTree m.ty t → IsPortTree m (record { place = at; name = i; kind = tree_of.arg_in t })
  an_out : {at : ℕ} {i : tree.PlainIdent} {t : SynTy} → m.kind ≡ ArgOut → i.text ≡ m.name → IsTypeTree m.ty t → IsPortTree m (record { place = at; name = i; kind = tree_of.arg_out t })
  a_dram : {at : ℕ} {i : tree.PlainIdent} {t : SynTy} → m.kind ≡ Dram → i.text ≡ m.name → IsTypeTree m.ty t → IsPortTree m (record { place = at; name = i; kind = tree_of.dram t m.dims })

-- those among the memories, in order
pub data ArePortTrees : List PlainMem → List tree_of.PlainDecl → Type 0 where
  no_ports : ArePortTrees [] []
  passed : {m : PlainMem} {rest : List PlainMem} {all : List tree_of.PlainDecl} → is_port m.kind ≡ false → ArePortTrees rest all → ArePortTrees (m ∷ rest) all
  more_ports : {m : PlainMem} {d : tree_of.PlainDecl} {rest : List PlainMem} {all : List tree_of.PlainDecl} → is_port m.kind ≡ true → IsPortTree m d → ArePortTrees rest all → ArePortTrees (m ∷ rest) (d ∷ all)

pub record IsProgramTree (p : PlainProgram) (s : tree_of.PlainSyntax) : Type 0 where
  pub ports : ArePortTrees p.mems s.decls
  pub block : IsBodyTree (names_in p) p.body (tree_of.body s.body)
