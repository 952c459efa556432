-- The grammar of statements, declarations and programs.
use Rattle.std.specs.Prelude.{ℕ, List, [], ◌∷◌, Option, Some, None}
use Rattle.sp_words.specs.declared.kind.Style.{Style}
use Rattle.sp_words.specs.declared.kind.Style.TheVariants as style
use Rattle.sp_reader.specs.declared.token.TokenKind.{TokenKind}
use Rattle.sp_reader.specs.declared.token.TokenKind.TheVariants as k
use Rattle.sp_reader.specs.declared.token.Token.{Token}
use Rattle.sp_reader.specs.declared.syntax.expression.SynTy.{SynTy}
use Rattle.sp_reader.specs.PlainTree.{PlainIdent, PlainLit, PlainExpr}
use Rattle.sp_reader.specs.PlainStatement.{PlainSpan, PlainCounter, PlainComb, PlainHead, PlainStmt, PlainStmtKind, stmt, reg, sram, fifo, line_buffer, bind, set, set_at, enq, load, store, gather, scatter, block, foreach, reduce, fold, mem_reduce, fsm, branch, PlainStmts, body, PlainDeclKind, arg_in, arg_out, dram, PlainDecl, PlainSyntax}
use Rattle.sp_reader.specs.Steps.{Text, place_of}
use Rattle.sp_grammar.specs.Tokens.{Takes, IsBreak, MayBreak, IsName, IsCount}
use Rattle.sp_grammar.specs.Expressions.{IsBracketed, IsDims, IsLiteral, AreExprs}
use Rattle.sp_grammar.specs.Loops.{IsWholeExpr, AreSpans, IsCounterList, AreBinds, IsCombiner}

-- the word of a block that stands alone, and of a style before a loop
pub data IsBlock : TokenKind → Style → Type 0 where
  pipe : IsBlock k.Pipe style.Pipe
  sequential : IsBlock k.Sequential style.Sequential
  parallel : IsBlock k.Parallel style.Parallel
  stream : IsBlock k.Stream style.Stream

pub data IsStyle : TokenKind → Style → Type 0 where
  pipe : IsStyle k.Pipe style.Pipe
  sequential : IsStyle k.Sequential style.Sequential

-- the style of a loop, which may be left out
pub data MayHaveStyle : List Token → List Token → Option Style → Type 0 where
  none : {ts : List Token} → MayHaveStyle ts ts None
  some : {kind : TokenKind} {s : Style} {ts us vs : List Token} → IsStyle kind s → Takes kind ts us → Takes k.Dot us vs → MayHaveStyle ts vs (Some s)

-- the word of a loop that combines
pub data IsCombining : TokenKind → (PlainHead → PlainStmts → PlainIdent → PlainExpr → PlainComb → PlainStmtKind) → Type 0 where
  reduces : IsCombining k.Reduce reduce
  folds : IsCombining k.Fold fold
  reduces_memories : IsCombining k.MemReduce mem_reduce

abbrev pub head : Option Style → List PlainCounter → List PlainIdent → PlainHead
head s counters binds = record { style = s; counters = counters; binds = binds }

module _ (source : Text) where
  -- an initial value in parentheses, which may be left out
  pub data MayStart : List Token → List Token → Option PlainLit → Type 0 where
    none : {ts : List Token} → MayStart ts ts None
    some : {ts us vs ws : List Token} {l : PlainLit} → Takes k.OpenRound ts us → IsLiteral source us vs l → Takes k.CloseRound vs ws → MayStart ts ws (Some l)

  -- what a name is bound to, behind its `=`
  pub data IsBound : PlainIdent → List Token → List Token → PlainStmtKind → Type 0 where
    a_reg : {i : PlainIdent} {a b c d : List Token} {t : SynTy} {start : Option PlainLit} → Takes k.Reg a b → IsBracketed source b c t → MayStart c d start → IsBound i a d (reg i t start)
    a_sram : {i : PlainIdent} {a b c d : List Token} {t : SynTy} {dims : List ℕ} → Takes k.Sram a b → IsBracketed source b c t → IsDims source c d dims → IsBound i a d (sram i t dims)
    a_fifo : {i : PlainIdent} {a b c d e f : List Token} {t : SynTy} {depth : ℕ}
        → Takes k.Fifo a b → IsBracketed source b c t → Takes k.OpenRound c d → IsCount source d e depth → Takes k.CloseRound e f → IsBound i a f (fifo i t depth)
    a_line_buffer : {i : PlainIdent} {a b c d e f g h : List Token} {t : SynTy} {rows columns : ℕ}
        → Takes k.LineBuffer a b → IsBracketed source b c t → Takes k.OpenRound c d → IsCount source d e rows → Takes k.Comma e f → IsCount source f g columns → Takes k.CloseRound g h
        → IsBound i a h (line_buffer i t rows columns)
    a_word : {i : PlainIdent} {a b : List Token} {e : PlainExpr} → IsWholeExpr source a b e → IsBound i a b (bind i e)

  -- a name, `=>` and an expression
  pub data IsArrow : List Token → List Token → PlainIdent → PlainExpr → Type 0 where
    arrow : {ts us vs ws : List Token} {i : PlainIdent} {e : PlainExpr} → IsName source ts us i → Takes k.Arrow us vs → IsWholeExpr source vs ws e → IsArrow ts ws i e

  mutual
    pub data IsStmt : List Token → List Token → PlainStmt → Type 0 where
      stands : {ts us : List Token} {s : PlainStmtKind} → IsKind ts us s → IsStmt ts us (stmt (place_of ts) s)

    -- statements with `;` between
    pub data AreMore : List Token → List Token → List PlainStmt → Type 0 where
      last_stmt : {ts us : List Token} {s : PlainStmt} → IsStmt ts us s → AreMore ts us (s ∷ [])
      next_stmt : {ts us vs ws : List Token} {s : PlainStmt} {rest : List PlainStmt} → IsStmt ts us s → IsBreak us vs → AreMore vs ws rest → AreMore ts ws (s ∷ rest)

    -- the statements of a body, with `;` around them
    pub data AreStmts : List Token → List Token → List PlainStmt → Type 0 where
      no_stmts : {ts us : List Token} → MayBreak ts us → AreStmts ts us []
      some_stmts : {ts us vs ws : List Token} {all : List PlainStmt} → MayBreak ts us → AreMore us vs all → MayBreak vs ws → AreStmts ts ws all

    -- statements, each with `;` behind it, and a value
    pub data AreValued : List Token → List Token → List PlainStmt → PlainExpr → Type 0 where
      value_alone : {ts us : List Token} {e : PlainExpr} → IsWholeExpr source ts us e → AreValued ts us [] e
      before_value : {ts us vs ws : List Token} {s : PlainStmt} {rest : List PlainStmt} {e : PlainExpr} → IsStmt ts us s → IsBreak us vs → AreValued vs ws rest e → AreValued ts ws (s ∷ rest) e

    pub data IsValued : List Token → List Token → List PlainStmt → PlainExpr → Type 0 where
      valued : {ts us vs ws : List Token} {all : List PlainStmt} {e : PlainExpr} → MayBreak ts us → AreValued us vs all e → MayBreak vs ws → IsValued ts ws all e

    -- statements in curly brackets
    pub data IsBraced : List Token → List Token → List PlainStmt → Type 0 where
      braced : {ts us vs ws : List Token} {all : List PlainStmt} → Takes k.OpenCurly ts us → AreStmts us vs all → Takes k.CloseCurly vs ws → IsBraced ts ws all

    -- `else` and its block, which may be left out
    pub data MayElse : List Token → List Token → List PlainStmt → Type 0 where
      no_else : {ts : List Token} → MayElse ts ts []
      an_else : {ts us vs : List Token} {all : List PlainStmt} → Takes k.Else ts us → IsBraced us vs all → MayElse ts vs all

    pub data IsKind : List Token → List Token → PlainStmtKind → Type 0 where
      a_val : {ts a b c d : List Token} {i : PlainIdent} {s : PlainStmtKind} → Takes k.Val ts a → IsName source a b i → Takes k.Equal b c → IsBound i c d s → IsKind ts d s
      a_set : {ts a b c : List Token} {i : PlainIdent} {e : PlainExpr} → IsName source ts a i → Takes k.Assign a b → IsWholeExpr source b c e → IsKind ts c (set i e)
      a_set_at : {ts a b c d e f : List Token} {i : PlainIdent} {all : List PlainExpr} {x : PlainExpr}
          → IsName source ts a i → Takes k.OpenRound a b → AreExprs source b c all → Takes k.CloseRound c d → Takes k.Equal d e → IsWholeExpr source e f x → IsKind ts f (set_at i all x)
      an_enq : {ts a b c d e f : List Token} {i : PlainIdent} {x : PlainExpr}
          → IsName source ts a i → Takes k.Dot a b → Takes k.Enq b c → Takes k.OpenRound c d → IsWholeExpr source d e x → Takes k.CloseRound e f → IsKind ts f (enq i x)
      a_load : {ts a b c d e f : List Token} {i j : PlainIdent} {all : List PlainSpan}
          → IsName source ts a i → Takes k.Load a b → IsName source b c j → Takes k.OpenRound c d → AreSpans source d e all → Takes k.CloseRound e f → IsKind ts f (load i j all)
      a_store : {ts a b c d e f : List Token} {i j : PlainIdent} {all : List PlainSpan}
          → IsName source ts a i → Takes k.OpenRound a b → AreSpans source b c all → Takes k.CloseRound c d → Takes k.Store d e → IsName source e f j → IsKind ts f (store i all j)
      a_gather : {ts a b c d e f g h : List Token} {i j p : PlainIdent} {x : PlainExpr}
          → IsName source ts a i → Takes k.Gather a b → IsName source b c j → Takes k.OpenRound c d → IsName source d e p → Takes k.Comma e f → IsWholeExpr source f g x → Takes k.CloseRound g h
          → IsKind ts h (gather i j p x)
      a_scatter : {ts a b c d e f g h : List Token} {i j p : PlainIdent} {x : PlainExpr}
          → IsName source ts a i → Takes k.OpenRound a b → IsName source b c p → Takes k.Comma c d → IsWholeExpr source d e x → Takes k.CloseRound e f → Takes k.Scatter f g → IsName source g h j
          → IsKind ts h (scatter i p x j)
      a_block : {kind : TokenKind} {s : Style} {ts a b : List Token} {all : List PlainStmt} → IsBlock kind s → Takes kind ts a → IsBraced a b all → IsKind ts b (block s (body all))
      a_foreach : {ts a b c d e f g h : List Token} {s : Option Style} {counters : List PlainCounter} {binds : List PlainIdent} {all : List PlainStmt}
          → MayHaveStyle ts a s → Takes k.Foreach a b → IsCounterList source b c counters → Takes k.OpenCurly c d → AreBinds source d e binds → Takes k.Arrow e f → AreStmts f g all → Takes k.CloseCurly g h
          → IsKind ts h (foreach (head s counters binds) (body all))
      a_combining : {kind : TokenKind} {make : PlainHead → PlainStmts → PlainIdent → PlainExpr → PlainComb → PlainStmtKind} {ts a b c d e f g h i j l m : List Token}
          {s : Option Style} {acc : PlainIdent} {counters : List PlainCounter} {binds : List PlainIdent} {all : List PlainStmt} {x : PlainExpr} {comb : PlainComb}
          → IsCombining kind make → MayHaveStyle ts a s → Takes kind a b → Takes k.OpenRound b c → IsName source c d acc → Takes k.CloseRound d e → IsCounterList source e f counters
          → Takes k.OpenCurly f g → AreBinds source g h binds → Takes k.Arrow h i → IsValued i j all x → Takes k.CloseCurly j l → IsCombiner source l m comb
          → IsKind ts m (make (head s counters binds) (body all) acc x comb)
      an_fsm : {ts a b c d e f g h i j l m n o q : List Token} {start test next : PlainExpr} {tested state last : PlainIdent} {all : List PlainStmt}
          → Takes k.Fsm ts a → Takes k.OpenRound a b → IsWholeExpr source b c start → Takes k.CloseRound c d → Takes k.OpenRound d e → IsArrow e f tested test → Takes k.CloseRound f g
          → Takes k.OpenCurly g h → IsName source h i state → Takes k.Arrow i j → AreStmts j l all → Takes k.CloseCurly l m → Takes k.OpenCurly m n → IsArrow n o last next → Takes k.CloseCurly o q
          → IsKind ts q (fsm start tested test state (body all) last next)
      a_branch : {ts a b c d e f : List Token} {test : PlainExpr} {first second : List PlainStmt}
          → Takes k.If ts a → Takes k.OpenRound a b → IsWholeExpr source b c test → Takes k.CloseRound c d → IsBraced d e first → MayElse e f second → IsKind ts f (branch test (body first) (body second))

  -- ---- programs

  pub data IsPort : List Token → List Token → PlainDeclKind → Type 0 where
    an_arg_in : {ts us vs : List Token} {t : SynTy} → Takes k.ArgIn ts us → IsBracketed source us vs t → IsPort ts vs (arg_in t)
    an_arg_out : {ts us vs : List Token} {t : SynTy} → Takes k.ArgOut ts us → IsBracketed source us vs t → IsPort ts vs (arg_out t)
    a_dram : {ts us vs ws : List Token} {t : SynTy} {dims : List ℕ} → Takes k.Dram ts us → IsBracketed source us vs t → IsDims source vs ws dims → IsPort ts ws (dram t dims)

  -- declarations, each with `;` behind it
  pub data AreDecls : List Token → List Token → List PlainDecl → Type 0 where
    none : {ts : List Token} → AreDecls ts ts []
    next : {ts a b c d e f : List Token} {i : PlainIdent} {p : PlainDeclKind} {rest : List PlainDecl}
        → Takes k.Val ts a → IsName source a b i → Takes k.Equal b c → IsPort c d p → IsBreak d e → AreDecls e f rest → AreDecls ts f (record { place = place_of ts; name = i; kind = p } ∷ rest)

  -- all tokens of a text
  pub data IsProgram : List Token → PlainSyntax → Type 0 where
    program : {ts a b c d : List Token} {decls : List PlainDecl} {all : List PlainStmt}
        → MayBreak ts a → AreDecls a b decls → Takes k.Accel b c → IsBraced c d all → MayBreak d [] → IsProgram ts (record { decls = decls; body = all })
