-- Programs in which each statement has a time of its own in a timeline.
use Rattle.std.specs.Prelude.{◌≡◌, Bool, false, List}
use Rattle.sp_words.specs.declared.kind.Style.{Style}
use Rattle.sp_words.specs.declared.kind.Style.TheVariants.{Stream}
use Rattle.sp_tree.specs.PlainProgram.{PlainMem}
use Rattle.sp_tree.specs.PlainStatement.{PlainStmtKind, PlainStmts, stmt, load_sram, store, gather, scatter, block, foreach, reduce, mem_reduce, fsm, branch, no_stmt, more_stmt}
use Rattle.sp_tree.specs.Streams.{is_proper}
use Rattle.sp_tree.specs.Structure.{slice_lanes}

-- a block isn't a stream block that is proper
abbrev pub IsInTurn : Style → (proper : Bool) → Type 0
IsInTurn Stream proper = proper ≡ false
IsInTurn _ proper = Unit {0}

-- by the declarations of the memories: no proper stream block, no gather and no scatter, and slices in one lane
module _ (mems : List PlainMem) where
  abbrev mutual
    pub StmtTimed : PlainStmtKind → Type 0
    StmtTimed (load_sram sram dram spans) = slice_lanes spans ≡ 1
    StmtTimed (store dram spans sram) = slice_lanes spans ≡ 1
    StmtTimed (gather sram dram places count) = ⊥
    StmtTimed (scatter dram places count sram) = ⊥
    StmtTimed (block style body) = IsInTurn style (is_proper mems body) × BodyTimed body
    StmtTimed (foreach style counters body) = BodyTimed body
    StmtTimed (reduce style fold acc counters body word comb) = BodyTimed body
    StmtTimed (mem_reduce style acc counters body part comb) = BodyTimed body
    StmtTimed (fsm start tested test state body last next) = BodyTimed body
    StmtTimed (branch test first second) = BodyTimed first × BodyTimed second
    StmtTimed kind = Unit {0}

    pub BodyTimed : PlainStmts → Type 0
    BodyTimed no_stmt = Unit {0}
    BodyTimed (more_stmt (stmt place kind) rest) = StmtTimed kind × BodyTimed rest
