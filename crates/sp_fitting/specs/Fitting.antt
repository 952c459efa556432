-- When the words of a core fit their types: those that memories hold, those that operations give, those that are moved.
use Rattle.std.specs.Prelude.{◌≡◌, ℕ, ◌-◌, ◌<◌, nat_lt, true, false, List, [], ◌∷◌, length, Option, Some, IfSome, if◌then◌else◌}
use Rattle.std.specs.List.{All, AllZip}
use Rattle.std.specs.Option.{unwrap_or}
use Rattle.sp_words.specs.declared.types.Ty.{Ty}
use Rattle.sp_words.specs.Memory.{Contents, cells, queue, rows, words}
use Rattle.sp_words.specs.Types.{int_type}
use Rattle.sp_words.specs.Words.{IsWord}
use Rattle.sp_core.specs.declared.node.SparseKind.TheVariants.{Gather, Scatter, WideLoad, WideStore}
use Rattle.sp_core.specs.declared.operation.OpKind.{OpKind}
use Rattle.sp_core.specs.Declarations.{mem, dram, dram_number}
use Rattle.sp_core.specs.Events.{Act, reads, writes, puts, takes, Moment, touches, keeps}
use Rattle.sp_core.specs.History.{Entry, word_of, word_at, Bounds, Taken, one, both, History, Groups, Runs, Turns, inner_ran, outer_ran, fsm_ran, branch_ran, moved, picked, no_group, more_group, no_run, masked_run, more_run, no_turn, more_turn}
use Rattle.sp_core.specs.PlainCore.{PlainOp, PlainCounter, PlainSpan, single, range, PlainNode, PlainStages, inner, outer, fsm, branch, load, store, sparse, no_stage, more_stage, PlainCore}
use Rattle.sp_core.specs.Replay.{after_moment}
use Rattle.sp_core.specs.Store.{Store}
use Rattle.sp_core.specs.Typed.{given_type}

-- the type of the words of a memory, by its number; all after the memories are DRAMs
abbrev pub type_at : PlainCore → ℕ → Ty
type_at core m = if nat_lt m (length core.mems) then (mem core m).ty else (dram core (m - length core.mems)).ty

-- a cell is not written yet, or has a word of the type
abbrev pub IsCell : Ty → Option ℕ → Type 0
IsCell ty cell = IfSome cell (IsWord ty)

-- what a memory holds is words of a type
abbrev pub AreWords : Ty → Contents → Type 0
AreWords ty (cells cs) = All (IsCell ty) cs
AreWords ty (queue ws) = All (IsWord ty) ws
AreWords ty (rows rs) = All (All (IsCell ty)) rs
AreWords ty (words ws) = All (IsWord ty) ws

-- each memory that has been made holds words of its type
abbrev pub StoreFits : PlainCore → Store → Type 0
StoreFits core s = (m : ℕ) → IfSome (s m) (AreWords (type_at core m))

-- the type of the word that stands for an operation: of the one that it gives or, where it gives none, of the one that it
-- writes or puts
abbrev pub word_type : OpKind → Ty → Ty
word_type kind ty = unwrap_or (given_type kind ty) ty

-- each operation of a list has a word of its type
abbrev pub EntriesFit : List PlainOp → List Entry → Type 0
EntriesFit ops es = AllZip (λ (op : PlainOp) e. IsWord (word_type op.kind op.ty) (word_of e)) ops es

-- the words of masks are 0 or 1
abbrev pub MasksAreBits : List PlainOp → List Entry → Type 0
MasksAreBits [] es = Unit {0}
MasksAreBits (op ∷ ops) es = ((k : ℕ) → op.mask ≡ Some k → word_at es k < 2) × MasksAreBits ops es

abbrev pub BoundsFit : PlainCounter → Bounds → Type 0
BoundsFit c b = EntriesFit c.from b.from × EntriesFit c.until b.until

abbrev pub SpanFits : PlainSpan → Taken → Type 0
SpanFits (single ops) (one es) = EntriesFit ops es
SpanFits (range a b) (both es fs) = EntriesFit a es × EntriesFit b fs
SpanFits _ _ = ⊥

-- what is read, written, put or taken has the type of its memory
abbrev pub ActFits : Ty → Act → Type 0
ActFits ty (reads w) = IsWord ty w
ActFits ty (writes w) = IsWord ty w
ActFits ty (puts w) = IsWord ty w
ActFits ty (takes w) = IsWord ty w
ActFits ty _ = Unit {0}

module _ (core : PlainCore) where
  -- a word of a DRAM's type, and one that is moved by a gather or scatter, with the word that is its place
  abbrev pub OfDram : (dram : ℕ) → ℕ → Type 0
  OfDram r w = IsWord (type_at core (dram_number core r)) w

  abbrev pub IsPicked : (dram : ℕ) → ℕ × ℕ → Type 0
  IsPicked r w = IsWord int_type w.0 × OfDram r w.1

  -- in a history the lists of each node have words of their types, and words that are moved have their DRAM's type
  abbrev mutual
    pub HistoryFits : PlainNode → History → Type 0
    HistoryFits (inner counters owned ops comb) (inner_ran bs counts groups) = AllZip BoundsFit counters bs × All (EntriesFit ops) groups
    HistoryFits (outer counters style owned stages) (outer_ran bs counts groups) = AllZip BoundsFit counters bs × GroupsFit stages groups
    HistoryFits (fsm start state test body next) (fsm_ran first ts last) = EntriesFit start first × (TurnsFit test body next ts × EntriesFit test last)
    HistoryFits (branch test first second) (branch_ran es true h) = EntriesFit test es × HistoryFits first h
    HistoryFits (branch test first second) (branch_ran es false h) = EntriesFit test es × HistoryFits second h
    HistoryFits (load r m spans) (moved ts ws) = AllZip SpanFits spans ts × All (OfDram r) ws
    HistoryFits (store r m spans) (moved ts ws) = AllZip SpanFits spans ts × All (OfDram r) ws
    HistoryFits (sparse Gather r m index spans count par) (picked es ws) = EntriesFit count es × All (IsPicked r) ws
    HistoryFits (sparse Scatter r m index spans count par) (picked es ws) = EntriesFit count es × All (IsPicked r) ws
    HistoryFits (sparse WideLoad r m index spans count par) (moved ts ws) = AllZip SpanFits spans ts × All (OfDram r) ws
    HistoryFits (sparse WideStore r m index spans count par) (moved ts ws) = AllZip SpanFits spans ts × All (OfDram r) ws
    HistoryFits _ _ = ⊥

    pub GroupsFit : PlainStages → Groups → Type 0
    GroupsFit stages no_group = Unit {0}
    GroupsFit stages (more_group runs rest) = RunsFit stages runs × GroupsFit stages rest

    pub RunsFit : PlainStages → Runs → Type 0
    RunsFit no_stage no_run = Unit {0}
    RunsFit (more_stage first last comb node rest) (more_run h hs) = HistoryFits node h × RunsFit rest hs
    RunsFit (more_stage first last comb node rest) (masked_run hs) = RunsFit rest hs
    RunsFit _ _ = ⊥

    pub TurnsFit : (test : List PlainOp) → PlainNode → (next : List PlainOp) → Turns → Type 0
    TurnsFit test body next no_turn = Unit {0}
    TurnsFit test body next (more_turn es h ns rest) = (EntriesFit test es × (HistoryFits body h × EntriesFit next ns)) × TurnsFit test body next rest

  abbrev pub MomentFits : Moment → Type 0
  MomentFits (touches e) = ActFits (type_at core e.mem) e.act
  MomentFits (keeps m w) = IsWord (type_at core m) w
  MomentFits _ = Unit {0}

  -- of each store of a run: those in which its moments happen, and the last one
  abbrev pub EachStore : (Store → Type 0) → List Moment → Store → Type 0
  EachStore P [] s = P s
  EachStore P (m ∷ ms) s = P s × EachStore P ms (after_moment core m s)
