-- How many cycles operations take, how much there is to do in a core, and the limit that follows from it.
use Rattle.std.specs.Prelude.{ℕ, ◌+◌, ◌*◌, List, [], ◌∷◌, Option, Some, None}
use Rattle.sp_words.specs.declared.kind.BinOp.{BinOp}
use Rattle.sp_words.specs.declared.kind.BinOp.TheVariants as binary
use Rattle.sp_words.specs.declared.kind.Kind.{Kind}
use Rattle.sp_words.specs.declared.kind.Kind.TheVariants.{Sram, LineBuf}
use Rattle.sp_core.specs.declared.operation.OpKind.{OpKind}
use Rattle.sp_core.specs.declared.operation.OpKind.TheVariants.{Word, Count, Live, Read, Deq, Two}
use Rattle.sp_core.specs.Declarations.{mem}
use Rattle.sp_core.specs.PlainCore.{PlainOp, PlainCounter, PlainSpan, single, range, PlainNode, PlainStages, inner, outer, fsm, branch, load, store, sparse, no_stage, more_stage, PlainCore}

-- a read of a memory of a kind: of an SRAM or a line buffer 2, of any other 1
abbrev pub read_latency : Kind → ℕ
read_latency Sram = 2
read_latency LineBuf = 2
read_latency _ = 1

-- a product takes 2, a quotient and a remainder 4, every other operator 1
abbrev pub operator_latency : BinOp → ℕ
operator_latency binary.Mul = 2
operator_latency binary.Div = 4
operator_latency binary.Rem = 4
operator_latency _ = 1

-- words, counters and lanes are there at once; a `deq` takes 2; writes, resets and all else take 1
abbrev pub latency_by : OpKind → (read : ℕ) → ℕ
latency_by (Word w) read = 0
latency_by (Count c lane) read = 0
latency_by (Live c first last) read = 0
latency_by Read read = read
latency_by Deq read = 2
latency_by (Two op) read = operator_latency op
latency_by _ read = 1

module _ (core : PlainCore) where
  abbrev pub read_of : Option ℕ → ℕ
  read_of None = 1
  read_of (Some m) = read_latency (mem core m).kind

  abbrev pub latency : PlainOp → ℕ
  latency op = latency_by op.kind (read_of op.mem)

  -- of operations one after the other
  abbrev pub latency_of_all : List PlainOp → ℕ
  latency_of_all [] = 0
  latency_of_all (op ∷ ops) = latency op + latency_of_all ops

  -- an operation has a weight of 1 and its latency; a word, a counter and a lane are no operations
  abbrev pub weight_by : OpKind → (latency : ℕ) → ℕ
  weight_by (Word w) n = 0
  weight_by (Count c lane) n = 0
  weight_by (Live c first last) n = 0
  weight_by _ n = 1 + n

  abbrev pub list_weight : List PlainOp → ℕ
  list_weight [] = 0
  list_weight (op ∷ ops) = weight_by op.kind (latency op) + list_weight ops

  abbrev pub counters_weight : List PlainCounter → ℕ
  counters_weight [] = 0
  counters_weight (c ∷ counters) = (list_weight c.from + list_weight c.until) + counters_weight counters

  abbrev pub spans_weight : List PlainSpan → ℕ
  spans_weight [] = 0
  spans_weight (single ops ∷ spans) = list_weight ops + spans_weight spans
  spans_weight (range a b ∷ spans) = (list_weight a + list_weight b) + spans_weight spans

  -- a node has a weight of 4, a wide transfer one of 4 for each lane
  abbrev mutual
    pub weight : PlainNode → ℕ
    weight (inner counters owned ops comb) = 4 + (counters_weight counters + list_weight ops)
    weight (outer counters style owned stages) = 4 + (counters_weight counters + stages_weight stages)
    weight (fsm start state test body next) = 4 + ((list_weight start + list_weight test) + (weight body + list_weight next))
    weight (branch test first second) = 4 + (list_weight test + (weight first + weight second))
    weight (load r m spans) = 4 + spans_weight spans
    weight (store r m spans) = 4 + spans_weight spans
    weight (sparse kind r m places spans count par) = 4 * par + (spans_weight spans + list_weight count)

    pub stages_weight : PlainStages → ℕ
    stages_weight no_stage = 0
    stages_weight (more_stage first last comb node rest) = weight node + stages_weight rest

-- the cycles within which a program of n turns is done, where no transfer waits longer than a delay
abbrev pub limit : (n delay : ℕ) → PlainCore → ℕ
limit n delay core = (n + 1) * (delay + 8 * (weight core core.root + 1))
