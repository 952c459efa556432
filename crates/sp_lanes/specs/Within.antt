-- What a name of the core stands for where lanes stand one after the other: a counter for its value in a lane, a memory for
-- that of the lane in which its owner stands.
use Rattle.std.specs.Prelude.{ℕ, ◌+◌, ◌*◌, List, [], ◌∷◌, map, option_map, if◌then◌else◌}
use Rattle.sp_core.specs.declared.operation.OpKind.{OpKind}
use Rattle.sp_core.specs.declared.operation.OpKind.TheVariants.{Count, Live}
use Rattle.sp_core.specs.Around.{lanes_of}
use Rattle.sp_core.specs.Declarations.{is_among}
use Rattle.sp_core.specs.PlainCore.{PlainOp, PlainCounter, PlainSpan, single, range}
use Rattle.sp_core.specs.Store.{changed}
use Rattle.sp_lanes.specs.Order.{occurrence}

-- a place in the tree: the lane of each counter around; the number that each memory around has; and which of the copies
-- this one is, in the order in which they stand
pub record Within : Type 0 where
  pub lane : ℕ → ℕ
  pub number : ℕ → ℕ
  pub copy : ℕ

-- outside of all controllers, by the order of the memories
abbrev pub outside : (order : List ℕ) → Within
outside order = record { lane = λ c. 0; number = λ m. occurrence m 0 order; copy = 0 }

-- where these memories have their owner
abbrev pub owning : (order owned : List ℕ) → Within → Within
owning order owned w = record w { number = λ m. if is_among m owned then occurrence m w.copy order else w.number m }

-- in a lane of a controller, of which only the last counter has lanes
abbrev pub with_lane : List PlainCounter → (lane : ℕ) → (ℕ → ℕ) → ℕ → ℕ
with_lane [] l lanes = lanes
with_lane (c ∷ []) l lanes = changed lanes c.number l
with_lane (c ∷ counters) l lanes = with_lane counters l (changed lanes c.number 0)

abbrev pub in_lane : (order : List ℕ) → List PlainCounter → (owned : List ℕ) → Within → (lane : ℕ) → Within
in_lane order counters owned w l =
    owning order owned (record { lane = with_lane counters l w.lane; number = w.number; copy = w.copy * lanes_of counters + l })

-- an operation, lists of them, counters and slices
abbrev pub kind_in : Within → OpKind → OpKind
kind_in w (Count c l) = Count c (w.lane c)
kind_in w (Live c first last) = Live c (w.lane c) (w.lane c)
kind_in w kind = kind

abbrev pub op_in : Within → PlainOp → PlainOp
op_in w op = record op { kind = kind_in w op.kind; mem = option_map w.number op.mem }

abbrev pub ops_in : Within → List PlainOp → List PlainOp
ops_in w ops = map (op_in w) ops

abbrev pub counter_in : Within → PlainCounter → PlainCounter
counter_in w c = record c { from = ops_in w c.from; until = ops_in w c.until }

abbrev pub counters_in : Within → List PlainCounter → List PlainCounter
counters_in w counters = map (counter_in w) counters

abbrev pub span_in : Within → PlainSpan → PlainSpan
span_in w (single ops) = single (ops_in w ops)
span_in w (range a b) = range (ops_in w a) (ops_in w b)

abbrev pub spans_in : Within → List PlainSpan → List PlainSpan
spans_in w spans = map (span_in w) spans
