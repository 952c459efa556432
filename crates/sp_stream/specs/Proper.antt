-- Which blocks of a core may run their stages at once, each waiting for the words of the others in FIFOs: those are proper.
-- In a core each memory has a node that owns it and is named inside of that node alone.
use Rattle.std.specs.Prelude.{ℕ, zero, suc, ◌+◌, ◌==◌, nat_le, Bool, true, false, ◌&&◌, ◌||◌, not, List, [], ◌∷◌, ◌++◌, filter, length, Option, Some, None, if◌then◌else◌}
use Rattle.std.specs.List.{list_all, list_any}
use Rattle.sp_words.specs.declared.kind.Kind.{Kind}
use Rattle.sp_core.specs.declared.operation.OpKind.{OpKind}
use Rattle.sp_core.specs.declared.operation.OpKind.TheVariants.{Write, Enq, Deq, Reset}
use Rattle.sp_core.specs.Declarations.{mem, is_among}
use Rattle.sp_core.specs.NodeRules.{is_sram, is_line}
use Rattle.sp_core.specs.OperationRules.{is_fifo}
use Rattle.sp_core.specs.PlainCore.{PlainOp, PlainCounter, PlainNode, PlainStages, PlainMem, inner, outer, no_stage, more_stage, PlainCore}
use Rattle.sp_plan.specs.Nodes.{Site, site_at}
use Rattle.sp_plan.specs.Slots.{is_once}

-- what an operation does with its memory. A reset puts and takes at once: it leaves a FIFO empty whatever the others did,
-- so that no stage may make one fresh that joins stages
abbrev pub is_put : OpKind → Bool
is_put Enq = true
is_put Reset = true
is_put _ = false

abbrev pub is_take : OpKind → Bool
is_take Deq = true
is_take Reset = true
is_take _ = false

abbrev pub is_change : OpKind → Bool
is_change Write = true
is_change Enq = true
is_change Deq = true
is_change Reset = true
is_change _ = false

abbrev pub is_any : OpKind → Bool
is_any _ = true

-- whether this number is there
abbrev pub is_number : ℕ → Option ℕ → Bool
is_number m None = false
is_number m (Some k) = m == k

-- an operation of such a kind on a memory
abbrev pub acts_on : (OpKind → Bool) → (mem : ℕ) → PlainOp → Bool
acts_on act m op = act op.kind && is_number m op.mem

-- the operations of the bounds of counters; all those of a loop over one list of operations
abbrev pub bound_ops : List PlainCounter → List PlainOp
bound_ops [] = []
bound_ops (c ∷ counters) = (c.from ++ c.until) ++ bound_ops counters

abbrev pub ops_of : PlainNode → List PlainOp
ops_of (inner counters owned ops comb) = bound_ops counters ++ ops
ops_of node = []

abbrev pub acts_in : (OpKind → Bool) → (mem : ℕ) → PlainNode → Bool
acts_in act m node = list_any (acts_on act m) (ops_of node)

abbrev pub puts_and_takes : (mem : ℕ) → PlainNode → Bool
puts_and_takes m node = acts_in is_put m node && acts_in is_take m node

abbrev pub nodes_of : PlainStages → List PlainNode
nodes_of no_stage = []
nodes_of (more_stage first last comb node rest) = node ∷ nodes_of rest

-- how many stages have such an operation on a memory, and the place of the first of them
abbrev pub how_many : (OpKind → Bool) → (mem : ℕ) → List PlainNode → ℕ
how_many act m nodes = length (filter (acts_in act m) nodes)

abbrev pub place_from : (place : ℕ) → (PlainNode → Bool) → List PlainNode → Option ℕ
place_from n test [] = None
place_from n test (node ∷ nodes) = if test node then Some n else place_from (n + 1) test nodes

-- the first rule: a stage is a loop over one list of operations. It has a counter: a run of statements that stand beside
-- the loops of a block, and a bound that is computed before them, are bodies without one
abbrev pub is_loop : PlainNode → Bool
is_loop (inner (c ∷ counters) owned ops comb) = true
is_loop node = false

abbrev pub bounds_of : PlainNode → List PlainOp
bounds_of (inner counters owned ops comb) = bound_ops counters
bounds_of node = []

-- the third rule, for a FIFO of the block: at most one stage puts into it, at most one takes from it, and none does both
abbrev pub has_one_at_each_end : List PlainNode → (fifo : ℕ) → Bool
has_one_at_each_end nodes m = (nat_le (how_many is_put m nodes) 1 && nat_le (how_many is_take m nodes) 1) && not (list_any (puts_and_takes m) nodes)

-- the fourth rule, for any other memory: where two stages name it, none changes it. An `enq` and a `deq` change their FIFO,
-- so that one of another owner is named by one stage alone
abbrev pub is_shared_unchanged : List PlainNode → (mem : ℕ) → Bool
is_shared_unchanged nodes m = nat_le (how_many is_any m nodes) 1 || (how_many is_change m nodes == 0)

module _ (owned : List ℕ) (nodes : List PlainNode) where
  -- a memory, by its number and its kind: it is a FIFO of the block, or keeps the fourth rule
  abbrev pub is_mem_right : (mem : ℕ) → Kind → Bool
  is_mem_right m kind = (is_fifo kind && is_among m owned) || is_shared_unchanged nodes m

  -- so is each of these memories, of which the first has this number
  abbrev pub are_mems_right : (mem : ℕ) → List PlainMem → Bool
  are_mems_right m [] = true
  are_mems_right m (x ∷ rest) = is_mem_right m x.kind && are_mems_right (m + 1) rest

-- the other one of two ends, if both are there and this is one of them
abbrev pub other_end : (putter taker : Option ℕ) → (stage : ℕ) → Option ℕ
other_end (Some p) (Some q) a = if a == p then Some q else if a == q then Some p else None
other_end _ _ a = None

-- going on from the other end, if there is one
abbrev pub leads_on : (goes : ℕ → Bool) → Option ℕ → Bool
leads_on goes None = false
leads_on goes (Some c) = goes c

-- two ends, if both are there
abbrev pub between : (are : ℕ → ℕ → Bool) → (putter taker : Option ℕ) → Bool
between are (Some p) (Some q) = are p q
between are _ _ = false

module _ (core : PlainCore) where
  -- the second rule, for an operation of a bound: it names no SRAM and no line buffer
  abbrev pub is_array : Kind → Bool
  is_array kind = is_sram kind || is_line kind

  abbrev pub names_array : Option ℕ → Bool
  names_array None = false
  names_array (Some m) = is_array (mem core m).kind

  abbrev pub has_array : List PlainOp → Bool
  has_array ops = list_any (λ (op : PlainOp). names_array op.mem) ops

  -- a stage by the first two rules
  abbrev pub is_stage : PlainNode → Bool
  is_stage node = is_loop node && not (has_array (bounds_of node))

  module _ (nodes : List PlainNode) where
    -- a memory of the block by the third rule
    abbrev pub is_end_right : (mem : ℕ) → Bool
    is_end_right m = not (is_fifo (mem core m).kind) || has_one_at_each_end nodes m

    -- the graph of the fifth rule: a FIFO joins the stage that puts into it with the one that takes from it
    abbrev pub putter : (fifo : ℕ) → Option ℕ
    putter m = if is_fifo (mem core m).kind then place_from 0 (acts_in is_put m) nodes else None

    abbrev pub taker : (fifo : ℕ) → Option ℕ
    taker m = if is_fifo (mem core m).kind then place_from 0 (acts_in is_take m) nodes else None

    abbrev pub across : (fifo stage : ℕ) → Option ℕ
    across m a = other_end (putter m) (taker m) a

    -- there is a way between two stages over some of these FIFOs, of at most so many steps
    abbrev pub are_joined : (fifos : List ℕ) → (steps a b : ℕ) → Bool
    are_joined fifos zero a b = a == b
    are_joined fifos (suc n) a b = (a == b) || list_any (λ m. leads_on (λ c. are_joined fifos n c b) (across m a)) fifos

    -- a FIFO closes a circle with others: these join its two ends, on a way of at most one step for each of them
    abbrev pub closes : (fifos : List ℕ) → (fifo : ℕ) → Bool
    closes fifos m = between (are_joined fifos (length fifos)) (putter m) (taker m)

    -- the graph is a forest: no FIFO closes a circle with those after it. So no two FIFOs join the same stages
    abbrev pub is_forest : (fifos : List ℕ) → Bool
    is_forest [] = true
    is_forest (m ∷ rest) = is_forest rest && not (closes rest m)

  -- all five rules
  abbrev pub is_proper_block : (owned : List ℕ) → List PlainNode → Bool
  is_proper_block owned nodes =
      (list_all is_stage nodes && list_all (is_end_right nodes) owned)
      && (are_mems_right owned nodes 0 core.mems && is_forest nodes owned)

  -- only a body that runs once is a block
  abbrev pub is_proper_node : PlainNode → Bool
  is_proper_node (outer counters style owned stages) = is_once counters && is_proper_block owned (nodes_of stages)
  is_proper_node node = false

  abbrev pub is_proper_at : Option Site → Bool
  is_proper_at None = false
  is_proper_at (Some site) = is_proper_node site.node

-- the node of a number is a proper block
abbrev pub is_proper : PlainCore → (node : ℕ) → Bool
is_proper core k = is_proper_at core (site_at k 0 false core.root)
