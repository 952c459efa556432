-- What stands at each number of a core, as its events have them: an operation, or a transfer.
use Rattle.std.specs.Prelude.{◌≡◌, ℕ, ◌+◌, ◌<◌, ◌⊎◌, List, [], ◌∷◌, length, slice_index_or}
use Rattle.sp_core.specs.Numbering.{counters_size, spans_size, number_count}
use Rattle.sp_core.specs.PlainCore.{PlainOp, PlainCounter, PlainSpan, single, range, PlainNode, PlainStages, inner, outer, fsm, branch, load, store, sparse, no_stage, more_stage}

pub data Item : Type 0 where
  operation : PlainOp → Item
  -- of a DRAM and a memory
  transfer : (dram mem : ℕ) → Item

-- an operation of a list at a place, by the number of the first one
pub record IsListed (ops : List PlainOp) (first number : ℕ) (op : PlainOp) : Type 0 where
  pub place : ℕ
  pub within : place < length ops
  pub is : slice_index_or ops place op ≡ op
  pub numbered : number ≡ first + place

abbrev pub ListHas : List PlainOp → (first number : ℕ) → Item → Type 0
ListHas ops n x (operation op) = IsListed ops n x op
ListHas ops n x (transfer r m) = ⊥

abbrev pub TransferHas : (first dram mem number : ℕ) → Item → Type 0
TransferHas n r m x (operation op) = ⊥
TransferHas n r m x (transfer q k) = (x ≡ n) × (q ≡ r) × (k ≡ m)

abbrev pub CountersHave : List PlainCounter → (first number : ℕ) → Item → Type 0
CountersHave [] n x i = ⊥
CountersHave (c ∷ counters) n x i = (ListHas c.from n x i ⊎ ListHas c.until (n + length c.from) x i) ⊎ CountersHave counters (n + (length c.from + length c.until)) x i

abbrev pub SpansHave : List PlainSpan → (first number : ℕ) → Item → Type 0
SpansHave [] n x i = ⊥
SpansHave (single ops ∷ spans) n x i = ListHas ops n x i ⊎ SpansHave spans (n + length ops) x i
SpansHave (range a b ∷ spans) n x i = (ListHas a n x i ⊎ ListHas b (n + length a) x i) ⊎ SpansHave spans (n + (length a + length b)) x i

-- a part of a core, whose first number this is, has an item at a number
abbrev mutual
  pub NodeHas : PlainNode → (first number : ℕ) → Item → Type 0
  NodeHas (inner counters owned ops comb) n x i = CountersHave counters n x i ⊎ ListHas ops (n + counters_size counters) x i
  NodeHas (outer counters style owned stages) n x i = CountersHave counters n x i ⊎ StagesHave stages (n + counters_size counters) x i
  NodeHas (fsm start state test body next) n x i =
      (ListHas start n x i ⊎ ListHas test (n + length start) x i)
      ⊎ (NodeHas body (n + (length start + length test)) x i ⊎ ListHas next (n + (length start + (length test + number_count body))) x i)
  NodeHas (branch test first second) n x i = ListHas test n x i ⊎ (NodeHas first (n + length test) x i ⊎ NodeHas second (n + (length test + number_count first)) x i)
  NodeHas (load r m spans) n x i = SpansHave spans n x i ⊎ TransferHas (n + spans_size spans) r m x i
  NodeHas (store r m spans) n x i = SpansHave spans n x i ⊎ TransferHas (n + spans_size spans) r m x i
  NodeHas (sparse kind r m places spans count par) n x i = SpansHave spans n x i ⊎ (ListHas count (n + spans_size spans) x i ⊎ TransferHas (n + (spans_size spans + length count)) r m x i)

  pub StagesHave : PlainStages → (first number : ℕ) → Item → Type 0
  StagesHave no_stage n x i = ⊥
  StagesHave (more_stage first last comb node rest) n x i = NodeHas node n x i ⊎ StagesHave rest (n + number_count node) x i
