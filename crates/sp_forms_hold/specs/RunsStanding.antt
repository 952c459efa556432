-- What stands at a number of a core, with its forms.
use Rattle.std.specs.Prelude.{◌≡◌, ℕ, Bool, ◌+◌, ◌<◌, true, List, [], ◌∷◌, ◌++◌, length, slice_index_or, Option, None, if◌then◌else◌}
use Rattle.sp_words.specs.declared.kind.Style.{Style}
use Rattle.sp_affine.specs.Affine.{Affine}
use Rattle.sp_core.specs.declared.node.SparseKind.{SparseKind}
use Rattle.sp_core.specs.Forms.{form_at}
use Rattle.sp_core.specs.Numbered.{Numbered, plain, accesses, transfers, list_numbers, counters_numbers, spans_numbers, numbers, stages_numbers, access_count, ranges_count, numbered, range_number}
use Rattle.sp_core.specs.Numbering.{counters_size, spans_size, number_count}
use Rattle.sp_core.specs.NodeRules.{range_count}
use Rattle.sp_core.specs.OperationRules.{is_access}
use Rattle.sp_core.specs.PlainCore.{PlainOp, PlainCounter, PlainSpan, single, range, PlainNode, PlainStages, inner, outer, fsm, branch, load, store, sparse, more_stage, PlainCore}
use Rattle.sp_patterns.specs.Indices.{access_forms, slice_forms, range_lengths}
use Rattle.sp_patterns.specs.Patterns.{list_forms, bounds_forms, spans_forms, sparse_forms, sparse_lengths, is_pick, node_forms, stages_forms, node_lengths, stages_lengths, patterns_of}
use Rattle.sp_patterns.specs.Ranges.{PlainAround, nothing_around, inside}

-- from a number on there stand these operations and transfers, with these forms and lengths
pub record StandsAt (core : PlainCore) (n : ℕ) (ns : List Numbered) (fs : List (Option (List Affine))) (ls : List (Option ℕ)) : Type 0 where
  pub before : List Numbered
  pub after : List Numbered
  pub earlier : List (Option (List Affine))
  pub later : List (Option (List Affine))
  pub shorter : List (Option ℕ)
  pub longer : List (Option ℕ)
  pub all_numbers : numbers core.root ≡ before ++ (ns ++ after)
  pub all_forms : (patterns_of core).forms ≡ earlier ++ (fs ++ later)
  pub all_lengths : (patterns_of core).lengths ≡ shorter ++ (ls ++ longer)
  pub number : length before ≡ n
  pub entries : length earlier ≡ access_count before
  pub ranges : length shorter ≡ ranges_count before

module _ (core : PlainCore) (n : ℕ) (around : PlainAround) where
  abbrev pub ListStands : List PlainOp → Type 0
  ListStands ops = StandsAt core n (list_numbers ops) (list_forms core.mems around ops) []

  abbrev pub BoundsStand : List PlainCounter → Type 0
  BoundsStand counters = StandsAt core n (counters_numbers counters) (bounds_forms core.mems around counters) []

  abbrev pub SpansStand : List PlainSpan → Type 0
  SpansStand spans = StandsAt core n (spans_numbers spans) (spans_forms core.mems around spans) []

  abbrev pub NodeStands : PlainNode → Type 0
  NodeStands node = StandsAt core n (numbers node) (node_forms core.mems around node) (node_lengths core.mems around node)

  abbrev pub StagesStand : PlainStages → Type 0
  StagesStand stages = StandsAt core n (stages_numbers stages) (stages_forms core.mems around stages) (stages_lengths core.mems around stages)

  -- a transfer, after the operations of its spans and of its count
  abbrev pub TransferStands : (ranges : ℕ) → Option (List Affine) → List (Option ℕ) → Type 0
  TransferStands ranges row ls = StandsAt core n (transfers ranges ∷ []) (row ∷ []) ls

-- an operation of a list, which is numbered as an access or not, and has its forms where it is one
pub record OpStands (core : PlainCore) (n : ℕ) (around : PlainAround) (ops : List PlainOp) (op : PlainOp) : Type 0 where
  pub number : numbered core n ≡ (if is_access op.kind then accesses else plain)
  pub form : is_access op.kind ≡ true → form_at core (patterns_of core) n ≡ access_forms core.mems around ops op

-- a transfer, with its first indices and the lengths of its ranges
pub record SliceStands (core : PlainCore) (n : ℕ) (count : ℕ) (row : Option (List Affine)) (ls : List (Option ℕ)) : Type 0 where
  pub number : numbered core n ≡ transfers count
  pub form : form_at core (patterns_of core) n ≡ row
  pub each_length : (k : ℕ) → k < length ls → slice_index_or (patterns_of core).lengths (range_number core n + k) None ≡ slice_index_or ls k None

-- where a part of a core stands its parts do, as they are numbered
pub record PartsStand (core : PlainCore) : Type 0 where
  pub root : NodeStands core 0 nothing_around core.root
  pub operation : (n : ℕ) (around : PlainAround) (before : List PlainOp) (op : PlainOp) (after : List PlainOp) → ListStands core n around (before ++ op ∷ after) → OpStands core (n + length before) around (before ++ op ∷ after) op
  pub transfer : (n : ℕ) (around : PlainAround) (count : ℕ) (row : Option (List Affine)) (ls : List (Option ℕ)) → TransferStands core n around count row ls → SliceStands core n count row ls
  pub bounds : (n : ℕ) (around : PlainAround) (c : PlainCounter) (counters : List PlainCounter) → BoundsStand core n around (c ∷ counters) →
      (ListStands core n around c.from × ListStands core (n + length c.from) around c.until) × BoundsStand core (n + (length c.from + length c.until)) around counters
  pub single_span : (n : ℕ) (around : PlainAround) (ops : List PlainOp) (spans : List PlainSpan) → SpansStand core n around (single ops ∷ spans) → ListStands core n around ops × SpansStand core (n + length ops) around spans
  pub range_span : (n : ℕ) (around : PlainAround) (a b : List PlainOp) (spans : List PlainSpan) → SpansStand core n around (range a b ∷ spans) →
      (ListStands core n around a × ListStands core (n + length a) around b) × SpansStand core (n + (length a + length b)) around spans
  pub inner_body : (n : ℕ) (around : PlainAround) (counters : List PlainCounter) (owned : List ℕ) (ops : List PlainOp) (comb : Option ℕ) → NodeStands core n around (inner counters owned ops comb) →
      BoundsStand core n around counters × ListStands core (n + counters_size counters) (inside core.mems around counters) ops
  pub outer_body : (n : ℕ) (around : PlainAround) (counters : List PlainCounter) (style : Style) (owned : List ℕ) (stages : PlainStages) → NodeStands core n around (outer counters style owned stages) →
      BoundsStand core n around counters × StagesStand core (n + counters_size counters) (inside core.mems around counters) stages
  pub stages : (n : ℕ) (around : PlainAround) (first last : ℕ) (comb : Bool) (node : PlainNode) (rest : PlainStages) → StagesStand core n around (more_stage first last comb node rest) →
      NodeStands core n around node × StagesStand core (n + number_count node) around rest
  pub machine : (n : ℕ) (around : PlainAround) (start : List PlainOp) (state : ℕ) (test : List PlainOp) (body : PlainNode) (next : List PlainOp) → NodeStands core n around (fsm start state test body next) →
      (ListStands core n around start × ListStands core (n + length start) around test)
      × (NodeStands core (n + (length start + length test)) around body × ListStands core (n + (length start + (length test + number_count body))) around next)
  pub blocks : (n : ℕ) (around : PlainAround) (test : List PlainOp) (first second : PlainNode) → NodeStands core n around (branch test first second) →
      ListStands core n around test × (NodeStands core (n + length test) around first × NodeStands core (n + (length test + number_count first)) around second)
  pub loaded : (n : ℕ) (around : PlainAround) (r m : ℕ) (spans : List PlainSpan) → NodeStands core n around (load r m spans) →
      SpansStand core n around spans × TransferStands core (n + spans_size spans) around (range_count spans) (slice_forms core.mems around spans) (range_lengths core.mems around spans)
  pub stored : (n : ℕ) (around : PlainAround) (r m : ℕ) (spans : List PlainSpan) → NodeStands core n around (store r m spans) →
      SpansStand core n around spans × TransferStands core (n + spans_size spans) around (range_count spans) (slice_forms core.mems around spans) (range_lengths core.mems around spans)
  pub sparsely : (n : ℕ) (around : PlainAround) (kind : SparseKind) (r m : ℕ) (index : Option ℕ) (spans : List PlainSpan) (count : List PlainOp) (par : ℕ) → NodeStands core n around (sparse kind r m index spans count par) →
      SpansStand core n around spans × (ListStands core (n + spans_size spans) around count
      × TransferStands core (n + (spans_size spans + length count)) around (if is_pick kind then 1 else range_count spans) (sparse_forms core.mems around kind spans) (sparse_lengths core.mems around kind spans count))
