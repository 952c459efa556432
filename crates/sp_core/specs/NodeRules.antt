-- What every node of a core keeps, beside what the nodes in it do.
use Rattle.std.specs.Prelude.{ℕ, ◌+◌, ◌-◌, ◌/◌, ◌%◌, ◌==◌, Bool, true, false, ◌&&◌, ◌||◌, not, nat_le, nat_lt, List, [], ◌∷◌, ◌++◌, length, Option, Some, None}
use Rattle.std.specs.List.{list_all}
use Rattle.sp_words.specs.declared.kind.Kind.{Kind}
use Rattle.sp_words.specs.declared.kind.Kind.TheVariants.{Reg, Sram, LineBuf}
use Rattle.sp_words.specs.declared.types.Ty.TheVariants.{Bit}
use Rattle.sp_words.specs.Types.{int_type}
use Rattle.sp_core.specs.declared.node.SparseKind.{SparseKind}
use Rattle.sp_core.specs.declared.node.SparseKind.TheVariants.{Gather, Scatter, WideLoad, WideStore}
use Rattle.sp_core.specs.Around.{Around, lanes_of, within, is_port_kind, is_usable}
use Rattle.sp_core.specs.Declarations.{mem, dram, is_among}
use Rattle.sp_core.specs.OperationRules.{are_operations_right, is_word_list, is_bound, is_counter_right}
use Rattle.sp_core.specs.PlainCore.{PlainOp, PlainCounter, PlainSpan, single, range, PlainNode, PlainStages, inner, outer, fsm, branch, load, store, sparse, no_stage, more_stage, PlainCore}
use Rattle.sp_core.specs.Typed.{is_type}

abbrev pub is_reg : Kind → Bool
is_reg Reg = true
is_reg _ = false

abbrev pub is_sram : Kind → Bool
is_sram Sram = true
is_sram _ = false

abbrev pub is_line : Kind → Bool
is_line LineBuf = true
is_line _ = false

-- the lanes of the stages of one lane each, in order, up to the first stage of several; and the stages from there on
abbrev pub single_lanes : PlainStages → List ℕ
single_lanes no_stage = []
single_lanes (more_stage first last comb node rest) = elim (first == last) [ true ↦ first ∷ single_lanes rest | false ↦ [] ]

abbrev pub after_singles : PlainStages → PlainStages
after_singles no_stage = no_stage
after_singles (more_stage first last comb node rest) = elim (first == last) [ true ↦ after_singles rest | false ↦ more_stage first last comb node rest ]

abbrev pub count_zeros : List ℕ → ℕ
count_zeros [] = 0
count_zeros (l ∷ rest) = elim (l == 0) [ true ↦ 1 + count_zeros rest | false ↦ count_zeros rest ]

-- the stage at place i is of lane i / n, where each lane has n
abbrev pub are_lane_by_lane : (n i : ℕ) → (lanes : List ℕ) → Bool
are_lane_by_lane n i [] = i % n == 0
are_lane_by_lane n i (l ∷ rest) = (l == i / n) && are_lane_by_lane n (i + 1) rest

-- at most one stage, of all lanes
abbrev pub is_of_all_lanes : (lanes : ℕ) → PlainStages → Bool
is_of_all_lanes lanes no_stage = true
is_of_all_lanes lanes (more_stage first last comb node no_stage) = (first == 0) && (last == lanes - 1)
is_of_all_lanes lanes _ = false

abbrev pub are_stages : PlainStages → Bool
are_stages no_stage = false
are_stages _ = true

abbrev pub is_no_lane : List ℕ → Bool
is_no_lane [] = true
is_no_lane _ = false

-- the stages of an outer: one at least; those of one lane stand lane by lane from lane 0, as many in each lane that has
-- any; after them at most one, of all lanes
abbrev pub are_lanes_right : (lanes : ℕ) → PlainStages → Bool
are_lanes_right lanes stages =
    (are_stages stages && list_all (λ l. nat_lt l lanes) (single_lanes stages))
    && ((is_no_lane (single_lanes stages) || are_lane_by_lane (count_zeros (single_lanes stages)) 0 (single_lanes stages)) && is_of_all_lanes lanes (after_singles stages))

-- the ranges of a slice, and whether the last span is one
abbrev pub range_count : List PlainSpan → ℕ
range_count [] = 0
range_count (single ops ∷ spans) = range_count spans
range_count (range a b ∷ spans) = 1 + range_count spans

abbrev pub ends_in_range : List PlainSpan → Bool
ends_in_range [] = false
ends_in_range (range a b ∷ []) = true
ends_in_range (span ∷ spans) = ends_in_range spans

module _ (core : PlainCore) where
  module _ (around : Around) where
    -- at most four counters, and at most 1,000 with those around
    abbrev pub are_counters_right : List PlainCounter → Bool
    are_counters_right counters = (nat_le (length counters) 4 && nat_le (length counters + length around.counters) 1000) && list_all (is_counter_right core around) counters

    abbrev pub is_span_right : PlainSpan → Bool
    is_span_right (single ops) = is_bound core around ops
    is_span_right (range a b) = is_bound core around a && is_bound core around b

    -- the slice has a span for each dimension of its DRAM
    abbrev pub is_slice_right : (dram : ℕ) → List PlainSpan → Bool
    is_slice_right r spans = (nat_lt r (length core.ports.drams) && (length spans == length (dram core r).dims)) && list_all is_span_right spans

    -- the memory is an SRAM here, and has the type of the DRAM
    abbrev pub is_sram_here : (dram mem : ℕ) → Bool
    is_sram_here r m = (is_usable core around m && is_sram (mem core m).kind) && is_type (mem core m).ty (dram core r).ty

    -- and as many dimensions as the slice has ranges
    abbrev pub fits_sram : (dram mem : ℕ) → List PlainSpan → Bool
    fits_sram r m spans = is_sram_here r m && (range_count spans == length (mem core m).dims)

    -- a line buffer takes one range, the last span
    abbrev pub fits_line : (dram mem : ℕ) → List PlainSpan → Bool
    fits_line r m spans = ((is_usable core around m && is_line (mem core m).kind) && is_type (mem core m).ty (dram core r).ty) && ((range_count spans == 1) && ends_in_range spans)

    -- a gather or scatter has DRAM, memory and places of one dimension, a count, no span and one lane
    abbrev pub are_places : Option ℕ → Bool
    are_places None = false
    are_places (Some p) = (is_usable core around p && is_sram (mem core p).kind) && (is_type (mem core p).ty int_type && (length (mem core p).dims == 1))

    abbrev pub is_pick_right : (dram mem : ℕ) → (index : Option ℕ) → List PlainSpan → (count : List PlainOp) → (par : ℕ) → Bool
    is_pick_right r m index spans count par =
        ((nat_lt r (length core.ports.drams) && (length (dram core r).dims == 1)) && (is_sram_here r m && (length (mem core m).dims == 1)))
        && ((are_places index && is_bound core around count) && ((length spans == 0) && (par == 1)))

    -- a wide transfer has no places and no count, and up to 16 lanes
    abbrev pub is_none : Option ℕ → Bool
    is_none None = true
    is_none (Some p) = false

    abbrev pub is_wide_right : (dram mem : ℕ) → (index : Option ℕ) → List PlainSpan → (count : List PlainOp) → (par : ℕ) → Bool
    is_wide_right r m index spans count par =
        (is_slice_right r spans && fits_sram r m spans) && ((is_none index && (length count == 0)) && (nat_le 1 par && nat_le par 16))

    abbrev pub is_sparse_right : SparseKind → (dram mem : ℕ) → (index : Option ℕ) → List PlainSpan → (count : List PlainOp) → (par : ℕ) → Bool
    is_sparse_right Gather r m index spans count par = is_pick_right r m index spans count par
    is_sparse_right Scatter r m index spans count par = is_pick_right r m index spans count par
    is_sparse_right WideLoad r m index spans count par = is_wide_right r m index spans count par
    is_sparse_right WideStore r m index spans count par = is_wide_right r m index spans count par

  -- inside of an FSM its state is usable
  abbrev pub with_state : Around → (state : ℕ) → Around
  with_state around state = within around [] (state ∷ [])

  -- memories that are owned exist, have an owner, and none of them has another one
  abbrev pub is_owned_once : (earlier : List ℕ) → List ℕ → Bool
  is_owned_once earlier [] = true
  is_owned_once earlier (m ∷ rest) = ((nat_lt m (length core.mems) && not (is_port_kind (mem core m).kind)) && not (is_among m earlier)) && is_owned_once (earlier ++ m ∷ []) rest

  -- what a node itself owns
  abbrev pub owned_by : PlainNode → List ℕ
  owned_by (inner counters owned ops comb) = owned
  owned_by (outer counters style owned stages) = owned
  owned_by (fsm start state test body next) = state ∷ []
  owned_by _ = []

  -- by what stands around a node
  abbrev pub is_node_right : Around → PlainNode → Bool
  is_node_right around (inner counters owned ops comb) =
      are_counters_right around counters && are_operations_right core (within around counters owned) ops
  is_node_right around (outer counters style owned stages) =
      are_counters_right around counters && are_lanes_right (lanes_of counters) stages
  is_node_right around (fsm start state test body next) =
      (is_reg (mem core state).kind && is_word_list core around start (mem core state).ty)
      && (is_word_list core (with_state around state) test Bit && is_word_list core (with_state around state) next (mem core state).ty)
  is_node_right around (branch test first second) = is_word_list core around test Bit
  is_node_right around (load r m spans) = is_slice_right around r spans && (fits_sram around r m spans || fits_line around r m spans)
  is_node_right around (store r m spans) = is_slice_right around r spans && fits_sram around r m spans
  is_node_right around (sparse kind r m index spans count par) = is_sparse_right around kind r m index spans count par
