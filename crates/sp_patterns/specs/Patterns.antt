-- The forms of the accesses of a core, and the lengths of its ranges, in preorder.
use Rattle.std.specs.Prelude.{ℕ, Bool, true, false, if◌then◌else◌, List, [], ◌∷◌, ◌++◌, Option, None}
use Rattle.sp_affine.specs.Affine.{Affine}
use Rattle.sp_core.specs.declared.node.SparseKind.{SparseKind}
use Rattle.sp_core.specs.declared.node.SparseKind.TheVariants.{Gather, Scatter}
use Rattle.sp_core.specs.Forms.{PlainForms}
use Rattle.sp_core.specs.OperationRules.{is_access}
use Rattle.sp_core.specs.PlainCore.{PlainOp, PlainCounter, PlainSpan, single, range, PlainNode, PlainStages, inner, outer, fsm, branch, load, store, sparse, no_stage, more_stage, PlainMem, PlainCore}
use Rattle.sp_patterns.specs.Indices.{access_forms, bound_form, slice_forms, length_up_to, range_lengths}
use Rattle.sp_patterns.specs.Ranges.{PlainAround, nothing_around, inside}

-- a gather or scatter, whose places in the DRAM stand in a memory
abbrev pub is_pick : SparseKind → Bool
is_pick Gather = true
is_pick Scatter = true
is_pick _ = false

-- a transfer stands after the operations of its spans and of its count
module _ (mems : List PlainMem) where
  module _ (around : PlainAround) where
    -- those of some operations of a list
    abbrev pub some_forms : (ops some : List PlainOp) → List (Option (List Affine))
    some_forms ops [] = []
    some_forms ops (op ∷ rest) = if is_access op.kind then access_forms mems around ops op ∷ some_forms ops rest else some_forms ops rest

    abbrev pub list_forms : List PlainOp → List (Option (List Affine))
    list_forms ops = some_forms ops ops

    abbrev pub bounds_forms : List PlainCounter → List (Option (List Affine))
    bounds_forms [] = []
    bounds_forms (c ∷ counters) = (list_forms c.from ++ list_forms c.until) ++ bounds_forms counters

    abbrev pub span_forms : PlainSpan → List (Option (List Affine))
    span_forms (single ops) = list_forms ops
    span_forms (range a b) = list_forms a ++ list_forms b

    abbrev pub spans_forms : List PlainSpan → List (Option (List Affine))
    spans_forms [] = []
    spans_forms (span ∷ spans) = span_forms span ++ spans_forms spans

    -- the places of a gather or scatter aren't known
    abbrev pub sparse_forms : SparseKind → List PlainSpan → Option (List Affine)
    sparse_forms kind spans = if is_pick kind then None else slice_forms mems around spans

    abbrev pub sparse_lengths : SparseKind → List PlainSpan → (count : List PlainOp) → List (Option ℕ)
    sparse_lengths kind spans count = if is_pick kind then length_up_to (bound_form mems around count) ∷ [] else range_lengths mems around spans

  abbrev mutual
    pub node_forms : PlainAround → PlainNode → List (Option (List Affine))
    node_forms around (inner counters owned ops comb) = bounds_forms around counters ++ list_forms (inside mems around counters) ops
    node_forms around (outer counters style owned stages) = bounds_forms around counters ++ stages_forms (inside mems around counters) stages
    node_forms around (fsm start state test body next) = (list_forms around start ++ list_forms around test) ++ (node_forms around body ++ list_forms around next)
    node_forms around (branch test first second) = list_forms around test ++ (node_forms around first ++ node_forms around second)
    node_forms around (load r m spans) = spans_forms around spans ++ slice_forms mems around spans ∷ []
    node_forms around (store r m spans) = spans_forms around spans ++ slice_forms mems around spans ∷ []
    node_forms around (sparse kind r m places spans count par) = spans_forms around spans ++ (list_forms around count ++ sparse_forms around kind spans ∷ [])

    pub stages_forms : PlainAround → PlainStages → List (Option (List Affine))
    stages_forms around no_stage = []
    stages_forms around (more_stage first last comb node rest) = node_forms around node ++ stages_forms around rest

  abbrev mutual
    pub node_lengths : PlainAround → PlainNode → List (Option ℕ)
    node_lengths around (inner counters owned ops comb) = []
    node_lengths around (outer counters style owned stages) = stages_lengths (inside mems around counters) stages
    node_lengths around (fsm start state test body next) = node_lengths around body
    node_lengths around (branch test first second) = node_lengths around first ++ node_lengths around second
    node_lengths around (load r m spans) = range_lengths mems around spans
    node_lengths around (store r m spans) = range_lengths mems around spans
    node_lengths around (sparse kind r m places spans count par) = sparse_lengths around kind spans count

    pub stages_lengths : PlainAround → PlainStages → List (Option ℕ)
    stages_lengths around no_stage = []
    stages_lengths around (more_stage first last comb node rest) = node_lengths around node ++ stages_lengths around rest

abbrev pub patterns_of : PlainCore → PlainForms
patterns_of core = record { forms = node_forms core.mems nothing_around core.root; lengths = node_lengths core.mems nothing_around core.root }
