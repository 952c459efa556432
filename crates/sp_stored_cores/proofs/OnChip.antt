-- Parts of a core that keeps the rules name no memory in their operations, and own none, but those on the chip.
use Rattle.std.proofs.Common.{◌≡◌, ℕ, nat_lt, Bool, true, false, ◌&&◌, ◌||◌, not, ◌⊎◌, inl, inr, List, [], ◌∷◌, ◌++◌, length, Option, Some, None, refl}
use Rattle.std.specs.List.{list_all}
use Rattle.std.proofs.lemmas.Bool.{and_parts}
use Rattle.sp_words.specs.declared.types.Ty.{Ty}
use Rattle.sp_words.specs.Types.{int_type}
use Rattle.sp_core.specs.declared.operation.OpKind.{OpKind}
use Rattle.sp_core.specs.Around.{Around, is_port_kind, is_usable}
use Rattle.sp_core.specs.Declarations.{mem, is_among}
use Rattle.sp_core.specs.Footprint.{MayName, AllPass, ListNames, CountersName, SpansName}
use Rattle.sp_core.specs.Invariant.{is_right_here, IsRight}
use Rattle.sp_core.specs.NodeRules.{are_counters_right, is_node_right, is_owned_once, is_sram, is_line, is_span_right, is_slice_right, is_sram_here, fits_sram, fits_line, owned_by}
use Rattle.sp_core.specs.OperationRules.{can, is_access, is_in_range, names_rightly, is_operation_right, are_operations_right, are_operations_right_after, is_word_list, is_early, is_bound, is_counter_right}
use Rattle.sp_core.specs.PlainCore.{PlainOp, PlainCounter, PlainSpan, single, range, PlainNode, load, PlainCore}
use Rattle.sp_core.specs.Typed.{Given, is_type, given_type, last_gives}

module _ (core : PlainCore) where
  abbrev pub on_chip : ℕ → Bool
  on_chip m = nat_lt m (length core.mems)

  -- a part that keeps the rules of cores names no memory but those on the chip
  op_names : (around : Around) (kind : OpKind) (ty : Ty) (m : Option ℕ) → names_rightly core around kind ty m ≡ true → MayName core on_chip m
  op_names around kind ty None e = tt
  op_names around kind ty (Some m) e =
      let all = and_parts (is_access kind && is_usable core around m) (can kind (mem core m).kind (mem core m).start && is_type ty (mem core m).ty) e in
      let usable = and_parts (is_access kind) (is_usable core around m) all.0 in
      (and_parts (nat_lt m (length core.mems)) _ usable.1).0

  pub list_names : (around : Around) (earlier : Given) (ops : List PlainOp) → are_operations_right_after core around earlier ops ≡ true → ListNames core on_chip ops
  list_names around earlier [] e = tt
  list_names around earlier (op ∷ ops) e =
      let all = and_parts (is_operation_right core around earlier op) (are_operations_right_after core around (earlier ++ given_type op.kind op.ty ∷ []) ops) e in
      let one = and_parts (is_in_range op.kind op.ty around && names_rightly core around op.kind op.ty op.mem) _ all.0 in
      (op_names around op.kind op.ty op.mem (and_parts (is_in_range op.kind op.ty around) (names_rightly core around op.kind op.ty op.mem) one.0).1, list_names around (earlier ++ given_type op.kind op.ty ∷ []) ops all.1)

  pub word_names : (around : Around) (ops : List PlainOp) (ty : Ty) → is_word_list core around ops ty ≡ true → ListNames core on_chip ops
  word_names around ops ty e = list_names around [] ops (and_parts (are_operations_right core around ops) (last_gives ops ty) e).0

  pub bound_names : (around : Around) (ops : List PlainOp) → is_bound core around ops ≡ true → ListNames core on_chip ops
  bound_names around ops e = word_names around ops int_type (and_parts (is_word_list core around ops int_type) (list_all (is_early core around) ops) e).0

  counters_name : (around : Around) (counters : List PlainCounter) → list_all (is_counter_right core around) counters ≡ true → CountersName core on_chip counters
  counters_name around [] e = tt
  counters_name around (n ∷ counters) e =
      let all = and_parts (is_counter_right core around n) (list_all (is_counter_right core around) counters) e in
      let bounds = and_parts (is_bound core around n.from) (is_bound core around n.until) (and_parts (is_bound core around n.from && is_bound core around n.until) _ all.0).0 in
      (bound_names around n.from bounds.0, bound_names around n.until bounds.1, counters_name around counters all.1)

  pub all_counters : (around : Around) (counters : List PlainCounter) → are_counters_right core around counters ≡ true → CountersName core on_chip counters
  all_counters around counters e = counters_name around counters (and_parts _ (list_all (is_counter_right core around) counters) e).1

  pub owned_pass : (earlier owned : List ℕ) → is_owned_once core earlier owned ≡ true → AllPass core on_chip owned
  owned_pass earlier [] e = tt
  owned_pass earlier (m ∷ owned) e =
      let all = and_parts ((nat_lt m (length core.mems) && not (is_port_kind (mem core m).kind)) && not (is_among m earlier)) (is_owned_once core (earlier ++ m ∷ []) owned) e in
      let here = and_parts (nat_lt m (length core.mems) && not (is_port_kind (mem core m).kind)) (not (is_among m earlier)) all.0 in
      ((and_parts (nat_lt m (length core.mems)) (not (is_port_kind (mem core m).kind)) here.0).0, owned_pass (earlier ++ m ∷ []) owned all.1)

  pub parts : (around : Around) (earlier : List ℕ) (node : PlainNode) → is_right_here core around earlier node ≡ true → (is_node_right core around node ≡ true) × (is_owned_once core earlier (owned_by core node) ≡ true)
  parts around earlier node e = and_parts (is_node_right core around node) (is_owned_once core earlier (owned_by core node)) e

  -- the ends of a slice
  pub spans_name : (around : Around) (spans : List PlainSpan) → list_all (is_span_right core around) spans ≡ true → SpansName core on_chip spans
  spans_name around [] e = tt
  spans_name around (single ops ∷ spans) e =
      let all = and_parts (is_bound core around ops) (list_all (is_span_right core around) spans) e in
      (bound_names around ops all.0, spans_name around spans all.1)
  spans_name around (range a b ∷ spans) e =
      let all = and_parts (is_bound core around a && is_bound core around b) (list_all (is_span_right core around) spans) e in
      let both = and_parts (is_bound core around a) (is_bound core around b) all.0 in
      (bound_names around a both.0, bound_names around b both.1, spans_name around spans all.1)

  -- and the memory that a load fills
  usable : (around : Around) (m : ℕ) → is_usable core around m ≡ true → nat_lt m (length core.mems) ≡ true
  usable around m e = (and_parts (nat_lt m (length core.mems)) _ e).0

  either : (a b : Bool) → (a || b) ≡ true → (a ≡ true) ⊎ (b ≡ true)
  either true b e = inl refl
  either false b e = inr e

  pub load_names : (around : Around) (earlier : List ℕ) (r m : ℕ) (spans : List PlainSpan) → IsRight core around earlier (load r m spans) → SpansName core on_chip spans × (nat_lt m (length core.mems) ≡ true)
  load_names around earlier r m spans right =
      let here = parts around earlier (load r m spans) right in
      let both = and_parts (is_slice_right core around r spans) (fits_sram core around r m spans || fits_line core around r m spans) here.0 in (
        spans_name around spans (and_parts _ (list_all (is_span_right core around) spans) both.0).1,
        elim (either (fits_sram core around r m spans) (fits_line core around r m spans) both.1) [
          | inl h ↦ usable around m (and_parts (is_usable core around m) (is_sram (mem core m).kind) (and_parts (is_usable core around m && is_sram (mem core m).kind) _ (and_parts (is_sram_here core around r m) _ h).0).0).0
          | inr h ↦ usable around m (and_parts (is_usable core around m) (is_line (mem core m).kind) (and_parts (is_usable core around m && is_line (mem core m).kind) _ (and_parts _ _ h).0).0).0
        ],
      )
