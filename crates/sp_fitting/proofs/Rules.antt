-- Nodes, in a store whose words fit.
use Rattle.std.proofs.Common.{◌≡◌, ℕ, ◌+◌, ◌^◌, true, ◌&&◌, ◌||◌, not, ⊎_elim, List, [], ◌∷◌, ◌++◌, length, Option, Some, None}
use Rattle.std.proofs.lemmas.Bool.{and_parts, or_cases, false≢true}
use Rattle.std.specs.List.{list_all}
use Rattle.std.specs.Prelude.{◌==◌, nat_lt, nat_le}
use Rattle.sp_words.specs.declared.types.Ty.{Ty}
use Rattle.sp_words.specs.declared.types.Ty.TheVariants.{Bit}
use Rattle.sp_words.specs.Types.{int_type}
use Rattle.sp_core.specs.Around.{Around, is_port_kind, is_usable}
use Rattle.sp_core.specs.Declarations.{mem, dram, is_among}
use Rattle.sp_core.specs.NodeRules.{are_counters_right, is_span_right, is_slice_right, is_sram, is_line, is_reg, is_sram_here, fits_sram, fits_line, range_count, ends_in_range, are_places, is_pick_right, is_none, is_wide_right, with_state, is_owned_once, owned_by, is_node_right}
use Rattle.sp_core.specs.OperationRules.{are_operations_right, is_word_list, is_early, is_bound, is_counter_right}
use Rattle.sp_core.specs.PlainCore.{PlainOp, PlainCounter, PlainSpan, PlainNode, fsm, load, store, PlainCore}
use Rattle.sp_core.specs.Typed.{is_type, last_gives}

module _ (core : PlainCore) (around : Around) where
  -- a list that gives a word
  pub word_list_right : (ops : List PlainOp) (ty : Ty) → is_word_list core around ops ty ≡ true → (are_operations_right core around ops ≡ true) × (last_gives ops ty ≡ true)
  word_list_right ops ty e = and_parts (are_operations_right core around ops) (last_gives ops ty) e

  pub bound_right : (ops : List PlainOp) → is_bound core around ops ≡ true → are_operations_right core around ops ≡ true
  bound_right ops e = (word_list_right ops int_type (and_parts (is_word_list core around ops int_type) (list_all (is_early core around) ops) e).0).0

  pub counter_right : (c : PlainCounter) → is_counter_right core around c ≡ true → (are_operations_right core around c.from ≡ true) × (are_operations_right core around c.until ≡ true)
  counter_right c e =
      let a = and_parts (is_bound core around c.from && is_bound core around c.until) ((nat_le 1 c.by && nat_lt c.by (2 ^ 31)) && (nat_le 1 c.par && nat_le c.par 16)) e in
      let b = and_parts (is_bound core around c.from) (is_bound core around c.until) a.0 in
      (bound_right c.from b.0, bound_right c.until b.1)

  pub counters_right : (counters : List PlainCounter) → are_counters_right core around counters ≡ true → list_all (is_counter_right core around) counters ≡ true
  counters_right counters e = (and_parts (nat_le (length counters) 4 && nat_le (length counters + length around.counters) 1000) (list_all (is_counter_right core around) counters) e).1

  -- the memory of a transfer
  pub record IsOfTransfer (r m : ℕ) : Type 0 where
    pub there : nat_lt m (length core.mems) ≡ true
    pub same : is_type (mem core m).ty (dram core r).ty ≡ true

  usable_there : (m : ℕ) → is_usable core around m ≡ true → nat_lt m (length core.mems) ≡ true
  usable_there m e = (and_parts (nat_lt m (length core.mems)) (is_port_kind (mem core m).kind || is_among m around.owned) e).0

  sram_of : (r m : ℕ) → is_sram_here core around r m ≡ true → IsOfTransfer r m
  sram_of r m e =
      let a = and_parts (is_usable core around m && is_sram (mem core m).kind) (is_type (mem core m).ty (dram core r).ty) e in
      record { there = usable_there m (and_parts (is_usable core around m) (is_sram (mem core m).kind) a.0).0; same = a.1 }

  fits_of : (r m : ℕ) (spans : List PlainSpan) → fits_sram core around r m spans ≡ true → IsOfTransfer r m
  fits_of r m spans e = sram_of r m (and_parts (is_sram_here core around r m) (range_count spans == length (mem core m).dims) e).0

  line_of : (r m : ℕ) (spans : List PlainSpan) → fits_line core around r m spans ≡ true → IsOfTransfer r m
  line_of r m spans e =
      let a = and_parts ((is_usable core around m && is_line (mem core m).kind) && is_type (mem core m).ty (dram core r).ty) ((range_count spans == 1) && ends_in_range spans) e in
      let b = and_parts (is_usable core around m && is_line (mem core m).kind) (is_type (mem core m).ty (dram core r).ty) a.0 in
      record { there = usable_there m (and_parts (is_usable core around m) (is_line (mem core m).kind) b.0).0; same = b.1 }

  -- a slice, and what it is between
  pub record IsSlice (r m : ℕ) (spans : List PlainSpan) : Type 0 where
    pub spans_right : list_all (is_span_right core around) spans ≡ true
    pub memory : IsOfTransfer r m

  slice_of : (r m : ℕ) (spans : List PlainSpan) → is_slice_right core around r spans ≡ true → IsOfTransfer r m → IsSlice r m spans
  slice_of r m spans e h = record { spans_right = (and_parts (nat_lt r (length core.ports.drams) && (length spans == length (dram core r).dims)) (list_all (is_span_right core around) spans) e).1; memory = h }

  pub load_right : (r m : ℕ) (spans : List PlainSpan) → is_node_right core around (load r m spans) ≡ true → IsSlice r m spans
  load_right r m spans e =
      let a = and_parts (is_slice_right core around r spans) (fits_sram core around r m spans || fits_line core around r m spans) e in
      slice_of r m spans a.0 (⊎_elim (fits_of r m spans) (line_of r m spans) (or_cases (fits_sram core around r m spans) (fits_line core around r m spans) a.1))

  pub store_right : (r m : ℕ) (spans : List PlainSpan) → is_node_right core around (store r m spans) ≡ true → IsSlice r m spans
  store_right r m spans e = let a = and_parts (is_slice_right core around r spans) (fits_sram core around r m spans) e in slice_of r m spans a.0 (fits_of r m spans a.1)

  pub wide_right : (r m : ℕ) (index : Option ℕ) (spans : List PlainSpan) (count : List PlainOp) (par : ℕ) → is_wide_right core around r m index spans count par ≡ true → IsSlice r m spans
  wide_right r m index spans count par e =
      let a = and_parts (is_slice_right core around r spans && fits_sram core around r m spans) ((is_none core around index && (length count == 0)) && (nat_le 1 par && nat_le par 16)) e in
      let b = and_parts (is_slice_right core around r spans) (fits_sram core around r m spans) a.0 in
      slice_of r m spans b.0 (fits_of r m spans b.1)

  -- a gather or a scatter: its memory, its places and its count
  pub record IsPick (r m : ℕ) (p : ℕ) (count : List PlainOp) : Type 0 where
    pub memory : IsOfTransfer r m
    pub places_there : nat_lt p (length core.mems) ≡ true
    pub places_typed : is_type (mem core p).ty int_type ≡ true
    pub count_right : are_operations_right core around count ≡ true

  pick_places : (index : Option ℕ) (spans : List PlainSpan) (count : List PlainOp) (par r m : ℕ) → is_pick_right core around r m index spans count par ≡ true → IsOfTransfer r m × ((are_places core around index ≡ true) × (are_operations_right core around count ≡ true))
  pick_places index spans count par r m e =
      let a = and_parts ((nat_lt r (length core.ports.drams) && (length (dram core r).dims == 1)) && (is_sram_here core around r m && (length (mem core m).dims == 1)))
      ((are_places core around index && is_bound core around count) && ((length spans == 0) && (par == 1))) e in
      let b = and_parts (nat_lt r (length core.ports.drams) && (length (dram core r).dims == 1)) (is_sram_here core around r m && (length (mem core m).dims == 1)) a.0 in
      let c = and_parts (is_sram_here core around r m) (length (mem core m).dims == 1) b.1 in
      let d = and_parts (are_places core around index && is_bound core around count) ((length spans == 0) && (par == 1)) a.1 in
      let f = and_parts (are_places core around index) (is_bound core around count) d.0 in
      (sram_of r m c.0, (f.0, bound_right count f.1))

  pub pick_right : (r m p : ℕ) (spans : List PlainSpan) (count : List PlainOp) (par : ℕ) → is_pick_right core around r m (Some p) spans count par ≡ true → IsPick r m p count
  pick_right r m p spans count par e =
      let a = pick_places (Some p) spans count par r m e in
      let b = and_parts (is_usable core around p && is_sram (mem core p).kind) (is_type (mem core p).ty int_type && (length (mem core p).dims == 1)) a.1.0 in
      record {
        memory = a.0;
        places_there = usable_there p (and_parts (is_usable core around p) (is_sram (mem core p).kind) b.0).0;
        places_typed = (and_parts (is_type (mem core p).ty int_type) (length (mem core p).dims == 1) b.1).0;
        count_right = a.1.1;
      }

  pub no_pick : (r m : ℕ) (spans : List PlainSpan) (count : List PlainOp) (par : ℕ) → is_pick_right core around r m None spans count par ≡ true → ⊥
  no_pick r m spans count par e = false≢true (pick_places None spans count par r m e).1.0

  -- an FSM
  pub record IsMachine (start : List PlainOp) (state : ℕ) (test next : List PlainOp) : Type 0 where
    pub start_right : is_word_list core around start (mem core state).ty ≡ true
    pub test_right : are_operations_right core (with_state core around state) test ≡ true
    pub next_right : is_word_list core (with_state core around state) next (mem core state).ty ≡ true

  pub machine_right : (start : List PlainOp) (state : ℕ) (test : List PlainOp) (body : PlainNode) (next : List PlainOp) → is_node_right core around (fsm start state test body next) ≡ true → IsMachine start state test next
  machine_right start state test body next e =
      let a = and_parts (is_reg (mem core state).kind && is_word_list core around start (mem core state).ty) (is_word_list core (with_state core around state) test Bit && is_word_list core (with_state core around state) next (mem core state).ty) e in
      let b = and_parts (is_word_list core (with_state core around state) test Bit) (is_word_list core (with_state core around state) next (mem core state).ty) a.1 in
      record {
        start_right = (and_parts (is_reg (mem core state).kind) (is_word_list core around start (mem core state).ty) a.0).1;
        test_right = (and_parts (are_operations_right core (with_state core around state) test) (last_gives test Bit) b.0).0;
        next_right = b.1;
      }

  -- what a node owns is there
  pub state_there : (earlier : List ℕ) (state : ℕ) → is_owned_once core earlier (state ∷ []) ≡ true → nat_lt state (length core.mems) ≡ true
  state_there earlier state e =
      let a = and_parts ((nat_lt state (length core.mems) && not (is_port_kind (mem core state).kind)) && not (is_among state earlier)) (is_owned_once core (earlier ++ state ∷ []) []) e in
      let b = and_parts (nat_lt state (length core.mems) && not (is_port_kind (mem core state).kind)) (not (is_among state earlier)) a.0 in
      (and_parts (nat_lt state (length core.mems)) (not (is_port_kind (mem core state).kind)) b.0).0

-- the rules of a node itself
pub here_right : (core : PlainCore) (around : Around) (earlier : List ℕ) (node : PlainNode) → (is_node_right core around node && is_owned_once core earlier (owned_by core node)) ≡ true
    → (is_node_right core around node ≡ true) × (is_owned_once core earlier (owned_by core node) ≡ true)
here_right core around earlier node e = and_parts (is_node_right core around node) (is_owned_once core earlier (owned_by core node)) e
