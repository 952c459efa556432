-- The transfers of a core are its own, and its numbers are small.
use Rattle.std.proofs.Common.{◌≡◌, ℕ, suc, ◌+◌, ◌<◌, ◌≤◌, ◌^◌, ◌==◌, nat_lt, Bool, true, false, ◌&&◌, ◌||◌, ◌⊎◌, inl, inr, List, [], ◌∷◌, ◌++◌, length, All, refl, ap, ◌∙◌, arith}
use Rattle.std.specs.List.{list_all}
use Rattle.std.proofs.lemmas.Bool.{and_parts, eqb-true, ltb-true, false≢true}
use Rattle.std.proofs.lemmas.List.Elements.{All-nil, All-cons, All-append}
use Rattle.sp_words.specs.declared.types.Ty.{Ty}
use Rattle.sp_words.specs.declared.types.Ty.TheVariants.{Bit, Fix}
use Rattle.sp_words.specs.Types.{width_of}
use Rattle.sp_core.specs.Around.{Around, within, nothing, is_usable}
use Rattle.sp_core.specs.Declarations.{mem, dram}
use Rattle.sp_core.specs.Invariant.{owned_in, IsRight, AreRight, IsCore}
use Rattle.sp_core.specs.NodeRules.{with_state, is_node_right, is_owned_once, owned_by, is_sram, is_line, is_span_right, is_slice_right, is_sram_here, fits_sram, fits_line}
use Rattle.sp_core.specs.Numbering.{node_count, node_count_in, number_count, number_count_in, operation_count, operation_count_in, counters_size, spans_size, core_size}
use Rattle.sp_core.specs.PlainCore.{PlainSpan, PlainNode, PlainStages, inner, outer, fsm, branch, load, store, sparse, no_stage, more_stage, PlainCore}
use Rattle.sp_core.specs.Typed.{is_same_flag, is_type}
use Rattle.sp_tree_handed.specs.declared.moves.Direction.{Direction}
use Rattle.sp_tree_handed.specs.declared.moves.Direction.TheVariants.{Load, Store}
use Rattle.sp_tree_handed.specs.Transfers.{core_transfer, transfers_in, transfers_in_stages}
use Rattle.sp_load_units.specs.Units.{IsTransferOf}

same_width : (a b : Ty) → is_type a b ≡ true → width_of a ≡ width_of b
same_width Bit Bit e = refl
same_width Bit (Fix b) e = absurd (false≢true e)
same_width (Fix a) Bit e = absurd (false≢true e)
same_width (Fix a) (Fix b) e =
    let parts = and_parts (is_same_flag a.signed b.signed) ((a.whole == b.whole) && (a.frac == b.frac)) e in
    let bits = and_parts (a.whole == b.whole) (a.frac == b.frac) parts.1 in
    ap (λ n. n + a.frac) (eqb-true a.whole b.whole bits.0) ∙ ap (λ n. b.whole + n) (eqb-true a.frac b.frac bits.1)

either : (a b : Bool) → (a || b) ≡ true → (a ≡ true) ⊎ (b ≡ true)
either true b e = inl refl
either false b e = inr e

module _ (core : PlainCore) where
  -- a memory that is usable, of the type of a DRAM of the core
  transfer_of : (way : Direction) (around : Around) (k n r m : ℕ) (kind : Bool) → nat_lt r (length core.ports.drams) ≡ true → ((is_usable core around m && kind) && is_type (mem core m).ty (dram core r).ty) ≡ true → IsTransferOf core (core_transfer way k n r m)
  transfer_of way around k n r m kind has e =
      let both = and_parts (is_usable core around m && kind) (is_type (mem core m).ty (dram core r).ty) e in
      let usable = and_parts (is_usable core around m) kind both.0 in
      let there = and_parts (nat_lt m (length core.mems)) _ usable.0 in
      record {
        has_dram = ltb-true _ _ has;
        has_mem = ltb-true _ _ there.0;
        one_type = both.1;
        one_width = same_width (mem core m).ty (dram core r).ty both.1;
      }

  dram_there : (around : Around) (r : ℕ) (spans : List PlainSpan) → is_slice_right core around r spans ≡ true → nat_lt r (length core.ports.drams) ≡ true
  dram_there around r spans e =
      let slice = and_parts (nat_lt r (length core.ports.drams) && (length spans == length (dram core r).dims)) (list_all (is_span_right core around) spans) e in
      (and_parts (nat_lt r (length core.ports.drams)) (length spans == length (dram core r).dims) slice.0).0

  one_load : (around : Around) (earlier : List ℕ) (r m : ℕ) (spans : List PlainSpan) (k n : ℕ) → IsRight core around earlier (load r m spans) → IsTransferOf core (core_transfer Load k n r m)
  one_load around earlier r m spans k n right =
      let here = and_parts (is_node_right core around (load r m spans)) (is_owned_once core earlier (owned_by core (load r m spans))) right in
      let both = and_parts (is_slice_right core around r spans) (fits_sram core around r m spans || fits_line core around r m spans) here.0 in
      let has = dram_there around r spans both.0 in
      elim (either (fits_sram core around r m spans) (fits_line core around r m spans) both.1) [
        | inl h ↦ transfer_of Load around k n r m (is_sram (mem core m).kind) has (and_parts (is_sram_here core around r m) _ h).0
        | inr h ↦ transfer_of Load around k n r m (is_line (mem core m).kind) has (and_parts _ _ h).0
      ]

  one_store : (around : Around) (earlier : List ℕ) (r m : ℕ) (spans : List PlainSpan) (k n : ℕ) → IsRight core around earlier (store r m spans) → IsTransferOf core (core_transfer Store k n r m)
  one_store around earlier r m spans k n right =
      let here = and_parts (is_node_right core around (store r m spans)) (is_owned_once core earlier (owned_by core (store r m spans))) right in
      let both = and_parts (is_slice_right core around r spans) (fits_sram core around r m spans) here.0 in
      transfer_of Store around k n r m (is_sram (mem core m).kind) (dram_there around r spans both.0) (and_parts (is_sram_here core around r m) _ both.1).0

  -- the transfers of a part that keeps the rules are of the core
  mutual
    pub transfers_of : (around : Around) (earlier : List ℕ) (node : PlainNode) (k n : ℕ) → IsRight core around earlier node → All (IsTransferOf core) (transfers_in node k n)
    transfers_of around earlier (inner counters owned ops comb) k n h = All-nil (IsTransferOf core)
    transfers_of around earlier (outer counters style owned stages) k n h = stage_transfers_of (within around counters owned) (earlier ++ owned) stages (suc k) (n + counters_size counters) h.1
    transfers_of around earlier (fsm start state test body next) k n h = transfers_of (with_state core around state) (earlier ++ state ∷ []) body (suc k) (n + (length start + length test)) h.1
    transfers_of around earlier (branch test first second) k n h =
        All-append (IsTransferOf core) (transfers_in first (suc k) (n + length test)) (transfers_in second (suc k + node_count first) (n + (length test + number_count first))) (transfers_of around earlier first (suc k) (n + length test) h.1)
        (transfers_of around (earlier ++ owned_in first) second (suc k + node_count first) (n + (length test + number_count first)) h.2)
    transfers_of around earlier (load r m spans) k n h = All-cons (IsTransferOf core) (core_transfer Load k (n + spans_size spans) r m) [] (one_load around earlier r m spans k (n + spans_size spans) h) (All-nil (IsTransferOf core))
    transfers_of around earlier (store r m spans) k n h = All-cons (IsTransferOf core) (core_transfer Store k (n + spans_size spans) r m) [] (one_store around earlier r m spans k (n + spans_size spans) h) (All-nil (IsTransferOf core))
    transfers_of around earlier (sparse kind r m places spans count par) k n h = All-nil (IsTransferOf core)

    stage_transfers_of : (around : Around) (earlier : List ℕ) (stages : PlainStages) (k n : ℕ) → AreRight core around earlier stages → All (IsTransferOf core) (transfers_in_stages stages k n)
    stage_transfers_of around earlier no_stage k n h = All-nil (IsTransferOf core)
    stage_transfers_of around earlier (more_stage first last comb node rest) k n h =
        All-append (IsTransferOf core) (transfers_in node k n) (transfers_in_stages rest (k + node_count node) (n + number_count node)) (transfers_of around earlier node k n h.0)
        (stage_transfers_of around (earlier ++ owned_in node) rest (k + node_count node) (n + number_count node) h.1)

-- a transfer has a number of its own
mutual
  few_numbers : (node : PlainNode) → number_count node ≤ operation_count node + node_count node
  few_numbers (inner counters owned ops comb) = omega arith
  few_numbers (outer counters style owned stages) = (let l = few_in stages in omega (arith, l))
  few_numbers (fsm start state test body next) = (let l = few_numbers body in omega (arith, l))
  few_numbers (branch test first second) = (let l = few_numbers first in let r = few_numbers second in omega (arith, l, r))
  few_numbers (load r m spans) = omega arith
  few_numbers (store r m spans) = omega arith
  few_numbers (sparse kind r m index spans count par) = omega arith

  few_in : (stages : PlainStages) → number_count_in stages ≤ operation_count_in stages + node_count_in stages
  few_in no_stage = omega arith
  few_in (more_stage first last comb node rest) = (let l = few_numbers node in let r = few_in rest in omega (arith, l, r))

module _ (core : PlainCore) (is : IsCore core) where
  size : core_size core < 2 ^ 29
  size = ltb-true _ _ is.size

  pub few_nodes : node_count core.root ≤ 2 ^ 30
  few_nodes = (let s = size in omega (arith, s))

  pub numbers_small : number_count core.root ≤ 2 ^ 30
  numbers_small = (let s = size in let l = few_numbers core.root in omega (arith, s, l))

  pub root_transfers : All (IsTransferOf core) (transfers_in core.root 0 0)
  root_transfers = transfers_of core nothing [] core.root 0 0 is.nodes
