-- The slices that a tree hands on are those of its transfers.
use Rattle.std.proofs.Common.{◌≡◌, ℕ, suc, ◌+◌, ◌==◌, ◌&&◌, ◌||◌, nat_lt, true, List, [], ◌∷◌, ◌++◌, length, refl, sym, ap, ◌∙◌}
use Rattle.std.specs.List.{AllZip, list_all}
use Rattle.std.proofs.lemmas.Bool.{and_parts, eqb-true}
use Rattle.sp_netlist.specs.Draft.{Draft}
use Rattle.sp_core.specs.Around.{Around, within, nothing}
use Rattle.sp_core.specs.Declarations.{dram}
use Rattle.sp_core.specs.Invariant.{owned_in, IsRight, AreRight, IsCore}
use Rattle.sp_core.specs.NodeRules.{with_state, is_node_right, is_owned_once, owned_by, is_span_right, is_slice_right, fits_sram, fits_line}
use Rattle.sp_core.specs.Numbering.{node_count, number_count, counters_size}
use Rattle.sp_core.specs.PlainCore.{PlainSpan, PlainNode, PlainStages, inner, outer, fsm, branch, load, store, sparse, no_stage, more_stage, PlainCore}
use Rattle.sp_tree_handed.specs.declared.transfers.CoreTransfer.{CoreTransfer}
use Rattle.sp_tree_handed.specs.declared.moves.TreeMove.{TreeMove}
use Rattle.sp_tree_handed.specs.Transfers.{transfers_in, transfers_in_stages}
use Rattle.sp_tree_handed.specs.Moves.{NumberedSlice, slices_in, slices_in_stages, AreMovesStanding}
use Rattle.sp_load_units.specs.declared.unit.TransferUnit.{TransferUnit}
use Rattle.sp_load_units.specs.Units.{UnitStands}
use Rattle.sp_lower.specs.LoadsParts.{AreSlicesStanding}

-- a transfer's slice has a span for each dimension of its DRAM
record IsOf (core : PlainCore) (transfer : CoreTransfer) (of : NumberedSlice) : Type 0 where
  node : of.node ≡ transfer.node
  each : length of.spans ≡ length (dram core transfer.dram).dims

zip_join : {A B : Type 0} (R : A → B → Type 0) (xs more : List A) (ys others : List B) → AllZip R xs ys → AllZip R more others → AllZip R (xs ++ more) (ys ++ others)
zip_join R [] more [] others h k = k
zip_join R [] more (y ∷ ys) others h k = absurd h
zip_join R (x ∷ xs) more [] others h k = absurd h
zip_join R (x ∷ xs) more (y ∷ ys) others h k = (h.0, zip_join R xs more ys others h.1 k)

module _ (core : PlainCore) where
  slice_each : (around : Around) (r : ℕ) (spans : List PlainSpan) → is_slice_right core around r spans ≡ true → length spans ≡ length (dram core r).dims
  slice_each around r spans e =
      let slice = and_parts (nat_lt r (length core.ports.drams) && (length spans == length (dram core r).dims)) (list_all (is_span_right core around) spans) e in
      eqb-true (length spans) (length (dram core r).dims) (and_parts (nat_lt r (length core.ports.drams)) (length spans == length (dram core r).dims) slice.0).1

  span_each : (around : Around) (earlier : List ℕ) (r m : ℕ) (spans : List PlainSpan) → IsRight core around earlier (load r m spans) → length spans ≡ length (dram core r).dims
  span_each around earlier r m spans right =
      let here = and_parts (is_node_right core around (load r m spans)) (is_owned_once core earlier (owned_by core (load r m spans))) right in
      slice_each around r spans (and_parts (is_slice_right core around r spans) (fits_sram core around r m spans || fits_line core around r m spans) here.0).0

  store_each : (around : Around) (earlier : List ℕ) (r m : ℕ) (spans : List PlainSpan) → IsRight core around earlier (store r m spans) → length spans ≡ length (dram core r).dims
  store_each around earlier r m spans right =
      let here = and_parts (is_node_right core around (store r m spans)) (is_owned_once core earlier (owned_by core (store r m spans))) right in
      slice_each around r spans (and_parts (is_slice_right core around r spans) (fits_sram core around r m spans) here.0).0

  mutual
    of_part : (around : Around) (earlier : List ℕ) (node : PlainNode) (k n : ℕ) → IsRight core around earlier node → AllZip (IsOf core) (transfers_in node k n) (slices_in node k)
    of_part around earlier (inner counters owned ops comb) k n h = tt
    of_part around earlier (outer counters style owned stages) k n h = of_stages (within around counters owned) (earlier ++ owned) stages (suc k) (n + counters_size counters) h.1
    of_part around earlier (fsm start state test body next) k n h = of_part (with_state core around state) (earlier ++ state ∷ []) body (suc k) (n + (length start + length test)) h.1
    of_part around earlier (branch test first second) k n h =
        zip_join (IsOf core) (transfers_in first (suc k) (n + length test)) (transfers_in second (suc k + node_count first) (n + (length test + number_count first))) (slices_in first (suc k)) (slices_in second (suc k + node_count first))
        (of_part around earlier first (suc k) (n + length test) h.1) (of_part around (earlier ++ owned_in first) second (suc k + node_count first) (n + (length test + number_count first)) h.2)
    of_part around earlier (load r m spans) k n h = (record { node = refl; each = span_each around earlier r m spans h }, tt)
    of_part around earlier (store r m spans) k n h = (record { node = refl; each = store_each around earlier r m spans h }, tt)
    of_part around earlier (sparse kind r m places spans count par) k n h = tt

    of_stages : (around : Around) (earlier : List ℕ) (stages : PlainStages) (k n : ℕ) → AreRight core around earlier stages → AllZip (IsOf core) (transfers_in_stages stages k n) (slices_in_stages stages k)
    of_stages around earlier no_stage k n h = tt
    of_stages around earlier (more_stage first last comb node rest) k n h =
        zip_join (IsOf core) (transfers_in node k n) (transfers_in_stages rest (k + node_count node) (n + number_count node)) (slices_in node k) (slices_in_stages rest (k + node_count node))
        (of_part around earlier node k n h.0) (of_stages around (earlier ++ owned_in node) rest (k + node_count node) (n + number_count node) h.1)

  of_units : (d : Draft) (transfers : List CoreTransfer) (units : List TransferUnit) (ofs : List NumberedSlice) (slices : List TreeMove) → AllZip (UnitStands d core) transfers units → AllZip (IsOf core) transfers ofs → AreMovesStanding d ofs slices → AreSlicesStanding d core units slices
  of_units d [] [] [] [] u o h = tt
  of_units d [] [] [] (x ∷ slices) u o h = absurd h
  of_units d [] [] (of ∷ ofs) slices u o h = absurd o
  of_units d [] (unit ∷ units) ofs slices u o h = absurd u
  of_units d (l ∷ transfers) [] ofs slices u o h = absurd u
  of_units d (l ∷ transfers) (unit ∷ units) [] slices u o h = absurd o
  of_units d (l ∷ transfers) (unit ∷ units) (of ∷ ofs) [] u o h = absurd h
  of_units d (l ∷ transfers) (unit ∷ units) (of ∷ ofs) (x ∷ slices) u o h = (
    record {
      node = h.0.node ∙ o.0.node ∙ ap (λ (y : CoreTransfer). y.node) (sym u.0.transfer_is);
      start = h.0.start;
      each = ap (λ (y : CoreTransfer). length (dram core y.dram).dims) u.0.transfer_is ∙ sym o.0.each ∙ sym h.0.each;
      nets = h.0.nets;
    },
    of_units d transfers units ofs slices u.1 o.1 h.1,
  )

  pub slices_stand : (d : Draft) (units : List TransferUnit) (slices : List TreeMove) → IsCore core → AllZip (UnitStands d core) (transfers_in core.root 0 0) units → AreMovesStanding d (slices_in core.root 0) slices → AreSlicesStanding d core units slices
  slices_stand d units slices is u h = of_units d (transfers_in core.root 0 0) units (slices_in core.root 0) slices u (of_part nothing [] core.root 0 0 is.nodes) h
