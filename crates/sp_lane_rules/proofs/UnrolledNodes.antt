-- The nodes of lanes keep the rules of cores.
use Rattle.std.proofs.Common.{◌≡◌, ℕ, ◌+◌, Bool, true, false, ◌&&◌, ◌||◌, List, [], ◌∷◌, length, Option, Some, None, refl, ◌∙◌, ap, ◌==◌, nat_lt, nat_le}
use Rattle.std.proofs.lemmas.Bool.{and_parts, and_from}
use Rattle.std.proofs.lemmas.List.{length-map}
use Rattle.std.specs.List.{list_all}
use Rattle.std.specs.Prelude.{option_map, slice_index_or}
use Rattle.sp_words.specs.Types.{int_type}
use Rattle.sp_core.specs.declared.node.SparseKind.{SparseKind}
use Rattle.sp_core.specs.declared.node.SparseKind.TheVariants.{Gather, Scatter, WideLoad, WideStore}
use Rattle.sp_core.specs.Around.{Around, Near, is_usable}
use Rattle.sp_core.specs.Declarations.{mem, dram}
use Rattle.sp_core.specs.NodeRules.{is_sram, is_line, range_count, ends_in_range, are_counters_right, is_span_right, is_slice_right, is_sram_here, fits_sram, fits_line, are_places, is_pick_right, is_none, is_wide_right, is_sparse_right, is_node_right}
use Rattle.sp_core.specs.OperationRules.{is_bound, is_counter_right}
use Rattle.sp_core.specs.PlainCore.{PlainOp, PlainCounter, PlainSpan, single, range, PlainMem, no_port, load, PlainCore}
use Rattle.sp_core.specs.Typed.{is_type}
use Rattle.sp_lanes.specs.Within.{Within, op_in, ops_in, counter_in, counters_in, span_in, spans_in}
use Rattle.sp_lane_rules.specs.UnrolledPlaces.{GoTogether}
use Rattle.sp_lane_rules.proofs.UnrolledLists.{bound_kept}

-- counters and slices
module _ (core lanes : PlainCore) (around inside : Around) (w : Within) (h : GoTogether core lanes around inside w) where
  counter_kept : (c : PlainCounter) → is_counter_right core around c ≡ true → is_counter_right lanes inside (counter_in w c) ≡ true
  counter_kept c e =
      let a = and_parts (is_bound core around c.from && is_bound core around c.until) ((nat_le 1 c.by && nat_lt c.by 2147483648) && (nat_le 1 c.par && nat_le c.par 16)) e in
      let b = and_parts (is_bound core around c.from) (is_bound core around c.until) a.0 in
      and_from _ _ (and_from _ _ (bound_kept core lanes around inside w h c.from b.0) (bound_kept core lanes around inside w h c.until b.1)) a.1

  all_counters : (counters : List PlainCounter) → list_all (is_counter_right core around) counters ≡ true → list_all (is_counter_right lanes inside) (counters_in w counters) ≡ true
  all_counters [] e = refl
  all_counters (c ∷ counters) e =
      let a = and_parts (is_counter_right core around c) (list_all (is_counter_right core around) counters) e in
      and_from _ _ (counter_kept c a.0) (all_counters counters a.1)

  pub controller_kept : (counters : List PlainCounter) → are_counters_right core around counters ≡ true → are_counters_right lanes inside (counters_in w counters) ≡ true
  controller_kept counters e =
      let a = and_parts (nat_le (length counters) 4 && nat_le (length counters + length around.counters) 1000) (list_all (is_counter_right core around) counters) e in
      let same : length (counters_in w counters) ≡ length counters = length-map counters (counter_in w) in
      and_from _ _ (ap (λ n. nat_le n 4 && nat_le (n + length inside.counters) 1000) same ∙ ap (λ (l : List Near). nat_le (length counters) 4 && nat_le (length counters + length l) 1000) h.counters ∙ a.0) (all_counters counters a.1)

  span_kept : (span : PlainSpan) → is_span_right core around span ≡ true → is_span_right lanes inside (span_in w span) ≡ true
  span_kept (single ops) e = bound_kept core lanes around inside w h ops e
  span_kept (range a b) e = let p = and_parts (is_bound core around a) (is_bound core around b) e in
      and_from _ _ (bound_kept core lanes around inside w h a p.0) (bound_kept core lanes around inside w h b p.1)

  all_spans : (spans : List PlainSpan) → list_all (is_span_right core around) spans ≡ true → list_all (is_span_right lanes inside) (spans_in w spans) ≡ true
  all_spans [] e = refl
  all_spans (s ∷ spans) e =
      let a = and_parts (is_span_right core around s) (list_all (is_span_right core around) spans) e in
      and_from _ _ (span_kept s a.0) (all_spans spans a.1)

  ranges_kept : (spans : List PlainSpan) → range_count (spans_in w spans) ≡ range_count spans
  ranges_kept [] = refl
  ranges_kept (single ops ∷ spans) = ranges_kept spans
  ranges_kept (range a b ∷ spans) = ap (λ n. 1 + n) (ranges_kept spans)

  ends_kept : (spans : List PlainSpan) → ends_in_range (spans_in w spans) ≡ ends_in_range spans
  ends_kept [] = refl
  ends_kept (single ops ∷ []) = refl
  ends_kept (range a b ∷ []) = refl
  ends_kept (single ops ∷ s ∷ spans) = ends_kept (s ∷ spans)
  ends_kept (range a b ∷ s ∷ spans) = ends_kept (s ∷ spans)

  -- transfers
  module _ (ports : lanes.ports ≡ core.ports) where
    pub slice_kept : (r : ℕ) (spans : List PlainSpan) → is_slice_right core around r spans ≡ true → is_slice_right lanes inside r (spans_in w spans) ≡ true
    slice_kept r spans e =
        let a = and_parts (nat_lt r (length core.ports.drams) && (length spans == length (dram core r).dims)) (list_all (is_span_right core around) spans) e in
        and_from _ _ (ap (λ n. nat_lt r (length lanes.ports.drams) && (n == length (dram lanes r).dims)) (length-map spans (span_in w))
        ∙ ap (λ p. nat_lt r (length p.drams) && (length spans == length (slice_index_or p.drams r no_port).dims)) ports ∙ a.0) (all_spans spans a.1)

    pub sram_kept : (r m : ℕ) (spans : List PlainSpan) → fits_sram core around r m spans ≡ true → fits_sram lanes inside r (w.number m) (spans_in w spans) ≡ true
    sram_kept r m spans e =
        let a = and_parts ((is_usable core around m && is_sram (mem core m).kind) && is_type (mem core m).ty (dram core r).ty) (range_count spans == length (mem core m).dims) e in
        let b = and_parts (is_usable core around m && is_sram (mem core m).kind) (is_type (mem core m).ty (dram core r).ty) a.0 in
        let c = and_parts (is_usable core around m) (is_sram (mem core m).kind) b.0 in
        let u = h.memories m c.0 in
        and_from _ _ (and_from _ _ (and_from _ _ u.0 (ap (λ (x : PlainMem). is_sram x.kind) u.1 ∙ c.1))
        (ap (λ (x : PlainMem). is_type x.ty (dram lanes r).ty) u.1 ∙ ap (λ p. is_type (mem core m).ty (slice_index_or p.drams r no_port).ty) ports ∙ b.1))
        (ap (λ n. n == length (mem lanes (w.number m)).dims) (ranges_kept spans) ∙ ap (λ (x : PlainMem). range_count spans == length x.dims) u.1 ∙ a.1)

    line_kept : (r m : ℕ) (spans : List PlainSpan) → fits_line core around r m spans ≡ true → fits_line lanes inside r (w.number m) (spans_in w spans) ≡ true
    line_kept r m spans e =
        let a = and_parts ((is_usable core around m && is_line (mem core m).kind) && is_type (mem core m).ty (dram core r).ty) ((range_count spans == 1) && ends_in_range spans) e in
        let b = and_parts (is_usable core around m && is_line (mem core m).kind) (is_type (mem core m).ty (dram core r).ty) a.0 in
        let c = and_parts (is_usable core around m) (is_line (mem core m).kind) b.0 in
        let u = h.memories m c.0 in
        and_from _ _ (and_from _ _ (and_from _ _ u.0 (ap (λ (x : PlainMem). is_line x.kind) u.1 ∙ c.1))
        (ap (λ (x : PlainMem). is_type x.ty (dram lanes r).ty) u.1 ∙ ap (λ p. is_type (mem core m).ty (slice_index_or p.drams r no_port).ty) ports ∙ b.1))
        (ap (λ n. (n == 1) && ends_in_range (spans_in w spans)) (ranges_kept spans) ∙ ap (λ b. (range_count spans == 1) && b) (ends_kept spans) ∙ a.1)

    pub load_kept : (r m : ℕ) (spans : List PlainSpan) → is_node_right core around (load r m spans) ≡ true → is_node_right lanes inside (load r (w.number m) (spans_in w spans)) ≡ true
    load_kept r m spans e =
        let a = and_parts (is_slice_right core around r spans) (fits_sram core around r m spans || fits_line core around r m spans) e in
        and_from _ _ (slice_kept r spans a.0)
        (either (fits_sram core around r m spans) (fits_line core around r m spans) (fits_sram lanes inside r (w.number m) (spans_in w spans)) (fits_line lanes inside r (w.number m) (spans_in w spans)) (sram_kept r m spans) (line_kept r m spans) a.1)
      where
        either : (a b c d : Bool) → (a ≡ true → c ≡ true) → (b ≡ true → d ≡ true) → (a || b) ≡ true → (c || d) ≡ true
        either true b c d f g e = ap (λ x. x || d) (f refl)
        either false b true d f g e = refl
        either false b false d f g e = g e

    places_kept : (p : Option ℕ) → are_places core around p ≡ true → are_places lanes inside (option_map w.number p) ≡ true
    places_kept None e = e
    places_kept (Some p) e =
        let a = and_parts (is_usable core around p && is_sram (mem core p).kind) (is_type (mem core p).ty int_type && (length (mem core p).dims == 1)) e in
        let c = and_parts (is_usable core around p) (is_sram (mem core p).kind) a.0 in
        let u = h.memories p c.0 in
        and_from _ _ (and_from _ _ u.0 (ap (λ (x : PlainMem). is_sram x.kind) u.1 ∙ c.1)) (ap (λ (x : PlainMem). is_type x.ty int_type && (length x.dims == 1)) u.1 ∙ a.1)

    pick_kept : (r m : ℕ) (index : Option ℕ) (spans : List PlainSpan) (count : List PlainOp) (par : ℕ) → is_pick_right core around r m index spans count par ≡ true
        → is_pick_right lanes inside r (w.number m) (option_map w.number index) (spans_in w spans) (ops_in w count) par ≡ true
    pick_kept r m index spans count par e =
        let a = and_parts ((nat_lt r (length core.ports.drams) && (length (dram core r).dims == 1)) && (is_sram_here core around r m && (length (mem core m).dims == 1)))
        ((are_places core around index && is_bound core around count) && ((length spans == 0) && (par == 1))) e in
        let b = and_parts (nat_lt r (length core.ports.drams) && (length (dram core r).dims == 1)) (is_sram_here core around r m && (length (mem core m).dims == 1)) a.0 in
        let c = and_parts (is_sram_here core around r m) (length (mem core m).dims == 1) b.1 in
        let d = and_parts (is_usable core around m && is_sram (mem core m).kind) (is_type (mem core m).ty (dram core r).ty) c.0 in
        let f = and_parts (is_usable core around m) (is_sram (mem core m).kind) d.0 in
        let u = h.memories m f.0 in
        let g = and_parts (are_places core around index && is_bound core around count) ((length spans == 0) && (par == 1)) a.1 in
        let k = and_parts (are_places core around index) (is_bound core around count) g.0 in
        and_from _ _ (and_from _ _ (ap (λ p. nat_lt r (length p.drams) && (length (slice_index_or p.drams r no_port).dims == 1)) ports ∙ b.0)
        (and_from _ _ (and_from _ _ (and_from _ _ u.0 (ap (λ (x : PlainMem). is_sram x.kind) u.1 ∙ f.1))
        (ap (λ (x : PlainMem). is_type x.ty (dram lanes r).ty) u.1 ∙ ap (λ p. is_type (mem core m).ty (slice_index_or p.drams r no_port).ty) ports ∙ d.1))
        (ap (λ (x : PlainMem). length x.dims == 1) u.1 ∙ c.1)))
        (and_from _ _ (and_from _ _ (places_kept index k.0) (bound_kept core lanes around inside w h count k.1)) (ap (λ n. (n == 0) && (par == 1)) (length-map spans (span_in w)) ∙ g.1))

    wide_kept : (r m : ℕ) (index : Option ℕ) (spans : List PlainSpan) (count : List PlainOp) (par : ℕ) → is_wide_right core around r m index spans count par ≡ true
        → is_wide_right lanes inside r (w.number m) (option_map w.number index) (spans_in w spans) (ops_in w count) par ≡ true
    wide_kept r m index spans count par e =
        let a = and_parts (is_slice_right core around r spans && fits_sram core around r m spans) ((is_none core around index && (length count == 0)) && (nat_le 1 par && nat_le par 16)) e in
        let b = and_parts (is_slice_right core around r spans) (fits_sram core around r m spans) a.0 in
        and_from _ _ (and_from _ _ (slice_kept r spans b.0) (sram_kept r m spans b.1))
        (ap (λ c. (c && (length (ops_in w count) == 0)) && (nat_le 1 par && nat_le par 16)) (none_kept index)
        ∙ ap (λ n. (is_none core around index && (n == 0)) && (nat_le 1 par && nat_le par 16)) (length-map count (op_in w)) ∙ a.1)
      where
        none_kept : (p : Option ℕ) → is_none lanes inside (option_map w.number p) ≡ is_none core around p
        none_kept None = refl
        none_kept (Some p) = refl

    pub sparse_kept : (kind : SparseKind) (r m : ℕ) (index : Option ℕ) (spans : List PlainSpan) (count : List PlainOp) (par : ℕ) → is_sparse_right core around kind r m index spans count par ≡ true
        → is_sparse_right lanes inside kind r (w.number m) (option_map w.number index) (spans_in w spans) (ops_in w count) par ≡ true
    sparse_kept Gather r m index spans count par e = pick_kept r m index spans count par e
    sparse_kept Scatter r m index spans count par e = pick_kept r m index spans count par e
    sparse_kept WideLoad r m index spans count par e = wide_kept r m index spans count par e
    sparse_kept WideStore r m index spans count par e = wide_kept r m index spans count par e
