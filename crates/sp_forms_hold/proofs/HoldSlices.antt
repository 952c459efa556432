-- The first indices of a slice are its forms, and its ranges are no longer than is known.
use Rattle.std.proofs.Common.{◌≡◌, ℕ, zero, suc, ◌+◌, ◌^◌, ◌<◌, ◌≤◌, Bool, true, false, ◌&&◌, ◌||◌, ℤ, pos, negsuc, ◌+ℤ◌, ◌-ℤ◌, ◌≤ℤ◌, int_le, List, [], ◌∷◌, ◌++◌, length, map, max, Option, Some, None, IfSome, refl, sym, ap, ◌∙◌, subst, arith, slice_index_or, append_assoc, append-nil, if◌then◌else◌}
use Rattle.std.proofs.lemmas.Bool.{and_parts, and_from, false≢true, ltb-true}
use Rattle.std.proofs.lemmas.Bool.Decides.{Decides-int_eq}
use Rattle.std.proofs.lemmas.Int.{ints}
use Rattle.std.specs.List.{AllZip, list_all}
use Rattle.std.specs.Ordering.{int_eq}
use Rattle.std.specs.Prelude.{◌==◌, nat_lt, nat_le}
use Rattle.sp_affine.specs.Affine.{Affine, dot, value_of, symbol_value}
use Rattle.sp_affine.specs.Equality.{linear_parts_equal, Decides-linear_parts_equal}
use Rattle.sp_core.specs.Around.{Around}
use Rattle.sp_core.specs.Declarations.{dims, dram, dram_number}
use Rattle.sp_core.specs.Elements.{index_value, natural, is_below}
use Rattle.sp_core.specs.Elements as elements
use Rattle.sp_core.specs.Events.{Standing, first_of}
use Rattle.sp_core.specs.Forms.{PlainForms, are_indices, are_known_indices, form_at, is_within, are_within, symbol_in, holds_of_slice}
use Rattle.sp_core.specs.History.{Entry, Taken, one, both, last_word}
use Rattle.sp_core.specs.MemoryRules.{are_memories_right}
use Rattle.sp_core.specs.NodeRules.{is_span_right, is_slice_right, range_count}
use Rattle.sp_core.specs.Numbered.{range_number}
use Rattle.sp_core.specs.OperationRules.{is_bound}
use Rattle.sp_core.specs.Operations.{operations}
use Rattle.sp_core.specs.PlainCore.{PlainOp, PlainSpan, single, range, PlainCore}
use Rattle.sp_core.specs.Scope.{Reading, Scope}
use Rattle.sp_core.specs.Sequential.{taken}
use Rattle.sp_core.specs.Step.{went, in_order}
use Rattle.sp_core.specs.Store.{Store}
use Rattle.sp_core.specs.Transfers.{Part, index, between, part_of, lengths, has_none, are_parts_inside}
use Rattle.sp_fitting.specs.Fitting.{StoreFits}
use Rattle.sp_fitting.specs.Laws.{SymbolsFit}
use Rattle.sp_hold.specs.Laws.{IsIndexItsForm}
use Rattle.sp_hold.proofs.Likeness.{Kept}
use Rattle.sp_hold.proofs.Steps.{bound, was_pure}
use Rattle.sp_patterns.specs.Indices.{at_least_one, length_between, known_after, bound_form, first_form, slice_forms, range_lengths}
use Rattle.sp_patterns.specs.Patterns.{patterns_of}
use Rattle.sp_patterns.specs.Ranges.{PlainAround}
use Rattle.sp_forms_hold.specs.RunsLaws.{IsPlaced}
use Rattle.sp_forms_hold.specs.RunsStanding.{TransferStands, SliceStands, PartsStand}
use Rattle.sp_forms_hold.specs.HoldLaws.{slice_of, SliceHolds}
use Rattle.sp_forms_hold.proofs.HoldBounds.{FitsForm, bound_fits, bound_is}
use Rattle.sp_forms_hold.proofs.HoldDrams.{are_small, drams_small}
use Rattle.sp_forms_hold.proofs.HoldEarly.{bound_leaves}

-- numbers that are inside of dimensions
abbrev IsSmall : ℤ → Type 0
IsSmall z = (pos 0 ≤ℤ z) × (z ≤ℤ pos (2 ^ 26))

abbrev IsSmallPart : Part → Type 0
IsSmallPart (index i) = IsSmall i
IsSmallPart (between a b) = IsSmall a × IsSmall b

abbrev AreSmallParts : List Part → Type 0
AreSmallParts [] = Unit {0}
AreSmallParts (p ∷ parts) = IsSmallPart p × AreSmallParts parts

at_most : (a b : ℕ) → nat_le a b ≡ true → a ≤ b
at_most a b h = grind arith

at_most_int : (a b : ℤ) → int_le a b ≡ true → a ≤ℤ b
at_most_int a b h = grind (arith, ints)

below_small : (z : ℤ) (d : ℕ) → is_below z d ≡ true → d ≤ 2 ^ 26 → IsSmall z
below_small (pos n) d h k = let less = ltb-true n d h in (omega (arith, ints), omega (arith, ints, less, k))
below_small (negsuc n) d h k = absurd (false≢true h)

-- a range that isn't empty has its first bound below its second
not_zero : (n : ℕ) → (n == 0) ≡ false → 1 ≤ n
not_zero zero h = absurd (false≢true (sym h))
not_zero (suc n) h = omega arith

some_between : (z : ℤ) → 1 ≤ natural z → pos 1 ≤ℤ z
some_between (pos n) h = omega (arith, ints, h)
some_between (negsuc n) h = absurd (omega (arith, h))

neither : (a b : Bool) → (a || b) ≡ false → (a ≡ false) × (b ≡ false)
neither true b h = absurd (false≢true (sym h))
neither false b h = (refl, h)

ordered : (a b : ℤ) → (elements.length_between a b == 0) ≡ false → pos 1 ≤ℤ (b -ℤ a)
ordered a b h = some_between (b -ℤ a) (not_zero (elements.length_between a b) h)

range_small : (a b : ℤ) (d : ℕ) → pos 0 ≤ℤ a → b ≤ℤ pos d → pos 1 ≤ℤ (b -ℤ a) → d ≤ 2 ^ 26 → IsSmall a × IsSmall b
range_small a b d h k l m = ((h, omega (arith, ints, k, l, m)), (omega (arith, ints, h, l), omega (arith, ints, k, m)))

parts_small : (ds : List ℕ) (parts : List Part) → are_parts_inside ds parts ≡ true → are_small ds ≡ true → has_none (lengths parts) ≡ false → AreSmallParts parts
parts_small [] [] h k l = tt
parts_small [] (p ∷ parts) h k l = absurd (false≢true h)
parts_small (d ∷ ds) [] h k l = tt
parts_small (d ∷ ds) (index i ∷ parts) h k l =
    let a = and_parts (is_below i d) (are_parts_inside ds parts) h in
    let b = and_parts (nat_le d (2 ^ 26)) (are_small ds) k in
    (below_small i d a.0 (at_most d (2 ^ 26) b.0), parts_small ds parts a.1 b.1 l)
parts_small (d ∷ ds) (between x y ∷ parts) h k l =
    let a = and_parts (int_le (pos 0) x && int_le y (pos d)) (are_parts_inside ds parts) h in
    let ends = and_parts (int_le (pos 0) x) (int_le y (pos d)) a.0 in
    let b = and_parts (nat_le d (2 ^ 26)) (are_small ds) k in
    let none = neither (elements.length_between x y == 0) (has_none (lengths parts)) l in
    (range_small x y d (at_most_int (pos 0) x ends.0) (at_most_int y (pos d) ends.1) (ordered x y none.0) (at_most d (2 ^ 26) b.0), parts_small ds parts a.1 b.1 none.1)

-- the difference of two forms that differ by a constant
same_length : (f g : Affine) (values : List ℤ) (symbols : ℕ → ℤ) (x y : ℤ) → f.coefs ≡ g.coefs → f.symbol ≡ g.symbol → value_of f values symbols ≡ x → value_of g values symbols ≡ y → y -ℤ x ≡ g.constant -ℤ f.constant
same_length f g values symbols x y c s h k =
    apart (dot f.coefs values) (dot g.coefs values) f.constant g.constant (symbol_value f.symbol symbols) (symbol_value g.symbol symbols) x y (ap (λ cs. dot cs values) c) (ap (λ o. symbol_value o symbols) s) h k
  where
    apart : (d e a b p q x y : ℤ) → d ≡ e → p ≡ q → (d +ℤ a) +ℤ p ≡ x → (e +ℤ b) +ℤ q ≡ y → y -ℤ x ≡ b -ℤ a
    apart d e a b p q x y i j h k = omega (arith, ints, i, j, h, k)

pub at_least : (n m : ℕ) → n ≡ m → nat_le n (max 1 m) ≡ true
at_least n m e = grind (arith, e)

length_within : (values : List ℤ) (symbols : ℕ → ℤ) (x y : ℤ) (r q : Option Affine) → IfSome r (λ f. value_of f values symbols ≡ x) → IfSome q (λ g. value_of g values symbols ≡ y)
    → IfSome (length_between r q) (λ most. nat_le (elements.length_between x y) most ≡ true)
length_within values symbols x y None q h k = tt
length_within values symbols x y (Some f) None h k = tt
length_within values symbols x y (Some f) (Some g) h k = by_test (linear_parts_equal f g) refl
  where
    by_test : (b : Bool) → linear_parts_equal f g ≡ b → IfSome (if b then Some (at_least_one (g.constant -ℤ f.constant)) else None) (λ most. nat_le (elements.length_between x y) most ≡ true)
    by_test true e =
        let same = (Decides-linear_parts_equal f g).0 e in
        at_least (natural (y -ℤ x)) (natural (g.constant -ℤ f.constant)) (ap natural (same_length f g values symbols x y same.0 same.1 h k))
    by_test false e = tt

module _ (core : PlainCore) where
  abbrev forms : PlainForms
  forms = patterns_of core

  -- a length is within what is known
  within_known : (o : Option ℕ) (n : ℕ) → IfSome o (λ most. nat_le n most ≡ true) → is_within core forms o n ≡ true
  within_known None n h = refl
  within_known (Some most) n h = h

  pub lengths_hold : (base : ℕ) (ls : List (Option ℕ)) (ns : List ℕ) → ((k : ℕ) → k < length ls → slice_index_or forms.lengths (base + k) None ≡ slice_index_or ls k None) → AllZip (λ o n. IfSome o (λ most. nat_le n most ≡ true)) ls ns
      → are_within core forms base ns ≡ true
  lengths_hold base [] [] look h = refl
  lengths_hold base [] (n ∷ ns) look h = absurd h
  lengths_hold base (o ∷ ls) [] look h = absurd h
  lengths_hold base (o ∷ ls) (n ∷ ns) look h =
      let here : slice_index_or forms.lengths base None ≡ o = ap (λ j. slice_index_or forms.lengths j None) (omega arith) ∙ look 0 (omega arith) in
      and_from (is_within core forms (slice_index_or forms.lengths base None) n) (are_within core forms (base + 1) ns)
      (ap (λ x. is_within core forms x n) here ∙ within_known o n h.0)
      (lengths_hold (base + 1) ls ns (λ k less. ap (λ j. slice_index_or forms.lengths j None) (omega arith) ∙ look (suc k) (omega (arith, less))) h.1)

  module _ (outside : Around) (kept : Kept) (around : PlainAround) (scope : Scope) (st : Standing) (placed : IsPlaced scope around st.counters) where
    -- what the spans gave
    abbrev SpanGave : Store → PlainSpan → Taken → Type 0
    SpanGave s (single ops) (one es) = FitsForm core outside kept around scope st.counters placed s ops (last_word es)
    SpanGave s (range a b) (both es fs) = FitsForm core outside kept around scope st.counters placed s a (last_word es) × FitsForm core outside kept around scope st.counters placed s b (last_word fs)
    SpanGave s _ _ = ⊥

    record Gave (span : PlainSpan) (s t : Store) (given : Taken) : Type 0 where
      here : SpanGave s span given
      left : t ≡ s

    span_gave : (reading : Reading) (turns : ℕ) (span : PlainSpan) (s t : Store) (given : Taken) → is_span_right core outside span ≡ true → taken core reading turns scope span s ≡ went given t → Gave span s t given
    span_gave reading turns (single ops) s t given right e =
        let first = bound _ _ s given t e in
        let end = was_pure (one first.value) given first.middle t first.later in
        record {
          here = subst (SpanGave s (single ops)) end.value (bound_fits core outside kept around scope st.counters placed ops s first.middle first.value right first.first);
          left = sym end.store ∙ bound_leaves core outside st scope ops s first.middle first.value right first.first;
        }
    span_gave reading turns (range a b) s t given right e =
        let r = and_parts (is_bound core outside a) (is_bound core outside b) right in
        let first = bound _ _ s given t e in
        let second = bound _ _ first.middle given t first.later in
        let end = was_pure (both first.value second.value) given second.middle t second.later in
        let left = bound_leaves core outside st scope a s first.middle first.value r.0 first.first in
        let later : operations core scope b s ≡ went second.value second.middle = subst (λ x. operations core scope b x ≡ went second.value second.middle) left second.first in
        record {
          here = subst (SpanGave s (range a b)) end.value (bound_fits core outside kept around scope st.counters placed a s first.middle first.value r.0 first.first, bound_fits core outside kept around scope st.counters placed b s second.middle second.value r.1 later);
          left = sym end.store ∙ bound_leaves core outside st scope b s second.middle second.value r.1 later;
        }

    pub record AllGave (spans : List PlainSpan) (s t : Store) (ts : List Taken) : Type 0 where
      pub here : AllZip (SpanGave s) spans ts
      pub left : t ≡ s

    pub all_gave : (reading : Reading) (turns : ℕ) (spans : List PlainSpan) (s t : Store) (ts : List Taken) → list_all (is_span_right core outside) spans ≡ true → in_order (taken core reading turns scope) spans s ≡ went ts t → AllGave spans s t ts
    unfolding in_order
    all_gave reading turns [] s t ts right e = let end = was_pure [] ts s t e in record { here = subst (AllZip (SpanGave s) []) end.value tt; left = sym end.store }
    all_gave reading turns (span ∷ spans) s t ts right e =
        let r = and_parts (is_span_right core outside span) (list_all (is_span_right core outside) spans) right in
        let first = bound _ _ s ts t e in
        let g = span_gave reading turns span s first.middle first.value r.0 first.first in
        let second = bound _ _ first.middle ts t first.later in
        let others = all_gave reading turns spans s second.middle second.value r.1 (subst (λ x. in_order (taken core reading turns scope) spans x ≡ went second.value second.middle) g.left second.first) in
        let end = was_pure (first.value ∷ second.value) ts second.middle t second.later in
        record {
          here = subst (AllZip (SpanGave s) (span ∷ spans)) end.value (g.here, others.here);
          left = sym end.store ∙ others.left;
        }

    module _ (index_is : (f : Affine) → IsIndexItsForm f) (are_ints : SymbolsFit core) (s : Store) (fits : StoreFits core s) where
      abbrev Known : Option Affine → ℤ → Type 0
      Known r z = IfSome r (λ f. value_of f st.counters (symbol_in core forms s) ≡ z)

      known_bound : (ops : List PlainOp) (es : List Entry) → FitsForm core outside kept around scope st.counters placed s ops (last_word es) → IsSmall (index_value (last_word es)) → Known (bound_form core.mems around ops) (index_value (last_word es))
      known_bound ops es h small = bound_is core outside kept around scope st.counters placed index_is are_ints ops (last_word es) s fits h small.0 small.1

      -- the first index of a span
      known_first : (span : PlainSpan) (given : Taken) → SpanGave s span given → IsSmallPart (part_of given) → Known (first_form core.mems around span) (first_of (part_of given))
      known_first (single ops) (one es) h small = known_bound ops es h small
      known_first (single ops) (both es fs) h small = absurd h
      known_first (range a b) (one es) h small = absurd h
      known_first (range a b) (both es fs) h small = known_bound a es h.0 small.0

      indices_more : (fs : List Affine) (is : List ℤ) (f : Affine) (i : ℤ) → are_indices core forms fs is st.counters (symbol_in core forms s) ≡ true → value_of f st.counters (symbol_in core forms s) ≡ i
          → are_indices core forms (fs ++ f ∷ []) (is ++ i ∷ []) st.counters (symbol_in core forms s) ≡ true
      indices_more [] [] f i h e = and_from (int_eq (value_of f st.counters (symbol_in core forms s)) i) true ((Decides-int_eq (value_of f st.counters (symbol_in core forms s)) i).1 e) refl
      indices_more [] (j ∷ is) f i h e = absurd (false≢true h)
      indices_more (g ∷ fs) [] f i h e = absurd (false≢true h)
      indices_more (g ∷ fs) (j ∷ is) f i h e =
          let a = and_parts (int_eq (value_of g st.counters (symbol_in core forms s)) j) (are_indices core forms fs is st.counters (symbol_in core forms s)) h in
          and_from (int_eq (value_of g st.counters (symbol_in core forms s)) j) (are_indices core forms (fs ++ f ∷ []) (is ++ i ∷ []) st.counters (symbol_in core forms s)) a.0 (indices_more fs is f i a.1 e)

      -- one more form, where it is known
      one_more : (r : Option Affine) (z : ℤ) (fs : List Affine) (is : List ℤ) (rest : List (Option Affine)) (others : List ℤ) → Known r z → are_indices core forms fs is st.counters (symbol_in core forms s) ≡ true
          → ((f : Affine) → are_indices core forms (fs ++ f ∷ []) (is ++ z ∷ []) st.counters (symbol_in core forms s) ≡ true → are_known_indices core forms (known_after (fs ++ f ∷ []) rest) ((is ++ z ∷ []) ++ others) st.counters (symbol_in core forms s) ≡ true)
          → are_known_indices core forms (known_after fs (r ∷ rest)) (is ++ z ∷ others) st.counters (symbol_in core forms s) ≡ true
      one_more None z fs is rest others known h later = refl
      one_more (Some f) z fs is rest others known h later =
          ap (λ x. are_known_indices core forms (known_after (fs ++ f ∷ []) rest) x st.counters (symbol_in core forms s)) (sym (append_assoc is (z ∷ []) others)) ∙ later f (indices_more fs is f z h known)

      firsts_hold : (spans : List PlainSpan) (ts : List Taken) (fs : List Affine) (is : List ℤ) → AllZip (SpanGave s) spans ts → AreSmallParts (map part_of ts) → are_indices core forms fs is st.counters (symbol_in core forms s) ≡ true
          → are_known_indices core forms (known_after fs (map (first_form core.mems around) spans)) (is ++ map first_of (map part_of ts)) st.counters (symbol_in core forms s) ≡ true
      firsts_hold [] [] fs is h small e = ap (λ x. are_indices core forms fs x st.counters (symbol_in core forms s)) (append-nil is) ∙ e
      firsts_hold [] (t ∷ ts) fs is h small e = absurd h
      firsts_hold (span ∷ spans) [] fs is h small e = absurd h
      firsts_hold (span ∷ spans) (t ∷ ts) fs is h small e =
          one_more (first_form core.mems around span) (first_of (part_of t)) fs is (map (first_form core.mems around) spans) (map first_of (map part_of ts)) (known_first span t h.0 small.0) e
          (λ f k. firsts_hold spans ts (fs ++ f ∷ []) (is ++ first_of (part_of t) ∷ []) h.1 small.1 k)

      all_within : (spans : List PlainSpan) (ts : List Taken) → AllZip (SpanGave s) spans ts → AreSmallParts (map part_of ts) → AllZip (λ o n. IfSome o (λ most. nat_le n most ≡ true)) (range_lengths core.mems around spans) (lengths (map part_of ts))
      all_within [] [] h small = tt
      all_within [] (t ∷ ts) h small = absurd h
      all_within (span ∷ spans) [] h small = absurd h
      all_within (single ops ∷ spans) (one es ∷ ts) h small = all_within spans ts h.1 small.1
      all_within (single ops ∷ spans) (both es fs ∷ ts) h small = absurd h.0
      all_within (range a b ∷ spans) (one es ∷ ts) h small = absurd h.0
      all_within (range a b ∷ spans) (both es fs ∷ ts) h small = (
        length_within st.counters (symbol_in core forms s) (index_value (last_word es)) (index_value (last_word fs)) (bound_form core.mems around a) (bound_form core.mems around b) (known_bound a es h.0.0 small.0.0) (known_bound b fs h.0.1 small.0.1),
        all_within spans ts h.1 small.1,
      )

      -- the slice
      slice_holds : (n : ℕ) (count : ℕ) (spans : List PlainSpan) (ts : List Taken) → SliceStands core n count (slice_forms core.mems around spans) (range_lengths core.mems around spans) → AllZip (SpanGave s) spans ts → AreSmallParts (map part_of ts)
          → holds_of_slice core forms (slice_of n st (map part_of ts)) s ≡ true
      slice_holds n count spans ts stands h small =
          and_from (are_known_indices core forms (form_at core forms n) (map first_of (map part_of ts)) st.counters (symbol_in core forms s)) (are_within core forms (range_number core n) (lengths (map part_of ts)))
          (ap (λ r. are_known_indices core forms r (map first_of (map part_of ts)) st.counters (symbol_in core forms s)) stands.form ∙ firsts_hold spans ts [] [] h small refl)
          (lengths_hold (range_number core n) (range_lengths core.mems around spans) (lengths (map part_of ts)) stands.each_length (all_within spans ts h small))

    pub spans_hold : (index_is : (f : Affine) → IsIndexItsForm f) (are_ints : SymbolsFit core) (parts : PartsStand core) (reading : Reading) (turns : ℕ) (n r : ℕ) (spans : List PlainSpan) (s t : Store) (ts : List Taken) →
        are_memories_right core ≡ true → is_slice_right core outside r spans ≡ true → TransferStands core n around (range_count spans) (slice_forms core.mems around spans) (range_lengths core.mems around spans) →
        StoreFits core s → in_order (taken core reading turns scope) spans s ≡ went ts t → SliceHolds core n st r (map part_of ts) s t
    spans_hold index_is are_ints parts reading turns n r spans s t ts memories right stands fits e =
        let a = and_parts (nat_lt r (length core.ports.drams) && (length spans == length (dram core r).dims)) (list_all (is_span_right core outside) spans) right in
        let there = (and_parts (nat_lt r (length core.ports.drams)) (length spans == length (dram core r).dims) a.0).0 in
        let gave = all_gave reading turns spans s t ts a.1 e in
        let stand = parts.transfer n around (range_count spans) (slice_forms core.mems around spans) (range_lengths core.mems around spans) stands in
        record {
          left = gave.left;
          holds = λ some inside. slice_holds index_is are_ints s fits n (range_count spans) spans ts stand gave.here (parts_small (dims core (dram_number core r)) (map part_of ts) inside (drams_small core r memories there) some);
        }
