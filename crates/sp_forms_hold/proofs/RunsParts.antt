-- Where a part of a core stands its parts do.
use Rattle.std.proofs.Common.{◌≡◌, ℕ, ◌+◌, ◌<◌, Bool, true, false, List, [], ◌∷◌, ◌++◌, length, take, slice_index_or, Option, None, refl, ap, sym, ◌∙◌, subst, arith, append_assoc, append-nil, length-append, get_or-append-add, if◌then◌else◌}
use Rattle.std.proofs.lemmas.Bool.{false≢true}
use Rattle.std.proofs.Math.ListN.{get_or-append}
use Rattle.std.proofs.Math.Seq.{get_or-append_seam}
use Rattle.sp_affine.specs.Affine.{Affine}
use Rattle.sp_core.specs.declared.node.SparseKind.{SparseKind}
use Rattle.sp_core.specs.declared.node.SparseKind.TheVariants.{Gather, Scatter, WideLoad, WideStore}
use Rattle.sp_core.specs.Forms.{form_at}
use Rattle.sp_core.specs.NodeRules.{range_count}
use Rattle.sp_core.specs.Numbered.{Numbered, plain, accesses, transfers, list_numbers, counters_numbers, spans_numbers, numbers, stages_numbers, access_count, ranges_count, numbered, range_number}
use Rattle.sp_core.specs.Numbering.{counters_size, spans_size, number_count}
use Rattle.sp_core.specs.OperationRules.{is_access}
use Rattle.sp_core.specs.PlainCore.{PlainOp, PlainCounter, PlainSpan, PlainNode, sparse, PlainCore}
use Rattle.sp_patterns.specs.Indices.{access_forms, range_lengths}
use Rattle.sp_patterns.specs.Patterns.{is_pick, some_forms, list_forms, bounds_forms, spans_forms, sparse_forms, sparse_lengths, node_forms, stages_forms, node_lengths, stages_lengths, patterns_of}
use Rattle.sp_patterns.specs.Ranges.{PlainAround, inside}
use Rattle.sp_hold.proofs.Entries.{count_of_both, ranges_of_both, no_ranges, no_bound_ranges, no_span_ranges, list_entries, bounds_entries, spans_entries, node_entries, node_ranges}
use Rattle.sp_forms_hold.specs.RunsStanding.{StandsAt, ListStands, BoundsStand, SpansStand, NodeStands, TransferStands, OpStands, SliceStands, PartsStand}
use Rattle.sp_forms_hold.proofs.RunsSizes.{list_size, bounds_size, all_spans_size, node_size}

front : {A : Type 0} (a b : List A) → take (length a) (a ++ b) ≡ a
front [] b = refl
front (x ∷ a) b = ap (λ xs. x ∷ xs) (front a b)

three : {A : Type 0} (a b c d : List A) → a ++ ((b ++ c) ++ d) ≡ (a ++ b) ++ (c ++ d)
three a b c d = ap (λ x. a ++ x) (append_assoc b c d) ∙ sym (append_assoc a b (c ++ d))

module _ (core : PlainCore) where
  -- two parts, one after the other; the second one at its number
  pub both_stand : (n m : ℕ) (ns ms : List Numbered) (fs gs : List (Option (List Affine))) (ls ks : List (Option ℕ)) → StandsAt core n (ns ++ ms) (fs ++ gs) (ls ++ ks)
      → length fs ≡ access_count ns → length ls ≡ ranges_count ns → n + length ns ≡ m → StandsAt core n ns fs ls × StandsAt core m ms gs ks
  both_stand n m ns ms fs gs ls ks h many long at =
      let here = h.number in
      let entries = h.entries in
      let ranges = h.ranges in (
        record {
          before = h.before;
          after = ms ++ h.after;
          earlier = h.earlier;
          later = gs ++ h.later;
          shorter = h.shorter;
          longer = ks ++ h.longer;
          all_numbers = h.all_numbers ∙ ap (λ x. h.before ++ x) (append_assoc ns ms h.after);
          all_forms = h.all_forms ∙ ap (λ x. h.earlier ++ x) (append_assoc fs gs h.later);
          all_lengths = h.all_lengths ∙ ap (λ x. h.shorter ++ x) (append_assoc ls ks h.longer);
          number = h.number;
          entries = h.entries;
          ranges = h.ranges;
        },
        record {
          before = h.before ++ ns;
          after = h.after;
          earlier = h.earlier ++ fs;
          later = h.later;
          shorter = h.shorter ++ ls;
          longer = h.longer;
          all_numbers = h.all_numbers ∙ three h.before ns ms h.after;
          all_forms = h.all_forms ∙ three h.earlier fs gs h.later;
          all_lengths = h.all_lengths ∙ three h.shorter ls ks h.longer;
          number = omega (arith, length-append h.before ns, here, at);
          entries = omega (arith, length-append h.earlier fs, count_of_both h.before ns, entries, many);
          ranges = omega (arith, length-append h.shorter ls, ranges_of_both h.before ns, ranges, long);
        },
      )

  -- what stands first
  first_number : (n : ℕ) (x : Numbered) (ns : List Numbered) (fs : List (Option (List Affine))) (ls : List (Option ℕ)) → StandsAt core n (x ∷ ns) fs ls → numbered core n ≡ x
  first_number n x ns fs ls h = ap (λ k. slice_index_or (numbers core.root) k plain) (sym h.number) ∙ ap (λ xs. slice_index_or xs (length h.before) plain) h.all_numbers ∙ get_or-append_seam h.before x (ns ++ h.after) plain

  before_it : (n : ℕ) (ns : List Numbered) (fs : List (Option (List Affine))) (ls : List (Option ℕ)) (h : StandsAt core n ns fs ls) → take n (numbers core.root) ≡ h.before
  before_it n ns fs ls h = ap (λ k. take k (numbers core.root)) (sym h.number) ∙ ap (take (length h.before)) h.all_numbers ∙ front h.before (ns ++ h.after)

  first_form : (n : ℕ) (ns : List Numbered) (f : Option (List Affine)) (fs : List (Option (List Affine))) (ls : List (Option ℕ)) → StandsAt core n ns (f ∷ fs) ls → form_at core (patterns_of core) n ≡ f
  first_form n ns f fs ls h =
      ap (λ k. slice_index_or (patterns_of core).forms k None) (ap access_count (before_it n ns (f ∷ fs) ls h) ∙ sym h.entries)
      ∙ ap (λ xs. slice_index_or xs (length h.earlier) None) h.all_forms ∙ get_or-append_seam h.earlier f (fs ++ h.later) None

  each_length : (n : ℕ) (ns : List Numbered) (fs : List (Option (List Affine))) (ls : List (Option ℕ)) → StandsAt core n ns fs ls → (k : ℕ) → k < length ls → slice_index_or (patterns_of core).lengths (range_number core n + k) None ≡ slice_index_or ls k None
  each_length n ns fs ls h k less =
      ap (λ j. slice_index_or (patterns_of core).lengths (j + k) None) (ap ranges_count (before_it n ns fs ls h) ∙ sym h.ranges)
      ∙ ap (λ xs. slice_index_or xs (length h.shorter + k) None) h.all_lengths ∙ get_or-append-add h.shorter (ls ++ h.longer) k None ∙ get_or-append ls h.longer None k less

  form_if : (n : ℕ) (t : Bool) (ns : List Numbered) (f : Option (List Affine)) (fs : List (Option (List Affine))) → t ≡ true → StandsAt core n ns (if t then f ∷ fs else fs) [] → form_at core (patterns_of core) n ≡ f
  form_if n true ns f fs e h = first_form n ns f fs [] h
  form_if n false ns f fs e h = absurd (false≢true e)

  rest_stands : (n : ℕ) (t : Bool) (ns : List Numbered) (f : Option (List Affine)) (fs : List (Option (List Affine))) → StandsAt core n ((if t then accesses else plain) ∷ ns) (if t then f ∷ fs else fs) [] → StandsAt core (n + 1) ns fs []
  rest_stands n true ns f fs h = (both_stand n (n + 1) (accesses ∷ []) ns (f ∷ []) fs [] [] h refl refl refl).1
  rest_stands n false ns f fs h = (both_stand n (n + 1) (plain ∷ []) ns [] fs [] [] h refl refl refl).1

  op_stands : (n : ℕ) (around : PlainAround) (all before : List PlainOp) (op : PlainOp) (after : List PlainOp) → StandsAt core n (list_numbers (before ++ op ∷ after)) (some_forms core.mems around all (before ++ op ∷ after)) []
      → OpStands core (n + length before) around all op
  op_stands n around all [] op after h =
      let here : OpStands core n around all op = record {
        number = first_number n _ (list_numbers after) _ [] h;
        form = λ e. form_if n (is_access op.kind) _ (access_forms core.mems around all op) (some_forms core.mems around all after) e h;
      } in
      subst (λ k. OpStands core k around all op) (omega arith) here
  op_stands n around all (b ∷ before) op after h =
      let rest = rest_stands n (is_access b.kind) (list_numbers (before ++ op ∷ after)) (access_forms core.mems around all b) (some_forms core.mems around all (before ++ op ∷ after)) h in
      subst (λ k. OpStands core k around all op) (omega arith) (op_stands (n + 1) around all before op after rest)

  slice_stands : (n : ℕ) (around : PlainAround) (count : ℕ) (row : Option (List Affine)) (ls : List (Option ℕ)) → TransferStands core n around count row ls → SliceStands core n count row ls
  slice_stands n around count row ls h = record { number = first_number n _ [] _ ls h; form = first_form n _ row [] ls h; each_length = each_length n _ _ ls h }

  -- numbers, as they are added up
  two_on : (n a b : ℕ) {c d : ℕ} → c ≡ a → d ≡ b → (n + c) + d ≡ n + (a + b)
  two_on n a b h k = omega (arith, h, k)

  module _ (n : ℕ) (around : PlainAround) where
    -- two lists
    lists_stand : (a b : List PlainOp) (ms : List Numbered) (gs : List (Option (List Affine))) (ks : List (Option ℕ)) → StandsAt core n ((list_numbers a ++ list_numbers b) ++ ms) ((list_forms core.mems around a ++ list_forms core.mems around b) ++ gs) ks
        → (ListStands core n around a × ListStands core (n + length a) around b) × StandsAt core (n + (length a + length b)) ms gs ks
    lists_stand a b ms gs ks h =
        let numbers_of_both = length-append (list_numbers a) (list_numbers b) in
        let forms_of_both = length-append (list_forms core.mems around a) (list_forms core.mems around b) in
        let entries = count_of_both (list_numbers a) (list_numbers b) in
        let none = ranges_of_both (list_numbers a) (list_numbers b) in
        let p = both_stand n (n + (length a + length b)) (list_numbers a ++ list_numbers b) ms (list_forms core.mems around a ++ list_forms core.mems around b) gs [] ks h
        (omega (arith, forms_of_both, entries, list_entries core.mems around a, list_entries core.mems around b)) (omega (arith, none, no_ranges a, no_ranges b)) (omega (arith, numbers_of_both, list_size a, list_size b)) in
        (both_stand n (n + length a) (list_numbers a) (list_numbers b) (list_forms core.mems around a) (list_forms core.mems around b) [] [] p.0 (list_entries core.mems around a) (sym (no_ranges a)) (ap (λ k. n + k) (list_size a)), p.1)

    after_list : (a : List PlainOp) (ms : List Numbered) (gs : List (Option (List Affine))) (ks : List (Option ℕ)) → StandsAt core n (list_numbers a ++ ms) (list_forms core.mems around a ++ gs) ks → ListStands core n around a × StandsAt core (n + length a) ms gs ks
    after_list a ms gs ks h = both_stand n (n + length a) (list_numbers a) ms (list_forms core.mems around a) gs [] ks h (list_entries core.mems around a) (sym (no_ranges a)) (ap (λ k. n + k) (list_size a))

    after_bounds : (counters : List PlainCounter) (ms : List Numbered) (gs : List (Option (List Affine))) (ks : List (Option ℕ)) → StandsAt core n (counters_numbers counters ++ ms) (bounds_forms core.mems around counters ++ gs) ks
        → BoundsStand core n around counters × StandsAt core (n + counters_size counters) ms gs ks
    after_bounds counters ms gs ks h = both_stand n (n + counters_size counters) (counters_numbers counters) ms (bounds_forms core.mems around counters) gs [] ks h (bounds_entries core.mems around counters) (sym (no_bound_ranges counters)) (ap (λ k. n + k) (bounds_size counters))

    after_spans : (spans : List PlainSpan) (ms : List Numbered) (gs : List (Option (List Affine))) (ks : List (Option ℕ)) → StandsAt core n (spans_numbers spans ++ ms) (spans_forms core.mems around spans ++ gs) ks
        → SpansStand core n around spans × StandsAt core (n + spans_size spans) ms gs ks
    after_spans spans ms gs ks h = both_stand n (n + spans_size spans) (spans_numbers spans) ms (spans_forms core.mems around spans) gs [] ks h (spans_entries core.mems around spans) (sym (no_span_ranges spans)) (ap (λ k. n + k) (all_spans_size spans))

    after_node : (node : PlainNode) (ms : List Numbered) (gs : List (Option (List Affine))) (ks : List (Option ℕ)) → StandsAt core n (numbers node ++ ms) (node_forms core.mems around node ++ gs) (node_lengths core.mems around node ++ ks)
        → NodeStands core n around node × StandsAt core (n + number_count node) ms gs ks
    after_node node ms gs ks h =
        both_stand n (n + number_count node) (numbers node) ms (node_forms core.mems around node) gs (node_lengths core.mems around node) ks h (node_entries core.mems around node) (node_ranges core.mems around node) (ap (λ k. n + k) (node_size node))

    after_sparse : (spans : List PlainSpan) (count : List PlainOp) (ms : List Numbered) (gs : List (Option (List Affine))) (ks : List (Option ℕ))
        → StandsAt core n (spans_numbers spans ++ (list_numbers count ++ ms)) (spans_forms core.mems around spans ++ (list_forms core.mems around count ++ gs)) ks
        → SpansStand core n around spans × (ListStands core (n + spans_size spans) around count × StandsAt core (n + (spans_size spans + length count)) ms gs ks)
    after_sparse spans count ms gs ks h =
        let a = after_spans spans (list_numbers count ++ ms) (list_forms core.mems around count ++ gs) ks h in
        let sum : (n + spans_size spans) + length (list_numbers count) ≡ n + (spans_size spans + length count) = omega (arith, list_size count) in
        (a.0, both_stand (n + spans_size spans) (n + (spans_size spans + length count)) (list_numbers count) ms (list_forms core.mems around count) gs [] ks a.1 (list_entries core.mems around count) (sym (no_ranges count)) sum)

  moved_on : (n k m : ℕ) (ns : List Numbered) (fs : List (Option (List Affine))) (ls : List (Option ℕ)) → n + k ≡ m → StandsAt core (n + k) ns fs ls → StandsAt core m ns fs ls
  moved_on n k m ns fs ls e h = subst (λ j. StandsAt core j ns fs ls) e h

  by_kind : (n : ℕ) (around : PlainAround) (kind : SparseKind) (r m : ℕ) (index : Option ℕ) (spans : List PlainSpan) (count : List PlainOp) (par : ℕ) → NodeStands core n around (sparse kind r m index spans count par) →
      SpansStand core n around spans × (ListStands core (n + spans_size spans) around count
      × TransferStands core (n + (spans_size spans + length count)) around (if is_pick kind then 1 else range_count spans) (sparse_forms core.mems around kind spans) (sparse_lengths core.mems around kind spans count))
  by_kind n around Gather r m index spans count par h = after_sparse n around spans count (transfers 1 ∷ []) _ _ h
  by_kind n around Scatter r m index spans count par h = after_sparse n around spans count (transfers 1 ∷ []) _ _ h
  by_kind n around WideLoad r m index spans count par h = after_sparse n around spans count (transfers (range_count spans) ∷ []) _ _ h
  by_kind n around WideStore r m index spans count par h = after_sparse n around spans count (transfers (range_count spans) ∷ []) _ _ h

  pub parts_stand : PartsStand core
  parts_stand = record {
    root = record {
      before = [];
      after = [];
      earlier = [];
      later = [];
      shorter = [];
      longer = [];
      all_numbers = sym (append-nil (numbers core.root));
      all_forms = sym (append-nil (patterns_of core).forms);
      all_lengths = sym (append-nil (patterns_of core).lengths);
      number = refl;
      entries = refl;
      ranges = refl;
    };
    operation = λ n around before op after h. op_stands n around (before ++ op ∷ after) before op after h;
    transfer = slice_stands;
    bounds = λ n around c counters h. lists_stand n around c.from c.until (counters_numbers counters) (bounds_forms core.mems around counters) [] h;
    single_span = λ n around ops spans h. after_list n around ops (spans_numbers spans) (spans_forms core.mems around spans) [] h;
    range_span = λ n around a b spans h. lists_stand n around a b (spans_numbers spans) (spans_forms core.mems around spans) [] h;
    inner_body = λ n around counters owned ops comb h. after_bounds n around counters (list_numbers ops) (list_forms core.mems (inside core.mems around counters) ops) [] h;
    outer_body = λ n around counters style owned stages h.
        after_bounds n around counters (stages_numbers stages) (stages_forms core.mems (inside core.mems around counters) stages) (stages_lengths core.mems (inside core.mems around counters) stages) h;
    stages = λ n around first last comb node rest h. after_node n around node (stages_numbers rest) (stages_forms core.mems around rest) (stages_lengths core.mems around rest) h;
    machine = λ n around start state test body next h.
        let a = lists_stand n around start test (numbers body ++ list_numbers next) (node_forms core.mems around body ++ list_forms core.mems around next) (node_lengths core.mems around body)
        h in
        let b = after_node (n + (length start + length test)) around body (list_numbers next) (list_forms core.mems around next) [] (subst (λ ls. StandsAt core (n + (length start + length test)) (numbers body ++ list_numbers next) (node_forms core.mems around body ++ list_forms core.mems around next) ls) (sym (append-nil (node_lengths core.mems around body))) a.1) in
        (a.0, (b.0, moved_on (n + (length start + length test)) (number_count body) _ _ _ _ (omega arith) b.1));
    blocks = λ n around test first second h.
        let a = after_list n around test (numbers first ++ numbers second) (node_forms core.mems around first ++ node_forms core.mems around second) (node_lengths core.mems around first ++ node_lengths core.mems around second) h in
        let b = after_node (n + length test) around first (numbers second) (node_forms core.mems around second) (node_lengths core.mems around second) a.1 in
        (a.0, (b.0, moved_on (n + length test) (number_count first) _ _ _ _ (omega arith) b.1));
    loaded = λ n around r m spans h. after_spans n around spans (transfers (range_count spans) ∷ []) _ (range_lengths core.mems around spans) h;
    stored = λ n around r m spans h. after_spans n around spans (transfers (range_count spans) ∷ []) _ (range_lengths core.mems around spans) h;
    sparsely = λ n around kind r m index spans count par h. by_kind n around kind r m index spans count par h;
  }
