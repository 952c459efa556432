-- In a run of a list symbols have the words that stand as it begins.
use Rattle.std.proofs.Common.{◌≡◌, ℕ, suc, ◌+◌, Bool, true, false, ◌||◌, ℤ, pos, ◌+ℤ◌, List, [], ◌∷◌, ◌++◌, length, map, take, Option, Some, None, IfSome, All, refl, sym, ap, ◌∙◌, subst, arith, append_assoc, slice_index_or, if◌then◌else◌}
use Rattle.std.proofs.lemmas.Bool.{and_parts, and_from, false≢true}
use Rattle.std.proofs.lemmas.Int.{ints}
use Rattle.std.proofs.lemmas.List.Elements.{All-nil, All-cons, All-append}
use Rattle.std.proofs.Math.Seq.{get_or-append_seam}
use Rattle.std.specs.List.{list_all, list_any}
use Rattle.std.specs.Ordering.{int_eq}
use Rattle.sp_words.specs.Laws.{IsInRange}
use Rattle.sp_words.specs.Memory.{Contents}
use Rattle.sp_words.specs.Types.{int_type}
use Rattle.sp_affine.specs.Affine.{Affine, dot, value_of, symbol_value}
use Rattle.sp_core.specs.declared.operation.OpKind.{OpKind}
use Rattle.sp_core.specs.declared.operation.OpKind.TheVariants.{Word, Count, Live, Read, Write, Enq, Deq, Reset, One, Two, Shift, Mux, Cast}
use Rattle.sp_core.specs.Accesses.{word_in}
use Rattle.sp_core.specs.Around.{Around}
use Rattle.sp_core.specs.Declarations.{mem, kind_of, dims}
use Rattle.sp_core.specs.Events.{At, Standing, Moment, act_of, event_of, entry_moments, list_moments}
use Rattle.sp_core.specs.Forms.{PlainForms, held_word, symbol_in, are_indices, are_known_indices, form_at}
use Rattle.sp_core.specs.History.{Entry, left_out, gave, touched, word_at}
use Rattle.sp_core.specs.MemoryRules.{are_memories_right}
use Rattle.sp_core.specs.OperationRules.{is_access, is_operation_right, are_operations_right_after, are_operations_right}
use Rattle.sp_core.specs.Operations.{operations}
use Rattle.sp_core.specs.PlainCore.{PlainOp, PlainCore}
use Rattle.sp_core.specs.Scope.{Scope}
use Rattle.sp_core.specs.Step.{went}
use Rattle.sp_core.specs.Store.{Store}
use Rattle.sp_core.specs.Typed.{Given, given_type, is_type}
use Rattle.sp_fitting.specs.Fitting.{StoreFits}
use Rattle.sp_fitting.specs.Laws.{ListsFit, SymbolsFit}
use Rattle.sp_hold.specs.Laws.{AreFormsIndices}
use Rattle.sp_hold.specs.Values.{IsInt, did, is_allowed}
use Rattle.sp_hold.proofs.Likeness.{Kept}
use Rattle.sp_hold.proofs.ListSteps.{at_place}
use Rattle.sp_hold.proofs.ListWords.{IsSymbol, Fits, words_fit}
use Rattle.sp_hold.proofs.Masks.{all_passed}
use Rattle.sp_hold.proofs.Orderly.{all_allowed, all_masked}
use Rattle.sp_hold.proofs.Steady.{steady_kept}
use Rattle.sp_patterns.specs.Forms.{changes, forms_of}
use Rattle.sp_patterns.specs.Indices.{is_index, index_form, known_after, indices_at, access_forms}
use Rattle.sp_patterns.specs.Patterns.{patterns_of}
use Rattle.sp_patterns.specs.Ranges.{PlainAround}
use Rattle.sp_forms_hold.specs.RunsLaws.{IsPlaced}
use Rattle.sp_forms_hold.specs.RunsStanding.{ListStands, PartsStand}
use Rattle.sp_forms_hold.specs.GroupsAtForms.{IsAtOwnForms}

-- what holds of a list holds of its front
all_front : {A : Type 0} (p : A → Bool) (xs ys : List A) → list_all p (xs ++ ys) ≡ true → list_all p xs ≡ true
all_front p [] ys h = refl
all_front p (x ∷ xs) ys h = let b = and_parts (p x) (list_all p (xs ++ ys)) h in and_from (p x) (list_all p xs) b.0 (all_front p xs ys b.1)

neither : (a b : Bool) → (a || b) ≡ false → (a ≡ false) × (b ≡ false)
neither true b h = absurd (false≢true (sym h))
neither false b h = (refl, h)

none_front : {A : Type 0} (p : A → Bool) (xs ys : List A) → list_any p (xs ++ ys) ≡ false → list_any p xs ≡ false
none_front p [] ys h = refl
none_front p (x ∷ xs) ys h =
    let b = neither (p x) (list_any p (xs ++ ys)) h in
    ap (λ c. c || list_any p xs) b.0 ∙ none_front p xs ys b.1

front_right : (core : PlainCore) (outside : Around) (given : Given) (before after : List PlainOp) → are_operations_right_after core outside given (before ++ after) ≡ true → are_operations_right_after core outside given before ≡ true
front_right core outside given [] after e = refl
front_right core outside given (b ∷ before) after e =
    let a = and_parts (is_operation_right core outside given b) (are_operations_right_after core outside (given ++ given_type b.kind b.ty ∷ []) (before ++ after)) e in
    and_from (is_operation_right core outside given b) (are_operations_right_after core outside (given ++ given_type b.kind b.ty ∷ []) before) a.0 (front_right core outside (given ++ given_type b.kind b.ty ∷ []) before after a.1)

is_int : (z : ℤ) → IsInRange int_type z → IsInt z
is_int z h = (h.0, let less = h.1 in omega (arith, ints, less))

module _ (core : PlainCore) (values : List ℤ) (one two : ℕ → ℤ) where
  abbrev forms : PlainForms
  forms = patterns_of core

  -- forms with one value at either symbols
  abbrev Agrees : Affine → Type 0
  Agrees f = value_of f values one ≡ value_of f values two

  abbrev AllAgree : List Affine → Type 0
  AllAgree [] = Unit {0}
  AllAgree (f ∷ fs) = Agrees f × AllAgree fs

  abbrev KnownAgree : List (Option Affine) → Type 0
  KnownAgree [] = Unit {0}
  KnownAgree (r ∷ rs) = IfSome r Agrees × KnownAgree rs

  one_more : (fs : List Affine) (f : Affine) → AllAgree fs → Agrees f → AllAgree (fs ++ f ∷ [])
  one_more [] f h k = (k, tt)
  one_more (g ∷ fs) f h k = (h.0, one_more fs f h.1 k)

  indices_agree : (fs : List Affine) (is : List ℤ) → AllAgree fs → are_indices core forms fs is values one ≡ true → are_indices core forms fs is values two ≡ true
  indices_agree [] [] h e = refl
  indices_agree [] (i ∷ is) h e = e
  indices_agree (f ∷ fs) [] h e = e
  indices_agree (f ∷ fs) (i ∷ is) h e =
      let a = and_parts (int_eq (value_of f values one) i) (are_indices core forms fs is values one) e in
      and_from (int_eq (value_of f values two) i) (are_indices core forms fs is values two) (ap (λ z. int_eq z i) (sym h.0) ∙ a.0) (indices_agree fs is h.1 a.1)

  known_agree : (fs : List Affine) (rs : List (Option Affine)) (is : List ℤ) → AllAgree fs → KnownAgree rs → are_known_indices core forms (known_after fs rs) is values one ≡ true → are_known_indices core forms (known_after fs rs) is values two ≡ true
  known_agree fs [] is h k e = indices_agree fs is h e
  known_agree fs (None ∷ rs) is h k e = refl
  known_agree fs (Some f ∷ rs) is h k e = known_agree (fs ++ f ∷ []) rs is (one_more fs f h k.0) k.1 e

  index_agrees : (ranges : List (Option (ℤ × ℤ))) (r : Option Affine) → IfSome r Agrees → IfSome (index_form ranges r) Agrees
  index_agrees ranges None h = tt
  index_agrees ranges (Some f) h = by_test (is_index ranges f)
    where
      by_test : (b : Bool) → IfSome (if b then Some f else None) Agrees
      by_test true = h
      by_test false = tt

  operands_agree : (ranges : List (Option (ℤ × ℤ))) (rs : List (Option Affine)) (args : List ℕ) → ((a : ℕ) → IfSome (slice_index_or rs a None) Agrees) → KnownAgree (map (λ a. index_form ranges (slice_index_or rs a None)) args)
  operands_agree ranges rs [] h = tt
  operands_agree ranges rs (a ∷ args) h = (index_agrees ranges (slice_index_or rs a None) (h a), operands_agree ranges rs args h)

  -- the symbol of a form is one that its list leaves alone
  form_agrees : (all : List PlainOp) (n : ℕ) (symbols : ℕ → ℤ) (r : Option Affine) (w : ℕ) → Fits core all n values symbols r w → ((m : ℕ) → IsSymbol core all m → one m ≡ two m) → IfSome r Agrees
  form_agrees all n symbols None w h same = tt
  form_agrees all n symbols (Some f) w (counters, like, good) same = ap (λ z. (dot f.coefs values +ℤ f.constant) +ℤ z) (by_symbol f.symbol good)
    where
      by_symbol : (o : Option ℕ) → IfSome o (IsSymbol core all) → symbol_value o one ≡ symbol_value o two
      by_symbol None h = refl
      by_symbol (Some m) h = same m h

module _ (core : PlainCore) where
  abbrev own : PlainForms
  own = patterns_of core

  module _ (kept : Kept) (lists : ListsFit core) (are_ints : SymbolsFit core) (at_forms : (core : PlainCore) (outside : Around) (around : PlainAround) (before : List PlainOp) (op : PlainOp) (after : List PlainOp) → AreFormsIndices core outside around before op after) (parts : PartsStand core)
      (memories : are_memories_right core ≡ true) (outside : Around) (around : PlainAround) (scope : Scope) (n : ℕ) (st : Standing) (placed : IsPlaced scope around st.counters) (s t : Store) (es : List Entry) (fits : StoreFits core s) where
    abbrev symbols : Store → ℕ → ℤ
    symbols u = symbol_in core own u

    -- the forms of an access at the words as the list begins
    access_at : (before : List PlainOp) (op : PlainOp) (after : List PlainOp) (memory : ℕ) (is : List ℕ) (w : ℕ) → are_operations_right core outside (before ++ op ∷ after) ≡ true → operations core scope (before ++ op ∷ after) s ≡ went es t → op.mem ≡ Some memory
        → slice_index_or es (length before) left_out ≡ touched is w → are_known_indices core own (access_forms core.mems around (before ++ op ∷ after) op) (map pos is) st.counters (symbols s) ≡ true
    access_at before op after memory is w right all names there =
        let r = at_place core scope before op after [] s es t all in
        let allowed = all_allowed core outside (before ++ op ∷ after) [] right in
        let masks = all_masked core outside (before ++ op ∷ after) [] right in
        let passed = all_passed core scope before op after s es t all masks (ap did there) in
        let kept_words = λ (m : ℕ) (good : IsSymbol core (before ++ op ∷ after) m).
        ap (λ (c : Option Contents). held_word core own (word_in (kind_of core m) (dims core m) [] c))
        (steady_kept core scope (before ++ op ∷ after) before [] s r.earlier r.from r.reached (all_front (is_allowed core) before (op ∷ after) allowed) (λ k away. none_front (changes k) before (op ∷ after) away) m good.0) in
        let ints_here = λ (m : ℕ) (typed : is_type int_type (mem core m).ty ≡ true). is_int (symbols r.from m) (are_ints own r.from (lists outside scope before s r.from r.earlier memories (front_right core outside [] before (op ∷ after) right) fits r.reached).left m typed) in
        let here = at_forms core outside around before op after own scope st.counters s r.from t r.earlier es memory is w memories right names r.reached all there placed.in_scope placed.each_range placed.in_ranges ints_here in
        known_agree core st.counters (symbols r.from) (symbols s) [] (map (λ a. index_form around.ranges (slice_index_or (forms_of core.mems (before ++ op ∷ after) op.mask around.places) a None)) (take (indices_at core.mems op.mem) op.args)) (map pos is) tt
        (operands_agree core st.counters (symbols r.from) (symbols s) around.ranges (forms_of core.mems (before ++ op ∷ after) op.mask around.places) (take (indices_at core.mems op.mem) op.args)
        (λ a. form_agrees core st.counters (symbols r.from) (symbols s) (before ++ op ∷ after) (length around.places) (symbols s) (slice_index_or (forms_of core.mems (before ++ op ∷ after) op.mask around.places) a None) (word_at es a)
        (words_fit kept core (before ++ op ∷ after) own op.mask scope around.places st.counters s t es allowed all placed.in_scope passed a) kept_words)) here

    module _ (words : List At → ℕ → ℤ) (begun : words st.path ≡ symbols s) where
      abbrev IsAt : Moment → Type 0
      IsAt = IsAtOwnForms core own words

      at_path : (k : ℕ) (is : List ℕ) → are_known_indices core own (form_at core own k) (map pos is) st.counters (symbols s) ≡ true → are_known_indices core own (form_at core own k) (map pos is) st.counters (words st.path) ≡ true
      at_path k is h = ap (λ x. are_known_indices core own (form_at core own k) (map pos is) st.counters x) begun ∙ h

      event_at : (k : ℕ) (kind : OpKind) (m : Option ℕ) (is : List ℕ) (w : ℕ) → (is_access kind ≡ true → (memory : ℕ) → m ≡ Some memory → are_known_indices core own (form_at core own k) (map pos is) st.counters (symbols s) ≡ true)
          → All IsAt (event_of k st m is (act_of kind w))
      event_at k kind None is w f = All-nil IsAt
      event_at k Read (Some m) is w f = All-cons IsAt _ [] (λ e. at_path k is (f refl m refl)) (All-nil IsAt)
      event_at k Write (Some m) is w f = All-cons IsAt _ [] (λ e. at_path k is (f refl m refl)) (All-nil IsAt)
      event_at k Enq (Some m) is w f = All-cons IsAt _ [] (λ e. at_path k is (f refl m refl)) (All-nil IsAt)
      event_at k Deq (Some m) is w f = All-cons IsAt _ [] (λ e. at_path k is (f refl m refl)) (All-nil IsAt)
      event_at k Reset (Some m) is w f = All-cons IsAt _ [] (λ e. at_path k is (f refl m refl)) (All-nil IsAt)
      event_at k (Word x) (Some m) is w f = All-nil IsAt
      event_at k (Count c lane) (Some m) is w f = All-nil IsAt
      event_at k (Live c first last) (Some m) is w f = All-nil IsAt
      event_at k (One op) (Some m) is w f = All-nil IsAt
      event_at k (Two op) (Some m) is w f = All-nil IsAt
      event_at k (Shift left by) (Some m) is w f = All-nil IsAt
      event_at k Mux (Some m) is w f = All-nil IsAt
      event_at k (Cast to) (Some m) is w f = All-nil IsAt

      module _ (ops : List PlainOp) (right : are_operations_right core outside ops ≡ true) (stands : ListStands core n around ops) (all : operations core scope ops s ≡ went es t) where
        entry_at : (before : List PlainOp) (op : PlainOp) (after : List PlainOp) → before ++ op ∷ after ≡ ops → (e : Entry) → slice_index_or es (length before) left_out ≡ e → All IsAt (entry_moments (n + length before) st op.kind op.mem e)
        entry_at before op after same left_out there = All-nil IsAt
        entry_at before op after same (gave w) there = All-nil IsAt
        entry_at before op after same (touched is w) there =
            let o = parts.operation n around before op after (subst (λ x. ListStands core n around x) (sym same) stands) in
            event_at (n + length before) op.kind op.mem is w (λ access memory names.
            ap (λ row. are_known_indices core own row (map pos is) st.counters (symbols s)) (o.form access)
            ∙ access_at before op after memory is w (subst (λ x. are_operations_right core outside x ≡ true) (sym same) right) (subst (λ x. operations core scope x s ≡ went es t) (sym same) all) names there)

        rest_at : (before later : List PlainOp) → before ++ later ≡ ops → (done rest : List Entry) → length done ≡ length before → es ≡ done ++ rest → All IsAt (list_moments (n + length before) st later rest)
        rest_at before [] same done rest many split = All-nil IsAt
        rest_at before (op ∷ after) same done [] many split = All-nil IsAt
        rest_at before (op ∷ after) same done (e ∷ rest) many split =
            let there : slice_index_or es (length before) left_out ≡ e = ap (λ x. slice_index_or x (length before) left_out) split ∙ ap (λ k. slice_index_or (done ++ e ∷ rest) k left_out) (sym many) ∙ get_or-append_seam done e rest left_out in
            let longer : n + length (before ++ op ∷ []) ≡ suc (n + length before) = omega (arith, length_end before op) in
            let more : length (done ++ e ∷ []) ≡ length (before ++ op ∷ []) = length_end done e ∙ ap suc many ∙ sym (length_end before op) in
            All-append IsAt (entry_moments (n + length before) st op.kind op.mem e) (list_moments (suc (n + length before)) st after rest) (entry_at before op after same e there)
            (subst (λ k. All IsAt (list_moments k st after rest)) longer
            (rest_at (before ++ op ∷ []) after (append_assoc before (op ∷ []) after ∙ same) (done ++ e ∷ []) rest more (split ∙ sym (append_assoc done (e ∷ []) rest))))
          where
            length_end : {A : Type 0} (xs : List A) (x : A) → length (xs ++ x ∷ []) ≡ suc (length xs)
            length_end [] x = refl
            length_end (y ∷ xs) x = ap suc (length_end xs x)

        pub list_at : All IsAt (list_moments n st ops es)
        list_at = subst (λ k. All IsAt (list_moments k st ops es)) (omega arith) (rest_at [] ops refl [] es refl refl)
