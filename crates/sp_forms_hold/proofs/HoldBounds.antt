-- The word that a bound gives is its form's value.
use Rattle.std.proofs.Common.{◌≡◌, ℕ, suc, ◌-◌, ◌^◌, Bool, true, false, ℤ, pos, neg_ℤ, ◌+ℤ◌, ◌≤ℤ◌, int_le, List, [], ◌∷◌, length, Option, Some, None, IfSome, refl, sym, ap, ◌∙◌, subst, arith, if◌then◌else◌, is_none}
use Rattle.std.proofs.lemmas.Bool.{and_parts}
use Rattle.std.proofs.lemmas.Bool.Decides.{Decides-int_eq}
use Rattle.std.proofs.lemmas.Int.{ints}
use Rattle.std.proofs.Math.IntN.{zero-*ℤ}
use Rattle.std.specs.List.{AllZip, list_all}
use Rattle.std.specs.Ordering.{int_eq}
use Rattle.sp_words.specs.Laws.{IsInRange}
use Rattle.sp_words.specs.Types.{int_type}
use Rattle.sp_words.specs.Words.{IsWord, wrap}
use Rattle.sp_words.specs.Words as words
use Rattle.sp_affine.specs.Affine.{Affine, value_of, symbol_value}
use Rattle.sp_affine.specs.Interval.{least_product, greatest_product}
use Rattle.sp_core.specs.Around.{Around}
use Rattle.sp_core.specs.Elements.{index_value}
use Rattle.sp_core.specs.Forms.{symbol_in}
use Rattle.sp_core.specs.History.{Entry, word_at, last_word}
use Rattle.sp_core.specs.OperationRules.{are_operations_right, is_word_list, is_early, is_bound}
use Rattle.sp_core.specs.Operations.{operations}
use Rattle.sp_core.specs.PlainCore.{PlainOp, PlainCore}
use Rattle.sp_core.specs.Scope.{Scope}
use Rattle.sp_core.specs.Step.{went}
use Rattle.sp_core.specs.Store.{Store}
use Rattle.sp_core.specs.Typed.{last_gives}
use Rattle.sp_fitting.specs.Fitting.{StoreFits}
use Rattle.sp_fitting.specs.Laws.{SymbolsFit}
use Rattle.sp_patterns.specs.Forms.{forms_of, is_constant}
use Rattle.sp_patterns.specs.Indices.{leaves_out, least_rest, greatest_rest, is_small, is_index, index_form, bound_form}
use Rattle.sp_patterns.specs.Patterns.{patterns_of}
use Rattle.sp_patterns.specs.Ranges.{PlainAround, word_form}
use Rattle.sp_hold.specs.Laws.{IsIndexItsForm}
use Rattle.sp_hold.specs.Values.{IsInt, AreInRanges, AreValues, IsLike}
use Rattle.sp_hold.proofs.Likeness.{Kept}
use Rattle.sp_hold.proofs.ListWords.{IsSymbol, Fits, constant_value, words_are_like, words_fit}
use Rattle.sp_hold.proofs.Masks.{passes}
use Rattle.sp_hold.proofs.Orderly.{all_allowed, all_masked}
use Rattle.sp_forms_hold.specs.RunsLaws.{IsPlaced}

same_many : {A B : Type 0} (R : A → B → Type 0) (xs : List A) (ys : List B) → AllZip R xs ys → length ys ≡ length xs
same_many R [] [] h = refl
same_many R [] (y ∷ ys) h = absurd h
same_many R (x ∷ xs) [] h = absurd h
same_many R (x ∷ xs) (y ∷ ys) h = ap suc (same_many R xs ys h.1)

-- a list gives the word at its last place
last_at : (es : List Entry) → word_at es (length es - 1) ≡ last_word es
last_at [] = refl
last_at (e ∷ []) = refl
last_at (e ∷ f ∷ es) = let shorter : suc (suc (length es)) - 1 ≡ suc (suc (length es) - 1) = omega arith in ap (word_at (e ∷ f ∷ es)) shorter ∙ last_at (f ∷ es)

in_ranges : (coefs : List ℤ) (ranges : List (Option (ℤ × ℤ))) (values : List ℤ) → length coefs ≡ length ranges → AreValues ranges values → AreInRanges coefs ranges values
in_ranges [] [] [] e h = tt
in_ranges [] [] (v ∷ values) e h = absurd h
in_ranges [] (r ∷ ranges) values e h = absurd (omega (arith, e))
in_ranges (c ∷ coefs) [] values e h = absurd (omega (arith, e))
in_ranges (c ∷ coefs) (r ∷ ranges) [] e h = absurd h
in_ranges (c ∷ coefs) (r ∷ ranges) (v ∷ values) e (in_range, int, rest) = (in_range, int, in_ranges coefs ranges values (omega (arith, e)) rest)

is_int : (z : ℤ) → IsInRange int_type z → IsInt z
is_int z h = (h.0, let less = h.1 in omega (arith, ints, less))

zero_is_int : IsInt (pos 0)
zero_is_int = (omega (arith, ints), omega (arith, ints))

module _ (core : PlainCore) (outside : Around) (kept : Kept) (around : PlainAround) (scope : Scope) (values : List ℤ) (placed : IsPlaced scope around values) where
  abbrev symbols : Store → ℕ → ℤ
  symbols s = symbol_in core (patterns_of core) s

  abbrev pub FitsForm : Store → List PlainOp → (word : ℕ) → Type 0
  FitsForm s ops w = Fits core ops (length around.places) values (symbols s) (word_form core.mems around.places ops) w

  -- the word of a bound is like its form's value
  pub bound_fits : (ops : List PlainOp) (s t : Store) (es : List Entry) → is_bound core outside ops ≡ true → operations core scope ops s ≡ went es t → FitsForm s ops (last_word es)
  bound_fits ops s t es right e =
      let a = and_parts (is_word_list core outside ops int_type) (list_all (is_early core outside) ops) right in
      let b = and_parts (are_operations_right core outside ops) (last_gives ops int_type) a.0 in
      let allowed = all_allowed core outside ops [] b.0 in
      let passed = passes core scope None ops [] s es t e (all_masked core outside ops [] b.0) tt in
      let like = words_are_like kept core ops (patterns_of core) None scope around.places values s t es allowed e placed.in_scope passed in
      let many : length es ≡ length (forms_of core.mems ops None around.places) = same_many _ (forms_of core.mems ops None around.places) es like in
      let fits = words_fit kept core ops (patterns_of core) None scope around.places values s t es allowed e placed.in_scope passed (length (forms_of core.mems ops None around.places) - 1) in
      subst (λ w. FitsForm s ops w) (ap (λ k. word_at es (k - 1)) (sym many) ∙ last_at es) fits

  module _ (index_is : (f : Affine) → IsIndexItsForm f) (are_ints : SymbolsFit core) where
    symbol_is_int : (ops : List PlainOp) (o : Option ℕ) (s : Store) → StoreFits core s → IfSome o (IsSymbol core ops) → IsInt (symbol_value o (symbols s))
    symbol_is_int ops None s fits good = zero_is_int
    symbol_is_int ops (Some m) s fits good = is_int (symbols s m) (are_ints (patterns_of core) s fits m good.1)

    -- from 0 to 2^26 it is that value
    form_is : (ops : List PlainOp) (r : Option Affine) (w : ℕ) (s : Store) → StoreFits core s → Fits core ops (length around.places) values (symbols s) r w → pos 0 ≤ℤ index_value w → index_value w ≤ℤ pos (2 ^ 26)
        → IfSome (index_form around.ranges r) (λ f. value_of f values (symbols s) ≡ index_value w)
    form_is ops None w s fits h above below = tt
    form_is ops (Some g) w s fits (counters, like, good) above below = by_test (is_index around.ranges g) refl
      where
        by_test : (b : Bool) → is_index around.ranges g ≡ b → IfSome (if b then Some g else None) (λ f. value_of f values (symbols s) ≡ index_value w)
        by_test true e = sym (index_is g around.ranges values (symbols s) w e (in_ranges g.coefs around.ranges values (counters ∙ sym placed.each_range) placed.in_ranges) (symbol_is_int ops g.symbol s fits good) above below like)
        by_test false e = tt

    pub bound_is : (ops : List PlainOp) (w : ℕ) (s : Store) → StoreFits core s → FitsForm s ops w → pos 0 ≤ℤ index_value w → index_value w ≤ℤ pos (2 ^ 26)
        → IfSome (bound_form core.mems around ops) (λ f. value_of f values (symbols s) ≡ index_value w)
    bound_is ops w s fits h above below = form_is ops (word_form core.mems around.places ops) w s fits h above below

-- the rest of a form without counters is its constant
no_least : (coefs : List ℤ) (ranges : List (Option (ℤ × ℤ))) → list_all (int_eq (pos 0)) coefs ≡ true → least_rest coefs ranges ≡ pos 0
no_least [] ranges h = refl
no_least (c ∷ coefs) [] h = refl
no_least (c ∷ coefs) (None ∷ ranges) h = no_least coefs ranges (and_parts (int_eq (pos 0) c) (list_all (int_eq (pos 0)) coefs) h).1
no_least (c ∷ coefs) (Some r ∷ ranges) h =
    let a = and_parts (int_eq (pos 0) c) (list_all (int_eq (pos 0)) coefs) h in
    let here : least_product c r ≡ pos 0 = ap (λ x. least_product x r) (sym ((Decides-int_eq (pos 0) c).0 a.0)) ∙ zero-*ℤ r.0 in
    let rest = no_least coefs ranges a.1 in
    omega (arith, ints, here, rest)

no_greatest : (coefs : List ℤ) (ranges : List (Option (ℤ × ℤ))) → list_all (int_eq (pos 0)) coefs ≡ true → greatest_rest coefs ranges ≡ pos 0
no_greatest [] ranges h = refl
no_greatest (c ∷ coefs) [] h = refl
no_greatest (c ∷ coefs) (None ∷ ranges) h = no_greatest coefs ranges (and_parts (int_eq (pos 0) c) (list_all (int_eq (pos 0)) coefs) h).1
no_greatest (c ∷ coefs) (Some r ∷ ranges) h =
    let a = and_parts (int_eq (pos 0) c) (list_all (int_eq (pos 0)) coefs) h in
    let here : greatest_product c r ≡ pos 0 = ap (λ x. greatest_product x r) (sym ((Decides-int_eq (pos 0) c).0 a.0)) ∙ zero-*ℤ r.1 in
    let rest = no_greatest coefs ranges a.1 in
    omega (arith, ints, here, rest)

small_least : (a b : ℤ) → a ≡ pos 0 → int_le (neg_ℤ (pos (2 ^ 30))) (a +ℤ b) ≡ true → neg_ℤ (pos (2 ^ 31)) ≤ℤ b
small_least a b e h = grind (arith, ints, e, h)

small_greatest : (a b : ℤ) → a ≡ pos 0 → int_le (a +ℤ b) (pos (2 ^ 30)) ≡ true → b ≤ℤ pos (2 ^ 30)
small_greatest a b e h = grind (arith, ints, e, h)

small_is_int : (ranges : List (Option (ℤ × ℤ))) (f : Affine) → is_constant f ≡ true → is_small ranges f ≡ true → IsInRange int_type f.constant
small_is_int ranges f h k =
    let zeros = (and_parts (list_all (int_eq (pos 0)) f.coefs) (is_none f.symbol) h).0 in
    let ends = and_parts (int_le (neg_ℤ (pos (2 ^ 30))) (least_rest f.coefs ranges +ℤ f.constant)) (int_le (greatest_rest f.coefs ranges +ℤ f.constant) (pos (2 ^ 30))) k in
    let above = small_least (least_rest f.coefs ranges) f.constant (no_least f.coefs ranges zeros) ends.0 in
    let below = small_greatest (greatest_rest f.coefs ranges) f.constant (no_greatest f.coefs ranges zeros) ends.1 in
    (above, omega (arith, ints, below))

-- a constant that is an index is the word itself
pub constant_is : (each_word : (w : ℕ) → IsWord int_type w → wrap int_type (words.value_of int_type w) ≡ w) (each_value : (z : ℤ) → IsInRange int_type z → words.value_of int_type (wrap int_type z) ≡ z)
    (ranges : List (Option (ℤ × ℤ))) (values : List ℤ) (symbols : ℕ → ℤ) (f : Affine) (w : ℕ) → IsWord int_type w → IsLike w (value_of f values symbols) → is_index ranges f ≡ true → is_constant f ≡ true → index_value w ≡ f.constant
constant_is each_word each_value ranges values symbols f w word like index constant =
    let small = (and_parts (leaves_out (is_none f.symbol) f.coefs ranges) (is_small ranges f) index).1 in
    let same : w ≡ wrap int_type f.constant = sym (each_word w word) ∙ like ∙ ap (wrap int_type) (constant_value f values symbols constant) in
    ap (words.value_of int_type) same ∙ each_value f.constant (small_is_int ranges f constant small)
