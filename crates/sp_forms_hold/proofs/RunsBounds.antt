-- The bounds of counters, as a run gives them.
use Rattle.std.proofs.Common.{◌≡◌, ℕ, suc, ◌-◌, ◌^◌, Bool, true, false, ◌&&◌, ℤ, pos, negsuc, neg_ℤ, ◌≤ℤ◌, ◌<ℤ◌, List, [], ◌∷◌, length, Option, Some, None, IfSome, refl, sym, ap, ◌∙◌, subst, arith, slice_index_or, if◌then◌else◌}
use Rattle.std.proofs.lemmas.Bool.{and_parts, ltb-true}
use Rattle.std.proofs.lemmas.Int.{ints}
use Rattle.std.specs.List.{AllZip, list_all}
use Rattle.std.specs.Prelude.{nat_lt, nat_le}
use Rattle.sp_words.specs.Laws.{IsInRange}
use Rattle.sp_words.specs.Types.{int_type}
use Rattle.sp_words.specs.Words.{IsWord, value_of, wrap}
use Rattle.sp_affine.specs.Affine.{Affine}
use Rattle.sp_affine.specs.Affine as affine
use Rattle.sp_core.specs.Around.{Around}
use Rattle.sp_core.specs.Elements.{index_value}
use Rattle.sp_core.specs.Forms.{PlainForms, symbol_in}
use Rattle.sp_core.specs.History.{Entry, Bounds, last_word}
use Rattle.sp_core.specs.MemoryRules.{are_memories_right}
use Rattle.sp_core.specs.OperationRules.{are_operations_right, is_word_list, is_early, is_bound, is_counter_right}
use Rattle.sp_core.specs.Operations.{operations}
use Rattle.sp_core.specs.PlainCore.{PlainOp, PlainCounter, PlainCore}
use Rattle.sp_core.specs.Scope.{Reading, Scope}
use Rattle.sp_core.specs.Sequential.{bounds}
use Rattle.sp_core.specs.Step.{went, in_order}
use Rattle.sp_core.specs.Store.{Store}
use Rattle.sp_core.specs.Typed.{last_gives}
use Rattle.sp_fitting.specs.Fitting.{StoreFits}
use Rattle.sp_fitting.specs.Laws.{ListsFit}
use Rattle.sp_fitting.proofs.Lists.{last_fits}
use Rattle.sp_patterns.specs.declared.place.CounterPlace.{CounterPlace}
use Rattle.sp_patterns.specs.Forms.{forms_of, is_constant}
use Rattle.sp_patterns.specs.Ranges.{last_form, fits_int, constant_of, word_form}
use Rattle.sp_hold.specs.Laws.{AreWordsLikeForms}
use Rattle.sp_hold.specs.Values.{AreInScope, AreLike, IsLike}
use Rattle.sp_hold.proofs.ListWords.{constant_value}
use Rattle.sp_hold.proofs.Masks.{passes}
use Rattle.sp_hold.proofs.Orderly.{all_allowed, all_masked}
use Rattle.sp_hold.proofs.Steps.{bound, was_pure}

-- the last word is like the last form's value
last_like : (values : List ℤ) (symbols : ℕ → ℤ) (forms : List (Option Affine)) (es : List Entry) → AreLike values symbols forms es → IfSome (last_form forms) (λ f. IsLike (last_word es) (affine.value_of f values symbols))
last_like values symbols [] es h = tt
last_like values symbols (r ∷ forms) [] h = absurd h
last_like values symbols (r ∷ []) (e ∷ []) h = h.0
last_like values symbols (r ∷ []) (e ∷ f ∷ es) h = absurd h.1
last_like values symbols (r ∷ q ∷ forms) (e ∷ []) h = absurd h.1
last_like values symbols (r ∷ q ∷ forms) (e ∷ f ∷ es) h =
    let shorter : suc (suc (length forms)) - 1 ≡ suc (suc (length forms) - 1) = omega arith in
    subst (λ k. IfSome (slice_index_or (r ∷ q ∷ forms) k None) (λ x. IsLike (last_word (f ∷ es)) (affine.value_of x values symbols))) (sym shorter) (last_like values symbols (q ∷ forms) (f ∷ es) h.1)

-- numbers of `Int`
int_fits : (z : ℤ) → fits_int z ≡ true → IsInRange int_type z
unfolding fits_int
int_fits (pos n) h = let less = ltb-true n (2 ^ 31) h in (omega (arith, ints), omega (arith, ints, less))
int_fits (negsuc n) h = let less = ltb-true n (2 ^ 31) h in (omega (arith, ints, less), omega (arith, ints))

-- what is known of words of `Int` and of lists of operations
pub record Known (core : PlainCore) : Type 0 where
  pub lists : ListsFit core
  pub like : (ops : List PlainOp) → AreWordsLikeForms core ops
  pub in_range : (w : ℕ) → IsWord int_type w → IsInRange int_type (value_of int_type w)
  pub each_word : (w : ℕ) → IsWord int_type w → wrap int_type (value_of int_type w) ≡ w
  pub each_value : (z : ℤ) → IsInRange int_type z → value_of int_type (wrap int_type z) ≡ z

-- a bound is a number of `Int`, and the constant that is known of it
pub record IsBound (core : PlainCore) (places : List CounterPlace) (ops : List PlainOp) (es : List Entry) : Type 0 where
  pub least : neg_ℤ (pos (2 ^ 31)) ≤ℤ index_value (last_word es)
  pub greatest : index_value (last_word es) <ℤ pos (2 ^ 31)
  pub is : IfSome (constant_of (word_form core.mems places ops)) (λ z. index_value (last_word es) ≡ z)

pub record AreBounds (core : PlainCore) (places : List CounterPlace) (c : PlainCounter) (b : Bounds) : Type 0 where
  pub from : IsBound core places c.from b.from
  pub until : IsBound core places c.until b.until

module _ (core : PlainCore) (known : Known core) (memories : are_memories_right core ≡ true) (outside : Around) (scope : Scope) (places : List CounterPlace) (values : List ℤ) (placed : AreInScope scope places values) where
  -- a form that is a constant of `Int`
  constant_is : (symbols : ℕ → ℤ) (o : Option Affine) (w : ℕ) → IsWord int_type w → IfSome o (λ f. IsLike w (affine.value_of f values symbols)) → IfSome (constant_of o) (λ z. index_value w ≡ z)
  constant_is symbols None w p h = tt
  constant_is symbols (Some f) w p h = by_test (is_constant f && fits_int f.constant) refl
    where
      by_test : (t : Bool) → (is_constant f && fits_int f.constant) ≡ t → IfSome (if t then Some f.constant else None) (λ z. index_value w ≡ z)
      by_test true e =
          let parts = and_parts (is_constant f) (fits_int f.constant) e in
          let same : w ≡ wrap int_type f.constant = sym (known.each_word w p) ∙ h ∙ ap (wrap int_type) (constant_value f values symbols parts.0) in
          ap (value_of int_type) same ∙ known.each_value f.constant (int_fits f.constant parts.1)
      by_test false e = tt

  no_symbols : PlainForms
  no_symbols = record { forms = []; lengths = [] }

  -- a bound, in a store whose words fit
  bound_given : (ops : List PlainOp) (s t : Store) (es : List Entry) → is_bound core outside ops ≡ true → StoreFits core s → operations core scope ops s ≡ went es t → StoreFits core t × IsBound core places ops es
  bound_given ops s t es right fits went_on =
      let a = and_parts (is_word_list core outside ops int_type) (list_all (is_early core outside) ops) right in
      let b = and_parts (are_operations_right core outside ops) (last_gives ops int_type) a.0 in
      let l = known.lists outside scope ops s t es memories b.0 fits went_on in
      let word = last_fits ops es int_type b.1 l.entries in
      let like = known.like ops no_symbols None scope places values s t es (all_allowed core outside ops [] b.0) went_on placed (passes core scope None ops [] s es t went_on (all_masked core outside ops [] b.0) tt) in
      let range = known.in_range (last_word es) word in (
        l.left,
        record {
          least = range.0;
          greatest = range.1;
          is = constant_is (symbol_in core no_symbols s) _ (last_word es) word (last_like values (symbol_in core no_symbols s) (forms_of core.mems ops None places) es like);
        },
      )

  counter_given : (reading : Reading) (turns : ℕ) (c : PlainCounter) (s t : Store) (b : Bounds) → is_counter_right core outside c ≡ true → StoreFits core s → bounds core reading turns scope c s ≡ went b t → StoreFits core t × AreBounds core places c b
  counter_given reading turns c s t b right fits e =
      let r = and_parts (is_bound core outside c.from && is_bound core outside c.until) ((nat_le 1 c.by && nat_lt c.by (2 ^ 31)) && (nat_le 1 c.par && nat_le c.par 16)) right in
      let q = and_parts (is_bound core outside c.from) (is_bound core outside c.until) r.0 in
      let first = bound _ _ s b t e in
      let x = bound_given c.from s first.middle first.value q.0 fits first.first in
      let second = bound _ _ first.middle b t first.later in
      let y = bound_given c.until first.middle second.middle second.value q.1 x.0 second.first in
      let end = was_pure _ b second.middle t second.later in
      (subst (StoreFits core) end.store y.0, subst (AreBounds core places c) end.value (record { from = x.1; until = y.1 }))

  pub all_given : (reading : Reading) (turns : ℕ) (counters : List PlainCounter) (s t : Store) (bs : List Bounds) → list_all (is_counter_right core outside) counters ≡ true → StoreFits core s
      → in_order (bounds core reading turns scope) counters s ≡ went bs t → AllZip (AreBounds core places) counters bs
  unfolding in_order
  all_given reading turns [] s t bs right fits e = subst (AllZip (AreBounds core places) []) (was_pure [] bs s t e).value tt
  all_given reading turns (c ∷ counters) s t bs right fits e =
      let r = and_parts (is_counter_right core outside c) (list_all (is_counter_right core outside) counters) right in
      let first = bound _ _ s bs t e in
      let x = counter_given reading turns c s first.middle first.value r.0 fits first.first in
      let second = bound _ _ first.middle bs t first.later in
      let y = all_given reading turns counters first.middle second.middle second.value r.1 x.0 second.first in
      subst (AllZip (AreBounds core places) (c ∷ counters)) (was_pure _ bs second.middle t second.later).value (x.1, y)
