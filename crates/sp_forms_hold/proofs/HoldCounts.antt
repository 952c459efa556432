-- A gather or scatter moves no more words than is known.
use Rattle.std.proofs.Common.{◌≡◌, ℕ, Bool, true, false, ℤ, List, [], ◌∷◌, length, Option, Some, None, IfSome, refl, ap, if◌then◌else◌}
use Rattle.std.proofs.lemmas.Bool.{and_parts, and_from}
use Rattle.std.specs.List.{list_all}
use Rattle.std.specs.Prelude.{nat_le}
use Rattle.sp_words.specs.Laws.{IsInRange}
use Rattle.sp_words.specs.Types.{int_type}
use Rattle.sp_words.specs.Words.{IsWord, value_of, wrap}
use Rattle.sp_affine.specs.Affine.{Affine}
use Rattle.sp_core.specs.Around.{Around}
use Rattle.sp_core.specs.Elements.{index_value, natural}
use Rattle.sp_core.specs.Events.{Standing}
use Rattle.sp_core.specs.Forms.{PlainForms, are_known_indices, form_at, are_within, symbol_in, holds_of_slice}
use Rattle.sp_core.specs.History.{Entry, last_word}
use Rattle.sp_core.specs.MemoryRules.{are_memories_right}
use Rattle.sp_core.specs.Numbered.{range_number}
use Rattle.sp_core.specs.OperationRules.{are_operations_right, is_word_list, is_early, is_bound}
use Rattle.sp_core.specs.Operations.{operations}
use Rattle.sp_core.specs.PlainCore.{PlainOp, PlainCore}
use Rattle.sp_core.specs.Scope.{Scope}
use Rattle.sp_core.specs.Step.{went}
use Rattle.sp_core.specs.Store.{Store}
use Rattle.sp_core.specs.Typed.{last_gives}
use Rattle.sp_fitting.specs.Fitting.{StoreFits}
use Rattle.sp_fitting.specs.Laws.{ListsFit}
use Rattle.sp_fitting.proofs.Lists.{last_fits}
use Rattle.sp_hold.proofs.Likeness.{Kept}
use Rattle.sp_hold.proofs.ListWords.{Fits}
use Rattle.sp_patterns.specs.Forms.{is_constant}
use Rattle.sp_patterns.specs.Indices.{is_index, index_form, bound_form, at_least_one, length_up_to}
use Rattle.sp_patterns.specs.Patterns.{patterns_of}
use Rattle.sp_patterns.specs.Ranges.{PlainAround, word_form}
use Rattle.sp_forms_hold.specs.RunsLaws.{IsPlaced}
use Rattle.sp_forms_hold.specs.RunsStanding.{TransferStands, PartsStand}
use Rattle.sp_forms_hold.proofs.HoldBounds.{bound_fits, constant_is}
use Rattle.sp_forms_hold.proofs.HoldSlices.{at_least, lengths_hold}

module _ (core : PlainCore) (outside : Around) (kept : Kept) (each_value : (z : ℤ) → IsInRange int_type z → value_of int_type (wrap int_type z) ≡ z) (around : PlainAround) (scope : Scope) (st : Standing) (placed : IsPlaced scope around st.counters) where
  abbrev forms : PlainForms
  forms = patterns_of core

  -- what a count's form says, if it is a constant
  count_known : (ops : List PlainOp) (r : Option Affine) (w : ℕ) (s : Store) → IsWord int_type w → Fits core ops (length around.places) st.counters (symbol_in core forms s) r w
      → IfSome (length_up_to (index_form around.ranges r)) (λ most. nat_le (natural (index_value w)) most ≡ true)
  count_known ops None w s word h = tt
  count_known ops (Some f) w s word (counters, like, good) = by_index (is_index around.ranges f) refl
    where
      by_constant : (b : Bool) → is_index around.ranges f ≡ true → is_constant f ≡ b → IfSome (if b then Some (at_least_one f.constant) else None) (λ most. nat_le (natural (index_value w)) most ≡ true)
      by_constant true i e = at_least (natural (index_value w)) (natural f.constant) (ap natural (constant_is kept.each_word each_value around.ranges st.counters (symbol_in core forms s) f w word like i e))
      by_constant false i e = tt

      by_index : (b : Bool) → is_index around.ranges f ≡ b → IfSome (length_up_to (if b then Some f else None)) (λ most. nat_le (natural (index_value w)) most ≡ true)
      by_index true i = by_constant (is_constant f) i refl
      by_index false i = tt

  pub count_holds : (lists : ListsFit core) (parts : PartsStand core) (n : ℕ) (count : List PlainOp) (s t u : Store) (es : List Entry) → are_memories_right core ≡ true → is_bound core outside count ≡ true →
      TransferStands core n around 1 None (length_up_to (bound_form core.mems around count) ∷ []) → StoreFits core s → operations core scope count s ≡ went es t →
      holds_of_slice core forms (record { number = n; standing = st; firsts = []; lengths = natural (index_value (last_word es)) ∷ [] }) u ≡ true
  count_holds lists parts n count s t u es memories right stands fits e =
      let a = and_parts (is_word_list core outside count int_type) (list_all (is_early core outside) count) right in
      let b = and_parts (are_operations_right core outside count) (last_gives count int_type) a.0 in
      let l = lists outside scope count s t es memories b.0 fits e in
      let word = last_fits count es int_type b.1 l.entries in
      let like = bound_fits core outside kept around scope st.counters placed count s t es right e in
      let stand = parts.transfer n around 1 None (length_up_to (bound_form core.mems around count) ∷ []) stands in
      let known = count_known count (word_form core.mems around.places count) (last_word es) s word like in
      and_from (are_known_indices core forms (form_at core forms n) [] st.counters (symbol_in core forms u)) (are_within core forms (range_number core n) (natural (index_value (last_word es)) ∷ []))
      (ap (λ r. are_known_indices core forms r [] st.counters (symbol_in core forms u)) stand.form)
      (lengths_hold core (range_number core n) (length_up_to (bound_form core.mems around count) ∷ []) (natural (index_value (last_word es)) ∷ []) stand.each_length (known, tt))
