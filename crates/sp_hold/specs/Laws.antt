-- What is said of the forms of operations, and of those of indices.
use Rattle.std.specs.Prelude.{◌≡◌, ℕ, ◌^◌, true, ℤ, pos, ◌≤ℤ◌, List, ◌∷◌, ◌++◌, length, map, slice_index_or, Option, Some}
use Rattle.std.specs.List.{list_all}
use Rattle.sp_affine.specs.Affine.{Affine, value_of, symbol_value}
use Rattle.sp_words.specs.Types.{int_type}
use Rattle.sp_core.specs.Around.{Around}
use Rattle.sp_core.specs.Declarations.{mem}
use Rattle.sp_core.specs.Elements.{index_value}
use Rattle.sp_core.specs.Forms.{PlainForms, symbol_in, are_known_indices}
use Rattle.sp_core.specs.History.{Entry, left_out, touched, Bounds}
use Rattle.sp_core.specs.Numbered.{numbers, access_count, ranges_count}
use Rattle.sp_core.specs.MemoryRules.{are_memories_right}
use Rattle.sp_core.specs.OperationRules.{are_operations_right}
use Rattle.sp_core.specs.Operations.{operations}
use Rattle.sp_core.specs.PlainCore.{PlainOp, PlainCore, PlainCounter}
use Rattle.sp_core.specs.Scope.{Reading, loops_of, Scope, in_group}
use Rattle.sp_core.specs.Step.{went}
use Rattle.sp_core.specs.Store.{Store}
use Rattle.sp_core.specs.Typed.{is_type}
use Rattle.sp_patterns.specs.declared.place.CounterPlace.{CounterPlace}
use Rattle.sp_patterns.specs.Forms.{forms_of}
use Rattle.sp_patterns.specs.Indices.{is_index, access_forms}
use Rattle.sp_patterns.specs.Patterns.{patterns_of}
use Rattle.sp_patterns.specs.Ranges.{PlainAround, places_in}
use Rattle.sp_hold.specs.Values.{AreInScope, AreLike, ArePassed, is_allowed, IsLike, IsInt, AreInRanges, AreValues}

-- in a run of a list each operation that has a form gives a word like the form's value: at the counters' values and at the
-- words that stand in memories as the run begins
abbrev pub AreWordsLikeForms : PlainCore → List PlainOp → Type 0
AreWordsLikeForms core ops =
    (forms : PlainForms) (mask : Option ℕ) (scope : Scope) (places : List CounterPlace) (values : List ℤ) (s t : Store) (entries : List Entry) →
    list_all (is_allowed core) ops ≡ true → operations core scope ops s ≡ went entries t → AreInScope scope places values → ArePassed mask 0 ops entries →
    AreLike values (symbol_in core forms s) (forms_of core.mems ops mask places) entries

-- a word like the value of an index's form is that value, where it is from 0 to 2^26, as an index inside of a memory is
abbrev pub IsIndexItsForm : Affine → Type 0
IsIndexItsForm f =
    (ranges : List (Option (ℤ × ℤ))) (values : List ℤ) (symbols : ℕ → ℤ) (word : ℕ) →
    is_index ranges f ≡ true → AreInRanges f.coefs ranges values → IsInt (symbol_value f.symbol symbols) →
    pos 0 ≤ℤ index_value word → index_value word ≤ℤ pos (2 ^ 26) → IsLike word (value_of f values symbols) →
    index_value word ≡ value_of f values symbols

-- in a run of a list of a core the forms of an access's indices, where all are known, are the indices at which it touches its
-- memory: at the counters' values and at the words that stand in memories just before it
abbrev pub AreFormsIndices : PlainCore → (outside : Around) → PlainAround → (before : List PlainOp) → PlainOp → (after : List PlainOp) → Type 0
AreFormsIndices core outside around before op after =
    (forms : PlainForms) (scope : Scope) (values : List ℤ) (s u t : Store) (first entries : List Entry) (memory : ℕ) (indices : List ℕ) (word : ℕ) →
    are_memories_right core ≡ true → are_operations_right core outside (before ++ op ∷ after) ≡ true → op.mem ≡ Some memory →
    operations core scope before s ≡ went first u → operations core scope (before ++ op ∷ after) s ≡ went entries t → slice_index_or entries (length before) left_out ≡ touched indices word →
    AreInScope scope around.places values → length around.ranges ≡ length around.places → AreValues around.ranges values → ((m : ℕ) → is_type int_type (mem core m).ty ≡ true → IsInt (symbol_in core forms u m)) →
    are_known_indices core forms (access_forms core.mems around (before ++ op ∷ after) op) (map pos indices) values (symbol_in core forms u) ≡ true

-- the forms of a core have an entry for each access and each transfer, and a length for each range, as they are numbered
pub record HasEntries (core : PlainCore) : Type 0 where
  pub forms : length (patterns_of core).forms ≡ access_count (numbers core.root)
  pub lengths : length (patterns_of core).lengths ≡ ranges_count (numbers core.root)

-- in a group of a controller's iterations its counters have the group's values, after those of the counters around it
abbrev pub AreCountersInScope : Type 0
AreCountersInScope =
    (reading : Reading) (counters : List PlainCounter) (bounds : List Bounds) (scope : Scope) (places : List CounterPlace) (outer values : List ℤ) →
    length bounds ≡ length counters → length values ≡ length counters → AreInScope scope places outer →
    AreInScope (in_group scope (loops_of reading counters bounds) values) (places ++ places_in counters) (outer ++ values)
