-- What is known at an element of a MemReduce: memories and registers as in the loop around it, no values, and the counters
-- of the element, which have the words of its indices.
use Rattle.std.proofs.Common.{◌≡◌, ℕ, suc, ◌<◌, Bool, List, [], ◌∷◌, Option, refl, sym, ◌∙◌, ap, arith}
use Rattle.std.specs.Prelude.{ℤ, length, map, All}
use Rattle.sp_words.specs.declared.kind.Kind.TheVariants.{Sram}
use Rattle.sp_words.specs.declared.types.Ty.{Ty}
use Rattle.sp_words.specs.Interface.{IsCount}
use Rattle.sp_tree.specs.Expressions as expressions
use Rattle.sp_tree.specs.PlainExpression.{expr, get_sram}
use Rattle.sp_tree.specs.PlainProgram.{PlainProgram}
use Rattle.sp_tree.specs.Store as program_store
use Rattle.sp_tree.specs.Typing.{Scope, IsMem, Typed, IndicesTyped}
use Rattle.sp_core.specs.History.{Entry}
use Rattle.sp_core.specs.PlainCore.{PlainCore}
use Rattle.sp_core.specs.Scope as counters
use Rattle.sp_core.specs.Scope.{Loop, InGroup, lane_step, is_live, in_group, count_word}
use Rattle.sp_core.specs.Store as store
use Rattle.sp_core.specs.Store.{changed}
use Rattle.sp_sugar.specs.Agreement.{HasMemories, View, Agree}
use Rattle.sp_sugar.specs.Combination.{element_indices, is_last_element}
use Rattle.sp_sugar.specs.Numbers.{numbers_from}
use Rattle.sp_sugar.proofs.ElementKeeps.{indices_count, numbers_have, indices_typed, last_typed}
use Rattle.sp_sugar.proofs.MemoryLemmas.{changed_here, changed_elsewhere}
use Rattle.sp_same.proofs.BoundsTaken.{IsLoop, IsLive}
use Rattle.sp_same.proofs.Counting.{first_lane}
use Rattle.sp_same.proofs.Quietly.{Pairs}
use Rattle.sp_same.proofs.Values.{Fit, word_of_value}
use Rattle.sp_outcomes.proofs.ElementLoops.{element_loops}
use Rattle.sp_outcomes.proofs.ElementOps.{view}
use Rattle.sp_outcomes.proofs.ElementWords.{HaveCounts}

-- counters of other numbers are as they were
untouched : (around : counters.Scope) (ls : List Loop) (vs : List ℤ) (live : ℕ → Bool) (c k : ℕ) (ds : List ℕ) → Pairs IsLoop (element_loops c ds) ls → k < c → counters.with_counters around ls vs live k ≡ around k
untouched around [] vs live c k ds same lt = refl
untouched around (l ∷ ls) [] live c k ds same lt = refl
untouched around (l ∷ ls) (v ∷ vs) live c k [] same lt = absurd same
untouched around (l ∷ ls) (v ∷ vs) live c k (d ∷ ds) same lt =
    let g : InGroup = record { value = v; lane_step = lane_step l ls; live = live } in
    untouched (changed around l.number g) ls vs live (suc c) k ds same.1 (omega (arith, lt)) ∙ changed_elsewhere around l.number k g (λ e. omega (arith, e, same.0, lt))

-- the counters of an element have the words of their values
pub counters_have : (around : counters.Scope) (ls : List Loop) (vs : List ℤ) (live : ℕ → Bool) (c : ℕ) (ds : List ℕ) (s : program_store.Store) → Pairs IsLoop (element_loops c ds) ls → Fit IsLive ls vs
    → ((k : ℕ) → s.counts k ≡ count_word (counters.with_counters around ls vs live k) 0) → HaveCounts s c (map word_of_value vs)
counters_have around ls [] live c ds s same fit f = tt
counters_have around [] (v ∷ vs) live c ds s same fit f = absurd fit
counters_have around (l ∷ ls) (v ∷ vs) live c [] s same fit f = absurd same
counters_have around (l ∷ ls) (v ∷ vs) live c (d ∷ ds) s same fit f =
    let g : InGroup = record { value = v; lane_step = lane_step l ls; live = live } in (
      f c ∙ ap (λ x. count_word x 0) (untouched (changed around l.number g) ls vs live (suc c) c ds same.1 (omega arith) ∙ changed_here around l.number c g same.0) ∙ first_lane v (lane_step l ls),
      counters_have (changed around l.number g) ls vs live (suc c) ds s same.1 fit.1 f,
    )

-- these memories, and so many counters after those of the program
abbrev pub scope_with : PlainProgram → List ℕ → ℕ → Scope
scope_with p ms n = record { mems = ms; vals = []; counters = numbers_from (length p.counters) n }

-- the program's store, where counters have the words that the core's have
abbrev pub counted : counters.Scope → List Loop → List ℤ → program_store.Store → program_store.Store
counted around ls vs s = record s { counts = λ k. count_word (in_group around ls vs k) 0 }

module _ (p : PlainProgram) (core : PlainCore) (h : HasMemories p core) (ms : List ℕ) (around : counters.Scope) (waiting : List ℕ) (resets : ℕ → Bool) (registers : List (ℕ × Option ℕ)) where
  -- between two elements, and at one
  abbrev pub between : View
  between = view p core h (scope_with p ms 0) around waiting resets registers

  abbrev pub at_element : ℕ → List Loop → List ℤ → View
  at_element n ls vs = view p core h (scope_with p ms n) (in_group around ls vs) waiting resets registers

  pub enter_element : (n : ℕ) (ls : List Loop) (vs : List ℤ) (s : program_store.Store) (t : store.Store) → Agree p core between [] s t → Agree p core (at_element n ls vs) [] (counted around ls vs s) t
  enter_element n ls vs s t a = record {
    mems = a.mems;
    vals = λ v c. absurd (omega (arith, c.1));
    counts = λ k c. refl;
    waiting = λ m c. let x = a.waiting m c in record { exists = x.exists; on_chip = x.on_chip; unseen = x.unseen; holds = x.holds };
    registers = a.registers;
  }

  pub leave_element : (n : ℕ) (ls : List Loop) (vs : List ℤ) (f : ℕ → ℕ) (all : List Entry) (s : program_store.Store) (u : store.Store) → Agree p core (at_element n ls vs) all (record s { counts = f }) u → Agree p core between [] s u
  leave_element n ls vs f all s u a = record {
    mems = a.mems;
    vals = λ v c. absurd (omega (arith, c.1));
    counts = λ k c. absurd (omega (arith, c.1));
    waiting = λ m c. let x = a.waiting m c in record { exists = x.exists; on_chip = x.on_chip; unseen = x.unseen; holds = x.holds };
    registers = a.registers;
  }

-- what the operations of an element compute is typed
module _ (p : PlainProgram) (ms ds : List ℕ) (counts : All IsCount ds) where
  abbrev its_scope : Scope
  its_scope = scope_with p ms (length ds)

  pub its_indices : IndicesTyped p its_scope (element_indices (length p.counters) ds)
  its_indices = indices_typed p its_scope (length p.counters) ds (numbers_have (length p.counters) (length ds))

  pub its_last : Typed p its_scope (is_last_element (length p.counters) ds)
  its_last = (last_typed p its_scope (length p.counters) ds (numbers_have (length p.counters) (length ds)) counts).0

  pub its_value : (part : ℕ) (ty : Ty) → IsMem p its_scope part Sram ty → expressions.dims p.mems part ≡ ds → Typed p its_scope (expr 0 ty (get_sram part (element_indices (length p.counters) ds)))
  its_value part ty is same = (is, indices_count (length p.counters) ds ∙ ap length (sym same), its_indices)
