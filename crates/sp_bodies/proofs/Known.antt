-- Values that stand outside of the operations of a stage: in registers that are kept, or as constants and counters.
use Rattle.std.proofs.Common.{◌≡◌, ℕ, List, [], ◌∷◌, ◌++◌, Option, Some, refl, sym, ◌∙◌, subst, arith, length-append}
use Rattle.std.specs.Prelude.{Contains}
use Rattle.sp_words.specs.Memory.{Contents, cells}
use Rattle.sp_tree.specs.PlainProgram.{PlainProgram}
use Rattle.sp_tree.specs.Store as program_store
use Rattle.sp_core.specs.History.{Entry}
use Rattle.sp_core.specs.Operations.{operation, operations_after}
use Rattle.sp_core.specs.PlainCore.{PlainOp, PlainCore}
use Rattle.sp_core.specs.Scope as counters
use Rattle.sp_core.specs.Step.{went, pure}
use Rattle.sp_core.specs.Store as store
use Rattle.sp_sugar.specs.Agreement.{View, IsAdded, Finds, GoOn}
use Rattle.sp_sugar.specs.Values.{Source, at_place, in_register, constant, count}
use Rattle.sp_sugar.proofs.GoOnLemmas.{Keeps, keeps_front, ops_append}
use Rattle.sp_sugar.proofs.StepLemmas.{same_core_answer, core_apart}

-- by the counters around, and the registers that are kept
abbrev pub Known : counters.Scope → List (ℕ × Option ℕ) → Source → (word : ℕ) → Type 0
Known around kept (at_place k) w = ⊥
Known around kept (in_register r) w = Contains kept (r, Some w)
Known around kept (constant c) w = c ≡ w
Known around kept (count c) w = counters.count_word (around c) 0 ≡ w

-- the same, or in the list
abbrev pub KnownHere : counters.Scope → List (ℕ × Option ℕ) → Source → (word : ℕ) → Type 0
KnownHere around kept (at_place k) w = Unit {0}
KnownHere around kept (in_register r) w = Contains kept (r, Some w)
KnownHere around kept (constant c) w = c ≡ w
KnownHere around kept (count c) w = counters.count_word (around c) 0 ≡ w

pub known_here : (around : counters.Scope) (kept : List (ℕ × Option ℕ)) (source : Source) (w : ℕ) → Known around kept source w → KnownHere around kept source w
known_here around kept (at_place k) w f = tt
known_here around kept (in_register r) w f = f
known_here around kept (constant c) w f = f
known_here around kept (count c) w f = f

pub known_more : (around : counters.Scope) (kept more : List (ℕ × Option ℕ)) (source : Source) (w : ℕ) → ((x : ℕ × Option ℕ) → Contains kept x → Contains more x) → Known around kept source w → Known around more source w
known_more around kept more (at_place k) w h f = f
known_more around kept more (in_register r) w h f = h (r, Some w) f
known_more around kept more (constant c) w h f = f
known_more around kept more (count c) w h f = f

pub here_more : (around : counters.Scope) (kept more : List (ℕ × Option ℕ)) (source : Source) (w : ℕ) → ((x : ℕ × Option ℕ) → Contains kept x → Contains more x) → KnownHere around kept source w → KnownHere around more source w
here_more around kept more (at_place k) w h f = f
here_more around kept more (in_register r) w h f = h (r, Some w) f
here_more around kept more (constant c) w h f = f
here_more around kept more (count c) w h f = f

-- one cell holds one word
pub one_word : (c : Option Contents) (a b : ℕ) → c ≡ Some (cells (Some a ∷ [])) → c ≡ Some (cells (Some b ∷ [])) → a ≡ b
one_word c a b e f = let g : Some (cells (Some a ∷ [])) ≡ Some (cells (Some b ∷ [])) = sym e ∙ f in cc

-- the words of a list stay as it grows
pub ops_keep : (core : PlainCore) (around : counters.Scope) (ops : List PlainOp) (done all : List Entry) (t u : store.Store) → operations_after core around done ops t ≡ went all u → Keeps done all
unfolding operations_after pure
ops_keep core around [] done all t u e = subst (λ x. Keeps done x) (same_core_answer done all t u e) (omega arith, λ k lt. refl)
ops_keep core around (op ∷ ops) done all t u e =
    let b = core_apart (operation core around op done) (λ x. operations_after core around (done ++ x ∷ []) ops) t all u e in
    let more = ops_keep core around ops (done ++ b.answer ∷ []) all b.store u b.second in
    let first = keeps_front done (b.answer ∷ []) in
    (omega (arith, first.0, more.0), λ k lt. more.1 k (omega (arith, first.0, lt, length-append done (b.answer ∷ []))) ∙ first.1 k lt)

module _ (p : PlainProgram) (core : PlainCore) where
  -- what is known is found, where the registers are kept
  pub known_found : (view : View) (done : List Entry) (t : store.Store) (source : Source) (w : ℕ) → ((x : ℕ × Option ℕ) → Contains view.registers x → IsAdded p core x.0 × (t x.0 ≡ Some (cells (x.1 ∷ [])))) → Known view.around view.registers source w → Finds p core view.around done t source w
  known_found view done t (at_place k) w g f = absurd f
  known_found view done t (in_register r) w g f = g (r, Some w) f
  known_found view done t (constant c) w g f = f
  known_found view done t (count c) w g f = f

  -- what was known before and is found after is the same word
  pub known_same : (view : View) (done : List Entry) (t : store.Store) (source : Source) (w x : ℕ) → ((y : ℕ × Option ℕ) → Contains view.registers y → IsAdded p core y.0 × (t y.0 ≡ Some (cells (y.1 ∷ [])))) → Known view.around view.registers source w → Finds p core view.around done t source x → x ≡ w
  known_same view done t (at_place k) w x g f h = absurd f
  known_same view done t (in_register r) w x g f h = one_word (t r) x w h.1 (g (r, Some w) f).1
  known_same view done t (constant c) w x g f h = sym h ∙ f
  known_same view done t (count c) w x g f h = sym h ∙ f

  -- more operations leave the values that were visible
  module _ (view other : View) (ops more : List PlainOp) (t : store.Store) (s u : program_store.Store) (ks ls ws us : List ℕ) (one : GoOn p core view [] ops t s ks ws) (two : GoOn p core other [] (ops ++ more) t u ls us) (around : other.around ≡ view.around) (registers : other.registers ≡ view.registers) where
    pub grown : Keeps one.all two.all
    grown =
        let e = sym (ops_append p core view ops more [] t one.all one.after one.goes) ∙ subst (λ a. operations_after core a [] (ops ++ more) t ≡ went two.all two.after) around two.goes in
        ops_keep core view.around more one.all two.all one.after two.after e

    pub value_stays : (source : Source) (w x : ℕ) → KnownHere view.around view.registers source w → Finds p core view.around one.all one.after source w → Finds p core view.around two.all two.after source x → x ≡ w
    value_stays (at_place k) w x f g h = sym h.1 ∙ grown.1 k g.0 ∙ g.1
    value_stays (in_register r) w x f g h = one_word (two.after r) x w h.1 (two.agree.registers (r, Some w) (subst (λ l. Contains l (r, Some w)) (sym registers) f)).1
    value_stays (constant c) w x f g h = sym h ∙ f
    value_stays (count c) w x f g h = sym h ∙ f
