-- The turns that are left only fall.
use Rattle.std.proofs.Common.{◌≡◌, ℕ, zero, suc, ◌+◌, ◌≤◌, true, List, [], ◌∷◌, refl, ◌∙◌, subst, arith}
use Rattle.sp_tree.specs.PlainProgram.{PlainMem}
use Rattle.sp_tree.specs.PlainStatement.{PlainStmtKind, PlainStmts}
use Rattle.sp_tree.specs.Sequential.{run_kind, run_all}
use Rattle.sp_tree.specs.Shape.{Shape}
use Rattle.sp_tree.specs.Step as program
use Rattle.sp_tree.specs.Store as program_store
use Rattle.sp_core.specs.Step as core
use Rattle.sp_core.specs.Store as store
use Rattle.sp_tree.proofs.Closure.{run_kind_Q, run_all_Q}
use Rattle.sp_tree.proofs.Everything.{any_stmt_kind, any_body}
use Rattle.sp_tree.proofs.Timed.{TimedAt, IsTimed, timed_closed, timed_loops}
use Rattle.sp_sugar.proofs.StepLemmas.{as_it_went, not_more, taken_apart, then_on}
use Rattle.sp_same.proofs.Quietly.{Pairs}

fall : {A : Type 0} (step : program.Step A) → IsTimed A step → (left rest : ℕ) (s after : program_store.Store) (a : A) → step left s ≡ program.went a rest after → rest ≤ left
fall step timed left rest s after a e = let f = subst (λ w. TimedAt step s left w) e (timed left s) in omega (arith, f.1)

pub kind_falls : (mems : List PlainMem) (roomy : List ℕ) (kind : PlainStmtKind) (place left rest : ℕ) (s after : program_store.Store) (did : List Shape) → run_kind mems roomy kind place left s ≡ program.went did rest after → rest ≤ left
kind_falls mems roomy kind place = fall (run_kind mems roomy kind place) (run_kind_Q IsTimed (λ _. true) timed_closed mems roomy timed_loops kind place (any_stmt_kind kind))

pub body_falls : (mems : List PlainMem) (roomy : List ℕ) (body : PlainStmts) (left rest : ℕ) (s after : program_store.Store) (did : List Shape) → run_all mems roomy body left s ≡ program.went did rest after → rest ≤ left
body_falls mems roomy body = fall (run_all mems roomy body) (run_all_Q IsTimed (λ _. true) timed_closed mems roomy timed_loops body (any_body body))

pub turn_falls : (x : Unit {0}) (left rest : ℕ) (s t : program_store.Store) → program.turn left s ≡ program.went x rest t → (left ≡ rest + 1) × (t ≡ s)
unfolding program.turn
turn_falls x zero rest s t e = not_more x rest t e
turn_falls x (suc left) rest s t e = as_it_went (λ y n u. (suc left ≡ n + 1) × (u ≡ s)) tt x left rest s t e (omega arith, refl)

-- steps for elements that belong together, one after the other
module _ {X Y A B : Type 0} (f : X → program.Step A) (g : Y → core.Step B) (R : X → Y → Type 0) (Q : A → B → Type 0) (I : ℕ → program_store.Store → store.Store → Type 0)
    (step : (x : X) (y : Y) (left rest : ℕ) (s after : program_store.Store) (t : store.Store) (a : A) → R x y → I left s t → f x left s ≡ program.went a rest after → (b : B) × (u : store.Store) × (g y t ≡ core.went b u) × I rest after u × Q a b) where
  pub each_pair : (xs : List X) (ys : List Y) (left rest : ℕ) (s after : program_store.Store) (t : store.Store) (al : List A) → Pairs R xs ys → I left s t → program.in_order f xs left s ≡ program.went al rest after
      → (bs : List B) × (u : store.Store) × (core.in_order g ys t ≡ core.went bs u) × I rest after u × Pairs Q al bs
  unfolding program.in_order core.in_order program.pure core.pure
  each_pair [] [] left rest s after t al r i e = as_it_went (λ x n v. (bs : List B) × (u : store.Store) × (core.went [] t ≡ core.went bs u) × I n v u × Pairs Q x bs) [] al left rest s after e ([], t, refl, i, tt)
  each_pair [] (y ∷ ys) left rest s after t al r i e = absurd r
  each_pair (x ∷ xs) [] left rest s after t al r i e = absurd r
  each_pair (x ∷ xs) (y ∷ ys) left rest s after t al r i e =
      let b = taken_apart (f x) (λ first. program.◌>>=◌ (program.in_order f xs) (λ others. program.pure (first ∷ others))) left s al rest after e in
      let d = taken_apart (program.in_order f xs) (λ others. program.pure (b.answer ∷ others)) b.between b.store al rest after b.second in
      let one = step x y left b.between s b.store t b.answer r.0 i b.first in
      let more = each_pair xs ys b.between d.between b.store d.store one.1 d.answer r.1 one.3 d.first in
      as_it_went (λ z n v. (bs : List B) × (u : store.Store) × (core.in_order g (y ∷ ys) t ≡ core.went bs u) × I n v u × Pairs Q z bs) (b.answer ∷ d.answer) al d.between rest d.store after d.second (
        one.0 ∷ more.0,
        more.1,
        then_on (g y) (λ first. core.◌>>=◌ (core.in_order g ys) (λ others. core.pure (first ∷ others))) t one.0 one.1 one.2
            ∙ then_on (core.in_order g ys) (λ others. core.pure (one.0 ∷ others)) one.1 more.0 more.1 more.2,
        more.3,
        (one.4, more.4),
      )
