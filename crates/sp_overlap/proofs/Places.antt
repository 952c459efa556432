-- Where the stages of an outer body stand among its nodes and its numbers, and what happens in their runs.
use Rattle.std.proofs.Common.{◌≡◌, ℕ, zero, suc, ◌+◌, ◌-◌, ◌<◌, ◌≤◌, inl, inr, Bool, true, false, ℤ, List, [], ◌∷◌, ◌++◌, length, arith, refl, sym, subst, ap, ◌∙◌}
use Rattle.std.proofs.lemmas.Bool.{cases_order}
use Rattle.std.specs.List.{list_any}
use Rattle.std.specs.Prelude.{◌||◌, slice_index_or}
use Rattle.sp_core.specs.Declarations.{is_among}
use Rattle.sp_core.specs.Events.{At, Standing, in_group_of}
use Rattle.sp_core.specs.History.{Groups, no_group, more_group}
use Rattle.sp_core.specs.Invariant.{owned_in}
use Rattle.sp_core.specs.Numbering.{node_count, number_count}
use Rattle.sp_core.specs.PlainCore.{PlainNode, PlainStages, inner, outer, fsm, branch, load, store, sparse, no_stage, more_stage, PlainCore}
use Rattle.sp_plan.proofs.NamedAt.{node_length}
use Rattle.sp_plan.specs.Named.{names, stages_names, names_at, uses}
use Rattle.sp_plan.specs.PlainPlan.{PlainPlan}
use Rattle.sp_plan.specs.Slots.{runs_of, run_at as stage_at}
use Rattle.sp_plan.specs.Validity.{stage_count}
use Rattle.sp_time.specs.Beats.{Run, no_time, run_at}
use Rattle.sp_time.specs.Lists.{Each}
use Rattle.sp_machine.specs.Stamps.{Stamped, Copies}
use Rattle.sp_machine.specs.Timeline.{group_runs, in_copies}
use Rattle.sp_machine.specs.Transfers.{Delays}
use Rattle.sp_overlap.specs.Apart.{StandAt, node_at}
use Rattle.sp_overlap.proofs.Inside.{IsIn, AllIn, stand_left, stand_right}
use Rattle.sp_overlap.proofs.Parts.{RowIn, TableIn}

-- the number of a stage's node, where the first one has this
abbrev pub number_at : (node : ℕ) → PlainStages → ℕ → ℕ
number_at j (more_stage first last comb node rest) zero = j
number_at j (more_stage first last comb node rest) (suc s) = number_at (j + node_count node) rest s
number_at j no_stage s = j

some_nodes : (node : PlainNode) → 1 ≤ node_count node
some_nodes (inner counters owned ops comb) = omega arith
some_nodes (outer counters style owned stages) = omega arith
some_nodes (fsm start state test body next) = omega arith
some_nodes (branch test first second) = omega arith
some_nodes (load r m spans) = omega arith
some_nodes (store r m spans) = omega arith
some_nodes (sparse kind r m places spans count par) = omega arith

number_from : (j : ℕ) (stages : PlainStages) (s : ℕ) → j ≤ number_at j stages s
number_from j no_stage s = omega arith
number_from j (more_stage first last comb node rest) zero = omega arith
number_from j (more_stage first last comb node rest) (suc s) = let a : j + node_count node ≤ number_at (j + node_count node) rest s = number_from (j + node_count node) rest s in omega arith

pub run_count : (n : ℕ) (stages : PlainStages) → length (runs_of n stages) ≡ stage_count stages
run_count n no_stage = refl
run_count n (more_stage first last comb node rest) = let e : length (runs_of (n + number_count node) rest) ≡ stage_count rest = run_count (n + number_count node) rest in omega arith

number_rises : (j : ℕ) (stages : PlainStages) (s r : ℕ) → s < r → r < stage_count stages → number_at j stages s < number_at j stages r
number_rises j no_stage s r l q = absurd (omega (arith, q))
number_rises j (more_stage first last comb node rest) s zero l q = absurd (omega (arith, l))
number_rises j (more_stage first last comb node rest) zero (suc r) l q = let a : j + node_count node ≤ number_at (j + node_count node) rest r = number_from (j + node_count node) rest r in let b : 1 ≤ node_count node = some_nodes node in omega arith
number_rises j (more_stage first last comb node rest) (suc s) (suc r) l q = number_rises (j + node_count node) rest s r (omega arith) (omega arith)

pub numbers_apart : (j : ℕ) (stages : PlainStages) (s r : ℕ) → s < stage_count stages → r < stage_count stages → (s ≡ r → ⊥) → number_at j stages s ≡ number_at j stages r → ⊥
numbers_apart j stages s r a b n e = elim (cases_order s r) [
  | inl q ↦ n q
  | inr (inl q) ↦ let x : number_at j stages s < number_at j stages r = number_rises j stages s r q b in absurd (omega arith)
  | inr (inr q) ↦ let x : number_at j stages r < number_at j stages s = number_rises j stages r s q a in absurd (omega arith)
]

-- the numbers of its operations
from_on : (n : ℕ) (stages : PlainStages) (s : ℕ) → s < stage_count stages → n ≤ (stage_at (runs_of n stages) s).from
from_on n no_stage s l = absurd (omega (arith, l))
from_on n (more_stage first last comb node rest) zero l = omega arith
from_on n (more_stage first last comb node rest) (suc s) l =
    let a : n + number_count node ≤ (stage_at (runs_of (n + number_count node) rest) s).from = from_on (n + number_count node) rest s (omega arith) in omega arith

ranges_rise : (n : ℕ) (stages : PlainStages) (s r : ℕ) → s < r → r < stage_count stages → (stage_at (runs_of n stages) s).until ≤ (stage_at (runs_of n stages) r).from
ranges_rise n no_stage s r l q = absurd (omega (arith, q))
ranges_rise n (more_stage first last comb node rest) s zero l q = absurd (omega (arith, l))
ranges_rise n (more_stage first last comb node rest) zero (suc r) l q = from_on (n + number_count node) rest r (omega arith)
ranges_rise n (more_stage first last comb node rest) (suc s) (suc r) l q = ranges_rise (n + number_count node) rest s r (omega arith) (omega arith)

pub ranges_apart : (n : ℕ) (stages : PlainStages) (s r a b : ℕ) → s < stage_count stages → r < stage_count stages → (s ≡ r → ⊥) → (stage_at (runs_of n stages) s).from ≤ a → a < (stage_at (runs_of n stages) s).until → (stage_at (runs_of n stages) r).from ≤ b → b < (stage_at (runs_of n stages) r).until → a ≡ b → ⊥
ranges_apart n stages s r a b ls lr apart la ua lb ub e = elim (cases_order s r) [
  | inl q ↦ apart q
  | inr (inl q) ↦ let x : (stage_at (runs_of n stages) s).until ≤ (stage_at (runs_of n stages) r).from = ranges_rise n stages s r q lr in absurd (omega arith)
  | inr (inr q) ↦ let x : (stage_at (runs_of n stages) r).until ≤ (stage_at (runs_of n stages) s).from = ranges_rise n stages r s q ls in absurd (omega arith)
]

-- one of a list passes the test
any_at : (test : List ℕ → Bool) (xs : List (List ℕ)) (i : ℕ) → i < length xs → test (slice_index_or xs i []) ≡ true → list_any test xs ≡ true
any_at test [] i l h = absurd (omega (arith, l))
any_at test (x ∷ xs) zero l h = ap (λ b. b || list_any test xs) h
any_at test (x ∷ xs) (suc i) l h = other (test x) (any_at test xs i (omega arith) h)
  where
    other : (b : Bool) → list_any test xs ≡ true → (b || list_any test xs) ≡ true
    other true e = refl
    other false e = e

module _ (core : PlainCore) where
  -- what is named at a number of a stage is used by it
  uses_named : (node : PlainNode) (n a m : ℕ) → StandAt core n (names core node) → n ≤ a → a < n + number_count node → is_among m (names_at core a) ≡ true → uses core m node ≡ true
  uses_named node n a m named l u h =
      let inside : a - n < length (names core node) = (let e : length (names core node) ≡ number_count node = node_length core node in omega arith) in
      any_at (is_among m) (names core node) (a - n) inside (ap (is_among m) (sym (named (a - n) inside) ∙ ap (names_at core) (let e : n + (a - n) ≡ a = omega arith in e)) ∙ h)

  pub uses_at : (n : ℕ) (stages : PlainStages) (s a m : ℕ) → StandAt core n (stages_names core stages) → s < stage_count stages → (stage_at (runs_of n stages) s).from ≤ a → a < (stage_at (runs_of n stages) s).until → is_among m (names_at core a) ≡ true → uses core m (node_at stages s) ≡ true
  uses_at n no_stage s a m named l low high h = absurd (omega (arith, l))
  uses_at n (more_stage first last comb node rest) zero a m named l low high h = uses_named node n a m (stand_left core n (names core node) (stages_names core rest) named) low high h
  uses_at n (more_stage first last comb node rest) (suc s) a m named l low high h =
      uses_at (n + number_count node) rest s a m (stand_right core n (n + number_count node) (names core node) (stages_names core rest) (ap (λ x. n + x) (node_length core node)) named) (omega arith) low high h

  -- what happens in the run of a stage in a group
  module _ (plan : PlainPlan) (delays : Delays) (k : ℕ) (path : List At) (owned : List ℕ) (copies : Copies) where
    abbrev pub Told : (stages : PlainStages) (j n g s place : ℕ) (c : Copies) → Stamped → Type 0
    Told stages j n g s place c e =
        IsIn core (path ++ record { node = k; when = in_group_of g place } ∷ []) c (owned_in (node_at stages s)) (number_at j stages s) (stage_at (runs_of n stages) s).from (stage_at (runs_of n stages) s).until e × (s < stage_count stages)

    each_told : (stages : PlainStages) (j n g s place : ℕ) (c : Copies) (es : List Stamped) → s < stage_count stages
        → AllIn core (path ++ record { node = k; when = in_group_of g place } ∷ []) c (owned_in (node_at stages s)) (number_at j stages s) (stage_at (runs_of n stages) s).from (stage_at (runs_of n stages) s).until es → Each (Told stages j n g s place c) es
    each_told stages j n g s place c [] l h = tt
    each_told stages j n g s place c (e ∷ es) l h = ((h.0, l), each_told stages j n g s place c es l h.1)

    row_told : (stages : PlainStages) (j n g s : ℕ) (c : Copies) (row : List (Run Stamped)) → RowIn core plan delays stages k g s j n path c row → (i : ℕ) → Each (Told stages j n g i (s + i) c) (slice_index_or row i no_time).events
    row_told stages j n g s c [] h i = tt
    row_told (more_stage first last comb node rest) j n g s c (r ∷ row) h zero =
        subst (λ p. Each (Told (more_stage first last comb node rest) j n g 0 p c) r.events) (let e : s ≡ s + 0 = omega arith in e) (each_told (more_stage first last comb node rest) j n g 0 s c r.events (omega arith) h.0)
    row_told (more_stage first last comb node rest) j n g s c (r ∷ row) h (suc i) =
        subst (λ p. Each (Told (more_stage first last comb node rest) j n g (suc i) p c) (slice_index_or row i no_time).events) (let e : suc s + i ≡ s + suc i = omega arith in e)
        (step (slice_index_or row i no_time).events (row_told rest (j + node_count node) (n + number_count node) g (suc s) c row h.1 i))
      where
        step : (es : List Stamped) → Each (Told rest (j + node_count node) (n + number_count node) g i (suc s + i) c) es → Each (Told (more_stage first last comb node rest) j n g (suc i) (suc s + i) c) es
        step [] h = tt
        step (e ∷ es) h = ((h.0.0, (let l : i < stage_count rest = h.0.1 in omega arith)), step es h.1)
    row_told no_stage j n g s c (r ∷ row) h i = absurd h

    pub table_told : (stages : PlainStages) (n g : ℕ) (rows : List (List (Run Stamped))) → TableIn core plan delays stages k g n path owned copies rows → (i s : ℕ) → Each (λ e. Told stages (suc k) n (g + i) s s (in_copies core plan delays owned (g + i) copies) e × (i < length rows)) (run_at rows i s).events
    table_told stages n g [] h i s = tt
    table_told stages n g (row ∷ rows) h zero s =
        subst (λ x. Each (λ e. Told stages (suc k) n x s s (in_copies core plan delays owned x copies) e × (0 < suc (length rows))) (slice_index_or row s no_time).events) (let e : g ≡ g + 0 = omega arith in e)
        (here (slice_index_or row s no_time).events (subst (λ p. Each (Told stages (suc k) n g s p (in_copies core plan delays owned g copies)) (slice_index_or row s no_time).events) (let e : 0 + s ≡ s = omega arith in e) (row_told stages (suc k) n g 0 (in_copies core plan delays owned g copies) row h.0 s)))
      where
        here : (es : List Stamped) → Each (Told stages (suc k) n g s s (in_copies core plan delays owned g copies)) es → Each (λ e. Told stages (suc k) n g s s (in_copies core plan delays owned g copies) e × (0 < suc (length rows))) es
        here [] h = tt
        here (e ∷ es) h = ((h.0, omega arith), here es h.1)
    table_told stages n g (row ∷ rows) h (suc i) s =
        subst (λ x. Each (λ e. Told stages (suc k) n x s s (in_copies core plan delays owned x copies) e × (suc i < suc (length rows))) (run_at rows i s).events) (let e : suc g + i ≡ g + suc i = omega arith in e)
        (here (run_at rows i s).events (table_told stages n (suc g) rows h.1 i s))
      where
        here : (es : List Stamped) → Each (λ e. Told stages (suc k) n (suc g + i) s s (in_copies core plan delays owned (suc g + i) copies) e × (i < length rows)) es → Each (λ e. Told stages (suc k) n (suc g + i) s s (in_copies core plan delays owned (suc g + i) copies) e × (suc i < suc (length rows))) es
        here [] h = tt
        here (e ∷ es) h = ((h.0.0, (let l : i < length rows = h.0.1 in omega arith)), here es h.1)

-- there are no more groups than values
pub few_groups : (core : PlainCore) (plan : PlainPlan) (delays : Delays) (stages : PlainStages) (k n g : ℕ) (st : Standing) (owned : List ℕ) (copies : Copies) (values : List (List ℤ)) (groups : Groups) → length (group_runs core plan delays stages k n g st owned copies values groups) ≤ length values
unfolding group_runs
few_groups core plan delays stages k n g st owned copies (v ∷ values) (more_group rs rest) = let a : length (group_runs core plan delays stages k n (suc g) st owned copies values rest) ≤ length values = few_groups core plan delays stages k n (suc g) st owned copies values rest in omega arith
few_groups core plan delays stages k n g st owned copies [] groups = omega arith
few_groups core plan delays stages k n g st owned copies (v ∷ values) no_group = omega arith
