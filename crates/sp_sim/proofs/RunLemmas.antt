-- Runs hold the cells of their steps.
use Rattle.std.proofs.Common.{◌≡◌, ℕ, ◌+◌, ◌<◌, List, [], ◌∷◌, ◌++◌, length, get_or, map, take, drop, All, Contains, refl, sym, ap, ◌∙◌, subst, arith, take-append-drop, append_assoc, append-nil}
use Rattle.std.proofs.lemmas.List.{map-append, take_more}
use Rattle.std.proofs.lemmas.List.Elements.{All-append, All-cons, All-nil}
use Rattle.std.proofs.lemmas.List.Concat.{flat_map-append}
use Rattle.sp_netlist.specs.Rules.{reads}
use Rattle.sp_sim.specs.declared.run.Places.{Places}
use Rattle.sp_sim.specs.declared.run.Run.{Run}
use Rattle.sp_sim.specs.declared.step.Step.{Step}
use Rattle.sp_sim.specs.declared.step.Task.{Task}
use Rattle.sp_sim.specs.declared.step.Task.TheVariants.{Add, Sub, Mul, Div, Rem, And, Or, Xor, Min, Max, Lt, Eq, Not, Shl, Shr, Cast, Choose}
use Rattle.sp_sim.specs.Runs.{cell_in, run_cells, runs_cells}
use Rattle.sp_sim.specs.Steps.{cell_by, cell_of, cells_of}

-- a cell with the nets that were found for those that it names
module _ (P : ℕ → Type 0) (net a b c m x y z : ℕ) (e : m ≡ net) (ex : P a → x ≡ a) (ey : P b → y ≡ b) (ez : P c → z ≡ c) where
  pub same_cell : (task : Task) → ((n : ℕ) → Contains (map (λ p. p.0) (reads [] (cell_by task net a b c))) n → P n) → cell_by task m x y z ≡ cell_by task net a b c
  same_cell (Add ty) all = let p = ex (all a (0, omega arith, refl)) in let q = ey (all b (1, omega arith, refl)) in cc
  same_cell (Sub ty) all = let p = ex (all a (0, omega arith, refl)) in let q = ey (all b (1, omega arith, refl)) in cc
  same_cell (Mul ty) all = let p = ex (all a (0, omega arith, refl)) in let q = ey (all b (1, omega arith, refl)) in cc
  same_cell (Div ty) all = let p = ex (all a (0, omega arith, refl)) in let q = ey (all b (1, omega arith, refl)) in cc
  same_cell (Rem ty) all = let p = ex (all a (0, omega arith, refl)) in let q = ey (all b (1, omega arith, refl)) in cc
  same_cell (And ty) all = let p = ex (all a (0, omega arith, refl)) in let q = ey (all b (1, omega arith, refl)) in cc
  same_cell (Or ty) all = let p = ex (all a (0, omega arith, refl)) in let q = ey (all b (1, omega arith, refl)) in cc
  same_cell (Xor ty) all = let p = ex (all a (0, omega arith, refl)) in let q = ey (all b (1, omega arith, refl)) in cc
  same_cell (Min ty) all = let p = ex (all a (0, omega arith, refl)) in let q = ey (all b (1, omega arith, refl)) in cc
  same_cell (Max ty) all = let p = ex (all a (0, omega arith, refl)) in let q = ey (all b (1, omega arith, refl)) in cc
  same_cell (Lt ty) all = let p = ex (all a (0, omega arith, refl)) in let q = ey (all b (1, omega arith, refl)) in cc
  same_cell (Eq ty) all = let p = ex (all a (0, omega arith, refl)) in let q = ey (all b (1, omega arith, refl)) in cc
  same_cell (Not ty) all = let p = ex (all a (0, omega arith, refl)) in cc
  same_cell (Shl ty by) all = let p = ex (all a (0, omega arith, refl)) in cc
  same_cell (Shr ty by) all = let p = ex (all a (0, omega arith, refl)) in cc
  same_cell (Cast from to) all = let p = ex (all a (0, omega arith, refl)) in cc
  same_cell (Choose width) all = let p = ex (all a (1, omega arith, refl)) in let q = ey (all b (2, omega arith, refl)) in let r = ez (all c (0, omega arith, refl)) in cc

-- one more run, of the steps that come next
pub more_runs : (ns : List ℕ) (runs : List Run) (steps rest : List Step) (count : ℕ) (run : Run) → runs_cells ns runs ++ cells_of rest ≡ cells_of steps → run_cells ns run ≡ cells_of (take count rest)
    → runs_cells ns (runs ++ run ∷ []) ++ cells_of (drop count rest) ≡ cells_of steps
more_runs ns runs steps rest count run e f =
    ap (λ cs. cs ++ cells_of (drop count rest)) (flat_map-append (run_cells ns) runs (run ∷ []) ∙ ap (λ cs. runs_cells ns runs ++ cs) (append-nil (run_cells ns run)))
    ∙ append_assoc (runs_cells ns runs) (run_cells ns run) (cells_of (drop count rest))
    ∙ ap (λ cs. runs_cells ns runs ++ (cs ++ cells_of (drop count rest))) f
    ∙ ap (λ cs. runs_cells ns runs ++ cs) (sym (map-append cell_of (take count rest) (drop count rest)) ∙ ap cells_of (take-append-drop count rest))
    ∙ e

pub all_push : {X : Type 0} (P : X → Type 0) (xs ys : List X) (x : X) → ys ≡ xs ++ x ∷ [] → All P xs → P x → All P ys
all_push P xs ys x e all p = subst (All P) (sym e) (All-append P xs (x ∷ []) all (All-cons P x [] p (All-nil P)))

-- one more step of a task
pub same_more : (task : Task) (steps : List Step) (i : ℕ) (x : Step) → i < length steps → x ≡ get_or steps i x → x.task ≡ task → All (λ s. s.task ≡ task) (take i steps) → All (λ s. s.task ≡ task) (take (i + 1) steps)
same_more task steps i x l e t all = all_push (λ (s : Step). s.task ≡ task) (take i steps) (take (i + 1) steps) x (take_more steps i x l ∙ ap (λ (s : Step). take i steps ++ s ∷ []) (sym e)) all t

pub placed_more : (ns : List ℕ) (task : Task) (places new : List Places) (steps : List Step) (i : ℕ) (x : Step) (at : Places) → i < length steps → x ≡ get_or steps i x → new ≡ places ++ at ∷ [] → cell_in ns x.task at ≡ cell_of x → x.task ≡ task
    → map (cell_in ns task) places ≡ cells_of (take i steps) → map (cell_in ns task) new ≡ cells_of (take (i + 1) steps)
placed_more ns task places new steps i x at l e p same t before =
    ap (map (cell_in ns task)) p ∙ map-append (cell_in ns task) places (at ∷ [])
    ∙ ap (λ cs. cs ++ cell_in ns task at ∷ []) before
    ∙ ap (λ c. cells_of (take i steps) ++ c ∷ []) (ap (λ (k : Task). cell_in ns k at) (sym t) ∙ same)
    ∙ sym (ap cells_of (take_more steps i x l ∙ ap (λ (s : Step). take i steps ++ s ∷ []) (sym e)) ∙ map-append cell_of (take i steps) (x ∷ []))
