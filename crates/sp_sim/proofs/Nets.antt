-- The nets of a netlist as an ascending list, of which there is one, and runs of places in it.
use Rattle.std.proofs.Common.{◌≡◌, ℕ, zero, suc, ◌+◌, ◌<◌, ◌≤◌, List, [], ◌∷◌, length, get_or, map, All, Contains, refl, sym, ap, ◌∙◌, subst, arith}
use Rattle.std.specs.List.{zip}
use Rattle.std.specs.List.Sorted.{IsStrictlyIncreasing}
use Rattle.std.proofs.lemmas.List.{get_or_default}
use Rattle.sp_netlist.specs.Cells.{PlainCell}
use Rattle.sp_netlist.specs.Rules.{drives, reads, driven_nets, IsNetlist}
use Rattle.sp_sim.specs.declared.run.Run.{Run}
use Rattle.sp_sim.specs.declared.step.Step.{Step}
use Rattle.sp_sim.specs.declared.step.Task.{Task}
use Rattle.sp_sim.specs.declared.step.Task.TheVariants.{Add, Sub, Mul, Div, Rem, And, Or, Xor, Min, Max, Lt, Eq, Not, Shl, Shr, Cast, Choose}
use Rattle.sp_sim.specs.Levels.{AreOrdered}
use Rattle.sp_sim.specs.Runs.{runs_cells, IsRunWithin, StepStands, AreNetsOf, AreRunsOf}
use Rattle.sp_sim.specs.Settling.{IsRow}
use Rattle.sp_sim.specs.Steps.{cell_by, cell_of, cells_of}
use Rattle.sp_sim.proofs.CellLemmas.{drives_driven, reads_driven}
use Rattle.sp_sim.proofs.Ordered.{cell_there, computing_there}
use Rattle.sp_sim.proofs.RowLemmas.{increasing_far, increasing_up, nets_of-zip}
use Rattle.sp_sim.proofs.Settled.{first_of_pair, pair_first}
use Rattle.sp_sim.proofs.StepNets.{drives_net}

at_zero : (xs : List ℕ) (n : ℕ) (c : Contains xs n) → get_or xs c.0 0 ≡ n
at_zero xs n c = get_or_default xs c.0 0 n c.1 ∙ c.2

least : (x n : ℕ) (xs : List ℕ) → IsStrictlyIncreasing (x ∷ xs) → Contains (x ∷ xs) n → x ≤ n
least x n xs up c = subst (λ k. x ≤ k) (at_zero (x ∷ xs) n c) (increasing_up (x ∷ xs) up 0 c.0 (omega arith) c.1)

greater : (x n : ℕ) (xs : List ℕ) → IsStrictlyIncreasing (x ∷ xs) → Contains xs n → x < n
greater x n xs up c = let l = c.1 in subst (λ k. x < k) (at_zero xs n c) (increasing_far (x ∷ xs) up 0 (suc c.0) (omega arith) (omega (arith, l)))

tail_up : (x : ℕ) (xs : List ℕ) → IsStrictlyIncreasing (x ∷ xs) → IsStrictlyIncreasing xs
tail_up x xs up k l =
    let e : suc k + 1 ≡ suc (k + 1) = omega arith in
    subst (λ j. get_or xs k 0 < get_or (x ∷ xs) j 0) e (up (suc k) (omega (arith, l)))

later : (x : ℕ) (xs : List ℕ) (n : ℕ) → x < n → Contains (x ∷ xs) n → Contains xs n
later x xs n less c = at c.0 c.1 c.2
  where
    at : (k : ℕ) → k < length (x ∷ xs) → get_or (x ∷ xs) k n ≡ n → Contains xs n
    at zero l e = absurd (omega (arith, less, e))
    at (suc k) l e = (k, omega (arith, l), e)

-- two ascending lists of the same numbers are the same
same_ascending : (xs ys : List ℕ) → IsStrictlyIncreasing xs → IsStrictlyIncreasing ys → ((n : ℕ) → Contains xs n → Contains ys n) → ((n : ℕ) → Contains ys n → Contains xs n) → xs ≡ ys
same_ascending [] [] up down to from = refl
same_ascending [] (y ∷ ys) up down to from = let c = from y (0, omega arith, refl) in let l = c.1 in absurd (omega arith)
same_ascending (x ∷ xs) [] up down to from = let c = to x (0, omega arith, refl) in let l = c.1 in absurd (omega arith)
same_ascending (x ∷ xs) (y ∷ ys) up down to from =
    let low = least y x ys down (to x (0, omega arith, refl)) in
    let high = least x y xs up (from y (0, omega arith, refl)) in
    let same : x ≡ y = omega (arith, low, high) in
    let rest = same_ascending xs ys (tail_up x xs up) (tail_up y ys down)
    (λ n c. let more = greater x n xs up c in later y ys n (omega (arith, more, same)) (to n (wider x xs n c)))
    (λ n c. let more = greater y n ys down c in later x xs n (omega (arith, more, same)) (from n (wider y ys n c))) in
    ap (λ k. k ∷ xs) same ∙ ap (λ zs. y ∷ zs) rest
  where
    wider : (k : ℕ) (ks : List ℕ) (n : ℕ) → Contains ks n → Contains (k ∷ ks) n
    wider k ks n c = let l = c.1 in (suc c.0, omega (arith, l), c.2)

-- the nets of a row
pub row_nets : (cells : List PlainCell) (ns ws : List ℕ) → IsStrictlyIncreasing ns → length ws ≡ length ns → IsRow cells (zip ns ws) → AreNetsOf cells ns
row_nets cells ns ws up long r = record {
  ascending = up;
  covers = λ n w c. subst (λ ms. Contains ms n) (nets_of-zip ns ws long) (r.covers n w c);
  only = λ n c. r.only n (subst (λ ms. Contains ms n) (sym (nets_of-zip ns ws long)) c);
}

reads_same : (cells others : List PlainCell) (task : Task) (net a b c : ℕ) → reads cells (cell_by task net a b c) ≡ reads others (cell_by task net a b c)
reads_same cells others (Add ty) net a b c = refl
reads_same cells others (Sub ty) net a b c = refl
reads_same cells others (Mul ty) net a b c = refl
reads_same cells others (Div ty) net a b c = refl
reads_same cells others (Rem ty) net a b c = refl
reads_same cells others (And ty) net a b c = refl
reads_same cells others (Or ty) net a b c = refl
reads_same cells others (Xor ty) net a b c = refl
reads_same cells others (Min ty) net a b c = refl
reads_same cells others (Max ty) net a b c = refl
reads_same cells others (Lt ty) net a b c = refl
reads_same cells others (Eq ty) net a b c = refl
reads_same cells others (Not ty) net a b c = refl
reads_same cells others (Shl ty by) net a b c = refl
reads_same cells others (Shr ty by) net a b c = refl
reads_same cells others (Cast from to) net a b c = refl
reads_same cells others (Choose width) net a b c = refl

-- the nets of steps stand among those of the netlist
module _ (cells : List PlainCell) (h : IsNetlist cells) (steps : List Step) (o : AreOrdered cells steps) (ns : List ℕ) (all : (net : ℕ) → Contains (map (λ p. p.0) (driven_nets cells)) net → Contains ns net) where
  pub steps_stand : All (StepStands ns) steps
  steps_stand i d l =
      let s = get_or steps i d in
      let at = get_or o.order i 0 in
      let there = cell_there cells h steps o i d l in
      let within = (computing_there cells h steps o i l).0 in
      let own = first_of_pair (drives cells (cell_of s)) s.net (drives_net cells s.task s.net s.first s.second s.third) in
      record {
        net = all s.net (pair_first (driven_nets cells) s.net own.0 (drives_driven cells at s.net own.0 within (subst (λ c. Contains (drives cells c) (s.net, own.0)) there own.1)));
        operands = λ n c.
            (let read = first_of_pair (reads cells (cell_of s)) n (subst (λ (ps : List (ℕ × ℕ)). Contains (map (λ (p : ℕ × ℕ). p.0) ps) n) (reads_same [] cells s.task s.net s.first s.second s.third) c) in
            all n (pair_first (driven_nets cells) n read.0 (reads_driven cells h at n read.0 within (subst (λ c. Contains (reads cells c) (n, read.0)) there read.1))));
      }

-- runs that hold the steps over one such list do so over each
pub runs_hold : (cells : List PlainCell) (ns : List ℕ) (runs : List Run) (steps : List Step) → IsStrictlyIncreasing ns
    → ((net : ℕ) → (Contains ns net → Contains (map (λ p. p.0) (driven_nets cells)) net) × (Contains (map (λ p. p.0) (driven_nets cells)) net → Contains ns net))
    → All (IsRunWithin (length ns)) runs → runs_cells ns runs ≡ cells_of steps → AreRunsOf cells runs (cells_of steps)
runs_hold cells ns runs steps up both within same = record {
  within = λ ms k. subst (λ xs. All (IsRunWithin (length xs)) runs) (equal ms k) within;
  same = λ ms k. subst (λ xs. runs_cells xs runs ≡ cells_of steps) (equal ms k) same;
}
  where
    equal : (ms : List ℕ) → AreNetsOf cells ms → ns ≡ ms
    equal ms k = same_ascending ns ms up k.ascending
        (λ n c. let driven = first_of_pair (driven_nets cells) n ((both n).0 c) in k.covers n driven.0 driven.1)
        (λ n c. let driven = k.only n c in (both n).1 (pair_first (driven_nets cells) n driven.0 driven.1))
