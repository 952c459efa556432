-- The nets that the cell of a step drives and reads.
use Rattle.std.proofs.Common.{◌≡◌, ℕ, List, [], ◌∷◌, map, Contains, refl, arith}
use Rattle.std.proofs.lemmas.List.Elements.{All-contains, All-nil, All-cons}
use Rattle.sp_netlist.specs.Cells.{PlainCell}
use Rattle.sp_netlist.specs.Rules.{drives, reads}
use Rattle.sp_sim.specs.declared.step.Task.{Task}
use Rattle.sp_sim.specs.declared.step.Task.TheVariants.{Add, Sub, Mul, Div, Rem, And, Or, Xor, Min, Max, Lt, Eq, Not, Shl, Shr, Cast, Choose}
use Rattle.sp_sim.specs.Steps.{cell_by}
use Rattle.sp_sim.proofs.Settled.{only_one}

-- it drives the step's net
pub drives_net : (cells : List PlainCell) (task : Task) (net a b c : ℕ) → Contains (map (λ p. p.0) (drives cells (cell_by task net a b c))) net
drives_net cells (Add ty) net a b c = (0, omega arith, refl)
drives_net cells (Sub ty) net a b c = (0, omega arith, refl)
drives_net cells (Mul ty) net a b c = (0, omega arith, refl)
drives_net cells (Div ty) net a b c = (0, omega arith, refl)
drives_net cells (Rem ty) net a b c = (0, omega arith, refl)
drives_net cells (And ty) net a b c = (0, omega arith, refl)
drives_net cells (Or ty) net a b c = (0, omega arith, refl)
drives_net cells (Xor ty) net a b c = (0, omega arith, refl)
drives_net cells (Min ty) net a b c = (0, omega arith, refl)
drives_net cells (Max ty) net a b c = (0, omega arith, refl)
drives_net cells (Lt ty) net a b c = (0, omega arith, refl)
drives_net cells (Eq ty) net a b c = (0, omega arith, refl)
drives_net cells (Not ty) net a b c = (0, omega arith, refl)
drives_net cells (Shl ty places) net a b c = (0, omega arith, refl)
drives_net cells (Shr ty places) net a b c = (0, omega arith, refl)
drives_net cells (Cast from to) net a b c = (0, omega arith, refl)
drives_net cells (Choose width) net a b c = (0, omega arith, refl)

-- and no other
pub drives_only : (cells : List PlainCell) (task : Task) (net a b c n : ℕ) → Contains (map (λ p. p.0) (drives cells (cell_by task net a b c))) n → net ≡ n
drives_only cells (Add ty) net a b c n d = only_one net n d
drives_only cells (Sub ty) net a b c n d = only_one net n d
drives_only cells (Mul ty) net a b c n d = only_one net n d
drives_only cells (Div ty) net a b c n d = only_one net n d
drives_only cells (Rem ty) net a b c n d = only_one net n d
drives_only cells (And ty) net a b c n d = only_one net n d
drives_only cells (Or ty) net a b c n d = only_one net n d
drives_only cells (Xor ty) net a b c n d = only_one net n d
drives_only cells (Min ty) net a b c n d = only_one net n d
drives_only cells (Max ty) net a b c n d = only_one net n d
drives_only cells (Lt ty) net a b c n d = only_one net n d
drives_only cells (Eq ty) net a b c n d = only_one net n d
drives_only cells (Not ty) net a b c n d = only_one net n d
drives_only cells (Shl ty places) net a b c n d = only_one net n d
drives_only cells (Shr ty places) net a b c n d = only_one net n d
drives_only cells (Cast from to) net a b c n d = only_one net n d
drives_only cells (Choose width) net a b c n d = only_one net n d

module _ (P : ℕ → Type 0) where
  one_of : (a n : ℕ) → P a → Contains (a ∷ []) n → P n
  one_of a n pa d = All-contains P (a ∷ []) n (All-cons P a [] pa (All-nil P)) d

  two_of : (a b n : ℕ) → P a → P b → Contains (a ∷ b ∷ []) n → P n
  two_of a b n pa pb d = All-contains P (a ∷ b ∷ []) n (All-cons P a (b ∷ []) pa (All-cons P b [] pb (All-nil P))) d

  three_of : (a b c n : ℕ) → P a → P b → P c → Contains (c ∷ a ∷ b ∷ []) n → P n
  three_of a b c n pa pb pc d = All-contains P (c ∷ a ∷ b ∷ []) n (All-cons P c (a ∷ b ∷ []) pc (All-cons P a (b ∷ []) pa (All-cons P b [] pb (All-nil P)))) d

  -- what holds of the step's operands holds of each net that it reads
  pub reads_only : (cells : List PlainCell) (task : Task) (net a b c : ℕ) → P a → P b → P c → (n : ℕ) → Contains (map (λ p. p.0) (reads cells (cell_by task net a b c))) n → P n
  reads_only cells (Add ty) net a b c pa pb pc n d = two_of a b n pa pb d
  reads_only cells (Sub ty) net a b c pa pb pc n d = two_of a b n pa pb d
  reads_only cells (Mul ty) net a b c pa pb pc n d = two_of a b n pa pb d
  reads_only cells (Div ty) net a b c pa pb pc n d = two_of a b n pa pb d
  reads_only cells (Rem ty) net a b c pa pb pc n d = two_of a b n pa pb d
  reads_only cells (And ty) net a b c pa pb pc n d = two_of a b n pa pb d
  reads_only cells (Or ty) net a b c pa pb pc n d = two_of a b n pa pb d
  reads_only cells (Xor ty) net a b c pa pb pc n d = two_of a b n pa pb d
  reads_only cells (Min ty) net a b c pa pb pc n d = two_of a b n pa pb d
  reads_only cells (Max ty) net a b c pa pb pc n d = two_of a b n pa pb d
  reads_only cells (Lt ty) net a b c pa pb pc n d = two_of a b n pa pb d
  reads_only cells (Eq ty) net a b c pa pb pc n d = two_of a b n pa pb d
  reads_only cells (Not ty) net a b c pa pb pc n d = one_of a n pa d
  reads_only cells (Shl ty places) net a b c pa pb pc n d = one_of a n pa d
  reads_only cells (Shr ty places) net a b c pa pb pc n d = one_of a n pa d
  reads_only cells (Cast from to) net a b c pa pb pc n d = one_of a n pa d
  reads_only cells (Choose width) net a b c pa pb pc n d = three_of a b c n pa pb pc d
