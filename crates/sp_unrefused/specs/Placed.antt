-- A place of a program's tree inside of the bodies of some accumulators.
use Rattle.std.specs.Prelude.{◌≡◌, ℕ, suc, List, [], ◌∷◌, map, Contains}
use Rattle.sp_tree.specs.PlainProgram.{PlainProgram}
use Rattle.sp_tree.specs.Typing.{Scope, mem_at}
use Rattle.sp_types.specs.Visible.{Visible}
use Rattle.sp_typed.specs.Named.{Here}
use Rattle.sp_retyped.specs.Shown.{Shown}

pub record Placed (p : PlainProgram) (scope : Scope) (here : Here) (seen : Visible) (accs : List ℕ) : Type 0 where
  pub shown : Shown p scope here.names
  pub same : seen.names ≡ map (λ entry. (entry.0, entry.1.symbol)) here.names
  pub busy_is : seen.busy ≡ map (λ a. (mem_at p a).name) accs
  pub acc_seen : (a : ℕ) → Contains accs a → Contains scope.mems a

-- numbers that follow one another, from a number on
abbrev pub IsRun : ℕ → List ℕ → Type 0
IsRun n [] = Unit {0}
IsRun n (x ∷ xs) = (x ≡ n) × IsRun (suc n) xs
