use Rattle.std.proofs.Common.{◌≡◌, ◌<◌, ◌↔◌, ◌++◌, [], ◌∷◌, ℕ, true, false, List, get_or}
use Rattle.std.specs.Prelude.{map}
use Rattle.sp_affine.specs.Affine.{Affine}
use Rattle.sp_bank.specs.Search.{unhinged}
use Rattle.sp_bank.specs.Separation.{Separates}
use Rattle.sp_bank.proofs.row.separating_weights.Given as goal

abbrev pub invariant-loop-group : goal.invariant-loop-group
invariant-loop-group l = (w : ℕ) → w < l.fn.banks → (get_or l.separating w false ≡ true) ↔
    ((k : ℕ) (d : List Affine) → k < l.group-index → Separates (unhinged l.fn.banks l.fn.block (l.before ++ w ∷ [])) (get_or (map (λ g. g.items) l.groups) k d))
