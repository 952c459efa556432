use Rattle.std.proofs.Common.{◌<◌, ◌≤◌, ℕ, List, length, get_or}
use Rattle.std.specs.Prelude.{map}
use Rattle.sp_affine.specs.Affine.{Affine}
use Rattle.sp_bank.specs.Banking.{Banking}
use Rattle.sp_bank.specs.Search.{Serves}
use Rattle.sp_bank.specs.Separation.{AreDifferent}
use Rattle.sp_bank.proofs.different.least_banks.Given as goal

abbrev pub invariant-loop-group : goal.invariant-loop-group
invariant-loop-group l = record {
  some : 1 ≤ l.least;
  few : l.least ≤ 33;
  needed : (t : Banking) → Serves l.fn.rank (map (λ g. g.items) l.groups) t → l.least ≤ t.banks;
  most : (k : ℕ) (d : List Affine) (us : List ℕ) → k < l.group-index → AreDifferent l.fn.rank (get_or (map (λ g. g.items) l.groups) k d) us → l.least < 33 → length us ≤ l.least;
}
