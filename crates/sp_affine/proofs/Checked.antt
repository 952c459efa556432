-- What a checked operation tells where it gives no value.
use Rattle.std.proofs.Common.{◌≡◌, Bool, true, false, not, ℤ}
use Rattle.std.specs.Prelude.{Option, Some, None}
use Rattle.std.specs.Option.{SomeIff, is_some}

pub refused : (r : Option ℤ) (P : Type 0) (v : ℤ) (none : Bool) → SomeIff r P v → is_some r ≡ not none → none ≡ true → ¬ P
refused None P v none iff is h = iff
refused (Some x) P v none iff is h = absurd (contradiction none is h)
  where
    contradiction : (b : Bool) → true ≡ not b → b ≡ true → ⊥
    contradiction true e h = cc
    contradiction false e h = cc

pub allowed : (r : Option ℤ) (P : Type 0) (v : ℤ) (none : Bool) → SomeIff r P v → is_some r ≡ not none → none ≡ false → P
allowed (Some x) P v none iff is h = iff.0
allowed None P v none iff is h = absurd (contradiction none is h)
  where
    contradiction : (b : Bool) → false ≡ not b → b ≡ false → ⊥
    contradiction true e h = cc
    contradiction false e h = cc
