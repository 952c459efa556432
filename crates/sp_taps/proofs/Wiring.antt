-- A choice of one word.
use Rattle.std.proofs.Common.{◌≡◌, ℕ, Bool, true, false, if◌then◌else◌, refl}

pub same_choice : (test : Bool) (a : ℕ) → (if test then a else a) ≡ a
same_choice true a = refl
same_choice false a = refl
