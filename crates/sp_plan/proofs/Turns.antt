-- Times of operations one after the other.
use Rattle.std.proofs.Common.{◌≡◌, ◌≢◌, ℕ, suc, ◌+◌, ◌==◌, ◌&&◌, Bool, true, false, List, [], ◌∷◌, length, refl, ap}
use Rattle.sp_core.specs.Latency.{latency}
use Rattle.sp_core.specs.PlainCore.{PlainCore, PlainOp}
use Rattle.sp_plan.specs.Bodies.{are_in_turn}

and_false : (a b : Bool) → b ≡ false → (a && b) ≡ false
and_false true b h = h
and_false false b h = refl

-- there is one for each
pub one_each : (core : PlainCore) (t : ℕ) (ops : List PlainOp) (times : List ℕ) → length ops ≢ length times → are_in_turn core t ops times ≡ false
one_each core t [] [] h = absurd (h refl)
one_each core t [] (s ∷ times) h = refl
one_each core t (op ∷ ops) [] h = refl
one_each core t (op ∷ ops) (s ∷ times) h = and_false (s == t) _ (one_each core (t + latency core op) ops times (λ e. h (ap suc e)))
