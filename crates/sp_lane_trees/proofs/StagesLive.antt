-- Which lanes have an iteration: in lanes, and at the values of a lane.
use Rattle.std.proofs.Common.{◌≡◌, ℕ, ◌*◌, ℤ, pos, ◌+ℤ◌, List, [], ◌∷◌, length, refl, ◌∙◌, ap, arith}
use Rattle.std.proofs.Math.IntN.{+ℤ_idr}
use Rattle.std.specs.Prelude.{int_lt}
use Rattle.sp_core.specs.Elements.{index_value}
use Rattle.sp_core.specs.History.{Bounds, last_word}
use Rattle.sp_core.specs.PlainCore.{PlainCounter}
use Rattle.sp_core.specs.Scope.{plainly, loops_of, is_live}
use Rattle.sp_core.specs.Scope as scope
use Rattle.sp_lane_groups.specs.LiveStores.{lane_values}

pub live_in : (counters : List PlainCounter) (bounds : List Bounds) (values : List ℤ) (l : ℕ) → length bounds ≡ length counters → is_live (loops_of plainly counters bounds) (lane_values counters l values) 0 ≡ is_live (loops_of scope.in_lanes counters bounds) values l
live_in [] bounds values l long = refl
live_in (c ∷ counters) [] values l long = refl
live_in (c ∷ []) (b ∷ bounds) [] l long = refl
live_in (c ∷ []) (b ∷ bounds) (v ∷ values) l long =
    ap (λ n. int_lt ((v +ℤ pos (l * c.by)) +ℤ pos n) (index_value (last_word b.until))) (none c.by) ∙ ap (λ x. int_lt x (index_value (last_word b.until))) (+ℤ_idr (v +ℤ pos (l * c.by)))
  where
    none : (n : ℕ) → 0 * n ≡ 0
    none n = omega arith
live_in (c ∷ d ∷ counters) (b ∷ []) values l long = absurd (omega (arith, long))
live_in (c ∷ d ∷ counters) (b ∷ e ∷ bounds) [] l long = refl
live_in (c ∷ d ∷ counters) (b ∷ e ∷ bounds) (v ∷ values) l long = live_in (d ∷ counters) (e ∷ bounds) values l (omega (arith, long))
