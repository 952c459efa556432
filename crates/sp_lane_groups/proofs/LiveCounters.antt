-- Counters have the same words in a lane of a group and in the group of its iteration.
use Rattle.std.proofs.Common.{◌≡◌, ℕ, ◌*◌, Bool, true, false, ℤ, pos, ◌+ℤ◌, List, [], ◌∷◌, length, refl, sym, ◌∙◌, ap, arith, ◌==◌}
use Rattle.std.proofs.Math.IntN.{+ℤ_idr}
use Rattle.sp_words.specs.Types.{int_type}
use Rattle.sp_words.specs.Words.{wrap}
use Rattle.sp_core.specs.History.{Bounds}
use Rattle.sp_core.specs.PlainCore.{PlainCounter}
use Rattle.sp_core.specs.Scope.{plainly, loops_of, InGroup, Scope, with_counters, is_live, count_word}
use Rattle.sp_core.specs.Scope as scope
use Rattle.sp_core.specs.Store.{changed}
use Rattle.sp_lanes.specs.Within.{with_lane}
use Rattle.sp_lane_groups.specs.LiveLaws.{CountersGoAlong}
use Rattle.sp_lane_groups.specs.LiveStores.{lane_values}

-- by the lane of each counter
abbrev Agree : (lane : ℕ → ℕ) → (plain in_lanes : Scope) → Type 0
Agree lane plain in_lanes = (c : ℕ) → count_word (in_lanes c) (lane c) ≡ count_word (plain c) 0

one_more : (lane : ℕ → ℕ) (plain in_lanes : Scope) → Agree lane plain in_lanes → (n l : ℕ) (x y : InGroup) → count_word y l ≡ count_word x 0 → Agree (changed lane n l) (changed plain n x) (changed in_lanes n y)
one_more lane plain in_lanes h n l x y e c = by (c == n)
  where
    by : (b : Bool) → count_word (elim b as (λ _. InGroup) [ true ↦ y | false ↦ in_lanes c ]) (elim b as (λ _. ℕ) [ true ↦ l | false ↦ lane c ]) ≡ count_word (elim b as (λ _. InGroup) [ true ↦ x | false ↦ plain c ]) 0
    by true = e
    by false = h c

all_more : (counters : List PlainCounter) (bounds : List Bounds) (l : ℕ) (values : List ℤ) (one two : ℕ → Bool) (lane : ℕ → ℕ) (plain in_lanes : Scope) → length bounds ≡ length counters → length values ≡ length counters → Agree lane plain in_lanes
    → Agree (with_lane counters l lane) (with_counters plain (loops_of plainly counters bounds) (lane_values counters l values) one) (with_counters in_lanes (loops_of scope.in_lanes counters bounds) values two)
all_more [] bounds l values one two lane plain in_lanes e f h = h
all_more (c ∷ counters) [] l values one two lane plain in_lanes e f h = absurd (omega (arith, e))
all_more (c ∷ counters) (b ∷ bounds) l [] one two lane plain in_lanes e f h = absurd (omega (arith, f))
all_more (c ∷ []) (b ∷ b2 ∷ bounds) l (v ∷ values) one two lane plain in_lanes e f h = absurd (omega (arith, e))
all_more (c ∷ []) (b ∷ []) l (v ∷ v2 ∷ values) one two lane plain in_lanes e f h = absurd (omega (arith, f))
all_more (c ∷ []) (b ∷ []) l (v ∷ []) one two lane plain in_lanes e f h =
    one_more lane plain in_lanes h c.number l (record { value = v +ℤ pos (l * c.by); lane_step = c.by; live = one }) (record { value = v; lane_step = c.by; live = two })
    (ap (wrap int_type) (sym (+ℤ_idr (v +ℤ pos (l * c.by))) ∙ ap (λ n. (v +ℤ pos (l * c.by)) +ℤ pos n) {x = 0} {y = 0 * c.by} (omega arith)))
all_more (c ∷ d ∷ counters) (b ∷ []) l (v ∷ values) one two lane plain in_lanes e f h = absurd (omega (arith, e))
all_more (c ∷ d ∷ counters) (b ∷ b2 ∷ bounds) l (v ∷ []) one two lane plain in_lanes e f h = absurd (omega (arith, f))
all_more (c ∷ d ∷ counters) (b ∷ b2 ∷ bounds) l (v ∷ v2 ∷ values) one two lane plain in_lanes e f h =
    all_more (d ∷ counters) (b2 ∷ bounds) l (v2 ∷ values) one two (changed lane c.number 0) (changed plain c.number (record { value = v; lane_step = 0; live = one })) (changed in_lanes c.number (record { value = v; lane_step = 0; live = two }))
    (omega (arith, e)) (omega (arith, f)) (one_more lane plain in_lanes h c.number 0 (record { value = v; lane_step = 0; live = one }) (record { value = v; lane_step = 0; live = two }) refl)

pub counters_go : CountersGoAlong
counters_go w plain in_lanes agree order owned counters bounds l values e f =
    all_more counters bounds l values (is_live (loops_of plainly counters bounds) (lane_values counters l values)) (is_live (loops_of scope.in_lanes counters bounds) values) w.lane plain in_lanes e f agree
