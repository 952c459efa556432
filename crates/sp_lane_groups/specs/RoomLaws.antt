-- Laws of the room of memories in lanes, as statements.
use Rattle.std.specs.Prelude.{◌≡◌, ◌<◌, ℕ, true, []}
use Rattle.sp_core.specs.Around.{Around}
use Rattle.sp_core.specs.Declarations.{room}
use Rattle.sp_core.specs.Invariant.{IsCore, owned_in}
use Rattle.sp_core.specs.NodeRules.{is_owned_once}
use Rattle.sp_core.specs.PlainCore.{PlainCore}
use Rattle.sp_lanes.specs.Order.{memory_order, occurrence}
use Rattle.sp_lanes.specs.Unrolled.{unrolled}
use Rattle.sp_lanes.specs.Within.{Within}
use Rattle.sp_lane_rules.specs.Copies.{occurrences, OwnsInLanes}
use Rattle.sp_lane_groups.specs.LiveStores.{AreCopies, HaveRoom}

-- where memories have one owner at most, and no combination owns one, each copy holds as many words as its memory: it
-- joins stages of a `Stream` block exactly where its memory does
abbrev pub CopiesHaveRoom : PlainCore → Type 0
CopiesHaveRoom core =
    is_owned_once core [] (owned_in core.root) ≡ true → OwnsInLanes core.root
    → (m k : ℕ) → k < occurrences m (memory_order core) → room (unrolled core) (occurrence m k (memory_order core)) ≡ room core m

-- so what may be used at a place of a core holds as many words there
abbrev pub PlacesHaveRoom : PlainCore → Type 0
PlacesHaveRoom core = IsCore core → OwnsInLanes core.root → (around : Around) (w : Within) → AreCopies core around w → HaveRoom core around w (unrolled core)
