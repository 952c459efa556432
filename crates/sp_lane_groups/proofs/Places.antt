-- A controller at a place of a core is a group in each of its groups of iterations.
use Rattle.std.proofs.Common.{◌≡◌, ℕ, ◌<◌, ◌≤◌, false, List, [], ◌∷◌, length, ◌∙◌, arith, ◌==◌}
use Rattle.std.proofs.lemmas.Bool.{true≢false}
use Rattle.sp_core.specs.Around.{within, lanes_of}
use Rattle.sp_core.specs.PlainCore.{PlainCounter, PlainCore}
use Rattle.sp_lanes.specs.Order.{memory_order}
use Rattle.sp_lanes.specs.Within.{in_lane}
use Rattle.sp_lane_rules.proofs.UnrolledPlaces.{lane_together}
use Rattle.sp_lane_groups.specs.LiveStores.{AreCopies}
use Rattle.sp_lane_groups.proofs.LiveCopies.{copies_stand}
use Rattle.sp_lane_groups.proofs.LiveCounters.{counters_go}
use Rattle.sp_lane_groups.specs.RoomLaws.{PlacesHaveRoom}
use Rattle.sp_lane_groups.specs.Laws.{GroupsStand}
use Rattle.sp_lane_groups.proofs.Scopes.{have_scopes}

some_counter : (counters : List PlainCounter) → (lanes_of counters == 1) ≡ false → 1 ≤ length counters
some_counter [] e = absurd (true≢false e)
some_counter (c ∷ counters) e = omega arith

pub groups_are : (core : PlainCore) → PlacesHaveRoom core → GroupsStand core
groups_are core room is owns around inside w h copies counters owned bound valid apart plain lanes agree bounds values long_bounds long_values count some most live masked =
    let placed : (l : ℕ) → l < lanes_of counters → AreCopies core (within around counters owned) (in_lane (memory_order core) counters owned w l) =
    λ l lt. (copies_stand core).1 around w counters owned l copies (λ m e. bound m l e lt) in
    let scopes = have_scopes plain lanes counters bounds values long_bounds long_values in
    record {
      copies = copies;
      bound = bound;
      valid = valid;
      apart = apart;
      together = λ l lt. lane_together core around inside w h counters owned l lt (λ m e. bound m l e lt);
      rooms = λ l lt. room is owns (within around counters owned) (in_lane (memory_order core) counters owned w l) (placed l lt);
      scopes = λ l lt. counters_go w plain lanes agree (memory_order core) owned counters bounds l values long_bounds long_values;
      others = λ c l ne. scopes.0 c l ne;
      live = λ several l lt. scopes.1 (some_counter counters several) l ∙ live l lt;
      masked = λ several l le lt. scopes.1 (some_counter counters several) l ∙ masked l le lt;
      some = some;
      most = most;
    }
