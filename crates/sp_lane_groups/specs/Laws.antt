-- Laws of groups of lanes, as statements.
use Rattle.std.specs.Prelude.{◌≡◌, ◌<◌, ◌≤◌, ◌+◌, ◌*◌, ◌==◌, ℕ, ℤ, Bool, true, false, List, length, None}
use Rattle.sp_core.specs.Around.{Around, within, lanes_of, is_usable}
use Rattle.sp_core.specs.Declarations.{is_among}
use Rattle.sp_core.specs.History.{Bounds, Entry}
use Rattle.sp_core.specs.Invariant.{IsCore}
use Rattle.sp_core.specs.MemoryRules.{are_memories_right}
use Rattle.sp_core.specs.OperationRules.{are_operations_right}
use Rattle.sp_core.specs.Operations.{operations}
use Rattle.sp_core.specs.PlainCore.{PlainOp, PlainCounter, PlainCore}
use Rattle.sp_core.specs.Scope.{plainly, in_lanes, loops_of, is_live, Scope, in_group, count_word}
use Rattle.sp_core.specs.Step.{went, in_order}
use Rattle.sp_core.specs.Store.{Store}
use Rattle.sp_fitting.specs.Fitting.{StoreFits}
use Rattle.sp_lanes.specs.Order.{memory_order}
use Rattle.sp_lanes.specs.Unrolled.{unrolled, last_number, owned_in_lanes, ops_in_lanes, inner_ops}
use Rattle.sp_lanes.specs.Within.{Within, counters_in}
use Rattle.sp_lane_rules.specs.Copies.{occurrences, OwnsInLanes}
use Rattle.sp_lane_rules.specs.UnrolledPlaces.{GoTogether}
use Rattle.sp_lane_groups.specs.LiveStores.{AreCopies, HoldAlike, ScopesAgree, lane_values, ArePlain}
use Rattle.sp_lane_groups.specs.Groups.{iteration, lanes_from, EachMasked, IsGroup, LeavesOutside}
use Rattle.sp_lane_groups.specs.Waiting.{ResetsFirst, waits_in}

-- two stores hold the same but in memories that wait
abbrev pub HoldSameBut : (waits : ℕ → Bool) → Store → Store → Type 0
HoldSameBut waits s t = (m : ℕ) → waits m ≡ false → t m ≡ s m

-- what a memory holds that is reset before it is used makes no difference to a list
abbrev pub ResetsComeFirst : PlainCore → Type 0
ResetsComeFirst core =
    (scope : Scope) (ops : List PlainOp) (waits : ℕ → Bool) (s t after : Store) (es : List Entry) → ResetsFirst waits ops → HoldSameBut waits s t → operations core scope ops s ≡ went es after
    → (ended : Store) × (operations core scope ops t ≡ went es ended) × HoldSameBut waits after ended

-- several lanes of a group, one after the other, do what the core does in the iterations of the group: what may be used at the
-- controller holds the same after it. So it is for a body without a combination whose memories with a reset operation are reset
-- before they are used, in whose iterations masks are bits
abbrev pub GroupsGoAlong : PlainCore → Type 0
GroupsGoAlong core =
    (around inside : Around) (w : Within) (counters : List PlainCounter) (owned : List ℕ) (plain : ℕ → Scope) (lanes : Scope) (count : ℕ) → IsGroup core around inside w counters owned plain lanes count → (lanes_of counters == 1) ≡ false
    → (ops : List PlainOp) (s t after : Store) (groups : List (List Entry)) → ArePlain ops → are_operations_right core (within around counters owned) ops ≡ true → ResetsFirst (waits_in core owned) ops
    → HoldAlike core around w s t → in_order (λ l. iteration core (plain l) owned ops) (lanes_from 0 count) s ≡ went groups after → EachMasked ops groups
    → (es : List Entry) × (ended : Store)
    × (iteration (unrolled core) lanes (owned_in_lanes (memory_order core) counters owned w) (ops_in_lanes (memory_order core) w counters owned ops None) t ≡ went es ended)
    × HoldAlike core around w after ended × LeavesOutside core around w counters owned t ended

-- so does the whole body of a controller, whether it has one lane or several
abbrev pub InnersGoAlong : PlainCore → Type 0
InnersGoAlong core =
    (around inside : Around) (w : Within) (counters : List PlainCounter) (owned : List ℕ) (plain : ℕ → Scope) (lanes : Scope) (count : ℕ) → IsGroup core around inside w counters owned plain lanes count
    → (ops : List PlainOp) (s t after : Store) (groups : List (List Entry)) → ArePlain ops → are_operations_right core (within around counters owned) ops ≡ true → ResetsFirst (waits_in core owned) ops
    → HoldAlike core around w s t → in_order (λ l. iteration core (plain l) owned ops) (lanes_from 0 count) s ≡ went groups after → EachMasked ops groups
    → (es : List Entry) × (ended : Store)
    × (iteration (unrolled core) lanes (owned_in_lanes (memory_order core) counters owned w) (inner_ops (memory_order core) w counters owned ops None) t ≡ went es ended)
    × HoldAlike core around w after ended × LeavesOutside core around w counters owned t ended

-- from a store whose words fit, masks are bits in the iterations of a group, and words fit in the store after them
abbrev pub GroupsAreMasked : PlainCore → Type 0
GroupsAreMasked core =
    (around : Around) (plain : ℕ → Scope) (owned : List ℕ) (ops : List PlainOp) (count : ℕ) (s after : Store) (groups : List (List Entry)) → are_memories_right core ≡ true → are_operations_right core around ops ≡ true
    → StoreFits core s → in_order (λ l. iteration core (plain l) owned ops) (lanes_from 0 count) s ≡ went groups after → EachMasked ops groups × StoreFits core after

-- in a group of lanes, by the values of the counters in its first one, each counter but the last has the same word in each lane's
-- iteration, and the last one tells which lanes have one
abbrev pub GroupsHaveScopes : Type 0
GroupsHaveScopes =
    (plain lanes : Scope) (counters : List PlainCounter) (bounds : List Bounds) (values : List ℤ) → length bounds ≡ length counters → length values ≡ length counters
    → ((c l : ℕ) → (c ≡ last_number counters → ⊥)
    → count_word (in_group plain (loops_of plainly counters bounds) (lane_values counters l values) c) 0 ≡ count_word (in_group plain (loops_of plainly counters bounds) (lane_values counters 0 values) c) 0)
    × (1 ≤ length counters → (l : ℕ) → (in_group lanes (loops_of in_lanes counters bounds) values (last_number counters)).live l ≡ is_live (loops_of in_lanes counters bounds) values l)

-- at a place of a core that goes together with one in lanes a controller is a group in each of its groups of iterations, by the
-- values of its counters in the first one and how many of its lanes have one. Its memories have a copy for each lane, are declared,
-- and aren't used outside
abbrev pub GroupsStand : PlainCore → Type 0
GroupsStand core =
    IsCore core → OwnsInLanes core.root
    → (around inside : Around) (w : Within) → GoTogether core (unrolled core) around inside w → AreCopies core around w → (counters : List PlainCounter) (owned : List ℕ)
    → ((m l : ℕ) → is_among m owned ≡ true → l < lanes_of counters → w.copy * lanes_of counters + l < occurrences m (memory_order core))
    → ((m : ℕ) → is_among m owned ≡ true → is_usable core (within around counters owned) m ≡ true) → ((m : ℕ) → is_usable core around m ≡ true → is_among m owned ≡ false)
    → (plain lanes : Scope) → ScopesAgree w plain lanes → (bounds : List Bounds) (values : List ℤ) → length bounds ≡ length counters → length values ≡ length counters
    → (count : ℕ) → 1 ≤ count → count ≤ lanes_of counters → ((l : ℕ) → l < count → is_live (loops_of in_lanes counters bounds) values l ≡ true)
    → ((l : ℕ) → count ≤ l → l < lanes_of counters → is_live (loops_of in_lanes counters bounds) values l ≡ false)
    → IsGroup core around (within inside (counters_in w counters) (owned_in_lanes (memory_order core) counters owned w)) w counters owned
    (λ l. in_group plain (loops_of plainly counters bounds) (lane_values counters l values)) (in_group lanes (loops_of in_lanes counters bounds) values) count
