-- Laws of what is done in a lane, as statements.
use Rattle.std.specs.Prelude.{◌≡◌, ◌<◌, ◌+◌, ◌*◌, ℕ, true, List, [], ◌∷◌, ◌++◌, length, Option, slice_index, ℤ}
use Rattle.sp_core.specs.declared.operation.OpKind.{OpKind}
use Rattle.sp_core.specs.Around.{Around, nothing, within, lanes_of, is_usable}
use Rattle.sp_core.specs.Declarations.{is_among}
use Rattle.sp_core.specs.History.{Bounds, Entry, word_at}
use Rattle.sp_core.specs.OperationRules.{are_operations_right}
use Rattle.sp_core.specs.Operations.{access, operations_after, operations}
use Rattle.sp_core.specs.PlainCore.{PlainOp, PlainCounter, PlainCore}
use Rattle.sp_core.specs.Scope.{plainly, loops_of, Scope, in_group}
use Rattle.sp_core.specs.Scope as scope
use Rattle.sp_core.specs.Step.{went}
use Rattle.sp_core.specs.Store.{Store}
use Rattle.sp_fitting.specs.Fitting.{MasksAreBits}
use Rattle.sp_lanes.specs.Bodies.{Body, nowhere, lane_body}
use Rattle.sp_lanes.specs.Order.{memory_order}
use Rattle.sp_lanes.specs.Unrolled.{unrolled}
use Rattle.sp_lanes.specs.Within.{Within, outside, owning, in_lane, ops_in}
use Rattle.sp_lane_rules.specs.Copies.{occurrences}
use Rattle.sp_lane_rules.specs.UnrolledPlaces.{GoTogether}
use Rattle.sp_lane_groups.specs.LiveStores.{AreCopies, HaveRoom, HoldAlike, LeavesOthers, ScopesAgree, lane_values, ArePlain, AreStanding}

-- outside of all controllers, in each lane of one, and inside of an FSM, what may be used stands for a copy of it
abbrev pub CopiesStand : PlainCore → Type 0
CopiesStand core =
    AreCopies core nothing (outside (memory_order core))
    × ((around : Around) (w : Within) (counters : List PlainCounter) (owned : List ℕ) (l : ℕ) → AreCopies core around w
    → ((m : ℕ) → is_among m owned ≡ true → w.copy * lanes_of counters + l < occurrences m (memory_order core))
    → AreCopies core (within around counters owned) (in_lane (memory_order core) counters owned w l))
    × ((around : Around) (w : Within) (state : ℕ) → AreCopies core around w → w.copy < occurrences state (memory_order core)
    → AreCopies core (within around [] (state ∷ [])) (owning (memory_order core) (state ∷ []) w))

-- in a lane of a group counters have the words that they have in the core in the group of that lane
abbrev pub CountersGoAlong : Type 0
CountersGoAlong =
    (w : Within) (plain in_lanes : Scope) → ScopesAgree w plain in_lanes
    → (order owned : List ℕ) (counters : List PlainCounter) (bounds : List Bounds) (l : ℕ) (values : List ℤ) → length bounds ≡ length counters → length values ≡ length counters
    → ScopesAgree (in_lane order counters owned w l) (in_group plain (loops_of plainly counters bounds) (lane_values counters l values)) (in_group in_lanes (loops_of scope.in_lanes counters bounds) values)

-- an access to a memory that may be used does in a lane to the memory's copy what it does in the core to the memory: it gives
-- the same, what they hold stays alike, and no memory of another lane changes
abbrev pub AccessesGoAlong : PlainCore → Type 0
AccessesGoAlong core =
    (around inside : Around) (w : Within) → GoTogether core (unrolled core) around inside w → AreCopies core around w → HaveRoom core around w (unrolled core)
    → (plain in_lanes : Scope) (kind : OpKind) (m : ℕ) (args : List ℕ) (s after t : Store) (e : Entry)
    → is_usable core around m ≡ true → HoldAlike core around w s t → access core plain kind m args s ≡ went e after
    → (ended : Store) × (access (unrolled core) in_lanes kind (w.number m) args t ≡ went e ended) × HoldAlike core around w after ended × LeavesOthers core around w t ended

-- a list of operations does in a lane what it does in the core, each operation the same, where counters have the same words
abbrev pub ListsGoAlong : PlainCore → Type 0
ListsGoAlong core =
    (around inside : Around) (w : Within) → GoTogether core (unrolled core) around inside w → AreCopies core around w → HaveRoom core around w (unrolled core)
    → (plain in_lanes : Scope) → ScopesAgree w plain in_lanes
    → (ops : List PlainOp) (s after t : Store) (es : List Entry)
    → ArePlain ops → are_operations_right core around ops ≡ true → HoldAlike core around w s t → operations core plain ops s ≡ went es after
    → (ended : Store) × (operations (unrolled core) in_lanes (ops_in w ops) t ≡ went es ended) × HoldAlike core around w after ended × LeavesOthers core around w t ended

-- the body of a lane that has an iteration does what the body does in the core: at the place of each operation stands the same
-- word, where reads that stand already do so with the words that they give here
abbrev pub LiveLanesGoAlong : PlainCore → Type 0
LiveLanesGoAlong core =
    (around inside : Around) (in_lane : ℕ → Within) (l : ℕ) → GoTogether core (unrolled core) around inside (in_lane l) → AreCopies core around (in_lane l) → HaveRoom core around (in_lane l) (unrolled core)
    → (plain in_lanes : Scope) → ScopesAgree (in_lane l) plain in_lanes → (counter : ℕ) → (in_lanes counter).live l ≡ true
    → (body : List PlainOp) (others : List (Option ℕ)) (s after t : Store) (es done : List Entry)
    → ArePlain body → are_operations_right core around body ≡ true → HoldAlike core around (in_lane l) s t → operations core plain body s ≡ went es after → MasksAreBits body es
    → AreStanding done es 0 body others
    → let b : Body = lane_body counter in_lane body l (length done) others in
    (new : List Entry) × (ended : Store) × (operations_after (unrolled core) in_lanes done b.ops t ≡ went (done ++ new) ended)
    × HoldAlike core around (in_lane l) after ended × LeavesOthers core around (in_lane l) t ended
    × ((k : ℕ) → k < length es → (slice_index b.places k < length (done ++ new)) × (word_at (done ++ new) (slice_index b.places k) ≡ word_at es k))
    × (length b.places ≡ length es)

-- in lane 0 none stands already
abbrev pub NoneStands : Type 0
NoneStands = (done es : List Entry) (body : List PlainOp) → AreStanding done es 0 body (nowhere body)
