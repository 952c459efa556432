-- A group of iterations of an inner body: one after the other in a core, and one lane after the other in the same core in lanes.
use Rattle.std.specs.Prelude.{◌≡◌, ◌<◌, ◌≤◌, ◌+◌, ◌*◌, ◌==◌, ℕ, zero, suc, true, false, List, [], ◌∷◌}
use Rattle.sp_core.specs.Around.{Around, within, lanes_of, is_usable}
use Rattle.sp_core.specs.Declarations.{is_among}
use Rattle.sp_core.specs.History.{Entry}
use Rattle.sp_core.specs.Operations.{operations}
use Rattle.sp_core.specs.PlainCore.{PlainOp, PlainCounter, PlainCore}
use Rattle.sp_core.specs.Scope.{plainly, Scope, count_word}
use Rattle.sp_core.specs.Sequential.{renew_in_body}
use Rattle.sp_core.specs.Step.{Step, ◌>>◌, in_order}
use Rattle.sp_core.specs.Store.{Store}
use Rattle.sp_fitting.specs.Fitting.{MasksAreBits}
use Rattle.sp_lanes.specs.Order.{memory_order}
use Rattle.sp_lanes.specs.Unrolled.{unrolled, last_number}
use Rattle.sp_lanes.specs.Within.{Within, in_lane}
use Rattle.sp_lane_rules.specs.Copies.{occurrences}
use Rattle.sp_lane_rules.specs.UnrolledPlaces.{GoTogether}
use Rattle.sp_lane_groups.specs.LiveStores.{AreCopies, HaveRoom, ScopesAgree}

-- a group of an inner body: the memories that it owns are renewed, but for those that have a reset operation, and its operations
-- are done
abbrev pub iteration : PlainCore → Scope → (owned : List ℕ) → List PlainOp → Step (List Entry)
iteration core scope owned ops = in_order (renew_in_body core plainly 0) owned >> operations core scope ops

-- so many numbers from one on
abbrev pub lanes_from : (first count : ℕ) → List ℕ
lanes_from l zero = []
lanes_from l (suc more) = l ∷ lanes_from (suc l) more

-- in each iteration masks are bits
abbrev pub EachMasked : List PlainOp → List (List Entry) → Type 0
EachMasked ops [] = Unit {0}
EachMasked ops (es ∷ rest) = MasksAreBits ops es × EachMasked ops rest

-- a controller at a place of a core and in lanes, in a group of which the first lanes, so many, have an iteration. The memories
-- that it owns have a copy for each lane, and none of them is used outside; what may be used inside is at each lane's place
-- what it is in the core; counters have the words of the lane's iteration, and only the last one differs from lane to lane, which
-- tells where there are several lanes which of them have an iteration
pub record IsGroup (core : PlainCore) (around inside : Around) (w : Within) (counters : List PlainCounter) (owned : List ℕ) (plain : ℕ → Scope) (in_lanes : Scope) (count : ℕ) : Type 0 where
  pub copies : AreCopies core around w
  pub bound : (m l : ℕ) → is_among m owned ≡ true → l < lanes_of counters → w.copy * lanes_of counters + l < occurrences m (memory_order core)
  pub valid : (m : ℕ) → is_among m owned ≡ true → is_usable core (within around counters owned) m ≡ true
  pub apart : (m : ℕ) → is_usable core around m ≡ true → is_among m owned ≡ false
  pub together : (l : ℕ) → l < lanes_of counters → GoTogether core (unrolled core) (within around counters owned) inside (in_lane (memory_order core) counters owned w l)
  pub rooms : (l : ℕ) → l < lanes_of counters → HaveRoom core (within around counters owned) (in_lane (memory_order core) counters owned w l) (unrolled core)
  pub scopes : (l : ℕ) → l < lanes_of counters → ScopesAgree (in_lane (memory_order core) counters owned w l) (plain l) in_lanes
  pub others : (c l : ℕ) → (c ≡ last_number counters → ⊥) → count_word (plain l c) 0 ≡ count_word (plain 0 c) 0
  pub live : (lanes_of counters == 1) ≡ false → (l : ℕ) → l < count → (in_lanes (last_number counters)).live l ≡ true
  pub masked : (lanes_of counters == 1) ≡ false → (l : ℕ) → count ≤ l → l < lanes_of counters → (in_lanes (last_number counters)).live l ≡ false
  pub some : 1 ≤ count
  pub most : count ≤ lanes_of counters

-- what stands for nothing that may be used at the controller, and is no copy of what it owns, holds what it did
abbrev pub LeavesOutside : PlainCore → Around → Within → List PlainCounter → (owned : List ℕ) → (before after : Store) → Type 0
LeavesOutside core around w counters owned before after =
    (n : ℕ) → ((m : ℕ) → is_usable core around m ≡ true → w.number m ≡ n → ⊥)
    → ((m l : ℕ) → is_among m owned ≡ true → l < lanes_of counters → (in_lane (memory_order core) counters owned w l).number m ≡ n → ⊥) → after n ≡ before n
