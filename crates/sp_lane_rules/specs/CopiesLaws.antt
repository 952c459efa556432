-- Laws of the memories of a core whose lanes stand one after the other, as statements.
use Rattle.std.specs.Prelude.{◌≡◌, ℕ, ◌+◌, ◌<◌, ◌≤◌, true, ◌&&◌, not, nat_lt, List, [], length}
use Rattle.sp_core.specs.Declarations.{mem}
use Rattle.sp_core.specs.Invariant.{owned_in}
use Rattle.sp_core.specs.NodeRules.{is_owned_once}
use Rattle.sp_core.specs.PlainCore.{PlainCore}
use Rattle.sp_lanes.specs.Order.{is_port, memory_order, occurrence}
use Rattle.sp_lanes.specs.Unrolled.{unrolled}
use Rattle.sp_lane_rules.specs.Copies.{one_if, occurrences, copies_in, OwnsInLanes}

-- a memory has a copy for each lane in which its owner stands, and an argument or output has one
abbrev pub AreCounted : PlainCore → Type 0
AreCounted core =
    (m : ℕ) → occurrences m (memory_order core) ≡ one_if (is_port core m && nat_lt m (length core.mems)) + copies_in core.root m

-- a copy is declared as its memory, and each memory is a copy
abbrev pub AreDeclared : PlainCore → Type 0
AreDeclared core =
    ((m k : ℕ) → k < occurrences m (memory_order core) → (occurrence m k (memory_order core) < length (unrolled core).mems) × (mem (unrolled core) (occurrence m k (memory_order core)) ≡ mem core m))
    × ((i : ℕ) → i < length (unrolled core).mems → (m : ℕ) × (k : ℕ) × (k < occurrences m (memory_order core)) × (occurrence m k (memory_order core) ≡ i))

-- two copies that are one memory are one copy of one memory
abbrev pub AreApart : List ℕ → Type 0
AreApart order =
    (m k n j : ℕ) → k < occurrences m order → j < occurrences n order → occurrence m k order ≡ occurrence n j order → (m ≡ n) × (k ≡ j)

-- where memories have one owner at most, and no combination owns one, each copy has one owner, but for arguments and outputs,
-- and nothing else has one
abbrev pub HaveOwners : PlainCore → Type 0
HaveOwners core =
    is_owned_once core [] (owned_in core.root) ≡ true → OwnsInLanes core.root
    → ((m k : ℕ) → k < occurrences m (memory_order core) → occurrences (occurrence m k (memory_order core)) (owned_in (unrolled core).root) ≡ one_if (not (is_port core m)))
    × ((i : ℕ) → length (memory_order core) ≤ i → occurrences i (owned_in (unrolled core).root) ≡ 0)
