-- The core of a program is small enough for its lanes.
use Rattle.std.proofs.Common.{◌≡◌, ℕ, zero, suc, ◌*◌, ◌≤◌, Bool, true, false, List, [], ◌∷◌, length, refl, arith, if◌then◌else◌, length-append}
use Rattle.std.proofs.lemmas.List.Sums.{sum_by-cons}
use Rattle.std.specs.Prelude.{sum_by}
use Rattle.sp_tree.specs.Invariant.{IsProgram}
use Rattle.sp_tree.specs.PlainProgram.{PlainProgram}
use Rattle.sp_core.specs.Around.{is_port_kind}
use Rattle.sp_core.specs.Declarations.{mem}
use Rattle.sp_core.specs.Elements.{numbers_below}
use Rattle.sp_core.specs.Invariant.{owned_in}
use Rattle.sp_core.specs.NodeRules.{is_owned_once}
use Rattle.sp_core.specs.PlainCore.{PlainCore}
use Rattle.sp_lane_rules.specs.Copies.{copies_in}
use Rattle.sp_lane_rules.proofs.CopiesOwned.{once_most}
use Rattle.sp_sugar.specs.Core.{core_of}
use Rattle.sp_sugar.proofs.Owners.{one_owner}
use Rattle.sp_sugar.proofs.Small.{core_tree_size, core_mems_count, core_drams_count}
use Rattle.sp_lane_cores.specs.LanedWeights.{memory_weight, IsLight}
use Rattle.sp_lane_cores.proofs.LanedHeavy.{IsWithin, node_heavy, node_copies}
use Rattle.sp_lane_cores.proofs.LanedLanes.{program_within}

module _ (core : PlainCore) (once : is_owned_once core [] (owned_in core.root) ≡ true) (within : IsWithin 1 core.root) where
  copies_most : (m : ℕ) → copies_in core.root m ≤ 16
  copies_most m = omega (arith, node_copies m 1 core.root (omega arith) within, once_most core [] (owned_in core.root) m once)

  memory_most : (m : ℕ) → memory_weight core m ≤ 16
  memory_most m = by (is_port_kind (mem core m).kind)
    where
      by : (b : Bool) → (if b then 1 else copies_in core.root m) ≤ 16
      by true = omega arith
      by false = copies_most m

  memories_most : (xs : List ℕ) → sum_by (memory_weight core) xs ≤ 16 * length xs
  memories_most [] = omega arith
  memories_most (x ∷ xs) = omega (arith, sum_by-cons (memory_weight core) x xs, memory_most x, memories_most xs)

below_length : (n : ℕ) → length (numbers_below n) ≡ n
below_length zero = refl
below_length (suc n) = omega (arith, below_length n, length-append (numbers_below n) (n ∷ []))

pub program_light : (p : PlainProgram) → IsProgram p → IsLight (core_of p)
program_light p h =
    let core : PlainCore = core_of p in
    let within : IsWithin 1 core.root = program_within p h in
    omega (
      arith,
      node_heavy 1 core.root (omega arith) within,
      memories_most core (one_owner p h).0 within (numbers_below (length core.mems)),
      below_length (length core.mems),
      core_tree_size p h,
      core_mems_count p h,
      core_drams_count p h,
      h.limits.nodes,
    )
