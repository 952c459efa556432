-- Runs of parts come one after the other.
use Rattle.std.proofs.Common.{ℕ, ◌≤◌, List, [], ◌∷◌, ◌++◌, flat_map, arith}
use Rattle.sp_core.specs.PlainCore.{PlainNode, PlainCore}
use Rattle.sp_plan.specs.PlainPlan.{PlainPlan}
use Rattle.sp_machine.specs.Transfers.{Delays}
use Rattle.sp_node_runs.specs.Runs.{Placed, over_at, AreWithin}

module _ (core : PlainCore) (plan : PlainPlan) (delays : Delays) where
  -- runs that end earlier, and that begin later
  pub ends_later : (node : PlainNode) (k n from until later : ℕ) (runs : List Placed) → until ≤ later → AreWithin core plan delays node k n from until runs → AreWithin core plan delays node k n from later runs
  ends_later node k n from until later [] le h = omega (arith, le, h)
  ends_later node k n from until later (r ∷ runs) le h = (h.0, ends_later node k n (over_at core plan delays node k n r) until later runs le h.1)

  pub begins_sooner : (node : PlainNode) (k n sooner from until : ℕ) (runs : List Placed) → sooner ≤ from → AreWithin core plan delays node k n from until runs → AreWithin core plan delays node k n sooner until runs
  begins_sooner node k n sooner from until [] le h = omega (arith, le, h)
  begins_sooner node k n sooner from until (r ∷ runs) le h = (omega (arith, le, h.0), h.1)

  pub both_within : (node : PlainNode) (k n from between until : ℕ) (rs bs : List Placed) → AreWithin core plan delays node k n from between rs → AreWithin core plan delays node k n between until bs → AreWithin core plan delays node k n from until (rs ++ bs)
  both_within node k n from between until [] bs f g = begins_sooner node k n from between until bs f g
  both_within node k n from between until (r ∷ rs) bs f g = (f.0, both_within node k n (over_at core plan delays node k n r) between until rs bs f.1 g)

  -- a list of runs of parts, of each run of the whole those that stand within it
  module _ (whole part : PlainNode) (k n j m : ℕ) (parts : Placed → List Placed) (one : (r : Placed) → AreWithin core plan delays part j m r.cycle (over_at core plan delays whole k n r) (parts r)) where
    pub all_within : (from until : ℕ) (runs : List Placed) → AreWithin core plan delays whole k n from until runs → AreWithin core plan delays part j m from until (flat_map parts runs)
    all_within from until [] h = h
    all_within from until (r ∷ runs) h =
        both_within part j m from (over_at core plan delays whole k n r) until (parts r) (flat_map parts runs) (begins_sooner part j m from r.cycle (over_at core plan delays whole k n r) (parts r) h.0 (one r))
        (all_within (over_at core plan delays whole k n r) until runs h.1)
