-- The runs of a part lie within those of the whole; so what stands around the whole as long as it goes on stands around its parts.
use Rattle.std.proofs.Common.{◌≡◌, ℕ, ◌≤◌, ◌⊎◌, inl, inr, List, [], ◌∷◌, refl, subst, arith}
use Rattle.std.specs.List.{Contains}
use Rattle.sp_core.specs.PlainCore.{PlainNode, PlainCore}
use Rattle.sp_core.specs.Scope.{Scope}
use Rattle.sp_plan.specs.PlainPlan.{PlainPlan}
use Rattle.sp_machine.specs.Transfers.{Delays}
use Rattle.sp_node_runs.specs.Runs.{Placed, AreWithin, over_at}
use Rattle.sp_node_runs.proofs.BodiesListed.{none_there, first_or_later, mapped_from}
use Rattle.sp_tree_runs.specs.BodiesScoped.{Scoped, with_scope}

module _ (core : PlainCore) (plan : PlainPlan) (delays : Delays) (node : PlainNode) (k n : ℕ) where
  goes_on : (from until : ℕ) (runs : List Placed) → AreWithin core plan delays node k n from until runs → from ≤ until
  goes_on from until [] h = h
  goes_on from until (r ∷ runs) h = let a = goes_on (over_at core plan delays node k n r) until runs h.1 in let b = h.0 in omega (arith, a, b)

  pub inside : (from until : ℕ) (runs : List Placed) → AreWithin core plan delays node k n from until runs → (r : Placed) → Contains runs r → (from ≤ r.cycle) × (over_at core plan delays node k n r ≤ until)
  inside from until [] h r c = absurd (none_there r c)
  inside from until (x ∷ runs) h r c = by (first_or_later x r runs c) (inside (over_at core plan delays node k n x) until runs h.1 r)
    where
      by : (x ≡ r) ⊎ Contains runs r → (Contains runs r → (over_at core plan delays node k n x ≤ r.cycle) × (over_at core plan delays node k n r ≤ until)) → (from ≤ r.cycle) × (over_at core plan delays node k n r ≤ until)
      by (inl same) rest = subst (λ (y : Placed). (from ≤ y.cycle) × (over_at core plan delays node k n y ≤ until)) same (h.0, goes_on (over_at core plan delays node k n x) until runs h.1)
      by (inr later) rest = let a = rest later in let b = h.0 in let l = a.0 in (omega (arith, l, b), a.1)

  -- of one run
  pub alone : (r : Placed) → AreWithin core plan delays node k n r.cycle (over_at core plan delays node k n r) (r ∷ [])
  alone r = (omega arith, omega arith)

-- runs with one scope
pub scoped_from : (scope : Scope) (runs : List Placed) (q : Scoped) → Contains (with_scope scope runs) q → (q.scope ≡ scope) × Contains runs q.run
scoped_from scope runs q c =
    let x = mapped_from (λ r. record { run = r; scope = scope }) runs q c in
    subst (λ (y : Scoped). (y.scope ≡ scope) × Contains runs y.run) x.2 (refl, x.1)
