use Rattle.std.proofs.Common.{ℕ, ◌<◌, get_or}
use Rattle.std.specs.Prelude.{IfSome}
use Rattle.std.specs.List.{All}
use Rattle.sp_deps.specs.declared.access.Access.{Access}
use Rattle.sp_deps.specs.Bounds.{HasCounters}
use Rattle.sp_deps.proofs.checks.all_have_counters.Given as goal

abbrev pub invariant-loop-access : goal.invariant-loop-access
invariant-loop-access l = (k : ℕ) (d : Access) → k < l.access-index → IfSome (get_or l.accesses k d).forms (λ v. All (λ f. HasCounters l.common l.own f.coefs) v.items)
