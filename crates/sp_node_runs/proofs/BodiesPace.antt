-- A body in which nothing takes time has no access, and its groups are issued at once.
use Rattle.std.proofs.Common.{◌≡◌, ℕ, zero, suc, ◌+◌, ◌≤◌, true, false, List, [], ◌∷◌, Option, Some, None, if◌then◌else◌, ap, arith}
use Rattle.std.proofs.lemmas.Bool.{eq-eqb, ne_eqb}
use Rattle.sp_words.specs.declared.kind.Kind.{Kind}
use Rattle.sp_words.specs.declared.kind.Kind.TheVariants as kinds
use Rattle.sp_core.specs.declared.operation.OpKind.{OpKind}
use Rattle.sp_core.specs.declared.operation.OpKind.TheVariants as kind
use Rattle.sp_core.specs.Declarations.{mem}
use Rattle.sp_core.specs.Latency.{read_latency, latency_by, read_of, latency, latency_of_all}
use Rattle.sp_core.specs.PlainCore.{PlainOp, PlainCore}
use Rattle.sp_plan.specs.PlainPlan.{PlainNodePlan, inner_plan}
use Rattle.sp_machine.specs.Timeline.{times_of, latency_of, issued_by}
use Rattle.sp_part_runs.specs.ActsEntries.{IsOpAt, touches_memory}

-- an access takes time
kind_some : (k : Kind) → 1 ≤ read_latency k
kind_some kinds.Sram = omega arith
kind_some kinds.LineBuf = omega arith
kind_some k = omega arith

read_some : (core : PlainCore) (m : Option ℕ) → 1 ≤ read_of core m
read_some core None = omega arith
read_some core (Some m) = kind_some (mem core m).kind

touch_some : (k : OpKind) (read : ℕ) → 1 ≤ read → touches_memory k ≡ true → 1 ≤ latency_by k read
touch_some kind.Read read l h = l
touch_some kind.Write read l h = omega arith
touch_some kind.Enq read l h = omega arith
touch_some kind.Deq read l h = omega arith
touch_some kind.Reset read l h = omega arith
touch_some (kind.Word x) read l h = absurd (cc)
touch_some (kind.Count c lane) read l h = absurd (cc)
touch_some (kind.Live c first last) read l h = absurd (cc)
touch_some (kind.One op) read l h = absurd (cc)
touch_some (kind.Two op) read l h = absurd (cc)
touch_some (kind.Shift left by) read l h = absurd (cc)
touch_some kind.Mux read l h = absurd (cc)
touch_some (kind.Cast to) read l h = absurd (cc)

latency_within : (core : PlainCore) (ops : List PlainOp) (i : ℕ) (op : PlainOp) → IsOpAt ops i op → latency core op ≤ latency_of_all core ops
latency_within core [] i op at = absurd (let l = at.within in omega (arith, l))
latency_within core (o ∷ ops) zero op at = let e = ap (latency core) (at.is o) in omega (arith, e)
latency_within core (o ∷ ops) (suc i) op at = let r = latency_within core ops i op (record { within = (let l = at.within in omega (arith, l)); is = at.is }) in omega (arith, r)

pub none_at_once : (core : PlainCore) (ops : List PlainOp) (i : ℕ) (op : PlainOp) → latency_of_all core ops ≡ 0 → IsOpAt ops i op → touches_memory op.kind ≡ true → ⊥
none_at_once core ops i op z at h = let a = latency_within core ops i op at in let b = touch_some op.kind (read_of core op.mem) (read_some core op.mem) h in omega (arith, a, b, z)

-- how a body is paced
pub at_once_plan : (core : PlainCore) (ops : List PlainOp) (p : PlainNodePlan) → latency_of p ≡ 0 → latency_of_all core ops ≡ 0 → issued_by core ops p ≡ inner_plan (times_of p) 0 0 false
at_once_plan core ops p a b = ap (λ c. if c then inner_plan (times_of p) 0 0 false else p) (eq-eqb (latency_of p + latency_of_all core ops) 0 (omega (arith, a, b)))

pub paced_plan : (core : PlainCore) (ops : List PlainOp) (p : PlainNodePlan) → 1 ≤ latency_of p → issued_by core ops p ≡ p
paced_plan core ops p a = ap (λ c. if c then inner_plan (times_of p) 0 0 false else p) (ne_eqb (latency_of p + latency_of_all core ops) 0 (λ e. omega (arith, a, e)))
