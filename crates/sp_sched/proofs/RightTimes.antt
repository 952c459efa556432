-- The times of least plans are right.
use Rattle.std.proofs.Common.{◌≡◌, ℕ, nat_le, ◌&&◌, Bool, true, false, IsTrue, List, [], ◌∷◌, Option, refl, sym, eq-eqb, le-leb, arith}
use Rattle.std.specs.List.{All, list_all}
use Rattle.std.proofs.lemmas.List.Elements.{All-head, All-tail}
use Rattle.sp_bank.specs.Banking.{Banking}
use Rattle.sp_core.specs.declared.access.Meet.{Meet}
use Rattle.sp_core.specs.PlainCore.{PlainCore, PlainOp}
use Rattle.sp_modulo.specs.declared.order.Order.{Order}
use Rattle.sp_modulo.specs.Times.{IsObeyed}
use Rattle.sp_plan.specs.Bodies.{is_kept, are_in_turn, are_times_right}
use Rattle.sp_plan.specs.Orders.{body_orders}
use Rattle.sp_plan.specs.PlainPlan.{inner_plan}
use Rattle.sp_sched.specs.Least.{IsLeastBody}

both : (a b : Bool) → a ≡ true → b ≡ true → (a && b) ≡ true
both true b e f = f
both false b e f = cc

kept : (ii : ℕ) (times : List ℕ) (orders : List Order) → All (IsObeyed ii times) orders → list_all (is_kept ii times) orders ≡ true
kept ii times [] h = refl
kept ii times (o ∷ orders) h = both (is_kept ii times o) _ (le-leb _ _ (All-head (IsObeyed ii times) o orders h)) (kept ii times orders (All-tail (IsObeyed ii times) o orders h))

pub right : (core : PlainCore) (schemes : List (Option Banking)) (meets : List Meet) (number : ℕ) (streamed : Bool) (ops : List PlainOp) (times : List ℕ) (ii latency : ℕ) (serial : Bool) →
    IsLeastBody core schemes meets number streamed ops (inner_plan times ii latency serial) → IsTrue (are_times_right core schemes meets number streamed ops times ii latency serial)
right core schemes meets number streamed ops times ii latency true h =
    let t = h.1 in
    let over = t.over in
    let interval = t.interval in
    both _ _
    (both (nat_le 1 ii) _ (le-leb 1 ii (omega arith)) (eq-eqb latency _ (sym over)))
    (both (are_in_turn core 0 ops times) _ t.in_turn (le-leb latency ii (omega arith)))
right core schemes meets number true ops times ii latency false h = let e = h.alone in cc
right core schemes meets number false ops times ii latency false h =
    both _ _
    (both (nat_le 1 ii) _ (le-leb 1 ii h.least.some_interval) (eq-eqb latency _ (sym h.over)))
    (kept ii times (body_orders core ops schemes number meets) h.least.in_time.obey.obeyed)
