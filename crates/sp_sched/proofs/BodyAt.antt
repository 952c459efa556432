-- What is known of an inner body of a core.
use Rattle.std.proofs.Common.{◌≡◌, ℕ, ◌+◌, ◌≤◌, ◌^◌, false, true, List, [], length, Option, Some, ap, subst, arith}
use Rattle.std.specs.List.{All}
use Rattle.sp_bank.specs.Banking.{Banking}
use Rattle.sp_core.specs.declared.access.Meet.{Meet}
use Rattle.sp_core.specs.Around.{nothing, within}
use Rattle.sp_core.specs.Invariant.{IsCore}
use Rattle.sp_core.specs.NodeRules.{is_node_right, are_counters_right}
use Rattle.sp_core.specs.Numbering.{counters_size, number_count}
use Rattle.sp_core.specs.PlainCore.{PlainCounter, PlainOp, PlainNode, inner, PlainCore}
use Rattle.sp_modulo.specs.Times.{IsFitting}
use Rattle.sp_plan.specs.Bodies.{latencies}
use Rattle.sp_plan.specs.Nodes.{Site, site_at}
use Rattle.sp_plan.specs.Orders.{body_orders}
use Rattle.sp_sched.proofs.Earlier.{and_parts, right_site, each-earlier}
use Rattle.sp_sched.proofs.Fits.{orders_fit}
use Rattle.sp_sched.proofs.Sizes.{small, site_within}

pub record IsBody (core : PlainCore) (number : ℕ) (counters : List PlainCounter) (ops : List PlainOp) : Type 0 where
  pub few : number + (counters_size counters + length ops) ≤ 2 ^ 29
  pub fitting : (schemes : List (Option Banking)) (n : ℕ) (meets : List Meet) → All (IsFitting (latencies core ops)) (body_orders core ops schemes n meets)

pub body_at : (core : PlainCore) (k : ℕ) (s : Site) (counters : List PlainCounter) (owned : List ℕ) (ops : List PlainOp) (comb : Option ℕ) →
    IsCore core → site_at k 0 false core.root ≡ Some s → s.node ≡ inner counters owned ops comb → IsBody core s.number counters ops
body_at core k s counters owned ops comb h e is =
    let size = small core h in
    let numbers = site_within (2 ^ 29) k 0 false core.root s (omega (arith, size.1)) e in
    let here = right_site core k 0 false nothing [] core.root s h.nodes e in
    let right : is_node_right core here.around (inner counters owned ops comb) ≡ true = subst (λ (n : PlainNode). is_node_right core here.around n ≡ true) is here.right in
    let ordered = (and_parts (are_counters_right core here.around counters) _ right).1 in
    record {
      few = omega (arith, numbers, ap number_count is);
      fitting = λ schemes n meets. orders_fit core ops schemes n meets (λ j lt. each-earlier core (within here.around counters owned) [] ops ordered j j (omega arith) lt);
    }
