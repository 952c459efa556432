-- In the iterations of a group words fit, and masks are bits.
use Rattle.std.proofs.Common.{◌≡◌, ℕ, zero, suc, Bool, true, false, List, subst}
use Rattle.sp_core.specs.Around.{Around}
use Rattle.sp_core.specs.Declarations.{mem, fresh}
use Rattle.sp_core.specs.History.{Entry}
use Rattle.sp_core.specs.MemoryRules.{are_memories_right}
use Rattle.sp_core.specs.OperationRules.{are_operations_right}
use Rattle.sp_core.specs.Operations.{operations}
use Rattle.sp_core.specs.PlainCore.{PlainOp, PlainCore}
use Rattle.sp_core.specs.Scope.{plainly, Scope}
use Rattle.sp_core.specs.Sequential.{has_reset, renew_in_body}
use Rattle.sp_core.specs.Step.{Step, went, pure, in_order}
use Rattle.sp_core.specs.Store.{Store}
use Rattle.sp_fitting.specs.Fitting.{StoreFits}
use Rattle.sp_fitting.specs.Laws.{ListsFit}
use Rattle.sp_fitting.proofs.Contents.{fresh_fits}
use Rattle.sp_fitting.proofs.Keeping.{Keeps, Anything, pure_keeps, each_keeps, hold_keeps}
use Rattle.sp_core.specs.Accesses.{hold_now}
use Rattle.sp_lane_groups.specs.Groups.{iteration, lanes_from, EachMasked}
use Rattle.sp_lane_groups.specs.Laws.{GroupsAreMasked}
use Rattle.sp_lane_groups.proofs.Renewed.{bind_split, order_split, order_none}

module _ (core : PlainCore) (lists : ListsFit core) (memories : are_memories_right core ≡ true) where
  renewing_keeps : (m : ℕ) → Keeps core Anything (renew_in_body core plainly 0 m)
  renewing_keeps m = go (has_reset (mem core m).kind (mem core m).start)
    where
      go : (b : Bool) → Keeps core Anything (elim b as (λ _. Step (Unit {0})) [ true ↦ pure tt | false ↦ hold_now m (fresh core m) ])
      go true = pure_keeps core Anything tt tt
      go false = hold_keeps core m (fresh core m) (fresh_fits core m memories)

  module _ (around : Around) (plain : ℕ → Scope) (owned : List ℕ) (ops : List PlainOp) (right : are_operations_right core around ops ≡ true) where
    pub all_masked : (count l : ℕ) (s after : Store) (groups : List (List Entry)) → StoreFits core s → in_order (λ l. iteration core (plain l) owned ops) (lanes_from l count) s ≡ went groups after → EachMasked ops groups × StoreFits core after
    all_masked zero l s after groups fits ran =
        let r = order_none (λ l. iteration core (plain l) owned ops) s after groups ran in
        (subst (EachMasked ops) r.1 tt, subst (StoreFits core) r.0 fits)
    all_masked (suc count) l s after groups fits ran =
        let r = order_split (λ l. iteration core (plain l) owned ops) l (lanes_from (suc l) count) s after groups ran in
        let b = bind_split (in_order (renew_in_body core plainly 0) owned) (λ _. operations core (plain l) ops) s r.1 r.0 r.3 in
        let renewed = each_keeps core (renew_in_body core plainly 0) Anything renewing_keeps owned s b.1 b.0 fits b.2 in
        let here = lists around (plain l) ops b.1 r.1 r.0 memories right renewed.0 b.3 in
        let rest = all_masked count (suc l) r.1 after r.2 here.left r.4 in
        (subst (EachMasked ops) r.5 (here.masks, rest.0), rest.1)

pub groups_masked : (core : PlainCore) → ListsFit core → GroupsAreMasked core
groups_masked core lists around plain owned ops count s after groups memories right fits ran = all_masked core lists memories around plain owned ops right count 0 s after groups fits ran
