use Rattle.std.proofs.Common.{rules, [], ◌∷◌, map, ap, ◌∙◌, arith}
use Rattle.std.proofs.lemmas.Iterator.Adapters.{YieldsList-from_vec}
use Rattle.std.proofs.lemmas.Iterator.Consumers.{YieldsList-turn}
use Rattle.std.proofs.lemmas.List.{length_push, map-append}
use Rattle.sp_core.specs.CoreParts.{plain_core}
use Rattle.sp_plan.specs.Plain.{plain_mem_plan, plain_node_plan}
use Rattle.sp_plans.proofs.MemLists.{mem_next}
use Rattle.sp_plans.proofs.mems.mem_plans.Goals as goal

pub overflow_add-m : goal.overflow_add-m
overflow_add-m c =
    let turn = YieldsList-turn (YieldsList-from_vec {s = c.into_iter-scheme-iterator.result} c.args.schemes.items (search rules) (search rules))
    c.loop-scheme.yielded c.loop-scheme.scheme-iterator c.loop-scheme.yielded_by c.next.result c.next.new.self c.in-Some.scheme c.in-Some.is c.next.ensures.steps in
    omega (arith, turn.0, c.requires.few, c.loop-scheme.invariant.0)

pub loop-scheme-preserved : goal.loop-scheme-preserved
loop-scheme-preserved c =
    let inv = c.loop-scheme.invariant in (
      omega (arith, length_push c.loop-scheme.yielded c.in-Some.scheme, inv.0),
      ap (map plain_mem_plan) c.in_ok-push.ensures.items
          ∙ map-append plain_mem_plan c.loop-scheme.mems.items (c.mem_plan.result ∷ [])
          ∙ mem_next (plain_core c.args.core.now) (map plain_node_plan c.args.nodes.now) c.loop-scheme.yielded c.in-Some.scheme (map plain_mem_plan c.loop-scheme.mems.items) (plain_mem_plan c.mem_plan.result) c.loop-scheme.m inv.0 inv.1 c.mem_plan.ensures,
    )
