use Rattle.std.proofs.Common.{◌≡◌, ◌+◌, ◌≤◌, [], All, length, true, refl, sym, ap, subst, ◌∙◌, arith}
use Rattle.std.proofs.lemmas.Bool.{ltb-true}
use Rattle.std.proofs.lemmas.List.{length-map}
use Rattle.std.specs.List.{AllZip}
use Rattle.sp_core.specs.Around.{nothing}
use Rattle.sp_core.specs.CoreParts.{plain_core}
use Rattle.sp_core.specs.Declarations.{is_among}
use Rattle.sp_core.specs.Invariant.{owned_in}
use Rattle.sp_core.specs.Numbering.{node_count}
use Rattle.sp_core.specs.Plain.{plain_mem, plain_node}
use Rattle.sp_plan.specs.Plain.{plain_node_plan, plain_plan}
use Rattle.sp_copy_nets.specs.Numbers.{StandNumbers}
use Rattle.sp_copy_nets.specs.Table.{numbers_at}
use Rattle.sp_tree_handed.specs.Standing.{AreTurnsStanding, TurnsStand}
use Rattle.sp_tree_copies.specs.declared.walk.Walk.{Walk}
use Rattle.sp_tree_copies.specs.Loops.{CopiesStand, HasCopies}
use Rattle.sp_tree_copies.specs.Naming.{NamesCore}
use Rattle.sp_tree_copies.proofs.Ending.{all_stand, names_core, none_stand}
use Rattle.sp_tree_copies.proofs.Owned.{owned_within}
use Rattle.sp_tree_copies.proofs.copies.emit_copies.Goals as goal

pub emit_numbers-requires : goal.emit_numbers-requires
emit_numbers-requires c = subst (All (TurnsStand c.args.builder.now)) (sym c.deref.ensures.value) c.requires.handed.turn

pub walk_node-requires-clause-owned : goal.walk_node-requires-clause-owned
walk_node-requires-clause-owned c m h =
    let core = plain_core c.args.core.now in
    let within = owned_within core nothing [] core.root c.root-root.ensures.core.nodes m (subst (λ n. is_among m (owned_in (plain_node n)) ≡ true) c.root-root.ensures.root h) in
    let many : length core.mems ≡ length c.mems.result.now = ap (λ xs. length xs) (sym c.mems.ensures.mems) ∙ length-map c.mems.result.now plain_mem in
    let long = c.in_ok-around.ensures.long in
    let table = ap (λ xs. length xs) c.deref-2.ensures.value in
    omega (arith, within, many, long, table)

pub walk_node-requires-clause-nodes : goal.walk_node-requires-clause-nodes
walk_node-requires-clause-nodes c =
    let size = ltb-true _ _ c.root-root.ensures.core.size in
    subst (λ n. 0 + node_count (plain_node n) ≤ 1073741824) (sym c.root-root.ensures.root) (omega (arith, size))

pub walk_node-requires-clause-planned : goal.walk_node-requires-clause-planned
walk_node-requires-clause-planned c =
    let e = c.requires.plan.valid.nodes in
    let m = length-map c.args.plan.now.nodes.items plain_node_plan in
    subst (λ n. 0 + node_count (plain_node n) ≤ length c.args.plan.now.nodes.items) (sym c.root-root.ensures.root) (omega (arith, e, m))

pub returns-clause-names : goal.returns-clause-names
returns-clause-names c =
    let core = plain_core c.args.core.now in
    let d = c.emit_numbers.new.builder in
    let first : Walk = record { names = c.new.result; renewed = c.new-2.result; kept = c.new-3.result; loops = 0; states = 0 } in
    let handed = subst (λ ts. AreTurnsStanding c.args.builder.now core ts c.deref-4.result.now) (sym c.deref-3.ensures.value) (subst (AreTurnsStanding c.args.builder.now core c.args.handed.now.turns.items) (sym c.deref-4.ensures.value) c.requires.handed) in
    let all = all_stand c.args.builder.now d core c.deref-3.result.now c.deref-4.result.now c.deref-5.result.now c.in_ok-loops.ensures.fills.grows handed (subst (All (CopiesStand d)) (sym c.deref-5.ensures.value) c.in_ok-loops.ensures.stand) in
    (c.in_ok-walk_node.ensures.stand d all (subst (StandNumbers d) (sym c.deref-2.ensures.value) (c.in_ok-around.ensures.stand d)) (none_stand d core first c.new.ensures.items c.new-2.ensures.items c.new-3.ensures.items)).names

pub returns-clause-owners : goal.returns-clause-owners
returns-clause-owners c =
    let core = plain_core c.args.core.now in
    let d = c.emit_numbers.new.builder in
    let first : Walk = record { names = c.new.result; renewed = c.new-2.result; kept = c.new-3.result; loops = 0; states = 0 } in
    let handed = subst (λ ts. AreTurnsStanding c.args.builder.now core ts c.deref-4.result.now) (sym c.deref-3.ensures.value) (subst (AreTurnsStanding c.args.builder.now core c.args.handed.now.turns.items) (sym c.deref-4.ensures.value) c.requires.handed) in
    let all = all_stand c.args.builder.now d core c.deref-3.result.now c.deref-4.result.now c.deref-5.result.now c.in_ok-loops.ensures.fills.grows handed (subst (All (CopiesStand d)) (sym c.deref-5.ensures.value) c.in_ok-loops.ensures.stand) in
    (c.in_ok-walk_node.ensures.stand d all (subst (StandNumbers d) (sym c.deref-2.ensures.value) (c.in_ok-around.ensures.stand d)) (none_stand d core first c.new.ensures.items c.new-2.ensures.items c.new-3.ensures.items)).owners

pub returns-clause-renewed : goal.returns-clause-renewed
returns-clause-renewed c =
    let core = plain_core c.args.core.now in
    let d = c.emit_numbers.new.builder in
    let first : Walk = record { names = c.new.result; renewed = c.new-2.result; kept = c.new-3.result; loops = 0; states = 0 } in
    let handed = subst (λ ts. AreTurnsStanding c.args.builder.now core ts c.deref-4.result.now) (sym c.deref-3.ensures.value) (subst (AreTurnsStanding c.args.builder.now core c.args.handed.now.turns.items) (sym c.deref-4.ensures.value) c.requires.handed) in
    let all = all_stand c.args.builder.now d core c.deref-3.result.now c.deref-4.result.now c.deref-5.result.now c.in_ok-loops.ensures.fills.grows handed (subst (All (CopiesStand d)) (sym c.deref-5.ensures.value) c.in_ok-loops.ensures.stand) in
    (c.in_ok-walk_node.ensures.stand d all (subst (StandNumbers d) (sym c.deref-2.ensures.value) (c.in_ok-around.ensures.stand d)) (none_stand d core first c.new.ensures.items c.new-2.ensures.items c.new-3.ensures.items)).renewed

pub returns-clause-kept : goal.returns-clause-kept
returns-clause-kept c =
    let core = plain_core c.args.core.now in
    let d = c.emit_numbers.new.builder in
    let first : Walk = record { names = c.new.result; renewed = c.new-2.result; kept = c.new-3.result; loops = 0; states = 0 } in
    let handed = subst (λ ts. AreTurnsStanding c.args.builder.now core ts c.deref-4.result.now) (sym c.deref-3.ensures.value) (subst (AreTurnsStanding c.args.builder.now core c.args.handed.now.turns.items) (sym c.deref-4.ensures.value) c.requires.handed) in
    let all = all_stand c.args.builder.now d core c.deref-3.result.now c.deref-4.result.now c.deref-5.result.now c.in_ok-loops.ensures.fills.grows handed (subst (All (CopiesStand d)) (sym c.deref-5.ensures.value) c.in_ok-loops.ensures.stand) in
    (c.in_ok-walk_node.ensures.stand d all (subst (StandNumbers d) (sym c.deref-2.ensures.value) (c.in_ok-around.ensures.stand d)) (none_stand d core first c.new.ensures.items c.new-2.ensures.items c.new-3.ensures.items)).kept

pub returns-clause-named : goal.returns-clause-named
returns-clause-named c s run =
    let core = plain_core c.args.core.now in
    let plan = plain_plan c.args.plan.now in
    let b = c.walk_node.new.walk in
    let first : Walk = record { names = c.new.result; renewed = c.new-2.result; kept = c.new-3.result; loops = 0; states = 0 } in
    let zips = subst (λ ts. AllZip (HasCopies plan s) ts c.deref-5.result.now) (c.deref.ensures.value ∙ sym c.deref-3.ensures.value) (subst (AllZip (HasCopies plan s) c.deref.result.now) (sym c.deref-5.ensures.value) (c.in_ok-loops.ensures.copies s run)) in
    subst (λ ts. NamesCore core plan s ts c.args.handed.now.kept.items b.names.items b.renewed.items b.kept.items) c.deref-3.ensures.value
    (subst (λ ks. NamesCore core plan s c.deref-3.result.now ks b.names.items b.renewed.items b.kept.items) c.deref-4.ensures.value
    (names_core core plan c.deref-3.result.now c.deref-4.result.now c.deref-5.result.now (plain_node c.root-root.result.now) (numbers_at c.deref-2.result.now) first b (ap plain_node c.root-root.ensures.root) c.new.ensures.items c.new-2.ensures.items c.new-3.ensures.items refl refl
    (λ m. ap (λ ts. numbers_at ts m) c.deref-2.ensures.value ∙ c.in_ok-around.ensures.numbers m) c.root-root.ensures.core c.requires.plan c.in_ok-walk_node.ensures.walks s zips))
