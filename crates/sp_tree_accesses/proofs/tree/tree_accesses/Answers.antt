use Rattle.std.proofs.Common.{[], refl, sym, slice_index_or, subst}
use Rattle.std.proofs.lemmas.List.Elements.{Contains-get_or}
use Rattle.sp_core.specs.Around.{nothing}
use Rattle.sp_core.specs.CoreParts.{plain_core}
use Rattle.sp_core.specs.Plain.{plain_node}
use Rattle.sp_mem.specs.Fits.{CopyFits}
use Rattle.sp_access_nets.specs.Accesses.{copy_in}
use Rattle.sp_tree_handed.specs.Lists.{lists_in}
use Rattle.sp_tree_accesses.specs.Walks.{AddsLists}
use Rattle.sp_tree_accesses.proofs.Allowed.{of_core, copy_fits}
use Rattle.sp_tree_accesses.proofs.Queued.{all_queued}
use Rattle.sp_tree_accesses.proofs.Rules.{lists_right}
use Rattle.sp_tree_accesses.proofs.Small.{walked}
use Rattle.sp_tree_accesses.proofs.Standing.{all_answers, all_stand}
use Rattle.sp_tree_accesses.proofs.tree.tree_accesses.Goals as goal

pub returns-clause-accesses : goal.returns-clause-accesses
returns-clause-accesses c =
    walked (plain_core c.args.core.now) c.root-root.ensures.core c.args.copies.now c.args.acted.now (record { accesses = c.new.result; at = 0 }) c.add_node.new.walk refl c.new.ensures.items
    (λ n. subst (λ x. AddsLists (lists_in (plain_node x) n) c.args.copies.now c.args.acted.now (record { accesses = c.new.result; at = 0 }) c.add_node.new.walk) c.root-root.ensures.root (c.in_ok-add_node.ensures n))

pub returns-clause-answers : goal.returns-clause-answers
returns-clause-answers c d stand =
    all_answers (plain_core c.args.core.now) (copy_in c.args.copies.now) c.rules_name_memories.ensures d c.reserved_are_answers.ensures (lists_in (plain_node c.args.core.now.root) 0) c.args.acted.now c.add_node.new.walk.accesses.items (returns-clause-accesses c d stand)
    (lists_right (plain_core c.args.core.now) (plain_node c.args.core.now.root) nothing [] 0 c.root-root.ensures.core.nodes) stand

pub returns-clause-stand : goal.returns-clause-stand
returns-clause-stand c d stand early =
    all_stand (plain_core c.args.core.now) (copy_in c.args.copies.now) c.rules_name_memories.ensures d c.each_is_of_operation.ensures (plain_node c.args.core.now.root) c.args.acted.now c.add_node.new.walk.accesses.items (returns-clause-accesses c d stand)
    (lists_right (plain_core c.args.core.now) (plain_node c.args.core.now.root) nothing [] 0 c.root-root.ensures.core.nodes) stand early

pub returns-clause-of_core : goal.returns-clause-of_core
returns-clause-of_core c d stand k o lt =
    of_core (plain_core c.args.core.now) (copy_in c.args.copies.now) c.rules_name_memories.ensures c.each_is_of_operation.ensures c.args.acted.now c.add_node.new.walk.accesses.items
    (record { right = c.root-root.ensures.core; draft = d; stand = stand; all = returns-clause-accesses c d stand }) (slice_index_or c.add_node.new.walk.accesses.items k o) (Contains-get_or c.add_node.new.walk.accesses.items k o lt)

pub returns-clause-copied : goal.returns-clause-copied
returns-clause-copied c d stand wide k o lt =
    subst (CopyFits d) (sym (returns-clause-of_core c d stand k o lt).copied) (copy_fits d c.args.copies.now wide (slice_index_or c.add_node.new.walk.accesses.items k o).number)

pub returns-clause-queued : goal.returns-clause-queued
returns-clause-queued c d stand =
    all_queued (plain_core c.args.core.now) (copy_in c.args.copies.now) c.rules_name_memories.ensures d c.each_is_of_operation.ensures (plain_node c.args.core.now.root) c.args.acted.now c.add_node.new.walk.accesses.items (returns-clause-accesses c d stand)
    (lists_right (plain_core c.args.core.now) (plain_node c.args.core.now.root) nothing [] 0 c.root-root.ensures.core.nodes) stand
