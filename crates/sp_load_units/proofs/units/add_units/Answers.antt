use Rattle.std.proofs.Common.{◌+◌, ◌≤◌, ◌^◌, All, length, refl, sym, ap, subst, arith}
use Rattle.sp_core.specs.CoreParts.{plain_core}
use Rattle.sp_core.specs.Numbering.{number_count}
use Rattle.sp_core.specs.Plain.{plain_node}
use Rattle.sp_tree_handed.specs.Transfers.{transfers_in}
use Rattle.sp_load_units.specs.declared.walk.Walk.{Walk}
use Rattle.sp_load_units.specs.Units.{IsTransferOf}
use Rattle.sp_load_units.proofs.Banks.{as_many_banks, same_banks}
use Rattle.sp_load_units.proofs.Ending.{whole_ends, whole_stands, whole_stores}
use Rattle.sp_load_units.proofs.Transfers.{numbers_small, root_transfers}
use Rattle.sp_load_units.proofs.units.add_units.Goals as goal

pub add_node-requires-clause-transfers : goal.add_node-requires-clause-transfers
add_node-requires-clause-transfers c =
    let core = plain_core c.args.core.now in
    subst (λ v. All (IsTransferOf core) (transfers_in v (length c.new-2.result.items) 0)) (sym (ap plain_node c.root.ensures.root))
    (subst (λ es. All (IsTransferOf core) (transfers_in core.root (length es) 0)) (sym c.new-2.ensures.items) (root_transfers core c.root.ensures.core))

pub add_node-requires-clause-numbers : goal.add_node-requires-clause-numbers
add_node-requires-clause-numbers c =
    let small = numbers_small (plain_core c.args.core.now) c.root.ensures.core in
    subst (λ v. 0 + number_count v ≤ 2 ^ 30) (sym (ap plain_node c.root.ensures.root)) (omega (arith, small))

pub returns-clause-stand : goal.returns-clause-stand
returns-clause-stand c =
    let first : Walk = record { units = c.new.result; ends = c.new-2.result; number = 0 } in
    whole_stands (plain_core c.args.core.now) (plain_node c.root.result.now) c.args.builder.now c.add_node.new.builder first c.add_node.new.walk (ap plain_node c.root.ensures.root) c.new.ensures.items c.new-2.ensures.items refl c.in_ok-add_node.ensures.walked

pub returns-clause-ends : goal.returns-clause-ends
returns-clause-ends c =
    let first : Walk = record { units = c.new.result; ends = c.new-2.result; number = 0 } in
    whole_ends (plain_core c.args.core.now) (plain_node c.root.result.now) c.args.builder.now c.add_node.new.builder first c.add_node.new.walk (ap plain_node c.root.ensures.root) c.new.ensures.items c.new-2.ensures.items refl c.in_ok-add_node.ensures.walked

pub returns-clause-stores : goal.returns-clause-stores
returns-clause-stores c =
    let first : Walk = record { units = c.new.result; ends = c.new-2.result; number = 0 } in
    whole_stores (plain_core c.args.core.now) (plain_node c.root.result.now) c.args.builder.now c.add_node.new.builder first c.add_node.new.walk (ap plain_node c.root.ensures.root) c.new.ensures.items c.new-2.ensures.items refl c.in_ok-add_node.ensures.walked

pub returns-clause-banks : goal.returns-clause-banks
returns-clause-banks c = same_banks c.args.builder.now c.add_node.new.builder c.in_ok-add_node.ensures.walked.adds.cells

pub returns-clause-bank_count : goal.returns-clause-bank_count
returns-clause-bank_count c = as_many_banks c.args.builder.now c.add_node.new.builder c.in_ok-add_node.ensures.walked.adds.cells
