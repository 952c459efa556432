use Rattle.std.proofs.Common.{[], ◌++◌, sym, subst, ◌∙◌}
use Rattle.sp_gates.specs.Grows.{Fills}
use Rattle.sp_gates.proofs.Growing.{HasNet-stays}
use Rattle.sp_gates.proofs.Running.{runs_earlier}
use Rattle.sp_core.specs.CoreParts.{plain_core}
use Rattle.sp_plan.specs.Plain.{plain_plan}
use Rattle.sp_op_nets.specs.Acted.{answers_in}
use Rattle.sp_op_nets.specs.Reserved.{Reserves, Rise}
use Rattle.sp_op_nets.specs.Table.{nets_at}
use Rattle.sp_copy_nets.specs.Numbers.{StandNumbers}
use Rattle.sp_access_nets.specs.Laws.{answer_nets}
use Rattle.sp_tree_events.specs.CopiesStanding.{no_numbers}
use Rattle.sp_tree_handed.specs.Lists.{lists_in}
use Rattle.sp_tree_handed.specs.Moves.{HaveEnds, slices_in, AreMovesStanding}
use Rattle.sp_tree_handed.specs.Standing.{AreListsStanding}
use Rattle.sp_tree_handed.proofs.Moving.{moves_later}
use Rattle.sp_tree_nets.specs.Whole.{IsWhole}
use Rattle.sp_tree_copies.specs.Naming.{AreNamed}
use Rattle.sp_load_units.specs.Units.{unit_wires_in, UnitsStand, HaveDone}
use Rattle.sp_lower.specs.StoresParts.{DrivesAndReserves}
use Rattle.sp_lower.specs.StoresRuns.{RunTransfers}
use Rattle.sp_memory_nets.specs.ArrayBanks.{wires_in}
use Rattle.sp_memory_nets.specs.ArrayFits.{MemoriesFit}
use Rattle.sp_memory_nets.specs.ArrayRuns.{RunMemories}
use Rattle.sp_lower.proofs.TreesEmitting.{lists_stay, still_reserved, copies_fit, names_later, units_later, fits, filled, circuit}
use Rattle.sp_lower.proofs.trees_emit.emit_stored_core.Goals as goal

pub emit_core-requires-clause-ends : goal.emit_core-requires-clause-ends
emit_core-requires-clause-ends c = subst (λ ends. HaveEnds c.args.builder.now ends (plain_core c.args.core.now).root 0) (sym c.deref.ensures.value) c.requires.transfers.ends_stand

pub emit_transfers-requires-clause-units : goal.emit_transfers-requires-clause-units
emit_transfers-requires-clause-units c =
    let core = plain_core c.args.core.now in
    let first = c.emit_core.new.builder in
    let mid = c.emit_copies.new.builder in
    let acted = c.in_ok-tree.tree.acted.items in
    subst (UnitsStand mid core) (sym c.deref-4.ensures.value)
    (units_later c.units_are_open.ensures c.units_stay.ensures c.args.builder.now mid core c.args.transfers.now.units.items (answers_in acted) (still_reserved c.args.builder.now first mid (answers_in acted) c.in_ok-tree.ensures.reserves c.in_ok-copies.ensures.fills) c.requires.transfers.units_stand)

pub emit_transfers-requires-clause-rise : goal.emit_transfers-requires-clause-rise
emit_transfers-requires-clause-rise c = (c.requires.transfers.from, subst (λ units. Rise c.requires.transfers.from (unit_wires_in units)) (sym c.deref-4.ensures.value) c.requires.transfers.rise)

pub emit_transfers-requires-clause-slices : goal.emit_transfers-requires-clause-slices
emit_transfers-requires-clause-slices c =
    let first = c.emit_core.new.builder in
    let mid = c.emit_copies.new.builder in
    let slices = slices_in (plain_core c.args.core.now).root 0 in
    subst (AreMovesStanding mid slices) (sym c.deref-5.ensures.value) (moves_later first mid slices c.in_ok-tree.tree.moves.items c.in_ok-copies.ensures.fills.grows c.in_ok-tree.ensures.moves)

pub emit_transfers-requires-clause-names : goal.emit_transfers-requires-clause-names
emit_transfers-requires-clause-names c = subst (StandNumbers c.emit_copies.new.builder) (sym c.deref-6.ensures.value) c.in_ok-copies.ensures.names

pub emit_memories-requires : goal.emit_memories-requires
emit_memories-requires c =
    let core = plain_core c.args.core.now in
    let plan = plain_plan c.args.plan.now in
    let first = c.emit_core.new.builder in
    let mid = c.emit_copies.new.builder in
    let late = c.emit_transfers.new.builder in
    let acted = c.deref-2.result.now in
    let copies = c.deref-3.result.now in
    let owners = c.in_ok-copies.copies.owners in
    let units = c.args.transfers.now.units.items in
    let accesses = c.in_ok-accesses.accesses.items in
    let moving = c.in_ok-moving.moving.items in
    let f0 = c.in_ok-copies.ensures.fills in
    let moved = subst (λ xs. DrivesAndReserves mid late (unit_wires_in xs) (answer_nets moving)) c.deref-4.ensures.value c.in_ok-moving.ensures.drives in
    let open_units = c.units_are_open.ensures c.args.builder.now core units c.requires.transfers.units_stand in
    let r = still_reserved c.args.builder.now first mid (answers_in acted) (subst (λ xs. Reserves c.args.builder.now first (answers_in xs)) (sym c.deref-2.ensures.value) c.in_ok-tree.ensures.reserves) f0 in
    let lists =
    lists_stay mid late core (lists_in core.root 0) acted moved.grows (lists_stay first mid core (lists_in core.root 0) acted f0.grows (subst (AreListsStanding first core (lists_in core.root 0)) (sym c.deref-2.ensures.value) c.in_ok-tree.ensures.lists)) in
    let a = c.in_ok-accesses.ensures in
    let w = c.in_ok-moving.ensures in
    let all = c.deref-7.ensures.value ∙ c.in_ok-append.ensures in
    subst (λ xs. MemoriesFit late core plan xs owners c.args.arguments.now c.args.arrays.now c.args.start) (sym all)
    (fits core plan c.args.builder.now mid late acted copies owners accesses moving c.args.arguments.now c.args.arrays.now c.args.start units c.requires.can r moved open_units (a.answers late lists) (a.stand late lists)
    (a.of_core late lists) (a.queued late lists) c.root-root.ensures.core (c.answers_are_of_reads.ensures core) lists (a.accesses late lists)
    w.stand c.arrays_are_open.ensures c.arrays_stay.ensures c.requires.transfers.apart c.requires.arguments c.requires.arrays c.requires.start
    c.in_ok-copies.ensures.owners (record { renewed = c.in_ok-copies.ensures.renewed; kept = c.in_ok-copies.ensures.kept }) (a.copied late lists (copies_fit late copies (names_later mid late copies moved.grows (subst (StandNumbers mid) (sym c.deref-3.ensures.value) c.in_ok-copies.ensures.names)))))

pub returns-clause-fills : goal.returns-clause-fills
returns-clause-fills c =
    let core = plain_core c.args.core.now in
    let plan = plain_plan c.args.plan.now in
    let first = c.emit_core.new.builder in
    let mid = c.emit_copies.new.builder in
    let late = c.emit_transfers.new.builder in
    let acted = c.deref-2.result.now in
    let copies = c.deref-3.result.now in
    let owners = c.in_ok-copies.copies.owners in
    let units = c.args.transfers.now.units.items in
    let accesses = c.in_ok-accesses.accesses.items in
    let moving = c.in_ok-moving.moving.items in
    let f0 = c.in_ok-copies.ensures.fills in
    let moved = subst (λ xs. DrivesAndReserves mid late (unit_wires_in xs) (answer_nets moving)) c.deref-4.ensures.value c.in_ok-moving.ensures.drives in
    let open_units = c.units_are_open.ensures c.args.builder.now core units c.requires.transfers.units_stand in
    let r = still_reserved c.args.builder.now first mid (answers_in acted) (subst (λ xs. Reserves c.args.builder.now first (answers_in xs)) (sym c.deref-2.ensures.value) c.in_ok-tree.ensures.reserves) f0 in
    let lists =
    lists_stay mid late core (lists_in core.root 0) acted moved.grows (lists_stay first mid core (lists_in core.root 0) acted f0.grows (subst (AreListsStanding first core (lists_in core.root 0)) (sym c.deref-2.ensures.value) c.in_ok-tree.ensures.lists)) in
    let a = c.in_ok-accesses.ensures in
    let w = c.in_ok-moving.ensures in
    let all = c.deref-7.ensures.value ∙ c.in_ok-append.ensures in
    let f = subst (λ xs. Fills late c.emit_memories.new.builder (answer_nets xs ++ wires_in c.args.arrays.now)) all c.in_ok-nets.ensures.fills in
    filled core plan c.args.builder.now mid late acted copies owners accesses moving c.args.arguments.now c.args.arrays.now c.args.start units c.requires.can r moved open_units (a.answers late lists) (a.stand late lists)
    (a.of_core late lists) (a.queued late lists) c.root-root.ensures.core (c.answers_are_of_reads.ensures core) lists (a.accesses late lists)
    c.emit_memories.new.builder f

pub returns-clause-done : goal.returns-clause-done
returns-clause-done c =
    HasNet-stays c.emit_transfers.new.builder c.emit_memories.new.builder c.in_ok-tree.tree.child.done 1 c.in_ok-nets.ensures.fills.grows
    (HasNet-stays c.emit_copies.new.builder c.emit_transfers.new.builder c.in_ok-tree.tree.child.done 1 c.in_ok-moving.ensures.drives.grows
    (HasNet-stays c.emit_core.new.builder c.emit_copies.new.builder c.in_ok-tree.tree.child.done 1 c.in_ok-copies.ensures.fills.grows c.in_ok-tree.ensures.done))

pub returns-clause-circuit : goal.returns-clause-circuit
returns-clause-circuit c =
    let core = plain_core c.args.core.now in
    let plan = plain_plan c.args.plan.now in
    let first = c.emit_core.new.builder in
    let mid = c.emit_copies.new.builder in
    let late = c.emit_transfers.new.builder in
    let acted = c.deref-2.result.now in
    let copies = c.deref-3.result.now in
    let owners = c.in_ok-copies.copies.owners in
    let units = c.args.transfers.now.units.items in
    let accesses = c.in_ok-accesses.accesses.items in
    let moving = c.in_ok-moving.moving.items in
    let f0 = c.in_ok-copies.ensures.fills in
    let moved = subst (λ xs. DrivesAndReserves mid late (unit_wires_in xs) (answer_nets moving)) c.deref-4.ensures.value c.in_ok-moving.ensures.drives in
    let open_units = c.units_are_open.ensures c.args.builder.now core units c.requires.transfers.units_stand in
    let r = still_reserved c.args.builder.now first mid (answers_in acted) (subst (λ xs. Reserves c.args.builder.now first (answers_in xs)) (sym c.deref-2.ensures.value) c.in_ok-tree.ensures.reserves) f0 in
    let lists =
    lists_stay mid late core (lists_in core.root 0) acted moved.grows (lists_stay first mid core (lists_in core.root 0) acted f0.grows (subst (AreListsStanding first core (lists_in core.root 0)) (sym c.deref-2.ensures.value) c.in_ok-tree.ensures.lists)) in
    let a = c.in_ok-accesses.ensures in
    let w = c.in_ok-moving.ensures in
    let all = c.deref-7.ensures.value ∙ c.in_ok-append.ensures in
    let child = c.in_ok-tree.tree.child in
    let ends = c.deref.result.now in
    let slices = c.in_ok-tree.tree.moves.items in
    let f = subst (λ xs. Fills late c.emit_memories.new.builder (answer_nets xs ++ wires_in c.args.arrays.now)) all c.in_ok-nets.ensures.fills in
    let whole = subst (λ xs. IsWhole first core plan ends child xs c.in_ok-tree.tree.owners.turns.items c.in_ok-tree.tree.owners.kept.items slices) (sym c.deref-2.ensures.value) c.in_ok-tree.ensures.whole in
    let ended = subst (λ xs. HaveDone xs units) (sym c.deref.ensures.value) c.requires.transfers.done in
    circuit core plan c.args.builder.now mid late acted copies owners accesses moving c.args.arguments.now c.args.arrays.now c.args.start units c.requires.can r moved open_units (a.answers late lists) (a.stand late lists)
    (a.of_core late lists) (a.queued late lists) c.root-root.ensures.core (c.answers_are_of_reads.ensures core) lists (a.accesses late lists)
    c.emit_memories.new.builder f child c.in_ok-nets.nets.words.items
    (λ s run.
    let behind = runs_earlier mid late s moved.grows run in
    let t = whole s (runs_earlier first mid s f0.grows behind) in
    let g = run.setting in
    let runs =
    subst (λ names. RunTransfers core g s names units slices moving) (c.deref-6.ensures.value ∙ sym c.deref-3.ensures.value)
    (subst (λ xs. RunTransfers core g s c.deref-6.result.now xs slices moving) c.deref-4.ensures.value (subst (λ xs. RunTransfers core g s c.deref-6.result.now c.deref-4.result.now xs moving) c.deref-5.ensures.value (w.runs s run))) in
    record {
      circuit = t.circuit;
      handed = t.handed;
      named = subst (λ names. AreNamed core plan s core.root [] (nets_at []) 0 child t.circuit no_numbers names owners.renewed.items owners.kept.items) (sym c.deref-3.ensures.value) (c.in_ok-copies.ensures.named s behind c.requires.can.arrays.copies (nets_at []) child t.circuit t.owners);
      writes = runs.writes;
      reads = runs.reads;
      are = runs.are;
      has = c.transfers_are_had.ensures core plan g s (nets_at []) child ends copies units slices runs.writes runs.reads c.args.builder.now c.requires.transfers.units_stand ended t.circuit t.moved runs.loads runs.stores;
    })
    (λ s run. subst (λ xs. RunMemories core plan s xs owners c.args.arguments.now c.in_ok-nets.nets.words.items) all (c.in_ok-nets.ensures.runs s run))
