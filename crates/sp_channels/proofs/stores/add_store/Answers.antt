use Rattle.std.proofs.Common.{[], ◌∷◌, ◌++◌, ap, ◌∙◌}
use Rattle.sp_netlist.specs.Cells.{store_unit}
use Rattle.sp_gates.proofs.Growing.{Keeps-same}
use Rattle.sp_channels.proofs.StoreStanding.{can_store, store_promises, store_wires_are, store_unit_is, store_units, store_banks, store_longer}
use Rattle.sp_channels.proofs.stores.add_store.Goals as goal

pub add-requires : goal.add-requires
add-requires c =
    let p = c.in_ok-port.ensures in
    can_store c.args.builder.now c.promise_store.new.builder c.promise_store.new.builder c.requires.draft p.same_cells p.keeps (Keeps-same c.promise_store.new.builder) p.draft c.args.channel c.args.dram c.args.width c.in_ok-port.port p.row p.promised c.requires.channel c.requires.dram c.requires.words

pub returns-clause-promises : goal.returns-clause-promises
returns-clause-promises c =
    let p = c.in_ok-port.ensures in
    let a = c.in_ok-add.ensures in
    store_promises c.args.builder.now c.promise_store.new.builder c.add.new.self c.requires.draft p.same_cells p.keeps a.keeps a.draft c.args.channel c.args.dram c.args.width c.in_ok-port.port p.row p.promised a.added a.same_nets a.drivers

pub returns-clause-longer : goal.returns-clause-longer
returns-clause-longer c =
    let p = c.in_ok-port.ensures in
    let a = c.in_ok-add.ensures in
    store_longer c.args.builder.now c.promise_store.new.builder c.add.new.self c.requires.draft p.same_cells p.keeps a.keeps a.draft c.args.channel c.args.dram c.args.width c.in_ok-port.port p.row p.promised a.added a.same_nets a.drivers

pub returns-clause-wires : goal.returns-clause-wires
returns-clause-wires c =
    let p = c.in_ok-port.ensures in
    let a = c.in_ok-add.ensures in
    store_wires_are c.args.builder.now c.promise_store.new.builder c.add.new.self c.requires.draft p.same_cells p.keeps a.keeps a.draft c.args.channel c.args.dram c.args.width c.in_ok-port.port p.row p.promised a.added a.same_nets a.drivers

pub returns-clause-unit : goal.returns-clause-unit
returns-clause-unit c =
    let p = c.in_ok-port.ensures in
    let a = c.in_ok-add.ensures in
    store_unit_is c.args.builder.now c.promise_store.new.builder c.add.new.self c.requires.draft p.same_cells p.keeps a.keeps a.draft c.args.channel c.args.dram c.args.width c.in_ok-port.port p.row p.promised a.added a.same_nets a.drivers

pub returns-clause-banks : goal.returns-clause-banks
returns-clause-banks c =
    let p = c.in_ok-port.ensures in
    let a = c.in_ok-add.ensures in
    store_banks c.args.builder.now c.promise_store.new.builder c.add.new.self c.requires.draft p.same_cells p.keeps a.keeps a.draft c.args.channel c.args.dram c.args.width c.in_ok-port.port p.row p.promised a.added a.same_nets a.drivers

pub returns-clause-one_more : goal.returns-clause-one_more
returns-clause-one_more c =
    let p = c.in_ok-port.ensures in
    let a = c.in_ok-add.ensures in
    store_units c.args.builder.now c.promise_store.new.builder c.add.new.self c.requires.draft p.same_cells p.keeps a.keeps a.draft c.args.channel c.args.dram c.args.width c.in_ok-port.port p.row p.promised a.added a.same_nets a.drivers c.requires.channel

pub returns-clause-cells : goal.returns-clause-cells
returns-clause-cells c =
    let p = c.in_ok-port.port in
    c.in_ok-add.ensures.added ∙ ap (λ cs. cs ++ store_unit c.args.channel c.args.dram p.ready p.request p.last p.address p.word ∷ []) c.in_ok-port.ensures.same_cells
