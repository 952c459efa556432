use Rattle.std.proofs.Common.{[], ◌∷◌, ◌++◌, ap, ◌∙◌}
use Rattle.sp_netlist.specs.Cells.{load_unit}
use Rattle.sp_gates.proofs.Growing.{Keeps-same}
use Rattle.sp_channels.proofs.Standing.{can_load, load_promises, load_wires_are, load_unit_is, load_units, load_banks, load_longer}
use Rattle.sp_channels.proofs.loads.add_load.Goals as goal

pub add-requires : goal.add-requires
add-requires c =
    let p = c.in_ok-port.ensures in
    can_load c.args.builder.now c.promise_load.new.builder c.promise_load.new.builder c.requires.draft p.same_cells p.keeps (Keeps-same c.promise_load.new.builder) p.draft c.args.channel c.args.dram c.args.width c.in_ok-port.port p.row p.promised c.requires.channel c.requires.dram c.requires.words

pub returns-clause-promises : goal.returns-clause-promises
returns-clause-promises c =
    let p = c.in_ok-port.ensures in
    let a = c.in_ok-add.ensures in
    load_promises c.args.builder.now c.promise_load.new.builder c.add.new.self c.requires.draft p.same_cells p.keeps a.keeps a.draft c.args.channel c.args.dram c.args.width c.in_ok-port.port p.row p.promised a.added a.same_nets a.drivers

pub returns-clause-longer : goal.returns-clause-longer
returns-clause-longer c =
    let p = c.in_ok-port.ensures in
    let a = c.in_ok-add.ensures in
    load_longer c.args.builder.now c.promise_load.new.builder c.add.new.self c.requires.draft p.same_cells p.keeps a.keeps a.draft c.args.channel c.args.dram c.args.width c.in_ok-port.port p.row p.promised a.added a.same_nets a.drivers

pub returns-clause-wires : goal.returns-clause-wires
returns-clause-wires c =
    let p = c.in_ok-port.ensures in
    let a = c.in_ok-add.ensures in
    load_wires_are c.args.builder.now c.promise_load.new.builder c.add.new.self c.requires.draft p.same_cells p.keeps a.keeps a.draft c.args.channel c.args.dram c.args.width c.in_ok-port.port p.row p.promised a.added a.same_nets a.drivers

pub returns-clause-unit : goal.returns-clause-unit
returns-clause-unit c =
    let p = c.in_ok-port.ensures in
    let a = c.in_ok-add.ensures in
    load_unit_is c.args.builder.now c.promise_load.new.builder c.add.new.self c.requires.draft p.same_cells p.keeps a.keeps a.draft c.args.channel c.args.dram c.args.width c.in_ok-port.port p.row p.promised a.added a.same_nets a.drivers

pub returns-clause-banks : goal.returns-clause-banks
returns-clause-banks c =
    let p = c.in_ok-port.ensures in
    let a = c.in_ok-add.ensures in
    load_banks c.args.builder.now c.promise_load.new.builder c.add.new.self c.requires.draft p.same_cells p.keeps a.keeps a.draft c.args.channel c.args.dram c.args.width c.in_ok-port.port p.row p.promised a.added a.same_nets a.drivers

pub returns-clause-one_more : goal.returns-clause-one_more
returns-clause-one_more c =
    let p = c.in_ok-port.ensures in
    let a = c.in_ok-add.ensures in
    load_units c.args.builder.now c.promise_load.new.builder c.add.new.self c.requires.draft p.same_cells p.keeps a.keeps a.draft c.args.channel c.args.dram c.args.width c.in_ok-port.port p.row p.promised a.added a.same_nets a.drivers c.requires.channel

pub returns-clause-cells : goal.returns-clause-cells
returns-clause-cells c =
    let p = c.in_ok-port.port in
    c.in_ok-add.ensures.added ∙ ap (λ cs. cs ++ load_unit c.args.channel c.args.dram p.ready p.word p.request p.last p.address ∷ []) c.in_ok-port.ensures.same_cells
