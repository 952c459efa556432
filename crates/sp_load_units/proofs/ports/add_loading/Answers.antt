use Rattle.sp_load_units.proofs.Stores.{load_behind}
use Rattle.sp_load_units.proofs.ports.add_loading.Goals as goal

pub returns-clause-stores : goal.returns-clause-stores
returns-clause-stores c = load_behind c.units_join.ensures c.args.builder.now c.add_load.new.builder c.args.channel c.args.dram c.in_ok-port.port c.in_ok-port.ensures.cells
