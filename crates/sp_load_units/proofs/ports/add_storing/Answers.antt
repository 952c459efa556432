use Rattle.sp_load_units.proofs.Stores.{store_behind}
use Rattle.sp_load_units.proofs.ports.add_storing.Goals as goal

pub returns-clause-stores : goal.returns-clause-stores
returns-clause-stores c = store_behind c.units_join.ensures c.args.builder.now c.add_store.new.builder c.args.channel c.args.dram c.in_ok-port.port c.in_ok-port.ensures.cells
