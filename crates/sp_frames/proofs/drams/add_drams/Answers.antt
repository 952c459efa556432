use Rattle.std.proofs.Common.{◌+◌, map, refl, ap}
use Rattle.sp_words.specs.Ports.{plain_port}
use Rattle.sp_frames.proofs.Adding.{no_dram_yet, next_dram, one_more_dram, all_drams}
use Rattle.sp_frames.proofs.drams.add_drams.Goals as goal

pub loop-port-init : goal.loop-port-init
loop-port-init c = (refl, no_dram_yet c.args.builder.now (map plain_port c.args.drams.now) c.requires.no_dram c.requires.named c.requires.sizes)

pub add_dram-requires-clause-name : goal.add_dram-requires-clause-name
add_dram-requires-clause-name c =
    (next_dram c.args.builder.now c.loop-port.builder c.args.drams.now (map plain_port c.args.drams.now) c.loop-port.port-index c.port-item.result c.loop-port.dram c.loop-port-test.true c.port-item.is c.loop-port.invariant.1).named.0

pub add_dram-requires-clause-new_name : goal.add_dram-requires-clause-new_name
add_dram-requires-clause-new_name c =
    (next_dram c.args.builder.now c.loop-port.builder c.args.drams.now (map plain_port c.args.drams.now) c.loop-port.port-index c.port-item.result c.loop-port.dram c.loop-port-test.true c.port-item.is c.loop-port.invariant.1).named.1

pub add_dram-requires-clause-sizes : goal.add_dram-requires-clause-sizes
add_dram-requires-clause-sizes c =
    (next_dram c.args.builder.now c.loop-port.builder c.args.drams.now (map plain_port c.args.drams.now) c.loop-port.port-index c.port-item.result c.loop-port.dram c.loop-port-test.true c.port-item.is c.loop-port.invariant.1).sizes.0

pub loop-port-preserved : goal.loop-port-preserved
loop-port-preserved c = (
  ap (λ n. n + 1) c.loop-port.invariant.0,
  one_more_dram c.args.builder.now c.loop-port.builder c.add_dram.new.builder c.args.drams.now (map plain_port c.args.drams.now) c.loop-port.port-index c.port-item.result c.loop-port.dram (c.loop-port.dram + 1) c.loop-port-test.true c.port-item.is refl
      c.loop-port.invariant.1 c.in_ok-add_dram.ensures.cells c.in_ok-add_dram.ensures.builds,
)

pub returns-clause-cells : goal.returns-clause-cells
returns-clause-cells c = all_drams c.args.builder.now c.loop-port.builder c.args.drams.now (map plain_port c.args.drams.now) c.loop-port.port-index c.loop-port.dram c.loop-port-test.false c.loop-port.invariant.1

pub returns-clause-builds : goal.returns-clause-builds
returns-clause-builds c = c.loop-port.invariant.1.builds
