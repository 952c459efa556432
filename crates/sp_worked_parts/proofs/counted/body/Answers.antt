use Rattle.std.proofs.Common.{arith}
use Rattle.sp_worked_parts.proofs.Doubling.{doubled_fit, doubled_nets, net_at}
use Rattle.sp_worked_parts.proofs.counted.body.Goals as goal

pub emit-requires : goal.emit-requires
emit-requires c = record {
  start = c.requires.start;
  groups = (c.requires.more, c.requires.step);
  ops = doubled_fit c.args.value c.in_ok-ops.ops.items c.args.builder.now c.in_ok-ops.ensures c.requires.value;
  interval = omega arith;
}

pub index-enable-requires : goal.index-enable-requires
index-enable-requires c = let long = (doubled_nets c.emit.new.builder c.in_ok-ends.ensures.emitted.issue c.args.value c.in_ok-ops.ops.items c.in_ok-ops.ops.items c.in_ok-ends.ends.nets.items c.in_ok-ops.ensures c.in_ok-ends.ensures.emitted.acts).long in omega (arith, long)

pub index-element-requires : goal.index-element-requires
index-element-requires c = let long = (doubled_nets c.emit.new.builder c.in_ok-ends.ensures.emitted.issue c.args.value c.in_ok-ops.ops.items c.in_ok-ops.ops.items c.in_ok-ends.ends.nets.items c.in_ok-ops.ensures c.in_ok-ends.ensures.emitted.acts).long in omega (arith, long)

pub index-word-requires : goal.index-word-requires
index-word-requires c = let long = (doubled_nets c.emit.new.builder c.in_ok-ends.ensures.emitted.issue c.args.value c.in_ok-ops.ops.items c.in_ok-ops.ops.items c.in_ok-ends.ends.nets.items c.in_ok-ops.ensures c.in_ok-ends.ensures.emitted.acts).long in omega (arith, long)

pub returns-clause-fits : goal.returns-clause-fits
returns-clause-fits c =
    let three = doubled_nets c.emit.new.builder c.in_ok-ends.ensures.emitted.issue c.args.value c.in_ok-ops.ops.items c.in_ok-ops.ops.items c.in_ok-ends.ends.nets.items c.in_ok-ops.ensures c.in_ok-ends.ensures.emitted.acts in
    let long = three.long in
    record {
      enable_net = net_at c.emit.new.builder 1 c.in_ok-ends.ends.nets.items 0 c.index-enable.result.now (omega (arith, long)) c.index-enable.ensures three.enable;
      element_net = net_at c.emit.new.builder 32 c.in_ok-ends.ends.nets.items 1 c.index-element.result.now (omega (arith, long)) c.index-element.ensures three.index;
      word_net = net_at c.emit.new.builder 32 c.in_ok-ends.ends.nets.items 2 c.index-word.result.now (omega (arith, long)) c.index-word.ensures three.word;
      done_net = c.in_ok-ends.ensures.emitted.done_net;
    }
