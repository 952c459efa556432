use Rattle.std.proofs.Common.{◌<◌, ◌^◌, All, subst, take_all}
use Rattle.sp_netlist.specs.Draft.{net_count}
use Rattle.sp_netlist.specs.Tables.{IsLeastOrNone, wire_pairs}
use Rattle.sp_netlist.proofs.DriverTables.{numbers_more, widths_more, twice_more}
use Rattle.sp_netlist.proofs.nets.driver_widths.Goals as goal

pub loop-wire-preserved : goal.loop-wire-preserved
loop-wire-preserved c = record {
  numbers = numbers_more c.args.driven.now c.loop-wire.wire-index c.wire-item.result c.loop-wire-test.true c.wire-item.is c.loop-wire.invariant.numbers c.in_ok-was.ensures.number;
  widths = widths_more _ _ c.args.driven.now c.loop-wire.wire-index c.wire-item.result c.loop-wire-test.true c.wire-item.is c.loop-wire.invariant.widths c.in_ok-was.ensures.put;
  twice = twice_more _ c.args.driven.now c.loop-wire.wire-index c.wire-item.result c.loop-wire.twice _ _ c.loop-wire-test.true c.wire-item.is c.loop-wire.invariant.widths c.loop-wire.invariant.twice c.in_ok-was.ensures.was c.noted-twice.ensures;
}

pub returns-clause-numbers : goal.returns-clause-numbers
returns-clause-numbers c = subst (λ wires. All (λ p. p.0 < 2 ^ 64) (wire_pairs wires)) (take_all c.loop-wire.wire-index c.args.driven.now c.loop-wire-test.false) c.loop-wire.invariant.numbers

pub returns-clause-twice : goal.returns-clause-twice
returns-clause-twice c =
    subst (λ wires. IsLeastOrNone (λ net. 1 < net_count (wire_pairs wires) net) c.loop-wire.twice) (take_all c.loop-wire.wire-index c.args.driven.now c.loop-wire-test.false) c.loop-wire.invariant.twice
