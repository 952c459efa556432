use Rattle.std.proofs.Common.{◌≡◌, ◌+◌, map, take, All}
use Rattle.sp_core.specs.Numbering.{counters_size}
use Rattle.sp_core.specs.Plain.{plain_counter}
use Rattle.sp_counters.specs.Fits.{CountFits}
use Rattle.sp_op_nets.specs.Acted.{answers_in}
use Rattle.sp_op_nets.specs.Reserved.{Reserves}
use Rattle.sp_bound_nets.specs.Bounds.{AreBounds, own_pars, pars_of, bound_lists}
use Rattle.sp_bound_nets.specs.Direct.{AreActedLists}
use Rattle.sp_bound_nets.proofs.bounds.emit_bounds.Given as goal

abbrev pub invariant-loop-index : goal.invariant-loop-index
invariant-loop-index l = record {
  reserves : Reserves l.fn.builder l.builder (answers_in l.bounds.acted.items);
  fits : All (CountFits l.builder) l.bounds.counts.items;
  next : l.next ≡ l.fn.number + counters_size (map plain_counter (take l.index l.counters));
  pars : pars_of l.bounds.counts.items ≡ own_pars (map plain_counter (take l.index l.counters));
  acted : AreActedLists l.builder l.fn.number (bound_lists (map plain_counter (take l.index l.counters))) l.bounds.acted.items;
  bounds : AreBounds l.fn.builder l.builder l.around l.fn.number (map plain_counter (take l.index l.counters)) l.bounds.counts.items l.bounds.acted.items;
}
