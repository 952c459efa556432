use Rattle.std.proofs.Common.{◌++◌, flat_map, sym, subst, ◌∙◌}
use Rattle.sp_gates.specs.Grows.{Fills}
use Rattle.sp_queue_copies.specs.Events.{RunQueues}
use Rattle.sp_taps.specs.Wires.{wires_of}
use Rattle.sp_memory_nets.proofs.ScalarAnswering.{words_are}
use Rattle.sp_memory_nets.proofs.FifoFitting.{queue_fits, banks_fit}
use Rattle.sp_memory_nets.proofs.fifo_fifos.emit_fifo.Goals as goal

pub emit_queue-requires : goal.emit_queue-requires
emit_queue-requires c =
    let part = c.in_ok-part.part in
    let e = c.in_ok-part.ensures in
    record {
      fits = queue_fits _ _ _ _ _ _ _ _ _ c.requires c.picks_accesses_to.ensures part e.start e.depth e.fifo;
      stores = banks_fit _ _ _ _ _ _ _ _ _ c.requires part e.bank e.fifo;
    }

pub returns-clause-fills : goal.returns-clause-fills
returns-clause-fills c =
    let part = c.in_ok-part.part in
    subst (λ ns. Fills c.args.builder.now c.emit_queue.new.builder (flat_map wires_of c.args.stores.now ++ ns)) (words_are c.args.m c.args.accesses.now part.takes.items c.in_ok-part.ensures.fifo.takes) c.in_ok-emit_queue.ensures.fills

pub returns-clause-runs : goal.returns-clause-runs
returns-clause-runs c = λ s run.
    let part = c.in_ok-part.part in
    let e = c.in_ok-part.ensures in
    let ends = c.in_ok-emit_queue.ensures in
    record {
      part = part;
      stores = c.args.stores.now;
      is = e.fifo;
      each = c.requires.each ∙ sym e.fifo.copies;
      runs = subst (λ n. RunQueues s n part.depth c.args.stores.now part.fresh.items part.puts.items part.takes.items) e.bank (ends.copies s run);
      takes = ends.takes s run;
    }
