use Rattle.std.proofs.Common.{map, string_bytes}
use Rattle.std.proofs.lemmas.Result.{on_ok_weaker}
use Rattle.sp_waves.specs.Signals.{plain_signal}
use Rattle.sp_waves.proofs.DumpLemmas.{begins}
use Rattle.sp_waves.proofs.dump.push_first.Goals as goal

pub returns-clause-shows : goal.returns-clause-shows
returns-clause-shows c =
    let first = rw (c.deref.ensures.value, c.cells.ensures.cells) at c.in_ok-push_header.ensures in
    let watched = rw c.deref-2.ensures.value at c.in_ok-watch.ensures.words in
    on_ok_weaker c.push_first_cycle.result (λ e.
    begins c.args.sim.now.setting c.args.netlist.now (map plain_signal c.args.shown.now.signals.items) (string_bytes c.args.text.now) (string_bytes c.push_header.new.text) (string_bytes c.push_first_cycle.new.text)
    c.watch.new.words.items c.args.shown.now.nets.items c.args.sim.now.cycle c.requires.cells c.requires.empty first (rw (c.deref-3.ensures.value, c.deref-4.ensures.value) at e) c.requires.nets c.requires.first watched)
    c.push_first_cycle.ensures
