use Rattle.std.proofs.Common.{map, string_bytes, subst}
use Rattle.sp_sim.specs.Progress.{Progress}
use Rattle.sp_waves.specs.Dump.{IsLast, ShowsText}
use Rattle.sp_waves.specs.Signals.{plain_signal}
use Rattle.sp_waves.proofs.DumpLemmas.{finished}
use Rattle.sp_waves.proofs.dump.waves.Goals as goal

pub returns : goal.returns
returns c =
    let shown = c.in_ok-shown.ensures.signals in
    let signals = map plain_signal c.in_ok-shown.shown.signals.items in
    let last = c.in_ok-last.last in
    let same = c.in_ok-push_first.ensures.stays in
    finished c.one_run.ensures c.quiet_run.ensures c.args.sim.now.setting c.args.netlist.now c.args.cycles last shown.0 signals (string_bytes c.push_later.new.text) (string_bytes c.push_time.new.text)
    c.requires.cells c.cells-cells.ensures.netlist shown.1 shown.2 (subst (λ (p : Progress). IsLast p.setting c.args.cycles last) same c.in_ok-last.ensures.last)
    (subst (λ (p : Progress). ShowsText p.setting signals last (string_bytes c.push_later.new.text)) same c.in_ok-last.ensures.shows) (rw c.from.ensures at c.in_ok-push_time.ensures)
