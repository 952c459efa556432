use Rattle.std.specs.Global.{Vec}
use Rattle.std.proofs.Common.{◌≡◌, ◌+◌, ℕ, map, string_bytes, refl, sym, ap, ◌∙◌, subst}
use Rattle.sp_netlist.specs.Signals.{Signals}
use Rattle.sp_netlist.specs.Quiet.{IsQuiet}
use Rattle.sp_sim.specs.Progress.{Progress}
use Rattle.sp_waves.specs.Dump.{Shows}
use Rattle.sp_waves.specs.Signals.{plain_signal}
use Rattle.sp_waves.proofs.DumpLemmas.{ends_here, goes_here, shows_next}
use Rattle.sp_waves.proofs.RunLemmas.{went_on}
use Rattle.sp_waves.proofs.dump.push_next.Goals as goal

pub returns-then-is_some-clause-next : goal.returns-then-is_some-clause-next
returns-then-is_some-clause-next c =
    (refl, ends_here c.args.sim.now c.step.new.self c.step.result c.requires.goes_on c.requires.room c.step.ensures.cycle (sym c.is_some.ensures ∙ c.if-is_some.true))

pub returns-clause-next : goal.returns-clause-next
returns-clause-next c =
    let old = c.args.sim.now in
    let went = goes_here old c.step.new.self c.step.result c.requires.goes_on c.requires.room c.step.ensures.cycle (sym c.is_some.ensures ∙ c.if-is_some.false) in
    let nets = c.args.shown.now.nets.items in
    let next = c.watch.new.words.items in
    let watched = subst (λ (p : Progress). (s : Signals) → IsQuiet p.setting s → next ≡ map (s.net p.cycle) nets) went.stands (rw c.deref.ensures.value at c.in_ok-watch.ensures.words) in
    let at = c.cycle.ensures ∙ ap (λ (p : Progress). p.cycle) (c.in_ok-watch.ensures.stays ∙ went.stands) in
    let pushed = rw (c.deref-2.ensures.value, c.deref-3.ensures.value, c.deref-4.ensures.value) at c.in_ok-push_later_cycle.ensures in (
      went_on old.setting old.cycle went.ends,
      subst (λ (ws : Vec ℕ). Shows old.setting (map plain_signal c.args.shown.now.signals.items) (old.cycle + 1) (string_bytes c.push_later_cycle.new.text) ws.items) (sym c.swap.ensures.x_after)
          (shows_next old.setting (map plain_signal c.args.shown.now.signals.items) old.cycle c.cycle.result (string_bytes c.args.text.now) (string_bytes c.push_later_cycle.new.text) c.args.words.now.items next nets
          at c.requires.shows c.requires.nets watched pushed),
    )
