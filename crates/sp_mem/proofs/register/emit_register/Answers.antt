use Rattle.std.proofs.Common.{[], List, All, subst}
use Rattle.sp_words.specs.Types.{width_of}
use Rattle.sp_gates.specs.Grows.{Fills}
use Rattle.sp_gates.proofs.Growing.{Fills-join, IsOne-stays}
use Rattle.sp_gates.proofs.Running.{runs_earlier}
use Rattle.sp_mem.specs.declared.part.Touch.{Touch}
use Rattle.sp_mem.specs.Fits.{words_of}
use Rattle.sp_mem.specs.Runs.{RunsReader}
use Rattle.sp_mem.proofs.Kept.{register_kept, nets_kept}
use Rattle.sp_mem.proofs.register.emit_register.Goals as goal

pub emit_copies-requires-clause-fits : goal.emit_copies-requires-clause-fits
emit_copies-requires-clause-fits c = register_kept _ _ _ c.in_ok-one.ensures.fills c.requires

pub emit_readers-requires-clause-reads : goal.emit_readers-requires-clause-reads
emit_readers-requires-clause-reads c =
    rw (c.deref.ensures.value, c.width.ensures.value) (register_kept _ _ _ c.in_ok-nets.ensures.fills (register_kept _ _ _ c.in_ok-one.ensures.fills c.requires)).reads

pub emit_readers-requires-clause-nets : goal.emit_readers-requires-clause-nets
emit_readers-requires-clause-nets c = rw (c.deref-2.ensures.value, c.width.ensures.value) c.in_ok-nets.ensures.nets

pub emit_readers-requires-clause-one : goal.emit_readers-requires-clause-one
emit_readers-requires-clause-one c = IsOne-stays _ _ _ c.in_ok-nets.ensures.fills.grows c.in_ok-one.ensures.one

pub returns-clause-fills : goal.returns-clause-fills
returns-clause-fills c =
    subst (λ rs. Fills c.args.builder.now c.emit_readers.new.builder (words_of rs)) c.deref.ensures.value
    (Fills-join _ _ _ [] (words_of c.deref.result.now) c.in_ok-one.ensures.fills (Fills-join _ _ _ [] (words_of c.deref.result.now) c.in_ok-nets.ensures.fills c.in_ok-emit_readers.ensures.fills))

pub returns-clause-nets : goal.returns-clause-nets
returns-clause-nets c = nets_kept _ _ c.in_ok-emit_readers.ensures.fills.grows (width_of c.args.part.now.ty) c.in_ok-nets.nets.items c.in_ok-nets.ensures.nets

pub returns-clause-runs : goal.returns-clause-runs
returns-clause-runs c = λ s run. record {
  copies = c.in_ok-nets.ensures.runs s (runs_earlier _ _ s c.in_ok-emit_readers.ensures.fills.grows run);
  reads = subst (λ (rs : List Touch). All (RunsReader s c.args.part.now.copies c.in_ok-nets.nets.items) rs) c.deref.ensures.value
      (subst (λ ns. All (RunsReader s c.args.part.now.copies ns) c.deref.result.now) c.deref-2.ensures.value (c.in_ok-emit_readers.ensures.runs s run));
}
