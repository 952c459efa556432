use Rattle.std.proofs.Common.{[], All, sym, ap, subst}
use Rattle.sp_gates.specs.Grows.{Fills}
use Rattle.sp_gates.proofs.Growing.{Fills-join}
use Rattle.sp_core.specs.PlainCore.{PlainMem}
use Rattle.sp_mem.specs.Fits.{AreApart, words_of}
use Rattle.sp_memory_nets.specs.ScalarRuns.{Follows}
use Rattle.sp_memory_nets.proofs.ScalarAnswering.{words_are, followed}
use Rattle.sp_memory_nets.proofs.ScalarFitting.{reads_fit, reads_kept, reads_apart}
use Rattle.sp_memory_nets.proofs.scalar_scalars.emit_argument.Goals as goal

pub emit_followers-requires-clause-reads : goal.emit_followers-requires-clause-reads
emit_followers-requires-clause-reads c =
    let fits = c.requires.fits.3 in
    rw (c.deref.ensures.value, c.width.ensures.value, ap (λ (m : PlainMem). m.ty) c.memory.ensures.memory)
    (reads_kept _ _ _ _ c.in_ok-one.ensures.fills (reads_fit _ _ _ _ fits.accesses_stand fits.accesses_copied fits.awaiting c.in_ok-reads.reads.items c.in_ok-reads.ensures))

pub emit_followers-requires-clause-apart : goal.emit_followers-requires-clause-apart
emit_followers-requires-clause-apart c =
    subst AreApart (sym c.deref.ensures.value) (reads_apart c.args.m c.args.accesses.now c.requires.fits.3.rise c.in_ok-reads.reads.items c.in_ok-reads.ensures)

pub returns-clause-fills : goal.returns-clause-fills
returns-clause-fills c =
    subst (Fills c.args.builder.now c.emit_followers.new.builder) (words_are c.args.m c.args.accesses.now c.in_ok-reads.reads.items c.in_ok-reads.ensures)
    (subst (λ rs. Fills c.args.builder.now c.emit_followers.new.builder (words_of rs)) c.deref.ensures.value (Fills-join _ _ _ [] (words_of c.deref.result.now) c.in_ok-one.ensures.fills c.in_ok-emit_followers.ensures.fills))

pub returns-clause-runs : goal.returns-clause-runs
returns-clause-runs c = λ s run.
    followed s c.args.m c.args.accesses.now c.args.port c.in_ok-reads.reads.items c.in_ok-reads.ensures (subst (All (Follows s c.args.port)) c.deref.ensures.value (c.in_ok-emit_followers.ensures.runs s run))
