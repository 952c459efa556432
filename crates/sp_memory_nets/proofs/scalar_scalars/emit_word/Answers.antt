use Rattle.std.proofs.Common.{◌<◌, ◌≤◌, sym, subst, ◌∙◌}
use Rattle.sp_words.specs.Types.{width_of}
use Rattle.sp_gates.specs.Grows.{Fills}
use Rattle.sp_gates.specs.Nets.{HasNet}
use Rattle.sp_memory_nets.proofs.ScalarAnswering.{words_are}
use Rattle.sp_memory_nets.proofs.ScalarFirst.{at_first}
use Rattle.sp_memory_nets.proofs.ScalarFitting.{register_fits}
use Rattle.sp_memory_nets.proofs.scalar_scalars.emit_word.Goals as goal

pub emit_register-requires : goal.emit_register-requires
emit_register-requires c =
    let e = c.in_ok-part.ensures in
    register_fits c.picks_accesses_to.ensures _ _ _ _ _ _ _ _ c.requires.fits.1 c.in_ok-part.part e.core e.start e.part

pub returns-clause-fills : goal.returns-clause-fills
returns-clause-fills c = subst (Fills _ _) (words_are c.args.m c.args.accesses.now c.in_ok-part.part.reads.items c.in_ok-part.ensures.part.reads) c.in_ok-ends.ensures.fills

pub returns-clause-net : goal.returns-clause-net
returns-clause-net c =
    let some = subst (λ n. 0 < n) (sym (c.in_ok-ends.ensures.each ∙ c.in_ok-part.ensures.part.copies)) c.requires.fits.1.copies in
    subst (λ ty. HasNet c.emit_register.new.builder c.index.result.now (width_of ty)) c.in_ok-part.ensures.part.ty
    (subst (λ net. HasNet c.emit_register.new.builder net (width_of c.in_ok-part.part.ty)) (sym c.index.ensures) (c.in_ok-ends.ensures.nets 0 c.index.result.now some))

pub returns-clause-runs : goal.returns-clause-runs
returns-clause-runs c = λ s run.
    let copies = c.in_ok-part.ensures.part.copies in
    let some = subst (λ n. 0 < n) (sym (c.in_ok-ends.ensures.each ∙ copies)) c.requires.fits.1.copies in
    record {
      part = c.in_ok-part.part;
      nets = c.in_ok-ends.ends.nets.items;
      is = c.in_ok-part.ensures.part;
      some = subst (λ n. 1 ≤ n) (sym copies) c.requires.fits.1.copies;
      first = at_first c.in_ok-ends.ends.nets.items c.index.result.now some c.index.ensures;
      runs = c.in_ok-ends.ensures.runs s run;
    }
