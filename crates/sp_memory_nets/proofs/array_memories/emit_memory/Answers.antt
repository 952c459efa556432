use Rattle.std.proofs.Common.{◌≢◌, sym, subst, ◌∙◌}
use Rattle.sp_words.specs.declared.kind.Kind.TheVariants.{Sram, Fifo}
use Rattle.sp_core.specs.CoreParts.{plain_core}
use Rattle.sp_core.specs.Declarations.{kind_of}
use Rattle.sp_plan.specs.Plain.{plain_plan}
use Rattle.sp_memory_nets.specs.FifoFits.{FifoFits}
use Rattle.sp_memory_nets.specs.ArrayRuns.{an_array, a_fifo}
use Rattle.sp_memory_nets.proofs.ArrayFitting.{scalar_fits, fifo_fits}
use Rattle.sp_memory_nets.proofs.ArrayOneWord.{word_fills, word_runs}
use Rattle.sp_memory_nets.proofs.array_memories.emit_memory.Goals as goal

pub returns-in_ok-emit_array-in-Sram-clause-runs :
    goal.returns-in_ok-emit_array-in-Sram-clause-runs
returns-in_ok-emit_array-in-Sram-clause-runs c = λ s run.
    let r = c.in_ok-emit_array-in-Sram.ensures.runs s run in
    an_array (sym c.memory.ensures.kind ∙ c.in-Sram.is) r.0 r.1 r.2

pub emit_fifo-requires : goal.emit_fifo-requires
emit_fifo-requires c =
    let core = plain_core c.args.core.now in
    subst (λ stores. FifoFits c.args.builder.now core (plain_plan c.args.plan.now) c.args.accesses.now c.args.owners.now c.args.array.now.bank stores c.args.start c.args.m) (sym c.deref.ensures.value)
    (fifo_fits _ _ _ _ _ _ _ _ _ _ (sym c.memory.ensures.kind ∙ c.in-Fifo.is) c.requires.fits)

pub returns-in_ok-emit_fifo-in-Fifo-clause-net : goal.returns-in_ok-emit_fifo-in-Fifo-clause-net
returns-in_ok-emit_fifo-in-Fifo-clause-net c = λ array other. absurd (other (sym c.memory.ensures.kind ∙ c.in-Fifo.is))

pub returns-in_ok-emit_fifo-in-Fifo-clause-runs : goal.returns-in_ok-emit_fifo-in-Fifo-clause-runs
returns-in_ok-emit_fifo-in-Fifo-clause-runs c = λ s run. a_fifo (sym c.memory.ensures.kind ∙ c.in-Fifo.is) _ (c.in_ok-emit_fifo-in-Fifo.ensures.runs s run)

pub emit_scalar-requires : goal.emit_scalar-requires
emit_scalar-requires c = record { fits = scalar_fits _ _ _ _ _ _ _ _ _ _ (λ is. c.in_default.not-Sram (c.memory.ensures.kind ∙ is)) (λ is. c.in_default.not-Fifo (c.memory.ensures.kind ∙ is)) c.requires.fits }

pub returns-in_ok-net-in_default : goal.returns-in_ok-net-in_default
returns-in_ok-net-in_default c =
    let e = c.in_ok-net-in_default.ensures in
    let other : kind_of (plain_core c.args.core.now) c.args.m ≢ Sram = λ is. c.in_default.not-Sram (c.memory.ensures.kind ∙ is) in
    let fifo : kind_of (plain_core c.args.core.now) c.args.m ≢ Fifo = λ is. c.in_default.not-Fifo (c.memory.ensures.kind ∙ is) in
    record {
      fills = word_fills _ _ _ _ _ _ _ _ _ other fifo c.requires.fits.banks e.fills;
      net = λ is not_fifo. e.net;
      runs = λ s run. word_runs _ _ s _ _ _ _ _ other fifo (e.runs s run);
    }
