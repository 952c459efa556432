use Rattle.std.proofs.Common.{◌≢◌, ◌<◌, ◌^◌, refl, sym, ◌∙◌, arith}
use Rattle.sp_words.specs.declared.kind.Kind.TheVariants.{Sram, Fifo}
use Rattle.sp_core.specs.CoreParts.{plain_core}
use Rattle.sp_core.specs.Declarations.{kind_of}
use Rattle.sp_plan.specs.Plain.{plain_plan}
use Rattle.sp_taps.proofs.Rows.{no_banks}
use Rattle.sp_memory_nets.proofs.ArrayOneWord.{word_stands, word_cells, word_count, word_promises}
use Rattle.sp_memory_nets.proofs.ArrayQueues.{fifo_stands}
use Rattle.sp_memory_nets.proofs.array_adding.add_array.Goals as goal

pub returns-in_ok-stores-in-Fifo-clause-stands : goal.returns-in_ok-stores-in-Fifo-clause-stands
returns-in_ok-stores-in-Fifo-clause-stands c =
    let e = c.in_ok-stores-in-Fifo.ensures in
    fifo_stands (plain_core c.args.core.now) (plain_plan c.args.plan.now) c.args.m (sym c.memory.ensures.kind ∙ c.in-Fifo.is) c.add_fifo.new.builder c.args.bank c.in_ok-stores-in-Fifo.stores.items e.few e.numbers e.each (_, e.rows) e.wires e.stores

pub returns-in_default : goal.returns-in_default
returns-in_default c =
    let core = plain_core c.args.core.now in
    let plan = plain_plan c.args.plan.now in
    let none = c.new.ensures.items in
    let other : kind_of core c.args.m ≢ Sram = λ is. c.in_default.not-Sram (c.memory.ensures.kind ∙ is) in
    let fifo : kind_of core c.args.m ≢ Fifo = λ is. c.in_default.not-Fifo (c.memory.ensures.kind ∙ is) in
    let fits : c.args.bank < 2 ^ 64 = omega (arith, c.ranges.bank.fits) in
    record {
      promises = word_promises c.args.builder.now c.new.result.items none;
      bank = refl;
      stands = word_stands c.args.builder.now core plan c.args.m c.args.bank other fifo c.new.result.items none fits;
      banks = word_cells c.args.builder.now core plan c.args.m c.args.bank other fifo;
      more = word_count c.args.builder.now core plan c.args.m c.args.bank other fifo c.requires.bank;
      cells = no_banks c.args.builder.now;
    }
