use Rattle.std.proofs.Common.{arith}
use Rattle.sp_gates.specs.Nets.{HasNet}
use Rattle.sp_gates.proofs.Growing.{Fills-none}
use Rattle.sp_mem.proofs.CopyLemmas.{at_item}
use Rattle.sp_mem.proofs.readers.read_word.Goals as goal

pub returns-in-None-clause-fills : goal.returns-in-None-clause-fills
returns-in-None-clause-fills c = Fills-none _

pub returns-in-None-clause-net : goal.returns-in-None-clause-net
returns-in-None-clause-net c =
    let some = c.requires.some in
    let each = c.requires.each in
    at_item (λ net. HasNet c.args.builder.now net c.args.width) c.args.nets.now 0 c.index-nets-0.result c.requires.nets (omega (arith, some, each)) c.index-nets-0.is
