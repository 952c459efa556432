use Rattle.std.proofs.Common.{arith}
use Rattle.sp_listing.specs.Reading.{pieces}
use Rattle.sp_listing.proofs.ReadingLemmas.{stopped_few, taken_few, body_ended}
use Rattle.sp_listing.proofs.reading.read_body.Goals as goal

pub next_line-requires : goal.next_line-requires
next_line-requires c =
    let few = stopped_few c.args.text.now c.args.declared.now c.take_all.new.self c.requires (rw c.in_default.is at c.in_ok-last.ensures.taken) in
    omega (arith, few)

pub broken_end-requires-clause-few : goal.broken_end-requires-clause-few
broken_end-requires-clause-few c =
    let few = taken_few c.args.text.now c.in-Some.last.now c.args.declared.now c.take_all.new.self c.requires (rw c.in-Some.is at c.in_ok-last.ensures.taken) in
    omega (arith, few)

pub returns : goal.returns
returns c =
    body_ended c.args.declared.now (pieces c.args.text.now) c.in-Some.last.now c.take_all.new.self c.in_ok-line.line (rw c.in-Some.is at c.in_ok-last.ensures.taken) c.in_ok-line.ensures
