use Rattle.std.proofs.Common.{sym, subst, arith}
use Rattle.sp_listing.specs.Reading.{AllStand, pieces}
use Rattle.sp_listing.specs.Lines.{cells_of}
use Rattle.sp_listing.proofs.ReadingLemmas.{stand_push, read_few, read_more, stopped}
use Rattle.sp_listing.proofs.reading.Reading.take_all.Goals as goal

pub take-requires-clause-room : goal.take-requires-clause-room
take-requires-clause-room c =
    let few = read_few c.args.text.now (pieces c.loop-line.left.now) c.loop-line.self c.requires.few c.loop-line.invariant.read in
    omega (arith, few)

pub loop-line-preserved : goal.loop-line-preserved
loop-line-preserved c =
    let taken = rw c.if-not-branch.false at c.in_ok-take.ensures in
    record {
      sound = taken.2.sound;
      read = read_more (pieces c.args.text.now) c.loop-line.left.now c.in-Some.rest.now c.in-Some.line.now c.loop-line.self c.take.new.self taken.0 c.loop-line.invariant.read c.in-Some.ensures.0 taken.1 taken.2.cells;
      stand = λ lines k. subst (λ cs. AllStand lines cs) (sym taken.2.cells) (stand_push lines (cells_of c.loop-line.self) taken.0 (c.loop-line.invariant.stand lines k) (taken.3 lines k));
    }

pub returns-then-not-branch-clause-taken : goal.returns-then-not-branch-clause-taken
returns-then-not-branch-clause-taken c =
    stopped c.args.declared.now (pieces c.args.text.now) c.loop-line.left.now c.in-Some.rest.now c.in-Some.line.now c.loop-line.self c.take.new.self c.loop-line.invariant.read c.in-Some.ensures.0 c.loop-line.invariant.stand
    (rw c.if-not-branch.true at c.in_ok-take.ensures)
