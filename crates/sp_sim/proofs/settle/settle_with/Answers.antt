use Rattle.std.proofs.Common.{slice_index_or}
use Rattle.sp_sim.specs.declared.run.Places.{Places}
use Rattle.sp_sim.proofs.Placed.{stands_there, fit_there, computed_there}
use Rattle.sp_sim.proofs.settle.settle_with.Goals as goal

abbrev none : Places
none = record { net = 0; first = 0; second = 0; third = 0 }

pub compute-word-requires : goal.compute-word-requires
compute-word-requires g c =
    let at = slice_index_or c.args.places.now c.loop-at.at-index none in
    let l = c.loop-at-test.true in
    c.requires.callable c.word_at-first.result c.word_at-second.result c.word_at-third.result
    (fit_there c.args.netlist.now c.requires.netlist c.args.nets.now c.loop-at.words c.requires.ascending c.loop-at.invariant.2 c.loop-at.invariant.1 c.args.task at
    (c.requires.within c.loop-at.at-index none l)
    (stands_there c.args.netlist.now c.args.nets.now c.args.task c.args.places.now c.loop-at.at-index none l c.requires.stand)
    c.word_at-first.result c.word_at-second.result c.word_at-third.result c.word_at-first.ensures c.word_at-second.ensures c.word_at-third.ensures)

pub put_word-requires-clause-stands : goal.put_word-requires-clause-stands
put_word-requires-clause-stands g c =
    stands_there c.args.netlist.now c.args.nets.now c.args.task c.args.places.now c.loop-at.at-index none c.loop-at-test.true c.requires.stand

pub put_word-requires-clause-word : goal.put_word-requires-clause-word
put_word-requires-clause-word g c =
    let at = slice_index_or c.args.places.now c.loop-at.at-index none in
    let l = c.loop-at-test.true in
    let x = c.word_at-first.result in
    let y = c.word_at-second.result in
    let z = c.word_at-third.result in
    (computed_there c.args.netlist.now c.requires.netlist c.args.nets.now c.loop-at.words c.requires.ascending c.loop-at.invariant.2 c.loop-at.invariant.1 c.args.task at
    (c.requires.within c.loop-at.at-index none l)
    (stands_there c.args.netlist.now c.args.nets.now c.args.task c.args.places.now c.loop-at.at-index none l c.requires.stand)
    x y z c.word_at-first.ensures c.word_at-second.ensures c.word_at-third.ensures c.compute-word.result (λ fit. c.requires.computes x y z c.compute-word.result fit c.compute-word.ensures)).0

pub put_word-requires-clause-fits : goal.put_word-requires-clause-fits
put_word-requires-clause-fits g c =
    let at = slice_index_or c.args.places.now c.loop-at.at-index none in
    let l = c.loop-at-test.true in
    let x = c.word_at-first.result in
    let y = c.word_at-second.result in
    let z = c.word_at-third.result in
    (computed_there c.args.netlist.now c.requires.netlist c.args.nets.now c.loop-at.words c.requires.ascending c.loop-at.invariant.2 c.loop-at.invariant.1 c.args.task at
    (c.requires.within c.loop-at.at-index none l)
    (stands_there c.args.netlist.now c.args.nets.now c.args.task c.args.places.now c.loop-at.at-index none l c.requires.stand)
    x y z c.word_at-first.ensures c.word_at-second.ensures c.word_at-third.ensures c.compute-word.result (λ fit. c.requires.computes x y z c.compute-word.result fit c.compute-word.ensures)).1
