use Rattle.std.proofs.Common.{[]}
use Rattle.sp_gates.proofs.Growing.{Fills-join, HasNet-stays}
use Rattle.sp_gates.proofs.Running.{runs_earlier}
use Rattle.sp_mem.proofs.Kept.{writes_kept}
use Rattle.sp_queue_copies.proofs.Lists.{touches_kept, puts_touch}
use Rattle.sp_queue_copies.proofs.copies.asked_of.Goals as goal

pub touched-requires : goal.touched-requires
touched-requires c = touches_kept _ _ c.in_ok-made_fresh.ensures.fills.grows c.args.puts.now (puts_touch _ c.args.width c.args.puts.now c.requires.puts)

pub touched-requires-2 : goal.touched-requires-2
touched-requires-2 c = touches_kept _ _ c.in_ok-put.ensures.fills.grows c.args.takes.now (touches_kept _ _ c.in_ok-made_fresh.ensures.fills.grows c.args.takes.now c.requires.takes)

pub word_put-requires-clause-puts : goal.word_put-requires-clause-puts
word_put-requires-clause-puts c =
    writes_kept _ _ c.in_ok-take.ensures.fills.grows c.args.width c.args.puts.now
    (writes_kept _ _ c.in_ok-put.ensures.fills.grows c.args.width c.args.puts.now (writes_kept _ _ c.in_ok-made_fresh.ensures.fills.grows c.args.width c.args.puts.now c.requires.puts))

pub returns-clause-fills : goal.returns-clause-fills
returns-clause-fills c =
    Fills-join _ _ _ [] [] c.in_ok-made_fresh.ensures.fills (Fills-join _ _ _ [] [] c.in_ok-put.ensures.fills (Fills-join _ _ _ [] [] c.in_ok-take.ensures.fills c.in_ok-word.ensures.fills))

pub returns-clause-fits : goal.returns-clause-fits
returns-clause-fits c =
    let second = c.in_ok-put.ensures.fills.grows in
    let third = c.in_ok-take.ensures.fills.grows in
    let fourth = c.in_ok-word.ensures.fills.grows in
    record {
      put = HasNet-stays _ _ _ _ fourth (HasNet-stays _ _ _ _ third c.in_ok-put.ensures.net);
      word = c.in_ok-word.ensures.net;
      take = HasNet-stays _ _ _ _ fourth c.in_ok-take.ensures.net;
      fresh = HasNet-stays _ _ _ _ fourth (HasNet-stays _ _ _ _ third (HasNet-stays _ _ _ _ second c.in_ok-made_fresh.ensures.net));
    }

pub returns-clause-asked : goal.returns-clause-asked
returns-clause-asked c = λ s run t.
    let third = runs_earlier _ _ s c.in_ok-word.ensures.fills.grows run in
    let second = runs_earlier _ _ s c.in_ok-take.ensures.fills.grows third in
    let first = runs_earlier _ _ s c.in_ok-put.ensures.fills.grows second in
    record { fresh = c.in_ok-made_fresh.ensures.on s first t; put = c.in_ok-put.ensures.on s second t; take = c.in_ok-take.ensures.on s third t; word = c.in_ok-word.ensures.word s run t }
