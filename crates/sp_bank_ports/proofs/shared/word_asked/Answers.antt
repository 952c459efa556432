use Rattle.std.proofs.Common.{[], if◌then◌else◌, take, sym, ap, ◌∙◌, arith}
use Rattle.std.proofs.lemmas.List.{take_all}
use Rattle.sp_gates.specs.Nets.{HasNet}
use Rattle.sp_gates.specs.Tested.{is_on}
use Rattle.sp_gates.proofs.Growing.{Fills-join, HasNet-stays}
use Rattle.sp_gates.proofs.Running.{runs_earlier}
use Rattle.sp_access.specs.Asking.{last_word}
use Rattle.sp_access.proofs.Chains.{at_item, access_at, word_more}
use Rattle.sp_bank_ports.proofs.shared.word_asked.Goals as goal

pub choose-requires-clause-choice : goal.choose-requires-clause-choice
choose-requires-clause-choice c = (access_at _ _ c.args.accesses.now c.loop-i.i c.index-accesses-i.result c.loop-i.invariant.fills.grows c.requires.accesses c.loop-i-test.true c.index-accesses-i.is).on

pub choose-requires-clause-left : goal.choose-requires-clause-left
choose-requires-clause-left c =
    let l = c.loop-i-test.true in
    let each = c.requires.each in
    HasNet-stays _ _ _ _ c.loop-i.invariant.fills.grows
    (at_item (λ net. HasNet c.args.builder.now net c.args.width) c.args.words.now c.loop-i.i c.index-words-i.result c.requires.words (omega (arith, l, each)) c.index-words-i.is)

pub loop-i-preserved : goal.loop-i-preserved
loop-i-preserved c =
    let i = c.loop-i.invariant in
    let e = c.in_ok-net-2.ensures in
    record {
      fills = Fills-join _ _ _ [] [] i.fills e.fills;
      net = e.net;
      word = λ s run t.
          let before = runs_earlier _ _ s e.fills.grows run in
          e.word s run t
          ∙ ap (λ n. if is_on s c.index-accesses-i.result.on t then s.net t c.index-words-i.result else n) (i.word s before t)
          ∙ sym (word_more s t c.args.accesses.now c.args.words.now c.loop-i.i c.index-accesses-i.result c.index-words-i.result 0 c.requires.each c.loop-i-test.true c.index-accesses-i.is c.index-words-i.is);
    }

pub returns-clause-word : goal.returns-clause-word
returns-clause-word c = λ s run t.
    let past = c.loop-i-test.false in
    let each = c.requires.each in
    c.loop-i.invariant.word s run t
    ∙ ap (λ es. last_word s t es (take c.loop-i.i c.args.words.now) 0) (take_all c.loop-i.i c.args.accesses.now (omega (arith, past)))
    ∙ ap (λ ws. last_word s t c.args.accesses.now ws 0) (take_all c.loop-i.i c.args.words.now (omega (arith, past, each)))
