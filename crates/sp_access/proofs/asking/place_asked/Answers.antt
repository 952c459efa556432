use Rattle.std.proofs.Common.{◌≡◌, [], ◌==◌, if◌then◌else◌, sym, ap, refl, ◌∙◌, arith}
use Rattle.std.proofs.lemmas.List.{take_all}
use Rattle.sp_gates.specs.Tested.{is_on}
use Rattle.sp_gates.proofs.Growing.{Fills-join}
use Rattle.sp_gates.proofs.Running.{runs_earlier}
use Rattle.sp_access.specs.Asking.{last_place}
use Rattle.sp_access.proofs.Chains.{access_at, place_more}
use Rattle.sp_access.proofs.asking.place_asked.Goals as goal

pub loop-a-init : goal.loop-a-init
loop-a-init c = record { fills = c.in_ok-net.ensures.fills; net = c.in_ok-net.ensures.net; word = λ s run t. c.in_ok-net.ensures.word s run t }

pub choose-requires-clause-choice : goal.choose-requires-clause-choice
choose-requires-clause-choice c = (access_at _ _ c.args.accesses.now c.loop-a.a-index c.a-item.result c.loop-a.invariant.fills.grows c.requires c.loop-a-test.true c.a-item.is).on

pub choose-requires-clause-left : goal.choose-requires-clause-left
choose-requires-clause-left c = (access_at _ _ c.args.accesses.now c.loop-a.a-index c.a-item.result c.loop-a.invariant.fills.grows c.requires c.loop-a-test.true c.a-item.is).place

pub loop-a-preserved : goal.loop-a-preserved
loop-a-preserved c =
    let i = c.loop-a.invariant in
    let e = c.in_ok-net-2.ensures in
    record {
      fills = Fills-join _ _ _ [] [] i.fills e.fills;
      net = e.net;
      word = λ s run t.
          let before = runs_earlier _ _ s e.fills.grows run in
          e.word s run t ∙ ap (λ n. if is_on s c.a-item.result.on t then s.net t c.a-item.result.place else n) (i.word s before t)
          ∙ sym (place_more s t c.args.accesses.now c.loop-a.a-index c.a-item.result 0 c.loop-a-test.true c.a-item.is);
    }

pub returns-clause-word : goal.returns-clause-word
returns-clause-word c = λ s run t.
    c.loop-a.invariant.word s run t ∙ ap (λ es. last_place s t es 0) (take_all c.loop-a.a-index c.args.accesses.now (let past = c.loop-a-test.false in omega (arith, past)))
