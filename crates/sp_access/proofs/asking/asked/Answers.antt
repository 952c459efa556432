use Rattle.std.proofs.Common.{◌≡◌, [], ◌==◌, ◌||◌, sym, ap, refl, ◌∙◌, arith}
use Rattle.std.proofs.lemmas.List.{take_all}
use Rattle.sp_gates.specs.Tested.{is_on}
use Rattle.sp_gates.proofs.Growing.{Fills-join}
use Rattle.sp_gates.proofs.Running.{runs_earlier}
use Rattle.sp_access.specs.Asking.{is_asked}
use Rattle.sp_access.proofs.Chains.{access_at, asked_more}
use Rattle.sp_access.proofs.asking.asked.Goals as goal

pub loop-a-init : goal.loop-a-init
loop-a-init c = record { fills = c.in_ok-net.ensures.fills; net = c.in_ok-net.ensures.net; word = λ s run t. ap (λ n. n == 1) (c.in_ok-net.ensures.word s run t) }

pub on_either-requires-clause-right : goal.on_either-requires-clause-right
on_either-requires-clause-right c = (access_at _ _ c.args.accesses.now c.loop-a.a-index c.a-item.result c.loop-a.invariant.fills.grows c.requires c.loop-a-test.true c.a-item.is).on

pub loop-a-preserved : goal.loop-a-preserved
loop-a-preserved c =
    let i = c.loop-a.invariant in
    let e = c.in_ok-net-2.ensures in
    record {
      fills = Fills-join _ _ _ [] [] i.fills e.fills;
      net = e.net;
      word = λ s run t.
          let before = runs_earlier _ _ s e.fills.grows run in
          e.on s run t ∙ ap (λ b. b || is_on s c.a-item.result.on t) (i.word s before t) ∙ sym (asked_more s t c.args.accesses.now c.loop-a.a-index c.a-item.result c.loop-a-test.true c.a-item.is);
    }

pub returns-clause-on : goal.returns-clause-on
returns-clause-on c = λ s run t.
    c.loop-a.invariant.word s run t ∙ ap (is_asked s t) (take_all c.loop-a.a-index c.args.accesses.now (let past = c.loop-a-test.false in omega (arith, past)))
