use Rattle.std.proofs.Common.{◌≡◌, ◌∙◌, ◌+◌, ◌∷◌, [], Some, length, drop, length-append, sym, ap, arith}
use Rattle.std.proofs.lemmas.List.{drop_all}
use Rattle.toml.specs.View.{items_view}
use Rattle.sp_setup.specs.Checks.{delay_fault, delays_in}
use Rattle.sp_setup.proofs.Turns.{drop-turn, push-turn, push-end}
use Rattle.sp_setup.proofs.TableLemmas.{delay_fault-stop, delay_fault-pass, delay_fault-end, delays_in-turn, delays_in-end}
use Rattle.sp_setup.proofs.table.read_delay_list.Goals as goal

pub returns-in_default-clause-refused : goal.returns-in_default-clause-refused
returns-in_default-clause-refused c =
    let turn = drop-turn c.args.items.now c.loop-item.item-index c.item-item.result c.loop-item-test.true c.item-item.is in
    let size : c.len.result ≡ length c.loop-item.delays.items = omega arith in
    let bad = rw size at c.in_default.ensures in
    let stop = delay_fault-stop (length c.loop-item.delays.items) _ _ c.item-item.result turn bad in
    let place : length c.loop-item.delays.items ≡ c.len-in_default.result = omega arith in
    let e : delay_fault 0 (items_view c.args.items.now) ≡ Some c.len-in_default.result = sym c.loop-item.invariant.check ∙ stop ∙ ap Some place in
    rw e c.delay_out_of_range.ensures

pub loop-item-init : goal.loop-item-init
loop-item-init c = record { check = rw c.new-delays.ensures.items; delays = rw c.new-delays.ensures.items }

pub loop-item-preserved : goal.loop-item-preserved
loop-item-preserved c =
    let turn = drop-turn c.args.items.now c.loop-item.item-index c.item-item.result c.loop-item-test.true c.item-item.is in
    let rest = drop (c.loop-item.item-index + 1) c.args.items.now in
    let size : c.len.result ≡ length c.loop-item.delays.items = omega arith in
    let good = rw size at c.in-Some.ensures.0 in
    let push = c.in_ok-push.ensures.items in
    let long : length c.push.new.self.items ≡ length c.loop-item.delays.items + 1 = ap length push ∙ length-append c.loop-item.delays.items (c.in-Some.delay ∷ []) in
    record {
      check = ap (λ k. delay_fault k (items_view rest)) long
          ∙ sym (delay_fault-pass (length c.loop-item.delays.items) _ _ c.item-item.result turn good)
          ∙ c.loop-item.invariant.check;
      delays = push-turn c.push.new.self.items c.loop-item.delays.items _ (delays_in (items_view rest)) _ c.in-Some.delay _ push c.in-Some.ensures.1
          (delays_in-turn _ _ c.item-item.result turn) c.loop-item.invariant.delays;
    }

pub returns-clause-ok : goal.returns-clause-ok
returns-clause-ok c =
    let none = drop_all c.loop-item.item-index c.args.items.now c.loop-item-test.false in
    let e = sym c.loop-item.invariant.check ∙ delay_fault-end (length c.loop-item.delays.items) _ none in
    (rw e, push-end c.loop-item.delays.items _ _ (delays_in-end _ none) c.loop-item.invariant.delays)
