use Rattle.std.proofs.Common.{◌≡◌, ◌∙◌, sym, true, false, rules}
use Rattle.std.specs.Prelude.{is_some}
use Rattle.std.proofs.lemmas.List.{drop_all}
use Rattle.toml.specs.Data.{as_integer}
use Rattle.toml.specs.View.{view}
use Rattle.sp_setup.proofs.Turns.{drop-turn}
use Rattle.sp_setup.proofs.TableLemmas.{are_integers-stop, are_integers-pass, are_integers-end}
use Rattle.sp_setup.proofs.table.are_integers.Goals as goal

pub returns-then-not-is_integer : goal.returns-then-not-is_integer
returns-then-not-is_integer c =
    let turn = drop-turn c.args.items.now c.loop-item.item-index c.item-item.result c.loop-item-test.true c.item-item.is in
    let here : is_some (as_integer (view c.item-item.result)) ≡ false = search rules in
    sym (sym c.loop-item.invariant ∙ are_integers-stop _ _ _ turn here)

pub loop-item-preserved : goal.loop-item-preserved
loop-item-preserved c =
    let turn = drop-turn c.args.items.now c.loop-item.item-index c.item-item.result c.loop-item-test.true c.item-item.is in
    let here : is_some (as_integer (view c.item-item.result)) ≡ true = search rules in
    sym (are_integers-pass _ _ _ turn here) ∙ c.loop-item.invariant

pub returns : goal.returns
returns c = sym (sym c.loop-item.invariant ∙ are_integers-end _ (drop_all c.loop-item.item-index c.args.items.now c.loop-item-test.false))
