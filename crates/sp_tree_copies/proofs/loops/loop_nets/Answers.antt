use Rattle.std.proofs.Common.{sym, ap, ◌∙◌}
use Rattle.std.proofs.lemmas.Bool.{ltb-true}
use Rattle.sp_copy_nets.specs.Table.{slot_numbers}
use Rattle.sp_tree_copies.proofs.Tables.{loop_at, past_loops}
use Rattle.sp_tree_copies.proofs.loops.loop_nets.Goals as goal

pub returns-in-Some : goal.returns-in-Some
returns-in-Some c =
    c.nets_of.ensures ∙ ap (λ slots. slot_numbers slots c.args.slot) c.deref.ensures.value ∙ loop_at c.args.loops.now c.args.at c.args.slot c.in-Some.copies.now (ltb-true _ _ (sym c.in-Some.ensures.lookup.0)) c.in-Some.ensures.lookup.1

pub returns-in-None : goal.returns-in-None
returns-in-None c = past_loops c.args.loops.now c.args.at c.args.slot c.in-None.ensures.lookup.3
