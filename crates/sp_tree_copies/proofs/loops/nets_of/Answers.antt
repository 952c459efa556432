use Rattle.std.proofs.Common.{sym, ◌∙◌}
use Rattle.std.proofs.lemmas.Bool.{ltb-true}
use Rattle.sp_tree_copies.proofs.Tables.{past_slots, slot_at}
use Rattle.sp_tree_copies.proofs.loops.nets_of.Goals as goal

pub returns-in-Some : goal.returns-in-Some
returns-in-Some c = c.deref.ensures.value ∙ slot_at c.args.slots.now c.args.slot c.in-Some.numbers.now (ltb-true _ _ (sym c.in-Some.ensures.lookup.0)) c.in-Some.ensures.lookup.1

pub returns-in-None : goal.returns-in-None
returns-in-None c = past_slots c.args.slots.now c.args.slot c.in-None.ensures.lookup.3
