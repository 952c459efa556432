use Rattle.std.proofs.Common.{[], ◌∷◌, ◌++◌, ap, ◌∙◌}
use Rattle.sp_worked_beats.proofs.rows.slots_of.Goals as goal

pub returns : goal.returns
returns c = record {
  first = c.in_ok-first.first;
  second = c.in_ok-second.second;
  are = c.in_ok-push-2.ensures.items ∙ ap (λ xs. xs ++ c.in_ok-second.second ∷ []) (c.in_ok-push.ensures.items ∙ ap (λ xs. xs ++ c.in_ok-first.first ∷ []) c.new-slots.ensures.items);
  first_one = c.in_ok-first.ensures;
  second_one = c.in_ok-second.ensures;
}
