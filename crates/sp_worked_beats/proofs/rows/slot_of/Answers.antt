use Rattle.std.proofs.Common.{[], ◌∷◌, ◌++◌, ap, ◌∙◌}
use Rattle.sp_worked_beats.proofs.rows.slot_of.Goals as goal

pub returns : goal.returns
returns c = record { chain = c.in_ok-chain.chain; chains = c.in_ok-push.ensures.items ∙ ap (λ xs. xs ++ c.in_ok-chain.chain ∷ []) c.new-chains.ensures.items; members = c.in_ok-chain.ensures }
