use Rattle.sp_tree_copies.proofs.Asking.{on_ok}
use Rattle.sp_tree_copies.proofs.names.name_span.Goals as goal

pub returns-in_ok-name_ops-in-Range-clause-stand : goal.returns-in_ok-name_ops-in-Range-clause-stand
returns-in_ok-name_ops-in-Range-clause-stand c =
    on_ok c.name_ops-in-Range-2.result (λ f core turns kept loops d all stand h. f core turns kept loops d all stand (c.in_ok-name_ops-in-Range.ensures.stand core turns kept loops d all stand h)) c.name_ops-in-Range-2.ensures.stand
