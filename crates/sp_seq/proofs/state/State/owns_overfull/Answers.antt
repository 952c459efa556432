use Rattle.std.proofs.Common.{sym, ◌∙◌, ap}
use Rattle.sp_tree.specs.PlainTree.{plain_stmt_kind}
use Rattle.sp_seq.proofs.TreeLemmas.{control_is_other}
use Rattle.sp_seq.proofs.state.State.owns_overfull.Goals as goal

pub is_overfull-requires : goal.is_overfull-requires
is_overfull-requires c = record { setting = c.requires.setting; seen = c.requires.seen c.in-Declare.memory (ap plain_stmt_kind c.in-Declare.is) }

pub returns-in-Control-clause-fits : goal.returns-in-Control-clause-fits
returns-in-Control-clause-fits c = λ e m is q. absurd (control_is_other c.in-Control.field-0.value m (sym (ap plain_stmt_kind c.in-Control.is) ∙ is))
