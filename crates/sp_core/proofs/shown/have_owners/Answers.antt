use Rattle.std.proofs.Common.{sym, ◌∙◌, map, length, arith}
use Rattle.std.proofs.lemmas.Grind.{common_steps}
use Rattle.sp_core.specs.Invariant.{has_owner}
use Rattle.sp_core.specs.PartsPlain.{core_of}
use Rattle.sp_core.specs.Plain.{plain_mem}
use Rattle.sp_core.proofs.TreeLemmas.{below_fails}
use Rattle.sp_core.proofs.shown.have_owners.Goals as goal

pub returns-then-not-has_owner : goal.returns-then-not-has_owner
returns-then-not-has_owner c =
    sym (below_fails (has_owner (core_of c.args.parts.now)) (length (map plain_mem c.args.parts.now.mems.items)) c.loop-i.i
    (grind (arith, common_steps))
    (sym c.has_owner.ensures ∙ c.if-not-has_owner.true))
