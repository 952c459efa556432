use Rattle.std.proofs.Common.{◌≡◌, ◌+◌, ◌++◌, map, drop}
use Rattle.sp_core.specs.CoreParts.{plain_core}
use Rattle.sp_core.specs.Forms.{plain_forms}
use Rattle.sp_core.specs.Plain.{plain_op}
use Rattle.sp_schemes.specs.Accesses.{uses_in}
use Rattle.sp_schemes.specs.Uses.{plain_uses}
use Rattle.sp_schemes.proofs.accesses.uses_in.Given as goal

abbrev pub invariant-loop-op : goal.invariant-loop-op
invariant-loop-op l =
    (plain_uses l.uses.items ++ uses_in (plain_core l.core) (plain_forms l.forms) l.m l.n (map plain_op (drop l.op-index l.ops)) ≡ uses_in (plain_core l.core) (plain_forms l.forms) l.m l.number (map plain_op l.ops))
    × (l.n ≡ l.number + l.op-index)
