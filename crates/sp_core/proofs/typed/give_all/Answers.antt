use Rattle.std.proofs.Common.{sym}
use Rattle.sp_core.proofs.TypedLemmas.{give_all-lengths}
use Rattle.sp_core.proofs.typed.give_all.Goals as goal

pub returns-then-places-types : goal.returns-then-places-types
returns-then-places-types c = sym (give_all-lengths c.args.earlier.now c.args.places.now c.args.types.now c.if-places-types.true)
