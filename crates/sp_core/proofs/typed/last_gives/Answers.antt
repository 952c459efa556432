use Rattle.std.proofs.Common.{sym, ◌∙◌, ap}
use Rattle.std.specs.Option.{option_copied}
use Rattle.sp_core.specs.Typed.{is_given}
use Rattle.sp_core.proofs.TypedLemmas.{gives-last}
use Rattle.sp_core.proofs.typed.last_gives.Goals as goal

pub returns-in-Some : goal.returns-in-Some
returns-in-Some c = c.is_given.ensures ∙ ap (λ g. is_given g c.args.ty) c.given_type.ensures ∙ sym (gives-last c.args.ops.now c.in-Some.op.now c.args.ty (sym c.last.ensures.value ∙ ap option_copied c.in-Some.is))
