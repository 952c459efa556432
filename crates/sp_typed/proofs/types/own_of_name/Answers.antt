use Rattle.std.proofs.Common.{Some, sym, ap, ◌∙◌}
use Rattle.sp_typed.specs.Plain.{here_of}
use Rattle.sp_typed.proofs.OwnLemmas.{own_of_name}
use Rattle.sp_typed.proofs.types.own_of_name.Goals as goal

pub returns : goal.returns
returns c = ap Some c.word_type.ensures ∙ sym (own_of_name (here_of c.args.scope.now) c.args.name.now)
