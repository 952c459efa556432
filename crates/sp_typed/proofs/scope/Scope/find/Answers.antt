use Rattle.sp_typed.proofs.ScopeLemmas.{find_shown, found}
use Rattle.sp_typed.proofs.scope.Scope.find.Goals as goal

pub returns : goal.returns
returns c = found _ _ _ c.get.ensures.value (find_shown c.args.name.now c.args.self.now.names.entries)
