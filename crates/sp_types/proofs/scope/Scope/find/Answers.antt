use Rattle.std.proofs.Common.{rules, ◌≡◌, ℕ}
use Rattle.sp_types.proofs.ScopeLemmas.{lookup_shown, found}
use Rattle.sp_types.proofs.scope.Scope.find.Goals as goal

pub returns : goal.returns
returns c = found _ _ _ c.get.ensures.value (lookup_shown c.args.name.now c.args.self.now.names.entries)
