use Rattle.std.proofs.Common.{subst}
use Rattle.sp_core.specs.CoreParts.{CoreParts, plain_core}
use Rattle.sp_core.specs.Invariant.{IsCore}
use Rattle.sp_core.proofs.core_tree.Core.root.Goals as goal

pub returns-clause-core : goal.returns-clause-core
returns-clause-core c = let P : CoreParts → Type 0 = λ parts. IsCore (plain_core parts) in subst P c.self.view_is c.self.invariant
