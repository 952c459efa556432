use Rattle.std.proofs.Common.{◌<◌}
use Rattle.std.specs.Prelude.{map}
use Rattle.sp_bank.specs.Banking.{Banking}
use Rattle.sp_bank.specs.Search.{Serves}
use Rattle.sp_bank.proofs.searching.search.Given as goal

abbrev pub invariant-loop-banks : goal.invariant-loop-banks
invariant-loop-banks l = (t : Banking) → Serves l.fn.rank (map (λ g. g.items) l.groups) t → t.banks < l.banks → ⊥
