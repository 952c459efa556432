use Rattle.std.proofs.Common.{◌≡◌, ◌*◌, ◌<◌}
use Rattle.std.specs.Prelude.{map}
use Rattle.sp_bank.specs.Banking.{Banking}
use Rattle.sp_bank.specs.Search.{Serves}
use Rattle.sp_bank.proofs.Order.{code_of}
use Rattle.sp_bank.proofs.searching.first_of_size.Given as goal

abbrev pub invariant-loop-row : goal.invariant-loop-row
invariant-loop-row l = (t : Banking) → Serves l.fn.rank (map (λ g. g.items) l.groups) t →
    t.banks ≡ l.fn.banks → t.block ≡ l.fn.block → code_of l.fn.banks t.alpha < l.row * l.fn.banks → ⊥
