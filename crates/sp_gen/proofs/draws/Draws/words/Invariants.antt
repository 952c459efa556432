use Rattle.std.proofs.Common.{◌≡◌, ◌++◌, ◌-◌, ◌≤◌}
use Rattle.sp_gen.specs.Draws.{drawn}
use Rattle.sp_gen.proofs.draws.Draws.words.Given as goal

-- what is drawn so far, and what is left
abbrev pub invariant-loop-i : goal.invariant-loop-i
invariant-loop-i l = (l._i ≤ l.count) × (l.words.items ++ drawn (l.count - l._i) l.self.state ≡ drawn l.count l.initial.self.state)
