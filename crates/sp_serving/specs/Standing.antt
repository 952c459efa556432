-- How many accesses stand before a number of a core, by passing the numbers one after the other.
use Rattle.std.specs.Prelude.{◌-◌, ◌==◌, Bool, List, [], ◌∷◌, if◌then◌else◌}
use Rattle.sp_core.specs.Numbered.{Numbered}
use Rattle.sp_schemes.specs.Places.{has_forms}
use Rattle.sp_serving.specs.declared.standing.Passing.{Passing}

-- past one number, which is that of an access, or isn't
abbrev pub past : Passing → (forms : Bool) → Passing
past p forms = if p.left == 0 then p else record { left = p.left - 1; most = p.most - (if forms then 0 else 1) }

abbrev pub passed : Passing → List Numbered → Passing
passed p [] = p
passed p (x ∷ rest) = passed (past p (has_forms x)) rest
