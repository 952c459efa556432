-- How far slots are apart, with those that were met before.
use Rattle.std.specs.Prelude.{ℕ, ◌+◌, ◌-◌, max, min, List, fold, Option, Some, None}
use Rattle.sp_depths.specs.declared.spread.Spread.{Spread}
use Rattle.sp_plan.specs.Copies.{slots_between}

-- how many slots there are from the least to the greatest
abbrev pub slots_with : Option Spread → List ℕ → ℕ
slots_with None slots = slots_between slots
slots_with (Some met) slots = (fold max met.greatest slots - fold min met.least slots) + 1
