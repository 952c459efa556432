-- Worked histories of a loop with three iterations, in the core and in two lanes: the second lane of the second group has none.
use Rattle.std.specs.Prelude.{List, [], ◌∷◌, None}
use Rattle.sp_core.specs.ExampleForms.{below, stages}
use Rattle.sp_core.specs.History.{Bounds, gave, History, Runs, inner_ran, outer_ran, no_run, masked_run, more_run, groups_of}
use Rattle.sp_core.specs.PlainCore.{PlainNode, inner, outer}
use Rattle.sp_words.specs.declared.kind.Style.TheVariants.{Pipe}

-- its one stage does nothing
abbrev pub stage : PlainNode
stage = inner [] [] [] None

abbrev pub loop : PlainNode
loop = outer (below 0 3 1 2 ∷ []) Pipe [] (stages (stage ∷ []))

abbrev pub bounds : List Bounds
bounds = record { from = gave 0 ∷ []; until = gave 3 ∷ [] } ∷ []

abbrev pub once : History
once = inner_ran [] [] ([] ∷ [])

abbrev pub iteration : Runs
iteration = more_run once no_run

abbrev pub in_core : History
in_core = outer_ran bounds (3 ∷ []) (groups_of (iteration ∷ iteration ∷ iteration ∷ []))

abbrev pub in_two_lanes : History
in_two_lanes = outer_ran bounds (3 ∷ []) (groups_of (more_run once (more_run once no_run) ∷ more_run once (masked_run no_run) ∷ []))
