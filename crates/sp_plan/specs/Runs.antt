-- Runs of stages, and what operations and transfers name, as plain values.
use Rattle.std.specs.Prelude.{ℕ, List, ◌∷◌}
use Rattle.sp_plan.specs.declared.named.Named.{Named}
use Rattle.sp_plan.specs.declared.named.Named.TheVariants.{Access, Transfer}
use Rattle.sp_plan.specs.declared.runs.Run.{Run}
use Rattle.sp_plan.specs.Named.{named_by}
use Rattle.sp_plan.specs.Slots.{StageRun}

abbrev pub plain_run : Run → StageRun
plain_run r = record { from = r.from; until = r.until; first = r.first; last = r.last }

abbrev pub plain_named : Named → List ℕ
plain_named (Access mem) = named_by mem
plain_named (Transfer dram mem places) = dram ∷ mem ∷ named_by places
