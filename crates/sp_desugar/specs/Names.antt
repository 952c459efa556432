-- Values by their numbers; endings of bodies; statements that are neither controllers nor transfers.
use Rattle.std.specs.Prelude.{ℕ, ◌==◌, Bool, true, false, ◌||◌, List, [], ◌∷◌, Some, None}
use Rattle.sp_tree.specs.Plain.{plain_expr}
use Rattle.sp_tree.specs.PlainStatement.{PlainStmtKind}
use Rattle.sp_tree.specs.Tallies.{primitive}
use Rattle.sp_sugar.specs.Uses as plain
use Rattle.sp_desugar.specs.declared.uses.Ending.{Ending}
use Rattle.sp_desugar.specs.declared.uses.Ending.TheVariants.{NoMore, InLastRun, InCombination}

-- whether a value is among those of these numbers
unfoldable pub among : List ℕ → ℕ → Bool
among [] v = false
among (n ∷ names) v = (v == n) || among names v

abbrev pub plain_ending : Ending → plain.Ending
plain_ending NoMore = plain.no_more
plain_ending (InLastRun e) = plain.in_last_run (plain_expr e.now)
plain_ending (InCombination e) = plain.in_combination (plain_expr e.now)

-- whether a statement is neither a controller nor a transfer
abbrev pub is_primitive : PlainStmtKind → Bool
is_primitive kind = elim (primitive kind) [ Some t ↦ true | None ↦ false ]
