use Rattle.std.proofs.Common.{◌≡◌, ℕ, ◌<◌, length, None}
use Rattle.std.specs.Prelude.{slice_index_or}
use Rattle.sp_core.specs.CoreParts.{plain_core}
use Rattle.sp_core.specs.Forms.{plain_forms}
use Rattle.sp_schemes.specs.Chosen.{IsChosen}
use Rattle.sp_schemes.proofs.chosen.schemes.Given as goal

-- those so far are chosen
abbrev pub invariant-loop-m : goal.invariant-loop-m
invariant-loop-m l = (length l.schemes.items ≡ l.m) × ((k : ℕ) → k < l.m → IsChosen (plain_core l.core) (plain_forms l.forms) k (slice_index_or l.schemes.items k None))
