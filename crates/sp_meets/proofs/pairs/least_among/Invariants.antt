use Rattle.std.proofs.Common.{take}
use Rattle.std.specs.Prelude.{flat_map}
use Rattle.sp_meets.specs.Entries.{some_meet_at}
use Rattle.sp_meets.specs.Meets.{IsLeastOf}
use Rattle.sp_meets.specs.Plain.{plain_parts, plain_view}
use Rattle.sp_meets.proofs.pairs.least_among.Given as goal

abbrev pub invariant-loop-p : goal.invariant-loop-p
invariant-loop-p l = IsLeastOf (some_meet_at l.chip (plain_view l.v) (plain_view l.w) l.before (flat_map plain_parts (take l.p-index l.parts)) (flat_map plain_parts l.others)) l.best
