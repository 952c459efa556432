use Rattle.std.proofs.Common.{take}
use Rattle.std.specs.Prelude.{flat_map}
use Rattle.sp_meets.specs.Entries.{some_meet_at}
use Rattle.sp_meets.specs.Meets.{IsLeastOf}
use Rattle.sp_meets.specs.Plain.{plain_parts, plain_view}
use Rattle.sp_meets.proofs.pairs.least_with.Given as goal

abbrev pub invariant-loop-q : goal.invariant-loop-q
invariant-loop-q l = IsLeastOf (some_meet_at l.chip (plain_view l.v) (plain_view l.w) l.before (plain_parts l.p) (flat_map plain_parts (take l.q-index l.others))) l.best
