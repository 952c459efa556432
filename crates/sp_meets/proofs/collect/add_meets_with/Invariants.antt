use Rattle.std.proofs.Common.{map, take}
use Rattle.sp_meets.specs.Entries.{HasEntriesWith}
use Rattle.sp_meets.specs.Plain.{plain_site}
use Rattle.sp_meets.proofs.collect.add_meets_with.Given as goal

abbrev pub invariant-loop-b : goal.invariant-loop-b
invariant-loop-b l = HasEntriesWith l.chip (plain_site l.a) (map plain_site (take l.b-index l.others)) l.fn.meets.items l.meets.items
