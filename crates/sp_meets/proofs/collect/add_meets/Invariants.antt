use Rattle.std.proofs.Common.{map, take}
use Rattle.sp_meets.specs.Entries.{HasEntriesAmong}
use Rattle.sp_meets.specs.Plain.{plain_site}
use Rattle.sp_meets.proofs.collect.add_meets.Given as goal

abbrev pub invariant-loop-a : goal.invariant-loop-a
invariant-loop-a l = HasEntriesAmong l.chip (map plain_site (take l.a-index l.firsts)) (map plain_site l.seconds) l.fn.meets.items l.meets.items
