use Rattle.std.proofs.Common.{◌≡◌, ◌+◌, ◌≤◌, drop, map}
use Rattle.sp_tree.specs.Counts as plain
use Rattle.sp_tree.specs.Plain.{plain_mem}
use Rattle.sp_tree.specs.PlainProgram.{PlainProgram}
use Rattle.sp_tree.specs.Streams.{roomy_in}
use Rattle.sp_counts.specs.Capped.{most, capped}
use Rattle.sp_counts.proofs.words.chip_words.Given as goal

abbrev pub invariant-loop-i : goal.invariant-loop-i
invariant-loop-i l =
    (l.total ≤ most)
    × ((p : PlainProgram) → p.mems ≡ map plain_mem l.mems → roomy_in p.mems p.body ≡ l.roomy → capped (l.total + plain.words_from p l.i (map plain_mem (drop l.i l.mems))) ≡ capped (plain.words_from p 0 (map plain_mem l.mems)))
