use Rattle.std.proofs.Common.{◌≡◌, ◌+◌, ◌≤◌, drop, map}
use Rattle.std.specs.Prelude.{sum_by, if◌then◌else◌}
use Rattle.sp_words.specs.Interface.{word_count}
use Rattle.sp_tree.specs.Meaning.{is_dram}
use Rattle.sp_tree.specs.Plain.{plain_mem}
use Rattle.sp_tree.specs.PlainProgram.{PlainMem}
use Rattle.sp_counts.specs.Capped.{most, capped}
use Rattle.sp_counts.proofs.words.dram_words.Given as goal

abbrev pub invariant-loop-mem : goal.invariant-loop-mem
invariant-loop-mem l = (l.total ≤ most) × (capped (l.total + sum_by (λ (m : PlainMem). if is_dram m.kind then word_count m.dims else 0) (map plain_mem (drop l.mem-index l.mems))) ≡ capped (sum_by (λ (m : PlainMem). if is_dram m.kind then word_count m.dims else 0) (map plain_mem l.mems)))
