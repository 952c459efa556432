use Rattle.std.proofs.Common.{◌+◌, ◌/◌, refl, ◌∙◌, arith, rules}
use Rattle.std.proofs.Math.Nat.{mul-le-mul_left}
use Rattle.sp_words.specs.Interface.{word_count}
use Rattle.sp_seq.proofs.PlaceLemmas.{count_pos}
use Rattle.sp_seq.proofs.SliceLemmas.{tail, total_rest, range_arm, index_arm}
use Rattle.sp_seq.proofs.slice.+word_places.Goals as goal

pub total-words-requires : goal.total-words-requires
total-words-requires t c =
    let a = c.args in
    let q = c.requires in
    total_rest a.parts.now a.limits.now _ c.in-len1-up.len_at_least c.in-len1-up-limits.len_at_least c.if-first.true q.limits

pub word_places-inner-requires : goal.word_places-inner-requires
word_places-inner-requires t c =
    let a = c.args in
    let q = c.requires in
    let arm = range_arm a.dims.now a.limits.now _ a.k a.parts.now c.in-len1-up.len_at_least c.in-len1-up-dims.len_at_least c.in-len1-up-limits.len_at_least c.if-first.true q.inside q.limits q.dims q.size q.below c.index-row.result c.count-inner_words.result (word_count (tail a.limits.now)) c.total-words.result c.index-row.ensures c.count-inner_words.ensures refl c.total-words.ensures.words in
    (search rules, (arm.counts, (arm.small, (arm.inside, (arm.limited, arm.below)))))

pub overflow_add-result : goal.overflow_add-result
overflow_add-result t c =
    let a = c.args in
    let q = c.requires in
    let arm = range_arm a.dims.now a.limits.now _ a.k a.parts.now c.in-len1-up.len_at_least c.in-len1-up-dims.len_at_least c.in-len1-up-limits.len_at_least c.if-first.true q.inside q.limits q.dims q.size q.below c.index-row.result c.count-inner_words.result (word_count (tail a.limits.now)) c.total-words.result c.index-row.ensures c.count-inner_words.ensures refl c.total-words.ensures.words in
    let some = count_pos (tail a.dims.now) arm.counts in
    let least = mul-le-mul_left {m = 1} {n = c.count-inner_words.result} (c.index-row.result + a.k / c.total-words.result + 1) (omega (arith, c.count-inner_words.ensures)) in
    omega (arith, arm.row_in)

pub overflow_mul-result : goal.overflow_mul-result
overflow_mul-result t c =
    let a = c.args in
    let q = c.requires in
    let arm = range_arm a.dims.now a.limits.now _ a.k a.parts.now c.in-len1-up.len_at_least c.in-len1-up-dims.len_at_least c.in-len1-up-limits.len_at_least c.if-first.true q.inside q.limits q.dims q.size q.below c.index-row.result c.count-inner_words.result (word_count (tail a.limits.now)) c.total-words.result c.index-row.ensures c.count-inner_words.ensures refl c.total-words.ensures.words in
    omega (arith, arm.row_in)

pub overflow_add-result-then-first : goal.overflow_add-result-then-first
overflow_add-result-then-first t c =
    let a = c.args in
    let q = c.requires in
    let arm = range_arm a.dims.now a.limits.now _ a.k a.parts.now c.in-len1-up.len_at_least c.in-len1-up-dims.len_at_least c.in-len1-up-limits.len_at_least c.if-first.true q.inside q.limits q.dims q.size q.below c.index-row.result c.count-inner_words.result (word_count (tail a.limits.now)) c.total-words.result c.index-row.ensures c.count-inner_words.ensures refl c.total-words.ensures.words in
    omega (arith, arm.row_in, c.word_places-inner.ensures.in_dram, c.count-inner_words.ensures)

pub count-requires-clause-dims : goal.count-requires-clause-dims
count-requires-clause-dims t c =
    let a = c.args in
    let q = c.requires in
    let arm = range_arm a.dims.now a.limits.now _ a.k a.parts.now c.in-len1-up.len_at_least c.in-len1-up-dims.len_at_least c.in-len1-up-limits.len_at_least c.if-first.true q.inside q.limits q.dims q.size q.below c.index-row.result c.count-inner_words.result (word_count (tail a.limits.now)) c.total-words.result c.index-row.ensures c.count-inner_words.ensures refl c.total-words.ensures.words in
    arm.limited.counts

pub overflow_mul-result-then-first : goal.overflow_mul-result-then-first
overflow_mul-result-then-first t c =
    let a = c.args in
    let q = c.requires in
    let arm = range_arm a.dims.now a.limits.now _ a.k a.parts.now c.in-len1-up.len_at_least c.in-len1-up-dims.len_at_least c.in-len1-up-limits.len_at_least c.if-first.true q.inside q.limits q.dims q.size q.below c.index-row.result c.count-inner_words.result c.count.result c.total-words.result c.index-row.ensures c.count-inner_words.ensures c.count.ensures c.total-words.ensures.words in
    omega (arith, arm.down_in, q.limits.small)

pub overflow_add-result-then-first-2 : goal.overflow_add-result-then-first-2
overflow_add-result-then-first-2 t c =
    let a = c.args in
    let q = c.requires in
    let arm = range_arm a.dims.now a.limits.now _ a.k a.parts.now c.in-len1-up.len_at_least c.in-len1-up-dims.len_at_least c.in-len1-up-limits.len_at_least c.if-first.true q.inside q.limits q.dims q.size q.below c.index-row.result c.count-inner_words.result c.count.result c.total-words.result c.index-row.ensures c.count-inner_words.ensures c.count.ensures c.total-words.ensures.words in
    omega (arith, arm.down_in, q.limits.small, c.word_places-inner.ensures.in_chip, c.count.ensures)

pub word_places-inner-requires-else-first : goal.word_places-inner-requires-else-first
word_places-inner-requires-else-first t c =
    let a = c.args in
    let q = c.requires in
    let arm = index_arm a.dims.now a.limits.now _ a.k a.parts.now c.in-len1-up.len_at_least c.in-len1-up-dims.len_at_least c.if-first.false q.inside q.limits q.dims q.size q.below c.index-row.result c.count-inner_words.result c.index-row.ensures c.count-inner_words.ensures in
    (search rules, (arm.counts, (arm.small, (arm.inside, (arm.limited, arm.below)))))

pub returns-in-len1-up-limits-clause-dram : goal.returns-in-len1-up-limits-clause-dram
returns-in-len1-up-limits-clause-dram t c =
    let a = c.args in
    let q = c.requires in
    let arm = range_arm a.dims.now a.limits.now _ a.k a.parts.now c.in-len1-up.len_at_least c.in-len1-up-dims.len_at_least c.in-len1-up-limits.len_at_least c.if-first.true q.inside q.limits q.dims q.size q.below c.index-row.result c.count-inner_words.result c.count.result c.total-words.result c.index-row.ensures c.count-inner_words.ensures c.count.ensures c.total-words.ensures.words in
    arm.dram _ c.word_places-inner.ensures.dram

pub returns-in-len1-up-limits-clause-chip : goal.returns-in-len1-up-limits-clause-chip
returns-in-len1-up-limits-clause-chip t c =
    let a = c.args in
    let q = c.requires in
    let arm = range_arm a.dims.now a.limits.now _ a.k a.parts.now c.in-len1-up.len_at_least c.in-len1-up-dims.len_at_least c.in-len1-up-limits.len_at_least c.if-first.true q.inside q.limits q.dims q.size q.below c.index-row.result c.count-inner_words.result c.count.result c.total-words.result c.index-row.ensures c.count-inner_words.ensures c.count.ensures c.total-words.ensures.words in
    arm.chip _ c.word_places-inner.ensures.chip

pub returns-in-len1-up-limits-clause-in_dram : goal.returns-in-len1-up-limits-clause-in_dram
returns-in-len1-up-limits-clause-in_dram t c =
    let a = c.args in
    let q = c.requires in
    let arm = range_arm a.dims.now a.limits.now _ a.k a.parts.now c.in-len1-up.len_at_least c.in-len1-up-dims.len_at_least c.in-len1-up-limits.len_at_least c.if-first.true q.inside q.limits q.dims q.size q.below c.index-row.result c.count-inner_words.result c.count.result c.total-words.result c.index-row.ensures c.count-inner_words.ensures c.count.ensures c.total-words.ensures.words in
    omega (arith, arm.row_in, c.word_places-inner.ensures.in_dram, c.count-inner_words.ensures)

pub returns-in-len1-up-limits-clause-in_chip : goal.returns-in-len1-up-limits-clause-in_chip
returns-in-len1-up-limits-clause-in_chip t c =
    let a = c.args in
    let q = c.requires in
    let arm = range_arm a.dims.now a.limits.now _ a.k a.parts.now c.in-len1-up.len_at_least c.in-len1-up-dims.len_at_least c.in-len1-up-limits.len_at_least c.if-first.true q.inside q.limits q.dims q.size q.below c.index-row.result c.count-inner_words.result c.count.result c.total-words.result c.index-row.ensures c.count-inner_words.ensures c.count.ensures c.total-words.ensures.words in
    omega (arith, arm.down_in, c.word_places-inner.ensures.in_chip, c.count.ensures)

pub returns-else-first-clause-dram : goal.returns-else-first-clause-dram
returns-else-first-clause-dram t c =
    let a = c.args in
    let q = c.requires in
    let arm = index_arm a.dims.now a.limits.now _ a.k a.parts.now c.in-len1-up.len_at_least c.in-len1-up-dims.len_at_least c.if-first.false q.inside q.limits q.dims q.size q.below c.index-row.result c.count-inner_words.result c.index-row.ensures c.count-inner_words.ensures in
    arm.dram _ c.word_places-inner-else-first.ensures.dram

pub returns-else-first-clause-chip : goal.returns-else-first-clause-chip
returns-else-first-clause-chip t c =
    let a = c.args in
    let q = c.requires in
    let arm = index_arm a.dims.now a.limits.now _ a.k a.parts.now c.in-len1-up.len_at_least c.in-len1-up-dims.len_at_least c.if-first.false q.inside q.limits q.dims q.size q.below c.index-row.result c.count-inner_words.result c.index-row.ensures c.count-inner_words.ensures in
    c.word_places-inner-else-first.ensures.chip ∙ arm.chip

pub returns-else-first-clause-in_dram : goal.returns-else-first-clause-in_dram
returns-else-first-clause-in_dram t c =
    let a = c.args in
    let q = c.requires in
    let arm = index_arm a.dims.now a.limits.now _ a.k a.parts.now c.in-len1-up.len_at_least c.in-len1-up-dims.len_at_least c.if-first.false q.inside q.limits q.dims q.size q.below c.index-row.result c.count-inner_words.result c.index-row.ensures c.count-inner_words.ensures in
    omega (arith, arm.row_in, c.word_places-inner-else-first.ensures.in_dram, c.count-inner_words.ensures)
