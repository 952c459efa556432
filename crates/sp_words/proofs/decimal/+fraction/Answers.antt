use Rattle.std.proofs.Common.{◌≡◌, ◌≤◌, cond, arith}
use Rattle.sp_words.proofs.DecimalLemmas.{fraction_step, fraction_bound}
use Rattle.sp_words.proofs.decimal.+fraction.Goals as goal
use Rattle.sp_words.proofs.decimal.+fraction.Goals.{then-up, else-up}

pub returns-after-up-clause-value : goal.returns-after-up-clause-value
returns-after-up-clause-value t c =
    let e : c.if-up.result ≡ cond c.args.up 9 0 =
    elim c.if-up.branch [ then-up w ↦ rw (w.result-is, w.if-up.true) (omega arith) | else-up w ↦ rw (w.result-is, w.if-up.false) (omega arith) ] in
    fraction_step c.args.up c.args.frac c.from.result c.fraction-below.result c.if-up.result c.args.digits.now
    c.in-len1-up.len_at_least c.from.ensures c.requires.digits c.requires.in_a_word c.fraction-below.ensures.value e

pub returns-after-up-clause-at_most_one : goal.returns-after-up-clause-at_most_one
returns-after-up-clause-at_most_one t c =
    let e : c.if-up.result ≤ 9 =
    elim c.if-up.branch [ then-up w ↦ omega (arith, w.result-is) | else-up w ↦ omega (arith, w.result-is) ] in
    fraction_bound c.args.frac c.from.result c.fraction-below.result c.if-up.result c.args.digits.now
    c.in-len1-up.len_at_least c.from.ensures c.requires.digits c.requires.in_a_word c.fraction-below.ensures.at_most_one e
