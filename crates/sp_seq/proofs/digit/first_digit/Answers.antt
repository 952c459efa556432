use Rattle.std.proofs.Common.{◌<◌, ◌^◌, refl, sym, subst, arith}
use Rattle.sp_seq.proofs.CountLemmas.{length_small, start_of}
use Rattle.sp_seq.proofs.digit.first_digit.Goals as goal

pub overflow_add-result : goal.overflow_add-result
overflow_add-result c =
    let small = subst (λ n. n < 2 ^ 32) (sym c.words_between-len.ensures) (length_small c.args.from c.args.until c.requires.from c.requires.until) in
    let few = c.requires.by.1 in
    omega (arith, c.from-by.ensures)

pub returns-clause-start : goal.returns-clause-start
returns-clause-start c =
    let small = subst (λ n. n < 2 ^ 32) (sym c.words_between-len.ensures) (length_small c.args.from c.args.until c.requires.from c.requires.until) in
    let some = c.requires.by.0 in
    start_of c.args.from c.from-by.result c.words_between-len.result _ c.requires.from (omega (arith, c.from-by.ensures)) small refl
