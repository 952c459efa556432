use Rattle.std.proofs.Common.{◌+◌, ◌-◌, ◌*◌, ◌∙◌, sym, ap, get_or, drop, arith}
use Rattle.sp_setup.proofs.NumberLemmas.{number_with, number_with-drop, le-number_with}
use Rattle.sp_setup.proofs.number.whole_number.Goals as goal

pub returns-in_err-number-clause-number : goal.returns-in_err-number-clause-number
returns-in_err-number-clause-number c =
    let i = c.loop-byte.byte-index in
    let n = c.loop-byte.number * 10 + (get_or c.args.bytes.now i 0 - 48) in
    let step = sym (number_with-drop c.args.bytes.now i c.loop-byte.number c.loop-byte-test.true) ∙ c.loop-byte.invariant.value in
    let low = le-number_with n (drop (i + 1) c.args.bytes.now) in
    let high = c.in_err-number.ensures.number in
    rw c.from_residual.ensures (omega (arith, step, low, high))

pub loop-byte-preserved : goal.loop-byte-preserved
loop-byte-preserved c =
    let i = c.loop-byte.byte-index in
    let step = sym (number_with-drop c.args.bytes.now i c.loop-byte.number c.loop-byte-test.true) ∙ c.loop-byte.invariant.value in
    record {
      value = ap (λ n. number_with n (drop (i + 1) c.args.bytes.now)) c.in_ok-number.ensures.number ∙ step;
      small = c.in_ok-number.ensures.fits;
    }
