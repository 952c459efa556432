use Rattle.std.proofs.Common.{◌≡◌, ◌+◌, ◌-◌, arith}
use Rattle.sp_seq.specs.declared.digit.Digit.{Digit}
use Rattle.sp_seq.proofs.DigitLemmas.{advance_stepped, advance_more}
use Rattle.sp_seq.proofs.digit.advance.Goals as goal

pub overflow_add-digit : goal.overflow_add-digit
overflow_add-digit c =
    let none : Digit = record { from = 0; by = 0; count = 0; at = 0 } in
    let h = c.carry.invariant in
    let d = h.digits (c.carry.k - 1) none (omega (arith, h.inside, h.same, c.carry-test.true)) in
    omega (arith, d.inside, d.few)

pub overflow_add-digit-then-digit : goal.overflow_add-digit-then-digit
overflow_add-digit-then-digit c =
    let none : Digit = record { from = 0; by = 0; count = 0; at = 0 } in
    let h = c.carry.invariant in
    let d = h.digits (c.carry.k - 1) none (omega (arith, h.inside, h.same, c.carry-test.true)) in
    omega (arith, d.inside, d.few)

pub returns-then-digit-clause-left : goal.returns-then-digit-clause-left
returns-then-digit-clause-left c =
    let none : Digit = record { from = 0; by = 0; count = 0; at = 0 } in
    let k : c.carry.k ≡ c.carry.k - 1 + 1 = omega (arith, c.carry-test.true) in
    advance_stepped c.args.digits.now c.carry.digits c.carry.k (c.carry.k - 1) c.carry.invariant k none c.if-digit.true

pub carry-preserved : goal.carry-preserved
carry-preserved c =
    let none : Digit = record { from = 0; by = 0; count = 0; at = 0 } in
    let k : c.carry.k ≡ c.carry.k - 1 + 1 = omega (arith, c.carry-test.true) in
    advance_more c.args.digits.now c.carry.digits c.carry.k (c.carry.k - 1) c.carry.invariant k none c.if-digit.false
