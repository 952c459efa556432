use Rattle.std.proofs.Common.{◌≡◌, ◌+◌, ◌*◌, ◌<◌, ◌≤◌, ℤ, pos, length, get_or, ap, sym, ◌∙◌, arith, rules, subst, FitsSigned}
use Rattle.std.specs.Int.{w64, int_rem_euclid}
use Rattle.std.proofs.lemmas.Int.{to_z-of_z}
use Rattle.std.proofs.lemmas.List.{take_all, length-map}
use Rattle.sp_bank.specs.Separation.{constants}
use Rattle.sp_bank.proofs.ResidueLemmas.{IsCongruent, congruent_zero, congruent_more, weighted_sum-take, residue_from_congruent, constants-at, step_small}
use Rattle.sp_bank.proofs.residue.weighted_residue.Goals as goal

pub loop-i-init : goal.loop-i-init
loop-i-init c = record { congruent = congruent_zero c.args.period; small = omega arith }

pub loop-i-preserved : goal.loop-i-preserved
loop-i-preserved c =
    let count : length (constants c.args.access.now) ≡ length c.args.alpha.now = length-map c.args.access.now (λ f. f.constant) ∙ c.requires.rank in
    let below : c.loop-i.i < length c.args.alpha.now = omega arith in
    let fits : FitsSigned w64 c.form.inside.constant = search rules in
    let shown : c.form.inside.constant ≡ (get_or c.args.access.now c.loop-i.i c.index-access-i.result).constant =
    ap (λ f. f.constant) c.form.view_is ∙ ap (λ f. f.constant) c.index-access-i.is in
    let constant = shown ∙ sym (constants-at c.args.access.now c.loop-i.i c.index-access-i.result c.loop-i-test.true) in
    let value = c.remainder.ensures.value ∙ ap (λ z. int_rem_euclid z (pos c.args.period)) (to_z-of_z w64 _ fits ∙ constant) in
    let W : ℤ → Type 0 = λ z. IsCongruent c.args.period z (c.loop-i.sum + get_or c.args.alpha.now c.loop-i.i 0 * c.remainder.result) in
    record {
      congruent = subst W (sym (weighted_sum-take c.args.alpha.now (constants c.args.access.now) c.loop-i.i count below))
          (congruent_more c.args.period _ c.loop-i.sum (get_or c.args.alpha.now c.loop-i.i 0) _ c.remainder.result c.requires.some c.loop-i.invariant.congruent value);
      small = step_small c.loop-i.sum c.loop-i.i (get_or c.args.alpha.now c.loop-i.i 0) c.remainder.result c.loop-i.invariant.small
          (c.requires.weights c.loop-i.i 0 below) (omega (arith, c.remainder.ensures.below));
    }

pub returns-clause-value : goal.returns-clause-value
returns-clause-value c =
    let past : length c.args.alpha.now ≤ c.loop-i.i = omega arith in
    let count : length (constants c.args.access.now) ≤ c.loop-i.i = omega (arith, length-map c.args.access.now (λ f. f.constant)) in
    residue_from_congruent c.args.period _ _ c.requires.some
    (rw (take_all c.loop-i.i c.args.alpha.now past, take_all c.loop-i.i (constants c.args.access.now) count) at c.loop-i.invariant.congruent)
