use Rattle.std.proofs.Common.{◌≡◌, ◌<◌, pos, length, get_or, ap, sym, ◌∙◌, arith, rules, FitsSigned, of_z, to_z}
use Rattle.std.specs.Int.{w64}
use Rattle.std.proofs.lemmas.Int.{to_z-of_z}
use Rattle.std.proofs.lemmas.List.{take_more_same, length-map}
use Rattle.sp_bank.specs.Separation.{constants}
use Rattle.sp_bank.proofs.ResidueLemmas.{constants-at}
use Rattle.sp_bank.proofs.separation.have_same_constants.Goals as goal

pub returns-then-form-other : goal.returns-then-form-other
returns-then-form-other c =
    let inside_b : c.loop-i.i < length c.args.b.now = omega arith in
    let first = ap (λ f. f.constant) c.form.view_is ∙ ap (λ f. f.constant) c.index-a-i.is ∙ sym (constants-at c.args.a.now c.loop-i.i c.index-a-i.result c.loop-i-test.true) in
    let second = ap (λ f. f.constant) c.other.view_is ∙ ap (λ f. f.constant) c.index-b-i.is ∙ sym (constants-at c.args.b.now c.loop-i.i c.index-b-i.result inside_b) in (
      λ h. cc,
      λ same. absurd (c.if-form-other.true (ap (of_z w64) (first ∙ ap (λ xs. get_or xs c.loop-i.i (pos 0)) same ∙ sym second))),
    )

pub loop-i-preserved : goal.loop-i-preserved
loop-i-preserved c =
    let inside_b : c.loop-i.i < length c.args.b.now = omega arith in
    let first = ap (λ f. f.constant) c.form.view_is ∙ ap (λ f. f.constant) c.index-a-i.is ∙ sym (constants-at c.args.a.now c.loop-i.i c.index-a-i.result c.loop-i-test.true) in
    let second = ap (λ f. f.constant) c.other.view_is ∙ ap (λ f. f.constant) c.index-b-i.is ∙ sym (constants-at c.args.b.now c.loop-i.i c.index-b-i.result inside_b) in
    let fits_a : FitsSigned w64 c.form.inside.constant = search rules in
    let fits_b : FitsSigned w64 c.other.inside.constant = search rules in
    let equal : c.form.inside.constant ≡ c.other.inside.constant =
    sym (to_z-of_z w64 _ fits_a) ∙ ap (to_z w64) c.if-form-other.false ∙ to_z-of_z w64 _ fits_b in
    take_more_same (constants c.args.a.now) (constants c.args.b.now) c.loop-i.i (pos 0)
    (omega (arith, c.loop-i-test.true, length-map c.args.a.now (λ f. f.constant)))
    (omega (arith, inside_b, length-map c.args.b.now (λ f. f.constant)))
    c.loop-i.invariant (sym first ∙ equal ∙ second)
