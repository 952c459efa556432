use Rattle.std.proofs.Common.{arith, rules, ◌≡◌, Err, Result, refl}
use Rattle.std.proofs.lemmas.Grind.{common_steps}
use Rattle.std.specs.Int.{w64}
use Rattle.sp_affine.specs.declared.form.Form.{Form}
use Rattle.sp_affine.specs.declared.form.FormError.{FormError}
use Rattle.sp_affine.specs.declared.form.FormError.TheVariants.{Wide, Symbols}
use Rattle.std.proofs.lemmas.Int.{to_z-of_z}
use Rattle.sp_affine.proofs.Values.{value_of-multiple}
use Rattle.sp_affine.proofs.arithmetic.scale.Goals as goal

pub returns-clause-form : goal.returns-clause-form
returns-clause-form c = first_of (search rules, grind (arith, common_steps))

pub returns-clause-value : goal.returns-clause-value
returns-clause-value c counters symbols = value_of-multiple _ c.args.a.now c.args.by (returns-clause-form c) counters symbols

pub returns-then-not-all_multiples_fit-clause-wide : goal.returns-then-not-all_multiples_fit-clause-wide
returns-then-not-all_multiples_fit-clause-wide c =
    let same = to_z-of_z w64 c.args.by c.ranges.by in
    let fits = rw same at c.all_multiples_fit.ensures in
    first_of (search rules, grind (arith, common_steps))

apart : (x y : Result Form FormError) → x ≡ Err Wide → y ≡ Err Symbols → x ≡ y → ⊥
apart x y h k e = cc

pub returns-then-not-all_multiples_fit-clause-symbols : goal.returns-then-not-all_multiples_fit-clause-symbols
returns-then-not-all_multiples_fit-clause-symbols c =
    let same = to_z-of_z w64 c.args.by c.ranges.by in
    let coefs : c.deref.result.now ≡ c.args.a.now.coefs = cc in
    let fits = rw (same, coefs) at c.all_multiples_fit.ensures in
    (λ e. absurd (apart _ _ refl refl e), λ h. let narrow = fits.1 h.0.0 in absurd (cc))

pub returns-in_err-constant-clause-wide : goal.returns-in_err-constant-clause-wide
returns-in_err-constant-clause-wide c =
    let same = to_z-of_z w64 c.args.by c.ranges.by in
    let fits = rw same at c.all_multiples_fit.ensures in
    first_of (search rules, grind (arith, common_steps))

pub returns-in_err-symbol-clause-symbols : goal.returns-in_err-symbol-clause-symbols
returns-in_err-symbol-clause-symbols c =
    let same = to_z-of_z w64 c.args.by c.ranges.by in
    let fits = rw same at c.all_multiples_fit.ensures in
    first_of (search rules, grind (arith, common_steps))

pub returns-in_err-coefs-clause-wide : goal.returns-in_err-coefs-clause-wide
returns-in_err-coefs-clause-wide c =
    let same = to_z-of_z w64 c.args.by c.ranges.by in
    let fits = rw same at c.all_multiples_fit.ensures in
    first_of (search rules, grind (arith, common_steps))

pub returns-clause-wide : goal.returns-clause-wide
returns-clause-wide c =
    let same = to_z-of_z w64 c.args.by c.ranges.by in
    let fits = rw same at c.all_multiples_fit.ensures in
    first_of (search rules, grind (arith, common_steps))
