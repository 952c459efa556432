use Rattle.std.proofs.Common.{◌≡◌, ◌+◌, ◌<◌, ◌≤◌, pos, length, get_or, take, ap, sym, ◌∙◌, arith, rules, FitsSigned, to_z, ℕ, Bool, true, false, refl}
use Rattle.std.specs.Int.{w64, w128}
use Rattle.std.specs.Prelude.{Option, Some, None}
use Rattle.std.specs.Option.{is_some}
use Rattle.std.proofs.lemmas.Int.{to_z-of_z}
use Rattle.std.proofs.lemmas.List.{take_all}
use Rattle.sp_affine.specs.Interval.{least_product, greatest_product}
use Rattle.sp_affine.proofs.Box.{lows, highs, lows-take, highs-take, least_product_small, greatest_product_small, product_fits, sum_fits, sum_reaches, more, range_of}
use Rattle.sp_affine.proofs.range.interval.Goals as goal

pub product_range-least-requires : goal.product_range-least-requires
product_range-least-requires c =
    let coefs : c.deref-coef-items.result.now ≡ c.args.form.now.coefs = cc in
    let inside : c.loop-i.i < length c.args.ranges.now = omega (arith, c.loop-i-test.true, ap length coefs) in
    c.requires.in_order c.loop-i.i _ inside

pub overflow_add-low : goal.overflow_add-low
overflow_add-low c =
    let coefs : c.deref-coef-items.result.now ≡ c.args.form.now.coefs = cc in
    let inside : c.loop-i.i < length c.args.ranges.now = omega (arith, c.loop-i-test.true, ap length coefs) in
    let fits : FitsSigned w64 (get_or c.args.form.now.coefs c.loop-i.i (pos 0)) = search rules in
    let range = c.requires.in_order c.loop-i.i (pos 0, pos 0) inside in
    let early : c.loop-i.i < 1024 = omega arith in
    let least = rw (coefs, to_z-of_z w64 _ fits) at c.product_range-least.ensures.least in
    let low_small = least_product_small _ _ fits range in
    let low_product_fits = product_fits _ _ least low_small in
    let low_fits = sum_fits c.loop-i.i _ _ _ early c.loop-i.invariant.low_reach least low_small in
    rw (to_z-of_z w128 _ low_product_fits) low_fits

pub overflow_add-high : goal.overflow_add-high
overflow_add-high c =
    let coefs : c.deref-coef-items.result.now ≡ c.args.form.now.coefs = cc in
    let inside : c.loop-i.i < length c.args.ranges.now = omega (arith, c.loop-i-test.true, ap length coefs) in
    let fits : FitsSigned w64 (get_or c.args.form.now.coefs c.loop-i.i (pos 0)) = search rules in
    let range = c.requires.in_order c.loop-i.i (pos 0, pos 0) inside in
    let early : c.loop-i.i < 1024 = omega arith in
    let greatest = rw (coefs, to_z-of_z w64 _ fits) at c.product_range-least.ensures.greatest in
    let high_small = greatest_product_small _ _ fits range in
    let high_product_fits = product_fits _ _ greatest high_small in
    let high_fits = sum_fits c.loop-i.i _ _ _ early c.loop-i.invariant.high_reach greatest high_small in
    rw (to_z-of_z w128 _ high_product_fits) high_fits

pub loop-i-preserved : goal.loop-i-preserved
loop-i-preserved c =
    let coefs : c.deref-coef-items.result.now ≡ c.args.form.now.coefs = cc in
    let inside : c.loop-i.i < length c.args.ranges.now = omega (arith, c.loop-i-test.true, ap length coefs) in
    let fits : FitsSigned w64 (get_or c.args.form.now.coefs c.loop-i.i (pos 0)) = search rules in
    let range = c.requires.in_order c.loop-i.i (pos 0, pos 0) inside in
    let early : c.loop-i.i < 1024 = omega arith in
    let least = rw (coefs, to_z-of_z w64 _ fits) at c.product_range-least.ensures.least in
    let low_small = least_product_small _ _ fits range in
    let low_product_fits = product_fits _ _ least low_small in
    let low_fits = sum_fits c.loop-i.i _ _ _ early c.loop-i.invariant.low_reach least low_small in
    let greatest = rw (coefs, to_z-of_z w64 _ fits) at c.product_range-least.ensures.greatest in
    let high_small = greatest_product_small _ _ fits range in
    let high_product_fits = product_fits _ _ greatest high_small in
    let high_fits = sum_fits c.loop-i.i _ _ _ early c.loop-i.invariant.high_reach greatest high_small in
    let below : c.loop-i.i < length c.args.form.now.coefs = omega (arith, c.loop-i-test.true, ap length coefs) in
    record {
      is_low = rw (to_z-of_z w128 _ low_product_fits, to_z-of_z w128 _ low_fits)
          (more (to_z w128 c.loop-i.low-bits) c.product_range-least.result.0 c.args.form.now.constant
          (lows (take c.loop-i.i c.args.form.now.coefs) (take c.loop-i.i c.args.ranges.now))
          (least_product (get_or c.args.form.now.coefs c.loop-i.i (pos 0)) (get_or c.args.ranges.now c.loop-i.i (pos 0, pos 0)))
          (lows (take (c.loop-i.i + 1) c.args.form.now.coefs) (take (c.loop-i.i + 1) c.args.ranges.now))
          c.loop-i.invariant.is_low least
          (lows-take c.args.form.now.coefs c.args.ranges.now c.loop-i.i (pos 0, pos 0) c.requires.one_each below));
      is_high = rw (to_z-of_z w128 _ high_product_fits, to_z-of_z w128 _ high_fits)
          (more (to_z w128 c.loop-i.high-bits) c.product_range-least.result.1 c.args.form.now.constant
          (highs (take c.loop-i.i c.args.form.now.coefs) (take c.loop-i.i c.args.ranges.now))
          (greatest_product (get_or c.args.form.now.coefs c.loop-i.i (pos 0)) (get_or c.args.ranges.now c.loop-i.i (pos 0, pos 0)))
          (highs (take (c.loop-i.i + 1) c.args.form.now.coefs) (take (c.loop-i.i + 1) c.args.ranges.now))
          c.loop-i.invariant.is_high greatest
          (highs-take c.args.form.now.coefs c.args.ranges.now c.loop-i.i (pos 0, pos 0) c.requires.one_each below));
      low_reach = rw (to_z-of_z w128 _ low_product_fits, to_z-of_z w128 _ low_fits) (sum_reaches c.loop-i.i _ _ _ c.loop-i.invariant.low_reach least low_small);
      high_reach = rw (to_z-of_z w128 _ high_product_fits, to_z-of_z w128 _ high_fits) (sum_reaches c.loop-i.i _ _ _ c.loop-i.invariant.high_reach greatest high_small);
    }

no_symbol : (o : Option ℕ) (there : Bool) → there ≡ is_some o → there ≡ false → o ≡ None
no_symbol None there e h = refl
no_symbol (Some n) there e h = absurd (apart there e h)
  where
    apart : (b : Bool) → b ≡ true → b ≡ false → ⊥
    apart b x y = let z = sym x ∙ y in cc

pub returns-clause-range : goal.returns-clause-range
returns-clause-range c =
    let coefs : c.deref-coef-items.result.now ≡ c.args.form.now.coefs = cc in
    let past_coefs : length c.args.form.now.coefs ≤ c.loop-i.i = omega (arith, c.loop-i-test.false, ap length coefs) in
    let past_ranges : length c.args.ranges.now ≤ c.loop-i.i = omega arith in
    let symbol = no_symbol _ _ c.is_some.ensures c.if-is_some.false in
    let none : c.args.form.now.symbol ≡ None = ap (λ f. f.symbol) (sym c.form.view_is) ∙ symbol in
    range_of c.args.form.now c.args.ranges.now _ _ none c.requires.one_each c.requires.in_order
    (rw (take_all c.loop-i.i c.args.form.now.coefs past_coefs, take_all c.loop-i.i c.args.ranges.now past_ranges) at c.loop-i.invariant.is_low)
    (rw (take_all c.loop-i.i c.args.form.now.coefs past_coefs, take_all c.loop-i.i c.args.ranges.now past_ranges) at c.loop-i.invariant.is_high)
