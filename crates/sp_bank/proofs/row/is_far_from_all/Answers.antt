use Rattle.std.proofs.Common.{◌≡◌, ◌≢◌, ◌+◌, ◌*◌, ◌-◌, ◌<◌, ◌≤◌, ◌⊎◌, ℕ, Bool, true, false, [], get_or, ap, sym, ◌∙◌, subst, arith, inl, inr, refl}
use Rattle.std.proofs.Math.Nat.{mul-le-mul_left}
use Rattle.std.proofs.lemmas.Bool.Decides.{eqb_tells}
use Rattle.sp_bank.specs.Search.{unhinged}
use Rattle.sp_bank.proofs.RowLemmas.{IsUp, IsDown, near_ways, far_decided}
use Rattle.sp_bank.proofs.row.is_far_from_all.Goals as goal

less : (i j : ℕ) → i < j + 1 → i ≢ j → i < j
less i j h n = omega arith

true_false : (b : Bool) → b ≡ true → b ≡ false → ⊥
true_false b e f = let g = sym e ∙ f in cc

same_up : (p x k y r : ℕ) → y < p → r < p → IsUp p x k y → (r ≡ x + k) ⊎ (r + p ≡ x + k) → y ≡ r
same_up p x k y r low low' (inl e) (inl f) = omega arith
same_up p x k y r low low' (inl e) (inr f) = omega arith
same_up p x k y r low low' (inr e) (inl f) = omega arith
same_up p x k y r low low' (inr e) (inr f) = omega arith

same_down : (p x k y r : ℕ) → k ≤ p → y < p → r < p → IsDown p x k y → (r ≡ x + (p - k)) ⊎ (r + p ≡ x + (p - k)) → y ≡ r
same_down p x k y r h low low' (inl e) (inl f) = omega arith
same_down p x k y r h low low' (inl e) (inr f) = omega arith
same_down p x k y r h low low' (inr e) (inl f) = omega arith
same_down p x k y r h low low' (inr e) (inr f) = omega arith

pub loop-distance-preserved : goal.loop-distance-preserved
loop-distance-preserved c y k h low way = elim (eqb_tells k c.loop-distance.distance) [
  | inl same ↦ at way same.1
  | inr other ↦ c.loop-distance.invariant y k (less k c.loop-distance.distance h other.1) low way
]
  where
    low_distance : c.loop-distance.distance ≤ c.args.banks * c.args.block
    low_distance = omega (arith, c.loop-distance-test.true, mul-le-mul_left c.args.block c.requires.size.some_bank)

    at : IsUp (c.args.banks * c.args.block) c.args.place k y ⊎ IsDown (c.args.banks * c.args.block) c.args.place k y → k ≡ c.loop-distance.distance → get_or c.args.taken.now y false ≡ false
    at (inl up) e =
        let P : ℕ → Type 0 = λ n. IsUp (c.args.banks * c.args.block) c.args.place n y in
        let same = same_up (c.args.banks * c.args.block) c.args.place c.loop-distance.distance y c.around.result low c.around.ensures.below (subst P e up) c.around.ensures.same in
        ap (λ z. get_or c.args.taken.now z false) same ∙ c.if-up.false
    at (inr down) e =
        let P : ℕ → Type 0 = λ n. IsDown (c.args.banks * c.args.block) c.args.place n y in
        let r = c.around-in-loop-distance in
        let same = same_down (c.args.banks * c.args.block) c.args.place c.loop-distance.distance y r.result low_distance low r.ensures.below (subst P e down) r.ensures.same in
        ap (λ z. get_or c.args.taken.now z false) same ∙ c.if-down.false

pub returns : goal.returns
returns c = (
  λ _ y low taken.
      elim (far_decided (unhinged c.args.banks c.args.block []) y c.args.place) [
        | inl far ↦ far
        | inr near ↦
            let (k, small, way) = near_ways (unhinged c.args.banks c.args.block []) y c.args.place low c.requires.inside near in
            absurd (true_false (get_or c.args.taken.now y false) taken (c.loop-distance.invariant y k (omega (arith, small, c.loop-distance-test.false)) low way))
      ],
  λ _. refl,
)
