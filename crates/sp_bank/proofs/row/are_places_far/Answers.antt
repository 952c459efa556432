use Rattle.std.proofs.Common.{◌≡◌, ◌≢◌, ◌+◌, ◌*◌, ◌<◌, ◌≤◌, ℕ, [], Bool, true, false, get_or, set, length, replicate, refl, ap, sym, ◌∙◌, arith, subst, ◌⊎◌, inl, inr}
use Rattle.std.proofs.lemmas.Bool.Decides.{eqb_tells}
use Rattle.std.proofs.lemmas.List.{get_or-set_same, get_or-set_other, length-set}
use Rattle.std.proofs.lemmas.Nat.{mod_below, mul-le, mul-lt}
use Rattle.sp_bank.specs.Row.{place_of}
use Rattle.sp_bank.specs.Search.{unhinged}
use Rattle.sp_bank.specs.Separation.{AreFar}
use Rattle.sp_bank.proofs.ApartLemmas.{block_positive}
use Rattle.sp_bank.proofs.RowLemmas.{get_or-all_false}
use Rattle.sp_bank.proofs.row.are_places_far.Goals as goal

less : (i j : ℕ) → i < j + 1 → i ≢ j → i < j
less i j h n = omega arith

true_false : (b : Bool) → b ≡ true → b ≡ false → ⊥
true_false b e f = let g = sym e ∙ f in cc

pub loop-i-init : goal.loop-i-init
loop-i-init c = record {
  far = λ i j h k. absurd (omega arith);
  only = λ y e. absurd (true_false (get_or (replicate 128 false) y false) e (get_or-all_false (replicate 128 false) y refl));
  taken = λ j h. absurd (omega arith);
  long = refl;
}

pub loop-i-preserved : goal.loop-i-preserved
loop-i-preserved c =
    let inv = c.loop-i.invariant in
    let period : ℕ = c.args.banks * c.args.block in
    let at : ℕ → ℕ = λ j. place_of (c.args.banks * c.args.block) c.args.starts.now c.args.steps.now c.args.last j in
    let i = c.loop-i.i in
    let some : 0 < c.args.banks * c.args.block = mul-lt 0 0 c.args.banks c.args.block (omega (arith, c.requires.size.some_bank)) (block_positive c.args.block c.requires.size.allowed_block) in
    let low : (j : ℕ) → at j < c.args.banks * c.args.block = λ j. mod_below _ (c.args.banks * c.args.block) some in
    let small : c.args.banks * c.args.block ≤ 128 = mul-le c.args.banks c.args.block 32 4 c.requires.size.few_banks (four c.args.block c.requires.size.allowed_block) in
    let inside : at i < length c.loop-i.taken = omega (arith, low i, small, inv.long) in
    let far_at : (a : ℕ) → a < i → AreFar (unhinged c.args.banks c.args.block []) (at a) (at i) =
    λ a h. c.is_far_from_all.ensures.0 c.if-not-is_far_from_all.false (at a) (low a) (inv.taken a h) in
    record {
      far = λ a b h k. elim (eqb_tells b i) [
        | inl same ↦
            let P : ℕ → Type 0 = λ n. AreFar (unhinged c.args.banks c.args.block []) (at a) (at n) in
            subst P (sym same.1) (far_at a (omega (arith, h, same.1)))
        | inr other ↦ inv.far a b h (less b i k other.1)
      ];
      only = λ y e. elim (eqb_tells y (at i)) [
        | inl same ↦ (i, omega arith, sym same.1)
        | inr other ↦
            let (j, h, is) = inv.only y (sym (get_or-set_other c.loop-i.taken (at i) y true false other.1) ∙ e) in
            (j, omega (arith, h), is)
      ];
      taken = λ j h. elim (eqb_tells (at j) (at i)) [
        | inl same ↦ ap (λ z. get_or (set c.loop-i.taken (at i) true) z false) same.1 ∙ get_or-set_same c.loop-i.taken (at i) true false inside
        | inr other ↦
            get_or-set_other c.loop-i.taken (at i) (at j) true false other.1
            ∙ inv.taken j (less j i h (λ e. other.1 (ap at e)))
      ];
      long = length-set c.loop-i.taken (at i) true ∙ inv.long;
    }
  where
    four : (b : ℕ) → (b ≡ 1) ⊎ ((b ≡ 2) ⊎ (b ≡ 4)) → b ≤ 4
    four b (inl e) = omega arith
    four b (inr (inl e)) = omega arith
    four b (inr (inr e)) = omega arith
