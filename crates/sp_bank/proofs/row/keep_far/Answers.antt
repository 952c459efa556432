use Rattle.std.proofs.Common.{◌≡◌, ◌≢◌, ◌+◌, ◌<◌, ◌≤◌, ◌↔◌, ℕ, true, false, get_or, set, length, sym, ◌∙◌, arith, subst, inl, inr}
use Rattle.std.proofs.lemmas.Bool.Decides.{eqb_tells}
use Rattle.std.proofs.lemmas.List.{get_or-set_same, get_or-set_other, length-set}
use Rattle.sp_bank.specs.Row.{ArePlacesFar}
use Rattle.sp_bank.proofs.row.keep_far.Goals as goal

less : (i j : ℕ) → i < j + 1 → i ≢ j → i < j
less i j h n = omega arith

pub loop-last-preserved : goal.loop-last-preserved
loop-last-preserved c =
    let inv = c.loop-last.invariant in
    let last = c.loop-last.last in
    let before = c.args.separating.now in
    let Far : ℕ → Type 0 = λ w. ArePlacesFar c.args.banks c.args.block c.args.starts.now c.args.steps.now w (length c.args.starts.now) in
    let inside : last < length c.loop-last.separating = omega (arith, inv.long, c.loop-last-test.true, c.requires.size.few_banks) in
    let at : get_or (set c.loop-last.separating last c.stays.result) last false ≡ c.stays.result = get_or-set_same c.loop-last.separating last c.stays.result false inside in
    let was = inv.after last (omega arith) in
    record {
      before = λ w h. elim (eqb_tells w last) [
        | inl same ↦
            let P : ℕ → Type 0 = λ n. (get_or (set c.loop-last.separating last c.stays.result) n false ≡ true) ↔ ((get_or before n false ≡ true) × Far n) in
            subst P (sym same.1) (
              λ e. (sym was ∙ (c.stays.ensures.0 (sym at ∙ e)).0, (c.stays.ensures.0 (sym at ∙ e)).1),
              λ both. at ∙ c.stays.ensures.1 (was ∙ both.0, both.1),
            )
        | inr other ↦
            let kept = get_or-set_other c.loop-last.separating last w c.stays.result false other.1 in
            let known = inv.before w (less w last h other.1) in
            (λ e. known.0 (sym kept ∙ e), λ both. kept ∙ known.1 both)
      ];
      after = λ w h. get_or-set_other c.loop-last.separating last w c.stays.result false (λ e. absurd (past w last h e)) ∙ inv.after w (omega arith);
      long = length-set c.loop-last.separating last c.stays.result ∙ inv.long;
    }
  where
    past : (w l : ℕ) → l + 1 ≤ w → w ≡ l → ⊥
    past w l h e = omega arith
