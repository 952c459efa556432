use Rattle.std.proofs.Common.{◌≡◌, ◌*◌, ◌↔◌, ℕ, List, length, ap, sym, ◌∙◌, subst}
use Rattle.sp_bank.specs.Row.{AreStarts, AreSteps, ArePlacesFar}
use Rattle.sp_bank.proofs.RowSeparates.{row_separates}
use Rattle.sp_bank.proofs.row.keep_separating.Goals as goal

pub returns : goal.returns
returns c w low =
    let before = c.args.before.now in
    let group = c.args.group.now in
    let us = c.different-firsts.result.items in
    let S : List ℕ → Type 0 = λ z. AreStarts before (c.args.banks * c.args.block) group z c.starts-starts.result.items in
    let T : List ℕ → Type 0 = λ z. AreSteps (length before) (c.args.banks * c.args.block) group z c.steps-steps.result.items in
    let starts = c.starts-starts.result.items in
    let steps = c.steps-steps.result.items in
    let decided = row_separates before c.args.banks c.args.block w group us starts steps c.requires.size c.requires.group
    c.different-firsts.ensures.different (subst S c.as_slice.ensures c.starts-starts.ensures.starts) (subst T c.as_slice-2.ensures c.steps-steps.ensures.steps)
    c.different-firsts.ensures.all in
    let count : length c.as_slice-3.result.now ≡ length us =
    ap length c.as_slice-3.ensures ∙ c.starts-starts.ensures.same ∙ ap length c.as_slice.ensures in
    let K : List ℕ → List ℕ → ℕ → Type 0 = λ xs ys n. ArePlacesFar c.args.banks c.args.block xs ys w n in
    let far : ArePlacesFar c.args.banks c.args.block c.as_slice-3.result.now c.as_slice-4.result.now w (length c.as_slice-3.result.now) ↔
    ArePlacesFar c.args.banks c.args.block starts steps w (length us) = (
      λ f. subst (λ n. K starts steps n) count (subst (λ ys. K starts ys (length c.as_slice-3.result.now)) c.as_slice-4.ensures
          (subst (λ xs. K xs c.as_slice-4.result.now (length c.as_slice-3.result.now)) c.as_slice-3.ensures f)),
      λ f. subst (λ xs. K xs c.as_slice-4.result.now (length c.as_slice-3.result.now)) (sym c.as_slice-3.ensures)
          (subst (λ ys. K starts ys (length c.as_slice-3.result.now)) (sym c.as_slice-4.ensures) (subst (λ n. K starts steps n) (sym count) f)),
    ) in
    let kept = c.keep_far.ensures w low in (
      λ e. ((kept.0 e).0, decided.0 (far.0 (kept.0 e).1)),
      λ both. kept.1 (both.0, far.1 (decided.1 both.1)),
    )
