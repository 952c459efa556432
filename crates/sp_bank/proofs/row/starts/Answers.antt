use Rattle.std.proofs.Common.{◌≡◌, ◌+◌, ◌<◌, [], ◌∷◌, ℕ, List, pos, get_or, length, take, ap, sym, ◌∙◌, arith, subst, length-append}
use Rattle.std.specs.Int.{int_rem_euclid}
use Rattle.std.specs.List.{All}
use Rattle.sp_bank.specs.Separation.{access, constants, weighted_sum}
use Rattle.sp_bank.proofs.RowLemmas.{each_more, all_more}
use Rattle.sp_bank.proofs.row.starts.Goals as goal

pub loop-first-preserved : goal.loop-first-preserved
loop-first-preserved c =
    let inv = c.loop-first.invariant in
    let n = c.loop-first.first-index in
    let items = c.push_reserved.ensures.items in
    let before = c.args.before.now in
    let Is : ℕ → ℕ → Type 0 = λ i z. pos z ≡
    int_rem_euclid (weighted_sum before (constants (take (length before) (access (length before + 1) c.args.group.now (get_or c.args.firsts.now i 0))))) (pos c.args.period) in
    let value : Is n c.weighted_residue.result =
    c.weighted_residue.ensures.value ∙ ap (λ z. int_rem_euclid (weighted_sum before (constants (take (length before) z))) (pos c.args.period)) c.access_of-access.ensures.forms in
    let S : List ℕ → Type 0 = λ xs. (i : ℕ) → i < n + 1 → Is i (get_or xs i 0) in
    let B : List ℕ → Type 0 = λ xs. All (λ s. s < c.args.period) xs in
    record {
      starts = subst S (sym items) (each_more Is c.loop-first.made.items c.weighted_residue.result n inv.same inv.starts value);
      same = omega (arith, ap length items, length-append c.loop-first.made.items (c.weighted_residue.result ∷ []), inv.same);
      below = subst B (sym items) (all_more (λ s. s < c.args.period) c.loop-first.made.items c.weighted_residue.result inv.below c.weighted_residue.ensures.below);
      room = c.push_reserved.ensures.capacity ∙ inv.room;
    }
