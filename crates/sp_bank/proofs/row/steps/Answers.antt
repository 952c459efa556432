use Rattle.std.proofs.Common.{◌≡◌, ◌+◌, ◌<◌, [], ◌∷◌, ℕ, List, pos, get_or, length, ap, sym, ◌∙◌, arith, rules, subst, FitsSigned, length-append}
use Rattle.std.specs.Int.{w64, int_rem_euclid}
use Rattle.std.specs.List.{All}
use Rattle.std.proofs.lemmas.Int.{to_z-of_z}
use Rattle.sp_bank.specs.Separation.{access, constants}
use Rattle.sp_bank.proofs.ResidueLemmas.{constants-at}
use Rattle.sp_bank.proofs.RowLemmas.{each_more, all_more}
use Rattle.sp_bank.proofs.row.steps.Goals as goal

pub loop-first-preserved : goal.loop-first-preserved
loop-first-preserved c =
    let inv = c.loop-first.invariant in
    let n = c.loop-first.first-index in
    let items = c.push_reserved.ensures.items in
    let forms = c.access_of-access.ensures.forms in
    let Is : ℕ → ℕ → Type 0 = λ i z. pos z ≡ int_rem_euclid (get_or (constants (access (c.args.last + 1) c.args.group.now (get_or c.args.firsts.now i 0))) c.args.last (pos 0)) (pos c.args.period) in
    let fits : FitsSigned w64 c.form.inside.constant = search rules in
    let inside : c.args.last < length c.access_of-access.result.now = omega (arith, c.access_of-access.ensures.rank) in
    let shown : c.form.inside.constant ≡ (get_or c.access_of-access.result.now c.args.last c.index-access-last.result).constant =
    ap (λ f. f.constant) c.form.view_is ∙ ap (λ f. f.constant) c.index-access-last.is in
    let constant = shown ∙ sym (constants-at c.access_of-access.result.now c.args.last c.index-access-last.result inside)
    ∙ ap (λ z. get_or (constants z) c.args.last (pos 0)) forms in
    let value : Is n c.remainder.result = c.remainder.ensures.value ∙ ap (λ z. int_rem_euclid z (pos c.args.period)) (to_z-of_z w64 _ fits ∙ constant) in
    let S : List ℕ → Type 0 = λ xs. (i : ℕ) → i < n + 1 → Is i (get_or xs i 0) in
    let B : List ℕ → Type 0 = λ xs. All (λ s. s < c.args.period) xs in
    record {
      steps = subst S (sym items) (each_more Is c.loop-first.made.items c.remainder.result n inv.same inv.steps value);
      same = omega (arith, ap length items, length-append c.loop-first.made.items (c.remainder.result ∷ []), inv.same);
      below = subst B (sym items) (all_more (λ s. s < c.args.period) c.loop-first.made.items c.remainder.result inv.below c.remainder.ensures.below);
      room = c.push_reserved.ensures.capacity ∙ inv.room;
    }
