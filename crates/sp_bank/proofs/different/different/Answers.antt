use Rattle.std.proofs.Common.{◌≡◌, ◌≢◌, ◌+◌, ◌<◌, ◌++◌, ℕ, Bool, true, false, [], ◌∷◌, length, get_or, ap, sym, ◌∙◌, arith, inl, inr, subst, List, length-append}
use Rattle.std.proofs.lemmas.Bool.Decides.{eqb_tells}
use Rattle.sp_bank.specs.Separation.{AreDifferent, IsListed, access, constants}
use Rattle.sp_bank.proofs.Pigeons.{added, listed_more, listed_last}
use Rattle.sp_bank.proofs.different.different.Goals as goal
use Rattle.sp_bank.proofs.different.different.Goals.{then-not-is_listed, else-not-is_listed}

-- what holds of the accesses before u, and of u, holds of those before u + 1
one_more : (P : ℕ → Type 0) (u : ℕ) → ((v : ℕ) → v < u → P v) → P u → (v : ℕ) → v < u + 1 → P v
one_more P u before at v h = elim (eqb_tells v u) [
  | inl same ↦ subst P (sym same.1) at
  | inr other ↦ before v (less v u h other.1)
]
  where
    less : (i j : ℕ) → i < j + 1 → i ≢ j → i < j
    less i j h n = omega arith

pub loop-u-preserved : goal.loop-u-preserved
loop-u-preserved c =
    let inv = c.loop-u.invariant in
    let rank = c.args.rank in
    let group = c.args.group.now in
    let u = c.loop-u.u in
    elim c.if-not-is_listed.branch [
      | then-not-is_listed w ↦
          let items : c.if-not-is_listed.firsts.items ≡ c.loop-u.firsts.items ++ u ∷ [] = ap (λ z. z.items) w.firsts-is ∙ w.push_reserved.ensures.items in
          let N : List ℕ → Type 0 = λ z. (i : ℕ) → i < length z → constants (access rank group (get_or z i 0)) ≢ constants (access rank group u) in
          let new = subst N c.as_slice.ensures (c.is_listed.ensures.new (λ t. not_both c.is_listed.result w.if-not-is_listed.true t)) in
          let D : List ℕ → Type 0 = λ z. AreDifferent rank group z in
          let L : List ℕ → Type 0 = λ z. (v : ℕ) → v < u + 1 → IsListed rank group z v in
          record {
            different = subst D (sym items) (added rank group c.loop-u.firsts.items u inv.different (omega arith) new);
            listed = subst L (sym items)
                (one_more (λ v. IsListed rank group (c.loop-u.firsts.items ++ u ∷ []) v) u
                (λ v h. listed_more rank group c.loop-u.firsts.items u v (inv.listed v h)) (listed_last rank group c.loop-u.firsts.items u));
            room = ap (λ z. z.capacity) w.firsts-is ∙ w.push_reserved.ensures.capacity ∙ inv.room;
            few = omega (arith, ap length items, length-append c.loop-u.firsts.items (u ∷ []), inv.few, c.if-len-eq33.false, c.len.ensures.value);
          }
      | else-not-is_listed w ↦
          let items : c.if-not-is_listed.firsts.items ≡ c.loop-u.firsts.items = ap (λ z. z.items) w.firsts-is in
          let I : List ℕ → Type 0 = λ z. IsListed rank group z u in
          let known = subst I c.as_slice.ensures (c.is_listed.ensures.listed w.if-not-is_listed.false) in
          let D : List ℕ → Type 0 = λ z. AreDifferent rank group z in
          let L : List ℕ → Type 0 = λ z. (v : ℕ) → v < u + 1 → IsListed rank group z v in
          record {
            different = subst D (sym items) inv.different;
            listed = subst L (sym items) (one_more (λ v. IsListed rank group c.loop-u.firsts.items v) u inv.listed known);
            room = ap (λ z. z.capacity) w.firsts-is ∙ inv.room;
            few = omega (arith, ap length items, inv.few);
          }
    ]
  where
    not_both : (b : Bool) → b ≡ false → b ≡ true → ⊥
    not_both b e f = let g = sym e ∙ f in cc
