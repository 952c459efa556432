-- A run begins after those of earlier beats and after those before it in its chain, and within the whole.
use Rattle.std.proofs.Common.{◌≡◌, ℕ, zero, suc, ◌+◌, ◌-◌, ◌<◌, ◌≤◌, Bool, true, false, cond, List, length, nat_le, inl, inr, arith, sym, subst, ap, ◌∙◌, le-leb}
use Rattle.std.proofs.lemmas.Bool.{and_from, eq-eqb}
use Rattle.sp_time.specs.Beats.{Slot, slot_at, is_slot, beat_count, offset, ends, beat, begins, first_cycle, starts, whole}
use Rattle.sp_time.specs.Orders.{Precedes}
use Rattle.sp_time.specs.Lists.{total, greatest}
use Rattle.sp_time.proofs.ListLemmas.{total_mono, total_le, greatest_ge, greatest_le}

module _ (slots : List Slot) (took : ℕ → ℕ → ℕ) where
  -- a run ends within its beat
  ends_le : (k s : ℕ) → s < length slots → ends slots took k s ≤ beat slots took (k + (slot_at slots s).slot)
  ends_le k s h = let g = (slot_at slots s).slot in
      let e : cond (nat_le g (k + g)) (ends slots took (k + g - g) s) 0 ≡ ends slots took k s =
      ap (λ b. cond b (ends slots took (k + g - g) s) 0) (le-leb g (k + g) (omega arith)) ∙ ap (λ n. ends slots took n s) (omega arith) in
      let h2 : cond (nat_le g (k + g)) (ends slots took (k + g - g) s) 0 ≤ beat slots took (k + g) = greatest_ge (λ j. cond (nat_le (slot_at slots j).slot (k + g)) (ends slots took (k + g - (slot_at slots j).slot) j) 0) (length slots) s h in
      subst (λ n. n ≤ beat slots took (k + g)) e h2

  begins_after : (a b : ℕ) → a < b → suc (begins slots took a + beat slots took a) ≤ begins slots took b
  begins_after a b h = let k : begins slots took (suc a) ≤ begins slots took b = total_mono (λ c. suc (beat slots took c)) (suc a) b h in omega arith

  pub chain_le : (k s r : ℕ) → slot_at slots s ≡ slot_at slots r → s < r → offset slots took k s + took k s ≤ offset slots took k r
  chain_le k s r e h =
      let f = λ (j : ℕ). cond (is_slot (slot_at slots j) (slot_at slots r)) (took k j) 0 in
      let same : offset slots took k s ≡ total f s = ap (λ x. total (λ j. cond (is_slot (slot_at slots j) x) (took k j) 0) s) e in
      let here : f s ≡ took k s = ap (λ b. cond b (took k s) 0) (and_from _ _ (eq-eqb _ _ (ap (λ x. x.slot) e)) (eq-eqb _ _ (ap (λ x. x.chain) e))) in
      let up : total f (suc s) ≤ total f r = total_mono f (suc s) r h in
      omega arith

  pub starts_after : (k s l r : ℕ) → s < length slots → Precedes slots k s l r → starts slots took k s + took k s ≤ starts slots took l r
  starts_after k s l r h (inl lt) =
      let a : ends slots took k s ≤ beat slots took (k + (slot_at slots s).slot) = ends_le k s h in
      let b : suc (begins slots took (k + (slot_at slots s).slot) + beat slots took (k + (slot_at slots s).slot)) ≤ begins slots took (l + (slot_at slots r).slot) = begins_after _ _ lt in
      omega arith
  starts_after k s l r h (inr same) =
      let a : offset slots took k s + took k s ≤ offset slots took k r = chain_le k s r same.1 same.2 in
      let b : starts slots took l r ≡ suc (first_cycle slots took (k + (slot_at slots s).slot)) + offset slots took k r =
      ap (λ n. starts slots took n r) (sym same.0) ∙ ap (λ x. suc (first_cycle slots took (k + x.slot)) + offset slots took k r) (sym same.1) in
      subst (λ n. starts slots took k s + took k s ≤ n) (sym b) (omega arith)

  pub over_before : (k s b : ℕ) → s < length slots → k + (slot_at slots s).slot < b → starts slots took k s + took k s ≤ first_cycle slots took b
  over_before k s b h lt =
      let a : ends slots took k s ≤ beat slots took (k + (slot_at slots s).slot) = ends_le k s h in
      let c : suc (begins slots took (k + (slot_at slots s).slot) + beat slots took (k + (slot_at slots s).slot)) ≤ begins slots took b = begins_after _ _ lt in
      omega arith

  begins_no_later : (a b : ℕ) → a ≤ b → begins slots took a ≤ begins slots took b
  begins_no_later a b h = total_mono (λ c. suc (beat slots took c)) a b h

  pub begun_after : (k s b : ℕ) → b ≤ k + (slot_at slots s).slot → first_cycle slots took b < starts slots took k s
  begun_after k s b h = let a : begins slots took b ≤ begins slots took (k + (slot_at slots s).slot) = begins_no_later b _ h in omega arith

  pub starts_within : (groups k s : ℕ) → k < groups → s < length slots → suc (starts slots took k s + took k s) ≤ whole slots took groups
  starts_within zero k s hk hs = absurd (omega arith)
  starts_within (suc n) k s hk hs =
      let last = greatest (λ j. (slot_at slots j).slot) (length slots) in
      let top : (slot_at slots s).slot ≤ last = greatest_ge (λ j. (slot_at slots j).slot) (length slots) s hs in
      let a : ends slots took k s ≤ beat slots took (k + (slot_at slots s).slot) = ends_le k s hs in
      let b : suc (begins slots took (k + (slot_at slots s).slot) + beat slots took (k + (slot_at slots s).slot)) ≤ begins slots took (suc n + last) = begins_after _ _ (omega arith) in
      omega arith

-- where no run takes longer than it costs, all takes no longer than it would by the costs
module _ (slots : List Slot) (took costs : ℕ → ℕ → ℕ) (h : (k s : ℕ) → took k s ≤ costs k s) where
  offset_le : (k s : ℕ) → offset slots took k s ≤ offset slots costs k s
  offset_le k s = total_le _ _ s (λ j lt. choice (is_slot (slot_at slots j) (slot_at slots s)) _ _ (h k j))
    where
      choice : (b : Bool) (x y : ℕ) → x ≤ y → cond b x 0 ≤ cond b y 0
      choice true x y le = le
      choice false x y le = omega arith

  beat_le : (b : ℕ) → beat slots took b ≤ beat slots costs b
  beat_le b = greatest_le _ _ (length slots) (λ s lt. choice (nat_le (slot_at slots s).slot b) _ _
      (let a : offset slots took (b - (slot_at slots s).slot) s ≤ offset slots costs (b - (slot_at slots s).slot) s = offset_le _ s in
      let c : took (b - (slot_at slots s).slot) s ≤ costs (b - (slot_at slots s).slot) s = h _ s in omega arith))
    where
      choice : (b : Bool) (x y : ℕ) → x ≤ y → cond b x 0 ≤ cond b y 0
      choice true x y le = le
      choice false x y le = omega arith

  pub whole_le : (groups : ℕ) → whole slots took groups ≤ whole slots costs groups
  whole_le groups =
      let le : begins slots took (beat_count groups (greatest (λ s. (slot_at slots s).slot) (length slots))) ≤ begins slots costs (beat_count groups (greatest (λ s. (slot_at slots s).slot) (length slots))) =
      total_le (λ c. suc (beat slots took c)) (λ c. suc (beat slots costs c)) _ (λ b lt. let a : beat slots took b ≤ beat slots costs b = beat_le b in omega arith) in
      omega arith
