-- Runs of a transfer, one after the other, whose words move in the cycles of the timeline: how many of them moved before a cycle.
use Rattle.std.proofs.Common.{◌≡◌, ℕ, zero, suc, ◌+◌, ◌<◌, ◌≤◌, ◌⊎◌, inl, inr, Bool, true, false, if◌then◌else◌, true≢false, List, refl, sym, ap, subst, ◌∙◌, arith}
use Rattle.std.specs.List.{Contains}
use Rattle.sp_counters.specs.Laws.{steps_after}
use Rattle.sp_machine.specs.Transfers.{word_cycle, transfer_took}
use Rattle.sp_part_runs.specs.BodiesRuns.{IsOnAt}
use Rattle.sp_transfer_runs.proofs.Cycles.{words_rise, two_on, word_within}

-- a bit is 1 or 0
pub by_bit : {X : Type 0} (b : Bool) → (b ≡ true → X) → (b ≡ false → X) → X
by_bit true f g = f refl
by_bit false f g = g refl

pub not_both : {X : Type 0} (b : Bool) → b ≡ true → b ≡ false → X
not_both b e f = absurd (true≢false (sym e ∙ f))

pub by_order : {X : Type 0} (i j : ℕ) → (i < j → X) → (j < i → X) → (i ≡ j → X) → X
by_order {X} i j f g h = by (order i j)
  where
    order : (i j : ℕ) → (i < j) ⊎ ((j < i) ⊎ (i ≡ j))
    order i j = grind (arith)

    by : (i < j) ⊎ ((j < i) ⊎ (i ≡ j)) → X
    by (inl l) = f l
    by (inr (inl l)) = g l
    by (inr (inr e)) = h e

module _ {R : Type 0} (cycle num : R → ℕ) (delay : R → ℕ → ℕ) where
  abbrev pub over : R → ℕ
  over r = cycle r + transfer_took (delay r) (num r)

  abbrev pub StartsAt : List R → (t : ℕ) → Type 0
  StartsAt runs t = (r : R) × Contains runs r × (t ≡ cycle r)

  -- a word of a run moves
  abbrev pub MovesAt : List R → (t : ℕ) → Type 0
  MovesAt runs t = (r : R) × (j : ℕ) × Contains runs r × (j < num r) × (t ≡ cycle r + word_cycle (delay r) j)

  abbrev pub Apart : List R → Type 0
  Apart runs = (r q : R) → Contains runs r → Contains runs q → (r ≡ q) ⊎ ((over r ≤ cycle q) ⊎ (over q ≤ cycle r))

  -- after so many cycles so many words moved
  pub record Passed (r : R) (j n : ℕ) : Type 0 where
    pub before : (i : ℕ) → i < j → word_cycle (delay r) i ≤ n
    pub after : j < num r → n < word_cycle (delay r) j
    pub few : j ≤ num r

  module _ (runs : List R) (apart : Apart runs) where
    -- it is that run in which something happens before it is over
    pub the_run : (r q : R) → Contains runs r → Contains runs q → (t : ℕ) → cycle r < t → t < over r → cycle q ≤ t → t < over q → q ≡ r
    the_run r q c d t after before later within = by (apart r q c d)
      where
        by : (r ≡ q) ⊎ ((over r ≤ cycle q) ⊎ (over q ≤ cycle r)) → q ≡ r
        by (inl e) = sym e
        by (inr (inl l)) = absurd (omega (arith, l, before, later))
        by (inr (inr l)) = absurd (omega (arith, l, within, after))

    long : (q : R) → cycle q < over q
    long q = omega arith

    pub moving_run : (r : R) → Contains runs r → (t : ℕ) → cycle r < t → t < over r → MovesAt runs t → (j : ℕ) × (j < num r) × (t ≡ cycle r + word_cycle (delay r) j)
    moving_run r c t after before (q, j, d, l, e) =
        let w = word_within (delay q) j (num q) l in
        let same : q ≡ r = the_run r q c d t after before (omega (arith, e)) (omega (arith, e, w)) in
        (j, subst (λ x. j < num x) same l, e ∙ ap (λ x. cycle x + word_cycle (delay x) j) same)

    pub quiet : (wire : ℕ → Bool) (upto : ℕ) → IsOnAt wire (StartsAt runs) upto → (r : R) → Contains runs r → (t : ℕ) → cycle r < t → t < over r → t ≤ upto → wire t ≡ false
    quiet wire upto starts r c t after before l = by_bit (wire t) (λ e. absurd (no e)) (λ e. e)
      where
        no : wire t ≡ true → ⊥
        no e =
            let (q, d, is) = starts.only t l e in
            let w = long q in
            let same : q ≡ r = the_run r q c d t after before (omega (arith, is)) (omega (arith, is, w)) in
            let f : cycle q ≡ cycle r = ap cycle same in
            omega (arith, is, f, after)

    module _ (wire : ℕ → Bool) (last : ℕ) (ready : IsOnAt wire (MovesAt runs) last) (r : R) (c : Contains runs r) where
      abbrev at : ℕ → ℕ
      at j = word_cycle (delay r) j

      next : (j n : ℕ) → Passed r j n → cycle r + suc n ≤ last → cycle r + suc n < over r → Passed r (if wire (cycle r + suc n) then suc j else j) (suc n)
      next j n h l m = by_bit (wire (cycle r + suc n)) (λ e. subst (λ b. Passed r (if b then suc j else j) (suc n)) (sym e) (moved e)) (λ e. subst (λ b. Passed r (if b then suc j else j) (suc n)) (sym e) (stood e))
        where
          moved : wire (cycle r + suc n) ≡ true → Passed r (suc j) (suc n)
          moved e =
              let (i, k, is) = moving_run r c (cycle r + suc n) (omega arith) m (ready.only (cycle r + suc n) l e) in
              let now : suc n ≡ at i = omega (arith, is) in
              let same : i ≡ j = by_order i j (λ x. absurd (let b = h.before i x in omega (arith, b, now))) (λ x. absurd (let a = h.after (omega (arith, x, k)) in let b = words_rise (delay r) j i x in omega (arith, a, b, now))) (λ x. x) in
              record {
                before = λ x y. by_order x j (λ z. let b = h.before x z in omega (arith, b)) (λ z. absurd (omega (arith, y, z))) (λ z. let b : at x ≡ at i = ap at (z ∙ sym same) in omega (arith, b, now));
                after = λ y. let b = words_rise (delay r) j (suc j) (omega arith) in let d : at i ≡ at j = ap at same in omega (arith, b, d, now);
                few = omega (arith, k, same);
              }

          stood : wire (cycle r + suc n) ≡ false → Passed r j (suc n)
          stood e = record {
            before = λ i x. let b = h.before i x in omega (arith, b);
            after = λ x. by_order (at j) (suc n) (λ y. absurd (let a = h.after x in omega (arith, a, y))) (λ y. y) (λ y. not_both (wire (cycle r + suc n)) (ready.on (cycle r + suc n) l (r, j, c, x, ap (λ k. cycle r + k) (sym y))) e);
            few = h.few;
          }

      pub passed : (n : ℕ) → cycle r + n ≤ last → cycle r + n < over r → Passed r (steps_after wire (cycle r) n) n
      passed zero l m = record { before = λ i x. absurd (omega (arith, x)); after = λ x. let b = two_on (delay r) 0 in omega (arith, b); few = omega arith }
      passed (suc n) l m = next (steps_after wire (cycle r) n) n (passed n (omega (arith, l)) (omega (arith, m))) l m

      -- where a word moves, so many moved before it
      pub steps_are : (j : ℕ) → j < num r → (n : ℕ) → suc n ≡ at j → cycle r + n ≤ last → steps_after wire (cycle r) n ≡ j
      steps_are j l n e m =
          let w = word_within (delay r) j (num r) l in
          let h = passed n m (omega (arith, w, e)) in
          by_order (steps_after wire (cycle r) n) j
          (λ x. absurd (let a = h.after (omega (arith, x, l)) in let b = words_rise (delay r) (steps_after wire (cycle r) n) j x in omega (arith, a, b, e)))
          (λ x. absurd (let b = h.before j x in omega (arith, b, e)))
          (λ x. x)
