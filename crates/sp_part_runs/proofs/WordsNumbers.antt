-- The numbers of copies, group after group.
use Rattle.std.proofs.Common.{◌≡◌, ℕ, zero, suc, ◌+◌, ◌-◌, ◌%◌, ◌<◌, ◌≤◌, ◌==◌, ◌⊎◌, inl, inr, if◌then◌else◌, Bool, true, false, refl, sym, ap, ap₂, ◌∙◌, arith, List, length}
use Rattle.std.specs.List.{Contains}
use Rattle.std.proofs.Math.Nat.{mod-eq_of_lt, mod-lt, mod_self, suc-mod, zero-mod}
use Rattle.std.proofs.lemmas.Bool.{eqb-true, eqb-false}
use Rattle.sp_part_runs.specs.BodiesRuns.{IsOnAt}
use Rattle.sp_part_runs.specs.SequencesChains.{At}
use Rattle.sp_part_runs.specs.BeatsRuns.{BeatsRan, beat_cycle, beat_lasts, beats_took, beats_of, AreInTurn, slot_cycle, groups_in}
use Rattle.sp_part_runs.proofs.BeatsBeating.{within}
use Rattle.sp_part_runs.proofs.BeatsCounting.{turn_of, in_turns_of, group_in_beats}
use Rattle.sp_beat_words.specs.Numbers.{next_copy, copy_number}
use Rattle.sp_part_runs.specs.WordsLaws.{HasNumber, NumbersGoRound}
use Rattle.sp_part_runs.proofs.WordsGoing.{none_within, none_before}

-- before a group comes its slot has the copy of the group before it
abbrev before_group : (copies group : ℕ) → ℕ
before_group copies zero = copies - 1
before_group copies (suc g) = g % copies

after_last : (copies n : ℕ) → 1 ≤ copies → n < copies → next_copy copies n ≡ suc n % copies
after_last copies n some l = by (n == copies - 1) refl
  where
    order : (a b : ℕ) → (a < b) ⊎ (a ≡ b) ⊎ (b < a)
    order a b = grind arith

    smaller : (n ≡ copies - 1 → ⊥) → (n < copies - 1) ⊎ (n ≡ copies - 1) ⊎ (copies - 1 < n) → suc n < copies
    smaller d (inl h) = omega (arith, h)
    smaller d (inr (inl h)) = absurd (d h)
    smaller d (inr (inr h)) = absurd (omega (arith, h, l))

    by : (b : Bool) → (n == copies - 1) ≡ b → (if b then 0 else n + 1) ≡ suc n % copies
    by true t = let e = eqb-true n (copies - 1) t in let f : suc n ≡ copies = omega (arith, e, some) in sym (ap (λ m. m % copies) f ∙ mod_self copies)
    by false t = let m = smaller (eqb-false n (copies - 1) t) (order n (copies - 1)) in let e : n + 1 ≡ suc n = omega arith in e ∙ sym (mod-eq_of_lt m)

next_group : (copies g : ℕ) → 1 ≤ copies → next_copy copies (before_group copies g) ≡ g % copies
next_group copies zero some = after_last copies (copies - 1) some (omega (arith, some)) ∙ ap (λ m. m % copies) (let e : suc (copies - 1) ≡ copies = omega (arith, some) in e) ∙ mod_self copies ∙ sym (zero-mod copies)
next_group copies (suc g) some = after_last copies (g % copies) some (mod-lt g (omega (arith, some))) ∙ sym (suc-mod g copies)

module _ (start first : ℕ → Bool) (copies : ℕ) where
  kept : (u d : ℕ) → ((w : ℕ) → u ≤ w → w < u + d → (start w ≡ false) × (first w ≡ false)) → copy_number start first copies (u + d) ≡ copy_number start first copies u
  unfolding copy_number
  kept u zero q = ap (copy_number start first copies) (omega arith)
  kept u (suc d) q =
      let h = q (u + d) (omega arith) (omega arith) in
      ap (copy_number start first copies) {x = u + suc d} {y = suc (u + d)} (omega arith)
      ∙ ap₂ (λ a b. if a then copies - 1 else (if b then next_copy copies (copy_number start first copies (u + d)) else copy_number start first copies (u + d))) h.0 h.1
      ∙ kept u d (λ w l m. q w l (omega (arith, m)))

  kept_until : (u t : ℕ) → u ≤ t → ((w : ℕ) → u ≤ w → w < t → (start w ≡ false) × (first w ≡ false)) → copy_number start first copies t ≡ copy_number start first copies u
  kept_until u t l q = let e : t ≡ u + (t - u) = omega (arith, l) in ap (copy_number start first copies) e ∙ kept u (t - u) (λ w a b. q w a (omega (arith, b, l)))

  begun : (u : ℕ) → start u ≡ true → copy_number start first copies (suc u) ≡ copies - 1
  unfolding copy_number
  begun u t = ap (λ a. if a then copies - 1 else (if first u then next_copy copies (copy_number start first copies u) else copy_number start first copies u)) t

  gone_on : (u : ℕ) → start u ≡ false → first u ≡ true → copy_number start first copies (suc u) ≡ next_copy copies (copy_number start first copies u)
  unfolding copy_number
  gone_on u s f = ap₂ (λ a b. if a then copies - 1 else (if b then next_copy copies (copy_number start first copies u) else copy_number start first copies u)) s f

module _ (shape : List (List ℕ)) (runs : List BeatsRan) (slot : ℕ) (start first : ℕ → Bool) (copies last : ℕ) (some : 1 ≤ copies) (below : slot < length shape) (turns : AreInTurn shape runs) (starts : IsOnAt start (At (λ (r : BeatsRan). r.cycle) runs) last)
    (firsts : IsOnAt first (At (slot_cycle shape slot) (groups_in runs)) last) (r : BeatsRan) (there : Contains runs r) where
  -- nothing is started while the run goes on
  no_start : (w : ℕ) → r.cycle < w → w < r.cycle + (2 + beats_took shape (beats_of shape r) r) → w ≤ last → start w ≡ false
  no_start w a b l = by (start w) refl
    where
      other : (q : BeatsRan) → w ≡ q.cycle → (r ≡ q) ⊎ (r.cycle + (2 + beats_took shape (beats_of shape r) r) ≤ q.cycle) → ⊥
      other q e (inl same) = let f = ap (λ (x : BeatsRan). x.cycle) same in omega (arith, e, f, a)
      other q e (inr over) = omega (arith, e, over, b)

      by : (v : Bool) → start w ≡ v → v ≡ false
      by true t = absurd (let x = starts.only w l t in let e = x.2 in other x.0 x.2 (turns r x.0 there x.1 (omega (arith, e, a))))
      by false t = refl

  abbrev at : (group : ℕ) → ℕ
  at g = beat_cycle shape (g + slot) r

  lies : (g : ℕ) → g < r.groups → beats_took shape (g + slot) r + suc (beat_lasts shape (g + slot) r) ≤ beats_took shape (beats_of shape r) r
  lies g l = within shape runs turns r (g + slot) (group_in_beats r.groups (length shape) g slot l below)

  comes_at : (g : ℕ) → g < r.groups → at g ≤ last → first (at g) ≡ true
  comes_at g l m = firsts.on (at g) m (turn_of r g, in_turns_of (λ r. r.groups) runs r g there l, refl)

  not_started : (g : ℕ) → g < r.groups → at g ≤ last → start (at g) ≡ false
  not_started g l m = let n = lies g l in no_start (at g) (omega arith) (omega (arith, n)) m

  -- through the beat of a group the number stays
  stays_through : (g t : ℕ) → g < r.groups → at g < t → t ≤ suc (at g + beat_lasts shape (g + slot) r) → t ≤ suc last → copy_number start first copies t ≡ copy_number start first copies (suc (at g))
  stays_through g t l a z m =
      let n = lies g l in
      kept_until start first copies (suc (at g)) t (omega (arith, a))
      (λ w u v. (no_start w (omega (arith, u)) (omega (arith, v, z, n)) (omega (arith, v, m)), none_within shape runs turns slot below first last firsts r (g + slot) w there (group_in_beats r.groups (length shape) g slot l below) (omega (arith, u)) (omega (arith, v, z)) (omega (arith, v, m))))

  number_before : (g : ℕ) → g < r.groups → at g ≤ last → copy_number start first copies (at g) ≡ before_group copies g
  number_before zero l m =
      let n = lies 0 l in
      kept_until start first copies (suc r.cycle) (at 0) (omega arith) (λ w u v. (no_start w (omega (arith, u)) (omega (arith, v, n)) (omega (arith, v, m)), none_before shape runs turns slot below first last firsts r w there l (omega (arith, u)) v (omega (arith, v, m))))
      ∙ begun start first copies r.cycle (starts.on r.cycle (omega (arith, m)) (r, there, refl))
  number_before (suc g) l m =
      let next : at (suc g) ≡ at g + suc (beat_lasts shape (g + slot) r) = (let e : suc g + slot ≡ suc (g + slot) = omega arith in ap (λ b. beat_cycle shape b r) e ∙ (omega arith)) in
      let here : at g ≤ last = omega (arith, m, next) in
      stays_through g (at (suc g)) (omega (arith, l)) (omega (arith, next)) (omega (arith, next)) (omega (arith, m))
      ∙ gone_on start first copies (at g) (not_started g (omega (arith, l)) here) (comes_at g (omega (arith, l)) here)
      ∙ ap (next_copy copies) (number_before g (omega (arith, l)) here) ∙ next_group copies g some

  has_number : (g : ℕ) → g < r.groups → HasNumber shape r g slot last start first copies
  has_number g l = record {
    comes = λ m. ap (λ b. if b then next_copy copies (copy_number start first copies (at g)) else copy_number start first copies (at g)) (comes_at g l m) ∙ ap (next_copy copies) (number_before g l m) ∙ next_group copies g some;
    stays = λ t w.
        let a = w.0 in
        let z = w.1 in
        let n = w.2 in
        let here : at g ≤ last = omega (arith, a, n) in
        stays_through g t l a z (omega (arith, n)) ∙ gone_on start first copies (at g) (not_started g l here) (comes_at g l here) ∙ ap (next_copy copies) (number_before g l here) ∙ next_group copies g some;
  }

pub numbers_go_round : NumbersGoRound
numbers_go_round shape runs slot start first copies last some below turns starts firsts r g there l = has_number shape runs slot start first copies last some below turns starts firsts r there g l
