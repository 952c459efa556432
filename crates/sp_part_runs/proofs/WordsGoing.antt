-- The first cycles of a slot in a run.
use Rattle.std.proofs.Common.{◌≡◌, ℕ, suc, ◌+◌, ◌<◌, ◌≤◌, ◌⊎◌, inl, inr, Bool, true, false, sym, ap, ◌∙◌, arith, List, length}
use Rattle.std.specs.List.{Contains}
use Rattle.sp_time.proofs.ListLemmas.{total_mono}
use Rattle.sp_part_runs.specs.BodiesRuns.{IsOnAt}
use Rattle.sp_part_runs.specs.SequencesChains.{At}
use Rattle.sp_part_runs.proofs.SequencesCycles.{either, by_order}
use Rattle.sp_part_runs.specs.BeatsRuns.{BeatsRan, beat_cycle, beat_lasts, beats_took, beats_of, AreInTurn, slot_cycle, groups_in}
use Rattle.sp_part_runs.proofs.BeatsBeating.{within, no_later}
use Rattle.sp_part_runs.proofs.BeatsCounting.{turns_of_in, group_in_beats}

module _ (shape : List (List ℕ)) (runs : List BeatsRan) (turns : AreInTurn shape runs) (slot : ℕ) (below : slot < length shape) (first : ℕ → Bool) (last : ℕ) (firsts : IsOnAt first (At (slot_cycle shape slot) (groups_in runs)) last) where
  -- a first cycle while a run goes on is one of its own
  own_first : (r : BeatsRan) (w : ℕ) → Contains runs r → r.cycle < w → w < r.cycle + (2 + beats_took shape (beats_of shape r) r) → w ≤ last → first w ≡ true → (g : ℕ) × (w ≡ beat_cycle shape (g + slot) r)
  own_first r w i a b l t = let x = firsts.only w l t in let k = turns_of_in (λ r. r.groups) runs x.0 x.1 in by x.0.run x.0.number k.0 k.1 x.2 (by_order r.cycle x.0.run.cycle)
    where
      by : (q : BeatsRan) (h : ℕ) → Contains runs q → h < q.groups → w ≡ beat_cycle shape (h + slot) q → (r.cycle ≤ q.cycle) ⊎ (q.cycle < r.cycle) → (g : ℕ) × (w ≡ beat_cycle shape (g + slot) r)
      by q h j m e (inl c) = later (turns r q i j c)
        where
          later : (r ≡ q) ⊎ (r.cycle + (2 + beats_took shape (beats_of shape r) r) ≤ q.cycle) → (g : ℕ) × (w ≡ beat_cycle shape (g + slot) r)
          later (inl same) = (h, e ∙ ap (beat_cycle shape (h + slot)) (sym same))
          later (inr over) = absurd (omega (arith, over, e, b))
      by q h j m e (inr c) = earlier (turns q r j i (omega (arith, c)))
        where
          earlier : (q ≡ r) ⊎ (q.cycle + (2 + beats_took shape (beats_of shape q) q) ≤ r.cycle) → (g : ℕ) × (w ≡ beat_cycle shape (g + slot) r)
          earlier (inl same) = (h, e ∙ ap (beat_cycle shape (h + slot)) same)
          earlier (inr over) =
              let f = group_in_beats q.groups (length shape) h slot m below in
              let n = no_later shape runs turns q (h + slot) (omega (arith, f)) in
              absurd (omega (arith, over, e, n, a))

  -- beats come one after another
  one_after : (r : BeatsRan) (b c : ℕ) → b < c → beat_cycle shape b r + suc (beat_lasts shape b r) ≤ beat_cycle shape c r
  one_after r b c l = let p : beats_took shape b r + suc (beat_lasts shape b r) ≤ beats_took shape c r = total_mono (λ b. suc (beat_lasts shape b r)) (suc b) c l in omega (arith, p)

  no_before : (r : BeatsRan) (b c : ℕ) → b ≤ c → beat_cycle shape b r ≤ beat_cycle shape c r
  no_before r b c l = let p : beats_took shape b r ≤ beats_took shape c r = total_mono (λ b. suc (beat_lasts shape b r)) b c l in omega (arith, p)

  -- so none lies between two beats, nor before the first group's
  pub none_within : (r : BeatsRan) (b w : ℕ) → Contains runs r → b < beats_of shape r → beat_cycle shape b r < w → w < beat_cycle shape b r + suc (beat_lasts shape b r) → w ≤ last → first w ≡ false
  none_within r b w i m a z l = by (either (first w))
    where
      other : (c : ℕ) → w ≡ beat_cycle shape c r → (c ≤ b) ⊎ (b < c) → first w ≡ false
      other c e (inl d) = absurd (let p = no_before r c b d in omega (arith, p, e, a))
      other c e (inr d) = absurd (let p = one_after r b c d in omega (arith, p, e, z))

      by : (first w ≡ true) ⊎ (first w ≡ false) → first w ≡ false
      by (inr f) = f
      by (inl t) = let n = within shape runs turns r b m in let g = own_first r w i (omega (arith, a)) (omega (arith, z, n)) l t in other (g.0 + slot) g.1 (by_order (g.0 + slot) b)

  pub none_before : (r : BeatsRan) (w : ℕ) → Contains runs r → 0 < r.groups → r.cycle < w → w < beat_cycle shape (0 + slot) r → w ≤ last → first w ≡ false
  none_before r w i some a z l = by (either (first w))
    where
      by : (first w ≡ true) ⊎ (first w ≡ false) → first w ≡ false
      by (inr f) = f
      by (inl t) =
          let m = group_in_beats r.groups (length shape) 0 slot some below in
          let n = no_later shape runs turns r (0 + slot) (omega (arith, m)) in
          let g = own_first r w i a (omega (arith, z, n)) l t in
          let p = no_before r (0 + slot) (g.0 + slot) (omega arith) in
          let e = g.1 in
          absurd (omega (arith, p, e, z))
