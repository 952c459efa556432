-- Words that go along with their groups.
use Rattle.std.proofs.Common.{◌≡◌, ℕ, zero, suc, ◌+◌, ◌-◌, ◌<◌, ◌≤◌, inl, inr, if◌then◌else◌, Bool, true, false, refl, sym, ap, subst, ◌∙◌, arith, List, [], ◌∷◌, length}
use Rattle.std.specs.List.{Contains}
use Rattle.sp_netlist.specs.declared.parts.Wire.{Wire}
use Rattle.sp_netlist.specs.Signals.{Signals}
use Rattle.sp_gates.specs.Tested.{is_on}
use Rattle.sp_part_runs.specs.BodiesRuns.{IsOnAt}
use Rattle.sp_part_runs.specs.SequencesChains.{Numbered, At}
use Rattle.sp_part_runs.specs.BeatsRuns.{BeatsRan, beat_cycle, beat_lasts, beats_of, AreInTurn, steps_in, step_cycle}
use Rattle.sp_part_runs.proofs.BeatsBeating.{After, apart}
use Rattle.sp_part_runs.proofs.BeatsCounting.{turn_of, in_turns_of, turns_of_in, group_in_beats}
use Rattle.sp_beat_words.specs.declared.part.Row.{Row}
use Rattle.sp_beat_words.specs.Words.{Takes, MoveOn}
use Rattle.sp_part_runs.specs.WordsLaws.{IsAtWork, HaveWords, AreAsLong, WordsGoAlong}

-- a word that is taken in a step stays until the next one
module _ (own before : ℕ → ℕ) (step : ℕ → Bool) (goes : (t : ℕ) → own (suc t) ≡ (if step t then before t else own t)) where
  stays : (u d : ℕ) → step u ≡ true → ((w : ℕ) → u < w → w < u + suc d → step w ≡ false) → own (u + suc d) ≡ before u
  stays u zero t q = ap own {x = u + 1} {y = suc u} (omega arith) ∙ goes u ∙ ap (λ b. if b then before u else own u) t
  stays u (suc d) t q =
      ap own {x = u + suc (suc d)} {y = suc (u + suc d)} (omega arith) ∙ goes (u + suc d) ∙ ap (λ b. if b then before (u + suc d) else own (u + suc d)) (q (u + suc d) (omega arith) (omega arith)) ∙ stays u d t (λ w l m. q w l (omega (arith, m)))

  word_after : (u t : ℕ) → u < t → step u ≡ true → ((w : ℕ) → u < w → w < t → step w ≡ false) → own t ≡ before u
  word_after u t l a q = let e : t ≡ u + suc (t - suc u) = omega (arith, l) in ap own e ∙ stays u (t - suc u) a (λ w x y. q w x (omega (arith, y, l)))

module _ (s : Signals) (step : ℕ) where
  row_after : (u t : ℕ) → u < t → is_on s step u ≡ true → ((w : ℕ) → u < w → w < t → is_on s step w ≡ false) → (before wires : List Wire) → Takes s step before wires → HaveWords s t u wires before
  row_after u t l a q [] [] h = tt
  row_after u t l a q [] (v ∷ wires) h = tt
  row_after u t l a q (w ∷ before) [] h = tt
  row_after u t l a q (w ∷ before) (v ∷ wires) h = (word_after (λ c. s.net c v.net) (λ c. s.net c w.net) (is_on s step) h.0.1 u t l a q, row_after u t l a q before wires h.1)

  -- words that are handed on twice
  joined : (t u w : ℕ) (wires mid before : List Wire) → length wires ≡ length mid → HaveWords s t u wires mid → HaveWords s u w mid before → HaveWords s t w wires before
  joined t u w [] mid before e h k = tt
  joined t u w (x ∷ wires) [] before e h k = absurd (omega (arith, e))
  joined t u w (x ∷ wires) (y ∷ mid) [] e h k = tt
  joined t u w (x ∷ wires) (y ∷ mid) (z ∷ before) e h k = (h.0 ∙ k.0, joined t u w wires mid before (omega (arith, e)) h.1 k.1)

  same_words : (t : ℕ) (wires : List Wire) → HaveWords s t t wires wires
  same_words t [] = tt
  same_words t (v ∷ wires) = (refl, same_words t wires)

module _ (s : Signals) (shape : List (List ℕ)) (runs : List BeatsRan) (step : ℕ) (last : ℕ) (turns : AreInTurn shape runs) (steps : IsOnAt (is_on s step) (At (step_cycle shape) (steps_in shape runs)) last) where
  step_at : (r : BeatsRan) (b : ℕ) → Contains runs r → b < beats_of shape r → beat_cycle shape b r ≤ last → is_on s step (beat_cycle shape b r) ≡ true
  step_at r b i l m = steps.on (beat_cycle shape b r) m (turn_of r b, in_turns_of (λ r. suc (beats_of shape r)) runs r b i (omega (arith, l)), refl)

  no_step : (r : BeatsRan) (b w : ℕ) → Contains runs r → b < beats_of shape r → beat_cycle shape b r < w → w ≤ beat_cycle shape b r + beat_lasts shape b r → w ≤ last → is_on s step w ≡ false
  no_step r b w i l a z m = by (is_on s step w) refl
    where
      other : (q : BeatsRan) (c : ℕ) → w ≡ beat_cycle shape c q → After shape runs turns r q b c → ⊥
      other q c e (inl (same, f)) = let g = ap (beat_cycle shape b) same in let h = ap (λ x. beat_cycle shape x q) f in omega (arith, e, g, h, a)
      other q c e (inr d) = omega (arith, e, d, z)

      by : (v : Bool) → is_on s step w ≡ v → v ≡ false
      by true t =
          absurd
          (let x = steps.only w m t in
          let k = turns_of_in (λ r. suc (beats_of shape r)) runs x.0 x.1 in
          let e = x.2 in
          let g = k.1 in
          other x.0.run x.0.number x.2 (apart shape runs turns r x.0.run b x.0.number i k.0 l (omega (arith, g)) (omega (arith, e, a))))
      by false t = refl

  -- rows from one on, where the one before it has the words of each group in the step in which the group comes to it
  rows_go : (origin before : List Wire) (k : ℕ) (rows : List Row) → MoveOn s step before rows → AreAsLong (length before) rows → k + length rows ≤ length shape
      → ((r : BeatsRan) (g : ℕ) → Contains runs r → g < r.groups → beat_cycle shape (g + k) r ≤ last → HaveWords s (beat_cycle shape (g + k) r) (beat_cycle shape g r) before origin)
      → Numbered (λ slot row. (r : BeatsRan) (g t : ℕ) → Contains runs r → g < r.groups → IsAtWork shape r g slot last t → HaveWords s t (beat_cycle shape g r) row.wires.items origin) k rows
  rows_go origin before k [] moves long fits h = tt
  rows_go origin before k (row ∷ rows) moves long fits h = (work, rows_go origin row.wires.items (suc k) rows moves.1 (subst (λ n. AreAsLong n rows) (sym long.0) long.1) (omega (arith, fits)) next)
    where
      work : (r : BeatsRan) (g t : ℕ) → Contains runs r → g < r.groups → IsAtWork shape r g k last t → HaveWords s t (beat_cycle shape g r) row.wires.items origin
      work r g t i l (a, z, m) =
          let b = group_in_beats r.groups (length shape) g k l (omega (arith, fits)) in
          let here : beat_cycle shape (g + k) r ≤ last = omega (arith, a, m) in
          joined s step t (beat_cycle shape (g + k) r) (beat_cycle shape g r) row.wires.items before origin long.0
          (row_after s step (beat_cycle shape (g + k) r) t a (step_at r (g + k) i b here) (λ w x y. no_step r (g + k) w i b x (omega (arith, y, z)) (omega (arith, y, m))) before row.wires.items moves.0) (h r g i l here)

      next : (r : BeatsRan) (g : ℕ) → Contains runs r → g < r.groups → beat_cycle shape (g + suc k) r ≤ last → HaveWords s (beat_cycle shape (g + suc k) r) (beat_cycle shape g r) row.wires.items origin
      next r g i l m =
          let e : g + suc k ≡ suc (g + k) = omega arith in
          let f : beat_cycle shape (g + suc k) r ≡ suc (beat_cycle shape (g + k) r + beat_lasts shape (g + k) r) = ap (λ b. beat_cycle shape b r) e ∙ (omega arith) in
          work r g (beat_cycle shape (g + suc k) r) i l (omega (arith, f), omega (arith, f), omega (arith, m))

pub words_go_along : WordsGoAlong
words_go_along s shape runs step before rows last moves long fits turns steps =
    rows_go s shape runs step last turns steps before before 0 rows moves long (omega (arith, fits))
    (λ r g i l m. subst (λ u. HaveWords s u (beat_cycle shape g r) before before) {x = beat_cycle shape g r} (ap (λ b. beat_cycle shape b r) (omega arith)) (same_words s step (beat_cycle shape g r) before))
