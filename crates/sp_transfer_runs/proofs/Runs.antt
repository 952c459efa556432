-- Runs of a transfer as a node of the timeline: they come one after the other, and what happens in them.
use Rattle.std.proofs.Common.{◌≡◌, ℕ, suc, ◌+◌, ◌≤◌, ◌⊎◌, inl, inr, Bool, List, [], ◌∷◌, ◌++◌, map, sym, ap, subst, ◌∙◌, arith}
use Rattle.std.specs.List.{Contains}
use Rattle.sp_core.specs.Events.{Event, touches, spans_moments}
use Rattle.sp_core.specs.History.{moved}
use Rattle.sp_core.specs.Numbering.{spans_size}
use Rattle.sp_core.specs.PlainCore.{PlainSpan, PlainNode, load, store, PlainCore}
use Rattle.sp_plan.specs.PlainPlan.{PlainPlan}
use Rattle.sp_machine.specs.Stamps.{Stamped, stamp, stamped, moved as moved_by}
use Rattle.sp_machine.specs.Timeline.{timed}
use Rattle.sp_machine.specs.Transfers.{Delays, transfer_took, load_run, store_run}
use Rattle.sp_part_runs.specs.BodiesRuns.{IsOnAt}
use Rattle.sp_part_runs.specs.ControlParts.{Ran, Begins, Ends}
use Rattle.sp_node_runs.specs.Runs.{Placed, told, events_of, over_at, AreWithin}
use Rattle.sp_node_runs.specs.RunsTold.{all_events}
use Rattle.sp_node_runs.specs.ControlRuns.{ran_of, rans}
use Rattle.sp_transfer_runs.specs.Runs.{taken_in, words_in, total_of, delay_in}
use Rattle.sp_transfer_runs.specs.Words.{parts_of}
use Rattle.sp_transfer_runs.proofs.Cycles.{in_split, in_none, to_map, from_map, in_right, in_either, to_flat, from_flat}
use Rattle.sp_transfer_runs.proofs.Events.{of_spans}
use Rattle.sp_transfer_runs.proofs.Passing.{StartsAt}

-- a wire that is 1 where one thing holds is 1 where another one does that goes with it
pub same_cycles : (wire : ℕ → Bool) (P Q : ℕ → Type 0) (last : ℕ) → ((t : ℕ) → P t → Q t) → ((t : ℕ) → Q t → P t) → IsOnAt wire P last → IsOnAt wire Q last
same_cycles wire P Q last f g h = record { on = λ t l x. h.on t l (g t x); only = λ t l e. f t (h.only t l e) }

pub fewer : (wire : ℕ → Bool) (P : ℕ → Type 0) (last t : ℕ) → t ≤ last → IsOnAt wire P last → IsOnAt wire P t
fewer wire P last t l h = record { on = λ u m x. h.on u (omega (arith, m, l)) x; only = λ u m e. h.only u (omega (arith, m, l)) e }

module _ (core : PlainCore) (plan : PlainPlan) (delays : Delays) where
  -- the timeline of a run
  pub load_events : (k n r m : ℕ) (spans : List PlainSpan) (q : Placed) → q.history ≡ moved (taken_in q.history) (words_in q.history)
      → (told core plan delays (load r m spans) k n q).events ≡ stamped q.copies 0 (spans_moments n q.standing spans (taken_in q.history)) ++ load_run (delay_in delays k q) core q.copies (n + spans_size spans) q.standing r m (parts_of (taken_in q.history)) (words_in q.history)
  unfolding timed
  load_events k n r m spans q e = ap (λ h. (timed core plan delays (load r m spans) k n q.standing q.copies h).events) e

  pub load_took : (k n r m : ℕ) (spans : List PlainSpan) (q : Placed) → q.history ≡ moved (taken_in q.history) (words_in q.history) → (told core plan delays (load r m spans) k n q).took ≡ transfer_took (delay_in delays k q) (total_of q)
  unfolding timed
  load_took k n r m spans q e = ap (λ h. (timed core plan delays (load r m spans) k n q.standing q.copies h).took) e

  pub store_events : (k n r m : ℕ) (spans : List PlainSpan) (q : Placed) → q.history ≡ moved (taken_in q.history) (words_in q.history)
      → (told core plan delays (store r m spans) k n q).events ≡ stamped q.copies 0 (spans_moments n q.standing spans (taken_in q.history)) ++ store_run (delay_in delays k q) core q.copies (n + spans_size spans) q.standing r m (parts_of (taken_in q.history)) (words_in q.history)
  unfolding timed
  store_events k n r m spans q e = ap (λ h. (timed core plan delays (store r m spans) k n q.standing q.copies h).events) e

  pub store_took : (k n r m : ℕ) (spans : List PlainSpan) (q : Placed) → q.history ≡ moved (taken_in q.history) (words_in q.history) → (told core plan delays (store r m spans) k n q).took ≡ transfer_took (delay_in delays k q) (total_of q)
  unfolding timed
  store_took k n r m spans q e = ap (λ h. (timed core plan delays (store r m spans) k n q.standing q.copies h).took) e

  module _ (node : PlainNode) (k n : ℕ) where
    after_all : (from until : ℕ) (runs : List Placed) → AreWithin core plan delays node k n from until runs → (q : Placed) → Contains runs q → from ≤ q.cycle
    after_all from until [] w q c = absurd (in_none q c)
    after_all from until (r ∷ runs) w q c = by (after_all (over_at core plan delays node k n r) until runs w.1 q) (in_split r runs q c)
      where
        by : (Contains runs q → over_at core plan delays node k n r ≤ q.cycle) → (r ≡ q) ⊎ Contains runs q → from ≤ q.cycle
        by rest (inl e) = subst (λ (x : Placed). from ≤ x.cycle) e w.0
        by rest (inr d) = let h = rest d in let g = w.0 in omega (arith, h, g)

    -- of two runs one is over before the other begins
    pub apart : (from until : ℕ) (runs : List Placed) → AreWithin core plan delays node k n from until runs → (r q : Placed) → Contains runs r → Contains runs q
        → (r ≡ q) ⊎ ((over_at core plan delays node k n r ≤ q.cycle) ⊎ (over_at core plan delays node k n q ≤ r.cycle))
    apart from until [] w r q c d = absurd (in_none r c)
    apart from until (x ∷ runs) w r q c d = by (apart (over_at core plan delays node k n x) until runs w.1 r q) (in_split x runs r c) (in_split x runs q d)
      where
        over : Placed → ℕ
        over p = over_at core plan delays node k n p

        by : (Contains runs r → Contains runs q → (r ≡ q) ⊎ ((over r ≤ q.cycle) ⊎ (over q ≤ r.cycle))) → (x ≡ r) ⊎ Contains runs r → (x ≡ q) ⊎ Contains runs q → (r ≡ q) ⊎ ((over r ≤ q.cycle) ⊎ (over q ≤ r.cycle))
        by rest (inl e) (inl f) = inl (sym e ∙ f)
        by rest (inl e) (inr f) = inr (inl (subst (λ p. over p ≤ q.cycle) e (after_all (over x) until runs w.1 q f)))
        by rest (inr e) (inl f) = inr (inr (subst (λ p. over p ≤ r.cycle) f (after_all (over x) until runs w.1 r e)))
        by rest (inr e) (inr f) = rest e f

  -- what happens in the runs besides their spans
  module _ (node : PlainNode) (k n : ℕ) (spans : List PlainSpan) (runs : List Placed) (body : Placed → List Stamped)
      (events : (q : Placed) → Contains runs q → (told core plan delays node k n q).events ≡ stamped q.copies 0 (spans_moments n q.standing spans (taken_in q.history)) ++ body q) where
    pub put_in : (q : Placed) → Contains runs q → (x : Stamped) → Contains (body q) x → Contains (all_events core plan delays node k n runs) (moved_by q.cycle x)
    put_in q c x d =
        to_flat (events_of core plan delays node k n) runs q (moved_by q.cycle x) c
        (to_map (moved_by q.cycle) (told core plan delays node k n q).events x (subst (λ es. Contains es x) (sym (events q c)) (in_right (stamped q.copies 0 (spans_moments n q.standing spans (taken_in q.history))) (body q) x d)))

    pub take_out : (x : Stamped) (e : Event) → x.moment ≡ touches e → e.number ≡ n + spans_size spans → Contains (all_events core plan delays node k n runs) x → (q : Placed) × Contains runs q × (y : Stamped) × Contains (body q) y × (moved_by q.cycle y ≡ x)
    take_out x e is number c =
        let (q, there, d) = from_flat (events_of core plan delays node k n) runs x c in
        let (y, within, same) = from_map (moved_by q.cycle) (told core plan delays node k n q).events x d in
        (q, there, y, not_span q y (ap (λ (z : Stamped). z.moment) same ∙ is) (in_either (stamped q.copies 0 (spans_moments n q.standing spans (taken_in q.history))) (body q) y (subst (λ es. Contains es y) (events q there) within)), same)
      where
        not_span : (q : Placed) (y : Stamped) → y.moment ≡ touches e → Contains (stamped q.copies 0 (spans_moments n q.standing spans (taken_in q.history))) y ⊎ Contains (body q) y → Contains (body q) y
        not_span q y f (inr d) = d
        not_span q y f (inl d) =
            let (m, inside, same) = from_map (stamp q.copies 0) (spans_moments n q.standing spans (taken_in q.history)) y d in
            let l = of_spans q.standing n spans (taken_in q.history) e (subst (Contains (spans_moments n q.standing spans (taken_in q.history))) (ap (λ (z : Stamped). z.moment) same ∙ f) inside) in
            absurd (omega (arith, l, number))

-- runs by their cycles and how long they take
abbrev pub transfer_ran : Delays → (node : ℕ) → Placed → Ran
transfer_ran delays k r = record { cycle = r.cycle; took = transfer_took (delay_in delays k r) (total_of r) }

abbrev pub transfer_rans : Delays → (node : ℕ) → List Placed → List Ran
transfer_rans delays k runs = map (transfer_ran delays k) runs

-- starts and ends of runs
module _ (delays : Delays) (k : ℕ) (runs : List Placed) where
  abbrev pub cycle : Placed → ℕ
  cycle r = r.cycle

  pub starts_at : (t : ℕ) → Begins (transfer_rans delays k runs) t → StartsAt cycle total_of (delay_in delays k) runs t
  starts_at t (ran, c, e) = let (r, there, same) = from_map (transfer_ran delays k) runs ran c in (r, there, e ∙ sym (ap (λ (x : Ran). x.cycle) same))

  pub begins : (t : ℕ) → StartsAt cycle total_of (delay_in delays k) runs t → Begins (transfer_rans delays k runs) t
  begins t (r, c, e) = (transfer_ran delays k r, to_map (transfer_ran delays k) runs r c, e)

  pub ends : (t : ℕ) → (r : Placed) × Contains runs r × (suc t ≡ r.cycle + (transfer_ran delays k r).took) → Ends (transfer_rans delays k runs) t
  ends t (r, c, e) = (transfer_ran delays k r, to_map (transfer_ran delays k) runs r c, e)

  pub ends_at : (t : ℕ) → Ends (transfer_rans delays k runs) t → (r : Placed) × Contains runs r × (suc t ≡ r.cycle + (transfer_ran delays k r).took)
  ends_at t (ran, c, e) = let (r, there, same) = from_map (transfer_ran delays k) runs ran c in (r, there, e ∙ sym (ap (λ (x : Ran). x.cycle + x.took) same))

-- they are those of the node
module _ (core : PlainCore) (plan : PlainPlan) (delays : Delays) (node : PlainNode) (k n : ℕ) (runs : List Placed) where
  pub started_in : (wire : ℕ → Bool) (t : ℕ) → IsOnAt wire (Begins (rans core plan delays node k n runs)) t → IsOnAt wire (Begins (transfer_rans delays k runs)) t
  started_in wire t = same_cycles wire (Begins (rans core plan delays node k n runs)) (Begins (transfer_rans delays k runs)) t
      (λ u b. let (ran, c, e) = b in let (r, there, same) = from_map (ran_of core plan delays node k n) runs ran c in (transfer_ran delays k r, to_map (transfer_ran delays k) runs r there, e ∙ sym (ap (λ (x : Ran). x.cycle) same)))
      (λ u b. let (ran, c, e) = b in let (r, there, same) = from_map (transfer_ran delays k) runs ran c in (ran_of core plan delays node k n r, to_map (ran_of core plan delays node k n) runs r there, e ∙ sym (ap (λ (x : Ran). x.cycle) same)))

  same_took : (took : (q : Placed) → Contains runs q → (told core plan delays node k n q).took ≡ transfer_took (delay_in delays k q) (total_of q)) → (q : Placed) (c : Contains runs q) → (transfer_ran delays k q).took ≡ (ran_of core plan delays node k n q).took
  same_took took q c = sym (took q c)

  pub over_in : (took : (q : Placed) → Contains runs q → (told core plan delays node k n q).took ≡ transfer_took (delay_in delays k q) (total_of q)) → (wire : ℕ → Bool) (t : ℕ) → IsOnAt wire (Ends (transfer_rans delays k runs)) t → IsOnAt wire (Ends (rans core plan delays node k n runs)) t
  over_in took wire t = same_cycles wire (Ends (transfer_rans delays k runs)) (Ends (rans core plan delays node k n runs)) t
      (λ u b. let (ran, c, e) = b in let (r, there, same) = from_map (transfer_ran delays k) runs ran c in (ran_of core plan delays node k n r, to_map (ran_of core plan delays node k n) runs r there, e ∙ sym (ap (λ (x : Ran). x.cycle + x.took) same) ∙ ap (λ x. r.cycle + x) (same_took took r there)))
      (λ u b. let (ran, c, e) = b in let (r, there, same) = from_map (ran_of core plan delays node k n) runs ran c in (transfer_ran delays k r, to_map (transfer_ran delays k) runs r there, e ∙ sym (ap (λ (x : Ran). x.cycle + x.took) same) ∙ ap (λ x. r.cycle + x) (sym (same_took took r there))))
