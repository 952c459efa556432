-- Stores before a core begins, and the words with which it ends, in the core and in lanes.
use Rattle.std.proofs.Common.{◌≡◌, ℕ, ◌+◌, ◌<◌, true, false, ◌||◌, List, [], ◌∷◌, length, map, Option, Some, None, refl, sym, ◌∙◌, ap, subst, arith, inl, inr, ◌==◌, nat_lt}
use Rattle.std.proofs.lemmas.Bool.{and_parts, ltb-true, eq-eqb, ne_eqb, or_right}
use Rattle.std.proofs.lemmas.Bool.Decides.{eqb_tells}
use Rattle.std.specs.Prelude.{slice_index}
use Rattle.sp_words.specs.Memory.{Contents, words}
use Rattle.sp_words.specs.Ports.{PlainInput}
use Rattle.sp_core.specs.Around.{nothing, is_port_kind, is_usable}
use Rattle.sp_core.specs.Declarations.{mem, dram_number, is_among}
use Rattle.sp_core.specs.Elements.{numbers_below}
use Rattle.sp_core.specs.Meaning.{args_of, outs_of, drams_of, hold_each, first_store, out_words, dram_words}
use Rattle.sp_core.specs.PlainCore.{PlainCore}
use Rattle.sp_core.specs.Store.{Store, hold, words_of}
use Rattle.sp_lanes.specs.Order.{memory_order}
use Rattle.sp_lanes.specs.Unrolled.{unrolled}
use Rattle.sp_lanes.specs.Within.{Within, outside}
use Rattle.sp_lane_rules.specs.UnrolledPlaces.{GoTogether}
use Rattle.sp_lane_rules.proofs.UnrolledPlaces.{outside_together}
use Rattle.sp_lane_groups.specs.LiveStores.{AreCopies}
use Rattle.sp_lane_groups.proofs.LiveCopies.{copies_stand, copies_apart}
use Rattle.sp_lane_groups.specs.InnersAlong.{AgreeAt}
use Rattle.sp_lane_groups.proofs.InnersFollows.{no_copy}
use Rattle.sp_lane_trees.proofs.Numbers.{map_same, map_twice}

-- what stands in a store after something is held
held_here : (s : Store) (k m : ℕ) (c : Contents) → k ≡ m → hold s m c k ≡ Some c
held_here s k m c e = ap (λ b. elim b as (λ _. Option Contents) [ true ↦ Some c | false ↦ s k ]) (eq-eqb k m e)

held_there : (s : Store) (k m : ℕ) (c : Contents) → (k ≡ m → ⊥) → hold s m c k ≡ s k
held_there s k m c ne = ap (λ b. elim b as (λ _. Option Contents) [ true ↦ Some c | false ↦ s k ]) (ne_eqb k m ne)

past : (m n r : ℕ) → m < n → m ≡ n + r → ⊥
past m n r lt e = omega (arith, lt, e)

same_part : (n r k : ℕ) → n + r ≡ n + k → r ≡ k
same_part n r k e = omega (arith, e)

module _ (core : PlainCore) where
  abbrev w : Within
  w = outside (memory_order core)

  together : GoTogether core (unrolled core) nothing nothing w
  together = outside_together core

  copies : AreCopies core nothing w
  copies = (copies_stand core).0

  abbrev pub Agree : Store → Store → Type 0
  Agree s t = AgreeAt core nothing w s t

  low : (m : ℕ) → is_usable core nothing m ≡ true → m < length core.mems
  low m u = ltb-true m (length core.mems) (and_parts (nat_lt m (length core.mems)) (is_port_kind (mem core m).kind || false) u).0

  -- a port holds something
  hold_port : (m : ℕ) (c : Contents) (s t : Store) → is_usable core nothing m ≡ true → Agree s t → Agree (hold s m c) (hold t (w.number m) c)
  hold_port m c s t u agree = record {
    memories = λ k v. elim (eqb_tells k m) [
      | inl same ↦ held_here t (w.number k) (w.number m) c (ap w.number same.1) ∙ sym (held_here s k m c same.1)
      | inr apart ↦ held_there t (w.number k) (w.number m) c (λ e. apart.1 (copies_apart core nothing w copies k m v u e)) ∙ agree.memories k v ∙ sym (held_there s k m c apart.1)
    ];
    drams = λ r. held_there t (dram_number (unrolled core) r) (w.number m) c (λ e. no_copy core nothing nothing w together m r u (sym e)) ∙ agree.drams r
        ∙ sym (held_there s (dram_number core r) m c (λ e. past m (length core.mems) r (low m u) (sym e)));
  }

  hold_dram : (r : ℕ) (c : Contents) (s t : Store) → Agree s t → Agree (hold s (dram_number core r) c) (hold t (dram_number (unrolled core) r) c)
  hold_dram r c s t agree = record {
    memories = λ k v. held_there t (w.number k) (dram_number (unrolled core) r) c (λ e. no_copy core nothing nothing w together k r v e) ∙ agree.memories k v
        ∙ sym (held_there s k (dram_number core r) c (λ e. past k (length core.mems) r (low k v) e));
    drams = λ k. elim (eqb_tells k r) [
      | inl same ↦ held_here t (dram_number (unrolled core) k) (dram_number (unrolled core) r) c (ap (dram_number (unrolled core)) same.1) ∙ sym (held_here s (dram_number core k) (dram_number core r) c (ap (dram_number core) same.1))
      | inr apart ↦
          held_there t (dram_number (unrolled core) k) (dram_number (unrolled core) r) c (λ e. apart.1 (same_part (length (unrolled core).mems) k r e)) ∙ agree.drams k
          ∙ sym (held_there s (dram_number core k) (dram_number core r) c (λ e. apart.1 (same_part (length core.mems) k r e)))
    ];
  }

  abbrev AreUsable : List ℕ → Type 0
  AreUsable ms = (m : ℕ) → is_among m ms ≡ true → is_usable core nothing m ≡ true

  ports_held : (ms : List ℕ) (all : List (List ℕ)) (s t : Store) → AreUsable ms → Agree s t → Agree (hold_each ms all s) (hold_each (map w.number ms) all t)
  ports_held [] all s t u agree = agree
  ports_held (m ∷ ms) [] s t u agree = agree
  ports_held (m ∷ ms) (ws ∷ all) s t u agree =
      ports_held ms all (hold s m (words ws)) (hold t (w.number m) (words ws)) (λ k i. u k (or_right (k == m) (is_among k ms) i)) (hold_port m (words ws) s t (u m (ap (λ b. b || is_among m ms) (eq-eqb m m refl))) agree)

  drams_held : (rs : List ℕ) (all : List (List ℕ)) (s t : Store) → Agree s t → Agree (hold_each (map (dram_number core) rs) all s) (hold_each (map (dram_number (unrolled core)) rs) all t)
  drams_held [] all s t agree = agree
  drams_held (r ∷ rs) [] s t agree = agree
  drams_held (r ∷ rs) (ws ∷ all) s t agree = drams_held rs all (hold s (dram_number core r) (words ws)) (hold t (dram_number (unrolled core) r) (words ws)) (hold_dram r (words ws) s t agree)

  -- by where ports stand
  module _ (args : args_of (unrolled core) ≡ map w.number (args_of core)) (outs : outs_of (unrolled core) ≡ map w.number (outs_of core)) (args_usable : AreUsable (args_of core)) (outs_usable : AreUsable (outs_of core)) where
    drams_same : drams_of (unrolled core) ≡ map (dram_number (unrolled core)) (numbers_below (length core.ports.drams))
    unfolding unrolled
    drams_same = refl

    empty : Agree (λ m. None) (λ m. None)
    empty = record { memories = λ m u. refl; drams = λ r. refl }

    pub first_agree : (input : PlainInput) → Agree (first_store core input) (first_store (unrolled core) input)
    first_agree input =
        let o : Agree (hold_each (outs_of core) (map (λ m. 0 ∷ []) (outs_of core)) (λ m. None)) (hold_each (outs_of (unrolled core)) (map (λ m. 0 ∷ []) (outs_of (unrolled core))) (λ m. None)) =
        subst (λ l. Agree (hold_each (outs_of core) (map (λ m. 0 ∷ []) (outs_of core)) (λ m. None)) (hold_each l (map (λ m. 0 ∷ []) l) (λ m. None))) (sym outs)
        (subst (λ l. Agree (hold_each (outs_of core) (map (λ m. 0 ∷ []) (outs_of core)) (λ m. None)) (hold_each (map w.number (outs_of core)) l (λ m. None))) (sym (map_twice (λ m. 0 ∷ []) w.number (outs_of core)))
        (ports_held (outs_of core) (map (λ m. 0 ∷ []) (outs_of core)) (λ m. None) (λ m. None) outs_usable empty)) in
        let s1 : Store = hold_each (outs_of core) (map (λ m. 0 ∷ []) (outs_of core)) (λ m. None) in
        let t1 : Store = hold_each (outs_of (unrolled core)) (map (λ m. 0 ∷ []) (outs_of (unrolled core))) (λ m. None) in
        let d : Agree (hold_each (drams_of core) input.drams s1) (hold_each (drams_of (unrolled core)) input.drams t1) =
        subst (λ l. Agree (hold_each (drams_of core) input.drams s1) (hold_each l input.drams t1)) (sym drams_same) (drams_held (numbers_below (length core.ports.drams)) input.drams s1 t1 o) in
        subst (λ l. Agree (first_store core input) (hold_each l (map (λ w. w ∷ []) input.args) (hold_each (drams_of (unrolled core)) input.drams t1))) (sym args)
        (ports_held (args_of core) (map (λ w. w ∷ []) input.args) (hold_each (drams_of core) input.drams s1) (hold_each (drams_of (unrolled core)) input.drams t1) args_usable d)

    pub outs_agree : (s t : Store) → Agree s t → out_words (unrolled core) t ≡ out_words core s
    outs_agree s t agree =
        ap (map (λ m. slice_index (words_of (t m)) 0)) outs ∙ map_twice (λ m. slice_index (words_of (t m)) 0) w.number (outs_of core)
        ∙ map_same (λ m. slice_index (words_of (t (w.number m))) 0) (λ m. slice_index (words_of (s m)) 0) (outs_of core) (λ m i. ap (λ c. slice_index (words_of c) 0) (agree.memories m (outs_usable m i)))

    pub drams_agree : (s t : Store) → Agree s t → dram_words (unrolled core) t ≡ dram_words core s
    drams_agree s t agree =
        let rs : List ℕ = numbers_below (length core.ports.drams) in
        ap (map (λ m. words_of (t m))) drams_same ∙ map_twice (λ m. words_of (t m)) (dram_number (unrolled core)) rs
        ∙ map_same (λ r. words_of (t (dram_number (unrolled core) r))) (λ r. words_of (s (dram_number core r))) rs (λ r i. ap words_of (agree.drams r))
        ∙ sym (map_twice (λ m. words_of (s m)) (dram_number core) rs)
