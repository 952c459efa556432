-- Chains at once: when all have come since a first cycle, and when their slot ends.
use Rattle.std.proofs.Common.{◌≡◌, ℕ, zero, suc, ◌+◌, ◌-◌, ◌<◌, ◌≤◌, ◌⊎◌, inl, inr, Bool, true, false, ◌&&◌, ◌||◌, not, refl, sym, ap, subst, arith, List, [], ◌∷◌, length}
use Rattle.std.specs.Prelude.{max}
use Rattle.std.specs.List.{Contains}
use Rattle.std.proofs.Math.Nat.{le-max_left, le-max_right, max-le}
use Rattle.std.proofs.lemmas.Bool.{and_parts, and_from, or_left, or_right}
use Rattle.sp_netlist.specs.Signals.{Signals}
use Rattle.sp_part_runs.specs.BodiesRuns.{IsOnAt}
use Rattle.sp_sequence.specs.declared.part.Chain.{Chain}
use Rattle.sp_sequence.specs.Joins.{was_since, is_since, is_going, is_end, chains_over, ChainsStart as StartChains}
use Rattle.sp_sequence.specs.Members.{chain_over}
use Rattle.sp_part_runs.specs.SequencesChains.{Numbered, At, turn, ChainDoes, ChainBegins}
use Rattle.sp_part_runs.specs.SequencesRuns.{MemberRan, chain_took, longest, sizes_of}
use Rattle.sp_part_runs.proofs.SequencesCycles.{one_of, either, was_not, is_not, neither, by_order, at_same}
use Rattle.sp_part_runs.proofs.SequencesMembers.{chain_right}

module _ (first over : ℕ → Bool) where
  -- it was so in a cycle after which there was no first one
  record Since (t : ℕ) : Type 0 where
    from : ℕ
    before : from < t
    so : over from ≡ true
    quiet : (w : ℕ) → from ≤ w → w < t → first w ≡ false

  since_was : (t : ℕ) → was_since first over t ≡ true → Since t
  unfolding was_since
  since_was zero h = absurd (cc)
  since_was (suc v) h = let p = and_parts (over v || was_since first over v) (not (first v)) h in by (was_not (first v) p.1) (since_was v) (one_of (over v) (was_since first over v) p.0)
    where
      split : (w : ℕ) → w < suc v → (w < v) ⊎ (w ≡ v)
      split w m = grind arith

      quieter : (from w : ℕ) → ((w : ℕ) → from ≤ w → w < v → first w ≡ false) → first v ≡ false → from ≤ w → (w < v) ⊎ (w ≡ v) → first w ≡ false
      quieter from w q f l (inl m) = q w l m
      quieter from w q f l (inr e) = subst (λ x. first x ≡ false) (sym e) f

      by : first v ≡ false → (was_since first over v ≡ true → Since v) → (over v ≡ true) ⊎ (was_since first over v ≡ true) → Since (suc v)
      by f rest (inl o) = record { from = v; before = omega arith; so = o; quiet = λ w l m. quieter v w (λ w l m. absurd (omega (arith, l, m))) f l (split w m) }
      by f rest (inr o) = let r = rest o in record { from = r.from; before = (let b = r.before in omega (arith, b)); so = r.so; quiet = λ w l m. quieter r.from w r.quiet f l (split w m) }

  since_is : (u d : ℕ) → over u ≡ true → ((w : ℕ) → u ≤ w → w < u + suc d → first w ≡ false) → was_since first over (u + suc d) ≡ true
  unfolding was_since
  since_is u zero o q = subst (λ t. was_since first over t ≡ true) {x = suc u} (omega arith) (and_from (over u || was_since first over u) (not (first u)) (or_left (over u) (was_since first over u) o) (is_not (first u) (q u (omega arith) (omega arith))))
  since_is u (suc d) o q =
      subst (λ t. was_since first over t ≡ true) {x = suc (u + suc d)} (omega arith)
      (and_from (over (u + suc d) || was_since first over (u + suc d)) (not (first (u + suc d))) (or_right (over (u + suc d)) (was_since first over (u + suc d)) (since_is u d o (λ w l m. q w l (omega (arith, m)))))
      (is_not (first (u + suc d)) (q (u + suc d) (omega arith) (omega arith))))

module _ (first all : ℕ → Bool) where
  -- there was a first cycle after which not all had come
  record Going (t : ℕ) : Type 0 where
    from : ℕ
    before : from < t
    begun : first from ≡ true
    missing : (w : ℕ) → from < w → w < t → all w ≡ false

  going_was : (t : ℕ) → is_going first all t ≡ true → Going t
  unfolding is_going
  going_was zero h = absurd (cc)
  going_was (suc v) h = by (going_was v) (one_of (first v) (is_going first all v && not (all v)) h)
    where
      split : (w : ℕ) → w < suc v → (w < v) ⊎ (w ≡ v)
      split w m = grind arith

      none : (from w : ℕ) → ((w : ℕ) → from < w → w < v → all w ≡ false) → all v ≡ false → from < w → (w < v) ⊎ (w ≡ v) → all w ≡ false
      none from w q f l (inl m) = q w l m
      none from w q f l (inr e) = subst (λ x. all x ≡ false) (sym e) f

      by : (is_going first all v ≡ true → Going v) → (first v ≡ true) ⊎ ((is_going first all v && not (all v)) ≡ true) → Going (suc v)
      by rest (inl o) = record { from = v; before = omega arith; begun = o; missing = λ w l m. absurd (omega (arith, l, m)) }
      by rest (inr o) =
          let p = and_parts (is_going first all v) (not (all v)) o in
          let r = rest p.0 in
          record { from = r.from; before = (let b = r.before in omega (arith, b)); begun = r.begun; missing = λ w l m. none r.from w r.missing (was_not (all v) p.1) l (split w m) }

  going_is : (u d : ℕ) → first u ≡ true → ((w : ℕ) → u < w → w < u + suc d → all w ≡ false) → is_going first all (u + suc d) ≡ true
  unfolding is_going
  going_is u zero o q = subst (λ t. is_going first all t ≡ true) {x = suc u} (omega arith) (or_left (first u) (is_going first all u && not (all u)) o)
  going_is u (suc d) o q =
      subst (λ t. is_going first all t ≡ true) {x = suc (u + suc d)} (omega arith)
      (or_right (first (u + suc d)) (is_going first all (u + suc d) && not (all (u + suc d)))
      (and_from (is_going first all (u + suc d)) (not (all (u + suc d))) (going_is u d o (λ w l m. q w l (omega (arith, m)))) (is_not (all (u + suc d)) (q (u + suc d) (omega arith) (omega arith)))))

pub add_max : (f a b t : ℕ) → f + a ≤ t → f + b ≤ t → f + max a b ≤ t
add_max f a b t l m = let k : max a b ≤ t - f = max-le (omega (arith, l)) (omega (arith, m)) in omega (arith, k, l)

-- runs that begin in their first cycles and last so long
module _ {R : Type 0} (first : ℕ → Bool) (F span : R → ℕ) (runs : List R) (last : ℕ) (firsts : IsOnAt first (At F runs) last) (apart : (r q : R) → Contains runs r → Contains runs q → F r ≤ F q → (r ≡ q) ⊎ (F r + span r < F q)) where
  quiet_after : (r : R) (w : ℕ) → Contains runs r → F r < w → w ≤ F r + span r → w ≤ last → first w ≡ false
  quiet_after r w c l m n = by (either (first w))
    where
      no_other : (q : R) → w ≡ F q → (r ≡ q) ⊎ (F r + span r < F q) → first w ≡ false
      no_other q e (inl same) = absurd (let f = ap F same in omega (arith, e, f, l))
      no_other q e (inr after) = absurd (omega (arith, e, after, m))

      by : (first w ≡ true) ⊎ (first w ≡ false) → first w ≡ false
      by (inr f) = f
      by (inl t) = let x = firsts.only w n t in let e = x.2 in no_other x.0 x.2 (apart r x.0 c x.1 (omega (arith, e, l)))

  -- a chain that takes so long in each of them
  module _ (over : ℕ → Bool) (n : R → ℕ) (overs : IsOnAt over (At (λ r. F r + n r) runs) last) (some : (r : R) → Contains runs r → 1 ≤ n r) (within : (r : R) → Contains runs r → n r ≤ span r) where
    chain_on : (r : R) (t : ℕ) → Contains runs r → t ≤ last → F r + n r ≤ t → t ≤ F r + span r → is_since first over t ≡ true
    chain_on r t c l a b = by (by_order t (F r + n r))
      where
        by : (t ≤ F r + n r) ⊎ (F r + n r < t) → is_since first over t ≡ true
        by (inl m) = or_left (over t) (was_since first over t) (overs.on t l (r, c, omega (arith, a, m)))
        by (inr m) =
            let k = some r c in
            or_right (over t) (was_since first over t)
            (subst (λ x. was_since first over x ≡ true) {x = F r + n r + suc (t - suc (F r + n r))} (omega (arith, m))
            (since_is first over (F r + n r) (t - suc (F r + n r)) (overs.on (F r + n r) (omega (arith, m, l)) (r, c, refl)) (λ w u v. quiet_after r w c (omega (arith, u, k)) (omega (arith, v, b, m)) (omega (arith, v, l, m)))))

    -- what ended last before a cycle of a run is that run
    ended : (r : R) (t : ℕ) → Contains runs r → t ≤ last → F r < t → t ≤ F r + span r → (q : R) (u : ℕ) → Contains runs q → u ≡ F q + n q → u ≤ t → ((w : ℕ) → u ≤ w → w < t → first w ≡ false) → F r + n r ≤ t
    ended r t c l a b q u d e m quiet = by (by_order (F q) (F r))
      where
        earlier : (q ≡ r) ⊎ (F q + span q < F r) → F r + n r ≤ t
        earlier (inl same) = let f = ap F same in let g = ap n same in omega (arith, e, f, g, m)
        earlier (inr before) = let k = within q d in absurd (neither (first (F r)) (firsts.on (F r) (omega (arith, a, l)) (r, c, refl)) (quiet (F r) (omega (arith, e, k, before)) a))

        later : F r < F q → (r ≡ q) ⊎ (F r + span r < F q) → F r + n r ≤ t
        later z (inl same) = absurd (let f = ap F same in omega (arith, f, z))
        later z (inr after) = absurd (omega (arith, after, e, m, b))

        by : (F q ≤ F r) ⊎ (F r < F q) → F r + n r ≤ t
        by (inl z) = earlier (apart q r d c z)
        by (inr z) = later z (apart r q c d (omega (arith, z)))

    chain_only : (r : R) (t : ℕ) → Contains runs r → t ≤ last → F r < t → t ≤ F r + span r → is_since first over t ≡ true → F r + n r ≤ t
    chain_only r t c l a b h = by (one_of (over t) (was_since first over t) h)
      where
        by : (over t ≡ true) ⊎ (was_since first over t ≡ true) → F r + n r ≤ t
        by (inl o) = let x = overs.only t l o in ended r t c l a b x.0 t x.1 x.2 (omega arith) (λ w u v. absurd (omega (arith, u, v)))
        by (inr o) = let k = since_was first over t o in let m = k.before in let x = overs.only k.from (omega (arith, m, l)) k.so in ended r t c l a b x.0 k.from x.1 x.2 (omega (arith, m)) k.quiet

  -- all have come, in a run, where the longest has
  pub record AllRight (length : R → ℕ) (all : ℕ → Bool) : Type 0 where
    pub on : (r : R) (t : ℕ) → Contains runs r → t ≤ last → F r < t → t ≤ F r + span r → F r + length r ≤ t → all t ≡ true
    pub only : (r : R) (t : ℕ) → Contains runs r → t ≤ last → F r < t → t ≤ F r + span r → all t ≡ true → F r + length r ≤ t

  module _ (s : Signals) (found : R → (chain member : ℕ) → MemberRan) where
    pub record ChainsRight (j : ℕ) (chains : List Chain) : Type 0 where
      pub starts : Numbered (λ j c. ChainBegins s F (λ r. found r j) runs last c) j chains
      pub over : AllRight (λ r. longest (found r) j (sizes_of chains)) (chains_over s first chains)

    pub chains_right : (chains : List Chain) (j : ℕ) → StartChains s first chains → Numbered (λ j c. ChainDoes s F (λ r. found r j) runs last c) j chains → ((r : R) → Contains runs r → longest (found r) j (sizes_of chains) ≤ span r) → ChainsRight j chains
    chains_right [] j starts does fits = record { starts = tt; over = record { on = λ r t c l a b e. refl; only = λ r t c l a b h. omega (arith, a) } }
    chains_right (c ∷ chains) j starts does fits =
        let n : R → ℕ = λ r. chain_took (found r j) (length c.members.items) in
        let over : ℕ → Bool = chain_over s first c.members.items in
        let own = chain_right s F (λ r. found r j) runs last c.members.items 0 first (at_same first F (turn F (λ r. found r j) 0) runs last (λ r. omega arith) firsts) starts.0 does.0.members in
        let overs : IsOnAt over (At (λ r. F r + n r) runs) last = at_same over (turn F (λ r. found r j) (0 + length c.members.items)) (λ r. F r + n r) runs last (λ r. ap (λ k. F r + chain_took (found r j) k) {x = 0 + length c.members.items} (omega arith)) own.ends in
        let within : (r : R) → Contains runs r → n r ≤ span r = λ r i. (let f = fits r i in let m = le-max_left (n r) (longest (found r) (suc j) (sizes_of chains)) in omega (arith, f, m)) in
        let rest = chains_right chains (suc j) starts.1 does.1 (λ r i. let f = fits r i in let m = le-max_right (n r) (longest (found r) (suc j) (sizes_of chains)) in omega (arith, f, m)) in
        record {
          starts = (own.starts, rest.starts);
          over = record {
            on = λ r t i l a b e.
                let m = le-max_left (n r) (longest (found r) (suc j) (sizes_of chains)) in
                let k = le-max_right (n r) (longest (found r) (suc j) (sizes_of chains)) in
                and_from (is_since first over t) (chains_over s first chains t) (chain_on over n overs does.0.takes_time within r t i l (omega (arith, e, m)) b) (rest.over.on r t i l a b (omega (arith, e, k)));
            only = λ r t i l a b h.
                let p = and_parts (is_since first over t) (chains_over s first chains t) h in
                add_max (F r) (n r) (longest (found r) (suc j) (sizes_of chains)) t (chain_only over n overs does.0.takes_time within r t i l a b p.0) (rest.over.only r t i l a b p.1);
          };
        }

  -- the end of a slot is where all have come, and a cycle after its first one at the least
  module _ (all : ℕ → Bool) (long : R → ℕ) (comes : AllRight long all) (lasts : (r : R) → Contains runs r → span r ≡ max 1 (long r)) where
    not_all : (r : R) (w : ℕ) → Contains runs r → w ≤ last → F r < w → w < F r + span r → all w ≡ false
    not_all r w c l a b = by (either (all w))
      where
        by : (all w ≡ true) ⊎ (all w ≡ false) → all w ≡ false
        by (inr f) = f
        by (inl t) = absurd (let k = comes.only r w c l a (omega (arith, b)) t in let m = add_max (F r) 1 (long r) w (omega (arith, a)) k in let e = lasts r c in omega (arith, m, e, b))

    some_span : (r : R) → Contains runs r → 1 ≤ span r
    some_span r c = let e = lasts r c in let m = le-max_left 1 (long r) in omega (arith, e, m)

    all_at : (r : R) → Contains runs r → F r + span r ≤ last → all (F r + span r) ≡ true
    all_at r c l = let e = lasts r c in let m = le-max_right 1 (long r) in let k = some_span r c in comes.on r (F r + span r) c l (omega (arith, k)) (omega arith) (omega (arith, e, m))

    pub end_right : IsOnAt (is_end first all) (At (λ r. F r + span r) runs) last
    end_right = record { on = on; only = only }
      where
        on : (t : ℕ) → t ≤ last → At (λ r. F r + span r) runs t → is_end first all t ≡ true
        on t l (r, c, e) =
            let k = some_span r c in
            and_from (is_going first all t) (all t)
            (subst (λ x. is_going first all x ≡ true) {x = F r + suc (t - suc (F r))} (omega (arith, e, k))
            (going_is first all (F r) (t - suc (F r)) (firsts.on (F r) (omega (arith, e, l)) (r, c, refl)) (λ w u v. not_all r w c (omega (arith, v, e, l, k)) u (omega (arith, v, e, k)))))
            (subst (λ x. all x ≡ true) (sym e) (all_at r c (omega (arith, e, l))))

        exact : (t : ℕ) → t ≤ last → (r : R) (from : ℕ) → Contains runs r → from ≡ F r → ((w : ℕ) → from < w → w < t → all w ≡ false) → all t ≡ true → from < t → t ≡ F r + span r
        exact t l r from c e missing h m = by (by_order t (F r + span r)) (by_order (F r + span r) t)
          where
            by : (t ≤ F r + span r) ⊎ (F r + span r < t) → (F r + span r ≤ t) ⊎ (t < F r + span r) → t ≡ F r + span r
            by (inl a) (inl b) = omega (arith, a, b)
            by (inl a) (inr b) = absurd (neither (all t) h (not_all r t c l (omega (arith, e, m)) b))
            by (inr a) _ = let k = some_span r c in absurd (neither (all (F r + span r)) (all_at r c (omega (arith, a, l))) (missing (F r + span r) (omega (arith, e, k)) a))

        only : (t : ℕ) → t ≤ last → is_end first all t ≡ true → At (λ r. F r + span r) runs t
        only t l h =
            let p = and_parts (is_going first all t) (all t) h in
            let g = going_was first all t p.0 in
            let m = g.before in
            let x = firsts.only g.from (omega (arith, m, l)) g.begun in
            (x.0, x.1, exact t l x.0 g.from x.1 x.2 g.missing p.1 m)
