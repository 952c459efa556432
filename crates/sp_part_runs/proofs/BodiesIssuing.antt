-- Groups are issued when they are to, one cycle after another.
use Rattle.std.proofs.Common.{◌≡◌, ℕ, zero, suc, ◌+◌, ◌-◌, ◌*◌, ◌<◌, ◌≤◌, ◌⊎◌, inl, inr, nat_lt, Bool, true, false, ◌&&◌, ◌||◌, not, refl, sym, ap, subst, ◌∙◌, arith, List}
use Rattle.std.specs.List.{Contains}
use Rattle.std.proofs.Math.Nat.{mul-le-mul_right, suc-mul}
use Rattle.std.proofs.lemmas.Bool.{lt-ltb, le-ltb, ltb-true, ltb-false, and_parts, and_from, or_left, or_right}
use Rattle.sp_pipe.specs.Issues.{after, later, due, is_end, IssuesAll}
use Rattle.sp_pipe.specs.Laws.{issue_cycle}
use Rattle.sp_part_runs.specs.BodiesRuns.{Begun, spent, took, IsOnAt, AreApart, Begins, Issues, Ends, IsCurrent, Tell}
use Rattle.sp_part_runs.specs.BodiesLaws.{IssueRight}

pub more_steps : (k i : ℕ) → suc k * i ≡ i + k * i
more_steps k i = let p = suc-mul k i in omega (arith, p)

-- where something takes time
pub spent_some : (i l n : ℕ) → 1 ≤ l → spent i l n ≡ n * i + l
spent_some i zero n some = absurd (omega (arith, some))
spent_some i (suc l) n some = refl

pub spent_first : (i l : ℕ) → spent i l 0 ≡ l
spent_first i zero = refl
spent_first i (suc l) = omega arith

took_at_once : (i n : ℕ) → took i 0 n ≡ 2
took_at_once i zero = refl
took_at_once i (suc n) = omega arith

pub either : (b : Bool) → (b ≡ true) ⊎ (b ≡ false)
either true = inl refl
either false = inr refl

pub one_of : (a b : Bool) → (a || b) ≡ true → (a ≡ true) ⊎ (b ≡ true)
one_of true b h = inl refl
one_of false b h = inr h

was_not : (b : Bool) → not b ≡ true → b ≡ false
was_not true h = cc
was_not false h = refl

is_not : (b : Bool) → b ≡ false → not b ≡ true
is_not true h = cc
is_not false h = refl

pub neither : (b : Bool) → b ≡ true → b ≡ false → ⊥
neither b h g = absurd (cc)

module _ (start issue : ℕ → Bool) where
  -- a turn that is due comes from a group that was issued, and nothing was started since
  pub record WasDue (n t : ℕ) : Type 0 where
    pub from : ℕ
    pub at : t ≡ from + n
    pub issued : issue from ≡ true
    pub quiet : (w : ℕ) → from ≤ w → w < t → start w ≡ false

  pub was_due : (n t : ℕ) → due start issue n t ≡ true → WasDue n t
  unfolding due
  was_due zero t h = record { from = t; at = omega arith; issued = h; quiet = λ w l m. absurd (omega (arith, l, m)) }
  was_due (suc n) zero h = absurd (cc)
  was_due (suc n) (suc v) h =
      let p = and_parts (due start issue n v) (not (start v)) h in
      let r = was_due n v p.0 in
      record { from = r.from; at = (let e = r.at in omega (arith, e)); issued = r.issued; quiet = λ w l m. by_place r.from w r.quiet (was_not (start v) p.1) l (split w m) }
    where
      split : (w : ℕ) → w < suc v → (w < v) ⊎ (w ≡ v)
      split w m = grind arith

      by_place : (from w : ℕ) → ((w : ℕ) → from ≤ w → w < v → start w ≡ false) → start v ≡ false → from ≤ w → (w < v) ⊎ (w ≡ v) → start w ≡ false
      by_place from w quiet here l (inl m) = quiet w l m
      by_place from w quiet here l (inr e) = subst (λ x. start x ≡ false) (sym e) here

  pub is_due : (n from : ℕ) → issue from ≡ true → ((w : ℕ) → from ≤ w → w < from + n → start w ≡ false) → due start issue n (from + n) ≡ true
  unfolding due
  is_due zero from h q = subst (λ t. issue t ≡ true) (omega arith) h
  is_due (suc n) from h q =
      subst (λ t. due start issue (suc n) t ≡ true) {x = suc (from + n)} (omega arith)
      (and_from (due start issue n (from + n)) (not (start (from + n))) (is_due n from h (λ w l m. q w l (omega (arith, m)))) (is_not (start (from + n)) (q (from + n) (omega arith) (omega arith))))

-- a wire of some cycles before
pub later_was : (f : ℕ → Bool) (n t : ℕ) → later n f t ≡ true → (u : ℕ) × (t ≡ u + n) × (f u ≡ true)
unfolding later
later_was f zero t h = (t, omega arith, h)
later_was f (suc n) zero h = absurd (cc)
later_was f (suc n) (suc t) h = let r = later_was f n t h in (r.0, (let e = r.1 in omega (arith, e)), r.2)

pub later_is : (f : ℕ → Bool) (n u : ℕ) → f u ≡ true → later n f (u + n) ≡ true
unfolding later
later_is f zero u h = subst (λ t. f t ≡ true) (omega arith) h
later_is f (suc n) u h = subst (λ t. later (suc n) f t ≡ true) {x = suc (u + n)} (omega arith) (later_is f n u h)

module _ (start more step issue done : ℕ → Bool) (interval latency last : ℕ) (runs : List Begun) (some_interval : 1 ≤ interval) (some_latency : 1 ≤ latency) (goes : IssuesAll start more step issue done interval latency)
    (apart : AreApart interval latency runs) (starts : IsOnAt start (Begins interval latency runs) last) (tells : Tell interval latency runs more last) where
  -- groups are issued while their run goes on
  pub issued_within : (r : Begun) (k : ℕ) → k < r.groups → issue_cycle r.cycle interval k + latency < r.cycle + took interval latency r.groups
  issued_within r k l = go r.groups l
    where
      go : (n : ℕ) → k < n → issue_cycle r.cycle interval k + latency < r.cycle + took interval latency n
      go zero m = absurd (omega (arith, m))
      go (suc n) m = let p : k * interval ≤ n * interval = mul-le-mul_right interval (omega (arith, m)) in let q = spent_some interval latency n some_latency in omega (arith, p, q)

  took_some : (r : Begun) → r.cycle + 1 < r.cycle + took interval latency r.groups
  took_some r = go r.groups
    where
      go : (n : ℕ) → r.cycle + 1 < r.cycle + took interval latency n
      go zero = omega arith
      go (suc n) = let q = spent_some interval latency n some_latency in omega (arith, some_latency, q)

  -- a run is the current one while it goes on
  pub current : (r : Begun) (t : ℕ) → Contains runs r → r.cycle < t → t ≤ r.cycle + took interval latency r.groups → IsCurrent interval latency runs r t
  current r t c l m = record { there = c; before = l; latest = λ q d b. let a = apart r q c d b in omega (arith, a, m) }

  first_issued : (t : ℕ) → t < suc last → issue t ≡ true → (v : ℕ) × (t ≡ suc v) × ((start v || due start issue (interval - 1) v) ≡ true) × (more t ≡ true)
  first_issued zero l h = absurd (let p = and_parts (step 0) (more 0) (sym (goes.issued 0) ∙ h) in let e = sym (goes.turned 0) ∙ p.0 in cc (e))
  first_issued (suc v) l h = let p = and_parts (step (suc v)) (more (suc v)) (sym (goes.issued (suc v)) ∙ h) in (v, refl, sym (goes.turned (suc v)) ∙ p.0, p.1)

  -- a group that was issued after another one, or the first one of its run
  module _ (t v : ℕ) (e : t ≡ suc v) (m : t ≤ last) (g : more t ≡ true) where
    first_group : start v ≡ true → Issues interval latency runs t
    first_group s =
        let b = starts.only v (omega (arith, e, m)) s in
        let at = b.2 in
        let now : t ≡ b.0.cycle + 1 = omega (arith, e, at) in
        let w = took_some b.0 in
        let c = current b.0 (b.0.cycle + 1) b.1 (omega arith) (omega (arith, w)) in
        let tell = tells.first b.0 c (omega (arith, now, m)) in
        (b.0, 0, b.1, ltb-true 0 b.0.groups (sym tell ∙ ap more (sym now) ∙ g), omega (arith, now))

    module _ (s : start v ≡ false) (d : WasDue start issue (interval - 1) v) (i : Issues interval latency runs d.from) where
      not_before : (q : Begun) → Contains runs q → d.from < q.cycle → t ≤ q.cycle
      not_before q x y = by_order (order q.cycle)
        where
          order : (c : ℕ) → (t ≤ c) ⊎ (c < t)
          order c = grind arith

          same : (c : ℕ) → c < t → (c < v) ⊎ (c ≡ v)
          same c z = let f = e in grind arith

          not_started : (q.cycle < v) ⊎ (q.cycle ≡ v) → start q.cycle ≡ false
          not_started (inl w) = d.quiet q.cycle (omega (arith, y)) w
          not_started (inr w) = subst (λ c. start c ≡ false) (sym w) s

          by_order : (t ≤ q.cycle) ⊎ (q.cycle < t) → t ≤ q.cycle
          by_order (inl z) = z
          by_order (inr z) = absurd (neither (start q.cycle) (starts.on q.cycle (omega (arith, z, m)) (q, x, refl)) (not_started (same q.cycle z)))

      next_group : Issues interval latency runs t
      next_group =
          let at = d.at in
          let r = i.0 in
          let k = i.1 in
          let from = i.4 in
          let now : t ≡ issue_cycle r.cycle interval k + (1 + (interval - 1)) = omega (arith, at, e, from) in
          let within = issued_within r k i.3 in
          let c : IsCurrent interval latency runs r t = record { there = i.2; before = omega (arith, now); latest = λ q x y. not_before q x (let a = apart r q i.2 x y in omega (arith, a, within, from, some_latency)) } in
          let tell = tells.then r k (interval - 1) i.3 (omega (arith, some_interval)) (subst (IsCurrent interval latency runs r) now c) (omega (arith, now, m)) in
          let next = ltb-true (suc k) r.groups (sym tell ∙ ap more (sym now) ∙ g) in
          let steps = more_steps k interval in
          (r, suc k, i.2, next, omega (arith, now, steps, some_interval))

    issued_by : (start v || due start issue (interval - 1) v) ≡ true → ((d : WasDue start issue (interval - 1) v) → Issues interval latency runs d.from) → Issues interval latency runs t
    issued_by cause before = by_start (either (start v))
      where
        by_start : (start v ≡ true) ⊎ (start v ≡ false) → Issues interval latency runs t
        by_start (inl s) = first_group s
        by_start (inr s) = by_due (one_of (start v) (due start issue (interval - 1) v) cause)
          where
            by_due : (start v ≡ true) ⊎ (due start issue (interval - 1) v ≡ true) → Issues interval latency runs t
            by_due (inl x) = absurd (neither (start v) x s)
            by_due (inr x) = let d = was_due start issue (interval - 1) v x in next_group s d (before d)

  -- what is issued is a group of a run
  only_issues : (n t : ℕ) → t < n → t ≤ last → issue t ≡ true → Issues interval latency runs t
  only_issues zero t l m h = absurd (omega (arith, l))
  only_issues (suc n) t l m h =
      let f = first_issued t (omega (arith, m)) h in
      let e = f.1 in
      issued_by t f.0 f.1 m f.3 f.2 (λ d. let at = d.at in only_issues n d.from (omega (arith, at, e, l)) (omega (arith, at, e, m)) d.issued)

  -- each group of a run is issued
  is_issued : (t v : ℕ) → t ≡ suc v → (start v || due start issue (interval - 1) v) ≡ true → more t ≡ true → issue t ≡ true
  is_issued t v e cause g = goes.issued t ∙ and_from (step t) (more t) (ap step e ∙ goes.turned (suc v) ∙ cause) g

  -- nothing begins between two groups of a run
  quiet_between : (r : Begun) (k : ℕ) → Contains runs r → suc k < r.groups → (w : ℕ) → issue_cycle r.cycle interval k ≤ w → w < issue_cycle r.cycle interval (suc k) → w ≤ last → start w ≡ false
  quiet_between r k there below w l m n = by_start (either (start w))
    where
      by_start : (start w ≡ true) ⊎ (start w ≡ false) → start w ≡ false
      by_start (inr s) = s
      by_start (inl s) =
          let b = starts.only w n s in
          let at = b.2 in
          let a = apart r b.0 there b.1 (omega (arith, at, l)) in
          let within = issued_within r (suc k) below in
          absurd (omega (arith, a, within, at, m))

  all_issued : (r : Begun) (k : ℕ) → Contains runs r → k < r.groups → issue_cycle r.cycle interval k ≤ last → issue (issue_cycle r.cycle interval k) ≡ true
  all_issued r zero there below late =
      let w = took_some r in
      let c = current r (r.cycle + 1) there (omega arith) (omega (arith, w)) in
      let tell = tells.first r c (omega (arith, late)) in
      is_issued (issue_cycle r.cycle interval 0) r.cycle (omega arith) (or_left (start r.cycle) (due start issue (interval - 1) r.cycle) (starts.on r.cycle (omega (arith, late)) (r, there, refl)))
      (ap more (omega arith) ∙ tell ∙ lt-ltb 0 r.groups below)
  all_issued r (suc k) there below late =
      let steps = more_steps k interval in
      let before = all_issued r k there (omega (arith, below)) (omega (arith, late, steps)) in
      let within = issued_within r (suc k) below in
      let now : issue_cycle r.cycle interval (suc k) ≡ issue_cycle r.cycle interval k + (1 + (interval - 1)) = omega (arith, steps, some_interval) in
      let c : IsCurrent interval latency runs r (issue_cycle r.cycle interval (suc k)) = current r (issue_cycle r.cycle interval (suc k)) there (omega arith) (omega (arith, within)) in
      let tell = tells.then r k (interval - 1) (omega (arith, below)) (omega (arith, some_interval)) (subst (IsCurrent interval latency runs r) now c) (omega (arith, now, late)) in
      let q = quiet_between r k there below in
      is_issued (issue_cycle r.cycle interval (suc k)) (issue_cycle r.cycle interval k + (interval - 1)) (omega (arith, now))
      (or_right (start (issue_cycle r.cycle interval k + (interval - 1))) (due start issue (interval - 1) (issue_cycle r.cycle interval k + (interval - 1)))
      (is_due start issue (interval - 1) (issue_cycle r.cycle interval k) before (λ w l m. q w l (omega (arith, m, now)) (omega (arith, m, now, late)))))
      (ap more now ∙ tell ∙ lt-ltb (suc k) r.groups below)

  pub issues_right : IsOnAt issue (Issues interval latency runs) last
  issues_right = record {
    on = λ t m i. let e = i.4 in subst (λ c. issue c ≡ true) (sym i.4) (all_issued i.0 i.1 i.2 i.3 (omega (arith, e, m)));
    only = λ t m h. only_issues (suc t) t (omega arith) m h;
  }

  -- whether a group that was issued is the last one
  after_group : (r : Begun) (k : ℕ) → Contains runs r → k < r.groups → issue_cycle r.cycle interval k + 1 ≤ last → more (suc (issue_cycle r.cycle interval k)) ≡ nat_lt (suc k) r.groups
  after_group r k there below late =
      let within = issued_within r k below in
      let now : suc (issue_cycle r.cycle interval k) ≡ issue_cycle r.cycle interval k + (1 + 0) = omega arith in
      let c : IsCurrent interval latency runs r (suc (issue_cycle r.cycle interval k)) = current r (suc (issue_cycle r.cycle interval k)) there (omega arith) (omega (arith, within, some_latency)) in
      ap more now ∙ tells.then r k 0 below (omega (arith, some_interval)) (subst (IsCurrent interval latency runs r) now c) (omega (arith, late))

  -- what ends is a run that is over
  module _ (l : ℕ) (one_less : latency ≡ suc l) where
    abbrev last_issued : ℕ → Bool
    last_issued u = after issue u && not (more u)

    ends_at : (t : ℕ) → done t ≡ ((after start t && not (more t)) || later l last_issued t)
    ends_at t = goes.ends t ∙ ap (λ n. is_end start more issue n t) one_less

    none_ends : (t : ℕ) → t ≤ last → (after start t && not (more t)) ≡ true → Ends interval latency runs t
    none_ends zero m h = absurd (cc)
    none_ends (suc v) m h =
        let p = and_parts (start v) (not (more (suc v))) h in
        let b = starts.only v (omega (arith, m)) p.0 in
        let at = b.2 in
        let w = took_some b.0 in
        let c = current b.0 (b.0.cycle + 1) b.1 (omega arith) (omega (arith, w)) in
        let now : suc v ≡ b.0.cycle + 1 = omega (arith, at) in
        let tell = tells.first b.0 c (omega (arith, now, m)) in
        let none : b.0.groups ≤ 0 = ltb-false 0 b.0.groups (sym tell ∙ ap more (sym now) ∙ was_not (more (suc v)) p.1) in
        (b.0, b.1, by_groups b.0.cycle b.0.groups none at)
      where
        by_groups : (c n : ℕ) → n ≤ 0 → v ≡ c → suc (suc v) ≡ c + took interval latency n
        by_groups c zero z at = omega (arith, at)
        by_groups c (suc n) z at = absurd (omega (arith, z))

    last_ends : (t : ℕ) → t ≤ last → later l last_issued t ≡ true → Ends interval latency runs t
    last_ends t m h =
        let r = later_was last_issued l t h in
        by_cycle r.0 r.1 r.2
      where
        by_last : (r : Begun) (k w : ℕ) → t ≡ suc w + l → w ≡ issue_cycle r.cycle interval k → k < r.groups → r.groups ≤ suc k → (n : ℕ) → n ≡ r.groups → suc t ≡ r.cycle + took interval latency n
        by_last r k w e at below over zero same = absurd (omega (arith, below, same))
        by_last r k w e at below over (suc n) same = let f : k ≡ n = omega (arith, below, over, same) in let g = ap (λ x. x * interval) f in let q = spent_some interval latency n some_latency in omega (arith, e, at, g, one_less, q)

        by_cycle : (u : ℕ) → t ≡ u + l → last_issued u ≡ true → Ends interval latency runs t
        by_cycle zero e h = absurd (cc)
        by_cycle (suc w) e h =
            let p = and_parts (issue w) (not (more (suc w))) h in
            let i = only_issues (suc w) w (omega arith) (omega (arith, e, m)) p.0 in
            let at = i.4 in
            let tell = after_group i.0 i.1 i.2 i.3 (omega (arith, at, e, m)) in
            let over = ltb-false (suc i.1) i.0.groups (sym tell ∙ ap (λ c. more (suc c)) (sym at) ∙ was_not (more (suc w)) p.1) in
            (i.0, i.2, by_last i.0 i.1 w e at i.3 over i.0.groups refl)

    only_ends : (t : ℕ) → t ≤ last → done t ≡ true → Ends interval latency runs t
    only_ends t m h = by_cause (one_of (after start t && not (more t)) (later l last_issued t) (sym (ends_at t) ∙ h))
      where
        by_cause : ((after start t && not (more t)) ≡ true) ⊎ (later l last_issued t ≡ true) → Ends interval latency runs t
        by_cause (inl x) = none_ends t m x
        by_cause (inr x) = last_ends t m x

    all_end : (r : Begun) → Contains runs r → (n : ℕ) → n ≡ r.groups → (t : ℕ) → t ≤ last → suc t ≡ r.cycle + took interval latency n → done t ≡ true
    all_end r there zero same t m e =
        let now : t ≡ suc r.cycle = omega (arith, e) in
        let w = took_some r in
        let c = current r (r.cycle + 1) there (omega arith) (omega (arith, w)) in
        let tell = tells.first r c (omega (arith, now, m)) in
        ends_at t ∙ or_left (after start t && not (more t)) (later l last_issued t)
        (ap (λ c. after start c && not (more c)) now ∙ and_from (start r.cycle) (not (more (suc r.cycle))) (starts.on r.cycle (omega (arith, now, m)) (r, there, refl))
        (is_not (more (suc r.cycle)) (ap more (omega arith) ∙ tell ∙ le-ltb 0 r.groups (omega (arith, same)))))
    all_end r there (suc n) same t m e =
        let below : n < r.groups = omega (arith, same) in
        let q = spent_some interval latency n some_latency in
        let now : t ≡ suc (issue_cycle r.cycle interval n) + l = omega (arith, e, one_less, q) in
        let tell = after_group r n there below (omega (arith, now, m)) in
        ends_at t ∙ or_right (after start t && not (more t)) (later l last_issued t)
        (ap (later l last_issued) now ∙ later_is last_issued l (suc (issue_cycle r.cycle interval n))
        (and_from (issue (issue_cycle r.cycle interval n)) (not (more (suc (issue_cycle r.cycle interval n)))) (all_issued r n there below (omega (arith, now, m)))
        (is_not (more (suc (issue_cycle r.cycle interval n))) (tell ∙ le-ltb (suc n) r.groups (omega (arith, same))))))

    ends_right : IsOnAt done (Ends interval latency runs) last
    ends_right = record { on = λ t m i. all_end i.0 i.1 i.0.groups refl t m i.2; only = λ t m h. only_ends t m h }

  pub all_right : IssueRight issue done interval latency runs last
  all_right = record { issues = issues_right; ends = by_latency latency refl }
    where
      by_latency : (n : ℕ) → latency ≡ n → IsOnAt done (Ends interval latency runs) last
      by_latency zero e = absurd (omega (arith, e, some_latency))
      by_latency (suc l) e = ends_right l e

-- of latency 0
pub ends_at_once : (start more step issue done : ℕ → Bool) (interval last : ℕ) (runs : List Begun) → IssuesAll start more step issue done interval 0 → IsOnAt start (Begins interval 0 runs) last → IsOnAt done (Ends interval 0 runs) last
ends_at_once start more step issue done interval last runs goes starts = record { on = on; only = only }
  where
    on : (t : ℕ) → t ≤ last → Ends interval 0 runs t → done t ≡ true
    on t l (r, there, e) =
        let w = took_at_once interval r.groups in
        let now : t ≡ suc r.cycle = omega (arith, e, w) in
        ap done now ∙ goes.ends (suc r.cycle) ∙ starts.on r.cycle (omega (arith, now, l)) (r, there, refl)

    only : (t : ℕ) → t ≤ last → done t ≡ true → Ends interval 0 runs t
    only zero l h = absurd (let e = sym (goes.ends 0) ∙ h in cc (e))
    only (suc v) l h =
        let b = starts.only v (omega (arith, l)) (sym (goes.ends (suc v)) ∙ h) in
        let w = took_at_once interval b.0.groups in
        let at = b.2 in
        (b.0, b.1, omega (arith, at, w))
