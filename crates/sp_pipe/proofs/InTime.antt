-- Groups are issued in time.
use Rattle.std.proofs.Common.{◌≡◌, ℕ, zero, suc, ◌+◌, ◌-◌, ◌*◌, ◌<◌, ◌≤◌, nat_lt, Bool, true, false, ◌&&◌, ◌||◌, not, refl, sym, ap, ap₂, ◌∙◌, arith}
use Rattle.std.proofs.Math.Nat.{mul-le-mul_right, suc-mul}
use Rattle.std.proofs.lemmas.Bool.{lt-ltb, le-ltb}
use Rattle.sp_pipe.specs.Issues.{after, later, due, is_end, IssuesAll}
use Rattle.sp_pipe.specs.Laws.{issue_cycle, TellsOf, RunsInTime, BodiesRunInTime}

and_false : (b : Bool) → (b && false) ≡ false
and_false true = refl
and_false false = refl

and_true : (b : Bool) → (b && true) ≡ b
and_true true = refl
and_true false = refl

or_true : (b : Bool) → (b || true) ≡ true
or_true true = refl
or_true false = refl

lt_true : (a b : ℕ) → a < b → nat_lt a b ≡ true
lt_true a b l = lt-ltb a b l

lt_false : (a : ℕ) → nat_lt a a ≡ false
lt_false a = le-ltb a a (omega arith)

more_steps : (k i : ℕ) → suc k * i ≡ i + k * i
more_steps k i = let p = suc-mul k i in omega (arith, p)

module _ (start issue : ℕ → Bool) where
  -- a start takes away what was due before it
  due_cut : (begun : ℕ) → start begun ≡ true → (n m : ℕ) → m < n → due start issue n (suc (begun + m)) ≡ false
  unfolding due
  due_cut begun s zero m l = absurd (omega (arith, l))
  due_cut begun s (suc n) zero l = ap (λ t. due start issue n t && not (start t)) (omega arith) ∙ ap (λ b. due start issue n begun && not b) s ∙ and_false (due start issue n begun)
  due_cut begun s (suc n) (suc m) l = ap (λ t. due start issue n t && not (start t)) (omega arith) ∙ ap (λ b. b && not (start (suc (begun + m)))) (due_cut begun s n m (omega (arith, l)))

  -- what was issued is due so many cycles later, where it isn't started meanwhile
  due_kept : (n t : ℕ) → ((u : ℕ) → t ≤ u → u < t + n → start u ≡ false) → due start issue n (t + n) ≡ issue t
  unfolding due
  due_kept zero t h = ap issue (omega arith)
  due_kept (suc n) t h =
      let e : t + suc n ≡ suc (t + n) = omega arith in
      ap (λ u. due start issue (suc n) u) e
      ∙ ap₂ (λ a b. a && not b) (due_kept n t (λ u l m. h u l (omega (arith, m)))) (h (t + n) (omega arith) (omega arith))
      ∙ and_true (issue t)

  -- later is so many cycles later
  later_at : (w : ℕ → Bool) (n t : ℕ) → later n w (t + n) ≡ w t
  unfolding later
  later_at w zero t = ap w (omega arith)
  later_at w (suc n) t = let e : t + suc n ≡ suc (t + n) = omega arith in ap (λ u. later (suc n) w u) e ∙ later_at w n t

module _ (start more step issue done : ℕ → Bool) (interval latency begun groups : ℕ) (some : 1 ≤ interval) (h : IssuesAll start more step issue done interval latency)
    (s : start begun ≡ true) (quiet : (t : ℕ) → begun < t → t ≤ issue_cycle begun interval groups → start t ≡ false) (tells : TellsOf more begun interval groups) where
  -- a turn after the first interval is what was issued an interval before
  turn_after : (m : ℕ) → begun + 1 + m + interval ≤ issue_cycle begun interval groups → step (begun + 1 + m + interval) ≡ issue (begun + 1 + m)
  turn_after m l =
      let e : begun + 1 + m + interval ≡ suc ((begun + 1 + m) + (interval - 1)) = omega (arith, some) in
      ap step e ∙ h.turned (suc ((begun + 1 + m) + (interval - 1)))
      ∙ ap₂ (λ a b. a || b) (quiet ((begun + 1 + m) + (interval - 1)) (omega arith) (omega (arith, l, some)))
      (due_kept start issue (interval - 1) (begun + 1 + m) (λ u a b. quiet u (omega (arith, a)) (omega (arith, b, l, some))))

  first_turn : step (begun + 1) ≡ true
  first_turn = let e : begun + 1 ≡ suc begun = omega arith in ap step e ∙ h.turned (suc begun) ∙ ap (λ b. b || due start issue (interval - 1) begun) s

  -- in the first interval there is no other turn
  first_pause : (j : ℕ) → 1 ≤ j → j < interval → begun + 1 + j ≤ issue_cycle begun interval groups → step (begun + 1 + j) ≡ false
  first_pause j l m w =
      let e : begun + 1 + j ≡ suc (suc (begun + (j - 1))) = omega (arith, l) in
      ap step e ∙ h.turned (suc (suc (begun + (j - 1))))
      ∙ ap₂ (λ a b. a || b) (quiet (suc (begun + (j - 1))) (omega arith) (omega (arith, l, w))) (due_cut start issue begun s (interval - 1) (j - 1) (omega (arith, l, m)))

  -- whether there is one more at a turn
  told : (k : ℕ) → k ≤ groups → more (issue_cycle begun interval k) ≡ nat_lt k groups
  told zero l = ap more (omega arith) ∙ tells.first
  told (suc k) l =
      let e : issue_cycle begun interval (suc k) ≡ issue_cycle begun interval k + (1 + (interval - 1)) = step_on k in
      ap more e ∙ tells.then k (interval - 1) (omega (arith, l)) (omega (arith, some))
    where
      step_on : (k : ℕ) → issue_cycle begun interval (suc k) ≡ issue_cycle begun interval k + (1 + (interval - 1))
      step_on k = let p = more_steps k interval in omega (arith, p, some)

  -- no turn is past the last one
  turn_within : (k : ℕ) → k ≤ groups → k * interval ≤ groups * interval
  turn_within k l = mul-le-mul_right interval l

  next_within : (k : ℕ) → k < groups → interval + k * interval ≤ groups * interval
  next_within k l = let p = more_steps k interval in let m = turn_within (suc k) (omega (arith, l)) in omega (arith, p, m)

  turn_at : (k : ℕ) → k ≤ groups → step (issue_cycle begun interval k) ≡ true
  turn_at zero l = ap step (omega arith) ∙ first_turn
  turn_at (suc k) l =
      let below : k < groups = omega (arith, l) in
      let m = next_within k below in
      let p = more_steps k interval in
      let e : issue_cycle begun interval (suc k) ≡ begun + 1 + k * interval + interval = omega (arith, p) in
      ap step e ∙ turn_after (k * interval) (omega (arith, m)) ∙ h.issued (issue_cycle begun interval k)
      ∙ ap₂ (λ a b. a && b) (turn_at k (omega (arith, l))) (told k (omega (arith, l)) ∙ lt_true k groups below)

  issue_at : (k : ℕ) → k ≤ groups → issue (issue_cycle begun interval k) ≡ nat_lt k groups
  issue_at k l = h.issued (issue_cycle begun interval k) ∙ ap₂ (λ a b. a && b) (turn_at k l) (told k l)

  pause_at : (k j : ℕ) → k < groups → 1 ≤ j → j < interval → step (issue_cycle begun interval k + j) ≡ false
  pause_at zero j l a b =
      let m = next_within 0 l in
      let e : issue_cycle begun interval 0 + j ≡ begun + 1 + j = omega arith in
      ap step e ∙ first_pause j a b (omega (arith, m, b))
  pause_at (suc k) j l a b =
      let m = next_within (suc k) l in
      let p = more_steps k interval in
      let e : issue_cycle begun interval (suc k) + j ≡ begun + 1 + (k * interval + j) + interval = omega (arith, p) in
      let f : begun + 1 + (k * interval + j) ≡ issue_cycle begun interval k + j = omega arith in
      ap step e ∙ turn_after (k * interval + j) (omega (arith, m, b, p)) ∙ ap issue f ∙ h.issued (issue_cycle begun interval k + j)
      ∙ ap (λ x. x && more (issue_cycle begun interval k + j)) (pause_at k j (omega (arith, l)) a b)

  none_between : (k j : ℕ) → k < groups → 1 ≤ j → j < interval → issue (issue_cycle begun interval k + j) ≡ false
  none_between k j l a b = h.issued (issue_cycle begun interval k + j) ∙ ap (λ x. x && more (issue_cycle begun interval k + j)) (pause_at k j l a b)

  no_group : groups ≡ 0 → (l : ℕ) → is_end start more issue l (begun + 1) ≡ true
  no_group none zero = let e : begun + 1 ≡ suc begun = omega arith in ap (after start) e ∙ s
  no_group none (suc l) =
      let e : begun + 1 ≡ suc begun = omega arith in
      ap₂ (λ a b. (a && not b) || later l (λ u. after issue u && not (more u)) (begun + 1)) (ap (after start) e ∙ s) (tells.first ∙ ap (nat_lt 0) none)

  last_group : (k : ℕ) → suc k ≡ groups → (l : ℕ) → 1 ≤ l → is_end start more issue l (issue_cycle begun interval k + l) ≡ true
  last_group k is zero few = absurd (omega (arith, few))
  last_group k is (suc l) few =
      let below : k < groups = omega (arith, is) in
      let e : issue_cycle begun interval k + suc l ≡ (issue_cycle begun interval k + 1) + l = omega arith in
      let f : issue_cycle begun interval k + 1 ≡ suc (issue_cycle begun interval k) = omega arith in
      ap (λ b. (after start (issue_cycle begun interval k + suc l) && not (more (issue_cycle begun interval k + suc l))) || b)
      (ap (later l (λ u. after issue u && not (more u))) e ∙ later_at start issue (λ u. after issue u && not (more u)) l (issue_cycle begun interval k + 1)
      ∙ ap₂ (λ a b. a && not b) (ap (after issue) f ∙ issue_at k (omega (arith, below)) ∙ lt_true k groups below)
      (tells.then k 0 below (omega (arith, some)) ∙ ap (nat_lt (suc k)) (sym is) ∙ lt_false (suc k)))
      ∙ or_true (after start (issue_cycle begun interval k + suc l) && not (more (issue_cycle begun interval k + suc l)))

  pub in_time : RunsInTime step issue done begun interval latency groups
  in_time = record {
    turns = turn_at;
    issued = λ k l. issue_at k (omega (arith, l)) ∙ lt_true k groups l;
    between = none_between;
    over = issue_at groups (omega arith) ∙ lt_false groups;
    empty = λ none. h.ends (begun + 1) ∙ no_group none latency;
    ends = λ k is few. h.ends (issue_cycle begun interval k + latency) ∙ last_group k is latency few;
  }

pub bodies_run_in_time : BodiesRunInTime
bodies_run_in_time start more step issue done interval latency begun groups some h s quiet tells = in_time start more step issue done interval latency begun groups some h s quiet tells
