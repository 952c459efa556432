-- The words that a store reads ahead: each stands where it moves.
use Rattle.std.proofs.Common.{◌≡◌, ℕ, zero, suc, ◌+◌, ◌-◌, ◌<◌, ◌≤◌, Bool, true, false, ◌||◌, if◌then◌else◌, List, refl, sym, ap, subst, ◌∙◌, arith}
use Rattle.std.specs.List.{Contains}
use Rattle.sp_netlist.specs.Signals.{Signals}
use Rattle.sp_gates.specs.Tested.{is_on}
use Rattle.sp_machine.specs.Transfers.{word_cycle, look_cycle}
use Rattle.sp_part_runs.specs.BodiesRuns.{IsOnAt}
use Rattle.sp_xfer.specs.Ahead.{ReadsAhead}
use Rattle.sp_xfer.specs.Moving.{was}
use Rattle.sp_transfer_runs.proofs.Cycles.{word_within}
use Rattle.sp_transfer_runs.proofs.Looks.{looks_rise}
use Rattle.sp_transfer_runs.proofs.Moved.{or_right, or_left_off}
use Rattle.sp_transfer_runs.proofs.Passing.{by_bit, by_order, over, StartsAt, MovesAt, Apart, moving_run, quiet}

if_true : {A : Type 0} (b : Bool) (x y : A) → b ≡ true → (if b then x else y) ≡ x
if_true b x y e = ap (λ b. if b then x else y) e

if_false : {A : Type 0} (b : Bool) (x y : A) → b ≡ false → (if b then x else y) ≡ y
if_false b x y e = ap (λ b. if b then x else y) e

-- a register that doesn't go on has the word that it had
kept : (own next : ℕ → ℕ) (goes : ℕ → Bool) → ((t : ℕ) → own (suc t) ≡ (if goes t then next t else own t)) → (x d : ℕ) → ((t : ℕ) → x < t → t < x + suc d → goes t ≡ false) → own (x + suc d) ≡ own (suc x)
kept own next goes h x zero off = ap own (omega arith)
kept own next goes h x (suc d) off =
    let e : x + suc (suc d) ≡ suc (x + suc d) = omega arith in
    ap own e ∙ h (x + suc d) ∙ if_false (goes (x + suc d)) (next (x + suc d)) (own (x + suc d)) (off (x + suc d) (omega arith) (omega arith))
    ∙ kept own next goes h x d (λ t l m. off t l (omega (arith, m)))

-- from a cycle in which it goes on up to the next one
stands_until : (own next : ℕ → ℕ) (goes : ℕ → Bool) → ((t : ℕ) → own (suc t) ≡ (if goes t then next t else own t)) → (x y : ℕ) → x < y → goes x ≡ true → ((t : ℕ) → x < t → t < y → goes t ≡ false) → own y ≡ next x
stands_until own next goes h x y l on off =
    let e : x + suc (y - suc x) ≡ y = omega (arith, l) in
    ap own (sym e) ∙ kept own next goes h x (y - suc x) (λ t a b. off t a (omega (arith, b, e))) ∙ h x ∙ if_true (goes x) (next x) (own x) on

module _ {R : Type 0} (cycle num : R → ℕ) (delay : R → ℕ → ℕ) (runs : List R) (apart : Apart cycle num delay runs)
    (s : Signals) (start step ready : ℕ) (steps : (t : ℕ) → is_on s step t ≡ (was (is_on s start) t || is_on s ready t)) (last : ℕ) (ready_on : IsOnAt (is_on s ready) (MovesAt cycle num delay runs) last)
    (upto : ℕ) (in_time : upto ≤ last) (starts : IsOnAt (is_on s start) (StartsAt cycle num delay runs) upto) (r : R) (c : Contains runs r) where
  abbrev goes : ℕ → Bool
  goes t = is_on s start t || is_on s step t

  abbrev look : ℕ → ℕ
  look j = cycle r + look_cycle (delay r) j

  -- it goes on where a word is read, and once more for each of the last two
  goes_at : (j : ℕ) → j < num r + 2 → 0 < num r → look j ≤ upto → goes (look j) ≡ true
  goes_at zero x y l =
      let e : cycle r ≡ cycle r + 0 = omega arith in
      subst (λ t. goes t ≡ true) e (ap (λ b. b || is_on s step (cycle r)) (starts.on (cycle r) (omega (arith, l)) (r, c, refl)))
  goes_at (suc zero) x y l =
      let e : suc (cycle r) ≡ cycle r + 1 = omega arith in
      subst (λ t. goes t ≡ true) e (or_right (is_on s start (suc (cycle r))) (is_on s step (suc (cycle r))) (steps (suc (cycle r)) ∙ ap (λ b. b || is_on s ready (suc (cycle r))) (starts.on (cycle r) (omega (arith, l)) (r, c, refl))))
  goes_at (suc (suc i)) x y l =
      or_right (is_on s start (look (suc (suc i)))) (is_on s step (look (suc (suc i))))
      (steps (look (suc (suc i))) ∙ or_right (was (is_on s start) (look (suc (suc i)))) (is_on s ready (look (suc (suc i)))) (ready_on.on (look (suc (suc i))) (omega (arith, l, in_time)) (r, i, c, omega (arith, x), refl)))

  still : (t : ℕ) → cycle r < t → t < over cycle num delay r → t ≤ upto → is_on s start t ≡ false
  still t l m k = quiet cycle num delay runs apart (is_on s start) upto starts r c t l m k

  -- and in no cycle in between
  not_ready : (j t : ℕ) → look j < t → t < look (suc j) → t < over cycle num delay r → t ≤ upto → is_on s ready t ≡ false
  not_ready j t a b m k = by_bit (is_on s ready t) (λ e. absurd (no e)) (λ e. e)
    where
      no : is_on s ready t ≡ true → ⊥
      no e =
          let (i, x, is) = moving_run cycle num delay runs apart r c t (omega (arith, a)) m (ready_on.only t (omega (arith, k, in_time)) e) in
          by_order (suc (suc i)) j
          (λ l. let h = looks_rise (delay r) (suc (suc i)) j l in omega (arith, h, is, a))
          (λ l. by_order (suc (suc i)) (suc j)
          (λ g. omega (arith, l, g))
          (λ g. let h = looks_rise (delay r) (suc j) (suc (suc i)) g in omega (arith, h, is, b))
          (λ g. let h : look (suc (suc i)) ≡ look (suc j) = ap look g in omega (arith, h, is, b)))
          (λ g. let h : look (suc (suc i)) ≡ look j = ap look g in omega (arith, h, is, a))

  quiet_between : (j t : ℕ) → look j < t → t < look (suc j) → t < over cycle num delay r → t ≤ upto → goes t ≡ false
  quiet_between j zero a b m k = absurd (omega (arith, a))
  quiet_between zero (suc u) a b m k = absurd (omega (arith, a, b))
  quiet_between (suc j) (suc u) a b m k =
      let first = looks_rise (delay r) 0 (suc j) (omega arith) in
      or_left_off (is_on s start (suc u)) (is_on s step (suc u)) (still (suc u) (omega (arith, a)) m k)
      ∙ steps (suc u) ∙ or_left_off (is_on s start u) (is_on s ready (suc u)) (still u (omega (arith, a, first)) (omega (arith, m)) (omega (arith, k)))
      ∙ not_ready (suc j) (suc u) a b m k

  pub comes : (found word : ℕ) → ReadsAhead s goes found word → (j : ℕ) → j < num r → cycle r + word_cycle (delay r) j ≤ upto → s.net (cycle r + word_cycle (delay r) j) word ≡ s.net (suc (suc (look j))) found
  comes found word h j x l =
      let w = word_within (delay r) j (num r) x in
      let a = looks_rise (delay r) j (suc j) (omega arith) in
      let b = looks_rise (delay r) (suc j) (suc (suc j)) (omega arith) in
      stands_until (λ t. s.net t word) h.next goes h.second (look (suc j)) (look (suc (suc j))) (omega (arith, b)) (goes_at (suc j) (omega (arith, x)) (omega (arith, x)) (omega (arith, b, l)))
      (λ t y z. quiet_between (suc j) t y z (omega (arith, z, w)) (omega (arith, z, l)))
      ∙ stands_until h.next (λ t. s.net (suc (suc t)) found) goes h.first (look j) (look (suc j)) (omega (arith, a)) (goes_at j (omega (arith, x)) (omega (arith, x)) (omega (arith, a, b, l)))
      (λ t y z. quiet_between j t y z (omega (arith, z, b, w)) (omega (arith, z, b, l)))
