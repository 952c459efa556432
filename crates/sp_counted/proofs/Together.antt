-- Counters and the issue of groups, one turn after the other.
use Rattle.std.proofs.Common.{◌≡◌, ℕ, zero, suc, ◌+◌, ◌-◌, ◌*◌, ◌<◌, ◌≤◌, nat_lt, Bool, true, false, ◌&&◌, ◌||◌, not, length, refl, ap, ap₂, subst, ◌∙◌, arith, if◌then◌else◌}
use Rattle.std.proofs.Math.Nat.{mul-le-mul_right, suc-mul}
use Rattle.std.proofs.lemmas.Bool.{lt-ltb}
use Rattle.sp_gates.specs.Tested.{is_on}
use Rattle.sp_core.specs.Scope.{group_values}
use Rattle.sp_counters.specs.Laws.{AreAtGroup, steps_after}
use Rattle.sp_counters.proofs.Through.{run_through_groups}
use Rattle.sp_pipe.specs.Issues.{due, IssuesAll}
use Rattle.sp_pipe.specs.Laws.{issue_cycle, TellsOf, BodiesRunInTime}
use Rattle.sp_counted.specs.Laws.{CountedBodiesRunInTime}

and_false : (b : Bool) → (b && false) ≡ false
and_false true = refl
and_false false = refl

and_true : (b : Bool) → (b && true) ≡ b
and_true true = refl
and_true false = refl

more_steps : (k i : ℕ) → suc k * i ≡ i + k * i
more_steps k i = let p = suc-mul k i in omega (arith, p)

module _ (start issue : ℕ → Bool) where
  -- a start takes away what was due before it
  due_cut : (begun : ℕ) → start begun ≡ true → (n m : ℕ) → m < n → due start issue n (suc (begun + m)) ≡ false
  unfolding due
  due_cut begun s zero m l = absurd (omega (arith, l))
  due_cut begun s (suc n) zero l = ap (λ t. due start issue n t && not (start t)) (omega arith) ∙ ap (λ b. due start issue n begun && not b) s ∙ and_false (due start issue n begun)
  due_cut begun s (suc n) (suc m) l = ap (λ t. due start issue n t && not (start t)) (omega arith) ∙ ap (λ b. b && not (start (suc (begun + m)))) (due_cut begun s n m (omega (arith, l)))

  -- what was issued is due so many cycles later, where it isn't started meanwhile
  due_kept : (n t : ℕ) → ((u : ℕ) → t ≤ u → u < t + n → start u ≡ false) → due start issue n (t + n) ≡ issue t
  unfolding due
  due_kept zero t h = ap issue (omega arith)
  due_kept (suc n) t h =
      let e : t + suc n ≡ suc (t + n) = omega arith in
      ap (λ u. due start issue (suc n) u) e
      ∙ ap₂ (λ a b. a && not b) (due_kept n t (λ u l m. h u l (omega (arith, m)))) (h (t + n) (omega arith) (omega arith))
      ∙ and_true (issue t)

module _ (start more step issue done : ℕ → Bool) (interval latency begun groups : ℕ) (some : 1 ≤ interval) (h : IssuesAll start more step issue done interval latency) (s : start begun ≡ true)
    (quiet : (t : ℕ) → begun < t → t ≤ issue_cycle begun interval groups → start t ≡ false)
    (tells : (n : ℕ) → n ≤ groups * interval → more (begun + 1 + n) ≡ nat_lt (steps_after step begun n) groups) where
  -- a turn after the first interval is what was issued an interval before
  turn_after : (m : ℕ) → begun + 1 + m + interval ≤ issue_cycle begun interval groups → step (begun + 1 + m + interval) ≡ issue (begun + 1 + m)
  turn_after m l =
      let e : begun + 1 + m + interval ≡ suc ((begun + 1 + m) + (interval - 1)) = omega (arith, some) in
      ap step e ∙ h.turned (suc ((begun + 1 + m) + (interval - 1)))
      ∙ ap₂ (λ a b. a || b) (quiet ((begun + 1 + m) + (interval - 1)) (omega arith) (omega (arith, l, some)))
      (due_kept start issue (interval - 1) (begun + 1 + m) (λ u a b. quiet u (omega (arith, a)) (omega (arith, b, l, some))))

  first_turn : step (begun + 1) ≡ true
  first_turn = let e : begun + 1 ≡ suc begun = omega arith in ap step e ∙ h.turned (suc begun) ∙ ap (λ b. b || due start issue (interval - 1) begun) s

  -- in the first interval there is no other turn
  first_pause : (j : ℕ) → 1 ≤ j → j < interval → begun + 1 + j ≤ issue_cycle begun interval groups → step (begun + 1 + j) ≡ false
  first_pause j l m w =
      let e : begun + 1 + j ≡ suc (suc (begun + (j - 1))) = omega (arith, l) in
      ap step e ∙ h.turned (suc (suc (begun + (j - 1))))
      ∙ ap₂ (λ a b. a || b) (quiet (suc (begun + (j - 1))) (omega arith) (omega (arith, l, w))) (due_cut start issue begun s (interval - 1) (j - 1) (omega (arith, l, m)))

  within : (k : ℕ) → k ≤ groups → k * interval ≤ groups * interval
  within k l = mul-le-mul_right interval l

  next_within : (k : ℕ) → k < groups → interval + k * interval ≤ groups * interval
  next_within k l = let p = more_steps k interval in let m = within (suc k) (omega (arith, l)) in omega (arith, p, m)

  -- a turn: so many steps were before it, and up to the next one there is no other
  record Turn (k : ℕ) : Type 0 where
    count : steps_after step begun (k * interval) ≡ k
    turn : step (issue_cycle begun interval k) ≡ true
    pause : k < groups → (j : ℕ) → 1 ≤ j → j < interval → step (issue_cycle begun interval k + j) ≡ false

  module _ (k : ℕ) (at : Turn k) where
    count_on : k < groups → (j : ℕ) → j < interval → steps_after step begun (k * interval + 1 + j) ≡ suc k
    count_on l zero m =
        let e : k * interval + 1 + 0 ≡ suc (k * interval) = omega arith in
        let f : begun + suc (k * interval) ≡ issue_cycle begun interval k = omega arith in
        ap (steps_after step begun) e
        ∙ ap (λ b. if b then suc (steps_after step begun (k * interval)) else steps_after step begun (k * interval)) (ap step f ∙ at.turn) ∙ ap suc at.count
    count_on l (suc j) m =
        let e : k * interval + 1 + suc j ≡ suc (k * interval + 1 + j) = omega arith in
        let f : begun + suc (k * interval + 1 + j) ≡ issue_cycle begun interval k + suc j = omega arith in
        ap (steps_after step begun) e
        ∙ ap (λ b. if b then suc (steps_after step begun (k * interval + 1 + j)) else steps_after step begun (k * interval + 1 + j)) (ap step f ∙ at.pause l (suc j) (omega arith) m)
        ∙ count_on l j (omega (arith, m))

    told : k ≤ groups → more (issue_cycle begun interval k) ≡ nat_lt k groups
    told l = tells (k * interval) (within k l) ∙ ap (λ n. nat_lt n groups) at.count

    issued : k < groups → issue (issue_cycle begun interval k) ≡ true
    issued l = h.issued (issue_cycle begun interval k) ∙ ap₂ (λ a b. a && b) at.turn (told (omega (arith, l)) ∙ lt-ltb k groups l)

    next : k < groups → Turn (suc k)
    next l =
        let p = more_steps k interval in
        let m = next_within k l in
        record {
          count = let e : suc k * interval ≡ k * interval + 1 + (interval - 1) = omega (arith, p, some) in ap (steps_after step begun) e ∙ count_on l (interval - 1) (omega (arith, some));
          turn =
              let e : issue_cycle begun interval (suc k) ≡ begun + 1 + k * interval + interval = omega (arith, p) in
              ap step e ∙ turn_after (k * interval) (omega (arith, m)) ∙ issued l;
          pause = λ l2 j a b.
              let m2 = next_within (suc k) l2 in
              let e : issue_cycle begun interval (suc k) + j ≡ begun + 1 + (k * interval + j) + interval = omega (arith, p) in
              let f : begun + 1 + (k * interval + j) ≡ issue_cycle begun interval k + j = omega arith in
              ap step e ∙ turn_after (k * interval + j) (omega (arith, m2, b, p)) ∙ ap issue f ∙ h.issued (issue_cycle begun interval k + j)
              ∙ ap (λ x. x && more (issue_cycle begun interval k + j)) (at.pause l j a b);
        }

  first : Turn 0
  first = record {
    count = let e : 0 * interval ≡ 0 = omega arith in ap (steps_after step begun) e;
    turn = let e : issue_cycle begun interval 0 ≡ begun + 1 = omega arith in ap step e ∙ first_turn;
    pause = λ l j a b.
        let m = next_within 0 l in
        let e : issue_cycle begun interval 0 + j ≡ begun + 1 + j = omega arith in
        ap step e ∙ first_pause j a b (omega (arith, m, b));
  }

  turn_at : (k : ℕ) → k ≤ groups → Turn k
  turn_at zero l = first
  turn_at (suc k) l = next k (turn_at k (omega (arith, l))) (omega (arith, l))

  pub steps_before : (k : ℕ) → k ≤ groups → steps_after step begun (k * interval) ≡ k
  steps_before k l = (turn_at k l).count

  pub tells_of : TellsOf more begun interval groups
  tells_of = record {
    first = let e : begun + 1 ≡ begun + 1 + 0 = omega arith in ap more e ∙ tells 0 (omega arith);
    then = λ k j l m.
        let p = more_steps k interval in
        let w = next_within k l in
        let e : issue_cycle begun interval k + (1 + j) ≡ begun + 1 + (k * interval + 1 + j) = omega arith in
        ap more e ∙ tells (k * interval + 1 + j) (omega (arith, w, m)) ∙ ap (λ n. nat_lt n groups) (count_on k (turn_at k (omega (arith, l))) l j m);
  }

pub run_in_time : BodiesRunInTime → CountedBodiesRunInTime
run_in_time law s part nets loops issue done interval latency begun some h k loops_at started quiet = (
  law (is_on s part.start) (is_on s nets.more) (is_on s part.step) issue done interval latency begun groups some k started quiet
      (tells_of (is_on s part.start) (is_on s nets.more) (is_on s part.step) issue done interval latency begun groups some k started quiet (λ n l. (at n l).more)),
  λ j l.
      subst (λ m. AreAtGroup s part nets loops m (issue_cycle begun interval j))
      (steps_before (is_on s part.start) (is_on s nets.more) (is_on s part.step) issue done interval latency begun groups some k started quiet (λ n l. (at n l).more) j (omega (arith, l)))
      (at (j * interval) (mul-le-mul_right interval (omega (arith, l)))),
)
  where
    groups : ℕ
    groups = length (group_values loops)

    at : (n : ℕ) → n ≤ length (group_values loops) * interval → AreAtGroup s part nets loops (steps_after (is_on s part.step) begun n) (begun + 1 + n)
    at n l = run_through_groups s part nets loops begun n h loops_at started (λ t a b. quiet t a (omega (arith, l, b)))
