-- Events in the copies of their groups.
use Rattle.std.proofs.Common.{◌≡◌, ℕ, zero, suc, ◌+◌, ◌*◌, ◌%◌, ◌<◌, ◌≤◌, List, inl, inr, arith, refl, sym, ap, ◌∙◌}
use Rattle.sp_time.specs.Copies.{Owned, copies_of, copy_in, in_group, later}
use Rattle.sp_time.specs.Events.{Event, Waits}
use Rattle.sp_time.specs.Orders.{Meet, over}
use Rattle.sp_time.specs.Places.{Place, Act, changes}

-- places that are the same in a group are the same
pub copy_in-mem : (n k : ℕ) (p : Place) → (copy_in n k p).mem ≡ p.mem
copy_in-mem zero k p = refl
copy_in-mem (suc n) k p = refl

times_inj : (n a b c : ℕ) → a * suc n + c ≡ b * suc n + c → a ≡ b
times_inj n a b c e = grind arith

pub copy_in-inj : (n k : ℕ) (p q : Place) → copy_in n k p ≡ copy_in n k q → p ≡ q
copy_in-inj zero k p q e = e
copy_in-inj (suc n) k p q e =
    let m : p.mem ≡ q.mem = ap (λ r. r.mem) e in
    let c : p.copy ≡ q.copy = times_inj n p.copy q.copy (k % suc n) (ap (λ r. r.copy) e) in
    let x : p.element ≡ q.element = ap (λ r. r.element) e in
    λ i. record { mem = m i; copy = c i; element = x i }

pub in_group-inj : (owned : List Owned) (k : ℕ) (p q : Place) → copy_in (copies_of owned p.mem) k p ≡ copy_in (copies_of owned q.mem) k q → p ≡ q
in_group-inj owned k p q e =
    let m : p.mem ≡ q.mem = sym (copy_in-mem (copies_of owned p.mem) k p) ∙ ap (λ r. r.mem) e ∙ copy_in-mem (copies_of owned q.mem) k q in
    copy_in-inj (copies_of owned q.mem) k p q (sym (ap (λ x. copy_in (copies_of owned x) k p) m) ∙ e)

pub waits_unless : (e f : Event Place Act) → (Meet e f → over e ≤ f.cycle) → Waits changes e f
waits_unless e f h = record {
  for_change = λ at c. h (at, inl c);
  for_look = λ at c. let lt : over e ≤ f.cycle = h (at, inr c) in omega arith;
}

pub waits_moved : (owned : List Owned) (k s n : ℕ) (e f : Event Place Act) → Waits changes e f → Waits changes (later n (in_group owned k e)) (later n (in_group owned k f))
waits_moved owned k s n e f w = record {
  for_change = λ at c. let lt : e.cycle < f.cycle = w.for_change (in_group-inj owned k e.place f.place at) c in omega arith;
  for_look = λ at c. let le : e.cycle ≤ f.cycle = w.for_look (in_group-inj owned k e.place f.place at) c in omega arith;
}
