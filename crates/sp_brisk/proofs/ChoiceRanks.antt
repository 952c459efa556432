-- Times that keep orders within a group can be so early that all is over when the operations' latencies have passed one after
-- the other: each operation begins when those have passed that began before it.
use Rattle.std.proofs.Common.{◌≡◌, ℕ, zero, suc, ◌+◌, ◌*◌, ◌<◌, ◌≤◌, ◌==◌, nat_lt, Bool, true, false, cond, List, [], ◌∷◌, map, length, max, inl, inr, arith, refl, sym, subst, ap, ◌∙◌}
use Rattle.std.proofs.Math.Nat.{mul-le-mul_right}
use Rattle.std.proofs.lemmas.Bool.{cases_lt, eq-eqb, ltb-true, lt-ltb, false≢true}
use Rattle.std.proofs.lemmas.List.Elements.{All-cons, All-head, All-nil, All-tail}
use Rattle.std.specs.List.{All}
use Rattle.std.specs.Prelude.{slice_index}
use Rattle.sp_core.specs.Cost.{sum_of}
use Rattle.sp_modulo.specs.declared.order.Order.{Order}
use Rattle.sp_modulo.specs.Times.{IsFitting, IsObeyed, IsNoLater, end_of, in_group, IsLatency, IsSchedule}

-- how long those take, one after the other, that begin before a time
abbrev pub rank : (latencies times : List ℕ) → ℕ → ℕ
rank [] times x = 0
rank (l ∷ ls) [] x = 0
rank (l ∷ ls) (t ∷ ts) x = cond (nat_lt t x) l 0 + rank ls ts x

cond_rise : (a b : Bool) (l : ℕ) → (a ≡ true → b ≡ true) → cond a l 0 ≤ cond b l 0
cond_rise true b l h = subst (λ x. l ≤ cond x l 0) (sym (h refl)) (omega arith)
cond_rise false b l h = omega arith

cond_most : (a : Bool) (l : ℕ) → cond a l 0 ≤ l
cond_most true l = omega arith
cond_most false l = omega arith

passed : (t x y : ℕ) → x ≤ y → nat_lt t x ≡ true → nat_lt t y ≡ true
passed t x y l e = let a : t < x = ltb-true _ _ e in lt-ltb t y (omega (arith, a, l))

rank_rises : (ls ts : List ℕ) (x y : ℕ) → x ≤ y → rank ls ts x ≤ rank ls ts y
rank_rises [] ts x y l = omega arith
rank_rises (m ∷ ls) [] x y l = omega arith
rank_rises (m ∷ ls) (t ∷ ts) x y l =
    let a : cond (nat_lt t x) m 0 ≤ cond (nat_lt t y) m 0 = cond_rise (nat_lt t x) (nat_lt t y) m (passed t x y l) in
    let b : rank ls ts x ≤ rank ls ts y = rank_rises ls ts x y l in
    omega arith

rank_most : (ls ts : List ℕ) (x : ℕ) → rank ls ts x ≤ sum_of ls
rank_most [] ts x = omega arith
rank_most (m ∷ ls) [] x = omega arith
rank_most (m ∷ ls) (t ∷ ts) x = let a : cond (nat_lt t x) m 0 ≤ m = cond_most (nat_lt t x) m in let b : rank ls ts x ≤ sum_of ls = rank_most ls ts x in omega arith

-- one that begins before a time adds what it takes
rank_over : (ls ts : List ℕ) → length ts ≡ length ls → (i y : ℕ) → i < length ls → slice_index ts i < y → rank ls ts (slice_index ts i) + slice_index ls i ≤ rank ls ts y
rank_over [] ts e i y l q = absurd (omega (arith, l))
rank_over (m ∷ ls) [] e i y l q = absurd (omega (arith, e))
rank_over (m ∷ ls) (t ∷ ts) e zero y l q =
    let none : cond (nat_lt t t) m 0 ≡ 0 = not_self (nat_lt t t) refl in
    let some : cond (nat_lt t y) m 0 ≡ m = ap (λ x. cond x m 0) (lt-ltb t y q) in
    let b : rank ls ts t ≤ rank ls ts y = rank_rises ls ts t y (omega (arith, q)) in
    omega arith
  where
    not_self : (b : Bool) → nat_lt t t ≡ b → cond b m 0 ≡ 0
    not_self true z = let a : t < t = ltb-true _ _ z in absurd (omega (arith, a))
    not_self false z = refl
rank_over (m ∷ ls) (t ∷ ts) e (suc i) y l q =
    let a : cond (nat_lt t (slice_index ts i)) m 0 ≤ cond (nat_lt t y) m 0 = cond_rise (nat_lt t (slice_index ts i)) (nat_lt t y) m (passed t (slice_index ts i) y (omega (arith, q))) in
    let b : rank ls ts (slice_index ts i) + slice_index ls i ≤ rank ls ts y = rank_over ls ts (let z : suc (length ts) ≡ suc (length ls) = e in omega arith) i y (let z : suc i < suc (length ls) = l in omega arith) q in
    omega arith

rank_ends : (ls ts : List ℕ) → length ts ≡ length ls → (i : ℕ) → i < length ls → rank ls ts (slice_index ts i) + slice_index ls i ≤ sum_of ls
rank_ends ls ts e i l =
    let a : rank ls ts (slice_index ts i) + slice_index ls i ≤ rank ls ts (suc (slice_index ts i)) = rank_over ls ts e i (suc (slice_index ts i)) l (omega arith) in
    let b : rank ls ts (suc (slice_index ts i)) ≤ sum_of ls = rank_most ls ts (suc (slice_index ts i)) in
    omega arith

-- the times by which each begins when those have passed
abbrev pub ranked : (latencies times : List ℕ) → List ℕ
ranked ls ts = map (rank ls ts) ts

at_map : (f : ℕ → ℕ) (ts : List ℕ) (i : ℕ) → i < length ts → slice_index (map f ts) i ≡ f (slice_index ts i)
at_map f [] i l = absurd (omega (arith, l))
at_map f (t ∷ ts) zero l = refl
at_map f (t ∷ ts) (suc i) l = at_map f ts i (let z : suc i < suc (length ts) = l in omega arith)

map_length : (f : ℕ → ℕ) (ts : List ℕ) → length (map f ts) ≡ length ts
map_length f [] = refl
map_length f (t ∷ ts) = ap suc (map_length f ts)

-- an order within a group that the times obey
order_kept : (ls ts : List ℕ) → length ts ≡ length ls → (o : Order) → IsFitting ls o → IsObeyed 0 ts o → IsObeyed 0 (ranked ls ts) o
order_kept ls ts e o fits h =
    let inside : o.first < length ls = fits.0 in
    let also : o.second < length ls = fits.1 in
    let gap : o.gap ≤ slice_index ls o.first = fits.2 in
    let was : slice_index ts o.first + o.gap ≤ slice_index ts o.second + o.distance * 0 = h in
    let x : slice_index (ranked ls ts) o.first ≡ rank ls ts (slice_index ts o.first) = at_map (rank ls ts) ts o.first (omega arith) in
    let y : slice_index (ranked ls ts) o.second ≡ rank ls ts (slice_index ts o.second) = at_map (rank ls ts) ts o.second (omega arith) in
    elim (cases_lt (slice_index ts o.first) (slice_index ts o.second)) [
      | inl l ↦ let a : rank ls ts (slice_index ts o.first) + slice_index ls o.first ≤ rank ls ts (slice_index ts o.second) = rank_over ls ts e o.first (slice_index ts o.second) inside l in omega arith
      | inr l ↦ let a : rank ls ts (slice_index ts o.first) ≤ rank ls ts (slice_index ts o.second) = rank_rises ls ts (slice_index ts o.first) (slice_index ts o.second) (omega arith) in omega arith
    ]

orders_kept : (ls ts : List ℕ) → length ts ≡ length ls → (orders : List Order) → All (IsFitting ls) orders → All (IsObeyed 0 ts) (in_group orders) → All (IsObeyed 0 (ranked ls ts)) (in_group orders)
orders_kept ls ts e [] fits h = All-nil (IsObeyed 0 (ranked ls ts))
orders_kept ls ts e (o ∷ orders) fits h = go (λ q. orders_kept ls ts e orders (All-tail (IsFitting ls) o orders fits) q) (o.distance == 0) h
  where
    go : (All (IsObeyed 0 ts) (in_group orders) → All (IsObeyed 0 (ranked ls ts)) (in_group orders)) → (b : Bool) → All (IsObeyed 0 ts) (cond b (o ∷ in_group orders) (in_group orders)) → All (IsObeyed 0 (ranked ls ts)) (cond b (o ∷ in_group orders) (in_group orders))
    go rest true h =
        All-cons (IsObeyed 0 (ranked ls ts)) o (in_group orders) (order_kept ls ts e o (All-head (IsFitting ls) o orders fits) (All-head (IsObeyed 0 ts) o (in_group orders) h))
        (rest (All-tail (IsObeyed 0 ts) o (in_group orders) h))
    go rest false h = rest h

end_under : (ls ts : List ℕ) (most : ℕ) → ((i : ℕ) → i < length ls → slice_index ts i + slice_index ls i ≤ most) → end_of ls ts ≤ most
end_under [] ts most h = omega arith
end_under (l ∷ ls) [] most h = omega arith
end_under (l ∷ ls) (t ∷ ts) most h =
    let a : t + l ≤ most = h 0 (omega arith) in
    let b : end_of ls ts ≤ most = end_under ls ts most (λ i q. h (suc i) (omega (arith, q))) in
    omega arith

end_over : (ls ts : List ℕ) → length ts ≡ length ls → (i : ℕ) → i < length ls → slice_index ts i + slice_index ls i ≤ end_of ls ts
end_over [] ts e i l = absurd (omega (arith, l))
end_over (m ∷ ls) [] e i l = absurd (omega (arith, e))
end_over (m ∷ ls) (t ∷ ts) e zero l = omega arith
end_over (m ∷ ls) (t ∷ ts) e (suc i) l =
    let a : slice_index ts i + slice_index ls i ≤ end_of ls ts = end_over ls ts (let z : suc (length ts) ≡ suc (length ls) = e in omega arith) i (let z : suc i < suc (length ls) = l in omega arith) in
    omega arith

-- so the least times are over by then
pub latency_short : (ls : List ℕ) (orders : List Order) (latency : ℕ) → All (IsFitting ls) orders → IsLatency ls orders latency → latency ≤ sum_of ls
latency_short ls orders latency fits h =
    let ts : List ℕ = h.first in
    let e : length ts ≡ length ls = h.least.obey.one_each in
    let earlier : IsNoLater ts (ranked ls ts) = h.least.least (ranked ls ts) (record { one_each = map_length (rank ls ts) ts ∙ e; obeyed = orders_kept ls ts e orders fits h.least.obey.obeyed }) in
    let over : latency ≡ end_of ls ts = h.over in
    let under : end_of ls ts ≤ sum_of ls = end_under ls ts (sum_of ls) (λ i l.
    let a : slice_index ts i ≤ slice_index (ranked ls ts) i = earlier i in
    let b : slice_index (ranked ls ts) i ≡ rank ls ts (slice_index ts i) = at_map (rank ls ts) ts i (omega (arith, e, l)) in
    let c : rank ls ts (slice_index ts i) + slice_index ls i ≤ sum_of ls = rank_ends ls ts e i l in
    omega arith) in
    omega arith

-- by times that are over by an interval, orders between groups are kept if those within a group are
between_kept : (ls ts : List ℕ) (latency i : ℕ) → length ts ≡ length ls → end_of ls ts ≤ latency → latency ≤ i → (o : Order) → IsFitting ls o → (o.distance ≡ 0 → IsObeyed 0 ts o) → IsObeyed i ts o
between_kept ls ts latency i e over le o fits h = go o.distance refl
  where
    go : (n : ℕ) → o.distance ≡ n → slice_index ts o.first + o.gap ≤ slice_index ts o.second + o.distance * i
    go zero z =
        let a : slice_index ts o.first + o.gap ≤ slice_index ts o.second + o.distance * 0 = h z in
        let b : o.distance * i ≡ 0 * i = ap (λ n. n * i) z in
        omega arith
    go (suc n) z =
        let a : slice_index ts o.first + slice_index ls o.first ≤ end_of ls ts = end_over ls ts e o.first fits.0 in
        let gap : o.gap ≤ slice_index ls o.first = fits.2 in
        let b : 1 * i ≤ o.distance * i = mul-le-mul_right i (omega (arith, z)) in
        omega arith

all_kept : (ls ts : List ℕ) (latency i : ℕ) → length ts ≡ length ls → end_of ls ts ≤ latency → latency ≤ i → (orders : List Order) → All (IsFitting ls) orders → All (IsObeyed 0 ts) (in_group orders) → All (IsObeyed i ts) orders
all_kept ls ts latency i e over le [] fits h = All-nil (IsObeyed i ts)
all_kept ls ts latency i e over le (o ∷ orders) fits h = go (λ q. all_kept ls ts latency i e over le orders (All-tail (IsFitting ls) o orders fits) q) (o.distance == 0) refl h
  where
    go : (All (IsObeyed 0 ts) (in_group orders) → All (IsObeyed i ts) orders) → (b : Bool) → (o.distance == 0) ≡ b → All (IsObeyed 0 ts) (cond b (o ∷ in_group orders) (in_group orders)) → All (IsObeyed i ts) (o ∷ orders)
    go rest true q h =
        All-cons (IsObeyed i ts) o orders (between_kept ls ts latency i e over le o (All-head (IsFitting ls) o orders fits) (λ z. All-head (IsObeyed 0 ts) o (in_group orders) h))
        (rest (All-tail (IsObeyed 0 ts) o (in_group orders) h))
    go rest false q h =
        All-cons (IsObeyed i ts) o orders (between_kept ls ts latency i e over le o (All-head (IsFitting ls) o orders fits) (λ z. absurd (false≢true (sym q ∙ eq-eqb o.distance 0 z))))
        (rest h)

-- so the least interval is no longer than the latency
pub interval_short : (ls : List ℕ) (orders : List Order) (latency interval : ℕ) (times : List ℕ) → All (IsFitting ls) orders → IsSchedule ls orders latency interval times → interval ≤ max 1 latency
interval_short ls orders latency interval times fits h = elim (cases_lt (max 1 latency) interval) [
  | inr l ↦ l
  | inl l ↦
      let least = h.latency_is.least in
      let ts : List ℕ = h.latency_is.first in
      let over : latency ≡ end_of ls ts = h.latency_is.over in
      absurd (h.least_interval (max 1 latency) ts (omega arith) l (record {
        obey = record { one_each = least.obey.one_each; obeyed = all_kept ls ts latency (max 1 latency) least.obey.one_each (omega arith) (omega arith) orders fits least.obey.obeyed };
        over = omega arith;
      }))
]
