-- Times within a group need be no later than so many operations of the greatest latency take one after the other: what counts
-- is which times are before which.
use Rattle.std.proofs.Common.{◌≡◌, ℕ, zero, suc, ◌+◌, ◌*◌, ◌-◌, ◌<◌, ◌≤◌, min, List, [], ◌∷◌, length, slice_index, slice_index_or, map, replicate, arith, ap, refl, sym, ◌∙◌, subst}
use Rattle.std.specs.List.{All}
use Rattle.std.proofs.lemmas.List.{get_or-map, get_or-replicate, length-map, length-replicate}
use Rattle.sp_modulo.proofs.Later.{no_later-from}
use Rattle.sp_modulo.specs.declared.order.Order.{Order}
use Rattle.sp_modulo.specs.Times.{IsAmong, IsObeyed, Obey, IsNoLater}

-- how many of the times are before one
before : ℕ → List ℕ → ℕ
before t [] = 0
before t (x ∷ xs) = min (t - x) 1 + before t xs

before-later : (t u : ℕ) (xs : List ℕ) → t ≤ u → before t xs ≤ before u xs
unfolding before
before-later t u [] h = omega arith
before-later t u (x ∷ xs) h = let rest = before-later t u xs h in omega arith

before-most : (t : ℕ) (xs : List ℕ) → before t xs ≤ length xs
unfolding before
before-most t [] = omega arith
before-most t (x ∷ xs) = let rest = before-most t xs in omega arith

-- one more is before a time after one of them
before-after : (u : ℕ) (xs : List ℕ) (i : ℕ) → i < length xs → slice_index xs i < u → before (slice_index xs i) xs + 1 ≤ before u xs
unfolding before
before-after u [] i h lt = absurd (omega arith)
before-after u (x ∷ xs) zero h lt = let rest = before-later x u xs (omega arith) in omega arith
before-after u (x ∷ xs) (suc i) h lt = let rest = before-after u xs i (omega arith) lt in omega arith

pub ranks : List ℕ → List ℕ
ranks xs = map (λ t. 4 * before t xs) xs

rank-at : (xs : List ℕ) (i : ℕ) → i < length xs → slice_index (ranks xs) i ≡ 4 * before (slice_index xs i) xs
unfolding ranks
rank-at xs i h = get_or-map (λ t. 4 * before t xs) xs i 0 0 h

length-ranks : (xs : List ℕ) → length (ranks xs) ≡ length xs
unfolding ranks
length-ranks xs = length-map xs (λ t. 4 * before t xs)

ranked-gap : (xs : List ℕ) (o : Order) → IsAmong (length xs) o → o.gap ≤ 4 → IsObeyed 0 xs o → (g : ℕ) → g ≡ o.gap →
    (4 * before (slice_index xs o.first) xs) + o.gap ≤ (4 * before (slice_index xs o.second) xs) + o.distance * 0
ranked-gap xs o among gap obeyed zero e = let k = before-later (slice_index xs o.first) (slice_index xs o.second) xs (omega arith) in omega arith
ranked-gap xs o among gap obeyed (suc g) e = let k = before-after (slice_index xs o.second) xs o.first among.0 (omega arith) in omega arith

ranked-order : (xs : List ℕ) (o : Order) → IsAmong (length xs) o → o.gap ≤ 4 → IsObeyed 0 xs o → IsObeyed 0 (ranks xs) o
ranked-order xs o among gap obeyed = rw (rank-at xs o.first among.0, rank-at xs o.second among.1) (ranked-gap xs o among gap obeyed o.gap refl)

pub ranks-obey : (count : ℕ) (orders : List Order) (xs : List ℕ) → All (IsAmong count) orders → All (λ o. o.gap ≤ 4) orders → Obey count orders 0 xs → Obey count orders 0 (ranks xs)
ranks-obey count orders xs among gaps h = record {
  one_each = length-ranks xs ∙ h.one_each;
  obeyed = λ k d lt. ranked-order xs (slice_index_or orders k d) (let a = among k d lt in (omega (arith, h.one_each, a.0), omega (arith, h.one_each, a.1))) (gaps k d lt) (h.obeyed k d lt);
}

pub ranks-early : (count most : ℕ) (xs : List ℕ) → length xs ≡ count → most ≡ count * 4 → IsNoLater (ranks xs) (replicate count most)
ranks-early count most xs e m = no_later-from (ranks xs) (replicate count most) (length-ranks xs ∙ e ∙ sym (length-replicate count most))
    (λ i h.
    let inside : i < length xs = omega (arith, length-ranks xs) in
    let here = rank-at xs i inside in
    let top = get_or-replicate count i most 0 (omega arith) in
    let few = before-most (slice_index xs i) xs in
    omega arith)

-- where there are none up to these limits, there are none
pub none_at_all : (count most : ℕ) (orders : List Order) (limits : List ℕ) → limits ≡ replicate count most → most ≡ count * 4 → All (IsAmong count) orders → All (λ o. o.gap ≤ 4) orders →
    ((others : List ℕ) → Obey (length limits) orders 0 others → IsNoLater others limits → ⊥) → (times : List ℕ) → ¬ Obey count orders 0 times
none_at_all count most orders limits is m among gaps none times h =
    let ranked = ranks-obey count orders times among gaps h in
    none (ranks times)
    (record { one_each = ranked.one_each ∙ sym (ap length is ∙ length-replicate count most); obeyed = ranked.obeyed })
    (subst (λ (x : List ℕ). IsNoLater (ranks times) x) (sym is) (ranks-early count most times h.one_each m))
