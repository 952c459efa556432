-- Nets of copies by the numbers of operations.
use Rattle.std.proofs.Common.{◌≡◌, ℕ, zero, suc, ◌+◌, ◌-◌, ◌<◌, ◌≤◌, ◌⊎◌, inl, inr, List, [], ◌∷◌, ◌++◌, length, slice_index_or, Option, None, refl, sym, ap, subst, ◌∙◌, arith}
use Rattle.std.proofs.lemmas.Bool.{cases_lt}
use Rattle.sp_netlist.specs.Signals.{Signals}
use Rattle.sp_core.specs.Events.{Event}
use Rattle.sp_core.specs.Numbering.{counters_size, spans_size}
use Rattle.sp_core.specs.PlainCore.{PlainOp, PlainCounter, PlainSpan, single, range, load, PlainCore}
use Rattle.sp_machine.specs.Stamps.{Stamped}
use Rattle.sp_mem.specs.Copies.{copy_at}
use Rattle.sp_tree_events.specs.CopiesStanding.{CopyNets}
use Rattle.sp_tree_events.specs.PartsAgreeing.{Agree}
use Rattle.sp_tree_events.specs.ToldItems.{Item, operation, transfer, ListHas, CountersHave, SpansHave, NodeHas}
use Rattle.sp_tree_events.specs.ToldLaws.{Does}
use Rattle.sp_tree_copies.specs.Naming.{name_of, names_of, bound_names, span_names, transfer_names}
use Rattle.sp_owner_runs.specs.Naming.{NameCopies}

-- in two lists, one behind the other
pub before : (xs ys : List (Option ℕ)) (i : ℕ) → i < length xs → slice_index_or (xs ++ ys) i None ≡ slice_index_or xs i None
before [] ys i l = absurd (omega (arith, l))
before (x ∷ xs) ys zero l = refl
before (x ∷ xs) ys (suc i) l = before xs ys i (omega (arith, l))

pub behind : (xs ys : List (Option ℕ)) (i : ℕ) → slice_index_or (xs ++ ys) (length xs + i) None ≡ slice_index_or ys i None
behind [] ys i = ap (λ j. slice_index_or ys j None) {x = 0 + i} {y = i} (omega arith)
behind (x ∷ xs) ys i = ap (λ j. slice_index_or (x ∷ xs ++ ys) j None) {x = suc (length xs) + i} {y = suc (length xs + i)} (omega arith) ∙ behind xs ys i

pub both_long : (xs ys : List (Option ℕ)) → length (xs ++ ys) ≡ length xs + length ys
both_long [] ys = omega arith
both_long (x ∷ xs) ys = let e = both_long xs ys in omega (arith, e)

-- as many as there are operations
pub names_long : (around : CopyNets) (ops : List PlainOp) → length (names_of around ops) ≡ length ops
names_long around [] = refl
names_long around (op ∷ ops) = ap suc (names_long around ops)

pub bounds_long : (around : CopyNets) (counters : List PlainCounter) → length (bound_names around counters) ≡ counters_size counters
bounds_long around [] = refl
bounds_long around (c ∷ counters) =
    let a = both_long (names_of around c.from) (names_of around c.until ++ bound_names around counters) in
    let b = both_long (names_of around c.until) (bound_names around counters) in
    let d = names_long around c.from in
    let e = names_long around c.until in
    let f = bounds_long around counters in
    omega (arith, a, b, d, e, f)

-- each has the net of its memory
op_at : (around : CopyNets) (ops : List PlainOp) (i : ℕ) (op : PlainOp) → i < length ops → slice_index_or (names_of around ops) i None ≡ name_of around (slice_index_or ops i op).mem
op_at around [] i op l = absurd (omega (arith, l))
op_at around (x ∷ ops) zero op l = refl
op_at around (x ∷ ops) (suc i) op l = op_at around ops i op (omega (arith, l))

pub list_name : (core : PlainCore) (around : CopyNets) (ops : List PlainOp) (n x j : ℕ) (i : Item) (e : Event) → ListHas ops n x i → Does core i e → x ≡ n + j → slice_index_or (names_of around ops) j None ≡ around e.mem
list_name core around ops n x j (operation op) e h d at =
    let same : h.place ≡ j = (let a = h.numbered in omega (arith, a, at)) in
    ap (λ p. slice_index_or (names_of around ops) p None) (sym same) ∙ op_at around ops h.place op h.within ∙ ap (λ (o : PlainOp). name_of around o.mem) h.is ∙ ap (name_of around) d.0
list_name core around ops n x j (transfer r m) e h d at = absurd h

pub list_within : (ops : List PlainOp) (n x j : ℕ) (i : Item) → ListHas ops n x i → x ≡ n + j → j < length ops
list_within ops n x j (operation op) h at = let a = h.numbered in let b = h.within in omega (arith, a, b, at)
list_within ops n x j (transfer r m) h at = absurd h

pub list_low : (ops : List PlainOp) (n x : ℕ) (i : Item) → ListHas ops n x i → n ≤ x
list_low ops n x (operation op) h = let a = h.numbered in omega (arith, a)
list_low ops n x (transfer r m) h = absurd h

pub counters_low : (counters : List PlainCounter) (n x : ℕ) (i : Item) → CountersHave counters n x i → n ≤ x
counters_low [] n x i h = absurd h
counters_low (c ∷ counters) n x i (inl (inl h)) = list_low c.from n x i h
counters_low (c ∷ counters) n x i (inl (inr h)) = let a = list_low c.until (n + length c.from) x i h in omega (arith, a)
counters_low (c ∷ counters) n x i (inr h) = let a = counters_low counters (n + (length c.from + length c.until)) x i h in omega (arith, a)

pub counters_within : (counters : List PlainCounter) (n x : ℕ) (i : Item) → CountersHave counters n x i → x < n + counters_size counters
counters_within [] n x i h = absurd h
counters_within (c ∷ counters) n x i (inl (inl h)) = (let a = list_low c.from n x i h in let b = list_within c.from n x (x - n) i h (omega (arith, a)) in omega (arith, a, b))
counters_within (c ∷ counters) n x i (inl (inr h)) = (let a = list_low c.until (n + length c.from) x i h in let b = list_within c.until (n + length c.from) x (x - (n + length c.from)) i h (omega (arith, a)) in omega (arith, a, b))
counters_within (c ∷ counters) n x i (inr h) = let a = counters_within counters (n + (length c.from + length c.until)) x i h in omega (arith, a)

-- so has each of a bound
pub bound_name : (core : PlainCore) (around : CopyNets) (counters : List PlainCounter) (n x j : ℕ) (i : Item) (e : Event) → CountersHave counters n x i → Does core i e → x ≡ n + j → slice_index_or (bound_names around counters) j None ≡ around e.mem
bound_name core around [] n x j i e h d at = absurd h
bound_name core around (c ∷ counters) n x j i e (inl (inl h)) d at =
    let w = list_within c.from n x j i h at in
    let l = names_long around c.from in
    before (names_of around c.from) (names_of around c.until ++ bound_names around counters) j (omega (arith, w, l)) ∙ list_name core around c.from n x j i e h d at
bound_name core around (c ∷ counters) n x j i e (inl (inr h)) d at =
    let low = list_low c.until (n + length c.from) x i h in
    let j2 : ℕ = x - (n + length c.from) in
    let is : x ≡ (n + length c.from) + j2 = omega (arith, low) in
    let w = list_within c.until (n + length c.from) x j2 i h is in
    let l = names_long around c.from in
    let u = names_long around c.until in
    let same : length (names_of around c.from) + j2 ≡ j = omega (arith, l, is, at) in
    ap (λ p. slice_index_or (names_of around c.from ++ (names_of around c.until ++ bound_names around counters)) p None) (sym same)
    ∙ behind (names_of around c.from) (names_of around c.until ++ bound_names around counters) j2
    ∙ before (names_of around c.until) (bound_names around counters) j2 (omega (arith, w, u)) ∙ list_name core around c.until (n + length c.from) x j2 i e h d is
bound_name core around (c ∷ counters) n x j i e (inr h) d at =
    let low = counters_low counters (n + (length c.from + length c.until)) x i h in
    let j2 : ℕ = x - (n + (length c.from + length c.until)) in
    let is : x ≡ (n + (length c.from + length c.until)) + j2 = omega (arith, low) in
    let l = names_long around c.from in
    let u = names_long around c.until in
    let same : length (names_of around c.from) + (length (names_of around c.until) + j2) ≡ j = omega (arith, l, u, is, at) in
    ap (λ p. slice_index_or (names_of around c.from ++ (names_of around c.until ++ bound_names around counters)) p None) (sym same)
    ∙ behind (names_of around c.from) (names_of around c.until ++ bound_names around counters) (length (names_of around c.until) + j2)
    ∙ behind (names_of around c.until) (bound_names around counters) j2 ∙ bound_name core around counters (n + (length c.from + length c.until)) x j2 i e h d is

-- of spans as of bounds
pub spans_long : (around : CopyNets) (spans : List PlainSpan) → length (span_names around spans) ≡ spans_size spans
spans_long around [] = refl
spans_long around (single ops ∷ spans) =
    let a = both_long (names_of around ops) (span_names around spans) in
    let d = names_long around ops in
    let f = spans_long around spans in
    omega (arith, a, d, f)
spans_long around (range x y ∷ spans) =
    let a = both_long (names_of around x) (names_of around y ++ span_names around spans) in
    let b = both_long (names_of around y) (span_names around spans) in
    let d = names_long around x in
    let e = names_long around y in
    let f = spans_long around spans in
    omega (arith, a, b, d, e, f)

spans_low : (spans : List PlainSpan) (n x : ℕ) (i : Item) → SpansHave spans n x i → n ≤ x
spans_low [] n x i h = absurd h
spans_low (single ops ∷ spans) n x i (inl h) = list_low ops n x i h
spans_low (single ops ∷ spans) n x i (inr h) = let a = spans_low spans (n + length ops) x i h in omega (arith, a)
spans_low (range a b ∷ spans) n x i (inl (inl h)) = list_low a n x i h
spans_low (range a b ∷ spans) n x i (inl (inr h)) = let l = list_low b (n + length a) x i h in omega (arith, l)
spans_low (range a b ∷ spans) n x i (inr h) = let l = spans_low spans (n + (length a + length b)) x i h in omega (arith, l)

spans_within : (spans : List PlainSpan) (n x : ℕ) (i : Item) → SpansHave spans n x i → x < n + spans_size spans
spans_within [] n x i h = absurd h
spans_within (single ops ∷ spans) n x i (inl h) = (let a = list_low ops n x i h in let b = list_within ops n x (x - n) i h (omega (arith, a)) in omega (arith, a, b))
spans_within (single ops ∷ spans) n x i (inr h) = let a = spans_within spans (n + length ops) x i h in omega (arith, a)
spans_within (range a b ∷ spans) n x i (inl (inl h)) = (let l = list_low a n x i h in let w = list_within a n x (x - n) i h (omega (arith, l)) in omega (arith, l, w))
spans_within (range a b ∷ spans) n x i (inl (inr h)) = (let l = list_low b (n + length a) x i h in let w = list_within b (n + length a) x (x - (n + length a)) i h (omega (arith, l)) in omega (arith, l, w))
spans_within (range a b ∷ spans) n x i (inr h) = let l = spans_within spans (n + (length a + length b)) x i h in omega (arith, l)

span_name : (core : PlainCore) (around : CopyNets) (spans : List PlainSpan) (n x j : ℕ) (i : Item) (e : Event) → SpansHave spans n x i → Does core i e → x ≡ n + j → slice_index_or (span_names around spans) j None ≡ around e.mem
span_name core around [] n x j i e h d at = absurd h
span_name core around (single ops ∷ spans) n x j i e (inl h) d at =
    let w = list_within ops n x j i h at in
    let l = names_long around ops in
    before (names_of around ops) (span_names around spans) j (omega (arith, w, l)) ∙ list_name core around ops n x j i e h d at
span_name core around (single ops ∷ spans) n x j i e (inr h) d at =
    let low = spans_low spans (n + length ops) x i h in
    let j2 : ℕ = x - (n + length ops) in
    let is : x ≡ (n + length ops) + j2 = omega (arith, low) in
    let l = names_long around ops in
    let same : length (names_of around ops) + j2 ≡ j = omega (arith, l, is, at) in
    ap (λ p. slice_index_or (names_of around ops ++ span_names around spans) p None) (sym same) ∙ behind (names_of around ops) (span_names around spans) j2 ∙ span_name core around spans (n + length ops) x j2 i e h d is
span_name core around (range a b ∷ spans) n x j i e (inl (inl h)) d at =
    let w = list_within a n x j i h at in
    let l = names_long around a in
    before (names_of around a) (names_of around b ++ span_names around spans) j (omega (arith, w, l)) ∙ list_name core around a n x j i e h d at
span_name core around (range a b ∷ spans) n x j i e (inl (inr h)) d at =
    let low = list_low b (n + length a) x i h in
    let j2 : ℕ = x - (n + length a) in
    let is : x ≡ (n + length a) + j2 = omega (arith, low) in
    let w = list_within b (n + length a) x j2 i h is in
    let l = names_long around a in
    let u = names_long around b in
    let same : length (names_of around a) + j2 ≡ j = omega (arith, l, is, at) in
    ap (λ p. slice_index_or (names_of around a ++ (names_of around b ++ span_names around spans)) p None) (sym same)
    ∙ behind (names_of around a) (names_of around b ++ span_names around spans) j2
    ∙ before (names_of around b) (span_names around spans) j2 (omega (arith, w, u)) ∙ list_name core around b (n + length a) x j2 i e h d is
span_name core around (range a b ∷ spans) n x j i e (inr h) d at =
    let low = spans_low spans (n + (length a + length b)) x i h in
    let j2 : ℕ = x - (n + (length a + length b)) in
    let is : x ≡ (n + (length a + length b)) + j2 = omega (arith, low) in
    let l = names_long around a in
    let u = names_long around b in
    let same : length (names_of around a) + (length (names_of around b) + j2) ≡ j = omega (arith, l, u, is, at) in
    ap (λ p. slice_index_or (names_of around a ++ (names_of around b ++ span_names around spans)) p None) (sym same)
    ∙ behind (names_of around a) (names_of around b ++ span_names around spans) (length (names_of around b) + j2)
    ∙ behind (names_of around b) (span_names around spans) j2 ∙ span_name core around spans (n + (length a + length b)) x j2 i e h d is

-- a transfer's own net is that of its memory on the chip, which its events touch that aren't of the DRAM
pub transfer_long : (around : CopyNets) (m : ℕ) (spans : List PlainSpan) → length (transfer_names around m spans) ≡ spans_size spans + 1
transfer_long around m spans = let a = both_long (span_names around spans) (around m ∷ []) in let b = spans_long around spans in omega (arith, a, b)

pub transfer_name : (core : PlainCore) (around : CopyNets) (r m : ℕ) (spans : List PlainSpan) (n x j : ℕ) (i : Item) (e : Event) → NodeHas (load r m spans) n x i → Does core i e → ((q k : ℕ) → NodeHas (load r m spans) n x (transfer q k) → e.mem ≡ k) → x ≡ n + j
    → slice_index_or (transfer_names around m spans) j None ≡ around e.mem
transfer_name core around r m spans n x j i e (inl h) d mine at =
    let w = spans_within spans n x i h in
    let l = spans_long around spans in
    before (span_names around spans) (around m ∷ []) j (omega (arith, w, l, at)) ∙ span_name core around spans n x j i e h d at
transfer_name core around r m spans n x j (operation op) e (inr h) d mine at = absurd h
transfer_name core around r m spans n x j (transfer q k) e (inr h) d mine at =
    let first = h.0 in
    let l = spans_long around spans in
    let same : length (span_names around spans) + 0 ≡ j = omega (arith, first, l, at) in
    ap (λ p. slice_index_or (transfer_names around m spans) p None) (sym same) ∙ behind (span_names around spans) (around m ∷ []) 0 ∙ ap around (sym (mine q k (inr h) ∙ h.2))

-- what names the copies of events, list by list
module _ (Of : (number mem : ℕ) → Type 0) (s : Signals) (t : ℕ) where
  pub name_both : (events : List Stamped) (n : ℕ) (xs ys : List (Option ℕ)) → NameCopies Of s events t n xs → NameCopies Of s events t (n + length xs) ys → NameCopies Of s events t n (xs ++ ys)
  name_both events n xs ys h k i l u e there late of = by (cases_lt i (length xs))
    where
      by : (i < length xs) ⊎ (length xs ≤ i) → copy_at s u (slice_index_or (xs ++ ys) i None) ≡ there.copy
      by (inl low) = ap (copy_at s u) (before xs ys i low) ∙ h i low u e there late of
      by (inr high) =
          let j : ℕ = i - length xs in
          let same : length xs + j ≡ i = omega (arith, high) in
          let all = both_long xs ys in
          let at : n + i ≡ (n + length xs) + j = omega (arith, same) in
          ap (λ p. copy_at s u (slice_index_or (xs ++ ys) p None)) (sym same) ∙ ap (copy_at s u) (behind xs ys j)
          ∙ k j (omega (arith, l, all, same)) u e (record { copy = there.copy; there = there.there; numbered = there.numbered ∙ at }) late (subst (λ x. Of x e.mem) at of)

  pub name_at : (events : List Stamped) (n m : ℕ) (names : List (Option ℕ)) → n ≡ m → NameCopies Of s events t n names → NameCopies Of s events t m names
  name_at events n m names e h = subst (λ x. NameCopies Of s events t x names) e h

  -- by a part, where the whole agrees with it at their numbers
  pub name_in : (whole part : List Stamped) (n : ℕ) (names : List (Option ℕ)) → ((i : ℕ) → i < length names → Agree whole part (n + i)) → NameCopies Of s part t n names → NameCopies Of s whole t n names
  name_in whole part n names agree h i l u e p late of = let y = (agree i l).into u e p in h i l u y.0 y.1 late (subst (Of (n + i)) (sym y.2.mem) of) ∙ y.3
