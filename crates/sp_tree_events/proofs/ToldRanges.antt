-- The items of a part have numbers of their own, in one range.
use Rattle.std.proofs.Common.{◌≡◌, ℕ, zero, suc, ◌+◌, ◌<◌, ◌≤◌, ◌⊎◌, inl, inr, List, [], ◌∷◌, length, slice_index_or, sym, ap, subst, ◌∙◌, arith}
use Rattle.sp_core.specs.Numbering.{counters_size, spans_size, number_count, number_count_in}
use Rattle.sp_core.specs.PlainCore.{PlainOp, PlainCounter, PlainSpan, single, range, PlainNode, PlainStages, inner, outer, fsm, branch, load, store, sparse, no_stage, more_stage}
use Rattle.sp_tree_events.specs.ToldItems.{Item, operation, transfer, IsListed, ListHas, TransferHas, CountersHave, SpansHave, NodeHas, StagesHave}
use Rattle.sp_tree_events.specs.ToldLaws.{NumbersStandForOne}

-- items at numbers from one on and below another one, one at each
pub record IsRange (Has : ℕ → Item → Type 0) (low high : ℕ) : Type 0 where
  pub above : (x : ℕ) (i : Item) → Has x i → low ≤ x
  pub below : (x : ℕ) (i : Item) → Has x i → x < high
  pub one : (x : ℕ) (i j : Item) → Has x i → Has x j → i ≡ j

module _ (A B : ℕ → Item → Type 0) (a b c d : ℕ) (first : IsRange A a b) (second : IsRange B c d) (mid : b ≤ c) (low : a ≤ c) (high : b ≤ d) where
  joined_above : (x : ℕ) (i : Item) → A x i ⊎ B x i → a ≤ x
  joined_above x i (inl h) = first.above x i h
  joined_above x i (inr h) = let l = second.above x i h in omega (arith, l, low)

  joined_below : (x : ℕ) (i : Item) → A x i ⊎ B x i → x < d
  joined_below x i (inl h) = let l = first.below x i h in omega (arith, l, high)
  joined_below x i (inr h) = second.below x i h

  joined_one : (x : ℕ) (i j : Item) → A x i ⊎ B x i → A x j ⊎ B x j → i ≡ j
  joined_one x i j (inl h) (inl k) = first.one x i j h k
  joined_one x i j (inl h) (inr k) = absurd (let l = first.below x i h in let m = second.above x j k in omega (arith, l, m, mid))
  joined_one x i j (inr h) (inl k) = absurd (let l = first.below x j k in let m = second.above x i h in omega (arith, l, m, mid))
  joined_one x i j (inr h) (inr k) = second.one x i j h k

  pub joined : IsRange (λ x i. A x i ⊎ B x i) a d
  joined = record { above = joined_above; below = joined_below; one = joined_one }

none_in : (n m : ℕ) → IsRange (λ x i. ⊥) n m
none_in n m = record { above = λ x i h. absurd h; below = λ x i h. absurd h; one = λ x i j h k. absurd h }

same_place : (ops : List PlainOp) (n x : ℕ) (o p : PlainOp) → IsListed ops n x o → IsListed ops n x p → o ≡ p
same_place ops n x o p a b = at ops a.place o p a.within a.is (subst (λ k. slice_index_or ops k p ≡ p) {x = b.place} {y = a.place} (let e = a.numbered in let f = b.numbered in omega (arith, e, f)) b.is)
  where
    at : (ops : List PlainOp) (k : ℕ) (o p : PlainOp) → k < length ops → slice_index_or ops k o ≡ o → slice_index_or ops k p ≡ p → o ≡ p
    at [] k o p l e f = absurd (omega (arith, l))
    at (x ∷ xs) zero o p l e f = sym e ∙ f
    at (x ∷ xs) (suc k) o p l e f = at xs k o p (omega (arith, l)) e f

list_above : (ops : List PlainOp) (n x : ℕ) (i : Item) → ListHas ops n x i → n ≤ x
list_above ops n x (operation op) h = let e = h.numbered in omega (arith, e)
list_above ops n x (transfer r m) h = absurd h

list_below : (ops : List PlainOp) (n x : ℕ) (i : Item) → ListHas ops n x i → x < n + length ops
list_below ops n x (operation op) h = let e = h.numbered in let l = h.within in omega (arith, e, l)
list_below ops n x (transfer r m) h = absurd h

list_one : (ops : List PlainOp) (n x : ℕ) (i j : Item) → ListHas ops n x i → ListHas ops n x j → i ≡ j
list_one ops n x (operation o) (operation p) h k = ap operation (same_place ops n x o p h k)
list_one ops n x (operation o) (transfer r m) h k = absurd k
list_one ops n x (transfer r m) j h k = absurd h

pub list_range : (ops : List PlainOp) (n : ℕ) → IsRange (ListHas ops n) n (n + length ops)
list_range ops n = record { above = list_above ops n; below = list_below ops n; one = list_one ops n }

move_number : (n r m x : ℕ) (i : Item) → TransferHas n r m x i → x ≡ n
move_number n r m x (operation op) h = absurd h
move_number n r m x (transfer q k) h = h.0

move_one : (n r m x : ℕ) (i j : Item) → TransferHas n r m x i → TransferHas n r m x j → i ≡ j
move_one n r m x (operation op) j h k = absurd h
move_one n r m x (transfer q l) (operation op) h k = absurd k
move_one n r m x (transfer q l) (transfer q' l') h k = let a : q ≡ q' = h.1 ∙ sym k.1 in let b : l ≡ l' = h.2 ∙ sym k.2 in λ t. transfer (a t) (b t)

move_range : (n r m : ℕ) → IsRange (TransferHas n r m) n (suc n)
move_range n r m = record {
  above = λ x i h. let e = move_number n r m x i h in omega (arith, e);
  below = λ x i h. let e = move_number n r m x i h in omega (arith, e);
  one = move_one n r m;
}

pub wide : (Has : ℕ → Item → Type 0) (low high more : ℕ) → IsRange Has low high → high ≤ more → IsRange Has low more
wide Has low high more h l = record { above = h.above; below = λ x i g. (let b = h.below x i g in omega (arith, b, l)); one = h.one }

-- two lists, one after the other
two_range : (a b : List PlainOp) (n : ℕ) → IsRange (λ x i. ListHas a n x i ⊎ ListHas b (n + length a) x i) n (n + (length a + length b))
two_range a b n = joined (ListHas a n) (ListHas b (n + length a)) n (n + length a) (n + length a) (n + (length a + length b)) (list_range a n) (wide (ListHas b (n + length a)) _ _ _ (list_range b (n + length a)) (omega arith)) (omega arith) (omega arith) (omega arith)

pub counters_range : (counters : List PlainCounter) (n : ℕ) → IsRange (CountersHave counters n) n (n + counters_size counters)
counters_range [] n = none_in n (n + 0)
counters_range (c ∷ counters) n =
    joined (λ x i. ListHas c.from n x i ⊎ ListHas c.until (n + length c.from) x i) (CountersHave counters (n + (length c.from + length c.until))) n (n + (length c.from + length c.until)) (n + (length c.from + length c.until)) (n + ((length c.from + length c.until) + counters_size counters))
    (two_range c.from c.until n) (wide (CountersHave counters (n + (length c.from + length c.until))) _ _ _ (counters_range counters (n + (length c.from + length c.until))) (omega arith)) (omega arith) (omega arith) (omega arith)

spans_range : (spans : List PlainSpan) (n : ℕ) → IsRange (SpansHave spans n) n (n + spans_size spans)
spans_range [] n = none_in n (n + 0)
spans_range (single ops ∷ spans) n =
    joined (ListHas ops n) (SpansHave spans (n + length ops)) n (n + length ops) (n + length ops) (n + (length ops + spans_size spans))
    (list_range ops n) (wide (SpansHave spans (n + length ops)) _ _ _ (spans_range spans (n + length ops)) (omega arith)) (omega arith) (omega arith) (omega arith)
spans_range (range a b ∷ spans) n =
    joined (λ x i. ListHas a n x i ⊎ ListHas b (n + length a) x i) (SpansHave spans (n + (length a + length b))) n (n + (length a + length b)) (n + (length a + length b)) (n + ((length a + length b) + spans_size spans))
    (two_range a b n) (wide (SpansHave spans (n + (length a + length b))) _ _ _ (spans_range spans (n + (length a + length b))) (omega arith)) (omega arith) (omega arith) (omega arith)

move_all : (spans : List PlainSpan) (n r m : ℕ) → IsRange (λ x i. SpansHave spans n x i ⊎ TransferHas (n + spans_size spans) r m x i) n (n + (spans_size spans + 1))
move_all spans n r m =
    joined (SpansHave spans n) (TransferHas (n + spans_size spans) r m) n (n + spans_size spans) (n + spans_size spans) (n + (spans_size spans + 1))
    (spans_range spans n) (wide (TransferHas (n + spans_size spans) r m) _ _ _ (move_range (n + spans_size spans) r m) (omega arith)) (omega arith) (omega arith) (omega arith)

mutual
  pub node_range : (node : PlainNode) (n : ℕ) → IsRange (NodeHas node n) n (n + number_count node)
  node_range (inner counters owned ops comb) n =
      joined (CountersHave counters n) (ListHas ops (n + counters_size counters)) n (n + counters_size counters) (n + counters_size counters) (n + (counters_size counters + length ops))
      (counters_range counters n) (wide (ListHas ops (n + counters_size counters)) _ _ _ (list_range ops (n + counters_size counters)) (omega arith)) (omega arith) (omega arith) (omega arith)
  node_range (outer counters style owned stages) n =
      joined (CountersHave counters n) (StagesHave stages (n + counters_size counters)) n (n + counters_size counters) (n + counters_size counters) (n + (counters_size counters + number_count_in stages))
      (counters_range counters n) (wide (StagesHave stages (n + counters_size counters)) _ _ _ (stages_range stages (n + counters_size counters)) (omega arith)) (omega arith) (omega arith) (omega arith)
  node_range (fsm start state test body next) n =
      let inside = node_range body (n + (length start + length test)) in
      joined (λ x i. ListHas start n x i ⊎ ListHas test (n + length start) x i) (λ x i. NodeHas body (n + (length start + length test)) x i ⊎ ListHas next (n + (length start + (length test + number_count body))) x i)
      n (n + (length start + length test)) (n + (length start + length test)) (n + ((length start + length test) + (number_count body + length next)))
      (two_range start test n)
      (joined (NodeHas body (n + (length start + length test))) (ListHas next (n + (length start + (length test + number_count body)))) (n + (length start + length test)) (n + (length start + length test) + number_count body) (n + (length start + (length test + number_count body))) (n + ((length start + length test) + (number_count body + length next)))
      inside (wide (ListHas next (n + (length start + (length test + number_count body)))) _ _ _ (list_range next (n + (length start + (length test + number_count body)))) (omega arith)) (omega arith) (omega arith) (omega arith))
      (omega arith) (omega arith) (omega arith)
  node_range (branch test first second) n =
      let one = node_range first (n + length test) in
      let other = node_range second (n + (length test + number_count first)) in
      joined (ListHas test n) (λ x i. NodeHas first (n + length test) x i ⊎ NodeHas second (n + (length test + number_count first)) x i) n (n + length test) (n + length test) (n + (length test + (number_count first + number_count second)))
      (list_range test n)
      (joined (NodeHas first (n + length test)) (NodeHas second (n + (length test + number_count first))) (n + length test) (n + length test + number_count first) (n + (length test + number_count first)) (n + (length test + (number_count first + number_count second)))
      one (wide (NodeHas second (n + (length test + number_count first))) _ _ _ other (omega arith)) (omega arith) (omega arith) (omega arith))
      (omega arith) (omega arith) (omega arith)
  node_range (load r m spans) n = move_all spans n r m
  node_range (store r m spans) n = move_all spans n r m
  node_range (sparse kind r m places spans count par) n =
      joined (SpansHave spans n) (λ x i. ListHas count (n + spans_size spans) x i ⊎ TransferHas (n + (spans_size spans + length count)) r m x i) n (n + spans_size spans) (n + spans_size spans) (n + (spans_size spans + (length count + 1)))
      (spans_range spans n)
      (joined (ListHas count (n + spans_size spans)) (TransferHas (n + (spans_size spans + length count)) r m) (n + spans_size spans) (n + spans_size spans + length count) (n + (spans_size spans + length count)) (n + (spans_size spans + (length count + 1)))
      (list_range count (n + spans_size spans)) (wide (TransferHas (n + (spans_size spans + length count)) r m) _ _ _ (move_range (n + (spans_size spans + length count)) r m) (omega arith)) (omega arith) (omega arith) (omega arith))
      (omega arith) (omega arith) (omega arith)

  pub stages_range : (stages : PlainStages) (n : ℕ) → IsRange (StagesHave stages n) n (n + number_count_in stages)
  stages_range no_stage n = none_in n (n + 0)
  stages_range (more_stage first last comb node rest) n =
      joined (NodeHas node n) (StagesHave rest (n + number_count node)) n (n + number_count node) (n + number_count node) (n + (number_count node + number_count_in rest))
      (node_range node n) (wide (StagesHave rest (n + number_count node)) _ _ _ (stages_range rest (n + number_count node)) (omega arith)) (omega arith) (omega arith) (omega arith)

pub numbers_stand_for_one : (node : PlainNode) → NumbersStandForOne node
numbers_stand_for_one node n x i j h k = (node_range node n).one x i j h k
