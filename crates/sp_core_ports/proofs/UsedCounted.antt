-- Readers are as many as a plan counts, and stand one after the other.
use Rattle.std.proofs.Common.{◌≡◌, ℕ, zero, suc, ◌+◌, ◌<◌, ◌≤◌, Bool, true, false, List, [], ◌∷◌, ◌++◌, length, arith, refl, ap, ◌∙◌}
use Rattle.std.proofs.lemmas.List.{length-append}
use Rattle.std.proofs.lemmas.Bool.{leb-true, le-leb}
use Rattle.std.specs.Prelude.{◌==◌, nat_le}
use Rattle.sp_core.specs.Numbering.{counters_size, spans_size, number_count, number_count_in}
use Rattle.sp_core.specs.PlainCore.{PlainNode, PlainStages, inner, outer, fsm, branch, load, store, sparse, no_stage, more_stage, PlainCore}
use Rattle.sp_plan.specs.Copies.{one_if, reads, sparse_reads, readers, stages_readers}
use Rattle.sp_time.specs.Lists.{Each, Pairs}
use Rattle.sp_core_ports.specs.UsedLaws.{ReadersAreCounted, ReadersAreInOrder, ReadersHavePlaces}
use Rattle.sp_core_ports.specs.UsedReaders.{Reader, reader_if, readers_in, readers_in_stages, readers_of, over_at, reader_at}

reader_many : (b : Bool) (n k : ℕ) → length (reader_if b n k) ≡ one_if b
reader_many true n k = refl
reader_many false n k = refl

two_many : (A B : List Reader) (a b : ℕ) → length A ≡ a → length B ≡ b → length (A ++ B) ≡ a + b
two_many A B a b p q = length-append A B ∙ ap (λ x. x + length B) p ∙ ap (λ x. a + x) q

mutual
  node_counted : (core : PlainCore) (m n : ℕ) (node : PlainNode) → length (readers_in core m n node) ≡ readers core m node
  node_counted core m n (inner counters owned ops comb) = reader_many (reads core m ops) (n + counters_size counters) (length ops)
  node_counted core m n (outer counters style owned stages) = stages_counted core m (n + counters_size counters) stages
  node_counted core m n (fsm start state test body next) =
      two_many (reader_if (reads core m start) n (length start) ++ reader_if (reads core m test) (n + length start) (length test))
      (readers_in core m (n + (length start + length test)) body ++ reader_if (reads core m next) (n + (length start + (length test + number_count body))) (length next))
      (one_if (reads core m start) + one_if (reads core m test)) (readers core m body + one_if (reads core m next))
      (two_many _ _ (one_if (reads core m start)) (one_if (reads core m test)) (reader_many (reads core m start) n (length start)) (reader_many (reads core m test) (n + length start) (length test)))
      (two_many _ _ (readers core m body) (one_if (reads core m next)) (node_counted core m (n + (length start + length test)) body) (reader_many (reads core m next) (n + (length start + (length test + number_count body))) (length next)))
  node_counted core m n (branch test first second) =
      two_many (reader_if (reads core m test) n (length test)) (readers_in core m (n + length test) first ++ readers_in core m (n + (length test + number_count first)) second)
      (one_if (reads core m test)) (readers core m first + readers core m second)
      (reader_many (reads core m test) n (length test))
      (two_many _ _ (readers core m first) (readers core m second) (node_counted core m (n + length test) first) (node_counted core m (n + (length test + number_count first)) second))
  node_counted core m n (load r s spans) = refl
  node_counted core m n (store r s spans) = reader_many (s == m) (n + spans_size spans) 1
  node_counted core m n (sparse kind r s places spans count par) = reader_many (sparse_reads core kind s places m) (n + (spans_size spans + length count)) 1

  stages_counted : (core : PlainCore) (m n : ℕ) (stages : PlainStages) → length (readers_in_stages core m n stages) ≡ stages_readers core m stages
  stages_counted core m n no_stage = refl
  stages_counted core m n (more_stage first last comb node rest) =
      two_many (readers_in core m n node) (readers_in_stages core m (n + number_count node) rest) (readers core m node) (stages_readers core m rest)
      (node_counted core m n node) (stages_counted core m (n + number_count node) rest)

pub readers_are_counted : (core : PlainCore) → ReadersAreCounted core
readers_are_counted core m n node = node_counted core m n node

-- readers between two numbers
abbrev pub AreBetween : (from until : ℕ) → List Reader → Type 0
AreBetween a b rs = Each (λ (r : Reader). (a ≤ r.from) × (r.from ≤ r.until) × (r.until ≤ b)) rs

abbrev AreApart : List Reader → Type 0
AreApart rs = Pairs (λ (a : Reader) (b : Reader). a.until ≤ b.from) rs

between_more : (a b c d : ℕ) → c ≤ a → b ≤ d → (rs : List Reader) → AreBetween a b rs → AreBetween c d rs
between_more a b c d l u [] h = tt
between_more a b c d l u (r ∷ rs) h = (((let x : a ≤ r.from = h.0.0 in omega arith), h.0.1, (let x : r.until ≤ b = h.0.2 in omega arith)), between_more a b c d l u rs h.1)

between_append : (a b : ℕ) (rs qs : List Reader) → AreBetween a b rs → AreBetween a b qs → AreBetween a b (rs ++ qs)
between_append a b [] qs h k = k
between_append a b (r ∷ rs) qs h k = (h.0, between_append a b rs qs h.1 k)

-- two lists, of which the first is over where the second begins
apart_append : (a b c : ℕ) (rs qs : List Reader) → AreBetween a b rs → AreBetween b c qs → AreApart rs → AreApart qs → AreApart (rs ++ qs)
apart_append a b c [] qs h k p q = q
apart_append a b c (r ∷ rs) qs h k p q = (each rs qs p.0 k, apart_append a b c rs qs h.1 k p.1 q)
  where
    after : (qs : List Reader) → AreBetween b c qs → Each (λ (x : Reader). r.until ≤ x.from) qs
    after [] k = tt
    after (x ∷ qs) k = ((let l : r.until ≤ b = h.0.2 in let u : b ≤ x.from = k.0.0 in omega arith), after qs k.1)

    each : (rs qs : List Reader) → Each (λ (x : Reader). r.until ≤ x.from) rs → AreBetween b c qs → Each (λ (x : Reader). r.until ≤ x.from) (rs ++ qs)
    each [] qs p k = after qs k
    each (x ∷ rs) qs p k = (p.0, each rs qs p.1 k)

reader_between : (t : Bool) (n k : ℕ) → AreBetween n (n + k) (reader_if t n k)
reader_between true n k = ((omega arith, omega arith, omega arith), tt)
reader_between false n k = tt

reader_apart : (t : Bool) (n k : ℕ) → AreApart (reader_if t n k)
reader_apart true n k = (tt, tt)
reader_apart false n k = tt

joined : (a b c : ℕ) (rs qs : List Reader) → a ≤ b → b ≤ c → AreBetween a b rs × AreApart rs → AreBetween b c qs × AreApart qs → AreBetween a c (rs ++ qs) × AreApart (rs ++ qs)
joined a b c rs qs l u p q = (
  between_append a c rs qs (between_more a b a c (omega arith) u rs p.0) (between_more b c a c l (omega arith) qs q.0),
  apart_append a b c rs qs p.0 q.0 p.1 q.1,
)

ending : (a b c : ℕ) (rs : List Reader) → b ≡ c → AreBetween a b rs × AreApart rs → AreBetween a c rs × AreApart rs
ending a b c rs e h = (between_more a b a c (omega arith) (omega arith) rs h.0, h.1)

alone : (a b n k : ℕ) (t : Bool) → a ≤ n → n + k ≤ b → AreBetween a b (reader_if t n k) × AreApart (reader_if t n k)
alone a b n k t l u = (between_more n (n + k) a b l u (reader_if t n k) (reader_between t n k), reader_apart t n k)

mutual
  node_apart : (core : PlainCore) (m n : ℕ) (node : PlainNode) → AreBetween n (n + number_count node) (readers_in core m n node) × AreApart (readers_in core m n node)
  node_apart core m n (inner counters owned ops comb) = alone n (n + (counters_size counters + length ops)) (n + counters_size counters) (length ops) (reads core m ops) (omega arith) (omega arith)
  node_apart core m n (outer counters style owned stages) =
      let h = stages_apart core m (n + counters_size counters) stages in
      (between_more (n + counters_size counters) (n + counters_size counters + number_count_in stages) n (n + (counters_size counters + number_count_in stages)) (omega arith) (omega arith) (readers_in_stages core m (n + counters_size counters) stages) h.0, h.1)
  node_apart core m n (fsm start state test body next) =
      let a : ℕ = n + length start in
      let b : ℕ = n + (length start + length test) in
      let c : ℕ = n + (length start + (length test + number_count body)) in
      let d : ℕ = n + ((length start + length test) + (number_count body + length next)) in
      joined n b d (reader_if (reads core m start) n (length start) ++ reader_if (reads core m test) a (length test)) (readers_in core m b body ++ reader_if (reads core m next) c (length next)) (omega arith) (omega arith)
      (joined n a b (reader_if (reads core m start) n (length start)) (reader_if (reads core m test) a (length test)) (omega arith) (omega arith)
      (alone n a n (length start) (reads core m start) (omega arith) (omega arith)) (alone a b a (length test) (reads core m test) (omega arith) (omega arith)))
      (joined b c d (readers_in core m b body) (reader_if (reads core m next) c (length next)) (omega arith) (omega arith)
      (ending b (b + number_count body) c (readers_in core m b body) (omega arith) (node_apart core m b body)) (alone c d c (length next) (reads core m next) (omega arith) (omega arith)))
  node_apart core m n (branch test first second) =
      let a : ℕ = n + length test in
      let b : ℕ = n + (length test + number_count first) in
      let c : ℕ = n + (length test + (number_count first + number_count second)) in
      joined n a c (reader_if (reads core m test) n (length test)) (readers_in core m a first ++ readers_in core m b second) (omega arith) (omega arith)
      (alone n a n (length test) (reads core m test) (omega arith) (omega arith))
      (joined a b c (readers_in core m a first) (readers_in core m b second) (omega arith) (omega arith)
      (ending a (a + number_count first) b (readers_in core m a first) (omega arith) (node_apart core m a first))
      (ending b (b + number_count second) c (readers_in core m b second) (omega arith) (node_apart core m b second)))
  node_apart core m n (load r s spans) = (tt, tt)
  node_apart core m n (store r s spans) = alone n (n + (spans_size spans + 1)) (n + spans_size spans) 1 (s == m) (omega arith) (omega arith)
  node_apart core m n (sparse kind r s places spans count par) =
      alone n (n + number_count (sparse kind r s places spans count par)) (n + (spans_size spans + length count)) 1 (sparse_reads core kind s places m) (omega arith) (omega arith)

  stages_apart : (core : PlainCore) (m n : ℕ) (stages : PlainStages) → AreBetween n (n + number_count_in stages) (readers_in_stages core m n stages) × AreApart (readers_in_stages core m n stages)
  stages_apart core m n no_stage = (tt, tt)
  stages_apart core m n (more_stage first last comb node rest) =
      joined n (n + number_count node) (n + (number_count node + number_count_in rest)) (readers_in core m n node) (readers_in_stages core m (n + number_count node) rest) (omega arith) (omega arith)
      (node_apart core m n node)
      (ending (n + number_count node) (n + number_count node + number_count_in rest) (n + (number_count node + number_count_in rest)) (readers_in_stages core m (n + number_count node) rest) (omega arith) (stages_apart core m (n + number_count node) rest))

pub readers_are_in_order : (core : PlainCore) → ReadersAreInOrder core
readers_are_in_order core m n node = (node_apart core m n node).1

-- by its place in the order, a reader does numbers at which as many readers are over
none_over : (x : ℕ) (rs : List Reader) → Each (λ (r : Reader). x < r.until) rs → over_at x rs ≡ 0
none_over x [] h = refl
none_over x (r ∷ rs) h = ap (λ n. n + over_at x rs) (not_over (nat_le r.until x) refl) ∙ (let e : over_at x rs ≡ 0 = none_over x rs h.1 in omega arith)
  where
    not_over : (b : Bool) → nat_le r.until x ≡ b → one_if (nat_le r.until x) ≡ 0
    not_over true e = let l : r.until ≤ x = leb-true _ _ e in let u : x < r.until = h.0 in absurd (omega arith)
    not_over false e = ap one_if e

later_until : (x : ℕ) (r : Reader) (a b : ℕ) (rs : List Reader) → x < r.until → AreBetween a b rs → Each (λ (q : Reader). r.until ≤ q.from) rs → Each (λ (q : Reader). x < q.until) rs
later_until x r a b [] l w h = tt
later_until x r a b (q ∷ rs) l w h = ((let s : q.from ≤ q.until = w.0.1 in let t : r.until ≤ q.from = h.0 in omega arith), later_until x r a b rs l w.1 h.1)

after_first : (r : Reader) (rs : List Reader) (j : ℕ) → j < length rs → Each (λ (q : Reader). r.until ≤ q.from) rs → r.until ≤ (reader_at rs j).from
after_first r [] j l h = absurd (omega (arith, l))
after_first r (q ∷ rs) zero l h = h.0
after_first r (q ∷ rs) (suc j) l h = after_first r rs j (omega arith) h.1

place_is : (a b : ℕ) (rs : List Reader) (i x : ℕ) → AreBetween a b rs → AreApart rs → i < length rs → (reader_at rs i).from ≤ x → x < (reader_at rs i).until → over_at x rs ≡ i
place_is a b [] i x w h l low high = absurd (omega (arith, l))
place_is a b (r ∷ rs) zero x w h l low high = none_over x (r ∷ rs) (high, later_until x r a b rs high w.1 h.0)
place_is a b (r ∷ rs) (suc i) x w h l low high =
    ap (λ n. n + over_at x rs) (ap one_if (le-leb r.until x (let u : r.until ≤ (reader_at rs i).from = after_first r rs i (omega arith) h.0 in omega arith)))
    ∙ (let e : over_at x rs ≡ i = place_is a b rs i x w.1 h.1 (omega arith) low high in omega arith)

pub readers_have_places : (core : PlainCore) → ReadersHavePlaces core
readers_have_places core m i x l low high =
    let h = node_apart core m 0 core.root in place_is 0 (0 + number_count core.root) (readers_of core m) i x h.0 h.1 l low high
