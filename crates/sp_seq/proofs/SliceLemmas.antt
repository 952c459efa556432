-- Slices, part by part.
use Rattle.std.proofs.Common.{◌≡◌, ℕ, zero, suc, inl, inr, ◌+◌, ◌*◌, ◌-◌, ◌/◌, ◌%◌, ◌^◌, ◌<◌, ◌≤◌, Bool, true, false, List, [], ◌∷◌, map, length, get_or, take, drop, refl, sym, ◌∙◌, ap, ap₂, subst, arith, cond, All, pos, ◌-ℤ◌}
use Rattle.std.specs.Prelude.{ℤ, negsuc, ◌&&◌, int_le, flat_map}
use Rattle.std.proofs.lemmas.Bool.{ltb-true, leb-true, lt-ltb, le-ltb, cases_lt}
use Rattle.std.proofs.lemmas.List.{take_all, length-append, length-take-le, get_or-map, length-map}
use Rattle.std.proofs.lemmas.List.Concat.{get_or-flat_map}
use Rattle.std.proofs.lemmas.Nat.{div_below}
use Rattle.std.proofs.Math.Nat.{mul-le-mul_right, div-add-mod}
use Rattle.sp_words.specs.Interface.{IsCount, word_count}
use Rattle.sp_tree.specs.Elements.{natural, is_below, row_major, numbers_below, tuples, length_between}
use Rattle.sp_tree.specs.Transfers as transfers
use Rattle.sp_tree.specs.Transfers.{lengths, are_parts_inside, is_part_inside, do_fit, places_of, all_offsets}
use Rattle.sp_seq.specs.declared.slice.Part.{Part}
use Rattle.sp_seq.specs.Slices.{plain_parts, offsets_at, Limited}
use Rattle.sp_seq.proofs.LoopLemmas.{length-numbers, number_at}

-- all but the first
abbrev pub tail : {A : Type 0} → List A → List A
tail xs = take (length xs - 1) (drop 1 xs)

pub tail-cons : {A : Type 0} (x : A) (xs : List A) → tail (x ∷ xs) ≡ xs
tail-cons x xs = ap (λ n. take n xs) {x = suc (length xs) - 1} {y = length xs} (omega arith) ∙ take_all (length xs) xs (omega arith)

-- what the first part says
of_range : (b : Bool) (f u : ℤ) (ps : List transfers.Part) → b ≡ true → (cond b (transfers.between f u) (transfers.index f) ∷ ps) ≡ (transfers.between f u ∷ ps)
of_range b f u ps e = ap (λ x. cond x (transfers.between f u) (transfers.index f) ∷ ps) e

of_index : (b : Bool) (f u : ℤ) (ps : List transfers.Part) → b ≡ false → (cond b (transfers.between f u) (transfers.index f) ∷ ps) ≡ (transfers.index f ∷ ps)
of_index b f u ps e = ap (λ x. cond x (transfers.between f u) (transfers.index f) ∷ ps) e

and_second : (a b : Bool) → (a && b) ≡ true → b ≡ true
and_second true b e = e
and_second false b e = absurd (cc)

and_first : (a b : Bool) → (a && b) ≡ true → a ≡ true
and_first true b e = refl
and_first false b e = absurd (cc)

fewer_counts : (l : ℕ) (ls : List ℕ) → All IsCount (l ∷ ls) → All IsCount ls
fewer_counts l ls h = λ k d b. h (suc k) d (omega arith)

fewer_words : (l : ℕ) (ls : List ℕ) → All IsCount (l ∷ ls) → word_count ls ≤ word_count (l ∷ ls)
fewer_words l ls h = let some = (h 0 0 (omega arith)).0 in let more = mul-le-mul_right {m = 1} {n = l} (word_count ls) some in omega arith

pub limited_range : (f u : ℤ) (ps : List transfers.Part) (l : ℕ) (ls : List ℕ) → Limited (transfers.between f u ∷ ps) (l ∷ ls) → Limited ps ls
limited_range f u ps l ls h =
    let fewer = fewer_words l ls h.counts in
    let all = h.small in
    let same = h.same in
    record { counts = fewer_counts l ls h.counts; small = omega arith; fit = and_second _ _ h.fit; same = omega arith }

pub range_within : (f u : ℤ) (ps : List transfers.Part) (l : ℕ) (ls : List ℕ) → Limited (transfers.between f u ∷ ps) (l ∷ ls) → length_between f u ≤ l
range_within f u ps l ls h = leb-true (length_between f u) l (and_first _ _ h.fit)

-- by the first of the parts in memory
pub total_rest : (parts : List Part) (limits : List ℕ) (d : Part) → 1 ≤ length parts → 1 ≤ length limits → (get_or parts 0 d).ranged ≡ true → Limited (plain_parts parts) limits → Limited (plain_parts (tail parts)) (tail limits)
total_rest [] limits d a b e h = absurd (omega arith)
total_rest (p ∷ ps) [] d a b e h = absurd (omega arith)
total_rest (p ∷ ps) (l ∷ ls) d a b e h =
    let rest = limited_range p.from p.until (plain_parts ps) l ls (subst (λ qs. Limited qs (l ∷ ls)) (of_range p.ranged p.from p.until (plain_parts ps) e) h) in
    subst (λ qs. Limited (plain_parts qs) (tail (l ∷ ls))) (sym (tail-cons p ps)) (subst (λ ks. Limited (plain_parts ps) ks) (sym (tail-cons l ls)) rest)

pub total_index : (parts : List Part) (limits : List ℕ) (d : Part) → 1 ≤ length parts → (get_or parts 0 d).ranged ≡ false → Limited (plain_parts parts) limits → Limited (plain_parts (tail parts)) limits
total_index [] limits d a e h = absurd (omega arith)
total_index (p ∷ ps) limits d a e h =
    let whole = subst (λ qs. Limited qs limits) (of_index p.ranged p.from p.until (plain_parts ps) e) h in
    subst (λ qs. Limited (plain_parts qs) limits) (sym (tail-cons p ps)) (record { counts = whole.counts; small = whole.small; fit = whole.fit; same = whole.same })

-- the tuples of one number from each list
length-each : {A B : Type 0} (f : A → List B) (xs : List A) (n : ℕ) → ((x : A) → length (f x) ≡ n) → length (flat_map f xs) ≡ length xs * n
length-each f [] n h = omega arith
length-each f (x ∷ xs) n h = let r = length-each f xs n h in length-append (f x) (flat_map f xs) ∙ (let q = h x in omega arith)

pub length-tuples : (lists : List (List ℕ)) (xs : List ℕ) → length (tuples (xs ∷ lists)) ≡ length xs * length (tuples lists)
length-tuples lists xs = length-each (λ x. map (λ others. x ∷ others) (tuples lists)) xs (length (tuples lists)) (λ x. length-map (tuples lists) (λ others. x ∷ others))

pub length-offsets : (ns : List ℕ) → length (tuples (map numbers_below ns)) ≡ word_count ns
length-offsets [] = refl
length-offsets (n ∷ ns) = length-tuples (map numbers_below ns) (numbers_below n) ∙ ap₂ ◌*◌ (length-numbers n) (length-offsets ns)

length-take_each : (n k i : ℕ) (f : ℕ → List (List ℕ)) (xs : List ℕ) → ((x : ℕ) → length (f x) ≡ n) → i ≤ length xs → length (flat_map f (take i xs)) ≡ i * n
length-take_each n k i f xs h l = length-each f (take i xs) n h ∙ ap (λ m. m * n) (length-take-le i xs l)

-- the k-th of them, where the first list are the numbers below m
pub tuple_at : (m : ℕ) (ns : List ℕ) (k : ℕ) → k < m * word_count ns
    → get_or (tuples (map numbers_below (m ∷ ns))) k [] ≡ (k / word_count ns) ∷ get_or (tuples (map numbers_below ns)) (k % word_count ns) []
tuple_at m ns k l =
    let w = word_count ns in
    let rest = tuples (map numbers_below ns) in
    let f : ℕ → List (List ℕ) = λ x. map (λ others. x ∷ others) rest in
    let some : 0 < w = positive m w k l in
    let each : (x : ℕ) → length (f x) ≡ w = λ x. length-map rest (λ others. x ∷ others) ∙ length-offsets ns in
    let i = k / w in
    let j = k % w in
    let below : i < m = div_below k w m some l in
    let inner : j < w = omega arith in
    let count = length-numbers m in
    let here : get_or (numbers_below m) i 0 ≡ i = number_at m i 0 below in
    let split : length (flat_map f (take i (numbers_below m))) + j ≡ k = ap (λ n. n + j) (length-take_each w k i f (numbers_below m) each (omega arith)) ∙ (let q = div-add-mod k w in omega arith) in
    ap (λ n. get_or (flat_map f (numbers_below m)) n []) (sym split)
    ∙ get_or-flat_map f (numbers_below m) i j 0 [] (omega arith) (omega (arith, each (get_or (numbers_below m) i 0)))
    ∙ get_or-map (λ others. get_or (numbers_below m) i 0 ∷ others) rest j [] [] (omega (arith, length-offsets ns))
    ∙ ap (λ x. x ∷ get_or rest j []) here
  where
    positive : (m w k : ℕ) → k < m * w → 0 < w
    positive m zero k l = absurd (omega arith)
    positive m (suc w) k l = omega arith

-- numbers in a range inside of a dimension
natural_sub : (b : ℕ) (a : ℕ) → natural (pos b -ℤ pos a) ≡ b - a
natural_sub b zero = omega arith
natural_sub b (suc a) = elim (cases_lt b (suc a)) [
  | inl l ↦ ap (λ t. natural (cond t (negsuc (suc a - suc b)) (pos (b - suc a)))) (lt-ltb b (suc a) l) ∙ omega arith
  | inr l ↦ ap (λ t. natural (cond t (negsuc (suc a - suc b)) (pos (b - suc a)))) (le-ltb b (suc a) l)
]

below_zero : (n a : ℕ) → natural (negsuc n -ℤ pos a) ≡ 0
below_zero n zero = ap (λ t. natural (cond t (negsuc (suc n - 1)) (pos (0 - suc n)))) (lt-ltb 0 (suc n) (omega arith))
below_zero n (suc a) = refl

range_inside : (f u : ℤ) (d o : ℕ) → int_le (pos 0) f ≡ true → int_le u (pos d) ≡ true → o < length_between f u → natural f + o < d
range_inside (negsuc a) u d o e h l = absurd (cc)
range_inside (pos a) (negsuc b) d o e h l = absurd (omega (arith, below_zero b a))
range_inside (pos a) (pos b) d o e h l = let q = natural_sub b a in let w : b ≤ d = at_most b d h in omega arith
  where
    at_most : (b d : ℕ) → int_le (pos b) (pos d) ≡ true → b ≤ d
    at_most b d h = leb-true b d h

index_inside : (i : ℤ) (d : ℕ) → is_below i d ≡ true → natural i < d
index_inside (pos k) d e = ltb-true k d e
index_inside (negsuc k) d e = absurd (cc)

positive_of : (m w k : ℕ) → k < m * w → 0 < w
positive_of m zero k l = absurd (omega arith)
positive_of m (suc w) k l = omega arith

-- where a word stands whose first part is a range: `rest`, `others` and `fewer` are what is left of the parts, the
-- dimensions and the limits
pub record RangeArm (parts : List transfers.Part) (dims limits : List ℕ) (rest : List transfers.Part) (others fewer : List ℕ) (row w v words k : ℕ) : Type 0 where
  pub counts : All IsCount others
  pub small : word_count others < 2 ^ 32
  pub inside : are_parts_inside others rest ≡ true
  pub limited : Limited rest fewer
  pub below : k % words < word_count (lengths rest)
  pub some : 0 < words
  pub row_in : (row + k / words + 1) * w ≤ word_count dims
  pub down_in : (k / words + 1) * v ≤ word_count limits
  pub dram : (inner : ℕ) → inner ≡ row_major others (places_of rest (offsets_at rest (k % words))) → (row + k / words) * w + inner ≡ row_major dims (places_of parts (offsets_at parts k))
  pub chip : (inner : ℕ) → inner ≡ row_major fewer (offsets_at rest (k % words)) → k / words * v + inner ≡ row_major limits (offsets_at parts k)

pub record IndexArm (parts : List transfers.Part) (dims limits : List ℕ) (rest : List transfers.Part) (others : List ℕ) (row w k : ℕ) : Type 0 where
  pub counts : All IsCount others
  pub small : word_count others < 2 ^ 32
  pub inside : are_parts_inside others rest ≡ true
  pub limited : Limited rest limits
  pub below : k < word_count (lengths rest)
  pub row_in : (row + 1) * w ≤ word_count dims
  pub dram : (inner : ℕ) → inner ≡ row_major others (places_of rest (offsets_at rest k)) → row * w + inner ≡ row_major dims (places_of parts (offsets_at parts k))
  pub chip : row_major limits (offsets_at rest k) ≡ row_major limits (offsets_at parts k)

range_offsets : (f u : ℤ) (ps : List transfers.Part) (k : ℕ) → k < word_count (lengths (transfers.between f u ∷ ps)) → offsets_at (transfers.between f u ∷ ps) k ≡ (k / word_count (lengths ps)) ∷ offsets_at ps (k % word_count (lengths ps))
unfolding offsets_at
range_offsets f u ps k l = tuple_at (length_between f u) (lengths ps) k l

index_offsets : (i : ℤ) (ps : List transfers.Part) (k : ℕ) → offsets_at (transfers.index i ∷ ps) k ≡ offsets_at ps k
unfolding offsets_at
index_offsets i ps k = refl

range_explicit : (f u : ℤ) (ps : List transfers.Part) (d : ℕ) (ds : List ℕ) (l : ℕ) (ls : List ℕ) (k : ℕ) → are_parts_inside (d ∷ ds) (transfers.between f u ∷ ps) ≡ true → Limited (transfers.between f u ∷ ps) (l ∷ ls) → All IsCount (d ∷ ds) → word_count (d ∷ ds) < 2 ^ 32
    → k < word_count (lengths (transfers.between f u ∷ ps))
    → RangeArm (transfers.between f u ∷ ps) (d ∷ ds) (l ∷ ls) ps ds ls (natural f) (word_count ds) (word_count ls) (word_count (lengths ps)) k
range_explicit f u ps d ds l ls k inside lim counts small below =
    let n = word_count (lengths ps) in
    let some = positive_of (length_between f u) n k below in
    let down = div_below k n (length_between f u) some below in
    let part = and_first _ _ inside in
    let row : natural f + k / n < d = range_inside f u d (k / n) (and_first _ _ part) (and_second _ _ part) down in
    let within = range_within f u ps l ls lim in
    let fewer = fewer_words d ds counts in
    let offsets = range_offsets f u ps k below in
    record {
      counts = fewer_counts d ds counts;
      small = omega arith;
      inside = and_second _ _ inside;
      limited = limited_range f u ps l ls lim;
      below = omega arith;
      some = some;
      row_in = mul-le-mul_right {m = natural f + k / n + 1} {n = d} (word_count ds) (omega arith);
      down_in = mul-le-mul_right {m = k / n + 1} {n = l} (word_count ls) (omega arith);
      dram = λ inner e. ap (λ x. (natural f + k / n) * word_count ds + x) e ∙ ap (λ os. row_major (d ∷ ds) (places_of (transfers.between f u ∷ ps) os)) (sym offsets);
      chip = λ inner e. ap (λ x. k / n * word_count ls + x) e ∙ ap (row_major (l ∷ ls)) (sym offsets);
    }

index_explicit : (i : ℤ) (ps : List transfers.Part) (d : ℕ) (ds limits : List ℕ) (k : ℕ) → are_parts_inside (d ∷ ds) (transfers.index i ∷ ps) ≡ true → Limited (transfers.index i ∷ ps) limits → All IsCount (d ∷ ds) → word_count (d ∷ ds) < 2 ^ 32
    → k < word_count (lengths (transfers.index i ∷ ps)) → IndexArm (transfers.index i ∷ ps) (d ∷ ds) limits ps ds (natural i) (word_count ds) k
index_explicit i ps d ds limits k inside lim counts small below =
    let row = index_inside i d (and_first _ _ inside) in
    let fewer = fewer_words d ds counts in
    let offsets = index_offsets i ps k in
    record {
      counts = fewer_counts d ds counts;
      small = omega arith;
      inside = and_second _ _ inside;
      limited = record { counts = lim.counts; small = lim.small; fit = lim.fit; same = lim.same };
      below = below;
      row_in = mul-le-mul_right {m = natural i + 1} {n = d} (word_count ds) (omega arith);
      dram = λ inner e. ap (λ x. natural i * word_count ds + x) e ∙ ap (λ os. row_major (d ∷ ds) (places_of (transfers.index i ∷ ps) os)) (sym offsets);
      chip = ap (row_major limits) (sym offsets);
    }

-- by the first part in memory, and what was computed
module _ (dims limits : List ℕ) (x : Part) (k : ℕ) where
  pub range_arm : (parts : List Part) → 1 ≤ length parts → 1 ≤ length dims → 1 ≤ length limits → (get_or parts 0 x).ranged ≡ true → are_parts_inside dims (plain_parts parts) ≡ true → Limited (plain_parts parts) limits → All IsCount dims → word_count dims < 2 ^ 32
      → k < word_count (lengths (plain_parts parts)) → (row w v words : ℕ) → row ≡ natural (get_or parts 0 x).from → w ≡ word_count (tail dims) → v ≡ word_count (tail limits) → words ≡ word_count (lengths (plain_parts (tail parts)))
      → RangeArm (plain_parts parts) dims limits (plain_parts (tail parts)) (tail dims) (tail limits) row w v words k
  range_arm parts a b c e inside lim counts small below row w v words r f g h = go dims limits parts a b c e inside lim counts small below row w v words r f g h
    where
      go : (dims limits : List ℕ) (parts : List Part) → 1 ≤ length parts → 1 ≤ length dims → 1 ≤ length limits → (get_or parts 0 x).ranged ≡ true → are_parts_inside dims (plain_parts parts) ≡ true → Limited (plain_parts parts) limits → All IsCount dims → word_count dims < 2 ^ 32
          → k < word_count (lengths (plain_parts parts)) → (row w v words : ℕ) → row ≡ natural (get_or parts 0 x).from → w ≡ word_count (tail dims) → v ≡ word_count (tail limits) → words ≡ word_count (lengths (plain_parts (tail parts)))
          → RangeArm (plain_parts parts) dims limits (plain_parts (tail parts)) (tail dims) (tail limits) row w v words k
      go dims limits [] a b c e inside lim counts small below row w v words r f g h = absurd (omega arith)
      go [] limits (p ∷ ps) a b c e inside lim counts small below row w v words r f g h = absurd (omega arith)
      go (d ∷ ds) [] (p ∷ ps) a b c e inside lim counts small below row w v words r f g h = absurd (omega arith)
      go (d ∷ ds) (l ∷ ls) (p ∷ ps) a b c e inside lim counts small below row w v words r f g h =
          let shown = of_range p.ranged p.from p.until (plain_parts ps) e in
          let base = range_explicit p.from p.until (plain_parts ps) d ds l ls k
          (subst (λ qs. are_parts_inside (d ∷ ds) qs ≡ true) shown inside) (subst (λ qs. Limited qs (l ∷ ls)) shown lim) counts small (subst (λ qs. k < word_count (lengths qs)) shown below) in
          let one = subst (λ qs. RangeArm qs (d ∷ ds) (l ∷ ls) (plain_parts ps) ds ls (natural p.from) (word_count ds) (word_count ls) (word_count (lengths (plain_parts ps))) k) (sym shown) base in
          let whole = plain_parts (p ∷ ps) in
          let two = subst (λ qs. RangeArm whole (d ∷ ds) (l ∷ ls) (plain_parts qs) ds ls (natural p.from) (word_count ds) (word_count ls) (word_count (lengths (plain_parts qs))) k) (sym (tail-cons p ps)) one in
          let rest = plain_parts (tail (p ∷ ps)) in
          let three = subst (λ ys. RangeArm whole (d ∷ ds) (l ∷ ls) rest ys ls (natural p.from) (word_count ys) (word_count ls) (word_count (lengths rest)) k) (sym (tail-cons d ds)) two in
          let others = tail (d ∷ ds) in
          let four = subst (λ ys. RangeArm whole (d ∷ ds) (l ∷ ls) rest others ys (natural p.from) (word_count others) (word_count ys) (word_count (lengths rest)) k) (sym (tail-cons l ls)) three in
          let fewer = tail (l ∷ ls) in
          let five = subst (λ n. RangeArm whole (d ∷ ds) (l ∷ ls) rest others fewer n (word_count others) (word_count fewer) (word_count (lengths rest)) k) (sym r) four in
          let six = subst (λ n. RangeArm whole (d ∷ ds) (l ∷ ls) rest others fewer row n (word_count fewer) (word_count (lengths rest)) k) (sym f) five in
          let seven = subst (λ n. RangeArm whole (d ∷ ds) (l ∷ ls) rest others fewer row w n (word_count (lengths rest)) k) (sym g) six in
          subst (λ n. RangeArm whole (d ∷ ds) (l ∷ ls) rest others fewer row w v n k) (sym h) seven

  pub index_arm : (parts : List Part) → 1 ≤ length parts → 1 ≤ length dims → (get_or parts 0 x).ranged ≡ false → are_parts_inside dims (plain_parts parts) ≡ true → Limited (plain_parts parts) limits → All IsCount dims → word_count dims < 2 ^ 32
      → k < word_count (lengths (plain_parts parts)) → (row w : ℕ) → row ≡ natural (get_or parts 0 x).from → w ≡ word_count (tail dims)
      → IndexArm (plain_parts parts) dims limits (plain_parts (tail parts)) (tail dims) row w k
  index_arm parts a b e inside lim counts small below row w r f = go dims parts a b e inside lim counts small below row w r f
    where
      go : (dims : List ℕ) (parts : List Part) → 1 ≤ length parts → 1 ≤ length dims → (get_or parts 0 x).ranged ≡ false → are_parts_inside dims (plain_parts parts) ≡ true → Limited (plain_parts parts) limits → All IsCount dims → word_count dims < 2 ^ 32
          → k < word_count (lengths (plain_parts parts)) → (row w : ℕ) → row ≡ natural (get_or parts 0 x).from → w ≡ word_count (tail dims)
          → IndexArm (plain_parts parts) dims limits (plain_parts (tail parts)) (tail dims) row w k
      go dims [] a b e inside lim counts small below row w r f = absurd (omega arith)
      go [] (p ∷ ps) a b e inside lim counts small below row w r f = absurd (omega arith)
      go (d ∷ ds) (p ∷ ps) a b e inside lim counts small below row w r f =
          let shown = of_index p.ranged p.from p.until (plain_parts ps) e in
          let base = index_explicit p.from (plain_parts ps) d ds limits k
          (subst (λ qs. are_parts_inside (d ∷ ds) qs ≡ true) shown inside) (subst (λ qs. Limited qs limits) shown lim) counts small (subst (λ qs. k < word_count (lengths qs)) shown below) in
          let one = subst (λ qs. IndexArm qs (d ∷ ds) limits (plain_parts ps) ds (natural p.from) (word_count ds) k) (sym shown) base in
          let whole = plain_parts (p ∷ ps) in
          let two = subst (λ qs. IndexArm whole (d ∷ ds) limits (plain_parts qs) ds (natural p.from) (word_count ds) k) (sym (tail-cons p ps)) one in
          let rest = plain_parts (tail (p ∷ ps)) in
          let three = subst (λ ys. IndexArm whole (d ∷ ds) limits rest ys (natural p.from) (word_count ys) k) (sym (tail-cons d ds)) two in
          let others = tail (d ∷ ds) in
          let four = subst (λ n. IndexArm whole (d ∷ ds) limits rest others n (word_count others) k) (sym r) three in
          subst (λ n. IndexArm whole (d ∷ ds) limits rest others row n k) (sym f) four
