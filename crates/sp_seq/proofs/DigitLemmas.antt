-- The tuples of words that are left of a loop.
use Rattle.std.proofs.Common.{◌≡◌, ℕ, zero, suc, ◌+◌, ◌-◌, ◌%◌, ◌^◌, ◌<◌, ◌≤◌, ◌⊎◌, inl, inr, ⊎_elim, Bool, true, false, cond, List, [], ◌∷◌, ◌++◌, map, length, get_or, set, take, drop, refl, sym, ◌∙◌, ap, ap₂, subst, arith, All, pos, mod-eq_of_lt}
use Rattle.std.specs.Prelude.{negsuc, ◌+ℤ◌, ◌&&◌, nat_lt, flat_map}
use Rattle.std.proofs.lemmas.Bool.{ltb-true, lt-ltb, le-ltb, cases_lt}
use Rattle.std.proofs.lemmas.List.{drop_more, drop_all, drop-set, take-set, take-take, take-append-drop, get_or-map, get_or-take, length-map, length-set}
use Rattle.std.proofs.lemmas.List.Elements.{All-set}
use native.Mathlib.Nat.{mod-eq-sub-mod}
use Rattle.sp_words.specs.Types.{int_type}
use Rattle.sp_words.specs.Words.{wrap}
use Rattle.sp_words.specs.WholeNumbers.{modulo}
use Rattle.sp_tree.specs.Elements.{index_value, numbers_below, tuples}
use Rattle.sp_seq.specs.declared.digit.Digit.{Digit}
use Rattle.sp_seq.specs.Looping.{word_at, values, current, tuples_left, left_if, have_words, IsStart, IsDigit}
use Rattle.sp_seq.proofs.LoopLemmas.{length-numbers, number_at}
use Rattle.sp_seq.proofs.PlaceLemmas.{index_small, index_negative}

length-values : (d : Digit) → length (values d) ≡ d.count
length-values d = length-map (numbers_below d.count) (word_at d) ∙ length-numbers d.count

value_more : (d : Digit) (k : ℕ) → k < d.count → drop k (values d) ≡ word_at d k ∷ drop (k + 1) (values d)
value_more d k l =
    drop_more (values d) k 0 (omega (arith, length-values d))
    ∙ ap (λ w. w ∷ drop (k + 1) (values d)) (get_or-map (word_at d) (numbers_below d.count) k 0 0 (omega (arith, length-numbers d.count)) ∙ ap (word_at d) (number_at d.count k 0 l))

and_first : (a b : Bool) → (a && b) ≡ true → a ≡ true
and_first true b e = refl
and_first false b e = absurd (cc)

and_second : (a b : Bool) → (a && b) ≡ true → b ≡ true
and_second true b e = e
and_second false b e = absurd (cc)

-- a counter at its first word has all left
pub first_left : (d : Digit) (ds : List Digit) → d.at ≡ 0 → 0 < d.count → tuples_left ds ≡ tuples (map values ds) → tuples_left (d ∷ ds) ≡ tuples (map values (d ∷ ds))
first_left d ds e l rest =
    let f : ℕ → List (List ℕ) = λ w. map (λ ws. w ∷ ws) (tuples (map values ds)) in
    ap₂ (λ k ts. map (λ ws. word_at d k ∷ ws) ts ++ flat_map f (drop (k + 1) (values d))) e rest
    ∙ ap (flat_map f) (sym (value_more d 0 l))

pub all_left : (ds : List Digit) → All IsStart ds → have_words ds ≡ true → tuples_left ds ≡ tuples (map values ds)
all_left [] h e = refl
all_left (d ∷ ds) h e =
    let first : nat_lt 0 d.count ≡ true = and_first _ _ e in
    first_left d ds (h 0 d (omega arith)).first (ltb-true 0 d.count first) (all_left ds (λ k x l. h (suc k) x (omega arith)) (and_second _ _ e))

none_each : (xs : List ℕ) (L : List (List ℕ)) → L ≡ [] → flat_map (λ w. map (λ ws. w ∷ ws) L) xs ≡ []
none_each xs L e = ap (λ ts. flat_map (λ w. map (λ ws. w ∷ ws) ts) xs) e ∙ go xs
  where
    go : (xs : List ℕ) → flat_map (λ w. map (λ ws. w ∷ ws) []) xs ≡ []
    go [] = refl
    go (x ∷ xs) = go xs

no : true ≡ false → ⊥
no e = cc

pub none_left : (ds : List Digit) → have_words ds ≡ false → tuples (map values ds) ≡ []
none_left [] e = absurd (no e)
none_left (d ∷ ds) e = ⊎_elim (λ (n : nat_lt 0 d.count ≡ false). empty d.count n) (λ r. none_each (values d) (tuples (map values ds)) (none_left ds r)) (either (nat_lt 0 d.count) (have_words ds) e)
  where
    f : ℕ → List (List ℕ)
    f w = map (λ ws. w ∷ ws) (tuples (map values ds))

    empty : (n : ℕ) → nat_lt 0 n ≡ false → flat_map f (map (word_at d) (numbers_below n)) ≡ []
    empty zero e = refl
    empty (suc n) e = absurd (no (sym (lt-ltb 0 (suc n) (omega arith)) ∙ e))

    either : (a b : Bool) → (a && b) ≡ false → (a ≡ false) ⊎ (b ≡ false)
    either true b e = inr e
    either false b e = inl refl

pub left_at_start : (ds : List Digit) → All IsStart ds → (b : Bool) → b ≡ have_words ds → left_if b ds ≡ tuples (map values ds)
left_at_start ds h true e = all_left ds h (sym e)
left_at_start ds h false e = sym (none_left ds (sym e))

pub starts_inside : (ds : List Digit) → All IsStart ds → have_words ds ≡ true → All IsDigit ds
starts_inside [] h e k x l = absurd (omega arith)
starts_inside (d ∷ ds) h e zero x l =
    let s = h 0 d (omega arith) in
    let some = ltb-true 0 d.count (and_first (nat_lt 0 d.count) (have_words ds) e) in
    record { is_word = s.is_word; few = s.few; last = s.last; inside = omega (arith, s.first) }
starts_inside (d ∷ ds) h e (suc k) x l = starts_inside ds (λ j y m. h (suc j) y (omega arith)) (and_second (nat_lt 0 d.count) (have_words ds) e) k x (omega arith)

-- counters that stand at their last words, and the same that began anew
pub record Carried (old now : List Digit) : Type 0 where
  pub ranges : map values now ≡ map values old
  pub at_end : tuples_left old ≡ current old ∷ []
  pub again : tuples_left now ≡ tuples (map values now)

pub carried_none : Carried [] []
carried_none = record { ranges = refl; at_end = refl; again = refl }

abbrev pub anew : Digit → Digit
anew d = record { from = d.from; by = d.by; count = d.count; at = 0 }

abbrev pub stepped : Digit → Digit
stepped d = record { from = d.from; by = d.by; count = d.count; at = d.at + 1 }

pub carried_more : (d : Digit) (ds es : List Digit) → Carried ds es → 0 < d.count → d.count ≤ d.at + 1 → Carried (d ∷ ds) (anew d ∷ es)
carried_more d ds es h some last =
    let f : ℕ → List (List ℕ) = λ w. map (λ ws. w ∷ ws) (tuples (map values ds)) in
    record {
      ranges = ap (λ vs. values d ∷ vs) h.ranges;
      at_end = ap₂ (λ ts xs. map (λ ws. word_at d d.at ∷ ws) ts ++ flat_map f xs) h.at_end (drop_all (d.at + 1) (values d) (omega (arith, length-values d)));
      again = first_left (anew d) es refl some h.again;
    }

pub stepped_left : (d : Digit) (ds es : List Digit) → Carried ds es → d.at + 1 < d.count → tuples_left (d ∷ ds) ≡ current (d ∷ ds) ∷ tuples_left (stepped d ∷ es)
stepped_left d ds es h l =
    let f : List (List ℕ) → ℕ → List (List ℕ) = λ ts w. map (λ ws. w ∷ ws) ts in
    let here = current (d ∷ ds) in
    let w = word_at d (d.at + 1) in
    let others = drop (d.at + 1 + 1) (values d) in
    let ts = tuples (map values ds) in
    ap₂ (λ rest xs. map (λ ws. word_at d d.at ∷ ws) rest ++ flat_map (f ts) xs) h.at_end (value_more d (d.at + 1) l)
    ∙ ap₂ (λ xs ys. here ∷ (map (λ ws. w ∷ ws) xs ++ flat_map (f ys) others)) (sym (h.again ∙ ap tuples h.ranges)) (sym (ap tuples h.ranges))

-- the same behind counters that stay
pub stays_left : (front ds es : List Digit) → map values es ≡ map values ds → tuples_left ds ≡ current ds ∷ tuples_left es → tuples_left (front ++ ds) ≡ current (front ++ ds) ∷ tuples_left (front ++ es)
stays_left [] ds es r h = h
stays_left (d ∷ front) ds es r h =
    let f : List (List ℕ) → ℕ → List (List ℕ) = λ ts w. map (λ ws. w ∷ ws) ts in
    let others = drop (d.at + 1) (values d) in
    ap (λ rest. map (λ ws. word_at d d.at ∷ ws) rest ++ flat_map (f (tuples (map values (front ++ ds)))) others) (stays_left front ds es r h)
    ∙ ap (λ ts. (word_at d d.at ∷ current (front ++ ds)) ∷ (map (λ ws. word_at d d.at ∷ ws) (tuples_left (front ++ es)) ++ flat_map (f ts) others)) (ap tuples (sym (joined front ds es r)))
  where
    joined : (front ds es : List Digit) → map values es ≡ map values ds → map values (front ++ es) ≡ map values (front ++ ds)
    joined [] ds es r = r
    joined (d ∷ front) ds es r = ap (λ vs. values d ∷ vs) (joined front ds es r)

-- so far: the digits from k on began anew, and those before k stand
pub record AdvanceGo (old now : List Digit) (k : ℕ) : Type 0 where
  pub inside : k ≤ length old
  pub same : length now ≡ length old
  pub front : take k now ≡ take k old
  pub carried : Carried (drop k old) (drop k now)
  pub digits : All IsDigit now

pub advance_start : (ds : List Digit) → All IsDigit ds → AdvanceGo ds ds (length ds)
advance_start ds h = record {
  inside = omega arith;
  same = refl;
  front = refl;
  carried = subst (λ (es : List Digit). Carried es es) (sym (drop_all (length ds) ds (omega arith))) carried_none;
  digits = h;
}

pub advance_over : (old now : List Digit) (k : ℕ) → AdvanceGo old now k → k ≡ 0 → tuples_left old ≡ current old ∷ []
advance_over old now k h e = (subst (λ j. Carried (drop j old) (drop j now)) e h.carried).at_end

module _ (old now : List Digit) (k j : ℕ) (h : AdvanceGo old now k) (e : k ≡ j + 1) where
  split_old : (x : Digit) → old ≡ take j old ++ get_or now j x ∷ drop k old
  split_old x =
      let l : j < length old = omega (arith, h.inside) in
      let here : get_or old j x ≡ get_or now j x = sym (get_or-take k old j x (omega arith)) ∙ ap (λ (ds : List Digit). get_or ds j x) (sym h.front) ∙ get_or-take k now j x (omega arith) in
      sym (take-append-drop j old) ∙ ap (λ ds. take j old ++ ds) (drop_more old j x l ∙ ap₂ (λ (d : Digit) n. d ∷ drop n old) here (sym e))

  fronts : take j now ≡ take j old
  fronts = sym (take-take j k now (omega arith)) ∙ ap (take j) h.front ∙ take-take j k old (omega arith)

  split_set : (d : Digit) → set now j d ≡ take j old ++ d ∷ drop k now
  split_set d =
      let l : j < length now = omega (arith, h.inside, h.same) in
      sym (take-append-drop j (set now j d))
      ∙ ap₂ ◌++◌ (take-set now j d ∙ fronts) (drop-set now j d l ∙ ap (λ n. d ∷ drop n now) (sym e))

  pub advance_stepped : (x : Digit) → (get_or now j x).at + 1 < (get_or now j x).count → tuples_left old ≡ current old ∷ tuples_left (set now j (stepped (get_or now j x)))
  advance_stepped x l =
      let d = get_or now j x in
      let front = take j old in
      ap tuples_left (split_old x)
      ∙ stays_left front (d ∷ drop k old) (stepped d ∷ drop k now) (ap (λ vs. values d ∷ vs) h.carried.ranges) (stepped_left d (drop k old) (drop k now) h.carried l)
      ∙ ap₂ (λ (ds es : List Digit). current ds ∷ tuples_left es) (sym (split_old x)) (sym (split_set (stepped d)))

  set_digits : (d : Digit) → IsDigit d → All IsDigit (set now j d)
  set_digits d is = All-set IsDigit now j d is h.digits

  pub stepped_digits : (x : Digit) → (get_or now j x).at + 1 < (get_or now j x).count → All IsDigit (set now j (stepped (get_or now j x)))
  stepped_digits x l =
      let d = h.digits j x (omega (arith, h.inside, h.same)) in
      set_digits (stepped (get_or now j x)) (record { is_word = d.is_word; few = d.few; last = d.last; inside = l })

  pub advance_more : (x : Digit) → (get_or now j x).count ≤ (get_or now j x).at + 1 → AdvanceGo old (set now j (anew (get_or now j x))) j
  advance_more x last =
      let d = get_or now j x in
      let is = h.digits j x (omega (arith, h.inside, h.same)) in
      let l : j < length now = omega (arith, h.inside, h.same) in
      let m : j < length old = omega (arith, h.inside) in
      let some : 0 < d.count = omega (arith, is.inside) in
      let here : get_or old j x ≡ d = sym (get_or-take k old j x (omega arith)) ∙ ap (λ (ds : List Digit). get_or ds j x) (sym h.front) ∙ get_or-take k now j x (omega arith) in
      let olds : d ∷ drop k old ≡ drop j old = sym (drop_more old j x m ∙ ap₂ (λ (y : Digit) n. y ∷ drop n old) here (sym e)) in
      let news : anew d ∷ drop k now ≡ drop j (set now j (anew d)) = sym (drop-set now j (anew d) l ∙ ap (λ n. anew d ∷ drop n now) (sym e)) in
      record {
        inside = omega (arith, h.inside);
        same = length-set now j (anew d) ∙ h.same;
        front = take-set now j (anew d) ∙ fronts;
        carried = subst (λ ds. Carried ds (drop j (set now j (anew d)))) olds (subst (Carried (d ∷ drop k old)) news (carried_more d (drop k old) (drop k now) h.carried some last));
        digits = set_digits (anew d) (record { is_word = is.is_word; few = is.few; last = is.last; inside = some });
      }

-- a word of a counter
pub wrapped_sum : (w j : ℕ) → w < 2 ^ 32 → (w + j) % 4294967296 ≡ wrap int_type (index_value w +ℤ pos j)
unfolding wrap modulo
wrapped_sum w j l = ⊎_elim small large (cases_lt w (2 ^ 31))
  where
    small : w < 2 ^ 31 → (w + j) % 4294967296 ≡ modulo (index_value w +ℤ pos j) 4294967296
    small s = sym (ap (λ z. modulo (z +ℤ pos j) 4294967296) (index_small w s))

    negative : (a : ℕ) → a ≡ 4294967296 - suc w → (w + j) % 4294967296 ≡ modulo (negsuc a +ℤ pos j) 4294967296
    negative a e = ⊎_elim
        (λ b.
        let whole : (w + j) % 4294967296 ≡ w + j = mod-eq_of_lt (omega arith) in
        let below : (suc a - suc j) % 4294967296 ≡ suc a - suc j = mod-eq_of_lt (omega arith) in
        whole ∙ omega arith ∙ ap (λ n. 4294967296 - 1 - n) (sym below) ∙ sym (ap (λ t. modulo (cond t (negsuc (suc a - suc j)) (pos (j - suc a))) 4294967296) (lt-ltb j (suc a) b)))
        (λ b.
        let past : (w + j) % 4294967296 ≡ (w + j - 4294967296) % 4294967296 = mod-eq-sub-mod (omega arith) in
        let same : w + j - 4294967296 ≡ j - suc a = omega arith in
        past ∙ ap (λ n. n % 4294967296) same ∙ sym (ap (λ t. modulo (cond t (negsuc (suc a - suc j)) (pos (j - suc a))) 4294967296) (le-ltb j (suc a) b)))
        (cases_lt j (suc a))

    large : 2 ^ 31 ≤ w → (w + j) % 4294967296 ≡ modulo (index_value w +ℤ pos j) 4294967296
    large s = negative (4294967296 - suc w) refl ∙ sym (ap (λ z. modulo (z +ℤ pos j) 4294967296) (index_negative w s l ∙ ap (λ t. cond t (negsuc (4294967296 - suc w)) (pos (w - 4294967296))) (lt-ltb w 4294967296 l)))
