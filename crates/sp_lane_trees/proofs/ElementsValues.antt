-- The counters of elements: their bounds, their values in each group, and the words that these are.
use Rattle.std.proofs.Common.{◌≡◌, ◌⊎◌, inl, inr, ℕ, zero, suc, ◌+◌, ◌-◌, ◌*◌, ◌/◌, ◌^◌, ◌<◌, ◌≤◌, Bool, true, false, ℤ, List, [], ◌∷◌, ◌++◌, length, map, refl, sym, ◌∙◌, ap, subst, arith}
use Rattle.std.proofs.Math.Nat.{mod-eq_of_lt}
use Rattle.std.proofs.lemmas.Bool.{eq-eqb, ne_eqb}
use Rattle.std.proofs.lemmas.Bool.Decides.{eqb_tells}
use Rattle.std.proofs.lemmas.Int.{ints}
use Rattle.std.proofs.lemmas.List.Elements.{All-head, All-tail}
use Rattle.std.specs.List.{All}
use Rattle.std.specs.Prelude.{flat_map, pos, ◌+ℤ◌, ◌-ℤ◌, nat_le, if◌then◌else◌}
use Rattle.sp_words.specs.Interface.{IsCount, word_count}
use Rattle.sp_words.specs.Types.{int_type}
use Rattle.sp_words.specs.WholeNumbers.{modulo}
use Rattle.sp_words.specs.Words.{value_of, has_sign, wrap, word_eq, word_and}
use Rattle.sp_core.specs.Declarations.{dims}
use Rattle.sp_core.specs.Elements.{index_value, natural, row_major, count_below, numbers_below, values_below, tuples}
use Rattle.sp_core.specs.History.{gave, Bounds}
use Rattle.sp_core.specs.Operations.{operations_after}
use Rattle.sp_core.specs.PlainCore.{PlainCore}
use Rattle.sp_core.specs.Scope.{Reading, plainly, in_lanes, Loop, loops_of, group_values, is_live, InGroup, Scope, lane_step, with_counters, in_group, count_word}
use Rattle.sp_core.specs.Sequential.{bounds}
use Rattle.sp_core.specs.Step.{Went, went, stopped, more, pure, ◌>>=◌, in_order}
use Rattle.sp_core.specs.Store.{Store, changed}
use Rattle.sp_sugar.specs.Combination.{element_counters}
use Rattle.sp_sugar.specs.Operations.{literal_op}
use Rattle.sp_lanes.specs.Within.{Within, counters_in}
use Rattle.sp_lane_trees.specs.ElementsCells.{ArePlacesApart}
use Rattle.sp_lane_trees.proofs.ElementsAccesses.{indices}
use Rattle.sp_lane_trees.proofs.ElementsRuns.{count_words, last_from, is_last}
use Rattle.sp_lane_trees.proofs.ElementsStores.{Element, OnlyLast, places_of}
use Rattle.sp_lane_trees.proofs.ElementsTuples.{tuples_mapped, all_indices, places_are, from_apart, flag_of, flag_from, last_flag, element_of, only_last}

-- what the bounds give, and the loops that they make
abbrev pub element_bounds : (dims : List ℕ) → List Bounds
element_bounds [] = []
element_bounds (d ∷ dims) = record { from = gave 0 ∷ []; until = gave d ∷ [] } ∷ element_bounds dims

abbrev pub element_loops : (c : ℕ) → (dims : List ℕ) → List Loop
element_loops c [] = []
element_loops c (d ∷ dims) = record { number = c; from = index_value 0; until = index_value d; by = 1; advance = 1 } ∷ element_loops (suc c) dims

-- the values in each group
abbrev pub element_values : (dims : List ℕ) → List (List ℤ)
element_values dims = tuples (map (λ d. values_below (index_value 0) (index_value d) 1) dims)

pub bounds_run : (core : PlainCore) (reading : Reading) (turns : ℕ) (scope : Scope) (c : ℕ) (dims : List ℕ) (s : Store) → in_order (bounds core reading turns scope) (element_counters c dims) s ≡ went (element_bounds dims) s
unfolding in_order operations_after pure ◌>>=◌
bounds_run core reading turns scope c [] s = refl
bounds_run core reading turns scope c (d ∷ dims) s =
    ap (λ r. elim r as (λ _. Went (List Bounds)) [ went a u ↦ went (record { from = gave 0 ∷ []; until = gave d ∷ [] } ∷ a) u | stopped ↦ stopped | more ↦ more ]) (bounds_run core reading turns scope (suc c) dims s)

pub loops_plainly : (c : ℕ) (dims : List ℕ) → loops_of plainly (element_counters c dims) (element_bounds dims) ≡ element_loops c dims
loops_plainly c [] = refl
loops_plainly c (d ∷ dims) = ap (λ ls. record { number = c; from = index_value 0; until = index_value d; by = 1; advance = 1 } ∷ ls) (loops_plainly (suc c) dims)

pub loops_in_lanes : (c : ℕ) (dims : List ℕ) → loops_of in_lanes (element_counters c dims) (element_bounds dims) ≡ element_loops c dims
loops_in_lanes c [] = refl
loops_in_lanes c (d ∷ dims) = ap (λ ls. record { number = c; from = index_value 0; until = index_value d; by = 1; advance = 1 } ∷ ls) (loops_in_lanes (suc c) dims)

pub counters_same : (w : Within) (c : ℕ) (dims : List ℕ) → counters_in w (element_counters c dims) ≡ element_counters c dims
counters_same w c [] = refl
counters_same w c (d ∷ dims) = ap (λ cs. record { number = c; from = literal_op int_type 0 ∷ []; until = literal_op int_type d ∷ []; by = 1; par = 1 } ∷ cs) (counters_same w (suc c) dims)

pub groups_same : (c : ℕ) (dims : List ℕ) → group_values (element_loops c dims) ≡ element_values dims
groups_same c dims = ap tuples (go c dims)
  where
    go : (c : ℕ) (dims : List ℕ) → map (λ (l : Loop). values_below l.from l.until l.advance) (element_loops c dims) ≡ map (λ d. values_below (index_value 0) (index_value d) 1) dims
    go c [] = refl
    go c (d ∷ dims) = ap (λ ls. values_below (index_value 0) (index_value d) 1 ∷ ls) (go (suc c) dims)

-- small numbers are words of themselves
small_value : (w : ℕ) → w < 2 ^ 31 → value_of int_type w ≡ pos w
unfolding value_of has_sign
small_value w h = ap (λ b. if b then pos w -ℤ pos (2 ^ 32) else pos w) (not_reached w h)
  where
    not_reached : (w : ℕ) → w < 2 ^ 31 → nat_le (2 ^ 31) w ≡ false
    not_reached w h = grind arith

small_word : (w : ℕ) → w < 2 ^ 32 → wrap int_type (pos w) ≡ w
unfolding wrap modulo
small_word w h = mod-eq_of_lt h

all_below : (f : ℕ → ℕ) (d n : ℕ) → d ≤ n → ((k : ℕ) → k < n → f k ≡ k) → map f (numbers_below d) ≡ numbers_below d
all_below f zero n le h = refl
all_below f (suc d) n le h = joined (numbers_below d) ∙ ap (λ l. l ++ f d ∷ []) (all_below f d n (omega arith) h) ∙ ap (λ k. numbers_below d ++ k ∷ []) (h d (omega arith))
  where
    joined : (xs : List ℕ) → map f (xs ++ d ∷ []) ≡ map f xs ++ f d ∷ []
    joined [] = refl
    joined (x ∷ xs) = ap (λ l. f x ∷ l) (joined xs)

map_twice : {A B C : Type 0} (g : B → C) (f : A → B) (xs : List A) → map g (map f xs) ≡ map (λ x. g (f x)) xs
map_twice g f [] = refl
map_twice g f (x ∷ xs) = ap (λ l. g (f x) ∷ l) (map_twice g f xs)

-- the word of a counter's value
abbrev pub value_word : ℤ → ℕ
value_word v = wrap int_type (v +ℤ pos 0)

one_dimension : (d : ℕ) → d < 2 ^ 31 → map value_word (values_below (index_value 0) (index_value d) 1) ≡ numbers_below d
one_dimension d lt =
    ap (λ z. map value_word (values_below z (index_value d) 1)) (small_value 0 (omega arith))
    ∙ ap (λ z. map value_word (values_below (pos 0) z 1)) (small_value d lt)
    ∙ ap (λ n. map value_word (map (λ k. pos 0 +ℤ pos (k * 1)) (numbers_below n))) (counted d)
    ∙ map_twice value_word (λ k. pos 0 +ℤ pos (k * 1)) (numbers_below d)
    ∙ all_below (λ k. value_word (pos 0 +ℤ pos (k * 1))) d (2 ^ 31) (omega arith) (λ k below. ap (wrap int_type) (plain k) ∙ small_word k (omega arith))
  where
    plain : (k : ℕ) → (pos 0 +ℤ pos (k * 1)) +ℤ pos 0 ≡ pos k
    plain k = omega (arith, ints)

    difference : (d : ℕ) → pos d -ℤ pos 0 ≡ pos d
    difference d = omega (arith, ints)

    so_many : (d : ℕ) → (d + (1 - 1)) / 1 ≡ d
    so_many d = omega arith

    counted : (d : ℕ) → count_below (pos 0) (pos d) 1 ≡ d
    counted d = ap (λ z. (natural z + (1 - 1)) / 1) (difference d) ∙ so_many d

pub words_are : (dims : List ℕ) → All IsCount dims → map (map value_word) (element_values dims) ≡ all_indices dims
words_are dims h = sym (tuples_mapped value_word (map (λ d. values_below (index_value 0) (index_value d) 1) dims)) ∙ ap tuples (go dims h)
  where
    go : (ds : List ℕ) → All IsCount ds → map (map value_word) (map (λ d. values_below (index_value 0) (index_value d) 1) ds) ≡ map numbers_below ds
    go [] h = refl
    go (d ∷ ds) h = ap (λ l. l ∷ map (map value_word) (map (λ d. values_below (index_value 0) (index_value d) 1) ds)) (one_dimension d (All-head IsCount d ds h).1) ∙ ap (λ ls. numbers_below d ∷ ls) (go ds (All-tail IsCount d ds h))

indices_are : (dims : List ℕ) → All IsCount dims → map indices (all_indices dims) ≡ all_indices dims
indices_are dims h = sym (tuples_mapped (λ i. natural (index_value i)) (map numbers_below dims)) ∙ ap tuples (go dims h)
  where
    go : (ds : List ℕ) → All IsCount ds → map (map (λ i. natural (index_value i))) (map numbers_below ds) ≡ map numbers_below ds
    go [] h = refl
    go (d ∷ ds) h =
        ap (λ l. l ∷ map (map (λ i. natural (index_value i))) (map numbers_below ds)) (all_below (λ i. natural (index_value i)) d (2 ^ 31) (let e = (All-head IsCount d ds h).1 in omega (arith, e)) (λ k lt. ap natural (small_value k lt)))
        ∙ ap (λ ls. numbers_below d ∷ ls) (go ds (All-tail IsCount d ds h))

-- the element in a group
abbrev pub element_at : (dims : List ℕ) → List ℤ → Element
element_at ds v = element_of ds (map value_word v)

elements_are : (ds : List ℕ) → All IsCount ds → map (element_at ds) (element_values ds) ≡ map (element_of ds) (all_indices ds)
elements_are ds h = sym (map_twice (element_of ds) (map value_word) (element_values ds)) ∙ ap (map (element_of ds)) (words_are ds h)

pub last_alone : (ds : List ℕ) → All IsCount ds → OnlyLast (map (element_at ds) (element_values ds))
last_alone ds h = subst OnlyLast (sym (elements_are ds h)) (only_last ds h)

pub places_apart : (core : PlainCore) (acc begun : ℕ) (ds : List ℕ) → All IsCount ds → dims core acc ≡ ds → ArePlacesApart (places_of core acc begun (map (element_at ds) (element_values ds)))
places_apart core acc begun ds h e =
    subst ArePlacesApart (sym (ap (places_of core acc begun) (elements_are ds h)
    ∙ map_twice (λ (x : Element). row_major (dims core acc) (indices x.ws)) (element_of ds) (all_indices ds)
    ∙ ap (λ zs. map (λ ws. row_major zs (indices ws)) (all_indices ds)) e
    ∙ sym (map_twice (row_major ds) indices (all_indices ds)) ∙ ap (map (row_major ds)) (indices_are ds h) ∙ places_are ds)) (from_apart 0 (word_count ds))

-- counters inside of a group, and others
abbrev pub in_element : Scope → (c : ℕ) → (dims : List ℕ) → List ℤ → Scope
in_element scope c ds v = in_group scope (element_loops c ds) v

module _ (live : ℕ → Bool) where
  abbrev set_all : Scope → (c : ℕ) → (dims : List ℕ) → List ℤ → Scope
  set_all scope c ds v = with_counters scope (element_loops c ds) v live

  set_here : (scope : Scope) (c : ℕ) (x : InGroup) → changed scope c x c ≡ x
  set_here scope c x = ap (λ b. elim b as (λ _. InGroup) [ true ↦ x | false ↦ scope c ]) (eq-eqb c c refl)

  set_elsewhere : (scope : Scope) (c k : ℕ) (x : InGroup) → (k ≡ c → ⊥) → changed scope c x k ≡ scope k
  set_elsewhere scope c k x ne = ap (λ b. elim b as (λ _. InGroup) [ true ↦ x | false ↦ scope k ]) (ne_eqb k c ne)

  -- a counter is one of them, and the same by whatever stood before, or it is none
  pub record Inside (s t : Scope) (c n k : ℕ) (x y : InGroup) : Type 0 where
    pub offset : ℕ
    pub below : offset < n
    pub is : k ≡ c + offset
    pub same : x ≡ y

  pub inside_or : (s t : Scope) (c : ℕ) (ds : List ℕ) (v : List ℤ) (k : ℕ) → Inside s t c (length ds) k (set_all s c ds v k) (set_all t c ds v k) ⊎ ((set_all s c ds v k ≡ s k) × (set_all t c ds v k ≡ t k))
  inside_or s t c [] v k = inr (refl, refl)
  inside_or s t c (d ∷ ds) [] k = inr (refl, refl)
  inside_or s t c (d ∷ ds) (y ∷ v) k =
      let x : InGroup = record { value = y; lane_step = lane_step (record { number = c; from = index_value 0; until = index_value d; by = 1; advance = 1 }) (element_loops (suc c) ds); live = live } in
      elim (inside_or (changed s c x) (changed t c x) (suc c) ds v k) [
        | inl h ↦ inl (record { offset = suc h.offset; below = (let lt = h.below in omega (arith, lt)); is = (let e = h.is in omega (arith, e)); same = h.same })
        | inr h ↦ elim (eqb_tells k c) [
          | inl e ↦ inl (record {
            offset = 0;
            below = omega arith;
            is = (let i = e.1 in omega (arith, i));
            same = h.0 ∙ ap (changed s c x) e.1 ∙ set_here s c x ∙ sym (set_here t c x) ∙ ap (changed t c x) (sym e.1) ∙ sym h.1;
          })
          | inr e ↦ inr (h.0 ∙ set_elsewhere s c k x e.1, h.1 ∙ set_elsewhere t c k x e.1)
        ]
      ]

  -- what stands before the first one stays
  kept_before : (s : Scope) (c : ℕ) (ds : List ℕ) (v : List ℤ) (k : ℕ) → k < c → set_all s c ds v k ≡ s k
  kept_before s c [] v k lt = refl
  kept_before s c (d ∷ ds) [] k lt = refl
  kept_before s c (d ∷ ds) (y ∷ v) k lt =
      let x : InGroup = record { value = y; lane_step = lane_step (record { number = c; from = index_value 0; until = index_value d; by = 1; advance = 1 }) (element_loops (suc c) ds); live = live } in
      kept_before (changed s c x) (suc c) ds v k (omega (arith, lt)) ∙ set_elsewhere s c k x (less k c lt)
    where
      less : (k c : ℕ) → k < c → k ≡ c → ⊥
      less k c lt e = omega (arith, lt, e)

  step_word : (c d : ℕ) (ds : List ℕ) (y : ℤ) → count_word (record { value = y; lane_step = lane_step (record { number = c; from = index_value 0; until = index_value d; by = 1; advance = 1 }) (element_loops (suc c) ds); live = live }) 0 ≡ value_word y
  step_word c d [] y = refl
  step_word c d (e ∷ ds) y = refl

  pub words_inside : (s : Scope) (c : ℕ) (ds : List ℕ) (v : List ℤ) → length v ≡ length ds → count_words (set_all s c ds v) c (length ds) ≡ map value_word v
  words_inside s c [] [] e = refl
  words_inside s c [] (y ∷ v) e = absurd (omega (arith, e))
  words_inside s c (d ∷ ds) [] e = absurd (omega (arith, e))
  words_inside s c (d ∷ ds) (y ∷ v) e =
      let x : InGroup = record { value = y; lane_step = lane_step (record { number = c; from = index_value 0; until = index_value d; by = 1; advance = 1 }) (element_loops (suc c) ds); live = live } in
      ap (λ w. w ∷ count_words (set_all (changed s c x) (suc c) ds v) (suc c) (length ds))
      (ap (λ g. count_word g 0) (kept_before (changed s c x) (suc c) ds v c (omega arith) ∙ set_here s c x) ∙ step_word c d ds y)
      ∙ ap (λ ws. value_word y ∷ ws) (words_inside (changed s c x) (suc c) ds v (omega (arith, e)))

-- whether the element is the last one, by the words of its counters
flags_from : (s : Scope) (b c : ℕ) (ds : List ℕ) → last_from s b c ds ≡ flag_from b (count_words s c (length ds)) ds
unfolding word_eq
flags_from s b c [] = refl
flags_from s b c (d ∷ ds) = flags_from s (word_and _ b (flag_of (count_word (s c) 0) d)) (suc c) ds

pub flags_are : (s : Scope) (c : ℕ) (ds : List ℕ) → is_last s c ds ≡ last_flag (count_words s c (length ds)) ds
unfolding word_eq
flags_are s c [] = refl
flags_are s c (d ∷ ds) = flags_from s (flag_of (count_word (s c) 0) d) (suc c) ds

-- in a group, the words of the counters and whether it is the last one
pub words_at : (s : Scope) (c : ℕ) (ds : List ℕ) (v : List ℤ) → length v ≡ length ds → count_words (in_element s c ds v) c (length ds) ≡ map value_word v
words_at s c ds v e = words_inside (is_live (element_loops c ds) v) s c ds v e

pub last_at_end : (s : Scope) (c : ℕ) (ds : List ℕ) (v : List ℤ) → length v ≡ length ds → is_last (in_element s c ds v) c ds ≡ last_flag (map value_word v) ds
last_at_end s c ds v e = flags_are (in_element s c ds v) c ds ∙ ap (λ ws. last_flag ws ds) (words_at s c ds v e)

-- each group has a value for each counter
abbrev pub EachLong : (n : ℕ) → List (List ℤ) → Type 0
EachLong n [] = Unit {0}
EachLong n (v ∷ vs) = (length v ≡ n) × EachLong n vs

pub values_long : (ds : List ℕ) → EachLong (length ds) (element_values ds)
values_long [] = (refl, tt)
values_long (d ∷ ds) = rows (values_long ds) (values_below (index_value 0) (index_value d) 1)
  where
    joined : (xs ys : List (List ℤ)) → EachLong (suc (length ds)) xs → EachLong (suc (length ds)) ys → EachLong (suc (length ds)) (xs ++ ys)
    joined [] ys h k = k
    joined (x ∷ xs) ys h k = (h.0, joined xs ys h.1 k)

    row : (x : ℤ) (vs : List (List ℤ)) → EachLong (length ds) vs → EachLong (suc (length ds)) (map (λ others. x ∷ others) vs)
    row x [] h = tt
    row x (v ∷ vs) h = (ap suc h.0, row x vs h.1)

    rows : EachLong (length ds) (element_values ds) → (xs : List ℤ) → EachLong (suc (length ds)) (flat_map (λ x. map (λ others. x ∷ others) (element_values ds)) xs)
    rows h [] = tt
    rows h (x ∷ xs) = joined (map (λ others. x ∷ others) (element_values ds)) (flat_map (λ x. map (λ others. x ∷ others) (element_values ds)) xs) (row x (element_values ds) h) (rows h xs)
