-- The elements of a memory in the order of their loops: their places are the numbers below their count, and the last one alone is
-- told so.
use Rattle.std.proofs.Common.{◌≡◌, ℕ, zero, suc, ◌+◌, ◌-◌, ◌*◌, ◌<◌, ◌≤◌, ◌==◌, Bool, true, false, ◌||◌, List, [], ◌∷◌, ◌++◌, map, refl, sym, ◌∙◌, ap, subst, arith}
use Rattle.std.proofs.Math.Nat.{suc-mul}
use Rattle.std.proofs.lemmas.Bool.{eq-eqb, ne_eqb}
use Rattle.std.specs.Prelude.{flat_map}
use Rattle.std.specs.List.{All}
use Rattle.std.proofs.lemmas.List.Elements.{All-head, All-tail}
use Rattle.sp_words.specs.Interface.{IsCount, word_count}
use Rattle.sp_core.specs.Declarations.{is_among}
use Rattle.sp_core.specs.Elements.{row_major, numbers_below, tuples}
use Rattle.sp_core.specs.Operators.{bit}
use Rattle.sp_words.specs.Words.{word_and}
use Rattle.sp_words.specs.declared.types.Ty.TheVariants.{Bit}
use Rattle.sp_lane_groups.specs.Groups.{lanes_from}
use Rattle.sp_lane_trees.specs.ElementsCells.{ArePlacesApart}
use Rattle.sp_lane_trees.proofs.ElementsStores.{Element, OnlyLast}

-- numbers below a bound, from the first one on
from_end : (l k : ℕ) → lanes_from l (suc k) ≡ lanes_from l k ++ (l + k) ∷ []
from_end l zero = ap (λ n. n ∷ []) (plus l)
  where
    plus : (l : ℕ) → l ≡ l + 0
    plus l = omega arith
from_end l (suc k) = ap (λ xs. l ∷ xs) (from_end (suc l) k) ∙ ap (λ n. l ∷ (lanes_from (suc l) k ++ n ∷ [])) (next l k)
  where
    next : (l k : ℕ) → suc l + k ≡ l + suc k
    next l k = omega arith

pub below_from : (n : ℕ) → numbers_below n ≡ lanes_from 0 n
below_from zero = refl
below_from (suc n) = ap (λ xs. xs ++ n ∷ []) (below_from n) ∙ ap (λ k. lanes_from 0 n ++ k ∷ []) (none n) ∙ sym (from_end 0 n)
  where
    none : (n : ℕ) → n ≡ 0 + n
    none n = omega arith

-- maps
map_both : {A B : Type 0} (f : A → B) (xs ys : List A) → map f (xs ++ ys) ≡ map f xs ++ map f ys
map_both f [] ys = refl
map_both f (x ∷ xs) ys = ap (λ l. f x ∷ l) (map_both f xs ys)

map_map : {A B C : Type 0} (g : B → C) (f : A → B) (xs : List A) → map g (map f xs) ≡ map (λ x. g (f x)) xs
map_map g f [] = refl
map_map g f (x ∷ xs) = ap (λ l. g (f x) ∷ l) (map_map g f xs)

pub map_alike : {A B : Type 0} (f g : A → B) → ((x : A) → f x ≡ g x) → (xs : List A) → map f xs ≡ map g xs
map_alike f g h [] = refl
map_alike f g h (x ∷ xs) = ap (λ y. y ∷ map f xs) (h x) ∙ ap (λ l. g x ∷ l) (map_alike f g h xs)

flat_alike : {A B : Type 0} (f g : A → List B) → ((x : A) → f x ≡ g x) → (xs : List A) → flat_map f xs ≡ flat_map g xs
flat_alike f g h [] = refl
flat_alike f g h (x ∷ xs) = ap (λ y. y ++ flat_map f xs) (h x) ∙ ap (λ l. g x ++ l) (flat_alike f g h xs)

map_flat : {A B C : Type 0} (g : B → C) (f : A → List B) (xs : List A) → map g (flat_map f xs) ≡ flat_map (λ x. map g (f x)) xs
map_flat g f [] = refl
map_flat g f (x ∷ xs) = map_both g (f x) (flat_map f xs) ∙ ap (λ l. map g (f x) ++ l) (map_flat g f xs)

flat_map_of : {A B C : Type 0} (g : B → List C) (f : A → B) (xs : List A) → flat_map g (map f xs) ≡ flat_map (λ x. g (f x)) xs
flat_map_of g f [] = refl
flat_map_of g f (x ∷ xs) = ap (λ l. g (f x) ++ l) (flat_map_of g f xs)

-- tuples of values that are mapped
pub tuples_mapped : {A B : Type 0} (f : A → B) (lists : List (List A)) → tuples (map (map f) lists) ≡ map (map f) (tuples lists)
tuples_mapped f [] = refl
tuples_mapped f (xs ∷ lists) =
    flat_map_of (λ y. map (λ others. y ∷ others) (tuples (map (map f) lists))) f xs
    ∙ flat_alike (λ x. map (λ others. f x ∷ others) (tuples (map (map f) lists))) (λ x. map (map f) (map (λ others. x ∷ others) (tuples lists)))
    (λ x. ap (map (λ others. f x ∷ others)) (tuples_mapped f lists) ∙ map_map (λ others. f x ∷ others) (map f) (tuples lists) ∙ sym (map_map (map f) (λ others. x ∷ others) (tuples lists))) xs
    ∙ sym (map_flat (map f) (λ x. map (λ others. x ∷ others) (tuples lists)) xs)

-- the indices of all elements
abbrev pub all_indices : (dims : List ℕ) → List (List ℕ)
all_indices dims = tuples (map numbers_below dims)

-- rows one after the other
shifted : (k l n : ℕ) → map (λ r. k + r) (lanes_from l n) ≡ lanes_from (k + l) n
shifted k l zero = refl
shifted k l (suc n) = ap (λ xs. (k + l) ∷ xs) (shifted k (suc l) n ∙ ap (λ x. lanes_from x n) (next k l))
  where
    next : (k l : ℕ) → k + suc l ≡ suc (k + l)
    next k l = omega arith

from_both : (a n m : ℕ) → lanes_from a (n + m) ≡ lanes_from a n ++ lanes_from (a + n) m
from_both a zero m = ap (λ k. lanes_from a k) {x = 0 + m} {y = m} (omega arith) ∙ ap (λ k. lanes_from k m) {x = a} {y = a + 0} (omega arith)
from_both a (suc n) m =
    ap (λ k. lanes_from a k) {x = suc n + m} {y = suc (n + m)} (omega arith) ∙ ap (λ l. a ∷ l) (from_both (suc a) n m) ∙ ap (λ k. a ∷ (lanes_from (suc a) n ++ lanes_from k m)) {x = suc a + n} {y = a + suc n} (omega arith)

rows : (w a n : ℕ) → flat_map (λ x. map (λ r. x * w + r) (lanes_from 0 w)) (lanes_from a n) ≡ lanes_from (a * w) (n * w)
rows w a zero = ap (λ k. lanes_from (a * w) k) {x = 0} {y = 0 * w} (omega arith)
rows w a (suc n) =
    ap (λ l. l ++ flat_map (λ x. map (λ r. x * w + r) (lanes_from 0 w)) (lanes_from (suc a) n)) (shifted (a * w) 0 w ∙ ap (λ k. lanes_from k w) {x = a * w + 0} {y = a * w} (omega arith))
    ∙ ap (λ l. lanes_from (a * w) w ++ l) (rows w (suc a) n ∙ ap (λ k. lanes_from k (n * w)) (next a w))
    ∙ sym (from_both (a * w) w (n * w)) ∙ ap (λ k. lanes_from (a * w) k) (sum n w)
  where
    next : (a w : ℕ) → suc a * w ≡ a * w + w
    next a w = suc-mul a w

    sum : (n w : ℕ) → w + n * w ≡ suc n * w
    sum n w = let e = suc-mul n w in omega (arith, e)

pub places_are : (dims : List ℕ) → map (row_major dims) (all_indices dims) ≡ lanes_from 0 (word_count dims)
places_are [] = refl
places_are (d ∷ dims) =
    map_flat (row_major (d ∷ dims)) (λ x. map (λ others. x ∷ others) (all_indices dims)) (numbers_below d)
    ∙ flat_alike (λ x. map (row_major (d ∷ dims)) (map (λ others. x ∷ others) (all_indices dims))) (λ x. map (λ r. x * word_count dims + r) (lanes_from 0 (word_count dims)))
    (λ x. map_map (row_major (d ∷ dims)) (λ others. x ∷ others) (all_indices dims) ∙ sym (map_map (λ r. x * word_count dims + r) (row_major dims) (all_indices dims)) ∙ ap (map (λ r. x * word_count dims + r)) (places_are dims)) (numbers_below d)
    ∙ ap (flat_map (λ x. map (λ r. x * word_count dims + r) (lanes_from 0 (word_count dims)))) (below_from d)
    ∙ rows (word_count dims) 0 d ∙ ap (λ k. lanes_from k (d * word_count dims)) {x = 0 * word_count dims} {y = 0} (omega arith)

-- these are apart
none_before : (k l n : ℕ) → k < l → is_among k (lanes_from l n) ≡ false
none_before k l zero lt = refl
none_before k l (suc n) lt = ap (λ b. b || is_among k (lanes_from (suc l) n)) (ne_eqb k l (less k l lt)) ∙ none_before k (suc l) n (omega (arith, lt))
  where
    less : (k l : ℕ) → k < l → k ≡ l → ⊥
    less k l lt e = omega (arith, lt, e)

pub from_apart : (l n : ℕ) → ArePlacesApart (lanes_from l n)
from_apart l zero = tt
from_apart l (suc n) = (none_before l (suc l) n (omega arith), from_apart (suc l) n)

-- which element is the last one, as a word: by the words of its indices
abbrev pub flag_of : (k d : ℕ) → ℕ
flag_of k d = bit (k == d - 1)

abbrev pub flag_from : (so_far : ℕ) → (ws dims : List ℕ) → ℕ
flag_from b (w ∷ ws) (d ∷ dims) = flag_from (word_and Bit b (flag_of w d)) ws dims
flag_from b ws dims = b

abbrev pub last_flag : (ws dims : List ℕ) → ℕ
last_flag (w ∷ ws) (d ∷ dims) = flag_from (flag_of w d) ws dims
last_flag ws dims = 1

abbrev pub element_of : (dims : List ℕ) → (ws : List ℕ) → Element
element_of dims ws = record { ws = ws; last = last_flag ws dims }

none_and : (b : Bool) → word_and Bit 0 (bit b) ≡ 0
unfolding word_and
none_and true = refl
none_and false = refl

one_and : (b : Bool) → word_and Bit 1 (bit b) ≡ bit b
unfolding word_and
one_and true = refl
one_and false = refl

flag_is : (ws dims : List ℕ) → last_flag ws dims ≡ flag_from 1 ws dims
flag_is [] dims = refl
flag_is (w ∷ ws) [] = refl
flag_is (w ∷ ws) (d ∷ dims) = ap (λ b. flag_from b ws dims) (sym (one_and (w == d - 1)))

never : (ws dims : List ℕ) → flag_from 0 ws dims ≡ 0
never [] dims = refl
never (w ∷ ws) [] = refl
never (w ∷ ws) (d ∷ dims) = ap (λ b. flag_from b ws dims) (none_and (w == d - 1)) ∙ never ws dims

-- words of which only the last one isn't 0
abbrev OnlyEnd : List ℕ → Type 0
OnlyEnd [] = ⊥
OnlyEnd (f ∷ []) = (f == 0) ≡ false
OnlyEnd (f ∷ g ∷ fs) = ((f == 0) ≡ true) × OnlyEnd (g ∷ fs)

only_of : (es : List Element) → OnlyEnd (map (λ (e : Element). e.last) es) → OnlyLast es
only_of [] h = h
only_of (e ∷ []) h = h
only_of (e ∷ f ∷ es) h = (h.0, only_of (f ∷ es) h.1)

one_before : (z : ℕ) (tail : List ℕ) → z ≡ 0 → OnlyEnd tail → OnlyEnd (z ∷ tail)
one_before z [] e h = absurd h
one_before z (g ∷ gs) e h = (ap (λ k. k == 0) e, h)

none_before_end : {A : Type 0} (f : A → ℕ) → ((x : A) → f x ≡ 0) → (xs : List A) (rest : List ℕ) → OnlyEnd rest → OnlyEnd (map f xs ++ rest)
none_before_end f e [] rest h = h
none_before_end f e (x ∷ xs) rest h = one_before (f x) (map f xs ++ rest) (e x) (none_before_end f e xs rest h)

module _ (d : ℕ) (dims : List ℕ) (inner : OnlyEnd (map (λ ws. flag_from 1 ws dims) (all_indices dims))) where
  abbrev block : ℕ → List ℕ
  block x = map (λ ws. flag_from (word_and Bit 1 (flag_of x d)) ws dims) (all_indices dims)

  block_at : (x : ℕ) (b : Bool) → (x == d - 1) ≡ b → block x ≡ map (λ ws. flag_from (bit b) ws dims) (all_indices dims)
  block_at x b e = ap (λ c. map (λ ws. flag_from c ws dims) (all_indices dims)) (one_and (x == d - 1) ∙ ap bit e)

  blocks : (a n : ℕ) → 1 ≤ n → a + n ≡ d → OnlyEnd (flat_map block (lanes_from a n))
  blocks a zero some e = absurd (omega (arith, some))
  blocks a (suc zero) some e =
      subst OnlyEnd (sym (ap (λ l. l ++ []) (block_at a true (eq-eqb a (d - 1) (omega (arith, e)))) ∙ none (map (λ ws. flag_from 1 ws dims) (all_indices dims)))) inner
    where
      none : (l : List ℕ) → l ++ [] ≡ l
      none [] = refl
      none (x ∷ l) = ap (λ k. x ∷ k) (none l)
  blocks a (suc (suc n)) some e =
      subst OnlyEnd (sym (ap (λ l. l ++ flat_map block (lanes_from (suc a) (suc n))) (block_at a false (ne_eqb a (d - 1) (early a n e)))))
      (none_before_end (λ ws. flag_from 0 ws dims) (λ ws. never ws dims) (all_indices dims) (flat_map block (lanes_from (suc a) (suc n))) (blocks (suc a) (suc n) (omega arith) (omega (arith, e))))
    where
      early : (a n : ℕ) → a + suc (suc n) ≡ d → a ≡ d - 1 → ⊥
      early a n e f = omega (arith, e, f)

  all_blocks : 1 ≤ d → OnlyEnd (map (λ ws. flag_from 1 ws (d ∷ dims)) (all_indices (d ∷ dims)))
  all_blocks some =
      subst OnlyEnd (sym (map_flat (λ ws. flag_from 1 ws (d ∷ dims)) (λ x. map (λ others. x ∷ others) (all_indices dims)) (numbers_below d)
      ∙ flat_alike (λ x. map (λ ws. flag_from 1 ws (d ∷ dims)) (map (λ others. x ∷ others) (all_indices dims))) block (λ x. map_map (λ ws. flag_from 1 ws (d ∷ dims)) (λ others. x ∷ others) (all_indices dims)) (numbers_below d)
      ∙ ap (flat_map block) (below_from d))) (blocks 0 d some (omega arith))

flags_end : (dims : List ℕ) → All IsCount dims → OnlyEnd (map (λ ws. flag_from 1 ws dims) (all_indices dims))
flags_end [] h = refl
flags_end (d ∷ dims) h = all_blocks d dims (flags_end dims (All-tail IsCount d dims h)) (All-head IsCount d dims h).0

pub only_last : (dims : List ℕ) → All IsCount dims → OnlyLast (map (element_of dims) (all_indices dims))
only_last dims h =
    only_of (map (element_of dims) (all_indices dims))
    (subst OnlyEnd (map_alike (λ ws. flag_from 1 ws dims) (λ ws. last_flag ws dims) (λ ws. sym (flag_is ws dims)) (all_indices dims) ∙ sym (map_map (λ (e : Element). e.last) (element_of dims) (all_indices dims))) (flags_end dims h))
