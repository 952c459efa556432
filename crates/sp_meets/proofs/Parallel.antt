-- Indices with equal linear parts, of accesses with as many counters of their own: which numbers of steps are ruled out.
use Rattle.std.proofs.Common.{◌≡◌, ◌⊎◌, ℕ, zero, suc, ◌+◌, ◌-◌, ◌*◌, ◌/◌, ◌%◌, ◌<◌, ◌≤◌, ◌&&◌, inl, inr, Bool, true, false, not, ℤ, pos, neg_ℤ, ◌+ℤ◌, ◌-ℤ◌, ◌*ℤ◌, List, [], ◌∷◌, ◌++◌, length, take, drop, get_or, refl, ap, ap₂, sym, ◌∙◌, subst, arith, unsigned_abs}
use Rattle.std.specs.Prelude.{Some}
use Rattle.std.proofs.lemmas.Int.{ints, unsigned_abs-mul}
use Rattle.sp_affine.specs.Affine.{Affine}
use Rattle.sp_deps.specs.declared.access.LoopRange.{LoopRange}
use Rattle.sp_deps.specs.declared.class.Class.TheVariants.{Steps}
use Rattle.sp_deps.specs.declared.sum.Term.{Term}
use Rattle.sp_deps.specs.declared.sum.Sum.{Sum}
use Rattle.sp_deps.specs.Classes.{Loops, outside, shared, own_first, own_second, last_step, of_common, of_outside, of_own, is_ruled_out, terms_of, is_open}
use Rattle.sp_deps.specs.Sums.{plus, onto, nothing, sum_of, may_be}
use Rattle.std.proofs.lemmas.List.{take_all}
use Rattle.std.proofs.lemmas.Nat.{div-add-mod', mod_below, mul-le}
use Rattle.sp_meets.specs.declared.steps.Tries.{Tries}
use Rattle.sp_meets.specs.declared.steps.Tries.TheVariants.{Every, UpTo, Unknown}
use Rattle.sp_meets.specs.Bits.{PassesBits, NumbersPass}
use Rattle.sp_meets.specs.Reach.{reach, unbounded}
use Rattle.sp_meets.specs.Steps.{loops_of, AreTriesBy, AreTriesOf, AreTriesOfAll, IsBoth, IsJoined, IsMost}
use Rattle.sp_meets.proofs.Reach.{IsBounded, first_bounded, second_bounded, outside_bounded, shared_bounded, nothing_bounded, value_within}
use Rattle.sp_meets.proofs.Spread.{IsSpread, onto_spread, first_spread, second_spread, unbounded_some, same_on}

onto_append : (ts us : List Term) (s : Sum) → onto (ts ++ us) s ≡ onto ts (onto us s)
onto_append [] us s = refl
onto_append (t ∷ ts) us s = ap (plus t) (onto_append ts us s)

-- four parts, one onto the next
stacked : (os cs xs ys : List Term) → sum_of (os ++ (cs ++ (xs ++ ys))) ≡ onto os (onto cs (onto xs (onto ys nothing)))
stacked os cs xs ys =
    onto_append os (cs ++ (xs ++ ys)) nothing
    ∙ ap (onto os) (onto_append cs (xs ++ ys) nothing)
    ∙ ap (λ s. onto os (onto cs s)) (onto_append xs ys nothing)

none_more : (q : ℕ) → q + 0 ≡ q
none_more q = omega arith

whole_bounded : (os ps cs ds xs ys : List ℤ) (ls first second : List LoopRange) (p q : ℕ) → os ≡ ps → cs ≡ ds → reach xs first ≡ Some p → reach ys second ≡ Some q →
    IsBounded (p + q) (sum_of (outside os ps ++ (shared cs ds ls ++ (own_first xs first ++ own_second ys second))))
whole_bounded os ps cs ds xs ys ls first second p q e f g h =
    let S : ℕ → Type 0 = λ n. IsBounded n (onto (own_second ys second) nothing) in
    let last = subst S (none_more q) (second_bounded ys second nothing 0 q h nothing_bounded) in
    let own = first_bounded xs first _ q p g last in
    let C : List ℤ → Type 0 = λ z. IsBounded (p + q) (onto (shared cs z ls) (onto (own_first xs first) (onto (own_second ys second) nothing))) in
    let common = subst C f (shared_bounded cs ls _ (p + q) own) in
    let O : List ℤ → Type 0 = λ z. IsBounded (p + q) (onto (outside os z) (onto (shared cs ds ls) (onto (own_first xs first) (onto (own_second ys second) nothing)))) in
    let all = subst O e (outside_bounded os _ (p + q) common) in
    let P : Sum → Type 0 = IsBounded (p + q) in
    subst P (sym (stacked (outside os ps) (shared cs ds ls) (own_first xs first) (own_second ys second))) all

whole_spread : (p : ℕ) (os cs xs ys : List Term) → IsSpread p (onto xs (onto ys nothing)) → IsSpread p (sum_of (os ++ (cs ++ (xs ++ ys))))
whole_spread p os cs xs ys h =
    let P : Sum → Type 0 = IsSpread p in
    subst P (sym (stacked os cs xs ys)) (onto_spread p os _ (onto_spread p cs _ h))

-- the parts of equal coefficients
same_outside : (common first second : List LoopRange) (xs ys : List ℤ) → xs ≡ ys → length first ≡ length second → of_outside common first xs ≡ of_outside common second ys
same_outside common first second xs ys e f =
    ap (λ zs. of_outside common first zs) e ∙ ap (λ n. take (length ys - (length common + n)) ys) f

same_common : (common first second : List LoopRange) (xs ys : List ℤ) → xs ≡ ys → length first ≡ length second → of_common common first xs ≡ of_common common second ys
same_common common first second xs ys e f =
    ap (λ zs. of_common common first zs) e ∙ ap (λ n. take (length common) (drop (length ys - (length common + n)) ys)) f

not_true : (b : Bool) → (not b ≡ false → ⊥) → not b ≡ true
not_true true h = absurd (h refl)
not_true false h = refl

is_true : (b : Bool) → not b ≡ false → b ≡ true
is_true true h = refl
is_true false h = cc

size_of_sum : (x y : ℤ) → unsigned_abs y ≤ unsigned_abs x + unsigned_abs (neg_ℤ (x +ℤ y))
size_of_sum x y = omega (arith, ints)

module _ (loops : Loops) (f g : Affine) where
  pub past : f.coefs ≡ g.coefs → length loops.first ≡ length loops.second → (p q t : ℕ) →
      reach (of_own loops.common loops.first f.coefs) loops.first ≡ Some p → reach (of_own loops.common loops.second g.coefs) loops.second ≡ Some q →
      unsigned_abs (g.constant -ℤ f.constant) + (p + q) < unsigned_abs (last_step (of_common loops.common loops.second g.coefs) loops.common) * t → is_ruled_out loops f g (Steps t) ≡ true
  past e alike p q t h k far =
      let bounded = whole_bounded _ _ _ _ _ _ loops.common loops.first loops.second p q (same_outside loops.common loops.first loops.second f.coefs g.coefs e alike) (same_common loops.common loops.first loops.second f.coefs g.coefs e alike) h k in
      not_true _ (λ out. too_far (g.constant -ℤ f.constant) (last_step (of_common loops.common loops.second g.coefs) loops.common) far (value_within (p + q) _ _ bounded (is_true _ out)))
    where
      too_far : (c s : ℤ) → unsigned_abs c + (p + q) < unsigned_abs s * t → unsigned_abs (neg_ℤ (c +ℤ (s *ℤ pos t))) ≤ p + q → ⊥
      too_far c s far near =
          let size = unsigned_abs-mul s (pos t) in
          let sum = size_of_sum c (s *ℤ pos t) in
          below (unsigned_abs (s *ℤ pos t)) (unsigned_abs s * t) (unsigned_abs c) (p + q) _ size sum far near
        where
          below : (a b c d n : ℕ) → a ≡ b → a ≤ c + n → c + d < b → n ≤ d → ⊥
          below a b c d n e f g h = omega arith

  abbrev own_sum : Sum
  own_sum = onto (own_first (of_own loops.common loops.first f.coefs) loops.first) (onto (own_second (of_own loops.common loops.second g.coefs) loops.second) nothing)

  abbrev IsUnbounded : ℕ → Type 0
  IsUnbounded p = (unbounded (of_own loops.common loops.first f.coefs) loops.first ≡ Some p) ⊎ (unbounded (of_own loops.common loops.second g.coefs) loops.second ≡ Some p)

  own_spread : (p : ℕ) → IsUnbounded p → IsSpread p own_sum
  own_spread p (inl h) = first_spread (of_own loops.common loops.first f.coefs) loops.first (onto (own_second (of_own loops.common loops.second g.coefs) loops.second) nothing) p h
  own_spread p (inr h) =
      onto_spread p (own_first (of_own loops.common loops.first f.coefs) loops.first) (onto (own_second (of_own loops.common loops.second g.coefs) loops.second) nothing)
      (second_spread (of_own loops.common loops.second g.coefs) loops.second nothing p h)

  -- the terms are the same for each number of steps
  all_spread : (p t : ℕ) → IsUnbounded p → IsSpread p (sum_of (terms_of loops f g (Steps t)))
  all_spread p t h =
      whole_spread p (outside (of_outside loops.common loops.first f.coefs) (of_outside loops.common loops.second g.coefs))
      (shared (of_common loops.common loops.first f.coefs) (of_common loops.common loops.second g.coefs) loops.common)
      (own_first (of_own loops.common loops.first f.coefs) loops.first) (own_second (of_own loops.common loops.second g.coefs) loops.second)
      (own_spread p h)

  some_unbounded : (p : ℕ) → IsUnbounded p → 1 ≤ p
  some_unbounded p (inl h) = unbounded_some (of_own loops.common loops.first f.coefs) loops.first p h
  some_unbounded p (inr h) = unbounded_some (of_own loops.common loops.second g.coefs) loops.second p h

  pub again : (p t : ℕ) → IsUnbounded p → is_ruled_out loops f g (Steps (t + p)) ≡ is_ruled_out loops f g (Steps t)
  again p t h =
      ap not (same_on p (sum_of (terms_of loops f g (Steps t))) (g.constant -ℤ f.constant) (last_step (of_common loops.common loops.second g.coefs) loops.common) t (some_unbounded p h) (all_spread p t h))

  -- where the last counter doesn't count, each number of steps does the same
  pub still : (t u : ℕ) → unsigned_abs (last_step (of_common loops.common loops.second g.coefs) loops.common) ≡ 0 → is_ruled_out loops f g (Steps t) ≡ is_ruled_out loops f g (Steps u)
  still t u e = ap (λ z. not (may_be (sum_of (terms_of loops f g (Steps t))) (neg_ℤ ((g.constant -ℤ f.constant) +ℤ z)))) (flat _ e t u)
    where
      no_size : (s : ℤ) → unsigned_abs s ≡ 0 → s ≡ pos 0
      no_size s h = omega (arith, ints)

      flat_zero : (t u : ℕ) → pos 0 *ℤ pos t ≡ pos 0 *ℤ pos u
      flat_zero t u = omega (arith, ints)

      flat : (s : ℤ) → unsigned_abs s ≡ 0 → (t u : ℕ) → s *ℤ pos t ≡ s *ℤ pos u
      flat s h t u = ap (λ z. z *ℤ pos t) (no_size s h) ∙ flat_zero t u ∙ ap (λ z. z *ℤ pos u) (sym (no_size s h))

pub tries_are : (common first second : List LoopRange) (f g : Affine) (start : ℕ) → start ≡ unsigned_abs (g.constant -ℤ f.constant) → f.coefs ≡ g.coefs → length first ≡ length second →
    (r : Tries) → AreTriesBy common first second f.coefs g.coefs start r → AreTriesOf (loops_of common first second) f g r
tries_are common first second f g start s e alike (Every p) (inl (none, one)) = (omega (arith, one), (λ t. still (loops_of common first second) f g (t + p) t none), inl (none, one))
tries_are common first second f g start s e alike (Every p) (inr h) = (some_unbounded (loops_of common first second) f g p h, (λ t. again (loops_of common first second) f g p t h), inr h)
tries_are common first second f g start s e alike (UpTo n) (p, q, h, k, far) =
    (far.some, (λ t more. past (loops_of common first second) f g e alike p q t h k (begun _ _ (p + q) s (far.past t more))), (p, q, h, k, subst (λ z. n ≤ z + (p + q) + 1) s far.near))
  where
    begun : (a b r : ℕ) {m : ℕ} → a ≡ b → a + r < m → b + r < m
    begun a b r e h = omega arith
tries_are common first second f g start s e alike Unknown (p, q, h, k, more) = (start + (p + q) + 1, more, (p, q, h, k, subst (λ z. start + (p + q) + 1 ≤ z + (p + q) + 1) s (omega arith)))

-- of all indices
no : false ≡ true → ⊥
no e = cc

at_most_or_more : (a b : ℕ) → (a ≤ b) ⊎ (b < a)
at_most_or_more zero b = inl (omega arith)
at_most_or_more (suc a) zero = inr (omega arith)
at_most_or_more (suc a) (suc b) = next (at_most_or_more a b)
  where
    next : (a ≤ b) ⊎ (b < a) → (suc a ≤ suc b) ⊎ (suc b < suc a)
    next (inl h) = inl (omega (arith, h))
    next (inr h) = inr (omega (arith, h))

-- what is the same after p is the same after k times p
repeated : (test : ℕ → Bool) (p : ℕ) → ((t : ℕ) → test (t + p) ≡ test t) → (k t : ℕ) → test (t + k * p) ≡ test t
repeated test p h zero t = ap test (omega arith)
repeated test p h (suc k) t = ap test further ∙ h (t + k * p) ∙ repeated test p h k t
  where
    further : t + suc k * p ≡ (t + k * p) + p
    further = omega arith

module _ (loops : Loops) (f g : Affine) (fs gs : List Affine) where
  pub with_every : (p q n : ℕ) → AreTriesOf loops f g (Every p) → AreTriesOfAll loops fs gs (Every q) → n ≡ p * q → AreTriesOfAll loops (f ∷ fs) (g ∷ gs) (Every n)
  with_every p q n h k e = (one_or_more p q n h.0 k.0 e, same, (p, q, h.2, k.2, e))
    where
      one_or_more : (p q n : ℕ) → 1 ≤ p → 1 ≤ q → n ≡ p * q → 1 ≤ n
      one_or_more p q n h k e = let more = mul-le 1 1 p q h k in omega (arith, more, e)

      turned : n ≡ q * p
      turned = e ∙ mul_turned p q
        where
          mul_turned : (p q : ℕ) → p * q ≡ q * p
          mul_turned p q = grind arith

      same : (t : ℕ) → is_open loops (Steps (t + n)) (f ∷ fs) (g ∷ gs) ≡ is_open loops (Steps t) (f ∷ fs) (g ∷ gs)
      same t =
          ap₂ (λ a b. not a && b)
          (ap (λ m. is_ruled_out loops f g (Steps (t + m))) turned ∙ repeated (λ t. is_ruled_out loops f g (Steps t)) p h.1 q t)
          (ap (λ m. is_open loops (Steps (t + m)) fs gs) e ∙ repeated (λ t. is_open loops (Steps t) fs gs) q k.1 p t)

  pub with_up_to : (n : ℕ) → AreTriesOf loops f g (UpTo n) → AreTriesOfAll loops (f ∷ fs) (g ∷ gs) (UpTo n)
  with_up_to n h = (h.0, (λ t more. ap (λ out. not out && is_open loops (Steps t) fs gs) (h.1 t more)), inl h.2)

  pub rest_up_to : (n : ℕ) → AreTriesOfAll loops fs gs (UpTo n) → AreTriesOfAll loops (f ∷ fs) (g ∷ gs) (UpTo n)
  rest_up_to n h = (h.0, (λ t more. ap (λ rest. not (is_ruled_out loops f g (Steps t)) && rest) (h.1 t more) ∙ and_false (not (is_ruled_out loops f g (Steps t)))), inr h.2)
    where
      and_false : (b : Bool) → (b && false) ≡ false
      and_false true = refl
      and_false false = refl

-- of an index and the others
module _ (loops : Loops) (f g : Affine) (fs gs : List Affine) where
  abbrev AreAll : Tries → Type 0
  AreAll r = AreTriesOfAll loops (f ∷ fs) (g ∷ gs) r

  both_tries : (p q : ℕ) (r : Tries) → IsBoth p q r → AreTriesOf loops f g (Every p) → AreTriesOfAll loops fs gs (Every q) → AreAll r
  both_tries p q (Every n) is one rest = with_every loops f g fs gs p q n one rest is
  both_tries p q (UpTo n) is one rest = absurd is
  both_tries p q Unknown is one rest = (p * q, is, inr (inl (p, q, one.2, rest.2, refl)))

  -- numbers pass 64 bits in the others, or in this one
  rest_pass : NumbersPass loops fs gs → NumbersPass loops (f ∷ fs) (g ∷ gs)
  rest_pass (n, more, inl h) = (n, more, inl (inr h))
  rest_pass (n, more, inr h) = (n, more, inr (inr h))

  one_passes : AreTriesOf loops f g Unknown → NumbersPass loops (f ∷ fs) (g ∷ gs)
  one_passes (n, more, h) = (n, more, inl (inl h))

  pub joined_tries : (one rest r : Tries) → IsJoined one rest r → AreTriesOf loops f g one → AreTriesOfAll loops fs gs rest → AreAll r
  joined_tries (Every p) (Every q) r is h k = both_tries p q r is h k
  joined_tries (Every p) (UpTo n) r is h k = subst AreAll (sym is) (rest_up_to loops f g fs gs n k)
  joined_tries (Every p) Unknown r is h k = subst AreAll (sym is) (rest_pass k)
  joined_tries (UpTo n) rest r is h k = subst AreAll (sym is) (with_up_to loops f g fs gs n h)
  joined_tries Unknown (Every q) r is h k = subst AreAll (sym is) (one_passes h)
  joined_tries Unknown (UpTo n) r is h k = subst AreAll (sym is) (rest_up_to loops f g fs gs n k)
  joined_tries Unknown Unknown r is h k = subst AreAll (sym is) (one_passes h)

-- a list that isn't empty is its first element and the others
first_and_rest : (xs : List Affine) (x : Affine) → 1 ≤ length xs → x ≡ get_or xs 0 x → x ∷ take (length xs - 1) (drop 1 xs) ≡ xs
first_and_rest [] x some is = absurd (omega (arith, some))
first_and_rest (y ∷ ys) x some is = ap₂ (λ v vs. v ∷ vs) is (take_all (length (y ∷ ys) - 1) ys (omega arith))

pub joined_whole : (loops : Loops) (xs ys : List Affine) (f g : Affine) (one rest r : Tries) → 1 ≤ length xs → 1 ≤ length ys → f ≡ get_or xs 0 f → g ≡ get_or ys 0 g → IsJoined one rest r →
    AreTriesOf loops f g one → AreTriesOfAll loops (take (length xs - 1) (drop 1 xs)) (take (length ys - 1) (drop 1 ys)) rest → AreTriesOfAll loops xs ys r
joined_whole loops xs ys f g one rest r some_as some_bs is_f is_g is h k =
    let A : List Affine → Type 0 = λ zs. AreTriesOfAll loops zs (g ∷ take (length ys - 1) (drop 1 ys)) r in
    let B : List Affine → Type 0 = λ zs. AreTriesOfAll loops xs zs r in
    subst B (first_and_rest ys g some_bs is_g) (subst A (first_and_rest xs f some_as is_f) (joined_tries loops f g (take (length xs - 1) (drop 1 xs)) (take (length ys - 1) (drop 1 ys)) one rest r is h k))

pub tries_of_none : (loops : Loops) (gs : List Affine) → AreTriesOfAll loops [] gs (Every 1)
tries_of_none loops gs = (omega arith, (λ t. refl), refl)

pub tries_of_few : (loops : Loops) (f : Affine) (fs : List Affine) → AreTriesOfAll loops (f ∷ fs) [] (Every 1)
tries_of_few loops f fs = (omega arith, (λ t. refl), refl)

module _ (loops : Loops) (fs gs : List Affine) (n : ℕ) where
  pub most_by_every : AreTriesOfAll loops fs gs (Every n) → IsMost loops fs gs n
  most_by_every h = record { some = h.0; enough = λ t more may. down t t (omega arith) (omega arith) may }
    where
      IsFound : Type 0
      IsFound = (s : ℕ) × (1 ≤ s) × (s ≤ n) × (is_open loops (Steps s) fs gs ≡ true)

      -- n steps less, until there are at most n
      down : (fuel t : ℕ) → t ≤ fuel → 1 ≤ t → is_open loops (Steps t) fs gs ≡ true → IsFound
      down zero t few some may = absurd (omega (arith, few, some))
      down (suc fuel) t few some may = by_place (down fuel) (at_most_or_more t n)
        where
          before : n < t → t ≡ (t - n) + n
          before more = omega (arith, more)

          by_place : ((t : ℕ) → t ≤ fuel → 1 ≤ t → is_open loops (Steps t) fs gs ≡ true → IsFound) → (t ≤ n) ⊎ (n < t) → IsFound
          by_place rest (inl few_enough) = (t, some, few_enough, may)
          by_place rest (inr more) =
              rest (t - n) (omega (arith, few, h.0)) (omega (arith, more)) (sym (h.1 (t - n)) ∙ ap (λ k. is_open loops (Steps k) fs gs) (sym (before more)) ∙ may)

  pub none_past_passes : AreTriesOfAll loops fs gs (UpTo n) → PassesBits n → NumbersPass loops fs gs
  none_past_passes h more = (n, more, inl h.2)

  pub most_by_none_past : AreTriesOfAll loops fs gs (UpTo n) → IsMost loops fs gs n
  most_by_none_past h = record { some = h.0; enough = λ t more may. absurd (no (sym (h.1 t more) ∙ may)) }

not_one : (n : ℕ) → n ≡ 1 → PassesBits n → ⊥
not_one n e more = omega (arith, e, more)

pub every_passes : (loops : Loops) (fs gs : List Affine) (n : ℕ) → AreTriesOfAll loops fs gs (Every n) → PassesBits n → NumbersPass loops fs gs
every_passes loops [] gs n h more = absurd (not_one n h.2 more)
every_passes loops (f ∷ fs) [] n h more = absurd (not_one n h.2 more)
every_passes loops (f ∷ fs) (g ∷ gs) n h more = (n, more, inr (inl h.2))

-- without an index each number of steps does the same
pub most_without : (loops : Loops) (fs gs : List Affine) → (fs ≡ []) ⊎ (gs ≡ []) → IsMost loops fs gs 1
most_without loops [] gs h = most_by_every loops [] gs 1 (tries_of_none loops gs)
most_without loops (f ∷ fs) [] h = most_by_every loops (f ∷ fs) [] 1 (tries_of_few loops f fs)
most_without loops (f ∷ fs) (g ∷ gs) (inl e) = absurd (some_none f fs e)
  where
    some_none : (f : Affine) (fs : List Affine) → f ∷ fs ≡ [] → ⊥
    some_none f fs e = cc
most_without loops (f ∷ fs) (g ∷ gs) (inr e) = absurd (some_none g gs e)
  where
    some_none : (f : Affine) (fs : List Affine) → f ∷ fs ≡ [] → ⊥
    some_none f fs e = cc

-- a quotient
pub past_quotient : (r s t : ℕ) → 0 < s → r / s < t → r < s * t
past_quotient r s t some less =
    let split = div-add-mod' r s in
    let small = mod_below r s some in
    let more = mul-le (r / s + 1) s t s (omega arith) (omega arith) in
    joined (r / s) (r % s) s t r split small more
  where
    joined : (q m s t r : ℕ) → q * s + m ≡ r → m < s → (q + 1) * s ≤ t * s → r < s * t
    joined q m s t r e h k = omega arith
