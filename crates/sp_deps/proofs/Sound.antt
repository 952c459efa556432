-- Accesses that touch one element some groups apart are not ruled out there.
use Rattle.std.proofs.Common.{◌≡◌, inl, inr, ℕ, suc, ◌-◌, ◌*◌, ◌/◌, ◌<◌, ◌≤◌, true, false, ℤ, pos, neg_ℤ, ◌+ℤ◌, ◌-ℤ◌, ◌*ℤ◌, ◌≤ℤ◌, List, [], ◌∷◌, ◌++◌, length, take, drop, refl, ap, sym, ◌∙◌, subst, arith, max, unsigned_abs}
use Rattle.std.specs.Prelude.{◌==◌, ◌⊎◌, Option, Some, None, if◌then◌else◌}
use Rattle.std.proofs.lemmas.Int.{ints}
use Rattle.std.proofs.lemmas.Nat.{le-div}
use Rattle.sp_affine.specs.Affine.{dot}
use Rattle.sp_deps.specs.declared.access.LoopRange.{LoopRange}
use Rattle.sp_deps.specs.declared.sum.Term.{Term}
use Rattle.sp_deps.specs.Access.{range_of, range_between, steps_of, most_steps, advance}
use Rattle.sp_deps.specs.Classes.{term, unknown, outside, shared, own_first, own_second, stepped, stepping, last_step}
use Rattle.sp_deps.specs.Sums.{is_up_to}
use Rattle.sp_deps.specs.Groups.{HasValue, HaveValues, IsLater, AreGroupsOn, GoOn}
use Rattle.sp_deps.proofs.Integers.{mul-add_ℤ, sub-mul_ℤ, mul_assoc_ℤ}
use Rattle.sp_deps.proofs.Reaching.{IsIn, Reaches, reach_append, at_least}

-- values put together
pub dot_append : (cs p q : List ℤ) → dot cs (p ++ q) ≡ dot (take (length p) cs) p +ℤ dot (drop (length p) cs) q
dot_append cs [] q = flat (dot cs q)
  where
    flat : (z : ℤ) → z ≡ pos 0 +ℤ z
    flat z = omega (arith, ints)
dot_append [] (x ∷ p) q = refl
dot_append (c ∷ cs) (x ∷ p) q = moved (c *ℤ x) _ _ _ (dot_append cs p q)
  where
    moved : (a w l r : ℤ) → w ≡ l +ℤ r → a +ℤ w ≡ (a +ℤ l) +ℤ r
    moved a w l r e = omega (arith, ints)

-- a term more, of a difference
one_more : (x y v a b : ℤ) → ((y *ℤ v) +ℤ a) -ℤ ((x *ℤ v) +ℤ b) ≡ ((y -ℤ x) *ℤ v) +ℤ (a -ℤ b)
one_more x y v a b = joined (x *ℤ v) (y *ℤ v) ((y -ℤ x) *ℤ v) (sub-mul_ℤ y x v)
  where
    joined : (p q r : ℤ) → r ≡ q -ℤ p → (q +ℤ a) -ℤ (p +ℤ b) ≡ r +ℤ (a -ℤ b)
    joined p q r e = omega (arith, ints)

anywhere : (v : ℤ) → IsIn unknown v
anywhere v = record { low = refl; high = refl }

pub reach_outside : (xs ys vs : List ℤ) → length xs ≡ length vs → length ys ≡ length vs → Reaches (outside xs ys) (dot ys vs -ℤ dot xs vs)
reach_outside [] [] [] g h = refl
reach_outside [] (y ∷ ys) [] g h = absurd (omega arith)
reach_outside (x ∷ xs) ys [] g h = absurd (omega arith)
reach_outside [] ys (v ∷ vs) g h = absurd (omega arith)
reach_outside (x ∷ xs) [] (v ∷ vs) g h = absurd (omega arith)
reach_outside (x ∷ xs) (y ∷ ys) (v ∷ vs) g h =
    (v, _, anywhere v, reach_outside xs ys vs (omega arith) (omega arith), one_more x y v (dot ys vs) (dot xs vs))

within : (l : LoopRange) (v : ℤ) → HasValue l v → IsIn (range_of l) v
within l v h = by_from l.from h
  where
    by_from : (from : Option (ℤ × ℤ)) → HasValue (record l { from = from }) v → IsIn (range_between from) v
    by_from None h = record { low = refl; high = refl }
    by_from (Some r) h = record { low = at_least v r.0 h.0; high = at_least r.1 v h.1 }

pub reach_shared : (xs ys vs : List ℤ) (ls : List LoopRange) → length xs ≡ length vs → length ys ≡ length vs → HaveValues ls vs → Reaches (shared xs ys ls) (dot ys vs -ℤ dot xs vs)
reach_shared [] [] [] ls g h k = refl
reach_shared [] (y ∷ ys) [] ls g h k = absurd (omega arith)
reach_shared (x ∷ xs) ys [] ls g h k = absurd (omega arith)
reach_shared [] ys (v ∷ vs) ls g h k = absurd (omega arith)
reach_shared (x ∷ xs) [] (v ∷ vs) ls g h k = absurd (omega arith)
reach_shared (x ∷ xs) (y ∷ ys) (v ∷ vs) [] g h k = absurd k
reach_shared (x ∷ xs) (y ∷ ys) (v ∷ vs) (l ∷ ls) g h (k, ks) =
    (v, _, within l v k, reach_shared xs ys vs ls (omega arith) (omega arith) ks, one_more x y v (dot ys vs) (dot xs vs))

pub reach_second : (ys vs : List ℤ) (ls : List LoopRange) → length ys ≡ length vs → HaveValues ls vs → Reaches (own_second ys ls) (dot ys vs)
reach_second [] vs ls h k = refl
reach_second (y ∷ ys) [] ls h k = absurd (omega arith)
reach_second (y ∷ ys) (v ∷ vs) [] h k = absurd k
reach_second (y ∷ ys) (v ∷ vs) (l ∷ ls) h (k, ks) = (v, _, within l v k, reach_second ys vs ls (omega arith) ks, refl)

pub reach_first : (xs vs : List ℤ) (ls : List LoopRange) → length xs ≡ length vs → HaveValues ls vs → Reaches (own_first xs ls) (neg_ℤ (dot xs vs))
reach_first [] vs ls h k = refl
reach_first (x ∷ xs) [] ls h k = absurd (omega arith)
reach_first (x ∷ xs) (v ∷ vs) [] h k = absurd k
reach_first (x ∷ xs) (v ∷ vs) (l ∷ ls) h (k, ks) =
    (v, _, within l v k, reach_first xs vs ls (omega arith) ks, negated (x *ℤ v) (dot xs vs) (neg_ℤ x *ℤ v) (opposite x v))
  where
    opposite : (x v : ℤ) → neg_ℤ x *ℤ v ≡ neg_ℤ (x *ℤ v)
    opposite x v = ap (λ z. z *ℤ v) (from_zero x) ∙ sub-mul_ℤ (pos 0) x v ∙ less v (x *ℤ v)
      where
        from_zero : (x : ℤ) → neg_ℤ x ≡ pos 0 -ℤ x
        from_zero x = omega (arith, ints)

        less : (v p : ℤ) → (pos 0 *ℤ v) -ℤ p ≡ neg_ℤ p
        less v p = omega (arith, ints)

    negated : (p d n : ℤ) → n ≡ neg_ℤ p → neg_ℤ (p +ℤ d) ≡ n +ℤ neg_ℤ d
    negated p d n e = omega (arith, ints)

-- the last counter alone goes on
abbrev pub Along : List LoopRange → (xs ys : List ℤ) → ℕ → Type 0
Along ls xs ys k = (cs : List ℤ) → length cs ≡ length ls → dot cs ys ≡ dot cs xs +ℤ (last_step cs ls *ℤ pos k)

-- counter i goes on, and what follows is free
abbrev pub Jumps : ℕ → List LoopRange → (xs ys : List ℤ) → Type 0
Jumps i ls xs ys = (cs ds : List ℤ) → length cs ≡ length ls → length ds ≡ length ls → Reaches (stepping i cs ds ls) (dot ds ys -ℤ dot cs xs)

abbrev pub Moves : List LoopRange → (xs ys : List ℤ) → ℕ → Type 0
Moves ls xs ys k = Along ls xs ys k ⊎ ((i : ℕ) × (suc i < length ls) × (1 ≤ k) × Jumps i ls xs ys)

pub lengths_of_values : (ls : List LoopRange) (xs : List ℤ) → HaveValues ls xs → length xs ≡ length ls
lengths_of_values [] [] h = refl
lengths_of_values [] (x ∷ xs) h = absurd h
lengths_of_values (l ∷ ls) [] h = absurd h
lengths_of_values (l ∷ ls) (x ∷ xs) h = ap suc (lengths_of_values ls xs h.1)

-- by how many steps a counter goes on within its range
few_steps : (l : LoopRange) (x y : ℤ) (steps : ℕ) → 1 ≤ l.by → 1 ≤ steps → y ≡ x +ℤ pos (steps * l.by) → HasValue l x → HasValue l y → IsIn (steps_of l) (pos steps)
few_steps l x y steps by some e h k = record { low = at_least (pos steps) (pos 1) (omega (arith, ints)); high = by_from l.from h k }
  where
    fits : (a b : ℤ) → a ≤ℤ x → x ≤ℤ b → a ≤ℤ y → y ≤ℤ b → steps ≤ max 1 (unsigned_abs (b -ℤ a) / l.by)
    fits a b p q r t = enough (unsigned_abs (b -ℤ a)) l.by steps by (room a b p q r t)
      where
        room : (a b : ℤ) → a ≤ℤ x → x ≤ℤ b → a ≤ℤ y → y ≤ℤ b → steps * l.by ≤ unsigned_abs (b -ℤ a)
        room a b p q r t = omega (arith, ints)

        enough : (width by steps : ℕ) → 1 ≤ by → steps * by ≤ width → steps ≤ max 1 (width / by)
        enough width by steps p h =
            greatest steps (width / by) (le-div steps width by p h)
          where
            greatest : (s q : ℕ) → s ≤ q → s ≤ max 1 q
            greatest s q h = omega arith

    by_from : (from : Option (ℤ × ℤ)) → HasValue (record l { from = from }) x → HasValue (record l { from = from }) y → is_up_to (most_steps from l.by) (pos steps) ≡ true
    by_from None h k = refl
    by_from (Some r) h k = at_least _ _ (counted steps _ (fits r.0 r.1 h.0 h.1 k.0 k.1))
      where
        counted : (a b : ℕ) → a ≤ b → pos a ≤ℤ pos b
        counted a b h = omega (arith, ints)

-- what follows a counter that goes on is free
reach_free : (cs ds xs ys : List ℤ) (ls : List LoopRange) → length cs ≡ length xs → length ds ≡ length ys → HaveValues ls xs → HaveValues ls ys →
    Reaches (own_first cs ls ++ own_second ds ls) (neg_ℤ (dot cs xs) +ℤ dot ds ys)
reach_free cs ds xs ys ls g h j k = reach_append (own_first cs ls) (own_second ds ls) _ _ _ (reach_first cs xs ls g j) (reach_second ds ys ls h k) refl

here : (l m : LoopRange) (ls : List LoopRange) (x y : ℤ) (xs ys : List ℤ) (k : ℕ) → 1 ≤ l.by → IsLater l x y → 1 ≤ k →
    HasValue l x → HasValue l y → HaveValues (m ∷ ls) xs → HaveValues (m ∷ ls) ys → Jumps 0 (l ∷ m ∷ ls) (x ∷ xs) (y ∷ ys)
here l m ls x y xs ys k by (steps, some, is) more hx hy hxs hys [] ds g h = absurd (omega arith)
here l m ls x y xs ys k by (steps, some, is) more hx hy hxs hys (c ∷ cs) [] g h = absurd (omega arith)
here l m ls x y xs ys k by (steps, some, is) more hx hy hxs hys (c ∷ cs) (d ∷ ds) g h =
    let lx = lengths_of_values (m ∷ ls) xs hxs in
    let ly = lengths_of_values (m ∷ ls) ys hys in (
      x,
      _,
      within l x hx,
      (pos steps, _, few_steps l x y steps by some is hx hy, reach_free cs ds xs ys (m ∷ ls) (omega arith) (omega arith) hxs hys, refl),
      total (c *ℤ x) (d *ℤ x) (d *ℤ y) ((d -ℤ c) *ℤ x) ((d *ℤ pos l.by) *ℤ pos steps) (dot cs xs) (dot ds ys) (sub-mul_ℤ d c x) (moved d x y l.by steps is),
    )
  where
    moved : (d x y : ℤ) (by steps : ℕ) → y ≡ x +ℤ pos (steps * by) → d *ℤ y ≡ (d *ℤ x) +ℤ ((d *ℤ pos by) *ℤ pos steps)
    moved d x y by steps e =
        ap (λ z. d *ℤ z) e ∙ mul-add_ℤ x (pos (steps * by)) d ∙ ap (λ z. (d *ℤ x) +ℤ z) (ap (λ z. d *ℤ z) (product by steps) ∙ sym (mul_assoc_ℤ d (pos by) (pos steps)))
      where
        product : (by steps : ℕ) → pos (steps * by) ≡ pos by *ℤ pos steps
        product by steps = omega (arith, ints)

    total : (cx dx dy ex ds a b : ℤ) → ex ≡ dx -ℤ cx → dy ≡ dx +ℤ ds → (dy +ℤ b) -ℤ (cx +ℤ a) ≡ ex +ℤ (ds +ℤ (neg_ℤ a +ℤ b))
    total cx dx dy ex ds a b e f = omega (arith, ints)

later_counter : (i : ℕ) (c d : ℤ) (cs ds : List ℤ) (l : LoopRange) (ls : List LoopRange) → stepping (suc i) (c ∷ cs) (d ∷ ds) (l ∷ ls) ≡ term (d -ℤ c) (range_of l) ∷ stepping i cs ds ls
later_counter i c d cs ds l ls =
    ap (λ z. term (d -ℤ c) (range_of l) ∷ (if z then stepped d l cs ds ls else stepping (suc i - 1) cs ds ls)) (not_first i)
    ∙ ap (λ j. term (d -ℤ c) (range_of l) ∷ stepping j cs ds ls) (less_one i)
  where
    not_first : (i : ℕ) → (suc i == 0) ≡ false
    not_first i = grind arith

    less_one : (i : ℕ) → suc i - 1 ≡ i
    less_one i = omega arith

jumps_on : (i : ℕ) (l : LoopRange) (ls : List LoopRange) (x y : ℤ) (xs ys : List ℤ) → x ≡ y → HasValue l x → Jumps i ls xs ys → Jumps (suc i) (l ∷ ls) (x ∷ xs) (y ∷ ys)
jumps_on i l ls x y xs ys e hx j [] ds g h = absurd (omega arith)
jumps_on i l ls x y xs ys e hx j (c ∷ cs) [] g h = absurd (omega arith)
jumps_on i l ls x y xs ys e hx j (c ∷ cs) (d ∷ ds) g h =
    let P : List Term → Type 0 = λ ts. Reaches ts (((d *ℤ y) +ℤ dot ds ys) -ℤ ((c *ℤ x) +ℤ dot cs xs)) in
    subst P (sym (later_counter i c d cs ds l ls))
    (x, _, within l x hx, j cs ds (omega arith) (omega arith), ap (λ z. ((d *ℤ z) +ℤ dot ds ys) -ℤ ((c *ℤ x) +ℤ dot cs xs)) (sym e) ∙ one_more c d x (dot ds ys) (dot cs xs))

along_on : (l m : LoopRange) (ls : List LoopRange) (x y : ℤ) (xs ys : List ℤ) (k : ℕ) → x ≡ y → Along (m ∷ ls) xs ys k → Along (l ∷ m ∷ ls) (x ∷ xs) (y ∷ ys) k
along_on l m ls x y xs ys k e a [] g = absurd (omega arith)
along_on l m ls x y xs ys k e a (c ∷ []) g = absurd (omega arith)
along_on l m ls x y xs ys k e a (c ∷ d ∷ cs) g =
    ap (λ z. (c *ℤ z) +ℤ dot (d ∷ cs) ys) (sym e) ∙ moved (c *ℤ x) _ _ _ (a (d ∷ cs) (omega arith))
  where
    moved : (p w v s : ℤ) → w ≡ v +ℤ s → p +ℤ w ≡ (p +ℤ v) +ℤ s
    moved p w v s e = omega (arith, ints)

last_alone : (l : LoopRange) (x y : ℤ) (k : ℕ) → y ≡ x +ℤ pos (k * advance l) → Along (l ∷ []) (x ∷ []) (y ∷ []) k
last_alone l x y k e [] g = absurd (omega arith)
last_alone l x y k e (c ∷ d ∷ cs) g = absurd (omega arith)
last_alone l x y k e (c ∷ []) g = moved c x y (advance l) k e
  where
    moved : (c x y : ℤ) (far k : ℕ) → y ≡ x +ℤ pos (k * far) → (c *ℤ y) +ℤ pos 0 ≡ ((c *ℤ x) +ℤ pos 0) +ℤ ((c *ℤ pos far) *ℤ pos k)
    moved c x y far k e = joined (c *ℤ x) (c *ℤ y) (c *ℤ pos (k * far)) _ (ap (λ z. c *ℤ z) e ∙ mul-add_ℤ x (pos (k * far)) c) (ap (λ z. c *ℤ z) (product far k) ∙ sym (mul_assoc_ℤ c (pos far) (pos k)))
      where
        product : (far k : ℕ) → pos (k * far) ≡ pos far *ℤ pos k
        product far k = omega (arith, ints)

        joined : (p q r s : ℤ) → q ≡ p +ℤ r → r ≡ s → q +ℤ pos 0 ≡ (p +ℤ pos 0) +ℤ s
        joined p q r s e f = omega (arith, ints)

first_goes_on : (l : LoopRange) (ls : List LoopRange) → GoOn (l ∷ ls) → 1 ≤ l.by
first_goes_on l ls by = by 0 l (omega arith)

rest_goes_on : (l : LoopRange) (ls : List LoopRange) → GoOn (l ∷ ls) → GoOn ls
rest_goes_on l ls by = λ i d h. by (suc i) d (omega arith)

pub moves : (ls : List LoopRange) (xs ys : List ℤ) (k : ℕ) → GoOn ls → HaveValues ls xs → HaveValues ls ys → AreGroupsOn ls xs ys k → 0 < length ls → Moves ls xs ys k
moves [] xs ys k by hx hy on some = absurd (omega arith)
moves (l ∷ []) [] ys k by hx hy on some = absurd hx
moves (l ∷ []) (x ∷ []) [] k by hx hy on some = absurd hy
moves (l ∷ []) (x ∷ []) (y ∷ []) k by hx hy on some = inl (last_alone l x y k on)
moves (l ∷ []) (x ∷ []) (y ∷ z ∷ ys) k by hx hy on some = absurd hy.1
moves (l ∷ []) (x ∷ z ∷ xs) ys k by hx hy on some = absurd hx.1
moves (l ∷ m ∷ ls) [] ys k by hx hy on some = absurd hx
moves (l ∷ m ∷ ls) (x ∷ xs) [] k by hx hy on some = absurd hy
moves (l ∷ m ∷ ls) (x ∷ xs) (y ∷ ys) k by hx hy (inl (e, on)) some =
    further (moves (m ∷ ls) xs ys k (rest_goes_on l (m ∷ ls) by) hx.1 hy.1 on (omega arith))
  where
    further : Moves (m ∷ ls) xs ys k → Moves (l ∷ m ∷ ls) (x ∷ xs) (y ∷ ys) k
    further (inl a) = inl (along_on l m ls x y xs ys k e a)
    further (inr (i, less, more, j)) = inr (suc i, omega arith, more, jumps_on i l (m ∷ ls) x y xs ys e hx.0 j)
moves (l ∷ m ∷ ls) (x ∷ xs) (y ∷ ys) k by hx hy (inr (later, more)) some =
    inr (0, omega arith, more, here l m ls x y xs ys k (first_goes_on l (m ∷ ls) by) later more hx.0 hy.0 hx.1 hy.1)
