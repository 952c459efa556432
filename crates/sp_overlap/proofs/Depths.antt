-- A memory has a copy for each slot from the first one that uses it to the last one; and groups that have one copy of it are as
-- many apart at least.
use Rattle.std.proofs.Common.{◌≡◌, ℕ, zero, suc, ◌+◌, ◌*◌, ◌/◌, ◌%◌, ◌<◌, ◌≤◌, inl, inr, Bool, true, false, cond, List, [], ◌∷◌, ◌++◌, max, min, length, arith, refl, sym, subst}
use Rattle.std.proofs.Math.Nat.{div-add-mod', suc-mul, mul-le-mul_right}
use Rattle.std.proofs.lemmas.Bool.{and_parts, cases_lt, eqb-true, false≢true}
use Rattle.std.specs.List.{list_all}
use Rattle.std.specs.Prelude.{◌==◌, ◌||◌, fold, slice_index}
use Rattle.sp_core.specs.Declarations.{is_among}
use Rattle.sp_core.specs.PlainCore.{PlainStages, no_stage, more_stage, PlainCore}
use Rattle.sp_plan.specs.Copies.{slots_between, used_slots}
use Rattle.sp_plan.specs.Named.{uses}
use Rattle.sp_time.specs.Lists.{Each}
use Rattle.sp_machine.specs.Timeline.{least}
use Rattle.sp_overlap.specs.Apart.{node_at}

-- between the least and the greatest
fold_max : (acc : ℕ) (ns : List ℕ) → acc ≤ fold max acc ns
fold_max acc [] = omega arith
fold_max acc (n ∷ ns) = let a : max acc n ≤ fold max (max acc n) ns = fold_max (max acc n) ns in omega arith

fold_min : (acc : ℕ) (ns : List ℕ) → fold min acc ns ≤ acc
fold_min acc [] = omega arith
fold_min acc (n ∷ ns) = let a : fold min (min acc n) ns ≤ min acc n = fold_min (min acc n) ns in omega arith

under_max : (acc : ℕ) (ns : List ℕ) → Each (λ n. n ≤ fold max acc ns) ns
under_max acc [] = tt
under_max acc (n ∷ ns) = (let a : max acc n ≤ fold max (max acc n) ns = fold_max (max acc n) ns in omega arith, under_max (max acc n) ns)

over_min : (acc : ℕ) (ns : List ℕ) → Each (λ n. fold min acc ns ≤ n) ns
over_min acc [] = tt
over_min acc (n ∷ ns) = (let a : fold min (min acc n) ns ≤ min acc n = fold_min (min acc n) ns in omega arith, over_min (min acc n) ns)

-- the least of a list is one of it
least_over : (b n : ℕ) (ns : List ℕ) → b ≤ n → Each (λ x. b ≤ x) ns → b ≤ least (n ∷ ns)
least_over b n [] l h = l
least_over b n (m ∷ ns) l h = let a : b ≤ least (m ∷ ns) = least_over b m ns h.0 h.1 in omega arith

pub least_under_each : (ns : List ℕ) → Each (λ x. least ns ≤ x) ns
least_under_each [] = tt
least_under_each (n ∷ []) = (omega arith, tt)
least_under_each (n ∷ m ∷ ns) = (omega arith, below (m ∷ ns) (least_under_each (m ∷ ns)) (omega arith))
  where
    below : (xs : List ℕ) → Each (λ x. least (m ∷ ns) ≤ x) xs → least (n ∷ m ∷ ns) ≤ least (m ∷ ns) → Each (λ x. least (n ∷ m ∷ ns) ≤ x) xs
    below [] h l = tt
    below (x ∷ xs) h l = (let a : least (m ∷ ns) ≤ x = h.0 in omega arith, below xs h.1 l)

each_two : (ns : List ℕ) → Each (λ x. x < slots_between ns + least ns) ns
each_two [] = tt
each_two (n ∷ ns) =
    let low : fold min n ns ≤ least (n ∷ ns) = least_over (fold min n ns) n ns (fold_min n ns) (over_min n ns) in
    let top : n ≤ fold max n ns = fold_max n ns in
    (omega arith, others ns (under_max n ns) low)
  where
    others : (xs : List ℕ) → Each (λ x. x ≤ fold max n ns) xs → fold min n ns ≤ least (n ∷ ns) → Each (λ x. x < slots_between (n ∷ ns) + least (n ∷ ns)) xs
    others [] h low = tt
    others (x ∷ xs) h low = (let a : x ≤ fold max n ns = h.0 in omega arith, others xs h.1 low)

module _ (core : PlainCore) where
  -- what holds of each slot that is used holds of that of a stage that uses the memory
  used_here : (P : ℕ → Type 0) (m : ℕ) (stages : PlainStages) (slots : List ℕ) (s : ℕ) → s < length slots → uses core m (node_at stages s) ≡ true → Each P (used_slots core m stages slots) → P (slice_index slots s)
  used_here P m no_stage slots s l u h = absurd (false≢true u)
  used_here P m (more_stage first last comb node rest) [] s l u h = absurd (omega (arith, l))
  used_here P m (more_stage first last comb node rest) (x ∷ slots) zero l u h = go (uses core m node) u h
    where
      go : (b : Bool) → b ≡ true → Each P (cond b (x ∷ []) [] ++ used_slots core m rest slots) → P x
      go true e h = h.0
      go false e h = absurd (false≢true e)
  used_here P m (more_stage first last comb node rest) (x ∷ slots) (suc s) l u h = used_here P m rest slots s (omega arith) u (go (uses core m node) h)
    where
      go : (b : Bool) → Each P (cond b (x ∷ []) [] ++ used_slots core m rest slots) → Each P (used_slots core m rest slots)
      go true h = h.1
      go false h = h

  pub first_used : (m : ℕ) (stages : PlainStages) (slots : List ℕ) (s : ℕ) → s < length slots → uses core m (node_at stages s) ≡ true → least (used_slots core m stages slots) ≤ slice_index slots s
  first_used m stages slots s l u = used_here (λ x. least (used_slots core m stages slots) ≤ x) m stages slots s l u (least_under_each (used_slots core m stages slots))

  pub used_between : (m : ℕ) (stages : PlainStages) (slots : List ℕ) (s : ℕ) → s < length slots → uses core m (node_at stages s) ≡ true → slice_index slots s < slots_between (used_slots core m stages slots) + least (used_slots core m stages slots)
  used_between m stages slots s l u = used_here (λ x. x < slots_between (used_slots core m stages slots) + least (used_slots core m stages slots)) m stages slots s l u (each_two (used_slots core m stages slots))

-- what all of a list pass, one among it passes
pub all_among : (p : ℕ → Bool) (ms : List ℕ) (m : ℕ) → list_all p ms ≡ true → is_among m ms ≡ true → p m ≡ true
all_among p [] m h e = absurd (false≢true e)
all_among p (x ∷ ms) m h e = go (λ k. all_among p ms m (and_parts (p x) (list_all p ms) h).1 k) (m == x) refl e
  where
    go : (is_among m ms ≡ true → p m ≡ true) → (b : Bool) → (m == x) ≡ b → (b || is_among m ms) ≡ true → p m ≡ true
    go rest true q e = subst (λ y. p y ≡ true) (sym (eqb-true m x q)) (and_parts (p x) (list_all p ms) h).0
    go rest false q e = rest e

-- numbers with one remainder
pub same_remainder : (k l d : ℕ) → k < l → k % d ≡ l % d → 0 < d → k + d ≤ l
same_remainder k l d less e z =
    let a : k / d * d + k % d ≡ k = div-add-mod' k d in
    let b : l / d * d + l % d ≡ l = div-add-mod' l d in
    elim (cases_lt (k / d) (l / d)) [
      | inl q ↦ let c : suc (k / d) * d ≤ l / d * d = mul-le-mul_right d q in let s : suc (k / d) * d ≡ k / d * d + d = suc-mul (k / d) d in omega arith
      | inr q ↦ let c : l / d * d ≤ k / d * d = mul-le-mul_right d q in absurd (omega arith)
    ]
