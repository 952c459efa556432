-- Nets of copies in tables, and that they stand.
use Rattle.std.proofs.Common.{◌≡◌, ℕ, zero, suc, ◌<◌, ◌≤◌, ◌==◌, ◌⊎◌, inl, inr, Bool, true, false, if◌then◌else◌, List, [], ◌∷◌, ◌++◌, length, slice_index_or, All, Contains, Option, Some, None, refl, ap, subst, arith}
use Rattle.std.proofs.lemmas.List.Elements.{Contains-append_cases}
use Rattle.sp_netlist.specs.Draft.{Draft}
use Rattle.sp_gates.specs.Nets.{HasNet}
use Rattle.sp_mem.specs.Fits.{CopyFits}
use Rattle.sp_copy_nets.specs.declared.part.SlotNumbers.{SlotNumbers}
use Rattle.sp_copy_nets.specs.Numbers.{StandNumbers}
use Rattle.sp_copy_nets.specs.Table.{numbers_at, own_numbers, slot_numbers}
use Rattle.sp_tree_copies.specs.declared.numbers.LoopCopies.{LoopCopies}
use Rattle.sp_tree_copies.specs.Loops.{CopiesStand}
use Rattle.sp_tree_copies.specs.Naming.{name_of}
use Rattle.sp_tree_copies.specs.Walks.{nets_in}

pub at_index : (nets : List (Option ℕ)) (m : ℕ) (x : Option ℕ) → m < length nets → x ≡ slice_index_or nets m x → x ≡ numbers_at nets m
at_index [] m x lt e = absurd (omega (arith, lt))
at_index (y ∷ nets) zero x lt e = e
at_index (y ∷ nets) (suc m) x lt e = at_index nets m x (omega (arith, lt)) e

pub past_all : (nets : List (Option ℕ)) (m : ℕ) → length nets ≤ m → None ≡ numbers_at nets m
past_all [] m le = refl
past_all (y ∷ nets) zero le = absurd (omega (arith, le))
past_all (y ∷ nets) (suc m) le = past_all nets m (omega (arith, le))

pub slot_at : (slots : List SlotNumbers) (x : ℕ) (slot : SlotNumbers) → x < length slots → slot ≡ slice_index_or slots x slot → slot.nets.items ≡ slot_numbers slots x
slot_at [] x slot lt e = absurd (omega (arith, lt))
slot_at (y ∷ slots) zero slot lt e = ap (λ (s : SlotNumbers). s.nets.items) e
slot_at (y ∷ slots) (suc x) slot lt e = slot_at slots x slot (omega (arith, lt)) e

pub past_slots : (slots : List SlotNumbers) (x : ℕ) → length slots ≤ x → [] ≡ slot_numbers slots x
past_slots [] x le = refl
past_slots (y ∷ slots) zero le = absurd (omega (arith, le))
past_slots (y ∷ slots) (suc x) le = past_slots slots x (omega (arith, le))

pub loop_at : (loops : List LoopCopies) (at slot : ℕ) (copies : LoopCopies) → at < length loops → copies ≡ slice_index_or loops at copies → slot_numbers copies.numbers.items slot ≡ nets_in loops at slot
loop_at [] at slot copies lt e = absurd (omega (arith, lt))
loop_at (y ∷ loops) zero slot copies lt e = ap (λ (c : LoopCopies). slot_numbers c.numbers.items slot) e
loop_at (y ∷ loops) (suc at) slot copies lt e = loop_at loops at slot copies (omega (arith, lt)) e

pub past_loops : (loops : List LoopCopies) (at slot : ℕ) → length loops ≤ at → [] ≡ nets_in loops at slot
past_loops [] at slot le = refl
past_loops (y ∷ loops) zero slot le = absurd (omega (arith, le))
past_loops (y ∷ loops) (suc at) slot le = past_loops loops at slot (omega (arith, le))

-- nets that stand fit as those of copies
rest_stand : (d : Draft) (x : Option ℕ) (nets : List (Option ℕ)) → StandNumbers d (x ∷ nets) → StandNumbers d nets
rest_stand d x nets h net k = h net (suc k.0, (let b = k.1 in omega (arith, b)), k.2)

first_fits : (d : Draft) (x : Option ℕ) (nets : List (Option ℕ)) → StandNumbers d (x ∷ nets) → CopyFits d x
first_fits d None nets h = tt
first_fits d (Some net) nets h = h net (0, omega arith, refl)

pub net_fits : (d : Draft) (nets : List (Option ℕ)) (m : ℕ) → StandNumbers d nets → CopyFits d (numbers_at nets m)
net_fits d [] m h = tt
net_fits d (x ∷ nets) zero h = first_fits d x nets h
net_fits d (x ∷ nets) (suc m) h = net_fits d nets m (rest_stand d x nets h)

pub name_fits : (d : Draft) (nets : List (Option ℕ)) (m : Option ℕ) → StandNumbers d nets → CopyFits d (name_of (numbers_at nets) m)
name_fits d nets None h = tt
name_fits d nets (Some m) h = net_fits d nets m h

pub own_fits : (d : Draft) (owned : List ℕ) (nets : List (Option ℕ)) (m : ℕ) → StandNumbers d nets → CopyFits d (own_numbers owned nets m)
own_fits d [] nets m h = tt
own_fits d (o ∷ owned) [] m h = tt
own_fits d (o ∷ owned) (x ∷ nets) m h = by (m == o) (first_fits d x nets h) (own_fits d owned nets m (rest_stand d x nets h))
  where
    by : (b : Bool) → CopyFits d x → CopyFits d (own_numbers owned nets m) → CopyFits d (if b then x else own_numbers owned nets m)
    by true f g = f
    by false f g = g

-- one more
fits_some : (d : Draft) (x : Option ℕ) (net : ℕ) → x ≡ Some net → CopyFits d x → HasNet d net 32
fits_some d x net e h = subst (CopyFits d) e h

pub stand_more : (d : Draft) (nets : List (Option ℕ)) (x : Option ℕ) → StandNumbers d nets → CopyFits d x → StandNumbers d (nets ++ x ∷ [])
stand_more d nets x h f net k = by (Contains-append_cases nets (x ∷ []) (Some net) k)
  where
    by : Contains nets (Some net) ⊎ Contains (x ∷ []) (Some net) → HasNet d net 32
    by (inl c) = h net c
    by (inr (zero, l, e)) = fits_some d x net e f
    by (inr (suc i, l, e)) = absurd (omega (arith, l))

pub nets_stand : (d : Draft) (loops : List LoopCopies) (at slot : ℕ) → All (CopiesStand d) loops → StandNumbers d (nets_in loops at slot)
nets_stand d [] at slot h = λ net k. absurd (let l = k.1 in omega (arith, l))
nets_stand d (x ∷ loops) zero slot h = (h 0 x (omega arith)).numbers slot
nets_stand d (x ∷ loops) (suc at) slot h = nets_stand d loops at slot (λ k c lt. h (suc k) c (omega (arith, lt)))
