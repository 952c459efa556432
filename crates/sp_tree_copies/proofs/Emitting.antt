-- The numbers of loops as they are emitted.
use Rattle.std.proofs.Common.{◌≡◌, ℕ, zero, suc, ◌<◌, ◌≤◌, max, true, false, Bool, ◌||◌, ◌==◌, List, [], ◌∷◌, ◌++◌, length, map, slice_index, slice_index_or, All, Option, refl, sym, ap, ◌∙◌, arith}
use Rattle.std.proofs.lemmas.Bool.{eq-eqb}
use Rattle.std.proofs.lemmas.List.Elements.{All-append}
use Rattle.std.specs.List.{AllZip}
use Rattle.sp_netlist.specs.Draft.{Draft}
use Rattle.sp_gates.specs.Grows.{Grows}
use Rattle.sp_gates.proofs.Growing.{HasNet-stays}
use Rattle.sp_core.specs.Declarations.{is_among}
use Rattle.sp_plan.specs.PlainPlan.{PlainPlan, mem_plan}
use Rattle.sp_copy_nets.specs.declared.part.SlotNumbers.{SlotNumbers}
use Rattle.sp_copy_nets.specs.Fits.{AreCopied}
use Rattle.sp_copy_nets.specs.Numbers.{AreDepths, StandNumbers}
use Rattle.sp_copy_nets.specs.Table.{slot_numbers}
use Rattle.sp_tree_handed.specs.declared.owners.LoopTurns.{LoopTurns}
use Rattle.sp_tree_handed.specs.Standing.{TurnsStand}
use Rattle.sp_tree_copies.specs.declared.numbers.LoopCopies.{LoopCopies}
use Rattle.sp_tree_copies.specs.Loops.{some_copies, CopiesStand}

-- each has some
pub all_some : (plan : PlainPlan) (owned : List ℕ) → All (λ n. 1 ≤ n) (map (some_copies plan) owned)
all_some plan [] k d lt = absurd (omega (arith, lt))
all_some plan (m ∷ owned) zero d lt = omega arith
all_some plan (m ∷ owned) (suc k) d lt = all_some plan owned k d (omega (arith, lt))

-- as many as the plan has, where that is some
deep : (depth : ℕ) → 1 ≤ depth → depth ≡ max depth 1
deep depth l = omega (arith, l)

first_among : (m : ℕ) (owned : List ℕ) → is_among m (m ∷ owned) ≡ true
first_among m owned = ap (λ b. b || is_among m owned) (eq-eqb m m refl)

rest_among : (m o : ℕ) (owned : List ℕ) → is_among m owned ≡ true → is_among m (o ∷ owned) ≡ true
rest_among m o owned h = by (m == o) h
  where
    by : (b : Bool) → is_among m owned ≡ true → (b || is_among m owned) ≡ true
    by true h = refl
    by false h = h

pub depths_are : (plan : PlainPlan) (owned copies : List ℕ) → copies ≡ map (some_copies plan) owned → ((m : ℕ) → is_among m owned ≡ true → 1 ≤ (mem_plan plan m).depth) → AreDepths plan owned copies
depths_are plan owned copies e have = go owned have ∙ sym e
  where
    go : (owned : List ℕ) → ((m : ℕ) → is_among m owned ≡ true → 1 ≤ (mem_plan plan m).depth) → map (λ m. (mem_plan plan m).depth) owned ≡ map (some_copies plan) owned
    go [] have = refl
    go (m ∷ owned) have =
        ap (λ d. d ∷ map (λ m. (mem_plan plan m).depth) owned) (deep (mem_plan plan m).depth (have m (first_among m owned))) ∙ ap (λ ds. some_copies plan m ∷ ds) (go owned (λ x h. have x (rest_among x m owned h)))

copied_long : (copies : List ℕ) (nets : List (Option ℕ)) → AreCopied copies nets → length copies ≡ length nets
copied_long [] [] h = refl
copied_long [] (x ∷ nets) h = absurd h
copied_long (c ∷ copies) [] h = absurd h
copied_long (c ∷ copies) (x ∷ nets) h = ap suc (copied_long copies nets h.1)

pub slot_long : (copies : List ℕ) (slots : List SlotNumbers) (x : ℕ) → x < length slots → All (λ (slot : SlotNumbers). AreCopied copies slot.nets.items) slots → length (slot_numbers slots x) ≡ length copies
slot_long copies [] x lt h = absurd (omega (arith, lt))
slot_long copies (slot ∷ slots) zero lt h = sym (copied_long copies slot.nets.items (h 0 slot (omega arith)))
slot_long copies (slot ∷ slots) (suc x) lt h = slot_long copies slots x (omega (arith, lt)) (λ k d l. h (suc k) d (omega (arith, l)))

pub all_at : (P : ℕ → Type 0) (xs : List ℕ) → All P xs → (x : ℕ) → x < length xs → P (slice_index xs x)
all_at P [] h x lt = absurd (omega (arith, lt))
all_at P (y ∷ xs) h zero lt = h 0 y (omega arith)
all_at P (y ∷ xs) h (suc x) lt = all_at P xs (λ k d l. h (suc k) d (omega (arith, l))) x (omega (arith, lt))

-- in a draft that has grown
pub stand_later : (a b : Draft) (nets : List (Option ℕ)) → Grows a b → StandNumbers a nets → StandNumbers b nets
stand_later a b nets g h net k = HasNet-stays a b net 32 g (h net k)

pub copies_later : (a b : Draft) (copies : LoopCopies) → Grows a b → CopiesStand a copies → CopiesStand b copies
copies_later a b copies g h = record {
  numbers = λ x. stand_later a b (slot_numbers copies.numbers.items x) g (h.numbers x);
  coming = λ x lt. stand_later a b (slot_numbers copies.coming.items x) g (h.coming x lt);
}

pub turn_later : (a b : Draft) (turns : LoopTurns) → Grows a b → TurnsStand a turns → TurnsStand b turns
turn_later a b turns g h = record { start = HasNet-stays a b turns.start 1 g h.start; firsts = λ k net lt. HasNet-stays a b _ 1 g (h.firsts k net lt) }

pub all_later : (a b : Draft) (all : List LoopCopies) → Grows a b → All (CopiesStand a) all → All (CopiesStand b) all
all_later a b all g h k c lt = copies_later a b _ g (h k c lt)

pub zip_end : {A B : Type 0} (R : A → B → Type 0) (xs : List A) (us : List B) (x : A) (u : B) → AllZip R xs us → R x u → AllZip R (xs ++ x ∷ []) (us ++ u ∷ [])
zip_end R [] [] x u h r = (r, tt)
zip_end R [] (v ∷ us) x u h r = absurd h
zip_end R (y ∷ xs) [] x u h r = absurd h
zip_end R (y ∷ xs) (v ∷ us) x u h r = (h.0, zip_end R xs us x u h.1 r)

pub zip_map : {A B : Type 0} (R S : A → B → Type 0) (xs : List A) (us : List B) → ((x : A) (u : B) → R x u → S x u) → AllZip R xs us → AllZip S xs us
zip_map R S [] [] f h = tt
zip_map R S [] (v ∷ us) f h = absurd h
zip_map R S (y ∷ xs) [] f h = absurd h
zip_map R S (y ∷ xs) (v ∷ us) f h = (f y v h.0, zip_map R S xs us f h.1)

pub all_more : {A : Type 0} (P : A → Type 0) (xs : List A) (x : A) → All P xs → P x → All P (xs ++ x ∷ [])
all_more P xs x h p = All-append P xs (x ∷ []) h one
  where
    one : (k : ℕ) (y : _) → k < length (x ∷ []) → P (slice_index_or (x ∷ []) k y)
    one zero y lt = p
    one (suc k) y lt = absurd (omega (arith, lt))
