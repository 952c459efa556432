-- Each stage of a loop has a place, in its slot.
use Rattle.std.proofs.Common.{◌≡◌, ℕ, zero, suc, ◌<◌, ◌⊎◌, inl, inr, Bool, true, false, List, [], ◌∷◌, ◌++◌, length, slice_index, refl, sym, ap, subst, ◌∙◌, arith}
use Rattle.sp_time.specs.Beats.{Slot as Place, slot_at, is_slot}
use Rattle.sp_time.proofs.ListLemmas.{greatest_ge}
use Rattle.sp_part_runs.specs.SequencesPlaces.{stages_in, stage_at, IsPlace, AreArranged}
use Rattle.sp_part_runs.proofs.SequencesPlacing.{is_same}

-- one more at the end
before_last : (xs : List ℕ) (x i : ℕ) → i < length xs → slice_index (xs ++ x ∷ []) i ≡ slice_index xs i
before_last [] x i l = absurd (omega (arith, l))
before_last (y ∷ xs) x zero l = refl
before_last (y ∷ xs) x (suc i) l = before_last xs x i (omega (arith, l))

at_end : (xs : List ℕ) (x : ℕ) → slice_index (xs ++ x ∷ []) (length xs) ≡ x
at_end [] x = refl
at_end (y ∷ xs) x = at_end xs x

longer : (xs : List ℕ) (x : ℕ) → length (xs ++ x ∷ []) ≡ suc (length xs)
longer [] x = refl
longer (y ∷ xs) x = ap suc (longer xs x)

split : (i n : ℕ) → i < suc n → (i < n) ⊎ (i ≡ n)
split i n l = grind arith

-- a stage in the list of its chain
module _ (slots : List Place) (p : Place) (s : ℕ) (here : is_slot (slot_at slots s) p ≡ true) where
  abbrev Listed : List ℕ → Type 0
  Listed xs = (i : ℕ) × (i < length xs) × (slice_index xs i ≡ s)

  stage_listed : (n : ℕ) → s < n → Listed (stages_in slots p n)
  stage_listed zero l = absurd (omega (arith, l))
  stage_listed (suc n) l = by (is_slot (slot_at slots n) p) refl (split s n l) (stage_listed n)
    where
      by : (b : Bool) → is_slot (slot_at slots n) p ≡ b → (s < n) ⊎ (s ≡ n) → (s < n → Listed (stages_in slots p n)) → Listed (elim b as (λ _. List ℕ) [ true ↦ stages_in slots p n ++ n ∷ [] | false ↦ stages_in slots p n ])
      by true e (inl m) rest = let r = rest m in let k = r.1 in (r.0, (let x = longer (stages_in slots p n) n in omega (arith, x, k)), before_last (stages_in slots p n) n r.0 r.1 ∙ r.2)
      by true e (inr m) rest = (length (stages_in slots p n), (let x = longer (stages_in slots p n) n in omega (arith, x)), at_end (stages_in slots p n) n ∙ sym m)
      by false e (inl m) rest = rest m
      by false e (inr m) rest = absurd (let f = ap (λ x. is_slot (slot_at slots x) p) m in cc (e, f, here))

-- each stage has a place, in its slot
pub record HasPlace (places : List (List (List ℕ))) (slot s : ℕ) : Type 0 where
  pub chain : ℕ
  pub member : ℕ
  pub place : IsPlace places slot chain member
  pub is : stage_at places slot chain member ≡ s

pub has_place : (places : List (List (List ℕ))) (slots : List Place) → AreArranged places slots → (s : ℕ) → s < length slots → HasPlace places (slot_at slots s).slot s
has_place places slots arranged s l =
    let a = arranged.all s l in
    let each = arranged.each in
    let top = greatest_ge (λ j. (slot_at slots j).slot) (length slots) s l in
    let i = stage_listed slots (slot_at slots s) s (is_same (slot_at slots s) (slot_at slots s) refl) (length slots) l in
    record {
      chain = a.0;
      member = i.0;
      place = (omega (arith, each, top), a.1, subst (λ (xs : List ℕ). i.0 < length xs) (sym a.2) i.1);
      is = ap (λ (xs : List ℕ). slice_index xs i.0) a.2 ∙ i.2;
    }
