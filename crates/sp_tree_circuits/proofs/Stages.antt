-- The stages of a loop in beats by their places.
use Rattle.std.proofs.Common.{◌≡◌, ℕ, zero, suc, ◌+◌, ◌<◌, ◌⊎◌, inl, inr, Bool, true, false, List, [], ◌∷◌, ◌++◌, map, length, slice_index, slice_index_or, refl, sym, ap, subst, ◌∙◌, arith}
use Rattle.sp_sequence.specs.declared.part.Chain.{Chain}
use Rattle.sp_sequence.specs.declared.part.Member.{Member}
use Rattle.sp_sequence.specs.declared.part.Slot.{Slot}
use Rattle.sp_time.specs.Beats.{Slot as Place, slot_at, is_slot}
use Rattle.sp_time.proofs.ListLemmas.{greatest_ge}
use Rattle.sp_part_runs.specs.SequencesChains.{Numbered}
use Rattle.sp_part_runs.specs.SequencesPlaces.{stages_in, stage_at, sizes, IsPlace, AreArranged}
use Rattle.sp_part_runs.specs.SequencesRuns.{sizes_of, shape_of}
use Rattle.sp_part_runs.proofs.SequencesPlacing.{is_same, same_slot, standing}

pub numbered_both : {A : Type 0} (P Q : ℕ → A → Type 0) (n : ℕ) (xs : List A) → Numbered P n xs → Numbered Q n xs → Numbered (λ i x. P i x × Q i x) n xs
numbered_both P Q n [] h k = tt
numbered_both P Q n (x ∷ xs) h k = ((h.0, k.0), numbered_both P Q (suc n) xs h.1 k.1)

pub numbered_step : {A : Type 0} (P Q : ℕ → A → Type 0) (n : ℕ) (xs : List A) → ((i : ℕ) (x : A) → P i x → Q i x) → Numbered P n xs → Numbered Q n xs
numbered_step P Q n [] step h = tt
numbered_step P Q n (x ∷ xs) step h = (step n x h.0, numbered_step P Q (suc n) xs step h.1)

module _ (R : (slot chain member : ℕ) → Type 0) where
  at_member : (x j n i : ℕ) (ms : List Member) → Numbered (λ i m. R x j i) n ms → i < length ms → R x j (n + i)
  at_member x j n i [] h l = absurd (omega (arith, l))
  at_member x j n zero (m ∷ ms) h l = subst (R x j) {x = n} {y = n + 0} (omega arith) h.0
  at_member x j n (suc i) (m ∷ ms) h l = subst (R x j) {x = suc n + i} {y = n + suc i} (omega arith) (at_member x j (suc n) i ms h.1 (omega (arith, l)))

  same_heads : (a b : ℕ) (xs ys : List ℕ) → a ∷ xs ≡ b ∷ ys → (a ≡ b) × (xs ≡ ys)
  same_heads a b xs ys e = (cc (e), cc (e))

  at_chain : (x n j i : ℕ) (cs : List Chain) (ps : List (List ℕ)) → sizes_of cs ≡ map (λ (c : List ℕ). length c) ps → Numbered (λ j (c : Chain). Numbered (λ i m. R x j i) 0 c.members.items) n cs → j < length ps → i < length (slice_index_or ps j []) → R x (n + j) i
  at_chain x n j i cs [] e h l m = absurd (omega (arith, l))
  at_chain x n j i [] (p ∷ ps) e h l m = absurd (cc (e))
  at_chain x n zero i (c ∷ cs) (p ∷ ps) e h l m =
      let f = same_heads (length c.members.items) (length p) (sizes_of cs) (map (λ (c : List ℕ). length c) ps) e in
      subst (λ q. R x q i) {x = n} {y = n + 0} (omega arith) (let g = f.0 in subst (R x n) {x = 0 + i} {y = i} (omega arith) (at_member x n 0 i c.members.items h.0 (omega (arith, g, m))))
  at_chain x n (suc j) i (c ∷ cs) (p ∷ ps) e h l m =
      let f = same_heads (length c.members.items) (length p) (sizes_of cs) (map (λ (c : List ℕ). length c) ps) e in
      subst (λ q. R x q i) {x = suc n + j} {y = n + suc j} (omega arith) (at_chain x (suc n) j i cs ps f.1 h.1 (omega (arith, l)) m)

  same_lists : (a b : List ℕ) (xs ys : List (List ℕ)) → a ∷ xs ≡ b ∷ ys → (a ≡ b) × (xs ≡ ys)
  same_lists a b xs ys e = (cc (e), cc (e))

  at_slot : (n x j i : ℕ) (slots : List Slot) (places : List (List (List ℕ))) → shape_of slots ≡ sizes places → Numbered (λ x (slot : Slot). Numbered (λ j (c : Chain). Numbered (λ i m. R x j i) 0 c.members.items) 0 slot.chains.items) n slots
      → x < length places → j < length (slice_index_or places x []) → i < length (slice_index_or (slice_index_or places x []) j []) → R (n + x) j i
  at_slot n x j i slots [] e h l m o = absurd (omega (arith, l))
  at_slot n x j i [] (p ∷ places) e h l m o = absurd (cc (e))
  at_slot n zero j i (slot ∷ slots) (p ∷ places) e h l m o =
      let f = same_lists (sizes_of slot.chains.items) (map (λ (c : List ℕ). length c) p) (shape_of slots) (sizes places) e in
      subst (λ q. R q j i) {x = n} {y = n + 0} (omega arith) (subst (λ q. R n q i) {x = 0 + j} {y = j} (omega arith) (at_chain n 0 j i slot.chains.items p f.0 h.0 m o))
  at_slot n (suc x) j i (slot ∷ slots) (p ∷ places) e h l m o =
      let f = same_lists (sizes_of slot.chains.items) (map (λ (c : List ℕ). length c) p) (shape_of slots) (sizes places) e in
      subst (λ q. R q j i) {x = suc n + x} {y = n + suc x} (omega arith) (at_slot (suc n) x j i slots places f.1 h.1 (omega (arith, l)) m o)

  pub at_place : (slots : List Slot) (places : List (List (List ℕ))) → shape_of slots ≡ sizes places → Numbered (λ x (slot : Slot). Numbered (λ j (c : Chain). Numbered (λ i m. R x j i) 0 c.members.items) 0 slot.chains.items) 0 slots
      → (x j i : ℕ) → IsPlace places x j i → R x j i
  at_place slots places e h x j i (a, b, c) = subst (λ q. R q j i) {x = 0 + x} {y = x} (omega arith) (at_slot 0 x j i slots places e h a b c)

-- one more at the end
before_last : (xs : List ℕ) (x i : ℕ) → i < length xs → slice_index (xs ++ x ∷ []) i ≡ slice_index xs i
before_last [] x i l = absurd (omega (arith, l))
before_last (y ∷ xs) x zero l = refl
before_last (y ∷ xs) x (suc i) l = before_last xs x i (omega (arith, l))

at_end : (xs : List ℕ) (x : ℕ) → slice_index (xs ++ x ∷ []) (length xs) ≡ x
at_end [] x = refl
at_end (y ∷ xs) x = at_end xs x

longer : (xs : List ℕ) (x : ℕ) → length (xs ++ x ∷ []) ≡ suc (length xs)
longer [] x = refl
longer (y ∷ xs) x = ap suc (longer xs x)

split : (i n : ℕ) → i < suc n → (i < n) ⊎ (i ≡ n)
split i n l = grind arith

-- a stage in the list of its chain
module _ (slots : List Place) (p : Place) (s : ℕ) (here : is_slot (slot_at slots s) p ≡ true) where
  abbrev Listed : List ℕ → Type 0
  Listed xs = (i : ℕ) × (i < length xs) × (slice_index xs i ≡ s)

  stage_listed : (n : ℕ) → s < n → Listed (stages_in slots p n)
  stage_listed zero l = absurd (omega (arith, l))
  stage_listed (suc n) l = by (is_slot (slot_at slots n) p) refl (split s n l) (stage_listed n)
    where
      by : (b : Bool) → is_slot (slot_at slots n) p ≡ b → (s < n) ⊎ (s ≡ n) → (s < n → Listed (stages_in slots p n)) → Listed (elim b as (λ _. List ℕ) [ true ↦ stages_in slots p n ++ n ∷ [] | false ↦ stages_in slots p n ])
      by true e (inl m) rest = let r = rest m in let k = r.1 in (r.0, (let x = longer (stages_in slots p n) n in omega (arith, x, k)), before_last (stages_in slots p n) n r.0 r.1 ∙ r.2)
      by true e (inr m) rest = (length (stages_in slots p n), (let x = longer (stages_in slots p n) n in omega (arith, x)), at_end (stages_in slots p n) n ∙ sym m)
      by false e (inl m) rest = rest m
      by false e (inr m) rest = absurd (let f = ap (λ x. is_slot (slot_at slots x) p) m in cc (e, f, here))

-- each stage has a place, in its slot
pub record HasPlace (places : List (List (List ℕ))) (slot s : ℕ) : Type 0 where
  pub chain : ℕ
  pub member : ℕ
  pub place : IsPlace places slot chain member
  pub is : stage_at places slot chain member ≡ s

pub has_place : (places : List (List (List ℕ))) (slots : List Place) → AreArranged places slots → (s : ℕ) → s < length slots → HasPlace places (slot_at slots s).slot s
has_place places slots arranged s l =
    let a = arranged.all s l in
    let each = arranged.each in
    let top = greatest_ge (λ j. (slot_at slots j).slot) (length slots) s l in
    let i = stage_listed slots (slot_at slots s) s (is_same (slot_at slots s) (slot_at slots s) refl) (length slots) l in
    record {
      chain = a.0;
      member = i.0;
      place = (omega (arith, each, top), a.1, subst (λ (xs : List ℕ). i.0 < length xs) (sym a.2) i.1);
      is = ap (λ (xs : List ℕ). slice_index xs i.0) a.2 ∙ i.2;
    }

-- and the stage of a place is in its slot
pub in_slot : (places : List (List (List ℕ))) (slots : List Place) → AreArranged places slots → (x j i : ℕ) → IsPlace places x j i → (stage_at places x j i < length slots) × ((slot_at slots (stage_at places x j i)).slot ≡ x)
in_slot places slots arranged x j i (a, b, c) =
    let h = arranged.chains x j a b in
    let q = standing slots (λ s. s) (record { slot = x; chain = h.0 }) (length slots) i (subst (λ (xs : List ℕ). i < length xs) h.1 c) in
    let is : stage_at places x j i ≡ q.stage = ap (λ (xs : List ℕ). slice_index xs i) h.1 ∙ q.is in
    let same : slot_at slots q.stage ≡ record { slot = x; chain = h.0 } = same_slot (slot_at slots q.stage) (record { slot = x; chain = h.0 }) q.here in
    (subst (λ m. m < length slots) (sym is) q.below, ap (λ m. (slot_at slots m).slot) is ∙ ap (λ (y : Place). y.slot) same)
