-- Each stage stands in the chain that its first stage begins.
use Rattle.std.proofs.Common.{◌≡◌, ℕ, zero, suc, ◌<◌, ◌≤◌, ◌⊎◌, inl, inr, Bool, true, false, ◌||◌, not, nat_eq, refl, sym, ap, subst, ◌∙◌, arith, List, [], ◌∷◌, ◌++◌, length}
use Rattle.std.specs.Prelude.{slice_index_or}
use Rattle.std.proofs.lemmas.Bool.{and_parts, and_from, eqb-true, eq-eqb}
use Rattle.sp_time.specs.Beats.{Slot, slot_at, is_slot}
use Rattle.sp_time.proofs.ListLemmas.{greatest_ge}
use Rattle.sp_part_runs.specs.SequencesPlaces.{stages_in, last_slot}
use Rattle.sp_part_runs.proofs.SequencesCycles.{one_of, is_not}
use Rattle.sp_part_runs.proofs.SequencesPlacing.{same_slot, is_same}
use Rattle.sp_stage_places.specs.Arranged.{is_seen, begins_chain, chains_of, first_slots, arranged}
use Rattle.sp_stage_places.specs.Laws.{StagesAreArranged}

-- one more element at the end
at_before : {A : Type 0} (xs : List A) (x d : A) (i : ℕ) → i < length xs → slice_index_or (xs ++ x ∷ []) i d ≡ slice_index_or xs i d
at_before [] x d i l = absurd (omega (arith, l))
at_before (y ∷ xs) x d zero l = refl
at_before (y ∷ xs) x d (suc i) l = at_before xs x d i (omega (arith, l))

at_last : {A : Type 0} (xs : List A) (x d : A) → slice_index_or (xs ++ x ∷ []) (length xs) d ≡ x
at_last [] x d = refl
at_last (y ∷ xs) x d = at_last xs x d

length_more : {A : Type 0} (xs : List A) (x : A) → length (xs ++ x ∷ []) ≡ suc (length xs)
length_more [] x = refl
length_more (y ∷ xs) x = ap suc (length_more xs x)

split : (i n : ℕ) → i < suc n → (i < n) ⊎ (i ≡ n)
split i n l = grind arith

module _ (slots : List Slot) where
  -- a chain has the stages that are in it
  some_in : (s n : ℕ) → s < n → 1 ≤ length (stages_in slots (slot_at slots s) n)
  some_in s zero l = absurd (omega (arith, l))
  some_in s (suc n) l = by (is_slot (slot_at slots n) (slot_at slots s)) refl (split s n l) (some_in s n)
    where
      by : (b : Bool) → is_slot (slot_at slots n) (slot_at slots s) ≡ b → (s < n) ⊎ (s ≡ n) → (s < n → 1 ≤ length (stages_in slots (slot_at slots s) n))
          → 1 ≤ length (elim b as (λ _. List ℕ) [ true ↦ stages_in slots (slot_at slots s) n ++ n ∷ [] | false ↦ stages_in slots (slot_at slots s) n ])
      by true e _ rest = let m = length_more (stages_in slots (slot_at slots s) n) n in omega (arith, m)
      by false e (inl m) rest = rest m
      by false e (inr m) rest = absurd (let f : is_slot (slot_at slots n) (slot_at slots s) ≡ true = is_same (slot_at slots n) (slot_at slots s) (ap (slot_at slots) (sym m)) in cc (e, f))

  record IsChain (g n : ℕ) (chain : List ℕ) : Type 0 where
    stage : ℕ
    below : stage < n
    slot : (slot_at slots stage).slot ≡ g
    is : chain ≡ stages_in slots (slot_at slots stage) (length slots)

  -- each chain of a slot is that of a stage
  chain_at : (g n j : ℕ) → j < length (chains_of slots g n) → IsChain g n (slice_index_or (chains_of slots g n) j [])
  chain_at g zero j l = absurd (omega (arith, l))
  chain_at g (suc n) j l = by (begins_chain slots g n) refl l (chain_at g n j)
    where
      one_more : (chain : List ℕ) → IsChain g n chain → IsChain g (suc n) chain
      one_more chain h = record { stage = h.stage; below = (let b = h.below in omega (arith, b)); slot = h.slot; is = h.is }

      by : (b : Bool) → begins_chain slots g n ≡ b → j < length (elim b as (λ _. List (List ℕ)) [ true ↦ chains_of slots g n ++ stages_in slots (slot_at slots n) (length slots) ∷ [] | false ↦ chains_of slots g n ])
          → (j < length (chains_of slots g n) → IsChain g n (slice_index_or (chains_of slots g n) j []))
          → IsChain g (suc n) (slice_index_or (elim b as (λ _. List (List ℕ)) [ true ↦ chains_of slots g n ++ stages_in slots (slot_at slots n) (length slots) ∷ [] | false ↦ chains_of slots g n ]) j [])
      by false e m rest = one_more _ (rest m)
      by true e m rest = place (split j (length (chains_of slots g n)) (subst (λ k. j < k) (length_more (chains_of slots g n) (stages_in slots (slot_at slots n) (length slots))) m))
        where
          place : (j < length (chains_of slots g n)) ⊎ (j ≡ length (chains_of slots g n)) → IsChain g (suc n) (slice_index_or (chains_of slots g n ++ stages_in slots (slot_at slots n) (length slots) ∷ []) j [])
          place (inl k) = one_more _ (subst (IsChain g n) (sym (at_before (chains_of slots g n) (stages_in slots (slot_at slots n) (length slots)) [] j k)) (rest k))
          place (inr k) = record {
            stage = n;
            below = omega arith;
            slot = eqb-true (slot_at slots n).slot g (and_parts _ _ e).0;
            is = ap (λ i. slice_index_or (chains_of slots g n ++ stages_in slots (slot_at slots n) (length slots) ∷ []) i []) k ∙ at_last (chains_of slots g n) (stages_in slots (slot_at slots n) (length slots)) [];
          }

  -- a chain that was seen has begun
  seen_in : (p : Slot) (n : ℕ) → is_seen slots p n ≡ true → (j : ℕ) × (j < length (chains_of slots p.slot n)) × (slice_index_or (chains_of slots p.slot n) j [] ≡ stages_in slots p (length slots))
  seen_in p zero h = absurd (cc)
  seen_in p (suc n) h = by (begins_chain slots p.slot n) refl (seen_in p n)
    where
      earlier : begins_chain slots p.slot n ≡ false → (is_slot (slot_at slots n) p ≡ true) ⊎ (is_seen slots p n ≡ true) → is_seen slots p n ≡ true
      earlier e (inr s) = s
      earlier e (inl t) = known (is_seen slots p n) refl
        where
          same : slot_at slots n ≡ p
          same = same_slot (slot_at slots n) p t

          known : (b : Bool) → is_seen slots p n ≡ b → b ≡ true
          known true s = refl
          known false s =
              absurd
              (let f : begins_chain slots p.slot n ≡ true =
              and_from (nat_eq (slot_at slots n).slot p.slot) (not (is_seen slots (slot_at slots n) n)) (eq-eqb (slot_at slots n).slot p.slot (ap (λ (x : Slot). x.slot) same)) (is_not (is_seen slots (slot_at slots n) n) (ap (λ x. is_seen slots x n) same ∙ s)) in
              cc (e, f))

      by : (b : Bool) → begins_chain slots p.slot n ≡ b → (is_seen slots p n ≡ true → (j : ℕ) × (j < length (chains_of slots p.slot n)) × (slice_index_or (chains_of slots p.slot n) j [] ≡ stages_in slots p (length slots)))
          → (j : ℕ) × (j < length (elim b as (λ _. List (List ℕ)) [ true ↦ chains_of slots p.slot n ++ stages_in slots (slot_at slots n) (length slots) ∷ [] | false ↦ chains_of slots p.slot n ]))
          × (slice_index_or (elim b as (λ _. List (List ℕ)) [ true ↦ chains_of slots p.slot n ++ stages_in slots (slot_at slots n) (length slots) ∷ [] | false ↦ chains_of slots p.slot n ]) j [] ≡ stages_in slots p (length slots))
      by false e rest = rest (earlier e (one_of (is_slot (slot_at slots n) p) (is_seen slots p n) h))
      by true e rest = which (one_of (is_slot (slot_at slots n) p) (is_seen slots p n) h)
        where
          more : length (chains_of slots p.slot n ++ stages_in slots (slot_at slots n) (length slots) ∷ []) ≡ suc (length (chains_of slots p.slot n))
          more = length_more (chains_of slots p.slot n) (stages_in slots (slot_at slots n) (length slots))

          which : (is_slot (slot_at slots n) p ≡ true) ⊎ (is_seen slots p n ≡ true) → (j : ℕ) × (j < length (chains_of slots p.slot n ++ stages_in slots (slot_at slots n) (length slots) ∷ []))
              × (slice_index_or (chains_of slots p.slot n ++ stages_in slots (slot_at slots n) (length slots) ∷ []) j [] ≡ stages_in slots p (length slots))
          which (inl t) = (length (chains_of slots p.slot n), (let m = more in omega (arith, m)), at_last (chains_of slots p.slot n) (stages_in slots (slot_at slots n) (length slots)) [] ∙ ap (λ x. stages_in slots x (length slots)) (same_slot (slot_at slots n) p t))
          which (inr s) = let r = rest s in let l = r.1 in (r.0, (let m = more in omega (arith, m, l)), at_before (chains_of slots p.slot n) (stages_in slots (slot_at slots n) (length slots)) [] r.0 r.1 ∙ r.2)

  seen_stage : (s n : ℕ) → s < n → is_seen slots (slot_at slots s) n ≡ true
  seen_stage s zero l = absurd (omega (arith, l))
  seen_stage s (suc n) l = by (split s n l) (seen_stage s n)
    where
      either_one : (a b : Bool) → (a ≡ true) ⊎ (b ≡ true) → (a || b) ≡ true
      either_one true b h = refl
      either_one false b (inl h) = absurd (cc)
      either_one false b (inr h) = h

      by : (s < n) ⊎ (s ≡ n) → (s < n → is_seen slots (slot_at slots s) n ≡ true) → (is_slot (slot_at slots n) (slot_at slots s) || is_seen slots (slot_at slots s) n) ≡ true
      by (inl m) rest = either_one (is_slot (slot_at slots n) (slot_at slots s)) (is_seen slots (slot_at slots s) n) (inr (rest m))
      by (inr m) rest = either_one (is_slot (slot_at slots n) (slot_at slots s)) (is_seen slots (slot_at slots s) n) (inl (is_same (slot_at slots n) (slot_at slots s) (ap (slot_at slots) (sym m))))

  -- the slots by number
  count_is : (n : ℕ) → length (first_slots slots n) ≡ n
  count_is zero = refl
  count_is (suc n) = length_more (first_slots slots n) (chains_of slots n (length slots)) ∙ ap suc (count_is n)

  slot_is : (n k : ℕ) → k < n → slice_index_or (first_slots slots n) k [] ≡ chains_of slots k (length slots)
  slot_is zero k l = absurd (omega (arith, l))
  slot_is (suc n) k l = by (split k n l) (slot_is n k)
    where
      by : (k < n) ⊎ (k ≡ n) → (k < n → slice_index_or (first_slots slots n) k [] ≡ chains_of slots k (length slots)) → slice_index_or (first_slots slots n ++ chains_of slots n (length slots) ∷ []) k [] ≡ chains_of slots k (length slots)
      by (inl m) rest = at_before (first_slots slots n) (chains_of slots n (length slots)) [] k (let c = count_is n in omega (arith, c, m)) ∙ rest m
      by (inr m) rest =
          let c : k ≡ length (first_slots slots n) = m ∙ sym (count_is n) in
          ap (λ i. slice_index_or (first_slots slots n ++ chains_of slots n (length slots) ∷ []) i []) c ∙ at_last (first_slots slots n) (chains_of slots n (length slots)) [] ∙ ap (λ g. chains_of slots g (length slots)) (sym m)

pub stages_are_arranged : StagesAreArranged
stages_are_arranged slots full = record { each = count_is slots (suc (last_slot slots)); some = some; chains = chains; all = all }
  where
    here : (k : ℕ) → k < length (arranged slots) → slice_index_or (arranged slots) k [] ≡ chains_of slots k (length slots)
    here k l = slot_is slots (suc (last_slot slots)) k (subst (λ n. k < n) (count_is slots (suc (last_slot slots))) l)

    stage_in : (s : ℕ) → s < length slots → (j : ℕ) × (j < length (chains_of slots (slot_at slots s).slot (length slots))) × (slice_index_or (chains_of slots (slot_at slots s).slot (length slots)) j [] ≡ stages_in slots (slot_at slots s) (length slots))
    stage_in s l = seen_in slots (slot_at slots s) (length slots) (seen_stage slots s (length slots) l)

    some : (k : ℕ) → k < length (arranged slots) → 1 ≤ length (slice_index_or (arranged slots) k [])
    some k l =
        let c = count_is slots (suc (last_slot slots)) in
        let f = full k (omega (arith, l, c)) in
        let q = subst (λ g. (j : ℕ) × (j < length (chains_of slots g (length slots))) × (slice_index_or (chains_of slots g (length slots)) j [] ≡ stages_in slots (slot_at slots f.0) (length slots))) f.2 (stage_in f.0 f.1) in
        let m = q.1 in
        subst (λ cs. 1 ≤ length cs) (sym (here k l)) (omega (arith, m))

    chains : (k j : ℕ) → k < length (arranged slots) → j < length (slice_index_or (arranged slots) k []) → (c : ℕ) × (slice_index_or (slice_index_or (arranged slots) k []) j [] ≡ stages_in slots (record { slot = k; chain = c }) (length slots)) × (1 ≤ length (slice_index_or (slice_index_or (arranged slots) k []) j []))
    chains k j l m =
        let h = chain_at slots k (length slots) j (subst (λ cs. j < length cs) (here k l) m) in
        let is : slice_index_or (slice_index_or (arranged slots) k []) j [] ≡ stages_in slots (slot_at slots h.stage) (length slots) = ap (λ cs. slice_index_or cs j []) (here k l) ∙ h.is in
        let same : slot_at slots h.stage ≡ record { slot = k; chain = (slot_at slots h.stage).chain } = ap (λ g. record { slot = g; chain = (slot_at slots h.stage).chain }) h.slot in
        ((slot_at slots h.stage).chain, is ∙ ap (λ x. stages_in slots x (length slots)) same, subst (λ xs. 1 ≤ length xs) (sym is) (some_in slots h.stage (length slots) h.below))

    all : (s : ℕ) → s < length slots → (j : ℕ) × (j < length (slice_index_or (arranged slots) (slot_at slots s).slot [])) × (slice_index_or (slice_index_or (arranged slots) (slot_at slots s).slot []) j [] ≡ stages_in slots (slot_at slots s) (length slots))
    all s l =
        let top = greatest_ge (λ j. (slot_at slots j).slot) (length slots) s l in
        let c = count_is slots (suc (last_slot slots)) in
        subst (λ cs. (j : ℕ) × (j < length cs) × (slice_index_or cs j [] ≡ stages_in slots (slot_at slots s) (length slots))) (sym (here (slot_at slots s).slot (omega (arith, top, c)))) (stage_in s l)
