-- Each stage stands in one place.
use Rattle.std.proofs.Common.{◌≡◌, ℕ, zero, suc, ◌<◌, ◌⊎◌, inl, inr, Bool, true, false, ◌||◌, not, nat_eq, refl, sym, ap, subst, ◌∙◌, arith, List, [], ◌∷◌, ◌++◌, length, map}
use Rattle.std.specs.Prelude.{Contains}
use Rattle.std.specs.List.{concat}
use Rattle.std.proofs.lemmas.Bool.{and_parts, and_from, eqb-true, eq-eqb}
use Rattle.std.proofs.lemmas.List.{append-nil, map-append}
use Rattle.std.proofs.lemmas.List.Elements.{Contains-append_left, Contains-append_right, Contains-append_cases}
use Rattle.std.proofs.lemmas.List.Folds.{concat-append}
use Rattle.sp_time.specs.Beats.{Slot, slot_at, is_slot}
use Rattle.sp_time.proofs.ListLemmas.{greatest_ge}
use Rattle.sp_part_runs.specs.SequencesPlaces.{stages_in, last_slot}
use Rattle.sp_part_runs.proofs.SequencesCycles.{one_of, is_not}
use Rattle.sp_part_runs.proofs.SequencesPlacing.{same_slot, is_same}
use Rattle.sp_stage_places.specs.Arranged.{is_seen, begins_chain, chains_of, first_slots}
use Rattle.sp_stage_members.specs.Placed.{stages_of, AreOnce}
use Rattle.sp_stage_members.specs.Laws.{StagesStandOnce}

pub none_in : (n : ℕ) → Contains [] n → ⊥
none_in n h = let l = h.1 in absurd (omega (arith, l))

pub one_in : (x n : ℕ) → Contains (x ∷ []) n → n ≡ x
one_in x n h = by h.0 h.1 h.2
  where
    by : (k : ℕ) → k < 1 → Rattle.std.specs.Prelude.slice_index_or (x ∷ []) k n ≡ n → n ≡ x
    by zero l e = sym e
    by (suc k) l e = absurd (omega (arith, l))

pub first_in : (x : ℕ) (xs : List ℕ) → Contains (x ∷ xs) x
first_in x xs = (0, omega arith, refl)

pub rest_in : (x : ℕ) (xs : List ℕ) (n : ℕ) → Contains xs n → Contains (x ∷ xs) n
rest_in x xs n h = let l = h.1 in (suc h.0, omega (arith, l), h.2)

-- lists end to end
pub once_joined : (xs ys : List ℕ) → AreOnce xs → AreOnce ys → ((n : ℕ) → Contains xs n → Contains ys n → ⊥) → AreOnce (xs ++ ys)
once_joined [] ys a b apart = b
once_joined (x ∷ xs) ys a b apart = (
  λ h. elim (Contains-append_cases xs ys x h) [ inl p ↦ a.0 p | inr p ↦ apart x (first_in x xs) p ],
  once_joined xs ys a.1 b (λ n p q. apart n (rest_in x xs n p) q),
)

one_once : (n : ℕ) → AreOnce (n ∷ [])
one_once n = (none_in n, tt)

split : (i n : ℕ) → i < suc n → (i < n) ⊎ (i ≡ n)
split i n l = grind arith

either_one : (a b : Bool) → (a ≡ true) ⊎ (b ≡ true) → (a || b) ≡ true
either_one true b h = refl
either_one false b (inl h) = absurd (cc)
either_one false b (inr h) = h

seen_no_more : (b : Bool) → not b ≡ true → b ≡ true → ⊥
seen_no_more true h g = absurd (cc)
seen_no_more false h g = absurd (cc)

module _ (slots : List Slot) where
  -- a chain has the stages that are in it
  chain_one_more : (p : Slot) (n s : ℕ) → is_slot (slot_at slots n) p ≡ true → Contains (stages_in slots p n ++ n ∷ []) s → (Contains (stages_in slots p n) s) ⊎ (s ≡ n)
  chain_one_more p n s e h = elim (Contains-append_cases (stages_in slots p n) (n ∷ []) s h) [ inl k ↦ inl k | inr k ↦ inr (one_in n s k) ]

  in_chain : (p : Slot) (n s : ℕ) → Contains (stages_in slots p n) s → (s < n) × (slot_at slots s ≡ p)
  in_chain p zero s h = absurd (none_in s h)
  in_chain p (suc n) s h = by (is_slot (slot_at slots n) p) refl h (in_chain p n s)
    where
      by : (b : Bool) → is_slot (slot_at slots n) p ≡ b → Contains (elim b as (λ _. List ℕ) [ true ↦ stages_in slots p n ++ n ∷ [] | false ↦ stages_in slots p n ]) s
          → (Contains (stages_in slots p n) s → (s < n) × (slot_at slots s ≡ p)) → (s < suc n) × (slot_at slots s ≡ p)
      by false e k rest = let r = rest k in let l = r.0 in (omega (arith, l), r.1)
      by true e k rest = place (chain_one_more p n s e k)
        where
          place : (Contains (stages_in slots p n) s) ⊎ (s ≡ n) → (s < suc n) × (slot_at slots s ≡ p)
          place (inl k) = let r = rest k in let l = r.0 in (omega (arith, l), r.1)
          place (inr k) = (omega (arith, k), ap (slot_at slots) k ∙ same_slot (slot_at slots n) p e)

  chain_once : (p : Slot) (n : ℕ) → AreOnce (stages_in slots p n)
  chain_once p zero = tt
  chain_once p (suc n) = by (is_slot (slot_at slots n) p) (chain_once p n)
    where
      by : (b : Bool) → AreOnce (stages_in slots p n) → AreOnce (elim b as (λ _. List ℕ) [ true ↦ stages_in slots p n ++ n ∷ [] | false ↦ stages_in slots p n ])
      by false h = h
      by true h = once_joined (stages_in slots p n) (n ∷ []) h (one_once n) (λ s k q. (let l = (in_chain p n s k).0 in let e = one_in n s q in absurd (omega (arith, l, e))))

  chain_has : (p : Slot) (n s : ℕ) → s < n → slot_at slots s ≡ p → Contains (stages_in slots p n) s
  chain_has p zero s l e = absurd (omega (arith, l))
  chain_has p (suc n) s l e = by (is_slot (slot_at slots n) p) refl (split s n l) (λ k. chain_has p n s k e)
    where
      by : (b : Bool) → is_slot (slot_at slots n) p ≡ b → (s < n) ⊎ (s ≡ n) → (s < n → Contains (stages_in slots p n) s) → Contains (elim b as (λ _. List ℕ) [ true ↦ stages_in slots p n ++ n ∷ [] | false ↦ stages_in slots p n ]) s
      by true i (inl k) rest = Contains-append_left (stages_in slots p n) (n ∷ []) s (rest k)
      by true i (inr k) rest = Contains-append_right (stages_in slots p n) (n ∷ []) s (subst (λ m. Contains (m ∷ []) s) k (first_in s []))
      by false i (inl k) rest = rest k
      by false i (inr k) rest = absurd (let f : is_slot (slot_at slots n) p ≡ true = is_same (slot_at slots n) p (ap (slot_at slots) (sym k) ∙ e) in cc (i, f))

  -- the chains of a slot: the stages whose chain has begun
  abbrev whole : Slot → List ℕ
  whole p = stages_in slots p (length slots)

  record IsIn (g n s : ℕ) : Type 0 where
    within : s < length slots
    slot : (slot_at slots s).slot ≡ g
    seen : is_seen slots (slot_at slots s) n ≡ true

  one_chain_more : (xs : List (List ℕ)) (c : List ℕ) → concat (xs ++ c ∷ []) ≡ concat xs ++ c
  one_chain_more xs c = concat-append xs (c ∷ []) ∙ ap (λ ys. concat xs ++ ys) (append-nil c)

  seen_later : (g n s : ℕ) → IsIn g n s → IsIn g (suc n) s
  seen_later g n s h = record { within = h.within; slot = h.slot; seen = either_one (is_slot (slot_at slots n) (slot_at slots s)) (is_seen slots (slot_at slots s) n) (inr h.seen) }

  in_chains : (g n s : ℕ) → Contains (concat (chains_of slots g n)) s → IsIn g n s
  in_chains g zero s h = absurd (none_in s h)
  in_chains g (suc n) s h = by (begins_chain slots g n) refl h (in_chains g n s)
    where
      by : (b : Bool) → begins_chain slots g n ≡ b → Contains (concat (elim b as (λ _. List (List ℕ)) [ true ↦ chains_of slots g n ++ whole (slot_at slots n) ∷ [] | false ↦ chains_of slots g n ])) s
          → (Contains (concat (chains_of slots g n)) s → IsIn g n s) → IsIn g (suc n) s
      by false e k rest = seen_later g n s (rest k)
      by true e k rest = place (Contains-append_cases (concat (chains_of slots g n)) (whole (slot_at slots n)) s (subst (λ xs. Contains xs s) (one_chain_more (chains_of slots g n) (whole (slot_at slots n))) k))
        where
          place : (Contains (concat (chains_of slots g n)) s) ⊎ (Contains (whole (slot_at slots n)) s) → IsIn g (suc n) s
          place (inl q) = seen_later g n s (rest q)
          place (inr q) =
              let r = in_chain (slot_at slots n) (length slots) s q in
              record {
                within = r.0;
                slot = ap (λ (p : Slot). p.slot) r.1 ∙ eqb-true (slot_at slots n).slot g (and_parts _ _ e).0;
                seen = either_one (is_slot (slot_at slots n) (slot_at slots s)) (is_seen slots (slot_at slots s) n) (inl (is_same (slot_at slots n) (slot_at slots s) (sym r.1)));
              }

  chains_once : (g n : ℕ) → AreOnce (concat (chains_of slots g n))
  chains_once g zero = tt
  chains_once g (suc n) = by (begins_chain slots g n) refl (chains_once g n)
    where
      by : (b : Bool) → begins_chain slots g n ≡ b → AreOnce (concat (chains_of slots g n)) → AreOnce (concat (elim b as (λ _. List (List ℕ)) [ true ↦ chains_of slots g n ++ whole (slot_at slots n) ∷ [] | false ↦ chains_of slots g n ]))
      by false e h = h
      by true e h =
          subst AreOnce (sym (one_chain_more (chains_of slots g n) (whole (slot_at slots n))))
          (once_joined (concat (chains_of slots g n)) (whole (slot_at slots n)) h (chain_once (slot_at slots n) (length slots))
          (λ s k q. seen_no_more (is_seen slots (slot_at slots n) n) (and_parts _ _ e).1 (subst (λ p. is_seen slots p n ≡ true) (in_chain (slot_at slots n) (length slots) s q).1 (in_chains g n s k).seen)))

  chains_have : (p : Slot) (n s : ℕ) → slot_at slots s ≡ p → s < length slots → is_seen slots p n ≡ true → Contains (concat (chains_of slots p.slot n)) s
  chains_have p zero s e l h = absurd (cc)
  chains_have p (suc n) s e l h = by (begins_chain slots p.slot n) refl (chains_have p n s e l)
    where
      earlier : begins_chain slots p.slot n ≡ false → (is_slot (slot_at slots n) p ≡ true) ⊎ (is_seen slots p n ≡ true) → is_seen slots p n ≡ true
      earlier b (inr k) = k
      earlier b (inl t) = known (is_seen slots p n) refl
        where
          same : slot_at slots n ≡ p
          same = same_slot (slot_at slots n) p t

          known : (c : Bool) → is_seen slots p n ≡ c → c ≡ true
          known true k = refl
          known false k =
              absurd
              (let f : begins_chain slots p.slot n ≡ true =
              and_from (nat_eq (slot_at slots n).slot p.slot) (not (is_seen slots (slot_at slots n) n)) (eq-eqb (slot_at slots n).slot p.slot (ap (λ (x : Slot). x.slot) same)) (is_not (is_seen slots (slot_at slots n) n) (ap (λ x. is_seen slots x n) same ∙ k)) in
              cc (b, f))

      by : (b : Bool) → begins_chain slots p.slot n ≡ b → (is_seen slots p n ≡ true → Contains (concat (chains_of slots p.slot n)) s)
          → Contains (concat (elim b as (λ _. List (List ℕ)) [ true ↦ chains_of slots p.slot n ++ whole (slot_at slots n) ∷ [] | false ↦ chains_of slots p.slot n ])) s
      by false b rest = rest (earlier b (one_of (is_slot (slot_at slots n) p) (is_seen slots p n) h))
      by true b rest = subst (λ xs. Contains xs s) (sym (one_chain_more (chains_of slots p.slot n) (whole (slot_at slots n)))) (which (one_of (is_slot (slot_at slots n) p) (is_seen slots p n) h))
        where
          which : (is_slot (slot_at slots n) p ≡ true) ⊎ (is_seen slots p n ≡ true) → Contains (concat (chains_of slots p.slot n) ++ whole (slot_at slots n)) s
          which (inl t) = Contains-append_right (concat (chains_of slots p.slot n)) (whole (slot_at slots n)) s (chain_has (slot_at slots n) (length slots) s l (e ∙ sym (same_slot (slot_at slots n) p t)))
          which (inr k) = Contains-append_left (concat (chains_of slots p.slot n)) (whole (slot_at slots n)) s (rest k)

  seen_stage : (s n : ℕ) → s < n → is_seen slots (slot_at slots s) n ≡ true
  seen_stage s zero l = absurd (omega (arith, l))
  seen_stage s (suc n) l = by (split s n l) (seen_stage s n)
    where
      by : (s < n) ⊎ (s ≡ n) → (s < n → is_seen slots (slot_at slots s) n ≡ true) → (is_slot (slot_at slots n) (slot_at slots s) || is_seen slots (slot_at slots s) n) ≡ true
      by (inl m) rest = either_one (is_slot (slot_at slots n) (slot_at slots s)) (is_seen slots (slot_at slots s) n) (inr (rest m))
      by (inr m) rest = either_one (is_slot (slot_at slots n) (slot_at slots s)) (is_seen slots (slot_at slots s) n) (inl (is_same (slot_at slots n) (slot_at slots s) (ap (slot_at slots) (sym m))))

  -- slot by slot
  abbrev slot_whole : (slot : ℕ) → List ℕ
  slot_whole g = concat (chains_of slots g (length slots))

  one_slot_more : (g : ℕ) → stages_of (first_slots slots (suc g)) ≡ stages_of (first_slots slots g) ++ slot_whole g
  one_slot_more g =
      ap concat (map-append (λ (chains : List (List ℕ)). concat chains) (first_slots slots g) (chains_of slots g (length slots) ∷ []))
      ∙ one_chain_more (map (λ (chains : List (List ℕ)). concat chains) (first_slots slots g)) (slot_whole g)

  in_slots : (n s : ℕ) → Contains (stages_of (first_slots slots n)) s → (s < length slots) × ((slot_at slots s).slot < n)
  in_slots zero s h = absurd (none_in s h)
  in_slots (suc g) s h = by (Contains-append_cases (stages_of (first_slots slots g)) (slot_whole g) s (subst (λ xs. Contains xs s) (one_slot_more g) h)) (in_slots g s)
    where
      by : (Contains (stages_of (first_slots slots g)) s) ⊎ (Contains (slot_whole g) s) → (Contains (stages_of (first_slots slots g)) s → (s < length slots) × ((slot_at slots s).slot < g)) → (s < length slots) × ((slot_at slots s).slot < suc g)
      by (inl k) rest = let r = rest k in let l = r.1 in (r.0, omega (arith, l))
      by (inr k) rest = let r = in_chains g (length slots) s k in let e = r.slot in (r.within, omega (arith, e))

  slots_once : (n : ℕ) → AreOnce (stages_of (first_slots slots n))
  slots_once zero = tt
  slots_once (suc g) =
      subst AreOnce (sym (one_slot_more g))
      (once_joined (stages_of (first_slots slots g)) (slot_whole g) (slots_once g) (chains_once g (length slots))
      (λ s k q. (let l = (in_slots g s k).1 in let e = (in_chains g (length slots) s q).slot in absurd (omega (arith, l, e)))))

  slots_have : (n s : ℕ) → s < length slots → (slot_at slots s).slot < n → Contains (stages_of (first_slots slots n)) s
  slots_have zero s l m = absurd (omega (arith, m))
  slots_have (suc g) s l m = subst (λ xs. Contains xs s) (sym (one_slot_more g)) (by (split (slot_at slots s).slot g m) (slots_have g s l))
    where
      by : ((slot_at slots s).slot < g) ⊎ ((slot_at slots s).slot ≡ g) → ((slot_at slots s).slot < g → Contains (stages_of (first_slots slots g)) s) → Contains (stages_of (first_slots slots g) ++ slot_whole g) s
      by (inl k) rest = Contains-append_left (stages_of (first_slots slots g)) (slot_whole g) s (rest k)
      by (inr k) rest =
          Contains-append_right (stages_of (first_slots slots g)) (slot_whole g) s
          (subst (λ j. Contains (slot_whole j) s) k (chains_have (slot_at slots s) (length slots) s refl l (seen_stage s (length slots) l)))

pub stages_stand_once : StagesStandOnce
stages_stand_once slots = record {
  once = slots_once slots (suc (last_slot slots));
  below = λ s h. (in_slots slots (suc (last_slot slots)) s h).0;
  all = λ s l. slots_have slots (suc (last_slot slots)) s l (let top = greatest_ge (λ j. (slot_at slots j).slot) (length slots) s l in omega (arith, top));
}
