-- The stages of a chain in their order, and how long they take.
use Rattle.std.proofs.Common.{◌≡◌, ℕ, zero, suc, ◌+◌, ◌<◌, ◌≤◌, ◌⊎◌, inl, inr, Bool, true, false, cond, refl, sym, ap, ap₂, subst, ◌∙◌, arith, List, [], ◌∷◌, ◌++◌, length, map}
use Rattle.std.specs.Prelude.{max, slice_index, slice_index_or}
use Rattle.std.proofs.Math.Nat.{max-le, le-max_left, le-max_right}
use Rattle.std.proofs.lemmas.Bool.{and_parts, and_from, eqb-true, eq-eqb}
use Rattle.sp_time.specs.Beats.{Slot, slot_at, is_slot, offset, ends}
use Rattle.sp_time.specs.Lists.{total, greatest}
use Rattle.sp_time.proofs.ListLemmas.{total_mono}
use Rattle.sp_part_runs.specs.SequencesPlaces.{stages_in, chains_at, stages_at, stage_at, AreArranged}
use Rattle.sp_part_runs.specs.SequencesRuns.{MemberRan, member_took, chain_took, longest}

-- sums
pub total_same : (f g : ℕ → ℕ) (n : ℕ) → ((i : ℕ) → i < n → f i ≡ g i) → total f n ≡ total g n
total_same f g zero h = refl
total_same f g (suc n) h = ap₂ (λ x y. x + y) (total_same f g n (λ i l. h i (omega (arith, l)))) (h n (omega arith))

pub total_none : (f : ℕ → ℕ) (n : ℕ) → ((i : ℕ) → i < n → f i ≡ 0) → total f n ≡ 0
total_none f zero h = refl
total_none f (suc n) h = let a = total_none f n (λ i l. h i (omega (arith, l))) in let b = h n (omega arith) in omega (arith, a, b)

pub greatest_within : (f : ℕ → ℕ) (n m : ℕ) → ((i : ℕ) → i < n → f i ≤ m) → greatest f n ≤ m
greatest_within f zero m h = omega arith
greatest_within f (suc n) m h = max-le (greatest_within f n m (λ i l. h i (omega (arith, l)))) (h n (omega arith))

-- one more element at the end
get_before : (xs : List ℕ) (x i : ℕ) → i < length xs → slice_index (xs ++ x ∷ []) i ≡ slice_index xs i
get_before [] x i l = absurd (omega (arith, l))
get_before (y ∷ xs) x zero l = refl
get_before (y ∷ xs) x (suc i) l = get_before xs x i (omega (arith, l))

get_last : (xs : List ℕ) (x : ℕ) → slice_index (xs ++ x ∷ []) (length xs) ≡ x
get_last [] x = refl
get_last (y ∷ xs) x = get_last xs x

length_more : (xs : List ℕ) (x : ℕ) → length (xs ++ x ∷ []) ≡ suc (length xs)
length_more [] x = refl
length_more (y ∷ xs) x = ap suc (length_more xs x)

pub map_at : {A B : Type 0} (f : A → B) (xs : List A) (a : A) (b : B) (i : ℕ) → i < length xs → slice_index_or (map f xs) i b ≡ f (slice_index_or xs i a)
map_at f [] a b i l = absurd (omega (arith, l))
map_at f (x ∷ xs) a b zero l = refl
map_at f (x ∷ xs) a b (suc i) l = map_at f xs a b i (omega (arith, l))

pub map_length : {A B : Type 0} (f : A → B) (xs : List A) → length (map f xs) ≡ length xs
map_length f [] = refl
map_length f (x ∷ xs) = ap suc (map_length f xs)

pub same_slot : (a b : Slot) → is_slot a b ≡ true → a ≡ b
same_slot a b h = let p = and_parts _ _ h in ap₂ (λ s c. record { slot = s; chain = c }) (eqb-true a.slot b.slot p.0) (eqb-true a.chain b.chain p.1)

pub is_same : (a b : Slot) → a ≡ b → is_slot a b ≡ true
is_same a b e = and_from _ _ (eq-eqb _ _ (ap (λ x. x.slot) e)) (eq-eqb _ _ (ap (λ x. x.chain) e))

module _ (slots : List Slot) (f : ℕ → ℕ) (p : Slot) where
  -- what the stages of this chain add up to
  abbrev pub own : ℕ → ℕ
  own s = cond (is_slot (slot_at slots s) p) (f s) 0

  abbrev of_list : List ℕ → (n : ℕ) → ℕ
  of_list xs n = total (λ i. f (slice_index xs i)) n

  of_more : (xs : List ℕ) (x : ℕ) → of_list (xs ++ x ∷ []) (length xs) ≡ of_list xs (length xs)
  of_more xs x = total_same (λ i. f (slice_index (xs ++ x ∷ []) i)) (λ i. f (slice_index xs i)) (length xs) (λ i l. ap f (get_before xs x i l))

  -- one stage more, if it is of this chain
  abbrev more : (n : ℕ) → Bool → List ℕ
  more n b = elim b as (λ _. List ℕ) [ true ↦ stages_in slots p n ++ n ∷ [] | false ↦ stages_in slots p n ]

  pub sum_in : (n : ℕ) → of_list (stages_in slots p n) (length (stages_in slots p n)) ≡ total own n
  sum_in zero = refl
  sum_in (suc n) = by (is_slot (slot_at slots n) p) (sum_in n)
    where
      by : (b : Bool) → of_list (stages_in slots p n) (length (stages_in slots p n)) ≡ total own n → of_list (more n b) (length (more n b)) ≡ total own n + cond b (f n) 0
      by true e =
          let xs = stages_in slots p n in
          ap (of_list (xs ++ n ∷ [])) (length_more xs n) ∙ ap₂ (λ a b. a + b) (of_more xs n ∙ e) (ap f (get_last xs n))
      by false e = let k : total own n + 0 ≡ total own n = omega arith in e ∙ sym k

  -- the stage at a place of a list of stages, and what those before it add up to
  pub record Standing (xs : List ℕ) (n i : ℕ) : Type 0 where
    pub stage : ℕ
    pub is : slice_index xs i ≡ stage
    pub below : stage < n
    pub here : is_slot (slot_at slots stage) p ≡ true
    pub before : of_list xs i ≡ total own stage

  one_more : (xs : List ℕ) (n i : ℕ) → i < length xs → Standing xs n i → Standing (xs ++ n ∷ []) (suc n) i
  one_more xs n i l h = record {
    stage = h.stage;
    is = get_before xs n i l ∙ h.is;
    below = (let b = h.below in omega (arith, b));
    here = h.here;
    before = total_same (λ k. f (slice_index (xs ++ n ∷ []) k)) (λ k. f (slice_index xs k)) i (λ k m. ap f (get_before xs n k (omega (arith, m, l)))) ∙ h.before;
  }

  last_one : (xs : List ℕ) (n i : ℕ) → i ≡ length xs → is_slot (slot_at slots n) p ≡ true → of_list xs (length xs) ≡ total own n → Standing (xs ++ n ∷ []) (suc n) i
  last_one xs n i e t sum = record { stage = n; is = ap (slice_index (xs ++ n ∷ [])) e ∙ get_last xs n; below = omega arith; here = t; before = ap (of_list (xs ++ n ∷ [])) e ∙ of_more xs n ∙ sum }

  pub standing : (n i : ℕ) → i < length (stages_in slots p n) → Standing (stages_in slots p n) n i
  standing zero i l = absurd (omega (arith, l))
  standing (suc n) i l = by (is_slot (slot_at slots n) p) refl l (standing n i)
    where
      by : (b : Bool) → is_slot (slot_at slots n) p ≡ b → i < length (more n b) → (i < length (stages_in slots p n) → Standing (stages_in slots p n) n i) → Standing (more n b) (suc n) i
      by true t l rest = place (cases (stages_in slots p n) (subst (λ k. i < k) (length_more (stages_in slots p n) n) l))
        where
          cases : (xs : List ℕ) → i < suc (length xs) → (i < length xs) ⊎ (i ≡ length xs)
          cases xs l = grind arith

          place : (i < length (stages_in slots p n)) ⊎ (i ≡ length (stages_in slots p n)) → Standing (stages_in slots p n ++ n ∷ []) (suc n) i
          place (inl m) = one_more (stages_in slots p n) n i m (rest m)
          place (inr e) = last_one (stages_in slots p n) n i e t (sum_in n)
      by false t l rest = let r = rest l in record { stage = r.stage; is = r.is; below = (let b = r.below in omega (arith, b)); here = r.here; before = r.before }

-- the longest of chains
pub within_longest : (found : (chain member : ℕ) → MemberRan) (sizes : List ℕ) (j i : ℕ) → i < length sizes → chain_took (found (j + i)) (slice_index sizes i) ≤ longest found j sizes
within_longest found [] j i l = absurd (omega (arith, l))
within_longest found (n ∷ sizes) j zero l = subst (λ k. chain_took (found k) n ≤ max (chain_took (found j) n) (longest found (suc j) sizes)) {x = j} (omega arith) (le-max_left _ _)
within_longest found (n ∷ sizes) j (suc i) l =
    let m = le-max_right (chain_took (found j) n) (longest found (suc j) sizes) in
    let k : chain_took (found (j + suc i)) (slice_index sizes i) ≤ longest found (suc j) sizes = subst (λ k. chain_took (found k) (slice_index sizes i) ≤ longest found (suc j) sizes) {x = suc j + i} (omega arith) (within_longest found sizes (suc j) i (omega (arith, l))) in
    omega (arith, k, m)

pub longest_within : (found : (chain member : ℕ) → MemberRan) (sizes : List ℕ) (j m : ℕ) → ((i : ℕ) → i < length sizes → chain_took (found (j + i)) (slice_index sizes i) ≤ m) → longest found j sizes ≤ m
longest_within found [] j m h = omega arith
longest_within found (n ∷ sizes) j m h =
    max-le (subst (λ k. chain_took (found k) n ≤ m) {x = j + 0} (omega arith) (h 0 (omega arith)))
    (longest_within found sizes (suc j) m (λ i l. subst (λ k. chain_took (found k) (slice_index sizes i) ≤ m) {x = j + suc i} (omega arith) (h (suc i) (omega (arith, l)))))

-- the members of one slot in one group took as long as their stages
module _ (slots : List Slot) (took : (group stage : ℕ) → ℕ) (places : List (List (List ℕ))) (arranged : AreArranged places slots) (g k : ℕ) (in_places : k < length places) (found : (chain member : ℕ) → MemberRan)
    (fits : (j i : ℕ) → j < length (chains_at places k) → i < length (stages_at places k j) → member_took (found j i) ≡ took g (stage_at places k j i)) where
  abbrev pub slot_sizes : List ℕ
  slot_sizes = map (λ (c : List ℕ). length c) (chains_at places k)

  members_sum : (j n : ℕ) → j < length (chains_at places k) → n ≤ length (stages_at places k j) → chain_took (found j) n ≡ total (λ i. took g (stage_at places k j i)) n
  members_sum j n l m = total_same (λ i. member_took (found j i)) (λ i. took g (stage_at places k j i)) n (λ i a. fits j i l (omega (arith, a, m)))

  -- the slot and chain of a chain's stages
  abbrev at : (c : ℕ) → Slot
  at c = record { slot = k; chain = c }

  pub record StageAt (j i : ℕ) : Type 0 where
    pub below : stage_at places k j i < length slots
    pub slot : (slot_at slots (stage_at places k j i)).slot ≡ k
    pub before : chain_took (found j) i ≡ offset slots took g (stage_at places k j i)

  pub stage_here : (j i : ℕ) → j < length (chains_at places k) → i < length (stages_at places k j) → StageAt j i
  stage_here j i l m = by (arranged.chains k j in_places l)
    where
      by : (c : ℕ) × (stages_at places k j ≡ stages_in slots (at c) (length slots)) × (1 ≤ length (stages_at places k j)) → StageAt j i
      by (c, e, some) =
          let q = standing slots (took g) (at c) (length slots) i (subst (λ xs. i < length xs) e m) in
          let is : stage_at places k j i ≡ q.stage = ap (λ xs. slice_index xs i) e ∙ q.is in
          let same : slot_at slots q.stage ≡ at c = same_slot (slot_at slots q.stage) (at c) q.here in
          record {
            below = subst (λ s. s < length slots) (sym is) q.below;
            slot = ap (λ s. (slot_at slots s).slot) is ∙ ap (λ (x : Slot). x.slot) same;
            before = members_sum j i l (omega (arith, m)) ∙ ap (λ xs. total (λ n. took g (slice_index xs n)) i) e ∙ q.before
                ∙ ap (λ x. total (λ n. cond (is_slot (slot_at slots n) x) (took g n) 0) q.stage) (sym same) ∙ ap (offset slots took g) (sym is);
          }

  -- a chain takes as long as its last stage ends
  chain_ends : (j : ℕ) (l : j < length (chains_at places k)) (n : ℕ) → suc n ≡ length (stages_at places k j) → chain_took (found j) (length (stages_at places k j)) ≡ ends slots took g (stage_at places k j n)
  chain_ends j l n e =
      let h = stage_here j n l (omega (arith, e)) in
      ap (chain_took (found j)) (sym e) ∙ ap₂ (λ a b. a + b) h.before (fits j n l (omega (arith, e)))

  chain_at : (j : ℕ) → j < length (chains_at places k) → slice_index slot_sizes j ≡ length (stages_at places k j)
  chain_at j l = map_at (λ (c : List ℕ). length c) (chains_at places k) [] 0 j l

  in_sizes : (j : ℕ) → j < length slot_sizes → j < length (chains_at places k)
  in_sizes j l = subst (λ n. j < n) (map_length (λ (c : List ℕ). length c) (chains_at places k)) l

  -- the longest chain ends with a stage of the slot
  pub longest_bound : (m : ℕ) → ((s : ℕ) → s < length slots → (slot_at slots s).slot ≡ k → ends slots took g s ≤ m) → longest found 0 slot_sizes ≤ m
  longest_bound m h = longest_within found slot_sizes 0 m (λ j l. each j (in_sizes j l))
    where
      some_one : (n : ℕ) → 1 ≤ n → (p : ℕ) × (suc p ≡ n)
      some_one zero l = absurd (omega (arith, l))
      some_one (suc p) l = (p, refl)

      each : (j : ℕ) → j < length (chains_at places k) → chain_took (found (0 + j)) (slice_index slot_sizes j) ≤ m
      each j l =
          let n = some_one (length (stages_at places k j)) (arranged.chains k j in_places l).2 in
          let e = n.1 in
          let s = stage_here j n.0 l (omega (arith, e)) in
          let b = h (stage_at places k j n.0) s.below s.slot in
          let c = chain_ends j l n.0 n.1 in
          subst (λ x. chain_took (found x) (slice_index slot_sizes j) ≤ m) {x = j} (omega arith)
          (subst (λ x. chain_took (found j) x ≤ m) (sym (chain_at j l)) (omega (arith, b, c)))

  -- and no stage of the slot ends later
  pub stage_bound : (s : ℕ) → s < length slots → (slot_at slots s).slot ≡ k → ends slots took g s ≤ longest found 0 slot_sizes
  stage_bound s l e = by (subst (λ x. (j : ℕ) × (j < length (chains_at places x)) × (stages_at places x j ≡ stages_in slots (slot_at slots s) (length slots))) e (arranged.all s l))
    where
      by : (j : ℕ) × (j < length (chains_at places k)) × (stages_at places k j ≡ stages_in slots (slot_at slots s) (length slots)) → ends slots took g s ≤ longest found 0 slot_sizes
      by (j, m, same) =
          let f = own slots (took g) (slot_at slots s) in
          let here : f s ≡ took g s = ap (λ b. cond b (took g s) 0) (is_same (slot_at slots s) (slot_at slots s) refl) in
          let up : total f (suc s) ≤ total f (length slots) = total_mono f (suc s) (length slots) (omega (arith, l)) in
          let whole : chain_took (found j) (length (stages_at places k j)) ≡ total f (length slots) =
          members_sum j (length (stages_at places k j)) m (omega arith) ∙ ap (λ xs. total (λ n. took g (slice_index xs n)) (length xs)) same ∙ sum_in slots (took g) (slot_at slots s) (length slots) in
          let chain = within_longest found slot_sizes 0 j (subst (λ n. j < n) (sym (map_length (λ (c : List ℕ). length c) (chains_at places k))) m) in
          let long : chain_took (found j) (length (stages_at places k j)) ≤ longest found 0 slot_sizes =
          subst (λ x. chain_took (found j) x ≤ longest found 0 slot_sizes) (chain_at j m) (subst (λ x. chain_took (found x) (slice_index slot_sizes j) ≤ longest found 0 slot_sizes) {x = 0 + j} (omega arith) chain) in
          omega (arith, here, up, whole, long)
