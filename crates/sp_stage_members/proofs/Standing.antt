-- What all slots come to: their shape, their starts, and that they stand.
use Rattle.std.proofs.Common.{◌≡◌, ℕ, zero, suc, ◌<◌, ◌⊎◌, inl, inr, refl, sym, ap, ap₂, subst, ◌∙◌, arith, List, [], ◌∷◌, ◌++◌, length, map}
use Rattle.std.specs.Prelude.{slice_index, slice_index_or, Contains, ◌↔◌}
use Rattle.std.specs.List.{concat}
use Rattle.std.proofs.lemmas.List.{map-append}
use Rattle.std.proofs.lemmas.List.Elements.{Contains-append_left, Contains-append_right}
use Rattle.sp_netlist.specs.Draft.{Draft}
use Rattle.sp_gates.specs.Grows.{Fills}
use Rattle.sp_gates.specs.Nets.{HasNet, Awaits}
use Rattle.sp_gates.proofs.Growing.{HasNet-stays}
use Rattle.sp_sequence.proofs.Waiting.{awaits_beside}
use Rattle.sp_sequence.specs.declared.part.Chain.{Chain}
use Rattle.sp_sequence.specs.declared.part.Member.{Member}
use Rattle.sp_sequence.specs.declared.part.Slot.{Slot}
use Rattle.sp_sequence.specs.Fits.{IsMember, AreMembers, no_member, one_member, AreChains, no_chain, one_chain, AreSlots, no_slot, one_slot, AreApart, starts_of, chain_starts, slot_starts}
use Rattle.sp_part_runs.specs.SequencesPlaces.{sizes}
use Rattle.sp_part_runs.specs.SequencesRuns.{sizes_of, shape_of}
use Rattle.sp_stage_members.specs.declared.part.StagePart.{StagePart}
use Rattle.sp_stage_members.specs.Members.{Paired, part_at, masks_at, starts_in, PartsFit, IsMemberOf, AreMembersOf, AreChainsOf, AreSlotsOf}
use Rattle.sp_stage_members.specs.Placed.{stages_of, AreOnce, StandOnce}
use Rattle.sp_stage_members.proofs.Once.{none_in, first_in, rest_in}
use Rattle.sp_stage_members.proofs.Paired.{paired_map, paired_length}

-- lists in which nothing comes twice
pub once_left : (xs ys : List ℕ) → AreOnce (xs ++ ys) → AreOnce xs
once_left [] ys h = tt
once_left (x ∷ xs) ys h = (λ c. h.0 (Contains-append_left xs ys x c), once_left xs ys h.1)

pub once_right : (xs ys : List ℕ) → AreOnce (xs ++ ys) → AreOnce ys
once_right [] ys h = h
once_right (x ∷ xs) ys h = once_right xs ys h.1

in_more : (x : ℕ) (xs : List ℕ) (n : ℕ) → Contains (x ∷ xs) n → (n ≡ x) ⊎ (Contains xs n)
in_more x xs n h = by h.0 h.1 h.2
  where
    by : (k : ℕ) → k < suc (length xs) → slice_index_or (x ∷ xs) k n ≡ n → (n ≡ x) ⊎ (Contains xs n)
    by zero l e = inl (sym e)
    by (suc k) l e = inr (k, omega (arith, l), e)

pub once_apart : (xs ys : List ℕ) → AreOnce (xs ++ ys) → AreApart xs ys
once_apart [] ys h n c d = none_in n c
once_apart (x ∷ xs) ys h n c d = elim (in_more x xs n c) [ inl e ↦ h.0 (Contains-append_right xs ys x (subst (Contains ys) e d)) | inr k ↦ once_apart xs ys h.1 n k d ]

-- a list of what a function gives
mapped_in : (f : ℕ → ℕ) (ns : List ℕ) (n : ℕ) → Contains ns n → Contains (map f ns) (f n)
mapped_in f [] n h = absurd (none_in n h)
mapped_in f (x ∷ ns) n h = elim (in_more x ns n h) [ inl e ↦ subst (λ k. Contains (f x ∷ map f ns) (f k)) (sym e) (first_in (f x) (map f ns)) | inr k ↦ rest_in (f x) (map f ns) (f n) (mapped_in f ns n k) ]

of_mapped : (f : ℕ → ℕ) (ns : List ℕ) (y : ℕ) → Contains (map f ns) y → (n : ℕ) × (Contains ns n) × (y ≡ f n)
of_mapped f [] y h = absurd (none_in y h)
of_mapped f (x ∷ ns) y h = by (in_more (f x) (map f ns) y h) (of_mapped f ns y)
  where
    by : (y ≡ f x) ⊎ (Contains (map f ns) y) → (Contains (map f ns) y → (n : ℕ) × (Contains ns n) × (y ≡ f n)) → (n : ℕ) × (Contains (x ∷ ns) n) × (y ≡ f n)
    by (inl e) rest = (x, first_in x ns, e)
    by (inr k) rest = let r = rest k in (r.0, rest_in x ns r.0 r.1, r.2)

mapped_once : (f : ℕ → ℕ) (ns : List ℕ) → AreOnce ns → ((a b : ℕ) → Contains ns a → Contains ns b → f a ≡ f b → a ≡ b) → AreOnce (map f ns)
mapped_once f [] h same = tt
mapped_once f (x ∷ ns) h same = (
  λ c. (let r = of_mapped f ns (f x) c in h.0 (subst (Contains ns) (sym (same x r.0 (first_in x ns) (rest_in x ns r.0 r.1) r.2)) r.1)),
  mapped_once f ns h.1 (λ a b p q e. same a b (rest_in x ns a p) (rest_in x ns b q) e),
)

-- the starts of parts
abbrev start_at : List StagePart → ℕ → ℕ
start_at stages n = (part_at stages n).child.start

start_in : (stages : List StagePart) (n : ℕ) → n < length stages → Contains (starts_in stages) (start_at stages n)
start_in [] n l = absurd (omega (arith, l))
start_in (p ∷ stages) zero l = first_in p.child.start (starts_in stages)
start_in (p ∷ stages) (suc n) l = rest_in p.child.start (starts_in stages) (start_at stages n) (start_in stages n (omega (arith, l)))

of_start : (stages : List StagePart) (y : ℕ) → Contains (starts_in stages) y → (n : ℕ) × (n < length stages) × (y ≡ start_at stages n)
of_start [] y h = absurd (none_in y h)
of_start (p ∷ stages) y h = by (in_more p.child.start (starts_in stages) y h) (of_start stages y)
  where
    by : (y ≡ p.child.start) ⊎ (Contains (starts_in stages) y) → (Contains (starts_in stages) y → (n : ℕ) × (n < length stages) × (y ≡ start_at stages n)) → (n : ℕ) × (n < suc (length stages)) × (y ≡ start_at (p ∷ stages) n)
    by (inl e) rest = (0, omega arith, e)
    by (inr k) rest = let r = rest k in let l = r.1 in (suc r.0, omega (arith, l), r.2)

same_start : (stages : List StagePart) → AreOnce (starts_in stages) → (a b : ℕ) → a < length stages → b < length stages → start_at stages a ≡ start_at stages b → a ≡ b
same_start [] h a b l m e = absurd (omega (arith, l))
same_start (p ∷ stages) h zero zero l m e = refl
same_start (p ∷ stages) h zero (suc b) l m e = absurd (h.0 (subst (Contains (starts_in stages)) (sym e) (start_in stages b (omega (arith, m)))))
same_start (p ∷ stages) h (suc a) zero l m e = absurd (h.0 (subst (Contains (starts_in stages)) e (start_in stages a (omega (arith, l)))))
same_start (p ∷ stages) h (suc a) (suc b) l m e = ap suc (same_start stages h.1 a b (omega (arith, l)) (omega (arith, m)) e)

-- parts still fit where other nets were driven
pub parts_beside : (a b : Draft) (masks : List (List ℕ)) (slots : ℕ) (stages : List StagePart) (nets : List ℕ) → Fills a b nets → AreApart nets (starts_in stages) → PartsFit a masks slots stages → PartsFit b masks slots stages
parts_beside a b masks slots stages nets f out h = record {
  each = λ i l. (let e = h.each i l in record {
    start = awaits_beside a b (part_at stages i).child.start 1 nets f (λ c. out (part_at stages i).child.start c (start_in stages i l)) e.start;
    done = HasNet-stays a b (part_at stages i).child.done 1 f.grows e.done;
    order = e.order;
    lanes = e.lanes;
  });
  apart = h.apart;
  stand = λ x i l. HasNet-stays a b (slice_index (masks_at masks x) i) 1 f.grows (h.stand x i l);
}

module _ (d : Draft) (masks : List (List ℕ)) (stages : List StagePart) where
  -- as many as there are places
  pub shape_is : (places : List (List (List ℕ))) (slots : List Slot) → AreSlotsOf d masks stages places slots → shape_of slots ≡ sizes places
  shape_is places slots h =
      paired_map (λ (chains : List (List ℕ)). map (λ (c : List ℕ). length c) chains) (λ (slot : Slot). sizes_of slot.chains.items) (λ x chains (slot : Slot). AreChainsOf d masks stages x chains slot.chains.items)
      (λ x chains slot k.
      paired_map (λ (c : List ℕ). length c) (λ (c : Chain). length c.members.items) (λ j ns (c : Chain). AreMembersOf d masks stages x ns c.members.items)
      (λ j ns c q. paired_length (λ i n m. IsMemberOf d masks (part_at stages n) x i m) 0 ns c.members.items q) 0 chains slot.chains.items k)
      0 places slots h

  -- the starts of members are those of their stages
  member_starts : (x i : ℕ) (ns : List ℕ) (members : List Member) → Paired (λ i n m. IsMemberOf d masks (part_at stages n) x i m) i ns members → starts_of members ≡ map (start_at stages) ns
  member_starts x i [] [] h = refl
  member_starts x i [] (m ∷ members) h = absurd h
  member_starts x i (n ∷ ns) [] h = absurd h
  member_starts x i (n ∷ ns) (m ∷ members) h = ap₂ (λ z zs. z ∷ zs) (ap (λ c. c.start) h.0.child) (member_starts x (suc i) ns members h.1)

  chains_start : (x j : ℕ) (chains : List (List ℕ)) (cs : List Chain) → Paired (λ j ns (c : Chain). AreMembersOf d masks stages x ns c.members.items) j chains cs → chain_starts cs ≡ map (start_at stages) (concat chains)
  chains_start x j [] [] h = refl
  chains_start x j [] (c ∷ cs) h = absurd h
  chains_start x j (ns ∷ chains) [] h = absurd h
  chains_start x j (ns ∷ chains) (c ∷ cs) h = ap₂ (λ a b. a ++ b) (member_starts x 0 ns c.members.items h.0) (chains_start x (suc j) chains cs h.1) ∙ sym (map-append (start_at stages) ns (concat chains))

  slots_start : (x : ℕ) (places : List (List (List ℕ))) (slots : List Slot) → Paired (λ x chains (slot : Slot). AreChainsOf d masks stages x chains slot.chains.items) x places slots → slot_starts slots ≡ map (start_at stages) (stages_of places)
  slots_start x [] [] h = refl
  slots_start x [] (slot ∷ slots) h = absurd h
  slots_start x (chains ∷ places) [] h = absurd h
  slots_start x (chains ∷ places) (slot ∷ slots) h = ap₂ (λ a b. a ++ b) (chains_start x 0 chains slot.chains.items h.0) (slots_start (suc x) places slots h.1) ∙ sym (map-append (start_at stages) (concat chains) (stages_of places))

  pub starts_are : (places : List (List (List ℕ))) (slots : List Slot) → StandOnce (length stages) places → AreSlotsOf d masks stages places slots → (net : ℕ) → Contains (slot_starts slots) net ↔ Contains (starts_in stages) net
  starts_are places slots once h net =
      let e = slots_start 0 places slots h in (
        λ k. (let r = of_mapped (start_at stages) (stages_of places) net (subst (λ ns. Contains ns net) e k) in subst (Contains (starts_in stages)) (sym r.2) (start_in stages r.0 (once.below r.0 r.1))),
        λ k. (let r = of_start stages net k in subst (λ ns. Contains ns net) (sym e) (subst (Contains (map (start_at stages) (stages_of places))) (sym r.2) (mapped_in (start_at stages) (stages_of places) r.0 (once.all r.0 r.1)))),
      )

  module _ (slots : ℕ) (fit : PartsFit d masks slots stages) where
    is_member : (n x i : ℕ) (m : Member) → n < length stages → IsMemberOf d masks (part_at stages n) x i m → IsMember d m
    is_member n x i m l h =
        let e = fit.each n l in
        record { start = subst (λ c. Awaits d c.start 1) (sym h.child) e.start; done = subst (λ c. HasNet d c.done 1) (sym h.child) e.done; wanted = h.fits }

    are_members : (x i : ℕ) (ns : List ℕ) (members : List Member) → Paired (λ i n m. IsMemberOf d masks (part_at stages n) x i m) i ns members → ((n : ℕ) → Contains ns n → n < length stages) → AreOnce (starts_of members) → AreMembers d members
    are_members x i [] [] h below once = no_member
    are_members x i [] (m ∷ members) h below once = absurd h
    are_members x i (n ∷ ns) [] h below once = absurd h
    are_members x i (n ∷ ns) (m ∷ members) h below once = one_member (is_member n x i m (below n (first_in n ns)) h.0) once.0 (are_members x (suc i) ns members h.1 (λ k c. below k (rest_in n ns k c)) once.1)

    are_chains : (x j : ℕ) (chains : List (List ℕ)) (cs : List Chain) → Paired (λ j ns (c : Chain). AreMembersOf d masks stages x ns c.members.items) j chains cs → ((n : ℕ) → Contains (concat chains) n → n < length stages) → AreOnce (chain_starts cs)
        → AreChains d cs
    are_chains x j [] [] h below once = no_chain
    are_chains x j [] (c ∷ cs) h below once = absurd h
    are_chains x j (ns ∷ chains) [] h below once = absurd h
    are_chains x j (ns ∷ chains) (c ∷ cs) h below once =
        one_chain (are_members x 0 ns c.members.items h.0 (λ n k. below n (Contains-append_left ns (concat chains) n k)) (once_left (starts_of c.members.items) (chain_starts cs) once)) (once_apart (starts_of c.members.items) (chain_starts cs) once)
        (are_chains x (suc j) chains cs h.1 (λ n k. below n (Contains-append_right ns (concat chains) n k)) (once_right (starts_of c.members.items) (chain_starts cs) once))

    are_slots : (x : ℕ) (places : List (List (List ℕ))) (all : List Slot) → Paired (λ x chains (slot : Slot). AreChainsOf d masks stages x chains slot.chains.items) x places all → ((n : ℕ) → Contains (stages_of places) n → n < length stages)
        → AreOnce (slot_starts all) → AreSlots d all
    are_slots x [] [] h below once = no_slot
    are_slots x [] (slot ∷ all) h below once = absurd h
    are_slots x (chains ∷ places) [] h below once = absurd h
    are_slots x (chains ∷ places) (slot ∷ all) h below once =
        one_slot (are_chains x 0 chains slot.chains.items h.0 (λ n k. below n (Contains-append_left (concat chains) (stages_of places) n k)) (once_left (chain_starts slot.chains.items) (slot_starts all) once))
        (once_apart (chain_starts slot.chains.items) (slot_starts all) once)
        (are_slots (suc x) places all h.1 (λ n k. below n (Contains-append_right (concat chains) (stages_of places) n k)) (once_right (chain_starts slot.chains.items) (slot_starts all) once))

    pub slots_stand : (places : List (List (List ℕ))) (all : List Slot) → StandOnce (length stages) places → AreSlotsOf d masks stages places all → AreSlots d all
    slots_stand places all once h =
        are_slots 0 places all h once.below
        (subst AreOnce (sym (slots_start 0 places all h))
        (mapped_once (start_at stages) (stages_of places) once.once (λ a b p q e. same_start stages fit.apart a b (once.below a p) (once.below b q) e)))
