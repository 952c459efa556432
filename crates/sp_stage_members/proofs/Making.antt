-- Members one after the other, while the draft grows.
use Rattle.std.proofs.Common.{◌≡◌, ℕ, zero, suc, ◌+◌, ◌<◌, ◌≤◌, refl, sym, ap, subst, ◌∙◌, arith, List, [], ◌∷◌, ◌++◌, length, take, Option, Some, None, get_or}
use Rattle.std.specs.Prelude.{slice_index, Contains}
use Rattle.std.specs.Global.{Vec}
use Rattle.std.specs.List.{concat}
use Rattle.std.proofs.lemmas.List.{take_more, get_or_default, length-take-le}
use Rattle.std.proofs.lemmas.List.Elements.{Contains-append_left, Contains-append_right}
use Rattle.sp_netlist.specs.Draft.{Draft}
use Rattle.sp_netlist.specs.Signals.{Signals}
use Rattle.sp_gates.specs.Runs.{RunsOn}
use Rattle.sp_gates.specs.Grows.{Grows, Fills}
use Rattle.sp_gates.proofs.Growing.{HasNet-stays}
use Rattle.sp_gates.proofs.Running.{runs_earlier}
use Rattle.sp_sequence.specs.declared.part.Chain.{Chain}
use Rattle.sp_sequence.specs.declared.part.Member.{Member}
use Rattle.sp_sequence.specs.declared.part.Slot.{Slot}
use Rattle.sp_sequence.specs.Fits.{WantedFits}
use Rattle.sp_sequence.proofs.Waiting.{awaits_kept}
use Rattle.sp_stage_members.specs.declared.part.StagePart.{StagePart}
use Rattle.sp_stage_members.specs.declared.placed.PlacedChain.{PlacedChain}
use Rattle.sp_stage_members.specs.declared.placed.PlacedSlot.{PlacedSlot}
use Rattle.sp_stage_members.specs.Members.{no_part, part_at, told_row, IsWanted, masks_of, masks_at, PartsFit, IsMemberOf, AreMembersOf, AreChainsOf, AreSlotsOf}
use Rattle.sp_stage_members.specs.Placed.{chains_in, places_of, stages_of}
use Rattle.sp_stage_members.proofs.Paired.{paired_more, paired_each}
use Rattle.sp_stage_members.proofs.Planned.{chain_more, slot_more}

-- lists of nets by number
pub list_at : (masks : List (Vec ℕ)) (row : ℕ) (v : Vec ℕ) → row < length masks → v ≡ get_or masks row v → masks_at (masks_of masks) row ≡ v.items
list_at [] row v l e = absurd (omega (arith, l))
list_at (m ∷ masks) zero v l e = ap (λ (w : Vec ℕ). w.items) (sym e)
list_at (m ∷ masks) (suc row) v l e = list_at masks row v (omega (arith, l)) e

pub list_past : (masks : List (Vec ℕ)) (row : ℕ) → length masks ≤ row → masks_at (masks_of masks) row ≡ []
list_past [] row l = refl
list_past (m ∷ masks) zero l = absurd (omega (arith, l))
list_past (m ∷ masks) (suc row) l = list_past masks row (omega (arith, l))

-- where there is no net for a lane, the first one is lane 0
pub no_lane : (first last : ℕ) → (1 ≤ first → last < 0) → first ≡ 0
no_lane zero last h = refl
no_lane (suc first) last h = absurd (let l = h (omega arith) in omega (arith, l))

pub at_in : (xs : List ℕ) (i : ℕ) → i < length xs → Contains xs (slice_index xs i)
at_in xs i l = (i, l, get_or_default xs i (slice_index xs i) 0 l)

-- a stage of a chain of some, and of a slot of some
pub in_chain_of : (chains : List PlacedChain) (i : ℕ) (p : PlacedChain) (s : ℕ) → i < length chains → p ≡ get_or chains i p → Contains p.stages.items s → Contains (concat (chains_in chains)) s
in_chain_of [] i p s l e h = absurd (omega (arith, l))
in_chain_of (q ∷ chains) zero p s l e h = Contains-append_left q.stages.items (concat (chains_in chains)) s (subst (λ (z : PlacedChain). Contains z.stages.items s) e h)
in_chain_of (q ∷ chains) (suc i) p s l e h = Contains-append_right q.stages.items (concat (chains_in chains)) s (in_chain_of chains i p s (omega (arith, l)) e h)

pub in_slot_of : (places : List PlacedSlot) (i : ℕ) (p : PlacedSlot) (s : ℕ) → i < length places → p ≡ get_or places i p → Contains (concat (chains_in p.chains.items)) s → Contains (stages_of (places_of places)) s
in_slot_of [] i p s l e h = absurd (omega (arith, l))
in_slot_of (q ∷ places) zero p s l e h = Contains-append_left (concat (chains_in q.chains.items)) (stages_of (places_of places)) s (subst (λ (z : PlacedSlot). Contains (concat (chains_in z.chains.items)) s) e h)
in_slot_of (q ∷ places) (suc i) p s l e h = Contains-append_right (concat (chains_in q.chains.items)) (stages_of (places_of places)) s (in_slot_of places i p s (omega (arith, l)) e h)

-- a stage by its number, and as a member
pub part_found : (stages : List StagePart) (n : ℕ) (p : StagePart) → n < length stages → p ≡ get_or stages n p → part_at stages n ≡ p
part_found stages n p l e = get_or_default stages n no_part p l ∙ sym e

pub told_within : (x i : ℕ) → told_row x i ≤ x + 1
told_within x zero = omega arith
told_within x (suc i) = omega arith

pub member_is : (d : Draft) (masks : List (List ℕ)) (stages : List StagePart) (p : StagePart) (x i n row : ℕ) (w : Option ℕ) → part_at stages n ≡ p → row ≡ told_row x i → WantedFits d w
    → ((s : Signals) → RunsOn s d.cells → IsWanted s (masks_at masks row) p.first p.last w) → IsMemberOf d masks (part_at stages n) x i (record { child = p.child; wanted = w })
member_is d masks stages p x i n row w e t f h =
    subst (λ q. IsMemberOf d masks q x i (record { child = p.child; wanted = w })) (sym e) (record { child = refl; fits = f; told = λ s r. subst (λ k. IsWanted s (masks_at masks k) p.first p.last w) t (h s r) })

-- parts still fit when others were added, and where there are fewer slots
pub parts_later : (a b : Draft) (masks : List (List ℕ)) (slots : ℕ) (stages : List StagePart) → Fills a b [] → PartsFit a masks slots stages → PartsFit b masks slots stages
parts_later a b masks slots stages f h = record {
  each = λ i l. (let e = h.each i l in record { start = awaits_kept a b (part_at stages i).child.start 1 f e.start; done = HasNet-stays a b (part_at stages i).child.done 1 f.grows e.done; order = e.order; lanes = e.lanes });
  apart = h.apart;
  stand = λ x i l. HasNet-stays a b (slice_index (masks_at masks x) i) 1 f.grows (h.stand x i l);
}

pub parts_fewer : (d : Draft) (masks : List (List ℕ)) (slots fewer : ℕ) (stages : List StagePart) → fewer ≤ slots → PartsFit d masks slots stages → PartsFit d masks fewer stages
parts_fewer d masks slots fewer stages m h = record {
  each = λ i l. (let e = h.each i l in record { start = e.start; done = e.done; order = e.order; lanes = λ o x k. e.lanes o x (omega (arith, k, m)) });
  apart = h.apart;
  stand = h.stand;
}

pub places_length : (ps : List PlacedSlot) → length (places_of ps) ≡ length ps
places_length [] = refl
places_length (p ∷ ps) = ap suc (places_length ps)

wanted_later : (a b : Draft) (wanted : Option ℕ) → Grows a b → WantedFits a wanted → WantedFits b wanted
wanted_later a b None g h = tt
wanted_later a b (Some w) g h = HasNet-stays a b w 1 g h

module _ (a b : Draft) (masks : List (List ℕ)) (stages : List StagePart) (grows : Grows a b) where
  member_later : (x i n : ℕ) (m : Member) → IsMemberOf a masks (part_at stages n) x i m → IsMemberOf b masks (part_at stages n) x i m
  member_later x i n m h = record { child = h.child; fits = wanted_later a b m.wanted grows h.fits; told = λ s r. h.told s (runs_earlier a b s grows r) }

  members_later : (x : ℕ) (ns : List ℕ) (members : List Member) → AreMembersOf a masks stages x ns members → AreMembersOf b masks stages x ns members
  members_later x ns members h = paired_each (λ i n m. IsMemberOf a masks (part_at stages n) x i m) (λ i n m. IsMemberOf b masks (part_at stages n) x i m) (λ i n m. member_later x i n m) 0 ns members h

  chains_later : (x : ℕ) (chains : List (List ℕ)) (cs : List Chain) → AreChainsOf a masks stages x chains cs → AreChainsOf b masks stages x chains cs
  chains_later x chains cs h =
      paired_each (λ j ns (c : Chain). AreMembersOf a masks stages x ns c.members.items) (λ j ns (c : Chain). AreMembersOf b masks stages x ns c.members.items) (λ j ns c. members_later x ns c.members.items) 0 chains cs h

  pub slots_later : (places : List (List (List ℕ))) (slots : List Slot) → AreSlotsOf a masks stages places slots → AreSlotsOf b masks stages places slots
  slots_later places slots h =
      paired_each (λ x chains (slot : Slot). AreChainsOf a masks stages x chains slot.chains.items) (λ x chains (slot : Slot). AreChainsOf b masks stages x chains slot.chains.items) (λ x chains slot. chains_later x chains slot.chains.items) 0 places
      slots h

  -- one more of each
  pub members_behind : (x i : ℕ) (chain : List ℕ) (members : List Member) (n : ℕ) (m : Member) → i < length chain → slice_index chain i ≡ n → AreMembersOf a masks stages x (take i chain) members → IsMemberOf b masks (part_at stages n) x i m
      → AreMembersOf b masks stages x (take (i + 1) chain) (members ++ m ∷ [])
  members_behind x i chain members n m l e h p =
      subst (λ ns. AreMembersOf b masks stages x ns (members ++ m ∷ [])) (sym (take_more chain i 0 l ∙ ap (λ k. take i chain ++ k ∷ []) e))
      (paired_more (λ i n m. IsMemberOf b masks (part_at stages n) x i m) 0 (take i chain) members n m (members_later x (take i chain) members h)
      (subst (λ k. IsMemberOf b masks (part_at stages n) x k m) (let t = length-take-le i chain (omega (arith, l)) in let z : i ≡ 0 + length (take i chain) = omega (arith, t) in z) p))

  pub chains_behind : (x i : ℕ) (chains : List PlacedChain) (found : List Chain) (p : PlacedChain) (c : Chain) → i < length chains → p ≡ get_or chains i p → AreChainsOf a masks stages x (chains_in (take i chains)) found
      → AreMembersOf b masks stages x p.stages.items c.members.items → AreChainsOf b masks stages x (chains_in (take (i + 1) chains)) (found ++ c ∷ [])
  chains_behind x i chains found p c l e h q =
      subst (λ cs. AreChainsOf b masks stages x cs (found ++ c ∷ [])) (sym (ap chains_in (take_more chains i p l ∙ ap (λ k. take i chains ++ k ∷ []) (sym e)) ∙ chain_more (take i chains) p))
      (paired_more (λ j ns (c : Chain). AreMembersOf b masks stages x ns c.members.items) 0 (chains_in (take i chains)) found p.stages.items c (chains_later x (chains_in (take i chains)) found h) q)

  pub slots_behind : (i : ℕ) (places : List PlacedSlot) (slots : List Slot) (p : PlacedSlot) (slot : Slot) → i < length places → p ≡ get_or places i p → AreSlotsOf a masks stages (places_of (take i places)) slots
      → AreChainsOf b masks stages i (chains_in p.chains.items) slot.chains.items → AreSlotsOf b masks stages (places_of (take (i + 1) places)) (slots ++ slot ∷ [])
  slots_behind i places slots p slot l e h q =
      subst (λ cs. AreSlotsOf b masks stages cs (slots ++ slot ∷ [])) (sym (ap places_of (take_more places i p l ∙ ap (λ k. take i places ++ k ∷ []) (sym e)) ∙ slot_more (take i places) p))
      (paired_more (λ x chains (slot : Slot). AreChainsOf b masks stages x chains slot.chains.items) 0 (places_of (take i places)) slots (chains_in p.chains.items) slot (slots_later (places_of (take i places)) slots h)
      (subst (λ k. AreChainsOf b masks stages k (chains_in p.chains.items) slot.chains.items) (let t = places_length (take i places) ∙ length-take-le i places (omega (arith, l)) in let z : i ≡ 0 + length (places_of (take i places)) = omega (arith, t) in z) q))
