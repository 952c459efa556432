-- Nets that are to be driven while others are.
use Rattle.std.proofs.Common.{◌≡◌, ℕ, zero, suc, Bool, List, [], ◌∷◌, Contains, Option, Some, None, option_map, slice_get, refl, arith}
use Rattle.std.proofs.lemmas.Option.{slice_get_within}
use Rattle.std.proofs.lemmas.List.Elements.{Contains-append_right, Contains-append_left}
use Rattle.sp_netlist.specs.Draft.{Draft}
use Rattle.sp_gates.specs.Grows.{Fills, Grows}
use Rattle.sp_gates.specs.Nets.{IsOpen, Awaits}
use Rattle.sp_gates.proofs.Growing.{Awaits-stays, HasNet-stays}
use Rattle.sp_sequence.specs.declared.part.Member.{Member}
use Rattle.sp_sequence.specs.declared.part.Chain.{Chain}
use Rattle.sp_sequence.specs.declared.part.Slot.{Slot}
use Rattle.sp_sequence.specs.Fits.{starts_of, chain_starts, slot_starts, WantedFits, IsMember, AreMembers, no_member, one_member, AreApart, AreChains, no_chain, one_chain, AreSlots, no_slot, one_slot}

was_promised : (x : Option (ℕ × Bool)) (width : ℕ) → option_map (λ p. p.0) x ≡ Some width → (p : ℕ × Bool) × (x ≡ Some p)
was_promised (Some p) width e = (p, refl)
was_promised None width e = absurd (cc)

pub awaits_open : (d : Draft) (net width : ℕ) → Awaits d net width → IsOpen d net
awaits_open d net width h = record { within = (let p = was_promised (slice_get d.promised net) width h.wide in slice_get_within d.promised net p.0 p.1); undriven = h.undriven }

pub none_in : (x : ℕ) → Contains [] x → ⊥
none_in x c = let l = c.1 in absurd (omega (arith, l))

pub awaits_beside : (a b : Draft) (net width : ℕ) (nets : List ℕ) → Fills a b nets → (Contains nets net → ⊥) → Awaits a net width → Awaits b net width
awaits_beside a b net width nets f out h = Awaits-stays a b net width f.grows (f.still_open net (awaits_open a net width h) out) h

pub awaits_kept : (a b : Draft) (net width : ℕ) → Fills a b [] → Awaits a net width → Awaits b net width
awaits_kept a b net width f h = awaits_beside a b net width [] f (none_in net) h

wanted_stays : (a b : Draft) (wanted : Option ℕ) → Grows a b → WantedFits a wanted → WantedFits b wanted
wanted_stays a b None g h = h
wanted_stays a b (Some w) g h = HasNet-stays a b w 1 g h

member_kept : (a b : Draft) (m : Member) (nets : List ℕ) → Fills a b nets → (Contains nets m.child.start → ⊥) → IsMember a m → IsMember b m
member_kept a b m nets f out h = record {
  start = awaits_beside a b m.child.start 1 nets f out h.start;
  done = HasNet-stays a b m.child.done 1 f.grows h.done;
  wanted = wanted_stays a b m.wanted f.grows h.wanted;
}

in_front : (x : ℕ) (xs : List ℕ) → Contains (x ∷ xs) x
in_front x xs = (0, omega arith, refl)

-- members, chains and slots stay what they are while other nets are driven
pub members_kept : (a b : Draft) (nets : List ℕ) (members : List Member) → Fills a b nets → AreApart nets (starts_of members) → AreMembers a members → AreMembers b members
members_kept a b nets _ f out no_member = no_member
members_kept a b nets _ f out (one_member {m = m} {members = members} h apart hs) =
    one_member (member_kept a b m nets f (λ c. out m.child.start c (in_front m.child.start (starts_of members))) h) apart
    (members_kept a b nets members f (λ net c d. out net c (Contains-append_right (m.child.start ∷ []) (starts_of members) net d)) hs)

pub chains_kept : (a b : Draft) (nets : List ℕ) (chains : List Chain) → Fills a b nets → AreApart nets (chain_starts chains) → AreChains a chains → AreChains b chains
chains_kept a b nets _ f out no_chain = no_chain
chains_kept a b nets _ f out (one_chain {c = c} {chains = chains} h apart hs) =
    one_chain (members_kept a b nets c.members.items f (λ net i j. out net i (Contains-append_left (starts_of c.members.items) (chain_starts chains) net j)) h) apart
    (chains_kept a b nets chains f (λ net i j. out net i (Contains-append_right (starts_of c.members.items) (chain_starts chains) net j)) hs)

pub slots_kept : (a b : Draft) (nets : List ℕ) (slots : List Slot) → Fills a b nets → AreApart nets (slot_starts slots) → AreSlots a slots → AreSlots b slots
slots_kept a b nets _ f out no_slot = no_slot
slots_kept a b nets _ f out (one_slot {slot = slot} {slots = slots} h apart hs) =
    one_slot (chains_kept a b nets slot.chains.items f (λ net i j. out net i (Contains-append_left (chain_starts slot.chains.items) (slot_starts slots) net j)) h) apart
    (slots_kept a b nets slots f (λ net i j. out net i (Contains-append_right (chain_starts slot.chains.items) (slot_starts slots) net j)) hs)

pub no_nets : (others : List ℕ) → AreApart [] others
no_nets others net c d = none_in net c

pub one_net : (x : ℕ) (others : List ℕ) → (Contains others x → ⊥) → AreApart (x ∷ []) others
one_net x others out net (zero, l, e) d = out (subst_in e d)
  where
    subst_in : x ≡ net → Contains others net → Contains others x
    subst_in same d = rw same d
one_net x others out net (suc k, l, e) d = absurd (omega (arith, l))

-- the parts of a list that isn't empty
pub member_parts : (d : Draft) (m : Member) (members : List Member) → AreMembers d (m ∷ members) → IsMember d m × (Contains (starts_of members) m.child.start → ⊥) × AreMembers d members
member_parts d m members (one_member h apart hs) = (h, apart, hs)

pub chain_parts : (d : Draft) (c : Chain) (chains : List Chain) → AreChains d (c ∷ chains) → AreMembers d c.members.items × AreApart (starts_of c.members.items) (chain_starts chains) × AreChains d chains
chain_parts d c chains (one_chain h apart hs) = (h, apart, hs)

pub slot_parts : (d : Draft) (slot : Slot) (slots : List Slot) → AreSlots d (slot ∷ slots) → AreChains d slot.chains.items × AreApart (chain_starts slot.chains.items) (slot_starts slots) × AreSlots d slots
slot_parts d slot slots (one_slot h apart hs) = (h, apart, hs)
