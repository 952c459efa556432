-- What stands while the worked loop is put together.
use Rattle.std.proofs.Common.{◌≡◌, ℕ, zero, suc, List, [], ◌∷◌, ◌++◌, Contains, sym, ap, ap₂, subst, ◌∙◌, arith}
use Rattle.sp_netlist.specs.declared.parts.Child.{Child}
use Rattle.sp_netlist.specs.Draft.{Draft}
use Rattle.sp_gates.specs.Grows.{Fills, Opens}
use Rattle.sp_gates.specs.Nets.{HasNet, Awaits}
use Rattle.sp_gates.proofs.Growing.{Awaits-stays, Grows-join, more_gates, same_nets}
use Rattle.sp_sequence.specs.declared.part.Slot.{Slot}
use Rattle.sp_sequence.specs.Fits.{starts_of, chain_starts, slot_starts, AreApart, AreMembers, no_member, one_member, AreChains, no_chain, one_chain, AreSlots, no_slot, one_slot}
use Rattle.sp_sequence.proofs.Waiting.{awaits_open, none_in, one_net}
use Rattle.sp_worked_beats.specs.Rows.{IsAlone, AreTwo}

-- a net is promised, and cells are added that drive no open net
pub opens_more : (a b c : Draft) (net : ℕ) → Opens a b net → Fills b c [] → Opens a c net
opens_more a b c net o f = record {
  grows = Grows-join a b c o.grows f.grows;
  gates = more_gates a b c o.gates f.gates;
  fresh = o.fresh;
  still_open = λ n was. f.still_open n (o.still_open n was) (none_in n);
  no_other = λ n is other. o.no_other n (f.no_other n is).0 other;
}

-- a net that is to be driven is still to be driven after another one was promised, and is another one
pub awaits_past : (a b : Draft) (net other : ℕ) → Opens a b other → Awaits a net 1 → Awaits b net 1
awaits_past a b net other o h = Awaits-stays a b net 1 o.grows (o.still_open net (awaits_open a net 1 h)) h

pub is_other : (a b : Draft) (net other : ℕ) → Opens a b other → Awaits a net 1 → other ≡ net → ⊥
is_other a b net other o h e = let l = (awaits_open a net 1 h).within in let f = o.fresh in omega (arith, l, f, e)

alone_starts : (slot : Slot) (child : Child) → IsAlone slot child → chain_starts slot.chains.items ≡ child.start ∷ []
alone_starts slot child h = ap chain_starts h.chains ∙ ap (λ ms. starts_of ms ++ []) h.members

alone_chains : (d : Draft) (slot : Slot) (child : Child) → IsAlone slot child → Awaits d child.start 1 → HasNet d child.done 1 → AreChains d slot.chains.items
alone_chains d slot child h start done =
    subst (AreChains d) (sym h.chains)
    (one_chain (subst (AreMembers d) (sym h.members) (one_member (record { start = start; done = done; wanted = tt }) (none_in child.start) no_member)) (λ net i j. none_in net j) no_chain)

pub two_starts : (slots : List Slot) (a b : Child) → AreTwo slots a b → slot_starts slots ≡ a.start ∷ b.start ∷ []
two_starts slots a b h = ap slot_starts h.are ∙ ap₂ (λ x y. x ++ (y ++ [])) (alone_starts h.first a h.first_one) (alone_starts h.second b h.second_one)

pub two_slots_fit : (d : Draft) (slots : List Slot) (a b : Child) → AreTwo slots a b → Awaits d a.start 1 → HasNet d a.done 1 → Awaits d b.start 1 → HasNet d b.done 1 → (b.start ≡ a.start → ⊥) → AreSlots d slots
two_slots_fit d slots a b h start done other other_done out =
    subst (AreSlots d) (sym h.are)
    (one_slot (alone_chains d h.first a h.first_one start done)
    (subst (λ xs. AreApart xs (chain_starts h.second.chains.items ++ [])) (sym (alone_starts h.first a h.first_one)) (subst (λ ys. AreApart (a.start ∷ []) (ys ++ [])) (sym (alone_starts h.second b h.second_one)) (one_net a.start (b.start ∷ []) (one_only a.start b.start out))))
    (one_slot (alone_chains d h.second b h.second_one other other_done) (λ net i j. none_in net j) no_slot))
  where
    one_only : (x y : ℕ) → (y ≡ x → ⊥) → Contains (y ∷ []) x → ⊥
    one_only x y out (zero, l, e) = out e
    one_only x y out (suc i, l, e) = absurd (omega (arith, l))

pub step_apart : (slots : List Slot) (a b : Child) (step : ℕ) → AreTwo slots a b → (a.start ≡ step → ⊥) → (b.start ≡ step → ⊥) → Contains (slot_starts slots) step → ⊥
step_apart slots a b step h p q c = by (subst (λ xs. Contains xs step) (two_starts slots a b h) c)
  where
    by : Contains (a.start ∷ b.start ∷ []) step → ⊥
    by (zero, l, e) = p e
    by (suc zero, l, e) = q e
    by (suc (suc i), l, e) = absurd (omega (arith, l))

-- the nets that were driven, the last one that was promised first
pub turned : (d e : Draft) (slots : List Slot) (a b : Child) (step : ℕ) → AreTwo slots a b → Fills d e (slot_starts slots ++ step ∷ []) → Fills d e (b.start ∷ a.start ∷ step ∷ [])
turned d e slots a b step h f =
    same_nets d e (a.start ∷ b.start ∷ step ∷ []) (b.start ∷ a.start ∷ step ∷ []) (λ net. (swap a.start b.start step net, swap b.start a.start step net)) (subst (λ xs. Fills d e (xs ++ step ∷ [])) (two_starts slots a b h) f)
  where
    swap : (x y z net : ℕ) → Contains (x ∷ y ∷ z ∷ []) net → Contains (y ∷ x ∷ z ∷ []) net
    swap x y z net (zero, l, e) = (1, omega arith, e)
    swap x y z net (suc zero, l, e) = (0, omega arith, e)
    swap x y z net (suc (suc i), l, e) = (suc (suc i), omega (arith, l), e)
