-- The members of slots, by stages in their places.
use Rattle.std.specs.Prelude.{◌≡◌, ℕ, zero, suc, ◌-◌, ◌<◌, ◌≤◌, List, [], ◌∷◌, length, map, slice_index, slice_index_or, Option, Some, None}
use Rattle.std.specs.Global.{Vec}
use Rattle.sp_netlist.specs.Draft.{Draft}
use Rattle.sp_netlist.specs.Signals.{Signals}
use Rattle.sp_core.specs.Scope.{is_some_up_to}
use Rattle.sp_gates.specs.Nets.{HasNet, Awaits}
use Rattle.sp_gates.specs.Runs.{RunsOn}
use Rattle.sp_gates.specs.Tested.{is_on}
use Rattle.sp_sequence.specs.declared.part.Chain.{Chain}
use Rattle.sp_sequence.specs.declared.part.Member.{Member}
use Rattle.sp_sequence.specs.declared.part.Slot.{Slot}
use Rattle.sp_sequence.specs.Fits.{WantedFits}
use Rattle.sp_stage_members.specs.declared.part.StagePart.{StagePart}
use Rattle.sp_stage_members.specs.Placed.{AreOnce}

-- what holds of two lists side by side, by numbers from one on; they have one length
abbrev pub Paired : {A B : Type 0} → (P : (number : ℕ) → A → B → Type 0) → (from : ℕ) → List A → List B → Type 0
Paired P n [] [] = Unit {0}
Paired P n (x ∷ xs) (y ∷ ys) = P n x y × Paired P (suc n) xs ys
Paired P n _ _ = ⊥

-- the net tells whether some of the lanes are live; lanes from 0 on always are, and need none
abbrev pub IsWanted : Signals → (masks : List ℕ) → (first last : ℕ) → Option ℕ → Type 0
IsWanted s masks first last None = first ≡ 0
IsWanted s masks first last (Some w) = (1 ≤ first) × ((t : ℕ) → is_on s w t ≡ is_some_up_to (λ l. is_on s (slice_index masks l) t) first (last - first))

-- stages by number
abbrev pub no_part : StagePart
no_part = record { child = record { start = 0; done = 0 }; first = 0; last = 0 }

abbrev pub part_at : List StagePart → (stage : ℕ) → StagePart
part_at stages i = slice_index_or stages i no_part

abbrev pub starts_in : List StagePart → List ℕ
starts_in stages = map (λ (p : StagePart). p.child.start) stages

-- nets for the lanes in lists: those of the counters, and behind them those of each slot
abbrev pub masks_of : List (Vec ℕ) → List (List ℕ)
masks_of masks = map (λ (v : Vec ℕ). v.items) masks

abbrev pub masks_at : List (List ℕ) → (row : ℕ) → List ℕ
masks_at masks x = slice_index_or masks x []

-- by which of these lists the members of a slot are told: the first one of a chain by that of the slot before it, or the counters
abbrev pub told_row : (slot member : ℕ) → ℕ
told_row x zero = x
told_row x (suc i) = suc x

module _ (d : Draft) (masks : List (List ℕ)) where
  -- a stage is to be started and done, and each of its lanes has a net in each list that may tell it
  pub record PartFits (slots : ℕ) (p : StagePart) : Type 0 where
    pub start : Awaits d p.child.start 1
    pub done : HasNet d p.child.done 1
    pub order : p.first ≤ p.last
    pub lanes : 1 ≤ p.first → (x : ℕ) → x ≤ slots → p.last < length (masks_at masks x)

  abbrev pub MasksStand : Type 0
  MasksStand = (x i : ℕ) → i < length (masks_at masks x) → HasNet d (slice_index (masks_at masks x) i) 1

  -- and no start is that of another stage
  pub record PartsFit (slots : ℕ) (stages : List StagePart) : Type 0 where
    pub each : (i : ℕ) → i < length stages → PartFits slots (part_at stages i)
    pub apart : AreOnce (starts_in stages)
    pub stand : MasksStand

  -- a part as a member of a slot, with the net that tells in each run whether it is wanted
  pub record IsMemberOf (p : StagePart) (x i : ℕ) (m : Member) : Type 0 where
    pub child : m.child ≡ p.child
    pub fits : WantedFits d m.wanted
    pub told : (s : Signals) → RunsOn s d.cells → IsWanted s (masks_at masks (told_row x i)) p.first p.last m.wanted

  -- the members of a chain, the chains of a slot and the slots, by the numbers of the stages
  module _ (stages : List StagePart) where
    abbrev pub AreMembersOf : (slot : ℕ) → List ℕ → List Member → Type 0
    AreMembersOf x ns members = Paired (λ i n m. IsMemberOf (part_at stages n) x i m) 0 ns members

    abbrev pub AreChainsOf : (slot : ℕ) → List (List ℕ) → List Chain → Type 0
    AreChainsOf x chains cs = Paired (λ j ns (c : Chain). AreMembersOf x ns c.members.items) 0 chains cs

    abbrev pub AreSlotsOf : (places : List (List (List ℕ))) → List Slot → Type 0
    AreSlotsOf places slots = Paired (λ x chains (slot : Slot). AreChainsOf x chains slot.chains.items) 0 places slots
