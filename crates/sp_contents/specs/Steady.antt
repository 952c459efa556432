-- Moments that stay with a copy: between two makings of a memory all that is done to it is done to one copy.
use Rattle.std.specs.Prelude.{◌≡◌, ℕ, ◌<◌, true, List, [], ◌∷◌, Option, Some}
use Rattle.sp_words.specs.declared.kind.Kind.{Kind}
use Rattle.sp_words.specs.declared.kind.Kind.TheVariants.{Reg, Sram, Fifo, LineBuf, Dram, ArgOut}
use Rattle.sp_words.specs.Interface.{word_count}
use Rattle.sp_core.specs.Declarations.{mem, kind_of, dims}
use Rattle.sp_core.specs.Elements.{row_major}
use Rattle.sp_core.specs.Events.{Act, reads, writes, puts, takes, resets, turns, Moment, touches, slices, renews, keeps}
use Rattle.sp_core.specs.PlainCore.{PlainCore}
use Rattle.sp_core.specs.Sequential.{has_reset}
use Rattle.sp_core.specs.Store.{changed}
use Rattle.sp_machine.specs.Stamps.{Stamped}

-- the copy at hand of each memory that has been made
abbrev pub AtHand : Type 0
AtHand = ℕ → Option ℕ

abbrev pub act_hand : AtHand → (copy mem : ℕ) → Act → AtHand
act_hand hand c m resets = changed hand m (Some c)
act_hand hand c m act = hand

abbrev pub moment_hand : AtHand → (copy : ℕ) → Moment → AtHand
moment_hand hand c (touches e) = act_hand hand c e.mem e.act
moment_hand hand c (slices s) = hand
moment_hand hand c (renews m) = changed hand m (Some c)
moment_hand hand c (keeps m w) = changed hand m (Some c)

abbrev pub ActsAtHand : AtHand → (copy mem : ℕ) → Act → Type 0
ActsAtHand hand c m resets = Unit {0}
ActsAtHand hand c m act = hand m ≡ Some c

abbrev pub IsAtHand : AtHand → (copy : ℕ) → Moment → Type 0
IsAtHand hand c (touches e) = ActsAtHand hand c e.mem e.act
IsAtHand hand c _ = Unit {0}

-- one after the other
abbrev pub AreSteady : AtHand → List Stamped → Type 0
AreSteady hand [] = Unit {0}
AreSteady hand (s ∷ rest) = IsAtHand hand s.copy s.moment × AreSteady (moment_hand hand s.copy s.moment) rest

abbrev pub hand_after : AtHand → List Stamped → AtHand
hand_after hand [] = hand
hand_after hand (s ∷ rest) = hand_after (moment_hand hand s.copy s.moment) rest

-- what may be done to a memory of a kind: an access to a DRAM is inside of it
abbrev pub MayWrite : Kind → (dims indices : List ℕ) → Type 0
MayWrite Reg dims is = Unit {0}
MayWrite Sram dims is = Unit {0}
MayWrite LineBuf dims is = Unit {0}
MayWrite ArgOut dims is = Unit {0}
MayWrite Dram dims is = row_major dims is < word_count dims
MayWrite _ dims is = ⊥

abbrev pub MayRead : Kind → (dims indices : List ℕ) → Type 0
MayRead Dram dims is = row_major dims is < word_count dims
MayRead kind dims is = Unit {0}

abbrev pub IsFifo : Kind → Type 0
IsFifo Fifo = Unit {0}
IsFifo _ = ⊥

abbrev pub IsLine : Kind → Type 0
IsLine LineBuf = Unit {0}
IsLine _ = ⊥

abbrev pub IsReg : Kind → Type 0
IsReg Reg = Unit {0}
IsReg _ = ⊥

-- memories on the chip that aren't ports are made
abbrev pub IsMade : Kind → Type 0
IsMade Reg = Unit {0}
IsMade Sram = Unit {0}
IsMade Fifo = Unit {0}
IsMade LineBuf = Unit {0}
IsMade _ = ⊥

module _ (core : PlainCore) where
  -- a memory, and no DRAM
  pub record IsOnChip (m : ℕ) : Type 0 where
    pub kind_is : kind_of core m ≡ (mem core m).kind
    pub dims_are : dims core m ≡ (mem core m).dims

  abbrev pub MayAct : (mem : ℕ) → (indices : List ℕ) → Act → Type 0
  MayAct m is (reads w) = MayRead (kind_of core m) (dims core m) is
  MayAct m is (writes w) = MayWrite (kind_of core m) (dims core m) is
  MayAct m is (puts w) = IsFifo (kind_of core m)
  MayAct m is (takes w) = IsFifo (kind_of core m)
  MayAct m is resets = (has_reset (kind_of core m) (mem core m).start ≡ true) × IsOnChip m
  MayAct m is turns = IsLine (kind_of core m)

  abbrev pub IsAllowed : Moment → Type 0
  IsAllowed (touches e) = MayAct e.mem e.indices e.act
  IsAllowed (slices s) = Unit {0}
  IsAllowed (renews m) = IsMade (kind_of core m) × IsOnChip m
  IsAllowed (keeps m w) = IsReg (kind_of core m)
