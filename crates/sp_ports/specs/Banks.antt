-- When two accesses use one port of a bank in one cycle, and when they are one tap of it.
use Rattle.std.specs.Prelude.{◌≡◌, ℕ, Bool, true, false, ℤ, pos, List, ◌∷◌, map, Option, Some, None}
use Rattle.sp_bank.specs.Banking.{Banking}
use Rattle.sp_bank.specs.Places.{bank}
use Rattle.sp_core.specs.Declarations.{mem}
use Rattle.sp_core.specs.Events.{Act, reads, writes, At, Moment, touches}
use Rattle.sp_core.specs.Forms.{PlainForms, are_known_indices, form_at}
use Rattle.sp_core.specs.Meeting.{changes}
use Rattle.sp_core.specs.Numbered.{accesses, numbered}
use Rattle.sp_core.specs.PlainCore.{PlainCore}
use Rattle.sp_plan.specs.Ports.{has_banks, scheme_at}
use Rattle.sp_words.specs.declared.kind.Kind.{Kind}
use Rattle.sp_words.specs.declared.kind.Kind.TheVariants.{LineBuf}
use Rattle.sp_machine.specs.Stamps.{Stamped}

-- a bank has one port to be read and one to be written
abbrev pub is_one_port : Act → Act → Bool
is_one_port (reads v) (reads w) = true
is_one_port (writes v) (writes w) = true
is_one_port _ _ = false

-- by a scheme the elements at these indices are in one bank; each row of a line buffer has banks of its own
abbrev pub AreInOneBank : Kind → Banking → (indices others : List ℕ) → Type 0
AreInOneBank LineBuf b (row ∷ is) (other ∷ js) = (row ≡ other) × (bank b is ≡ bank b js)
AreInOneBank kind b is js = bank b is ≡ bank b js

-- a memory without a scheme is one bank
abbrev pub AreInBank : Kind → Option Banking → (indices others : List ℕ) → Type 0
AreInBank kind None is js = Unit {0}
AreInBank kind (Some b) is js = AreInOneBank kind b is js

module _ (core : PlainCore) (schemes : List (Option Banking)) where
  -- both are accesses to one port of one bank of a memory
  abbrev pub AreAtOnePort : Moment → Moment → Type 0
  AreAtOnePort (touches e) (touches f) =
      (e.mem ≡ f.mem) × (has_banks (mem core e.mem).kind ≡ true) × (is_one_port e.act f.act ≡ true)
      × AreInBank (mem core e.mem).kind (scheme_at schemes (Some e.mem)) e.indices f.indices
  AreAtOnePort _ _ = ⊥

  -- two moments use one port of one bank of one copy in one cycle
  pub record SharePort (s t : Stamped) : Type 0 where
    pub cycle : s.cycle ≡ t.cycle
    pub copy : s.copy ≡ t.copy
    pub port : AreAtOnePort s.moment t.moment

module _ (core : PlainCore) (forms : PlainForms) where
  -- two reads of one group of iterations, whose indices are the same forms: they want one word, which one tap gives to both
  abbrev pub AreOneTap : Moment → Moment → Type 0
  AreOneTap (touches e) (touches f) =
      (changes e.act ≡ false) × (changes f.act ≡ false) × (e.standing ≡ f.standing)
      × (form_at core forms e.number ≡ form_at core forms f.number) × (e.indices ≡ f.indices)
  AreOneTap _ _ = ⊥

  -- the indices of an access are its forms, where these are known; a symbol has one word in each group of iterations
  abbrev pub IsAtForms : (symbols : List At → ℕ → ℤ) → Moment → Type 0
  IsAtForms symbols (touches e) = are_known_indices core forms (form_at core forms e.number) (map pos e.indices) e.standing.counters (symbols e.standing.path) ≡ true
  IsAtForms symbols _ = Unit {0}

  -- the same where it is an operation's: the forms of a transfer are of its slice
  abbrev pub IsAtOwnForms : (symbols : List At → ℕ → ℤ) → Moment → Type 0
  IsAtOwnForms symbols (touches e) = numbered core e.number ≡ accesses → IsAtForms symbols (touches e)
  IsAtOwnForms symbols _ = Unit {0}

-- no two of these share a port of a bank, other than as one tap
abbrev pub ShareNoPort : PlainCore → PlainForms → List (Option Banking) → Stamped → Stamped → Type 0
ShareNoPort core forms schemes s t = SharePort core schemes s t → AreOneTap core forms s.moment t.moment
