-- When a circuit is asked, up to a cycle, what happens to its memory in a timeline.
use Rattle.std.specs.Prelude.{◌≡◌, ℕ, ◌≤◌, true, List, Option}
use Rattle.std.specs.List.{Contains}
use Rattle.sp_netlist.specs.Signals.{Signals}
use Rattle.sp_core.specs.Events.{Moment}
use Rattle.sp_core.specs.PlainCore.{PlainCore}
use Rattle.sp_machine.specs.Stamps.{Stamped}
use Rattle.sp_mem.specs.declared.part.Fresh.{Fresh}
use Rattle.sp_mem.specs.declared.part.Touch.{Touch}
use Rattle.sp_mem.specs.Copies.{is_at}
use Rattle.sp_memory_words.specs.Moments.{IsAt, Writes, Puts, Takes, Freshens}

module _ (s : Signals) (events : List Stamped) (last : ℕ) where
  -- Accesses of a circuit, each with an enable and the net of a copy's number, are moments of a kind: where one happens at a copy,
  -- one of them is enabled there, and where one of them is enabled at a copy, such a moment happens there and agrees with it.
  pub record AreMade {A : Type 0} (enable : A → ℕ) (copy : A → Option ℕ) (Happens : Moment → Type 0) (Agrees : (cycle : ℕ) → A → Moment → Type 0) (asked : List A) : Type 0 where
    pub made : (t c : ℕ) (x : Moment) → t ≤ last → IsAt events t c x → Happens x → (a : A) × Contains asked a × (is_at s t (enable a) (copy a) c ≡ true)
    pub only : (t c : ℕ) (a : A) → t ≤ last → Contains asked a → is_at s t (enable a) (copy a) c ≡ true → (x : Moment) × IsAt events t c x × Agrees t a x

  module _ (m : ℕ) where
    -- writes and puts, each with its word
    abbrev pub AreWrites : List Touch → Type 0
    AreWrites = AreMade (λ w. w.enable) (λ w. w.copy) (λ x. (word : ℕ) × Writes m word x) (λ t w. Writes m (s.net t w.word))

    abbrev pub ArePuts : List Touch → Type 0
    ArePuts = AreMade (λ w. w.enable) (λ w. w.copy) (λ x. (word : ℕ) × Puts m word x) (λ t w. Puts m (s.net t w.word))

    abbrev pub AreTakes : List Touch → Type 0
    AreTakes = AreMade (λ r. r.enable) (λ r. r.copy) (λ x. (word : ℕ) × Takes m word x) (λ t r x. (word : ℕ) × Takes m word x)

    -- what makes copies fresh
    abbrev pub AreFresh : PlainCore → List Fresh → Type 0
    AreFresh core = AreMade (λ f. f.enable) (λ f. f.copy) (Freshens m core) (λ t f. Freshens m core)
