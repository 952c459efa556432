-- Laws of copies, in a cycle.
use Rattle.std.specs.Prelude.{◌≡◌, ℕ, true, false, List, ◌∷◌, ◌++◌, All}
use Rattle.sp_netlist.specs.Signals.{Signals}
use Rattle.sp_mem.specs.declared.part.Fresh.{Fresh}
use Rattle.sp_mem.specs.declared.part.Touch.{Touch}
use Rattle.sp_mem.specs.Copies.{is_at, freshened, written}

-- no access is at the copy
abbrev pub NoWrite : Signals → (cycle copy : ℕ) → List Touch → Type 0
NoWrite s t copy ws = All (λ w. is_at s t w.enable w.copy copy ≡ false) ws

abbrev pub NoFresh : Signals → (cycle copy : ℕ) → List Fresh → Type 0
NoFresh s t copy fs = All (λ f. is_at s t f.enable f.copy copy ≡ false) fs

pub record CopyLaws : Type 0 where
  -- what isn't written keeps its word, and what is written has the word of the last write
  pub kept : (s : Signals) (t copy : ℕ) (ws : List Touch) (old : ℕ) → NoWrite s t copy ws → written s t copy ws old ≡ old
  pub last : (s : Signals) (t copy : ℕ) (before : List Touch) (w : Touch) (after : List Touch) (old : ℕ) → is_at s t w.enable w.copy copy ≡ true → NoWrite s t copy after
      → written s t copy (before ++ w ∷ after) old ≡ s.net t w.word
  -- what isn't made fresh keeps its word, and what is has the first word
  pub unmade : (s : Signals) (t copy first : ℕ) (fs : List Fresh) (old : ℕ) → NoFresh s t copy fs → freshened s t copy first fs old ≡ old
  pub made : (s : Signals) (t copy first : ℕ) (before : List Fresh) (f : Fresh) (after : List Fresh) (old : ℕ) → is_at s t f.enable f.copy copy ≡ true
      → freshened s t copy first (before ++ f ∷ after) old ≡ first
