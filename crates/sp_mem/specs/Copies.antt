-- The words of a register's copies, by what is done in a cycle.
use Rattle.std.specs.Prelude.{ℕ, Bool, ◌&&◌, ◌==◌, if◌then◌else◌, List, [], ◌∷◌, Option, Some, None}
use Rattle.sp_netlist.specs.Signals.{Signals}
use Rattle.sp_gates.specs.Tested.{is_on}
use Rattle.sp_mem.specs.declared.part.Fresh.{Fresh}
use Rattle.sp_mem.specs.declared.part.Touch.{Touch}

-- the number of a copy in a cycle: that on a net, if there is one
abbrev pub copy_at : Signals → (cycle : ℕ) → Option ℕ → ℕ
copy_at s t None = 0
copy_at s t (Some net) = s.net t net

-- whether something is done to a copy in a cycle
abbrev pub is_at : Signals → (cycle enable : ℕ) → Option ℕ → (copy : ℕ) → Bool
is_at s t enable at copy = is_on s enable t && (copy_at s t at == copy)

-- the word of a copy, where this cycle makes it fresh or not
abbrev pub freshened : Signals → (cycle copy first : ℕ) → List Fresh → (old : ℕ) → ℕ
freshened s t copy first [] old = old
freshened s t copy first (f ∷ fs) old = freshened s t copy first fs (if is_at s t f.enable f.copy copy then first else old)

-- the word of a copy after the writes of this cycle; of several the last one's stays
abbrev pub written : Signals → (cycle copy : ℕ) → List Touch → (old : ℕ) → ℕ
written s t copy [] old = old
written s t copy (w ∷ ws) old = written s t copy ws (if is_at s t w.enable w.copy copy then s.net t w.word else old)

-- the word with which a register begins
abbrev pub first_word : Option ℕ → ℕ
first_word None = 0
first_word (Some word) = word
