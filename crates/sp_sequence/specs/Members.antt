-- How members are run: equations of their nets over time, whatever the words of others.
use Rattle.std.specs.Prelude.{◌≡◌, ℕ, zero, suc, Bool, false, ◌&&◌, ◌||◌, not, List, [], ◌∷◌, Option, Some, None}
use Rattle.sp_netlist.specs.Signals.{Signals}
use Rattle.sp_gates.specs.Tested.{is_on}
use Rattle.sp_sequence.specs.declared.part.Member.{Member}

-- what is so in the cycle after
abbrev pub after : (ℕ → Bool) → (cycle : ℕ) → Bool
after cause zero = false
after cause (suc t) = cause t

-- a wire is on in the cycle after each one in which something is so, and in no other
abbrev pub IsAfter : (wire cause : ℕ → Bool) → Type 0
IsAfter wire cause = (t : ℕ) → wire t ≡ after cause t

-- where a member is started: one that can be passed over, where it is wanted
abbrev pub goes : Signals → (cause : ℕ → Bool) → (wanted : Option ℕ) → (cycle : ℕ) → Bool
goes s cause None t = cause t
goes s cause (Some w) t = cause t && is_on s w t

-- where it is over: its child is done, or it was passed over, two cycles after its turn was told
abbrev pub is_past : Signals → (cause : ℕ → Bool) → (done : ℕ) → (wanted : Option ℕ) → (cycle : ℕ) → Bool
is_past s cause done None t = is_on s done t
is_past s cause done (Some w) t = is_on s done t || after (after (λ u. cause u && not (is_on s w u))) t

abbrev pub is_over : Signals → (cause : ℕ → Bool) → Member → (cycle : ℕ) → Bool
is_over s cause m t = is_past s cause m.child.done m.wanted t

-- a member is started in the cycle after its turn is told, where it is wanted
abbrev pub IsStarted : Signals → (cause : ℕ → Bool) → Member → Type 0
IsStarted s cause m = IsAfter (is_on s m.child.start) (goes s cause m.wanted)

-- members one after the other: each one's turn is told where the one before it is over
abbrev pub chain_over : Signals → (cause : ℕ → Bool) → List Member → (cycle : ℕ) → Bool
chain_over s cause [] = cause
chain_over s cause (m ∷ members) = chain_over s (is_over s cause m) members

abbrev pub AreStarted : Signals → (cause : ℕ → Bool) → List Member → Type 0
AreStarted s cause [] = Unit {0}
AreStarted s cause (m ∷ members) = IsStarted s cause m × AreStarted s (is_over s cause m) members
