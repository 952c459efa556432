-- How chains at once are joined.
use Rattle.std.specs.Prelude.{ℕ, zero, suc, Bool, true, false, ◌&&◌, ◌||◌, not, List, [], ◌∷◌}
use Rattle.sp_netlist.specs.Signals.{Signals}
use Rattle.sp_sequence.specs.declared.part.Chain.{Chain}
use Rattle.sp_sequence.specs.Members.{chain_over, AreStarted}

-- whether something was so in an earlier cycle, after the last one that was a first one
unfoldable pub was_since : (first over : ℕ → Bool) → (cycle : ℕ) → Bool
was_since first over zero = false
was_since first over (suc t) = (over t || was_since first over t) && not (first t)

-- and up to this cycle
abbrev pub is_since : (first over : ℕ → Bool) → (cycle : ℕ) → Bool
is_since first over t = over t || was_since first over t

-- whether a first cycle is past and not all has come since
unfoldable pub is_going : (first all : ℕ → Bool) → (cycle : ℕ) → Bool
is_going first all zero = false
is_going first all (suc t) = first t || (is_going first all t && not (all t))

-- the end is where all has come
abbrev pub is_end : (first all : ℕ → Bool) → (cycle : ℕ) → Bool
is_end first all t = is_going first all t && all t

-- all chains of some are over, where the members before them are told their turn in a first cycle
abbrev pub chains_over : Signals → (first : ℕ → Bool) → List Chain → (cycle : ℕ) → Bool
chains_over s first [] t = true
chains_over s first (c ∷ chains) t = is_since first (chain_over s first c.members.items) t && chains_over s first chains t

abbrev pub ChainsStart : Signals → (first : ℕ → Bool) → List Chain → Type 0
ChainsStart s first [] = Unit {0}
ChainsStart s first (c ∷ chains) = AreStarted s first c.members.items × ChainsStart s first chains
