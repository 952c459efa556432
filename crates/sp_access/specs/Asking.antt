-- What accesses ask of a bank in a cycle.
use Rattle.std.specs.Prelude.{◌≡◌, ℕ, ◌<◌, true, Bool, false, ◌&&◌, ◌||◌, ◌==◌, if◌then◌else◌, List, [], ◌∷◌, length, slice_index_or}
use Rattle.sp_netlist.specs.Draft.{Draft}
use Rattle.sp_netlist.specs.Signals.{Signals}
use Rattle.sp_gates.specs.Nets.{HasNet}
use Rattle.sp_gates.specs.Tested.{is_on}
use Rattle.sp_access.specs.declared.access.Access.{Access}

pub record AccessFits (d : Draft) (a : Access) : Type 0 where
  pub on : HasNet d a.on 1
  pub place : HasNet d a.place 32

-- whether some access asks
abbrev pub is_asked : Signals → (cycle : ℕ) → List Access → Bool
is_asked s t [] = false
is_asked s t (a ∷ es) = is_on s a.on t || is_asked s t es

-- the place of the last one that asks, and its word
abbrev pub last_place : Signals → (cycle : ℕ) → List Access → (other : ℕ) → ℕ
last_place s t [] other = other
last_place s t (a ∷ es) other = last_place s t es (if is_on s a.on t then s.net t a.place else other)

abbrev pub last_word : Signals → (cycle : ℕ) → List Access → (words : List ℕ) → (other : ℕ) → ℕ
last_word s t [] ws other = other
last_word s t (a ∷ es) [] other = other
last_word s t (a ∷ es) (w ∷ ws) other = last_word s t es ws (if is_on s a.on t then s.net t w else other)

-- the word of a place after all writes of a cycle, one after the other
abbrev pub put : Signals → (cycle : ℕ) → List Access → (words : List ℕ) → (place old : ℕ) → ℕ
put s t [] ws x old = old
put s t (a ∷ es) [] x old = old
put s t (a ∷ es) (w ∷ ws) x old = put s t es ws x (if is_on s a.on t && (s.net t a.place == x) then s.net t w else old)

-- all accesses that ask in a cycle ask for one place
abbrev pub Agree : Signals → (cycle : ℕ) → List Access → Type 0
Agree s t es = (i k : ℕ) (a : Access) → i < length es → k < length es → is_on s (slice_index_or es i a).on t ≡ true → is_on s (slice_index_or es k a).on t ≡ true
    → s.net t (slice_index_or es i a).place ≡ s.net t (slice_index_or es k a).place
