-- Laws of accesses that agree.
use Rattle.std.specs.Prelude.{◌≡◌, ℕ, true, ◌&&◌, ◌==◌, if◌then◌else◌, List, length, All}
use Rattle.sp_netlist.specs.Signals.{Signals}
use Rattle.sp_gates.specs.Tested.{is_on}
use Rattle.sp_access.specs.declared.access.Access.{Access}
use Rattle.sp_access.specs.Asking.{is_asked, last_place, last_word, put, Agree}

pub record AccessLaws : Type 0 where
  -- to write the last one's word to its place is to write each one's word to its place
  pub writes : (s : Signals) (t : ℕ) (es : List Access) (ws : List ℕ) (place old : ℕ) → length ws ≡ length es → Agree s t es
      → (if is_asked s t es && (last_place s t es 0 == place) then last_word s t es ws 0 else old) ≡ put s t es ws place old
  -- the last one's place is that of each one that asks
  pub reads : (s : Signals) (t : ℕ) (es : List Access) → Agree s t es → All (λ a. is_on s a.on t ≡ true → (is_asked s t es ≡ true) × (last_place s t es 0 ≡ s.net t a.place)) es
