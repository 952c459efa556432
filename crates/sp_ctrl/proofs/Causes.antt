-- A cause that is the same as another one.
use Rattle.std.proofs.Common.{◌≡◌, ℕ, suc, Bool, false, ◌∙◌}
use Rattle.sp_ctrl.specs.Runs.{IsAfter}

pub by_cause : (wire v w : ℕ → Bool) → IsAfter wire v → ((t : ℕ) → v t ≡ w t) → IsAfter wire w
by_cause wire v w h e = record { off = h.off; on = λ t. h.on t ∙ e t }

pub is_after : (wire v w : ℕ → Bool) → wire 0 ≡ false → ((t : ℕ) → wire (suc t) ≡ v t) → ((t : ℕ) → v t ≡ w t) → IsAfter wire w
is_after wire v w off on e = record { off = off; on = λ t. on t ∙ e t }
