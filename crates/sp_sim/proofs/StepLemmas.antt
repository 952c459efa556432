-- Steps compute what their cells do.
use Rattle.std.proofs.Common.{◌≡◌, ℕ, Some, refl, sym, ap, ◌∙◌, subst}
use Rattle.sp_sim.specs.declared.step.Task.{Task}
use Rattle.sp_sim.specs.declared.step.Task.TheVariants.{Add, Sub, Mul, Div, Rem, And, Or, Xor, Min, Max, Lt, Eq, Not, Shl, Shr, Cast, Choose}
use Rattle.sp_sim.specs.Settling.{computed_word, computed_width, OperandsFit}
use Rattle.sp_sim.specs.Steps.{cell_by, word_by, width_by, Fit}

computed_by : (w : ℕ → ℕ) (task : Task) (net a b c : ℕ) → computed_word w (cell_by task net a b c) ≡ Some (net, word_by task (w a) (w b) (w c))
computed_by w (Add ty) net a b c = refl
computed_by w (Sub ty) net a b c = refl
computed_by w (Mul ty) net a b c = refl
computed_by w (Div ty) net a b c = refl
computed_by w (Rem ty) net a b c = refl
computed_by w (And ty) net a b c = refl
computed_by w (Or ty) net a b c = refl
computed_by w (Xor ty) net a b c = refl
computed_by w (Min ty) net a b c = refl
computed_by w (Max ty) net a b c = refl
computed_by w (Lt ty) net a b c = refl
computed_by w (Eq ty) net a b c = refl
computed_by w (Not ty) net a b c = refl
computed_by w (Shl ty places) net a b c = refl
computed_by w (Shr ty places) net a b c = refl
computed_by w (Cast from to) net a b c = refl
computed_by w (Choose width) net a b c = refl

pub width_same : (task : Task) (net a b c : ℕ) → computed_width (cell_by task net a b c) ≡ width_by task
width_same (Add ty) net a b c = refl
width_same (Sub ty) net a b c = refl
width_same (Mul ty) net a b c = refl
width_same (Div ty) net a b c = refl
width_same (Rem ty) net a b c = refl
width_same (And ty) net a b c = refl
width_same (Or ty) net a b c = refl
width_same (Xor ty) net a b c = refl
width_same (Min ty) net a b c = refl
width_same (Max ty) net a b c = refl
width_same (Lt ty) net a b c = refl
width_same (Eq ty) net a b c = refl
width_same (Not ty) net a b c = refl
width_same (Shl ty places) net a b c = refl
width_same (Shr ty places) net a b c = refl
width_same (Cast from to) net a b c = refl
width_same (Choose width) net a b c = refl

fit_by : (w : ℕ → ℕ) (task : Task) (net a b c : ℕ) → OperandsFit w (cell_by task net a b c) → Fit task (w a) (w b) (w c)
fit_by w (Add ty) net a b c f = f
fit_by w (Sub ty) net a b c f = f
fit_by w (Mul ty) net a b c f = f
fit_by w (Div ty) net a b c f = f
fit_by w (Rem ty) net a b c f = f
fit_by w (And ty) net a b c f = f
fit_by w (Or ty) net a b c f = f
fit_by w (Xor ty) net a b c f = f
fit_by w (Min ty) net a b c f = f
fit_by w (Max ty) net a b c f = f
fit_by w (Lt ty) net a b c f = f
fit_by w (Eq ty) net a b c f = f
fit_by w (Not ty) net a b c f = f
fit_by w (Shl ty places) net a b c f = f
fit_by w (Shr ty places) net a b c f = f
fit_by w (Cast from to) net a b c f = f
fit_by w (Choose width) net a b c f = f

-- at the words that were read
module _ (w : ℕ → ℕ) (task : Task) (net a b c x y z : ℕ) (ex : x ≡ w a) (ey : y ≡ w b) (ez : z ≡ w c) where
  pub fit_at : OperandsFit w (cell_by task net a b c) → Fit task x y z
  fit_at f = subst (λ k. Fit task k y z) (sym ex) (subst (λ k. Fit task (w a) k z) (sym ey) (subst (λ k. Fit task (w a) (w b) k) (sym ez) (fit_by w task net a b c f)))

  pub stepped : (r : ℕ) → r ≡ word_by task x y z → Some (net, r) ≡ computed_word w (cell_by task net a b c)
  stepped r e = ap (λ k. Some (net, k)) (e ∙ ap (λ k. word_by task k y z) ex ∙ ap (λ k. word_by task (w a) k z) ey ∙ ap (word_by task (w a) (w b)) ez) ∙ sym (computed_by w task net a b c)
