-- Bits that the gates give, and those of operators.
use Rattle.std.proofs.Common.{◌≡◌, ℕ, ◌&&◌, Bool, true, false, not, if◌then◌else◌, List, Option, Some, None, Result, IfOk, refl, ◌∙◌}
use Rattle.std.proofs.lemmas.Result.{IfOk-weaker}
use Rattle.sp_netlist.specs.Draft.{Draft}
use Rattle.sp_netlist.specs.Signals.{Signals}
use Rattle.sp_gates.specs.Runs.{RunsOn}
use Rattle.sp_core.specs.Operators.{bit}
use Rattle.sp_pipe.specs.Values.{is_wanted}
use Rattle.sp_words.specs.declared.types.Ty.TheVariants.{Bit}
use Rattle.sp_words.specs.Words.{word_not}

pub chosen_bit : (b : Bool) → (if b then 1 else 0) ≡ bit b
chosen_bit true = refl
chosen_bit false = refl

pub turned_bit : (b : Bool) → word_not Bit (if b then 1 else 0) ≡ bit (not b)
unfolding word_not
turned_bit true = refl
turned_bit false = refl

-- an operation without a mask is always wanted
pub wanted_always : (b : Bool) (words : List ℕ) (mask : Option ℕ) → mask ≡ None → b ≡ (b && is_wanted words mask)
wanted_always true words None e = refl
wanted_always false words None e = refl
wanted_always b words (Some m) e = absurd (cc)

-- a net with a word has an equal one
pub other_word : {E : Type 0} (r : Result ℕ E) (d : Draft) (v w : Signals → ℕ → ℕ) → ((s : Signals) (t : ℕ) → v s t ≡ w s t) → IfOk r (λ net. (s : Signals) → RunsOn s d.cells → (t : ℕ) → s.net t net ≡ v s t)
    → IfOk r (λ net. (s : Signals) → RunsOn s d.cells → (t : ℕ) → s.net t net ≡ w s t)
other_word r d v w e h = IfOk-weaker r (λ net. (s : Signals) → RunsOn s d.cells → (t : ℕ) → s.net t net ≡ v s t) (λ net. (s : Signals) → RunsOn s d.cells → (t : ℕ) → s.net t net ≡ w s t) (λ net g s run t. g s run t ∙ e s t) h
