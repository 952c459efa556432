-- Calls for names, each with its answer, in the order in which they were made.
use Rattle.std.specs.Prelude.{◌≡◌, ◌≢◌, ℕ, ◌≤◌, ⊤, List, [], ◌∷◌, ◌++◌, Result, Ok, Err, refl}
use Rattle.std.proofs.Common.{arith, ◌∙◌}
use Rattle.sp_edges.specs.declared.input.InputFault.{InputFault}
use Rattle.sp_edges.specs.declared.input.InputFault.TheVariants.{Failed}

-- a call for a name, and how it was answered
pub record Call : Type 0 where
  pub name : List ℕ
  pub answer : Result (Unit {0}) InputFault

-- a call that gave all that stands under the name
abbrev pub given : List ℕ → Call
given name = record { name = name; answer = Ok tt }

-- a call that was refused
abbrev pub refused : List ℕ → InputFault → Call
refused name fault = record { name = name; answer = Err fault }

-- Calls for the first of these names in order, each of which gave what stands there. Only the last one may have
-- been refused, and not for a fault.
abbrev pub AreUnfaulted : List (List ℕ) → List Call → Type 0
AreUnfaulted names [] = ⊤
AreUnfaulted [] (call ∷ calls) = ⊥
AreUnfaulted (name ∷ names) (call ∷ []) = (call.name ≡ name) × (call.answer ≢ Err Failed)
AreUnfaulted (name ∷ names) (call ∷ (next ∷ calls)) = (call ≡ given name) × AreUnfaulted names (next ∷ calls)

-- such calls were made
abbrev pub WantsMemory : (List Call → Type 0) → List (List ℕ) → Type 0
WantsMemory asked names = (calls : List Call) × AreUnfaulted names calls × asked calls

-- Between two moments of the machine's files or sinks these calls were made, as far as a count of faults shows
-- it: it never falls, and without a call it stays.
abbrev pub Counts : {A : Type 0} → ℕ → List A → ℕ → Type 0
Counts before calls after = (before ≤ after) × (calls ≡ [] → after ≡ before)

pub Counts-none : {A : Type 0} (count : ℕ) → Counts {A = A} count [] count
Counts-none count = (omega arith, λ none. refl)

first_none : {A : Type 0} (calls more : List A) → calls ++ more ≡ [] → calls ≡ []
first_none [] more none = refl
first_none (call ∷ calls) more none = absurd (cc)

second_none : {A : Type 0} (calls more : List A) → calls ++ more ≡ [] → more ≡ []
second_none [] more none = none
second_none (call ∷ calls) more none = absurd (cc)

pub Counts-append : {A : Type 0} (before middle after : ℕ) (calls more : List A) → Counts before calls middle → Counts middle more after → Counts before (calls ++ more) after
Counts-append before middle after calls more first second =
    (omega (arith, first.0, second.0), λ none. second.1 (second_none calls more none) ∙ first.1 (first_none calls more none))
