-- The scheme that is chosen for a memory: the first one by which it keeps the rules of valid plans on banks.
use Rattle.std.specs.Prelude.{◌≡◌, ℕ, ◌+◌, Bool, true, false, IsTrue, List, [], ◌∷◌, ◌++◌, length, replicate, Option, Some, None, slice_index_or}
use Rattle.sp_bank.specs.Banking.{Banking, InSpace}
use Rattle.sp_bank.specs.Search.{Precedes}
use Rattle.sp_core.specs.Declarations.{mem}
use Rattle.sp_core.specs.Forms.{PlainForms}
use Rattle.sp_core.specs.Numbering.{counters_size}
use Rattle.sp_core.specs.PlainCore.{PlainNode, inner, PlainCore}
use Rattle.sp_plan.specs.Groups.{are_grouped, Separated}
use Rattle.sp_plan.specs.Nodes.{NodeRule, holds_of_each}
use Rattle.sp_plan.specs.Ports.{has_banks}
use Rattle.sp_plan.specs.Validity.{fits_scheme}

-- this memory has a scheme, and no other one
abbrev pub only : (mem : ℕ) → Banking → List (Option Banking)
only m b = replicate m None ++ Some b ∷ []

module _ (core : PlainCore) (forms : PlainForms) (m : ℕ) where
  abbrev pub grouped_rule : Banking → NodeRule
  grouped_rule b k n streamed (inner counters owned ops comb) = are_grouped core forms (only m b) (n + counters_size counters) ops
  grouped_rule b k n streamed node = true

  -- the memory may have this scheme
  pub record MayHave (b : Banking) : Type 0 where
    pub banks : has_banks (mem core m).kind ≡ true
    pub space : InSpace b
    pub fits : IsTrue (fits_scheme core m (Some b))
    pub grouped : IsTrue (holds_of_each (grouped_rule b) 0 0 false core.root)
    pub separated : Separated core forms (only m b) 0 core.root

  -- and no other one that precedes it; a memory that may have none has none
  abbrev pub IsChosen : Option Banking → Type 0
  IsChosen None = (b : Banking) → ¬ MayHave b
  IsChosen (Some b) = MayHave b × ((t : Banking) → MayHave t → ¬ Precedes t b)

abbrev pub AreChosen : PlainCore → PlainForms → List (Option Banking) → Type 0
AreChosen core forms schemes = (m : ℕ) → IsChosen core forms m (slice_index_or schemes m None)
