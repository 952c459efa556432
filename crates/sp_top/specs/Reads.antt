-- What stands under a name and is read, or why it isn't.
use Rattle.std.specs.Prelude.{◌≡◌, ℕ, ◌+◌, ◌≤◌, List, [], ◌∷◌, length}
use Rattle.sp_edges.specs.Standing.{Standing, IsAllOf, BeginsWith}
use Rattle.sp_edges.specs.Calls.{Call, refused, WantsMemory}
use Rattle.sp_edges.specs.declared.input.InputFault.TheVariants as fault
use Rattle.sp_top.specs.Status.{PlainStatus, read_fault, memory, too_long}

-- these are all bytes that stand there, as far as that is told, and no more than are read
pub record GivesText (standing : Standing) (most : ℕ) (bytes : List ℕ) : Type 0 where
  pub all : IsAllOf standing bytes
  pub not_long : length bytes ≤ most

-- more bytes stand there
abbrev pub IsPastText : Standing → ℕ → Type 0
IsPastText standing most = (bytes : List ℕ) × (length bytes ≡ most + 1) × BeginsWith standing bytes

-- the refusal of a name that is too long, or of want of memory where the name could not be kept
abbrev pub TooLongOrMemory : List ℕ → PlainStatus → Type 0
TooLongOrMemory name memory = Unit {0}
TooLongOrMemory name (too_long said) = said ≡ name
TooLongOrMemory name status = ⊥

-- Why a name gives no text, where `failed` says that reading it may have failed, and `asked` of calls that they were
-- made. Want of memory may come always.
abbrev pub ReadRefuses : Standing → (failed : Type 0) → (asked : List Call → Type 0) → ℕ → List ℕ → PlainStatus → Type 0
ReadRefuses standing failed asked most name read_fault = asked (refused name fault.Failed ∷ []) × failed
ReadRefuses standing failed asked most name memory = WantsMemory asked (name ∷ [])
ReadRefuses standing failed asked most name (too_long said) = asked (refused name fault.TooLong ∷ []) × (said ≡ name) × IsPastText standing most
ReadRefuses standing failed asked most name status = ⊥
