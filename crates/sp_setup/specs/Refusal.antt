-- Why a setup is refused, as plain values, and the paths that name its parts.
use Rattle.std.specs.Prelude.{◌≡◌, ℕ, ◌++◌, List, [], ◌∷◌, Option, Some, None, string_bytes, ⊤}
use Rattle.sp_setup.specs.declared.error.SetupError.{SetupError}
use Rattle.sp_setup.specs.declared.error.SetupError.TheVariants as error
use Rattle.sp_setup.specs.declared.error.SetupEnd.{SetupEnd}
use Rattle.sp_setup.specs.declared.error.SetupEnd.TheVariants.{Refused, ReadFault, TooLong, Memory}

pub data Refusal : Type 0 where
  no_toml : Refusal
  key : (name : List ℕ) → Refusal
  range : (name : List ℕ) (place : ℕ) → Refusal
  missing : (name : List ℕ) → Refusal
  csv : (name : List ℕ) (row : ℕ) → Refusal
  size : (name : List ℕ) (want got : ℕ) → Refusal

abbrev pub plain_error : SetupError → Refusal
plain_error error.NoToml = no_toml
plain_error (error.Key name) = key (string_bytes name)
plain_error (error.Range name place) = range (string_bytes name) place
plain_error (error.Missing name) = missing (string_bytes name)
plain_error (error.Csv name row) = csv (string_bytes name) row
plain_error (error.Size name want got) = size (string_bytes name) want got

-- `section.name`
abbrev pub path : List ℕ → List ℕ → List ℕ
path section name = section ++ (46 ∷ name)

-- of two checks the first one that refuses decides
abbrev pub otherwise : Option Refusal → Option Refusal → Option Refusal
otherwise None second = second
otherwise (Some refusal) second = Some refusal

-- of several checks the first one that refuses decides; where none does, all pass
unfoldable pub first_refusal : List (Option Refusal) → Option Refusal
first_refusal [] = None
first_refusal (check ∷ checks) = otherwise check (first_refusal checks)

-- the end is the refusal that was found; want of memory may come always
abbrev pub IsRefusal : Option Refusal → SetupEnd → Type 0
IsRefusal found (Refused e) = found ≡ Some (plain_error e)
IsRefusal found ReadFault = ⊥
IsRefusal found (TooLong name) = ⊥
IsRefusal found Memory = ⊤
