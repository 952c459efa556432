-- The words of the DRAMs: those of their files, and zeros where none is named.
use Rattle.std.specs.Prelude.{◌≡◌, ℕ, ◌+◌, ◌≤◌, List, [], ◌∷◌, ◌++◌, map, flat_map, option_to_list, replicate, length, Option, Some, None, option_and_then, string_bytes, ⊤}
use Rattle.toml.specs.Data.{Members, get_member, as_str}
use Rattle.sp_edges.specs.Standing.{Standing, IsAllOf, BeginsWith}
use Rattle.sp_edges.specs.Calls.{Call, given, refused, WantsMemory}
use Rattle.sp_edges.specs.declared.input.InputFault.TheVariants as fault
use Rattle.sp_words.specs.Ports.{PlainPort}
use Rattle.sp_words.specs.Interface.{word_count}
use Rattle.sp_setup.specs.declared.error.SetupEnd.{SetupEnd}
use Rattle.sp_setup.specs.declared.error.SetupEnd.TheVariants.{Refused, ReadFault, TooLong, Memory}
use Rattle.sp_setup.specs.Cells.{FileGives, CellsEnd}

-- the longest CSV file that is read
abbrev pub longest_file : ℕ
longest_file = 1610612736

-- these bytes stand in a file, as far as that is told, and are not too long to be read
pub record GivesFile (standing : Standing) (bytes : List ℕ) : Type 0 where
  pub all : IsAllOf standing bytes
  pub not_long : length bytes ≤ longest_file

-- more bytes stand there
pub record IsPastFile (standing : Standing) : Type 0 where
  pub bytes : List ℕ
  pub long : length bytes ≡ longest_file + 1
  pub begins : BeginsWith standing bytes

-- the name of a DRAM's file
abbrev pub file_of : Members → PlainPort → Option (List ℕ)
file_of files port = option_and_then as_str (get_member port.name files)

-- the files that are named, in the order of the DRAMs
abbrev pub files_of : Members → List PlainPort → List (List ℕ)
files_of files ports = flat_map (λ port. option_to_list (file_of files port)) ports

-- a file that gives the words of a DRAM
pub record NamedGives (standing : Standing) (port : PlainPort) (words : List ℕ) : Type 0 where
  pub bytes : List ℕ
  pub given : GivesFile standing bytes
  pub gives : FileGives port bytes words

abbrev pub IsMemory : SetupEnd → Type 0
IsMemory (Refused e) = ⊥
IsMemory ReadFault = ⊥
IsMemory (TooLong name) = ⊥
IsMemory Memory = ⊤

-- the words of a DRAM, by the name of its file
abbrev pub DramGives : (List ℕ → Standing) → Option (List ℕ) → PlainPort → List ℕ → Type 0
DramGives told None port words = words ≡ replicate (word_count port.dims) 0
DramGives told (Some name) port words = NamedGives (told name) port words

-- the words of several DRAMs, one after another
unfoldable pub AllGive : (List ℕ → Standing) → Members → List PlainPort → List (List ℕ) → Type 0
AllGive told files [] [] = ⊤
AllGive told files [] (words ∷ rest) = ⊥
AllGive told files (port ∷ ports) [] = ⊥
AllGive told files (port ∷ ports) (words ∷ rest) = DramGives told (file_of files port) port words × AllGive told files ports rest

-- all DRAMs before this one give their words
pub record IsReached (told : List ℕ → Standing) (files : Members) (ports : List PlainPort) (port : PlainPort) : Type 0 where
  pub before : List PlainPort
  pub after : List PlainPort
  pub words : List (List ℕ)
  pub stands : ports ≡ before ++ (port ∷ after)
  pub given : AllGive told files before words

-- a name that was too long, or want of memory where it could not be kept
abbrev pub IsTooLong : List ℕ → SetupEnd → Type 0
IsTooLong name (Refused e) = ⊥
IsTooLong name ReadFault = ⊥
IsTooLong name (TooLong text) = string_bytes text ≡ name
IsTooLong name Memory = ⊤

-- How the reading of a file may end without its bytes, where `failed` says that it may have failed, and `asked` of
-- calls that they were made.
abbrev pub FileEnds : Standing → Type 0 → (List Call → Type 0) → List ℕ → SetupEnd → Type 0
FileEnds standing failed asked name (Refused e) = ⊥
FileEnds standing failed asked name ReadFault = asked (refused name fault.Failed ∷ []) × failed
FileEnds standing failed asked name (TooLong text) = asked (refused name fault.TooLong ∷ []) × (string_bytes text ≡ name) × IsPastFile standing
FileEnds standing failed asked name Memory = WantsMemory asked (name ∷ [])

-- a file that refuses
pub record NamedRefuses (standing : Standing) (port : PlainPort) (end : SetupEnd) : Type 0 where
  pub bytes : List ℕ
  pub given : GivesFile standing bytes
  pub refuses : CellsEnd port bytes end

-- How the reading of a named DRAM may end without words: a file that was given refuses, or the call for it was
-- refused. Want of memory may come always.
abbrev pub NamedEnds : Standing → Type 0 → (List Call → Type 0) → List ℕ → PlainPort → SetupEnd → Type 0
NamedEnds standing failed asked name port (Refused e) = asked (given name ∷ []) × NamedRefuses standing port (Refused e)
NamedEnds standing failed asked name port ReadFault = asked (refused name fault.Failed ∷ []) × failed
NamedEnds standing failed asked name port (TooLong text) = asked (refused name fault.TooLong ∷ []) × (string_bytes text ≡ name) × IsPastFile standing
NamedEnds standing failed asked name port Memory = WantsMemory asked (name ∷ [])

-- the same of a DRAM, by the name of its file
abbrev pub DramEnds : (List ℕ → Standing) → (List ℕ → Type 0) → (List Call → Type 0) → Option (List ℕ) → PlainPort → SetupEnd → Type 0
DramEnds told failed asked None port end = IsMemory end × asked []
DramEnds told failed asked (Some name) port end = NamedEnds (told name) (failed name) asked name port end

-- The first DRAM whose words aren't there, with how its file ends. The files before it were asked for, each once.
pub record FirstEnds (told : List ℕ → Standing) (failed : List ℕ → Type 0) (asked : List Call → Type 0) (files : Members) (ports : List PlainPort) (end : SetupEnd) : Type 0 where
  pub port : PlainPort
  pub name : List ℕ
  pub reached : IsReached told files ports port
  pub named : file_of files port ≡ Some name
  pub ends : NamedEnds (told name) (failed name) (λ calls. asked (map given (files_of files reached.before) ++ calls)) name port end

abbrev pub DramsEnd : (List ℕ → Standing) → (List ℕ → Type 0) → (List Call → Type 0) → Members → List PlainPort → SetupEnd → Type 0
DramsEnd told failed asked files ports (Refused e) = FirstEnds told failed asked files ports (Refused e)
DramsEnd told failed asked files ports ReadFault = FirstEnds told failed asked files ports ReadFault
DramsEnd told failed asked files ports (TooLong text) = FirstEnds told failed asked files ports (TooLong text)
DramsEnd told failed asked files ports Memory = WantsMemory asked (files_of files ports)
