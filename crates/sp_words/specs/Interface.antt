-- When an input fits the ports of a program.
use Rattle.std.specs.Prelude.{◌≡◌, ℕ, ◌*◌, ◌≤◌, ◌<◌, ◌^◌, List, [], ◌∷◌, length}
use Rattle.std.specs.List.{All, AllZip}
use Rattle.std.specs.Global.{Vec}
use Rattle.sp_words.specs.declared.interface.PortDecl.{PortDecl}
use Rattle.sp_words.specs.declared.interface.Ports.{Ports}
use Rattle.sp_words.specs.declared.interface.Input.{Input}
use Rattle.sp_words.specs.Words.{IsWord}

-- a dimension, a depth, a step or a number of lanes
abbrev pub IsCount : ℕ → Type 0
IsCount n = (1 ≤ n) × (n < 2 ^ 31)

-- how many words there are under these dimensions: their product, and 1 under none
abbrev pub word_count : List ℕ → ℕ
word_count [] = 1
word_count (d ∷ dims) = d * word_count dims

-- a word that an argument may have
abbrev pub ArgFits : PortDecl → ℕ → Type 0
ArgFits port word = IsWord port.ty word

-- the words that a DRAM may have: as many as it declares, each of them of its type
pub record DramFits (port : PortDecl) (words : List ℕ) : Type 0 where
  pub all_there : length words ≡ word_count port.dims.items
  pub each_fits : All (IsWord port.ty) words

-- one word for each argument and one list of words for each DRAM, in order
pub record Fits (ports : Ports) (input : Input) : Type 0 where
  pub args : AllZip ArgFits ports.args.items input.args.items
  pub drams : AllZip (λ (port : PortDecl) (words : Vec ℕ). DramFits port words.items) ports.drams.items input.drams.items
