-- The command table: which words are a command.
use Rattle.std.specs.Prelude.{◌≡◌, ℕ, List, [], ◌∷◌, codes}

pub data Command : Type 0 where
  check : (program : List ℕ) → Command
  format : (program : List ℕ) → Command
  compile : (program : List ℕ) → Command
  verilog : (program : List ℕ) → Command
  report : (program : List ℕ) → Command
  seq : (program setup : List ℕ) → Command
  run : (program setup : List ℕ) → Command
  simulate : (listing setup : List ℕ) → Command
  waves : (listing setup : List ℕ) → Command

-- a word that names a file: it isn't empty and doesn't begin with `-`
abbrev pub IsFileWord : List ℕ → Type 0
IsFileWord [] = ⊥
IsFileWord (c ∷ rest) = c ≡ 45 → ⊥

-- the words are that command
abbrev pub IsCommand : List (List ℕ) → Command → Type 0
IsCommand said (check program) = (said ≡ codes "check" ∷ program ∷ []) × IsFileWord program
IsCommand said (format program) = (said ≡ codes "format" ∷ program ∷ []) × IsFileWord program
IsCommand said (compile program) = (said ≡ codes "compile" ∷ program ∷ []) × IsFileWord program
IsCommand said (verilog program) = (said ≡ codes "verilog" ∷ program ∷ []) × IsFileWord program
IsCommand said (report program) = (said ≡ codes "report" ∷ program ∷ []) × IsFileWord program
IsCommand said (seq program setup) = (said ≡ codes "seq" ∷ program ∷ setup ∷ []) × IsFileWord program × IsFileWord setup
IsCommand said (run program setup) = (said ≡ codes "run" ∷ program ∷ setup ∷ []) × IsFileWord program × IsFileWord setup
IsCommand said (simulate listing setup) = (said ≡ codes "simulate" ∷ listing ∷ setup ∷ []) × IsFileWord listing × IsFileWord setup
IsCommand said (waves listing setup) = (said ≡ codes "waves" ∷ listing ∷ setup ∷ []) × IsFileWord listing × IsFileWord setup
