-- Names, and the words of the language that aren't names.
use Rattle.std.specs.Prelude.{ℕ, ◌&&◌, ◌||◌, ◌==◌, nat_le, Bool, false, List, [], ◌∷◌, IsTrue, codes, Contains}
use Rattle.std.specs.List.{list_all}

-- a letter, and then letters, digits and underscores, all of ASCII
abbrev pub is_letter : ℕ → Bool
is_letter c = (nat_le 65 c && nat_le c 90) || (nat_le 97 c && nat_le c 122)

abbrev pub is_name_byte : ℕ → Bool
is_name_byte c = is_letter c || ((nat_le 48 c && nat_le c 57) || (c == 95))

abbrev pub is_name : List ℕ → Bool
is_name [] = false
is_name (c ∷ rest) = is_letter c && list_all is_name_byte rest

-- the words of the language that aren't names
abbrev pub reserved_words : List (List ℕ)
reserved_words =
    codes "val" ∷ codes "Accel" ∷ codes "ArgIn" ∷ codes "ArgOut" ∷ codes "DRAM" ∷ codes "Reg" ∷ codes "SRAM" ∷ codes "FIFO"
    ∷ codes "LineBuffer" ∷ codes "Int" ∷ codes "Bit" ∷ codes "FixPt" ∷ codes "TRUE" ∷ codes "FALSE" ∷ codes "true" ∷ codes "false"
    ∷ codes "Foreach" ∷ codes "Reduce" ∷ codes "Fold" ∷ codes "MemReduce" ∷ codes "FSM" ∷ codes "Sequential" ∷ codes "Pipe"
    ∷ codes "Parallel" ∷ codes "Stream" ∷ codes "if" ∷ codes "else" ∷ codes "mux" ∷ codes "min" ∷ codes "max" ∷ codes "by"
    ∷ codes "par" ∷ codes "until" ∷ codes "load" ∷ codes "store" ∷ []

pub record IsName (name : List ℕ) : Type 0 where
  pub letters : IsTrue (is_name name)
  pub free : Contains reserved_words name → ⊥
