-- The text of what a run leaves: a line for each output, a line for each DRAM, and one for the cycles or the turns.
use Rattle.std.specs.Prelude.{ℕ, List, [], ◌∷◌, ◌++◌, flat_map, codes, decimal}
use Rattle.sp_words.specs.declared.types.Ty.{Ty}
use Rattle.sp_words.specs.Decimal.{text_of}
use Rattle.sp_words.specs.Ports.{PlainPort, PlainPorts}

-- each word after a blank, as its exact decimal
abbrev pub spaced_words : Ty → List ℕ → List ℕ
spaced_words ty words = flat_map (λ word. 32 ∷ text_of ty word) words

-- `out NAME VALUE`
abbrev pub out_line : PlainPort → ℕ → List ℕ
out_line port word = codes "out " ++ (port.name ++ (32 ∷ (text_of port.ty word ++ 10 ∷ [])))

-- `dram NAME` and each word in row-major order
abbrev pub dram_line : PlainPort → List ℕ → List ℕ
dram_line port words = codes "dram " ++ (port.name ++ (spaced_words port.ty words ++ 10 ∷ []))

-- the lines of ports in the order of their declarations
unfoldable pub lines_of : {A : Type 0} → (PlainPort → A → List ℕ) → List PlainPort → List A → List ℕ
lines_of line [] values = []
lines_of line (port ∷ ports) [] = []
lines_of line (port ∷ ports) (value ∷ values) = line port value ++ lines_of line ports values

abbrev pub result_text : PlainPorts → (outs : List ℕ) → (drams : List (List ℕ)) → (last_line : List ℕ) → List ℕ
result_text ports outs drams last_line = lines_of out_line ports.outs outs ++ (lines_of dram_line ports.drams drams ++ last_line)

-- `cycles N`
abbrev pub cycles_line : ℕ → List ℕ
cycles_line cycles = codes "cycles " ++ (decimal cycles ++ 10 ∷ [])

-- `turns N`
abbrev pub turns_line : ℕ → List ℕ
turns_line turns = codes "turns " ++ (decimal turns ++ 10 ∷ [])
