-- The text of a dump, by IEEE 1364-2005, clause 18: a header that declares the variables, their values in the first
-- cycle, and those that change in each later one. The clock is variable 0, and the signals are numbered from 1.
use Rattle.std.specs.Prelude.{ℕ, zero, suc, ◌+◌, ◌*◌, ◌==◌, false, List, [], ◌∷◌, ◌++◌, flat_map, codes, decimal, if◌then◌else◌}
use Rattle.std.specs.Fmt.{radix_digits}
use Rattle.sp_netlist.specs.Cells.{PlainCell, in_cell, out_cell, dram_cell}
use Rattle.sp_listing.specs.Text.{type_text}
use Rattle.sp_waves.specs.Identifiers.{identifier}
use Rattle.sp_waves.specs.Signals.{PlainSignal, argument_name, output_name}

-- ---- the header

unfoldable pub version : List ℕ
version = codes "$version spatialc $end" ++ (10 ∷ [])

unfoldable pub time_scale : List ℕ
time_scale = codes "$timescale 1ns $end" ++ (10 ∷ [])

-- the type of a port, since a variable has none but its width
unfoldable pub comment : (name code : List ℕ) → List ℕ
comment name code = codes "$comment " ++ (name ++ (codes " " ++ (code ++ (codes " $end" ++ (10 ∷ [])))))

abbrev pub port_comment : PlainCell → List ℕ
port_comment (in_cell name net ty) = comment (argument_name name) (type_text ty)
port_comment (out_cell name net ty) = comment (output_name name) (type_text ty)
port_comment (dram_cell dram name ty dims) = comment name (type_text ty)
port_comment cell = []

unfoldable pub scope_begin : List ℕ
scope_begin = codes "$scope module spatial $end" ++ (10 ∷ [])

-- a variable of a number, with its width and its name
unfoldable pub declaration_head : (width : ℕ) → List ℕ
declaration_head width = codes "$var wire " ++ (decimal width ++ codes " ")

unfoldable pub declaration_tail : (name : List ℕ) → List ℕ
declaration_tail name = codes " " ++ (name ++ (codes " $end" ++ (10 ∷ [])))

abbrev pub declaration : (number : ℕ) → (width : ℕ) → (name : List ℕ) → List ℕ
declaration number width name = declaration_head width ++ (identifier number ++ declaration_tail name)

abbrev pub clock_declaration : List ℕ
clock_declaration = declaration 0 1 (codes "clk")

-- those of signals, numbered from one on
unfoldable pub declarations : (number : ℕ) → List PlainSignal → List ℕ
declarations number [] = []
declarations number (s ∷ rest) = declaration number s.width s.name ++ declarations (suc number) rest

unfoldable pub scope_end : List ℕ
scope_end = codes "$upscope $end" ++ (10 ∷ [])

unfoldable pub definitions_end : List ℕ
definitions_end = codes "$enddefinitions $end" ++ (10 ∷ [])

abbrev pub header : List PlainCell → List PlainSignal → List ℕ
header cells signals =
    version ++ (time_scale ++ (flat_map port_comment cells ++ (scope_begin ++ (clock_declaration ++ (declarations 1 signals ++ (scope_end ++ definitions_end))))))

-- ---- the values

-- a bit stands as it is; a wider word stands in base 2, without leading zeros
unfoldable pub digits : (width word : ℕ) → List ℕ
digits width word = if width == 1 then decimal word else 98 ∷ radix_digits 2 false word ++ (32 ∷ [])

-- the variable of a number takes a value
abbrev pub value : (number width word : ℕ) → List ℕ
value number width word = digits width word ++ (identifier number ++ (10 ∷ []))

-- the values of signals that are numbered from one on
unfoldable pub values : (number : ℕ) → List PlainSignal → (words : List ℕ) → List ℕ
values number (s ∷ rest) (w ∷ words) = value number s.width w ++ values (suc number) rest words
values number _ _ = []

-- those that aren't what they were
abbrev pub change : (number width before now : ℕ) → List ℕ
change number width before now = if before == now then [] else value number width now

unfoldable pub changes : (number : ℕ) → List PlainSignal → (before now : List ℕ) → List ℕ
changes number (s ∷ rest) (b ∷ before) (w ∷ now) = change number s.width b w ++ changes (suc number) rest before now
changes number _ _ _ = []

-- ---- the cycles

-- at a time, in units of the time scale; a cycle takes 10 of them, and the clock rises at its beginning and falls in
-- its middle
unfoldable pub at_time : ℕ → List ℕ
at_time time = codes "#" ++ (decimal time ++ (10 ∷ []))

abbrev pub rises : List ℕ
rises = value 0 1 1

abbrev pub falls : List ℕ
falls = value 0 1 0

unfoldable pub dump_begin : List ℕ
dump_begin = codes "$dumpvars" ++ (10 ∷ [])

unfoldable pub dump_end : List ℕ
dump_end = codes "$end" ++ (10 ∷ [])

module _ (signals : List PlainSignal) where
  -- cycle 0, with the value of each variable
  abbrev pub first_cycle : (now : List ℕ) → List ℕ
  first_cycle now = at_time 0 ++ (dump_begin ++ (rises ++ (values 1 signals now ++ (dump_end ++ (at_time 5 ++ falls)))))

  abbrev pub later_cycle : (cycle : ℕ) → (before now : List ℕ) → List ℕ
  later_cycle cycle before now = at_time (10 * cycle) ++ (rises ++ (changes 1 signals before now ++ (at_time (10 * cycle + 5) ++ falls)))

  -- the cycles from 0 to the last, by the words of the signals in each
  unfoldable pub cycles : (rows : ℕ → List ℕ) → (last : ℕ) → List ℕ
  cycles rows zero = first_cycle (rows 0)
  cycles rows (suc cycle) = cycles rows cycle ++ later_cycle (suc cycle) (rows cycle) (rows (suc cycle))

-- the whole dump, up to the end of the last cycle
abbrev pub dump : List PlainCell → List PlainSignal → (rows : ℕ → List ℕ) → (last : ℕ) → List ℕ
dump cells signals rows last = header cells signals ++ (cycles signals rows last ++ at_time (10 * last + 10))
