-- The text of the program of these numbers, line by line.
use Rattle.std.specs.Prelude.{ℕ, List, ◌++◌, codes, decimal}
use Rattle.sp_gen.specs.declared.numbers.Combiner.{Combiner}
use Rattle.sp_gen.specs.declared.numbers.Combiner.TheVariants.{Sum, Either, Greatest}
use Rattle.sp_gen.specs.declared.numbers.Numbers.{Numbers}
use Rattle.sp_gen.specs.Draws.{numbers_of, word_count}

-- ---- lines with numbers

abbrev pub combiner_text : Combiner → List ℕ
combiner_text Sum = codes "{_ + _}"
combiner_text Either = codes "{_ ^ _}"
combiner_text Greatest = codes "{(a, b) => max(a, b)}"

-- a DRAM of so many words
unfoldable pub dram_line : (name : List ℕ) → (words : ℕ) → List ℕ
dram_line name words = codes "val " ++ (name ++ (codes " = DRAM[Int](" ++ (decimal words ++ codes ")\n")))

-- a loop over so many tiles
unfoldable pub tiles_line : (tiles : ℕ) → List ℕ
tiles_line tiles = codes "  Reduce(acc)(" ++ (decimal tiles ++ codes " by 1){ t =>\n")

-- a memory of a tile's words
unfoldable pub sram_line : (name : List ℕ) → (tile : ℕ) → List ℕ
sram_line name tile = codes "    val " ++ (name ++ (codes " = SRAM[Int](" ++ (decimal tile ++ codes ")\n")))

-- the words of tile t
unfoldable pub tile_range : (tile : ℕ) → List ℕ
tile_range tile = codes "(t * " ++ (decimal tile ++ (codes "::t * " ++ (decimal tile ++ (codes " + " ++ (decimal tile ++ codes ")")))))

unfoldable pub load_line : (tile : ℕ) → List ℕ
load_line tile = codes "    ta load a" ++ (tile_range tile ++ codes "\n")

unfoldable pub store_line : (tile : ℕ) → List ℕ
store_line tile = codes "    b" ++ (tile_range tile ++ codes " store tb\n")

-- another tile is made of the one that was loaded
unfoldable pub made_line : (tile lanes offset : ℕ) → List ℕ
made_line tile lanes offset = codes "    Foreach(" ++ (decimal tile ++ (codes " by 1 par " ++ (decimal lanes ++ (codes "){ i => tb(i) = ta(i) * 3 + " ++ (decimal offset ++ codes " }\n")))))

-- its words are combined
unfoldable pub part_line : (tile lanes : ℕ) → Combiner → List ℕ
part_line tile lanes combiner = codes "    Reduce(part)(" ++ (decimal tile ++ (codes " by 1 par " ++ (decimal lanes ++ (codes "){ i => tb(i) }" ++ (combiner_text combiner ++ codes "\n")))))

-- and what is left of each tile
unfoldable pub whole_line : Combiner → List ℕ
whole_line combiner = codes "  }" ++ (combiner_text combiner ++ codes "\n")

-- ---- all lines

unfoldable pub head_lines : (words tiles : ℕ) → List ℕ
head_lines words tiles =
    dram_line (codes "a") words
    ++ (dram_line (codes "b") words
    ++ (codes "val y = ArgOut[Int]\n"
    ++ (codes "Accel {\n"
    ++ (codes "  val acc = Reg[Int](0)\n"
    ++ tiles_line tiles))))

unfoldable pub tile_lines : (tile lanes offset : ℕ) → List ℕ
tile_lines tile lanes offset =
    sram_line (codes "ta") tile
    ++ (sram_line (codes "tb") tile
    ++ (load_line tile
    ++ (made_line tile lanes offset
    ++ store_line tile)))

unfoldable pub part_lines : (tile lanes : ℕ) → Combiner → List ℕ
part_lines tile lanes combiner =
    codes "    val part = Reg[Int](0)\n"
    ++ (part_line tile lanes combiner
    ++ codes "    part\n")

unfoldable pub last_lines : Combiner → List ℕ
last_lines combiner =
    whole_line combiner
    ++ (codes "  y := acc\n"
    ++ codes "}\n")

unfoldable pub text_of : Numbers → List ℕ
text_of numbers =
    head_lines (word_count numbers) numbers.tiles
    ++ (tile_lines numbers.tile numbers.lanes numbers.offset
    ++ (part_lines numbers.tile numbers.lanes numbers.combiner
    ++ last_lines numbers.combiner))

-- the text of the program of a number
abbrev pub program_text : (number : ℕ) → List ℕ
program_text number = text_of (numbers_of number)
