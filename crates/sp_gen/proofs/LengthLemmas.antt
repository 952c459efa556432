-- The text of a program is short.
use Rattle.std.proofs.Common.{◌≡◌, ℕ, zero, suc, ◌+◌, ◌^◌, ◌<◌, ◌≤◌, List, ◌++◌, length, ap, arith, length-append}
use Rattle.std.specs.Prelude.{codes, decimal}
use Rattle.std.proofs.lemmas.Fmt.{length-decimal-le}
use Rattle.std.proofs.lemmas.Nat.{mul-le}
use Rattle.sp_gen.specs.declared.numbers.Combiner.{Combiner}
use Rattle.sp_gen.specs.declared.numbers.Combiner.TheVariants.{Sum, Either, Greatest}
use Rattle.sp_gen.specs.declared.numbers.Numbers.{Numbers}
use Rattle.sp_gen.specs.Draws.{numbers_of, word_count}
use Rattle.sp_gen.specs.Text.{combiner_text, dram_line, tiles_line, sram_line, tile_range, load_line, store_line, made_line, part_line, whole_line, head_lines, tile_lines, part_lines, last_lines, text_of, program_text}

-- ---- pieces

piece : (a b : List ℕ) (m n : ℕ) → length a ≤ m → length b ≤ n → length (a ++ b) ≤ m + n
piece a b m n p q = omega (arith, length-append a b, p, q)

fixed : (a b : List ℕ) (n : ℕ) → length b ≤ n → length (a ++ b) ≤ length a + n
fixed a b n q = omega (arith, length-append a b, q)

alone : (a : List ℕ) → length a ≤ length a
alone a = omega arith

within : (x m n : ℕ) → m ≤ n → x ≤ m → x ≤ n
within x m n p q = omega (arith, p, q)

digits : (n : ℕ) → n ≤ 8192 → length (decimal n) ≤ 4
digits n h = length-decimal-le 4 n (omega arith) (omega (arith, h)) (omega (arith, h))

of_combiner : (combiner : Combiner) → length (combiner_text combiner) ≤ 21
of_combiner Sum = omega arith
of_combiner Either = omega arith
of_combiner Greatest = omega arith

-- ---- lines

of_dram : (name : List ℕ) (words : ℕ) → length name ≤ 2 → words ≤ 8192 → length (dram_line name words) ≤ 100
unfolding dram_line
of_dram name words h w = within _ _ 100 (omega arith) (fixed (codes "val ") _ _ (piece name _ 2 _ h (fixed (codes " = DRAM[Int](") _ _ (piece (decimal words) _ 4 _ (digits words w) (alone (codes ")\n"))))))

of_tiles : (tiles : ℕ) → tiles ≤ 8192 → length (tiles_line tiles) ≤ 100
unfolding tiles_line
of_tiles tiles w = within _ _ 100 (omega arith) (fixed (codes "  Reduce(acc)(") _ _ (piece (decimal tiles) _ 4 _ (digits tiles w) (alone (codes " by 1){ t =>\n"))))

of_sram : (name : List ℕ) (tile : ℕ) → length name ≤ 2 → tile ≤ 8192 → length (sram_line name tile) ≤ 100
unfolding sram_line
of_sram name tile h w = within _ _ 100 (omega arith) (fixed (codes "    val ") _ _ (piece name _ 2 _ h (fixed (codes " = SRAM[Int](") _ _ (piece (decimal tile) _ 4 _ (digits tile w) (alone (codes ")\n"))))))

of_range : (tile : ℕ) → tile ≤ 8192 → length (tile_range tile) ≤ 50
unfolding tile_range
of_range tile w =
    let n = digits tile w in
    within _ _ 50 (omega arith) (fixed (codes "(t * ") _ _ (piece (decimal tile) _ 4 _ n (fixed (codes "::t * ") _ _ (piece (decimal tile) _ 4 _ n (fixed (codes " + ") _ _ (piece (decimal tile) _ 4 _ n (alone (codes ")"))))))))

of_load : (tile : ℕ) → tile ≤ 8192 → length (load_line tile) ≤ 100
unfolding load_line
of_load tile w = within _ _ 100 (omega arith) (fixed (codes "    ta load a") _ _ (piece (tile_range tile) _ 50 _ (of_range tile w) (alone (codes "\n"))))

of_store : (tile : ℕ) → tile ≤ 8192 → length (store_line tile) ≤ 100
unfolding store_line
of_store tile w = within _ _ 100 (omega arith) (fixed (codes "    b") _ _ (piece (tile_range tile) _ 50 _ (of_range tile w) (alone (codes " store tb\n"))))

of_made : (tile lanes offset : ℕ) → tile ≤ 8192 → lanes ≤ 8192 → offset ≤ 8192 → length (made_line tile lanes offset) ≤ 100
unfolding made_line
of_made tile lanes offset w l o =
    within _ _ 100 (omega arith)
    (fixed (codes "    Foreach(") _ _ (piece (decimal tile) _ 4 _ (digits tile w) (fixed (codes " by 1 par ") _ _ (piece (decimal lanes) _ 4 _ (digits lanes l)
    (fixed (codes "){ i => tb(i) = ta(i) * 3 + ") _ _ (piece (decimal offset) _ 4 _ (digits offset o) (alone (codes " }\n"))))))))

of_part : (tile lanes : ℕ) (combiner : Combiner) → tile ≤ 8192 → lanes ≤ 8192 → length (part_line tile lanes combiner) ≤ 100
unfolding part_line
of_part tile lanes combiner w l =
    within _ _ 100 (omega arith)
    (fixed (codes "    Reduce(part)(") _ _ (piece (decimal tile) _ 4 _ (digits tile w) (fixed (codes " by 1 par ") _ _ (piece (decimal lanes) _ 4 _ (digits lanes l)
    (fixed (codes "){ i => tb(i) }") _ _ (piece (combiner_text combiner) _ 21 _ (of_combiner combiner) (alone (codes "\n"))))))))

of_whole : (combiner : Combiner) → length (whole_line combiner) ≤ 100
unfolding whole_line
of_whole combiner = within _ _ 100 (omega arith) (fixed (codes "  }") _ _ (piece (combiner_text combiner) _ 21 _ (of_combiner combiner) (alone (codes "\n"))))

-- ---- all lines

of_head : (words tiles : ℕ) → words ≤ 8192 → tiles ≤ 8192 → length (head_lines words tiles) ≤ 1000
unfolding head_lines
of_head words tiles w t =
    within _ _ 1000 (omega arith)
    (piece (dram_line (codes "a") words) _ 100 _ (of_dram (codes "a") words (omega arith) w)
    (piece (dram_line (codes "b") words) _ 100 _ (of_dram (codes "b") words (omega arith) w)
    (fixed (codes "val y = ArgOut[Int]\n") (codes "Accel {\n" ++ (codes "  val acc = Reg[Int](0)\n" ++ tiles_line tiles)) _
    (fixed (codes "Accel {\n") (codes "  val acc = Reg[Int](0)\n" ++ tiles_line tiles) _ (fixed (codes "  val acc = Reg[Int](0)\n") (tiles_line tiles) _ (of_tiles tiles t))))))

of_tile : (tile lanes offset : ℕ) → tile ≤ 8192 → lanes ≤ 8192 → offset ≤ 8192 → length (tile_lines tile lanes offset) ≤ 1000
unfolding tile_lines
of_tile tile lanes offset w l o =
    within _ _ 1000 (omega arith)
    (piece (sram_line (codes "ta") tile) _ 100 _ (of_sram (codes "ta") tile (omega arith) w)
    (piece (sram_line (codes "tb") tile) _ 100 _ (of_sram (codes "tb") tile (omega arith) w)
    (piece (load_line tile) _ 100 _ (of_load tile w)
    (piece (made_line tile lanes offset) _ 100 _ (of_made tile lanes offset w l o) (of_store tile w)))))

of_parts : (tile lanes : ℕ) (combiner : Combiner) → tile ≤ 8192 → lanes ≤ 8192 → length (part_lines tile lanes combiner) ≤ 1000
unfolding part_lines
of_parts tile lanes combiner w l =
    within _ _ 1000 (omega arith)
    (fixed (codes "    val part = Reg[Int](0)\n") _ _ (piece (part_line tile lanes combiner) _ 100 _ (of_part tile lanes combiner w l) (alone (codes "    part\n"))))

of_last : (combiner : Combiner) → length (last_lines combiner) ≤ 1000
unfolding last_lines
of_last combiner = within _ _ 1000 (omega arith) (piece (whole_line combiner) _ 100 _ (of_whole combiner) (fixed (codes "  y := acc\n") (codes "}\n") _ (alone (codes "}\n"))))

of_text : (n : Numbers) → word_count n ≤ 8192 → n.tiles ≤ 8192 → n.tile ≤ 8192 → n.lanes ≤ 8192 → n.offset ≤ 8192 → length (text_of n) ≤ 1048576
unfolding text_of
of_text n c t w l o =
    within _ _ 1048576 (omega arith)
    (piece (head_lines (word_count n) n.tiles) _ 1000 _ (of_head (word_count n) n.tiles c t)
    (piece (tile_lines n.tile n.lanes n.offset) _ 1000 _ (of_tile n.tile n.lanes n.offset w l o)
    (piece (part_lines n.tile n.lanes n.combiner) _ 1000 _ (of_parts n.tile n.lanes n.combiner w l) (of_last n.combiner))))

-- ---- the numbers

power : (k : ℕ) → k < 4 → 2 ^ k ≤ 8
power zero h = omega arith
power (suc zero) h = omega arith
power (suc (suc zero)) h = omega arith
power (suc (suc (suc zero))) h = omega arith
power (suc (suc (suc (suc k)))) h = absurd (omega (arith, h))

pub tiles_few : (state : ℕ) → (numbers_of state).tiles ≤ 32
unfolding numbers_of
tiles_few state = omega arith

pub tile_small : (state : ℕ) → (numbers_of state).tile ≤ 256
unfolding numbers_of
tile_small state = omega arith

lanes_few : (state : ℕ) → (numbers_of state).lanes ≤ 8
unfolding numbers_of
lanes_few state = power _ (omega arith)

offset_small : (state : ℕ) → (numbers_of state).offset ≤ 7
unfolding numbers_of
offset_small state = omega arith

pub words_few : (state : ℕ) → word_count (numbers_of state) ≤ 8192
words_few state = mul-le (numbers_of state).tiles (numbers_of state).tile 32 256 (tiles_few state) (tile_small state)

pub text_is_short : (number : ℕ) → length (program_text number) ≤ 1048576
text_is_short number =
    let n = numbers_of number in
    of_text n (words_few number) (within _ 32 8192 (omega arith) (tiles_few number)) (within _ 256 8192 (omega arith) (tile_small number))
    (within _ 8 8192 (omega arith) (lanes_few number)) (within _ 7 8192 (omega arith) (offset_small number))

pub short_text : (number : ℕ) (text : List ℕ) → text ≡ program_text number → length text ≤ 1048576
short_text number text e = omega (arith, text_is_short number, ap length e)
