-- Transfers by places that an SRAM holds, word by word.
use Rattle.std.specs.Prelude.{ℕ, nat_lt, List}
use Rattle.sp_words.specs.declared.kind.Kind.TheVariants.{Sram, Dram}
use Rattle.sp_words.specs.declared.types.Ty.{Ty}
use Rattle.sp_words.specs.Interface.{word_count}
use Rattle.sp_words.specs.Types.{int_type}
use Rattle.sp_tree.specs.declared.statement.FaultKind.TheVariants.{Bounds}
use Rattle.sp_tree.specs.Accesses.{read_cell, write_cell, read_word, write_word}
use Rattle.sp_tree.specs.Expressions.{dims}
use Rattle.sp_tree.specs.PlainProgram.{PlainMem}
use Rattle.sp_tree.specs.Step.{Step, ◌>>=◌, ◌>>◌, turn, ensure}
use Rattle.sp_tree.specs.Transfers.{place_held}
use Rattle.sp_tree.specs.Typing.{IsMem}
use Rattle.sp_seq.specs.declared.state.State.{State}
use Rattle.sp_seq.specs.Evaluating.{Setting}

-- an SRAM and a DRAM of one type, and an SRAM of places
pub record CanMove (mems : List PlainMem) (s : State) (sram dram places : ℕ) : Type 0 where
  pub setting : Setting mems s
  pub ty : Ty
  pub on_chip : IsMem setting.program setting.scope sram Sram ty
  pub outside : IsMem setting.program setting.scope dram Dram ty
  pub held : IsMem setting.program setting.scope places Sram int_type

module _ (mems : List PlainMem) (place sram dram places : ℕ) where
  abbrev pub place_at : ℕ → Step ℕ
  place_at k = place_held places (word_count (dims mems places)) (word_count (dims mems dram)) k place

  -- the k-th word of a gather, and of a scatter
  abbrev pub gathered : ℕ → Step (Unit {0})
  gathered k = do
    at ← place_at k
    ensure (nat_lt k (word_count (dims mems sram))) Bounds place
    word ← read_word dram at
    turn
    write_cell sram k word

  abbrev pub scattered : ℕ → Step (Unit {0})
  scattered k = do
    at ← place_at k
    ensure (nat_lt k (word_count (dims mems sram))) Bounds place
    word ← read_cell sram k place
    turn
    write_word dram at word
