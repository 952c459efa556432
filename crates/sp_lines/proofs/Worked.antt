-- The worked line buffer.
use Rattle.std.proofs.Common.{◌≡◌, refl}
use Rattle.sp_mem.specs.declared.part.Fresh.{Fresh}
use Rattle.sp_mem.specs.declared.part.Touch.{Touch}
use Rattle.sp_lines.specs.declared.part.Lines.{Lines}
use Rattle.sp_lines.specs.Spots.{row_word}
use Rattle.sp_lines.specs.Examples.{IsWorked, worked_signals}

module _ (part : Lines) (turn : Fresh) (load : Touch) (h : IsWorked part turn load) where
  pub loaded : row_word worked_signals part 0 1 1 2 ≡ 10
  loaded = rw (h.turns, h.loads, h.rows, h.word, h.turn_copy, h.copy, h.index, h.turn_enable, h.enable) refl

  pub oldest : row_word worked_signals part 0 3 0 2 ≡ 10
  oldest = rw (h.turns, h.loads, h.rows, h.word, h.turn_copy, h.copy, h.index, h.turn_enable, h.enable) refl

  pub newest : row_word worked_signals part 0 3 1 2 ≡ 12
  newest = rw (h.turns, h.loads, h.rows, h.word, h.turn_copy, h.copy, h.index, h.turn_enable, h.enable) refl

  pub other_column : row_word worked_signals part 0 3 1 3 ≡ 0
  other_column = rw (h.turns, h.loads, h.rows, h.word, h.turn_copy, h.copy, h.index, h.turn_enable, h.enable) refl

  pub other_copy : row_word worked_signals part 1 3 1 2 ≡ 0
  other_copy = rw (h.turns, h.loads, h.rows, h.word, h.turn_copy, h.copy, h.index, h.turn_enable, h.enable) refl
