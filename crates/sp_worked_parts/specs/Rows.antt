-- The worked line buffer.
use Rattle.std.specs.Prelude.{◌≡◌, ℕ, List, [], ◌∷◌, None}
use Rattle.sp_words.specs.Types.{int_type}
use Rattle.sp_netlist.specs.Draft.{Draft}
use Rattle.sp_gates.specs.Nets.{HasNet}
use Rattle.sp_mem.specs.declared.part.Fresh.{Fresh}
use Rattle.sp_lines.specs.declared.part.Lines.{Lines}
use Rattle.sp_worked_parts.specs.declared.lines.RowInput.{RowInput}
use Rattle.sp_worked_parts.specs.Touches.{IsOne, AreTwo}

pub record InputFits (d : Draft) (input : RowInput) : Type 0 where
  pub always_net : HasNet d input.always 1
  pub word_net : HasNet d input.word 32
  pub zero_net : HasNet d input.zero 32
  pub one_net : HasNet d input.one 32
  pub done_net : HasNet d input.done 1

-- what turns the rows of copy 0
pub record IsTurn (enable : ℕ) (turns : List Fresh) : Type 0 where
  pub turn : Fresh
  pub are : turns ≡ turn ∷ []
  pub enable_is : turn.enable ≡ enable
  pub copy_is : turn.copy ≡ None

-- three rows of two columns in two banks, in one copy and two duplicates
pub record IsLines (input : RowInput) (y z : ℕ) (part : Lines) : Type 0 where
  pub start : part.start ≡ input.always
  pub bank : part.bank ≡ 0
  pub ty : part.ty ≡ int_type
  pub rows : part.rows ≡ 3
  pub dims : part.layout.dims.items ≡ 2 ∷ []
  pub alpha : part.layout.alpha.items ≡ 1 ∷ []
  pub banks : part.layout.banks ≡ 2
  pub block : part.layout.block ≡ 1
  pub hinge : part.layout.hinge ≡ 0
  pub copies : part.copies ≡ 1
  pub duplicates : part.duplicates ≡ 2
  pub turns : IsTurn input.always part.turns.items
  pub loads : IsOne input.always (input.one ∷ []) input.word part.loads.items
  pub reads : AreTwo input.always (input.zero ∷ input.one ∷ []) y (input.one ∷ input.one ∷ []) z part.reads.items
