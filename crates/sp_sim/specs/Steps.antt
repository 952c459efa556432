-- Steps: the cells that they stand for, and what they compute.
use Rattle.std.specs.Prelude.{ℕ, ◌<◌, ◌^◌, ◌==◌, if◌then◌else◌, List, map}
use Rattle.sp_words.specs.declared.types.Ty.{Ty}
use Rattle.sp_words.specs.Types.{width_of}
use Rattle.sp_words.specs.Words.{IsWord, word_not, word_shl, word_shr, word_cast}
use Rattle.sp_netlist.specs.declared.cell.CellOp.{CellOp}
use Rattle.sp_netlist.specs.declared.cell.CellOp.TheVariants as op
use Rattle.sp_netlist.specs.declared.cell.CellShift.{CellShift}
use Rattle.sp_netlist.specs.declared.cell.CellShift.TheVariants as side
use Rattle.sp_netlist.specs.Cells.{PlainCell, op_cell, not_cell, shift_cell, cast_cell, mux_cell}
use Rattle.sp_netlist.specs.Signals.{op_word}
use Rattle.sp_sim.specs.declared.step.Task.{Task}
use Rattle.sp_sim.specs.declared.step.Task.TheVariants.{Add, Sub, Mul, Div, Rem, And, Or, Xor, Min, Max, Lt, Eq, Not, Shl, Shr, Cast, Choose}
use Rattle.sp_sim.specs.declared.step.Step.{Step}

-- the task of an operator, and of a shift
abbrev pub task_of : CellOp → Ty → Task
task_of op.Add = Add
task_of op.Sub = Sub
task_of op.Mul = Mul
task_of op.Div = Div
task_of op.Rem = Rem
task_of op.And = And
task_of op.Or = Or
task_of op.Xor = Xor
task_of op.Min = Min
task_of op.Max = Max
task_of op.Lt = Lt
task_of op.Eq = Eq

abbrev pub task_of_shift : CellShift → Ty → ℕ → Task
task_of_shift side.Shl = Shl
task_of_shift side.Shr = Shr

-- the cell of a task with this net and these operands
abbrev pub cell_by : Task → ℕ → ℕ → ℕ → ℕ → PlainCell
cell_by (Add ty) net a b c = op_cell net ty op.Add a b
cell_by (Sub ty) net a b c = op_cell net ty op.Sub a b
cell_by (Mul ty) net a b c = op_cell net ty op.Mul a b
cell_by (Div ty) net a b c = op_cell net ty op.Div a b
cell_by (Rem ty) net a b c = op_cell net ty op.Rem a b
cell_by (And ty) net a b c = op_cell net ty op.And a b
cell_by (Or ty) net a b c = op_cell net ty op.Or a b
cell_by (Xor ty) net a b c = op_cell net ty op.Xor a b
cell_by (Min ty) net a b c = op_cell net ty op.Min a b
cell_by (Max ty) net a b c = op_cell net ty op.Max a b
cell_by (Lt ty) net a b c = op_cell net ty op.Lt a b
cell_by (Eq ty) net a b c = op_cell net ty op.Eq a b
cell_by (Not ty) net a b c = not_cell net ty a
cell_by (Shl ty places) net a b c = shift_cell net ty side.Shl a places
cell_by (Shr ty places) net a b c = shift_cell net ty side.Shr a places
cell_by (Cast from to) net a b c = cast_cell net from to a
cell_by (Choose width) net a b c = mux_cell net width c a b

-- the cell of a step
abbrev pub cell_of : Step → PlainCell
cell_of s = cell_by s.task s.net s.first s.second s.third

abbrev pub cells_of : List Step → List PlainCell
cells_of = map cell_of

-- the word that a task computes of those of its operands
abbrev pub word_by : Task → ℕ → ℕ → ℕ → ℕ
word_by (Add ty) x y z = op_word op.Add ty x y
word_by (Sub ty) x y z = op_word op.Sub ty x y
word_by (Mul ty) x y z = op_word op.Mul ty x y
word_by (Div ty) x y z = op_word op.Div ty x y
word_by (Rem ty) x y z = op_word op.Rem ty x y
word_by (And ty) x y z = op_word op.And ty x y
word_by (Or ty) x y z = op_word op.Or ty x y
word_by (Xor ty) x y z = op_word op.Xor ty x y
word_by (Min ty) x y z = op_word op.Min ty x y
word_by (Max ty) x y z = op_word op.Max ty x y
word_by (Lt ty) x y z = op_word op.Lt ty x y
word_by (Eq ty) x y z = op_word op.Eq ty x y
word_by (Not ty) x y z = word_not ty x
word_by (Shl ty places) x y z = word_shl ty x places
word_by (Shr ty places) x y z = word_shr ty x places
word_by (Cast from to) x y z = word_cast from to x
word_by (Choose width) x y z = if z == 1 then x else y

-- its width
abbrev pub width_by : Task → ℕ
width_by (Add ty) = width_of ty
width_by (Sub ty) = width_of ty
width_by (Mul ty) = width_of ty
width_by (Div ty) = width_of ty
width_by (Rem ty) = width_of ty
width_by (And ty) = width_of ty
width_by (Or ty) = width_of ty
width_by (Xor ty) = width_of ty
width_by (Min ty) = width_of ty
width_by (Max ty) = width_of ty
width_by (Lt ty) = 1
width_by (Eq ty) = 1
width_by (Not ty) = width_of ty
width_by (Shl ty places) = width_of ty
width_by (Shr ty places) = width_of ty
width_by (Cast from to) = width_of to
width_by (Choose width) = width

-- the operands of a task have their widths
abbrev pub Fit : Task → ℕ → ℕ → ℕ → Type 0
Fit (Add ty) x y z = IsWord ty x × IsWord ty y
Fit (Sub ty) x y z = IsWord ty x × IsWord ty y
Fit (Mul ty) x y z = IsWord ty x × IsWord ty y
Fit (Div ty) x y z = IsWord ty x × IsWord ty y
Fit (Rem ty) x y z = IsWord ty x × IsWord ty y
Fit (And ty) x y z = IsWord ty x × IsWord ty y
Fit (Or ty) x y z = IsWord ty x × IsWord ty y
Fit (Xor ty) x y z = IsWord ty x × IsWord ty y
Fit (Min ty) x y z = IsWord ty x × IsWord ty y
Fit (Max ty) x y z = IsWord ty x × IsWord ty y
Fit (Lt ty) x y z = IsWord ty x × IsWord ty y
Fit (Eq ty) x y z = IsWord ty x × IsWord ty y
Fit (Not ty) x y z = IsWord ty x
Fit (Shl ty places) x y z = IsWord ty x × (places < 64)
Fit (Shr ty places) x y z = IsWord ty x × (places < 64)
Fit (Cast from to) x y z = IsWord from x
Fit (Choose width) x y z = (x < 2 ^ width) × (y < 2 ^ width)
