-- The words that the counters of a loop take, one tuple after another.
use Rattle.std.specs.Prelude.{◌≡◌, ℕ, ◌+◌, ◌-◌, ◌*◌, ◌<◌, ◌≤◌, ◌^◌, nat_lt, Bool, true, false, ◌&&◌, pos, ◌+ℤ◌, List, [], ◌∷◌, ◌++◌, map, length, drop, flat_map, Result, Ok, Err}
use Rattle.sp_words.specs.declared.kind.Kind.TheVariants.{Reg, Sram}
use Rattle.sp_words.specs.declared.types.Ty.{Ty}
use Rattle.sp_words.specs.Types.{int_type, width_of}
use Rattle.sp_words.specs.Words.{IsWord, wrap}
use Rattle.sp_tree.specs.declared.statement.Comb.{Comb}
use Rattle.sp_tree.specs.Accesses.{read_cell}
use Rattle.sp_tree.specs.Elements.{index_value, numbers_below, tuples}
use Rattle.sp_tree.specs.Expressions.{mem, dims, word}
use Rattle.sp_tree.specs.PlainExpression.{PlainExpr, type_of}
use Rattle.sp_tree.specs.PlainProgram.{PlainMem}
use Rattle.sp_tree.specs.PlainStatement.{PlainCounter}
use Rattle.sp_tree.specs.Sequential.{assign, assign_all, name_now}
use Rattle.sp_tree.specs.Step.{Step, ◌>>=◌, ◌>>◌, turn}
use Rattle.sp_tree.specs.Typing.{IsMem, IsFreshVal, Typed, BoundsTyped, with_val}
use Rattle.sp_seq.specs.declared.digit.Digit.{Digit}
use Rattle.sp_seq.specs.declared.memory.Storage.TheVariants.{Cells}
use Rattle.sp_seq.specs.declared.state.State.{State}
use Rattle.sp_seq.specs.declared.state.Stop.{Stop}
use Rattle.sp_seq.specs.Evaluating.{Setting}
use Rattle.sp_seq.specs.Rows.{CellRow}
use Rattle.sp_seq.specs.States.{IsLive}

-- the k-th word of a counter, and all of them
abbrev pub word_at : Digit → ℕ → ℕ
word_at d k = wrap int_type (index_value d.from +ℤ pos (k * d.by))

abbrev pub values : Digit → List ℕ
values d = map (word_at d) (numbers_below d.count)

-- the words that counters have now
abbrev pub current : List Digit → List ℕ
current [] = []
current (d ∷ ds) = word_at d d.at ∷ current ds

-- the tuples of words that are left, this one first
abbrev pub tuples_left : List Digit → List (List ℕ)
tuples_left [] = [] ∷ []
tuples_left (d ∷ ds) = map (λ ws. word_at d d.at ∷ ws) (tuples_left ds) ++ flat_map (λ w. map (λ ws. w ∷ ws) (tuples (map values ds))) (drop (d.at + 1) (values d))

-- those, if there are any
abbrev pub left_if : Bool → List Digit → List (List ℕ)
left_if true ds = tuples_left ds
left_if false ds = []

-- whether each counter has a word
abbrev pub have_words : List Digit → Bool
have_words [] = true
have_words (d ∷ ds) = nat_lt 0 d.count && have_words ds

-- a counter at its first word, if it has one; and one at any of its words
pub record IsStart (d : Digit) : Type 0 where
  pub is_word : d.from < 2 ^ 32
  pub few : d.count ≤ 2 ^ 32
  pub last : (d.count - 1) * d.by < 2 ^ 32
  pub first : d.at ≡ 0

pub record IsDigit (d : Digit) : Type 0 where
  pub is_word : d.from < 2 ^ 32
  pub few : d.count ≤ 2 ^ 32
  pub last : (d.count - 1) * d.by < 2 ^ 32
  pub inside : d.at < d.count

-- the words of a counter that came back
abbrev pub words_shown : Result Digit Stop → Result (List ℕ) Stop
words_shown (Ok d) = Ok (values d)
words_shown (Err stop) = Err stop

-- counters whose bounds are typed under what is visible
pub record CanCount (mems : List PlainMem) (counters : List PlainCounter) (s : State) : Type 0 where
  pub setting : Setting mems s
  pub typed : BoundsTyped setting.program setting.scope counters

-- an accumulator, and a word for it
pub record CanAssign (mems : List PlainMem) (s : State) (acc cell : ℕ) (word : ℕ) : Type 0 where
  pub inside : acc < length mems
  pub cells : CellRow
  pub live : IsLive s acc (Cells cells)
  pub width : cells.width ≡ width_of (mem mems acc).ty
  pub below : cell < length cells.cells
  pub is_word : IsWord (mem mems acc).ty word

-- a word of an expression for a register
pub record CanCombine (mems : List PlainMem) (s : State) (acc : ℕ) (e : PlainExpr) : Type 0 where
  pub setting : Setting mems s
  pub into : IsMem setting.program setting.scope acc Reg (type_of e)
  pub typed : Typed setting.program setting.scope e

abbrev pub word_combined : List PlainMem → Comb → (acc place : ℕ) → PlainExpr → (combines : Bool) → Step (Unit {0})
word_combined mems comb acc place e combines = do
  w ← word mems e
  assign mems comb acc 0 combines w place

-- an SRAM whose words go into another one
pub record CanCombineAll (mems : List PlainMem) (s : State) (acc part : ℕ) : Type 0 where
  pub setting : Setting mems s
  pub ty : Ty
  pub into : IsMem setting.program setting.scope acc Sram ty
  pub from : IsMem setting.program setting.scope part Sram ty
  pub same_dims : dims mems part ≡ dims mems acc

-- one of them
abbrev pub one_combined : List PlainMem → Comb → (acc part : ℕ) → (combines : Bool) → (place : ℕ) → ℕ → Step (Unit {0})
one_combined mems comb acc part combines place at = do
  w ← read_cell part at place
  turn
  assign mems comb acc at combines w place

abbrev pub part_combined : List PlainMem → Comb → (acc part place : ℕ) → (combines : Bool) → Step (List (Unit {0}))
part_combined mems comb acc part place combines = assign_all mems comb acc part combines place

-- an expression under a value that stands for a word
pub record CanName (mems : List PlainMem) (s : State) (value : ℕ) (named : ℕ) (e : PlainExpr) : Type 0 where
  pub setting : Setting mems s
  pub ty : Ty
  pub is_word : IsWord ty named
  pub fresh : IsFreshVal setting.program setting.scope value
  pub inside : value < length s.values.items
  pub typed : Typed setting.program (with_val setting.scope value ty) e

abbrev pub word_named : List PlainMem → (value named : ℕ) → PlainExpr → Step ℕ
word_named mems value named e = do
  name_now value named
  word mems e
