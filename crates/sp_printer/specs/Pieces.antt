-- How declarations, slices, counters and combinations are written.
use Rattle.std.specs.Prelude.{ℕ, ◌==◌, Bool, true, false, List, [], ◌∷◌, ◌++◌, Option, Some, None, codes, decimal, if◌then◌else◌}
use Rattle.sp_words.specs.declared.kind.Kind.{Kind}
use Rattle.sp_words.specs.declared.kind.Kind.TheVariants.{Reg, Sram, Fifo, LineBuf, Dram, ArgIn, ArgOut}
use Rattle.sp_words.specs.declared.kind.Style.{Style}
use Rattle.sp_words.specs.declared.kind.Style.TheVariants.{Pipe, Sequential, Parallel, Stream}
use Rattle.sp_words.specs.declared.types.Ty.{Ty}
use Rattle.sp_words.specs.declared.types.Ty.TheVariants.{Fix, Bit}
use Rattle.sp_tree.specs.declared.statement.Comb.{Comb}
use Rattle.sp_tree.specs.declared.statement.Comb.TheVariants.{Add, Mul, And, Or, Xor, Min, Max}
use Rattle.sp_tree.specs.PlainExpression.{PlainExpr, expr, literal}
use Rattle.sp_tree.specs.PlainProgram.{PlainMem}
use Rattle.sp_tree.specs.PlainStatement.{PlainSpan, single, range, PlainCounter}
use Rattle.sp_printer.specs.Expressions.{parted, whole_text}
use Rattle.sp_printer.specs.Names.{Names, counter_name}
use Rattle.sp_printer.specs.Types.{type_text}
use Rattle.sp_printer.specs.Words.{word_at, literal_text}

abbrev pub kind_word : Kind → List ℕ
kind_word Reg = codes "Reg"
kind_word Sram = codes "SRAM"
kind_word Fifo = codes "FIFO"
kind_word LineBuf = codes "LineBuffer"
kind_word Dram = codes "DRAM"
kind_word ArgIn = codes "ArgIn"
kind_word ArgOut = codes "ArgOut"

abbrev pub numbers_text : (first : Bool) → List ℕ → List ℕ
numbers_text first [] = []
numbers_text first (n ∷ rest) = parted first ++ (decimal n ++ numbers_text false rest)

-- what has no dimensions has no parentheses for them
abbrev pub dims_text : List ℕ → List ℕ
dims_text [] = []
dims_text (n ∷ rest) = codes "(" ++ (numbers_text true (n ∷ rest) ++ codes ")")

abbrev pub start_text : Ty → Option ℕ → List ℕ
start_text ty None = []
start_text ty (Some w) = codes "(" ++ (literal_text ty w ++ codes ")")

-- the kind of a memory with the type of its words
unfoldable pub mem_type : Kind → Ty → List ℕ
mem_type kind ty = kind_word kind ++ (codes "[" ++ (type_text ty ++ codes "]"))

-- its dimensions and its start
unfoldable pub mem_shape : Ty → List ℕ → Option ℕ → List ℕ
mem_shape ty dims start = dims_text dims ++ start_text ty start

unfoldable pub mem_text : PlainMem → List ℕ
mem_text m = codes "val " ++ (m.name ++ (codes " = " ++ (mem_type m.kind m.ty ++ mem_shape m.ty m.dims m.start)))

-- one lane is written as none
abbrev pub par_text : ℕ → List ℕ
par_text par = if par == 1 then [] else codes " par " ++ decimal par

abbrev pub span_text : Names → PlainSpan → List ℕ
span_text names (single e) = whole_text names e
span_text names (range a b par) = whole_text names a ++ (codes "::" ++ (whole_text names b ++ par_text par))

abbrev pub spans_text : Names → (first : Bool) → List PlainSpan → List ℕ
spans_text names first [] = []
spans_text names first (s ∷ rest) = parted first ++ (span_text names s ++ spans_text names false rest)

-- whether an expression is the literal 0
abbrev pub is_zero_of : Ty → ℕ → Bool
is_zero_of (Fix t) w = word_at (Fix t) w == 0
is_zero_of Bit w = false

abbrev pub is_zero : PlainExpr → Bool
is_zero (expr place ty (literal w)) = is_zero_of ty w
is_zero (expr place ty _) = false

-- a counter from 0 is written without its beginning
abbrev pub from_text : Names → PlainExpr → List ℕ
from_text names e = if is_zero e then [] else whole_text names e ++ codes " until "

abbrev pub counter_text : Names → PlainCounter → List ℕ
counter_text names c = from_text names c.from ++ (whole_text names c.until ++ (codes " by " ++ (decimal c.step ++ par_text c.par)))

abbrev pub counters_text : Names → (first : Bool) → List PlainCounter → List ℕ
counters_text names first [] = []
counters_text names first (c ∷ rest) = parted first ++ (counter_text names c ++ counters_text names false rest)

abbrev pub bound_names : Names → (first : Bool) → List PlainCounter → List ℕ
bound_names names first [] = []
bound_names names first (c ∷ rest) = parted first ++ (counter_name names c.number ++ bound_names names false rest)

-- one name stands alone, several in parentheses
abbrev pub binds_text : Names → List PlainCounter → List ℕ
binds_text names [] = []
binds_text names (c ∷ []) = counter_name names c.number
binds_text names (c ∷ d ∷ rest) = codes "(" ++ (bound_names names true (c ∷ d ∷ rest) ++ codes ")")

abbrev pub block_word : Style → List ℕ
block_word Pipe = codes "Pipe"
block_word Sequential = codes "Sequential"
block_word Parallel = codes "Parallel"
block_word Stream = codes "Stream"

-- loops are pipelines unless something else is written
abbrev pub style_prefix : Style → List ℕ
style_prefix Pipe = []
style_prefix Sequential = codes "Sequential."
style_prefix Parallel = codes "Parallel."
style_prefix Stream = codes "Stream."

abbrev pub comb_text : Comb → List ℕ
comb_text Add = codes "{_ + _}"
comb_text Mul = codes "{_ * _}"
comb_text And = codes "{_ & _}"
comb_text Or = codes "{_ | _}"
comb_text Xor = codes "{_ ^ _}"
comb_text Min = codes "{(a, b) => min(a, b)}"
comb_text Max = codes "{(a, b) => max(a, b)}"

-- the line with which a loop begins
unfoldable pub loop_head : Names → List PlainCounter → List ℕ
loop_head names counters = codes "(" ++ (counters_text names true counters ++ (codes "){ " ++ (binds_text names counters ++ (codes " =>" ++ codes "\n"))))
