-- The refusals of counters, spans and combiners.
use Rattle.std.specs.Prelude.{ℕ, ◌+◌, ◌&&◌, ◌||◌, ◌==◌, nat_lt, Bool, true, false, not, if◌then◌else◌, List, [], ◌∷◌, ◌++◌, length, count_by, Option, Some, None, is_some}
use Rattle.std.specs.List.{list_any}
use Rattle.std.specs.Str.{bytes_eq}
use Rattle.sp_words.specs.declared.kind.BinOp.{BinOp}
use Rattle.sp_words.specs.declared.kind.BinOp.TheVariants as binary
use Rattle.sp_words.specs.declared.types.Ty.{Ty}
use Rattle.sp_words.specs.declared.types.Ty.TheVariants.{Bit}
use Rattle.sp_words.specs.Types.{int_type}
use Rattle.sp_reader.specs.declared.syntax.statement.SynPar.{SynPar}
use Rattle.sp_reader.specs.PlainTree.{PlainIdent, PlainExpr}
use Rattle.sp_reader.specs.PlainStatement.{PlainSpan, single, range, PlainCounter, PlainComb}
use Rattle.sp_types.specs.declared.own.Ask.{Ask}
use Rattle.sp_types.specs.declared.refusal.Refusal.{Refusal}
use Rattle.sp_types.specs.declared.refusal.Rule.TheVariants.{Twice, Misused, Rank, ParPlace}
use Rattle.sp_types.specs.Expressions.{told, at_type, expr_refusals}
use Rattle.sp_types.specs.First.{one_if, refused}
use Rattle.sp_types.specs.Visible.{PlainSymbol, counter, Visible, symbol_of, declare}

-- how a bound and a span are checked
abbrev pub bound : Ask
bound = at_type (Some int_type) true

abbrev pub bound_refusals : Visible → PlainExpr → List Refusal
bound_refusals seen e = expr_refusals seen bound e

abbrev pub from_refusals : Visible → Option PlainExpr → List Refusal
from_refusals seen None = []
from_refusals seen (Some e) = bound_refusals seen e

-- ---- lanes

-- several lanes on a counter that isn't the last
abbrev pub counter_par : (last : Bool) → Option SynPar → List Refusal
counter_par last (Some par) = one_if (not last && nat_lt 1 par.lanes) (refused par.at ParPlace)
counter_par last None = []

-- lanes, also a single one, on a range where there can't be any
abbrev pub range_par : (allowed : Bool) → Option SynPar → List Refusal
range_par allowed (Some par) = one_if (not allowed) (refused par.at ParPlace)
range_par allowed None = []

-- ---- counters

abbrev pub is_empty : {A : Type 0} → List A → Bool
is_empty [] = true
is_empty (x ∷ xs) = false

-- a counter's bounds and lanes
abbrev pub counter_refusals : Visible → (last : Bool) → PlainCounter → List Refusal
counter_refusals seen last c = from_refusals seen c.from ++ bound_refusals seen c.until ++ counter_par last c.par

abbrev pub counters_refusals : Visible → List PlainCounter → List Refusal
counters_refusals seen [] = []
counters_refusals seen (c ∷ rest) = counter_refusals seen (is_empty rest) c ++ counters_refusals seen rest

-- a name that is given where it is visible already
abbrev pub twice : Visible → PlainIdent → List Refusal
twice seen i = one_if (is_some (symbol_of seen i.text)) (refused i.place Twice)

abbrev pub binds_refusals : Visible → List PlainIdent → List Refusal
binds_refusals seen [] = []
binds_refusals seen (i ∷ rest) = twice seen i ++ binds_refusals (declare seen i.text counter) rest

-- what is visible inside of a loop
abbrev pub with_binds : Visible → List PlainIdent → Visible
with_binds seen [] = seen
with_binds seen (i ∷ rest) = with_binds (declare seen i.text counter) rest

-- another number of names than of counters, at the first name
abbrev pub names_for_counters : (want : ℕ) → List PlainIdent → List Refusal
names_for_counters want [] = []
names_for_counters want (i ∷ rest) = one_if (not (want == length (i ∷ rest))) (refused i.place (Rank (told want) (told (length (i ∷ rest)))))

-- ---- spans

abbrev pub span_refusals : Visible → PlainSpan → List Refusal
span_refusals seen (single e) = bound_refusals seen e
span_refusals seen (range from until par) = bound_refusals seen from ++ bound_refusals seen until

abbrev pub is_range : PlainSpan → Bool
is_range (single e) = false
is_range (range from until par) = true

abbrev pub has_range : List PlainSpan → Bool
has_range spans = list_any is_range spans

-- lanes on a span: where they may stand at all, on the last range, after which only `rest` comes
abbrev pub span_par : (lanes : Bool) → PlainSpan → (rest : List PlainSpan) → List Refusal
span_par lanes (single e) rest = []
span_par lanes (range from until par) rest = range_par (lanes && not (has_range rest)) par

abbrev pub spans_refusals : Visible → (lanes : Bool) → List PlainSpan → List Refusal
spans_refusals seen lanes [] = []
spans_refusals seen lanes (s ∷ rest) = (span_refusals seen s ++ span_par lanes s rest) ++ spans_refusals seen lanes rest

-- how many of the spans are ranges
abbrev pub range_count : List PlainSpan → ℕ
range_count spans = count_by is_range spans

-- whether the last span is one
abbrev pub ends_in_range : List PlainSpan → Bool
ends_in_range [] = false
ends_in_range (s ∷ []) = is_range s
ends_in_range (s ∷ next ∷ rest) = ends_in_range (next ∷ rest)

-- the ranges of a line buffer's slice: 0 where the only one isn't the last span
abbrev pub line_ranges : List PlainSpan → ℕ
line_ranges spans = if range_count spans == 1 && not (ends_in_range spans) then 0 else range_count spans

-- ---- combiners

-- whether a combiner takes numbers alone
abbrev pub combines_numbers : BinOp → Bool
combines_numbers binary.And = false
combines_numbers binary.Or = false
combines_numbers binary.Xor = false
combines_numbers _ = true

abbrev pub is_bit_type : Option Ty → Bool
is_bit_type (Some Bit) = true
is_bit_type _ = false

-- a name after `=>` that isn't the one before it
abbrev pub other_name : (param arg : PlainIdent) → List Refusal
other_name param arg = one_if (not (bytes_eq arg.text param.text)) (refused arg.place Misused)

abbrev pub comb_names : Option (PlainIdent × PlainIdent) → Option (PlainIdent × PlainIdent) → List Refusal
comb_names (Some p) (Some q) = other_name p.0 q.0 ++ other_name p.1 q.1
comb_names None q = []
comb_names (Some p) None = []

-- of a combiner, by the type of the accumulator
abbrev pub comb_refusals : Option Ty → PlainComb → List Refusal
comb_refusals ty c = one_if (combines_numbers c.operator && is_bit_type ty) (refused c.place Misused) ++ comb_names c.params c.args
