-- The rules of spans, counters and combiners.
use Rattle.std.specs.Prelude.{◌≡◌, ℕ, ◌≤◌, Bool, true, false, List, [], ◌∷◌, length, Option, Some, None, ◌⊎◌}
use Rattle.sp_words.specs.declared.types.Ty.{Ty}
use Rattle.sp_words.specs.Types.{int_type}
use Rattle.sp_reader.specs.declared.syntax.statement.SynPar.{SynPar}
use Rattle.sp_reader.specs.PlainTree.{PlainIdent, PlainExpr}
use Rattle.sp_reader.specs.PlainStatement.{PlainSpan, single, range, PlainCounter, PlainComb}
use Rattle.sp_tree.specs.Typing.{IsNumber}
use Rattle.sp_types.specs.Spans.{is_empty, has_range, combines_numbers}
use Rattle.sp_types.specs.Visible.{counter, Visible, symbol_of, declare}
use Rattle.sp_rules.specs.ExpressionRules.{IsRight}

-- a bound, and a span: an `Int`
abbrev pub IsBound : Visible → PlainExpr → Type 0
IsBound seen e = IsRight seen true int_type e

-- ---- spans

-- lanes stand, where they may, on the last range
abbrev pub LanesFit : (may : Bool) → Option SynPar → (rest : List PlainSpan) → Type 0
LanesFit may None rest = Unit {0}
LanesFit may (Some par) rest = (may ≡ true) × (has_range rest ≡ false)

abbrev pub AreSpans : Visible → (may : Bool) → List PlainSpan → Type 0
AreSpans seen may [] = Unit {0}
AreSpans seen may (single e ∷ rest) = IsBound seen e × AreSpans seen may rest
AreSpans seen may (range from until par ∷ rest) = IsBound seen from × IsBound seen until × LanesFit may par rest × AreSpans seen may rest

-- ---- counters

-- several lanes stand on the last counter
abbrev pub CounterLanes : (last : Bool) → Option SynPar → Type 0
CounterLanes last None = Unit {0}
CounterLanes last (Some par) = (last ≡ true) ⊎ (par.lanes ≤ 1)

abbrev pub IsFrom : Visible → Option PlainExpr → Type 0
IsFrom seen None = Unit {0}
IsFrom seen (Some e) = IsBound seen e

abbrev pub AreCounters : Visible → List PlainCounter → Type 0
AreCounters seen [] = Unit {0}
AreCounters seen (c ∷ rest) = IsFrom seen c.from × IsBound seen c.until × CounterLanes (is_empty rest) c.par × AreCounters seen rest

-- a name that isn't visible
abbrev pub IsNew : Visible → PlainIdent → Type 0
IsNew seen i = symbol_of seen i.text ≡ None

-- binders, each beside those before it
abbrev pub AreNew : Visible → List PlainIdent → Type 0
AreNew seen [] = Unit {0}
AreNew seen (i ∷ rest) = IsNew seen i × AreNew (declare seen i.text counter) rest

-- as many binders as counters
abbrev pub AsMany : (counters : ℕ) → List PlainIdent → Type 0
AsMany n [] = Unit {0}
AsMany n (i ∷ rest) = n ≡ length (i ∷ rest)

-- how a loop begins
pub record IsHead (seen : Visible) (counters : List PlainCounter) (binds : List PlainIdent) : Type 0 where
  pub counters_right : AreCounters seen counters
  pub as_many : AsMany (length counters) binds
  pub binders : AreNew seen binds

-- ---- combiners

-- the names after `=>` are those before it, in order
abbrev pub SameNames : Option (PlainIdent × PlainIdent) → Option (PlainIdent × PlainIdent) → Type 0
SameNames (Some p) (Some q) = (q.0.text ≡ p.0.text) × (q.1.text ≡ p.1.text)
SameNames None q = Unit {0}
SameNames (Some p) None = Unit {0}

-- only a bitwise operator combines bits
pub record Combines (ty : Ty) (c : PlainComb) : Type 0 where
  pub operator : combines_numbers c.operator ≡ true → IsNumber ty
  pub names : SameNames c.params c.args
