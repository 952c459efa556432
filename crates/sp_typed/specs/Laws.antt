-- What is said of the typed program of a tree.
use Rattle.std.specs.Prelude.{◌≡◌, ℕ, ◌≤◌, Bool, true, false, List, [], ◌++◌, length, All, Contains, Option, Some, None}
use Rattle.sp_words.specs.declared.types.Ty.{Ty}
use Rattle.sp_words.specs.Names.{IsName}
use Rattle.sp_reader.specs.PlainTree.{PlainExpr}
use Rattle.sp_reader.specs.PlainStatement.{PlainSpan, PlainCounter}
use Rattle.sp_tree.specs.Declarations.{IsDeclaration}
use Rattle.sp_tree.specs.Elements.{numbers_below}
use Rattle.sp_tree.specs.Invariant.{port_numbers, ports_of}
use Rattle.sp_tree.specs.PlainProgram.{PlainProgram}
use Rattle.sp_tree.specs.Structure.{mems_declared, vals_declared, counters_declared, depth, slice_lanes}
use Rattle.sp_tree.specs.Typing.{Scope, IsMem, mem_at, HasType, HasTypeStill, SpansTyped, LanesAtLastRange, BoundsTyped, LanesAtEnd}
use Rattle.sp_types.specs.declared.own.Ask.{Ask}
use Rattle.sp_types.specs.Expressions.{expr_refusals}
use Rattle.sp_types.specs.Spans.{spans_refusals, counters_refusals}
use Rattle.sp_types.specs.Visible.{PlainSymbol, memory, value, counter, Visible}
use Rattle.sp_typed.specs.Expressions.{typed}
use Rattle.sp_typed.specs.Named.{Meant, Here, find, seen_at}
use Rattle.sp_typed.specs.ReadTree.{IsReadExpr, IsReadSpan, IsReadCounter}
use Rattle.sp_typed.specs.Statements.{spans_typed, counters_typed}

-- memories, values and counters are numbered from 0 in the order of the text, ports first
pub record AreNumbered (p : PlainProgram) : Type 0 where
  pub mems : port_numbers p ++ mems_declared p.body ≡ numbers_below (length p.mems)
  pub vals : vals_declared p.body ≡ numbers_below (length p.vals)
  pub counters : counters_declared p.body ≡ numbers_below (length p.counters)

-- declarations are right by themselves, and controllers stand at most 64 one inside another
pub record AreDeclared (p : PlainProgram) : Type 0 where
  pub declarations : All IsDeclaration p.mems
  pub val_names : All IsName p.vals
  pub counter_names : All IsName p.counters
  pub ports : p.ports ≡ ports_of p.mems
  pub nested : depth p.body ≤ 64

-- ---- expressions

module _ (p : PlainProgram) (scope : Scope) where
  -- what a name stands for is visible in the program under its number
  abbrev pub Stands : PlainSymbol → ℕ → Type 0
  Stands (memory kind (Some ty) dims) n = IsMem p scope n kind ty × ((mem_at p n).dims ≡ dims)
  Stands (memory kind None dims) n = ⊥
  Stands (value (Some ty)) n = Contains scope.vals (n, ty)
  Stands (value None) n = ⊥
  Stands counter n = Contains scope.counters n

  -- all that is visible at a place is
  abbrev pub Agree : List (List ℕ × Meant) → Type 0
  Agree names = (name : List ℕ) (m : Meant) → find names name ≡ Some m → Stands m.symbol m.number

  -- an expression that is read, and has no refusals at a type, is typed at it
  abbrev pub IsTypedAt : Here → Visible → Ask → Ty → PlainExpr → Type 0
  IsTypedAt here seen ask ty e =
      Agree here.names → seen.names ≡ (seen_at here).names → ask.want ≡ Some ty → IsReadExpr e → expr_refusals seen ask e ≡ [] → HasType p scope ty (typed here ty e)

  -- one that is checked still takes no word from a FIFO besides: a bound, a span, a start, a test or a next state
  abbrev pub IsTypedStill : Here → Visible → Ask → Ty → PlainExpr → Type 0
  IsTypedStill here seen ask ty e =
      Agree here.names → seen.names ≡ (seen_at here).names → ask.want ≡ Some ty → ask.still ≡ true → IsReadExpr e → expr_refusals seen ask e ≡ []
      → HasTypeStill p scope ty (typed here ty e)

  -- spans without refusals: their bounds, and their lanes, which only the last range of an SRAM's slice has
  pub record AreSpansTyped (here : Here) (lanes : Bool) (spans : List PlainSpan) : Type 0 where
    pub bounds : SpansTyped p scope (spans_typed here spans)
    pub one_range : lanes ≡ true → LanesAtLastRange (spans_typed here spans)
    pub no_range : lanes ≡ false → slice_lanes (spans_typed here spans) ≡ 1

  -- and counters: their bounds, and their lanes, which only the last one has
  pub record AreCountersTyped (here : Here) (n : ℕ) (counters : List PlainCounter) : Type 0 where
    pub bounds : BoundsTyped p scope (counters_typed here n counters)
    pub lanes : 1 ≤ length counters → LanesAtEnd p (counters_typed here n counters)

  abbrev pub AreSpansRight : Here → Visible → Bool → List PlainSpan → Type 0
  AreSpansRight here seen lanes spans =
      Agree here.names → seen.names ≡ (seen_at here).names → All IsReadSpan spans → spans_refusals seen lanes spans ≡ [] → AreSpansTyped here lanes spans

  abbrev pub AreCountersRight : Here → Visible → ℕ → List PlainCounter → Type 0
  AreCountersRight here seen n counters =
      Agree here.names → seen.names ≡ (seen_at here).names → All IsReadCounter counters → counters_refusals seen counters ≡ [] → AreCountersTyped here n counters
