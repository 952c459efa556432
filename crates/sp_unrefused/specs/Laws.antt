-- Parts of statements of a program's tree that have no refusals, at a place inside of the bodies of some accumulators; and
-- the whole tree of a program, which has none.
use Rattle.std.specs.Prelude.{◌≡◌, ℕ, Bool, true, List, [], Contains, Option, Some}
use Rattle.sp_words.specs.declared.types.Ty.{Ty}
use Rattle.sp_reader.specs.PlainTree as tree
use Rattle.sp_reader.specs.PlainStatement as tree_of
use Rattle.sp_tree.specs.Footprint.{Names, SpansName, CountersName}
use Rattle.sp_tree.specs.PlainExpression.{PlainExpr, type_of}
use Rattle.sp_tree.specs.PlainProgram.{PlainProgram}
use Rattle.sp_tree.specs.PlainStatement as program
use Rattle.sp_tree.specs.Typing.{Scope, Typed, SpansTyped, BoundsTyped, LanesAtEnd, LanesAtLastRange, BindersFresh, StmtTyped, all_but, mem_at, after}
use Rattle.sp_printer.specs.Names.{names_in}
use Rattle.sp_printed.specs.Trees.{IsTree}
use Rattle.sp_printed.specs.LoopTrees.{AreSpanTrees, AreCounterTrees, AreBindTrees}
use Rattle.sp_types.specs.Expressions.{at_type, expr_refusals}
use Rattle.sp_types.specs.Spans.{spans_refusals, counters_refusals, binds_refusals}
use Rattle.sp_types.specs.Visible.{Visible}
use Rattle.sp_typed.specs.Named.{Here}
use Rattle.sp_retyped.specs.Shown.{is_still}
use Rattle.sp_unrefused.specs.Placed.{Placed, IsRun}
use Rattle.sp_printed.specs.StatementTrees.{IsStmtTree, IsProgramTree}
use Rattle.sp_reader.specs.PlainStatement.{PlainSyntax}
use Rattle.sp_tree.specs.Invariant.{IsProgram}
use Rattle.sp_types.specs.Statements.{refusals}
use Rattle.sp_tree.specs.Declarations.{IsDeclaration}
use Rattle.sp_tree.specs.Structure.{counter_numbers, mems_in, vals_in, counters_in}
use Rattle.sp_types.specs.Statements as rule
use Rattle.sp_typed.specs.Declarations as typed

-- an expression that names no accumulator around, checked at its type
abbrev pub ExpressionsAreRight : Type 0
ExpressionsAreRight = (p : PlainProgram) (scope : Scope) (here : Here) (seen : Visible) (accs : List ℕ) (e : PlainExpr) (x : tree.PlainExpr) (want : Option Ty) (still : Bool)
    → Placed p scope here seen accs → IsTree (names_in p) e x → Typed p scope e → want ≡ Some (type_of e) → ((a : ℕ) → Contains accs a → Names (all_but p a) e) → (still ≡ true → Names (is_still p) e)
    → expr_refusals seen (at_type want still) x ≡ []

-- the slice of a transfer of an SRAM
abbrev pub SlicesAreRight : Type 0
SlicesAreRight = (p : PlainProgram) (scope : Scope) (here : Here) (seen : Visible) (accs : List ℕ) (spans : List program.PlainSpan) (xs : List tree_of.PlainSpan)
    → Placed p scope here seen accs → AreSpanTrees (names_in p) spans xs → SpansTyped p scope spans → ((a : ℕ) → Contains accs a → SpansName (all_but p a) spans) → LanesAtLastRange spans
    → spans_refusals seen true xs ≡ []

-- the counters of a loop
abbrev pub CountersAreRight : Type 0
CountersAreRight = (p : PlainProgram) (scope : Scope) (here : Here) (seen : Visible) (accs : List ℕ) (counters : List program.PlainCounter) (xs : List tree_of.PlainCounter)
    → Placed p scope here seen accs → AreCounterTrees (names_in p) counters xs → BoundsTyped p scope counters → ((a : ℕ) → Contains accs a → CountersName (all_but p a) counters) → LanesAtEnd p counters
    → counters_refusals seen xs ≡ []

-- the names that a loop binds, where counters have numbers that follow one another
abbrev pub BindersAreRight : Type 0
BindersAreRight = (p : PlainProgram) (scope : Scope) (here : Here) (seen : Visible) (accs : List ℕ) (n : ℕ) (counters : List program.PlainCounter) (binds : List tree.PlainIdent)
    → Placed p scope here seen accs → AreBindTrees (names_in p) counters binds → BindersFresh p scope counters → IsRun n (counter_numbers counters) → binds_refusals seen binds ≡ []

-- behind a statement stands such a place again
abbrev pub PlacesGoOn : Type 0
PlacesGoOn = (p : PlainProgram) (scope : Scope) (here : Here) (seen : Visible) (accs : List ℕ) (s : program.PlainStmtKind) (x : tree_of.PlainStmtKind)
    → Placed p scope here seen accs → IsStmtTree (names_in p) s x → StmtTyped p scope s → ((m : ℕ) → Contains (mems_in s) m → IsDeclaration (mem_at p m))
    → IsRun here.mems (mems_in s) → IsRun here.vals (vals_in s) → IsRun here.counters (counters_in s) → Placed p (after scope s) (typed.after here x) (rule.after seen x) accs

-- a tree of a program has no refusals
abbrev pub ProgramsAreUnrefused : Type 0
ProgramsAreUnrefused = (p : PlainProgram) (s : PlainSyntax) → IsProgram p → IsProgramTree p s → refusals s ≡ []
