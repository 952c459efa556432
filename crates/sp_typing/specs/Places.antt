-- A place of a tree and of its program: what is visible there, and what the text declares from there on.
use Rattle.std.specs.Prelude.{◌≡◌, ℕ, true, List, ◌++◌, map, length, Contains, Some, is_some}
use Rattle.sp_reader.specs.PlainStatement.{PlainStmtKind, PlainStmts}
use Rattle.sp_tree.specs.Footprint.{StmtKindNames, BodyNames}
use Rattle.sp_tree.specs.PlainProgram.{PlainMem, PlainProgram}
use Rattle.sp_tree.specs.PlainStatement.{PlainStmtKind as ProgramKind}
use Rattle.sp_tree.specs.Typing as program
use Rattle.sp_tree.specs.Typing.{Scope, visible, mem_at, StmtTyped, BodyTyped, all_but}
use Rattle.sp_types.specs.Statements as rule
use Rattle.sp_types.specs.Visible.{PlainSymbol, memory, value, counter, Visible, symbol_of, is_busy}
use Rattle.sp_typed.specs.Declarations.{names_after, after_all}
use Rattle.sp_typed.specs.Laws.{Agree}
use Rattle.sp_typed.specs.Named.{Meant, Here, find}
use Rattle.sp_typed.specs.Statements.{stmt_typed, body_typed}

-- a list holds another from an index on
pub record Held {A : Type 0} (all : List A) (n : ℕ) (part : List A) : Type 0 where
  pub before : List A
  pub after : List A
  pub is : all ≡ before ++ part ++ after
  pub count : length before ≡ n

module _ (p : PlainProgram) where
  -- a memory is declared under the name by which it is visible
  abbrev pub NamedBy : PlainSymbol → ℕ → List ℕ → Type 0
  NamedBy (memory kind ty dims) n name = (mem_at p n).name ≡ name
  NamedBy (value ty) n name = Unit {0}
  NamedBy counter n name = Unit {0}

  -- what is visible in the tree is visible in the program under its number, and the other way round
  pub record Place (scope : Scope) (names : List (List ℕ × Meant)) (seen : List (List ℕ × PlainSymbol)) : Type 0 where
    pub agree : Agree p scope names
    pub same : seen ≡ map (λ entry. (entry.0, entry.1.symbol)) names
    pub shown : (name : List ℕ) → Contains (visible p scope) name → is_some (find names name) ≡ true
    pub named : (name : List ℕ) (m : Meant) → find names name ≡ Some m → NamedBy m.symbol m.number name

  -- what the text declares from a place on stands in the program from the place's numbers on
  pub record Declares (here : Here) (mems : List PlainMem) (vals counters : List (List ℕ)) : Type 0 where
    pub mems_held : Held p.mems here.mems mems
    pub vals_held : Held p.vals here.vals vals
    pub counters_held : Held p.counters here.counters counters

  -- an accumulator around, by its number
  pub record IsAround (seen : Visible) (acc : ℕ) : Type 0 where
    pub visible : is_some (symbol_of seen (mem_at p acc).name) ≡ true
    pub busy : is_busy seen (mem_at p acc).name ≡ true

  -- a statement of a program is typed, and names no accumulator around
  pub record KindRight (scope : Scope) (seen : Visible) (kind : ProgramKind) : Type 0 where
    pub typed : StmtTyped p scope kind
    pub alone : (acc : ℕ) → IsAround seen acc → StmtKindNames (all_but p acc) kind

  -- so is the one that a statement of a tree spells, and it leaves a place
  pub record StmtRight (scope : Scope) (here : Here) (seen : Visible) (kind : PlainStmtKind) : Type 0 where
    pub typed : StmtTyped p scope (stmt_typed here kind)
    pub alone : (acc : ℕ) → IsAround seen acc → StmtKindNames (all_but p acc) (stmt_typed here kind)
    pub next : Place (program.after scope (stmt_typed here kind)) (names_after here kind) (rule.after seen kind).names

  -- and so is a body
  pub record BodyRight (scope : Scope) (here : Here) (seen : Visible) (ss : PlainStmts) : Type 0 where
    pub typed : BodyTyped p scope (body_typed here ss)
    pub alone : (acc : ℕ) → IsAround seen acc → BodyNames (all_but p acc) (body_typed here ss)
    pub at_end : Place (program.after_all scope (body_typed here ss)) (after_all here ss).names (rule.after_all seen ss).names
