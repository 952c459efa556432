-- Registers and arguments keep their words as long as a controller runs that doesn't change them.
use Rattle.std.specs.Prelude.{◌≡◌, ℕ, Bool, true, false, List, ◌∷◌, ◌++◌, []}
use Rattle.sp_words.specs.declared.kind.Kind.{Kind}
use Rattle.sp_words.specs.declared.kind.Kind.TheVariants.{Reg, ArgIn}
use Rattle.sp_core.specs.Declarations.{kind_of, is_among}
use Rattle.sp_core.specs.Events.{At, Standing, Moment, core_moments}
use Rattle.sp_core.specs.History.{History}
use Rattle.sp_core.specs.Invariant.{IsCore}
use Rattle.sp_core.specs.PlainCore.{PlainCore}
use Rattle.sp_core.specs.Replay.{after_moment}
use Rattle.sp_core.specs.Scope.{Reading}
use Rattle.sp_core.specs.Store.{Store}
use Rattle.sp_meets.specs.Around.{changed_in}
use Rattle.sp_along.specs.MetTraces.{Stands}
use Rattle.sp_along.specs.AlongControllers.{ran_in}

-- a memory whose word may be a symbol
abbrev pub holds_symbol : Kind → Bool
holds_symbol Reg = true
holds_symbol ArgIn = true
holds_symbol _ = false

-- so is each moment, in the store in which it happens
abbrev pub EachIn : PlainCore → (Store → Moment → Type 0) → Store → List Moment → Type 0
EachIn core P s [] = Unit {0}
EachIn core P s (m ∷ ms) = P s m × EachIn core P (after_moment core m s) ms

-- at a place in a run: what a controller around doesn't change holds what it held as the run of that controller began, which is
-- said by the path to the controller
abbrev pub AreKept : PlainCore → History → (begun : List At → Store) → Store → Standing → Type 0
AreKept core h begun s st =
    (around rest : List At) (here : At) (m : ℕ) → st.path ≡ around ++ here ∷ rest → holds_symbol (kind_of core m) ≡ true →
    is_among m (changed_in (ran_in core.root h around).node) ≡ false → s m ≡ begun around m

pub record SymbolsAreKept (core : PlainCore) (reading : Reading) (h : History) (first : Store) : Type 0 where
  pub begun : List At → Store
  pub kept : EachIn core (λ s m. Stands (AreKept core h begun s) m) first (core_moments core reading h)

-- whatever was done
abbrev pub SymbolsStay : Type 0
SymbolsStay = (core : PlainCore) (reading : Reading) (h : History) (first : Store) → IsCore core → SymbolsAreKept core reading h first
