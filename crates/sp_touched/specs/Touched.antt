-- An event of a run as a target of its spot, at the forms of the target.
use Rattle.std.specs.Prelude.{◌≡◌, ℕ, ◌+◌, ◌≤◌, true, ℤ, pos, List, [], ◌++◌, length, map, drop, Option, Some, IfSome}
use Rattle.std.specs.List.{All, Contains}
use Rattle.sp_words.specs.declared.kind.Kind.{Kind}
use Rattle.sp_words.specs.declared.kind.Kind.TheVariants.{Sram, Dram}
use Rattle.sp_words.specs.Ports.{PlainInput}
use Rattle.sp_affine.specs.Affine.{Affine}
use Rattle.sp_core.specs.Declarations.{kind_of, dims}
use Rattle.sp_core.specs.Elements.{are_inside}
use Rattle.sp_core.specs.Events.{Act, Event, Moment, touches, slices, renews, keeps, core_moments}
use Rattle.sp_core.specs.Forms.{symbol_in, are_known_indices, form_at}
use Rattle.sp_core.specs.History.{History}
use Rattle.sp_core.specs.Inputs.{InputFits}
use Rattle.sp_core.specs.Invariant.{IsCore}
use Rattle.sp_core.specs.Meaning.{first_store, run_core}
use Rattle.sp_core.specs.Meeting.{changes}
use Rattle.sp_core.specs.Numbered.{range_number}
use Rattle.sp_core.specs.PlainCore.{PlainCore}
use Rattle.sp_core.specs.Scope.{in_lanes}
use Rattle.sp_core.specs.Step.{went}
use Rattle.sp_core.specs.Store.{Store}
use Rattle.sp_deps.specs.declared.access.LoopRange.{LoopRange}
use Rattle.sp_deps.specs.Groups.{HaveValues, HaveLength}
use Rattle.sp_patterns.specs.Patterns.{patterns_of}
use Rattle.sp_meets.specs.Sites.{counters_of, own_counters, indices_by}
use Rattle.sp_meets.specs.Spots.{PlainTarget, PlainSpot, spots}
use Rattle.sp_along.specs.AlongSymbols.{holds_symbol, EachIn}

-- the counters of an access's own, and the forms of its indices over those around and these
abbrev pub own_of : PlainCore → PlainSpot → PlainTarget → List LoopRange
own_of core spot t = own_counters (drop (range_number core spot.number) (patterns_of core).lengths) t.sizes

abbrev pub target_forms : PlainCore → PlainSpot → PlainTarget → Option (List Affine)
target_forms core spot t = indices_by spot.spans (length (counters_of spot.path)) (form_at core (patterns_of core) spot.number) t.places (length t.sizes)

-- words of an SRAM and of a DRAM are inside of it; elsewhere what changes a memory has no indices
abbrev pub IsInside : Kind → (dims indices : List ℕ) → Act → Type 0
IsInside Sram ds is act = are_inside ds (map pos is) ≡ true
IsInside Dram ds is act = are_inside ds (map pos is) ≡ true
IsInside kind ds is act = changes act ≡ true → is ≡ []

-- each counter goes on, by some lanes at once
abbrev pub AreSteps : List LoopRange → Type 0
AreSteps loops = All (λ l. (1 ≤ l.by) × (1 ≤ l.par)) loops

-- the symbols of forms are registers and arguments
abbrev pub IsOfSymbol : PlainCore → Affine → Type 0
IsOfSymbol core f = IfSome f.symbol (λ m. holds_symbol (kind_of core m) ≡ true)

abbrev pub AreSymbols : PlainCore → List Affine → Type 0
AreSymbols core fs = All (IsOfSymbol core) fs

pub record IsTouched (core : PlainCore) (s : Store) (e : Event) : Type 0 where
  pub spot : PlainSpot
  pub has : Contains (spots core) spot
  pub is_number : spot.number ≡ e.number
  -- the counters around have values in their ranges, and go on
  pub values : HaveValues (counters_of spot.path) e.standing.counters
  pub go_on : AreSteps (counters_of spot.path)
  pub target : PlainTarget
  pub has_target : Contains spot.targets target
  pub is_mem : target.mem ≡ e.mem
  pub writes : changes e.act ≡ true → target.writes ≡ true
  -- so do the event's own, and at all of them the forms are the indices, by what symbols are in the store
  pub own : List ℤ
  pub own_values : HaveValues (own_of core spot target) own
  pub lengths : HaveLength (length (counters_of spot.path) + length (own_of core spot target)) (target_forms core spot target)
  pub forms : are_known_indices core (patterns_of core) (target_forms core spot target) (map pos e.indices) (e.standing.counters ++ own) (symbol_in core (patterns_of core) s) ≡ true
  -- whose symbols are words of registers and arguments
  pub symbols : (fs : List Affine) → target_forms core spot target ≡ Some fs → AreSymbols core fs
  pub inside : (fs : List Affine) → target_forms core spot target ≡ Some fs → IsInside (kind_of core e.mem) (dims core e.mem) e.indices e.act

abbrev pub Touches : PlainCore → Store → Moment → Type 0
Touches core s (touches e) = IsTouched core s e
Touches core s (slices slice) = Unit {0}
Touches core s (renews m) = Unit {0}
Touches core s (keeps m w) = Unit {0}

-- in each run in lanes, each event in the store in which it happens
abbrev pub RunsTouch : Type 0
RunsTouch =
    (core : PlainCore) → IsCore core → (input : PlainInput) (turns : ℕ) (h : History) (t : Store) → InputFits core input → run_core in_lanes turns core input ≡ went h t →
    EachIn core (Touches core) (first_store core input) (core_moments core in_lanes h)
