-- The slots of an outer body, from the stages that aren't held together with the next one.
use Rattle.std.specs.Prelude.{ℕ, zero, suc, ◌+◌, nat_le, nat_lt, Bool, false, ◌&&◌, ◌||◌, not, List, [], map, length, Option, Some, None, if◌then◌else◌}
use Rattle.std.specs.List.{list_any}
use Rattle.sp_core.specs.declared.access.Meet.{Meet}
use Rattle.sp_core.specs.Elements.{numbers_below}
use Rattle.sp_core.specs.Numbering.{counters_size}
use Rattle.sp_core.specs.PlainCore.{PlainCounter, PlainNode, PlainCore, outer}
use Rattle.sp_plan.specs.Nodes.{Site, site_at}
use Rattle.sp_plan.specs.Slots.{StageRun, runs_of, stage_of, is_once, has_one_slot, is_pair}
use Rattle.sp_words.specs.declared.kind.Style.{Style}

module _ (core : PlainCore) (owned : List ℕ) (runs : List StageRun) where
  -- two runs that a meet holds together stand on both sides of the end of a stage
  abbrev pub are_around : (stage p q : ℕ) → Bool
  are_around k p q = nat_le (stage_of runs q) k && nat_lt k (stage_of runs p)

  abbrev pub is_over : (stage : ℕ) → Meet → (p q : ℕ) → Bool
  is_over k m p q = are_around k p q && is_pair runs [] [] core owned p q m

  abbrev pub is_over_any : (stage : ℕ) → Meet → (p : ℕ) → Bool
  is_over_any k m p = list_any (is_over k m p) (numbers_below (length runs))

  abbrev pub is_over_end : (stage : ℕ) → Meet → Bool
  is_over_end k m = list_any (is_over_any k m) (numbers_below (length runs))

-- a slot begins after each stage that isn't joined with the next one
abbrev pub slot_of : (joined : ℕ → Bool) → (stage : ℕ) → ℕ
slot_of joined zero = 0
slot_of joined (suc k) = slot_of joined k + (if joined k then 0 else 1)

module _ (core : PlainCore) (meets : List Meet) (counters : List PlainCounter) (style : Style) (owned : List ℕ) (runs : List StageRun) where
  -- a stage and the next one are held together
  abbrev pub is_joined : (stage : ℕ) → Bool
  is_joined k = has_one_slot counters style || (not (is_once counters) && list_any (is_over_end core owned runs k) meets)

  abbrev pub slots_of : List ℕ
  slots_of = map (λ p. slot_of is_joined (stage_of runs p)) (numbers_below (length runs))

-- the stages and the slots of the node of a number
abbrev pub runs_in : (number : ℕ) → PlainNode → List StageRun
runs_in n (outer counters style owned stages) = runs_of (n + counters_size counters) stages
runs_in n node = []

abbrev pub runs_at : Option Site → List StageRun
runs_at (Some site) = runs_in site.number site.node
runs_at None = []

abbrev pub runs_of_node : PlainCore → (node : ℕ) → List StageRun
runs_of_node core k = runs_at (site_at k 0 false core.root)

abbrev pub slots_in : PlainCore → List Meet → (number : ℕ) → PlainNode → List ℕ
slots_in core meets n (outer counters style owned stages) = slots_of core meets counters style owned (runs_of (n + counters_size counters) stages)
slots_in core meets n node = []

abbrev pub slots_at : PlainCore → List Meet → Option Site → List ℕ
slots_at core meets (Some site) = slots_in core meets site.number site.node
slots_at core meets None = []

abbrev pub slots_of_node : PlainCore → List Meet → (node : ℕ) → List ℕ
slots_of_node core meets k = slots_at core meets (site_at k 0 false core.root)
