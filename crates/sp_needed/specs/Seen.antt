-- What is found amiss in the timeline of a run: words that don't stand where they are read, and ports that are shared.
use Rattle.std.specs.Prelude.{ℕ, zero, suc, ◌+◌, ◌-◌, ◌==◌, min, Bool, true, false, ◌&&◌, not, List, [], ◌∷◌, ◌++◌, Option, Some, None, if◌then◌else◌}
use Rattle.std.specs.List.{list_any}
use Rattle.sp_bank.specs.Banking.{Banking}
use Rattle.sp_bank.specs.Places.{bank}
use Rattle.sp_words.specs.Memory.{Contents, cells}
use Rattle.sp_words.specs.Ports.{PlainInput}
use Rattle.sp_core.specs.Declarations.{mem}
use Rattle.sp_core.specs.Events.{At, Event, Act, reads, writes, Moment, touches}
use Rattle.sp_core.specs.Meaning.{Outcome, ended}
use Rattle.sp_core.specs.PlainCore.{PlainNode, inner, store, PlainCore}
use Rattle.sp_plan.specs.Copies as readers
use Rattle.sp_plan.specs.Copies.{one_if}
use Rattle.sp_plan.specs.Nodes.{Site, site_at}
use Rattle.sp_plan.specs.PlainPlan.{PlainPlan, mem_plan}
use Rattle.sp_plan.specs.Ports.{has_banks}
use Rattle.sp_time.specs.Events as time
use Rattle.sp_time.specs.Events.{content}
use Rattle.sp_time.specs.Places.{Place, is_place}
use Rattle.sp_machine.specs.Examples.{Shown, at}
use Rattle.sp_machine.specs.Found.{events_of, does}
use Rattle.sp_machine.specs.InOrder.{memory_of}
use Rattle.sp_machine.specs.Stamps.{Stamped}
use Rattle.sp_machine.specs.Timeline.{core_timed}
use Rattle.sp_machine.specs.Transfers.{Delays}
use Rattle.sp_contents.specs.Found.{first_contents}

-- a read of a cell finds its word
abbrev pub finds : Act → Option Contents → Bool
finds (reads w) (Some (cells (Some v ∷ []))) = v == w
finds (reads w) c = false
finds act c = true

abbrev pub is_found : Moment → Option Contents → Bool
is_found (touches e) c = finds e.act c
is_found m c = true

module _ (core : PlainCore) (plan : PlainPlan) (delays : Delays) where
  -- reads that don't, by what stands there in their own cycles
  abbrev pub missed : (all : List (time.Event Place Moment)) → (first : Place → Option Contents) → List (time.Event Place Moment) → List Shown
  missed all first [] = []
  missed all first (e ∷ es) =
      (if is_found e.act (content is_place (does core) all e.cycle first e.place) then [] else at e.cycle e.place.mem e.place.copy ∷ []) ++ missed all first es

  abbrev pub missed_in : PlainInput → Outcome → Option (List Shown)
  missed_in given (ended outs drams h) =
      let all : List (time.Event Place Moment) = events_of core (core_timed core plan delays h).events in
      Some (missed all (first_contents core given) all)
  missed_in given _ = None

  -- each inner body and each store that reads a memory has a duplicate of its own, as long as there are so many
  abbrev pub reads_here : (mem : ℕ) → PlainNode → ℕ
  reads_here m (inner counters owned ops comb) = one_if (readers.reads core m ops)
  reads_here m (store r s spans) = one_if (s == m)
  reads_here m node = 0

  abbrev pub reads_at : (mem : ℕ) → Option Site → ℕ
  reads_at m None = 0
  reads_at m (Some site) = reads_here m site.node

  abbrev pub readers_before : (mem node : ℕ) → ℕ
  readers_before m zero = 0
  readers_before m (suc k) = readers_before m k + reads_at m (site_at k 0 false core.root)

  abbrev pub last_node : List At → ℕ
  last_node [] = 0
  last_node (a ∷ []) = a.node
  last_node (a ∷ path) = last_node path

  abbrev pub duplicate_of : Event → ℕ
  duplicate_of e = min (readers_before e.mem (last_node e.standing.path)) ((mem_plan plan e.mem).duplicates - 1)

  -- two accesses use one port of a bank: a write is made in each duplicate
  abbrev pub is_one_port : Act → Act → Bool → Bool
  is_one_port (reads v) (reads w) one_duplicate = one_duplicate
  is_one_port (writes v) (writes w) one_duplicate = true
  is_one_port a b one_duplicate = false

  abbrev pub is_one_bank : Option Banking → (indices others : List ℕ) → Bool
  is_one_bank None is js = true
  is_one_bank (Some b) is js = bank b is == bank b js

  abbrev pub is_one_element : (indices others : List ℕ) → Bool
  is_one_element [] [] = true
  is_one_element (i ∷ is) (j ∷ js) = (i == j) && is_one_element is js
  is_one_element is js = false

  abbrev pub is_shared : Moment → Moment → Bool
  is_shared (touches e) (touches f) =
      ((e.mem == f.mem) && has_banks (mem core e.mem).kind)
      && ((is_one_port e.act f.act (duplicate_of e == duplicate_of f) && is_one_bank (mem_plan plan e.mem).scheme e.indices f.indices) && not (is_one_element e.indices f.indices))
  is_shared m n = false

  abbrev pub share : Stamped → Stamped → Bool
  share s t = ((s.cycle == t.cycle) && (s.copy == t.copy)) && is_shared s.moment t.moment

  -- accesses to different elements that share a port with a later one, in the order of the text
  abbrev pub shared : List Stamped → List Shown
  shared [] = []
  shared (s ∷ rest) = (if list_any (share s) rest then at s.cycle (memory_of s.moment) s.copy ∷ [] else []) ++ shared rest

  abbrev pub shared_in : Outcome → Option (List Shown)
  shared_in (ended outs drams h) = Some (shared (core_timed core plan delays h).events)
  shared_in _ = None
