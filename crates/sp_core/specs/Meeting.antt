-- When meets hold of a core: in each run two events that touch one element stand in them, at no greater distance.
use Rattle.std.specs.Prelude.{ℕ, suc, ◌+◌, ◌-◌, ◌==◌, nat_le, nat_lt, Bool, true, false, ◌&&◌, ◌||◌, not, List, [], ◌∷◌, ◌++◌, length, if◌then◌else◌}
use Rattle.std.specs.List.{list_all, list_any}
use Rattle.sp_words.specs.declared.kind.Kind.{Kind}
use Rattle.sp_words.specs.declared.kind.Kind.TheVariants.{Sram, Dram}
use Rattle.sp_words.specs.declared.kind.Style.{Style}
use Rattle.sp_words.specs.declared.kind.Style.TheVariants.{Parallel}
use Rattle.sp_core.specs.declared.access.Meet.{Meet}
use Rattle.sp_core.specs.Declarations.{kind_of, dims, is_stream, is_among}
use Rattle.sp_core.specs.Elements.{row_major}
use Rattle.sp_core.specs.Events.{Act, reads, At, When, in_group_of, in_turn, Event, events_of}
use Rattle.sp_core.specs.Inputs.{EachRun}
use Rattle.sp_core.specs.Numbering.{node_count}
use Rattle.sp_core.specs.PlainCore.{PlainCounter, PlainNode, PlainStages, outer, fsm, branch, no_stage, more_stage, PlainCore}

abbrev pub changes : Act → Bool
changes (reads w) = false
changes _ = true

-- the element that an event touches; a queue and the rows of a line buffer are one each
abbrev pub element : Kind → (dims indices : List ℕ) → ℕ
element Sram dims is = row_major dims is
element Dram dims is = row_major dims is
element _ dims is = 0

-- whether stages may be at work at once: those of a loop, and of a `Parallel` block
abbrev pub is_parallel : Style → Bool
is_parallel Parallel = true
is_parallel _ = false

abbrev pub are_at_once : List PlainCounter → Style → Bool
are_at_once [] style = is_parallel style
are_at_once _ style = true

-- the outers of a part, by the number of its first node: each with its number, whether it is a `Stream` block, whether its
-- stages may be at work at once, and what it owns
pub record Outer : Type 0 where
  pub node : ℕ
  pub stream : Bool
  pub at_once : Bool
  pub owned : List ℕ

abbrev mutual
  pub outers : (number : ℕ) → PlainNode → List Outer
  outers k (outer counters style owned stages) = record { node = k; stream = is_stream style; at_once = are_at_once counters style; owned = owned } ∷ outers_in (suc k) stages
  outers k (fsm start state test body next) = outers (suc k) body
  outers k (branch test first second) = outers (suc k) first ++ outers (suc k + node_count first) second
  outers k _ = []

  pub outers_in : (number : ℕ) → PlainStages → List Outer
  outers_in k no_stage = []
  outers_in k (more_stage first last comb node rest) = outers k node ++ outers_in (k + node_count node) rest

-- when two events are at one controller: in two groups, and stages, of a loop; or in one turn of an FSM or a branch
pub data Together : Type 0 where
  in_loop : (node first second : ℕ) → (one_stage : Bool) → Together
  in_one_turn : Together
  nowhere : Together

abbrev pub is_group : When → When → Bool
is_group (in_group_of g s) (in_group_of i r) = (g == i) && (s == r)
is_group (in_turn t) (in_turn u) = t == u
is_group _ _ = false

abbrev pub together_at : (node : ℕ) → When → When → Together
together_at k (in_group_of g s) (in_group_of i r) = in_loop k g i (s == r)
together_at k (in_turn t) (in_turn u) = if t == u then in_one_turn else nowhere
together_at k _ _ = nowhere

-- whether two paths go on at one controller
abbrev pub go_on : List At → List At → Bool
go_on (a ∷ p) (b ∷ q) = a.node == b.node
go_on _ _ = false

module _ (core : PlainCore) where
  abbrev pub is_in_stream : (node : ℕ) → Bool
  is_in_stream k = list_any (λ (o : Outer). (o.node == k) && o.stream) (outers 0 core.root)

  -- the innermost controller that is around both, where all around it are in one group or turn and none of these and of it
  -- is a `Stream` block
  abbrev pub together : List At → List At → Together
  together (a ∷ p) (b ∷ q) =
      if (a.node == b.node) && not (is_in_stream a.node)
      then (if go_on p q then (if is_group a.when b.when then together p q else nowhere) else together_at a.node a.when b.when)
      else nowhere
  together _ _ = nowhere

  abbrev pub owns : (node mem : ℕ) → Bool
  owns k m = list_any (λ (o : Outer). (o.node == k) && is_among m o.owned) (outers 0 core.root)

  abbrev pub is_one_element : Event → Event → Bool
  is_one_element e f = element (kind_of core e.mem) (dims core e.mem) e.indices == element (kind_of core f.mem) (dims core f.mem) f.indices

  -- a memory on the chip has one write port, which two stages share that may be at work at once
  abbrev pub is_at_once : (node : ℕ) → Bool
  is_at_once k = list_any (λ (o : Outer). (o.node == k) && o.at_once) (outers 0 core.root)

  abbrev pub share_port : Event → (node : ℕ) → (one_stage : Bool) → Bool
  share_port e node one_stage = (not one_stage && is_at_once node) && nat_lt e.mem (length core.mems)

  module _ (meets : List Meet) where
    -- two accesses stand in the meets at no greater distance than these groups; a least distance of 0 is 1 for one that
    -- doesn't stand before the other
    abbrev pub least_of : Meet → ℕ
    least_of meet = if (meet.least == 0) && nat_le meet.second meet.first then 1 else meet.least

    abbrev pub stand : (first second groups : ℕ) → Bool
    stand a b k = list_any (λ (m : Meet). ((m.first == a) && (m.second == b)) && nat_le (least_of m) k) meets

    -- what happens within one transfer is no meet
    abbrev pub stand_apart : Event → Event → (groups : ℕ) → Bool
    stand_apart e f k = ((e.number == f.number) && (k == 0)) || stand e.number f.number k

    -- two events at one memory, one of which changes it: in a loop that owns it they have a copy for each group
    abbrev pub do_stand : Event → Event → Together → Bool
    do_stand e f (in_loop node g i one_stage) =
        ((owns node e.mem && not (g == i)) || (not (is_one_element e f) && not (share_port e node one_stage))) || stand_apart e f (i - g)
    do_stand e f in_one_turn = not (is_one_element e f) || stand_apart e f 0
    do_stand e f nowhere = true

    abbrev pub is_met : Event → Event → Bool
    is_met e f = (not (e.mem == f.mem) || not (changes e.act || changes f.act)) || do_stand e f (together e.standing.path f.standing.path)

    -- of each two, the first one in the order of the text
    abbrev pub are_met : List Event → Bool
    are_met [] = true
    are_met (e ∷ events) = list_all (is_met e) events && are_met events

    abbrev pub MeetsHold : Type 0
    MeetsHold = EachRun core (λ s moments. are_met (events_of moments))
