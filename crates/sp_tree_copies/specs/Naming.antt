-- Which nets have the numbers of copies in the circuit of a tree. Of an operation it is the net of its memory's copy, by what stands around
-- its list, and of a load or a store that of its memory on the chip, by what stands around the transfer: inside of a loop the memories that it owns are in the copies
-- of the group that the stage's slot has, and all others in those around. An FSM keeps its state in the copy around it, and a loop makes a memory fresh in the copy of the group that comes to the first
-- slot that uses it.
use Rattle.std.specs.Prelude.{◌≡◌, ℕ, suc, ◌+◌, ◌<◌, ◌≤◌, List, [], ◌∷◌, ◌++◌, length, map, slice_index, Option, Some, None}
use Rattle.sp_netlist.specs.declared.parts.Child.{Child}
use Rattle.sp_netlist.specs.Signals.{Signals}
use Rattle.sp_core.specs.Around.{Near}
use Rattle.sp_core.specs.Numbering.{node_count}
use Rattle.sp_core.specs.PlainCore.{PlainOp, PlainCounter, PlainSpan, single, range, PlainNode, PlainStages, inner, outer, fsm, branch, load, store, sparse, no_stage, more_stage, PlainCore}
use Rattle.sp_plan.specs.PlainPlan.{PlainPlan, mem_plan, node_plan}
use Rattle.sp_time.specs.Beats.{slot_at}
use Rattle.sp_machine.specs.Timeline.{slots_of}
use Rattle.sp_node_runs.specs.BodiesGiven.{Nets}
use Rattle.sp_node_runs.specs.BodiesLaws.{own_near}
use Rattle.sp_tree_circuits.specs.Circuits.{slot_nets, Circuit, StageCircuits}
use Rattle.sp_tree_events.specs.CopiesStanding.{CopyNets, no_numbers, with_numbers, HaveNumbers}
use Rattle.sp_copy_nets.specs.Numbers.{HaveComing}
use Rattle.sp_tree_handed.specs.declared.owners.Keeping.{Keeping}
use Rattle.sp_tree_handed.specs.declared.owners.LoopTurns.{LoopTurns}
use Rattle.sp_tree_handed.specs.declared.owners.Renewal.{Renewal}
use Rattle.sp_tree_handed.specs.Owners.{first_use, renewal, keeping, AreTurns}

-- by a plan each memory of the core has a copy
abbrev pub HaveCopies : PlainCore → PlainPlan → Type 0
HaveCopies core plan = (m : ℕ) → m < length core.mems → 1 ≤ (mem_plan plan m).depth

-- the net of the copy of an operation's memory
abbrev pub name_of : CopyNets → Option ℕ → Option ℕ
name_of around None = None
name_of around (Some m) = around m

-- operation by operation
abbrev pub names_of : CopyNets → List PlainOp → List (Option ℕ)
names_of around [] = []
names_of around (op ∷ ops) = name_of around op.mem ∷ names_of around ops

abbrev pub bound_names : CopyNets → List PlainCounter → List (Option ℕ)
bound_names around [] = []
bound_names around (c ∷ counters) = names_of around c.from ++ (names_of around c.until ++ bound_names around counters)

-- of spans those of the operations of their ends
abbrev pub span_names : CopyNets → List PlainSpan → List (Option ℕ)
span_names around [] = []
span_names around (single ops ∷ spans) = names_of around ops ++ span_names around spans
span_names around (range a b ∷ spans) = names_of around a ++ (names_of around b ++ span_names around spans)

-- a transfer has its number behind those of its spans' operations
abbrev pub transfer_names : CopyNets → (mem : ℕ) → List PlainSpan → List (Option ℕ)
transfer_names around m spans = span_names around spans ++ around m ∷ []

-- the memories that a loop owns have numbers for each of its slots, and others in the cycles in which a slot gets a group
pub record LoopNumbers (plan : PlainPlan) (s : Signals) (start : ℕ) (firsts owned : List ℕ) : Type 0 where
  pub numbers : (slot : ℕ) → CopyNets
  pub coming : (slot : ℕ) → CopyNets
  pub stand : (x : ℕ) → x < length firsts → HaveNumbers plan s start (slice_index firsts x) owned (numbers x)
  pub come : (x : ℕ) → x < length firsts → HaveComing plan s start (slice_index firsts x) owned (coming x)

-- a loop's own: each memory that it owns by the first slot that uses it
abbrev pub renewed_by : (first_by : (mem : ℕ) → ℕ) → (firsts : List ℕ) → (coming : (slot : ℕ) → CopyNets) → (owned : List ℕ) → List Renewal
renewed_by first_by firsts coming owned = map (λ m. renewal m (slice_index firsts (first_by m)) (coming (first_by m) m)) owned

-- what is said of the operations of a part, in the order of their numbers, and of its owners
abbrev pub Said : Type 1
Said = List (Option ℕ) → List Renewal → List Keeping → Type 0

-- behind some operations those of one part, and then those of the other
pub record OfBoth (before : List (Option ℕ)) (One Other : Said) (names : List (Option ℕ)) (renewed : List Renewal) (kept : List Keeping) : Type 0 where
  pub one_names : List (Option ℕ)
  pub other_names : List (Option ℕ)
  pub one_renewed : List Renewal
  pub other_renewed : List Renewal
  pub one_kept : List Keeping
  pub other_kept : List Keeping
  pub names_are : names ≡ before ++ (one_names ++ other_names)
  pub renewed_are : renewed ≡ one_renewed ++ other_renewed
  pub kept_are : kept ≡ one_kept ++ other_kept
  pub first : One one_names one_renewed one_kept
  pub second : Other other_names other_renewed other_kept

-- of an FSM its body's stand between its own
pub record OfMachine (start test next : List (Option ℕ)) (own : List Keeping) (Body : Said) (names : List (Option ℕ)) (renewed : List Renewal) (kept : List Keeping) : Type 0 where
  pub inside : List (Option ℕ)
  pub rest : List Keeping
  pub names_are : names ≡ start ++ (test ++ (inside ++ next))
  pub kept_are : kept ≡ own ++ rest
  pub body : Body inside renewed rest

-- of a loop those of its bounds and its own renewals, and then those of its stages, by the numbers that its slots have
pub record OfLoop (plan : PlainPlan) (s : Signals) (start : ℕ) (firsts owned : List ℕ) (first_by : (mem : ℕ) → ℕ) (bounds : List (Option ℕ)) (Stages : (numbers : (slot : ℕ) → CopyNets) → Said) (names : List (Option ℕ)) (renewed : List Renewal) (kept : List Keeping) : Type 0 where
  pub loop : LoopNumbers plan s start firsts owned
  pub inside : List (Option ℕ)
  pub rest : List Renewal
  pub names_are : names ≡ bounds ++ inside
  pub renewed_are : renewed ≡ renewed_by first_by firsts loop.coming owned ++ rest
  pub stages : Stages loop.numbers inside rest kept

abbrev pub OfNone : (own : List (Option ℕ)) → Said
OfNone own names renewed kept = (names ≡ own) × (renewed ≡ []) × (kept ≡ [])

-- In a run: the nets by which the operations of a part name the copies of their memories, and its owners with the nets of theirs, by those
-- that stand around the part. Of transfers loads and stores are named.
module _ (core : PlainCore) (plan : PlainPlan) (s : Signals) where
  abbrev mutual
    pub AreNamed : (node : PlainNode) (near : List Near) (env : Nets) (k : ℕ) (c : Child) → Circuit core plan s node near env k c → (around : CopyNets) → Said
    AreNamed (branch ops first second) near env k c w around names renewed kept =
        OfBoth (names_of around ops) (AreNamed first near env (suc k) w.chosen w.one around) (AreNamed second near env (suc k + node_count first) w.left w.other around) names renewed kept
    AreNamed (fsm start state ops node after) near env k c w around names renewed kept =
        OfMachine (names_of around start) (names_of around ops) (names_of around after) (keeping state w.first.done w.begun (around state) ∷ keeping state w.next.done w.stepped (around state) ∷ [])
        (AreNamed node near env (suc k) w.body w.goes around) names renewed kept
    AreNamed (outer counters style owned stages) near env k c w around names renewed kept =
        OfLoop plan s c.start w.firsts owned (first_use core (node_plan plan k) stages) (bound_names around counters)
        (λ numbers. StagesNamed stages (own_near counters near) (suc k) 0 (λ i. slot_nets w.nets w.rows env counters (slot_at (slots_of (node_plan plan k)) i).slot) w.child w.parts
        (λ i. with_numbers around owned (numbers (slot_at (slots_of (node_plan plan k)) i).slot))) names renewed kept
    AreNamed (inner counters owned ops comb) near env k c w around names renewed kept = OfNone (bound_names around counters ++ names_of around ops) names renewed kept
    AreNamed (load r m spans) near env k c w around names renewed kept = OfNone (transfer_names around m spans) names renewed kept
    AreNamed (store r m spans) near env k c w around names renewed kept = OfNone (transfer_names around m spans) names renewed kept
    AreNamed (sparse kind r m places spans count par) near env k c w around names renewed kept = ⊥

    pub StagesNamed : (stages : PlainStages) (near : List Near) (j i : ℕ) (nets : (stage : ℕ) → Nets) (child : (stage : ℕ) → Child) → StageCircuits core plan s stages near j i nets child → (around : (stage : ℕ) → CopyNets) → Said
    StagesNamed no_stage near j i nets child w around names renewed kept = OfNone [] names renewed kept
    StagesNamed (more_stage first last comb node rest) near j i nets child w around names renewed kept =
        OfBoth [] (AreNamed node near (nets i) j (child i) w.0 (around i)) (StagesNamed rest near (j + node_count node) (suc i) nets child w.1 around) names renewed kept

-- so it is with each circuit of the core's whole tree that turns and keeps states so
abbrev pub NamesCore : PlainCore → PlainPlan → Signals → List LoopTurns → (handed : List Keeping) → (names : List (Option ℕ)) → List Renewal → List Keeping → Type 0
NamesCore core plan s turns handed names renewed kept =
    HaveCopies core plan → (env : Nets) (c : Child) (w : Circuit core plan s core.root [] env 0 c) → AreTurns core plan s core.root [] env 0 c w turns handed → AreNamed core plan s core.root [] env 0 c w no_numbers names renewed kept
