-- What holds of every core, and the first node that breaks a rule.
use Rattle.std.specs.Prelude.{◌≡◌, ◌↔◌, ℕ, ◌+◌, ◌^◌, Bool, true, false, ◌&&◌, ◌||◌, nat_lt, IsTrue, List, [], ◌∷◌, ◌++◌, length, Option, Some, None}
use Rattle.std.specs.List.{list_all}
use Rattle.sp_core.specs.Around.{Around, nothing, within, is_port_kind}
use Rattle.sp_core.specs.Declarations.{mem, is_among}
use Rattle.sp_core.specs.Elements.{numbers_below}
use Rattle.sp_core.specs.MemoryRules.{are_memories_right, are_ports_right}
use Rattle.sp_core.specs.NodeRules.{with_state, is_owned_once, owned_by, is_node_right}
use Rattle.sp_core.specs.Numbering.{node_count, core_size}
use Rattle.sp_core.specs.PlainCore.{PlainNode, PlainStages, inner, outer, fsm, branch, no_stage, more_stage, PlainCore}

-- the memories that the nodes of a part own, in preorder
abbrev mutual
  pub owned_in : PlainNode → List ℕ
  owned_in (inner counters owned ops comb) = owned
  owned_in (outer counters style owned stages) = owned ++ owned_in_stages stages
  owned_in (fsm start state test body next) = state ∷ owned_in body
  owned_in (branch test first second) = owned_in first ++ owned_in second
  owned_in _ = []

  pub owned_in_stages : PlainStages → List ℕ
  owned_in_stages no_stage = []
  owned_in_stages (more_stage first last comb node rest) = owned_in node ++ owned_in_stages rest

module _ (core : PlainCore) where
  -- a node keeps its rules, by what stands around it and the memories that nodes before it own
  abbrev pub is_right_here : Around → (earlier : List ℕ) → PlainNode → Bool
  is_right_here around earlier node = is_node_right core around node && is_owned_once core earlier (owned_by core node)

  -- so does each node of a part
  abbrev mutual
    pub IsRight : Around → (earlier : List ℕ) → PlainNode → Type 0
    IsRight around earlier (outer counters style owned stages) =
        IsTrue (is_right_here around earlier (outer counters style owned stages)) × AreRight (within around counters owned) (earlier ++ owned) stages
    IsRight around earlier (fsm start state test body next) =
        IsTrue (is_right_here around earlier (fsm start state test body next)) × IsRight (with_state core around state) (earlier ++ state ∷ []) body
    IsRight around earlier (branch test first second) =
        IsTrue (is_right_here around earlier (branch test first second)) × IsRight around earlier first × IsRight around (earlier ++ owned_in first) second
    IsRight around earlier node = IsTrue (is_right_here around earlier node)

    pub AreRight : Around → (earlier : List ℕ) → PlainStages → Type 0
    AreRight around earlier no_stage = Unit {0}
    AreRight around earlier (more_stage first last comb node rest) = IsRight around earlier node × AreRight around (earlier ++ owned_in node) rest

-- each memory but arguments and outputs has an owner
abbrev pub has_owner : PlainCore → ℕ → Bool
has_owner core m = is_port_kind (mem core m).kind || is_among m (owned_in core.root)

abbrev pub have_owners : PlainCore → Bool
have_owners core = list_all (has_owner core) (numbers_below (length core.mems))

-- all this is less than what a number may be
abbrev pub is_small : PlainCore → Bool
is_small core = nat_lt (core_size core) (2 ^ 29)

pub record IsCore (core : PlainCore) : Type 0 where
  pub memories : IsTrue (are_memories_right core)
  pub ports : IsTrue (are_ports_right core)
  pub owners : IsTrue (have_owners core)
  pub size : IsTrue (is_small core)
  pub nodes : IsRight core nothing [] core.root

-- the number if the test fails; else what another part gives
abbrev pub unless : Bool → (number : ℕ) → Option ℕ → Option ℕ
unless true number rest = rest
unless false number rest = Some number

-- the first of two that is there
abbrev pub or_else : Option ℕ → Option ℕ → Option ℕ
or_else (Some n) rest = Some n
or_else None rest = rest

-- the first node of a part, in preorder, that doesn't keep its rules, by the number of the part's first node
module _ (core : PlainCore) where
  abbrev mutual
    pub wrong_node : Around → (earlier : List ℕ) → (number : ℕ) → PlainNode → Option ℕ
    wrong_node around earlier n (outer counters style owned stages) =
        unless (is_right_here core around earlier (outer counters style owned stages)) n (wrong_stage (within around counters owned) (earlier ++ owned) (n + 1) stages)
    wrong_node around earlier n (fsm start state test body next) =
        unless (is_right_here core around earlier (fsm start state test body next)) n (wrong_node (with_state core around state) (earlier ++ state ∷ []) (n + 1) body)
    wrong_node around earlier n (branch test first second) =
        unless (is_right_here core around earlier (branch test first second)) n
        (or_else (wrong_node around earlier (n + 1) first) (wrong_node around (earlier ++ owned_in first) (n + 1 + node_count first) second))
    wrong_node around earlier n node = unless (is_right_here core around earlier node) n None

    pub wrong_stage : Around → (earlier : List ℕ) → (number : ℕ) → PlainStages → Option ℕ
    wrong_stage around earlier n no_stage = None
    wrong_stage around earlier n (more_stage first last comb node rest) =
        or_else (wrong_node around earlier n node) (wrong_stage around (earlier ++ owned_in node) (n + node_count node) rest)

-- the first node that shows that a core isn't right: the root where the memories, the ports or the size are wrong by
-- themselves
abbrev pub are_declarations_right : PlainCore → Bool
are_declarations_right core = (are_memories_right core && are_ports_right core) && (have_owners core && is_small core)

abbrev pub wrong_place : PlainCore → Option ℕ
wrong_place core = unless (are_declarations_right core) 0 (wrong_node core nothing [] 0 core.root)

-- no node does exactly where all rules are kept
abbrev pub IsShown : PlainCore → Type 0
IsShown core = (wrong_place core ≡ None) ↔ IsCore core
