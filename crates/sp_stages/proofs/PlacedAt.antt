-- Each outer body of a core has its stages in their lanes.
use Rattle.std.proofs.Common.{◌≡◌, ℕ, zero, suc, ◌+◌, ◌-◌, nat_lt, Bool, true, false, cond, List, [], ◌∷◌, ◌++◌, length, Option, Some, refl, subst}
use Rattle.sp_core.specs.Around.{Around, lanes_of, within}
use Rattle.sp_core.specs.Declarations.{is_stream}
use Rattle.sp_core.specs.Invariant.{IsRight, AreRight, IsCore, owned_in}
use Rattle.sp_core.specs.NodeRules.{with_state, is_node_right, are_counters_right, are_lanes_right}
use Rattle.sp_core.specs.Numbering.{node_count, counters_size, number_count}
use Rattle.sp_core.specs.PlainCore.{PlainCounter, PlainNode, PlainStages, inner, outer, fsm, branch, load, store, sparse, no_stage, more_stage, PlainCore}
use Rattle.sp_plan.specs.Nodes.{Site, site_at, stage_site_at}
use Rattle.sp_plan.specs.Slots.{runs_of}
use Rattle.sp_stages.specs.Divided.{runs_at, runs_in, runs_of_node}
use Rattle.sp_stages.specs.Finest.{are_in_place}
use Rattle.sp_stages.proofs.Below.{and_parts}
use Rattle.sp_stages.proofs.InPlace.{lanes_in_place}
use Rattle.sp_words.specs.declared.kind.Style.{Style}

abbrev IsPlaced : Option Site → Type 0
IsPlaced site = are_in_place (runs_at site) ≡ true

either : (b : Bool) (x y : Option Site) → IsPlaced x → IsPlaced y → IsPlaced (cond b x y)
either true x y a b = a
either false x y a b = b

module _ (core : PlainCore) where
  lanes_right : (around : Around) (earlier : List ℕ) (counters : List PlainCounter) (style : Style) (owned : List ℕ) (stages : PlainStages) → IsRight core around earlier (outer counters style owned stages) → are_lanes_right (lanes_of counters) stages ≡ true
  lanes_right around earlier counters style owned stages h =
      (and_parts (are_counters_right core around counters) _ (and_parts (is_node_right core around (outer counters style owned stages)) _ h.0).0).1

  here : (n : ℕ) (around : Around) (earlier : List ℕ) (node : PlainNode) → IsRight core around earlier node → are_in_place (runs_in n node) ≡ true
  here n around earlier (inner counters owned ops comb) h = refl
  here n around earlier (outer counters style owned stages) h = lanes_in_place (lanes_of counters) (n + counters_size counters) stages (lanes_right around earlier counters style owned stages h)
  here n around earlier (fsm start state test body next) h = refl
  here n around earlier (branch test first second) h = refl
  here n around earlier (load r m spans) h = refl
  here n around earlier (store r m spans) h = refl
  here n around earlier (sparse kind r m index spans count par) h = refl

  mutual
    placed_in : (k n : ℕ) (streamed : Bool) (around : Around) (earlier : List ℕ) (node : PlainNode) → IsRight core around earlier node → IsPlaced (site_at k n streamed node)
    placed_in zero n st around earlier node h = here n around earlier node h
    placed_in (suc k) n st around earlier (outer counters style owned stages) h = placed_stages k (n + counters_size counters) (is_stream style) (within around counters owned) (earlier ++ owned) stages h.1
    placed_in (suc k) n st around earlier (fsm start state test body next) h = placed_in k (n + (length start + length test)) false (with_state core around state) (earlier ++ state ∷ []) body h.1
    placed_in (suc k) n st around earlier (branch test first second) h =
        either (nat_lt k (node_count first)) _ _ (placed_in k (n + length test) false around earlier first h.1)
        (placed_in (k - node_count first) ((n + length test) + number_count first) false around (earlier ++ owned_in first) second h.2)
    placed_in (suc k) n st around earlier (inner counters owned ops comb) h = refl
    placed_in (suc k) n st around earlier (load r m spans) h = refl
    placed_in (suc k) n st around earlier (store r m spans) h = refl
    placed_in (suc k) n st around earlier (sparse kind r m index spans count par) h = refl

    placed_stages : (k n : ℕ) (streamed : Bool) (around : Around) (earlier : List ℕ) (stages : PlainStages) → AreRight core around earlier stages → IsPlaced (stage_site_at k n streamed stages)
    placed_stages k n st around earlier no_stage h = refl
    placed_stages k n st around earlier (more_stage first last comb node rest) h =
        either (nat_lt k (node_count node)) _ _ (placed_in k n st around earlier node h.0)
        (placed_stages (k - node_count node) (n + number_count node) st around (earlier ++ owned_in node) rest h.1)

  pub placed : IsCore core → (k : ℕ) → are_in_place (runs_of_node core k) ≡ true
  placed h k = placed_in k 0 false (record { counters = []; owned = [] }) [] core.root h.nodes

  -- at a site
  pub placed_at : IsCore core → (k : ℕ) (s : Site) (counters : List PlainCounter) (style : Style) (owned : List ℕ) (stages : PlainStages) → site_at k 0 false core.root ≡ Some s → s.node ≡ outer counters style owned stages
      → are_in_place (runs_of (s.number + counters_size counters) stages) ≡ true
  placed_at h k s counters style owned stages at is =
      subst (λ node. are_in_place (runs_in s.number node) ≡ true) is (subst IsPlaced at (placed h k))
