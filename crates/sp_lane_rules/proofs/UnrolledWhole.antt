-- A whole core in lanes keeps the rules of cores.
use Rattle.std.proofs.Common.{◌≡◌, ℕ, ◌+◌, ◌*◌, ◌≤◌, true, not, ◌&&◌, List, [], ◌∷◌, ◌++◌, length, refl, sym, subst, arith, nat_lt}
use Rattle.std.proofs.lemmas.Bool.{and_parts, and_from}
use Rattle.std.proofs.lemmas.List.{append_assoc}
use Rattle.std.specs.Prelude.{IsTrue}
use Rattle.sp_core.specs.Around.{Around, nothing, within, is_port_kind}
use Rattle.sp_core.specs.Declarations.{mem, is_among}
use Rattle.sp_core.specs.Invariant.{IsRight, AreRight, have_owners, owned_in, owned_in_stages}
use Rattle.sp_core.specs.MemoryRules.{are_memories_right, are_ports_right}
use Rattle.sp_core.specs.NodeRules.{with_state, is_owned_once, is_node_right}
use Rattle.sp_core.specs.PlainCore.{PlainNode, PlainStages, inner, outer, fsm, branch, load, store, sparse, no_stage, more_stage, PlainCore}
use Rattle.sp_lanes.specs.Order.{memory_order}
use Rattle.sp_lanes.specs.Unrolled.{unrolled}
use Rattle.sp_lanes.specs.Within.{outside}
use Rattle.sp_lane_rules.specs.Copies.{occurrences, copies_in}
use Rattle.sp_lane_rules.proofs.CopiesCounts.{are_counted}
use Rattle.sp_lane_rules.proofs.CopiesMemoryRules.{keep_memory_rules}
use Rattle.sp_lane_rules.specs.UnrolledLaws.{KeepRules}
use Rattle.sp_lane_rules.specs.UnrolledRight.{EachRight, AllRight}
use Rattle.sp_lane_rules.proofs.UnrolledGivens.{append_none}
use Rattle.sp_lane_rules.proofs.UnrolledPlaces.{outside_together}
use Rattle.sp_lane_rules.proofs.UnrolledTree.{node_kept}

module _ (core : PlainCore) where
  -- rules of nodes, with and without what nodes before them own
  mutual
    pub each_right : (node : PlainNode) (around : Around) (earlier : List ℕ) → IsRight core around earlier node → EachRight core around node
    each_right (inner counters owned ops comb) around earlier r = (and_parts (is_node_right core around (inner counters owned ops comb)) (is_owned_once core earlier owned) r).0
    each_right (outer counters style owned stages) around earlier r =
        ((and_parts (is_node_right core around (outer counters style owned stages)) (is_owned_once core earlier owned) r.0).0, all_right stages (within around counters owned) (earlier ++ owned) r.1)
    each_right (fsm start state test body next) around earlier r =
        ((and_parts (is_node_right core around (fsm start state test body next)) (is_owned_once core earlier (state ∷ [])) r.0).0, each_right body (with_state core around state) (earlier ++ state ∷ []) r.1)
    each_right (branch test first second) around earlier r =
        ((and_parts (is_node_right core around (branch test first second)) true r.0).0, each_right first around earlier r.1, each_right second around (earlier ++ owned_in first) r.2)
    each_right (load d m spans) around earlier r = (and_parts (is_node_right core around (load d m spans)) true r).0
    each_right (store d m spans) around earlier r = (and_parts (is_node_right core around (store d m spans)) true r).0
    each_right (sparse kind d m index spans count par) around earlier r = (and_parts (is_node_right core around (sparse kind d m index spans count par)) true r).0

    all_right : (stages : PlainStages) (around : Around) (earlier : List ℕ) → AreRight core around earlier stages → AllRight core around stages
    all_right no_stage around earlier r = tt
    all_right (more_stage first last comb node rest) around earlier r = (each_right node around earlier r.0, all_right rest around (earlier ++ owned_in node) r.1)

  split_once : (earlier xs ys : List ℕ) → is_owned_once core earlier (xs ++ ys) ≡ true → (is_owned_once core earlier xs ≡ true) × (is_owned_once core (earlier ++ xs) ys ≡ true)
  split_once earlier [] ys e = (refl, subst (λ l. is_owned_once core l ys ≡ true) (sym (append_none earlier)) e)
  split_once earlier (m ∷ xs) ys e =
      let a = and_parts ((nat_lt m (length core.mems) && not (is_port_kind (mem core m).kind)) && not (is_among m earlier)) (is_owned_once core (earlier ++ m ∷ []) (xs ++ ys)) e in
      let r = split_once (earlier ++ m ∷ []) xs ys a.1 in
      (and_from _ _ a.0 r.0, subst (λ l. is_owned_once core l ys ≡ true) (append_assoc earlier (m ∷ []) xs) r.1)

  mutual
    pub right_from : (node : PlainNode) (around : Around) (earlier : List ℕ) → EachRight core around node → is_owned_once core earlier (owned_in node) ≡ true → IsRight core around earlier node
    right_from (inner counters owned ops comb) around earlier r o = and_from _ _ r o
    right_from (outer counters style owned stages) around earlier r o =
        let s = split_once earlier owned (owned_in_stages stages) o in
        (and_from _ _ r.0 s.0, all_from stages (within around counters owned) (earlier ++ owned) r.1 s.1)
    right_from (fsm start state test body next) around earlier r o =
        let s = split_once earlier (state ∷ []) (owned_in body) o in
        (and_from _ _ r.0 s.0, right_from body (with_state core around state) (earlier ++ state ∷ []) r.1 s.1)
    right_from (branch test first second) around earlier r o =
        let s = split_once earlier (owned_in first) (owned_in second) o in
        (and_from _ _ r.0 refl, right_from first around earlier r.1 s.0, right_from second around (earlier ++ owned_in first) r.2 s.1)
    right_from (load d m spans) around earlier r o = and_from _ _ r refl
    right_from (store d m spans) around earlier r o = and_from _ _ r refl
    right_from (sparse kind d m index spans count par) around earlier r o = and_from _ _ r refl

    all_from : (stages : PlainStages) (around : Around) (earlier : List ℕ) → AllRight core around stages → is_owned_once core earlier (owned_in_stages stages) ≡ true → AreRight core around earlier stages
    all_from no_stage around earlier r o = tt
    all_from (more_stage first last comb node rest) around earlier r o =
        let s = split_once earlier (owned_in node) (owned_in_stages rest) o in
        (right_from node around earlier r.0 s.0, all_from rest around (earlier ++ owned_in node) r.1 s.1)

pub keep_rules : (core : PlainCore) → KeepRules core
unfolding unrolled
keep_rules core h lanes written one small = record {
  memories = memories.0;
  ports = memories.1;
  owners = memories.2;
  size = small;
  nodes = right_from (unrolled core) (unrolled core).root nothing [] (node_kept core core.root nothing nothing (outside (memory_order core)) (outside_together core) fits one (each_right core core.root nothing [] h.nodes)) memories.3;
}
  where
    memories : IsTrue (are_memories_right (unrolled core)) × IsTrue (are_ports_right (unrolled core)) × IsTrue (have_owners (unrolled core)) × (is_owned_once (unrolled core) [] (owned_in (unrolled core).root) ≡ true)
    memories = keep_memory_rules core h lanes written

    fits : (n : ℕ) → (0 + 1) * copies_in core.root n ≤ occurrences n (memory_order core)
    fits n = omega (arith, are_counted core n)
