-- Nodes are right where each of them keeps its own rules, and memories are owned once.
use Rattle.std.proofs.Common.{◌≡◌, ℕ, true, not, ◌&&◌, List, [], ◌∷◌, ◌++◌, refl, sym, subst, append_assoc, nat_lt}
use Rattle.std.proofs.lemmas.Bool.{and_parts, and_from}
use Rattle.std.specs.Prelude.{length, IsTrue}
use Rattle.sp_core.specs.Around.{Around, within, is_port_kind}
use Rattle.sp_core.specs.Declarations.{mem, is_among}
use Rattle.sp_core.specs.Invariant.{owned_in, owned_in_stages, IsRight, AreRight}
use Rattle.sp_core.specs.NodeRules.{with_state, is_owned_once, is_node_right}
use Rattle.sp_core.specs.PlainCore.{PlainNode, PlainStages, inner, outer, fsm, branch, load, store, sparse, no_stage, more_stage, PlainCore}

pub append_none : (xs : List ℕ) → xs ++ [] ≡ xs
append_none [] = refl
append_none (x ∷ xs) = step x xs (append_none xs)
  where
    step : (x : ℕ) (xs : List ℕ) → xs ++ [] ≡ xs → x ∷ (xs ++ []) ≡ x ∷ xs
    step x xs e = subst (λ l. x ∷ (xs ++ []) ≡ x ∷ l) e refl

module _ (core : PlainCore) where
  abbrev mutual
    pub NodesRight : Around → PlainNode → Type 0
    NodesRight around (outer counters style owned stages) = IsTrue (is_node_right core around (outer counters style owned stages)) × StagesRight (within around counters owned) stages
    NodesRight around (fsm start state test body next) = IsTrue (is_node_right core around (fsm start state test body next)) × NodesRight (with_state core around state) body
    NodesRight around (branch test first second) = IsTrue (is_node_right core around (branch test first second)) × NodesRight around first × NodesRight around second
    NodesRight around node = IsTrue (is_node_right core around node)

    pub StagesRight : Around → PlainStages → Type 0
    StagesRight around no_stage = Unit {0}
    StagesRight around (more_stage first last comb node rest) = NodesRight around node × StagesRight around rest

  split_once : (earlier xs ys : List ℕ) → is_owned_once core earlier (xs ++ ys) ≡ true → (is_owned_once core earlier xs ≡ true) × (is_owned_once core (earlier ++ xs) ys ≡ true)
  split_once earlier [] ys e = (refl, subst (λ l. is_owned_once core l ys ≡ true) (sym (append_none earlier)) e)
  split_once earlier (m ∷ xs) ys e =
      let a = and_parts ((nat_lt m (length core.mems) && not (is_port_kind (mem core m).kind)) && not (is_among m earlier)) (is_owned_once core (earlier ++ m ∷ []) (xs ++ ys)) e in
      let r = split_once (earlier ++ m ∷ []) xs ys a.1 in
      (and_from _ _ a.0 r.0, subst (λ l. is_owned_once core l ys ≡ true) (append_assoc earlier (m ∷ []) xs) r.1)

  mutual
    pub right_from : (node : PlainNode) (around : Around) (earlier : List ℕ) → NodesRight around node → is_owned_once core earlier (owned_in node) ≡ true → IsRight core around earlier node
    right_from (inner counters owned ops comb) around earlier r o = and_from _ _ r o
    right_from (outer counters style owned stages) around earlier r o =
        let s = split_once earlier owned (owned_in_stages stages) o in
        (and_from _ _ r.0 s.0, all_from stages (within around counters owned) (earlier ++ owned) r.1 s.1)
    right_from (fsm start state test body next) around earlier r o =
        let s = split_once earlier (state ∷ []) (owned_in body) o in
        (and_from _ _ r.0 s.0, right_from body (with_state core around state) (earlier ++ state ∷ []) r.1 s.1)
    right_from (branch test first second) around earlier r o =
        let s = split_once earlier (owned_in first) (owned_in second) o in
        (and_from _ _ r.0 refl, right_from first around earlier r.1 s.0, right_from second around (earlier ++ owned_in first) r.2 s.1)
    right_from (load d m spans) around earlier r o = and_from _ _ r refl
    right_from (store d m spans) around earlier r o = and_from _ _ r refl
    right_from (sparse kind d m index spans count par) around earlier r o = and_from _ _ r refl

    all_from : (stages : PlainStages) (around : Around) (earlier : List ℕ) → StagesRight around stages → is_owned_once core earlier (owned_in_stages stages) ≡ true → AreRight core around earlier stages
    all_from no_stage around earlier r o = tt
    all_from (more_stage first last comb node rest) around earlier r o =
        let s = split_once earlier (owned_in node) (owned_in_stages rest) o in
        (right_from node around earlier r.0 s.0, all_from rest around (earlier ++ owned_in node) r.1 s.1)
