-- Graphs without edges, and with one edge more.
use Rattle.std.proofs.Common.{◌≡◌, ℕ, ◌<◌, ◌++◌, ◌∷◌, [], ◌⊎◌, List, length, replicate, set, get_or, Contains, Result, Ok, Err, OnErr, map, subst, sym, ap, ◌∙◌, inl, inr, arith}
use Rattle.std.proofs.lemmas.Bool.{cases_eq, cases_lt}
use Rattle.std.proofs.lemmas.List.{length-set, length-replicate, get_or-replicate, get_or-set_same, get_or-set_other, get_or_past, length-map, get_or-map, map-set, set-get_or}
use Rattle.std.proofs.lemmas.List.Elements.{Contains-push_cases, Contains-get_or}
use Rattle.std.proofs.lemmas.Option.{unwrap_or-slice_get}
use Rattle.sp_graph.specs.Edges.{targets_of, IsEdge, IsGraph}

-- the targets of a node are the list at its place
pub targets_of-get_or : (graph : List (List ℕ)) (node : ℕ) → targets_of graph node ≡ get_or graph node []
targets_of-get_or graph node = unwrap_or-slice_get graph node []

-- nothing stands in an empty list
pub none_in_empty : (x : ℕ) → Contains [] x → ⊥
none_in_empty x c = omega (arith, c.1)

no_targets : (nodes node : ℕ) → get_or (replicate {A = List ℕ} nodes []) node [] ≡ []
no_targets nodes node =
    elim (cases_lt node nodes) [
      | inl h ↦ get_or-replicate nodes node [] [] h
      | inr h ↦ get_or_past (replicate nodes []) node [] (simp length-replicate h)
    ]

pub IsGraph-replicate : (nodes : ℕ) → IsGraph (replicate nodes [])
IsGraph-replicate nodes = record {
  leads_to_node = λ from to edge.
      absurd (none_in_empty to (rw (targets_of-get_or, no_targets) at edge));
}

module _ (graph : List (List ℕ)) (from to : ℕ) (inside : from < length graph) where
  -- the edges after one is added: those before, and the one
  pub edge_cases : (a b : ℕ) → IsEdge (set graph from (targets_of graph from ++ to ∷ [])) a b → IsEdge graph a b ⊎ ((a ≡ from) × (b ≡ to))
  edge_cases a b edge =
      elim (cases_eq a from) [
        | inl e ↦
            let new : Contains (targets_of graph from ++ to ∷ []) b =
            subst (λ ts. Contains ts b) (targets_of-get_or _ a ∙ ap (λ k. get_or (set graph from (targets_of graph from ++ to ∷ [])) k []) e ∙ get_or-set_same graph from _ [] inside) edge
            in elim (Contains-push_cases (targets_of graph from) to b new) [
              | inl old ↦ inl (subst (λ k. IsEdge graph k b) (sym e) old)
              | inr same ↦ inr (e, sym same)
            ]
        | inr ne ↦
            inl (subst (λ ts. Contains ts b) (targets_of-get_or _ a ∙ get_or-set_other graph from a _ [] ne ∙ sym (targets_of-get_or graph a)) edge)
      ]

  pub IsGraph-add : to < length graph → IsGraph graph → IsGraph (set graph from (targets_of graph from ++ to ∷ []))
  IsGraph-add node good = record {
    leads_to_node = λ a b edge. rw length-set (elim (edge_cases a b edge) [
      | inl old ↦ good.leads_to_node a b old
      | inr new ↦ subst (λ k. k < length graph) (sym new.1) node
    ]);
  }

-- the targets of a node, read from the list, are nodes
pub All-targets : (graph : List (List ℕ)) (node : ℕ) (targets : List ℕ) → IsGraph graph → targets ≡ targets_of graph node → (k d : ℕ) → k < length targets → get_or targets k d < length graph
All-targets graph node targets good e k d h =
    good.leads_to_node node _ (subst (λ ts. Contains ts (get_or targets k d)) e (Contains-get_or targets k d h))

-- a list that is kept in another form, after the list of one node was changed there
module _ {V : Type 0} (f : V → List ℕ) (vs : List V) (graph : List (List ℕ)) (view : map f vs ≡ graph) (i : ℕ) (old : V) (inside : i < length graph) (read : old ≡ get_or vs i old) where
  within : i < length vs
  within = subst (λ n. i < n) (sym (ap length view) ∙ length-map vs f) inside

  pub targets_of-read : f old ≡ targets_of graph i
  targets_of-read = ap f read ∙ sym (get_or-map f vs i old [] within) ∙ ap (λ g. get_or g i []) view ∙ sym (targets_of-get_or graph i)

  pub map-set_same : (new : V) → f new ≡ f old → map f (set vs i new) ≡ graph
  map-set_same new e =
      map-set f vs i new ∙ ap (λ ts. set (map f vs) i ts) (e ∙ targets_of-read ∙ targets_of-get_or graph i) ∙ ap (λ g. set g i (get_or graph i [])) view ∙ set-get_or graph i []

  pub map-set_push : (new : V) (to : ℕ) → f new ≡ f old ++ to ∷ [] → map f (set vs i new) ≡ set graph i (targets_of graph i ++ to ∷ [])
  map-set_push new to e =
      map-set f vs i new ∙ ap (λ ts. set (map f vs) i ts) (e ∙ ap (λ ts. ts ++ to ∷ []) targets_of-read) ∙ ap (λ g. set g i (targets_of graph i ++ to ∷ [])) view

-- a fact, as a clause on an error
pub OnErr-from : {T E P : Type 0} (r : Result T E) → P → OnErr r P
OnErr-from (Ok _) p = tt
OnErr-from (Err _) p = p
