-- The graph of the cells that compute: what its edges, its paths and its components say of nets.
use Rattle.std.proofs.Common.{◌≡◌, ◌≢◌, ℕ, zero, suc, ◌<◌, ◌≤◌, List, [], ◌∷◌, length, map, Contains, Option, Some, None, ◌⊎◌, inl, inr, refl, sym, ap, ◌∙◌, subst, arith, slice_get, slice_index, IsTrue}
use Rattle.std.proofs.lemmas.Option.{slice_get_within, slice_get-get_or, get_or_from_slice_get}
use Rattle.sp_graph.specs.Edges.{IsEdge, Path}
use Rattle.sp_graph.specs.Edges.Path.{no_edge, one_edge_more}
use Rattle.sp_graph.specs.Components.{AreComponents}
use Rattle.sp_netlist.specs.Cells.{PlainCell, in_cell, out_cell, done_cell, const_cell, op_cell, not_cell, shift_cell, cast_cell, mux_cell, reg_cell, bank_cell, read_tap, write_tap, dram_cell, load_unit, store_unit}
use Rattle.sp_netlist.specs.Rules.{drives, reads, is_computed, Feeds, Leads, IsRanked}
use Rattle.sp_netlist.specs.Rules.Leads.{one_cell, more_cells}
use Rattle.sp_netlist.specs.Refusals.{OfNone, IsLooped}
use Rattle.sp_netlist.specs.Tables.{IsLeastOrNone}
use Rattle.sp_netlist.specs.CellGraph.{computed_net, operands, computed_at, operands_at, ComputedOnce, ArePlaces, IsCellGraph, IsComputedOnLoop}
use Rattle.sp_netlist.proofs.NetFaults.{same_faults}

-- a cell that computes drives the one net that it computes, and reads its operands
record Computing (cell : PlainCell) (a net : ℕ) : Type 0 where
  pub computes : computed_net cell ≡ Some net
  pub reads_it : Contains (operands cell) a

only : (net : ℕ) (n : ℕ) → Contains (net ∷ []) n → Some net ≡ Some n
only net n (zero, h, e) = ap (λ m. Some m) e
only net n (suc k, h, e) = absurd (omega (arith, h))

computing : (cells : List PlainCell) (cell : PlainCell) (a net : ℕ) → IsTrue (is_computed cell) → Contains (map (λ p. p.0) (reads cells cell)) a → Contains (map (λ p. p.0) (drives cells cell)) net → Computing cell a net
computing cells (op_cell net' ty op x y) a net c r d = record { computes = only net' net d; reads_it = r }
computing cells (not_cell net' ty x) a net c r d = record { computes = only net' net d; reads_it = r }
computing cells (shift_cell net' ty side x places) a net c r d = record { computes = only net' net d; reads_it = r }
computing cells (cast_cell net' from to x) a net c r d = record { computes = only net' net d; reads_it = r }
computing cells (mux_cell net' width choice x y) a net c r d = record { computes = only net' net d; reads_it = r }
computing cells (in_cell name n ty) a net c r d = absurd (cc)
computing cells (out_cell name n ty) a net c r d = absurd (cc)
computing cells (done_cell n) a net c r d = absurd (cc)
computing cells (const_cell n width word) a net c r d = absurd (cc)
computing cells (reg_cell n width first next enable) a net c r d = absurd (cc)
computing cells (bank_cell bank width len) a net c r d = absurd (cc)
computing cells (read_tap n bank enable addr) a net c r d = absurd (cc)
computing cells (write_tap bank enable addr word) a net c r d = absurd (cc)
computing cells (dram_cell dram name ty dims) a net c r d = absurd (cc)
computing cells (load_unit channel dram ready n request last addr) a net c r d = absurd (cc)
computing cells (store_unit channel dram ready request last addr word) a net c r d = absurd (cc)

-- and the other way round
record Feeding (cells : List PlainCell) (cell : PlainCell) (a net : ℕ) : Type 0 where
  pub computed : IsTrue (is_computed cell)
  pub read : Contains (map (λ p. p.0) (reads cells cell)) a
  pub driven : Contains (map (λ p. p.0) (drives cells cell)) net

itself : (net n : ℕ) → Some net ≡ Some n → Contains (net ∷ []) n
itself net n e = (0, omega arith, cc)

feeding : (cells : List PlainCell) (cell : PlainCell) (a net : ℕ) → computed_net cell ≡ Some net → Contains (operands cell) a → Feeding cells cell a net
feeding cells (op_cell net' ty op x y) a net e r = record { computed = refl; read = r; driven = itself net' net e }
feeding cells (not_cell net' ty x) a net e r = record { computed = refl; read = r; driven = itself net' net e }
feeding cells (shift_cell net' ty side x places) a net e r = record { computed = refl; read = r; driven = itself net' net e }
feeding cells (cast_cell net' from to x) a net e r = record { computed = refl; read = r; driven = itself net' net e }
feeding cells (mux_cell net' width choice x y) a net e r = record { computed = refl; read = r; driven = itself net' net e }
feeding cells (in_cell name n ty) a net e r = absurd (cc)
feeding cells (out_cell name n ty) a net e r = absurd (cc)
feeding cells (done_cell n) a net e r = absurd (cc)
feeding cells (const_cell n width word) a net e r = absurd (cc)
feeding cells (reg_cell n width first next enable) a net e r = absurd (cc)
feeding cells (bank_cell bank width len) a net e r = absurd (cc)
feeding cells (read_tap n bank enable addr) a net e r = absurd (cc)
feeding cells (write_tap bank enable addr word) a net e r = absurd (cc)
feeding cells (dram_cell dram name ty dims) a net e r = absurd (cc)
feeding cells (load_unit channel dram ready n request last addr) a net e r = absurd (cc)
feeding cells (store_unit channel dram ready request last addr word) a net e r = absurd (cc)

-- at a place of the list
pub at_place : (cells : List PlainCell) (place : ℕ) (cell : PlainCell) → slice_get cells place ≡ Some cell → (computed_at cells place ≡ computed_net cell) × (operands_at cells place ≡ operands cell)
at_place [] place cell e = absurd (cc)
at_place (x ∷ cells) zero cell e = let same : x ≡ cell = cc in (ap computed_net same, ap operands same)
at_place (x ∷ cells) (suc place) cell e = at_place cells place cell e

-- the cell that computes a net at a place
cell_at : (cells : List PlainCell) (place net : ℕ) → computed_at cells place ≡ Some net → (cell : PlainCell) × (slice_get cells place ≡ Some cell)
cell_at [] place net e = absurd (cc)
cell_at (x ∷ cells) zero net e = (x, refl)
cell_at (x ∷ cells) (suc place) net e = cell_at cells place net e

pub computed_within : (cells : List PlainCell) (place net : ℕ) → computed_at cells place ≡ Some net → place < length cells
computed_within cells place net e = let c = cell_at cells place net e in slice_get_within cells place c.0 c.1

-- one net feeds another where a place computes the other and has the one as an operand
pub record FeedsAt (cells : List PlainCell) (a net : ℕ) : Type 0 where
  pub place : ℕ
  pub computes : computed_at cells place ≡ Some net
  pub reads_it : Contains (operands_at cells place) a

pub feeds_at : (cells : List PlainCell) (a net : ℕ) → Feeds cells a net → FeedsAt cells a net
feeds_at cells a net (cell, within, c, r, d) =
    let k = within.0 in
    let got : slice_get cells k ≡ Some cell = slice_get-get_or cells k cell within.1 ∙ ap (λ x. Some x) within.2 in
    let at = at_place cells k cell got in
    let h = computing cells cell a net c r d in
    record { place = k; computes = at.0 ∙ h.computes; reads_it = subst (λ xs. Contains xs a) (sym at.1) h.reads_it }

pub feeds_from : (cells : List PlainCell) (place a net : ℕ) → computed_at cells place ≡ Some net → Contains (operands_at cells place) a → Feeds cells a net
feeds_from cells place a net e r =
    let c = cell_at cells place net e in
    let at = at_place cells place c.0 c.1 in
    let h = feeding cells c.0 a net (sym at.0 ∙ e) (subst (λ xs. Contains xs a) at.1 r) in
    (c.0, (place, slice_get_within cells place c.0 c.1, get_or_from_slice_get cells place c.0 c.0 c.1), h.computed, h.read, h.driven)

leads_then : (cells : List PlainCell) (a b c : ℕ) → Leads cells a b → Feeds cells b c → Leads cells a c
leads_then cells a b c (one_cell f) g = more_cells f (one_cell g)
leads_then cells a b c (more_cells f rest) g = more_cells f (leads_then cells _ b c rest g)

-- what a chain ends with is computed somewhere
led_computed : (cells : List PlainCell) (a b : ℕ) → Leads cells a b → (place : ℕ) × (computed_at cells place ≡ Some b)
led_computed cells a b (one_cell f) = let h = feeds_at cells a b f in (h.place, h.computes)
led_computed cells a b (more_cells f rest) = led_computed cells _ b rest

module _ (cells : List PlainCell) (graph : List (List ℕ)) (numbers : List ℕ) (once : ComputedOnce cells) (of : IsCellGraph cells graph) (parts : AreComponents graph numbers) where
  -- an edge leads from a place to where its operand is computed
  edge_to : (from to a net : ℕ) → computed_at cells from ≡ Some net → Contains (operands_at cells from) a → computed_at cells to ≡ Some a → IsEdge graph from to
  edge_to from to a net e r t = (of.edges from to).1 (a, r, t)

  edge_feeds : (from to net : ℕ) → IsEdge graph from to → computed_at cells from ≡ Some net → (a : ℕ) × (computed_at cells to ≡ Some a) × Feeds cells a net
  edge_feeds from to net edge e = let h = (of.edges from to).0 edge in (h.0, h.2, feeds_from cells from h.0 net e h.1)

  -- a path goes against the chain
  path_leads : (from to : ℕ) → Path graph from to → (net last : ℕ) → computed_at cells from ≡ Some net → computed_at cells to ≡ Some last → (last ≡ net) ⊎ Leads cells last net
  path_leads from to no_edge net last e f = inl (let same = sym f ∙ e in cc)
  path_leads from to (one_edge_more {via = via} edge rest) net last e f =
      let h = edge_feeds from via net edge e in
      elim (path_leads via to rest h.0 last h.1 f) [
        | inl same ↦ inr (one_cell (subst (λ n. Feeds cells n net) (sym same) h.2))
        | inr led ↦ inr (leads_then cells last h.0 net led h.2)
      ]

  pub looped_from : (net : ℕ) → IsComputedOnLoop cells graph numbers net → Leads cells net net
  looped_from net (place, e, stays) =
      let target = stays.0 in
      let h = edge_feeds place target net stays.1 e in
      let p = computed_within cells place net e in
      let t = computed_within cells target h.0 h.1 in
      let back = parts.connected target place (subst (λ n. target < n) (sym of.each_cell) t) (subst (λ n. place < n) (sym of.each_cell) p) stays.2 in
      elim (path_leads target place back h.0 net h.1 e) [
        | inl this ↦ one_cell (subst (λ n. Feeds cells n net) (sym this) h.2)
        | inr led ↦ leads_then cells net h.0 net led h.2
      ]

  -- along a chain numbers don't fall, up to an operand of its end
  record Rising (first end : ℕ) : Type 0 where
    pub target : ℕ
    pub edge : IsEdge graph end target
    pub risen : slice_index numbers first ≤ slice_index numbers target

  rising : (a b : ℕ) → Leads cells a b → (first end : ℕ) → computed_at cells first ≡ Some a → computed_at cells end ≡ Some b → Rising first end
  rising a b (one_cell f) first end e g =
      let h = feeds_at cells a b f in
      let here = once h.place end b h.computes g in
      let edge = edge_to h.place first a b h.computes h.reads_it e in
      record { target = first; edge = subst (λ p. IsEdge graph p first) here edge; risen = omega arith }
  rising a b (more_cells {b = via} f rest) first end e g =
      let h = feeds_at cells a via f in
      let r = rising via b rest h.place end h.computes g in
      let edge = edge_to h.place first a via h.computes h.reads_it e in
      let up = parts.falling h.place first edge in
      let more = r.risen in
      record { target = r.target; edge = r.edge; risen = omega (arith, up, more) }

  looped_to : (net : ℕ) → Leads cells net net → IsComputedOnLoop cells graph numbers net
  looped_to net loop =
      let at = led_computed cells net net loop in
      let r = rising net net loop at.0 at.0 at.1 at.1 in
      let down = parts.falling at.0 r.target r.edge in
      let up = r.risen in
      (at.0, at.1, (r.target, r.edge, omega (arith, down, up)))

-- the rank of a net is one above the number of the component where it is computed
rank_at : List ℕ → Option ℕ → ℕ
rank_at numbers None = 0
rank_at numbers (Some place) = suc (slice_index numbers place)

module _ (cells : List PlainCell) (place_of : ℕ → Option ℕ) (once : ComputedOnce cells) (places : ArePlaces cells place_of) where
  pub place_is : (net place : ℕ) → computed_at cells place ≡ Some net → place_of net ≡ Some place
  place_is net place e =
      let k = places.kept net place e in
      k.1 ∙ ap (λ p. Some p) (once k.0 place net (places.found net k.0 k.1) e)

  module _ (graph : List (List ℕ)) (numbers : List ℕ) (of : IsCellGraph cells graph) (parts : AreComponents graph numbers) (none : OfNone (IsComputedOnLoop cells graph numbers)) where
    below : (net a place : ℕ) → computed_at cells place ≡ Some net → Contains (operands_at cells place) a → (o : Option ℕ) → place_of a ≡ o → rank_at numbers o < suc (slice_index numbers place)
    unfolding rank_at
    below net a place e r None o = omega arith
    below net a place e r (Some via) o =
        let edge = (of.edges place via).1 (a, r, places.found a via o) in
        let down = parts.falling place via edge in
        let apart : slice_index numbers via ≢ slice_index numbers place = λ same. none net (place, e, (via, edge, same)) in
        omega (arith, down, apart)

    pub ranked : IsRanked cells
    unfolding rank_at
    ranked = (
      λ net. rank_at numbers (place_of net),
      λ a net f.
          let h = feeds_at cells a net f in
          let low = below net a h.place h.computes h.reads_it (place_of a) refl in
          let high = ap (rank_at numbers) (place_is net h.place h.computes) in
          subst (λ n. rank_at numbers (place_of a) < n) (sym high) low,
    )

-- what the least net on a loop is, by graph and components
pub least_looped : (cells : List PlainCell) (graph : List (List ℕ)) (numbers : List ℕ) (least : Option ℕ) → ComputedOnce cells → IsCellGraph cells graph → AreComponents graph numbers → IsLeastOrNone (IsComputedOnLoop cells graph numbers) least → IsLeastOrNone (IsLooped cells) least
least_looped cells graph numbers least once of parts =
    same_faults (IsComputedOnLoop cells graph numbers) (IsLooped cells) least (looped_from cells graph numbers once of parts) (looped_to cells graph numbers once of parts)

pub ranked_none : (cells : List PlainCell) (place_of : ℕ → Option ℕ) (graph : List (List ℕ)) (numbers : List ℕ) (least : Option ℕ) → ComputedOnce cells → ArePlaces cells place_of → IsCellGraph cells graph → AreComponents graph numbers → IsLeastOrNone (IsComputedOnLoop cells graph numbers) least → least ≡ None → IsRanked cells
ranked_none cells place_of graph numbers least once places of parts holds none =
    ranked cells place_of once places graph numbers of parts (subst (IsLeastOrNone (IsComputedOnLoop cells graph numbers)) none holds)
