-- Steps in an order in which they can be carried out: what an operand's step is, and that no two have one net.
use Rattle.std.proofs.Common.{◌≡◌, ◌≢◌, ℕ, suc, ◌<◌, ◌≤◌, List, ◌∷◌, ◌++◌, ◌==◌, cond, length, get_or, take, drop, map, flat_map, count_by, Contains, refl, sym, ap, ◌∙◌, subst, arith, eq-eqb, drop-cons, take-append-drop, ⊎_elim}
use Rattle.std.proofs.lemmas.Bool.{cases_lt}
use Rattle.std.proofs.lemmas.List.{get_or-map, get_or-take, get_or_default, length-map, length-take-le}
use Rattle.std.proofs.lemmas.List.Concat.{flat_map-append}
use Rattle.std.proofs.lemmas.List.Elements.{Contains-append_left}
use Rattle.std.proofs.lemmas.List.Sums.{sum_by-append}
use Rattle.sp_netlist.specs.Cells.{PlainCell, done_cell}
use Rattle.sp_netlist.specs.Rules.{drives, reads, IsNetlist}
use Rattle.sp_netlist.specs.Order.{IsComputing}
use Rattle.sp_sim.specs.declared.step.Step.{Step}
use Rattle.sp_sim.specs.Levels.{AreOrdered}
use Rattle.sp_sim.specs.Settling.{cell_at}
use Rattle.sp_sim.specs.Steps.{cell_of}
use Rattle.sp_sim.proofs.CellLemmas.{place_split, contains_flat, count_at, one_place}
use Rattle.sp_sim.proofs.Settled.{first_of_pair}
use Rattle.sp_sim.proofs.StepNets.{drives_net}

has_one : (ps : List (ℕ × ℕ)) (net w : ℕ) → Contains ps (net, w) → 1 ≤ count_by (λ p. p.0 == net) ps
has_one ps net w c = count_at (λ (p : ℕ × ℕ). p.0 == net) ps c.0 (net, w) c.1 (ap (λ (p : ℕ × ℕ). p.0 == net) c.2 ∙ eq-eqb net net refl)

-- no two places drive one net
one_driver : (cells : List PlainCell) → IsNetlist cells → (i j net : ℕ) → i < j → j < length cells
    → Contains (map (λ p. p.0) (drives cells (cell_at cells i))) net → Contains (map (λ p. p.0) (drives cells (cell_at cells j))) net → ⊥
unfolding cell_at
one_driver cells h i j net l m a b =
    let D = drives cells in
    let p = λ (q : ℕ × ℕ). q.0 == net in
    let xs = take j cells in
    let x = cell_at cells j in
    let ys = drop (suc j) cells in
    let first = first_of_pair (D (cell_at cells i)) net a in
    let second = first_of_pair (D x) net b in
    let short : i < length xs = let e = length-take-le j cells (omega (arith, m)) in omega (arith, e, l) in
    let early : Contains (flat_map D xs) (net, first.0) = contains_flat D xs i (net, first.0) short (subst (λ c. Contains (D c) (net, first.0)) (sym (get_or-take j cells i (done_cell 0) l)) first.1) in
    let late : Contains (flat_map D (x ∷ ys)) (net, second.0) = Contains-append_left (D x) (flat_map D ys) (net, second.0) second.1 in
    let whole = ap (count_by p) (ap (flat_map D) (place_split cells j m) ∙ flat_map-append D xs (x ∷ ys)) ∙ sum_by-append (λ q. cond (p q) 1 0) (flat_map D xs) (flat_map D (x ∷ ys)) in
    let once = h.driven_once net in
    let one = has_one (flat_map D xs) net first.0 early in
    let other = has_one (flat_map D (x ∷ ys)) net second.0 late in
    omega (arith, whole, once, one, other)

module _ (cells : List PlainCell) (h : IsNetlist cells) (steps : List Step) (o : AreOrdered cells steps) where
  pub same_length : length o.order ≡ length steps
  same_length = sym (length-map o.order (cell_at cells)) ∙ sym (ap length o.computed) ∙ length-map steps cell_of

  -- the cell of a step stands at its place of the order
  pub cell_there : (i : ℕ) (d : Step) → i < length steps → cell_of (get_or steps i d) ≡ cell_at cells (get_or o.order i 0)
  cell_there i d l = sym (get_or-map cell_of steps i d (done_cell 0) l) ∙ ap (λ xs. get_or xs i (done_cell 0)) o.computed
      ∙ get_or-map (cell_at cells) o.order i 0 (done_cell 0) (omega (arith, same_length, l))

  pub computing_there : (i : ℕ) → i < length steps → IsComputing cells (get_or o.order i 0)
  computing_there i l = o.is_order.computing i 0 (omega (arith, same_length, l))

  drives_there : (i : ℕ) (d : Step) → i < length steps → Contains (map (λ p. p.0) (drives cells (cell_at cells (get_or o.order i 0)))) (get_or steps i d).net
  drives_there i d l =
      let s = get_or steps i d in
      subst (λ c. Contains (map (λ (p : ℕ × ℕ). p.0) (drives cells c)) s.net) (cell_there i d l) (drives_net cells s.task s.net s.first s.second s.third)

  -- a place stands in the order once
  once_there : (i j : ℕ) → i < length steps → j < length steps → get_or o.order i 0 ≡ get_or o.order j 0 → i ≡ j
  once_there i j l m e =
      let at = get_or o.order j 0 in
      one_place (λ (x : ℕ). x == at) o.order 0 (o.is_order.once at) i j (omega (arith, same_length, l)) (omega (arith, same_length, m)) (eq-eqb (get_or o.order i 0) at e) (eq-eqb at at refl)

  -- two steps have two nets
  pub nets_apart : (i j : ℕ) (d : Step) → i < j → j < length steps → (get_or steps i d).net ≢ (get_or steps j d).net
  nets_apart i j d l m e =
      let a = get_or o.order i 0 in
      let b = get_or o.order j 0 in
      let net = (get_or steps j d).net in
      let here = drives_there j d m in
      let there = subst (λ n. Contains (map (λ (p : ℕ × ℕ). p.0) (drives cells (cell_at cells a))) n) e (drives_there i d (omega (arith, l, m))) in
      let other : a ≢ b = λ same. let k = once_there i j (omega (arith, l, m)) m same in omega (arith, k, l) in
      ⊎_elim (λ k. one_driver cells h a b net k (computing_there j m).0 there here)
      (λ k. one_driver cells h b a net (omega (arith, k, λ (q : b ≡ a). other (sym q))) (computing_there i (omega (arith, l, m))).0 here there)
      (cases_lt a b)

  -- a step reads no net of a later one, or its own
  pub reads_earlier : (i j : ℕ) (d : Step) → i ≤ j → j < length steps → (net : ℕ) → Contains (map (λ p. p.0) (reads cells (cell_of (get_or steps i d)))) net → net ≢ (get_or steps j d).net
  unfolding cell_at
  reads_earlier i j d l m net r e =
      let a = get_or o.order i 0 in
      let b = get_or o.order j 0 in
      let long : i < length o.order = omega (arith, same_length, l, m) in
      let split = sym (take-append-drop i o.order) ∙ ap (λ xs. take i o.order ++ xs) (drop-cons o.order i 0 long) in
      let read = subst (λ c. Contains (map (λ (p : ℕ × ℕ). p.0) (reads cells c)) net) (cell_there i d (omega (arith, l, m))) r in
      let driven = subst (λ n. Contains (map (λ (p : ℕ × ℕ). p.0) (drives cells (cell_at cells b))) n) (sym e) (drives_there j d m) in
      let before = earlier (take i o.order) a (drop (suc i) o.order) split net b read (computing_there j m) driven in
      let k : before.0 < i = let n = before.1 in let t = length-take-le i o.order (omega (arith, long)) in omega (arith, n, t) in
      let was : get_or o.order before.0 0 ≡ b = sym (get_or-take i o.order before.0 0 k) ∙ get_or_default (take i o.order) before.0 0 b before.1 ∙ before.2 in
      let same = once_there before.0 j (omega (arith, k, l, m)) m was in
      omega (arith, same, k, l)
    where
      earlier : (before : List ℕ) (at : ℕ) (after : List ℕ) → o.order ≡ before ++ at ∷ after → (net driver : ℕ) → Contains (map (λ p. p.0) (reads cells (cell_at cells at))) net
          → IsComputing cells driver → Contains (map (λ p. p.0) (drives cells (cell_at cells driver))) net → Contains before driver
      earlier = o.is_order.operands_first
