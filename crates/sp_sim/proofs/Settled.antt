-- After the cells that compute were evaluated in order, the words of a row are those of the run.
use Rattle.std.proofs.Common.{◌≡◌, ℕ, zero, suc, ◌<◌, List, [], ◌∷◌, ◌++◌, false, ◌==◌, if◌then◌else◌, length, get_or, take, drop, map, Contains, refl, sym, ap, ◌∙◌, subst, arith, ⊎_elim, inl, inr, ◌⊎◌, Option, Some, None, append_assoc, append-nil}
use mathlib.Core.Path.{fun_ext}
use Rattle.std.proofs.lemmas.Bool.{cases_eq, cases_Bool}
use Rattle.std.proofs.lemmas.List.Elements.{All-contains, Contains-push_cases, Contains-append_right}
use Rattle.sp_words.specs.Words.{word_not, word_cast}
use Rattle.sp_netlist.specs.Cells.{PlainCell, op_cell, not_cell, shift_cell, cast_cell, mux_cell}
use Rattle.sp_netlist.specs.Rules.{drives, reads, driven_nets, is_computed, IsNetlist}
use Rattle.sp_netlist.specs.Signals.{Setting, Signals, Obeys, op_word, shift_word}
use Rattle.sp_netlist.specs.Order.{IsComputing, IsOrder}
use Rattle.sp_netlist.specs.Quiet.{IsQuiet}
use Rattle.sp_sim.specs.Rows.{word_of, with_word, nets_of}
use Rattle.sp_sim.specs.Settling.{cell_at, computed_word, computed_width, IsRow, put_some, settle_one, settled}
use Rattle.sp_sim.proofs.RowLemmas.{word_of-put, nets_of-put, word_of-none, stands, put_right}
use Rattle.sp_sim.proofs.CellLemmas.{place_split, driver_place, drives_driven, reads_driven}
use Rattle.sp_sim.proofs.SettleLemmas.{computed_driven}

-- the first parts of pairs
pub first_of_pair : (ps : List (ℕ × ℕ)) (a : ℕ) → Contains (map (λ p. p.0) ps) a → (w : ℕ) × Contains ps (a, w)
first_of_pair [] a c = let l = c.1 in absurd (omega arith)
first_of_pair (p ∷ ps) a c = at (first_of_pair ps a) c.0 c.1 c.2
  where
    at : (Contains (map (λ (q : ℕ × ℕ). q.0) ps) a → (w : ℕ) × Contains ps (a, w)) → (k : ℕ) → k < length (map (λ (q : ℕ × ℕ). q.0) (p ∷ ps)) → get_or (map (λ (q : ℕ × ℕ). q.0) (p ∷ ps)) k a ≡ a → (w : ℕ) × Contains (p ∷ ps) (a, w)
    at rest zero l e = (p.1, (0, omega arith, ap (λ n. (n, p.1)) e))
    at rest (suc k) l e = let r = rest (k, omega arith, e) in (r.0, (suc r.1.0, let m = r.1.1 in omega arith, r.1.2))

pub pair_first : (ps : List (ℕ × ℕ)) (a w : ℕ) → Contains ps (a, w) → Contains (map (λ p. p.0) ps) a
pair_first [] a w c = let l = c.1 in absurd (omega arith)
pair_first (p ∷ ps) a w c = at (pair_first ps a w) c.0 c.1 c.2
  where
    at : (Contains ps (a, w) → Contains (map (λ (q : ℕ × ℕ). q.0) ps) a) → (k : ℕ) → k < length (p ∷ ps) → get_or (p ∷ ps) k (a, w) ≡ (a, w) → Contains (map (λ (q : ℕ × ℕ). q.0) (p ∷ ps)) a
    at rest zero l e = (0, omega arith, ap (λ (q : ℕ × ℕ). q.0) e)
    at rest (suc k) l e = let r = rest (k, omega arith, e) in (suc r.0, let m = r.1 in omega arith, r.2)

pub only_one : (x y : ℕ) → Contains (x ∷ []) y → x ≡ y
only_one x y c = at c.0 c.1 c.2
  where
    at : (k : ℕ) → k < length (x ∷ []) → get_or (x ∷ []) k y ≡ y → x ≡ y
    at zero l e = e
    at (suc k) l e = absurd (omega arith)

-- the same operands give the same word
same_computed : (cells : List PlainCell) (w v : ℕ → ℕ) (x : PlainCell) → ((a : ℕ) → Contains (map (λ p. p.0) (reads cells x)) a → w a ≡ v a) → computed_word w x ≡ computed_word v x
same_computed cells w v (op_cell net ty op a b) k =
    let ea = k a (0, omega arith, refl) in
    let eb = k b (1, omega arith, refl) in
    cc
same_computed cells w v (not_cell net ty a) k = ap (λ z. Some (net, word_not ty z)) (k a (0, omega arith, refl))
same_computed cells w v (shift_cell net ty side a places) k = ap (λ z. Some (net, shift_word side ty z places)) (k a (0, omega arith, refl))
same_computed cells w v (cast_cell net from to a) k = ap (λ z. Some (net, word_cast from to z)) (k a (0, omega arith, refl))
same_computed cells w v (mux_cell net width choice a b) k =
    let ec = k choice (0, omega arith, refl) in
    let ea = k a (1, omega arith, refl) in
    let eb = k b (2, omega arith, refl) in
    cc
same_computed cells w v _ k = refl

-- it drives no other net
computed_only : (cells : List PlainCell) (w : ℕ → ℕ) (x : PlainCell) (p : ℕ × ℕ) → computed_word w x ≡ Some p → (n : ℕ) → Contains (map (λ q. q.0) (drives cells x)) n → n ≡ p.0
computed_only cells w (op_cell net ty op a b) p e n c = let same : net ≡ p.0 = cc in sym (only_one net n c) ∙ same
computed_only cells w (not_cell net ty a) p e n c = let same : net ≡ p.0 = cc in sym (only_one net n c) ∙ same
computed_only cells w (shift_cell net ty side a places) p e n c = let same : net ≡ p.0 = cc in sym (only_one net n c) ∙ same
computed_only cells w (cast_cell net from to a) p e n c = let same : net ≡ p.0 = cc in sym (only_one net n c) ∙ same
computed_only cells w (mux_cell net width choice a b) p e n c = let same : net ≡ p.0 = cc in sym (only_one net n c) ∙ same
computed_only cells w _ p e n c = absurd (cc)

computed_none : (w : ℕ → ℕ) (x : PlainCell) → computed_word w x ≡ None → is_computed x ≡ false
computed_none w (op_cell net ty op a b) e = absurd (cc)
computed_none w (not_cell net ty a) e = absurd (cc)
computed_none w (shift_cell net ty side a places) e = absurd (cc)
computed_none w (cast_cell net from to a) e = absurd (cc)
computed_none w (mux_cell net width choice a b) e = absurd (cc)
computed_none w _ e = refl

computed_right : (g : Setting) (s : Signals) (before : List PlainCell) (x : PlainCell) → Obeys g s before x → (t : ℕ) (p : ℕ × ℕ) → computed_word (s.net t) x ≡ Some p → s.net t p.0 ≡ p.1
computed_right g s before (op_cell net ty op a b) o t p e = let here = o t in let e0 : net ≡ p.0 = cc in let e1 : op_word op ty (s.net t a) (s.net t b) ≡ p.1 = cc in ap (s.net t) (sym e0) ∙ here ∙ e1
computed_right g s before (not_cell net ty a) o t p e = let here = o t in let e0 : net ≡ p.0 = cc in let e1 : word_not ty (s.net t a) ≡ p.1 = cc in ap (s.net t) (sym e0) ∙ here ∙ e1
computed_right g s before (shift_cell net ty side a places) o t p e = let here = o t in let e0 : net ≡ p.0 = cc in let e1 : shift_word side ty (s.net t a) places ≡ p.1 = cc in ap (s.net t) (sym e0) ∙ here ∙ e1
computed_right g s before (cast_cell net from to a) o t p e = let here = o t in let e0 : net ≡ p.0 = cc in let e1 : word_cast from to (s.net t a) ≡ p.1 = cc in ap (s.net t) (sym e0) ∙ here ∙ e1
computed_right g s before (mux_cell net width choice a b) o t p e =
    let here = o t in
    let e0 : net ≡ p.0 = cc in
    let e1 : (if s.net t choice == 1 then s.net t a else s.net t b) ≡ p.1 = cc in
    ap (s.net t) (sym e0) ∙ here ∙ e1
computed_right g s before _ o t p e = absurd (cc)

-- the nets of these cells, and of those that don't compute, have their words in the row
pub record Known (g : Setting) (s : Signals) (t : ℕ) (row : List (ℕ × ℕ)) (done : List ℕ) : Type 0 where
  pub covers : (net width : ℕ) → Contains (driven_nets g.cells) (net, width) → Contains (nets_of row) net
  pub right : (at : ℕ) → at < length g.cells → (is_computed (cell_at g.cells at) ≡ false) ⊎ Contains done at
      → (net : ℕ) → Contains (map (λ p. p.0) (drives g.cells (cell_at g.cells at))) net → word_of row net ≡ s.net t net

module _ (g : Setting) (h : IsNetlist g.cells) (s : Signals) (q : IsQuiet g s) where
  pub obeyed : (at : ℕ) → at < length g.cells → Obeys g s (take at g.cells) (cell_at g.cells at)
  obeyed at l = q.run.cells (take at g.cells) (cell_at g.cells at) (drop (suc at) g.cells) (place_split g.cells at l)

  module _ (order : List ℕ) (o : IsOrder g.cells order) (t : ℕ) where
    operand_right : (row : List (ℕ × ℕ)) (done : List ℕ) (at : ℕ) (after : List ℕ) → order ≡ done ++ at ∷ after → at < length g.cells → Known g s t row done
        → (a : ℕ) → Contains (map (λ p. p.0) (reads g.cells (cell_at g.cells at))) a → word_of row a ≡ s.net t a
    unfolding cell_at
    operand_right row done at after e l k a c =
        let pair = first_of_pair (reads g.cells (cell_at g.cells at)) a c in
        let d = driver_place g.cells a pair.0 (reads_driven g.cells h at a pair.0 l pair.1) in
        let drives_a = pair_first (drives g.cells (cell_at g.cells d.0)) a pair.0 d.2 in
        ⊎_elim (λ yes. k.right d.0 d.1 (inr (o.operands_first done at after e a d.0 c (d.1, yes) drives_a)) a drives_a)
        (λ no. k.right d.0 d.1 (inl no) a drives_a) (cases_Bool (is_computed (cell_at g.cells d.0)))

    known_none : (row : List (ℕ × ℕ)) (done : List ℕ) (at : ℕ) → Known g s t row done → computed_word (word_of row) (cell_at g.cells at) ≡ None → Known g s t row (done ++ at ∷ [])
    known_none row done at k e = record {
      covers = k.covers;
      right = λ i l c. ⊎_elim (λ no. k.right i l (inl no))
          (λ d. ⊎_elim (λ was. k.right i l (inr was))
          (λ new. k.right i l (inl (subst (λ j. is_computed (cell_at g.cells j) ≡ false) new (computed_none (word_of row) (cell_at g.cells at) e))))
          (Contains-push_cases done at i d)) c;
    }

    known_some : (row : List (ℕ × ℕ)) (done : List ℕ) (at : ℕ) → at < length g.cells → Known g s t row done → (p : ℕ × ℕ) → computed_word (word_of row) (cell_at g.cells at) ≡ Some p
        → s.net t p.0 ≡ p.1 → Known g s t (with_word row p.0 p.1) (done ++ at ∷ [])
    known_some row done at l k p e r = record {
      covers = λ n w c. subst (λ ns. Contains ns n) (sym (nets_of-put row p.0 p.1)) (k.covers n w c);
      right = λ i m c n d. ⊎_elim
          (λ same.
          let driven = drives_driven g.cells at p.0 (computed_width (cell_at g.cells at)) l (computed_driven g.cells (word_of row) (cell_at g.cells at) p e) in
          ap (word_of (with_word row p.0 p.1)) same ∙ word_of-put row p.0 p.1 (k.covers p.0 (computed_width (cell_at g.cells at)) driven) ∙ sym r ∙ ap (s.net t) (sym same))
          (λ other. put_right (s.net t) row p.0 p.1 n r (was i m c n d other))
          (cases_eq n p.0);
    }
      where
        was : (i : ℕ) → i < length g.cells → (is_computed (cell_at g.cells i) ≡ false) ⊎ Contains (done ++ at ∷ []) i → (n : ℕ) → Contains (map (λ (x : ℕ × ℕ). x.0) (drives g.cells (cell_at g.cells i))) n → (n ≡ p.0 → ⊥) → word_of row n ≡ s.net t n
        was i m c n d other = ⊎_elim (λ no. k.right i m (inl no) n d)
            (λ b. ⊎_elim (λ old. k.right i m (inr old) n d)
            (λ new. absurd (other (computed_only g.cells (word_of row) (cell_at g.cells at) p e n (subst (λ j. Contains (map (λ (x : ℕ × ℕ). x.0) (drives g.cells (cell_at g.cells j))) n) (sym new) d))))
            (Contains-push_cases done at i b)) c

    known_step : (row : List (ℕ × ℕ)) (done : List ℕ) (at : ℕ) (after : List ℕ) → order ≡ done ++ at ∷ after → Known g s t row done → Known g s t (settle_one g.cells row at) (done ++ at ∷ [])
    unfolding settle_one put_some
    known_step row done at after e k = go (computed_word (word_of row) (cell_at g.cells at)) refl
      where
        l : at < length g.cells
        l = (All-contains (IsComputing g.cells) order at o.computing (subst (λ is. Contains is at) (sym e) (Contains-append_right done (at ∷ after) at (0, omega arith, refl)))).0

        go : (found : Option (ℕ × ℕ)) → computed_word (word_of row) (cell_at g.cells at) ≡ found → Known g s t (settle_one g.cells row at) (done ++ at ∷ [])
        go None f = subst (λ x. Known g s t (put_some row x) (done ++ at ∷ [])) (sym f) (known_none row done at k f)
        go (Some p) f =
            let here = same_computed g.cells (word_of row) (s.net t) (cell_at g.cells at) (operand_right row done at after e l k) in
            let r = computed_right g s (take at g.cells) (cell_at g.cells at) (obeyed at l) t p (sym here ∙ f) in
            subst (λ x. Known g s t (put_some row x) (done ++ at ∷ [])) (sym f) (known_some row done at l k p f r)

    known_all : (rest done : List ℕ) (row : List (ℕ × ℕ)) → order ≡ done ++ rest → Known g s t row done → Known g s t (settled g.cells row rest) order
    known_all [] done row e k = subst (Known g s t row) (sym (e ∙ append-nil done)) k
    known_all (at ∷ rest) done row e k = known_all rest (done ++ at ∷ []) (settle_one g.cells row at) (e ∙ sym (append_assoc done (at ∷ []) rest)) (known_step row done at rest e k)

    -- all words of the row are those of the run
    pub settled_right : (row : List (ℕ × ℕ)) → Known g s t row [] → IsRow g.cells (settled g.cells row order) → word_of (settled g.cells row order) ≡ s.net t
    unfolding cell_at
    settled_right row k r = fun_ext (λ net. ⊎_elim (λ c. inside net (r.only net c)) (λ none. word_of-none (settled g.cells row order) net none ∙ sym (q.nets t net (λ w c. none (r.covers net w c)))) (stands (nets_of (settled g.cells row order)) net))
      where
        inside : (net : ℕ) → (width : ℕ) × Contains (driven_nets g.cells) (net, width) → word_of (settled g.cells row order) net ≡ s.net t net
        inside net c =
            let all = known_all order [] row refl k in
            let d = driver_place g.cells net c.0 c.1 in
            let drives_net = pair_first (drives g.cells (cell_at g.cells d.0)) net c.0 d.2 in
            ⊎_elim (λ yes. all.right d.0 d.1 (inr (o.complete d.0 (d.1, yes))) net drives_net)
            (λ no. all.right d.0 d.1 (inl no) net drives_net) (cases_Bool (is_computed (cell_at g.cells d.0)))
