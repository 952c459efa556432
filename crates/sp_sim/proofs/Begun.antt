-- A simulation begins with what a run begins with.
use Rattle.std.proofs.Common.{◌≡◌, ℕ, zero, suc, ◌+◌, ◌<◌, ◌^◌, min, List, [], ◌∷◌, ◌++◌, Bool, true, false, cond, nat_lt, ◌==◌, if◌then◌else◌, length, get_or, map, count_by, slice_index, Contains, refl, sym, ap, ◌∙◌, subst, arith, ⊎_elim, append_assoc, append-nil}
use Rattle.std.specs.List.{fold}
use Rattle.std.proofs.lemmas.Bool.{true≢false}
use Rattle.std.proofs.lemmas.List.{length-append, get_or_at}
use Rattle.std.proofs.lemmas.List.Elements.{Contains-push_cases}
use Rattle.std.proofs.lemmas.Nat.{pow_pos}
use Rattle.sp_words.specs.Types.{width_of}
use Rattle.sp_netlist.specs.Cells.{PlainCell, done_cell, in_cell, const_cell, op_cell, not_cell, shift_cell, cast_cell, mux_cell, reg_cell, read_tap, load_unit, store_unit}
use Rattle.sp_netlist.specs.Rules.{is_in, drives, driven_nets, is_computed, IsNetlist, IsRight}
use Rattle.sp_netlist.specs.Signals.{Setting, Signals, ready_word, Obeys}
use Rattle.sp_netlist.specs.Quiet.{IsQuiet}
use Rattle.sp_sim.specs.Given.{IsGiven}
use Rattle.sp_sim.specs.Rows.{word_of, with_word, nets_of}
use Rattle.sp_sim.specs.Settling.{cell_at, IsRow}
use Rattle.sp_sim.specs.Loading.{First, first_one}
use Rattle.sp_sim.proofs.RowLemmas.{word_of-put, put_right}
use Rattle.sp_sim.proofs.CellLemmas.{drives_driven, IsRow-put}
use Rattle.sp_sim.proofs.Settled.{only_one, pair_first, first_of_pair}
use Rattle.sp_sim.proofs.Served.{count_push, taken_delay, taken_next}

unfoldable pub zero_row : List ℕ → List (ℕ × ℕ)
zero_row ns = map (λ n. (n, 0)) ns

-- a row of zeros
pub zero_nets : (ns : List ℕ) → nets_of (zero_row ns) ≡ ns
unfolding zero_row
zero_nets [] = refl
zero_nets (n ∷ ns) = ap (λ ms. n ∷ ms) (zero_nets ns)

pub zero_words : (ns : List ℕ) (net : ℕ) → word_of (zero_row ns) net ≡ 0
unfolding zero_row word_of
zero_words [] net = refl
zero_words (n ∷ ns) net = ap (λ w. if n == net then 0 else w) (zero_words ns net) ∙ same (n == net)
  where
    same : (b : Bool) → ◌≡◌ {A = ℕ} (if b then 0 else 0) 0
    same true = refl
    same false = refl

at_split : (cells b : List PlainCell) (w : PlainCell) (v : List PlainCell) → cells ≡ b ++ w ∷ v → cell_at cells (length b) ≡ w
unfolding cell_at
at_split cells b w v j = ap (λ xs. get_or xs (length b) (done_cell 0)) j ∙ get_or_at b w v (done_cell 0) (length b) refl

pub record Begun (g : Setting) (s : Signals) (front : List PlainCell) (f : First) : Type 0 where
  pub seen : f.seen ≡ min (count_by is_in front) (length g.args)
  pub is_row : IsRow g.cells f.row
  pub none : (n : ℕ) → s.net 0 n ≡ 0 → word_of f.row n ≡ s.net 0 n
  pub made : (x : PlainCell) → Contains front x → is_computed x ≡ false → (n : ℕ) → Contains (map (λ p. p.0) (drives g.cells x)) n → word_of f.row n ≡ s.net 0 n

module _ (g : Setting) (h : IsNetlist g.cells) (s : Signals) where
  begun_put : (front : List PlainCell) (x : PlainCell) (f : First) (net v width seen : ℕ) → Begun g s front f → s.net 0 net ≡ v → Contains (driven_nets g.cells) (net, width) → v < 2 ^ width
      → ((n : ℕ) → Contains (map (λ p. p.0) (drives g.cells x)) n → n ≡ net) → seen ≡ min (count_by is_in (front ++ x ∷ [])) (length g.args)
      → Begun g s (front ++ x ∷ []) (record { row = with_word f.row net v; seen = seen })
  begun_put front x f net v width seen b e c fits only count = record {
    seen = count;
    is_row = IsRow-put g.cells h f.row b.is_row net width v c fits;
    none = λ n z. put_right (s.net 0) f.row net v n e (b.none n z);
    made = λ y k free n d. ⊎_elim
        (λ old. put_right (s.net 0) f.row net v n e (b.made y old free n d))
        (λ new. let same = only n (subst (λ z. Contains (map (λ (p : ℕ × ℕ). p.0) (drives g.cells z)) n) (sym new) d) in
        ap (word_of (with_word f.row net v)) same ∙ word_of-put f.row net v (b.is_row.covers net width c) ∙ sym e ∙ ap (s.net 0) (sym same))
        (Contains-push_cases front x y k);
  }

  begun_skip : (front : List PlainCell) (x : PlainCell) (f : First) → Begun g s front f → is_in x ≡ false → (is_computed x ≡ false → (n : ℕ) → Contains (map (λ p. p.0) (drives g.cells x)) n → s.net 0 n ≡ 0)
      → Begun g s (front ++ x ∷ []) f
  begun_skip front x f b i zeros = record {
    seen = b.seen ∙ ap (λ k. min k (length g.args)) (sym (count_push is_in front x ∙ ap (λ (t : Bool). count_by is_in front + cond t 1 0) i ∙ omega arith));
    is_row = b.is_row;
    none = b.none;
    made = λ y k free n d. ⊎_elim (λ old. b.made y old free n d)
        (λ new. b.none n (zeros (subst (λ z. is_computed z ≡ false) (sym new) free) n (subst (λ z. Contains (map (λ (p : ℕ × ℕ). p.0) (drives g.cells z)) n) (sym new) d)))
        (Contains-push_cases front x y k);
  }

  same_seen : (front : List PlainCell) (x : PlainCell) (f : First) → Begun g s front f → is_in x ≡ false → f.seen ≡ min (count_by is_in (front ++ x ∷ [])) (length g.args)
  same_seen front x f b i = b.seen ∙ ap (λ k. min k (length g.args)) (sym (count_push is_in front x ∙ ap (λ (t : Bool). count_by is_in front + cond t 1 0) i ∙ omega arith))

  begun_step : IsGiven g.cells g.args g.drams → (front : List PlainCell) (x : PlainCell) (rest : List PlainCell) → g.cells ≡ front ++ x ∷ rest → IsRight g.cells front x → Obeys g s front x
      → ((net width : ℕ) → Contains (drives g.cells x) (net, width) → Contains (driven_nets g.cells) (net, width))
      → (f : First) → Begun g s front f → Begun g s (front ++ x ∷ []) (first_one g.args f x)
  begun_step given front (in_cell name net ty) rest e r o d f b =
      let same = taken_delay g.args f.seen (count_by is_in front) b.seen in
      let count = count_push is_in front (in_cell name net ty) in
      begun_put front (in_cell name net ty) f net (slice_index g.args f.seen) (width_of ty) (if nat_lt f.seen (length g.args) then f.seen + 1 else f.seen) b
      (o 0 ∙ sym same) (d net (width_of ty) (0, omega arith, refl)) (subst (λ v. v < 2 ^ width_of ty) (sym same) (given.args_fit front name net ty rest e)) (λ n c. sym (only_one net n c))
      (taken_next true f.seen (count_by is_in front) (length g.args) b.seen ∙ ap (λ k. min k (length g.args)) (sym count))
  begun_step given front (const_cell net width word) rest e r o d f b =
      begun_put front (const_cell net width word) f net word width f.seen b (o 0) (d net width (0, omega arith, refl)) r.1 (λ n c. sym (only_one net n c)) (same_seen front (const_cell net width word) f b refl)
  begun_step given front (reg_cell net width first next enable) rest e r o d f b =
      begun_put front (reg_cell net width first next enable) f net first width f.seen b o.0 (d net width (0, omega arith, refl)) r.1 (λ n c. sym (only_one net n c)) (same_seen front (reg_cell net width first next enable) f b refl)
  begun_step given front (read_tap net bank enable addr) rest e r o d f b =
      begun_skip front (read_tap net bank enable addr) f b refl (λ free n c. ap (s.net 0) (sym (only_one net n c)) ∙ o.0)
  begun_step given front (load_unit channel dram ready net request last addr) rest e r o d f b =
      begun_skip front (load_unit channel dram ready net request last addr) f b refl (λ free n c. two ready net n c (o.0.shows 0 ∙ ap ready_word o.0.begins) o.1.0)
    where
      two : (a k n : ℕ) → Contains (a ∷ k ∷ []) n → s.net 0 a ≡ 0 → s.net 0 k ≡ 0 → s.net 0 n ≡ 0
      two a k n (zero, l, same) ea ek = ap (s.net 0) (sym same) ∙ ea
      two a k n (suc zero, l, same) ea ek = ap (s.net 0) (sym same) ∙ ek
      two a k n (suc (suc i), l, same) ea ek = absurd (omega (arith, l))
  begun_step given front (store_unit channel dram ready request last addr word) rest e r o d f b =
      begun_skip front (store_unit channel dram ready request last addr word) f b refl (λ free n c. ap (s.net 0) (sym (only_one ready n c)) ∙ o.shows 0 ∙ ap ready_word o.begins)
  begun_step given front (op_cell net ty op x y) rest e r o d f b = begun_skip front (op_cell net ty op x y) f b refl (λ free n c. absurd (true≢false free))
  begun_step given front (not_cell net ty x) rest e r o d f b = begun_skip front (not_cell net ty x) f b refl (λ free n c. absurd (true≢false free))
  begun_step given front (shift_cell net ty side x places) rest e r o d f b = begun_skip front (shift_cell net ty side x places) f b refl (λ free n c. absurd (true≢false free))
  begun_step given front (cast_cell net from to x) rest e r o d f b = begun_skip front (cast_cell net from to x) f b refl (λ free n c. absurd (true≢false free))
  begun_step given front (mux_cell net width choice x y) rest e r o d f b = begun_skip front (mux_cell net width choice x y) f b refl (λ free n c. absurd (true≢false free))
  begun_step given front _ rest e r o d f b = begun_skip front _ f b refl (λ free n c. let l = c.1 in absurd (omega arith))

  module _ (q : IsQuiet g s) (given : IsGiven g.cells g.args g.drams) where
    begun_all : (rest front : List PlainCell) (f : First) → g.cells ≡ front ++ rest → Begun g s front f → Begun g s g.cells (fold (first_one g.args) f rest)
    begun_all [] front f e b = subst (λ xs. Begun g s xs f) (sym (e ∙ append-nil front)) b
    begun_all (x ∷ rest) front f e b =
        begun_all rest (front ++ x ∷ []) (first_one g.args f x) (e ∙ sym (append_assoc front (x ∷ []) rest))
        (begun_step given front x rest e (h.right front x rest e) (q.run.cells front x rest e) (split_driven front x rest e) f b)
      where
        split_driven : (a : List PlainCell) (y : PlainCell) (z : List PlainCell) → g.cells ≡ a ++ y ∷ z → (net width : ℕ) → Contains (drives g.cells y) (net, width) → Contains (driven_nets g.cells) (net, width)
        split_driven a y z k net width c =
            let l : length a < length g.cells = omega (arith, ap length k, length-append a (y ∷ z)) in
            drives_driven g.cells (length a) net width l (subst (λ w. Contains (drives g.cells w) (net, width)) (sym (at_split g.cells a y z k)) c)

    pub first_begun : (ns : List ℕ) → ((net : ℕ) → (Contains ns net → Contains (map (λ p. p.0) (driven_nets g.cells)) net) × (Contains (map (λ p. p.0) (driven_nets g.cells)) net → Contains ns net))
        → Begun g s [] (record { row = map (λ n. (n, 0)) ns; seen = 0 })
    unfolding zero_row
    first_begun ns same = record {
      seen = omega arith;
      is_row = record {
        covers = λ net width c. subst (λ ms. Contains ms net) (sym (zero_nets ns)) ((same net).1 (pair_first (driven_nets g.cells) net width c));
        only = λ net c. first_of_pair (driven_nets g.cells) net ((same net).0 (subst (λ ms. Contains ms net) (zero_nets ns) c));
        fits = λ net width c. subst (λ w. w < 2 ^ width) (sym (zero_words ns net)) (pow_pos width);
      };
      none = λ n z. zero_words ns n ∙ sym z;
      made = λ x c free n d. let l = c.1 in absurd (omega arith);
    }

    -- the first row
    pub begun : (ns : List ℕ) → ((net : ℕ) → (Contains ns net → Contains (map (λ p. p.0) (driven_nets g.cells)) net) × (Contains (map (λ p. p.0) (driven_nets g.cells)) net → Contains ns net))
        → Begun g s g.cells (fold (first_one g.args) (record { row = map (λ n. (n, 0)) ns; seen = 0 }) g.cells)
    begun ns same = begun_all g.cells [] _ refl (first_begun ns same)
