-- An access of the line buffer as one of the memory in banks.
use Rattle.std.proofs.Common.{◌≡◌, ℕ, zero, suc, ◌-◌, ◌<◌, List, [], ◌∷◌, length, map, slice_index, slice_index_or, All, Some, refl, sym, ap, subst, ◌∙◌, arith}
use Rattle.std.proofs.lemmas.List.{get_or_default}
use Rattle.sp_netlist.specs.Draft.{Draft}
use Rattle.sp_netlist.specs.Signals.{Signals}
use Rattle.sp_gates.specs.Nets.{HasNet}
use Rattle.sp_gates.specs.Runs.{RunsOn}
use Rattle.sp_mem.specs.declared.part.Touch.{Touch}
use Rattle.sp_mem.specs.Copies.{copy_at}
use Rattle.sp_mem.specs.Fits.{CopyFits}
use Rattle.sp_lines.specs.declared.part.Lines.{Lines}
use Rattle.sp_lines.specs.Turns.{row_of}
use Rattle.sp_lines.specs.Spots.{read_spot, load_spot}
use Rattle.sp_lines.specs.Fits.{AccessFits, IsInner}
use Rattle.sp_lines.proofs.Serving.{first_of, second_of}

pub index_net : (d : Draft) (many : ℕ) (touch : Touch) (k net : ℕ) → AccessFits d many touch → k < many → net ≡ slice_index_or touch.index.items k net → HasNet d net 32
index_net d many touch k net h l e =
    let rank = h.rank in
    let low : k < length touch.index.items = omega (arith, l, rank) in
    subst (λ n. HasNet d n 32) (sym e) (h.index k net low)

one_index : (xs : List ℕ) → length xs ≡ 1 → xs ≡ slice_index xs 0 ∷ []
one_index [] e = absurd (omega (arith, e))
one_index (x ∷ []) e = refl
one_index (x ∷ y ∷ xs) e = absurd (omega (arith, e))

two_indices : (xs : List ℕ) → length xs ≡ 2 → xs ≡ slice_index xs 0 ∷ slice_index xs 1 ∷ []
two_indices [] e = absurd (omega (arith, e))
two_indices (x ∷ []) e = absurd (omega (arith, e))
two_indices (x ∷ y ∷ []) e = refl
two_indices (x ∷ y ∷ z ∷ xs) e = absurd (omega (arith, e))

pub load_spot_is : (s : Signals) (t rows : ℕ) (touch : Touch) (newest column : ℕ) → length touch.index.items ≡ 1 → column ≡ slice_index_or touch.index.items 0 column → s.net t newest ≡ rows - 1
    → load_spot rows s t touch ≡ s.net t newest ∷ s.net t column ∷ []
load_spot_is s t rows touch newest column long e f =
    ap (λ (xs : List ℕ). (rows - 1) ∷ map (s.net t) xs) (one_index touch.index.items long) ∙ ap (λ n. n ∷ s.net t (slice_index touch.index.items 0) ∷ []) (sym f) ∙ ap (λ n. s.net t newest ∷ s.net t n ∷ []) (sym (e ∙ get_or_default touch.index.items 0 column 0 (omega (arith, long))))

pub read_spot_is : (s : Signals) (t : ℕ) (touch : Touch) (row column : ℕ) → length touch.index.items ≡ 2 → row ≡ slice_index_or touch.index.items 0 row → column ≡ slice_index_or touch.index.items 1 column
    → read_spot s t touch ≡ s.net t row ∷ s.net t column ∷ []
read_spot_is s t touch row column long e f =
    ap (map (s.net t)) (two_indices touch.index.items long) ∙ ap (λ n. s.net t n ∷ s.net t (slice_index touch.index.items 1) ∷ []) (sym (e ∙ get_or_default touch.index.items 0 row 0 (omega (arith, long))))
    ∙ ap (λ n. s.net t row ∷ s.net t n ∷ []) (sym (f ∙ get_or_default touch.index.items 1 column 0 (omega (arith, long))))

module _ (d : Draft) (part : Lines) (turns : List ℕ) (spot : Signals → ℕ → Touch → List ℕ) (touch inner : Touch) (row column number : ℕ) where
  copy_fits : inner.copy ≡ Some number → HasNet d number 32 → CopyFits d inner.copy
  copy_fits e h = subst (CopyFits d) (sym e) h

  index_fits : inner.index.items ≡ column ∷ [] → HasNet d column 32 → All (λ net. HasNet d net 32) inner.index.items
  index_fits e h = subst (λ (xs : List ℕ). All (λ net. HasNet d net 32) xs) (sym e) one
    where
      one : All (λ net. HasNet d net 32) (column ∷ [])
      one zero x l = h
      one (suc k) x l = absurd (omega (arith, l))

  pub inner_of : inner.enable ≡ touch.enable → inner.word ≡ touch.word → inner.duplicate ≡ touch.duplicate → inner.copy ≡ Some number → inner.index.items ≡ column ∷ [] → length part.layout.dims.items ≡ 1
      → HasNet d touch.enable 1 → HasNet d number 32 → HasNet d column 32 → ((s : Signals) → RunsOn s d.cells → (t : ℕ) → spot s t touch ≡ s.net t row ∷ s.net t column ∷ [])
      → ((s : Signals) → RunsOn s d.cells → (t : ℕ) → copy_at s t touch.copy < part.copies → s.net t row < part.rows → s.net t number ≡ row_of s t part.rows turns (copy_at s t touch.copy) (s.net t row))
      → IsInner d part turns spot touch inner
  inner_of enable word duplicate copy index columns enable_net number_net column_net spots numbers = record {
    enable = enable;
    word = word;
    duplicate = duplicate;
    fits = record {
      enable = subst (λ n. HasNet d n 1) (sym enable) enable_net;
      copy = copy_fits copy number_net;
      rank = ap length index ∙ sym columns;
      index = index_fits index column_net;
    };
    column_is = λ s run t r x e. ap (map (s.net t)) index ∙ ap (λ n. n ∷ []) (second_of _ _ _ _ (sym (spots s run t) ∙ e));
    row_is = λ s run t r x e l m.
        let same : s.net t row ≡ r = first_of _ _ _ _ (sym (spots s run t) ∙ e) in
        ap (copy_at s t) copy ∙ numbers s run t m (omega (arith, l, same)) ∙ ap (row_of s t part.rows turns (copy_at s t touch.copy)) same;
  }
