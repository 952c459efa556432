-- That the worked line buffer can be emitted.
use Rattle.std.proofs.Common.{◌≡◌, ◌≢◌, ℕ, ◌<◌, ◌++◌, List, [], ◌∷◌, length, flat_map, slice_index_or, All, inl, refl, sym, ap, subst, ◌∙◌, arith}
use Rattle.sp_words.specs.Types.{width_of}
use Rattle.sp_bank.specs.Banking.{InSpace}
use Rattle.sp_bank.specs.Places.{bank_length}
use Rattle.sp_bank.proofs.Gcd.{divides_multiple}
use Rattle.sp_netlist.specs.Rules.{IsLength}
use Rattle.sp_netlist.specs.Draft.{Draft}
use Rattle.sp_gates.specs.Grows.{Builds, Fills}
use Rattle.sp_gates.specs.Nets.{HasNet, Awaits}
use Rattle.sp_gates.proofs.Growing.{Fills-join}
use Rattle.sp_mem.specs.declared.part.Touch.{Touch}
use Rattle.sp_mem.specs.Fits.{FreshFits, words_of}
use Rattle.sp_places.specs.Layouts.{banking_of}
use Rattle.sp_taps.specs.declared.store.Store.{Store}
use Rattle.sp_taps.specs.Wires.{AreInRows, AreWires, Promises, wires_of}
use Rattle.sp_taps.specs.Stores.{AreStores}
use Rattle.sp_taps.proofs.Promised.{driven}
use Rattle.sp_taps.proofs.Rows.{stores_kept}
use Rattle.sp_ring.proofs.Going.{wires_beside}
use Rattle.sp_lines.specs.declared.part.Lines.{Lines}
use Rattle.sp_lines.specs.Fits.{bank_count, bank_size, IsShape, StoresFit, AccessFits, LinesFit}
use Rattle.sp_worked_parts.specs.declared.lines.RowInput.{RowInput}
use Rattle.sp_worked_parts.specs.Touches.{IsTouch}
use Rattle.sp_worked_parts.specs.Rows.{InputFits, IsLines}
use Rattle.sp_worked_parts.proofs.Fitting.{all_one, all_two, no_copy, two_apart}

access_fits : (d : Draft) (many enable : ℕ) (index : List ℕ) (duplicate word : ℕ) (touch : Touch) → IsTouch enable index duplicate word touch → length index ≡ many → HasNet d enable 1 → All (λ n. HasNet d n 32) index → AccessFits d many touch
access_fits d many enable index duplicate word touch h long e k = record {
  enable = subst (λ n. HasNet d n 1) (sym h.enable_is) e;
  copy = no_copy d touch.copy h.copy_is;
  rank = ap length h.index_is ∙ long;
  index = subst (All (λ n. HasNet d n 32)) (sym h.index_is) k;
}

module _ (input : RowInput) (y z : ℕ) (part : Lines) (h : IsLines input y z part) where
  banking : banking_of part.layout ≡ record { banks = 2; block = 1; alpha = 1 ∷ []; hinge = 0 }
  banking = rw (h.banks, h.block, h.alpha, h.hinge) refl

  space : InSpace (banking_of part.layout)
  space = subst InSpace (sym banking) (record {
    size = record { some_bank = omega arith; few_banks = omega arith; allowed_block = inl refl; some_dimension = omega arith; few_dimensions = omega arith; hinge_place = omega arith };
    weights = all_one (λ a. a < 2) (1 ∷ []) 1 refl (omega arith);
    hinge = (divides_multiple 1 1 1 (omega arith) (omega arith), divides_multiple 1 2 2 (omega arith) (omega arith), λ d a b. a);
  })

  size_is : bank_size part ≡ 1
  size_is = ap (λ b. bank_length b part.layout.dims.items) banking ∙ ap (bank_length (record { banks = 2; block = 1; alpha = 1 ∷ []; hinge = 0 })) h.dims

  count_is : bank_count part ≡ 12
  count_is = rw (h.duplicates, h.copies, h.rows, h.banks) refl

  shape : IsShape part
  shape = record {
    layout = record {
      space = space;
      rank = ap length h.dims ∙ sym (ap length h.alpha);
      sizes = all_one IsLength part.layout.dims.items 2 h.dims (omega arith, omega arith);
      small = let e = size_is in omega (arith, e);
    };
    columns = ap length h.dims;
    rows = let e = h.rows in (omega (arith, e), omega (arith, e));
    copies = let e = h.copies in omega (arith, e);
    duplicates = let e = h.duplicates in omega (arith, e);
    few = let e = count_is in omega (arith, e);
    numbers = let e = count_is in let f = h.bank in omega (arith, e, f);
  }

  pub lines_fits : (d : Draft) → InputFits d input → Awaits d y 32 → Awaits d z 32 → y ≢ z → LinesFit d part
  lines_fits d a e f far =
      let wide : width_of part.ty ≡ 32 = ap width_of h.ty in
      let w = h.loads in
      let r = h.reads in
      let column : All (λ n. HasNet d n 32) (input.one ∷ []) = all_one (λ n. HasNet d n 32) (input.one ∷ []) input.one refl a.one_net in
      let oldest : All (λ n. HasNet d n 32) (input.zero ∷ input.one ∷ []) = all_two (λ n. HasNet d n 32) (input.zero ∷ input.one ∷ []) input.zero input.one refl a.zero_net a.one_net in
      let second : All (λ n. HasNet d n 32) (input.one ∷ input.one ∷ []) = all_two (λ n. HasNet d n 32) (input.one ∷ input.one ∷ []) input.one input.one refl a.one_net a.one_net in
      record {
        start = subst (λ n. HasNet d n 1) (sym h.start) a.always_net;
        shape = shape;
        turns = all_one (FreshFits d) part.turns.items h.turns.turn h.turns.are (record { enable = subst (λ n. HasNet d n 1) (sym h.turns.enable_is) a.always_net; copy = no_copy d h.turns.turn.copy h.turns.copy_is });
        loads = all_one (AccessFits d 1) part.loads.items w.touch w.are (access_fits d 1 input.always (input.one ∷ []) 0 input.word w.touch w.is refl a.always_net column);
        words = all_one (λ x. HasNet d x.word (width_of part.ty)) part.loads.items w.touch w.are (rw (wide, w.is.word_is) a.word_net);
        reads = all_two (AccessFits d 2) part.reads.items r.first r.second r.are (access_fits d 2 input.always (input.zero ∷ input.one ∷ []) 0 y r.first r.first_is refl a.always_net oldest)
            (access_fits d 2 input.always (input.one ∷ input.one ∷ []) 1 z r.second r.second_is refl a.always_net second);
        found = all_two (λ x. Awaits d x.word (width_of part.ty)) part.reads.items r.first r.second r.are (rw (wide, r.first_is.word_is) e) (rw (wide, r.second_is.word_is) f);
        duplicates = all_two (λ x. x.duplicate < part.duplicates) part.reads.items r.first r.second r.are (let n = r.first_is.duplicate_is in let m = h.duplicates in omega (arith, n, m))
            (let n = r.second_is.duplicate_is in let m = h.duplicates in omega (arith, n, m));
        apart = two_apart part.reads.items r.first r.second r.are (λ same. far (sym r.first_is.word_is ∙ same ∙ r.second_is.word_is));
      }

  pub lines_stores : (a d : Draft) (stores : List Store) → Fills a d [] → length stores ≡ 12 → ((first : ℕ) × AreInRows first stores) → All (AreWires a 32) stores → AreStores a 0 32 1 stores → StoresFit d part stores
  lines_stores a d stores f long rows wires banks =
      let wide : width_of part.ty ≡ 32 = ap width_of h.ty in
      record {
        each = long ∙ sym count_is;
        rows = rows;
        wires = rw wide (λ k e l. wires_beside a d 32 (slice_index_or stores k e) f (wires k e l));
        banks = rw (h.bank, wide, size_is) (stores_kept a d 0 32 1 stores f.grows banks);
      }

  pub lines_drives : (a b c d : Draft) (stores : List Store) → Promises a b (flat_map wires_of stores) → Fills b c [] → Fills c d (flat_map wires_of stores ++ words_of part.reads.items) → Builds a d (y ∷ z ∷ [])
  lines_drives a b c d stores p f g =
      let r = h.reads in
      let words : words_of part.reads.items ≡ y ∷ z ∷ [] = ap words_of r.are ∙ rw (r.first_is.word_is, r.second_is.word_is) refl in
      subst (Builds a d) words (driven a b d (flat_map wires_of stores) (words_of part.reads.items) p (Fills-join b c d [] (flat_map wires_of stores ++ words_of part.reads.items) f g))
