-- That the memory of the worked loop can be emitted.
use Rattle.std.proofs.Common.{◌≡◌, ℕ, ◌<◌, ◌++◌, List, [], ◌∷◌, length, flat_map, slice_index_or, All, inl, refl, sym, ap, subst, ◌∙◌, arith}
use Rattle.sp_words.specs.Types.{width_of}
use Rattle.sp_bank.specs.Banking.{InSpace}
use Rattle.sp_bank.specs.Places.{bank_length}
use Rattle.sp_bank.proofs.Gcd.{divides_multiple}
use Rattle.sp_netlist.specs.Rules.{IsLength}
use Rattle.sp_netlist.specs.Draft.{Draft}
use Rattle.sp_gates.specs.Grows.{Builds, Fills}
use Rattle.sp_gates.specs.Nets.{HasNet, Awaits}
use Rattle.sp_gates.proofs.Growing.{Fills-join}
use Rattle.sp_mem.specs.Fits.{words_of}
use Rattle.sp_places.specs.Layouts.{banking_of}
use Rattle.sp_taps.specs.declared.store.Store.{Store}
use Rattle.sp_taps.specs.Wires.{AreInRows, AreWires, Promises, wires_of}
use Rattle.sp_taps.specs.Stores.{AreStores}
use Rattle.sp_taps.proofs.Promised.{driven}
use Rattle.sp_taps.proofs.Rows.{stores_kept}
use Rattle.sp_requests.specs.Requests.{TouchFits}
use Rattle.sp_ring.proofs.Going.{wires_beside}
use Rattle.sp_banked.specs.declared.part.Banked.{Banked}
use Rattle.sp_banked.specs.Fits as banked
use Rattle.sp_worked_parts.specs.declared.counted.Stored.{Stored}
use Rattle.sp_worked_parts.specs.Counted.{StoreFits, IsStored}
use Rattle.sp_worked_parts.proofs.Fitting.{all_one, one_apart, touch_fits}

module _ (stored : Stored) (place y : ℕ) (part : Banked) (h : IsStored stored place y part) where
  banking : banking_of part.layout ≡ record { banks = 2; block = 1; alpha = 1 ∷ []; hinge = 0 }
  banking = rw (h.banks, h.block, h.alpha, h.hinge) refl

  space : InSpace (banking_of part.layout)
  space = subst InSpace (sym banking) (record {
    size = record { some_bank = omega arith; few_banks = omega arith; allowed_block = inl refl; some_dimension = omega arith; few_dimensions = omega arith; hinge_place = omega arith };
    weights = all_one (λ a. a < 2) (1 ∷ []) 1 refl (omega arith);
    hinge = (divides_multiple 1 1 1 (omega arith) (omega arith), divides_multiple 1 2 2 (omega arith) (omega arith), λ d a b. a);
  })

  size_is : banked.bank_size part ≡ 2
  size_is = ap (λ b. bank_length b part.layout.dims.items) banking ∙ ap (bank_length (record { banks = 2; block = 1; alpha = 1 ∷ []; hinge = 0 })) h.dims

  count_is : banked.bank_count part ≡ 2
  count_is = rw (h.duplicates, h.copies, h.banks) refl

  shape : banked.IsShape part
  shape = record {
    layout = record {
      space = space;
      rank = ap length h.dims ∙ sym (ap length h.alpha);
      sizes = all_one IsLength part.layout.dims.items 4 h.dims (omega arith, omega arith);
      small = let e = size_is in omega (arith, e);
    };
    copies = let e = h.copies in omega (arith, e);
    duplicates = let e = h.duplicates in omega (arith, e);
    few = let e = count_is in omega (arith, e);
    numbers = let e = count_is in let f = h.bank in omega (arith, e, f);
  }

  pub store_fits : (d : Draft) → StoreFits d stored → HasNet d place 32 → Awaits d y 32 → banked.BankedFits d part
  store_fits d a p e =
      let wide : width_of part.ty ≡ 32 = ap width_of h.ty in
      let dims = ap length h.dims in
      let w = h.writes in
      let r = h.reads in
      record {
        start = subst (λ n. HasNet d n 1) (sym h.start) a.done_net;
        shape = shape;
        writes = all_one (TouchFits d part.layout) part.writes.items w.touch w.are (touch_fits d part.layout stored.enable stored.element 0 stored.word w.touch w.is dims a.enable_net a.element_net);
        words = all_one (λ x. HasNet d x.word (width_of part.ty)) part.writes.items w.touch w.are (rw (wide, w.is.word_is) a.word_net);
        reads = all_one (TouchFits d part.layout) part.reads.items r.touch r.are (touch_fits d part.layout stored.done place 0 y r.touch r.is dims a.done_net p);
        found = all_one (λ x. Awaits d x.word (width_of part.ty)) part.reads.items r.touch r.are (rw (wide, r.is.word_is) e);
        duplicates = all_one (λ x. x.duplicate < part.duplicates) part.reads.items r.touch r.are (let n = r.is.duplicate_is in let m = h.duplicates in omega (arith, n, m));
        apart = one_apart part.reads.items r.touch r.are;
      }

  pub store_stores : (a d : Draft) (stores : List Store) → Fills a d [] → length stores ≡ 2 → ((first : ℕ) × AreInRows first stores) → All (AreWires a 32) stores → AreStores a 0 32 2 stores → banked.StoresFit d part stores
  store_stores a d stores f long rows wires banks =
      let wide : width_of part.ty ≡ 32 = ap width_of h.ty in
      record {
        each = long ∙ sym count_is;
        rows = rows;
        wires = rw wide (λ k e l. wires_beside a d 32 (slice_index_or stores k e) f (wires k e l));
        banks = rw (h.bank, wide, size_is) (stores_kept a d 0 32 2 stores f.grows banks);
      }

  pub store_drives : (a b c d : Draft) (stores : List Store) → Promises a b (flat_map wires_of stores) → Fills b c [] → Fills c d (flat_map wires_of stores ++ words_of part.reads.items) → Builds a d (y ∷ [])
  store_drives a b c d stores p f g =
      let r = h.reads in
      let words : words_of part.reads.items ≡ y ∷ [] = ap words_of r.are ∙ rw r.is.word_is refl in
      subst (Builds a d) words (driven a b d (flat_map wires_of stores) (words_of part.reads.items) p (Fills-join b c d [] (flat_map wires_of stores ++ words_of part.reads.items) f g))
