-- The accesses of the memory in banks that the rows are, and its shape.
use Rattle.std.proofs.Common.{◌≡◌, ℕ, zero, suc, ◌<◌, ◌==◌, Bool, true, false, cond, List, [], ◌∷◌, length, All, refl, sym, ap, subst, ◌∙◌, arith}
use Rattle.std.proofs.lemmas.Bool.{false≢true}
use Rattle.std.specs.List.{AllZip}
use Rattle.std.proofs.lemmas.Nat.{mul-le}
use Rattle.sp_words.specs.Types.{width_of}
use Rattle.sp_bank.specs.Banking.{InSpace}
use Rattle.sp_bank.specs.Places.{bank_length}
use Rattle.sp_netlist.specs.Rules.{IsLength}
use Rattle.sp_netlist.specs.Draft.{Draft}
use Rattle.sp_netlist.specs.Signals.{Signals}
use Rattle.sp_gates.specs.Grows.{Grows}
use Rattle.sp_gates.specs.Nets.{HasNet, Awaits}
use Rattle.sp_gates.proofs.Growing.{HasNet-stays}
use Rattle.sp_gates.proofs.Running.{runs_earlier}
use Rattle.sp_mem.specs.declared.part.Touch.{Touch}
use Rattle.sp_mem.specs.Fits.{words_of, AreApart}
use Rattle.sp_mem.proofs.Kept.{copy_kept}
use Rattle.sp_places.specs.Layouts.{IsLayout, banking_of}
use Rattle.sp_taps.specs.declared.store.Store.{Store}
use Rattle.sp_requests.specs.Requests.{TouchFits}
use Rattle.sp_requests.proofs.Kept.{touch_kept}
use Rattle.sp_requests.proofs.Zips.{zip_kept, zip_at, zip_long}
use Rattle.sp_banked.specs.declared.part.Banked.{Banked}
use Rattle.sp_banked.specs.Fits as banked
use Rattle.sp_banked.specs.Runs.{reads_of}
use Rattle.sp_lines.specs.declared.part.Lines.{Lines}
use Rattle.sp_lines.specs.Spots.{read_spot, load_spot}
use Rattle.sp_lines.specs.Fits.{bank_count, bank_size, IsShape, StoresFit, AccessFits, IsSame, IsInner}

module _ (a b : Draft) (g : Grows a b) where
  pub inner_kept : (part : Lines) (turns : List ℕ) (spot : Signals → ℕ → Touch → List ℕ) (touch inner : Touch) → IsInner a part turns spot touch inner → IsInner b part turns spot touch inner
  inner_kept part turns spot touch inner h = record {
    enable = h.enable;
    word = h.word;
    duplicate = h.duplicate;
    fits = touch_kept a b g part.layout inner h.fits;
    column_is = λ s run. h.column_is s (runs_earlier a b s g run);
    row_is = λ s run. h.row_is s (runs_earlier a b s g run);
  }

  pub inners_kept : (part : Lines) (turns : List ℕ) (spot : Signals → ℕ → Touch → List ℕ) (touches inners : List Touch) → AllZip (IsInner a part turns spot) touches inners → AllZip (IsInner b part turns spot) touches inners
  inners_kept part turns spot touches inners h = zip_kept (IsInner a part turns spot) (IsInner b part turns spot) touches inners (inner_kept part turns spot) h

  pub accesses_kept : (rank : ℕ) (touches : List Touch) → All (AccessFits a rank) touches → All (AccessFits b rank) touches
  accesses_kept rank touches h = λ k d l. let was = h k d l in record {
    enable = HasNet-stays a b _ 1 g was.enable;
    copy = copy_kept a b g _ was.copy;
    rank = was.rank;
    index = λ j e m. HasNet-stays a b _ 32 g (was.index j e m);
  }

module _ (d : Draft) (part : Lines) (turns : List ℕ) (spot : Signals → ℕ → Touch → List ℕ) where
  pub inner_words : (touches inners : List Touch) → AllZip (IsInner d part turns spot) touches inners → words_of inners ≡ words_of touches
  inner_words [] [] is = refl
  inner_words [] (i ∷ inners) is = absurd is
  inner_words (w ∷ ws) [] is = absurd is
  inner_words (w ∷ ws) (i ∷ inners) is = ap (λ x. x ∷ words_of inners) is.0.word ∙ ap (λ xs. w.word ∷ xs) (inner_words ws inners is.1)

  -- what is known of each access's net is known of the inner one's
  pub word_known : (P : ℕ → Type 0) (touches inners : List Touch) → AllZip (IsInner d part turns spot) touches inners → All (λ w. P w.word) touches → All (λ w. P w.word) inners
  word_known P [] [] is h k e m = absurd (omega (arith, m))
  word_known P [] (i ∷ inners) is h k e m = absurd is
  word_known P (w ∷ ws) [] is h k e m = absurd is
  word_known P (w ∷ ws) (i ∷ inners) is h zero e m = subst P (sym is.0.word) (h 0 w (omega arith))
  word_known P (w ∷ ws) (i ∷ inners) is h (suc k) e m = word_known P ws inners is.1 (λ j q n. h (suc j) q (omega (arith, n))) k e (omega (arith, m))

  pub duplicates_known : (n : ℕ) (touches inners : List Touch) → AllZip (IsInner d part turns spot) touches inners → All (λ w. w.duplicate < n) touches → All (λ w. w.duplicate < n) inners
  duplicates_known n [] [] is h k e m = absurd (omega (arith, m))
  duplicates_known n [] (i ∷ inners) is h k e m = absurd is
  duplicates_known n (w ∷ ws) [] is h k e m = absurd is
  duplicates_known n (w ∷ ws) (i ∷ inners) is h zero e m = let same = is.0.duplicate in let below = h 0 w (omega arith) in omega (arith, same, below)
  duplicates_known n (w ∷ ws) (i ∷ inners) is h (suc k) e m = duplicates_known n ws inners is.1 (λ j q z. h (suc j) q (omega (arith, z))) k e (omega (arith, m))

  pub touches_fit : (touches inners : List Touch) → AllZip (IsInner d part turns spot) touches inners → All (TouchFits d part.layout) inners
  touches_fit [] [] is k e m = absurd (omega (arith, m))
  touches_fit [] (i ∷ inners) is k e m = absurd is
  touches_fit (w ∷ ws) [] is k e m = absurd is
  touches_fit (w ∷ ws) (i ∷ inners) is zero e m = is.0.fits
  touches_fit (w ∷ ws) (i ∷ inners) is (suc k) e m = touches_fit ws inners is.1 k e (omega (arith, m))

  apart_at : (w : Touch) (touches inners : List Touch) → AllZip (IsInner d part turns spot) touches inners → AreApart touches → AreApart inners
  apart_at w touches inners is apart i k r m n same =
      let long = zip_long (IsInner d part turns spot) touches inners is in
      let first = zip_at (IsInner d part turns spot) touches inners i w r is (omega (arith, long, m, n)) in
      let second = zip_at (IsInner d part turns spot) touches inners k w r is (omega (arith, long, n)) in
      apart i k w m (omega (arith, long, n)) (sym first.word ∙ same ∙ second.word)

  pub apart_known : (touches inners : List Touch) → AllZip (IsInner d part turns spot) touches inners → AreApart touches → AreApart inners
  apart_known [] [] is apart = λ i k r m n. absurd (omega (arith, n))
  apart_known [] (i ∷ inners) is apart = absurd is
  apart_known (w ∷ ws) inners is apart = apart_at w (w ∷ ws) inners is apart

  -- the accesses of one duplicate
  pub inner_filter : (n : ℕ) (touches inners : List Touch) → AllZip (IsInner d part turns spot) touches inners → AllZip (IsInner d part turns spot) (reads_of n touches) (reads_of n inners)
  inner_filter n [] [] is = is
  inner_filter n [] (i ∷ inners) is = absurd is
  inner_filter n (w ∷ ws) [] is = absurd is
  inner_filter n (w ∷ ws) (i ∷ inners) is = go (w.duplicate == n) (i.duplicate == n) (ap (λ k. k == n) (sym is.0.duplicate)) (inner_filter n ws inners is.1)
    where
      go : (x y : Bool) → x ≡ y → AllZip (IsInner d part turns spot) (reads_of n ws) (reads_of n inners)
          → AllZip (IsInner d part turns spot) (cond x (w ∷ reads_of n ws) (reads_of n ws)) (cond y (i ∷ reads_of n inners) (reads_of n inners))
      go true true e h = (is.0, h)
      go true false e h = absurd (false≢true (sym e))
      go false true e h = absurd (false≢true e)
      go false false e h = h

module _ (part : Lines) (inner : Banked) (same : IsSame part inner) where
  pub same_banking : banking_of inner.layout ≡ banking_of part.layout
  same_banking = rw (same.banks, same.block, same.alpha, same.hinge) refl

  pub same_count : banked.bank_count inner ≡ bank_count part
  same_count = rw (same.duplicates, same.copies, same.banks) refl

  pub same_size : banked.bank_size inner ≡ bank_size part
  same_size = ap (λ b. bank_length b inner.layout.dims.items) same_banking ∙ ap (bank_length (banking_of part.layout)) same.dims

  same_layout : IsLayout part.layout → IsLayout inner.layout
  same_layout h = record {
    space = subst InSpace (sym same_banking) h.space;
    rank = ap length same.dims ∙ h.rank ∙ sym (ap length same.alpha);
    sizes = subst (All IsLength) (sym same.dims) h.sizes;
    small = let size = same_size in let small = h.small in omega (arith, size, small);
  }

  pub same_shape : IsShape part → banked.IsShape inner
  same_shape h = record {
    layout = same_layout h.layout;
    copies = let few = mul-le 1 1 part.copies part.rows h.copies h.rows.0 in let is = same.copies in omega (arith, few, is);
    duplicates = let is = same.duplicates in let some = h.duplicates in omega (arith, is, some);
    few = let is = same_count in let few = h.few in omega (arith, is, few);
    numbers = let is = same_count in let bank = same.bank in let few = h.numbers in omega (arith, is, bank, few);
  }

  pub touches_same : (d : Draft) (touches : List Touch) → All (TouchFits d part.layout) touches → All (TouchFits d inner.layout) touches
  touches_same d touches h = λ k e m. let was = h k e m in record { enable = was.enable; copy = was.copy; rank = was.rank ∙ sym (ap length same.dims); index = was.index }

  pub same_stores : (d : Draft) (stores : List Store) → StoresFit d part stores → banked.StoresFit d inner stores
  same_stores d stores h = record {
    each = h.each ∙ sym same_count;
    rows = h.rows;
    wires = rw same.ty h.wires;
    banks = rw (same.bank, same.ty, same_size) h.banks;
  }

  module _ (d : Draft) (turns : List ℕ) (loads_spot reads_spot : Signals → ℕ → Touch → List ℕ) (writes_are : AllZip (IsInner d part turns loads_spot) part.loads.items inner.writes.items)
      (reads_are : AllZip (IsInner d part turns reads_spot) part.reads.items inner.reads.items) where
    pub same_fits : HasNet d part.start 1 → IsShape part → All (λ w. HasNet d w.word (width_of part.ty)) part.loads.items → All (λ r. Awaits d r.word (width_of part.ty)) part.reads.items
        → All (λ r. r.duplicate < part.duplicates) part.reads.items → AreApart part.reads.items → banked.BankedFits d inner
    same_fits start shape words found duplicates apart = record {
      start = rw same.start start;
      shape = same_shape shape;
      writes = touches_same d inner.writes.items (touches_fit d part turns loads_spot part.loads.items inner.writes.items writes_are);
      words = rw same.ty (word_known d part turns loads_spot (λ n. HasNet d n (width_of part.ty)) part.loads.items inner.writes.items writes_are words);
      reads = touches_same d inner.reads.items (touches_fit d part turns reads_spot part.reads.items inner.reads.items reads_are);
      found = rw same.ty (word_known d part turns reads_spot (λ n. Awaits d n (width_of part.ty)) part.reads.items inner.reads.items reads_are found);
      duplicates = rw same.duplicates (duplicates_known d part turns reads_spot part.duplicates part.reads.items inner.reads.items reads_are duplicates);
      apart = apart_known d part turns reads_spot part.reads.items inner.reads.items reads_are apart;
    }

-- the accesses that are written into the memory, in a later draft and over the nets that were collected
pub same_written : (a b : Draft) (part : Lines) (lent turns : List ℕ) (touches : List Touch) (inner : Banked) → lent ≡ turns → inner.writes.items ≡ touches → Grows a b
    → AllZip (IsInner a part lent (load_spot part.rows)) part.loads.items touches → AllZip (IsInner b part turns (load_spot part.rows)) part.loads.items inner.writes.items
same_written a b part lent turns touches inner e f g h =
    subst (λ (ts : List Touch). AllZip (IsInner b part turns (load_spot part.rows)) part.loads.items ts) (sym f)
    (subst (λ ns. AllZip (IsInner b part ns (load_spot part.rows)) part.loads.items touches) e (inners_kept a b g part lent (load_spot part.rows) part.loads.items touches h))

pub same_found : (d : Draft) (part : Lines) (lent turns : List ℕ) (touches : List Touch) (inner : Banked) → lent ≡ turns → inner.reads.items ≡ touches
    → AllZip (IsInner d part lent read_spot) part.reads.items touches → AllZip (IsInner d part turns read_spot) part.reads.items inner.reads.items
same_found d part lent turns touches inner e f h =
    subst (λ (ts : List Touch). AllZip (IsInner d part turns read_spot) part.reads.items ts) (sym f) (subst (λ ns. AllZip (IsInner d part ns read_spot) part.reads.items touches) e h)
