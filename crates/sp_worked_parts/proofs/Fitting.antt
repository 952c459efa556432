-- That the worked memories can be emitted.
use Rattle.std.proofs.Common.{◌≡◌, ◌≢◌, ℕ, zero, suc, ◌<◌, ◌++◌, List, [], ◌∷◌, length, flat_map, slice_index_or, All, Option, None, inl, refl, sym, ap, subst, ◌∙◌, arith}
use Rattle.sp_words.specs.Types.{width_of}
use Rattle.sp_bank.specs.Banking.{InSpace}
use Rattle.sp_bank.specs.Places.{bank_length}
use Rattle.sp_bank.proofs.Gcd.{divides_multiple}
use Rattle.sp_netlist.specs.Rules.{IsLength}
use Rattle.sp_netlist.specs.Draft.{Draft}
use Rattle.sp_gates.specs.Grows.{Builds, Fills}
use Rattle.sp_gates.specs.Nets.{HasNet, Awaits}
use Rattle.sp_gates.proofs.Growing.{Fills-join}
use Rattle.sp_mem.specs.declared.part.Touch.{Touch}
use Rattle.sp_mem.specs.Fits.{CopyFits, WriteFits, FreshFits, AreApart, words_of}
use Rattle.sp_places.specs.declared.layout.Layout.{Layout}
use Rattle.sp_places.specs.Layouts.{banking_of}
use Rattle.sp_taps.specs.declared.store.Store.{Store}
use Rattle.sp_taps.specs.Wires.{AreInRows, AreWires, Promises, wires_of}
use Rattle.sp_taps.specs.Stores.{AreStores}
use Rattle.sp_taps.proofs.Promised.{driven}
use Rattle.sp_taps.proofs.Rows.{stores_kept}
use Rattle.sp_requests.specs.Requests.{TouchFits}
use Rattle.sp_ring.proofs.Going.{wires_beside}
use Rattle.sp_banked.specs.declared.part.Banked.{Banked}
use Rattle.sp_banked.specs.Fits as banked
use Rattle.sp_queue.specs.declared.part.Queue.{Queue}
use Rattle.sp_queue.specs.Takes.{QueueFits, BanksFit}
use Rattle.sp_queue_copies.specs.Events.{TouchFits as QueueTouchFits}
use Rattle.sp_worked_parts.specs.declared.memory.Asked.{Asked}
use Rattle.sp_worked_parts.specs.declared.queue.Asked.{Asked as QueueAsked}
use Rattle.sp_worked_parts.specs.Touches.{IsTouch}
use Rattle.sp_worked_parts.specs.Memory as memory
use Rattle.sp_worked_parts.specs.Queue as queue

-- what holds of one, and of two, holds of all
pub all_one : {X : Type 0} (P : X → Type 0) (xs : List X) (x : X) → xs ≡ x ∷ [] → P x → All P xs
all_one P xs x e h = subst (All P) (sym e) one
  where
    one : All P (x ∷ [])
    one zero d l = h
    one (suc k) d l = absurd (omega (arith, l))

pub all_two : {X : Type 0} (P : X → Type 0) (xs : List X) (x y : X) → xs ≡ x ∷ y ∷ [] → P x → P y → All P xs
all_two P xs x y e h k = subst (All P) (sym e) two
  where
    two : All P (x ∷ y ∷ [])
    two zero d l = h
    two (suc zero) d l = k
    two (suc (suc n)) d l = absurd (omega (arith, l))

pub all_none : {X : Type 0} (P : X → Type 0) (xs : List X) → xs ≡ [] → All P xs
all_none P xs e = subst (All P) (sym e) none
  where
    none : All P []
    none k d l = absurd (omega (arith, l))

pub no_copy : (d : Draft) (copy : Option ℕ) → copy ≡ None → CopyFits d copy
no_copy d copy e = subst (CopyFits d) (sym e) tt

pub touch_fits : (d : Draft) (l : Layout) (enable net duplicate word : ℕ) (touch : Touch) → IsTouch enable (net ∷ []) duplicate word touch → length l.dims.items ≡ 1 → HasNet d enable 1 → HasNet d net 32 → TouchFits d l touch
touch_fits d l enable net duplicate word touch h long e k = record {
  enable = subst (λ n. HasNet d n 1) (sym h.enable_is) e;
  copy = no_copy d touch.copy h.copy_is;
  rank = ap length h.index_is ∙ sym long;
  index = all_one (λ n. HasNet d n 32) touch.index.items net h.index_is k;
}

pub two_apart : (touches : List Touch) (first second : Touch) → touches ≡ first ∷ second ∷ [] → first.word ≢ second.word → AreApart touches
two_apart touches first second e far = subst AreApart (sym e) apart
  where
    apart : AreApart (first ∷ second ∷ [])
    apart zero (suc zero) d l m same = far same
    apart zero (suc (suc k)) d l m same = absurd (omega (arith, m))
    apart (suc i) k d l m same = absurd (omega (arith, l, m))
    apart zero zero d l m same = absurd (omega (arith, l))

pub one_apart : (touches : List Touch) (first : Touch) → touches ≡ first ∷ [] → AreApart touches
one_apart touches first e = subst AreApart (sym e) apart
  where
    apart : AreApart (first ∷ [])
    apart i k d l m same = absurd (omega (arith, l, m))

module _ (asked : Asked) (y z : ℕ) (part : Banked) (h : memory.IsMemory asked y z part) where
  banking : banking_of part.layout ≡ record { banks = 2; block = 1; alpha = 1 ∷ []; hinge = 0 }
  banking = rw (h.banks, h.block, h.alpha, h.hinge) refl

  space : InSpace (banking_of part.layout)
  space = subst InSpace (sym banking) (record {
    size = record { some_bank = omega arith; few_banks = omega arith; allowed_block = inl refl; some_dimension = omega arith; few_dimensions = omega arith; hinge_place = omega arith };
    weights = all_one (λ a. a < 2) (1 ∷ []) 1 refl (omega arith);
    hinge = (divides_multiple 1 1 1 (omega arith) (omega arith), divides_multiple 1 2 2 (omega arith) (omega arith), λ d a b. a);
  })

  size_is : banked.bank_size part ≡ 2
  size_is = ap (λ b. bank_length b part.layout.dims.items) banking ∙ ap (bank_length (record { banks = 2; block = 1; alpha = 1 ∷ []; hinge = 0 })) h.dims

  count_is : banked.bank_count part ≡ 4
  count_is = rw (h.duplicates, h.copies, h.banks) refl

  shape : banked.IsShape part
  shape = record {
    layout = record {
      space = space;
      rank = ap length h.dims ∙ sym (ap length h.alpha);
      sizes = all_one IsLength part.layout.dims.items 4 h.dims (omega arith, omega arith);
      small = let e = size_is in omega (arith, e);
    };
    copies = let e = h.copies in omega (arith, e);
    duplicates = let e = h.duplicates in omega (arith, e);
    few = let e = count_is in omega (arith, e);
    numbers = let e = count_is in let f = h.bank in omega (arith, e, f);
  }

  pub memory_fits : (d : Draft) → memory.AskedFits d asked → Awaits d y 32 → Awaits d z 32 → y ≢ z → banked.BankedFits d part
  memory_fits d a e f far =
      let wide : width_of part.ty ≡ 32 = ap width_of h.ty in
      let dims = ap length h.dims in
      let w = h.writes in
      let r = h.reads in
      record {
        start = subst (λ n. HasNet d n 1) (sym h.start) a.write_net;
        shape = shape;
        writes = all_one (TouchFits d part.layout) part.writes.items w.touch w.are (touch_fits d part.layout asked.write asked.element 0 asked.word w.touch w.is dims a.write_net a.element_net);
        words = all_one (λ x. HasNet d x.word (width_of part.ty)) part.writes.items w.touch w.are (rw (wide, w.is.word_is) a.word_net);
        reads = all_two (TouchFits d part.layout) part.reads.items r.first r.second r.are (touch_fits d part.layout asked.read asked.up 0 y r.first r.first_is dims a.read_net a.up_net)
            (touch_fits d part.layout asked.read asked.down 1 z r.second r.second_is dims a.read_net a.down_net);
        found = all_two (λ x. Awaits d x.word (width_of part.ty)) part.reads.items r.first r.second r.are (rw (wide, r.first_is.word_is) e) (rw (wide, r.second_is.word_is) f);
        duplicates = all_two (λ x. x.duplicate < part.duplicates) part.reads.items r.first r.second r.are (let n = r.first_is.duplicate_is in let m = h.duplicates in omega (arith, n, m))
            (let n = r.second_is.duplicate_is in let m = h.duplicates in omega (arith, n, m));
        apart = two_apart part.reads.items r.first r.second r.are (λ same. far (sym r.first_is.word_is ∙ same ∙ r.second_is.word_is));
      }

  pub memory_stores : (a d : Draft) (stores : List Store) → Fills a d [] → length stores ≡ 4 → ((first : ℕ) × AreInRows first stores) → All (AreWires a 32) stores → AreStores a 0 32 2 stores → banked.StoresFit d part stores
  memory_stores a d stores f long rows wires banks =
      let wide : width_of part.ty ≡ 32 = ap width_of h.ty in
      record {
        each = long ∙ sym count_is;
        rows = rows;
        wires = rw wide (λ k e l. wires_beside a d 32 (slice_index_or stores k e) f (wires k e l));
        banks = rw (h.bank, wide, size_is) (stores_kept a d 0 32 2 stores f.grows banks);
      }

  pub memory_drives : (a b c d : Draft) (stores : List Store) → Promises a b (flat_map wires_of stores) → Fills b c [] → Fills c d (flat_map wires_of stores ++ words_of part.reads.items) → Builds a d (y ∷ z ∷ [])
  memory_drives a b c d stores p f g =
      let r = h.reads in
      let words : words_of part.reads.items ≡ y ∷ z ∷ [] = ap words_of r.are ∙ rw (r.first_is.word_is, r.second_is.word_is) refl in
      subst (Builds a d) words (driven a b d (flat_map wires_of stores) (words_of part.reads.items) p (Fills-join b c d [] (flat_map wires_of stores ++ words_of part.reads.items) f g))

module _ (asked : QueueAsked) (y : ℕ) (part : Queue) (h : queue.IsQueue asked y part) where
  pub queue_fits : (d : Draft) → queue.AskedFits d asked → Awaits d y 32 → QueueFits d part
  queue_fits d a e =
      let wide : width_of part.ty ≡ 32 = ap width_of h.ty in
      let p = h.puts in
      let t = h.takes in
      record {
        start = subst (λ n. HasNet d n 1) (sym h.start) a.put_net;
        depth = let n = h.depth in (omega (arith, n), omega (arith, n));
        fresh = all_none (FreshFits d) part.fresh.items h.fresh;
        puts = all_one (WriteFits d (width_of part.ty)) part.puts.items p.touch p.are
            (record { enable = subst (λ n. HasNet d n 1) (sym p.is.enable_is) a.put_net; copy = no_copy d p.touch.copy p.is.copy_is; word = rw (wide, p.is.word_is) a.word_net });
        takes = record {
          takes = all_one (QueueTouchFits d) part.takes.items t.touch t.are (record { enable = subst (λ n. HasNet d n 1) (sym t.is.enable_is) a.take_net; copy = no_copy d t.touch.copy t.is.copy_is });
          found = all_one (λ x. Awaits d x.word (width_of part.ty)) part.takes.items t.touch t.are (rw (wide, t.is.word_is) e);
          apart = one_apart part.takes.items t.touch t.are;
        };
      }

  pub queue_stores : (a d : Draft) (stores : List Store) → Fills a d [] → length stores ≡ 1 → ((first : ℕ) × AreInRows first stores) → All (AreWires a 32) stores → AreStores a 0 32 4 stores → BanksFit d part stores
  queue_stores a d stores f long rows wires banks =
      let wide : width_of part.ty ≡ 32 = ap width_of h.ty in
      record {
        each = long ∙ sym h.copies;
        rows = rows;
        wires = rw wide (λ k e l. wires_beside a d 32 (slice_index_or stores k e) f (wires k e l));
        banks = rw (h.bank, wide, h.depth) (stores_kept a d 0 32 4 stores f.grows banks);
      }

  pub queue_drives : (a b c d : Draft) (stores : List Store) → Promises a b (flat_map wires_of stores) → Fills b c [] → Fills c d (flat_map wires_of stores ++ words_of part.takes.items) → Builds a d (y ∷ [])
  queue_drives a b c d stores p f g =
      let t = h.takes in
      let words : words_of part.takes.items ≡ y ∷ [] = ap words_of t.are ∙ rw t.is.word_is refl in
      subst (Builds a d) words (driven a b d (flat_map wires_of stores) (words_of part.takes.items) p (Fills-join b c d [] (flat_map wires_of stores ++ words_of part.takes.items) f g))
