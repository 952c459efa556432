-- What is done to an SRAM fits its banks, and what stands in a draft still stands in a later one.
use Rattle.std.proofs.Common.{◌≡◌, ◌≢◌, ℕ, ◌-◌, ◌<◌, ◌≤◌, ◌^◌, ◌+◌, ◌*◌, min, inl, inr, true, List, [], ◌∷◌, length, map, All, Contains, refl, sym, ap, subst, ◌∙◌, arith}
use Rattle.std.specs.List.{AllZip, filter}
use Rattle.std.proofs.lemmas.List.Elements.{All-weaker, All-contains_itself}
use Rattle.sp_words.specs.declared.kind.Kind.{Kind}
use Rattle.sp_words.specs.declared.kind.Kind.TheVariants.{Reg, Sram, Fifo, LineBuf, Dram, ArgIn, ArgOut}
use Rattle.sp_words.specs.declared.types.Ty.{Ty}
use Rattle.sp_words.specs.Types.{width_of}
use Rattle.sp_bank.specs.Places.{bank_length}
use Rattle.sp_netlist.specs.Draft.{Draft, IsReady, IsKept}
use Rattle.sp_gates.specs.Grows.{Grows}
use Rattle.sp_gates.specs.Nets.{HasNet, IsOpen, Awaits}
use Rattle.sp_gates.proofs.Growing.{HasNet-stays}
use Rattle.sp_core.specs.declared.operation.OpKind.{OpKind}
use Rattle.sp_core.specs.declared.operation.OpKind.TheVariants.{Read, Write}
use Rattle.sp_core.specs.Declarations.{mem, kind_of, dims, depth}
use Rattle.sp_core.specs.PlainCore.{PlainCore}
use Rattle.sp_plan.specs.PlainPlan.{PlainPlan, mem_plan}
use Rattle.sp_mem.specs.declared.part.Touch.{Touch}
use Rattle.sp_mem.specs.Fits.{CopyFits, words_of}
use Rattle.sp_places.specs.declared.layout.Layout.{Layout}
use Rattle.sp_requests.specs.Requests.{TouchFits}
use Rattle.sp_taps.specs.declared.store.Store.{Store}
use Rattle.sp_taps.specs.Stores.{AreStores}
use Rattle.sp_banked.specs.declared.part.Banked.{Banked}
use Rattle.sp_banked.specs.Fits.{bank_count, BankedFits}
use Rattle.sp_op_nets.specs.Reserved.{Rise}
use Rattle.sp_part_runs.specs.ActsEntries.{index_words, word_that_changes}
use Rattle.sp_access_nets.specs.declared.access.AccessNets.{AccessNets}
use Rattle.sp_access_nets.specs.Picking.{is_to, PicksAccessesTo}
use Rattle.sp_tree_handed.specs.declared.owners.OwnerNets.{OwnerNets}
use Rattle.sp_tree_handed.specs.Scalars.{IsScalar, IsInBanks}
use Rattle.sp_tree_handed.specs.Standing.{AccessStands}
use Rattle.sp_tree_accesses.specs.Queued.{QueuedStands}
use Rattle.sp_memory_nets.specs.ScalarFits.{ScalarFits}
use Rattle.sp_memory_nets.specs.ScalarLists as scalar
use Rattle.sp_memory_nets.specs.ScalarLists.{answer_net, is_reader, answers_to}
use Rattle.sp_memory_nets.proofs.ScalarAnswering.{reader_answers, answer_in_to, apart}
use Rattle.sp_memory_nets.proofs.ScalarFitting.{accesses_stay, copies_stay}
use Rattle.sp_memory_nets.specs.FifoFits.{FifoFits}
use Rattle.sp_memory_nets.specs.ArrayArrays.{HasShapeOf, IsArrayOf}
use Rattle.sp_memory_nets.specs.ArrayBanks.{array_banking, banks_of_kind, size_of_kind}
use Rattle.sp_memory_nets.specs.ArrayFits.{AccessesFit, MemoryFits}
use Rattle.sp_memory_nets.specs.ArrayKinds.{IsEmitted}
use Rattle.sp_memory_nets.specs.ArrayTouches.{IsReadBy, IsWriteBy}
use Rattle.sp_memory_nets.proofs.ArrayShapes.{count_is, shape_is}
use Rattle.sp_memory_nets.proofs.ArrayZipping.{zip_all, zip_same, passing}

queued_stays : (a b : Draft) (core : PlainCore) (x : AccessNets) → Grows a b → QueuedStands a core x → QueuedStands b core x
queued_stays a b core x g h = record {
  some = h.some;
  word = λ e. HasNet-stays a b _ _ g (h.word e);
  answered = h.answered;
  later = h.later;
  unread = h.unread;
}

pub accesses_fit_stay : (a b : Draft) (core : PlainCore) (accesses : List AccessNets) → Grows a b → AccessesFit a core accesses → AccessesFit b core accesses
accesses_fit_stay a b core accesses g h = record {
  stand = accesses_stay a b core accesses g h.stand;
  copied = copies_stay a b accesses g h.copied;
  queued = All-weaker (QueuedStands a core) (QueuedStands b core) (λ x s. queued_stays a b core x g s) accesses h.queued;
  reads = h.reads;
}

pub scalar_of : (k : Kind) → IsEmitted k → k ≢ Sram → k ≢ Fifo → IsScalar k
scalar_of Reg s n f = tt
scalar_of ArgIn s n f = tt
scalar_of ArgOut s n f = tt
scalar_of Sram s n f = absurd (n refl)
scalar_of Fifo s n f = absurd (f refl)
scalar_of LineBuf s n f = absurd s
scalar_of Dram s n f = absurd s

-- a FIFO fits as one
pub fifo_fits : (d : Draft) (core : PlainCore) (plan : PlainPlan) (accesses : List AccessNets) (owners : OwnerNets) (port bank : ℕ) (stores : List Store) (start m : ℕ)
    → kind_of core m ≡ Fifo → MemoryFits d core plan accesses owners port bank stores start m → FifoFits d core plan accesses owners bank stores start m
fifo_fits d core plan accesses owners port bank stores start m fifo h = record {
  within = h.within;
  planned = h.planned.memories;
  fifo = fifo;
  starts = h.starts;
  accesses_stand = h.accesses_fit.stand;
  accesses_copied = h.accesses_fit.copied;
  queued = h.accesses_fit.queued;
  owners_stand = h.owners_stand;
  owners_copied = h.owners_copied;
  each = h.banks.each ∙ ap (λ k. banks_of_kind k ((mem_plan plan m).duplicates * ((mem_plan plan m).depth * (array_banking core plan m).banks)) (mem_plan plan m).depth) fifo;
  rows = h.banks.rows;
  wires = h.banks.wires;
  banks = subst (λ n. AreStores d bank (width_of (mem core m).ty) n stores) (ap (λ k. size_of_kind k (bank_length (array_banking core plan m) (dims core m)) (depth core m)) fifo) h.banks.banks;
  awaiting = h.awaiting;
  rise = h.rise;
}

-- a memory that is neither an SRAM nor a FIFO fits as one word
pub scalar_fits : (d : Draft) (core : PlainCore) (plan : PlainPlan) (accesses : List AccessNets) (owners : OwnerNets) (port bank : ℕ) (stores : List Store) (start m : ℕ)
    → kind_of core m ≢ Sram → kind_of core m ≢ Fifo → MemoryFits d core plan accesses owners port bank stores start m → ScalarFits d core plan accesses owners port start m
scalar_fits d core plan accesses owners port bank stores start m other fifo h = record {
  within = h.within;
  planned = h.planned.memories;
  copies = h.planned.copies m h.within;
  scalar = scalar_of (kind_of core m) h.stored other fifo;
  starts = h.starts;
  ported = h.ported;
  accesses_stand = h.accesses_fit.stand;
  accesses_copied = h.accesses_fit.copied;
  owners_stand = h.owners_stand;
  owners_copied = h.owners_copied;
  awaiting = h.awaiting;
  rise = h.rise;
}

below : (a d : ℕ) → 1 ≤ d → min a (d - 1) < d
below a d u = omega arith

twice : (xs : List AccessNets) → map (λ (p : scalar.PlainTouch). p.word) (map scalar.read_of xs) ≡ map (λ (a : AccessNets). answer_net a.answer) xs
twice [] = refl
twice (x ∷ xs) = ap (λ ns. answer_net x.answer ∷ ns) (twice xs)

-- the nets of the readers
pub words_are : (core : PlainCore) (plan : PlainPlan) (m : ℕ) (accesses : List AccessNets) (reads : List Touch) → AllZip (IsReadBy core plan) (filter (is_reader m) accesses) reads → words_of reads ≡ answers_to m accesses
words_are core plan m accesses reads zip =
    zip_same (IsReadBy core plan) (λ (a : AccessNets). answer_net a.answer) (λ (t : Touch). t.word) (λ a t is. is.word) (filter (is_reader m) accesses) reads zip ∙ sym (twice (filter (is_reader m) accesses))

-- what is known of an access
record Asked (d : Draft) (core : PlainCore) (accesses : List AccessNets) (a : AccessNets) : Type 0 where
  pub stand : AccessStands d core a
  pub copied : CopyFits d a.copy
  pub there : Contains accesses a

awaits_from : (d : Draft) (n width : ℕ) → HasNet d n width → IsOpen d n → Awaits d n width
awaits_from d n width h o = record { wide = h.wide; kept = kept_of h.ready; undriven = o.undriven }
  where
    kept_of : IsReady d n → IsKept d n
    kept_of (inl k) = k
    kept_of (inr e) = (let u = o.undriven in absurd (omega (arith, e, u)))

module _ (picks : PicksAccessesTo) (d : Draft) (core : PlainCore) (plan : PlainPlan) (accesses : List AccessNets) (owners : OwnerNets) (port bank : ℕ) (stores : List Store) (start m : ℕ)
    (fits : MemoryFits d core plan accesses owners port bank stores start m) (sram : kind_of core m ≡ Sram) where
  abbrev width : ℕ
  width = width_of (mem core m).ty

  abbrev Writes : AccessNets → Type 0
  Writes a = (is_to m Write a ≡ true) × Asked d core accesses a

  abbrev Reads : AccessNets → Type 0
  Reads a = (is_reader m a ≡ true) × Asked d core accesses a

  asked : All (Asked d core accesses) accesses
  asked = λ k e l. record { stand = fits.accesses_fit.stand k e l; copied = fits.accesses_fit.copied k e l; there = All-contains_itself accesses k e l }

  writes_asked : All Writes (filter (is_to m Write) accesses)
  writes_asked = passing (is_to m Write) (Asked d core accesses) accesses asked

  reads_asked : All Reads (filter (is_reader m) accesses)
  reads_asked = passing (is_reader m) (Asked d core accesses) accesses asked

  in_banks : (n : ℕ) → n ≡ m → IsInBanks (kind_of core n)
  in_banks n e = subst IsInBanks (sym (ap (kind_of core) e ∙ sram)) tt

  wide_at : (n k : ℕ) → k ≡ m → HasNet d n (width_of (mem core k).ty) → HasNet d n width
  wide_at n k e h = subst (λ j. HasNet d n (width_of (mem core j).ty)) e h

  touch_fits : (l : Layout) (kind : OpKind) (a : AccessNets) (touch : Touch) → l.dims.items ≡ dims core m → a.mem ≡ m → a.kind ≡ kind → Asked d core accesses a
      → touch.enable ≡ a.enable → touch.index.items ≡ index_words kind a.operands.items → touch.copy ≡ a.copy → TouchFits d l touch
  touch_fits l kind a touch sizes at is known enable index copy =
      let s = known.stand in
      let banks = in_banks a.mem at in
      record {
        enable = subst (λ n. HasNet d n 1) (sym enable) s.enable;
        copy = subst (CopyFits d) (sym copy) known.copied;
        rank = ap (λ (ns : List ℕ). length ns) index ∙ ap (λ k. length (index_words k a.operands.items)) (sym is) ∙ s.each_index banks ∙ ap (λ n. length (dims core n)) at ∙ ap (λ (ns : List ℕ). length ns) (sym sizes);
        index = subst (All (λ net. HasNet d net 32)) (sym index) (subst (λ k. All (λ net. HasNet d net 32) (index_words k a.operands.items)) is (s.index banks));
      }

  kind_read : (a : AccessNets) → Reads a → a.kind ≡ Read
  kind_read a k =
      let r = reader_answers m a k.0 in
      elim (fits.accesses_fit.reads a r.1 k.1.there r.2) [
        | inl read ↦ read
        | inr take ↦ absurd (let other : Fifo ≡ Sram = sym take.1 ∙ ap (kind_of core) r.0 ∙ sram in cc)
      ]

  word_found : (a : AccessNets) → Reads a → Awaits d (answer_net a.answer) width
  word_found a k =
      let r = reader_answers m a k.0 in
      let n = ap answer_net r.2 in
      awaits_from d (answer_net a.answer) width (subst (λ net. HasNet d net width) (sym n) (wide_at r.1.net a.mem r.0 (k.1.stand.answer r.1 r.2))) (fits.awaiting (answer_net a.answer) (answer_in_to m accesses a k.1.there k.0))

  word_written : (a : AccessNets) → Writes a → HasNet d (word_that_changes Write a.operands.items) width
  word_written a k =
      let is = (picks m Write a refl).0 k.0 in
      wide_at _ a.mem is.0 (subst (λ k. HasNet d (word_that_changes k a.operands.items) (width_of (mem core a.mem).ty)) is.1 (k.1.stand.word is.1))

  in_duplicate : (a : AccessNets) (touch : Touch) → IsReadBy core plan a touch → Reads a → touch.duplicate < (mem_plan plan m).duplicates
  in_duplicate a touch is k =
      let at = (reader_answers m a k.0).0 in
      subst (λ n. touch.duplicate < (mem_plan plan n).duplicates) at (subst (λ n. n < (mem_plan plan a.mem).duplicates) (sym is.duplicate) (below _ (mem_plan plan a.mem).duplicates (subst (λ n. 1 ≤ (mem_plan plan n).duplicates) (sym at) (fits.planned.duplicates m fits.within sram))))

  pub banked_fits : (part : Banked) → IsArrayOf core plan accesses m part → part.start ≡ start → part.bank ≡ bank → BankedFits d part
  banked_fits part is start_is bank_is =
      let shape : HasShapeOf core plan m part = record { layout = is.layout; ty = is.ty; copies = is.copies; duplicates = is.duplicates } in
      let same = count_is core plan m part sram shape in
      record {
        start = subst (λ n. HasNet d n 1) (sym start_is) fits.starts;
        shape = shape_is core plan m part sram shape fits.planned fits.within (subst (λ n. n < 2 ^ 32) (sym same) fits.banks.few)
            (subst (λ n. n + bank_count part < 2 ^ 64) (sym bank_is) (subst (λ n. bank + n < 2 ^ 64) (sym same) fits.banks.numbers));
        writes = zip_all IsWriteBy Writes (TouchFits d part.layout) (λ a t w k. let at = (picks m Write a refl).0 k.0 in touch_fits part.layout Write a t is.layout.sizes at.0 at.1 k.1 w.enable w.index w.copy)
            (filter (is_to m Write) accesses) part.writes.items is.writes writes_asked;
        words = zip_all IsWriteBy Writes (λ t. HasNet d t.word (width_of part.ty)) (λ a t w k. subst (λ n. HasNet d n (width_of part.ty)) (sym w.word) (subst (λ (ty : Ty). HasNet d (word_that_changes Write a.operands.items) (width_of ty)) (sym is.ty) (word_written a k)))
            (filter (is_to m Write) accesses) part.writes.items is.writes writes_asked;
        reads = zip_all (IsReadBy core plan) Reads (TouchFits d part.layout) (λ a t r k. touch_fits part.layout Read a t is.layout.sizes (reader_answers m a k.0).0 (kind_read a k) k.1 r.enable r.index r.copy)
            (filter (is_reader m) accesses) part.reads.items is.reads reads_asked;
        found = zip_all (IsReadBy core plan) Reads (λ t. Awaits d t.word (width_of part.ty)) (λ a t r k. subst (λ n. Awaits d n (width_of part.ty)) (sym r.word) (subst (λ (ty : Ty). Awaits d (answer_net a.answer) (width_of ty)) (sym is.ty) (word_found a k)))
            (filter (is_reader m) accesses) part.reads.items is.reads reads_asked;
        duplicates = zip_all (IsReadBy core plan) Reads (λ t. t.duplicate < part.duplicates) (λ a t r k. subst (λ n. t.duplicate < n) (sym is.duplicates) (in_duplicate a t r k)) (filter (is_reader m) accesses) part.reads.items is.reads reads_asked;
        apart = apart part.reads.items (subst (Rise 0) (sym (words_are core plan m accesses part.reads.items is.reads)) fits.rise);
      }
