-- A register of a memory fits, and what stands in a draft still stands in a later one.
use Rattle.std.proofs.Common.{◌≡◌, ℕ, zero, suc, ◌<◌, ◌≤◌, ◌^◌, inl, inr, Bool, true, false, ◌&&◌, List, [], ◌∷◌, length, map, slice_index_or, All, Contains, Option, Some, None, refl, sym, ap, subst, arith}
use Rattle.std.specs.List.{filter, list_all}
use Rattle.std.proofs.lemmas.Bool.{true≢false, and_parts, ltb-true, eqb-true}
use Rattle.std.proofs.lemmas.List.Elements.{All-nil, All-append, All-weaker, All-contains_itself}
use Rattle.std.proofs.lemmas.Nat.{pow_pos}
use Rattle.sp_words.specs.declared.kind.Kind.{Kind}
use Rattle.sp_words.specs.declared.kind.Kind.TheVariants.{Reg, Sram, Fifo, LineBuf, Dram, ArgIn, ArgOut}
use Rattle.sp_words.specs.declared.types.Ty.{Ty}
use Rattle.sp_words.specs.Types.{width_of}
use Rattle.sp_netlist.specs.Draft.{Draft, IsReady, IsKept}
use Rattle.sp_gates.specs.Grows.{Grows, Fills}
use Rattle.sp_gates.specs.Nets.{HasNet, IsOpen, Awaits}
use Rattle.sp_gates.proofs.Growing.{HasNet-stays}
use Rattle.sp_core.specs.declared.operation.OpKind.TheVariants.{Write, Reset}
use Rattle.sp_core.specs.Declarations.{mem}
use Rattle.sp_core.specs.Invariant.{IsCore}
use Rattle.sp_core.specs.MemoryRules.{has_rank, has_start, has_words, is_mem_right}
use Rattle.sp_core.specs.PlainCore.{PlainMem, PlainCore, no_mem}
use Rattle.sp_core.specs.Sequential.{has_reset}
use Rattle.sp_plan.specs.PlainPlan.{PlainPlan}
use Rattle.sp_mem.specs.declared.part.Touch.{Touch}
use Rattle.sp_mem.specs.declared.part.Register.{Register}
use Rattle.sp_mem.specs.Copies.{first_word}
use Rattle.sp_mem.specs.Fits.{CopyFits, FreshFits, WriteFits, ReadFits, RegisterFits, AreApart}
use Rattle.sp_mem.proofs.Kept.{copy_kept}
use Rattle.sp_mem.proofs.Waiting.{awaits_kept}
use Rattle.sp_op_nets.specs.Reserved.{Rise}
use Rattle.sp_part_runs.specs.ActsEntries.{index_words, word_that_changes}
use Rattle.sp_access_nets.specs.declared.access.AccessNets.{AccessNets}
use Rattle.sp_access_nets.specs.Picking.{is_to, PicksAccessesTo}
use Rattle.sp_tree_handed.specs.declared.owners.Keeping.{Keeping}
use Rattle.sp_tree_handed.specs.declared.owners.OwnerNets.{OwnerNets}
use Rattle.sp_tree_handed.specs.declared.owners.Renewal.{Renewal}
use Rattle.sp_tree_handed.specs.Standing.{AccessStands, KeepingStands, OwnersStand}
use Rattle.sp_memory_nets.specs.ScalarFits.{OwnersNameCopies, ScalarFits}
use Rattle.sp_memory_nets.specs.ScalarLists.{PlainTouch, plain_touch, answer_net, write_of, state_of, reset_of, renewal_of, read_of, is_kept, is_renewed, is_reader, writes_to, renewals_to, fresh_to, reads_to, answers_to}
use Rattle.sp_memory_nets.specs.ScalarRuns.{IsPartOf}
use Rattle.sp_memory_nets.proofs.ScalarPicked.{each_of, unmapped}
use Rattle.sp_memory_nets.proofs.ScalarAnswering.{reader_answers, answer_in_to, words_are, apart}

-- a later draft
pub access_stays : (a b : Draft) (core : PlainCore) (x : AccessNets) → Grows a b → AccessStands a core x → AccessStands b core x
access_stays a b core x g h = record {
  enable = HasNet-stays a b _ 1 g h.enable;
  some = h.some;
  word = λ e. HasNet-stays a b _ _ g (h.word e);
  answer = λ w e. HasNet-stays a b _ _ g (h.answer w e);
  later = h.later;
  index = λ banks. All-weaker (λ net. HasNet a net 32) (λ net. HasNet b net 32) (λ net s. HasNet-stays a b net 32 g s) (index_words x.kind x.operands.items) (h.index banks);
  each_index = h.each_index;
}

pub accesses_stay : (a b : Draft) (core : PlainCore) (xs : List AccessNets) → Grows a b → All (AccessStands a core) xs → All (AccessStands b core) xs
accesses_stay a b core xs g h = All-weaker (AccessStands a core) (AccessStands b core) (λ x s. access_stays a b core x g s) xs h

pub owners_stay : (a b : Draft) (core : PlainCore) (owners : OwnerNets) → Grows a b → OwnersStand a core owners → OwnersStand b core owners
owners_stay a b core owners g h = record {
  renewed = All-weaker (λ (r : Renewal). HasNet a r.first 1) (λ r. HasNet b r.first 1) (λ r s. HasNet-stays a b r.first 1 g s) owners.renewed.items h.renewed;
  kept = All-weaker (KeepingStands a core) (KeepingStands b core) (λ k s. record { done = HasNet-stays a b k.done 1 g s.done; word = HasNet-stays a b k.word _ g s.word }) owners.kept.items h.kept;
}

pub copies_stay : (a b : Draft) (accesses : List AccessNets) → Grows a b → All (λ (x : AccessNets). CopyFits a x.copy) accesses → All (λ (x : AccessNets). CopyFits b x.copy) accesses
copies_stay a b accesses g h = All-weaker (λ (x : AccessNets). CopyFits a x.copy) (λ (x : AccessNets). CopyFits b x.copy) (λ x s. copy_kept a b g x.copy s) accesses h

pub owners_copies_stay : (a b : Draft) (owners : OwnerNets) → Grows a b → OwnersNameCopies a owners → OwnersNameCopies b owners
owners_copies_stay a b owners g h = record {
  renewed = All-weaker (λ (r : Renewal). CopyFits a r.copy) (λ (r : Renewal). CopyFits b r.copy) (λ r s. copy_kept a b g r.copy s) owners.renewed.items h.renewed;
  kept = All-weaker (λ (k : Keeping). CopyFits a k.copy) (λ (k : Keeping). CopyFits b k.copy) (λ k s. copy_kept a b g k.copy s) owners.kept.items h.kept;
}

-- a start is a word of the memory
some_start : (kind : Kind) (ty : Ty) (start : Option ℕ) → has_start kind ty start ≡ true → 0 < 2 ^ width_of ty → first_word start < 2 ^ width_of ty
some_start _ ty None h z = z
some_start Reg ty (Some w) h z = ltb-true w (2 ^ width_of ty) h
some_start Sram ty (Some w) h z = absurd (true≢false (sym h))
some_start Fifo ty (Some w) h z = absurd (true≢false (sym h))
some_start LineBuf ty (Some w) h z = absurd (true≢false (sym h))
some_start Dram ty (Some w) h z = absurd (true≢false (sym h))
some_start ArgIn ty (Some w) h z = absurd (true≢false (sym h))
some_start ArgOut ty (Some w) h z = absurd (true≢false (sym h))

right_at : (ms : List PlainMem) (m : ℕ) → list_all is_mem_right ms ≡ true → m < length ms → is_mem_right (slice_index_or ms m no_mem) ≡ true
right_at [] m h l = absurd (omega (arith, l))
right_at (x ∷ ms) zero h l = (and_parts (is_mem_right x) (list_all is_mem_right ms) h).0
right_at (x ∷ ms) (suc m) h l = right_at ms m (and_parts (is_mem_right x) (list_all is_mem_right ms) h).1 (omega (arith, l))

-- a memory of a core keeps the core's rules
pub memory_right : (core : PlainCore) (m : ℕ) → IsCore core → m < length core.mems → is_mem_right (mem core m) ≡ true
memory_right core m is_core l = right_at core.mems m (and_parts _ _ is_core.memories).0 l

pub start_fits : (core : PlainCore) (m : ℕ) → IsCore core → m < length core.mems → first_word (mem core m).start < 2 ^ width_of (mem core m).ty
start_fits core m is_core l =
    let right = memory_right core m is_core l in
    let x = mem core m in
    let shape = (and_parts (has_rank x.kind (length x.dims) && has_start x.kind x.ty x.start) (has_words 4194304 x.dims) right).0 in
    some_start x.kind x.ty x.start (and_parts (has_rank x.kind (length x.dims)) (has_start x.kind x.ty x.start) shape).1 (pow_pos (width_of x.ty))

-- the width of a memory's words
abbrev pub width_at : PlainCore → (m : ℕ) → ℕ
width_at core m = width_of (mem core m).ty

pub wide_at : (d : Draft) (core : PlainCore) (m n k : ℕ) → k ≡ m → HasNet d n (width_at core k) → HasNet d n (width_at core m)
wide_at d core m n k e h = subst (λ j. HasNet d n (width_at core j)) e h

-- what makes a memory fresh
module _ (d : Draft) (core : PlainCore) (accesses : List AccessNets) (owners : OwnerNets) (m : ℕ) (stand : All (AccessStands d core) accesses) (copied : All (λ (a : AccessNets). CopyFits d a.copy) accesses) (owned : OwnersStand d core owners) (named : OwnersNameCopies d owners) where
  renewals_fit : (b : Bool) → All (FreshFits d) (renewals_to b m owners.renewed.items)
  renewals_fit true = each_of renewal_of (FreshFits d) (is_renewed m) (λ (r : Renewal). HasNet d r.first 1 × CopyFits d r.copy) owners.renewed.items (λ k e l. (owned.renewed k e l, named.renewed k e l)) (λ r t s. record { enable = s.0; copy = s.1 })
  renewals_fit false = All-nil (FreshFits d)

  pub fresh_fits : All (FreshFits d) (fresh_to core m accesses owners)
  fresh_fits = All-append (FreshFits d) (map reset_of (filter (is_to m Reset) accesses)) (renewals_to (has_reset (mem core m).kind (mem core m).start) m owners.renewed.items)
      (each_of reset_of (FreshFits d) (is_to m Reset) (λ a. AccessStands d core a × CopyFits d a.copy) accesses (λ k e l. (stand k e l, copied k e l)) (λ a t s. record { enable = s.0.enable; copy = s.1 }))
      (renewals_fit (has_reset (mem core m).kind (mem core m).start))

-- an access that gives a word to a memory
pub record IsGiving (d : Draft) (width : ℕ) (p : PlainTouch) : Type 0 where
  pub copy : CopyFits d p.copy
  pub enable : HasNet d p.enable 1
  pub word : HasNet d p.word width

pub gives_fit : (d : Draft) (width : ℕ) (ps : List PlainTouch) (writes : List Touch) → map plain_touch writes ≡ ps → All (IsGiving d width) ps → All (WriteFits d width) writes
gives_fit d width ps writes e all =
    let h = unmapped plain_touch (IsGiving d width) writes (subst (All (IsGiving d width)) (sym e) all) in
    λ k w l. let it = h k w l in record { enable = it.enable; copy = it.copy; word = it.word }

-- an access whose word a memory is to drive
pub record IsWaiting (d : Draft) (width : ℕ) (p : PlainTouch) : Type 0 where
  pub copy : CopyFits d p.copy
  pub enable : HasNet d p.enable 1
  pub word : Awaits d p.word width

awaits_from : (d : Draft) (n width : ℕ) → HasNet d n width → IsOpen d n → Awaits d n width
awaits_from d n width h o = record { wide = h.wide; kept = kept_of h.ready; undriven = o.undriven }
  where
    kept_of : IsReady d n → IsKept d n
    kept_of (inl k) = k
    kept_of (inr e) = (let u = o.undriven in absurd (omega (arith, e, u)))

-- the accesses that are to be answered
module _ (d : Draft) (core : PlainCore) (accesses : List AccessNets) (m : ℕ) (stand : All (AccessStands d core) accesses) (copied : All (λ (a : AccessNets). CopyFits d a.copy) accesses) (awaiting : (net : ℕ) → Contains (answers_to m accesses) net → IsOpen d net) where
  reads_wait : All (IsWaiting d (width_at core m)) (reads_to m accesses)
  reads_wait = each_of read_of (IsWaiting d (width_at core m)) (is_reader m) (λ a. AccessStands d core a × CopyFits d a.copy × Contains accesses a) accesses (λ k e l. (stand k e l, copied k e l, All-contains_itself accesses k e l)) (λ a t s.
      let r = reader_answers m a t in
      let n = ap answer_net r.2 in
      record {
        copy = s.1;
        enable = s.0.enable;
        word = awaits_from d _ _ (subst (λ k. HasNet d k (width_at core m)) (sym n) (wide_at d core m r.1.net a.mem r.0 (s.0.answer r.1 r.2))) (awaiting _ (answer_in_to m accesses a s.2 t));
      })

  pub answers_wait : (reads : List Touch) → map plain_touch reads ≡ reads_to m accesses → All (λ r. IsWaiting d (width_at core m) (plain_touch r)) reads
  answers_wait reads e = unmapped plain_touch (IsWaiting d (width_at core m)) reads (subst (All (IsWaiting d (width_at core m))) (sym e) reads_wait)

  pub reads_fit : (reads : List Touch) → map plain_touch reads ≡ reads_to m accesses → All (ReadFits d (width_at core m)) reads
  reads_fit reads e = λ k r l. let it = answers_wait reads e k r l in record { copy = it.copy; word = it.word }

pub reads_apart : (m : ℕ) (accesses : List AccessNets) → Rise 0 (answers_to m accesses) → (reads : List Touch) → map plain_touch reads ≡ reads_to m accesses → AreApart reads
reads_apart m accesses rise reads e = apart reads (subst (Rise 0) (sym (words_are m accesses reads e)) rise)

module _ (picks : PicksAccessesTo) (d : Draft) (core : PlainCore) (plan : PlainPlan) (accesses : List AccessNets) (owners : OwnerNets) (port start m : ℕ) (fits : ScalarFits d core plan accesses owners port start m) where
  writes_fit : All (IsGiving d (width_at core m)) (writes_to m accesses owners)
  writes_fit = All-append (IsGiving d (width_at core m)) (map write_of (filter (is_to m Write) accesses)) (map state_of (filter (is_kept m) owners.kept.items))
      (each_of write_of (IsGiving d (width_at core m)) (is_to m Write) (λ a. AccessStands d core a × CopyFits d a.copy) accesses (λ k e l. (fits.accesses_stand k e l, fits.accesses_copied k e l)) (λ a t s.
      let is = (picks m Write a refl).0 t in
      record { copy = s.1; enable = s.0.enable; word = wide_at d core m _ a.mem is.0 (subst (λ k. HasNet d (word_that_changes k a.operands.items) (width_at core a.mem)) is.1 (s.0.word is.1)) }))
      (each_of state_of (IsGiving d (width_at core m)) (is_kept m) (λ k. KeepingStands d core k × CopyFits d k.copy) owners.kept.items (λ j e l. (fits.owners_stand.kept j e l, fits.owners_copied.kept j e l))
      (λ k t s. record { copy = s.1; enable = s.0.done; word = wide_at d core m k.word k.mem (eqb-true k.mem m t) s.0.word }))

  pub register_fits : (part : Register) → IsCore core → part.start ≡ start → IsPartOf core plan accesses owners m part → RegisterFits d part
  register_fits part is_core at is = record {
    start = subst (λ n. HasNet d n 1) (sym at) fits.starts;
    copies = subst (λ n. 1 ≤ n) (sym is.copies) fits.copies;
    first = subst (λ f. first_word f < 2 ^ width_of part.ty) (sym is.first) (subst (λ ty. first_word (mem core m).start < 2 ^ width_of ty) (sym is.ty) (start_fits core m is_core fits.within));
    fresh = subst (All (FreshFits d)) (sym is.fresh) (fresh_fits d core accesses owners m fits.accesses_stand fits.accesses_copied fits.owners_stand fits.owners_copied);
    writes = subst (λ ty. All (WriteFits d (width_of ty)) part.writes.items) (sym is.ty) (gives_fit d (width_at core m) (writes_to m accesses owners) part.writes.items is.writes writes_fit);
    reads = subst (λ ty. All (ReadFits d (width_of ty)) part.reads.items) (sym is.ty) (reads_fit d core accesses m fits.accesses_stand fits.accesses_copied fits.awaiting part.reads.items is.reads);
    apart = reads_apart m accesses fits.rise part.reads.items is.reads;
  }

-- readers still wait while nothing that was open is driven
pub reads_kept : (a b : Draft) (width : ℕ) (reads : List Touch) → Fills a b [] → All (ReadFits a width) reads → All (ReadFits b width) reads
reads_kept a b width reads f h = λ k d l. let was = h k d l in record { copy = copy_kept a b f.grows _ was.copy; word = awaits_kept a b _ width f was.word }
