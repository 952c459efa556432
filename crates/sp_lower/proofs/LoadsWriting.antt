-- How the write of a load stands in a draft.
use Rattle.std.proofs.Common.{◌≡◌, ℕ, zero, suc, ◌-◌, ◌<◌, List, [], ◌∷◌, ◌++◌, length, take, slice_index, All, Option, Some, None, refl, sym, ap, subst, ◌∙◌, arith}
use Rattle.std.proofs.lemmas.List.{length_push}
use Rattle.std.proofs.lemmas.List.Elements.{All-weaker}
use Rattle.sp_words.specs.Types.{width_of}
use Rattle.sp_netlist.specs.Draft.{Draft}
use Rattle.sp_gates.specs.Grows.{Grows}
use Rattle.sp_gates.specs.Nets.{HasNet}
use Rattle.sp_gates.proofs.Growing.{HasNet-stays}
use Rattle.sp_core.specs.declared.operation.OpKind.{OpKind}
use Rattle.sp_core.specs.declared.operation.OpKind.TheVariants.{Read, Write, Enq, Deq}
use Rattle.sp_core.specs.Declarations.{mem, dram, dims}
use Rattle.sp_core.specs.PlainCore.{PlainCore}
use Rattle.sp_mem.specs.Fits.{CopyFits}
use Rattle.sp_part_runs.specs.ActsEntries.{index_words, word_that_changes}
use Rattle.sp_circuit_ops.specs.declared.ops.WordNet.{WordNet}
use Rattle.sp_copy_nets.specs.Numbers.{StandNumbers}
use Rattle.sp_channels.specs.Units.{IsLoadUnit}
use Rattle.sp_xfer.specs.declared.part.Load.{Load}
use Rattle.sp_xfer.specs.declared.part.Loaded.{Loaded}
use Rattle.sp_xfer.specs.Fits.{IsLoaded}
use Rattle.sp_access_nets.specs.declared.access.AccessNets.{AccessNets}
use Rattle.sp_access_nets.specs.Accesses.{copy_in}
use Rattle.sp_access_nets.specs.Laws.{answer_nets, net_in}
use Rattle.sp_stored_cores.specs.Loads.{IsLoadWrite}
use Rattle.sp_load_units.specs.declared.unit.TransferUnit.{TransferUnit}
use Rattle.sp_load_units.specs.declared.unit.UnitPort.TheVariants.{Loads}
use Rattle.sp_load_units.specs.Ports.{PortRuns}
use Rattle.sp_load_units.specs.Walks.{UnitStandsAlone}
use Rattle.sp_lower.specs.LoadsParts.{WriteStands}

-- the operands of a write: its word is the last one
some_more : (xs : List ℕ) (y : ℕ) → 0 < length (xs ++ y ∷ [])
some_more [] y = omega arith
some_more (x ∷ xs) y = omega arith

last_at : (xs : List ℕ) (y n : ℕ) → n ≡ length xs → slice_index (xs ++ y ∷ []) n ≡ y
last_at [] y zero e = refl
last_at [] y (suc n) e = absurd (omega (arith, e))
last_at (x ∷ xs) y zero e = absurd (omega (arith, e))
last_at (x ∷ xs) y (suc n) e = last_at xs y n (omega (arith, e))

front_at : (xs : List ℕ) (y n : ℕ) → n ≡ length xs → take n (xs ++ y ∷ []) ≡ xs
front_at [] y zero e = refl
front_at [] y (suc n) e = absurd (omega (arith, e))
front_at (x ∷ xs) y zero e = absurd (omega (arith, e))
front_at (x ∷ xs) y (suc n) e = ap (λ zs. x ∷ zs) (front_at xs y n (omega (arith, e)))

last_is : (xs : List ℕ) (y : ℕ) → slice_index (xs ++ y ∷ []) (length (xs ++ y ∷ []) - 1) ≡ y
last_is xs y = last_at xs y (length (xs ++ y ∷ []) - 1) (let l = length_push xs y in omega (arith, l))

front_is : (xs : List ℕ) (y : ℕ) → take (length (xs ++ y ∷ []) - 1) (xs ++ y ∷ []) ≡ xs
front_is xs y = front_at xs y (length (xs ++ y ∷ []) - 1) (let l = length_push xs y in omega (arith, l))

pub copy_fits : (d : Draft) (names : List (Option ℕ)) (n : ℕ) → StandNumbers d names → CopyFits d (copy_in names n)
copy_fits d [] n h = tt
copy_fits d (None ∷ names) zero h = tt
copy_fits d (Some net ∷ names) zero h = h net (0, omega arith, refl)
copy_fits d (x ∷ names) (suc n) h = copy_fits d names n (λ net c. h net (suc c.0, (let l = c.1 in omega (arith, l)), c.2))

module _ (d : Draft) (core : PlainCore) (number m : ℕ) (copy : Option ℕ) (part : Load) (loaded : Loaded) (a : AccessNets) (w : IsLoadWrite number m copy part loaded a) where
  no_other : (k : OpKind) → (Write ≡ k → ⊥) → a.kind ≡ k → ⊥
  no_other k h e = h (sym w.kind_is ∙ e)

  unanswered : (net : WordNet) → a.answer ≡ Some net → ⊥
  unanswered net e = let f = sym w.unanswered ∙ e in absurd (cc)

  word_is : word_that_changes a.kind a.operands.items ≡ part.port.word
  word_is = ap (λ k. word_that_changes k a.operands.items) w.kind_is ∙ ap (word_that_changes Write) w.operands ∙ last_is loaded.indices.items part.port.word

  indices_are : index_words a.kind a.operands.items ≡ loaded.indices.items
  indices_are = ap (λ k. index_words k a.operands.items) w.kind_is ∙ ap (index_words Write) w.operands ∙ front_is loaded.indices.items part.port.word

  pub write_stands : m < length core.mems → HasNet d part.port.word (width_of (mem core m).ty) → IsLoaded d loaded → length loaded.indices.items ≡ length (dims core m) → CopyFits d copy → WriteStands d core a
  write_stands chip word is each fits = record {
    stands = record {
      enable = subst (λ n. HasNet d n 1) (sym w.enable) is.write;
      some = λ e. subst (λ (ns : List ℕ). 0 < length ns) (sym w.operands) (some_more loaded.indices.items part.port.word);
      word = λ e. subst (λ n. HasNet d n (width_of (mem core a.mem).ty)) (sym word_is) (subst (λ k. HasNet d part.port.word (width_of (mem core k).ty)) (sym w.mem_is) word);
      answer = λ net e. absurd (unanswered net e);
      later = λ net e f. absurd (unanswered net f);
      index = λ banks. subst (All (λ net. HasNet d net 32)) (sym indices_are) is.indices;
      each_index = λ banks. ap (λ (ns : List ℕ). length ns) indices_are ∙ each ∙ ap (λ k. length (dims core k)) (sym w.mem_is);
    };
    copied = subst (CopyFits d) (sym w.copied) fits;
    queued = record {
      some = λ e. absurd (no_other Enq (λ f. absurd (cc (f))) e);
      word = λ e. absurd (no_other Enq (λ f. absurd (cc (f))) e);
      answered = λ e. absurd (no_other Deq (λ f. absurd (cc (f))) e);
      later = λ net e f. absurd (unanswered net f);
      unread = λ e. absurd (no_other Read (λ f. absurd (cc (f))) e);
    };
    within = subst (λ k. k < length core.mems) (sym w.mem_is) chip;
    unanswered = w.unanswered;
  }

-- the word of a load's unit is as wide as those of its memory
pub word_stands : (old new : Draft) (core : PlainCore) (unit : TransferUnit) (part : Load) → UnitStandsAlone old core unit → Grows old new → unit.port ≡ Loads part.port → HasNet new part.port.word (width_of (mem core unit.transfer.mem).ty)
word_stands old new core unit part u g is =
    let width : ℕ = width_of (dram core unit.transfer.dram).ty in
    let own : IsLoadUnit old u.channel unit.transfer.dram width part.port = subst (PortRuns old u.channel unit.transfer.dram width) is u.runs in
    subst (λ (width : ℕ). HasNet new part.port.word width) (sym u.of_core.one_width) (HasNet-stays old new part.port.word width g own.word)

-- in a later draft
pub copy_later : (a b : Draft) (copy : Option ℕ) → Grows a b → CopyFits a copy → CopyFits b copy
copy_later a b None g h = tt
copy_later a b (Some net) g h = HasNet-stays a b net 32 g h

pub write_later : (a b : Draft) (core : PlainCore) (x : AccessNets) → Grows a b → WriteStands a core x → WriteStands b core x
write_later a b core x g h = record {
  stands = record {
    enable = HasNet-stays a b _ 1 g h.stands.enable;
    some = h.stands.some;
    word = λ e. HasNet-stays a b _ _ g (h.stands.word e);
    answer = λ w e. HasNet-stays a b _ _ g (h.stands.answer w e);
    later = h.stands.later;
    index = λ banks. All-weaker (λ net. HasNet a net 32) (λ net. HasNet b net 32) (λ net s. HasNet-stays a b net 32 g s) (index_words x.kind x.operands.items) (h.stands.index banks);
    each_index = h.stands.each_index;
  };
  copied = copy_later a b x.copy g h.copied;
  queued = record {
    some = h.queued.some;
    word = λ e. HasNet-stays a b _ _ g (h.queued.word e);
    answered = h.queued.answered;
    later = h.queued.later;
    unread = h.queued.unread;
  };
  within = h.within;
  unanswered = h.unanswered;
}

-- none of them is to be answered
pub no_answers : (accesses : List AccessNets) → All (λ (a : AccessNets). a.answer ≡ None) accesses → answer_nets accesses ≡ []
no_answers [] h = refl
no_answers (a ∷ accesses) h = ap (λ x. net_in x ++ answer_nets accesses) (h 0 a (omega arith)) ∙ no_answers accesses (λ k e l. h (suc k) e (omega (arith, l)))
