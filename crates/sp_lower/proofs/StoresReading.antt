-- How the read of a store stands in a draft.
use Rattle.std.proofs.Common.{◌≡◌, ℕ, ◌<◌, List, length, All, Option, Some, sym, ap, subst, ◌∙◌}
use Rattle.sp_words.specs.declared.kind.Kind.TheVariants.{Sram, Fifo}
use Rattle.sp_words.specs.Types.{width_of}
use Rattle.sp_netlist.specs.Draft.{Draft}
use Rattle.sp_gates.specs.Nets.{HasNet, Awaits}
use Rattle.sp_core.specs.declared.operation.OpKind.{OpKind}
use Rattle.sp_core.specs.declared.operation.OpKind.TheVariants.{Read, Write, Enq, Deq}
use Rattle.sp_core.specs.Declarations.{mem, kind_of, dims}
use Rattle.sp_core.specs.Latency.{read_latency}
use Rattle.sp_core.specs.PlainCore.{PlainCore}
use Rattle.sp_mem.specs.Fits.{CopyFits}
use Rattle.sp_part_runs.specs.ActsEntries.{index_words}
use Rattle.sp_circuit_ops.specs.declared.ops.WordNet.{WordNet}
use Rattle.sp_xfer.specs.declared.part.Store.{Store}
use Rattle.sp_xfer.specs.declared.part.Stored.{Stored}
use Rattle.sp_xfer.specs.Fits.{IsStored}
use Rattle.sp_access_nets.specs.declared.access.AccessNets.{AccessNets}
use Rattle.sp_stored_cores.specs.Stores.{IsStoreRead}
use Rattle.sp_lower.specs.StoresParts.{ReadStands}

no_fifo : Sram ≡ Fifo → ⊥
no_fifo e = absurd (cc (e))

same_some : (v w : WordNet) → Some v ≡ Some w → v ≡ w
same_some v w e = cc

module _ (d : Draft) (core : PlainCore) (number m : ℕ) (copy : Option ℕ) (part : Store) (stored : Stored) (a : AccessNets) (r : IsStoreRead core number m copy part stored a) where
  no_other : (k : OpKind) → (Read ≡ k → ⊥) → a.kind ≡ k → ⊥
  no_other k h e = h (sym r.kind_is ∙ e)

  no_write : a.kind ≡ Write → ⊥
  no_write e = no_other Write (λ f. absurd (cc (f))) e

  no_put : a.kind ≡ Enq → ⊥
  no_put e = no_other Enq (λ f. absurd (cc (f))) e

  no_take : a.kind ≡ Deq → ⊥
  no_take e = no_other Deq (λ f. absurd (cc (f))) e

  word_is : (w : WordNet) → a.answer ≡ Some w → w ≡ r.word
  word_is w e = same_some w r.word (sym e ∙ r.answer)

  indices_are : index_words a.kind a.operands.items ≡ stored.indices.items
  indices_are = ap (λ k. index_words k a.operands.items) r.kind_is ∙ ap (index_words Read) r.operands

  module _ (sram : kind_of core m ≡ Sram) (wide : part.width ≡ width_of (mem core m).ty) where
    -- the width of what a store reads is that of the memory's words
    own_width : part.width ≡ width_of (mem core a.mem).ty
    own_width = wide ∙ ap (λ k. width_of (mem core k).ty) (sym r.mem_is)

    answer_stands : HasNet d part.found part.width → (w : WordNet) → a.answer ≡ Some w → HasNet d w.net (width_of (mem core a.mem).ty)
    answer_stands net w e = subst (λ n. HasNet d n (width_of (mem core a.mem).ty)) (sym (ap (λ (x : WordNet). x.net) (word_is w e) ∙ r.found)) (subst (HasNet d part.found) own_width net)

    answered_later : (w : WordNet) → a.answer ≡ Some w → w.after ≡ read_latency (kind_of core a.mem)
    answered_later w e = ap (λ (x : WordNet). x.after) (word_is w e) ∙ r.after ∙ ap (λ k. read_latency (kind_of core k)) (sym r.mem_is)

    is_sram : kind_of core a.mem ≡ Sram
    is_sram = ap (kind_of core) r.mem_is ∙ sram

    pub read_stands : m < length core.mems → HasNet d part.found part.width → Awaits d part.found part.width → IsStored d stored → length stored.indices.items ≡ length (dims core m) → CopyFits d copy → ReadStands d core a
    read_stands chip net awaits is each fits = record {
      stands = record {
        enable = subst (λ n. HasNet d n 1) (sym r.enable) is.read;
        some = λ e. absurd (no_write e);
        word = λ e. absurd (no_write e);
        answer = λ w e. answer_stands net w e;
        later = λ w e f g. answered_later w f;
        index = λ banks. subst (All (λ net. HasNet d net 32)) (sym indices_are) is.indices;
        each_index = λ banks. ap (λ (ns : List ℕ). length ns) indices_are ∙ each ∙ ap (λ k. length (dims core k)) (sym r.mem_is);
      };
      copied = subst (CopyFits d) (sym r.copied) fits;
      queued = record {
        some = λ e. absurd (no_put e);
        word = λ e. absurd (no_put e);
        answered = λ e. absurd (no_take e);
        later = λ w e f. absurd (no_take e);
        unread = λ e f. no_fifo (sym is_sram ∙ f);
      };
      within = subst (λ k. k < length core.mems) (sym r.mem_is) chip;
      word = r.word;
      answer = r.answer;
      reads = r.kind_is;
      awaits = subst (λ n. Awaits d n (width_of (mem core a.mem).ty)) (sym r.found) (subst (Awaits d part.found) own_width awaits);
    }
