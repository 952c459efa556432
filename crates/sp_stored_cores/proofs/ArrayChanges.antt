-- Each change of an SRAM is the write of an operation or of a transfer that fills it.
use Rattle.std.proofs.Common.{◌≡◌, ℕ, ◌+◌, ◌⊎◌, inl, inr, true, if◌then◌else◌, List, [], ◌∷◌, length, Option, Some, refl, sym, ap, subst, ◌∙◌, arith, le-ltb}
use Rattle.std.specs.List.{Contains}
use Rattle.std.proofs.lemmas.Bool.{false≢true}
use Rattle.sp_words.specs.declared.kind.Kind.{Kind}
use Rattle.sp_words.specs.declared.kind.Kind.TheVariants.{Sram, Dram}
use Rattle.sp_words.specs.Memory.{Contents}
use Rattle.sp_core.specs.declared.operation.OpKind.{OpKind}
use Rattle.sp_core.specs.declared.operation.OpKind.TheVariants.{Word, Count, Live, Read, Write, Enq, Deq, Reset, One, Two, Shift, Mux, Cast}
use Rattle.sp_core.specs.Declarations.{mem, kind_of, dram_number}
use Rattle.sp_core.specs.Events.{Act, reads, writes, puts, takes, resets, turns, Event, Moment, touches, slices, renews, keeps, act_of}
use Rattle.sp_core.specs.Meeting.{changes}
use Rattle.sp_core.specs.Numbering.{counters_size, number_count}
use Rattle.sp_core.specs.PlainCore.{PlainCounter, PlainNode, PlainStages, inner, outer, fsm, branch, load, store, sparse, no_stage, more_stage, PlainCore}
use Rattle.sp_core.specs.Sequential.{has_reset}
use Rattle.sp_plan.specs.PlainPlan.{PlainPlan}
use Rattle.sp_time.specs.Places.{Place}
use Rattle.sp_machine.specs.InOrder.{is_done, memory_of, does_change}
use Rattle.sp_machine.specs.Stamps.{Stamped}
use Rattle.sp_contents.specs.Steady.{MayAct, IsAllowed}
use Rattle.sp_tree_events.specs.ToldItems.{Item, operation, transfer, CountersHave, NodeHas, StagesHave}
use Rattle.sp_tree_events.specs.ToldLaws.{Does, IsOfItem}
use Rattle.sp_memory_words.specs.Accesses.{IsOperation}
use Rattle.sp_memory_words.specs.Moments.{HappensWell}
use Rattle.sp_bank_words.proofs.Events.{each_at}
use Rattle.sp_tree_nets.specs.Emitted.{HasNoTransfer, HaveNoTransfer}

in_counters : (counters : List PlainCounter) (n x r m : ℕ) → CountersHave counters n x (transfer r m) → ⊥
in_counters [] n x r m h = h
in_counters (c ∷ counters) n x r m (inl (inl h)) = h
in_counters (c ∷ counters) n x r m (inl (inr h)) = h
in_counters (c ∷ counters) n x r m (inr h) = in_counters counters (n + (length c.from + length c.until)) x r m h

-- no number stands for a transfer
mutual
  pub in_node : (node : PlainNode) (n x r m : ℕ) → HasNoTransfer node → NodeHas node n x (transfer r m) → ⊥
  in_node (inner counters owned ops comb) n x r m none (inl h) = in_counters counters n x r m h
  in_node (inner counters owned ops comb) n x r m none (inr h) = h
  in_node (outer counters style owned stages) n x r m none (inl h) = in_counters counters n x r m h
  in_node (outer counters style owned stages) n x r m none (inr h) = in_stages stages (n + counters_size counters) x r m none h
  in_node (fsm start state test body next) n x r m none (inl (inl h)) = h
  in_node (fsm start state test body next) n x r m none (inl (inr h)) = h
  in_node (fsm start state test body next) n x r m none (inr (inl h)) = in_node body (n + (length start + length test)) x r m none h
  in_node (fsm start state test body next) n x r m none (inr (inr h)) = h
  in_node (branch test first second) n x r m none (inl h) = h
  in_node (branch test first second) n x r m none (inr (inl h)) = in_node first (n + length test) x r m none.0 h
  in_node (branch test first second) n x r m none (inr (inr h)) = in_node second (n + (length test + number_count first)) x r m none.1 h
  in_node (load q k spans) n x r m none h = none
  in_node (store q k spans) n x r m none h = none
  in_node (sparse kind q k places spans count par) n x r m none h = none

  in_stages : (stages : PlainStages) (n x r m : ℕ) → HaveNoTransfer stages → StagesHave stages n x (transfer r m) → ⊥
  in_stages no_stage n x r m none h = h
  in_stages (more_stage first last comb node rest) n x r m none (inl h) = in_node node n x r m none.0 h
  in_stages (more_stage first last comb node rest) n x r m none (inr h) = in_stages rest (n + number_count node) x r m none.1 h

-- only a write writes
write_kind : (v w : ℕ) (k : OpKind) → act_of k v ≡ Some (writes w) → k ≡ Write
write_kind v w Write e = refl
write_kind v w (Word x) e = absurd (cc (e))
write_kind v w (Count c lane) e = absurd (cc (e))
write_kind v w (Live c first last) e = absurd (cc (e))
write_kind v w Read e = absurd (cc (e))
write_kind v w Enq e = absurd (cc (e))
write_kind v w Deq e = absurd (cc (e))
write_kind v w Reset e = absurd (cc (e))
write_kind v w (One op) e = absurd (cc (e))
write_kind v w (Two op) e = absurd (cc (e))
write_kind v w (Shift left by) e = absurd (cc (e))
write_kind v w Mux e = absurd (cc (e))
write_kind v w (Cast to) e = absurd (cc (e))

-- a DRAM is no SRAM
dram_kind : (core : PlainCore) (r : ℕ) → kind_of core (dram_number core r) ≡ Dram
dram_kind core r = ap (λ b. if b then (mem core (dram_number core r)).kind else Dram) (le-ltb (length core.mems + r) (length core.mems) (omega arith))

module _ (core : PlainCore) (plan : PlainPlan) (events : List Stamped) (first : Place → Option Contents) (well : HappensWell core plan events first) (m : ℕ) (sram : kind_of core m ≡ Sram) where
  -- a write of an operation of the core, or of a transfer of the memory
  pub record IsWritten (x : Moment) : Type 0 where
    pub event : Event
    pub word : ℕ
    pub touch : x ≡ touches event
    pub act : event.act ≡ writes word
    pub by : IsOperation core m Write event.number ⊎ ((dram : ℕ) × NodeHas core.root 0 event.number (transfer dram m))

  -- an SRAM has no reset
  no_reset : (kind : Kind) → kind ≡ Sram → (start : Option ℕ) → has_reset kind start ≡ true → ⊥
  no_reset kind k start h = false≢true (ap (λ z. has_reset z start) (sym k) ∙ h)

  written : (e : Event) (w : ℕ) → e.mem ≡ m → e.act ≡ writes w → (i : Item) → NodeHas core.root 0 e.number i → Does core i e → IsWritten (touches e)
  written e w p q (operation o) stands does = record {
    event = e;
    word = w;
    touch = refl;
    act = q;
    by = inl (record { op = o; stands = stands; mem = does.0 ∙ ap Some p; kind_is = write_kind does.1 w o.kind (does.2 ∙ ap Some q) });
  }
  written e w p q (transfer r k) stands (inl on) = record {
    event = e;
    word = w;
    touch = refl;
    act = q;
    by = inr (r, subst (λ j. NodeHas core.root 0 e.number (transfer r j)) (sym on ∙ p) stands);
  }
  written e w p q (transfer r k) stands (inr off) = absurd (let clash : Dram ≡ Sram = sym (dram_kind core r) ∙ ap (kind_of core) (sym off ∙ p) ∙ sram in cc)

  by_act : (e : Event) → e.mem ≡ m → (a : Act) → e.act ≡ a → MayAct core e.mem e.indices a → IsOfItem core (touches e) → changes a ≡ true → IsWritten (touches e)
  by_act e p (reads w) q may of c = absurd (false≢true c)
  by_act e p (writes w) q may of c = written e w p q of.0 of.1 of.2
  by_act e p (puts w) q may of c = absurd (rw (p, sram) at may)
  by_act e p (takes w) q may of c = absurd (rw (p, sram) at may)
  by_act e p resets q may of c = absurd (no_reset (kind_of core e.mem) (ap (kind_of core) p ∙ sram) (mem core e.mem).start may.0)
  by_act e p turns q may of c = absurd (rw (p, sram) at may)

  by_moment : (x : Moment) → IsAllowed core x → IsOfItem core x → is_done core x ≡ true → memory_of x ≡ m → does_change x ≡ true → IsWritten x
  by_moment (touches e) may of d p c = by_act e p e.act refl may of c
  by_moment (slices z) may of d p c = absurd (false≢true d)
  by_moment (renews r) may of d p c = absurd (no_reset (mem core r).kind (sym may.1.kind_is ∙ ap (kind_of core) p ∙ sram) (mem core r).start d)
  by_moment (keeps r w) may of d p c = absurd (rw (p, sram) at may)

  pub is_written : (x : Stamped) → Contains events x → is_done core x.moment ≡ true → memory_of x.moment ≡ m → does_change x.moment ≡ true → IsWritten x.moment
  is_written x there d p c = by_moment x.moment (each_at (λ y. IsAllowed core y.moment) events well.allowed x there) (each_at (λ y. IsOfItem core y.moment) events well.of_items x there) d p c
