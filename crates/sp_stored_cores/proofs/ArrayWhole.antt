-- Each read of a core's memories is answered, and registers hold their words.
use Rattle.std.proofs.Common.{◌≡◌, ◌≢◌, ℕ, suc, ◌<◌, inl, inr, List, ◌++◌, length, slice_index, Some, refl, sym, ◌∙◌, subst}
use Rattle.std.specs.List.{Contains}
use Rattle.std.proofs.lemmas.List.Elements.{All-contains}
use Rattle.sp_words.specs.declared.kind.Kind.{Kind}
use Rattle.sp_words.specs.declared.kind.Kind.TheVariants.{Reg, Sram, Fifo, LineBuf, Dram, ArgIn, ArgOut}
use Rattle.sp_netlist.specs.Signals.{Signals}
use Rattle.sp_core.specs.declared.operation.OpKind.TheVariants.{Read}
use Rattle.sp_core.specs.Declarations.{kind_of}
use Rattle.sp_core.specs.PlainCore.{PlainCore}
use Rattle.sp_plan.specs.PlainPlan.{PlainPlan}
use Rattle.sp_machine.specs.Stamps.{Stamped}
use Rattle.sp_machine.specs.Timeline.{core_timed}
use Rattle.sp_machine.specs.Transfers.{Delays}
use Rattle.sp_contents.specs.Found.{first_contents}
use Rattle.sp_mem.specs.declared.part.Touch.{Touch}
use Rattle.sp_banked.specs.declared.part.Banked.{Banked}
use Rattle.sp_banked.specs.Runs.{RunsBanked}
use Rattle.sp_circuit_ops.specs.declared.ops.WordNet.{WordNet}
use Rattle.sp_memory_words.specs.Accesses.{OperationsStay}
use Rattle.sp_memory_words.specs.Answers.{IsAnswered}
use Rattle.sp_memory_words.specs.Registers.{IsRegister}
use Rattle.sp_bank_words.specs.Accesses.{reads_in}
use Rattle.sp_bank_words.specs.Laws.{OperationsGo}
use Rattle.sp_bank_words.proofs.Acts.{sram_there}
use Rattle.sp_bank_runs.specs.Laws.{RunsHoldWords}
use Rattle.sp_access_nets.specs.declared.access.AccessNets.{AccessNets}
use Rattle.sp_access_nets.specs.Picking.{PicksAccessesTo}
use Rattle.sp_tree_handed.specs.Scalars.{IsScalar}
use Rattle.sp_tree_accesses.specs.Queued.{QueuedStands}
use Rattle.sp_memory_nets.specs.ScalarRuns as scalar
use Rattle.sp_stored_cores.specs.ScalarInTime.{ScalarsHold, ScalarsAnswer}
use Rattle.sp_memory_nets.specs.ArrayArrays.{IsArrayOf}
use Rattle.sp_memory_nets.specs.ArrayRuns.{an_argument, a_register, an_array, a_fifo}
use Rattle.sp_memory_nets.proofs.ScalarPicked.{none_there}
use Rattle.sp_memory_nets.proofs.ArrayFitting.{scalar_of}
use Rattle.sp_stored_cores.specs.FifoLaws.{FifosAnswer}
use Rattle.sp_stored_cores.specs.ArrayLaws.{ReadsAnswered, MemoriesHold, ArraysAnswer, MemoriesAnswer}
use Rattle.sp_stored_cores.specs.ArrayLoads.{NothingIsLoaded}
use Rattle.sp_stored_cores.specs.ArrayStores.{NothingIsStored}
use Rattle.sp_stored_cores.proofs.ArrayApart.{followed_apart, word_apart, fifo_apart}
use Rattle.sp_stored_cores.proofs.ArrayChanges.{in_node}
use Rattle.sp_stored_cores.proofs.ArrayGoing.{reading, writing, memory_of, memory_goes, answered}

register_scalar : (k : Kind) → IsRegister k → IsScalar k
register_scalar Reg h = tt
register_scalar ArgOut h = tt
register_scalar ArgIn h = tt
register_scalar Sram h = h
register_scalar Fifo h = h
register_scalar LineBuf h = h
register_scalar Dram h = h

no_argument : (k : Kind) → IsRegister k → k ≡ ArgIn → ⊥
no_argument k h e = subst IsRegister e h

no_array : (k : Kind) → IsRegister k → k ≡ Sram → ⊥
no_array k h e = subst IsRegister e h

no_fifo : (k : Kind) → IsRegister k → k ≡ Fifo → ⊥
no_fifo k h e = subst IsRegister e h

pub hold : (core : PlainCore) (plan : PlainPlan) → ScalarsHold core plan → MemoriesHold core plan
hold core plan scalars s events last accesses loading storing owners input h loads stores well arguments words run m l is = elim (run m l) [
  | an_argument arg same follows ↦ absurd (no_argument (kind_of core m) is arg)
  | a_register other array fifo r ↦
      scalars s events last accesses owners input h well m (slice_index words m) l (register_scalar (kind_of core m) is) other (word_apart core s events last accesses loading storing loads stores m array plan owners (slice_index words m) r)
  | an_array sram part array runs ↦ absurd (no_array (kind_of core m) is sram)
  | a_fifo fifo bank runs ↦ absurd (no_fifo (kind_of core m) is fifo)
]

-- where no number stands for a transfer no load is asked for
pub nothing_loaded : (core : PlainCore) → NothingIsLoaded core
nothing_loaded core none s events last = record {
  is_loading = λ a c. absurd (none_there a c);
  all_loads = λ m n r t sram stands happens. absurd (in_node core.root 0 n r m none stands);
  act = λ a c. absurd (none_there a c);
  named = λ a c. absurd (none_there a c);
}

-- and no store is
pub nothing_stored : (core : PlainCore) → NothingIsStored core
nothing_stored core none s events last = record {
  is_storing = λ a c. absurd (none_there a c);
  all_stores = λ m n r t sram stands happens. absurd (in_node core.root 0 n r m none stands);
  act = λ a c. absurd (none_there a c);
  named = λ a c. absurd (none_there a c);
}

module _ (core : PlainCore) (plan : PlainPlan) (delays : Delays) where
  pub arrays_answer : PicksAccessesTo → OperationsStay core plan → ((s : Signals) (events : List Stamped) (m last number : ℕ) (touch : Touch) → OperationsGo core plan s events m last number touch) → RunsHoldWords core plan delays → ArraysAnswer core plan delays
  arrays_answer picks stays go hold_words input h end goes well s last accesses loading storing owners in_time loads stores m part sram is runs =
      let events = (core_timed core plan delays h).events in
      let first = first_contents core input in
      let holding = hold_words input h end goes s m last part (reading m (accesses ++ loading ++ storing)) (writing m (accesses ++ loading ++ storing)) sram runs
      (memory_of core plan s events last accesses loading storing owners in_time loads stores first well goes.inside stays m sram picks part is)
      (memory_goes core plan s events last accesses loading storing owners in_time loads stores first well goes.inside stays m sram picks part is (λ u n touch. go s events m u n touch)) in
      answered core plan s events last accesses loading storing owners in_time loads stores first well goes.inside stays m sram picks part is (λ u n touch. go s events m u n touch) holding.answers

  pub memories_answer : ScalarsAnswer core plan → FifosAnswer core plan → ArraysAnswer core plan delays → MemoriesAnswer core plan delays
  memories_answer scalars fifos arrays input h end goes well timed s last accesses loading storing owners in_time loads stores d queued emitted arguments words run given later =
      record { operations = by_operation; stores = by_store }
    where
      inside : (a : AccessNets) → Contains accesses a → a.mem < length core.mems
      inside a c = All-contains (λ (x : AccessNets). x.mem < length core.mems) accesses a in_time.within c

      no_port : (m : ℕ) → kind_of core m ≡ ArgIn → kind_of core m ≢ Sram
      no_port m is sram = absurd (let clash : ArgIn ≡ Sram = sym is ∙ sram in cc)

      no_queue : (m : ℕ) → kind_of core m ≡ Fifo → kind_of core m ≢ Sram
      no_queue m is sram = absurd (let clash : Fifo ≡ Sram = sym is ∙ sram in cc)

      array : (m : ℕ) (part : Banked) → kind_of core m ≡ Sram → IsArrayOf core plan (accesses ++ loading ++ storing) m part → RunsBanked s part → ReadsAnswered s (core_timed core plan delays h).events last accesses storing m
      array m part is part_is runs = arrays input h end goes well s last accesses loading storing owners in_time loads stores m part is part_is runs

      by_scalar : (a : AccessNets) (w : WordNet) → Contains accesses a → a.answer ≡ Some w → a.kind ≡ Read → IsScalar (kind_of core a.mem) → scalar.RunsScalar core plan s accesses owners (slice_index arguments a.mem) a.mem (slice_index words a.mem)
          → IsAnswered s (core_timed core plan delays h).events (suc last) a.number Read w.after w.net
      by_scalar a w c e read is r =
          scalars s (core_timed core plan delays h).events last accesses owners input in_time well later a w c read e is (slice_index arguments a.mem) (slice_index words a.mem) r (given a.mem (inside a c))

      by_operation : (a : AccessNets) (w : WordNet) → Contains accesses a → a.answer ≡ Some w → IsAnswered s (core_timed core plan delays h).events (suc last) a.number a.kind w.after w.net
      by_operation a w c e = elim (in_time.asked a w c e) [
        | inl read ↦ subst (λ kind. IsAnswered s (core_timed core plan delays h).events (suc last) a.number kind w.after w.net) (sym read) (elim (run a.mem (inside a c)) [
          | an_argument is same follows ↦
              by_scalar a w c e read (subst IsScalar (sym is) tt) (scalar.an_argument is same (followed_apart core s (core_timed core plan delays h).events last accesses loading storing loads stores a.mem (no_port a.mem is) (slice_index arguments a.mem) follows))
          | a_register other no_sram fifo r ↦
              by_scalar a w c e read (scalar_of (kind_of core a.mem) (emitted a.mem (inside a c)) no_sram fifo)
              (scalar.a_register other (word_apart core s (core_timed core plan delays h).events last accesses loading storing loads stores a.mem no_sram plan owners (slice_index words a.mem) r))
          | an_array is part part_is runs ↦ (array a.mem part is part_is runs).operations a w c refl read e
          | a_fifo fifo bank runs ↦ absurd ((All-contains (QueuedStands d core) accesses a queued c).unread read fifo)
        ])
        | inr take ↦ subst (λ kind. IsAnswered s (core_timed core plan delays h).events (suc last) a.number kind w.after w.net) (sym take.0) (elim (run a.mem (inside a c)) [
          | an_argument is same follows ↦ absurd (let other : Fifo ≡ ArgIn = sym take.1 ∙ is in cc)
          | a_register other no_sram fifo r ↦ absurd (fifo take.1)
          | an_array is part part_is runs ↦ absurd (let other : Fifo ≡ Sram = sym take.1 ∙ is in cc)
          | a_fifo fifo bank runs ↦
              fifos timed s (core_timed core plan delays h).events last accesses owners input in_time well d queued a.mem bank (inside a c) fifo
              (fifo_apart core s (core_timed core plan delays h).events last accesses loading storing loads stores a.mem (no_queue a.mem fifo) plan owners bank runs) a w c refl take.0 e
        ])
      ]

      -- a store reads an SRAM
      by_store : (a : AccessNets) (w : WordNet) → Contains storing a → a.answer ≡ Some w → IsAnswered s (reads_in a.mem (core_timed core plan delays h).events) (suc last) a.number Read w.after w.net
      by_store a w c e = let sram = (stores.is_storing a c).sram in elim (run a.mem (sram_there core a.mem sram).1) [
        | an_argument is same follows ↦ absurd (no_port a.mem is sram)
        | a_register other no_sram fifo r ↦ absurd (no_sram sram)
        | an_array is part part_is runs ↦ (array a.mem part is part_is runs).stores a w c refl e
        | a_fifo fifo bank runs ↦ absurd (no_queue a.mem fifo sram)
      ]
