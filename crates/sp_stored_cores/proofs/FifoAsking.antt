-- The circuit of a FIFO is asked all puts and takes of the FIFO's operations.
use Rattle.std.proofs.Common.{◌≡◌, ◌≢◌, ℕ, List, map, Contains, Some, true, refl, sym, ap, subst}
use Rattle.std.specs.List.{filter}
use Rattle.std.proofs.lemmas.List.Elements.{All-contains}
use Rattle.std.specs.Prelude.{All}
use Rattle.sp_netlist.specs.Draft.{Draft}
use Rattle.sp_netlist.specs.Signals.{Signals}
use Rattle.sp_core.specs.declared.operation.OpKind.{OpKind}
use Rattle.sp_core.specs.declared.operation.OpKind.TheVariants.{Read, Enq, Deq}
use Rattle.sp_core.specs.Declarations.{kind_of}
use Rattle.sp_core.specs.PlainCore.{PlainCore}
use Rattle.sp_machine.specs.Stamps.{Stamped}
use Rattle.sp_mem.specs.declared.part.Touch.{Touch}
use Rattle.sp_circuit_ops.specs.declared.ops.WordNet.{WordNet}
use Rattle.sp_memory_words.specs.Accesses.{IsOperation, IsAccess, GivesWord, HasAllPuts, HasAllTakes}
use Rattle.sp_access_nets.specs.declared.access.AccessNets.{AccessNets}
use Rattle.sp_access_nets.specs.Picking.{is_to, PicksAccessesTo}
use Rattle.sp_tree_handed.specs.declared.owners.OwnerNets.{OwnerNets}
use Rattle.sp_tree_accesses.specs.Queued.{QueuedStands}
use Rattle.sp_memory_nets.specs.ScalarLists.{PlainTouch, plain_touch, is_reader, read_of, reads_to}
use Rattle.sp_memory_nets.proofs.ScalarAnswering.{reader_answers, read_in}
use Rattle.sp_memory_nets.proofs.ScalarPicked.{picked, from_picked}
use Rattle.sp_stored_cores.specs.ScalarInTime.{MemoriesInTime}
use Rattle.sp_stored_cores.proofs.ScalarAsked.{access, from_mapped, mapped_in}
use Rattle.sp_memory_nets.specs.FifoLists.{put_of, puts_to}

put_no_read : (k : OpKind) → k ≡ Enq → k ≢ Read
put_no_read k e h = absurd (cc (e, h))

take_no_read : (k : OpKind) → k ≡ Deq → k ≢ Read
take_no_read k e h = absurd (cc (e, h))

module _ (core : PlainCore) (s : Signals) (events : List Stamped) (last : ℕ) (accesses : List AccessNets) (owners : OwnerNets) (h : MemoriesInTime core s events last accesses owners) (m : ℕ) (picks : PicksAccessesTo) where
  module _ (d : Draft) (queued : All (QueuedStands d core) accesses) (list : List Touch) (is : map plain_touch list ≡ puts_to m accesses) where
    from_put : (w : Touch) → (a : AccessNets) × Contains accesses a × (is_to m Enq a ≡ true) × (put_of a ≡ plain_touch w) → GivesWord core s events last m Enq w
    from_put w (a, c, t, e) =
        let p = (picks m Enq a refl).0 t in
        record {
          number = a.number;
          operands = a.operands.items;
          access = access core s events last accesses owners h m picks Enq a w.enable w.copy c p.0 p.1 (put_no_read Enq refl) (ap (λ (x : PlainTouch). x.enable) e) (ap (λ (x : PlainTouch). x.copy) e);
          some = (All-contains (QueuedStands d core) accesses a queued c).some p.1;
          word = sym (ap (λ (x : PlainTouch). x.word) e);
        }

    gives : (w : Touch) → Contains list w → GivesWord core s events last m Enq w
    gives w c = from_put w (from_picked put_of (is_to m Enq) accesses (plain_touch w) (mapped_in plain_touch list (puts_to m accesses) w is c))

    has_put : (n : ℕ) → IsOperation core m Enq n → (w : Touch) × (operands : List ℕ) × Contains list w × IsAccess core s events last m Enq n w.enable operands w.copy
    has_put n operation =
        let a = h.all_operations m n Enq refl operation in
        let w = from_mapped plain_touch list (put_of a.0) (subst (λ xs. Contains xs (put_of a.0)) (sym is) (picked put_of (is_to m Enq) accesses a.0 a.1 ((picks m Enq a.0 refl).1 a.3 a.4))) in (
          w.0,
          a.0.operands.items,
          w.1,
          subst (λ j. IsAccess core s events last m Enq j w.0.enable a.0.operands.items w.0.copy) a.2
              (access core s events last accesses owners h m picks Enq a.0 w.0.enable w.0.copy a.1 a.3 a.4 (put_no_read Enq refl) (sym (ap (λ (x : PlainTouch). x.enable) w.2)) (sym (ap (λ (x : PlainTouch). x.copy) w.2))),
        )

    pub all_puts : HasAllPuts core s events last m list
    all_puts = record { each = gives; operations = has_put }

  -- what is answered takes a word, and each take is answered
  module _ (takes : (a : AccessNets) (w : WordNet) → Contains accesses a → a.mem ≡ m → a.answer ≡ Some w → a.kind ≡ Deq) (answered : (a : AccessNets) → Contains accesses a → a.mem ≡ m → a.kind ≡ Deq → (w : WordNet) × (a.answer ≡ Some w))
      (list : List Touch) (is : map plain_touch list ≡ reads_to m accesses) where
    from_take : (w : Touch) → (a : AccessNets) × Contains accesses a × (is_reader m a ≡ true) × (read_of a ≡ plain_touch w) → (number : ℕ) × (operands : List ℕ) × IsAccess core s events last m Deq number w.enable operands w.copy
    from_take w (a, c, t, e) =
        let r = reader_answers m a t in (
          a.number,
          a.operands.items,
          access core s events last accesses owners h m picks Deq a w.enable w.copy c r.0 (takes a r.1 c r.0 r.2) (take_no_read Deq refl) (ap (λ (x : PlainTouch). x.enable) e) (ap (λ (x : PlainTouch). x.copy) e),
        )

    has_take : (n : ℕ) → IsOperation core m Deq n → (w : Touch) × (operands : List ℕ) × Contains list w × IsAccess core s events last m Deq n w.enable operands w.copy
    has_take n operation =
        let a = h.all_operations m n Deq refl operation in
        let v = answered a.0 a.1 a.3 a.4 in
        let w = from_mapped plain_touch list (read_of a.0) (subst (λ xs. Contains xs (read_of a.0)) (sym is) (read_in m accesses a.0 v.0 a.1 a.3 v.1)) in (
          w.0,
          a.0.operands.items,
          w.1,
          subst (λ j. IsAccess core s events last m Deq j w.0.enable a.0.operands.items w.0.copy) a.2
              (access core s events last accesses owners h m picks Deq a.0 w.0.enable w.0.copy a.1 a.3 a.4 (take_no_read Deq refl) (sym (ap (λ (x : PlainTouch). x.enable) w.2)) (sym (ap (λ (x : PlainTouch). x.copy) w.2))),
        )

    pub all_takes : HasAllTakes core s events last m list
    all_takes = record { each = λ w c. from_take w (from_picked read_of (is_reader m) accesses (plain_touch w) (mapped_in plain_touch list (reads_to m accesses) w is c)); operations = has_take }
