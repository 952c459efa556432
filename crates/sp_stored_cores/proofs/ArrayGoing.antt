-- The accesses of an SRAM, of operations, loads and stores, are those of its circuit, and each read is answered.
use Rattle.std.proofs.Common.{◌≡◌, ◌≢◌, ℕ, suc, ◌<◌, ◌^◌, ◌⊎◌, inl, inr, List, [], ◌∷◌, ◌++◌, map, All, Option, Some, None, refl, sym, ap, subst, ◌∙◌, arith}
use Rattle.std.specs.List.{AllZip, Contains, filter}
use Rattle.std.proofs.lemmas.List.Elements.{All-contains, Contains-append_left, Contains-append_right, Contains-append_cases}
use Rattle.sp_words.specs.declared.kind.Kind.{Kind}
use Rattle.sp_words.specs.declared.kind.Kind.TheVariants.{Sram, Fifo, ArgIn}
use Rattle.sp_words.specs.Memory.{Contents}
use Rattle.sp_netlist.specs.Signals.{Signals}
use Rattle.sp_core.specs.declared.operation.OpKind.{OpKind}
use Rattle.sp_core.specs.declared.operation.OpKind.TheVariants.{Read, Write}
use Rattle.sp_core.specs.Declarations.{kind_of}
use Rattle.sp_core.specs.Latency.{read_latency}
use Rattle.sp_core.specs.PlainCore.{PlainCore}
use Rattle.sp_plan.specs.PlainPlan.{PlainPlan}
use Rattle.sp_time.specs.Lists.{Each}
use Rattle.sp_time.specs.Places.{Place}
use Rattle.sp_machine.specs.InOrder.{memory_of as moved_memory}
use Rattle.sp_machine.specs.Stamps.{Stamped}
use Rattle.sp_chosen_runs.specs.InsideLaws.{IsInside}
use Rattle.sp_core_ports.specs.UsedReaders.{duplicate_at}
use Rattle.sp_mem.specs.declared.part.Touch.{Touch}
use Rattle.sp_mem.specs.Copies.{copy_at}
use Rattle.sp_banked.specs.declared.part.Banked.{Banked}
use Rattle.sp_circuit_ops.specs.declared.ops.WordNet.{WordNet}
use Rattle.sp_part_runs.specs.ActsEntries.{index_words, word_that_changes}
use Rattle.sp_core.specs.Transfers.{loaded_at}
use Rattle.sp_node_runs.specs.BodiesTold.{SomeHappens, ActsInTime}
use Rattle.sp_transfer_runs.specs.Told.{WritesInTime}
use Rattle.sp_memory_words.specs.Accesses.{IsOperation, OperationsStay}
use Rattle.sp_memory_words.specs.Answers.{IsAnswered, NamesCopies}
use Rattle.sp_memory_words.specs.Moments.{HappensWell}
use Rattle.sp_bank_words.specs.Accesses.{reads_in, writes_in, IsMemoryOf}
use Rattle.sp_bank_words.specs.Acting.{StandsInTime, WriteGoes, ReadGoes, MemoryGoes}
use Rattle.sp_bank_words.specs.Acting as acting
use Rattle.sp_bank_words.specs.Laws.{OperationsGo}
use Rattle.sp_bank_words.proofs.Filtered.{filter_has, filter_from, write_to}
use Rattle.sp_access_nets.specs.declared.access.AccessNets.{AccessNets}
use Rattle.sp_access_nets.specs.Picking.{is_to, PicksAccessesTo}
use Rattle.sp_tree_handed.specs.declared.owners.OwnerNets.{OwnerNets}
use Rattle.sp_tree_handed.specs.Scalars.{IsInBanks}
use Rattle.sp_tree_handed.specs.Standing.{AccessStands}
use Rattle.sp_memory_nets.specs.ScalarLists.{answer_net, is_reader}
use Rattle.sp_memory_nets.proofs.ScalarAnswering.{reader_answers, answers_reader}
use Rattle.sp_memory_nets.proofs.ScalarPicked.{picked}
use Rattle.sp_stored_cores.specs.ScalarInTime.{MemoriesInTime}
use Rattle.sp_memory_nets.specs.ArrayArrays.{IsArrayOf}
use Rattle.sp_memory_nets.specs.ArrayTouches.{IsReadBy, IsWriteBy}
use Rattle.sp_stored_cores.specs.ArrayLaws.{ReadsAnswered}
use Rattle.sp_stored_cores.specs.ArrayLoads.{LoadsInTime}
use Rattle.sp_stored_cores.specs.ArrayStores.{ReadsInTime, StoresReadInTime}
use Rattle.sp_stored_cores.proofs.ArrayLists.{numbers_zip, both_at, ends}
use Rattle.sp_stored_cores.proofs.ArrayChanges.{IsWritten, is_written}
use Rattle.sp_stored_cores.proofs.ArrayLoading.{load_goes}
use Rattle.sp_stored_cores.proofs.ArrayStoring.{store_goes}

-- the numbers of the accesses that are to be answered by a memory, and of those that write to it
abbrev pub reading : (mem : ℕ) → List AccessNets → List ℕ
reading m accesses = map (λ (a : AccessNets). a.number) (filter (is_reader m) accesses)

abbrev pub writing : (mem : ℕ) → List AccessNets → List ℕ
writing m accesses = map (λ (a : AccessNets). a.number) (filter (is_to m Write) accesses)

-- after how many cycles an answer comes, where there is one
abbrev after_of : Option WordNet → ℕ
after_of (Some w) = w.after
after_of None = 0

no_argument : (k : Kind) → k ≡ Sram → k ≢ ArgIn
no_argument k e h = absurd (cc (e, h))

module _ (core : PlainCore) (plan : PlainPlan) (s : Signals) (events : List Stamped) (last : ℕ) (accesses loading storing : List AccessNets) (owners : OwnerNets) (h : MemoriesInTime core s events last accesses owners) (loads : LoadsInTime core s events last loading) (stores : StoresReadInTime core s events last storing) (first : Place → Option Contents)
    (well : HappensWell core plan events first) (inside : Each (λ (x : Stamped). IsInside core x.moment) events) (stays : OperationsStay core plan) (m : ℕ) (sram : kind_of core m ≡ Sram) where
  -- an access of a kind to the memory
  record IsOne (a : AccessNets) (kind : OpKind) : Type 0 where
    there : Contains accesses a
    mem : a.mem ≡ m
    kind_is : a.kind ≡ kind

  operation : (a : AccessNets) (kind : OpKind) → IsOne a kind → IsOperation core m kind a.number
  operation a kind o = subst (λ j. IsOperation core j kind a.number) o.mem (subst (λ q. IsOperation core a.mem q a.number) o.kind_is (h.is_operation a o.there))

  acts : (a : AccessNets) (kind : OpKind) → IsOne a kind → ActsInTime s events last a.number kind a.enable a.operands.items
  acts a kind o = subst (λ q. ActsInTime s events last a.number q a.enable a.operands.items) o.kind_is (h.in_banks a o.there (subst IsInBanks (sym (ap (kind_of core) o.mem ∙ sram)) tt))

  -- it names the copies of its events, and its indices have no sign
  stands : (a : AccessNets) (kind : OpKind) → IsOne a kind → (touch : Touch) → touch.copy ≡ a.copy → touch.index.items ≡ index_words kind a.operands.items → StandsInTime s events last a.number touch
  stands a kind o touch copied indexed = record {
    copy = λ t c e l there n. ap (copy_at s t) copied ∙ h.named a o.there t e (record { copy = c; there = there; numbered = n }) l;
    index = λ t e l happens. subst (All (λ net. s.net t net < 2 ^ 31)) (sym indexed) ((acts a kind o).index t e l happens);
  }

  module _ (go : (u n : ℕ) (touch : Touch) → OperationsGo core plan s events m u n touch) where
    read_goes : (a : AccessNets) (touch : Touch) → IsOne a Read → IsReadBy core plan a touch → ReadGoes core plan s m (reads_in m events) last a.number touch
    read_goes a touch o is =
        (go last a.number touch).reads (stays events first well m a.number Read (operation a Read o))
        (subst (λ ns. ActsInTime s events last a.number Read touch.enable ns) (sym is.index) (subst (λ n. ActsInTime s events last a.number Read n a.operands.items) (sym is.enable) (acts a Read o)))
        (stands a Read o touch is.copy is.index)

    write_goes : (a : AccessNets) (touch : Touch) → IsOne a Write → IsWriteBy a touch → WriteGoes s (writes_in m events) last a.number touch
    write_goes a touch o is =
        let some = (All-contains (AccessStands h.draft core) accesses a h.stand o.there).some o.kind_is in
        let operands : a.operands.items ≡ touch.index.items ++ touch.word ∷ [] = sym (ap (λ ns. ns ++ touch.word ∷ []) is.index ∙ ap (λ n. index_words Write a.operands.items ++ n ∷ []) is.word ∙ ends a.operands.items some) in
        (go last a.number touch).writes (stays events first well m a.number Write (operation a Write o))
        (subst (λ ns. ActsInTime s events last a.number Write touch.enable ns) operands (subst (λ n. ActsInTime s events last a.number Write n a.operands.items) (sym is.enable) (acts a Write o)))
        (stands a Write o touch is.copy is.index)

  -- so does the write of a load to the memory
  record IsLoad (a : AccessNets) : Type 0 where
    there : Contains loading a
    mem : a.mem ≡ m

  load_writes : (a : AccessNets) (touch : Touch) → IsLoad a → IsWriteBy a touch → WriteGoes s (writes_in m events) last a.number touch
  load_writes a touch o is =
      load_goes core s events last m h.right.memories inside sram a touch is (loads.is_loading a o.there).some
      (subst (λ j. WritesInTime s (writes_in j events) last a.number (loaded_at core (kind_of core j) j) a.enable (index_words Write a.operands.items) (word_that_changes Write a.operands.items)) o.mem (loads.act a o.there))
      (subst (λ j. NamesCopies s (writes_in j events) last a.number a.copy) o.mem (loads.named a o.there))

  -- and the read of a store
  record IsStore (a : AccessNets) : Type 0 where
    there : Contains storing a
    mem : a.mem ≡ m

  store_reads : (a : AccessNets) (touch : Touch) → IsStore a → IsReadBy core plan a touch → ReadGoes core plan s m (reads_in m events) last a.number touch
  store_reads a touch o is =
      store_goes core plan s events last m h.right.memories inside sram a touch is
      (subst (λ j. ReadsInTime s (reads_in j events) last a.number a.enable a.operands.items) o.mem (stores.act a o.there))
      (subst (λ j. NamesCopies s (reads_in j events) last a.number a.copy) o.mem (stores.named a o.there))

  module _ (picks : PicksAccessesTo) (part : Banked) (is : IsArrayOf core plan (accesses ++ loading ++ storing) m part) where
    -- an access of all, of an operation, a load or a store
    among : (a : AccessNets) → Contains (accesses ++ loading ++ storing) a → Contains accesses a ⊎ (Contains loading a ⊎ Contains storing a)
    among a c = elim (Contains-append_cases (accesses ++ loading) storing a c) [
      | inl before ↦ elim (Contains-append_cases accesses loading a before) [ inl op ↦ inl op | inr load ↦ inr (inl load) ]
      | inr store ↦ inr (inr store)
    ]

    of_operation : (a : AccessNets) → Contains accesses a → Contains (accesses ++ loading ++ storing) a
    of_operation a c = Contains-append_left (accesses ++ loading) storing a (Contains-append_left accesses loading a c)

    of_load : (a : AccessNets) → Contains loading a → Contains (accesses ++ loading ++ storing) a
    of_load a c = Contains-append_left (accesses ++ loading) storing a (Contains-append_right accesses loading a c)

    a_read : (a : AccessNets) → Contains (filter (is_reader m) (accesses ++ loading ++ storing)) a → IsOne a Read ⊎ IsStore a
    a_read a c =
        let f = filter_from (is_reader m) (accesses ++ loading ++ storing) a c in
        let r = reader_answers m a f.1 in
        elim (among a f.0) [
          | inl there ↦ inl (record {
            there = there;
            mem = r.0;
            kind_is = elim (h.asked a r.1 there r.2) [
              | inl read ↦ read
              | inr take ↦ absurd (let other : Fifo ≡ Sram = sym take.1 ∙ ap (kind_of core) r.0 ∙ sram in cc)
            ];
          })
          | inr (inl load) ↦ absurd (let none : Some r.1 ≡ None = sym r.2 ∙ (loads.is_loading a load).unanswered in cc)
          | inr (inr store) ↦ inr (record { there = store; mem = r.0 })
        ]

    read_there : (a : AccessNets) → IsOne a Read ⊎ IsStore a → a.mem ≡ m
    read_there a (inl o) = o.mem
    read_there a (inr o) = o.mem

    a_write : (a : AccessNets) → Contains (filter (is_to m Write) (accesses ++ loading ++ storing)) a → IsOne a Write ⊎ IsLoad a
    a_write a c =
        let f = filter_from (is_to m Write) (accesses ++ loading ++ storing) a c in
        let p = (picks m Write a refl).0 f.1 in
        elim (among a f.0) [
          | inl there ↦ inl (record { there = there; mem = p.0; kind_is = p.1 })
          | inr (inl load) ↦ inr (record { there = load; mem = p.0 })
          | inr (inr store) ↦ absurd (let clash : Read ≡ Write = sym (stores.is_storing a store).kind_is ∙ p.1 in cc)
        ]

    is_writing : (a : AccessNets) → Contains (accesses ++ loading ++ storing) a → a.mem ≡ m → a.kind ≡ Write → (n : ℕ) → a.number ≡ n → Contains (writing m (accesses ++ loading ++ storing)) n
    is_writing a c p k n e = subst (Contains (writing m (accesses ++ loading ++ storing))) e (picked (λ (b : AccessNets). b.number) (is_to m Write) (accesses ++ loading ++ storing) a c ((picks m Write a refl).1 p k))

    -- a change is the write of one of them
    changed_by : (x : Stamped) → Contains events x → moved_memory x.moment ≡ m → (w : IsWritten core plan events first well m sram x.moment) → Contains (writing m (accesses ++ loading ++ storing)) w.event.number
    changed_by x there p w = elim w.by [
      | inl op ↦ let a = h.all_operations m w.event.number Write refl op in is_writing a.0 (of_operation a.0 a.1) a.3 a.4 w.event.number a.2
      | inr load ↦
          let a = loads.all_loads m w.event.number load.0 x.cycle sram load.1 happens in
          is_writing a.0 (of_load a.0 a.1) a.3 (loads.is_loading a.0 a.1).kind_is w.event.number a.2
    ]
      where
        happens : SomeHappens (writes_in m events) w.event.number x.cycle
        happens = (
          w.event,
          record {
            copy = x.copy;
            there =
                write_to events m x.cycle x.copy w.event
                (record {
                  there = subst (λ y. Contains events (record { cycle = x.cycle; copy = x.copy; moment = y })) w.touch there;
                  mem = sym (ap moved_memory w.touch) ∙ p;
                  word = w.word;
                  act = w.act;
                });
            numbered = refl;
          },
        )

    pub memory_of : IsMemoryOf core plan events m part (reading m (accesses ++ loading ++ storing)) (writing m (accesses ++ loading ++ storing))
    memory_of = record {
      layout = is.layout;
      copies = is.copies;
      duplicates = is.duplicates;
      each_read = numbers_zip (λ (a : AccessNets). a.number) (IsReadBy core plan) (λ n r. r.duplicate ≡ duplicate_at core plan m n) (filter (is_reader m) (accesses ++ loading ++ storing)) part.reads.items
          (λ a r c by. by.duplicate ∙ ap (λ j. duplicate_at core plan j a.number) (read_there a (a_read a c))) is.reads;
      all = λ x there d p c. (let w = is_written core plan events first well m sram x there d p c in (w.event, w.word, w.touch, w.act, changed_by x there p w));
    }

    module _ (go : (u n : ℕ) (touch : Touch) → OperationsGo core plan s events m u n touch) where
      write_of : (a : AccessNets) (touch : Touch) → IsOne a Write ⊎ IsLoad a → IsWriteBy a touch → WriteGoes s (writes_in m events) last a.number touch
      write_of a touch (inl o) by = write_goes go a touch o by
      write_of a touch (inr o) by = load_writes a touch o by

      read_of : (a : AccessNets) (touch : Touch) → IsOne a Read ⊎ IsStore a → IsReadBy core plan a touch → ReadGoes core plan s m (reads_in m events) last a.number touch
      read_of a touch (inl o) by = read_goes go a touch o by
      read_of a touch (inr o) by = store_reads a touch o by

      pub memory_goes : MemoryGoes core plan s m events last part (reading m (accesses ++ loading ++ storing)) (writing m (accesses ++ loading ++ storing))
      memory_goes = record {
        each_read = numbers_zip (λ (a : AccessNets). a.number) (IsReadBy core plan) (ReadGoes core plan s m (reads_in m events) last) (filter (is_reader m) (accesses ++ loading ++ storing)) part.reads.items (λ a r c by. read_of a r (a_read a c) by) is.reads;
        each_write = numbers_zip (λ (a : AccessNets). a.number) IsWriteBy (WriteGoes s (writes_in m events) last) (filter (is_to m Write) (accesses ++ loading ++ storing)) part.writes.items (λ a w c by. write_of a w (a_write a c) by) is.writes;
      }

      abbrev AreTold : Type 0
      AreTold = AllZip (λ n (r : Touch). acting.IsAnswered s (reads_in m events) (suc (suc last)) n Read r.word 2) (reading m (accesses ++ loading ++ storing)) part.reads.items

      -- the touch of an access that is to be answered, and what it is told
      touch_of : AreTold → (a : AccessNets) (w : WordNet) → Contains (accesses ++ loading ++ storing) a → a.mem ≡ m → a.answer ≡ Some w
          → (r : Touch) × IsReadBy core plan a r × acting.IsAnswered s (reads_in m events) (suc (suc last)) a.number Read r.word 2
      touch_of answers a w c p e =
          both_at (λ (b : AccessNets). b.number) (IsReadBy core plan) (λ n (t : Touch). acting.IsAnswered s (reads_in m events) (suc (suc last)) n Read t.word 2) (filter (is_reader m) (accesses ++ loading ++ storing)) part.reads.items is.reads answers a
          (filter_has (is_reader m) (accesses ++ loading ++ storing) a c (answers_reader m a w p e))

      told_within : AreTold → (a : AccessNets) (w : WordNet) → Contains (accesses ++ loading ++ storing) a → a.mem ≡ m → a.answer ≡ Some w → acting.IsAnswered s (reads_in m events) (suc (suc last)) a.number Read w.net 2
      told_within answers a w c p e =
          let r = touch_of answers a w c p e in
          subst (λ net. acting.IsAnswered s (reads_in m events) (suc (suc last)) a.number Read net 2) (r.1.word ∙ ap answer_net e) r.2

      of_operations : AreTold → (a : AccessNets) (w : WordNet) → Contains accesses a → a.mem ≡ m → a.kind ≡ Read → a.answer ≡ Some w → IsAnswered s events (suc last) a.number Read w.after w.net
      of_operations answers a w c p k e =
          let o : IsOne a Read = record { there = c; mem = p; kind_is = k } in
          let kind : kind_of core a.mem ≡ Sram = ap (kind_of core) p ∙ sram in
          let after : w.after ≡ 2 = (All-contains (AccessStands h.draft core) accesses a h.stand c).later w k e (no_argument (kind_of core a.mem) kind) ∙ ap read_latency kind in
          let r = touch_of answers a w (of_operation a c) p e in
          let now = (go (suc (suc last)) a.number r.0).answers (stays events first well m a.number Read (operation a Read o)) w.net 2 (told_within answers a w (of_operation a c) p e) in
          subst (λ n. IsAnswered s events (suc last) a.number Read n w.net) (sym after) (λ t x happens until v act. now t x happens (omega (arith, until)) v act)

      of_stores : AreTold → (a : AccessNets) (w : WordNet) → Contains storing a → a.mem ≡ m → a.answer ≡ Some w → IsAnswered s (reads_in m events) (suc last) a.number Read w.after w.net
      of_stores answers a w c p e =
          let is_store = stores.is_storing a c in
          let after : w.after ≡ 2 = ap after_of (sym e ∙ is_store.answer) ∙ is_store.after ∙ ap read_latency is_store.sram in
          let now = told_within answers a w (Contains-append_right (accesses ++ loading) storing a c) p e in
          subst (λ n. IsAnswered s (reads_in m events) (suc last) a.number Read n w.net) (sym after) (λ t x happens until v act. now t x happens (omega (arith, until)) v act)

      pub answered : AreTold → ReadsAnswered s events last accesses storing m
      answered answers = record { operations = of_operations answers; stores = of_stores answers }
