-- The stores of a core in a run: their reads act in time, and where these are answered their units write the DRAMs in time.
use Rattle.std.proofs.Common.{◌≡◌, ℕ, zero, suc, ◌+◌, ◌<◌, ◌==◌, Bool, true, false, if◌then◌else◌, List, [], ◌∷◌, map, length, slice_index_or, Option, Some, None, refl, sym, ap, subst, ◌∙◌, arith}
use Rattle.std.proofs.lemmas.Bool.{eq-eqb}
use Rattle.std.specs.List.{Contains}
use Rattle.sp_words.specs.declared.kind.Kind.TheVariants.{Sram}
use Rattle.sp_netlist.specs.declared.parts.Child.{Child}
use Rattle.sp_netlist.specs.Signals.{Setting, Signals}
use Rattle.sp_core.specs.declared.operation.OpKind.TheVariants.{Read}
use Rattle.sp_core.specs.Declarations.{kind_of}
use Rattle.sp_core.specs.Events.{reads, Event}
use Rattle.sp_core.specs.Latency.{read_latency}
use Rattle.sp_core.specs.Numbering.{spans_size}
use Rattle.sp_core.specs.PlainCore.{PlainSpan, store, PlainCore}
use Rattle.sp_plan.specs.PlainPlan.{PlainPlan}
use Rattle.sp_machine.specs.Stamps.{Stamped}
use Rattle.sp_machine.specs.Transfers.{Delays}
use Rattle.sp_circuit_ops.specs.declared.ops.WordNet.{WordNet}
use Rattle.sp_node_runs.specs.RunsTold.{all_events}
use Rattle.sp_node_runs.specs.BodiesGiven.{Nets}
use Rattle.sp_node_runs.specs.BodiesSpans.{SpanNets}
use Rattle.sp_node_runs.specs.BodiesTold.{Happens, SomeHappens}
use Rattle.sp_tree_events.specs.PartsAgreeing.{Agree}
use Rattle.sp_tree_events.specs.ToldItems.{transfer, NodeHas}
use Rattle.sp_tree_events.specs.ToldLaws.{IsMoved}
use Rattle.sp_tree_runs.specs.BodiesScoped.{Scoped, placed}
use Rattle.sp_tree_circuits.specs.Circuits.{Circuit}
use Rattle.sp_tree_handed.specs.declared.moves.Direction.TheVariants.{Store}
use Rattle.sp_transfer_runs.specs.Stores.{AreFoundLater, StoreGoes}
use Rattle.sp_transfer_trees.specs.Trees.{TransferGoes}
use Rattle.sp_memory_words.specs.Answers.{IsAnswered, NamesCopies}
use Rattle.sp_bank_words.specs.Accesses.{reads_in}
use Rattle.sp_access_nets.specs.declared.access.AccessNets.{AccessNets}
use Rattle.sp_access_nets.specs.Accesses.{copy_in}
use Rattle.sp_memory_nets.specs.ArrayKinds.{IsEmitted}
use Rattle.sp_stored_cores.specs.ArrayStores.{ReadsInTime, IsStoring, StoresReadInTime, StoresReadInWhole, StoresAreAnswered}
use Rattle.sp_dram_words.specs.Moves.{stores, NodeMoves, MovesAreItems}
use Rattle.sp_dram_words.specs.Stores.{IsUnitOf, HasStores}
use Rattle.sp_dram_words.specs.Units.{StoreUnit}
use Rattle.sp_stored_cores.specs.Loads.{Channel, took_by}
use Rattle.sp_stored_cores.specs.Moves.{MovesAre}
use Rattle.sp_stored_cores.specs.Stores.{StoreAccess, units_of, IsStoreRead, StoreStands}
use Rattle.sp_stored_cores.proofs.Acting.{TransferActs}
use Rattle.sp_stored_cores.proofs.Elements.{in_map, of_map, same_number}
use Rattle.sp_stored_cores.proofs.Loaded.{is_sram}
use Rattle.sp_stored_cores.proofs.Moves.{Placed, HasSuch, by_access, by_number}

-- the units of a DRAM are those of the stores to it
behind : {A : Type 0} (y x : A) (xs : List A) → Contains xs x → Contains (y ∷ xs) x
behind y x xs (k, l, e) = (suc k, omega (arith, l), e)

module _ (r : ℕ) where
  pub record IsOfStore (storing : List StoreAccess) (u : StoreUnit) : Type 0 where
    pub store : StoreAccess
    pub there : Contains storing store
    pub dram : store.dram ≡ r
    pub unit : store.unit ≡ u

  one_or_later : (b : Bool) (a : StoreAccess) (storing : List StoreAccess) (u : StoreUnit) → (b ≡ true → a.dram ≡ r) → Contains (if b then a.unit ∷ units_of r storing else units_of r storing) u → (Contains (units_of r storing) u → IsOfStore storing u) → IsOfStore (a ∷ storing) u
  one_or_later true a storing u same (zero, l, e) later = record { store = a; there = (0, omega arith, refl); dram = same refl; unit = e }
  one_or_later true a storing u same (suc k, l, e) later = let h = later (k, omega (arith, l), e) in record { store = h.store; there = behind a h.store storing h.there; dram = h.dram; unit = h.unit }
  one_or_later false a storing u same there later = let h = later there in record { store = h.store; there = behind a h.store storing h.there; dram = h.dram; unit = h.unit }

  pub of_store : (storing : List StoreAccess) (u : StoreUnit) → Contains (units_of r storing) u → IsOfStore storing u
  of_store [] u (k, l, e) = absurd (omega (arith, l))
  of_store (a ∷ storing) u there = one_or_later (a.dram == r) a storing u (λ e. same_number a.dram r e) there (λ h. of_store storing u h)

  in_first : (b : Bool) (u : StoreUnit) (rest : List StoreUnit) → b ≡ true → Contains (if b then u ∷ rest else rest) u
  in_first b u rest e = rw e (0, omega arith, refl)

  in_later : (b : Bool) (v u : StoreUnit) (rest : List StoreUnit) → Contains rest u → Contains (if b then v ∷ rest else rest) u
  in_later true v u rest h = behind v u rest h
  in_later false v u rest h = h

  pub has_unit : (storing : List StoreAccess) (a : StoreAccess) → Contains storing a → a.dram ≡ r → Contains (units_of r storing) a.unit
  has_unit [] a (k, l, e) same = absurd (omega (arith, l))
  has_unit (b ∷ storing) a (zero, l, e) same = subst (λ (x : StoreAccess). Contains (units_of r (b ∷ storing)) x.unit) e (in_first (b.dram == r) b.unit (units_of r storing) (eq-eqb b.dram r (ap (λ (x : StoreAccess). x.dram) e ∙ same)))
  has_unit (b ∷ storing) a (suc k, l, e) same = in_later (b.dram == r) b.unit a.unit (units_of r storing) (has_unit storing a (k, omega (arith, l), e) same)

module _ (core : PlainCore) (plan : PlainPlan) (delays : Delays) (g : Setting) (s : Signals) (channels : (node : ℕ) → Channel) (bound : ℕ) (copies : List (Option ℕ)) (whole : List Stamped) where
  abbrev OfStore : Type 1
  OfStore = (r m : ℕ) (spans : List PlainSpan) (k n : ℕ) → List Scoped → Child → List SpanNets → StoreAccess → Type 0

  -- what is known of a store before anything goes: what happens at its number in its runs is what happens in the whole
  pub record StoreKnown (r m : ℕ) (spans : List PlainSpan) (k n : ℕ) (qs : List Scoped) (c : Child) (nets : List SpanNets) (a : StoreAccess) : Type 0 where
    pub stands : StoreStands core g s channels bound copies r m spans k n qs c nets a
    pub agrees : Agree whole (all_events core plan delays (store r m spans) k n (placed qs)) (n + spans_size spans)

  -- and it stands in the core
  abbrev pub StorePlaced : (r m : ℕ) (spans : List PlainSpan) (k n : ℕ) → List Scoped → Child → List SpanNets → StoreAccess → Type 0
  StorePlaced = Placed core plan delays s Store StoreKnown (NodeMoves core.root 0)

  -- it goes as the timeline says, up to a cycle
  pub record StoreGoing (t : ℕ) (r m : ℕ) (spans : List PlainSpan) (k n : ℕ) (qs : List Scoped) (c : Child) (nets : List SpanNets) (a : StoreAccess) : Type 0 where
    pub place : StorePlaced r m spans k n qs c nets a
    pub goes : TransferGoes core plan delays g s bound t (took_by g s channels bound) (store r m spans) k n qs c nets

  -- what it does, up to a cycle
  pub record StoreActs (t : ℕ) (r m : ℕ) (spans : List PlainSpan) (k n : ℕ) (qs : List Scoped) (c : Child) (nets : List SpanNets) (a : StoreAccess) : Type 0 where
    pub place : StorePlaced r m spans k n qs c nets a
    pub goes : TransferGoes core plan delays g s bound t (took_by g s channels bound) (store r m spans) k n qs c nets
    pub acts : TransferActs core plan delays s whole t (store r m spans) k n qs c nets

  module _ (t : ℕ) (env : Nets) (c : Child) (w : Circuit core plan s core.root [] env 0 c) (qs : List Scoped) (storing : List StoreAccess) (h : MovesAre Store core plan delays s (StoreActs t) core.root [] env 0 0 qs c w storing) (items : MovesAreItems core.root)
      (moved : (x r m : ℕ) → NodeHas core.root 0 x (transfer r m) → IsMoved (kind_of core m)) (emitted : (m : ℕ) → m < length core.mems → IsEmitted (kind_of core m))
      (stays : (x r m u v : ℕ) (e : Event) → NodeMoves core.root 0 x (stores r m) → Happens whole x u e → e.act ≡ reads v → e.mem ≡ m) where
    abbrev Such : StoreAccess → Type 0
    Such a = HasSuch core plan delays s Store (StoreActs t) (NodeMoves core.root 0) a

    such : (a : StoreAccess) → Contains storing a → Such a
    such a there = by_access core plan delays s Store (StoreActs t) (NodeMoves core.root 0) a core.root [] env 0 0 qs c w storing (λ x v q. q) h there

    abbrev reads_of : (a : StoreAccess) (x : Such a) → IsStoreRead core (x.n + spans_size x.spans) x.m (copy_in copies (x.n + spans_size x.spans)) x.is.place.is.stands.has.part x.is.place.is.stands.has.nets a.access
    reads_of a x = x.is.place.is.stands.read

    stands_for : (a : StoreAccess) (x : Such a) → NodeHas core.root 0 (x.n + spans_size x.spans) (transfer x.r x.m)
    stands_for a x = items.store_is 0 (x.n + spans_size x.spans) x.r x.m x.stands

    -- its memory is an SRAM
    own_sram : (a : StoreAccess) (x : Such a) → kind_of core x.m ≡ Sram
    own_sram a x = is_sram (kind_of core x.m) (moved (x.n + spans_size x.spans) x.r x.m (stands_for a x)) (emitted x.m x.is.place.is.stands.chip)

    mem_is : (a : StoreAccess) (x : Such a) → a.access.mem ≡ x.m
    mem_is a x = (reads_of a x).mem_is

    abbrev goes_of : (a : StoreAccess) (x : Such a) → StoreGoes core plan delays s x.is.place.is.stands.has.part x.is.place.is.stands.has.nets t x.k x.n x.r x.m x.spans (placed x.qs)
    goes_of a x = x.is.goes.goes x.is.place.is.stands.has t (omega arith) x.is.acts.part.starts x.is.acts.slices

    abbrev part_of : (a : StoreAccess) (x : Such a) → List Stamped
    part_of a x = all_events core plan delays (store x.r x.m x.spans) x.k x.n (placed x.qs)

    reads_stay : (a : StoreAccess) (x : Such a) (u v : ℕ) (e : Event) → Happens whole (x.n + spans_size x.spans) u e → e.act ≡ reads v → e.mem ≡ x.m
    reads_stay a x u v e happens act = stays (x.n + spans_size x.spans) x.r x.m u v e x.stands happens act

    module _ (in_whole : StoresReadInWhole) where
      reads_along : (m k number other enable on : ℕ) (operands indices : List ℕ) → m ≡ k → number ≡ other → enable ≡ on → operands ≡ indices → ReadsInTime s (reads_in k whole) t other on indices → ReadsInTime s (reads_in m whole) t number enable operands
      reads_along m k number other enable on operands indices a b d e h =
          subst (λ zs. ReadsInTime s (reads_in m whole) t number enable zs) (sym e)
          (subst (λ z. ReadsInTime s (reads_in m whole) t number z indices) (sym d)
          (subst (λ z. ReadsInTime s (reads_in m whole) t z on indices) (sym b)
          (subst (λ z. ReadsInTime s (reads_in z whole) t other on indices) (sym a) h)))

      read_acts : (a : StoreAccess) (x : Such a) → ReadsInTime s (reads_in a.access.mem whole) t a.access.number a.access.enable a.access.operands.items
      read_acts a x =
          let own = (goes_of a x).looks in
          let read = reads_of a x in
          reads_along a.access.mem x.m a.access.number (x.n + spans_size x.spans) a.access.enable x.is.place.is.stands.has.nets.read a.access.operands.items x.is.place.is.stands.has.nets.indices.items read.mem_is read.number_is read.enable read.operands
          (in_whole s whole (part_of a x) t (x.n + spans_size x.spans) x.m x.is.place.is.stands.has.nets.read x.is.place.is.stands.has.nets.indices.items x.is.place.is.agrees (λ u v e happens act. reads_stay a x u v e happens act)
          (record { enabled = own.enabled; at = own.at }))

      module _ (names : (x r m : ℕ) → NodeHas core.root 0 x (transfer r m) → NamesCopies s (reads_in m whole) t x (slice_index_or copies x None))
          (by_store : (m n dram u : ℕ) → kind_of core m ≡ Sram → NodeHas core.root 0 n (transfer dram m) → SomeHappens (reads_in m whole) n u → NodeMoves core.root 0 n (stores dram m)) where
        read_names : (a : StoreAccess) (x : Such a) → NamesCopies s (reads_in a.access.mem whole) t a.access.number a.access.copy
        read_names a x =
            let read = reads_of a x in
            subst (λ m. NamesCopies s (reads_in m whole) t a.access.number a.access.copy) (sym read.mem_is)
            (subst (λ n. NamesCopies s (reads_in x.m whole) t n a.access.copy) (sym read.number_is)
            (subst (λ (copy : Option ℕ). NamesCopies s (reads_in x.m whole) t (x.n + spans_size x.spans) copy) (sym read.copied) (names (x.n + spans_size x.spans) x.r x.m (stands_for a x))))

        abbrev accesses : List AccessNets
        accesses = map (λ (a : StoreAccess). a.access) storing

        known_by : (P : AccessNets → Type 0) → ((a : StoreAccess) → Such a → P a.access) → (b : AccessNets) → Contains accesses b → P b
        known_by P f b there = let (a, inside, is) = of_map (λ (a : StoreAccess). a.access) storing b there in subst P is (f a (such a inside))

        pub stores_read : StoresReadInTime core s whole t (map (λ (a : StoreAccess). a.access) storing)
        stores_read = record {
          is_storing = known_by (IsStoring core) (λ a x. record {
            dram = x.r;
            stands = subst (λ y. NodeHas core.root 0 a.access.number (transfer x.r y)) (sym (mem_is a x)) (subst (λ y. NodeHas core.root 0 y (transfer x.r x.m)) (sym (reads_of a x).number_is) (stands_for a x));
            sram = ap (kind_of core) (mem_is a x) ∙ own_sram a x;
            kind_is = (reads_of a x).kind_is;
            word = (reads_of a x).word;
            answer = (reads_of a x).answer;
            after = (reads_of a x).after ∙ sym (ap (λ m. read_latency (kind_of core m)) (mem_is a x));
          });
          all_stores = λ m n dram u sram there happens.
              let y = by_number core plan delays s Store (StoreActs t) n dram m core.root [] env 0 0 qs c w storing (by_store m n dram u sram there happens) h in
              (y.a.access, in_accesses y.a y.there, y.is.place.is.stands.read.number_is ∙ sym y.number, y.is.place.is.stands.read.mem_is);
          act = known_by (λ b. ReadsInTime s (reads_in b.mem whole) t b.number b.enable b.operands.items) read_acts;
          named = known_by (λ b. NamesCopies s (reads_in b.mem whole) t b.number b.copy) read_names;
        }
          where
            in_accesses : (a : StoreAccess) → Contains storing a → Contains (map (λ (a : StoreAccess). a.access) storing) a.access
            in_accesses a there = in_map (λ (a : StoreAccess). a.access) storing a there

    -- where the reads of stores are answered, the units of each DRAM write it in time
    module _ (are_answered : StoresAreAnswered) (answers : (b : AccessNets) (word : WordNet) → Contains (map (λ (a : StoreAccess). a.access) storing) b → b.answer ≡ Some word → IsAnswered s (reads_in b.mem whole) t b.number Read word.after word.net) where
      found_later : (a : StoreAccess) (there : Contains storing a) (x : Such a) → AreFoundLater s x.is.place.is.stands.has.part.found (part_of a x) t (x.n + spans_size x.spans)
      found_later a there x u is v le does =
          let read = reads_of a x in
          let after : read.word.after ≡ 2 = read.after ∙ ap read_latency (own_sram a x) in
          let late : u + read.word.after ≡ suc (suc u) = omega (arith, after) in
          let own = answers a.access read.word (in_map (λ (a : StoreAccess). a.access) storing a there) read.answer in
          let at_number = subst (λ y. IsAnswered s (reads_in a.access.mem whole) t y Read read.word.after read.word.net) read.number_is own in
          let at_mem = subst (λ y. IsAnswered s (reads_in y whole) t (x.n + spans_size x.spans) Read read.word.after read.word.net) read.mem_is at_number in
          subst (λ net. s.net (suc (suc u)) net ≡ v) read.found
          (subst (λ y. s.net y read.word.net ≡ v) late
          (are_answered s whole (part_of a x) t (x.n + spans_size x.spans) x.m read.word.after read.word.net x.is.place.is.agrees (λ y z e happens act. reads_stay a x y z e happens act) at_mem u is v (omega (arith, le, late)) does))

      abbrev unit_for : (a : StoreAccess) (x : Such a) → StoreUnit
      unit_for a x = record { nets = record { ready = x.is.place.is.stands.has.part.port.ready; address = x.is.place.is.stands.has.part.port.address; word = x.is.place.is.stands.has.part.port.word }; number = x.n + spans_size x.spans }

      own_unit : (r : ℕ) (a : StoreAccess) (there : Contains storing a) → a.dram ≡ r → IsUnitOf core s whole t r a.unit
      own_unit r a there same =
          let x = such a there in
          let q : x.r ≡ r = sym x.is.place.is.stands.dram_is ∙ same in
          subst (IsUnitOf core s whole t r) (sym x.is.place.is.stands.unit_is)
          (subst (λ d. IsUnitOf core s whole t d (unit_for a x)) q (record {
            mem = x.m;
            stands = x.stands;
            part = part_of a x;
            agrees = x.is.place.is.agrees;
            acts = (goes_of a x).acts (found_later a there x);
          }))

      pub units_stand : (r : ℕ) → HasStores core s whole t r (units_of r storing)
      units_stand r = record {
        each = λ u there. let o = of_store r storing u there in subst (IsUnitOf core s whole t r) o.unit (own_unit r o.store o.there o.dram);
        all = λ n m there.
            let y = by_number core plan delays s Store (StoreActs t) n r m core.root [] env 0 0 qs c w storing there h in
            (y.a.unit, has_unit r storing y.a y.there y.is.place.is.stands.dram_is, ap (λ (u : StoreUnit). u.number) y.is.place.is.stands.unit_is ∙ sym y.number);
      }
