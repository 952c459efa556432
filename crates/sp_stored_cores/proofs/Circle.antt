-- The circle from what is read to what is written is closed cycle by cycle, and the end is that of the timeline.
use Rattle.std.proofs.Common.{◌≡◌, ℕ, zero, suc, ◌+◌, ◌<◌, ◌≤◌, Bool, true, false, List, [], ◌∷◌, map, length, slice_index, slice_index_or, Option, Some, refl, sym, ap, subst, ◌∙◌, arith}
use Rattle.std.proofs.lemmas.Bool.{lt-ltb}
use Rattle.std.specs.List.{Contains}
use Rattle.sp_words.specs.declared.kind.Kind.TheVariants.{ArgOut}
use Rattle.sp_words.specs.Ports.{PlainInput}
use Rattle.sp_netlist.specs.declared.parts.Child.{Child}
use Rattle.sp_netlist.specs.Signals.{Setting, Signals}
use Rattle.sp_gates.specs.Tested.{is_on}
use Rattle.sp_core.specs.Around.{Near}
use Rattle.sp_core.specs.Declarations.{mem, kind_of, dims, dram_number}
use Rattle.sp_core.specs.declared.operation.OpKind.TheVariants.{Read}
use Rattle.sp_core.specs.Events.{reads, Event}
use Rattle.sp_core.specs.History.{History}
use Rattle.sp_core.specs.Meaning.{first_store, run_core}
use Rattle.sp_core.specs.PlainCore.{PlainSpan, PlainNode, inner, outer, fsm, branch, load, store, sparse, PlainCore}
use Rattle.sp_core.specs.Scope.{in_lanes, no_scope}
use Rattle.sp_core.specs.Store.{Store as CoreStore, words_of}
use Rattle.sp_fitting.specs.Fitting.{HistoryFits}
use Rattle.sp_fitting.specs.Laws.{RunsFit}
use Rattle.sp_plan.specs.PlainPlan.{PlainPlan}
use Rattle.sp_time.specs.Events.{content, after}
use Rattle.sp_time.specs.Lists.{Each}
use Rattle.sp_time.specs.Places.{is_place}
use Rattle.sp_machine.specs.Found.{events_of, does, one_cell}
use Rattle.sp_machine.specs.InOrder.{is_done}
use Rattle.sp_machine.specs.Laws.{HappensWithin}
use Rattle.sp_machine.specs.Stamps.{Stamped}
use Rattle.sp_machine.specs.Timeline.{core_timed}
use Rattle.sp_machine.specs.Transfers.{Delays}
use Rattle.sp_overlap.proofs.Planned.{node_planned, node_kept}
use Rattle.sp_contents.specs.Found.{first_contents}
use Rattle.sp_part_runs.specs.ControlParts.{Begins, Ends}
use Rattle.sp_op_nets.specs.Table.{nets_at}
use Rattle.sp_node_runs.specs.BodiesGiven.{Nets}
use Rattle.sp_node_runs.specs.BodiesTold.{Happens}
use Rattle.sp_node_runs.specs.ControlLaws.{IsStarted}
use Rattle.sp_node_runs.specs.ControlRuns.{rans}
use Rattle.sp_tree_runs.specs.BodiesDone.{AllDone, RunsAreDone}
use Rattle.sp_tree_runs.specs.BodiesScoped.{Scoped, placed}
use Rattle.sp_tree_circuits.specs.Acts.{PartGoes, Acts}
use Rattle.sp_tree_circuits.specs.Answers.{Answered, EachTransfer, TransfersMove}
use Rattle.sp_tree_circuits.specs.Circuits.{Circuit}
use Rattle.sp_tree_circuits.specs.Laws.{core_run, core_events, CirclesClose}
use Rattle.sp_tree_events.specs.PartsAgreeing.{Agree}
use Rattle.sp_tree_events.specs.ToldLaws.{NumbersStandForOne, TransfersMove as AreFilled}
use Rattle.sp_node_runs.specs.BodiesSpans.{SpanNets}
use Rattle.sp_core.specs.Numbering.{spans_size, number_count}
use Rattle.sp_transfer_runs.specs.Delays.{delays_of}
use Rattle.sp_transfer_runs.specs.Trees.{AllMoved, TransfersMoveAll}
use Rattle.sp_transfer_trees.specs.Agreeing.{TransferAgrees, TransfersAgree}
use Rattle.sp_transfer_trees.specs.Trees.{HasTransfer, TransferGoes, GoingIsMoving, CoresTransfer}
use Rattle.sp_memory_words.specs.Answers.{IsAnswered, NamesCopies}
use Rattle.sp_memory_words.specs.Moments.{HappensWell}
use Rattle.sp_memory_words.specs.Registers.{IsRegister, copy_place}
use Rattle.sp_patterns.specs.Patterns.{patterns_of}
use Rattle.sp_memory_words.specs.Runs.{RunsHappenWell}
use Rattle.sp_access_nets.specs.declared.access.AccessNets.{AccessNets}
use Rattle.sp_access_nets.specs.Accesses.{copy_in}
use Rattle.sp_tree_handed.specs.declared.moves.Direction.TheVariants.{Load, Store}
use Rattle.sp_circuit_ops.specs.declared.ops.WordNet.{WordNet}
use Rattle.sp_bank_words.specs.Accesses.{reads_in}
use Rattle.sp_node_runs.specs.RunsTold.{all_events}
use Rattle.sp_transfer_runs.specs.Told.{AreFoundInDram}
use Rattle.sp_transfer_runs.proofs.Passing.{by_order}
use Rattle.sp_tree_accesses.specs.Laws.{IsInTime, AccessesAct, OperationsHaveAccesses, TreesAreAnswered}
use Rattle.sp_owner_runs.specs.Acting.{CoresOwn}
use Rattle.sp_owner_runs.specs.Naming.{CoresNameCopies, CoresNameLoads, CoresNameStores, PlansHaveNumbers}
use Rattle.sp_bank_runs.specs.Laws.{GoesWell, ValidPlansGoWell}
use Rattle.sp_stored_cores.specs.ScalarInTime.{MemoriesInTime, ArgumentsGiven}
use Rattle.sp_stored_cores.specs.ArrayLaws.{AllAnswered, MemoriesAnswer, MemoriesHold}
use Rattle.sp_stored_cores.specs.ArrayStores.{StoresReadInTime, StoresReadInWhole, StoresAreAnswered}
use Rattle.sp_dram_words.specs.Laws.{dram_size, IsDramOf, DramsAreOne, LoadsFind, DramsEnd}
use Rattle.sp_dram_words.specs.Moves.{stores, NodeMoves, MovesAreItems, IsActed, TimelinesAreActed, MovesAct, TransfersAct}
use Rattle.sp_dram_words.specs.Stores.{HasStores as HaveUnits, StoresAreInTime, LoadsFindOwn}
use Rattle.sp_stored_cores.specs.ArrayLoads.{LoadsInTime, LoadsWriteInWhole}
use Rattle.sp_stored_cores.specs.Circuits.{IsStoredCore, StoredCircuit, StartsOnce}
use Rattle.sp_stored_cores.specs.Closing.{RunsByPlan, DramsRun, GoesAlong}
use Rattle.sp_stored_cores.specs.Loads.{took_by, LoadStands, LoadsAre}
use Rattle.sp_stored_cores.specs.Moves.{MovesAre}
use Rattle.sp_stored_cores.specs.Quiet.{CoreEventsAreTimed, NothingBeginsAtOnce, RunsTakeTime}
use Rattle.sp_stored_cores.specs.Stores.{StoreAccess, units_of, StoreStands}
use Rattle.sp_stored_cores.proofs.Acting.{TransferActs, transfers_act}
use Rattle.sp_stored_cores.proofs.Elements.{each_in}
use Rattle.sp_stored_cores.proofs.Loaded.{LoadKnown, LoadPlaced, LoadGoing, LoadActs, of_itself, loads_in_time}
use Rattle.sp_stored_cores.proofs.Moved.{loaded_by, stored_by}
use Rattle.sp_stored_cores.proofs.Moves.{both_give, transfers_follow, items_stand}
use Rattle.sp_stored_cores.proofs.Saved.{StoreKnown, StorePlaced, StoreGoing, StoreActs, stores_read, units_stand}

-- the laws by which it is
pub record ClosingLaws (core : PlainCore) (plan : PlainPlan) (delays : Delays) : Type 0 where
  pub act : AccessesAct core plan delays
  pub have : OperationsHaveAccesses core
  pub own : CoresOwn core plan delays
  pub name : CoresNameCopies core plan delays
  pub name_loads : CoresNameLoads core plan delays
  pub numbers : PlansHaveNumbers core plan
  pub answer : MemoriesAnswer core plan delays
  pub hold : MemoriesHold core plan
  pub goes : ValidPlansGoWell core plan delays
  pub tree : TreesAreAnswered core plan
  pub close : CirclesClose core plan delays
  pub timed : CoreEventsAreTimed core plan delays
  pub early : NothingBeginsAtOnce core plan delays
  pub takes : RunsTakeTime core plan delays
  pub done : RunsAreDone
  pub fit : RunsFit core
  pub well : RunsHappenWell core plan delays
  pub within : (node : PlainNode) → HappensWithin core plan delays node
  -- those on transfers
  pub agree : (whole : List Stamped) → TransfersAgree core plan delays whole
  pub moving : (g : Setting) (s : Signals) (bound last : ℕ) (took : (node ask : ℕ) → ℕ) → GoingIsMoving core plan delays g s bound last took
  pub moved_all : TransfersMoveAll core plan delays
  pub filled : AreFilled core
  pub items : MovesAreItems core.root
  pub one : NumbersStandForOne core.root
  pub acted : TimelinesAreActed core plan delays
  pub own_acts : TransfersAct core plan delays
  pub in_whole : LoadsWriteInWhole
  pub read_in_whole : StoresReadInWhole
  pub are_answered : StoresAreAnswered
  pub name_stores : CoresNameStores core plan delays
  -- those on DRAMs
  pub one_copy : DramsAreOne core plan delays
  pub store_in_time : StoresAreInTime core plan delays
  pub find : LoadsFind core plan
  pub find_own : LoadsFindOwn core plan delays
  pub drams_end : DramsEnd core plan delays

-- a part of a tree goes with its runs
goes_so : (core : PlainCore) (plan : PlainPlan) (delays : Delays) (s : Signals) (events : List Stamped) (t : ℕ) (node : PlainNode) (near : List Near) (env : Nets) (k n : ℕ) (qs : List Scoped) (c : Child) (w : Circuit core plan s node near env k c)
    → Acts core plan delays s events t node near env k n qs c w → PartGoes core plan delays s events t node k n qs c
goes_so core plan delays s events t (branch ops first second) near env k n qs c w a = a.0
goes_so core plan delays s events t (fsm start state ops node after) near env k n qs c w a = a.0
goes_so core plan delays s events t (outer counters style owned stages) near env k n qs c w a = a.0
goes_so core plan delays s events t (inner counters owned ops comb) near env k n qs c w a = a.0
goes_so core plan delays s events t (load r m spans) near env k n qs c w a = a.0
goes_so core plan delays s events t (store r m spans) near env k n qs c w a = a.0
goes_so core plan delays s events t (sparse kind r m places spans count par) near env k n qs c w a = elim a [ ]

-- events of moments stand where these do
one_event : (core : PlainCore) (n : ℕ) (x : Stamped) (xs : List Stamped) (b : Bool) → is_done core x.moment ≡ b → x.cycle < n → Each (λ e. e.cycle < n) (events_of core xs) → Each (λ e. e.cycle < n) (events_of core (x ∷ xs))
one_event core n x xs true e l rest = rw e (l, rest)
one_event core n x xs false e l rest = rw e rest

each_event : (core : PlainCore) (n : ℕ) (xs : List Stamped) → Each (λ (x : Stamped). x.cycle < n) xs → Each (λ e. e.cycle < n) (events_of core xs)
each_event core n [] h = tt
each_event core n (x ∷ xs) h = one_event core n x xs (is_done core x.moment) refl h.0 (each_event core n xs h.1)

sooner : (n m : ℕ) (xs : List Stamped) → n ≤ m → Each (λ (x : Stamped). x.cycle < n) xs → Each (λ (x : Stamped). x.cycle < m) xs
sooner n m [] le h = tt
sooner n m (x ∷ xs) le h = ((let l = h.0 in omega (arith, l, le)), sooner n m xs le h.1)

module _ (core : PlainCore) (plan : PlainPlan) (all_laws : (delays : Delays) → ClosingLaws core plan delays) (transfer_law : CoresTransfer core plan) (g : Setting) (s : Signals) (c : Child) (arguments words : List ℕ) (is : IsStoredCore core) (x : StoredCircuit core plan g s c arguments words) (starts : StartsOnce s c.start)
    (input : PlainInput) (h : History) (left : CoreStore) (r : RunsByPlan core plan input h left) (given : ArgumentsGiven core input s arguments) (stored : DramsRun core input s x.storing) (bound : ℕ) where
  -- transfers wait for what their channels took
  abbrev took : (node ask : ℕ) → ℕ
  took = took_by g s x.channels bound

  abbrev delays : Delays
  delays = delays_of core h (took_by g s x.channels bound)

  laws : ClosingLaws core plan (delays_of core h (took_by g s x.channels bound))
  laws = all_laws (delays_of core h (took_by g s x.channels bound))

  all_done : AllDone in_lanes core.root no_scope h
  unfolding run_core
  all_done = laws.done core in_lanes r.turns core.root no_scope (first_store core input) left h is.timed r.ran

  fits : HistoryFits core core.root h
  fits = (laws.fit in_lanes input r.turns left h is.right r.fits r.ran).history

  goes : GoesWell core plan delays input h left
  goes = laws.goes r.meets r.planned r.meets_are input r.turns h left r.fits r.ran

  well : HappensWell core plan (core_timed core plan delays h).events (first_contents core input)
  well = laws.well (patterns_of core) r.meets r.planned input r.turns h left r.ran (first_contents core input) goes.found

  early : Each (λ (y : Stamped). 1 ≤ y.cycle) (core_events core plan delays h)
  early = laws.early is.uncounted h all_done

  late : (n u : ℕ) (e : Event) → Happens (core_timed core plan delays h).events n u e → 1 ≤ u
  late n u e there = each_in (λ (y : Stamped). 1 ≤ y.cycle) (core_timed core plan delays h).events _ (subst (Each (λ (y : Stamped). 1 ≤ y.cycle)) (laws.timed h) early) there.there

  once : (t : ℕ) → is_on s c.start t ≡ true → t ≡ 0
  once zero on = refl
  once (suc t) on = absurd (let clash : true ≡ false = sym on ∙ starts.once t in cc)

  started : (last : ℕ) → IsStarted s c.start (rans core plan delays core.root 0 0 (placed (core_run core plan delays h ∷ []))) last
  started last = record {
    on = λ t le begins. begin t begins;
    only = λ t le on. (_, (0, omega arith, refl), once t on);
  }
    where
      begin : (t : ℕ) → Begins (rans core plan delays core.root 0 0 (placed (core_run core plan delays h ∷ []))) t → is_on s c.start t ≡ true
      begin t (ran, (zero, l, e), at) = subst (λ u. is_on s c.start u ≡ true) (sym (at ∙ sym (ap (λ (q : Rattle.sp_part_runs.specs.ControlParts.Ran). q.cycle) e))) starts.begins
      begin t (ran, (suc k, l, e), at) = absurd (omega (arith, l))

  abbrev Going : (t : ℕ) → Type 0
  Going t = Acts core plan delays s (core_events core plan delays h) t core.root [] (nets_at []) 0 0 (core_run core plan delays h ∷ []) c x.circuit

  of_time : (t : ℕ) → Going t → (b : AccessNets) → Contains x.accesses b → IsInTime core (copy_in x.copies) s (core_events core plan delays h) t b
  of_time t a b there = laws.act s (core_events core plan delays h) t (core_run core plan delays h ∷ []) (nets_at []) c x.circuit (copy_in x.copies) x.acted x.accesses x.accesses_are x.handed a b there

  told : (t : ℕ) → Going t → MemoriesInTime core s (core_events core plan delays h) t x.accesses x.owners
  told t a =
      let has = laws.numbers (patterns_of core) r.meets r.planned in
      let own = laws.own s (nets_at []) h c is.right is.timed all_done fits has.copies x.circuit x.copies x.owners.renewed.items x.owners.kept.items x.named t a in
      record {
        right = is.right;
        is_operation = λ b there. (of_time t a b there).of_core.is;
        all_operations = λ m n kind accesses_it op. (let one = laws.have _ x.acted x.accesses x.accesses_are m n kind op in (one.access, one.there, one.numbered, one.mem_is, one.kind_is));
        act = λ b there other. (of_time t a b there).acts other;
        in_banks = λ b there banks. (of_time t a b there).in_banks banks;
        named = λ b there.
            let of = (of_time t a b there).of_core in
            subst (λ (n : Option ℕ). NamesCopies s (core_events core plan delays h) t b.number n) (sym of.copied)
            (laws.name s (nets_at []) h c is.right is.timed all_done fits has.copies has.kept x.circuit x.copies x.owners.renewed.items x.owners.kept.items x.named t a b.number of.is.op of.is.stands);
        asked = x.asked;
        owners_act = record {
          renewal = λ q there u le on. own.renews q u there le on;
          keeping = λ q there u le on. own.keeps q u there le on;
          all_renewals = λ u k m le there done. own.all_renewals u k m le done there;
          all_keepings = λ u k m word le there. (let it = own.all_keepings u k m word le there in (it.0, it.1, it.2, it.3, it.5));
        };
        within = x.within;
        draft = x.draft;
        stand = x.stand;
      }

  in_time : (t : ℕ) → Going t → MemoriesInTime core s (core_timed core plan delays h).events t x.accesses x.owners
  in_time t a = subst (λ es. MemoriesInTime core s es t x.accesses x.owners) (laws.timed h) (told t a)

  -- what is known of the transfers: what happens at their numbers
  all_moved : AllMoved core core.root h
  unfolding run_core
  all_moved = laws.moved_all.in_run in_lanes r.turns core.root no_scope (first_store core input) left h is.timed r.ran

  moves_act : MovesAct core (core_events core plan delays h)
  moves_act = subst (MovesAct core) (sym (laws.timed h)) (laws.own_acts is.timed h)

  acted : Each (λ (y : Stamped). IsActed core y.moment) (core_events core plan delays h)
  acted = subst (Each (λ (y : Stamped). IsActed core y.moment)) (sym (laws.timed h)) (laws.acted is.timed h)

  abbrev OfLoads : ((q m : ℕ) (spans : List PlainSpan) (k n : ℕ) → List Scoped → Child → List SpanNets → AccessNets → Type 0) → Type 0
  OfLoads P = LoadsAre core plan delays s P core.root [] (nets_at []) 0 0 (core_run core plan delays h ∷ []) c x.circuit x.loading

  abbrev OfStores : ((q m : ℕ) (spans : List PlainSpan) (k n : ℕ) → List Scoped → Child → List SpanNets → StoreAccess → Type 0) → Type 0
  OfStores P = MovesAre Store core plan delays s P core.root [] (nets_at []) 0 0 (core_run core plan delays h ∷ []) c x.circuit x.storing

  abbrev OfTransfers : (PlainNode → (node n : ℕ) → List Scoped → Child → List SpanNets → Type 0) → Type 0
  OfTransfers P = EachTransfer core plan delays s P core.root [] (nets_at []) 0 0 (core_run core plan delays h ∷ []) c x.circuit

  agreeing : OfTransfers (TransferAgrees core plan delays (core_events core plan delays h))
  agreeing = laws.agree (core_events core plan delays h) s core.root [] (nets_at []) 0 0 (core_run core plan delays h ∷ []) c is.timed (of_itself (core_events core plan delays h) 0 (0 + number_count core.root)) x.circuit

  placed_loads : OfLoads (LoadPlaced core plan delays g s x.channels bound x.copies (core_events core plan delays h))
  placed_loads =
      items_stand core plan delays s Load (LoadKnown core plan delays g s x.channels bound x.copies (core_events core plan delays h)) (NodeMoves core.root 0) core.root [] (nets_at []) 0 0 (core_run core plan delays h ∷ []) c x.circuit x.loading (λ u v q. q)
      (both_give core plan delays s Load (LoadStands core g s x.channels bound x.copies) (LoadKnown core plan delays g s x.channels bound x.copies (core_events core plan delays h)) (TransferAgrees core plan delays (core_events core plan delays h))
      (λ q m spans k n qs child nets a stands agrees. record { stands = stands; agrees = agrees }) core.root [] (nets_at []) 0 0 (core_run core plan delays h ∷ []) c x.circuit x.loading (x.loads bound delays (core_run core plan delays h ∷ [])) agreeing)

  placed_stores : OfStores (StorePlaced core plan delays g s x.channels bound x.copies (core_events core plan delays h))
  placed_stores =
      items_stand core plan delays s Store (StoreKnown core plan delays g s x.channels bound x.copies (core_events core plan delays h)) (NodeMoves core.root 0) core.root [] (nets_at []) 0 0 (core_run core plan delays h ∷ []) c x.circuit x.storing (λ u v q. q)
      (both_give core plan delays s Store (StoreStands core g s x.channels bound x.copies) (StoreKnown core plan delays g s x.channels bound x.copies (core_events core plan delays h)) (TransferAgrees core plan delays (core_events core plan delays h))
      (λ q m spans k n qs child nets a stands agrees. record { stands = stands; agrees = agrees }) core.root [] (nets_at []) 0 0 (core_run core plan delays h ∷ []) c x.circuit x.storing (x.stores bound delays (core_run core plan delays h ∷ [])) agreeing)

  -- up to a cycle each load finds what it reads in its DRAM
  abbrev FoundTo : ℕ → Type 0
  FoundTo t =
      (q m : ℕ) (spans : List PlainSpan) (k n : ℕ) (qs : List Scoped) (child : Child) (nets : List SpanNets) (a : AccessNets) → LoadPlaced core plan delays g s x.channels bound x.copies (core_events core plan delays h) q m spans k n qs child nets a
      → AreFoundInDram s q (dims core (dram_number core q)) (all_events core plan delays (load q m spans) k n (placed qs)) t (n + spans_size spans)

  -- then all transfers go as the timeline says, and are done in time
  going_transfers : (t : ℕ) → t ≤ bound → FoundTo t → OfTransfers (TransferGoes core plan delays g s bound t took)
  going_transfers t le found =
      transfer_law g s bound t took (nets_at []) h c is.right is.timed all_done fits all_moved x.circuit le
      (transfers_follow core plan delays s (LoadPlaced core plan delays g s x.channels bound x.copies (core_events core plan delays h)) (StorePlaced core plan delays g s x.channels bound x.copies (core_events core plan delays h))
      (HasTransfer core plan delays g s bound t took) (λ q m spans k n qs child nets a p. (p.is.stands.has, found q m spans k n qs child nets a p)) (λ q m spans k n qs child nets a p. p.is.stands.has)
      core.root [] (nets_at []) 0 0 (core_run core plan delays h ∷ []) c x.circuit x.loading x.storing placed_loads placed_stores)

  moves : (t : ℕ) → t ≤ bound → FoundTo t → TransfersMove core plan delays s t core.root [] (nets_at []) 0 0 (core_run core plan delays h ∷ []) c x.circuit
  moves t le found = laws.moving g s bound t took core.root [] (nets_at []) 0 0 (core_run core plan delays h ∷ []) c x.circuit (going_transfers t le found)

  acting : (t : ℕ) → Going t → OfTransfers (TransferActs core plan delays s (core_events core plan delays h) t)
  acting t a = transfers_act core plan delays s (core_events core plan delays h) t core.root [] (nets_at []) 0 0 (core_run core plan delays h ∷ []) c x.circuit a

  -- the writes of loads act in time
  loads_told : (t : ℕ) → t ≤ bound → FoundTo t → Going t → LoadsInTime core s (core_events core plan delays h) t x.loading
  loads_told t le found a =
      let has = laws.numbers (patterns_of core) r.meets r.planned in
      loads_in_time core plan delays g s x.channels bound x.copies (core_events core plan delays h) t (nets_at []) c x.circuit (core_run core plan delays h ∷ []) x.loading
      (both_give core plan delays s Load (LoadGoing core plan delays g s x.channels bound x.copies (core_events core plan delays h) t) (LoadActs core plan delays g s x.channels bound x.copies (core_events core plan delays h) t) (TransferActs core plan delays s (core_events core plan delays h) t)
      (λ q m spans k n qs child nets b p acts. record { place = p.place; goes = p.goes; acts = acts }) core.root [] (nets_at []) 0 0 (core_run core plan delays h ∷ []) c x.circuit x.loading
      (both_give core plan delays s Load (LoadPlaced core plan delays g s x.channels bound x.copies (core_events core plan delays h)) (LoadGoing core plan delays g s x.channels bound x.copies (core_events core plan delays h) t) (TransferGoes core plan delays g s bound t took)
      (λ q m spans k n qs child nets b p so. record { place = p; goes = so }) core.root [] (nets_at []) 0 0 (core_run core plan delays h ∷ []) c x.circuit x.loading placed_loads (going_transfers t le found)) (acting t a))
      laws.items (λ u q m item. laws.filled is.right u q m item) is.stored
      (λ m n q u sram there happens. loaded_by core (core_events core plan delays h) laws.items laws.one acted m n q sram there u happens)
      (λ u q m v w e there happens act. moves_act.load_writes u q m there v w e happens act)
      (λ u q m item. laws.name_loads s (nets_at []) h c is.right is.timed all_done fits has.copies has.kept x.circuit x.copies x.owners.renewed.items x.owners.kept.items x.named t a u q m item) laws.in_whole

  loads : (t : ℕ) → t ≤ bound → FoundTo t → Going t → LoadsInTime core s (core_timed core plan delays h).events t x.loading
  loads t le found a = subst (λ es. LoadsInTime core s es t x.loading) (laws.timed h) (loads_told t le found a)

  -- and so do the reads of stores
  abbrev storing : List AccessNets
  storing = map (λ (b : StoreAccess). b.access) x.storing

  acting_stores : (t : ℕ) → t ≤ bound → FoundTo t → Going t → OfStores (StoreActs core plan delays g s x.channels bound x.copies (core_events core plan delays h) t)
  acting_stores t le found a =
      both_give core plan delays s Store (StoreGoing core plan delays g s x.channels bound x.copies (core_events core plan delays h) t) (StoreActs core plan delays g s x.channels bound x.copies (core_events core plan delays h) t) (TransferActs core plan delays s (core_events core plan delays h) t)
      (λ q m spans k n qs child nets b p acts. record { place = p.place; goes = p.goes; acts = acts }) core.root [] (nets_at []) 0 0 (core_run core plan delays h ∷ []) c x.circuit x.storing
      (both_give core plan delays s Store (StorePlaced core plan delays g s x.channels bound x.copies (core_events core plan delays h)) (StoreGoing core plan delays g s x.channels bound x.copies (core_events core plan delays h) t) (TransferGoes core plan delays g s bound t took)
      (λ q m spans k n qs child nets b p so. record { place = p; goes = so }) core.root [] (nets_at []) 0 0 (core_run core plan delays h ∷ []) c x.circuit x.storing placed_stores (going_transfers t le found)) (acting t a)

  reads_stay : (u q m v w : ℕ) (e : Event) → NodeMoves core.root 0 u (stores q m) → Happens (core_events core plan delays h) u v e → e.act ≡ reads w → e.mem ≡ m
  reads_stay u q m v w e there happens act = moves_act.store_reads u q m there v w e happens act

  stores_told : (t : ℕ) → t ≤ bound → FoundTo t → Going t → StoresReadInTime core s (core_events core plan delays h) t storing
  stores_told t le found a =
      let has = laws.numbers (patterns_of core) r.meets r.planned in
      stores_read core plan delays g s x.channels bound x.copies (core_events core plan delays h) t (nets_at []) c x.circuit (core_run core plan delays h ∷ []) x.storing (acting_stores t le found a) laws.items (λ u q m item. laws.filled is.right u q m item) is.stored reads_stay laws.read_in_whole
      (λ u q m item. laws.name_stores s (nets_at []) h c is.right is.timed all_done fits has.copies has.kept x.circuit x.copies x.owners.renewed.items x.owners.kept.items x.named t a u q m item)
      (λ m n q u sram there happens. stored_by core (core_events core plan delays h) laws.items laws.one acted m n q sram there u happens)

  saves : (t : ℕ) → t ≤ bound → FoundTo t → Going t → StoresReadInTime core s (core_timed core plan delays h).events t storing
  saves t le found a = subst (λ es. StoresReadInTime core s es t storing) (laws.timed h) (stores_told t le found a)

  -- so all reads are answered up to the next cycle
  all_answered : (t : ℕ) → t ≤ bound → FoundTo t → Going t → AllAnswered s (core_timed core plan delays h).events t x.accesses storing
  all_answered t le found a =
      laws.answer input h left goes well is.timed s t x.accesses x.loading storing x.owners (in_time t a) (loads t le found a) (saves t le found a) x.draft x.queued is.stored arguments words x.memories given
      (λ q v here arg ans u e happens. (let l = late q.number u e happens in omega (arith, l)))

  answered : (t : ℕ) → t ≤ bound → FoundTo t → Going t → Answered core plan s (core_events core plan delays h) (suc t) core.root [] (nets_at []) 0 0 c x.circuit
  answered t le found a =
      laws.tree s (core_events core plan delays h) (suc t) (nets_at []) c x.circuit _ x.acted x.accesses x.accesses_are x.handed
      (λ b w there answer. subst (λ es. IsAnswered s es (suc t) b.number b.kind w.after w.net) (sym (laws.timed h)) ((all_answered t le found a).operations b w there answer))

  -- the units of stores write the DRAMs in time
  store_answers : (t : ℕ) → t ≤ bound → FoundTo t → Going t → (b : AccessNets) (w : WordNet) → Contains storing b → b.answer ≡ Some w → IsAnswered s (reads_in b.mem (core_events core plan delays h)) t b.number Read w.after w.net
  store_answers t le found a b w there answer u e happens l v does =
      subst (λ es. IsAnswered s (reads_in b.mem es) (suc t) b.number Read w.after w.net) (sym (laws.timed h)) ((all_answered t le found a).stores b w there answer) u e happens (omega (arith, l)) v does

  units : (t : ℕ) → t ≤ bound → FoundTo t → Going t → (q : ℕ) → HaveUnits core s (core_timed core plan delays h).events t q (units_of q x.storing)
  units t le found a q =
      subst (λ es. HaveUnits core s es t q (units_of q x.storing)) (laws.timed h)
      (units_stand core plan delays g s x.channels bound x.copies (core_events core plan delays h) t (nets_at []) c x.circuit (core_run core plan delays h ∷ []) x.storing (acting_stores t le found a) laws.items (λ u q m item. laws.filled is.right u q m item) is.stored reads_stay laws.are_answered
      (store_answers t le found a) q)

  is_dram : (t : ℕ) → t ≤ bound → FoundTo t → Going t → (q : ℕ) → q < length core.ports.drams → IsDramOf core input s (core_timed core plan delays h).events t q (units_of q x.storing)
  is_dram t le found a q few = record {
    one = laws.one_copy is.right is.timed h well.allowed q few;
    runs = stored q few;
    in_time = laws.store_in_time is.right is.timed h s t q (units_of q x.storing) (units t le found a q);
  }

  -- so what loads read in the next cycle is found, too
  found_next : (t : ℕ) → t ≤ bound → FoundTo t → Going t → FoundTo (suc t)
  found_next t le found a q m spans k n qs child nets b p =
      laws.find_own is.timed h s (suc t) (n + spans_size spans) q m (all_events core plan delays (load q m spans) k n (placed qs)) p.item
      (subst (λ es. Agree es (all_events core plan delays (load q m spans) k n (placed qs)) (n + spans_size spans)) (laws.timed h) p.is.agrees)
      (laws.find input (core_timed core plan delays h).events well s t q (units_of q x.storing) (is_dram t le found a q p.is.stands.few) (n + spans_size spans))

  found_first : FoundTo 0
  found_first q m spans k n qs child nets b p t is w le d =
      let f = p.is.agrees.back t d.event d.happens in
      let l = late (n + spans_size spans) t f.0 (subst (λ es. Happens es (n + spans_size spans) t f.0) (laws.timed h) f.1) in
      absurd (omega (arith, l, le))

  at_first : Answered core plan s (core_events core plan delays h) 0 core.root [] (nets_at []) 0 0 c x.circuit
  at_first =
      laws.tree s (core_events core plan delays h) 0 (nets_at []) c x.circuit _ x.acted x.accesses x.accesses_are x.handed
      (λ b w there answer u e happens le. absurd (let l = late b.number u e (subst (λ es. Happens es b.number u e) (laws.timed h) happens) in omega (arith, l, le)))

  -- where all is found up to a cycle, all goes up to it; so one cycle after the other is
  going_from : (t : ℕ) → t ≤ bound → ((u : ℕ) → u ≤ t → FoundTo u) → Going t
  going_from t le found =
      laws.close s t (nets_at []) h c is.right is.timed all_done fits x.circuit (started t) at_first (moves 0 (omega arith) (found 0 (omega arith)))
      (λ u l a. (answered u (omega (arith, l, le)) (found u (omega (arith, l))) a, moves (suc u) (omega (arith, l, le)) (found (suc u) l))) t (omega arith)

  found_to : (t : ℕ) → t ≤ bound → (u : ℕ) → u ≤ t → FoundTo u
  found_to zero le u l = subst FoundTo {x = 0} {y = u} (omega (arith, l)) found_first
  found_to (suc t) le u l =
      by_order u (suc t) (λ less. found_to t (omega (arith, le)) u (omega (arith, less))) (λ more. absurd (omega (arith, l, more)))
      (λ same. subst FoundTo (sym same) (found_next t (omega (arith, le)) (found_to t (omega (arith, le)) t (omega arith)) (going_from t (omega (arith, le)) (found_to t (omega (arith, le))))))

  found_at : (t : ℕ) → t ≤ bound → FoundTo t
  found_at t le = found_to t le t (omega arith)

  going : (t : ℕ) → t ≤ bound → Going t
  going t le = going_from t le (found_to t le)

  part : (t : ℕ) → t ≤ bound → PartGoes core plan delays s (core_events core plan delays h) t core.root 0 0 (core_run core plan delays h ∷ []) c
  part t le = goes_so core plan delays s (core_events core plan delays h) t core.root [] (nets_at []) 0 0 (core_run core plan delays h ∷ []) c x.circuit (going t le)

  over : (t : ℕ) → Ends (rans core plan delays core.root 0 0 (placed (core_run core plan delays h ∷ []))) t → suc t ≡ (core_timed core plan delays h).took
  over t (ran, (zero, l, e), at) = at ∙ ap (λ (q : Rattle.sp_part_runs.specs.ControlParts.Ran). q.cycle + q.took) (sym e) ∙ omega arith
  over t (ran, (suc k, l, e), at) = absurd (omega (arith, l))

  before : Each (λ (y : Stamped). y.cycle < (core_timed core plan delays h).took) (core_timed core plan delays h).events
  before =
      laws.within core.root 0 0 (record { path = []; counters = [] }) (λ m. 0) h (node_planned core (patterns_of core) r.meets plan core.root 0 0 is.timed r.planned.valid.kinds)
      (node_kept core (patterns_of core) r.meets plan core.root 0 0 is.timed r.planned.valid.kinds r.planned.valid.times)

  is_output : (m : ℕ) → m < length core.mems → (mem core m).kind ≡ ArgOut → IsRegister (kind_of core m)
  is_output m l out = subst IsRegister (sym (let k : kind_of core m ≡ ArgOut = rw (lt-ltb m (length core.mems) l) out in k)) tt

  holds : (m t : ℕ) → t ≤ bound → m < length core.mems → (mem core m).kind ≡ ArgOut → (core_timed core plan delays h).took ≤ t → s.net t (slice_index words m) ≡ slice_index_or (words_of (left m)) 0 0
  holds m t low l out le =
      let stands = laws.hold s (core_timed core plan delays h).events t x.accesses x.loading storing x.owners input (in_time t (going t low)) (loads t low (found_at t low) (going t low)) (saves t low (found_at t low) (going t low)) well arguments words x.memories m l (is_output m l out) t (omega arith) in
      let sums : content is_place (does core) (events_of core (core_timed core plan delays h).events) t (first_contents core input) (copy_place m 0) ≡ one_cell core (slice_index_or (words_of (left m)) 0 0) =
      goes.found.in_time.last t (copy_place m 0) (each_event core t (core_timed core plan delays h).events (sooner (core_timed core plan delays h).took t (core_timed core plan delays h).events le before)) ∙ goes.found.outs m l out in
      stands (slice_index_or (words_of (left m)) 0 0) sums

  drams_hold : (q i t : ℕ) → t ≤ bound → q < length core.ports.drams → i < dram_size core q → (core_timed core plan delays h).took ≤ t → s.dram t q i ≡ slice_index_or (words_of (left (dram_number core q))) i 0
  drams_hold q i t low few inside le =
      laws.drams_end input h left goes.found well s t q (units_of q x.storing) few (is_dram t low (found_at t low) (going t low) q few) (core_timed core plan delays h).took before t i le (omega arith) inside

  pub along : GoesAlong core plan delays s bound c words h left
  along = record {
    takes_time = laws.takes is.uncounted h all_done;
    is_done = λ t le e. (part t le).ends.on t (omega arith) (_, (0, omega arith, refl), e ∙ omega arith);
    only = λ t le on. over t ((part t le).ends.only t (omega arith) on);
    drams = drams_hold;
    outs = holds;
  }
