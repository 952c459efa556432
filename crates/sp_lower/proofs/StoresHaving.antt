-- What was emitted of a core's loads and stores is what they are asked for.
use Rattle.std.proofs.Common.{◌≡◌, ℕ, suc, ◌+◌, ◌<◌, ◌≤◌, ◌==◌, Bool, true, false, if◌then◌else◌, List, [], ◌∷◌, ◌++◌, length, map, All, Option, Some, refl, sym, ap, ap₂, subst, ◌∙◌, arith}
use Rattle.std.proofs.lemmas.List.Elements.{All-head, All-tail}
use Rattle.sp_netlist.specs.declared.parts.Child.{Child}
use Rattle.sp_netlist.specs.Draft.{Draft}
use Rattle.sp_netlist.specs.Signals.{Setting, Signals}
use Rattle.sp_channel_runs.specs.Bursts.{taken}
use Rattle.sp_core.specs.Declarations.{dims, dram_number}
use Rattle.sp_core.specs.Numbering.{spans_size, node_count}
use Rattle.sp_core.specs.PlainCore.{PlainSpan, PlainCore}
use Rattle.sp_node_runs.specs.BodiesSpans.{SpanNets}
use Rattle.sp_tree_runs.specs.BodiesScoped.{Scoped}
use Rattle.sp_transfer_runs.specs.Words.{moves_of}
use Rattle.sp_bound_nets.specs.Spans.{nets_of_spans}
use Rattle.sp_access_nets.specs.declared.access.AccessNets.{AccessNets}
use Rattle.sp_access_nets.specs.Accesses.{copy_in}
use Rattle.sp_dram_words.specs.Units.{StoreNets, StoreUnit, nets_of}
use Rattle.sp_tree_handed.specs.declared.moves.Direction.{Direction}
use Rattle.sp_tree_handed.specs.declared.moves.Direction.TheVariants.{Load as Inward, Store as Outward}
use Rattle.sp_tree_handed.specs.declared.transfers.CoreTransfer.{CoreTransfer}
use Rattle.sp_tree_handed.specs.declared.moves.TreeMove.{TreeMove}
use Rattle.sp_tree_handed.specs.Transfers.{core_transfer, transfers_in}
use Rattle.sp_tree_handed.specs.Moves.{end_at, IsOneMove}
use Rattle.sp_stored_cores.specs.Loads.{Channel}
use Rattle.sp_stored_cores.specs.Stores.{StoreAccess, units_of, IsStoreRead, StoreStands}
use Rattle.sp_load_units.specs.declared.unit.TransferUnit.{TransferUnit}
use Rattle.sp_load_units.specs.declared.unit.UnitPort.{UnitPort}
use Rattle.sp_load_units.specs.declared.unit.UnitPort.TheVariants.{Loads, Stores}
use Rattle.sp_load_units.specs.Ports.{direction_of}
use Rattle.sp_load_units.specs.Units.{stores_by, stores_to, HaveDone}
use Rattle.sp_load_units.specs.Walks.{UnitStandsAlone}
use Rattle.sp_lower.specs.LoadsLaws.{channel_of as load_channel, LoadHas, LoadsAreHad}
use Rattle.sp_lower.specs.LoadsRuns.{LoadRun, OneOf, EachOf, AreLoadRuns}
use Rattle.sp_lower.proofs.LoadsAdding.{stand_alone}
use Rattle.sp_lower.proofs.LoadsHaving.{same_some}
use Rattle.sp_lower.proofs.LoadsTaking.{transfers_of, zip_transfers, all_taken}
use Rattle.sp_lower.specs.StoresLaws.{channel_of, StoreHas, TransfersAreHad}
use Rattle.sp_lower.specs.StoresRuns.{StoreRun, AreStoreRuns}
use Rattle.sp_lower.proofs.StoresNodes.{NodesRise, transfers_rise}

-- one store, by the unit of its node
one_stands : (core : PlainCore) (g : Setting) (s : Signals) (ends names : List (Option ℕ)) (channels : (node : ℕ) → Channel) (bound r m k n : ℕ) (spans : List PlainSpan) (qs : List Scoped) (c : Child) (nets : List SpanNets) (one : List TreeMove) (x : IsOneMove ends k c nets one) (unit : TransferUnit) (slice : TreeMove) (a : StoreAccess)
    → unit.transfer ≡ core_transfer Outward k (n + spans_size spans) r m → slice ≡ x.move → StoreHas core g s ends names channels unit slice a → StoreStands core g s channels bound names r m spans k n qs c nets a
one_stands core g s ends names channels bound r m k n spans qs c nets one x unit slice a of same h =
    let run = h.run in
    let node : unit.transfer.node ≡ k = ap (λ (l : CoreTransfer). l.node) of in
    let own : channels k ≡ channel_of run = ap channels (sym node) ∙ h.channel_is in
    record {
      few = subst (λ (l : CoreTransfer). l.dram < length core.ports.drams) of run.few;
      chip = subst (λ (l : CoreTransfer). l.mem < length core.mems) of run.chip;
      has = record {
        part = run.part;
        nets = run.nets;
        runs = run.runs;
        starts = run.starts ∙ ap (λ (y : TreeMove). y.start) same ∙ x.start;
        ends = run.ends ∙ same_some unit.done c.done (sym h.end ∙ ap (end_at ends) node ∙ x.end);
        moves = run.moves ∙ ap (λ (y : TreeMove). moves_of (nets_of_spans y.nets.items)) same ∙ ap moves_of x.nets_are;
        dims_are = run.dims_are ∙ ap (λ (l : CoreTransfer). dims core (dram_number core l.dram)) of;
        before = run.before;
        channel = run.channel;
        channel_runs = run.channel_runs;
        takes = λ i. ap (λ (y : Channel). taken g s y.before y.channel y.request y.last bound i) own;
      };
      read = subst (λ (l : CoreTransfer). IsStoreRead core l.number l.mem (copy_in names l.number) run.part run.nets a.access) of run.read;
      dram_is = h.dram_is ∙ ap (λ (l : CoreTransfer). l.dram) of;
      unit_is = h.unit_is ∙ ap (λ (l : CoreTransfer). record { nets = record { ready = run.part.port.ready; address = run.part.port.address; word = run.part.port.word }; number = l.number }) of;
    }

same_number : (a : ℕ) → (a == a) ≡ true
same_number a = grind arith

other_number : (a k : ℕ) → suc a ≤ k → (a == k) ≡ false
other_number a k l = grind arith

-- what is known of each one is known otherwise
one_more : {E : Type 0} → (way own : Direction) (P Q : E → Type 0) (Rest Later : List E → Type 0) → ((x : E) → P x → Q x) → ((xs : List E) → Rest xs → Later xs) → (list : List E) → OneOf way own P Rest list → OneOf way own Q Later list
one_more Inward Inward P Q Rest Later f go [] h = absurd h
one_more Inward Inward P Q Rest Later f go (x ∷ list) h = (f x h.0, go list h.1)
one_more Inward Outward P Q Rest Later f go list h = go list h
one_more Outward Inward P Q Rest Later f go list h = go list h
one_more Outward Outward P Q Rest Later f go [] h = absurd h
one_more Outward Outward P Q Rest Later f go (x ∷ list) h = (f x h.0, go list h.1)

each_more : {E : Type 0} → (way : Direction) (P Q : TransferUnit → TreeMove → E → Type 0) (from to : ℕ) (units : List TransferUnit) (slices : List TreeMove) (list : List E) → NodesRise from to (transfers_of units)
    → ((unit : TransferUnit) (slice : TreeMove) (x : E) → from ≤ unit.transfer.node → P unit slice x → Q unit slice x) → EachOf way P units slices list → EachOf way Q units slices list
each_more way P Q from to [] [] [] rise f h = tt
each_more way P Q from to [] [] (x ∷ list) rise f h = absurd h
each_more way P Q from to [] (slice ∷ slices) list rise f h = absurd h
each_more way P Q from to (unit ∷ units) [] list rise f h = absurd h
each_more way P Q from to (unit ∷ units) (slice ∷ slices) list rise f h =
    one_more way unit.transfer.direction (P unit slice) (Q unit slice) (λ more. EachOf way P units slices more) (λ more. EachOf way Q units slices more) (λ x p. f unit slice x rise.0 p)
    (λ more each. each_more way P Q (suc unit.transfer.node) to units slices more rise.1 (λ u sl x l p. f u sl x (let first = rise.0 in omega (arith, first, l)) p) each) list h

-- the units of a list with one more
one_unit : (b : Bool) (u : StoreUnit) (units : List StoreUnit) (nets : StoreNets) (rest : List StoreNets) → u.nets ≡ nets → nets_of units ≡ rest → nets_of (if b then u ∷ units else units) ≡ (if b then nets ∷ rest else rest)
one_unit true u units nets rest e f = ap₂ (λ x xs. x ∷ xs) e f
one_unit false u units nets rest e f = f

no_unit : (b : Bool) (rest : List StoreNets) → (if b then rest else rest) ≡ rest
no_unit true rest = refl
no_unit false rest = refl

no_store_by : (port : UnitPort) → direction_of port ≡ Inward → stores_by port ≡ []
no_store_by (Loads port) e = refl
no_store_by (Stores port) e = absurd (cc (e))

module _ (core : PlainCore) (g : Setting) (s : Signals) (ends names : List (Option ℕ)) where
  -- loads and stores with their channels
  record Both (units : List TransferUnit) (slices : List TreeMove) (writes reads : List AccessNets) : Type 0 where
    channels : (node : ℕ) → Channel
    loads : EachOf Inward (LoadHas core g s ends names channels) units slices writes
    storing : List StoreAccess
    reads_are : map (λ (x : StoreAccess). x.access) storing ≡ reads
    stores : EachOf Outward (StoreHas core g s ends names channels) units slices storing
    units_are : (r : ℕ) → nets_of (units_of r storing) ≡ stores_to r units

  no_channel : Channel
  no_channel = record { before = []; channel = 0; request = 0; last = 0 }

  -- the channels of later nodes stay under one more
  abbrev with_own : (node : ℕ) → Channel → ((node : ℕ) → Channel) → (node : ℕ) → Channel
  with_own node own channels k = if node == k then own else channels k

  module _ (unit : TransferUnit) (units : List TransferUnit) (slice : TreeMove) (slices : List TreeMove) (to : ℕ) (rise : NodesRise (suc unit.transfer.node) to (transfers_of units)) (end : end_at ends unit.transfer.node ≡ Some unit.done) where
    loads_later : (own : Channel) (channels : (node : ℕ) → Channel) (writes : List AccessNets) → EachOf Inward (LoadHas core g s ends names channels) units slices writes → EachOf Inward (LoadHas core g s ends names (with_own unit.transfer.node own channels)) units slices writes
    loads_later own channels writes h =
        each_more Inward (LoadHas core g s ends names channels) (LoadHas core g s ends names (with_own unit.transfer.node own channels)) (suc unit.transfer.node) to units slices writes rise
        (λ u sl x l has. record { run = has.run; end = has.end; channel_is = ap (λ b. if b then own else channels u.transfer.node) (other_number unit.transfer.node u.transfer.node l) ∙ has.channel_is }) h

    stores_later : (own : Channel) (channels : (node : ℕ) → Channel) (storing : List StoreAccess) → EachOf Outward (StoreHas core g s ends names channels) units slices storing → EachOf Outward (StoreHas core g s ends names (with_own unit.transfer.node own channels)) units slices storing
    stores_later own channels storing h =
        each_more Outward (StoreHas core g s ends names channels) (StoreHas core g s ends names (with_own unit.transfer.node own channels)) (suc unit.transfer.node) to units slices storing rise
        (λ u sl x l has. record { run = has.run; end = has.end; channel_is = ap (λ b. if b then own else channels u.transfer.node) (other_number unit.transfer.node u.transfer.node l) ∙ has.channel_is; dram_is = has.dram_is; unit_is = has.unit_is }) h

    own_channel : (own : Channel) (channels : (node : ℕ) → Channel) → with_own unit.transfer.node own channels unit.transfer.node ≡ own
    own_channel own channels = ap (λ b. if b then own else channels unit.transfer.node) (same_number unit.transfer.node)

    one_load : unit.transfer.direction ≡ Inward → stores_by unit.port ≡ [] → (writes reads : List AccessNets) → OneOf Inward Inward (LoadRun core g s names unit slice) (λ more. AreLoadRuns core g s names units slices more) writes
        → AreStoreRuns core g s names units slices reads → ((more : List AccessNets) → AreLoadRuns core g s names units slices more → AreStoreRuns core g s names units slices reads → Both units slices more reads) → Both (unit ∷ units) (slice ∷ slices) writes reads
    one_load way none [] reads h k go = absurd h
    one_load way none (a ∷ writes) reads h k go =
        let rest = go writes h.1 k in
        let own = load_channel h.0 in
        let channels : ℕ → Channel = with_own unit.transfer.node own rest.channels in
        record {
          channels = with_own unit.transfer.node own rest.channels;
          loads =
              subst (λ d. OneOf Inward d (LoadHas core g s ends names channels unit slice) (λ more. EachOf Inward (LoadHas core g s ends names channels) units slices more) (a ∷ writes)) (sym way)
              (record { run = h.0; end = end; channel_is = own_channel own rest.channels }, loads_later own rest.channels writes rest.loads);
          storing = rest.storing;
          reads_are = rest.reads_are;
          stores =
              subst (λ d. OneOf Outward d (StoreHas core g s ends names channels unit slice) (λ more. EachOf Outward (StoreHas core g s ends names channels) units slices more) rest.storing) (sym way) (stores_later own rest.channels rest.storing rest.stores);
          units_are = λ r. rest.units_are r ∙ sym (ap (λ ns. if unit.transfer.dram == r then ns ++ stores_to r units else stores_to r units) none ∙ no_unit (unit.transfer.dram == r) (stores_to r units));
        }

    one_store : unit.transfer.direction ≡ Outward → (writes reads : List AccessNets) → AreLoadRuns core g s names units slices writes → OneOf Outward Outward (StoreRun core g s names unit slice) (λ more. AreStoreRuns core g s names units slices more) reads
        → ((more : List AccessNets) → AreLoadRuns core g s names units slices writes → AreStoreRuns core g s names units slices more → Both units slices writes more) → Both (unit ∷ units) (slice ∷ slices) writes reads
    one_store way writes [] h k go = absurd k
    one_store way writes (a ∷ reads) h k go =
        let rest = go reads h k.1 in
        let run = k.0 in
        let own = channel_of run in
        let channels : ℕ → Channel = with_own unit.transfer.node own rest.channels in
        let nets : StoreNets = record { ready = run.part.port.ready; address = run.part.port.address; word = run.part.port.word } in
        let access : StoreAccess = record { access = a; dram = unit.transfer.dram; unit = record { nets = nets; number = unit.transfer.number } } in
        record {
          channels = with_own unit.transfer.node own rest.channels;
          loads =
              subst (λ d. OneOf Inward d (LoadHas core g s ends names channels unit slice) (λ more. EachOf Inward (LoadHas core g s ends names channels) units slices more) writes) (sym way) (loads_later own rest.channels writes rest.loads);
          storing = access ∷ rest.storing;
          reads_are = ap (λ xs. a ∷ xs) rest.reads_are;
          stores =
              subst (λ d. OneOf Outward d (StoreHas core g s ends names channels unit slice) (λ more. EachOf Outward (StoreHas core g s ends names channels) units slices more) (access ∷ rest.storing)) (sym way)
              (record { run = run; end = end; channel_is = own_channel own rest.channels; dram_is = refl; unit_is = refl }, stores_later own rest.channels rest.storing rest.stores);
          units_are = λ r.
              one_unit (unit.transfer.dram == r) (record { nets = nets; number = unit.transfer.number }) (units_of r rest.storing) nets (stores_to r units) refl (rest.units_are r)
              ∙ ap (λ ns. if unit.transfer.dram == r then ns ++ stores_to r units else stores_to r units) (sym (ap stores_by run.port));
        }

  both : (d : Draft) (from to : ℕ) (units : List TransferUnit) (slices : List TreeMove) (writes reads : List AccessNets) → All (UnitStandsAlone d core) units → HaveDone ends units → NodesRise from to (transfers_of units) → AreLoadRuns core g s names units slices writes
      → AreStoreRuns core g s names units slices reads → Both units slices writes reads
  both d from to [] [] [] [] stand done rise h k = record { channels = λ node. no_channel; loads = tt; storing = []; reads_are = refl; stores = tt; units_are = λ r. refl }
  both d from to [] [] [] (a ∷ reads) stand done rise h k = absurd k
  both d from to [] [] (a ∷ writes) reads stand done rise h k = absurd h
  both d from to [] (slice ∷ slices) writes reads stand done rise h k = absurd h
  both d from to (unit ∷ units) [] writes reads stand done rise h k = absurd h
  both d from to (unit ∷ units) (slice ∷ slices) writes reads stand done rise h k = by_way unit.transfer.direction refl (λ ws rs. both d (suc unit.transfer.node) to units slices ws rs all_stand all_done rise.1)
    where
      all_stand : All (UnitStandsAlone d core) units
      all_stand = All-tail (UnitStandsAlone d core) unit units stand

      all_done : HaveDone ends units
      all_done = All-tail (λ (u : TransferUnit). end_at ends u.transfer.node ≡ Some u.done) unit units done

      end : end_at ends unit.transfer.node ≡ Some unit.done
      end = All-head (λ (u : TransferUnit). end_at ends u.transfer.node ≡ Some u.done) unit units done

      by_way : (way : Direction) → unit.transfer.direction ≡ way → ((ws rs : List AccessNets) → AreLoadRuns core g s names units slices ws → AreStoreRuns core g s names units slices rs → Both units slices ws rs) → Both (unit ∷ units) (slice ∷ slices) writes reads
      by_way Inward e go =
          one_load unit units slice slices to rise.1 end e (no_store_by unit.port ((All-head (UnitStandsAlone d core) unit units stand).way ∙ e)) writes reads
          (subst (λ way. OneOf Inward way (LoadRun core g s names unit slice) (λ more. AreLoadRuns core g s names units slices more) writes) e h)
          (subst (λ way. OneOf Outward way (StoreRun core g s names unit slice) (λ more. AreStoreRuns core g s names units slices more) reads) e k) (λ more p q. go more reads p q)
      by_way Outward e go =
          one_store unit units slice slices to rise.1 end e writes reads (subst (λ way. OneOf Inward way (LoadRun core g s names unit slice) (λ more. AreLoadRuns core g s names units slices more) writes) e h)
          (subst (λ way. OneOf Outward way (StoreRun core g s names unit slice) (λ more. AreStoreRuns core g s names units slices more) reads) e k) (λ more p q. go writes more p q)

pub had : LoadsAreHad → TransfersAreHad
had law core plan g s env c ends names units slices writes reads d stand done w moves h k =
    let are = zip_transfers d core (transfers_in core.root 0 0) units stand in
    let x = both core g s ends names d 0 (0 + node_count core.root) units slices writes reads (stand_alone d core (transfers_in core.root 0 0) units stand) done (subst (NodesRise 0 (0 + node_count core.root)) (sym are) (transfers_rise core.root 0 0)) h k in
    record {
      channels = x.channels;
      loads = law core plan g s env c ends names x.channels units slices writes d stand w moves x.loads;
      storing = x.storing;
      reads_are = x.reads_are;
      stores = λ bound delays qs. all_taken Outward (StoreHas core g s ends names x.channels) core plan s ends delays (StoreStands core g s x.channels bound names) (one_stands core g s ends names x.channels bound) env qs c units slices x.storing are w moves x.stores;
      units_are = x.units_are;
    }
