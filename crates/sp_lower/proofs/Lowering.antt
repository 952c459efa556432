-- The frame is closed around the circuit of a core, and what it then carries.
use Rattle.std.proofs.Common.{◌≡◌, ◌≢◌, ℕ, zero, suc, append_assoc, ◌<◌, ◌≤◌, ◌^◌, ◌==◌, ◌&&◌, true, false, List, [], ◌∷◌, ◌++◌, map, length, count_by, Contains, slice_index, slice_index_or, Option, inl, inr, refl, sym, ap, subst, ◌∙◌, arith, if◌then◌else◌, eq-eqb, ne_eqb}
use Rattle.std.specs.List.{All, filter, list_all}
use Rattle.std.proofs.lemmas.Bool.{and_parts, cases_eq, lt-ltb, ltb-true}
use Rattle.sp_words.specs.declared.kind.Kind.{Kind}
use Rattle.sp_words.specs.declared.kind.Kind.TheVariants.{Sram, Fifo, ArgIn, ArgOut}
use Rattle.sp_words.specs.Ports.{PlainPort, PlainInput}
use Rattle.sp_words.specs.Interface.{word_count}
use Rattle.sp_words.specs.Types.{width_of}
use Rattle.sp_words.specs.Words.{IsWord}
use Rattle.sp_netlist.specs.declared.parts.Child.{Child}
use Rattle.sp_netlist.specs.Cells.{PlainCell, done_cell}
use Rattle.sp_netlist.specs.declared.cell.Port.{Port}
use Rattle.sp_netlist.specs.Cycle.{is_enabled_tap, dram_lists, Ends, done_in}
use Rattle.sp_netlist.specs.Draft.{Draft}
use Rattle.sp_netlist.specs.Laws.{HasOneRun}
use Rattle.sp_netlist.specs.Ports.{ports_of}
use Rattle.sp_netlist.specs.Rules.{IsNetlist, is_bank, is_unit}
use Rattle.sp_netlist.specs.Signals.{Setting, Signals, IsRun, Holds}
use Rattle.sp_gates.specs.Bits.{IsOne}
use Rattle.sp_gates.specs.Grows.{Grows, Fills}
use Rattle.sp_gates.specs.Nets.{HasNet, IsOpen}
use Rattle.sp_gates.specs.Runs.{RunsOn}
use Rattle.sp_gates.specs.Tested.{is_on}
use Rattle.sp_gates.proofs.Growing.{Fills-join, Grows-join, HasNet-stays}
use Rattle.sp_gates.proofs.Running.{runs_earlier}
use Rattle.sp_core.specs.Declarations.{mem, kind_of}
use Rattle.sp_core.specs.Events.{At}
use Rattle.sp_core.specs.History.{History}
use Rattle.sp_core.specs.Invariant.{IsCore}
use Rattle.sp_core.specs.MemoryRules.{names_of, are_port_names, is_mem_right, is_dram_right, are_ports_of}
use Rattle.sp_core.specs.Numbering.{core_size}
use Rattle.sp_core.specs.Meaning.{is_arg, is_out, args_of, outs_of, out_words, dram_words}
use Rattle.sp_core.specs.PlainCore.{no_port, PlainCore}
use Rattle.sp_core.specs.Store.{Store, words_of}
use Rattle.sp_plan.specs.PlainPlan.{PlainPlan}
use Rattle.sp_machine.specs.Timeline.{core_timed}
use Rattle.sp_machine.specs.Transfers.{Delays}
use Rattle.sp_frames.specs.Framed.{in_cells, dram_cells, front_cells, out_cells, AddsUnits, AddsInside, IsFramed}
use Rattle.sp_frames.specs.Laws.{PortLaws, FramesRight, FramesEnd, SharesNoneUpTo, TapsShareNone, IsFirst}
use Rattle.sp_frames.specs.Ports.{AreNamed, HaveNoDims, HaveSizes, HaveNets}
use Rattle.sp_port_nets.specs.Laws.{ArgumentsArePorts, OutputsArePorts, ArgumentsHaveWords}
use Rattle.sp_port_nets.specs.Nets.{nets_of_arguments}
use Rattle.sp_taps.specs.Laws.{TapLaws}
use Rattle.sp_taps.specs.Stores.{AddsBanks, HasNoConflict}
use Rattle.sp_taps.specs.Wires.{Promises}
use Rattle.sp_stored_cores.specs.Circuits.{StoredCircuit, StartsOnce}
use Rattle.sp_channel_runs.specs.Bursts.{DelaysAreSmall}
use Rattle.sp_transfer_runs.specs.Delays.{delays_of, DelaysAreThere}
use Rattle.sp_stored_cores.specs.Closing.{RunsByPlan, DramsRun, GoesAlong, StoredCoresGo}
use Rattle.sp_stored_cores.specs.Stores.{units_of}
use Rattle.sp_dram_words.specs.Units.{units_in, UnitsJoin, DramsRun as DramsRunByUnits}
use Rattle.sp_stored_cores.specs.Loads.{took_by}
use Rattle.sp_stored_cores.specs.Outside.{FirstWordsGiven}
use Rattle.sp_load_units.specs.declared.unit.TransferUnit.{TransferUnit}
use Rattle.sp_load_units.specs.Laws.{UnitsAreOpen, UnitsStay}
use Rattle.sp_load_units.specs.Units.{unit_wires_in, stores_to, UnitsStand, HaveDone}
use Rattle.sp_op_nets.specs.Reserved.{Rise}
use Rattle.sp_tree_handed.specs.Moves.{HaveEnds}
use Rattle.sp_tree_handed.proofs.Moving.{ends_later}
use Rattle.sp_lower.specs.TreesFits.{ArgumentsStand, RunsWithUnits, TransfersStand, WordsStand}
use Rattle.sp_lower.proofs.TreesEmitting.{earlier}
use Rattle.sp_lower.specs.Carries.{CanLower, EndsInTime, CarriesCore}
use Rattle.sp_lower.specs.Sizes.{DramsKeepSizes}
use Rattle.sp_lower.proofs.Drams.{zip_length, twice, no_units_in, none_behind, dram_dims, drams_for_each, lists_left}

-- an element of a list whose words are changed
at_map : (f : ℕ → ℕ) (xs : List ℕ) (i : ℕ) → i < length xs → slice_index (map f xs) i ≡ f (slice_index xs i)
at_map f [] i l = absurd (omega (arith, l))
at_map f (x ∷ xs) zero l = refl
at_map f (x ∷ xs) (suc i) l = at_map f xs i (omega (arith, l))

as_long : (f : ℕ → ℕ) (xs : List ℕ) → length (map f xs) ≡ length xs
as_long f [] = refl
as_long f (x ∷ xs) = let rest = as_long f xs in omega (arith, rest)

same_map : (f g : ℕ → ℕ) (xs : List ℕ) → ((i : ℕ) → i < length xs → f (slice_index xs i) ≡ g (slice_index xs i)) → map f xs ≡ map g xs
same_map f g [] h = refl
same_map f g (x ∷ xs) h = ap (λ n. n ∷ map f xs) (h 0 (omega arith)) ∙ ap (λ ns. g x ∷ ns) (same_map f g xs (λ i l. h (suc i) (omega (arith, l))))

same_number : (a b : ℕ) → (a == b) ≡ true → a ≡ b
same_number a b e = elim (cases_eq a b) [
  | inl same ↦ same
  | inr other ↦ absurd (let clash : true ≡ false = sym e ∙ ne_eqb a b other in cc)
]

-- an output is no SRAM and no FIFO
no_array : {k : Kind} → k ≡ ArgOut → k ≢ Sram
no_array {k} out array = absurd (let clash : ArgOut ≡ Sram = sym out ∙ array in cc)

no_fifo : {k : Kind} → k ≡ ArgOut → k ≢ Fifo
no_fifo {k} out fifo = absurd (let clash : ArgOut ≡ Fifo = sym out ∙ fifo in cc)

kind_is : (core : PlainCore) (m : ℕ) → m < length core.mems → kind_of core m ≡ (mem core m).kind
kind_is core m l = rw (lt-ltb m (length core.mems) l) refl

module _ (core : PlainCore) (right : IsCore core) (law : PortLaws) (arg_ports : ArgumentsArePorts) (out_ports : OutputsArePorts) where
  pub args_named : AreNamed core.ports.args
  args_named = law.named core.ports.args (arg_ports core right).0.names

  pub outs_named : AreNamed core.ports.outs
  outs_named = law.named core.ports.outs (out_ports core right).names

  -- the DRAMs of a core are named, have sizes, and their number is small
  pub drams_named : AreNamed core.ports.drams
  drams_named =
      let names = are_port_names (names_of core.ports.args) && (are_port_names (names_of core.ports.outs) && are_port_names (names_of core.ports.drams)) in
      let all = and_parts names (are_ports_of core.ports.args (filter (λ m. is_arg m.kind) core.mems) && are_ports_of core.ports.outs (filter (λ m. is_out m.kind) core.mems)) right.ports in
      let rest = and_parts (are_port_names (names_of core.ports.args)) (are_port_names (names_of core.ports.outs) && are_port_names (names_of core.ports.drams)) all.0 in
      law.named core.ports.drams (and_parts (are_port_names (names_of core.ports.outs)) (are_port_names (names_of core.ports.drams)) rest.1).1

  pub drams_sized : HaveSizes core.ports.drams
  drams_sized = law.sizes core.ports.drams (and_parts (list_all is_mem_right core.mems) (list_all is_dram_right core.ports.drams) right.memories).1

  pub few_drams : length core.ports.drams < 2 ^ 32
  few_drams = let small = ltb-true (core_size core) (2 ^ 29) right.size in omega (arith, small)

  -- each argument has the net of its port
  pub args_stand : (begun d : Draft) (ports : List ℕ) → Grows begun d → HaveNets begun core.ports.args ports → (arguments : List ℕ) → length arguments ≡ length core.mems → arguments ≡ nets_of_arguments core.mems ports → ArgumentsStand d core arguments
  args_stand begun d ports g have arguments each same = record {
    each = each;
    nets = λ m l arg. (
        let at = (arg_ports core right).1 m l (sym (kind_is core m l) ∙ arg) in
        let net = law.each_net begun core.ports.args ports have at.0 no_port at.1.place in
        let here : slice_index arguments m ≡ slice_index ports at.0 = ap (λ ns. slice_index ns m) same ∙ at.2 ports in
        subst (λ n. HasNet d n (width_of (mem core m).ty)) (sym here) (subst (λ ty. HasNet d (slice_index ports at.0) (width_of ty)) at.1.port.ty (HasNet-stays begun d _ _ g net)));
  }

  -- and each output the net of its word
  pub outs_stand : (d final : Draft) (words : List ℕ) → Grows d final → WordsStand d core words → HaveNets final core.ports.outs (map (slice_index words) (outs_of core))
  outs_stand d final words g stand =
      law.has_nets final core.ports.outs (map (slice_index words) (outs_of core)) (as_long (slice_index words) (outs_of core) ∙ (out_ports core right).each)
      (λ i other l. (
      let at = (out_ports core right).at i l in
      let inside : i < length (outs_of core) = (let e = (out_ports core right).each in omega (arith, e, l)) in
      let net = HasNet-stays d final _ _ g (stand.nets (slice_index (outs_of core) i) at.within (no_array (kind_is core (slice_index (outs_of core) i) at.within ∙ at.of_kind)) (no_fifo (kind_is core (slice_index (outs_of core) i) at.within ∙ at.of_kind))) in
      subst (λ n. HasNet final n (width_of (slice_index_or core.ports.outs i other).ty)) (sym (at_map (slice_index words) (outs_of core) i inside))
      (subst (λ ty. HasNet final (slice_index words (slice_index (outs_of core) i)) (width_of ty)) (sym at.port.ty ∙ ap (λ (p : PlainPort). p.ty) (any_port core.ports.outs i no_port other l)) net)))
    where
      any_port : (ps : List PlainPort) (i : ℕ) (p q : PlainPort) → i < length ps → slice_index_or ps i p ≡ slice_index_or ps i q
      any_port [] i p q l = absurd (omega (arith, l))
      any_port (x ∷ ps) zero p q l = refl
      any_port (x ∷ ps) (suc i) p q l = any_port ps i p q (omega (arith, l))

none_in : (n : ℕ) → Contains [] n → ⊥
none_in n (k, l, e) = absurd (omega (arith, l))

pub joined : (stored a b c e final : Draft) (wires : List ℕ) → Fills stored a [] → Fills a b [] → Fills b c [] → Fills c e wires → Fills e final [] → Fills stored final (wires ++ [])
joined stored a b c e final wires f g h i j = Fills-join stored a final [] (wires ++ []) f (Fills-join a b final [] (wires ++ []) g (Fills-join b c final [] (wires ++ []) h (Fills-join c e final wires [] i j)))

-- units, banks, and gates behind them, stand inside of a frame
pub inside : (law : PortLaws) (begun manned stored a b c e final : Draft) (wires : List ℕ) → AddsUnits begun manned → AddsBanks manned stored → Fills stored a [] → Fills a b [] → Fills b c [] → Fills c e wires → Fills e final [] → AddsInside begun final
inside law begun manned stored a b c e final wires units banks f g h i j =
    law.inside_join begun manned final (law.units_inside begun manned units)
    (law.inside_join manned stored final (law.banks_inside manned stored banks) (law.gates_inside stored final (joined stored a b c e final wires f g h i j).gates))

-- of the nets that are open in the end none is
pub closed : (taps : TapLaws) (begun stored a b c e final : Draft) (wires : List ℕ) → ((net : ℕ) → IsOpen begun net → ⊥) → Promises begun stored wires → Fills stored a [] → Fills a b [] → Fills b c [] → Fills c e wires → Fills e final []
    → (net : ℕ) → IsOpen final net → ⊥
closed taps begun stored a b c e final wires none promises f g h i j net o = none net ((taps.driven begun stored final wires [] promises (joined stored a b c e final wires f g h i j)).no_other net o).0

-- nets that are promised with banks are open as long as nothing drives them
pub open_later : (stored a b c : Draft) → Fills stored a [] → Fills a b [] → Fills b c [] → (net : ℕ) → IsOpen stored net → IsOpen c net
open_later stored a b c f g h net o = h.still_open net (g.still_open net (f.still_open net o (none_in net)) (none_in net)) (none_in net)

pub grown : (begun stored a b c : Draft) (wires : List ℕ) → Promises begun stored wires → Fills stored a [] → Fills a b [] → Fills b c [] → Grows begun c
grown begun stored a b c wires promises f g h = Grows-join begun stored c promises.grows (Fills-join stored a c [] [] f (Fills-join a b c [] [] g h)).grows

-- arguments and DRAMs are no units
none_among : (args : List PlainPort) (nets : List ℕ) (rest : List PlainCell) → count_by is_unit (in_cells args nets ++ rest) ≡ count_by is_unit rest
none_among [] nets rest = refl
none_among (port ∷ args) [] rest = refl
none_among (port ∷ args) (net ∷ nets) rest = none_among args nets rest

no_dram_unit : (first : ℕ) (drams : List PlainPort) → count_by is_unit (dram_cells first drams) ≡ 0
no_dram_unit first [] = refl
no_dram_unit first (port ∷ drams) = no_dram_unit (suc first) drams

pub no_units : (args : List PlainPort) (nets : List ℕ) (drams : List PlainPort) → count_by is_unit (front_cells args nets drams) ≡ 0
no_units args nets drams = none_among args nets (dram_cells 0 drams) ∙ no_dram_unit 0 drams

-- units still stand behind banks and the first gates, and none of their nets is one of a bank
pub transfers_stand : (core : PlainCore) (manned stored a b c : Draft) (units : List TransferUnit) (ends : List (Option ℕ)) (wires : List ℕ) (from : ℕ) → UnitsAreOpen → UnitsStay → UnitsStand manned core units → HaveEnds manned ends core.root 0 → HaveDone ends units → Rise from (unit_wires_in units)
    → Promises manned stored wires → Fills stored a [] → Fills a b [] → Fills b c [] → TransfersStand c core units ends wires
transfers_stand core manned stored a b c units ends wires from are_open stay stand have done rise promises f g h =
    let grows = grown manned stored a b c wires promises f g h in
    record {
      units_stand = stay manned c core units grows (λ net there. open_later stored a b c f g h net (promises.still_open net (are_open manned core units stand net there))) stand;
      ends_stand = ends_later manned c ends core.root 0 grows have;
      done = done;
      from = from;
      rise = rise;
      apart = λ net there other. (let low = (are_open manned core units stand net there).within in let high = promises.fresh net other in omega (arith, low, high));
    }

-- the drafts one after the other, and what is known of the nets that were added
pub record Steps (core : PlainCore) (plan : PlainPlan) (begun manned stored a b c e final : Draft) (ports wires : List ℕ) (always never start : ℕ) (child : Child) (arguments words : List ℕ) (transfers : List TransferUnit) (done : ℕ) : Type 0 where
  pub front : begun.cells ≡ front_cells core.ports.args ports core.ports.drams
  pub have : HaveNets begun core.ports.args ports
  pub units : AddsUnits begun manned
  pub stores : (r : ℕ) → units_in r manned.cells ≡ units_in r begun.cells ++ stores_to r transfers
  pub banks : AddsBanks manned stored
  pub no_conflict : (bank : ℕ) → bank < count_by is_bank stored.cells → HasNoConflict stored bank
  pub one : Fills stored a []
  pub is_one : IsOne a always
  pub none : Fills a b []
  pub is_zero : (s : Signals) → RunsOn s b.cells → (t : ℕ) → s.net t never ≡ 0
  pub held : Fills b c []
  pub starts : (s : Signals) → RunsOn s c.cells → Holds (λ t. s.net t start) 1 (λ t. s.net t always) (λ t. s.net t never)
  pub tree : Fills c e wires
  pub begins : child.start ≡ start
  pub arguments_are : arguments ≡ nets_of_arguments core.mems ports
  pub circuit : (s : Signals) (run : RunsOn s e.cells) → RunsWithUnits core plan run.setting s child arguments words transfers
  pub last : Fills e final []
  pub dones : (s : Signals) → RunsOn s final.cells → Holds (λ t. s.net t done) 0 (λ t. s.net t always) (λ t. s.net t child.done)

module _ (core : PlainCore) (plan : PlainPlan) (can : CanLower core plan) (right : IsCore core) (law : PortLaws) (arg_ports : ArgumentsArePorts) (out_ports : OutputsArePorts)
    (begun manned stored a b c e final : Draft) (ports wires : List ℕ) (always never start : ℕ) (child : Child) (arguments words : List ℕ) (transfers : List TransferUnit) (done : ℕ) (x : Steps core plan begun manned stored a b c e final ports wires always never start child arguments words transfers done) where
  behind : Fills stored final (wires ++ [])
  behind = joined stored a b c e final wires x.one x.none x.held x.tree x.last

  whole : AddsInside begun final
  whole = inside law begun manned stored a b c e final wires x.units x.banks x.one x.none x.held x.tree x.last

  module _ (frames : FramesRight) (ends : FramesEnd) (sharing : TapsShareNone) (go : StoredCoresGo core plan) (runs_dram : DramsRunByUnits) (join : UnitsJoin) (sizes : DramsKeepSizes core) (first_words : FirstWordsGiven core) (there : (h : History) (took : (node ask : ℕ) → ℕ) → DelaysAreThere core h took) (small : DelaysAreSmall) (have_words : ArgumentsHaveWords) (run : HasOneRun)
      (cells : List PlainCell) (cells_are : cells ≡ final.cells ++ out_cells core.ports.outs (map (slice_index words) (outs_of core)) ++ done_cell done ∷ []) (is : IsNetlist cells) where
    abbrev outs : List ℕ
    outs = map (slice_index words) (outs_of core)

    framed : IsFramed cells core.ports.args ports core.ports.drams whole.added core.ports.outs (map (slice_index words) (outs_of core)) done
    framed =
        law.framed begun final core.ports.args ports core.ports.drams core.ports.outs (map (slice_index words) (outs_of core)) done cells x.front whole cells_are (law.net_for_each begun core.ports.args ports x.have)
        (as_long (slice_index words) (outs_of core) ∙ (out_ports core right).each)

    -- the units that store to a DRAM are those of its stores: no other cell is one
    units_are : (r : ℕ) → units_in r cells ≡ stores_to r transfers
    units_are r =
        none_behind join r final.cells cells (out_cells core.ports.outs outs ++ done_cell done ∷ []) (cells_are ∙ append_assoc final.cells (out_cells core.ports.outs outs) (done_cell done ∷ [])) (law.ends_store_none core.ports.outs outs done)
        ∙ none_behind join r stored.cells final.cells behind.gates.added behind.gates.stands (law.gates_store_none behind.gates.added behind.gates.all)
        ∙ none_behind join r manned.cells stored.cells x.banks.added x.banks.stands (law.banks_store_none x.banks.added x.banks.all)
        ∙ x.stores r
        ∙ ap (λ us. us ++ stores_to r transfers) (ap (units_in r) x.front ∙ no_units_in r (front_cells core.ports.args ports core.ports.drams) (law.front_stores_none core.ports.args ports core.ports.drams))

    ports_are : ports_of cells ≡ core.ports
    ports_are =
        (frames cells core.ports.args ports core.ports.drams whole.added core.ports.outs (map (slice_index words) (outs_of core)) done framed).ports (no_dims core.ports.args (λ k l. ((arg_ports core right).0.at k l).port.dims))
        (no_dims core.ports.outs (λ k l. ((out_ports core right).at k l).port.dims))
      where
        no_dims : (ps : List PlainPort) → ((k : ℕ) → k < length ps → (slice_index_or ps k no_port).dims ≡ []) → HaveNoDims ps
        no_dims [] h = tt
        no_dims (p ∷ ps) h = (h 0 (omega arith), no_dims ps (λ k l. h (suc k) (omega (arith, l))))

    module _ (input : PlainInput) (h : History) (left : Store) (r : RunsByPlan core plan input h left) (delays : List ℕ) (bound : ℕ) (s : Signals)
        (is_run : IsRun (record { cells = cells; args = input.args; drams = input.drams; delays = delays }) s) where
      setting : Setting
      setting = record { cells = cells; args = input.args; drams = input.drams; delays = delays }

      on_final : RunsOn s final.cells
      on_final = (law.runs_on final core.ports.outs (map (slice_index words) (outs_of core)) done (record { cells = cells; args = input.args; drams = input.drams; delays = delays }) s cells_are is_run).0

      setting_is : on_final.setting ≡ record { cells = cells; args = input.args; drams = input.drams; delays = delays }
      unfolding on_final
      setting_is = (law.runs_on final core.ports.outs (map (slice_index words) (outs_of core)) done (record { cells = cells; args = input.args; drams = input.drams; delays = delays }) s cells_are is_run).1

      on_e : (q : RunsOn s e.cells) × (q.setting ≡ on_final.setting)
      on_e = earlier e final s x.last.grows on_final

      on_c : RunsOn s c.cells
      on_c = runs_earlier c e s x.tree.grows on_e.0

      on_b : RunsOn s b.cells
      on_b = runs_earlier b c s x.held.grows on_c

      on_a : RunsOn s a.cells
      on_a = runs_earlier a b s x.none.grows on_b

      one : (t : ℕ) → s.net t always ≡ 1
      one t = x.is_one.always s on_a t

      passed : (t v w : ℕ) → (if s.net t always == 1 then v else w) ≡ v
      passed t v w = rw (eq-eqb (s.net t always) 1 (one t)) refl

      starts : StartsOnce s child.start
      starts = record {
        begins = subst (λ n. is_on s n 0 ≡ true) (sym x.begins) (eq-eqb (s.net 0 start) 1 (x.starts s on_c).0);
        once = λ t. subst (λ n. is_on s n (suc t) ≡ false) (sym x.begins) (rw ((x.starts s on_c).1 t, passed t (s.net t never) (s.net t start), x.is_zero s on_b t) refl);
      }

      given : (m : ℕ) → m < length core.mems → kind_of core m ≡ ArgIn → (t : ℕ) → s.net t (slice_index arguments m) ≡ slice_index_or (words_of (Rattle.sp_core.specs.Meaning.first_store core input m)) 0 0
      given m l arg t =
          ap (λ ns. s.net t (slice_index ns m)) x.arguments_are
          ∙ have_words core input ports s.net right (law.net_for_each begun core.ports.args ports x.have) (sym (zip_length (λ (port : PlainPort) word. IsWord port.ty word) core.ports.args input.args r.fits.args))
          ((frames cells core.ports.args ports core.ports.drams whole.added core.ports.outs (map (slice_index words) (outs_of core)) done framed).args_stand (record { cells = cells; args = input.args; drams = input.drams; delays = delays }) s refl is_run) m l arg t

      circuit : StoredCircuit core plan on_e.0.setting s child arguments words
      circuit = (x.circuit s on_e.0).circuit

      -- each DRAM has at first the words of the input, and goes by the units of its stores
      drams_run : DramsRun core input s (x.circuit s on_e.0).circuit.storing
      drams_run q few =
          let here = (frames cells core.ports.args ports core.ports.drams whole.added core.ports.outs (map (slice_index words) (outs_of core)) done framed).drams_stand q no_port few in
          let port = slice_index_or core.ports.drams q no_port in
          let runs = runs_dram (record { cells = cells; args = input.args; drams = input.drams; delays = delays }) s is_run here.before here.after q port.name port.ty port.dims here.stands (units_of q (x.circuit s on_e.0).circuit.storing)
          ((x.circuit s on_e.0).units_are q ∙ sym (units_are q)) in
          record {
            begins = λ i inside. runs.begins i (subst (λ ds. i < word_count ds) (dram_dims core q) inside) ∙ ap (λ ws. slice_index ws i) (sym (first_words input (drams_for_each core input r.fits) q few));
            goes = λ t i inside. runs.goes t i (subst (λ ds. i < word_count ds) (dram_dims core q) inside);
          }

      took : (node ask : ℕ) → ℕ
      took = took_by on_e.0.setting s circuit.channels bound

      timing : Delays
      timing = delays_of core h took

      along : GoesAlong core plan timing s bound child words h left
      unfolding timing took circuit
      along = go on_e.0.setting s child arguments words can.stored (x.circuit s on_e.0).circuit starts input h left r given drams_run bound

      next : (t : ℕ) → s.net (suc t) done ≡ s.net t child.done
      next t = (x.dones s on_final).1 t ∙ passed t (s.net t child.done) (s.net t done)

      first_at : (cycle : ℕ) → cycle ≡ (core_timed core plan timing h).took → cycle ≤ bound → IsFirst s done cycle
      first_at zero same low = absurd (let late = along.takes_time in omega (arith, same, late))
      first_at (suc t) same low = record {
        is_one = next t ∙ same_number (s.net t child.done) 1 (along.is_done t (omega (arith, low)) same);
        not_before = not_before (suc t) same low;
      }
        where
          not_before : (cycle : ℕ) → cycle ≡ (core_timed core plan timing h).took → cycle ≤ bound → (u : ℕ) → u < cycle → s.net u done ≢ 1
          not_before cycle still low zero l one_is = absurd (let clash : 0 ≡ 1 = sym (x.dones s on_final).0 ∙ one_is in omega (arith, clash))
          not_before cycle still low (suc u) l one_is = absurd (let over = along.only u (omega (arith, l, low)) (eq-eqb (s.net u child.done) 1 (sym (next u) ∙ one_is)) in omega (arith, still, l, over))

      on_stored : (q : RunsOn s stored.cells) × (q.setting ≡ on_final.setting)
      on_stored = earlier stored final s behind.grows on_final

      none_shared : SharesNoneUpTo (record { cells = cells; args = input.args; drams = input.drams; delays = delays }) s (core_timed core plan timing h).took
      none_shared t l = sharing stored final core.ports.outs (map (slice_index words) (outs_of core)) done cells (s.net t) behind.gates cells_are is (λ bank port within. at_most bank port (x.no_conflict bank within s on_stored.0 t port))
        where
          at_most : (bank : ℕ) (port : Port) → count_by (is_enabled_tap (s.net t) port bank) on_stored.0.setting.cells ≤ 1 → count_by (is_enabled_tap (s.net t) port bank) cells ≤ 1
          at_most bank port most = subst (λ cs. count_by (is_enabled_tap (s.net t) port bank) cs ≤ 1) (ap (λ (g : Setting). g.cells) (on_stored.1 ∙ setting_is)) most

      words_left : (core_timed core plan timing h).took ≤ bound → map (s.net (core_timed core plan timing h).took) (map (slice_index words) (outs_of core)) ≡ out_words core left
      words_left low =
          twice (s.net (core_timed core plan timing h).took) (slice_index words) (outs_of core)
          ∙ same_map (λ m. s.net (core_timed core plan timing h).took (slice_index words m)) (λ m. slice_index (words_of (left m)) 0) (outs_of core)
          (λ i l. (
          let below : i < length core.ports.outs = (let e = (out_ports core right).each in omega (arith, e, l)) in
          let at = (out_ports core right).at i below in
          along.outs (slice_index (outs_of core) i) (core_timed core plan timing h).took low at.within at.of_kind (omega arith)))

      drams_left : (core_timed core plan timing h).took ≤ bound → dram_lists cells (s.dram (core_timed core plan timing h).took) ≡ dram_words core left
      drams_left low =
          (frames cells core.ports.args ports core.ports.drams whole.added core.ports.outs (map (slice_index words) (outs_of core)) done framed).drams_read (s.dram (core_timed core plan timing h).took)
          ∙ lists_left core left (s.dram (core_timed core plan timing h).took) (sizes right can.stored.timed input r.turns h left r.fits r.ran)
          (λ q i few inside. along.drams q i (core_timed core plan timing h).took low few inside (omega arith))

      ended : (last : ℕ) → (core_timed core plan timing h).took ≤ bound → (core_timed core plan timing h).took ≤ last → Ends (record { cells = cells; args = input.args; drams = input.drams; delays = delays }) last (done_in (core_timed core plan timing h).took (out_words core left) (dram_words core left))
      ended last low le =
          subst (λ ds. Ends (record { cells = cells; args = input.args; drams = input.drams; delays = delays }) last (done_in (core_timed core plan timing h).took (out_words core left) ds)) (drams_left low)
          (subst (λ ws. Ends (record { cells = cells; args = input.args; drams = input.drams; delays = delays }) last
          (done_in (core_timed core plan timing h).took ws (dram_lists cells (s.dram (core_timed core plan timing h).took)))) (words_left low)
          ((ends (record { cells = cells; args = input.args; drams = input.drams; delays = delays }) s core.ports.args ports core.ports.drams whole.added core.ports.outs (map (slice_index words) (outs_of core)) done (core_timed core plan timing h).took last
          framed is_run none_shared (first_at (core_timed core plan timing h).took refl low) le).of_netlist is))

      -- no transfer waits longer than the greatest delay
      waits_little : (d : ℕ) → All (λ e. e ≤ d) delays → (k : ℕ) (path : List At) (ask : ℕ) → timing k path ask ≤ d
      unfolding timing took circuit
      waits_little d each = (there h (took_by on_e.0.setting s (x.circuit s on_e.0).circuit.channels bound)).small d
          (λ k ask. small on_e.0.setting s ((x.circuit s on_e.0).circuit.channels k).before ((x.circuit s on_e.0).circuit.channels k).channel ((x.circuit s on_e.0).circuit.channels k).request ((x.circuit s on_e.0).circuit.channels k).last d bound
          (subst (λ (g : Setting). All (λ e. e ≤ d) g.delays) (sym (on_e.1 ∙ setting_is)) each) ask)

      in_time : EndsInTime core plan cells input h left delays bound
      in_time = record { timing = timing; small = waits_little; ends = ended }

    pub carried : CarriesCore core plan cells
    carried = record {
      ports = ports_are;
      carries = λ input h left r delays bound. (
          let found = (run (record { cells = cells; args = input.args; drams = input.drams; delays = delays }) is).some_run in
          in_time input h left r delays bound found.0 found.1);
    }
