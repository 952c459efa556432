-- The memories of a tree that was emitted can be emitted behind it, and then the whole is a circuit of the core.
use Rattle.std.proofs.Common.{◌≡◌, ℕ, cond, count_by, append_assoc, ◌<◌, ◌≤◌, ◌⊎◌, inl, inr, true, slice_index_or, List, [], ◌∷◌, ◌++◌, map, length, Option, Some, None, refl, sym, ap, subst, ◌∙◌, arith}
use Rattle.std.proofs.lemmas.Bool.{false≢true}
use Rattle.std.proofs.lemmas.List.{append-nil}
use Rattle.std.proofs.lemmas.List.Sums.{sum_by-append}
use Rattle.std.proofs.lemmas.List.Elements.{All-append, All-contains, All-weaker, Contains-get_or, Contains-append_cases}
use Rattle.std.specs.Prelude.{All}
use Rattle.std.specs.List.{Contains}
use Rattle.sp_words.specs.declared.kind.Kind.{Kind}
use Rattle.sp_words.specs.declared.kind.Kind.TheVariants.{Reg, Sram, Fifo, LineBuf, Dram, ArgIn, ArgOut}
use Rattle.sp_netlist.specs.declared.parts.Child.{Child}
use Rattle.sp_netlist.specs.Draft.{Draft}
use Rattle.sp_netlist.specs.Cells.{PlainCell}
use Rattle.sp_netlist.specs.Parts.{names_bank}
use Rattle.sp_netlist.specs.Rules.{is_bank}
use Rattle.sp_netlist.specs.Signals.{Setting, Signals}
use Rattle.sp_gates.specs.Grows.{Grows, Fills}
use Rattle.sp_gates.specs.Nets.{HasNet, IsOpen}
use Rattle.sp_gates.specs.Runs.{RunsOn}
use Rattle.sp_gates.proofs.Growing.{Grows-join, HasNet-stays}
use Rattle.sp_gates.proofs.Running.{none_joined}
use Rattle.sp_core.specs.Invariant.{IsCore}
use Rattle.sp_core.specs.Declarations.{mem, kind_of}
use Rattle.sp_core.specs.OperationRules.{can, is_fifo}
use Rattle.sp_core.specs.PlainCore.{PlainCore}
use Rattle.sp_plan.specs.PlainPlan.{PlainPlan}
use Rattle.sp_op_nets.specs.declared.acted.ActedList.{ActedList}
use Rattle.sp_op_nets.specs.Acted.{answers_in}
use Rattle.sp_op_nets.specs.Reserved.{Rise, Reserves}
use Rattle.sp_op_nets.specs.Table.{nets_at}
use Rattle.sp_op_nets.proofs.Reserving.{none_reserved, reserved_join}
use Rattle.sp_access_nets.specs.declared.access.AccessNets.{AccessNets}
use Rattle.sp_access_nets.specs.Accesses.{copy_in}
use Rattle.sp_access_nets.specs.Laws.{answer_nets}
use Rattle.sp_circuit_ops.specs.declared.ops.WordNet.{WordNet}
use Rattle.sp_core.specs.declared.operation.OpKind.TheVariants.{Read, Deq}
use Rattle.sp_mem.specs.Fits.{CopyFits}
use Rattle.sp_tree_circuits.specs.Circuits.{Circuit}
use Rattle.sp_tree_events.specs.CopiesStanding.{no_numbers}
use Rattle.sp_copy_nets.specs.Numbers.{StandNumbers}
use Rattle.sp_tree_handed.specs.declared.owners.OwnerNets.{OwnerNets}
use Rattle.sp_tree_handed.specs.Lists.{NumberedOps, lists_in}
use Rattle.sp_tree_handed.specs.Standing.{AreListsStanding, AccessStands, BoundsReadArguments, OwnersStand}
use Rattle.sp_tree_nets.specs.Handed.{AreHanded}
use Rattle.sp_tree_copies.specs.Naming.{AreNamed}
use Rattle.sp_tree_accesses.specs.Accesses.{AreAllAccesses}
use Rattle.sp_tree_accesses.specs.Laws.{AreTreeAccesses, IsOfCore, AnswersAreOfReads}
use Rattle.sp_tree_accesses.specs.Queued.{QueuedStands}
use Rattle.sp_memory_nets.specs.declared.array_array.Array.{Array}
use Rattle.sp_memory_nets.specs.ArrayBanks.{ArraysStand, wires_in}
use Rattle.sp_memory_nets.specs.ArrayFits.{MemoriesFit}
use Rattle.sp_memory_nets.specs.ArrayLaws.{ArraysAreOpen, ArraysStay}
use Rattle.sp_memory_nets.specs.ArrayRuns.{RunMemories}
use Rattle.sp_memory_nets.specs.ScalarFits.{OwnersNameCopies}
use Rattle.sp_load_units.specs.declared.unit.TransferUnit.{TransferUnit}
use Rattle.sp_load_units.specs.Laws.{UnitsAreOpen, UnitsStay}
use Rattle.sp_load_units.specs.Units.{unit_wires_in, UnitsStand}
use Rattle.sp_stored_cores.specs.Stores.{StoreAccess}
use Rattle.sp_lower.specs.StoresLaws.{HasTransfers}
use Rattle.sp_lower.specs.StoresParts.{DrivesAndReserves, TransferStands}
use Rattle.sp_lower.proofs.StoresKnowing.{driven_behind, reserves_alone}
use Rattle.sp_lower.proofs.StoresLater.{both_answers, drives_join}
use Rattle.sp_lower.specs.TreesFits.{ArgumentsStand, CanEmitStored, RunsWithUnits}

lower : (from to : ℕ) (ns : List ℕ) → from ≤ to → Rise to ns → Rise from ns
lower from to [] le r = tt
lower from to (n ∷ ns) le r = ((let l = r.0 in omega (arith, le, l)), r.1)

-- words are taken from FIFOs alone
fifo_of : (k : Kind) → is_fifo k ≡ true → k ≡ Fifo
fifo_of Fifo e = refl
fifo_of Reg e = absurd (false≢true e)
fifo_of Sram e = absurd (false≢true e)
fifo_of LineBuf e = absurd (false≢true e)
fifo_of Dram e = absurd (false≢true e)
fifo_of ArgIn e = absurd (false≢true e)
fifo_of ArgOut e = absurd (false≢true e)

-- cells behind the tree that drive nothing that was open leave its lists as they stand, and open what it left open
pub lists_stay : (a b : Draft) (core : PlainCore) (lists : List NumberedOps) (acted : List ActedList) → Grows a b → AreListsStanding a core lists acted → AreListsStanding b core lists acted
lists_stay a b core [] [] g h = tt
lists_stay a b core [] (x ∷ acted) g h = h
lists_stay a b core (list ∷ lists) [] g h = h
lists_stay a b core (list ∷ lists) (x ∷ acted) g h = (
  record { draft = h.0.draft; grows = Grows-join h.0.draft a b h.0.grows g; first = h.0.first; ops_of = h.0.ops_of; answers = h.0.answers; after = h.0.after; issue = h.0.issue; acts = h.0.acts },
  lists_stay a b core lists acted g h.1,
)

pub still_reserved : (a b c : Draft) (nets : List ℕ) → Reserves a b nets → Fills b c [] → Reserves a c nets
still_reserved a b c nets r f = subst (Reserves a c) (append-nil nets) (reserved_join a b c nets [] r (none_reserved b c f))

-- nets that stand are those of copies
pub copies_fit : (d : Draft) (nets : List (Option ℕ)) → StandNumbers d nets → All (CopyFits d) nets
copies_fit d nets h k e l = fits_at (slice_index_or nets k e) refl
  where
    fits_at : (net : Option ℕ) → slice_index_or nets k e ≡ net → CopyFits d net
    fits_at None is = tt
    fits_at (Some n) is = h n (subst (Contains nets) is (Contains-get_or nets k e l))

-- the circuit of the tree in a run, with nets of copies, and those of its transfers with their accesses
pub record TreeRuns (core : PlainCore) (plan : PlainPlan) (g : Setting) (s : Signals) (c : Child) (acted : List ActedList) (copies : List (Option ℕ)) (owners : OwnerNets) (units : List TransferUnit) (moving : List AccessNets) : Type 0 where
  pub circuit : Circuit core plan s core.root [] (nets_at []) 0 c
  pub handed : AreHanded core plan s core.root [] (nets_at []) 0 0 c circuit acted
  pub named : AreNamed core plan s core.root [] (nets_at []) 0 c circuit no_numbers copies owners.renewed.items owners.kept.items
  pub writes : List AccessNets
  pub reads : List AccessNets
  pub are : moving ≡ writes ++ reads
  pub has : HasTransfers core plan g s (nets_at []) c copies units writes reads circuit

-- what runs on a draft runs on the one before, in the same setting
more_banks : (xs ys : List PlainCell) → count_by is_bank xs ≤ count_by is_bank (xs ++ ys)
more_banks xs ys = let e = sum_by-append (λ x. cond (is_bank x) 1 0) xs ys in omega (arith, e)

pub earlier : (old new : Draft) (s : Signals) → Grows old new → (r : RunsOn s new.cells) → (q : RunsOn s old.cells) × (q.setting ≡ r.setting)
earlier old new s g r = (
  record {
    setting = r.setting;
    rest = g.added ++ r.rest;
    run = r.run;
    stands = r.stands ∙ ap (λ cells. cells ++ r.rest) g.stands ∙ append_assoc old.cells g.added r.rest;
    banks = λ bank within.
        let more : count_by is_bank old.cells ≤ count_by is_bank new.cells = subst (λ cells. count_by is_bank old.cells ≤ count_by is_bank cells) (sym g.stands) (more_banks old.cells g.added) in
        none_joined (names_bank bank) g.added r.rest (g.apart bank within) (r.banks bank (omega (arith, within, more)));
  },
  refl,
)

-- what stands stands later
copy_later : (a b : Draft) (copy : Option ℕ) → Grows a b → CopyFits a copy → CopyFits b copy
copy_later a b None g h = tt
copy_later a b (Some net) g h = HasNet-stays a b net 32 g h

pub names_later : (a b : Draft) (names : List (Option ℕ)) → Grows a b → StandNumbers a names → StandNumbers b names
names_later a b names g h net there = HasNet-stays a b net 32 g (h net there)

owners_later : (a b : Draft) (core : PlainCore) (owners : OwnerNets) → Grows a b → OwnersStand a core owners → OwnersStand b core owners
owners_later a b core owners g h = record {
  renewed = λ k x l. HasNet-stays a b _ 1 g (h.renewed k x l);
  kept = λ k x l. (let q = h.kept k x l in record { done = HasNet-stays a b _ 1 g q.done; word = HasNet-stays a b _ _ g q.word });
}

copies_later : (a b : Draft) (owners : OwnerNets) → Grows a b → OwnersNameCopies a owners → OwnersNameCopies b owners
copies_later a b owners g h = record {
  renewed = λ k x l. copy_later a b _ g (h.renewed k x l);
  kept = λ k x l. copy_later a b _ g (h.kept k x l);
}

-- units stand in a later draft, in which nothing drives their nets yet
pub units_later : UnitsAreOpen → UnitsStay → (old mid : Draft) (core : PlainCore) (units : List TransferUnit) (nets : List ℕ) → Reserves old mid nets → UnitsStand old core units → UnitsStand mid core units
units_later are_open stay old mid core units nets r h = stay old mid core units r.grows (λ net there. r.still_open net (are_open old core units h net there)) h

module _ (core : PlainCore) (plan : PlainPlan) (old mid late : Draft) (acted : List ActedList) (copies : List (Option ℕ)) (owners : OwnerNets) (accesses moving : List AccessNets) (arguments : List ℕ) (arrays : List Array) (start : ℕ) (units : List TransferUnit) (able : CanEmitStored core plan)
    (r : Reserves old mid (answers_in acted)) (moved : DrivesAndReserves mid late (unit_wires_in units) (answer_nets moving)) (open_units : (net : ℕ) → Contains (unit_wires_in units) net → IsOpen old net) (same : answer_nets accesses ≡ answers_in acted)
    (stand : BoundsReadArguments core core.root → All (AccessStands late core) accesses) (of_core : All (IsOfCore core (copy_in copies)) accesses)
    (queued : All (QueuedStands late core) accesses) (right : IsCore core) (read : AnswersAreOfReads core) (lists : AreListsStanding late core (lists_in core.root 0) acted) (all : AreAllAccesses (copy_in copies) (lists_in core.root 0) acted accesses) where
  are : AreTreeAccesses core (copy_in copies) acted accesses
  are = record { right = right; draft = late; stand = lists; all = all }

  all_same : answer_nets (accesses ++ moving) ≡ answers_in acted ++ answer_nets moving
  all_same = both_answers accesses moving ∙ ap (λ ns. ns ++ answer_nets moving) same

  -- what the tree reserves, and what transfers drive and reserve
  in_turn : DrivesAndReserves old late (unit_wires_in units) (answers_in acted ++ answer_nets moving)
  in_turn = drives_join old mid late [] (answers_in acted) (unit_wires_in units) (answer_nets moving) (reserves_alone old mid (answers_in acted) r) moved open_units

  takes : (a : AccessNets) → Contains accesses a → a.kind ≡ Deq → kind_of core a.mem ≡ Fifo
  takes a (k, l, e) take = subst (λ (b : AccessNets). b.kind ≡ Deq → kind_of core b.mem ≡ Fifo) e (taken (slice_index_or accesses k a) (of_core k a l)) take
    where
      taken : (b : AccessNets) → IsOfCore core (copy_in copies) b → b.kind ≡ Deq → kind_of core b.mem ≡ Fifo
      taken b of_b take = fifo_of (kind_of core b.mem) (subst (λ k. can k (kind_of core b.mem) (mem core b.mem).start ≡ true) take of_b.allowed)

  asked : (a : AccessNets) (w : WordNet) → Contains accesses a → a.answer ≡ Some w → (a.kind ≡ Read) ⊎ ((a.kind ≡ Deq) × (kind_of core a.mem ≡ Fifo))
  asked a w there answer = elim (read (copy_in copies) acted accesses are a w there answer) [
    | inl reads ↦ inl reads
    | inr take ↦ inr (take, takes a there take)
  ]

  module _ (transfers : All (TransferStands late core) moving) where
    all_asked : (a : AccessNets) (w : WordNet) → Contains (accesses ++ moving) a → a.answer ≡ Some w → (a.kind ≡ Read) ⊎ ((a.kind ≡ Deq) × (kind_of core a.mem ≡ Fifo))
    all_asked a w there answer = elim (Contains-append_cases accesses moving a there) [
      | inl own ↦ asked a w own answer
      | inr other ↦ inl ((All-contains (TransferStands late core) moving a transfers other).reads w answer)
    ]

    pub fits : ArraysAreOpen → ArraysStay → ((net : ℕ) → Contains (unit_wires_in units) net → Contains (wires_in arrays) net → ⊥) → ArgumentsStand old core arguments → ArraysStand old core plan arrays → HasNet old start 1 → OwnersStand mid core owners → OwnersNameCopies mid owners
        → All (λ (a : AccessNets). CopyFits late a.copy) accesses → MemoriesFit late core plan (accesses ++ moving) owners arguments arrays start
    fits are_open stay apart args banks begin own owned copied = record {
      stored = able.stored;
      planned = able.arrays;
      starts = HasNet-stays old late start 1 in_turn.grows begin;
      each = args.each;
      ports = λ m l arg. HasNet-stays old late _ _ in_turn.grows (args.nets m l arg);
      accesses_fit = record {
        stand = All-append (AccessStands late core) accesses moving (stand able.bounds) (All-weaker (TransferStands late core) (AccessStands late core) (λ a h. h.stands) moving transfers);
        copied = All-append (λ (a : AccessNets). CopyFits late a.copy) accesses moving copied (All-weaker (TransferStands late core) (λ (a : AccessNets). CopyFits late a.copy) (λ a h. h.copied) moving transfers);
        queued = All-append (QueuedStands late core) accesses moving queued (All-weaker (TransferStands late core) (QueuedStands late core) (λ a h. h.queued) moving transfers);
        reads = all_asked;
      };
      within =
          All-append (λ (a : AccessNets). a.mem < length core.mems) accesses moving (λ k d l. (of_core k d l).on_chip) (All-weaker (TransferStands late core) (λ (a : AccessNets). a.mem < length core.mems) (λ a h. h.within) moving transfers);
      owners_stand = owners_later mid late core owners moved.grows own;
      owners_copied = copies_later mid late owners moved.grows owned;
      arrays_stand = stay old late core plan arrays in_turn.grows (λ net there. in_turn.still_open net (are_open old core plan arrays banks net there) (λ c. apart net c there)) banks;
      awaiting = λ net there. in_turn.are_open net (subst (λ ns. Contains ns net) all_same there);
      rise = subst (Rise 0) (sym all_same) (lower 0 (length old.promised) (answers_in acted ++ answer_nets moving) (omega arith) in_turn.rise);
    }

  module _ (new : Draft) (f : Fills late new (answer_nets (accesses ++ moving) ++ wires_in arrays)) where
    pub filled : Fills old new (unit_wires_in units ++ wires_in arrays)
    filled = driven_behind old late new (unit_wires_in units) (answers_in acted ++ answer_nets moving) (wires_in arrays) in_turn (subst (λ ns. Fills late new (ns ++ wires_in arrays)) all_same f)

    pub circuit : (child : Child) (words : List ℕ) → ((s : Signals) (run : RunsOn s late.cells) → TreeRuns core plan run.setting s child acted copies owners units moving) → ((s : Signals) → RunsOn s new.cells → RunMemories core plan s (accesses ++ moving) owners arguments words)
        → (s : Signals) (run : RunsOn s new.cells) → RunsWithUnits core plan run.setting s child arguments words units
    circuit child words tree memories s run =
        let q = earlier late new s f.grows run in
        let t = subst (λ g. TreeRuns core plan g s child acted copies owners units moving) q.1 (tree s q.0) in
        record {
          circuit = record {
            circuit = t.circuit;
            acted = acted;
            copies = copies;
            owners = owners;
            accesses = accesses;
            handed = t.handed;
            named = t.named;
            accesses_are = are;
            draft = late;
            stand = stand able.bounds;
            within = λ k d l. (of_core k d l).on_chip;
            queued = queued;
            asked = asked;
            channels = t.has.channels;
            loading = t.writes;
            loads = t.has.loads;
            storing = t.has.storing;
            stores = t.has.stores;
            memories =
                subst (λ xs. RunMemories core plan s xs owners arguments words)
                (ap (λ xs. accesses ++ xs) (t.are ∙ ap (λ xs. t.writes ++ xs) (sym t.has.reads_are)) ∙ sym (append_assoc accesses t.writes (map (λ (x : StoreAccess). x.access) t.has.storing))) (memories s run);
          };
          units_are = t.has.units_are;
        }
