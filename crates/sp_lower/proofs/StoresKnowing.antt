-- What is known before a core's stores are emitted, and of what is driven and reserved in turn.
use Rattle.std.proofs.Common.{◌≡◌, ℕ, suc, ◌+◌, ◌==◌, nat_lt, true, ◌&&◌, ◌||◌, if◌then◌else◌, inl, inr, List, [], ◌∷◌, ◌++◌, length, Contains, All, refl, ap, subst, sym, ◌∙◌, arith}
use Rattle.std.specs.List.{AllZip}
use Rattle.std.proofs.lemmas.Bool.{and_parts, false≢true}
use Rattle.std.proofs.lemmas.List.Elements.{All-nil, All-cons, All-head, All-tail, All-append, Contains-append_left, Contains-append_right, Contains-append_cases}
use Rattle.sp_words.specs.declared.kind.Kind.{Kind}
use Rattle.sp_words.specs.declared.kind.Kind.TheVariants.{Reg, Sram, Fifo, LineBuf, Dram, ArgIn, ArgOut}
use Rattle.sp_netlist.specs.Draft.{Draft}
use Rattle.sp_gates.specs.Grows.{Grows, Fills}
use Rattle.sp_gates.specs.Nets.{IsOpen}
use Rattle.sp_gates.proofs.Growing.{Grows-join, more_gates}
use Rattle.sp_core.specs.Around.{Around, within, nothing, is_usable, is_port_kind}
use Rattle.sp_core.specs.Declarations.{mem, dram, kind_of, is_among}
use Rattle.sp_core.specs.Invariant.{owned_in, IsRight, AreRight, IsCore}
use Rattle.sp_core.specs.NodeRules.{with_state, is_node_right, is_owned_once, owned_by, is_slice_right, is_sram, is_sram_here, fits_sram, range_count}
use Rattle.sp_core.specs.Numbering.{node_count, number_count, counters_size}
use Rattle.sp_core.specs.PlainCore.{PlainSpan, PlainNode, PlainStages, inner, outer, fsm, branch, load, store, sparse, no_stage, more_stage, PlainCore}
use Rattle.sp_core.specs.Typed.{is_type}
use Rattle.sp_op_nets.specs.Reserved.{Reserves}
use Rattle.sp_op_nets.proofs.Giving.{above}
use Rattle.sp_tree_handed.specs.declared.moves.Direction.TheVariants.{Load as Inward, Store as Outward}
use Rattle.sp_tree_handed.specs.declared.moves.TreeMove.{TreeMove}
use Rattle.sp_tree_handed.specs.declared.transfers.CoreTransfer.{CoreTransfer}
use Rattle.sp_tree_handed.specs.Moves.{slices_in, AreMovesStanding}
use Rattle.sp_tree_handed.specs.Transfers.{transfers_in, transfers_in_stages}
use Rattle.sp_lower.specs.LoadsParts.{AreSlicesStanding, wires_of}
use Rattle.sp_lower.proofs.LoadsAdding.{stand_alone}
use Rattle.sp_lower.proofs.LoadsSlices.{slices_stand}
use Rattle.sp_load_units.specs.declared.unit.TransferUnit.{TransferUnit}
use Rattle.sp_load_units.specs.Units.{unit_wires, UnitStands, UnitsStand}
use Rattle.sp_load_units.specs.Walks.{UnitStandsAlone}
use Rattle.sp_load_units.proofs.Standing.{none_in, unit_stays}
use Rattle.sp_lower.specs.StoresParts.{DrivesAndReserves, ReadsSram, StoreUnitStands, store_wires_in}

sram_of : (k : Kind) → is_sram k ≡ true → k ≡ Sram
sram_of Sram e = refl
sram_of Reg e = absurd (false≢true e)
sram_of Fifo e = absurd (false≢true e)
sram_of LineBuf e = absurd (false≢true e)
sram_of Dram e = absurd (false≢true e)
sram_of ArgIn e = absurd (false≢true e)
sram_of ArgOut e = absurd (false≢true e)

no_load : Inward ≡ Outward → ⊥
no_load e = absurd (cc (e))

-- a transfer that stores reads an SRAM
abbrev FromSram : PlainCore → CoreTransfer → Type 0
FromSram core x = x.direction ≡ Outward → kind_of core x.mem ≡ Sram

module _ (core : PlainCore) where
  store_reads : (around : Around) (earlier : List ℕ) (r m : ℕ) (spans : List PlainSpan) → IsRight core around earlier (store r m spans) → kind_of core m ≡ Sram
  store_reads around earlier r m spans right =
      let here = and_parts (is_node_right core around (store r m spans)) (is_owned_once core earlier (owned_by core (store r m spans))) right in
      let fits = and_parts (is_slice_right core around r spans) (fits_sram core around r m spans) here.0 in
      let sram = and_parts (is_sram_here core around r m) (range_count spans == length (mem core m).dims) fits.1 in
      let typed = and_parts (is_usable core around m && is_sram (mem core m).kind) (is_type (mem core m).ty (dram core r).ty) sram.0 in
      let usable = and_parts (is_usable core around m) (is_sram (mem core m).kind) typed.0 in
      let chip = and_parts (nat_lt m (length core.mems)) (is_port_kind (mem core m).kind || is_among m around.owned) usable.0 in
      ap (λ b. if b then (mem core m).kind else Dram) chip.0 ∙ sram_of (mem core m).kind usable.1

  mutual
    of_part : (around : Around) (earlier : List ℕ) (node : PlainNode) (k n : ℕ) → IsRight core around earlier node → All (FromSram core) (transfers_in node k n)
    of_part around earlier (inner counters owned ops comb) k n h = All-nil (FromSram core)
    of_part around earlier (outer counters style owned stages) k n h = of_stages (within around counters owned) (earlier ++ owned) stages (suc k) (n + counters_size counters) h.1
    of_part around earlier (fsm start state test body next) k n h = of_part (with_state core around state) (earlier ++ state ∷ []) body (suc k) (n + (length start + length test)) h.1
    of_part around earlier (branch test first second) k n h =
        All-append (FromSram core) (transfers_in first (suc k) (n + length test)) (transfers_in second (suc k + node_count first) (n + (length test + number_count first))) (of_part around earlier first (suc k) (n + length test) h.1)
        (of_part around (earlier ++ owned_in first) second (suc k + node_count first) (n + (length test + number_count first)) h.2)
    of_part around earlier (load r m spans) k n h = All-cons (FromSram core) _ [] (λ e. absurd (no_load e)) (All-nil (FromSram core))
    of_part around earlier (store r m spans) k n h = All-cons (FromSram core) _ [] (λ e. store_reads around earlier r m spans h) (All-nil (FromSram core))
    of_part around earlier (sparse kind r m places spans count par) k n h = All-nil (FromSram core)

    of_stages : (around : Around) (earlier : List ℕ) (stages : PlainStages) (k n : ℕ) → AreRight core around earlier stages → All (FromSram core) (transfers_in_stages stages k n)
    of_stages around earlier no_stage k n h = All-nil (FromSram core)
    of_stages around earlier (more_stage first last comb node rest) k n h =
        All-append (FromSram core) (transfers_in node k n) (transfers_in_stages rest (k + node_count node) (n + number_count node)) (of_part around earlier node k n h.0)
        (of_stages around (earlier ++ owned_in node) rest (k + node_count node) (n + number_count node) h.1)

  of_all : (d : Draft) (transfers : List CoreTransfer) (units : List TransferUnit) → AllZip (UnitStands d core) transfers units → All (FromSram core) transfers → All (ReadsSram core) units
  of_all d [] [] h all = All-nil (ReadsSram core)
  of_all d [] (u ∷ units) h all = absurd h
  of_all d (x ∷ transfers) [] h all = absurd h
  of_all d (x ∷ transfers) (u ∷ units) h all =
      All-cons (ReadsSram core) u units (subst (FromSram core) (sym h.0.transfer_is) (All-head (FromSram core) x transfers all)) (of_all d transfers units h.1 (All-tail (FromSram core) x transfers all))

pub read_srams : (d : Draft) (core : PlainCore) (units : List TransferUnit) → IsCore core → UnitsStand d core units → All (ReadsSram core) units
read_srams d core units is h = of_all core d (transfers_in core.root 0 0) units h (of_part core nothing [] core.root 0 0 is.nodes)

stand_so : (d : Draft) (core : PlainCore) (units : List TransferUnit) → All (UnitStandsAlone d core) units → All (StoreUnitStands d core) units
stand_so d core [] h = All-nil (StoreUnitStands d core)
stand_so d core (u ∷ units) h = All-cons (StoreUnitStands d core) u units (λ e. All-head (UnitStandsAlone d core) u units h) (stand_so d core units (All-tail (UnitStandsAlone d core) u units h))

pub all_stand : (d : Draft) (core : PlainCore) (units : List TransferUnit) → UnitsStand d core units → All (StoreUnitStands d core) units
all_stand d core units h = stand_so d core units (stand_alone d core (transfers_in core.root 0 0) units h)

pub all_stay : (old new : Draft) (core : PlainCore) (units : List TransferUnit) → Grows old new → ((net : ℕ) → Contains (store_wires_in units) net → IsOpen new net) → All (StoreUnitStands old core) units → All (StoreUnitStands new core) units
all_stay old new core [] g still h = All-nil (StoreUnitStands new core)
all_stay old new core (u ∷ units) g still h =
    All-cons (StoreUnitStands new core) u units
    (λ e. unit_stays old new core g u.transfer u (λ net c. still net (Contains-append_left (wires_of Outward u.transfer.direction (unit_wires u)) (store_wires_in units) net (subst (λ way. Contains (wires_of Outward way (unit_wires u)) net) (sym e) c))) (All-head (StoreUnitStands old core) u units h e))
    (all_stay old new core units g (λ net c. still net (Contains-append_right (wires_of Outward u.transfer.direction (unit_wires u)) (store_wires_in units) net c)) (All-tail (StoreUnitStands old core) u units h))

pub of_units : (d : Draft) (core : PlainCore) (units : List TransferUnit) (slices : List TreeMove) → IsCore core → UnitsStand d core units → AreMovesStanding d (slices_in core.root 0) slices → AreSlicesStanding d core units slices
of_units d core units slices is u h = slices_stand core d units slices is u h

pub fills_drive : (old new : Draft) (driven : List ℕ) → Fills old new driven → DrivesAndReserves old new driven []
fills_drive old new driven f = record { grows = f.grows; rise = tt; are_open = λ n k. absurd (none_in n k); still_open = f.still_open; no_other = λ n o out. f.no_other n o; gates = f.gates }

pub reserves_alone : (old new : Draft) (reserved : List ℕ) → Reserves old new reserved → DrivesAndReserves old new [] reserved
reserves_alone old new reserved r = record {
  grows = r.grows;
  rise = r.rise;
  are_open = r.are_open;
  still_open = λ n o out. r.still_open n o;
  no_other = λ n o out. (r.no_other n o out, λ k. none_in n k);
  gates = r.gates;
}

pub driven_behind : (first second third : Draft) (driven reserved more : List ℕ) → DrivesAndReserves first second driven reserved → Fills second third (reserved ++ more) → Fills first third (driven ++ more)
driven_behind first second third driven reserved more f g = record {
  grows = Grows-join first second third f.grows g.grows;
  still_open = λ n o out. g.still_open n (f.still_open n o (λ k. out (Contains-append_left driven more n k))) (λ k. elim (Contains-append_cases reserved more n k) [
    | inl own ↦ let low = o.within in let high = above (length first.promised) reserved n f.rise own in absurd (omega (arith, low, high))
    | inr late ↦ out (Contains-append_right driven more n late)
  ]);
  no_other = λ n o.
      let late = g.no_other n o in
      let early = f.no_other n late.0 (λ k. late.1 (Contains-append_left reserved more n k)) in (
        early.0,
        λ k. elim (Contains-append_cases driven more n k) [
          | inl own ↦ early.1 own
          | inr new ↦ late.1 (Contains-append_right reserved more n new)
        ],
      );
  gates = more_gates first second third f.gates g.gates;
}
