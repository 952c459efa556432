-- Loads that are emitted one after the other.
use Rattle.std.proofs.Common.{◌≡◌, ℕ, zero, suc, ◌-◌, ◌<◌, ◌≤◌, List, [], ◌∷◌, ◌++◌, length, take, drop, slice_index_or, Contains, All, Option, refl, sym, ap, subst, ◌∙◌, arith, append_assoc}
use Rattle.std.proofs.lemmas.List.{append-nil}
use Rattle.std.proofs.lemmas.List.Elements.{All-nil, All-cons, All-head, All-tail, All-append, All-weaker, Contains-append_left, Contains-append_right}
use Rattle.std.specs.List.{AllZip}
use Rattle.sp_netlist.specs.Draft.{Draft}
use Rattle.sp_netlist.specs.Signals.{Setting, Signals}
use Rattle.sp_gates.specs.Grows.{Grows, Fills}
use Rattle.sp_gates.specs.Runs.{RunsOn}
use Rattle.sp_gates.proofs.Growing.{Fills-none, Fills-join, HasNet-stays}
use Rattle.sp_core.specs.PlainCore.{PlainCore}
use Rattle.sp_bound_nets.specs.declared.spans.SpanNet.{SpanNet}
use Rattle.sp_bound_nets.specs.declared.spans.SpanNet.TheVariants.{One, Range}
use Rattle.sp_bound_nets.specs.Spans.{HasEnds}
use Rattle.sp_op_nets.specs.Reserved.{Rise}
use Rattle.sp_op_nets.proofs.Giving.{above}
use Rattle.sp_copy_nets.specs.Numbers.{StandNumbers}
use Rattle.sp_access_nets.specs.declared.access.AccessNets.{AccessNets}
use Rattle.sp_tree_handed.specs.declared.transfers.CoreTransfer.{CoreTransfer}
use Rattle.sp_tree_handed.specs.declared.moves.Direction.{Direction}
use Rattle.sp_tree_handed.specs.declared.moves.Direction.TheVariants.{Load as Inward, Store as Outward}
use Rattle.sp_tree_handed.specs.declared.moves.TreeMove.{TreeMove}
use Rattle.sp_load_units.specs.declared.unit.TransferUnit.{TransferUnit}
use Rattle.sp_load_units.specs.Units.{unit_wires, unit_wires_in, UnitStands}
use Rattle.sp_load_units.specs.Walks.{UnitStandsAlone}
use Rattle.sp_load_units.proofs.Standing.{none_in, unit_is_open, unit_stays}
use Rattle.sp_lower.specs.LoadsParts.{AreSlicesStanding, WriteStands, wires_of, wires_for, AddsWrites}
use Rattle.sp_lower.specs.LoadsRuns.{LoadRun, OneOf, AreLoadRuns}
use Rattle.sp_lower.proofs.LoadsWriting.{write_later}
use Rattle.sp_lower.proofs.LoadsRunning.{run_before}

-- the first one of a list, and the others
abbrev pub others : {A : Type 0} → List A → List A
others xs = take (length xs - 1) (drop 1 xs)

all_taken : {A : Type 0} (xs : List A) (n : ℕ) → n ≡ length xs → take n xs ≡ xs
all_taken [] zero e = refl
all_taken [] (suc n) e = refl
all_taken (x ∷ xs) zero e = absurd (omega (arith, e))
all_taken (x ∷ xs) (suc n) e = ap (λ ys. x ∷ ys) (all_taken xs n (omega (arith, e)))

pub first_is : {A : Type 0} (xs : List A) (x : A) → 1 ≤ length xs → x ≡ slice_index_or xs 0 x → xs ≡ x ∷ others xs
first_is [] x l e = absurd (omega (arith, l))
first_is (y ∷ xs) x l e = ap (λ z. z ∷ xs) (sym e) ∙ ap (λ ys. x ∷ ys) (sym (all_taken xs (length (y ∷ xs) - 1) (omega arith)))

pub none_is : {A : Type 0} (xs : List A) → length xs < 1 → xs ≡ []
none_is [] l = refl
none_is (x ∷ xs) l = absurd (omega (arith, l))

rise_lower : (a b : ℕ) (ns : List ℕ) → a ≤ b → Rise b ns → Rise a ns
rise_lower a b [] l h = tt
rise_lower a b (n ∷ ns) l h = ((let k = h.0 in omega (arith, l, k)), h.1)

pub rise_from_none : (from : ℕ) (ns : List ℕ) → Rise from ns → Rise 0 ns
rise_from_none from ns h = rise_lower 0 from ns (omega arith) h

-- numbers that rise, those before a place and those behind it
rise_front : (from : ℕ) (xs ys : List ℕ) → Rise from (xs ++ ys) → Rise from xs
rise_front from [] ys h = tt
rise_front from (x ∷ xs) ys h = (h.0, rise_front (suc x) xs ys h.1)

rise_back : (from : ℕ) (xs ys : List ℕ) → Rise from (xs ++ ys) → Rise from ys
rise_back from [] ys h = h
rise_back from (x ∷ xs) ys h = rise_lower from (suc x) ys (let l = h.0 in omega (arith, l)) (rise_back (suc x) xs ys h.1)

rise_apart : (from : ℕ) (xs ys : List ℕ) → Rise from (xs ++ ys) → (net : ℕ) → Contains ys net → Contains xs net → ⊥
rise_apart from [] ys h net c own = (let l = own.1 in absurd (omega (arith, l)))
rise_apart from (x ∷ xs) ys h net c (zero, l, is) = (let past = above (suc x) ys net (rise_back (suc x) xs ys h.1) c in absurd (omega (arith, past, is)))
rise_apart from (x ∷ xs) ys h net c (suc k, l, is) = rise_apart (suc x) xs ys h.1 net c (k, omega (arith, l), is)

-- the wires of the first unit, and those of the others
pub own_rise : (unit : TransferUnit) (units : List TransferUnit) → Rise 0 (unit_wires_in (unit ∷ units)) → Rise 0 (unit_wires unit)
own_rise unit units h = rise_front 0 (unit_wires unit) (unit_wires_in units) h

pub later_rise : (unit : TransferUnit) (units : List TransferUnit) → Rise 0 (unit_wires_in (unit ∷ units)) → Rise 0 (unit_wires_in units)
later_rise unit units h = rise_back 0 (unit_wires unit) (unit_wires_in units) h

pub apart : (unit : TransferUnit) (units : List TransferUnit) → Rise 0 (unit_wires_in (unit ∷ units)) → (net : ℕ) → Contains (unit_wires_in units) net → Contains (unit_wires unit) net → ⊥
apart unit units h net c own = rise_apart 0 (unit_wires unit) (unit_wires_in units) h net c own

-- a unit alone has no other wires
own_wires : (way : Direction) (wires : List ℕ) (net : ℕ) → Contains (wires_of Inward way wires ++ []) net → Contains wires net
own_wires Inward wires net c = subst (λ ns. Contains ns net) (append-nil wires) c
own_wires Outward wires net c = absurd (none_in net c)

-- those that come later still stand
pub later_stand : (a b : Draft) (core : PlainCore) (unit : TransferUnit) (units : List TransferUnit) → Fills a b (wires_for Inward (unit ∷ [])) → Rise 0 (unit_wires_in (unit ∷ units)) → All (UnitStandsAlone a core) units → All (UnitStandsAlone b core) units
later_stand a b core unit units f rise h = each units (λ net c own. apart unit units rise net c (own_wires unit.transfer.direction (unit_wires unit) net own)) h
  where
    each : (us : List TransferUnit) → ((net : ℕ) → Contains (unit_wires_in us) net → Contains (wires_for Inward (unit ∷ [])) net → ⊥) → All (UnitStandsAlone a core) us → All (UnitStandsAlone b core) us
    each [] out g = All-nil (UnitStandsAlone b core)
    each (u ∷ us) out g =
        let here = All-head (UnitStandsAlone a core) u us g in
        All-cons (UnitStandsAlone b core) u us
        (unit_stays a b core f.grows u.transfer u (λ net c. f.still_open net (unit_is_open a core u.transfer u here net c) (out net (Contains-append_left (unit_wires u) (unit_wires_in us) net c))) here)
        (each us (λ net c. out net (Contains-append_right (unit_wires u) (unit_wires_in us) net c)) (All-tail (UnitStandsAlone a core) u us g))

pub names_later : (a b : Draft) (names : List (Option ℕ)) → Grows a b → StandNumbers a names → StandNumbers b names
names_later a b names g h = λ net c. HasNet-stays a b net 32 g (h net c)

-- each unit is that of a transfer, so it is that of its own one
pub stand_alone : (d : Draft) (core : PlainCore) (transfers : List CoreTransfer) (units : List TransferUnit) → AllZip (UnitStands d core) transfers units → All (UnitStandsAlone d core) units
stand_alone d core [] [] h = All-nil (UnitStandsAlone d core)
stand_alone d core [] (u ∷ units) h = absurd h
stand_alone d core (x ∷ transfers) [] h = absurd h
stand_alone d core (x ∷ transfers) (u ∷ units) h = All-cons (UnitStandsAlone d core) u units (subst (λ transfer. UnitStands d core transfer u) (sym h.0.transfer_is) h.0) (stand_alone d core transfers units h.1)

-- slices that come later still stand
span_later : (a b : Draft) (net : SpanNet) → Grows a b → HasEnds a net → HasEnds b net
span_later a b (One net) g h = HasNet-stays a b net 32 g h
span_later a b (Range from until) g h = (HasNet-stays a b from 32 g h.0, HasNet-stays a b until 32 g h.1)

pub slices_later : (a b : Draft) (core : PlainCore) (units : List TransferUnit) (slices : List TreeMove) → Grows a b → AreSlicesStanding a core units slices → AreSlicesStanding b core units slices
slices_later a b core [] [] g h = tt
slices_later a b core [] (x ∷ slices) g h = absurd h
slices_later a b core (unit ∷ units) [] g h = absurd h
slices_later a b core (unit ∷ units) (x ∷ slices) g h = (
  record { node = h.0.node; start = HasNet-stays a b x.start 1 g h.0.start; each = h.0.each; nets = All-weaker (HasEnds a) (HasEnds b) (λ net s. span_later a b net g s) x.nets.items h.0.nets },
  slices_later a b core units slices g h.1,
)

-- there are as many as units
pub no_slices : (d : Draft) (core : PlainCore) (units : List TransferUnit) (slices : List TreeMove) → units ≡ [] → AreSlicesStanding d core units slices → slices ≡ []
no_slices d core [] [] e h = refl
no_slices d core [] (x ∷ slices) e h = absurd h
no_slices d core (unit ∷ units) slices e h = (let l = ap (λ (us : List TransferUnit). length us) e in absurd (omega (arith, l)))

pub no_units : (d : Draft) (core : PlainCore) (units : List TransferUnit) (slices : List TreeMove) → slices ≡ [] → AreSlicesStanding d core units slices → units ≡ []
no_units d core [] slices e h = refl
no_units d core (unit ∷ units) [] e h = absurd h
no_units d core (unit ∷ units) (x ∷ slices) e h = (let l = ap (λ (xs : List TreeMove). length xs) e in absurd (omega (arith, l)))

module _ (core : PlainCore) (names : List (Option ℕ)) where
  no_writes : (d : Draft) (before : List AccessNets) → AddsWrites d d core names [] [] before before
  no_writes d before = record { added = []; behind = sym (append-nil before); fills = Fills-none d; stand = All-nil (WriteStands d core); runs = λ s r. tt }

  pub adds_none : (d : Draft) (units : List TransferUnit) (slices : List TreeMove) (before : List AccessNets) → units ≡ [] → slices ≡ [] → AddsWrites d d core names units slices before before
  adds_none d units slices before e f = subst (λ us. AddsWrites d d core names us slices before before) (sym e) (subst (λ xs. AddsWrites d d core names [] xs before before) (sym f) (no_writes d before))

  -- a store is passed
  pub passes_store : (d : Draft) (unit : TransferUnit) (slice : TreeMove) (before : List AccessNets) → unit.transfer.direction ≡ Outward → AddsWrites d d core names (unit ∷ []) (slice ∷ []) before before
  passes_store d unit slice before e = record {
    added = [];
    behind = sym (append-nil before);
    fills = subst (λ way. Fills d d (wires_of Inward way (unit_wires unit) ++ [])) (sym e) (Fills-none d);
    stand = All-nil (WriteStands d core);
    runs = λ s r. subst (λ way. OneOf Inward way (LoadRun core r.setting s names unit slice) (λ more. AreLoadRuns core r.setting s names [] [] more) []) (sym e) tt;
  }

  -- the write of a load is one more access
  pub adds_load : (old new : Draft) (unit : TransferUnit) (slice : TreeMove) (a : AccessNets) (before after : List AccessNets) → unit.transfer.direction ≡ Inward → Fills old new (unit_wires unit) → WriteStands new core a
      → ((s : Signals) → (r : RunsOn s new.cells) → LoadRun core r.setting s names unit slice a) → after ≡ before ++ a ∷ [] → AddsWrites old new core names (unit ∷ []) (slice ∷ []) before after
  adds_load old new unit slice a before after e fills stands runs behind = record {
    added = a ∷ [];
    behind = behind;
    fills = subst (λ way. Fills old new (wires_of Inward way (unit_wires unit) ++ [])) (sym e) (subst (Fills old new) (sym (append-nil (unit_wires unit))) fills);
    stand = All-cons (WriteStands new core) a [] stands (All-nil (WriteStands new core));
    runs = λ s r. subst (λ way. OneOf Inward way (LoadRun core r.setting s names unit slice) (λ more. AreLoadRuns core r.setting s names [] [] more) (a ∷ [])) (sym e) (runs s r, tt);
  }

  one_then : (P : AccessNets → Type 0) (way : Direction) (None Rest : List AccessNets → Type 0) (first later : List AccessNets) → ((xs : List AccessNets) → None xs → xs ≡ []) → OneOf Inward way P None first → Rest later → OneOf Inward way P Rest (first ++ later)
  one_then P Inward None Rest [] later only h k = absurd h
  one_then P Inward None Rest (a ∷ first) later only h k = (h.0, subst (λ xs. Rest (xs ++ later)) (sym (only first h.1)) k)
  one_then P Outward None Rest first later only h k = subst (λ xs. Rest (xs ++ later)) (sym (only first h)) k

  none_more : (g : Setting) (s : Signals) (xs : List AccessNets) → AreLoadRuns core g s names [] [] xs → xs ≡ []
  none_more g s [] h = refl
  none_more g s (x ∷ xs) h = absurd h

  all_later : (mid new : Draft) (accesses : List AccessNets) → Grows mid new → All (WriteStands mid core) accesses → All (WriteStands new core) accesses
  all_later mid new accesses g h = All-weaker (WriteStands mid core) (WriteStands new core) (λ a stands. write_later mid new core a g stands) accesses h

  pub adds_more : (old mid new : Draft) (unit : TransferUnit) (units : List TransferUnit) (slice : TreeMove) (slices : List TreeMove) (before between after : List AccessNets)
      → AddsWrites old mid core names (unit ∷ []) (slice ∷ []) before between → AddsWrites mid new core names units slices between after → AddsWrites old new core names (unit ∷ units) (slice ∷ slices) before after
  adds_more old mid new unit units slice slices before between after f h =
      let own = wires_of Inward unit.transfer.direction (unit_wires unit) in
      record {
        added = f.added ++ h.added;
        behind = h.behind ∙ ap (λ xs. xs ++ h.added) f.behind ∙ append_assoc before f.added h.added;
        fills = Fills-join old mid new own (wires_for Inward units) (subst (Fills old mid) (append-nil own) f.fills) h.fills;
        stand = All-append (WriteStands new core) f.added h.added (all_later mid new f.added h.fills.grows f.stand) h.stand;
        runs = λ s r. one_then (LoadRun core r.setting s names unit slice) unit.transfer.direction (λ more. AreLoadRuns core r.setting s names [] [] more) (λ more. AreLoadRuns core r.setting s names units slices more) f.added h.added (none_more r.setting s) (f.runs s (run_before mid new s h.fills.grows r)) (h.runs s r);
      }

  -- where none came before
  module _ (old new : Draft) (units : List TransferUnit) (slices : List TreeMove) (before after : List AccessNets) (h : AddsWrites old new core names units slices before after) (none : before ≡ []) where
    all_added : after ≡ h.added
    all_added = h.behind ∙ ap (λ xs. xs ++ h.added) none

    pub all_stand : All (WriteStands new core) after
    all_stand = subst (All (WriteStands new core)) (sym all_added) h.stand

    pub all_run : (s : Signals) → (r : RunsOn s new.cells) → AreLoadRuns core r.setting s names units slices after
    all_run s r = subst (AreLoadRuns core r.setting s names units slices) (sym all_added) (h.runs s r)
