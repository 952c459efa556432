-- Of what stands for a core's transfers of one direction, each part of the tree takes its own, in order.
use Rattle.std.proofs.Common.{◌≡◌, ℕ, suc, ◌+◌, true, false, List, [], ◌∷◌, ◌++◌, length, map, drop, slice_index_or, Option, refl, sym, ap, ap₂, subst, ◌∙◌, arith, append_assoc}
use Rattle.std.specs.List.{AllZip}
use Rattle.std.proofs.lemmas.List.{append-nil}
use Rattle.sp_netlist.specs.declared.parts.Child.{Child}
use Rattle.sp_netlist.specs.Draft.{Draft}
use Rattle.sp_netlist.specs.Signals.{Signals}
use Rattle.sp_core.specs.Around.{Near}
use Rattle.sp_core.specs.Numbering.{counters_size, spans_size, node_count, number_count}
use Rattle.sp_core.specs.PlainCore.{PlainSpan, PlainNode, PlainStages, inner, outer, fsm, branch, load, store, sparse, no_stage, more_stage, PlainCore}
use Rattle.sp_plan.specs.PlainPlan.{PlainPlan, node_plan}
use Rattle.sp_time.specs.Beats.{slot_at}
use Rattle.sp_machine.specs.Timeline.{slots_of}
use Rattle.sp_machine.specs.Transfers.{Delays}
use Rattle.sp_node_runs.specs.BodiesGiven.{Nets}
use Rattle.sp_node_runs.specs.BodiesLaws.{own_near}
use Rattle.sp_node_runs.specs.BodiesSpans.{SpanNets}
use Rattle.sp_tree_runs.specs.BodiesScoped.{Scoped, scoped_sides, scoped_bodies, scoped_stages}
use Rattle.sp_tree_circuits.specs.Circuits.{slot_nets, Circuit, StageCircuits}
use Rattle.sp_tree_handed.specs.declared.moves.Direction.{Direction}
use Rattle.sp_tree_handed.specs.declared.moves.Direction.TheVariants.{Load as Inward, Store as Outward}
use Rattle.sp_tree_handed.specs.declared.transfers.CoreTransfer.{CoreTransfer}
use Rattle.sp_tree_handed.specs.declared.moves.TreeMove.{TreeMove}
use Rattle.sp_tree_handed.specs.Transfers.{core_transfer, transfers_in, transfers_in_stages}
use Rattle.sp_tree_handed.specs.Moves.{IsOneMove, AreMoves, StagesMove}
use Rattle.sp_stored_cores.specs.Moves.{OfBoth, OneIf, MovesAre, StagesMoveSo}
use Rattle.sp_load_units.specs.declared.unit.TransferUnit.{TransferUnit}
use Rattle.sp_load_units.specs.Units.{UnitStands}
use Rattle.sp_lower.specs.LoadsRuns.{OneOf, EachOf}

abbrev pub transfers_of : List TransferUnit → List CoreTransfer
transfers_of units = map (λ (unit : TransferUnit). unit.transfer) units

-- what is left of a list when the first of it was taken, if it is of the direction
record Split {E : Type 0} (P : List E → Type 0) (Rest : List E → Type 0) (list : List E) : Type 0 where
  one : List E
  other : List E
  are : list ≡ one ++ other
  is : P one
  rest : Rest other

split_one : {E : Type 0} → (way own : Direction) (P Q : E → Type 0) (Rest : List E → Type 0) → (own ≡ way → (x : E) → P x → Q x) → (list : List E) → OneOf way own P Rest list → Split (OneIf way own Q) Rest list
split_one Inward Inward P Q Rest f [] h = absurd h
split_one Inward Inward P Q Rest f (x ∷ list) h = record { one = x ∷ []; other = list; are = refl; is = record { access = x; are = refl; is = f refl x h.0 }; rest = h.1 }
split_one Inward Outward P Q Rest f list h = record { one = []; other = list; are = refl; is = refl; rest = h }
split_one Outward Inward P Q Rest f list h = record { one = []; other = list; are = refl; is = refl; rest = h }
split_one Outward Outward P Q Rest f [] h = absurd h
split_one Outward Outward P Q Rest f (x ∷ list) h = record { one = x ∷ []; other = list; are = refl; is = record { access = x; are = refl; is = f refl x h.0 }; rest = h.1 }

module _ {E : Type 0} (way : Direction) (Has : TransferUnit → TreeMove → E → Type 0) (core : PlainCore) (plan : PlainPlan) (s : Signals) (ends : List (Option ℕ)) where
  -- what is left when some of them were taken in order
  record Left (P : List E → Type 0) (more : List TreeMove) (list : List E) (transfers : List CoreTransfer) : Type 0 where
    one : List E
    other : List E
    are : list ≡ one ++ other
    is : P one
    left : List TransferUnit
    of_left : transfers_of left ≡ transfers
    each_left : EachOf way Has left more other

  none_taken : (units : List TransferUnit) (slices more : List TreeMove) (list : List E) (transfers : List CoreTransfer) (one : List TreeMove) → one ≡ [] → slices ≡ one ++ more → transfers_of units ≡ transfers → EachOf way Has units slices list
      → Left (λ xs. xs ≡ []) more list transfers
  none_taken units slices more list transfers one none e of h =
      record { one = []; other = list; are = refl; is = refl; left = units; of_left = of; each_left = subst (λ xs. EachOf way Has units xs list) (e ∙ ap (λ xs. xs ++ more) none) h }

  both_taken : (P Q : List E → Type 0) (mid more : List TreeMove) (list : List E) (others transfers : List CoreTransfer) → (x : Left P mid list others) → Left Q more x.other transfers → Left (OfBoth P Q) more list transfers
  both_taken P Q mid more list others transfers x y = record {
    one = x.one ++ y.one;
    other = y.other;
    are = x.are ∙ ap (λ xs. x.one ++ xs) y.are ∙ sym (append_assoc x.one y.one y.other);
    is = record { one = x.one; other = y.one; are = refl; first = x.is; second = y.is };
    left = y.left;
    of_left = y.of_left;
    each_left = y.each_left;
  }

  module _ (delays : Delays) (Stands : (r m : ℕ) (spans : List PlainSpan) (node n : ℕ) → List Scoped → Child → List SpanNets → E → Type 0)
      (stands : (r m k n : ℕ) (spans : List PlainSpan) (qs : List Scoped) (c : Child) (nets : List SpanNets) (one : List TreeMove) (x : IsOneMove ends k c nets one) (unit : TransferUnit) (slice : TreeMove) (a : E)
      → unit.transfer ≡ core_transfer way k (n + spans_size spans) r m → slice ≡ x.move → Has unit slice a → Stands r m spans k n qs c nets a) where
    one_taken : (own : Direction) (r m k n : ℕ) (spans : List PlainSpan) (qs : List Scoped) (c : Child) (nets : List SpanNets) (one : List TreeMove) → IsOneMove ends k c nets one
        → (units : List TransferUnit) (slices more : List TreeMove) (list : List E) (transfers : List CoreTransfer) → slices ≡ one ++ more → transfers_of units ≡ core_transfer own k (n + spans_size spans) r m ∷ transfers → EachOf way Has units slices list
        → Left (OneIf way own (Stands r m spans k n qs c nets)) more list transfers
    one_taken own r m k n spans qs c nets one x units slices more list transfers e of h = cases units slices (e ∙ ap (λ xs. xs ++ more) x.moves_are) of h
      where
        here : (u : TransferUnit) (us : List TransferUnit) (sl : TreeMove) (sls : List TreeMove) → sl ≡ x.move → sls ≡ more → u.transfer ≡ core_transfer own k (n + spans_size spans) r m → transfers_of us ≡ transfers
            → OneOf way u.transfer.direction (Has u sl) (λ rest. EachOf way Has us sls rest) list → Left (OneIf way own (Stands r m spans k n qs c nets)) more list transfers
        here u us sl sls same later is rest h =
            let own_is : u.transfer.direction ≡ own = ap (λ (l : CoreTransfer). l.direction) is in
            let split = split_one way own (Has u sl) (Stands r m spans k n qs c nets) (λ left. EachOf way Has us sls left)
            (λ equal a has. stands r m k n spans qs c nets one x u sl a (is ∙ ap (λ d. core_transfer d k (n + spans_size spans) r m) equal) same has) list
            (subst (λ d. OneOf way d (Has u sl) (λ left. EachOf way Has us sls left) list) own_is h) in
            record { one = split.one; other = split.other; are = split.are; is = split.is; left = us; of_left = rest; each_left = subst (λ xs. EachOf way Has us xs split.other) later split.rest }

        cases : (us : List TransferUnit) (sls : List TreeMove) → sls ≡ x.move ∷ more → transfers_of us ≡ core_transfer own k (n + spans_size spans) r m ∷ transfers → EachOf way Has us sls list → Left (OneIf way own (Stands r m spans k n qs c nets)) more list transfers
        cases [] sls e of h = (let l = ap (λ (xs : List CoreTransfer). length xs) of in absurd (omega (arith, l)))
        cases (u ∷ us) [] e of h = (let l = ap (λ (xs : List TreeMove). length xs) e in absurd (omega (arith, l)))
        cases (u ∷ us) (sl ∷ sls) e of h = here u us sl sls (ap (λ xs. slice_index_or xs 0 sl) e) (ap (drop 1) e) (ap (λ xs. slice_index_or xs 0 u.transfer) of) (ap (drop 1) of) h

    mutual
      taken_in : (node : PlainNode) (near : List Near) (env : Nets) (k n : ℕ) (qs : List Scoped) (c : Child) (w : Circuit core plan s node near env k c) (one : List TreeMove) → AreMoves core plan s ends node near env k c w one
          → (units : List TransferUnit) (slices more : List TreeMove) (list : List E) (transfers : List CoreTransfer) → slices ≡ one ++ more → transfers_of units ≡ transfers_in node k n ++ transfers → EachOf way Has units slices list
          → Left (MovesAre way core plan delays s Stands node near env k n qs c w) more list transfers
      taken_in (branch ops first second) near env k n qs c w one x units slices more list transfers e of h =
          let front = transfers_in first (suc k) (n + length ops) in
          let back = transfers_in second (suc k + node_count first) (n + (length ops + number_count first)) in
          let a = taken_in first near env (suc k) (n + length ops) (scoped_sides core plan delays ops k true qs) w.chosen w.one x.one x.first units slices (x.other ++ more) list (back ++ transfers)
          (e ∙ ap (λ xs. xs ++ more) x.moves_are ∙ append_assoc x.one x.other more) (of ∙ append_assoc front back transfers) h in
          let b = taken_in second near env (suc k + node_count first) (n + (length ops + number_count first)) (scoped_sides core plan delays ops k false qs) w.left w.other x.other x.second a.left (x.other ++ more) more a.other transfers
          refl a.of_left a.each_left in
          both_taken (MovesAre way core plan delays s Stands first near env (suc k) (n + length ops) (scoped_sides core plan delays ops k true qs) w.chosen w.one)
          (MovesAre way core plan delays s Stands second near env (suc k + node_count first) (n + (length ops + number_count first)) (scoped_sides core plan delays ops k false qs) w.left w.other) (x.other ++ more) more list (back ++ transfers) transfers a b
      taken_in (fsm start state ops node after) near env k n qs c w one x units slices more list transfers e of h =
          taken_in node near env (suc k) (n + (length start + length ops)) (scoped_bodies core plan delays start ops after node k n qs) w.body w.goes one x units slices more list transfers e of h
      taken_in (outer counters style owned stages) near env k n qs c w one x units slices more list transfers e of h =
          taken_in_stages stages (own_near counters near) (suc k) (n + counters_size counters) 0 (λ i. slot_nets w.nets w.rows env counters (slot_at (slots_of (node_plan plan k)) i).slot) (λ i. scoped_stages core plan delays counters owned stages k n i qs) w.child w.parts one x units slices more list transfers e of h
      taken_in (inner counters owned ops comb) near env k n qs c w one x units slices more list transfers e of h = none_taken units slices more list transfers one x e of h
      taken_in (load r m spans) near env k n qs c w one x units slices more list transfers e of h = one_taken Inward r m k n spans qs c w.nets one x units slices more list transfers e of h
      taken_in (store r m spans) near env k n qs c w one x units slices more list transfers e of h = one_taken Outward r m k n spans qs c w.nets one x units slices more list transfers e of h
      taken_in (sparse kind r m places spans count par) near env k n qs c w one x units slices more list transfers e of h = absurd x

      taken_in_stages : (stages : PlainStages) (near : List Near) (j n i : ℕ) (nets : (stage : ℕ) → Nets) (qs : (stage : ℕ) → List Scoped) (child : (stage : ℕ) → Child) (w : StageCircuits core plan s stages near j i nets child) (one : List TreeMove) → StagesMove core plan s ends stages near j i nets child w one
          → (units : List TransferUnit) (slices more : List TreeMove) (list : List E) (transfers : List CoreTransfer) → slices ≡ one ++ more → transfers_of units ≡ transfers_in_stages stages j n ++ transfers → EachOf way Has units slices list
          → Left (StagesMoveSo way core plan delays s Stands stages near j n i nets qs child w) more list transfers
      taken_in_stages no_stage near j n i nets qs child w one x units slices more list transfers e of h = none_taken units slices more list transfers one x e of h
      taken_in_stages (more_stage first last comb node rest) near j n i nets qs child w one x units slices more list transfers e of h =
          let front = transfers_in node j n in
          let back = transfers_in_stages rest (j + node_count node) (n + number_count node) in
          let a = taken_in node near (nets i) j n (qs i) (child i) w.0 x.one x.first units slices (x.other ++ more) list (back ++ transfers) (e ∙ ap (λ xs. xs ++ more) x.moves_are ∙ append_assoc x.one x.other more) (of ∙ append_assoc front back transfers) h in
          let b = taken_in_stages rest near (j + node_count node) (n + number_count node) (suc i) nets qs child w.1 x.other x.second a.left (x.other ++ more) more a.other transfers refl a.of_left a.each_left in
          both_taken (MovesAre way core plan delays s Stands node near (nets i) j n (qs i) (child i) w.0) (StagesMoveSo way core plan delays s Stands rest near (j + node_count node) (n + number_count node) (suc i) nets qs child w.1) (x.other ++ more) more list (back ++ transfers) transfers a b

    none_left : (left : List TransferUnit) (other : List E) → transfers_of left ≡ [] → EachOf way Has left [] other → other ≡ []
    none_left [] [] of h = refl
    none_left [] (a ∷ other) of h = absurd h
    none_left (u ∷ left) other of h = (let l = ap (λ (xs : List CoreTransfer). length xs) of in absurd (omega (arith, l)))

    -- in the whole tree nothing is left
    pub all_taken : (env : Nets) (qs : List Scoped) (c : Child) (units : List TransferUnit) (slices : List TreeMove) (list : List E) → transfers_of units ≡ transfers_in core.root 0 0 → (w : Circuit core plan s core.root [] env 0 c) → AreMoves core plan s ends core.root [] env 0 c w slices
        → EachOf way Has units slices list → MovesAre way core plan delays s Stands core.root [] env 0 0 qs c w list
    all_taken env qs c units slices list are w moves each =
        let r = taken_in core.root [] env 0 0 qs c w slices moves units slices [] list [] (sym (append-nil slices)) (are ∙ sym (append-nil (transfers_in core.root 0 0))) each in
        let none = none_left r.left r.other r.of_left r.each_left in
        subst (MovesAre way core plan delays s Stands core.root [] env 0 0 qs c w) (sym (r.are ∙ ap (λ ys. r.one ++ ys) none ∙ append-nil r.one)) r.is

-- units stand transfer by transfer
pub zip_transfers : (d : Draft) (core : PlainCore) (transfers : List CoreTransfer) (units : List TransferUnit) → AllZip (UnitStands d core) transfers units → transfers_of units ≡ transfers
zip_transfers d core [] [] h = refl
zip_transfers d core [] (u ∷ units) h = absurd h
zip_transfers d core (x ∷ transfers) [] h = absurd h
zip_transfers d core (x ∷ transfers) (u ∷ units) h = ap₂ (λ a b. a ∷ b) h.0.transfer_is (zip_transfers d core transfers units h.1)
