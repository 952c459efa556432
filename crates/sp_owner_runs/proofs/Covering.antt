-- By their nets the operations and loads in the circuit of a tree name the copies of their events: one induction over the tree.
use Rattle.std.proofs.Common.{◌≡◌, ℕ, zero, suc, ◌+◌, ◌-◌, ◌<◌, ◌≤◌, ◌==◌, inl, inr, true, false, List, [], ◌∷◌, ◌++◌, length, map, slice_index_or, Option, None, refl, sym, ap, subst, ◌∙◌, arith}
use Rattle.std.proofs.lemmas.Bool.{and_parts, eqb-true}
use Rattle.std.specs.List.{Contains}
use Rattle.sp_words.specs.declared.kind.Style.{Style}
use Rattle.sp_netlist.specs.declared.parts.Child.{Child}
use Rattle.sp_netlist.specs.Signals.{Signals}
use Rattle.sp_core.specs.Around.{Around, Near, nothing}
use Rattle.sp_core.specs.Events.{Event, Moment, touches, list_moments}
use Rattle.sp_core.specs.History.{History, outer_ran}
use Rattle.sp_core.specs.Invariant.{IsRight, AreRight}
use Rattle.sp_core.specs.Numbering.{counters_size, spans_size, node_count, number_count, number_count_in}
use Rattle.sp_core.specs.PlainCore.{PlainOp, PlainCounter, PlainSpan, PlainNode, PlainStages, inner, outer, fsm, branch, load, store, sparse, no_stage, more_stage, PlainCore}
use Rattle.sp_core.specs.Scope.{in_lanes}
use Rattle.sp_plan.specs.PlainPlan.{PlainPlan, node_plan}
use Rattle.sp_time.specs.Beats.{slot_at}
use Rattle.sp_machine.specs.Stamps.{Stamped, moved as moved_on, in_a_row, list_run}
use Rattle.sp_machine.specs.Timeline.{slots_of, timed}
use Rattle.sp_machine.proofs.Told.{told_list}
use Rattle.sp_machine.specs.Told.{IsKept, AreKept}
use Rattle.sp_machine.specs.Transfers.{Delays}
use Rattle.sp_overlap.specs.Whole.{IsTimed, AreTimed}
use Rattle.sp_mem.specs.Copies.{copy_at}
use Rattle.sp_node_runs.specs.Runs.{Placed, over_at, events_of, list_took}
use Rattle.sp_node_runs.specs.Runs as runs
use Rattle.sp_node_runs.specs.RunsTold.{all_events}
use Rattle.sp_node_runs.specs.BodiesGiven.{Nets}
use Rattle.sp_node_runs.specs.BodiesLaws.{own_near}
use Rattle.sp_node_runs.specs.BodiesLists.{ListRun, list_ran, list_events, all_listed}
use Rattle.sp_node_runs.specs.BodiesTold.{Happens}
use Rattle.sp_node_runs.proofs.BodiesListed.{none_there, mapped_to, mapped_from, joined_from}
use Rattle.sp_tree_runs.specs.BodiesDone.{AllDone}
use Rattle.sp_tree_runs.specs.BodiesScoped.{Scoped, placed, scoped_sides, scoped_bodies, scoped_stages, AllAreDone}
use Rattle.sp_tree_runs.specs.BodiesScopes.{test_list}
use Rattle.sp_tree_runs.specs.BodiesTurns.{start_list, test_lists, next_lists}
use Rattle.sp_tree_circuits.specs.Circuits.{Circuit, StageCircuits}
use Rattle.sp_tree_circuits.specs.Acts.{Acts, StagesAct}
use Rattle.sp_tree_circuits.specs.Laws.{DidRuns, core_run, core_events}
use Rattle.sp_tree_events.specs.CopiesStanding.{CopyNets, AreNumbered, no_numbers, with_numbers}
use Rattle.sp_tree_events.specs.PartsAgreeing.{AgreeIn}
use Rattle.sp_tree_events.specs.ToldItems.{Item, operation, transfer, ListHas, NodeHas, StagesHave}
use Rattle.sp_tree_events.specs.ToldLaws.{Does, IsWithin}
use Rattle.sp_tree_events.proofs.ToldHaving.{IsOf, list_has, node_has}
use Rattle.sp_bank_words.specs.Accesses.{is_read, is_write, is_at}
use Rattle.sp_bank_words.proofs.Filtered.{filter_from}
use Rattle.sp_tree_handed.specs.declared.owners.Keeping.{Keeping}
use Rattle.sp_tree_handed.specs.declared.owners.Renewal.{Renewal}
use Rattle.sp_tree_copies.specs.Naming.{HaveCopies, names_of, bound_names, transfer_names, AreNamed, StagesNamed}
use Rattle.sp_owner_runs.specs.Given.{Laws}
use Rattle.sp_owner_runs.specs.Naming.{IsNamed, NameCopies, TreesNameCopies, InCores, CoresNameCopies, CoresNameLoads, CoresNameStores}
use Rattle.sp_owner_runs.specs.Standing.{StandCopies}
use Rattle.sp_owner_runs.proofs.Bounds.{bounds_agree, of_bound}
use Rattle.sp_owner_runs.proofs.Indexing.{before, behind, both_long, names_long, bounds_long, transfer_long, list_name, bound_name, transfer_name, counters_within, list_low, name_both, name_at, name_in}
use Rattle.sp_owner_runs.proofs.Parts.{sides_did, bodies_did, IsStage, each_stage}
use Rattle.sp_owner_runs.proofs.Sides.{sides_stand, bodies_stand, test_stands}
use Rattle.sp_owner_runs.proofs.Stages.{EachStage}
use Rattle.sp_owner_runs.proofs.Telling.{each_at}
use Rattle.sp_owner_runs.proofs.Turning.{starts_in, tests_there, nexts_there, list_stands}
use Rattle.sp_owner_runs.proofs.Whole.{core_stands}

module _ (core : PlainCore) (plan : PlainPlan) (delays : Delays) (laws : Laws core plan delays) (Of : (number mem : ℕ) → Type 0) (s : Signals) (t : ℕ) where
  -- an event of a list's runs is of one of its operations
  list_item : (n : ℕ) (ops : List PlainOp) (rs : List ListRun) (x u : ℕ) (e : Event) → Happens (all_listed core n ops rs) x u e → (i : Item) × ListHas ops n e.number i × Does core i e
  list_item n ops rs x u e h =
      let r = joined_from (list_events core n ops) rs _ h.there in
      let y = mapped_from (moved_on r.0.cycle) (list_run core r.0.copies n r.0.standing ops r.0.entries).events _ r.2 in
      let at : y.0.moment ≡ touches e = ap (λ (z : Stamped). z.moment) y.2 in
      let there = subst (λ (ms : List Moment). Contains ms y.0.moment) (told_list r.0.copies (in_a_row core ops) 0 n r.0.standing ops r.0.entries) (mapped_to (λ (z : Stamped). z.moment) (list_run core r.0.copies n r.0.standing ops r.0.entries).events y.0 y.1) in
      subst (IsOf core (ListHas ops n)) at (each_at (IsOf core (ListHas ops n)) (list_moments n r.0.standing ops r.0.entries) y.0.moment (list_has core (ListHas ops n) ops r.0.entries n r.0.standing (λ x i q. q)) there)

  -- where numbers stand around its runs, its operations name the copies of their events
  list_covers : (n : ℕ) (ops : List PlainOp) (around : CopyNets) (rs : List ListRun) → ((r : ListRun) (u : ℕ) → Contains rs r → r.cycle ≤ u → u < r.cycle + (list_ran core ops r).took → u ≤ t → AreNumbered s u around r.copies)
      → NameCopies Of s (all_listed core n ops rs) t n (names_of around ops)
  list_covers n ops around rs stand i l u e h late of =
      let x = list_item n ops rs (n + i) u e h in
      ap (copy_at s u) (list_name core around ops n e.number i x.0 e x.1 x.2 h.numbered) ∙ laws.lists_name s t n ops around rs stand (n + i) u e h late

  -- so do those of an inner body
  inner_item : (node : PlainNode) (k n : ℕ) → IsTimed node → (rs : List Placed) (x u : ℕ) (e : Event) → Happens (all_events core plan delays node k n rs) x u e → (i : Item) × NodeHas node n e.number i × Does core i e
  inner_item node k n is rs x u e h =
      let r = joined_from (events_of core plan delays node k n) rs _ h.there in
      let es : List Stamped = (runs.told core plan delays node k n r.0).events in
      let y = mapped_from (moved_on r.0.cycle) es _ r.2 in
      let at : y.0.moment ≡ touches e = ap (λ (z : Stamped). z.moment) y.2 in
      let there = subst (λ (ms : List Moment). Contains ms y.0.moment) (laws.tells_all node k n r.0.standing r.0.copies r.0.history) (mapped_to (λ (z : Stamped). z.moment) es y.0 y.1) in
      subst (IsOf core (NodeHas node n)) at (each_at (IsOf core (NodeHas node n)) _ y.0.moment (node_has core node k n r.0.standing r.0.history is (NodeHas node n) (λ x i q. q)) there)

  inner_name : (around : CopyNets) (counters : List PlainCounter) (owned : List ℕ) (ops : List PlainOp) (comb : Option ℕ) (n x j : ℕ) (i : Item) (e : Event) → NodeHas (inner counters owned ops comb) n x i → Does core i e → x ≡ n + j
      → slice_index_or (bound_names around counters ++ names_of around ops) j None ≡ around e.mem
  inner_name around counters owned ops comb n x j i e (inl h) d at =
      let w = counters_within counters n x i h in
      let l = bounds_long around counters in
      before (bound_names around counters) (names_of around ops) j (omega (arith, w, l, at)) ∙ bound_name core around counters n x j i e h d at
  inner_name around counters owned ops comb n x j i e (inr h) d at =
      let low = list_low ops (n + counters_size counters) x i h in
      let l = bounds_long around counters in
      let j2 : ℕ = x - (n + counters_size counters) in
      let is : x ≡ (n + counters_size counters) + j2 = omega (arith, low) in
      let same : length (bound_names around counters) + j2 ≡ j = omega (arith, l, is, at) in
      ap (λ p. slice_index_or (bound_names around counters ++ names_of around ops) p None) (sym same) ∙ behind (bound_names around counters) (names_of around ops) j2 ∙ list_name core around ops (n + counters_size counters) x j2 i e h d is

  -- in runs without their scopes
  placed_stand : (node : PlainNode) (k n : ℕ) (around : CopyNets) (qs : List Scoped) → StandCopies core plan delays s node k n qs around (suc t) → (r : Placed) (u : ℕ) → Contains (placed qs) r → r.cycle ≤ u → u < over_at core plan delays node k n r → u ≤ t → AreNumbered s u around r.copies
  placed_stand node k n around qs stand r u c low high le =
      let y = mapped_from (λ (q : Scoped). q.run) qs r c in
      subst (λ (r : Placed). r.cycle ≤ u → u < over_at core plan delays node k n r → AreNumbered s u around r.copies) y.2 (λ low high. stand y.0 u y.1 low high (omega (arith, le))) low high

  inner_covers : (k n : ℕ) (counters : List PlainCounter) (owned : List ℕ) (ops : List PlainOp) (comb : Option ℕ) (around : CopyNets) (qs : List Scoped) → IsKept plan k (inner counters owned ops comb) → StandCopies core plan delays s (inner counters owned ops comb) k n qs around (suc t)
      → NameCopies Of s (all_events core plan delays (inner counters owned ops comb) k n (placed qs)) t n (bound_names around counters ++ names_of around ops)
  inner_covers k n counters owned ops comb around qs kept stand i l u e h late of =
      let x = inner_item (inner counters owned ops comb) k n tt (placed qs) (n + i) u e h in
      ap (copy_at s u) (inner_name around counters owned ops comb n e.number i x.0 e x.1 x.2 h.numbered)
      ∙ laws.inners_name s t k n counters owned ops comb around (placed qs) kept (placed_stand (inner counters owned ops comb) k n around qs stand) (n + i) u e h late

  -- those of a load, where of its own number its memory is meant
  load_covers : (k n r m : ℕ) (spans : List PlainSpan) (around : CopyNets) (qs : List Scoped) → ((x q j i : ℕ) → NodeHas (load r m spans) n x (transfer q j) → Of x i → i ≡ j) → StandCopies core plan delays s (load r m spans) k n qs around (suc t)
      → NameCopies Of s (all_events core plan delays (load r m spans) k n (placed qs)) t n (transfer_names around m spans)
  load_covers k n r m spans around qs mine stand i l u e h late of =
      let x = inner_item (load r m spans) k n tt (placed qs) (n + i) u e h in
      ap (copy_at s u) (transfer_name core around r m spans n e.number i x.0 e x.1 x.2 (λ q j has. mine (n + i) q j e.mem (subst (λ y. NodeHas (load r m spans) n y (transfer q j)) h.numbered has) of) h.numbered)
      ∙ laws.loads_name s t k n r m spans around (placed qs) (placed_stand (load r m spans) k n around qs stand) (n + i) u e h late

  -- and those of a store
  store_covers : (k n r m : ℕ) (spans : List PlainSpan) (around : CopyNets) (qs : List Scoped) → ((x q j i : ℕ) → NodeHas (store r m spans) n x (transfer q j) → Of x i → i ≡ j) → StandCopies core plan delays s (store r m spans) k n qs around (suc t)
      → NameCopies Of s (all_events core plan delays (store r m spans) k n (placed qs)) t n (transfer_names around m spans)
  store_covers k n r m spans around qs mine stand i l u e h late of =
      let x = inner_item (store r m spans) k n tt (placed qs) (n + i) u e h in
      ap (copy_at s u) (transfer_name core around r m spans n e.number i x.0 e x.1 x.2 (λ q j has. mine (n + i) q j e.mem (subst (λ y. NodeHas (store r m spans) n y (transfer q j)) h.numbered has) of) h.numbered)
      ∙ laws.stores_name s t k n r m spans around (placed qs) (placed_stand (store r m spans) k n around qs stand) (n + i) u e h late

  -- and the bounds of a loop
  bounds_cover : (k n : ℕ) (counters : List PlainCounter) (style : Style) (owned : List ℕ) (stages : PlainStages) (around : CopyNets) (qs : List Scoped) → IsTimed (outer counters style owned stages) → StandCopies core plan delays s (outer counters style owned stages) k n qs around (suc t)
      → ((q : Scoped) → Contains qs q → q.run.cycle < over_at core plan delays (outer counters style owned stages) k n q.run)
      → NameCopies Of s (all_events core plan delays (outer counters style owned stages) k n (placed qs)) t n (bound_names around counters)
  bounds_cover k n counters style owned stages around qs is stand lasts i l u e h late of =
      let long = bounds_long around counters in
      let a = (bounds_agree core plan delays laws k n counters style owned stages (placed qs) is.1 (n + i) (omega (arith, l, long))).into u e h in
      let f : Event = a.0 in
      let b = of_bound core plan delays laws k n counters style owned stages (placed qs) u f (n + i) a.1 in
      let y = mapped_from (λ (q : Scoped). q.run) qs b.run b.there in
      let at : y.0.run.cycle ≡ u = ap (λ (r : Placed). r.cycle) y.2 ∙ b.cycle in
      let ends = lasts y.0 y.1 in
      ap (copy_at s u) (bound_name core around counters n f.number i b.item f b.has b.does a.1.numbered)
      ∙ stand y.0 u y.1 (omega (arith, at)) (omega (arith, at, ends)) (omega (arith, late)) f.mem ∙ ap (λ (r : Placed). r.copies f.mem) y.2 ∙ b.copied ∙ a.3

  -- runs that did what their operations do take time
  outer_lasts : (k n : ℕ) (counters : List PlainCounter) (style : Style) (owned : List ℕ) (stages : PlainStages) (q : Scoped) (h : History) → AllDone in_lanes (outer counters style owned stages) q.scope h → q.run.cycle < over_at core plan delays (outer counters style owned stages) k n (record q.run { history = h })
  unfolding timed
  outer_lasts k n counters style owned stages q (outer_ran bs counts groups) done = omega arith
  outer_lasts k n counters style owned stages q h done = elim done [ ]

  runs_done : (node : PlainNode) (qs : List Scoped) → AllAreDone node qs → (q : Scoped) → Contains qs q → AllDone in_lanes node q.scope q.run.history
  runs_done node [] h q c = absurd (none_there q c)
  runs_done node (x ∷ qs) h q (zero, l, e) = subst (λ (y : Scoped). AllDone in_lanes node y.scope y.run.history) e h.0
  runs_done node (x ∷ qs) h q (suc i, l, e) = runs_done node qs h.1 q (i, omega (arith, l), e)

  -- of the numbers of transfers their memories are meant
  abbrev Means : ((number : ℕ) → Item → Type 0) → Type 0
  Means Has = (x q m j : ℕ) → Has x (transfer q m) → Of x j → j ≡ m

  module _ (have : HaveCopies core plan) (events : List Stamped) where
    -- as many nets as operations, each of which names the copies of its events
    abbrev Covers : (whole : List Stamped) (first count : ℕ) → List (Option ℕ) → Type 0
    Covers whole first count names = (length names ≡ count) × NameCopies Of s whole t first names

    covers_both : (whole : List Stamped) (n a b : ℕ) (xs ys : List (Option ℕ)) → Covers whole n a xs → Covers whole (n + a) b ys → Covers whole n (a + b) (xs ++ ys)
    covers_both whole n a b xs ys h k =
        let l = h.0 in
        let m = k.0 in
        let all = both_long xs ys in
        (omega (arith, l, m, all), name_both Of s t whole n xs ys h.1 (name_at Of s t whole (n + a) (n + length xs) ys (omega (arith, l)) k.1))

    covers_in : (whole part : List Stamped) (n count : ℕ) (names : List (Option ℕ)) → AgreeIn whole part n (n + count) → Covers part n count names → Covers whole n count names
    covers_in whole part n count names agree h = (let l = h.0 in (l, name_in Of s t whole part n names (λ i low. agree (n + i) (omega arith) (omega (arith, low, l))) h.1))

    covers_at : (whole : List Stamped) (n m a b : ℕ) (names : List (Option ℕ)) → n ≡ m → a ≡ b → Covers whole n a names → Covers whole m b names
    covers_at whole n m a b names e f h = subst (λ x. Covers whole x b names) e (subst (λ x. Covers whole n x names) f h)

    covers_by : (whole : List Stamped) (n count : ℕ) (names others : List (Option ℕ)) → names ≡ others → Covers whole n count others → Covers whole n count names
    covers_by whole n count names others e h = subst (Covers whole n count) (sym e) h

    list_all_covers : (n : ℕ) (ops : List PlainOp) (around : CopyNets) (rs : List ListRun) → ((r : ListRun) (u : ℕ) → Contains rs r → r.cycle ≤ u → u < r.cycle + (list_ran core ops r).took → u ≤ t → AreNumbered s u around r.copies)
        → Covers (all_listed core n ops rs) n (length ops) (names_of around ops)
    list_all_covers n ops around rs stand = (names_long around ops, list_covers n ops around rs stand)

    mutual
      covers : (node : PlainNode) (near : List Near) (env : Nets) (around : Around) (earlier : List ℕ) (k n from until : ℕ) (qs : List Scoped) (c : Child) → IsTimed node → IsRight core around earlier node → DidRuns core plan delays node k n from until qs → IsKept plan k node → Means (NodeHas node n)
          → (w : Circuit core plan s node near env k c) → Acts core plan delays s events t node near env k n qs c w → (copies : CopyNets) (names : List (Option ℕ)) (renewals : List Renewal) (keepings : List Keeping) → AreNamed core plan s node near env k c w copies names renewals keepings
          → StandCopies core plan delays s node k n qs copies (suc t) → Covers (all_events core plan delays node k n (placed qs)) n (number_count node) names
      covers (branch ops first second) near env around earlier k n from until qs c is right did kept mine w goes copies names renewals keepings named stand =
          let whole : List Stamped = all_events core plan delays (branch ops first second) k n (placed qs) in
          let part = sides_did core plan delays laws k n from until ops first second qs did in
          let stands = sides_stand core plan delays laws s k n ops first second qs copies (suc t) stand in
          let one = covers first near env around earlier (suc k) (n + length ops) from until (scoped_sides core plan delays ops k true qs) w.chosen is.0 right.1 part.0 kept.0 (λ x q m j has. mine x q m j (inr (inl has))) w.one goes.2 copies named.one_names named.one_renewed named.one_kept named.first stands.0 in
          let other = covers second near env around _ (suc k + node_count first) (n + (length ops + number_count first)) from until (scoped_sides core plan delays ops k false qs) w.left is.1 right.2 part.1 kept.1 (λ x q m j has. mine x q m j (inr (inr has))) w.other goes.3 copies named.other_names named.other_renewed named.other_kept named.second stands.1 in
          let agree = laws.sides_agree k n ops first second (placed qs) is.0 is.1 in
          let tests = covers_in whole (all_listed core n ops (map (test_list k) qs)) n (length ops) (names_of copies ops) (laws.tests_agree k n ops first second qs is.0 is.1)
          (list_all_covers n ops copies (map (test_list k) qs) (λ r u c low high le. test_stands core plan delays laws s k n ops first second qs copies (suc t) stand (runs_done (branch ops first second) qs did.done) r c u low high (omega (arith, le)))) in
          let firsts = covers_in whole _ (n + length ops) (number_count first) named.one_names
          (subst (λ rs. AgreeIn whole (all_events core plan delays first (suc k) (n + length ops) rs) (n + length ops) (n + length ops + number_count first)) (sym (laws.parts.sides k ops true qs)) agree.0) one in
          let seconds = covers_in whole _ (n + (length ops + number_count first)) (number_count second) named.other_names
          (subst (λ rs. AgreeIn whole (all_events core plan delays second (suc k + node_count first) (n + (length ops + number_count first)) rs) (n + (length ops + number_count first)) (n + (length ops + number_count first) + number_count second)) (sym (laws.parts.sides k ops false qs)) agree.1) other in
          covers_by whole n (number_count (branch ops first second)) names (names_of copies ops ++ (named.one_names ++ named.other_names)) named.names_are
          (covers_at whole n n _ (number_count (branch ops first second)) (names_of copies ops ++ (named.one_names ++ named.other_names)) refl (omega arith)
          (covers_both whole n (length ops) (number_count first + number_count second) (names_of copies ops) (named.one_names ++ named.other_names) tests
          (covers_both whole (n + length ops) (number_count first) (number_count second) named.one_names named.other_names firsts
          (covers_at whole (n + (length ops + number_count first)) (n + length ops + number_count first) (number_count second) (number_count second) named.other_names (omega arith) refl seconds))))
      covers (fsm start state ops node after) near env around earlier k n from until qs c is right did kept mine w goes copies names renewals keepings named stand =
          let whole : List Stamped = all_events core plan delays (fsm start state ops node after) k n (placed qs) in
          let part = bodies_did core plan delays laws k n from until start state ops node after qs did in
          let body = covers node near env _ _ (suc k) (n + (length start + length ops)) from until (scoped_bodies core plan delays start ops after node k n qs) w.body is right.1 part kept (λ x q m j has. mine x q m j (inr (inl has))) w.goes goes.4 copies named.inside renewals named.rest named.body
          (bodies_stand core plan delays laws s k n start state ops node after qs copies (suc t) stand) in
          let lists = laws.lists_agree k n start state ops node after qs is in
          let at_next : ℕ = n + (length start + (length ops + number_count node)) in
          let starts = covers_in whole _ n (length start) (names_of copies start) lists.starts
          (list_all_covers n start copies (map (start_list core plan delays k n start ops node after) qs) (λ r u c low high le. list_stands core plan delays k n start state ops node after qs did.done s copies (suc t) stand start r (starts_in core plan delays k n start state ops node after qs did.done r c) u low high (omega (arith, le)))) in
          let tests = covers_in whole _ (n + length start) (length ops) (names_of copies ops) lists.tests
          (list_all_covers (n + length start) ops copies (test_lists core plan delays k n start ops node after qs) (λ r u c low high le. list_stands core plan delays k n start state ops node after qs did.done s copies (suc t) stand ops r (tests_there core plan delays k n start state ops node after qs did.done r c) u low high (omega (arith, le)))) in
          let nexts = covers_in whole _ at_next (length after) (names_of copies after) lists.nexts
          (list_all_covers at_next after copies (next_lists core plan delays k n start ops node after qs) (λ r u c low high le. list_stands core plan delays k n start state ops node after qs did.done s copies (suc t) stand after r (nexts_there core plan delays k n start state ops node after qs did.done r c) u low high (omega (arith, le)))) in
          let bodies = covers_in whole _ (n + (length start + length ops)) (number_count node) named.inside
          (subst (λ rs. AgreeIn whole (all_events core plan delays node (suc k) (n + (length start + length ops)) rs) (n + (length start + length ops)) (n + (length start + length ops) + number_count node)) (sym (laws.parts.bodies k n start ops node after qs)) (laws.machines_agree k n start state ops node after (placed qs) is)) body in
          covers_by whole n (number_count (fsm start state ops node after)) names (names_of copies start ++ (names_of copies ops ++ (named.inside ++ names_of copies after))) named.names_are
          (covers_at whole n n _ (number_count (fsm start state ops node after)) (names_of copies start ++ (names_of copies ops ++ (named.inside ++ names_of copies after))) refl (omega arith)
          (covers_both whole n (length start) (length ops + (number_count node + length after)) (names_of copies start) (names_of copies ops ++ (named.inside ++ names_of copies after)) starts
          (covers_both whole (n + length start) (length ops) (number_count node + length after) (names_of copies ops) (named.inside ++ names_of copies after) tests
          (covers_both whole (n + length start + length ops) (number_count node) (length after) named.inside (names_of copies after)
          (covers_at whole (n + (length start + length ops)) (n + length start + length ops) (number_count node) (number_count node) named.inside (omega arith) refl bodies)
          (covers_at whole at_next (n + length start + length ops + number_count node) (length after) (length after) (names_of copies after) (omega arith) refl nexts)))))
      covers (outer counters style owned stages) near env around earlier k n from until qs c is right did kept mine w goes copies names renewals keepings named stand =
          let node : PlainNode = outer counters style owned stages in
          let whole : List Stamped = all_events core plan delays node k n (placed qs) in
          let bounds : Covers whole n (counters_size counters) (bound_names copies counters) = (bounds_long copies counters, bounds_cover k n counters style owned stages copies qs is stand (λ q c. outer_lasts k n counters style owned stages q q.run.history (runs_done node qs did.done q c))) in
          let inside = stages_cover stages (own_near counters near) _ _ (suc k) (n + counters_size counters) 0 from until whole _ (λ i. scoped_stages core plan delays counters owned stages k n i qs)
          (λ i. with_numbers copies owned (named.loop.numbers (slot_at (slots_of (node_plan plan k)) i).slot)) w.child is.1 right.1 kept
          (each_stage core plan delays laws s t have near env around earlier k n counters style owned stages from until qs c is right did w copies stand named.loop goes.0.starts goes.1) (λ x q m j has. mine x q m j (inr has)) w.parts goes.2 named.inside named.rest keepings named.stages in
          covers_by whole n (number_count node) names (bound_names copies counters ++ named.inside) named.names_are
          (covers_both whole n (counters_size counters) (number_count_in stages) (bound_names copies counters) named.inside bounds inside)
      covers (inner counters owned ops comb) near env around earlier k n from until qs c is right did kept mine w goes copies names renewals keepings named stand =
          let node : PlainNode = inner counters owned ops comb in
          let whole : List Stamped = all_events core plan delays node k n (placed qs) in
          let a = both_long (bound_names copies counters) (names_of copies ops) in
          let b = bounds_long copies counters in
          let d = names_long copies ops in
          covers_by whole n (number_count node) names (bound_names copies counters ++ names_of copies ops) named.0 (omega (arith, a, b, d), inner_covers k n counters owned ops comb copies qs kept stand)
      covers (load r m spans) near env around earlier k n from until qs c is right did kept mine w goes copies names renewals keepings named stand =
          let whole : List Stamped = all_events core plan delays (load r m spans) k n (placed qs) in
          covers_by whole n (spans_size spans + 1) names (transfer_names copies m spans) named.0 (transfer_long copies m spans, load_covers k n r m spans copies qs mine stand)
      covers (store r m spans) near env around earlier k n from until qs c is right did kept mine w goes copies names renewals keepings named stand =
          let whole : List Stamped = all_events core plan delays (store r m spans) k n (placed qs) in
          covers_by whole n (spans_size spans + 1) names (transfer_names copies m spans) named.0 (transfer_long copies m spans, store_covers k n r m spans copies qs mine stand)
      covers (sparse kind r m places spans count par) near env around earlier k n from until qs c is right did kept mine w goes copies names renewals keepings named stand = elim is [ ]

      stages_cover : (stages : PlainStages) (near : List Near) (around : Around) (earlier : List ℕ) (j n i from until : ℕ) (whole : List Stamped) (nets : (stage : ℕ) → Nets) (qs : (stage : ℕ) → List Scoped) (copies : (stage : ℕ) → CopyNets) (child : (stage : ℕ) → Child) → AreTimed stages → AreRight core around earlier stages → AreKept plan j stages
          → EachStage (IsStage core plan delays laws s t whole from until qs copies) stages j n i → Means (StagesHave stages n) → (w : StageCircuits core plan s stages near j i nets child) → StagesAct core plan delays s events t stages near j n i nets qs child w → (names : List (Option ℕ)) (renewals : List Renewal) (keepings : List Keeping)
          → StagesNamed core plan s stages near j i nets child w copies names renewals keepings → Covers whole n (number_count_in stages) names
      stages_cover no_stage near around earlier j n i from until whole nets qs copies child is right kept each mine w goes names renewals keepings named =
          covers_by whole n 0 names [] named.0 (refl, λ i l. absurd (omega (arith, l)))
      stages_cover (more_stage first final comb node rest) near around earlier j n i from until whole nets qs copies child is right kept each mine w goes names renewals keepings named =
          let one = covers node near (nets i) around earlier j n from until (qs i) (child i) is.0 right.0 each.0.did kept.0 (λ x q m j has. mine x q m j (inl has)) w.0 goes.0 (copies i) named.one_names named.one_renewed named.one_kept named.first each.0.stand in
          let other = stages_cover rest near around _ (j + node_count node) (n + number_count node) (suc i) from until whole nets qs copies child is.1 right.1 kept.1 each.1 (λ x q m j has. mine x q m j (inr has)) w.1 goes.1 named.other_names named.other_renewed named.other_kept named.second in
          covers_by whole n (number_count_in (more_stage first final comb node rest)) names (named.one_names ++ named.other_names) named.names_are
          (covers_both whole n (number_count node) (number_count_in rest) named.one_names named.other_names (covers_in whole _ n (number_count node) named.one_names each.0.agree_at one) other)

pub trees_name_copies : (core : PlainCore) (plan : PlainPlan) (delays : Delays) → Laws core plan delays → TreesNameCopies core plan delays
trees_name_copies core plan delays laws s events node near env around earlier k n from until qs c is right did have kept w copies names renewals keepings named t stand goes =
    covers core plan delays laws (IsNamed node n) s t have events node near env around earlier k n from until qs c is right did kept (λ x q m j has of. of q m has) w goes copies names renewals keepings named stand

module _ (core : PlainCore) (plan : PlainPlan) (delays : Delays) (laws : Laws core plan delays) (named_so : TreesNameCopies core plan delays) where
  -- so it is over the run of the whole core, with each number
  cores_name : InCores core plan delays (λ s events t names. (number u : ℕ) (e : Event) (h : Happens events number u e) → u ≤ t → IsNamed core.root 0 number e.mem → copy_at s u (slice_index_or names number None) ≡ h.copy)
  cores_name s env h c is_core is done fits have kept w names renewals keepings named t goes number u e p late of =
      let a = named_so s (core_events core plan delays h) core.root [] env nothing [] 0 0 0 (over_at core plan delays core.root 0 0 (core_run core plan delays h).run) (core_run core plan delays h ∷ []) c is is_core.nodes
      (record { done = (done, tt); fits = (fits, tt); in_turn = (omega arith, omega arith) }) have kept w no_numbers names renewals keepings named t (core_stands core plan delays s h (suc t)) goes in
      let r = joined_from (events_of core plan delays core.root 0 0) (placed (core_run core plan delays h ∷ [])) _ p.there in
      let es : List Stamped = (runs.told core plan delays core.root 0 0 r.0).events in
      let y = mapped_from (moved_on r.0.cycle) es _ r.2 in
      let at : y.0.moment ≡ touches e = ap (λ (z : Stamped). z.moment) y.2 in
      let there = subst (λ (ms : List Moment). Contains ms y.0.moment) (laws.tells_all core.root 0 0 r.0.standing r.0.copies r.0.history) (mapped_to (λ (z : Stamped). z.moment) es y.0 y.1) in
      let within = subst (IsWithin 0 (0 + number_count core.root)) at (each_at (IsWithin 0 (0 + number_count core.root)) _ y.0.moment (laws.within core.root is 0 0 r.0.standing r.0.history) there) in
      let high = within.1 in
      let l = a.0 in
      let same = p.numbered in
      let zero_on : number ≡ 0 + number = omega arith in
      a.1 number (omega (arith, high, l, same)) u e (record { copy = p.copy; there = p.there; numbered = same ∙ zero_on }) late (subst (λ x. IsNamed core.root 0 x e.mem) zero_on of)

  pub cores_name_copies : CoresNameCopies core plan delays
  cores_name_copies s env h c is_core is done fits have kept w names renewals keepings named t goes number op has u e p late =
      cores_name s env h c is_core is done fits have kept w names renewals keepings named t goes number u e p late
      (λ q m other. absurd (let clash = laws.one core.root 0 number (operation op) (transfer q m) has other in cc (clash)))

  -- the memory of a transfer
  abbrev mem_of : Item → ℕ → ℕ
  mem_of (operation op) d = d
  mem_of (transfer q m) d = m

  pub cores_name_loads : CoresNameLoads core plan delays
  cores_name_loads s env h c is_core is done fits have kept w names renewals keepings named t goes number dram m has u e p late =
      let x = filter_from (λ (y : Stamped). is_at is_write m y.moment) (core_events core plan delays h) (record { cycle = u; copy = p.copy; moment = touches e }) p.there in
      let touched : e.mem ≡ m = eqb-true e.mem m (and_parts (e.mem == m) (is_write e.act) x.1).0 in
      cores_name s env h c is_core is done fits have kept w names renewals keepings named t goes number u e (record { copy = p.copy; there = x.0; numbered = p.numbered }) late
      (λ q j other. touched ∙ ap (λ i. mem_of i 0) (laws.one core.root 0 number (transfer dram m) (transfer q j) has other))

  pub cores_name_stores : CoresNameStores core plan delays
  cores_name_stores s env h c is_core is done fits have kept w names renewals keepings named t goes number dram m has u e p late =
      let x = filter_from (λ (y : Stamped). is_at is_read m y.moment) (core_events core plan delays h) (record { cycle = u; copy = p.copy; moment = touches e }) p.there in
      let touched : e.mem ≡ m = eqb-true e.mem m (and_parts (e.mem == m) (is_read e.act) x.1).0 in
      cores_name s env h c is_core is done fits have kept w names renewals keepings named t goes number u e (record { copy = p.copy; there = x.0; numbered = p.numbered }) late
      (λ q j other. touched ∙ ap (λ i. mem_of i 0) (laws.one core.root 0 number (transfer dram m) (transfer q j) has other))
