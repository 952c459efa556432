-- The circuits of inner bodies and transfers in their runs.
use Rattle.std.proofs.Common.{◌≡◌, ℕ, ◌+◌, ◌≤◌, List, [], ◌∷◌, ◌++◌, length, Option, refl, sym, ap, subst, ◌∙◌, arith}
use Rattle.std.specs.List.{Contains}
use Rattle.std.proofs.lemmas.List.Elements.{Contains-append_left}
use Rattle.sp_netlist.specs.declared.parts.Child.{Child}
use Rattle.sp_netlist.specs.Draft.{Draft}
use Rattle.sp_netlist.specs.Signals.{Signals}
use Rattle.sp_gates.specs.Runs.{RunsOn}
use Rattle.sp_core.specs.Around.{Around, Near}
use Rattle.sp_core.specs.Events.{inside_at, before, Moment, bounds_moments, spans_moments}
use Rattle.sp_core.specs.History.{History, inner_ran, moved}
use Rattle.sp_core.specs.Invariant.{IsRight}
use Rattle.sp_core.specs.Numbering.{counters_size, number_count}
use Rattle.sp_core.specs.PlainCore.{PlainOp, PlainCounter, PlainSpan, single, range, PlainNode, inner, load, store, PlainCore}
use Rattle.sp_core.specs.Scope.{in_lanes}
use Rattle.sp_fitting.specs.Fitting.{HistoryFits}
use Rattle.sp_counters.specs.declared.part.Count.{Count}
use Rattle.sp_counters.specs.Laws.{AreLoopsAt}
use Rattle.sp_plan.specs.PlainPlan.{PlainPlan}
use Rattle.sp_machine.specs.Stamps.{Stamped, Copies, stamp, stamped, later}
use Rattle.sp_machine.specs.Timeline.{timed}
use Rattle.sp_machine.specs.Transfers.{Delays}
use Rattle.sp_overlap.specs.Whole.{IsTimed}
use Rattle.sp_node_runs.specs.Runs.{Placed, events_of}
use Rattle.sp_node_runs.specs.RunsTold.{all_events}
use Rattle.sp_node_runs.proofs.RunsWeights.{later_both}
use Rattle.sp_node_runs.specs.ControlLaws.{IsStarted}
use Rattle.sp_node_runs.specs.ControlRuns.{rans}
use Rattle.sp_node_runs.proofs.FitsTakes.{took_some}
use Rattle.sp_node_runs.specs.Bodies.{loops_in}
use Rattle.sp_node_runs.specs.BodiesBounds.{IsBoundNet, AreBoundNets, no_bound, two_bounds}
use Rattle.sp_node_runs.specs.BodiesGiven.{Nets, AreStanding}
use Rattle.sp_node_runs.specs.BodiesLaws.{InnerRuns}
use Rattle.sp_node_runs.specs.BodiesSpans.{SpanNets, one_net, two_nets, AreSpanNets, no_span, one_index, one_range, HaveSpans}
use Rattle.sp_node_runs.specs.BodiesTold.{AreAnsweredInTime}
use Rattle.sp_node_runs.proofs.BodiesListed.{mapped_to, mapped_from, joined_to}
use Rattle.sp_tree_runs.specs.BodiesDone.{AllDone}
use Rattle.sp_tree_runs.specs.BodiesScoped.{Scoped, placed}
use Rattle.sp_tree_runs.specs.BodiesScopes.{scopes_of}
use Rattle.sp_tree_circuits.specs.Parts.{DirectNet, BoundCircuits, SpanCircuits}
use Rattle.sp_tree_circuits.specs.Circuits.{Circuit}
use Rattle.sp_tree_circuits.specs.Answers.{EachBound, EachSpan, Answered, TransfersMove, taken_in, SlicesStand}
use Rattle.sp_tree_circuits.specs.Acts.{AreEventsOf, Acts}
use Rattle.sp_tree_circuits.specs.Given.{Laws}
use Rattle.sp_tree_circuits.proofs.Ready.{Ready, answered_in, acts_in}
use Rattle.sp_tree_circuits.proofs.Sides.{done_of, fit_of}

-- moments of one cycle that are moved are those of another cycle
later_stamped : (c : ℕ) (copies : Copies) (ms : List Moment) → later c (stamped copies 0 ms) ≡ stamped copies c ms
later_stamped c copies [] = refl
later_stamped c copies (m ∷ ms) = ap (λ t. stamp copies t m ∷ later c (stamped copies 0 ms)) {x = c + 0} {y = c} (omega arith) ∙ ap (λ xs. stamp copies c m ∷ xs) (later_stamped c copies ms)

-- what a run takes in its first cycle happens in it
pub taken_first : (c : ℕ) (copies : Copies) (ms : List Moment) (rest : List Stamped) (x : Stamped) → Contains (stamped copies c ms) x → Contains (later c (stamped copies 0 ms ++ rest)) x
taken_first c copies ms rest x h =
    subst (λ xs. Contains xs x) (sym (later_both c (stamped copies 0 ms) rest)) (Contains-append_left (later c (stamped copies 0 ms)) (later c rest) x (subst (λ xs. Contains xs x) (sym (later_stamped c copies ms)) h))

module _ (core : PlainCore) (plan : PlainPlan) (delays : Delays) (laws : Laws core plan delays) (s : Signals) (events : List Stamped) (last t : ℕ) (le : t ≤ last) (near : List Near) (env : Nets) where
  module _ (part : List Stamped) (m few : ℕ) (told : AreEventsOf events part m few) (draft : Draft) where
    bound_net : (n : ℕ) (ops : List PlainOp) (net : ℕ) (w : DirectNet core plan s near env draft ops net) → AreAnsweredInTime s events last n ops w.ps → IsBoundNet s draft part t near env n ops net
    bound_net n ops net w answered = record {
      ps = w.ps;
      timed = w.timed;
      given = w.given;
      directly = w.directly;
      place = w.place;
      is_last = w.is_last;
      gives = w.gives;
      word = w.word;
      answered = answered_in core plan delays s events part m few told last t n ops w.ps le answered;
    }

    -- as the laws of bounds and of slices ask for them
    pub bound_nets : (n : ℕ) (counters : List PlainCounter) (counts : List Count) (w : BoundCircuits core plan s near env draft counters counts) → EachBound core plan s (AreAnsweredInTime s events last) near env draft n counters counts w → AreBoundNets s draft part t near env n counters counts
    bound_nets n [] [] w answered = no_bound
    bound_nets n [] (count ∷ counts) w answered = elim w [ ]
    bound_nets n (c ∷ counters) [] w answered = elim w [ ]
    bound_nets n (c ∷ counters) (count ∷ counts) w answered =
        two_bounds (bound_net n c.from count.from w.0.from answered.0) (bound_net (n + length c.from) c.until count.until w.0.until answered.1) w.0.by w.0.par w.0.goes_on (bound_nets (n + (length c.from + length c.until)) counters counts w.1 answered.2)

    span_nets : (n : ℕ) (spans : List PlainSpan) (nets : List SpanNets) (w : SpanCircuits core plan s near env draft spans nets) → EachSpan core plan s (AreAnsweredInTime s events last) near env draft n spans nets w → AreSpanNets s draft part t near env n spans nets
    span_nets n [] [] w answered = no_span
    span_nets n [] (net ∷ nets) w answered = elim w [ ]
    span_nets n (single ops ∷ spans) [] w answered = elim w [ ]
    span_nets n (single ops ∷ spans) (two_nets from until ∷ nets) w answered = elim w [ ]
    span_nets n (single ops ∷ spans) (one_net net ∷ nets) w answered = one_index (bound_net n ops net w.0 answered.0) (span_nets (n + length ops) spans nets w.1 answered.1)
    span_nets n (range a b ∷ spans) [] w answered = elim w [ ]
    span_nets n (range a b ∷ spans) (one_net net ∷ nets) w answered = elim w [ ]
    span_nets n (range a b ∷ spans) (two_nets from until ∷ nets) w answered =
        one_range (bound_net n a from w.0 answered.0) (bound_net (n + length a) b until w.1 answered.1) (span_nets (n + (length a + length b)) spans nets w.2 answered.2)

  -- what stands around a run stands in its first cycle
  pub stands_first : (node : PlainNode) (k n : ℕ) (qs : List Scoped) → IsTimed node → Ready core plan delays s events node near env k n qs t → (q : Scoped) → Contains qs q → q.run.cycle ≤ t → AreStanding s q.run.cycle near env q.scope
  stands_first node k n qs is ready q c l =
      let some = took_some core plan delays node k n q.run.standing q.run.copies q.run.history is (fit_of core plan delays node qs ready.did.fits q c) in
      ready.stand q q.run.cycle c (omega arith) (omega (arith, some)) l

  pub happens_in : (node : PlainNode) (k n : ℕ) (qs : List Scoped) (q : Scoped) → Contains qs q → (x : Stamped) → Contains (events_of core plan delays node k n q.run) x → Contains (all_events core plan delays node k n (placed qs)) x
  happens_in node k n qs q c x h = joined_to (events_of core plan delays node k n) (placed qs) q.run x (mapped_to (λ (y : Scoped). y.run) qs q c) h

  module _ (k n : ℕ) (counters : List PlainCounter) (owned : List ℕ) (ops : List PlainOp) (comb : Option ℕ) (around : Around) (earlier : List ℕ) (right : IsRight core around earlier (inner counters owned ops comb)) (qs : List Scoped)
      (ready : Ready core plan delays s events (inner counters owned ops comb) near env k n qs t) where
    abbrev whole : PlainNode
    whole = inner counters owned ops comb

    abbrev own : List Stamped
    own = all_events core plan delays whole k n (placed qs)

    one_loops : (draft : Draft) → RunsOn s draft.cells → (counts : List Count) → AreBoundNets s draft own t near env n counters counts → (q : Scoped) (h : History) → AllDone in_lanes whole q.scope h → HistoryFits core whole h
        → ((x : Stamped) → Contains (events_of core plan delays whole k n (record q.run { history = h })) x → Contains own x) → AreStanding s q.run.cycle near env q.scope → q.run.cycle ≤ t → AreLoopsAt s q.run.cycle counts (loops_in counters h)
    unfolding timed
    one_loops draft runs_on counts nets q (inner_ran bs counts_had groups) done fits sub stand l =
        laws.bounds s draft own t near env n counters counts q.scope (inside_at q.run.standing k before []) q.run.copies bs q.run.cycle runs_on l nets (laws.done.bounds around earlier counters owned ops comb q.scope bs counts_had groups right fits done) stand
        (λ x h. sub x (taken_first q.run.cycle q.run.copies (bounds_moments n (inside_at q.run.standing k before []) counters bs) _ x h))
    one_loops draft runs_on counts nets q h done fits sub stand l = elim done [ ]

    pub inner_loops : (draft : Draft) → RunsOn s draft.cells → (counts : List Count) → AreBoundNets s draft own t near env n counters counts → (r : Placed) → Contains (placed qs) r → r.cycle ≤ t → AreLoopsAt s r.cycle counts (loops_in counters r.history)
    inner_loops draft runs_on counts nets r c l =
        let x = mapped_from (λ (q : Scoped). q.run) qs r c in
        subst (λ (r : Placed). r.cycle ≤ t → AreLoopsAt s r.cycle counts (loops_in counters r.history)) x.2
        (λ l. one_loops draft runs_on counts nets x.0 x.0.run.history (done_of whole qs ready.did.done x.0 x.1) (fit_of core plan delays whole qs ready.did.fits x.0 x.1) (λ y h. happens_in whole k n qs x.0 x.1 y h) (stands_first whole k n qs tt ready x.0 x.1 l) l) l

    pub inner_runs : InnerRuns core plan delays s t k n counters owned ops comb near env (scopes_of qs) (placed qs)
    inner_runs = laws.inners s t k n counters owned ops comb near env around earlier ready.from ready.until qs right ready.did.done ready.did.fits ready.did.in_turn (λ q u c a b l. ready.stand q u c (omega (arith, a)) b l)

  -- an inner body
  pub inner_acts : (k n : ℕ) (counters : List PlainCounter) (owned : List ℕ) (ops : List PlainOp) (comb : Option ℕ) (around : Around) (earlier : List ℕ) (right : IsRight core around earlier (inner counters owned ops comb)) (qs : List Scoped)
      (ready : Ready core plan delays s events (inner counters owned ops comb) near env k n qs t) (c : Child) (w : Circuit core plan s (inner counters owned ops comb) near env k c) → Answered core plan s events last (inner counters owned ops comb) near env k n c w
      → IsStarted s c.start (rans core plan delays (inner counters owned ops comb) k n (placed qs)) t → Acts core plan delays s events t (inner counters owned ops comb) near env k n qs c w
  inner_acts k n [] owned ops comb around earlier right qs ready c w answered started =
      let g = laws.single s w.draft c.start w.ps w.issue c.done t k n owned ops comb near env (scopes_of qs) (placed qs) w.runs_on w.issued.issues w.paced w.timed w.issued.given (inner_runs k n [] owned ops comb around earlier right qs ready)
      (answered_in core plan delays s events (all_events core plan delays (inner [] owned ops comb) k n (placed qs)) n (number_count (inner [] owned ops comb)) ready.told last t (n + counters_size []) ops w.ps le answered.0) t (omega arith) started in (
        record { starts = started; ends = g.ends },
        λ i op p enable operands at touches is acts. acts_in core plan delays s events (all_events core plan delays (inner [] owned ops comb) k n (placed qs)) n (number_count (inner [] owned ops comb)) ready.told t (n + counters_size [] + i) op.kind enable operands (omega arith)
            (let b = at.within in omega (arith, b)) (g.acts i op p enable operands at touches is acts),
      )
  inner_acts k n (x ∷ counters) owned ops comb around earlier right qs ready c w answered started =
      let v = w.issued in
      let nets = bound_nets (all_events core plan delays (inner (x ∷ counters) owned ops comb) k n (placed qs)) n (number_count (inner (x ∷ counters) owned ops comb)) ready.told v.draft n (x ∷ counters) v.part.counters.items v.bounds answered.1 in
      let g = laws.counted s w.draft v.part v.nets w.ps w.issue c.done t k n (x ∷ counters) owned ops comb near env (scopes_of qs) (placed qs) w.runs_on v.counts v.issues w.paced w.timed v.given v.lanes
      (inner_runs k n (x ∷ counters) owned ops comb around earlier right qs ready) (inner_loops k n (x ∷ counters) owned ops comb around earlier right qs ready v.draft v.runs_on v.part.counters.items nets)
      (answered_in core plan delays s events (all_events core plan delays (inner (x ∷ counters) owned ops comb) k n (placed qs)) n (number_count (inner (x ∷ counters) owned ops comb)) ready.told last t (n + counters_size (x ∷ counters)) ops w.ps le answered.0) t (omega arith)
      (subst (λ net. IsStarted s net (rans core plan delays (inner (x ∷ counters) owned ops comb) k n (placed qs)) t) (sym v.start) started) in (
        record { starts = started; ends = g.ends },
        λ i op p enable operands at touches is acts. acts_in core plan delays s events (all_events core plan delays (inner (x ∷ counters) owned ops comb) k n (placed qs)) n (number_count (inner (x ∷ counters) owned ops comb)) ready.told t (n + counters_size (x ∷ counters) + i) op.kind enable operands
            (omega arith) (let b = at.within in omega (arith, b)) (g.acts i op p enable operands at touches is acts),
      )

  -- the slices of transfers stand where these are started
  module _ (k n r m : ℕ) (spans : List PlainSpan) (around : Around) (earlier : List ℕ) (qs : List Scoped) where
    one_slice : (draft : Draft) → RunsOn s draft.cells → (nets : List SpanNets) (part : List Stamped) → AreSpanNets s draft part t near env n spans nets → (q : Scoped) (h : History) → IsRight core around earlier (load r m spans) → AllDone in_lanes (load r m spans) q.scope h → HistoryFits core (load r m spans) h
        → ((x : Stamped) → Contains (events_of core plan delays (load r m spans) k n (record q.run { history = h })) x → Contains part x) → AreStanding s q.run.cycle near env q.scope → q.run.cycle ≤ t → HaveSpans s q.run.cycle nets (taken_in h)
    unfolding timed
    one_slice draft runs_on nets part are q (moved ts ws) right done fits sub stand l =
        laws.spans s draft part t near env n spans nets q.scope q.run.standing q.run.copies ts q.run.cycle runs_on l are (laws.done.loads around earlier r m spans q.scope ts ws right fits done) stand (λ x h. sub x (taken_first q.run.cycle q.run.copies (spans_moments n q.run.standing spans ts) _ x h))
    one_slice draft runs_on nets part are q h right done fits sub stand l = elim done [ ]

    one_store : (draft : Draft) → RunsOn s draft.cells → (nets : List SpanNets) (part : List Stamped) → AreSpanNets s draft part t near env n spans nets → (q : Scoped) (h : History) → IsRight core around earlier (store r m spans) → AllDone in_lanes (store r m spans) q.scope h → HistoryFits core (store r m spans) h
        → ((x : Stamped) → Contains (events_of core plan delays (store r m spans) k n (record q.run { history = h })) x → Contains part x) → AreStanding s q.run.cycle near env q.scope → q.run.cycle ≤ t → HaveSpans s q.run.cycle nets (taken_in h)
    unfolding timed
    one_store draft runs_on nets part are q (moved ts ws) right done fits sub stand l =
        laws.spans s draft part t near env n spans nets q.scope q.run.standing q.run.copies ts q.run.cycle runs_on l are (laws.done.stores around earlier r m spans q.scope ts ws right fits done) stand (λ x h. sub x (taken_first q.run.cycle q.run.copies (spans_moments n q.run.standing spans ts) _ x h))
    one_store draft runs_on nets part are q h right done fits sub stand l = elim done [ ]

    pub load_acts : IsRight core around earlier (load r m spans) → Ready core plan delays s events (load r m spans) near env k n qs t → (c : Child) (w : Circuit core plan s (load r m spans) near env k c) → Answered core plan s events last (load r m spans) near env k n c w
        → TransfersMove core plan delays s last (load r m spans) near env k n qs c w → IsStarted s c.start (rans core plan delays (load r m spans) k n (placed qs)) t → Acts core plan delays s events t (load r m spans) near env k n qs c w
    load_acts right ready c w answered move started = (record { starts = started; ends = move t le started stands }, stands)
      where
        stands : SlicesStand core plan delays s qs w.nets t
        stands q there l =
            one_slice w.draft w.runs_on w.nets (all_events core plan delays (load r m spans) k n (placed qs))
            (span_nets (all_events core plan delays (load r m spans) k n (placed qs)) n (number_count (load r m spans)) ready.told w.draft n spans w.nets w.ends answered) q q.run.history right (done_of (load r m spans) qs ready.did.done q there)
            (fit_of core plan delays (load r m spans) qs ready.did.fits q there) (λ x h. happens_in (load r m spans) k n qs q there x h) (stands_first (load r m spans) k n qs tt ready q there l) l

    pub store_acts : IsRight core around earlier (store r m spans) → Ready core plan delays s events (store r m spans) near env k n qs t → (c : Child) (w : Circuit core plan s (store r m spans) near env k c) → Answered core plan s events last (store r m spans) near env k n c w
        → TransfersMove core plan delays s last (store r m spans) near env k n qs c w → IsStarted s c.start (rans core plan delays (store r m spans) k n (placed qs)) t → Acts core plan delays s events t (store r m spans) near env k n qs c w
    store_acts right ready c w answered move started = (record { starts = started; ends = move t le started stands }, stands)
      where
        stands : SlicesStand core plan delays s qs w.nets t
        stands q there l =
            one_store w.draft w.runs_on w.nets (all_events core plan delays (store r m spans) k n (placed qs))
            (span_nets (all_events core plan delays (store r m spans) k n (placed qs)) n (number_count (store r m spans)) ready.told w.draft n spans w.nets w.ends answered) q q.run.history right (done_of (store r m spans) qs ready.did.done q there)
            (fit_of core plan delays (store r m spans) qs ready.did.fits q there) (λ x h. happens_in (store r m spans) k n qs q there x h) (stands_first (store r m spans) k n qs tt ready q there l) l
