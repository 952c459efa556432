-- The bounds of a loop stand where it is started.
use Rattle.std.proofs.Common.{◌≡◌, ℕ, zero, suc, ◌+◌, ◌*◌, ◌<◌, ◌≤◌, ◌^◌, true, ◌&&◌, nat_le, nat_lt, List, [], ◌∷◌, ◌++◌, length, slice_index_or, Option, Some, None, refl, sym, ap, subst, ◌∙◌, arith}
use Rattle.std.specs.List.{Contains, list_all}
use Rattle.std.proofs.lemmas.Bool.{and_parts}
use Rattle.std.proofs.lemmas.List.{map-append}
use Rattle.std.proofs.lemmas.List.Elements.{Contains-append_left, Contains-append_right}
use Rattle.sp_words.specs.declared.kind.Style.{Style}
use Rattle.sp_words.specs.Types.{int_type}
use Rattle.sp_netlist.specs.Draft.{Draft}
use Rattle.sp_netlist.specs.Signals.{Signals}
use Rattle.sp_gates.specs.Runs.{RunsOn}
use Rattle.sp_core.specs.declared.operation.OpKind.TheVariants as kind
use Rattle.sp_core.specs.Around.{Around, Near, lanes_of, within}
use Rattle.sp_core.specs.Elements.{index_value}
use Rattle.sp_core.specs.Events.{Standing, entry_moments, list_moments, bounds_moments}
use Rattle.sp_core.specs.History.{Entry, Bounds, word_at, last_word, Groups, groups_of, inner_ran, outer_ran}
use Rattle.sp_core.specs.Invariant.{IsRight}
use Rattle.sp_core.specs.MemoryRules.{are_memories_right}
use Rattle.sp_core.specs.NodeRules.{are_counters_right, are_lanes_right, is_node_right}
use Rattle.sp_core.specs.Operations.{operations}
use Rattle.sp_core.specs.OperationRules.{are_operations_right, is_word_list, is_early, is_bound, is_counter_right}
use Rattle.sp_core.specs.PlainCore.{PlainOp, PlainCounter, PlainStages, inner, outer, PlainCore}
use Rattle.sp_core.specs.Scope.{Reading, Scope, in_lanes, loops_of, counts_of}
use Rattle.sp_core.specs.Sequential.{bounds as bounds_step, run}
use Rattle.sp_core.specs.Step.{went, in_order}
use Rattle.sp_core.specs.Store.{Store}
use Rattle.sp_fitting.specs.Fitting.{StoreFits}
use Rattle.sp_fitting.specs.Laws.{ListsFit}
use Rattle.sp_fitting.proofs.Lists.{last_fits}
use Rattle.sp_fitting.proofs.Rules.{here_right, word_list_right, counters_right}
use Rattle.sp_hold.proofs.Steps.{bound, was_pure}
use Rattle.sp_counters.specs.declared.part.Count.{Count}
use Rattle.sp_counters.specs.Laws.{AreLoopsAt, no_loop, one_loop}
use Rattle.sp_lane_nets.specs.Laws.{LanesHaveWords}
use Rattle.sp_machine.specs.Stamps.{Stamped, Copies, stamp, stamped, list_stamped}
use Rattle.sp_pipe.specs.declared.part.Act.{Act}
use Rattle.sp_pipe.specs.declared.part.Act.TheVariants as act
use Rattle.sp_pipe.specs.declared.part.PipeOp.{PipeOp}
use Rattle.sp_pipe.specs.Right.{IsAt}
use Rattle.sp_pipe.specs.Values.{time_of}
use Rattle.sp_part_runs.specs.ActsCircuits.{net_of, answer_of, AreAnswered}
use Rattle.sp_part_runs.specs.ActsEntries.{IsOpAt}
use Rattle.sp_part_runs.specs.ActsLaws.{WordsAgree}
use Rattle.sp_part_runs.proofs.ActsIndices.{indices_are_words}
use Rattle.sp_part_runs.proofs.ActsListed.{entries_done}
use Rattle.sp_node_runs.specs.BodiesBounds.{DidBound, DidBounds, IsBoundNet, AreBoundNets, no_bound, two_bounds, BoundsStand, RunsTakeBounds}
use Rattle.sp_node_runs.specs.BodiesGiven.{Nets, AreStanding}
use Rattle.sp_node_runs.specs.BodiesLists.{DidList}
use Rattle.sp_node_runs.proofs.BodiesActing.{answers_touch}
use Rattle.sp_node_runs.proofs.BodiesInnerTold.{some_act, entry_within}
use Rattle.sp_node_runs.proofs.BodiesListed.{op_at, event_at, list_has}
use Rattle.sp_node_runs.proofs.BodiesStanding.{given_stand}

-- the operation of a circuit at a place
pub pipe_at : (ps : List PipeOp) (k : ℕ) → k < length ps → (p : PipeOp) × IsAt ps k p
pipe_at [] k l = absurd (omega (arith, l))
pipe_at (p ∷ ps) zero l = (p, record { within = l; is = λ other. refl })
pipe_at (p ∷ ps) (suc k) l = let r = pipe_at ps k (omega (arith, l)) in (r.0, record { within = l; is = r.1.is })

pub last_is : (es : List Entry) (k : ℕ) → suc k ≡ length es → word_at es k ≡ last_word es
last_is [] k e = absurd (omega (arith, e))
last_is (x ∷ []) zero e = refl
last_is (x ∷ []) (suc k) e = absurd (omega (arith, e))
last_is (x ∷ y ∷ es) zero e = absurd (omega (arith, e))
last_is (x ∷ y ∷ es) (suc k) e = last_is (y ∷ es) k (omega (arith, e))

-- what reads directly stands at once
no_time : (a : Act) (mask : Option ℕ) → answer_of a ≡ 0 → time_of a mask 0 ≡ 0
no_time (act.Read net after) None e = omega (arith, e)
no_time (act.Read net after) (Some m) e = omega (arith, e)
no_time (act.Deq net after) None e = omega (arith, e)
no_time (act.Deq net after) (Some m) e = omega (arith, e)
no_time (act.Given net) None e = refl
no_time (act.Given net) (Some m) e = refl
no_time (act.Word w) None e = refl
no_time (act.Word w) (Some m) e = refl
no_time (act.One op) None e = refl
no_time (act.One op) (Some m) e = refl
no_time (act.Two op) None e = refl
no_time (act.Two op) (Some m) e = refl
no_time (act.Shift left by) None e = refl
no_time (act.Shift left by) (Some m) e = refl
no_time act.Mux None e = refl
no_time act.Mux (Some m) e = refl
no_time (act.Cast to) None e = refl
no_time (act.Cast to) (Some m) e = refl
no_time act.Write None e = refl
no_time act.Write (Some m) e = refl
no_time act.Enq None e = refl
no_time act.Enq (Some m) e = refl
no_time act.Reset None e = refl
no_time act.Reset (Some m) e = refl

-- a list in one cycle
at_once : (copies : Copies) (u i n : ℕ) (st : Standing) (ops : List PlainOp) (es : List Entry) → stamped copies u (list_moments n st ops es) ≡ list_stamped copies (λ j. u) i n st ops es
at_once copies u i n st [] es = refl
at_once copies u i n st (o ∷ ops) [] = refl
at_once copies u i n st (o ∷ ops) (e ∷ es) = map-append (stamp copies u) (entry_moments n st o.kind o.mem e) (list_moments (suc n) st ops es) ∙ ap (λ xs. stamped copies u (entry_moments n st o.kind o.mem e) ++ xs) (at_once copies u (suc i) (suc n) st ops es)

module _ (words : LanesHaveWords) (agree : WordsAgree) (s : Signals) (d : Draft) (events : List Stamped) (last : ℕ) (near : List Near) (env : Nets) (scope : Scope) (st : Standing) (copies : Copies) (u : ℕ) (r : RunsOn s d.cells) (late : u ≤ last)
    (stand : AreStanding s u near env scope) where
  -- the net of a bound has its word
  pub bound_word : (n : ℕ) (ops : List PlainOp) (net : ℕ) (es : List Entry) → IsBoundNet s d events last near env n ops net → DidList scope ops es → ((x : Stamped) → Contains (stamped copies u (list_moments n st ops es)) x → Contains events x) → s.net u net ≡ last_word es
  bound_word n ops net es b did told =
      let each = did.entries.each in
      let many = b.timed.ops_of.each in
      let e = b.is_last in
      let p = pipe_at b.ps b.place (omega (arith, e, many)) in
      let t = b.timed.times b.place p.0 p.1 in
      let z = ap (time_of p.0.act p.0.mask) t ∙ no_time p.0.act p.0.mask (b.directly b.place p.0 p.1) in
      ap (λ v. s.net v net) {x = u} {y = u + 0} (omega arith) ∙ b.word s r u
      ∙ agree d scope ops b.ps es s u u (record { ops_of = b.timed.ops_of; fits = b.timed.fits; entries = did.entries; bits = did.bits; indices = did.indices }) (given_stand words s u near env scope stand ops b.ps b.given) answers b.place p.0 p.1 (b.gives p.0 p.1) (omega (arith, z))
      ∙ last_is es b.place (omega (arith, e, each))
    where
      answers : AreAnswered s u u b.ps es
      answers k p is w at a e over =
          let many = b.timed.ops_of.each in
          let l = at.within in
          let op = slice_index_or ops k (record { kind = kind.Mux; ty = p.ty; args = []; mem = None; mask = None }) in
          let there : IsOpAt ops k op = op_at ops k _ (omega (arith, many, l)) in
          let touch = answers_touch op.kind p.act (b.timed.ops_of.alike k op p there at).kinds a in
          let m = b.timed.memories k op there touch in
          let x = some_act op.kind w touch in
          let h = list_has copies st (λ j. u) 0 n ops es k op is w m.0 x.0 there (entry_within es k is w e) e m.1 x.1 in
          let y = told _ (subst (λ xs. Contains xs (event_at u (copies m.0) (n + k) st m.0 is x.0)) (sym (at_once copies u 0 n st ops es)) h) in
          let t = b.timed.times k p at in
          let z = b.directly k p at in
          subst (λ v. s.net v (net_of p.act) ≡ w) {x = u + answer_of p.act} {y = u + (p.time + answer_of p.act)} (omega (arith, t))
          (b.answered k op p there at a u (record { number = n + k; standing = st; mem = m.0; indices = is; act = x.0 }) (record { copy = copies m.0; there = y; numbered = refl }) (omega (arith, z, late)) w x.1)

  bounds_stand_at : (n : ℕ) (counters : List PlainCounter) (counts : List Count) (bounds : List Bounds) → AreBoundNets s d events last near env n counters counts → DidBounds scope counters bounds
      → ((x : Stamped) → Contains (stamped copies u (bounds_moments n st counters bounds)) x → Contains events x) → AreLoopsAt s u counts (loops_of in_lanes counters bounds)
  bounds_stand_at _ _ _ [] no_bound did told = no_loop
  bounds_stand_at _ _ _ (b ∷ bounds) no_bound did told = elim did [ ]
  bounds_stand_at _ _ _ [] (two_bounds f g by par some rest) did told = elim did [ ]
  bounds_stand_at _ _ _ (b ∷ bounds) (two_bounds {n} {c} {count} {counters} {counts} f g by par some rest) did told =
      let from = bound_word n c.from count.from b.from f did.0.list (λ x h. told x (in_from x h)) in
      let until = bound_word (n + length c.from) c.until count.until b.until g did.1.list (λ x h. told x (in_until x h)) in
      let low = did.0.fits in
      let high = did.1.fits in
      one_loop (record {
        from = ap index_value (sym from);
        until = ap index_value (sym until);
        from_fits = subst (λ w. w < 2 ^ 32) (sym from) low;
        until_fits = subst (λ w. w < 2 ^ 32) (sym until) high;
        by = by;
        advance = ap (λ x. x * c.par) by ∙ ap (λ x. count.by * x) par;
        goes_on = some;
      }) (bounds_stand_at (n + (length c.from + length c.until)) counters counts bounds rest did.2 (λ x h. told x (in_rest x h)))
    where
      split : stamped copies u ((list_moments n st c.from b.from ++ list_moments (n + length c.from) st c.until b.until) ++ bounds_moments (n + (length c.from + length c.until)) st counters bounds)
          ≡ (stamped copies u (list_moments n st c.from b.from) ++ stamped copies u (list_moments (n + length c.from) st c.until b.until)) ++ stamped copies u (bounds_moments (n + (length c.from + length c.until)) st counters bounds)
      split = map-append (stamp copies u) (list_moments n st c.from b.from ++ list_moments (n + length c.from) st c.until b.until) (bounds_moments (n + (length c.from + length c.until)) st counters bounds)
          ∙ ap (λ xs. xs ++ stamped copies u (bounds_moments (n + (length c.from + length c.until)) st counters bounds)) (map-append (stamp copies u) (list_moments n st c.from b.from) (list_moments (n + length c.from) st c.until b.until))

      in_from : (x : Stamped) → Contains (stamped copies u (list_moments n st c.from b.from)) x → Contains (stamped copies u (bounds_moments n st (c ∷ counters) (b ∷ bounds))) x
      in_from x h = subst (λ xs. Contains xs x) (sym split) (Contains-append_left (stamped copies u (list_moments n st c.from b.from) ++ stamped copies u (list_moments (n + length c.from) st c.until b.until)) (stamped copies u (bounds_moments (n + (length c.from + length c.until)) st counters bounds)) x
          (Contains-append_left (stamped copies u (list_moments n st c.from b.from)) (stamped copies u (list_moments (n + length c.from) st c.until b.until)) x h))

      in_until : (x : Stamped) → Contains (stamped copies u (list_moments (n + length c.from) st c.until b.until)) x → Contains (stamped copies u (bounds_moments n st (c ∷ counters) (b ∷ bounds))) x
      in_until x h = subst (λ xs. Contains xs x) (sym split) (Contains-append_left (stamped copies u (list_moments n st c.from b.from) ++ stamped copies u (list_moments (n + length c.from) st c.until b.until)) (stamped copies u (bounds_moments (n + (length c.from + length c.until)) st counters bounds)) x
          (Contains-append_right (stamped copies u (list_moments n st c.from b.from)) (stamped copies u (list_moments (n + length c.from) st c.until b.until)) x h))

      in_rest : (x : Stamped) → Contains (stamped copies u (bounds_moments (n + (length c.from + length c.until)) st counters bounds)) x → Contains (stamped copies u (bounds_moments n st (c ∷ counters) (b ∷ bounds))) x
      in_rest x h = subst (λ xs. Contains xs x) (sym split) (Contains-append_right (stamped copies u (list_moments n st c.from b.from) ++ stamped copies u (list_moments (n + length c.from) st c.until b.until)) (stamped copies u (bounds_moments (n + (length c.from + length c.until)) st counters bounds)) x h)

pub bounds_stand : LanesHaveWords → WordsAgree → BoundsStand
bounds_stand words agree s d events last near env n counters counts scope st copies bounds u r late nets did stand told =
    bounds_stand_at words agree s d events last near env scope st copies u r late stand n counters counts bounds nets did told

-- bounds of a run
module _ (core : PlainCore) (lists : ListsFit core) (reading : Reading) (turns : ℕ) (around : Around) (scope : Scope) (memories : are_memories_right core ≡ true) where
  one_bound : (ops : List PlainOp) (s t : Store) (es : List Entry) → is_bound core around ops ≡ true → StoreFits core s → operations core scope ops s ≡ went es t → DidBound scope ops es × StoreFits core t
  one_bound ops s t es right fits h =
      let w = word_list_right core around ops int_type (and_parts (is_word_list core around ops int_type) (list_all (is_early core around) ops) right).0 in
      let f = lists around scope ops s t es memories w.0 fits h in
      let word = last_fits ops es int_type w.1 f.entries in
      (record { list = record { entries = entries_done core scope ops s t es h; bits = f.masks; indices = indices_are_words core around ops es w.0 f.entries }; fits = word }, f.left)

  bounds_did : (counters : List PlainCounter) (s t : Store) (bs : List Bounds) → list_all (is_counter_right core around) counters ≡ true → StoreFits core s → in_order (bounds_step core reading turns scope) counters s ≡ went bs t → DidBounds scope counters bs
  unfolding in_order
  bounds_did [] s t bs right fits h = subst (DidBounds scope []) (was_pure [] bs s t h).value tt
  bounds_did (c ∷ counters) s t bs right fits h =
      let a = bound _ _ s bs t h in
      let b = bound _ _ a.middle bs t a.later in
      let e = (was_pure (a.value ∷ b.value) bs b.middle t b.later).value in
      let x = bound _ _ s a.value a.middle a.first in
      let y = bound _ _ x.middle a.value a.middle x.later in
      let z = was_pure (record { from = x.value; until = y.value }) a.value y.middle a.middle y.later in
      let ok = and_parts (is_counter_right core around c) (list_all (is_counter_right core around) counters) right in
      let two = and_parts (is_bound core around c.from) (is_bound core around c.until) (and_parts (is_bound core around c.from && is_bound core around c.until) ((nat_le 1 c.by && nat_lt c.by (2 ^ 31)) && (nat_le 1 c.par && nat_le c.par 16)) ok.0).0 in
      let first = one_bound c.from s x.middle x.value two.0 fits x.first in
      let second = one_bound c.until x.middle y.middle y.value two.1 first.1 y.first in
      let rest = bounds_did counters a.middle b.middle b.value ok.1 (subst (StoreFits core) z.store second.1) b.first in
      subst (DidBounds scope (c ∷ counters)) {x = a.value ∷ b.value} e (subst (λ v. DidBounds scope (c ∷ counters) (v ∷ b.value)) z.value (first.0, second.0, rest))

same_inner : (a b : List Bounds) (c d : List ℕ) (x y : List (List Entry)) → inner_ran a c x ≡ inner_ran b d y → a ≡ b
same_inner a b c d x y e = cc (e)

same_outer : (a b : List Bounds) (c d : List ℕ) (x y : Groups) → outer_ran a c x ≡ outer_ran b d y → a ≡ b
same_outer a b c d x y e = cc (e)

module _ (core : PlainCore) (lists : ListsFit core) where
  inner_bounds : (reading : Reading) (turns : ℕ) (around : Around) (earlier : List ℕ) (counters : List PlainCounter) (owned : List ℕ) (ops : List PlainOp) (comb : Option ℕ) (scope : Scope) (s t : Store) (bounds : List Bounds) (counts : List ℕ) (groups : List (List Entry))
      → are_memories_right core ≡ true → IsRight core around earlier (inner counters owned ops comb) → StoreFits core s → run core reading turns (inner counters owned ops comb) scope s ≡ went (inner_ran bounds counts groups) t → DidBounds scope counters bounds
  unfolding run
  inner_bounds reading turns around earlier counters owned ops comb scope s t bounds counts groups memories right fits h =
      let a = bound (in_order (bounds_step core reading turns scope) counters) _ s (inner_ran bounds counts groups) t h in
      let b = bound _ _ a.middle (inner_ran bounds counts groups) t a.later in
      let e = same_inner a.value bounds _ counts b.value groups (was_pure (inner_ran a.value (counts_of (loops_of reading counters a.value)) b.value) (inner_ran bounds counts groups) b.middle t b.later).value in
      let p = and_parts (are_counters_right core around counters) (are_operations_right core (within around counters owned) ops) (here_right core around earlier (inner counters owned ops comb) right).0 in
      subst (DidBounds scope counters) e (bounds_did core lists reading turns around scope memories counters s a.middle a.value (counters_right core around counters p.0) fits a.first)

  outer_bounds : (reading : Reading) (turns : ℕ) (around : Around) (earlier : List ℕ) (counters : List PlainCounter) (style : Style) (owned : List ℕ) (stages : PlainStages) (scope : Scope) (s t : Store) (bounds : List Bounds) (counts : List ℕ) (groups : Groups)
      → are_memories_right core ≡ true → IsRight core around earlier (outer counters style owned stages) → StoreFits core s → run core reading turns (outer counters style owned stages) scope s ≡ went (outer_ran bounds counts groups) t → DidBounds scope counters bounds
  unfolding run
  outer_bounds reading turns around earlier counters style owned stages scope s t bounds counts groups memories right fits h =
      let a = bound (in_order (bounds_step core reading turns scope) counters) _ s (outer_ran bounds counts groups) t h in
      let b = bound _ _ a.middle (outer_ran bounds counts groups) t a.later in
      let e = same_outer a.value bounds _ counts _ groups (was_pure (outer_ran a.value (counts_of (loops_of reading counters a.value)) (groups_of b.value)) (outer_ran bounds counts groups) b.middle t b.later).value in
      let p = and_parts (are_counters_right core around counters) (are_lanes_right (lanes_of counters) stages) (and_parts (is_node_right core around (outer counters style owned stages)) _ right.0).0 in
      subst (DidBounds scope counters) e (bounds_did core lists reading turns around scope memories counters s a.middle a.value (counters_right core around counters p.0) fits a.first)

pub runs_take_bounds : (core : PlainCore) → ListsFit core → RunsTakeBounds core
runs_take_bounds core lists = record { of_inner = inner_bounds core lists; of_outer = outer_bounds core lists }
