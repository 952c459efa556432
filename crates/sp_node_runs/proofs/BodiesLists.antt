-- Lists of operations over all of their runs.
use Rattle.std.proofs.Common.{◌≡◌, ℕ, zero, suc, ◌+◌, ◌<◌, ◌≤◌, Bool, true, List, [], ◌∷◌, map, length, slice_index, slice_index_or, Some, refl, sym, ap, subst, ◌∙◌, arith}
use Rattle.std.specs.List.{Contains}
use Rattle.sp_netlist.specs.Draft.{Draft}
use Rattle.sp_netlist.specs.Signals.{Signals}
use Rattle.sp_gates.specs.Runs.{RunsOn}
use Rattle.sp_gates.specs.Tested.{is_on}
use Rattle.sp_core.specs.declared.operation.OpKind.{OpKind}
use Rattle.sp_core.specs.Around.{Near}
use Rattle.sp_core.specs.Events.{Event, touches, act_of}
use Rattle.sp_core.specs.History.{touched, word_at}
use Rattle.sp_core.specs.Latency.{latency_of_all}
use Rattle.sp_core.specs.PlainCore.{PlainOp, PlainCore}
use Rattle.sp_lane_nets.specs.Laws.{LanesHaveWords}
use Rattle.sp_machine.specs.Stamps.{Stamped, moved, list_stamped, in_a_row}
use Rattle.sp_pipe.specs.declared.part.PipeOp.{PipeOp}
use Rattle.sp_pipe.specs.Issues.{IssuesOne}
use Rattle.sp_pipe.specs.Values.{words_of}
use Rattle.sp_part_runs.specs.ActsCircuits.{AreGiven}
use Rattle.sp_part_runs.specs.ActsEntries.{IsOpAt, touches_memory, entry_at}
use Rattle.sp_part_runs.specs.ActsLaws.{IsGroup, WordsAgree}
use Rattle.sp_part_runs.specs.BodiesActing.{BodyRun, begun, entries_of, group_cycle}
use Rattle.sp_part_runs.specs.BodiesLaws.{AreDone, BodyWorks, SinglesWork}
use Rattle.sp_part_runs.specs.BodiesRuns.{Begun, took, IsOnAt}
use Rattle.sp_part_runs.specs.BodiesRuns as body
use Rattle.sp_part_runs.proofs.BodiesIssuing.{spent_first}
use Rattle.sp_part_runs.specs.ControlParts.{Ran, Begins, Ends}
use Rattle.sp_node_runs.specs.ControlLaws.{IsStarted}
use Rattle.sp_node_runs.specs.Bodies.{HaveMemories, AreTimedOps}
use Rattle.sp_node_runs.specs.BodiesGiven.{Nets, AreStanding, AreGivenBy}
use Rattle.sp_node_runs.specs.BodiesLists.{DidList, ListRun, list_body, turn_time, list_ran, list_events, all_listed, ListGoes, ListsWork}
use Rattle.sp_node_runs.specs.BodiesTold.{Happens, AreAnsweredInTime, MadeAt, AreTold}
use Rattle.sp_node_runs.proofs.BodiesActing.{answered, acts_in_time}
use Rattle.sp_node_runs.proofs.BodiesInnerTold.{some_act, entry_within}
use Rattle.sp_node_runs.proofs.BodiesListed.{mapped_to, mapped_from, joined_to, joined_from, event_at, list_has, list_from}
use Rattle.sp_node_runs.proofs.BodiesStanding.{given_stand}

module _ (core : PlainCore) (n : ℕ) (ops : List PlainOp) where
  -- what is done in a run is told
  module _ (memories : HaveMemories ops) (runs : List ListRun) where
    abbrev bodies : List BodyRun
    bodies = map list_body runs

    abbrev Tells : BodyRun → (g k : ℕ) → OpKind → (is : List ℕ) → (w : ℕ) → Type 0
    Tells b g k kind is w = (e : Event) × Happens (all_listed core n ops runs) (n + k) (group_cycle 1 b g + turn_time core ops k) e × (e.indices ≡ is) × (act_of kind w ≡ Some e.act)

    made_in : (r : ListRun) → Contains runs r → (g k : ℕ) (op : PlainOp) (is : List ℕ) (w : ℕ) → IsOpAt ops k op → g < 1 → touches_memory op.kind ≡ true → entry_at (entries_of (list_body r) g) k ≡ touched is w → Tells (list_body r) g k op.kind is w
    made_in r c (suc g) k op is w at l touch e = absurd (omega (arith, l))
    made_in r c zero k op is w at l touch e =
        let m = memories k op at touch in
        let a = some_act op.kind w touch in
        let x = list_has r.copies r.standing (in_a_row core ops) 0 n ops r.entries k op is w m.0 a.0 at (entry_within r.entries k is w e) e m.1 a.1 in
        let y = mapped_to (moved r.cycle) (list_stamped r.copies (in_a_row core ops) 0 n r.standing ops r.entries) _ x in
        let same : r.cycle + in_a_row core ops (0 + k) ≡ group_cycle 1 (list_body r) 0 + turn_time core ops k = (let z : in_a_row core ops (0 + k) ≡ in_a_row core ops k = ap (in_a_row core ops) {x = 0 + k} {y = k} (omega arith) in omega (arith, z)) in (
          record { number = n + k; standing = r.standing; mem = m.0; indices = is; act = a.0 },
          record {
            copy = r.copies m.0;
            there = joined_to (list_events core n ops) runs r _ c (subst (λ t. Contains (list_events core n ops r) (event_at t (r.copies m.0) (n + k) r.standing m.0 is a.0)) same y);
            numbered = refl;
          },
          refl,
          a.1,
        )

    same_op : (i j : ℕ) (x y : PlainOp) → i ≡ j → IsOpAt ops i x → IsOpAt ops j y → x ≡ y
    same_op i j x y e a b = sym (a.is x) ∙ ap (λ m. slice_index_or ops m x) e ∙ b.is x

    told_in : (r : ListRun) → Contains runs r → (k : ℕ) (op : PlainOp) (t : ℕ) (e : Event) (copy : ℕ) → IsOpAt ops k op → e.number ≡ n + k → Contains (list_events core n ops r) (record { cycle = t; copy = copy; moment = touches e }) → MadeAt 1 (turn_time core ops) bodies k op.kind t e
    told_in r c k op t e copy at number x =
        let m = mapped_from (moved r.cycle) (list_stamped r.copies (in_a_row core ops) 0 n r.standing ops r.entries) _ x in
        of_moved m.0 m.1 m.2
      where
        of_listed : (u : ℕ) → t ≡ r.cycle + u → Contains (list_stamped r.copies (in_a_row core ops) 0 n r.standing ops r.entries) (record { cycle = u; copy = copy; moment = touches e }) → MadeAt 1 (turn_time core ops) bodies k op.kind t e
        of_listed u now z =
            let w = list_from r.copies r.standing (in_a_row core ops) 0 n ops r.entries u copy e z in
            let a = w.number in
            let place : w.place ≡ k = omega (arith, a, number) in
            let same : w.op ≡ op = same_op w.place k w.op op place w.at at in
            let y = w.cycle in
            let spot : in_a_row core ops (0 + w.place) ≡ in_a_row core ops k = ap (in_a_row core ops) {x = 0 + w.place} {y = k} (omega (arith, place)) in
            record {
              run = list_body r;
              group = 0;
              word = w.word;
              there = mapped_to list_body runs r c;
              within = omega arith;
              entry = ap (entry_at r.entries) (sym place) ∙ w.entry;
              cycle = omega (arith, now, y, spot);
              act = ap (λ (o : PlainOp). act_of o.kind w.word) (sym same) ∙ w.act;
            }

        of_moved : (x : Stamped) → Contains (list_stamped r.copies (in_a_row core ops) 0 n r.standing ops r.entries) x → moved r.cycle x ≡ record { cycle = t; copy = copy; moment = touches e } → MadeAt 1 (turn_time core ops) bodies k op.kind t e
        of_moved x c m =
            let a : x.copy ≡ copy = ap (λ (z : Stamped). z.copy) m in
            let b : x.moment ≡ touches e = ap (λ (z : Stamped). z.moment) m in
            let is : x ≡ record { cycle = x.cycle; copy = copy; moment = touches e } = ap (λ y. record { cycle = x.cycle; copy = y; moment = x.moment }) a ∙ ap (λ y. record { cycle = x.cycle; copy = copy; moment = y }) b in
            of_listed x.cycle (sym (ap (λ (z : Stamped). z.cycle) m)) (subst (Contains (list_stamped r.copies (in_a_row core ops) 0 n r.standing ops r.entries)) is c)

    pub lists_are_told : AreTold 1 (turn_time core ops) ops n bodies (all_listed core n ops runs)
    lists_are_told = record { made = made; told = tells }
      where
        made : (k : ℕ) (op : PlainOp) (b : BodyRun) (g : ℕ) (is : List ℕ) (w : ℕ) → IsOpAt ops k op → Contains bodies b → g < length b.groups → touches_memory op.kind ≡ true → entry_at (entries_of b g) k ≡ touched is w → Tells b g k op.kind is w
        made k op b g is w at c l touch e =
            let m = mapped_from list_body runs b c in
            subst (λ (b : BodyRun). g < length b.groups → entry_at (entries_of b g) k ≡ touched is w → Tells b g k op.kind is w) m.2 (λ l e. made_in m.0 m.1 g k op is w at l touch e) l e

        tells : (k : ℕ) (op : PlainOp) (t : ℕ) (e : Event) → IsOpAt ops k op → Happens (all_listed core n ops runs) (n + k) t e → MadeAt 1 (turn_time core ops) bodies k op.kind t e
        tells k op t e at h = let j = joined_from (list_events core n ops) runs _ h.there in told_in j.0 j.1 k op t e h.copy at h.numbered j.2

  module _ (runs : List ListRun) where
    -- a run of a list as one of its body
    pub record IsOf (b : Begun) : Type 0 where
      pub run : ListRun
      pub there : Contains runs run
      pub is : begun (list_body run) ≡ b

    of_begun : (b : Begun) → Contains (map begun (map list_body runs)) b → IsOf b
    of_begun b c =
        let x = mapped_from begun (map list_body runs) b c in
        let y = mapped_from list_body runs x.0 x.1 in
        record { run = y.0; there = y.1; is = ap begun y.2 ∙ x.2 }

    to_begun : (r : ListRun) → Contains runs r → Contains (map begun (map list_body runs)) (begun (list_body r))
    to_begun r c = mapped_to begun (map list_body runs) _ (mapped_to list_body runs r c)

    starts_are : (wire : ℕ → Bool) (latency last : ℕ) → IsOnAt wire (Begins (map (list_ran core ops) runs)) last → IsOnAt wire (body.Begins 1 latency (map begun (map list_body runs))) last
    starts_are wire latency last h = record {
      on = λ t l b. let x = of_begun b.0 b.1 in h.on t l (list_ran core ops x.run, mapped_to (list_ran core ops) runs x.run x.there, b.2 ∙ sym (ap (λ (y : Begun). y.cycle) x.is));
      only = λ t l on. let a = h.only t l on in let x = mapped_from (list_ran core ops) runs a.0 a.1 in (begun (list_body x.0), to_begun x.0 x.1, a.2 ∙ sym (ap (λ (y : Ran). y.cycle) x.2));
    }

    ends_are : (wire : ℕ → Bool) (last : ℕ) → IsOnAt wire (body.Ends 1 (latency_of_all core ops) (map begun (map list_body runs))) last → IsOnAt wire (Ends (map (list_ran core ops) runs)) last
    ends_are wire last h = record { on = on; only = only }
      where
        one : took 1 (latency_of_all core ops) 1 ≡ 2 + latency_of_all core ops
        one = ap (λ m. 2 + m) (spent_first 1 (latency_of_all core ops))

        on : (t : ℕ) → t ≤ last → Ends (map (list_ran core ops) runs) t → wire t ≡ true
        on t l (r, c, e) =
            let x = mapped_from (list_ran core ops) runs r c in
            let a = ap (λ (y : Ran). y.cycle) x.2 in
            let b = ap (λ (y : Ran). y.took) x.2 in
            let w = one in
            h.on t l (begun (list_body x.0), to_begun x.0 x.1, omega (arith, e, a, b, w))

        only : (t : ℕ) → t ≤ last → wire t ≡ true → Ends (map (list_ran core ops) runs) t
        only t l on =
            let q = h.only t l on in
            let x = of_begun q.0 q.1 in
            let a = ap (λ (y : Begun). y.cycle) x.is in
            let b = ap (λ (y : Begun). took 1 (latency_of_all core ops) y.groups) x.is in
            let e = q.2 in
            let w = one in
            (list_ran core ops x.run, mapped_to (list_ran core ops) runs x.run x.there, omega (arith, e, a, b, w))

  pub lists_work_at : LanesHaveWords → SinglesWork → WordsAgree → (s : Signals) (d : Draft) (start : ℕ) (ps : List PipeOp) (issue done last : ℕ) (near : List Near) (env : Nets) (runs : List ListRun) → RunsOn s d.cells → IssuesOne (is_on s start) (is_on s issue) (is_on s done) (latency_of_all core ops)
      → AreTimedOps d ops ps (turn_time core ops) → AreGivenBy s near env ops ps → ((r : ListRun) → Contains runs r → DidList r.scope ops r.entries) → ((r : ListRun) → Contains runs r → suc r.cycle ≤ last → AreStanding s (suc r.cycle) near env r.scope)
      → AreAnsweredInTime s (all_listed core n ops runs) last n ops ps → IsStarted s start (map (list_ran core ops) runs) last → ListGoes core s d ps issue done last n ops runs
  lists_work_at words singles agree s d start ps issue done last near env runs r issues timed by did stand answers starts = record {
    ends = ends_are runs (is_on s done) last works.ends;
    acts = λ i op q enable operands at touch there acts.
        acts_in_time s (all_listed core n ops runs) 1 (turn_time core ops) ops ps n last (map list_body runs) (lists_are_told timed.memories runs) d groups timed.times i op q enable operands at there touch (works.accesses i q enable operands there acts);
    words = λ q k p net time c at gives late has over.
        let group : Contains (map list_body runs) (list_body q) = mapped_to list_body runs q c in
        let at_issue : group_cycle 1 (list_body q) 0 ≡ suc q.cycle = omega arith in
        let does = done_so (list_body q) 0 group (omega arith) in
        has s r (suc q.cycle)
        ∙ subst (λ u. slice_index (words_of s u ps) k ≡ word_at q.entries k) at_issue
        (agree d q.scope ops ps q.entries s (group_cycle 1 (list_body q) 0) last does.group (does.given (omega (arith, at_issue, over))) does.answered k p at gives (omega (arith, at_issue, over, late)));
  }
    where
      groups : (b : BodyRun) (g : ℕ) → Contains (map list_body runs) b → g < length b.groups → IsGroup d (b.scopes g) ops ps (entries_of b g)
      groups b g c l =
          let x = mapped_from list_body runs b c in
          subst (λ (b : BodyRun). g < length b.groups → IsGroup d (b.scopes g) ops ps (entries_of b g)) x.2 (λ l. of_run x.0 x.1 g l) l
        where
          of_run : (q : ListRun) → Contains runs q → (g : ℕ) → g < 1 → IsGroup d q.scope ops ps (slice_index_or (q.entries ∷ []) g [])
          of_run q c zero l = record { ops_of = timed.ops_of; fits = timed.fits; entries = (did q c).entries; bits = (did q c).bits; indices = (did q c).indices }
          of_run q c (suc g) l = absurd (omega (arith, l))

      given : (q : ListRun) → Contains runs q → (g : ℕ) → g < 1 → group_cycle 1 (list_body q) g ≤ last → AreGiven s (group_cycle 1 (list_body q) g) q.scope ops ps
      given q c zero l late =
          let same : suc q.cycle ≡ group_cycle 1 (list_body q) 0 = omega arith in
          given_stand words s (group_cycle 1 (list_body q) 0) near env q.scope (subst (λ u. AreStanding s u near env q.scope) same (stand q c (omega (arith, same, late)))) ops ps by
      given q c (suc g) l late = absurd (omega (arith, l))

      done_so : AreDone 1 d ops ps s last (map list_body runs)
      done_so b g c l = record {
        group = groups b g c l;
        given = λ late. let x = mapped_from list_body runs b c in
            subst (λ (b : BodyRun). g < length b.groups → group_cycle 1 b g ≤ last → AreGiven s (group_cycle 1 b g) (b.scopes g) ops ps) x.2 (λ l late. given x.0 x.1 g l late) l late;
        answered = answered s (all_listed core n ops runs) 1 (turn_time core ops) ops ps n last (map list_body runs) (lists_are_told timed.memories runs) d groups timed.times answers b g c l;
      }

      ones : (b : BodyRun) → Contains (map list_body runs) b → length b.groups ≡ 1
      ones b c = let x = mapped_from list_body runs b c in sym (ap (λ (y : BodyRun). length y.groups) x.2)

      works : BodyWorks d ps s issue done 1 (latency_of_all core ops) last (map list_body runs)
      works = singles d ops ps s start issue done 1 (latency_of_all core ops) last (map list_body runs) r issues ones (starts_are runs (is_on s start) (latency_of_all core ops) last starts) done_so

pub lists_work : (core : PlainCore) → LanesHaveWords → SinglesWork → WordsAgree → ListsWork core
lists_work core words singles agree s d start ps issue done last n ops near env runs r issues timed by did stand answers t late starts =
    lists_work_at core n ops words singles agree s d start ps issue done t near env runs r issues timed by did (λ q c l. stand q c (omega (arith, l, late)))
    (λ k op q a b c u e x over w y. answers k op q a b c u e x (omega (arith, over, late)) w y) starts
