-- Inner bodies over all runs of their nodes.
use Rattle.std.proofs.Common.{◌≡◌, ℕ, zero, suc, ◌+◌, ◌*◌, ◌<◌, ◌≤◌, ◌==◌, Bool, true, false, List, [], ◌∷◌, map, length, slice_index, slice_index_or, Option, refl, sym, ap, subst, ◌∙◌, arith}
use Rattle.std.specs.List.{Contains}
use Rattle.std.proofs.Math.Nat.{mul-le-mul_right}
use Rattle.std.proofs.lemmas.Bool.{eq-eqb, ne_eqb}
use Rattle.sp_netlist.specs.Draft.{Draft}
use Rattle.sp_netlist.specs.Signals.{Signals}
use Rattle.sp_gates.specs.Tested.{is_on}
use Rattle.sp_core.specs.Around.{lanes_of}
use Rattle.sp_core.specs.History.{History}
use Rattle.sp_core.specs.Latency.{latency, latency_of_all}
use Rattle.sp_core.specs.Numbering.{counters_size}
use Rattle.sp_core.specs.PlainCore.{PlainOp, PlainCounter, PlainNode, inner, PlainCore}
use Rattle.sp_core.specs.Scope.{Loop, Scope, in_lanes, loops_of, group_values, is_live}
use Rattle.sp_plan.specs.PlainPlan.{PlainNodePlan, PlainPlan, node_plan}
use Rattle.sp_machine.specs.Stamps.{Stamped}
use Rattle.sp_machine.specs.Timeline.{times_of, interval_of, latency_of, inner_took, issued_by}
use Rattle.sp_machine.specs.Transfers.{Delays}
use Rattle.sp_counters.specs.Laws.{AreLoopsAt, AreAtGroup}
use Rattle.sp_lane_nets.specs.Laws.{LanesHaveWords}
use Rattle.sp_pipe.specs.declared.part.PipeOp.{PipeOp}
use Rattle.sp_pipe.specs.Issues.{after, later, is_end, IssuesOne}
use Rattle.sp_part_runs.specs.ActsCircuits.{AreGiven}
use Rattle.sp_part_runs.specs.ActsLaws.{IsGroup}
use Rattle.sp_part_runs.specs.BodiesActing.{BodyRun, begun, entries_of, group_cycle}
use Rattle.sp_part_runs.specs.BodiesLaws.{AreDone, BodyWorks, SinglesWork}
use Rattle.sp_part_runs.specs.BodiesRuns.{Begun, spent, took, IsOnAt, AreApart}
use Rattle.sp_part_runs.specs.BodiesRuns as body
use Rattle.sp_part_runs.proofs.BodiesIssuing.{spent_some}
use Rattle.sp_part_runs.specs.ControlParts.{Ran, Begins, Ends}
use Rattle.sp_part_runs.specs.CountedLaws.{LoopsWork}
use Rattle.sp_part_runs.specs.CountedLoops.{AreLoopsOf, AreInGroups}
use Rattle.sp_node_runs.specs.Runs.{Placed, AreWithin, over_at, told}
use Rattle.sp_node_runs.specs.RunsTold.{all_events}
use Rattle.sp_node_runs.specs.ControlLaws.{IsStarted}
use Rattle.sp_node_runs.specs.ControlRuns.{ran_of, rans}
use Rattle.sp_node_runs.specs.Bodies.{Scopes, loops_in, groups_in, group_scope, body_run, DidGroups, HaveMemories, AreTimedOps}
use Rattle.sp_counters.specs.declared.part.Counter.{Counter}
use Rattle.sp_node_runs.specs.BodiesGiven.{with_nets, values_of, AreStanding}
use Rattle.sp_node_runs.specs.BodiesLaws.{GivenNetsStand, CountersStand, own_near, InnerGoes, CountedInnersWork, SingleInnersWork}
use Rattle.sp_node_runs.specs.BodiesTold.{AreAnsweredInTime, AreTold}
use Rattle.sp_node_runs.proofs.BodiesActing.{answered, acts_in_time}
use Rattle.sp_node_runs.proofs.BodiesInnerTold.{inner_lasts, inners_are_told}
use Rattle.sp_node_runs.proofs.BodiesListed.{here, there, none_there, mapped_to, mapped_from}
use Rattle.sp_node_runs.proofs.BodiesPace.{none_at_once, at_once_plan, paced_plan}
use Rattle.sp_node_runs.proofs.BodiesStanding.{given_stand, inside_stand}
use Rattle.sp_node_runs.proofs.BodiesValues.{group_length, loops_length}

pub mapped_twice : {A B C : Type 0} (f : B → C) (g : A → B) (xs : List A) → map f (map g xs) ≡ map (λ x. f (g x)) xs
mapped_twice f g [] = refl
mapped_twice f g (x ∷ xs) = ap (λ ys. f (g x) ∷ ys) (mapped_twice f g xs)

pub counters_stand : CountersStand
counters_stand s part nets t g counters bounds near env scope each lanes at l stand c lane has =
    inside_stand s t nets.masks.items (is_live (loops_of in_lanes counters bounds) (slice_index_or (group_values (loops_of in_lanes counters bounds)) g [])) (lanes_of counters) (λ lane m. at.masks lane l (omega (arith, m, lanes)))
    counters bounds (values_of nets.counters.items) (slice_index_or (group_values (loops_of in_lanes counters bounds)) g []) near env scope c lane each
    (group_length (loops_of in_lanes counters bounds) g l ∙ loops_length counters bounds each) (mapped_twice (s.net t) (λ (n : Counter). n.value) nets.counters.items ∙ at.words l) (stand c lane) has

pub given_nets_stand : LanesHaveWords → GivenNetsStand
given_nets_stand words s t near env scope ops ps stand by = given_stand words s t near env scope stand ops ps by

-- a part that is done in the cycle after each start
ends_after : (start done : ℕ → Bool) (runs : List Ran) (last : ℕ) → ((t : ℕ) → done t ≡ after start t) → ((r : Ran) → Contains runs r → r.took ≡ 2) → IsOnAt start (Begins runs) last → IsOnAt done (Ends runs) last
ends_after start done runs last ends two starts = record { on = on; only = only }
  where
    on : (t : ℕ) → t ≤ last → Ends runs t → done t ≡ true
    on t l (r, c, e) =
        let w = two r c in
        let now : t ≡ suc r.cycle = omega (arith, e, w) in
        ap done now ∙ ends (suc r.cycle) ∙ starts.on r.cycle (omega (arith, now, l)) (r, c, refl)

    only : (t : ℕ) → t ≤ last → done t ≡ true → Ends runs t
    only zero l h = absurd (let e = sym (ends 0) ∙ h in cc (e))
    only (suc v) l h =
        let b = starts.only v (omega (arith, l)) (sym (ends (suc v)) ∙ h) in
        let w = two b.0 b.1 in
        let at = b.2 in
        (b.0, b.1, omega (arith, at, w))

on_less : (wire : ℕ → Bool) (Holds : ℕ → Type 0) (n last : ℕ) → n ≤ last → IsOnAt wire Holds last → IsOnAt wire Holds n
on_less wire Holds n last l h = record { on = λ t m. h.on t (omega (arith, l, m)); only = λ t m. h.only t (omega (arith, l, m)) }

module _ (core : PlainCore) (plan : PlainPlan) (delays : Delays) (k n : ℕ) (counters : List PlainCounter) (owned : List ℕ) (ops : List PlainOp) (comb : Option ℕ) where
  abbrev node : PlainNode
  node = inner counters owned ops comb

  abbrev p : PlainNodePlan
  p = node_plan plan k

  abbrev events : List Placed → List Stamped
  events runs = all_events core plan delays node k n runs

  abbrev lasts_of : Placed → ℕ
  lasts_of r = (told core plan delays node k n r).took

  -- how long a run takes
  lasts_so : (scope : Scope) (r : Placed) → DidGroups scope counters ops r.history → lasts_of r ≡ inner_took (length (groups_in r.history)) (interval_of (issued_by core ops p)) (latency_of (issued_by core ops p))
  lasts_so scope r did = subst (λ h. lasts_of (record r { history = h }) ≡ inner_took (length (groups_in h)) (interval_of (issued_by core ops p)) (latency_of (issued_by core ops p))) (sym did.is)
      (inner_lasts core plan delays k n counters owned ops comb r.standing r.copies did.bounds did.counts did.groups)

  two_at_once : (m : ℕ) → inner_took m 0 0 ≡ 2
  two_at_once zero = refl
  two_at_once (suc m) = omega arith

  same_took : (m ii l : ℕ) → 1 ≤ l → inner_took m ii l ≡ took ii l m
  same_took zero ii l some = refl
  same_took (suc m) ii l some = let e = spent_some ii l m some in omega (arith, e)

  took_two : (m ii l : ℕ) → 2 ≤ inner_took m ii l
  took_two zero ii l = omega arith
  took_two (suc m) ii l = omega arith

  lasts_two : (scope : Scope) (r : Placed) → DidGroups scope counters ops r.history → 2 ≤ lasts_of r
  lasts_two scope r did = let e = lasts_so scope r did in let f = took_two (length (groups_in r.history)) (interval_of (issued_by core ops p)) (latency_of (issued_by core ops p)) in omega (arith, e, f)

  lasts_at_once : (scope : Scope) (r : Placed) → DidGroups scope counters ops r.history → latency_of p ≡ 0 → latency_of_all core ops ≡ 0 → lasts_of r ≡ 2
  lasts_at_once scope r did a b = lasts_so scope r did ∙ ap (λ q. inner_took (length (groups_in r.history)) (interval_of q) (latency_of q)) (at_once_plan core ops p a b) ∙ two_at_once (length (groups_in r.history))

  lasts_paced : (scope : Scope) (r : Placed) → DidGroups scope counters ops r.history → 1 ≤ latency_of p → lasts_of r ≡ took (interval_of p) (latency_of p) (length (groups_in r.history))
  lasts_paced scope r did a =
      lasts_so scope r did ∙ ap (λ q. inner_took (length (groups_in r.history)) (interval_of q) (latency_of q)) (paced_plan core ops p a) ∙ same_took (length (groups_in r.history)) (interval_of p) (latency_of p) a

  -- runs one after the other
  within_from : (from until : ℕ) (runs : List Placed) → AreWithin core plan delays node k n from until runs → (r : Placed) → Contains runs r → from ≤ r.cycle
  within_from from until [] w r c = absurd (none_there r c)
  within_from from until (q ∷ runs) w r (zero, l, e) = let f = ap (λ (x : Placed). x.cycle) e in let g = w.0 in omega (arith, f, g)
  within_from from until (q ∷ runs) w r (suc i, l, e) = let h = within_from (over_at core plan delays node k n q) until runs w.1 r (i, omega (arith, l), e) in let g = w.0 in omega (arith, h, g)

  apart : (from until : ℕ) (runs : List Placed) → AreWithin core plan delays node k n from until runs → ((r : Placed) → Contains runs r → 2 ≤ lasts_of r) → (r q : Placed) → Contains runs r → Contains runs q → r.cycle < q.cycle → over_at core plan delays node k n r ≤ q.cycle
  apart from until [] w two r q c d l = absurd (none_there r c)
  apart from until (x ∷ runs) w two r q (zero, a, e) (zero, b, f) l = absurd (let g = ap (λ (x : Placed). x.cycle) (sym e ∙ f) in omega (arith, g, l))
  apart from until (x ∷ runs) w two r q (zero, a, e) (suc j, b, f) l =
      subst (λ (y : Placed). over_at core plan delays node k n y ≤ q.cycle) e (within_from (over_at core plan delays node k n x) until runs w.1 q (j, omega (arith, b), f))
  apart from until (x ∷ runs) w two r q (suc i, a, e) (zero, b, f) l =
      absurd (let h = within_from (over_at core plan delays node k n x) until runs w.1 r (i, omega (arith, a), e) in let g = ap (λ (x : Placed). x.cycle) f in let t = two x (here x runs) in omega (arith, h, g, l, t))
  apart from until (x ∷ runs) w two r q (suc i, a, e) (suc j, b, f) l =
      apart (over_at core plan delays node k n x) until runs w.1 (λ y c. two y (there x y runs c)) r q (i, omega (arith, a), e) (j, omega (arith, b), f) l

  -- the loops of a run, by the cycle in which it begins
  abbrev loops_at : List Placed → Begun → List Loop
  loops_at [] b = []
  loops_at (r ∷ runs) b = elim (r.cycle == b.cycle) [ true ↦ loops_in counters r.history | false ↦ loops_at runs b ]

  loops_found : (from until : ℕ) (runs : List Placed) → AreWithin core plan delays node k n from until runs → ((r : Placed) → Contains runs r → 2 ≤ lasts_of r) → (r : Placed) (b : Begun) → Contains runs r → r.cycle ≡ b.cycle → loops_at runs b ≡ loops_in counters r.history
  loops_found from until [] w two r b c same = absurd (none_there r c)
  loops_found from until (x ∷ runs) w two r b (zero, l, e) same =
      ap (λ y. elim y as (λ _. List Loop) [ true ↦ loops_in counters x.history | false ↦ loops_at runs b ]) (eq-eqb x.cycle b.cycle (ap (λ (y : Placed). y.cycle) e ∙ same)) ∙ ap (λ (y : Placed). loops_in counters y.history) e
  loops_found from until (x ∷ runs) w two r b (suc i, l, e) same =
      ap (λ y. elim y as (λ _. List Loop) [ true ↦ loops_in counters x.history | false ↦ loops_at runs b ])
      (ne_eqb x.cycle b.cycle (λ z. absurd (let h = within_from (over_at core plan delays node k n x) until runs w.1 r (i, omega (arith, l), e) in let t = two x (here x runs) in omega (arith, h, t, z, same))))
      ∙ loops_found (over_at core plan delays node k n x) until runs w.1 (λ y c. two y (there x y runs c)) r b (i, omega (arith, l), e) same

  module _ (scopes : Scopes) (runs : List Placed) where
    abbrev bodies : List BodyRun
    bodies = map (body_run scopes counters) runs

    -- a run of the node, as one of its body
    pub record IsOf (b : Begun) : Type 0 where
      pub run : Placed
      pub there : Contains runs run
      pub is : begun (body_run scopes counters run) ≡ b

    of_begun : (b : Begun) → Contains (map begun bodies) b → IsOf b
    of_begun b c =
        let x = mapped_from begun bodies b c in
        let y = mapped_from (body_run scopes counters) runs x.0 x.1 in
        record { run = y.0; there = y.1; is = ap begun y.2 ∙ x.2 }

    to_begun : (r : Placed) → Contains runs r → Contains (map begun bodies) (begun (body_run scopes counters r))
    to_begun r c = mapped_to begun bodies _ (mapped_to (body_run scopes counters) runs r c)

    begins_are : (interval latency t : ℕ) → Begins (rans core plan delays node k n runs) t → body.Begins interval latency (map begun bodies) t
    begins_are interval latency t (r, c, e) =
        let x = mapped_from (ran_of core plan delays node k n) runs r c in
        (begun (body_run scopes counters x.0), to_begun x.0 x.1, e ∙ sym (ap (λ (y : Ran). y.cycle) x.2))

    are_begins : (interval latency t : ℕ) → body.Begins interval latency (map begun bodies) t → Begins (rans core plan delays node k n runs) t
    are_begins interval latency t (b, c, e) =
        let x = of_begun b c in
        (ran_of core plan delays node k n x.run, mapped_to (ran_of core plan delays node k n) runs x.run x.there, e ∙ sym (ap (λ (y : Begun). y.cycle) x.is))

    starts_are : (wire : ℕ → Bool) (interval latency last : ℕ) → IsOnAt wire (Begins (rans core plan delays node k n runs)) last → IsOnAt wire (body.Begins interval latency (map begun bodies)) last
    starts_are wire interval latency last h = record { on = λ t l b. h.on t l (are_begins interval latency t b); only = λ t l on. begins_are interval latency t (h.only t l on) }

    module _ (did : (r : Placed) → Contains runs r → DidGroups (scopes r) counters ops r.history) where
      two : (r : Placed) → Contains runs r → 2 ≤ lasts_of r
      two r c = lasts_two (scopes r) r (did r c)

      -- where a body takes time
      module _ (some : 1 ≤ latency_of p) where
        ends_are : (wire : ℕ → Bool) (last : ℕ) → IsOnAt wire (body.Ends (interval_of p) (latency_of p) (map begun bodies)) last → IsOnAt wire (Ends (rans core plan delays node k n runs)) last
        ends_are wire last h = record { on = on; only = only }
          where
            on : (t : ℕ) → t ≤ last → Ends (rans core plan delays node k n runs) t → wire t ≡ true
            on t l (r, c, e) =
                let x = mapped_from (ran_of core plan delays node k n) runs r c in
                let a = ap (λ (y : Ran). y.cycle) x.2 in
                let b = ap (λ (y : Ran). y.took) x.2 in
                let w = lasts_paced (scopes x.0) x.0 (did x.0 x.1) some in
                h.on t l (begun (body_run scopes counters x.0), to_begun x.0 x.1, omega (arith, e, a, b, w))

            only : (t : ℕ) → t ≤ last → wire t ≡ true → Ends (rans core plan delays node k n runs) t
            only t l on =
                let q = h.only t l on in
                let x = of_begun q.0 q.1 in
                let a = ap (λ (y : Begun). y.cycle) x.is in
                let b = ap (λ (y : Begun). took (interval_of p) (latency_of p) y.groups) x.is in
                let w = lasts_paced (scopes x.run) x.run (did x.run x.there) some in
                let e = q.2 in
                (ran_of core plan delays node k n x.run, mapped_to (ran_of core plan delays node k n) runs x.run x.there, omega (arith, e, a, b, w))

        are_apart : (from until : ℕ) → AreWithin core plan delays node k n from until runs → AreApart (interval_of p) (latency_of p) (map begun bodies)
        are_apart from until w a b c d l =
            let x = of_begun a c in
            let y = of_begun b d in
            let e = ap (λ (z : Begun). z.cycle) x.is in
            let f = ap (λ (z : Begun). z.cycle) y.is in
            let g = ap (λ (z : Begun). took (interval_of p) (latency_of p) z.groups) x.is in
            let h = lasts_paced (scopes x.run) x.run (did x.run x.there) some in
            let i = apart from until runs w two x.run y.run x.there y.there (omega (arith, e, f, l)) in
            omega (arith, e, f, g, h, i)

        told_so : (memories : HaveMemories ops) → AreTold (interval_of p) (slice_index (times_of p)) ops (n + counters_size counters) bodies (events runs)
        told_so memories =
            subst (λ q. AreTold (interval_of q) (slice_index (times_of q)) ops (n + counters_size counters) bodies (events runs)) (paced_plan core ops p some)
            (inners_are_told core plan delays k n counters owned ops comb scopes memories runs did)

        -- a group is issued while its run goes on
        in_run : (r : Placed) (c : Contains runs r) (g : ℕ) → g < length (groups_in r.history) → group_cycle (interval_of p) (body_run scopes counters r) g < over_at core plan delays node k n r
        in_run r c g l =
            let w = lasts_paced (scopes r) r (did r c) some in
            by (length (groups_in r.history)) l w
          where
            by : (m : ℕ) → g < m → lasts_of r ≡ took (interval_of p) (latency_of p) m → r.cycle + 1 + g * interval_of p < r.cycle + lasts_of r
            by zero l w = absurd (omega (arith, l))
            by (suc m) l w = let a : g * interval_of p ≤ m * interval_of p = mul-le-mul_right (interval_of p) (omega (arith, l)) in let b = spent_some (interval_of p) (latency_of p) m some in omega (arith, a, b, w)

        -- what is done in each group
        module _ (s : Signals) (d : Draft) (ps : List PipeOp) (last : ℕ) (timed : AreTimedOps d ops ps (slice_index (times_of p))) where
          group_in : (r : Placed) → Contains runs r → (g : ℕ) → g < length (groups_in r.history) → IsGroup d (group_scope (scopes r) (loops_in counters r.history) g) ops ps (slice_index_or (groups_in r.history) g [])
          group_in r c = subst (λ h. (g : ℕ) → g < length (groups_in h) → IsGroup d (group_scope (scopes r) (loops_in counters h) g) ops ps (slice_index_or (groups_in h) g [])) (sym (did r c).is)
              (λ g l. record { ops_of = timed.ops_of; fits = timed.fits; entries = (did r c).done.entries g l; bits = (did r c).done.bits g l; indices = (did r c).done.indices g l })

          groups_are : (b : BodyRun) (g : ℕ) → Contains bodies b → g < length b.groups → IsGroup d (b.scopes g) ops ps (entries_of b g)
          groups_are b g c l =
              let x = mapped_from (body_run scopes counters) runs b c in
              subst (λ (b : BodyRun). g < length b.groups → IsGroup d (b.scopes g) ops ps (entries_of b g)) x.2 (group_in x.0 x.1 g) l

          are_done : (memories : HaveMemories ops)
              → ((r : Placed) (g : ℕ) → Contains runs r → g < length (groups_in r.history) → group_cycle (interval_of p) (body_run scopes counters r) g ≤ last → AreGiven s (group_cycle (interval_of p) (body_run scopes counters r) g) (group_scope (scopes r) (loops_in counters r.history) g) ops ps)
              → AreAnsweredInTime s (events runs) last (n + counters_size counters) ops ps → AreDone (interval_of p) d ops ps s last bodies
          are_done memories given answers b g c l = record {
            group = groups_are b g c l;
            given = λ late. let x = mapped_from (body_run scopes counters) runs b c in
                subst (λ (b : BodyRun). g < length b.groups → group_cycle (interval_of p) b g ≤ last → AreGiven s (group_cycle (interval_of p) b g) (b.scopes g) ops ps) x.2 (λ l late. given x.0 g x.1 l late) l late;
            answered = answered s (events runs) (interval_of p) (slice_index (times_of p)) ops ps (n + counters_size counters) last bodies (told_so memories) d groups_are timed.times answers b g c l;
          }

          goes : (issue done : ℕ) → BodyWorks d ps s issue done (interval_of p) (latency_of p) last bodies → InnerGoes core plan delays s d ps issue done last k n counters owned ops comb runs
          goes issue done w = record {
            ends = ends_are (is_on s done) last w.ends;
            acts = λ i op q enable operands at touch there acts.
                acts_in_time s (events runs) (interval_of p) (slice_index (times_of p)) ops ps (n + counters_size counters) last bodies (told_so timed.memories) d groups_are timed.times i op q enable operands at there touch (w.accesses i q enable operands there acts);
          }

      -- and where it takes none
      goes_at_once : (s : Signals) (d : Draft) (ps : List PipeOp) (start issue done last : ℕ) → latency_of p ≡ 0 → latency_of_all core ops ≡ 0 → ((t : ℕ) → is_on s done t ≡ after (is_on s start) t) → IsStarted s start (rans core plan delays node k n runs) last
          → InnerGoes core plan delays s d ps issue done last k n counters owned ops comb runs
      goes_at_once s d ps start issue done last a b ends starts = record {
        ends = ends_after (is_on s start) (is_on s done) (rans core plan delays node k n runs) last ends
            (λ r c. let x = mapped_from (ran_of core plan delays node k n) runs r c in let w = lasts_at_once (scopes x.0) x.0 (did x.0 x.1) a b in sym (ap (λ (y : Ran). y.took) x.2) ∙ w) starts;
        acts = λ i op q enable operands at touch there acts. absurd (none_at_once core ops i op b at touch);
      }

      groups_so : (r : Placed) → Contains runs r → length (groups_in r.history) ≡ length (group_values (loops_in counters r.history))
      groups_so r c = subst (λ h. length (groups_in h) ≡ length (group_values (loops_in counters h))) (sym (did r c).is) (did r c).done.each

earlier_answers : (s : Signals) (events : List Stamped) (t last first : ℕ) (ops : List PlainOp) (ps : List PipeOp) → t ≤ last → AreAnsweredInTime s events last first ops ps → AreAnsweredInTime s events t first ops ps
earlier_answers s events t last first ops ps l h k op q a b c u e x late w y = h k op q a b c u e x (omega (arith, l, late)) w y

module _ (core : PlainCore) (plan : PlainPlan) (delays : Delays) (words : LanesHaveWords) where
  pub counted_inners_work : LoopsWork → CountedInnersWork core plan delays
  counted_inners_work work s d part nets ps issue done last k n counters owned ops comb near env scopes runs r counts issues paced timed by lanes h bounds answers t late starts = by_latency (latency_of (node_plan plan k)) refl
    where
      p : PlainNodePlan
      p = node_plan plan k

      two : (r : Placed) → Contains runs r → 2 ≤ lasts_of core plan delays k n counters owned ops comb r
      two r c = lasts_two core plan delays k n counters owned ops comb (scopes r) r (h.did r c)

      loops : Begun → List Loop
      loops b = loops_at core plan delays k n counters owned ops comb runs b

      loops_are : (r : Placed) (b : Begun) → Contains runs r → r.cycle ≡ b.cycle → loops b ≡ loops_in counters r.history
      loops_are r b c e = loops_found core plan delays k n counters owned ops comb h.from h.until runs h.in_turn two r b c e

      given : 1 ≤ latency_of (node_plan plan k) → AreInGroups s part nets loops (interval_of (node_plan plan k)) (map begun (map (body_run scopes counters) runs)) t → (r : Placed) (g : ℕ) → Contains runs r → g < length (groups_in r.history)
          → group_cycle (interval_of (node_plan plan k)) (body_run scopes counters r) g ≤ t → AreGiven s (group_cycle (interval_of (node_plan plan k)) (body_run scopes counters r) g) (group_scope (scopes r) (loops_in counters r.history) g) ops ps
      given some at r g c l m =
          let u : ℕ = group_cycle (interval_of (node_plan plan k)) (body_run scopes counters r) g in
          let a = subst (λ ls. AreAtGroup s part nets ls g (group_cycle (interval_of (node_plan plan k)) (body_run scopes counters r) g)) (loops_are r (begun (body_run scopes counters r)) c refl)
          (at (begun (body_run scopes counters r)) g (to_begun core plan delays k n counters owned ops comb scopes runs r c) l m) in
          let inside = in_run core plan delays k n counters owned ops comb scopes runs h.did some r c g l in
          let stand = h.stand r (group_cycle (interval_of (node_plan plan k)) (body_run scopes counters r) g) c (omega arith) inside (omega (arith, m, late)) in
          given_nets_stand words s (group_cycle (interval_of (node_plan plan k)) (body_run scopes counters r) g) (own_near counters near) (with_nets env counters (values_of nets.counters.items) nets.masks.items) (group_scope (scopes r) (loops_in counters r.history) g) ops ps
          (subst
          (λ x. AreAtGroup s part nets (loops_in counters x) g (group_cycle (interval_of (node_plan plan k)) (body_run scopes counters r) g) → g < length (groups_in x)
          → AreStanding s (group_cycle (interval_of (node_plan plan k)) (body_run scopes counters r) g) (own_near counters near) (with_nets env counters (values_of nets.counters.items) nets.masks.items) (group_scope (scopes r) (loops_in counters x) g))
          (sym (h.did r c).is)
          (λ a l. let e = (h.did r c).done.each in counters_stand s part nets (group_cycle (interval_of (node_plan plan k)) (body_run scopes counters r) g) g counters (h.did r c).bounds near env (scopes r) (h.did r c).each lanes a (omega (arith, l, e)) stand)
          a l)
          by

      are : AreLoopsOf s part loops (map begun (map (body_run scopes counters) runs)) t
      are b c l =
          let x = of_begun core plan delays k n counters owned ops comb scopes runs b c in
          let e : x.run.cycle ≡ b.cycle = ap (λ (y : Begun). y.cycle) x.is in
          let same = loops_are x.run b x.there e in
          let count = groups_so core plan delays k n counters owned ops comb scopes runs h.did x.run x.there in (
            subst (λ y. AreLoopsAt s y part.counters.items (loops b)) e (subst (AreLoopsAt s x.run.cycle part.counters.items) (sym same) (bounds x.run x.there (omega (arith, e, l, late)))),
            sym (ap (λ (y : Begun). y.groups) x.is) ∙ count ∙ ap (λ ls. length (group_values ls)) (sym same),
          )

      paced_goes : 1 ≤ latency_of (node_plan plan k) → InnerGoes core plan delays s d ps issue done t k n counters owned ops comb runs
      paced_goes some =
          goes core plan delays k n counters owned ops comb scopes runs h.did some s d ps t timed issue done
          (work d ops ps s part nets issue done (interval_of (node_plan plan k)) (latency_of (node_plan plan k)) t (map (body_run scopes counters) runs) loops r
          (record { some_interval = paced.interval; some_latency = some; counts = counts; issues = issues })
          (are_apart core plan delays k n counters owned ops comb scopes runs h.did some h.from h.until h.in_turn)
          (starts_are core plan delays k n counters owned ops comb scopes runs (is_on s part.start) (interval_of (node_plan plan k)) (latency_of (node_plan plan k)) t starts) are
          (λ at. are_done core plan delays k n counters owned ops comb scopes runs h.did some s d ps t timed timed.memories (given some at) (earlier_answers s (all_events core plan delays (inner counters owned ops comb) k n runs) t last (n + counters_size counters) ops ps late answers)))

      by_latency : (l : ℕ) → latency_of (node_plan plan k) ≡ l → InnerGoes core plan delays s d ps issue done t k n counters owned ops comb runs
      by_latency zero e =
          goes_at_once core plan delays k n counters owned ops comb scopes runs h.did s d ps part.start issue done t e (paced.at_once e)
          (λ u. issues.ends u ∙ ap (λ x. is_end (is_on s part.start) (is_on s nets.more) (is_on s issue) x u) e) starts
      by_latency (suc l) e = paced_goes (omega (arith, e))

  -- one group in each run
  one_group : (scope : Scope) (ops : List PlainOp) (x : History) → DidGroups scope [] ops x → length (groups_in x) ≡ 1
  one_group scope ops x did = subst (λ x. length (groups_in x) ≡ 1) (sym did.is) did.done.each

  soon : (start issue done : ℕ → Bool) (l : ℕ) → l ≡ 0 → IssuesOne start issue done l → (t : ℕ) → done t ≡ after start t
  unfolding later
  soon start issue done l e goes t = goes.ends t ∙ ap (λ x. later x issue t) e ∙ goes.issued t

  pub single_inners_work : SinglesWork → SingleInnersWork core plan delays
  single_inners_work work s d start ps issue done last k n owned ops comb near env scopes runs r issues paced timed by h answers t late starts = by_latency (latency_of (node_plan plan k)) refl
    where
      given : 1 ≤ latency_of (node_plan plan k) → (r : Placed) (g : ℕ) → Contains runs r → g < length (groups_in r.history)
          → group_cycle (interval_of (node_plan plan k)) (body_run scopes [] r) g ≤ t → AreGiven s (group_cycle (interval_of (node_plan plan k)) (body_run scopes [] r) g) (group_scope (scopes r) (loops_in [] r.history) g) ops ps
      given some r g c l m =
          let inside = in_run core plan delays k n [] owned ops comb scopes runs h.did some r c g l in
          subst (λ x. AreGiven s (group_cycle (interval_of (node_plan plan k)) (body_run scopes [] r) g) (group_scope (scopes r) (loops_in [] x) g) ops ps) (sym (h.did r c).is)
          (given_nets_stand words s (group_cycle (interval_of (node_plan plan k)) (body_run scopes [] r) g) near env (scopes r) ops ps (h.stand r (group_cycle (interval_of (node_plan plan k)) (body_run scopes [] r) g) c (omega arith) inside (omega (arith, m, late))) by)

      ones : (b : BodyRun) → Contains (map (body_run scopes []) runs) b → length b.groups ≡ 1
      ones b c = let x = mapped_from (body_run scopes []) runs b c in subst (λ (b : BodyRun). length b.groups ≡ 1) x.2 (one_group (scopes x.0) ops x.0.history (h.did x.0 x.1))

      paced_goes : 1 ≤ latency_of (node_plan plan k) → InnerGoes core plan delays s d ps issue done t k n [] owned ops comb runs
      paced_goes some =
          goes core plan delays k n [] owned ops comb scopes runs h.did some s d ps t timed issue done
          (work d ops ps s start issue done (interval_of (node_plan plan k)) (latency_of (node_plan plan k)) t (map (body_run scopes []) runs) r issues ones
          (starts_are core plan delays k n [] owned ops comb scopes runs (is_on s start) (interval_of (node_plan plan k)) (latency_of (node_plan plan k)) t starts)
          (are_done core plan delays k n [] owned ops comb scopes runs h.did some s d ps t timed timed.memories (given some) (earlier_answers s (all_events core plan delays (inner [] owned ops comb) k n runs) t last (n + counters_size []) ops ps late answers)))

      by_latency : (l : ℕ) → latency_of (node_plan plan k) ≡ l → InnerGoes core plan delays s d ps issue done t k n [] owned ops comb runs
      by_latency zero e =
          goes_at_once core plan delays k n [] owned ops comb scopes runs h.did s d ps start issue done t e (paced.at_once e)
          (soon (is_on s start) (is_on s issue) (is_on s done) (latency_of (node_plan plan k)) e issues) starts
      by_latency (suc l) e = paced_goes (omega (arith, e))
