-- What the operations of an inner body did is told by the timeline, and nothing else at their numbers.
use Rattle.std.proofs.Common.{◌≡◌, ℕ, zero, suc, ◌+◌, ◌*◌, ◌<◌, ◌⊎◌, inl, inr, Bool, true, false, ℤ, List, [], ◌∷◌, ◌++◌, map, length, slice_index, slice_index_or, Option, Some, refl, sym, ap, subst, ◌∙◌, arith}
use Rattle.std.specs.List.{Contains}
use Rattle.std.specs.Prelude.{flat_map}
use Rattle.std.proofs.lemmas.List.Elements.{Contains-append_left, Contains-append_right, Contains-append_cases}
use Rattle.sp_core.specs.declared.operation.OpKind.{OpKind}
use Rattle.sp_core.specs.declared.operation.OpKind.TheVariants as kind
use Rattle.sp_core.specs.Events.{Standing, inside_at, before, in_group_of, Event, Moment, touches, renews, Act, reads, writes, puts, takes, resets, act_of, bounds_moments, renewal_in_body}
use Rattle.sp_core.specs.Declarations.{mem}
use Rattle.sp_core.specs.History.{Entry, left_out, touched, Bounds, History, inner_ran}
use Rattle.sp_core.specs.Numbering.{counters_size}
use Rattle.sp_core.specs.PlainCore.{PlainOp, PlainCounter, PlainNode, inner, PlainCore}
use Rattle.sp_core.specs.Scope.{in_lanes, loops_of, group_values}
use Rattle.sp_core.specs.Sequential.{has_reset}
use Rattle.sp_plan.specs.PlainPlan.{PlainNodePlan, PlainPlan, node_plan}
use Rattle.sp_time.specs.Lists.{Each}
use Rattle.sp_machine.specs.Stamps.{Stamped, Copies, stamped, moved, later, list_stamped}
use Rattle.sp_machine.specs.Timeline.{times_of, interval_of, latency_of, inner_took, issued_by, issued, body_events, timed}
use Rattle.sp_machine.specs.Transfers.{Delays}
use Rattle.sp_part_runs.specs.ActsEntries.{IsOpAt, touches_memory, entry_at}
use Rattle.sp_part_runs.specs.BodiesActing.{BodyRun, entries_of, group_cycle}
use Rattle.sp_node_runs.specs.Runs.{Placed, events_of}
use Rattle.sp_node_runs.specs.RunsTold.{all_events}
use Rattle.sp_node_runs.specs.Bodies.{Scopes, groups_in, body_run, DidGroups, HaveMemories}
use Rattle.sp_node_runs.specs.BodiesTold.{Happens, MadeAt, AreTold}
use Rattle.sp_node_runs.proofs.BodiesListed.{mapped_to, mapped_from, joined_to, joined_from, event_at, list_has, list_from, IsBelow, below_both, bounds_below, not_below}

-- an access is an event
pub some_act : (k : OpKind) (w : ℕ) → touches_memory k ≡ true → (a : Act) × (act_of k w ≡ Some a)
some_act kind.Read w h = (reads w, refl)
some_act kind.Write w h = (writes w, refl)
some_act kind.Enq w h = (puts w, refl)
some_act kind.Deq w h = (takes w, refl)
some_act kind.Reset w h = (resets, refl)
some_act (kind.Word x) w h = absurd (cc)
some_act (kind.Count c lane) w h = absurd (cc)
some_act (kind.Live c first last) w h = absurd (cc)
some_act (kind.One op) w h = absurd (cc)
some_act (kind.Two op) w h = absurd (cc)
some_act (kind.Shift left by) w h = absurd (cc)
some_act kind.Mux w h = absurd (cc)
some_act (kind.Cast to) w h = absurd (cc)

-- an entry that touched its memory is one of its list
pub entry_within : (es : List Entry) (k : ℕ) (is : List ℕ) (w : ℕ) → entry_at es k ≡ touched is w → k < length es
entry_within [] k is w e = absurd (let z : left_out ≡ touched is w = e in cc (z))
entry_within (x ∷ es) zero is w e = omega arith
entry_within (x ∷ es) (suc k) is w e = let h = entry_within es k is w e in omega (arith, h)

module _ (core : PlainCore) (plan : PlainPlan) (delays : Delays) where
  renewals_below : (owned : List ℕ) → Each (IsBelow 0) (flat_map (renewal_in_body core) owned)
  renewals_below [] = tt
  renewals_below (m ∷ owned) = below_both 0 (renewal_in_body core m) (flat_map (renewal_in_body core) owned) (one (has_reset (mem core m).kind (mem core m).start)) (renewals_below owned)
    where
      one : (b : Bool) → Each (IsBelow 0) (elim b as (λ _. List Moment) [ true ↦ [] | false ↦ renews m ∷ [] ])
      one true = tt
      one false = (tt, tt)

  module _ (p : PlainNodePlan) (copies : Copies) (k n : ℕ) (st : Standing) (owned : List ℕ) (ops : List PlainOp) where
    abbrev pub group_list : (group : ℕ) → List ℤ → List Entry → List Stamped
    group_list g v es = list_stamped copies (λ i. issued core plan delays p g + slice_index (times_of p) i) 0 n (inside_at st k (in_group_of g 0) v) ops es

    abbrev events : (group : ℕ) → List (List ℤ) → List (List Entry) → List Stamped
    events g values groups = body_events core plan delays p copies k n g st owned ops values groups

    abbrev renewals : (group : ℕ) → List Stamped
    renewals g = stamped copies (issued core plan delays p g) (flat_map (renewal_in_body core) owned)

    pub body_has : (g j q : ℕ) (values : List (List ℤ)) (groups : List (List Entry)) (x : Stamped) → j < length groups → length groups ≡ length values → q ≡ g + j → Contains (group_list q (slice_index_or values j []) (slice_index_or groups j [])) x → Contains (events g values groups) x
    body_has g j q [] [] x l e s c = absurd (omega (arith, l))
    body_has g j q (v ∷ values) [] x l e s c = absurd (omega (arith, l))
    body_has g j q [] (es ∷ groups) x l e s c = absurd (omega (arith, e))
    body_has g zero q (v ∷ values) (es ∷ groups) x l e s c =
        Contains-append_left (renewals g ++ group_list g v es) (events (suc g) values groups) x
        (Contains-append_right (renewals g) (group_list g v es) x (subst (λ z. Contains (group_list z v es) x) {x = q} {y = g} (omega (arith, s)) c))
    body_has g (suc j) q (v ∷ values) (es ∷ groups) x l e s c =
        Contains-append_right (renewals g ++ group_list g v es) (events (suc g) values groups) x (body_has (suc g) j q values groups x (omega (arith, l)) (omega (arith, e)) (omega (arith, s)) c)

    -- an event of a group
    pub record InGroup (g : ℕ) (values : List (List ℤ)) (groups : List (List Entry)) (x : Stamped) : Type 0 where
      pub group : ℕ
      pub number : ℕ
      pub within : group < length groups
      pub is : number ≡ g + group
      pub there : Contains (group_list number (slice_index_or values group []) (slice_index_or groups group [])) x

    pub body_from : (g : ℕ) (values : List (List ℤ)) (groups : List (List Entry)) (u c : ℕ) (e : Event) → Contains (events g values groups) (record { cycle = u; copy = c; moment = touches e }) → InGroup g values groups (record { cycle = u; copy = c; moment = touches e })
    body_from g [] groups u c e (i, l, x) = absurd (omega (arith, l))
    body_from g (v ∷ values) [] u c e (i, l, x) = absurd (omega (arith, l))
    body_from g (v ∷ values) (es ∷ groups) u c e x = by (Contains-append_cases (renewals g ++ group_list g v es) (events (suc g) values groups) _ x) (body_from (suc g) values groups u c e)
      where
        at : Stamped
        at = record { cycle = u; copy = c; moment = touches e }

        here : Contains (renewals g) (record { cycle = u; copy = c; moment = touches e }) ⊎ Contains (group_list g v es) (record { cycle = u; copy = c; moment = touches e }) → InGroup g (v ∷ values) (es ∷ groups) (record { cycle = u; copy = c; moment = touches e })
        here (inl y) = absurd (let z = not_below copies (issued core plan delays p g) 0 (flat_map (renewal_in_body core) owned) (renewals_below owned) u c e y in omega (arith, z))
        here (inr y) = record { group = 0; number = g; within = omega arith; is = omega arith; there = y }

        by : Contains (renewals g ++ group_list g v es) (record { cycle = u; copy = c; moment = touches e }) ⊎ Contains (events (suc g) values groups) (record { cycle = u; copy = c; moment = touches e })
            → (Contains (events (suc g) values groups) (record { cycle = u; copy = c; moment = touches e }) → InGroup (suc g) values groups (record { cycle = u; copy = c; moment = touches e })) → InGroup g (v ∷ values) (es ∷ groups) (record { cycle = u; copy = c; moment = touches e })
        by (inl y) rest = here (Contains-append_cases (renewals g) (group_list g v es) _ y)
        by (inr y) rest =
            let r = rest y in
            record { group = suc r.group; number = r.number; within = (let l = r.within in omega (arith, l)); is = (let i = r.is in omega (arith, i)); there = r.there }

  module _ (k n : ℕ) (counters : List PlainCounter) (owned : List ℕ) (ops : List PlainOp) (comb : Option ℕ) where
    abbrev node : PlainNode
    node = inner counters owned ops comb

    abbrev p : PlainNodePlan
    p = issued_by core ops (node_plan plan k)

    abbrev first : ℕ
    first = n + counters_size counters

    abbrev values_of : List Bounds → List (List ℤ)
    values_of bs = group_values (loops_of in_lanes counters bs)

    abbrev own_events : Standing → Copies → List Bounds → List (List Entry) → List Stamped
    own_events st copies bs groups = body_events core plan delays p copies k first 0 st owned ops (values_of bs) groups

    abbrev bound_events : Standing → Copies → List Bounds → List Stamped
    bound_events st copies bs = stamped copies 0 (bounds_moments n (inside_at st k before []) counters bs)

    inner_told : (st : Standing) (copies : Copies) (bs : List Bounds) (counts : List ℕ) (groups : List (List Entry)) → (timed core plan delays node k n st copies (inner_ran bs counts groups)).events ≡ bound_events st copies bs ++ own_events st copies bs groups
    unfolding timed
    inner_told st copies bs counts groups = refl

    pub inner_lasts : (st : Standing) (copies : Copies) (bs : List Bounds) (counts : List ℕ) (groups : List (List Entry)) → (timed core plan delays node k n st copies (inner_ran bs counts groups)).took ≡ inner_took (length groups) (interval_of p) (latency_of p)
    unfolding timed
    inner_lasts st copies bs counts groups = refl

    abbrev cycle_of : Placed → (group place : ℕ) → ℕ
    cycle_of r g i = r.cycle + 1 + g * interval_of p + slice_index (times_of p) i

    abbrev MadeIn : Placed → History → Type 0
    MadeIn r h = (i : ℕ) (op : PlainOp) (g : ℕ) (is : List ℕ) (w : ℕ) → IsOpAt ops i op → g < length (groups_in h) → touches_memory op.kind ≡ true → entry_at (slice_index_or (groups_in h) g []) i ≡ touched is w
        → (e : Event) × Happens (events_of core plan delays node k n (record r { history = h })) (first + i) (cycle_of r g i) e × (e.indices ≡ is) × (act_of op.kind w ≡ Some e.act)

    made_in : (r : Placed) (bs : List Bounds) (counts : List ℕ) (groups : List (List Entry)) → HaveMemories ops → length groups ≡ length (values_of bs) → MadeIn r (inner_ran bs counts groups)
    made_in r bs counts groups memories same i op g is w at l touch e =
        let m = memories i op at touch in
        let a = some_act op.kind w touch in
        let v = slice_index_or (values_of bs) g [] in
        let es = slice_index_or groups g [] in
        let st = inside_at r.standing k (in_group_of g 0) v in
        let c = list_has r.copies st (λ j. issued core plan delays p g + slice_index (times_of p) j) 0 first ops es i op is w m.0 a.0 at (entry_within es i is w e) e m.1 a.1 in
        let d = body_has p r.copies k first r.standing owned ops 0 g g (values_of bs) groups _ l same (omega arith) c in
        let f = mapped_to (moved r.cycle) _ _ (Contains-append_right (bound_events r.standing r.copies bs) (own_events r.standing r.copies bs groups) _ d) in
        let x = subst (λ es. Contains (later r.cycle es) (moved r.cycle (event_at (issued core plan delays p g + slice_index (times_of p) (0 + i)) (r.copies m.0) (first + i) st m.0 is a.0))) (sym (inner_told r.standing r.copies bs counts groups)) f in (
          record { number = first + i; standing = st; mem = m.0; indices = is; act = a.0 },
          record {
            copy = r.copies m.0;
            there = subst (λ t. Contains (events_of core plan delays node k n (record r { history = inner_ran bs counts groups })) (event_at t (r.copies m.0) (first + i) st m.0 is a.0)) {x = r.cycle + (issued core plan delays p g + slice_index (times_of p) (0 + i))} {y = cycle_of r g i} (at_cycle g i) x;
            numbered = refl;
          },
          refl,
          a.1,
        )
      where
        at_cycle : (g i : ℕ) → r.cycle + (issued core plan delays p g + slice_index (times_of p) (0 + i)) ≡ cycle_of r g i
        at_cycle g i = let e : slice_index (times_of p) (0 + i) ≡ slice_index (times_of p) i = ap (slice_index (times_of p)) {x = 0 + i} {y = i} (omega arith) in omega (arith, e)

    -- and the other way
    pub record FoundIn (r : Placed) (h : History) (i : ℕ) (kind : OpKind) (t : ℕ) (e : Event) : Type 0 where
      pub group : ℕ
      pub word : ℕ
      pub within : group < length (groups_in h)
      pub entry : entry_at (slice_index_or (groups_in h) group []) i ≡ touched e.indices word
      pub cycle : t ≡ cycle_of r group i
      pub act : act_of kind word ≡ Some e.act

    abbrev FromIn : Placed → History → Type 0
    FromIn r h = (i : ℕ) (op : PlainOp) (t : ℕ) (e : Event) → IsOpAt ops i op → Happens (events_of core plan delays node k n (record r { history = h })) (first + i) t e → FoundIn r h i op.kind t e

    same_op : (i j : ℕ) (x y : PlainOp) → i ≡ j → IsOpAt ops i x → IsOpAt ops j y → x ≡ y
    same_op i j x y e a b = sym (a.is x) ∙ ap (λ m. slice_index_or ops m x) e ∙ b.is x

    from_in : (r : Placed) (bs : List Bounds) (counts : List ℕ) (groups : List (List Entry)) → FromIn r (inner_ran bs counts groups)
    from_in r bs counts groups i op t e at h =
        let c = subst (λ es. Contains (later r.cycle es) (record { cycle = t; copy = h.copy; moment = touches e })) (inner_told r.standing r.copies bs counts groups) h.there in
        let m = mapped_from (moved r.cycle) (bound_events r.standing r.copies bs ++ own_events r.standing r.copies bs groups) _ c in
        of_moved m.0 m.1 m.2
      where
        of_group : (u : ℕ) → t ≡ r.cycle + u → InGroup p r.copies k first r.standing owned ops 0 (values_of bs) groups (record { cycle = u; copy = h.copy; moment = touches e }) → FoundIn r (inner_ran bs counts groups) i op.kind t e
        of_group u now g =
            let x = list_from r.copies (inside_at r.standing k (in_group_of g.number 0) (slice_index_or (values_of bs) g.group [])) (λ j. issued core plan delays p g.number + slice_index (times_of p) j) 0 first ops (slice_index_or groups g.group []) u h.copy e g.there in
            let a = x.number in
            let b = h.numbered in
            let place : x.place ≡ i = omega (arith, a, b) in
            let same : x.op ≡ op = same_op x.place i x.op op place x.at at in
            let y = x.cycle in
            let z = g.is in
            let turn : g.number * interval_of p ≡ g.group * interval_of p = ap (λ m. m * interval_of p) {x = g.number} {y = g.group} (omega (arith, z)) in
            let spot : slice_index (times_of p) (0 + x.place) ≡ slice_index (times_of p) i = ap (slice_index (times_of p)) {x = 0 + x.place} {y = i} (omega (arith, place)) in
            record {
              group = g.group;
              word = x.word;
              within = g.within;
              entry = ap (entry_at (slice_index_or groups g.group [])) (sym place) ∙ x.entry;
              cycle = omega (arith, now, y, turn, spot);
              act = ap (λ (o : PlainOp). act_of o.kind x.word) (sym same) ∙ x.act;
            }

        of_own : (u : ℕ) → t ≡ r.cycle + u → Contains (bound_events r.standing r.copies bs) (record { cycle = u; copy = h.copy; moment = touches e }) ⊎ Contains (own_events r.standing r.copies bs groups) (record { cycle = u; copy = h.copy; moment = touches e }) → FoundIn r (inner_ran bs counts groups) i op.kind t e
        of_own u now (inl x) =
            absurd (let l = not_below r.copies 0 first (bounds_moments n (inside_at r.standing k before []) counters bs) (bounds_below n first (inside_at r.standing k before []) counters bs (omega arith)) u h.copy e x in let b = h.numbered in omega (arith, l, b))
        of_own u now (inr x) = of_group u now (body_from p r.copies k first r.standing owned ops 0 (values_of bs) groups u h.copy e x)

        of_moved : (x : Stamped) → Contains (bound_events r.standing r.copies bs ++ own_events r.standing r.copies bs groups) x → moved r.cycle x ≡ record { cycle = t; copy = h.copy; moment = touches e } → FoundIn r (inner_ran bs counts groups) i op.kind t e
        of_moved x c m =
            let copy : x.copy ≡ h.copy = ap (λ (z : Stamped). z.copy) m in
            let moment : x.moment ≡ touches e = ap (λ (z : Stamped). z.moment) m in
            let is : x ≡ record { cycle = x.cycle; copy = h.copy; moment = touches e } = ap (λ y. record { cycle = x.cycle; copy = y; moment = x.moment }) copy ∙ ap (λ y. record { cycle = x.cycle; copy = h.copy; moment = y }) moment in
            of_own x.cycle (sym (ap (λ (z : Stamped). z.cycle) m))
            (Contains-append_cases (bound_events r.standing r.copies bs) (own_events r.standing r.copies bs groups) _ (subst (Contains (bound_events r.standing r.copies bs ++ own_events r.standing r.copies bs groups)) is c))

    module _ (scopes : Scopes) (memories : HaveMemories ops) (runs : List Placed) (did : (r : Placed) → Contains runs r → DidGroups (scopes r) counters ops r.history) where
      abbrev bodies : List BodyRun
      bodies = map (body_run scopes counters) runs

      made_at : (r : Placed) → Contains runs r → MadeIn r r.history
      made_at r c = let h = did r c in subst (MadeIn r) (sym h.is) (made_in r h.bounds h.counts h.groups memories h.done.each)

      from_at : (r : Placed) → Contains runs r → FromIn r r.history
      from_at r c = let h = did r c in subst (FromIn r) (sym h.is) (from_in r h.bounds h.counts h.groups)

      pub inners_are_told : AreTold (interval_of p) (slice_index (times_of p)) ops first bodies (all_events core plan delays node k n runs)
      inners_are_told = record { made = made; told = tells }
        where
          of_run : (i : ℕ) (op : PlainOp) (g : ℕ) (is : List ℕ) (w : ℕ) (r : Placed) → Contains runs r → IsOpAt ops i op → g < length (groups_in r.history) → touches_memory op.kind ≡ true → entry_at (slice_index_or (groups_in r.history) g []) i ≡ touched is w
              → (e : Event) × Happens (all_events core plan delays node k n runs) (first + i) (group_cycle (interval_of p) (body_run scopes counters r) g + slice_index (times_of p) i) e × (e.indices ≡ is) × (act_of op.kind w ≡ Some e.act)
          of_run i op g is w r c at l touch e =
              let x = made_at r c i op g is w at l touch e in
              let h = x.1 in
              (x.0, record { copy = h.copy; there = joined_to (events_of core plan delays node k n) runs r _ c h.there; numbered = h.numbered }, x.2, x.3)

          made : (i : ℕ) (op : PlainOp) (b : BodyRun) (g : ℕ) (is : List ℕ) (w : ℕ) → IsOpAt ops i op → Contains bodies b → g < length b.groups → touches_memory op.kind ≡ true → entry_at (entries_of b g) i ≡ touched is w
              → (e : Event) × Happens (all_events core plan delays node k n runs) (first + i) (group_cycle (interval_of p) b g + slice_index (times_of p) i) e × (e.indices ≡ is) × (act_of op.kind w ≡ Some e.act)
          made i op b g is w at c l touch e =
              let m = mapped_from (body_run scopes counters) runs b c in
              subst
              (λ (b : BodyRun). g < length b.groups → entry_at (entries_of b g) i ≡ touched is w
              → (e : Event) × Happens (all_events core plan delays node k n runs) (first + i) (group_cycle (interval_of p) b g + slice_index (times_of p) i) e × (e.indices ≡ is) × (act_of op.kind w ≡ Some e.act))
              m.2 (λ l e. of_run i op g is w m.0 m.1 at l touch e) l e

          tells : (i : ℕ) (op : PlainOp) (t : ℕ) (e : Event) → IsOpAt ops i op → Happens (all_events core plan delays node k n runs) (first + i) t e → MadeAt (interval_of p) (slice_index (times_of p)) bodies i op.kind t e
          tells i op t e at h =
              let j = joined_from (events_of core plan delays node k n) runs _ h.there in
              let f = from_at j.0 j.1 i op t e at (record { copy = h.copy; there = j.2; numbered = h.numbered }) in
              record { run = body_run scopes counters j.0; group = f.group; word = f.word; there = mapped_to (body_run scopes counters) runs j.0 j.1; within = f.within; entry = f.entry; cycle = f.cycle; act = f.act }
