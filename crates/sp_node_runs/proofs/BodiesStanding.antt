-- What is given stands, where counters around do; and counters of a loop stand inside of it.
use Rattle.std.proofs.Common.{◌≡◌, ℕ, zero, suc, ◌+◌, ◌-◌, ◌*◌, ◌%◌, ◌<◌, ◌≤◌, ◌^◌, ◌==◌, ◌||◌, ◌&&◌, nat_lt, Bool, true, false, ℤ, List, [], ◌∷◌, ◌++◌, map, length, slice_index, refl, sym, ap, ◌∙◌, arith}
use Rattle.std.proofs.lemmas.Bool.{eq-eqb, eqb-true, ltb-true, lt-ltb, le-leb}
use Rattle.sp_words.specs.Types.{int_type}
use Rattle.sp_words.specs.Words.{word_add, wrap}
use Rattle.sp_netlist.specs.Signals.{Signals}
use Rattle.sp_gates.specs.Tested.{is_on}
use Rattle.sp_core.specs.declared.operation.OpKind.{OpKind}
use Rattle.sp_core.specs.Around.{Near, has_lane}
use Rattle.sp_core.specs.History.{Bounds}
use Rattle.sp_core.specs.Operators.{bit}
use Rattle.sp_core.specs.PlainCore.{PlainOp, PlainCounter}
use Rattle.sp_core.specs.Scope.{InGroup, Scope, in_lanes, loop_of, loops_of, lane_step, with_counters, is_some_up_to, is_some_live}
use Rattle.sp_lane_nets.specs.Laws.{LanesHaveWords}
use Rattle.sp_pipe.specs.declared.part.PipeOp.{PipeOp}
use Rattle.sp_part_runs.specs.ActsCircuits.{AreGiven, net_of}
use Rattle.sp_part_runs.specs.ActsEntries.{computed_word}
use Rattle.sp_node_runs.specs.BodiesGiven.{CounterNets, Nets, net_step, with_nets, IsLaneOf, AreStanding, IsGivenBy, counted, lived, AreGivenBy}

-- fewer lanes are there, too
fewer_lanes : (near : List Near) (c lane more : ℕ) → lane ≤ more → has_lane near c more ≡ true → has_lane near c lane ≡ true
fewer_lanes [] c lane more l h = h
fewer_lanes (x ∷ rest) c lane more l h = by (x.number == c) h (fewer_lanes rest c lane more l)
  where
    by : (b : Bool) → (elim b as (λ _. Bool) [ true ↦ nat_lt more x.lanes | false ↦ has_lane rest c more ]) ≡ true → (has_lane rest c more ≡ true → has_lane rest c lane ≡ true)
        → (elim b as (λ _. Bool) [ true ↦ nat_lt lane x.lanes | false ↦ has_lane rest c lane ]) ≡ true
    by true e rest = let m = ltb-true more x.lanes e in lt-ltb lane x.lanes (omega (arith, m, l))
    by false e rest = rest e

same_lanes : (f g : ℕ → Bool) (first more : ℕ) → ((l : ℕ) → l ≤ first + more → f l ≡ g l) → is_some_up_to f first more ≡ is_some_up_to g first more
same_lanes f g first zero h = h first (omega arith)
same_lanes f g first (suc more) h =
    ap (λ b. b || f (first + suc more)) (same_lanes f g first more (λ l m. h l (omega (arith, m)))) ∙ ap (λ b. is_some_up_to g first more || b) (h (first + suc more) (omega arith))

as_bit : (w : ℕ) (b : Bool) → w < 2 → (w == 1) ≡ b → w ≡ bit b
as_bit zero b l e = ap bit e
as_bit (suc zero) b l e = ap bit e
as_bit (suc (suc w)) b l e = absurd (omega (arith, l))

module _ (words : LanesHaveWords) (s : Signals) (t : ℕ) (near : List Near) (env : Nets) (scope : Scope) (stand : AreStanding s t near env scope) where
  given_word : (k : OpKind) (net : ℕ) (ty : _) → IsGivenBy s near env k net → s.net t net ≡ computed_word scope k ty []
  given_word _ _ ty (counted c lane net has word) =
      let h = stand c lane has in
      word t ∙ ap (λ v. word_add int_type v ((lane * (env c).step) % 2 ^ 32)) h.value ∙ ap (λ n. word_add int_type (wrap int_type (scope c).value) ((lane * n) % 2 ^ 32)) h.step
      ∙ words (scope c).value (lane * (scope c).lane_step)
  given_word _ _ ty (lived c first last net order has small on) =
      as_bit (s.net t net) (is_some_live (scope c).live first last) (small t)
      (on t ∙ same_lanes (λ l. is_on s (slice_index (env c).masks l) t) (scope c).live first (last - first) (λ l m. (stand c l (fewer_lanes near c l last (omega (arith, m, order)) has)).live)
      ∙ ap (λ b. b && is_some_up_to (scope c).live first (last - first)) (sym (le-leb first last order)))

  pub given_stand : (ops : List PlainOp) (ps : List PipeOp) → AreGivenBy s near env ops ps → AreGiven s t scope ops ps
  given_stand ops ps by k op p o a e = given_word op.kind (net_of p.act) op.ty (by k op p o a e)

-- the counters of a loop, inside of it
module _ (s : Signals) (t : ℕ) (masks : List ℕ) (live : ℕ → Bool) (lanes : ℕ) (lives : (lane : ℕ) → lane < lanes → is_on s (slice_index masks lane) t ≡ live lane) where
  abbrev Rel : CounterNets → InGroup → ℕ → Type 0
  Rel x y lane = IsLaneOf s t x y lane

  abbrev own_nets : PlainCounter → List PlainCounter → (value : ℕ) → CounterNets
  own_nets c others n = record { value = n; step = net_step c others; masks = masks }

  abbrev own_group : PlainCounter → Bounds → List PlainCounter → List Bounds → ℤ → InGroup
  own_group c b others bs v = record { value = v; lane_step = lane_step (loop_of in_lanes c b) (loops_of in_lanes others bs); live = live }

  same_step : (c : PlainCounter) (b : Bounds) (others : List PlainCounter) (bs : List Bounds) → length bs ≡ length others → net_step c others ≡ lane_step (loop_of in_lanes c b) (loops_of in_lanes others bs)
  same_step c b [] bs e = refl
  same_step c b (o ∷ others) [] e = absurd (omega (arith, e))
  same_step c b (o ∷ others) (x ∷ bs) e = refl

  own_lane : (c : PlainCounter) (b : Bounds) (others : List PlainCounter) (bs : List Bounds) (n : ℕ) (v : ℤ) (lane : ℕ) → length bs ≡ length others → lane < lanes → s.net t n ≡ wrap int_type v → Rel (own_nets c others n) (own_group c b others bs v) lane
  own_lane c b others bs n v lane e l w = record { value = w; step = same_step c b others bs e; live = lives lane l }

  chosen : (b : Bool) (x y : CounterNets) (p q : InGroup) (lane : ℕ) → (b ≡ true → Rel x p lane) → (b ≡ false → Rel y q lane) → Rel (elim b as (λ _. CounterNets) [ true ↦ x | false ↦ y ]) (elim b as (λ _. InGroup) [ true ↦ p | false ↦ q ]) lane
  chosen true x y p q lane h k = h refl
  chosen false x y p q lane h k = k refl

  first_word : (n : ℕ) (nets : List ℕ) (v : ℤ) (values : List ℤ) → map (s.net t) (n ∷ nets) ≡ map (wrap int_type) (v ∷ values) → (s.net t n ≡ wrap int_type v) × (map (s.net t) nets ≡ map (wrap int_type) values)
  first_word n nets v values e = (cc (e), cc (e))

  no_word : (n : ℕ) (nets : List ℕ) → map (s.net t) (n ∷ nets) ≡ [] → ⊥
  no_word n nets e = absurd (cc (e))

  no_net : (v : ℤ) (values : List ℤ) → [] ≡ map (wrap int_type) (v ∷ values) → ⊥
  no_net v values e = absurd (cc (e))

  -- a lane that stands is kept by further counters
  kept : (counters : List PlainCounter) (bs : List Bounds) (nets : List ℕ) (values : List ℤ) (env : Nets) (scope : Scope) (c lane : ℕ) → lane < lanes → length bs ≡ length counters → length values ≡ length counters
      → map (s.net t) nets ≡ map (wrap int_type) values → Rel (env c) (scope c) lane → Rel (with_nets env counters nets masks c) (with_counters scope (loops_of in_lanes counters bs) values live c) lane
  kept [] bs nets values env scope c lane l b v w h = h
  kept (o ∷ counters) [] nets values env scope c lane l b v w h = absurd (omega (arith, b))
  kept (o ∷ counters) (x ∷ bs) nets [] env scope c lane l b v w h = absurd (omega (arith, v))
  kept (o ∷ counters) (x ∷ bs) [] (z ∷ values) env scope c lane l b v w h = absurd (no_net z values w)
  kept (o ∷ counters) (x ∷ bs) (n ∷ nets) (z ∷ values) env scope c lane l b v w h =
      let f = first_word n nets z values w in
      kept counters bs nets values _ _ c lane l (omega (arith, b)) (omega (arith, v)) f.1
      (chosen (c == o.number) (own_nets o counters n) (env c) (own_group o x counters bs z) (scope c) lane (λ e. own_lane o x counters bs n z lane (omega (arith, b)) l f.0) (λ e. h))

  other_way : (a b : ℕ) (x : Bool) → (a == b) ≡ x → (b == a) ≡ x
  other_way a b true e = eq-eqb b a (sym (eqb-true a b e))
  other_way a b false e = by (b == a) refl
    where
      by : (y : Bool) → (b == a) ≡ y → y ≡ false
      by false f = refl
      by true f = let g = eq-eqb a b (sym (eqb-true b a f)) in absurd (cc (e, g))

  abbrev own_near : List PlainCounter → List Near
  own_near counters = map (λ (c : PlainCounter). record { number = c.number; lanes = lanes }) counters

  pub inside_stand : (counters : List PlainCounter) (bs : List Bounds) (nets : List ℕ) (values : List ℤ) (near : List Near) (env : Nets) (scope : Scope) (c lane : ℕ) → length bs ≡ length counters → length values ≡ length counters
      → map (s.net t) nets ≡ map (wrap int_type) values → (has_lane near c lane ≡ true → Rel (env c) (scope c) lane) → has_lane (own_near counters ++ near) c lane ≡ true
      → Rel (with_nets env counters nets masks c) (with_counters scope (loops_of in_lanes counters bs) values live c) lane
  inside_stand [] bs nets values near env scope c lane b v w h g = h g
  inside_stand (o ∷ counters) [] nets values near env scope c lane b v w h g = absurd (omega (arith, b))
  inside_stand (o ∷ counters) (x ∷ bs) nets [] near env scope c lane b v w h g = absurd (omega (arith, v))
  inside_stand (o ∷ counters) (x ∷ bs) [] (z ∷ values) near env scope c lane b v w h g = absurd (no_net z values w)
  inside_stand (o ∷ counters) (x ∷ bs) (n ∷ nets) (z ∷ values) near env scope c lane b v w h g =
      by (o.number == c) refl g (λ k. inside_stand counters bs nets values near _ _ c lane (omega (arith, b)) (omega (arith, v)) f.1 k)
    where
      f : (s.net t n ≡ wrap int_type z) × (map (s.net t) nets ≡ map (wrap int_type) values)
      f = first_word n nets z values w

      env1 : Nets
      env1 k = elim (k == o.number) as (λ _. CounterNets) [ true ↦ own_nets o counters n | false ↦ env k ]

      scope1 : Scope
      scope1 k = elim (k == o.number) as (λ _. InGroup) [ true ↦ own_group o x counters bs z | false ↦ scope k ]

      by : (y : Bool) → (o.number == c) ≡ y → (elim y as (λ _. Bool) [ true ↦ nat_lt lane lanes | false ↦ has_lane (own_near counters ++ near) c lane ]) ≡ true
          → ((has_lane near c lane ≡ true → Rel (env1 c) (scope1 c) lane) → has_lane (own_near counters ++ near) c lane ≡ true → Rel (with_nets env1 counters nets masks c) (with_counters scope1 (loops_of in_lanes counters bs) values live c) lane)
          → Rel (with_nets env1 counters nets masks c) (with_counters scope1 (loops_of in_lanes counters bs) values live c) lane
      by true e g rest =
          let l = ltb-true lane lanes g in
          kept counters bs nets values env1 scope1 c lane l (omega (arith, b)) (omega (arith, v)) f.1
          (chosen (c == o.number) (own_nets o counters n) (env c) (own_group o x counters bs z) (scope c) lane (λ i. own_lane o x counters bs n z lane (omega (arith, b)) l f.0) (λ i. let j = other_way o.number c true e in absurd (cc (i, j))))
      by false e g rest =
          rest (λ k. chosen (c == o.number) (own_nets o counters n) (env c) (own_group o x counters bs z) (scope c) lane (λ i. let j = other_way o.number c false e in absurd (cc (i, j))) (λ i. h k)) g
