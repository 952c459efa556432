-- Where the counters around a controller stand, and its own have nets, all stand inside.
use Rattle.std.proofs.Common.{◌≡◌, ℕ, zero, suc, ◌<◌, ◌==◌, ◌⊎◌, ⊎_elim, inl, inr, Bool, true, false, nat_lt, List, [], ◌∷◌, ◌++◌, map, length, slice_index, slice_index_or, All, Contains, refl, sym, ◌∙◌, ap, subst, arith}
use Rattle.std.proofs.lemmas.Bool.{eqb-true, ltb-true, true≢false, eq-eqb}
use Rattle.sp_netlist.specs.Draft.{Draft}
use Rattle.sp_gates.specs.Nets.{HasNet}
use Rattle.sp_core.specs.Around.{Near, lanes_of, has_lane}
use Rattle.sp_core.specs.PlainCore.{PlainCounter}
use Rattle.sp_core.specs.Store.{changed}
use Rattle.sp_node_runs.specs.BodiesGiven.{CounterNets, Nets, with_nets}
use Rattle.sp_op_nets.specs.declared.table.AroundNets.{AroundNets}
use Rattle.sp_op_nets.specs.Table.{nets_at, IsCounterAt}
use Rattle.sp_around_tables.specs.Inside.{IsInside, StandInside, entry_of}
use Rattle.sp_around_tables.proofs.Entries.{changed_case}

-- a controller has a counter of the number
pub record Names (counters : List PlainCounter) (number : ℕ) : Type 0 where
  pub counter : PlainCounter
  pub there : Contains counters counter
  pub is : counter.number ≡ number

no_name : (n : ℕ) → Names [] n → ⊥
no_name n a = let l = a.there.1 in absurd (omega (arith, l))

one_more : (c : PlainCounter) (cs : List PlainCounter) (n : ℕ) → Names cs n → Names (c ∷ cs) n
one_more c cs n a = record { counter = a.counter; there = (suc a.there.0, (let l = a.there.1 in omega (arith, l)), a.there.2); is = a.is }

not_first : (c : PlainCounter) (cs : List PlainCounter) (n : ℕ) → (n ≡ c.number → ⊥) → Names (c ∷ cs) n → Names cs n
not_first c cs n other a = at a.there.0 a.there.1 a.there.2
  where
    at : (k : ℕ) → k < length (c ∷ cs) → slice_index_or (c ∷ cs) k a.counter ≡ a.counter → Names cs n
    at zero lt e = absurd (other (sym (ap (λ (x : PlainCounter). x.number) e ∙ a.is)))
    at (suc k) lt e = record { counter = a.counter; there = (k, omega (arith, lt), e); is = a.is }

-- a counter that is around inside is one of the controller's own, or is around it and hides behind none of them
own_or_around : (lanes : ℕ) (cs : List PlainCounter) (near : List Near) (n lane : ℕ) → has_lane (map (λ (c : PlainCounter). record { number = c.number; lanes = lanes }) cs ++ near) n lane ≡ true
    → (Names cs n × (lane < lanes)) ⊎ ((has_lane near n lane ≡ true) × (Names cs n → ⊥))
own_or_around lanes [] near n lane h = inr (h, no_name n)
own_or_around lanes (c ∷ cs) near n lane h = by (c.number == n) refl h (λ g. own_or_around lanes cs near n lane g)
  where
    by : (b : Bool) → (c.number == n) ≡ b → elim b [ true ↦ nat_lt lane lanes | false ↦ has_lane (map (λ (c : PlainCounter). record { number = c.number; lanes = lanes }) cs ++ near) n lane ] ≡ true
        → (has_lane (map (λ (c : PlainCounter). record { number = c.number; lanes = lanes }) cs ++ near) n lane ≡ true → (Names cs n × (lane < lanes)) ⊎ ((has_lane near n lane ≡ true) × (Names cs n → ⊥)))
        → (Names (c ∷ cs) n × (lane < lanes)) ⊎ ((has_lane near n lane ≡ true) × (Names (c ∷ cs) n → ⊥))
    by true e h rest = inl (record { counter = c; there = (zero, omega arith, refl); is = eqb-true c.number n e }, ltb-true lane lanes h)
    by false e h rest = ⊎_elim (λ own. inl (one_more c cs n own.0, own.1)) (λ around. inr (around.0, λ a. around.1 (not_first c cs n (λ same. true≢false (sym (eq-eqb c.number n (sym same)) ∙ e)) a))) (rest h)

module _ (d : Draft) (masks : List ℕ) where
  -- an entry with a net for the value, and these for the lanes
  pub record IsGood (e : CounterNets) : Type 0 where
    pub value : HasNet d e.value 32
    pub lanes : e.masks ≡ masks

  -- a counter of the controller has such an entry
  own_is_good : (cs : List PlainCounter) (vs : List ℕ) (env : Nets) (n : ℕ) → length vs ≡ length cs → All (λ v. HasNet d v 32) vs → IsGood (env n) ⊎ Names cs n → IsGood (with_nets env cs vs masks n)
  own_is_good [] vs env n long all h = ⊎_elim (λ good. good) (λ a. absurd (no_name n a)) h
  own_is_good (c ∷ cs) [] env n long all h = absurd (omega (arith, long))
  own_is_good (c ∷ cs) (v ∷ vs) env n long all h =
      own_is_good cs vs (changed env c.number (entry_of c cs v masks)) n (omega (arith, long)) (λ k x lt. all (suc k) x (omega (arith, lt)))
      (changed_case (λ e. IsGood e ⊎ Names cs n) env c.number (entry_of c cs v masks) n (λ is. inl (record { value = all 0 0 (omega arith); lanes = refl })) (λ other. ⊎_elim (λ good. inl good) (λ a. inr (not_first c cs n other a)) h))

  -- any other number has what it had
  around_stays : (cs : List PlainCounter) (vs : List ℕ) (env : Nets) (n : ℕ) → (Names cs n → ⊥) → with_nets env cs vs masks n ≡ env n
  around_stays [] vs env n away = refl
  around_stays (c ∷ cs) [] env n away = refl
  around_stays (c ∷ cs) (v ∷ vs) env n away =
      around_stays cs vs (changed env c.number (entry_of c cs v masks)) n (λ a. away (one_more c cs n a))
      ∙ changed_case (λ e. e ≡ env n) env c.number (entry_of c cs v masks) n (λ is. absurd (away (record { counter = c; there = (zero, omega arith, refl); is = sym is }))) (λ other. refl)

-- one of the controller's own stands
own_stands : (d : Draft) (near : List Near) (counters : List PlainCounter) (around table : List AroundNets) (values masks : List ℕ) (n lane : ℕ) → IsInside counters around values masks table → All (λ v. HasNet d v 32) values
    → ((i : ℕ) → i < length masks → HasNet d (slice_index masks i) 1) → lane < length masks → Names counters n → IsCounterAt d table n lane
own_stands d near counters around table values masks n lane inside all each lt a =
    let good = own_is_good d masks counters values (nets_at around) n inside.many all (inr a) in
    let same = inside.nets n in
    let lanes = ap (λ (e : CounterNets). e.masks) same ∙ good.lanes in
    record {
      within = subst (λ m. m < length table) a.is (inside.within a.counter a.there);
      value = subst (λ (e : CounterNets). HasNet d e.value 32) (sym same) good.value;
      has = subst (λ (ms : List ℕ). lane < length ms) (sym lanes) lt;
      masks = subst (λ (ms : List ℕ). (i : ℕ) → i < length ms → HasNet d (slice_index ms i) 1) (sym lanes) each;
    }

-- and so does one that is around it and hides behind none of its own
around_stands : (d : Draft) (counters : List PlainCounter) (around table : List AroundNets) (values masks : List ℕ) (n lane : ℕ) → IsInside counters around values masks table → IsCounterAt d around n lane → (Names counters n → ⊥) → IsCounterAt d table n lane
around_stands d counters around table values masks n lane inside at away =
    let same = inside.nets n ∙ around_stays d masks counters values (nets_at around) n away in
    record {
      within = (let l = inside.longer in let m = at.within in omega (arith, l, m));
      value = subst (λ (e : CounterNets). HasNet d e.value 32) (sym same) at.value;
      has = subst (λ (e : CounterNets). lane < length e.masks) (sym same) at.has;
      masks = subst (λ (e : CounterNets). (i : ℕ) → i < length e.masks → HasNet d (slice_index e.masks i) 1) (sym same) at.masks;
    }

pub stand_inside : StandInside
stand_inside d near counters around table values masks inside all_around all each lanes n lane h =
    ⊎_elim
    (λ own. own_stands d near counters around table values masks n lane inside all each (let l = own.1 in let m = lanes own.0.counter own.0.there in omega (arith, l, m)) own.0)
    (λ other. around_stands d counters around table values masks n lane inside (all_around n lane other.0) other.1)
    (own_or_around (lanes_of counters) counters near n lane h)
