-- The least plan of an inner body is one.
use Rattle.std.proofs.Common.{◌≡◌, ℕ, ◌+◌, ◌<◌, ◌≤◌, ◌⊎◌, ◌==◌, max, Bool, true, false, List, [], ◌∷◌, length, Option, Some, None, inl, inr, arith, refl, sym, ap, ◌∙◌, subst}
use Rattle.std.proofs.lemmas.Bool.{and_parts, eqb-true, false≢true}
use Rattle.std.proofs.lemmas.List.{ext_get_or, length-map}
use Rattle.std.specs.Prelude.{slice_index}
use Rattle.sp_bank.specs.Banking.{Banking}
use Rattle.sp_core.specs.declared.access.Meet.{Meet}
use Rattle.sp_core.specs.Latency.{latency}
use Rattle.sp_core.specs.Numbering.{counters_size}
use Rattle.sp_core.specs.PlainCore.{PlainOp, PlainNode, inner, outer, fsm, branch, load, store, sparse, PlainCore}
use Rattle.sp_modulo.specs.declared.order.Order.{Order}
use Rattle.sp_modulo.specs.Times.{Obey, IsNoLater, end_of, in_group, IsLatency, IsSchedule}
use Rattle.sp_plan.specs.Bodies.{latencies, are_in_turn}
use Rattle.sp_plan.specs.Nodes.{Site, site_at}
use Rattle.sp_plan.specs.Orders.{body_orders}
use Rattle.sp_plan.specs.PlainPlan.{PlainNodePlan, inner_plan, outer_plan, other_plan}
use Rattle.sp_sched.specs.Least.{IsInTurn, HaveNone, IsPipelined, IsLeastBody, IsLeastOf, IsLeastAt, IsLeastPlan}

-- two lists of times, as long as each other, neither of which is later
same_times : (xs ys : List ℕ) → length xs ≡ length ys → IsNoLater xs ys → IsNoLater ys xs → xs ≡ ys
same_times xs ys size below above = ext_get_or 0 xs ys size (λ i l. both (slice_index xs i) (slice_index ys i) (below i) (above i))
  where
    both : (m n : ℕ) → m ≤ n → n ≤ m → m ≡ n
    both m n a b = omega arith

module _ (lats : List ℕ) (orders : List Order) where
  one_latency : (l m : ℕ) → IsLatency lats orders l → IsLatency lats orders m → l ≡ m
  one_latency l m h k =
      let same : h.first ≡ k.first = same_times h.first k.first (h.least.obey.one_each ∙ sym k.least.obey.one_each) (h.least.least k.first k.least.obey) (k.least.least h.first h.least.obey) in
      h.over ∙ ap (end_of lats) same ∙ sym k.over

  one_interval : (l i j : ℕ) (xs ys : List ℕ) → IsSchedule lats orders l i xs → IsSchedule lats orders l j ys → i ≡ j
  one_interval l i j xs ys h k =
      let low : ¬ (i < j) = λ less. k.least_interval i xs h.some_interval less h.in_time in
      let high : ¬ (j < i) = λ less. h.least_interval j ys k.some_interval less k.in_time in
      omega arith

  one_time_each : (l i : ℕ) (xs ys : List ℕ) → IsSchedule lats orders l i xs → IsSchedule lats orders l i ys → xs ≡ ys
  one_time_each l i xs ys h k = same_times xs ys (h.in_time.obey.one_each ∙ sym k.in_time.obey.one_each) (h.least_times ys k.in_time) (k.least_times xs h.in_time)

plan_of : (xs ys : List ℕ) (i j l m : ℕ) (serial : Bool) → xs ≡ ys → i ≡ j → l ≡ m → inner_plan xs i l serial ≡ inner_plan ys j m serial
plan_of xs ys i j l m serial a b c = cc

module _ (core : PlainCore) where
  one_turn : (t : ℕ) (ops : List PlainOp) (xs ys : List ℕ) → are_in_turn core t ops xs ≡ true → are_in_turn core t ops ys ≡ true → xs ≡ ys
  one_turn t [] [] [] h k = refl
  one_turn t [] [] (y ∷ ys) h k = absurd (false≢true k)
  one_turn t [] (x ∷ xs) ys h k = absurd (false≢true h)
  one_turn t (op ∷ ops) [] ys h k = absurd (false≢true h)
  one_turn t (op ∷ ops) (x ∷ xs) [] h k = absurd (false≢true k)
  one_turn t (op ∷ ops) (x ∷ xs) (y ∷ ys) h k =
      let a = and_parts (x == t) (are_in_turn core (t + latency core op) ops xs) h in
      let b = and_parts (y == t) (are_in_turn core (t + latency core op) ops ys) k in
      let head : x ≡ y = eqb-true x t a.0 ∙ sym (eqb-true y t b.0) in
      let rest : xs ≡ ys = one_turn (t + latency core op) ops xs ys a.1 b.1 in
      cc

  in_turn : (ops : List PlainOp) (xs ys : List ℕ) (i j l m : ℕ) → IsInTurn core ops xs i l → IsInTurn core ops ys j m → inner_plan xs i l true ≡ inner_plan ys j m true
  in_turn ops xs ys i j l m h k =
      let times : xs ≡ ys = one_turn 0 ops xs ys h.in_turn k.in_turn in
      let last : l ≡ m = sym h.over ∙ ap (end_of (latencies core ops)) times ∙ k.over in
      plan_of xs ys i j l m true times (h.interval ∙ ap (max 1) last ∙ sym k.interval) last

  module _ (schemes : List (Option Banking)) (meets : List Meet) where
    module _ (number : ℕ) (streamed : Bool) (ops : List PlainOp) where
      pipelined : (xs ys : List ℕ) (i j l m : ℕ) → IsPipelined core schemes meets number streamed ops xs i l → IsPipelined core schemes meets number streamed ops ys j m → inner_plan xs i l false ≡ inner_plan ys j m false
      pipelined xs ys i j l m h k =
          let orders = body_orders core ops schemes number meets in
          let lats = latencies core ops in
          let last : m ≡ l = one_latency lats orders m l k.least.latency_is h.least.latency_is in
          let second : IsSchedule lats orders l j ys = subst (λ z. IsSchedule lats orders z j ys) last k.least in
          let interval : j ≡ i = one_interval lats orders l j i ys xs second h.least in
          let third : IsSchedule lats orders l i ys = subst (λ z. IsSchedule lats orders l z ys) interval second in
          plan_of xs ys i j l m false (one_time_each lats orders l i xs ys h.least third) (sym interval) (sym last)

      -- what has times within a group isn't done one after the other
      not_both : (xs : List ℕ) (i l : ℕ) → (streamed ≡ true) ⊎ HaveNone core schemes meets number streamed ops → IsPipelined core schemes meets number streamed ops xs i l → ⊥
      not_both xs i l (inl streams) h = false≢true (sym h.alone ∙ streams)
      not_both xs i l (inr none) h =
          let first = h.least.latency_is in
          let orders = body_orders core ops schemes number meets in
          none first.first (subst (λ n. Obey n (in_group orders) 0 first.first) (length-map ops (latency core)) first.least.obey)

      one_body : (p q : PlainNodePlan) → IsLeastBody core schemes meets number streamed ops p → IsLeastBody core schemes meets number streamed ops q → p ≡ q
      one_body (inner_plan xs i l true) (inner_plan ys j m true) h k = in_turn ops xs ys i j l m h.1 k.1
      one_body (inner_plan xs i l true) (inner_plan ys j m false) h k = absurd (not_both ys j m h.0 k)
      one_body (inner_plan xs i l false) (inner_plan ys j m true) h k = absurd (not_both xs i l k.0 h)
      one_body (inner_plan xs i l false) (inner_plan ys j m false) h k = pipelined xs ys i j l m h k
      one_body (inner_plan xs i l serial) (outer_plan slots chains) h k = absurd k
      one_body (inner_plan xs i l serial) other_plan h k = absurd k
      one_body (outer_plan slots chains) q h k = absurd h
      one_body other_plan q h k = absurd h

    one_of : (site : Site) (node : PlainNode) (p q : PlainNodePlan) → IsLeastOf core schemes meets site node p → IsLeastOf core schemes meets site node q → p ≡ q
    one_of site (inner counters owned ops comb) p q h k = one_body (site.number + counters_size counters) site.streamed ops p q h k
    one_of site (outer counters style owned stages) p q h k = h ∙ sym k
    one_of site (fsm start state test body next) p q h k = h ∙ sym k
    one_of site (branch test first second) p q h k = h ∙ sym k
    one_of site (load dram mem spans) p q h k = h ∙ sym k
    one_of site (store dram mem spans) p q h k = h ∙ sym k
    one_of site (sparse kind dram mem index spans count par) p q h k = h ∙ sym k

    one_at : (site : Option Site) (p q : PlainNodePlan) → IsLeastAt core schemes meets site p → IsLeastAt core schemes meets site q → p ≡ q
    one_at None p q h k = h ∙ sym k
    one_at (Some site) p q h k = one_of site site.node p q h k

    pub one_least : (node : ℕ) (p q : PlainNodePlan) → IsLeastPlan core schemes meets node p → IsLeastPlan core schemes meets node q → p ≡ q
    one_least node p q h k = one_at (site_at node 0 false core.root) p q h k
