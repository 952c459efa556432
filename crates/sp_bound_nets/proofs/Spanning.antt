-- Spans with the nets of their ends, one behind the other.
use Rattle.std.proofs.Common.{◌≡◌, ℕ, zero, suc, ◌+◌, ◌<◌, ◌≤◌, ◌^◌, Bool, true, ◌&&◌, List, [], ◌∷◌, ◌++◌, length, map, take, slice_index_or, All, refl, sym, ◌∙◌, ap, subst, arith}
use Rattle.std.specs.List.{list_all}
use Rattle.std.proofs.lemmas.Bool.{and_parts}
use Rattle.std.proofs.lemmas.List.{take_more, map-append}
use Rattle.std.proofs.lemmas.List.Elements.{All-append}
use Rattle.std.proofs.lemmas.List.Folds.{list_all-append}
use Rattle.sp_words.specs.Types.{int_type}
use Rattle.sp_netlist.specs.Draft.{Draft}
use Rattle.sp_netlist.specs.Signals.{Signals}
use Rattle.sp_gates.specs.Grows.{Grows}
use Rattle.sp_gates.proofs.Growing.{HasNet-stays}
use Rattle.sp_gates.proofs.Running.{runs_earlier}
use Rattle.sp_core.specs.declared.node.CoreSpan.{CoreSpan}
use Rattle.sp_core.specs.Around.{Near}
use Rattle.sp_core.specs.NodeRules.{is_span_right}
use Rattle.sp_core.specs.Numbering.{spans_size}
use Rattle.sp_core.specs.OperationRules.{is_bound, is_word_list}
use Rattle.sp_core.specs.Plain.{plain_span}
use Rattle.sp_core.specs.PlainCore.{PlainOp, PlainSpan, single, range, PlainCore}
use Rattle.sp_plan.specs.PlainPlan.{PlainPlan}
use Rattle.sp_node_runs.specs.BodiesGiven.{Nets}
use Rattle.sp_node_runs.specs.BodiesSpans.{SpanNets, one_net, two_nets}
use Rattle.sp_op_nets.specs.declared.acted.ActedList.{ActedList}
use Rattle.sp_op_nets.specs.declared.table.AroundNets.{AroundNets}
use Rattle.sp_op_nets.specs.Acted.{answers_in}
use Rattle.sp_op_nets.specs.Reserved.{Reserves}
use Rattle.sp_op_nets.specs.Table.{nets_at}
use Rattle.sp_op_nets.proofs.Reserving.{reserved_join}
use Rattle.sp_tree_circuits.specs.Parts.{SpanCircuits}
use Rattle.sp_bound_nets.specs.declared.spans.SpanNet.{SpanNet}
use Rattle.sp_bound_nets.specs.declared.spans.SpanNet.TheVariants.{One, Range}
use Rattle.sp_bound_nets.specs.declared.spans.Spans.{Spans}
use Rattle.sp_bound_nets.specs.Direct.{AreActedLists, IsActedList, IsDirect, IsWordRight}
use Rattle.sp_bound_nets.specs.Spans.{net_of_span, nets_of_spans, span_lists, HasEnds, AreSpansRight, SpansActed, SpansIn, AreSpans, AddsSpan}
use Rattle.sp_bound_nets.proofs.Acting.{all_length, lists_behind}
use Rattle.sp_bound_nets.proofs.Bounding.{answers_append, is_right, is_word}
use Rattle.sp_bound_nets.proofs.Kept.{always_kept, list_kept, around_kept, direct_kept}

module _ (core : PlainCore) (plan : PlainPlan) (s : Signals) (near : List Near) (env : Nets) where
  -- what stands in a run of a draft, stands where more was added
  pub spans_kept : (a b : Draft) → Grows a b → (n : ℕ) (spans : List PlainSpan) (nets : List SpanNets) (acted : List ActedList) (w : SpanCircuits core plan s near env a spans nets) → SpansActed core plan s near env a n spans nets w acted
      → SpansIn core plan s near env b n spans nets acted
  spans_kept a b g n [] [] acted w e = record { circuits = tt; acts = e }
  spans_kept a b g n (single ops ∷ spans) (one_net net ∷ nets) (x ∷ acted) w e =
      let rest = spans_kept a b g (n + length ops) spans nets acted w.1 e.1 in
      record { circuits = (direct_kept a b g core plan s near env ops net w.0, rest.circuits); acts = (always_kept a b g n w.0.ps x e.0, rest.acts) }
  spans_kept a b g n (range xs ys ∷ spans) (two_nets from until ∷ nets) (x ∷ y ∷ acted) w e =
      let rest = spans_kept a b g (n + (length xs + length ys)) spans nets acted w.2 e.2 in
      record {
        circuits = (direct_kept a b g core plan s near env xs from w.0, direct_kept a b g core plan s near env ys until w.1, rest.circuits);
        acts = (always_kept a b g n w.0.ps x e.0, always_kept a b g (n + length xs) w.1.ps y e.1, rest.acts);
      }
  spans_kept a b g n (single ops ∷ spans) (one_net net ∷ nets) [] w e = absurd e
  spans_kept a b g n (range xs ys ∷ spans) (two_nets from until ∷ nets) (x ∷ []) w e = absurd e
  spans_kept a b g n (range xs ys ∷ spans) (two_nets from until ∷ nets) [] w e = absurd e
  spans_kept a b g n [] (net ∷ nets) acted w e = absurd e
  spans_kept a b g n (single ops ∷ spans) [] acted w e = absurd e
  spans_kept a b g n (single ops ∷ spans) (two_nets from until ∷ nets) acted w e = absurd e
  spans_kept a b g n (range xs ys ∷ spans) [] acted w e = absurd e
  spans_kept a b g n (range xs ys ∷ spans) (one_net net ∷ nets) acted w e = absurd e

  module _ (d : Draft) where
    abbrev In : ℕ → List PlainSpan → List SpanNets → List ActedList → Type 0
    In n spans nets acted = SpansIn core plan s near env d n spans nets acted

    -- some spans behind others
    spans_join : (n : ℕ) (xs ys : List PlainSpan) (ks ls : List SpanNets) (acts others : List ActedList) (w : SpanCircuits core plan s near env d xs ks)
        → SpansActed core plan s near env d n xs ks w acts → In (n + spans_size xs) ys ls others → In n (xs ++ ys) (ks ++ ls) (acts ++ others)
    spans_join n [] ys [] ls acts others w e more =
        let z : n + 0 ≡ n = omega arith in
        subst (λ zs. In n ys ls (zs ++ others)) (sym e) (subst (λ m. In m ys ls others) z more)
    spans_join n (single ops ∷ xs) ys (one_net net ∷ ks) ls (x ∷ acts) others w e more =
        let m : n + (length ops + spans_size xs) ≡ (n + length ops) + spans_size xs = omega arith in
        let rest = spans_join (n + length ops) xs ys ks ls acts others w.1 e.1 (subst (λ i. In i ys ls others) m more) in
        record { circuits = (w.0, rest.circuits); acts = (e.0, rest.acts) }
    spans_join n (range firsts lasts ∷ xs) ys (two_nets from until ∷ ks) ls (x ∷ y ∷ acts) others w e more =
        let m : n + ((length firsts + length lasts) + spans_size xs) ≡ (n + (length firsts + length lasts)) + spans_size xs = omega arith in
        let rest = spans_join (n + (length firsts + length lasts)) xs ys ks ls acts others w.2 e.2 (subst (λ i. In i ys ls others) m more) in
        record { circuits = (w.0, w.1, rest.circuits); acts = (e.0, e.1, rest.acts) }
    spans_join n (single ops ∷ xs) ys (one_net net ∷ ks) ls [] others w e more = absurd e
    spans_join n (range firsts lasts ∷ xs) ys (two_nets from until ∷ ks) ls (x ∷ []) others w e more = absurd e
    spans_join n (range firsts lasts ∷ xs) ys (two_nets from until ∷ ks) ls [] others w e more = absurd e
    spans_join n [] ys (net ∷ ks) ls acts others w e more = absurd e
    spans_join n (single ops ∷ xs) ys [] ls acts others w e more = absurd e
    spans_join n (single ops ∷ xs) ys (two_nets from until ∷ ks) ls acts others w e more = absurd e
    spans_join n (range firsts lasts ∷ xs) ys [] ls acts others w e more = absurd e
    spans_join n (range firsts lasts ∷ xs) ys (one_net net ∷ ks) ls acts others w e more = absurd e

module _ (old mid new : Draft) (table : List AroundNets) (n : ℕ) (xs ys : List PlainSpan) (ks ls : List SpanNets) (acts others : List ActedList) where
  pub are_joined : Grows old mid → Grows mid new → AreSpans old mid table n xs ks acts → AreSpans mid new table (n + spans_size xs) ys ls others → AreSpans old new table n (xs ++ ys) (ks ++ ls) (acts ++ others)
  are_joined f g first second core plan around right stand s run =
      let both = and_parts (list_all (is_span_right core around) xs) (list_all (is_span_right core around) ys) (sym (list_all-append (is_span_right core around) xs ys) ∙ right) in
      let one = first core plan around both.0 stand s (runs_earlier mid new s g run) in
      let kept = spans_kept core plan s around.counters (nets_at table) mid new g n xs ks acts one.circuits one.acts in
      let two = second core plan around both.1 (around_kept old mid f table around.counters stand) s run in
      spans_join core plan s around.counters (nets_at table) new n xs ys ks ls acts others kept.circuits kept.acts two

-- an index, by what the rules say of it
module _ (old new : Draft) (table : List AroundNets) (n : ℕ) (ops : List PlainOp) (net : ℕ) (a : ActedList) where
  pub one_index : IsDirect old new table n ops net a → AreSpans old new table n (single ops ∷ []) (one_net net ∷ []) (a ∷ [])
  one_index direct core plan around right stand s run =
      let w = direct core plan around (is_right core around ops (and_parts (is_bound core around ops) true right).0) stand s run in
      record { circuits = (w.circuit, tt); acts = (w.acts, refl) }

-- both ends of a range, of which the other one was emitted behind the first
module _ (old mid new : Draft) (table : List AroundNets) (n : ℕ) (xs ys : List PlainOp) (from until : ℕ) (a b : ActedList) (f : Grows old mid) (g : Grows mid new) where
  pub range_lists : IsActedList mid n xs a → IsActedList new (n + length xs) ys b → AreActedLists new n (xs ∷ ys ∷ []) (a ∷ b ∷ [])
  range_lists first second = (list_kept mid new g n xs a first, (second, tt))

  pub one_range : IsDirect old mid table n xs from a → IsDirect mid new table (n + length xs) ys until b → AreSpans old new table n (range xs ys ∷ []) (two_nets from until ∷ []) (a ∷ b ∷ [])
  one_range first second core plan around right stand s run =
      let both = and_parts (is_bound core around xs) (is_bound core around ys) (and_parts (is_bound core around xs && is_bound core around ys) true right).0 in
      let one = first core plan around (is_right core around xs both.0) stand s (runs_earlier mid new s g run) in
      let two = second core plan around (is_right core around ys both.1) (around_kept old mid f table around.counters stand) s run in
      record {
        circuits = (direct_kept mid new g core plan s around.counters (nets_at table) xs from one.circuit, two.circuit, tt);
        acts = (always_kept mid new g n one.circuit.ps a one.acts, two.acts, refl);
      }

-- what the rules say of the other end
pub until_is_right : (d later : Draft) (table : List AroundNets) (span : PlainSpan) (xs ys ops : List PlainOp) → span ≡ range xs ys → ys ≡ ops → Grows d later → AreSpansRight d table (span ∷ []) → IsWordRight later table ops
until_is_right d later table span xs ys ops is same g r = record {
  core = r.core;
  around = r.around;
  right = subst (λ zs. is_word_list r.core r.around zs int_type ≡ true) same (is_word r.core r.around ys both.1);
  stand = around_kept d later g table r.around.counters r.stand;
}
  where
    both : (is_bound r.core r.around xs ≡ true) × (is_bound r.core r.around ys ≡ true)
    both =
        and_parts (is_bound r.core r.around xs) (is_bound r.core r.around ys)
        (and_parts (is_bound r.core r.around xs && is_bound r.core r.around ys) true (subst (λ x. list_all (is_span_right r.core r.around) (x ∷ []) ≡ true) is r.right)).0

-- one more span of a list
size_append : (xs ys : List PlainSpan) → spans_size (xs ++ ys) ≡ spans_size xs + spans_size ys
size_append [] ys = omega arith
size_append (single ops ∷ xs) ys = (let e = size_append xs ys in omega (arith, e))
size_append (range a b ∷ xs) ys = (let e = size_append xs ys in omega (arith, e))

size_within : (cs : List CoreSpan) (i : ℕ) (c : CoreSpan) → i < length cs → c ≡ slice_index_or cs i c → spans_size (map plain_span (take i cs)) + spans_size (plain_span c ∷ []) ≤ spans_size (map plain_span cs)
size_within [] i c lt is = absurd (omega (arith, lt))
size_within (x ∷ cs) zero c lt is =
    let e = ap (λ y. spans_size (plain_span y ∷ [])) is in
    let l = size_append (plain_span x ∷ []) (map plain_span cs) in omega (arith, e, l)
size_within (x ∷ cs) (suc i) c lt is =
    let r = size_within cs i c (omega (arith, lt)) is in
    let l = size_append (plain_span x ∷ []) (map plain_span cs) in
    let m = size_append (plain_span x ∷ []) (map plain_span (take i cs)) in omega (arith, r, l, m)

right_at : (test : PlainSpan → Bool) (cs : List CoreSpan) (i : ℕ) (c : CoreSpan) → i < length cs → c ≡ slice_index_or cs i c → list_all test (map plain_span cs) ≡ true → list_all test (plain_span c ∷ []) ≡ true
right_at test [] i c lt is e = absurd (omega (arith, lt))
right_at test (x ∷ cs) zero c lt is e = ap (λ b. b && true) (ap (λ y. test (plain_span y)) is ∙ (and_parts (test (plain_span x)) (list_all test (map plain_span cs)) e).0)
right_at test (x ∷ cs) (suc i) c lt is e = right_at test cs i c (omega (arith, lt)) is (and_parts (test (plain_span x)) (list_all test (map plain_span cs)) e).1

one_all : (P : SpanNet → Type 0) (x : SpanNet) → P x → All P (x ∷ [])
one_all P x h zero d l = h
one_all P x h (suc k) d l = absurd (omega (arith, l))

ends_kept : (a b : Draft) → Grows a b → (net : SpanNet) → HasEnds a net → HasEnds b net
ends_kept a b g (One net) h = HasNet-stays a b net 32 g h
ends_kept a b g (Range from until) h = (HasNet-stays a b from 32 g h.0, HasNet-stays a b until 32 g h.1)

lists_append : (xs ys : List PlainSpan) → span_lists (xs ++ ys) ≡ span_lists xs ++ span_lists ys
lists_append [] ys = refl
lists_append (single ops ∷ xs) ys = ap (λ ls. ops ∷ ls) (lists_append xs ys)
lists_append (range a b ∷ xs) ys = ap (λ ls. a ∷ b ∷ ls) (lists_append xs ys)

lists_size : (xs : List PlainSpan) → spans_size xs ≡ all_length (span_lists xs)
lists_size [] = refl
lists_size (single ops ∷ xs) = (let e = lists_size xs in omega (arith, e))
lists_size (range a b ∷ xs) = (let e = lists_size xs in omega (arith, e))

-- before the first one
pub no_spans : (d : Draft) (table : List AroundNets) (n : ℕ) → AreSpans d d table n [] [] []
no_spans d table n core plan around right stand s run = record { circuits = tt; acts = refl }

module _ (table : List AroundNets) (number next : ℕ) (spans : List CoreSpan) (i : ℕ) (c : CoreSpan) (low : i < length spans) (is : c ≡ slice_index_or spans i c) (here : next ≡ number + spans_size (map plain_span (take i spans))) where
  abbrev sofar : List PlainSpan
  sofar = map plain_span (take i spans)

  longer : map plain_span (take (i + 1) spans) ≡ sofar ++ plain_span c ∷ []
  longer = ap (map plain_span) (take_more spans i c low ∙ ap (λ x. take i spans ++ x ∷ []) (sym is)) ∙ map-append plain_span (take i spans) (c ∷ [])

  pub next_behind : (then : ℕ) → then ≡ next + spans_size (plain_span c ∷ []) → then ≡ number + spans_size (map plain_span (take (i + 1) spans))
  next_behind then e = (let l = ap spans_size longer ∙ size_append sofar (plain_span c ∷ []) in omega (arith, l, e, here))

  pub next_fits : number + spans_size (map plain_span spans) < 2 ^ 32 → next + spans_size (plain_span c ∷ []) < 2 ^ 32
  next_fits lt = (let w = size_within spans i c low is in omega (arith, lt, here, w))

  pub is_right_here : (old mid : Draft) → AreSpansRight old table (map plain_span spans) → Grows old mid → AreSpansRight mid table (plain_span c ∷ [])
  is_right_here old mid r g = record {
    core = r.core;
    around = r.around;
    right = right_at (is_span_right r.core r.around) spans i c low is r.right;
    stand = around_kept old mid g table r.around.counters r.stand;
  }

  module _ (old mid new : Draft) (before after : Spans) (adds : AddsSpan mid new table next (plain_span c) before after) where
    pub reserves_behind : Reserves old mid (answers_in before.acted.items) → Reserves old new (answers_in after.acted.items)
    reserves_behind was =
        subst (Reserves old new) (sym (ap answers_in adds.acted_are ∙ answers_append before.acted.items adds.acted)) (reserved_join old mid new (answers_in before.acted.items) (answers_in adds.acted) was adds.reserves)

    pub ends_behind : All (HasEnds mid) before.nets.items → All (HasEnds new) after.nets.items
    ends_behind was =
        let kept : All (HasEnds new) before.nets.items = λ k d l. ends_kept mid new adds.reserves.grows (slice_index_or before.nets.items k d) (was k d l) in
        subst (All (HasEnds new)) (sym adds.nets_are) (All-append (HasEnds new) before.nets.items (adds.net ∷ []) kept (one_all (HasEnds new) adds.net adds.ends))

    pub acted_behind : AreActedLists mid number (span_lists sofar) before.acted.items → AreActedLists new number (span_lists (map plain_span (take (i + 1) spans))) after.acted.items
    acted_behind was =
        subst (λ ls. AreActedLists new number ls after.acted.items) (sym (ap span_lists longer ∙ lists_append sofar (plain_span c ∷ [])))
        (subst (AreActedLists new number (span_lists sofar ++ span_lists (plain_span c ∷ []))) (sym adds.acted_are)
        (lists_behind mid new adds.reserves.grows number next (span_lists sofar) (span_lists (plain_span c ∷ [])) before.acted.items adds.acted (here ∙ ap (λ k. number + k) (lists_size sofar)) was adds.lists))

    nets_are : nets_of_spans after.nets.items ≡ nets_of_spans before.nets.items ++ net_of_span adds.net ∷ []
    nets_are = ap nets_of_spans adds.nets_are ∙ map-append net_of_span before.nets.items (adds.net ∷ [])

    pub spans_behind : Grows old mid → AreSpans old mid table number sofar (nets_of_spans before.nets.items) before.acted.items
        → AreSpans old new table number (map plain_span (take (i + 1) spans)) (nets_of_spans after.nets.items) after.acted.items
    spans_behind g was =
        subst (λ xs. AreSpans old new table number xs (nets_of_spans after.nets.items) after.acted.items) (sym longer)
        (subst (λ ks. AreSpans old new table number (sofar ++ plain_span c ∷ []) ks after.acted.items) (sym nets_are)
        (subst (λ acts. AreSpans old new table number (sofar ++ plain_span c ∷ []) (nets_of_spans before.nets.items ++ net_of_span adds.net ∷ []) acts) (sym adds.acted_are)
        (are_joined old mid new table number sofar (plain_span c ∷ []) (nets_of_spans before.nets.items) (net_of_span adds.net ∷ []) before.acted.items adds.acted g adds.reserves.grows was
        (subst (λ m. AreSpans mid new table m (plain_span c ∷ []) (net_of_span adds.net ∷ []) adds.acted) here adds.spans))))
