-- Counters with the nets of their bounds, one behind the other.
use Rattle.std.proofs.Common.{◌≡◌, ℕ, zero, suc, ◌+◌, ◌*◌, ◌<◌, ◌≤◌, ◌^◌, Bool, true, ◌&&◌, nat_le, nat_lt, List, [], ◌∷◌, ◌++◌, length, map, take, slice_index_or, All, append_assoc, refl, sym, ◌∙◌, ap, ap₂, subst, arith}
use Rattle.std.specs.List.{list_all}
use Rattle.std.proofs.lemmas.Bool.{and_parts, leb-true, ltb-true}
use Rattle.std.proofs.lemmas.List.{take_more, map-append, append-nil}
use Rattle.std.proofs.lemmas.List.Elements.{All-append}
use Rattle.std.proofs.lemmas.List.Folds.{list_all-append}
use Rattle.sp_words.specs.Types.{int_type}
use Rattle.sp_netlist.specs.Draft.{Draft}
use Rattle.sp_netlist.specs.Signals.{Signals}
use Rattle.sp_gates.specs.Grows.{Grows}
use Rattle.sp_gates.specs.Nets.{HasNet}
use Rattle.sp_gates.proofs.Growing.{HasNet-stays}
use Rattle.sp_gates.proofs.Running.{runs_earlier}
use Rattle.sp_core.specs.declared.node.CoreCounter.{CoreCounter}
use Rattle.sp_core.specs.Around.{Around, Near}
use Rattle.sp_core.specs.Numbering.{counters_size}
use Rattle.sp_core.specs.OperationRules.{are_operations_right, is_word_list, is_early, is_bound, is_counter_right}
use Rattle.sp_core.specs.Plain.{plain_counter}
use Rattle.sp_core.specs.PlainCore.{PlainOp, PlainCounter, PlainCore}
use Rattle.sp_core.specs.Typed.{last_gives}
use Rattle.sp_counters.specs.declared.part.Count.{Count}
use Rattle.sp_counters.specs.Fits.{CountFits}
use Rattle.sp_plan.specs.PlainPlan.{PlainPlan}
use Rattle.sp_node_runs.specs.BodiesGiven.{Nets}
use Rattle.sp_op_nets.specs.declared.acted.ActedList.{ActedList}
use Rattle.sp_op_nets.specs.declared.table.AroundNets.{AroundNets}
use Rattle.sp_op_nets.specs.Acted.{answers_of, answers_in}
use Rattle.sp_op_nets.specs.Reserved.{Reserves}
use Rattle.sp_op_nets.specs.Table.{nets_at}
use Rattle.sp_op_nets.proofs.Reserving.{reserved_join}
use Rattle.sp_tree_circuits.specs.Parts.{BoundCircuits}
use Rattle.sp_bound_nets.specs.declared.bounds.Bounds.{Bounds}
use Rattle.sp_bound_nets.specs.Bounds.{AreCountersRight, BoundsActed, BoundsIn, AreBounds, AddsBound, pars_of, own_pars, bound_lists}
use Rattle.sp_bound_nets.specs.Direct.{IsDirect, IsWordRight, AreActedLists, IsActedList}
use Rattle.sp_bound_nets.proofs.Acting.{all_length, lists_behind}
use Rattle.sp_bound_nets.proofs.Kept.{always_kept, list_kept, around_kept, direct_kept}

pub answers_append : (xs ys : List ActedList) → answers_in (xs ++ ys) ≡ answers_in xs ++ answers_in ys
answers_append [] ys = refl
answers_append (x ∷ xs) ys = ap (λ zs. answers_of x.ops.items ++ zs) (answers_append xs ys) ∙ sym (append_assoc (answers_of x.ops.items) (answers_in xs) (answers_in ys))

module _ (core : PlainCore) (plan : PlainPlan) (s : Signals) (near : List Near) (env : Nets) where
  -- what stands in a run of a draft, stands where more was added
  pub bounds_kept : (a b : Draft) → Grows a b → (n : ℕ) (counters : List PlainCounter) (counts : List Count) (acted : List ActedList) (w : BoundCircuits core plan s near env a counters counts)
      → BoundsActed core plan s near env a n counters counts w acted → BoundsIn core plan s near env b n counters counts acted
  bounds_kept a b g n [] [] acted w e = record { circuits = tt; acts = e }
  bounds_kept a b g n (c ∷ counters) (k ∷ counts) (x ∷ y ∷ acted) w e =
      let rest = bounds_kept a b g (n + (length c.from + length c.until)) counters counts acted w.1 e.2 in
      record {
        circuits = (
          record { from = direct_kept a b g core plan s near env c.from k.from w.0.from; until = direct_kept a b g core plan s near env c.until k.until w.0.until; by = w.0.by; par = w.0.par; goes_on = w.0.goes_on },
          rest.circuits,
        );
        acts = (always_kept a b g n w.0.from.ps x e.0, always_kept a b g (n + length c.from) w.0.until.ps y e.1, rest.acts);
      }
  bounds_kept a b g n (c ∷ counters) (k ∷ counts) (x ∷ []) w e = absurd e
  bounds_kept a b g n (c ∷ counters) (k ∷ counts) [] w e = absurd e
  bounds_kept a b g n [] (k ∷ counts) acted w e = absurd e
  bounds_kept a b g n (c ∷ counters) [] acted w e = absurd e

  module _ (d : Draft) where
    abbrev In : ℕ → List PlainCounter → List Count → List ActedList → Type 0
    In n counters counts acted = BoundsIn core plan s near env d n counters counts acted

    -- some counters behind others
    bounds_join : (n : ℕ) (xs ys : List PlainCounter) (ks ls : List Count) (acts others : List ActedList) (w : BoundCircuits core plan s near env d xs ks)
        → BoundsActed core plan s near env d n xs ks w acts → In (n + counters_size xs) ys ls others → In n (xs ++ ys) (ks ++ ls) (acts ++ others)
    bounds_join n [] ys [] ls acts others w e more =
        let z : n + 0 ≡ n = omega arith in
        subst (λ zs. In n ys ls (zs ++ others)) (sym e) (subst (λ m. In m ys ls others) z more)
    bounds_join n (c ∷ xs) ys (k ∷ ks) ls (x ∷ y ∷ acts) others w e more =
        let m : n + ((length c.from + length c.until) + counters_size xs) ≡ (n + (length c.from + length c.until)) + counters_size xs = omega arith in
        let rest = bounds_join (n + (length c.from + length c.until)) xs ys ks ls acts others w.1 e.2 (subst (λ i. In i ys ls others) m more) in
        record { circuits = (w.0, rest.circuits); acts = (e.0, e.1, rest.acts) }
    bounds_join n (c ∷ xs) ys (k ∷ ks) ls (x ∷ []) others w e more = absurd e
    bounds_join n (c ∷ xs) ys (k ∷ ks) ls [] others w e more = absurd e
    bounds_join n [] ys (k ∷ ks) ls acts others w e more = absurd e
    bounds_join n (c ∷ xs) ys [] ls acts others w e more = absurd e

module _ (old mid new : Draft) (table : List AroundNets) (n : ℕ) (xs ys : List PlainCounter) (ks ls : List Count) (acts others : List ActedList) where
  pub are_joined : Grows old mid → Grows mid new → AreBounds old mid table n xs ks acts → AreBounds mid new table (n + counters_size xs) ys ls others → AreBounds old new table n (xs ++ ys) (ks ++ ls) (acts ++ others)
  are_joined f g first second core plan around right stand s run =
      let both = and_parts (list_all (is_counter_right core around) xs) (list_all (is_counter_right core around) ys) (sym (list_all-append (is_counter_right core around) xs ys) ∙ right) in
      let one = first core plan around both.0 stand s (runs_earlier mid new s g run) in
      let kept = bounds_kept core plan s around.counters (nets_at table) mid new g n xs ks acts one.circuits one.acts in
      let two = second core plan around both.1 (around_kept old mid f table around.counters stand) s run in
      bounds_join core plan s around.counters (nets_at table) new n xs ys ks ls acts others kept.circuits kept.acts two

-- what the rules say of a counter
module _ (core : PlainCore) (around : Around) where
  pub is_word : (ops : List PlainOp) → is_bound core around ops ≡ true → is_word_list core around ops int_type ≡ true
  is_word ops e = (and_parts (is_word_list core around ops int_type) (list_all (is_early core around) ops) e).0

  pub is_right : (ops : List PlainOp) → is_bound core around ops ≡ true → are_operations_right core around ops ≡ true
  is_right ops e = (and_parts (are_operations_right core around ops) (last_gives ops int_type) (is_word ops e)).0

  module _ (c : PlainCounter) (right : list_all (is_counter_right core around) (c ∷ []) ≡ true) where
    whole : is_counter_right core around c ≡ true
    whole = (and_parts (is_counter_right core around c) true right).0

    lists : (is_bound core around c.from ≡ true) × (is_bound core around c.until ≡ true)
    lists = and_parts (is_bound core around c.from) (is_bound core around c.until) (and_parts (is_bound core around c.from && is_bound core around c.until) _ whole).0

    pub from_right : is_bound core around c.from ≡ true
    from_right = lists.0

    pub until_right : is_bound core around c.until ≡ true
    until_right = lists.1

    steps : ((nat_le 1 c.by && nat_lt c.by (2 ^ 31)) ≡ true) × ((nat_le 1 c.par && nat_le c.par 16) ≡ true)
    steps = and_parts (nat_le 1 c.by && nat_lt c.by (2 ^ 31)) (nat_le 1 c.par && nat_le c.par 16) (and_parts (is_bound core around c.from && is_bound core around c.until) _ whole).1

    pub by_some : 1 ≤ c.by
    by_some = leb-true 1 c.by (and_parts (nat_le 1 c.by) (nat_lt c.by (2 ^ 31)) steps.0).0

    pub by_small : c.by < 2 ^ 31
    by_small = ltb-true c.by (2 ^ 31) (and_parts (nat_le 1 c.by) (nat_lt c.by (2 ^ 31)) steps.0).1

    pub par_some : 1 ≤ c.par
    par_some = leb-true 1 c.par (and_parts (nat_le 1 c.par) (nat_le c.par 16) steps.1).0

    pub par_small : c.par ≤ 16
    par_small = leb-true c.par 16 (and_parts (nat_le 1 c.par) (nat_le c.par 16) steps.1).1

-- a product of two numbers that are no 0 is none, and one of small numbers is small
pub product_some : (a b : ℕ) → 1 ≤ a → 1 ≤ b → 1 ≤ a * b
product_some zero b l m = absurd (omega (arith, l))
product_some (suc a) b l m = (let n : 0 ≤ a * b = omega arith in omega (arith, m, n))

pub product_small : (a b n : ℕ) → b ≤ n → a * b ≤ a * n
product_small zero b n l = omega arith
product_small (suc a) b n l = (let r = product_small a b n l in omega (arith, l, r))

-- one counter with the nets of its bounds, of which the other one was emitted behind the first
module _ (old mid new : Draft) (table : List AroundNets) (n : ℕ) (c : PlainCounter) (k : Count) (a b : ActedList) (by : c.by ≡ k.by) (par : c.par ≡ k.par) (f : Grows old mid) (g : Grows mid new) where
  pub one_bound : IsDirect old mid table n c.from k.from a → IsDirect mid new table (n + length c.from) c.until k.until b → AreBounds old new table n (c ∷ []) (k ∷ []) (a ∷ b ∷ [])
  one_bound first second core plan around right stand s run =
      let one = first core plan around (is_right core around c.from (from_right core around c right)) stand s (runs_earlier mid new s g run) in
      let two = second core plan around (is_right core around c.until (until_right core around c right)) (around_kept old mid f table around.counters stand) s run in
      record {
        circuits = (
          record {
            from = direct_kept mid new g core plan s around.counters (nets_at table) c.from k.from one.circuit;
            until = two.circuit;
            by = by;
            par = par;
            goes_on = product_some c.by c.par (by_some core around c right) (par_some core around c right);
          },
          tt,
        );
        acts = (always_kept mid new g n one.circuit.ps a one.acts, two.acts, refl);
      }

  pub one_lists : IsActedList mid n c.from a → IsActedList new (n + length c.from) c.until b → AreActedLists new n (bound_lists (c ∷ [])) (a ∷ b ∷ [])
  one_lists first second = (list_kept mid new g n c.from a first, (second, tt))

  pub one_fits : AreCountersRight old table (c ∷ []) → HasNet mid k.from 32 → HasNet new k.until 32 → CountFits new k
  one_fits r first second =
      let more = product_small c.by c.par 16 (par_small r.core r.around c r.right) in
      let few = by_small r.core r.around c r.right in
      record {
        from = HasNet-stays mid new k.from 32 g first;
        until = second;
        goes_on = subst (λ x. 1 ≤ x) same (product_some c.by c.par (by_some r.core r.around c r.right) (par_some r.core r.around c r.right));
        small = subst (λ x. x < 2 ^ 62) same (omega (arith, more, few));
      }
    where
      same : c.by * c.par ≡ k.by * k.par
      same = ap (λ x. x * c.par) by ∙ ap (λ x. k.by * x) par

  pub one_reserves : (xs ys : List ℕ) → Reserves old mid xs → Reserves mid new ys → Reserves old new (xs ++ (ys ++ []))
  one_reserves xs ys first second = subst (λ zs. Reserves old new (xs ++ zs)) (sym (append-nil ys)) (reserved_join old mid new xs ys first second)

  pub until_is_right : AreCountersRight old table (c ∷ []) → (ops : List PlainOp) → c.until ≡ ops → IsWordRight mid table ops
  until_is_right r ops is = record {
    core = r.core;
    around = r.around;
    right = subst (λ xs. is_word_list r.core r.around xs int_type ≡ true) is (is_word r.core r.around c.until (until_right r.core r.around c r.right));
    stand = around_kept old mid f table r.around.counters r.stand;
  }

-- one more counter of a list
size_append : (xs ys : List PlainCounter) → counters_size (xs ++ ys) ≡ counters_size xs + counters_size ys
size_append [] ys = omega arith
size_append (x ∷ xs) ys = (let e = size_append xs ys in omega (arith, e))

size_within : (cs : List CoreCounter) (i : ℕ) (c : CoreCounter) → i < length cs → c ≡ slice_index_or cs i c → counters_size (map plain_counter (take i cs)) + counters_size (plain_counter c ∷ []) ≤ counters_size (map plain_counter cs)
size_within [] i c lt is = absurd (omega (arith, lt))
size_within (x ∷ cs) zero c lt is = subst (λ (y : CoreCounter). 0 + counters_size (plain_counter y ∷ []) ≤ counters_size (plain_counter x ∷ map plain_counter cs)) (sym is) (omega arith)
size_within (x ∷ cs) (suc i) c lt is = (let r = size_within cs i c (omega (arith, lt)) is in omega (arith, r))

right_at : (test : PlainCounter → Bool) (cs : List CoreCounter) (i : ℕ) (c : CoreCounter) → i < length cs → c ≡ slice_index_or cs i c → list_all test (map plain_counter cs) ≡ true → list_all test (plain_counter c ∷ []) ≡ true
right_at test [] i c lt is e = absurd (omega (arith, lt))
right_at test (x ∷ cs) zero c lt is e = ap (λ b. b && true) (ap (λ y. test (plain_counter y)) is ∙ (and_parts (test (plain_counter x)) (list_all test (map plain_counter cs)) e).0)
right_at test (x ∷ cs) (suc i) c lt is e = right_at test cs i c (omega (arith, lt)) is (and_parts (test (plain_counter x)) (list_all test (map plain_counter cs)) e).1

one_all : (P : Count → Type 0) (x : Count) → P x → All P (x ∷ [])
one_all P x h zero d l = h
one_all P x h (suc k) d l = absurd (omega (arith, l))

lists_append : (xs ys : List PlainCounter) → bound_lists (xs ++ ys) ≡ bound_lists xs ++ bound_lists ys
lists_append [] ys = refl
lists_append (x ∷ xs) ys = ap (λ ls. x.from ∷ x.until ∷ ls) (lists_append xs ys)

lists_size : (xs : List PlainCounter) → counters_size xs ≡ all_length (bound_lists xs)
lists_size [] = refl
lists_size (x ∷ xs) = (let e = lists_size xs in omega (arith, e))

-- before the first one
pub no_bounds : (d : Draft) (table : List AroundNets) (n : ℕ) → AreBounds d d table n [] [] []
no_bounds d table n core plan around right stand s run = record { circuits = tt; acts = refl }

module _ (table : List AroundNets) (number next : ℕ) (counters : List CoreCounter) (i : ℕ) (c : CoreCounter) (low : i < length counters) (is : c ≡ slice_index_or counters i c)
    (here : next ≡ number + counters_size (map plain_counter (take i counters))) where
  abbrev sofar : List PlainCounter
  sofar = map plain_counter (take i counters)

  longer : map plain_counter (take (i + 1) counters) ≡ sofar ++ plain_counter c ∷ []
  longer = ap (map plain_counter) (take_more counters i c low ∙ ap (λ x. take i counters ++ x ∷ []) (sym is)) ∙ map-append plain_counter (take i counters) (c ∷ [])

  pub next_behind : (then : ℕ) → then ≡ next + counters_size (plain_counter c ∷ []) → then ≡ number + counters_size (map plain_counter (take (i + 1) counters))
  next_behind then e = (let l = ap counters_size longer ∙ size_append sofar (plain_counter c ∷ []) in omega (arith, l, e, here))

  pub next_fits : number + counters_size (map plain_counter counters) < 2 ^ 32 → next + counters_size (plain_counter c ∷ []) < 2 ^ 32
  next_fits lt = (let w = size_within counters i c low is in omega (arith, lt, here, w))

  pub is_right_here : (old mid : Draft) → AreCountersRight old table (map plain_counter counters) → Grows old mid → AreCountersRight mid table (plain_counter c ∷ [])
  is_right_here old mid r g = record {
    core = r.core;
    around = r.around;
    right = right_at (is_counter_right r.core r.around) counters i c low is r.right;
    stand = around_kept old mid g table r.around.counters r.stand;
  }

  module _ (old mid new : Draft) (before after : Bounds) (adds : AddsBound mid new table next (plain_counter c) before after) where
    pub reserves_behind : Reserves old mid (answers_in before.acted.items) → Reserves old new (answers_in after.acted.items)
    reserves_behind was =
        subst (Reserves old new) (sym (ap answers_in adds.acted_are ∙ answers_append before.acted.items adds.acted)) (reserved_join old mid new (answers_in before.acted.items) (answers_in adds.acted) was adds.reserves)

    pub fits_behind : All (CountFits mid) before.counts.items → All (CountFits new) after.counts.items
    fits_behind was =
        let kept : All (CountFits new) before.counts.items = λ k d l. count_kept (slice_index_or before.counts.items k d) (was k d l) in
        subst (All (CountFits new)) (sym adds.counts_are) (All-append (CountFits new) before.counts.items (adds.count ∷ []) kept (one_all (CountFits new) adds.count adds.fits))
      where
        count_kept : (k : Count) → CountFits mid k → CountFits new k
        count_kept k h = record { from = HasNet-stays mid new k.from 32 adds.reserves.grows h.from; until = HasNet-stays mid new k.until 32 adds.reserves.grows h.until; goes_on = h.goes_on; small = h.small }

    pub acted_behind : AreActedLists mid number (bound_lists sofar) before.acted.items → AreActedLists new number (bound_lists (map plain_counter (take (i + 1) counters))) after.acted.items
    acted_behind was =
        subst (λ ls. AreActedLists new number ls after.acted.items) (sym (ap bound_lists longer ∙ lists_append sofar (plain_counter c ∷ [])))
        (subst (AreActedLists new number (bound_lists sofar ++ bound_lists (plain_counter c ∷ []))) (sym adds.acted_are)
        (lists_behind mid new adds.reserves.grows number next (bound_lists sofar) (bound_lists (plain_counter c ∷ [])) before.acted.items adds.acted (here ∙ ap (λ k. number + k) (lists_size sofar)) was adds.lists))

    pub bounds_behind : Grows old mid → AreBounds old mid table number sofar before.counts.items before.acted.items
        → AreBounds old new table number (map plain_counter (take (i + 1) counters)) after.counts.items after.acted.items
    bounds_behind g was =
        subst (λ xs. AreBounds old new table number xs after.counts.items after.acted.items) (sym longer)
        (subst (λ ks. AreBounds old new table number (sofar ++ plain_counter c ∷ []) ks after.acted.items) (sym adds.counts_are)
        (subst (λ acts. AreBounds old new table number (sofar ++ plain_counter c ∷ []) (before.counts.items ++ adds.count ∷ []) acts) (sym adds.acted_are)
        (are_joined old mid new table number sofar (plain_counter c ∷ []) before.counts.items (adds.count ∷ []) before.acted.items adds.acted g adds.reserves.grows was
        (subst (λ m. AreBounds mid new table m (plain_counter c ∷ []) (adds.count ∷ []) adds.acted) here adds.bounds))))

-- one more count, with how many iterations of it a group takes
pub pars_behind : (counters : List CoreCounter) (i : ℕ) (c : CoreCounter) → i < length counters → c ≡ slice_index_or counters i c → (before after : List Count) (count : Count) → after ≡ before ++ count ∷ [] → count.par ≡ c.par
    → pars_of before ≡ own_pars (map plain_counter (take i counters)) → pars_of after ≡ own_pars (map plain_counter (take (i + 1) counters))
pars_behind counters i c low is before after count e p h =
    let longer = ap (map plain_counter) (take_more counters i c low ∙ ap (λ x. take i counters ++ x ∷ []) (sym is)) ∙ map-append plain_counter (take i counters) (c ∷ []) in
    ap pars_of e ∙ map-append (λ (n : Count). n.par) before (count ∷ []) ∙ ap₂ (λ xs x. xs ++ x ∷ []) h p ∙ sym (ap own_pars longer ∙ map-append (λ (x : PlainCounter). x.par) (map plain_counter (take i counters)) (plain_counter c ∷ []))
