-- Times that are right leave each word the time to come before it is used.
use Rattle.std.proofs.Common.{◌≡◌, ℕ, zero, suc, ◌+◌, ◌*◌, ◌<◌, ◌≤◌, ◌^◌, Bool, true, false, inl, inr, List, [], ◌∷◌, ◌++◌, length, map, take, slice_index, Option, Contains, refl, sym, ◌∙◌, ap, subst, arith}
use Rattle.std.proofs.lemmas.Bool.{and_parts, eqb-true, eq-eqb, leb-true, false≢true, true≢false}
use Rattle.std.proofs.lemmas.List.{append-nil, append_assoc}
use Rattle.std.specs.Prelude.{◌==◌, ◌&&◌, nat_le}
use Rattle.std.specs.List.{list_all, flat_map}
use Rattle.sp_bank.specs.Banking.{Banking}
use Rattle.sp_words.specs.declared.types.Ty.{Ty}
use Rattle.sp_words.specs.declared.types.Ty.TheVariants.{Bit}
use Rattle.sp_core.specs.declared.access.Meet.{Meet}
use Rattle.sp_core.specs.Around.{Around}
use Rattle.sp_core.specs.Elements.{numbers_below}
use Rattle.sp_core.specs.Latency.{latency, latency_of_all}
use Rattle.sp_core.specs.OperationRules.{is_in_range, names_rightly, indices_of, is_mask, is_operation_right, are_operations_right, are_operations_right_after}
use Rattle.sp_core.specs.PlainCore.{PlainOp, PlainCore}
use Rattle.sp_core.specs.Typed.{Given, gives, give_all, given_type, taken_types}
use Rattle.sp_modulo.specs.Times.{end_of}
use Rattle.sp_plan.specs.Bodies.{latencies, is_kept, are_in_turn, keep_orders, are_times_right}
use Rattle.sp_plan.specs.Orders.{no_op, op_at, use_order, mask_orders, use_orders}
use Rattle.sp_plan.specs.PlainPlan.{inner_plan}
use Rattle.sp_part_runs.specs.ActsEntries.{IsOpAt}
use Rattle.sp_circuit_ops.specs.Fitting.{IsUsed}
use Rattle.sp_plan_times.specs.Times.{HasTime}

-- what a list of numbers keeps
kept_left : {A : Type 0} (p : A → Bool) (a b : List A) → list_all p (a ++ b) ≡ true → list_all p a ≡ true
kept_left p [] b h = refl
kept_left p (x ∷ a) b h = by (p x) (and_parts (p x) (list_all p (a ++ b)) h).0 (kept_left p a b (and_parts (p x) (list_all p (a ++ b)) h).1)
  where
    by : (q : Bool) → q ≡ true → list_all p a ≡ true → (q && list_all p a) ≡ true
    by true e f = f
    by false e f = absurd (false≢true e)

kept_right : {A : Type 0} (p : A → Bool) (a b : List A) → list_all p (a ++ b) ≡ true → list_all p b ≡ true
kept_right p [] b h = h
kept_right p (x ∷ a) b h = kept_right p a b (and_parts (p x) (list_all p (a ++ b)) h).1

flat_append : {A B : Type 0} (f : A → List B) (xs ys : List A) → flat_map f (xs ++ ys) ≡ flat_map f xs ++ flat_map f ys
flat_append f [] ys = refl
flat_append f (x ∷ xs) ys = ap (λ l. f x ++ l) (flat_append f xs ys) ∙ sym (append_assoc (f x) (flat_map f xs) (flat_map f ys))

smaller : (i n : ℕ) → i < suc n → (i ≡ n → ⊥) → i < n
smaller i n l d = omega (arith, l, d)

made_below : {B : Type 0} (p : B → Bool) (f : ℕ → List B) (n i : ℕ) → list_all p (flat_map f (numbers_below n)) ≡ true → i < n → list_all p (f i) ≡ true
made_below p f zero i h l = absurd (omega (arith, l))
made_below p f (suc n) i h l = by (i == n) refl (made_below p f n i (kept_left p (flat_map f (numbers_below n)) (flat_map f (n ∷ [])) all))
  where
    all : list_all p (flat_map f (numbers_below n) ++ flat_map f (n ∷ [])) ≡ true
    all = ap (list_all p) (sym (flat_append f (numbers_below n) (n ∷ []))) ∙ h

    by : (b : Bool) → (i == n) ≡ b → (i < n → list_all p (f i) ≡ true) → list_all p (f i) ≡ true
    by true e before = ap (λ k. list_all p (f k)) (eqb-true i n e) ∙ kept_left p (f n) [] (kept_right p (flat_map f (numbers_below n)) (flat_map f (n ∷ [])) all)
    by false e before = before (smaller i n l (λ s. true≢false (sym (eq-eqb i n s) ∙ e)))

mapped : {A : Type 0} (p : A → Bool) (f : ℕ → A) (xs : List ℕ) (i : ℕ) → list_all p (map f xs) ≡ true → Contains xs i → p (f i) ≡ true
mapped p f [] i h k = (let l = k.1 in absurd (omega (arith, l)))
mapped p f (x ∷ xs) i h (zero, l, e) = ap (λ n. p (f n)) (sym e) ∙ (and_parts (p (f x)) (list_all p (map f xs)) h).0
mapped p f (x ∷ xs) i h (suc k, l, e) = mapped p f xs i (and_parts (p (f x)) (list_all p (map f xs)) h).1 (k, omega (arith, l), e)

-- the end of all is no earlier than that of each
over_by_end : (ls times : List ℕ) (k : ℕ) → length times ≡ length ls → k < length ls → slice_index times k + slice_index ls k ≤ end_of ls times
over_by_end [] times k e lt = absurd (omega (arith, lt))
over_by_end (l ∷ ls) [] k e lt = absurd (omega (arith, e))
over_by_end (l ∷ ls) (t ∷ times) zero e lt = omega arith
over_by_end (l ∷ ls) (t ∷ times) (suc k) e lt = (let r = over_by_end ls times k (omega (arith, e)) (omega (arith, lt)) in omega (arith, r))

module _ (core : PlainCore) where
  latency_at : (ops : List PlainOp) (k : ℕ) (op : PlainOp) → IsOpAt ops k op → slice_index (latencies core ops) k ≡ latency core op
  latency_at [] k op at = absurd (let lt = at.within in omega (arith, lt))
  latency_at (o ∷ ops) zero op at = ap (latency core) (at.is o)
  latency_at (o ∷ ops) (suc k) op at = latency_at ops k op (record { within = (let lt = at.within in omega (arith, lt)); is = at.is })

  nothing_lasts : (ops : List PlainOp) (times : List ℕ) → length times ≡ length ops → end_of (latencies core ops) times ≡ 0 → latency_of_all core ops ≡ 0
  nothing_lasts [] times e z = refl
  nothing_lasts (op ∷ ops) [] e z = absurd (omega (arith, e))
  nothing_lasts (op ∷ ops) (t ∷ times) e z =
      (let rest = nothing_lasts ops times (omega (arith, e)) (omega (arith, z)) in let here : latency core op ≡ 0 = omega (arith, z) in omega (arith, rest, here))

  latencies_length : (ops : List PlainOp) → length (latencies core ops) ≡ length ops
  latencies_length [] = refl
  latencies_length (op ∷ ops) = ap suc (latencies_length ops)

  -- times one after the other
  turn_from : (b : ℕ) (ops : List PlainOp) (times : List ℕ) → are_in_turn core b ops times ≡ true → (j : ℕ) → j < length ops → b ≤ slice_index times j
  turn_from b [] times h j l = absurd (omega (arith, l))
  turn_from b (op ∷ ops) [] h j l = absurd (false≢true h)
  turn_from b (op ∷ ops) (s ∷ times) h zero l = let a : s ≡ b = eqb-true _ _ (and_parts (s == b) (are_in_turn core (b + latency core op) ops times) h).0 in omega arith
  turn_from b (op ∷ ops) (s ∷ times) h (suc j) l =
      let a : b + latency core op ≤ slice_index times j = turn_from (b + latency core op) ops times (and_parts (s == b) (are_in_turn core (b + latency core op) ops times) h).1 j (omega (arith, l)) in
      omega arith

  turn_after : (b : ℕ) (ops : List PlainOp) (times : List ℕ) → are_in_turn core b ops times ≡ true → (j r : ℕ) (op : PlainOp) → IsOpAt ops j op → j < r → r < length ops → slice_index times j + latency core op ≤ slice_index times r
  turn_after b [] times h j r op at l q = absurd (omega (arith, q))
  turn_after b (o ∷ ops) [] h j r op at l q = absurd (false≢true h)
  turn_after b (o ∷ ops) (s ∷ times) h j zero op at l q = absurd (omega (arith, l))
  turn_after b (o ∷ ops) (s ∷ times) h zero (suc r) op at l q =
      let t = and_parts (s == b) (are_in_turn core (b + latency core o) ops times) h in
      let a : s ≡ b = eqb-true _ _ t.0 in
      let c : b + latency core o ≤ slice_index times r = turn_from (b + latency core o) ops times t.1 r (omega (arith, q)) in
      let same : latency core o ≡ latency core op = ap (latency core) (at.is o) in
      omega arith
  turn_after b (o ∷ ops) (s ∷ times) h (suc j) (suc r) op at l q =
      turn_after (b + latency core o) ops times (and_parts (s == b) (are_in_turn core (b + latency core o) ops times) h).1 j r op (record { within = (let lt = at.within in omega (arith, lt)); is = at.is }) (omega (arith, l)) (omega (arith, q))

  module _ (around : Around) where
    abbrev givens : List PlainOp → Given
    givens ops = map (λ (o : PlainOp). given_type o.kind o.ty) ops

    -- each operation keeps its rules, by those before it
    rule_at : (earlier : Given) (ops : List PlainOp) → are_operations_right_after core around earlier ops ≡ true → (k : ℕ) (op : PlainOp) → IsOpAt ops k op → is_operation_right core around (earlier ++ givens (take k ops)) op ≡ true
    rule_at earlier [] r k op at = absurd (let lt = at.within in omega (arith, lt))
    rule_at earlier (o ∷ ops) r zero op at =
        subst (λ x. is_operation_right core around (earlier ++ []) x ≡ true) (at.is o) (subst (λ g. is_operation_right core around g o ≡ true) (sym (append-nil earlier)) (and_parts (is_operation_right core around earlier o) _ r).0)
    rule_at earlier (o ∷ ops) r (suc k) op at =
        subst (λ g. is_operation_right core around g op ≡ true) (append_assoc earlier (given_type o.kind o.ty ∷ []) (givens (take k ops)))
        (rule_at (earlier ++ given_type o.kind o.ty ∷ []) ops (and_parts (is_operation_right core around earlier o) _ r).1 k op (record { within = (let lt = at.within in omega (arith, lt)); is = at.is }))

    -- a word that is given stands before
    given_before : (ops : List PlainOp) (k i : ℕ) (ty : Ty) → gives (givens (take k ops)) i ty ≡ true → i < k
    given_before ops zero i ty e = absurd (true≢false (sym e))
    given_before [] (suc k) i ty e = absurd (true≢false (sym e))
    given_before (op ∷ ops) (suc k) zero ty e = omega arith
    given_before (op ∷ ops) (suc k) (suc i) ty e = (let r = given_before ops k i ty e in omega (arith, r))

    each_given : (earlier : Given) (places : List ℕ) (types : List Ty) → give_all earlier places types ≡ true → (i : ℕ) → Contains places i → (ty : Ty) × (gives earlier i ty ≡ true)
    each_given earlier [] types h i k = (let l = k.1 in absurd (omega (arith, l)))
    each_given earlier (p ∷ places) [] h i k = absurd (false≢true h)
    each_given earlier (p ∷ places) (ty ∷ types) h i (zero, l, e) = (ty, ap (λ n. gives earlier n ty) (sym e) ∙ (and_parts (gives earlier p ty) (give_all earlier places types) h).0)
    each_given earlier (p ∷ places) (ty ∷ types) h i (suc k, l, e) = each_given earlier places types (and_parts (gives earlier p ty) (give_all earlier places types) h).1 i (k, omega (arith, l), e)

    used_before : (ops : List PlainOp) → are_operations_right core around ops ≡ true → (k i : ℕ) (op : PlainOp) → IsOpAt ops k op → IsUsed op i → i < k
    used_before ops right k i op at used = by used
      where
        rules : is_operation_right core around (givens (take k ops)) op ≡ true
        rules = rule_at [] ops right k op at

        second : (give_all (givens (take k ops)) op.args (taken_types op.kind op.ty (indices_of core around op.mem)) ≡ true) × (is_mask core around (givens (take k ops)) op.mask ≡ true)
        second = and_parts (give_all (givens (take k ops)) op.args (taken_types op.kind op.ty (indices_of core around op.mem))) (is_mask core around (givens (take k ops)) op.mask)
            (and_parts (is_in_range op.kind op.ty around && names_rightly core around op.kind op.ty op.mem) _ rules).1

        by : IsUsed op i → i < k
        by (inl c) = (let g = each_given (givens (take k ops)) op.args (taken_types op.kind op.ty (indices_of core around op.mem)) second.0 i c in given_before ops k i g.0 g.1)
        by (inr e) = given_before ops k i Bit (subst (λ m. is_mask core around (givens (take k ops)) m ≡ true) e second.1)

  module _ (schemes : List (Option Banking)) (meets : List Meet) (number : ℕ) (ops : List PlainOp) (times : List ℕ) (ii : ℕ) where
    by_orders : keep_orders core schemes meets number ops times ii ≡ true → (k i : ℕ) (op used : PlainOp) → IsOpAt ops k op → IsOpAt ops i used → IsUsed op i → slice_index times i + latency core used ≤ slice_index times k
    by_orders kept k i op used at there uses = by uses
      where
        own : list_all (is_kept ii times) (use_orders core ops k) ≡ true
        own = made_below (is_kept ii times) (use_orders core ops) (length ops) k (kept_left (is_kept ii times) (flat_map (use_orders core ops) (numbers_below (length ops))) _ kept) at.within

        is_op : op_at core ops k ≡ op
        is_op = at.is no_op

        is_used : op_at core ops i ≡ used
        is_used = there.is no_op

        of_order : is_kept ii times (use_order core ops k i) ≡ true → slice_index times i + latency core used ≤ slice_index times k
        of_order e =
            let a : slice_index times i + latency core (op_at core ops i) ≤ slice_index times k + 0 * ii = leb-true _ _ e in
            let same : latency core (op_at core ops i) ≡ latency core used = ap (latency core) is_used in
            omega (arith, a, same)

        by : IsUsed op i → slice_index times i + latency core used ≤ slice_index times k
        by (inl c) = of_order (mapped (is_kept ii times) (use_order core ops k) (op_at core ops k).args i (kept_left (is_kept ii times) (map (use_order core ops k) (op_at core ops k).args) _ own) (subst (λ (o : PlainOp). Contains o.args i) (sym is_op) c))
        by (inr e) =
            of_order (and_parts (is_kept ii times (use_order core ops k i)) true
            (subst (λ m. list_all (is_kept ii times) (mask_orders core ops k m) ≡ true) (ap (λ (o : PlainOp). o.mask) is_op ∙ e) (kept_right (is_kept ii times) (map (use_order core ops k) (op_at core ops k).args) (mask_orders core ops k (op_at core ops k).mask) own))).0

    module _ (around : Around) (right : are_operations_right core around ops ≡ true) (each : length times ≡ length ops) (last : ℕ) (small : last < 2 ^ 32) where
      pub leaves : (serial : Bool) → are_times_right core schemes meets number false ops times ii last serial ≡ true → HasTime core ops (inner_plan times ii last serial)
      leaves serial h = record {
        each = each;
        leaves = record {
          uses = λ k i op used at there uses. by_kind serial h k i op used at there uses;
          small = λ k op at. (let o = over k op at in omega (arith, o, small));
        };
        paced = record {
          at_once = λ z. nothing_lasts ops times each (sym ended ∙ z);
          interval = leb-true _ _ (and_parts (nat_le 1 ii) (last == end_of (latencies core ops) times) (and_parts _ _ h).0).0;
        };
      }
        where
          ended : last ≡ end_of (latencies core ops) times
          ended = eqb-true _ _ (and_parts _ (last == end_of (latencies core ops) times) (and_parts _ _ h).0).1

          over : (k : ℕ) (op : PlainOp) → IsOpAt ops k op → slice_index times k + latency core op ≤ last
          over k op at =
              let o = over_by_end (latencies core ops) times k (each ∙ sym (latencies_length ops)) (let lt = at.within in let long = latencies_length ops in omega (arith, lt, long)) in
              let same = latency_at ops k op at in
              omega (arith, o, same, ended)

          by_kind : (serial : Bool) → are_times_right core schemes meets number false ops times ii last serial ≡ true → (k i : ℕ) (op used : PlainOp) → IsOpAt ops k op → IsOpAt ops i used → IsUsed op i → slice_index times i + latency core used ≤ slice_index times k
          by_kind true g k i op used at there uses =
              turn_after 0 ops times (and_parts (are_in_turn core 0 ops times) _ (and_parts _ _ g).1).0 i k used there (used_before around ops right k i op at uses) at.within
          by_kind false g k i op used at there uses = by_orders (and_parts _ _ g).1 k i op used at there uses
