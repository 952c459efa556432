-- The bounds of counters in lanes.
use Rattle.std.proofs.Common.{◌≡◌, ℕ, suc, ◌+◌, true, ◌&&◌, List, [], ◌∷◌, length, refl, sym, ◌∙◌, ap, nat_lt, nat_le}
use Rattle.std.proofs.lemmas.Bool.{and_parts, leb-true}
use Rattle.std.specs.List.{list_all}
use Rattle.std.specs.Prelude.{◌^◌}
use Rattle.sp_words.specs.Types.{int_type}
use Rattle.sp_core.specs.Around.{Around}
use Rattle.sp_core.specs.History.{Bounds}
use Rattle.sp_core.specs.MemoryRules.{are_memories_right}
use Rattle.sp_core.specs.NodeRules.{are_counters_right}
use Rattle.sp_core.specs.OperationRules.{are_operations_right, is_word_list, is_bound, is_early, is_counter_right}
use Rattle.sp_core.specs.Operations.{operations}
use Rattle.sp_core.specs.PlainCore.{PlainOp, PlainCounter, PlainCore}
use Rattle.sp_core.specs.Scope.{plainly, Loop, loops_of, Scope}
use Rattle.sp_core.specs.Scope as scope
use Rattle.sp_core.specs.Sequential.{bounds}
use Rattle.sp_core.specs.Step.{Step, went, pure, ◌>>=◌, in_order}
use Rattle.sp_core.specs.Store.{Store}
use Rattle.sp_core.specs.Typed.{last_gives}
use Rattle.sp_fitting.specs.Laws.{ListsFit}
use Rattle.sp_lanes.specs.Unrolled.{unrolled}
use Rattle.sp_lanes.specs.Within.{Within, ops_in, counter_in, counters_in}
use Rattle.sp_lane_rules.specs.UnrolledPlaces.{GoTogether}
use Rattle.sp_lane_groups.specs.LiveStores.{AreCopies, HaveRoom, LeavesOthers, ScopesAgree, ArePlain}
use Rattle.sp_lane_groups.specs.PlainNodes.{AreCountersPlain}
use Rattle.sp_lane_groups.proofs.Renewed.{order_split, order_none}
use Rattle.sp_lane_groups.specs.ValuesLanes.{GoOn}
use Rattle.sp_lane_groups.proofs.InnersFollows.{Follows, Same, pure_follows, bind_same, list_follows}

-- one answer for each element
pub order_long : {A B : Type 0} (step : A → Step B) (xs : List A) (s t : Store) (all : List B) → in_order step xs s ≡ went all t → length all ≡ length xs
order_long step [] s t all e = ap (λ (l : List _). length l) (sym (order_none step s t all e).1)
order_long step (x ∷ xs) s t all e =
    let r = order_split step x xs s t all e in
    ap (λ (l : List _). length l) (sym r.5) ∙ ap suc (order_long step xs r.1 t r.2 r.4)

-- what a bound keeps
pub bound_right : (core : PlainCore) (around : Around) (ops : List PlainOp) → is_bound core around ops ≡ true → are_operations_right core around ops ≡ true
bound_right core around ops e = (and_parts (are_operations_right core around ops) (last_gives ops int_type) (and_parts (is_word_list core around ops int_type) (list_all (is_early core around) ops) e).0).0

-- what each counter keeps
pub each_right : (core : PlainCore) (around : Around) (counters : List PlainCounter) → are_counters_right core around counters ≡ true → list_all (is_counter_right core around) counters ≡ true
each_right core around counters e = (and_parts (nat_le (length counters) 4 && nat_le (length counters + length around.counters) 1000) (list_all (is_counter_right core around) counters) e).1

pub goes_on : (core : PlainCore) (around : Around) (counters : List PlainCounter) → list_all (is_counter_right core around) counters ≡ true → GoOn counters
goes_on core around [] e = tt
goes_on core around (c ∷ counters) e =
    let a = and_parts (is_counter_right core around c) (list_all (is_counter_right core around) counters) e in
    let b = and_parts (is_bound core around c.from && is_bound core around c.until) ((nat_le 1 c.by && nat_lt c.by (2 ^ 31)) && (nat_le 1 c.par && nat_le c.par 16)) a.0 in
    let d = and_parts (nat_le 1 c.by && nat_lt c.by (2 ^ 31)) (nat_le 1 c.par && nat_le c.par 16) b.1 in
    (leb-true 1 c.by (and_parts (nat_le 1 c.by) (nat_lt c.by (2 ^ 31)) d.0).0, leb-true 1 c.par (and_parts (nat_le 1 c.par) (nat_le c.par 16) d.1).0, goes_on core around counters a.1)

-- in a lane counters have other lists, and the same loops
pub loops_kept : (w : Within) (counters : List PlainCounter) (bs : List Bounds) → loops_of scope.in_lanes (counters_in w counters) bs ≡ loops_of scope.in_lanes counters bs
loops_kept w [] bs = refl
loops_kept w (c ∷ counters) [] = refl
loops_kept w (c ∷ counters) (b ∷ bs) = ap (λ (l : List Loop). scope.loop_of scope.in_lanes c b ∷ l) (loops_kept w counters bs)

module _ (core : PlainCore) (around : Around) (w : Within) (Left : Store → Store → Type 0) (none : (t : Store) → Left t t) (both : (t u v : Store) → Left t u → Left u v → Left t v)
    (inside : Around) (together : GoTogether core (unrolled core) around inside w) (copies : AreCopies core around w) (rooms : HaveRoom core around w (unrolled core)) (plain in_lanes : Scope) (agree : ScopesAgree w plain in_lanes)
    (from_others : (t ended : Store) → LeavesOthers core around w t ended → Left t ended) (memories : are_memories_right core ≡ true) (lists : ListsFit core) (turns : ℕ) where
  abbrev here : (ops : List PlainOp) → ArePlain ops → are_operations_right core around ops ≡ true → Follows core around w Left none both (Same core around w Left none both) (operations core plain ops) (operations (unrolled core) in_lanes (ops_in w ops))
  here = list_follows core around w Left none both inside together copies rooms plain in_lanes agree from_others memories lists

  bounds_follow : (c : PlainCounter) → ArePlain c.from → ArePlain c.until → is_counter_right core around c ≡ true
      → Follows core around w Left none both (Same core around w Left none both) (bounds core plainly turns plain c) (bounds (unrolled core) scope.in_lanes turns in_lanes (counter_in w c))
  bounds_follow c p q e =
      let a = and_parts (is_bound core around c.from && is_bound core around c.until) ((nat_le 1 c.by && nat_lt c.by (2 ^ 31)) && (nat_le 1 c.par && nat_le c.par 16)) e in
      let b = and_parts (is_bound core around c.from) (is_bound core around c.until) a.0 in
      bind_same core around w Left none both (Same core around w Left none both) (operations core plain c.from) (operations (unrolled core) in_lanes (ops_in w c.from))
      (λ x. operations core plain c.until >>= (λ y. pure (record { from = x; until = y }))) (λ x. operations (unrolled core) in_lanes (ops_in w c.until) >>= (λ y. pure (record { from = x; until = y })))
      (here c.from p (bound_right core around c.from b.0))
      (λ x. bind_same core around w Left none both (Same core around w Left none both) (operations core plain c.until) (operations (unrolled core) in_lanes (ops_in w c.until))
      (λ y. pure (record { from = x; until = y })) (λ y. pure (record { from = x; until = y }))
      (here c.until q (bound_right core around c.until b.1))
      (λ y. pure_follows core around w Left none both (Same core around w Left none both) (record { from = x; until = y }) (record { from = x; until = y }) refl))

  pub all_bounds_follow : (counters : List PlainCounter) → AreCountersPlain counters → list_all (is_counter_right core around) counters ≡ true
      → Follows core around w Left none both (Same core around w Left none both) (in_order (bounds core plainly turns plain) counters) (in_order (bounds (unrolled core) scope.in_lanes turns in_lanes) (counters_in w counters))
  unfolding in_order
  all_bounds_follow [] p e = pure_follows core around w Left none both (Same core around w Left none both) [] [] refl
  all_bounds_follow (c ∷ counters) p e =
      let a = and_parts (is_counter_right core around c) (list_all (is_counter_right core around) counters) e in
      bind_same core around w Left none both (Same core around w Left none both) (bounds core plainly turns plain c) (bounds (unrolled core) scope.in_lanes turns in_lanes (counter_in w c))
      (λ x. in_order (bounds core plainly turns plain) counters >>= (λ xs. pure (x ∷ xs))) (λ x. in_order (bounds (unrolled core) scope.in_lanes turns in_lanes) (counters_in w counters) >>= (λ xs. pure (x ∷ xs)))
      (bounds_follow c p.0 p.1 a.0)
      (λ x. bind_same core around w Left none both (Same core around w Left none both) (in_order (bounds core plainly turns plain) counters) (in_order (bounds (unrolled core) scope.in_lanes turns in_lanes) (counters_in w counters))
      (λ xs. pure (x ∷ xs)) (λ xs. pure (x ∷ xs)) (all_bounds_follow counters p.2 a.1) (λ xs. pure_follows core around w Left none both (Same core around w Left none both) (x ∷ xs) (x ∷ xs) refl))
