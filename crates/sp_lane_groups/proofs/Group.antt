-- The whole group of an inner body: its memories are renewed, and then its lanes are done.
use Rattle.std.proofs.Common.{◌≡◌, ℕ, zero, suc, ◌-◌, ◌≤◌, Bool, true, false, cond, List, [], ◌∷◌, length, None, Some, refl, sym, ◌∙◌, ap, subst, arith, inl, ◌==◌}
use Rattle.std.proofs.lemmas.Bool.{eqb-true}
use Rattle.sp_words.specs.Memory.{fresh_of}
use Rattle.sp_core.specs.Around.{Around, within, lanes_of}
use Rattle.sp_core.specs.Declarations.{mem}
use Rattle.sp_core.specs.History.{Entry}
use Rattle.sp_core.specs.OperationRules.{are_operations_right}
use Rattle.sp_core.specs.Operations.{operations}
use Rattle.sp_core.specs.PlainCore.{PlainOp, PlainCounter, PlainMem, PlainCore}
use Rattle.sp_core.specs.Scope.{plainly, Scope}
use Rattle.sp_core.specs.Sequential.{has_reset, renew_in_body}
use Rattle.sp_core.specs.Step.{went, in_order}
use Rattle.sp_core.specs.Store.{Store}
use Rattle.sp_lane_groups.proofs.RunsNamed.{name_memories}
use Rattle.sp_lanes.specs.Bodies.{Body, nowhere, lane_body, more_bodies, all_ops, standing}
use Rattle.sp_lanes.specs.Order.{memory_order}
use Rattle.sp_lanes.specs.Shared.{shared}
use Rattle.sp_lanes.specs.Unrolled.{unrolled, last_number, owned_in_lanes, ops_in_lanes, inner_ops}
use Rattle.sp_lanes.specs.Within.{Within, in_lane, ops_in}
use Rattle.sp_lane_groups.specs.LiveStores.{HoldAlike, ArePlain}
use Rattle.sp_lane_groups.proofs.LiveLane.{none_stands}
use Rattle.sp_lane_groups.specs.Groups.{iteration, lanes_from, EachMasked, IsGroup, LeavesOutside}
use Rattle.sp_lane_groups.specs.Laws.{GroupsGoAlong, InnersGoAlong}
use Rattle.sp_lane_groups.specs.Waiting.{ResetsFirst, waits_in}
use Rattle.sp_lane_groups.proofs.Among.{row_in, row_out}
use Rattle.sp_lane_groups.proofs.Apart.{own_out}
use Rattle.sp_lane_groups.proofs.Lanes.{Reached, Done, lane_done, single_done, leaves_kept, later_lanes}
use Rattle.sp_lane_groups.proofs.Renewed.{bind_known, order_split, order_none, Renewed, renew_all}
use Rattle.sp_lane_groups.proofs.RunsWhole.{runs_append, run_long}

module _ (core : PlainCore) (around inside : Around) (w : Within) (counters : List PlainCounter) (owned : List ℕ) (plain : ℕ → Scope) (in_lanes : Scope) (count : ℕ) (g : IsGroup core around inside w counters owned plain in_lanes count)
    (ops : List PlainOp) (p : ArePlain ops) (right : are_operations_right core (within around counters owned) ops ≡ true) (resets : ResetsFirst (waits_in core owned) ops) where
  abbrev number_in : ℕ → ℕ → ℕ
  number_in l m = (in_lane (memory_order core) counters owned w l).number m

  abbrev all_owned : List ℕ
  all_owned = owned_in_lanes (memory_order core) counters owned w

  -- after the memories of all lanes are renewed
  begins : (s t : Store) → HoldAlike core around w s t → (r : Renewed (unrolled core) all_owned t) → Reached core around inside w counters owned plain in_lanes count g t 0 s r.after
  begins s t alike r = record {
    out = λ m u. r.outside (w.number m) (row_out number_in owned (lanes_of counters) (w.number m) (λ x l e lt i. own_out core around inside w counters owned plain in_lanes count g x l m e lt u i)) ∙ alike m u;
    own = λ m j e k le lj. (
        let same : mem (unrolled core) (number_in j m) ≡ mem core m = ((g.together j lj).memories m (g.valid m e)).1 in
        r.inside (number_in j m) (row_in number_in owned (lanes_of counters) j m lj e) (ap (λ (x : PlainMem). has_reset x.kind x.start) same ∙ k)
        ∙ ap (λ (x : PlainMem). Some (fresh_of x.kind x.dims x.start [])) same);
    rest = λ n outer own. r.outside n (row_out number_in owned (lanes_of counters) n own);
  }

  abbrev Went : (t after : Store) → Type 0
  Went t after =
      (es : List Entry) × (ended : Store) × (iteration (unrolled core) in_lanes all_owned (ops_in_lanes (memory_order core) w counters owned ops None) t ≡ went es ended)
      × HoldAlike core around w after ended × LeavesOutside core around w counters owned t ended

  from_first : (several : (lanes_of counters == 1) ≡ false) (k : ℕ) → suc k ≡ count → (s t u after : Store) (es : List Entry) (groups : List (List Entry)) → HoldAlike core around w s t → iteration core (plain 0) owned ops s ≡ went es u
      → in_order (λ l. iteration core (plain l) owned ops) (lanes_from 1 k) u ≡ went groups after → EachMasked ops (es ∷ groups) → Went t after
  from_first several k sum s t u after es groups alike ran others bits =
      let r : Renewed (unrolled core) all_owned t = renew_all (unrolled core) all_owned t in
      let most : suc k ≤ lanes_of counters = (let le = g.most in omega (arith, le, sum)) in
      let x : Done core around inside w counters owned plain in_lanes count g t ops p right resets 0 (nowhere ops) [] es r.after u =
      lane_done core around inside w counters owned plain in_lanes count g t ops p right resets several 0 (nowhere ops) [] es s r.after u (omega (arith, sum)) (begins s t alike r) ran bits.0 (none_stands [] es 0 ops) in
      let b : Body = lane_body (last_number counters) (in_lane (memory_order core) counters owned w) ops 0 0 (nowhere ops) in
      let y =
      later_lanes core around inside w counters owned plain in_lanes count g t ops p right resets s u es ran b.places x.long several (name_memories core (within around counters owned) [] ops right)
      (lanes_of counters - 1) k 1 (length b.ops) x.new u x.ended after groups (omega (arith, most)) (inl (omega (arith, sum))) (omega (arith, most))
      (let n = run_long (unrolled core) in_lanes b.ops [] r.after x.new x.ended x.ran in omega (arith, n)) x.reached
      (leaves_kept core around inside w counters owned plain in_lanes count g t ops p right resets s u es ran b.places x.long 0 s u es ran (λ m o c. refl)) x.words others bits.1 in (
        y.0,
        y.1,
        bind_known (in_order (renew_in_body (unrolled core) plainly 0) all_owned) (λ _. operations (unrolled core) in_lanes (ops_in_lanes (memory_order core) w counters owned ops None)) t r.after r.answers r.ran
            ∙ runs_append (unrolled core) in_lanes b.ops (all_ops (more_bodies (last_number counters) (in_lane (memory_order core) counters owned w) ops 1 (lanes_of counters - 1) (length b.ops) (standing (shared (last_number counters) owned ops ops) b.places))) [] x.new r.after x.ended x.ran
            ∙ y.2,
        y.3.out,
        y.3.rest,
      )

  whole : (several : (lanes_of counters == 1) ≡ false) (n : ℕ) → n ≡ count → (s t after : Store) (groups : List (List Entry)) → HoldAlike core around w s t → in_order (λ l. iteration core (plain l) owned ops) (lanes_from 0 n) s ≡ went groups after → EachMasked ops groups → Went t after
  whole several zero e s t after groups alike ran bits = absurd (let some = g.some in omega (arith, some, e))
  whole several (suc k) e s t after groups alike ran bits =
      let r = order_split (λ l. iteration core (plain l) owned ops) 0 (lanes_from 1 k) s after groups ran in
      from_first several k e s t r.1 after r.0 r.2 alike r.3 r.4 (subst (EachMasked ops) (sym r.5) bits)

  -- with one lane or several
  abbrev InnerWent : List PlainOp → (t after : Store) → Type 0
  InnerWent lane_ops t after =
      (es : List Entry) × (ended : Store) × (iteration (unrolled core) in_lanes all_owned lane_ops t ≡ went es ended) × HoldAlike core around w after ended × LeavesOutside core around w counters owned t ended

  from_single : (k : ℕ) → suc k ≡ count → lanes_of counters ≡ 1 → (s t u after : Store) (es : List Entry) (groups : List (List Entry)) → HoldAlike core around w s t → iteration core (plain 0) owned ops s ≡ went es u
      → in_order (λ l. iteration core (plain l) owned ops) (lanes_from 1 k) u ≡ went groups after → InnerWent (ops_in (in_lane (memory_order core) counters owned w 0) ops) t after
  from_single (suc k) sum one s t u after es groups alike ran others = absurd (let most = g.most in omega (arith, most, sum, one))
  from_single zero sum one s t u after es groups alike ran others =
      let r : Renewed (unrolled core) all_owned t = renew_all (unrolled core) all_owned t in
      let x = single_done core around inside w counters owned plain in_lanes count g t ops p right resets s r.after u es (begins s t alike r) ran in
      let last = order_none (λ l. iteration core (plain l) owned ops) u after groups others in (
        es,
        x.0,
        bind_known (in_order (renew_in_body (unrolled core) plainly 0) all_owned) (λ _. operations (unrolled core) in_lanes (ops_in (in_lane (memory_order core) counters owned w 0) ops)) t r.after r.answers r.ran ∙ x.1,
        (λ m i. x.2.out m i ∙ ap (λ (v : Store). v m) last.0),
        x.2.rest,
      )

  single : (n : ℕ) → n ≡ count → lanes_of counters ≡ 1 → (s t after : Store) (groups : List (List Entry)) → HoldAlike core around w s t → in_order (λ l. iteration core (plain l) owned ops) (lanes_from 0 n) s ≡ went groups after
      → InnerWent (ops_in (in_lane (memory_order core) counters owned w 0) ops) t after
  single zero e one s t after groups alike ran = absurd (let some = g.some in omega (arith, some, e))
  single (suc k) e one s t after groups alike ran =
      let r = order_split (λ l. iteration core (plain l) owned ops) 0 (lanes_from 1 k) s after groups ran in
      from_single k e one s t r.1 after r.0 r.2 alike r.3 r.4

  either : (s t after : Store) (groups : List (List Entry)) → HoldAlike core around w s t → in_order (λ l. iteration core (plain l) owned ops) (lanes_from 0 count) s ≡ went groups after → EachMasked ops groups
      → InnerWent (inner_ops (memory_order core) w counters owned ops None) t after
  either s t after groups alike ran bits = by (lanes_of counters == 1) refl
    where
      by : (b : Bool) → (lanes_of counters == 1) ≡ b → InnerWent (cond b (ops_in (in_lane (memory_order core) counters owned w 0) ops) (ops_in_lanes (memory_order core) w counters owned ops None)) t after
      by true e = single count refl (eqb-true (lanes_of counters) 1 e) s t after groups alike ran
      by false e = whole e count refl s t after groups alike ran bits

pub inners_go : (core : PlainCore) → InnersGoAlong core
inners_go core around inside w counters owned plain in_lanes count g ops s t after groups p right resets alike ran bits =
    either core around inside w counters owned plain in_lanes count g ops p right resets s t after groups alike ran bits

pub groups_go : (core : PlainCore) → GroupsGoAlong core
groups_go core around inside w counters owned plain in_lanes count g several ops s t after groups p right resets alike ran bits =
    whole core around inside w counters owned plain in_lanes count g ops p right resets several count refl s t after groups alike ran bits
