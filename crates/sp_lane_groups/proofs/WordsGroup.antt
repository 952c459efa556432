-- The whole group of an inner body, and where the words of its lanes stand.
use Rattle.std.proofs.Common.{◌≡◌, ℕ, zero, suc, ◌-◌, ◌≤◌, true, false, List, [], ◌∷◌, ◌++◌, length, Some, refl, sym, ◌∙◌, ap, subst, arith, inl, ◌==◌}
use Rattle.sp_words.specs.Memory.{fresh_of}
use Rattle.sp_core.specs.Around.{Around, within, lanes_of}
use Rattle.sp_core.specs.Declarations.{mem}
use Rattle.sp_core.specs.History.{Entry}
use Rattle.sp_core.specs.OperationRules.{are_operations_right}
use Rattle.sp_core.specs.Operations.{operations}
use Rattle.sp_core.specs.Operators.{bit}
use Rattle.sp_core.specs.PlainCore.{PlainOp, PlainCounter, PlainMem, PlainCore}
use Rattle.sp_core.specs.Scope.{plainly, Scope}
use Rattle.sp_core.specs.Sequential.{has_reset, renew_in_body}
use Rattle.sp_core.specs.Step.{went, in_order}
use Rattle.sp_core.specs.Store.{Store}
use Rattle.sp_lane_groups.proofs.RunsNamed.{name_memories}
use Rattle.sp_lanes.specs.Bodies.{Body, nowhere, lane_body, more_bodies, lane_bodies, all_ops, standing}
use Rattle.sp_lanes.specs.Order.{memory_order}
use Rattle.sp_lanes.specs.Shared.{shared}
use Rattle.sp_lanes.specs.Unrolled.{unrolled, last_number, owned_in_lanes}
use Rattle.sp_lanes.specs.Within.{Within, in_lane}
use Rattle.sp_lane_groups.specs.LiveStores.{HoldAlike, ArePlain}
use Rattle.sp_lane_groups.proofs.LiveLane.{none_stands}
use Rattle.sp_lane_groups.specs.Groups.{iteration, lanes_from, EachMasked, IsGroup, LeavesOutside}
use Rattle.sp_lane_groups.specs.Waiting.{ResetsFirst, waits_in}
use Rattle.sp_lane_groups.proofs.Among.{row_in, row_out}
use Rattle.sp_lane_groups.proofs.Apart.{own_out}
use Rattle.sp_lane_groups.proofs.Lanes.{Reached, Done, lane_done, leaves_kept}
use Rattle.sp_lane_groups.proofs.Renewed.{bind_known, order_split, Renewed, renew_all}
use Rattle.sp_lane_groups.proofs.RunsWhole.{runs_append, run_long}
use Rattle.sp_lane_groups.specs.WordsLaws.{WordsStand}
use Rattle.sp_lane_groups.specs.WordsStanding.{MaskIs, LanesStand}
use Rattle.sp_lane_groups.proofs.WordsLanes.{WordsEnd, later_words}
use Rattle.sp_lane_groups.proofs.WordsMasks.{mask_stands, mask_more, stand_more}

module _ (core : PlainCore) (around inside : Around) (w : Within) (counters : List PlainCounter) (owned : List ℕ) (plain : ℕ → Scope) (in_lanes : Scope) (count : ℕ) (g : IsGroup core around inside w counters owned plain in_lanes count)
    (ops : List PlainOp) (p : ArePlain ops) (right : are_operations_right core (within around counters owned) ops ≡ true) (resets : ResetsFirst (waits_in core owned) ops) where
  abbrev number_in : ℕ → ℕ → ℕ
  number_in l m = (in_lane (memory_order core) counters owned w l).number m

  abbrev all_owned : List ℕ
  all_owned = owned_in_lanes (memory_order core) counters owned w

  abbrev bodies : List Body
  bodies = lane_bodies (last_number counters) (in_lane (memory_order core) counters owned w) ops owned (lanes_of counters)

  -- after the memories of all lanes are renewed
  begins : (s t : Store) → HoldAlike core around w s t → (r : Renewed (unrolled core) all_owned t) → Reached core around inside w counters owned plain in_lanes count g t 0 s r.after
  begins s t alike r = record {
    out = λ m u. r.outside (w.number m) (row_out number_in owned (lanes_of counters) (w.number m) (λ x l e lt i. own_out core around inside w counters owned plain in_lanes count g x l m e lt u i)) ∙ alike m u;
    own = λ m j e k le lj. (
        let same : mem (unrolled core) (number_in j m) ≡ mem core m = ((g.together j lj).memories m (g.valid m e)).1 in
        r.inside (number_in j m) (row_in number_in owned (lanes_of counters) j m lj e) (ap (λ (x : PlainMem). has_reset x.kind x.start) same ∙ k)
        ∙ ap (λ (x : PlainMem). Some (fresh_of x.kind x.dims x.start [])) same);
    rest = λ n outer own. r.outside n (row_out number_in owned (lanes_of counters) n own);
  }

  abbrev Went : (t after : Store) → List (List Entry) → Type 0
  Went t after groups =
      (es : List Entry) × (ended : Store) × (iteration (unrolled core) in_lanes all_owned (all_ops bodies) t ≡ went es ended)
      × HoldAlike core around w after ended × LeavesOutside core around w counters owned t ended × LanesStand (in_lanes (last_number counters)).live es 0 bodies groups

  from_first : (several : (lanes_of counters == 1) ≡ false) (k : ℕ) → suc k ≡ count → (s t u after : Store) (es : List Entry) (groups : List (List Entry)) → HoldAlike core around w s t → iteration core (plain 0) owned ops s ≡ went es u
      → in_order (λ l. iteration core (plain l) owned ops) (lanes_from 1 k) u ≡ went groups after → EachMasked ops (es ∷ groups) → Went t after (es ∷ groups)
  from_first several k sum s t u after es groups alike ran others bits =
      let r : Renewed (unrolled core) all_owned t = renew_all (unrolled core) all_owned t in
      let most : suc k ≤ lanes_of counters = (let le = g.most in omega (arith, le, sum)) in
      let x : Done core around inside w counters owned plain in_lanes count g t ops p right resets 0 (nowhere ops) [] es r.after u =
      lane_done core around inside w counters owned plain in_lanes count g t ops p right resets several 0 (nowhere ops) [] es s r.after u (omega (arith, sum)) (begins s t alike r) ran bits.0 (none_stands [] es 0 ops) in
      let b : Body = lane_body (last_number counters) (in_lane (memory_order core) counters owned w) ops 0 0 (nowhere ops) in
      let n : ℕ = lanes_of counters - 1 in
      let y : WordsEnd core around inside w counters owned plain in_lanes count g t ops p right resets s u es ran b.places x.long 1 n (length b.ops) x.new x.ended after groups =
      later_words core around inside w counters owned plain in_lanes count g t ops p right resets s u es ran b.places x.long several (name_memories core (within around counters owned) [] ops right)
      n k 1 (length b.ops) x.new u x.ended after groups (omega (arith, most)) (inl (omega (arith, sum))) (omega (arith, most))
      (let m = run_long (unrolled core) in_lanes b.ops [] r.after x.new x.ended x.ran in omega (arith, m)) x.reached
      (leaves_kept core around inside w counters owned plain in_lanes count g t ops p right resets s u es ran b.places x.long 0 s u es ran (λ m o c. refl)) x.words others bits.1 in
      let on : (in_lanes (last_number counters)).live 0 ≡ true = g.live several 0 (omega (arith, sum)) in
      let mask : MaskIs x.new b 1 = subst (λ c. MaskIs x.new b (bit c)) on (mask_stands (unrolled core) in_lanes (last_number counters) 0 0 (in_lane (memory_order core) counters owned w) ops (nowhere ops) [] x.new r.after x.ended refl x.ran) in (
        x.new ++ y.new,
        y.ended,
        bind_known (in_order (renew_in_body (unrolled core) plainly 0) all_owned) (λ _. operations (unrolled core) in_lanes (all_ops bodies)) t r.after r.answers r.ran
            ∙ runs_append (unrolled core) in_lanes b.ops (all_ops (more_bodies (last_number counters) (in_lane (memory_order core) counters owned w) ops 1 n (length b.ops) (standing (shared (last_number counters) owned ops ops) b.places))) [] x.new r.after x.ended x.ran
            ∙ y.ran,
        y.reached.out,
        y.reached.rest,
        (on, mask_more x.new y.new b 1 mask, stand_more x.new y.new b.places es (x.long, x.words), y.stand),
      )

  whole : (several : (lanes_of counters == 1) ≡ false) (n : ℕ) → n ≡ count → (s t after : Store) (groups : List (List Entry)) → HoldAlike core around w s t → in_order (λ l. iteration core (plain l) owned ops) (lanes_from 0 n) s ≡ went groups after → EachMasked ops groups → Went t after groups
  whole several zero e s t after groups alike ran bits = absurd (let some = g.some in omega (arith, some, e))
  whole several (suc k) e s t after groups alike ran bits =
      let r = order_split (λ l. iteration core (plain l) owned ops) 0 (lanes_from 1 k) s after groups ran in
      subst (Went t after) r.5 (from_first several k e s t r.1 after r.0 r.2 alike r.3 r.4 (subst (EachMasked ops) (sym r.5) bits))

pub words_go : (core : PlainCore) → WordsStand core
words_go core around inside w counters owned plain in_lanes count g several ops s t after groups p right resets alike ran bits =
    whole core around inside w counters owned plain in_lanes count g ops p right resets several count refl s t after groups alike ran bits
