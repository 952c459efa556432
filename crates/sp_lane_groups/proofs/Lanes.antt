-- The lanes of a group, one after the other.
use Rattle.std.proofs.Common.{◌≡◌, ℕ, zero, suc, ◌+◌, ◌<◌, ◌≤◌, Bool, true, false, cond, ◌&&◌, List, [], ◌∷◌, ◌++◌, length, Option, Some, refl, sym, ◌∙◌, ap, subst, arith, ◌⊎◌, inl, inr, ◌==◌}
use Rattle.std.proofs.lemmas.List.{length-append}
use Rattle.std.specs.Prelude.{slice_index}
use Rattle.sp_core.specs.Around.{Around, within, lanes_of, is_usable}
use Rattle.sp_core.specs.Declarations.{mem, is_among, fresh}
use Rattle.sp_core.specs.History.{Entry, word_at}
use Rattle.sp_core.specs.OperationRules.{are_operations_right}
use Rattle.sp_core.specs.Operations.{operations, operations_after}
use Rattle.sp_core.specs.PlainCore.{PlainOp, PlainCounter, PlainCore}
use Rattle.sp_core.specs.Scope.{plainly, Scope}
use Rattle.sp_core.specs.Sequential.{has_reset, renew_in_body}
use Rattle.sp_core.specs.Step.{went, in_order}
use Rattle.sp_core.specs.Store.{Store}
use Rattle.sp_fitting.specs.Fitting.{MasksAreBits}
use Rattle.sp_lane_groups.specs.RunsLaws.{AreNamed}
use Rattle.sp_lane_groups.proofs.RunsMasked.{lane_rests}
use Rattle.sp_lanes.specs.Bodies.{Body, lane_body, more_bodies, all_ops, standing}
use Rattle.sp_lanes.specs.Order.{memory_order}
use Rattle.sp_lanes.specs.Shared.{does_change, shared}
use Rattle.sp_lanes.specs.Unrolled.{unrolled, last_number}
use Rattle.sp_lanes.specs.Within.{Within, in_lane, ops_in}
use Rattle.sp_lane_groups.specs.LiveStores.{HoldAlike, ArePlain, AreStanding}
use Rattle.sp_lane_groups.proofs.LiveLane.{lane_goes, word_kept}
use Rattle.sp_lane_groups.proofs.LiveOperations.{list_goes}
use Rattle.sp_lane_groups.specs.SharedLaws.{RunTwice}
use Rattle.sp_lane_groups.proofs.SharedStanding.{reads_stand}
use Rattle.sp_lane_groups.specs.Groups.{iteration, lanes_from, EachMasked, IsGroup}
use Rattle.sp_lane_groups.specs.Laws.{HoldSameBut}
use Rattle.sp_lane_groups.specs.Waiting.{ResetsFirst, waits_in}
use Rattle.sp_lane_groups.proofs.Apart.{out_number, lane_copies, out_usable, in_usable, own_own}
use Rattle.sp_lane_groups.proofs.Renewed.{bind_known, order_split, order_none, Renewed, renew_all}
use Rattle.sp_lane_groups.proofs.ResetsWhole.{come_first}
use Rattle.sp_lane_groups.proofs.RunsWhole.{nothing_on, runs_append, run_long, run_leaves}

module _ (core : PlainCore) (around inside : Around) (w : Within) (counters : List PlainCounter) (owned : List ℕ) (plain : ℕ → Scope) (in_lanes : Scope) (count : ℕ) (g : IsGroup core around inside w counters owned plain in_lanes count) where
  abbrev pub at_lane : ℕ → Within
  at_lane l = in_lane (memory_order core) counters owned w l

  -- before a lane: what may be used outside holds what it does in the core, the copies of the lanes from here on are renewed, and
  -- nothing else has changed since the beginning
  pub record Reached (first : Store) (l : ℕ) (s t : Store) : Type 0 where
    pub out : (m : ℕ) → is_usable core around m ≡ true → t (w.number m) ≡ s m
    pub own : (m j : ℕ) → is_among m owned ≡ true → has_reset (mem core m).kind (mem core m).start ≡ false → l ≤ j → j < lanes_of counters → t ((at_lane j).number m) ≡ Some (fresh core m)
    pub rest : (n : ℕ) → ((m : ℕ) → is_usable core around m ≡ true → w.number m ≡ n → ⊥) → ((m j : ℕ) → is_among m owned ≡ true → j < lanes_of counters → (at_lane j).number m ≡ n → ⊥) → t n ≡ first n

  module _ (first : Store) (ops : List PlainOp) (p : ArePlain ops) (right : are_operations_right core (within around counters owned) ops ≡ true) (resets : ResetsFirst (waits_in core owned) ops) where
    -- an iteration, by the store in which its memories are renewed
    body_run : (scope : Scope) (s after : Store) (es : List Entry) (r : Renewed core owned s) → iteration core scope owned ops s ≡ went es after → operations core scope ops r.after ≡ went es after
    body_run scope s after es r ran = sym (bind_known (in_order (renew_in_body core plainly 0) owned) (λ _. operations core scope ops) s r.after r.answers r.ran) ∙ ran

    -- what a lane that has an iteration does
    pub record Done (l : ℕ) (stand : List (Option ℕ)) (done es : List Entry) (t after : Store) : Type 0 where
      pub new : List Entry
      pub ended : Store
      pub ran : operations_after (unrolled core) in_lanes done (lane_body (last_number counters) at_lane ops l (length done) stand).ops t ≡ went (done ++ new) ended
      pub reached : Reached first (suc l) after ended
      pub words : (k : ℕ) → k < length es → (slice_index (lane_body (last_number counters) at_lane ops l (length done) stand).places k < length (done ++ new)) × (word_at (done ++ new) (slice_index (lane_body (last_number counters) at_lane ops l (length done) stand).places k) ≡ word_at es k)
      pub long : length (lane_body (last_number counters) at_lane ops l (length done) stand).places ≡ length es

    -- what waits for its reset holds in the core what it does in the lane
    abbrev met : ℕ → (t renewed : Store) → Store
    met l t u m = cond (waits_in core owned m) (t ((at_lane l).number m)) (u m)

    met_alike : (l : ℕ) (s t : Store) → l < lanes_of counters → Reached first l s t → (r : Renewed core owned s) → HoldAlike core (within around counters owned) (at_lane l) (met l t r.after) t
    met_alike l s t below h r m u = by (is_among m owned) (has_reset (mem core m).kind (mem core m).start) refl refl
      where
        by : (a b : Bool) → is_among m owned ≡ a → has_reset (mem core m).kind (mem core m).start ≡ b
            → t ((at_lane l).number m) ≡ cond (is_among m owned && has_reset (mem core m).kind (mem core m).start) (t ((at_lane l).number m)) (r.after m)
        by true true i j = sym (ap (λ c. cond (c && has_reset (mem core m).kind (mem core m).start) (t ((at_lane l).number m)) (r.after m)) i ∙ ap (λ c. cond c (t ((at_lane l).number m)) (r.after m)) j)
        by true false i j =
            h.own m l i j (omega arith) below ∙ sym (r.inside m i j)
            ∙ sym (ap (λ c. cond (c && has_reset (mem core m).kind (mem core m).start) (t ((at_lane l).number m)) (r.after m)) i ∙ ap (λ c. cond c (t ((at_lane l).number m)) (r.after m)) j)
        by false b i j =
            ap t (out_number core around inside w counters owned plain in_lanes count g l m i) ∙ h.out m (in_usable core around inside w counters owned plain in_lanes count g m u i) ∙ sym (r.outside m i)
            ∙ sym (ap (λ c. cond (c && has_reset (mem core m).kind (mem core m).start) (t ((at_lane l).number m)) (r.after m)) i)

    -- what stands for nothing outside and is no copy of a lane isn't used in it
    not_here : (l n : ℕ) → l < lanes_of counters → ((m : ℕ) → is_usable core around m ≡ true → w.number m ≡ n → ⊥) → ((m j : ℕ) → is_among m owned ≡ true → j < lanes_of counters → (at_lane j).number m ≡ n → ⊥)
        → (x : ℕ) → is_usable core (within around counters owned) x ≡ true → (at_lane l).number x ≡ n → ⊥
    not_here l n below outer own x u i = by (is_among x owned) refl
      where
        by : (b : Bool) → is_among x owned ≡ b → ⊥
        by true a = own x l a below i
        by false a = outer x (in_usable core around inside w counters owned plain in_lanes count g x u a) (sym (out_number core around inside w counters owned plain in_lanes count g l x a) ∙ i)

    pub lane_done : (several : (lanes_of counters == 1) ≡ false) (l : ℕ) (stand : List (Option ℕ)) (done es : List Entry) (s t after : Store) → l < count → Reached first l s t → iteration core (plain l) owned ops s ≡ went es after → MasksAreBits ops es → AreStanding done es 0 ops stand → Done l stand done es t after
    lane_done several l stand done es s t after lt h ran bits stands =
        let below : l < lanes_of counters = (let most = g.most in omega (arith, lt, most)) in
        let r : Renewed core owned s = renew_all core owned s in
        let same : HoldSameBut (waits_in core owned) r.after (met l t r.after) = λ m e. ap (λ b. cond b (t ((at_lane l).number m)) (r.after m)) e in
        let y = come_first core (plain l) ops (waits_in core owned) r.after (met l t r.after) after es resets same (body_run (plain l) s after es r ran) in
        let z =
        lane_goes core (within around counters owned) inside at_lane l (g.together l below) (lane_copies core around inside w counters owned plain in_lanes count g l below) (g.rooms l below) (plain l) in_lanes (g.scopes l below)
        (last_number counters) (g.live several l lt) ops stand (met l t r.after) y.0 t es done p right (met_alike l s t below h r) y.1 bits stands in
        record {
          new = z.0;
          ended = z.1;
          ran = z.2;
          reached = record {
            out = λ m u.
                ap z.1 (sym (out_number core around inside w counters owned plain in_lanes count g l m (g.apart m u)))
                ∙ z.3 m (out_usable core around inside w counters owned plain in_lanes count g m u) ∙ y.2 m (ap (λ b. b && has_reset (mem core m).kind (mem core m).start) (g.apart m u));
            own = λ m j e k le lj.
                z.4 ((at_lane j).number m) (λ x u i. own_own core around inside w counters owned plain in_lanes count g m l j x e below lj (λ a. absurd (omega (arith, a, le))) u i)
                ∙ h.own m j e k (omega (arith, le)) lj;
            rest = λ n outer own. z.4 n (not_here l n below outer own) ∙ h.rest n outer own;
          };
          words = z.5;
          long = z.6;
        }

    -- a body of one lane, which is left as it is
    pub single_done : (s t after : Store) (es : List Entry) → Reached first 0 s t → iteration core (plain 0) owned ops s ≡ went es after
        → (ended : Store) × (operations (unrolled core) in_lanes (ops_in (at_lane 0) ops) t ≡ went es ended) × Reached first 1 after ended
    single_done s t after es h ran =
        let below : 0 < lanes_of counters = (let some = g.some in let most = g.most in omega (arith, some, most)) in
        let r : Renewed core owned s = renew_all core owned s in
        let same : HoldSameBut (waits_in core owned) r.after (met 0 t r.after) = λ m e. ap (λ b. cond b (t ((at_lane 0).number m)) (r.after m)) e in
        let y = come_first core (plain 0) ops (waits_in core owned) r.after (met 0 t r.after) after es resets same (body_run (plain 0) s after es r ran) in
        let z =
        list_goes core (within around counters owned) inside (at_lane 0) (g.together 0 below) (lane_copies core around inside w counters owned plain in_lanes count g 0 below) (g.rooms 0 below) (plain 0) in_lanes (g.scopes 0 below)
        ops [] [] p right (met 0 t r.after) t (met_alike 0 s t below h r) es y.0 y.1 in (
          z.0,
          z.1,
          record {
            out = λ m u.
                ap z.0 (sym (out_number core around inside w counters owned plain in_lanes count g 0 m (g.apart m u)))
                ∙ z.2 m (out_usable core around inside w counters owned plain in_lanes count g m u) ∙ y.2 m (ap (λ b. b && has_reset (mem core m).kind (mem core m).start) (g.apart m u));
            own = λ m j e k le lj.
                z.3 ((at_lane j).number m) (λ x u i. own_own core around inside w counters owned plain in_lanes count g m 0 j x e below lj (λ a. absurd (omega (arith, a, le))) u i)
                ∙ h.own m j e k (omega (arith, le)) lj;
            rest = λ n outer own. z.3 n (not_here 0 n below outer own) ∙ h.rest n outer own;
          },
        )

    -- after the first lane: its iteration, its entries in the core, and where its words stand
    module _ (first_plain : Store) (after_first : Store) (es0 : List Entry) (ran0 : iteration core (plain 0) owned ops first_plain ≡ went es0 after_first) (places : List ℕ) (long : length places ≡ length es0) where
      abbrev pub Stood : List Entry → Type 0
      Stood done = (k : ℕ) → k < length es0 → (slice_index places k < length done) × (word_at done (slice_index places k) ≡ word_at es0 k)

      stood_more : (done new : List Entry) → Stood done → Stood (done ++ new)
      stood_more done new h k lt =
          let r = h k lt in
          ((let less = r.0 in omega (arith, less, length-append done new)), word_kept done new (slice_index places k) r.0 ∙ r.1)

      -- reads that stand once do so for a later lane
      later_stand : (l : ℕ) (s after : Store) (es done : List Entry) → iteration core (plain l) owned ops s ≡ went es after → ((m : ℕ) → is_among m owned ≡ false → does_change ops m ≡ false → s m ≡ first_plain m) → Stood done
          → AreStanding done es 0 ops (standing (shared (last_number counters) owned ops ops) places)
      later_stand l s after es done ran kept stood =
          let r0 : Renewed core owned first_plain = renew_all core owned first_plain in
          let r : Renewed core owned s = renew_all core owned s in
          let twice : RunTwice core (last_number counters) owned ops es0 es = record {
            one = plain 0;
            two = plain l;
            counters = λ c ne. g.others c l ne;
            first = r0.after;
            second = r.after;
            memories = λ m o c. r.outside m o ∙ kept m o c ∙ sym (r0.outside m o);
            after = after_first;
            ended = after;
            ran_first = body_run (plain 0) first_plain after_first es0 r0 ran0;
            ran_second = body_run (plain l) s after es r ran;
          } in
          reads_stand core (last_number counters) owned ops es0 es p twice done places long stood

      pub leaves_kept : (l : ℕ) (s after : Store) (es : List Entry) → iteration core (plain l) owned ops s ≡ went es after → ((m : ℕ) → is_among m owned ≡ false → does_change ops m ≡ false → s m ≡ first_plain m)
          → (m : ℕ) → is_among m owned ≡ false → does_change ops m ≡ false → after m ≡ first_plain m
      leaves_kept l s after es ran kept m o c =
          let r : Renewed core owned s = renew_all core owned s in
          run_leaves core (plain l) ops [] r.after es after m c (body_run (plain l) s after es r ran) ∙ r.outside m o ∙ kept m o c

      weaker : (l : ℕ) (s t : Store) → Reached first l s t → Reached first (suc l) s t
      weaker l s t h = record { out = h.out; own = λ m j e k le lj. h.own m j e k (omega (arith, le)) lj; rest = h.rest }

      -- what the lanes from one on do: those that have an iteration, and the others
      abbrev pub Ended : (l more at : ℕ) → List Entry → (t after : Store) → Type 0
      Ended l more at done t after =
          (last : List Entry) × (ended : Store)
          × (operations_after (unrolled core) in_lanes done (all_ops (more_bodies (last_number counters) at_lane ops l more at (standing (shared (last_number counters) owned ops ops) places))) t ≡ went last ended)
          × Reached first (lanes_of counters) after ended

      pub later_lanes : (several : (lanes_of counters == 1) ≡ false) (named : AreNamed ops) (more k l at : ℕ) (done : List Entry) (s t after : Store) (groups : List (List Entry)) → l + more ≡ lanes_of counters → (l + k ≡ count) ⊎ ((k ≡ 0) × (count ≤ l)) → k ≤ more → at ≡ length done → Reached first l s t
          → ((m : ℕ) → is_among m owned ≡ false → does_change ops m ≡ false → s m ≡ first_plain m) → Stood done
          → in_order (λ l. iteration core (plain l) owned ops) (lanes_from l k) s ≡ went groups after → EachMasked ops groups → Ended l more at done t after
      later_lanes several named zero zero l at done s t after groups all either le same h kept stood ran bits =
          let r = order_none (λ l. iteration core (plain l) owned ops) s after groups ran in
          (done, t, nothing_on (unrolled core) in_lanes done t, subst (λ n. Reached first n after t) {x = l} (omega (arith, all)) (subst (λ (u : Store). Reached first l u t) r.0 h))
      later_lanes several named zero (suc k) l at done s t after groups all either le same h kept stood ran bits = absurd (omega (arith, le))
      later_lanes several named (suc more) zero l at done s t after groups all either le same h kept stood ran bits =
          let others = standing (shared (last_number counters) owned ops ops) places in
          let b : Body = lane_body (last_number counters) at_lane ops l at others in
          let off : count ≤ l = elim either [ inl e ↦ omega (arith, e) | inr e ↦ e.1 ] in
          let x = lane_rests (unrolled core) in_lanes (last_number counters) l at at_lane ops others done t named same (g.masked several l off (omega (arith, all))) in
          let y = later_lanes several named more zero (suc l) (at + length b.ops) (done ++ x.0) s t after groups (omega (arith, all)) (inr (refl, omega (arith, off))) (omega arith)
          (let n = run_long (unrolled core) in_lanes b.ops done t (done ++ x.0) t x.1 in omega (arith, same, n)) (weaker l s t h) kept (stood_more done x.0 stood) ran bits in
          (y.0, y.1, runs_append (unrolled core) in_lanes b.ops (all_ops (more_bodies (last_number counters) at_lane ops (suc l) more (at + length b.ops) others)) done (done ++ x.0) t t x.1 ∙ y.2, y.3)
      later_lanes several named (suc more) (suc k) l at done s t after groups all either le same h kept stood ran bits =
          let others = standing (shared (last_number counters) owned ops ops) places in
          let b : Body = lane_body (last_number counters) at_lane ops l at others in
          let r = order_split (λ l. iteration core (plain l) owned ops) l (lanes_from (suc l) k) s after groups ran in
          let sum : l + suc k ≡ count = elim either [ inl e ↦ e | inr e ↦ absurd (let z = e.0 in omega (arith, z)) ] in
          let masked : EachMasked ops (r.0 ∷ r.2) = subst (EachMasked ops) (sym r.5) bits in
          let x : Done l others done r.0 t r.1 = lane_done several l others done r.0 s t r.1 (omega (arith, sum)) h r.3 masked.0 (later_stand l s r.1 r.0 done r.3 kept stood) in
          let there : operations_after (unrolled core) in_lanes done b.ops t ≡ went (done ++ x.new) x.ended =
          subst (λ a. operations_after (unrolled core) in_lanes done (lane_body (last_number counters) at_lane ops l a others).ops t ≡ went (done ++ x.new) x.ended) (sym same) x.ran in
          let y = later_lanes several named more k (suc l) (at + length b.ops) (done ++ x.new) r.1 x.ended after r.2 (omega (arith, all)) (inl (omega (arith, sum))) (omega (arith, le))
          (let n = run_long (unrolled core) in_lanes b.ops done t (done ++ x.new) x.ended there in omega (arith, same, n)) x.reached (leaves_kept l s r.1 r.0 r.3 kept) (stood_more done x.new stood) r.4 masked.1 in
          (y.0, y.1, runs_append (unrolled core) in_lanes b.ops (all_ops (more_bodies (last_number counters) at_lane ops (suc l) more (at + length b.ops) others)) done (done ++ x.new) t x.ended there ∙ y.2, y.3)
