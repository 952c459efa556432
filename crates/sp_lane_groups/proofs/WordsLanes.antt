-- The lanes of a group, one after the other, and where their words stand.
use Rattle.std.proofs.Common.{◌≡◌, ℕ, zero, suc, ◌+◌, ◌<◌, ◌≤◌, Bool, true, false, List, [], ◌∷◌, ◌++◌, length, Option, refl, sym, ◌∙◌, ap, subst, arith, ◌⊎◌, inl, inr, ◌==◌}
use Rattle.std.proofs.lemmas.List.{length-append, append_assoc}
use Rattle.std.specs.Prelude.{slice_index}
use Rattle.sp_core.specs.Around.{Around, within, lanes_of}
use Rattle.sp_core.specs.Declarations.{is_among}
use Rattle.sp_core.specs.History.{Entry, word_at}
use Rattle.sp_core.specs.OperationRules.{are_operations_right}
use Rattle.sp_core.specs.Operations.{operations, operations_after}
use Rattle.sp_core.specs.Operators.{bit}
use Rattle.sp_core.specs.PlainCore.{PlainOp, PlainCounter, PlainCore}
use Rattle.sp_core.specs.Scope.{plainly, Scope}
use Rattle.sp_core.specs.Sequential.{renew_in_body}
use Rattle.sp_core.specs.Step.{went, in_order}
use Rattle.sp_core.specs.Store.{Store}
use Rattle.sp_lane_groups.specs.RunsLaws.{AreNamed}
use Rattle.sp_lane_groups.proofs.RunsMasked.{lane_rests}
use Rattle.sp_lanes.specs.Bodies.{Body, lane_body, more_bodies, all_ops, standing}
use Rattle.sp_lanes.specs.Shared.{does_change, shared}
use Rattle.sp_lanes.specs.Unrolled.{unrolled, last_number}
use Rattle.sp_lanes.specs.Within.{Within}
use Rattle.sp_lane_groups.specs.LiveStores.{ArePlain, AreStanding}
use Rattle.sp_lane_groups.proofs.LiveLane.{word_kept}
use Rattle.sp_lane_rules.proofs.UnrolledGivens.{append_none}
use Rattle.sp_lane_groups.specs.SharedLaws.{RunTwice}
use Rattle.sp_lane_groups.proofs.SharedStanding.{reads_stand}
use Rattle.sp_lane_groups.specs.Groups.{iteration, lanes_from, EachMasked, IsGroup}
use Rattle.sp_lane_groups.specs.Waiting.{ResetsFirst, waits_in}
use Rattle.sp_lane_groups.proofs.Lanes.{at_lane, Reached, Done, lane_done, leaves_kept}
use Rattle.sp_lane_groups.proofs.Renewed.{bind_known, order_split, order_none, Renewed, renew_all}
use Rattle.sp_lane_groups.proofs.RunsWhole.{nothing_on, runs_append, run_long}
use Rattle.sp_lane_groups.specs.WordsStanding.{MaskIs, StandAt, LanesStand}
use Rattle.sp_lane_groups.proofs.WordsMasks.{mask_stands, mask_more, stand_more}

module _ (core : PlainCore) (around inside : Around) (w : Within) (counters : List PlainCounter) (owned : List ℕ) (plain : ℕ → Scope) (in_lanes : Scope) (count : ℕ) (g : IsGroup core around inside w counters owned plain in_lanes count)
    (first : Store) (ops : List PlainOp) (p : ArePlain ops) (right : are_operations_right core (within around counters owned) ops ≡ true) (resets : ResetsFirst (waits_in core owned) ops) where
  abbrev lane : ℕ → Within
  lane = at_lane core around inside w counters owned plain in_lanes count g

  abbrev Reaches : (l : ℕ) → (s t : Store) → Type 0
  Reaches l s t = Reached core around inside w counters owned plain in_lanes count g first l s t

  abbrev is_live : ℕ → Bool
  is_live = (in_lanes (last_number counters)).live

  weaker : (l : ℕ) (s t : Store) → Reaches l s t → Reaches (suc l) s t
  weaker l s t h = record { out = h.out; own = λ m j e k le lj. h.own m j e k (omega (arith, le)) lj; rest = h.rest }

  body_ran : (l : ℕ) (s after : Store) (es : List Entry) (r : Renewed core owned s) → iteration core (plain l) owned ops s ≡ went es after → operations core (plain l) ops r.after ≡ went es after
  body_ran l s after es r ran = sym (bind_known (in_order (renew_in_body core plainly 0) owned) (λ _. operations core (plain l) ops) s r.after r.answers r.ran) ∙ ran

  -- after the first lane: its iteration, its entries in the core, and where its words stand
  module _ (first_plain : Store) (after_first : Store) (es0 : List Entry) (ran0 : iteration core (plain 0) owned ops first_plain ≡ went es0 after_first) (places : List ℕ) (long : length places ≡ length es0) where
    abbrev others : List (Option ℕ)
    others = standing (shared (last_number counters) owned ops ops) places

    abbrev Stands : List Entry → Type 0
    Stands done = (k : ℕ) → k < length es0 → (slice_index places k < length done) × (word_at done (slice_index places k) ≡ word_at es0 k)

    stands_more : (done new : List Entry) → Stands done → Stands (done ++ new)
    stands_more done new h k lt =
        let r = h k lt in
        ((let less = r.0 in omega (arith, less, length-append done new)), word_kept done new (slice_index places k) r.0 ∙ r.1)

    -- reads that stand once do so for a later lane
    later_stand : (l : ℕ) (s after : Store) (es done : List Entry) → iteration core (plain l) owned ops s ≡ went es after → ((m : ℕ) → is_among m owned ≡ false → does_change ops m ≡ false → s m ≡ first_plain m) → Stands done → AreStanding done es 0 ops others
    later_stand l s after es done ran kept stood =
        let r0 : Renewed core owned first_plain = renew_all core owned first_plain in
        let r : Renewed core owned s = renew_all core owned s in
        let twice : RunTwice core (last_number counters) owned ops es0 es = record {
          one = plain 0;
          two = plain l;
          counters = λ c ne. g.others c l ne;
          first = r0.after;
          second = r.after;
          memories = λ m o c. r.outside m o ∙ kept m o c ∙ sym (r0.outside m o);
          after = after_first;
          ended = after;
          ran_first = body_ran 0 first_plain after_first es0 r0 ran0;
          ran_second = body_ran l s after es r ran;
        } in
        reads_stand core (last_number counters) owned ops es0 es p twice done places long stood

    -- what the lanes from one on do, and where their words stand
    pub record WordsEnd (l more at : ℕ) (done : List Entry) (t after : Store) (groups : List (List Entry)) : Type 0 where
      pub new : List Entry
      pub ended : Store
      pub ran : operations_after (unrolled core) in_lanes done (all_ops (more_bodies (last_number counters) lane ops l more at others)) t ≡ went (done ++ new) ended
      pub reached : Reaches (lanes_of counters) after ended
      pub stand : LanesStand is_live (done ++ new) l (more_bodies (last_number counters) lane ops l more at others) groups

    pub later_words : (several : (lanes_of counters == 1) ≡ false) (named : AreNamed ops) (more k l at : ℕ) (done : List Entry) (s t after : Store) (groups : List (List Entry)) → l + more ≡ lanes_of counters → (l + k ≡ count) ⊎ ((k ≡ 0) × (count ≤ l)) → k ≤ more → at ≡ length done → Reaches l s t
        → ((m : ℕ) → is_among m owned ≡ false → does_change ops m ≡ false → s m ≡ first_plain m) → Stands done
        → in_order (λ l. iteration core (plain l) owned ops) (lanes_from l k) s ≡ went groups after → EachMasked ops groups → WordsEnd l more at done t after groups
    later_words several named zero zero l at done s t after groups all either le same h kept stood ran bits =
        let r = order_none (λ l. iteration core (plain l) owned ops) s after groups ran in
        record {
          new = [];
          ended = t;
          ran = nothing_on (unrolled core) in_lanes done t ∙ ap (λ d. went d t) (sym (append_none done));
          reached = subst (λ n. Reaches n after t) {x = l} (omega (arith, all)) (subst (λ (u : Store). Reaches l u t) r.0 h);
          stand = subst (λ gs. LanesStand is_live (done ++ []) l [] gs) r.1 tt;
        }
    later_words several named zero (suc k) l at done s t after groups all either le same h kept stood ran bits = absurd (omega (arith, le))
    later_words several named (suc more) zero l at done s t after groups all either le same h kept stood ran bits =
        let b : Body = lane_body (last_number counters) lane ops l at others in
        let off : count ≤ l = elim either [ inl e ↦ omega (arith, e) | inr e ↦ e.1 ] in
        let dead : is_live l ≡ false = g.masked several l off (omega (arith, all)) in
        let x = lane_rests (unrolled core) in_lanes (last_number counters) l at lane ops others done t named same dead in
        let y : WordsEnd (suc l) more (at + length b.ops) (done ++ x.0) t after groups =
        later_words several named more zero (suc l) (at + length b.ops) (done ++ x.0) s t after groups (omega (arith, all)) (inr (refl, omega (arith, off))) (omega arith)
        (let n = run_long (unrolled core) in_lanes b.ops done t (done ++ x.0) t x.1 in omega (arith, same, n)) (weaker l s t h) kept (stands_more done x.0 stood) ran bits in
        let r = order_none (λ l. iteration core (plain l) owned ops) s after groups ran in
        let mask : MaskIs (done ++ x.0) b 0 = subst (λ c. MaskIs (done ++ x.0) b (bit c)) dead (mask_stands (unrolled core) in_lanes (last_number counters) l at lane ops others done (done ++ x.0) t t same x.1) in
        let there : LanesStand is_live ((done ++ x.0) ++ y.new) (suc l) (more_bodies (last_number counters) lane ops (suc l) more (at + length b.ops) others) [] = subst (λ gs. LanesStand is_live ((done ++ x.0) ++ y.new) (suc l) (more_bodies (last_number counters) lane ops (suc l) more (at + length b.ops) others) gs) (sym r.1) y.stand in
        let bodies : List Body = more_bodies (last_number counters) lane ops l (suc more) at others in
        let stand : LanesStand is_live ((done ++ x.0) ++ y.new) l bodies groups = subst (λ gs. LanesStand is_live ((done ++ x.0) ++ y.new) l bodies gs) r.1 (dead, mask_more (done ++ x.0) y.new b 0 mask, there) in
        let ran : operations_after (unrolled core) in_lanes done (all_ops bodies) t ≡ went ((done ++ x.0) ++ y.new) y.ended =
        runs_append (unrolled core) in_lanes b.ops (all_ops (more_bodies (last_number counters) lane ops (suc l) more (at + length b.ops) others)) done (done ++ x.0) t t x.1 ∙ y.ran in
        record {
          new = x.0 ++ y.new;
          ended = y.ended;
          ran = ran ∙ ap (λ d. went d y.ended) (append_assoc done x.0 y.new);
          reached = y.reached;
          stand = subst (λ d. LanesStand is_live d l bodies groups) (append_assoc done x.0 y.new) stand;
        }
    later_words several named (suc more) (suc k) l at done s t after groups all either le same h kept stood ran bits =
        let b : Body = lane_body (last_number counters) lane ops l at others in
        let r = order_split (λ l. iteration core (plain l) owned ops) l (lanes_from (suc l) k) s after groups ran in
        let sum : l + suc k ≡ count = elim either [ inl e ↦ e | inr e ↦ absurd (let z = e.0 in omega (arith, z)) ] in
        let masked : EachMasked ops (r.0 ∷ r.2) = subst (EachMasked ops) (sym r.5) bits in
        let x : Done core around inside w counters owned plain in_lanes count g first ops p right resets l others done r.0 t r.1 =
        lane_done core around inside w counters owned plain in_lanes count g first ops p right resets several l others done r.0 s t r.1 (omega (arith, sum)) h r.3 masked.0 (later_stand l s r.1 r.0 done r.3 kept stood) in
        let on : is_live l ≡ true = g.live several l (omega (arith, sum)) in
        let there : operations_after (unrolled core) in_lanes done b.ops t ≡ went (done ++ x.new) x.ended =
        subst (λ a. operations_after (unrolled core) in_lanes done (lane_body (last_number counters) lane ops l a others).ops t ≡ went (done ++ x.new) x.ended) (sym same) x.ran in
        let y : WordsEnd (suc l) more (at + length b.ops) (done ++ x.new) x.ended after r.2 =
        later_words several named more k (suc l) (at + length b.ops) (done ++ x.new) r.1 x.ended after r.2 (omega (arith, all)) (inl (omega (arith, sum))) (omega (arith, le))
        (let n = run_long (unrolled core) in_lanes b.ops done t (done ++ x.new) x.ended there in omega (arith, same, n)) x.reached
        (leaves_kept core around inside w counters owned plain in_lanes count g first ops p right resets first_plain after_first es0 ran0 places long l s r.1 r.0 r.3 kept) (stands_more done x.new stood) r.4 masked.1 in
        let mask : MaskIs (done ++ x.new) b 1 = subst (λ c. MaskIs (done ++ x.new) b (bit c)) on (mask_stands (unrolled core) in_lanes (last_number counters) l at lane ops others done (done ++ x.new) t x.ended same there) in
        let words : StandAt (done ++ x.new) b.places r.0 = subst (λ a. StandAt (done ++ x.new) (lane_body (last_number counters) lane ops l a others).places r.0) (sym same) (x.long, x.words) in
        let bodies : List Body = more_bodies (last_number counters) lane ops l (suc more) at others in
        let stand : LanesStand is_live ((done ++ x.new) ++ y.new) l bodies groups =
        subst (λ gs. LanesStand is_live ((done ++ x.new) ++ y.new) l bodies gs) r.5 (on, mask_more (done ++ x.new) y.new b 1 mask, stand_more (done ++ x.new) y.new b.places r.0 words, y.stand) in
        let whole : operations_after (unrolled core) in_lanes done (all_ops bodies) t ≡ went ((done ++ x.new) ++ y.new) y.ended =
        runs_append (unrolled core) in_lanes b.ops (all_ops (more_bodies (last_number counters) lane ops (suc l) more (at + length b.ops) others)) done (done ++ x.new) t x.ended there ∙ y.ran in
        record {
          new = x.new ++ y.new;
          ended = y.ended;
          ran = whole ∙ ap (λ d. went d y.ended) (append_assoc done x.new y.new);
          reached = y.reached;
          stand = subst (λ d. LanesStand is_live d l bodies groups) (append_assoc done x.new y.new) stand;
        }
