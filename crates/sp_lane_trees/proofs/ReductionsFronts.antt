-- What stands before a combination, in all lanes after them: each lane's operations read that lane's copies, and change nothing.
use mathlib.Core.Path.{fun_ext}
use Rattle.std.proofs.Common.{◌≡◌, ◌⊎◌, inl, inr, ℕ, zero, suc, ◌+◌, ◌-◌, ◌<◌, ◌≤◌, Bool, true, false, ◌&&◌, ◌||◌, List, [], ◌∷◌, ◌++◌, length, Option, Some, None, refl, sym, ◌∙◌, ap, subst, arith, ◌==◌}
use Rattle.std.proofs.lemmas.List.{length-append, append_assoc}
use Rattle.sp_core.specs.declared.operation.OpKind.{OpKind}
use Rattle.sp_core.specs.declared.operation.OpKind.TheVariants.{Word, Count, Live, Read, Write, Enq, Deq, Reset, One, Two, Shift, Mux, Cast}
use Rattle.sp_core.specs.Around.{Around, within, lanes_of}
use Rattle.sp_core.specs.Footprint.{ListNames}
use Rattle.sp_core.specs.History.{Entry}
use Rattle.sp_core.specs.OperationRules.{are_operations_right}
use Rattle.sp_core.specs.Operations.{operations, operations_after}
use Rattle.sp_core.specs.Operators.{bit}
use Rattle.sp_core.specs.PlainCore.{PlainOp, PlainCounter, PlainCore}
use Rattle.sp_core.specs.Scope.{Scope}
use Rattle.sp_core.specs.Step.{went}
use Rattle.sp_core.specs.Store.{Store}
use Rattle.sp_core.proofs.Closure.{operations_Q}
use Rattle.sp_fitting.specs.Fitting.{MasksAreBits}
use Rattle.sp_lanes.specs.Bodies.{Body, nowhere, standing, masked, in_mask, at_places, lane_from, lane_body, more_bodies, lane_bodies, all_ops}
use Rattle.sp_lanes.specs.Order.{memory_order}
use Rattle.sp_lanes.specs.Shared.{changes_memory, is_of, does_change, shared}
use Rattle.sp_lanes.specs.Unrolled.{unrolled, last_number}
use Rattle.sp_lanes.specs.Within.{Within, kind_in, op_in, in_lane}
use Rattle.sp_lane_rules.proofs.UnrolledGivens.{append_none}
use Rattle.sp_lane_groups.specs.LiveStores.{ArePlain, AreStanding}
use Rattle.sp_lane_groups.proofs.LiveLane.{lane_goes, none_stands, word_kept}
use Rattle.sp_lane_groups.specs.SharedLaws.{RunTwice}
use Rattle.sp_lane_groups.proofs.SharedStanding.{reads_stand}
use Rattle.sp_lane_groups.specs.RunsLaws.{AreNamed}
use Rattle.sp_lane_groups.proofs.RunsMasked.{lane_rests}
use Rattle.sp_lane_groups.proofs.RunsNamed.{name_memories}
use Rattle.sp_lane_groups.specs.Groups.{IsGroup}
use Rattle.sp_lane_groups.proofs.Apart.{lane_copies, out_number}
use Rattle.sp_lane_groups.proofs.RunsWhole.{nothing_on, runs_append, run_long, run_leaves}
use Rattle.sp_lane_groups.specs.WordsStanding.{MaskIs, StandAt, LanesStand}
use Rattle.sp_lane_groups.proofs.WordsMasks.{mask_stands, mask_more, stand_more}
use Rattle.sp_lane_trees.proofs.CombinationsFrames.{Framed, FramedAt, framed_closed}
use Rattle.sp_lane_trees.specs.ReductionsReduction.{AreStill}

-- what changes no memory
pub still_append : (xs ys : List PlainOp) → AreStill xs → AreStill ys → AreStill (xs ++ ys)
still_append [] ys h k = k
still_append (x ∷ xs) ys h k = (h.0, still_append xs ys h.1 k)

no_change : (ops : List PlainOp) (m : ℕ) → AreStill ops → does_change ops m ≡ false
no_change [] m h = refl
no_change (op ∷ ops) m h = ap (λ b. (b && is_of op.mem m) || does_change ops m) h.0 ∙ no_change ops m h.1

pub still_run : (core : PlainCore) (scope : Scope) (ops : List PlainOp) (done : List Entry) (s : Store) (es : List Entry) (after : Store) → AreStill ops → operations_after core scope done ops s ≡ went es after → after ≡ s
still_run core scope ops done s es after h ran = fun_ext (λ m. run_leaves core scope ops done s es after m (no_change ops m h) ran)

kind_still : (w : Within) (kind : OpKind) → changes_memory kind ≡ false → changes_memory (kind_in w kind) ≡ false
kind_still w (Count c l) e = refl
kind_still w (Live c first last) e = refl
kind_still w (Word n) e = refl
kind_still w Read e = refl
kind_still w Write e = e
kind_still w Enq e = e
kind_still w Deq e = e
kind_still w Reset e = e
kind_still w (One op) e = refl
kind_still w (Two op) e = refl
kind_still w (Shift left by) e = refl
kind_still w Mux e = refl
kind_still w (Cast to) e = refl

masked_still : (live at : ℕ) (mask : Option ℕ) (op : PlainOp) → changes_memory op.kind ≡ false → AreStill (masked live at mask op)
masked_still live at None op e = (e, tt)
masked_still live at (Some k) op e = (refl, (e, tt))

in_mask_still : (live at : ℕ) (m : Option ℕ) (op : PlainOp) → changes_memory op.kind ≡ false → AreStill (in_mask live at m op)
in_mask_still live at None op e = (e, tt)
in_mask_still live at (Some m) op e = masked_still live at op.mask op e

from_still : (w : Within) (live at : ℕ) (places : List ℕ) (ops : List PlainOp) (others : List (Option ℕ)) → AreStill ops → AreStill (lane_from w live at places ops others).ops
from_still w live at places [] others h = tt
from_still w live at places (op ∷ ops) [] h = tt
from_still w live at places (op ∷ ops) (Some p ∷ others) h = from_still w live at (places ++ p ∷ []) ops others h.1
from_still w live at places (op ∷ ops) (None ∷ others) h =
    let new : List PlainOp = in_mask live at op.mem (at_places places (op_in w op)) in
    still_append new (lane_from w live (at + length new) (places ++ (at + length new - 1) ∷ []) ops others).ops (in_mask_still live at op.mem (at_places places (op_in w op)) (kind_still w op.kind h.0))
    (from_still w live (at + length new) (places ++ (at + length new - 1) ∷ []) ops others h.1)

body_still : (counter : ℕ) (in_lane : ℕ → Within) (body : List PlainOp) (l at : ℕ) (others : List (Option ℕ)) → AreStill body → AreStill (lane_body counter in_lane body l at others).ops
body_still counter in_lane body l at others h = (refl, from_still (in_lane l) at (suc at) [] body others h)

-- what stands already does so after more entries
stands_more : (done new es : List Entry) (k : ℕ) (ops : List PlainOp) (others : List (Option ℕ)) → AreStanding done es k ops others → AreStanding (done ++ new) es k ops others
stands_more done new es k [] [] h = tt
stands_more done new es k (op ∷ ops) (None ∷ others) h = stands_more done new es (suc k) ops others h
stands_more done new es k (op ∷ ops) (Some p ∷ others) h = (h.0, (let lt = h.1 in omega (arith, lt, length-append done new)), word_kept done new p h.1 ∙ h.2, stands_more done new es (suc k) ops others h.3)
stands_more done new es k [] (q ∷ others) h = absurd h
stands_more done new es k (op ∷ ops) [] h = absurd h

module _ (core : PlainCore) (around inside : Around) (w : Within) (counters : List PlainCounter) (owned : List ℕ) (plain : ℕ → Scope) (in_lanes : Scope) (count : ℕ) (g : IsGroup core around inside w counters owned plain in_lanes count) (several : (lanes_of counters == 1) ≡ false)
    (names : ℕ → Bool) (before : List PlainOp) (p : ArePlain before) (right : are_operations_right core (within around counters owned) before ≡ true) (still : AreStill before) (own : ListNames core names before) (t : Store) where
  abbrev lane : ℕ → Within
  lane l = in_lane (memory_order core) counters owned w l

  abbrev is_live : ℕ → Bool
  is_live = (in_lanes (last_number counters)).live

  -- in a store that holds what the lane's copies do, the core did the operations
  pub record LaneRan (l : ℕ) (es : List Entry) : Type 0 where
    pub store : Store
    pub after : Store
    pub has : (m : ℕ) → names m ≡ true → t ((lane l).number m) ≡ store m
    pub ran : operations core (plain l) before store ≡ went es after
    pub bits : MasksAreBits before es

  abbrev pub AllRan : (l : ℕ) → List (List Entry) → Type 0
  AllRan l [] = Unit {0}
  AllRan l (es ∷ rest) = LaneRan l es × AllRan (suc l) rest

  named : AreNamed before
  named = name_memories core (within around counters owned) [] before right

  -- what the lane's copies hold, and the operations from there
  abbrev met : ℕ → Store
  met l = λ m. t ((lane l).number m)

  met_ran : (l : ℕ) (es : List Entry) (h : LaneRan l es) → FramedAt names (operations core (plain l) before) h.store (met l) h.after es
  met_ran l es h = operations_Q (Framed names) names (framed_closed names) core (plain l) before own h.store (met l) h.after es h.has h.ran

  -- a lane that has an iteration, where some operations stand already
  record LaneDone (l : ℕ) (others : List (Option ℕ)) (done es : List Entry) : Type 0 where
    new : List Entry
    ran : operations_after (unrolled core) in_lanes done (lane_body (last_number counters) lane before l (length done) others).ops t ≡ went (done ++ new) t
    stand : StandAt (done ++ new) (lane_body (last_number counters) lane before l (length done) others).places es

  lane_done : (l : ℕ) → l < count → (others : List (Option ℕ)) (done es : List Entry) → LaneRan l es → AreStanding done es 0 before others → LaneDone l others done es
  lane_done l lt others done es h standing =
      let below : l < lanes_of counters = (let most = g.most in omega (arith, lt, most)) in
      let x : FramedAt names (operations core (plain l) before) h.store (met l) h.after es = met_ran l es h in
      let z =
      lane_goes core (within around counters owned) inside lane l (g.together l below) (lane_copies core around inside w counters owned plain in_lanes count g l below) (g.rooms l below) (plain l) in_lanes (g.scopes l below)
      (last_number counters) (g.live several l lt) before others (met l) x.ended t es done p right (λ m u. refl) x.ran h.bits standing in
      let same : z.1 ≡ t = still_run (unrolled core) in_lanes (lane_body (last_number counters) lane before l (length done) others).ops done t (done ++ z.0) z.1 (body_still (last_number counters) lane before l (length done) others still) z.2 in
      record { new = z.0; ran = z.2 ∙ ap (λ (u : Store). went (done ++ z.0) u) same; stand = (z.6, z.5) }

  -- reads of the first lane's operations stand for each other lane
  abbrev AllStanding : (others : List (Option ℕ)) → (done : List Entry) → List (List Entry) → Type 0
  AllStanding others done [] = Unit {0}
  AllStanding others done (es ∷ rest) = AreStanding done es 0 before others × AllStanding others done rest

  all_more : (others : List (Option ℕ)) (done new : List Entry) (groups : List (List Entry)) → AllStanding others done groups → AllStanding others (done ++ new) groups
  all_more others done new [] h = tt
  all_more others done new (es ∷ rest) h = (stands_more done new es 0 before others h.0, all_more others done new rest h.1)

  -- the lanes from one on
  module _ (others : List (Option ℕ)) where
    abbrev bodies : (l more at : ℕ) → List Body
    bodies l more at = more_bodies (last_number counters) lane before l more at others

    record AllStand (l more at : ℕ) (done : List Entry) (groups : List (List Entry)) : Type 0 where
      new : List Entry
      ran : operations_after (unrolled core) in_lanes done (all_ops (bodies l more at)) t ≡ went (done ++ new) t
      stand : LanesStand is_live (done ++ new) l (bodies l more at) groups

    lanes_stand : (more l at : ℕ) (done : List Entry) (groups : List (List Entry)) → l + more ≡ lanes_of counters → (l + length groups ≡ count) ⊎ ((length groups ≡ 0) × (count ≤ l)) → at ≡ length done → AllRan l groups → AllStanding others done groups → AllStand l more at done groups
    lanes_stand zero l at done [] all either same h standing = record {
      new = [];
      ran = nothing_on (unrolled core) in_lanes done t ∙ ap (λ d. went d t) (sym (append_none done));
      stand = tt;
    }
    lanes_stand zero l at done (es ∷ groups) all either same h standing = absurd (past l (length groups) (lanes_of counters) all (elim either [ inl e ↦ inl e | inr e ↦ inr e.0 ]) g.most)
      where
        past : (l n lanes : ℕ) → l + 0 ≡ lanes → (l + suc n ≡ count) ⊎ (suc n ≡ 0) → count ≤ lanes → ⊥
        past l n lanes all (inl e) most = omega (arith, all, e, most)
        past l n lanes all (inr e) most = omega (arith, e)
    lanes_stand (suc more) l at done [] all either same h standing =
        let b : Body = lane_body (last_number counters) lane before l at others in
        let off : count ≤ l = elim either [ inl e ↦ omega (arith, e) | inr e ↦ e.1 ] in
        let dead : is_live l ≡ false = g.masked several l off (omega (arith, all)) in
        let x = lane_rests (unrolled core) in_lanes (last_number counters) l at lane before others done t named same dead in
        let y : AllStand (suc l) more (at + length b.ops) (done ++ x.0) [] =
        lanes_stand more (suc l) (at + length b.ops) (done ++ x.0) [] (omega (arith, all)) (inr (refl, omega (arith, off)))
        (let n = run_long (unrolled core) in_lanes b.ops done t (done ++ x.0) t x.1 in omega (arith, same, n)) tt tt in
        let mask : MaskIs (done ++ x.0) b 0 = subst (λ c. MaskIs (done ++ x.0) b (bit c)) dead (mask_stands (unrolled core) in_lanes (last_number counters) l at lane before others done (done ++ x.0) t t same x.1) in
        let stand : LanesStand is_live ((done ++ x.0) ++ y.new) l (bodies l (suc more) at) [] = (dead, mask_more (done ++ x.0) y.new b 0 mask, y.stand) in
        let ran : operations_after (unrolled core) in_lanes done (all_ops (bodies l (suc more) at)) t ≡ went ((done ++ x.0) ++ y.new) t =
        runs_append (unrolled core) in_lanes b.ops (all_ops (bodies (suc l) more (at + length b.ops))) done (done ++ x.0) t t x.1 ∙ y.ran in
        record {
          new = x.0 ++ y.new;
          ran = ran ∙ ap (λ d. went d t) (append_assoc done x.0 y.new);
          stand = subst (λ d. LanesStand is_live d l (bodies l (suc more) at) []) (append_assoc done x.0 y.new) stand;
        }
    lanes_stand (suc more) l at done (es ∷ groups) all either same h standing =
        let b : Body = lane_body (last_number counters) lane before l at others in
        let sum : l + suc (length groups) ≡ count = elim either [ inl e ↦ e | inr e ↦ absurd (let z = e.0 in omega (arith, z)) ] in
        let lt : l < count = omega (arith, sum) in
        let x : LaneDone l others done es = lane_done l lt others done es h.0 standing.0 in
        let on : is_live l ≡ true = g.live several l lt in
        let there : operations_after (unrolled core) in_lanes done b.ops t ≡ went (done ++ x.new) t =
        subst (λ a. operations_after (unrolled core) in_lanes done (lane_body (last_number counters) lane before l a others).ops t ≡ went (done ++ x.new) t) (sym same) x.ran in
        let y : AllStand (suc l) more (at + length b.ops) (done ++ x.new) groups =
        lanes_stand more (suc l) (at + length b.ops) (done ++ x.new) groups (omega (arith, all)) (inl (omega (arith, sum)))
        (let n = run_long (unrolled core) in_lanes b.ops done t (done ++ x.new) t there in omega (arith, same, n)) h.1 (all_more others done x.new groups standing.1) in
        let mask : MaskIs (done ++ x.new) b 1 = subst (λ c. MaskIs (done ++ x.new) b (bit c)) on (mask_stands (unrolled core) in_lanes (last_number counters) l at lane before others done (done ++ x.new) t t same there) in
        let words : StandAt (done ++ x.new) b.places es = subst (λ a. StandAt (done ++ x.new) (lane_body (last_number counters) lane before l a others).places es) (sym same) x.stand in
        let stand : LanesStand is_live ((done ++ x.new) ++ y.new) l (bodies l (suc more) at) (es ∷ groups) =
        (on, mask_more (done ++ x.new) y.new b 1 mask, stand_more (done ++ x.new) y.new b.places es words, y.stand) in
        let whole : operations_after (unrolled core) in_lanes done (all_ops (bodies l (suc more) at)) t ≡ went ((done ++ x.new) ++ y.new) t =
        runs_append (unrolled core) in_lanes b.ops (all_ops (bodies (suc l) more (at + length b.ops))) done (done ++ x.new) t t there ∙ y.ran in
        record {
          new = x.new ++ y.new;
          ran = whole ∙ ap (λ d. went d t) (append_assoc done x.new y.new);
          stand = subst (λ d. LanesStand is_live d l (bodies l (suc more) at) (es ∷ groups)) (append_assoc done x.new y.new) stand;
        }

  -- a read that stands once gives each lane the first one's word: no copies but those of what is owned differ from lane to lane
  standing_for : (l : ℕ) (first es done : List Entry) (places : List ℕ) → LaneRan 0 first → LaneRan l es → StandAt done places first → AreStanding done es 0 before (standing (shared (last_number counters) owned before before) places)
  standing_for l first es done places one h stand =
      let x : FramedAt names (operations core (plain 0) before) one.store (met 0) one.after first = met_ran 0 first one in
      let y : FramedAt names (operations core (plain l) before) h.store (met l) h.after es = met_ran l es h in
      let twice : RunTwice core (last_number counters) owned before first es = record {
        one = plain 0;
        two = plain l;
        counters = λ c ne. g.others c l ne;
        first = met 0;
        second = met l;
        memories = λ m o c. ap (λ (n : ℕ). t n) (out_number core around inside w counters owned plain in_lanes count g l m o ∙ sym (out_number core around inside w counters owned plain in_lanes count g 0 m o));
        after = x.ended;
        ended = y.ended;
        ran_first = x.ran;
        ran_second = y.ran;
      } in
      reads_stand core (last_number counters) owned before first es p twice done places stand.0 stand.1

  all_standing : (l : ℕ) (first done : List Entry) (places : List ℕ) → LaneRan 0 first → StandAt done places first → (groups : List (List Entry)) → AllRan l groups → AllStanding (standing (shared (last_number counters) owned before before) places) done groups
  all_standing l first done places one stand [] h = tt
  all_standing l first done places one stand (es ∷ groups) h = (standing_for l first es done places one h.0 stand, all_standing (suc l) first done places one stand groups h.1)

  -- the first lane
  abbrev first_body : Body
  first_body = lane_body (last_number counters) lane before 0 0 (nowhere before)

  abbrev others_after : List (Option ℕ)
  others_after = standing (shared (last_number counters) owned before before) first_body.places

  one_less : (n : ℕ) → 1 ≤ n → 1 + (n - 1) ≡ n
  one_less n le = omega (arith, le)

  -- after all lanes the words of each that has an iteration stand at the places of its body
  pub fronts_stand : (groups : List (List Entry)) → length groups ≡ count → AllRan 0 groups
      → (es : List Entry) × (operations (unrolled core) in_lanes (all_ops (lane_bodies (last_number counters) lane before owned (lanes_of counters))) t ≡ went es t)
      × LanesStand is_live es 0 (lane_bodies (last_number counters) lane before owned (lanes_of counters)) groups
  fronts_stand [] long h = absurd (let some = g.some in omega (arith, some, long))
  fronts_stand (first ∷ groups) long h =
      let some : 0 < count = omega (arith, long) in
      let many : 1 ≤ lanes_of counters = (let most = g.most in omega (arith, some, most)) in
      let x : LaneDone 0 (nowhere before) [] first = lane_done 0 some (nowhere before) [] first h.0 (none_stands [] first 0 before) in
      let grown : length x.new ≡ 0 + length first_body.ops = run_long (unrolled core) in_lanes first_body.ops [] t x.new t x.ran in
      let y : AllStand others_after 1 (lanes_of counters - 1) (length first_body.ops) x.new groups =
      lanes_stand others_after (lanes_of counters - 1) 1 (length first_body.ops) x.new groups (one_less (lanes_of counters) many) (inl (omega (arith, long))) (omega (arith, grown)) h.1 (all_standing 1 first x.new first_body.places h.0 x.stand groups h.1) in
      let on : is_live 0 ≡ true = g.live several 0 some in
      let mask : MaskIs x.new first_body 1 = subst (λ c. MaskIs x.new first_body (bit c)) on (mask_stands (unrolled core) in_lanes (last_number counters) 0 0 lane before (nowhere before) [] x.new t t refl x.ran) in (
        x.new ++ y.new,
        runs_append (unrolled core) in_lanes first_body.ops (all_ops (bodies others_after 1 (lanes_of counters - 1) (length first_body.ops))) [] x.new t t x.ran ∙ y.ran,
        (on, mask_more x.new y.new first_body 1 mask, stand_more x.new y.new first_body.places first x.stand, y.stand),
      )
