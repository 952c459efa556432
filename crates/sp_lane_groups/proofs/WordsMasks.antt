-- The masks of lanes, and what stands after more entries.
use Rattle.std.proofs.Common.{◌≡◌, ℕ, suc, ◌+◌, ◌-◌, Bool, true, ◌&&◌, List, [], ◌∷◌, ◌++◌, length, Option, Some, None, refl, sym, ◌∙◌, ap, arith, nat_le}
use Rattle.std.proofs.lemmas.Bool.{le-leb}
use Rattle.std.proofs.lemmas.List.{length-append}
use Rattle.std.specs.Prelude.{slice_index}
use Rattle.sp_core.specs.History.{Entry, gave, word_of, word_at}
use Rattle.sp_core.specs.Operations.{operations_after}
use Rattle.sp_core.specs.Operators.{bit}
use Rattle.sp_core.specs.PlainCore.{PlainOp, PlainCore}
use Rattle.sp_core.specs.Scope.{Scope, is_some_up_to, is_some_live}
use Rattle.sp_core.specs.Step.{went, pure}
use Rattle.sp_core.specs.Store.{Store}
use Rattle.sp_lanes.specs.Bodies.{Body, in_mask, at_places, lane_from, lane_body, live_op}
use Rattle.sp_lanes.specs.Within.{Within, op_in}
use Rattle.sp_lane_groups.proofs.LiveAlong.{answer_of}
use Rattle.sp_lane_groups.proofs.LiveLane.{word_kept, word_end, split_run, kept_run}
use Rattle.sp_lane_groups.proofs.RunsWhole.{run_long}
use Rattle.sp_lane_groups.specs.WordsStanding.{MaskIs, StandAt, LanesStand}

-- one lane has an iteration
pub one_live : (live : ℕ → Bool) (l : ℕ) → is_some_live live l l ≡ live l
one_live live l = by (nat_le l l) (l - l) (le-leb l l (omega arith)) (omega arith)
  where
    by : (b : Bool) (n : ℕ) → b ≡ true → n ≡ 0 → (b && is_some_up_to live l n) ≡ live l
    by b n i j = ap (λ c. c && is_some_up_to live l n) i ∙ ap (is_some_up_to live l) j

-- the mask of a body
mask_from : (w : Within) (live at : ℕ) (places : List ℕ) (ops : List PlainOp) (others : List (Option ℕ)) → (lane_from w live at places ops others).mask ≡ live
mask_from w live at places [] others = refl
mask_from w live at places (op ∷ ops) [] = refl
mask_from w live at places (op ∷ ops) (Some p ∷ others) = mask_from w live at (places ++ p ∷ []) ops others
mask_from w live at places (op ∷ ops) (None ∷ others) =
    let new : List PlainOp = in_mask live at op.mem (at_places places (op_in w op)) in
    mask_from w live (at + length new) (places ++ (at + length new - 1) ∷ []) ops others

-- what is live stands at the mask of a lane's body after it
pub mask_stands : (core : PlainCore) (scope : Scope) (counter l at : ℕ) (in_lane : ℕ → Within) (body : List PlainOp) (others : List (Option ℕ)) (done es : List Entry) (s after : Store) → at ≡ length done
    → operations_after core scope done (lane_body counter in_lane body l at others).ops s ≡ went es after → MaskIs es (lane_body counter in_lane body l at others) (bit ((scope counter).live l))
unfolding pure
mask_stands core scope counter l at in_lane body others done es s after same ran =
    let ops : List PlainOp = (lane_from (in_lane l) at (suc at) [] body others).ops in
    let r = split_run core scope (live_op counter l l) ops done s es after ran in
    let first : gave (bit (is_some_live (scope counter).live l l)) ≡ r.0 = ap (answer_of r.0) r.2 in
    let mask : (lane_body counter in_lane body l at others).mask ≡ at = mask_from (in_lane l) at (suc at) [] body others in
    let more : length (done ++ r.0 ∷ []) ≡ suc (length done) = omega (arith, length-append done (r.0 ∷ [])) in
    let long : length es ≡ length (done ++ r.0 ∷ []) + length ops = run_long core scope ops (done ++ r.0 ∷ []) r.1 es after r.3 in (
      (omega (arith, mask, same, more, long)),
      ap (word_at es) mask ∙ kept_run core scope ops (done ++ r.0 ∷ []) r.1 es after r.3 at (omega (arith, same, more)) ∙ word_end done r.0 at same
          ∙ ap word_of (sym first) ∙ ap bit (one_live (scope counter).live l),
    )

-- what stands still does after more entries
pub mask_more : (es new : List Entry) (b : Body) (w : ℕ) → MaskIs es b w → MaskIs (es ++ new) b w
mask_more es new b w h = ((let lt = h.0 in omega (arith, lt, length-append es new)), word_kept es new b.mask h.0 ∙ h.1)

pub stand_more : (es new : List Entry) (places : List ℕ) (g : List Entry) → StandAt es places g → StandAt (es ++ new) places g
stand_more es new places g h = (h.0, λ k lt. (let r = h.1 k lt in ((let less = r.0 in omega (arith, less, length-append es new)), word_kept es new (slice_index places k) r.0 ∙ r.1)))

pub lanes_more : (live : ℕ → Bool) (es new : List Entry) (l : ℕ) (bodies : List Body) (groups : List (List Entry)) → LanesStand live es l bodies groups → LanesStand live (es ++ new) l bodies groups
lanes_more live es new l [] [] h = tt
lanes_more live es new l [] (g ∷ groups) h = h
lanes_more live es new l (b ∷ bodies) (g ∷ groups) h = (h.0, mask_more es new b 1 h.1, stand_more es new b.places g h.2, lanes_more live es new (suc l) bodies groups h.3)
lanes_more live es new l (b ∷ bodies) [] h = (h.0, mask_more es new b 0 h.1, lanes_more live es new (suc l) bodies [] h.2)
