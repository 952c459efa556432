-- The bodies of lanes, one after the other, keep the rules of cores.
use Rattle.std.proofs.Common.{◌≡◌, ℕ, zero, suc, ◌+◌, ◌-◌, ◌<◌, ◌≤◌, Bool, true, false, List, [], ◌∷◌, ◌++◌, length, map, Option, Some, None, refl, sym, ◌∙◌, ap, subst, arith}
use Rattle.std.proofs.lemmas.Bool.{and_parts, and_from, le-leb}
use Rattle.std.proofs.lemmas.List.{append_assoc, length-append}
use Rattle.std.specs.Prelude.{option_map, slice_index}
use Rattle.sp_words.specs.declared.types.Ty.{Ty}
use Rattle.sp_words.specs.declared.types.Ty.TheVariants.{Bit}
use Rattle.sp_core.specs.declared.operation.OpKind.{OpKind}
use Rattle.sp_core.specs.Around.{Around, has_lane}
use Rattle.sp_core.specs.OperationRules.{is_mask, is_operation_right, are_operations_right_after}
use Rattle.sp_core.specs.PlainCore.{PlainOp, PlainCore}
use Rattle.sp_core.specs.Typed.{Given, given_type, is_given, gives}
use Rattle.sp_lanes.specs.Bodies.{in_mask, at_places, Body, standing, nowhere, lane_from, lane_body, more_bodies, lane_bodies, all_ops}
use Rattle.sp_lanes.specs.Shared.{shared_after, shared, does_depend}
use Rattle.sp_lanes.specs.Within.{Within, op_in}
use Rattle.sp_lane_rules.specs.UnrolledMeetings.{given_of}
use Rattle.sp_lane_rules.specs.UnrolledPlaces.{GoTogether}
use Rattle.sp_lane_rules.proofs.UnrolledGivens.{append_none, given_append, given_length, Holds, holds_more, holds_end, gives_more, Placed, placed_more, placed_end, placed_gives, placed_args, after_both}
use Rattle.sp_lane_rules.proofs.UnrolledLists.{operation_from, mask_of, given_kept}

-- each operation that stands already gives what that one gives
abbrev pub StandAs : Given → List PlainOp → List (Option ℕ) → Type 0
StandAs g [] [] = Unit {0}
StandAs g (op ∷ ops) (Some p ∷ others) = Holds g p (given_type op.kind op.ty) × StandAs g ops others
StandAs g (op ∷ ops) (None ∷ others) = StandAs g ops others
StandAs g [] (o ∷ others) = ⊥
StandAs g (op ∷ ops) [] = ⊥

stand_more : (g x : Given) (ops : List PlainOp) (others : List (Option ℕ)) → StandAs g ops others → StandAs (g ++ x) ops others
stand_more g x [] [] h = tt
stand_more g x (op ∷ ops) (Some p ∷ others) h = (holds_more g x p (given_type op.kind op.ty) h.0, stand_more g x ops others h.1)
stand_more g x (op ∷ ops) (None ∷ others) h = stand_more g x ops others h
stand_more g x [] (o ∷ others) h = absurd h
stand_more g x (op ∷ ops) [] h = absurd h

nowhere_stands : (g : Given) (ops : List PlainOp) → StandAs g ops (nowhere ops)
nowhere_stands g [] = tt
nowhere_stands g (op ∷ ops) = nowhere_stands g ops

standing_stands : (g : Given) (ops : List PlainOp) (flags : List Bool) (places : List ℕ) → Placed g places (given_of ops) → length flags ≡ length ops → StandAs g ops (standing flags places)
standing_stands g [] [] [] h e = tt
standing_stands g [] (f ∷ flags) [] h e = absurd (omega (arith, e))
standing_stands g [] flags (p ∷ places) h e = absurd h
standing_stands g (op ∷ ops) flags [] h e = absurd h
standing_stands g (op ∷ ops) [] (p ∷ places) h e = absurd (omega (arith, e))
standing_stands g (op ∷ ops) (true ∷ flags) (p ∷ places) h e = (h.0, standing_stands g ops flags places h.1 (omega (arith, e)))
standing_stands g (op ∷ ops) (false ∷ flags) (p ∷ places) h e = standing_stands g ops flags places h.1 (omega (arith, e))

shared_length : (counter : ℕ) (own : List ℕ) (body : List PlainOp) (earlier : List Bool) (ops : List PlainOp) → length (shared_after counter own body earlier ops) ≡ length ops
shared_length counter own body earlier [] = refl
shared_length counter own body earlier (op ∷ ops) = ap suc (shared_length counter own body (earlier ++ does_depend counter own body earlier op ∷ []) ops)

module _ (core lanes : PlainCore) (around inside : Around) where
  -- operations that are right, after which those of a body give what they give in the core
  abbrev pub IsLane : Given → (earlier : Given) → List PlainOp → Body → Type 0
  IsLane g earlier ops b = (are_operations_right_after lanes inside g b.ops ≡ true) × Placed (g ++ given_of b.ops) b.places (earlier ++ given_of ops)

  module _ (w : Within) (h : GoTogether core lanes around inside w) where
    holds_at : (g : Given) (at : ℕ) (e : Option Ty) → at ≡ length g → Holds (g ++ e ∷ []) at e
    holds_at g at e same = subst (λ p. Holds (g ++ e ∷ []) p e) (sym same) (holds_end g e)

    -- an operation in a lane, under its mask
    in_mask_right : (live at : ℕ) (g : Given) (places : List ℕ) (earlier : Given) (kind : OpKind) (ty : Ty) (args : List ℕ) (m mask : Option ℕ)
        → Placed g places earlier → at ≡ length g → gives g live Bit ≡ true
        → is_operation_right core around earlier (record { kind = kind; ty = ty; args = args; mem = m; mask = mask }) ≡ true
        → (are_operations_right_after lanes inside g (in_mask live at m (at_places places (op_in w (record { kind = kind; ty = ty; args = args; mem = m; mask = mask })))) ≡ true)
        × Holds (g ++ given_of (in_mask live at m (at_places places (op_in w (record { kind = kind; ty = ty; args = args; mem = m; mask = mask })))))
        (at + length (in_mask live at m (at_places places (op_in w (record { kind = kind; ty = ty; args = args; mem = m; mask = mask })))) - 1) (given_type kind ty)
    in_mask_right live at g places earlier kind ty args None mask p same l e = (
      and_from _ _ (operation_from core lanes around inside w h (record { kind = kind; ty = ty; args = args; mem = None; mask = mask }) earlier g (map (slice_index places) args) (option_map (slice_index places) mask) e
          (λ types x. placed_args g places earlier args types p x) (mask_placed mask (mask_of core lanes around inside w h (record { kind = kind; ty = ty; args = args; mem = None; mask = mask }) earlier e))) refl,
      subst (λ t. Holds (g ++ t ∷ []) (at + 1 - 1) (given_type kind ty)) (sym (given_kept w kind ty)) (holds_at g (at + 1 - 1) (given_type kind ty) (omega (arith, same))),
    )
      where
        mask_placed : (mask : Option ℕ) → is_mask core around earlier mask ≡ true → is_mask lanes inside g (option_map (slice_index places) mask) ≡ true
        mask_placed None e = refl
        mask_placed (Some k) e = placed_gives g places earlier k Bit p e
    in_mask_right live at g places earlier kind ty args (Some m) None p same l e = (
      and_from _ _ (operation_from core lanes around inside w h (record { kind = kind; ty = ty; args = args; mem = Some m; mask = None }) earlier g (map (slice_index places) args) (Some live) e
          (λ types x. placed_args g places earlier args types p x) l) refl,
      subst (λ t. Holds (g ++ t ∷ []) (at + 1 - 1) (given_type kind ty)) (sym (given_kept w kind ty)) (holds_at g (at + 1 - 1) (given_type kind ty) (omega (arith, same))),
    )
    in_mask_right live at g places earlier kind ty args (Some m) (Some k) p same l e = (
      and_from _ _ (and_from _ _ refl (and_from _ _ (and_from _ _ l (and_from _ _ (placed_gives g places earlier k Bit p (mask_of core lanes around inside w h (record { kind = kind; ty = ty; args = args; mem = Some m; mask = Some k }) earlier e)) refl)) refl))
          (and_from _ _ (operation_from core lanes around inside w h (record { kind = kind; ty = ty; args = args; mem = Some m; mask = Some k }) earlier (g ++ Some Bit ∷ []) (map (slice_index places) args) (Some at) e
          (λ types x. placed_args (g ++ Some Bit ∷ []) places earlier args types (placed_more g (Some Bit ∷ []) places earlier p) x) (ap (λ o. is_given o Bit) (holds_at g at (Some Bit) same).1)) refl),
      subst (λ t. Holds (g ++ Some Bit ∷ t ∷ []) (at + 2 - 1) (given_type kind ty)) (sym (given_kept w kind ty))
          (subst (λ (x : Given). Holds x (at + 2 - 1) (given_type kind ty)) (append_assoc g (Some Bit ∷ []) (given_type kind ty ∷ []))
          (holds_at (g ++ Some Bit ∷ []) (at + 2 - 1) (given_type kind ty) (omega (arith, same, length-append g (Some Bit ∷ []))))),
    )

    pub lane_from_right : (ops : List PlainOp) (others : List (Option ℕ)) (live at : ℕ) (places : List ℕ) (g earlier : Given)
        → Placed g places earlier → at ≡ length g → gives g live Bit ≡ true → StandAs g ops others → are_operations_right_after core around earlier ops ≡ true
        → IsLane g earlier ops (lane_from w live at places ops others)
    lane_from_right [] [] live at places g earlier p same l s e =
        (refl, subst (λ (x : Given). Placed x places (earlier ++ [])) (sym (append_none g)) (subst (λ (x : Given). Placed g places x) (sym (append_none earlier)) p))
    lane_from_right [] (o ∷ others) live at places g earlier p same l s e = absurd s
    lane_from_right (op ∷ ops) [] live at places g earlier p same l s e = absurd s
    lane_from_right (op ∷ ops) (Some q ∷ others) live at places g earlier p same l s e =
        let a = and_parts (is_operation_right core around earlier op) (are_operations_right_after core around (earlier ++ given_type op.kind op.ty ∷ []) ops) e in
        let r = lane_from_right ops others live at (places ++ q ∷ []) g (earlier ++ given_type op.kind op.ty ∷ []) (placed_end g places earlier q (given_type op.kind op.ty) p s.0) same l s.1 a.1 in
        (r.0, subst (λ (x : Given). Placed (g ++ given_of (lane_from w live at (places ++ q ∷ []) ops others).ops) (lane_from w live at (places ++ q ∷ []) ops others).places x) (append_assoc earlier (given_type op.kind op.ty ∷ []) (given_of ops)) r.1)
    lane_from_right (op ∷ ops) (None ∷ others) live at places g earlier p same l s e =
        let a = and_parts (is_operation_right core around earlier op) (are_operations_right_after core around (earlier ++ given_type op.kind op.ty ∷ []) ops) e in
        let new : List PlainOp = in_mask live at op.mem (at_places places (op_in w op)) in
        let n = in_mask_right live at g places earlier op.kind op.ty op.args op.mem op.mask p same l a.0 in
        let b : Body = lane_from w live (at + length new) (places ++ (at + length new - 1) ∷ []) ops others in
        let r = lane_from_right ops others live (at + length new) (places ++ (at + length new - 1) ∷ []) (g ++ given_of new) (earlier ++ given_type op.kind op.ty ∷ [])
        (placed_end (g ++ given_of new) places earlier (at + length new - 1) (given_type op.kind op.ty) (placed_more g (given_of new) places earlier p) n.1)
        (omega (arith, same, length-append g (given_of new), given_length new)) (gives_more g (given_of new) live l) (stand_more g (given_of new) ops others s) a.1 in (
          after_both lanes inside g new b.ops n.0 r.0,
          subst (λ (x : Given). Placed x b.places (earlier ++ given_type op.kind op.ty ∷ given_of ops)) (append_assoc g (given_of new) (given_of b.ops) ∙ ap (λ (x : Given). g ++ x) (sym (given_append new b.ops)))
              (subst (λ (x : Given). Placed ((g ++ given_of new) ++ given_of b.ops) b.places x) (append_assoc earlier (given_type op.kind op.ty ∷ []) (given_of ops)) r.1),
        )

lane_mask : (w : Within) (live at : ℕ) (places : List ℕ) (ops : List PlainOp) (others : List (Option ℕ)) → (lane_from w live at places ops others).mask ≡ live
lane_mask w live at places [] others = refl
lane_mask w live at places (op ∷ ops) [] = refl
lane_mask w live at places (op ∷ ops) (Some p ∷ others) = lane_mask w live at (places ++ p ∷ []) ops others
lane_mask w live at places (op ∷ ops) (None ∷ others) =
    lane_mask w live (at + length (in_mask live at op.mem (at_places places (op_in w op)))) (places ++ (at + length (in_mask live at op.mem (at_places places (op_in w op))) - 1) ∷ []) ops others

-- bodies whose masks stand, and after which operations give what they give in the core
abbrev pub AllPlaced : Given → List PlainOp → List Body → Type 0
AllPlaced g body [] = Unit {0}
AllPlaced g body (b ∷ bodies) = Holds g b.mask (Some Bit) × Placed g b.places (given_of body) × AllPlaced g body bodies

pub all_placed_more : (g x : Given) (body : List PlainOp) (bodies : List Body) → AllPlaced g body bodies → AllPlaced (g ++ x) body bodies
all_placed_more g x body [] h = tt
all_placed_more g x body (b ∷ bodies) h = (holds_more g x b.mask (Some Bit) h.0, placed_more g x b.places (given_of body) h.1, all_placed_more g x body bodies h.2)

module _ (core lanes : PlainCore) (around inside : Around) (counter : ℕ) (lane : ℕ → Within) (body : List PlainOp) (p : ℕ)
    (h : (l : ℕ) → l < p → GoTogether core lanes around inside (lane l)) (there : (l : ℕ) → l < p → has_lane inside.counters counter l ≡ true)
    (right : are_operations_right_after core around [] body ≡ true) where
  lane_body_right : (l at : ℕ) (g : Given) (others : List (Option ℕ)) → l < p → at ≡ length g → StandAs g body others
      → (are_operations_right_after lanes inside g (lane_body counter lane body l at others).ops ≡ true)
      × AllPlaced (g ++ given_of (lane_body counter lane body l at others).ops) body (lane_body counter lane body l at others ∷ [])
  lane_body_right l at g others lt same s =
      let b : Body = lane_from (lane l) at (suc at) [] body others in
      let start : Holds (g ++ Some Bit ∷ []) at (Some Bit) = subst (λ q. Holds (g ++ Some Bit ∷ []) q (Some Bit)) (sym same) (holds_end g (Some Bit)) in
      let r = lane_from_right core lanes around inside (lane l) (h l lt) body others at (suc at) [] (g ++ Some Bit ∷ []) [] tt (omega (arith, same, length-append g (Some Bit ∷ [])))
      (ap (λ o. is_given o Bit) start.1) (stand_more g (Some Bit ∷ []) body others s) right in (
        and_from _ _ (and_from _ _ (and_from _ _ (and_from _ _ (and_from _ _ (le-leb l l (omega arith)) (there l lt)) refl) refl) refl) r.0,
        (
          subst (λ (x : Given). Holds x b.mask (Some Bit)) (append_assoc g (Some Bit ∷ []) (given_of b.ops))
              (subst (λ q. Holds ((g ++ Some Bit ∷ []) ++ given_of b.ops) q (Some Bit)) (sym (lane_mask (lane l) at (suc at) [] body others)) (holds_more (g ++ Some Bit ∷ []) (given_of b.ops) at (Some Bit) start)),
          subst (λ (x : Given). Placed x b.places (given_of body)) (append_assoc g (Some Bit ∷ []) (given_of b.ops)) r.1,
          tt,
        ),
      )

  more_bodies_right : (more l at : ℕ) (g : Given) (others : List (Option ℕ)) → l + more ≤ p → at ≡ length g → StandAs g body others
      → (are_operations_right_after lanes inside g (all_ops (more_bodies counter lane body l more at others)) ≡ true)
      × AllPlaced (g ++ given_of (all_ops (more_bodies counter lane body l more at others))) body (more_bodies counter lane body l more at others)
  more_bodies_right zero l at g others le same s = (refl, tt)
  more_bodies_right (suc more) l at g others le same s =
      let b : Body = lane_body counter lane body l at others in
      let rest : List Body = more_bodies counter lane body (suc l) more (at + length b.ops) others in
      let one = lane_body_right l at g others (omega arith) same s in
      let r = more_bodies_right more (suc l) (at + length b.ops) (g ++ given_of b.ops) others (omega arith) (omega (arith, same, length-append g (given_of b.ops), given_length b.ops)) (stand_more g (given_of b.ops) body others s) in
      let whole : (g ++ given_of b.ops) ++ given_of (all_ops rest) ≡ g ++ given_of (b.ops ++ all_ops rest) = append_assoc g (given_of b.ops) (given_of (all_ops rest)) ∙ ap (λ (x : Given). g ++ x) (sym (given_append b.ops (all_ops rest))) in (
        after_both lanes inside g b.ops (all_ops rest) one.0 r.0,
        (
          subst (λ (x : Given). Holds x b.mask (Some Bit)) whole (holds_more (g ++ given_of b.ops) (given_of (all_ops rest)) b.mask (Some Bit) one.1.0),
          subst (λ (x : Given). Placed x b.places (given_of body)) whole (placed_more (g ++ given_of b.ops) (given_of (all_ops rest)) b.places (given_of body) one.1.1),
          subst (λ (x : Given). AllPlaced x body rest) whole r.1,
        ),
      )

  pub lane_bodies_right : (own : List ℕ) → 1 ≤ p
      → (are_operations_right_after lanes inside [] (all_ops (lane_bodies counter lane body own p)) ≡ true)
      × AllPlaced (given_of (all_ops (lane_bodies counter lane body own p))) body (lane_bodies counter lane body own p)
  lane_bodies_right own one =
      let first : Body = lane_body counter lane body 0 0 (nowhere body) in
      let others : List (Option ℕ) = standing (shared counter own body body) first.places in
      let rest : List Body = more_bodies counter lane body 1 (p - 1) (length first.ops) others in
      let a = lane_body_right 0 0 [] (nowhere body) (omega arith) refl (nowhere_stands [] body) in
      let r = more_bodies_right (p - 1) 1 (length first.ops) (given_of first.ops) others (omega arith) (sym (given_length first.ops))
      (standing_stands (given_of first.ops) body (shared counter own body body) first.places a.1.1 (shared_length counter own body [] body)) in
      let whole : given_of first.ops ++ given_of (all_ops rest) ≡ given_of (first.ops ++ all_ops rest) = sym (given_append first.ops (all_ops rest)) in (
        after_both lanes inside [] first.ops (all_ops rest) a.0 r.0,
        (
          subst (λ (x : Given). Holds x first.mask (Some Bit)) whole (holds_more (given_of first.ops) (given_of (all_ops rest)) first.mask (Some Bit) a.1.0),
          subst (λ (x : Given). Placed x first.places (given_of body)) whole (placed_more (given_of first.ops) (given_of (all_ops rest)) first.places (given_of body) a.1.1),
          subst (λ (x : Given). AllPlaced x body rest) whole r.1,
        ),
      )
