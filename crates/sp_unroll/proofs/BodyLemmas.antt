-- Bodies of lanes, one operation and one lane at a time.
use Rattle.std.proofs.Common.{◌≡◌, ◌++◌, ◌+◌, ◌-◌, ◌≤◌, min, append_assoc, append-nil, length-append, ℕ, zero, suc, Bool, true, false, List, [], ◌∷◌, map, drop, length, Option, Some, None, arith, refl, sym, ap, ◌∙◌}
use Rattle.std.specs.Option.{option_map}
use Rattle.sp_core.specs.declared.operation.Op.{Op}
use Rattle.sp_core.specs.Plain.{plain_op, plain_ops}
use Rattle.sp_core.specs.PlainCore.{PlainOp}
use Rattle.sp_lanes.specs.Bodies.{Body, live_op, in_mask, standing, nowhere, lane_from, lane_body, more_bodies, lane_bodies, all_ops}
use Rattle.sp_lanes.specs.Shared.{shared}
use Rattle.sp_lanes.specs.Within.{Within}
use Rattle.sp_unroll.specs.Bodies.{bare, before}

-- another number of the same memory changes nothing of the mask
pub same_mask : (live at : ℕ) (f : ℕ → ℕ) (mem : Option ℕ) (op : PlainOp) → in_mask live at (option_map f mem) op ≡ in_mask live at mem op
same_mask live at f None op = refl
same_mask live at f (Some m) op = refl

module _ (w : Within) (live : ℕ) where
  -- an operation that is new
  pub step_new : (out new all : List PlainOp) (place : ℕ) (places : List ℕ) (rest : List PlainOp) (others : List (Option ℕ)) → all ≡ out ++ new → place + 1 ≡ length all
      → before all (lane_from w live (length all) (places ++ place ∷ []) rest others)
      ≡ record { mask = (lane_from w live (length out + length new) (places ++ (length out + length new - 1) ∷ []) rest others).mask; ops = out ++ (new ++ (lane_from w live (length out + length new) (places ++ (length out + length new - 1) ∷ []) rest others).ops); places = (lane_from w live (length out + length new) (places ++ (length out + length new - 1) ∷ []) rest others).places }
  step_new out new all place places rest others e h =
      let n : length all ≡ length out + length new = ap length e ∙ length-append out new in
      let p : place ≡ length out + length new - 1 = omega (arith, n, h) in
      let b : Body = lane_from w live (length out + length new) (places ++ (length out + length new - 1) ∷ []) rest others in
      ap (λ k. before all (lane_from w live k (places ++ place ∷ []) rest others)) n
      ∙ ap (λ q. before all (lane_from w live (length out + length new) (places ++ q ∷ []) rest others)) p
      ∙ ap (λ x. before x b) e
      ∙ ap (λ (x : List PlainOp). record { mask = b.mask; ops = x; places = b.places }) (append_assoc out new b.ops)

  none_left : (at : ℕ) (places : List ℕ) (ops : List PlainOp) → lane_from w live at places ops [] ≡ record { mask = live; ops = []; places = places }
  none_left at places [] = refl
  none_left at places (op ∷ ops) = refl

  pub lane_done : (at : ℕ) (places : List ℕ) (body : List Op) (others : List (Option ℕ)) (i : ℕ) → min (length body) (length others) ≤ i
      → lane_from w live at places (plain_ops (drop i body)) (drop i others) ≡ record { mask = live; ops = []; places = places }
  lane_done at places [] others zero h = refl
  lane_done at places [] others (suc i) h = refl
  lane_done at places (x ∷ body) [] zero h = refl
  lane_done at places (x ∷ body) [] (suc i) h = none_left at places (plain_ops (drop i body))
  lane_done at places (x ∷ body) (o ∷ others) zero h = absurd (omega (arith, h))
  lane_done at places (x ∷ body) (o ∷ others) (suc i) h = lane_done at places body others i (omega (arith, h))

  pub end_of_lane : (out : List PlainOp) (places : List ℕ) → before out (record { mask = live; ops = []; places = places }) ≡ record { mask = live; ops = out; places = places }
  end_of_lane out places = ap (λ (x : List PlainOp). record { mask = live; ops = x; places = places }) (append-nil out)

  -- one more operation of a body
  pub lane_step : (all out : List PlainOp) (places after : List ℕ) (body : List Op) (x : Op) (others : List (Option ℕ)) (o : Option ℕ) (i : ℕ)
      → drop i body ≡ x ∷ drop (i + 1) body → drop i others ≡ o ∷ drop (i + 1) others
      → ((rest : List PlainOp) (left : List (Option ℕ)) → before all (lane_from w live (length all) after rest left) ≡ before out (lane_from w live (length out) places (plain_op x ∷ rest) (o ∷ left)))
      → before all (lane_from w live (length all) after (plain_ops (drop (i + 1) body)) (drop (i + 1) others)) ≡ before out (lane_from w live (length out) places (plain_ops (drop i body)) (drop i others))
  lane_step all out places after body x others o i d e h =
      h (plain_ops (drop (i + 1) body)) (drop (i + 1) others)
      ∙ sym (ap (λ l. before out (lane_from w live (length out) places (plain_ops l) (drop i others))) d
      ∙ ap (λ l. before out (lane_from w live (length out) places (plain_op x ∷ plain_ops (drop (i + 1) body)) l)) e)

pub standing_done : (shared : List Bool) (places : List ℕ) (i : ℕ) → min (length shared) (length places) ≤ i → standing (drop i shared) (drop i places) ≡ []
standing_done [] places zero h = refl
standing_done [] places (suc i) h = refl
standing_done (true ∷ shared) [] zero h = refl
standing_done (false ∷ shared) [] zero h = refl
standing_done (x ∷ shared) [] (suc i) h = left (drop i shared)
  where
    left : (all : List Bool) → standing all [] ≡ []
    left [] = refl
    left (true ∷ all) = refl
    left (false ∷ all) = refl
standing_done (x ∷ shared) (p ∷ places) zero h = absurd (omega (arith, h))
standing_done (x ∷ shared) (p ∷ places) (suc i) h = standing_done shared places i (omega (arith, h))

module _ (counter : ℕ) where
  -- the body of a lane, after the bit of the lane
  pub lane_made : (w : Within) (body : List PlainOp) (lane mask : ℕ) (out live all : List PlainOp) (places : List ℕ) (others : List (Option ℕ))
      → mask ≡ length out → live ≡ out ++ live_op counter lane lane ∷ []
      → record { mask = mask; ops = all; places = places } ≡ before live (lane_from w mask (length live) [] body others)
      → record { mask = mask; ops = all; places = places } ≡ before out (lane_body counter (λ l. w) body lane (length out) others)
  lane_made w body lane mask out live all places others m e h =
      let n : length live ≡ suc (length out) = ap length e ∙ length-append out (live_op counter lane lane ∷ []) ∙ omega arith in
      let b : Body = lane_from w (length out) (suc (length out)) [] body others in
      h
      ∙ ap (λ k. before live (lane_from w k (length live) [] body others)) m
      ∙ ap (λ k. before live (lane_from w (length out) k [] body others)) n
      ∙ ap (λ x. before x b) e
      ∙ ap (λ (x : List PlainOp). record { mask = b.mask; ops = x; places = b.places }) (append_assoc out (live_op counter lane lane ∷ []) b.ops)

  module _ (inside : ℕ → Within) (body : List PlainOp) (others : List (Option ℕ)) where
    -- one more lane
    pub lanes_step : (lane next left k : ℕ) (out all : List PlainOp) (b : Body) → next ≡ suc lane → left ≡ suc k → b ≡ lane_body counter inside body lane (length out) others → all ≡ out ++ b.ops
        → all ++ all_ops (more_bodies counter inside body next k (length all) others) ≡ out ++ all_ops (more_bodies counter inside body lane left (length out) others)
    lanes_step lane next left k out all b s l e h =
        let n : length all ≡ length out + length b.ops = ap length h ∙ length-append out b.ops in
        let more = λ (at : ℕ). all_ops (more_bodies counter inside body (suc lane) k at others) in
        ap (λ m. all ++ all_ops (more_bodies counter inside body m k (length all) others)) s
        ∙ ap (λ at. all ++ more at) n ∙ ap (λ x. x ++ more (length out + length b.ops)) h
        ∙ append_assoc out b.ops (more (length out + length b.ops))
        ∙ ap (λ (x : Body). out ++ (x.ops ++ more (length out + length x.ops))) e
        ∙ sym (ap (λ m. out ++ all_ops (more_bodies counter inside body lane m (length out) others)) l)

    pub bare_step : (lane next left k : ℕ) (out all : List PlainOp) (made : List Body) (c b : Body) → next ≡ suc lane → left ≡ suc k → b ≡ lane_body counter inside body lane (length out) others → all ≡ out ++ b.ops → c ≡ bare b
        → (made ++ c ∷ []) ++ map bare (more_bodies counter inside body next k (length all) others) ≡ made ++ map bare (more_bodies counter inside body lane left (length out) others)
    bare_step lane next left k out all made c b s l e h f =
        let n : length all ≡ length out + length b.ops = ap length h ∙ length-append out b.ops in
        let more = λ (at : ℕ). map bare (more_bodies counter inside body (suc lane) k at others) in
        ap (λ m. (made ++ c ∷ []) ++ map bare (more_bodies counter inside body m k (length all) others)) s
        ∙ append_assoc made (c ∷ []) (more (length all))
        ∙ ap (λ x. made ++ x ∷ more (length all)) f
        ∙ ap (λ at. made ++ bare b ∷ more at) n
        ∙ ap (λ (x : Body). made ++ bare x ∷ more (length out + length x.ops)) e
        ∙ sym (ap (λ m. made ++ map bare (more_bodies counter inside body lane m (length out) others)) l)

module _ (counter : ℕ) (inside : ℕ → Within) (body : List PlainOp) where
  -- the body of the first lane, before which nothing stands
  pub first_ops : (was : List Op) (all : List PlainOp) (none : List (Option ℕ)) → was ≡ [] → none ≡ nowhere body
      → all ≡ plain_ops was ++ (lane_body counter inside body 0 (length (plain_ops was)) none).ops → all ≡ (lane_body counter inside body 0 0 (nowhere body)).ops
  first_ops was all none e f h =
      h ∙ ap (λ l. plain_ops l ++ (lane_body counter inside body 0 (length (plain_ops l)) none).ops) e
      ∙ ap (λ n. (lane_body counter inside body 0 0 n).ops) f

  pub first_bare : (was : List Op) (had made : List Body) (none : List (Option ℕ)) → was ≡ [] → had ≡ [] → none ≡ nowhere body
      → made ≡ had ++ bare (lane_body counter inside body 0 (length (plain_ops was)) none) ∷ [] → made ≡ bare (lane_body counter inside body 0 0 (nowhere body)) ∷ []
  first_bare was had made none e d f h =
      h ∙ ap (λ l. l ++ bare (lane_body counter inside body 0 (length (plain_ops was)) none) ∷ []) d
      ∙ ap (λ (l : List Op). bare (lane_body counter inside body 0 (length (plain_ops l)) none) ∷ []) e
      ∙ ap (λ n. bare (lane_body counter inside body 0 0 n) ∷ []) f

module _ (counter : ℕ) (inside : ℕ → Within) (body : List PlainOp) (own : List ℕ) (lanes : ℕ) where
  -- the first lane, by which the reads that stand once are found
  pub lanes_first : (all : List PlainOp) (b : Body) (others : List (Option ℕ)) → b ≡ lane_body counter inside body 0 0 (nowhere body) → all ≡ b.ops → others ≡ standing (shared counter own body body) b.places
      → all ++ all_ops (more_bodies counter inside body 1 (lanes - 1) (length all) others) ≡ all_ops (lane_bodies counter inside body own lanes)
  lanes_first all b others e h f =
      ap (λ o. all ++ all_ops (more_bodies counter inside body 1 (lanes - 1) (length all) o)) f
      ∙ ap (λ x. x ++ all_ops (more_bodies counter inside body 1 (lanes - 1) (length x) (standing (shared counter own body body) b.places))) h
      ∙ ap (λ (x : Body). x.ops ++ all_ops (more_bodies counter inside body 1 (lanes - 1) (length x.ops) (standing (shared counter own body body) x.places))) e

  pub bare_first : (all : List PlainOp) (b c : Body) (others : List (Option ℕ)) → b ≡ lane_body counter inside body 0 0 (nowhere body) → all ≡ b.ops → others ≡ standing (shared counter own body body) b.places → c ≡ bare b
      → c ∷ map bare (more_bodies counter inside body 1 (lanes - 1) (length all) others) ≡ map bare (lane_bodies counter inside body own lanes)
  bare_first all b c others e h f g =
      ap (λ x. x ∷ map bare (more_bodies counter inside body 1 (lanes - 1) (length all) others)) g
      ∙ ap (λ o. bare b ∷ map bare (more_bodies counter inside body 1 (lanes - 1) (length all) o)) f
      ∙ ap (λ x. bare b ∷ map bare (more_bodies counter inside body 1 (lanes - 1) (length x) (standing (shared counter own body body) b.places))) h
      ∙ ap (λ (x : Body). bare x ∷ map bare (more_bodies counter inside body 1 (lanes - 1) (length x.ops) (standing (shared counter own body body) x.places))) e
