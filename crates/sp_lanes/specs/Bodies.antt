-- The bodies of lanes, one after the other in one list of operations. Each begins with the bit that tells whether its lane
-- has an iteration, and each of its accesses is under that bit. A read that stands once stands in lane 0.
use Rattle.std.specs.Prelude.{ℕ, zero, suc, ◌+◌, ◌-◌, Bool, true, false, List, [], ◌∷◌, ◌++◌, map, length, slice_index, flat_map, Option, Some, None, option_map}
use Rattle.sp_words.specs.declared.kind.BinOp.TheVariants.{And}
use Rattle.sp_words.specs.declared.types.Ty.{Ty}
use Rattle.sp_words.specs.declared.types.Ty.TheVariants.{Bit}
use Rattle.sp_core.specs.declared.operation.OpKind.{OpKind}
use Rattle.sp_core.specs.declared.operation.OpKind.TheVariants.{Live, Two, Mux}
use Rattle.sp_core.specs.PlainCore.{PlainOp}
use Rattle.sp_lanes.specs.Shared.{shared}
use Rattle.sp_lanes.specs.Within.{Within, op_in}

abbrev pub computes : OpKind → Ty → List ℕ → PlainOp
computes kind ty args = record { kind = kind; ty = ty; args = args; mem = None; mask = None }

-- what stands in no list
abbrev pub no_op : PlainOp
no_op = computes Mux Bit []

-- whether some lane from the first to the last of a controller has an iteration
abbrev pub live_op : (counter first last : ℕ) → PlainOp
live_op c first last = computes (Live c first last) Bit []

abbrev pub under : ℕ → PlainOp → PlainOp
under mask op = record op { mask = Some mask }

-- an operation at a place, where an access is under the lane's mask, and under its own too if it has one
abbrev pub masked : (live at : ℕ) → Option ℕ → PlainOp → List PlainOp
masked live at None op = under live op ∷ []
masked live at (Some k) op = computes (Two And) Bit (live ∷ k ∷ []) ∷ under at op ∷ []

abbrev pub in_mask : (live at : ℕ) → Option ℕ → PlainOp → List PlainOp
in_mask live at None op = op ∷ []
in_mask live at (Some m) op = masked live at op.mask op

-- the same where its operands stand at other places
abbrev pub at_places : (places : List ℕ) → PlainOp → PlainOp
at_places places op = record op { args = map (slice_index places) op.args; mask = option_map (slice_index places) op.mask }

-- a body in one lane: the place of its mask, its operations, and where each operation of the core stands
pub record Body : Type 0 where
  pub mask : ℕ
  pub ops : List PlainOp
  pub places : List ℕ

-- where each operation that stands already does
abbrev pub standing : List Bool → (places : List ℕ) → List (Option ℕ)
standing (true ∷ shared) (p ∷ places) = Some p ∷ standing shared places
standing (false ∷ shared) (p ∷ places) = None ∷ standing shared places
standing _ _ = []

abbrev pub nowhere : List PlainOp → List (Option ℕ)
nowhere ops = map (λ op. None) ops

-- the operations of a lane from a place on, after those whose places are these
abbrev pub lane_from : Within → (live at : ℕ) → (places : List ℕ) → List PlainOp → List (Option ℕ) → Body
lane_from w live at places (op ∷ ops) (Some p ∷ others) = lane_from w live at (places ++ p ∷ []) ops others
lane_from w live at places (op ∷ ops) (None ∷ others) =
    let new : List PlainOp = in_mask live at op.mem (at_places places (op_in w op)) in
    let rest : Body = lane_from w live (at + length new) (places ++ (at + length new - 1) ∷ []) ops others in
    record rest { ops = new ++ rest.ops }
lane_from w live at places _ _ = record { mask = live; ops = []; places = places }

-- by the last counter of the controller, what stands in each of its lanes, and the body
module _ (counter : ℕ) (in_lane : ℕ → Within) (body : List PlainOp) where
  abbrev pub lane_body : (lane at : ℕ) → List (Option ℕ) → Body
  lane_body l at others =
      let rest : Body = lane_from (in_lane l) at (suc at) [] body others in
      record rest { ops = live_op counter l l ∷ rest.ops }

  -- so many more lanes
  abbrev pub more_bodies : (lane more at : ℕ) → List (Option ℕ) → List Body
  more_bodies l zero at others = []
  more_bodies l (suc more) at others =
      let b : Body = lane_body l at others in
      b ∷ more_bodies (suc l) more (at + length b.ops) others

  -- by the memories that each lane has for its own
  abbrev pub lane_bodies : (own : List ℕ) → (lanes : ℕ) → List Body
  lane_bodies own lanes =
      let first : Body = lane_body 0 0 (nowhere body) in
      first ∷ more_bodies 1 (lanes - 1) (length first.ops) (standing (shared counter own body body) first.places)

abbrev pub all_ops : List Body → List PlainOp
all_ops bodies = flat_map (λ b. b.ops) bodies
