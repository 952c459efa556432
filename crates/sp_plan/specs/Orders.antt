-- The orders that the operations of an inner body keep, by their places in the body.
use Rattle.std.specs.Prelude.{ℕ, ◌-◌, nat_le, nat_lt, Bool, ◌&&◌, List, [], ◌∷◌, ◌++◌, map, length, slice_index_or, Option, Some, None, if◌then◌else◌}
use Rattle.std.specs.List.{flat_map}
use Rattle.sp_bank.specs.Banking.{Banking}
use Rattle.sp_core.specs.declared.access.Meet.{Meet}
use Rattle.sp_core.specs.declared.operation.OpKind.TheVariants.{Word}
use Rattle.sp_core.specs.Elements.{numbers_below}
use Rattle.sp_core.specs.Latency.{latency}
use Rattle.sp_core.specs.Meeting.{least_of}
use Rattle.sp_core.specs.PlainCore.{PlainOp, PlainCore}
use Rattle.sp_modulo.specs.declared.order.Order.{Order}
use Rattle.sp_plan.specs.Ports.{is_change, share_port, is_serial}
use Rattle.sp_words.specs.declared.types.Ty.TheVariants.{Bit}

abbrev pub order : (first second gap distance : ℕ) → Order
order a b gap k = record { first = a; second = b; gap = gap; distance = k }

abbrev pub no_op : PlainOp
no_op = record { kind = Word 0; ty = Bit; args = []; mem = None; mask = None }

module _ (core : PlainCore) (ops : List PlainOp) where
  abbrev pub op_at : ℕ → PlainOp
  op_at i = slice_index_or ops i no_op

  -- a use, that as a mask among them, comes when the word is there
  abbrev pub use_order : (user used : ℕ) → Order
  use_order j i = order i j (latency core (op_at i)) 0

  abbrev pub mask_orders : (user : ℕ) → Option ℕ → List Order
  mask_orders j None = []
  mask_orders j (Some i) = use_order j i ∷ []

  abbrev pub use_orders : ℕ → List Order
  use_orders j = map (use_order j) (op_at j).args ++ mask_orders j (op_at j).mask

  -- two accesses that may meet keep their order, where the body's first operation has this number: what the first one changes
  -- is there in the cycle after its own
  module _ (number : ℕ) where
    abbrev pub is_in_body : ℕ → Bool
    is_in_body n = nat_le number n && nat_lt (n - number) (length ops)

    abbrev pub change_gap : PlainOp → ℕ
    change_gap op = if is_change op.kind then 1 else 0

    abbrev pub meet_order : Meet → Order
    meet_order m = order (m.first - number) (m.second - number) (change_gap (op_at (m.first - number))) (least_of core [] m)

    abbrev pub meet_orders : Meet → List Order
    meet_orders m = if is_in_body m.first && is_in_body m.second then meet_order m ∷ [] else []

  -- the accesses to one port of a memory with a scheme have one time; those of a serial memory have different ones, in the
  -- order of the text, of which the last is less than an interval after the first
  module _ (schemes : List (Option Banking)) where
    abbrev pub same_time : (i j : ℕ) → List Order
    same_time i j = order i j 0 0 ∷ order j i 0 0 ∷ []

    abbrev pub in_turn : (i j : ℕ) → List Order
    in_turn i j = order i j 1 0 ∷ order j i 1 1 ∷ []

    abbrev pub port_orders : (second first : ℕ) → List Order
    port_orders j i =
        if share_port core (op_at i) (op_at j)
        then (if is_serial schemes (op_at i).mem then in_turn i j else same_time i j)
        else []

    abbrev pub all_port_orders : (second : ℕ) → List Order
    all_port_orders j = flat_map (port_orders j) (numbers_below j)

    abbrev pub body_orders : (number : ℕ) → List Meet → List Order
    body_orders number meets =
        flat_map use_orders (numbers_below (length ops))
        ++ (flat_map (meet_orders number) meets ++ flat_map all_port_orders (numbers_below (length ops)))
