-- How often things were done in a run: one node for each run of a controller and each transfer.
use Rattle.std.specs.Prelude.{ℕ, Bool, List, [], ◌∷◌}

mutual
  pub data Shape : Type 0 where
    -- a run of a body, with the controllers and transfers in it, in order
    ran : Shapes → Shape
    -- a loop, by how many words each of its counters has, with its iterations' bodies
    looped : (counts : List ℕ) → Shapes → Shape
    -- an FSM, by how many turns it took, with their bodies
    turned : ℕ → Shapes → Shape
    -- an `if`, by whether its first block was taken, with that block's body
    branched : Bool → Shape → Shape
    -- a transfer, by how many words each of its lanes moved
    moved : (lanes : List ℕ) → Shape

  pub data Shapes : Type 0 where
    no_shape : Shapes
    more_shape : Shape → Shapes → Shapes

abbrev pub shapes : List Shape → Shapes
shapes [] = no_shape
shapes (s ∷ rest) = more_shape s (shapes rest)
