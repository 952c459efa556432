-- Where the words of lanes stand after all of them.
use Rattle.std.specs.Prelude.{◌≡◌, ◌<◌, ℕ, suc, Bool, true, false, List, [], ◌∷◌, length, slice_index}
use Rattle.sp_core.specs.History.{Entry, word_at}
use Rattle.sp_lanes.specs.Bodies.{Body}

-- the word of the mask of a body
abbrev pub MaskIs : List Entry → Body → ℕ → Type 0
MaskIs es b w = (b.mask < length es) × (word_at es b.mask ≡ w)

-- the words of a list of operations stand at these places
abbrev pub StandAt : List Entry → (places : List ℕ) → (iteration : List Entry) → Type 0
StandAt es places g = (length places ≡ length g) × ((k : ℕ) → k < length g → (slice_index places k < length es) × (word_at es (slice_index places k) ≡ word_at g k))

-- the bodies of lanes, from a lane on: first those that have an iteration, whose words stand at the places of their bodies, and
-- then the others
abbrev pub LanesStand : (live : ℕ → Bool) → List Entry → (lane : ℕ) → List Body → (iterations : List (List Entry)) → Type 0
LanesStand live es l [] [] = Unit {0}
LanesStand live es l [] (g ∷ groups) = ⊥
LanesStand live es l (b ∷ bodies) (g ∷ groups) = (live l ≡ true) × MaskIs es b 1 × StandAt es b.places g × LanesStand live es (suc l) bodies groups
LanesStand live es l (b ∷ bodies) [] = (live l ≡ false) × MaskIs es b 0 × LanesStand live es (suc l) bodies []
