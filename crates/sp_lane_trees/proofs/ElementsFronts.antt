-- What stands before the combinations of elements, in each lane and at each element.
use Rattle.std.proofs.Common.{◌≡◌, ℕ, suc, true, ℤ, List, [], ◌∷◌}
use Rattle.sp_core.specs.Declarations.{is_among}
use Rattle.sp_core.specs.History.{Entry}
use Rattle.sp_core.specs.Operations.{operations}
use Rattle.sp_core.specs.PlainCore.{PlainOp, PlainCounter, PlainCore}
use Rattle.sp_core.specs.Scope.{Scope}
use Rattle.sp_core.specs.Step.{went}
use Rattle.sp_core.specs.Store.{Store}
use Rattle.sp_fitting.specs.Fitting.{MasksAreBits}
use Rattle.sp_lanes.specs.Order.{memory_order}
use Rattle.sp_lanes.specs.Within.{Within, in_lane}
use Rattle.sp_lane_trees.specs.ElementsCells.{firsts, others}
use Rattle.sp_lane_trees.proofs.ElementsValues.{in_element}

module _ (core : PlainCore) (w : Within) (counters : List PlainCounter) (owned : List ℕ) (plain : ℕ → Scope) (c : ℕ) (ds : List ℕ) (before : List PlainOp) (t : Store) where
  -- at an element, where the lanes hold in a lane's copies what a store of the core did
  pub record FrontRan (l : ℕ) (v : List ℤ) (f : List Entry) : Type 0 where
    pub store : Store
    pub after : Store
    pub has : (m : ℕ) → is_among m owned ≡ true → t ((in_lane (memory_order core) counters owned w l).number m) ≡ store m
    pub ran : operations core (in_element (plain l) c ds v) before store ≡ went f after
    pub bits : MasksAreBits before f

  -- at all elements of a lane, in all lanes from one on, and in these at one element
  abbrev pub FrontsRan : (l : ℕ) → List (List ℤ) → List (List Entry) → Type 0
  FrontsRan l [] [] = Unit {0}
  FrontsRan l (v ∷ vs) (f ∷ fs) = FrontRan l v f × FrontsRan l vs fs
  FrontsRan l vs fs = ⊥

  abbrev pub LanesRan : (vs : List (List ℤ)) → (l : ℕ) → List (List (List Entry)) → Type 0
  LanesRan vs l [] = Unit {0}
  LanesRan vs l (fs ∷ rest) = FrontsRan l vs fs × LanesRan vs (suc l) rest

  abbrev pub RanAt : (v : List ℤ) → (l : ℕ) → List (List Entry) → Type 0
  RanAt v l [] = Unit {0}
  RanAt v l (f ∷ fs) = FrontRan l v f × RanAt v (suc l) fs

  pub firsts_ran : (v : List ℤ) (vs : List (List ℤ)) (l : ℕ) (lanes : List (List (List Entry))) → LanesRan (v ∷ vs) l lanes → RanAt v l (firsts [] lanes)
  firsts_ran v vs l [] h = tt
  firsts_ran v vs l ([] ∷ lanes) h = absurd h.0
  firsts_ran v vs l ((f ∷ fs) ∷ lanes) h = (h.0.0, firsts_ran v vs (suc l) lanes h.1)

  pub others_ran : (v : List ℤ) (vs : List (List ℤ)) (l : ℕ) (lanes : List (List (List Entry))) → LanesRan (v ∷ vs) l lanes → LanesRan vs l (others lanes)
  others_ran v vs l [] h = tt
  others_ran v vs l ([] ∷ lanes) h = absurd h.0
  others_ran v vs l ((f ∷ fs) ∷ lanes) h = (h.0.1, others_ran v vs (suc l) lanes h.1)
