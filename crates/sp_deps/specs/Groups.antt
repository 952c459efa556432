-- Counters some groups of iterations apart, and accesses that touch one element there.
use Rattle.std.specs.Prelude.{◌≡◌, ℕ, ◌+◌, ◌*◌, ◌<◌, ◌≤◌, ◌⊎◌, true, ℤ, pos, ◌+ℤ◌, ◌≤ℤ◌, List, [], ◌∷◌, ◌++◌, length, Option, Some, IfSome}
use Rattle.std.specs.List.{All}
use Rattle.sp_affine.specs.Affine.{Affine, value_of}
use Rattle.sp_deps.specs.declared.access.Dist.{Dist}
use Rattle.sp_deps.specs.declared.access.Dist.TheVariants.{Never, AtLeast}
use Rattle.sp_deps.specs.declared.access.LoopRange.{LoopRange}
use Rattle.sp_deps.specs.Access.{PlainAccess, advance, can_meet}
use Rattle.sp_deps.specs.Classes.{Loops}
use Rattle.sp_deps.specs.Distances.{all_common}

-- a value for each counter, within its range where that is known
abbrev pub HasValue : LoopRange → ℤ → Type 0
HasValue l x = IfSome l.from (λ r. (r.0 ≤ℤ x) × (x ≤ℤ r.1))

abbrev pub HaveValues : List LoopRange → List ℤ → Type 0
HaveValues [] [] = Unit {0}
HaveValues [] (x ∷ xs) = ⊥
HaveValues (l ∷ loops) [] = ⊥
HaveValues (l ∷ loops) (x ∷ xs) = HasValue l x × HaveValues loops xs

-- a counter has gone on by some steps
abbrev pub IsLater : LoopRange → (x y : ℤ) → Type 0
IsLater l x y = (steps : ℕ) × (1 ≤ steps) × (y ≡ x +ℤ pos (steps * l.by))

-- from the values xs to the values ys there are k groups: the last counter alone goes on, as far in each group as it advances; or an earlier one goes on, which takes a group or more, and those after it are what they are
abbrev pub AreGroupsOn : List LoopRange → (xs ys : List ℤ) → ℕ → Type 0
AreGroupsOn [] [] [] k = k ≡ 0
AreGroupsOn (l ∷ []) (x ∷ []) (y ∷ []) k = y ≡ x +ℤ pos (k * advance l)
AreGroupsOn (l ∷ m ∷ loops) (x ∷ xs) (y ∷ ys) k = ((x ≡ y) × AreGroupsOn (m ∷ loops) xs ys k) ⊎ (IsLater l x y × (1 ≤ k))
AreGroupsOn _ _ _ k = ⊥

-- the forms have the same values, index by index
abbrev pub AreOneElement : List Affine → List Affine → (xs ys : List ℤ) → (symbols : ℕ → ℤ) → Type 0
AreOneElement (f ∷ fs) (g ∷ gs) xs ys symbols = (value_of f xs symbols ≡ value_of g ys symbols) × AreOneElement fs gs xs ys symbols
AreOneElement _ _ xs ys symbols = Unit {0}

-- where the indices of both are known, they are one element
abbrev pub TouchOne : Option (List Affine) → Option (List Affine) → (xs ys : List ℤ) → (symbols : ℕ → ℤ) → Type 0
TouchOne (Some fs) (Some gs) xs ys symbols = AreOneElement fs gs xs ys symbols
TouchOne _ _ xs ys symbols = Unit {0}

-- the forms have a coefficient for each of so many counters
abbrev pub HaveLength : ℕ → Option (List Affine) → Type 0
HaveLength n forms = IfSome forms (All (λ f. length f.coefs ≡ n))

-- each counter goes on
abbrev pub GoOn : List LoopRange → Type 0
GoOn loops = All (λ l. 1 ≤ l.by) loops

-- a distance that isn't greater
abbrev pub IsWithinDistance : ℕ → Dist → Type 0
IsWithinDistance k Never = ⊥
IsWithinDistance k (AtLeast d) = d ≤ k

-- two accesses, of which one writes, touch one element k groups apart: there are values of the counters outside, of those of the loop and of each access's own, and of the symbols, at which all indices that are known are equal
pub record AreTouching (loops : Loops) (a b : PlainAccess) (k : ℕ) : Type 0 where
  pub outer : List ℤ
  pub xs : List ℤ
  pub ys : List ℤ
  pub us : List ℤ
  pub vs : List ℤ
  pub symbols : ℕ → ℤ
  pub can : can_meet a b ≡ true
  pub goes_on : GoOn loops.common
  pub first_length : HaveLength (length outer + (length loops.common + length loops.first)) a.forms
  pub second_length : HaveLength (length outer + (length loops.common + length loops.second)) b.forms
  pub first_values : HaveValues loops.common xs
  pub second_values : HaveValues loops.common ys
  pub first_own : HaveValues loops.first us
  pub second_own : HaveValues loops.second vs
  pub groups : AreGroupsOn loops.common xs ys k
  pub one : TouchOne a.forms b.forms (outer ++ (xs ++ us)) (outer ++ (ys ++ vs)) symbols

-- the distance of two accesses is no greater than that at which they touch one element
abbrev pub IsSound : PlainAccess → PlainAccess → List LoopRange → Dist → Type 0
IsSound a b loops d = (k : ℕ) → (0 < length loops → 1 ≤ k) → AreTouching (all_common loops) a b k → IsWithinDistance k d
