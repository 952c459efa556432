-- The differences of a group, access by access.
use Rattle.std.proofs.Common.{◌≡◌, ℕ, ◌+◌, ◌<◌, ◌≤◌, pos, List, [], ◌∷◌, ◌++◌, length, get_or, take, ap, sym, ◌∙◌, arith, ◌≢◌, inl, inr}
use Rattle.std.proofs.lemmas.List.{take_more}
use Rattle.std.proofs.lemmas.List.FromFn.{get_or-map-range_with_len, length-map-range_with_len}
use Rattle.std.proofs.lemmas.Bool.Decides.{eqb_tells, leb_tells}
use Rattle.sp_affine.specs.Affine.{Affine}
use Rattle.sp_bank.specs.Banking.{Banking}
use Rattle.sp_bank.specs.Separation.{differences_of, residue_of, constants, access, access_count, IsFirstClash}

pub length-differences_of : (b : Banking) (group : List Affine) → length (differences_of b group) ≡ access_count (length b.alpha) group
length-differences_of b group =
    length-map-range_with_len (λ u. residue_of b (constants (access (length b.alpha) group u))) 0 (access_count (length b.alpha) group)

pub get_or-differences_of : (b : Banking) (group : List Affine) (u : ℕ) → u < access_count (length b.alpha) group →
    get_or (differences_of b group) u (pos 0) ≡ residue_of b (constants (access (length b.alpha) group u))
get_or-differences_of b group u h =
    get_or-map-range_with_len (λ u. residue_of b (constants (access (length b.alpha) group u))) 0 (access_count (length b.alpha) group) u u (pos 0) h (omega arith)

pub take-differences_of : (b : Banking) (group : List Affine) (u : ℕ) → u < access_count (length b.alpha) group →
    take (u + 1) (differences_of b group) ≡ take u (differences_of b group) ++ residue_of b (constants (access (length b.alpha) group u)) ∷ []
take-differences_of b group u h =
    take_more (differences_of b group) u (pos 0) (omega (arith, h, length-differences_of b group))
    ∙ ap (λ z. take u (differences_of b group) ++ z ∷ []) (get_or-differences_of b group u h)

-- there is one first clash
pub first_clash_unique : (b : Banking) (group : List Affine) (u v u' v' : ℕ) → IsFirstClash b group u v → IsFirstClash b group u' v' → (u ≡ u') × (v ≡ v')
first_clash_unique b group u v u' v' f g = elim (eqb_tells u u') [
  | inl same ↦ elim (eqb_tells v v') [
    | inl equal ↦ (same.1, equal.1)
    | inr apart ↦ elim (leb_tells v v') [
      | inl le ↦ absurd (f.clash (g.least u v (omega (arith, f.ordered, f.inside)) f.inside (inr (same.1, less v v' le.1 apart.1))))
      | inr gt ↦ absurd (g.clash (f.least u' v' (omega (arith, g.ordered, g.inside)) g.inside (inr (sym same.1, gt.1))))
    ]
  ]
  | inr apart ↦ elim (leb_tells u u') [
    | inl le ↦ absurd (f.clash (g.least u v (omega (arith, f.ordered, f.inside)) f.inside (inl (less u u' le.1 apart.1))))
    | inr gt ↦ absurd (g.clash (f.least u' v' (omega (arith, g.ordered, g.inside)) g.inside (inl gt.1)))
  ]
]
  where
    less : (i j : ℕ) → i ≤ j → i ≢ j → i < j
    less i j h k = omega arith
