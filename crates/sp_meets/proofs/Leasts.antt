-- The least numbers that pass tests.
use Rattle.std.proofs.Common.{◌≡◌, ℕ, ◌<◌, Bool, true, false, List, [], ◌∷◌, ◌++◌, refl, ap, sym, ◌∙◌, arith}
use Rattle.std.specs.Prelude.{◌||◌, Option, Some, None, nat_lt, if◌then◌else◌}
use Rattle.std.specs.List.{list_any}
use Rattle.std.proofs.lemmas.Bool.Decides.{Decides-ltb}
use Rattle.std.proofs.lemmas.List.Folds.{list_any-append}
use Rattle.sp_meets.specs.Between.{parts_meet_at}
use Rattle.sp_meets.specs.Entries.{some_meet_at, sooner}
use Rattle.sp_meets.specs.Meets.{IsLeastOf}
use Rattle.sp_meets.specs.Sites.{PlainPart, PlainView}

pub least_same : (f g : ℕ → Bool) (d : Option ℕ) → ((k : ℕ) → f k ≡ g k) → IsLeastOf f d → IsLeastOf g d
least_same f g None e h = λ k. sym (e k) ∙ h k
least_same f g (Some m) e h = (sym (e m) ∙ h.0, λ j less. sym (e j) ∙ h.1 j less)

either_false : (a b : Bool) → a ≡ false → b ≡ false → (a || b) ≡ false
either_false a b e f = ap (λ x. x || b) e ∙ f

left_true : (a b : Bool) → a ≡ true → (a || b) ≡ true
left_true a b e = ap (λ x. x || b) e

right_true : (a b : Bool) → b ≡ true → (a || b) ≡ true
right_true true b e = refl
right_true false b e = e

pub least_either : (f g : ℕ → Bool) (d e : Option ℕ) → IsLeastOf f d → IsLeastOf g e → IsLeastOf (λ k. f k || g k) (sooner d e)
least_either f g None None h i = λ k. either_false (f k) (g k) (h k) (i k)
least_either f g None (Some n) h i = (right_true (f n) (g n) i.0, λ j less. either_false (f j) (g j) (h j) (i.1 j less))
least_either f g (Some m) None h i = (left_true (f m) (g m) h.0, λ j less. either_false (f j) (g j) (h.1 j less) (i j))
least_either f g (Some m) (Some n) h i = by_test (nat_lt n m) refl
  where
    below : (j m n : ℕ) → j < n → n < m → j < m
    below j m n a b = omega arith

    reach : (j m n : ℕ) → j < m → (n < m → ⊥) → j < n
    reach j m n a b = grind arith

    by_test : (b : Bool) → nat_lt n m ≡ b → IsLeastOf (λ k. f k || g k) (Some (if b then n else m))
    by_test true e =
        let less = (Decides-ltb n m).0 e in
        (right_true (f n) (g n) i.0, λ j under. either_false (f j) (g j) (h.1 j (below j m n under less)) (i.1 j under))
    by_test false e =
        let not_so : n < m → ⊥ = λ l. clash (nat_lt n m) ((Decides-ltb n m).1 l) e in
        (left_true (f m) (g m) h.0, λ j under. either_false (f j) (g j) (h.1 j under) (i.1 j (reach j m n under not_so)))
      where
        clash : (b : Bool) → b ≡ true → b ≡ false → ⊥
        clash b e f = cc

-- several parts and several others
module _ (chip : ℕ) (v w : PlainView) (before : Bool) where
  either_any : (f g : PlainPart → Bool) (ps : List PlainPart) → list_any (λ p. f p || g p) ps ≡ (list_any f ps || list_any g ps)
  either_any f g [] = refl
  either_any f g (p ∷ ps) = ap (λ x. (f p || g p) || x) (either_any f g ps) ∙ turned (f p) (g p) (list_any f ps) (list_any g ps)
    where
      turned : (a b c d : Bool) → ((a || b) || (c || d)) ≡ ((a || c) || (b || d))
      turned true b c d = refl
      turned false true true d = refl
      turned false true false d = refl
      turned false false true d = refl
      turned false false false d = refl

  pub none_meet : (ps : List PlainPart) (k : ℕ) → some_meet_at chip v w before ps [] k ≡ false
  none_meet [] k = refl
  none_meet (p ∷ ps) k = none_meet ps k

  pub others_append : (ps qs rs : List PlainPart) (k : ℕ) →
      some_meet_at chip v w before ps (qs ++ rs) k ≡ (some_meet_at chip v w before ps qs k || some_meet_at chip v w before ps rs k)
  others_append ps qs rs k =
      same_any ps ∙ either_any (λ p. list_any (λ q. parts_meet_at chip v w before p q k) qs) (λ p. list_any (λ q. parts_meet_at chip v w before p q k) rs) ps
    where
      same_any : (ps : List PlainPart) → list_any (λ p. list_any (λ q. parts_meet_at chip v w before p q k) (qs ++ rs)) ps
          ≡ list_any (λ p. list_any (λ q. parts_meet_at chip v w before p q k) qs || list_any (λ q. parts_meet_at chip v w before p q k) rs) ps
      same_any [] = refl
      same_any (p ∷ ps) =
          ap (λ x. x || list_any (λ p. list_any (λ q. parts_meet_at chip v w before p q k) (qs ++ rs)) ps) (list_any-append (λ q. parts_meet_at chip v w before p q k) qs rs)
          ∙ ap (λ x. (list_any (λ q. parts_meet_at chip v w before p q k) qs || list_any (λ q. parts_meet_at chip v w before p q k) rs) || x) (same_any ps)

  pub firsts_append : (ps qs rs : List PlainPart) (k : ℕ) →
      some_meet_at chip v w before (ps ++ qs) rs k ≡ (some_meet_at chip v w before ps rs k || some_meet_at chip v w before qs rs k)
  firsts_append ps qs rs k = list_any-append (λ p. list_any (λ q. parts_meet_at chip v w before p q k) rs) ps qs

  pub least_of_others : (ps qs rs : List PlainPart) (d e : Option ℕ) → IsLeastOf (some_meet_at chip v w before ps qs) d → IsLeastOf (some_meet_at chip v w before ps rs) e →
      IsLeastOf (some_meet_at chip v w before ps (qs ++ rs)) (sooner d e)
  least_of_others ps qs rs d e h i =
      least_same _ _ (sooner d e) (λ k. sym (others_append ps qs rs k)) (least_either (some_meet_at chip v w before ps qs) (some_meet_at chip v w before ps rs) d e h i)

  pub least_of_firsts : (ps qs rs : List PlainPart) (d e : Option ℕ) → IsLeastOf (some_meet_at chip v w before ps rs) d → IsLeastOf (some_meet_at chip v w before qs rs) e →
      IsLeastOf (some_meet_at chip v w before (ps ++ qs) rs) (sooner d e)
  least_of_firsts ps qs rs d e h i =
      least_same _ _ (sooner d e) (λ k. sym (firsts_append ps qs rs k)) (least_either (some_meet_at chip v w before ps rs) (some_meet_at chip v w before qs rs) d e h i)
