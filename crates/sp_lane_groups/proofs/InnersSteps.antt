-- Steps in order, and what they leave.
use Rattle.std.proofs.Common.{◌≡◌, List, [], ◌∷◌, ◌++◌, map, refl, ap, subst}
use Rattle.sp_core.specs.Step.{Step, Went, went, stopped, more, pure, ◌>>=◌, in_order}
use Rattle.sp_core.specs.Store.{Store}
use Rattle.sp_lane_groups.proofs.LiveAlong.{store_of}
use Rattle.sp_lane_groups.proofs.Renewed.{bind_split, order_on, order_split, order_none}

-- steps for the elements of two lists
pub order_parts : {A B : Type 0} (step : A → Step B) (xs ys : List A) (s v : Store) (all : List B) → in_order step (xs ++ ys) s ≡ went all v
    → (bs : List B) × (u : Store) × (cs : List B) × (in_order step xs s ≡ went bs u) × (in_order step ys u ≡ went cs v)
unfolding in_order pure
order_parts step [] ys s v all e = ([], s, all, refl, e)
order_parts step (x ∷ xs) ys s v all e =
    let r = order_split step x (xs ++ ys) s v all e in
    let q = order_parts step xs ys r.1 v r.2 r.4 in
    (r.0 ∷ q.0, q.1, q.2, order_on step x xs s r.1 q.1 r.0 q.0 r.3 q.3, q.4)

-- the same after one step, and after a step that goes the same
rest_same : {A B : Type 0} (P : Step A) (R S : A → Step B) (s : Store) → ((a : A) (u : Store) → R a u ≡ S a u) → (P >>= R) s ≡ (P >>= S) s
unfolding ◌>>=◌
rest_same {A = A} {B = B} P R S s h = go (P s)
  where
    go : (r : Went A) → elim r as (λ _. Went B) [ went a u ↦ R a u | stopped ↦ stopped | more ↦ more ] ≡ elim r as (λ _. Went B) [ went a u ↦ S a u | stopped ↦ stopped | more ↦ more ]
    go (went a u) = h a u
    go stopped = refl
    go more = refl

first_same : {A B : Type 0} (P Q : Step A) (R : A → Step B) (s : Store) → P s ≡ Q s → (P >>= R) s ≡ (Q >>= R) s
unfolding ◌>>=◌
first_same {A = A} {B = B} P Q R s h = ap (λ (r : Went A). elim r as (λ _. Went B) [ went a u ↦ R a u | stopped ↦ stopped | more ↦ more ]) h

-- steps for what a function gives
pub order_mapped : {A B C : Type 0} (step : B → Step C) (f : A → B) (xs : List A) (s : Store) → in_order step (map f xs) s ≡ in_order (λ x. step (f x)) xs s
unfolding in_order
order_mapped step f [] s = refl
order_mapped step f (x ∷ xs) s =
    rest_same (step (f x)) (λ first. in_order step (map f xs) >>= (λ others. pure (first ∷ others))) (λ first. in_order (λ x. step (f x)) xs >>= (λ others. pure (first ∷ others))) s
    (λ first u. first_same (in_order step (map f xs)) (in_order (λ x. step (f x)) xs) (λ others. pure (first ∷ others)) u (order_mapped step f xs u))

-- what a step leaves where it goes on
module _ (Kept : Store → Store → Type 0) (none : (s : Store) → Kept s s) (both : (s t u : Store) → Kept s t → Kept t u → Kept s u) where
  abbrev pub Leaves : {A : Type 0} → Step A → Type 0
  Leaves {A} step = (s after : Store) (a : A) → step s ≡ went a after → Kept s after

  pub pure_leaves : {A : Type 0} (a : A) → Leaves (pure a)
  unfolding pure
  pure_leaves a s after b e = subst (Kept s) (ap (store_of s) e) (none s)

  pub bind_leaves : {A B : Type 0} (step : Step A) (rest : A → Step B) → Leaves step → ((a : A) → Leaves (rest a)) → Leaves (step >>= rest)
  bind_leaves step rest f g s after b e =
      let r = bind_split step rest s after b e in
      both s r.1 after (f s r.1 r.0 r.2) (g r.0 r.1 after b r.3)

  pub order_leaves : {A B : Type 0} (step : A → Step B) → ((a : A) → Leaves (step a)) → (xs : List A) → Leaves (in_order step xs)
  order_leaves step f [] s after all e = subst (Kept s) (order_none step s after all e).0 (none s)
  order_leaves step f (x ∷ xs) s after all e =
      let r = order_split step x xs s after all e in
      both s r.1 after (f x s r.1 r.0 r.3) (order_leaves step f xs r.1 after r.2 r.4)
