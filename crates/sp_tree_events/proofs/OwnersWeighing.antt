-- A weight of 1 at a deed of an owner in a cycle at a copy, and of 0 at all else.
use Rattle.std.proofs.Common.{◌≡◌, ℕ, zero, suc, ◌+◌, ◌≤◌, Bool, true, false, ◌&&◌, if◌then◌else◌, List, [], ◌∷◌, nat_eq, sum_by, refl, sym, ap, subst, ◌∙◌, arith}
use Rattle.std.proofs.lemmas.Bool.{eqb-true, eq-eqb, and_parts, and_from, true≢false}
use Rattle.std.proofs.lemmas.List.Sums.{sum_by-append}
use Rattle.sp_core.specs.Declarations.{is_among}
use Rattle.sp_core.specs.Events.{Moment, touches, slices, renews, keeps}
use Rattle.sp_time.specs.Lists.{Each}
use Rattle.sp_machine.specs.Stamps.{Stamped}
use Rattle.sp_tree_events.specs.OwnersOwning.{Deed, renewed, kept, moment_of, deed_mem, Shows, IsOwned}

-- what is done to which memory
is_deed : Deed → Moment → Bool
is_deed (renewed m) (renews n) = nat_eq n m
is_deed (renewed m) (keeps n v) = false
is_deed (renewed m) (touches e) = false
is_deed (renewed m) (slices x) = false
is_deed (kept m w) (keeps n v) = nat_eq n m && nat_eq v w
is_deed (kept m w) (renews n) = false
is_deed (kept m w) (touches e) = false
is_deed (kept m w) (slices x) = false

deed_is : (d : Deed) (x : Moment) → is_deed d x ≡ true → x ≡ moment_of d
unfolding is_deed
deed_is (renewed m) (renews n) h = ap renews (eqb-true n m h)
deed_is (renewed m) (keeps n v) h = absurd (true≢false (sym h))
deed_is (renewed m) (touches e) h = absurd (true≢false (sym h))
deed_is (renewed m) (slices x) h = absurd (true≢false (sym h))
deed_is (kept m w) (keeps n v) h =
    let p = and_parts (nat_eq n m) (nat_eq v w) h in
    let a : n ≡ m = eqb-true n m p.0 in
    let b : v ≡ w = eqb-true v w p.1 in
    λ i. keeps (a i) (b i)
deed_is (kept m w) (renews n) h = absurd (true≢false (sym h))
deed_is (kept m w) (touches e) h = absurd (true≢false (sym h))
deed_is (kept m w) (slices x) h = absurd (true≢false (sym h))

deed_itself : (d : Deed) → is_deed d (moment_of d) ≡ true
unfolding is_deed
deed_itself (renewed m) = eq-eqb m m refl
deed_itself (kept m w) = and_from (nat_eq m m) (nat_eq w w) (eq-eqb m m refl) (eq-eqb w w refl)

-- one to a memory that isn't among these is none of theirs
deed_apart : (owned : List ℕ) (d : Deed) (x : Moment) → IsOwned owned x → is_among (deed_mem d) owned ≡ false → is_deed d x ≡ false
deed_apart owned d x is out = never (is_deed d x) (λ h. owns d (subst (IsOwned owned) (deed_is d x h) is) out)
  where
    never : (b : Bool) → (b ≡ true → ⊥) → b ≡ false
    never true h = absurd (h refl)
    never false h = refl

    owns : (d : Deed) → IsOwned owned (moment_of d) → is_among (deed_mem d) owned ≡ false → ⊥
    owns (renewed m) a b = true≢false (sym a ∙ b)
    owns (kept m w) a b = true≢false (sym a ∙ b)

module _ (t c : ℕ) (d : Deed) where
  is_same : Stamped → Bool
  is_same x = nat_eq x.cycle t && (nat_eq x.copy c && is_deed d x.moment)

  pub weight : Stamped → ℕ
  weight x = if is_same x then 1 else 0

  same_is : (x : Stamped) → is_same x ≡ true → x ≡ record { cycle = t; copy = c; moment = moment_of d }
  unfolding is_same
  same_is x h =
      let p = and_parts _ _ h in
      let q = and_parts _ _ p.1 in
      let a : x.cycle ≡ t = eqb-true x.cycle t p.0 in
      let b : x.copy ≡ c = eqb-true x.copy c q.0 in
      let m : x.moment ≡ moment_of d = deed_is d x.moment q.1 in
      λ i. record { cycle = a i; copy = b i; moment = m i }

  same_itself : is_same (record { cycle = t; copy = c; moment = moment_of d }) ≡ true
  unfolding is_same
  same_itself = and_from _ _ (eq-eqb t t refl) (and_from _ _ (eq-eqb c c refl) (deed_itself d))

  weight_on : (x : Stamped) → is_same x ≡ true → weight x ≡ 1
  unfolding weight
  weight_on x h = ap (λ b. if b then 1 else 0) h

  weight_off : (x : Stamped) → is_same x ≡ false → weight x ≡ 0
  unfolding weight
  weight_off x h = ap (λ b. if b then 1 else 0) h

  sum_first : (x : Stamped) (xs : List Stamped) → sum_by weight (x ∷ xs) ≡ weight x + sum_by weight xs
  sum_first x xs = sum_by-append weight (x ∷ []) xs ∙ ap (λ n. n + sum_by weight xs) {x = 0 + weight x} {y = weight x} (omega arith)

  pub some_weigh : (xs : List Stamped) → Shows xs t c d → 1 ≤ sum_by weight xs
  some_weigh [] (k, l, q) = absurd (omega (arith, l))
  some_weigh (x ∷ xs) (zero, l, q) =
      let w = weight_on x (subst (λ y. is_same y ≡ true) (sym q) same_itself) in
      let s = sum_first x xs in
      omega (arith, w, s)
  some_weigh (x ∷ xs) (suc k, l, q) =
      let h = some_weigh xs (k, omega (arith, l), q) in
      let s = sum_first x xs in
      omega (arith, h, s)

  pub weigh_some : (xs : List Stamped) → 1 ≤ sum_by weight xs → Shows xs t c d
  weigh_some [] h = absurd (omega (arith, h))
  weigh_some (x ∷ xs) h = by (is_same x) refl (weigh_some xs)
    where
      by : (b : Bool) → is_same x ≡ b → (1 ≤ sum_by weight xs → Shows xs t c d) → Shows (x ∷ xs) t c d
      by true q rest = (zero, omega arith, same_is x q)
      by false q rest =
          let w = weight_off x q in
          let s = sum_first x xs in
          let r = rest (omega (arith, h, w, s)) in
          (suc r.0, (let l = r.1 in omega (arith, l)), r.2)

  false_last : (a b z : Bool) → z ≡ false → (a && (b && z)) ≡ false
  false_last true true z h = h
  false_last true false z h = refl
  false_last false b z h = refl

  -- what is done to memories of others weighs nothing
  pub none_weigh : (owned : List ℕ) → is_among (deed_mem d) owned ≡ false → (xs : List Stamped) → Each (λ x. IsOwned owned x.moment) xs → sum_by weight xs ≡ 0
  unfolding is_same
  none_weigh owned out [] h = refl
  none_weigh owned out (x ∷ xs) h =
      let w = weight_off x (false_last (nat_eq x.cycle t) (nat_eq x.copy c) (is_deed d x.moment) (deed_apart owned d x.moment h.0 out)) in
      let s = sum_first x xs in
      let r = none_weigh owned out xs h.1 in
      omega (arith, w, s, r)
