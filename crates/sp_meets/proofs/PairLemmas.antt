-- From the distance of two parts of one access each to the least number of groups at which they meet.
use Rattle.std.proofs.Common.{◌≡◌, ℕ, zero, suc, ◌+◌, ◌-◌, ◌<◌, ◌≤◌, Bool, true, false, not, ℤ, List, [], ◌∷◌, ◌++◌, length, map, take, drop, get_or, refl, ap, sym, ◌∙◌, subst, arith}
use Rattle.std.specs.Prelude.{◌||◌, ◌&&◌, ◌==◌, Option, Some, None, nat_le, nat_lt, Result, IfOk, flat_map, if◌then◌else◌}
use Rattle.std.specs.Bool.{Decides}
use Rattle.std.proofs.lemmas.Bool.{le-leb, leb-true}
use Rattle.std.proofs.lemmas.Grind.{flat_map-append}
use Rattle.std.proofs.lemmas.List.{length-take-le, take_more, take_all}
use Rattle.std.proofs.lemmas.Result.{IfOk-weaker}
use Rattle.sp_affine.specs.Affine.{Affine}
use Rattle.sp_affine.specs.Equality.{Decides-linear_parts_equal}
use Rattle.sp_deps.specs.declared.access.Access.{Access}
use Rattle.sp_deps.specs.declared.access.Dist.{Dist}
use Rattle.sp_deps.specs.declared.access.Dist.TheVariants.{Never, AtLeast}
use Rattle.sp_deps.specs.declared.access.Footprint.{Footprint}
use Rattle.sp_deps.specs.declared.access.LoopRange.{LoopRange}
use Rattle.sp_deps.specs.Access.{plain_access, can_meet}
use Rattle.sp_deps.specs.declared.class.Class.TheVariants.{Same}
use Rattle.sp_deps.specs.Classes.{Loops, may_meet}
use Rattle.sp_deps.specs.Distances.{IsLeast, IsLeastUpTo, AreParallel, ArePresentAndParallel, earlier_may_meet, steps_may_meet, IsDistanceOver}
use Rattle.sp_deps.specs.Stages.{loops_between, plain_accesses, stages_meet, IsFootprint}
use Rattle.sp_core.specs.Declarations.{is_among}
use Rattle.sp_meets.specs.Between.{are_parallel, are_parallel_forms, may_meet_on, loops_of_parts, share_port, meet_in_group, meet_on, meet_in, parts_meet_at}
use Rattle.sp_meets.specs.Entries.{IsLeastFrom, IsPart, some_meet_at, groups_of, sooner, IsSameRange, IsSameLoop, AreSameLoops}
use Rattle.sp_meets.specs.Meets.{IsLeastOf}
use Rattle.sp_meets.specs.Plain.{plain_parts}
use Rattle.sp_meets.specs.Sites.{PlainPart, PlainView}
use Rattle.sp_meets.specs.Steps.{IsOne, IsDistanceOf, loops_of, parts_meet}
use Rattle.sp_meets.proofs.Leasts.{least_same, least_of_others, least_of_firsts}

forms_decide : (fs gs : List Affine) → Decides (are_parallel_forms fs gs) (AreParallel fs gs)
forms_decide [] gs = (λ e. tt, λ h. refl)
forms_decide (f ∷ fs) [] = (λ e. tt, λ h. refl)
forms_decide (f ∷ fs) (g ∷ gs) = both _ _ (Decides-linear_parts_equal f g) (forms_decide fs gs)
  where
    both : {P Q : Type 0} (a b : Bool) → Decides a P → Decides b Q → Decides (a && b) (P × Q)
    both true b d e = (λ h. (d.0 refl, e.0 h), λ h. e.1 h.1)
    both false b d e = (λ h. absurd (no h), λ h. d.1 h.0)
      where
        no : false ≡ true → ⊥
        no e = cc

parallel_decides : (first second : Option (List Affine)) → Decides (are_parallel first second) (ArePresentAndParallel first second)
parallel_decides None second = (λ h. absurd (no h), λ h. absurd h)
  where
    no : false ≡ true → ⊥
    no e = cc
parallel_decides (Some fs) None = (λ h. absurd (no h), λ h. absurd h)
  where
    no : false ≡ true → ⊥
    no e = cc
parallel_decides (Some fs) (Some gs) = forms_decide fs gs

clash : (b : Bool) → b ≡ true → b ≡ false → ⊥
clash b e f = cc

module _ (loops : Loops) (first second : Option (List Affine)) where
  -- an earlier counter may go on
  at_once : (d : Dist) → earlier_may_meet loops first second (length loops.common - 1) ≡ true → d ≡ AtLeast 1 → IsLeastFrom 1 (may_meet_on loops first second) (groups_of d)
  at_once d e is =
      let P : Dist → Type 0 = λ x. IsLeastFrom 1 (may_meet_on loops first second) (groups_of x) in
      subst P (sym is) (omega arith, ap (λ x. x || (if are_parallel first second || nat_le 1 64 then steps_may_meet loops first second 1 else true)) e, λ j some less. absurd (omega (arith, some, less)))

  on_is : (t : ℕ) (b : Bool) → earlier_may_meet loops first second (length loops.common - 1) ≡ false → (are_parallel first second || nat_le t 64) ≡ b → may_meet_on loops first second t ≡ (if b then steps_may_meet loops first second t else true)
  on_is t b e f =
      ap (λ x. x || (if are_parallel first second || nat_le t 64 then steps_may_meet loops first second t else true)) e
      ∙ ap (λ x. if x then steps_may_meet loops first second t else true) f

  by_parallel : (d : Dist) → earlier_may_meet loops first second (length loops.common - 1) ≡ false → are_parallel first second ≡ true → IsLeast (steps_may_meet loops first second) d →
      IsLeastFrom 1 (may_meet_on loops first second) (groups_of d)
  by_parallel Never e p h = λ k some. on_is k true e (ap (λ x. x || nat_le k 64) p) ∙ h k some
  by_parallel (AtLeast n) e p h =
      (h.0, on_is n true e (ap (λ x. x || nat_le n 64) p) ∙ h.1, λ j some less. on_is j true e (ap (λ x. x || nat_le j 64) p) ∙ h.2 j some less)

  by_slanted : (d : Dist) → earlier_may_meet loops first second (length loops.common - 1) ≡ false → are_parallel first second ≡ false → IsLeastUpTo 64 (steps_may_meet loops first second) d →
      IsLeastFrom 1 (may_meet_on loops first second) (groups_of d)
  by_slanted Never e p h = absurd h
  by_slanted (AtLeast n) e p h =
      (h.0, by_test (nat_le n 64) refl, λ j some less. on_is j true e (ap (λ x. x || nat_le j 64) p ∙ le-leb j 64 (under j n less h.1)) ∙ h.3 j some less)
    where
      under : (j n : ℕ) → j < n → n ≤ 64 + 1 → j ≤ 64
      under j n less few = omega arith

      by_test : (b : Bool) → nat_le n 64 ≡ b → may_meet_on loops first second n ≡ true
      by_test true f = on_is n true e (ap (λ x. x || nat_le n 64) p ∙ f) ∙ h.2 (leb-true n 64 f)
      by_test false f = on_is n false e (ap (λ x. x || nat_le n 64) p ∙ f)

  pub distance_is_least : (d : Dist) → 0 < length loops.common → IsDistanceOver loops first second (length loops.common) d → IsLeastFrom 1 (may_meet_on loops first second) (groups_of d)
  distance_is_least d some is = by_earlier _ refl
    where
      by_earlier : (b : Bool) → earlier_may_meet loops first second (length loops.common - 1) ≡ b → IsLeastFrom 1 (may_meet_on loops first second) (groups_of d)
      by_earlier true e = at_once d e (is.by_earlier some e)
      by_earlier false e = by_linear _ refl
        where
          by_linear : (b : Bool) → are_parallel first second ≡ b → IsLeastFrom 1 (may_meet_on loops first second) (groups_of d)
          by_linear true p = by_parallel d e p (is.parallel some e ((parallel_decides first second).0 p))
          by_linear false p = by_slanted d e p (is.slanted some e (λ h. clash _ ((parallel_decides first second).1 h) p))

-- one access
two_items : {A : Type 0} (a b : A) (xs : List A) (x : A) → a ∷ b ∷ xs ≡ x ∷ [] → ⊥
two_items a b xs x e = cc

no_item : {A : Type 0} (x : A) → [] ≡ x ∷ [] → ⊥
no_item x e = cc

same_item : {A : Type 0} (a x : A) → a ∷ [] ≡ x ∷ [] → a ≡ x
same_item a x e = cc

one_item : (common own : List LoopRange) (xs : List Access) (x : PlainPart) → map (λ (a : Access). record { access = plain_access a; common = common; own = own }) xs ≡ x ∷ [] →
    (map plain_access xs ≡ x.access ∷ []) × (common ≡ x.common) × (own ≡ x.own)
one_item common own [] x e = absurd (no_item x e)
one_item common own (a ∷ b ∷ xs) x e = absurd (two_items _ _ _ x e)
one_item common own (a ∷ []) x e =
    (ap (λ (z : PlainPart). z.access ∷ []) (same_item _ x e), ap (λ (z : PlainPart). z.common) (same_item _ x e), ap (λ (z : PlainPart). z.own) (same_item _ x e))

pub part_is_one : (p : Footprint) (x : PlainPart) → IsPart p x → IsOne p x.access
part_is_one p x e = (one_item (take p.common p.loops.items) (drop p.common p.loops.items) p.accesses.items x e).0

pub part_loops : (p q : Footprint) (x y : PlainPart) → IsPart p x → IsPart q y → loops_between p q ≡ loops_of x.common x.own y.own
part_loops p q x y e f =
    let a = one_item (take p.common p.loops.items) (drop p.common p.loops.items) p.accesses.items x e in
    let b = one_item (take q.common q.loops.items) (drop q.common q.loops.items) q.accesses.items y f in
    ap (λ z. loops_of z (drop p.common p.loops.items) (drop q.common q.loops.items)) a.1
    ∙ ap (λ z. loops_of x.common z (drop q.common q.loops.items)) a.2
    ∙ ap (λ z. loops_of x.common x.own z) b.2

-- two accesses that can meet, as parts of one body
module _ (chip : ℕ) (v w : PlainView) (before : Bool) (p q : PlainPart) where
  pub in_group : meet_in_group chip v w before p q ≡ true → IsLeastOf (meet_in chip v w before p q) (Some 0)
  in_group e = (e, λ j less. absurd (omega (arith, less)))

  pub no_more : meet_in_group chip v w before p q ≡ false → (not (length p.common == 0) && not (is_among p.access.mem v.copied)) ≡ false → IsLeastOf (meet_in chip v w before p q) None
  no_more e f zero = e
  no_more e f (suc k) = ap (λ x. x && (share_port chip v w before p q || may_meet_on (loops_of_parts chip v w before p q) p.access.forms q.access.forms (suc k))) f

  pub later : meet_in_group chip v w before p q ≡ false → (not (length p.common == 0) && not (is_among p.access.mem v.copied)) ≡ true → (d : Option ℕ) →
      IsLeastFrom 1 (λ t. share_port chip v w before p q || may_meet_on (loops_of_parts chip v w before p q) p.access.forms q.access.forms t) d → IsLeastOf (meet_in chip v w before p q) d
  later e f None h = by_groups
    where
      by_groups : (k : ℕ) → meet_in chip v w before p q k ≡ false
      by_groups zero = e
      by_groups (suc k) = ap (λ x. x && (share_port chip v w before p q || may_meet_on (loops_of_parts chip v w before p q) p.access.forms q.access.forms (suc k))) f ∙ h (suc k) (omega arith)
  later e f (Some zero) h = absurd (omega (arith, h.0))
  later e f (Some (suc n)) h = (at (suc n) ∙ h.1, by_groups)
    where
      at : (k : ℕ) → meet_on chip v w before p q k ≡ (share_port chip v w before p q || may_meet_on (loops_of_parts chip v w before p q) p.access.forms q.access.forms k)
      at k = ap (λ x. x && (share_port chip v w before p q || may_meet_on (loops_of_parts chip v w before p q) p.access.forms q.access.forms k)) f

      by_groups : (j : ℕ) → j < suc n → meet_in chip v w before p q j ≡ false
      by_groups zero less = e
      by_groups (suc j) less = at (suc j) ∙ h.2 (suc j) (omega arith) less

  pub can_not : can_meet p.access q.access ≡ false → (k : ℕ) → parts_meet_at chip v w before p q k ≡ false
  can_not e k = ap (λ x. x && meet_in chip v w before p q k) e

  pub can_so : can_meet p.access q.access ≡ true → (d : Option ℕ) → IsLeastOf (meet_in chip v w before p q) d → IsLeastOf (parts_meet_at chip v w before p q) d
  can_so e d h = least_same _ _ d (λ k. sym (ap (λ x. x && meet_in chip v w before p q k) e)) h

-- lists of one part each
one_and_one : (a : Bool) → ((a || false) || false) ≡ a
one_and_one true = refl
one_and_one false = refl

pub of_singles : (chip : ℕ) (v w : PlainView) (before : Bool) (ps qs : List PlainPart) (p q : PlainPart) (d : Option ℕ) → ps ≡ p ∷ [] → qs ≡ q ∷ [] →
    IsLeastOf (parts_meet_at chip v w before p q) d → IsLeastOf (some_meet_at chip v w before ps qs) d
of_singles chip v w before ps qs p q d e f h =
    least_same _ _ d (λ k. sym (ap (λ xs. some_meet_at chip v w before xs qs k) e ∙ ap (λ ys. some_meet_at chip v w before (p ∷ []) ys k) f ∙ one_and_one (parts_meet_at chip v w before p q k))) h

pub group_same : (p q : Footprint) (x y : PlainPart) → IsPart p x → IsPart q y → can_meet x.access y.access ≡ true →
    parts_meet p q 0 ≡ may_meet (loops_of x.common x.own y.own) Same x.access.forms y.access.forms
group_same p q x y e f can =
    ap (λ xs. stages_meet (loops_between p q) xs (plain_accesses q) 0) (part_is_one p x e)
    ∙ ap (λ ys. stages_meet (loops_between p q) (x.access ∷ []) ys 0) (part_is_one q y f)
    ∙ by_can (can_meet x.access y.access) (may_meet (loops_between p q) Same x.access.forms y.access.forms) can
    ∙ ap (λ l. may_meet l Same x.access.forms y.access.forms) (part_loops p q x y e f)
  where
    by_can : (can m : Bool) → can ≡ true → (((can && m) || false) || false) ≡ m
    by_can true true e = refl
    by_can true false e = refl
    by_can false m e = absurd (clash false e refl)

pub distance_at : (p q : Footprint) (x y : PlainPart) → IsPart p x → IsPart q y → 0 < length x.common → (d : Dist) → IsDistanceOf p q x.access y.access d →
    IsLeastFrom 1 (may_meet_on (loops_of x.common x.own y.own) x.access.forms y.access.forms) (groups_of d)
distance_at p q x y e f some d is =
    let same = part_loops p q x y e f in
    let P : Loops → Type 0 = λ l. IsLeastFrom 1 (may_meet_on l x.access.forms y.access.forms) (groups_of d) in
    let N : Loops → Type 0 = λ l. 0 < length l.common in
    subst P same (distance_is_least (loops_between p q) x.access.forms y.access.forms d (subst N (sym same) some) is)

pub port_shared : (passes : ℕ → Bool) (shares : Bool) → shares ≡ true → IsLeastFrom 1 (λ t. shares || passes t) (Some 1)
port_shared passes true e = (omega arith, refl, λ j some less. absurd (omega (arith, some, less)))
port_shared passes false e = absurd (clash false e refl)

pub no_port : (passes : ℕ → Bool) (shares : Bool) (d : Option ℕ) → shares ≡ false → IsLeastFrom 1 passes d → IsLeastFrom 1 (λ t. shares || passes t) d
no_port passes false d e h = h
no_port passes true d e h = absurd (clash true refl e)

-- counters that are described alike are the same
same_pair : (r s : ℤ × ℤ) → r.0 ≡ s.0 → r.1 ≡ s.1 → r ≡ s
same_pair (a, b) (x, y) e f = cc

same_range : (r s : Option (ℤ × ℤ)) → IsSameRange r s → r ≡ s
same_range None None h = refl
same_range None (Some s) h = absurd h
same_range (Some r) None h = absurd h
same_range (Some r) (Some s) h = ap Some (same_pair r s h.0 h.1)

same_loop : (a b : LoopRange) → IsSameLoop a b → a ≡ b
same_loop a b h =
    ap (λ (x : Option (ℤ × ℤ)). record { from = x; by = a.by; par = a.par }) (same_range a.from b.from h.0)
    ∙ ap (λ (n : ℕ). record { from = b.from; by = n; par = a.par }) h.1.0
    ∙ ap (λ (n : ℕ). record { from = b.from; by = b.by; par = n }) h.1.1

same_loops : (xs ys : List LoopRange) → length xs ≡ length ys → AreSameLoops xs ys → xs ≡ ys
same_loops [] [] e h = refl
same_loops [] (y ∷ ys) e h = absurd (omega (arith, e))
same_loops (x ∷ xs) [] e h = absurd (omega (arith, e))
same_loops (x ∷ xs) (y ∷ ys) e h =
    ap (λ z. z ∷ xs) (same_loop x y h.0) ∙ ap (λ zs. y ∷ zs) (same_loops xs ys (omega (arith, e)) h.1)

pub same_common : (xs ys first second : List LoopRange) (m n : ℕ) → first ≡ take m xs → second ≡ take n ys → m ≡ n → m ≤ length xs → n ≤ length ys → AreSameLoops first second → take m xs ≡ take n ys
same_common xs ys first second m n e f same within inside h =
    let long : length first ≡ length second = ap length e ∙ length-take-le m xs within ∙ same ∙ sym (length-take-le n ys inside) ∙ sym (ap length f) in
    sym e ∙ same_loops first second long h ∙ f

-- the part of an access that stands alone
abbrev pub part_in : Footprint → Access → PlainPart
part_in p x = record { access = plain_access x; common = take p.common p.loops.items; own = drop p.common p.loops.items }

pub is_part : (p : Footprint) (x : Access) → p.accesses.items ≡ x ∷ [] → IsPart p (part_in p x)
is_part p x e = ap (map (λ (a : Access). record { access = plain_access a; common = take p.common p.loops.items; own = drop p.common p.loops.items })) e

part_counters : (p : Footprint) (x : PlainPart) → IsPart p x → IsFootprint p → length x.common ≡ p.common
part_counters p x e foot =
    sym (ap length (one_item (take p.common p.loops.items) (drop p.common p.loops.items) p.accesses.items x e).1) ∙ length-take-le p.common p.loops.items foot.common

neither : (a b : Bool) → (not a && not b) ≡ not (a || b)
neither true b = refl
neither false b = refl

pub one_group : (v : PlainView) (p : Footprint) (x : PlainPart) (mem : ℕ) (r b : Bool) → IsPart p x → IsFootprint p → x.access.mem ≡ mem →
    r ≡ ((p.common == 0) || is_among mem v.copied) → r ≡ b → (not (length x.common == 0) && not (is_among x.access.mem v.copied)) ≡ not b
one_group v p x mem r b e foot m is test =
    ap (λ n. not (n == 0) && not (is_among x.access.mem v.copied)) (part_counters p x e foot)
    ∙ ap (λ n. not (p.common == 0) && not (is_among n v.copied)) m
    ∙ neither (p.common == 0) (is_among mem v.copied)
    ∙ ap not (sym is ∙ test)

pub some_counters : (n : ℕ) (b : Bool) → (not (n == 0) && b) ≡ true → 0 < n
some_counters zero b e = absurd (clash false e refl)
some_counters (suc n) b e = omega arith

module _ (chip : ℕ) (v w : PlainView) (before : Bool) (p q : PlainPart) (mem : ℕ) (shares : Bool) (m : p.access.mem ≡ mem) (s : shares ≡ ((not (v.part == w.part) && v.at_once) && nat_lt mem chip)) where
  shares_port : shares ≡ share_port chip v w before p q
  shares_port = s ∙ ap (λ n. (not (v.part == w.part) && v.at_once) && nat_lt n chip) (sym m)

  pub group_test : (r : Bool) → r ≡ (before && (shares || may_meet (loops_of p.common p.own q.own) Same p.access.forms q.access.forms)) → meet_in_group chip v w before p q ≡ r
  group_test r e = sym (e ∙ ap (λ x. before && (x || may_meet (loops_of p.common p.own q.own) Same p.access.forms q.access.forms)) shares_port)

  pub later_of : {E : Type 0} (r : Result (Option ℕ) E) → meet_in_group chip v w before p q ≡ false → (not (length p.common == 0) && not (is_among p.access.mem v.copied)) ≡ true →
      IfOk r (λ d. IsLeastFrom 1 (λ t. shares || may_meet_on (loops_of p.common p.own q.own) p.access.forms q.access.forms t) d) → IfOk r (λ d. IsLeastOf (meet_in chip v w before p q) d)
  later_of r e f h =
      IfOk-weaker r (λ d. IsLeastFrom 1 (λ t. shares || may_meet_on (loops_of p.common p.own q.own) p.access.forms q.access.forms t) d) (λ d. IsLeastOf (meet_in chip v w before p q) d)
      (λ d least. later chip v w before p q e f d (subst (λ x. IsLeastFrom 1 (λ t. x || may_meet_on (loops_of p.common p.own q.own) p.access.forms q.access.forms t) d) shares_port least)) h

-- two parts of one access each
module _ (chip : ℕ) (v w : PlainView) (before : Bool) (p q : Footprint) (x y : Access) (e : p.accesses.items ≡ x ∷ []) (f : q.accesses.items ≡ y ∷ []) where
  pub none_of : can_meet (plain_access x) (plain_access y) ≡ false → IsLeastOf (some_meet_at chip v w before (plain_parts p) (plain_parts q)) None
  none_of apart =
      of_singles chip v w before (plain_parts p) (plain_parts q) (part_in p x) (part_in q y) None (is_part p x e) (is_part q y f)
      (can_not chip v w before (part_in p x) (part_in q y) apart)

  pub met_of : {E : Type 0} (r : Result (Option ℕ) E) → can_meet (plain_access x) (plain_access y) ≡ true → IfOk r (λ d. IsLeastOf (meet_in chip v w before (part_in p x) (part_in q y)) d) →
      IfOk r (λ d. IsLeastOf (some_meet_at chip v w before (plain_parts p) (plain_parts q)) d)
  met_of r can h =
      IfOk-weaker r (λ d. IsLeastOf (meet_in chip v w before (part_in p x) (part_in q y)) d) (λ d. IsLeastOf (some_meet_at chip v w before (plain_parts p) (plain_parts q)) d)
      (λ d least. of_singles chip v w before (plain_parts p) (plain_parts q) (part_in p x) (part_in q y) d (is_part p x e) (is_part q y f) (can_so chip v w before (part_in p x) (part_in q y) can d least)) h

-- one part more
all_of_one : {A : Type 0} (xs : List A) → xs ++ [] ≡ xs
all_of_one [] = refl
all_of_one (x ∷ xs) = ap (λ r. x ∷ r) (all_of_one xs)

parts_more : (parts : List Footprint) (i : ℕ) (q : Footprint) → i < length parts → q ≡ get_or parts i q → flat_map plain_parts (take (i + 1) parts) ≡ flat_map plain_parts (take i parts) ++ plain_parts q
parts_more parts i q less is =
    ap (flat_map plain_parts) (take_more parts i q less ∙ ap (λ z. take i parts ++ z ∷ []) (sym is))
    ∙ flat_map-append plain_parts (take i parts) (q ∷ [])
    ∙ ap (λ r. flat_map plain_parts (take i parts) ++ r) (all_of_one (plain_parts q))

module _ (chip : ℕ) (v w : PlainView) (before : Bool) (parts : List Footprint) (i : ℕ) (q : Footprint) (d e r : Option ℕ) (less : i < length parts) (is : q ≡ get_or parts i q) (best : r ≡ sooner d e) where
  pub other_more : (ps : List PlainPart) → IsLeastOf (some_meet_at chip v w before ps (flat_map plain_parts (take i parts))) d → IsLeastOf (some_meet_at chip v w before ps (plain_parts q)) e →
      IsLeastOf (some_meet_at chip v w before ps (flat_map plain_parts (take (i + 1) parts))) r
  other_more ps h k =
      subst (λ x. IsLeastOf (some_meet_at chip v w before ps (flat_map plain_parts (take (i + 1) parts))) x) (sym best)
      (subst (λ xs. IsLeastOf (some_meet_at chip v w before ps xs) (sooner d e)) (sym (parts_more parts i q less is))
      (least_of_others chip v w before ps (flat_map plain_parts (take i parts)) (plain_parts q) d e h k))

  pub first_more : (qs : List PlainPart) → IsLeastOf (some_meet_at chip v w before (flat_map plain_parts (take i parts)) qs) d → IsLeastOf (some_meet_at chip v w before (plain_parts q) qs) e →
      IsLeastOf (some_meet_at chip v w before (flat_map plain_parts (take (i + 1) parts)) qs) r
  first_more qs h k =
      subst (λ x. IsLeastOf (some_meet_at chip v w before (flat_map plain_parts (take (i + 1) parts)) qs) x) (sym best)
      (subst (λ xs. IsLeastOf (some_meet_at chip v w before xs qs) (sooner d e)) (sym (parts_more parts i q less is))
      (least_of_firsts chip v w before (flat_map plain_parts (take i parts)) (plain_parts q) qs d e h k))

module _ (chip : ℕ) (v w : PlainView) (before : Bool) (parts : List Footprint) (i : ℕ) (d : Option ℕ) (past : length parts ≤ i) where
  pub all_others : (ps : List PlainPart) → IsLeastOf (some_meet_at chip v w before ps (flat_map plain_parts (take i parts))) d → IsLeastOf (some_meet_at chip v w before ps (flat_map plain_parts parts)) d
  all_others ps h = subst (λ xs. IsLeastOf (some_meet_at chip v w before ps (flat_map plain_parts xs)) d) (take_all i parts past) h

  pub all_firsts : (qs : List PlainPart) → IsLeastOf (some_meet_at chip v w before (flat_map plain_parts (take i parts)) qs) d → IsLeastOf (some_meet_at chip v w before (flat_map plain_parts parts) qs) d
  all_firsts qs h = subst (λ xs. IsLeastOf (some_meet_at chip v w before (flat_map plain_parts xs) qs) d) (take_all i parts past) h
