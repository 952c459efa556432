-- Accesses that touch one element stand in the meets.
use Rattle.std.proofs.Common.{◌≡◌, ℕ, zero, suc, ◌-◌, ◌<◌, ◌≤◌, Bool, true, false, ◌&&◌, not, List, [], ◌∷◌, ◌++◌, length, get_or, append_assoc, Option, Some, None, inl, inr, arith, refl, sym, ap, ◌∙◌, subst, eq-eqb}
use Rattle.std.proofs.lemmas.Bool.{and_parts, and_from, false≢true, lt-ltb, leb-true, le-leb}
use Rattle.std.specs.List.{Contains, list_any}
use Rattle.std.specs.Prelude.{◌⊎◌, ◌||◌, ◌==◌, nat_lt, nat_le, if◌then◌else◌}
use Rattle.sp_core.specs.declared.access.Meet.{Meet}
use Rattle.sp_core.specs.Declarations.{is_among}
use Rattle.sp_core.specs.Forms.{PlainForms}
use Rattle.sp_core.specs.Meeting.{least_of, stand}
use Rattle.sp_core.specs.PlainCore.{PlainCore}
use Rattle.sp_deps.proofs.Least.{same_group, touching_same, touching_moves}
use Rattle.sp_deps.proofs.Parallel.{among_earlier}
use Rattle.sp_deps.specs.declared.class.Class.TheVariants.{Same, Steps, Earlier}
use Rattle.sp_deps.specs.Access.{can_meet}
use Rattle.sp_deps.specs.Classes.{Loops, may_meet}
use Rattle.sp_deps.specs.Groups.{AreGroupsOn, AreTouching}
use Rattle.sp_meets.specs.Between.{are_parallel, may_meet_on, loops_of_parts, share_port, meet_in, parts_meet_at, meet_over, meet_at}
use Rattle.sp_meets.specs.Meets.{IsLeastOf, entry, AreMeetsWith, AreMeetsAmong, IsMeetsOf}
use Rattle.sp_meets.specs.Sites.{PlainPart, PlainSite, sites}
use Rattle.sp_along.specs.MetTouching.{AreMet}

either : (a b : Bool) → (a ≡ true) ⊎ (b ≡ true) → (a || b) ≡ true
either true b h = refl
either false b (inl e) = absurd (false≢true e)
either false b (inr e) = e

-- some element passes a test
any_at : {A : Type 0} (p : A → Bool) (xs : List A) (x : A) (k : ℕ) → k < length xs → get_or xs k x ≡ x → p x ≡ true → list_any p xs ≡ true
any_at p [] x k l e h = absurd (omega arith)
any_at p (y ∷ xs) x zero l e h = either (p y) (list_any p xs) (inl (ap p e ∙ h))
any_at p (y ∷ xs) x (suc k) l e h = either (p y) (list_any p xs) (inr (any_at p xs x k (omega arith) e h))

any_in : {A : Type 0} (p : A → Bool) (xs : List A) (x : A) → Contains xs x → p x ≡ true → list_any p xs ≡ true
any_in p xs x has h = any_at p xs x has.0 has.1 has.2 h

either_of : (a b c : Bool) → (a || b) ≡ true → (b ≡ true → c ≡ true) → (a || c) ≡ true
either_of true b c h f = refl
either_of false b c h f = f h

any_left : (p : Meet → Bool) (xs ys : List Meet) → list_any p xs ≡ true → list_any p (xs ++ ys) ≡ true
any_left p [] ys h = absurd (false≢true h)
any_left p (x ∷ xs) ys h = either_of (p x) (list_any p xs) (list_any p (xs ++ ys)) h (any_left p xs ys)

any_right : (p : Meet → Bool) (xs ys : List Meet) → list_any p ys ≡ true → list_any p (xs ++ ys) ≡ true
any_right p [] ys h = h
any_right p (x ∷ xs) ys h = either (p x) (list_any p (xs ++ ys)) (inr (any_right p xs ys h))

if_either : (c b : Bool) → b ≡ true → (if c then b else true) ≡ true
if_either true b h = h
if_either false b h = refl

some_loop : (n : ℕ) → 0 < n → not (n == 0) ≡ true
some_loop n h = grind arith

not_among : (b : Bool) → b ≡ false → not b ≡ true
not_among b e = ap not e

module _ (loops : Loops) (first second : PlainPart) (k : ℕ) (t : AreTouching loops first.access second.access k) where
  -- they may meet where they touch
  met_on : 0 < length loops.common → may_meet_on loops first.access.forms second.access.forms k ≡ true
  met_on some = by_class (touching_moves loops first.access second.access k t some)
    where
      by_class : (may_meet loops (Steps k) first.access.forms second.access.forms ≡ true) ⊎ ((i : ℕ) × (suc i < length loops.common) × (may_meet loops (Earlier i) first.access.forms second.access.forms ≡ true)) →
          may_meet_on loops first.access.forms second.access.forms k ≡ true
      by_class (inl e) = either _ _ (inr (if_either (are_parallel first.access.forms second.access.forms || nat_le k 64) (may_meet loops (Steps k) first.access.forms second.access.forms) e))
      by_class (inr (i, less, e)) = either _ _ (inl (among_earlier loops first.access.forms second.access.forms (length loops.common - 1) i (omega (arith, less)) e))

  met_in_one : k ≡ 0 → may_meet loops Same first.access.forms second.access.forms ≡ true
  met_in_one e = touching_same loops first.access second.access k t (same_group loops.common t.xs t.ys (subst (λ n. AreGroupsOn loops.common t.xs t.ys n) e t.groups))

module _ (chip : ℕ) (a b : PlainSite) where
  abbrev is_before : Bool
  is_before = nat_lt a.number b.number

  parts_meet : (k : ℕ) → (m : AreMet chip a b k) → parts_meet_at chip m.views.0 m.views.1 is_before m.first m.second k ≡ true
  parts_meet zero m =
      and_from (can_meet m.first.access m.second.access) (meet_in chip m.views.0 m.views.1 is_before m.first m.second 0) m.can
      (and_from is_before (share_port chip m.views.0 m.views.1 is_before m.first m.second || may_meet (loops_of_parts chip m.views.0 m.views.1 is_before m.first m.second) Same m.first.access.forms m.second.access.forms) (lt-ltb a.number b.number (m.in_order refl))
      (either _ _ (by_touch m.touching)))
    where
      by_touch : (share_port chip m.views.0 m.views.1 is_before m.first m.second ≡ true) ⊎ AreTouching (loops_of_parts chip m.views.0 m.views.1 is_before m.first m.second) m.first.access m.second.access 0 →
          (share_port chip m.views.0 m.views.1 is_before m.first m.second ≡ true) ⊎ (may_meet (loops_of_parts chip m.views.0 m.views.1 is_before m.first m.second) Same m.first.access.forms m.second.access.forms ≡ true)
      by_touch (inl h) = inl h
      by_touch (inr t) = inr (met_in_one (loops_of_parts chip m.views.0 m.views.1 is_before m.first m.second) m.first m.second 0 t refl)
  parts_meet (suc n) m =
      let loop : not (length m.first.common == 0) ≡ true = some_loop (length m.first.common) (m.looped (omega arith)) in
      let one : not (is_among m.first.access.mem m.views.0.copied) ≡ true = not_among (is_among m.first.access.mem m.views.0.copied) (m.not_copied (omega arith)) in
      and_from (can_meet m.first.access m.second.access) (meet_in chip m.views.0 m.views.1 is_before m.first m.second (suc n)) m.can
      (and_from (not (length m.first.common == 0) && not (is_among m.first.access.mem m.views.0.copied)) (share_port chip m.views.0 m.views.1 is_before m.first m.second || may_meet_on (loops_of_parts chip m.views.0 m.views.1 is_before m.first m.second) m.first.access.forms m.second.access.forms (suc n))
      (and_from (not (length m.first.common == 0)) (not (is_among m.first.access.mem m.views.0.copied)) loop one)
      (either _ _ (by_touch m.touching)))
    where
      by_touch : (share_port chip m.views.0 m.views.1 is_before m.first m.second ≡ true) ⊎ AreTouching (loops_of_parts chip m.views.0 m.views.1 is_before m.first m.second) m.first.access m.second.access (suc n) →
          (share_port chip m.views.0 m.views.1 is_before m.first m.second ≡ true) ⊎ (may_meet_on (loops_of_parts chip m.views.0 m.views.1 is_before m.first m.second) m.first.access.forms m.second.access.forms (suc n) ≡ true)
      by_touch (inl h) = inl h
      by_touch (inr t) = inr (met_on (loops_of_parts chip m.views.0 m.views.1 is_before m.first m.second) m.first m.second (suc n) t (m.looped (omega arith)))

  -- the two meet so many groups apart
  met_at : (k : ℕ) → AreMet chip a b k → meet_at chip a b k ≡ true
  met_at k m =
      ap (λ x. meet_over chip is_before x k) m.over
      ∙ any_in (λ (p : PlainPart). list_any (λ (q : PlainPart). parts_meet_at chip m.views.0 m.views.1 is_before p q k) m.views.1.parts) m.views.0.parts m.first m.has_first
      (any_in (λ (q : PlainPart). parts_meet_at chip m.views.0 m.views.1 is_before m.first q k) m.views.1.parts m.second m.has_second (parts_meet k m))

  -- where their entry stands
  record IsFound (xs : List Meet) : Type 0 where
    least : Option ℕ
    is_least : IsLeastOf (meet_at chip a b) least
    front : List Meet
    back : List Meet
    is : xs ≡ front ++ (entry a b least ++ back)

module _ (chip : ℕ) where
  found_with : (a b : PlainSite) (others : List PlainSite) (k : ℕ) → k < length others → get_or others k b ≡ b → (xs : List Meet) → AreMeetsWith chip a others xs → IsFound chip a b xs
  found_with a b [] k l e xs h = absurd (omega arith)
  found_with a b (c ∷ others) zero l e xs h = subst (λ z. IsFound chip a z xs) e (record { least = h.0; is_least = h.2; front = []; back = h.1; is = h.3 })
  found_with a b (c ∷ others) (suc k) l e xs h =
      let rest = found_with a b others k (omega arith) e h.1 h.4 in
      record {
        least = rest.least;
        is_least = rest.is_least;
        front = entry a c h.0 ++ rest.front;
        back = rest.back;
        is = h.3 ∙ ap (λ zs. entry a c h.0 ++ zs) rest.is ∙ sym (append_assoc (entry a c h.0) rest.front (entry a b rest.least ++ rest.back));
      }

  found_among : (a b : PlainSite) (firsts seconds : List PlainSite) (k : ℕ) → k < length firsts → get_or firsts k a ≡ a → Contains seconds b → (xs : List Meet) → AreMeetsAmong chip firsts seconds xs → IsFound chip a b xs
  found_among a b [] seconds k l e has xs h = absurd (omega arith)
  found_among a b (c ∷ firsts) seconds zero l e has xs h =
      let first : IsFound chip c b h.0 = found_with c b seconds has.0 has.1 has.2 h.0 h.2 in
      subst (λ z. IsFound chip z b xs) e (record {
        least = first.least;
        is_least = first.is_least;
        front = first.front;
        back = first.back ++ h.1;
        is =
            h.3
            ∙ ap (λ zs. zs ++ h.1) first.is
            ∙ append_assoc first.front (entry c b first.least ++ first.back) h.1
            ∙ ap (λ zs. first.front ++ zs) (append_assoc (entry c b first.least) first.back h.1);
      })
  found_among a b (c ∷ firsts) seconds (suc k) l e has xs h =
      let rest = found_among a b firsts seconds k (omega arith) e has h.1 h.4 in
      record {
        least = rest.least;
        is_least = rest.is_least;
        front = h.0 ++ rest.front;
        back = rest.back;
        is = h.3 ∙ ap (λ zs. h.0 ++ zs) rest.is ∙ sym (append_assoc h.0 rest.front (entry a b rest.least ++ rest.back));
      }

-- a distance that isn't greater is found
least_small : (j a b k : ℕ) → j ≤ k → (k ≡ 0 → a < b) → (if (j == 0) && nat_le b a then 1 else j) ≤ k
least_small j a b k small order = by_test ((j == 0) && nat_le b a) (λ e. later k order (leb-true b a (and_parts (j == 0) (nat_le b a) e).1))
  where
    later : (k : ℕ) → (k ≡ 0 → a < b) → b ≤ a → 1 ≤ k
    later zero order le = absurd (omega (arith, order refl, le))
    later (suc k) order le = omega arith

    by_test : (c : Bool) → (c ≡ true → 1 ≤ k) → (if c then 1 else j) ≤ k
    by_test true f = f refl
    by_test false f = small

module _ (core : PlainCore) (meets : List Meet) (a b : PlainSite) (k : ℕ) where
  abbrev is_entry : Meet → Bool
  is_entry x = ((x.first == a.number) && (x.second == b.number)) && nat_le (least_of core meets x) k

  is_passed : (j : ℕ) → j ≤ k → (k ≡ 0 → a.number < b.number) → is_entry (record { first = a.number; second = b.number; least = j }) ≡ true
  is_passed j small order =
      and_from ((a.number == a.number) && (b.number == b.number)) (nat_le (if (j == 0) && nat_le b.number a.number then 1 else j) k)
      (and_from (a.number == a.number) (b.number == b.number) (eq-eqb a.number a.number refl) (eq-eqb b.number b.number refl))
      (le-leb (if (j == 0) && nat_le b.number a.number then 1 else j) k (least_small j a.number b.number k small order))

  stand_by : (front back : List Meet) (x : Option ℕ) → IsLeastOf (meet_at (length core.mems) a b) x → AreMet (length core.mems) a b k → meets ≡ front ++ (entry a b x ++ back) → list_any is_entry meets ≡ true
  stand_by front back None least m e = absurd (false≢true (sym (least k) ∙ met_at (length core.mems) a b k m))
  stand_by front back (Some j) least m e =
      let above : ¬ (k < j) = λ less. false≢true (sym (least.1 k less) ∙ met_at (length core.mems) a b k m) in
      let small : j ≤ k = omega (arith, above) in
      ap (list_any is_entry) e
      ∙ any_right is_entry front (entry a b (Some j) ++ back) (any_left is_entry (entry a b (Some j)) back (either (is_entry (record { first = a.number; second = b.number; least = j })) false (inl (is_passed j small m.in_order))))

pub met_stand : (core : PlainCore) (forms : PlainForms) (meets : List Meet) → IsMeetsOf core forms meets → (a b : PlainSite) (k : ℕ) →
    Contains (sites core forms) a → Contains (sites core forms) b → AreMet (length core.mems) a b k → stand core meets a.number b.number k ≡ true
met_stand core forms meets are a b k has_a has_b m =
    let found : IsFound (length core.mems) a b meets = found_among (length core.mems) a b (sites core forms) (sites core forms) has_a.0 has_a.1 has_a.2 has_b meets are in
    stand_by core meets a b k found.front found.back found.least found.is_least m found.is
