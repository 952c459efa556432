-- The ways on which no step leads back join the same stages as all ways.
use Rattle.std.proofs.Common.{◌≡◌, ℕ, zero, suc, ◌==◌, Bool, true, false, ◌&&◌, ◌||◌, not, List, [], ◌∷◌, Option, Some, None, refl, ap, sym, subst, ◌∙◌, true≢false, eqb-true}
use Rattle.std.specs.List.{list_any}
use Rattle.sp_core.specs.PlainCore.{PlainNode, PlainCore}
use Rattle.sp_stream.specs.Proper.{is_number, leads_on, across, are_joined}
use Rattle.sp_stream.specs.Circles.{IsOne}
use Rattle.sp_stream.specs.Search.{steps_on, is_found}

pub or_elim : {P : Type 0} (a b : Bool) → (a || b) ≡ true → (a ≡ true → P) → (b ≡ true → P) → P
or_elim true b e f g = f refl
or_elim false b e f g = g e

pub or_first : (a b : Bool) → a ≡ true → (a || b) ≡ true
or_first a b e = ap (λ x. x || b) e

pub or_second : (a b : Bool) → b ≡ true → (a || b) ≡ true
or_second true b e = refl
or_second false b e = e

pub and_elim : {P : Type 0} (a b : Bool) → (a && b) ≡ true → (a ≡ true → b ≡ true → P) → P
and_elim true b e f = f refl e
and_elim false b e f = absurd (true≢false (sym e))

pub both_true : (a b : Bool) → a ≡ true → b ≡ true → (a && b) ≡ true
both_true a b e f = ap (λ x. x && b) e ∙ f

same_answer : (a b : Bool) → (a ≡ true → b ≡ true) → (b ≡ true → a ≡ true) → a ≡ b
same_answer true b f g = sym (f refl)
same_answer false true f g = g refl
same_answer false false f g = refl

pub by_cases : {P : Type 0} (a : Bool) → (a ≡ true → P) → (not a ≡ true → P) → P
by_cases true f g = f refl
by_cases false f g = g refl

pub any_elim : {P : Type 0} (test : ℕ → Bool) (xs : List ℕ) → list_any test xs ≡ true → ((m : ℕ) → test m ≡ true → IsOne xs m → P) → P
any_elim test [] e f = absurd (true≢false (sym e))
any_elim test (x ∷ xs) e f =
    or_elim (test x) (list_any test xs) e
    (λ h. f x h (λ g k. or_first (g x) (list_any g xs) k))
    (λ h. any_elim test xs h (λ m k is. f m k (λ g l. or_second (g x) (list_any g xs) (is g l))))

leads_elim : {P : Type 0} (goes : ℕ → Bool) (end : Option ℕ) → leads_on goes end ≡ true → ((c : ℕ) → end ≡ Some c → goes c ≡ true → P) → P
leads_elim goes (Some c) e f = f c refl e
leads_elim goes None e f = absurd (true≢false (sym e))

leads_by : (goes : ℕ → Bool) (end : Option ℕ) (c : ℕ) → end ≡ Some c → goes c ≡ true → leads_on goes end ≡ true
leads_by goes end c e h = ap (leads_on goes) e ∙ h

module _ (core : PlainCore) (nodes : List PlainNode) (fifos : List ℕ) (b : ℕ) where
  abbrev Found : ℕ → Option ℕ → ℕ → Type 0
  Found n before a = is_found core nodes fifos n before a b ≡ true

  abbrev pub Joined : ℕ → ℕ → Type 0
  Joined n a = are_joined core nodes fifos n a b ≡ true

  found_here : (n : ℕ) (before : Option ℕ) (a : ℕ) → (a == b) ≡ true → Found n before a
  found_here zero before a e = e
  found_here (suc n) before a e = or_first (a == b) _ e

  found_on : (n : ℕ) (before : Option ℕ) (a m c : ℕ) → IsOne fifos m → across core nodes m a ≡ Some c → not (is_number c before) ≡ true → Found n (Some a) c → Found (suc n) before a
  found_on n before a m c is e k h =
      or_second (a == b) _
      (is (λ r. leads_on (steps_on before (λ d. is_found core nodes fifos n (Some a) d b)) (across core nodes r a))
      (leads_by (steps_on before (λ d. is_found core nodes fifos n (Some a) d b)) (across core nodes m a) c e (both_true _ _ k h)))

  found_elim : {P : Type 0} (n : ℕ) (before : Option ℕ) (a : ℕ) → Found (suc n) before a → ((a == b) ≡ true → P)
      → ((m c : ℕ) → IsOne fifos m → across core nodes m a ≡ Some c → not (is_number c before) ≡ true → Found n (Some a) c → P) → P
  found_elim n before a h f g =
      or_elim (a == b) _ h f
      (λ k. any_elim (λ r. leads_on (steps_on before (λ d. is_found core nodes fifos n (Some a) d b)) (across core nodes r a)) fifos k
      (λ m l is. leads_elim (steps_on before (λ d. is_found core nodes fifos n (Some a) d b)) (across core nodes m a) l
      (λ c e s. and_elim (not (is_number c before)) _ s (λ x y. g m c is e x y))))

  pub joined_on : (n a m c : ℕ) → IsOne fifos m → across core nodes m a ≡ Some c → Joined n c → Joined (suc n) a
  joined_on n a m c is e h =
      or_second (a == b) _
      (is (λ r. leads_on (λ d. are_joined core nodes fifos n d b) (across core nodes r a))
      (leads_by (λ d. are_joined core nodes fifos n d b) (across core nodes m a) c e h))

  pub joined_elim : {P : Type 0} (n a : ℕ) → Joined (suc n) a → ((a == b) ≡ true → P)
      → ((m c : ℕ) → IsOne fifos m → across core nodes m a ≡ Some c → Joined n c → P) → P
  joined_elim n a h f g =
      or_elim (a == b) _ h f
      (λ k. any_elim (λ r. leads_on (λ d. are_joined core nodes fifos n d b) (across core nodes r a)) fifos k
      (λ m l is. leads_elim (λ d. are_joined core nodes fifos n d b) (across core nodes m a) l (λ c e s. g m c is e s)))

  joined_if : (n : ℕ) (before : Option ℕ) (a : ℕ) → Found n before a → Joined n a
  joined_if zero before a h = h
  joined_if (suc n) before a h =
      found_elim n before a h (λ e. or_first (a == b) _ e) (λ m c is e k r. joined_on n a m c is e (joined_if n (Some a) c r))

  -- also where any step may be the first, and where one step more is allowed
  weaker : (n x a : ℕ) → Found n (Some x) a → Found n None a
  weaker zero x a h = h
  weaker (suc n) x a h = found_elim n (Some x) a h (λ e. found_here (suc n) None a e) (λ m c is e k r. found_on n None a m c is e refl r)

  longer : (n : ℕ) (before : Option ℕ) (a : ℕ) → Found n before a → Found (suc n) before a
  longer zero before a h = found_here 1 before a h
  longer (suc n) before a h =
      found_elim n before a h (λ e. found_here (suc (suc n)) before a e)
      (λ m c is e k r. found_on (suc n) before a m c is e k (longer n (Some a) c r))

  -- a way from c that leads through a first has one from a in it
  turned : {P : Type 0} (n a c : ℕ) → Found n None c → (Found n (Some a) c → P) → (Found n None a → P) → P
  turned zero a c h f g = f h
  turned (suc n) a c h f g =
      found_elim n None c h (λ e. f (found_here (suc n) (Some a) c e))
      (λ m d is e k r. by_cases (d == a)
      (λ s. g (longer n None a (weaker n c a (subst (λ x. Found n (Some c) x) (eqb-true d a s) r))))
      (λ s. f (found_on n (Some a) c m d is e s r)))

  found_if : (n a : ℕ) → Joined n a → Found n None a
  found_if zero a h = h
  found_if (suc n) a h =
      joined_elim n a h (λ e. found_here (suc n) None a e)
      (λ m c is e r. turned n a c (found_if n c r) (λ l. found_on n None a m c is e refl l) (λ l. longer n None a l))

pub found_is : (core : PlainCore) (nodes : List PlainNode) (fifos : List ℕ) (n a b : ℕ) → is_found core nodes fifos n None a b ≡ are_joined core nodes fifos n a b
found_is core nodes fifos n a b = same_answer _ _ (joined_if core nodes fifos b n None a) (found_if core nodes fifos b n a)
