-- What the rules of valid plans on banks ask of one body is what its accesses to the memory ask.
use Rattle.std.proofs.Common.{◌≡◌, ℕ, zero, suc, ◌+◌, ◌<◌, ◌≤◌, Bool, true, false, List, [], ◌∷◌, ◌++◌, length, get_or, Option, Some, None, inl, inr, arith, refl, sym, ap, ◌∙◌, subst}
use Rattle.std.proofs.lemmas.Bool.{and_parts, and_from, cases_lt, false≢true}
use Rattle.std.proofs.lemmas.List.Folds.{list_all-append}
use Rattle.std.proofs.lemmas.List.{get_or_append_left, get_or_push, length_push}
use Rattle.std.specs.List.{list_all}
use Rattle.std.specs.Prelude.{◌&&◌, ◌||◌, not, IsTrue, if◌then◌else◌}
use Rattle.sp_affine.specs.Affine.{Affine}
use Rattle.sp_bank.specs.Banking.{Banking}
use Rattle.sp_core.specs.Declarations.{mem}
use Rattle.sp_core.specs.Elements.{numbers_below}
use Rattle.sp_core.specs.Forms.{PlainForms}
use Rattle.sp_core.specs.PlainCore.{PlainOp, PlainCore}
use Rattle.sp_plan.specs.Groups.{is_one_group, known_forms, AreKeptApart, kind_at, share_banks, is_grouped, are_grouped, AreSeparated}
use Rattle.sp_plan.specs.Orders.{op_at, no_op}
use Rattle.sp_plan.specs.Ports.{has_banks, scheme_at}
use Rattle.sp_schemes.proofs.Lists.{Each, Pairs, each_at, each_of, each_more}
use Rattle.sp_schemes.proofs.Ports.{Touches, touches_from, port_from, shares, shared_port, port_shared, only_here}
use Rattle.sp_schemes.specs.Accesses.{PlainUse, port_to, use_by, uses_in, share, is_grouped_with, are_one_group}
use Rattle.sp_schemes.specs.Chosen.{only}

-- the numbers below a bound, in order
pub below_length : (n : ℕ) → length (numbers_below n) ≡ n
below_length zero = refl
below_length (suc n) = let h = below_length n in length_push (numbers_below n) n ∙ omega (arith, h)

pub number_below : (n i : ℕ) → i < n → get_or (numbers_below n) i 0 ≡ i
number_below zero i l = absurd (omega (arith, l))
number_below (suc n) i l = elim (cases_lt i n) [
  | inl q ↦ get_or_append_left (numbers_below n) (n ∷ []) 0 i (omega (arith, below_length n, q)) ∙ number_below n i q
  | inr q ↦ let e : i ≡ n = omega (arith, q, l) in ap (λ j. get_or (numbers_below n ++ n ∷ []) j 0) e ∙ get_or_push (numbers_below n) n 0 n (below_length n) ∙ sym e
]

-- numbers below a bound pass a test exactly where the list of them does
pub all_below : (f : ℕ → Bool) (n : ℕ) → list_all f (numbers_below n) ≡ true → (k : ℕ) → k < n → f k ≡ true
all_below f zero h k l = absurd (omega (arith, l))
all_below f (suc n) h k l =
    let parts = and_parts (list_all f (numbers_below n)) (f n && true) (sym (list_all-append f (numbers_below n) (n ∷ [])) ∙ h) in
    elim (cases_lt k n) [
      | inl q ↦ all_below f n parts.0 k q
      | inr q ↦ let e : n ≡ k = omega (arith, q, l) in subst (λ x. f x ≡ true) e (and_parts (f n) true parts.1).0
    ]

pub below_all : (f : ℕ → Bool) (n : ℕ) → ((k : ℕ) → k < n → f k ≡ true) → list_all f (numbers_below n) ≡ true
below_all f zero h = refl
below_all f (suc n) h =
    list_all-append f (numbers_below n) (n ∷ [])
    ∙ and_from (list_all f (numbers_below n)) (f n && true) (below_all f n (λ k l. h k (omega (arith, l)))) (and_from (f n) true (h n (omega arith)) refl)

-- each two of a list with a number for each, by their places
abbrev pub Numbered : Type 0
Numbered = ℕ × PlainOp

abbrev pub numbered : ℕ → List PlainOp → List Numbered
numbered n [] = []
numbered n (op ∷ ops) = (n, op) ∷ numbered (suc n) ops

module _ (S : Numbered → Numbered → Type 0) where
  abbrev pub ByPlace : (n : ℕ) → List PlainOp → Type 0
  ByPlace n ops = (j i : ℕ) → j < length ops → i < j → S (n + i, get_or ops i no_op) (n + j, get_or ops j no_op)

  first_with : (a : Numbered) (n : ℕ) (ops : List PlainOp) → ((j : ℕ) → j < length ops → S a (n + j, get_or ops j no_op)) → Each (S a) (numbered n ops)
  first_with a n [] h = tt
  first_with a n (op ∷ ops) h = (
    subst (λ k. S a (k, op)) (let e : n + 0 ≡ n = omega arith in e) (h 0 (omega arith)),
    first_with a (suc n) ops (λ j l. subst (λ k. S a (k, get_or ops j no_op)) (let e : n + suc j ≡ suc n + j = omega arith in e) (h (suc j) (omega (arith, l)))),
  )

  with_first : (a : Numbered) (n : ℕ) (ops : List PlainOp) → Each (S a) (numbered n ops) → (j : ℕ) → j < length ops → S a (n + j, get_or ops j no_op)
  with_first a n [] h j l = absurd (omega (arith, l))
  with_first a n (op ∷ ops) h zero l = subst (λ k. S a (k, op)) (let e : n ≡ n + 0 = omega arith in e) h.0
  with_first a n (op ∷ ops) h (suc j) l = subst (λ k. S a (k, get_or ops j no_op)) (let e : suc n + j ≡ n + suc j = omega arith in e) (with_first a (suc n) ops h.1 j (omega (arith, l)))

  pub pairs_by_place : (n : ℕ) (ops : List PlainOp) → ByPlace n ops → Pairs S (numbered n ops)
  pairs_by_place n [] h = tt
  pairs_by_place n (op ∷ ops) h = (
    first_with (n, op) (suc n) ops (λ j l.
        subst (λ k. S (n, op) (k, get_or ops j no_op)) (let e : n + suc j ≡ suc n + j = omega arith in e)
        (subst (λ k. S (k, op) (n + suc j, get_or ops j no_op)) (let e : n + 0 ≡ n = omega arith in e) (h (suc j) 0 (omega (arith, l)) (omega arith)))),
    pairs_by_place (suc n) ops (λ j i l k.
        subst (λ x. S (suc n + i, get_or ops i no_op) (x, get_or ops j no_op)) (let e : n + suc j ≡ suc n + j = omega arith in e)
        (subst (λ x. S (x, get_or ops i no_op) (n + suc j, get_or ops j no_op)) (let e : n + suc i ≡ suc n + i = omega arith in e) (h (suc j) (suc i) (omega (arith, l)) (omega (arith, k))))),
  )

  pub place_by_pairs : (n : ℕ) (ops : List PlainOp) → Pairs S (numbered n ops) → ByPlace n ops
  place_by_pairs n [] h j i l k = absurd (omega (arith, l))
  place_by_pairs n (op ∷ ops) h zero i l k = absurd (omega (arith, k))
  place_by_pairs n (op ∷ ops) h (suc j) zero l k =
      subst (λ x. S (n + 0, op) (x, get_or ops j no_op)) (let e : suc n + j ≡ n + suc j = omega arith in e)
      (subst (λ x. S (x, op) (suc n + j, get_or ops j no_op)) (let e : n ≡ n + 0 = omega arith in e) (with_first (n, op) (suc n) ops h.0 j (omega (arith, l))))
  place_by_pairs n (op ∷ ops) h (suc j) (suc i) l k =
      subst (λ x. S (n + suc i, get_or ops i no_op) (x, get_or ops j no_op)) (let e : suc n + j ≡ n + suc j = omega arith in e)
      (subst (λ x. S (x, get_or ops i no_op) (suc n + j, get_or ops j no_op)) (let e : suc n + i ≡ n + suc i = omega arith in e) (place_by_pairs (suc n) ops h.1 j i (omega (arith, l)) (omega (arith, k))))

module _ (core : PlainCore) (forms : PlainForms) (m : ℕ) (banks : has_banks (mem core m).kind ≡ true) (b : Banking) where
  abbrev pub known : Numbered → Option (List Affine)
  known a = known_forms core forms a.0 a.1

  -- a fact of each two that share a port, of their forms alone
  module _ (F : (f g : Option (List Affine)) → Type 0) where
    abbrev pub OfOps : Numbered → Numbered → Type 0
    OfOps a c = shares core m banks b a.1 c.1 ≡ true → F (known a) (known c)

    abbrev pub OfUses : PlainUse → PlainUse → Type 0
    OfUses u c = share u c ≡ true → F u.forms c.forms

    share_same : (p q : Bool) → (if p then q else not q) ≡ true → p ≡ q
    share_same true true e = refl
    share_same true false e = absurd (false≢true e)
    share_same false true e = absurd (false≢true e)
    share_same false false e = refl

    same_share : (p : Bool) → (if p then p else not p) ≡ true
    same_share true = refl
    same_share false = refl

    one_some : (p q : Bool) → Some p ≡ Some q → p ≡ q
    one_some p q e = cc

    -- one access with those of a list
    uses_of : (a : Numbered) (p : Bool) → port_to m a.1 ≡ Some p → (n : ℕ) (ops : List PlainOp) → Each (OfOps a) (numbered n ops) → Each (OfUses (record { reads = p; forms = known a })) (uses_in core forms m n ops)
    uses_of a p e n [] h = tt
    uses_of a p e n (op ∷ ops) h = go (port_to m op) refl (uses_of a p e (suc n) ops h.1)
      where
        go : (x : Option Bool) → port_to m op ≡ x → Each (OfUses (record { reads = p; forms = known a })) (uses_in core forms m (suc n) ops) → Each (OfUses (record { reads = p; forms = known a })) (use_by x (known (n, op)) ++ uses_in core forms m (suc n) ops)
        go None q rest = rest
        go (Some r) q rest = (λ s. h.0 (port_shared core m banks b a.1 op p (touches_from m a.1 p e) (touches_from m op p (q ∙ ap Some (sym (share_same p r s))))), rest)

    ops_of : (a : Numbered) (p : Bool) → port_to m a.1 ≡ Some p → (n : ℕ) (ops : List PlainOp) → Each (OfUses (record { reads = p; forms = known a })) (uses_in core forms m n ops) → Each (OfOps a) (numbered n ops)
    ops_of a p e n [] h = tt
    ops_of a p e n (op ∷ ops) h = go (port_to m op) refl h (λ k. ops_of a p e (suc n) ops k)
      where
        go : (x : Option Bool) → port_to m op ≡ x → Each (OfUses (record { reads = p; forms = known a })) (use_by x (known (n, op)) ++ uses_in core forms m (suc n) ops)
            → (Each (OfUses (record { reads = p; forms = known a })) (uses_in core forms m (suc n) ops) → Each (OfOps a) (numbered (suc n) ops)) → OfOps a (n, op) × Each (OfOps a) (numbered (suc n) ops)
        go None q h rest = (
          λ s. let t = shared_port core m banks b a.1 op s in absurd (let z : None ≡ Some t.0 = sym q ∙ port_from m op t.0 t.2 in cc),
          rest h,
        )
        go (Some r) q h rest = (
          λ s.
              let t = shared_port core m banks b a.1 op s in
              let x : p ≡ t.0 = one_some p t.0 (sym e ∙ port_from m a.1 t.0 t.1) in
              let y : r ≡ t.0 = one_some r t.0 (sym q ∙ port_from m op t.0 t.2) in
              h.0 (subst (λ z. (if p then z else not z) ≡ true) (x ∙ sym y) (same_share p)),
          rest h.1,
        )

    -- an operation that is no access to the memory shares no port with any
    none_of : (a : Numbered) → port_to m a.1 ≡ None → (n : ℕ) (ops : List PlainOp) → Each (OfOps a) (numbered n ops)
    none_of a e n [] = tt
    none_of a e n (op ∷ ops) = (
      λ s. let t = shared_port core m banks b a.1 op s in absurd (let z : None ≡ Some t.0 = sym e ∙ port_from m a.1 t.0 t.1 in cc),
      none_of a e (suc n) ops,
    )

    pub pairs_of_uses : (n : ℕ) (ops : List PlainOp) → Pairs OfOps (numbered n ops) → Pairs OfUses (uses_in core forms m n ops)
    pairs_of_uses n [] h = tt
    pairs_of_uses n (op ∷ ops) h = go (port_to m op) refl (pairs_of_uses (suc n) ops h.1)
      where
        go : (x : Option Bool) → port_to m op ≡ x → Pairs OfUses (uses_in core forms m (suc n) ops) → Pairs OfUses (use_by x (known (n, op)) ++ uses_in core forms m (suc n) ops)
        go None e rest = rest
        go (Some p) e rest = (uses_of (n, op) p e (suc n) ops h.0, rest)

    pub uses_of_pairs : (n : ℕ) (ops : List PlainOp) → Pairs OfUses (uses_in core forms m n ops) → Pairs OfOps (numbered n ops)
    uses_of_pairs n [] h = tt
    uses_of_pairs n (op ∷ ops) h = go (port_to m op) refl h (λ k. uses_of_pairs (suc n) ops k)
      where
        go : (x : Option Bool) → port_to m op ≡ x → Pairs OfUses (use_by x (known (n, op)) ++ uses_in core forms m (suc n) ops) → (Pairs OfUses (uses_in core forms m (suc n) ops) → Pairs OfOps (numbered (suc n) ops)) → Each (OfOps (n, op)) (numbered (suc n) ops) × Pairs OfOps (numbered (suc n) ops)
        go None e h rest = (none_of (n, op) e (suc n) ops, rest h)
        go (Some p) e h rest = (ops_of (n, op) p e (suc n) ops h.0, rest h.1)

pub or_given : (s g : Bool) → (not s || g) ≡ true → s ≡ true → g ≡ true
or_given true g h e = h
or_given false g h e = absurd (false≢true e)

pub given_or : (s g : Bool) → (s ≡ true → g ≡ true) → (not s || g) ≡ true
given_or true g h = h refl
given_or false g h = refl

module _ (core : PlainCore) (forms : PlainForms) (m : ℕ) (banks : has_banks (mem core m).kind ≡ true) (b : Banking) where
  abbrev pub AreOne : (f g : Option (List Affine)) → Type 0
  AreOne f g = is_one_group f g ≡ true

  one_each : (u : PlainUse) (us : List PlainUse) → Each (OfUses core forms m banks b AreOne u) us → list_all (is_grouped_with u) us ≡ true
  one_each u [] h = refl
  one_each u (c ∷ us) h = and_from (is_grouped_with u c) (list_all (is_grouped_with u) us) (given_or (share u c) (is_one_group u.forms c.forms) h.0) (one_each u us h.1)

  each_one : (u : PlainUse) (us : List PlainUse) → list_all (is_grouped_with u) us ≡ true → Each (OfUses core forms m banks b AreOne u) us
  each_one u [] h = tt
  each_one u (c ∷ us) h =
      let parts = and_parts (is_grouped_with u c) (list_all (is_grouped_with u) us) h in
      (or_given (share u c) (is_one_group u.forms c.forms) parts.0, each_one u us parts.1)

  one_pairs : (us : List PlainUse) → Pairs (OfUses core forms m banks b AreOne) us → are_one_group us ≡ true
  one_pairs [] h = refl
  one_pairs (u ∷ us) h = and_from (list_all (is_grouped_with u) us) (are_one_group us) (one_each u us h.0) (one_pairs us h.1)

  pairs_one : (us : List PlainUse) → are_one_group us ≡ true → Pairs (OfUses core forms m banks b AreOne) us
  pairs_one [] h = tt
  pairs_one (u ∷ us) h =
      let parts = and_parts (list_all (is_grouped_with u) us) (are_one_group us) h in
      (each_one u us parts.0, pairs_one us parts.1)

  pub grouped_of_body : (n : ℕ) (ops : List PlainOp) → are_one_group (uses_in core forms m n ops) ≡ true → are_grouped core forms (only m b) n ops ≡ true
  grouped_of_body n ops h =
      let places = place_by_pairs (OfOps core forms m banks b AreOne) n ops (uses_of_pairs core forms m banks b AreOne n ops (pairs_one (uses_in core forms m n ops) h)) in
      below_all (λ j. list_all (is_grouped core forms (only m b) n ops j) (numbers_below j)) (length ops) (λ j l.
      below_all (is_grouped core forms (only m b) n ops j) j (λ i k.
      given_or (share_banks core forms (only m b) ops i j) (is_one_group (known_forms core forms (n + i) (op_at core ops i)) (known_forms core forms (n + j) (op_at core ops j))) (places j i l k)))

  pub body_of_grouped : (n : ℕ) (ops : List PlainOp) → are_grouped core forms (only m b) n ops ≡ true → are_one_group (uses_in core forms m n ops) ≡ true
  body_of_grouped n ops h =
      one_pairs (uses_in core forms m n ops) (pairs_of_uses core forms m banks b AreOne n ops (pairs_by_place (OfOps core forms m banks b AreOne) n ops (λ j i l k.
      or_given (share_banks core forms (only m b) ops i j) (is_one_group (known_forms core forms (n + i) (op_at core ops i)) (known_forms core forms (n + j) (op_at core ops j)))
      (all_below (is_grouped core forms (only m b) n ops j) j (all_below (λ j. list_all (is_grouped core forms (only m b) n ops j) (numbers_below j)) (length ops) h j l) i k))))

  abbrev pub AreKept : (f g : Option (List Affine)) → Type 0
  AreKept f g = AreKeptApart (mem core m).kind (Some b) f g

  -- by the memory and its scheme
  kept_here : (a : PlainOp) (p : Bool) → Touches m a p → (f g : Option (List Affine)) → AreKeptApart (kind_at core forms a.mem) (scheme_at (only m b) a.mem) f g → AreKept f g
  kept_here a p t f g h =
      subst (λ s. AreKeptApart (mem core m).kind s f g) (only_here m b)
      (subst (λ x. AreKeptApart (kind_at core forms x) (scheme_at (only m b) x) f g) t.mem_is h)

  here_kept : (a : PlainOp) (p : Bool) → Touches m a p → (f g : Option (List Affine)) → AreKept f g → AreKeptApart (kind_at core forms a.mem) (scheme_at (only m b) a.mem) f g
  here_kept a p t f g h =
      subst (λ x. AreKeptApart (kind_at core forms x) (scheme_at (only m b) x) f g) (sym t.mem_is)
      (subst (λ s. AreKeptApart (mem core m).kind s f g) (sym (only_here m b)) h)

  pub separated_of_body : (n : ℕ) (ops : List PlainOp) → Pairs (OfUses core forms m banks b AreKept) (uses_in core forms m n ops) → AreSeparated core forms (only m b) n ops
  separated_of_body n ops h j i l k s =
      let places = place_by_pairs (OfOps core forms m banks b AreKept) n ops (uses_of_pairs core forms m banks b AreKept n ops h) in
      let t = shared_port core m banks b (op_at core ops i) (op_at core ops j) s in
      here_kept (op_at core ops i) t.0 t.1 _ _ (places j i l k s)

  pub body_of_separated : (n : ℕ) (ops : List PlainOp) → AreSeparated core forms (only m b) n ops → Pairs (OfUses core forms m banks b AreKept) (uses_in core forms m n ops)
  body_of_separated n ops h =
      pairs_of_uses core forms m banks b AreKept n ops (pairs_by_place (OfOps core forms m banks b AreKept) n ops (λ j i l k s.
      let t = shared_port core m banks b (op_at core ops i) (op_at core ops j) s in
      kept_here (op_at core ops i) t.0 t.1 _ _ (h j i l k s)))
