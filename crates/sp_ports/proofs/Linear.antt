-- Accesses whose forms differ in their constants alone: in one bank only at one element.
use Rattle.std.proofs.Common.{◌≡◌, ℕ, ◌+◌, ◌*◌, Bool, true, false, ℤ, pos, ◌+ℤ◌, ◌*ℤ◌, List, [], ◌∷◌, drop, ◌⊎◌, inl, inr, map, arith, refl, sym, subst, ap, ◌∙◌}
use Rattle.std.proofs.lemmas.Bool.{and_parts, false≢true}
use Rattle.std.proofs.lemmas.Bool.Decides.{Decides-int_eq}
use Rattle.std.proofs.lemmas.Int.{ints}
use Rattle.std.specs.Ordering.{int_eq}
use Rattle.std.specs.Prelude.{◌&&◌, Option}
use Rattle.sp_affine.specs.Affine.{Affine, dot, symbol_value, value_of}
use Rattle.sp_affine.specs.Equality.{linear_parts_equal, Decides-linear_parts_equal}
use Rattle.sp_affine.proofs.Integers.{mul-add_ℤ}
use Rattle.sp_bank.specs.Banking.{Banking}
use Rattle.sp_bank.specs.Places.{weighted, bank}
use Rattle.sp_bank.specs.Separation.{bank_at, weighted_sum, constants, AreApart}
use Rattle.sp_core.specs.Forms.{PlainForms, are_indices}
use Rattle.sp_core.specs.PlainCore.{PlainCore}
use Rattle.sp_plan.specs.Groups.{have_one_linear_part, Apart}
use Rattle.sp_words.specs.declared.kind.Kind.{Kind}
use Rattle.sp_words.specs.declared.kind.Kind.TheVariants as kinds
use Rattle.sp_ports.specs.Banks.{AreInOneBank}
use Rattle.sp_ports.specs.Laws.{SchemesKeepApart}

-- the place of an element is a whole number
weighted_is : (alpha is : List ℕ) → weighted_sum alpha (map pos is) ≡ pos (weighted alpha is)
weighted_is [] is = refl
weighted_is (a ∷ alpha) [] = refl
weighted_is (a ∷ alpha) (i ∷ is) = ap (λ z. (pos a *ℤ pos i) +ℤ z) (weighted_is alpha is)

bank_is : (b : Banking) (is : List ℕ) → bank_at b (pos (weighted b.alpha is)) ≡ pos (bank b is)
bank_is b is = refl

pos_same : (m n : ℕ) → pos m ≡ pos n → m ≡ n
pos_same m n e = omega (arith, ints, e)

regroup : (a d c y s t : ℤ) → (a *ℤ ((d +ℤ c) +ℤ y)) +ℤ (s +ℤ t) ≡ ((a *ℤ (d +ℤ y)) +ℤ s) +ℤ ((a *ℤ c) +ℤ t)
regroup a d c y s t =
    let one : a *ℤ ((d +ℤ c) +ℤ y) ≡ (a *ℤ (d +ℤ c)) +ℤ (a *ℤ y) = mul-add_ℤ (d +ℤ c) y a in
    let two : a *ℤ (d +ℤ c) ≡ (a *ℤ d) +ℤ (a *ℤ c) = mul-add_ℤ d c a in
    let three : a *ℤ (d +ℤ y) ≡ (a *ℤ d) +ℤ (a *ℤ y) = mul-add_ℤ d y a in
    sums (a *ℤ ((d +ℤ c) +ℤ y)) (a *ℤ (d +ℤ c)) (a *ℤ (d +ℤ y)) (a *ℤ d) (a *ℤ c) (a *ℤ y) s t one two three
  where
    sums : (p q r x y z s t : ℤ) → p ≡ q +ℤ z → q ≡ x +ℤ y → r ≡ x +ℤ z → p +ℤ (s +ℤ t) ≡ (r +ℤ s) +ℤ (y +ℤ t)
    sums p q r x y z s t e f g = omega (arith, ints, e, f, g)

module _ (core : PlainCore) (forms : PlainForms) (counters : List ℤ) (symbols : ℕ → ℤ) where
  -- a form without its constant
  abbrev linear : Affine → ℤ
  linear f = dot f.coefs counters +ℤ symbol_value f.symbol symbols

  -- the place of an access is the place of its linear parts and what its constants add
  place_in_parts : (alpha : List ℕ) (fs : List Affine) (is : List ℤ) → are_indices core forms fs is counters symbols ≡ true
      → weighted_sum alpha is ≡ weighted_sum alpha (map linear fs) +ℤ weighted_sum alpha (constants fs)
  place_in_parts [] [] [] h = refl
  place_in_parts [] (f ∷ fs) [] h = absurd (false≢true h)
  place_in_parts [] [] (i ∷ is) h = absurd (false≢true h)
  place_in_parts [] (f ∷ fs) (i ∷ is) h = refl
  place_in_parts (a ∷ alpha) [] [] h = refl
  place_in_parts (a ∷ alpha) [] (i ∷ is) h = absurd (false≢true h)
  place_in_parts (a ∷ alpha) (f ∷ fs) [] h = absurd (false≢true h)
  place_in_parts (a ∷ alpha) (f ∷ fs) (i ∷ is) h =
      let t = and_parts (int_eq (value_of f counters symbols) i) (are_indices core forms fs is counters symbols) h in
      let e : value_of f counters symbols ≡ i = (Decides-int_eq _ _).0 t.0 in
      ap (λ z. (pos a *ℤ z) +ℤ weighted_sum alpha is) (sym e)
      ∙ ap (λ z. (pos a *ℤ value_of f counters symbols) +ℤ z) (place_in_parts alpha fs is t.1)
      ∙ regroup (pos a) (dot f.coefs counters) f.constant (symbol_value f.symbol symbols) (weighted_sum alpha (map linear fs)) (weighted_sum alpha (constants fs))

  -- accesses with one linear part have the same one
  one_linear : (fs gs : List Affine) → have_one_linear_part fs gs ≡ true → map linear fs ≡ map linear gs
  one_linear [] [] h = refl
  one_linear [] (g ∷ gs) h = absurd (false≢true h)
  one_linear (f ∷ fs) [] h = absurd (false≢true h)
  one_linear (f ∷ fs) (g ∷ gs) h =
      let t = and_parts (linear_parts_equal f g) (have_one_linear_part fs gs) h in
      let e = (Decides-linear_parts_equal f g).0 t.0 in
      ap (λ c. (dot c counters +ℤ symbol_value f.symbol symbols) ∷ map linear fs) e.0
      ∙ ap (λ y. (dot g.coefs counters +ℤ symbol_value y symbols) ∷ map linear fs) e.1
      ∙ ap (λ rest. linear g ∷ rest) (one_linear fs gs t.1)

  -- the bank of an access, by its parts
  bank_in_parts : (b : Banking) (fs : List Affine) (is : List ℕ) → are_indices core forms fs (map pos is) counters symbols ≡ true
      → bank_at b (weighted_sum b.alpha (map linear fs) +ℤ weighted_sum b.alpha (constants fs)) ≡ pos (bank b is)
  bank_in_parts b fs is h = ap (bank_at b) (sym (place_in_parts b.alpha fs (map pos is) h) ∙ weighted_is b.alpha is) ∙ bank_is b is

  one_bank : (b : Banking) (fs gs : List Affine) (is js : List ℕ) → have_one_linear_part fs gs ≡ true
      → are_indices core forms fs (map pos is) counters symbols ≡ true → are_indices core forms gs (map pos js) counters symbols ≡ true → bank b is ≡ bank b js
      → bank_at b (weighted_sum b.alpha (map linear fs) +ℤ weighted_sum b.alpha (constants fs)) ≡ bank_at b (weighted_sum b.alpha (map linear fs) +ℤ weighted_sum b.alpha (constants gs))
  one_bank b fs gs is js one p q e =
      bank_in_parts b fs is p ∙ ap pos e ∙ sym (bank_in_parts b gs js q)
      ∙ ap (λ l. bank_at b (weighted_sum b.alpha l +ℤ weighted_sum b.alpha (constants gs))) (sym (one_linear fs gs one))

  -- indices that are the same forms are the same
  same_indices : (fs : List Affine) (is js : List ℕ) → are_indices core forms fs (map pos is) counters symbols ≡ true → are_indices core forms fs (map pos js) counters symbols ≡ true → is ≡ js
  same_indices [] [] [] p q = refl
  same_indices [] [] (j ∷ js) p q = absurd (false≢true q)
  same_indices [] (i ∷ is) js p q = absurd (false≢true p)
  same_indices (f ∷ fs) [] js p q = absurd (false≢true p)
  same_indices (f ∷ fs) (i ∷ is) [] p q = absurd (false≢true q)
  same_indices (f ∷ fs) (i ∷ is) (j ∷ js) p q =
      let s = and_parts (int_eq (value_of f counters symbols) (pos i)) (are_indices core forms fs (map pos is) counters symbols) p in
      let t = and_parts (int_eq (value_of f counters symbols) (pos j)) (are_indices core forms fs (map pos js) counters symbols) q in
      let e : i ≡ j = pos_same i j (sym ((Decides-int_eq _ _).0 s.0) ∙ (Decides-int_eq _ _).0 t.0) in
      ap (λ n. n ∷ is) e ∙ ap (λ rest. j ∷ rest) (same_indices fs is js s.1 t.1)

  -- one form whose index is one has one constant
  same_constant : (f g : Affine) (i j : ℕ) → linear_parts_equal f g ≡ true → int_eq (value_of f counters symbols) (pos i) ≡ true → int_eq (value_of g counters symbols) (pos j) ≡ true → i ≡ j → f.constant ≡ g.constant
  same_constant f g i j one p q e =
      let parts = (Decides-linear_parts_equal f g).0 one in
      let x : value_of f counters symbols ≡ pos i = (Decides-int_eq _ _).0 p in
      let y : value_of g counters symbols ≡ pos j = (Decides-int_eq _ _).0 q in
      cancel (dot f.coefs counters) f.constant (symbol_value f.symbol symbols) (dot g.coefs counters) g.constant (symbol_value g.symbol symbols)
      (ap (λ c. dot c counters) parts.0) (ap (λ y. symbol_value y symbols) parts.1) (x ∙ ap pos e ∙ sym y)
    where
      cancel : (d c y e k z : ℤ) → d ≡ e → y ≡ z → (d +ℤ c) +ℤ y ≡ (e +ℤ k) +ℤ z → c ≡ k
      cancel d c y e k z p q r = omega (arith, ints, p, q, r)

-- whether constants are the same
same_or_not : (xs ys : List ℤ) → (xs ≡ ys → ⊥) ⊎ (xs ≡ ys)
same_or_not [] [] = inr refl
same_or_not [] (y ∷ ys) = inl (λ e. cc)
same_or_not (x ∷ xs) [] = inl (λ e. cc)
same_or_not (x ∷ xs) (y ∷ ys) = first (int_eq x y) refl (same_or_not xs ys)
  where
    first : (b : Bool) → int_eq x y ≡ b → (xs ≡ ys → ⊥) ⊎ (xs ≡ ys) → (x ∷ xs ≡ y ∷ ys → ⊥) ⊎ (x ∷ xs ≡ y ∷ ys)
    first true e (inl n) = inl (λ q. n (ap (drop 1) q))
    first true e (inr p) = inr (ap (λ z. z ∷ xs) ((Decides-int_eq x y).0 e) ∙ ap (λ rest. y ∷ rest) p)
    first false e rest = inl (λ q. let p : x ≡ y = cc in false≢true (sym e ∙ (Decides-int_eq x y).1 p))

-- forms with one linear part and the same constants are the same
same_forms : (fs gs : List Affine) → have_one_linear_part fs gs ≡ true → constants fs ≡ constants gs → fs ≡ gs
same_forms [] [] h e = refl
same_forms [] (g ∷ gs) h e = absurd (false≢true h)
same_forms (f ∷ fs) [] h e = absurd (false≢true h)
same_forms (f ∷ fs) (g ∷ gs) h e =
    let t = and_parts (linear_parts_equal f g) (have_one_linear_part fs gs) h in
    let parts = (Decides-linear_parts_equal f g).0 t.0 in
    let c : f.constant ≡ g.constant = cc in
    ap (λ x. x ∷ fs) (same_form parts.0 c parts.1) ∙ ap (λ rest. g ∷ rest) (same_forms fs gs t.1 (ap (drop 1) e))
  where
    same_form : f.coefs ≡ g.coefs → f.constant ≡ g.constant → f.symbol ≡ g.symbol → f ≡ g
    same_form a b c =
        let change_coefs : List ℤ → Affine = λ x. record { coefs = x; constant = f.constant; symbol = f.symbol } in
        let change_constant : ℤ → Affine = λ x. record { coefs = g.coefs; constant = x; symbol = f.symbol } in
        let change_symbol : Option ℕ → Affine = λ x. record { coefs = g.coefs; constant = g.constant; symbol = x } in
        ap change_coefs a ∙ ap change_constant b ∙ ap change_symbol c

module _ (core : PlainCore) (forms : PlainForms) (counters : List ℤ) (symbols : ℕ → ℤ) (b : Banking) where
  -- those that are apart are in one bank only where their constants are the same
  same_constants : (fs gs : List Affine) (is js : List ℕ) → have_one_linear_part fs gs ≡ true → AreApart b (constants fs) (constants gs)
      → are_indices core forms fs (map pos is) counters symbols ≡ true → are_indices core forms gs (map pos js) counters symbols ≡ true → bank b is ≡ bank b js → constants fs ≡ constants gs
  same_constants fs gs is js one apart p q e = decide (same_or_not (constants fs) (constants gs))
    where
      decide : (constants fs ≡ constants gs → ⊥) ⊎ (constants fs ≡ constants gs) → constants fs ≡ constants gs
      decide (inr same) = same
      decide (inl n) = absurd (apart n (weighted_sum b.alpha (map (linear core forms counters symbols) fs)) (one_bank core forms counters symbols b fs gs is js one p q e))

  abbrev Same : List Affine → List Affine → List ℕ → List ℕ → Type 0
  Same fs gs is js = (fs ≡ gs) × (is ≡ js)

  from_constants : (fs gs : List Affine) (is js : List ℕ) → have_one_linear_part fs gs ≡ true
      → are_indices core forms fs (map pos is) counters symbols ≡ true → are_indices core forms gs (map pos js) counters symbols ≡ true → constants fs ≡ constants gs → Same fs gs is js
  from_constants fs gs is js one p q e =
      let f : fs ≡ gs = same_forms fs gs one e in
      (f, same_indices core forms counters symbols gs is js (subst (λ x. are_indices core forms x (map pos is) counters symbols ≡ true) f p) q)

  plainly : (fs gs : List Affine) (is js : List ℕ) → have_one_linear_part fs gs ≡ true → AreApart b (constants fs) (constants gs)
      → are_indices core forms fs (map pos is) counters symbols ≡ true → are_indices core forms gs (map pos js) counters symbols ≡ true → bank b is ≡ bank b js → Same fs gs is js
  plainly fs gs is js one apart p q e = from_constants fs gs is js one p q (same_constants fs gs is js one apart p q e)

  -- a row of a line buffer, and its columns
  in_rows : (fs gs : List Affine) (is js : List ℕ) → have_one_linear_part fs gs ≡ true → Apart kinds.LineBuf b fs gs
      → are_indices core forms fs (map pos is) counters symbols ≡ true → are_indices core forms gs (map pos js) counters symbols ≡ true → AreInOneBank kinds.LineBuf b is js → Same fs gs is js
  in_rows [] [] is js one apart p q e = from_constants [] [] is js one p q refl
  in_rows [] (g ∷ gs) is js one apart p q e = absurd (false≢true one)
  in_rows (f ∷ fs) [] is js one apart p q e = absurd (false≢true one)
  in_rows (f ∷ fs) (g ∷ gs) [] js one apart p q e = absurd (false≢true p)
  in_rows (f ∷ fs) (g ∷ gs) (i ∷ is) [] one apart p q e = absurd (false≢true q)
  in_rows (f ∷ fs) (g ∷ gs) (i ∷ is) (j ∷ js) one apart p q e =
      let o = and_parts (linear_parts_equal f g) (have_one_linear_part fs gs) one in
      let s = and_parts (int_eq (value_of f counters symbols) (pos i)) (are_indices core forms fs (map pos is) counters symbols) p in
      let t = and_parts (int_eq (value_of g counters symbols) (pos j)) (are_indices core forms gs (map pos js) counters symbols) q in
      let row : f.constant ≡ g.constant = same_constant core forms counters symbols f g i j o.0 s.0 t.0 e.0 in
      let columns : constants fs ≡ constants gs = same_constants fs gs is js o.1 (apart row) s.1 t.1 e.1 in
      from_constants (f ∷ fs) (g ∷ gs) (i ∷ is) (j ∷ js) one p q (ap (λ z. z ∷ constants fs) row ∙ ap (λ rest. g.constant ∷ rest) columns)

pub schemes_keep_apart : SchemesKeepApart
schemes_keep_apart core forms kinds.LineBuf b fs gs is js counters symbols one apart p q e = in_rows core forms counters symbols b fs gs is js one apart p q e
schemes_keep_apart core forms kind b fs gs is js counters symbols one apart p q e = plainly core forms counters symbols b fs gs is js one apart p q e
