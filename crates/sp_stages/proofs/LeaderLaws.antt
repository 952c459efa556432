-- Leaders: one for all runs that are linked, and for no others.
use Rattle.std.proofs.Common.{◌≡◌, ℕ, zero, suc, ◌<◌, ◌≤◌, ◌==◌, nat_le, Bool, true, false, cond, refl, ap, sym, subst, ◌∙◌, ⊎_elim, eq-eqb, eqb-true, leb-true, arith}
use Rattle.std.proofs.lemmas.Bool.{cases_lt, leb-false}
use Rattle.sp_stages.specs.Chains.{instead, merged, after_links, leaders_before}

either : {A : Type 0} (P : A → Type 0) (b : Bool) (x y : A) → (b ≡ true → P x) → (b ≡ false → P y) → P (cond b x y)
either P true x y h k = h refl
either P false x y h k = k refl

pub record AreLeaders (leader : ℕ → ℕ) : Type 0 where
  pub least : (r : ℕ) → leader r ≤ r
  pub leads : (r : ℕ) → leader (leader r) ≡ leader r

-- the same of a run as of its leader
abbrev pub Keeps : (f leader : ℕ → ℕ) → Type 0
Keeps f leader = (r : ℕ) → f (leader r) ≡ f r

instead_first : (leader : ℕ → ℕ) (a b r : ℕ) → leader r ≡ a → instead leader a b r ≡ a
instead_first leader a b r e = either (λ x. x ≡ a) (leader r == b) a (leader r) (λ t. refl) (λ t. e)

instead_second : (leader : ℕ → ℕ) (a b r : ℕ) → leader r ≡ b → instead leader a b r ≡ a
instead_second leader a b r e = ap (λ t. cond t a (leader r)) (eq-eqb (leader r) b e)

instead_other : (leader : ℕ → ℕ) (a b r : ℕ) → (leader r == b) ≡ false → instead leader a b r ≡ leader r
instead_other leader a b r e = ap (λ t. cond t a (leader r)) e

instead_stays : (leader : ℕ → ℕ) (a b r s : ℕ) → leader r ≡ leader s → instead leader a b r ≡ instead leader a b s
instead_stays leader a b r s e = ap (λ x. cond (x == b) a x) e

module _ (leader : ℕ → ℕ) (p q : ℕ) where
  instead_least : AreLeaders leader → leader p ≤ leader q → (r : ℕ) → instead leader (leader p) (leader q) r ≤ r
  instead_least h le r = either (λ x. x ≤ r) (leader r == leader q) (leader p) (leader r)
      (λ t. let e = eqb-true (leader r) (leader q) t in let l = h.least r in omega (arith, e, l)) (λ t. h.least r)

  instead_leads : AreLeaders leader → (r : ℕ) → (b : Bool) → (leader r == leader q) ≡ b → instead leader (leader p) (leader q) (instead leader (leader p) (leader q) r) ≡ instead leader (leader p) (leader q) r
  instead_leads h r true e =
      let at = instead_second leader (leader p) (leader q) r (eqb-true (leader r) (leader q) e) in
      ap (instead leader (leader p) (leader q)) at ∙ instead_first leader (leader p) (leader q) (leader p) (h.leads p) ∙ sym at
  instead_leads h r false e =
      let at = instead_other leader (leader p) (leader q) r e in
      ap (instead leader (leader p) (leader q)) at ∙ instead_other leader (leader p) (leader q) (leader r) (ap (λ x. x == leader q) (h.leads r) ∙ e) ∙ h.leads r ∙ sym at

  instead_are : AreLeaders leader → leader p ≤ leader q → AreLeaders (instead leader (leader p) (leader q))
  instead_are h le = record { least = instead_least h le; leads = λ r. instead_leads h r (leader r == leader q) refl }

  instead_keeps : (f : ℕ → ℕ) → Keeps f leader → f p ≡ f q → Keeps f (instead leader (leader p) (leader q))
  instead_keeps f h e r = either (λ x. f x ≡ f r) (leader r == leader q) (leader p) (leader r)
      (λ t. h p ∙ e ∙ sym (h q) ∙ ap f (sym (eqb-true (leader r) (leader q) t)) ∙ h r) (λ t. h r)

  instead_joins : instead leader (leader p) (leader q) p ≡ instead leader (leader p) (leader q) q
  instead_joins = instead_first leader (leader p) (leader q) p refl ∙ sym (instead_second leader (leader p) (leader q) q refl)

module _ (leader : ℕ → ℕ) (p q : ℕ) where
  merged_are : AreLeaders leader → AreLeaders (merged leader p q)
  merged_are h = either AreLeaders (nat_le (leader p) (leader q)) (instead leader (leader p) (leader q)) (instead leader (leader q) (leader p))
      (λ t. instead_are leader p q h (leb-true (leader p) (leader q) t))
      (λ t. instead_are leader q p h (let lt = leb-false (leader p) (leader q) t in omega (arith, lt)))

  merged_keeps : (f : ℕ → ℕ) → Keeps f leader → f p ≡ f q → Keeps f (merged leader p q)
  merged_keeps f h e = either (Keeps f) (nat_le (leader p) (leader q)) (instead leader (leader p) (leader q)) (instead leader (leader q) (leader p))
      (λ t. instead_keeps leader p q f h e) (λ t. instead_keeps leader q p f h (sym e))

  merged_joins : merged leader p q p ≡ merged leader p q q
  merged_joins = either (λ l. l p ≡ l q) (nat_le (leader p) (leader q)) (instead leader (leader p) (leader q)) (instead leader (leader q) (leader p))
      (λ t. instead_joins leader p q) (λ t. sym (instead_joins leader q p))

  merged_stays : (r s : ℕ) → leader r ≡ leader s → merged leader p q r ≡ merged leader p q s
  merged_stays r s e = either (λ l. l r ≡ l s) (nat_le (leader p) (leader q)) (instead leader (leader p) (leader q)) (instead leader (leader q) (leader p))
      (λ t. instead_stays leader (leader p) (leader q) r s e) (λ t. instead_stays leader (leader q) (leader p) r s e)

module _ (is_linked : ℕ → ℕ → Bool) where
  links_are : (leader : ℕ → ℕ) (p n : ℕ) → AreLeaders leader → AreLeaders (after_links is_linked leader p n)
  links_are leader p zero h = h
  links_are leader p (suc q) h =
      let k = links_are leader p q h in
      either AreLeaders (is_linked p q) (merged (after_links is_linked leader p q) p q) (after_links is_linked leader p q) (λ t. merged_are (after_links is_linked leader p q) p q k) (λ t. k)

  pub leaders_are : (size n : ℕ) → AreLeaders (leaders_before is_linked size n)
  leaders_are size zero = record { least = λ r. omega arith; leads = λ r. refl }
  leaders_are size (suc p) = links_are (leaders_before is_linked size p) p size (leaders_are size p)

  links_stay : (leader : ℕ → ℕ) (p n r s : ℕ) → leader r ≡ leader s → after_links is_linked leader p n r ≡ after_links is_linked leader p n s
  links_stay leader p zero r s h = h
  links_stay leader p (suc q) r s h =
      let k = links_stay leader p q r s h in
      either (λ l. l r ≡ l s) (is_linked p q) (merged (after_links is_linked leader p q) p q) (after_links is_linked leader p q) (λ t. merged_stays (after_links is_linked leader p q) p q r s k) (λ t. k)

  links_join : (leader : ℕ → ℕ) (p n q : ℕ) → q < n → is_linked p q ≡ true → after_links is_linked leader p n p ≡ after_links is_linked leader p n q
  links_join leader p zero q lt e = absurd (omega arith)
  links_join leader p (suc n) q lt e = ⊎_elim
      (λ b. let k = links_join leader p n q b e in
      either (λ l. l p ≡ l q) (is_linked p n) (merged (after_links is_linked leader p n) p n) (after_links is_linked leader p n) (λ t. merged_stays (after_links is_linked leader p n) p n p q k) (λ t. k))
      (λ b. let same : n ≡ q = omega arith in
      subst (λ j. after_links is_linked leader p (suc n) p ≡ after_links is_linked leader p (suc n) j) same
      (either (λ l. l p ≡ l n) (is_linked p n) (merged (after_links is_linked leader p n) p n) (after_links is_linked leader p n)
      (λ t. merged_joins (after_links is_linked leader p n) p n) (λ t. let no : true ≡ false = sym e ∙ ap (is_linked p) (sym same) ∙ t in absurd (cc))))
      (cases_lt q n)

  -- runs that are linked have one leader
  pub linked_alike : (size n p q : ℕ) → p < n → q < size → is_linked p q ≡ true → leaders_before is_linked size n p ≡ leaders_before is_linked size n q
  linked_alike size zero p q lp lq e = absurd (omega arith)
  linked_alike size (suc n) p q lp lq e = ⊎_elim
      (λ b. links_stay (leaders_before is_linked size n) n size p q (linked_alike size n p q b lq e))
      (λ b. let same : n ≡ p = omega arith in
      subst (λ j. leaders_before is_linked size (suc n) j ≡ leaders_before is_linked size (suc n) q) same
      (links_join (leaders_before is_linked size n) n size q lq (ap (λ j. is_linked j q) same ∙ e)))
      (cases_lt p n)

  module _ (f : ℕ → ℕ) (size : ℕ) (alike : (p q : ℕ) → p < size → q < size → is_linked p q ≡ true → f p ≡ f q) where
    links_keep : (leader : ℕ → ℕ) (p n : ℕ) → p < size → n ≤ size → Keeps f leader → Keeps f (after_links is_linked leader p n)
    links_keep leader p zero lp le h = h
    links_keep leader p (suc q) lp le h =
        let k = links_keep leader p q lp (omega arith) h in
        either (Keeps f) (is_linked p q) (merged (after_links is_linked leader p q) p q) (after_links is_linked leader p q) (λ t. merged_keeps (after_links is_linked leader p q) p q f k (alike p q lp (omega arith) t)) (λ t. k)

    -- what is the same of all that are linked is the same of a run and its leader
    pub leaders_keep : (n : ℕ) → n ≤ size → Keeps f (leaders_before is_linked size n)
    leaders_keep zero le = λ r. refl
    leaders_keep (suc p) le = links_keep (leaders_before is_linked size p) p size (omega arith) (omega arith) (leaders_keep p (omega arith))
