-- What the parts of a core own are memories of it.
use Rattle.std.proofs.Common.{◌≡◌, ℕ, ◌<◌, Bool, true, false, ◌&&◌, ◌||◌, ◌==◌, ◌⊎◌, inl, inr, not, nat_lt, List, [], ◌∷◌, ◌++◌, length, refl, sym, subst}
use Rattle.std.proofs.lemmas.Bool.{and_parts, eqb-true, ltb-true, true≢false}
use Rattle.sp_core.specs.Around.{Around, is_port_kind}
use Rattle.sp_core.specs.Declarations.{mem, is_among}
use Rattle.sp_core.specs.Invariant.{owned_in, owned_in_stages, IsRight, AreRight}
use Rattle.sp_core.specs.NodeRules.{is_owned_once}
use Rattle.sp_core.specs.PlainCore.{PlainNode, PlainStages, inner, outer, fsm, branch, load, store, sparse, no_stage, more_stage, PlainCore}
use Rattle.sp_fitting.proofs.Rules.{here_right}

among_one : (m : ℕ) (xs ys : List ℕ) → is_among m (xs ++ ys) ≡ true → (is_among m xs ≡ true) ⊎ (is_among m ys ≡ true)
among_one m [] ys h = inr h
among_one m (x ∷ xs) ys h = by (m == x) h (among_one m xs ys)
  where
    by : (b : Bool) → (b || is_among m (xs ++ ys)) ≡ true → (is_among m (xs ++ ys) ≡ true → (is_among m xs ≡ true) ⊎ (is_among m ys ≡ true)) → ((b || is_among m xs) ≡ true) ⊎ (is_among m ys ≡ true)
    by true h rest = inl refl
    by false h rest = rest h

module _ (core : PlainCore) where
  once_within : (m : ℕ) (earlier os : List ℕ) → is_owned_once core earlier os ≡ true → is_among m os ≡ true → m < length core.mems
  once_within m earlier [] h own = absurd (true≢false (sym own))
  once_within m earlier (x ∷ rest) h own =
      let a = and_parts ((nat_lt x (length core.mems) && not (is_port_kind (mem core x).kind)) && not (is_among x earlier)) (is_owned_once core (earlier ++ x ∷ []) rest) h in
      let b = and_parts (nat_lt x (length core.mems) && not (is_port_kind (mem core x).kind)) (not (is_among x earlier)) a.0 in
      let c = and_parts (nat_lt x (length core.mems)) (not (is_port_kind (mem core x).kind)) b.0 in
      by (m == x) refl own (ltb-true x (length core.mems) c.0) (once_within m (earlier ++ x ∷ []) rest a.1)
    where
      by : (b : Bool) → (m == x) ≡ b → (b || is_among m rest) ≡ true → x < length core.mems → (is_among m rest ≡ true → m < length core.mems) → m < length core.mems
      by true e q here rest_so = subst (λ y. y < length core.mems) (sym (eqb-true m x e)) here
      by false e q here rest_so = rest_so q

  either : {A B C : Type 0} → A ⊎ B → (A → C) → (B → C) → C
  either (inl a) f g = f a
  either (inr b) f g = g b

  mutual
    pub owned_within : (around : Around) (earlier : List ℕ) (node : PlainNode) → IsRight core around earlier node → (m : ℕ) → is_among m (owned_in node) ≡ true → m < length core.mems
    owned_within around earlier (inner counters owned ops comb) right m own = once_within m earlier owned (here_right core around earlier (inner counters owned ops comb) right).1 own
    owned_within around earlier (outer counters style owned stages) right m own =
        either (among_one m owned (owned_in_stages stages) own) (once_within m earlier owned (here_right core around earlier (outer counters style owned stages) right.0).1) (all_within _ (earlier ++ owned) stages right.1 m)
    owned_within around earlier (fsm start state test body next) right m own =
        either (among_one m (state ∷ []) (owned_in body) own) (once_within m earlier (state ∷ []) (here_right core around earlier (fsm start state test body next) right.0).1) (owned_within _ (earlier ++ state ∷ []) body right.1 m)
    owned_within around earlier (branch test first second) right m own = either (among_one m (owned_in first) (owned_in second) own) (owned_within around earlier first right.1 m) (owned_within around (earlier ++ owned_in first) second right.2 m)
    owned_within around earlier (load r x spans) right m own = absurd (true≢false (sym own))
    owned_within around earlier (store r x spans) right m own = absurd (true≢false (sym own))
    owned_within around earlier (sparse kind r x places spans count par) right m own = absurd (true≢false (sym own))

    all_within : (around : Around) (earlier : List ℕ) (stages : PlainStages) → AreRight core around earlier stages → (m : ℕ) → is_among m (owned_in_stages stages) ≡ true → m < length core.mems
    all_within around earlier no_stage right m own = absurd (true≢false (sym own))
    all_within around earlier (more_stage first last comb node rest) right m own = either (among_one m (owned_in node) (owned_in_stages rest) own) (owned_within around earlier node right.0 m) (all_within around (earlier ++ owned_in node) rest right.1 m)
