-- What the nodes of a core own is apart: each memory has one owner.
use Rattle.std.proofs.Common.{◌≡◌, ℕ, zero, suc, ◌<◌, Bool, true, false, ◌&&◌, ◌||◌, ◌==◌, ◌⊎◌, inl, inr, not, nat_lt, List, [], ◌∷◌, ◌++◌, length, refl, sym, subst, arith}
use Rattle.std.proofs.lemmas.Bool.{and_parts, eqb-true, ltb-true, true≢false}
use Rattle.sp_words.specs.declared.kind.Style.{Style}
use Rattle.sp_core.specs.Around.{Around, is_port_kind}
use Rattle.sp_core.specs.Declarations.{mem, is_among}
use Rattle.sp_core.specs.Invariant.{owned_in, owned_in_stages, IsRight, AreRight}
use Rattle.sp_core.specs.NodeRules.{is_owned_once}
use Rattle.sp_core.specs.PlainCore.{PlainOp, PlainCounter, PlainNode, PlainStages, inner, outer, fsm, branch, load, store, sparse, no_stage, more_stage, PlainCore}
use Rattle.sp_fitting.proofs.Rules.{here_right}
use Rattle.sp_node_runs.specs.Runs.{stage_at}
use Rattle.sp_owner_runs.proofs.Among.{not_true, never_both, among_left, among_right, among_first, among_one, among_none}

off : (b : Bool) → not b ≡ true → b ≡ false
off true h = absurd (true≢false (sym h))
off false h = refl

module _ (core : PlainCore) where
  abbrev NotAmong : ℕ → List ℕ → Type 0
  NotAmong m xs = is_among m xs ≡ false

  -- what a node itself owns isn't among what is owned before
  once : (m : ℕ) (earlier os : List ℕ) → is_owned_once core earlier os ≡ true → is_among m os ≡ true → NotAmong m earlier
  once m earlier [] h own = absurd (true≢false (sym own))
  once m earlier (x ∷ rest) h own =
      let a = and_parts ((nat_lt x (length core.mems) && not (is_port_kind (mem core x).kind)) && not (is_among x earlier)) (is_owned_once core (earlier ++ x ∷ []) rest) h in
      let b = and_parts (nat_lt x (length core.mems) && not (is_port_kind (mem core x).kind)) (not (is_among x earlier)) a.0 in
      by (m == x) refl own (off (is_among x earlier) b.1) (λ q. (among_none m earlier (x ∷ []) (once m (earlier ++ x ∷ []) rest a.1 q)).0)
    where
      by : (b : Bool) → (m == x) ≡ b → (b || is_among m rest) ≡ true → NotAmong x earlier → (is_among m rest ≡ true → NotAmong m earlier) → NotAmong m earlier
      by true e q here rest_so = subst (λ y. NotAmong y earlier) (sym (eqb-true m x e)) here
      by false e q here rest_so = rest_so q

  -- each is a memory of the core
  once_within : (m : ℕ) (earlier os : List ℕ) → is_owned_once core earlier os ≡ true → is_among m os ≡ true → m < length core.mems
  once_within m earlier [] h own = absurd (true≢false (sym own))
  once_within m earlier (x ∷ rest) h own =
      let a = and_parts ((nat_lt x (length core.mems) && not (is_port_kind (mem core x).kind)) && not (is_among x earlier)) (is_owned_once core (earlier ++ x ∷ []) rest) h in
      let b = and_parts (nat_lt x (length core.mems) && not (is_port_kind (mem core x).kind)) (not (is_among x earlier)) a.0 in
      let c = and_parts (nat_lt x (length core.mems)) (not (is_port_kind (mem core x).kind)) b.0 in
      by (m == x) refl own (ltb-true x (length core.mems) c.0) (once_within m (earlier ++ x ∷ []) rest a.1)
    where
      by : (b : Bool) → (m == x) ≡ b → (b || is_among m rest) ≡ true → x < length core.mems → (is_among m rest ≡ true → m < length core.mems) → m < length core.mems
      by true e q here rest_so = subst (λ y. y < length core.mems) (sym (eqb-true m x e)) here
      by false e q here rest_so = rest_so q

  mutual
    -- nor is what its parts own
    pub apart : (around : Around) (earlier : List ℕ) (node : PlainNode) → IsRight core around earlier node → (m : ℕ) → is_among m (owned_in node) ≡ true → NotAmong m earlier
    apart around earlier (inner counters owned ops comb) right m own = once m earlier owned (here_right core around earlier (inner counters owned ops comb) right).1 own
    apart around earlier (outer counters style owned stages) right m own = by (among_one m owned (owned_in_stages stages) own) (once m earlier owned (here_right core around earlier (outer counters style owned stages) right.0).1) (all_apart _ (earlier ++ owned) stages right.1 m)
      where
        by : (is_among m owned ≡ true) ⊎ (is_among m (owned_in_stages stages) ≡ true) → (is_among m owned ≡ true → NotAmong m earlier) → (is_among m (owned_in_stages stages) ≡ true → NotAmong m (earlier ++ owned)) → NotAmong m earlier
        by (inl h) one other = one h
        by (inr h) one other = (among_none m earlier owned (other h)).0
    apart around earlier (fsm start state test body next) right m own = by (among_one m (state ∷ []) (owned_in body) own) (once m earlier (state ∷ []) (here_right core around earlier (fsm start state test body next) right.0).1) (apart _ (earlier ++ state ∷ []) body right.1 m)
      where
        by : (is_among m (state ∷ []) ≡ true) ⊎ (is_among m (owned_in body) ≡ true) → (is_among m (state ∷ []) ≡ true → NotAmong m earlier) → (is_among m (owned_in body) ≡ true → NotAmong m (earlier ++ state ∷ [])) → NotAmong m earlier
        by (inl h) one other = one h
        by (inr h) one other = (among_none m earlier (state ∷ []) (other h)).0
    apart around earlier (branch test first second) right m own = by (among_one m (owned_in first) (owned_in second) own) (apart around earlier first right.1 m) (apart around (earlier ++ owned_in first) second right.2 m)
      where
        by : (is_among m (owned_in first) ≡ true) ⊎ (is_among m (owned_in second) ≡ true) → (is_among m (owned_in first) ≡ true → NotAmong m earlier) → (is_among m (owned_in second) ≡ true → NotAmong m (earlier ++ owned_in first)) → NotAmong m earlier
        by (inl h) one other = one h
        by (inr h) one other = (among_none m earlier (owned_in first) (other h)).0
    apart around earlier (load r m spans) right x own = absurd (true≢false (sym own))
    apart around earlier (store r m spans) right x own = absurd (true≢false (sym own))
    apart around earlier (sparse kind r m places spans count par) right x own = absurd (true≢false (sym own))

    pub all_apart : (around : Around) (earlier : List ℕ) (stages : PlainStages) → AreRight core around earlier stages → (m : ℕ) → is_among m (owned_in_stages stages) ≡ true → NotAmong m earlier
    all_apart around earlier no_stage right m own = absurd (true≢false (sym own))
    all_apart around earlier (more_stage first last comb node rest) right m own = by (among_one m (owned_in node) (owned_in_stages rest) own) (apart around earlier node right.0 m) (all_apart around (earlier ++ owned_in node) rest right.1 m)
      where
        by : (is_among m (owned_in node) ≡ true) ⊎ (is_among m (owned_in_stages rest) ≡ true) → (is_among m (owned_in node) ≡ true → NotAmong m earlier) → (is_among m (owned_in_stages rest) ≡ true → NotAmong m (earlier ++ owned_in node)) → NotAmong m earlier
        by (inl h) one other = one h
        by (inr h) one other = (among_none m earlier (owned_in node) (other h)).0

  -- the sides of a branch
  module _ (around : Around) (earlier : List ℕ) (test : List PlainOp) (first second : PlainNode) (right : IsRight core around earlier (branch test first second)) (m : ℕ) where
    pub not_first : is_among m (owned_in second) ≡ true → NotAmong m (owned_in first)
    not_first own = (among_none m earlier (owned_in first) (apart around (earlier ++ owned_in first) second right.2 m own)).1

    pub not_second : is_among m (owned_in first) ≡ true → NotAmong m (owned_in second)
    not_second own = not_true (is_among m (owned_in second)) (λ h. never_both (is_among m (owned_in first)) own (not_first h))

  -- an FSM and its body
  module _ (around : Around) (earlier : List ℕ) (start : List PlainOp) (state : ℕ) (test : List PlainOp) (body : PlainNode) (next : List PlainOp) (right : IsRight core around earlier (fsm start state test body next)) where
    pub not_state : (m : ℕ) → is_among m (owned_in body) ≡ true → NotAmong m (state ∷ [])
    not_state m own = (among_none m earlier (state ∷ []) (apart _ (earlier ++ state ∷ []) body right.1 m own)).1

    pub state_apart : NotAmong state (owned_in body)
    state_apart = not_true (is_among state (owned_in body)) (λ h. never_both (is_among state (state ∷ [])) (among_first state []) (not_state state h))

  -- what stage a memory of stages is in
  pub in_stages : (stages : PlainStages) (i m : ℕ) → is_among m (owned_in (stage_at stages i)) ≡ true → is_among m (owned_in_stages stages) ≡ true
  in_stages no_stage i m h = h
  in_stages (more_stage first last comb node rest) zero m h = among_left m (owned_in node) (owned_in_stages rest) h
  in_stages (more_stage first last comb node rest) (suc i) m h = among_right m (owned_in node) (owned_in_stages rest) (in_stages rest i m h)

  one_stage : (around : Around) (earlier : List ℕ) (stages : PlainStages) → AreRight core around earlier stages → (m i j : ℕ) → i < j → is_among m (owned_in (stage_at stages i)) ≡ true → is_among m (owned_in (stage_at stages j)) ≡ true → ⊥
  one_stage around earlier no_stage right m i j l a b = absurd (true≢false (sym a))
  one_stage around earlier (more_stage first last comb node rest) right m i zero l a b = absurd (omega (arith, l))
  one_stage around earlier (more_stage first last comb node rest) right m zero (suc j) l a b =
      never_both (is_among m (owned_in node)) a (among_none m earlier (owned_in node) (all_apart around (earlier ++ owned_in node) rest right.1 m (in_stages rest j m b))).1
  one_stage around earlier (more_stage first last comb node rest) right m (suc i) (suc j) l a b = one_stage around (earlier ++ owned_in node) rest right.1 m i j (omega (arith, l)) a b

  -- a loop and its stages
  module _ (around : Around) (earlier : List ℕ) (counters : List PlainCounter) (style : Style) (owned : List ℕ) (stages : PlainStages) (right : IsRight core around earlier (outer counters style owned stages)) (m : ℕ) where
    pub of_core : is_among m owned ≡ true → m < length core.mems
    of_core own = once_within m earlier owned (here_right core around earlier (outer counters style owned stages) right.0).1 own

    pub not_of_loop : is_among m (owned_in_stages stages) ≡ true → NotAmong m owned
    not_of_loop own = (among_none m earlier owned (all_apart _ (earlier ++ owned) stages right.1 m own)).1

    pub not_of_stages : is_among m owned ≡ true → NotAmong m (owned_in_stages stages)
    not_of_stages own = not_true (is_among m (owned_in_stages stages)) (λ h. never_both (is_among m owned) own (not_of_loop h))

    pub not_of_stage : is_among m owned ≡ true → (i : ℕ) → NotAmong m (owned_in (stage_at stages i))
    not_of_stage own i = not_true (is_among m (owned_in (stage_at stages i))) (λ h. never_both (is_among m (owned_in_stages stages)) (in_stages stages i m h) (not_of_stages own))

    pub not_of_others : (i : ℕ) → is_among m (owned_in (stage_at stages i)) ≡ true → (j : ℕ) → (j < i) ⊎ (i < j) → NotAmong m (owned_in (stage_at stages j))
    not_of_others i own j (inl l) = not_true (is_among m (owned_in (stage_at stages j))) (λ h. one_stage _ (earlier ++ owned) stages right.1 m j i l h own)
    not_of_others i own j (inr l) = not_true (is_among m (owned_in (stage_at stages j))) (λ h. one_stage _ (earlier ++ owned) stages right.1 m i j l own h)
