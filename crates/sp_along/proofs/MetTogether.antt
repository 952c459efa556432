-- Two places at one loop.
use Rattle.std.proofs.Common.{◌≡◌, ℕ, ◌<◌, Bool, true, false, ◌&&◌, not, ℤ, List, [], ◌∷◌, ◌++◌, length, get_or, append_assoc, inl, inr, refl, sym, ap, ◌∙◌, subst}
use Rattle.std.proofs.lemmas.Bool.{and_parts, eqb-true, false≢true}
use Rattle.std.specs.Prelude.{◌⊎◌, ◌==◌, if◌then◌else◌}
use Rattle.sp_core.specs.Events.{At, When, before, in_group_of, in_turn}
use Rattle.sp_core.specs.Meeting.{Together, in_loop, in_one_turn, nowhere, is_group, together_at, go_on, is_in_stream, together}
use Rattle.sp_core.specs.PlainCore.{PlainCore}
use Rattle.sp_core.specs.Scope.{Loop, group_values}
use Rattle.sp_along.specs.MetTraces.{HasGroup, IsTraced, AreAtLoop, AreInOneTurn}

pub choose : (c d e : Bool) (x y : Together) (node g i : ℕ) (one : Bool) → (if c then (if d then (if e then x else nowhere) else y) else nowhere) ≡ in_loop node g i one →
    (c ≡ true) × (((e ≡ true) × (x ≡ in_loop node g i one)) ⊎ (y ≡ in_loop node g i one))
choose true true true x y node g i one h = (refl, inl (refl, h))
choose true true false x y node g i one h = absurd (cc)
choose true false e x y node g i one h = (refl, inr h)
choose false d e x y node g i one h = absurd (cc)

pub no_turns : (b : Bool) (node g i : ℕ) (one : Bool) → (if b then in_one_turn else nowhere) ≡ in_loop node g i one → ⊥
no_turns true node g i one h = cc
no_turns false node g i one h = cc

pub same_when : (w x : When) → is_group w x ≡ true → w ≡ x
same_when before x h = absurd (false≢true h)
same_when (in_group_of g s) before h = absurd (false≢true h)
same_when (in_group_of g s) (in_group_of i r) h =
    let parts = and_parts (g == i) (s == r) h in
    let group : g ≡ i = eqb-true g i parts.0 in
    let stage : s ≡ r = eqb-true s r parts.1 in
    cc
same_when (in_group_of g s) (in_turn t) h = absurd (false≢true h)
same_when (in_turn t) before h = absurd (false≢true h)
same_when (in_turn t) (in_group_of g s) h = absurd (false≢true h)
same_when (in_turn t) (in_turn u) h = ap in_turn (eqb-true t u h)

pub same_at : (a b : At) → a.node ≡ b.node → a.when ≡ b.when → a ≡ b
same_at a b e f = ap (λ x. record { node = x; when = a.when }) e ∙ ap (λ x. record { node = b.node; when = x }) f

same_values : (loops : List Loop) (w : When) (v u : List ℤ) → HasGroup loops w v → HasGroup loops w u → v ≡ u
same_values loops before v u h k = h ∙ sym k
same_values loops (in_group_of g s) v u h k = sym h.1 ∙ k.1
same_values loops (in_turn t) v u h k = h ∙ sym k

-- a controller more around both
one_more : (loops : List At → List Loop) (a b : At) (p q : List At) (values rest others cs ds : List ℤ) (node g i : ℕ) (one : Bool) → a ≡ b → HasGroup (loops []) a.when values → cs ≡ values ++ rest → ds ≡ values ++ others →
    AreAtLoop (λ r. loops (a ∷ r)) p q rest others node g i one → AreAtLoop loops (a ∷ p) (b ∷ q) cs ds node g i one
one_more loops a b p q values rest others cs ds node g i one same h e f at = record {
  around = a ∷ at.around;
  first_inside = at.first_inside;
  second_inside = at.second_inside;
  first_stage = at.first_stage;
  second_stage = at.second_stage;
  first_path = ap (λ r. a ∷ r) at.first_path;
  second_path = ap (λ z. z ∷ q) (sym same) ∙ ap (λ r. a ∷ r) at.second_path;
  stages = at.stages;
  outer = values ++ at.outer;
  first_own = at.first_own;
  second_own = at.second_own;
  outside = (values, at.outer, h, refl, at.outside);
  first_group = at.first_group;
  second_group = at.second_group;
  first = e ∙ ap (λ x. values ++ x) at.first ∙ sym (append_assoc values at.outer (get_or (group_values (loops (a ∷ at.around))) g [] ++ at.first_own));
  second = f ∙ ap (λ x. values ++ x) at.second ∙ sym (append_assoc values at.outer (get_or (group_values (loops (a ∷ at.around))) i [] ++ at.second_own));
}

-- a place in a loop's group
placed : (a : At) (k n g s : ℕ) → a.node ≡ k → a.when ≡ in_group_of n s → n ≡ g → a ≡ record { node = k; when = in_group_of g s }
placed a k n g s e f h = same_at a (record { node = k; when = in_group_of g s }) e (f ∙ ap (λ x. in_group_of x s) h)

-- the controller itself
at_it : (loops : List At → List Loop) (a b : At) (p q : List At) (w x : When) (vs us rest others cs ds : List ℤ) (node g i : ℕ) (one : Bool) → a.when ≡ w → b.when ≡ x → a.node ≡ b.node → HasGroup (loops []) w vs → HasGroup (loops []) x us → cs ≡ vs ++ rest → ds ≡ us ++ others →
    together_at a.node w x ≡ in_loop node g i one → AreAtLoop loops (a ∷ p) (b ∷ q) cs ds node g i one
at_it loops a b p q (in_group_of u s) (in_group_of v r) vs us rest others cs ds node g i one wa wb nodes h k e f is =
    let here : a.node ≡ node = cc in
    let first : u ≡ g = cc in
    let second : v ≡ i = cc in
    let stages : one ≡ (s == r) = cc in
    record {
      around = [];
      first_inside = p;
      second_inside = q;
      first_stage = s;
      second_stage = r;
      first_path = ap (λ z. z ∷ p) (placed a node u g s here wa first);
      second_path = ap (λ z. z ∷ q) (placed b node v i r (sym nodes ∙ here) wb second);
      stages = stages;
      outer = [];
      first_own = rest;
      second_own = others;
      outside = refl;
      first_group = subst (λ n. n < length (group_values (loops []))) first h.0;
      second_group = subst (λ n. n < length (group_values (loops []))) second k.0;
      first = e ∙ ap (λ x. x ++ rest) (sym h.1) ∙ ap (λ n. get_or (group_values (loops [])) n [] ++ rest) first;
      second = f ∙ ap (λ x. x ++ others) (sym k.1) ∙ ap (λ n. get_or (group_values (loops [])) n [] ++ others) second;
    }
at_it loops a b p q (in_turn t) (in_turn u) vs us rest others cs ds node g i one wa wb nodes h k e f is = absurd (no_turns (t == u) node g i one is)
at_it loops a b p q before x vs us rest others cs ds node g i one wa wb nodes h k e f is = absurd (cc)
at_it loops a b p q (in_group_of u s) before vs us rest others cs ds node g i one wa wb nodes h k e f is = absurd (cc)
at_it loops a b p q (in_group_of u s) (in_turn t) vs us rest others cs ds node g i one wa wb nodes h k e f is = absurd (cc)
at_it loops a b p q (in_turn t) before vs us rest others cs ds node g i one wa wb nodes h k e f is = absurd (cc)
at_it loops a b p q (in_turn t) (in_group_of u s) vs us rest others cs ds node g i one wa wb nodes h k e f is = absurd (cc)

pub together_at_loop : (core : PlainCore) (loops : List At → List Loop) (p q : List At) (cs ds : List ℤ) (node g i : ℕ) (one_stage : Bool) → IsTraced loops p cs → IsTraced loops q ds →
    together core p q ≡ in_loop node g i one_stage → AreAtLoop loops p q cs ds node g i one_stage
together_at_loop core loops [] q cs ds node g i one h k e = absurd (cc)
together_at_loop core loops (a ∷ p) [] cs ds node g i one h k e = absurd (cc)
together_at_loop core loops (a ∷ p) (b ∷ q) cs ds node g i one h k e =
    let chosen = choose ((a.node == b.node) && not (is_in_stream core a.node)) (go_on p q) (is_group a.when b.when) (together core p q) (together_at a.node a.when b.when) node g i one e in
    let node_is : a.node ≡ b.node = eqb-true a.node b.node (and_parts (a.node == b.node) (not (is_in_stream core a.node)) chosen.0).0 in
    elim chosen.1 [
      | inl (group, rest) ↦
          let same : a ≡ b = same_at a b node_is (same_when a.when b.when group) in
          let second : IsTraced (λ r. loops (a ∷ r)) q k.1 = subst (λ z. IsTraced (λ r. loops (z ∷ r)) q k.1) (sym same) k.4 in
          let values : k.0 ≡ h.0 = same_values (loops []) a.when k.0 h.0 (subst (λ w. HasGroup (loops []) w k.0) (sym (same_when a.when b.when group)) k.2) h.2 in
          one_more loops a b p q h.0 h.1 k.1 cs ds node g i one same h.2 h.3 (k.3 ∙ ap (λ v. v ++ k.1) values) (together_at_loop core (λ r. loops (a ∷ r)) p q h.1 k.1 node g i one h.4 second rest)
      | inr here ↦ at_it loops a b p q a.when b.when h.0 k.0 h.1 k.1 cs ds node g i one refl refl node_is h.2 k.2 h.3 k.3 here
    ]

choose_turn : (c d e : Bool) (x y : Together) → (if c then (if d then (if e then x else nowhere) else y) else nowhere) ≡ in_one_turn →
    (c ≡ true) × (((e ≡ true) × (x ≡ in_one_turn)) ⊎ (y ≡ in_one_turn))
choose_turn true true true x y h = (refl, inl (refl, h))
choose_turn true true false x y h = absurd (cc)
choose_turn true false e x y h = (refl, inr h)
choose_turn false d e x y h = absurd (cc)

one_turn : (b : Bool) → (if b then in_one_turn else nowhere) ≡ in_one_turn → b ≡ true
one_turn true h = refl
one_turn false h = absurd (cc)

-- the turn itself
in_it : (loops : List At → List Loop) (a b : At) (p q : List At) (w x : When) (vs us rest others cs ds : List ℤ) → a.when ≡ w → b.when ≡ x → a.node ≡ b.node → HasGroup (loops []) w vs → HasGroup (loops []) x us → cs ≡ vs ++ rest → ds ≡ us ++ others →
    together_at a.node w x ≡ in_one_turn → AreInOneTurn loops (a ∷ p) (b ∷ q) cs ds
in_it loops a b p q (in_turn t) (in_turn u) vs us rest others cs ds wa wb nodes h k e f is =
    let turns : t ≡ u = eqb-true t u (one_turn (t == u) is) in
    let same : a ≡ b = same_at a b nodes (wa ∙ ap in_turn turns ∙ sym wb) in
    record {
      around = [];
      here = a;
      first_inside = p;
      second_inside = q;
      first_path = refl;
      second_path = ap (λ z. z ∷ q) (sym same);
      outer = [];
      first_own = rest;
      second_own = others;
      outside = refl;
      first = e ∙ ap (λ v. v ++ rest) h;
      second = f ∙ ap (λ v. v ++ others) k;
    }
in_it loops a b p q (in_group_of u s) (in_group_of v r) vs us rest others cs ds wa wb nodes h k e f is = absurd (cc)
in_it loops a b p q before x vs us rest others cs ds wa wb nodes h k e f is = absurd (cc)
in_it loops a b p q (in_group_of u s) before vs us rest others cs ds wa wb nodes h k e f is = absurd (cc)
in_it loops a b p q (in_group_of u s) (in_turn t) vs us rest others cs ds wa wb nodes h k e f is = absurd (cc)
in_it loops a b p q (in_turn t) before vs us rest others cs ds wa wb nodes h k e f is = absurd (cc)
in_it loops a b p q (in_turn t) (in_group_of u s) vs us rest others cs ds wa wb nodes h k e f is = absurd (cc)

further_in : (loops : List At → List Loop) (a b : At) (p q : List At) (values rest others cs ds : List ℤ) → a ≡ b → HasGroup (loops []) a.when values → cs ≡ values ++ rest → ds ≡ values ++ others →
    AreInOneTurn (λ r. loops (a ∷ r)) p q rest others → AreInOneTurn loops (a ∷ p) (b ∷ q) cs ds
further_in loops a b p q values rest others cs ds same h e f at = record {
  around = a ∷ at.around;
  here = at.here;
  first_inside = at.first_inside;
  second_inside = at.second_inside;
  first_path = ap (λ r. a ∷ r) at.first_path;
  second_path = ap (λ z. z ∷ q) (sym same) ∙ ap (λ r. a ∷ r) at.second_path;
  outer = values ++ at.outer;
  first_own = at.first_own;
  second_own = at.second_own;
  outside = (values, at.outer, h, refl, at.outside);
  first = e ∙ ap (λ x. values ++ x) at.first ∙ sym (append_assoc values at.outer at.first_own);
  second = f ∙ ap (λ x. values ++ x) at.second ∙ sym (append_assoc values at.outer at.second_own);
}

pub together_in_turn : (core : PlainCore) (loops : List At → List Loop) (p q : List At) (cs ds : List ℤ) → IsTraced loops p cs → IsTraced loops q ds → together core p q ≡ in_one_turn → AreInOneTurn loops p q cs ds
together_in_turn core loops [] q cs ds h k e = absurd (cc)
together_in_turn core loops (a ∷ p) [] cs ds h k e = absurd (cc)
together_in_turn core loops (a ∷ p) (b ∷ q) cs ds h k e =
    let chosen = choose_turn ((a.node == b.node) && not (is_in_stream core a.node)) (go_on p q) (is_group a.when b.when) (together core p q) (together_at a.node a.when b.when) e in
    let node_is : a.node ≡ b.node = eqb-true a.node b.node (and_parts (a.node == b.node) (not (is_in_stream core a.node)) chosen.0).0 in
    elim chosen.1 [
      | inl (group, rest) ↦
          let same : a ≡ b = same_at a b node_is (same_when a.when b.when group) in
          let second : IsTraced (λ r. loops (a ∷ r)) q k.1 = subst (λ z. IsTraced (λ r. loops (z ∷ r)) q k.1) (sym same) k.4 in
          let values : k.0 ≡ h.0 = same_values (loops []) a.when k.0 h.0 (subst (λ w. HasGroup (loops []) w k.0) (sym (same_when a.when b.when group)) k.2) h.2 in
          further_in loops a b p q h.0 h.1 k.1 cs ds same h.2 h.3 (k.3 ∙ ap (λ v. v ++ k.1) values) (together_in_turn core (λ r. loops (a ∷ r)) p q h.1 k.1 h.4 second rest)
      | inr here ↦ in_it loops a b p q a.when b.when h.0 k.0 h.1 k.1 cs ds refl refl node_is h.2 k.2 h.3 k.3 here
    ]
