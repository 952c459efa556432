-- A core has no first node that breaks a rule exactly where all rules are kept.
use Rattle.std.proofs.Common.{◌≡◌, ℕ, ◌+◌, Bool, true, false, ◌&&◌, IsTrue, List, [], ◌∷◌, ◌++◌, Option, Some, None, refl}
use Rattle.sp_core.specs.Around.{Around, nothing, within}
use Rattle.sp_core.specs.Invariant.{owned_in, IsRight, AreRight, IsCore, unless, or_else, wrong_node, wrong_stage, wrong_place, IsShown}
use Rattle.sp_core.specs.NodeRules.{with_state}
use Rattle.sp_core.specs.Numbering.{node_count}
use Rattle.sp_core.specs.PlainCore.{PlainNode, PlainStages, inner, outer, fsm, branch, load, store, sparse, no_stage, more_stage, PlainCore}

unless_none : (b : Bool) (n : ℕ) (rest : Option ℕ) → unless b n rest ≡ None → IsTrue b × (rest ≡ None)
unless_none true n rest h = (refl, h)
unless_none false n rest h = absurd (cc)

none_unless : (b : Bool) (n : ℕ) (rest : Option ℕ) → IsTrue b → rest ≡ None → unless b n rest ≡ None
none_unless true n rest b h = h
none_unless false n rest b h = absurd (cc)

or_else_none : (a b : Option ℕ) → or_else a b ≡ None → (a ≡ None) × (b ≡ None)
or_else_none None b h = (refl, h)
or_else_none (Some n) b h = absurd (cc)

none_or_else : (a b : Option ℕ) → a ≡ None → b ≡ None → or_else a b ≡ None
none_or_else None b h k = k
none_or_else (Some n) b h k = absurd (cc)

module _ (core : PlainCore) where
  mutual
    right : (around : Around) (earlier : List ℕ) (n : ℕ) (node : PlainNode) → wrong_node core around earlier n node ≡ None → IsRight core around earlier node
    right around earlier n (outer counters style owned stages) h =
        let r = unless_none _ _ _ h in (r.0, rights (within around counters owned) (earlier ++ owned) (n + 1) stages r.1)
    right around earlier n (fsm start state test body next) h =
        let r = unless_none _ _ _ h in (r.0, right (with_state core around state) (earlier ++ state ∷ []) (n + 1) body r.1)
    right around earlier n (branch test first second) h =
        let r = unless_none _ _ _ h in
        let s = or_else_none _ _ r.1 in
        (r.0, right around earlier (n + 1) first s.0, right around (earlier ++ owned_in first) (n + 1 + node_count first) second s.1)
    right around earlier n (inner counters owned ops comb) h = (unless_none _ _ _ h).0
    right around earlier n (load r m spans) h = (unless_none _ _ _ h).0
    right around earlier n (store r m spans) h = (unless_none _ _ _ h).0
    right around earlier n (sparse kind r m index spans count par) h = (unless_none _ _ _ h).0

    rights : (around : Around) (earlier : List ℕ) (n : ℕ) (stages : PlainStages) → wrong_stage core around earlier n stages ≡ None → AreRight core around earlier stages
    rights around earlier n no_stage h = tt
    rights around earlier n (more_stage first last comb node rest) h =
        let s = or_else_none _ _ h in (right around earlier n node s.0, rights around (earlier ++ owned_in node) (n + node_count node) rest s.1)

  mutual
    none : (around : Around) (earlier : List ℕ) (n : ℕ) (node : PlainNode) → IsRight core around earlier node → wrong_node core around earlier n node ≡ None
    none around earlier n (outer counters style owned stages) h = none_unless _ _ _ h.0 (nones (within around counters owned) (earlier ++ owned) (n + 1) stages h.1)
    none around earlier n (fsm start state test body next) h = none_unless _ _ _ h.0 (none (with_state core around state) (earlier ++ state ∷ []) (n + 1) body h.1)
    none around earlier n (branch test first second) h =
        none_unless _ _ _ h.0 (none_or_else _ _ (none around earlier (n + 1) first h.1) (none around (earlier ++ owned_in first) (n + 1 + node_count first) second h.2))
    none around earlier n (inner counters owned ops comb) h = none_unless _ _ _ h refl
    none around earlier n (load r m spans) h = none_unless _ _ _ h refl
    none around earlier n (store r m spans) h = none_unless _ _ _ h refl
    none around earlier n (sparse kind r m index spans count par) h = none_unless _ _ _ h refl

    nones : (around : Around) (earlier : List ℕ) (n : ℕ) (stages : PlainStages) → AreRight core around earlier stages → wrong_stage core around earlier n stages ≡ None
    nones around earlier n no_stage h = refl
    nones around earlier n (more_stage first last comb node rest) h = none_or_else _ _ (none around earlier n node h.0) (nones around (earlier ++ owned_in node) (n + node_count node) rest h.1)

four : (a b c d : Bool) → IsTrue ((a && b) && (c && d)) → IsTrue a × IsTrue b × IsTrue c × IsTrue d
four true true true true h = (refl, refl, refl, refl)
four false b c d h = absurd (cc)
four true false c d h = absurd (cc)
four true true false d h = absurd (cc)
four true true true false h = absurd (cc)

all_four : (a b c d : Bool) → IsTrue a → IsTrue b → IsTrue c → IsTrue d → IsTrue ((a && b) && (c && d))
all_four true true true true a b c d = refl
all_four false b c d h _ _ _ = absurd (cc)
all_four true false c d _ h _ _ = absurd (cc)
all_four true true false d _ _ h _ = absurd (cc)
all_four true true true false _ _ _ h = absurd (cc)

pub shown : (core : PlainCore) → IsShown core
shown core = (there, back)
  where
    there : wrong_place core ≡ None → IsCore core
    there h =
        let r = unless_none _ _ _ h in
        let d = four _ _ _ _ r.0 in
        record { memories = d.0; ports = d.1; owners = d.2; size = d.3; nodes = right core nothing [] 0 core.root r.1 }

    back : IsCore core → wrong_place core ≡ None
    back c = none_unless _ _ _ (all_four _ _ _ _ c.memories c.ports c.owners c.size) (none core nothing [] 0 core.root c.nodes)
