-- Counters in a group of lanes: only the last one differs from lane to lane, and it tells which lanes have an iteration.
use Rattle.std.proofs.Common.{◌≡◌, ℕ, ◌≤◌, Bool, true, false, ℤ, List, [], ◌∷◌, length, refl, sym, ◌∙◌, ap, arith, ◌==◌}
use Rattle.std.proofs.lemmas.Bool.{eq-eqb, ne_eqb}
use Rattle.sp_core.specs.History.{Bounds}
use Rattle.sp_core.specs.PlainCore.{PlainCounter}
use Rattle.sp_core.specs.Scope.{Reading, plainly, loops_of, InGroup, Scope, with_counters, is_live, count_word}
use Rattle.sp_core.specs.Scope as scope
use Rattle.sp_core.specs.Store.{changed}
use Rattle.sp_lanes.specs.Unrolled.{last_number}
use Rattle.sp_lane_groups.specs.LiveStores.{lane_values}
use Rattle.sp_lane_groups.specs.Laws.{GroupsHaveScopes}

abbrev AgreeBut : (last : ℕ) → Scope → Scope → Type 0
AgreeBut last a b = (c : ℕ) → (c ≡ last → ⊥) → count_word (b c) 0 ≡ count_word (a c) 0

-- the last counter may differ, any other has the same word
one_other : (n last : ℕ) (a b : Scope) (x y : InGroup) → (n ≡ last) → AgreeBut last a b → AgreeBut last (changed a n x) (changed b n y)
one_other n last a b x y same h c ne =
    ap (λ t. count_word (elim t as (λ _. InGroup) [ true ↦ y | false ↦ b c ]) 0) apart ∙ h c ne ∙ sym (ap (λ t. count_word (elim t as (λ _. InGroup) [ true ↦ x | false ↦ a c ]) 0) apart)
  where
    apart : (c == n) ≡ false
    apart = ne_eqb c n (λ s. ne (s ∙ same))

one_same : (n last : ℕ) (a b : Scope) (x y : InGroup) → count_word y 0 ≡ count_word x 0 → AgreeBut last a b → AgreeBut last (changed a n x) (changed b n y)
one_same n last a b x y same h c ne = by (c == n)
  where
    by : (t : Bool) → count_word (elim t as (λ _. InGroup) [ true ↦ y | false ↦ b c ]) 0 ≡ count_word (elim t as (λ _. InGroup) [ true ↦ x | false ↦ a c ]) 0
    by true = same
    by false = h c ne

all_others : (counters : List PlainCounter) (bounds : List Bounds) (l : ℕ) (values : List ℤ) (one two : ℕ → Bool) (a b : Scope) → length bounds ≡ length counters → length values ≡ length counters → AgreeBut (last_number counters) a b
    → AgreeBut (last_number counters) (with_counters a (loops_of plainly counters bounds) (lane_values counters 0 values) one) (with_counters b (loops_of plainly counters bounds) (lane_values counters l values) two)
all_others [] bounds l values one two a b e f h = h
all_others (c ∷ counters) [] l values one two a b e f h = absurd (omega (arith, e))
all_others (c ∷ counters) (x ∷ bounds) l [] one two a b e f h = absurd (omega (arith, f))
all_others (c ∷ []) (x ∷ x2 ∷ bounds) l (v ∷ values) one two a b e f h = absurd (omega (arith, e))
all_others (c ∷ []) (x ∷ []) l (v ∷ v2 ∷ values) one two a b e f h = absurd (omega (arith, f))
all_others (c ∷ []) (x ∷ []) l (v ∷ []) one two a b e f h = one_other c.number c.number a b _ _ refl h
all_others (c ∷ d ∷ counters) (x ∷ []) l (v ∷ values) one two a b e f h = absurd (omega (arith, e))
all_others (c ∷ d ∷ counters) (x ∷ x2 ∷ bounds) l (v ∷ []) one two a b e f h = absurd (omega (arith, f))
all_others (c ∷ d ∷ counters) (x ∷ x2 ∷ bounds) l (v ∷ v2 ∷ values) one two a b e f h =
    all_others (d ∷ counters) (x2 ∷ bounds) l (v2 ∷ values) one two (changed a c.number (record { value = v; lane_step = 0; live = one })) (changed b c.number (record { value = v; lane_step = 0; live = two }))
    (omega (arith, e)) (omega (arith, f)) (one_same c.number (last_number (d ∷ counters)) a b (record { value = v; lane_step = 0; live = one }) (record { value = v; lane_step = 0; live = two }) refl h)

last_live : (reading : Reading) (counters : List PlainCounter) (bounds : List Bounds) (values : List ℤ) (live : ℕ → Bool) (a : Scope) → length bounds ≡ length counters → length values ≡ length counters → 1 ≤ length counters → (l : ℕ)
    → (with_counters a (loops_of reading counters bounds) values live (last_number counters)).live l ≡ live l
last_live reading [] bounds values live a e f some l = absurd (omega (arith, some))
last_live reading (c ∷ counters) [] values live a e f some l = absurd (omega (arith, e))
last_live reading (c ∷ counters) (x ∷ bounds) [] live a e f some l = absurd (omega (arith, f))
last_live reading (c ∷ []) (x ∷ x2 ∷ bounds) (v ∷ values) live a e f some l = absurd (omega (arith, e))
last_live reading (c ∷ []) (x ∷ []) (v ∷ v2 ∷ values) live a e f some l = absurd (omega (arith, f))
last_live reading (c ∷ []) (x ∷ []) (v ∷ []) live a e f some l =
    ap (λ t. (elim t as (λ _. InGroup) [ true ↦ record { value = v; lane_step = c.by; live = live } | false ↦ a c.number ]).live l) (eq-eqb c.number c.number refl)
last_live reading (c ∷ d ∷ counters) (x ∷ []) (v ∷ values) live a e f some l = absurd (omega (arith, e))
last_live reading (c ∷ d ∷ counters) (x ∷ x2 ∷ bounds) (v ∷ []) live a e f some l = absurd (omega (arith, f))
last_live reading (c ∷ d ∷ counters) (x ∷ x2 ∷ bounds) (v ∷ v2 ∷ values) live a e f some l =
    last_live reading (d ∷ counters) (x2 ∷ bounds) (v2 ∷ values) live (changed a c.number (record { value = v; lane_step = 0; live = live })) (omega (arith, e)) (omega (arith, f)) (omega arith) l

pub have_scopes : GroupsHaveScopes
have_scopes plain lanes counters bounds values e f = (
  λ c l ne. all_others counters bounds l values (is_live (loops_of plainly counters bounds) (lane_values counters 0 values)) (is_live (loops_of plainly counters bounds) (lane_values counters l values)) plain plain e f (λ d u. refl) c ne,
  λ some l. last_live scope.in_lanes counters bounds values (is_live (loops_of scope.in_lanes counters bounds) values) lanes e f some l,
)
