-- Labels of vertices tell which of them the edges join.
use Rattle.std.proofs.Common.{◌≡◌, ℕ, zero, suc, ◌+◌, ◌-◌, ◌<◌, ◌||◌, Bool, true, false, List, [], ◌∷◌, ◌++◌, length, drop, map, slice_index, get_or, refl, sym, subst, ◌∙◌, ap, arith}
use Rattle.std.specs.Prelude.{◌==◌, ◌&&◌, not, if◌then◌else◌}
use Rattle.std.proofs.lemmas.List.{drop_more}
use Rattle.std.proofs.lemmas.Bool.Decides.{nat_tests}
use Rattle.sp_tree.specs.Streams.{are_joined, is_forest}
use Rattle.sp_counts.specs.declared.forest.Edge.{Edge}
use Rattle.sp_counts.specs.Streams.{edge_of, AreBelow}

-- two vertices below n are joined exactly where they have one label
pub record Tells (n : ℕ) (labels : List ℕ) (edges : List (ℕ × ℕ)) : Type 0 where
  pub tells : (x y : ℕ) → x < n → y < n → are_joined edges x y ≡ (slice_index labels x == slice_index labels y)

-- one edge more gives its first label's vertices its second label
new_labels : (p q r s : ℕ) → ((p == q) || ((p == r) && (s == q)) || ((p == s) && (r == q))) ≡ ((if p == r then s else p) == (if q == r then s else q))
new_labels p q r s = grind (arith, nat_tests)

pub tells_more : (n : ℕ) (old new : List ℕ) (edges : List (ℕ × ℕ)) (a b : ℕ) → Tells n old edges → a < n → b < n
    → ((x : ℕ) → x < n → slice_index new x ≡ (if slice_index old x == slice_index old a then slice_index old b else slice_index old x))
    → Tells n new ((a, b) ∷ edges)
tells_more n old new edges a b t la lb h = record {
  tells = λ x y lx ly.
      ap (λ u. u || (are_joined edges x a && are_joined edges b y) || (are_joined edges x b && are_joined edges a y)) (t.tells x y lx ly)
      ∙ ap (λ u. (slice_index old x == slice_index old y) || (u && are_joined edges b y) || (are_joined edges x b && are_joined edges a y)) (t.tells x a lx la)
      ∙ ap (λ u. (slice_index old x == slice_index old y) || ((slice_index old x == slice_index old a) && u) || (are_joined edges x b && are_joined edges a y)) (t.tells b y lb ly)
      ∙ ap (λ u. (slice_index old x == slice_index old y) || ((slice_index old x == slice_index old a) && (slice_index old b == slice_index old y)) || (u && are_joined edges a y)) (t.tells x b lx lb)
      ∙ ap (λ u. (slice_index old x == slice_index old y) || ((slice_index old x == slice_index old a) && (slice_index old b == slice_index old y)) || ((slice_index old x == slice_index old b) && u)) (t.tells a y la ly)
      ∙ new_labels (slice_index old x) (slice_index old y) (slice_index old a) (slice_index old b)
      ∙ ap (λ u. u == (if slice_index old y == slice_index old a then slice_index old b else slice_index old y)) (sym (h x lx))
      ∙ ap (λ u. slice_index new x == u) (sym (h y ly));
}

-- a part that is no forest makes the whole none
and_last : (b c : Bool) → c ≡ false → (b && c) ≡ false
and_last true c e = e
and_last false c e = refl

pub part_is_none : (k : ℕ) (edges : List Edge) → is_forest (map edge_of (drop k edges)) ≡ false → is_forest (map edge_of edges) ≡ false
part_is_none zero edges e = e
part_is_none (suc k) [] e = e
part_is_none (suc k) (x ∷ edges) e = and_last (not (are_joined (map edge_of edges) x.one x.two)) (is_forest (map edge_of edges)) (part_is_none k edges e)

-- an edge of those that are below
pub below_at : (n : ℕ) (edges : List Edge) (k : ℕ) (d : Edge) → AreBelow n (map edge_of edges) → k < length edges → ((get_or edges k d).one < n) × ((get_or edges k d).two < n)
below_at n [] k d h lt = absurd (omega (arith, lt))
below_at n (x ∷ edges) zero d h lt = (h.0, h.1)
below_at n (x ∷ edges) (suc k) d h lt = below_at n edges k d h.2 (omega (arith, lt))

-- the k-th edge from the end, and those after it
pub at_end : (edges : List Edge) (k : ℕ) (d : Edge) → k < length edges → drop (length edges - (k + 1)) edges ≡ get_or edges (length edges - 1 - k) d ∷ drop (length edges - k) edges
at_end edges k d lt =
    let first : length edges - (k + 1) ≡ length edges - 1 - k = omega arith in
    let next : length edges - 1 - k + 1 ≡ length edges - k = omega arith in
    ap (λ i. drop i edges) first ∙ drop_more edges (length edges - 1 - k) d (omega arith) ∙ ap (λ i. get_or edges (length edges - 1 - k) d ∷ drop i edges) next

pub below_pushed : (n : ℕ) (edges : List Edge) (e : Edge) → AreBelow n (map edge_of edges) → e.one < n → e.two < n → AreBelow n (map edge_of (edges ++ e ∷ []))
below_pushed n [] e h one two = (one, two, tt)
below_pushed n (x ∷ edges) e h one two = (h.0, h.1, below_pushed n edges e h.2 one two)

no_forest : (joined b : Bool) → joined ≡ true → (not joined && b) ≡ false
no_forest true b e = refl
no_forest false b e = cc

still_forest : (joined b : Bool) → joined ≡ false → b ≡ true → (not joined && b) ≡ true
still_forest true b e f = cc
still_forest false b e f = f

not_is : (b c : Bool) → c ≡ not b → b ≡ not c
not_is true c e = cc
not_is false c e = cc

-- the k-th edge from the end joins what is joined already
pub ends_forest : (n : ℕ) (labels : List ℕ) (edges : List Edge) (k : ℕ) (d : Edge) → k < length edges → AreBelow n (map edge_of edges)
    → Tells n labels (map edge_of (drop (length edges - k) edges))
    → false ≡ not (slice_index labels (get_or edges (length edges - 1 - k) d).one == slice_index labels (get_or edges (length edges - 1 - k) d).two)
    → false ≡ is_forest (map edge_of edges)
ends_forest n labels edges k d lt below t e =
    let x = get_or edges (length edges - 1 - k) d in
    let b = below_at n edges (length edges - 1 - k) d below (omega arith) in
    let same = not_is (slice_index labels x.one == slice_index labels x.two) false e in
    let joined = t.tells x.one x.two b.0 b.1 ∙ same in
    sym (part_is_none (length edges - (k + 1)) edges
    (ap (λ es. is_forest (map edge_of es)) (at_end edges k d lt) ∙ no_forest _ (is_forest (map edge_of (drop (length edges - k) edges))) joined))

-- it joins what isn't joined yet
pub goes_on : (n : ℕ) (labels : List ℕ) (edges : List Edge) (k : ℕ) (d : Edge) → k < length edges → AreBelow n (map edge_of edges)
    → Tells n labels (map edge_of (drop (length edges - k) edges))
    → true ≡ not (slice_index labels (get_or edges (length edges - 1 - k) d).one == slice_index labels (get_or edges (length edges - 1 - k) d).two)
    → is_forest (map edge_of (drop (length edges - k) edges)) ≡ true
    → is_forest (map edge_of (drop (length edges - (k + 1)) edges)) ≡ true
goes_on n labels edges k d lt below t e f =
    let x = get_or edges (length edges - 1 - k) d in
    let b = below_at n edges (length edges - 1 - k) d below (omega arith) in
    let apart = not_is (slice_index labels x.one == slice_index labels x.two) true e in
    let joined = t.tells x.one x.two b.0 b.1 ∙ apart in
    ap (λ es. is_forest (map edge_of es)) (at_end edges k d lt) ∙ still_forest _ (is_forest (map edge_of (drop (length edges - k) edges))) joined f

pub tells_on : (n : ℕ) (old new : List ℕ) (edges : List Edge) (k : ℕ) (d : Edge) → k < length edges → AreBelow n (map edge_of edges)
    → Tells n old (map edge_of (drop (length edges - k) edges))
    → ((x : ℕ) → x < n → slice_index new x ≡ (if slice_index old x == slice_index old (get_or edges (length edges - 1 - k) d).one then slice_index old (get_or edges (length edges - 1 - k) d).two else slice_index old x))
    → Tells n new (map edge_of (drop (length edges - (k + 1)) edges))
tells_on n old new edges k d lt below t h =
    let x = get_or edges (length edges - 1 - k) d in
    let b = below_at n edges (length edges - 1 - k) d below (omega arith) in
    let P : List Edge → Type 0 = λ es. Tells n new (map edge_of es) in
    subst P (sym (at_end edges k d lt)) (tells_more n old new (map edge_of (drop (length edges - k) edges)) x.one x.two t b.0 b.1 h)
