-- A forest by a list of edges is one by ways over FIFOs. The edges of a program's block join stages by their list; the FIFOs of
-- its core join them by ways, each step of which is an edge.
use Rattle.std.proofs.Common.{◌≡◌, ℕ, zero, suc, ◌==◌, Bool, true, false, ◌&&◌, ◌||◌, not, List, [], ◌∷◌, ◌++◌, map, length, Option, Some, None, cond, refl, ap, sym, subst, ◌∙◌, true≢false, eqb-true}
use Rattle.std.specs.List.{list_any, list_all}
use Rattle.std.specs.Prelude.{filter, flat_map}
use Rattle.std.proofs.lemmas.Bool.{eq-eqb, not-true, false_from_ne_true}
use Rattle.sp_core.specs.PlainCore.{PlainNode, PlainCore}
use Rattle.sp_tree.specs.Streams as tree
use Rattle.sp_stream.specs.Proper.{other_end, leads_on, between, putter, taker, across, are_joined, closes, is_forest}
use Rattle.sp_sugar.proofs.NumberLemmas.{either}
use Rattle.sp_stream.proofs.Trails.{by_end}
use Rattle.sp_stream.proofs.Ways.{or_elim, or_first, or_second, and_elim, both_true}

abbrev Edges : Type 0
Edges = List (ℕ × ℕ)

abbrev J : Edges → ℕ → ℕ → Type 0
J edges a b = tree.are_joined edges a b ≡ true

-- an edge more joins what was joined, and over it in one direction or the other
module _ (c d : ℕ) (edges : Edges) (a b : ℕ) where
  beside : J edges a b → J ((c, d) ∷ edges) a b
  beside h =
      or_first (tree.are_joined edges a b || (tree.are_joined edges a c && tree.are_joined edges d b)) (tree.are_joined edges a d && tree.are_joined edges c b)
      (or_first (tree.are_joined edges a b) (tree.are_joined edges a c && tree.are_joined edges d b) h)

  over : J edges a c → J edges d b → J ((c, d) ∷ edges) a b
  over h k =
      or_first (tree.are_joined edges a b || (tree.are_joined edges a c && tree.are_joined edges d b)) (tree.are_joined edges a d && tree.are_joined edges c b)
      (or_second (tree.are_joined edges a b) (tree.are_joined edges a c && tree.are_joined edges d b) (both_true (tree.are_joined edges a c) (tree.are_joined edges d b) h k))

  under : J edges a d → J edges c b → J ((c, d) ∷ edges) a b
  under h k =
      or_second (tree.are_joined edges a b || (tree.are_joined edges a c && tree.are_joined edges d b)) (tree.are_joined edges a d && tree.are_joined edges c b)
      (both_true (tree.are_joined edges a d) (tree.are_joined edges c b) h k)

  ways : {P : Type 0} → J ((c, d) ∷ edges) a b → (J edges a b → P) → (J edges a c → J edges d b → P) → (J edges a d → J edges c b → P) → P
  ways e f g h =
      or_elim (tree.are_joined edges a b || (tree.are_joined edges a c && tree.are_joined edges d b)) (tree.are_joined edges a d && tree.are_joined edges c b) e
      (λ k. or_elim (tree.are_joined edges a b) (tree.are_joined edges a c && tree.are_joined edges d b) k f (λ l. and_elim (tree.are_joined edges a c) (tree.are_joined edges d b) l g))
      (λ k. and_elim (tree.are_joined edges a d) (tree.are_joined edges c b) k h)

joined_here : (edges : Edges) (a : ℕ) → J edges a a
joined_here [] a = eq-eqb a a refl
joined_here ((c, d) ∷ edges) a = beside c d edges a a (joined_here edges a)

joined_round : (edges : Edges) (a b : ℕ) → J edges a b → J edges b a
joined_round [] a b h = eq-eqb b a (sym (eqb-true a b h))
joined_round ((c, d) ∷ edges) a b h =
    ways c d edges a b h
    (λ x. beside c d edges b a (joined_round edges a b x))
    (λ ac db. under c d edges b a (joined_round edges d b db) (joined_round edges a c ac))
    (λ ad cb. over c d edges b a (joined_round edges c b cb) (joined_round edges a d ad))

joined_on : (edges : Edges) (a b e : ℕ) → J edges a b → J edges b e → J edges a e
joined_on [] a b e h k = eq-eqb a e (eqb-true a b h ∙ eqb-true b e k)
joined_on ((c, d) ∷ edges) a b e h k =
    ways c d edges a b h
    (λ ab. ways c d edges b e k
    (λ be. beside c d edges a e (joined_on edges a b e ab be))
    (λ bc de. over c d edges a e (joined_on edges a b c ab bc) de)
    (λ bd ce. under c d edges a e (joined_on edges a b d ab bd) ce))
    (λ ac db. ways c d edges b e k
    (λ be. over c d edges a e ac (joined_on edges d b e db be))
    (λ bc de. over c d edges a e ac de)
    (λ bd ce. beside c d edges a e (joined_on edges a c e ac ce)))
    (λ ad cb. ways c d edges b e k
    (λ be. under c d edges a e ad (joined_on edges c b e cb be))
    (λ bc de. beside c d edges a e (joined_on edges a d e ad de))
    (λ bd ce. under c d edges a e ad ce))

leads_elim : {P : Type 0} (goes : ℕ → Bool) (end : Option ℕ) → leads_on goes end ≡ true → ((c : ℕ) → end ≡ Some c → goes c ≡ true → P) → P
leads_elim goes (Some c) e f = f c refl e
leads_elim goes None e f = absurd (true≢false (sym e))

-- both ends of a FIFO, if they are there, are joined
abbrev fine : Edges → Option ℕ → Option ℕ → Bool
fine edges (Some p) (Some q) = tree.are_joined edges p q
fine edges _ _ = true

fine_more : (edge : ℕ × ℕ) (edges : Edges) (first second : Option ℕ) → fine edges first second ≡ true → fine (edge ∷ edges) first second ≡ true
fine_more (c, d) edges (Some p) (Some q) h = beside c d edges p q h
fine_more edge edges None second h = refl
fine_more edge edges (Some p) None h = refl

across_joined : (edges : Edges) (first second : Option ℕ) (a c : ℕ) → fine edges first second ≡ true → other_end first second a ≡ Some c → J edges a c
across_joined edges (Some p) (Some q) a c h e =
    by_end (a == p) (a == q) p q c e
    (λ ap' qc. subst (λ x. J edges x c) (sym (eqb-true a p ap')) (subst (λ x. J edges p x) qc h))
    (λ aq pc. subst (λ x. J edges x c) (sym (eqb-true a q aq)) (subst (λ x. J edges q x) pc (joined_round edges p q h)))
across_joined edges None second a c h e = absurd (true≢false (ap (λ o. elim o [ Some z ↦ false | None ↦ true ]) e))
across_joined edges (Some p) None a c h e = absurd (true≢false (ap (λ o. elim o [ Some z ↦ false | None ↦ true ]) e))

all_any : {P : Type 0} (test is : ℕ → Bool) (ks : List ℕ) → list_all is ks ≡ true → list_any test ks ≡ true → ((k : ℕ) → is k ≡ true → test k ≡ true → P) → P
all_any test is [] h e f = absurd (true≢false (sym e))
all_any test is (k ∷ ks) h e f = and_elim (is k) (list_all is ks) h (λ i j. or_elim (test k) (list_any test ks) e (λ t. f k i t) (λ t. all_any test is ks j t f))

between_elim : {P : Type 0} (are : ℕ → ℕ → Bool) (first second : Option ℕ) → between are first second ≡ true → ((p q : ℕ) → first ≡ Some p → second ≡ Some q → are p q ≡ true → P) → P
between_elim are (Some p) (Some q) h f = f p q refl refl h
between_elim are None second h f = absurd (true≢false (sym h))
between_elim are (Some p) None h f = absurd (true≢false (sym h))

fine_added : (es edges : Edges) (first second : Option ℕ) → fine edges first second ≡ true → fine (es ++ edges) first second ≡ true
fine_added [] edges first second h = h
fine_added (e ∷ es) edges first second h = fine_more e (es ++ edges) first second (fine_added es edges first second h)

-- edges after others are a forest, too
forest_after : (es edges : Edges) → tree.is_forest (es ++ edges) ≡ true → tree.is_forest edges ≡ true
forest_after [] edges h = h
forest_after ((a, b) ∷ es) edges h = and_elim (not (tree.are_joined (es ++ edges) a b)) (tree.is_forest (es ++ edges)) h (λ x y. forest_after es edges y)

-- what holds of each number of a list
abbrev pub Each : (ℕ → Type 0) → List ℕ → Type 0
Each P [] = Unit {0}
Each P (k ∷ ks) = P k × Each P ks

module _ (core : PlainCore) (nodes : List PlainNode) where
  abbrev is_fine : Edges → ℕ → Bool
  is_fine edges k = fine edges (putter core nodes k) (taker core nodes k)

  all_fine_more : (es edges : Edges) (ks : List ℕ) → list_all (is_fine edges) ks ≡ true → list_all (is_fine (es ++ edges)) ks ≡ true
  all_fine_more es edges [] h = refl
  all_fine_more es edges (k ∷ ks) h =
      and_elim (is_fine edges k) (list_all (is_fine edges) ks) h
      (λ x y. both_true (is_fine (es ++ edges) k) (list_all (is_fine (es ++ edges)) ks) (fine_added es edges (putter core nodes k) (taker core nodes k) x) (all_fine_more es edges ks y))

  -- a way over such FIFOs joins what the edges do
  ways_joined : (edges : Edges) (fifos : List ℕ) → list_all (is_fine edges) fifos ≡ true → (n a b : ℕ) → are_joined core nodes fifos n a b ≡ true → J edges a b
  ways_joined edges fifos all zero a b h = subst (λ x. J edges a x) (eqb-true a b h) (joined_here edges a)
  ways_joined edges fifos all (suc n) a b h =
      or_elim (a == b) _ h
      (λ e. subst (λ x. J edges a x) (eqb-true a b e) (joined_here edges a))
      (λ e. all_any (λ m. leads_on (λ c. are_joined core nodes fifos n c b) (across core nodes m a)) (is_fine edges) fifos all e
      (λ m i t. leads_elim (λ c. are_joined core nodes fifos n c b) (across core nodes m a) t
      (λ c s j. joined_on edges a c b (across_joined edges (putter core nodes m) (taker core nodes m) a c i s) (ways_joined edges fifos all n c b j))))

  -- FIFOs of a program, each with the edge of its ends, if both are there; and registers, which have no end
  module _ (number : ℕ → ℕ) (is_fifo : ℕ → Bool) (edge : ℕ → Edges) (others : List ℕ) where
    abbrev pub edges_of : List ℕ → Edges
    edges_of ms = flat_map edge (filter is_fifo ms)

    abbrev pub all_of : List ℕ → List ℕ
    all_of ms = map number ms ++ others

    -- what the core has of an edge stands in the program
    abbrev pub HasEnds : ℕ → Type 0
    HasEnds m = (a b : ℕ) → putter core nodes (number m) ≡ Some a → taker core nodes (number m) ≡ Some b → (is_fifo m ≡ true) × (edge m ≡ (a, b) ∷ [])

    with_fifo : (m : ℕ) (ms : List ℕ) → is_fifo m ≡ true → edges_of (m ∷ ms) ≡ edge m ++ edges_of ms
    with_fifo m ms e = ap (λ b. flat_map edge (cond b (m ∷ filter is_fifo ms) (filter is_fifo ms))) e

    without_fifo : (m : ℕ) (ms : List ℕ) → is_fifo m ≡ false → edges_of (m ∷ ms) ≡ edges_of ms
    without_fifo m ms e = ap (λ b. flat_map edge (cond b (m ∷ filter is_fifo ms) (filter is_fifo ms))) e

    fine_one_more : (m : ℕ) (ms ks : List ℕ) → list_all (is_fine (edges_of ms)) ks ≡ true → list_all (is_fine (edges_of (m ∷ ms))) ks ≡ true
    fine_one_more m ms ks h = either (is_fifo m)
        (λ e. subst (λ x. list_all (is_fine x) ks ≡ true) (sym (with_fifo m ms e)) (all_fine_more (edge m) (edges_of ms) ks h))
        (λ e. subst (λ x. list_all (is_fine x) ks ≡ true) (sym (without_fifo m ms e)) h)

    fine_others : (edges : Edges) (ks : List ℕ) → Each (λ k. putter core nodes k ≡ None) ks → list_all (is_fine edges) ks ≡ true
    fine_others edges [] h = refl
    fine_others edges (k ∷ ks) (e, h) = both_true (is_fine edges k) (list_all (is_fine edges) ks) (ap (λ o. fine edges o (taker core nodes k)) e) (fine_others edges ks h)

    fine_head : (m : ℕ) (ms : List ℕ) → HasEnds m → (first second : Option ℕ) → putter core nodes (number m) ≡ first → taker core nodes (number m) ≡ second → fine (edges_of (m ∷ ms)) first second ≡ true
    fine_head m ms h (Some p) (Some q) e f =
        let is = h p q e f in
        subst (λ x. tree.are_joined x p q ≡ true) (sym (with_fifo m ms is.0 ∙ ap (λ x. x ++ edges_of ms) is.1))
        (over p q (edges_of ms) p q (joined_here (edges_of ms) p) (joined_here (edges_of ms) q))
    fine_head m ms h None second e f = refl
    fine_head m ms h (Some p) None e f = refl

    fine_all : (ms : List ℕ) → Each HasEnds ms → Each (λ k. putter core nodes k ≡ None) others → list_all (is_fine (edges_of ms)) (all_of ms) ≡ true
    fine_all [] h k = fine_others [] others k
    fine_all (m ∷ ms) (h, hs) k =
        both_true (is_fine (edges_of (m ∷ ms)) (number m)) (list_all (is_fine (edges_of (m ∷ ms))) (all_of ms))
        (fine_head m ms h (putter core nodes (number m)) (taker core nodes (number m)) refl refl)
        (fine_one_more m ms (all_of ms) (fine_all ms hs k))

    forest_before : (m : ℕ) (ms : List ℕ) → tree.is_forest (edges_of (m ∷ ms)) ≡ true → tree.is_forest (edges_of ms) ≡ true
    forest_before m ms h = either (is_fifo m)
        (λ e. forest_after (edge m) (edges_of ms) (sym (ap tree.is_forest (with_fifo m ms e)) ∙ h))
        (λ e. sym (ap tree.is_forest (without_fifo m ms e)) ∙ h)

    no_circle : (m : ℕ) (ms : List ℕ) → HasEnds m → Each HasEnds ms → Each (λ k. putter core nodes k ≡ None) others → tree.is_forest (edges_of (m ∷ ms)) ≡ true → closes core nodes (all_of ms) (number m) ≡ true → ⊥
    no_circle m ms h hs k f c =
        between_elim (are_joined core nodes (all_of ms) (length (all_of ms))) (putter core nodes (number m)) (taker core nodes (number m)) c
        (λ p q e g j.
        let is = h p q e g in
        let same : edges_of (m ∷ ms) ≡ (p, q) ∷ edges_of ms = with_fifo m ms is.0 ∙ ap (λ x. x ++ edges_of ms) is.1 in
        let joined : J (edges_of ms) p q = ways_joined (edges_of ms) (all_of ms) (fine_all ms hs k) (length (all_of ms)) p q j in
        and_elim (not (tree.are_joined (edges_of ms) p q)) (tree.is_forest (edges_of ms)) (sym (ap tree.is_forest same) ∙ f) (λ x y. true≢false (sym joined ∙ not-true (tree.are_joined (edges_of ms) p q) x)))

    forest_of_others : (ks : List ℕ) → Each (λ k. putter core nodes k ≡ None) ks → is_forest core nodes ks ≡ true
    forest_of_others [] h = refl
    forest_of_others (k ∷ ks) (e, h) =
        both_true (is_forest core nodes ks) (not (closes core nodes ks k)) (forest_of_others ks h)
        (ap (λ o. not (between (are_joined core nodes ks (length ks)) o (taker core nodes k))) e)

    pub forests : (ms : List ℕ) → Each HasEnds ms → Each (λ k. putter core nodes k ≡ None) others → tree.is_forest (edges_of ms) ≡ true → is_forest core nodes (all_of ms) ≡ true
    forests [] h k f = forest_of_others others k
    forests (m ∷ ms) (h, hs) k f =
        both_true (is_forest core nodes (all_of ms)) (not (closes core nodes (all_of ms) (number m)))
        (forests ms hs k (forest_before m ms f))
        (ap not (false_from_ne_true (closes core nodes (all_of ms) (number m)) (no_circle m ms h hs k f)))
