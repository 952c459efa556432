-- Which node owns a memory, by the numbers of nodes; and that a core without `Stream` blocks has none at any number.
use Rattle.std.proofs.Common.{◌≡◌, ℕ, suc, ◌+◌, ◌<◌, ◌≤◌, Bool, true, false, List, [], ◌∷◌, ◌++◌, arith, refl, ap, ◌∙◌}
use Rattle.std.proofs.lemmas.Bool.{ne_eqb, eq-eqb, or_from, or_parts}
use Rattle.std.specs.List.{list_any}
use Rattle.std.specs.Prelude.{◌==◌, ◌&&◌, ◌||◌}
use Rattle.sp_core.specs.Declarations.{is_among}
use Rattle.sp_core.specs.Meeting.{Outer, outers, outers_in, is_in_stream, owns}
use Rattle.sp_core.specs.Numbering.{node_count, node_count_in}
use Rattle.sp_core.specs.PlainCore.{PlainNode, PlainStages, inner, outer, fsm, branch, load, store, sparse, no_stage, more_stage, PlainCore}
use Rattle.sp_time.specs.Lists.{Each}
use Rattle.sp_overlap.specs.Whole.{IsTimed, AreTimed}

each_append : (Q : Outer → Type 0) (a b : List Outer) → Each Q a → Each Q b → Each Q (a ++ b)
each_append Q [] b h k = k
each_append Q (x ∷ a) b h k = (h.0, each_append Q a b h.1 k)

-- no `Stream` block
mutual
  no_stream : (node : PlainNode) (k : ℕ) → IsTimed node → Each (λ (o : Outer). o.stream ≡ false) (outers k node)
  no_stream (inner counters owned ops comb) k t = tt
  no_stream (outer counters style owned stages) k t = (t.0, no_streams stages (suc k) t.1)
  no_stream (fsm start state test body next) k t = no_stream body (suc k) t
  no_stream (branch test first second) k t = each_append (λ (o : Outer). o.stream ≡ false) (outers (suc k) first) (outers (suc k + node_count first) second) (no_stream first (suc k) t.0) (no_stream second (suc k + node_count first) t.1)
  no_stream (load r m spans) k t = tt
  no_stream (store r m spans) k t = tt
  no_stream (sparse kind r m places spans count par) k t = tt

  no_streams : (stages : PlainStages) (k : ℕ) → AreTimed stages → Each (λ (o : Outer). o.stream ≡ false) (outers_in k stages)
  no_streams no_stage k t = tt
  no_streams (more_stage first last comb node rest) k t = each_append (λ (o : Outer). o.stream ≡ false) (outers k node) (outers_in (k + node_count node) rest) (no_stream node k t.0) (no_streams rest (k + node_count node) t.1)

pub none_streams : (core : PlainCore) → IsTimed core.root → (k : ℕ) → is_in_stream core k ≡ false
none_streams core t k = go (outers 0 core.root) (no_stream core.root 0 t)
  where
    go : (os : List Outer) → Each (λ (o : Outer). o.stream ≡ false) os → list_any (λ (o : Outer). (o.node == k) && o.stream) os ≡ false
    go [] h = refl
    go (o ∷ os) h = or_from ((o.node == k) && o.stream) (list_any (λ (o : Outer). (o.node == k) && o.stream) os) (none (o.node == k) o.stream h.0) (go os h.1)
      where
        none : (x y : Bool) → y ≡ false → (x && y) ≡ false
        none true y e = e
        none false y e = refl

-- the numbers of the outers of a part
abbrev pub Numbered : (from until : ℕ) → List Outer → Type 0
Numbered a b os = Each (λ (o : Outer). (a ≤ o.node) × (o.node < b)) os

wider : (a b c d : ℕ) → c ≤ a → b ≤ d → (os : List Outer) → Numbered a b os → Numbered c d os
wider a b c d l u [] h = tt
wider a b c d l u (o ∷ os) h = (((let x : a ≤ o.node = h.0.0 in omega arith), (let x : o.node < b = h.0.1 in omega arith)), wider a b c d l u os h.1)

mutual
  pub numbered : (node : PlainNode) (k : ℕ) → Numbered k (k + node_count node) (outers k node)
  numbered (inner counters owned ops comb) k = tt
  numbered (outer counters style owned stages) k = ((omega arith, omega arith), wider (suc k) (suc k + node_count_in stages) k (k + (1 + node_count_in stages)) (omega arith) (omega arith) (outers_in (suc k) stages) (numbered_in stages (suc k)))
  numbered (fsm start state test body next) k = wider (suc k) (suc k + node_count body) k (k + (1 + node_count body)) (omega arith) (omega arith) (outers (suc k) body) (numbered body (suc k))
  numbered (branch test first second) k =
      each_append _ (outers (suc k) first) (outers (suc k + node_count first) second)
      (wider (suc k) (suc k + node_count first) k (k + (1 + (node_count first + node_count second))) (omega arith) (omega arith) (outers (suc k) first) (numbered first (suc k)))
      (wider (suc k + node_count first) (suc k + node_count first + node_count second) k (k + (1 + (node_count first + node_count second))) (omega arith) (omega arith) (outers (suc k + node_count first) second) (numbered second (suc k + node_count first)))
  numbered (load r m spans) k = tt
  numbered (store r m spans) k = tt
  numbered (sparse kind r m places spans count par) k = tt

  pub numbered_in : (stages : PlainStages) (k : ℕ) → Numbered k (k + node_count_in stages) (outers_in k stages)
  numbered_in no_stage k = tt
  numbered_in (more_stage first last comb node rest) k =
      each_append _ (outers k node) (outers_in (k + node_count node) rest)
      (wider k (k + node_count node) k (k + (node_count node + node_count_in rest)) (omega arith) (omega arith) (outers k node) (numbered node k))
      (wider (k + node_count node) (k + node_count node + node_count_in rest) k (k + (node_count node + node_count_in rest)) (omega arith) (omega arith) (outers_in (k + node_count node) rest) (numbered_in rest (k + node_count node)))

-- whether the node of a number owns a memory, by outers
abbrev pub owns_among : (node mem : ℕ) → List Outer → Bool
owns_among j m os = list_any (λ (o : Outer). (o.node == j) && is_among m o.owned) os

-- none with another number does
none_before : (j m a b : ℕ) (os : List Outer) → Numbered a b os → j < a → owns_among j m os ≡ false
none_before j m a b [] h l = refl
none_before j m a b (o ∷ os) h l =
    let x : a ≤ o.node = h.0.0 in
    or_from ((o.node == j) && is_among m o.owned) (owns_among j m os) (ap (λ t. t && is_among m o.owned) (ne_eqb o.node j (λ e. absurd (omega arith)))) (none_before j m a b os h.1 l)

none_after : (j m a b : ℕ) (os : List Outer) → Numbered a b os → b ≤ j → owns_among j m os ≡ false
none_after j m a b [] h l = refl
none_after j m a b (o ∷ os) h l =
    let x : o.node < b = h.0.1 in
    or_from ((o.node == j) && is_among m o.owned) (owns_among j m os) (ap (λ t. t && is_among m o.owned) (ne_eqb o.node j (λ e. absurd (omega arith)))) (none_after j m a b os h.1 l)

left_part : (j m : ℕ) (xs ys : List Outer) → owns_among j m ys ≡ false → owns_among j m (xs ++ ys) ≡ owns_among j m xs
left_part j m [] ys h = h
left_part j m (x ∷ xs) ys h = ap (λ t. ((x.node == j) && is_among m x.owned) || t) (left_part j m xs ys h)

right_part : (j m : ℕ) (xs ys : List Outer) → owns_among j m xs ≡ false → owns_among j m (xs ++ ys) ≡ owns_among j m ys
right_part j m [] ys h = refl
right_part j m (x ∷ xs) ys h = let q = or_parts ((x.node == j) && is_among m x.owned) (owns_among j m xs) h in ap (λ t. t || owns_among j m (xs ++ ys)) q.0 ∙ right_part j m xs ys q.1

module _ (core : PlainCore) where
  -- within a part only its own outers count
  abbrev pub Owned : (from until : ℕ) → List Outer → Type 0
  Owned a b os = (j m : ℕ) → a ≤ j → j < b → owns core j m ≡ owns_among j m os

  pub at_root : Owned 0 (node_count core.root) (outers 0 core.root)
  at_root j m l u = refl

  -- an outer body at its own number, and its stages
  pub owned_here : (k b : ℕ) (stream at_once : Bool) (owned : List ℕ) (os : List Outer) → Owned k b (record { node = k; stream = stream; at_once = at_once; owned = owned } ∷ os) → k < b → Numbered (suc k) b os → (m : ℕ) → is_among m owned ≡ false → owns core k m ≡ false
  owned_here k b stream at_once owned os h l n m e =
      h k m (omega arith) l ∙ or_from ((k == k) && is_among m owned) (owns_among k m os) (ap (λ t. t && is_among m owned) (eq-eqb k k refl) ∙ e) (none_before k m (suc k) b os n (omega arith))

  pub owned_below : (k b : ℕ) (stream at_once : Bool) (owned : List ℕ) (os : List Outer) → Owned k b (record { node = k; stream = stream; at_once = at_once; owned = owned } ∷ os) → Owned (suc k) b os
  owned_below k b stream at_once owned os h j m l u = h j m (omega arith) u ∙ ap (λ t. (t && is_among m owned) || owns_among j m os) (ne_eqb k j (λ e. absurd (omega arith)))

  pub owned_left : (a b c : ℕ) (xs ys : List Outer) → Owned a c (xs ++ ys) → b ≤ c → Numbered b c ys → Owned a b xs
  owned_left a b c xs ys h l n j m low high = h j m low (omega arith) ∙ left_part j m xs ys (none_before j m b c ys n high)

  pub owned_right : (a b c : ℕ) (xs ys : List Outer) → Owned a c (xs ++ ys) → a ≤ b → Numbered a b xs → Owned b c ys
  owned_right a b c xs ys h l n j m low high = h j m (omega arith) high ∙ right_part j m xs ys (none_after j m a b xs n low)

  pub owned_within : (a b c d : ℕ) (os : List Outer) → a ≤ c → d ≤ b → Owned a b os → Owned c d os
  owned_within a b c d os l u h j m low high = h j m (omega arith) (omega arith)

  -- a node that is no outer body owns nothing by its own number
  pub owns_nothing : (k b : ℕ) → Owned k b [] → k < b → (m : ℕ) → owns core k m ≡ false
  owns_nothing k b h l m = h k m (omega arith) l
