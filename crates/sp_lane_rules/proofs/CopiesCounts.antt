-- How often a memory stands in the order of the memories of lanes.
use Rattle.std.proofs.Common.{◌≡◌, ℕ, zero, suc, ◌+◌, ◌*◌, ◌<◌, ◌≤◌, Bool, true, false, cond, not, ◌&&◌, List, [], ◌∷◌, ◌++◌, length, refl, sym, ◌∙◌, ap, arith, inl, inr, ◌==◌, nat_lt}
use Rattle.std.proofs.lemmas.Bool.{ne_eqb, ltb-false, ltb-true, true≢false}
use Rattle.std.proofs.lemmas.Bool.Decides.{eqb_tells}
use Rattle.std.specs.Prelude.{filter}
use Rattle.sp_core.specs.Around.{lanes_of}
use Rattle.sp_core.specs.Elements.{numbers_below}
use Rattle.sp_core.specs.PlainCore.{PlainNode, PlainStages, inner, outer, fsm, branch, load, store, sparse, no_stage, more_stage, PlainCore}
use Rattle.sp_lanes.specs.Order.{is_before, placed, in_turn, repeated, with_owned, memories_in, memories_of, is_port, is_written, is_added, memories_where, memory_order}
use Rattle.sp_lane_rules.specs.Copies.{one_if, occurrences, copies_in, copies_in_stages}
use Rattle.sp_lane_rules.specs.CopiesLaws.{AreCounted}

pub count_append : (m : ℕ) (xs ys : List ℕ) → occurrences m (xs ++ ys) ≡ occurrences m xs + occurrences m ys
count_append m [] ys = omega arith
count_append m (x ∷ xs) ys = omega (arith, count_append m xs ys)

pub count_repeated : (m n : ℕ) (xs : List ℕ) → occurrences m (repeated n xs) ≡ n * occurrences m xs
count_repeated m zero xs = omega arith
count_repeated m (suc n) xs = omega (arith, count_append m xs (repeated n xs), count_repeated m n xs)

-- a list that is placed among others adds what stands in it
pub count_placed : (m : ℕ) (xs : List ℕ) (lists : List (List ℕ)) → occurrences m (in_turn (placed xs lists)) ≡ occurrences m xs + occurrences m (in_turn lists)
count_placed m [] lists = omega arith
count_placed m (x ∷ xs) [] = count_append m (x ∷ xs) []
count_placed m (x ∷ xs) (list ∷ lists) = by (count_placed m (x ∷ xs) lists) (is_before x list)
  where
    by : occurrences m (in_turn (placed (x ∷ xs) lists)) ≡ occurrences m (x ∷ xs) + occurrences m (in_turn lists)
        → (b : Bool) → occurrences m (in_turn (cond b ((x ∷ xs) ∷ list ∷ lists) (list ∷ placed (x ∷ xs) lists))) ≡ occurrences m (x ∷ xs) + occurrences m (in_turn (list ∷ lists))
    by e true = count_append m (x ∷ xs) (in_turn (list ∷ lists))
    by e false = omega (arith, count_append m list (in_turn (placed (x ∷ xs) lists)), count_append m list (in_turn lists), e)

module _ (keep : ℕ → Bool) (m : ℕ) where
  -- of a memory that is kept, each owner is counted
  owned_kept : (owned : List ℕ) (lists : List (List ℕ)) → keep m ≡ true → occurrences m (in_turn (with_owned keep owned lists)) ≡ occurrences m owned + occurrences m (in_turn lists)
  owned_kept [] lists k = omega arith
  owned_kept (x ∷ owned) lists k = by (owned_kept owned lists k) (keep x) refl
    where
      other : keep x ≡ false → one_if (x == m) ≡ 0
      other f = ap one_if (ne_eqb x m (λ e. true≢false (sym k ∙ ap keep (sym e) ∙ f)))

      by : occurrences m (in_turn (with_owned keep owned lists)) ≡ occurrences m owned + occurrences m (in_turn lists)
          → (b : Bool) → keep x ≡ b → occurrences m (in_turn (cond b (placed (x ∷ []) (with_owned keep owned lists)) (with_owned keep owned lists))) ≡ occurrences m (x ∷ owned) + occurrences m (in_turn lists)
      by e true f = omega (arith, count_placed m (x ∷ []) (with_owned keep owned lists), e)
      by e false f = omega (arith, other f, e)

  -- another one doesn't stand there
  owned_left : (owned : List ℕ) (lists : List (List ℕ)) → keep m ≡ false → occurrences m (in_turn (with_owned keep owned lists)) ≡ occurrences m (in_turn lists)
  owned_left [] lists k = refl
  owned_left (x ∷ owned) lists k = by (owned_left owned lists k) (keep x) refl
    where
      other : keep x ≡ true → one_if (x == m) ≡ 0
      other f = ap one_if (ne_eqb x m (λ e. true≢false (sym f ∙ ap keep e ∙ k)))

      by : occurrences m (in_turn (with_owned keep owned lists)) ≡ occurrences m (in_turn lists)
          → (b : Bool) → keep x ≡ b → occurrences m (in_turn (cond b (placed (x ∷ []) (with_owned keep owned lists)) (with_owned keep owned lists))) ≡ occurrences m (in_turn lists)
      by e true f = omega (arith, count_placed m (x ∷ []) (with_owned keep owned lists), e, other f)
      by e false f = e

  mutual
    unfolding memories_in memories_of

    pub node_kept : (node : PlainNode) → keep m ≡ true → occurrences m (memories_in keep node) ≡ copies_in node m
    node_kept (inner counters owned ops comb) k =
        count_repeated m (lanes_of counters) (in_turn (with_owned keep owned [])) ∙ ap (λ n. lanes_of counters * n) (owned_kept owned [] k ∙ omega arith)
    node_kept (outer counters style owned stages) k =
        count_repeated m (lanes_of counters) (in_turn (with_owned keep owned (memories_of keep stages)))
        ∙ ap (λ n. lanes_of counters * n) (owned_kept owned (memories_of keep stages) k ∙ ap (λ n. occurrences m owned + n) (stages_kept stages k))
    node_kept (fsm start state test body next) k =
        omega (arith, owned_kept (state ∷ []) (placed (memories_in keep body) []) k, count_placed m (memories_in keep body) [], node_kept body k)
    node_kept (branch test first second) k =
        omega (arith, count_placed m (memories_in keep first) (placed (memories_in keep second) []), count_placed m (memories_in keep second) [], node_kept first k, node_kept second k)
    node_kept (load d n spans) k = refl
    node_kept (store d n spans) k = refl
    node_kept (sparse kind d n index spans count par) k = refl

    stages_kept : (stages : PlainStages) → keep m ≡ true → occurrences m (in_turn (memories_of keep stages)) ≡ copies_in_stages stages m
    stages_kept no_stage k = refl
    stages_kept (more_stage first last comb node rest) k = omega (arith, count_placed m (memories_in keep node) (memories_of keep rest), node_kept node k, stages_kept rest k)

  mutual
    unfolding memories_in memories_of

    pub node_left : (node : PlainNode) → keep m ≡ false → occurrences m (memories_in keep node) ≡ 0
    node_left (inner counters owned ops comb) k =
        count_repeated m (lanes_of counters) (in_turn (with_owned keep owned [])) ∙ ap (λ n. lanes_of counters * n) (owned_left owned [] k) ∙ omega arith
    node_left (outer counters style owned stages) k =
        count_repeated m (lanes_of counters) (in_turn (with_owned keep owned (memories_of keep stages)))
        ∙ ap (λ n. lanes_of counters * n) (owned_left owned (memories_of keep stages) k ∙ stages_left stages k) ∙ omega arith
    node_left (fsm start state test body next) k =
        omega (arith, owned_left (state ∷ []) (placed (memories_in keep body) []) k, count_placed m (memories_in keep body) [], node_left body k)
    node_left (branch test first second) k =
        omega (arith, count_placed m (memories_in keep first) (placed (memories_in keep second) []), count_placed m (memories_in keep second) [], node_left first k, node_left second k)
    node_left (load d n spans) k = refl
    node_left (store d n spans) k = refl
    node_left (sparse kind d n index spans count par) k = refl

    stages_left : (stages : PlainStages) → keep m ≡ false → occurrences m (in_turn (memories_of keep stages)) ≡ 0
    stages_left no_stage k = refl
    stages_left (more_stage first last comb node rest) k = omega (arith, count_placed m (memories_in keep node) (memories_of keep rest), node_left node k, stages_left rest k)

-- the numbers that pass a test, each once
below_out : (m n : ℕ) → n ≤ m → occurrences m (numbers_below n) ≡ 0
below_out m zero le = refl
below_out m (suc n) le =
    let e : one_if (n == m) ≡ 0 = ap one_if (ne_eqb n m (λ e. absurd (omega (arith, e)))) in
    omega (arith, e, count_append m (numbers_below n) (n ∷ []), below_out m n (omega arith))

below_in : (m n : ℕ) → m < n → occurrences m (numbers_below n) ≡ 1
below_in m zero lt = absurd (omega arith)
below_in m (suc n) lt = elim (eqb_tells n m) [
  | inl same ↦ let e : one_if (n == m) ≡ 1 = ap one_if same.0 in omega (arith, e, count_append m (numbers_below n) (n ∷ []), below_out m n (omega (arith, same.1)))
  | inr apart ↦ let e : one_if (n == m) ≡ 0 = ap one_if apart.0 in omega (arith, e, count_append m (numbers_below n) (n ∷ []), below_in m n (less n m lt apart.1))
]
  where
    less : (n m : ℕ) → m < suc n → (n ≡ m → ⊥) → m < n
    less n m lt ne = omega (arith, ne)

count_filter : (test : ℕ → Bool) (m : ℕ) (xs : List ℕ) → occurrences m (filter test xs) ≡ one_if (test m) * occurrences m xs
count_filter test m [] = omega arith
count_filter test m (x ∷ xs) = by (count_filter test m xs) (test x) refl
  where
    here : (b : Bool) → test x ≡ b → one_if b * one_if (x == m) ≡ one_if (test m) * one_if (x == m)
    here b e = elim (eqb_tells x m) [
      | inl same ↦ ap (λ t. one_if t * one_if (x == m)) (sym e ∙ ap test same.1)
      | inr apart ↦ ap (λ n. one_if b * n) (ap one_if apart.0) ∙ omega arith ∙ sym (ap (λ n. one_if (test m) * n) (ap one_if apart.0))
    ]

    by : occurrences m (filter test xs) ≡ one_if (test m) * occurrences m xs → (b : Bool) → test x ≡ b → occurrences m (cond b (x ∷ filter test xs) (filter test xs)) ≡ one_if (test m) * occurrences m (x ∷ xs)
    by f true e = omega (arith, f, here true e)
    by f false e = omega (arith, f, here false e)

module _ (core : PlainCore) where
  ports_there : (m : ℕ) → occurrences m (filter (is_port core) (numbers_below (length core.mems))) ≡ one_if (is_port core m && nat_lt m (length core.mems))
  ports_there m = count_filter (is_port core) m (numbers_below (length core.mems)) ∙ by (is_port core m) (nat_lt m (length core.mems)) refl
    where
      by : (p b : Bool) → nat_lt m (length core.mems) ≡ b → one_if p * occurrences m (numbers_below (length core.mems)) ≡ one_if (p && b)
      by true true e = let a : occurrences m (numbers_below (length core.mems)) ≡ 1 = below_in m (length core.mems) (ltb-true m (length core.mems) e) in omega (arith, a)
      by true false e = let a : occurrences m (numbers_below (length core.mems)) ≡ 0 = below_out m (length core.mems) (ltb-false m (length core.mems) e) in omega (arith, a)
      by false true e = omega arith
      by false false e = omega arith

  where_kept : (keep : ℕ → Bool) (m : ℕ) → keep m ≡ true → occurrences m (memories_where core keep) ≡ one_if (is_port core m && nat_lt m (length core.mems)) + copies_in core.root m
  where_kept keep m k =
      omega (arith, owned_kept keep m (filter (is_port core) (numbers_below (length core.mems))) (placed (memories_in keep core.root) []) k, count_placed m (memories_in keep core.root) [], ports_there m, node_kept keep m core.root k)

  pub where_left : (keep : ℕ → Bool) (m : ℕ) → keep m ≡ false → occurrences m (memories_where core keep) ≡ 0
  where_left keep m k =
      omega (arith, owned_left keep m (filter (is_port core) (numbers_below (length core.mems))) (placed (memories_in keep core.root) []) k, count_placed m (memories_in keep core.root) [], node_left keep m core.root k)

  pub are_counted : AreCounted core
  are_counted m = by (is_written core m) refl
    where
      joined : occurrences m (memory_order core) ≡ occurrences m (memories_where core (is_written core)) + occurrences m (memories_where core (is_added core))
      joined = count_append m (memories_where core (is_written core)) (memories_where core (is_added core))

      by : (b : Bool) → is_written core m ≡ b → occurrences m (memory_order core) ≡ one_if (is_port core m && nat_lt m (length core.mems)) + copies_in core.root m
      by true e = joined ∙ omega (arith, where_kept (is_written core) m e, where_left (is_added core) m (ap not e))
      by false e = joined ∙ omega (arith, where_left (is_written core) m e, where_kept (is_added core) m (ap not e))
