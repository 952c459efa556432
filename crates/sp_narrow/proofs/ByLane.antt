-- What a loop of a narrow core owns is used lane by lane, if it was.
use Rattle.std.proofs.Common.{◌≡◌, ℕ, zero, suc, ◌+◌, ◌-◌, ◌*◌, ◌<◌, ◌≤◌, Bool, true, false, cond, ◌&&◌, ◌||◌, not, List, [], ◌∷◌, ◌++◌, length, filter, Option, refl, sym, ◌∙◌, ap, subst, arith, ◌==◌}
use Rattle.std.proofs.lemmas.Bool.{or_left, or_right, false≢true}
use Rattle.std.specs.Prelude.{if◌then◌else◌}
use Rattle.std.specs.List.{list_any}
use Rattle.sp_core.specs.declared.node.SparseKind.TheVariants.{Gather, Scatter, WideLoad, WideStore}
use Rattle.sp_core.specs.Declarations.{dram_number, is_among}
use Rattle.sp_core.specs.Numbering.{number_count}
use Rattle.sp_core.specs.PlainCore.{PlainOp, PlainSpan, PlainNode, PlainStages, inner, outer, fsm, branch, load, store, sparse, no_stage, more_stage, PlainCore}
use Rattle.sp_plan.specs.Named.{named_by, list_names, counters_names, spans_names, names, stages_names, uses}
use Rattle.sp_plan.specs.Slots.{StageRun, runs_of, is_in_lane_0, run_at, lane_size, stage_of}
use Rattle.sp_plan.proofs.UsedNames.{named_in_both}
use Rattle.sp_overlap.specs.Apart.{node_at, AreOfOneLane}
use Rattle.sp_overlap.specs.Whole.{IsByLane, AreByLane}
use Rattle.sp_narrow.specs.Narrow.{narrow_node, narrow_stages, narrow}

-- names among others
in_some : (m : ℕ) (xs ys : List (List ℕ)) → list_any (is_among m) (xs ++ ys) ≡ true → (P : Type 0) → (list_any (is_among m) xs ≡ true → P) → (list_any (is_among m) ys ≡ true → P) → P
in_some m xs ys e P f g = go (list_any (is_among m) xs) refl
  where
    go : (b : Bool) → list_any (is_among m) xs ≡ b → P
    go true h = f h
    go false h = g (ap (λ b. b || list_any (is_among m) ys) (sym h) ∙ sym (named_in_both m xs ys) ∙ e)

in_first : (m : ℕ) (xs ys : List (List ℕ)) → list_any (is_among m) xs ≡ true → list_any (is_among m) (xs ++ ys) ≡ true
in_first m xs ys h = named_in_both m xs ys ∙ or_left (list_any (is_among m) xs) (list_any (is_among m) ys) h

in_second : (m : ℕ) (xs ys : List (List ℕ)) → list_any (is_among m) ys ≡ true → list_any (is_among m) (xs ++ ys) ≡ true
in_second m xs ys h = named_in_both m xs ys ∙ or_right (list_any (is_among m) xs) (list_any (is_among m) ys) h

-- what is named in one of two parts is named in both, where what each has is in the other's
in_parts : (m : ℕ) (xs ys us vs : List (List ℕ)) → (list_any (is_among m) xs ≡ true → list_any (is_among m) us ≡ true) → (list_any (is_among m) ys ≡ true → list_any (is_among m) vs ≡ true)
    → list_any (is_among m) (xs ++ ys) ≡ true → list_any (is_among m) (us ++ vs) ≡ true
in_parts m xs ys us vs f g e = in_some m xs ys e _ (λ h. in_first m us vs (f h)) (λ h. in_second m us vs (g h))

module _ (core : PlainCore) (m : ℕ) where
  transfer_names : (r k : ℕ) (places : Option ℕ) (spans : List PlainSpan) (count : List PlainOp) → list_any (is_among m) (spans_names spans ++ (dram_number core r ∷ k ∷ []) ∷ []) ≡ true
      → list_any (is_among m) (spans_names spans ++ (list_names count ++ (dram_number core r ∷ k ∷ named_by places) ∷ [])) ≡ true
  transfer_names r k places spans count e =
      in_parts m (spans_names spans) ((dram_number core r ∷ k ∷ []) ∷ []) (spans_names spans) (list_names count ++ (dram_number core r ∷ k ∷ named_by places) ∷ [])
      (λ h. h) (λ h. in_second m (list_names count) ((dram_number core r ∷ k ∷ named_by places) ∷ []) (more (m == dram_number core r) (m == k) h)) e
    where
      more : (a b : Bool) → ((a || (b || false)) || false) ≡ true → ((a || (b || is_among m (named_by places))) || false) ≡ true
      more true b h = refl
      more false true h = refl
      more false false h = absurd (false≢true h)

  mutual
    pub named : (node : PlainNode) → uses (narrow core) m (narrow_node node) ≡ true → uses core m node ≡ true
    named (inner counters owned ops comb) e = e
    named (outer counters style owned stages) e =
        in_parts m (counters_names counters) (stages_names (narrow core) (narrow_stages stages)) (counters_names counters) (stages_names core stages) (λ h. h) (named_in stages) e
    named (fsm start state test body next) e =
        in_parts m (list_names start ++ list_names test) (names (narrow core) (narrow_node body) ++ list_names next) (list_names start ++ list_names test) (names core body ++ list_names next) (λ h. h)
        (in_parts m (names (narrow core) (narrow_node body)) (list_names next) (names core body) (list_names next) (named body) (λ h. h)) e
    named (branch test first second) e =
        in_parts m (list_names test) (names (narrow core) (narrow_node first) ++ names (narrow core) (narrow_node second)) (list_names test) (names core first ++ names core second) (λ h. h)
        (in_parts m (names (narrow core) (narrow_node first)) (names (narrow core) (narrow_node second)) (names core first) (names core second) (named first) (named second)) e
    named (load r k spans) e = e
    named (store r k spans) e = e
    named (sparse Gather r k places spans count par) e = e
    named (sparse Scatter r k places spans count par) e = e
    named (sparse WideLoad r k places spans count par) e = transfer_names r k places spans count e
    named (sparse WideStore r k places spans count par) e = transfer_names r k places spans count e

    named_in : (stages : PlainStages) → list_any (is_among m) (stages_names (narrow core) (narrow_stages stages)) ≡ true → list_any (is_among m) (stages_names core stages) ≡ true
    named_in no_stage e = e
    named_in (more_stage first last comb node rest) e =
        in_parts m (names (narrow core) (narrow_node node)) (stages_names (narrow core) (narrow_stages rest)) (names core node) (stages_names core rest) (named node) (named_in rest) e

-- a narrow stage stands where its stage does
stage_at : (stages : PlainStages) (p : ℕ) → node_at (narrow_stages stages) p ≡ narrow_node (node_at stages p)
stage_at no_stage p = refl
stage_at (more_stage first last comb node rest) zero = refl
stage_at (more_stage first last comb node rest) (suc p) = stage_at rest p

-- in the same lanes
same_length : (stages : PlainStages) (n k : ℕ) → length (runs_of n (narrow_stages stages)) ≡ length (runs_of k stages)
same_length no_stage n k = refl
same_length (more_stage first last comb node rest) n k = ap suc (same_length rest (n + number_count (narrow_node node)) (k + number_count node))

same_first : (stages : PlainStages) (n k p : ℕ) → (run_at (runs_of n (narrow_stages stages)) p).first ≡ (run_at (runs_of k stages) p).first
same_first no_stage n k p = refl
same_first (more_stage first last comb node rest) n k zero = refl
same_first (more_stage first last comb node rest) n k (suc p) = same_first rest (n + number_count (narrow_node node)) (k + number_count node) p

same_last : (stages : PlainStages) (n k p : ℕ) → (run_at (runs_of n (narrow_stages stages)) p).last ≡ (run_at (runs_of k stages) p).last
same_last no_stage n k p = refl
same_last (more_stage first last comb node rest) n k zero = refl
same_last (more_stage first last comb node rest) n k (suc p) = same_last rest (n + number_count (narrow_node node)) (k + number_count node) p

same_size : (stages : PlainStages) (n k : ℕ) → lane_size (runs_of n (narrow_stages stages)) ≡ lane_size (runs_of k stages)
same_size no_stage n k = refl
same_size (more_stage first last comb node rest) n k =
    counted (not (not (first == last)) && (first == 0)) (record { from = n; until = n + number_count (narrow_node node); first = first; last = last }) (record { from = k; until = k + number_count node; first = first; last = last })
    (runs_of (n + number_count (narrow_node node)) (narrow_stages rest)) (runs_of (k + number_count node) rest) refl refl (same_size rest (n + number_count (narrow_node node)) (k + number_count node))
  where
    counted : (b : Bool) (x y : StageRun) (xs ys : List StageRun) → is_in_lane_0 x ≡ b → is_in_lane_0 y ≡ b → length (filter is_in_lane_0 xs) ≡ length (filter is_in_lane_0 ys) → length (filter is_in_lane_0 (x ∷ xs)) ≡ length (filter is_in_lane_0 (y ∷ ys))
    counted b x y xs ys e f h =
        ap (λ c. length (cond c (x ∷ filter is_in_lane_0 xs) (filter is_in_lane_0 xs))) e ∙ both b ∙ sym (ap (λ c. length (cond c (y ∷ filter is_in_lane_0 ys) (filter is_in_lane_0 ys))) f)
      where
        both : (b : Bool) → length (cond b (x ∷ filter is_in_lane_0 xs) (filter is_in_lane_0 xs)) ≡ length (cond b (y ∷ filter is_in_lane_0 ys) (filter is_in_lane_0 ys))
        both true = ap suc h
        both false = h

same_stage : (stages : PlainStages) (n k p : ℕ) → stage_of (runs_of n (narrow_stages stages)) p ≡ stage_of (runs_of k stages) p
same_stage stages n k p =
    ap (λ f. if not (f == (run_at (runs_of n (narrow_stages stages)) p).last) then lane_size (runs_of n (narrow_stages stages)) else p - f * lane_size (runs_of n (narrow_stages stages))) (same_first stages n k p)
    ∙ ap (λ l. if not ((run_at (runs_of k stages) p).first == l) then lane_size (runs_of n (narrow_stages stages)) else p - (run_at (runs_of k stages) p).first * lane_size (runs_of n (narrow_stages stages))) (same_last stages n k p)
    ∙ ap (λ s. if not ((run_at (runs_of k stages) p).first == (run_at (runs_of k stages) p).last) then s else p - (run_at (runs_of k stages) p).first * s) (same_size stages n k)

one_lane : (core : PlainCore) (owned : List ℕ) (stages : PlainStages) (n : ℕ) → AreOfOneLane core owned stages (runs_of n stages) → AreOfOneLane (narrow core) owned (narrow_stages stages) (runs_of n (narrow_stages stages))
one_lane core owned stages n h p q m before within own one two =
    let few : stage_of (runs_of n stages) p ≤ stage_of (runs_of n stages) q =
    h p q m before (subst (λ k. q < k) (same_length stages n n) within) own (named core m (node_at stages p) (ap (uses (narrow core) m) (sym (stage_at stages p)) ∙ one)) (named core m (node_at stages q) (ap (uses (narrow core) m) (sym (stage_at stages q)) ∙ two)) in
    let a = same_stage stages n n p in
    let b = same_stage stages n n q in
    omega (arith, few, a, b)

module _ (core : PlainCore) where
  mutual
    by_lane : (node : PlainNode) → IsByLane core node → IsByLane (narrow core) (narrow_node node)
    by_lane (inner counters owned ops comb) h = tt
    by_lane (outer counters style owned stages) h = ((λ n. one_lane core owned stages n (h.0 n)), all_by_lane stages h.1)
    by_lane (fsm start state test body next) h = by_lane body h
    by_lane (branch test first second) h = (by_lane first h.0, by_lane second h.1)
    by_lane (load r m spans) h = tt
    by_lane (store r m spans) h = tt
    by_lane (sparse Gather r m places spans count par) h = tt
    by_lane (sparse Scatter r m places spans count par) h = tt
    by_lane (sparse WideLoad r m places spans count par) h = tt
    by_lane (sparse WideStore r m places spans count par) h = tt

    all_by_lane : (stages : PlainStages) → AreByLane core stages → AreByLane (narrow core) (narrow_stages stages)
    all_by_lane no_stage h = tt
    all_by_lane (more_stage first last comb node rest) h = (by_lane node h.0, all_by_lane rest h.1)

pub stays_by_lane : (core : PlainCore) → IsByLane core core.root → IsByLane (narrow core) (narrow core).root
stays_by_lane core h = by_lane core core.root h
