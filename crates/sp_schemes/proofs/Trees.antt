-- What the rules of valid plans on banks ask of a whole tree is what its groups ask.
use Rattle.std.proofs.Common.{◌≡◌, ℕ, suc, ◌+◌, ◌-◌, ◌<◌, ◌≤◌, ◌^◌, ◌⊎◌, inl, inr, Bool, true, false, cond, List, [], ◌∷◌, ◌++◌, map, replicate, length, get_or, Option, Some, None, pos, arith, refl, sym, ap, ◌∙◌, subst}
use Rattle.std.proofs.lemmas.Bool.{and_parts, and_from, eqb-true, eq-eqb, ne_eqb, cases_order, false≢true}
use Rattle.std.proofs.lemmas.List.{length-append, length-replicate, length-map, get_or-map}
use Rattle.std.specs.List.{list_all}
use Rattle.std.specs.Prelude.{◌&&◌, ◌==◌, flat_map, slice_index_or, if◌then◌else◌}
use Rattle.sp_affine.specs.Affine.{Affine}
use Rattle.sp_bank.specs.Banking.{Banking}
use Rattle.sp_bank.specs.Separation.{Separates, constants}
use Rattle.sp_core.specs.declared.node.SparseKind.{SparseKind}
use Rattle.sp_core.specs.declared.node.SparseKind.TheVariants.{Gather, Scatter, WideLoad, WideStore}
use Rattle.sp_core.specs.Declarations.{mem, is_stream}
use Rattle.sp_core.specs.Elements.{numbers_below}
use Rattle.sp_core.specs.Forms.{PlainForms, form_at}
use Rattle.sp_core.specs.Numbering.{node_count, counters_size, number_count}
use Rattle.sp_core.specs.PlainCore.{PlainOp, PlainNode, PlainStages, inner, outer, fsm, branch, load, store, sparse, no_stage, more_stage, PlainCore}
use Rattle.sp_plan.specs.Groups.{AreKeptApart, forms_by, rank_of, known_forms, lane_place, AreLanesApart, IsWideSeparated, Separated, StagesSeparated}
use Rattle.sp_plan.specs.Nodes.{holds_of_each, holds_of_stages}
use Rattle.sp_plan.specs.Ports.{has_banks}
use Rattle.sp_schemes.proofs.Bodies.{below_length, number_below, OfUses, AreKept, grouped_of_body, body_of_grouped, separated_of_body, body_of_separated}
use Rattle.sp_schemes.proofs.Flat.{joined, AreRows, Two, separates_joined, joined_separates}
use Rattle.sp_schemes.proofs.Grouping.{Apart2, MetApart, groups_apart, apart_groups}
use Rattle.sp_schemes.proofs.Lists.{Each, Pairs, each_append, each_left, each_right, each_more, each_of, each_true, pairs_at, pairs_of, pairs_with, pairs_both}
use Rattle.sp_schemes.proofs.Ports.{Touches, touches_from, only_here, only_there}
use Rattle.sp_schemes.proofs.Rows.{kept_to_apart, apart_to_kept}
use Rattle.sp_schemes.proofs.Together.{Fits, IsKnown, both_known}
use Rattle.sp_schemes.specs.Accesses.{PlainUse, port_to, use_by, uses_in, share, is_grouped_with, are_one_group}
use Rattle.sp_schemes.specs.Chosen.{only, grouped_rule}
use Rattle.sp_schemes.specs.Groups.{banked_forms, go_together, groups_from, lanes_group, wide_groups, groups_in, stage_groups, are_grouped_in, are_stages_grouped}
use Rattle.sp_words.specs.declared.kind.Kind.TheVariants.{Sram}

each_pairs : {X : Type 0} (E : X → Type 0) (xs : List X) → Each E xs → Pairs (λ x y. E x × E y) xs
each_pairs E [] h = tt
each_pairs E (x ∷ xs) h = (each_more E (λ y. E x × E y) (λ y e. (h.0, e)) xs h.1, each_pairs E xs h.1)

grouped_pairs : (us : List PlainUse) → are_one_group us ≡ true → Pairs (λ u c. is_grouped_with u c ≡ true) us
grouped_pairs [] h = tt
grouped_pairs (u ∷ us) h =
    let parts = and_parts (list_all (is_grouped_with u) us) (are_one_group us) h in
    (each_true (is_grouped_with u) us parts.0, grouped_pairs us parts.1)

pairs_more : {X : Type 0} (S T : X → X → Type 0) → ((x y : X) → S x y → T x y) → (xs : List X) → Pairs S xs → Pairs T xs
pairs_more S T f [] h = tt
pairs_more S T f (x ∷ xs) h = (each_more (S x) (T x) (f x) xs h.0, pairs_more S T f xs h.1)

-- wide transfers of a memory are of an SRAM, and of not too many lanes
module _ (core : PlainCore) (m : ℕ) where
  abbrev mutual
    pub WidesFit : PlainNode → Type 0
    WidesFit (outer counters style owned stages) = AllWidesFit stages
    WidesFit (fsm start state test body next) = WidesFit body
    WidesFit (branch test first second) = WidesFit first × WidesFit second
    WidesFit (sparse kind r s places spans count par) = (s ≡ m → (mem core m).kind ≡ Sram) × (par < 2 ^ 30)
    WidesFit _ = Unit {0}

    pub AllWidesFit : PlainStages → Type 0
    AllWidesFit no_stage = Unit {0}
    AllWidesFit (more_stage first last comb node rest) = WidesFit node × AllWidesFit rest

module _ (core : PlainCore) (forms : PlainForms) (m : ℕ) (banks : has_banks (mem core m).kind ≡ true) (rank : ℕ) (some : 1 ≤ rank)
    (ranked : (f : List Affine) → length f ≡ length (mem core m).dims → length (banked_forms (mem core m).kind (Some f)) ≡ rank)
    (whole : (mem core m).kind ≡ Sram → length (mem core m).dims ≡ rank) where
  -- forms are as many as there are dimensions
  by_length : (r : ℕ) (x : Option (List Affine)) (f : List Affine) → forms_by core forms r x ≡ Some f → length f ≡ r
  by_length r None f e = cc
  by_length r (Some g) f e = go (length g == r) refl e
    where
      go : (t : Bool) → (length g == r) ≡ t → (if t then Some g else None) ≡ Some f → length f ≡ r
      go true q e = let s : g ≡ f = cc in ap length (sym s) ∙ eqb-true (length g) r q
      go false q e = absurd (let z : None ≡ Some f = e in cc)

  pub uses_fit : (n : ℕ) (ops : List PlainOp) → Each (Fits (mem core m).kind rank) (uses_in core forms m n ops)
  uses_fit n [] = tt
  uses_fit n (op ∷ ops) = go (port_to m op) refl (uses_fit (suc n) ops)
    where
      go : (x : Option Bool) → port_to m op ≡ x → Each (Fits (mem core m).kind rank) (uses_in core forms m (suc n) ops) → Each (Fits (mem core m).kind rank) (use_by x (known_forms core forms n op) ++ uses_in core forms m (suc n) ops)
      go None e rest = rest
      go (Some p) e rest = (
        λ f q. ranked f (by_length (rank_of core forms op.mem) (form_at core forms n) f q ∙ ap (rank_of core forms) (touches_from m op p e).mem_is),
        rest,
      )

  module _ (b : Banking) (size : length b.alpha ≡ rank) where
    -- of one body
    body_apart : (us : List PlainUse) → are_one_group us ≡ true → Each (Fits (mem core m).kind rank) us → Pairs (OfUses core forms m banks b (AreKept core forms m banks b)) us → Each (Separates b) (groups_from (mem core m).kind [] us)
    body_apart us g f h =
        groups_apart (mem core m).kind rank some b size [] us g f
        (pairs_more _ (Apart2 (mem core m).kind rank some b size)
        (λ u c q t.
        let k = both_known u c (and_parts _ _ t).0 q.0.0 in
        kept_to_apart rank some b (mem core m).kind u c q.0.1.0 q.0.1.1 k.0.0 k.1.0 k.0.1 k.1.1 q.1 t)
        us (pairs_both _ _ us (pairs_both _ _ us (grouped_pairs us g) (each_pairs (Fits (mem core m).kind rank) us f)) h))

    apart_body : (us : List PlainUse) → are_one_group us ≡ true → Each (Fits (mem core m).kind rank) us → Each (Separates b) (groups_from (mem core m).kind [] us) → Pairs (OfUses core forms m banks b (AreKept core forms m banks b)) us
    apart_body us g f h =
        pairs_more _ (OfUses core forms m banks b (AreKept core forms m banks b))
        (λ u c q. apart_to_kept rank some b (mem core m).kind u c q.1.0 q.1.1 q.0)
        us (pairs_both _ _ us
        (apart_groups (mem core m).kind rank some b size [] us g f (pairs_none us) h)
        (each_pairs (Fits (mem core m).kind rank) us f))
      where
        none_met : (u : PlainUse) (xs : List PlainUse) → Each (MetApart (mem core m).kind rank some b size [] u) xs
        none_met u [] = tt
        none_met u (x ∷ xs) = (λ e. absurd (false≢true e), none_met u xs)

        pairs_none : (xs : List PlainUse) → Pairs (MetApart (mem core m).kind rank some b size []) xs
        pairs_none [] = tt
        pairs_none (x ∷ xs) = (none_met x xs, pairs_none xs)

    -- of the lanes of a wide transfer
    abbrev pub lane : ℕ → List Affine
    lane l = lane_place core forms [] (length (mem core m).dims) l

    pub lanes_joined : (ls : List ℕ) → flat_map lane ls ≡ joined (map lane ls)
    lanes_joined [] = refl
    lanes_joined (l ∷ ls) = ap (λ t. lane l ++ t) (lanes_joined ls)

    lane_row : (mem core m).kind ≡ Sram → (l : ℕ) → length (lane l) ≡ length b.alpha
    lane_row sram l =
        let e = whole sram in
        let zeros : List Affine = replicate (length (mem core m).dims - 1) (record { coefs = []; constant = pos 0; symbol = None }) in
        let last : List Affine = record { coefs = []; constant = pos l; symbol = None } ∷ [] in
        let a : length (zeros ++ last) ≡ length zeros + length last = length-append zeros last in
        let r : length zeros ≡ length (mem core m).dims - 1 = length-replicate (length (mem core m).dims - 1) (record { coefs = []; constant = pos 0; symbol = None }) in
        omega (arith, e, a, r, size, some)

    pub lane_rows : (mem core m).kind ≡ Sram → (ls : List ℕ) → AreRows (length b.alpha) (map lane ls)
    lane_rows sram [] = tt
    lane_rows sram (l ∷ ls) = (lane_row sram l, lane_rows sram ls)

    abbrev LanesApart : ℕ → Type 0
    LanesApart par = (j i : ℕ) → j < par → i < j → Two b (lane i) (lane j)

    pub lanes_pairs : (n : ℕ) → length (map lane (numbers_below n)) ≡ n
    lanes_pairs n = length-map (numbers_below n) lane ∙ below_length n

    lane_at : (n i : ℕ) → i < n → get_or (map lane (numbers_below n)) i [] ≡ lane i
    lane_at n i l = get_or-map lane (numbers_below n) i 0 [] (let e = below_length n in omega (arith, e, l)) ∙ ap lane (number_below n i l)

    lanes_group_apart : (mem core m).kind ≡ Sram → (par : ℕ) → LanesApart par → Separates b (lanes_group core forms m (length (mem core m).dims) par)
    lanes_group_apart sram par h =
        subst (Separates b) (sym (lanes_joined (numbers_below par)))
        (separates_joined b (map lane (numbers_below par)) (omega (arith, size, some)) (lane_rows sram (numbers_below par))
        (pairs_of (Two b) (map lane (numbers_below par)) [] (λ i j l k.
        let n = lanes_pairs par in
        let li : i < par = omega (arith, n, l) in
        let lj : j < par = omega (arith, n, k) in
        subst (λ x. Two b x (get_or (map lane (numbers_below par)) j [])) (sym (lane_at par i li)) (subst (Two b (lane i)) (sym (lane_at par j lj)) (any i j li lj)))))
      where
        any : (i j : ℕ) → i < par → j < par → Two b (lane i) (lane j)
        any i j li lj = elim (cases_order i j) [
          | inl e ↦ subst (λ k. Two b (lane i) (lane k)) e (λ ne. absurd (ne refl))
          | inr (inl l) ↦ h j i lj l
          | inr (inr l) ↦ λ ne s e. h i j li l (λ q. ne (sym q)) s (sym e)
        ]

    lanes_apart_group : (mem core m).kind ≡ Sram → (par : ℕ) → Separates b (lanes_group core forms m (length (mem core m).dims) par) → LanesApart par
    lanes_apart_group sram par s j i lj li =
        let pairs = joined_separates b (map lane (numbers_below par)) (omega (arith, size, some)) (lane_rows sram (numbers_below par)) (subst (Separates b) (lanes_joined (numbers_below par)) s) in
        let n = lanes_pairs par in
        let both = pairs_at (Two b) (λ f. λ ne. absurd (ne refl)) (λ f g h. λ ne s e. h (λ q. ne (sym q)) s (sym e)) (map lane (numbers_below par)) pairs i j [] (omega (arith, n, li, lj)) (omega (arith, n, lj)) in
        subst (λ x. Two b x (lane j)) (lane_at par i (omega (arith, li, lj))) (subst (Two b (get_or (map lane (numbers_below par)) i [])) (lane_at par j lj) both)

    -- what each kind of transfer asks
    wide_apart : (kind : SparseKind) (s par : ℕ) → s ≡ m → (mem core m).kind ≡ Sram → IsWideSeparated core forms (only m b) kind s par → Each (Separates b) (wide_groups core forms m kind (length (mem core m).dims) par)
    wide_apart kind s par e sram h = go kind (subst (λ x. IsWideSeparated core forms (only m b) kind x par) e h)
      where
        lanes_here : AreLanesApart core forms (only m b) (slice_index_or (only m b) m None) (length (mem core m).dims) par → LanesApart par
        lanes_here h = subst (λ x. AreLanesApart core forms (only m b) x (length (mem core m).dims) par) (only_here m b) h

        go : (kind : SparseKind) → IsWideSeparated core forms (only m b) kind m par → Each (Separates b) (wide_groups core forms m kind (length (mem core m).dims) par)
        go Gather h = tt
        go Scatter h = tt
        go WideLoad h = (lanes_group_apart sram par (lanes_here h), tt)
        go WideStore h = (lanes_group_apart sram par (lanes_here h), tt)

    apart_wide : (kind : SparseKind) (s par : ℕ) → s ≡ m → (mem core m).kind ≡ Sram → Each (Separates b) (wide_groups core forms m kind (length (mem core m).dims) par) → IsWideSeparated core forms (only m b) kind s par
    apart_wide kind s par e sram h = subst (λ x. IsWideSeparated core forms (only m b) kind x par) (sym e) (go kind h)
      where
        here_lanes : LanesApart par → AreLanesApart core forms (only m b) (slice_index_or (only m b) m None) (length (mem core m).dims) par
        here_lanes h = subst (λ x. AreLanesApart core forms (only m b) x (length (mem core m).dims) par) (sym (only_here m b)) h

        go : (kind : SparseKind) → Each (Separates b) (wide_groups core forms m kind (length (mem core m).dims) par) → IsWideSeparated core forms (only m b) kind m par
        go Gather h = tt
        go Scatter h = tt
        go WideLoad h = here_lanes (lanes_apart_group sram par h.0)
        go WideStore h = here_lanes (lanes_apart_group sram par h.0)

    no_wide : (kind : SparseKind) (s par : ℕ) → (s ≡ m → ⊥) → IsWideSeparated core forms (only m b) kind s par
    no_wide Gather s par ne = tt
    no_wide Scatter s par ne = tt
    no_wide WideLoad s par ne = subst (λ x. AreLanesApart core forms (only m b) x (length (mem core s).dims) par) (sym (only_there m s b ne)) tt
    no_wide WideStore s par ne = subst (λ x. AreLanesApart core forms (only m b) x (length (mem core s).dims) par) (sym (only_there m s b ne)) tt

    -- of a tree
    mutual
      pub groups_of : (n : ℕ) (node : PlainNode) → WidesFit core m node → are_grouped_in core forms m n node ≡ true → Separated core forms (only m b) n node → Each (Separates b) (groups_in core forms m n node)
      groups_of n (inner counters owned ops comb) w g h =
          body_apart (uses_in core forms m (n + counters_size counters) ops) g (uses_fit (n + counters_size counters) ops) (body_of_separated core forms m banks b (n + counters_size counters) ops h)
      groups_of n (outer counters style owned stages) w g h = all_groups_of (n + counters_size counters) stages w g h
      groups_of n (fsm start state test body next) w g h = groups_of (n + (length start + length test)) body w g h
      groups_of n (branch test first second) w g h =
          let parts = and_parts (are_grouped_in core forms m (n + length test) first) (are_grouped_in core forms m ((n + length test) + number_count first) second) g in
          each_append (Separates b) (groups_in core forms m (n + length test) first) (groups_in core forms m ((n + length test) + number_count first) second)
          (groups_of (n + length test) first w.0 parts.0 h.0) (groups_of ((n + length test) + number_count first) second w.1 parts.1 h.1)
      groups_of n (load r s spans) w g h = tt
      groups_of n (store r s spans) w g h = tt
      groups_of n (sparse kind r s places spans count par) w g h = go (s == m) refl
        where
          go : (t : Bool) → (s == m) ≡ t → Each (Separates b) (if t then wide_groups core forms m kind (length (mem core m).dims) par else [])
          go true e = let q = eqb-true s m e in wide_apart kind s par q (w.0 q) h
          go false e = tt

      pub all_groups_of : (n : ℕ) (stages : PlainStages) → AllWidesFit core m stages → are_stages_grouped core forms m n stages ≡ true → StagesSeparated core forms (only m b) n stages → Each (Separates b) (stage_groups core forms m n stages)
      all_groups_of n no_stage w g h = tt
      all_groups_of n (more_stage first last comb node rest) w g h =
          let parts = and_parts (are_grouped_in core forms m n node) (are_stages_grouped core forms m (n + number_count node) rest) g in
          each_append (Separates b) (groups_in core forms m n node) (stage_groups core forms m (n + number_count node) rest)
          (groups_of n node w.0 parts.0 h.0) (all_groups_of (n + number_count node) rest w.1 parts.1 h.1)

    mutual
      pub of_groups : (n : ℕ) (node : PlainNode) → WidesFit core m node → are_grouped_in core forms m n node ≡ true → Each (Separates b) (groups_in core forms m n node) → Separated core forms (only m b) n node
      of_groups n (inner counters owned ops comb) w g h =
          separated_of_body core forms m banks b (n + counters_size counters) ops (apart_body (uses_in core forms m (n + counters_size counters) ops) g (uses_fit (n + counters_size counters) ops) h)
      of_groups n (outer counters style owned stages) w g h = all_of_groups (n + counters_size counters) stages w g h
      of_groups n (fsm start state test body next) w g h = of_groups (n + (length start + length test)) body w g h
      of_groups n (branch test first second) w g h =
          let parts = and_parts (are_grouped_in core forms m (n + length test) first) (are_grouped_in core forms m ((n + length test) + number_count first) second) g in
          let xs = groups_in core forms m (n + length test) first in
          let ys = groups_in core forms m ((n + length test) + number_count first) second in
          (of_groups (n + length test) first w.0 parts.0 (each_left (Separates b) xs ys h), of_groups ((n + length test) + number_count first) second w.1 parts.1 (each_right (Separates b) xs ys h))
      of_groups n (load r s spans) w g h = tt
      of_groups n (store r s spans) w g h = tt
      of_groups n (sparse kind r s places spans count par) w g h = go (s == m) refl h
        where
          go : (t : Bool) → (s == m) ≡ t → Each (Separates b) (if t then wide_groups core forms m kind (length (mem core m).dims) par else []) → IsWideSeparated core forms (only m b) kind s par
          go true e h = let q = eqb-true s m e in apart_wide kind s par q (w.0 q) h
          go false e h = no_wide kind s par (λ q. false≢true (sym e ∙ eq-eqb s m q))

      pub all_of_groups : (n : ℕ) (stages : PlainStages) → AllWidesFit core m stages → are_stages_grouped core forms m n stages ≡ true → Each (Separates b) (stage_groups core forms m n stages) → StagesSeparated core forms (only m b) n stages
      all_of_groups n no_stage w g h = tt
      all_of_groups n (more_stage first last comb node rest) w g h =
          let parts = and_parts (are_grouped_in core forms m n node) (are_stages_grouped core forms m (n + number_count node) rest) g in
          let xs = groups_in core forms m n node in
          let ys = stage_groups core forms m (n + number_count node) rest in
          (of_groups n node w.0 parts.0 (each_left (Separates b) xs ys h), all_of_groups (n + number_count node) rest w.1 parts.1 (each_right (Separates b) xs ys h))

-- whether accesses are grouped
module _ (core : PlainCore) (forms : PlainForms) (m : ℕ) (banks : has_banks (mem core m).kind ≡ true) (b : Banking) where
  mutual
    pub grouped_of : (k n : ℕ) (streamed : Bool) (node : PlainNode) → are_grouped_in core forms m n node ≡ true → holds_of_each (grouped_rule core forms m b) k n streamed node ≡ true
    grouped_of k n streamed (inner counters owned ops comb) g = grouped_of_body core forms m banks b (n + counters_size counters) ops g
    grouped_of k n streamed (outer counters style owned stages) g = all_grouped_of (suc k) (n + counters_size counters) (is_stream style) stages g
    grouped_of k n streamed (fsm start state test body next) g = grouped_of (suc k) (n + (length start + length test)) false body g
    grouped_of k n streamed (branch test first second) g =
        let parts = and_parts (are_grouped_in core forms m (n + length test) first) (are_grouped_in core forms m ((n + length test) + number_count first) second) g in
        and_from _ _ (grouped_of (suc k) (n + length test) false first parts.0) (grouped_of (suc k + node_count first) ((n + length test) + number_count first) false second parts.1)
    grouped_of k n streamed (load r s spans) g = refl
    grouped_of k n streamed (store r s spans) g = refl
    grouped_of k n streamed (sparse kind r s places spans count par) g = refl

    pub all_grouped_of : (k n : ℕ) (streamed : Bool) (stages : PlainStages) → are_stages_grouped core forms m n stages ≡ true → holds_of_stages (grouped_rule core forms m b) k n streamed stages ≡ true
    all_grouped_of k n streamed no_stage g = refl
    all_grouped_of k n streamed (more_stage first last comb node rest) g =
        let parts = and_parts (are_grouped_in core forms m n node) (are_stages_grouped core forms m (n + number_count node) rest) g in
        and_from _ _ (grouped_of k n streamed node parts.0) (all_grouped_of (k + node_count node) (n + number_count node) streamed rest parts.1)

  mutual
    pub of_grouped : (k n : ℕ) (streamed : Bool) (node : PlainNode) → holds_of_each (grouped_rule core forms m b) k n streamed node ≡ true → are_grouped_in core forms m n node ≡ true
    of_grouped k n streamed (inner counters owned ops comb) h = body_of_grouped core forms m banks b (n + counters_size counters) ops h
    of_grouped k n streamed (outer counters style owned stages) h = all_of_grouped (suc k) (n + counters_size counters) (is_stream style) stages h
    of_grouped k n streamed (fsm start state test body next) h = of_grouped (suc k) (n + (length start + length test)) false body h
    of_grouped k n streamed (branch test first second) h =
        let parts = and_parts (holds_of_each (grouped_rule core forms m b) (suc k) (n + length test) false first) (holds_of_each (grouped_rule core forms m b) (suc k + node_count first) ((n + length test) + number_count first) false second) h in
        and_from _ _ (of_grouped (suc k) (n + length test) false first parts.0) (of_grouped (suc k + node_count first) ((n + length test) + number_count first) false second parts.1)
    of_grouped k n streamed (load r s spans) h = refl
    of_grouped k n streamed (store r s spans) h = refl
    of_grouped k n streamed (sparse kind r s places spans count par) h = refl

    pub all_of_grouped : (k n : ℕ) (streamed : Bool) (stages : PlainStages) → holds_of_stages (grouped_rule core forms m b) k n streamed stages ≡ true → are_stages_grouped core forms m n stages ≡ true
    all_of_grouped k n streamed no_stage h = refl
    all_of_grouped k n streamed (more_stage first last comb node rest) h =
        let parts = and_parts (holds_of_each (grouped_rule core forms m b) k n streamed node) (holds_of_stages (grouped_rule core forms m b) (k + node_count node) (n + number_count node) streamed rest) h in
        and_from _ _ (of_grouped k n streamed node parts.0) (all_of_grouped (k + node_count node) (n + number_count node) streamed rest parts.1)
