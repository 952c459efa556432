-- What is found for a memory is the scheme that is chosen.
use Rattle.std.proofs.Common.{◌≡◌, ℕ, suc, ◌+◌, ◌<◌, ◌≤◌, ◌^◌, Bool, true, false, List, [], ◌∷◌, ◌++◌, length, map, replicate, get_or, Option, Some, None, arith, refl, sym, ap, ◌∙◌, subst}
use Rattle.std.proofs.lemmas.Bool.{and_parts, eqb-true, false≢true}
use Rattle.std.proofs.lemmas.List.{length-replicate, length-map, get_or-map}
use Rattle.std.specs.List.{All, list_all}
use Rattle.std.specs.Prelude.{IfSome, IfNone, ◌&&◌, ◌==◌, if◌then◌else◌}
use Rattle.sp_affine.specs.Affine.{Affine}
use Rattle.sp_bank.specs.Banking.{Banking}
use Rattle.sp_bank.specs.Search.{Serves, IsFirst, Precedes}
use Rattle.sp_bank.specs.Separation.{IsGroup, Separates}
use Rattle.sp_core.specs.declared.node.SparseKind.{SparseKind}
use Rattle.sp_core.specs.declared.node.SparseKind.TheVariants.{Gather, Scatter, WideLoad, WideStore}
use Rattle.sp_core.specs.Around.{nothing}
use Rattle.sp_core.specs.Declarations.{mem}
use Rattle.sp_core.specs.Elements.{numbers_below}
use Rattle.sp_core.specs.Forms.{PlainForms}
use Rattle.sp_core.specs.Invariant.{IsCore}
use Rattle.sp_core.specs.MemoryRules as rules
use Rattle.sp_core.specs.Numbering.{counters_size, number_count, number_count_in}
use Rattle.sp_core.specs.PlainCore.{PlainOp, PlainNode, PlainStages, inner, outer, fsm, branch, load, store, sparse, no_stage, more_stage, PlainCore}
use Rattle.sp_plan.specs.Groups.{known_forms}
use Rattle.sp_plan.specs.Ports.{has_banks}
use Rattle.sp_schemes.proofs.Bodies.{below_length}
use Rattle.sp_schemes.proofs.Flat.{AreRows, is_group}
use Rattle.sp_schemes.proofs.Grouping.{groups_are}
use Rattle.sp_schemes.proofs.Lists.{Each, each_append, each_at, each_of}
use Rattle.sp_schemes.proofs.Sizes.{IsBanked, is_banked, right_mem, wides_fit}
use Rattle.sp_schemes.proofs.Trees.{WidesFit, AllWidesFit, uses_fit, groups_of, of_groups, grouped_of, of_grouped, lane, lane_rows, lanes_joined, lanes_pairs}
use Rattle.sp_schemes.specs.Accesses.{port_to, use_by, uses_in, are_one_group}
use Rattle.sp_schemes.specs.Chosen.{MayHave, IsChosen}
use Rattle.sp_schemes.specs.Groups.{banked_forms, banked_rank, lanes_group, wide_groups, groups_in, stage_groups, are_grouped_in, are_stages_grouped}
use Rattle.sp_words.specs.declared.kind.Kind.TheVariants.{Sram}

module _ (core : PlainCore) (forms : PlainForms) (m : ℕ) where
  few_uses : (n : ℕ) (ops : List PlainOp) → length (uses_in core forms m n ops) ≤ length ops
  few_uses n [] = omega arith
  few_uses n (op ∷ ops) = go (port_to m op) (few_uses (suc n) ops)
    where
      go : (x : Option Bool) → length (uses_in core forms m (suc n) ops) ≤ length ops → length (use_by x (known_forms core forms n op) ++ uses_in core forms m (suc n) ops) ≤ length (op ∷ ops)
      go None l = omega (arith, l)
      go (Some p) l = omega (arith, l)

module _ (core : PlainCore) (forms : PlainForms) (m : ℕ) (banks : has_banks (mem core m).kind ≡ true) (is : IsBanked (mem core m).kind (length (mem core m).dims)) where
  abbrev pub rank : ℕ
  rank = banked_rank (mem core m).kind (length (mem core m).dims)

  -- the groups are groups
  wide_are : (kind : SparseKind) (par : ℕ) → (mem core m).kind ≡ Sram → par < 2 ^ 30 → Each (IsGroup rank) (wide_groups core forms m kind (length (mem core m).dims) par)
  wide_are kind par sram l = go kind
    where
      lanes : IsGroup rank (lanes_group core forms m (length (mem core m).dims) par)
      lanes =
          let b : Banking = record { banks = 1; block = 1; alpha = replicate rank 0; hinge = 0 } in
          let size : length b.alpha ≡ rank = length-replicate rank 0 in
          let n = lanes_pairs core forms m banks rank is.some is.ranked is.whole b size par in
          subst (IsGroup rank) (sym (lanes_joined core forms m banks rank is.some is.ranked is.whole b size (numbers_below par)))
          (is_group rank (map (lane core forms m banks rank is.some is.ranked is.whole b size) (numbers_below par)) is.some
          (subst (λ k. AreRows k (map (lane core forms m banks rank is.some is.ranked is.whole b size) (numbers_below par))) size (lane_rows core forms m banks rank is.some is.ranked is.whole b size sram (numbers_below par)))
          (omega (arith, n, l)))

      go : (kind : SparseKind) → Each (IsGroup rank) (wide_groups core forms m kind (length (mem core m).dims) par)
      go Gather = tt
      go Scatter = tt
      go WideLoad = (lanes, tt)
      go WideStore = (lanes, tt)

  mutual
    pub are_groups : (n : ℕ) (node : PlainNode) → WidesFit core m node → are_grouped_in core forms m n node ≡ true → number_count node ≤ 2 ^ 29 → Each (IsGroup rank) (groups_in core forms m n node)
    are_groups n (inner counters owned ops comb) w g l =
        let few = few_uses core forms m (n + counters_size counters) ops in
        groups_are (mem core m).kind rank is.some [] (uses_in core forms m (n + counters_size counters) ops) g (uses_fit core forms m banks rank is.some is.ranked is.whole (n + counters_size counters) ops) (omega (arith, l, few))
    are_groups n (outer counters style owned stages) w g l = all_groups (n + counters_size counters) stages w g (omega (arith, l))
    are_groups n (fsm start state test body next) w g l = are_groups (n + (length start + length test)) body w g (omega (arith, l))
    are_groups n (branch test first second) w g l =
        let parts = and_parts (are_grouped_in core forms m (n + length test) first) (are_grouped_in core forms m ((n + length test) + number_count first) second) g in
        each_append (IsGroup rank) (groups_in core forms m (n + length test) first) (groups_in core forms m ((n + length test) + number_count first) second)
        (are_groups (n + length test) first w.0 parts.0 (omega (arith, l))) (are_groups ((n + length test) + number_count first) second w.1 parts.1 (omega (arith, l)))
    are_groups n (load r s spans) w g l = tt
    are_groups n (store r s spans) w g l = tt
    are_groups n (sparse kind r s places spans count par) w g l = go (s == m) refl
      where
        go : (t : Bool) → (s == m) ≡ t → Each (IsGroup rank) (if t then wide_groups core forms m kind (length (mem core m).dims) par else [])
        go true e = wide_are kind par (w.0 (eqb-true s m e)) w.1
        go false e = tt

    pub all_groups : (n : ℕ) (stages : PlainStages) → AllWidesFit core m stages → are_stages_grouped core forms m n stages ≡ true → number_count_in stages ≤ 2 ^ 29 → Each (IsGroup rank) (stage_groups core forms m n stages)
    all_groups n no_stage w g l = tt
    all_groups n (more_stage first last comb node rest) w g l =
        let parts = and_parts (are_grouped_in core forms m n node) (are_stages_grouped core forms m (n + number_count node) rest) g in
        each_append (IsGroup rank) (groups_in core forms m n node) (stage_groups core forms m (n + number_count node) rest)
        (are_groups n node w.0 parts.0 (omega (arith, l))) (all_groups (n + number_count node) rest w.1 parts.1 (omega (arith, l)))

  module _ (right : IsCore core) where
    pub fit : WidesFit core m core.root
    fit = wides_fit core m nothing [] core.root right.nodes

    -- a scheme that serves the groups is one that the memory may have, and the other way round
    pub may_have : (b : Banking) → are_grouped_in core forms m 0 core.root ≡ true → Serves rank (groups_in core forms m 0 core.root) b → MayHave core forms m b
    may_have b g s = record {
      banks = banks;
      space = s.space;
      fits = is.fit (length b.alpha) s.rank_is;
      grouped = grouped_of core forms m banks b 0 0 false core.root g;
      separated = of_groups core forms m banks rank is.some is.ranked is.whole b s.rank_is 0 core.root fit g (each_of (Separates b) (groups_in core forms m 0 core.root) [] (λ i l. s.separates i [] l));
    }

    pub serves : (b : Banking) → MayHave core forms m b → Serves rank (groups_in core forms m 0 core.root) b
    serves b h =
        let g = of_grouped core forms m banks b 0 0 false core.root h.grouped in
        let size = is.fits (length b.alpha) h.fits in record {
          space = h.space;
          rank_is = size;
          separates = λ i d l. each_at (Separates b) (groups_in core forms m 0 core.root) (groups_of core forms m banks rank is.some is.ranked is.whole b size 0 core.root fit g h.separated) i d l;
        }

    pub found : (b : Banking) → are_grouped_in core forms m 0 core.root ≡ true → IsFirst rank (groups_in core forms m 0 core.root) b → IsChosen core forms m (Some b)
    found b g h = (may_have b g h.serves, λ t may. h.first t (serves t may))

    pub not_found : ((b : Banking) → Serves rank (groups_in core forms m 0 core.root) b → ⊥) → IsChosen core forms m None
    not_found h b may = h b (serves b may)

    -- what the search gives
    pub by_search : are_grouped_in core forms m 0 core.root ≡ true → (r : Option Banking) → IfSome r (IsFirst rank (groups_in core forms m 0 core.root)) → IfNone r ((b : Banking) → Serves rank (groups_in core forms m 0 core.root) b → ⊥) → IsChosen core forms m r
    by_search g (Some b) h k = found b g h
    by_search g None h k = not_found k

    pub not_grouped : are_grouped_in core forms m 0 core.root ≡ false → IsChosen core forms m None
    not_grouped e b may = false≢true (sym e ∙ of_grouped core forms m banks b 0 0 false core.root may.grouped)

pub not_banked : (core : PlainCore) (forms : PlainForms) (m : ℕ) → has_banks (mem core m).kind ≡ false → IsChosen core forms m None
not_banked core forms m e b may = false≢true (sym e ∙ may.banks)

-- a memory of a core
pub banked_mem : (core : PlainCore) → IsCore core → (m : ℕ) → has_banks (mem core m).kind ≡ true → IsBanked (mem core m).kind (length (mem core m).dims)
banked_mem core right m b = is_banked (mem core m).kind (length (mem core m).dims) b (and_parts _ _ (and_parts _ _ (right_mem core.mems (and_parts _ _ right.memories).0 m)).0).0

-- groups as they lie in memory
pub groups_all : {V : Type 0} (items : V → List Affine) (r : ℕ) (vs : List V) (gs : List (List Affine)) → map items vs ≡ gs → Each (IsGroup r) gs → (k : ℕ) (d : V) → k < length vs → IsGroup r (items (get_or vs k d))
groups_all items r vs gs e h k d l =
    subst (IsGroup r) (get_or-map items vs k d (items d) l)
    (each_at (IsGroup r) (map items vs) (subst (Each (IsGroup r)) (sym e) h) k (items d) (let n : length (map items vs) ≡ length vs = length-map vs items in omega (arith, n, l)))
