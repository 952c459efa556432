-- What each memory keeps by its own scheme, all keep by all schemes.
use Rattle.std.proofs.Common.{◌≡◌, ℕ, zero, suc, ◌+◌, ◌<◌, Bool, true, false, List, [], ◌∷◌, length, map, get_or, Option, Some, None, arith, refl, sym, ap, ◌∙◌, subst}
use Rattle.std.proofs.lemmas.Bool.{and_parts, and_from, false≢true}
use Rattle.std.specs.List.{list_all}
use Rattle.std.specs.Prelude.{◌&&◌, not, is_some, slice_index_or, IsTrue}
use Rattle.sp_bank.specs.Banking.{Banking}
use Rattle.sp_core.specs.declared.access.Meet.{Meet}
use Rattle.sp_core.specs.declared.node.SparseKind.{SparseKind}
use Rattle.sp_core.specs.declared.node.SparseKind.TheVariants.{Gather, Scatter, WideLoad, WideStore}
use Rattle.sp_core.specs.Declarations.{mem, is_stream}
use Rattle.sp_core.specs.Elements.{numbers_below}
use Rattle.sp_core.specs.Forms.{PlainForms}
use Rattle.sp_core.specs.Numbering.{node_count, counters_size, number_count}
use Rattle.sp_core.specs.PlainCore.{PlainOp, PlainNode, PlainStages, inner, outer, fsm, branch, load, store, sparse, no_stage, more_stage, PlainCore}
use Rattle.sp_plan.specs.Groups.{is_one_group, known_forms, AreKeptApart, kind_at, share_banks, is_grouped, are_grouped, AreSeparated, AreLanesApart, IsWideSeparated, Separated, StagesSeparated}
use Rattle.sp_plan.specs.Nodes.{holds_of_each, holds_of_stages}
use Rattle.sp_plan.specs.Orders.{op_at}
use Rattle.sp_plan.specs.PlainPlan.{PlainPlan, PlainMemPlan, no_mem_plan, mem_plan}
use Rattle.sp_plan.specs.Ports.{share_port, scheme_at, is_serial}
use Rattle.sp_plan.specs.Validity.{group_rule, schemes_of}
use Rattle.sp_schemes.proofs.Bodies.{all_below, below_all, or_given, given_or}
use Rattle.sp_schemes.proofs.Ports.{only_here}
use Rattle.sp_schemes.specs.Chosen.{only, grouped_rule}

-- the scheme of a memory among all
pub scheme_in : (ms : List PlainMemPlan) (m : ℕ) → (slice_index_or ms m no_mem_plan).scheme ≡ slice_index_or (map (λ (x : PlainMemPlan). x.scheme) ms) m None
scheme_in [] m = refl
scheme_in (x ∷ ms) zero = refl
scheme_in (x ∷ ms) (suc m) = scheme_in ms m

module _ (core : PlainCore) (forms : PlainForms) (schemes : List (Option Banking)) where
  -- a memory that isn't serial has a scheme
  with_scheme : (x : Option ℕ) → not (is_serial schemes x) ≡ true → (P : Type 0) → ((m : ℕ) (b : Banking) → x ≡ Some m → slice_index_or schemes m None ≡ Some b → P) → P
  with_scheme None e P f = absurd (false≢true e)
  with_scheme (Some m) e P f = go (slice_index_or schemes m None) refl e
    where
      go : (s : Option Banking) → slice_index_or schemes m None ≡ s → not (not (is_some s)) ≡ true → P
      go None q e = absurd (false≢true e)
      go (Some b) q e = f m b refl q

  alone_shares : (a c : PlainOp) (m : ℕ) (b : Banking) → a.mem ≡ Some m → share_port core a c ≡ true → (share_port core a c && not (is_serial (only m b) a.mem)) ≡ true
  alone_shares a c m b e s = and_from (share_port core a c) (not (is_serial (only m b) a.mem)) s (ap (λ x. not (is_serial (only m b) x)) e ∙ ap (λ x. not (not (is_some x))) (only_here m b))

  module _ (n : ℕ) (ops : List PlainOp) where
    body_grouped : ((m : ℕ) (b : Banking) → slice_index_or schemes m None ≡ Some b → are_grouped core forms (only m b) n ops ≡ true) → are_grouped core forms schemes n ops ≡ true
    body_grouped h =
        below_all (λ j. list_all (is_grouped core forms schemes n ops j) (numbers_below j)) (length ops) (λ j l.
        below_all (is_grouped core forms schemes n ops j) j (λ i k.
        given_or (share_banks core forms schemes ops i j) (is_one_group (known_forms core forms (n + i) (op_at core ops i)) (known_forms core forms (n + j) (op_at core ops j))) (λ s.
        let parts = and_parts (share_port core (op_at core ops i) (op_at core ops j)) (not (is_serial schemes (op_at core ops i).mem)) s in
        with_scheme (op_at core ops i).mem parts.1 _ (λ m b e q.
        or_given (share_banks core forms (only m b) ops i j) (is_one_group (known_forms core forms (n + i) (op_at core ops i)) (known_forms core forms (n + j) (op_at core ops j)))
        (all_below (is_grouped core forms (only m b) n ops j) j (all_below (λ j. list_all (is_grouped core forms (only m b) n ops j) (numbers_below j)) (length ops) (h m b q) j l) i k)
        (alone_shares (op_at core ops i) (op_at core ops j) m b e parts.0)))))

    body_separated : ((m : ℕ) (b : Banking) → slice_index_or schemes m None ≡ Some b → AreSeparated core forms (only m b) n ops) → AreSeparated core forms schemes n ops
    body_separated h j i l k s =
        let parts = and_parts (share_port core (op_at core ops i) (op_at core ops j)) (not (is_serial schemes (op_at core ops i).mem)) s in
        with_scheme (op_at core ops i).mem parts.1 _ (λ m b e q.
        let mine = h m b q j i l k (alone_shares (op_at core ops i) (op_at core ops j) m b e parts.0) in
        let f = known_forms core forms (n + i) (op_at core ops i) in
        let g = known_forms core forms (n + j) (op_at core ops j) in
        subst (λ x. AreKeptApart (kind_at core forms x) (scheme_at schemes x) f g) (sym e)
        (subst (λ x. AreKeptApart (kind_at core forms (Some m)) x f g) (only_here m b ∙ sym q)
        (subst (λ x. AreKeptApart (kind_at core forms x) (scheme_at (only m b) x) f g) e mine)))

  wide_separated : (kind : SparseKind) (s par : ℕ) → ((b : Banking) → slice_index_or schemes s None ≡ Some b → IsWideSeparated core forms (only s b) kind s par) → IsWideSeparated core forms schemes kind s par
  wide_separated Gather s par h = tt
  wide_separated Scatter s par h = tt
  wide_separated WideLoad s par h = lanes (slice_index_or schemes s None) refl
    where
      lanes : (x : Option Banking) → slice_index_or schemes s None ≡ x → AreLanesApart core forms schemes (slice_index_or schemes s None) (length (mem core s).dims) par
      lanes None e = subst (λ x. AreLanesApart core forms schemes x (length (mem core s).dims) par) (sym e) tt
      lanes (Some b) e = subst (λ x. AreLanesApart core forms schemes x (length (mem core s).dims) par) (only_here s b ∙ sym e) (h b e)
  wide_separated WideStore s par h = lanes (slice_index_or schemes s None) refl
    where
      lanes : (x : Option Banking) → slice_index_or schemes s None ≡ x → AreLanesApart core forms schemes (slice_index_or schemes s None) (length (mem core s).dims) par
      lanes None e = subst (λ x. AreLanesApart core forms schemes x (length (mem core s).dims) par) (sym e) tt
      lanes (Some b) e = subst (λ x. AreLanesApart core forms schemes x (length (mem core s).dims) par) (only_here s b ∙ sym e) (h b e)

  mutual
    pub separated_by_all : (n : ℕ) (node : PlainNode) → ((m : ℕ) (b : Banking) → slice_index_or schemes m None ≡ Some b → Separated core forms (only m b) n node) → Separated core forms schemes n node
    separated_by_all n (inner counters owned ops comb) h = body_separated (n + counters_size counters) ops h
    separated_by_all n (outer counters style owned stages) h = all_separated_by_all (n + counters_size counters) stages h
    separated_by_all n (fsm start state test body next) h = separated_by_all (n + (length start + length test)) body h
    separated_by_all n (branch test first second) h = (
      separated_by_all (n + length test) first (λ m b e. (h m b e).0),
      separated_by_all ((n + length test) + number_count first) second (λ m b e. (h m b e).1),
    )
    separated_by_all n (load r s spans) h = tt
    separated_by_all n (store r s spans) h = tt
    separated_by_all n (sparse kind r s places spans count par) h = wide_separated kind s par (λ b e. h s b e)

    pub all_separated_by_all : (n : ℕ) (stages : PlainStages) → ((m : ℕ) (b : Banking) → slice_index_or schemes m None ≡ Some b → StagesSeparated core forms (only m b) n stages) → StagesSeparated core forms schemes n stages
    all_separated_by_all n no_stage h = tt
    all_separated_by_all n (more_stage first last comb node rest) h = (
      separated_by_all n node (λ m b e. (h m b e).0),
      all_separated_by_all (n + number_count node) rest (λ m b e. (h m b e).1),
    )

module _ (core : PlainCore) (forms : PlainForms) (meets : List Meet) (plan : PlainPlan) where
  mutual
    pub grouped_by_all : (k n : ℕ) (streamed : Bool) (node : PlainNode) → ((m : ℕ) (b : Banking) → slice_index_or (schemes_of plan) m None ≡ Some b → holds_of_each (grouped_rule core forms m b) k n streamed node ≡ true) → holds_of_each (group_rule core forms meets plan) k n streamed node ≡ true
    grouped_by_all k n streamed (inner counters owned ops comb) h = body_grouped core forms (schemes_of plan) (n + counters_size counters) ops h
    grouped_by_all k n streamed (outer counters style owned stages) h = all_grouped_by_all (suc k) (n + counters_size counters) (is_stream style) stages h
    grouped_by_all k n streamed (fsm start state test body next) h = grouped_by_all (suc k) (n + (length start + length test)) false body h
    grouped_by_all k n streamed (branch test first second) h =
        and_from _ _
        (grouped_by_all (suc k) (n + length test) false first (λ m b e. (and_parts (holds_of_each (grouped_rule core forms m b) (suc k) (n + length test) false first) (holds_of_each (grouped_rule core forms m b) (suc k + node_count first) ((n + length test) + number_count first) false second) (h m b e)).0))
        (grouped_by_all (suc k + node_count first) ((n + length test) + number_count first) false second (λ m b e. (and_parts (holds_of_each (grouped_rule core forms m b) (suc k) (n + length test) false first) (holds_of_each (grouped_rule core forms m b) (suc k + node_count first) ((n + length test) + number_count first) false second) (h m b e)).1))
    grouped_by_all k n streamed (load r s spans) h = refl
    grouped_by_all k n streamed (store r s spans) h = refl
    grouped_by_all k n streamed (sparse kind r s places spans count par) h = refl

    pub all_grouped_by_all : (k n : ℕ) (streamed : Bool) (stages : PlainStages) → ((m : ℕ) (b : Banking) → slice_index_or (schemes_of plan) m None ≡ Some b → holds_of_stages (grouped_rule core forms m b) k n streamed stages ≡ true) → holds_of_stages (group_rule core forms meets plan) k n streamed stages ≡ true
    all_grouped_by_all k n streamed no_stage h = refl
    all_grouped_by_all k n streamed (more_stage first last comb node rest) h =
        and_from _ _
        (grouped_by_all k n streamed node (λ m b e. (and_parts (holds_of_each (grouped_rule core forms m b) k n streamed node) (holds_of_stages (grouped_rule core forms m b) (k + node_count node) (n + number_count node) streamed rest) (h m b e)).0))
        (all_grouped_by_all (k + node_count node) (n + number_count node) streamed rest (λ m b e. (and_parts (holds_of_each (grouped_rule core forms m b) k n streamed node) (holds_of_stages (grouped_rule core forms m b) (k + node_count node) (n + number_count node) streamed rest) (h m b e)).1))
