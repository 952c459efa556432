-- What a plan keeps by all schemes, each memory keeps by its own scheme alone.
use Rattle.std.proofs.Common.{◌≡◌, ℕ, ◌+◌, Bool, true, false, List, length, Option, Some, None, refl, sym, ap, ◌∙◌, subst, ⊎_elim}
use Rattle.std.proofs.lemmas.Bool.{and_parts, and_from, false≢true, cases_eq}
use Rattle.std.specs.List.{list_all}
use Rattle.std.specs.Prelude.{◌&&◌, not, is_some, slice_index_or}
use Rattle.sp_bank.specs.Banking.{Banking}
use Rattle.sp_core.specs.declared.access.Meet.{Meet}
use Rattle.sp_core.specs.declared.node.SparseKind.{SparseKind}
use Rattle.sp_core.specs.declared.node.SparseKind.TheVariants.{Gather, Scatter, WideLoad, WideStore}
use Rattle.sp_core.specs.Declarations.{mem}
use Rattle.sp_core.specs.Elements.{numbers_below}
use Rattle.sp_core.specs.Forms.{PlainForms}
use Rattle.sp_core.specs.Numbering.{counters_size, number_count}
use Rattle.sp_core.specs.PlainCore.{PlainOp, PlainNode, PlainStages, inner, outer, fsm, branch, load, store, sparse, no_stage, more_stage, PlainCore}
use Rattle.sp_plan.specs.Groups.{is_one_group, known_forms, AreKeptApart, kind_at, share_banks, is_grouped, are_grouped, AreSeparated, AreLanesApart, IsWideSeparated, Separated, StagesSeparated}
use Rattle.sp_plan.specs.Nodes.{holds_of_each, Site, site_at, keeps_at}
use Rattle.sp_plan.specs.Orders.{op_at}
use Rattle.sp_plan.specs.PlainPlan.{PlainPlan}
use Rattle.sp_plan.specs.Ports.{share_port, scheme_at, is_serial}
use Rattle.sp_plan.specs.Validity.{group_rule, schemes_of}
use Rattle.sp_plans.proofs.FromSites.{from_sites, at_sites}
use Rattle.sp_schemes.proofs.Bodies.{all_below, below_all, or_given, given_or}
use Rattle.sp_schemes.proofs.Ports.{only_here, only_there}
use Rattle.sp_schemes.specs.Chosen.{only, grouped_rule}

-- the only memory with a scheme
only_mem : (m : ℕ) (b : Banking) (x : Option ℕ) → not (is_serial (only m b) x) ≡ true → x ≡ Some m
only_mem m b None e = absurd (false≢true e)
only_mem m b (Some r) e = ⊎_elim (λ same. ap Some same) (λ ne. absurd (false≢true (ap (λ x. not (not (is_some x))) (sym (only_there m r b ne)) ∙ e))) (cases_eq r m)

module _ (core : PlainCore) (forms : PlainForms) (schemes : List (Option Banking)) (m : ℕ) (b : Banking) (is : slice_index_or schemes m None ≡ Some b) where
  shares_all : (a c : PlainOp) → (share_port core a c && not (is_serial (only m b) a.mem)) ≡ true → (share_port core a c && not (is_serial schemes a.mem)) ≡ true
  shares_all a c s =
      let parts = and_parts (share_port core a c) (not (is_serial (only m b) a.mem)) s in
      and_from (share_port core a c) (not (is_serial schemes a.mem)) parts.0 (ap (λ x. not (is_serial schemes x)) (only_mem m b a.mem parts.1) ∙ ap (λ x. not (not (is_some x))) is)

  module _ (n : ℕ) (ops : List PlainOp) where
    body_alone : are_grouped core forms schemes n ops ≡ true → are_grouped core forms (only m b) n ops ≡ true
    body_alone h =
        below_all (λ j. list_all (is_grouped core forms (only m b) n ops j) (numbers_below j)) (length ops) (λ j l.
        below_all (is_grouped core forms (only m b) n ops j) j (λ i k.
        given_or (share_banks core forms (only m b) ops i j) (is_one_group (known_forms core forms (n + i) (op_at core ops i)) (known_forms core forms (n + j) (op_at core ops j))) (λ s.
        or_given (share_banks core forms schemes ops i j) (is_one_group (known_forms core forms (n + i) (op_at core ops i)) (known_forms core forms (n + j) (op_at core ops j)))
        (all_below (is_grouped core forms schemes n ops j) j (all_below (λ j. list_all (is_grouped core forms schemes n ops j) (numbers_below j)) (length ops) h j l) i k)
        (shares_all (op_at core ops i) (op_at core ops j) s))))

    body_apart : AreSeparated core forms schemes n ops → AreSeparated core forms (only m b) n ops
    body_apart h j i l k s =
        let e = only_mem m b (op_at core ops i).mem (and_parts (share_port core (op_at core ops i) (op_at core ops j)) (not (is_serial (only m b) (op_at core ops i).mem)) s).1 in
        let all = h j i l k (shares_all (op_at core ops i) (op_at core ops j) s) in
        let f = known_forms core forms (n + i) (op_at core ops i) in
        let g = known_forms core forms (n + j) (op_at core ops j) in
        subst (λ x. AreKeptApart (kind_at core forms x) (scheme_at (only m b) x) f g) (sym e)
        (subst (λ x. AreKeptApart (kind_at core forms (Some m)) x f g) (is ∙ sym (only_here m b))
        (subst (λ x. AreKeptApart (kind_at core forms x) (scheme_at schemes x) f g) e all))

  lanes_alone : (s par : ℕ) → AreLanesApart core forms schemes (slice_index_or schemes s None) (length (mem core s).dims) par → AreLanesApart core forms (only m b) (slice_index_or (only m b) s None) (length (mem core s).dims) par
  lanes_alone s par h =
      ⊎_elim (λ same. subst (λ x. AreLanesApart core forms (only m b) x (length (mem core s).dims) par)
      (ap (λ r. slice_index_or schemes r None) same ∙ is ∙ sym (only_here m b) ∙ ap (λ r. slice_index_or (only m b) r None) (sym same)) h)
      (λ ne. subst (λ x. AreLanesApart core forms (only m b) x (length (mem core s).dims) par) (sym (only_there m s b ne)) tt)
      (cases_eq s m)

  wide_alone : (kind : SparseKind) (s par : ℕ) → IsWideSeparated core forms schemes kind s par → IsWideSeparated core forms (only m b) kind s par
  wide_alone Gather s par h = tt
  wide_alone Scatter s par h = tt
  wide_alone WideLoad s par h = lanes_alone s par h
  wide_alone WideStore s par h = lanes_alone s par h

  mutual
    pub separated_alone : (n : ℕ) (node : PlainNode) → Separated core forms schemes n node → Separated core forms (only m b) n node
    separated_alone n (inner counters owned ops comb) h = body_apart (n + counters_size counters) ops h
    separated_alone n (outer counters style owned stages) h = stages_alone (n + counters_size counters) stages h
    separated_alone n (fsm start state test body next) h = separated_alone (n + (length start + length test)) body h
    separated_alone n (branch test first second) h = (separated_alone (n + length test) first h.0, separated_alone ((n + length test) + number_count first) second h.1)
    separated_alone n (load r s spans) h = tt
    separated_alone n (store r s spans) h = tt
    separated_alone n (sparse kind r s places spans count par) h = wide_alone kind s par h

    stages_alone : (n : ℕ) (stages : PlainStages) → StagesSeparated core forms schemes n stages → StagesSeparated core forms (only m b) n stages
    stages_alone n no_stage h = tt
    stages_alone n (more_stage first last comb node rest) h = (separated_alone n node h.0, stages_alone (n + number_count node) rest h.1)

module _ (core : PlainCore) (forms : PlainForms) (meets : List Meet) (plan : PlainPlan) (m : ℕ) (b : Banking) (is : slice_index_or (schemes_of plan) m None ≡ Some b) where
  node_alone : (k n : ℕ) (streamed : Bool) (node : PlainNode) → group_rule core forms meets plan k n streamed node ≡ true → grouped_rule core forms m b k n streamed node ≡ true
  node_alone k n st (inner counters owned ops comb) h = body_alone core forms (schemes_of plan) m b is (n + counters_size counters) ops h
  node_alone k n st (outer counters style owned stages) h = refl
  node_alone k n st (fsm start state test body next) h = refl
  node_alone k n st (branch test first second) h = refl
  node_alone k n st (load r s spans) h = refl
  node_alone k n st (store r s spans) h = refl
  node_alone k n st (sparse kind r s places spans count par) h = refl

  site_alone : (k : ℕ) (site : Option Site) → keeps_at (group_rule core forms meets plan) k site ≡ true → keeps_at (grouped_rule core forms m b) k site ≡ true
  site_alone k None h = refl
  site_alone k (Some s) h = node_alone k s.number s.streamed s.node h

  pub grouped_alone : holds_of_each (group_rule core forms meets plan) 0 0 false core.root ≡ true → holds_of_each (grouped_rule core forms m b) 0 0 false core.root ≡ true
  grouped_alone h = from_sites (grouped_rule core forms m b) core.root (λ k lt. site_alone k (site_at k 0 false core.root) (at_sites (group_rule core forms meets plan) core.root h k))
