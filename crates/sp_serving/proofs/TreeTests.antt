-- A scheme serves a memory exactly where the test of the whole tree says so.
use Rattle.std.proofs.Common.{◌≡◌, ℕ, suc, ◌+◌, ◌<◌, Bool, true, false, IsTrue, ◌↔◌, length, Option, Some, None, refl, sym, ap, ◌∙◌, subst, ⊎_elim}
use Rattle.std.proofs.lemmas.Bool.{and_parts, and_from, eqb-true, eq-eqb, false≢true, cases_eq}
use Rattle.std.specs.Prelude.{◌||◌, ◌==◌, not, slice_index_or}
use Rattle.sp_bank.specs.Banking.{Banking}
use Rattle.sp_core.specs.declared.node.SparseKind.{SparseKind}
use Rattle.sp_core.specs.declared.node.SparseKind.TheVariants.{Gather, Scatter, WideLoad, WideStore}
use Rattle.sp_core.specs.Declarations.{mem, is_stream}
use Rattle.sp_core.specs.Forms.{PlainForms}
use Rattle.sp_core.specs.Invariant.{IsCore}
use Rattle.sp_core.specs.MemoryRules as rules
use Rattle.sp_core.specs.Numbering.{node_count, counters_size, number_count}
use Rattle.sp_core.specs.PlainCore.{PlainNode, PlainStages, inner, outer, fsm, branch, load, store, sparse, no_stage, more_stage, PlainCore}
use Rattle.sp_plan.specs.Groups.{AreLanesApart, IsWideSeparated, Separated, StagesSeparated}
use Rattle.sp_plan.specs.Nodes.{holds_of_each, holds_of_stages}
use Rattle.sp_plan.specs.Validity.{has_rank, fits_scheme}
use Rattle.sp_plans.specs.Parts.{Serves, IsServed}
use Rattle.sp_schemes.proofs.Bodies.{or_given, given_or}
use Rattle.sp_schemes.proofs.Ports.{only_here, only_there}
use Rattle.sp_schemes.proofs.Sizes.{right_mem}
use Rattle.sp_schemes.specs.Chosen.{only, grouped_rule}
use Rattle.sp_serving.proofs.ApartTests.{lanes_tell, lanes_true}
use Rattle.sp_serving.proofs.BodyTests.{body_grouped, body_separated, body_from}
use Rattle.sp_serving.specs.Served.{AreRanked, is_wide_kept, is_served_in, are_stages_served}
use Rattle.sp_words.specs.declared.kind.Kind.{Kind}
use Rattle.sp_words.specs.declared.kind.Kind.TheVariants.{Reg, Sram, Fifo, LineBuf, Dram, ArgIn, ArgOut}

-- a scheme that fits its memory has its rank
ranked_by : (kind : Kind) (dims rank : ℕ) → rules.has_rank kind dims ≡ true → has_rank kind dims rank ≡ true → AreRanked kind dims rank
ranked_by Sram dims rank r f = sym (eqb-true rank dims f)
ranked_by LineBuf dims rank r f = (eqb-true dims 2 r, eqb-true rank 1 f)
ranked_by Reg dims rank r f = absurd (false≢true f)
ranked_by Fifo dims rank r f = absurd (false≢true f)
ranked_by Dram dims rank r f = absurd (false≢true f)
ranked_by ArgIn dims rank r f = absurd (false≢true f)
ranked_by ArgOut dims rank r f = absurd (false≢true f)

pub ranked : (core : PlainCore) (m : ℕ) (b : Banking) → IsCore core → fits_scheme core m (Some b) ≡ true → AreRanked (mem core m).kind (length (mem core m).dims) (length b.alpha)
ranked core m b right fits =
    ranked_by (mem core m).kind (length (mem core m).dims) (length b.alpha)
    (and_parts _ _ (and_parts _ _ (right_mem core.mems (and_parts _ _ right.memories).0 m)).0).0 fits

module _ (core : PlainCore) (forms : PlainForms) (m : ℕ) (b : Banking) (block : 0 < b.block) (banks : 0 < b.banks) where
  wide_tells : (kind : SparseKind) (s par : ℕ) → s ≡ m → is_wide_kept core forms m b kind par ≡ true → IsWideSeparated core forms (only m b) kind s par
  wide_tells Gather s par e h = tt
  wide_tells Scatter s par e h = tt
  wide_tells WideLoad s par e h =
      subst (λ r. AreLanesApart core forms (only m b) (slice_index_or (only m b) r None) (length (mem core r).dims) par) (sym e)
      (subst (λ x. AreLanesApart core forms (only m b) x (length (mem core m).dims) par) (sym (only_here m b)) (lanes_tell core forms (only m b) b block banks (length (mem core m).dims) par h))
  wide_tells WideStore s par e h =
      subst (λ r. AreLanesApart core forms (only m b) (slice_index_or (only m b) r None) (length (mem core r).dims) par) (sym e)
      (subst (λ x. AreLanesApart core forms (only m b) x (length (mem core m).dims) par) (sym (only_here m b)) (lanes_tell core forms (only m b) b block banks (length (mem core m).dims) par h))

  wide_true : (kind : SparseKind) (s par : ℕ) → s ≡ m → IsWideSeparated core forms (only m b) kind s par → is_wide_kept core forms m b kind par ≡ true
  wide_true Gather s par e h = refl
  wide_true Scatter s par e h = refl
  wide_true WideLoad s par e h =
      lanes_true core forms (only m b) b block banks (length (mem core m).dims) par
      (subst (λ x. AreLanesApart core forms (only m b) x (length (mem core m).dims) par) (only_here m b)
      (subst (λ r. AreLanesApart core forms (only m b) (slice_index_or (only m b) r None) (length (mem core r).dims) par) e h))
  wide_true WideStore s par e h =
      lanes_true core forms (only m b) b block banks (length (mem core m).dims) par
      (subst (λ x. AreLanesApart core forms (only m b) x (length (mem core m).dims) par) (only_here m b)
      (subst (λ r. AreLanesApart core forms (only m b) (slice_index_or (only m b) r None) (length (mem core r).dims) par) e h))

  other_wide : (kind : SparseKind) (s par : ℕ) → (s ≡ m → ⊥) → IsWideSeparated core forms (only m b) kind s par
  other_wide Gather s par ne = tt
  other_wide Scatter s par ne = tt
  other_wide WideLoad s par ne = subst (λ x. AreLanesApart core forms (only m b) x (length (mem core s).dims) par) (sym (only_there m s b ne)) tt
  other_wide WideStore s par ne = subst (λ x. AreLanesApart core forms (only m b) x (length (mem core s).dims) par) (sym (only_there m s b ne)) tt

  sparse_tells : (kind : SparseKind) (s par : ℕ) → (not (s == m) || is_wide_kept core forms m b kind par) ≡ true → IsWideSeparated core forms (only m b) kind s par
  sparse_tells kind s par h = ⊎_elim
      (λ same. wide_tells kind s par same (or_given (s == m) (is_wide_kept core forms m b kind par) h (eq-eqb s m same)))
      (λ ne. other_wide kind s par ne) (cases_eq s m)

  sparse_true : (kind : SparseKind) (s par : ℕ) → IsWideSeparated core forms (only m b) kind s par → (not (s == m) || is_wide_kept core forms m b kind par) ≡ true
  sparse_true kind s par h = given_or (s == m) (is_wide_kept core forms m b kind par) (λ e. wide_true kind s par (eqb-true s m e) h)

  mutual
    grouped : (k n : ℕ) (streamed : Bool) (node : PlainNode) → is_served_in core forms m b n node ≡ true → holds_of_each (grouped_rule core forms m b) k n streamed node ≡ true
    grouped k n st (inner counters owned ops comb) h = body_grouped core forms m b (n + counters_size counters) ops block banks h
    grouped k n st (outer counters style owned stages) h = stages_grouped (suc k) (n + counters_size counters) (is_stream style) stages h
    grouped k n st (fsm start state test body next) h = grouped (suc k) (n + (length start + length test)) false body h
    grouped k n st (branch test first second) h =
        let p = and_parts (is_served_in core forms m b (n + length test) first) (is_served_in core forms m b ((n + length test) + number_count first) second) h in
        and_from (holds_of_each (grouped_rule core forms m b) (suc k) (n + length test) false first) (holds_of_each (grouped_rule core forms m b) (suc k + node_count first) ((n + length test) + number_count first) false second)
        (grouped (suc k) (n + length test) false first p.0)
        (grouped (suc k + node_count first) ((n + length test) + number_count first) false second p.1)
    grouped k n st (load r s spans) h = refl
    grouped k n st (store r s spans) h = refl
    grouped k n st (sparse kind r s places spans count par) h = refl

    stages_grouped : (k n : ℕ) (streamed : Bool) (stages : PlainStages) → are_stages_served core forms m b n stages ≡ true → holds_of_stages (grouped_rule core forms m b) k n streamed stages ≡ true
    stages_grouped k n st no_stage h = refl
    stages_grouped k n st (more_stage first last comb node rest) h =
        let p = and_parts (is_served_in core forms m b n node) (are_stages_served core forms m b (n + number_count node) rest) h in
        and_from (holds_of_each (grouped_rule core forms m b) k n st node) (holds_of_stages (grouped_rule core forms m b) (k + node_count node) (n + number_count node) st rest)
        (grouped k n st node p.0) (stages_grouped (k + node_count node) (n + number_count node) st rest p.1)

  mutual
    separated : (n : ℕ) (node : PlainNode) → is_served_in core forms m b n node ≡ true → Separated core forms (only m b) n node
    separated n (inner counters owned ops comb) h = body_separated core forms m b (n + counters_size counters) ops block banks h
    separated n (outer counters style owned stages) h = stages_separated (n + counters_size counters) stages h
    separated n (fsm start state test body next) h = separated (n + (length start + length test)) body h
    separated n (branch test first second) h =
        let p = and_parts (is_served_in core forms m b (n + length test) first) (is_served_in core forms m b ((n + length test) + number_count first) second) h in
        (separated (n + length test) first p.0, separated ((n + length test) + number_count first) second p.1)
    separated n (load r s spans) h = tt
    separated n (store r s spans) h = tt
    separated n (sparse kind r s places spans count par) h = sparse_tells kind s par h

    stages_separated : (n : ℕ) (stages : PlainStages) → are_stages_served core forms m b n stages ≡ true → StagesSeparated core forms (only m b) n stages
    stages_separated n no_stage h = tt
    stages_separated n (more_stage first last comb node rest) h =
        let p = and_parts (is_served_in core forms m b n node) (are_stages_served core forms m b (n + number_count node) rest) h in
        (separated n node p.0, stages_separated (n + number_count node) rest p.1)

  mutual
    served : (k n : ℕ) (streamed : Bool) (node : PlainNode) → holds_of_each (grouped_rule core forms m b) k n streamed node ≡ true → Separated core forms (only m b) n node → is_served_in core forms m b n node ≡ true
    served k n st (inner counters owned ops comb) g s = body_from core forms m b (n + counters_size counters) ops block banks g s
    served k n st (outer counters style owned stages) g s = stages_served (suc k) (n + counters_size counters) (is_stream style) stages g s
    served k n st (fsm start state test body next) g s = served (suc k) (n + (length start + length test)) false body g s
    served k n st (branch test first second) g s =
        let p = and_parts (holds_of_each (grouped_rule core forms m b) (suc k) (n + length test) false first) (holds_of_each (grouped_rule core forms m b) (suc k + node_count first) ((n + length test) + number_count first) false second) g in
        and_from (is_served_in core forms m b (n + length test) first) (is_served_in core forms m b ((n + length test) + number_count first) second)
        (served (suc k) (n + length test) false first p.0 s.0)
        (served (suc k + node_count first) ((n + length test) + number_count first) false second p.1 s.1)
    served k n st (load r s spans) g q = refl
    served k n st (store r s spans) g q = refl
    served k n st (sparse kind r s places spans count par) g q = sparse_true kind s par q

    stages_served : (k n : ℕ) (streamed : Bool) (stages : PlainStages) → holds_of_stages (grouped_rule core forms m b) k n streamed stages ≡ true → StagesSeparated core forms (only m b) n stages → are_stages_served core forms m b n stages ≡ true
    stages_served k n st no_stage g s = refl
    stages_served k n st (more_stage first last comb node rest) g s =
        let p = and_parts (holds_of_each (grouped_rule core forms m b) k n st node) (holds_of_stages (grouped_rule core forms m b) (k + node_count node) (n + number_count node) st rest) g in
        and_from (is_served_in core forms m b n node) (are_stages_served core forms m b (n + number_count node) rest)
        (served k n st node p.0 s.0) (stages_served (k + node_count node) (n + number_count node) st rest p.1 s.1)

  pub serves_from : fits_scheme core m (Some b) ≡ true → is_served_in core forms m b 0 core.root ≡ true → Serves core forms m b
  serves_from f h = record { fits = f; grouped = grouped 0 0 false core.root h; separated = separated 0 core.root h }

  pub serves_to : Serves core forms m b → is_served_in core forms m b 0 core.root ≡ true
  serves_to h = served 0 0 false core.root h.grouped h.separated

-- by the scheme of a plan, if it has one
module _ (core : PlainCore) (forms : PlainForms) (m : ℕ) where
  pub no_scheme : (x : Option Banking) → x ≡ None → IsTrue true ↔ IsServed core forms m x
  no_scheme x e = (λ t. subst (IsServed core forms m) (sym e) tt, λ h. refl)

  pub unfit_scheme : (x : Option Banking) (b : Banking) → x ≡ Some b → fits_scheme core m x ≡ false → IsTrue false ↔ IsServed core forms m x
  unfit_scheme x b e f = (λ t. absurd (false≢true t), λ h. let s = subst (IsServed core forms m) e h in absurd (false≢true (sym f ∙ ap (fits_scheme core m) e ∙ s.fits)))

  pub fit_scheme : (x : Option Banking) (b : Banking) (t : Bool) → x ≡ Some b → IsTrue t ↔ Serves core forms m b → IsTrue t ↔ IsServed core forms m x
  fit_scheme x b t e h = (λ u. subst (IsServed core forms m) (sym e) (h.0 u), λ s. h.1 (subst (IsServed core forms m) e s))
