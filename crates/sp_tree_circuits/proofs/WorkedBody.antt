-- The worked body can be emitted, and is the circuit of its node.
use Rattle.std.proofs.Common.{◌≡◌, ℕ, zero, suc, ◌<◌, ◌^◌, true, IsTrue, IfSome, [], ◌∷◌, length, slice_index, slice_index_or, Some, refl, sym, ap, ap₂, subst, ◌∙◌, arith, lit<}
use Rattle.sp_words.specs.Types.{int_type}
use Rattle.sp_netlist.specs.Draft.{Draft}
use Rattle.sp_netlist.specs.Signals.{Signals}
use Rattle.sp_gates.specs.Runs.{RunsOn}
use Rattle.sp_gates.specs.Tested.{is_on}
use Rattle.sp_core.specs.ExampleForms.{lit, write}
use Rattle.sp_core.specs.PlainCore.{PlainOp}
use Rattle.sp_machine.specs.Examples.{chosen, chosen_plan}
use Rattle.sp_pipe.specs.declared.part.Act.TheVariants.{Write}
use Rattle.sp_pipe.specs.declared.part.PipeOp.{PipeOp}
use Rattle.sp_pipe.specs.Issues.{IssuesOne}
use Rattle.sp_pipe.specs.Right.{IsAt, IsTaken, ActFits, OpFits, OpsFit}
use Rattle.sp_pipe.specs.Values.{gives_word, time_of, given_width, taken_width, takes}
use Rattle.sp_part_runs.specs.ActsCircuits.{is_given, of_word, of_write, IsActOf, IsOpOf}
use Rattle.sp_part_runs.specs.ActsEntries.{IsOpAt, touches_memory}
use Rattle.sp_node_runs.specs.Bodies.{AreTimedOps}
use Rattle.sp_node_runs.specs.BodiesGiven.{Nets}
use Rattle.sp_tree_circuits.specs.Circuits.{Circuit}
use Rattle.sp_tree_circuits.specs.Worked.{ops, body, IsWord, IsWrite}

module _ (first second : PipeOp) (a : IsWord first) (b : IsWrite second) where
  first_fits : (d : Draft) → OpFits d [] first
  first_fits d = record {
    act = subst (λ t. ActFits d t first.act) (sym a.ty) (subst (ActFits d int_type) (sym a.act) (lit< tt));
    count = ap₂ takes a.act (ap length a.args);
    args = λ i l. let e = ap length a.args in absurd (omega (arith, l, e));
    mask = subst (λ m. IfSome m (λ k. IsTaken [] k 1 first.time)) (sym a.mask) tt;
    time = subst (λ n. n < 2 ^ 32) (sym (ap₂ (λ x m. time_of x m first.time) a.act a.mask)) (lit< tt);
  }

  first_taken : (p width time : ℕ) → p ≡ 0 → width ≡ 32 → IsTaken (first ∷ []) p width time
  first_taken p width time e w = record {
    op = first;
    at = record { within = omega (arith, e); is = λ other. ap (λ x. slice_index_or (first ∷ []) x other) e };
    gives = subst (λ x. IsTrue (gives_word x)) (sym a.act) refl;
    wide = ap₂ given_width a.act a.ty ∙ sym w;
    in_time = let t = ap₂ (λ x m. time_of x m first.time) a.act a.mask in omega (arith, t);
  }

  second_fits : (d : Draft) → OpFits d (first ∷ []) second
  second_fits d = record {
    act = subst (ActFits d second.ty) (sym b.act) tt;
    count = ap₂ takes b.act (ap length b.args);
    args = λ i l.
        let e = ap length b.args in
        let z : i ≡ 0 = omega (arith, l, e) in
        first_taken (slice_index second.args.items i) (taken_width second.act second.ty (length second.args.items) i) second.time (ap₂ slice_index b.args z)
        (ap (λ x. taken_width x second.ty (length second.args.items) i) b.act ∙ ap₂ (λ t n. taken_width Write t n i) b.ty e ∙ ap (λ j. taken_width Write int_type 1 j) z);
    mask = subst (λ m. IfSome m (λ k. IsTaken (first ∷ []) k 1 second.time)) (sym b.mask) tt;
    time = subst (λ n. n < 2 ^ 32) (sym (ap₂ (λ x m. time_of x m second.time) b.act b.mask ∙ b.time)) (lit< tt);
  }

  pub both_fit : (d : Draft) → OpsFit d (first ∷ second ∷ [])
  both_fit d zero op at = subst (OpFits d []) (at.is op) (first_fits d)
  both_fit d (suc zero) op at = subst (OpFits d (first ∷ [])) (at.is op) (second_fits d)
  both_fit d (suc (suc k)) op at = let l = at.within in absurd (omega (arith, l))

  timed_ops : (d : Draft) → AreTimedOps d ops (first ∷ second ∷ []) (slice_index (0 ∷ 0 ∷ []))
  timed_ops d = record {
    ops_of = record { each = refl; alike = alike };
    fits = both_fit d;
    times = times;
    memories = memories;
  }
    where
      alike : (k : ℕ) (op : PlainOp) (p : PipeOp) → IsOpAt ops k op → IsAt (first ∷ second ∷ []) k p → IsOpOf op p
      alike zero op p at is =
          subst (λ o. IsOpOf o p) (at.is op) (subst (IsOpOf (lit 1)) (is.is p) (record { kinds = subst (IsActOf (lit 1).kind) (sym a.act) (of_word 1); types = a.ty; taken = a.args; masks = a.mask }))
      alike (suc zero) op p at is =
          subst (λ o. IsOpOf o p) (at.is op) (subst (IsOpOf (write 1 (0 ∷ []))) (is.is p) (record { kinds = subst (IsActOf (write 1 (0 ∷ [])).kind) (sym b.act) of_write; types = b.ty; taken = b.args; masks = b.mask }))
      alike (suc (suc k)) op p at is = let l = at.within in absurd (omega (arith, l))

      times : (k : ℕ) (p : PipeOp) → IsAt (first ∷ second ∷ []) k p → p.time ≡ slice_index (0 ∷ 0 ∷ []) k
      times zero p is = ap (λ (q : PipeOp). q.time) (sym (is.is p)) ∙ a.time
      times (suc zero) p is = ap (λ (q : PipeOp). q.time) (sym (is.is p)) ∙ b.time
      times (suc (suc k)) p is = let l = is.within in absurd (omega (arith, l))

      memories : (k : ℕ) (op : PlainOp) → IsOpAt ops k op → touches_memory op.kind ≡ true → (m : ℕ) × (op.mem ≡ Some m)
      memories zero op at t = let e = ap (λ (o : PlainOp). touches_memory o.kind) (at.is op) ∙ t in absurd (cc (e))
      memories (suc zero) op at t = (1, sym (ap (λ (o : PlainOp). o.mem) (at.is op)))
      memories (suc (suc k)) op at t = let l = at.within in absurd (omega (arith, l))

  not_given : (k : ℕ) (p : PipeOp) → IsAt (first ∷ second ∷ []) k p → is_given p.act ≡ true → ⊥
  not_given zero p is t = let e = sym (ap is_given (ap (λ (q : PipeOp). q.act) (is.is p))) ∙ ap is_given a.act in absurd (cc (e, t))
  not_given (suc zero) p is t = let e = sym (ap is_given (ap (λ (q : PipeOp). q.act) (is.is p))) ∙ ap is_given b.act in absurd (cc (e, t))
  not_given (suc (suc k)) p is t = let l = is.within in absurd (omega (arith, l))

  pub has_body : (d : Draft) (start issue done : ℕ) → ((s : Signals) → RunsOn s d.cells → IssuesOne (is_on s start) (is_on s issue) (is_on s done) 1) → (env : Nets) (s : Signals) → RunsOn s d.cells → Circuit chosen chosen_plan s body [] env 2 (record { start = start; done = done })
  has_body d start issue done issues env s r = record {
    draft = d;
    ps = first ∷ second ∷ [];
    issue = issue;
    runs_on = r;
    paced = record { at_once = λ e. absurd (omega (arith, e)); interval = omega arith };
    timed = timed_ops d;
    issued = record { issues = issues s r; given = λ k op p at is t. absurd (not_given k p is t) };
  }
