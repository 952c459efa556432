-- Operations of a core that keep its rules may be emitted.
use Rattle.std.proofs.Common.{◌≡◌, ℕ, zero, suc, ◌+◌, ◌<◌, ◌≤◌, ◌^◌, true, ◌&&◌, inl, inr, List, [], ◌∷◌, ◌++◌, length, map, take, slice_index, slice_index_or, Option, Some, None, IfSome, refl, sym, ◌∙◌, ap, subst, arith}
use Rattle.std.proofs.lemmas.Bool.{true≢false, and_parts, ltb-true}
use Rattle.std.proofs.lemmas.List.{append-nil, append_assoc}
use Rattle.std.proofs.lemmas.List.Elements.{Contains-get_or}
use Rattle.sp_words.specs.declared.types.Ty.{Ty}
use Rattle.sp_words.specs.declared.types.Ty.TheVariants.{Bit}
use Rattle.sp_words.specs.Types.{width_of}
use Rattle.sp_netlist.specs.Draft.{Draft}
use Rattle.sp_gates.specs.Nets.{HasNet}
use Rattle.sp_core.specs.declared.operation.OpKind.{OpKind}
use Rattle.sp_core.specs.declared.operation.OpKind.TheVariants.{Word}
use Rattle.sp_core.specs.Around.{Around}
use Rattle.sp_core.specs.Latency.{latency}
use Rattle.sp_core.specs.OperationRules.{is_in_range, names_rightly, indices_of, is_mask, is_operation_right, are_operations_right, are_operations_right_after}
use Rattle.sp_core.specs.PlainCore.{PlainOp, PlainCore}
use Rattle.sp_core.specs.Typed.{Given, gives, give_all, given_type, taken_types}
use Rattle.sp_core.specs.Typed as typed
use Rattle.sp_pipe.specs.declared.part.Act.{Act}
use Rattle.sp_pipe.specs.declared.part.PipeOp.{PipeOp}
use Rattle.sp_pipe.specs.Right.{ActFits, IsAt, IsTaken, OpFits}
use Rattle.sp_pipe.specs.Values.{given_width, taken_width, takes}
use Rattle.sp_part_runs.specs.ActsCircuits.{IsActOf, IsOpOf, AreOpsOf, is_given, is_answered, net_of, answer_of, of_word, of_count, of_live, of_read, of_write, of_enq, of_deq, of_reset, of_one, of_two, of_shift, of_mux, of_cast}
use Rattle.sp_part_runs.specs.ActsEntries.{IsOpAt}
use Rattle.sp_circuit_ops.specs.Fitting.{NetStands, NetFits, IsUsed, LeaveCycles, LeaveTime, OperationsFit, AwaitedOperationsFit}
use Rattle.sp_circuit_ops.proofs.Typing.{gives_there, give_each, takes_there, taken_there, stands_within}

-- places of lists
take_at : {A : Type 0} (xs : List A) (k i : ℕ) (o : A) → i < k → slice_index_or (take k xs) i o ≡ slice_index_or xs i o
take_at xs zero i o lt = absurd (omega (arith, lt))
take_at [] (suc k) i o lt = refl
take_at (x ∷ xs) (suc k) zero o lt = refl
take_at (x ∷ xs) (suc k) (suc i) o lt = take_at xs k i o (omega (arith, lt))

take_within : {A : Type 0} (xs : List A) (k i : ℕ) → i < k → i < length xs → i < length (take k xs)
take_within xs zero i lt less = absurd (omega (arith, lt))
take_within [] (suc k) i lt less = absurd (omega (arith, less))
take_within (x ∷ xs) (suc k) zero lt less = omega arith
take_within (x ∷ xs) (suc k) (suc i) lt less = (let w = take_within xs k i (omega (arith, lt)) (omega (arith, less)) in omega (arith, w))

pub same_at : {A : Type 0} (xs : List A) (i : ℕ) (o p : A) → i < length xs → slice_index_or xs i o ≡ slice_index_or xs i p
same_at [] i o p lt = absurd (omega (arith, lt))
same_at (x ∷ xs) zero o p lt = refl
same_at (x ∷ xs) (suc i) o p lt = same_at xs i o p (omega (arith, lt))

no_op : PlainOp
no_op = record { kind = Word 0; ty = Bit; args = []; mem = None; mask = None }

abbrev givens : List PlainOp → Given
givens ops = map (λ (o : PlainOp). given_type o.kind o.ty) ops

abbrev op_at : List PlainOp → ℕ → PlainOp
op_at ops k = slice_index_or ops k no_op

op_is : (ops : List PlainOp) (k : ℕ) → k < length ops → IsOpAt ops k (op_at ops k)
op_is ops k lt = record { within = lt; is = λ o. same_at ops k o no_op lt }

module _ (core : PlainCore) (around : Around) where
  -- each operation keeps its rules, by those before it
  rule_at : (earlier : Given) (ops : List PlainOp) → are_operations_right_after core around earlier ops ≡ true → (k : ℕ) → k < length ops → is_operation_right core around (earlier ++ givens (take k ops)) (op_at ops k) ≡ true
  rule_at earlier [] r k lt = absurd (omega (arith, lt))
  rule_at earlier (op ∷ ops) r zero lt = subst (λ g. is_operation_right core around g op ≡ true) (sym (append-nil earlier)) (and_parts (is_operation_right core around earlier op) _ r).0
  rule_at earlier (op ∷ ops) r (suc k) lt =
      subst (λ g. is_operation_right core around g (op_at ops k) ≡ true) (append_assoc earlier (given_type op.kind op.ty ∷ []) (givens (take k ops)))
      (rule_at (earlier ++ given_type op.kind op.ty ∷ []) ops (and_parts (is_operation_right core around earlier op) _ r).1 k (omega (arith, lt)))

  -- a word that is given stands before, at its place
  given_at : (ops : List PlainOp) (k i : ℕ) (ty : Ty) → gives (givens (take k ops)) i ty ≡ true → (i < k) × (i < length ops) × (typed.is_given (given_type (op_at ops i).kind (op_at ops i).ty) ty ≡ true)
  given_at ops zero i ty e = absurd (true≢false (sym e))
  given_at [] (suc k) i ty e = absurd (true≢false (sym e))
  given_at (op ∷ ops) (suc k) zero ty e = (omega arith, omega arith, e)
  given_at (op ∷ ops) (suc k) (suc i) ty e = (let r = given_at ops k i ty e in (next i k r.0, next i (length ops) r.1, r.2))
    where
      next : (a b : ℕ) → a < b → suc a < suc b
      next a b lt = omega (arith, lt)

  module _ (d : Draft) (ops : List PlainOp) (ps : List PipeOp) (time wait : ℕ → ℕ) (right : are_operations_right core around ops ≡ true) (of : AreOpsOf ops ps) (timed : (k : ℕ) (p : PipeOp) → IsAt ps k p → p.time ≡ time k)
      (nets : (k : ℕ) (op : PlainOp) (p : PipeOp) → IsOpAt ops k op → IsAt ps k p → NetStands d op p (wait k)) (leave : LeaveCycles ops time wait) where
    module _ (k : ℕ) (p : PipeOp) (at : IsAt ps k p) where
      low : k < length ops
      low = (let lt = at.within in let each = of.each in omega (arith, lt, each))

      abbrev op : PlainOp
      op = op_at ops k

      here : IsOpAt ops k op
      here = op_is ops k low

      is_of : IsOpOf op p
      is_of = of.alike k op p here at

      rules : is_operation_right core around (givens (take k ops)) op ≡ true
      rules = rule_at [] ops right k low

      first : (is_in_range op.kind op.ty around ≡ true) × (names_rightly core around op.kind op.ty op.mem ≡ true)
      first = and_parts (is_in_range op.kind op.ty around) (names_rightly core around op.kind op.ty op.mem) (and_parts (is_in_range op.kind op.ty around && names_rightly core around op.kind op.ty op.mem) _ rules).0

      second : (give_all (givens (take k ops)) op.args (taken_types op.kind op.ty (indices_of core around op.mem)) ≡ true) × (is_mask core around (givens (take k ops)) op.mask ≡ true)
      second = and_parts (give_all (givens (take k ops)) op.args (taken_types op.kind op.ty (indices_of core around op.mem))) (is_mask core around (givens (take k ops)) op.mask) (and_parts (is_in_range op.kind op.ty around && names_rightly core around op.kind op.ty op.mem) _ rules).1

      -- an earlier operation whose word it uses
      taken : (i : ℕ) (ty : Ty) → gives (givens (take k ops)) i ty ≡ true → IsUsed op i → IsTaken (take k ps) i (width_of ty) p.time
      taken i ty e used =
          let g = given_at ops k i ty e in
          let less : i < length ps = (let lt = g.1 in let each = of.each in omega (arith, lt, each)) in
          let q : PipeOp = slice_index_or ps i p in
          let there : IsAt ps i q = record { within = less; is = λ o. same_at ps i o p less } in
          let used_op : IsOpAt ops i (op_at ops i) = op_is ops i g.1 in
          let is_of_q : IsOpOf (op_at ops i) q = of.alike i (op_at ops i) q used_op there in
          let w = gives_there (op_at ops i).kind q.act (op_at ops i).ty ty is_of_q.kinds g.2 in
          let fit : NetStands d (op_at ops i) q (wait i) = nets i (op_at ops i) q used_op there in
          record {
            op = q;
            at = record { within = take_within ps k i g.0 less; is = λ o. take_at ps k i o g.0 ∙ same_at ps i o p less };
            gives = w.0;
            wide = ap (given_width q.act) is_of_q.types ∙ w.1;
            in_time = (let most = stands_within q.act q.mask q.time (wait i) fit.early in
                let when = timed i q there in let own = timed k p at in let order = leave.uses k i op (op_at ops i) here used_op used in omega (arith, most, when, own, order));
          }

      -- it fits a draft where its net does
      act_fits : ActFits d p.ty p.act
      act_fits = subst (λ t. ActFits d t p.act) (sym is_of.types) (by op.kind p.act is_of.kinds first.0 (nets k op p here at).given (nets k op p here at).answered)
        where
          by : (kind : OpKind) (a : Act) → IsActOf kind a → is_in_range kind op.ty around ≡ true → (is_given a ≡ true → HasNet d (net_of a) (width_of op.ty)) → (is_answered a ≡ true → HasNet d (net_of a) (width_of op.ty)) → ActFits d op.ty a
          by _ _ (of_word w) r given answered = ltb-true w (2 ^ width_of op.ty) r
          by _ _ (of_count c lane net) r given answered = given refl
          by _ _ (of_live c first last net) r given answered = given refl
          by _ _ (of_read net after) r given answered = answered refl
          by _ _ of_write r given answered = tt
          by _ _ of_enq r given answered = tt
          by _ _ (of_deq net after) r given answered = answered refl
          by _ _ of_reset r given answered = tt
          by _ _ (of_one one) r given answered = tt
          by _ _ (of_two two) r given answered = tt
          by _ _ (of_shift left n) r given answered = ltb-true n 64 r
          by _ _ of_mux r given answered = tt
          by _ _ (of_cast to) r given answered = tt

      each : (length op.args ≡ length (taken_types op.kind op.ty (indices_of core around op.mem)))
          × ((j : ℕ) → j < length op.args → gives (givens (take k ops)) (slice_index op.args j) (slice_index_or (taken_types op.kind op.ty (indices_of core around op.mem)) j Bit) ≡ true)
      each = give_each (givens (take k ops)) op.args (taken_types op.kind op.ty (indices_of core around op.mem)) second.0

      masked : (mask : Option ℕ) → mask ≡ op.mask → is_mask core around (givens (take k ops)) mask ≡ true → IfSome mask (λ m. IsTaken (take k ps) m 1 p.time)
      masked None e r = tt
      masked (Some m) e r = taken m Bit r (inr (sym e))

      fit : OpFits d (take k ps) p
      fit = record {
        act = act_fits;
        count = ap (λ xs. takes p.act (length xs)) is_of.taken ∙ takes_there op.kind p.act op.ty (indices_of core around op.mem) (length op.args) is_of.kinds each.0;
        args = subst (λ xs. (i : ℕ) → i < length xs → IsTaken (take k ps) (slice_index xs i) (taken_width p.act p.ty (length xs) i) p.time) (sym is_of.taken)
            (λ i lt. subst (λ n. IsTaken (take k ps) (slice_index op.args i) n p.time)
            (sym (ap (λ t. taken_width p.act t (length op.args) i) is_of.types ∙ taken_there op.kind p.act op.ty (indices_of core around op.mem) (length op.args) i is_of.kinds each.0 lt))
            (taken (slice_index op.args i) (slice_index_or (taken_types op.kind op.ty (indices_of core around op.mem)) i Bit) (each.1 i lt) (inl (Contains-get_or op.args i 0 lt))));
        mask = subst (λ mask. IfSome mask (λ m. IsTaken (take k ps) m 1 p.time)) (sym is_of.masks) (masked op.mask refl second.1);
        time = (let most = stands_within p.act p.mask p.time (wait k) (nets k op p here at).early in let when = timed k p at in let few = leave.small k op here in omega (arith, most, when, few));
      }

pub awaited_fit : AwaitedOperationsFit
awaited_fit core around d ops ps time wait right of timed nets leave k p at = fit core around d ops ps time wait right of timed nets leave k p at

-- an answer that is awaited for the latency of its operation
module _ (core : PlainCore) (d : Draft) (ops : List PlainOp) (ps : List PipeOp) (time : ℕ → ℕ) where
  abbrev wait : ℕ → ℕ
  wait k = latency core (op_at ops k)

  same : (k : ℕ) (op : PlainOp) → IsOpAt ops k op → latency core op ≡ wait k
  same k op there = ap (latency core) (sym (there.is no_op))

  stands : ((k : ℕ) (op : PlainOp) (p : PipeOp) → IsOpAt ops k op → IsAt ps k p → NetFits core d op p) → (k : ℕ) (op : PlainOp) (p : PipeOp) → IsOpAt ops k op → IsAt ps k p → NetStands d op p (wait k)
  stands nets k op p there at = (let fit = nets k op p there at in record { given = fit.given; answered = fit.answered; early = λ e. subst (λ n. answer_of p.act ≤ n) (same k op there) (fit.early e) })

  cycles : LeaveTime core ops time → LeaveCycles ops time wait
  cycles leave = record {
    uses = λ k i op used there before takes. subst (λ n. time i + n ≤ time k) (same i used before) (leave.uses k i op used there before takes);
    small = λ k op there. subst (λ n. time k + n < 2 ^ 32) (same k op there) (leave.small k op there);
  }

pub fits : OperationsFit
fits core around d ops ps time right of timed nets leave = awaited_fit core around d ops ps time (wait core d ops ps time) right of timed (stands core d ops ps time nets) (cycles core d ops ps time leave)
