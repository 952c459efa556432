-- What the accesses of a list are.
use Rattle.std.proofs.Common.{◌≡◌, ℕ, zero, suc, ◌+◌, Bool, true, false, ◌&&◌, not, if◌then◌else◌, List, [], ◌∷◌, ◌++◌, Option, Some, None, refl, sym, ◌∙◌, ap, subst, arith}
use Rattle.std.proofs.lemmas.Bool.{true≢false, and_parts}
use Rattle.std.specs.List.{Contains}
use Rattle.sp_words.specs.declared.types.Ty.{Ty}
use Rattle.sp_netlist.specs.Draft.{Draft}
use Rattle.sp_core.specs.declared.operation.OpKind.{OpKind}
use Rattle.sp_core.specs.Around.{Around}
use Rattle.sp_core.specs.OperationRules.{names_rightly, is_in_range, indices_of, is_mask, is_operation_right, are_operations_right_after}
use Rattle.sp_core.specs.OperationRules as rules_of
use Rattle.sp_core.specs.PlainCore.{PlainOp, PlainCore}
use Rattle.sp_core.specs.Typed.{Given, given_type}
use Rattle.sp_pipe.specs.declared.part.Act.{Act}
use Rattle.sp_pipe.specs.declared.part.Act.TheVariants as act
use Rattle.sp_pipe.specs.declared.part.PipeOp.{PipeOp}
use Rattle.sp_pipe.specs.Acts.{ActsAt}
use Rattle.sp_pipe.specs.Values.{is_access}
use Rattle.sp_part_runs.specs.ActsCircuits.{IsActOf, IsOpOf, AreOpsOf, is_answered, net_of, of_word, of_count, of_live, of_read, of_write, of_enq, of_deq, of_reset, of_one, of_two, of_shift, of_mux, of_cast}
use Rattle.sp_part_runs.specs.ActsEntries.{IsOpAt}
use Rattle.sp_op_nets.specs.Acted.{answers_of}
use Rattle.sp_access_nets.specs.declared.access.AccessNets.{AccessNets}
use Rattle.sp_access_nets.specs.Accesses.{is_some, answer_in, AccessesNameMemories, IsAccessOf, none, passed, acted}
use Rattle.sp_access_nets.specs.Laws.{RulesNameMemories, net_in, ReservedAreAnswers, IsAccessAt, EachHasAccess, EachIsOfOperation}

-- an operation and its act are accesses alike
access_alike : (kind : OpKind) (a : Act) → IsActOf kind a → rules_of.is_access kind ≡ is_access a
access_alike _ _ (of_word w) = refl
access_alike _ _ (of_count c lane net) = refl
access_alike _ _ (of_live c first last net) = refl
access_alike _ _ (of_read net after) = refl
access_alike _ _ of_write = refl
access_alike _ _ of_enq = refl
access_alike _ _ (of_deq net after) = refl
access_alike _ _ of_reset = refl
access_alike _ _ (of_one op) = refl
access_alike _ _ (of_two op) = refl
access_alike _ _ (of_shift left by) = refl
access_alike _ _ of_mux = refl
access_alike _ _ (of_cast to) = refl

not_so : (b : Bool) → not b ≡ true → false ≡ b
not_so true e = e
not_so false e = refl

names : (core : PlainCore) (around : Around) (kind : OpKind) (ty : Ty) (mem : Option ℕ) → names_rightly core around kind ty mem ≡ true → is_some mem ≡ rules_of.is_access kind
names core around kind ty None e = not_so (rules_of.is_access kind) e
names core around kind ty (Some m) e = sym (and_parts (rules_of.is_access kind) _ (and_parts (rules_of.is_access kind && _) _ e).0).0

ops_behind : (op : PlainOp) (ops : List PlainOp) (p : PipeOp) (ps : List PipeOp) → AreOpsOf (op ∷ ops) (p ∷ ps) → AreOpsOf ops ps
ops_behind op ops p ps h = record {
  each = (let e = h.each in omega (arith, e));
  alike = λ k o q at at_q. h.alike (suc k) o q (record { within = (let w = at.within in omega (arith, w)); is = at.is }) (record { within = (let w = at_q.within in omega (arith, w)); is = at_q.is });
}

first_alike : (op : PlainOp) (ops : List PlainOp) (p : PipeOp) (ps : List PipeOp) → AreOpsOf (op ∷ ops) (p ∷ ps) → IsOpOf op p
first_alike op ops p ps h = h.alike 0 op p (record { within = omega arith; is = λ o. refl }) (record { within = omega arith; is = λ o. refl })

named_after : (core : PlainCore) (around : Around) (earlier : Given) (ops : List PlainOp) (ps : List PipeOp) → are_operations_right_after core around earlier ops ≡ true → AreOpsOf ops ps → AccessesNameMemories ops ps
named_after core around earlier [] [] e h = tt {0}
named_after core around earlier [] (p ∷ ps) e h = (let l = h.each in absurd (omega (arith, l)))
named_after core around earlier (op ∷ ops) [] e h = (let l = h.each in absurd (omega (arith, l)))
named_after core around earlier (op ∷ ops) (p ∷ ps) e h =
    let both = and_parts (is_operation_right core around earlier op) (are_operations_right_after core around (earlier ++ given_type op.kind op.ty ∷ []) ops) e in
    let fits = and_parts (is_in_range op.kind op.ty around && names_rightly core around op.kind op.ty op.mem) _ both.0 in
    let named = (and_parts (is_in_range op.kind op.ty around) (names_rightly core around op.kind op.ty op.mem) fits.0).1 in
    (names core around op.kind op.ty op.mem named ∙ access_alike op.kind p.act (first_alike op ops p ps h).kinds, named_after core around (earlier ++ given_type op.kind op.ty ∷ []) ops ps both.1 (ops_behind op ops p ps h))

pub named_by_rules : RulesNameMemories
named_by_rules core around ops ps e h = named_after core around [] ops ps e h

-- what is no access is answered nowhere
quiet : (a : Act) → is_access a ≡ false → (if is_answered a then net_of a ∷ [] else []) ≡ []
quiet (act.Read net after) e = absurd (true≢false e)
quiet (act.Deq net after) e = absurd (true≢false e)
quiet (act.Given net) e = refl
quiet (act.Word w) e = refl
quiet (act.One op) e = refl
quiet (act.Two op) e = refl
quiet (act.Shift left by) e = refl
quiet act.Mux e = refl
quiet (act.Cast to) e = refl
quiet act.Write e = refl
quiet act.Enq e = refl
quiet act.Reset e = refl

answered_net : (a : Act) → (if is_answered a then net_of a ∷ [] else []) ≡ net_in (answer_in a)
answered_net (act.Read net after) = refl
answered_net (act.Deq net after) = refl
answered_net (act.Given net) = refl
answered_net (act.Word w) = refl
answered_net (act.One op) = refl
answered_net (act.Two op) = refl
answered_net (act.Shift left by) = refl
answered_net act.Mux = refl
answered_net (act.Cast to) = refl
answered_net act.Write = refl
answered_net act.Enq = refl
answered_net act.Reset = refl

pub reserved : ReservedAreAnswers
reserved copy d issue all _ _ _ _ none = refl
reserved copy d issue all _ _ _ _ (passed {n} {op} {ops} {p} {ps} {accesses} e f more) = ap (λ xs. xs ++ answers_of ps) (quiet p.act f) ∙ reserved copy d issue all _ ops ps accesses more
reserved copy d issue all _ _ _ _ (acted {n} {op} {ops} {p} {ps} {a} {accesses} f own acts more) =
    ap (λ xs. xs ++ answers_of ps) (answered_net p.act ∙ ap net_in (sym own.answered)) ∙ ap (λ xs. net_in a.answer ++ xs) (reserved copy d issue all _ ops ps accesses more)

-- places of lists
module _ (A : Type 0) where
  contains_behind : (x : A) (xs : List A) (y : A) → Contains xs y → Contains (x ∷ xs) y
  contains_behind x xs y (k, lt, e) = (suc k, omega (arith, lt), e)

  contains_first : (x : A) (xs : List A) → Contains (x ∷ xs) x
  contains_first x xs = (0, omega arith, refl)

same_op : (a b : PlainOp) (ops : List PlainOp) → IsOpAt (a ∷ ops) 0 b → a ≡ b
same_op a b ops at = at.is a

op_behind : (a b : PlainOp) (ops : List PlainOp) (k : ℕ) → IsOpAt (a ∷ ops) (suc k) b → IsOpAt ops k b
op_behind a b ops k at = record { within = (let w = at.within in omega (arith, w)); is = at.is }

op_ahead : (a b : PlainOp) (ops : List PlainOp) (k : ℕ) → IsOpAt ops k b → IsOpAt (a ∷ ops) (suc k) b
op_ahead a b ops k at = record { within = (let w = at.within in omega (arith, w)); is = at.is }

module _ (copy : (number : ℕ) → Option ℕ) (d : Draft) (issue : ℕ) (all : List PipeOp) where
  access_ahead : (n : ℕ) (p : PipeOp) (ps : List PipeOp) (k : ℕ) (op : PlainOp) (a : AccessNets) → IsAccessAt copy d issue all (suc n) ps k op a → IsAccessAt copy d issue all n (p ∷ ps) (suc k) op a
  access_ahead n p ps k op a h = record {
    placed = h.placed;
    at = record { within = (let w = h.at.within in omega (arith, w)); is = h.at.is };
    of_op = subst (λ j. IsAccessOf copy j op h.placed a) (next n k) h.of_op;
    acts = h.acts;
  }
    where
      next : (n k : ℕ) → suc n + k ≡ n + suc k
      next n k = omega arith

  access_first : (n : ℕ) (p : PipeOp) (ps : List PipeOp) (op : PlainOp) (a : AccessNets) → IsAccessOf copy n op p a → ActsAt d issue all p a.enable a.operands.items → IsAccessAt copy d issue all n (p ∷ ps) 0 op a
  access_first n p ps op a own acts = record {
    placed = p;
    at = record { within = omega arith; is = λ o. refl };
    of_op = subst (λ j. IsAccessOf copy j op p a) (same n) own;
    acts = acts;
  }
    where
      same : (n : ℕ) → n ≡ n + 0
      same n = omega arith

none_is_some : (m : ℕ) (o : Option ℕ) → o ≡ None → o ≡ Some m → ⊥
none_is_some m o e f = true≢false (sym (ap is_some f) ∙ ap is_some e)

pub has_access : EachHasAccess
has_access copy d issue all _ _ _ _ none k op m at is = (let w = at.within in absurd (omega (arith, w)))
has_access copy d issue all _ _ _ _ (passed {n} {op = o} {ops} {p} {ps} {accesses} e f more) zero op m at is = absurd (none_is_some m o.mem e (ap (λ (x : PlainOp). x.mem) (same_op o op ops at) ∙ is))
has_access copy d issue all _ _ _ _ (passed {n} {op = o} {ops} {p} {ps} {accesses} e f more) (suc k) op m at is =
    let w = has_access copy d issue all _ ops ps accesses more k op m (op_behind o op ops k at) is in
    (w.0, w.1, access_ahead copy d issue all n p ps k op w.0 w.2)
has_access copy d issue all _ _ _ _ (acted {n} {op = o} {ops} {p} {ps} {a} {accesses} f own acts more) zero op m at is =
    (a, contains_first AccessNets a accesses, access_first copy d issue all n p ps op a (subst (λ x. IsAccessOf copy n x p a) (same_op o op ops at) own) acts)
has_access copy d issue all _ _ _ _ (acted {n} {op = o} {ops} {p} {ps} {a} {accesses} f own acts more) (suc k) op m at is =
    let w = has_access copy d issue all _ ops ps accesses more k op m (op_behind o op ops k at) is in
    (w.0, contains_behind AccessNets a accesses w.0 w.1, access_ahead copy d issue all n p ps k op w.0 w.2)

pub of_operation : EachIsOfOperation
of_operation copy d issue all _ _ _ _ none a (k, lt, e) = absurd (omega (arith, lt))
of_operation copy d issue all _ _ _ _ (passed {n} {op = o} {ops} {p} {ps} {accesses} e f more) a there =
    let w = of_operation copy d issue all _ ops ps accesses more a there in
    (suc w.0, w.1, op_ahead o w.1 ops w.0 w.2, access_ahead copy d issue all n p ps w.0 w.1 a w.3)
of_operation copy d issue all _ _ _ _ (acted {n} {op = o} {ops} {p} {ps} {a = x} {accesses} f own acts more) a (zero, lt, e) =
    (0, o, record { within = omega arith; is = λ y. refl }, subst (λ y. IsAccessAt copy d issue all n (p ∷ ps) 0 o y) e (access_first copy d issue all n p ps o x own acts))
of_operation copy d issue all _ _ _ _ (acted {n} {op = o} {ops} {p} {ps} {a = x} {accesses} f own acts more) a (suc k, lt, e) =
    let w = of_operation copy d issue all _ ops ps accesses more a (k, omega (arith, lt), e) in
    (suc w.0, w.1, op_ahead o w.1 ops w.0 w.2, access_ahead copy d issue all n p ps w.0 w.1 a w.3)
