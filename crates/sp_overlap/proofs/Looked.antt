-- Bounds and slices change nothing, by the rules of cores.
use Rattle.std.proofs.Common.{◌≡◌, ℕ, suc, ◌+◌, true, List, [], ◌∷◌, ◌++◌, length, refl}
use Rattle.std.proofs.lemmas.Bool.{and_parts, false≢true}
use Rattle.std.specs.List.{list_all}
use Rattle.std.specs.Prelude.{◌&&◌, Option, Some, None}
use Rattle.sp_core.specs.declared.operation.OpKind.{OpKind}
use Rattle.sp_core.specs.declared.operation.OpKind.TheVariants as kind
use Rattle.sp_core.specs.Around.{Around}
use Rattle.sp_core.specs.Events.{Standing, Moment, act_of, event_of, entry_moments, list_moments, bounds_moments, spans_moments}
use Rattle.sp_core.specs.History.{Entry, left_out, gave, touched, Bounds, Taken, one, both}
use Rattle.sp_core.specs.NodeRules.{is_span_right}
use Rattle.sp_core.specs.OperationRules.{is_early_at, is_early, is_bound, is_counter_right}
use Rattle.sp_core.specs.PlainCore.{PlainOp, PlainCounter, PlainSpan, single, range, PlainCore}
use Rattle.sp_machine.specs.Sound.{AreLooks}

looks_append : (a b : List Moment) → AreLooks a → AreLooks b → AreLooks (a ++ b)
looks_append [] b h k = k
looks_append (x ∷ a) b h k = (h.0, looks_append a b h.1 k)

module _ (core : PlainCore) (around : Around) where
  entry_looks : (n : ℕ) (st : Standing) (op : OpKind) (m : Option ℕ) (e : Entry) → is_early_at core around op m ≡ true → AreLooks (entry_moments n st op m e)
  entry_looks n st op m left_out h = tt
  entry_looks n st op m (gave w) h = tt
  entry_looks n st op None (touched is w) h = tt
  entry_looks n st op (Some m) (touched is w) h = go op h
    where
      go : (op : OpKind) → is_early_at core around op (Some m) ≡ true → AreLooks (event_of n st (Some m) is (act_of op w))
      go kind.Read h = (refl, tt)
      go kind.Write h = absurd (false≢true h)
      go kind.Enq h = absurd (false≢true h)
      go kind.Deq h = absurd (false≢true h)
      go kind.Reset h = absurd (false≢true h)
      go op h = tt

  list_looks : (n : ℕ) (st : Standing) (ops : List PlainOp) (es : List Entry) → list_all (is_early core around) ops ≡ true → AreLooks (list_moments n st ops es)
  list_looks n st (op ∷ ops) (e ∷ es) h =
      let q = and_parts (is_early core around op) (list_all (is_early core around) ops) h in
      looks_append (entry_moments n st op.kind op.mem e) (list_moments (suc n) st ops es) (entry_looks n st op.kind op.mem e q.0) (list_looks (suc n) st ops es q.1)
  list_looks n st [] es h = tt
  list_looks n st (op ∷ ops) [] h = tt

  bound_looks : (n : ℕ) (st : Standing) (ops : List PlainOp) (es : List Entry) → is_bound core around ops ≡ true → AreLooks (list_moments n st ops es)
  bound_looks n st ops es h = list_looks n st ops es (and_parts _ _ h).1

  pub bounds_look : (n : ℕ) (st : Standing) (counters : List PlainCounter) (bs : List Bounds) → list_all (is_counter_right core around) counters ≡ true → AreLooks (bounds_moments n st counters bs)
  bounds_look n st (c ∷ counters) (b ∷ bs) h =
      let q = and_parts (is_counter_right core around c) (list_all (is_counter_right core around) counters) h in
      let two = and_parts (is_bound core around c.from) (is_bound core around c.until) (and_parts _ _ q.0).0 in
      looks_append (list_moments n st c.from b.from ++ list_moments (n + length c.from) st c.until b.until) (bounds_moments (n + (length c.from + length c.until)) st counters bs)
      (looks_append (list_moments n st c.from b.from) (list_moments (n + length c.from) st c.until b.until) (bound_looks n st c.from b.from two.0) (bound_looks (n + length c.from) st c.until b.until two.1))
      (bounds_look (n + (length c.from + length c.until)) st counters bs q.1)
  bounds_look n st [] bs h = tt
  bounds_look n st (c ∷ counters) [] h = tt

  pub spans_look : (n : ℕ) (st : Standing) (spans : List PlainSpan) (taken : List Taken) → list_all (is_span_right core around) spans ≡ true → AreLooks (spans_moments n st spans taken)
  spans_look n st (single ops ∷ spans) (one es ∷ taken) h =
      let q = and_parts (is_bound core around ops) (list_all (is_span_right core around) spans) h in
      looks_append (list_moments n st ops es) (spans_moments (n + length ops) st spans taken) (bound_looks n st ops es q.0) (spans_look (n + length ops) st spans taken q.1)
  spans_look n st (range a b ∷ spans) (both es fs ∷ taken) h =
      let q = and_parts (is_bound core around a && is_bound core around b) (list_all (is_span_right core around) spans) h in
      let two = and_parts (is_bound core around a) (is_bound core around b) q.0 in
      looks_append (list_moments n st a es ++ list_moments (n + length a) st b fs) (spans_moments (n + (length a + length b)) st spans taken)
      (looks_append (list_moments n st a es) (list_moments (n + length a) st b fs) (bound_looks n st a es two.0) (bound_looks (n + length a) st b fs two.1))
      (spans_look (n + (length a + length b)) st spans taken q.1)
  spans_look n st [] taken h = tt
  spans_look n st (single ops ∷ spans) [] h = tt
  spans_look n st (single ops ∷ spans) (both es fs ∷ taken) h = tt
  spans_look n st (range a b ∷ spans) [] h = tt
  spans_look n st (range a b ∷ spans) (one es ∷ taken) h = tt
