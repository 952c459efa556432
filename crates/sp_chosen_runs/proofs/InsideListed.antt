-- What a list of operations reads and writes is inside.
use Rattle.std.proofs.Common.{◌≡◌, ℕ, suc, ◌+◌, Bool, true, false, ℤ, pos, negsuc, List, [], ◌∷◌, ◌++◌, map, length, Option, Some, None, append_assoc, refl, sym, ap, ◌∙◌, subst}
use Rattle.std.proofs.lemmas.Bool.{and_parts, and_from, false≢true}
use Rattle.sp_words.specs.declared.types.Ty.{Ty}
use Rattle.sp_core.specs.declared.operation.OpKind.{OpKind}
use Rattle.sp_core.specs.declared.operation.OpKind.TheVariants as kind
use Rattle.sp_core.specs.Accesses.{inside}
use Rattle.sp_core.specs.Declarations.{dims}
use Rattle.sp_core.specs.Elements.{index_value, natural, is_below, are_inside}
use Rattle.sp_core.specs.Events.{Standing, Moment, act_of, event_of, entry_moments, list_moments, bounds_moments, spans_moments}
use Rattle.sp_core.specs.History.{Entry, left_out, gave, touched, word_at, Bounds, Taken, one, both}
use Rattle.sp_core.specs.Operations.{is_masked, done_by, operation, operations_after, operations}
use Rattle.sp_core.specs.PlainCore.{PlainOp, PlainCounter, PlainSpan, single, range, PlainCore}
use Rattle.sp_core.specs.Scope.{Reading, Scope}
use Rattle.sp_core.specs.Sequential.{bounds, taken}
use Rattle.sp_core.specs.Step.{Step, pure}
use Rattle.sp_time.specs.Lists.{Each}
use Rattle.sp_machine.proofs.CountedRuns.{Gives, gives_bind, gives_pure, gives_after}
use Rattle.sp_chosen_runs.specs.InsideLaws.{IsInside}
use Rattle.sp_chosen_runs.proofs.InsideGiven.{gives_test, gives_stop, gives_as, Paired}

inside_numbers : (ds ws : List ℕ) → are_inside ds (map index_value ws) ≡ true → are_inside ds (map pos (map (λ i. natural (index_value i)) ws)) ≡ true
inside_numbers [] [] h = refl
inside_numbers [] (w ∷ ws) h = h
inside_numbers (d ∷ ds) [] h = h
inside_numbers (d ∷ ds) (w ∷ ws) h =
    let a = and_parts (is_below (index_value w) d) (are_inside ds (map index_value ws)) h in
    and_from (is_below (pos (natural (index_value w))) d) (are_inside ds (map pos (map (λ i. natural (index_value i)) ws))) (its_number (index_value w) d a.0) (inside_numbers ds ws a.1)
  where
    its_number : (z : ℤ) (d : ℕ) → is_below z d ≡ true → is_below (pos (natural z)) d ≡ true
    its_number (pos n) d h = h
    its_number (negsuc n) d h = absurd (false≢true h)

module _ (core : PlainCore) where
  abbrev MemInside : OpKind → Option ℕ → (indices : List ℕ) → Type 0
  MemInside kind.Read (Some m) is = are_inside (dims core m) (map pos is) ≡ true
  MemInside kind.Write (Some m) is = are_inside (dims core m) (map pos is) ≡ true
  MemInside _ _ is = Unit {0}

  abbrev KindInside : OpKind → Option ℕ → Entry → Type 0
  KindInside kd m left_out = Unit {0}
  KindInside kd m (gave w) = Unit {0}
  KindInside kd m (touched is w) = MemInside kd m is

  abbrev pub ListInside : List PlainOp → List Entry → Type 0
  ListInside (op ∷ ops) (e ∷ es) = KindInside op.kind op.mem e × ListInside ops es
  ListInside _ _ = Unit {0}

  abbrev pub AllInside : List Moment → Type 0
  AllInside ms = Each (IsInside core) ms

  pub inside_append : (a b : List Moment) → AllInside a → AllInside b → AllInside (a ++ b)
  inside_append [] b h k = k
  inside_append (x ∷ a) b h k = (h.0, inside_append a b h.1 k)

  -- what happens where a list is inside
  act_inside : (kd : OpKind) (w n m : ℕ) (st : Standing) (is : List ℕ) → MemInside kd (Some m) is → AllInside (event_of n st (Some m) is (act_of kd w))
  act_inside kind.Read w n m st is h = ((λ x. h), tt)
  act_inside kind.Write w n m st is h = ((λ x. h), tt)
  act_inside kind.Enq w n m st is h = ((λ x. absurd (false≢true x)), tt)
  act_inside kind.Deq w n m st is h = ((λ x. absurd (false≢true x)), tt)
  act_inside kind.Reset w n m st is h = ((λ x. absurd (false≢true x)), tt)
  act_inside kd w n m st is h = tt

  entry_inside : (n : ℕ) (st : Standing) (kd : OpKind) (m : Option ℕ) (e : Entry) → KindInside kd m e → AllInside (entry_moments n st kd m e)
  entry_inside n st kd m left_out h = tt
  entry_inside n st kd m (gave w) h = tt
  entry_inside n st kd (Some m) (touched is w) h = act_inside kd w n m st is h
  entry_inside n st kd None (touched is w) h = tt

  pub list_inside : (n : ℕ) (st : Standing) (ops : List PlainOp) (es : List Entry) → ListInside ops es → AllInside (list_moments n st ops es)
  list_inside n st [] es h = tt
  list_inside n st (op ∷ ops) [] h = tt
  list_inside n st (op ∷ ops) (e ∷ es) h = inside_append (entry_moments n st op.kind op.mem e) (list_moments (suc n) st ops es) (entry_inside n st op.kind op.mem e h.0) (list_inside (suc n) st ops es h.1)

  -- bounds and spans
  abbrev pub BoundsInside : PlainCounter → Bounds → Type 0
  BoundsInside c b = ListInside c.from b.from × ListInside c.until b.until

  abbrev pub SpanInside : PlainSpan → Taken → Type 0
  SpanInside (single ops) (one es) = ListInside ops es
  SpanInside (range a b) (both es fs) = ListInside a es × ListInside b fs
  SpanInside _ _ = ⊥

  pub bounds_inside : (n : ℕ) (st : Standing) (counters : List PlainCounter) (bs : List Bounds) → Paired BoundsInside counters bs → AllInside (bounds_moments n st counters bs)
  bounds_inside n st [] [] h = tt
  bounds_inside n st [] (b ∷ bs) h = absurd h
  bounds_inside n st (c ∷ counters) [] h = absurd h
  bounds_inside n st (c ∷ counters) (b ∷ bs) h =
      inside_append (list_moments n st c.from b.from ++ list_moments (n + length c.from) st c.until b.until) (bounds_moments (n + (length c.from + length c.until)) st counters bs)
      (inside_append (list_moments n st c.from b.from) (list_moments (n + length c.from) st c.until b.until) (list_inside n st c.from b.from h.0.0) (list_inside (n + length c.from) st c.until b.until h.0.1))
      (bounds_inside (n + (length c.from + length c.until)) st counters bs h.1)

  pub spans_inside : (n : ℕ) (st : Standing) (spans : List PlainSpan) (ts : List Taken) → Paired SpanInside spans ts → AllInside (spans_moments n st spans ts)
  spans_inside n st [] [] h = tt
  spans_inside n st [] (t ∷ ts) h = absurd h
  spans_inside n st (x ∷ spans) [] h = absurd h
  spans_inside n st (single ops ∷ spans) (one es ∷ ts) h = inside_append (list_moments n st ops es) (spans_moments (n + length ops) st spans ts) (list_inside n st ops es h.0) (spans_inside (n + length ops) st spans ts h.1)
  spans_inside n st (single ops ∷ spans) (both es fs ∷ ts) h = absurd h.0
  spans_inside n st (range a b ∷ spans) (one es ∷ ts) h = absurd h.0
  spans_inside n st (range a b ∷ spans) (both es fs ∷ ts) h =
      inside_append (list_moments n st a es ++ list_moments (n + length a) st b fs) (spans_moments (n + (length a + length b)) st spans ts)
      (inside_append (list_moments n st a es) (list_moments (n + length a) st b fs) (list_inside n st a es h.0.0) (list_inside (n + length a) st b fs h.0.1))
      (spans_inside (n + (length a + length b)) st spans ts h.1)

  -- what operations give
  inside_given : (m : ℕ) (ws : List ℕ) → Gives (λ is. are_inside (dims core m) (map pos is) ≡ true) (inside core m ws)
  inside_given m ws = gives_test _ _ _ (λ h. gives_pure _ (map (λ i. natural (index_value i)) ws) (inside_numbers (dims core m) ws h))

  module _ (scope : Scope) where
    done_given : (kd : OpKind) (ty : Ty) (m : Option ℕ) (args : List ℕ) → Gives (KindInside kd m) (done_by core scope kd ty m args)
    done_given kind.Read ty None args = gives_stop _
    done_given kind.Read ty (Some m) args = gives_bind _ _ _ _ (inside_given m args) (λ is h. gives_after _ _ _ (λ w. gives_pure _ (touched is w) h))
    done_given kind.Write ty None args = gives_stop _
    done_given kind.Write ty (Some m) args = gives_bind _ _ _ _ (inside_given m _) (λ is h. gives_after _ _ _ (λ u. gives_pure _ (touched is _) h))
    done_given kd ty m args = λ s t a e. elim a as (λ x. KindInside kd m x) [ left_out ↦ tt | gave w ↦ tt | touched is w ↦ tt ]

    operation_given : (op : PlainOp) (done : List Entry) → Gives (KindInside op.kind op.mem) (operation core scope op done)
    operation_given op done = choose (is_masked op.mask done)
      where
        choose : (b : Bool) → Gives (KindInside op.kind op.mem) (elim b as (λ _. Step Entry) [ true ↦ pure left_out | false ↦ done_by core scope op.kind op.ty op.mem (map (word_at done) op.args) ])
        choose true = gives_pure _ left_out tt
        choose false = done_given op.kind op.ty op.mem (map (word_at done) op.args)

    abbrev GoesOn : (done : List Entry) → List PlainOp → List Entry → Type 0
    GoesOn done ops es = (rest : List Entry) × (es ≡ done ++ rest) × ListInside ops rest

    none_more : (xs : List Entry) → xs ≡ xs ++ []
    none_more [] = refl
    none_more (x ∷ xs) = ap (λ t. x ∷ t) (none_more xs)

    after_given : (ops : List PlainOp) (done : List Entry) → Gives (GoesOn done ops) (operations_after core scope done ops)
    unfolding operations_after
    after_given [] done = gives_pure _ done ([], none_more done, tt)
    after_given (op ∷ ops) done =
        gives_bind _ _ (KindInside op.kind op.mem) _ (operation_given op done)
        (λ e h. gives_as (GoesOn (done ++ e ∷ []) ops) (GoesOn done (op ∷ ops)) _ (λ es g. (e ∷ g.0, g.1 ∙ append_assoc done (e ∷ []) g.0, (h, g.2))) (after_given ops (done ++ e ∷ [])))

    pub list_given : (ops : List PlainOp) → Gives (ListInside ops) (operations core scope ops)
    list_given ops = gives_as (GoesOn [] ops) (ListInside ops) _ (λ es g. subst (ListInside ops) (sym g.1) g.2) (after_given ops [])

    module _ (reading : Reading) (most : ℕ) where
      pub bounds_given : (c : PlainCounter) → Gives (BoundsInside c) (bounds core reading most scope c)
      bounds_given c = gives_bind _ _ _ _ (list_given c.from) (λ a h. gives_bind _ _ _ _ (list_given c.until) (λ b k. gives_pure _ (record { from = a; until = b }) (h, k)))

      pub span_given : (span : PlainSpan) → Gives (SpanInside span) (taken core reading most scope span)
      span_given (single ops) = gives_bind _ _ _ _ (list_given ops) (λ a h. gives_pure _ (one a) h)
      span_given (range x y) = gives_bind _ _ _ _ (list_given x) (λ a h. gives_bind _ _ _ _ (list_given y) (λ b k. gives_pure _ (both a b) (h, k)))
