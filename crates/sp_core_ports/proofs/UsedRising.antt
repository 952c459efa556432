-- Moments whose cycles rise, but for those without a port: of a list one operation after another, and of transfers.
use Rattle.std.proofs.Common.{◌≡◌, ℕ, suc, ◌+◌, ◌<◌, ◌≤◌, ◌⊎◌, inl, inr, List, [], ◌∷◌, ◌++◌, take, Option, Some, None, arith, refl, sym, ap, subst, ◌∙◌}
use Rattle.std.proofs.lemmas.Bool.{false≢true}
use Rattle.std.specs.Prelude.{is_some}
use Rattle.sp_core.specs.declared.operation.OpKind.{OpKind}
use Rattle.sp_core.specs.declared.operation.OpKind.TheVariants as kind
use Rattle.sp_core.specs.Declarations.{mem}
use Rattle.sp_core.specs.Events.{Act, Standing, act_of, event_of, entry_moments}
use Rattle.sp_core.specs.Forms.{PlainForms}
use Rattle.sp_core.specs.History.{Entry, left_out, gave, touched}
use Rattle.sp_core.specs.Latency.{read_latency, latency_by, read_of, latency, latency_of_all}
use Rattle.sp_core.specs.PlainCore.{PlainOp, PlainCore}
use Rattle.sp_plan.specs.PlainPlan.{PlainPlan}
use Rattle.sp_time.specs.Lists.{Each, Pairs}
use Rattle.sp_words.specs.declared.kind.Kind.{Kind}
use Rattle.sp_words.specs.declared.kind.Kind.TheVariants as kinds
use Rattle.sp_machine.specs.Stamps.{Stamped, Copies, stamped, list_stamped, in_a_row, list_run, kept_run}
use Rattle.sp_machine.specs.Transfers.{Delays}
use Rattle.sp_core_ports.specs.UsedLaws.{ListsUseNoPortTwice}
use Rattle.sp_core_ports.specs.UsedPorts.{UseNoPortTwice}
use Rattle.sp_core_ports.proofs.UsedAtPort.{IsFree, free_second, in_turn, free_after}

module _ (core : PlainCore) (plan : PlainPlan) where
  -- each that has a port is no earlier than a cycle, and later than those before it
  abbrev pub Rises : (cycle : ℕ) → List Stamped → Type 0
  Rises b [] = Unit {0}
  Rises b (x ∷ xs) = (IsFree core plan x × Rises b xs) ⊎ ((b ≤ x.cycle) × Rises (suc x.cycle) xs)

  pub rises_from : (a b : ℕ) → a ≤ b → (xs : List Stamped) → Rises b xs → Rises a xs
  rises_from a b l [] h = tt
  rises_from a b l (x ∷ xs) (inl h) = inl (h.0, rises_from a b l xs h.1)
  rises_from a b l (x ∷ xs) (inr h) = inr ((let c : b ≤ x.cycle = h.0 in omega arith), h.1)

  rises_after : (forms : PlainForms) (s : Stamped) (b : ℕ) (xs : List Stamped) → s.cycle < b → Rises b xs → Each (UseNoPortTwice core plan forms s) xs
  rises_after forms s b [] l h = tt
  rises_after forms s b (x ∷ xs) l (inl h) = (free_second core plan forms s x h.0, rises_after forms s b xs l h.1)
  rises_after forms s b (x ∷ xs) l (inr h) = (in_turn core plan forms s x (let c : b ≤ x.cycle = h.0 in omega arith), rises_after forms s (suc x.cycle) xs (let c : b ≤ x.cycle = h.0 in omega arith) h.1)

  pub rising_pairs : (forms : PlainForms) (b : ℕ) (xs : List Stamped) → Rises b xs → Pairs (UseNoPortTwice core plan forms) xs
  rising_pairs forms b [] h = tt
  rising_pairs forms b (x ∷ xs) (inl h) = (free_after core plan forms x xs h.0, rising_pairs forms b xs h.1)
  rising_pairs forms b (x ∷ xs) (inr h) = (rises_after forms x (suc x.cycle) xs (omega arith) h.1, rising_pairs forms (suc x.cycle) xs h.1)

  pub free_then : (b : ℕ) (xs ys : List Stamped) → Each (IsFree core plan) xs → Rises b ys → Rises b (xs ++ ys)
  free_then b [] ys f h = h
  free_then b (x ∷ xs) ys f h = inl (f.0, free_then b xs ys f.1 h)

  then_free : (b : ℕ) (xs ys : List Stamped) → Rises b xs → Each (IsFree core plan) ys → Rises b (xs ++ ys)
  then_free b [] [] h f = tt
  then_free b [] (y ∷ ys) h f = inl (f.0, then_free b [] ys tt f.1)
  then_free b (x ∷ xs) ys (inl h) f = inl (h.0, then_free b xs ys h.1 f)
  then_free b (x ∷ xs) ys (inr h) f = inr (h.0, then_free (suc x.cycle) xs ys h.1 f)

  -- an access takes a cycle at least
  read_takes : (k : Kind) → 1 ≤ read_latency k
  read_takes kinds.Sram = omega arith
  read_takes kinds.LineBuf = omega arith
  read_takes k = omega arith

  access_takes : (kd : OpKind) (w read : ℕ) (a : Act) → 1 ≤ read → act_of kd w ≡ Some a → 1 ≤ latency_by kd read
  access_takes kind.Read w read a l e = l
  access_takes kind.Write w read a l e = omega arith
  access_takes kind.Enq w read a l e = omega arith
  access_takes kind.Deq w read a l e = omega arith
  access_takes kind.Reset w read a l e = omega arith
  access_takes kd w read a l e = absurd (false≢true (ap is_some e))

  -- operations one after another
  abbrev IsRest : (all : List PlainOp) → (i : ℕ) → List PlainOp → Type 0
  IsRest all i ops = (j : ℕ) → in_a_row core all (i + j) ≡ in_a_row core all i + latency_of_all core (take j ops)

  row_step : (all : List PlainOp) (i : ℕ) (op : PlainOp) (ops : List PlainOp) → IsRest all i (op ∷ ops) → in_a_row core all (suc i) ≡ in_a_row core all i + latency core op
  row_step all i op ops h = ap (in_a_row core all) (let q : suc i ≡ i + 1 = omega arith in q) ∙ h 1 ∙ omega arith

  row_next : (all : List PlainOp) (i : ℕ) (op : PlainOp) (ops : List PlainOp) → IsRest all i (op ∷ ops) → IsRest all (suc i) ops
  row_next all i op ops h j =
      ap (in_a_row core all) (let q : suc i + j ≡ i + suc j = omega arith in q) ∙ h (suc j) ∙ (let s : in_a_row core all (suc i) ≡ in_a_row core all i + latency core op = row_step all i op ops h in omega arith)

  entry_rises : (copies : Copies) (cycle n : ℕ) (st : Standing) (op : PlainOp) (e : Entry) (rest : List Stamped) → Rises (cycle + latency core op) rest → Rises cycle (stamped copies cycle (entry_moments n st op.kind op.mem e) ++ rest)
  entry_rises copies cycle n st op left_out rest h = rises_from cycle (cycle + latency core op) (omega arith) rest h
  entry_rises copies cycle n st op (gave w) rest h = rises_from cycle (cycle + latency core op) (omega arith) rest h
  entry_rises copies cycle n st op (touched is w) rest h = go op.mem refl (act_of op.kind w) refl
    where
      takes_some : (m : ℕ) → op.mem ≡ Some m → 1 ≤ read_of core op.mem
      takes_some m e = subst (λ z. 1 ≤ read_of core z) (sym e) (read_takes (mem core m).kind)

      go : (m : Option ℕ) → op.mem ≡ m → (act : Option Act) → act_of op.kind w ≡ act → Rises cycle (stamped copies cycle (event_of n st m is act) ++ rest)
      go None em act ea = rises_from cycle (cycle + latency core op) (omega arith) rest h
      go (Some m) em None ea = rises_from cycle (cycle + latency core op) (omega arith) rest h
      go (Some m) em (Some a) ea =
          let l : 1 ≤ latency core op = access_takes op.kind w (read_of core op.mem) a (takes_some m em) ea in
          inr (omega arith, rises_from (suc cycle) (cycle + latency core op) (omega arith) rest h)

  list_rises : (copies : Copies) (all : List PlainOp) (i n : ℕ) (st : Standing) (ops : List PlainOp) (es : List Entry) → IsRest all i ops → Rises (in_a_row core all i) (list_stamped copies (in_a_row core all) i n st ops es)
  list_rises copies all i n st [] es h = tt
  list_rises copies all i n st (op ∷ ops) [] h = tt
  list_rises copies all i n st (op ∷ ops) (e ∷ es) h =
      let step : in_a_row core all (suc i) ≡ in_a_row core all i + latency core op = row_step all i op ops h in
      entry_rises copies (in_a_row core all i) n st op e (list_stamped copies (in_a_row core all) (suc i) (suc n) st ops es)
      (rises_from (in_a_row core all i + latency core op) (in_a_row core all (suc i)) (omega arith) _ (list_rises copies all (suc i) (suc n) st ops es (row_next all i op ops h)))

  whole_row : (ops : List PlainOp) → IsRest ops 0 ops
  whole_row ops j = ap (in_a_row core ops) (let q : 0 + j ≡ j = omega arith in q) ∙ omega arith

  pub row_rises : (copies : Copies) (n : ℕ) (st : Standing) (ops : List PlainOp) (es : List Entry) → Rises 1 (list_run core copies n st ops es).events
  row_rises copies n st ops es = rises_from 1 (in_a_row core ops 0) (omega arith) (list_run core copies n st ops es).events (list_rises copies ops 0 n st ops es (whole_row ops))

  pub kept_rises : (copies : Copies) (n : ℕ) (st : Standing) (ops : List PlainOp) (es : List Entry) (state word : ℕ) → Rises 1 (kept_run core copies n st ops es state word).events
  kept_rises copies n st ops es state word = then_free 1 (list_run core copies n st ops es).events _ (row_rises copies n st ops es) (refl, tt)

pub lists_use_none : (core : PlainCore) (plan : PlainPlan) (delays : Delays) → ListsUseNoPortTwice core plan delays
lists_use_none core plan delays forms copies n st ops es state word = (
  rising_pairs core plan forms 1 (list_run core copies n st ops es).events (row_rises core plan copies n st ops es),
  rising_pairs core plan forms 1 (kept_run core copies n st ops es state word).events (kept_rises core plan copies n st ops es state word),
)
