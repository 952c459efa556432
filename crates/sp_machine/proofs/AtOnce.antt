-- An inner body in which nothing takes time touches nothing, so all of its groups may be at once.
use Rattle.std.proofs.Common.{◌≡◌, ℕ, suc, ◌+◌, ◌≤◌, Bool, true, false, ℤ, List, [], ◌∷◌, ◌++◌, arith, refl, sym, subst, ap, ◌∙◌}
use Rattle.std.proofs.lemmas.Bool.{eqb-true, true≢false}
use Rattle.std.specs.Prelude.{flat_map, slice_index, Option, Some, None, if◌then◌else◌}
use Rattle.sp_words.specs.declared.kind.Kind.{Kind}
use Rattle.sp_words.specs.declared.kind.Kind.TheVariants as kinds
use Rattle.sp_core.specs.declared.operation.OpKind.{OpKind}
use Rattle.sp_core.specs.declared.operation.OpKind.TheVariants as kind
use Rattle.sp_core.specs.Declarations.{mem}
use Rattle.sp_core.specs.Events.{Act, Standing, inside_at, in_group_of, Moment, renews, act_of, event_of, entry_moments, renewal_in_body}
use Rattle.sp_core.specs.History.{Entry, left_out, gave, touched}
use Rattle.sp_core.specs.Latency.{read_latency, latency_by, read_of, latency, latency_of_all}
use Rattle.sp_core.specs.PlainCore.{PlainOp, PlainCore}
use Rattle.sp_core.specs.Sequential.{has_reset}
use Rattle.sp_plan.specs.PlainPlan.{PlainNodePlan, inner_plan, PlainPlan}
use Rattle.sp_time.specs.Lists.{Each, Pairs}
use Rattle.sp_machine.specs.InOrder.{is_done, AreInOrder}
use Rattle.sp_machine.specs.Stamps.{Stamped, Copies, stamped, list_stamped}
use Rattle.sp_machine.specs.Timeline.{times_of, latency_of, is_at_once, issued_by, issued, body_events}
use Rattle.sp_machine.specs.Transfers.{Delays}

-- what holds by a body's plan, and of groups at once where nothing takes time, holds as the body is issued
pub by_pace : (core : PlainCore) (ops : List PlainOp) (p : PlainNodePlan) (P : PlainNodePlan → Type 0) → (latency_of p ≡ 0 → latency_of_all core ops ≡ 0 → P (inner_plan (times_of p) 0 0 false)) → P p → P (issued_by core ops p)
by_pace core ops p P f h = go (is_at_once core ops p) refl
  where
    go : (b : Bool) → is_at_once core ops p ≡ b → P (if b then inner_plan (times_of p) 0 0 false else p)
    go true e = let z : latency_of p + latency_of_all core ops ≡ 0 = eqb-true _ _ e in f (omega arith) (omega arith)
    go false e = h

-- there is nothing to do at any of these
abbrev pub AreIdle : PlainCore → List Stamped → Type 0
AreIdle core xs = Each (λ s. is_done core s.moment ≡ false) xs

idle_append : (core : PlainCore) (a b : List Stamped) → AreIdle core a → AreIdle core b → AreIdle core (a ++ b)
idle_append core [] b h k = k
idle_append core (x ∷ a) b h k = (h.0, idle_append core a b h.1 k)

idle_stamped : (core : PlainCore) (copies : Copies) (cycle : ℕ) (ms : List Moment) → Each (λ m. is_done core m ≡ false) ms → AreIdle core (stamped copies cycle ms)
idle_stamped core copies cycle [] h = tt
idle_stamped core copies cycle (m ∷ ms) h = (h.0, idle_stamped core copies cycle ms h.1)

-- in its body a memory without a reset holds what it held
pub renewals_idle : (core : PlainCore) (owned : List ℕ) → Each (λ m. is_done core m ≡ false) (flat_map (renewal_in_body core) owned)
renewals_idle core [] = tt
renewals_idle core (m ∷ owned) = go (has_reset (mem core m).kind (mem core m).start) refl (renewals_idle core owned)
  where
    go : (b : Bool) → has_reset (mem core m).kind (mem core m).start ≡ b → Each (λ x. is_done core x ≡ false) (flat_map (renewal_in_body core) owned)
        → Each (λ x. is_done core x ≡ false) (elim b as (λ _. List Moment) [ true ↦ [] | false ↦ renews m ∷ [] ] ++ flat_map (renewal_in_body core) owned)
    go true q e = e
    go false q e = (q, e)

-- an operation that touches a memory takes a cycle at least
kind_some : (k : Kind) → 1 ≤ read_latency k
kind_some kinds.Sram = omega arith
kind_some kinds.LineBuf = omega arith
kind_some k = omega arith

read_some : (core : PlainCore) (m : Option ℕ) → 1 ≤ read_of core m
read_some core None = omega arith
read_some core (Some m) = kind_some (mem core m).kind

no_act : (kd : OpKind) (read w : ℕ) → 1 ≤ read → latency_by kd read ≡ 0 → act_of kd w ≡ None
no_act kind.Read read w l e = absurd (let z : read ≡ 0 = e in omega arith)
no_act kind.Write read w l e = absurd (omega (arith, e))
no_act kind.Enq read w l e = absurd (omega (arith, e))
no_act kind.Deq read w l e = absurd (omega (arith, e))
no_act kind.Reset read w l e = absurd (omega (arith, e))
no_act kd read w l e = refl

no_event : (n : ℕ) (st : Standing) (m : Option ℕ) (is : List ℕ) (a : Option Act) → a ≡ None → event_of n st m is a ≡ []
no_event n st None is a e = refl
no_event n st (Some m) is a e = ap (event_of n st (Some m) is) e

no_entry : (core : PlainCore) (n : ℕ) (st : Standing) (op : PlainOp) (e : Entry) → latency core op ≡ 0 → entry_moments n st op.kind op.mem e ≡ []
no_entry core n st op left_out l = refl
no_entry core n st op (gave w) l = refl
no_entry core n st op (touched is w) l = no_event n st op.mem is (act_of op.kind w) (no_act op.kind (read_of core op.mem) w (read_some core op.mem) l)

list_idle : (core : PlainCore) (copies : Copies) (f : ℕ → ℕ) (i n : ℕ) (st : Standing) (ops : List PlainOp) (es : List Entry) → latency_of_all core ops ≡ 0 → AreIdle core (list_stamped copies f i n st ops es)
list_idle core copies f i n st (op ∷ ops) (e ∷ es) z =
    idle_append core (stamped copies (f i) (entry_moments n st op.kind op.mem e)) _
    (subst (λ ms. AreIdle core (stamped copies (f i) ms)) (sym (no_entry core n st op e (omega arith))) tt)
    (list_idle core copies f (suc i) (suc n) st ops es (omega arith))
list_idle core copies f i n st [] es z = tt
list_idle core copies f i n st (op ∷ ops) [] z = tt

pub body_idle : (core : PlainCore) (plan : PlainPlan) (delays : Delays) (p : PlainNodePlan) (copies : Copies) (k n g : ℕ) (st : Standing) (owned : List ℕ) (ops : List PlainOp) (values : List (List ℤ)) (groups : List (List Entry))
    → latency_of_all core ops ≡ 0 → AreIdle core (body_events core plan delays p copies k n g st owned ops values groups)
body_idle core plan delays p copies k n g st owned ops (v ∷ values) (es ∷ groups) z =
    idle_append core _ _
    (idle_append core (stamped copies (issued core plan delays p g) (flat_map (renewal_in_body core) owned)) _
    (idle_stamped core copies (issued core plan delays p g) _ (renewals_idle core owned))
    (list_idle core copies (λ i. issued core plan delays p g + slice_index (times_of p) i) 0 n (inside_at st k (in_group_of g 0) v) ops es z))
    (body_idle core plan delays p copies k n (suc g) st owned ops values groups z)
body_idle core plan delays p copies k n g st owned ops [] groups z = tt
body_idle core plan delays p copies k n g st owned ops (v ∷ values) [] z = tt

-- so such moments are in order, whatever their cycles are
pub idle_in_order : (core : PlainCore) (xs : List Stamped) → AreIdle core xs → Pairs (AreInOrder core) xs
idle_in_order core [] h = tt
idle_in_order core (x ∷ xs) h = (first xs, idle_in_order core xs h.1)
  where
    first : (ys : List Stamped) → Each (AreInOrder core x) ys
    first [] = tt
    first (y ∷ ys) = (record { for_change = λ c s. absurd (true≢false (sym c.first ∙ h.0)); for_look = λ c s. absurd (true≢false (sym c.first ∙ h.0)) }, first ys)
