-- A walk over lists one after the other.
use Rattle.std.proofs.Common.{◌≡◌, ℕ, ◌+◌, ◌≤◌, ◌^◌, Bool, List, [], ◌∷◌, ◌++◌, true, map, length, slice_index_or, Result, Ok, Err, OnOk, Option, append_assoc, refl, sym, ◌∙◌, ap, subst, arith}
use Rattle.std.proofs.Math.Nat.{add_assoc}
use Rattle.std.proofs.lemmas.List.{append-nil, length-append}
use Rattle.std.specs.List.{AllZip}
use Rattle.sp_core.specs.declared.node.CoreCounter.{CoreCounter}
use Rattle.sp_core.specs.declared.node.CoreSpan.{CoreSpan}
use Rattle.sp_core.specs.declared.node.Stage.{Stage}
use Rattle.sp_core.specs.Numbering.{counters_size, spans_size}
use Rattle.sp_core.specs.Plain.{plain_ops, plain_counter, plain_span, plain_stage_list}
use Rattle.sp_core.specs.PlainCore.{PlainOp, PlainCounter, PlainSpan, single, range}
use Rattle.sp_op_nets.specs.declared.acted.ActedList.{ActedList}
use Rattle.sp_access_nets.specs.declared.access.AccessNets.{AccessNets}
use Rattle.sp_access_nets.specs.Accesses.{copy_in, AreHandedOn, AreNetsHandedOn}
use Rattle.sp_tree_handed.specs.Lists.{NumberedOps, standing, bounds_in, spans_in, lists_in_stages}
use Rattle.sp_tree_accesses.specs.declared.walk.Walk.{Walk}
use Rattle.sp_tree_accesses.specs.Accesses.{AreAllAccesses, no_list, one_list}
use Rattle.sp_tree_accesses.specs.Walks.{IsNumbered, AddsLists}

all_append : (copies : List (Option ℕ)) (xs ys : List NumberedOps) (us vs : List ActedList) (as' bs : List AccessNets) → AreAllAccesses (copy_in copies) xs us as' → AreAllAccesses (copy_in copies) ys vs bs → AreAllAccesses (copy_in copies) (xs ++ ys) (us ++ vs) (as' ++ bs)
all_append copies _ ys _ vs _ bs no_list more = more
all_append copies _ ys _ vs _ bs (one_list {list} {lists} {a} {acted} {added} {accesses} handed nets rest) more =
    subst (AreAllAccesses (copy_in copies) (list ∷ lists ++ ys) (a ∷ acted ++ vs)) (sym (append_assoc added accesses bs)) (one_list handed nets (all_append copies lists ys acted vs accesses bs rest more))

-- what stands for two parts is cut between them
record Cut {A B : Type 0} (R : A → B → Type 0) (xs ys : List A) (us : List B) : Type 0 where
  front : List B
  back : List B
  are : us ≡ front ++ back
  first : AllZip R xs front
  second : AllZip R ys back

zip_cut : {A B : Type 0} (R : A → B → Type 0) (xs ys : List A) (us : List B) → AllZip R (xs ++ ys) us → Cut R xs ys us
zip_cut R [] ys us h = record { front = []; back = us; are = refl; first = tt; second = h }
zip_cut R (x ∷ xs) ys [] h = absurd h
zip_cut R (x ∷ xs) ys (u ∷ us) h =
    let c = zip_cut R xs ys us h.1 in
    record { front = u ∷ c.front; back = c.back; are = ap (λ l. u ∷ l) c.are; first = (h.0, c.first); second = c.second }

at_length : {A : Type 0} (xs : List A) (x : A) (ys : List A) (d : A) → slice_index_or (xs ++ x ∷ ys) (length xs) d ≡ x
at_length [] x ys d = refl
at_length (z ∷ xs) x ys d = at_length xs x ys d

module _ (copies : List (Option ℕ)) (acted : List ActedList) where
  pub adds_none : (a : Walk) → AddsLists [] copies acted a a
  adds_none a passed [] rest e at z = record { added = []; behind = sym (append-nil a.accesses.items); on = omega arith; are = no_list }
  adds_none a passed (x ∷ now) rest e at z = absurd z

  pub adds_join : (xs ys : List NumberedOps) (a b c : Walk) → AddsLists xs copies acted a b → AddsLists ys copies acted b c → AddsLists (xs ++ ys) copies acted a c
  adds_join xs ys a b c f g passed now rest e at z =
      let cut = zip_cut IsNumbered xs ys now z in
      let one_is = e ∙ ap (λ l. passed ++ l) (ap (λ l. l ++ rest) cut.are ∙ append_assoc cut.front cut.back rest) in
      let one = f passed cut.front (cut.back ++ rest) one_is at cut.first in
      let long = length-append passed cut.front in
      let other = g (passed ++ cut.front) cut.back rest (one_is ∙ sym (append_assoc passed cut.front (cut.back ++ rest))) (let on = one.on in omega (arith, on, at, long)) cut.second in
      let all = ap length cut.are ∙ length-append cut.front cut.back in
      record {
        added = one.added ++ other.added;
        behind = other.behind ∙ (ap (λ l. l ++ other.added) one.behind ∙ append_assoc a.accesses.items one.added other.added);
        on = (let on = one.on in let then = other.on in omega (arith, on, then, all));
        are = subst (λ l. AreAllAccesses (copy_in copies) (xs ++ ys) l (one.added ++ other.added)) (sym cut.are) (all_append copies xs ys cut.front cut.back one.added other.added one.are other.are);
      }

  -- one list, where what is handed on for it stands next
  pub adds_one : (list : NumberedOps) (a : ActedList) (added : List AccessNets) (before after : Walk) → a ≡ slice_index_or acted before.at a → after.accesses.items ≡ before.accesses.items ++ added → after.at ≡ before.at + 1
      → AreHandedOn (copy_in copies) a.number list.ops a.ops.items a.nets.items added → AreNetsHandedOn list.ops a.ops.items a.nets.items added → AddsLists (list ∷ []) copies acted before after
  adds_one list a added before after is behind on handed nets passed [] rest e at z = absurd z
  adds_one list a added before after is behind on handed nets passed (x ∷ y ∷ now) rest e at z = absurd z.1
  adds_one list a added before after is behind on handed nets passed (x ∷ []) rest e at z =
      let same : a ≡ x = is ∙ (ap (λ l. slice_index_or l before.at a) e ∙ (ap (λ k. slice_index_or (passed ++ x ∷ rest) k a) at ∙ at_length passed x rest a)) in
      record {
        added = added ++ [];
        behind = behind ∙ ap (λ l. before.accesses.items ++ l) (sym (append-nil added));
        on = on;
        are = subst (λ y. AreAllAccesses (copy_in copies) (list ∷ []) (y ∷ []) (added ++ [])) same
            (one_list (subst (λ k. AreHandedOn (copy_in copies) k list.ops a.ops.items a.nets.items added) (ap (λ (y : ActedList). y.number) same ∙ z.0.first) handed) nets no_list);
      }

  -- nothing is asked where none is handed on, or its numbers are no numbers of 32 bits
  pub adds_past : (list : NumberedOps) (before after : Walk) → length acted ≤ before.at → AddsLists (list ∷ []) copies acted before after
  adds_past list before after le passed [] rest e at z = absurd z
  adds_past list before after le passed (x ∷ now) rest e at z = (let l = ap length e ∙ length-append passed (x ∷ now ++ rest) in absurd (omega (arith, l, le, at)))

  pub adds_large : (list : NumberedOps) (a : ActedList) (before after : Walk) → a ≡ slice_index_or acted before.at a → 2 ^ 32 ≤ a.number + length list.ops → AddsLists (list ∷ []) copies acted before after
  adds_large list a before after is le passed [] rest e at z = absurd z
  adds_large list a before after is le passed (x ∷ now) rest e at z =
      let same : a ≡ x = is ∙ (ap (λ l. slice_index_or l before.at a) e ∙ (ap (λ k. slice_index_or (passed ++ x ∷ (now ++ rest)) k a) at ∙ at_length passed x (now ++ rest) a)) in
      (let num = ap (λ (y : ActedList). y.number) same ∙ z.0.first in let small = z.0.small in absurd (omega (arith, num, small, le)))

bounds_append : (xs ys : List PlainCounter) (n : ℕ) → bounds_in (xs ++ ys) n ≡ bounds_in xs n ++ bounds_in ys (n + counters_size xs)
bounds_append [] ys n = ap (bounds_in ys) (zero_more n)
  where
    zero_more : (n : ℕ) → n ≡ n + 0
    zero_more n = omega arith
bounds_append (c ∷ xs) ys n = ap (λ l. standing n c.from ∷ standing (n + length c.from) c.until ∷ l) (bounds_append xs ys (n + (length c.from + length c.until)) ∙ ap (λ k. bounds_in xs (n + (length c.from + length c.until)) ++ bounds_in ys k) (add_assoc n (length c.from + length c.until) (counters_size xs)))

spans_append : (xs ys : List PlainSpan) (n : ℕ) → spans_in (xs ++ ys) n ≡ spans_in xs n ++ spans_in ys (n + spans_size xs)
spans_append [] ys n = ap (spans_in ys) (zero_more n)
  where
    zero_more : (n : ℕ) → n ≡ n + 0
    zero_more n = omega arith
spans_append (single ops ∷ xs) ys n = ap (λ l. standing n ops ∷ l) (spans_append xs ys (n + length ops) ∙ ap (λ k. spans_in xs (n + length ops) ++ spans_in ys k) (add_assoc n (length ops) (spans_size xs)))
spans_append (range a b ∷ xs) ys n =
    ap (λ l. standing n a ∷ standing (n + length a) b ∷ l) (spans_append xs ys (n + (length a + length b)) ∙ ap (λ k. spans_in xs (n + (length a + length b)) ++ spans_in ys k) (add_assoc n (length a + length b) (spans_size xs)))

abbrev pub lists_of : List Stage → (n : ℕ) → List NumberedOps
lists_of stages n = lists_in_stages (plain_stage_list stages) n

map_append : {A B : Type 0} (f : A → B) (xs ys : List A) → map f (xs ++ ys) ≡ map f xs ++ map f ys
map_append f [] ys = refl
map_append f (x ∷ xs) ys = ap (λ l. f x ∷ l) (map_append f xs ys)

pub on_ok : {T E P Q : Type 0} (r : Result T E) → (P → Q) → OnOk r P → OnOk r Q
on_ok (Ok v) f p = f p
on_ok (Err e) f p = p

module _ (copies : List (Option ℕ)) (acted : List ActedList) where
  -- what is said of a list that is added, wherever it stands
  abbrev pub AddsOps : List PlainOp → (before after : Walk) → Type 0
  AddsOps ops before after = (n : ℕ) (at_once : Bool) → AddsLists (record { number = n; ops = ops; at_once = at_once } ∷ []) copies acted before after

  abbrev pub AddsAt : (lists : ℕ → List NumberedOps) → (before after : Walk) → Type 0
  AddsAt lists before after = (n : ℕ) → AddsLists (lists n) copies acted before after

  pub counter_step : (xs ys : List CoreCounter) (x : CoreCounter) (a b m c : Walk) (from until : List PlainOp) → ys ≡ xs ++ x ∷ [] → from ≡ plain_ops x.from.items → until ≡ plain_ops x.until.items → AddsAt (bounds_in (map plain_counter xs)) a b
      → AddsOps from b m → AddsOps until m c → AddsAt (bounds_in (map plain_counter ys)) a c
  counter_step xs ys x a b m c from until e f g inv first second n =
      subst (λ l. AddsLists l copies acted a c) (sym (ap (λ l. bounds_in (map plain_counter l) n) e ∙ (ap (λ l. bounds_in l n) (map_append plain_counter xs (x ∷ [])) ∙ bounds_append (map plain_counter xs) (plain_counter x ∷ []) n)))
      (adds_join copies acted (bounds_in (map plain_counter xs) n) (bounds_in (plain_counter x ∷ []) (n + counters_size (map plain_counter xs))) a b c (inv n)
      (adds_join copies acted (standing (n + counters_size (map plain_counter xs)) (plain_ops x.from.items) ∷ []) (standing (n + counters_size (map plain_counter xs) + length (plain_ops x.from.items)) (plain_ops x.until.items) ∷ []) b m c
      (subst (λ ops. AddsLists (standing (n + counters_size (map plain_counter xs)) ops ∷ []) copies acted b m) f (first (n + counters_size (map plain_counter xs)) true))
      (subst (λ ops. AddsLists (standing (n + counters_size (map plain_counter xs) + length (plain_ops x.from.items)) ops ∷ []) copies acted m c) g (second (n + counters_size (map plain_counter xs) + length (plain_ops x.from.items)) true))))

  pub span_step : (xs ys : List CoreSpan) (x : CoreSpan) (a b c : Walk) → ys ≡ xs ++ x ∷ [] → AddsAt (spans_in (map plain_span xs)) a b → AddsAt (spans_in (plain_span x ∷ [])) b c → AddsAt (spans_in (map plain_span ys)) a c
  span_step xs ys x a b c e inv more n =
      subst (λ l. AddsLists l copies acted a c) (sym (ap (λ l. spans_in (map plain_span l) n) e ∙ (ap (λ l. spans_in l n) (map_append plain_span xs (x ∷ [])) ∙ spans_append (map plain_span xs) (plain_span x ∷ []) n)))
      (adds_join copies acted (spans_in (map plain_span xs) n) (spans_in (plain_span x ∷ []) (n + spans_size (map plain_span xs))) a b c (inv n) (more (n + spans_size (map plain_span xs))))

  -- one list and another one
  pub two_ops : (ops more : List PlainOp) (a b c : Walk) → AddsOps ops a b → AddsOps more b c → AddsAt (spans_in (range ops more ∷ [])) a c
  two_ops ops more a b c f g n = adds_join copies acted (standing n ops ∷ []) (standing (n + length ops) more ∷ []) a b c (f n true) (g (n + length ops) true)
