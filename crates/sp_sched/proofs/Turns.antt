-- Times of operations one after the other.
use Rattle.std.proofs.Common.{◌≡◌, ℕ, ◌+◌, ◌*◌, ◌<◌, ◌≤◌, ◌==◌, ◌&&◌, Bool, true, false, List, [], ◌∷◌, ◌++◌, map, take, length, slice_index_or, refl, ap, sym, ◌∙◌, subst, eq-eqb, length-append, arith}
use Rattle.std.proofs.lemmas.List.{map_more}
use Rattle.std.proofs.lemmas.List.Elements.{All-append, All-cons, All-nil}
use Rattle.std.specs.List.{All}
use Rattle.sp_core.specs.declared.operation.Op.{Op}
use Rattle.sp_core.specs.Latency.{latency, latency_of_all}
use Rattle.sp_core.specs.Plain.{plain_op}
use Rattle.sp_core.specs.PlainCore.{PlainCore, PlainOp}
use Rattle.sp_plan.specs.Bodies.{are_in_turn}

pub record TurnsUpTo (core : PlainCore) (ops : List Op) (n : ℕ) (times : List ℕ) (time : ℕ) : Type 0 where
  pub in_turn : are_in_turn core 0 (map plain_op (take n ops)) times ≡ true
  pub now : time ≡ latency_of_all core (map plain_op (take n ops))
  pub one_each : length times ≡ n
  pub most : time ≤ 4 * n
  pub early : All (λ t. t ≤ 4 * n) times

and_parts : (a b : Bool) → (a && b) ≡ true → (a ≡ true) × (b ≡ true)
and_parts true b h = (refl, h)
and_parts false b h = cc

and_both : (a b : Bool) → a ≡ true → b ≡ true → (a && b) ≡ true
and_both true b e f = f
and_both false b e f = cc

module _ (core : PlainCore) where
  in_turn-push : (t : ℕ) (xs : List PlainOp) (ts : List ℕ) (op : PlainOp) (s : ℕ) → are_in_turn core t xs ts ≡ true → s ≡ t + latency_of_all core xs → are_in_turn core t (xs ++ op ∷ []) (ts ++ s ∷ []) ≡ true
  in_turn-push t [] [] op s h e = and_both (s == t) true (eq-eqb s t (omega arith)) refl
  in_turn-push t [] (y ∷ ts) op s h e = cc
  in_turn-push t (x ∷ xs) [] op s h e = cc
  in_turn-push t (x ∷ xs) (y ∷ ts) op s h e =
      let parts = and_parts (y == t) (are_in_turn core (t + latency core x) xs ts) h in
      and_both (y == t) _ parts.0 (in_turn-push (t + latency core x) xs ts op s parts.1 (omega arith))

  all-push : (xs : List PlainOp) (op : PlainOp) → latency_of_all core (xs ++ op ∷ []) ≡ latency_of_all core xs + latency core op
  all-push [] op = omega arith
  all-push (x ∷ xs) op = let rest = all-push xs op in omega arith

  taken : (ops : List Op) (n : ℕ) (d : Op) → n < length ops → map plain_op (take (n + 1) ops) ≡ map plain_op (take n ops) ++ plain_op (slice_index_or ops n d) ∷ []
  taken ops n d h = map_more plain_op ops n d h

  All-push : (P : ℕ → Type 0) (xs : List ℕ) (x : ℕ) → All P xs → P x → All P (xs ++ x ∷ [])
  All-push P xs x h p = All-append P xs (x ∷ []) h (All-cons P x [] p (All-nil P))

  pub turns-more : (ops : List Op) (n : ℕ) (times next : List ℕ) (time l : ℕ) (d item : Op) → n < length ops → item ≡ slice_index_or ops n d → next ≡ times ++ time ∷ [] → l ≡ latency core (plain_op item) → l ≤ 4 →
      TurnsUpTo core ops n times time → TurnsUpTo core ops (n + 1) next (time + l)
  turns-more ops n times next time l d item h is pushed cycles few t =
      let more = taken ops n d h in
      let cycles_of = ap (λ o. latency core (plain_op o)) is in
      record {
        in_turn = subst (λ (xs : List ℕ). are_in_turn core 0 (map plain_op (take (n + 1) ops)) xs ≡ true) (sym pushed)
            (subst (λ (os : List PlainOp). are_in_turn core 0 os (times ++ time ∷ []) ≡ true) (sym more)
            (in_turn-push 0 (map plain_op (take n ops)) times (plain_op (slice_index_or ops n d)) time t.in_turn (omega (arith, t.now))));
        now = omega (arith, t.now, ap (latency_of_all core) more, all-push (map plain_op (take n ops)) (plain_op (slice_index_or ops n d)), cycles_of);
        one_each = ap length pushed ∙ omega (arith, length-append times (time ∷ []), t.one_each);
        most = omega (arith, t.most);
        early = subst (λ (xs : List ℕ). All (λ x. x ≤ 4 * (n + 1)) xs) (sym pushed) (All-push (λ x. x ≤ 4 * (n + 1)) times time (λ k e lt. let a = t.early k e lt in omega arith) (omega (arith, t.most)));
      }
