-- The next loop, and the next net of a state, of all that are handed on.
use Rattle.std.proofs.Common.{◌≡◌, ℕ, suc, ◌+◌, ◌<◌, List, [], ◌∷◌, ◌++◌, length, slice_index_or, All, append_assoc, refl, sym, ap, subst, ◌∙◌, arith}
use Rattle.std.proofs.lemmas.List.{length-append}
use Rattle.std.specs.List.{AllZip}
use Rattle.sp_netlist.specs.Draft.{Draft}
use Rattle.sp_core.specs.PlainCore.{PlainStages, PlainCore}
use Rattle.sp_plan.specs.PlainPlan.{PlainNodePlan}
use Rattle.sp_mem.specs.Fits.{CopyFits}
use Rattle.sp_copy_nets.specs.Numbers.{StandNumbers}
use Rattle.sp_copy_nets.specs.Table.{own_numbers, slot_numbers}
use Rattle.sp_tree_handed.specs.declared.owners.Keeping.{Keeping}
use Rattle.sp_tree_handed.specs.declared.owners.LoopTurns.{LoopTurns}
use Rattle.sp_tree_handed.specs.declared.owners.Renewal.{Renewal}
use Rattle.sp_tree_handed.specs.Owners.{first_use}
use Rattle.sp_tree_handed.specs.Standing.{AreOwnersStanding}
use Rattle.sp_tree_copies.specs.declared.numbers.LoopCopies.{LoopCopies}
use Rattle.sp_tree_copies.specs.declared.walk.Walk.{Walk}
use Rattle.sp_tree_copies.specs.Naming.{renewed_by}
use Rattle.sp_tree_copies.specs.Walks.{Adds, IsNext, RenewsNext, WalkStands}

pub at_length : {A : Type 0} (xs : List A) (x : A) (ys : List A) (d : A) → slice_index_or (xs ++ x ∷ ys) (length xs) d ≡ x
at_length [] x ys d = refl
at_length (z ∷ xs) x ys d = at_length xs x ys d

-- what stands at a place is the next one
pub is_next : {A : Type 0} (all passed rest : List A) (own x : A) (at : ℕ) → all ≡ passed ++ (own ∷ rest) → at ≡ length passed → x ≡ slice_index_or all at x → x ≡ own
is_next all passed rest own x at all_is at_is x_is =
    x_is ∙ ap (λ l. slice_index_or l at x) all_is ∙ ap (λ k. slice_index_or (passed ++ own ∷ rest) k x) at_is ∙ at_length passed own rest x

pub renews_next : (core : PlainCore) (p : PlainNodePlan) (stages : PlainStages) (owned : List ℕ) (turns : List LoopTurns) (loops : List LoopCopies) (x : LoopTurns) (y : LoopCopies) (a b c : Walk) → x ≡ slice_index_or turns a.loops x → y ≡ slice_index_or loops a.loops y
    → (((m : ℕ) → first_use core p stages m < length x.firsts.items) → length y.numbers.items ≡ length x.firsts.items → Adds [] (renewed_by (first_use core p stages) x.firsts.items (λ z. own_numbers owned (slot_numbers y.coming.items z)) owned) [] 0 0 a b)
    → c.names.items ≡ b.names.items → c.renewed.items ≡ b.renewed.items → c.kept.items ≡ b.kept.items → c.loops ≡ a.loops + 1 → c.states ≡ b.states → RenewsNext core p stages owned turns loops a c
renews_next core p stages owned turns loops x y a b c x_is y_is adds names renewed kept loops_are states passed rest own gone more copies turns_are all_are long at each firsts =
    let one = is_next turns passed rest own x a.loops turns_are at x_is in
    let other = is_next loops gone more copies y a.loops all_are (omega (arith, at, long)) y_is in
    let h = adds (λ m. subst (λ (z : LoopTurns). first_use core p stages m < length z.firsts.items) (sym one) (firsts m))
    (subst (λ (z : LoopTurns). length y.numbers.items ≡ length z.firsts.items) (sym one) (subst (λ (z : LoopCopies). length z.numbers.items ≡ length own.firsts.items) (sym other) each)) in
    let g = subst (λ (z : LoopTurns). Adds [] (renewed_by (first_use core p stages) z.firsts.items (λ z. own_numbers owned (slot_numbers y.coming.items z)) owned) [] 0 0 a b) one h in
    let f = subst (λ (z : LoopCopies). Adds [] (renewed_by (first_use core p stages) own.firsts.items (λ w. own_numbers owned (slot_numbers z.coming.items w)) owned) [] 0 0 a b) other g in
    record {
      names_are = names ∙ f.names_are;
      renewed_are = renewed ∙ f.renewed_are;
      kept_are = kept ∙ f.kept_are;
      loops_are = loops_are;
      states_are = states ∙ f.states_are;
    }

pub loops_apart : (d : Draft) (core : PlainCore) (b c : Walk) → c.names.items ≡ b.names.items → c.renewed.items ≡ b.renewed.items → c.kept.items ≡ b.kept.items → WalkStands d core b → WalkStands d core c
loops_apart d core b c names renewed kept h = record {
  names = subst (StandNumbers d) (sym names) h.names;
  owners = subst (λ rs. AreOwnersStanding d core rs c.kept.items) (sym renewed) (subst (AreOwnersStanding d core b.renewed.items) (sym kept) h.owners);
  renewed = subst (All (λ (r : Renewal). CopyFits d r.copy)) (sym renewed) h.renewed;
  kept = subst (All (λ (k : Keeping). CopyFits d k.copy)) (sym kept) h.kept;
}

-- what stands for all loops stands for the next one
pub record ZipAt {A B : Type 0} (R : A → B → Type 0) (passed : List A) (x : A) (us : List B) : Type 0 where
  pub gone : List B
  pub u : B
  pub more : List B
  pub are : us ≡ gone ++ (u ∷ more)
  pub long : length gone ≡ length passed
  pub holds : R x u

pub zip_at : {A B : Type 0} (R : A → B → Type 0) (passed rest : List A) (x : A) (us : List B) → AllZip R (passed ++ (x ∷ rest)) us → ZipAt R passed x us
zip_at R [] rest x [] h = absurd h
zip_at R [] rest x (u ∷ us) h = record { gone = []; u = u; more = us; are = refl; long = refl; holds = h.0 }
zip_at R (y ∷ passed) rest x [] h = absurd h
zip_at R (y ∷ passed) rest x (u ∷ us) h =
    let z = zip_at R passed rest x us h.1 in
    record { gone = u ∷ z.gone; u = z.u; more = z.more; are = ap (λ l. u ∷ l) z.are; long = ap suc z.long; holds = z.holds }

-- of two parts that are next, the first one is, and the second one behind it
module _ (turns : List LoopTurns) (kept : List Keeping) (one other now : List LoopTurns) (one_kept other_kept now_kept : List Keeping) (a : Walk) (now_is : now ≡ one ++ other) (kept_is : now_kept ≡ one_kept ++ other_kept) (next : IsNext turns kept now now_kept a) where
  pub first_next : IsNext turns kept one one_kept a
  first_next = record {
    passed = next.passed;
    rest = other ++ next.rest;
    passed_kept = next.passed_kept;
    rest_kept = other_kept ++ next.rest_kept;
    turns_are = next.turns_are ∙ ap (λ l. next.passed ++ l) (ap (λ l. l ++ next.rest) now_is ∙ append_assoc one other next.rest);
    kept_are = next.kept_are ∙ ap (λ l. next.passed_kept ++ l) (ap (λ l. l ++ next.rest_kept) kept_is ∙ append_assoc one_kept other_kept next.rest_kept);
    loop = next.loop;
    state = next.state;
  }

  pub second_next : (b : Walk) → b.loops ≡ a.loops + length one → b.states ≡ a.states + length one_kept → IsNext turns kept other other_kept b
  second_next b loops states =
      let l = length-append next.passed one in
      let m = length-append next.passed_kept one_kept in
      let p = next.loop in
      let q = next.state in
      record {
        passed = next.passed ++ one;
        rest = next.rest;
        passed_kept = next.passed_kept ++ one_kept;
        rest_kept = next.rest_kept;
        turns_are = next.turns_are ∙ ap (λ l. next.passed ++ l) (ap (λ l. l ++ next.rest) now_is ∙ append_assoc one other next.rest) ∙ sym (append_assoc next.passed one (other ++ next.rest));
        kept_are = next.kept_are ∙ ap (λ l. next.passed_kept ++ l) (ap (λ l. l ++ next.rest_kept) kept_is ∙ append_assoc one_kept other_kept next.rest_kept) ∙ sym (append_assoc next.passed_kept one_kept (other_kept ++ next.rest_kept));
        loop = omega (arith, loops, l, p);
        state = omega (arith, states, m, q);
      }

-- where the walk names operations alone
pub next_later : (turns : List LoopTurns) (kept : List Keeping) (now : List LoopTurns) (now_kept : List Keeping) (a b : Walk) → IsNext turns kept now now_kept a → b.loops ≡ a.loops → b.states ≡ a.states → IsNext turns kept now now_kept b
next_later turns kept now now_kept a b next loops states = record {
  passed = next.passed;
  rest = next.rest;
  passed_kept = next.passed_kept;
  rest_kept = next.rest_kept;
  turns_are = next.turns_are;
  kept_are = next.kept_are;
  loop = loops ∙ next.loop;
  state = states ∙ next.state;
}
