-- What a walk over a part asks, by what one over the whole does; and what it gives where it ends well.
use Rattle.std.proofs.Common.{◌≡◌, ℕ, zero, suc, ◌+◌, ◌<◌, ◌≤◌, ◌==◌, ◌||◌, Bool, true, false, List, [], ◌∷◌, length, slice_index_or, Result, Ok, Err, OnOk, refl, sym, ap, subst, arith}
use Rattle.std.proofs.lemmas.Bool.{eq-eqb}
use Rattle.sp_core.specs.Declarations.{is_among}
use Rattle.sp_core.specs.Invariant.{owned_in}
use Rattle.sp_core.specs.Numbering.{node_count}
use Rattle.sp_core.specs.PlainCore.{PlainOp, PlainNode, fsm, branch}
use Rattle.sp_tree_copies.proofs.Nodes.{among_left, among_right}

pub on_ok : {T E A B : Type 0} (r : Result T E) → (A → B) → OnOk r A → OnOk r B
on_ok (Ok v) f h = f h
on_ok (Err e) f h = h

abbrev Can : PlainNode → (n b p k : ℕ) → Type 0
Can node n b p k = ((m : ℕ) → is_among m (owned_in node) ≡ true → m < n) × (k + node_count node ≤ b) × (k + node_count node ≤ p)

pub machine_can : (node : PlainNode) (start : List PlainOp) (state : ℕ) (test : List PlainOp) (body own : PlainNode) (after : List PlainOp) (n b p k : ℕ) → node ≡ fsm start state test body after → own ≡ body → ((m : ℕ) → is_among m (owned_in node) ≡ true → m < n) → k + node_count node ≤ b → k + node_count node ≤ p → Can own n b p (k + 1)
machine_can node start state test body own after n b p k is own_is mine small few =
    subst (λ v. Can v n b p (k + 1)) (sym own_is) (
      λ m h. subst (λ v. is_among m (owned_in v) ≡ true → m < n) is (mine m) (among_right m (state ∷ []) (owned_in body) h),
      (let s = subst (λ v. k + node_count v ≤ b) is small in omega (arith, s)),
      (let s = subst (λ v. k + node_count v ≤ p) is few in omega (arith, s)),
    )

pub first_can : (node : PlainNode) (test : List PlainOp) (first second own : PlainNode) (n b p k : ℕ) → node ≡ branch test first second → own ≡ first → ((m : ℕ) → is_among m (owned_in node) ≡ true → m < n) → k + node_count node ≤ b → k + node_count node ≤ p → Can own n b p (k + 1)
first_can node test first second own n b p k is own_is mine small few =
    subst (λ v. Can v n b p (k + 1)) (sym own_is) (
      λ m h. subst (λ v. is_among m (owned_in v) ≡ true → m < n) is (mine m) (among_left m (owned_in first) (owned_in second) h),
      (let s = subst (λ v. k + node_count v ≤ b) is small in omega (arith, s)),
      (let s = subst (λ v. k + node_count v ≤ p) is few in omega (arith, s)),
    )

pub second_can : (node : PlainNode) (test : List PlainOp) (first second own : PlainNode) (n b p k count : ℕ) → node ≡ branch test first second → own ≡ second → count ≡ node_count first → ((m : ℕ) → is_among m (owned_in node) ≡ true → m < n) → k + node_count node ≤ b → k + node_count node ≤ p
    → Can own n b p (k + 1 + count)
second_can node test first second own n b p k count is own_is count_is mine small few =
    subst (λ v. Can v n b p (k + 1 + count)) (sym own_is) (
      λ m h. subst (λ v. is_among m (owned_in v) ≡ true → m < n) is (mine m) (among_right m (owned_in first) (owned_in second) h),
      (let s = subst (λ v. k + node_count v ≤ b) is small in omega (arith, s, count_is)),
      (let s = subst (λ v. k + node_count v ≤ p) is few in omega (arith, s, count_is)),
    )

pub at_among : (xs : List ℕ) (k d : ℕ) → k < length xs → is_among (slice_index_or xs k d) xs ≡ true
at_among [] k d lt = absurd (omega (arith, lt))
at_among (x ∷ xs) zero d lt = ap (λ b. b || is_among x xs) (eq-eqb x x refl)
at_among (x ∷ xs) (suc k) d lt = by (slice_index_or xs k d == x) (at_among xs k d (omega (arith, lt)))
  where
    by : (b : Bool) → is_among (slice_index_or xs k d) xs ≡ true → (b || is_among (slice_index_or xs k d) xs) ≡ true
    by true h = refl
    by false h = h
