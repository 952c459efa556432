-- Lists of numbers: what holds of each, what is counted in them, and where the numbers of a block's registers begin.
use Rattle.std.proofs.Common.{◌≡◌, ℕ, zero, suc, ◌+◌, ◌<◌, ◌≤◌, ◌==◌, Bool, true, List, [], ◌∷◌, ◌++◌, map, length, refl, sym, ◌∙◌, ap, subst, arith, true≢false, eqb-true, if◌then◌else◌}
use Rattle.std.specs.List.{list_all}
use Rattle.std.specs.Prelude.{filter, slice_index_or}
use Rattle.std.proofs.lemmas.Bool.{eq-eqb}
use Rattle.sp_tree.specs.PlainStatement.{PlainStmts, stmt, no_stmt, more_stmt}
use Rattle.sp_tree.specs.Tallies.{is_among}
use Rattle.sp_core.specs.Declarations as core_tree
use Rattle.sp_core.specs.PlainCore.{PlainMem, no_mem, PlainNode}
use Rattle.sp_stream.specs.Proper.{is_mem_right, are_mems_right}
use Rattle.sp_stream.proofs.Ways.{or_elim, or_first, or_second, and_elim, both_true}
use Rattle.sp_sugar.specs.Numbers.{numbers_from}
use Rattle.sp_sugar.specs.Registers.{beside, inside, at_end, owned_registers}
use Rattle.sp_sugar.specs.Uses.{Ending}
use Rattle.sp_sugar.proofs.NumberLemmas.{either}
use Rattle.sp_sugar.proofs.OwnerCounts.{one_if, count_of}
use Rattle.sp_sugar.proofs.Owners.{self_count, later_count}
use Rattle.sp_proper.proofs.Forests.{Each}

pub each_by : (P : ℕ → Type 0) (xs : List ℕ) → ((m : ℕ) → 1 ≤ count_of m xs → P m) → Each P xs
each_by P [] h = tt
each_by P (x ∷ xs) h = (h x (self_count x xs), each_by P xs (λ m c. h m (later_count m x xs c)))

pub each_then : (P Q : ℕ → Type 0) (xs : List ℕ) → ((m : ℕ) → P m → Q m) → Each P xs → Each Q xs
each_then P Q [] f h = tt
each_then P Q (x ∷ xs) f (h, hs) = (f x h, each_then P Q xs f hs)

pub each_both : (P : ℕ → Type 0) (xs ys : List ℕ) → Each P xs → Each P ys → Each P (xs ++ ys)
each_both P [] ys h k = k
each_both P (x ∷ xs) ys (h, hs) k = (h, each_both P xs ys hs k)

pub all_each : (test : ℕ → Bool) (xs : List ℕ) → Each (λ m. test m ≡ true) xs → list_all test xs ≡ true
all_each test [] h = refl
all_each test (x ∷ xs) (h, hs) = both_true (test x) (list_all test xs) h (all_each test xs hs)

pub all_mapped : (test : ℕ → Bool) (f : ℕ → ℕ) (xs : List ℕ) → Each (λ m. test (f m) ≡ true) xs → list_all test (map f xs) ≡ true
all_mapped test f [] h = refl
all_mapped test f (x ∷ xs) (h, hs) = both_true (test (f x)) (list_all test (map f xs)) h (all_mapped test f xs hs)

-- what holds of those of a list that pass a test
all_at : (test : ℕ → Bool) (m : ℕ) (ys : List ℕ) → list_all test ys ≡ true → 1 ≤ count_of m ys → test m ≡ true
all_at test m [] h c = absurd (omega (arith, c))
all_at test m (y ∷ ys) h c =
    and_elim (test y) (list_all test ys) h
    (λ a b. either (y == m)
    (λ e. subst (λ z. test z ≡ true) (eqb-true y m e) a)
    (λ e. let f : one_if (y == m) ≡ 0 = ap one_if e in all_at test m ys b (omega (arith, c, f))))

kept : (is : ℕ → Bool) (m : ℕ) → is m ≡ true → (ys : List ℕ) → 1 ≤ count_of m ys → 1 ≤ count_of m (filter is ys)
kept is m i [] c = c
kept is m i (y ∷ ys) c = either (is y)
    (λ e. let same : count_of m (filter is (y ∷ ys)) ≡ one_if (y == m) + count_of m (filter is ys) = ap (λ b. count_of m (if b then y ∷ filter is ys else filter is ys)) e in
    either (y == m)
    (λ f. let g : one_if (y == m) ≡ 1 = ap one_if f in omega (arith, same, g))
    (λ f. let g : one_if (y == m) ≡ 0 = ap one_if f in let k = kept is m i ys (omega (arith, c, g)) in omega (arith, same, k, g)))
    (λ e. let same : count_of m (filter is (y ∷ ys)) ≡ count_of m (filter is ys) = ap (λ b. count_of m (if b then y ∷ filter is ys else filter is ys)) e in
    either (y == m)
    (λ f. absurd (true≢false (sym i ∙ ap is (sym (eqb-true y m f)) ∙ e)))
    (λ f. let g : one_if (y == m) ≡ 0 = ap one_if f in let k = kept is m i ys (omega (arith, c, g)) in omega (arith, same, k)))

pub each_filtered : (test is : ℕ → Bool) (xs : List ℕ) → list_all test (filter is xs) ≡ true → (m : ℕ) → 1 ≤ count_of m xs → is m ≡ true → test m ≡ true
each_filtered test is xs h m c i = all_at test m (filter is xs) h (kept is m i xs c)

-- where the numbers of a block's registers begin
pub numbers_least : (n k count : ℕ) → k ≤ n → Each (λ r. k ≤ r) (numbers_from n count)
numbers_least n k zero le = tt
numbers_least n k (suc count) le = (le, numbers_least (suc n) k count (omega (arith, le)))

pub registers_least : (n k : ℕ) (body : PlainStmts) (ending : Ending) → k ≤ n → Each (λ r. k ≤ r) (owned_registers n body ending)
registers_least n k no_stmt ending le = numbers_least n k (length (at_end ending)) le
registers_least n k (more_stmt (stmt at kind) rest) ending le =
    each_both (λ r. k ≤ r) (numbers_from n (length (beside kind rest ending))) (owned_registers (n + length (beside kind rest ending) + length (inside kind)) rest ending)
    (numbers_least n k (length (beside kind rest ending)) le) (registers_least (n + length (beside kind rest ending) + length (inside kind)) k rest ending (omega (arith, le)))

-- a rule for each memory
pub mems_right : (owned : List ℕ) (nodes : List PlainNode) (ms : List PlainMem) (first : ℕ) → ((j : ℕ) → j < length ms → is_mem_right owned nodes (first + j) (slice_index_or ms j no_mem).kind ≡ true) → are_mems_right owned nodes first ms ≡ true
mems_right owned nodes [] first h = refl
mems_right owned nodes (x ∷ ms) first h =
    both_true (is_mem_right owned nodes first x.kind) (are_mems_right owned nodes (first + 1) ms)
    (subst (λ k. is_mem_right owned nodes k x.kind ≡ true) {x = first + 0} {y = first} (omega arith) (h 0 (omega arith)))
    (mems_right owned nodes ms (first + 1) (λ j lt. subst (λ k. is_mem_right owned nodes k (slice_index_or ms j no_mem).kind ≡ true) {x = first + suc j} {y = first + 1 + j} (omega arith) (h (suc j) (omega (arith, lt)))))

pub among_of_count : (m : ℕ) (xs : List ℕ) → 1 ≤ count_of m xs → is_among m xs ≡ true
among_of_count m [] c = absurd (omega (arith, c))
among_of_count m (x ∷ xs) c = either (x == m)
    (λ e. or_first (x == m) (is_among m xs) e)
    (λ e. let f : one_if (x == m) ≡ 0 = ap one_if e in or_second (x == m) (is_among m xs) (among_of_count m xs (omega (arith, c, f))))

pub count_of_among : (m : ℕ) (xs : List ℕ) → is_among m xs ≡ true → 1 ≤ count_of m xs
count_of_among m [] e = absurd (true≢false (sym e))
count_of_among m (x ∷ xs) e = or_elim (x == m) (is_among m xs) e
    (λ f. let g : one_if (x == m) ≡ 1 = ap one_if f in omega (arith, g))
    (λ f. let g = count_of_among m xs f in omega (arith, g))

pub core_among : (m : ℕ) (xs : List ℕ) → 1 ≤ count_of m xs → core_tree.is_among m xs ≡ true
core_among m [] c = absurd (omega (arith, c))
core_among m (x ∷ xs) c = either (x == m)
    (λ e. or_first (m == x) (core_tree.is_among m xs) (eq-eqb m x (sym (eqb-true x m e))))
    (λ e. let f : one_if (x == m) ≡ 0 = ap one_if e in or_second (m == x) (core_tree.is_among m xs) (core_among m xs (omega (arith, c, f))))

pub mapped_count : (f : ℕ → ℕ) (m : ℕ) (xs : List ℕ) → 1 ≤ count_of m xs → 1 ≤ count_of (f m) (map f xs)
mapped_count f m [] c = absurd (omega (arith, c))
mapped_count f m (x ∷ xs) c = either (x == m)
    (λ e. let g : one_if (f x == f m) ≡ 1 = ap one_if (eq-eqb (f x) (f m) (ap f (eqb-true x m e))) in omega (arith, g))
    (λ e. let g : one_if (x == m) ≡ 0 = ap one_if e in let k = mapped_count f m xs (omega (arith, c, g)) in omega (arith, k))
