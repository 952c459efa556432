-- Each memory of the core of a program has one owner.
use Rattle.std.proofs.Common.{append_assoc, ◌≡◌, ℕ, zero, suc, ◌+◌, ◌-◌, ◌<◌, ◌≤◌, Bool, true, false, not, ◌||◌, List, [], ◌∷◌, ◌++◌, refl, sym, ◌∙◌, ap, subst, arith, length-append, ◌==◌, nat_lt, if◌then◌else◌}
use Rattle.std.proofs.lemmas.Bool.{false≢true, true≢false, false_from_ne_true, or_right, ltb-true, ltb-false, eq-eqb, ne_eqb, eqb-true, eqb-false, lt-ltb, not-true, and_from}
use Rattle.std.proofs.lemmas.List.Folds.{list_all-append}
use Rattle.std.proofs.lemmas.List.{get_or-append_right}
use Rattle.std.specs.List.{list_all}
use Rattle.std.specs.Prelude.{length, map, slice_index_or}
use Rattle.sp_words.specs.declared.kind.Kind.{Kind}
use Rattle.sp_words.specs.declared.kind.Kind.TheVariants.{Reg, Sram, Fifo, LineBuf, Dram, ArgIn, ArgOut}
use Rattle.sp_words.specs.declared.kind.Style.TheVariants.{Pipe}
use Rattle.sp_tree.specs.Counts.{is_port}
use Rattle.sp_tree.specs.Elements as tree
use Rattle.sp_tree.specs.Expressions as expressions
use Rattle.sp_tree.specs.Invariant.{IsProgram}
use Rattle.sp_tree.specs.Meaning.{numbers_of, is_dram}
use Rattle.sp_tree.specs.PlainProgram.{PlainMem, PlainProgram, no_mem}
use Rattle.sp_tree.specs.Structure.{mems_declared}
use Rattle.sp_core.specs.Around.{is_port_kind}
use Rattle.sp_core.specs.Declarations.{mem, is_among}
use Rattle.sp_core.specs.Elements.{numbers_below}
use Rattle.sp_core.specs.Invariant.{owned_in, has_owner}
use Rattle.sp_core.specs.NodeRules.{is_owned_once}
use Rattle.sp_core.specs.PlainCore as core
use Rattle.sp_core.specs.PlainCore.{PlainCore}
use Rattle.sp_sugar.specs.Core.{core_of}
use Rattle.sp_sugar.specs.Laws.{HaveOneOwner}
use Rattle.sp_sugar.specs.Numbers.{is_off_dram, mem_number, numbers_from, written_mems}
use Rattle.sp_sugar.specs.Registers.{registers_in}
use Rattle.sp_sugar.specs.Runs.{no_run}
use Rattle.sp_sugar.specs.Stages.{nothing, stages}
use Rattle.sp_sugar.specs.Uses.{no_more}
use Rattle.sp_sugar.specs.Values.{no_sources}
use Rattle.sp_sugar.proofs.NumberLemmas.{either, number_kept, number_skipped, written_kept, written_skipped, written_at, number_below, numbers_apart}
use Rattle.sp_sugar.proofs.OwnerCounts.{one_if, count_of, count_append, body_counts, stages_count}
use Rattle.sp_sugar.proofs.Registered.{are_registers_in}

-- how often a number stands among those from another one on
numbers_before : (k n len : ℕ) → k < n → count_of k (numbers_from n len) ≡ 0
numbers_before k n zero lt = refl
numbers_before k n (suc len) lt = let e : one_if (n == k) ≡ 0 = ap one_if (ne_eqb n k (λ e. absurd (omega (arith, e)))) in omega (arith, e, numbers_before k (suc n) len (omega arith))

numbers_past : (k n len : ℕ) → n + len ≤ k → count_of k (numbers_from n len) ≡ 0
numbers_past k n zero le = refl
numbers_past k n (suc len) le = let e : one_if (n == k) ≡ 0 = ap one_if (ne_eqb n k (λ e. absurd (omega (arith, e)))) in omega (arith, e, numbers_past k (suc n) len (omega arith))

numbers_among : (k n len : ℕ) → n ≤ k → k < n + len → count_of k (numbers_from n len) ≡ 1
numbers_among k n zero le lt = absurd (omega arith)
numbers_among k n (suc len) le lt = either (n == k)
    (λ e. let f : n ≡ k = eqb-true n k e in let g : one_if (n == k) ≡ 1 = ap one_if e in omega (arith, g, numbers_before k (suc n) len (omega (arith, f))))
    (λ e. let g : one_if (n == k) ≡ 0 = ap one_if e in omega (arith, g, numbers_among k (suc n) len (above n k le (eqb-false n k e)) (omega arith)))
  where
    above : (n k : ℕ) → n ≤ k → (n ≡ k → ⊥) → suc n ≤ k
    above n k le ne = omega (arith, ne)

pub below_out : (m n : ℕ) → n ≤ m → count_of m (tree.numbers_below n) ≡ 0
below_out m zero le = refl
below_out m (suc n) le =
    let e : one_if (n == m) ≡ 0 = ap one_if (ne_eqb n m (λ e. absurd (omega (arith, e)))) in
    omega (arith, e, count_append m (tree.numbers_below n) (n ∷ []), below_out m n (omega arith))

below_in : (m n : ℕ) → m < n → count_of m (tree.numbers_below n) ≡ 1
below_in m zero lt = absurd (omega arith)
below_in m (suc n) lt = either (n == m)
    (λ e. let f : n ≡ m = eqb-true n m e in let g : one_if (n == m) ≡ 1 = ap one_if e in omega (arith, g, count_append m (tree.numbers_below n) (n ∷ []), below_out m n (omega (arith, f))))
    (λ e. let g : one_if (n == m) ≡ 0 = ap one_if e in omega (arith, g, count_append m (tree.numbers_below n) (n ∷ []), below_in m n (less n m lt (eqb-false n m e))))
  where
    less : (n m : ℕ) → m < suc n → (n ≡ m → ⊥) → m < n
    less n m lt ne = omega (arith, ne)

-- a port stands once among the ports, and any other memory isn't there
if_other : (b : Bool) (n m : ℕ) → (n ≡ m → ⊥) → count_of m (if b then n ∷ [] else []) ≡ 0
if_other true n m ne = let e : one_if (n == m) ≡ 0 = ap one_if (ne_eqb n m ne) in omega (arith, e)
if_other false n m ne = refl

if_same : (b : Bool) (n m : ℕ) → n ≡ m → count_of m (if b then n ∷ [] else []) ≡ one_if b
if_same true n m same = let e : one_if (n == m) ≡ 1 = ap one_if (eq-eqb n m same) in omega (arith, e)
if_same false n m same = refl

ports_before : (is : Kind → Bool) (mems : List PlainMem) (first m : ℕ) → m < first → count_of m (numbers_of is first mems) ≡ 0
ports_before is [] first m lt = refl
ports_before is (x ∷ mems) first m lt =
    omega (arith, count_append m (if is x.kind then first ∷ [] else []) (numbers_of is (suc first) mems), if_other (is x.kind) first m (λ e. absurd (omega (arith, e))), ports_before is mems (suc first) m (omega arith))

pub port_count : (is : Kind → Bool) (mems : List PlainMem) (first j m : ℕ) → j < length mems → first + j ≡ m → count_of m (numbers_of is first mems) ≡ one_if (is (slice_index_or mems j no_mem).kind)
port_count is [] first j m lt same = absurd (omega arith)
port_count is (x ∷ mems) first zero m lt same =
    omega (arith, count_append m (if is x.kind then first ∷ [] else []) (numbers_of is (suc first) mems), if_same (is x.kind) first m (omega (arith, same)), ports_before is mems (suc first) m (omega (arith, same)))
port_count is (x ∷ mems) first (suc j) m lt same =
    omega (arith, count_append m (if is x.kind then first ∷ [] else []) (numbers_of is (suc first) mems), if_other (is x.kind) first m (λ e. absurd (omega (arith, e, same))), port_count is mems (suc first) j m (omega arith) (omega (arith, same)))

-- each number below is one of a memory that isn't a DRAM
pub numbered_memory : (mems : List PlainMem) (k : ℕ) → k < length (written_mems mems) → (m : ℕ) × (m < length mems) × (is_off_dram (slice_index_or mems m no_mem) ≡ true) × (mem_number mems m ≡ k)
numbered_memory [] k lt = absurd (omega arith)
numbered_memory (x ∷ mems) zero lt = either (is_off_dram x)
    (λ e. (zero, omega arith, e, refl))
    (λ e. let f = numbered_memory mems zero (omega (arith, ap length (written_skipped x mems e))) in (suc f.0, omega (arith, f.1), f.2, number_skipped x mems f.0 e ∙ f.3))
numbered_memory (x ∷ mems) (suc k) lt = either (is_off_dram x)
    (λ e. let f = numbered_memory mems k (omega (arith, ap length (written_kept x mems e))) in (suc f.0, omega (arith, f.1), f.2, number_kept x mems f.0 e ∙ ap suc f.3))
    (λ e. let f = numbered_memory mems (suc k) (omega (arith, ap length (written_skipped x mems e))) in (suc f.0, omega (arith, f.1), f.2, number_skipped x mems f.0 e ∙ f.3))

pub self_count : (x : ℕ) (xs : List ℕ) → 1 ≤ count_of x (x ∷ xs)
self_count x xs = let e : one_if (x == x) ≡ 1 = ap one_if (eq-eqb x x refl) in omega (arith, e)

pub later_count : (k x : ℕ) (xs : List ℕ) → 1 ≤ count_of k xs → 1 ≤ count_of k (x ∷ xs)
later_count k x xs c = omega arith

map_none : (f : ℕ → ℕ) (k : ℕ) (xs : List ℕ) → ((x : ℕ) → 1 ≤ count_of x xs → f x ≡ k → ⊥) → count_of k (map f xs) ≡ 0
map_none f k [] h = refl
map_none f k (x ∷ xs) h =
    let e : one_if (f x == k) ≡ 0 = ap one_if (ne_eqb (f x) k (h x (self_count x xs))) in
    omega (arith, e, map_none f k xs (λ y c. h y (later_count y x xs c)))

map_one : (f : ℕ → ℕ) (k m : ℕ) (xs : List ℕ) → f m ≡ k → ((x : ℕ) → 1 ≤ count_of x xs → f x ≡ k → x ≡ m) → count_of k (map f xs) ≡ count_of m xs
map_one f k m [] same h = refl
map_one f k m (x ∷ xs) same h =
    let rest : count_of k (map f xs) ≡ count_of m xs = map_one f k m xs same (λ y c. h y (later_count y x xs c)) in
    either (x == m)
    (λ e. let d : one_if (x == m) ≡ 1 = ap one_if e in let g : one_if (f x == k) ≡ 1 = ap one_if (eq-eqb (f x) k (ap f (eqb-true x m e) ∙ same)) in omega (arith, d, g, rest))
    (λ e. let d : one_if (x == m) ≡ 0 = ap one_if e in let g : one_if (f x == k) ≡ 0 = ap one_if (ne_eqb (f x) k (λ i. eqb-false x m e (h x (self_count x xs) i))) in omega (arith, d, g, rest))

among_count : (m : ℕ) (xs : List ℕ) → is_among m xs ≡ true → 1 ≤ count_of m xs
among_count m [] e = absurd (false≢true e)
among_count m (x ∷ xs) e = either (m == x)
    (λ f. let g : one_if (x == m) ≡ 1 = ap one_if (eq-eqb x m (sym (eqb-true m x f))) in omega (arith, g))
    (λ f. let g : 1 ≤ count_of m xs = among_count m xs (ap (λ b. b || is_among m xs) (sym f) ∙ e) in omega (arith, g))

count_among : (m : ℕ) (xs : List ℕ) → 1 ≤ count_of m xs → is_among m xs ≡ true
count_among m [] c = absurd (omega arith)
count_among m (x ∷ xs) c = either (x == m)
    (λ f. ap (λ b. b || is_among m xs) (eq-eqb m x (sym (eqb-true x m f))))
    (λ f. let g : one_if (x == m) ≡ 0 = ap one_if f in or_right (m == x) (is_among m xs) (count_among m xs (omega (arith, g))))

owned_once : (c : PlainCore) (earlier xs : List ℕ) → ((k : ℕ) → count_of k (earlier ++ xs) ≤ 1) → ((k : ℕ) → 1 ≤ count_of k xs → (k < length c.mems) × (is_port_kind (mem c k).kind ≡ false)) → is_owned_once c earlier xs ≡ true
owned_once c earlier [] most valid = refl
owned_once c earlier (m ∷ rest) most valid =
    let here = valid m (self_count m rest) in
    and_from _ _ (and_from _ _ (and_from _ _ (lt-ltb m (length c.mems) here.0) (ap not here.1))
    (ap not (false_from_ne_true (is_among m earlier) (λ e. let a : 1 ≤ count_of m earlier = among_count m earlier e in
    let b : 1 ≤ count_of m (m ∷ rest) = self_count m rest in let d : count_of m (earlier ++ m ∷ rest) ≤ 1 = most m in absurd (omega (arith, a, b, d, count_append m earlier (m ∷ rest)))))))
    (owned_once c (earlier ++ m ∷ []) rest (λ k. subst (λ xs. count_of k xs ≤ 1) (sym (append_assoc earlier (m ∷ []) rest)) (most k)) (λ k e. valid k (later_count k m rest e)))

all_below : (f : ℕ → Bool) (n : ℕ) → ((k : ℕ) → k < n → f k ≡ true) → list_all f (numbers_below n) ≡ true
all_below f zero h = refl
all_below f (suc n) h = list_all-append f (numbers_below n) (n ∷ []) ∙ and_from _ _ (all_below f n (λ k lt. h k (omega arith))) (and_from _ _ (h n (omega arith)) refl)

dram_is_port : (k : Kind) → is_port k ≡ false → is_dram k ≡ false
dram_is_port Reg e = refl
dram_is_port Sram e = refl
dram_is_port Fifo e = refl
dram_is_port LineBuf e = refl
dram_is_port Dram e = absurd (true≢false e)
dram_is_port ArgIn e = refl
dram_is_port ArgOut e = refl

port_kind_is_port : (k : Kind) → is_port k ≡ false → is_port_kind k ≡ false
port_kind_is_port Reg e = refl
port_kind_is_port Sram e = refl
port_kind_is_port Fifo e = refl
port_kind_is_port LineBuf e = refl
port_kind_is_port Dram e = refl
port_kind_is_port ArgIn e = absurd (true≢false e)
port_kind_is_port ArgOut e = absurd (true≢false e)

is_port_there : (k : Kind) → is_dram k ≡ false → is_port_kind k ≡ false → is_port k ≡ false
is_port_there Reg d e = refl
is_port_there Sram d e = refl
is_port_there Fifo d e = refl
is_port_there LineBuf d e = refl
is_port_there Dram d e = absurd (true≢false d)
is_port_there ArgIn d e = absurd (true≢false e)
is_port_there ArgOut d e = absurd (true≢false e)

module _ (p : PlainProgram) (h : IsProgram p) where
  abbrev kind_of : ℕ → Kind
  kind_of m = (expressions.mem p.mems m).kind

  -- a memory is declared once in the block, unless it is a port
  declared_once : (m : ℕ) → m < length p.mems → one_if (is_port (kind_of m)) + count_of m (mems_declared p.body) ≡ 1
  declared_once m lt =
      let e : count_of m (numbers_of is_port 0 p.mems ++ mems_declared p.body) ≡ 1 = ap (count_of m) h.mem_numbers ∙ below_in m (length p.mems) lt in
      omega (arith, e, count_append m (numbers_of is_port 0 p.mems) (mems_declared p.body), port_count is_port p.mems 0 m m lt (omega arith))

  pub declared_is : (m : ℕ) → 1 ≤ count_of m (mems_declared p.body) → (m < length p.mems) × (is_port (kind_of m) ≡ false)
  declared_is m c = either (nat_lt m (length p.mems))
      (λ e. let lt : m < length p.mems = ltb-true m (length p.mems) e in
      (lt, false_from_ne_true (is_port (kind_of m)) (λ f. let g : one_if (is_port (kind_of m)) ≡ 1 = ap one_if f in absurd (omega (arith, g, c, declared_once m lt)))))
      (λ e. let le : length p.mems ≤ m = ltb-false m (length p.mems) e in
      let f : count_of m (numbers_of is_port 0 p.mems ++ mems_declared p.body) ≡ 0 = ap (count_of m) h.mem_numbers ∙ below_out m (length p.mems) le in
      absurd (omega (arith, c, f, count_append m (numbers_of is_port 0 p.mems) (mems_declared p.body))))

  pub off_dram : (m : ℕ) → is_port (kind_of m) ≡ false → is_off_dram (expressions.mem p.mems m) ≡ true
  off_dram m e = ap not (dram_is_port (kind_of m) e)

  abbrev declared_number : ℕ → ℕ
  declared_number k = count_of k (map (mem_number p.mems) (mems_declared p.body))

  -- by the number that a memory has in the core
  declared_at : (k m : ℕ) → m < length p.mems → is_off_dram (expressions.mem p.mems m) ≡ true → mem_number p.mems m ≡ k → declared_number k ≡ count_of m (mems_declared p.body)
  declared_at k m lt off e = map_one (mem_number p.mems) k m (mems_declared p.body) e
      (λ x c f. let d = declared_is x c in numbers_apart p.mems x m d.0 lt (off_dram x d.1) off (f ∙ sym e))

  declared_past : (k : ℕ) → length (written_mems p.mems) ≤ k → declared_number k ≡ 0
  declared_past k le = map_none (mem_number p.mems) k (mems_declared p.body)
      (λ x c f. let d = declared_is x c in let b : mem_number p.mems x < length (written_mems p.mems) = number_below p.mems x d.0 (off_dram x d.1) in absurd (omega (arith, b, f)))

  abbrev added : List core.PlainMem
  added = registers_in p.body no_more

  abbrev first : ℕ
  first = length (written_mems p.mems)

  abbrev owned : List ℕ
  owned = owned_in (core_of p).root

  there_are : length (core_of p).mems ≡ first + length added
  unfolding core_of
  there_are = length-append (written_mems p.mems) added

  owned_count : (k : ℕ) → count_of k owned ≡ declared_number k + count_of k (numbers_from first (length added))
  unfolding core_of
  owned_count k = body_counts p.mems (length p.counters) k no_sources first [] Pipe p.body no_more nothing
      (stages p.mems (length p.counters) (no_run no_sources) first p.body no_more nothing) (stages_count p.mems (length p.counters) k (no_run no_sources) first p.body no_more nothing)

  written_there : (k m : ℕ) → m < length p.mems → is_off_dram (expressions.mem p.mems m) ≡ true → mem_number p.mems m ≡ k → (mem (core_of p) k).kind ≡ kind_of m
  unfolding core_of
  written_there k m lt off e = ap (λ (x : core.PlainMem). x.kind) (ap (λ n. slice_index_or (written_mems p.mems ++ added) n core.no_mem) (sym e) ∙ written_at p.mems added m lt off)

  added_there : (k : ℕ) → first ≤ k → (mem (core_of p) k).kind ≡ Reg
  unfolding core_of
  added_there k le = ap (λ (x : core.PlainMem). x.kind) (get_or-append_right (written_mems p.mems) added first k core.no_mem refl le)
      ∙ are_registers_in (λ m. m.kind ≡ Reg) refl refl (λ ty. refl) (λ ty. refl) p.body no_more (k - first)

  -- of a number of a memory of the text, and of one of a register that is added
  most_once : (k : ℕ) → count_of k owned ≤ 1
  most_once k = either (nat_lt k first)
      (λ e. let lt : k < first = ltb-true k first e in let m = numbered_memory p.mems k lt in
      omega (arith, owned_count k, numbers_before k first (length added) lt, declared_at k m.0 m.1 m.2 m.3, declared_once m.0 m.1))
      (λ e. let le : first ≤ k = ltb-false k first e in either (nat_lt k (first + length added))
      (λ f. omega (arith, owned_count k, declared_past k le, numbers_among k first (length added) le (ltb-true k (first + length added) f)))
      (λ f. omega (arith, owned_count k, declared_past k le, numbers_past k first (length added) (ltb-false k (first + length added) f))))

  valid_owned : (k : ℕ) → 1 ≤ count_of k owned → (k < length (core_of p).mems) × (is_port_kind (mem (core_of p) k).kind ≡ false)
  valid_owned k c = either (nat_lt k first)
      (λ e. let lt : k < first = ltb-true k first e in let m = numbered_memory p.mems k lt in
      let d = declared_is m.0 (omega (arith, c, owned_count k, numbers_before k first (length added) lt, declared_at k m.0 m.1 m.2 m.3)) in
      (omega (arith, there_are, lt), ap is_port_kind (written_there k m.0 m.1 m.2 m.3) ∙ port_kind_is_port (kind_of m.0) d.1))
      (λ e. let le : first ≤ k = ltb-false k first e in either (nat_lt k (first + length added))
      (λ f. let lt : k < first + length added = ltb-true k (first + length added) f in (omega (arith, there_are, lt), ap is_port_kind (added_there k le)))
      (λ f. absurd (omega (arith, c, owned_count k, declared_past k le, numbers_past k first (length added) (ltb-false k (first + length added) f)))))

  all_owned : (k : ℕ) → k < length (core_of p).mems → is_port_kind (mem (core_of p) k).kind ≡ false → 1 ≤ count_of k owned
  all_owned k lt e = either (nat_lt k first)
      (λ f. let below : k < first = ltb-true k first f in let m = numbered_memory p.mems k below in
      let g : is_port (kind_of m.0) ≡ false = is_port_there (kind_of m.0) (not-true (is_dram (kind_of m.0)) m.2) (ap is_port_kind (sym (written_there k m.0 m.1 m.2 m.3)) ∙ e) in
      let i : one_if (is_port (kind_of m.0)) ≡ 0 = ap one_if g in
      omega (arith, owned_count k, declared_at k m.0 m.1 m.2 m.3, declared_once m.0 m.1, i))
      (λ f. let le : first ≤ k = ltb-false k first f in omega (arith, owned_count k, numbers_among k first (length added) le (omega (arith, there_are, lt))))

  pub one_owner : HaveOneOwner (core_of p)
  one_owner = (
    owned_once (core_of p) [] owned most_once valid_owned,
    all_below (has_owner (core_of p)) (length (core_of p).mems) (λ k lt. either (is_port_kind (mem (core_of p) k).kind)
        (λ e. ap (λ b. b || is_among k owned) e)
        (λ e. or_right (is_port_kind (mem (core_of p) k).kind) (is_among k owned) (count_among k owned (all_owned k lt e)))),
  )
