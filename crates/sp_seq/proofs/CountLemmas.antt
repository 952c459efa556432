-- How the words of counters are found and named, and how words are combined.
use Rattle.std.proofs.Common.{◌≡◌, ℕ, zero, suc, ◌+◌, ◌-◌, ◌*◌, ◌/◌, ◌^◌, ◌<◌, ◌≤◌, Bool, true, ⊎_elim, List, [], ◌∷◌, map, length, get_or, set, take, drop, refl, sym, ◌∙◌, ap, ap₂, subst, arith, All, pos, ◌-ℤ◌, ◌≤ℤ◌, Contains, div-mul-le_self, mul-le-mul_left}
use Rattle.std.specs.Prelude.{ℤ, negsuc, Result, Ok, Err}
use Rattle.std.specs.Result.{IsErrAnd, OnOk}
use Rattle.std.proofs.lemmas.Bool.{cases_lt, cases_eq}
use Rattle.std.proofs.lemmas.Int.{ints}
use Rattle.std.proofs.lemmas.List.{length-set, get_or-set_same, get_or-set_other}
use Rattle.sp_words.specs.declared.types.Ty.{Ty}
use Rattle.sp_words.specs.Types.{int_type}
use Rattle.sp_words.specs.Words.{IsWord}
use Rattle.sp_tree.specs.declared.statement.Comb.{Comb}
use Rattle.sp_tree.specs.declared.statement.Counter.{Counter}
use Rattle.sp_tree.specs.Accesses.{read_cell, write_cell}
use Rattle.sp_tree.specs.Elements.{index_value, natural, length_between, counter_words}
use Rattle.sp_tree.specs.Expressions.{mem, word}
use Rattle.sp_tree.specs.Operators.{combined}
use Rattle.sp_tree.specs.PlainExpression.{PlainExpr}
use Rattle.sp_tree.specs.PlainProgram.{PlainMem, PlainProgram}
use Rattle.sp_tree.specs.PlainStatement.{PlainCounter}
use Rattle.sp_tree.specs.PlainTree.{plain_counter}
use Rattle.sp_tree.specs.Sequential.{counter_range, count_now, assign}
use Rattle.sp_tree.specs.Step.{Went, went, ◌>>=◌, pure, change, turn, in_order}
use Rattle.sp_tree.specs.Store.{Store, set_counter, name_value}
use Rattle.sp_tree.specs.Structure.{counter_numbers}
use Rattle.sp_tree.specs.Typing.{Scope, BoundsTyped, with_counter, with_val}
use Rattle.sp_seq.specs.declared.digit.Digit.{Digit}
use Rattle.sp_seq.specs.declared.state.State.{State}
use Rattle.sp_seq.specs.declared.state.Stop.{Stop}
use Rattle.sp_seq.specs.Looping.{values, current, word_at, words_shown, one_combined, word_combined, word_named, IsStart, IsDigit}
use Rattle.sp_seq.specs.Running.{Stands}
use Rattle.sp_seq.specs.Slices.{RanSome}
use Rattle.sp_seq.specs.States.{store_of, halted, no_memory, Ran, Sees, Keeps, IsStorage}
use Rattle.sp_tree.specs.Streams.{room}
use Rattle.sp_seq.proofs.LoopLemmas.{left_of}
use Rattle.sp_seq.proofs.PlaceLemmas.{index_small, index_negative}
use Rattle.sp_seq.proofs.RunningLemmas.{first_or_rest, contained_first}
use Rattle.sp_seq.proofs.ScopeLemmas.{contained_later, sees_within, within_val}
use Rattle.sp_seq.proofs.SeesLemmas.{sees_later}
use Rattle.sp_seq.proofs.SliceLemmas.{tail, tail-cons}
use Rattle.sp_seq.proofs.StepLemmas.{bind_went, bind_halted}

-- how long ranges between words of `Int` are
abbrev InRange : ℤ → Type 0
InRange z = (negsuc 2147483647 ≤ℤ z) × (z ≤ℤ pos 2147483647)

index_range : (w : ℕ) → w < 2 ^ 32 → InRange (index_value w)
index_range w l = ⊎_elim
    (λ s. subst InRange (sym (index_small w s)) (omega (arith, ints), omega (arith, ints)))
    (λ s. subst InRange (sym (index_negative w s l)) (omega (arith, ints), omega (arith, ints)))
    (cases_lt w (2 ^ 31))

natural_below : (z : ℤ) → z ≤ℤ pos 4294967295 → natural z < 2 ^ 32
natural_below (pos n) h = omega (arith, ints)
natural_below (negsuc n) h = omega arith

pub length_small : (a b : ℕ) → IsWord int_type a → IsWord int_type b → length_between (index_value a) (index_value b) < 2 ^ 32
length_small a b l m =
    let x = index_range a l in
    let y = index_range b m in
    natural_below (index_value b -ℤ index_value a) (omega (arith, ints))

last_of : (c by len : ℕ) → 1 ≤ by → len < 2 ^ 32 → c * by ≤ len + (by - 1) → (c - 1) * by < 2 ^ 32
last_of zero by len s l h = omega arith
last_of (suc k) by len s l h =
    let e : suc k - 1 ≡ k = omega arith in
    let f : k * by < 2 ^ 32 = omega arith in
    subst (λ n. n * by < 2 ^ 32) (sym e) f

pub start_of : (from by len n : ℕ) → from < 2 ^ 32 → 1 ≤ by → len < 2 ^ 32 → n ≡ (len + (by - 1)) / by → IsStart (record { from = from; by = by; count = n; at = 0 })
start_of from by len n w s l e =
    let whole : (len + (by - 1)) / by * by ≤ len + (by - 1) = div-mul-le_self (len + (by - 1)) by in
    let all : n * by ≤ len + (by - 1) = subst (λ k. k * by ≤ len + (by - 1)) (sym e) whole in
    let last = last_of n by len s l all in
    let few : (n - 1) * 1 ≤ (n - 1) * by = mul-le-mul_left (n - 1) s in
    record { is_word = w; few = omega arith; last = last; first = refl }

-- what came back at a stop
pub ran_stop_words : (w : Went (List ℕ)) (r : Result Digit Stop) (t : State) (stop : Stop) → IsErrAnd r (λ y. y ≡ stop) → w ≡ halted stop → Ran w (words_shown r) t
ran_stop_words w (Ok d) t stop h e = absurd h
ran_stop_words w (Err y) t stop h e = e ∙ ap halted (sym h)

module _ (mems : List PlainMem) (c : PlainCounter) (left : ℕ) (s : Store) where
  pub range_unbegun : (stop : Stop) → word mems c.from left s ≡ halted stop → counter_range mems c left s ≡ halted stop
  range_unbegun stop e = bind_halted (word mems c.from) _ left s stop e

  module _ (a l : ℕ) (t : Store) (e : word mems c.from left s ≡ went a l t) where
    pub range_unended : (stop : Stop) → word mems c.until l t ≡ halted stop → counter_range mems c left s ≡ halted stop
    range_unended stop f = bind_went (word mems c.from) _ left s a l t e ∙ bind_halted (word mems c.until) _ l t stop f

    pub range_found : (b n : ℕ) (u : Store) → word mems c.until l t ≡ went b n u → counter_range mems c left s ≡ went (counter_words a b c.step) n u
    unfolding pure
    range_found b n u f = bind_went (word mems c.from) _ left s a l t e ∙ bind_went (word mems c.until) _ l t b n u f

-- each counter has its bounds
pub bounds_typed : (p : PlainProgram) (scope : Scope) (counters : List Counter) → BoundsTyped p scope (map plain_counter counters) → (k : ℕ) (x : Counter) → k < length counters → x ≡ get_or counters k x → BoundsTyped p scope (plain_counter x ∷ [])
bounds_typed p scope [] h k x l e = absurd (omega arith)
bounds_typed p scope (y ∷ ys) h zero x l e = subst (λ (z : Counter). BoundsTyped p scope (plain_counter z ∷ [])) (sym e) (h.0, h.1, h.2, h.3, tt)
bounds_typed p scope (y ∷ ys) h (suc k) x l e = bounds_typed p scope ys h.4 k x (omega arith) e

-- so far: the first counters are evaluated
pub record RangesGo (mems : List PlainMem) (start : State) (counters : List Counter) (now : State) (found : List Digit) (k : ℕ) : Type 0 where
  pub so_far : in_order (counter_range mems) (map plain_counter counters) start.left (store_of start) ≡ left_of (counter_range mems) (map values (take k found)) (drop k (map plain_counter counters)) now.left (store_of now)
  pub keeps : Keeps start now
  pub starts : All IsStart (take k found)

-- a counter stands for a word
pub sees_counted : {mems : List PlainMem} {roomy : List ℕ} {scope : Scope} {s t : State} (c w : ℕ) → Sees mems roomy scope s → c < length s.counts.items → IsWord int_type w
    → t.counts.items ≡ set s.counts.items c w → t.values.items ≡ s.values.items → t.memories.items ≡ s.memories.items → Sees mems roomy (with_counter scope c) t
sees_counted {mems = mems} {roomy = roomy} {scope = scope} {s = s} {t = t} c w h l is e v m = record {
  declared = h.declared;
  sizes = h.sizes;
  memories = ap length m ∙ h.memories;
  stored = λ k b. subst (λ ms. IsStorage (mem mems k) (room mems roomy k) (mem mems k).kind (get_or ms k no_memory).storage) (sym m) (h.stored k b);
  live = λ k b. let x = h.live k b in (x.0, ap (λ ms. (get_or ms k no_memory).live) m ∙ x.1);
  values = λ k ty b. subst (λ ws. (k < length ws) × IsWord ty (get_or ws k 0)) (sym v) (h.values k ty b);
  counters = λ k b. subst (Good k) (sym e) (⊎_elim (λ q. subst (λ j. Good j (set s.counts.items c w)) q here) (λ r. other k (h.counters k r)) (first_or_rest c k scope.counters b));
}
  where
    Good : ℕ → List ℕ → Type 0
    Good k ws = (k < length ws) × IsWord int_type (get_or ws k 0)

    here : Good c (set s.counts.items c w)
    here = (omega (arith, length-set s.counts.items c w), subst (IsWord int_type) (sym (get_or-set_same s.counts.items c w 0 l)) is)

    other : (k : ℕ) → Good k s.counts.items → Good k (set s.counts.items c w)
    other k x = ⊎_elim
        (λ q. subst (λ j. Good j (set s.counts.items c w)) (sym q) here)
        (λ d. (omega (arith, length-set s.counts.items c w, x.0), subst (IsWord int_type) (sym (get_or-set_other s.counts.items c k w 0 d)) x.1))
        (cases_eq k c)

pub stands_counted : {mems : List PlainMem} {roomy : List ℕ} {scope : Scope} {s t : State} (c w : ℕ) → Sees mems roomy scope s → c < length s.counts.items → IsWord int_type w
    → t.counts.items ≡ set s.counts.items c w → t.values.items ≡ s.values.items → t.memories.items ≡ s.memories.items → t.left ≡ s.left → Stands mems roomy (with_counter scope c) s t
stands_counted {s = s} c w h l is e v m left = record { sees = sees_counted c w h l is e v m; values = ap length v; counts = ap length e ∙ length-set s.counts.items c w; left = omega arith }

-- a list by its first element
pub split_first : {A : Type 0} (xs : List A) (x : A) → 1 ≤ length xs → x ≡ get_or xs 0 x → xs ≡ x ∷ tail xs
split_first [] x l e = absurd (omega arith)
split_first (y ∷ ys) x l e = ap (λ z. z ∷ ys) (sym e) ∙ ap (λ zs. x ∷ zs) (sym (tail-cons y ys))

pub count_first : (counters : List Counter) (digits : List Digit) (c : Counter) (d : Digit) → counters ≡ c ∷ tail counters → digits ≡ d ∷ tail digits → (w left : ℕ) (s t : State) → w ≡ word_at d d.at → set_counter (store_of s) c.id w ≡ store_of t
    → count_now (map plain_counter counters) (current digits) left (store_of s) ≡ count_now (map plain_counter (tail counters)) (current (tail digits)) left (store_of t)
unfolding ◌>>=◌ change
count_first counters digits c d e f w left s t g h =
    ap₂ (λ (cs : List Counter) ds. count_now (map plain_counter cs) (current ds) left (store_of s)) e f
    ∙ ap (λ v. count_now (map plain_counter (tail counters)) (current (tail digits)) left (set_counter (store_of s) c.id v)) (sym g)
    ∙ ap (count_now (map plain_counter (tail counters)) (current (tail digits)) left) h

pub count_none : (counters : List Counter) (digits : List Digit) (left : ℕ) (s : Store) → length counters ≡ 0 → count_now (map plain_counter counters) (current digits) left s ≡ went tt left s
unfolding pure
count_none [] digits left s e = refl
count_none (c ∷ cs) digits left s e = absurd (omega arith)

-- combinations
module _ (mems : List PlainMem) (comb : Comb) (acc : ℕ) (left : ℕ) (s : Store) (place at w : ℕ) (combines : Bool) (is : combines ≡ true) where
  pub assign_halted : (stop : Stop) → read_cell acc at place left s ≡ halted stop → assign mems comb acc at combines w place left s ≡ halted stop
  assign_halted stop e = ap (λ b. assign mems comb acc at b w place left s) is ∙ bind_halted (read_cell acc at place) _ left s stop e

  pub assign_went : (before l : ℕ) (t : Store) (n : ℕ) (u : Store) → read_cell acc at place left s ≡ went before l t → write_cell acc at (combined comb (mem mems acc).ty before w) l t ≡ went tt n u → assign mems comb acc at combines w place left s ≡ went tt n u
  assign_went before l t n u e f = ap (λ b. assign mems comb acc at b w place left s) is ∙ bind_went (read_cell acc at place) _ left s before l t e ∙ f

module _ (mems : List PlainMem) (comb : Comb) (acc place left : ℕ) (s : Store) (combines : Bool) where
  pub word_combined_halted : (e : PlainExpr) (stop : Stop) → word mems e left s ≡ halted stop → word_combined mems comb acc place e combines left s ≡ halted stop
  word_combined_halted e stop f = bind_halted (word mems e) _ left s stop f

  pub word_combined_is : (e : PlainExpr) (w l : ℕ) (t : Store) → word mems e left s ≡ went w l t → word_combined mems comb acc place e combines left s ≡ assign mems comb acc 0 combines w place l t
  word_combined_is e w l t f = bind_went (word mems e) _ left s w l t f

  module _ (part at : ℕ) where
    pub one_combined_halted : (stop : Stop) → read_cell part at place left s ≡ halted stop → one_combined mems comb acc part combines place at left s ≡ halted stop
    one_combined_halted stop e = bind_halted (read_cell part at place) _ left s stop e

    pub one_combined_spent : (w l : ℕ) (t : Store) (stop : Stop) → read_cell part at place left s ≡ went w l t → turn l t ≡ halted stop → one_combined mems comb acc part combines place at left s ≡ halted stop
    one_combined_spent w l t stop e f = bind_went (read_cell part at place) _ left s w l t e ∙ bind_halted turn _ l t stop f

    pub one_combined_is : (w l : ℕ) (t : Store) (n : ℕ) (u : Store) → read_cell part at place left s ≡ went w l t → turn l t ≡ went tt n u → one_combined mems comb acc part combines place at left s ≡ assign mems comb acc at combines w place n u
    one_combined_is w l t n u e f = bind_went (read_cell part at place) _ left s w l t e ∙ bind_went turn _ l t tt n u f

pub word_named_is : (mems : List PlainMem) (value named : ℕ) (e : PlainExpr) (left : ℕ) (s t : Store) → name_value s value named ≡ t → word_named mems value named e left s ≡ word mems e left t
unfolding ◌>>=◌ change
word_named_is mems value named e left s t h = ap (word mems e left) h

pub split_get : {A : Type 0} (xs : List A) (x : A) → 1 ≤ length xs → xs ≡ get_or xs 0 x ∷ tail xs
split_get [] x l = absurd (omega arith)
split_get (y ∷ ys) x l = ap (λ zs. y ∷ zs) (sym (tail-cons y ys))

pub length-tail : {A : Type 0} (xs : List A) → length (tail xs) ≡ length xs - 1
length-tail [] = omega arith
length-tail (x ∷ xs) = ap length (tail-cons x xs) ∙ omega arith

pub inside_tail : (counters : List Counter) (x : Counter) (n : ℕ) → counters ≡ x ∷ tail counters → ((c : ℕ) → Contains (counter_numbers (map plain_counter counters)) c → c < n) → (c : ℕ) → Contains (counter_numbers (map plain_counter (tail counters))) c → c < n
inside_tail counters x n e f c h = f c (subst (λ (cs : List Counter). Contains (counter_numbers (map plain_counter cs)) c) (sym e) (contained_later x.id c (counter_numbers (map plain_counter (tail counters))) h))

pub inside_first : (counters : List Counter) (x : Counter) (n : ℕ) → counters ≡ x ∷ tail counters → ((c : ℕ) → Contains (counter_numbers (map plain_counter counters)) c → c < n) → x.id < n
inside_first counters x n e f = f x.id (subst (λ (cs : List Counter). Contains (counter_numbers (map plain_counter cs)) x.id) (sym e) (contained_first x.id (counter_numbers (map plain_counter (tail counters)))))

pub digits_tail : (ds : List Digit) (d : Digit) → ds ≡ d ∷ tail ds → All IsDigit ds → All IsDigit (tail ds)
digits_tail ds d e h k x l =
    let all : All IsDigit (d ∷ tail ds) = subst (All IsDigit) e h in
    all (suc k) x (omega arith)

pub digits_first : (ds : List Digit) (d : Digit) → ds ≡ d ∷ tail ds → All IsDigit ds → IsDigit d
digits_first ds d e h =
    let all : All IsDigit (d ∷ tail ds) = subst (All IsDigit) e h in
    all 0 d (omega arith)

pub stands_under : {mems : List PlainMem} {roomy : List ℕ} {scope : Scope} (s u t : State) (v : ℕ) (ty : Ty) (w : ℕ) → Sees mems roomy (with_val scope v ty) u → u.values.items ≡ set s.values.items v w → u.counts.items ≡ s.counts.items → u.left ≡ s.left
    → (r : Result ℕ Stop) → OnOk r (Keeps u t) → OnOk r (Stands mems roomy scope s t)
stands_under s u t v ty w h e c l (Err stop) k = k
stands_under {scope = scope} s u t v ty w h e c l (Ok x) k = record { sees = sees_within (within_val scope v ty) (sees_later h k); values = ap length (k.values ∙ e) ∙ length-set s.values.items v w; counts = ap length (k.counts ∙ c); left = omega (arith, k.left) }

pub ran_some_stop : {A : Type 0} (w : Went A) (r : Result (Unit {0}) Stop) (t : State) (stop : Stop) → IsErrAnd r (λ y. y ≡ stop) → w ≡ halted stop → RanSome w r t
ran_some_stop w (Ok u) t stop h e = absurd h
ran_some_stop w (Err y) t stop h e = e ∙ ap halted (sym h)
