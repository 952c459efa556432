-- Runs of stages, and tests of each of them, place by place.
use Rattle.std.proofs.Common.{◌≡◌, ℕ, zero, suc, ◌+◌, ◌^◌, ◌<◌, ◌≤◌, ◌==◌, ◌&&◌, not, Bool, true, false, cond, List, [], ◌∷◌, length, drop, filter, get_or, slice_index_or, refl, ap, sym, ◌∙◌, add-one, ⊎_elim, arith}
use Rattle.std.specs.List.{list_all}
use Rattle.std.proofs.lemmas.Bool.{cases_lt}
use Rattle.std.proofs.lemmas.List.Folds.{list_all-append}
use Rattle.sp_core.specs.Elements.{numbers_below}
use Rattle.sp_core.specs.Numbering.{number_count, number_count_in}
use Rattle.sp_core.specs.PlainCore.{PlainNode, PlainStages, no_stage, more_stage}
use Rattle.sp_core.specs.declared.node.Stage.{Stage}
use Rattle.sp_core.specs.Plain.{plain_node, plain_stage_list}
use Rattle.sp_plan.specs.Slots.{StageRun, no_run, runs_of, run_at, is_in_lane_0, lane_size}

-- how many stages a lane has doesn't depend on the numbers of operations
pub lane_like : (n m : ℕ) (stages : PlainStages) → lane_size (runs_of n stages) ≡ lane_size (runs_of m stages)
lane_like n m no_stage = refl
lane_like n m (more_stage first last comb node rest) =
    let k = lane_like (n + number_count node) (m + number_count node) rest in
    elim (is_in_lane_0 (record { from = n; until = n + number_count node; first = first; last = last }))
    as (λ b. length (cond b (record { from = n; until = n + number_count node; first = first; last = last } ∷ filter is_in_lane_0 (runs_of (n + number_count node) rest)) (filter is_in_lane_0 (runs_of (n + number_count node) rest)))
    ≡ length (cond b (record { from = m; until = m + number_count node; first = first; last = last } ∷ filter is_in_lane_0 (runs_of (m + number_count node) rest)) (filter is_in_lane_0 (runs_of (m + number_count node) rest))))
    [ true ↦ ap suc k | false ↦ k ]

-- each stage is one run
pub run_count : (n : ℕ) (stages : List Stage) → length (runs_of n (plain_stage_list stages)) ≡ length stages
run_count n [] = refl
run_count n (s ∷ stages) = ap suc (run_count (n + number_count (plain_node s.node)) stages)

-- the run at a place, where the list from there on is known
pub at_head : {A : Type 0} (xs : List A) (p : ℕ) (x d : A) (rest : List A) → drop p xs ≡ x ∷ rest → slice_index_or xs p d ≡ x
at_head [] zero x d rest e = absurd (cc)
at_head (y ∷ xs) zero x d rest e = cc
at_head [] (suc p) x d rest e = absurd (cc)
at_head (y ∷ xs) (suc p) x d rest e = at_head xs p x d rest e

at_tail_suc : {A : Type 0} (xs : List A) (p : ℕ) (x : A) (rest : List A) → drop p xs ≡ x ∷ rest → drop (suc p) xs ≡ rest
at_tail_suc [] zero x rest e = absurd (cc)
at_tail_suc (y ∷ xs) zero x rest e = cc
at_tail_suc [] (suc p) x rest e = absurd (cc)
at_tail_suc (y ∷ xs) (suc p) x rest e = at_tail_suc xs p x rest e

at_tail : {A : Type 0} (xs : List A) (p : ℕ) (x : A) (rest : List A) → drop p xs ≡ x ∷ rest → drop (p + 1) xs ≡ rest
at_tail xs p x rest e = ap (λ k. drop k xs) (add-one p) ∙ at_tail_suc xs p x rest e

drop_at : {A : Type 0} (xs : List A) (p : ℕ) (d : A) → p < length xs → drop p xs ≡ get_or xs p d ∷ drop (suc p) xs
drop_at [] p d lt = absurd (omega arith)
drop_at (x ∷ xs) zero d lt = refl
drop_at (x ∷ xs) (suc p) d lt = drop_at xs p d (omega arith)

-- the list from a place on
pub from_here : {A : Type 0} (xs : List A) (p : ℕ) (x d : A) → p < length xs → x ≡ get_or xs p d → drop p xs ≡ x ∷ drop (p + 1) xs
from_here xs p x d lt is = drop_at xs p d lt ∙ ap (λ y. y ∷ drop (suc p) xs) (sym is) ∙ ap (λ k. x ∷ drop k xs) (sym (add-one p))

abbrev run_of : (from : ℕ) → Stage → StageRun
run_of n s = record { from = n; until = n + number_count (plain_node s.node); first = s.first; last = s.last }

-- the stage at a place, where the runs from there on are those of the stages from there on
module _ (number : ℕ) (stages : List Stage) (from p : ℕ) (s d : Stage) (lt : p < length stages) (is : s ≡ get_or stages p d) where
  left : drop p stages ≡ s ∷ drop (p + 1) stages
  left = from_here stages p s d lt is

  module _ (h : runs_of from (plain_stage_list (drop p stages)) ≡ drop p (runs_of number (plain_stage_list stages))) where
    follows : drop p (runs_of number (plain_stage_list stages)) ≡ run_of from s ∷ runs_of (from + number_count (plain_node s.node)) (plain_stage_list (drop (p + 1) stages))
    follows = sym h ∙ ap (λ xs. runs_of from (plain_stage_list xs)) left

    pub run_here : run_at (runs_of number (plain_stage_list stages)) p ≡ run_of from s
    run_here = at_head (runs_of number (plain_stage_list stages)) p (run_of from s) no_run _ follows

    pub runs_next : (until : ℕ) → until ≡ from + number_count (plain_node s.node) → runs_of until (plain_stage_list (drop (p + 1) stages)) ≡ drop (p + 1) (runs_of number (plain_stage_list stages))
    runs_next until e = ap (λ n. runs_of n (plain_stage_list (drop (p + 1) stages))) e ∙ sym (at_tail (runs_of number (plain_stage_list stages)) p (run_of from s) _ follows)

  pub fits : from + number_count_in (plain_stage_list (drop p stages)) ≤ 2 ^ 30 → from + number_count (plain_node s.node) ≤ 2 ^ 30
  fits most = let e = ap (λ xs. number_count_in (plain_stage_list xs)) left in omega arith

  pub fits_next : (until : ℕ) → until ≡ from + number_count (plain_node s.node) → from + number_count_in (plain_stage_list (drop p stages)) ≤ 2 ^ 30 → until + number_count_in (plain_stage_list (drop (p + 1) stages)) ≤ 2 ^ 30
  fits_next until e most = let f = ap (λ xs. number_count_in (plain_stage_list xs)) left in omega arith

-- a test that all before a place pass, and this one
pub all_next : (f : ℕ → Bool) (p : ℕ) → list_all f (numbers_below p) ≡ true → f p ≡ true → list_all f (numbers_below (p + 1)) ≡ true
all_next f p h e = ap (λ k. list_all f (numbers_below k)) (add-one p) ∙ list_all-append f (numbers_below p) (p ∷ []) ∙ ap (λ b. b && (f p && true)) h ∙ ap (λ b. b && true) e

-- one that one of them doesn't
pub all_fails : (f : ℕ → Bool) (n p : ℕ) → p < n → f p ≡ false → list_all f (numbers_below n) ≡ false
all_fails f zero p lt e = absurd (omega arith)
all_fails f (suc n) p lt e =
    list_all-append f (numbers_below n) (n ∷ [])
    ∙ ⊎_elim (λ b. ap (λ x. x && (f n && true)) (all_fails f n p b e))
    (λ b. let is : n ≡ p = omega arith in ap (λ k. list_all f (numbers_below n) && (f k && true)) is ∙ ap (λ x. list_all f (numbers_below n) && (x && true)) e ∙ and_no (list_all f (numbers_below n)))
    (cases_lt p n) where
      and_no : (b : Bool) → (b && false) ≡ false
      and_no true = refl
      and_no false = refl

pub all_done : (f : ℕ → Bool) (n p : ℕ) → n ≡ p → list_all f (numbers_below p) ≡ true → true ≡ list_all f (numbers_below n)
all_done f n p e h = sym h ∙ ap (λ k. list_all f (numbers_below k)) (sym e)

pub drop_past : {A : Type 0} (xs : List A) (i : ℕ) → length xs ≤ i → drop i xs ≡ []
drop_past [] zero le = refl
drop_past [] (suc i) le = refl
drop_past (x ∷ xs) zero le = absurd (omega arith)
drop_past (x ∷ xs) (suc i) le = drop_past xs i (omega arith)

pub all_counted : (stages : List Stage) (i count number : ℕ) → length stages ≤ i → count + lane_size (runs_of 0 (plain_stage_list (drop i stages))) ≡ lane_size (runs_of 0 (plain_stage_list stages)) → count ≡ lane_size (runs_of number (plain_stage_list stages))
all_counted stages i count number le h =
    let none = ap (λ xs. lane_size (runs_of 0 (plain_stage_list xs))) (drop_past stages i le) in
    let same = lane_like 0 number (plain_stage_list stages) in omega arith

-- one stage more
pub lane_next : (first last : ℕ) (comb : Bool) (node : PlainNode) (rest : PlainStages) (b : Bool) → is_in_lane_0 (record { from = 0; until = number_count node; first = first; last = last }) ≡ b
    → lane_size (runs_of 0 (more_stage first last comb node rest)) ≡ cond b 1 0 + lane_size (runs_of 0 rest)
lane_next first last comb node rest b e =
    ap (λ x. length (cond x (record { from = 0; until = 0 + number_count node; first = first; last = last } ∷ filter is_in_lane_0 (runs_of (0 + number_count node) rest)) (filter is_in_lane_0 (runs_of (0 + number_count node) rest)))) e
    ∙ grown b
    ∙ ap (λ k. cond b 1 0 + k) (lane_like (0 + number_count node) 0 rest) where
      grown : (b : Bool) → length (cond b (record { from = 0; until = 0 + number_count node; first = first; last = last } ∷ filter is_in_lane_0 (runs_of (0 + number_count node) rest)) (filter is_in_lane_0 (runs_of (0 + number_count node) rest))) ≡ cond b 1 0 + lane_size (runs_of (0 + number_count node) rest)
      grown true = omega arith
      grown false = omega arith

pub counted : (stages : List Stage) (i count next : ℕ) (s d : Stage) (b : Bool) → i < length stages → s ≡ get_or stages i d → (not (not (s.first == s.last)) && (s.first == 0)) ≡ b → next ≡ count + cond b 1 0
    → count + lane_size (runs_of 0 (plain_stage_list (drop i stages))) ≡ lane_size (runs_of 0 (plain_stage_list stages)) → next + lane_size (runs_of 0 (plain_stage_list (drop (i + 1) stages))) ≡ lane_size (runs_of 0 (plain_stage_list stages))
counted stages i count next s d b lt is e grows h =
    let left = from_here stages i s d lt is in
    let more = ap (λ xs. lane_size (runs_of 0 (plain_stage_list xs))) left ∙ lane_next s.first s.last s.comb (plain_node s.node) (plain_stage_list (drop (i + 1) stages)) b e in
    omega arith
