-- Reads that stand once give the same word in two runs, and stand for the second one.
use Rattle.std.proofs.Common.{◌≡◌, ℕ, zero, suc, ◌+◌, ◌<◌, Bool, true, false, not, ◌&&◌, List, [], ◌∷◌, ◌++◌, length, refl, sym, ◌∙◌, ap, arith}
use Rattle.std.proofs.lemmas.Bool.{and_parts, true≢false}
use Rattle.std.proofs.lemmas.List.{length-append}
use Rattle.std.specs.Prelude.{slice_index, slice_index_or}
use Rattle.sp_core.specs.History.{Entry, word_at}
use Rattle.sp_core.specs.Operations.{operations_after}
use Rattle.sp_core.specs.PlainCore.{PlainOp, PlainCore}
use Rattle.sp_core.specs.Scope.{Scope}
use Rattle.sp_core.specs.Step.{went}
use Rattle.sp_core.specs.Store.{Store}
use Rattle.sp_lanes.specs.Bodies.{standing}
use Rattle.sp_lanes.specs.Shared.{is_read, does_depend, shared_after}
use Rattle.sp_lane_groups.specs.LiveStores.{AreStanding}
use Rattle.sp_lane_groups.proofs.LiveLane.{split_run, nothing_run}
use Rattle.sp_lane_groups.specs.SharedLaws.{SharedWordsAgree, SharedReadsStand}
use Rattle.sp_lane_groups.proofs.SharedAgree.{agree_at, agree_after, all_flags}

flag_kept : (ds : List Bool) (d : Bool) (k : ℕ) → k < length ds → slice_index_or (ds ++ d ∷ []) k false ≡ slice_index_or ds k false
flag_kept [] d k lt = absurd (omega arith)
flag_kept (c ∷ ds) d zero lt = refl
flag_kept (c ∷ ds) d (suc k) lt = flag_kept ds d k (omega arith)

flag_end : (ds : List Bool) (d : Bool) (k : ℕ) → k ≡ length ds → slice_index_or (ds ++ d ∷ []) k false ≡ d
flag_end [] d k e = ap (λ n. slice_index_or (d ∷ []) n false) e
flag_end (c ∷ ds) d zero e = absurd (omega (arith, e))
flag_end (c ∷ ds) d (suc k) e = flag_end ds d k (omega (arith, e))

is_false : (b : Bool) → not b ≡ true → b ≡ false
is_false true e = absurd (true≢false (sym e))
is_false false e = refl

module _ (counter : ℕ) (own : List ℕ) (body : List PlainOp) where
  flags_kept : (ops : List PlainOp) (ds : List Bool) (k : ℕ) → k < length ds → slice_index_or (all_flags counter own body ds ops) k false ≡ slice_index_or ds k false
  flags_kept [] ds k lt = refl
  flags_kept (op ∷ ops) ds k lt =
      let d = does_depend counter own body ds op in
      flags_kept ops (ds ++ d ∷ []) k (omega (arith, lt, length-append ds (d ∷ []))) ∙ flag_kept ds d k lt

  -- a read that stands once doesn't depend on the lane
  shared_flag : (ops : List PlainOp) (ds : List Bool) (k : ℕ) → slice_index_or (shared_after counter own body ds ops) k false ≡ true → slice_index_or (all_flags counter own body ds ops) (length ds + k) false ≡ false
  shared_flag [] ds k e = absurd (true≢false (sym e))
  shared_flag (op ∷ ops) ds zero e =
      let d = does_depend counter own body ds op in
      flags_kept ops (ds ++ d ∷ []) (length ds + 0) (omega (arith, length-append ds (d ∷ [])))
      ∙ flag_end ds d (length ds + 0) (omega arith) ∙ is_false d (and_parts (is_read op.kind) (not d) e).1
  shared_flag (op ∷ ops) ds (suc k) e =
      let d = does_depend counter own body ds op in
      ap (λ n. slice_index_or (all_flags counter own body (ds ++ d ∷ []) ops) n false) {x = length ds + suc k} {y = length (ds ++ d ∷ []) + k} (omega (arith, length-append ds (d ∷ [])))
      ∙ shared_flag ops (ds ++ d ∷ []) k e

pub words_agree : (core : PlainCore) → SharedWordsAgree core
words_agree core counter own body es fs p twice k e =
    agree_at (all_flags counter own body [] body) es fs k
    (agree_after core counter own body twice.one twice.two twice.counters body [] [] [] twice.first twice.second twice.after twice.ended es fs p (λ m c. c) tt twice.memories twice.ran_first twice.ran_second)
    (ap (λ n. slice_index_or (all_flags counter own body [] body) n false) {x = k} {y = 0 + k} (omega arith) ∙ shared_flag counter own body body [] k e)

-- a run gives an entry for each operation
run_long : (core : PlainCore) (scope : Scope) (ops : List PlainOp) (done : List Entry) (s : Store) (es : List Entry) (after : Store) → operations_after core scope done ops s ≡ went es after → length es ≡ length done + length ops
run_long core scope [] done s es after ran = ap (λ (l : List Entry). length l) (sym (nothing_run core scope done s es after ran).0) ∙ omega arith
run_long core scope (op ∷ ops) done s es after ran =
    let r = split_run core scope op ops done s es after ran in
    omega (arith, run_long core scope ops (done ++ r.0 ∷ []) r.1 es after r.3, length-append done (r.0 ∷ []))

-- what stands, from a place on
module _ (done fs : List Entry) where
  stand_from : (counter : ℕ) (own : List ℕ) (body : List PlainOp) (ops : List PlainOp) (ds : List Bool) (places : List ℕ) (k : ℕ) → length places ≡ length ops
      → ((j : ℕ) → j < length ops → slice_index_or (shared_after counter own body ds ops) j false ≡ true → (slice_index places j < length done) × (word_at done (slice_index places j) ≡ word_at fs (k + j)))
      → AreStanding done fs k ops (standing (shared_after counter own body ds ops) places)
  stand_from counter own body [] ds [] k long h = tt
  stand_from counter own body [] ds (p ∷ places) k long h = absurd (omega (arith, long))
  stand_from counter own body (op ∷ ops) ds [] k long h = absurd (omega (arith, long))
  stand_from counter own body (op ∷ ops) ds (p ∷ places) k long h =
      by (is_read op.kind && not d) refl (λ e. h 0 (omega arith) e)
      (stand_from counter own body ops (ds ++ d ∷ []) places (suc k) (omega (arith, long))
      (λ j lt e. (let r = h (suc j) (omega (arith, lt)) e in (r.0, r.1 ∙ ap (word_at fs) {x = k + suc j} {y = suc k + j} (omega arith)))))
    where
      d : Bool
      d = does_depend counter own body ds op

      rest : List Bool
      rest = shared_after counter own body (ds ++ d ∷ []) ops

      by : (b : Bool) → (is_read op.kind && not d) ≡ b → (b ≡ true → (p < length done) × (word_at done p ≡ word_at fs (k + 0))) → AreStanding done fs (suc k) ops (standing rest places)
          → AreStanding done fs k (op ∷ ops) (standing (b ∷ rest) (p ∷ places))
      by true e f others = (let r = f refl in ((and_parts (is_read op.kind) (not d) e).0, r.0, r.1 ∙ ap (word_at fs) {x = k + 0} {y = k} (omega arith), others))
      by false e f others = others

pub reads_stand : (core : PlainCore) → SharedReadsStand core
reads_stand core counter own body es fs p twice done places long words =
    let n : length es ≡ 0 + length body = run_long core twice.one body [] twice.first es twice.after twice.ran_first in
    stand_from done fs counter own body body [] places 0 (omega (arith, long, n))
    (λ j lt e. (let r = words j (omega (arith, lt, n)) in
    (r.0, r.1 ∙ sym (words_agree core counter own body es fs p twice j e) ∙ ap (word_at fs) {x = j} {y = 0 + j} (omega arith))))
