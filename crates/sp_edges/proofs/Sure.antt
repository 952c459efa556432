-- A sure name stays sure, and no call for it fails.
use Rattle.std.proofs.Common.{arith, ◌≡◌, ℕ, ◌+◌, ◌^◌, Bool, true, false, List, [], ◌∷◌, Some, None, refl, cond, nat_lt, ◌==◌}
use Rattle.std.proofs.lemmas.Grind.{common_steps}
use Rattle.std.specs.Prelude.{Option}
use Rattle.std.specs.List.{list_all, list_any}
use Rattle.sp_edges.specs.Memory.{all_past, is_among, next_number, KeptFiles, IsSure, fails_at, counted}

-- a call that is past is not the next one
past-not_among : (calls : List ℕ) (next : ℕ) → list_all (λ call. nat_lt call next) calls ≡ true → list_any (λ call. call == next) calls ≡ false
past-not_among [] next past = refl
past-not_among (call ∷ calls) next past = grind (arith, common_steps, past-not_among calls next)

pub all_past-not_among : (calls : List ℕ) (next : Option ℕ) → all_past calls next ≡ true → is_among calls next ≡ false
all_past-not_among calls None past = refl
all_past-not_among calls (Some next) past = past-not_among calls next past

-- what is past stays past
past-later : (calls : List ℕ) (next : ℕ) → list_all (λ call. nat_lt call next) calls ≡ true → list_all (λ call. nat_lt call (next + 1)) calls ≡ true
past-later [] next past = refl
past-later (call ∷ calls) next past = grind (arith, common_steps, past-later calls next)

all_past-if : (calls : List ℕ) (next : ℕ) (more : Bool) → list_all (λ call. nat_lt call (next + 1)) calls ≡ true → all_past calls (cond more (Some (next + 1)) None) ≡ true
all_past-if calls next true past = past
all_past-if calls next false past = refl

pub all_past-next_number : (calls : List ℕ) (next : Option ℕ) → all_past calls next ≡ true → all_past calls (next_number next) ≡ true
all_past-next_number calls None past = refl
all_past-next_number calls (Some next) past = all_past-if calls next (nat_lt (next + 1) (2 ^ 64)) (past-later calls next past)

pub sure-not_failing : (kept : KeptFiles) (name : List ℕ) → IsSure kept name → fails_at kept name ≡ false
sure-not_failing kept name sure =
    let e = all_past-not_among kept.failing kept.next sure.1 in rw (e, sure.0)

pub sure-counted : (kept : KeptFiles) (failed : Bool) (name : List ℕ) → IsSure kept name → IsSure (counted kept failed) name
sure-counted kept failed name sure = (sure.0, all_past-next_number kept.failing kept.next sure.1)
