-- Lists of slots as they grow.
use Rattle.std.proofs.Common.{◌≡◌, ℕ, zero, suc, ◌+◌, ◌-◌, ◌*◌, ◌<◌, ◌≤◌, ◌&&◌, ◌||◌, not, Bool, true, false, cond, List, [], ◌∷◌, ◌++◌, length, map, get_or, refl, ap, sym, ◌∙◌, add-one, arith}
use Rattle.std.proofs.lemmas.List.{map-append}
use Rattle.sp_core.specs.Elements.{numbers_below}
use Rattle.sp_plan.specs.Slots.{StageRun, run_at, is_of_all, is_in_lane_0, lane_size, stage_of}
use Rattle.sp_stages.specs.Divided.{slot_of}
use Rattle.sp_stages.proofs.Below.{listed, filter_most}

pub pushed_number : (f : ℕ → ℕ) (n : ℕ) (now next : List ℕ) → now ≡ map f (numbers_below n) → next ≡ now ++ f n ∷ [] → next ≡ map f (numbers_below (n + 1))
pushed_number f n now next e g =
    g ∙ ap (λ xs. xs ++ f n ∷ []) e ∙ sym (map-append f (numbers_below n) (n ∷ [])) ∙ ap (λ k. map f (numbers_below k)) (sym (add-one n))

pub slot_next : (joined : ℕ → Bool) (k slot next : ℕ) (j : Bool) → slot ≡ slot_of joined k → next ≡ slot + cond j 0 1 → j ≡ joined k → next ≡ slot_of joined (k + 1)
slot_next joined k slot next j e g is = g ∙ ap (λ s. s + cond j 0 1) e ∙ ap (λ b. slot_of joined k + cond b 0 1) is ∙ ap (slot_of joined) (sym (add-one k))

-- stages that are joined alike have the same slots
pub slot_like : (f g : ℕ → Bool) → ((k : ℕ) → f k ≡ g k) → (k : ℕ) → slot_of f k ≡ slot_of g k
slot_like f g h zero = refl
slot_like f g h (suc k) = ap (λ s. s + cond (f k) 0 1) (slot_like f g h k) ∙ ap (λ b. slot_of g k + cond b 0 1) (h k)

stage_from : (runs : List StageRun) (p : ℕ) → p < length runs → (b : Bool) → is_of_all (run_at runs p) ≡ b → stage_of runs p ≤ length runs
stage_from runs p lt true e =
    let s = ap (λ x. cond x (lane_size runs) (p - (run_at runs p).first * lane_size runs)) e in
    let most = filter_most is_in_lane_0 runs in omega arith
stage_from runs p lt false e = let s = ap (λ x. cond x (lane_size runs) (p - (run_at runs p).first * lane_size runs)) e in omega arith

-- a stage has a number no greater than that of the runs
pub stage_few : (runs : List StageRun) (p : ℕ) → p < length runs → stage_of runs p ≤ length runs
stage_few runs p lt = stage_from runs p lt (is_of_all (run_at runs p)) refl

-- the slot of a run, from those of the stages
pub slot_found : (f g : ℕ → Bool) → ((k : ℕ) → f k ≡ g k) → (by_stage : List ℕ) (last k : ℕ) → by_stage ≡ map (slot_of f) (numbers_below (last + 1)) → k ≤ last → get_or by_stage k 0 ≡ slot_of g k
slot_found f g h by_stage last k e le = ap (λ xs. get_or xs k 0) e ∙ listed (slot_of f) (last + 1) k (omega arith) ∙ slot_like f g h k

pub joined_like : (one onlyone once only x y : Bool) → one ≡ onlyone → once ≡ only → x ≡ y → (one || (not once && x)) ≡ (onlyone || (not only && y))
joined_like one onlyone once only x y e g h = ap (λ b. b || (not once && x)) e ∙ ap (λ b. onlyone || (not b && x)) g ∙ ap (λ b. onlyone || (not only && b)) h
