-- Lists of operations, and the memories that wait for their reset.
use Rattle.std.proofs.Common.{◌≡◌, ℕ, Bool, true, not, List, [], ◌∷◌, ◌++◌, Option, Some, None, refl, sym, ◌∙◌, ap}
use Rattle.std.proofs.lemmas.Bool.{true≢false, and_parts, eqb-true}
use Rattle.sp_core.specs.Footprint.{MayName, ListNames}
use Rattle.sp_core.specs.PlainCore.{PlainOp, PlainCore}
use Rattle.sp_lanes.specs.Shared.{is_of}
use Rattle.sp_lane_groups.specs.Waiting.{resets, waits_after, ResetsFirst}

-- what waits after a list
abbrev pub after_ops : List PlainOp → (ℕ → Bool) → ℕ → Bool
after_ops [] waits = waits
after_ops (op ∷ ops) waits = after_ops ops (waits_after op waits)

pub after_append : (xs ys : List PlainOp) (waits : ℕ → Bool) → after_ops (xs ++ ys) waits ≡ after_ops ys (after_ops xs waits)
after_append [] ys waits = refl
after_append (x ∷ xs) ys waits = after_append xs ys (waits_after x waits)

pub resets_append : (xs ys : List PlainOp) (waits : ℕ → Bool) → ResetsFirst waits xs → ResetsFirst (after_ops xs waits) ys → ResetsFirst waits (xs ++ ys)
resets_append [] ys waits h k = k
resets_append (x ∷ xs) ys waits h k = (h.0, resets_append xs ys (waits_after x waits) h.1 k)

-- no more waits than before
pub after_less : (ops : List PlainOp) (waits : ℕ → Bool) (m : ℕ) → after_ops ops waits m ≡ true → waits m ≡ true
after_less [] waits m e = e
after_less (op ∷ ops) waits m e = (and_parts (waits m) (not (resets op m)) (after_less ops (waits_after op waits) m e)).0

-- where a list names nothing that waits
pub names_none : (core : PlainCore) (is : ℕ → Bool) (ops : List PlainOp) (waits : ℕ → Bool) → ListNames core is ops → ((m : ℕ) → is m ≡ true → waits m ≡ true → ⊥) → ResetsFirst waits ops
names_none core is [] waits h k = tt
names_none core is (op ∷ ops) waits h k = (here op.mem h.0, names_none core is ops (waits_after op waits) h.1 (λ m i w. k m i (and_parts (waits m) (not (resets op m)) w).0))
  where
    here : (n : Option ℕ) → MayName core is n → (m : ℕ) → is_of n m ≡ true → waits m ≡ true → resets op m ≡ true
    here None named m i w = absurd (true≢false (sym i))
    here (Some n) named m i w = absurd (k m (ap is (sym (eqb-true n m i)) ∙ named) w)

-- where nothing waits
pub none_waits : (ops : List PlainOp) (waits : ℕ → Bool) → ((m : ℕ) → waits m ≡ true → ⊥) → ResetsFirst waits ops
none_waits [] waits k = tt
none_waits (op ∷ ops) waits k = ((λ m i w. absurd (k m w)), none_waits ops (waits_after op waits) (λ m w. k m (and_parts (waits m) (not (resets op m)) w).0))
