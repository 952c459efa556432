-- How counts and gains of several calls, one after another, make up those of one call around them.
use Rattle.std.specs.Prelude.{◌≡◌, ℕ, ◌+◌, ◌≤◌, min, List, [], ◌∷◌, ◌++◌, length, take, Some, None, Option, refl}
use Rattle.std.proofs.Common.{sym, zero, suc, arith, append_assoc, append-nil, take_all, ap}
use Rattle.std.proofs.lemmas.List.{take-append-le}
use Rattle.std.proofs.Math.Seq.{take-append-add}
use Rattle.sp_edges.specs.Counts.{Rose}
use Rattle.sp_edges.specs.Gained.{Gained, GainedPart}

-- a count that rose in an inner call rose in the outer one
pub Rose-within : (before inner_before inner_after after : ℕ) → before ≤ inner_before → Rose inner_before inner_after → inner_after ≤ after → Rose before after
Rose-within before inner_before inner_after after low rose high = omega arith

-- nothing was gained where no call was made
pub Gained-none : (taken : Option (List ℕ)) → Gained taken taken []
Gained-none None = tt
Gained-none (Some bytes) = rw append-nil refl

-- gains add up
pub Gained-append : (before middle after : Option (List ℕ)) (first second : List ℕ) → Gained before middle first → Gained middle after second → Gained before after (first ++ second)
Gained-append None middle after first second one two = tt
Gained-append (Some bytes) middle after first second one two = rw (← append_assoc) (rw one at two)

-- a part of what follows, after what was gained before it
pub GainedPart-append : (before middle after : Option (List ℕ)) (first second : List ℕ) → Gained before middle first → GainedPart middle after second → GainedPart before after (first ++ second)
GainedPart-append before middle after first second one part =
    (length first + part.0, rw (take-append-add first second part.0) (Gained-append before middle after first (take part.0 second) one part.1))

take-min : (front : List ℕ) (count : ℕ) → take (min count (length front)) front ≡ take count front
take-min [] count = let e : min count 0 ≡ 0 = omega arith in rw e (sym (take_all count [] (omega arith)))
take-min (x ∷ front) zero = let e : min 0 (suc (length front)) ≡ 0 = omega arith in rw e refl
take-min (x ∷ front) (suc count) =
    let e : min (suc count) (suc (length front)) ≡ suc (min count (length front)) = omega arith in rw e (ap (λ bytes. x ∷ bytes) (take-min front count))

-- the first bytes of the front of a list
take-front : (front rest : List ℕ) (count : ℕ) → take (min count (length front)) (front ++ rest) ≡ take count front
take-front front rest count = rw (take-append-le (min count (length front)) front rest (omega arith)) (take-min front count)

-- a part of the front of a text is a part of the text
pub GainedPart-front : (before after : Option (List ℕ)) (front rest : List ℕ) → GainedPart before after front → GainedPart before after (front ++ rest)
GainedPart-front before after front rest part =
    (min part.0 (length front), rw (take-front front rest part.0) part.1)

-- no part was gained where nothing was
pub GainedPart-none : (taken : Option (List ℕ)) (text : List ℕ) → GainedPart taken taken text
GainedPart-none taken text = (0, Gained-none taken)

-- what was gained whole was gained in part
pub GainedPart-whole : (before after : Option (List ℕ)) (text : List ℕ) → Gained before after text → GainedPart before after text
GainedPart-whole before after text gained = (length text, rw (take_all (length text) text (omega arith)) gained)
