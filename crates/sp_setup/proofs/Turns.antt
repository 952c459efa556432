-- One turn of a loop over a list, by what is left of it.
use Rattle.std.proofs.Common.{◌≡◌, ℕ, ◌+◌, ◌<◌, List, [], ◌∷◌, ◌++◌, drop, length, get_or, append_assoc, append-nil, sym, subst, ap, ◌∙◌}
use Rattle.std.specs.Prelude.{Result, Ok, Err, IfErr, IsErrAnd}
use Rattle.std.proofs.lemmas.List.{drop_more}

pub drop-turn : {X : Type 0} (xs : List X) (i : ℕ) (x : X) → i < length xs → x ≡ get_or xs i x → drop i xs ≡ x ∷ drop (i + 1) xs
drop-turn xs i x h e = drop_more xs i x h ∙ ap (λ y. y ∷ drop (i + 1) xs) (sym e)

-- what a `?` hands on of an error
pub passed_on : {T E : Type 0} (r : Result T E) (x : E) (Q P : E → Type 0) → IsErrAnd r Q → ((y : E) → Q y → y ≡ x) → P x → IfErr r P
passed_on (Ok t) x Q P h same p = absurd h
passed_on (Err y) x Q P h same p = subst P (sym (same y h)) p

-- one more number at the end, and what is left after it
pub push-turn : (new old left rest all : List ℕ) (w v : ℕ) → new ≡ old ++ (w ∷ []) → w ≡ v → left ≡ v ∷ rest → old ++ left ≡ all → new ++ rest ≡ all
push-turn new old left rest all w v push same turn before =
    ap (λ n. n ++ rest) push ∙ append_assoc old (w ∷ []) rest ∙ ap (λ x. old ++ (x ∷ rest)) same ∙ ap (λ l. old ++ l) (sym turn) ∙ before

pub push-end : (now left all : List ℕ) → left ≡ [] → now ++ left ≡ all → now ≡ all
push-end now left all none before = sym (append-nil now) ∙ ap (λ l. now ++ l) (sym none) ∙ before
