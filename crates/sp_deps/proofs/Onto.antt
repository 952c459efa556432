-- Terms added to a sum, part by part.
use Rattle.std.proofs.Common.{◌≡◌, List, [], ◌∷◌, ◌++◌, refl, ap, sym, ◌∙◌}
use Rattle.sp_deps.specs.declared.sum.Term.{Term}
use Rattle.sp_deps.specs.declared.sum.Sum.{Sum}
use Rattle.sp_deps.specs.Sums.{plus, onto, nothing, sum_of}

pub onto_append : (ts us : List Term) (s : Sum) → onto (ts ++ us) s ≡ onto ts (onto us s)
onto_append [] us s = refl
onto_append (t ∷ ts) us s = ap (plus t) (onto_append ts us s)

-- three parts, one onto the next, of which each is known by another name
pub stacked : (O I W P J V : List Term) (o i w : Sum) → o ≡ onto O i → i ≡ onto I w → w ≡ sum_of W → O ≡ P → I ≡ J → W ≡ V → o ≡ sum_of (P ++ (J ++ V))
stacked O I W P J V o i w e f g h k l =
    e ∙ ap (onto O) (f ∙ ap (onto I) g) ∙ ap (onto O) (sym (onto_append I W nothing)) ∙ sym (onto_append O (I ++ W) nothing)
    ∙ ap (λ z. sum_of (z ++ (I ++ W))) h ∙ ap (λ z. sum_of (P ++ (z ++ W))) k ∙ ap (λ z. sum_of (P ++ (J ++ z))) l
