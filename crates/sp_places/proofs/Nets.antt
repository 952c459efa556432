-- Lists of nets and of their words.
use Rattle.std.proofs.Common.{◌≡◌, ℕ, ◌+◌, ◌<◌, List, [], ◌∷◌, ◌++◌, length, take, map, get_or, slice_index_or, All, sym, ap, subst, ◌∙◌}
use Rattle.std.proofs.lemmas.List.{take_more, map-append, get_or-map}
use Rattle.sp_netlist.specs.Draft.{Draft}
use Rattle.sp_gates.specs.Grows.{Grows}
use Rattle.sp_gates.specs.Nets.{HasNet}
use Rattle.sp_gates.proofs.Growing.{HasNet-stays}

-- what holds of each element of a list holds of the one at a place
pub at_item : {X : Type 0} (P : X → Type 0) (xs : List X) (k : ℕ) (x : X) → All P xs → k < length xs → x ≡ slice_index_or xs k x → P x
at_item P xs k x h l e = subst P (sym e) (h k x l)

pub nets_kept : (a b : Draft) (width : ℕ) (nets : List ℕ) → Grows a b → All (λ net. HasNet a net width) nets → All (λ net. HasNet b net width) nets
nets_kept a b width nets g h = λ k d l. HasNet-stays a b _ width g (h k d l)

pub words_push : (f g : ℕ → ℕ) (wide nets : List ℕ) (i net number : ℕ) → i < length nets → net ≡ slice_index_or nets i net → map f wide ≡ map g (map f (take i nets)) → f number ≡ g (f net)
    → map f (wide ++ number ∷ []) ≡ map g (map f (take (i + 1) nets))
words_push f g wide nets i net number l e before new =
    map-append f wide (number ∷ [])
    ∙ ap (λ ws. ws ++ f number ∷ []) before
    ∙ ap (λ w. map g (map f (take i nets)) ++ w ∷ []) new
    ∙ sym (ap (map g) (ap (map f) (take_more nets i net l ∙ ap (λ x. take i nets ++ x ∷ []) (sym e)) ∙ map-append f (take i nets) (net ∷ [])) ∙ map-append g (map f (take i nets)) (f net ∷ []))

-- the word of a net at a place
pub word_at : (f : ℕ → ℕ) (nets : List ℕ) (i net : ℕ) → i < length nets → net ≡ slice_index_or nets i net → f net ≡ get_or (map f nets) i 0
word_at f nets i net l e = ap f e ∙ sym (get_or-map f nets i net 0 l)
