-- What is found of one list after another.
use Rattle.std.proofs.Common.{◌≡◌, List, [], ◌∷◌, ◌++◌, Option, refl, sym, ap, ◌∙◌, Result, Ok, Err}
use Rattle.std.specs.Result.{OnOk}
use Rattle.sp_types.specs.declared.refusal.Refusal.{Refusal}
use Rattle.sp_types.specs.First.{note, notes}

pub notes_append : (first : Option Refusal) (rs ss : List Refusal) → notes first (rs ++ ss) ≡ notes (notes first rs) ss
unfolding notes
notes_append first [] ss = refl
notes_append first (r ∷ rs) ss = notes_append (note first r) rs ss

pub notes_none : (first : Option Refusal) → notes first [] ≡ first
unfolding notes
notes_none first = refl

-- three lists, in order
pub notes_three : (first : Option Refusal) (rs ss ts : List Refusal) (one two three : Option Refusal)
    → one ≡ notes first rs → two ≡ notes one ss → three ≡ notes two ts → three ≡ notes first (rs ++ ss ++ ts)
notes_three first rs ss ts one two three e f g =
    g ∙ ap (λ x. notes x ts) (f ∙ ap (λ x. notes x ss) e ∙ sym (notes_append first rs ss)) ∙ sym (notes_append first (rs ++ ss) ts)

-- one more before those that are left
pub notes_next : (first one last : Option Refusal) (rs ss : List Refusal) → one ≡ notes first rs → notes first (rs ++ ss) ≡ last → notes one ss ≡ last
notes_next first one last rs ss e f = ap (λ x. notes x ss) e ∙ sym (notes_append first rs ss) ∙ f

pub notes_two : (first : Option Refusal) (rs ss : List Refusal) (one two : Option Refusal) → one ≡ notes first rs → two ≡ notes one ss → two ≡ notes first (rs ++ ss)
notes_two first rs ss one two e f = f ∙ ap (λ x. notes x ss) e ∙ sym (notes_append first rs ss)

-- the same list, where a call was all right
pub then_same : {A E : Type 0} (r : Result A E) (first last : Option Refusal) (rs ss : List Refusal) → rs ≡ ss → OnOk r (last ≡ notes first rs) → OnOk r (last ≡ notes first ss)
then_same (Ok a) first last rs ss e h = h ∙ ap (notes first) e
then_same (Err b) first last rs ss e h = h

-- a call with equal arguments
pub same_three : {A B C D : Type 0} (f : A → B → C → D) (a x : A) (b y : B) (c z : C) → a ≡ x → b ≡ y → c ≡ z → f a b c ≡ f x y z
same_three f a x b y c z e g h = ap (λ w. f w b c) e ∙ ap (λ w. f x w c) g ∙ ap (λ w. f x y w) h

-- what the last call found, after what was found before it
pub then_after : {A E : Type 0} (r : Result A E) (first one last : Option Refusal) (rs ss whole : List Refusal)
    → one ≡ notes first rs → rs ++ ss ≡ whole → OnOk r (last ≡ notes one ss) → OnOk r (last ≡ notes first whole)
then_after (Ok a) first one last rs ss whole e w h = h ∙ ap (λ x. notes x ss) e ∙ sym (notes_append first rs ss) ∙ ap (notes first) w
then_after (Err b) first one last rs ss whole e w h = h
