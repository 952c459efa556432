-- The lines of ports, one after another.
use Rattle.std.proofs.Common.{◌≡◌, ℕ, ◌+◌, ◌<◌, List, [], ◌∷◌, ◌++◌, drop, length, get_or, refl, sym, ap, ◌∙◌, append_assoc, append-nil}
use Rattle.std.proofs.lemmas.List.{drop_more}
use Rattle.sp_words.specs.Ports.{PlainPort}
use Rattle.sp_top.specs.ResultText.{lines_of}

pub drop-turn : {X : Type 0} (xs : List X) (i : ℕ) (x : X) → i < length xs → x ≡ get_or xs i x → drop i xs ≡ x ∷ drop (i + 1) xs
drop-turn xs i x h e = drop_more xs i x h ∙ ap (λ y. y ∷ drop (i + 1) xs) (sym e)

module _ {A : Type 0} (line : PlainPort → A → List ℕ) where
  pub no_values : (ports : List PlainPort) (values : List A) → values ≡ [] → lines_of line ports values ≡ []
  unfolding lines_of
  no_values [] values none = refl
  no_values (port ∷ ports) [] none = refl
  no_values (port ∷ ports) (value ∷ values) none = absurd (cc)

  pub no_ports : (ports : List PlainPort) (values : List A) → ports ≡ [] → lines_of line ports values ≡ []
  unfolding lines_of
  no_ports [] values none = refl
  no_ports (port ∷ ports) values none = absurd (cc)

  lines_turn : (ports more : List PlainPort) (port : PlainPort) (values rest : List A) (value : A) → ports ≡ port ∷ more → values ≡ value ∷ rest
      → lines_of line ports values ≡ line port value ++ lines_of line more rest
  unfolding lines_of
  lines_turn ports more port values rest value first second = rw (first, second)

  -- one more line
  pub line_more : (ports more : List PlainPort) (port : PlainPort) (values rest : List A) (value : A) (old new whole : List ℕ) → ports ≡ port ∷ more → values ≡ value ∷ rest
      → new ≡ old ++ line port value → old ++ lines_of line ports values ≡ whole → new ++ lines_of line more rest ≡ whole
  line_more ports more port values rest value old new whole first second push before =
      ap (λ text. text ++ lines_of line more rest) push
      ∙ append_assoc old (line port value) (lines_of line more rest)
      ∙ ap (λ text. old ++ text) (sym (lines_turn ports more port values rest value first second))
      ∙ before

  -- the last line stands
  pub line_last : (ports : List PlainPort) (values : List A) (text whole : List ℕ) → lines_of line ports values ≡ [] → text ++ lines_of line ports values ≡ whole → text ≡ whole
  line_last ports values text whole none before = sym (append-nil text) ∙ ap (λ rest. text ++ rest) (sym none) ∙ before
