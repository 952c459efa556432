-- Words that are combined from the left, by an operator for which grouping is free.
use Rattle.std.proofs.Common.{◌≡◌, ℕ, List, [], ◌∷◌, ◌++◌, refl, sym, ◌∙◌, ap}
use Rattle.sp_lane_groups.specs.JoinedWords.{in_turn}

abbrev pub AllAre : (ℕ → Type 0) → List ℕ → Type 0
AllAre Is [] = Unit {0}
AllAre Is (v ∷ vs) = Is v × AllAre Is vs

pub are_front : (Is : ℕ → Type 0) (xs ys : List ℕ) → AllAre Is (xs ++ ys) → AllAre Is xs
are_front Is [] ys h = tt
are_front Is (x ∷ xs) ys h = (h.0, are_front Is xs ys h.1)

pub are_back : (Is : ℕ → Type 0) (xs ys : List ℕ) → AllAre Is (xs ++ ys) → AllAre Is ys
are_back Is [] ys h = h
are_back Is (x ∷ xs) ys h = are_back Is xs ys h.1

-- one list after the other
turn_append : (op : ℕ → ℕ → ℕ) (v : ℕ) (xs ys : List ℕ) → in_turn op v (xs ++ ys) ≡ in_turn op (in_turn op v xs) ys
turn_append op v [] ys = refl
turn_append op v (x ∷ xs) ys = turn_append op (op v x) xs ys

module _ (Is : ℕ → Type 0) (op : ℕ → ℕ → ℕ) (closed : (a b : ℕ) → Is a → Is b → Is (op a b)) (grouped : (a b c : ℕ) → Is a → Is b → Is c → op (op a b) c ≡ op a (op b c)) where
  pub turn_is : (v : ℕ) (vs : List ℕ) → Is v → AllAre Is vs → Is (in_turn op v vs)
  turn_is v [] h k = h
  turn_is v (x ∷ vs) h k = turn_is (op v x) vs (closed v x h k.0) k.1

  -- a word with the others together, and with each after the other
  pub turn_grouped : (a v : ℕ) (vs : List ℕ) → Is a → Is v → AllAre Is vs → op a (in_turn op v vs) ≡ in_turn op (op a v) vs
  turn_grouped a v [] i h k = refl
  turn_grouped a v (x ∷ vs) i h k = turn_grouped a (op v x) vs i (closed v x h k.0) k.1 ∙ ap (λ z. in_turn op z vs) (sym (grouped a v x i h k.0))

  -- both halves
  pub halves : (v : ℕ) (vs : List ℕ) (u : ℕ) (us : List ℕ) → Is v → AllAre Is vs → Is u → AllAre Is us → op (in_turn op v vs) (in_turn op u us) ≡ in_turn op v (vs ++ u ∷ us)
  halves v vs u us h k i j = turn_grouped (in_turn op v vs) u us (turn_is v vs h k) i j ∙ sym (turn_append op v vs (u ∷ us))
