-- Words of lanes that are combined into the elements of a memory: lane by lane, each over all elements; and element by element,
-- each with the words of all lanes.
use Rattle.std.specs.Prelude.{◌≡◌, ℕ, Bool, true, false, List, [], ◌∷◌, length, slice_index_or, slice_set, Option, Some, None}
use Rattle.sp_core.specs.Declarations.{is_among}
use Rattle.sp_lane_groups.specs.JoinedWords.{in_turn}

-- a word after that of a cell, if it holds one of this run
abbrev pub after_cell : (ℕ → ℕ → ℕ) → (begun : Bool) → Option ℕ → ℕ → ℕ
after_cell op true (Some a) w = op a w
after_cell op begun cell w = w

-- the first of each list, and the others
abbrev pub firsts : {A : Type 0} → A → List (List A) → List A
firsts none [] = []
firsts none ([] ∷ lists) = none ∷ firsts none lists
firsts none ((x ∷ xs) ∷ lists) = x ∷ firsts none lists

abbrev pub others : {A : Type 0} → List (List A) → List (List A)
others [] = []
others ([] ∷ lists) = [] ∷ others lists
others ((x ∷ xs) ∷ lists) = xs ∷ others lists

module _ (op : ℕ → ℕ → ℕ) where
  -- the words of a lane, one for each place
  abbrev pub one_lane : (begun : Bool) → (places words : List ℕ) → List (Option ℕ) → List (Option ℕ)
  one_lane begun (p ∷ places) (w ∷ words) cells =
      one_lane begun places words (slice_set cells p (Some (after_cell op begun (slice_index_or cells p None) w)))
  one_lane begun places words cells = cells

  -- those of all lanes, one lane after the other
  abbrev pub by_lanes : (begun : Bool) → (places : List ℕ) → (lanes : List (List ℕ)) → List (Option ℕ) → List (Option ℕ)
  by_lanes begun places [] cells = cells
  by_lanes begun places (words ∷ lanes) cells = by_lanes true places lanes (one_lane begun places words cells)

  -- the words of all lanes at one place
  abbrev pub one_element : (begun : Bool) → (place : ℕ) → (words : List ℕ) → List (Option ℕ) → List (Option ℕ)
  one_element begun p [] cells = cells
  one_element begun p (w ∷ words) cells = slice_set cells p (Some (in_turn op (after_cell op begun (slice_index_or cells p None) w) words))

  -- at all places, one after the other
  abbrev pub by_elements : (begun : Bool) → (places : List ℕ) → (lanes : List (List ℕ)) → List (Option ℕ) → List (Option ℕ)
  by_elements begun [] lanes cells = cells
  by_elements begun (p ∷ places) lanes cells = by_elements begun places (others lanes) (one_element begun p (firsts 0 lanes) cells)

-- no two places are the same
abbrev pub ArePlacesApart : List ℕ → Type 0
ArePlacesApart [] = Unit {0}
ArePlacesApart (p ∷ places) = (is_among p places ≡ false) × ArePlacesApart places

-- each lane has a word for each place
abbrev pub HaveWordFor : (places : List ℕ) → (lanes : List (List ℕ)) → Type 0
HaveWordFor places [] = Unit {0}
HaveWordFor places (words ∷ lanes) = (length words ≡ length places) × HaveWordFor places lanes

-- both orders leave the same cells
abbrev pub ElementsExchange : Type 0
ElementsExchange =
    (op : ℕ → ℕ → ℕ) (begun : Bool) (places : List ℕ) (lanes : List (List ℕ)) (cells : List (Option ℕ)) → ArePlacesApart places → HaveWordFor places lanes
    → by_lanes op begun places lanes cells ≡ by_elements op begun places lanes cells
