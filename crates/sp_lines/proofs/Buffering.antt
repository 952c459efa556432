-- The cells of a line buffer's rows, where one is written, and where rows turn.
use Rattle.std.proofs.Common.{◌≡◌, ◌≢◌, ℕ, zero, suc, ◌+◌, ◌-◌, ◌<◌, ◌≤◌, ◌⊎◌, inl, inr, List, [], ◌∷◌, ◌++◌, length, drop, set, get_or, replicate, Option, Some, None, refl, sym, ap, ◌∙◌, arith, length-append}
use Rattle.std.proofs.lemmas.Bool.{cases_eq, cases_lt}
use Rattle.std.proofs.lemmas.List.{get_or-set_same, get_or-set_other, length-set, get_or_past, get_or_append_left, get_or-append_right, get_or-drop, length-drop, length-replicate, get_or-replicate}

abbrev pub nothing : Option ℕ
nothing = None

-- the word at a row and a column, if it is written
abbrev pub cell : List (List (Option ℕ)) → (row column : ℕ) → Option ℕ
cell rs row column = get_or (get_or rs row []) column None

no_word : {X : Type 0} (word : ℕ) (x : Option ℕ) → x ≡ None → x ≡ Some word → X
no_word word x e f = absurd (let g : None ≡ Some word = sym e ∙ f in cc)

same_word : (a b : ℕ) → Some a ≡ Some b → a ≡ b
same_word a b e = cc

-- what stands in the rows where one word was written
pub set_cell : (rs : List (List (Option ℕ))) (row column value other_row other_column word : ℕ) → cell (set rs row (set (get_or rs row []) column (Some value))) other_row other_column ≡ Some word
    → (((other_row ≡ row) × (other_column ≡ column)) × (word ≡ value)) ⊎ (((other_row ≢ row) ⊎ (other_column ≢ column)) × (cell rs other_row other_column ≡ Some word))
set_cell rs row column value other_row other_column word e = go (cases_eq other_row row) (cases_eq other_column column)
  where
    line : List (Option ℕ)
    line = set (get_or rs row []) column (Some value)

    go : (other_row ≡ row) ⊎ (other_row ≢ row) → (other_column ≡ column) ⊎ (other_column ≢ column)
        → (((other_row ≡ row) × (other_column ≡ column)) × (word ≡ value)) ⊎ (((other_row ≢ row) ⊎ (other_column ≢ column)) × (cell rs other_row other_column ≡ Some word))
    go (inr far) c = inr (inl far, ap (λ (l : List (Option ℕ)). get_or l other_column None) (sym (get_or-set_other rs row other_row line [] far)) ∙ e)
    go (inl near) c = within (cases_lt row (length rs)) c
      where
        here : cell (set rs row line) row other_column ≡ Some word
        here = ap (λ r. cell (set rs row line) r other_column) (sym near) ∙ e

        at_column : get_or line other_column None ≡ Some word → (other_column ≡ column) ⊎ (other_column ≢ column)
            → (((other_row ≡ row) × (other_column ≡ column)) × (word ≡ value)) ⊎ (((other_row ≢ row) ⊎ (other_column ≢ column)) × (cell rs other_row other_column ≡ Some word))
        at_column there (inr far) =
            inr (inr far, ap (λ r. cell rs r other_column) near ∙ sym (get_or-set_other (get_or rs row []) column other_column (Some value) None far) ∙ there)
        at_column there (inl same) = inl ((near, same), column_in (cases_lt column (length (get_or rs row []))))
          where
            found : get_or line column None ≡ Some word
            found = ap (λ c. get_or line c None) (sym same) ∙ there

            column_in : (column < length (get_or rs row [])) ⊎ (length (get_or rs row []) ≤ column) → word ≡ value
            column_in (inl low) = sym (same_word value word (sym (get_or-set_same (get_or rs row []) column (Some value) None low) ∙ found))
            column_in (inr out) =
                let long = length-set (get_or rs row []) column (Some value) in
                no_word word _ (get_or_past line column None (omega (arith, long, out))) found

        within : (row < length rs) ⊎ (length rs ≤ row) → (other_column ≡ column) ⊎ (other_column ≢ column)
            → (((other_row ≡ row) × (other_column ≡ column)) × (word ≡ value)) ⊎ (((other_row ≢ row) ⊎ (other_column ≢ column)) × (cell rs other_row other_column ≡ Some word))
        within (inr out) c =
            let long = length-set rs row line in
            no_word word _ (ap (λ (l : List (Option ℕ)). get_or l other_column None) (get_or_past (set rs row line) row [] (omega (arith, long, out)))) here
        within (inl low) c =
            let there : get_or line other_column None ≡ Some word = ap (λ (l : List (Option ℕ)). get_or l other_column None) (sym (get_or-set_same rs row line [] low)) ∙ here in
            at_column there c

-- no word stands in a row of none
none_there : (n i : ℕ) → get_or (replicate n nothing) i None ≡ None
none_there n i = go (cases_lt i n)
  where
    go : (i < n) ⊎ (n ≤ i) → get_or (replicate n nothing) i None ≡ None
    go (inl l) = get_or-replicate n i None None l
    go (inr l) = get_or_past (replicate n nothing) i None (let k = length-replicate n nothing in omega (arith, k, l))

-- what stands in the rows after they turned: it stood one row later
pub turned_cell : (rs : List (List (Option ℕ))) (columns row column word : ℕ) → cell (drop 1 rs ++ replicate columns None ∷ []) row column ≡ Some word → (row + 1 < length rs) × (cell rs (row + 1) column ≡ Some word)
turned_cell rs columns row column word e = go (cases_lt row (length (drop 1 rs)))
  where
    last : (k : ℕ) → get_or (get_or (replicate columns nothing ∷ []) k []) column None ≡ None
    last zero = none_there columns column
    last (suc k) = refl

    go : (row < length (drop 1 rs)) ⊎ (length (drop 1 rs) ≤ row) → (row + 1 < length rs) × (cell rs (row + 1) column ≡ Some word)
    go (inl low) =
        let left = length-drop 1 rs in
        let moved : get_or (drop 1 rs ++ replicate columns None ∷ []) row [] ≡ get_or rs (row + 1) [] =
        get_or_append_left (drop 1 rs) (replicate columns None ∷ []) [] row low ∙ get_or-drop 1 rs row [] ∙ ap (λ k. get_or rs k []) (omega arith) in
        (omega (arith, left, low), ap (λ (l : List (Option ℕ)). get_or l column None) (sym moved) ∙ e)
    go (inr high) =
        let moved : get_or (drop 1 rs ++ replicate columns None ∷ []) row [] ≡ get_or (replicate columns None ∷ []) (row - length (drop 1 rs)) [] =
        get_or-append_right (drop 1 rs) (replicate columns None ∷ []) (length (drop 1 rs)) row [] refl high in
        no_word word _ (ap (λ (l : List (Option ℕ)). get_or l column None) moved ∙ last (row - length (drop 1 rs))) e

pub turned_long : (rs : List (List (Option ℕ))) (columns n : ℕ) → 1 ≤ n → length rs ≡ n → length (drop 1 rs ++ replicate columns None ∷ []) ≡ n
turned_long rs columns n some long =
    let left = length-drop 1 rs in
    let all = length-append (drop 1 rs) (replicate columns nothing ∷ []) in
    omega (arith, left, all, some, long)
