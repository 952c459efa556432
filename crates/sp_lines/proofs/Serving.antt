-- Accesses that are served as those of rows are served as those of the memory in banks.
use Rattle.std.proofs.Common.{◌≡◌, ◌≢◌, ℕ, suc, ◌<◌, ◌==◌, ◌⊎◌, inl, inr, Bool, true, false, ◌&&◌, if◌then◌else◌, List, [], ◌∷◌, length, drop, slice_index, slice_index_or, All, refl, sym, ap, subst, ◌∙◌, arith, eq-eqb, ne_eqb}
use Rattle.std.specs.List.{AllZip}
use Rattle.std.proofs.lemmas.Bool.{cases_eq}
use Rattle.sp_bank.specs.Places.{IsInside, bank as bank_number}
use Rattle.sp_netlist.specs.Draft.{Draft}
use Rattle.sp_netlist.specs.Signals.{Signals}
use Rattle.sp_gates.specs.Runs.{RunsOn}
use Rattle.sp_gates.specs.Tested.{is_on}
use Rattle.sp_mem.specs.declared.part.Touch.{Touch}
use Rattle.sp_mem.specs.Copies.{copy_at, is_at}
use Rattle.sp_places.specs.Layouts.{banking_of}
use Rattle.sp_requests.specs.Elements.{element_at, element_after, are_same, AreServed as AreBankServed}
use Rattle.sp_requests.proofs.Zips.{zip_at, zip_long}
use Rattle.sp_banked.specs.declared.part.Banked.{Banked}
use Rattle.sp_lines.specs.declared.part.Lines.{Lines}
use Rattle.sp_lines.specs.Turns.{row_after, row_of}
use Rattle.sp_lines.specs.Spots.{load_spot, word_after, AreServed}
use Rattle.sp_lines.specs.Fits.{IsSame, IsInner}
use Rattle.sp_lines.proofs.Turning.{after_below, after_same, same_copy, same_place}
use Rattle.sp_lines.proofs.Inner.{same_banking}

-- a row and a column, inside
pub record SpotAt (rows : ℕ) (dims x : List ℕ) : Type 0 where
  pub row : ℕ
  pub column : ℕ
  pub is : x ≡ row ∷ column ∷ []
  pub below : row < rows
  pub inside : IsInside dims (column ∷ [])

pub spot_at : (rows : ℕ) (dims x : List ℕ) → length dims ≡ 1 → IsInside (rows ∷ dims) x → SpotAt rows dims x
spot_at rows [] x e h = absurd (omega (arith, e))
spot_at rows (d ∷ c ∷ dims) x e h = absurd (omega (arith, e))
spot_at rows (d ∷ []) [] e h = absurd h
spot_at rows (d ∷ []) (r ∷ []) e h = absurd h.1
spot_at rows (d ∷ []) (r ∷ c ∷ []) e h = record { row = r; column = c; is = refl; below = h.0; inside = h.1 }
spot_at rows (d ∷ []) (r ∷ c ∷ x ∷ xs) e h = absurd h.1.1

pub first_of : (x y a b : ℕ) → (x ∷ a ∷ []) ≡ (y ∷ b ∷ []) → x ≡ y
first_of x y a b e = ap (λ xs. slice_index xs 0) e

pub second_of : (x y a b : ℕ) → (x ∷ a ∷ []) ≡ (y ∷ b ∷ []) → a ≡ b
second_of x y a b e = ap (λ xs. slice_index xs 1) e

-- a test of numbers is one of copies and rows
pub number_test : (s : Signals) (t rows : ℕ) (nets : List ℕ) (c k row other : ℕ) → ((copy : ℕ) → (copy ≡ c) ⊎ (copy ≡ k) → s.net t (slice_index nets copy) < rows) → row < rows → other < rows
    → (row_of s t rows nets c row == row_of s t rows nets k other) ≡ ((c == k) && (row == other))
number_test s t rows nets c k row other turns l m = go (cases_eq c k) (cases_eq row other)
  where
    first : row_after rows (s.net t (slice_index nets c)) row < rows
    first = after_below rows (s.net t (slice_index nets c)) row (turns c (inl refl)) (omega (arith, l))

    second : row_after rows (s.net t (slice_index nets k)) other < rows
    second = after_below rows (s.net t (slice_index nets k)) other (turns k (inr refl)) (omega (arith, m))

    go : (c ≡ k) ⊎ (c ≢ k) → (row ≡ other) ⊎ (row ≢ other) → (row_of s t rows nets c row == row_of s t rows nets k other) ≡ ((c == k) && (row == other))
    go (inl e) (inl f) =
        let same : row_of s t rows nets c row ≡ row_of s t rows nets k other = ap (λ x. row_of s t rows nets x row) e ∙ ap (row_of s t rows nets k) f in
        eq-eqb _ _ same ∙ sym (rw (eq-eqb c k e, eq-eqb row other f) refl)
    go (inl e) (inr f) =
        ne_eqb _ _
        (λ h. f (after_same rows (s.net t (slice_index nets k)) row other (turns k (inr refl)) l m
        (ap (λ x. row_after rows (s.net t (slice_index nets x)) row) (sym e) ∙ same_place rows c k _ _ first second h)))
        ∙ sym (rw (eq-eqb c k e, ne_eqb row other f) refl)
    go (inr e) f = ne_eqb _ _ (λ h. e (same_copy rows c k _ _ first second h)) ∙ sym (rw (ne_eqb c k e) refl)

and_joined : (a b c : Bool) → ((a && b) && c) ≡ (a && (b && c))
and_joined true b c = refl
and_joined false b c = refl

tests_same : (on a x b z : Bool) → (on ≡ true → (a && x) ≡ (b && z)) → ((on && a) && x) ≡ ((on && b) && z)
tests_same true a x b z h = h refl
tests_same false a x b z h = refl

choice_same : (a b : Bool) (x y old : ℕ) → a ≡ b → x ≡ y → (if a then x else old) ≡ (if b then y else old)
choice_same a b x y old e f = rw (e, f) refl

module _ (d : Draft) (s : Signals) (part : Lines) (inner : Banked) (turns : List ℕ) (run : RunsOn s d.cells) (columns : length part.layout.dims.items ≡ 1) (same : IsSame part inner)
    (below : (t copy : ℕ) → copy < part.copies → s.net t (slice_index turns copy) < part.rows) where
  module _ (spot : Signals → ℕ → Touch → List ℕ) (t : ℕ) where
    -- what an access that is enabled is at
    record Stands (touch access : Touch) : Type 0 where
      pub at : SpotAt part.rows part.layout.dims.items (spot s t touch)
      pub copy : copy_at s t touch.copy < part.copies
      pub column_is : element_at s t access ≡ at.column ∷ []
      pub number_is : copy_at s t access.copy ≡ row_of s t part.rows turns (copy_at s t touch.copy) at.row

    stands : (touch access : Touch) → IsInner d part turns spot touch access → copy_at s t touch.copy < part.copies → IsInside (part.rows ∷ part.layout.dims.items) (spot s t touch) → Stands touch access
    stands touch access is l inside =
        let at = spot_at part.rows part.layout.dims.items (spot s t touch) columns inside in
        record { at = at; copy = l; column_is = is.column_is s run t at.row at.column at.is; number_is = is.row_is s run t at.row at.column at.is at.below l }

    access_test : (touch access : Touch) → IsInner d part turns spot touch access → (is_on s touch.enable t ≡ true → copy_at s t touch.copy < part.copies)
        → (is_on s touch.enable t ≡ true → IsInside (part.rows ∷ part.layout.dims.items) (spot s t touch)) → (copy row column : ℕ) → copy < part.copies → row < part.rows
        → (is_at s t access.enable access.copy (row_of s t part.rows turns copy row) && are_same (element_at s t access) (column ∷ [])) ≡ (is_at s t touch.enable touch.copy copy && are_same (spot s t touch) (row ∷ column ∷ []))
    access_test touch access is copies inside copy row column l m =
        ap (λ e. (is_on s e t && (copy_at s t access.copy == row_of s t part.rows turns copy row)) && are_same (element_at s t access) (column ∷ [])) is.enable
        ∙ tests_same (is_on s touch.enable t) _ _ _ _ (λ on. enabled (stands touch access is (copies on) (inside on)))
      where
        enabled : Stands touch access → ((copy_at s t access.copy == row_of s t part.rows turns copy row) && are_same (element_at s t access) (column ∷ [])) ≡ ((copy_at s t touch.copy == copy) && are_same (spot s t touch) (row ∷ column ∷ []))
        enabled h =
            let number = number_test s t part.rows turns (copy_at s t touch.copy) copy h.at.row row (λ c e. elim e [ inl is_own ↦ below t c (let k = h.copy in omega (arith, k, is_own)) | inr is_other ↦ below t c (omega (arith, l, is_other)) ]) h.at.below m in
            rw (h.number_is, h.column_is, h.at.is, number) (and_joined (copy_at s t touch.copy == copy) (h.at.row == row) ((h.at.column == column) && true))

    pub served_inside : (touches inners : List Touch) → AllZip (IsInner d part turns spot) touches inners → AreServed s t part (spot s t) touches → AreBankServed s t inner.layout inners
    served_inside touches inners is served = record { inside = inside_at; together = together_at }
      where
        long : length inners ≡ length touches
        long = zip_long (IsInner d part turns spot) touches inners is

        at_place : (k : ℕ) (w : Touch) → k < length inners → is_on s (slice_index_or inners k w).enable t ≡ true → Stands (slice_index_or touches k w) (slice_index_or inners k w)
        at_place k w l on =
            let m : k < length touches = omega (arith, long, l) in
            let one = zip_at (IsInner d part turns spot) touches inners k w w is m in
            let own : is_on s (slice_index_or touches k w).enable t ≡ true = ap (λ e. is_on s e t) (sym one.enable) ∙ on in
            stands (slice_index_or touches k w) (slice_index_or inners k w) one (served.copies k w m own) (served.inside k w m own)

        enabled : (k : ℕ) (w : Touch) → k < length inners → is_on s (slice_index_or inners k w).enable t ≡ true → is_on s (slice_index_or touches k w).enable t ≡ true
        enabled k w l on = let one = zip_at (IsInner d part turns spot) touches inners k w w is (omega (arith, long, l)) in ap (λ e. is_on s e t) (sym one.enable) ∙ on

        inside_at : All (λ a. is_on s a.enable t ≡ true → IsInside inner.layout.dims.items (element_at s t a)) inners
        inside_at k w l on = let h = at_place k w l on in subst (λ x. IsInside inner.layout.dims.items x) (sym h.column_is) (subst (λ dims. IsInside dims (h.at.column ∷ [])) (sym same.dims) h.at.inside)

        both : (i k : ℕ) (w : Touch) → i < length inners → k < length inners → is_on s (slice_index_or inners i w).enable t ≡ true → is_on s (slice_index_or inners k w).enable t ≡ true
            → Stands (slice_index_or touches i w) (slice_index_or inners i w) → Stands (slice_index_or touches k w) (slice_index_or inners k w)
            → copy_at s t (slice_index_or inners i w).copy ≡ copy_at s t (slice_index_or inners k w).copy
            → bank_number (banking_of inner.layout) (element_at s t (slice_index_or inners i w)) ≡ bank_number (banking_of inner.layout) (element_at s t (slice_index_or inners k w))
            → element_at s t (slice_index_or inners i w) ≡ element_at s t (slice_index_or inners k w)
        both i k w l m on off g h copies banks =
            let c = copy_at s t (slice_index_or touches i w).copy in
            let e = copy_at s t (slice_index_or touches k w).copy in
            let x : row_after part.rows (s.net t (slice_index turns c)) g.at.row < part.rows = after_below part.rows _ g.at.row (below t c g.copy) (let q = g.at.below in omega (arith, q)) in
            let y : row_after part.rows (s.net t (slice_index turns e)) h.at.row < part.rows = after_below part.rows _ h.at.row (below t e h.copy) (let q = h.at.below in omega (arith, q)) in
            let numbers : row_of s t part.rows turns c g.at.row ≡ row_of s t part.rows turns e h.at.row = sym g.number_is ∙ copies ∙ h.number_is in
            let one_copy : c ≡ e = same_copy part.rows c e _ _ x y numbers in
            let one_row : g.at.row ≡ h.at.row =
            after_same part.rows (s.net t (slice_index turns e)) g.at.row h.at.row (below t e h.copy) g.at.below h.at.below
            (ap (λ z. row_after part.rows (s.net t (slice_index turns z)) g.at.row) (sym one_copy) ∙ same_place part.rows c e _ _ x y numbers) in
            let one_bank : bank_number (banking_of part.layout) (g.at.column ∷ []) ≡ bank_number (banking_of part.layout) (h.at.column ∷ []) =
            ap (λ b. bank_number b (g.at.column ∷ [])) (sym (same_banking part inner same)) ∙ ap (bank_number (banking_of inner.layout)) (sym g.column_is) ∙ banks ∙ ap (bank_number (banking_of inner.layout)) h.column_is
            ∙ ap (λ b. bank_number b (h.at.column ∷ [])) (same_banking part inner same) in
            let spots = served.together i k w (omega (arith, long, l)) (omega (arith, long, m)) (enabled i w l on) (enabled k w m off) one_copy
            (ap (λ z. slice_index z 0) g.at.is ∙ one_row ∙ sym (ap (λ z. slice_index z 0) h.at.is))
            (ap (λ z. bank_number (banking_of part.layout) (drop 1 z)) g.at.is ∙ one_bank ∙ sym (ap (λ z. bank_number (banking_of part.layout) (drop 1 z)) h.at.is)) in
            g.column_is ∙ ap (λ z. z ∷ []) (second_of _ _ _ _ (sym g.at.is ∙ spots ∙ h.at.is)) ∙ sym h.column_is

        together_at : (i k : ℕ) (w : Touch) → i < length inners → k < length inners → is_on s (slice_index_or inners i w).enable t ≡ true → is_on s (slice_index_or inners k w).enable t ≡ true
            → copy_at s t (slice_index_or inners i w).copy ≡ copy_at s t (slice_index_or inners k w).copy
            → bank_number (banking_of inner.layout) (element_at s t (slice_index_or inners i w)) ≡ bank_number (banking_of inner.layout) (element_at s t (slice_index_or inners k w))
            → element_at s t (slice_index_or inners i w) ≡ element_at s t (slice_index_or inners k w)
        together_at i k w l m on off copies banks = both i k w l m on off (at_place i w l on) (at_place k w m off) copies banks

  -- what loads leave at a row and a column is what writes leave at the element of the row's number
  pub after_is : (t copy row column : ℕ) → copy < part.copies → row < part.rows → (touches inners : List Touch) → AllZip (IsInner d part turns (load_spot part.rows)) touches inners
      → All (λ a. is_on s a.enable t ≡ true → copy_at s t a.copy < part.copies) touches → All (λ a. is_on s a.enable t ≡ true → IsInside (part.rows ∷ part.layout.dims.items) (load_spot part.rows s t a)) touches
      → (old : ℕ) → element_after s t (row_of s t part.rows turns copy row) inners (column ∷ []) old ≡ word_after s t copy part.rows touches (row ∷ column ∷ []) old
  after_is t copy row column l m [] [] is copies inside old = refl
  after_is t copy row column l m [] (i ∷ inners) is copies inside old = absurd is
  after_is t copy row column l m (w ∷ ws) [] is copies inside old = absurd is
  after_is t copy row column l m (w ∷ ws) (i ∷ inners) is copies inside old =
      ap (element_after s t (row_of s t part.rows turns copy row) inners (column ∷ []))
      (choice_same _ _ (s.net t i.word) (s.net t w.word) old (access_test (load_spot part.rows) t w i is.0 (copies 0 w (omega arith)) (inside 0 w (omega arith)) copy row column l m) (ap (s.net t) is.0.word))
      ∙ after_is t copy row column l m ws inners is.1 (λ k e n. copies (suc k) e (omega (arith, n))) (λ k e n. inside (suc k) e (omega (arith, n))) _
