-- The groups of accesses are apart exactly where each two accesses by one port and of one row are.
use Rattle.std.proofs.Common.{◌≡◌, ℕ, ◌/◌, ◌<◌, ◌≤◌, ◌^◌, Bool, true, false, cond, List, [], ◌∷◌, ◌++◌, map, filter, length, Option, Some, None, arith, refl, sym, ap, ◌∙◌, subst}
use Rattle.std.proofs.lemmas.Bool.{and_parts, and_from, or_left, or_right, false≢true, true≢false}
use Rattle.std.proofs.lemmas.List.{length-map}
use Rattle.std.specs.List.{list_any, list_all}
use Rattle.std.specs.Prelude.{◌&&◌, ◌||◌}
use Rattle.sp_affine.specs.Affine.{Affine}
use Rattle.sp_bank.specs.Banking.{Banking}
use Rattle.sp_bank.specs.Separation.{Separates, IsGroup}
use Rattle.sp_schemes.proofs.Flat.{joined, AreRows, Two, separates_joined, joined_separates, separates_none, is_group}
use Rattle.sp_schemes.proofs.Lists.{Each, Pairs, each_append, each_left, each_right, each_more, each_kept, kept_each, each_mapped, mapped_each, each_true, each_both, pairs_with, pairs_both}
use Rattle.sp_schemes.proofs.Together.{Fits, IsKnown, both_known, share_turned, together_turned, together_through, met_through}
use Rattle.sp_schemes.specs.Accesses.{PlainUse, share, is_grouped_with, are_one_group}
use Rattle.sp_schemes.specs.Groups.{banked_forms, go_together, flat, groups_from}
use Rattle.sp_words.specs.declared.kind.Kind.{Kind}

module _ (kind : Kind) where
  abbrev pub banked : PlainUse → List Affine
  banked u = banked_forms kind u.forms

  pub flat_is_joined : (us : List PlainUse) → flat kind us ≡ joined (map banked us)
  flat_is_joined [] = refl
  flat_is_joined (u ∷ us) = ap (λ t. banked u ++ t) (flat_is_joined us)

module _ (kind : Kind) (rank : ℕ) (some : 1 ≤ rank) where
  -- what is known of an access that is of one group with another
  abbrev pub Beside : PlainUse → PlainUse → Type 0
  Beside u c = (is_grouped_with u c ≡ true) × Fits kind rank c

  -- an access and those that go with it are rows
  row_of : (u : PlainUse) → IsKnown u → Fits kind rank u → length (banked kind u) ≡ rank
  row_of u known fits = ap (λ x. length (banked_forms kind x)) known.1 ∙ fits known.0 known.1

  beside_known : (u c : PlainUse) → go_together kind u c ≡ true → Beside u c → IsKnown u × IsKnown c
  beside_known u c e h = both_known u c (and_parts _ _ e).0 h.0

  rows_beside : (u : PlainUse) (rest : List PlainUse) → Each (Beside u) rest → AreRows rank (map (banked kind) (filter (go_together kind u) rest))
  rows_beside u rest h =
      each_mapped (banked kind) (λ (f : List Affine). length f ≡ rank) (filter (go_together kind u) rest)
      (each_kept (Beside u) (λ c. length (banked kind c) ≡ rank) (go_together kind u) (λ c e q. row_of c (beside_known u c e q).1 q.1) rest h)

  -- one whose forms aren't known is with none
  alone : (u : PlainUse) → u.forms ≡ None → (rest : List PlainUse) → Each (Beside u) rest → filter (go_together kind u) rest ≡ []
  alone u e [] h = refl
  alone u e (c ∷ rest) h = go (go_together kind u c) refl (alone u e rest h.1)
    where
      go : (b : Bool) → go_together kind u c ≡ b → filter (go_together kind u) rest ≡ [] → cond b (c ∷ filter (go_together kind u) rest) (filter (go_together kind u) rest) ≡ []
      go false q r = r
      go true q r = absurd (none_some (sym e ∙ (beside_known u c q h.0).0.1))
        where
          none_some : {f : List Affine} → None ≡ Some f → ⊥
          none_some q = cc

  beside : (u : PlainUse) (rest : List PlainUse) → list_all (is_grouped_with u) rest ≡ true → Each (Fits kind rank) rest → Each (Beside u) rest
  beside u rest g f = each_both (λ c. is_grouped_with u c ≡ true) (Fits kind rank) rest (each_true (is_grouped_with u) rest g) f

  known_or_not : (u : PlainUse) (P : Type 0) → (u.forms ≡ None → P) → (IsKnown u → P) → P
  known_or_not u P unknown known = go u.forms refl
    where
      go : (x : Option (List Affine)) → u.forms ≡ x → P
      go None e = unknown e
      go (Some f) e = known (f, e)

  -- the groups are such, for not too many accesses
  fewer : (p : PlainUse → Bool) (us : List PlainUse) → length (filter p us) ≤ length us
  fewer p [] = omega arith
  fewer p (u ∷ us) = go (p u) (fewer p us)
    where
      go : (t : Bool) → length (filter p us) ≤ length us → length (cond t (u ∷ filter p us) (filter p us)) ≤ length (u ∷ us)
      go true l = omega (arith, l)
      go false l = omega (arith, l)

  no_group : IsGroup rank []
  no_group = (omega arith, zero_below (0 / rank) refl)
    where
      zero_below : (k : ℕ) → 0 / rank ≡ k → 0 / rank < 2 ^ 32
      zero_below k e = omega arith

  one_group : (u : PlainUse) (rest : List PlainUse) → Each (Beside u) rest → Fits kind rank u → length rest < 2 ^ 30 → IsGroup rank (flat kind (u ∷ filter (go_together kind u) rest))
  one_group u rest near fits l = known_or_not u _ unknown known
    where
      unknown : u.forms ≡ None → IsGroup rank (flat kind (u ∷ filter (go_together kind u) rest))
      unknown e = subst (λ x. IsGroup rank (flat kind (u ∷ x))) (sym (alone u e rest near)) (subst (λ x. IsGroup rank (banked_forms kind x ++ [])) (sym e) no_group)

      known : IsKnown u → IsGroup rank (flat kind (u ∷ filter (go_together kind u) rest))
      known k =
          let few = fewer (go_together kind u) rest in
          let many : length (map (banked kind) (filter (go_together kind u) rest)) ≡ length (filter (go_together kind u) rest) = length-map (filter (go_together kind u) rest) (banked kind) in
          subst (IsGroup rank) (sym (flat_is_joined kind (u ∷ filter (go_together kind u) rest)))
          (is_group rank (map (banked kind) (u ∷ filter (go_together kind u) rest)) some (row_of u k fits, rows_beside u rest near) (omega (arith, few, many, l)))

  pub groups_are : (earlier us : List PlainUse) → are_one_group us ≡ true → Each (Fits kind rank) us → length us < 2 ^ 30 → Each (IsGroup rank) (groups_from kind earlier us)
  groups_are earlier [] g f l = tt
  groups_are earlier (u ∷ rest) g f l =
      let grouped = and_parts (list_all (is_grouped_with u) rest) (are_one_group rest) g in
      each_append (IsGroup rank) _ (groups_from kind (earlier ++ u ∷ []) rest)
      (head (list_any (go_together kind u) earlier) (one_group u rest (beside u rest grouped.0 f.1) f.0 (omega (arith, l))))
      (groups_are (earlier ++ u ∷ []) rest grouped.1 f.1 (omega (arith, l)))
    where
      head : (t : Bool) → IsGroup rank (flat kind (u ∷ filter (go_together kind u) rest)) → Each (IsGroup rank) (cond t [] (flat kind (u ∷ filter (go_together kind u) rest) ∷ []))
      head true s = tt
      head false s = (s, tt)

  module _ (b : Banking) (size : length b.alpha ≡ rank) where
    -- what a scheme is to keep apart
    abbrev pub Apart2 : PlainUse → PlainUse → Type 0
    Apart2 a c = go_together kind a c ≡ true → Two b (banked kind a) (banked kind c)

    wide : 1 ≤ length b.alpha
    wide = subst (λ n. 1 ≤ n) (sym size) some

    rows_by : (fs : List (List Affine)) → AreRows rank fs → AreRows (length b.alpha) fs
    rows_by fs h = subst (λ n. AreRows n fs) (sym size) h

    -- those that go with one known are apart from each other
    pairs_kept : (u : PlainUse) → IsKnown u → Fits kind rank u → (rest : List PlainUse) → Pairs Apart2 rest → Pairs (Two b) (map (banked kind) (filter (go_together kind u) rest))
    pairs_kept u known fits [] h = tt
    pairs_kept u known fits (a ∷ rest) h = go (go_together kind u a) refl (pairs_kept u known fits rest h.1)
      where
        go : (t : Bool) → go_together kind u a ≡ t → Pairs (Two b) (map (banked kind) (filter (go_together kind u) rest)) → Pairs (Two b) (map (banked kind) (cond t (a ∷ filter (go_together kind u) rest) (filter (go_together kind u) rest)))
        go true e r = (
          each_mapped (banked kind) (Two b (banked kind a)) (filter (go_together kind u) rest)
              (each_kept (Apart2 a) (λ c. Two b (banked kind a) (banked kind c)) (go_together kind u) (λ c q r. r (together_through kind rank some a u c known fits (together_turned kind u a e) q)) rest h.0),
          r,
        )
        go false e r = r

    kept_pairs : (u : PlainUse) (rest : List PlainUse) → Pairs (Two b) (map (banked kind) (filter (go_together kind u) rest)) → Pairs (λ a c. go_together kind u a ≡ true → go_together kind u c ≡ true → Two b (banked kind a) (banked kind c)) rest
    kept_pairs u [] h = tt
    kept_pairs u (a ∷ rest) h = go (go_together kind u a) refl h (λ k. kept_pairs u rest k)
      where
        go : (t : Bool) → go_together kind u a ≡ t → Pairs (Two b) (map (banked kind) (cond t (a ∷ filter (go_together kind u) rest) (filter (go_together kind u) rest)))
            → (Pairs (Two b) (map (banked kind) (filter (go_together kind u) rest)) → Pairs (λ a c. go_together kind u a ≡ true → go_together kind u c ≡ true → Two b (banked kind a) (banked kind c)) rest)
            → Each (λ c. go_together kind u a ≡ true → go_together kind u c ≡ true → Two b (banked kind a) (banked kind c)) rest × Pairs (λ a c. go_together kind u a ≡ true → go_together kind u c ≡ true → Two b (banked kind a) (banked kind c)) rest
        go true e h r = (
          kept_each (λ c. go_together kind u a ≡ true → go_together kind u c ≡ true → Two b (banked kind a) (banked kind c)) (λ c. Two b (banked kind a) (banked kind c)) (go_together kind u)
              (λ c q r s t. r) (λ c q s t. absurd (false≢true (sym q ∙ t))) rest
              (mapped_each (banked kind) (Two b (banked kind a)) (filter (go_together kind u) rest) h.0),
          r h.1,
        )
        go false e h r = (
          each_any rest (λ c s t. absurd (false≢true (sym e ∙ s))),
          r h,
        )
          where
            each_any : (xs : List PlainUse) → ((c : PlainUse) → go_together kind u a ≡ true → go_together kind u c ≡ true → Two b (banked kind a) (banked kind c)) → Each (λ c. go_together kind u a ≡ true → go_together kind u c ≡ true → Two b (banked kind a) (banked kind c)) xs
            each_any [] f = tt
            each_any (x ∷ xs) f = (f x, each_any xs f)

    -- the group of one access
    one_apart : (u : PlainUse) (rest : List PlainUse) → Each (Beside u) rest → Fits kind rank u → Each (Apart2 u) rest → Pairs Apart2 rest → Separates b (flat kind (u ∷ filter (go_together kind u) rest))
    one_apart u rest near fits first others = known_or_not u _ unknown known
      where
        unknown : u.forms ≡ None → Separates b (flat kind (u ∷ filter (go_together kind u) rest))
        unknown e = subst (λ x. Separates b (flat kind (u ∷ x))) (sym (alone u e rest near)) (subst (λ x. Separates b (banked_forms kind x ++ [])) (sym e) (separates_none b))

        known : IsKnown u → Separates b (flat kind (u ∷ filter (go_together kind u) rest))
        known k =
            subst (Separates b) (sym (flat_is_joined kind (u ∷ filter (go_together kind u) rest)))
            (separates_joined b (map (banked kind) (u ∷ filter (go_together kind u) rest)) wide
            (rows_by (map (banked kind) (u ∷ filter (go_together kind u) rest)) (row_of u k fits, rows_beside u rest near)) (
              each_mapped (banked kind) (Two b (banked kind u)) (filter (go_together kind u) rest) (each_kept (Apart2 u) (λ c. Two b (banked kind u) (banked kind c)) (go_together kind u) (λ c q r. r q) rest first),
              pairs_kept u k fits rest others,
            ))

    apart_one : (u : PlainUse) (rest : List PlainUse) → Each (Beside u) rest → Fits kind rank u → IsKnown u → Separates b (flat kind (u ∷ filter (go_together kind u) rest)) → Pairs (Two b) (map (banked kind) (u ∷ filter (go_together kind u) rest))
    apart_one u rest near fits k s =
        joined_separates b (map (banked kind) (u ∷ filter (go_together kind u) rest)) wide
        (rows_by (map (banked kind) (u ∷ filter (go_together kind u) rest)) (row_of u k fits, rows_beside u rest near))
        (subst (Separates b) (flat_is_joined kind (u ∷ filter (go_together kind u) rest)) s)

    pub groups_apart : (earlier us : List PlainUse) → are_one_group us ≡ true → Each (Fits kind rank) us → Pairs Apart2 us → Each (Separates b) (groups_from kind earlier us)
    groups_apart earlier [] g f h = tt
    groups_apart earlier (u ∷ rest) g f h =
        let grouped = and_parts (list_all (is_grouped_with u) rest) (are_one_group rest) g in
        each_append (Separates b) _ (groups_from kind (earlier ++ u ∷ []) rest)
        (head (list_any (go_together kind u) earlier) (one_apart u rest (beside u rest grouped.0 f.1) f.0 h.0 h.1))
        (groups_apart (earlier ++ u ∷ []) rest grouped.1 f.1 h.1)
      where
        head : (t : Bool) → Separates b (flat kind (u ∷ filter (go_together kind u) rest)) → Each (Separates b) (cond t [] (flat kind (u ∷ filter (go_together kind u) rest) ∷ []))
        head true s = tt
        head false s = (s, tt)

    -- whether an access goes with one of those before it, or with this one
    met_or_with : (a u : PlainUse) (earlier : List PlainUse) → list_any (go_together kind a) (earlier ++ u ∷ []) ≡ true → (P : Type 0) → (list_any (go_together kind a) earlier ≡ true → P) → (go_together kind a u ≡ true → P) → P
    met_or_with a u [] m P old new = new (only (go_together kind a u) m)
      where
        only : (t : Bool) → (t || false) ≡ true → t ≡ true
        only true e = refl
        only false e = e
    met_or_with a u (e ∷ earlier) m P old new = go (go_together kind a e) refl m (λ k. met_or_with a u earlier k P (λ n. old (or_right (go_together kind a e) (list_any (go_together kind a) earlier) n)) new)
      where
        go : (t : Bool) → go_together kind a e ≡ t → (t || list_any (go_together kind a) (earlier ++ u ∷ [])) ≡ true → (list_any (go_together kind a) (earlier ++ u ∷ []) ≡ true → P) → P
        go true q m rest = old (or_left (go_together kind a e) (list_any (go_together kind a) earlier) q)
        go false q m rest = rest m

    -- one that goes with another one of the list after it is known
    known_with : (a u : PlainUse) → go_together kind a u ≡ true → Beside u a → IsKnown u × IsKnown a
    known_with a u e near = beside_known u a (together_turned kind a u e) near

    abbrev pub MetApart : (earlier : List PlainUse) → PlainUse → PlainUse → Type 0
    MetApart earlier a c = list_any (go_together kind a) earlier ≡ true → Apart2 a c

    pub apart_groups : (earlier us : List PlainUse) → are_one_group us ≡ true → Each (Fits kind rank) us → Pairs (MetApart earlier) us → Each (Separates b) (groups_from kind earlier us) → Pairs Apart2 us
    apart_groups earlier [] g f h s = tt
    apart_groups earlier (u ∷ rest) g f h s =
        go (λ k t. apart_groups (earlier ++ u ∷ []) rest (and_parts (list_all (is_grouped_with u) rest) (are_one_group rest) g).1 f.1 k t) (list_any (go_together kind u) earlier) refl s
      where
        Rest : Type 0
        Rest = Pairs (MetApart (earlier ++ u ∷ [])) rest → Each (Separates b) (groups_from kind (earlier ++ u ∷ []) rest) → Pairs Apart2 rest

        grouped : (list_all (is_grouped_with u) rest ≡ true) × (are_one_group rest ≡ true)
        grouped = and_parts (list_all (is_grouped_with u) rest) (are_one_group rest) g

        near : Each (Beside u) rest
        near = beside u rest grouped.0 f.1

        by_group : Rest → IsKnown u → Separates b (flat kind (u ∷ filter (go_together kind u) rest)) → Each (Separates b) (groups_from kind (earlier ++ u ∷ []) rest) → Each (Apart2 u) rest × Pairs Apart2 rest
        by_group others k here s =
            let pairs = apart_one u rest near f.0 k here in (
              kept_each (Apart2 u) (λ c. Two b (banked kind u) (banked kind c)) (go_together kind u) (λ c q r t. r) (λ c q t. absurd (false≢true (sym q ∙ t))) rest
                  (mapped_each (banked kind) (Two b (banked kind u)) (filter (go_together kind u) rest) pairs.0),
              others
                  (pairs_with (Beside u)
                  (λ a c. MetApart earlier a c × (go_together kind u a ≡ true → go_together kind u c ≡ true → Two b (banked kind a) (banked kind c))) (MetApart (earlier ++ u ∷ []))
                  (λ a c n q m. met_or_with a u earlier m (Apart2 a c) q.0 (λ e t.
                  q.1 (together_turned kind a u e) (together_through kind rank some u a c (known_with a u e n).1 n.1 (together_turned kind a u e) t)))
                  rest near (pairs_both (MetApart earlier) _ rest h.1 (kept_pairs u rest pairs.1)))
                  s,
            )

        unknown : Rest → u.forms ≡ None → Each (Separates b) (groups_from kind (earlier ++ u ∷ []) rest) → Each (Apart2 u) rest × Pairs Apart2 rest
        unknown others e s = (
          each_more (Beside u) (Apart2 u) (λ c n t. absurd (no_forms (beside_known u c t n).0)) rest near,
          others
              (pairs_with (Beside u) (MetApart earlier) (MetApart (earlier ++ u ∷ []))
              (λ a c n q m. met_or_with a u earlier m (Apart2 a c) q (λ t. absurd (no_forms (known_with a u t n).0))) rest near h.1)
              s,
        )
          where
            no_forms : IsKnown u → ⊥
            no_forms k = let q : None ≡ Some k.0 = sym e ∙ k.1 in cc

        go : Rest → (t : Bool) → list_any (go_together kind u) earlier ≡ t
            → Each (Separates b) (cond t [] (flat kind (u ∷ filter (go_together kind u) rest) ∷ []) ++ groups_from kind (earlier ++ u ∷ []) rest) → Each (Apart2 u) rest × Pairs Apart2 rest
        go others true e s = (
          each_more (MetApart earlier u) (Apart2 u) (λ c q. q e) rest h.0,
          others
              (pairs_with (Beside u) (MetApart earlier) (MetApart (earlier ++ u ∷ []))
              (λ a c n q m. met_or_with a u earlier m (Apart2 a c) q (λ t. q (met_through kind rank some a u (known_with a u t n).0 f.0 t earlier e))) rest near h.1)
              s,
        )
        go others false e s = known_or_not u _ (λ q. unknown others q s.1) (λ k. by_group others k s.0 s.1)
