-- Accesses by one port and of one row: this is an equivalence, where forms are known.
use Rattle.std.proofs.Common.{◌≡◌, ◌≤◌, ℕ, ℤ, ◌⊎◌, inl, inr, Bool, true, false, List, [], ◌∷◌, Option, Some, None, length, arith, refl, sym, ap, ◌∙◌, subst}
use Rattle.std.proofs.lemmas.Bool.{and_parts, and_from, or_left, or_right, or_parts, false≢true, true≢false}
use Rattle.std.proofs.lemmas.Bool.Decides.{Decides-int_eq}
use Rattle.std.specs.List.{list_any, list_all}
use Rattle.std.specs.Ordering.{int_eq}
use Rattle.std.specs.Prelude.{◌&&◌, ◌||◌, not, if◌then◌else◌}
use Rattle.sp_affine.specs.Affine.{Affine}
use Rattle.sp_plan.specs.Groups.{is_one_group}
use Rattle.sp_schemes.specs.Accesses.{PlainUse, share, is_grouped_with}
use Rattle.sp_schemes.specs.Groups.{is_one_row, banked_forms, go_together}
use Rattle.sp_words.specs.declared.kind.Kind.{Kind}
use Rattle.sp_words.specs.declared.kind.Kind.TheVariants.{Reg, Sram, Fifo, LineBuf, Dram, ArgIn, ArgOut}

-- by one port
shared : (a u c : Bool) → (if a then u else not u) ≡ true → (if u then c else not c) ≡ true → (if a then c else not c) ≡ true
shared true true c p q = q
shared true false c p q = absurd (false≢true p)
shared false true c p q = absurd (false≢true p)
shared false false c p q = q

pub share_turned : (a c : Bool) → (if a then c else not c) ≡ true → (if c then a else not a) ≡ true
share_turned true true p = refl
share_turned true false p = absurd (false≢true p)
share_turned false true p = absurd (false≢true p)
share_turned false false p = refl

-- only line buffers have rows
pub rows_or_none : (kind : Kind) → (kind ≡ LineBuf) ⊎ (((f g : Option (List Affine)) → is_one_row kind f g ≡ true) × ((f : List Affine) → banked_forms kind (Some f) ≡ f))
rows_or_none Reg = inr (λ f g. refl, λ f. refl)
rows_or_none Sram = inr (λ f g. refl, λ f. refl)
rows_or_none Fifo = inr (λ f g. refl, λ f. refl)
rows_or_none LineBuf = inl refl
rows_or_none Dram = inr (λ f g. refl, λ f. refl)
rows_or_none ArgIn = inr (λ f g. refl, λ f. refl)
rows_or_none ArgOut = inr (λ f g. refl, λ f. refl)

int_turned : (x y : ℤ) → int_eq x y ≡ true → int_eq y x ≡ true
int_turned x y h = (Decides-int_eq y x).1 (sym ((Decides-int_eq x y).0 h))

int_through : (x y z : ℤ) → int_eq x y ≡ true → int_eq y z ≡ true → int_eq x z ≡ true
int_through x y z h k = (Decides-int_eq x z).1 ((Decides-int_eq x y).0 h ∙ (Decides-int_eq y z).0 k)

row_turned : (f g : Option (List Affine)) → is_one_row LineBuf f g ≡ true → is_one_row LineBuf g f ≡ true
row_turned None g h = none_second g
  where
    none_second : (g : Option (List Affine)) → is_one_row LineBuf g None ≡ true
    none_second None = refl
    none_second (Some []) = refl
    none_second (Some (r ∷ g)) = refl
row_turned (Some []) None h = refl
row_turned (Some []) (Some []) h = refl
row_turned (Some []) (Some (s ∷ g)) h = refl
row_turned (Some (r ∷ f)) None h = refl
row_turned (Some (r ∷ f)) (Some []) h = refl
row_turned (Some (r ∷ f)) (Some (s ∷ g)) h = int_turned r.constant s.constant h

row_through : (f : Option (List Affine)) (r : Affine) (u : List Affine) (g : Option (List Affine)) → is_one_row LineBuf f (Some (r ∷ u)) ≡ true → is_one_row LineBuf (Some (r ∷ u)) g ≡ true → is_one_row LineBuf f g ≡ true
row_through None r u g h k = refl
row_through (Some []) r u g h k = refl
row_through (Some (a ∷ f)) r u None h k = refl
row_through (Some (a ∷ f)) r u (Some []) h k = refl
row_through (Some (a ∷ f)) r u (Some (c ∷ g)) h k = int_through a.constant r.constant c.constant h k

-- an access whose forms are known has so many that are banked
abbrev pub Fits : Kind → (rank : ℕ) → PlainUse → Type 0
Fits kind rank u = (f : List Affine) → u.forms ≡ Some f → length (banked_forms kind (Some f)) ≡ rank

abbrev pub IsKnown : PlainUse → Type 0
IsKnown u = (f : List Affine) × (u.forms ≡ Some f)

-- those of one group are known
pub both_known : (a c : PlainUse) → share a c ≡ true → is_grouped_with a c ≡ true → IsKnown a × IsKnown c
both_known a c s g = go a.forms c.forms refl refl (subst (λ b. (not b || is_one_group a.forms c.forms) ≡ true) s g)
  where
    go : (f g : Option (List Affine)) → a.forms ≡ f → c.forms ≡ g → is_one_group a.forms c.forms ≡ true → IsKnown a × IsKnown c
    go (Some f) (Some g) p q h = ((f, p), (g, q))
    go None g p q h = absurd (false≢true (sym (ap (λ x. is_one_group x c.forms) p) ∙ h))
    go (Some f) None p q h = absurd (false≢true (sym (known_none a.forms) ∙ sym (ap (λ x. is_one_group a.forms x) q) ∙ h))
      where
        known_none : (x : Option (List Affine)) → is_one_group x None ≡ false
        known_none None = refl
        known_none (Some y) = refl

module _ (kind : Kind) where
  pub together_turned : (a c : PlainUse) → go_together kind a c ≡ true → go_together kind c a ≡ true
  together_turned a c h =
      let parts = and_parts (share a c) (is_one_row kind a.forms c.forms) h in
      and_from (share c a) (is_one_row kind c.forms a.forms) (share_turned a.reads c.reads parts.0) (by_kind (rows_or_none kind) parts.1)
    where
      by_kind : (kind ≡ LineBuf) ⊎ (((f g : Option (List Affine)) → is_one_row kind f g ≡ true) × ((f : List Affine) → banked_forms kind (Some f) ≡ f)) → is_one_row kind a.forms c.forms ≡ true → is_one_row kind c.forms a.forms ≡ true
      by_kind (inl e) r = subst (λ k. is_one_row k c.forms a.forms ≡ true) (sym e) (row_turned a.forms c.forms (subst (λ k. is_one_row k a.forms c.forms ≡ true) e r))
      by_kind (inr none) r = none.0 c.forms a.forms

  -- through an access that is known
  pub together_through : (rank : ℕ) → 1 ≤ rank → (a u c : PlainUse) → IsKnown u → Fits kind rank u → go_together kind a u ≡ true → go_together kind u c ≡ true → go_together kind a c ≡ true
  together_through rank some a u c known fits h k =
      let p = and_parts (share a u) (is_one_row kind a.forms u.forms) h in
      let q = and_parts (share u c) (is_one_row kind u.forms c.forms) k in
      and_from (share a c) (is_one_row kind a.forms c.forms) (shared a.reads u.reads c.reads p.0 q.0) (by_kind (rows_or_none kind) p.1 q.1)
    where
      by_kind : (kind ≡ LineBuf) ⊎ (((f g : Option (List Affine)) → is_one_row kind f g ≡ true) × ((f : List Affine) → banked_forms kind (Some f) ≡ f)) → is_one_row kind a.forms u.forms ≡ true → is_one_row kind u.forms c.forms ≡ true → is_one_row kind a.forms c.forms ≡ true
      by_kind (inr none) r s = none.0 a.forms c.forms
      by_kind (inl e) r s =
          subst (λ k. is_one_row k a.forms c.forms ≡ true) (sym e)
          (in_rows known.0 (let q : length (banked_forms LineBuf (Some known.0)) ≡ rank = subst (λ k. length (banked_forms k (Some known.0)) ≡ rank) e (fits known.0 known.1) in q)
          (subst (λ x. is_one_row LineBuf a.forms x ≡ true) known.1 (subst (λ k. is_one_row k a.forms u.forms ≡ true) e r))
          (subst (λ x. is_one_row LineBuf x c.forms ≡ true) known.1 (subst (λ k. is_one_row k u.forms c.forms ≡ true) e s)))
        where
          in_rows : (f : List Affine) → length (banked_forms LineBuf (Some f)) ≡ rank → is_one_row LineBuf a.forms (Some f) ≡ true → is_one_row LineBuf (Some f) c.forms ≡ true → is_one_row LineBuf a.forms c.forms ≡ true
          in_rows [] l r s = absurd (omega (arith, l, some))
          in_rows (x ∷ f) l r s = row_through a.forms x f c.forms r s

  -- what goes with one that goes with one of a list, does so itself
  pub met_through : (rank : ℕ) → 1 ≤ rank → (a u : PlainUse) → IsKnown u → Fits kind rank u → go_together kind a u ≡ true → (earlier : List PlainUse) → list_any (go_together kind u) earlier ≡ true → list_any (go_together kind a) earlier ≡ true
  met_through rank some a u known fits h [] m = absurd (false≢true m)
  met_through rank some a u known fits h (e ∷ earlier) m = go (go_together kind u e) refl m (λ k. met_through rank some a u known fits h earlier k)
    where
      go : (b : Bool) → go_together kind u e ≡ b → (b || list_any (go_together kind u) earlier) ≡ true → (list_any (go_together kind u) earlier ≡ true → list_any (go_together kind a) earlier ≡ true) → (go_together kind a e || list_any (go_together kind a) earlier) ≡ true
      go true q m rest = or_left (go_together kind a e) (list_any (go_together kind a) earlier) (together_through rank some a u e known fits h q)
      go false q m rest = or_right (go_together kind a e) (list_any (go_together kind a) earlier) (rest m)
