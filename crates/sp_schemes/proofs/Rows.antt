-- Two accesses by one port are kept apart exactly where those of one row are, by the forms that are banked.
use Rattle.std.proofs.Common.{◌≡◌, ℕ, ◌≤◌, ◌⊎◌, inl, inr, Bool, true, false, List, [], ◌∷◌, length, Option, Some, None, arith, refl, sym, ap, ◌∙◌, subst}
use Rattle.std.proofs.lemmas.Bool.{and_parts, and_from}
use Rattle.std.proofs.lemmas.Bool.Decides.{Decides-int_eq}
use Rattle.std.specs.Ordering.{int_eq}
use Rattle.sp_affine.specs.Affine.{Affine}
use Rattle.sp_bank.specs.Banking.{Banking}
use Rattle.sp_plan.specs.Groups.{Apart, AreKeptApart}
use Rattle.sp_schemes.proofs.Flat.{Two}
use Rattle.sp_schemes.proofs.Together.{Fits}
use Rattle.sp_schemes.specs.Accesses.{PlainUse, share}
use Rattle.sp_schemes.specs.Groups.{is_one_row, banked_forms, go_together}
use Rattle.sp_words.specs.declared.kind.Kind.{Kind}
use Rattle.sp_words.specs.declared.kind.Kind.TheVariants.{Reg, Sram, Fifo, LineBuf, Dram, ArgIn, ArgOut}

-- only line buffers have rows
record HasNoRows (kind : Kind) : Type 0 where
  to : (b : Banking) (f g : List Affine) → Apart kind b f g → Two b (banked_forms kind (Some f)) (banked_forms kind (Some g))
  from : (b : Banking) (f g : List Affine) → Two b (banked_forms kind (Some f)) (banked_forms kind (Some g)) → Apart kind b f g
  row : (f g : Option (List Affine)) → is_one_row kind f g ≡ true

no_rows : (kind : Kind) → (kind ≡ LineBuf) ⊎ HasNoRows kind
no_rows Reg = inr (record { to = λ b f g h. h; from = λ b f g h. h; row = λ f g. refl })
no_rows Sram = inr (record { to = λ b f g h. h; from = λ b f g h. h; row = λ f g. refl })
no_rows Fifo = inr (record { to = λ b f g h. h; from = λ b f g h. h; row = λ f g. refl })
no_rows LineBuf = inl refl
no_rows Dram = inr (record { to = λ b f g h. h; from = λ b f g h. h; row = λ f g. refl })
no_rows ArgIn = inr (record { to = λ b f g h. h; from = λ b f g h. h; row = λ f g. refl })
no_rows ArgOut = inr (record { to = λ b f g h. h; from = λ b f g h. h; row = λ f g. refl })

module _ (rank : ℕ) (some : 1 ≤ rank) (b : Banking) where
  line_to : (f g : List Affine) → length (banked_forms LineBuf (Some f)) ≡ rank → length (banked_forms LineBuf (Some g)) ≡ rank → Apart LineBuf b f g → is_one_row LineBuf (Some f) (Some g) ≡ true → Two b (banked_forms LineBuf (Some f)) (banked_forms LineBuf (Some g))
  line_to [] g p q h r = absurd (omega (arith, p, some))
  line_to (x ∷ f) [] p q h r = absurd (omega (arith, q, some))
  line_to (x ∷ f) (y ∷ g) p q h r = h ((Decides-int_eq x.constant y.constant).0 r)

  line_from : (f g : List Affine) → length (banked_forms LineBuf (Some f)) ≡ rank → length (banked_forms LineBuf (Some g)) ≡ rank → (is_one_row LineBuf (Some f) (Some g) ≡ true → Two b (banked_forms LineBuf (Some f)) (banked_forms LineBuf (Some g))) → Apart LineBuf b f g
  line_from [] g p q h = absurd (omega (arith, p, some))
  line_from (x ∷ f) [] p q h = absurd (omega (arith, q, some))
  line_from (x ∷ f) (y ∷ g) p q h = λ e. h ((Decides-int_eq x.constant y.constant).1 e)

  apart_to : (kind : Kind) (f g : List Affine) → length (banked_forms kind (Some f)) ≡ rank → length (banked_forms kind (Some g)) ≡ rank → Apart kind b f g → is_one_row kind (Some f) (Some g) ≡ true → Two b (banked_forms kind (Some f)) (banked_forms kind (Some g))
  apart_to kind f g p q h r = go (no_rows kind)
    where
      go : (kind ≡ LineBuf) ⊎ HasNoRows kind → Two b (banked_forms kind (Some f)) (banked_forms kind (Some g))
      go (inr n) = n.to b f g h
      go (inl e) = subst (λ k. length (banked_forms k (Some f)) ≡ rank → length (banked_forms k (Some g)) ≡ rank → Apart k b f g → is_one_row k (Some f) (Some g) ≡ true → Two b (banked_forms k (Some f)) (banked_forms k (Some g))) (sym e) (line_to f g) p q h r

  apart_from : (kind : Kind) (f g : List Affine) → length (banked_forms kind (Some f)) ≡ rank → length (banked_forms kind (Some g)) ≡ rank → (is_one_row kind (Some f) (Some g) ≡ true → Two b (banked_forms kind (Some f)) (banked_forms kind (Some g))) → Apart kind b f g
  apart_from kind f g p q h = go (no_rows kind)
    where
      go : (kind ≡ LineBuf) ⊎ HasNoRows kind → Apart kind b f g
      go (inr n) = n.from b f g (h (n.row (Some f) (Some g)))
      go (inl e) = subst (λ k. length (banked_forms k (Some f)) ≡ rank → length (banked_forms k (Some g)) ≡ rank → (is_one_row k (Some f) (Some g) ≡ true → Two b (banked_forms k (Some f)) (banked_forms k (Some g))) → Apart k b f g) (sym e) (line_from f g) p q h

  module _ (kind : Kind) where
    pub kept_to_apart : (a c : PlainUse) → Fits kind rank a → Fits kind rank c → (f g : List Affine) → a.forms ≡ Some f → c.forms ≡ Some g → (share a c ≡ true → AreKeptApart kind (Some b) a.forms c.forms) → go_together kind a c ≡ true → Two b (banked_forms kind a.forms) (banked_forms kind c.forms)
    kept_to_apart a c fa fc f g p q h t =
        let parts = and_parts (share a c) (is_one_row kind a.forms c.forms) t in
        let k : AreKeptApart kind (Some b) (Some f) (Some g) = subst (λ x. AreKeptApart kind (Some b) x (Some g)) p (subst (AreKeptApart kind (Some b) a.forms) q (h parts.0)) in
        let r : is_one_row kind (Some f) (Some g) ≡ true = subst (λ x. is_one_row kind x (Some g) ≡ true) p (subst (λ x. is_one_row kind a.forms x ≡ true) q parts.1) in
        subst (λ x. Two b (banked_forms kind x) (banked_forms kind c.forms)) (sym p) (subst (λ x. Two b (banked_forms kind (Some f)) (banked_forms kind x)) (sym q) (apart_to kind f g (fa f p) (fc g q) k r))

    pub apart_to_kept : (a c : PlainUse) → Fits kind rank a → Fits kind rank c → (go_together kind a c ≡ true → Two b (banked_forms kind a.forms) (banked_forms kind c.forms)) → share a c ≡ true → AreKeptApart kind (Some b) a.forms c.forms
    apart_to_kept a c fa fc h s = go a.forms c.forms refl refl
      where
        go : (x y : Option (List Affine)) → a.forms ≡ x → c.forms ≡ y → AreKeptApart kind (Some b) a.forms c.forms
        go None y p q = subst (λ z. AreKeptApart kind (Some b) z c.forms) (sym p) tt
        go (Some f) None p q = subst (λ z. AreKeptApart kind (Some b) z c.forms) (sym p) (subst (AreKeptApart kind (Some b) (Some f)) (sym q) tt)
        go (Some f) (Some g) p q =
            subst (λ z. AreKeptApart kind (Some b) z c.forms) (sym p) (subst (AreKeptApart kind (Some b) (Some f)) (sym q) (apart_from kind f g (fa f p) (fc g q) (λ r.
            let t : go_together kind a c ≡ true = and_from (share a c) (is_one_row kind a.forms c.forms) s (subst (λ z. is_one_row kind z c.forms ≡ true) (sym p) (subst (λ z. is_one_row kind (Some f) z ≡ true) (sym q) r)) in
            subst (λ z. Two b (banked_forms kind z) (banked_forms kind (Some g))) p (subst (λ z. Two b (banked_forms kind a.forms) (banked_forms kind z)) q (h t)))))
