-- Which banks and DRAMs have a line among those so far.
use Rattle.std.proofs.Common.{◌≡◌, ◌≢◌, ℕ, None, Bool, true, false, cond, List, [], ◌∷◌, ◌++◌, IsTrue, Contains, ◌⊎◌, inl, inr, get_or, lit<, arith, refl, sym, ◌∙◌, ap, subst}
use Rattle.std.specs.Ordering.{nat_cmp}
use Rattle.std.specs.BTreeMap.{is_at}
use Rattle.std.specs.BTreeSet.{BTreeSet, UpdatesBy, contains}
use Rattle.std.specs.Cmp.{Equal-is}
use Rattle.std.proofs.lemmas.Map.Lookups.{exact_unsigned}
use Rattle.std.proofs.lemmas.List.Elements.{Contains-append_left, Contains-append_right, Contains-append_cases}
use Rattle.sp_words.specs.declared.types.Ty.{Ty}
use Rattle.sp_netlist.specs.declared.cell.Cell.{Cell}
use Rattle.sp_netlist.specs.declared.cell.Cell.TheVariants.{Bank, Dram}
use Rattle.sp_netlist.specs.Cells.{plain_cell, bank_cell, dram_cell}
use Rattle.sp_listing.specs.declared.kind.Kind.TheVariants as kind
use Rattle.sp_listing.specs.declared.declared_lines.DeclaredLines.{DeclaredLines}
use Rattle.sp_listing.specs.Text.{cell_text}
use Rattle.sp_listing.specs.Reading.{IsFormed, HasBank, HasDram}
use Rattle.sp_listing.specs.Readers.{kind_in, ReadsLine}
use Rattle.sp_listing.specs.Standing.{AreDeclared}
use Rattle.sp_listing.proofs.LineLemmas.{same_text}

pub only : (line other : List ℕ) → Contains (line ∷ []) other → other ≡ line
only line other (k, within, at) =
    let first : k ≡ 0 = omega arith in
    let here : get_or (line ∷ []) 0 other ≡ other = subst (λ i. get_or (line ∷ []) i other ≡ other) first at in
    sym here

alone : (line : List ℕ) → Contains (line ∷ []) line
alone line = (0, lit< tt, refl)

-- a line is among lines with one more where it is among them or is that one
one_more : (lines : List (List ℕ)) (line other : List ℕ) → Contains (lines ++ line ∷ []) other → Contains lines other ⊎ (other ≡ line)
one_more lines line other h = elim (Contains-append_cases lines (line ∷ []) other h) [
  | inl before ↦ inl before
  | inr last ↦ inr (only line other last)
]

-- what has a line among lines with one more
bank_more : (lines : List (List ℕ)) (line : List ℕ) (bank : ℕ) → HasBank (lines ++ line ∷ []) bank
    → HasBank lines bank ⊎ ((width : ℕ) × (len : ℕ) × IsFormed (bank_cell bank width len) × (cell_text (bank_cell bank width len) ≡ line))
bank_more lines line bank (width, len, formed, within) = elim (one_more lines line (cell_text (bank_cell bank width len)) within) [
  | inl before ↦ inl (width, len, formed, before)
  | inr last ↦ inr (width, len, formed, last)
]

dram_more : (lines : List (List ℕ)) (line : List ℕ) (dram : ℕ) → HasDram (lines ++ line ∷ []) dram
    → HasDram lines dram ⊎ ((name : List ℕ) × (ty : Ty) × (dims : List ℕ) × IsFormed (dram_cell dram name ty dims) × (cell_text (dram_cell dram name ty dims) ≡ line))
dram_more lines line dram (name, ty, dims, formed, within) = elim (one_more lines line (cell_text (dram_cell dram name ty dims)) within) [
  | inl before ↦ inl (name, ty, dims, formed, before)
  | inr last ↦ inr (name, ty, dims, formed, last)
]

bank_kept : (lines more : List (List ℕ)) (bank : ℕ) → HasBank lines bank → HasBank (lines ++ more) bank
bank_kept lines more bank (width, len, formed, within) = (width, len, formed, Contains-append_left lines more (cell_text (bank_cell bank width len)) within)

dram_kept : (lines more : List (List ℕ)) (dram : ℕ) → HasDram lines dram → HasDram (lines ++ more) dram
dram_kept lines more dram (name, ty, dims, formed, within) = (name, ty, dims, formed, Contains-append_left lines more (cell_text (dram_cell dram name ty dims)) within)

-- a number in a set after an insert
more_has : (set new : BTreeSet ℕ) (k q : ℕ) → UpdatesBy nat_cmp (nat_cmp k) set new true → IsTrue (contains nat_cmp new q) → (k ≡ q) ⊎ IsTrue (contains nat_cmp set q)
more_has set new k q u has =
    let P : Bool → Type 0 = λ v. is_at (nat_cmp k) q ≡ v → (k ≡ q) ⊎ IsTrue (contains nat_cmp set q) in
    let cases : (v : Bool) → P v = λ v. elim v as P [
      | true ↦ λ at. inl (exact_unsigned k q ((Equal-is (nat_cmp k q)).0 at))
      | false ↦ λ apart. inr (sym (u.2 q apart) ∙ has)
    ] in
    cases (is_at (nat_cmp k) q) refl

kept_has : (set new : BTreeSet ℕ) (k q : ℕ) → UpdatesBy nat_cmp (nat_cmp k) set new true → IsTrue (contains nat_cmp set q) → IsTrue (contains nat_cmp new q)
kept_has set new k q u has =
    let P : Bool → Type 0 = λ v. is_at (nat_cmp k) q ≡ v → IsTrue (contains nat_cmp new q) in
    let cases : (v : Bool) → P v = λ v. elim v as P [
      | true ↦ λ at. u.0 q ∙ ap (λ b. cond b true (contains nat_cmp set q)) at
      | false ↦ λ apart. u.2 q apart ∙ has
    ] in
    cases (is_at (nat_cmp k) q) refl

-- a line that is no bank's and no DRAM's declares nothing
pub declared_other : (lines : List (List ℕ)) (line : List ℕ) (d : DeclaredLines) → ((bank width len : ℕ) → IsFormed (bank_cell bank width len) → cell_text (bank_cell bank width len) ≢ line)
    → ((dram : ℕ) (name : List ℕ) (ty : Ty) (dims : List ℕ) → IsFormed (dram_cell dram name ty dims) → cell_text (dram_cell dram name ty dims) ≢ line)
    → AreDeclared lines d → AreDeclared (lines ++ line ∷ []) d
declared_other lines line d no_bank no_dram k = record {
  banks = λ q. (
    (λ yes. bank_kept lines (line ∷ []) q ((k.banks q).0 yes)),
    λ h. elim (bank_more lines line q h) [ inl before ↦ (k.banks q).1 before | inr last ↦ absurd (no_bank q last.0 last.1 last.2 last.3) ],
  );
  drams = λ q. (
    (λ yes. dram_kept lines (line ∷ []) q ((k.drams q).0 yes)),
    λ h. elim (dram_more lines line q h) [ inl before ↦ (k.drams q).1 before | inr last ↦ absurd (no_dram q last.0 last.1 last.2 last.3 last.4) ],
  );
}

pub declared_bank : (lines : List (List ℕ)) (bank width len : ℕ) (old new : DeclaredLines) → IsFormed (bank_cell bank width len) → UpdatesBy nat_cmp (nat_cmp bank) old.banks new.banks true → new.drams ≡ old.drams
    → AreDeclared lines old → AreDeclared (lines ++ cell_text (bank_cell bank width len) ∷ []) new
declared_bank lines bank width len old new formed u others k =
    let line : List ℕ = cell_text (bank_cell bank width len) in
    record {
      banks = λ q. (
        (λ yes. elim (more_has old.banks new.banks bank q u yes) [
          | inl e ↦ subst (λ b. HasBank (lines ++ line ∷ []) b) e (width, len, formed, Contains-append_right lines (line ∷ []) line (alone line))
          | inr before ↦ bank_kept lines (line ∷ []) q ((k.banks q).0 before)
        ]),
        λ h. elim (bank_more lines line q h) [
          | inl before ↦ kept_has old.banks new.banks bank q u ((k.banks q).1 before)
          | inr last ↦
              let same : bank_cell q last.0 last.1 ≡ bank_cell bank width len = same_text (bank_cell q last.0 last.1) (bank_cell bank width len) last.2 formed last.3 in
              let e : bank ≡ q = cc in
              subst (λ b. IsTrue (contains nat_cmp new.banks b)) e u.1
        ],
      );
      drams = λ q. (
        (λ yes. dram_kept lines (line ∷ []) q ((k.drams q).0 (subst (λ s. IsTrue (contains nat_cmp s q)) others yes))),
        λ h. elim (dram_more lines line q h) [
          | inl before ↦ subst (λ s. IsTrue (contains nat_cmp s q)) (sym others) ((k.drams q).1 before)
          | inr last ↦
              let same : dram_cell q last.0 last.1 last.2 ≡ bank_cell bank width len = same_text (dram_cell q last.0 last.1 last.2) (bank_cell bank width len) last.3 formed last.4 in
              absurd cc
        ],
      );
    }

pub declared_dram : (lines : List (List ℕ)) (dram : ℕ) (name : List ℕ) (ty : Ty) (dims : List ℕ) (old new : DeclaredLines) → IsFormed (dram_cell dram name ty dims)
    → UpdatesBy nat_cmp (nat_cmp dram) old.drams new.drams true → new.banks ≡ old.banks → AreDeclared lines old → AreDeclared (lines ++ cell_text (dram_cell dram name ty dims) ∷ []) new
declared_dram lines dram name ty dims old new formed u others k =
    let line : List ℕ = cell_text (dram_cell dram name ty dims) in
    record {
      banks = λ q. (
        (λ yes. bank_kept lines (line ∷ []) q ((k.banks q).0 (subst (λ s. IsTrue (contains nat_cmp s q)) others yes))),
        λ h. elim (bank_more lines line q h) [
          | inl before ↦ subst (λ s. IsTrue (contains nat_cmp s q)) (sym others) ((k.banks q).1 before)
          | inr last ↦
              let same : bank_cell q last.0 last.1 ≡ dram_cell dram name ty dims = same_text (bank_cell q last.0 last.1) (dram_cell dram name ty dims) last.2 formed last.3 in
              absurd cc
        ],
      );
      drams = λ q. (
        (λ yes. elim (more_has old.drams new.drams dram q u yes) [
          | inl e ↦ subst (λ d. HasDram (lines ++ line ∷ []) d) e (name, ty, dims, formed, Contains-append_right lines (line ∷ []) line (alone line))
          | inr before ↦ dram_kept lines (line ∷ []) q ((k.drams q).0 before)
        ]),
        λ h. elim (dram_more lines line q h) [
          | inl before ↦ kept_has old.drams new.drams dram q u ((k.drams q).1 before)
          | inr last ↦
              let same : dram_cell q last.0 last.1 last.2 ≡ dram_cell dram name ty dims = same_text (dram_cell q last.0 last.1 last.2) (dram_cell dram name ty dims) last.3 formed last.4 in
              let e : dram ≡ q = cc in
              subst (λ d. IsTrue (contains nat_cmp new.drams d)) e u.1
        ],
      );
    }

other_kind : (cell : Cell) → ((a : _) (b : _) (c : _) → cell ≡ Bank a b c → ⊥) → ((a : _) (b : _) (c : _) (d : _) → cell ≡ Dram a b c d → ⊥) → (kind_in (plain_cell cell) ≢ kind.Bank) × (kind_in (plain_cell cell) ≢ kind.Dram)
other_kind (Bank a b c) x y = absurd (x a b c refl)
other_kind (Dram a b c d) x y = absurd (y a b c d refl)
other_kind cell x y = ((λ e. absurd cc), λ e. absurd cc)

-- a cell that is no bank and no DRAM declares nothing
pub declared_none : (cell : Cell) → ((a : _) (b : _) (c : _) → cell ≡ Bank a b c → ⊥) → ((a : _) (b : _) (c : _) (d : _) → cell ≡ Dram a b c d → ⊥) → (lines : List (List ℕ)) (d : DeclaredLines)
    → IsFormed (plain_cell cell) → AreDeclared lines d → AreDeclared (lines ++ cell_text (plain_cell cell) ∷ []) d
declared_none cell x y lines d formed k =
    let other = other_kind cell x y in
    declared_other lines (cell_text (plain_cell cell)) d
    (λ q w l f e. other.0 (sym (ap kind_in (same_text (bank_cell q w l) (plain_cell cell) f formed e))))
    (λ q n t ds f e. other.1 (sym (ap kind_in (same_text (dram_cell q n t ds) (plain_cell cell) f formed e))))
    k

-- a line that begins otherwise than that of a bank or a DRAM declares nothing
pub declared_begun_otherwise : (lines : List (List ℕ)) (line : List ℕ) (d : DeclaredLines) → ((rest : List ℕ) → (line ≢ 98 ∷ rest) × (line ≢ 100 ∷ rest)) → AreDeclared lines d → AreDeclared (lines ++ line ∷ []) d
declared_begun_otherwise lines line d other k =
    declared_other lines line d (λ q w l f e. (other (tail (cell_text (bank_cell q w l)))).0 (sym e)) (λ q n t ds f e. (other (tail (cell_text (dram_cell q n t ds)))).1 (sym e)) k
  where
    tail : List ℕ → List ℕ
    tail [] = []
    tail (x ∷ xs) = xs

pub declared_no_cell : (lines : List (List ℕ)) (line : List ℕ) (d : DeclaredLines) → ReadsLine line None → AreDeclared lines d → AreDeclared (lines ++ line ∷ []) d
declared_no_cell lines line d none k =
    declared_other lines line d (λ q w l f e. none (bank_cell q w l) f (sym e)) (λ q n t ds f e. none (dram_cell q n t ds) f (sym e)) k

pub declared_cell : (lines : List (List ℕ)) (line text : List ℕ) (d : DeclaredLines) → line ≡ text → AreDeclared (lines ++ text ∷ []) d → AreDeclared (lines ++ line ∷ []) d
declared_cell lines line text d e k = rw e k
