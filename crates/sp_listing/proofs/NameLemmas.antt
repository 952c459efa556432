-- The names of ports so far.
use Rattle.std.proofs.Common.{◌≡◌, ℕ, Bool, true, false, not, ◌||◌, List, [], ◌∷◌, ◌++◌, get_or, IsTrue, Contains, ◌↔◌, Result, Ok, Err, OnOk, string_bytes, filter_map, refl, sym, ◌∙◌, ap, subst, cond}
use Rattle.std.specs.List.{list_any}
use Rattle.std.specs.Str.{bytes_eq}
use Rattle.std.specs.Ordering.{nat_cmp}
use Rattle.std.specs.Cmp.Lexicographic.{slice_cmp}
use Rattle.std.specs.String.{string_cmp}
use Rattle.std.specs.BTreeSet.{BTreeSet, UpdatesBy, contains_text}
use Rattle.std.specs.declared.string.String.{String}
use Rattle.std.proofs.lemmas.Bool.{false≢true, false_from_ne_true}
use Rattle.std.proofs.lemmas.List.{append-nil}
use Rattle.std.proofs.lemmas.List.Elements.{filter_map-append}
use Rattle.std.proofs.lemmas.List.Folds.{list_any-append, Any-from_list_any, list_any_at}
use Rattle.std.proofs.lemmas.Map.Text.{btree_set_updates_text}
use Rattle.std.proofs.lemmas.Slice.Eq.{bytes_eq-Decides}
use Rattle.sp_netlist.specs.declared.cell.Cell.{Cell}
use Rattle.sp_netlist.specs.declared.cell.Cell.TheVariants.{In, Out, Dram}
use Rattle.sp_netlist.specs.Cells.{PlainCell, plain_cell}
use Rattle.sp_netlist.specs.Rules.{in_name, out_name, dram_name}
use Rattle.sp_listing.specs.declared.names.Names.{Names}
use Rattle.sp_listing.specs.Standing.{HasNames, AreNames}

not_flipped : (a b : List ℕ) → bytes_eq a b ≡ false → bytes_eq b a ≡ false
not_flipped a b differ = false_from_ne_true (bytes_eq b a) (λ yes. false≢true (sym differ ∙ (bytes_eq-Decides a b).1 (sym ((bytes_eq-Decides b a).0 yes))))

-- two texts are equal both ways round
eq_flipped : (a b : List ℕ) → bytes_eq a b ≡ bytes_eq b a
eq_flipped a b =
    let P : Bool → Type 0 = λ v. bytes_eq a b ≡ v → bytes_eq a b ≡ bytes_eq b a in
    let cases : (v : Bool) → P v = λ v. elim v as P [
      | true ↦ λ yes. yes ∙ sym ((bytes_eq-Decides b a).1 (sym ((bytes_eq-Decides a b).0 yes)))
      | false ↦ λ differ. differ ∙ sym (not_flipped a b differ)
    ] in
    cases (bytes_eq a b) refl

or_flipped : (a b : Bool) → cond a true b ≡ (b || (a || false))
or_flipped true true = refl
or_flipped true false = refl
or_flipped false true = refl
or_flipped false false = refl

-- a set of names after one more
pub names_added : {Y : Type 0} (known : List (List ℕ)) (name key : List ℕ) (s n : BTreeSet (String Y)) → key ≡ name → HasNames known s
    → UpdatesBy string_cmp (λ k. slice_cmp nat_cmp key (string_bytes k)) s n true → HasNames (known ++ name ∷ []) n
names_added known name key s n same h u = λ q.
    btree_set_updates_text key s n true u q
    ∙ ap (λ k. cond (bytes_eq k q) true (contains_text s q)) same
    ∙ ap (λ b. cond (bytes_eq name q) true b) (h q)
    ∙ ap (λ b. cond b true (list_any (bytes_eq q) known)) (eq_flipped name q)
    ∙ or_flipped (bytes_eq q name) (list_any (bytes_eq q) known)
    ∙ sym (list_any-append (bytes_eq q) known (name ∷ []))

-- whether a name is new
pub new_tested : (names : List (List ℕ)) (name : List ℕ) (b : Bool) → b ≡ list_any (bytes_eq name) names → IsTrue (not b) ↔ (Contains names name → ⊥)
new_tested names name true e =
    let found = Any-from_list_any (bytes_eq name) names (sym e) in
    let same : name ≡ found.1 = (bytes_eq-Decides name found.1).0 found.4 in
    ((λ f. absurd (false≢true f)), λ new. absurd (new (subst (λ n. Contains names n) (sym same) (found.0, found.2, found.3))))
new_tested names name false e =
    ((λ _. λ (k, lt, same). false≢true (e ∙ list_any_at (bytes_eq name) names k name lt ((bytes_eq-Decides name (get_or names k name)).1 (sym same)))), λ _. refl)

pub same_names : {Y : Type 0} (names : List (List ℕ)) (set : BTreeSet (String Y)) → HasNames names set → HasNames (names ++ []) set
same_names names set h = λ q. h q ∙ ap (list_any (bytes_eq q)) (sym (append-nil names))

-- the names after one more cell
pub names_push : (before : List PlainCell) (cell : PlainCell) (n : Names) → HasNames (filter_map in_name before ++ filter_map in_name (cell ∷ [])) n.ins
    → HasNames (filter_map out_name before ++ filter_map out_name (cell ∷ [])) n.outs → HasNames (filter_map dram_name before ++ filter_map dram_name (cell ∷ [])) n.drams
    → AreNames (before ++ cell ∷ []) n
names_push before cell n a b c = record {
  ins = λ q. a q ∙ ap (list_any (bytes_eq q)) (sym (filter_map-append in_name before (cell ∷ [])));
  outs = λ q. b q ∙ ap (list_any (bytes_eq q)) (sym (filter_map-append out_name before (cell ∷ [])));
  drams = λ q. c q ∙ ap (list_any (bytes_eq q)) (sym (filter_map-append dram_name before (cell ∷ [])));
}

-- a cell without a name
pub names_same : (cell : Cell) → ((a : _) (b : _) (c : _) → cell ≡ In a b c → ⊥) → ((a : _) (b : _) (c : _) → cell ≡ Out a b c → ⊥) → ((a : _) (b : _) (c : _) (d : _) → cell ≡ Dram a b c d → ⊥)
    → (before : List PlainCell) (n : Names) → AreNames before n → AreNames (before ++ plain_cell cell ∷ []) n
names_same (In a b c) x y z before n k = absurd (x a b c refl)
names_same (Out a b c) x y z before n k = absurd (y a b c refl)
names_same (Dram a b c d) x y z before n k = absurd (z a b c d refl)
names_same cell x y z before n k =
    names_push before (plain_cell cell) n (same_names (filter_map in_name before) n.ins k.ins) (same_names (filter_map out_name before) n.outs k.outs) (same_names (filter_map dram_name before) n.drams k.drams)

pub on_ok : {T E P Q : Type 0} (r : Result T E) → (P → Q) → OnOk r P → OnOk r Q
on_ok (Ok x) f h = f h
on_ok (Err e) f h = h
