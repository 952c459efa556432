-- Banks in a row, one more at a time.
use Rattle.std.proofs.Common.{◌≡◌, ℕ, ◌+◌, ◌<◌, false, List, [], ◌∷◌, ◌++◌, length, flat_map, Contains, All, slice_index_or, refl, sym, ap, subst, ◌∙◌, ◌⊎◌, inl, inr, ⊎_elim, arith, append_assoc}
use Rattle.std.proofs.lemmas.List.{length_push, get_or_append_left, get_or_push, append-nil}
use Rattle.std.proofs.lemmas.List.Elements.{Contains-append_right, Contains-append_left, Contains-append_cases}
use Rattle.std.proofs.lemmas.Grind.{flat_map-append}
use Rattle.std.proofs.lemmas.Option.{slice_get_within}
use Rattle.sp_netlist.specs.Draft.{Draft}
use Rattle.sp_gates.specs.Nets.{IsOpen}
use Rattle.sp_gates.specs.Grows.{Grows}
use Rattle.sp_gates.proofs.Growing.{Grows-join, Grows-same}
use Rattle.sp_gates.proofs.Running.{none_joined}
use Rattle.sp_taps.specs.declared.store.Store.{Store}
use Rattle.sp_taps.specs.Stores.{AreStores, AddsBanks, is_no_bank_part}
use Rattle.sp_taps.specs.Wires.{IsWire, Promises, AreWires, wires_of}
use Rattle.sp_taps.proofs.Promised.{store_stays, wire_stays}

none_in : (x : ℕ) → Contains [] x → ⊥
none_in x c = let l = c.1 in absurd (omega (arith, l))

pub none_promised : (d : Draft) → Promises d d []
none_promised d = record { grows = Grows-same d; longer = omega arith; fresh = λ net c. absurd (none_in net c); still_open = λ net o. o; no_other = λ net o out. o }

pub promises_join : (a b c : Draft) (xs ys : List ℕ) → Promises a b xs → Promises b c ys → Promises a c (xs ++ ys)
promises_join a b c xs ys p q = record {
  grows = Grows-join a b c p.grows q.grows;
  longer = let l = p.longer in let m = q.longer in omega (arith, l, m);
  fresh = λ net k. ⊎_elim (λ l. p.fresh net l) (λ r. let l = p.longer in let m = q.fresh net r in omega (arith, l, m)) (Contains-append_cases xs ys net k);
  still_open = λ net o. q.still_open net (p.still_open net o);
  no_other = λ net o out. p.no_other net (q.no_other net o (λ k. out (Contains-append_right xs ys net k))) (λ k. out (Contains-append_left xs ys net k));
}

wire_open : (d : Draft) (net width : ℕ) → IsWire d net width → IsOpen d net
wire_open d net width h = record { within = slice_get_within d.promised net (width, false) h.promised; undriven = h.undriven }

module _ (a b : Draft) (nets : List ℕ) (p : Promises a b nets) where
  wire_kept : (net width : ℕ) → IsWire a net width → IsWire b net width
  wire_kept net width h = wire_stays a b net width p.grows (p.still_open net (wire_open a net width h)) h

  pub wires_kept : (width : ℕ) (stores : List Store) → All (AreWires a width) stores → All (AreWires b width) stores
  wires_kept width stores h = λ k d l. let was = h k d l in record {
    write = wire_kept _ 1 was.write;
    write_at = wire_kept _ 32 was.write_at;
    word = wire_kept _ width was.word;
    read = wire_kept _ 1 was.read;
    read_at = wire_kept _ 32 was.read_at;
  }

pub stores_kept : (a b : Draft) (first width len : ℕ) (stores : List Store) → Grows a b → AreStores a first width len stores → AreStores b first width len stores
stores_kept a b first width len stores g h = λ i other l. store_stays a b (first + i) width len (slice_index_or stores i other) g (h i other l)

-- what is known of each element, by its place, is known with one more at the end
pub placed_push : {X : Type 0} (P : ℕ → X → Type 0) (xs : List X) (x : X) (n : ℕ) → length xs ≡ n → ((i : ℕ) (d : X) → i < length xs → P i (slice_index_or xs i d)) → P n x
    → (i : ℕ) (d : X) → i < length (xs ++ x ∷ []) → P i (slice_index_or (xs ++ x ∷ []) i d)
placed_push P xs x n e old new i d l = go (split (let m = length_push xs x in omega (arith, m, l)))
  where
    split : i < length xs + 1 → (i < length xs) ⊎ (i ≡ length xs)
    split h = grind arith

    go : (i < length xs) ⊎ (i ≡ length xs) → P i (slice_index_or (xs ++ x ∷ []) i d)
    go (inl below) = subst (P i) (sym (get_or_append_left xs (x ∷ []) d i below)) (old i d below)
    go (inr same) = subst (P i) (sym (get_or_push xs x d i (sym same))) (subst (λ k. P k x) (sym (same ∙ e)) new)

-- the nets of one more bank
pub nets_push : (stores : List Store) (store : Store) → flat_map wires_of (stores ++ store ∷ []) ≡ flat_map wires_of stores ++ wires_of store
nets_push stores store = flat_map-append wires_of stores (store ∷ [])

-- banks alone are added by none, and by two parts that each add such
pub no_banks : (a : Draft) → AddsBanks a a
no_banks a = record { added = []; stands = sym (append-nil a.cells); all = refl }

pub more_banks : (a b c : Draft) → AddsBanks a b → AddsBanks b c → AddsBanks a c
more_banks a b c g h = record {
  added = g.added ++ h.added;
  stands = h.stands ∙ ap (λ xs. xs ++ h.added) g.stands ∙ append_assoc a.cells g.added h.added;
  all = none_joined is_no_bank_part g.added h.added g.all h.all;
}
