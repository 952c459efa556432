-- The requests of a memory's accesses.
use Rattle.std.proofs.Common.{◌≡◌, ℕ, zero, suc, ◌+◌, ◌*◌, ◌<◌, ◌≤◌, ◌==◌, Bool, true, false, cond, List, [], ◌∷◌, length, flat_map, Contains, option_map, slice_index_or, All, refl, sym, ap, subst, ◌∙◌, ⊎_elim, arith}
use Rattle.std.specs.List.{AllZip}
use Rattle.std.proofs.lemmas.Bool.{false≢true}
use Rattle.std.proofs.lemmas.Nat.{mul-le}
use Rattle.std.proofs.lemmas.List.Elements.{Contains-append_cases}
use Rattle.sp_netlist.specs.Draft.{Draft}
use Rattle.sp_gates.specs.Nets.{Awaits}
use Rattle.sp_gates.specs.Grows.{Fills}
use Rattle.sp_mem.specs.declared.part.Touch.{Touch}
use Rattle.sp_mem.specs.Fits.{words_of as touch_words, AreApart as TouchesApart}
use Rattle.sp_mem.proofs.Waiting.{awaits_beside}
use Rattle.sp_places.specs.declared.layout.Layout.{Layout}
use Rattle.sp_taps.specs.declared.store.Store.{Store}
use Rattle.sp_taps.specs.Wires.{IsWire, AreWires, wires_of}
use Rattle.sp_taps.proofs.Rows.{stores_kept}
use Rattle.sp_requests.specs.declared.part.Request.{Request}
use Rattle.sp_requests.specs.Requests.{RequestFits, IsRequest}
use Rattle.sp_requests.proofs.Zips.{zip_at, zip_long}
use Rattle.sp_requests.proofs.Kept.{fits_kept}
use Rattle.sp_stores.specs.Lines.{of_duplicate}
use Rattle.sp_stores.proofs.Rows.{wires_beside}
use Rattle.sp_banked.specs.declared.part.Banked.{Banked}
use Rattle.sp_banked.specs.Readers.{words_of, AreApart, ReaderFits}
use Rattle.sp_banked.specs.Fits.{StoresFit}
use Rattle.sp_banked.specs.Runs.{reads_of}

pub zip_fits : (d : Draft) (l : Layout) (touches : List Touch) (rs : List Request) → AllZip (IsRequest d l) touches rs → All (RequestFits d) rs
zip_fits d l [] [] is k e m = absurd (omega (arith, m))
zip_fits d l [] (r ∷ rs) is k e m = absurd is
zip_fits d l (w ∷ ws) [] is k e m = absurd is
zip_fits d l (w ∷ ws) (r ∷ rs) is zero e m = is.0.fits
zip_fits d l (w ∷ ws) (r ∷ rs) is (suc k) e m = zip_fits d l ws rs is.1 k e (omega (arith, m))

pub zip_words : (d : Draft) (l : Layout) (touches : List Touch) (rs : List Request) → AllZip (IsRequest d l) touches rs → words_of rs ≡ touch_words touches
zip_words d l [] [] is = refl
zip_words d l [] (r ∷ rs) is = absurd is
zip_words d l (w ∷ ws) [] is = absurd is
zip_words d l (w ∷ ws) (r ∷ rs) is = ap (λ x. x ∷ words_of rs) is.0.word ∙ ap (λ xs. w.word ∷ xs) (zip_words d l ws rs is.1)

-- what is known of the words of accesses is known of those of requests
pub words_known : (P : ℕ → Type 0) (d : Draft) (l : Layout) (touches : List Touch) (rs : List Request) → AllZip (IsRequest d l) touches rs → All (λ w. P w.word) touches → All (λ r. P r.word) rs
words_known P d l [] [] is h k e m = absurd (omega (arith, m))
words_known P d l [] (r ∷ rs) is h k e m = absurd is
words_known P d l (w ∷ ws) [] is h k e m = absurd is
words_known P d l (w ∷ ws) (r ∷ rs) is h zero e m = subst P (sym is.0.word) (h 0 w (omega arith))
words_known P d l (w ∷ ws) (r ∷ rs) is h (suc k) e m = words_known P d l ws rs is.1 (λ j q n. h (suc j) q (omega (arith, n))) k e (omega (arith, m))

pub duplicates_known : (n : ℕ) (d : Draft) (l : Layout) (touches : List Touch) (rs : List Request) → AllZip (IsRequest d l) touches rs → All (λ w. w.duplicate < n) touches → All (λ r. r.duplicate < n) rs
duplicates_known n d l [] [] is h k e m = absurd (omega (arith, m))
duplicates_known n d l [] (r ∷ rs) is h k e m = absurd is
duplicates_known n d l (w ∷ ws) [] is h k e m = absurd is
duplicates_known n d l (w ∷ ws) (r ∷ rs) is h zero e m = let same = is.0.duplicate in let below = h 0 w (omega arith) in omega (arith, same, below)
duplicates_known n d l (w ∷ ws) (r ∷ rs) is h (suc k) e m = duplicates_known n d l ws rs is.1 (λ j q z. h (suc j) q (omega (arith, z))) k e (omega (arith, m))

apart_at : (d : Draft) (l : Layout) (w : Touch) (touches : List Touch) (rs : List Request) → AllZip (IsRequest d l) touches rs → TouchesApart touches → AreApart rs
apart_at d l w touches rs is apart i k r m n same =
    let long = zip_long (IsRequest d l) touches rs is in
    let first = zip_at (IsRequest d l) touches rs i w r is (omega (arith, long, m, n)) in
    let second = zip_at (IsRequest d l) touches rs k w r is (omega (arith, long, n)) in
    apart i k w m (omega (arith, long, n)) (sym first.word ∙ same ∙ second.word)

pub apart_known : (d : Draft) (l : Layout) (touches : List Touch) (rs : List Request) → AllZip (IsRequest d l) touches rs → TouchesApart touches → AreApart rs
apart_known d l [] [] is apart = λ i k r m n. absurd (omega (arith, n))
apart_known d l [] (r ∷ rs) is apart = absurd is
apart_known d l (w ∷ ws) rs is apart = apart_at d l w (w ∷ ws) rs is apart

-- the requests of one duplicate are those of its reads
pub zip_filter : (n : ℕ) (d : Draft) (l : Layout) (touches : List Touch) (rs : List Request) → AllZip (IsRequest d l) touches rs → AllZip (IsRequest d l) (reads_of n touches) (of_duplicate n rs)
zip_filter n d l [] [] is = is
zip_filter n d l [] (r ∷ rs) is = absurd is
zip_filter n d l (w ∷ ws) [] is = absurd is
zip_filter n d l (w ∷ ws) (r ∷ rs) is = go (w.duplicate == n) (r.duplicate == n) (ap (λ k. k == n) (sym is.0.duplicate)) (zip_filter n d l ws rs is.1)
  where
    go : (a b : Bool) → a ≡ b → AllZip (IsRequest d l) (reads_of n ws) (of_duplicate n rs)
        → AllZip (IsRequest d l) (cond a (w ∷ reads_of n ws) (reads_of n ws)) (cond b (r ∷ of_duplicate n rs) (of_duplicate n rs))
    go true true e h = (is.0, h)
    go true false e h = absurd (false≢true (sym e))
    go false true e h = absurd (false≢true e)
    go false false e h = h

-- a net of a bank's ports isn't kept, so no reader has it
not_kept : (d : Draft) (net width other : ℕ) → IsWire d net width → Awaits d net other → ⊥
not_kept d net width other w h = let e = sym (ap (option_map (λ (p : ℕ × Bool). p.1)) w.promised) ∙ h.kept in absurd (cc)

same_net : (d : Draft) (a net width other : ℕ) → a ≡ net → IsWire d a width → Awaits d net other → ⊥
same_net d a net width other e w h = not_kept d net width other (subst (λ n. IsWire d n width) e w) h

not_wire : (d : Draft) (width other : ℕ) (store : Store) (net : ℕ) → AreWires d width store → Awaits d net other → Contains (wires_of store) net → ⊥
not_wire d width other store net w h (zero, l, e) = same_net d _ net 1 other e w.write h
not_wire d width other store net w h (suc zero, l, e) = same_net d _ net 32 other e w.write_at h
not_wire d width other store net w h (suc (suc zero), l, e) = same_net d _ net width other e w.word h
not_wire d width other store net w h (suc (suc (suc zero)), l, e) = same_net d _ net 1 other e w.read h
not_wire d width other store net w h (suc (suc (suc (suc zero))), l, e) = same_net d _ net 32 other e w.read_at h
not_wire d width other store net w h (suc (suc (suc (suc (suc k)))), l, e) = absurd (omega (arith, l))

pub no_wire : (d : Draft) (width other : ℕ) (stores : List Store) (net : ℕ) → All (AreWires d width) stores → Awaits d net other → Contains (flat_map wires_of stores) net → ⊥
no_wire d width other [] net w h (k, l, e) = absurd (omega (arith, l))
no_wire d width other (store ∷ stores) net w h c =
    ⊎_elim (λ x. not_wire d width other store net (w 0 store (omega arith)) h x) (λ x. no_wire d width other stores net (λ k y m. w (suc k) y (omega (arith, m))) h x) (Contains-append_cases (wires_of store) (flat_map wires_of stores) net c)

pub stores_fit_kept : (a b : Draft) (part : Banked) (stores : List Store) → Fills a b [] → StoresFit a part stores → StoresFit b part stores
stores_fit_kept a b part stores f h = record {
  each = h.each;
  rows = h.rows;
  wires = λ k d l. wires_beside a b _ (slice_index_or stores k d) f (h.wires k d l);
  banks = stores_kept a b part.bank _ _ stores f.grows h.banks;
}

within_row : (n duplicates lines count : ℕ) → n < duplicates → count ≡ duplicates * lines → n * lines + lines ≤ count
within_row n duplicates lines count l e = let m = mul-le (n + 1) lines duplicates lines (omega (arith, l)) (omega arith) in omega (arith, m, e)

-- the readers fit, where the ports of the banks were driven
pub readers_fit : (a b : Draft) (l : Layout) (width duplicates lines : ℕ) (stores : List Store) (touches : List Touch) (rs : List Request) → Fills a b (flat_map wires_of stores) → All (AreWires a width) stores
    → length stores ≡ duplicates * lines → AllZip (IsRequest a l) touches rs → All (λ r. Awaits a r.word width) touches → All (λ r. r.duplicate < duplicates) touches → All (ReaderFits b width (length stores) lines) rs
readers_fit a b l width duplicates lines stores touches rs f wires each is waits below k d m =
    let waiting = words_known (λ net. Awaits a net width) a l touches rs is waits k d m in
    record {
      fits = fits_kept a b f.grows (slice_index_or rs k d) (zip_fits a l touches rs is k d m);
      word = awaits_beside a b _ width (flat_map wires_of stores) f (no_wire a width width stores _ wires waiting) waiting;
      within = within_row _ duplicates lines (length stores) (duplicates_known duplicates a l touches rs is below k d m) each;
    }
