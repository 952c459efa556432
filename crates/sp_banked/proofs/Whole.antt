-- A memory by its banks and readers.
use Rattle.std.proofs.Common.{◌≡◌, ℕ, suc, ◌+◌, ◌*◌, ◌/◌, ◌%◌, ◌<◌, ◌==◌, true, List, [], ◌∷◌, length, map, slice_index_or, All, refl, sym, ap, subst, ◌∙◌, arith, eqb-true}
use Rattle.std.specs.List.{AllZip}
use Rattle.std.proofs.lemmas.Nat.{div-mul-add, mod-mul-add, mul-add-lt}
use Rattle.std.proofs.lemmas.List.Elements.{All-filter, filter_passes}
use Rattle.std.proofs.Math.Nat.{mod-lt}
use Rattle.sp_bank.specs.Places.{IsInside, weighted, bank as bank_number, offset}
use Rattle.sp_bank.proofs.Distinct.{offset-below}
use Rattle.sp_netlist.specs.Draft.{Draft}
use Rattle.sp_netlist.specs.Signals.{Signals}
use Rattle.sp_gates.specs.Runs.{RunsOn}
use Rattle.sp_gates.specs.Tested.{is_on}
use Rattle.sp_mem.specs.declared.part.Touch.{Touch}
use Rattle.sp_mem.specs.Copies.{copy_at}
use Rattle.sp_places.specs.Layouts.{banking_of}
use Rattle.sp_taps.specs.declared.store.Store.{Store}
use Rattle.sp_bank_ports.proofs.Served.{all_written, each_found}
use Rattle.sp_requests.specs.declared.part.Request.{Request}
use Rattle.sp_requests.specs.Requests.{IsRequest, Asks}
use Rattle.sp_requests.specs.Elements.{element_at, element_after, AreServed}
use Rattle.sp_requests.proofs.Zips.{zip_at, zip_long}
use Rattle.sp_requests.proofs.Found.{agree, found, is_asked_for}
use Rattle.sp_requests.proofs.Writing.{writes}
use Rattle.sp_stores.specs.Lines.{RunsLine, RunLines, of_duplicate}
use Rattle.std.proofs.lemmas.List.{length-map}
use Rattle.sp_banked.specs.declared.part.Banked.{Banked}
use Rattle.sp_banked.specs.Readers.{RunsReader}
use Rattle.sp_banked.specs.Fits.{bank_count, bank_size, IsShape}
use Rattle.sp_banked.specs.Runs.{number_of, element_word, reads_of, RunsBanked}
use Rattle.sp_banked.proofs.Asked.{zip_filter}

some_of : {X : Type 0} (xs : List X) → 0 < length xs → X
some_of [] l = absurd (omega (arith, l))
some_of (x ∷ xs) l = x

bank_below : (part : Banked) (x : List ℕ) → IsShape part → bank_number (banking_of part.layout) x < part.layout.banks
bank_below part x shape = mod-lt (weighted part.layout.alpha.items x / part.layout.block) shape.layout.space.size.some_bank

-- the line of a bank, and its place in the row of all
line_below : (copy banks bank copies : ℕ) → copy < copies → bank < banks → copy * banks + bank < copies * banks
line_below copy banks bank copies l m = let h = mul-add-lt copy banks bank copies l m in omega (arith, h)

module _ (d : Draft) (s : Signals) (part : Banked) (stores : List Store) (ws rs : List Request) (shape : IsShape part) (each : length stores ≡ bank_count part) (run : RunsOn s d.cells)
    (writes_are : AllZip (IsRequest d part.layout) part.writes.items ws) (reads_are : AllZip (IsRequest d part.layout) part.reads.items rs)
    (lines : RunLines s part.bank (bank_size part) stores (part.copies * part.layout.banks) part.layout.banks ws rs) where
  module _ (n copy bank : ℕ) (n_below : n < part.duplicates) (copy_below : copy < part.copies) (below : bank < part.layout.banks) where
    place : ℕ
    place = n * (part.copies * part.layout.banks) + (copy * part.layout.banks + bank)

    row : copy * part.layout.banks + bank < part.copies * part.layout.banks
    row = line_below copy part.layout.banks bank part.copies copy_below below

    in_row : place < length stores
    unfolding place
    in_row = let h = line_below n (part.copies * part.layout.banks) (copy * part.layout.banks + bank) part.duplicates n_below row in omega (arith, h, each)

    pub other : Store
    other = some_of stores (let h = in_row in omega (arith, h))

    pub the_line : RunsLine s (part.bank + (n * (part.copies * part.layout.banks) + (copy * part.layout.banks + bank))) (bank_size part) (slice_index_or stores (n * (part.copies * part.layout.banks) + (copy * part.layout.banks + bank)) other) copy bank ws (of_duplicate n rs)
    unfolding place
    the_line =
        let h = lines place other in_row in
        let first : place / (part.copies * part.layout.banks) ≡ n = div-mul-add n (part.copies * part.layout.banks) (copy * part.layout.banks + bank) row in
        let rest : place % (part.copies * part.layout.banks) ≡ copy * part.layout.banks + bank = mod-mul-add n (part.copies * part.layout.banks) (copy * part.layout.banks + bank) row in
        let second : place % (part.copies * part.layout.banks) / part.layout.banks ≡ copy = ap (λ k. k / part.layout.banks) rest ∙ div-mul-add copy part.layout.banks bank below in
        let third : place % (part.copies * part.layout.banks) % part.layout.banks ≡ bank = ap (λ k. k % part.layout.banks) rest ∙ mod-mul-add copy part.layout.banks bank below in
        subst (λ k. RunsLine s (part.bank + place) (bank_size part) (slice_index_or stores place other) copy bank ws (of_duplicate k rs)) first
        (subst (λ k. RunsLine s (part.bank + place) (bank_size part) (slice_index_or stores place other) copy k ws (of_duplicate (place / (part.copies * part.layout.banks)) rs)) third
        (subst (λ k. RunsLine s (part.bank + place) (bank_size part) (slice_index_or stores place other) k (place % (part.copies * part.layout.banks) % part.layout.banks) ws (of_duplicate (place / (part.copies * part.layout.banks)) rs)) second h))

  begins : (n copy : ℕ) (x : List ℕ) → n < part.duplicates → copy < part.copies → IsInside part.layout.dims.items x → element_word s 0 part n copy x ≡ 0
  begins n copy x a b inside = (the_line n copy (bank_number (banking_of part.layout) x) a b (bank_below part x shape)).served.begins (offset (banking_of part.layout) part.layout.dims.items x)

  goes : (t : ℕ) → AreServed s t part.layout part.writes.items → (n copy : ℕ) (x : List ℕ) → n < part.duplicates → copy < part.copies → IsInside part.layout.dims.items x
      → element_word s (suc t) part n copy x ≡ element_after s t copy part.writes.items x (element_word s t part n copy x)
  goes t served n copy x a b inside =
      let bank = bank_number (banking_of part.layout) x in
      let line = the_line n copy bank a b (bank_below part x shape) in
      let serves = line.writes_served t in
      let long = zip_long (Asks s t copy bank) ws serves.accesses serves.asks in
      let words = length-map ws (λ r. r.word) in
      all_written s (number_of part n copy x) (bank_size part) _ line.write line.read line.served t serves.accesses (map (λ r. r.word) ws) serves.last (omega (arith, long, words))
      (agree d part.layout s shape.layout run t copy bank part.writes.items ws serves.accesses writes_are serves.asks served)
      (offset (banking_of part.layout) part.layout.dims.items x) (offset-below (banking_of part.layout) part.layout.dims.items x shape.layout.space shape.layout.rank inside)
      ∙ writes d part.layout s shape.layout run t copy bank part.writes.items ws serves.accesses writes_are serves.asks served x inside refl (element_word s t part n copy x)

  module _ (readers : All (RunsReader s stores (part.copies * part.layout.banks) part.layout.banks) rs) where
    finds_at : (t n : ℕ) → n < part.duplicates → AreServed s t part.layout (reads_of n part.reads.items) → (k : ℕ) (touch : Touch) (q : Request) → k < length (reads_of n part.reads.items)
        → is_on s (slice_index_or (reads_of n part.reads.items) k touch).enable t ≡ true → copy_at s t (slice_index_or (reads_of n part.reads.items) k touch).copy < part.copies
        → s.net (suc (suc t)) (slice_index_or (reads_of n part.reads.items) k touch).word
        ≡ element_word s t part n (copy_at s t (slice_index_or (reads_of n part.reads.items) k touch).copy) (element_at s t (slice_index_or (reads_of n part.reads.items) k touch))
    finds_at t n n_below served k touch q l on at =
        let r = slice_index_or (reads_of n part.reads.items) k touch in
        let qs = of_duplicate n rs in
        let are = zip_filter n d part.layout part.reads.items rs reads_are in
        let long = zip_long (IsRequest d part.layout) (reads_of n part.reads.items) qs are in
        let m : k < length qs = omega (arith, long, l) in
        let is = zip_at (IsRequest d part.layout) (reads_of n part.reads.items) qs k touch q are l in
        let inside = served.inside k touch l on in
        let copy = copy_at s t r.copy in
        let bank = bank_number (banking_of part.layout) (element_at s t r) in
        let small = bank_below part (element_at s t r) shape in
        let line = the_line n copy bank n_below at small in
        let st = other n copy bank n_below at small in
        let serves = line.reads_served t in
        let count = zip_long (Asks s t copy bank) qs serves.accesses serves.asks in
        let e : k < length serves.accesses = omega (arith, count, m) in
        let a = some_of serves.accesses (omega (arith, e)) in
        let asks = zip_at (Asks s t copy bank) qs serves.accesses k q a serves.asks m in
        let asked = is_asked_for d part.layout s run t copy bank r (slice_index_or qs k q) (slice_index_or serves.accesses k a) is asks on refl inside refl in
        let agreed = agree d part.layout s shape.layout run t copy bank (reads_of n part.reads.items) qs serves.accesses are serves.asks served in
        let f = found d part.layout s run t copy bank r (slice_index_or qs k q) (slice_index_or serves.accesses k a) is asks (λ h. inside) asked in
        let own : (slice_index_or qs k q).duplicate ≡ n = eqb-true _ _ (filter_passes (λ (x : Request). x.duplicate == n) rs k q m) in
        let reader = All-filter (λ (x : Request). x.duplicate == n) (RunsReader s stores (part.copies * part.layout.banks) part.layout.banks) rs readers k q m in
        ap (s.net (suc (suc t))) (sym is.word)
        ∙ reader t copy bank small (line_below copy part.layout.banks bank part.copies at small) (is.copy s run t) (is.spot.bank s run t inside) st
        ∙ ap (λ j. s.net (suc t) (slice_index_or stores (j * (part.copies * part.layout.banks) + (copy * part.layout.banks + bank)) st).found) own
        ∙ each_found s _ (bank_size part) _ line.write line.read line.served t serves.accesses serves.last agreed k a e asked
        ∙ ap (s.bank t (number_of part n copy (element_at s t r))) f.place

    finds : (duplicates : All (λ r. r.duplicate < part.duplicates) part.reads.items) → (t n : ℕ) → AreServed s t part.layout (reads_of n part.reads.items)
        → All (λ r. is_on s r.enable t ≡ true → copy_at s t r.copy < part.copies → s.net (suc (suc t)) r.word ≡ element_word s t part n (copy_at s t r.copy) (element_at s t r)) (reads_of n part.reads.items)
    finds duplicates t n served k touch l on at =
        let are = zip_filter n d part.layout part.reads.items rs reads_are in
        let long = zip_long (IsRequest d part.layout) (reads_of n part.reads.items) (of_duplicate n rs) are in
        let own : (slice_index_or (reads_of n part.reads.items) k touch).duplicate ≡ n = eqb-true _ _ (filter_passes (λ (x : Touch). x.duplicate == n) part.reads.items k touch l) in
        let below = All-filter (λ (x : Touch). x.duplicate == n) (λ x. x.duplicate < part.duplicates) part.reads.items duplicates k touch l in
        finds_at t n (subst (λ j. j < part.duplicates) own below) served k touch (some_of (of_duplicate n rs) (omega (arith, long, l))) l on at

    pub banked_runs : All (λ r. r.duplicate < part.duplicates) part.reads.items → RunsBanked s part
    banked_runs duplicates = record { begins = begins; goes = goes; finds = finds duplicates }
