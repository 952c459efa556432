-- The counts of enabled taps tell the conflict.
use Rattle.std.proofs.Common.{◌≡◌, ℕ, suc, ◌+◌, ◌<◌, ◌≤◌, min, List, [], ◌∷◌, Bool, true, false, cond, ◌&&◌, ◌==◌, if◌then◌else◌, length, take, replicate, count_by, slice_index, Contains, refl, sym, ap, ◌∙◌, subst, arith, ⊎_elim, ne_eqb, eq-eqb}
use Rattle.std.specs.List.{fold}
use Rattle.std.proofs.lemmas.Bool.{cases_eq, cases_lt, and_left}
use Rattle.std.proofs.lemmas.List.{get_or-set_same, get_or-set_other, length-set, length-replicate, get_or-replicate}
use Rattle.sp_netlist.specs.declared.cell.Port.{Port}
use Rattle.sp_netlist.specs.declared.cell.Port.TheVariants.{Read, Write}
use Rattle.sp_netlist.specs.Cells.{PlainCell, read_tap, write_tap}
use Rattle.sp_netlist.specs.Rules.{is_bank, IsNetlist, IsRight}
use Rattle.sp_netlist.specs.Cycle.{is_enabled_tap, Shares, SharesNone, IsConflict}
use Rattle.sp_sim.specs.Settling.{cell_at}
use Rattle.sp_sim.specs.Conflicts.{bumped, tally, IsFirstShared}
use Rattle.sp_sim.proofs.CellLemmas.{right_at, count-cons, count_skip}
use Rattle.sp_sim.proofs.Held.{place_of_cell}

no_gate : (b : Bool) → (b && false) ≡ false
no_gate true = refl
no_gate false = refl

with_gate : (b : Bool) → (b && true) ≡ b
with_gate true = refl
with_gate false = refl

-- one tap that may be enabled
bump_one : (cs : List ℕ) (gate : Bool) (of bank : ℕ) → bank < length cs → slice_index cs bank ≤ 2
    → slice_index (if gate then bumped cs of else cs) bank ≡ min 2 (slice_index cs bank + cond ((of == bank) && gate) 1 0)
bump_one cs false of bank l small =
    let none = ap (λ (b : Bool). min 2 (slice_index cs bank + cond b 1 0)) (no_gate (of == bank)) in
    omega (arith, none)
bump_one cs true of bank l small = ⊎_elim
    (λ e.
    let one = ap (λ (b : Bool). min 2 (slice_index cs bank + cond b 1 0)) (with_gate (of == bank) ∙ eq-eqb of bank e) in
    subst (λ n. slice_index (bumped cs n) bank ≡ min 2 (slice_index cs bank + cond ((of == bank) && true) 1 0)) (sym e)
    (get_or-set_same cs bank (min 2 (slice_index cs bank + 1)) 0 l ∙ sym one))
    (λ d.
    let none = ap (λ (b : Bool). min 2 (slice_index cs bank + cond b 1 0)) (with_gate (of == bank) ∙ ne_eqb of bank d) in
    get_or-set_other cs of bank (min 2 (slice_index cs of + 1)) 0 (λ k. d (sym k)) ∙ omega (arith, none))
    (cases_eq of bank)

tally_one : (w : ℕ → ℕ) (port : Port) (cs : List ℕ) (x : PlainCell) (bank : ℕ) → bank < length cs → slice_index cs bank ≤ 2
    → slice_index (tally w port cs x) bank ≡ min 2 (slice_index cs bank + cond (is_enabled_tap w port bank x) 1 0)
tally_one w Read cs (read_tap net of enable addr) bank l small = bump_one cs (w enable == 1) of bank l small
tally_one w Write cs (write_tap of enable addr word) bank l small = bump_one cs (w enable == 1) of bank l small
tally_one w _ cs _ bank l small = omega arith

length-tally : (w : ℕ → ℕ) (port : Port) (cs : List ℕ) (x : PlainCell) → length (tally w port cs x) ≡ length cs
length-tally w Read cs (read_tap net of enable addr) = gated (w enable == 1) cs of
  where
    gated : (b : Bool) (ds : List ℕ) (n : ℕ) → length (if b then bumped ds n else ds) ≡ length ds
    gated true ds n = length-set ds n (min 2 (slice_index ds n + 1))
    gated false ds n = refl
length-tally w Write cs (write_tap of enable addr word) = gated (w enable == 1) cs of
  where
    gated : (b : Bool) (ds : List ℕ) (n : ℕ) → length (if b then bumped ds n else ds) ≡ length ds
    gated true ds n = length-set ds n (min 2 (slice_index ds n + 1))
    gated false ds n = refl
length-tally w _ cs _ = refl

length-tallies : (w : ℕ → ℕ) (port : Port) (xs : List PlainCell) (cs : List ℕ) → length (fold (tally w port) cs xs) ≡ length cs
length-tallies w port [] cs = refl
length-tallies w port (x ∷ xs) cs = length-tallies w port xs (tally w port cs x) ∙ length-tally w port cs x

tally_all : (w : ℕ → ℕ) (port : Port) (xs : List PlainCell) (cs : List ℕ) (bank : ℕ) → bank < length cs → slice_index cs bank ≤ 2
    → slice_index (fold (tally w port) cs xs) bank ≡ min 2 (slice_index cs bank + count_by (is_enabled_tap w port bank) xs)
tally_all w port [] cs bank l small = omega arith
tally_all w port (x ∷ xs) cs bank l small =
    let one = tally_one w port cs x bank l small in
    let rest = tally_all w port xs (tally w port cs x) bank (subst (λ n. bank < n) (sym (length-tally w port cs x)) l) (omega (arith, one)) in
    let count = count-cons (is_enabled_tap w port bank) x xs in
    omega (arith, one, rest, count)

-- counted from nothing
counts : (w : ℕ → ℕ) (port : Port) (xs : List PlainCell) (n bank : ℕ) → bank < n → slice_index (fold (tally w port) (replicate n 0) xs) bank ≡ min 2 (count_by (is_enabled_tap w port bank) xs)
counts w port xs n bank l =
    let zeros : List ℕ = replicate n 0 in
    let zero_at : slice_index zeros bank ≡ 0 = get_or-replicate {A = ℕ} n bank 0 0 l in
    let long : length zeros ≡ n = length-replicate {A = ℕ} n 0 in
    let all = tally_all w port xs zeros bank (omega arith) (omega arith) in
    all ∙ ap (λ k. min 2 (k + count_by (is_enabled_tap w port bank) xs)) zero_at ∙ omega arith

count_none : {X : Type 0} (p : X → Bool) (xs : List X) → ((x : X) → Contains xs x → p x ≡ false) → count_by p xs ≡ 0
count_none p [] none = refl
count_none p (x ∷ xs) none = count_skip p x xs (none x (0, omega arith, refl)) ∙ count_none p xs (λ y c. none y (suc c.0, let l = c.1 in omega arith, c.2))

-- a tap's bank stands, so no other bank has one
tap_below : (cells : List PlainCell) (w : ℕ → ℕ) (port : Port) (bank : ℕ) → count_by is_bank cells ≤ bank → (before : List PlainCell) (x : PlainCell) → IsRight cells before x → is_enabled_tap w port bank x ≡ false
tap_below cells w Read bank l before (read_tap net of enable addr) r = and_left (of == bank) (w enable == 1) (ne_eqb of bank (λ e. absurd (omega arith)))
tap_below cells w Write bank l before (write_tap of enable addr word) r = and_left (of == bank) (w enable == 1) (ne_eqb of bank (λ e. absurd (omega arith)))
tap_below cells w _ bank l before _ r = refl

no_tap : (cells : List PlainCell) → IsNetlist cells → (w : ℕ → ℕ) (port : Port) (bank : ℕ) → count_by is_bank cells ≤ bank → count_by (is_enabled_tap w port bank) cells ≡ 0
no_tap cells h w port bank l = count_none (is_enabled_tap w port bank) cells
    (λ x c. let p = place_of_cell cells x c in
    subst (λ y. is_enabled_tap w port bank y ≡ false) p.2 (tap_below cells w port bank l (take p.0 cells) (cell_at cells p.0) (right_at cells h p.0 p.1)))

module _ (cells : List PlainCell) (h : IsNetlist cells) (w : ℕ → ℕ) (n : ℕ) (banks : n ≡ count_by is_bank cells) where
  abbrev tallies : Port → List ℕ
  tallies port = fold (tally w port) (replicate n 0) cells

  one_at_most : (port : Port) (b : ℕ) → slice_index (tallies port) b ≤ 1 → count_by (is_enabled_tap w port b) cells ≤ 1
  one_at_most port b k = ⊎_elim
      (λ l. let c = counts w port cells n b l in omega arith)
      (λ l. let c = no_tap cells h w port b (omega arith) in omega arith)
      (cases_lt b n)

  -- no port of any bank has two
  pub shares_none : ((b : ℕ) → (slice_index (fold (tally w Read) (replicate n 0) cells) b ≤ 1) × (slice_index (fold (tally w Write) (replicate n 0) cells) b ≤ 1)) → SharesNone cells w
  shares_none k Read b = one_at_most Read b (k b).0
  shares_none k Write b = one_at_most Write b (k b).1

  -- or that one is the first
  pub is_conflict : (bank : ℕ) (port : Port) → IsFirstShared (fold (tally w Read) (replicate n 0) cells) (fold (tally w Write) (replicate n 0) cells) bank port → IsConflict cells w bank port
  is_conflict bank Read f = record {
    shared = let c = counts w Read cells n bank within in let k = f.here in omega arith;
    least = least;
    read_first = λ k. refl;
  }
    where
      within : bank < n
      within = let l = f.within in let e = length-tallies w Read cells (replicate n 0) in let z : length (replicate {A = ℕ} n 0) ≡ n = length-replicate {A = ℕ} n 0 in omega arith

      least : (p : Port) (b : ℕ) → Shares cells w p b → bank ≤ b
      least Read b k = ⊎_elim (λ l. let one = one_at_most Read b (f.below b l).0 in absurd (omega arith)) (λ l. l) (cases_lt b bank)
      least Write b k = ⊎_elim (λ l. let one = one_at_most Write b (f.below b l).1 in absurd (omega arith)) (λ l. l) (cases_lt b bank)
  is_conflict bank Write f = record {
    shared = let c = counts w Write cells n bank within in let k = f.here.1 in omega arith;
    least = least;
    read_first = λ k. let one = one_at_most Read bank f.here.0 in absurd (omega arith);
  }
    where
      within : bank < n
      within = let l = f.within in let e = length-tallies w Read cells (replicate n 0) in let z : length (replicate {A = ℕ} n 0) ≡ n = length-replicate {A = ℕ} n 0 in omega arith

      least : (p : Port) (b : ℕ) → Shares cells w p b → bank ≤ b
      least Read b k = ⊎_elim (λ l. let one = one_at_most Read b (f.below b l).0 in absurd (omega arith)) (λ l. l) (cases_lt b bank)
      least Write b k = ⊎_elim (λ l. let one = one_at_most Write b (f.below b l).1 in absurd (omega arith)) (λ l. l) (cases_lt b bank)
