-- The laws of parts.
use Rattle.std.proofs.Common.{◌≡◌, ℕ, ◌<◌, ◌≤◌, List, [], ◌∷◌, ◌++◌, Bool, true, map, refl, Contains, subst, arith, ⊎_elim, inl, inr, ◌⊎◌}
use Rattle.std.specs.List.{list_any}
use Rattle.std.proofs.lemmas.Bool.{cases_Bool, or_cases, or_left, or_right}
use Rattle.std.proofs.lemmas.List.Elements.{Contains-append_left, Contains-append_right}
use Rattle.sp_netlist.specs.Cells.{PlainCell, read_tap, write_tap, load_unit, store_unit}
use Rattle.sp_netlist.specs.Rules.{drives, reads, Feeds, IsRanked}
use Rattle.sp_netlist.specs.Signals.{Setting, Signals, Obeys}
use Rattle.sp_netlist.specs.Parts.{names_bank, NoCell, BanksWithin, RunsPart, Locality}
use Rattle.sp_netlist.proofs.Splits.{Split, split_of}
use Rattle.sp_netlist.proofs.Apart.{part_bank, part_dram, part_taps}
use Rattle.sp_netlist.proofs.Alone.{alone, view}
use Rattle.sp_netlist.proofs.Determined.{determined}

-- the nets that a cell reads and drives are the same in every list, if not their widths
reads_first : (xs ys : List PlainCell) (x : PlainCell) → map (λ p. p.0) (reads xs x) ≡ map (λ p. p.0) (reads ys x)
reads_first xs ys (write_tap bank enable addr word) = refl
reads_first xs ys (store_unit channel dram ready request last addr word) = refl
reads_first xs ys _ = refl

drives_first : (xs ys : List PlainCell) (x : PlainCell) → map (λ p. p.0) (drives xs x) ≡ map (λ p. p.0) (drives ys x)
drives_first xs ys (read_tap net bank enable addr) = refl
drives_first xs ys (load_unit channel dram ready net request last addr) = refl
drives_first xs ys _ = refl

part_feeds : (front part rest : List PlainCell) (a net : ℕ) → Feeds part a net → Feeds (front ++ part ++ rest) a net
part_feeds front part rest a net f = (
  f.0,
  Contains-append_left (front ++ part) rest f.0 (Contains-append_right front part f.0 f.1),
  f.2,
  subst (λ ns. Contains ns a) (reads_first part (front ++ part ++ rest) f.0) f.3,
  subst (λ ns. Contains ns net) (drives_first part (front ++ part ++ rest) f.0) f.4,
)

part_ranked : (front part rest : List PlainCell) → IsRanked (front ++ part ++ rest) → IsRanked part
part_ranked front part rest r = (r.0, λ a net f. r.1 a net (part_feeds front part rest a net f))

part_cell : (g : Setting) (s : Signals) (front part : List PlainCell) → RunsPart g s front part → (x : PlainCell) → Contains part x → (before : List PlainCell) × Obeys (alone g part) s before x
part_cell g s front part r x c = go (split_of part x c)
  where
    go : Split part x → (before : List PlainCell) × Obeys (alone g part) s before x
    go d = (front ++ d.before, r.cells d.before x d.after d.is)

others : (low high bank : ℕ) (cells : List PlainCell) → BanksWithin low high cells → (bank < low) ⊎ (high ≤ bank) → NoCell (names_bank bank) cells
others low high bank cells within out = ⊎_elim (λ e. absurd (impossible (within bank e) out)) (λ e. e) (cases_Bool (list_any (names_bank bank) cells))
  where
    impossible : (low ≤ bank) × (bank < high) → (bank < low) ⊎ (high ≤ bank) → ⊥
    impossible w (inl l) = omega arith
    impossible w (inr l) = omega arith

any-append : (test : PlainCell → Bool) (xs ys : List PlainCell) → list_any test (xs ++ ys) ≡ true → (list_any test xs ≡ true) ⊎ (list_any test ys ≡ true)
any-append test [] ys e = inr e
any-append test (x ∷ xs) ys e = go (or_cases (test x) (list_any test (xs ++ ys)) e) (any-append test xs ys)
  where
    go : (test x ≡ true) ⊎ (list_any test (xs ++ ys) ≡ true) → (list_any test (xs ++ ys) ≡ true → (list_any test xs ≡ true) ⊎ (list_any test ys ≡ true)) → (list_any test (x ∷ xs) ≡ true) ⊎ (list_any test ys ≡ true)
    go (inl k) rest = inl (or_left (test x) (list_any test xs) k)
    go (inr k) rest = ⊎_elim (λ j. inl (or_right (test x) (list_any test xs) j)) (λ j. inr j) (rest k)

both : (low middle high : ℕ) (front back : List PlainCell) → low ≤ middle → middle ≤ high → BanksWithin low middle front → BanksWithin middle high back → BanksWithin low high (front ++ back)
both low middle high front back l m w v bank e = ⊎_elim (λ k. in_front (w bank k)) (λ k. in_back (v bank k)) (any-append (names_bank bank) front back e)
  where
    in_front : (low ≤ bank) × (bank < middle) → (low ≤ bank) × (bank < high)
    in_front p = omega arith

    in_back : (middle ≤ bank) × (bank < high) → (low ≤ bank) × (bank < high)
    in_back p = omega arith

pub locality : Locality
locality = record {
  view = view;
  determined = determined;
  bank = part_bank;
  dram = part_dram;
  taps = part_taps;
  cell = part_cell;
  ranked = part_ranked;
  others = others;
  both = both;
}
