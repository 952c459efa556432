-- The words of a DRAM in a run of a netlist, and after units that store.
use Rattle.std.proofs.Common.{◌≡◌, ℕ, ◌==◌, ◌&&◌, Bool, true, false, if◌then◌else◌, nat_lt, List, [], ◌∷◌, ◌++◌, inl, inr, refl, sym, ap, ◌∙◌}
use Rattle.std.specs.List.{Contains}
use Rattle.std.proofs.lemmas.Bool.{cond-true, lt-ltb, true≢false}
use Rattle.sp_words.specs.Interface.{word_count}
use Rattle.sp_netlist.specs.Cells.{PlainCell, dram_cell, store_unit}
use Rattle.sp_netlist.specs.Signals.{dram_after}
use Rattle.sp_memory_words.proofs.Finding.{none_there, there, here, first_or_later}
use Rattle.sp_dram_words.specs.Units.{StoreNets, StoreUnit, nets_of, units_in, word_after, DramsRun, UnitsJoin}

-- other cells leave a DRAM as it is
left : (r : ℕ) (cells : List PlainCell) (words : ℕ → ℕ) (i old : ℕ) → dram_after cells words r i old ≡ word_after (units_in r cells) words i old
left r [] words i old = refl
left r (store_unit channel into ready request last at word ∷ cells) words i old = by (into == r) (λ was. left r cells words i was)
  where
    by : (b : Bool) → ((was : ℕ) → dram_after cells words r i was ≡ word_after (units_in r cells) words i was)
        → dram_after cells words r i (if b && ((words ready == 1) && (words at == i)) then words word else old) ≡ word_after (if b then record { ready = ready; address = at; word = word } ∷ units_in r cells else units_in r cells) words i old
    by true rest = rest (if (words ready == 1) && (words at == i) then words word else old)
    by false rest = rest old
left r (x ∷ cells) words i old = left r cells words i old

pub drams_run : DramsRun
drams_run g s run before after r name ty dims e units same = record {
  begins = λ i l. (run.cells before (dram_cell r name ty dims) after e).0 i;
  goes = λ t i l.
      (run.cells before (dram_cell r name ty dims) after e).1 t i ∙ cond-true (nat_lt i (word_count dims)) (dram_after g.cells (s.net t) r i (s.dram t r i)) 0 (lt-ltb i (word_count dims) l)
      ∙ left r g.cells (s.net t) i (s.dram t r i) ∙ ap (λ us. word_after us (s.net t) i (s.dram t r i)) (sym same);
}

pub units_join : UnitsJoin
units_join r [] more = refl
units_join r (store_unit channel into ready request last at word ∷ cells) more = by (into == r) (units_join r cells more)
  where
    by : (b : Bool) → units_in r (cells ++ more) ≡ units_in r cells ++ units_in r more
        → (if b then record { ready = ready; address = at; word = word } ∷ units_in r (cells ++ more) else units_in r (cells ++ more)) ≡ (if b then record { ready = ready; address = at; word = word } ∷ units_in r cells else units_in r cells) ++ units_in r more
    by true rest = ap (λ (us : List StoreNets). record { ready = ready; address = at; word = word } ∷ us) rest
    by false rest = rest
units_join r (x ∷ cells) more = units_join r cells more

either : (P : ℕ → Type 0) (b : Bool) (x y : ℕ) → (b ≡ true → P x) → (b ≡ false → P y) → P (if b then x else y)
either P true x y f g = f refl
either P false x y f g = g refl

module _ (words : ℕ → ℕ) (i : ℕ) where
  -- whether a unit stores to an element
  abbrev pub stores : StoreNets → Bool
  stores u = (words u.ready == 1) && (words u.address == i)

  -- where all units that store to it store one word, it has that word if it had it before, or if one of them stores to it
  pub word_stays : (v : ℕ) (us : List StoreUnit) (old : ℕ) → ((u : StoreUnit) → Contains us u → stores u.nets ≡ true → words u.nets.word ≡ v) → old ≡ v → word_after (nets_of us) words i old ≡ v
  word_stays v [] old all e = e
  word_stays v (u ∷ us) old all e =
      word_stays v us _ (λ x k h. all x (there u x us k) h) (either (λ n. n ≡ v) (stores u.nets) (words u.nets.word) old (λ h. all u (here u u us refl) h) (λ h. e))

  pub word_becomes : (v : ℕ) (us : List StoreUnit) (old : ℕ) → ((u : StoreUnit) → Contains us u → stores u.nets ≡ true → words u.nets.word ≡ v) → (u : StoreUnit) → Contains us u → stores u.nets ≡ true → word_after (nets_of us) words i old ≡ v
  word_becomes v [] old all u k h = absurd (none_there u k)
  word_becomes v (x ∷ us) old all u k h = elim (first_or_later x u us k) [
    | inl e ↦
        word_stays v us _ (λ y j on. all y (there x y us j) on)
        (either (λ n. n ≡ v) (stores x.nets) (words x.nets.word) old (λ on. all x (here x x us refl) on) (λ off. absurd (true≢false (sym h ∙ sym (ap (λ (y : StoreUnit). stores y.nets) e) ∙ off))))
    | inr j ↦ word_becomes v us _ (λ y l on. all y (there x y us l) on) u j h
  ]
