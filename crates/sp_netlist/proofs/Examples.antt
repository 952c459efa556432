-- How the worked examples end.
use Rattle.std.proofs.Common.{◌≡◌, ◌∙◌, ℕ, List, [], ◌∷◌, false, IsTrue, get_or, refl, sym, arith, lit<, Contains, zero-le}
use Rattle.std.specs.List.{list_any}
use Rattle.std.specs.Str.{bytes_eq}
use Rattle.std.proofs.lemmas.Bool.{false≢true}
use Rattle.std.proofs.lemmas.List.Folds.{list_any_at}
use Rattle.std.proofs.lemmas.Slice.Eq.{bytes_eq-Decides}
use Rattle.std.proofs.lemmas.List.Elements.{All-from_recursion}
use Rattle.sp_words.specs.Names.{IsName, is_name, reserved_words}
use Rattle.sp_words.specs.Words.{word_add, word_and, word_eq, wrap, value_of, has_sign}
use Rattle.sp_words.specs.WholeNumbers.{modulo}
use Rattle.sp_netlist.specs.declared.cell.Port.TheVariants.{Read}
use Rattle.sp_netlist.specs.Rules.{IsNetlist, IsLength}
use Rattle.sp_netlist.specs.Examples.{ExampleEndings, add_three, two_reads, load_twenty, loading}
use Rattle.sp_netlist.proofs.CheckedCells.{netlist}
use Rattle.sp_netlist.proofs.Endings.{shares}
use Rattle.sp_netlist.proofs.Evaluate.{after, word_of}
use Rattle.sp_netlist.proofs.Ended.{done_at, conflict_at, fine, goes_on, no_share}

-- a name that is no word of the language
pub a_name : (name : List ℕ) → IsTrue (is_name name) → list_any (λ word. bytes_eq word name) reserved_words ≡ false → IsName name
a_name name letters none = record {
  letters = letters;
  free = λ (k, lt, same). absurd (false≢true (sym none ∙ list_any_at (λ word. bytes_eq word name) reserved_words k name lt ((bytes_eq-Decides (get_or reserved_words k name) name).1 same)));
}

no_name : (name : List ℕ) → Contains [] name → ⊥
no_name name c = absurd (omega (arith, c.1))

add_three_netlist : IsNetlist add_three
add_three_netlist = netlist (word_of ((2, 1) ∷ [])) add_three (record {
  right = ((a_name _ refl refl, no_name _), (omega arith, (tt, (omega arith, (omega arith, (omega arith, ((a_name _ refl refl, no_name _), (refl, tt))))))));
  one_done = refl;
  numbers = refl;
  driven_once = refl;
  read_driven = refl;
  ranked = refl;
})

two_reads_netlist : IsNetlist two_reads
two_reads_netlist = netlist (word_of []) two_reads (record {
  right = (omega arith, (omega arith, (omega arith, ((refl, omega arith, omega arith), (omega arith, (omega arith, (omega arith, (refl, tt))))))));
  one_done = refl;
  numbers = refl;
  driven_once = refl;
  read_driven = refl;
  ranked = refl;
})

load_twenty_netlist : IsNetlist load_twenty
load_twenty_netlist = netlist (word_of ((4, 1) ∷ (7, 1) ∷ (8, 2) ∷ [])) load_twenty (record {
  right = (
    (refl, a_name _ refl refl, no_name _, omega arith, omega arith, All-from_recursion IsLength (20 ∷ []) (omega arith, tt)),
    (omega arith, (omega arith, (omega arith, (tt, (omega arith, ((refl, omega arith), (tt, (tt, (omega arith, ((a_name _ refl refl, no_name _), (refl, tt))))))))))),
  );
  one_done = refl;
  numbers = refl;
  driven_once = refl;
  read_driven = refl;
  ranked = refl;
})

pub example_endings : ExampleEndings
unfolding after fine goes_on no_share shares word_add word_and word_eq wrap value_of has_sign modulo
example_endings = record {
  sum = done_at (record { cells = add_three; args = 4 ∷ []; drams = []; delays = [] }) add_three_netlist 1 1000 (omega arith) refl _ refl refl refl refl;
  clash = conflict_at (record { cells = two_reads; args = []; drams = []; delays = [] }) two_reads_netlist 1 1000 (omega arith) refl _ refl refl 0 Read
      (record { shared = lit< tt; least = λ p b x. zero-le; read_first = λ x. refl });
  no_delay = done_at (loading []) load_twenty_netlist 21 1000 (omega arith) refl _ refl refl refl refl;
  one_delay = done_at (loading (3 ∷ [])) load_twenty_netlist 24 1000 (omega arith) refl _ refl refl refl refl;
  two_delays = done_at (loading (3 ∷ 2 ∷ [])) load_twenty_netlist 26 1000 (omega arith) refl _ refl refl refl refl;
}
