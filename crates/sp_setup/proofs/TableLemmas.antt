-- A table's entries, one after another, and what is found among them.
use Rattle.std.proofs.Common.{◌≡◌, ℕ, ◌+◌, Bool, true, false, List, [], ◌∷◌, map, Option, Some, None, option_map, String, Global, Bor, BTreeMap, string_bytes, refl}
use Rattle.std.specs.Prelude.{is_some}
use Rattle.toml.specs.Data.{Data, Items, no_items, Members, no_members, as_integer}
use Rattle.toml.specs.View.{view, table_view, members_view, items_view}
use Rattle.toml.specs.declared.value.Value.{Value}
use Rattle.sp_words.specs.declared.interface.PortDecl.{PortDecl}
use Rattle.sp_words.specs.Ports.{plain_port}
use Rattle.sp_setup.specs.Refusal.{Refusal, otherwise, first_refusal, IsRefusal}
use Rattle.sp_setup.specs.Checks.{table_or_none, first_key, are_integers, is_next_delay, delay_of, delay_fault, delays_check, delays_in, argument_check, arguments_check}
use Rattle.sp_setup.specs.Table.{option_table}
use Rattle.sp_setup.specs.declared.error.SetupEnd.{SetupEnd}
use Rattle.sp_setup.specs.declared.error.SetupEnd.TheVariants.{Refused, ReadFault, TooLong, Memory}

abbrev pub Entry : Type 0
Entry = String Global × Value

-- the first key that isn't allowed, one entry further
pub first_key-pass : (allows : List ℕ → Data → Bool) (es rest : List Entry) (k : String Global) (v : Value) → es ≡ (k, v) ∷ rest → allows (string_bytes k) (view v) ≡ true
    → first_key allows (members_view es) ≡ first_key allows (members_view rest)
unfolding first_key
first_key-pass allows es rest k v e h = rw (e, h)

pub first_key-stop : (allows : List ℕ → Data → Bool) (es rest : List Entry) (k : String Global) (v : Value) → es ≡ (k, v) ∷ rest → allows (string_bytes k) (view v) ≡ false
    → first_key allows (members_view es) ≡ Some (string_bytes k)
unfolding first_key
first_key-stop allows es rest k v e h = rw (e, h)

pub first_key-end : (allows : List ℕ → Data → Bool) (es : List Entry) → es ≡ [] → first_key allows (members_view es) ≡ None
unfolding first_key
first_key-end allows es e = rw e

pub first_key-nothing : (allows : List ℕ → Data → Bool) → first_key allows no_members ≡ None
unfolding first_key
first_key-nothing allows = refl

pub option_table-map : (table : Option (Bor (BTreeMap (String Global) Value))) → option_table table ≡ table_or_none (option_map (λ m. table_view m.now) table)
option_table-map None = refl
option_table-map (Some table) = refl

-- ---- refusals

-- the first check that refuses
pub refused-here : (check : Option Refusal) (rest : List (Option Refusal)) (end : SetupEnd) → IsRefusal check end → IsRefusal (first_refusal (check ∷ rest)) end
unfolding first_refusal
refused-here None rest (Refused e) is = cc
refused-here None rest ReadFault is = absurd is
refused-here None rest (TooLong name) is = absurd is
refused-here None rest Memory is = tt
refused-here (Some r) rest end is = is

pub refused-later : (check : Option Refusal) (rest : List (Option Refusal)) (end : SetupEnd) → check ≡ None → IsRefusal (first_refusal rest) end → IsRefusal (first_refusal (check ∷ rest)) end
unfolding first_refusal
refused-later None rest end e is = is
refused-later (Some r) rest end e is = cc

pub passed-more : (check : Option Refusal) (rest : List (Option Refusal)) → check ≡ None → first_refusal rest ≡ None → first_refusal (check ∷ rest) ≡ None
unfolding first_refusal
passed-more None rest e is = is
passed-more (Some r) rest e is = cc

pub passed-all : first_refusal [] ≡ None
unfolding first_refusal
passed-all = refl

-- ---- lists of integers

pub are_integers-stop : (items rest : List Value) (v : Value) → items ≡ v ∷ rest → is_some (as_integer (view v)) ≡ false → are_integers (items_view items) ≡ false
unfolding are_integers
are_integers-stop items rest v e h = rw (e, h)

pub are_integers-pass : (items rest : List Value) (v : Value) → items ≡ v ∷ rest → is_some (as_integer (view v)) ≡ true → are_integers (items_view items) ≡ are_integers (items_view rest)
unfolding are_integers
are_integers-pass items rest v e h = rw (e, h)

pub are_integers-end : (items : List Value) → items ≡ [] → are_integers (items_view items) ≡ true
unfolding are_integers
are_integers-end items e = rw e

pub delay_fault-stop : (place : ℕ) (items rest : List Value) (v : Value) → items ≡ v ∷ rest → is_next_delay place (view v) ≡ false → delay_fault place (items_view items) ≡ Some place
unfolding delay_fault
delay_fault-stop place items rest v e h = rw (e, h)

pub delay_fault-pass : (place : ℕ) (items rest : List Value) (v : Value) → items ≡ v ∷ rest → is_next_delay place (view v) ≡ true
    → delay_fault place (items_view items) ≡ delay_fault (place + 1) (items_view rest)
unfolding delay_fault
delay_fault-pass place items rest v e h = rw (e, h)

pub delay_fault-end : (place : ℕ) (items : List Value) → items ≡ [] → delay_fault place (items_view items) ≡ None
unfolding delay_fault
delay_fault-end place items e = rw e

pub delays_in-turn : (items rest : List Value) (v : Value) → items ≡ v ∷ rest → delays_in (items_view items) ≡ delay_of (as_integer (view v)) ∷ delays_in (items_view rest)
unfolding delays_in
delays_in-turn items rest v e = rw e

pub delays_in-end : (items : List Value) → items ≡ [] → delays_in (items_view items) ≡ []
unfolding delays_in
delays_in-end items e = rw e

pub delays-none : (items : Items) (numbers : List ℕ) → no_items ≡ items → numbers ≡ [] → (delays_check items ≡ None) × (numbers ≡ delays_in items)
unfolding delay_fault delays_in
delays-none items numbers e none = rw (← e) (refl, none)

-- ---- arguments

pub arguments_check-turn : (args : Members) (ports rest : List PortDecl) (port : PortDecl) → ports ≡ port ∷ rest
    → arguments_check args (map plain_port ports) ≡ otherwise (argument_check args (plain_port port)) (arguments_check args (map plain_port rest))
unfolding first_refusal
arguments_check-turn args ports rest port e = rw e

pub arguments_check-end : (args : Members) (ports : List PortDecl) → ports ≡ [] → arguments_check args (map plain_port ports) ≡ None
unfolding first_refusal
arguments_check-end args ports e = rw e
