-- The checks of a setup's table, in their order: each gives the refusal that it finds, if it finds one.
use Rattle.std.specs.Prelude.{ℕ, ◌+◌, nat_lt, Bool, true, false, ◌&&◌, ◌||◌, if◌then◌else◌, ℤ, pos, int_le, unsigned_abs, List, [], ◌∷◌, map, codes, Option, Some, None, is_some, option_map, option_and_then}
use Rattle.std.specs.List.{list_any}
use Rattle.std.specs.Option.{unwrap_or}
use Rattle.std.specs.Str.{bytes_eq}
use Rattle.toml.specs.Data.{Data, Items, no_items, item, Members, no_members, member, get_member, as_integer, as_str, as_array, as_table}
use Rattle.sp_words.specs.Ports.{PlainPort, PlainPorts}
use Rattle.sp_setup.specs.declared.reading.Reading.{Reading}
use Rattle.sp_setup.specs.declared.reading.Reading.TheVariants.{Word, OutOfRange, NoNumber}
use Rattle.sp_setup.specs.Reading.{data_reading}
use Rattle.sp_setup.specs.Refusal.{Refusal, key, range, missing, path, first_refusal}

-- ---- keys

-- the first key, in the order of bytes, that isn't allowed with its value
unfoldable pub first_key : (List ℕ → Data → Bool) → Members → Option (List ℕ)
first_key allows no_members = None
first_key allows (member k d rest) = if allows k d then first_key allows rest else Some k

unfoldable pub are_integers : Items → Bool
are_integers no_items = true
are_integers (item d rest) = is_some (as_integer d) && are_integers rest

abbrev pub are_all_integers : Option Items → Bool
are_all_integers None = false
are_all_integers (Some items) = are_integers items

-- the keys of a setup, each with the kind of its value
abbrev pub allows_top : List ℕ → Data → Bool
allows_top k d =
    if bytes_eq k (codes "turns") || bytes_eq k (codes "cycles") then is_some (as_integer d)
    else if bytes_eq k (codes "delays") then are_all_integers (as_array d)
    else (bytes_eq k (codes "args") || bytes_eq k (codes "dram")) && is_some (as_table d)

abbrev pub is_port : List PlainPort → List ℕ → Bool
is_port ports k = list_any (λ port. bytes_eq port.name k) ports

-- in `args` the names of arguments, in `dram` the names of DRAMs with a text each
abbrev pub allows_arg : List PlainPort → List ℕ → Data → Bool
allows_arg ports k d = is_port ports k

abbrev pub allows_dram : List PlainPort → List ℕ → Data → Bool
allows_dram ports k d = is_port ports k && is_some (as_str d)

-- the table at a key; one that isn't there is empty
abbrev pub table_or_none : Option Members → Members
table_or_none None = no_members
table_or_none (Some members) = members

abbrev pub section : List ℕ → Members → Members
section k top = table_or_none (option_and_then as_table (get_member k top))

abbrev pub args_section : Members → Members
args_section top = section (codes "args") top

abbrev pub dram_section : Members → Members
dram_section top = section (codes "dram") top

-- ---- numbers

abbrev pub integer_at : List ℕ → Members → Option ℤ
integer_at k top = option_and_then as_integer (get_member k top)

-- a count is from 1 to `most`
abbrev pub count_check : List ℕ → ℤ → Option ℤ → Option Refusal
count_check name most None = None
count_check name most (Some z) = if int_le (pos 1) z && int_le z most then None else Some (range name 0)

-- where it isn't said, a count is 10,000,000
abbrev pub count_of : Option ℤ → ℕ
count_of None = 10000000
count_of (Some z) = unsigned_abs z

abbrev pub most_turns : ℤ
most_turns = pos 10000000

abbrev pub most_cycles : ℤ
most_cycles = pos 1000000000

-- there are at most 100,000 delays, each from 0 to 1,000,000
abbrev pub is_delay : Option ℤ → Bool
is_delay None = false
is_delay (Some z) = int_le (pos 0) z && int_le z (pos 1000000)

abbrev pub delay_of : Option ℤ → ℕ
delay_of None = 0
delay_of (Some z) = unsigned_abs z

-- a delay may stand at this place
abbrev pub is_next_delay : ℕ → Data → Bool
is_next_delay place d = nat_lt place 100000 && is_delay (as_integer d)

-- the first place, counted from this one, at which there is a delay too many or one out of range
unfoldable pub delay_fault : ℕ → Items → Option ℕ
delay_fault place no_items = None
delay_fault place (item d rest) =
    if is_next_delay place d then delay_fault (place + 1) rest else Some place

abbrev pub delays_check : Items → Option Refusal
delays_check items = option_map (range (codes "delays")) (delay_fault 0 items)

unfoldable pub delays_in : Items → List ℕ
delays_in no_items = []
delays_in (item d rest) = delay_of (as_integer d) ∷ delays_in rest

abbrev pub items_or_none : Option Items → Items
items_or_none None = no_items
items_or_none (Some items) = items

abbrev pub delay_items : Members → Items
delay_items top = items_or_none (option_and_then as_array (get_member (codes "delays") top))

-- ---- arguments

-- a value for a name must be a number that is in range
abbrev pub reading_check : List ℕ → Reading → Option Refusal
reading_check name (Word w) = None
reading_check name OutOfRange = Some (range name 0)
reading_check name NoNumber = Some (key name)

abbrev pub value_check : List ℕ → Option Reading → Option Refusal
value_check name None = Some (missing name)
value_check name (Some reading) = reading_check name reading

abbrev pub argument_reading : Members → PlainPort → Option Reading
argument_reading args port = option_map (data_reading port.ty) (get_member port.name args)

abbrev pub argument_check : Members → PlainPort → Option Refusal
argument_check args port = value_check (path (codes "args") port.name) (argument_reading args port)

abbrev pub word_of : Reading → ℕ
word_of (Word w) = w
word_of OutOfRange = 0
word_of NoNumber = 0

abbrev pub argument_word : Members → PlainPort → ℕ
argument_word args port = word_of (unwrap_or (argument_reading args port) NoNumber)

abbrev pub arguments_check : Members → List PlainPort → Option Refusal
arguments_check args ports = first_refusal (map (argument_check args) ports)

-- ---- in order

abbrev pub top_keys_check : Members → Option Refusal
top_keys_check top = option_map key (first_key allows_top top)

abbrev pub args_keys_check : List PlainPort → Members → Option Refusal
args_keys_check ports args = option_map (λ name. key (path (codes "args") name)) (first_key (allows_arg ports) args)

abbrev pub dram_keys_check : List PlainPort → Members → Option Refusal
dram_keys_check ports files = option_map (λ name. key (path (codes "dram") name)) (first_key (allows_dram ports) files)

unfoldable pub table_check : PlainPorts → Members → Option Refusal
table_check ports top = first_refusal (
    top_keys_check top
    ∷ count_check (codes "turns") most_turns (integer_at (codes "turns") top)
    ∷ count_check (codes "cycles") most_cycles (integer_at (codes "cycles") top)
    ∷ delays_check (delay_items top)
    ∷ args_keys_check ports.args (args_section top)
    ∷ arguments_check (args_section top) ports.args
    ∷ dram_keys_check ports.drams (dram_section top)
    ∷ [])
