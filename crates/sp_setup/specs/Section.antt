-- The tables of a setup, as the code names them: which keys they allow, and what checks them.
use Rattle.std.specs.Prelude.{◌≡◌, ℕ, Bool, List, [], map, codes, Option, option_map, String, string_bytes}
use Rattle.std.specs.declared.alloc.Global.{Global}
use Rattle.std.specs.List.{list_any}
use Rattle.std.specs.Str.{bytes_eq}
use Rattle.toml.specs.Data.{Data, Members}
use Rattle.sp_words.specs.Ports.{PlainPort, plain_port}
use Rattle.sp_setup.specs.declared.table.Section.{Section}
use Rattle.sp_setup.specs.declared.table.Section.TheVariants.{Top, Args, Dram}
use Rattle.sp_setup.specs.Refusal.{Refusal, path, key}
use Rattle.sp_setup.specs.Checks.{allows_top, allows_arg, allows_dram, first_key, is_port}

-- the ports that the keys of a table name
abbrev pub ports_of : Section → List PlainPort
ports_of Top = []
ports_of (Args ports) = map plain_port ports.now
ports_of (Dram ports) = map plain_port ports.now

-- these are the names of ports
abbrev pub HaveNames : List (String Global) → List PlainPort → Type 0
HaveNames names ports = (key : List ℕ) → list_any (λ name. bytes_eq key (string_bytes name)) names ≡ is_port ports key

abbrev pub allowed : Section → List ℕ → Data → Bool
allowed Top = allows_top
allowed (Args ports) = allows_arg (map plain_port ports.now)
allowed (Dram ports) = allows_dram (map plain_port ports.now)

abbrev pub section_path : Section → List ℕ → List ℕ
section_path Top name = name
section_path (Args ports) name = path (codes "args") name
section_path (Dram ports) name = path (codes "dram") name

abbrev pub key_check : Section → Members → Option Refusal
key_check section members = option_map (λ name. key (section_path section name)) (first_key (allowed section) members)
