-- The settings that a table gives where all its checks pass.
use Rattle.std.specs.Prelude.{◌≡◌, map, codes, None}
use Rattle.toml.specs.Data.{Members}
use Rattle.sp_words.specs.Ports.{PlainPorts}
use Rattle.sp_setup.specs.declared.settings.Settings.{Settings}
use Rattle.sp_setup.specs.Checks.{table_check, integer_at, count_of, delay_items, delays_in, args_section, argument_word}

pub record AreSettings (ports : PlainPorts) (top : Members) (settings : Settings) : Type 0 where
  pub passes : table_check ports top ≡ None
  pub turns : settings.turns ≡ count_of (integer_at (codes "turns") top)
  pub cycles : settings.cycles ≡ count_of (integer_at (codes "cycles") top)
  pub delays : settings.delays.items ≡ delays_in (delay_items top)
  pub args : settings.args.items ≡ map (argument_word (args_section top)) ports.args
