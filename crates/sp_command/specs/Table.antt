-- The table as the parser of command lines sees it: a verb and a name, which have to be there, and perhaps a second name;
-- no help and no version.
use Rattle.std.specs.Prelude.{true, codes}
use Rattle.clap.specs.Words.{App, Rule, new_app, new_rule, with_rule}

abbrev pub required : Rule → Rule
required rule = record rule { required = true }

abbrev pub bare : App
bare = let app = new_app (codes "spatialc") in record app {
  top = record app.top { no_binary_name = true; disable_help_flag = true; disable_version_flag = true };
}

abbrev pub table : App
table = with_rule (with_rule (with_rule bare (required (new_rule (codes "verb")))) (required (new_rule (codes "first")))) (new_rule (codes "second"))
