use Rattle.std.proofs.Common.{◌≡◌, Some, None, string_bytes, refl}
use Rattle.toml.specs.Data.{get_member}
use Rattle.toml.specs.View.{view}
use Rattle.sp_setup.specs.Table.{option_table}
use Rattle.sp_setup.proofs.drams.file_name.Goals as goal

pub returns-in-Some : goal.returns-in-Some
returns-in-Some c =
    let found : Some (view c.in-Some.value.now) ≡ get_member (string_bytes c.args.port.now.name) (option_table c.args.files) = cc (c.in-Some.ensures, c.as_str.ensures.value) in
    rw (← found) c.as_str-in-Some.ensures

pub returns-in-None : goal.returns-in-None
returns-in-None c =
    let found : None ≡ get_member (string_bytes c.args.port.now.name) (option_table c.args.files) = cc (c.in-None.ensures, c.as_str.ensures.value) in
    rw (← found) refl
