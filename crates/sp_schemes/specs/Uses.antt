-- Accesses as plain values.
use Rattle.std.specs.Prelude.{List, map, option_map}
use Rattle.sp_schemes.specs.declared.accesses.Use.{Use}
use Rattle.sp_schemes.specs.Accesses.{PlainUse}

abbrev pub plain_use : Use → PlainUse
plain_use u = record { reads = u.reads; forms = option_map (λ f. f.now) u.forms }

abbrev pub plain_uses : List Use → List PlainUse
plain_uses uses = map plain_use uses
