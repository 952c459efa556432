-- What a refusal is displayed as.
use Rattle.std.specs.Prelude.{ℕ, List, ◌++◌, codes, decimal, string_bytes}
use Rattle.sp_setup.specs.Refusal.{Refusal, no_toml, key, range, missing, csv, size, plain_error}
use Rattle.sp_setup.specs.declared.error.SetupEnd.{SetupEnd}
use Rattle.sp_setup.specs.declared.error.SetupEnd.TheVariants as end
use Rattle.sp_setup.specs.declared.error.SetupError.{SetupError}

abbrev pub refusal_text : Refusal → List ℕ
refusal_text no_toml = codes "no toml"
refusal_text (key name) = codes "key " ++ name
refusal_text (range name place) = codes "range " ++ (name ++ (codes " at " ++ decimal place))
refusal_text (missing name) = codes "missing " ++ name
refusal_text (csv name row) = codes "csv " ++ (name ++ (codes " row " ++ decimal row))
refusal_text (size name want got) = codes "size " ++ (name ++ (codes ", want " ++ (decimal want ++ (codes ", got " ++ decimal got))))

abbrev pub error_text : SetupError → List ℕ
error_text e = refusal_text (plain_error e)

-- and what it is where no setup was read
abbrev pub end_text : SetupEnd → List ℕ
end_text (end.Refused e) = error_text e
end_text end.ReadFault = codes "read fault"
end_text (end.TooLong name) = codes "too long: " ++ string_bytes name
end_text end.Memory = codes "out of memory"
