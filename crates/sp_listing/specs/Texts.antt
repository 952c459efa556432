-- What the refusal of a text is printed as.
use Rattle.std.specs.Prelude.{ℕ, List, ◌++◌, codes, decimal}
use Rattle.sp_netlist.specs.Texts.{error_text}
use Rattle.sp_listing.specs.declared.error.ListError.{ListError}
use Rattle.sp_listing.specs.declared.error.ListError.TheVariants.{NoListing, Net, Memory}

abbrev pub list_error_text : ListError → List ℕ
list_error_text (NoListing line) = codes "no listing at line " ++ decimal line
list_error_text (Net fault) = error_text fault
list_error_text Memory = codes "out of memory"
