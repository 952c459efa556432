-- What the refusal of a list of cells is printed as.
use Rattle.std.specs.Prelude.{ℕ, List, ◌++◌, codes, decimal}
use Rattle.sp_netlist.specs.declared.error.NetError.{NetError}
use Rattle.sp_netlist.specs.declared.error.NetError.TheVariants.{Driven, Width, Loop, NetLimit, Memory}

abbrev pub error_text : NetError → List ℕ
error_text (Driven net) = codes "net " ++ (decimal net ++ codes " is not driven once")
error_text (Width net) = codes "width of net " ++ decimal net
error_text (Loop net) = codes "loop through net " ++ decimal net
error_text (NetLimit count) = codes "limit " ++ decimal count
error_text Memory = codes "out of memory"
