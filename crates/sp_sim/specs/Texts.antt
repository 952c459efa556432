-- What the refusal of an input is printed as.
use Rattle.std.specs.Prelude.{ℕ, List, ◌++◌, codes, decimal}
use Rattle.sp_sim.specs.declared.end.SimLoad.{SimLoad}
use Rattle.sp_sim.specs.declared.end.SimLoad.TheVariants.{InputShape, Memory}

abbrev pub load_text : SimLoad → List ℕ
load_text (InputShape which) = codes "the input does not fit port " ++ decimal which
load_text Memory = codes "out of memory"
