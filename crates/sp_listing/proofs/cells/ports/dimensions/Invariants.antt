use Rattle.std.proofs.Common.{◌≡◌, take, map, decimal, All}
use Rattle.sp_netlist.specs.Rules.{IsLength}
use Rattle.sp_listing.specs.Readers.{texts}
use Rattle.sp_listing.proofs.cells.ports.dimensions.Given as goal

abbrev pub invariant-loop-word : goal.invariant-loop-word
invariant-loop-word l = record {
  read : texts (take l.word-index l.words) ≡ map decimal l.dims.items;
  lengths : All IsLength l.dims.items;
}
