-- Where values are found, as a list by their numbers; what no entry stands for is the word 0.
use Rattle.std.specs.Prelude.{List, slice_index_or}
use Rattle.sp_sugar.specs.Values as plain
use Rattle.sp_operations.specs.declared.sources.Source.{Source}
use Rattle.sp_operations.specs.declared.sources.Source.TheVariants.{AtPlace, InRegister, Constant, Count}

abbrev pub plain_source : Source → plain.Source
plain_source (AtPlace k) = plain.at_place k
plain_source (InRegister r) = plain.in_register r
plain_source (Constant w) = plain.constant w
plain_source (Count c) = plain.count c

unfoldable pub sources_of : List Source → plain.Sources
sources_of all v = plain_source (slice_index_or all v (Constant 0))
