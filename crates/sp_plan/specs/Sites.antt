-- Sites as plain values.
use Rattle.std.specs.Prelude.{Option, option_map}
use Rattle.sp_core.specs.Plain.{plain_node}
use Rattle.sp_plan.specs.declared.site.Site.{Site}
use Rattle.sp_plan.specs.Nodes as plain

abbrev pub plain_site : Option Site → Option plain.Site
plain_site site = option_map (λ s. record { number = s.number; streamed = s.streamed; node = plain_node s.node.now }) site
