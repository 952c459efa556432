-- Laws of the stream blocks of cores, as statements.
use Rattle.std.specs.Prelude.{◌≡◌, ℕ, Bool, true, false, Option, Some, None}
use Rattle.sp_core.specs.Declarations.{is_stream}
use Rattle.sp_core.specs.PlainCore.{PlainNode, outer, PlainCore}
use Rattle.sp_plan.specs.Nodes.{Site, site_at}
use Rattle.sp_stream.specs.Proper.{is_proper}

-- a node that is a stream block: its stages are to run at once
abbrev pub is_stream_block : PlainNode → Bool
is_stream_block (outer counters style owned stages) = is_stream style
is_stream_block node = false

abbrev pub is_stream_site : Option Site → Bool
is_stream_site None = false
is_stream_site (Some site) = is_stream_block site.node

-- each node of a core that is a stream block is a proper one
abbrev pub AreStreamsProper : PlainCore → Type 0
AreStreamsProper core = (node : ℕ) → is_stream_site (site_at node 0 false core.root) ≡ true → is_proper core node ≡ true
