-- Why a text is refused, from why its lines or its cells are.
use Rattle.std.proofs.Common.{◌≡◌, List, ℕ, sym, subst}
use Rattle.sp_netlist.specs.declared.error.NetError.{NetError}
use Rattle.sp_netlist.specs.declared.error.NetError.TheVariants as net
use Rattle.sp_netlist.specs.Cells.{PlainCell}
use Rattle.sp_netlist.specs.Refusals.{Refuses}
use Rattle.sp_listing.specs.declared.error.ListError.{ListError}
use Rattle.sp_listing.specs.declared.error.ListError.TheVariants.{NoListing, Net, Memory}
use Rattle.sp_listing.specs.Reading.{IsListing, pieces}
use Rattle.sp_listing.specs.Refusal.{RefusesText, RefusesLines, refusal_of}

pub lines_refused : (text : List ℕ) (e : ListError) → RefusesLines (pieces text) e → RefusesText text e
lines_refused text (NoListing line) h = h
lines_refused text (Net fault) h = absurd h
lines_refused text Memory h = tt

of_fault : (text : List ℕ) (cells : List PlainCell) (fault : NetError) → IsListing text cells → Refuses cells fault → RefusesText text (refusal_of fault)
of_fault text cells net.Memory listing h = tt
of_fault text cells (net.Driven n) listing h = (cells, listing, h, λ e. absurd cc)
of_fault text cells (net.Width n) listing h = (cells, listing, h, λ e. absurd cc)
of_fault text cells (net.Loop n) listing h = (cells, listing, h, λ e. absurd cc)
of_fault text cells (net.NetLimit n) listing h = (cells, listing, h, λ e. absurd cc)

pub cells_refused : (text : List ℕ) (cells : List PlainCell) (fault : NetError) (e : ListError) → IsListing text cells → Refuses cells fault → e ≡ refusal_of fault → RefusesText text e
cells_refused text cells fault e listing h same = subst (λ r. RefusesText text r) (sym same) (of_fault text cells fault listing h)
