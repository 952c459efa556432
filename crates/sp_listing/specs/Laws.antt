-- Laws of listings.
use Rattle.std.specs.Prelude.{◌≡◌, ℕ, List, All}
use Rattle.sp_netlist.specs.Cells.{PlainCell}
use Rattle.sp_netlist.specs.Rules.{IsNetlist}
use Rattle.sp_netlist.specs.Refusals.{IsWithinLimits}
use Rattle.sp_listing.specs.declared.error.ListError.{ListError}
use Rattle.sp_listing.specs.declared.error.ListError.TheVariants.{Memory}
use Rattle.sp_listing.specs.Refusal.{RefusesText}
use Rattle.sp_listing.specs.Text.{listing_text}
use Rattle.sp_listing.specs.Reading.{IsFormed, IsListing, BreaksAt, pieces}

-- a text is the listing of at most one list of formed cells
abbrev pub HasOneReading : Type 0
HasOneReading = (cells others : List PlainCell) → All IsFormed cells → All IsFormed others → listing_text cells ≡ listing_text others → cells ≡ others

-- a listing breaks no rule
abbrev pub BreaksNowhere : Type 0
BreaksNowhere = (text : List ℕ) (line : ℕ) (cells : List PlainCell) → IsListing text cells → BreaksAt (pieces text) line → ⊥

-- a text breaks the rules at most at one line
abbrev pub BreaksAtOneLine : Type 0
BreaksAtOneLine = (lines : List (List ℕ)) (line other : ℕ) → BreaksAt lines line → BreaksAt lines other → line ≡ other

-- what is written of a netlist within the limits is its listing, so it is read as that netlist, as no other one, and
-- refused for want of memory alone; and a text that is read is what is written of its netlist
pub record ReadsBack : Type 0 where
  pub listed : (cells : List PlainCell) → IsNetlist cells → IsWithinLimits cells → IsListing (listing_text cells) cells
  pub no_other : (cells others : List PlainCell) → IsNetlist cells → IsWithinLimits cells → IsListing (listing_text cells) others → others ≡ cells
  pub not_refused : (cells : List PlainCell) (error : ListError) → IsNetlist cells → IsWithinLimits cells → RefusesText (listing_text cells) error → error ≡ Memory
  pub written : (text : List ℕ) (cells : List PlainCell) → IsListing text cells → text ≡ listing_text cells
