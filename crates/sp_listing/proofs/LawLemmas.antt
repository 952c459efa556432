-- Laws of listings.
use Rattle.std.proofs.Common.{◌≡◌, ℕ, List, [], ◌∷◌, ◌++◌, map, All, refl, sym, ◌∙◌, ap}
use Rattle.std.proofs.lemmas.List.Elements.{All-head, All-tail}
use Rattle.sp_netlist.specs.Cells.{PlainCell}
use Rattle.sp_listing.specs.declared.kind.Kind.{Kind}
use Rattle.sp_listing.specs.declared.kind.Kind.TheVariants.{In, Out, Done, Const, Op, Not, Shift, Cast, Mux, Reg, Bank, Read, Write, Dram, Load, Store}
use Rattle.sp_listing.specs.Text.{cell_text, joined, listing_text}
use Rattle.sp_listing.specs.Reading.{IsFormed, pieces, heading}
use Rattle.sp_listing.specs.Readers.{kind_text, kind_in}
use Rattle.sp_listing.proofs.KindLemmas.{words_begin}
use Rattle.sp_listing.proofs.LineLemmas.{same_text}
use Rattle.sp_listing.proofs.ListingLemmas.{lines_of_listing}

kind_some : (kind : Kind) (rest : List ℕ) → kind_text kind ++ rest ≡ [] → ⊥
kind_some In rest e = absurd cc
kind_some Out rest e = absurd cc
kind_some Done rest e = absurd cc
kind_some Const rest e = absurd cc
kind_some Op rest e = absurd cc
kind_some Not rest e = absurd cc
kind_some Shift rest e = absurd cc
kind_some Cast rest e = absurd cc
kind_some Mux rest e = absurd cc
kind_some Reg rest e = absurd cc
kind_some Bank rest e = absurd cc
kind_some Read rest e = absurd cc
kind_some Write rest e = absurd cc
kind_some Dram rest e = absurd cc
kind_some Load rest e = absurd cc
kind_some Store rest e = absurd cc

-- the line of a cell isn't empty
pub text_some : (cell : PlainCell) → cell_text cell ≡ [] → ⊥
text_some cell e = kind_some (kind_in cell) _ (sym (ap joined (words_begin cell)) ∙ e)

same_lines : (cells others : List PlainCell) → All IsFormed cells → All IsFormed others → map cell_text cells ++ [] ∷ [] ≡ map cell_text others ++ [] ∷ [] → cells ≡ others
same_lines [] [] f g e = refl
same_lines [] (o ∷ others) f g e = let h : cell_text o ≡ [] = cc in absurd (text_some o h)
same_lines (c ∷ cells) [] f g e = let h : cell_text c ≡ [] = cc in absurd (text_some c h)
same_lines (c ∷ cells) (o ∷ others) f g e =
    let first : cell_text c ≡ cell_text o = cc in
    let rest : map cell_text cells ++ [] ∷ [] ≡ map cell_text others ++ [] ∷ [] = cc in
    let head : c ≡ o = same_text c o (All-head IsFormed c cells f) (All-head IsFormed o others g) first in
    let tail : cells ≡ others = same_lines cells others (All-tail IsFormed c cells f) (All-tail IsFormed o others g) rest in
    cc

pub one_reading : (cells others : List PlainCell) → All IsFormed cells → All IsFormed others → listing_text cells ≡ listing_text others → cells ≡ others
one_reading cells others f g e =
    let lines : heading ∷ (map cell_text cells ++ [] ∷ []) ≡ heading ∷ (map cell_text others ++ [] ∷ []) = sym (lines_of_listing cells f) ∙ ap pieces e ∙ lines_of_listing others g in
    let rest : map cell_text cells ++ [] ∷ [] ≡ map cell_text others ++ [] ∷ [] = cc in
    same_lines cells others f g rest
