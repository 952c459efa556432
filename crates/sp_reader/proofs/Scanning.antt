-- One piece of a text after the other.
use Rattle.std.proofs.Common.{◌≡◌, ℕ, zero, suc, ◌+◌, ◌-◌, ◌≤◌, Bool, List, [], ◌∷◌, ◌++◌, length, drop, refl, sym, ap, ◌∙◌, append_assoc, arith}
use Rattle.std.proofs.lemmas.List.{append-nil}
use Rattle.sp_reader.specs.declared.scan.Scanned.{Scanned}
use Rattle.sp_reader.specs.Tokens.{front, len_of, tokens_of_piece, breaks_after, scan_from}

pub goes_on : (total found : List Scanned) (n at : ℕ) (breaks : Bool) (rest : List ℕ) → 1 ≤ length rest → total ≡ found ++ scan_from (suc n) at breaks rest
    → total ≡ (found ++ tokens_of_piece (front rest) at breaks rest) ++ scan_from n (at + len_of (front rest) rest) (breaks_after (front rest) breaks rest) (drop (len_of (front rest) rest) rest)
unfolding scan_from
goes_on total found n at breaks [] some e = absurd (omega arith)
goes_on total found n at breaks (b ∷ z) some e = e ∙ sym (append_assoc found (tokens_of_piece (front (b ∷ z)) at breaks (b ∷ z)) _)

pub is_done : (total found : List Scanned) (n at : ℕ) (breaks : Bool) (rest : List ℕ) → length rest ≡ 0 → total ≡ found ++ scan_from n at breaks rest → total ≡ found
unfolding scan_from
is_done total found zero at breaks rest none e = e ∙ append-nil found
is_done total found (suc n) at breaks [] none e = e ∙ append-nil found
is_done total found (suc n) at breaks (b ∷ z) none e = absurd (omega arith)

pub runs_out : (total found : List Scanned) (at : ℕ) (breaks : Bool) (rest : List ℕ) → total ≡ found ++ scan_from 0 at breaks rest → total ≡ found
unfolding scan_from
runs_out total found at breaks rest e = e ∙ append-nil found
