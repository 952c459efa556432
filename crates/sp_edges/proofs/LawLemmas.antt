-- Beginnings of lists, and cuts of texts into pieces.
use Rattle.std.proofs.Common.{◌≡◌, ℕ, List, [], ◌∷◌, ◌++◌, length, take, drop, flat_map, refl, sym, ap, ◌∙◌, arith, length-append}
use Rattle.std.proofs.lemmas.List.{take-append-drop}
use Rattle.sp_edges.specs.Pieces.{ArePieces}

pub front_rest : (all bytes : List ℕ) → bytes ≡ take (length bytes) all → (rest : List ℕ) × (all ≡ bytes ++ rest)
front_rest all bytes front = (drop (length bytes) all, sym (take-append-drop (length bytes) all) ∙ ap (λ xs. xs ++ drop (length bytes) all) (sym front))

pub take-front : (bytes rest : List ℕ) → bytes ≡ take (length bytes) (bytes ++ rest)
take-front [] rest = refl
take-front (b ∷ bytes) rest = ap (λ xs. b ∷ xs) (take-front bytes rest)

pub pieces_joined : (text : List ℕ) (pieces : List (List ℕ)) → ArePieces text pieces → flat_map (λ (piece : List ℕ). piece) pieces ≡ text
pieces_joined text [] cut = cut
pieces_joined text (piece ∷ pieces) cut = ap (λ xs. piece ++ xs) (pieces_joined cut.0 pieces cut.2) ∙ sym cut.1.parts

-- two fronts of one length are one
same_front : (a b c d : List ℕ) → length a ≡ length b → a ++ c ≡ b ++ d → (a ≡ b) × (c ≡ d)
same_front [] [] c d same e = (refl, e)
same_front [] (y ∷ b) c d same e = absurd (omega arith)
same_front (x ∷ a) [] c d same e = absurd (omega arith)
same_front (x ∷ a) (y ∷ b) c d same e =
    let tails : a ++ c ≡ b ++ d = cc in
    let heads : x ≡ y = cc in
    let rest = same_front a b c d (omega (arith, same)) tails in
    let first = rest.0 in (cc, rest.1)

pub one_cut : (text : List ℕ) (pieces others : List (List ℕ)) → ArePieces text pieces → ArePieces text others → pieces ≡ others
one_cut text [] [] first second = refl
one_cut text [] (piece ∷ others) first second =
    let none = ap length second.1.parts in
    absurd (omega (arith, none, ap length first, length-append piece second.0, second.1.some))
one_cut text (piece ∷ pieces) [] first second =
    let none = ap length first.1.parts in
    absurd (omega (arith, none, ap length second, length-append piece first.0, first.1.some))
one_cut text (piece ∷ pieces) (other ∷ others) first second =
    let same = same_front piece other first.0 second.0 (first.1.long ∙ sym second.1.long) (sym first.1.parts ∙ second.1.parts) in
    let rest = one_cut first.0 pieces others first.2 (rw same.1 second.2) in
    let head = same.0 in
    cc
